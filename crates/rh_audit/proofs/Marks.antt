-- the legs of a chain up to the first whose mark was not seen
use Rattle.std.proofs.Common.{◌≡◌, ℕ, zero, suc, ◌<◌, ◌≤◌, List, [], ◌∷◌, ◌++◌, length, take, drop, Bool, true, false, refl, sym, ap, ◌∙◌, arith}
use Rattle.std.specs.Prelude.{if◌then◌else◌, slice_index_or}
use Rattle.std.proofs.lemmas.List.{append-nil, append_assoc, drop_all, take_all}
use Rattle.rh_audit.specs.declared.link.Link.{Link}
use Rattle.rh_audit.specs.Chains.{joined}
use Rattle.rh_audit.specs.Links.{leg_of, legs_of}
use Rattle.rh_audit.specs.Walks.{all_pdus}

abbrev pdus_of : Link → List (List ℕ)
pdus_of link = (leg_of link).pdus

pdus_more : (i : ℕ) (links : List Link) (d : Link) → i < length links
    → all_pdus (legs_of (take (suc i) links))
    ≡ all_pdus (legs_of (take i links)) ++ pdus_of (slice_index_or links i d)
pdus_more i [] d h = absurd (omega (arith, h))
pdus_more zero (link ∷ links) d h = append-nil (pdus_of link)
pdus_more (suc i) (link ∷ links) d h =
    ap (λ x. pdus_of link ++ x) (pdus_more i links d (omega (arith, h)))
    ∙ sym (append_assoc (pdus_of link) (all_pdus (legs_of (take i links)))
    (pdus_of (slice_index_or links i d)))

joined_at : (i : ℕ) (links : List Link) (d : Link) → i < length links
    → joined (legs_of (drop i links))
    ≡ pdus_of (slice_index_or links i d)
    ++ (if (slice_index_or links i d).marked then joined (legs_of (drop (suc i) links)) else [])
unfolding joined
joined_at i [] d h = absurd (omega (arith, h))
joined_at zero (link ∷ links) d h = refl
joined_at (suc i) (link ∷ links) d h = joined_at i links d (omega (arith, h))

-- those before a place, and those from it on
abbrev pub Halved : ℕ → List Link → Type 0
Halved i links =
    joined (legs_of links) ≡ all_pdus (legs_of (take i links)) ++ joined (legs_of (drop i links))

pub halved_more : (i : ℕ) (links : List Link) (d : Link) → i < length links → Halved i links
    → (slice_index_or links i d).marked ≡ true
    → Halved (suc i) links
halved_more i links d below h marked =
    h ∙ ap (λ x. all_pdus (legs_of (take i links)) ++ x) (joined_at i links d below
    ∙ ap (λ t. pdus_of (slice_index_or links i d)
    ++ (if t then joined (legs_of (drop (suc i) links)) else [])) marked)
    ∙ sym (append_assoc (all_pdus (legs_of (take i links))) (pdus_of (slice_index_or links i d))
    (joined (legs_of (drop (suc i) links))))
    ∙ ap (λ x. x ++ joined (legs_of (drop (suc i) links))) (sym (pdus_more i links d below))

pub halved_last : (i : ℕ) (links : List Link) (d : Link) → i < length links → Halved i links
    → (slice_index_or links i d).marked ≡ false
    → joined (legs_of links) ≡ all_pdus (legs_of (take (suc i) links))
halved_last i links d below h marked =
    h ∙ ap (λ x. all_pdus (legs_of (take i links)) ++ x) (joined_at i links d below
    ∙ ap (λ t. pdus_of (slice_index_or links i d)
    ++ (if t then joined (legs_of (drop (suc i) links)) else [])) marked
    ∙ append-nil (pdus_of (slice_index_or links i d)))
    ∙ sym (pdus_more i links d below)

pub halved_all : (i : ℕ) (links : List Link) → length links ≤ i → Halved i links
    → joined (legs_of links) ≡ all_pdus (legs_of links)
unfolding joined
halved_all i links over h =
    h ∙ ap (λ x. all_pdus (legs_of (take i links)) ++ joined (legs_of x)) (drop_all i links over)
    ∙ append-nil (all_pdus (legs_of (take i links)))
    ∙ ap (λ x. all_pdus (legs_of x)) (take_all i links over)

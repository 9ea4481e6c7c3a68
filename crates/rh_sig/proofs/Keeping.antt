-- one more command behind those that were kept, and the command in a place
use Rattle.std.proofs.Common.{◌≡◌, ℕ, zero, suc, ◌+◌, ◌<◌, ◌≤◌, List, [], ◌∷◌, ◌++◌, length, take}
use Rattle.std.proofs.Common.{set, get_or, refl, sym, ap, arith, ◌∙◌, length-take-le}
use Rattle.std.proofs.lemmas.List.{take_more_set, map-append, length-map}
use Rattle.rh_rts.specs.declared.command.CommandRef.{CommandRef}
use Rattle.rh_rts.specs.Showing.{shown}
use Rattle.rh_sig.specs.Names.{types_of}
use Rattle.rh_rts.specs.Commands.{kind_of}
use Rattle.rh_rts.specs.declared.command.Command.TheVariants.{Empty}
use Rattle.rh_sig.specs.Reading.{all_shown, command_at}

-- the commands with one more
pub shown_more : (cs : List CommandRef) (n : ℕ) (c : CommandRef) → n < length cs
    → all_shown (take (n + 1) (set cs n c)) ≡ all_shown (take n cs) ++ shown c ∷ []
shown_more cs n c inside =
    ap all_shown (take_more_set cs n c inside) ∙ map-append shown (take n cs) (c ∷ [])

-- and the types with one more
pub types_more : (types : List ℕ) (cs : List CommandRef) (n kind : ℕ) (c : CommandRef)
    → n < length types
    → n < length cs → kind ≡ kind_of (shown c) → take n types ≡ types_of (all_shown (take n cs))
    → take (n + 1) (set types n kind) ≡ types_of (all_shown (take (n + 1) (set cs n c)))
types_more types cs n kind c room inside is same =
    take_more_set types n kind room
    ∙ ap (λ (x : List ℕ). x ++ kind ∷ []) same
    ∙ ap (λ (k : ℕ). types_of (all_shown (take n cs)) ++ k ∷ []) is
    ∙ sym (map-append kind_of (all_shown (take n cs)) (shown c ∷ []))
    ∙ sym (ap types_of (shown_more cs n c inside))

-- how many there are
pub kept_length : (cs : List CommandRef) (n : ℕ) → n ≤ length cs
    → length (all_shown (take n cs)) ≡ n
kept_length cs n fits = length-map (take n cs) shown ∙ length-take-le n cs fits

-- ---- the command in a place

-- where there is one
pub in_place : (cs : List CommandRef) (n : ℕ) (or : CommandRef) → n < length cs
    → shown (get_or cs n or) ≡ command_at n (all_shown cs)
in_place [] n or below = absurd (omega (arith, below))
in_place (c ∷ cs) zero or below = refl
in_place (c ∷ cs) (suc n) or below = in_place cs n or (omega (arith, below))

-- where there is none
pub past_all : (cs : List CommandRef) (n : ℕ) → length cs ≤ n → Empty ≡ command_at n (all_shown cs)
past_all [] zero past = refl
past_all [] (suc n) past = past_all [] n (omega arith)
past_all (c ∷ cs) zero past = absurd (omega (arith, past))
past_all (c ∷ cs) (suc n) past = past_all cs n (omega (arith, past))

-- where no tag is left, none is told
use Rattle.std.proofs.Common.{◌≡◌, ℕ, List, [], ◌∷◌, ◌++◌, Bool, true, false, refl, ap, ◌∙◌, arith}
use Rattle.std.specs.Prelude.{◌==◌, ◌||◌}
use Rattle.std.specs.List.{flat_map, list_any}
use Rattle.std.proofs.lemmas.Bool.Decides.{nat_tests}
use Rattle.rh_line.specs.declared.leg.LegKind.{LegKind}
use Rattle.rh_audit.specs.declared.fault.AuditFault.{AuditFault}
use Rattle.rh_audit.specs.declared.seen.Seen.{Seen}
use Rattle.rh_audit.specs.Audits.{is_left, kinds, unchained_by, unchained_in}
use Rattle.law_audit.specs.Chains.Successors.{IsTag}

or_more : (b c : Bool) → c ≡ true → (b || c) ≡ true
or_more true c e = refl
or_more false c e = e

module _ (seen : List Seen) (tags : List ℕ)
    (none : (kind : LegKind) (tag : ℕ) → IsTag tag tags → is_left seen tags tag kind ≡ false) where
  -- by each kind of some
  by_kinds : (tag : ℕ) → IsTag tag tags → (some : List LegKind)
      → flat_map (λ (kind : LegKind). unchained_by tag (is_left seen tags tag kind)) some ≡ []
  by_kinds tag is [] = refl
  by_kinds tag is (kind ∷ some) =
      ap (λ (left : Bool). unchained_by tag left
      ++ flat_map (λ (k : LegKind). unchained_by tag (is_left seen tags tag k)) some)
      (none kind tag is)
      ∙ by_kinds tag is some

  -- of some of the tags
  of_some : (some : List ℕ) → ((tag : ℕ) → IsTag tag some → IsTag tag tags)
      → flat_map (unchained_in seen tags) some ≡ []
  of_some [] all = refl
  of_some (tag ∷ some) all =
      let same : (tag == tag) ≡ true = grind (arith, nat_tests) in
      let here : IsTag tag (tag ∷ some) =
      ap (λ (b : Bool). b || list_any (λ other. other == tag) some) same in
      ap (λ (faults : List AuditFault). faults ++ flat_map (unchained_in seen tags) some)
      (by_kinds tag (all tag here) kinds)
      ∙ of_some some (λ other is.
      all other (or_more (tag == other) (list_any (λ one. one == other) some) is))

  pub none_told : flat_map (unchained_in seen tags) tags ≡ []
  none_told = of_some tags (λ tag is. is)

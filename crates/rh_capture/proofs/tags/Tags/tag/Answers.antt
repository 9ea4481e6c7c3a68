-- the tag of a leg that was met, and of a new one
use Rattle.std.proofs.Common.{◌≡◌, ℕ, ◌+◌, List, ◌∷◌, ◌++◌, [], length, Some, None, sym, ◌∙◌, ap, subst, arith, IfOk, OnOk}
use Rattle.rh_line.specs.declared.leg.Leg.{Leg}
use Rattle.rh_capture.specs.Legs.{tag_of, with_leg}
use Rattle.rh_capture.specs.Numbers.{tag_among}
use Rattle.rh_capture.proofs.TagLaws.{tag_met, tag_new}
use Rattle.rh_capture.proofs.tags.Tags.tag.Goals as goal

met_tag : (legs now : List Leg) (leg : Leg) (tag : ℕ) → legs ≡ now → tag_among 1 legs leg ≡ Some tag
    → (tag ≡ tag_of now leg) × (now ≡ with_leg now leg)
met_tag legs now leg tag same is =
    let there : tag_among 1 now leg ≡ Some tag =
    subst (λ (l : List Leg). tag_among 1 l leg ≡ Some tag) same is in
    let met = tag_met 1 now leg tag there in
    (omega (arith, met.0), sym met.1)

pub returns-in-Some-clause-tag : goal.returns-in-Some-clause-tag
returns-in-Some-clause-tag c =
    (met_tag c.self.inside.legs.items c.args.self.now c.args.leg c.in-Some.tag c.self.view_is
    (sym (c.self.invariant c.args.leg) ∙ sym c.get.ensures ∙ c.in-Some.is)).0

pub returns-in-Some-clause-legs : goal.returns-in-Some-clause-legs
returns-in-Some-clause-legs c =
    (met_tag c.self.inside.legs.items c.args.self.now c.args.leg c.in-Some.tag c.self.view_is
    (sym (c.self.invariant c.args.leg) ∙ sym c.get.ensures ∙ c.in-Some.is)).1

new_tag : (legs now : List Leg) (leg : Leg) → legs ≡ now → tag_among 1 legs leg ≡ None
    → (tag_of now leg ≡ length now + 1) × (with_leg now leg ≡ now ++ leg ∷ [])
new_tag legs now leg same is =
    tag_new 1 now leg (subst (λ (l : List Leg). tag_among 1 l leg ≡ None) same is)

pub returns-in-None-clause-tag : goal.returns-in-None-clause-tag
returns-in-None-clause-tag c =
    let new = new_tag c.self.inside.legs.items c.args.self.now c.args.leg c.self.view_is
    (sym (c.self.invariant c.args.leg) ∙ sym c.get.ensures ∙ c.in-None.is) in
    subst (λ (n : ℕ). IfOk c.add.result (λ tag. tag ≡ n)) (sym new.0) c.add.ensures.tag

pub returns-in-None-clause-legs : goal.returns-in-None-clause-legs
returns-in-None-clause-legs c =
    let new = new_tag c.self.inside.legs.items c.args.self.now c.args.leg c.self.view_is
    (sym (c.self.invariant c.args.leg) ∙ sym c.get.ensures ∙ c.in-None.is) in
    subst (λ (l : List Leg). OnOk c.add.result (c.add.new.self ≡ l)) (sym new.1)
    c.add.ensures.legs

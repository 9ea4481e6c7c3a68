-- the tags with the next leg
use Rattle.std.proofs.Common.{◌≡◌, ◌+◌, ◌++◌, ◌∷◌, [], None, List, length, sym, ◌∙◌, ap, subst, arith}
use Rattle.std.proofs.lemmas.Bool.Decides.{nat_tests}
use Rattle.rh_line.specs.declared.leg.Leg.{Leg}
use Rattle.rh_capture.specs.Numbers.{tag_among}
use Rattle.rh_capture.proofs.TagLaws.{tags_more}
use Rattle.rh_capture.proofs.tags.Tags.add.Goals as goal

pub invariant_of-self-2 : goal.invariant_of-self-2
invariant_of-self-2 c =
    let legs = c.self.inside.legs.items in
    let none = subst (λ (l : List Leg). tag_among 1 l c.args.leg ≡ None) (sym c.self.view_is)
    c.requires in
    tags_more legs c.push.new.self.items c.args.leg (c.len.result + 1) c.self.inside.tags
    c.put.new.self c.self.invariant none (grind (arith, nat_tests))
    (c.in-Ok.ensures.items ∙ ap (λ (l : List Leg). l ++ c.args.leg ∷ []) c.reserve.ensures.items)
    c.in_ok-put.ensures.ok

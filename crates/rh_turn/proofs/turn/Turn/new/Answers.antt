use Rattle.std.proofs.Common.{◌≡◌, ◌∷◌, ◌++◌, [], Some, ◌∙◌, sym, ap, subst}
use Rattle.atomic_table.specs.Table.{opening}
use Rattle.rh_turn.specs.Rule.{Kept, first_view}
use Rattle.rh_turn.proofs.Ending.{opens}
use Rattle.rh_turn.proofs.turn.Turn.new.Goals as goal

pub new-requires : goal.new-requires
new-requires g c =
    let next = g.M.Machine.next in
    let first = c.of.result.value in
    let seats = c.args.seats in
    let items : c.push.new.self.items ≡ Some first ∷ [] = c.in_default-push.ensures.items
    ∙ (ap (λ xs. xs ++ Some c.args.state ∷ []) c.in-Ok.ensures.items
    ∙ ap (λ s. Some s ∷ []) (sym c.of.ensures)) in
    subst (λ xs. Kept next first seats (opening (0 ∷ 0 ∷ 0 ∷ []) xs (first_view seats))) (sym items)
    (opens next first seats c.requires)

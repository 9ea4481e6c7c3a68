use Rattle.std.proofs.Common.{◌∷◌, Some, rules, ◌∙◌, ap}
use Rattle.rh_turn.specs.History.{state_after}
use Rattle.rh_turn.proofs.Histories.{reply_last}
use Rattle.rh_turn.proofs.board.Board.act.Goals as goal

pub take-state-requires-clause-slot : goal.take-state-requires-clause-slot
take-state-requires-clause-slot g c =
    let taken = c.wait.ensures.taken in
    let first = c.args.self.now.table.shared.key.first.value in
    let state = state_after g.M.Machine.next first taken.0 in (
      state,
      ap (λ m. m.1) taken.2 ∙ ap (λ held. (0, Some state) ∷ held)
          (ap (λ m. m.1) c.draw-ticket.ensures.drawn ∙ c.requires.at_rest.no_slot),
    )

pub returns-clause-acts : goal.returns-clause-acts
returns-clause-acts g c =
    let machine = g.M.Machine in
    let first = c.args.self.now.table.shared.key.first.value in
    let before = c.wait.ensures.taken.0 in record {
      before = before;
      goes_on = search rules;
      seat = search rules;
      answers = reply_last machine.next machine.reply first before c.args.event
          ∙ ap Some (search rules);
    }

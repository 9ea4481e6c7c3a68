-- it is the first that may go
use Rattle.std.proofs.Common.{Some, ◌∙◌, ap}
use Rattle.std.specs.Prelude.{find}
use Rattle.rh_shell.specs.Waiting.{Waiting}
use Rattle.rh_shell.proofs.Passed.{found_in, find_none, find_some}
use Rattle.rh_shell.proofs.waiting.Waiting.first_fit.Goals as goal

pub returns-in_err-place-clause-first : goal.returns-in_err-place-clause-first
returns-in_err-place-clause-first g c =
    let test = g.G.Gate.lets c.args.gate.now in
    let is = found_in test c.deref.ensures.value c.place_to_go.ensures c.in_err-place.was in
    c.from_residual.ensures
    ∙ find_none test c.self.inside.due.items is
    ∙ ap (λ (w : Waiting). find test w.due) c.self.view_is

pub returns-clause-first : goal.returns-clause-first
returns-clause-first g c =
    let test = g.G.Gate.lets c.args.gate.now in
    let is = found_in test c.deref.ensures.value c.place_to_go.ensures c.in_ok-place.was in
    ap Some c.index.ensures
    ∙ find_some test c.self.inside.due.items c.in_ok-place.place c.index.result.now is
    ∙ ap (λ (w : Waiting). find test w.due) c.self.view_is

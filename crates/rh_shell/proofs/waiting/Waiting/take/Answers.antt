-- the first that may go is taken out of its place
use Rattle.std.proofs.Common.{List, Some, None, ap, arith, subst, sym, ◌∙◌, ◌≡◌}
use Rattle.std.specs.Prelude.{position}
use Rattle.std.specs.declared.option.Option.{Option}
use Rattle.rh_shell.specs.declared.due.Due.{Due}
use Rattle.rh_shell.specs.Waiting.{Waiting, taken, without_first, with_due, IsKept}
use Rattle.rh_shell.proofs.Passed.{found_in, without_at, taken_none, taken_at}
use Rattle.rh_shell.proofs.Kept.{kept_without}
use Rattle.rh_shell.proofs.waiting.Waiting.take.Goals as goal

pub returns-in_err-place-clause-taken : goal.returns-in_err-place-clause-taken
returns-in_err-place-clause-taken g c =
    let test = g.G.Gate.lets c.args.gate.now in
    let now = c.args.self.now in
    let is : position test now.due ≡ None =
    found_in test (c.deref.ensures.value ∙ ap (λ (w : Waiting). w.due) c.self.view_is)
    c.place_to_go.ensures c.in_err-place.was in
    ap (λ (o : Option Due). (now, o)) c.from_residual.ensures ∙ taken_none test now is

pub invariant_of-self : goal.invariant_of-self
invariant_of-self g c =
    let test = g.G.Gate.lets c.args.gate.now in
    let items = c.self.inside.due.items in
    let is : position test items ≡ Some c.in_ok-place.place =
    found_in test c.deref.ensures.value c.place_to_go.ensures c.in_ok-place.was in
    let rest : c.remove.new.self.items ≡ without_first test items =
    c.remove.ensures.items ∙ without_at test items c.in_ok-place.place is in (
      subst (IsKept c.self.inside.room) (sym rest)
          (kept_without c.self.inside.room items test c.self.invariant.0),
      omega (arith, c.remove.ensures.capacity, c.self.invariant.1),
    )

pub returns-clause-taken : goal.returns-clause-taken
returns-clause-taken g c =
    let test = g.G.Gate.lets c.args.gate.now in
    let items = c.self.inside.due.items in
    let due = c.remove.result in
    let w : Waiting = record { room = c.self.inside.room; due = items } in
    let is : position test items ≡ Some c.in_ok-place.place =
    found_in test c.deref.ensures.value c.place_to_go.ensures c.in_ok-place.was in
    ap (λ (dues : List Due). (with_due w dues, Some due)) c.remove.ensures.items
    ∙ taken_at test w c.in_ok-place.place due is c.remove.ensures.value
    ∙ ap (taken test) c.self.view_is

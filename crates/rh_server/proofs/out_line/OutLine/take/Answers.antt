use Rattle.std.proofs.Common.{subst, sym, ap, refl, Some, None, ◌≡◌, Bool, List}
use Rattle.std.specs.Prelude.{find, IfSome, IfNone, IsTrue}
use Rattle.std.specs.declared.option.Option.{Option}
use Rattle.rh_shell.specs.declared.due.Due.{Due}
use Rattle.rh_shell.specs.Waiting.{Waiting, taken, with_due}
use Rattle.rh_server.specs.OutLines.{AreOnce}
use Rattle.rh_server.proofs.Onces.{once_taken, passes, none_less}
use Rattle.rh_server.proofs.out_line.OutLine.take.Goals as goal

pub invariant_of-self : goal.invariant_of-self
invariant_of-self g c =
    let test = g.G.Gate.lets c.args.gate.now in
    subst (λ (w : Waiting). AreOnce w.due)
    (sym (ap (λ (r : Waiting × Option Due). r.0) c.take.ensures.taken))
    (once_taken test c.self.inside.waiting.due (find test c.self.inside.waiting.due) refl
    c.self.invariant)

let_go : (test : Due → Bool) (dues : List Due) (found : Option Due) → found ≡ find test dues
    → IfSome found (λ due. IsTrue (test due))
let_go test dues None e = search
let_go test dues (Some due) e = search (passes test dues due (sym e))

pub returns-clause-lets : goal.returns-clause-lets
returns-clause-lets g c =
    let test = g.G.Gate.lets c.args.gate.now in
    let_go test c.self.inside.waiting.due c.take.result
    (ap (λ (r : Waiting × Option Due). r.1) c.take.ensures.taken)

kept : (test : Due → Bool) (w : Waiting) (found : Option Due) → found ≡ find test w.due
    → IfNone found ((taken test w).0 ≡ w)
kept test w None e = ap (with_due w) (none_less test w.due (sym e))
kept test w (Some due) e = search

pub returns-clause-none : goal.returns-clause-none
returns-clause-none g c =
    let test = g.G.Gate.lets c.args.gate.now in
    let w : Waiting = c.self.inside.waiting in
    subst (λ (v : Waiting). IfNone c.take.result (v ≡ c.args.self.now))
    (sym (ap (λ (r : Waiting × Option Due). r.0) c.take.ensures.taken))
    (subst (λ (v : Waiting). IfNone c.take.result ((taken test w).0 ≡ v)) c.self.view_is
    (kept test w c.take.result (ap (λ (r : Waiting × Option Due). r.1) c.take.ensures.taken)))

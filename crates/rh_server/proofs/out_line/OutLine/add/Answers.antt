use Rattle.std.proofs.Common.{subst, sym, ◌≡◌, false}
use Rattle.rh_shell.specs.Waiting.{Waiting}
use Rattle.rh_server.specs.OutLines.{AreOnce, waits}
use Rattle.rh_server.proofs.Onces.{once_added}
use Rattle.rh_server.proofs.out_line.OutLine.add.Goals as goal

pub invariant_of-self : goal.invariant_of-self
invariant_of-self c =
    subst (λ (w : Waiting). AreOnce w.due) (sym c.add.ensures)
    (once_added c.args.kind c.self.inside.waiting.due c.args.packet c.requires.kind
    (subst (λ (w : Waiting). waits c.args.kind w ≡ false) (sym c.self.view_is) c.requires.once)
    c.self.invariant)

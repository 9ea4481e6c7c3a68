use Rattle.std.proofs.Common.{subst, sym, ap, Bool}
use Rattle.rh_shell.specs.Waiting.{Waiting}
use Rattle.rh_server.specs.OutLines.{AreOnce}
use Rattle.rh_server.proofs.Onces.{once_forwarded}
use Rattle.rh_server.proofs.out_line.OutLine.forward.Goals as goal

pub invariant_of-self : goal.invariant_of-self
invariant_of-self c =
    subst (λ (w : Waiting). AreOnce w.due) (sym (ap (λ
    (r : Waiting × Bool). r.0) c.forward.ensures))
    (once_forwarded c.self.inside.waiting c.args.packet c.requires.ack c.self.invariant)

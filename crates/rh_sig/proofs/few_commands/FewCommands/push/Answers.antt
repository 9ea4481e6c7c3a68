use Rattle.std.proofs.Common.{◌<◌, length, arith, ◌∙◌, ap, ◌++◌, [], ◌∷◌, length-set}
use Rattle.rh_rts.specs.Showing.{shown}
use Rattle.rh_sig.proofs.Keeping.{shown_more, types_more, kept_length}
use Rattle.rh_sig.proofs.few_commands.FewCommands.push.Goals as goal

pub invariant_of-self : goal.invariant_of-self
invariant_of-self c =
    let inside = c.self.inside in
    let held = kept_length inside.commands inside.len (omega arith) in
    let below : inside.len < 7 = omega (arith, held, ap length c.self.view_is, c.requires) in (
      omega (arith, below),
      omega (arith, length-set c.self.inside.commands c.self.inside.len c.args.command),
      types_more inside.types inside.commands inside.len c.kind.result c.args.command
          (omega (arith, below)) (omega (arith, below)) c.kind.ensures c.self.invariant.2,
    )

pub returns : goal.returns
returns c =
    let held = kept_length c.self.inside.commands c.self.inside.len (omega arith) in
    let below : c.self.inside.len < 7 = omega (arith, held, ap length c.self.view_is, c.requires) in
    shown_more c.self.inside.commands c.self.inside.len c.args.command (omega (arith, below))
    ∙ ap (λ x. x ++ shown c.args.command ∷ []) c.self.view_is

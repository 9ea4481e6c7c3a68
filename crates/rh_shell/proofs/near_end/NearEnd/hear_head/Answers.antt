use Rattle.std.proofs.Common.{◌≡◌, ◌+◌, ℕ, List, length, ap, ◌∙◌, refl}
use Rattle.rh_pdu.specs.Feeding.{capped}
use Rattle.rh_shell.specs.declared.stage.Stage.TheVariants as stage
use Rattle.rh_shell.specs.NearEnds.{NearEnd}
use Rattle.rh_shell.specs.Hearing.{take_head}
use Rattle.rh_shell.proofs.Steps.{head_goes_on, head_taken}
use Rattle.rh_shell.proofs.near_end.NearEnd.hear_head.Goals as goal

pub returns-in_default-clause-heard : goal.returns-in_default-clause-heard
returns-in_default-clause-heard g c =
    let s = c.self.inside in
    let h : s.stage ≡ stage.Head = ap (λ (e : NearEnd). e.intake.stage) c.self.view_is ∙
    c.requires.stage in
    let is = rw h at c.self.view_is in
    rw h (head_goes_on g.R.Role.rules is c.args.role.now c.args.piece.now c.add.new.self refl
    c.in_default.ensures.adds)

pub returns-clause-heard : goal.returns-clause-heard
returns-clause-heard g c =
    let s = c.self.inside in
    let h : s.stage ≡ stage.Head = ap (λ (e : NearEnd). e.intake.stage) c.self.view_is ∙
    c.requires.stage in
    let is = rw h at c.self.view_is in
    let taken = c.take_head-taken.ensures ∙ ap (take_head g.R.Role.rules s.leg c.args.role.now)
    c.bytes.ensures.bytes in
    let place : c.saturating_add-self-inside.result ≡ capped (s.place + length c.add.new.self) =
    c.saturating_add-self-inside.ensures ∙ ap (λ (x : List ℕ). capped (s.place + length x))
    c.bytes-2.ensures.bytes in
    let after = rw (h, place, c.clear.ensures) at c.close_head.ensures in
    rw (c.split_at.ensures.back)
    (head_taken g.R.Role.rules is c.args.role.now c.args.piece.now c.add.new.self c.in-Some.used
    c.take_head-taken.new.role c.take_head-taken.result
    (c.close_head.new.self, c.close_head.result) after refl c.in-Some.ensures.adds taken)

use Rattle.std.proofs.Common.{◌≡◌, ◌+◌, ℕ, List, length, sym, ap, ◌∙◌, refl}
use Rattle.rh_pdu.specs.Feeding.{capped}
use Rattle.rh_shell.specs.declared.stage.Stage.TheVariants as stage
use Rattle.rh_shell.specs.NearEnds.{NearEnd}
use Rattle.rh_shell.specs.Hearing.{is_greeting}
use Rattle.rh_shell.proofs.Steps.{greeting_goes_on, greeting_taken}
use Rattle.rh_shell.proofs.near_end.NearEnd.hear_greeting.Goals as goal

pub returns-in_default-clause-heard : goal.returns-in_default-clause-heard
returns-in_default-clause-heard g c =
    let s = c.self.inside in
    let h : s.stage ≡ stage.Greeting = ap (λ (e : NearEnd). e.intake.stage) c.self.view_is ∙
    c.requires.stage in
    let is = rw h at c.self.view_is in
    rw h (greeting_goes_on g.R.Role.rules is c.args._role.now c.args.piece.now c.add.new.self refl
    c.in_default.ensures.adds)

pub returns-clause-heard : goal.returns-clause-heard
returns-clause-heard g c =
    let s = c.self.inside in
    let h : s.stage ≡ stage.Greeting = ap (λ (e : NearEnd). e.intake.stage) c.self.view_is ∙
    c.requires.stage in
    let is = rw h at c.self.view_is in
    let place : c.saturating_add-self-inside.result ≡ capped (s.place + length c.add.new.self) =
    c.saturating_add-self-inside.ensures ∙ ap (λ (x : List ℕ). capped (s.place + length x))
    c.bytes-2.ensures.bytes in
    let right = sym (c.is_greeting-right.ensures ∙ ap is_greeting c.bytes.ensures.bytes) in
    let after = rw (h, place, c.clear.ensures) at c.close_greeting.ensures in
    rw (c.split_at.ensures.back)
    (greeting_taken g.R.Role.rules is c.args._role.now c.args.piece.now c.add.new.self
    c.in-Some.used c.is_greeting-right.result (c.close_greeting.new.self, c.close_greeting.result)
    after right refl c.in-Some.ensures.adds)

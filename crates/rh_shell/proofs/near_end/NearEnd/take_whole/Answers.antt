use Rattle.std.proofs.Common.{◌≡◌, ℕ, ◌+◌, ◌++◌, ◌<◌, ◌≤◌, List, [], take, drop, length, arith, ap, sym, ◌∙◌, refl, subst}
use Rattle.std.proofs.lemmas.List.{length-take-le}
use Rattle.rh_pdu.specs.Feeding.{capped}
use Rattle.rh_shell.specs.declared.stage.Stage.TheVariants as stage
use Rattle.rh_shell.specs.Intakes.{Intake, behind, counted}
use Rattle.rh_shell.specs.Keeping.{room}
use Rattle.rh_shell.specs.NearEnds.{NearEnd}
use Rattle.rh_shell.specs.Hearing.{take_frame}
use Rattle.rh_shell.proofs.Framed.{frame_scanned}
use Rattle.rh_shell.proofs.Steps.{row_taken}
use Rattle.rh_shell.proofs.near_end.NearEnd.take_whole.Goals as goal

pub returns-clause-heard : goal.returns-clause-heard
returns-clause-heard g c =
    let s = c.self.inside in
    let h : s.stage ≡ stage.Frames = ap (λ (e : NearEnd). e.intake.stage) c.self.view_is ∙
    c.requires.stage in
    let is = rw h at c.self.view_is in
    let i : Intake = record {
      stage = stage.Frames;
      held = s.framer.rest;
      place = s.place;
      body =
          s.body;
    } in
    let none : s.framer.rest ≡ [] = ap (λ (e : NearEnd). e.intake.held) is ∙ c.requires.none in
    let frame = take c.args.len c.args.piece.now in
    let size : length frame ≡ c.args.len = length-take-le c.args.len c.args.piece.now
    c.requires.fits in
    let some : 0 < c.args.len = omega (arith, size, c.requires.frame.long) in
    let within = subst (λ (e : NearEnd). c.args.len ≤ room (length c.args.piece.now) e.intake.body)
    (sym is) c.requires.room in
    let scans = frame_scanned i c.args.piece.now frame c.args.len refl c.self.invariant.1 some
    within
    (ap (λ (x : List ℕ). x ++ frame) (sym none)) c.requires.frame in
    let taken = c.take_frame-taken.ensures ∙ ap (take_frame g.R.Role.rules c.heading.result
    c.args.role.now) c.split_at.ensures.front in
    let place : c.saturating_add-self-inside.result ≡ capped (s.place + length frame) =
    c.saturating_add-self-inside.ensures ∙ ap (λ (n : ℕ). capped (s.place + n)) (sym size) in
    let after = rw (h, place, none, c.counted-self-inside.ensures.count) at c.close_frame.ensures in
    rw (c.split_at.ensures.back)
    (row_taken g.R.Role.rules is c.args.role.now c.args.piece.now c.heading.result (behind (record
    i { body = counted c.args.len i.body }) frame) frame (drop c.args.len c.args.piece.now)
    c.take_frame-taken.new.role c.take_frame-taken.result
    (c.close_frame.new.self, c.close_frame.result) after c.heading.ensures scans taken)

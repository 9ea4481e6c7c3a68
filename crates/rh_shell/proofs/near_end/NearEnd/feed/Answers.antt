use Rattle.std.proofs.Common.{◌≡◌, ℕ, ◌+◌, ◌-◌, ◌++◌, ◌≤◌, List, [], take, drop, length, arith, ap, ◌∙◌, refl, subst, None}
use Rattle.std.proofs.lemmas.List.{take-take}
use Rattle.rh_pdu.specs.Feeding.{FramerState, FedFault, IsSoundBy, capped}
use Rattle.rh_pdu.specs.Frames.{IsUnfinished}
use Rattle.rh_shell.specs.declared.stage.Stage.TheVariants as stage
use Rattle.rh_shell.specs.Intakes.{Intake, behind, counted}
use Rattle.rh_shell.specs.Keeping.{room}
use Rattle.rh_shell.specs.NearEnds.{NearEnd}
use Rattle.rh_shell.specs.Hearing.{take_frame}
use Rattle.rh_shell.proofs.Scans.{keeping}
use Rattle.rh_shell.proofs.Framed.{need_scanned, frame_scanned, fault_scanned}
use Rattle.rh_shell.proofs.Steps.{row_taken, fault_taken, overrun_taken}
use Rattle.rh_shell.proofs.near_end.NearEnd.feed.Goals as goal

pub overflow_sub-used : goal.overflow_sub-used
overflow_sub-used g c =
    let s = c.self.inside in
    let h : s.stage ≡ stage.Frames = ap (λ (e : NearEnd). e.intake.stage) c.self.view_is ∙
    c.requires.stage in
    let is = rw h at c.self.view_is in
    let i : Intake = record {
      stage = stage.Frames;
      held = s.framer.rest;
      place = s.place;
      body =
          s.body;
    } in
    let t = c.feed.new.self in
    let going : s.framer.fault ≡ None = (rw h at c.self.invariant).0 in
    let was : IsUnfinished s.framer.rest = subst (λ o. IsSoundBy s.framer.rest o) going
    c.in-Fault.ensures.sound in
    let f = subst (λ (x : List ℕ). FedFault s.framer t (s.framer.rest ++ x) c.in-Fault.place
    c.in-Fault.fault) c.split_at.ensures.front c.in-Fault.ensures.fed in
    let e = fault_scanned i s.framer t c.args.piece.now c.room.result c.in-Fault.place
    c.in-Fault.fault refl refl was c.self.invariant.1 c.room.ensures.count f in
    omega (arith, e.short, c.held-held.ensures.rest)

pub returns-in-Need-clause-heard : goal.returns-in-Need-clause-heard
returns-in-Need-clause-heard g c =
    let s = c.self.inside in
    let h : s.stage ≡ stage.Frames = ap (λ (e : NearEnd). e.intake.stage) c.self.view_is ∙
    c.requires.stage in
    let is = rw h at c.self.view_is in
    let i : Intake = record {
      stage = stage.Frames;
      held = s.framer.rest;
      place = s.place;
      body =
          s.body;
    } in
    let t = c.feed.new.self in
    let f = c.in-Need.ensures.fed in
    let most = c.room.result in
    let front : c.split_at.result.0.now ≡ take most c.args.piece.now = c.split_at.ensures.front in
    let all = ap (λ (x : List ℕ). s.framer.rest ++ x) front in
    let rest : t.rest ≡ s.framer.rest ++ take most c.args.piece.now = ap
    (λ (x : FramerState). x.rest) f.after ∙ all in
    let body = c.counted-self-inside.ensures.count ∙ ap (λ (n : ℕ). counted n s.body)
    c.split_at.ensures.front_len in
    let scans = need_scanned i c.args.piece.now most refl c.self.invariant.1 c.room.ensures.count
    (subst IsUnfinished all f.unfinished) in
    let after = rw (h, rest, body, c.split_at.ensures.back) at c.overrun.ensures.after in
    overrun_taken g.R.Role.rules is c.args.role.now c.args.piece.now
    (c.overrun.new.self, c.overrun.result.0, c.overrun.result.1.now)
    (keeping i (s.framer.rest ++ take most c.args.piece.now) (counted most s.body))
    (drop most c.args.piece.now) after scans

pub returns-in-Frame-clause-heard : goal.returns-in-Frame-clause-heard
returns-in-Frame-clause-heard g c =
    let s = c.self.inside in
    let h : s.stage ≡ stage.Frames = ap (λ (e : NearEnd). e.intake.stage) c.self.view_is ∙
    c.requires.stage in
    let is = rw h at c.self.view_is in
    let i : Intake = record {
      stage = stage.Frames;
      held = s.framer.rest;
      place = s.place;
      body =
          s.body;
    } in
    let t = c.feed.new.self in
    let f = c.in-Frame.ensures.fed in
    let most = c.room.result in
    let front : c.split_at.result.0.now ≡ take most c.args.piece.now = c.split_at.ensures.front in
    let size : length c.split_at.result.0.now ≡ most = c.split_at.ensures.front_len in
    let bytes : t.frame ≡ s.framer.rest ++ take c.in-Frame.used c.args.piece.now =
    f.bytes ∙ ap (λ (x : List ℕ). s.framer.rest ++ take c.in-Frame.used x) front
    ∙ ap (λ (x : List ℕ). s.framer.rest ++ x) (take-take c.in-Frame.used most c.args.piece.now
    (omega (arith, f.within, size))) in
    let within : c.in-Frame.used ≤ room (length c.args.piece.now) s.body = omega
    (arith, f.within, size, c.room.ensures.count) in
    let scans = frame_scanned i c.args.piece.now t.frame c.in-Frame.used refl c.self.invariant.1
    f.some within bytes f.frame in
    let none : t.rest ≡ [] = ap (λ (x : FramerState). x.rest) f.after in
    let taken = c.take_frame-taken.ensures ∙ ap (take_frame g.R.Role.rules c.heading-at.result
    c.args.role.now) c.frame.ensures in
    let place : c.saturating_add-self-inside.result ≡ capped (s.place + length t.frame) =
    c.saturating_add-self-inside.ensures ∙ ap (λ (n : ℕ). capped (s.place + n)) f.size in
    let after = rw (h, place, none, c.counted-self-inside-in-Frame.ensures.count)
    at c.close_frame.ensures in
    rw (c.split_at-in-Frame.ensures.back)
    (row_taken g.R.Role.rules is c.args.role.now c.args.piece.now c.heading-at.result (behind
    (record i { body = counted c.in-Frame.used i.body }) t.frame) t.frame (drop c.in-Frame.used
    c.args.piece.now) c.take_frame-taken.new.role c.take_frame-taken.result
    (c.close_frame.new.self, c.close_frame.result) after c.heading-at.ensures scans taken)

pub returns-in-Fault-clause-heard : goal.returns-in-Fault-clause-heard
returns-in-Fault-clause-heard g c =
    let s = c.self.inside in
    let h : s.stage ≡ stage.Frames = ap (λ (e : NearEnd). e.intake.stage) c.self.view_is ∙
    c.requires.stage in
    let is = rw h at c.self.view_is in
    let i : Intake = record {
      stage = stage.Frames;
      held = s.framer.rest;
      place = s.place;
      body =
          s.body;
    } in
    let t = c.feed.new.self in
    let going : s.framer.fault ≡ None = (rw h at c.self.invariant).0 in
    let was : IsUnfinished s.framer.rest = subst (λ o. IsSoundBy s.framer.rest o) going
    c.in-Fault.ensures.sound in
    let f = subst (λ (x : List ℕ). FedFault s.framer t (s.framer.rest ++ x) c.in-Fault.place
    c.in-Fault.fault) c.split_at.ensures.front c.in-Fault.ensures.fed in
    let e = fault_scanned i s.framer t c.args.piece.now c.room.result c.in-Fault.place
    c.in-Fault.fault refl refl was c.self.invariant.1 c.room.ensures.count f in
    let used = 16 - length s.framer.rest in
    let held = ap (λ (n : ℕ). 16 - n) c.held-held.ensures.rest in
    let body = c.counted-self-inside-in-Fault.ensures.count ∙ ap (λ (n : ℕ). counted n s.body) held
    in
    let back = c.split_at-in-Fault.ensures.back ∙ ap (λ (n : ℕ). drop n c.args.piece.now) held in
    rw (c.stop.ensures, body, back)
    (fault_taken g.R.Role.rules is c.args.role.now c.args.piece.now c.heading-at.result (record i {
      stage = stage.Shut;
      held = t.rest;
      body = counted used i.body;
    }) (drop used c.args.piece.now) c.in-Fault.fault c.heading-at.ensures e.scans)

pub returns-in-Fault-clause-fewer : goal.returns-in-Fault-clause-fewer
returns-in-Fault-clause-fewer g c =
    let s = c.self.inside in
    let h : s.stage ≡ stage.Frames = ap (λ (e : NearEnd). e.intake.stage) c.self.view_is ∙
    c.requires.stage in
    let is = rw h at c.self.view_is in
    let i : Intake = record {
      stage = stage.Frames;
      held = s.framer.rest;
      place = s.place;
      body =
          s.body;
    } in
    let t = c.feed.new.self in
    let going : s.framer.fault ≡ None = (rw h at c.self.invariant).0 in
    let was : IsUnfinished s.framer.rest = subst (λ o. IsSoundBy s.framer.rest o) going
    c.in-Fault.ensures.sound in
    let f = subst (λ (x : List ℕ). FedFault s.framer t (s.framer.rest ++ x) c.in-Fault.place
    c.in-Fault.fault) c.split_at.ensures.front c.in-Fault.ensures.fed in
    let e = fault_scanned i s.framer t c.args.piece.now c.room.result c.in-Fault.place
    c.in-Fault.fault refl refl was c.self.invariant.1 c.room.ensures.count f in
    omega (
      arith,
      e.short,
      e.some,
      e.fits,
      c.room.ensures.most,
      c.held-held.ensures.rest,
      c.split_at-in-Fault.ensures.back_len,
    )

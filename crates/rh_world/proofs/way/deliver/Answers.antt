-- each frame that was answered is the first of those left
use Rattle.std.proofs.Common.{◌≡◌, ℕ, ◌++◌, ◌∷◌, [], List, drop, length, arith, sym, ap, ◌∙◌, append_assoc}
use Rattle.rh_pdu.specs.Cut.{frames_of}
use Rattle.rh_pdu.proofs.Pdus.{frame_bounds}
use Rattle.rh_world.proofs.Frames.{frame_taken}
use Rattle.rh_world.proofs.way.deliver.Goals as goal

pub push-requires-clause-short : goal.push-requires-clause-short
push-requires-clause-short c =
    let bounds = frame_bounds c.next_frame.new.framer.frame c.in-Some.ensures.frames.1 in
    let lent : length c.frame.result.now ≡ length c.next_frame.new.framer.frame =
    ap length c.frame.ensures in
    omega (arith, bounds.1, lent)

pub frames-preserved : goal.frames-preserved
frames-preserved c =
    let p = c.frames in
    let next = c.next_frame.new.framer in
    let is = c.in-Some.ensures.frames in
    let t = frame_taken (p.framer.rest ++ p.left.now) next.frame next.rest
    (drop c.in-Some.used p.left.now)
    (next.rest ++ c.split_at.result.1.now)
    (is.0, is.1, is.2, ap (λ (x : List ℕ). next.rest ++ x) c.split_at.ensures.back) in
    let lent : length c.frame.result.now ≡ length next.frame = ap length c.frame.ensures in
    record {
      going = c.in-Some.ensures.going;
      frames = rw (c.push.ensures.pdus, c.frame.ensures)
          (append_assoc p.untaken.pdus (next.frame ∷ [])
          (frames_of (next.rest ++ c.split_at.result.1.now))
          ∙ ap (λ (x : List (List ℕ)). p.untaken.pdus ++ x) (sym t.frames) ∙ p.invariant.frames);
      rest = sym t.rest ∙ p.invariant.rest;
      room = omega (arith, p.invariant.room, c.push.ensures.room, t.joined, lent);
      places = omega (arith, p.invariant.places, c.push.ensures.places, t.joined, t.least, lent);
    }

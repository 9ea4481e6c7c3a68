use Rattle.std.proofs.Common.{◌+◌, ◌∷◌, ℕ, false, length, sym, ap, ◌∙◌}
use Rattle.std.specs.declared.option.Option.{Option}
use Rattle.rh_audit.specs.Packets.{met}
use Rattle.rh_audit.specs.Streams.{framed, stands, stream_is}
use Rattle.rh_audit.specs.StreamsLeft.{StreamLeft, stream_left}
use Rattle.rh_audit.proofs.Streams.{framed_bad, framed_end, framed_off, framed_on}
use Rattle.rh_audit.proofs.stream.Stream.next.Goals as goal

pub returns-in-End : goal.returns-in-End
returns-in-End c =
    let s = c.self.inside in
    ap (λ (v : StreamLeft). v.stream) (sym c.self.view_is)
    ∙ ap (λ (b : Option ℕ). stream_left b s.pipe s.begins s.place s.frames.bytes) c.in-None.is
    ∙ framed_end s.pipe s.begins s.place s.frames.bytes c.in-End.ensures.0

pub returns-in-Bad : goal.returns-in-Bad
returns-in-Bad c =
    let s = c.self.inside in
    ap (λ (v : StreamLeft). v.stream) (sym c.self.view_is)
    ∙ ap (λ (b : Option ℕ). stream_left b s.pipe s.begins s.place s.frames.bytes) c.in-None.is
    ∙ framed_bad s.pipe s.begins s.place s.frames.bytes c.in-Bad.ensures.0

pub returns-else-stands : goal.returns-else-stands
returns-else-stands c =
    let s = c.self.inside in
    let frame = c.next_frame.new.self.frame in
    let more = c.next_frame.new.self.bytes in
    let is = c.meet-met.ensures ∙ ap (met s.pipe) c.frame.ensures in
    let fails = ap (stands s.pipe s.begins) (sym is) ∙ sym c.stands.ensures ∙ c.if-stands.false in
    ap (λ (v : StreamLeft). v.stream) (sym c.self.view_is)
    ∙ ap (λ (b : Option ℕ). stream_left b s.pipe s.begins s.place s.frames.bytes) c.in-None.is
    ∙ ap (framed s.pipe s.begins s.place) c.in-Frame.ensures.1
    ∙ framed_off s.pipe s.begins s.place frame more c.in-Frame.ensures.0 fails

pub returns-then-stands : goal.returns-then-stands
returns-then-stands c =
    let s = c.self.inside in
    let frame = c.next_frame.new.self.frame in
    let more = c.next_frame.new.self.bytes in
    let is = c.meet-met.ensures ∙ ap (met s.pipe) c.frame.ensures in
    let passes = ap (stands s.pipe s.begins) (sym is) ∙ sym c.stands.ensures ∙ c.if-stands.true in
    let size = ap length (sym c.frame-then-stands.ensures) in
    record {
      frames = ap (λ (v : StreamLeft). v.stream) (sym c.self.view_is)
          ∙ ap (λ (b : Option ℕ). stream_left b s.pipe s.begins s.place s.frames.bytes)
          c.in-None.is
          ∙ ap (framed s.pipe s.begins s.place) c.in-Frame.ensures.1
          ∙ framed_on s.pipe s.begins s.place frame more c.in-Frame.ensures.0 passes
          ∙ ap (λ (n : ℕ). let next = framed s.pipe false (s.place + n) more in
          stream_is (frame ∷ next.frames) next.broken) size
          ∙ ap (λ (b : Option ℕ).
          let next = stream_left b s.pipe false
          (s.place + length c.frame-then-stands.result.now) more in
          stream_is (frame ∷ next.frames) next.broken) (sym c.in-None.is);
      is = is ∙ ap (λ (v : StreamLeft). met v.pipe frame) c.self.view_is;
      pipe_same = ap (λ (v : StreamLeft). v.pipe) c.self.view_is;
      from = ap (λ (v : StreamLeft). v.place) c.self.view_is;
      size = sym size;
      cut = ap (λ (v : StreamLeft). v.bytes) (sym c.self.view_is) ∙ c.in-Frame.ensures.1;
      onwards = ap (λ (n : ℕ). s.place + n) (sym size)
          ∙ ap (λ (v : StreamLeft). v.place + length frame) c.self.view_is;
    }

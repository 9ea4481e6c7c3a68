use Rattle.std.proofs.Common.{[], Some, true, sym, ap, ◌∙◌}
use Rattle.rh_audit.specs.declared.opening.Opening.{Opening}
use Rattle.rh_audit.specs.Captures.{carried}
use Rattle.rh_audit.specs.FramesLeft.{FramesLeft}
use Rattle.rh_audit.specs.Pieces.{all_seen}
use Rattle.rh_audit.specs.Streams.{framed, opened, stream_is}
use Rattle.rh_audit.specs.StreamsLeft.{StreamLeft}
use Rattle.rh_audit.proofs.Streams.{begun_empty, framed_none}
use Rattle.rh_audit.proofs.stream.Stream.behind.Goals as goal

pub returns-in-Waits : goal.returns-in-Waits
returns-in-Waits c =
    let pipe = c.args.pipe in
    let all = carried pipe (all_seen c.args.lines.now) in
    let left : FramesLeft → StreamLeft = λ r. record {
      pipe = pipe;
      stream = framed pipe true 0 r.bytes;
      frame = r.frame;
      place = 0;
      bytes = r.bytes;
    } in
    begun_empty pipe all (opened pipe all c.args.opening) (framed pipe true 0 []) c.at.result
    (c.at.ensures ∙ ap left c.behind.ensures)
    (framed_none pipe true 0 ∙ ap (λ (o : Opening). opened pipe all o) (sym c.in-Waits.is))

pub returns-in-Fails : goal.returns-in-Fails
returns-in-Fails c =
    let pipe = c.args.pipe in
    let all = carried pipe (all_seen c.args.lines.now) in
    let broken = stream_is [] (Some c.in-Fails.place) in
    let left : FramesLeft → StreamLeft = λ r. record {
      pipe = pipe;
      stream = broken;
      frame = r.frame;
      place = 0;
      bytes = r.bytes;
    } in
    begun_empty pipe all (opened pipe all c.args.opening) broken c.at-in-Fails.result
    (c.at-in-Fails.ensures ∙ ap left c.behind-in-Fails.ensures)
    (ap (λ (o : Opening). opened pipe all o) (sym c.in-Fails.is))

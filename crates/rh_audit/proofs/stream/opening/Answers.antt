use Rattle.std.proofs.Common.{length, ap, ◌∙◌, arith}
use Rattle.std.proofs.lemmas.List.{length-take}
use Rattle.rh_http.specs.Reading.{greatest_head}
use Rattle.rh_audit.specs.Captures.{carried}
use Rattle.rh_audit.specs.Pieces.{all_seen}
use Rattle.rh_audit.proofs.stream.opening.Goals as goal

pub opening_of-requires : goal.opening_of-requires
opening_of-requires c =
    omega (
      arith,
      ap length (c.as_slice.ensures.value ∙ c.in_ok-put_front.ensures.bytes),
      length-take greatest_head (carried c.args.pipe (all_seen c.args.lines.now)),
    )

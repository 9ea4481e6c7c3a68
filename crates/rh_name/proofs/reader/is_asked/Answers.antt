-- the text is a line exactly where what stands behind its pipe is hex
use Rattle.rh_name.specs.Readings.{asked_of, hex_of}
use Rattle.rh_name.proofs.reader.is_asked.Goals as goal

pub returns : goal.returns
returns c =
    let text = c.args.text.now in
    let split = c.split_pipe.result in
    let is = c.split_pipe.ensures in (
      λ true.
          let some = c.is_hex.ensures.0 true in (
            record { pipe = split.0; bytes = some.0 },
            asked_of text split.0 split.1.now some.0 is some.1,
          ),
      λ line.
          c.is_hex.ensures.1
          (line.0.bytes, hex_of text split.0 split.1.now is line.0.pipe line.0.bytes line.1),
    )

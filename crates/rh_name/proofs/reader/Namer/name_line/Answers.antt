-- the line that is read is that of its pipe and the bytes behind it
use Rattle.rh_name.specs.Readings.{asked_of, hex_of}
use Rattle.rh_name.proofs.reader.Namer.name_line.Goals as goal

pub unreachable-requires : goal.unreachable-requires
unreachable-requires c =
    let split = c.split_pipe-pipe.result in
    let (asked, is) = c.requires in
    c.in_default.ensures asked.bytes
    (hex_of c.args.line.now split.0 split.1.now c.split_pipe-pipe.ensures asked.pipe asked.bytes is)

pub returns : goal.returns
returns c =
    let split = c.split_pipe-pipe.result in (
      record { pipe = split.0; bytes = c.in-Some.bytes.now },
      asked_of c.args.line.now split.0 split.1.now c.in-Some.bytes.now c.split_pipe-pipe.ensures
          c.in-Some.ensures,
      c.name_packet.ensures,
    )

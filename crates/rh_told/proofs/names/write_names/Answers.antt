-- where there is no memory for a line, a front of all of them was written
use Rattle.std.proofs.Common.{string_bytes, ap}
use Rattle.std.proofs.lemmas.Result.{err_from_is_err_and}
use Rattle.rh_text.proofs.Appending.{written_part}
use Rattle.rh_pdu.specs.Cut.{frames_of}
use Rattle.rh_told.specs.Names.{name_line, names_among, names_text}
use Rattle.rh_told.proofs.names.write_names.Goals as goal

pub returns-in_err-write_name : goal.returns-in_err-write_name
returns-in_err-write_name c =
    let p = err_from_is_err_and c.from_residual.result c.from_residual.ensures.1 in
    rw p.1 (written_part (names_among c.args.pipe c.args.bytes.now)
    (string_bytes c.args.out.now) (string_bytes c.frames.out) (string_bytes c.write_name.new.out)
    (names_text c.args.pipe (frames_of c.frames.rest.now))
    (name_line c.args.pipe c.in-Some.frame.now)
    (names_text c.args.pipe (frames_of c.in-Some.behind.now)) p.0
    (ap (names_text c.args.pipe) c.in-Some.ensures.frame) c.in_err-write_name.ensures
    c.frames.invariant)

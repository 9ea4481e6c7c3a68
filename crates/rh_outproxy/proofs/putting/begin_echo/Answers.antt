use Rattle.std.proofs.Common.{arith, ◌∙◌, sym, length-take-le}
use Rattle.rh_http.specs.Texts.{response_text}
use Rattle.rh_outproxy.specs.Putting.{echo_packet}
use Rattle.rh_outproxy.proofs.ResponseTexts.{response_fits, over_behind}
use Rattle.rh_outproxy.proofs.putting.begin_echo.Goals as goal

pub write_echo_packet-requires : goal.write_echo_packet-requires
write_echo_packet-requires c =
    let fits = response_fits 20 (omega arith) in omega (arith, c.in-Ok.ensures.writes.0, fits)

pub slice_bounds-text-end : goal.slice_bounds-text-end
slice_bounds-text-end c =
    let fits = response_fits 20 (omega arith) in
    omega (arith, c.in-Ok.ensures.writes.0, fits, c.write_echo_packet.array_long)

pub slice_bounds-begin-end : goal.slice_bounds-begin-end
slice_bounds-begin-end c =
    let fits = response_fits 20 (omega arith) in
    sym (length-take-le _ _
    (omega (arith, c.in-Ok.ensures.writes.0, fits, c.write_echo_packet.array_long)))

pub unreachable-requires : goal.unreachable-requires
unreachable-requires c =
    let fits = response_fits 20 (omega arith) in
    absurd (omega (arith, c.in-Err.ensures.writes.0, c.in-Err.ensures.writes.1, fits))

pub returns : goal.returns
returns c =
    let w = c.in-Ok.ensures.writes in
    c.begin.ensures
    ∙ rw c.write_echo_packet.ensures (
    over_behind (response_text 20) _ echo_packet c.write_echo.new.room c.in-Ok.len w.0 w.2
    )

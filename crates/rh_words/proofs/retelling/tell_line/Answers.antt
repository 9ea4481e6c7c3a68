-- the line is told first, and its answers behind it
use Rattle.std.proofs.Common.{◌++◌, Err, string_bytes, sym, ap}
use Rattle.rh_teller.specs.Tales.{told}
use Rattle.rh_world.specs.Any as seen
use Rattle.rh_word.specs.Outputs.{out, Gathers, Stops}
use Rattle.rh_word.proofs.Results.{at_error, map_err, map_ok, of_err}
use Rattle.rh_words.proofs.Following.{gathers_both, stops_first, stops_second, sure_first, sure_second}
use Rattle.rh_words.proofs.retelling.tell_line.Goals as goal

pub returns-in_err-gather_line-clause-err : goal.returns-in_err-gather_line-clause-err
returns-in_err-gather_line-clause-err g c =
    let tale = g.T.Teller.tale in
    let line = tale.line c.args.teller.now c.args.line.now in
    let heard = tale.heard c.args.teller.now c.args.line.now in
    let answers = told tale heard (seen.step c.args.world.now c.args.line.now).1 in
    at_error c.from_residual.result _
    (stops_first (string_bytes c.args.gathered.now) line answers c.in_err-gather_line.ensures.err)

pub returns-in_err-gather_line-clause-takes : goal.returns-in_err-gather_line-clause-takes
returns-in_err-gather_line-clause-takes g c = λ fits said.
    let tale = g.T.Teller.tale in
    let line = tale.line c.args.teller.now c.args.line.now in
    let heard = tale.heard c.args.teller.now c.args.line.now in
    let answers = told tale heard (seen.step c.args.world.now c.args.line.now).1 in
    c.in_err-gather_line.ensures.takes
    (sure_first (string_bytes c.args.gathered.now) line answers _ fits)
    (ap Err (sym (of_err _ c.from_residual.result said c.from_residual.ensures.1)))

pub returns-clause-ok : goal.returns-clause-ok
returns-clause-ok g c =
    let tale = g.T.Teller.tale in
    let line = tale.line c.args.teller.now c.args.line.now in
    let heard = tale.heard c.args.teller.now c.args.line.now in
    let answers = told tale heard (seen.step c.args.world.now c.args.line.now).1 in
    let there = c.in_ok-gather_line.ensures.teller in
    map_ok c.answer_line.result
    (λ (wrote : Gathers (string_bytes c.gather_line.new.gathered ++ answers)
    (string_bytes c.answer_line.new.gathered)
    (out g.W.Sink.written g.W.Sink.takes c.gather_line.new.output)
    (out g.W.Sink.written g.W.Sink.takes c.answer_line.new.output)).
    gathers_both (string_bytes c.args.gathered.now) line answers c.in_ok-gather_line.ensures.ok
    wrote)
    (rw there at c.answer_line.ensures.ok)

pub returns-clause-err : goal.returns-clause-err
returns-clause-err g c =
    let tale = g.T.Teller.tale in
    let line = tale.line c.args.teller.now c.args.line.now in
    let heard = tale.heard c.args.teller.now c.args.line.now in
    let answers = told tale heard (seen.step c.args.world.now c.args.line.now).1 in
    let there = c.in_ok-gather_line.ensures.teller in
    map_err c.answer_line.result
    (λ (wrote : Stops (string_bytes c.gather_line.new.gathered ++ answers)
    (g.W.Sink.written c.gather_line.new.output)
    (g.W.Sink.written c.answer_line.new.output)).
    stops_second (string_bytes c.args.gathered.now) line answers c.in_ok-gather_line.ensures.ok
    wrote)
    (rw there at c.answer_line.ensures.err)

pub returns-clause-takes : goal.returns-clause-takes
returns-clause-takes g c = λ fits.
    let tale = g.T.Teller.tale in
    let line = tale.line c.args.teller.now c.args.line.now in
    let heard = tale.heard c.args.teller.now c.args.line.now in
    let answers = told tale heard (seen.step c.args.world.now c.args.line.now).1 in
    let there = c.in_ok-gather_line.ensures.teller in
    (rw there at c.answer_line.ensures.takes)
    (sure_second (string_bytes c.args.gathered.now) line answers c.in_ok-gather_line.ensures.ok
    fits)

-- nothing was written where there was no memory for the report
use Rattle.std.proofs.Common.{◌++◌, ◌∷◌, string_bytes}
use Rattle.rh_teller.specs.Tales.{told}
use Rattle.rh_world.specs.Any as seen
use Rattle.rh_word.specs.Outputs.{out}
use Rattle.rh_word.proofs.Results.{at_error}
use Rattle.rh_word.proofs.Gathering.{stops_now}
use Rattle.rh_words.proofs.retelling.end_line.Goals as goal

pub returns-in_err-push-clause-err : goal.returns-in_err-push-clause-err
returns-in_err-push-clause-err g c =
    at_error c.from_residual.result _
    (stops_now
    (string_bytes c.args.gathered.now
    ++ told g.T.Teller.tale c.args.teller.now (c.args.answer ∷ (seen.end_line c.args.world.now).1))
    (out g.W.Sink.written g.W.Sink.takes c.args.output.now))

pub returns-in_err-end_line-clause-err : goal.returns-in_err-end_line-clause-err
returns-in_err-end_line-clause-err g c =
    at_error c.from_residual-in_err-end_line.result _
    (stops_now
    (string_bytes c.args.gathered.now
    ++ told g.T.Teller.tale c.args.teller.now (c.args.answer ∷ (seen.end_line c.args.world.now).1))
    (out g.W.Sink.written g.W.Sink.takes c.args.output.now))

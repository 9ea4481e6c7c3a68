-- where there is no memory or no room, what would have been told
use Rattle.std.proofs.Common.{[], ◌∷◌, ◌++◌, refl, string_bytes}
use Rattle.rh_name.specs.Telling.{told}
use Rattle.rh_word.specs.Outputs.{out}
use Rattle.rh_packet_words.specs.Names.{goes_on}
use Rattle.rh_word.proofs.Results.{at_error, ok_no_err}
use Rattle.rh_word.proofs.Gathering.{stops_now}
use Rattle.rh_packet_words.proofs.name.NameWordNames.write_line.Goals as goal

pub returns-in_err-name_line-clause-err : goal.returns-in_err-name_line-clause-err
returns-in_err-name_line-clause-err g c =
    let (line, spelled) = c.requires.line in
    let (said, next, does) = goes_on tt tt c.args.line.now line spelled in
    at_error c.from_residual.result _ (
      line,
      said,
      c.args.self.now,
      spelled,
      does,
      stops_now (string_bytes c.args.gathered.now ++ said)
          (out g.W.Sink.written g.W.Sink.takes c.args.output.now),
    )

pub returns-clause-takes : goal.returns-clause-takes
returns-clause-takes g c = λ all said.
    let (line, spelled, is) = c.in_ok-name_line.ensures in
    let fits = all line (told line.pipe line.bytes ++ 10 ∷ []) c.args.self.now spelled refl in
    ok_no_err c.pass_on.result (c.pass_on.ensures.takes (rw is fits)) said

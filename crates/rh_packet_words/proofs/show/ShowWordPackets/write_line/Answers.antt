-- where there is no memory or no room, what would have been told
use Rattle.std.proofs.Common.{[], ◌∷◌, ◌++◌, refl, string_bytes}
use Rattle.rh_word.specs.Outputs.{out}
use Rattle.rh_packet_words.specs.Shows.{goes_on}
use Rattle.rh_word.proofs.Results.{at_error, ok_no_err}
use Rattle.rh_word.proofs.Gathering.{stops_now}
use Rattle.rh_packet_words.proofs.show.ShowWordPackets.write_line.Goals as goal

pub returns-in_err-show_packet-clause-err : goal.returns-in_err-show_packet-clause-err
returns-in_err-show_packet-clause-err g c =
    let (bytes, spelled) = c.requires.line in
    let (told, next, does) = goes_on tt tt c.args.line.now bytes spelled in
    at_error c.from_residual.result _ (
      bytes,
      told,
      c.args.self.now,
      spelled,
      does,
      stops_now (string_bytes c.args.gathered.now ++ told)
          (out g.W.Sink.written g.W.Sink.takes c.args.output.now),
    )

pub returns-clause-takes : goal.returns-clause-takes
returns-clause-takes g c = λ all said.
    let (line, shown, is) = c.in_ok-show_packet.ensures in
    let fits = all c.in-Some.bytes.now (line ++ 10 ∷ []) c.args.self.now c.in-Some.ensures
    (line, shown, refl) in
    ok_no_err c.pass_on.result (c.pass_on.ensures.takes (rw is fits)) said

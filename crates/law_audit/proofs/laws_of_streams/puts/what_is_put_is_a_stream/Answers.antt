use Rattle.law_order.proofs.Vocabulary.{Some}
use Rattle.law_audit.proofs.Streams.Messages.{streams}
use Rattle.law_audit.proofs.laws_of_streams.puts.what_is_put_is_a_stream.Goals as goal

pub returns : goal.returns
returns c =
    streams
    (record {
      agrees = c.packets_are_named.ensures.agrees;
      sound = c.packets_are_named.ensures.sound;
      back = c.packets_are_named.ensures.back;
      fine = c.packets_are_named.ensures.fine;
    })
    (λ pipe message. c.what_may_go_reads_back.ensures.message (Some pipe) message)

use Rattle.law_order.proofs.Vocabulary.{ap, ◌∙◌, Some, None, Option}
use Rattle.law_moves.proofs.Vocabulary.{prefix_trans, Pipe, Message, Text, Pdu, Packet, spelled, MayGoOn, ReadsBack, Answers, AreTaken}
use Rattle.law_moves.proofs.Legible.Each.{each_so}
use Rattle.law_moves.proofs.ReadBack.PutsWell.{IsWellFrame, put_well}
use Rattle.law_moves.proofs.reading.well.what_was_put_reads_well.Goals as goal

pub returns : goal.returns
returns c = λ well pipe put drawn heard taken begins may texts p h.
    put_well well pipe put begins
    (each_so (MayGoOn pipe) (ReadsBack pipe) (λ message goes.
    c.what_may_go_reads_back.ensures.message pipe message goes) put may) texts
    (each_so (MayGoOn pipe) (IsWellFrame well pipe) (λ message goes.
    frame pipe well taken message goes) put may) heard (prefix_trans heard drawn (spelled put) h p)
  where
    frame : (pipe : Option Pipe) (well : Answers) → AreTaken well → (message : Message)
        → MayGoOn pipe message → IsWellFrame well pipe message
    frame pipe well taken (Text bytes) may = tt
    frame pipe well taken (Pdu pdu) may = λ is. absurd (may.not_rts is)
    frame None well taken (Packet named) may = absurd may
    frame (Some pipe) well taken (Packet named) may = λ is.
        ap well (c.a_packet_that_may_go_is_read.ensures pipe named may) ∙ taken named

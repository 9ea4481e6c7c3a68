-- of messages that are no texts each text reads well
use Rattle.law_order.proofs.Vocabulary.{List, AllByRecursion, Option}
use Rattle.law_moves.proofs.Vocabulary.{Pipe, Message, Text, Pdu, Packet, AreNoTexts, IsNoText, Answers, IsWellText}
use Rattle.law_moves.proofs.Legible.Each.{each_so}

pub no_texts_well : (well : Answers) (pipe : Option Pipe) (messages : List Message)
    → AreNoTexts messages → AllByRecursion (IsWellText well pipe) messages
no_texts_well well pipe messages none =
    each_so IsNoText (IsWellText well pipe) (λ message is. one message is) messages none
  where
    one : (message : Message) → IsNoText message → IsWellText well pipe message
    one (Text bytes) is = absurd is
    one (Pdu pdu) is = tt
    one (Packet named) is = tt

-- a server expects what comes next on an is leg, by the kinds of packets
use Rattle.law_order.proofs.Vocabulary.{List}
use Rattle.law_moves.proofs.Vocabulary.{Named, InR1A2, InR1A6, InR2A2, Leg, Message, Rules, Passage}
use Rattle.law_peers_moments.specs.Expecting.{Expects}
use Rattle.law_peers_in_channels.specs.ServerExpects.Expected.{AnnouncesNone, ExpectsPdus, ExpectsThose}
use Rattle.law_peers_in_channels.specs.InSuccessors.Successors.{Announces}
use Rattle.law_peers_in_channels.specs.InHandovers.{HandsOver}

module _ {S : Type 0} (rules : Rules S) (p : Passage S) (leg : Leg) (all : List Message)
    (announces : ExpectsThose Announces rules p leg all)
    (hands_over : ExpectsThose HandsOver rules p leg all)
    (others : ExpectsThose AnnouncesNone rules p leg all) where
  abbrev Any : Named → Type 0
  Any m = Unit {0}

  each : ExpectsThose Any rules p leg all
  each count (InR1A2 version connection predecessor successor window timeout) why is =
      announces count (InR1A2 version connection predecessor successor window timeout) why tt
  each count (InR2A2 successor) why is = announces count (InR2A2 successor) why tt
  each count (InR1A6 successor) why is = hands_over count (InR1A6 successor) why tt
  each count m why is = others count m why tt

  pub expects_all : ExpectsPdus rules p leg all → Expects rules p leg all
  expects_all pdus = record {
    packet = λ count m why used up tells ahead refuses amiss.
        each count m why tt used tells ahead refuses amiss;
    pdu = pdus;
  }

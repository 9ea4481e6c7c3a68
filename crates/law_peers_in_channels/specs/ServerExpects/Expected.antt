-- what a server expects of its in proxies (MS-RPCH 3.2.5; replacement is this profile's)
use Rattle.std.specs.Prelude.{ℕ, ◌≡◌, List, IsTrue, Err}
use Rattle.rh_sig.specs.declared.named.Named.{Named}
use Rattle.rh_sig.specs.declared.named.Named.TheVariants.{InR1A2, InR1A6, InR2A2}
use Rattle.rh_line.specs.declared.leg.Leg.{Leg}
use Rattle.rh_shell.specs.declared.answers.Count.{Count}
use Rattle.rh_shell.specs.declared.answers.Refused.{Refused}
use Rattle.rh_shell.specs.Rules.{Message, Rules, Pdu, Packet}
use Rattle.law_moves.specs.Moves.{Passage, is_in_use}
use Rattle.law_moves.specs.Wires.{of_leg}
use Rattle.law_moves.specs.Passages.Counted.{Tells, packets}
use Rattle.law_peers_moments.specs.Expecting.{IsAhead, IsAmiss}

-- where the next message is one of these packets, it is not refused as unexpected or for its
-- cookie, by its true count
abbrev pub ExpectsThose : {S : Type 0} → (Named → Type 0) → Rules S → Passage S → Leg
    → List Message → Type 0
ExpectsThose Is rules p leg all =
    (count : Count) (named : Named) (why : Refused) → Is named
    → IsTrue (is_in_use rules p.role leg) → Tells count (packets (of_leg leg p.came))
    → IsAhead p leg all (Packet named)
    → (rules.packet p.role leg count named).1 ≡ Err why → IsAmiss why → ⊥

-- where the next message is an RPC PDU, on a leg that was up, it is not refused so
abbrev pub ExpectsPdus : {S : Type 0} → Rules S → Passage S → Leg → List Message → Type 0
ExpectsPdus rules p leg all =
    (count : Count) (bytes : List ℕ) (why : Refused)
    → IsTrue (is_in_use rules p.role leg) → IsTrue (rules.was_up p.role leg)
    → IsAhead p leg all (Pdu bytes)
    → (rules.pdu p.role leg count bytes).1 ≡ Err why → IsAmiss why → ⊥

-- no packet that announces a successor of an IN channel, or hands over to it
abbrev pub AnnouncesNone : Named → Type 0
AnnouncesNone (InR1A2 version connection predecessor successor window timeout) = ⊥
AnnouncesNone (InR1A6 successor) = ⊥
AnnouncesNone (InR2A2 successor) = ⊥
AnnouncesNone packet = Unit {0}

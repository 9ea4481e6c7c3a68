-- why a client refuses what comes, by what came and what it put before (MS-RPCH 3.2.2.5; of
-- replacements and of a clean end, this profile's)
use Rattle.std.specs.Prelude.{ℕ, ◌≡◌, ◌⊎◌, ◌+◌, ◌<◌, ◌≤◌, Bool, true, false, List, Err}
use Rattle.rh_rts.specs.declared.command.Cookie.{Cookie}
use Rattle.rh_rts.specs.declared.command.TheConstants.{TO_CLIENT}
use Rattle.rh_sig.specs.declared.named.Named.{Named}
use Rattle.rh_sig.specs.declared.named.Named.TheVariants.{ConnA3, ConnC2, AckTo, InR1A4, InR2A4, OutR1A2, OutR1A6, OutR1A10, EndB2}
use Rattle.rh_line.specs.declared.leg.Leg.{Leg}
use Rattle.rh_line.specs.declared.leg.LegKind.{LegKind}
use Rattle.rh_line.specs.declared.leg.LegKind.TheVariants.{ClientOut, OutServer, ClientIn, InServer}
use Rattle.rh_shell.specs.declared.answers.Count.{Count}
use Rattle.rh_shell.specs.declared.answers.Count.TheVariants as count
use Rattle.rh_shell.specs.declared.answers.Refused.TheVariants as refused
use Rattle.rh_client.specs.declared.channels.TheConstants.{LAST_NUMBER}
use Rattle.rh_client.specs.declared.state.ClientRole.{ClientRole}
use Rattle.rh_client.specs.State.{co}
use Rattle.rh_client.specs.Client.{rules}
use Rattle.law_moves.specs.Moves.{Passage, is_in_use}
use Rattle.law_moves.specs.Wires.{of_leg}
use Rattle.law_moves.specs.Passages.Counted.{Tells, packets}
use Rattle.law_moves.specs.Passages.Passing.{Has, count_of}
use Rattle.law_role_client.specs.Counted.Opening.{opened}
use Rattle.law_role_client.specs.Counted.Replacing.{in_asked, in_answered, out_wanted, out_asked, out_answered, out_switched, out_finished}

-- ---- packets that came before

-- MS-RPCH 2.2.4
abbrev pub is_conn_a3 : Named → Bool
is_conn_a3 (ConnA3 timeout) = true
is_conn_a3 packet = false

-- ---- RPC PDUs

-- CONN/C2 did not come, or END/B2 came on this leg, or it is the successor's and OUT_R1/A7 was not
-- put. No PDU is read on other legs
abbrev pub UnexpectedPduBy : Passage ClientRole → ℕ → LegKind → Type 0
UnexpectedPduBy p n ClientOut =
    (opened p ≡ 0)
    ⊎ (Has EndB2 (of_leg (co n) p.came)
    ⊎ ((n ≡ out_finished p + 2) × (out_switched p ≡ out_finished p)))
UnexpectedPduBy p n OutServer = Unit {0}
UnexpectedPduBy p n ClientIn = Unit {0}
UnexpectedPduBy p n InServer = Unit {0}

abbrev pub UnexpectedPdu : Passage ClientRole → Leg → Type 0
UnexpectedPdu p leg = UnexpectedPduBy p leg.number leg.kind

-- ---- packets

-- CONN/A3 comes first on the first channel, and CONN/C2 there behind it, once (MS-RPCH 3.2.2.5). An
-- acknowledgement, OUT_R1/A2 and END/B2 come behind CONN/C2. An answer for an IN channel follows an
-- IN_R1/A1. OUT_R1/A2 comes where none waits, and not on a channel whose successor was asked for.
-- OUT_R1/A6 follows an OUT_R1/A3, and OUT_R1/A10 an OUT_R1/A7, on the channel that is replaced.
-- END/B2 comes once on each. No row is asked about a Ping, and no other packet is of OUT channels
abbrev pub UnexpectedOn : Passage ClientRole → ℕ → Named → Type 0
UnexpectedOn p n (ConnA3 timeout) = (n ≡ 1 → ⊥) ⊎ (0 < packets (of_leg (co n) p.came))
UnexpectedOn p n (ConnC2 version window timeout) =
    (n ≡ 1 → ⊥)
    ⊎ ((opened p ≡ 1) ⊎ (count_of is_conn_a3 (of_leg (co n) p.came) ≡ 0))
UnexpectedOn p n (AckTo to received available of) = (to ≡ TO_CLIENT → ⊥) ⊎ (opened p ≡ 0)
UnexpectedOn p n (InR1A4 to version window timeout) =
    (to ≡ TO_CLIENT → ⊥) ⊎ (in_asked p ≡ in_answered p)
UnexpectedOn p n (InR2A4 to) = (to ≡ TO_CLIENT → ⊥) ⊎ (in_asked p ≡ in_answered p)
UnexpectedOn p n (OutR1A2 to) =
    (to ≡ TO_CLIENT → ⊥)
    ⊎ ((opened p ≡ 0)
    ⊎ ((LAST_NUMBER ≤ n)
    ⊎ ((out_asked p < out_wanted p)
    ⊎ ((n ≡ out_asked p) × (out_wanted p ≡ out_asked p) × (out_asked p ≡ out_finished p + 1)))))
UnexpectedOn p n (OutR1A6 to version timeout) =
    (to ≡ TO_CLIENT → ⊥)
    ⊎ ((out_asked p ≡ out_answered p) ⊎ (n ≡ out_answered p + 1 → ⊥))
UnexpectedOn p n OutR1A10 = (out_switched p ≡ out_finished p) ⊎ (n ≡ out_finished p + 1 → ⊥)
UnexpectedOn p n EndB2 = (opened p ≡ 0) ⊎ Has EndB2 (of_leg (co n) p.came)
UnexpectedOn p n packet = Unit {0}

-- no packet is read on other legs
abbrev pub UnexpectedBy : Passage ClientRole → ℕ → Named → LegKind → Type 0
UnexpectedBy p n named ClientOut = UnexpectedOn p n named
UnexpectedBy p n named OutServer = Unit {0}
UnexpectedBy p n named ClientIn = Unit {0}
UnexpectedBy p n named InServer = Unit {0}

abbrev pub Unexpected : Passage ClientRole → Leg → Named → Type 0
Unexpected p leg named = UnexpectedBy p leg.number named leg.kind

-- ---- what it refuses

-- on a leg that was up and is in use, it refuses as unexpected only what is so; and nothing for its
-- cookie, on any leg
pub record Refuses (p : Passage ClientRole) : Type 0 where
  pub pdu : (leg : Leg) (count : Count) (bytes : List ℕ) → is_in_use rules p.role leg ≡ true
      → rules.was_up p.role leg ≡ true
      → (rules.pdu p.role leg count bytes).1 ≡ Err refused.Unexpected → UnexpectedPdu p leg
  pub packet : (leg : Leg) (count : Count) (named : Named) → is_in_use rules p.role leg ≡ true
      → rules.was_up p.role leg ≡ true → Tells count (packets (of_leg leg p.came))
      → (rules.packet p.role leg count named).1 ≡ Err refused.Unexpected
      → Unexpected p leg named
  pub pdu_cookie : (leg : Leg) (count : Count) (bytes : List ℕ) (expected got : Cookie)
      → (rules.pdu p.role leg count bytes).1 ≡ Err (refused.Cookie expected got) → ⊥
  pub cookie : (leg : Leg) (count : Count) (named : Named) (expected got : Cookie)
      → (rules.packet p.role leg count named).1 ≡ Err (refused.Cookie expected got) → ⊥

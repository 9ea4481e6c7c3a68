-- what the packets of replacements name: the connection, and channels that began before (MS-RPCH
-- 2.2.4; successors are this profile's)
use Rattle.std.specs.Prelude.{ℕ, ◌≡◌, ◌⊎◌, ◌+◌, ◌<◌, ◌≤◌, ◌++◌, List, [], ◌∷◌}
use Rattle.rh_rts.specs.declared.command.Cookie.{Cookie}
use Rattle.rh_sig.specs.declared.named.Named.{Named}
use Rattle.rh_sig.specs.declared.named.Named.TheVariants.{ConnA1, ConnB1, InR1A1, InR1A5}
use Rattle.rh_sig.specs.declared.named.Named.TheVariants.{OutR1A3, OutR1A7}
use Rattle.rh_line.specs.declared.leg.LegKind.TheVariants.{ClientIn, ClientOut}
use Rattle.rh_shell.specs.Rules.{Text, Pdu, Packet}
use Rattle.rh_client.specs.declared.state.ClientRole.{ClientRole}
use Rattle.rh_client.specs.State.{ci, co}
use Rattle.law_moves.specs.Moves.{OnLeg, Passage}
use Rattle.law_moves.specs.Wires.{of_leg}
use Rattle.law_moves.specs.Passages.Passing.{Has, HasBegunIn, HasBegunOut}
use Rattle.law_role_client.specs.Counted.Counting.{is_conn_a1, is_conn_b1, is_out_r1_a7, total, StandsOnEach}

-- each message of a log is so, behind those before it
abbrev pub EachBehind : (List OnLeg → OnLeg → Type 0) → List OnLeg → List OnLeg → Type 0
EachBehind Is front [] = Unit {0}
EachBehind Is front (one ∷ log) = Is front one × EachBehind Is (front ++ one ∷ []) log

-- ---- IN channels

-- IN_R1/A1 on a channel names the one before it, which began if CONN/B1 was put or it is not the
-- first; IN_R1/A5 names the one behind it
abbrev pub NamesInBy : Cookie → List OnLeg → ℕ → Named → Type 0
NamesInBy connection front n (ConnB1 version of channel lifetime keepalive group) =
    of ≡ connection
NamesInBy connection front n (InR1A1 version of predecessor successor) =
    (of ≡ connection)
    × ((k : ℕ) → n ≡ k + 1 → (2 ≤ k) ⊎ (0 < total is_conn_b1 ClientIn front)
    → HasBegunIn predecessor (of_leg (ci k) front))
NamesInBy connection front n (InR1A5 successor) =
    HasBegunIn successor (of_leg (ci (n + 1)) front)
NamesInBy connection front n packet = Unit {0}

abbrev pub NamesIn : Cookie → List OnLeg → OnLeg → Type 0
NamesIn connection front (leg, Text bytes) = Unit {0}
NamesIn connection front (leg, Pdu pdu) = Unit {0}
NamesIn connection front (leg, Packet named) = NamesInBy connection front leg.number named

-- CONN/B1 is put at most once, and on the first channel; and each channel has one cookie
pub record NamesIns (connection : Cookie) (p : Passage ClientRole) : Type 0 where
  pub names : EachBehind (NamesIn connection) [] p.put
  pub once : total is_conn_b1 ClientIn p.put ≤ 1
  pub begins_on : StandsOnEach is_conn_b1 ClientIn 1 p.put
  pub one : (n : ℕ) (a b : Cookie) → HasBegunIn a (of_leg (ci n) p.put)
      → HasBegunIn b (of_leg (ci n) p.put) → a ≡ b
  -- among all that was put
  pub asks : (n version : ℕ) (of predecessor successor : Cookie)
      → Has (InR1A1 version of predecessor successor) (of_leg (ci n) p.put)
      → (of ≡ connection)
      × HasBegunIn successor (of_leg (ci n) p.put)
      × ((k : ℕ) → n ≡ k + 1 → 2 ≤ k → HasBegunIn predecessor (of_leg (ci k) p.put))
  pub hands_over : (n : ℕ) (successor : Cookie)
      → Has (InR1A5 successor) (of_leg (ci n) p.put)
      → HasBegunIn successor (of_leg (ci (n + 1)) p.put)

-- ---- OUT channels

-- OUT_R1/A3 on a channel names the one before it, which began if CONN/A1 was put or it is not the
-- first; the first OUT_R1/A7 names the second channel, and each further one the channel behind
abbrev pub NamesOutBy : Cookie → List OnLeg → ℕ → Named → Type 0
NamesOutBy connection front n (ConnA1 version of channel window) = of ≡ connection
NamesOutBy connection front n (OutR1A3 version of predecessor successor window) =
    (of ≡ connection)
    × ((k : ℕ) → n ≡ k + 1 → (2 ≤ k) ⊎ (0 < total is_conn_a1 ClientOut front)
    → HasBegunOut predecessor (of_leg (co k) front))
NamesOutBy connection front n (OutR1A7 destination successor) =
    HasBegunOut successor (of_leg (co (total is_out_r1_a7 ClientIn front + 2)) front)
NamesOutBy connection front n packet = Unit {0}

abbrev pub NamesOut : Cookie → List OnLeg → OnLeg → Type 0
NamesOut connection front (leg, Text bytes) = Unit {0}
NamesOut connection front (leg, Pdu pdu) = Unit {0}
NamesOut connection front (leg, Packet named) = NamesOutBy connection front leg.number named

-- CONN/A1 is put at most once, and on the first channel; and each channel has one cookie
pub record NamesOuts (connection : Cookie) (p : Passage ClientRole) : Type 0 where
  pub names : EachBehind (NamesOut connection) [] p.put
  pub once : total is_conn_a1 ClientOut p.put ≤ 1
  pub begins_on : StandsOnEach is_conn_a1 ClientOut 1 p.put
  pub one : (n : ℕ) (a b : Cookie) → HasBegunOut a (of_leg (co n) p.put)
      → HasBegunOut b (of_leg (co n) p.put) → a ≡ b
  -- among all that was put
  pub asks : (n version : ℕ) (of predecessor successor : Cookie) (window : ℕ)
      → Has (OutR1A3 version of predecessor successor window) (of_leg (co n) p.put)
      → (of ≡ connection)
      × HasBegunOut successor (of_leg (co n) p.put)
      × ((k : ℕ) → n ≡ k + 1 → 2 ≤ k → HasBegunOut predecessor (of_leg (co k) p.put))

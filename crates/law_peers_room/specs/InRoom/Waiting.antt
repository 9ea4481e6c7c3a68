-- what waits in an in proxy to be forwarded, in the order in which it came on its ci legs (profile)
use Rattle.std.specs.Prelude.{ℕ, suc, ◌≡◌, ◌≤◌, ◌<◌, ◌+◌, ◌++◌, List, [], ◌∷◌, false}
use Rattle.std.specs.List.{AllByRecursion}
use Rattle.rh_rts.specs.declared.command.Cookie.{Cookie}
use Rattle.rh_rts.specs.declared.command.TheConstants.{TO_OUT_PROXY}
use Rattle.rh_sig.specs.declared.named.Named.{Named}
use Rattle.rh_sig.specs.declared.named.Named.TheVariants.{AckTo, OutR1A8}
use Rattle.rh_line.specs.declared.leg.LegKind.TheVariants.{ClientIn}
use Rattle.rh_shell.specs.declared.due.Due.{Due}
use Rattle.rh_shell.specs.declared.waiting.TheConstants.{FORWARDED_ROOM}
use Rattle.rh_shell.specs.Rules.{Packet}
use Rattle.rh_shell.specs.Shells.{one_if}
use Rattle.rh_shell.specs.Waiting.{takes}
use Rattle.rh_inproxy.specs.State.{InProxy}
use Rattle.rh_client.specs.State.{ci}
use Rattle.law_moves.specs.Moves.{OnLeg, Passage}
use Rattle.law_moves.specs.Wires.{of_leg}
use Rattle.law_moves.specs.Passages.Passing.{count_of, of_kind}
use Rattle.law_role_inproxy.specs.Counted.{is_leg}
use Rattle.law_role_client.specs.Counted.Counting.{is_out_r1_a7}
use Rattle.law_role_server.specs.Counted.Counting.{is_out_r1_a8}

-- OUT_R1/A7 that came on all ci legs, and OUT_R1/A8 that were put on the is leg of this number
abbrev pub switches : List OnLeg → ℕ
switches came = count_of is_out_r1_a7 (of_kind ClientIn came)

abbrev pub passed : ℕ → List OnLeg → ℕ
passed n put = count_of is_out_r1_a8 (of_leg (is_leg n) put)

-- an acknowledgement of this channel came behind at least so many OUT_R1/A7, and before it nothing
-- on a ci leg behind the next one
pub record CameBehind (often : ℕ) (channel : Cookie) (came : List OnLeg) : Type 0 where
  pub before : List OnLeg
  pub later : List OnLeg
  pub number : ℕ
  pub received : ℕ
  pub available : ℕ
  pub is : came
      ≡ before ++ (ci number, Packet (AckTo TO_OUT_PROXY received available channel)) ∷ later
  pub behind : often ≤ switches before
  pub near : (k : ℕ) → suc number < k → of_leg (ci k) before ≡ []

-- such an acknowledgement to the out proxy, or OUT_R1/A8
abbrev pub IsInTurn : ℕ → List OnLeg → Named → Type 0
IsInTurn often came (AckTo to received available channel) =
    (to ≡ TO_OUT_PROXY) × CameBehind often channel came
IsInTurn often came (OutR1A8 to successor) = Unit {0}
IsInTurn often came packet = ⊥

-- each packet that waits came behind as many OUT_R1/A7 as OUT_R1/A8 were put or wait before it; and
-- of each OUT_R1/A7 that came the OUT_R1/A8 was put or waits
abbrev pub WaitFrom : ℕ → List OnLeg → List Due → Type 0
WaitFrom often came [] = often ≡ switches came
WaitFrom often came (due ∷ dues) =
    IsInTurn often came due.packet
    × WaitFrom (often + one_if (is_out_r1_a8 due.packet)) came dues

-- none is merged with one behind it
abbrev pub AreApart : List Due → Type 0
AreApart [] = Unit {0}
AreApart (due ∷ dues) =
    AllByRecursion (λ (other : Due). takes other.packet due ≡ false) dues × AreApart dues

-- of the in proxy with this number
pub record WaitsInTurn (n : ℕ) (p : Passage InProxy) : Type 0 where
  pub room : p.role.waiting.room ≡ FORWARDED_ROOM
  pub turn : WaitFrom (passed n p.put) p.came p.role.waiting.due
  pub apart : AreApart p.role.waiting.due

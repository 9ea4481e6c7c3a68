-- moves by which a node loses no leg, and the legs for which it has no more use (profile)
use Rattle.std.specs.Prelude.{◌≡◌, ◌||◌, ℕ, List, Bool, true, false, nat_le, Ok}
use Rattle.law_order.specs.Items.{Item, has_end, has_handover}
use Rattle.law_order.specs.Logs.{Log, through}
use Rattle.rh_http.specs.Lengths.{greatest_echo}
use Rattle.rh_http.specs.Heads.Verdicts.{Asked, request_verdict}
use Rattle.rh_line.specs.declared.leg.Leg.{Leg}
use Rattle.rh_line.specs.declared.leg.LegKind.TheVariants.{ClientIn, InServer}
use Rattle.rh_shell.specs.Rules.{Rules}
use Rattle.law_moves.specs.Moves.{Move, HeadCame, is_in_use}

-- the legs of an IN channel
abbrev pub ci_leg : ℕ → Leg
ci_leg n = record { kind = ClientIn; number = n }

abbrev pub is_leg : ℕ → Leg
is_leg n = record { kind = InServer; number = n }

-- ---- moves

-- as a request for an IN channel (true) or an OUT channel it asks for no echo (MS-RPCH 2.1.2)
abbrev pub AsksNoEcho : Bool → List ℕ → Type 0
AsksNoEcho inbound text =
    (asked : Asked) → request_verdict inbound text ≡ Ok asked
    → nat_le asked.length greatest_echo ≡ false

-- a head that comes by the move is such
abbrev pub HeadsAre : (List ℕ → Type 0) → Move → Type 0
HeadsAre Heads (HeadCame leg text) = Heads text
HeadsAre Heads move = Unit {0}

-- ---- legs

-- or END is
abbrev pub IsDoneBehindEnd : {S : Type 0} → Rules S → S → Leg → List Item → Type 0
IsDoneBehindEnd rules s leg came =
    is_in_use rules s leg ≡ false → (has_handover came || has_end came) ≡ true

-- or END is, there or on one of the legs before
abbrev pub IsDoneBehindEnds : {S : Type 0} → Rules S → S → Leg → Log → ℕ → Type 0
IsDoneBehindEnds rules s leg came n =
    is_in_use rules s leg ≡ false → (has_handover (came n) || has_end (through came n)) ≡ true

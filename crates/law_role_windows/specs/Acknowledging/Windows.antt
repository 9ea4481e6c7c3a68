-- the window of an IN channel on its way to the client: an in proxy tells it to the server, that
-- tells it to an out proxy, and that to the client (MS-RPCH 3.2; of a successor, profile)
use Rattle.std.specs.Prelude.{◌≡◌, ℕ, List}
use Rattle.rh_sig.specs.declared.named.Named.{Named}
use Rattle.rh_sig.specs.declared.named.Named.TheVariants.{ConnB2, ConnC1, ConnC2, InR1A2, InR1A3, InR1A4}
use Rattle.rh_line.specs.declared.leg.Leg.{Leg}
use Rattle.rh_line.specs.declared.leg.LegKind.{LegKind}
use Rattle.law_moves.specs.Moves.{OnLeg, Passage}
use Rattle.law_moves.specs.Wires.{of_leg}
use Rattle.law_moves.specs.Passages.Passing.{HasOne}

-- the packets that tell it, those of a first channel and those of a successor (MS-RPCH 2.2.4)
pub data Telling : Type 0 where
  ByConnB2 : Telling
  ByConnC1 : Telling
  ByConnC2 : Telling
  ByInR1A2 : Telling
  ByInR1A3 : Telling
  ByInR1A4 : Telling

-- the packet is such a one, and tells a window of this size
abbrev pub Tells : Telling → ℕ → Named → Type 0
Tells ByConnB2 size (ConnB2 version connection channel window timeout group address padding) =
    window ≡ size
Tells ByConnC1 size (ConnC1 version window timeout) = window ≡ size
Tells ByConnC2 size (ConnC2 version window timeout) = window ≡ size
Tells ByInR1A2 size (InR1A2 version connection predecessor channel window timeout) = window ≡ size
Tells ByInR1A3 size (InR1A3 destination version window timeout) = window ≡ size
Tells ByInR1A4 size (InR1A4 destination version window timeout) = window ≡ size
Tells by size packet = ⊥

-- one that tells it is on some leg of this kind
abbrev pub TellsOn : Telling → LegKind → ℕ → List OnLeg → Type 0
TellsOn by kind size log =
    (n : ℕ) × HasOne (Tells by size) (of_leg (record { kind = kind; number = n }) log)

-- each window that these packets told on a leg is so
abbrev pub EachTold : Telling → (ℕ → Type 0) → List OnLeg → Type 0
EachTold by Is log = (leg : Leg) (size : ℕ) → HasOne (Tells by size) (of_leg leg log) → Is size

-- the role that receives tells its own
abbrev pub TellsOwn : {S : Type 0} → Telling → ℕ → Passage S → Type 0
TellsOwn by window p = EachTold by (λ (size : ℕ). size ≡ window) p.put

-- another one tells by the packets behind only what those before told it, on legs of this kind
abbrev pub TellsFrom : {S : Type 0} → Telling → LegKind → Telling → Passage S → Type 0
TellsFrom before kind behind p =
    EachTold behind (λ (size : ℕ). TellsOn before kind size p.came) p.put

-- legs begin in the order of their numbers (profile)
use Rattle.std.specs.Prelude.{◌≡◌, ◌⊎◌, ℕ, suc, List, Some}
use Rattle.rh_line.specs.declared.leg.LegKind.{LegKind}
use Rattle.rh_line.specs.declared.leg.LegKind.TheVariants.{InServer}
use Rattle.rh_audit.specs.declared.packet.First.{First}
use Rattle.rh_audit.specs.declared.packet.Met.{Met}
use Rattle.rh_audit.specs.Streams.{first_among}

-- the leg of a kind that has a channel: where several are read by one in proxy, the one of the first
-- of these
abbrev pub leg_for : LegKind → (ℕ → ℕ) → ℕ → ℕ
leg_for InServer reader n = reader n
leg_for _ reader n = n

-- the leg that has the channel before has its first packet as well
pub record HasBefore (kind : LegKind) (reader : ℕ → ℕ) (mets : ℕ → List Met) (n : ℕ)
    : Type 0 where
  pub below : ℕ
  pub number : n ≡ suc (suc below)
  pub begun : First
  pub met : first_among (mets (leg_for kind reader (suc below))) ≡ Some begun

abbrev pub BeginInTurn : LegKind → (ℕ → ℕ) → (ℕ → List Met) → Type 0
BeginInTurn kind reader mets =
    (n : ℕ) (begun : First) → first_among (mets n) ≡ Some begun
    → (n ≡ 1) ⊎ HasBefore kind reader mets n

-- and a leg with its first packet is that of its own channel
abbrev pub HaveOwn : LegKind → (ℕ → ℕ) → (ℕ → List Met) → Type 0
HaveOwn kind reader mets =
    (n : ℕ) (begun : First) → first_among (mets n) ≡ Some begun → leg_for kind reader n ≡ n

-- a client begins no leg by a Ping (profile)
use Rattle.std.specs.Prelude.{ℕ, ◌≡◌, List, [], ◌∷◌}
use Rattle.rh_sig.specs.declared.named.Named.TheVariants.{Ping}
use Rattle.rh_shell.specs.Rules.{Message, Text, Pdu, Packet}
use Rattle.rh_client.specs.State.{ci, co}
use Rattle.law_moves.specs.Moves.{OnLeg}
use Rattle.law_moves.specs.Wires.{of_leg}

abbrev pub HasNoPingFirst : List Message → Type 0
HasNoPingFirst [] = Unit {0}
HasNoPingFirst (Text bytes ∷ messages) = HasNoPingFirst messages
HasNoPingFirst (Pdu pdu ∷ messages) = HasNoPingFirst messages
HasNoPingFirst (Packet named ∷ messages) = named ≡ Ping → ⊥

-- the first packet that was put on a leg is no Ping
pub record BeginsWithoutPing (put : List OnLeg) : Type 0 where
  pub ins : (n : ℕ) → HasNoPingFirst (of_leg (ci n) put)
  pub outs : (n : ℕ) → HasNoPingFirst (of_leg (co n) put)

-- bodies that keep to their heads: behind a head come no more bytes than it told (RFC 9112 section
-- 6.2)
use Rattle.std.specs.Prelude.{ℕ, ◌≡◌, ◌⊎◌, ◌≤◌, List, [], ◌∷◌, length}
use Rattle.rh_http.specs.declared.config.ClientConfig.{ClientConfig}
use Rattle.rh_http.specs.Texts.{in_request, out_request}
use Rattle.rh_line.specs.declared.leg.LegKind.{LegKind}
use Rattle.rh_line.specs.declared.leg.LegKind.TheVariants.{ClientOut, OutServer, ClientIn, InServer}
use Rattle.rh_shell.specs.Rules.{Message, Text, Pdu, Packet}
use Rattle.rh_client.specs.declared.lengths.TheConstants.{CONN_A1_LEN, OUT_R1_A3_C1_LEN}
use Rattle.law_moves.specs.Carrying.{spelled}

-- what was put on a leg: nothing, or a head that tells a length, and messages behind it of at most
-- so many bytes
abbrev pub KeepsLength : (ℕ → List ℕ → Type 0) → List Message → Type 0
KeepsLength Tells [] = Unit {0}
KeepsLength Tells (Text text ∷ messages) =
    (told : ℕ) × Tells told text × (length (spelled messages) ≤ told)
KeepsLength Tells (Pdu pdu ∷ messages) = ⊥
KeepsLength Tells (Packet named ∷ messages) = ⊥

-- the lengths that the requests of a client tell: of an IN channel its lifetime, and of an OUT
-- channel the packets that open it, or replace another (MS-RPCH 2.1.2, profile)
abbrev pub RequestTells : ClientConfig → LegKind → ℕ → List ℕ → Type 0
RequestTells config ClientIn told text = (told ≡ config.lifetime) × (text ≡ in_request config)
RequestTells config ClientOut told text =
    ((told ≡ CONN_A1_LEN) ⊎ (told ≡ OUT_R1_A3_C1_LEN)) × (text ≡ out_request config told)
RequestTells config OutServer told text = ⊥
RequestTells config InServer told text = ⊥

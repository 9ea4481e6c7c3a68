-- what can't be so where a packet is refused
use Rattle.law_order.proofs.Vocabulary.{◌≡◌, ◌≤◌, List, [], ◌∷◌, ap, ◌∙◌, arith}
use Rattle.law_moves.proofs.Vocabulary.{Cookie, Named, Message, Packet, packets}
use Rattle.law_role_server_rows.specs.Refusing.Refusing.{IsOther}

-- nothing came before, or a packet did
pub nothing_before : (came : List Message) → came ≡ [] → 1 ≤ packets came → ⊥
nothing_before came none later = let is = ap packets none in omega (arith, is, later)

pub one_before : (came : List Message) (m : Named) (rest : List Message)
    → came ≡ Packet m ∷ rest → packets came ≡ 0 → ⊥
one_before came m rest stands first =
    let is = ap packets stands in omega (arith, is, first)

-- what came is what was expected
pub not_other : (cookie expected got : Cookie) → expected ≡ cookie → IsOther cookie expected got
    → ⊥
not_other cookie expected got e other = other.differs (e ∙ other.is_got)

pub same_packet : (a b : Named) → Packet a ≡ Packet b → a ≡ b
same_packet a b e = cc

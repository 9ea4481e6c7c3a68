-- legs, and what is on them
use Rattle.law_order.proofs.Vocabulary.{◌≡◌, true, false, if◌then◌else◌, List, [], ◌∷◌, arith, nat_tests}
use Rattle.law_moves.proofs.Vocabulary.{Leg, Message, same_leg}

pub same_other : (a b c : Leg) → same_leg a b ≡ true → same_leg a c ≡ false
    → same_leg b c ≡ false
same_other a b c e f = grind (arith, nat_tests, e, f)

-- a message that came or was put on another leg is none of this one
abbrev pub on : Leg → Leg → Message → List Message
on leg other m = if same_leg other leg then m ∷ [] else []

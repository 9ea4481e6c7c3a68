-- legs, and a message more on one of them
use Rattle.law_order.proofs.Vocabulary.{◌≡◌, ◌+◌, Bool, true, false, if◌then◌else◌, List, [], ◌∷◌, ◌++◌, refl, sym, ap, ◌∙◌, subst, arith}
use Rattle.law_moves.proofs.Vocabulary.{Leg, Message, same_leg, OnLeg, of_leg, pdu_bytes}
use Rattle.law_moves.proofs.Lemmas.{leg_more, bytes_append, here_more}

-- ---- a message more

-- what more messages keep
pub more_keeps : (P : List Message → Type 0) → ((a b : List Message) → P a → P (a ++ b))
    → (leg : Leg) (log : List OnLeg) (one : OnLeg) → P (of_leg leg log)
    → P (of_leg leg (log ++ one ∷ []))
more_keeps P grows leg log one h =
    subst P (sym (leg_more leg log one)) (grows (of_leg leg log) (of_leg leg (one ∷ [])) h)

-- ---- the bytes of its RPC PDUs

pub bytes_here : (leg : Leg) (log : List OnLeg) (m : Message)
    → pdu_bytes (of_leg leg (log ++ (leg, m) ∷ []))
    ≡ pdu_bytes (of_leg leg log) + pdu_bytes (m ∷ [])
bytes_here leg log m = ap pdu_bytes (here_more leg log m) ∙ bytes_append (of_leg leg log) (m ∷ [])

pub bytes_still : (leg : Leg) (log : List OnLeg) (one : OnLeg) → pdu_bytes (one.1 ∷ []) ≡ 0
    → pdu_bytes (of_leg leg (log ++ one ∷ [])) ≡ pdu_bytes (of_leg leg log)
bytes_still leg log one none =
    let all = ap pdu_bytes (leg_more leg log one) in
    let both = bytes_append (of_leg leg log) (of_leg leg (one ∷ [])) in
    let last = by (same_leg one.0 leg) in omega (arith, all, both, last)
  where
    by : (t : Bool) → pdu_bytes (if t then one.1 ∷ [] else []) ≡ 0
    by true = none
    by false = refl

-- in a refusal no message is read, whatever its reader waits for first
use Rattle.law_order.proofs.Vocabulary.{◌≡◌, ◌&&◌, Bool, true, false, ℕ, List, [], ◌∷◌, ◌++◌, ◌∙◌, Some, None, refl, sym, ap, subst, Option}
use Rattle.law_moves.proofs.Vocabulary.{head_fault, Pipe, CiU, IsU, IsD, CoU, CoD, OsU, OsD, Refusal, Bad, Missing, Unavailable, refusal_text, ends_head, Message, Reading, ReadsNothing, begin, messages_from, read_byte}

-- whether no byte makes a message whole
is_none : List Message → Bool
is_none [] = true
is_none (m ∷ ms) = false

is_quiet : Option Pipe → Reading → List ℕ → Bool
is_quiet pipe r [] = true
is_quiet pipe r (b ∷ bytes) =
    is_none (read_byte pipe r b).1 && is_quiet pipe (read_byte pipe r b).0 bytes

none_is : (ms : List Message) (rest : Bool) → (is_none ms && rest) ≡ true
    → (ms ≡ []) × (rest ≡ true)
unfolding is_none
none_is [] rest e = (refl, e)
none_is (m ∷ ms) rest e = absurd cc

quiet_front : (pipe : Option Pipe) (r : Reading) (front rest : List ℕ)
    → is_quiet pipe r (front ++ rest) ≡ true → messages_from pipe r front ≡ []
unfolding is_quiet
quiet_front pipe r [] rest e = refl
quiet_front pipe r (b ∷ front) rest e =
    let next = none_is (read_byte pipe r b).1
    (is_quiet pipe (read_byte pipe r b).0 (front ++ rest)) e in
    ap (λ (ms : List Message). ms ++ messages_from pipe (read_byte pipe r b).0 front) next.0
    ∙ quiet_front pipe (read_byte pipe r b).0 front rest next.1

quiet : (pipe : Option Pipe) (refusal : Refusal)
    → is_quiet pipe (begin pipe) (refusal_text refusal) ≡ true
unfolding is_quiet is_none read_byte ends_head head_fault
quiet None Bad = refl
quiet None Missing = refl
quiet None Unavailable = refl
quiet (Some CiU) Bad = refl
quiet (Some CiU) Missing = refl
quiet (Some CiU) Unavailable = refl
quiet (Some IsU) Bad = refl
quiet (Some IsU) Missing = refl
quiet (Some IsU) Unavailable = refl
quiet (Some IsD) Bad = refl
quiet (Some IsD) Missing = refl
quiet (Some IsD) Unavailable = refl
quiet (Some CoU) Bad = refl
quiet (Some CoU) Missing = refl
quiet (Some CoU) Unavailable = refl
quiet (Some CoD) Bad = refl
quiet (Some CoD) Missing = refl
quiet (Some CoD) Unavailable = refl
quiet (Some OsU) Bad = refl
quiet (Some OsU) Missing = refl
quiet (Some OsU) Unavailable = refl
quiet (Some OsD) Bad = refl
quiet (Some OsD) Missing = refl
quiet (Some OsD) Unavailable = refl

pub refusal_unread : (pipe : Option Pipe) (refusal : Refusal)
    → ReadsNothing pipe (refusal_text refusal)
refusal_unread pipe refusal front p =
    quiet_front pipe (begin pipe) front p.0
    (subst (λ (text : List ℕ). is_quiet pipe (begin pipe) text ≡ true) (sym p.1)
    (quiet pipe refusal))

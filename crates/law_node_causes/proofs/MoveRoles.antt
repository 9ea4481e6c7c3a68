-- the role behind a move
use Rattle.law_order.proofs.Vocabulary.{ℕ, List, [], ◌∷◌, Some, None, Ok, Err, Option, Result}
use Rattle.law_moves.proofs.Vocabulary.{Leg, GiveRefused, Row, Message, Passage, EndPassage, taken_by, put_by, given_by, with_first}

-- of a row, whether it takes what came or not
pub by_row : {S : Type 0} (P : S → Type 0) (p : Passage S) (leg : Leg) (message : Message)
    (x : S × Row) → P x.0 → P (taken_by p leg message x).role
by_row P p leg message (role, Ok taken) h = h
by_row P p leg message (role, Err refused) h = h

-- the role behind what may go: the same where nothing does
abbrev pub behind_put : {S : Type 0} → S → Option (S × Message) → S
behind_put s None = s
behind_put s (Some put) = put.0

pub by_put : {S : Type 0} (P : S → Type 0) (p : Passage S) (leg : Leg) (o : Option (S × Message))
    → P (behind_put p.role o) → P (put_by p leg o).role
by_put P p leg None h = h
by_put P p leg (Some put) h = h

pub by_given : {S : Type 0} (P : S → Type 0) (p : EndPassage S) (pdu : List ℕ)
    (x : S × Result (Unit {0}) GiveRefused) → P x.0 → P (given_by p pdu x).passage.role
by_given P p pdu (role, Ok accepted) h = h
by_given P p pdu (role, Err refused) h = h

pub by_first : {S : Type 0} (P : S → Type 0) (p : EndPassage S) (pdus : List (List ℕ))
    → P p.passage.role → P (with_first p pdus).passage.role
by_first P p [] h = h
by_first P p (pdu ∷ pdus) h = h

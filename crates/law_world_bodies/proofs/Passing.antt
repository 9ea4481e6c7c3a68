-- what comes on a leg is in sum no more than what was put there
use Rattle.law_order.proofs.Vocabulary.{◌≡◌, ℕ, ◌+◌, ◌≤◌, List, [], ◌∷◌, ◌++◌, arith, ap, IsPrefix}
use Rattle.law_moves.proofs.Vocabulary.{by_test, is_ping, Message, Text, Pdu, Packet, all_read_of, read_of}
use Rattle.law_world_bodies.proofs.OutMoves.{sum}

sum_append : (f : Message → ℕ) (a b : List Message) → sum f (a ++ b) ≡ sum f a + sum f b
sum_append f [] b = omega arith
sum_append f (m ∷ a) b = let rest = sum_append f a b in omega (arith, rest)

-- of a message no more is read
read_less : (f : Message → ℕ) (m : Message) → sum f (read_of m) ≤ f m
read_less f (Text text) = omega arith
read_less f (Pdu pdu) = omega arith
read_less f (Packet packet) =
    by_test (λ (ms : List Message). sum f ms ≤ f (Packet packet)) (is_ping packet) []
    (Packet packet ∷ []) (λ e. omega arith) (λ e. omega arith)

all_less : (f : Message → ℕ) (put : List Message) → sum f (all_read_of put) ≤ sum f put
all_less f [] = omega arith
all_less f (m ∷ put) =
    let first = read_less f m in
    let rest = all_less f put in
    let both = sum_append f (read_of m) (all_read_of put) in
    omega (arith, first, rest, both)

pub came_less : (f : Message → ℕ) (came put : List Message) → IsPrefix came (all_read_of put)
    → sum f came ≤ sum f put
came_less f came put front =
    let both = sum_append f came front.0 in
    let is : sum f (came ++ front.0) ≡ sum f (all_read_of put) = ap (sum f) front.1 in
    let less = all_less f put in
    omega (arith, both, is, less)

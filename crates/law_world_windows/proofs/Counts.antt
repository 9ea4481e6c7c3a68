-- bytes and edges of more messages, and of a front of them
use Rattle.law_order.proofs.Vocabulary.{ℕ, ◌+◌, ◌≤◌, List, [], ◌∷◌, ◌++◌, arith, rules, AllByRecursion, nat_tests}
use Rattle.rh_sig.specs.declared.named.Named.TheVariants.{Ack}
use Rattle.law_moves.proofs.Vocabulary.{Message, Text, Pdu, Packet}
use Rattle.law_world_windows.specs.Hops.{edge_in, greatest_edge, IsTrueAck}

-- ---- more messages

pub edges_rise : (a b : List Message) → greatest_edge a ≤ greatest_edge (a ++ b)
edges_rise [] b = omega arith
edges_rise (m ∷ a) b = let rest = edges_rise a b in grind (arith, nat_tests, rest)

-- the last one's edge is among them
pub edge_last : (a : List Message) (m : Message) → edge_in m ≤ greatest_edge (a ++ m ∷ [])
edge_last [] m = grind (arith, nat_tests)
edge_last (n ∷ a) m = let rest = edge_last a m in grind (arith, nat_tests, rest)

-- a bound of each is one of all
pub edges_within : (bound : ℕ) (a b : List Message) → greatest_edge a ≤ bound
    → greatest_edge b ≤ bound → greatest_edge (a ++ b) ≤ bound
edges_within bound [] b here more = more
edges_within bound (m ∷ a) b here more =
    let first : edge_in m ≤ bound = grind (arith, nat_tests, here) in
    let before : greatest_edge a ≤ bound = grind (arith, nat_tests, here) in
    let rest = edges_within bound a b before more in
    grind (arith, nat_tests, first, rest)

-- ---- acknowledgements

true_later : (came more : ℕ) (m : Message) → came ≤ more → IsTrueAck came m → IsTrueAck more m
true_later came more (Text bytes) e is = is
true_later came more (Pdu pdu) e is = is
true_later came more (Packet (Ack received available channel)) e is =
    let known = is.0 in (omega (arith, e, known), is.1)
true_later came more (Packet named) e is = search rules

pub all_later : (came more : ℕ) (ms : List Message) → came ≤ more
    → AllByRecursion (IsTrueAck came) ms → AllByRecursion (IsTrueAck more) ms
all_later came more [] e all = tt
all_later came more (m ∷ ms) e all =
    (true_later came more m e all.0, all_later came more ms e all.1)

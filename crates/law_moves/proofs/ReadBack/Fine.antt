-- what is read of messages that may go on a pipe is fine
use Rattle.law_order.proofs.Vocabulary.{List, [], ◌∷◌, ◌++◌, sym, subst, Some, None, AllByRecursion, Option, IsPrefix}
use Rattle.law_moves.proofs.Vocabulary.{by_test, Pipe, is_ping, Message, Text, Pdu, Packet, IsFineMessage, MayGoOn, all_read_of, read_of}

-- ---- what holds of each element of a list

each_joined : {X : Type 0} (P : X → Type 0) (a b : List X) → AllByRecursion P a
    → AllByRecursion P b → AllByRecursion P (a ++ b)
each_joined P [] b h k = k
each_joined P (x ∷ a) b h k = (h.0, each_joined P a b h.1 k)

each_first : {X : Type 0} (P : X → Type 0) (a b : List X) → AllByRecursion P (a ++ b)
    → AllByRecursion P a
each_first P [] b h = tt
each_first P (x ∷ a) b h = (h.0, each_first P a b h.1)

-- ---- messages

one_fine : (pipe : Option Pipe) (message : Message) → MayGoOn pipe message
    → AllByRecursion IsFineMessage (read_of message)
one_fine pipe (Text bytes) may = tt
one_fine pipe (Pdu pdu) may = (may, tt)
one_fine None (Packet named) may = absurd may
one_fine (Some pipe) (Packet named) may =
    by_test (AllByRecursion IsFineMessage) (is_ping named) [] (Packet named ∷ []) (λ e. tt)
    (λ e. (may.fine, tt))

read_fine : (pipe : Option Pipe) (put : List Message) → AllByRecursion (MayGoOn pipe) put
    → AllByRecursion IsFineMessage (all_read_of put)
read_fine pipe [] may = tt
read_fine pipe (message ∷ put) may =
    each_joined IsFineMessage (read_of message) (all_read_of put)
    (one_fine pipe message may.0) (read_fine pipe put may.1)

pub came_fine : (pipe : Option Pipe) (put came : List Message) → AllByRecursion (MayGoOn pipe) put
    → IsPrefix came (all_read_of put) → AllByRecursion IsFineMessage came
came_fine pipe put came may p =
    each_first IsFineMessage came p.0
    (subst (AllByRecursion IsFineMessage) (sym p.1) (read_fine pipe put may))

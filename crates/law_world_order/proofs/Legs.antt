-- what comes on a leg is fine where what was put there may go
use Rattle.law_order.proofs.Vocabulary.{◌≡◌, ℕ, Bool, true, false, List, [], ◌∷◌, ◌∙◌, inl, inr, if◌then◌else◌, AllByRecursion, Option, IsPrefix}
use Rattle.law_moves.proofs.Vocabulary.{nil_front, prefix_trans, Pipe, Refusal, refusal_text, Leg, Message, same_leg, spelled, OnLeg, of_leg, IsFineMessage, MayGoOn, ReadsBack, Begins, ReadsNothing, all_read_of, messages_read}
use Rattle.law_node_streams.specs.Streams.{IsDrawn}

-- the laws of reading that this stands on
pub record Reads : Type 0 where
  pub put : (pipe : Option Pipe) (put : List Message) (drawn heard : List ℕ) → Begins pipe put
      → AllByRecursion (ReadsBack pipe) put → IsPrefix drawn (spelled put)
      → IsPrefix heard drawn → IsPrefix (messages_read pipe heard) (all_read_of put)
  pub fine : (pipe : Option Pipe) (put came : List Message) → AllByRecursion (MayGoOn pipe) put
      → IsPrefix came (all_read_of put) → AllByRecursion IsFineMessage came
  pub refusal : (pipe : Option Pipe) (refusal : Refusal)
      → ReadsNothing pipe (refusal_text refusal)

-- a front of nothing
pub none_came : (came read : List Message) → read ≡ [] → IsPrefix came read → came ≡ []
none_came came read e p = nil_front came p.0 (p.1 ∙ e)

pub fine_none : (came : List Message) → came ≡ [] → AllByRecursion IsFineMessage came
fine_none [] e = tt
fine_none (m ∷ came) e = absurd (cc)

pub leg_fine : Reads → (pipe : Option Pipe) (put came : List Message) (drawn heard : List ℕ)
    → Begins pipe put → AllByRecursion (MayGoOn pipe) put → AllByRecursion (ReadsBack pipe) put
    → IsDrawn put drawn → IsPrefix heard drawn → IsPrefix came (messages_read pipe heard)
    → AllByRecursion IsFineMessage came
leg_fine law pipe put came drawn heard begins may back (inl front) h p =
    law.fine pipe put came may
    (prefix_trans came (messages_read pipe heard) (all_read_of put) p
    (law.put pipe put drawn heard begins back front h))
leg_fine law pipe put came drawn heard begins may back (inr refused) h p =
    fine_none came
    (none_came came (messages_read pipe heard)
    (law.refusal pipe refused.1 heard
    (prefix_trans heard drawn (refusal_text refused.1) h refused.2)) p)

-- ---- a log

module _ (P : Message → Type 0) where
  head_of : (b : Bool) (one : Message) (rest : List Message) → b ≡ true
      → AllByRecursion P (if b then one ∷ rest else rest) → P one
  head_of true one rest e all = all.0
  head_of false one rest e all = absurd (cc)

  rest_of : (b : Bool) (one : Message) (rest : List Message)
      → AllByRecursion P (if b then one ∷ rest else rest) → AllByRecursion P rest
  rest_of true one rest all = all.1
  rest_of false one rest all = all

  -- what holds of the messages of each leg holds of all
  pub of_legs : ((leg : Leg) → same_leg leg leg ≡ true) → (log : List OnLeg)
      → ((leg : Leg) → AllByRecursion P (of_leg leg log))
      → AllByRecursion (λ (one : OnLeg). P one.1) log
  of_legs same [] each = tt
  of_legs same (one ∷ log) each = (
    head_of (same_leg one.0 one.0) one.1 (of_leg one.0 log) (same one.0) (each one.0),
    of_legs same log
        (λ leg. rest_of (same_leg one.0 leg) one.1 (of_leg leg log) (each leg)),
  )

-- the messages of one leg in a log, and what order sees of them
use Rattle.law_order.proofs.Vocabulary.{◌≡◌, ◌⊎◌, inl, inr, Bool, true, false, if◌then◌else◌, List, [], ◌∷◌, ◌++◌, refl, sym, ◌∙◌, subst, AllByRecursion, Option, Item, seen}
use Rattle.law_moves.proofs.Vocabulary.{by_test, Pipe, Leg, Message, same_leg, OnLeg, of_leg, ReadsBack, AllReadBack}
use Rattle.law_moves.proofs.Lemmas.{leg_is}
use Rattle.law_node_history.proofs.Lemmas.{cases_leg}

-- ---- legs that are the same

pub same_back : (a b : Leg) → same_leg a b ≡ same_leg b a
same_back a b = by (cases_leg a b) (cases_leg b a)
  where
    by : (a ≡ b) ⊎ (same_leg a b ≡ false) → (b ≡ a) ⊎ (same_leg b a ≡ false)
        → same_leg a b ≡ same_leg b a
    by (inl same) back = subst (λ (x : Leg). same_leg a x ≡ same_leg x a) same refl
    by (inr other) (inl same) = subst (λ (x : Leg). same_leg x b ≡ same_leg b x) same refl
    by (inr other) (inr back) = other ∙ sym back

-- ---- what order sees of the leg's messages

-- whatever counts the items of the messages on the leg counts those of its messages
pub leg_items : (view : Message → List Item) (leg : Leg) (items : List OnLeg → List Item)
    → items [] ≡ []
    → ((one : OnLeg) (log : List OnLeg) → items (one ∷ log)
    ≡ (if same_leg leg one.0 then view one.1 else []) ++ items log)
    → (log : List OnLeg) → items log ≡ seen view (of_leg leg log)
leg_items view leg items none one' [] = none
leg_items view leg items none one' (one ∷ log) =
    one' one log
    ∙ rw (same_back leg one.0, leg_items view leg items none one' log)
    (by_leg (same_leg one.0 leg) (view one.1) (of_leg leg log) one.1 refl)
  where
    by_leg : (t : Bool) (items : List Item) (messages : List Message) (m : Message)
        → items ≡ view m
        → (if t then items else []) ++ seen view messages
        ≡ seen view (if t then m ∷ messages else messages)
    by_leg true items messages m e = rw e refl
    by_leg false items messages m e = refl

-- ---- what holds of each message by the pipe of its leg

pub on_leg : (pipe : Leg → Option Pipe) (P : Option Pipe → Message → Type 0) (leg : Leg)
    (log : List OnLeg) → AllByRecursion (λ (one : OnLeg). P (pipe one.0) one.1) log
    → AllByRecursion (P (pipe leg)) (of_leg leg log)
on_leg pipe P leg [] all = tt
on_leg pipe P leg (one ∷ log) all =
    by_test (λ (messages : List Message). AllByRecursion (P (pipe leg)) messages)
    (same_leg one.0 leg) (one.1 ∷ of_leg leg log) (of_leg leg log)
    (λ e. (
      subst (λ (x : Leg). P (pipe x) one.1) (leg_is one.0 leg e) all.0,
      on_leg pipe P leg log all.1,
    ))
    (λ e. on_leg pipe P leg log all.1)

-- so what was put reads back
pub leg_reads_back : (pipe : Leg → Option Pipe) (leg : Leg) (log : List OnLeg)
    → AllReadBack pipe log → AllByRecursion (ReadsBack (pipe leg)) (of_leg leg log)
leg_reads_back pipe = on_leg pipe ReadsBack

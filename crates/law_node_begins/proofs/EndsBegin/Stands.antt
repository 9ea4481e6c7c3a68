-- what stands on a leg: nothing yet, or a text and no other behind it
use Rattle.law_order.proofs.Vocabulary.{◌≡◌, ◌≢◌, ◌⊎◌, ℕ, suc, ◌<◌, nat_eq, Bool, true, false, List, [], ◌∷◌, ◌++◌, if◌then◌else◌, inl, inr, arith, refl, ◌∙◌, AllByRecursion, Option, fun_ext}
use Rattle.law_moves.proofs.Vocabulary.{test_same, test_other, Pipe, each_push, Leg, Message, Text, Pdu, Packet, same_leg, of_leg, OnLeg, IsNoText, AreNoTexts, IsWholeText, BeginsWith, Answers, IsWellText, TextIsWell}
use Rattle.law_moves.proofs.Lemmas.{no_texts_well}

-- ---- on one leg, for the texts that may go first

module _ (IsFirst : List ℕ → Type 0) where
  abbrev pub IsTextFirst : List Message → Type 0
  IsTextFirst [] = ⊥
  IsTextFirst (Text text ∷ messages) = IsFirst text × AreNoTexts messages
  IsTextFirst (Pdu pdu ∷ messages) = ⊥
  IsTextFirst (Packet named ∷ messages) = ⊥

  -- by whether the text was put
  abbrev pub Stands : Bool → List Message → Type 0
  Stands false messages = messages ≡ []
  Stands true messages = IsTextFirst messages

  -- the text is put
  pub text_first : (messages : List Message) (text : List ℕ) → IsFirst text
      → Stands false messages → Stands true (messages ++ Text text ∷ [])
  text_first [] text is h = (is, tt)
  text_first (message ∷ messages) text is h = absurd (cc)

  -- and then another message
  pub more_behind : (messages : List Message) (message : Message) → IsNoText message
      → Stands true messages → Stands true (messages ++ message ∷ [])
  more_behind [] message is h = absurd h
  more_behind (Text text ∷ messages) message is h =
      (h.0, each_push IsNoText messages message h.1 is)
  more_behind (Pdu pdu ∷ messages) message is h = absurd h
  more_behind (Packet named ∷ messages) message is h = absurd h

-- nothing, or a text that may go first and no other behind it
abbrev pub IsFine : (List ℕ → Type 0) → List Message → Type 0
IsFine IsFirst messages = (messages ≡ []) ⊎ IsTextFirst IsFirst messages

pub fine : (IsFirst : List ℕ → Type 0) (begun : Bool) (messages : List Message)
    → Stands IsFirst begun messages → IsFine IsFirst messages
fine IsFirst false messages h = inl h
fine IsFirst true messages h = inr h

-- where texts are whole by a test
pub begins : (pipe : Option Pipe) (whole : List ℕ → Bool) (messages : List Message)
    → IsFine (IsWholeText whole) messages → BeginsWith pipe whole messages
begins pipe whole [] h = tt
begins pipe whole (Text text ∷ messages) (inr h) = inl h
begins pipe whole (Pdu pdu ∷ messages) (inr h) = h
begins pipe whole (Packet named ∷ messages) (inr h) = h
begins pipe whole (message ∷ messages) (inl h) = absurd (cc)

-- and where each text that may go first reads well
pub none_well : (well : Answers) (pipe : Option Pipe) (messages : List Message)
    → messages ≡ [] → AllByRecursion (IsWellText well pipe) messages
none_well well pipe [] e = tt
none_well well pipe (message ∷ messages) e = absurd (cc)

pub fine_well : (well : Answers) (pipe : Option Pipe) (IsFirst : List ℕ → Type 0)
    → ((text : List ℕ) → IsFirst text → TextIsWell well pipe text) → (messages : List Message)
    → IsFine IsFirst messages → AllByRecursion (IsWellText well pipe) messages
fine_well well pipe IsFirst texts messages (inl none) = none_well well pipe messages none
fine_well well pipe IsFirst texts [] (inr h) = tt
fine_well well pipe IsFirst texts (Text text ∷ messages) (inr h) =
    (texts text h.0, no_texts_well well pipe messages h.1)
fine_well well pipe IsFirst texts (Pdu pdu ∷ messages) (inr h) = absurd h
fine_well well pipe IsFirst texts (Packet named ∷ messages) (inr h) = absurd h

-- a message is put behind what stands there
abbrev pub GoesBehind : (List ℕ → Type 0) → Bool → Message → Bool → Type 0
GoesBehind IsFirst before message behind =
    (messages : List Message) → Stands IsFirst before messages
    → Stands IsFirst behind (messages ++ message ∷ [])

-- behind the text comes no other one
pub no_text_behind : (IsFirst : List ℕ → Type 0) (begun : Bool) (message : Message)
    → begun ≡ true → IsNoText message → GoesBehind IsFirst begun message begun
no_text_behind IsFirst true message e is = λ messages h. more_behind IsFirst messages message is h
no_text_behind IsFirst false message e is = absurd (cc)

pub text_behind : (IsFirst : List ℕ → Type 0) (text : List ℕ) → IsFirst text
    → GoesBehind IsFirst false (Text text) true
text_behind IsFirst text is = λ messages h. text_first IsFirst messages text is h

-- ---- on all legs

abbrev pub Logs : Type 0
Logs = Leg → List Message

-- one more message
abbrev pub grown : Leg → Message → Logs → Logs
grown leg message logs =
    λ other. if same_leg leg other then logs other ++ message ∷ [] else logs other

-- of a log with one more
pub of_leg_more : (leg : Leg) (put : List OnLeg) (one : OnLeg)
    → of_leg leg (put ++ one ∷ []) ≡ grown one.0 one.1 (λ other. of_leg other put) leg
of_leg_more leg [] one = refl
of_leg_more leg (x ∷ put) one =
    rw (of_leg_more leg put one)
    (among (same_leg x.0 leg) (same_leg one.0 leg) x.1 one.1 (of_leg leg put))
  where
    among : (a b : Bool) (m n : Message) (ms : List Message)
        → (if a then m ∷ (if b then ms ++ n ∷ [] else ms) else (if b then ms ++ n ∷ [] else ms))
        ≡ (if b then (if a then m ∷ ms else ms) ++ n ∷ [] else (if a then m ∷ ms else ms))
    among true true m n ms = refl
    among true false m n ms = refl
    among false true m n ms = refl
    among false false m n ms = refl

abbrev pub logs_of : List OnLeg → Logs
logs_of put = λ leg. of_leg leg put

-- with one more message
pub logs_more : (put : List OnLeg) (one : OnLeg)
    → logs_of (put ++ one ∷ []) ≡ grown one.0 one.1 (logs_of put)
logs_more put one = fun_ext (λ leg. of_leg_more leg put one)

-- ---- on the legs of a kind, by their numbers

abbrev pub NumberLogs : Type 0
NumberLogs = ℕ → List Message

-- one more message on the leg of a number
abbrev pub grown_at : ℕ → Message → NumberLogs → NumberLogs
grown_at n message logs = λ k. if nat_eq n k then logs k ++ message ∷ [] else logs k

pub at_here : (n : ℕ) (message : Message) (logs : NumberLogs)
    → grown_at n message logs n ≡ logs n ++ message ∷ []
at_here n message logs = rw (test_same n) refl

pub at_other : (n : ℕ) (message : Message) (logs : NumberLogs) (k : ℕ) → n ≢ k
    → grown_at n message logs k ≡ logs k
at_other n message logs k other = rw (test_other n k other) refl

-- nothing stands above this number
abbrev pub EndsAt : ℕ → NumberLogs → Type 0
EndsAt n logs = (k : ℕ) → n < k → logs k ≡ []

pub ends_stay : (n k : ℕ) (message : Message) (logs : NumberLogs) → k < suc n
    → EndsAt n logs → EndsAt n (grown_at k message logs)
ends_stay n k message logs under ends = λ j above.
    at_other k message logs j (λ e. absurd (omega (arith, e, above, under))) ∙ ends j above

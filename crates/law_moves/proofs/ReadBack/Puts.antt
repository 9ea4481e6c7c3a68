-- what was put on a leg is read as what was put
use Rattle.law_order.proofs.Vocabulary.{◌≡◌, ◌⊎◌, ℕ, Bool, List, [], ◌∷◌, ◌++◌, refl, sym, ap, ◌∙◌, subst, inl, inr, AllByRecursion, Option, append-nil, IsPrefix}
use Rattle.rh_shell.specs.declared.stage.Stage.TheVariants as stage
use Rattle.law_moves.proofs.Vocabulary.{nil_front, Pipe, Stage, is_whole_head, is_whole_greeting, first_stage, Message, Text, Pdu, Packet, spell, spelled, ReadsBack, taken_of, AreNoTexts, BeginsBy, BeginsWith, IsWholeText, ReadsNothing, all_read_of, messages_from, reading}
use Rattle.law_moves.proofs.ReadBack.Taking.{TakesAt, all_read, next_read}
use Rattle.law_moves.proofs.ReadBack.Frames.{frame_taken}
use Rattle.law_moves.proofs.ReadBack.WholeTexts.{head_taken, greeting_taken}
use Rattle.law_moves.specs.Legible.Legible.{IsTaken}

-- no bytes came of none
pub read_of_none : (pipe : Option Pipe) (s : Stage) (heard : List ℕ) → IsPrefix heard []
    → IsPrefix (messages_from pipe (reading s []) heard) []
read_of_none pipe s heard p = (
  [],
  ap (λ (bytes : List ℕ). messages_from pipe (reading s []) bytes ++ [])
      (nil_front heard p.0 p.1),
)

-- ---- frames

-- of a message and those behind it
one_read : (pipe : Option Pipe) (s : Stage) (message : Message) (out : List Message)
    (put : List Message) (heard : List ℕ) → TakesAt pipe s (spell message) out
    → ((behind : List ℕ) → IsPrefix behind (spelled put)
    → IsPrefix (messages_from pipe (reading stage.Frames []) behind) (all_read_of put))
    → IsPrefix heard (spelled (message ∷ put))
    → IsPrefix (messages_from pipe (reading s []) heard) (out ++ all_read_of put)
one_read pipe s message out put heard takes more p =
    next_read pipe s (spell message) out takes heard (spelled put) (all_read_of put) p more

-- of a message, and all of those behind it
one_whole : (pipe : Option Pipe) (s : Stage) (message : Message) (out : List Message)
    (put : List Message) → TakesAt pipe s (spell message) out
    → messages_from pipe (reading stage.Frames []) (spelled put) ≡ all_read_of put
    → messages_from pipe (reading s []) (spelled (message ∷ put)) ≡ out ++ all_read_of put
one_whole pipe s message out put takes more =
    all_read pipe s (spell message) out takes (spelled put)
    ∙ ap (λ (ms : List Message). out ++ ms) more

is_taken : (pipe : Option Pipe) (message : Message) → IsTaken pipe message
    → TakesAt pipe stage.Frames (spell message) (taken_of message)
is_taken pipe message is =
    frame_taken pipe (spell message) (taken_of message) is.frame is.taken

pub frames_read : (pipe : Option Pipe) (put : List Message) → AreNoTexts put
    → AllByRecursion (ReadsBack pipe) put → (heard : List ℕ) → IsPrefix heard (spelled put)
    → IsPrefix (messages_from pipe (reading stage.Frames []) heard) (all_read_of put)
frames_read pipe [] no_texts back heard p = read_of_none pipe stage.Frames heard p
frames_read pipe (Text bytes ∷ put) no_texts back heard p = absurd no_texts.0
frames_read pipe (Pdu pdu ∷ put) no_texts back heard p =
    one_read pipe stage.Frames (Pdu pdu) (taken_of (Pdu pdu)) put heard
    (is_taken pipe (Pdu pdu) back.0) (frames_read pipe put no_texts.1 back.1) p
frames_read pipe (Packet named ∷ put) no_texts back heard p =
    one_read pipe stage.Frames (Packet named) (taken_of (Packet named)) put heard
    (is_taken pipe (Packet named) back.0) (frames_read pipe put no_texts.1 back.1) p

pub frames_whole : (pipe : Option Pipe) (put : List Message) → AreNoTexts put
    → AllByRecursion (ReadsBack pipe) put
    → messages_from pipe (reading stage.Frames []) (spelled put) ≡ all_read_of put
frames_whole pipe [] no_texts back = refl
frames_whole pipe (Text bytes ∷ put) no_texts back = absurd no_texts.0
frames_whole pipe (Pdu pdu ∷ put) no_texts back =
    one_whole pipe stage.Frames (Pdu pdu) (taken_of (Pdu pdu)) put
    (is_taken pipe (Pdu pdu) back.0) (frames_whole pipe put no_texts.1 back.1)
frames_whole pipe (Packet named ∷ put) no_texts back =
    one_whole pipe stage.Frames (Packet named) (taken_of (Packet named)) put
    (is_taken pipe (Packet named) back.0) (frames_whole pipe put no_texts.1 back.1)

-- ---- a text, and then frames

module _ (pipe : Option Pipe) (s : Stage) (is_whole : List ℕ → Bool)
    (first : first_stage pipe ≡ s)
    (takes : (text : List ℕ) → IsWholeText is_whole text → TakesAt pipe s text []) where
  text_read : (text : List ℕ) (put : List Message)
      → (IsWholeText is_whole text × AreNoTexts put) ⊎ (ReadsNothing pipe text × (put ≡ []))
      → AllByRecursion (ReadsBack pipe) put → (heard : List ℕ)
      → IsPrefix heard (spelled (Text text ∷ put))
      → IsPrefix (messages_from pipe (reading s []) heard) (all_read_of put)
  text_read text put (inl h) back heard p =
      one_read pipe s (Text text) [] put heard (takes text h.0) (frames_read pipe put h.1 back) p
  text_read text put (inr h) back heard p =
      let alone : IsPrefix heard text =
      subst (λ (bytes : List ℕ). IsPrefix heard bytes) (append-nil text)
      (subst (λ (ms : List Message). IsPrefix heard (text ++ spelled ms)) h.1 p) in
      let none : messages_from pipe (reading s []) heard ≡ [] =
      subst (λ (at : Stage). messages_from pipe (reading at []) heard ≡ []) first
      (h.0 heard alone) in
      (all_read_of put, ap (λ (ms : List Message). ms ++ all_read_of put) none)

  pub text_first : (put : List Message) → BeginsWith pipe is_whole put
      → AllByRecursion (ReadsBack pipe) put → (heard : List ℕ) → IsPrefix heard (spelled put)
      → IsPrefix (messages_from pipe (reading s []) heard) (all_read_of put)
  text_first [] begins back heard p = read_of_none pipe s heard p
  text_first (Text text ∷ put) begins back heard p = text_read text put begins back.1 heard p
  text_first (Pdu pdu ∷ put) begins back heard p = absurd begins
  text_first (Packet named ∷ put) begins back heard p = absurd begins

  whole_text : (text : List ℕ) (put : List Message)
      → (IsWholeText is_whole text × AreNoTexts put) ⊎ (ReadsNothing pipe text × (put ≡ []))
      → AllByRecursion (ReadsBack pipe) put
      → messages_from pipe (reading s []) (spelled (Text text ∷ put)) ≡ all_read_of put
  whole_text text put (inl h) back =
      one_whole pipe s (Text text) [] put (takes text h.0) (frames_whole pipe put h.1 back)
  whole_text text put (inr h) back =
      let none : messages_from pipe (reading s []) text ≡ [] =
      subst (λ (at : Stage). messages_from pipe (reading at []) text ≡ []) first
      (h.0 text ([], append-nil text)) in
      ap (λ (ms : List Message). messages_from pipe (reading s []) (text ++ spelled ms)) h.1
      ∙ ap (messages_from pipe (reading s [])) (append-nil text)
      ∙ none ∙ ap all_read_of (sym h.1)

  pub text_whole : (put : List Message) → BeginsWith pipe is_whole put
      → AllByRecursion (ReadsBack pipe) put
      → messages_from pipe (reading s []) (spelled put) ≡ all_read_of put
  text_whole [] begins back = refl
  text_whole (Text text ∷ put) begins back = whole_text text put begins back.1
  text_whole (Pdu pdu ∷ put) begins back = absurd begins
  text_whole (Packet named ∷ put) begins back = absurd begins

-- ---- whatever comes first

pub put_read : (pipe : Option Pipe) (s : Stage) (put : List Message) → first_stage pipe ≡ s
    → BeginsBy pipe s put → AllByRecursion (ReadsBack pipe) put → (heard : List ℕ)
    → IsPrefix heard (spelled put)
    → IsPrefix (messages_from pipe (reading s []) heard) (all_read_of put)
put_read pipe stage.Head put first begins back heard p =
    text_first pipe stage.Head is_whole_head first (head_taken pipe) put begins back heard p
put_read pipe stage.Greeting put first begins back heard p =
    text_first pipe stage.Greeting is_whole_greeting first (greeting_taken pipe) put begins back
    heard p
put_read pipe stage.Frames put first begins back heard p = frames_read pipe put begins back heard p
put_read pipe stage.PassedOver put first begins back heard p = absurd begins
put_read pipe stage.Shut put first begins back heard p = absurd begins

pub put_whole : (pipe : Option Pipe) (s : Stage) (put : List Message) → first_stage pipe ≡ s
    → BeginsBy pipe s put → AllByRecursion (ReadsBack pipe) put
    → messages_from pipe (reading s []) (spelled put) ≡ all_read_of put
put_whole pipe stage.Head put first begins back =
    text_whole pipe stage.Head is_whole_head first (head_taken pipe) put begins back
put_whole pipe stage.Greeting put first begins back =
    text_whole pipe stage.Greeting is_whole_greeting first (greeting_taken pipe) put begins back
put_whole pipe stage.Frames put first begins back = frames_whole pipe put begins back
put_whole pipe stage.PassedOver put first begins back = absurd begins
put_whole pipe stage.Shut put first begins back = absurd begins

-- what is read of bytes that are cut from messages is in the frames that are whole in them
use Rattle.law_order.proofs.Vocabulary.{◌≡◌, ◌⊎◌, ◌<◌, ◌≤◌, ℕ, nat_lt, nat_tests, if◌then◌else◌, Bool, true, false, None, take-append-le, List, [], ◌∷◌, ◌++◌, length, map, take, drop, get_or, inl, inr, refl, sym, ap, ◌∙◌, subst, arith, Some, Option, append_assoc, append-nil, append_cancel_left, length-append, take_at, concat, AllByRecursion, IsPrefix}
use Rattle.rh_pdu.proofs.Framing as framing
use Rattle.rh_pdu.specs.Cut.{frames_of, rest_of}
use Rattle.rh_pdu.specs.Frames.{IsFrame}
use Rattle.rh_shell.specs.declared.stage.Stage.TheVariants as stage
use Rattle.law_moves.proofs.Vocabulary.{by_test, frag_same, head_same, frag_of, head_fault, message_in, nil_front, Reading, frame_read, Begins, Pipe, Stage, ends_head, is_whole_head, is_whole_greeting, first_stage, Message, Text, Pdu, Packet, spell, spelled, ReadsBack, taken_of, AreNoTexts, BeginsBy, BeginsWith, IsWholeText, ReadsNothing, all_read_of, read_of, messages_from, read_by, reading, text_read}
use Rattle.law_moves.proofs.ReadBack.Taking.{TakesAt, all_read, next_byte}
use Rattle.law_moves.specs.Legible.Legible.{IsTaken}
use Rattle.law_peers_chains.specs.Shown.{framed}
use Rattle.law_peers_chains.specs.Whole.{AreRead, AreWhole, lead}

-- ---- fronts of two texts

-- it ends within the first, or reaches into the second
abbrev Parts : List ℕ → List ℕ → List ℕ → Type 0
Parts front a b =
    ((y : ℕ) × (rest : List ℕ) × (front ++ y ∷ rest ≡ a))
    ⊎ ((more : List ℕ) × (front ≡ a ++ more) × IsPrefix more b)

parts : (front a b : List ℕ) → IsPrefix front (a ++ b) → Parts front a b
parts front [] b p = inr (front, refl, p)
parts [] (y ∷ a) b p = inl (y, a, refl)
parts (x ∷ front) (y ∷ a) b p =
    longer (ap (λ (l : List ℕ). get_or l 0 0) p.1)
    (parts front a b (p.0, ap (λ (l : List ℕ). drop 1 l) p.1))
  where
    longer : x ≡ y → Parts front a b → Parts (x ∷ front) (y ∷ a) b
    longer e (inl h) = inl (h.0, h.1, cc)
    longer e (inr h) = inr (h.0, cc, h.2)

-- ---- bytes that are taken whole

module _ (pipe : Option Pipe) (s : Stage) (bytes : List ℕ) (out : List Message)
    (t : TakesAt pipe s bytes out) where
  front_none : (held part rest : List ℕ) (y : ℕ) → held ++ (part ++ y ∷ rest) ≡ bytes
      → messages_from pipe (reading s held) part ≡ []
  front_none held [] rest y e = refl
  front_none held (x ∷ part) rest y e =
      let more : 0 < length (part ++ y ∷ rest) = omega (arith, length-append part (y ∷ rest)) in
      next_byte pipe s held x (reading s (held ++ x ∷ [])) [] part
      (t.front held (part ++ y ∷ rest) x e more)
      ∙ front_none (held ++ x ∷ []) part rest y
      (append_assoc held (x ∷ []) (part ++ y ∷ rest) ∙ e)

module _ (pipe : Option Pipe) (s : Stage) (is_whole : List ℕ → Bool)
    (reads : (all : List ℕ) → read_by pipe s all ≡ text_read s all (is_whole all))
    (none : is_whole [] ≡ false) where
  some_byte : (text : List ℕ) → is_whole text ≡ true → 0 < length text
  some_byte [] whole = absurd cc
  some_byte (b ∷ text) whole = omega arith

  text_taken : (text : List ℕ) → IsWholeText is_whole text → TakesAt pipe s text []
  text_taken text is = record {
    some = some_byte text is.whole;
    front = λ a c x joined some.
        let all = a ++ x ∷ [] in
        let both : all ++ c ≡ text = append_assoc a (x ∷ []) c ∙ joined in
        let first : take (length all) text ≡ all =
        ap (take (length all)) (sym both) ∙ take_at all c (length all) refl in
        let open_yet : is_whole all ≡ false =
        sym (ap is_whole first)
        ∙ is.front (length all) (omega (arith, length-append a (x ∷ [])))
        (omega (arith, ap length both, length-append all c, some)) in
        reads all ∙ ap (text_read s all) open_yet;
    whole = reads text ∙ ap (text_read s text) is.whole;
  }

-- ---- frames that are taken whole

module _ (pipe : Option Pipe) where
  by_length : (all : List ℕ) (next : Reading × List Message) → head_fault all ≡ None
      → (if nat_lt (length all) (frag_of all) then (reading stage.Frames all, [])
      else (reading stage.Frames [], message_in pipe all)) ≡ next
      → frame_read pipe all (head_fault all) ≡ next
  by_length all next head e = ap (frame_read pipe all) head ∙ e

  front_held : (frame front rest : List ℕ) → IsFrame frame → front ++ rest ≡ frame
      → 0 < length rest → read_by pipe stage.Frames front ≡ (reading stage.Frames front, [])
  front_held frame front rest is joined some =
      by_test (λ (q : Reading × List Message). q ≡ (reading stage.Frames front, []))
      (nat_lt (length front) 16) (reading stage.Frames front, [])
      (frame_read pipe front (head_fault front)) (λ e. refl)
      (λ e.
      let long : 16 ≤ length front = grind (arith, nat_tests) in
      let same : take 16 front ≡ take 16 frame =
      sym (take-append-le 16 front rest long) ∙ ap (take 16) joined in
      let short : nat_lt (length front) (frag_of front) ≡ true =
      grind (
        arith,
        nat_tests,
        frag_same front frame same,
        is.whole,
        ap length joined,
        length-append front rest,
      ) in
      by_length front (reading stage.Frames front, []) (head_same front frame same ∙ is.head)
      (ap (λ (t : Bool). if t then (reading stage.Frames front, [])
      else (reading stage.Frames [], message_in pipe front)) short))

  frame_whole : (frame : List ℕ) → IsFrame frame
      → read_by pipe stage.Frames frame ≡ (reading stage.Frames [], message_in pipe frame)
  frame_whole frame is =
      let long : nat_lt (length frame) 16 ≡ false = grind (arith, nat_tests, is.long) in
      let full : nat_lt (length frame) (frag_of frame) ≡ false =
      grind (arith, nat_tests, is.whole) in
      ap (λ (t : Bool). if t then (reading stage.Frames frame, [])
      else frame_read pipe frame (head_fault frame)) long
      ∙ by_length frame (reading stage.Frames [], message_in pipe frame) is.head
      (ap (λ (t : Bool). if t then (reading stage.Frames frame, [])
      else (reading stage.Frames [], message_in pipe frame)) full)

  frame_taken : (message : Message) → IsTaken pipe message
      → TakesAt pipe stage.Frames (spell message) (taken_of message)
  frame_taken message is = record {
    some = omega (arith, is.frame.long);
    front = λ a c x joined some.
        front_held (spell message) (a ++ x ∷ []) c is.frame
        (append_assoc a (x ∷ []) c ∙ joined) some;
    whole = frame_whole (spell message) is.frame
        ∙ ap (λ (ms : List Message). (reading stage.Frames [], ms)) is.taken;
  }

-- ---- frames

-- no frame is whole in a front of one
short_none : (frame behind rest : List ℕ) (y : ℕ) → IsFrame frame → behind ++ y ∷ rest ≡ frame
    → frames_of behind ≡ []
short_none frame behind rest y is joined = by (frames_of behind) refl
  where
    by : (frames : List (List ℕ)) → frames_of behind ≡ frames → frames_of behind ≡ []
    by [] e = e
    by (first ∷ frames) e =
        let more = frames_of (rest_of behind ++ y ∷ rest) in
        let all : first ∷ (frames ++ more) ≡ frame ∷ [] =
        ap (λ (x : List (List ℕ)). x ++ more) (sym e)
        ∙ sym (framing.framing_appends behind (y ∷ rest)).0 ∙ ap frames_of joined
        ∙ (framing.single_frame frame is).0 in
        let same : first ≡ frame = cc in
        let within : behind ≡ concat (first ∷ frames) ++ rest_of behind =
        (framing.framed behind).joined
        ∙ ap (λ (x : List (List ℕ)). concat x ++ rest_of behind) e in
        absurd (omega (
          arith,
          ap length same,
          ap length within,
          length-append (first ++ concat frames) (rest_of behind),
          length-append first (concat frames),
          ap length joined,
          length-append behind (y ∷ rest),
        ))

no_frames : frames_of [] ≡ []
no_frames = (framing.frames_joined [] tt).0

-- the first of the messages are whole in the bytes, and read there
pub record AreCut (pipe : Option Pipe) (ms : List Message) (behind : List ℕ) : Type 0 where
  pub messages : List Message
  pub of_put : IsPrefix messages ms
  pub frames : frames_of behind ≡ map spell messages
  pub read : messages_from pipe (reading stage.Frames []) behind ≡ all_read_of messages

none_cut : (pipe : Option Pipe) (ms : List Message) (behind : List ℕ) → frames_of behind ≡ []
    → messages_from pipe (reading stage.Frames []) behind ≡ [] → AreCut pipe ms behind
none_cut pipe ms behind frames read =
    record { messages = []; of_put = (ms, refl); frames = frames; read = read }

one_cut : (pipe : Option Pipe) (m : Message) (ms : List Message) (behind : List ℕ)
    → IsTaken pipe m → read_of m ≡ taken_of m
    → ((more : List ℕ) → IsPrefix more (spelled ms) → AreCut pipe ms more)
    → IsPrefix behind (spell m ++ spelled ms) → AreCut pipe (m ∷ ms) behind
one_cut pipe m ms behind is reads rest p = by (parts behind (spell m) (spelled ms) p)
  where
    takes : TakesAt pipe stage.Frames (spell m) (taken_of m)
    takes = frame_taken pipe m is

    by : Parts behind (spell m) (spelled ms) → AreCut pipe (m ∷ ms) behind
    by (inl short) =
        none_cut pipe (m ∷ ms) behind
        (short_none (spell m) behind short.1 short.0 is.frame short.2)
        (front_none pipe stage.Frames (spell m) (taken_of m) takes [] behind short.1 short.0 short.2)
    by (inr long) =
        let more = rest long.0 long.2 in
        let frames = ap frames_of long.1 ∙ (framing.frames_behind (spell m) long.0 is.frame).0
        ∙ ap (λ (x : List (List ℕ)). spell m ∷ x) more.frames in
        record {
          messages = m ∷ more.messages;
          of_put = (more.of_put.0, ap (λ (x : List Message). m ∷ x) more.of_put.1);
          frames = frames;
          read = ap (messages_from pipe (reading stage.Frames [])) long.1
              ∙ all_read pipe stage.Frames (spell m) (taken_of m) takes long.0
              ∙ ap (λ (x : List Message). x ++ messages_from pipe (reading stage.Frames []) long.0)
              (sym reads)
              ∙ ap (λ (x : List Message). read_of m ++ x) more.read;
        }

frames_cut : (pipe : Option Pipe) (ms : List Message) → AreNoTexts ms
    → AllByRecursion (ReadsBack pipe) ms → (behind : List ℕ) → IsPrefix behind (spelled ms)
    → AreCut pipe ms behind
frames_cut pipe [] no_texts back behind p =
    let none = nil_front behind p.0 p.1 in
    none_cut pipe [] behind (ap frames_of none ∙ no_frames)
    (ap (messages_from pipe (reading stage.Frames [])) none)
frames_cut pipe (Text bytes ∷ ms) no_texts back behind p = absurd no_texts.0
frames_cut pipe (Pdu pdu ∷ ms) no_texts back behind p =
    one_cut pipe (Pdu pdu) ms behind back.0 refl (frames_cut pipe ms no_texts.1 back.1) p
frames_cut pipe (Packet named ∷ ms) no_texts back behind p =
    one_cut pipe (Packet named) ms behind back.0 refl (frames_cut pipe ms no_texts.1 back.1) p

-- ---- behind a text

no_texts_framed : (ms : List Message) → AreNoTexts ms → framed ms ≡ ms
no_texts_framed [] h = refl
no_texts_framed (Text bytes ∷ ms) h = absurd h.0
no_texts_framed (Pdu pdu ∷ ms) h =
    ap (λ (x : List Message). Pdu pdu ∷ x) (no_texts_framed ms h.1)
no_texts_framed (Packet named ∷ ms) h =
    ap (λ (x : List Message). Packet named ∷ x) (no_texts_framed ms h.1)

-- what is read at a stage, where these frames are whole in the bytes
pub record AreReadAt (pipe : Option Pipe) (s : Stage) (put : List Message) (bytes : List ℕ)
    (frames : List (List ℕ)) : Type 0 where
  pub messages : List Message
  pub of_put : IsPrefix messages (framed put)
  pub are : frames ≡ map spell messages
  pub read : messages_from pipe (reading s []) bytes ≡ all_read_of messages

nothing : (pipe : Option Pipe) (s : Stage) (put : List Message) (bytes : List ℕ)
    (frames : List (List ℕ)) → frames ≡ [] → messages_from pipe (reading s []) bytes ≡ []
    → AreReadAt pipe s put bytes frames
nothing pipe s put bytes frames none read =
    record { messages = []; of_put = (framed put, refl); are = none; read = read }

-- bytes of which none are whole, where there is no text
no_bytes : (bytes : List ℕ) (frames : List (List ℕ)) → bytes ≡ [] → AreWhole [] bytes frames
    → frames ≡ []
no_bytes bytes frames none (inl short) = short.0
no_bytes bytes frames none (inr long) =
    long.2 ∙ ap frames_of (sym long.1 ∙ none) ∙ no_frames

at_frames : (pipe : Option Pipe) (put : List Message) → AreNoTexts put
    → AllByRecursion (ReadsBack pipe) put → (bytes : List ℕ) (frames : List (List ℕ))
    → IsPrefix bytes (spelled put) → AreWhole [] bytes frames
    → AreReadAt pipe stage.Frames put bytes frames
at_frames pipe put no_texts back bytes frames p (inl short) =
    let less = short.1 in absurd (omega (arith, less))
at_frames pipe put no_texts back bytes frames p (inr long) =
    let cut = frames_cut pipe put no_texts back bytes p in record {
      messages = cut.messages;
      of_put = subst (IsPrefix cut.messages) (sym (no_texts_framed put no_texts)) cut.of_put;
      are = long.2 ∙ ap frames_of (sym long.1) ∙ cut.frames;
      read = cut.read;
    }

module _ (pipe : Option Pipe) (s : Stage) (is_whole : List ℕ → Bool) (first : first_stage pipe ≡ s)
    (takes : (text : List ℕ) → IsWholeText is_whole text → TakesAt pipe s text []) where
  -- the text is not whole
  short_text : (text : List ℕ) (ms : List Message) → IsWholeText is_whole text
      → (bytes : List ℕ) (frames : List (List ℕ)) → Parts bytes text (spelled ms)
      → frames ≡ [] → length bytes < length text
      → AreReadAt pipe s (Text text ∷ ms) bytes frames
  short_text text ms whole bytes frames (inl cut) none less =
      nothing pipe s (Text text ∷ ms) bytes frames none
      (front_none pipe s text [] (takes text whole) [] bytes cut.1 cut.0 cut.2)
  short_text text ms whole bytes frames (inr long) none less =
      absurd (omega (arith, less, ap length long.1, length-append text long.0))

  -- and it is
  whole_text : (text : List ℕ) (ms : List Message) → IsWholeText is_whole text → AreNoTexts ms
      → AllByRecursion (ReadsBack pipe) ms → (bytes : List ℕ) (frames : List (List ℕ))
      → (behind : List ℕ) → bytes ≡ text ++ behind → frames ≡ frames_of behind
      → Parts bytes text (spelled ms) → AreReadAt pipe s (Text text ∷ ms) bytes frames
  whole_text text ms whole no_texts back bytes frames behind is are (inl cut) =
      absurd (omega (
        arith,
        ap length is,
        length-append text behind,
        ap length cut.2,
        length-append bytes (cut.0 ∷ cut.1),
      ))
  whole_text text ms whole no_texts back bytes frames behind is are (inr long) =
      let same : long.0 ≡ behind = append_cancel_left text long.0 behind (sym long.1 ∙ is) in
      let cut = frames_cut pipe ms no_texts back behind
      (subst (λ (x : List ℕ). IsPrefix x (spelled ms)) same long.2) in record {
        messages = cut.messages;
        of_put = subst (IsPrefix cut.messages) (sym (no_texts_framed ms no_texts)) cut.of_put;
        are = are ∙ cut.frames;
        read = ap (messages_from pipe (reading s [])) is
            ∙ all_read pipe s text [] (takes text whole) behind ∙ cut.read;
      }

  -- a text in which nothing is read
  no_text : (text bytes : List ℕ) (frames : List (List ℕ)) → ReadsNothing pipe text
      → IsPrefix bytes text → AreWhole text bytes frames
      → AreReadAt pipe s (Text text ∷ []) bytes frames
  no_text text bytes frames none p whole =
      nothing pipe s (Text text ∷ []) bytes frames (by whole)
      (subst (λ (at : Stage). messages_from pipe (reading at []) bytes ≡ []) first (none bytes p))
    where
      by : AreWhole text bytes frames → frames ≡ []
      by (inl short) = short.0
      by (inr long) =
          let all : text ++ (long.0 ++ p.0) ≡ text ++ [] =
          sym (append_assoc text long.0 p.0)
          ∙ ap (λ (x : List ℕ). x ++ p.0) (sym long.1) ∙ p.1 ∙ sym (append-nil text) in
          let both = append_cancel_left text (long.0 ++ p.0) [] all in
          long.2 ∙ ap frames_of (nil_front long.0 p.0 both) ∙ no_frames

  by_text : (text : List ℕ) (ms : List Message)
      → (IsWholeText is_whole text × AreNoTexts ms) ⊎ (ReadsNothing pipe text × (ms ≡ []))
      → AllByRecursion (ReadsBack pipe) ms → (bytes : List ℕ) (frames : List (List ℕ))
      → IsPrefix bytes (text ++ spelled ms) → AreWhole text bytes frames
      → AreReadAt pipe s (Text text ∷ ms) bytes frames
  by_text text ms (inl h) back bytes frames p (inl short) =
      short_text text ms h.0 bytes frames (parts bytes text (spelled ms) p) short.0 short.1
  by_text text ms (inl h) back bytes frames p (inr long) =
      whole_text text ms h.0 h.1 back bytes frames long.0 long.1 long.2
      (parts bytes text (spelled ms) p)
  by_text text ms (inr h) back bytes frames p whole =
      let alone : IsPrefix bytes text =
      subst (λ (x : List ℕ). IsPrefix bytes x) (append-nil text)
      (subst (λ (x : List Message). IsPrefix bytes (text ++ spelled x)) h.1 p) in
      subst (λ (x : List Message). AreReadAt pipe s (Text text ∷ x) bytes frames) (sym h.1)
      (no_text text bytes frames h.0 alone whole)

  at_text : (put : List Message) → BeginsWith pipe is_whole put
      → AllByRecursion (ReadsBack pipe) put → (bytes : List ℕ) (frames : List (List ℕ))
      → IsPrefix bytes (spelled put) → AreWhole (lead put) bytes frames
      → AreReadAt pipe s put bytes frames
  at_text [] begins back bytes frames p whole =
      let none = nil_front bytes p.0 p.1 in
      nothing pipe s [] bytes frames (no_bytes bytes frames none whole)
      (ap (messages_from pipe (reading s [])) none)
  at_text (Text text ∷ ms) begins back bytes frames p whole =
      by_text text ms begins back.1 bytes frames p whole
  at_text (Pdu pdu ∷ ms) begins back bytes frames p whole = absurd begins
  at_text (Packet named ∷ ms) begins back bytes frames p whole = absurd begins

-- ---- whatever comes first

no_head : is_whole_head [] ≡ false
unfolding ends_head
no_head = refl

no_lead : (put : List Message) → AreNoTexts put → lead put ≡ []
no_lead [] h = refl
no_lead (Text bytes ∷ put) h = absurd h.0
no_lead (Pdu pdu ∷ put) h = refl
no_lead (Packet named ∷ put) h = refl

at_stage : (pipe : Option Pipe) (s : Stage) (put : List Message) → first_stage pipe ≡ s
    → BeginsBy pipe s put → AllByRecursion (ReadsBack pipe) put → (bytes : List ℕ)
    (frames : List (List ℕ)) → IsPrefix bytes (spelled put) → AreWhole (lead put) bytes frames
    → AreReadAt pipe s put bytes frames
at_stage pipe stage.Head put first begins back bytes frames p whole =
    at_text pipe stage.Head is_whole_head first
    (text_taken pipe stage.Head is_whole_head (λ all. refl) no_head) put begins back bytes frames p
    whole
at_stage pipe stage.Greeting put first begins back bytes frames p whole =
    at_text pipe stage.Greeting is_whole_greeting first
    (text_taken pipe stage.Greeting is_whole_greeting (λ all. refl) refl) put begins back bytes
    frames p whole
at_stage pipe stage.Frames put first begins back bytes frames p whole =
    at_frames pipe put begins back bytes frames p
    (subst (λ (x : List ℕ). AreWhole x bytes frames) (no_lead put begins) whole)
at_stage pipe stage.PassedOver put first begins back bytes frames p whole = absurd begins
at_stage pipe stage.Shut put first begins back bytes frames p whole = absurd begins

pub are_read : (pipe : Pipe) (put : List Message) (bytes : List ℕ) (frames : List (List ℕ))
    → Begins (Some pipe) put → AllByRecursion (ReadsBack (Some pipe)) put
    → IsPrefix bytes (spelled put) → AreWhole (lead put) bytes frames
    → AreRead pipe put bytes frames
are_read pipe put bytes frames begins back p whole =
    let at = at_stage (Some pipe) (first_stage (Some pipe)) put refl begins back bytes frames p
    whole in
    record { messages = at.messages; of_put = at.of_put; are = at.are; read = at.read }

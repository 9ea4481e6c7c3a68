-- a Ping that is whole by a byte of what was put, where no packet was read before, is the first
-- packet that was put
use Rattle.law_order.proofs.Vocabulary.{◌≡◌, ◌⊎◌, ◌<◌, ◌≤◌, inl, inr, ℕ, Bool, true, false, if◌then◌else◌, nat_lt, List, [], ◌∷◌, ◌++◌, length, take, drop, get_or, arith, refl, sym, ap, ◌∙◌, subst, Some, None, ◌&&◌, AllByRecursion, Option, nat_tests, append_assoc, append-nil, length-append, take-append-le, take_at, and_parts, IsPrefix}
use Rattle.rh_shell.specs.declared.stage.Stage.TheVariants as stage
use Rattle.law_moves.proofs.Vocabulary.{by_test, prefix_trans, frag_same, head_same, IsFrame, frag_of, head_fault, Pipe, IsU, OsU, Named, Ping, Refusal, Bad, Missing, Unavailable, refusal_text, Stage, is_ping, ends_head, is_whole_head, first_stage, packet_of, Message, Text, Pdu, Packet, spell, message_in, named_messages, spelled, ReadsBack, taken_of, packets, AreNoTexts, Begins, BeginsBy, BeginsWith, IsWholeText, Reading, begin, frame_read, messages_from, messages_read}
use Rattle.law_moves.proofs.Vocabulary.{read_by, read_byte, reading, reading_after, text_read}
use Rattle.law_moves.proofs.Lemmas.{next_byte as next_from, TakesAt, read_behind as from_append}
use Rattle.law_moves.specs.Legible.Legible.{IsTaken}
use Rattle.law_node_streams.proofs.Streams.Bytes.{after_append}
use Rattle.law_node_streams.specs.Streams.{IsDrawn}
use Rattle.law_peers_moments.specs.Expecting.{HasNoPingFirst}
use Rattle.law_world_expected.proofs.Amiss.Bytes.{IsPing, ping_is}

-- a text that is a whole head
abbrev pub IsHead : Message → Type 0
IsHead (Text text) = IsWholeText is_whole_head text
IsHead (Pdu pdu) = Unit {0}
IsHead (Packet named) = Unit {0}

-- ---- a front of two texts, one behind the other

-- it ends within the first, or reaches into the second
abbrev Parted : List ℕ → List ℕ → List ℕ → ℕ → List ℕ → Type 0
Parted front a more b tail =
    ((rest : List ℕ) × (front ++ b ∷ rest ≡ a))
    ⊎ ((behind : List ℕ) × (front ≡ a ++ behind) × (behind ++ b ∷ tail ≡ more))

parted : (front a more : List ℕ) (b : ℕ) (tail : List ℕ) → front ++ b ∷ tail ≡ a ++ more
    → Parted front a more b tail
parted front [] more b tail e = inr (front, refl, e)
parted [] (y ∷ a) more b tail e =
    inl (a, ap (λ (x : ℕ). x ∷ a) (ap (λ (l : List ℕ). get_or l 0 0) e))
parted (x ∷ front) (y ∷ a) more b tail e =
    longer (ap (λ (l : List ℕ). get_or l 0 0) e)
    (parted front a more b tail (ap (λ (l : List ℕ). drop 1 l) e))
  where
    longer : x ≡ y → Parted front a more b tail → Parted (x ∷ front) (y ∷ a) more b tail
    longer same (inl h) = inl (h.0, cc)
    longer same (inr h) = inr (h.0, cc, h.2)

none_left : (a : List ℕ) (b : ℕ) (tail : List ℕ) → a ++ b ∷ tail ≡ [] → ⊥
none_left [] b tail e = absurd cc
none_left (x ∷ a) b tail e = absurd cc

-- ---- bytes that are taken whole, at their last byte and no sooner

-- what is behind a byte, and what it gives
next_after : (pipe : Option Pipe) (s : Stage) (held : List ℕ) (x : ℕ) (next : Reading)
    (out : List Message) (bytes : List ℕ) → read_by pipe s (held ++ x ∷ []) ≡ (next, out)
    → reading_after pipe (reading s held) (x ∷ bytes) ≡ reading_after pipe next bytes
unfolding read_byte
next_after pipe s held x next out bytes e =
    ap (λ (q : Reading × List Message). reading_after pipe q.0 bytes) e

module _ (pipe : Option Pipe) (s : Stage) (bytes : List ℕ) (out : List Message)
    (t : TakesAt pipe s bytes out) where
  held_on : (held a : List ℕ) (x : ℕ) → held ++ x ∷ a ≡ bytes → (held ++ x ∷ []) ++ a ≡ bytes
  held_on held a x e = append_assoc held (x ∷ []) a ∙ e

  -- a front is held
  front_after : (held part rest : List ℕ) (y : ℕ) → held ++ (part ++ y ∷ rest) ≡ bytes
      → reading_after pipe (reading s held) part ≡ reading s (held ++ part)
  front_after held [] rest y e = ap (reading s) (sym (append-nil held))
  front_after held (x ∷ part) rest y e =
      let more : 0 < length (part ++ y ∷ rest) = omega (arith, length-append part (y ∷ rest)) in
      next_after pipe s held x (reading s (held ++ x ∷ [])) [] part
      (t.front held (part ++ y ∷ rest) x e more)
      ∙ front_after (held ++ x ∷ []) part rest y (held_on held (part ++ y ∷ rest) x e)
      ∙ ap (reading s) (append_assoc held (x ∷ []) part)

  -- all of it is read, and then come frames
  record IsTakenFrom (held rest : List ℕ) : Type 0 where
    after : reading_after pipe (reading s held) rest ≡ reading stage.Frames []
    gives : messages_from pipe (reading s held) rest ≡ out

  all_taken : (held rest : List ℕ) (x : ℕ) → held ++ x ∷ rest ≡ bytes
      → IsTakenFrom held (x ∷ rest)
  all_taken held [] x e =
      let byte = ap (read_by pipe s) e ∙ t.whole in record {
        after = next_after pipe s held x (reading stage.Frames []) out [] byte;
        gives =
            next_from pipe s held x (reading stage.Frames []) out [] byte ∙ append-nil out;
      }
  all_taken held (y ∷ rest) x e =
      let some : 0 < length (y ∷ rest) = omega arith in
      let byte = t.front held (y ∷ rest) x e some in
      let behind = all_taken (held ++ x ∷ []) rest y (held_on held (y ∷ rest) x e) in record {
        after =
            next_after pipe s held x (reading s (held ++ x ∷ [])) [] (y ∷ rest) byte
            ∙ behind.after;
        gives =
            next_from pipe s held x (reading s (held ++ x ∷ [])) [] (y ∷ rest) byte
            ∙ behind.gives;
      }

  whole_taken : IsTakenFrom [] bytes
  whole_taken = by_first bytes t.some (λ x rest e. all_taken [] rest x e)
    where
      by_first : (all : List ℕ) → 0 < length all
          → ((x : ℕ) (rest : List ℕ) → x ∷ rest ≡ all → IsTakenFrom [] (x ∷ rest))
          → IsTakenFrom [] all
      by_first [] some h = absurd (omega (arith, some))
      by_first (x ∷ rest) some h = h x rest refl

  -- ---- a byte in them or behind them makes a frame whole

  module _ (b : ℕ) (held : List ℕ) (read : List Message)
      (whole : read_by pipe stage.Frames (held ++ b ∷ []) ≡ (reading stage.Frames [], read)) where
    -- not in them, but at their end
    within : (heard rest : List ℕ) → heard ++ b ∷ rest ≡ bytes
        → reading_after pipe (reading s []) heard ≡ reading stage.Frames held
        → (s ≡ stage.Frames) × (held ++ b ∷ [] ≡ bytes)
    within heard rest e after =
        let here : reading s heard ≡ reading stage.Frames held =
        sym (front_after [] heard rest b e) ∙ after in
        let frames : s ≡ stage.Frames = ap (λ (r : Reading). r.stage) here in
        let same : heard ≡ held = ap (λ (r : Reading). r.held) here in (
          frames,
          by rest frames (ap (λ (l : List ℕ). l ++ b ∷ rest) (sym same) ∙ e),
        )
      where
        by : (rest : List ℕ) → s ≡ stage.Frames → held ++ b ∷ rest ≡ bytes
            → held ++ b ∷ [] ≡ bytes
        by [] frames e = e
        by (y ∷ more) frames e =
            let some : 0 < length (y ∷ more) = omega arith in
            let yet = subst (λ (st : Stage). read_by pipe st (held ++ b ∷ [])
            ≡ (reading st (held ++ b ∷ []), [])) frames (t.front held (y ∷ more) b e some) in
            absurd (none_left held b []
            (ap (λ (q : Reading × List Message). q.0.held) (sym yet ∙ whole)))

    one : {G : Type 0} (heard tail more : List ℕ) → heard ++ b ∷ tail ≡ bytes ++ more
        → reading_after pipe (reading s []) heard ≡ reading stage.Frames held
        → (s ≡ stage.Frames → held ++ b ∷ [] ≡ bytes → G)
        → ((behind : List ℕ) → behind ++ b ∷ tail ≡ more
        → reading_after pipe (reading stage.Frames []) behind ≡ reading stage.Frames held
        → messages_from pipe (reading s []) heard
        ≡ out ++ messages_from pipe (reading stage.Frames []) behind → G) → G
    one {G} heard tail more e after at_end later = by (parted heard bytes more b tail e)
      where
        by : Parted heard bytes more b tail → G
        by (inl h) = let two = within heard h.0 h.1 after in at_end two.0 two.1
        by (inr h) =
            let taken = whole_taken in
            later h.0 h.2
            (sym (ap (λ (r : Reading). reading_after pipe r h.0) taken.after)
            ∙ sym (after_append pipe (reading s []) bytes h.0)
            ∙ ap (reading_after pipe (reading s [])) (sym h.1) ∙ after)
            (ap (messages_from pipe (reading s [])) h.1
            ∙ from_append pipe (reading s []) bytes h.0
            ∙ ap (λ (ms : List Message). ms ++ messages_from pipe
            (reading_after pipe (reading s []) bytes) h.0) taken.gives
            ∙ ap (λ (r : Reading). out ++ messages_from pipe r h.0) taken.after)

-- ---- frames

module _ (pipe : Option Pipe) where
  abbrev Next : Type 0
  Next = Reading × List Message

  by_length : (all : List ℕ) (next : Next) → head_fault all ≡ None
      → (if nat_lt (length all) (frag_of all) then (reading stage.Frames all, [])
      else (reading stage.Frames [], message_in pipe all)) ≡ next
      → frame_read pipe all (head_fault all) ≡ next
  by_length all next head e = ap (frame_read pipe all) head ∙ e

  front_held : (frame front rest : List ℕ) → IsFrame frame → front ++ rest ≡ frame
      → 0 < length rest → read_by pipe stage.Frames front ≡ (reading stage.Frames front, [])
  front_held frame front rest is joined some =
      by_test (λ (q : Next). q ≡ (reading stage.Frames front, [])) (nat_lt (length front) 16)
      (reading stage.Frames front, []) (frame_read pipe front (head_fault front)) (λ e. refl)
      (λ e.
      let long : 16 ≤ length front = grind (arith, nat_tests) in
      let same : take 16 front ≡ take 16 frame =
      sym (take-append-le 16 front rest long) ∙ ap (take 16) joined in
      let short : nat_lt (length front) (frag_of front) ≡ true =
      grind (
        arith,
        nat_tests,
        frag_same front frame same,
        is.whole,
        ap length joined,
        length-append front rest,
      ) in
      by_length front (reading stage.Frames front, []) (head_same front frame same ∙ is.head)
      (ap (λ (t : Bool). if t then (reading stage.Frames front, [])
      else (reading stage.Frames [], message_in pipe front)) short))

  frame_whole : (frame : List ℕ) → IsFrame frame
      → read_by pipe stage.Frames frame ≡ (reading stage.Frames [], message_in pipe frame)
  frame_whole frame is =
      let long : nat_lt (length frame) 16 ≡ false = grind (arith, nat_tests, is.long) in
      let full : nat_lt (length frame) (frag_of frame) ≡ false =
      grind (arith, nat_tests, is.whole) in
      ap (λ (t : Bool). if t then (reading stage.Frames frame, [])
      else frame_read pipe frame (head_fault frame)) long
      ∙ by_length frame (reading stage.Frames [], message_in pipe frame) is.head
      (ap (λ (t : Bool). if t then (reading stage.Frames frame, [])
      else (reading stage.Frames [], message_in pipe frame)) full)

  frame_taken : (message : Message) → IsTaken pipe message
      → TakesAt pipe stage.Frames (spell message) (taken_of message)
  frame_taken message is = record {
    some = omega (arith, is.frame.long);
    front = λ a c x joined some.
        front_held (spell message) (a ++ x ∷ []) c is.frame
        (append_assoc a (x ∷ []) c ∙ joined) some;
    whole = frame_whole (spell message) is.frame
        ∙ ap (λ (ms : List Message). (reading stage.Frames [], ms)) is.taken;
  }

  -- ---- heads

  some_byte : (text : List ℕ) → is_whole_head text ≡ true → 0 < length text
  unfolding ends_head
  some_byte [] whole = absurd cc
  some_byte (b ∷ text) whole = omega arith

  head_taken : (text : List ℕ) → IsWholeText is_whole_head text
      → TakesAt pipe stage.Head text []
  head_taken text is = record {
    some = some_byte text is.whole;
    front = λ a c x joined some.
        let all = a ++ x ∷ [] in
        let parts : all ++ c ≡ text = append_assoc a (x ∷ []) c ∙ joined in
        let first : take (length all) text ≡ all =
        ap (take (length all)) (sym parts) ∙ take_at all c (length all) refl in
        let open_yet : is_whole_head all ≡ false =
        sym (ap is_whole_head first)
        ∙ is.front (length all) (omega (arith, length-append a (x ∷ [])))
        (omega (arith, ap length parts, length-append all c, some)) in
        ap (text_read stage.Head all) open_yet;
    whole = ap (text_read stage.Head text) is.whole;
  }

  -- ---- a Ping

  -- no bytes of another message are one
  ping_read : (all : List ℕ) → IsPing pipe all → message_in pipe all ≡ []
  ping_read all ping =
      ap (λ (t : Bool). if t then named_messages (packet_of all pipe) else Pdu all ∷ []) ping.frame
      ∙ ap named_messages ping.ping

  no_pdu : (pdu : List ℕ) → IsTaken pipe (Pdu pdu) → IsPing pipe pdu → ⊥
  no_pdu pdu is ping =
      absurd (let bad : [] ≡ Pdu pdu ∷ [] = sym (ping_read pdu ping) ∙ is.taken in cc)

  no_packet : (named : Named) → (named ≡ Ping → ⊥) → IsTaken pipe (Packet named)
      → IsPing pipe (spell (Packet named)) → ⊥
  no_packet named other is ping =
      by (is_ping named) refl (sym (ping_read (spell (Packet named)) ping) ∙ is.taken)
    where
      by : (t : Bool) → is_ping named ≡ t → [] ≡ (if t then [] else Packet named ∷ []) → ⊥
      by true e same = other (ping_is named e)
      by false e same = absurd cc

  -- and no packet is behind what has none
  some_packet : (named : Named) → (named ≡ Ping → ⊥) → (rest : List Message)
      → packets (taken_of (Packet named) ++ rest) ≡ 0 → ⊥
  some_packet named other rest = by (is_ping named) refl
    where
      by : (t : Bool) → is_ping named ≡ t
          → packets ((if t then [] else Packet named ∷ []) ++ rest) ≡ 0 → ⊥
      by true e none = other (ping_is named e)
      by false e none = absurd (omega (arith, none))

  module _ (b : ℕ) (held : List ℕ) (is : IsPing pipe (held ++ b ∷ []))
      (whole : read_by pipe stage.Frames (held ++ b ∷ [])
      ≡ (reading stage.Frames [], message_in pipe (held ++ b ∷ []))) where
    frames_pinged : (put : List Message) → AreNoTexts put → AllByRecursion (ReadsBack pipe) put
        → HasNoPingFirst put → (heard tail : List ℕ) → heard ++ b ∷ tail ≡ spelled put
        → reading_after pipe (reading stage.Frames []) heard ≡ reading stage.Frames held
        → packets (messages_from pipe (reading stage.Frames []) heard) ≡ 0 → ⊥
    frames_pinged [] no_texts back first heard tail e after none = none_left heard b tail e
    frames_pinged (Text bytes ∷ put) no_texts back first heard tail e after none =
        absurd no_texts.0
    frames_pinged (Pdu pdu ∷ put) no_texts back first heard tail e after none =
        one pipe stage.Frames pdu (Pdu pdu ∷ []) (frame_taken (Pdu pdu) back.0) b held
        (message_in pipe (held ++ b ∷ [])) whole heard tail (spelled put) e after
        (λ frames same. no_pdu pdu back.0 (subst (IsPing pipe) same is)) (λ behind f read gives.
        frames_pinged put no_texts.1 back.1 first behind tail f read
        (ap packets (sym gives) ∙ none))
    frames_pinged (Packet named ∷ put) no_texts back first heard tail e after none =
        one pipe stage.Frames (spell (Packet named)) (taken_of (Packet named))
        (frame_taken (Packet named) back.0) b held (message_in pipe (held ++ b ∷ [])) whole heard
        tail (spelled put) e after
        (λ frames same. no_packet named first back.0 (subst (IsPing pipe) same is))
        (λ behind f read gives.
        some_packet named first (messages_from pipe (reading stage.Frames []) behind)
        (ap packets (sym gives) ∙ none))

    -- a text, and then frames
    text_pinged : (text : List ℕ) (put : List Message) → IsWholeText is_whole_head text
        → AreNoTexts put → AllByRecursion (ReadsBack pipe) put → HasNoPingFirst put
        → (heard tail : List ℕ) → heard ++ b ∷ tail ≡ text ++ spelled put
        → reading_after pipe (reading stage.Head []) heard ≡ reading stage.Frames held
        → packets (messages_from pipe (reading stage.Head []) heard) ≡ 0 → ⊥
    text_pinged text put is_text no_texts back first heard tail e after none =
        one pipe stage.Head text [] (head_taken text is_text) b held
        (message_in pipe (held ++ b ∷ [])) whole heard tail (spelled put) e after
        (λ frames same. absurd cc) (λ behind f read gives.
        frames_pinged put no_texts back first behind tail f read (ap packets (sym gives) ∙ none))

    head_pinged : (put : List Message) → BeginsWith pipe is_whole_head put
        → AllByRecursion IsHead put → AllByRecursion (ReadsBack pipe) put → HasNoPingFirst put
        → (heard tail : List ℕ) → heard ++ b ∷ tail ≡ spelled put
        → reading_after pipe (reading stage.Head []) heard ≡ reading stage.Frames held
        → packets (messages_from pipe (reading stage.Head []) heard) ≡ 0 → ⊥
    head_pinged [] begins heads back first heard tail e after none = none_left heard b tail e
    head_pinged (Text text ∷ put) (inl h) heads back first heard tail e after none =
        text_pinged text put heads.0 h.1 back.1 first heard tail e after none
    head_pinged (Text text ∷ put) (inr h) heads back first heard tail e after none =
        text_pinged text put heads.0 (subst AreNoTexts (sym h.1) tt) back.1 first heard tail e
        after none
    head_pinged (Pdu pdu ∷ put) begins heads back first heard tail e after none = absurd begins
    head_pinged (Packet named ∷ put) begins heads back first heard tail e after none =
        absurd begins

    by_stage : (s : Stage) (put : List Message) → BeginsBy pipe s put → (s ≡ stage.Greeting → ⊥)
        → AllByRecursion IsHead put → AllByRecursion (ReadsBack pipe) put → HasNoPingFirst put
        → (heard tail : List ℕ) → heard ++ b ∷ tail ≡ spelled put
        → reading_after pipe (reading s []) heard ≡ reading stage.Frames held
        → packets (messages_from pipe (reading s []) heard) ≡ 0 → ⊥
    by_stage stage.Head put begins upward heads back first heard tail e after none =
        head_pinged put begins heads back first heard tail e after none
    by_stage stage.Greeting put begins upward heads back first heard tail e after none =
        upward refl
    by_stage stage.Frames put begins upward heads back first heard tail e after none =
        frames_pinged put begins back first heard tail e after none
    by_stage stage.PassedOver put begins upward heads back first heard tail e after none =
        absurd begins
    by_stage stage.Shut put begins upward heads back first heard tail e after none =
        absurd begins

    -- the bytes that were heard, and this one, are a front of what was put; heads come first, or
    -- frames
    pub put_pinged : (put : List Message) (drawn heard : List ℕ) → Begins pipe put
        → (first_stage pipe ≡ stage.Greeting → ⊥) → AllByRecursion IsHead put
        → AllByRecursion (ReadsBack pipe) put → IsPrefix drawn (spelled put)
        → IsPrefix (heard ++ b ∷ []) drawn
        → reading_after pipe (begin pipe) heard ≡ reading stage.Frames held
        → packets (messages_read pipe heard) ≡ 0 → HasNoPingFirst put → ⊥
    put_pinged put drawn heard begins upward heads back p h after none first =
        let all = prefix_trans (heard ++ b ∷ []) drawn (spelled put) h p in
        by_stage (first_stage pipe) put begins upward heads back first heard all.0
        (sym (append_assoc heard (b ∷ []) all.0) ∙ all.1) after none

-- ---- a refusal has no frame

is_some_byte : List ℕ → Bool
is_some_byte [] = false
is_some_byte (b ∷ bytes) = true

-- some byte is held behind each
is_held : Option Pipe → Reading → List ℕ → Bool
is_held pipe r [] = true
is_held pipe r (b ∷ bytes) =
    is_some_byte (read_byte pipe r b).0.held && is_held pipe (read_byte pipe r b).0 bytes

held_behind : (pipe : Option Pipe) (r : Reading) (front tail : List ℕ) (b : ℕ)
    → is_held pipe r (front ++ b ∷ tail) ≡ true
    → is_some_byte (read_byte pipe (reading_after pipe r front) b).0.held ≡ true
unfolding is_held
held_behind pipe r [] tail b e =
    (and_parts (is_some_byte (read_byte pipe r b).0.held)
    (is_held pipe (read_byte pipe r b).0 tail) e).0
held_behind pipe r (x ∷ front) tail b e =
    held_behind pipe (read_byte pipe r x).0 front tail b
    (and_parts (is_some_byte (read_byte pipe r x).0.held)
    (is_held pipe (read_byte pipe r x).0 (front ++ b ∷ tail)) e).1

-- on the legs from a proxy to the server, where frames come first
abbrev pub IsOfProxy : Option Pipe → Type 0
IsOfProxy (Some IsU) = Unit {0}
IsOfProxy (Some OsU) = Unit {0}
IsOfProxy pipe = ⊥

refusal_held : (pipe : Option Pipe) (refusal : Refusal) → IsOfProxy pipe
    → is_held pipe (begin pipe) (refusal_text refusal) ≡ true
unfolding is_held is_some_byte read_byte head_fault
refusal_held (Some IsU) Bad of = refl
refusal_held (Some IsU) Missing of = refl
refusal_held (Some IsU) Unavailable of = refl
refusal_held (Some OsU) Bad of = refl
refusal_held (Some OsU) Missing of = refl
refusal_held (Some OsU) Unavailable of = refl
refusal_held pipe refusal of = absurd of

refusal_pinged : (pipe : Option Pipe) → IsOfProxy pipe → (refusal : Refusal)
    (heard held tail : List ℕ) (b : ℕ) (read : List Message)
    → heard ++ b ∷ tail ≡ refusal_text refusal
    → reading_after pipe (begin pipe) heard ≡ reading stage.Frames held
    → read_by pipe stage.Frames (held ++ b ∷ []) ≡ (reading stage.Frames [], read) → ⊥
unfolding is_some_byte read_byte
refusal_pinged pipe of refusal heard held tail b read e after whole =
    absurd (let bad : false ≡ true =
    ap (λ (q : Reading × List Message). is_some_byte q.0.held) (sym whole)
    ∙ ap (λ (r : Reading). is_some_byte (read_byte pipe r b).0.held) (sym after)
    ∙ held_behind pipe (begin pipe) heard tail b
    (ap (is_held pipe (begin pipe)) e ∙ refusal_held pipe refusal of) in cc)

-- ---- what a proxy drew

module _ (pipe : Option Pipe) (of : IsOfProxy pipe) (b : ℕ) (held : List ℕ)
    (is : IsPing pipe (held ++ b ∷ []))
    (whole : read_by pipe stage.Frames (held ++ b ∷ [])
    ≡ (reading stage.Frames [], message_in pipe (held ++ b ∷ []))) where
  -- is of what it put, or of a refusal
  pub drawn_pinged : (put : List Message) (drawn heard : List ℕ) → Begins pipe put
      → (first_stage pipe ≡ stage.Greeting → ⊥) → AllByRecursion IsHead put
      → AllByRecursion (ReadsBack pipe) put → IsDrawn put drawn
      → IsPrefix (heard ++ b ∷ []) drawn
      → reading_after pipe (begin pipe) heard ≡ reading stage.Frames held
      → packets (messages_read pipe heard) ≡ 0 → HasNoPingFirst put → ⊥
  drawn_pinged put drawn heard begins upward heads back (inl p) h after none first =
      put_pinged pipe b held is whole put drawn heard begins upward heads back p h after none first
  drawn_pinged put drawn heard begins upward heads back (inr refused) h after none first =
      let all = prefix_trans (heard ++ b ∷ []) drawn (refusal_text refused.1) h refused.2 in
      refusal_pinged pipe of refused.1 heard held all.0 b (message_in pipe (held ++ b ∷ []))
      (sym (append_assoc heard (b ∷ []) all.0) ∙ all.1) after whole

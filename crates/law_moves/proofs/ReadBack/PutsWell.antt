-- what was put on a leg reads well there
use Rattle.law_order.proofs.Vocabulary.{◌≡◌, ◌⊎◌, ◌<◌, ℕ, Bool, true, false, if◌then◌else◌, List, [], ◌∷◌, ◌++◌, length, inl, inr, arith, refl, sym, ap, ◌∙◌, subst, Some, None, AllByRecursion, Option, append_assoc, append-nil, length-append, IsPrefix}
use Rattle.rh_shell.specs.declared.stage.Stage.TheVariants as stage
use Rattle.law_moves.proofs.Vocabulary.{nil_front, HeadFault, IsFrame, head_fault, Pipe, Stage, greeting, is_whole_head, is_whole_greeting, first_stage, Message, Text, Pdu, Packet, spell, message_in, spelled, ReadsBack, AreNoTexts, Begins, BeginsBy, BeginsWith, IsWholeText, Reading, ReadsNothing, frame_read, read_by, read_byte, reading, reading_after, text_read, Answers, ByteIsWell, FrameIsWell, HeaderIsWell, IsWellText, ReadsWell, ReadsWellFrom, TextIsWell}
use Rattle.law_moves.proofs.ReadBack.Parting.{Parted, parted}
use Rattle.law_moves.proofs.ReadBack.Taking.{TakesAt}
use Rattle.law_moves.proofs.ReadBack.Frames.{frame_taken}
use Rattle.law_moves.proofs.ReadBack.WholeTexts.{head_taken, greeting_taken}

module _ (well_of : Answers) (pipe : Option Pipe) where
  -- ---- one after the other

  pub well_then : (r : Reading) (a b : List ℕ) → ReadsWellFrom well_of pipe r a
      → ReadsWellFrom well_of pipe (reading_after pipe r a) b
      → ReadsWellFrom well_of pipe r (a ++ b)
  well_then r [] b first next = next
  well_then r (x ∷ a) b first next =
      (first.0, well_then (read_byte pipe r x).0 a b first.1 next)

  pub well_behind : (r : Reading) (a b : List ℕ) → ReadsWellFrom well_of pipe r (a ++ b)
      → ReadsWellFrom well_of pipe (reading_after pipe r a) b
  well_behind r [] b all = all
  well_behind r (x ∷ a) b all = well_behind (read_byte pipe r x).0 a b all.1

  -- ---- a byte that makes nothing whole

  abbrev Next : Type 0
  Next = Reading × List Message

  none_left : (x : ℕ) (a : List ℕ) → [] ≡ a ++ x ∷ [] → ⊥
  none_left x [] e = absurd cc
  none_left x (y ∷ a) e = absurd cc

  greeting_held : (all : List ℕ) (t : Bool) → text_read stage.Greeting all t
      ≡ (reading stage.Greeting all, []) → t ≡ true → ⊥
  greeting_held all true e is =
      absurd (let same : stage.Frames ≡ stage.Greeting = ap (λ (q : Next). q.0.stage) e in cc)
  greeting_held all false e is = absurd cc

  frame_held : (a : List ℕ) (x : ℕ) (o : Option HeadFault)
      → frame_read pipe (a ++ x ∷ []) o ≡ (reading stage.Frames (a ++ x ∷ []), [])
      → HeaderIsWell well_of pipe (a ++ x ∷ []) o
  frame_held a x (Some fault) e =
      absurd (let same : stage.Shut ≡ stage.Frames = ap (λ (q : Next). q.0.stage) e in cc)
  frame_held a x None e = λ full.
      absurd (none_left x a
      (ap (λ (q : Next). q.0.held)
      (sym (ap (λ (t : Bool). if t then (reading stage.Frames (a ++ x ∷ []), [])
      else (reading stage.Frames [], message_in pipe (a ++ x ∷ []))) full) ∙ e)))

  front_is_well : (s : Stage) (a : List ℕ) (x : ℕ)
      → read_by pipe s (a ++ x ∷ []) ≡ (reading s (a ++ x ∷ []), [])
      → ByteIsWell well_of pipe s (a ++ x ∷ [])
  front_is_well stage.Head a x e = tt
  front_is_well stage.Greeting a x e = λ whole.
      absurd (greeting_held (a ++ x ∷ []) (is_whole_greeting (a ++ x ∷ [])) e whole)
  front_is_well stage.Frames a x e = λ long.
      frame_held a x (head_fault (a ++ x ∷ []))
      (sym (ap (λ (t : Bool). if t then (reading stage.Frames (a ++ x ∷ []), [])
      else frame_read pipe (a ++ x ∷ []) (head_fault (a ++ x ∷ []))) long) ∙ e)
  front_is_well stage.PassedOver a x e = tt
  front_is_well stage.Shut a x e = tt

  -- ---- bytes that are taken whole

  next_reading : (s : Stage) (held : List ℕ) (x : ℕ) (next : Reading) (out : List Message)
      → read_by pipe s (held ++ x ∷ []) ≡ (next, out)
      → (read_byte pipe (reading s held) x).0 ≡ next
  unfolding read_byte
  next_reading s held x next out e = ap (λ (q : Next). q.0) e

  module _ (s : Stage) (bytes : List ℕ) (out : List Message) (t : TakesAt pipe s bytes out)
    where
      held_on : (held a : List ℕ) (x : ℕ) → held ++ x ∷ a ≡ bytes → (held ++ x ∷ []) ++ a ≡ bytes
      held_on held a x e = append_assoc held (x ∷ []) a ∙ e

      front_well : (held part rest : List ℕ) (y : ℕ) → held ++ (part ++ y ∷ rest) ≡ bytes
          → ReadsWellFrom well_of pipe (reading s held) part
      front_well held [] rest y e = tt
      front_well held (x ∷ part) rest y e =
          let more : 0 < length (part ++ y ∷ rest) = omega (arith, length-append part (y ∷ rest))
          in
          let byte = t.front held (part ++ y ∷ rest) x e more in (
            front_is_well s held x byte,
            subst (λ (r : Reading). ReadsWellFrom well_of pipe r part)
                (sym (next_reading s held x (reading s (held ++ x ∷ [])) [] byte))
                (front_well (held ++ x ∷ []) part rest y (held_on held (part ++ y ∷ rest) x e)),
          )

      whole_after : (held rest : List ℕ) (x : ℕ) → held ++ x ∷ rest ≡ bytes
          → reading_after pipe (reading s held) (x ∷ rest) ≡ reading stage.Frames []
      whole_after held [] x e =
          next_reading s held x (reading stage.Frames []) out (ap (read_by pipe s) e ∙ t.whole)
      whole_after held (y ∷ rest) x e =
          let some : 0 < length (y ∷ rest) = omega arith in
          ap (λ (r : Reading). reading_after pipe r (y ∷ rest))
          (next_reading s held x (reading s (held ++ x ∷ [])) []
          (t.front held (y ∷ rest) x e some))
          ∙ whole_after (held ++ x ∷ []) rest y (held_on held (y ∷ rest) x e)

      -- frames come behind all of it
      all_after : reading_after pipe (reading s []) bytes ≡ reading stage.Frames []
      all_after = by_first bytes t.some (λ x rest e. whole_after [] rest x e)
        where
          by_first : (all : List ℕ) → 0 < length all
              → ((x : ℕ) (rest : List ℕ) → x ∷ rest ≡ all
              → reading_after pipe (reading s []) (x ∷ rest) ≡ reading stage.Frames [])
              → reading_after pipe (reading s []) all ≡ reading stage.Frames []
          by_first [] some h = absurd (omega (arith, some))
          by_first (x ∷ rest) some h = h x rest refl

      module _ (well : ByteIsWell well_of pipe s bytes) where
        whole_well : (held rest : List ℕ) (x : ℕ) → held ++ x ∷ rest ≡ bytes
            → ReadsWellFrom well_of pipe (reading s held) (x ∷ rest)
        whole_well held [] x e = (subst (ByteIsWell well_of pipe s) (sym e) well, tt)
        whole_well held (y ∷ rest) x e =
            let some : 0 < length (y ∷ rest) = omega arith in
            let byte = t.front held (y ∷ rest) x e some in (
              front_is_well s held x byte,
              subst (λ (r : Reading). ReadsWellFrom well_of pipe r (y ∷ rest))
                  (sym (next_reading s held x (reading s (held ++ x ∷ [])) [] byte))
                  (whole_well (held ++ x ∷ []) rest y (held_on held (y ∷ rest) x e)),
            )

        all_well : ReadsWellFrom well_of pipe (reading s []) bytes
        all_well = by_first bytes t.some (λ x rest e. whole_well [] rest x e)
          where
            by_first : (all : List ℕ) → 0 < length all
                → ((x : ℕ) (rest : List ℕ) → x ∷ rest ≡ all
                → ReadsWellFrom well_of pipe (reading s []) (x ∷ rest))
                → ReadsWellFrom well_of pipe (reading s []) all
            by_first [] some h = absurd (omega (arith, some))
            by_first (x ∷ rest) some h = h x rest refl

        next_well : (heard more : List ℕ) → IsPrefix heard (bytes ++ more)
            → ((behind : List ℕ) → IsPrefix behind more
            → ReadsWellFrom well_of pipe (reading stage.Frames []) behind)
            → ReadsWellFrom well_of pipe (reading s []) heard
        next_well heard more p frames = by_part (parted heard bytes more p)
          where
            by_part : Parted heard bytes more → ReadsWellFrom well_of pipe (reading s []) heard
            by_part (inl h) = front_well [] heard h.1 h.0 h.2
            by_part (inr h) =
                subst (ReadsWellFrom well_of pipe (reading s [])) (sym h.1)
                (well_then (reading s []) bytes h.0 all_well
                (subst (λ (r : Reading). ReadsWellFrom well_of pipe r h.0) (sym all_after)
                (frames h.0 h.2)))

  -- ---- frames

  none_well : (s : Stage) (heard : List ℕ) → IsPrefix heard []
      → ReadsWellFrom well_of pipe (reading s []) heard
  none_well s heard p =
      subst (ReadsWellFrom well_of pipe (reading s [])) (sym (nil_front heard p.0 p.1)) tt

  header_well : (frame : List ℕ) (o : Option HeadFault) → o ≡ None
      → FrameIsWell well_of pipe frame → HeaderIsWell well_of pipe frame o
  header_well frame (Some fault) none is = absurd cc
  header_well frame None none is = λ full. is

  frame_well : (frame : List ℕ) → IsFrame frame → FrameIsWell well_of pipe frame
      → ByteIsWell well_of pipe stage.Frames frame
  frame_well frame is well = λ long. header_well frame (head_fault frame) is.head well

  pub next_frame : (frame heard more : List ℕ) → IsFrame frame → FrameIsWell well_of pipe frame
      → IsPrefix heard (frame ++ more)
      → ((behind : List ℕ) → IsPrefix behind more
      → ReadsWellFrom well_of pipe (reading stage.Frames []) behind)
      → ReadsWellFrom well_of pipe (reading stage.Frames []) heard
  next_frame frame heard more is well p frames =
      next_well stage.Frames frame (message_in pipe frame)
      (frame_taken pipe frame (message_in pipe frame) is refl) (frame_well frame is well) heard
      more p frames

  -- the frame of a message; a text is none
  abbrev pub IsWellFrame : Message → Type 0
  IsWellFrame (Text bytes) = Unit {0}
  IsWellFrame (Pdu pdu) = FrameIsWell well_of pipe pdu
  IsWellFrame (Packet named) = FrameIsWell well_of pipe (spell (Packet named))

  abbrev pub AreFramesWell : List Message → Type 0
  AreFramesWell put = AllByRecursion IsWellFrame put

  pub frames_well : (put : List Message) → AreNoTexts put → AllByRecursion (ReadsBack pipe) put
      → AreFramesWell put → (heard : List ℕ) → IsPrefix heard (spelled put)
      → ReadsWellFrom well_of pipe (reading stage.Frames []) heard
  frames_well [] no_texts back well heard p = none_well stage.Frames heard p
  frames_well (Text bytes ∷ put) no_texts back well heard p = absurd no_texts.0
  frames_well (Pdu pdu ∷ put) no_texts back well heard p =
      next_frame pdu heard (spelled put) back.0.frame well.0 p
      (frames_well put no_texts.1 back.1 well.1)
  frames_well (Packet named ∷ put) no_texts back well heard p =
      next_frame (spell (Packet named)) heard (spelled put) back.0.frame well.0 p
      (frames_well put no_texts.1 back.1 well.1)

  -- ---- a text, and then frames

  module _ (s : Stage) (is_whole : List ℕ → Bool) (first : first_stage pipe ≡ s)
      (takes : (text : List ℕ) → IsWholeText is_whole text → TakesAt pipe s text []) where
    from_first : (bytes : List ℕ) → ReadsWell well_of pipe bytes
        → ReadsWellFrom well_of pipe (reading s []) bytes
    from_first bytes well =
        subst (λ (at : Stage). ReadsWellFrom well_of pipe (reading at []) bytes) first well

    text_well : (text : List ℕ) (put : List Message) → TextIsWell well_of pipe text
        → (IsWholeText is_whole text × AreNoTexts put) ⊎ (ReadsNothing pipe text × (put ≡ []))
        → AllByRecursion (ReadsBack pipe) put → AreFramesWell put → (heard : List ℕ)
        → IsPrefix heard (text ++ spelled put) → ReadsWellFrom well_of pipe (reading s []) heard
    text_well text put well (inl h) back frames heard p =
        by_part (parted heard text (spelled put) p)
      where
        by_part : Parted heard text (spelled put) → ReadsWellFrom well_of pipe (reading s []) heard
        by_part (inl front) = from_first heard (well heard (front.0 ∷ front.1, front.2))
        by_part (inr more) =
            subst (ReadsWellFrom well_of pipe (reading s [])) (sym more.1)
            (well_then (reading s []) text more.0
            (from_first text (well text ([], append-nil text)))
            (subst (λ (r : Reading). ReadsWellFrom well_of pipe r more.0)
            (sym (all_after s text [] (takes text h.0)))
            (frames_well put h.1 back frames more.0 more.2)))
    text_well text put well (inr h) back frames heard p =
        from_first heard (well heard
        (subst (λ (bytes : List ℕ). IsPrefix heard bytes) (append-nil text)
        (subst (λ (ms : List Message). IsPrefix heard (text ++ spelled ms)) h.1 p)))

    pub text_first : (put : List Message) → BeginsWith pipe is_whole put
        → AllByRecursion (ReadsBack pipe) put → AllByRecursion (IsWellText well_of pipe) put
        → AreFramesWell put → (heard : List ℕ) → IsPrefix heard (spelled put)
        → ReadsWellFrom well_of pipe (reading s []) heard
    text_first [] begins back texts frames heard p = none_well s heard p
    text_first (Text text ∷ put) begins back texts frames heard p =
        text_well text put texts.0 begins back.1 frames.1 heard p
    text_first (Pdu pdu ∷ put) begins back texts frames heard p = absurd begins
    text_first (Packet named ∷ put) begins back texts frames heard p = absurd begins

  -- ---- whatever comes first

  by_stage : (s : Stage) (put : List Message) → first_stage pipe ≡ s → BeginsBy pipe s put
      → AllByRecursion (ReadsBack pipe) put → AllByRecursion (IsWellText well_of pipe) put
      → AreFramesWell put → (heard : List ℕ) → IsPrefix heard (spelled put)
      → ReadsWellFrom well_of pipe (reading s []) heard
  by_stage stage.Head put first begins back texts frames heard p =
      text_first stage.Head is_whole_head first (head_taken pipe) put begins back texts frames
      heard p
  by_stage stage.Greeting put first begins back texts frames heard p =
      text_first stage.Greeting is_whole_greeting first (greeting_taken pipe) put begins back
      texts frames heard p
  by_stage stage.Frames put first begins back texts frames heard p =
      frames_well put begins back frames heard p
  by_stage stage.PassedOver put first begins back texts frames heard p = absurd begins
  by_stage stage.Shut put first begins back texts frames heard p = absurd begins

  pub put_well : (put : List Message) → Begins pipe put → AllByRecursion (ReadsBack pipe) put
      → AllByRecursion (IsWellText well_of pipe) put → AreFramesWell put → (heard : List ℕ)
      → IsPrefix heard (spelled put) → ReadsWell well_of pipe heard
  put_well put begins back texts frames heard p =
      by_stage (first_stage pipe) put refl begins back texts frames heard p

  -- ---- texts

  whole_text : (s : Stage) (text behind : List ℕ) → first_stage pipe ≡ s
      → TakesAt pipe s text [] → ByteIsWell well_of pipe s text
      → ((front : List ℕ) → IsPrefix front behind
      → ReadsWellFrom well_of pipe (reading stage.Frames []) front)
      → TextIsWell well_of pipe (text ++ behind)
  whole_text s text behind first takes well frames front p =
      subst (λ (at : Stage). ReadsWellFrom well_of pipe (reading at []) front) (sym first)
      (next_well s text [] takes well front behind p frames)

  pub head_well : (text : List ℕ) → first_stage pipe ≡ stage.Head
      → IsWholeText is_whole_head text → TextIsWell well_of pipe text
  head_well text first is =
      subst (TextIsWell well_of pipe) (append-nil text)
      (whole_text stage.Head text [] first (head_taken pipe text is) tt (none_well stage.Frames))

  pub head_and_frame : (text frame : List ℕ) → first_stage pipe ≡ stage.Head
      → IsWholeText is_whole_head text → IsFrame frame → FrameIsWell well_of pipe frame
      → TextIsWell well_of pipe (text ++ frame)
  head_and_frame text frame first is is_frame well =
      whole_text stage.Head text frame first (head_taken pipe text is) tt (λ front p.
      next_frame frame front [] is_frame well
      (subst (IsPrefix front) (sym (append-nil frame)) p) (none_well stage.Frames))

  pub greeting_well : first_stage pipe ≡ stage.Greeting
      → IsWholeText is_whole_greeting greeting → TextIsWell well_of pipe greeting
  greeting_well first is =
      subst (TextIsWell well_of pipe) (append-nil greeting)
      (whole_text stage.Greeting greeting [] first (greeting_taken pipe greeting is) (λ whole. refl)
      (none_well stage.Frames))

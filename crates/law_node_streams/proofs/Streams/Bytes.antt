-- a byte that a node hears, and what it is read as
use Rattle.law_order.proofs.Vocabulary.{◌≡◌, ℕ, ◌<◌, ◌≤◌, List, [], ◌∷◌, ◌++◌, length, cond, Bool, true, false, nat_lt, Some, None, arith, refl, sym, ◌∙◌, Option, nat_tests}
use Rattle.rh_shell.specs.Intakes.{Over, behind}
use Rattle.rh_shell.specs.declared.stage.Stage.TheVariants as stage
use Rattle.law_moves.proofs.Vocabulary.{frag_of, head_fault, IsFrame, IsUnfinished, HeadFault, Pipe, Stage, Intake, Came, Nothing, Head, Greeting, Frame, Fault, counted, is_full, length_told, is_whole_head, is_whole_greeting, text_by, frame_by, frame_byte, byte_by, on_byte, Message, message_in, Reading, reading, text_read, frame_read, read_by, read_byte, reading_after, messages_from}
use Rattle.law_moves.proofs.Lemmas.{grown}
use Rattle.law_node_streams.specs.Streams.{is_live}

-- ---- a list of bytes behind another one

pub after_append : (pipe : Option Pipe) (r : Reading) (xs ys : List ℕ)
    → reading_after pipe r (xs ++ ys) ≡ reading_after pipe (reading_after pipe r xs) ys
after_append pipe r [] ys = refl
after_append pipe r (x ∷ xs) ys = after_append pipe (read_byte pipe r x).0 xs ys

-- ---- stages

pub dead_reads : (pipe : Option Pipe) (st : Stage) (held bytes : List ℕ) → is_live st ≡ false
    → messages_from pipe (reading st held) bytes ≡ []
unfolding read_byte
dead_reads pipe st held [] dead = refl
dead_reads pipe stage.Head held (b ∷ bs) dead = absurd cc
dead_reads pipe stage.Greeting held (b ∷ bs) dead = absurd cc
dead_reads pipe stage.Frames held (b ∷ bs) dead = absurd cc
dead_reads pipe stage.PassedOver held (b ∷ bs) dead =
    dead_reads pipe stage.PassedOver (held ++ b ∷ []) bs dead
dead_reads pipe stage.Shut held (b ∷ bs) dead =
    dead_reads pipe stage.Shut (held ++ b ∷ []) bs dead

-- ---- a byte

-- what is held of frames is no whole frame
abbrev pub IsKeptRest : Stage → List ℕ → Type 0
IsKeptRest st held = st ≡ stage.Frames → IsUnfinished held

-- a byte of an intake at a stage: what it makes, and what it is read as
abbrev pub ByteIs : Option Pipe → Stage → Intake → Came → Reading × List Message → Type 0
ByteIs pipe st j Nothing r =
    (j.stage ≡ st) × (is_live st ≡ true → r ≡ (reading st j.held, []))
    × IsKeptRest j.stage j.held
ByteIs pipe st j (Head text) r =
    (st ≡ stage.Head) × (r ≡ (reading stage.Frames [], [])) × (j.held ≡ [])
ByteIs pipe st j (Greeting text) r =
    (st ≡ stage.Greeting) × (r ≡ (reading stage.Frames [], [])) × (j.held ≡ [])
ByteIs pipe st j (Frame place frame) r =
    (st ≡ stage.Frames) × (r ≡ (reading stage.Frames [], message_in pipe frame))
    × (j.held ≡ []) × (j.stage ≡ stage.Frames) × IsFrame frame
ByteIs pipe st j (Fault place fault) r = j.stage ≡ stage.Shut
ByteIs pipe st j (Over length) r = j.stage ≡ stage.Shut

module _ (pipe : Option Pipe) where
  frame_byte_is : (held : List ℕ) (b : ℕ) (j : Intake) → IsUnfinished held
      → j.stage ≡ stage.Frames
      → (let n = frame_byte j (held ++ b ∷ []) in
      ByteIs pipe stage.Frames n.0 n.1 (read_by pipe stage.Frames (held ++ b ∷ [])))
  frame_byte_is held b j u st = by_length (nat_lt (length all) 16) refl
    where
      all : List ℕ
      all = held ++ b ∷ []

      by_whole : (t : Bool) → nat_lt (length all) (frag_of all) ≡ t → 16 ≤ length all
          → head_fault all ≡ None
          → (let n : Intake × Came = cond t (record j { held = all }, Nothing)
          (behind j all, Frame j.place all) in
          ByteIs pipe stage.Frames n.0 n.1
          (cond t (reading stage.Frames all, []) (reading stage.Frames [], message_in pipe all)))
      by_whole true e long head =
          (st, λ live. refl, λ fr. λ more. (head, grind (arith, nat_tests)))
      by_whole false e long head =
          let most = grown held b u long head in
          let least : frag_of all ≤ length all = grind (arith, nat_tests) in (
            refl,
            refl,
            refl,
            st,
            record { long = long; head = head; whole = omega (arith, most, least) },
          )

      by_head : (o : Option HeadFault) → head_fault all ≡ o → 16 ≤ length all
          → ByteIs pipe stage.Frames (frame_by j all o).0 (frame_by j all o).1
          (frame_read pipe all o)
      by_head (Some fault) e long = refl
      by_head None e long = by_whole (nat_lt (length all) (frag_of all)) refl long e

      by_length : (t : Bool) → nat_lt (length all) 16 ≡ t
          → (let n : Intake × Came = cond t (record j { held = all }, Nothing)
          (frame_by j all (head_fault all)) in
          ByteIs pipe stage.Frames n.0 n.1
          (cond t (reading stage.Frames all, []) (frame_read pipe all (head_fault all))))
      by_length true e = (
        st,
        λ live. refl,
        λ fr. λ more.
            absurd (let k : length all < 16 = grind (arith, nat_tests) in omega (arith, k, more)),
      )
      by_length false e = by_head (head_fault all) refl (grind (arith, nat_tests))

  head_byte_is : (i : Intake) (all : List ℕ) (t : Bool) → i.stage ≡ stage.Head
      → ByteIs pipe stage.Head (text_by i all (Head all) t).0 (text_by i all (Head all) t).1
      (text_read stage.Head all t)
  head_byte_is i all true st = (refl, refl, refl)
  head_byte_is i all false st = (st, λ live. refl, λ fr. absurd (apart (sym st ∙ fr)))
    where
      apart : stage.Head ≡ stage.Frames → ⊥
      apart e = absurd cc

  greeting_byte_is : (i : Intake) (all : List ℕ) (t : Bool) → i.stage ≡ stage.Greeting
      → ByteIs pipe stage.Greeting (text_by i all (Greeting all) t).0
      (text_by i all (Greeting all) t).1 (text_read stage.Greeting all t)
  greeting_byte_is i all true st = (refl, refl, refl)
  greeting_byte_is i all false st = (st, λ live. refl, λ fr. absurd (apart (sym st ∙ fr)))
    where
      apart : stage.Greeting ≡ stage.Frames → ⊥
      apart e = absurd cc

  -- a byte of a body, which may be one too many
  body_byte_is : (st : Stage) (i : Intake) (next : Intake → Intake × Came)
      (r : Reading × List Message) (t : Bool)
      → (let n = next (record i { body = counted 1 i.body }) in ByteIs pipe st n.0 n.1 r)
      → (let n : Intake × Came = cond t
      (record i { stage = stage.Shut }, Over (length_told i.body))
      (next (record i { body = counted 1 i.body })) in ByteIs pipe st n.0 n.1 r)
  body_byte_is st i next r true is = refl
  body_byte_is st i next r false is = is

  byte_by_is : (st : Stage) (i : Intake) (b : ℕ) → i.stage ≡ st → IsKeptRest st i.held
      → (let n = byte_by st i (i.held ++ b ∷ []) in
      ByteIs pipe st n.0 n.1 (read_by pipe st (i.held ++ b ∷ [])))
  byte_by_is stage.Head i b st u =
      head_byte_is i (i.held ++ b ∷ []) (is_whole_head (i.held ++ b ∷ [])) st
  byte_by_is stage.Greeting i b st u =
      greeting_byte_is i (i.held ++ b ∷ []) (is_whole_greeting (i.held ++ b ∷ [])) st
  byte_by_is stage.Frames i b st u =
      body_byte_is stage.Frames i (λ j. frame_byte j (i.held ++ b ∷ []))
      (read_by pipe stage.Frames (i.held ++ b ∷ [])) (is_full i.body)
      (frame_byte_is i.held b (record i { body = counted 1 i.body }) (u refl) st)
  byte_by_is stage.PassedOver i b st u =
      body_byte_is stage.PassedOver i (λ j. (j, Nothing))
      (read_by pipe stage.PassedOver (i.held ++ b ∷ [])) (is_full i.body)
      (st, λ live. absurd cc, λ fr. absurd (apart (sym st ∙ fr)))
    where
      apart : stage.PassedOver ≡ stage.Frames → ⊥
      apart e = absurd cc
  byte_by_is stage.Shut i b st u = (st, λ live. absurd cc, λ fr. absurd (apart (sym st ∙ fr)))
    where
      apart : stage.Shut ≡ stage.Frames → ⊥
      apart e = absurd cc

  pub byte_is : (i : Intake) (b : ℕ) → IsKeptRest i.stage i.held
      → ByteIs pipe i.stage (on_byte i b).0 (on_byte i b).1
      (read_byte pipe (reading i.stage i.held) b)
  unfolding on_byte read_byte
  byte_is i b u = byte_by_is i.stage i b refl u

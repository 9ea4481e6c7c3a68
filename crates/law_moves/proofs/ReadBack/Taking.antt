-- bytes that are taken whole, at their last byte and no sooner
use Rattle.law_order.proofs.Vocabulary.{◌≡◌, ◌<◌, ℕ, List, [], ◌∷◌, ◌++◌, length, inl, inr, arith, refl, sym, ap, ◌∙◌, subst, Option, append_assoc, length-append, IsPrefix}
use Rattle.rh_shell.specs.declared.stage.Stage.TheVariants as stage
use Rattle.law_moves.proofs.Vocabulary.{prefix_behind, Pipe, Stage, Message, Reading, messages_from, read_by, read_byte, reading, reading_after}
use Rattle.law_moves.proofs.ReadBack.Parting.{Parted, parted}

-- ---- one after the other

-- bytes that come behind others
pub read_behind : (pipe : Option Pipe) (r : Reading) (a b : List ℕ)
    → messages_from pipe r (a ++ b)
    ≡ messages_from pipe r a ++ messages_from pipe (reading_after pipe r a) b
read_behind pipe r [] b = refl
read_behind pipe r (x ∷ a) b =
    let next = (read_byte pipe r x).0 in
    ap (λ (ms : List Message). (read_byte pipe r x).1 ++ ms) (read_behind pipe next a b)
    ∙ sym (append_assoc (read_byte pipe r x).1 (messages_from pipe next a)
    (messages_from pipe (reading_after pipe next a) b))

-- a byte that makes nothing whole, and one that does
pub next_byte : (pipe : Option Pipe) (s : Stage) (held : List ℕ) (x : ℕ) (next : Reading)
    (out : List Message) (bytes : List ℕ)
    → read_by pipe s (held ++ x ∷ []) ≡ (next, out)
    → messages_from pipe (reading s held) (x ∷ bytes) ≡ out ++ messages_from pipe next bytes
unfolding read_byte
next_byte pipe s held x next out bytes e =
    ap (λ (q : Reading × List Message). q.1 ++ messages_from pipe q.0 bytes) e

-- ---- whole

-- at a stage these bytes are read as these messages, at their last byte, and then come frames
pub record TakesAt (pipe : Option Pipe) (s : Stage) (bytes : List ℕ) (out : List Message)
    : Type 0 where
  pub some : 0 < length bytes
  pub front : (a c : List ℕ) (x : ℕ) → a ++ x ∷ c ≡ bytes → 0 < length c
      → read_by pipe s (a ++ x ∷ []) ≡ (reading s (a ++ x ∷ []), [])
  pub whole : read_by pipe s bytes ≡ (reading stage.Frames [], out)

module _ (pipe : Option Pipe) (s : Stage) (bytes : List ℕ) (out : List Message)
    (t : TakesAt pipe s bytes out) where
  -- behind a byte that is held
  held_on : (held a : List ℕ) (x : ℕ) → held ++ x ∷ a ≡ bytes → (held ++ x ∷ []) ++ a ≡ bytes
  held_on held a x e = append_assoc held (x ∷ []) a ∙ e

  -- a front gives nothing
  front_read : (held part rest : List ℕ) (y : ℕ) → held ++ (part ++ y ∷ rest) ≡ bytes
      → messages_from pipe (reading s held) part ≡ []
  front_read held [] rest y e = refl
  front_read held (x ∷ part) rest y e =
      let more : 0 < length (part ++ y ∷ rest) = omega (arith, length-append part (y ∷ rest)) in
      next_byte pipe s held x (reading s (held ++ x ∷ [])) [] part
      (t.front held (part ++ y ∷ rest) x e more)
      ∙ front_read (held ++ x ∷ []) part rest y (held_on held (part ++ y ∷ rest) x e)

  -- the whole gives the messages, and then come frames
  whole_read : (held rest more : List ℕ) (x : ℕ) → held ++ x ∷ rest ≡ bytes
      → messages_from pipe (reading s held) ((x ∷ rest) ++ more)
      ≡ out ++ messages_from pipe (reading stage.Frames []) more
  whole_read held [] more x e =
      next_byte pipe s held x (reading stage.Frames []) out more (ap (read_by pipe s) e ∙ t.whole)
  whole_read held (y ∷ rest) more x e =
      let some : 0 < length (y ∷ rest) = omega arith in
      next_byte pipe s held x (reading s (held ++ x ∷ [])) [] ((y ∷ rest) ++ more)
      (t.front held (y ∷ rest) x e some)
      ∙ whole_read (held ++ x ∷ []) rest more y (held_on held (y ∷ rest) x e)

  -- from the first byte on
  pub all_read : (more : List ℕ) → messages_from pipe (reading s []) (bytes ++ more)
      ≡ out ++ messages_from pipe (reading stage.Frames []) more
  all_read more = by_first bytes t.some (λ x rest e. whole_read [] rest more x e)
    where
      by_first : (all : List ℕ) → 0 < length all
          → ((x : ℕ) (rest : List ℕ) → x ∷ rest ≡ all
          → messages_from pipe (reading s []) ((x ∷ rest) ++ more)
          ≡ out ++ messages_from pipe (reading stage.Frames []) more)
          → messages_from pipe (reading s []) (all ++ more)
          ≡ out ++ messages_from pipe (reading stage.Frames []) more
      by_first [] some h = absurd (omega (arith, some))
      by_first (x ∷ rest) some h = h x rest refl

  -- what came of the bytes and of those behind them is read as a front of what they are
  pub next_read : (heard more : List ℕ) (messages : List Message) → IsPrefix heard (bytes ++ more)
      → ((behind : List ℕ) → IsPrefix behind more
      → IsPrefix (messages_from pipe (reading stage.Frames []) behind) messages)
      → IsPrefix (messages_from pipe (reading s []) heard) (out ++ messages)
  next_read heard more messages p frames = by_part (parted heard bytes more p)
    where
      by_part : Parted heard bytes more
          → IsPrefix (messages_from pipe (reading s []) heard) (out ++ messages)
      by_part (inl h) = (
        out ++ messages,
        ap (λ (ms : List Message). ms ++ (out ++ messages)) (front_read [] heard h.1 h.0 h.2),
      )
      by_part (inr h) =
          subst (λ (ms : List Message). IsPrefix ms (out ++ messages))
          (sym (ap (messages_from pipe (reading s [])) h.1 ∙ all_read h.0))
          (prefix_behind out (messages_from pipe (reading stage.Frames []) h.0) messages
          (frames h.0 h.2))

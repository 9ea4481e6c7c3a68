-- heads in the bytes of a leg: each stands behind what is held, whole, and no sooner
use Rattle.law_order.proofs.Vocabulary.{◌≡◌, ℕ, zero, suc, ◌<◌, ◌≤◌, List, [], ◌∷◌, ◌++◌, append_assoc, length, take, cond, Bool, true, false, nat_lt, Some, None, arith, refl, sym, ap, ◌∙◌, subst, AllByRecursion, list_any, Option, append-nil}
use Rattle.rh_shell.specs.Intakes.{Over}
use Rattle.rh_shell.specs.declared.stage.Stage.TheVariants as stage
use Rattle.law_moves.proofs.Vocabulary.{prefix_more, prefix_trans, neither, HeadFault, frag_of, head_fault, header_length, Pipe, Leg, Stage, Intake, Came, Nothing, Head, Greeting, Frame, Fault, byte_by, is_whole_head, is_whole_greeting, on_byte, text_by, Message, message_in, Move, Up, HeadCame, PduCame, PacketCame, Puts, IsDrawn, Marks, Pings, Reading, frame_read, read_by, read_byte, reading, reading_after, text_read}
use Rattle.law_node_history.proofs.Lemmas.{same_itself}
use Rattle.law_node_streams.specs.Streams.{IsFirstHead, IsHeadOf, is_head_on}

-- ---- a byte

abbrev pub IsHead : Intake → ℕ → Came → Type 0
IsHead i b (Head text) = (text ≡ i.held ++ b ∷ []) × (is_whole_head text ≡ true)
IsHead i b Nothing = Unit {0}
IsHead i b (Greeting text) = Unit {0}
IsHead i b (Frame place frame) = Unit {0}
IsHead i b (Fault place fault) = Unit {0}
IsHead i b (Over told) = Unit {0}

pub head_whole : (i : Intake) (b : ℕ) → i.stage ≡ stage.Head → IsHead i b (on_byte i b).1
unfolding on_byte
head_whole i b st =
    subst (λ s. IsHead i b (byte_by s i (i.held ++ b ∷ [])).1) (sym st)
    (by (is_whole_head (i.held ++ b ∷ [])) refl)
  where
    by : (t : Bool) → is_whole_head (i.held ++ b ∷ []) ≡ t
        → IsHead i b (text_by i (i.held ++ b ∷ []) (Head (i.held ++ b ∷ [])) t).1
    by true e = (refl, e)
    by false e = tt

-- ---- while a head is waited for

-- it was before these bytes, which are held besides, and none was whole
pub record Waited (r : Reading) (bytes held : List ℕ) : Type 0 where
  pub head : r.stage ≡ stage.Head
  pub held_is : held ≡ r.held ++ bytes
  pub none : (k : ℕ) → 0 < k → k ≤ length bytes → is_whole_head (r.held ++ take k bytes) ≡ false

module _ (pipe : Option Pipe) where
  pub record ByteWaits (r : Reading) (b : ℕ) : Type 0 where
    pub head : r.stage ≡ stage.Head
    pub held_is : (read_byte pipe r b).0.held ≡ r.held ++ b ∷ []
    pub none : is_whole_head (r.held ++ b ∷ []) ≡ false

  -- what is read where these bytes stood before the byte
  abbrev Waits : Stage → List ℕ → Reading × List Message → Type 0
  Waits st all next =
      next.0.stage ≡ stage.Head
      → (st ≡ stage.Head) × (next.0.held ≡ all) × (is_whole_head all ≡ false)

  text_waits : (all : List ℕ) (t : Bool) → is_whole_head all ≡ t
      → Waits stage.Head all (text_read stage.Head all t)
  text_waits all true e h = absurd cc
  text_waits all false e h = (refl, refl, e)

  greeting_waits : (all : List ℕ) (t : Bool)
      → Waits stage.Greeting all (text_read stage.Greeting all t)
  greeting_waits all true h = absurd cc
  greeting_waits all false h = absurd cc

  framed_waits : (all : List ℕ) (t : Bool)
      → Waits stage.Frames all (cond {A = Reading × List Message} t (reading stage.Frames all, [])
      (reading stage.Frames [], message_in pipe all))
  framed_waits all true h = absurd cc
  framed_waits all false h = absurd cc

  fault_waits : (all : List ℕ) (o : Option HeadFault)
      → Waits stage.Frames all (frame_read pipe all o)
  fault_waits all (Some fault) h = absurd cc
  fault_waits all None h = framed_waits all (nat_lt (length all) (frag_of all)) h

  frames_waits : (all : List ℕ) (t : Bool)
      → Waits stage.Frames all (cond {A = Reading × List Message} t (reading stage.Frames all, [])
      (frame_read pipe all (head_fault all)))
  frames_waits all true h = absurd cc
  frames_waits all false h = fault_waits all (head_fault all) h

  stage_waits : (st : Stage) (all : List ℕ) → Waits st all (read_by pipe st all)
  stage_waits stage.Head all h = text_waits all (is_whole_head all) refl h
  stage_waits stage.Greeting all h = greeting_waits all (is_whole_greeting all) h
  stage_waits stage.Frames all h = frames_waits all (nat_lt (length all) header_length) h
  stage_waits stage.PassedOver all h = absurd cc
  stage_waits stage.Shut all h = absurd cc

  byte_waits : (r : Reading) (b : ℕ) → (read_byte pipe r b).0.stage ≡ stage.Head → ByteWaits r b
  unfolding read_byte
  byte_waits r b h =
      let w = stage_waits r.stage (r.held ++ b ∷ []) h in
      record { head = w.0; held_is = w.1; none = w.2 }

  waited_then : (r : Reading) (b : ℕ) (bs held : List ℕ) → Waited (read_byte pipe r b).0 bs held
      → Waited r (b ∷ bs) held
  waited_then r b bs held rest = record {
    head = one.head;
    held_is =
        rest.held_is ∙ ap (λ (x : List ℕ). x ++ bs) one.held_is ∙ append_assoc r.held (b ∷ []) bs;
    none = by;
  }
    where
      one : ByteWaits r b
      one = byte_waits r b rest.head

      by : (k : ℕ) → 0 < k → k ≤ length (b ∷ bs)
          → is_whole_head (r.held ++ take k (b ∷ bs)) ≡ false
      by zero more less = absurd (omega (arith, more))
      by (suc zero) more less = one.none
      by (suc (suc k)) more less =
          ap is_whole_head (sym (append_assoc r.held (b ∷ []) (take (suc k) bs))
          ∙ ap (λ (x : List ℕ). x ++ take (suc k) bs) (sym one.held_is))
          ∙ rest.none (suc k) (omega arith) (omega (arith, less))

  pub waited : (r : Reading) (bytes held : List ℕ)
      → reading_after pipe r bytes ≡ reading stage.Head held → Waited r bytes held
  waited r [] held e = record {
    head = ap (λ (x : Reading). x.stage) e;
    held_is = sym (append-nil r.held ∙ ap (λ (x : Reading). x.held) e);
    none = λ k more less. absurd (omega (arith, more, less));
  }
  waited r (b ∷ bs) held e =
      waited_then r b bs held (waited (read_byte pipe r b).0 bs held e)

-- ---- a piece

-- the text is a head that a piece makes whole, behind what is held
pub record HeadIn (i : Intake) (piece text : List ℕ) : Type 0 where
  pub head : i.stage ≡ stage.Head
  pub front : List ℕ
  pub behind : List ℕ
  pub cut : front ++ behind ≡ piece
  pub is : text ≡ i.held ++ front
  pub whole : is_whole_head text ≡ true
  pub first : (k : ℕ) → 0 < k → k < length front
      → is_whole_head (i.held ++ take k front) ≡ false

pub head_more : (i : Intake) (xs ys text : List ℕ) → HeadIn i xs text → HeadIn i (xs ++ ys) text
head_more i xs ys text h = record {
  head = h.head;
  front = h.front;
  behind = h.behind ++ ys;
  cut = sym (append_assoc h.front h.behind ys) ∙ ap (λ (x : List ℕ). x ++ ys) h.cut;
  is = h.is;
  whole = h.whole;
  first = h.first;
}

none_sooner : (held xs front : List ℕ)
    → ((k : ℕ) → 0 < k → k ≤ length xs → is_whole_head (held ++ take k xs) ≡ false)
    → ((k : ℕ) → 0 < k → k < length front
    → is_whole_head ((held ++ xs) ++ take k front) ≡ false)
    → (k : ℕ) → 0 < k → k < length (xs ++ front)
    → is_whole_head (held ++ take k (xs ++ front)) ≡ false
none_sooner held [] front below above k more less =
    ap (λ (x : List ℕ). is_whole_head (x ++ take k front)) (sym (append-nil held))
    ∙ above k more less
none_sooner held (x ∷ xs) front below above zero more less = absurd (omega (arith, more))
none_sooner held (x ∷ xs) front below above (suc zero) more less =
    below 1 (omega arith) (omega arith)
none_sooner held (x ∷ xs) front below above (suc (suc k)) more less =
    ap is_whole_head (sym (append_assoc held (x ∷ []) (take (suc k) (xs ++ front))))
    ∙ none_sooner (held ++ x ∷ []) xs front below_one above_one (suc k) (omega arith)
    (omega (arith, less))
  where
    below_one : (k : ℕ) → 0 < k → k ≤ length xs
        → is_whole_head ((held ++ x ∷ []) ++ take k xs) ≡ false
    below_one zero more less = absurd (omega (arith, more))
    below_one (suc k) more less =
        ap is_whole_head (append_assoc held (x ∷ []) (take (suc k) xs))
        ∙ below (suc (suc k)) (omega arith) (omega (arith, less))

    above_one : (k : ℕ) → 0 < k → k < length front
        → is_whole_head (((held ++ x ∷ []) ++ xs) ++ take k front) ≡ false
    above_one k more less =
        ap (λ (y : List ℕ). is_whole_head (y ++ take k front)) (append_assoc held (x ∷ []) xs)
        ∙ above k more less

-- behind bytes that are held besides
pub head_then : (i u : Intake) (xs ys text : List ℕ)
    → Waited (reading i.stage i.held) xs u.held → HeadIn u ys text → HeadIn i (xs ++ ys) text
head_then i u xs ys text w h = record {
  head = w.head;
  front = xs ++ h.front;
  behind = h.behind;
  cut = append_assoc xs h.front h.behind ∙ ap (λ (x : List ℕ). xs ++ x) h.cut;
  is =
      h.is ∙ ap (λ (x : List ℕ). x ++ h.front) w.held_is ∙ append_assoc i.held xs h.front;
  whole = h.whole;
  first =
      none_sooner i.held xs h.front w.none
      (λ k more less.
      subst (λ (x : List ℕ). is_whole_head (x ++ take k h.front) ≡ false) w.held_is
      (h.first k more less));
}

-- ---- the heads of moves

abbrev pub HeadBy : (List ℕ → Type 0) → Move → Type 0
HeadBy P (HeadCame leg text) = P text
HeadBy P (Up leg cookie) = Unit {0}
HeadBy P (PduCame leg count pdu) = Unit {0}
HeadBy P (PacketCame leg count named) = Unit {0}
HeadBy P (Puts leg) = Unit {0}
HeadBy P (IsDrawn leg) = Unit {0}
HeadBy P (Marks leg) = Unit {0}
HeadBy P (Pings leg) = Unit {0}

-- what holds of each move does so for a reason
pub each_as : (P Q : Move → Type 0) (moves : List Move) → ((move : Move) → P move → Q move)
    → AllByRecursion P moves → AllByRecursion Q moves
each_as P Q [] so h = tt
each_as P Q (move ∷ moves) so h = (so move h.0, each_as P Q moves so h.1)

pub head_as : (P Q : List ℕ → Type 0) → ((text : List ℕ) → P text → Q text) → (move : Move)
    → HeadBy P move → HeadBy Q move
head_as P Q so (HeadCame leg text) h = so text h
head_as P Q so (Up leg cookie) h = tt
head_as P Q so (PduCame leg count pdu) h = tt
head_as P Q so (PacketCame leg count named) h = tt
head_as P Q so (Puts leg) h = tt
head_as P Q so (IsDrawn leg) h = tt
head_as P Q so (Marks leg) h = tt
head_as P Q so (Pings leg) h = tt

-- where none came each has what is asked
pub no_heads : (P : List ℕ → Type 0) (moves : List Move)
    → ((leg : Leg) → list_any (is_head_on leg) moves ≡ false) → AllByRecursion (HeadBy P) moves
no_heads P [] none = tt
no_heads P (move ∷ moves) none = (
  one move
      (λ leg. (neither (is_head_on leg move) (list_any (is_head_on leg) moves) (none leg)).0),
  no_heads P moves
      (λ leg. (neither (is_head_on leg move) (list_any (is_head_on leg) moves) (none leg)).1),
)
  where
    one : (m : Move) → ((leg : Leg) → is_head_on leg m ≡ false) → HeadBy P m
    one (HeadCame leg text) off =
        absurd (let bad : true ≡ false = sym (same_itself leg) ∙ off leg in cc)
    one (Up leg cookie) off = tt
    one (PduCame leg count pdu) off = tt
    one (PacketCame leg count named) off = tt
    one (Puts leg) off = tt
    one (IsDrawn leg) off = tt
    one (Marks leg) off = tt
    one (Pings leg) off = tt

-- ---- the heads of a leg

module _ (leg : Leg) (heard : List ℕ) where
  -- a head of any leg stands so
  pub head_of : (move : Move) → HeadBy (λ text. IsFirstHead text heard) move
      → IsHeadOf leg heard move
  head_of (HeadCame other text) h = λ same. h
  head_of (Up other cookie) h = tt
  head_of (PduCame other count pdu) h = tt
  head_of (PacketCame other count named) h = tt
  head_of (Puts other) h = tt
  head_of (IsDrawn other) h = tt
  head_of (Marks other) h = tt
  head_of (Pings other) h = tt

  -- none came there
  pub heads_none : (moves : List Move) → list_any (is_head_on leg) moves ≡ false
      → AllByRecursion (IsHeadOf leg heard) moves
  heads_none [] none = tt
  heads_none (move ∷ moves) none =
      let two = neither (is_head_on leg move) (list_any (is_head_on leg) moves) none in
      (one move two.0, heads_none moves two.1)
    where
      one : (m : Move) → is_head_on leg m ≡ false → IsHeadOf leg heard m
      one (HeadCame other text) off =
          λ same. absurd (let bad : true ≡ false = sym same ∙ off in cc)
      one (Up other cookie) off = tt
      one (PduCame other count pdu) off = tt
      one (PacketCame other count named) off = tt
      one (Puts other) off = tt
      one (IsDrawn other) off = tt
      one (Marks other) off = tt
      one (Pings other) off = tt

  pub first_more : (more text : List ℕ) → IsFirstHead text heard
      → IsFirstHead text (heard ++ more)
  first_more more text h = record {
    whole = h.whole;
    front = prefix_trans text heard (heard ++ more) h.front (prefix_more heard more);
  }

  -- where more is heard
  pub heads_more : (more : List ℕ) (move : Move) → IsHeadOf leg heard move
      → IsHeadOf leg (heard ++ more) move
  heads_more more (HeadCame other text) h = λ same. first_more more text (h same)
  heads_more more (Up other cookie) h = tt
  heads_more more (PduCame other count pdu) h = tt
  heads_more more (PacketCame other count named) h = tt
  heads_more more (Puts other) h = tt
  heads_more more (IsDrawn other) h = tt
  heads_more more (Marks other) h = tt
  heads_more more (Pings other) h = tt

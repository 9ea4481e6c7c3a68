-- an end whose bytes are read reads on, byte by byte, where heads bring frames
use Rattle.std.proofs.Common.{length-append}
use Rattle.law_order.proofs.Vocabulary.{◌≡◌, inl, inr, ℕ, suc, ◌+◌, ◌≤◌, List, [], ◌∷◌, ◌++◌, append_assoc, length, take, cond, Bool, true, false, nat_lt, Some, None, Ok, Err, arith, refl, sym, ap, ◌∙◌, subst, Option, Result, cases_lt, append-nil, take_all, take-append-le}
use Rattle.rh_line.specs.declared.cause.Cause.TheVariants as cause
use Rattle.rh_shell.specs.Intakes.{Over, behind}
use Rattle.rh_shell.specs.declared.answers.Behind.TheVariants as passed
use Rattle.rh_shell.specs.declared.stage.Stage.TheVariants as stage
use Rattle.law_moves.proofs.Vocabulary.{neither, HeadFault, header_length, frag_of, head_fault, Pipe, Leg, Cause, Behind, Count, HeadRefused, HeadTaken, Stage, Stop, Turn, goes, stops, stop, stop_head, head_row, stage_of, begun_body, behind_head, behind_frame, take_frame, is_greeting, is_stopped, heading, touched, with_intake, take as taken, hear_byte, hear, heard, Intake, Came, Nothing, Head, Greeting, Frame, on_byte, byte_by, text_by, frame_by, frame_byte, holds}
use Rattle.law_moves.proofs.Vocabulary.{is_whole_head, is_whole_greeting, is_full, length_told, counted, NearEnd, first_stage, is_over, Rules, is_deaf, IsWholeText, begin}
use Rattle.law_node_streams.proofs.Streams.Heads.{Waited, first_more}
use Rattle.law_node_streams.specs.Streams.{IsFirstHead, is_live}

-- ---- while a head is waited for

one_length : (heard : List ℕ) (b : ℕ) → length (heard ++ b ∷ []) ≡ suc (length heard)
one_length heard b = omega (arith, length-append heard (b ∷ []))

-- a front of the bytes with one more is a front of them, or all
fronts_with : (heard : List ℕ) (b : ℕ) (P : List ℕ → Type 0) (k : ℕ)
    → (k ≤ length heard → P (take k heard)) → P (heard ++ b ∷ [])
    → P (take k (heard ++ b ∷ []))
fronts_with heard b P k below all = elim (cases_lt (length heard) k) [
  | inl above ↦
      let size = one_length heard b in
      subst P (sym (take_all k (heard ++ b ∷ []) (omega (arith, above, size)))) all
  | inr under ↦
      subst P (sym (take-append-le k heard (b ∷ []) (omega (arith, under))))
      (below (omega (arith, under)))
]

waited_one : (pipe : Option Pipe) (heard held : List ℕ) (b : ℕ)
    → Waited (begin pipe) heard held → is_whole_head (heard ++ b ∷ []) ≡ false
    → Waited (begin pipe) (heard ++ b ∷ []) (held ++ b ∷ [])
waited_one pipe heard held b w none = record {
  head = w.head;
  held_is = ap (λ (x : List ℕ). x ++ b ∷ []) w.held_is;
  none = λ k more less.
      fronts_with heard b (λ (x : List ℕ). is_whole_head x ≡ false) k (w.none k more) none;
}

whole_one : (pipe : Option Pipe) (heard held : List ℕ) (b : ℕ)
    → Waited (begin pipe) heard held → is_whole_head (heard ++ b ∷ []) ≡ true
    → IsWholeText is_whole_head (heard ++ b ∷ [])
whole_one pipe heard held b w whole = record {
  whole = whole;
  front = λ k more less.
      let size = one_length heard b in
      subst (λ (x : List ℕ). is_whole_head x ≡ false)
      (sym (take-append-le k heard (b ∷ []) (omega (arith, less, size))))
      (w.none k more (omega (arith, less, size)));
}

-- ---- heads

-- where a head comes first: frames come behind each one with which the bytes begin, if it is taken
abbrev pub BringsFrames : {S : Type 0} → Rules S → Option Pipe → Leg → List ℕ → Type 0
BringsFrames {S} rules pipe leg heard =
    first_stage pipe ≡ stage.Head → (text : List ℕ) → IsFirstHead text heard
    → (role : S) (taken : HeadTaken) → (rules.head role leg text).1 ≡ Ok taken
    → taken.behind ≡ passed.Frames

-- so it is of a front of the bytes
pub brings_less : {S : Type 0} (rules : Rules S) (pipe : Option Pipe) (leg : Leg)
    (heard more : List ℕ) → BringsFrames rules pipe leg (heard ++ more)
    → BringsFrames rules pipe leg heard
brings_less rules pipe leg heard more brings top text first =
    brings top text (first_more leg heard more text first)

module _ {S : Type 0} (rules : Rules S) (pipe : Option Pipe) (leg : Leg) where
  -- what an end holds of the bytes that were heard there, and what comes next
  pub record ReadsOn (heard : List ℕ) (t : Turn S) : Type 0 where
    pub leg_is : t.end.leg ≡ leg
    pub waits : is_deaf rules t ≡ false → t.end.intake.stage ≡ stage.Head
        → Waited (begin pipe) heard t.end.intake.held
    pub live : is_stopped t.stop ≡ false → BringsFrames rules pipe leg heard
        → is_live t.end.intake.stage ≡ true

  module _ (moment : ℕ) (before : List ℕ) (b : ℕ) (end : NearEnd) (role : S)
      (here : end.leg ≡ leg)
      (live : BringsFrames rules pipe leg before → is_live end.intake.stage ≡ true) where
    abbrev all : List ℕ
    all = before ++ b ∷ []

    abbrev now : Intake → NearEnd
    now j = with_intake (touched end moment) j

    abbrev i : Intake
    i = end.intake

    -- where the same comes next
    stays : (j : Intake) → j.stage ≡ i.stage → BringsFrames rules pipe leg all
        → is_live j.stage ≡ true
    stays j same brings =
        ap is_live same ∙ live (brings_less rules pipe leg before (b ∷ []) brings)

    goes_on : (j : Intake) → j.stage ≡ i.stage
        → (j.stage ≡ stage.Head → Waited (begin pipe) all j.held)
        → ReadsOn all (goes (now j) role)
    goes_on j same waits =
        record { leg_is = here; waits = λ d st. waits st; live = λ go. stays j same }

    halts : (j : Intake) (after : S) (first : Stop) → ReadsOn all (stops (now j) after first)
    halts j after first =
        record { leg_is = here; waits = λ d st. absurd cc; live = λ go brings. absurd cc }

    not_head : (s : Behind) → stage_of s ≡ stage.Head → ⊥
    not_head passed.Frames e = absurd cc
    not_head passed.PassedOver e = absurd cc

    head_taken : (j : Intake) (text : List ℕ) → first_stage pipe ≡ stage.Head → text ≡ all
        → IsWholeText is_whole_head text → (x : S × Result HeadTaken HeadRefused)
        → rules.head role end.leg text ≡ x
        → ReadsOn all (behind_head (now j) (head_row end.leg (length text) x))
    head_taken j text top is whole (after, Ok taken) e = record {
      leg_is = here;
      waits = λ d st. absurd (not_head taken.behind st);
      live = λ go brings.
          ap (λ (s : Behind). is_live (stage_of s))
          (brings top text (record { whole = whole; front = ([], append-nil text ∙ is) }) role
          taken
          (subst (λ (l : Leg). (rules.head role l text).1 ≡ Ok taken) here
          (ap (λ (y : S × Result HeadTaken HeadRefused). y.1) e)));
    }
    head_taken j text top is whole (after, Err why) e =
        halts j after (stop_head end.leg (length text) why)

    greeting_taken : (j : Intake) (t : Bool)
        → ReadsOn all (cond t (goes (begun_body (now j) stage.Frames None) role)
        (stops (now j) role (stop (cause.Unexpected end.leg 0))))
    greeting_taken j true =
        record { leg_is = here; waits = λ d st. absurd cc; live = λ go brings. refl }
    greeting_taken j false = halts j role (stop (cause.Unexpected end.leg 0))

    frame_taken : (j : Intake) → j.stage ≡ i.stage → (j.stage ≡ stage.Head → ⊥)
        → (x : S × Result Count Cause) → ReadsOn all (behind_frame (now j) x)
    frame_taken j same other (after, Ok next) = record {
      leg_is = here;
      waits = λ d st. absurd (other st);
      live = λ go. stays j same;
    }
    frame_taken j same other (after, Err why) = halts j after (stop why)

    -- ---- by what comes next

    abbrev Taken : Intake × Came → Type 0
    Taken next = ReadsOn all (taken rules (now next.0) role next.1)

    in_head : Waited (begin pipe) before i.held → (t : Bool)
        → is_whole_head (before ++ b ∷ []) ≡ t
        → Taken (text_by i (i.held ++ b ∷ []) (Head (i.held ++ b ∷ [])) t)
    unfolding taken
    in_head w true whole =
        let same : i.held ++ b ∷ [] ≡ all = ap (λ (x : List ℕ). x ++ b ∷ []) w.held_is in
        head_taken (behind i (i.held ++ b ∷ [])) (i.held ++ b ∷ []) w.head same
        (subst (IsWholeText is_whole_head) (sym same) (whole_one pipe before i.held b w whole))
        (rules.head role end.leg (i.held ++ b ∷ [])) refl
    in_head w false whole =
        goes_on (record i { held = i.held ++ b ∷ [] }) refl
        (λ st. waited_one pipe before i.held b w whole)

    in_greeting : (i.stage ≡ stage.Head → ⊥) → (bytes : List ℕ) (t : Bool)
        → Taken (text_by i bytes (Greeting bytes) t)
    unfolding taken
    in_greeting other bytes true = greeting_taken (behind i bytes) (is_greeting bytes)
    in_greeting other bytes false =
        goes_on (record i { held = bytes }) refl (λ st. absurd (other st))

    -- a byte that is counted
    abbrev one : Intake
    one = record i { body = counted 1 i.body }

    framed : (i.stage ≡ stage.Head → ⊥) → (bytes : List ℕ) (t : Bool)
        → Taken (cond {A = Intake × Came} t (holds one bytes)
        (behind one bytes, Frame one.place bytes))
    unfolding taken
    framed other bytes true =
        goes_on (record one { held = bytes }) refl (λ st. absurd (other st))
    framed other bytes false =
        frame_taken (behind one bytes) refl other
        (take_frame rules (heading (now (behind one bytes)) one.place) role bytes)

    headed : (i.stage ≡ stage.Head → ⊥) → (bytes : List ℕ) (o : Option HeadFault)
        → Taken (frame_by one bytes o)
    unfolding taken
    headed other bytes (Some fault) =
        halts (record one { stage = stage.Shut; held = bytes }) role
        (stop (cause.BadFrame end.leg one.place fault))
    headed other bytes None = framed other bytes (nat_lt (length bytes) (frag_of bytes))

    in_frames : (i.stage ≡ stage.Head → ⊥) → (bytes : List ℕ) (t : Bool)
        → Taken (cond {A = Intake × Came} t (holds one bytes)
        (frame_by one bytes (head_fault bytes)))
    unfolding taken
    in_frames other bytes true =
        goes_on (record one { held = bytes }) refl (λ st. absurd (other st))
    in_frames other bytes false = headed other bytes (head_fault bytes)

    passed_over : (i.stage ≡ stage.Head → ⊥) → Taken (one, Nothing)
    unfolding taken
    passed_over other = goes_on one refl (λ st. absurd (other st))

    -- a byte of a body, or the first behind it
    in_body : (next : Intake × Came) → Taken next → (t : Bool)
        → Taken (cond {A = Intake × Came} t
        (record i { stage = stage.Shut }, Over (length_told i.body)) next)
    unfolding taken
    in_body next is true =
        halts (record i { stage = stage.Shut }) role
        (stop (cause.BodyOver end.leg (length_told i.body + 1) (length_told i.body)))
    in_body next is false = is

    by_stage : (s : Stage) → i.stage ≡ s
        → (s ≡ stage.Head → Waited (begin pipe) before i.held)
        → Taken (byte_by s i (i.held ++ b ∷ []))
    unfolding taken
    by_stage stage.Head st waits =
        let w = waits refl in
        in_head w (is_whole_head (i.held ++ b ∷ []))
        (ap is_whole_head (sym (ap (λ (x : List ℕ). x ++ b ∷ []) w.held_is)))
    by_stage stage.Greeting st waits =
        in_greeting (λ e. absurd cc) (i.held ++ b ∷ []) (is_whole_greeting (i.held ++ b ∷ []))
    by_stage stage.Frames st waits =
        in_body (frame_byte one (i.held ++ b ∷ []))
        (in_frames (λ e. absurd cc) (i.held ++ b ∷ [])
        (nat_lt (length (i.held ++ b ∷ [])) header_length)) (is_full i.body)
    by_stage stage.PassedOver st waits =
        in_body (one, Nothing) (passed_over (λ e. absurd cc)) (is_full i.body)
    by_stage stage.Shut st waits = goes_on i refl (λ e. absurd cc)

    byte_taken : (i.stage ≡ stage.Head → Waited (begin pipe) before i.held)
        → ReadsOn all (heard rules moment end role b)
    unfolding on_byte
    byte_taken waits = by_stage i.stage refl (λ e. waits e)

  -- ---- bytes

  module _ (moment : ℕ) where
    byte_heard : (before : List ℕ) (b : ℕ) (t : Turn S) → ReadsOn before t
        → ReadsOn (before ++ b ∷ []) (hear_byte rules moment t b)
    unfolding hear_byte
    byte_heard before b t h = by (is_deaf rules t) refl
      where
        by : (d : Bool) → is_deaf rules t ≡ d
            → ReadsOn (before ++ b ∷ []) (cond d t (heard rules moment t.end t.role b))
        by true e = record {
          leg_is = h.leg_is;
          waits = λ on. absurd (let bad : true ≡ false = sym e ∙ on in cc);
          live = λ go brings.
              h.live go (brings_less rules pipe leg before (b ∷ []) brings);
        }
        by false e =
            byte_taken moment before b t.end t.role h.leg_is
            (h.live (neither (is_stopped t.stop) (is_over rules t.end t.role) e).0)
            (λ st. h.waits e st)

    pub bytes_heard : (before piece : List ℕ) (t : Turn S) → ReadsOn before t
        → ReadsOn (before ++ piece) (hear rules moment t piece)
    unfolding hear
    bytes_heard before [] t h =
        subst (λ (x : List ℕ). ReadsOn x t) (sym (append-nil before)) h
    bytes_heard before (b ∷ piece) t h =
        subst (λ (x : List ℕ). ReadsOn x (hear rules moment (hear_byte rules moment t b) piece))
        (append_assoc before (b ∷ []) piece)
        (bytes_heard (before ++ b ∷ []) piece (hear_byte rules moment t b)
        (byte_heard before b t h))

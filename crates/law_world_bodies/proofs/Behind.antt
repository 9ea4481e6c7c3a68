-- what a node counts behind a head is what it heard behind it, byte by byte
use Rattle.std.proofs.Common.{length-append}
use Rattle.law_order.proofs.Vocabulary.{◌≡◌, inl, inr, ℕ, suc, ◌+◌, ◌<◌, ◌≤◌, List, [], ◌∷◌, ◌++◌, append_assoc, length, take, cond, Bool, true, false, nat_lt, Some, None, Ok, Err, arith, refl, sym, ap, ◌∙◌, subst, slice_index, ◌==◌, ◌&&◌, Option, Result, eqb-true, cases_lt, append-nil, take_all, take-append-le}
use Rattle.rh_sig.specs.declared.fault.SigFault.TheVariants as sig
use Rattle.rh_line.specs.declared.cause.Cause.TheVariants as cause
use Rattle.rh_shell.specs.declared.stage.Body.{Body}
use Rattle.rh_shell.specs.Intakes.{Over, behind}
use Rattle.rh_shell.specs.declared.answers.Behind.TheVariants as passed
use Rattle.rh_shell.specs.declared.answers.HeadRefused.TheVariants as head
use Rattle.rh_shell.specs.declared.answers.Refused.TheVariants as refused
use Rattle.rh_shell.specs.declared.reading.PacketFault.TheVariants as unread
use Rattle.rh_shell.specs.declared.stage.Stage.TheVariants as stage
use Rattle.law_moves.proofs.Vocabulary.{HeadFault, rts, header_length, frag_of, head_fault, Pipe, Named, Leg, Cause, Behind, Count, HeadRefused, HeadTaken, Heading, PacketFault, Stage, Stop, Turn, goes, stops, stop, stop_head, head_row, stage_of, begun_body, behind_head, behind_frame, row_by, close_row, one_more, is_zero, is_upward, is_ping, take_ping, take_packet, take_frame, is_greeting, heading, touched, with_intake, take as taken, hear_byte, hear, heard, Intake, Came}
use Rattle.law_moves.proofs.Vocabulary.{Nothing, Head, Greeting, Frame, on_byte, byte_by, text_by, frame_by, frame_byte, holds, is_whole_head, is_whole_greeting, is_full, length_told, counted, NearEnd, first_stage, packet_of, Rules, Row, is_deaf, IsWholeText}
use Rattle.law_world_bodies.specs.Behind.{BodyIs, HasBody}

-- ---- a cause of a frame is none of a body

abbrev IsNoOver : Cause → Type 0
IsNoOver (cause.BodyOver leg count told) = ⊥
IsNoOver why = Unit {0}

abbrev RowIs : Result Count Cause → Type 0
RowIs (Ok next) = Unit {0}
RowIs (Err why) = IsNoOver why

module _ {S : Type 0} (rules : Rules S) (at : Heading) (role : S) where
  row_is : (next : Count) (r : Row) → RowIs (row_by at next r)
  row_is next (Ok taken) = tt
  row_is next (Err refused.Unexpected) = tt
  row_is next (Err (refused.Cookie expected got)) = tt
  row_is next (Err (refused.Window window)) = tt
  row_is next (Err (refused.OutOfRange command value)) = tt
  row_is next (Err (refused.Full full)) = tt

  ping_is : (zero upward : Bool)
      → RowIs (cond (zero && upward) (Err (cause.Unexpected at.leg at.place)) (Ok at.count))
  ping_is true true = tt
  ping_is true false = tt
  ping_is false upward = tt

  named_is : (named : Named) (t : Bool)
      → RowIs (cond {A = S × Result Count Cause} t (role, take_ping at)
      (close_row at (one_more at.count) (rules.packet role at.leg at.count named))).1
  named_is named true = ping_is (is_zero at.count) (is_upward at.pipe)
  named_is named false =
      row_is (one_more at.count) (rules.packet role at.leg at.count named).1

  packet_is : (r : Result Named PacketFault) → RowIs (take_packet rules at role r).1
  packet_is (Ok named) = named_is named (is_ping named)
  packet_is (Err (unread.Rts fault)) = tt
  packet_is (Err (unread.Sig sig.Unknown)) = tt
  packet_is (Err (unread.Sig (sig.OutOfRange command value))) = tt

  by_type : (frame : List ℕ) (t : Bool)
      → RowIs (cond {A = S × Result Count Cause} t
      (take_packet rules at role (packet_of frame at.pipe))
      (close_row at at.count (rules.pdu role at.leg at.count frame))).1
  by_type frame true = packet_is (packet_of frame at.pipe)
  by_type frame false = row_is at.count (rules.pdu role at.leg at.count frame).1

  frame_is : (frame : List ℕ) → RowIs (take_frame rules at role frame).1
  unfolding take_frame
  frame_is frame = by_type frame (slice_index frame 2 == rts)

-- ---- while a head is waited for

-- one comes first there, all bytes are held, and no front of them is a whole head
pub record Waited (pipe : Option Pipe) (heard held : List ℕ) : Type 0 where
  pub head : first_stage pipe ≡ stage.Head
  pub held_is : held ≡ heard
  pub none : (k : ℕ) → 0 < k → k ≤ length heard → is_whole_head (take k heard) ≡ false

one_length : (heard : List ℕ) (b : ℕ) → length (heard ++ b ∷ []) ≡ suc (length heard)
one_length heard b = omega (arith, length-append heard (b ∷ []))

-- a front of them with one byte more is one of them, or all
fronts_with : (heard : List ℕ) (b : ℕ) (P : List ℕ → Type 0) (k : ℕ)
    → (k ≤ length heard → P (take k heard)) → (k ≡ suc (length heard) → P (heard ++ b ∷ []))
    → k ≤ suc (length heard) → P (take k (heard ++ b ∷ []))
fronts_with heard b P k below all within = elim (cases_lt (length heard) k) [
  | inl above ↦
      let k_is : k ≡ suc (length heard) = omega (arith, above, within) in
      let size = one_length heard b in
      subst P (sym (take_all k (heard ++ b ∷ []) (omega (arith, k_is, size)))) (all k_is)
  | inr under ↦
      subst P (sym (take-append-le k heard (b ∷ []) (omega (arith, under))))
      (below (omega (arith, under)))
]

waited_one : (pipe : Option Pipe) (heard held : List ℕ) (b : ℕ) → Waited pipe heard held
    → is_whole_head (heard ++ b ∷ []) ≡ false → Waited pipe (heard ++ b ∷ []) (held ++ b ∷ [])
waited_one pipe heard held b w none = record {
  head = w.head;
  held_is = ap (λ (x : List ℕ). x ++ b ∷ []) w.held_is;
  none = λ k more less.
      let size = one_length heard b in
      fronts_with heard b (λ (x : List ℕ). is_whole_head x ≡ false) k (w.none k more)
      (λ e. none) (omega (arith, less, size));
}

whole_one : (pipe : Option Pipe) (heard held : List ℕ) (b : ℕ) → Waited pipe heard held
    → is_whole_head (heard ++ b ∷ []) ≡ true → IsWholeText is_whole_head (heard ++ b ∷ [])
whole_one pipe heard held b w whole = record {
  whole = whole;
  front = λ k more less.
      let size = one_length heard b in
      subst (λ (x : List ℕ). is_whole_head x ≡ false)
      (sym (take-append-le k heard (b ∷ []) (omega (arith, less, size))))
      (w.none k more (omega (arith, less, size)));
}

module _ {S : Type 0} (rules : Rules S) (pipe : Option Pipe) (leg : Leg) where
  -- ---- bodies

  pub longer : (heard more : List ℕ) (count told : ℕ) → HasBody rules pipe leg heard count told
      → HasBody rules pipe leg (heard ++ more) count told
  longer heard more count told h = record {
    head = h.head;
    text = h.text;
    rest = h.rest ++ more;
    split =
        ap (λ (x : List ℕ). x ++ more) h.split ∙ append_assoc h.text h.rest more;
    whole = h.whole;
    takes = h.takes;
    within = omega (arith, h.within, length-append h.rest more);
  }

  one_longer : (heard : List ℕ) (b count told : ℕ) → HasBody rules pipe leg heard count told
      → HasBody rules pipe leg (heard ++ b ∷ []) (count + 1) told
  one_longer heard b count told h = record {
    head = h.head;
    text = h.text;
    rest = h.rest ++ b ∷ [];
    split =
        ap (λ (x : List ℕ). x ++ b ∷ []) h.split ∙ append_assoc h.text h.rest (b ∷ []);
    whole = h.whole;
    takes = h.takes;
    within = omega (arith, h.within, length-append h.rest (b ∷ []));
  }

  pub body_more : (heard more : List ℕ) (o : Option Body) → BodyIs rules pipe leg heard o
      → BodyIs rules pipe leg (heard ++ more) o
  body_more heard more None h = tt
  body_more heard more (Some body) h = longer heard more body.came body.length h

  body_one : (heard : List ℕ) (b : ℕ) (o : Option Body) → BodyIs rules pipe leg heard o
      → BodyIs rules pipe leg (heard ++ b ∷ []) (counted 1 o)
  body_one heard b None h = tt
  body_one heard b (Some body) h = one_longer heard b body.came body.length h

  -- a body that is too long by a byte
  abbrev pub OverIs : List ℕ → Cause → Type 0
  OverIs heard (cause.BodyOver l count told) =
      (l ≡ leg) × HasBody rules pipe leg heard (suc told) told
  OverIs heard why = Unit {0}

  abbrev pub StopIs : List ℕ → Option Stop → Type 0
  StopIs heard None = Unit {0}
  StopIs heard (Some first) = OverIs heard first.cause

  over_more : (heard more : List ℕ) (why : Cause) → OverIs heard why
      → OverIs (heard ++ more) why
  over_more heard more (cause.BodyOver l count told) h =
      (h.0, longer heard more (suc told) told h.1)
  over_more heard more why h = tt

  stop_more : (heard more : List ℕ) (o : Option Stop) → StopIs heard o
      → StopIs (heard ++ more) o
  stop_more heard more None h = tt
  stop_more heard more (Some first) h = over_more heard more first.cause h

  no_over : (heard : List ℕ) (why : Cause) → IsNoOver why → OverIs heard why
  no_over heard (cause.BodyOver l count told) is = absurd is
  no_over heard why is = tt

  full_over : (heard : List ℕ) (b : ℕ) (o : Option Body) → is_full o ≡ true
      → BodyIs rules pipe leg heard o
      → HasBody rules pipe leg (heard ++ b ∷ []) (suc (length_told o)) (length_told o)
  full_over heard b None full h = absurd (cc)
  full_over heard b (Some body) full h =
      let same : body.came ≡ body.length = eqb-true body.came body.length full in
      let one = one_longer heard b body.came body.length h in
      record {
        head = one.head;
        text = one.text;
        rest = one.rest;
        split = one.split;
        whole = one.whole;
        takes = one.takes;
        within = let within = one.within in omega (arith, same, within);
      }

  -- ---- what an end says of the bytes that were heard there

  pub record IsBehind (heard : List ℕ) (t : Turn S) : Type 0 where
    pub leg_is : t.end.leg ≡ leg
    pub waits : is_deaf rules t ≡ false → t.end.intake.stage ≡ stage.Head
        → Waited pipe heard t.end.intake.held
    pub body : BodyIs rules pipe leg heard t.end.intake.body
    pub stop_is : StopIs heard t.stop

  module _ (moment : ℕ) (before : List ℕ) (b : ℕ) (end : NearEnd) (role : S)
      (here : end.leg ≡ leg) (body : BodyIs rules pipe leg before end.intake.body) where
    abbrev all : List ℕ
    all = before ++ b ∷ []

    abbrev now : Intake → NearEnd
    now j = with_intake (touched end moment) j

    old_body : BodyIs rules pipe leg all end.intake.body
    old_body = body_more before (b ∷ []) end.intake.body body

    goes_on : (j : Intake) → (j.stage ≡ stage.Head → Waited pipe all j.held)
        → BodyIs rules pipe leg all j.body → IsBehind all (goes (now j) role)
    goes_on j waits is =
        record { leg_is = here; waits = λ d st. waits st; body = is; stop_is = tt }

    halts : (j : Intake) (after : S) (first : Stop) → OverIs all first.cause
        → BodyIs rules pipe leg all j.body → IsBehind all (stops (now j) after first)
    halts j after first over is =
        record { leg_is = here; waits = λ d st. absurd (cc); body = is; stop_is = over }

    not_head : (s : Behind) → stage_of s ≡ stage.Head → ⊥
    not_head passed.Frames e = absurd (cc)
    not_head passed.PassedOver e = absurd (cc)

    head_stop : (l : Leg) (n : ℕ) (why : HeadRefused) → OverIs all (stop_head l n why).cause
    head_stop l n (head.Request fault) = tt
    head_stop l n (head.Response fault) = tt
    head_stop l n (head.Status status) = tt

    head_taken : (j : Intake) (text : List ℕ) → first_stage pipe ≡ stage.Head → text ≡ all
        → IsWholeText is_whole_head text
        → BodyIs rules pipe leg all j.body → (x : S × Result HeadTaken HeadRefused)
        → rules.head role end.leg text ≡ x
        → IsBehind all (behind_head (now j) (head_row end.leg (length text) x))
    head_taken j text first is whole old (after, Ok taken) e = record {
      leg_is = here;
      waits = λ d st. absurd (not_head taken.behind st);
      body = record {
        head = first;
        text = text;
        rest = [];
        split = sym is ∙ sym (append-nil text);
        whole = whole;
        takes = record {
          role = role;
          taken = taken;
          takes =
              subst (λ (l : Leg). (rules.head role l text).1 ≡ Ok taken) here
              (ap (λ (x : S × Result HeadTaken HeadRefused). x.1) e);
          tells = refl;
        };
        within = omega arith;
      };
      stop_is = tt;
    }
    head_taken j text first is whole old (after, Err why) e =
        halts j after (stop_head end.leg (length text) why)
        (head_stop end.leg (length text) why) old

    greeting_taken : (j : Intake) (text : List ℕ) (t : Bool) → BodyIs rules pipe leg all j.body
        → IsBehind all (cond t (goes (begun_body (now j) stage.Frames None) role)
        (stops (now j) role (stop (cause.Unexpected end.leg 0))))
    greeting_taken j text true old =
        record { leg_is = here; waits = λ d st. absurd (cc); body = tt; stop_is = tt }
    greeting_taken j text false old = halts j role (stop (cause.Unexpected end.leg 0)) tt old

    frame_taken : (j : Intake) → (j.stage ≡ stage.Head → ⊥) → BodyIs rules pipe leg all j.body
        → (x : S × Result Count Cause) → RowIs x.1 → IsBehind all (behind_frame (now j) x)
    frame_taken j other is (after, Ok next) row =
        record { leg_is = here; waits = λ d st. absurd (other st); body = is; stop_is = tt }
    frame_taken j other is (after, Err why) row =
        halts j after (stop why) (no_over all why row) is

    -- ---- by the stage

    abbrev Taken : Intake × Came → Type 0
    Taken next = IsBehind all (taken rules (now next.0) role next.1)

    abbrev i : Intake
    i = end.intake

    in_head : i.stage ≡ stage.Head → Waited pipe before i.held → (t : Bool)
        → is_whole_head (before ++ b ∷ []) ≡ t
        → Taken (text_by i (i.held ++ b ∷ []) (Head (i.held ++ b ∷ [])) t)
    unfolding taken
    in_head st w true whole =
        let same : i.held ++ b ∷ [] ≡ all = ap (λ (x : List ℕ). x ++ b ∷ []) w.held_is in
        head_taken (behind i (i.held ++ b ∷ [])) (i.held ++ b ∷ []) w.head same
        (subst (IsWholeText is_whole_head) (sym same) (whole_one pipe before i.held b w whole))
        old_body
        (rules.head role end.leg (i.held ++ b ∷ [])) refl
    in_head st w false whole =
        goes_on (record i { held = i.held ++ b ∷ [] })
        (λ st. waited_one pipe before i.held b w whole)
        old_body

    in_greeting : (i.stage ≡ stage.Head → ⊥) → (bytes : List ℕ) (t : Bool)
        → Taken (text_by i bytes (Greeting bytes) t)
    unfolding taken
    in_greeting other bytes true =
        greeting_taken (behind i bytes) bytes (is_greeting bytes) old_body
    in_greeting other bytes false =
        goes_on (record i { held = bytes }) (λ st. absurd (other st)) old_body

    -- a byte that is counted
    abbrev one : Intake
    one = record i { body = counted 1 i.body }

    one_body : BodyIs rules pipe leg all (counted 1 i.body)
    one_body = body_one before b i.body body

    framed : (i.stage ≡ stage.Head → ⊥) → (bytes : List ℕ) (t : Bool)
        → Taken (cond {A = Intake × Came} t (holds one bytes)
        (behind one bytes, Frame one.place bytes))
    unfolding taken
    framed other bytes true =
        goes_on (record one { held = bytes }) (λ st. absurd (other st)) one_body
    framed other bytes false =
        frame_taken (behind one bytes) other one_body
        (take_frame rules (heading (now (behind one bytes)) one.place) role bytes)
        (frame_is rules (heading (now (behind one bytes)) one.place) role bytes)

    headed : (i.stage ≡ stage.Head → ⊥) → (bytes : List ℕ) (o : Option HeadFault)
        → Taken (frame_by one bytes o)
    unfolding taken
    headed other bytes (Some fault) =
        halts (record one { stage = stage.Shut; held = bytes }) role
        (stop (cause.BadFrame end.leg one.place fault)) tt one_body
    headed other bytes None = framed other bytes (nat_lt (length bytes) (frag_of bytes))

    in_frames : (i.stage ≡ stage.Head → ⊥) → (bytes : List ℕ) (t : Bool)
        → Taken (cond {A = Intake × Came} t (holds one bytes)
        (frame_by one bytes (head_fault bytes)))
    unfolding taken
    in_frames other bytes true =
        goes_on (record one { held = bytes }) (λ st. absurd (other st)) one_body
    in_frames other bytes false = headed other bytes (head_fault bytes)

    passed_over : (i.stage ≡ stage.Head → ⊥) → Taken (one, Nothing)
    unfolding taken
    passed_over other = goes_on one (λ st. absurd (other st)) one_body

    -- a byte of a body, or the first behind it
    in_body : (next : Intake × Came) → Taken next → (t : Bool) → is_full i.body ≡ t
        → Taken (cond {A = Intake × Came} t
        (record i { stage = stage.Shut }, Over (length_told i.body)) next)
    unfolding taken
    in_body next is true full =
        halts (record i { stage = stage.Shut }) role
        (stop (cause.BodyOver end.leg (length_told i.body + 1) (length_told i.body)))
        (here, full_over before b i.body full body) old_body
    in_body next is false full = is

    by_stage : (s : Stage) → i.stage ≡ s → (s ≡ stage.Head → Waited pipe before i.held)
        → Taken (byte_by s i (i.held ++ b ∷ []))
    unfolding taken
    by_stage stage.Head st waits =
        let w = waits refl in
        let same : i.held ++ b ∷ [] ≡ all = ap (λ (x : List ℕ). x ++ b ∷ []) w.held_is in
        in_head st w (is_whole_head (i.held ++ b ∷ [])) (ap is_whole_head (sym same))
    by_stage stage.Greeting st waits =
        in_greeting (λ e. absurd (cc)) (i.held ++ b ∷ []) (is_whole_greeting (i.held ++ b ∷ []))
    by_stage stage.Frames st waits =
        in_body (frame_byte one (i.held ++ b ∷ []))
        (in_frames (λ e. absurd (cc)) (i.held ++ b ∷ [])
        (nat_lt (length (i.held ++ b ∷ [])) header_length)) (is_full i.body) refl
    by_stage stage.PassedOver st waits =
        in_body (one, Nothing) (passed_over (λ e. absurd (cc))) (is_full i.body) refl
    by_stage stage.Shut st waits = goes_on i (λ e. absurd (cc)) old_body

    pub byte_taken : (i.stage ≡ stage.Head → Waited pipe before i.held)
        → IsBehind all (heard rules moment end role b)
    unfolding on_byte
    byte_taken waits =
        by_stage i.stage refl (λ e. waits e)

  -- ---- bytes

  module _ (moment : ℕ) where
    byte_heard : (before : List ℕ) (b : ℕ) (t : Turn S) → IsBehind before t
        → IsBehind (before ++ b ∷ []) (hear_byte rules moment t b)
    unfolding hear_byte
    byte_heard before b t h = by (is_deaf rules t) refl
      where
        by : (d : Bool) → is_deaf rules t ≡ d
            → IsBehind (before ++ b ∷ []) (cond d t (heard rules moment t.end t.role b))
        by true e = record {
          leg_is = h.leg_is;
          waits = λ on. absurd (let bad : true ≡ false = sym e ∙ on in cc);
          body = body_more before (b ∷ []) t.end.intake.body h.body;
          stop_is = stop_more before (b ∷ []) t.stop h.stop_is;
        }
        by false e =
            byte_taken moment before b t.end t.role h.leg_is h.body (λ st. h.waits e st)

    pub bytes_heard : (before piece : List ℕ) (t : Turn S) → IsBehind before t
        → IsBehind (before ++ piece) (hear rules moment t piece)
    unfolding hear
    bytes_heard before [] t h =
        subst (λ (x : List ℕ). IsBehind x t) (sym (append-nil before)) h
    bytes_heard before (b ∷ piece) t h =
        subst (λ (x : List ℕ). IsBehind x (hear rules moment (hear_byte rules moment t b) piece))
        (append_assoc before (b ∷ []) piece)
        (bytes_heard (before ++ b ∷ []) piece (hear_byte rules moment t b)
        (byte_heard before b t h))

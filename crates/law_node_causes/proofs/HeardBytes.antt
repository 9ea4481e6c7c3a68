-- what bytes close a node with
use Rattle.law_order.proofs.Vocabulary.{◌≡◌, ℕ, List, [], ◌∷◌, ◌++◌, length, cond, Bool, true, false, nat_lt, Some, None, Ok, Err, refl, sym, ap, ◌∙◌, subst, append_assoc, slice_index, ◌==◌, ◌&&◌, ◌+◌, Option, Result}
use Rattle.rh_sig.specs.declared.fault.SigFault.TheVariants as sig
use Rattle.rh_line.specs.declared.cause.Cause.TheVariants as cause
use Rattle.rh_shell.specs.Intakes.{Over, behind}
use Rattle.rh_shell.specs.declared.answers.Behind.TheVariants as passed
use Rattle.rh_shell.specs.declared.answers.HeadRefused.TheVariants as head
use Rattle.rh_shell.specs.declared.answers.Refused.TheVariants as refused
use Rattle.rh_shell.specs.declared.reading.PacketFault.TheVariants as unread
use Rattle.rh_shell.specs.declared.stage.Stage.TheVariants as stage
use Rattle.law_moves.proofs.Vocabulary.{HeadFault, rts, header_length, frag_of, head_fault, Named, HttpFault, Refusal, refusal_of, Leg, Cause, Behind, Count, HeadRefused, HeadTaken, Heading, PacketFault, Stage, Stop, Intake, Came, Nothing, Head, Greeting, Frame, Fault, on_byte, byte_by, text_by, frame_by, frame_byte, holds, is_whole_head, is_whole_greeting, is_full, length_told, counted, packet_of, NearEnd, is_over, Rules, Row, Turn, goes, stops, stop, stop_head, head_row}
use Rattle.law_moves.proofs.Vocabulary.{stage_of, begun_body, behind_head, behind_frame, cause_unread, row_by, close_row, one_more, is_zero, is_upward, is_ping, take_ping, take_packet, take_frame, is_greeting, heading, touched, with_intake, take, take_next, is_stopped, hear_byte, hear}
use Rattle.law_node_causes.specs.Reasons.{IsOfPiece, RefusesHead}

-- ---- a byte

-- a head is unfinished behind a byte, or whole, only where one was unfinished before it
abbrev After : Intake → ℕ → Intake × Came → Type 0
After i b (j, Nothing) =
    j.stage ≡ stage.Head → (i.stage ≡ stage.Head) × (j.held ≡ i.held ++ b ∷ [])
After i b (j, Head text) =
    (i.stage ≡ stage.Head) × (text ≡ i.held ++ b ∷ []) × (is_whole_head text ≡ true)
After i b (j, Greeting text) = Unit {0}
After i b (j, Frame place frame) = j.stage ≡ stage.Frames
After i b (j, Fault place fault) = Unit {0}
After i b (j, Over told) = Unit {0}

module _ (i : Intake) (b : ℕ) where
  on_head : (t : Bool) → i.stage ≡ stage.Head → is_whole_head (i.held ++ b ∷ []) ≡ t
      → After i b (text_by i (i.held ++ b ∷ []) (Head (i.held ++ b ∷ [])) t)
  on_head true st whole = (st, refl, whole)
  on_head false st whole = λ is. (st, refl)

  on_greeting : (all : List ℕ) (t : Bool) → i.stage ≡ stage.Greeting
      → After i b (text_by i all (Greeting all) t)
  on_greeting all true st = tt
  on_greeting all false st = λ is. absurd cc

  on_header : (j : Intake) (all : List ℕ) (o : Option HeadFault) → j.stage ≡ stage.Frames
      → After i b (frame_by j all o)
  on_header j all (Some fault) st = tt
  on_header j all None st = by (nat_lt (length all) (frag_of all))
    where
      by : (t : Bool) → After i b (cond t (holds j all) (behind j all, Frame j.place all))
      by true = λ is. absurd cc
      by false = st

  on_frame : (j : Intake) (all : List ℕ) → j.stage ≡ stage.Frames → After i b (frame_byte j all)
  on_frame j all st = by (nat_lt (length all) header_length)
    where
      by : (t : Bool) → After i b (cond t (holds j all) (frame_by j all (head_fault all)))
      by true = λ is. absurd cc
      by false = on_header j all (head_fault all) st

  on_body : (all : List ℕ) (t : Bool) → i.stage ≡ stage.Frames
      → After i b (cond t (record i { stage = stage.Shut }, Over (length_told i.body))
      (frame_byte (record i { body = counted 1 i.body }) all))
  on_body all true st = tt
  on_body all false st = on_frame (record i { body = counted 1 i.body }) all st

  on_passed : (t : Bool) → i.stage ≡ stage.PassedOver
      → After i b (cond t (record i { stage = stage.Shut }, Over (length_told i.body))
      (record i { body = counted 1 i.body }, Nothing))
  on_passed true st = tt
  on_passed false st = λ is. absurd cc

  by_stage : (s : Stage) → i.stage ≡ s → After i b (byte_by s i (i.held ++ b ∷ []))
  by_stage stage.Head st = on_head (is_whole_head (i.held ++ b ∷ [])) st refl
  by_stage stage.Greeting st =
      on_greeting (i.held ++ b ∷ []) (is_whole_greeting (i.held ++ b ∷ [])) st
  by_stage stage.Frames st = on_body (i.held ++ b ∷ []) (is_full i.body) st
  by_stage stage.PassedOver st = on_passed (is_full i.body) st
  by_stage stage.Shut st = λ is. absurd cc

  after_byte : After i b (on_byte i b)
  unfolding on_byte
  after_byte = by_stage i.stage refl

-- ---- the causes of frames

-- a cause of a piece, if it is one at all
abbrev IsOfFrame : Leg → (ℕ → Type 0) → Result Count Cause → Type 0
IsOfFrame leg Refuses (Ok next) = Unit {0}
IsOfFrame leg Refuses (Err why) = IsOfPiece leg Refuses why

module _ (at : Heading) (Refuses : ℕ → Type 0) where
  row_of : (next : Count) (r : Row) → IsOfFrame at.leg Refuses (row_by at next r)
  row_of next (Ok taken) = tt
  row_of next (Err refused.Unexpected) = refl
  row_of next (Err (refused.Cookie expected got)) = refl
  row_of next (Err (refused.Window window)) = refl
  row_of next (Err (refused.OutOfRange command value)) = refl
  row_of next (Err (refused.Full full)) = tt

  ping_of : (t : Bool)
      → IsOfFrame at.leg Refuses (cond t (Err (cause.Unexpected at.leg at.place)) (Ok at.count))
  ping_of true = refl
  ping_of false = tt

  unread_of : (fault : PacketFault) → IsOfPiece at.leg Refuses (cause_unread at.leg at.place fault)
  unread_of (unread.Rts fault) = refl
  unread_of (unread.Sig sig.Unknown) = refl
  unread_of (unread.Sig (sig.OutOfRange command value)) = refl

  module _ {S : Type 0} (rules : Rules S) (role : S) where
    named_of : (named : Named) (t : Bool)
        → IsOfFrame at.leg Refuses (cond {A = S × Result Count Cause} t (role, take_ping at)
        (close_row at (one_more at.count) (rules.packet role at.leg at.count named))).1
    named_of named true = ping_of (is_zero at.count && is_upward at.pipe)
    named_of named false = row_of (one_more at.count) (rules.packet role at.leg at.count named).1

    packet_by : (r : Result Named PacketFault)
        → IsOfFrame at.leg Refuses (take_packet rules at role r).1
    packet_by (Ok named) = named_of named (is_ping named)
    packet_by (Err fault) = unread_of fault

    by_type : (frame : List ℕ) (t : Bool)
        → IsOfFrame at.leg Refuses (cond {A = S × Result Count Cause} t
        (take_packet rules at role (packet_of frame at.pipe))
        (close_row at at.count (rules.pdu role at.leg at.count frame))).1
    by_type frame true = packet_by (packet_of frame at.pipe)
    by_type frame false = row_of at.count (rules.pdu role at.leg at.count frame).1

    frame_of : (frame : List ℕ) → IsOfFrame at.leg Refuses (take_frame rules at role frame).1
    unfolding take_frame
    frame_of frame = by_type frame (slice_index frame 2 == rts)

-- ---- why a node stops

-- the refusal is that of a request that broke a rule
pub record IsBadRequest (leg : Leg) (why : Cause) (refusal : Refusal) : Type 0 where
  pub place : ℕ
  pub fault : HttpFault
  pub cause : why ≡ cause.BadHead leg place fault
  pub answer : refusal ≡ refusal_of fault

-- a cause that what came on a leg may have, and a refusal only of a request for which it waits
pub record IsStop (leg : Leg) (Waits : Type 0) (Refuses : ℕ → Type 0) (stop : Stop)
    : Type 0 where
  pub cause : IsOfPiece leg Refuses stop.cause
  pub refusal : (r : Refusal) → stop.refusal ≡ Some r → Waits × IsBadRequest leg stop.cause r

-- what is no request is not refused
plain_stop : (leg : Leg) (Waits : Type 0) (Refuses : ℕ → Type 0) (why : Cause)
    → IsOfPiece leg Refuses why → IsStop leg Waits Refuses (stop why)
plain_stop leg Waits Refuses why is = record { cause = is; refusal = λ r e. absurd cc }

-- ---- what follows of another head follows of the cause

other_heads : (leg : Leg) (P Q : ℕ → Type 0) → ((status : ℕ) → P status → Q status)
    → (why : Cause) → IsOfPiece leg P why → IsOfPiece leg Q why
other_heads leg P Q so (cause.LegBroken l) h = absurd h
other_heads leg P Q so (cause.LegEnded l partial) h = absurd h
other_heads leg P Q so (cause.BadFrame l place fault) h = h
other_heads leg P Q so (cause.BadPacket l place fault) h = h
other_heads leg P Q so (cause.Unexpected l place) h = h
other_heads leg P Q so (cause.CookieMismatch l expected got) h = h
other_heads leg P Q so (cause.WindowExceeded l reached edge) h = h
other_heads leg P Q so (cause.OutOfRange l command value) h = h
other_heads leg P Q so (cause.HttpRefused l status) h = (h.0, so status h.1)
other_heads leg P Q so (cause.BadHead l place fault) h = h
other_heads leg P Q so (cause.Silent l since now) h = absurd h
other_heads leg P Q so (cause.ControlFull l) h = h
other_heads leg P Q so (cause.BodyOver l count length) h = h

other_stop : (leg : Leg) (W V : Type 0) (P Q : ℕ → Type 0) → (W → V)
    → ((status : ℕ) → P status → Q status) → (why : Stop) → IsStop leg W P why
    → IsStop leg V Q why
other_stop leg W V P Q waits so why h = record {
  cause = other_heads leg P Q so why.cause h.cause;
  refusal = λ r e. let bad = h.refusal r e in (waits bad.0, bad.1);
}

-- ---- bytes

module _ {S : Type 0} (rules : Rules S) (now : ℕ) where
  hear_stopped : (t : Turn S) (bs : List ℕ) → is_stopped t.stop ≡ true → hear rules now t bs ≡ t
  unfolding hear hear_byte
  hear_stopped t [] h = refl
  hear_stopped t (b ∷ bs) h = rw h (hear_stopped t bs h)

  pub hear_over : (end : NearEnd) (role : S) (bs : List ℕ) → is_over rules end role ≡ true
      → hear rules now (goes end role) bs ≡ goes end role
  unfolding hear hear_byte
  hear_over end role [] h = refl
  hear_over end role (b ∷ bs) h = rw h (hear_over end role bs h)

  pub hear_first : (end : NearEnd) (role : S) (b : ℕ) (bs : List ℕ) → is_over rules end role ≡ false
      → hear rules now (goes end role) (b ∷ bs)
      ≡ hear rules now (take_next rules (touched end now) role (on_byte end.intake b)) bs
  unfolding hear hear_byte
  hear_first end role b bs h = rw h refl

  -- where a turn stops, its cause is one of the piece
  abbrev Stops : Turn S → NearEnd → S → List ℕ → Type 0
  Stops t end role piece =
      (why : Stop) → t.stop ≡ Some why
      → IsStop end.leg (end.intake.stage ≡ stage.Head) (RefusesHead rules role end piece) why

  -- a turn that stopped hears no more
  stopped_with : (t : Turn S) (first : Stop) (bs : List ℕ) (P : Stop → Type 0)
      → t.stop ≡ Some first → P first → (why : Stop)
      → (hear rules now t bs).stop ≡ Some why → P why
  stopped_with t first bs P is holds why e =
      let one : is_stopped t.stop ≡ true = rw is refl in
      let all = hear_stopped t bs one in
      let two : Some first ≡ Some why = sym is ∙ sym (ap (λ (u : Turn S). u.stop) all) ∙ e in
      let same : first ≡ why = cc in
      subst P same holds

  -- the rest of a piece, once no head is unfinished
  rest_of : (e end : NearEnd) (r role : S) (b : ℕ) (bs : List ℕ) → e.leg ≡ end.leg
      → (e.intake.stage ≡ stage.Head → ⊥) → Stops (hear rules now (goes e r) bs) e r bs
      → Stops (hear rules now (goes e r) bs) end role (b ∷ bs)
  rest_of e end r role b bs leg past rest why is =
      other_stop end.leg (e.intake.stage ≡ stage.Head) (end.intake.stage ≡ stage.Head)
      (RefusesHead rules r e bs) (RefusesHead rules role end (b ∷ bs)) (λ h. absurd (past h))
      (λ status h. absurd (past h.stage)) why
      (subst (λ (l : Leg). IsStop l (e.intake.stage ≡ stage.Head) (RefusesHead rules r e bs) why)
      leg (rest why is))

  module _ (end : NearEnd) (role : S) (b : ℕ) (bs : List ℕ)
      (rest : (e : NearEnd) (r : S) → Stops (hear rules now (goes e r) bs) e r bs) where
    -- the end behind the byte, with this intake
    abbrev behind_byte : Intake → NearEnd
    behind_byte j = with_intake (touched end now) j

    -- nothing is whole: a head that the rest makes whole began before it
    nothing_stops : (j : Intake) → After end.intake b (j, Nothing)
        → Stops (hear rules now (goes (behind_byte j) role) bs) end role (b ∷ bs)
    nothing_stops j after why is =
        other_stop end.leg (j.stage ≡ stage.Head) (end.intake.stage ≡ stage.Head)
        (RefusesHead rules role (behind_byte j) bs) (RefusesHead rules role end (b ∷ bs))
        (λ h. (after h).0) so why (rest (behind_byte j) role why is)
      where
        so : (status : ℕ) → RefusesHead rules role (behind_byte j) bs status
            → RefusesHead rules role end (b ∷ bs) status
        so status h =
            let held = after h.stage in
            let same : j.held ++ h.front ≡ end.intake.held ++ (b ∷ h.front) =
            ap (λ (x : List ℕ). x ++ h.front) held.1
            ∙ append_assoc end.intake.held (b ∷ []) h.front in
            record {
              stage = held.0;
              front = b ∷ h.front;
              behind = h.behind;
              cut = ap (λ (x : List ℕ). b ∷ x) h.cut;
              whole = subst (λ (x : List ℕ). is_whole_head x ≡ true) same h.whole;
              refused =
                  subst (λ (x : List ℕ).
                  (rules.head role end.leg x).1 ≡ Err (head.Status status)) same h.refused;
            }

    stage_not : (behind : Behind) → stage_of behind ≡ stage.Head → ⊥
    stage_not passed.Frames h = absurd cc
    stage_not passed.PassedOver h = absurd cc

    refused_with : (text : List ℕ) (why : HeadRefused) → After end.intake b (end.intake, Head text)
        → (rules.head role end.leg text).1 ≡ Err why
        → IsStop end.leg (end.intake.stage ≡ stage.Head)
        (RefusesHead rules role end (b ∷ bs)) (stop_head end.leg (length text) why)
    refused_with text (head.Request fault) after is = record {
      cause = refl;
      refusal = λ r e. (
        after.0,
        record {
          place = length text;
          fault = fault;
          cause = refl;
          answer = cc;
        },
      );
    }
    refused_with text (head.Response fault) after is =
        plain_stop end.leg (end.intake.stage ≡ stage.Head)
        (RefusesHead rules role end (b ∷ bs)) _ refl
    refused_with text (head.Status status) after is =
        plain_stop end.leg (end.intake.stage ≡ stage.Head)
        (RefusesHead rules role end (b ∷ bs)) _ (
          refl,
          record {
            stage = after.0;
            front = b ∷ [];
            behind = bs;
            cut = refl;
            whole = subst (λ (x : List ℕ). is_whole_head x ≡ true) after.1 after.2;
            refused =
                subst (λ (x : List ℕ). (rules.head role end.leg x).1 ≡ Err (head.Status status))
                after.1 is;
          },
        )

    head_stops : (j : Intake) (text : List ℕ) (x : S × Result HeadTaken HeadRefused)
        → rules.head role end.leg text ≡ x → After end.intake b (end.intake, Head text)
        → Stops (hear rules now (behind_head (behind_byte j) (head_row end.leg (length text) x)) bs)
        end role (b ∷ bs)
    head_stops j text (r, Ok t) is after =
        let e = begun_body (behind_byte j) (stage_of t.behind) (Some t.length) in
        rest_of e end r role b bs refl (stage_not t.behind) (rest e r)
    head_stops j text (r, Err why) is after =
        stopped_with (stops (behind_byte j) r (stop_head end.leg (length text) why))
        (stop_head end.leg (length text) why) bs
        (IsStop end.leg (end.intake.stage ≡ stage.Head) (RefusesHead rules role end (b ∷ bs))) refl
        (refused_with text why after (ap (λ (y : S × Result HeadTaken HeadRefused). y.1) is))

    greeting_stops : (j : Intake) (t : Bool)
        → Stops (hear rules now
        (cond t (goes (begun_body (behind_byte j) stage.Frames None) role)
        (stops (behind_byte j) role (stop (cause.Unexpected end.leg 0)))) bs) end role (b ∷ bs)
    greeting_stops j true =
        let e = begun_body (behind_byte j) stage.Frames None in
        rest_of e end role role b bs refl (λ h. absurd cc) (rest e role)
    greeting_stops j false =
        stopped_with (stops (behind_byte j) role (stop (cause.Unexpected end.leg 0)))
        (stop (cause.Unexpected end.leg 0)) bs
        (IsStop end.leg (end.intake.stage ≡ stage.Head) (RefusesHead rules role end (b ∷ bs))) refl
        (plain_stop end.leg (end.intake.stage ≡ stage.Head)
        (RefusesHead rules role end (b ∷ bs)) _ refl)

    frame_stops : (j : Intake) (x : S × Result Count Cause) → j.stage ≡ stage.Frames
        → IsOfFrame end.leg (RefusesHead rules role end (b ∷ bs)) x.1
        → Stops (hear rules now (behind_frame (behind_byte j) x) bs) end role (b ∷ bs)
    frame_stops j (r, Ok next) st is =
        let e = record (behind_byte j) { count = next } in
        rest_of e end r role b bs refl (λ h. absurd cc) (rest e r)
    frame_stops j (r, Err why) st is =
        stopped_with (stops (behind_byte j) r (stop why)) (stop why) bs
        (IsStop end.leg (end.intake.stage ≡ stage.Head) (RefusesHead rules role end (b ∷ bs))) refl
        (plain_stop end.leg (end.intake.stage ≡ stage.Head)
        (RefusesHead rules role end (b ∷ bs)) why is)

    fault_stops : (j : Intake) (why : Cause)
        → IsOfPiece end.leg (RefusesHead rules role end (b ∷ bs)) why
        → Stops (hear rules now (stops (behind_byte j) role (stop why)) bs) end role (b ∷ bs)
    fault_stops j why is =
        stopped_with (stops (behind_byte j) role (stop why)) (stop why) bs
        (IsStop end.leg (end.intake.stage ≡ stage.Head) (RefusesHead rules role end (b ∷ bs))) refl
        (plain_stop end.leg (end.intake.stage ≡ stage.Head)
        (RefusesHead rules role end (b ∷ bs)) why is)

    came_stops : (j : Intake) (c : Came) → After end.intake b (j, c)
        → Stops (hear rules now (take rules (behind_byte j) role c) bs) end role (b ∷ bs)
    unfolding take
    came_stops j Nothing after = nothing_stops j after
    came_stops j (Head text) after =
        head_stops j text (rules.head role end.leg text) refl after
    came_stops j (Greeting text) after = greeting_stops j (is_greeting text)
    came_stops j (Frame place frame) after =
        frame_stops j (take_frame rules (heading (behind_byte j) place) role frame) after
        (frame_of (heading (behind_byte j) place) (RefusesHead rules role end (b ∷ bs)) rules role
        frame)
    came_stops j (Fault place fault) after =
        fault_stops j (cause.BadFrame end.leg place fault) refl
    came_stops j (Over told) after = fault_stops j (cause.BodyOver end.leg (told + 1) told) refl

  none_stops : (end : NearEnd) (role : S) → Stops (hear rules now (goes end role) []) end role []
  unfolding hear
  none_stops end role why is = absurd cc

  -- what is heard stops a node with a cause of the piece
  pub piece_stops : (end : NearEnd) (role : S) (piece : List ℕ)
      → Stops (hear rules now (goes end role) piece) end role piece
  piece_stops end role [] = none_stops end role
  piece_stops end role (b ∷ bs) =
      by (λ e r. piece_stops e r bs) (is_over rules end role) refl
    where
      by : ((e : NearEnd) (r : S) → Stops (hear rules now (goes e r) bs) e r bs)
          → (t : Bool) → is_over rules end role ≡ t
          → Stops (hear rules now (goes end role) (b ∷ bs)) end role (b ∷ bs)
      by rest true e = λ why is.
          let same = ap (λ (u : Turn S). u.stop) (hear_over end role (b ∷ bs) e) in
          let none : None ≡ Some why = sym same ∙ is in
          absurd cc
      by rest false e =
          subst (λ (u : Turn S). Stops u end role (b ∷ bs)) (sym (hear_first end role b bs e))
          (came_stops end role b bs rest (on_byte end.intake b).0 (on_byte end.intake b).1
          (after_byte end.intake b))

-- rules that only mark other legs make the same of each event that loses none of these
use Rattle.law_order.proofs.Vocabulary.{◌≡◌, ℕ, zero, suc, List, [], ◌∷◌, length, Bool, ◌&&◌, ◌||◌, ◌+◌, nat_le, nat_lt, Some, None, Ok, Err, refl, ap, ◌∙◌, if◌then◌else◌, slice_index, Option, Result, ◌==◌}
use Rattle.rh_line.specs.declared.cause.Cause.TheVariants as cause
use Rattle.rh_pdu.specs.declared.header.TheConstants.{PTYPE_AT}
use Rattle.rh_shell.specs.Intakes.{Over, on_byte}
use Rattle.rh_shell.specs.Shells.{is_unfinished, room, room_of, unfinished}
use Rattle.law_moves.proofs.Vocabulary.{Cookie, Named, rts, Leg, LegKind, Cause, Course, Going, Closed, Refusing, Count, PacketFault, Heading, heading, NearEnd, is_over, new_end, Drawn, drawn, draw, filled, left_by, next_byte, Came, Nothing, Head, Greeting, Frame, Fault, packet_of, Turn, behind_frame, goes, hear, hear_byte, is_stopped, take, take_frame, take_packet, close_row, touched, with_intake, Rules, Shell, bytes_at, bytes_by, drawn_at, drawn_by, end_at, ended_at, ended_by, broken_at, broken_by, first_silent, first_where, free_place, has_room, is_free}
use Rattle.law_moves.proofs.Vocabulary.{is_marked, is_quiet, is_working, lost, may_up, one_if, passed, passed_by, pinged, put_back, seated_at, silent_one, ticked, turned, unreached, up, wants, with_leg, Event, ComesUp, Hears, Ends, Breaks, Draws, Ticks, after_event, after_events}
use Rattle.law_node_marks.specs.Losing.{AgreeOn, AllAgree, marking}

module _ {S : Type 0} (rules : Rules S) (marks : S → Leg → Bool) where
  abbrev other : Rules S
  other = marking rules marks

  -- ---- bytes come

  packet_same : (at : Heading) (role : S) (x : Result Named PacketFault)
      → take_packet other at role x ≡ take_packet rules at role x
  packet_same at role (Ok named) = refl
  packet_same at role (Err fault) = refl

  frame_same : (at : Heading) (role : S) (frame : List ℕ)
      → take_frame other at role frame ≡ take_frame rules at role frame
  unfolding take_frame
  frame_same at role frame =
      ap (λ (x : S × Result Count Cause). if slice_index frame PTYPE_AT == rts then x
      else close_row at at.count (rules.pdu role at.leg at.count frame))
      (packet_same at role (packet_of frame at.pipe))

  take_same : (end : NearEnd) (role : S) (came : Came)
      → take other end role came ≡ take rules end role came
  unfolding take
  take_same end role Nothing = refl
  take_same end role (Head text) = refl
  take_same end role (Greeting text) = refl
  take_same end role (Frame place frame) =
      ap (behind_frame end) (frame_same (heading end place) role frame)
  take_same end role (Fault place fault) = refl
  take_same end role (Over length) = refl

  byte_same : (now : ℕ) (t : Turn S) (b : ℕ)
      → hear_byte other now t b ≡ hear_byte rules now t b
  unfolding hear_byte
  byte_same now t b =
      ap (λ (u : Turn S). if is_stopped t.stop || is_over rules t.end t.role then t else u)
      (take_same (with_intake (touched t.end now) (on_byte t.end.intake b).0) t.role
      (on_byte t.end.intake b).1)

  hear_same : (now : ℕ) (t : Turn S) (piece : List ℕ)
      → hear other now t piece ≡ hear rules now t piece
  unfolding hear
  hear_same now t [] = refl
  hear_same now t (b ∷ bs) =
      ap (λ (u : Turn S). hear other now u bs) (byte_same now t b)
      ∙ hear_same now (hear_byte rules now t b) bs

  -- ---- bytes are drawn

  next_same : (f : Drawn S) (bytes : List ℕ) (more less : NearEnd → S → Drawn S)
      → ((end : NearEnd) (role : S) → more end role ≡ less end role)
      → next_byte other f bytes more ≡ next_byte rules f bytes less
  next_same f [] more less same = refl
  next_same f (b ∷ []) more less same =
      ap (λ (d : Drawn S). drawn d.end d.role (b ∷ d.bytes))
      (same (left_by rules f.end f.role []).end (left_by rules f.end f.role []).role)
  next_same f (b ∷ c ∷ bytes) more less same =
      ap (λ (d : Drawn S). drawn d.end d.role (b ∷ d.bytes))
      (same (left_by rules f.end f.role (c ∷ bytes)).end
      (left_by rules f.end f.role (c ∷ bytes)).role)

  draw_same : (now count : ℕ) (end : NearEnd) (role : S)
      → draw other now count end role ≡ draw rules now count end role
  unfolding draw
  draw_same now zero end role = refl
  draw_same now (suc n) end role =
      let f = filled rules now end role in
      next_same f f.end.begun (draw other now n) (draw rules now n) (draw_same now n)

  -- ---- a leg comes up

  unfinished_same : (role : S) (kind : LegKind) (ends : List NearEnd)
      → unfinished other role kind ends ≡ unfinished rules role kind ends
  unfinished_same role kind [] = refl
  unfinished_same role kind (end ∷ ends) =
      ap (λ (n : ℕ). one_if (is_unfinished rules role kind end) + n)
      (unfinished_same role kind ends)

  free_same : (role : S) (kind : LegKind) (ends : List NearEnd)
      → free_place other role kind ends ≡ free_place rules role kind ends
  unfolding first_where
  free_same role kind [] = refl
  free_same role kind (end ∷ ends) =
      ap (λ (n : ℕ). if is_free rules role kind end then 0 else 1 + n) (free_same role kind ends)

  room_same : (s : Shell S) (kind : LegKind) → has_room other s kind ≡ has_room rules s kind
  room_same s kind =
      ap (λ (n : ℕ). nat_lt n (room_of s.rooms kind)
      && (nat_lt (free_place other s.role kind s.legs) (length s.legs)
      || nat_lt (length s.legs) (room s.rooms)))
      (unfinished_same s.role kind s.legs)
      ∙ ap (λ (n : ℕ). nat_lt (unfinished rules s.role kind s.legs) (room_of s.rooms kind)
      && (nat_lt n (length s.legs) || nat_lt (length s.legs) (room s.rooms)))
      (free_same s.role kind s.legs)

  may_same : (s : Shell S) (leg : Leg) → may_up other s leg ≡ may_up rules s leg
  may_same s leg =
      ap (λ (b : Bool). is_working rules s && (b && rules.may_up s.role leg))
      (room_same s leg.kind)

  wants_same : (s : Shell S) (leg : Leg) → wants other s leg ≡ wants rules s leg
  wants_same s leg =
      ap (λ (b : Bool). is_working rules s && (b && rules.wants s.role leg))
      (room_same s leg.kind)

  with_same : (s : Shell S) (leg : Leg) (cookie : Cookie)
      → with_leg other s leg cookie ≡ with_leg rules s leg cookie
  with_same s leg cookie =
      ap (λ (n : ℕ). record s {
        role = rules.up s.role leg cookie;
        legs = seated_at s.legs n (new_end leg (rules.pipe s.role leg) s.now);
      }) (free_same s.role leg.kind s.legs)

  up_same : (s : Shell S) (leg : Leg) (cookie : Cookie)
      → up other s leg cookie ≡ up rules s leg cookie
  up_same s leg cookie =
      ap (λ (b : Bool). if b then with_leg other s leg cookie else s) (may_same s leg)
      ∙ ap (λ (t : Shell S). if may_up rules s leg then t else s) (with_same s leg cookie)

  -- ---- time passes

  silent_same : (role : S) (now : ℕ) (ends : List NearEnd) (first : Option (Leg × ℕ))
      → first_silent other role now ends first ≡ first_silent rules role now ends first
  silent_same role now [] first = refl
  silent_same role now (end ∷ ends) first =
      silent_same role now ends (silent_one rules role now end first)

  pinged_same : (now : ℕ) (ends : List NearEnd) (role : S)
      → pinged other now ends role ≡ pinged rules now ends role
  pinged_same now [] role = refl
  pinged_same now (end ∷ ends) role =
      pinged_same now ends
      (if is_quiet rules role now end then rules.ping role end.leg else role)

  passed_same : (s : Shell S) → passed other s ≡ passed rules s
  passed_same s =
      ap (passed_by other s) (silent_same s.role s.now s.legs None)
      ∙ by (first_silent rules s.role s.now s.legs None)
    where
      by : (o : Option (Leg × ℕ)) → passed_by other s o ≡ passed_by rules s o
      by (Some silent) = refl
      by None = ap (λ (role : S). record s { role = role }) (pinged_same s.now s.legs s.role)

  ticked_same : (s : Shell S) (now : ℕ) → ticked other s now ≡ ticked rules s now
  ticked_same s now =
      ap (λ (t : Shell S). if is_working rules s && nat_le s.now now then t else s)
      (passed_same (record s { now = now }))

  -- ---- a leg is lost

  lose_same : (s : Shell S) (leg : Leg) (end : NearEnd) (why : Cause)
      → marks s.role leg ≡ rules.only_marks s.role leg
      → lost other s leg end why ≡ lost rules s leg end why
  lose_same s leg end why same =
      ap (λ (b : Bool). lost (record rules { only_marks = λ role k. b }) s leg end why) same

  -- ---- events

  pub event_same : (s : Shell S) (event : Event) → AgreeOn rules marks s.role event
      → after_event other s event ≡ after_event rules s event
  event_same s (ComesUp leg cookie) agree = up_same s leg cookie
  event_same s (Hears leg piece) agree = by s.course
    where
      on : (o : Option NearEnd) → bytes_at other s leg piece o ≡ bytes_at rules s leg piece o
      on None = refl
      on (Some end) = ap (turned s leg) (hear_same s.now (goes end s.role) piece)

      by : (c : Course) → bytes_by other s leg piece c ≡ bytes_by rules s leg piece c
      by Going = on (end_at s leg)
      by (Closed why) = refl
      by (Refusing why client rest) = refl
  event_same s (Ends leg) agree = by s.course
    where
      on : (o : Option NearEnd) → ended_at other s leg o ≡ ended_at rules s leg o
      on None = refl
      on (Some end) = lose_same s leg end (cause.LegEnded leg (length end.intake.held)) agree

      by : (c : Course) → ended_by other s leg c ≡ ended_by rules s leg c
      by Going = on (end_at s leg)
      by (Closed why) = refl
      by (Refusing why client rest) = refl
  event_same s (Breaks leg) agree = by s.course
    where
      on : (o : Option NearEnd) → broken_at other s leg o ≡ broken_at rules s leg o
      on None =
          ap (λ (b : Bool). if b then unreached rules s leg else s) (wants_same s leg)
      on (Some end) = lose_same s leg end (cause.LegBroken leg) agree

      by : (c : Course) → broken_by other s leg c ≡ broken_by rules s leg c
      by Going = on (end_at s leg)
      by (Closed why) = refl
      by (Refusing why client rest) = refl
  event_same s (Draws leg count) agree = ap (λ (x : Shell S × List ℕ). x.0) (by s.course)
    where
      on : (o : Option NearEnd) → drawn_at other s leg count o ≡ drawn_at rules s leg count o
      on None = refl
      on (Some end) =
          ap (λ (d : Drawn S). if is_marked end.standing then (s, []) else put_back s leg d)
          (draw_same s.now count end s.role)

      by : (c : Course) → drawn_by other s leg count c ≡ drawn_by rules s leg count c
      by Going = on (end_at s leg)
      by (Closed why) = refl
      by (Refusing why client rest) = refl
  event_same s (Ticks now) agree = ticked_same s now

  pub events_same : (node : Shell S) (events : List Event) → AllAgree rules marks node events
      → after_events other node events ≡ after_events rules node events
  events_same node [] agree = refl
  events_same node (event ∷ events) agree =
      ap (λ (s : Shell S). after_events other s events) (event_same node event agree.0)
      ∙ events_same (after_event rules node event) events agree.1

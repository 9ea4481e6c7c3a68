-- what a role's rules keep is kept where bytes come, and where they are drawn
use Rattle.law_order.proofs.Vocabulary.{◌≡◌, ◌==◌, ◌||◌, ℕ, zero, suc, List, [], ◌∷◌, length, Ok, Err, refl, slice_index, Result}
use Rattle.rh_pdu.specs.declared.header.TheConstants.{PTYPE_AT}
use Rattle.rh_shell.specs.Hearing.{head_row, is_ping, one_more, take_ping}
use Rattle.rh_shell.specs.Intakes.{Over, on_byte}
use Rattle.law_moves.proofs.Vocabulary.{by_test, Named, rts, Leg, Cause, Count, HeadRefused, HeadTaken, PacketFault, Heading, heading, NearEnd, is_over, Drawn, draw, filled, left_by, next_byte, Came, Nothing, Head, Greeting, Frame, Fault, packet_of, Turn, behind_frame, behind_head, hear, hear_byte, is_greeting, is_stopped, take, take_frame, take_packet, close_row, touched, with_intake, Rules}

-- ---- bytes come

module _ {S : Type 0} (rules : Rules S) (P : S → Type 0)
    (head : (s : S) (leg : Leg) (text : List ℕ) → P s → P (rules.head s leg text).0)
    (pdu : (s : S) (leg : Leg) (count : Count) (bytes : List ℕ) → P s
    → P (rules.pdu s leg count bytes).0)
    (packet : (s : S) (leg : Leg) (count : Count) (m : Named) → P s
    → P (rules.packet s leg count m).0) where
  named_keeps : (at : Heading) (role : S) (x : Result Named PacketFault) → P role
      → P (take_packet rules at role x).0
  named_keeps at role (Ok named) h =
      by_test (λ (x : S × Result Count Cause). P x.0) (is_ping named) (role, take_ping at)
      (close_row at (one_more at.count) (rules.packet role at.leg at.count named)) (λ e. h)
      (λ e. packet role at.leg at.count named h)
  named_keeps at role (Err fault) h = h

  frame_keeps : (at : Heading) (role : S) (frame : List ℕ) → P role
      → P (take_frame rules at role frame).0
  unfolding take_frame
  frame_keeps at role frame h =
      by_test (λ (x : S × Result Count Cause). P x.0) (slice_index frame PTYPE_AT == rts)
      (take_packet rules at role (packet_of frame at.pipe))
      (close_row at at.count (rules.pdu role at.leg at.count frame))
      (λ e. named_keeps at role (packet_of frame at.pipe) h)
      (λ e. pdu role at.leg at.count frame h)

  behind_keeps : (end : NearEnd) (x : S × Result Count Cause) → P x.0
      → P (behind_frame end x).role
  behind_keeps end (role, Ok next) h = h
  behind_keeps end (role, Err why) h = h

  head_keeps : (end : NearEnd) (place : ℕ) (x : S × Result HeadTaken HeadRefused) → P x.0
      → P (behind_head end (head_row end.leg place x)).role
  head_keeps end place (role, Ok taken) h = h
  head_keeps end place (role, Err why) h = h

  take_keeps : (end : NearEnd) (role : S) (came : Came) → P role
      → P (take rules end role came).role
  unfolding take
  take_keeps end role Nothing h = h
  take_keeps end role (Head text) h =
      head_keeps end (length text) (rules.head role end.leg text) (head role end.leg text h)
  take_keeps end role (Greeting text) h =
      by_test (λ (t : Turn S). P t.role) (is_greeting text) _ _ (λ e. h) (λ e. h)
  take_keeps end role (Frame place frame) h =
      behind_keeps end (take_frame rules (heading end place) role frame)
      (frame_keeps (heading end place) role frame h)
  take_keeps end role (Fault place fault) h = h
  take_keeps end role (Over length) h = h

  byte_keeps : (now : ℕ) (t : Turn S) (b : ℕ) → P t.role → P (hear_byte rules now t b).role
  unfolding hear_byte
  byte_keeps now t b h =
      by_test (λ (u : Turn S). P u.role) (is_stopped t.stop || is_over rules t.end t.role) t
      (take rules (with_intake (touched t.end now) (on_byte t.end.intake b).0) t.role
      (on_byte t.end.intake b).1)
      (λ e. h)
      (λ e. take_keeps (with_intake (touched t.end now) (on_byte t.end.intake b).0) t.role
      (on_byte t.end.intake b).1 h)

  pub hear_keeps : (now : ℕ) (t : Turn S) (piece : List ℕ) → P t.role
      → P (hear rules now t piece).role
  unfolding hear
  hear_keeps now t [] h = h
  hear_keeps now t (b ∷ bs) h =
      hear_keeps now (hear_byte rules now t b) bs (byte_keeps now t b h)

-- ---- bytes are drawn

module _ {S : Type 0} (rules : Rules S) (P : NearEnd → S → Type 0)
    (fills : (now : ℕ) (end : NearEnd) (role : S) → P end role
    → P (filled rules now end role).end (filled rules now end role).role)
    (goes_on : (end : NearEnd) (role : S) (b : ℕ) (bs : List ℕ) → end.begun ≡ b ∷ bs
    → P end role → P (left_by rules end role bs).end (left_by rules end role bs).role) where
  pub draw_keeps : (now n : ℕ) (end : NearEnd) (role : S) → P end role
      → P (draw rules now n end role).end (draw rules now n end role).role
  unfolding draw
  draw_keeps now zero end role h = h
  draw_keeps now (suc n) end role h =
      by (filled rules now end role) (fills now end role h) (filled rules now end role).end.begun
      refl (draw_keeps now n)
    where
      by : (f : Drawn S) → P f.end f.role → (bytes : List ℕ) → f.end.begun ≡ bytes
          → ((e : NearEnd) (r : S) → P e r
          → P (draw rules now n e r).end (draw rules now n e r).role)
          → P (next_byte rules f bytes (draw rules now n)).end
          (next_byte rules f bytes (draw rules now n)).role
      by f k [] e more = k
      by f k (b ∷ bs) e more =
          more (left_by rules f.end f.role bs).end (left_by rules f.end f.role bs).role
          (goes_on f.end f.role b bs e k)

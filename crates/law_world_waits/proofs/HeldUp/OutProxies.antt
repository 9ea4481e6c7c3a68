-- an out proxy that puts nothing on a leg
use Rattle.law_order.proofs.Vocabulary.{◌≡◌, ℕ, ◌&&◌, List, [], ◌∷◌, Bool, true, if◌then◌else◌, length, Some, None, Option, refl, sym, ap, ◌∙◌}
use Rattle.rh_window.specs.declared.recv_window.Ack.{Ack}
use Rattle.rh_line.specs.Lines.{is_empty}
use Rattle.rh_outproxy.specs.Acknowledging.{ack_due}
use Rattle.rh_outproxy.specs.OutProxy.{OutProxy, is_due}
use Rattle.rh_outproxy.specs.Putting.{Pick, ack_by, next_co, next_os, or_else, pdu_by, put, put_ack, put_answer, put_end, put_first, put_handover, put_mark, put_pdu, put_ping, put_waiting, waiting_by}
use Rattle.rh_outproxy.specs.Rows.{is_co, is_os}
use Rattle.law_moves.proofs.Vocabulary.{Cookie, Due, may_send, Leg, LegKind, ClientOut, OutServer, ClientIn, InServer}
use Rattle.law_world_waits.proofs.HeldUp.Picks.{neither, none_if}
use Rattle.law_world_waits.specs.HeldUp.{AcksNoneOut, HoldsUpOut, IsBehindEdge}

parts : (a b : Pick) → or_else a b ≡ None → (a ≡ None) × (b ≡ None)
parts = neither or_else (λ later. refl) (λ one later. refl)

module _ (s : OutProxy) where
  -- ---- towards the client

  none_waits : (dues : List Due) → waiting_by s dues ≡ None → dues ≡ []
  none_waits [] none = refl
  none_waits (due ∷ dues) none = absurd cc

  none_passed : (pdus : List (List ℕ)) → pdu_by s pdus ≡ None → IsBehindEdge s.window pdus
  none_passed [] none = tt
  none_passed (pdu ∷ pdus) none = none_if (may_send s.window (length pdu)) _ none

  none_next : next_co s ≡ None → HoldsUpOut s
  none_next none =
      let pdus = or_else (put_pdu s) (or_else (put_mark s) (put_ping s)) in
      let all = parts (put_answer s) (or_else (put_waiting s) pdus) none in
      let behind = parts (put_waiting s) pdus all.1 in
      let stream = parts (put_pdu s) (or_else (put_mark s) (put_ping s)) behind.1 in
      let marks = parts (put_end s) (put_handover s)
      (parts (put_mark s) (put_ping s) stream.1).0 in
      record {
        waiting = none_waits s.waiting.due behind.0;
        pdu = none_passed s.line.current.pdus stream.0;
        end = none_if (is_empty s.line.current.pdus && is_due s.end) _ marks.0;
        handover = none_if (is_empty s.line.current.pdus && is_due s.handover) _ marks.1;
      }

  pub out_held_up : (leg : Leg) → is_co s leg ≡ true → put s leg ≡ None → HoldsUpOut s
  out_held_up leg here none =
      none_next (sym (ap (λ (t : Bool). if t then next_co s
      else (if is_os s leg then next_os s else None)) here) ∙ none)

  -- ---- towards the server

  none_acked : (cookie : Cookie) (ack : Option Ack) → ack_by s (Some cookie) ack ≡ None
      → ack ≡ None
  none_acked cookie None none = refl
  none_acked cookie (Some ack) none = absurd cc

  on_server_leg : (kind : LegKind) (n : ℕ) → is_os s (record { kind = kind; number = n }) ≡ true
      → put s (record { kind = kind; number = n }) ≡ None → next_os s ≡ None
  on_server_leg ClientOut n here none = absurd cc
  on_server_leg ClientIn n here none = absurd cc
  on_server_leg InServer n here none = absurd cc
  on_server_leg OutServer n here none =
      sym (ap (λ (t : Bool). if t then next_os s else None) here) ∙ none

  pub out_acks_none : (leg : Leg) → is_os s leg ≡ true → put s leg ≡ None → AcksNoneOut s
  out_acks_none leg here none cookie is =
      none_acked cookie (ack_due s)
      (sym (ap (λ (o : Option Cookie). ack_by s o (ack_due s)) is)
      ∙ (parts (put_first s) (put_ack s) (on_server_leg leg.kind leg.number here none)).1)

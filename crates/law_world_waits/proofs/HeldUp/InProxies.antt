-- an in proxy that puts nothing on its leg to the server
use Rattle.law_order.proofs.Vocabulary.{◌≡◌, ℕ, ◌==◌, ◌&&◌, not, List, [], ◌∷◌, Bool, true, if◌then◌else◌, length, Some, None, Option, refl, sym, ap, ◌∙◌}
use Rattle.rh_window.specs.declared.recv_window.Ack.{Ack}
use Rattle.rh_line.specs.Lines.{is_empty}
use Rattle.rh_inproxy.specs.Acknowledging as acks
use Rattle.rh_inproxy.specs.Answers.{Pick, or_else}
use Rattle.rh_inproxy.specs.Acknowledging.{current_ack, next_ack, put_acks}
use Rattle.rh_inproxy.specs.Ending.{put_end, settled_pick}
use Rattle.rh_inproxy.specs.InReplacement.{is_last_empty, mark_by, put_in_r1_a6, put_in_r2_a2}
use Rattle.rh_inproxy.specs.Opening.{put_first}
use Rattle.rh_inproxy.specs.Passing.{next_pdu, put_pdu}
use Rattle.rh_inproxy.specs.Putting.{next, put, put_behind, put_control, put_early, put_mark, put_stream, put_waiting, waiting_by}
use Rattle.rh_inproxy.specs.State.{InProxy, is_server_leg}
use Rattle.rh_inproxy.specs.Time.{put_ping}
use Rattle.rh_inproxy.specs.declared.state.Handover.TheVariants.{Came}
use Rattle.law_moves.proofs.Vocabulary.{Cookie, Due, may_send, Leg, LegKind, ClientOut, OutServer, ClientIn, InServer, Current}
use Rattle.law_world_waits.proofs.HeldUp.Picks.{neither, none_if, unsettled}
use Rattle.law_world_waits.specs.HeldUp.{HoldsUpIn, IsBehindEdge}

parts : (a b : Pick) → or_else a b ≡ None → (a ≡ None) × (b ≡ None)
parts = neither or_else (λ later. refl) (λ one later. refl)

picked : (pick : Pick) → settled_pick pick ≡ None → pick ≡ None
picked = unsettled settled_pick _ (λ one. refl)

module _ (s : InProxy) where
  none_waits : (dues : List Due) → waiting_by s dues ≡ None → dues ≡ []
  none_waits [] none = refl
  none_waits (due ∷ dues) none = absurd cc

  none_acked : (cookie : Cookie) (ack : Option Ack) → acks.ack_by s Current cookie ack ≡ None
      → ack ≡ None
  none_acked cookie None none = refl
  none_acked cookie (Some ack) none = absurd cc

  none_passed : (pdus : List (List ℕ)) → next_pdu s pdus ≡ None → IsBehindEdge s.window pdus
  none_passed [] none = tt
  none_passed (pdu ∷ pdus) none = none_if (may_send s.window (length pdu)) _ none

  none_marked : put_in_r1_a6 s ≡ None → (cookie : Cookie) → is_last_empty s ≡ true
      → s.handover ≡ Came cookie → ⊥
  none_marked none cookie last came =
      let goes = sym (ap (λ (t : Bool). if t then mark_by s s.handover else None) last
      ∙ ap (mark_by s) came) ∙ none in
      absurd cc

  none_next : next s ≡ None → HoldsUpIn s
  none_next none =
      let all = parts (put_control s) (put_stream s) none in
      let control = parts (put_early s) (put_acks s) all.0 in
      let first = parts (put_first s) (or_else (put_in_r2_a2 s) (put_waiting s)) control.0 in
      let stream = parts (put_pdu s) (put_behind s) all.1 in
      let behind = parts (put_mark s) (put_ping s) stream.1 in
      let marks = parts (put_end s) (put_in_r1_a6 s) behind.0 in
      record {
        waiting = none_waits s.waiting.due (parts (put_in_r2_a2 s) (put_waiting s) first.1).1;
        ack =
            none_acked s.current.cookie (acks.ack_due s Current)
            (parts (current_ack s) (next_ack s s.successor) control.1).0;
        pdu = none_passed s.line.current.pdus stream.0;
        end = none_if (s.line.current.ended && not s.end_put && is_empty s.line.current.pdus) _
            marks.0;
        handover = none_marked marks.1;
      }

  on_server_leg : (kind : LegKind) (n : ℕ)
      → is_server_leg s (record { kind = kind; number = n }) ≡ true
      → put s (record { kind = kind; number = n }) ≡ None → next s ≡ None
  on_server_leg ClientOut n here none = absurd cc
  on_server_leg OutServer n here none = absurd cc
  on_server_leg ClientIn n here none = absurd cc
  on_server_leg InServer n here none =
      picked (next s)
      (sym (ap (λ (t : Bool). if t then settled_pick (next s) else None) here) ∙ none)

  pub in_held_up : (leg : Leg) → is_server_leg s leg ≡ true → put s leg ≡ None → HoldsUpIn s
  in_held_up leg here none = none_next (on_server_leg leg.kind leg.number here none)

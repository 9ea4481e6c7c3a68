-- a server that puts nothing on a leg
use Rattle.law_order.proofs.Vocabulary.{◌≡◌, ℕ, Bool, true, false, if◌then◌else◌, find, IfSome, Some, None, Option, refl, sym, ap, ◌∙◌, slice_get}
use Rattle.rh_window.specs.declared.recv_window.Ack.{Ack}
use Rattle.rh_server.specs.OutLegs.{may_go}
use Rattle.rh_server.specs.OutLines.{lets}
use Rattle.rh_server.specs.Putting.{Pick, ack_due, gate, gate_at, may_go_at, next_out, or_else, pdu_by, put_ack, put_ack_by, put_b1, put_in, put_in_by, put_in_greeting, put_out, put_out_at, put_tells, settled_pick, waiting_at, waiting_by}
use Rattle.rh_server.specs.States.{Server, in_leg, is_open, out_place}
use Rattle.rh_server.specs.declared.state.InLeg.{InLeg}
use Rattle.rh_server.specs.declared.state.OutLeg.{OutLeg}
use Rattle.law_moves.proofs.Vocabulary.{Due, Waiting, front_length, taken}
use Rattle.law_world_waits.proofs.HeldUp.Picks.{neither, none_if, unsettled}
use Rattle.law_world_waits.specs.HeldUp.{AcksNone, HoldsUpServer}

parts : (a b : Pick) → or_else a b ≡ None → (a ≡ None) × (b ≡ None)
parts = neither or_else (λ later. refl) (λ one later. refl)

picked : (pick : Pick) → settled_pick pick ≡ None → pick ≡ None
picked = unsettled settled_pick _ (λ one. refl)

module _ (s : Server) where
  -- ---- on an os leg

  none_waits : (place : ℕ) (waiting : Waiting) (due : Option Due)
      → waiting_by s place (waiting, due) ≡ None → due ≡ None
  none_waits place waiting None none = refl
  none_waits place waiting (Some due) none = absurd cc

  module _ (place : ℕ) (leg : OutLeg) (at : slice_get s.outs place ≡ Some leg) where
    none_given : (front : Option ℕ) → pdu_by s place front ≡ None
        → IfSome front (λ len. may_go leg s.writing len ≡ false)
    none_given None none = tt
    none_given (Some len) none =
        sym (ap (may_go_at s len) at)
        ∙ none_if (may_go_at s len (slice_get s.outs place)) _ none

    none_next : next_out s place ≡ None → HoldsUpServer s leg
    none_next none =
        let all = parts _ _ none in
        record {
          waiting =
              none_waits place (taken (lets (gate s leg)) s.waiting).0
              (find (lets (gate s leg)) s.waiting.due)
              (sym (ap (λ (o : Option OutLeg). waiting_at s place (gate_at s o)) at) ∙ all.0);
          pdu = none_given (front_length s.queue) (parts _ _ all.1).0;
        }

    pub server_held_up : (number : ℕ) → out_place number s.outs ≡ Some place
        → is_open s.stage ≡ true → put_out s number ≡ None → HoldsUpServer s leg
    server_held_up number is goes none =
        let here = parts _ _ (sym (ap (put_out_at s) is) ∙ none) in
        none_next (picked (next_out s place)
        (sym (ap (λ (t : Bool). if t then settled_pick (next_out s place) else None) goes)
        ∙ here.1))

  -- ---- on an is leg

  none_acked : (ack : Option Ack) → put_ack_by s ack ≡ None → ack ≡ None
  none_acked None none = refl
  none_acked (Some ack) none = absurd cc

  pub server_acks_none : (number : ℕ) (leg : InLeg) → in_leg number s.ins ≡ Some leg
      → put_in s number ≡ None → AcksNone s leg
  server_acks_none number leg at none =
      let greeted = parts (put_in_greeting s leg)
      (or_else (put_tells s leg) (or_else (put_b1 s leg) (put_ack s leg)))
      (sym (ap (put_in_by s) at) ∙ none) in
      let told = parts (put_tells s leg) (or_else (put_b1 s leg) (put_ack s leg)) greeted.1 in
      none_acked (ack_due s leg) (parts (put_b1 s leg) (put_ack s leg) told.1).1

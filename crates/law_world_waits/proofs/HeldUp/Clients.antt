-- a client that puts nothing on its writing channel
use Rattle.law_order.proofs.Vocabulary.{◌≡◌, ℕ, Bool, false, if◌then◌else◌, IfSome, Some, None, Option, refl, sym, ap, ◌∙◌, eq-eqb}
use Rattle.rh_window.specs.declared.recv_window.Ack.{Ack}
use Rattle.rh_client.specs.Acknowledging.{ack_due}
use Rattle.rh_client.specs.Putting as puts
use Rattle.rh_client.specs.Putting.{Pick, ack_by, lets_pdu, or_else, pdu_by, settled_pick}
unfoldable use Rattle.rh_client.specs.Putting.{put_ack, put_ack_of, put_by, put_in, put_in_successor, put_next, put_pdu, put_writing}
use Rattle.rh_client.specs.State.{ci, is_in_successor}
use Rattle.rh_client.specs.declared.channels.Opening.TheVariants.{Put}
use Rattle.rh_client.specs.declared.state.ClientRole.{ClientRole}
use Rattle.law_moves.proofs.Vocabulary.{ACK_TO_LEN, may_put, ClientIn, Which, Current, Next, front_length}
use Rattle.law_world_waits.proofs.HeldUp.Picks.{neither, none_if, unsettled}
use Rattle.law_world_waits.specs.HeldUp.{HoldsUpClient}

parts : (a b : Pick) → or_else a b ≡ None → (a ≡ None) × (b ≡ None)
parts = neither or_else (λ later. refl) (λ one later. refl)

picked : (pick : Pick) → settled_pick pick ≡ None → pick ≡ None
picked = unsettled settled_pick _ (λ one. refl)

module _ (s : ClientRole) where
  none_acked : (which : Which) (ack : Option Ack) → ack_by s which ack ≡ None
      → IfSome ack (λ told. may_put s.writing.meter ACK_TO_LEN ≡ false)
  none_acked which None none = tt
  none_acked which (Some ack) none = none_if (may_put s.writing.meter ACK_TO_LEN) _ none

  ack_of : (which : Which) → put_ack_of s which ≡ None
      → IfSome (ack_due s which) (λ told. may_put s.writing.meter ACK_TO_LEN ≡ false)
  unfolding put_ack_of
  ack_of which none = none_acked which (ack_due s which) none

  acks : put_ack s ≡ None → (put_ack_of s Current ≡ None) × (put_ack_of s Next ≡ None)
  unfolding put_ack
  acks none = parts (put_ack_of s Current) (put_ack_of s Next) none

  none_given : (front : Option ℕ) → pdu_by s front ≡ None
      → IfSome front (λ len. lets_pdu s len ≡ false)
  none_given None none = tt
  none_given (Some len) none = none_if (lets_pdu s len) _ none

  pdu_of : put_pdu s ≡ None → IfSome (front_length s.queue) (λ len. lets_pdu s len ≡ false)
  unfolding put_pdu
  pdu_of none = none_given (front_length s.queue) none

  none_next : put_next s ≡ None → HoldsUpClient s
  unfolding put_next
  none_next none =
      let all = parts _ _ none in
      let behind = parts _ _ all.1 in
      let both = acks behind.0 in
      record {
        due = all.0;
        current_ack = ack_of Current both.0;
        next_ack = ack_of Next both.1;
        pdu = pdu_of (parts _ _ behind.1).0;
      }

  on_writing : s.writing.opening ≡ Put → put_writing s s.writing.opening ≡ None
      → put_next s ≡ None
  unfolding put_writing
  on_writing is none = sym (ap (put_writing s) is) ∙ none

  on_leg : put_in s s.writing.number ≡ None → put_writing s s.writing.opening ≡ None
  unfolding put_in
  on_leg none =
      let n = s.writing.number in
      sym (ap (λ (t : Bool). if t then put_writing s s.writing.opening
      else (if is_in_successor s n then put_in_successor s s.in_successor.opening else None))
      (eq-eqb n n refl)) ∙ none

  on_kind : put_by s s.writing.number ClientIn ≡ None → put_in s s.writing.number ≡ None
  unfolding put_by
  on_kind none = none

  pub client_held_up : s.writing.opening ≡ Put → puts.put s (ci s.writing.number) ≡ None
      → HoldsUpClient s
  client_held_up is none =
      none_next (on_writing is (on_leg (on_kind
      (picked (put_by s s.writing.number ClientIn) none))))

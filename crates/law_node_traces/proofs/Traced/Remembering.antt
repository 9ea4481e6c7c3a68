-- each role knows which legs were up
use Rattle.law_order.proofs.Vocabulary.{◌≡◌, ℕ, List, [], true, ◌&&◌, refl, false≢true, and_parts}
use Rattle.rh_inproxy.specs.State.{InProxy}
use Rattle.rh_inproxy.specs.Opening as ins
use Rattle.rh_outproxy.specs.OutProxy.{OutProxy, is_client_down}
use Rattle.rh_outproxy.specs.Rows.{is_co}
use Rattle.rh_outproxy.specs.Opening as outs
use Rattle.rh_client.specs.declared.state.ClientRole.{ClientRole}
use Rattle.rh_client.specs.Opening.{wants_by}
use Rattle.rh_client.specs.Client as client
use Rattle.law_moves.proofs.Vocabulary.{Cookie, Leg, LegKind, ClientOut, OutServer, ClientIn, InServer, Rules, Acts, Shell, has_room, is_working, may_up, EndEvent, after_event, after_events, after_end_events}
use Rattle.law_moves.specs.Moving as moving
use Rattle.law_node_history.proofs.Lemmas.{or_left, once_remembered, once_remembered_at_end}
use Rattle.law_node_history.proofs.Vocabulary.{ComesUpOnce, ComesUpOnceAtEnd, is_of_client}
use Rattle.law_node_causes.specs.Once.{WasUp}

module _ {S : Type 0} (rules : Rules S) (first : Shell S)
    (wanted : (role : S) (leg : Leg) → rules.wants role leg ≡ true
    → rules.may_up role leg ≡ true) where
  -- what each role's law says of its legs
  pub comes_up_once :
      ((events : List moving.Event) (leg : Leg) (cookie : Cookie)
      → may_up rules (after_events rules first events) leg ≡ true
      → WasUp rules (after_event rules (after_events rules first events)
      (moving.ComesUp leg cookie)) leg)
      → ((events later : List moving.Event) (leg : Leg)
      → rules.was_up (after_events rules first events).role leg ≡ true
      → WasUp rules (after_events rules (after_events rules first events) later) leg)
      → ComesUpOnce rules first
  comes_up_once comes once = once_remembered rules first (record {
    comes = λ events leg cookie may. (comes events leg cookie may).was_up;
    stays = λ events later leg was. (once events later leg was).was_up;
    once = λ events leg was. (once events [] leg was).not_again;
    wanted = wanted;
  })

  pub comes_up_once_at_end : (acts : Acts S)
      → ((events : List EndEvent) (leg : Leg) (cookie : Cookie)
      → may_up rules (after_end_events rules acts first events) leg ≡ true
      → WasUp rules (after_event rules (after_end_events rules acts first events)
      (moving.ComesUp leg cookie)) leg)
      → ((events later : List EndEvent) (leg : Leg)
      → rules.was_up (after_end_events rules acts first events).role leg ≡ true
      → WasUp rules (after_end_events rules acts (after_end_events rules acts first events) later)
      leg)
      → ComesUpOnceAtEnd rules acts first
  comes_up_once_at_end acts comes once = once_remembered_at_end rules acts first (record {
    comes = λ events leg cookie may. (comes events leg cookie may).was_up;
    stays = λ events later leg was. (once events later leg was).was_up;
    once = λ events leg was. (once events [] leg was).not_again;
    wanted = wanted;
  })

-- ---- a leg that is asked for may come up

pub in_wanted : (s : InProxy) (leg : Leg) → ins.wants s leg ≡ true → ins.may_up s leg ≡ true
in_wanted s leg e = or_left (ins.wants s leg) (ins.may_accept s leg) e

pub out_wanted : (s : OutProxy) (leg : Leg) → outs.wants s leg ≡ true → outs.may_up s leg ≡ true
out_wanted s leg e = or_left (outs.wants s leg) (is_co s leg && is_client_down s.client) e

-- ---- only its own legs come up at the client

own_kind : (s : ClientRole) (n : ℕ) (kind : LegKind) → wants_by s n kind ≡ true
    → is_of_client kind ≡ true
own_kind s n ClientOut e = refl
own_kind s n OutServer e = absurd (false≢true e)
own_kind s n ClientIn e = refl
own_kind s n InServer e = absurd (false≢true e)

pub own_leg : (s : Shell ClientRole) (leg : Leg) → may_up client.rules s leg ≡ true
    → is_of_client leg.kind ≡ true
own_leg s leg e =
    let room = and_parts (is_working client.rules s)
    (has_room client.rules s leg.kind && client.rules.may_up s.role leg) e in
    let may = and_parts (has_room client.rules s leg.kind) (client.rules.may_up s.role leg)
    room.1 in
    own_kind s.role leg.number leg.kind may.1

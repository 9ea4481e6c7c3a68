-- a leg comes up once, where a role's law says so
use Rattle.law_order.proofs.Vocabulary.{◌≡◌, List, [], true}
use Rattle.law_moves.proofs.Vocabulary.{Cookie, Leg, Rules, Acts, Shell, may_up, EndEvent, after_event, after_events, after_end_events}
use Rattle.law_moves.specs.Moving as moving
use Rattle.law_node_history.proofs.Lemmas.{once_remembered, once_remembered_at_end}
use Rattle.law_node_history.proofs.Vocabulary.{ComesUpOnce, ComesUpOnceAtEnd}
use Rattle.law_node_causes.specs.Once.{WasUp}

module _ {S : Type 0} (rules : Rules S) (first : Shell S)
    (wanted : (role : S) (leg : Leg) → rules.wants role leg ≡ true
    → rules.may_up role leg ≡ true) where
  pub node_once :
      ((events : List moving.Event) (leg : Leg) (cookie : Cookie)
      → may_up rules (after_events rules first events) leg ≡ true
      → WasUp rules (after_event rules (after_events rules first events)
      (moving.ComesUp leg cookie)) leg)
      → ((events later : List moving.Event) (leg : Leg)
      → rules.was_up (after_events rules first events).role leg ≡ true
      → WasUp rules (after_events rules (after_events rules first events) later) leg)
      → ComesUpOnce rules first
  node_once comes once = once_remembered rules first (record {
    comes = λ events leg cookie may. (comes events leg cookie may).was_up;
    stays = λ events later leg was. (once events later leg was).was_up;
    once = λ events leg was. (once events [] leg was).not_again;
    wanted = wanted;
  })

  pub end_once : (acts : Acts S)
      → ((events : List EndEvent) (leg : Leg) (cookie : Cookie)
      → may_up rules (after_end_events rules acts first events) leg ≡ true
      → WasUp rules (after_event rules (after_end_events rules acts first events)
      (moving.ComesUp leg cookie)) leg)
      → ((events later : List EndEvent) (leg : Leg)
      → rules.was_up (after_end_events rules acts first events).role leg ≡ true
      → WasUp rules (after_end_events rules acts (after_end_events rules acts first events) later)
      leg)
      → ComesUpOnceAtEnd rules acts first
  end_once acts comes once = once_remembered_at_end rules acts first (record {
    comes = λ events leg cookie may. (comes events leg cookie may).was_up;
    stays = λ events later leg was. (once events later leg was).was_up;
    once = λ events leg was. (once events [] leg was).not_again;
    wanted = wanted;
  })

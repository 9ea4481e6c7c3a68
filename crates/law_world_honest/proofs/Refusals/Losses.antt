-- a proxy whose client is refused was told that its server is lost
use Rattle.law_order.proofs.Vocabulary.{arith, ◌≡◌, ℕ, List, refl, sym, ap, subst, Some}
use Rattle.rh_inproxy.specs.Machine as in_proxy
use Rattle.rh_inproxy.specs.State as in_state
use Rattle.rh_outproxy.specs.Machine as out_proxy
use Rattle.law_moves.proofs.Vocabulary.{CoD, Leg, LegKind, ClientIn, ClientOut, InServer, OutServer, Course, begun, Move, Passage, started, all_moved, AreAllowed, Event, after_events, of_leg, Begins, AreInTurn}
use Rattle.law_role_inproxy.proofs.Vocabulary.{InProxyConfig}
use Rattle.law_node_history.proofs.Vocabulary.{leg_at, drawn_on}
use Rattle.law_node_causes.specs.Refusals.{MayRefuseOn}
use Rattle.law_role_outproxy.proofs.Vocabulary.{ROOMS, OutProxyConfig, OutProxy, new_proxy, IsConfig}
use Rattle.law_node_streams.specs.Streams.{Stream}
use Rattle.law_node_begins.specs.ProxiesBegin.Pipes.{in_pipe, out_pipe}
use Rattle.law_node_traces.proofs.Vocabulary.{DrawsRightly}
use Rattle.law_world_order.proofs.FirstTexts.InTexts.{echoes_alone}
use Rattle.law_world_order.proofs.FirstTexts.OutTexts.{puts_200}
use Rattle.law_world_honest.proofs.Refusals.Fronts.{Traced}
use Rattle.law_world_honest.proofs.Refusals.Lost.{PutsNone, lost_503}
use Rattle.law_world_honest.proofs.Refusals.Refusals.{echo_success, put_none}
use Rattle.law_world_honest.specs.Refusals.Refused.{DrewRefusal, IsUnreached}

-- the legs that a proxy of this number refuses on
own_legs : (client server : LegKind) (number n : ℕ) → number ≡ n → (c : Course)
    → MayRefuseOn (leg_at client number) (leg_at server number) c
    → MayRefuseOn (leg_at client n) (leg_at server n) c
own_legs client server number n is c =
    subst (λ (k : ℕ). MayRefuseOn (leg_at client k) (leg_at server k) c) is

-- ---- OUT channels

module _ (begins : (config : OutProxyConfig) (moves : List Move)
    → AreAllowed out_proxy.rules (started (new_proxy config)) moves
    → AreInTurn out_proxy.rules (new_proxy config) moves
    → Begins (Some CoD) (of_leg (leg_at ClientOut config.number)
    (all_moved out_proxy.rules (started (new_proxy config)) moves).put))
    (config : OutProxyConfig) (range : IsConfig config) (n : ℕ) (number : config.number ≡ n) where
  out_none : (some : List Event)
      (s : Stream out_proxy.rules (new_proxy config) ROOMS (out_pipe config) some)
      → PutsNone out_proxy.rules (new_proxy config) ROOMS (out_pipe config) (leg_at ClientOut n)
      503 some s
  out_none some s =
      put_none config range (leg_at ClientOut n) refl 503
      (of_leg (leg_at ClientOut n) s.passage.put)
      (puts_200 config s.passage (leg_at ClientOut n) s.leads)
      (subst (λ (k : ℕ). Begins (Some CoD) (of_leg (leg_at ClientOut k) s.passage.put)) number
      (subst (λ (p : Passage OutProxy).
      Begins (Some CoD) (of_leg (leg_at ClientOut config.number) p.put)) s.leads.reached
      (begins config s.leads.moves s.leads.allowed s.in_turn)))

  pub out_lost_503 : (events : List Event)
      → Traced out_proxy.rules (new_proxy config) ROOMS (out_pipe config) events
      → DrawsRightly out_proxy.rules (begun (new_proxy config) ROOMS) (leg_at OutServer n)
      (leg_at ClientOut n) events
      → ((some : List Event)
      → MayRefuseOn (leg_at ClientOut config.number) (leg_at OutServer config.number)
      (after_events out_proxy.rules (begun (new_proxy config) ROOMS) some).course)
      → DrewRefusal (drawn_on out_proxy.rules (begun (new_proxy config) ROOMS)
      (leg_at ClientOut n) events) 503
      → IsUnreached (leg_at OutServer n) events
  out_lost_503 events law rightly reasons drew =
      (lost_503 out_proxy.rules (new_proxy config) ROOMS (out_pipe config) (leg_at ClientOut n)
      events law (leg_at ClientOut n) (leg_at OutServer n)
      (λ some. own_legs ClientOut OutServer config.number n number
      (after_events out_proxy.rules (begun (new_proxy config) ROOMS) some).course (reasons some))
      out_none rightly drew).1

-- ---- IN channels

in_none : (config : InProxyConfig) (n : ℕ) (some : List Event)
    (s : Stream in_proxy.rules (in_state.first config) in_proxy.rooms (in_pipe config) some)
    → PutsNone in_proxy.rules (in_state.first config) in_proxy.rooms (in_pipe config)
    (leg_at ClientIn n) 503 some s
in_none config n some s b =
    let bad : 503 ≡ 200 =
    echo_success (of_leg (leg_at ClientIn n) s.passage.put) (leg_at ClientIn n) 503
    (echoes_alone config (leg_at ClientIn n) refl s.passage s.leads) b in
    absurd (omega (arith, bad))

-- the channel is the one of its own number
pub in_lost_503 : (config : InProxyConfig) (n k : ℕ) → config.number ≡ k → (events : List Event)
    → Traced in_proxy.rules (in_state.first config) in_proxy.rooms (in_pipe config) events
    → DrawsRightly in_proxy.rules (in_proxy.first_node config) (leg_at InServer k)
    (leg_at ClientIn n) events
    → ((some : List Event)
    → MayRefuseOn (leg_at ClientIn config.number) (leg_at InServer config.number)
    (after_events in_proxy.rules (in_proxy.first_node config) some).course)
    → DrewRefusal (drawn_on in_proxy.rules (in_proxy.first_node config) (leg_at ClientIn n)
    events) 503
    → (n ≡ k) × IsUnreached (leg_at InServer k) events
in_lost_503 config n k number events law rightly reasons drew =
    let own =
    lost_503 in_proxy.rules (in_state.first config) in_proxy.rooms (in_pipe config)
    (leg_at ClientIn n) events law (leg_at ClientIn k) (leg_at InServer k)
    (λ some. own_legs ClientIn InServer config.number k number
    (after_events in_proxy.rules (in_proxy.first_node config) some).course (reasons some))
    (in_none config n) rightly drew in
    (ap (λ (leg : Leg). leg.number) own.0, own.1)

-- so the proxy that reads the channel is the one of its number
pub its_own : (n k : ℕ) (ins : ℕ → List Event)
    → (n ≡ k) × IsUnreached (leg_at InServer k) (ins k)
    → (k ≡ n) × IsUnreached (leg_at InServer n) (ins n)
its_own n k ins own = (
  sym own.0,
  subst (λ (j : ℕ). IsUnreached (leg_at InServer j) (ins j)) (sym own.0) own.1,
)

-- the proxies of a world of roles at a moment that lines reach
use Rattle.law_order.proofs.Vocabulary.{◌≡◌, ℕ, List, ap, ◌∙◌, subst, Option}
use Rattle.rh_inproxy.specs.Machine as in_proxy
use Rattle.rh_inproxy.specs.State as in_state
use Rattle.rh_outproxy.specs.Machine as out_proxy
use Rattle.law_moves.proofs.Vocabulary.{Pipe, Leg, Rooms, Rules, Shell, begun, Event}
use Rattle.law_role_inproxy.proofs.Vocabulary.{InProxy}
use Rattle.law_role_client.proofs.Vocabulary.{ClientRole}
use Rattle.law_role_server.proofs.Vocabulary.{Server}
use Rattle.law_node_history.proofs.Vocabulary.{Makers, World, AreAccepted, ComesUpOnce, LegsComeUpOnce, Leads, IsNew}
use Rattle.law_node_history.proofs.Lemmas.{cast_kept}
use Rattle.law_role_outproxy.proofs.Vocabulary.{ROOMS, OutProxy, new_proxy}
use Rattle.law_node_streams.specs.Streams.{HasPipes, HearsInTurn, StaysUnused}
use Rattle.law_node_begins.specs.ProxiesBegin.Pipes.{in_pipe, out_pipe}
use Rattle.law_node_traces.proofs.Vocabulary.{ByChanges, AreOurs, deeds, rules, IsKnown, history_at}
use Rattle.law_world_order.proofs.Flowing.{NodeStreams, ProxyStreaming}
use Rattle.law_world_honest.proofs.Refusals.Fronts.{Traced}

-- ---- proxies

pub record ProxyLaws (K : Type 0) : Type 0 where
  pub streams : ProxyStreaming
  pub known : (m : Makers K InProxy OutProxy) (w v : World K ClientRole Server InProxy OutProxy)
      → IsNew w → AreOurs m w.company w.cast → (leads : Leads rules m deeds w v)
      → IsKnown m w v leads
  pub once : (m : Makers K InProxy OutProxy) (w : World K ClientRole Server InProxy OutProxy)
      → AreOurs m w.company w.cast → LegsComeUpOnce rules m deeds w.company w.cast

-- a node that was made so, and is told to be made so
traced : {S : Type 0} (rules : Rules S) (first : S) (rooms : Rooms) (pipe : Leg → Option Pipe)
    (events : List Event) (made now : Shell S) → made ≡ begun first rooms
    → now ≡ begun first rooms → NodeStreams rules → HasPipes rules first pipe
    → StaysUnused rules first → ComesUpOnce rules made → AreAccepted rules now events
    → HearsInTurn events → Traced rules first rooms pipe events
traced {S} rules first rooms pipe events made now made_is now_is streams pipes unused once accepted
    turns = record {
      streams = streams;
      pipes = pipes;
      unused = unused;
      once = subst (λ (s : Shell S). ComesUpOnce rules s) made_is once;
      accepted = subst (λ (s : Shell S). AreAccepted rules s events) now_is accepted;
      turns = turns;
    }

module _ {K : Type 0} (law : ProxyLaws K) (m : Makers K InProxy OutProxy)
    (w : World K ClientRole Server InProxy OutProxy) (new : IsNew w)
    (ours : AreOurs m w.company w.cast) (v : World K ClientRole Server InProxy OutProxy)
    (by : ByChanges rules m deeds w v) where
  known : IsKnown m w v by.leads
  known = law.known m w v new ours by.leads

  cast_is : v.cast ≡ w.cast
  cast_is = cast_kept rules m deeds w v by.leads

  pub in_traced : (n : ℕ)
      → Traced in_proxy.rules (in_state.first (ours.in_config n)) in_proxy.rooms
      (in_pipe (ours.in_config n)) ((history_at m w v by.leads).ins n)
  in_traced n =
      let config = ours.in_config n in
      traced in_proxy.rules (in_state.first config) in_proxy.rooms (in_pipe config)
      ((history_at m w v by.leads).ins n) (m.in_proxy w.cast n) (m.in_proxy v.cast n) (ours.ins n)
      (ap (λ (c : K). m.in_proxy c n) cast_is ∙ ours.ins n) law.streams.ins
      (law.streams.in_pipes config) (law.streams.in_unused config) ((law.once m w ours).ins n)
      (known.traced.accepted.ins n) (known.in_turn.ins n)

  pub out_traced : (n : ℕ)
      → Traced out_proxy.rules (new_proxy (ours.out_config n)) ROOMS
      (out_pipe (ours.out_config n)) ((history_at m w v by.leads).outs n)
  out_traced n =
      let config = ours.out_config n in
      traced out_proxy.rules (new_proxy config) ROOMS (out_pipe config)
      ((history_at m w v by.leads).outs n) (m.out_proxy w.cast n) (m.out_proxy v.cast n)
      (ours.outs n) (ap (λ (c : K). m.out_proxy c n) cast_is ∙ ours.outs n) law.streams.outs
      (law.streams.out_pipes config) (law.streams.out_unused config)
      ((law.once m w ours).outs n) (known.traced.accepted.outs n) (known.in_turn.outs n)

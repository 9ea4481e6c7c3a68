-- at each moment of a run the streams of the nodes are joined by what the legs carried
use Rattle.law_order.proofs.Vocabulary.{◌≡◌, List, [], ◌∷◌, refl, subst, AllByRecursion, IsPrefix}
use Rattle.law_moves.proofs.Vocabulary.{Dir, Side, Leg, ComesUp, Event, Hears, Ends, Breaks, Draws, Ticks}
use Rattle.law_role_inproxy.proofs.Vocabulary.{InProxy}
use Rattle.law_role_client.proofs.Vocabulary.{ClientRole}
use Rattle.law_role_server.proofs.Vocabulary.{Server}
use Rattle.law_node_history.proofs.Vocabulary.{Who, receiver, sender, Makers, World, IsTraced, LegsComeUpOnce, drawn_by, end_node, events_of, happened, heard_on, Leads, History, IsNew, all_noted, nothing}
use Rattle.law_node_history.proofs.Lemmas.{traced_first}
use Rattle.law_role_outproxy.proofs.Vocabulary.{OutProxy}
use Rattle.law_node_streams.specs.Streams.{ComesUpWith, IsCookie}
use Rattle.law_node_traces.proofs.Traced.Along.{kept_along}
use Rattle.law_node_traces.proofs.Vocabulary.{ByChanges, ComeUpInOrder, HasWholeCookie, HaveWholeCookies, AreOurs, deeds, rules, IsKnown}
use Rattle.law_world_order.proofs.Legs.{Reads}
use Rattle.law_world_order.proofs.Flowing.{Streaming}
use Rattle.law_world_order.proofs.Starting.{Beginning, starts}
use Rattle.law_world_order.proofs.Legal.{Legalities, all_legible}
use Rattle.law_world_order.proofs.Reaching.{Apart, IsSized, Keeps, Tracing, flows_here, keeps_first, one_more}
use Rattle.law_world_order.proofs.Routing.{goes_down, goes_up}
use Rattle.law_world_order.proofs.Pasts.Legal.{have_cookies}
use Rattle.law_world_order.proofs.Vocabulary.{Directions, AllLegible, AreBegun, Flows, IsFlowing, numbers_of, AreInRange}

-- ---- the laws that this stands on

abbrev pub OurWorld : Type 0 → Type 0
OurWorld K = World K ClientRole Server InProxy OutProxy

pub record Known (K : Type 0) : Type 0 where
  pub known : (m : Makers K InProxy OutProxy) (w v : OurWorld K) → IsNew w
      → AreOurs m w.company w.cast → (leads : Leads rules m deeds w v) → IsKnown m w v leads
  pub once : (m : Makers K InProxy OutProxy) (w : OurWorld K) → AreOurs m w.company w.cast
      → LegsComeUpOnce rules m deeds w.company w.cast
  pub order : (m : Makers K InProxy OutProxy) (w v : OurWorld K) → IsNew w
      → LegsComeUpOnce rules m deeds w.company w.cast → (by : ByChanges rules m deeds w v)
      → ComeUpInOrder v (all_noted rules m deeds w nothing by.leads.changes)

abbrev pub Drew : Type 0 → Type 0
Drew K =
    (m : Makers K InProxy OutProxy) (w v : OurWorld K) (h : History)
    → IsTraced rules m deeds w.company v h → (leg : Leg) (dir : Dir)
    → IsPrefix (heard_on leg (events_of h (end_node v.readers leg (receiver dir))))
    (drawn_by rules m deeds w.company v.cast h (end_node v.readers leg (sender dir)) leg)

-- ---- cookies

pub sized : (events : List Event) → HaveWholeCookies events
    → AllByRecursion (ComesUpWith IsCookie) events
sized [] all = tt
sized (event ∷ events) all = (one event all.0, sized events all.1)
  where
    one : (event : Event) → HasWholeCookie event → ComesUpWith IsCookie event
    one (ComesUp leg cookie) is = is
    one (Hears leg piece) is = tt
    one (Ends leg) is = tt
    one (Breaks leg) is = tt
    one (Draws leg room) is = tt
    one (Ticks now) is = tt

-- ---- each moment of a run

module _ {K : Type 0} (reads : Reads) (streaming : Streaming) (begins : Beginning)
    (legal : Legalities) (tracing : Tracing K) (known : Known K)
    (m : Makers K InProxy OutProxy) (w : OurWorld K) (new : IsNew w)
    (ours : AreOurs m w.company w.cast) (ranges : AreInRange (numbers_of ours)) (v : OurWorld K)
    (by : ByChanges rules m deeds w v) where
  here : IsKnown m w v by.leads
  here = known.known m w v new ours by.leads

  order : ComeUpInOrder v (all_noted rules m deeds w nothing by.leads.changes)
  order = known.order m w v new (known.once m w ours) by

  keeps : Keeps m w.company w.cast ours v
      (all_noted rules m deeds w nothing by.leads.changes)
  keeps =
      kept_along rules m deeds w.company (Keeps m w.company w.cast ours)
      (λ x h traced once kept change may.
      one_more m w.company w.cast ours reads streaming begins legal tracing ranges x h traced once
      kept change may) w v nothing by.leads (known.once m w ours)
      (traced_first rules m deeds w new) (keeps_first m w.company w.cast ours w refl)

  abbrev node_streams : Flows (numbers_of ours)
      (all_noted rules m deeds w nothing by.leads.changes)
  node_streams =
      flows_here m w.company w.cast ours reads streaming begins legal tracing ranges v
      (all_noted rules m deeds w nothing by.leads.changes) here.traced here.once keeps

  is_sized : IsSized (all_noted rules m deeds w nothing by.leads.changes)
  is_sized =
      sized (happened (all_noted rules m deeds w nothing by.leads.changes).client) order.cookies

  legible : AllLegible (numbers_of ours)
      (all_noted rules m deeds w nothing by.leads.changes) node_streams
  legible =
      all_legible legal (numbers_of ours) (all_noted rules m deeds w nothing by.leads.changes)
      node_streams ranges
      (have_cookies node_streams.client.leads.moves (node_streams.client.cookies is_sized)) refl
      (keeps.fine is_sized node_streams)

  begun : AreBegun (numbers_of ours) (all_noted rules m deeds w nothing by.leads.changes)
      node_streams
  begun =
      starts streaming begins m w.company w.cast ours
      (all_noted rules m deeds w nothing by.leads.changes) node_streams

  pub flowing : IsFlowing (numbers_of ours) w v
      (all_noted rules m deeds w nothing by.leads.changes)
  flowing = record { cast = keeps.same; flows = node_streams; begun = begun; legible = legible }

-- ---- and both directions

module _ {K : Type 0} (apart : Apart K) (drawn : Drew K) (known : Known K)
    (m : Makers K InProxy OutProxy) (w : OurWorld K) (new : IsNew w)
    (ours : AreOurs m w.company w.cast) (v : OurWorld K) (by : ByChanges rules m deeds w v)
    (flowing : IsFlowing (numbers_of ours) w v
    (all_noted rules m deeds w nothing by.leads.changes)) where
  known_here : IsKnown m w v by.leads
  known_here = known.known m w v new ours by.leads

  in_order : ComeUpInOrder v (all_noted rules m deeds w nothing by.leads.changes)
  in_order = known.order m w v new (known.once m w ours) by

  drew : (leg : Leg) (dir : Dir)
      → IsPrefix (heard_on leg (events_of (all_noted rules m deeds w nothing by.leads.changes)
      (end_node v.readers leg (receiver dir))))
      (drawn_by rules m deeds w.company w.cast
      (all_noted rules m deeds w nothing by.leads.changes)
      (end_node v.readers leg (sender dir)) leg)
  drew leg dir =
      let h = all_noted rules m deeds w nothing by.leads.changes in
      subst (λ (c : K). IsPrefix (heard_on leg (events_of h
      (end_node v.readers leg (receiver dir))))
      (drawn_by rules m deeds w.company c h (end_node v.readers leg (sender dir)) leg)) flowing.cast
      (drawn m w v h known_here.traced leg dir)

  alone : (node : Who) (leg : Leg) → ((end : Side) → end_node v.readers leg end ≡ node → ⊥)
      → heard_on leg (events_of (all_noted rules m deeds w nothing by.leads.changes) node) ≡ []
  alone node leg away =
      (apart m w.company v (all_noted rules m deeds w nothing by.leads.changes) known_here.traced
      node leg away).1

  pub directions : Directions (numbers_of ours) v
      (all_noted rules m deeds w nothing by.leads.changes)
  directions =
      let h = all_noted rules m deeds w nothing by.leads.changes in
      record {
        down = goes_down m w.company w.cast ours v h drew alone in_order flowing.flows
            flowing.begun flowing.legible;
        up = goes_up m w.company w.cast ours v h drew alone in_order flowing.flows flowing.begun
            flowing.legible;
      }

-- behind all changes from a new world, what came to the nodes is fine
use Rattle.law_order.proofs.Vocabulary.{◌≡◌, List, [], ◌∷◌, ◌++◌, refl, ◌∙◌, subst, AllByRecursion, IsPrefix}
use Rattle.rh_inproxy.specs.Machine as in_proxy
use Rattle.law_moves.proofs.Vocabulary.{Dir, Side, Leg, EndEvent, Event, Happens, IsGiven, IsTaken, IsClosed, IsRecycled, Hears, of_leg, IsFineMessage}
use Rattle.law_role_inproxy.proofs.Vocabulary.{InProxy}
use Rattle.law_role_client.proofs.Vocabulary.{ClientRole}
use Rattle.law_role_server.proofs.Vocabulary.{Server}
use Rattle.law_node_history.proofs.Vocabulary.{Who, receiver, sender, Company, Place, Makers, World, AllAccepted, IsTraced, LegsComeUpOnce, drawn_by, end_node, events_of, happened, heard_on, Change, MayChange, changed, History, IsRun, noted, nothing}
use Rattle.law_node_history.proofs.Lemmas.{cast_stays, change_is_traced, same_itself}
use Rattle.law_role_outproxy.proofs.Vocabulary.{OutProxy}
use Rattle.law_node_streams.specs.Streams.{ComesUpWith, IsCookie}
use Rattle.law_node_begins.specs.ProxiesBegin.Pipes.{in_pipe}
use Rattle.law_node_traces.proofs.Vocabulary.{AreOurs, deeds, rules, HearInTurn}
use Rattle.law_peers_routes.specs.Downwards as down
use Rattle.law_world_order.proofs.Legs.{Reads, of_legs}
use Rattle.law_world_order.proofs.Fine.{from_nothing}
use Rattle.law_world_order.proofs.Heard.{heard_fine}
use Rattle.law_world_order.proofs.Flowing.{Streaming, flows}
use Rattle.law_world_order.proofs.Starting.{Beginning, starts}
use Rattle.law_world_order.proofs.Legal.{Legalities, all_legible}
use Rattle.law_world_order.proofs.Pasts.Legal.{have_cookies}
use Rattle.law_world_order.proofs.Vocabulary.{AllFine, Flows, numbers_of, AreInRange}

-- ---- cookies

-- the legs of the client came up with whole cookies
abbrev pub IsSized : History → Type 0
IsSized h = AllByRecursion (ComesUpWith IsCookie) (happened h.client)

happened_front : (P : Event → Type 0) (es fs : List EndEvent)
    → AllByRecursion P (happened (es ++ fs)) → AllByRecursion P (happened es)
happened_front P [] fs all = tt
happened_front P (Happens e ∷ es) fs all = (all.0, happened_front P es fs all.1)
happened_front P (IsGiven pdu ∷ es) fs all = happened_front P es fs all
happened_front P (IsTaken ∷ es) fs all = happened_front P es fs all
happened_front P (IsClosed ∷ es) fs all = happened_front P es fs all
happened_front P (IsRecycled ∷ es) fs all = happened_front P es fs all

-- ---- the laws of worlds that this stands on

abbrev OurWorld : Type 0 → Type 0
OurWorld K = World K ClientRole Server InProxy OutProxy

-- nothing was drawn or heard on a leg away from its ends
abbrev pub Apart : Type 0 → Type 0
Apart K =
    (m : Makers K InProxy OutProxy) (first : Company ClientRole Server InProxy OutProxy)
    (w : OurWorld K) (h : History) → IsTraced rules m deeds first w h → (node : Who) (leg : Leg)
    → ((end : Side) → end_node w.readers leg end ≡ node → ⊥)
    → (drawn_by rules m deeds first w.cast h node leg ≡ [])
    × (heard_on leg (events_of h node) ≡ [])

pub record Tracing (K : Type 0) : Type 0 where
  pub turns : (m : Makers K InProxy OutProxy)
      (first : Company ClientRole Server InProxy OutProxy) (w : OurWorld K) (h : History)
      → IsTraced rules m deeds first w h → HearInTurn h → (change : Change)
      → MayChange rules w change → HearInTurn (noted w h change)
  pub before : (m : Makers K InProxy OutProxy)
      (first : Company ClientRole Server InProxy OutProxy) (w : OurWorld K) (h : History)
      → IsTraced rules m deeds first w h → LegsComeUpOnce rules m deeds first w.cast
      → (change : Change) → MayChange rules w change → (leg : Leg) (dir : Dir)
      → IsPrefix (heard_on leg (events_of (noted w h change)
      (end_node (changed rules m deeds w change).readers leg (receiver dir))))
      (drawn_by rules m deeds first w.cast h (end_node w.readers leg (sender dir)) leg)
  pub alone : Apart K

-- ---- nothing came where nothing happened

module _ {K : Type 0} (m : Makers K InProxy OutProxy)
    (first : Company ClientRole Server InProxy OutProxy) (cast : K)
    (ours : AreOurs m first cast) where
  nothing_came : (f : Flows (numbers_of ours) nothing) → AllFine (numbers_of ours) nothing f
  nothing_came f = record {
    client = of_legs IsFineMessage same_itself f.client.passage.passage.came
        (λ leg. from_nothing (down.client_reads leg)
        (of_leg leg f.client.passage.passage.came) [] refl
        (f.client.read leg));
    server = of_legs IsFineMessage same_itself f.server.passage.passage.came
        (λ leg. from_nothing (down.server_reads leg)
        (of_leg leg f.server.passage.passage.came) [] refl
        (f.server.read leg));
    ins = λ n. of_legs IsFineMessage same_itself (f.ins n).passage.came
        (λ leg. from_nothing (in_pipe (ours.in_config n) leg)
        (of_leg leg (f.ins n).passage.came) [] refl ((f.ins n).read leg));
    outs = λ n. of_legs IsFineMessage same_itself (f.outs n).passage.came
        (λ leg. from_nothing (down.proxy_reads (ours.out_config n) leg)
        (of_leg leg (f.outs n).passage.came) [] refl ((f.outs n).read leg));
  }

  -- what is kept along changes
  pub record Keeps (w : OurWorld K) (h : History) : Type 0 where
    pub same : w.cast ≡ cast
    pub turns : HearInTurn h
    pub fine : IsSized h → (f : Flows (numbers_of ours) h) → AllFine (numbers_of ours) h f

  none_in_turn : HearInTurn nothing
  none_in_turn = record {
    client = λ before behind leg piece e. never (Hears leg piece) before behind e;
    server = λ before behind leg piece e. never (Hears leg piece) before behind e;
    ins = λ n before behind leg piece e. never (Hears leg piece) before behind e;
    outs = λ n before behind leg piece e. never (Hears leg piece) before behind e;
  }
    where
      never : {X : Type 0} {P : Type 0} (x : X) (before behind : List X)
          → [] ≡ before ++ x ∷ behind → P
      never x [] behind e = absurd (cc)
      never x (y ∷ before) behind e = absurd (cc)

  pub keeps_first : (w : OurWorld K) → w.cast ≡ cast → Keeps w nothing
  keeps_first w same = record {
    same = same;
    turns = none_in_turn;
    fine = λ sized f. nothing_came f;
  }

  module _ (reads : Reads) (streaming : Streaming) (begins : Beginning) (legal : Legalities)
      (tracing : Tracing K) (ranges : AreInRange (numbers_of ours)) where
    pub once_here : (w : OurWorld K) → w.cast ≡ cast → LegsComeUpOnce rules m deeds first w.cast
        → LegsComeUpOnce rules m deeds first cast
    once_here w same once = subst (λ (c : K). LegsComeUpOnce rules m deeds first c) same once

    -- there is no in proxy 0
    pub none_there : (w : OurWorld K) (h : History) → IsTraced rules m deeds first w h
        → h.ins 0 ≡ []
    none_there w h traced =
        subst (λ (place : Place InProxy).
        IsRun in_proxy.rules (m.in_proxy w.cast 0) (h.ins 0) place) traced.zero (traced.runs.ins 0)

    abbrev pub flows_here : (w : OurWorld K) (h : History) → IsTraced rules m deeds first w h
        → LegsComeUpOnce rules m deeds first w.cast → Keeps w h → Flows (numbers_of ours) h
    flows_here w h traced once keeps =
        flows streaming m first cast h ours (once_here w keeps.same once)
        (subst (λ (c : K). AllAccepted rules m deeds first c h) keeps.same traced.accepted)
        keeps.turns (none_there w h traced)

    pub one_more : (w : OurWorld K) (h : History) → IsTraced rules m deeds first w h
        → LegsComeUpOnce rules m deeds first w.cast → Keeps w h → (change : Change)
        → MayChange rules w change
        → Keeps (changed rules m deeds w change) (noted w h change)
    one_more w h traced once keeps change may = record {
      same = cast_stays rules m deeds w change ∙ keeps.same;
      turns = tracing.turns m first w h traced keeps.turns change may;
      fine = λ sized g.
          let v = changed rules m deeds w change in
          let f = flows_here w h traced once keeps in
          let is_sized : IsSized h =
          happened_front (ComesUpWith IsCookie) h.client _ sized in
          heard_fine reads m first cast ours h (noted w h change) w.readers v.readers
          (λ leg dir. subst (λ (c : K). IsPrefix (heard_on leg (events_of (noted w h change)
          (end_node v.readers leg (receiver dir))))
          (drawn_by rules m deeds first c h (end_node w.readers leg (sender dir)) leg)) keeps.same
          (tracing.before m first w h traced once change may leg dir))
          (λ node leg apart. (tracing.alone m first v (noted w h change)
          (change_is_traced rules m deeds first w h traced once change may) node leg apart).1)
          f (starts streaming begins m first cast ours h f)
          (all_legible legal (numbers_of ours) h f ranges
          (have_cookies f.client.leads.moves (f.client.cookies is_sized)) refl
          (keeps.fine is_sized f))
          g;
    }

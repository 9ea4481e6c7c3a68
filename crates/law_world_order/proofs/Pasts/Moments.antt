-- behind all changes a world of roles is at a moment
use Rattle.rh_text.specs.declared.ends.Side.TheVariants as side
use Rattle.law_order.proofs.Vocabulary.{◌≡◌, List, [], ◌∷◌, refl, sym, subst, AllByRecursion, IsPrefix}
use Rattle.law_moves.proofs.Vocabulary.{prefix_self, EndMove, ComesUp, Event, Hears, Ends, Breaks, Draws, Ticks}
use Rattle.law_role_inproxy.proofs.Vocabulary.{InProxy}
use Rattle.law_node_history.proofs.Vocabulary.{reader_of, Makers, AllAccepted, LegsComeUpOnce, happened, all_changed, History, IsNew, all_noted, nothing}
use Rattle.law_node_history.proofs.Lemmas.{cast_kept, traced_first}
use Rattle.law_role_outproxy.proofs.Vocabulary.{OutProxy}
use Rattle.law_node_streams.specs.Streams.{ComesUpWith, IsCookie}
use Rattle.law_peers_moments.specs.Moments.{AreJoined, HaveCookies, IsMoment, passages}
use Rattle.law_node_traces.proofs.Vocabulary.{ByChanges, ComeUpInOrder, HasWholeCookie, HaveWholeCookies, is_made, AreRead, AreOurs, deeds, rules, IsKnown}
use Rattle.law_world_order.proofs.Pasts.Family.{Family, family, grown_last, last}
use Rattle.law_world_order.proofs.Pasts.Joins.{HeardOf}
use Rattle.law_world_order.proofs.Pasts.Legal.{have_cookies}
use Rattle.law_world_order.proofs.Pasts.Made.{made}
use Rattle.law_world_order.proofs.Pasts.Once.{comes_up_under_one}
use Rattle.law_world_order.proofs.Pasts.Pasts.{AreSized, Here, Laws, Whole, first_is, flowing_at, heard_now, joined_then, last_is, legs_then, pasts}
use Rattle.law_world_order.proofs.Moments.{OurWorld}
use Rattle.law_world_order.proofs.Vocabulary.{Flows, IsFlowing, numbers_of, AreDistinct, HasMoment, moves_of, numbers}

whole_cookie : (event : Event) → HasWholeCookie event → ComesUpWith IsCookie event
whole_cookie (ComesUp leg cookie) is = is
whole_cookie (Hears leg piece) is = tt
whole_cookie (Ends leg) is = tt
whole_cookie (Breaks leg) is = tt
whole_cookie (Draws leg room) is = tt
whole_cookie (Ticks now) is = tt

whole_cookies : (events : List Event) → HaveWholeCookies events
    → AllByRecursion (ComesUpWith IsCookie) events
whole_cookies [] all = tt
whole_cookies (event ∷ events) all = (whole_cookie event all.0, whole_cookies events all.1)

module _ {K : Type 0} (m : Makers K InProxy OutProxy) (w : OurWorld K) (new : IsNew w)
    (ours : AreOurs m w.company w.cast) (law : Laws m w ours)
    (once : LegsComeUpOnce rules m deeds w.company w.cast)
    (read : AreRead w.readers (is_made w.company)) (v : OurWorld K)
    (by : ByChanges rules m deeds w v) (known : IsKnown m w v by.leads)
    (order : ComeUpInOrder v (all_noted rules m deeds w nothing by.leads.changes)) where
  abbrev h : History
  h = all_noted rules m deeds w nothing by.leads.changes

  accepted : AllAccepted rules m deeds w.company w.cast h
  accepted =
      subst (λ (c : K). AllAccepted rules m deeds w.company c h)
      (cast_kept rules m deeds w v by.leads) known.traced.accepted

  streams : Family m (numbers_of ours) w by.leads.changes
  streams = family m law.rise w ours by.leads.changes once accepted known.in_turn

  abbrev f : Flows (numbers_of ours) h
  f = last m (numbers_of ours) w nothing by.leads.changes streams.start streams.all

  first : Here m w ours law w nothing streams.start
  first =
      first_is m w ours law once (traced_first rules m deeds w new) read streams.start
      streams.client streams.server streams.ins streams.outs

  sized : AreSized m w ours law h f
  sized =
      have_cookies f.client.leads.moves
      (f.client.cookies (whole_cookies (happened h.client) order.cookies))

  end_is : Here m w ours law (all_changed rules m deeds w by.leads.changes) h f
  end_is =
      last_is m w ours law w nothing by.leads.changes streams.start streams.all first
      by.leads.allowed sized

  abbrev flowing : IsFlowing (numbers_of ours) w v h
  flowing = record {
    cast = cast_kept rules m deeds w v by.leads;
    flows = f;
    begun = (flowing_at m w ours law (all_changed rules m deeds w by.leads.changes) h f
        end_is).begun;
    legible = end_is.legible;
  }

  cookies : AreDistinct (happened h.client) → HaveCookies f.client.leads.moves
  cookies distinct = record {
    one = λ leg a b rose other.
        comes_up_under_one rules.client deeds.client w.company.client once.client h.client leg a b
        accepted.client (f.client.raised leg a rose) (f.client.raised leg b other);
    own = λ kind l n cookie rose other.
        distinct kind l n cookie
        (f.client.raised (record { kind = kind; number = l }) cookie rose)
        (f.client.raised (record { kind = kind; number = n }) cookie other);
  }

  -- a front of no moves
  from_none : (none front : List EndMove) → none ≡ [] → IsPrefix none front
  from_none none front is =
      subst (λ (ms : List EndMove). IsPrefix ms front) (sym is) (front, refl)

  -- ---- at the end of all changes

  abbrev u : OurWorld K
  u = all_changed rules m deeds w by.leads.changes

  abbrev asked : List EndMove
  asked = f.client.leads.moves

  abbrev served : List EndMove
  served = f.server.leads.moves

  abbrev now : HeardOf law.reads m w u ours h (flowing_at m w ours law u h f end_is) h
  now = heard_now m w ours law u h f end_is

  legs_there : AreJoined (reader_of u.readers) (passages (numbers ours) (Whole m w ours law h f))
  legs_there =
      legs_then m w ours law u h f end_is h h now now asked served f f (prefix_self asked)
      (prefix_self asked) (prefix_self served) (prefix_self served) h f
      (grown_last m (numbers_of ours) u h [] f tt) (prefix_self asked) (prefix_self served)

  legs_here : AreJoined (reader_of v.readers) (passages (numbers ours) (moves_of flowing))
  legs_here =
      subst (λ (x : OurWorld K).
      AreJoined (reader_of x.readers) (passages (numbers ours) (Whole m w ours law h f)))
      by.leads.reached legs_there

  module _ (have : HaveCookies f.client.leads.moves) where
    moment_there : IsMoment (numbers ours) (reader_of u.readers) (Whole m w ours law h f)
    moment_there = record {
      now =
          joined_then m w ours law u h f end_is h h now now asked served f f (prefix_self asked)
          (prefix_self asked) (prefix_self served) (prefix_self served) h f
          (grown_last m (numbers_of ours) u h [] f tt) (prefix_self asked) (prefix_self served)
          have;
      client_past = λ front later is.
          pasts m w ours law side.Client w nothing by.leads.changes streams.start streams.all first
          by.leads.allowed sized have front
          (from_none streams.start.client.leads.moves front streams.client) (later, sym is);
      server_past = λ front later is.
          pasts m w ours law side.Server w nothing by.leads.changes streams.start streams.all first
          by.leads.allowed sized have front
          (from_none streams.start.server.leads.moves front streams.server) (later, sym is);
    }

    moment_here : IsMoment (numbers ours) (reader_of v.readers) (moves_of flowing)
    moment_here =
        subst (λ (x : OurWorld K).
        IsMoment (numbers ours) (reader_of x.readers) (Whole m w ours law h f)) by.leads.reached
        moment_there

  pub has_moment : HasMoment m w ours v by
  has_moment = record {
    flowing = flowing;
    made = made ours h h f f asked served (prefix_self asked) (prefix_self served);
    joined = legs_here;
    moment = λ distinct. moment_here (cookies distinct);
  }

-- a change of a world that closes a node since what came is amiss feeds the node a piece: at the
-- moment before one of its bytes the role of the node refuses the next message so
use Rattle.law_order.proofs.Vocabulary.{◌≡◌, ℕ, refl, sym, ◌∙◌, subst, Some, None}
use Rattle.rh_line.specs.declared.cause.Cause.TheVariants as cause
use Rattle.rh_record.specs.declared.answer.Who.TheVariants as who
use Rattle.rh_inproxy.specs.Machine as in_proxy
use Rattle.rh_outproxy.specs.Machine as out_proxy
use Rattle.rh_client.specs.Client as client
use Rattle.rh_server.specs.Servers as server
use Rattle.rh_wires.specs.Legs as legs
use Rattle.rh_company.specs.Company as company
use Rattle.rh_company.specs.Places as places
use Rattle.law_moves.proofs.Vocabulary.{Dir, Cause, Leg, Refused, Shell}
use Rattle.law_role_inproxy.proofs.Vocabulary.{InProxy}
use Rattle.law_role_client.proofs.Vocabulary.{ClientRole}
use Rattle.law_role_server.proofs.Vocabulary.{Server}
use Rattle.law_node_history.proofs.Vocabulary.{Who, receiver, Event, Comes, Place, Absent, Here, Gone, Makers, World, at, Change, IsFed, MayChange, ClosesNode, in_place, out_place}
use Rattle.law_node_history.proofs.Lemmas.{answered}
use Rattle.law_role_outproxy.proofs.Vocabulary.{OutProxy}
use Rattle.law_node_traces.proofs.Vocabulary.{ByChanges, AreOurs, deeds, rules}
use Rattle.law_world_order.proofs.Legs.{Reads}
use Rattle.law_world_order.proofs.Vocabulary.{numbers_of, read_on}
use Rattle.law_world_honest.proofs.Honesty.Closing.{IsOfPiece, by_fed}
use Rattle.law_world_honest.proofs.Honesty.Fed.{told_what, told_who}
use Rattle.law_world_honest.specs.Honesty.Honest.{well_on}
use Rattle.law_world_windows.proofs.Moment.{comes_of, well_behind}
use Rattle.law_world_windows.specs.Known.{Laws, NodesLaws, Readings}
use Rattle.law_world_expected.proofs.Amiss.AtNodes.{client_next, in_next, out_next, passages_then, put_then, server_next}
use Rattle.law_world_expected.proofs.Amiss.Bytes.{HaveNames}
use Rattle.law_world_expected.proofs.Amiss.Moments.{AllFlow, OfStreams}
use Rattle.law_world_expected.specs.Amiss.{AmissNext, amiss_by}
use Rattle.law_world_expected.specs.Known.{ClientKnows, RolesKnow}

-- what came is amiss where a piece comes
of_piece : (why : Cause) (r : Refused) → amiss_by why ≡ Some r → (event : Event)
    → IsOfPiece event why
of_piece (cause.Unexpected leg place) r tells event = λ S its node comes. comes
of_piece (cause.CookieMismatch leg expected got) r tells event = λ S its node comes. comes
of_piece (cause.ControlFull full) r tells event = λ S its node comes. comes
of_piece (cause.LegBroken leg) r tells event = absurd cc
of_piece (cause.LegEnded leg partial) r tells event = absurd cc
of_piece (cause.BadFrame leg place fault) r tells event = absurd cc
of_piece (cause.BadPacket leg place fault) r tells event = absurd cc
of_piece (cause.WindowExceeded leg reached edge) r tells event = absurd cc
of_piece (cause.OutOfRange leg command value) r tells event = absurd cc
of_piece (cause.HttpRefused leg status) r tells event = absurd cc
of_piece (cause.BadHead leg place fault) r tells event = absurd cc
of_piece (cause.Silent leg since now) r tells event = absurd cc
of_piece (cause.BodyOver leg count length) r tells event = absurd cc

module _ {K : Type 0} (roles : RolesKnow) (each : NodesLaws) (reads : Reads)
    (readings : Readings) (m : Makers K InProxy OutProxy)
    (w v : World K ClientRole Server InProxy OutProxy) (ours : AreOurs m w.company w.cast)
    (law : Laws m w ours) (Holds : OfStreams (numbers_of ours) w)
    (flow : AllFlow m w ours Holds) (by : ByChanges rules m deeds w v) (why : Cause)
    (r : Refused) (tells : amiss_by why ≡ Some r)
    (named : (leg : Leg) (dir : Dir) → HaveNames (well_on leg.kind dir) r) where
  abbrev MayFeed : Leg → Dir → Type 0
  MayFeed leg dir = (count : ℕ) → MayChange rules v (IsFed leg dir count)

  -- what closes the node closes it by a piece
  any : (node : Who) (X : Type 0) → ((leg : Leg) (dir : Dir) (count : ℕ) → MayFeed leg dir
      → at v leg (receiver dir) ≡ node
      → (company.tell rules v.company node
      (Comes leg (legs.take_out leg dir count v.legs).1)).1 ≡ Some why → X)
      → (change : Change) → MayChange rules v change → ClosesNode rules v change node why → X
  any node X fed change may is =
      by_fed v node why X (λ leg dir count may is.
      fed leg dir count (λ k. may) (told_who _ _ _ _ is.told)
      (subst (λ (e : Event). (company.tell rules v.company node e).1 ≡ Some why)
      (sym (told_what _ _ _ _ is.told)) is.closes)) (comes_of each) change may is
      (of_piece why r tells is.event)

  -- ---- the client

  pub record ClientCloses : Type 0 where
    pub leg : Leg
    pub dir : Dir
    pub may : MayFeed leg dir
    pub here : at v leg (receiver dir) ≡ who.Client
    pub count : ℕ
    pub next : AmissNext client.rules
        (passages_then roles reads readings m w v ours law Holds flow by leg dir may count).client
        leg (read_on leg.kind dir)
        (put_then roles reads readings m w v ours law Holds flow by leg dir may count) r

  pub client_closes : ClientKnows → (change : Change) → MayChange rules v change
      → ClosesNode rules v change who.Client why → ClientCloses
  client_closes client_roles =
      any who.Client ClientCloses (λ leg dir count may here closes.
      let was = client_next roles reads readings m w v ours law Holds flow by leg dir may r
      (well_on leg.kind dir) (named leg dir) (well_behind m w v ours law by leg dir may) why tells
      count who.Client here client_roles each.client refl closes in
      record { leg = leg; dir = dir; may = may; here = here; count = was.0; next = was.1 })

  -- ---- the server

  pub record ServerCloses : Type 0 where
    pub leg : Leg
    pub dir : Dir
    pub may : MayFeed leg dir
    pub here : at v leg (receiver dir) ≡ who.Server
    pub count : ℕ
    pub next : AmissNext server.rules
        (passages_then roles reads readings m w v ours law Holds flow by leg dir may count).server
        leg (read_on leg.kind dir)
        (put_then roles reads readings m w v ours law Holds flow by leg dir may count) r

  pub server_closes : (change : Change) → MayChange rules v change
      → ClosesNode rules v change who.Server why → ServerCloses
  server_closes =
      any who.Server ServerCloses (λ leg dir count may here closes.
      let was = server_next roles reads readings m w v ours law Holds flow by leg dir may r
      (well_on leg.kind dir) (named leg dir) (well_behind m w v ours law by leg dir may) why tells
      count who.Server here each.server refl closes in
      record { leg = leg; dir = dir; may = may; here = here; count = was.0; next = was.1 })

  -- ---- an in proxy

  pub record InCloses (n : ℕ) : Type 0 where
    pub leg : Leg
    pub dir : Dir
    pub may : MayFeed leg dir
    pub here : at v leg (receiver dir) ≡ who.In n
    pub node : Shell InProxy
    pub up : ℕ
    pub there : in_place v.company n ≡ Here node up
    pub count : ℕ
    pub next : AmissNext in_proxy.rules
        ((passages_then roles reads readings m w v ours law Holds flow by leg dir may count).ins n)
        leg (read_on leg.kind dir)
        (put_then roles reads readings m w v ours law Holds flow by leg dir may count) r

  pub in_closes : (n : ℕ) (change : Change) → MayChange rules v change
      → ClosesNode rules v change (who.In n) why → InCloses n
  in_closes n =
      any (who.In n) (InCloses n) (λ leg dir count may here closes.
      per leg dir count may here (in_place v.company n) refl
      (sym (answered Absent (places.tell in_proxy.rules
      (Comes leg (legs.take_out leg dir count v.legs).1)) None refl v.company.ins n) ∙ closes))
    where
      per : (leg : Leg) (dir : Dir) (count : ℕ) → MayFeed leg dir
          → at v leg (receiver dir) ≡ who.In n → (place : Place InProxy)
          → in_place v.company n ≡ place
          → (places.tell in_proxy.rules (Comes leg (legs.take_out leg dir count v.legs).1)
          place).1 ≡ Some why → InCloses n
      per leg dir count may here Absent there closes = absurd cc
      per leg dir count may here (Gone now) there closes = absurd cc
      per leg dir count may here (Here node up) there closes =
          let was = in_next roles reads readings m w v ours law Holds flow by leg dir may r
          (well_on leg.kind dir) (named leg dir) (well_behind m w v ours law by leg dir may) why
          tells count (who.In n) here each.ins n refl node up there closes in
          record {
            leg = leg;
            dir = dir;
            may = may;
            here = here;
            node = node;
            up = up;
            there = there;
            count = was.0;
            next = was.1;
          }

  -- ---- an out proxy

  pub record OutCloses (n : ℕ) : Type 0 where
    pub leg : Leg
    pub dir : Dir
    pub may : MayFeed leg dir
    pub here : at v leg (receiver dir) ≡ who.Out n
    pub count : ℕ
    pub next : AmissNext out_proxy.rules
        ((passages_then roles reads readings m w v ours law Holds flow by leg dir may count).outs n)
        leg (read_on leg.kind dir)
        (put_then roles reads readings m w v ours law Holds flow by leg dir may count) r

  pub out_closes : (n : ℕ) (change : Change) → MayChange rules v change
      → ClosesNode rules v change (who.Out n) why → OutCloses n
  out_closes n =
      any (who.Out n) (OutCloses n) (λ leg dir count may here closes.
      per leg dir count may here (out_place v.company n) refl
      (sym (answered Absent (places.tell out_proxy.rules
      (Comes leg (legs.take_out leg dir count v.legs).1)) None refl v.company.outs n) ∙ closes))
    where
      per : (leg : Leg) (dir : Dir) (count : ℕ) → MayFeed leg dir
          → at v leg (receiver dir) ≡ who.Out n → (place : Place OutProxy)
          → out_place v.company n ≡ place
          → (places.tell out_proxy.rules (Comes leg (legs.take_out leg dir count v.legs).1)
          place).1 ≡ Some why → OutCloses n
      per leg dir count may here Absent there closes = absurd cc
      per leg dir count may here (Gone now) there closes = absurd cc
      per leg dir count may here (Here node up) there closes =
          let was = out_next roles reads readings m w v ours law Holds flow by leg dir may r
          (well_on leg.kind dir) (named leg dir) (well_behind m w v ours law by leg dir may) why
          tells count (who.Out n) here each.outs n refl node up there closes in
          record { leg = leg; dir = dir; may = may; here = here; count = was.0; next = was.1 }

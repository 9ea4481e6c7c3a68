-- what lines do keeps each leg up for both of its ends, or for neither
use Rattle.law_order.proofs.Vocabulary.{◌≡◌, ℕ, zero, suc, List, ◌++◌, Bool, true, false, ◌||◌, ◌&&◌, if◌then◌else◌, length, None, refl, sym, ap, ◌∙◌, subst, ⊎_elim, drop, nat_le, nat_lt, Option}
use Rattle.rh_record.specs.declared.answer.Who.TheVariants as who
use Rattle.rh_shell.specs.Shells as shell
use Rattle.rh_wires.specs.Legs as legs
use Rattle.rh_wires.specs.Wires as wires
use Rattle.rh_company.specs.Company as company
use Rattle.rh_nodes.specs.Time.{at_moment}
use Rattle.rh_nodes.specs.World.{tell}
use Rattle.rh_nodes.specs.Opening as opening
use Rattle.law_moves.proofs.Vocabulary.{Dir, U, D, Side, Client, Server, by_test, NO_COOKIE, Leg, LegKind, ClientOut, OutServer, ClientIn, InServer, same_leg}
use Rattle.law_node_history.proofs.Vocabulary.{Legs, Wire, sender, receiver, Event, Ends, Breaks, Passes, Rulebook, is_up, lost, lose, refuse, break_leg, end_leg, send, sent, draw_into, feed, fed, Deeds, give, take, close, Makers, connect, connect_client, is_wanted, may_make, may_open_same, open_by, open_in_to, open_leg, open_out_to, open_same, read_on, with_in, with_out, leg_at, for_each, tick, tick_all, tick_ins, World, at, wire_at}
use Rattle.law_node_history.proofs.Lemmas.{cases_leg, is_up_at, put_beside, take_here, take_beside, raise_here, raise_beside, lower_here, lower_beside}
use Rattle.law_node_history.proofs.Wired.{put_here}
use Rattle.law_world_ways.specs.EndsInTime.Both.{AreUpAtBoth}

-- ---- one wire

-- up for both ends, or for neither
abbrev IsEven : Wire → Type 0
IsEven wire = wire.client ≡ wire.server

flight_even : (dir : Dir) (bytes : List ℕ) (wire : Wire) → IsEven wire
    → IsEven (wires.with_flight dir bytes wire)
flight_even U bytes wire even = even
flight_even D bytes wire even = even

down_even : (dir : Dir) (wire : Wire) → wires.is_up (sender dir) wire ≡ false
    → wires.is_up (receiver dir) wire ≡ false → IsEven wire
down_even U wire client server = client ∙ sym server
down_even D wire server client = client ∙ sym server

-- an end that is lowered is down, and one that is down stays so
lowered_down : (end : Side) (wire : Wire) → wires.is_up end (wires.lower end wire) ≡ false
lowered_down Client wire =
    by_test (λ (x : Wire). x.client ≡ false) wire.server (record wire { client = false })
    wires.blank (λ e. refl) (λ e. refl)
lowered_down Server wire =
    by_test (λ (x : Wire). x.server ≡ false) wire.client (record wire { server = false })
    wires.blank (λ e. refl) (λ e. refl)

stays_down : (end other : Side) (wire : Wire) → wires.is_up other wire ≡ false
    → wires.is_up other (wires.lower end wire) ≡ false
stays_down Client Client wire down = lowered_down Client wire
stays_down Server Server wire down = lowered_down Server wire
stays_down Client Server wire down =
    by_test (λ (x : Wire). x.server ≡ false) wire.server (record wire { client = false })
    wires.blank (λ e. down) (λ e. refl)
stays_down Server Client wire down =
    by_test (λ (x : Wire). x.client ≡ false) wire.client (record wire { server = false })
    wires.blank (λ e. down) (λ e. refl)

-- ---- all legs

abbrev BothAt : Legs → Type 0
BothAt all = (leg : Leg) → legs.is_up leg Client all ≡ legs.is_up leg Server all

pub none_up : BothAt legs.none
none_up leg = by leg.kind leg.number
  where
    by : (kind : LegKind) (n : ℕ) → legs.is_up (leg_at kind n) Client legs.none
        ≡ legs.is_up (leg_at kind n) Server legs.none
    by ClientOut n = refl
    by OutServer n = refl
    by ClientIn n = refl
    by InServer n = refl

even_at : (all : Legs) (leg : Leg) → BothAt all → IsEven (wire_at all leg)
even_at all leg both =
    sym (is_up_at all leg Client) ∙ both leg ∙ is_up_at all leg Server

-- one leg changes, and the others stay as they are
but_one : (leg : Leg) (all later : Legs) → IsEven (wire_at later leg)
    → ((other : Leg) → same_leg leg other ≡ false → wire_at later other ≡ wire_at all other)
    → BothAt all → BothAt later
but_one leg all later here beside both other =
    is_up_at later other Client
    ∙ ⊎_elim (λ same. subst (λ (x : Leg). IsEven (wire_at later x)) same here)
    (λ apart. subst IsEven (sym (beside other apart)) (even_at all other both))
    (cases_leg leg other)
    ∙ sym (is_up_at later other Server)

raised_both : (all : Legs) (leg : Leg) → BothAt all
    → BothAt (legs.raise leg Server (legs.raise leg Client all))
raised_both all leg =
    let half = legs.raise leg Client all in
    but_one leg all (legs.raise leg Server half)
    (subst IsEven
    (sym (raise_here half leg Server ∙ ap (wires.raise Server) (raise_here all leg Client))) refl)
    (λ other apart.
    raise_beside half leg Server other apart ∙ raise_beside all leg Client other apart)

put_both : (all : Legs) (leg : Leg) (end : Side) (dir : Dir) (bytes : List ℕ)
    → legs.is_up leg end all ≡ true → BothAt all → BothAt (legs.put leg dir bytes all)
put_both all leg end dir bytes up both =
    let wire = wire_at all leg in
    but_one leg all (legs.put leg dir bytes all)
    (subst IsEven (sym (put_here all leg end dir bytes (sym (is_up_at all leg end) ∙ up)))
    (flight_even dir (wires.in_flight dir wire ++ bytes) wire (even_at all leg both)))
    (put_beside all leg dir bytes) both

taken_both : (all : Legs) (leg : Leg) (end : Side) (dir : Dir) (count : ℕ)
    → legs.is_up leg end all ≡ true → BothAt all
    → BothAt (legs.take_out leg dir count all).0
taken_both all leg end dir count up both =
    let wire = wire_at all leg in
    but_one leg all (legs.take_out leg dir count all).0
    (subst IsEven (sym (take_here all leg end dir count (sym (is_up_at all leg end) ∙ up)))
    (flight_even dir (drop count (wires.in_flight dir wire)) wire (even_at all leg both)))
    (take_beside all leg dir count) both

-- ---- a leg that is up is so for each end

both_true : (a b : Bool) → a ≡ b → (a || b) ≡ true → (a ≡ true) × (b ≡ true)
both_true true b same up = (refl, sym same)
both_true false true same up = absurd cc
both_true false false same up = absurd cc

module _ {K C S I O : Type 0} where
  pub up_for : (w : World K C S I O) (leg : Leg) (end : Side) → AreUpAtBoth w
      → is_up w leg ≡ true → legs.is_up leg end w.legs ≡ true
  up_for w leg Client both up =
      (both_true (legs.is_up leg Client w.legs) (legs.is_up leg Server w.legs) (both leg) up).0
  up_for w leg Server both up =
      (both_true (legs.is_up leg Client w.legs) (legs.is_up leg Server w.legs) (both leg) up).1

  either : {A : Type 0} (test : Bool) (one other : World K C S I O × A) → AreUpAtBoth one.0
      → AreUpAtBoth other.0 → AreUpAtBoth (if test then one else other).0
  either true one other a b = a
  either false one other a b = b

  -- a world with no legs
  pub first_up : (w : World K C S I O) → w.legs ≡ legs.none → AreUpAtBoth w
  first_up w none = subst BothAt (sym none) none_up

  -- ---- at the ends

  module _ (d : Deeds C S) (w : World K C S I O) (both : AreUpAtBoth w) where
    pub give_keeps : (end : Side) (pdu : List ℕ) → AreUpAtBoth (give d w end pdu).0
    give_keeps Client pdu = both
    give_keeps Server pdu = both

    pub take_keeps : (end : Side) → AreUpAtBoth (take d w end).0
    take_keeps Client = both
    take_keeps Server = both

    pub close_keeps : (end : Side) → AreUpAtBoth (close d w end).0
    close_keeps Client = both
    close_keeps Server = both

module _ {K C S I O : Type 0} (r : Rulebook C S I O) where
  -- ---- a leg is lost

  lost_here : (w : World K C S I O) (leg : Leg) (end : Side) (event : Event)
      → wires.is_up end (wire_at (lose r w leg end event).legs leg) ≡ false
  lost_here w leg end event =
      by_test (λ (v : World K C S I O). wires.is_up end (wire_at v.legs leg) ≡ false)
      (legs.is_up leg end w.legs) (lost r w (at w leg end) leg end event) w
      (λ up. ap (wires.is_up end) (lower_here w.legs leg end)
      ∙ lowered_down end (wire_at w.legs leg))
      (λ down. sym (is_up_at w.legs leg end) ∙ down)

  lost_stays : (w : World K C S I O) (leg : Leg) (end : Side) (event : Event) (other : Side)
      → wires.is_up other (wire_at w.legs leg) ≡ false
      → wires.is_up other (wire_at (lose r w leg end event).legs leg) ≡ false
  lost_stays w leg end event other down =
      by_test (λ (v : World K C S I O). wires.is_up other (wire_at v.legs leg) ≡ false)
      (legs.is_up leg end w.legs) (lost r w (at w leg end) leg end event) w
      (λ up. ap (wires.is_up other) (lower_here w.legs leg end)
      ∙ stays_down end other (wire_at w.legs leg) down)
      (λ same. down)

  lost_beside : (w : World K C S I O) (leg : Leg) (end : Side) (event : Event) (other : Leg)
      → same_leg leg other ≡ false
      → wire_at (lose r w leg end event).legs other ≡ wire_at w.legs other
  lost_beside w leg end event other apart =
      by_test (λ (v : World K C S I O). wire_at v.legs other ≡ wire_at w.legs other)
      (legs.is_up leg end w.legs) (lost r w (at w leg end) leg end event) w
      (λ up. lower_beside w.legs leg end other apart) (λ same. refl)

  -- at both ends
  lost_both : (w : World K C S I O) (leg : Leg) (dir : Dir) (one other : Event) → AreUpAtBoth w
      → AreUpAtBoth (lose r (lose r w leg (sender dir) one) leg (receiver dir) other)
  lost_both w leg dir one other =
      let v = lose r w leg (sender dir) one in
      let u = lose r v leg (receiver dir) other in
      but_one leg w.legs u.legs
      (down_even dir (wire_at u.legs leg)
      (lost_stays v leg (receiver dir) other (sender dir) (lost_here w leg (sender dir) one))
      (lost_here v leg (receiver dir) other))
      (λ beside apart. lost_beside v leg (receiver dir) other beside apart
      ∙ lost_beside w leg (sender dir) one beside apart)

  refuse_keeps : (w : World K C S I O) (leg : Leg) → AreUpAtBoth w
      → AreUpAtBoth (refuse r w leg).0
  refuse_keeps w leg both =
      let client = at w leg Client in
      let server = at w leg Server in
      either (company.wants r w.company client leg) (tell r w client (Breaks leg), true)
      (if company.wants r w.company server leg then (tell r w server (Breaks leg), true)
      else (w, false)) both
      (either (company.wants r w.company server leg) (tell r w server (Breaks leg), true)
      (w, false) both both)

  pub break_keeps : (w : World K C S I O) (leg : Leg) → AreUpAtBoth w
      → AreUpAtBoth (break_leg r w leg).0
  break_keeps w leg both =
      either (is_up w leg)
      (lose r (lose r w leg Client (Breaks leg)) leg Server (Breaks leg), true) (refuse r w leg)
      (lost_both w leg U (Breaks leg) (Breaks leg) both) (refuse_keeps w leg both)

  pub end_keeps : (w : World K C S I O) (leg : Leg) (dir : Dir) → AreUpAtBoth w
      → AreUpAtBoth (end_leg r w leg dir).0
  end_keeps w leg dir both =
      either (is_up w leg && legs.is_clear leg dir w.legs)
      (lose r (lose r w leg (sender dir) (Breaks leg)) leg (receiver dir) (Ends leg), true)
      (w, false) (lost_both w leg dir (Breaks leg) (Ends leg) both) both

  -- ---- bytes are carried

  pub send_keeps : (w : World K C S I O) (leg : Leg) (dir : Dir) (count : ℕ) → AreUpAtBoth w
      → AreUpAtBoth (send r w leg dir count).0
  send_keeps w leg dir count both =
      by_test (λ (did : World K C S I O × Option ℕ). AreUpAtBoth did.0)
      (legs.is_up leg (sender dir) w.legs)
      (sent w (draw_into r w.company w.legs (at w leg (sender dir)) leg dir count)) (w, None)
      (λ up. put_both w.legs leg (sender dir) dir
      (company.draw r w.company (at w leg (sender dir)) leg count).1 up both) (λ down. both)

  pub feed_keeps : (w : World K C S I O) (leg : Leg) (dir : Dir) (count : ℕ) → AreUpAtBoth w
      → AreUpAtBoth (feed r w leg dir count).0
  feed_keeps w leg dir count both =
      by_test (λ (did : World K C S I O × Option (List ℕ)). AreUpAtBoth did.0)
      (legs.is_up leg (receiver dir) w.legs)
      (fed r w leg dir (legs.take_out leg dir count w.legs)) (w, None)
      (λ up. taken_both w.legs leg (receiver dir) dir count up both) (λ down. both)

  -- ---- time passes

  each_keeps : (n : ℕ) (act : ℕ → World K C S I O → World K C S I O)
      → ((k : ℕ) (v : World K C S I O) → AreUpAtBoth v → AreUpAtBoth (act k v))
      → (w : World K C S I O) → AreUpAtBoth w → AreUpAtBoth (for_each n act w)
  each_keeps zero act keeps w both = both
  each_keeps (suc n) act keeps w both =
      keeps n (for_each n act w) (each_keeps n act keeps w both)

  pub tick_keeps : (w : World K C S I O) (now : ℕ) → AreUpAtBoth w
      → AreUpAtBoth (tick r w now).0
  tick_keeps w now both =
      let v = at_moment now w in
      let server = tell r (tell r v who.Client (Passes now)) who.Server (Passes now) in
      let ins = tick_ins r (Passes now) server in
      either (nat_le w.now now) (tick_all r (Passes now) v, true) (w, false)
      (each_keeps (length ins.company.outs)
      (λ number world. tell r world (who.Out number) (Passes now)) (λ k u kept. kept) ins
      (each_keeps (length server.company.ins)
      (λ number world. tell r world (who.In number) (Passes now)) (λ k u kept. kept) server both))
      both

module _ {K C S I O : Type 0} (r : Rulebook C S I O) (m : Makers K I O) (w : World K C S I O)
    (leg : Leg) (both : AreUpAtBoth w) where
  -- ---- a leg comes up

  open_server_keeps : AreUpAtBoth (opening.open_server r w leg).0
  open_server_keeps =
      either (nat_lt 0 leg.number && is_wanted r w leg) (connect r w leg NO_COOKIE, true) (w, false)
      (raised_both w.legs leg both) both

  open_out_keeps : AreUpAtBoth (opening.open_client_out r m.out_proxy w leg).0
  open_out_keeps =
      let node = opening.at_moment r.out_proxy (m.out_proxy w.cast leg.number) w.now in
      either (may_make r w w.company.outs leg) (open_out_to r w leg node) (w, false)
      (either (shell.may_up r.out_proxy node leg)
      (connect_client r (with_out w leg.number node) leg, true) (w, false)
      (raised_both w.legs leg both) both) both

  open_in_keeps : AreUpAtBoth (opening.open_client_in r m.in_proxy w leg).0
  open_in_keeps =
      let node = opening.at_moment r.in_proxy (m.in_proxy w.cast leg.number) w.now in
      either (may_make r w w.company.ins leg) (open_in_to r w leg node) (w, false)
      (either (shell.may_up r.in_proxy node leg)
      (connect_client r (with_in w leg.number node) leg, true) (w, false)
      (raised_both w.legs leg both) both) both

  open_by_keeps : (kind : LegKind) → AreUpAtBoth (open_by r m w leg kind).0
  open_by_keeps ClientOut = open_out_keeps
  open_by_keeps OutServer = open_server_keeps
  open_by_keeps ClientIn = open_in_keeps
  open_by_keeps InServer = open_server_keeps

  pub open_keeps : AreUpAtBoth (open_leg r m w leg).0
  open_keeps = open_by_keeps leg.kind

  pub same_keeps : AreUpAtBoth (open_same r w leg).0
  same_keeps =
      either (opening.is_client_in leg.kind && company.wants r w.company who.Client leg
      && may_open_same r w leg) (connect_client r (read_on w leg.number) leg, true) (w, false)
      (raised_both w.legs leg both) both

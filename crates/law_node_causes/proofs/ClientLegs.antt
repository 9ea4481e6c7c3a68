-- a client's legs come up once each, by the numbers of its channels
use Rattle.law_order.proofs.Vocabulary.{◌≡◌, ℕ, ◌+◌, ◌==◌, ◌<◌, ◌&&◌, ◌||◌, Bool, true, false, not, nat_lt, None, refl, sym, ap, subst, rules, arith, nat_tests}
use Rattle.rh_client.specs.declared.channels.TheConstants.{LAST_NUMBER}
use Rattle.rh_client.specs.declared.state.ClientRole.{ClientRole}
use Rattle.rh_client.specs.Channels.{is_up, in_up, out_up}
use Rattle.rh_client.specs.State.{first, is_writing, is_in_successor, is_current, is_out_successor}
use Rattle.rh_client.specs.Opening.{wants, wants_by, was_up, was_up_by, was_in_up, was_out_up, up, up_by, with_next, on_conn_a3}
use Rattle.rh_client.specs.OutReplacement.{on_out_r1_a6}
use Rattle.rh_client.specs.Ending.{give, close, take, drawn}
use Rattle.rh_client.specs.Time.{ping}
use Rattle.rh_client.specs.Putting.{put_by, put}
use Rattle.rh_client.specs.Client.{pdu, packet}
use Rattle.rh_client.specs.Client as client
use Rattle.law_moves.proofs.Vocabulary.{by_test, Cookie, Named, ClientConfig, Leg, LegKind, ClientOut, OutServer, ClientIn, InServer, Count, Pdu, Packet, Move, Up, HeadCame, PduCame, PacketCame, Puts, IsDrawn, Marks, Pings, Passage, EndMove, EndPassage, Moves, Gives, Takes, Closes, Recycles, moved, end_moved, end_now_at}
use Rattle.law_node_causes.proofs.ClientSteps.{Side, Sides, sides, begun, shifted, StepLaws, Timed, later_same, later_self, packet_later, pdu_later, up_later, pick_later, put_by_later, drawn_same, ping_same, give_same, take_later, recycle_later}
use Rattle.law_node_causes.proofs.Sorts.{or_true}
use Rattle.law_node_causes.proofs.MoveRoles.{by_row, by_put, by_given, by_first}
use Rattle.law_node_causes.specs.Once.{ComesUpOnce, KeepsUp}
use Rattle.law_node_causes.specs.Numbers.{AreNumberedBy, ClientIsNumbered}

-- the number's leg was up, or is wanted
abbrev was_on : ℕ → Side → Bool
was_on n x =
    (nat_lt 0 n && nat_lt n x.now)
    || ((n == x.now && x.now_up) || ((x.under_way && n == x.next) && x.next_up))

abbrev wants_on : ℕ → Side → Bool
wants_on n x = (n == x.now && not x.now_up) || ((x.under_way && n == x.next) && not x.next_up)

abbrev IsSound : Side → Type 0
IsSound x = AreNumberedBy x.now x.next x.under_way

pub record Grows (x y : Side) : Type 0 where
  pub was : (n : ℕ) → was_on n x ≡ true → was_on n y ≡ true
  pub sound : IsSound y

-- a leg that was up was up from then on, and the numbers are in order
pub record AllGrow (x y : Sides) : Type 0 where
  pub ins : Grows x.ins y.ins
  pub outs : Grows x.outs y.outs

pub record AreSound (x : Sides) : Type 0 where
  pub ins : IsSound x.ins
  pub outs : IsSound x.outs

-- ---- steps of a direction

grows_self : (x : Side) → IsSound x → Grows x x
grows_self x sound = record { was = λ n h. h; sound = sound }

grows_then : (x y z : Side) → Grows x y → Grows y z → Grows x z
grows_then x y z p q = record { was = λ n h. q.was n (p.was n h); sound = q.sound }

more_now : (a b c u : Bool) → (a || ((b && u) || c)) ≡ true → (a || ((b && true) || c)) ≡ true
more_now true b c u h = refl
more_now false true c u h = refl
more_now false false c u h = h

more_next : (a b c v : Bool) → (a || (b || (c && v))) ≡ true → (a || (b || (c && true))) ≡ true
more_next true b c v h = refl
more_next false true c v h = refl
more_next false false true v h = refl
more_next false false false v h = absurd cc

no_next : (a b w c v k : Bool) → w ≡ false → (a || (b || ((w && c) && v))) ≡ true
    → (a || (b || k)) ≡ true
no_next a b true c v k e h = absurd cc
no_next true b false c v k e h = refl
no_next false true false c v k e h = refl
no_next false false false c v k e h = absurd cc

-- the leg in use is up
up_now : (x : Side) → IsSound x → Grows x (record x { now_up = true })
up_now x sound = record {
  was = λ n h.
      more_now (nat_lt 0 n && nat_lt n x.now) (n == x.now)
      ((x.under_way && n == x.next) && x.next_up) x.now_up h;
  sound = record {
    first = sound.first;
    behind = sound.behind;
    now_last = sound.now_last;
    next_last = sound.next_last;
  };
}

-- its successor's is up
up_next : (x : Side) → IsSound x → Grows x (record x { next_up = true })
up_next x sound = record {
  was = λ n h.
      more_next (nat_lt 0 n && nat_lt n x.now) (n == x.now && x.now_up)
      (x.under_way && n == x.next) x.next_up h;
  sound = record {
    first = sound.first;
    behind = sound.behind;
    now_last = sound.now_last;
    next_last = sound.next_last;
  };
}

-- a replacement begins, where none was under way
begins : (x : Side) → x.under_way ≡ false → nat_lt x.now LAST_NUMBER ≡ true → IsSound x
    → Grows x (begun x)
begins x e last sound = record {
  was = λ n h.
      no_next (nat_lt 0 n && nat_lt n x.now) (n == x.now && x.now_up) x.under_way (n == x.next)
      x.next_up ((true && n == x.now + 1) && false) e h;
  sound = record {
    first = sound.first;
    behind = λ f. omega arith;
    now_last = sound.now_last;
    next_last = λ f. grind (arith, nat_tests, last);
  };
}

shift_by : (n now next : ℕ) (u v w : Bool) → w ≡ true → 0 < now → now < next
    → ((nat_lt 0 n && nat_lt n now) || ((n == now && u) || ((w && n == next) && v))) ≡ true
    → ((nat_lt 0 n && nat_lt n next) || ((n == next && v) || ((false && n == 0) && false))) ≡ true
shift_by n now next u v false e p q h = absurd cc
shift_by n now next true true true e p q h = grind (arith, nat_tests)
shift_by n now next true false true e p q h = grind (arith, nat_tests)
shift_by n now next false true true e p q h = grind (arith, nat_tests)
shift_by n now next false false true e p q h = grind (arith, nat_tests)

-- the successor takes the place
shifts : (x : Side) → x.under_way ≡ true → IsSound x → Grows x (shifted x)
shifts x e sound =
    let behind : x.now < x.next = sound.behind e in
    record {
      was = λ n h.
          shift_by n x.now x.next x.now_up x.next_up x.under_way e sound.first behind h;
      sound = record {
        first = omega (arith, sound.first, behind);
        behind = λ f. absurd cc;
        now_last = sound.next_last e;
        next_last = λ f. absurd cc;
      };
    }

growing : StepLaws AreSound AllGrow
growing = record {
  self = λ x good. record {
    ins = grows_self x.ins good.ins;
    outs = grows_self x.outs good.outs;
  };
  joined = λ x y z p q. record {
    ins = grows_then x.ins y.ins z.ins p.ins q.ins;
    outs = grows_then x.outs y.outs z.outs p.outs q.outs;
  };
  good = λ x y p. record { ins = p.ins.sound; outs = p.outs.sound };
  in_now = λ x good. record {
    ins = up_now x.ins good.ins;
    outs = grows_self x.outs good.outs;
  };
  in_next = λ x good. record {
    ins = up_next x.ins good.ins;
    outs = grows_self x.outs good.outs;
  };
  out_now = λ x good. record {
    ins = grows_self x.ins good.ins;
    outs = up_now x.outs good.outs;
  };
  out_next = λ x good. record {
    ins = grows_self x.ins good.ins;
    outs = up_next x.outs good.outs;
  };
  in_begins = λ x e last good. record {
    ins = begins x.ins e last good.ins;
    outs = grows_self x.outs good.outs;
  };
  out_begins = λ x e last good. record {
    ins = grows_self x.ins good.ins;
    outs = begins x.outs e last good.outs;
  };
  in_shifts = λ x e good. record {
    ins = shifts x.ins e good.ins;
    outs = grows_self x.outs good.outs;
  };
  out_shifts = λ x e good. record {
    ins = grows_self x.ins good.ins;
    outs = shifts x.outs e good.outs;
  };
}

abbrev Later : ClientRole → ClientRole → Type 0
Later s t = AllGrow (sides s) (sides t)

abbrev Sound : ClientRole → Type 0
Sound s = AreSound (sides s)

-- ---- a leg comes up once

once_by : (n now next : ℕ) (u v w : Bool) → 0 < now → (w ≡ true → now < next)
    → ((nat_lt 0 n && nat_lt n now) || ((n == now && u) || ((w && n == next) && v))) ≡ true
    → ((n == now && not u) || ((w && n == next) && not v)) ≡ false
once_by n now next true true true p q h = let r = q refl in grind (arith, nat_tests)
once_by n now next true false true p q h = let r = q refl in grind (arith, nat_tests)
once_by n now next false true true p q h = let r = q refl in grind (arith, nat_tests)
once_by n now next false false true p q h = let r = q refl in grind (arith, nat_tests)
once_by n now next true v false p q h = grind (arith, nat_tests)
once_by n now next false v false p q h = grind (arith, nat_tests)

once_on : (n : ℕ) (x : Side) → IsSound x → was_on n x ≡ true → wants_on n x ≡ false
once_on n x sound h =
    once_by n x.now x.next x.now_up x.next_up x.under_way sound.first sound.behind h

-- ---- the rows that are told a timeout

-- but for the times, the sides stay
same_but_times : (s t : ClientRole) → Sound s
    → record (sides t) { outs = record (sides t).outs { limit = None; next_limit = None } }
    ≡ record (sides s) { outs = record (sides s).outs { limit = None; next_limit = None } }
    → Later s t
same_but_times s t sound same =
    let outs : record (sides t).outs { limit = None; next_limit = None }
    ≡ record (sides s).outs { limit = None; next_limit = None } =
    ap (λ (x : Sides). x.outs) same in
    let ins : (sides t).ins ≡ (sides s).ins = ap (λ (x : Sides). x.ins) same in
    record {
      ins = subst (Grows (sides s).ins) (sym ins) (grows_self (sides s).ins sound.ins);
      outs = untimed (sides s).outs (sides t).outs
          (subst (Grows (record (sides s).outs { limit = None; next_limit = None })) (sym outs)
          (grows_self (record (sides s).outs { limit = None; next_limit = None })
          (record {
            first = sound.outs.first;
            behind = sound.outs.behind;
            now_last = sound.outs.now_last;
            next_last = sound.outs.next_last;
          })));
    }
  where
    untimed : (x y : Side) → Grows (record x { limit = None; next_limit = None })
        (record y { limit = None; next_limit = None }) → Grows x y
    untimed x y g = record {
      was = g.was;
      sound = record {
        first = g.sound.first;
        behind = g.sound.behind;
        now_last = g.sound.now_last;
        next_last = g.sound.next_last;
      };
    }

timed : (s : ClientRole) (n : ℕ) (count : Count) (packet : Named) → Sound s
    → Timed AreSound AllGrow growing s n count packet
timed s n count packet sound = record {
  a3 = λ timeout is.
      same_but_times s (on_conn_a3 s n count timeout).0 sound (search rules);
  a6 = λ to version timeout is.
      same_but_times s (on_out_r1_a6 s n to timeout).0 sound (search rules);
}

-- ---- moves and calls

later_move : (p : Passage ClientRole) (move : Move) → Sound p.role
    → Later p.role (moved client.rules p move).role
later_move p (Up leg cookie) sound =
    up_later AreSound AllGrow growing p.role leg.number cookie leg.kind sound
later_move p (HeadCame leg text) sound = later_self AreSound AllGrow growing p.role sound
later_move p (PduCame leg count bytes) sound =
    by_row (Later p.role) p leg (Pdu bytes) (pdu p.role leg count bytes)
    (pdu_later AreSound AllGrow growing p.role leg.number bytes leg.kind sound)
later_move p (PacketCame leg count named) sound =
    by_row (Later p.role) p leg (Packet named) (packet p.role leg count named)
    (packet_later AreSound AllGrow growing p.role leg.number count named leg.kind
    (timed p.role leg.number count named sound) sound)
later_move p (Puts leg) sound =
    by_put (Later p.role) p leg (put p.role leg)
    (pick_later AreSound AllGrow growing p.role (put_by p.role leg.number leg.kind) sound
    (put_by_later AreSound AllGrow growing p.role leg.number leg.kind sound))
later_move p (IsDrawn leg) sound =
    later_same AreSound AllGrow growing p.role (drawn p.role leg) sound
    (drawn_same AreSound AllGrow growing p.role leg.number leg.kind)
later_move p (Marks leg) sound = later_self AreSound AllGrow growing p.role sound
later_move p (Pings leg) sound =
    later_same AreSound AllGrow growing p.role (ping p.role leg) sound
    (ping_same AreSound AllGrow growing p.role leg.number leg.kind)

later_call : (p : EndPassage ClientRole) (move : EndMove) → Sound p.passage.role
    → Later p.passage.role (end_moved client.rules client.acts p move).passage.role
later_call p (Moves move) sound = later_move p.passage move sound
later_call p (Gives bytes) sound =
    by_given (Later p.passage.role) p bytes (give p.passage.role bytes)
    (later_same AreSound AllGrow growing p.passage.role (give p.passage.role bytes).0 sound
    (give_same AreSound AllGrow growing p.passage.role bytes))
later_call p Takes sound =
    by_first (Later p.passage.role) (end_now_at p (take p.passage.role))
    p.passage.role.line.current.pdus (take_later AreSound AllGrow growing p.passage.role sound)
later_call p Closes sound =
    later_same AreSound AllGrow growing p.passage.role (close p.passage.role) sound refl
later_call p Recycles sound =
    recycle_later AreSound AllGrow growing p.passage.role p.passage.role.replacement sound

-- ---- what was up

stays_up : (s t : ClientRole) (leg : Leg) → Later s t → was_up s leg ≡ true → was_up t leg ≡ true
stays_up s t leg g = by leg.kind
  where
    by : (k : LegKind) → was_up_by s leg.number k ≡ true → was_up_by t leg.number k ≡ true
    by ClientOut h = g.outs.was leg.number h
    by ClientIn h = g.ins.was leg.number h
    by OutServer h = absurd cc
    by InServer h = absurd cc

not_wanted : (s : ClientRole) (leg : Leg) → Sound s → was_up s leg ≡ true → wants s leg ≡ false
not_wanted s leg sound = by leg.kind
  where
    by : (k : LegKind) → was_up_by s leg.number k ≡ true → wants_by s leg.number k ≡ false
    by ClientOut h = once_on leg.number (sides s).outs sound.outs h
    by ClientIn h = once_on leg.number (sides s).ins sound.ins h
    by OutServer h = absurd cc
    by InServer h = absurd cc

-- the leg in use comes up
now_comes : (a b c : Bool) → b ≡ true → (a || ((b && true) || c)) ≡ true
now_comes a true c e = or_true a
now_comes a false c e = absurd cc

-- its successor's does
next_comes : (a b u w v : Bool) → b ≡ false → ((b && not u) || (w && not v)) ≡ true
    → (a || ((b && u) || (w && true))) ≡ true
next_comes a true u w v e h = absurd cc
next_comes a false u true v e h = or_true a
next_comes a false u false v e h = absurd cc

comes_up : (s : ClientRole) (leg : Leg) (cookie : Cookie) → wants s leg ≡ true
    → was_up (up s leg cookie) leg ≡ true
comes_up s leg cookie = by leg.kind
  where
    by : (k : LegKind) → wants_by s leg.number k ≡ true
        → was_up_by (up_by s leg.number cookie k) leg.number k ≡ true
    by ClientIn h =
        by_test (λ (t : ClientRole). was_in_up t leg.number ≡ true) (is_writing s leg.number)
        (record s { writing = in_up s.writing cookie })
        (record s { in_successor = in_up s.in_successor cookie })
        (λ e. now_comes (nat_lt 0 leg.number && nat_lt leg.number s.writing.number)
        (is_writing s leg.number)
        (is_in_successor s leg.number && is_up s.in_successor.opening) e)
        (λ e. next_comes (nat_lt 0 leg.number && nat_lt leg.number s.writing.number)
        (is_writing s leg.number) (is_up s.writing.opening) (is_in_successor s leg.number)
        (is_up s.in_successor.opening) e h)
    by ClientOut h =
        by_test (λ (t : ClientRole). was_out_up t leg.number ≡ true) (is_current s leg.number)
        (record s { current = out_up s.current cookie })
        (record s { out_successor = out_up s.out_successor cookie; line = with_next s.line })
        (λ e. now_comes (nat_lt 0 leg.number && nat_lt leg.number s.current.number)
        (is_current s leg.number)
        (is_out_successor s leg.number && is_up s.out_successor.opening) e)
        (λ e. next_comes (nat_lt 0 leg.number && nat_lt leg.number s.current.number)
        (is_current s leg.number) (is_up s.current.opening) (is_out_successor s leg.number)
        (is_up s.out_successor.opening) e h)
    by OutServer h = absurd cc
    by InServer h = absurd cc

numbered : (s : ClientRole) → Sound s → ClientIsNumbered s
numbered s sound = record { ins = sound.ins; outs = sound.outs }

sound_then : (s t : ClientRole) → Later s t → Sound t
sound_then s t p = record { ins = p.ins.sound; outs = p.outs.sound }

pub sound_is : (s : ClientRole) → ClientIsNumbered s → Sound s
sound_is s is = record { ins = is.ins; outs = is.outs }

pub client_once : ComesUpOnce client.rules ClientIsNumbered
client_once = record {
  kept = λ p move is may.
      numbered (moved client.rules p move).role
      (sound_then p.role (moved client.rules p move).role
      (later_move p move (sound_is p.role is)));
  stays = λ p move leg is may h.
      stays_up p.role (moved client.rules p move).role leg
      (later_move p move (sound_is p.role is)) h;
  up = λ s leg cookie is may. comes_up s leg cookie may.1;
  once = λ s leg is h. not_wanted s leg (sound_is s is) h;
  unwanted = λ s leg is h. not_wanted s leg (sound_is s is) h;
}

pub client_keeps : KeepsUp client.rules client.acts ClientIsNumbered
client_keeps = record {
  kept = λ p move is may.
      numbered (end_moved client.rules client.acts p move).passage.role
      (sound_then p.passage.role (end_moved client.rules client.acts p move).passage.role
      (later_call p move (sound_is p.passage.role is)));
  stays = λ p move leg is may h.
      stays_up p.passage.role (end_moved client.rules client.acts p move).passage.role leg
      (later_call p move (sound_is p.passage.role is)) h;
}

pub first_is : (config : ClientConfig) → ClientIsNumbered (first config)
first_is config = record {
  ins = record {
    first = omega arith;
    behind = λ e. absurd cc;
    now_last = omega arith;
    next_last = λ e. absurd cc;
  };
  outs = record {
    first = omega arith;
    behind = λ e. absurd cc;
    now_last = omega arith;
    next_last = λ e. absurd cc;
  };
}

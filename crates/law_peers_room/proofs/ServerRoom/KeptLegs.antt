-- of each channel a server forwards one acknowledgement to each destination, and has a leg for each
-- to an out proxy that waits, whatever happens
use Rattle.law_order.proofs.Vocabulary.{◌≡◌, ℕ, ◌+◌, ◌<◌, ◌≤◌, Bool, true, false, List, [], ◌∷◌, ◌++◌, Some, None, refl, sym, ap, ◌∙◌, subst, arith, false≢true, IfSome, remove, slice_get, slice_set, AllByRecursion, Option}
use Rattle.rh_sig.specs.declared.named.Named.TheVariants as named
use Rattle.rh_server.specs.declared.state.Replacement.TheVariants as replacement
use Rattle.rh_server.specs.declared.state.Stage.TheVariants as stage
use Rattle.law_moves.proofs.Vocabulary.{Cookie, Named, Due, own, to_forward, key_of, merged, without_first, EndMove}
use Rattle.law_moves.proofs.Lemmas.{all_append, each_so}
use Rattle.law_role_server.proofs.Vocabulary.{OutLeg, Replacement, Stage, counted, is_ack_of, is_of_channel, is_open, is_steady, length_of, lets, Server, gate}
use Rattle.law_role_server.proofs.Each.{each_got, each_removed, each_set}
use Rattle.law_role_server_in.specs.Handovers.{passed}
use Rattle.law_peers_room.proofs.ServerRoom.Apart.{AreRight, added_right, forwarded_right, less_right, merged_right}
use Rattle.law_peers_room.proofs.ServerRoom.Meters.{is_answered}
use Rattle.law_peers_room.proofs.ServerRoom.Owners.{AreOwned, leg_pushed, leg_removed, leg_set, none_left, owned_added, owned_less, owned_merged, owned_pushed, owned_so, owned_without}
use Rattle.law_peers_room.proofs.ServerRoom.ViewPuts.{ArePut, rest}
use Rattle.law_peers_room.proofs.ServerRoom.ViewRows.{settled_serves}
use Rattle.law_peers_room.proofs.ServerRoom.ViewSteps.{all_long, view_keeps}
use Rattle.law_peers_room.proofs.ServerRoom.Views.{AreKept, View, had_out, view}

-- channels began on the legs up to this one at most
abbrev used_by : Bool → Bool → ℕ → ℕ
used_by false answered writing = 0
used_by true true writing = writing + 1
used_by true false writing = writing

abbrev used : View → ℕ
used v = used_by (had_out v.at) (is_answered v.how) v.writing

abbrev Fresh : ℕ → OutLeg → Type 0
Fresh n leg = n < leg.number → leg.cookie ≡ None

pub record Owns (v : View) : Type 0 where
  pub room : v.room ≡ 20
  pub right : AreRight v.dues
  pub positive : 1 ≤ v.writing
  pub fresh : AllByRecursion (Fresh (used v)) v.legs
  pub owned : AreOwned v.legs v.dues

-- ---- tests

steady_none : (r : Replacement) → is_steady r ≡ true → is_answered r ≡ false
steady_none replacement.Steady e = refl
steady_none replacement.Asked e = absurd cc
steady_none (replacement.Answered successor) e = absurd cc
steady_none replacement.Confirmed e = absurd cc

open_had : (x : Stage) → is_open x ≡ true → had_out x ≡ true
open_had stage.Waits e = absurd cc
open_had (stage.OutCame connection) e = absurd cc
open_had (stage.InCame connection window timeout) e = absurd cc
open_had (stage.Open connection) e = refl
open_had stage.Ended e = absurd cc

ended_more : (had answered : Bool) (writing : ℕ)
    → used_by had answered writing ≤ used_by true answered writing
ended_more true answered writing = omega arith
ended_more false answered writing = omega arith

handed_more : (had answered : Bool) (writing : ℕ)
    → used_by had answered writing ≤ used_by had false (writing + 1)
handed_more false answered writing = omega arith
handed_more true true writing = omega arith
handed_more true false writing = omega arith

one_used : (answered : Bool) (writing : ℕ) → 1 ≤ writing → 1 ≤ used_by true answered writing
one_used true writing least = omega arith
one_used false writing least = least

-- ---- what waits

dues_own : (v : View) (dues : List Due) → (AreRight v.dues → AreRight dues)
    → (AreOwned v.legs v.dues → AreOwned v.legs dues) → Owns v → Owns (record v { dues = dues })
dues_own v dues right owned h = record {
  room = h.room;
  right = right h.right;
  positive = h.positive;
  fresh = h.fresh;
  owned = owned h.owned;
}

adds_own : (v : View) (packet : Named) → key_of packet ≡ None → Owns v
    → Owns (record v { dues = v.dues ++ own packet ∷ [] })
adds_own v packet none h =
    dues_own v (v.dues ++ own packet ∷ []) (added_right v.dues packet none)
    (owned_added v.legs v.dues packet none) h

less_own : (v : View) (may_go : Due → Bool) → Owns v
    → Owns (record v { dues = without_first may_go v.dues })
less_own v may_go h =
    dues_own v (without_first may_go v.dues) (less_right may_go v.dues)
    (owned_less v.legs may_go v.dues) h

-- ---- legs

-- channels begin on no leg
more_owns : (v : View) (at : Stage) (how : Replacement) (writing : ℕ)
    → used v ≤ used (record v { at = at; how = how; writing = writing }) → v.writing ≤ writing
    → Owns v → Owns (record v { at = at; how = how; writing = writing })
more_owns v at how writing le up h = record {
  room = h.room;
  right = h.right;
  positive = let least = h.positive in omega (arith, least, up);
  fresh = each_so (Fresh (used v))
      (Fresh (used (record v { at = at; how = how; writing = writing })))
      (λ leg is less. is (omega (arith, le, less))) v.legs h.fresh;
  owned = h.owned;
}

-- a channel begins on a leg that had none
begin_owns : (v : View) (now : Stage) (how : Replacement) (place : ℕ) (leg new : OutLeg)
    → slice_get v.legs place ≡ Some leg → new.number ≡ leg.number → used v < leg.number
    → leg.number ≤ used (record v { at = now; how = how })
    → Owns v → Owns (record v { at = now; how = how; legs = slice_set v.legs place new })
begin_owns v now how place leg new at number less most h = record {
  room = h.room;
  right = h.right;
  positive = h.positive;
  fresh = each_set (Fresh (used (record v { at = now; how = how }))) v.legs place new
      (λ above. absurd (omega (arith, above, number, most)))
      (each_so (Fresh (used v)) (Fresh (used (record v { at = now; how = how })))
      (λ one is over. is (omega (arith, less, most, over))) v.legs h.fresh);
  owned = owned_so v.legs (slice_set v.legs place new)
      (λ c e. leg_set c v.legs place leg new at
      (λ is. absurd (false≢true (ap (is_of_channel c) (sym none) ∙ is))) e) v.dues h.owned;
}
  where
    none : leg.cookie ≡ None
    none =
        subst (λ o. IfSome o (Fresh (used v))) at
        (each_got (Fresh (used v)) v.legs place h.fresh) less

set_owns : (v : View) (place : ℕ) (leg new : OutLeg) → slice_get v.legs place ≡ Some leg
    → new.number ≡ leg.number → new.cookie ≡ leg.cookie → Owns v
    → Owns (record v { legs = slice_set v.legs place new })
set_owns v place leg new at number cookie h = record {
  room = h.room;
  right = h.right;
  positive = h.positive;
  fresh = each_set (Fresh (used v)) v.legs place new
      (λ less. cookie ∙ subst (λ o. IfSome o (Fresh (used v))) at
      (each_got (Fresh (used v)) v.legs place h.fresh) (omega (arith, less, number))) h.fresh;
  owned = owned_so v.legs (slice_set v.legs place new)
      (λ c e. leg_set c v.legs place leg new at
      (λ is. ap (is_of_channel c) cookie ∙ is) e) v.dues h.owned;
}

-- ---- all steps

owns_kept : AreKept 0 Owns
owns_kept = record {
  adds = λ v packet other none h. adds_own v packet none h;
  forwards = λ v packet other ack has none h.
      dues_own v (v.dues ++ to_forward packet ∷ []) (forwarded_right v.dues packet ack none)
      (owned_pushed v.legs v.dues packet has) h;
  merges = λ v packet key ack is h.
      dues_own v (merged v.dues packet) (merged_right v.dues packet ack)
      (owned_merged v.legs v.dues packet) h;
  asks = λ v steady h.
      let same = ap (λ (b : Bool). used_by (had_out v.at) b v.writing)
      (steady_none v.how steady) in
      adds_own (record v { how = replacement.Asked }) (named.OutR1A1 0) refl
      (more_owns v v.at replacement.Asked v.writing (omega (arith, same)) (omega arith) h);
  answered = λ v successor timeout place leg new running at next number none long how not_yet h.
      let now : used v ≡ v.writing =
      ap (λ (b : Bool). used_by b (is_answered v.how) v.writing) (open_had v.at running)
      ∙ ap (λ (b : Bool). used_by true b v.writing) not_yet in
      let then_used : used_by (had_out v.at) true v.writing ≡ v.writing + 1 =
      ap (λ (b : Bool). used_by b true v.writing) (open_had v.at running) in
      adds_own (record v {
        how = replacement.Answered successor;
        legs = slice_set v.legs place new;
      }) (named.OutR1A5 0 1 timeout) refl
      (begin_owns v v.at (replacement.Answered successor) place leg new at number
      (omega (arith, now, next)) (omega (arith, then_used, next)) h);
  confirms = λ v was how h.
      let same = ap (λ (b : Bool). used_by (had_out v.at) b v.writing) was in
      adds_own (record v { how = replacement.Confirmed }) named.OutR1A9 refl
      (more_owns v v.at replacement.Confirmed v.writing (omega (arith, same)) (omega arith) h);
  came_in = λ v now early has had h.
      let same = ap (λ (b : Bool). used_by b (is_answered v.how) v.writing) had in
      more_owns v now v.how v.writing (omega (arith, same)) (omega arith) h;
  came_out = λ v now early none had h.
      let zero_used = none_used v none in
      more_owns v now v.how v.writing (omega (arith, zero_used)) (omega arith) h;
  first_out = λ v now place leg new early none had at is_first number count long h.
      let zero_used = none_used v none in
      let least = subst (λ (b : Bool). 1 ≤ used_by b (is_answered v.how) v.writing) (sym had)
      (one_used (is_answered v.how) v.writing h.positive) in
      begin_owns v now v.how place leg new at number (omega (arith, zero_used, is_first))
      (omega (arith, is_first, least)) h;
  ended = λ v h.
      let more = ended_more (had_out v.at) (is_answered v.how) v.writing in
      more_owns v stage.Ended v.how v.writing more (omega arith) h;
  came_up = λ v new number meter none h. record {
    room = h.room;
    right = h.right;
    positive = h.positive;
    fresh = all_append (Fresh (used v)) v.legs (new ∷ []) h.fresh ((λ less. none), tt);
    owned = owned_so v.legs (v.legs ++ new ∷ []) (λ c e. leg_pushed c v.legs new e) v.dues
        h.owned;
  };
  leg_set = λ v place leg new at number meter cookie h.
      set_owns v place leg new at number cookie h;
  bare_gone = λ v place none h. record {
    room = h.room;
    right = h.right;
    positive = h.positive;
    fresh = each_removed (Fresh (used v)) v.legs place h.fresh;
    owned = owned_so v.legs (remove v.legs place)
        (λ c e. leg_removed c v.legs place (bare c (slice_get v.legs place) none) e) v.dues
        h.owned;
  };
  leg_gone = λ v place leg cookie at is h. record {
    room = h.room;
    right = less_right (is_ack_of cookie) v.dues h.right;
    positive = h.positive;
    fresh = each_removed (Fresh (used v)) v.legs place h.fresh;
    owned = owned_without cookie v.legs place leg at is
        (without_first (is_ack_of cookie) v.dues)
        (none_left cookie v.dues (h.right).apart)
        (owned_less v.legs (is_ack_of cookie) v.dues h.owned);
  };
}
  where
    none_used : (v : View) → had_out v.at ≡ false → used v ≡ 0
    none_used v none = ap (λ (b : Bool). used_by b (is_answered v.how) v.writing) none

    bare : (c : Cookie) (o : Option OutLeg) → IfSome o (λ (leg : OutLeg). leg.cookie ≡ None)
        → IfSome o (λ (leg : OutLeg). is_of_channel c leg.cookie ≡ false)
    bare c None none = tt
    bare c (Some leg) none = ap (is_of_channel c) none

owns_put : (n : ℕ) (s : Server) → Owns (view s) → ArePut n s (λ m. Owns) (λ m. Owns)
owns_put n s h = record {
  greets = λ place leg new is number meter cookie.
      set_owns (view s) place leg new is.at number cookie h;
  alone = λ place leg is due may received window cookie same. less leg;
  counts_it = λ place leg is due may let_go apart.
      set_owns (record (view s) { dues = rest s leg }) place leg
      (counted leg (length_of due.packet)) is.at refl refl (less leg);
  hands = λ place leg is due may let_go same confirmed below.
      let more = handed_more (had_out s.stage) (is_answered s.replacement) s.writing in
      more_owns (record (view s) {
        legs = slice_set s.outs place (counted leg 24);
        dues = rest s leg;
      }) s.stage replacement.Steady (s.writing + 1) more (omega arith)
      (set_owns (record (view s) { dues = rest s leg }) place leg (counted leg 24) is.at refl refl
      (less leg));
  beside = λ place leg new len m is running none writes number meter cookie in_it besides.
      set_owns (view s) place leg new is.at number cookie h;
  settles = λ m t running now. settled_serves 0 Owns owns_kept t now;
}
  where
    less : (leg : OutLeg) → Owns (record (view s) { dues = rest s leg })
    less leg = less_own (view s) (lets (gate s leg)) h

pub owns : (window : ℕ) (moves : List EndMove) → Owns (view (passed window moves).role)
owns window moves =
    view_keeps 0 Owns owns_kept (λ m. Owns) owns_put window moves (record {
      room = refl;
      right = record { each = tt; apart = tt };
      positive = omega arith;
      fresh = tt;
      owned = tt;
    }) (all_long (passed window moves).came)

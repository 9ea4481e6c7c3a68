-- where no replacement is under way, the writing channel of a server has room for an
-- acknowledgement to the client, or for nothing
use Rattle.rh_keep.specs.Meters.{started}
use Rattle.law_order.proofs.Vocabulary.{◌≡◌, ◌⊎◌, inl, inr, ℕ, ◌+◌, ◌≤◌, ◌==◌, ◌&&◌, ◌||◌, cond, Bool, true, false, nat_lt, not, if◌then◌else◌, List, [], ◌∷◌, ◌++◌, Some, None, refl, sym, ap, ◌∙◌, subst, arith, nat_tests, IfSome, find, remove, slice_get, slice_set, AllByRecursion, Option}
use Rattle.rh_sig.specs.declared.named.Named.TheVariants as named
use Rattle.rh_shell.specs.Waiting.{is_of}
use Rattle.rh_server.specs.declared.out_line.Kind.TheVariants as kind
use Rattle.rh_server.specs.declared.state.Replacement.TheVariants as replacement
use Rattle.rh_server.specs.declared.state.Stage.TheVariants as stage
use Rattle.law_moves.proofs.Vocabulary.{Meter, wanted, by_test, same_number, test_same, Cookie, Named, Due, Own, Message, Key, better, edge_of, key_of, merged, own, takes, to_forward, without_first, EndMove}
use Rattle.law_moves.proofs.Lemmas.{all_append, each_so}
use Rattle.law_role_server.proofs.Vocabulary.{OutLeg, Stage, completed, is_complete, settled, is_ack_of, is_kind, is_own, asks, is_under_way, last_number, wanted_by, wishes, Server, is_open, is_some, is_steady, out_at, out_leg, out_place, first}
use Rattle.law_role_server.proofs.Counted.InLegs.{next_place, place_step}
use Rattle.law_role_server.proofs.Each.{each_got, each_removed, each_set}
use Rattle.law_role_server_in.specs.Handovers.{passed}
use Rattle.law_peers_room.proofs.ServerRoom.Legs.{Above, Sorted, sorted_pushed, sorted_removed, sorted_set}
use Rattle.law_peers_room.proofs.ServerRoom.ViewPuts.{ArePut}
use Rattle.law_peers_room.proofs.ServerRoom.ViewRows.{settled_serves}
use Rattle.law_peers_room.proofs.ServerRoom.ViewSteps.{view_keeps}
use Rattle.law_peers_room.proofs.ServerRoom.Views.{AreKept, View, had_out, has_out, view}
use Rattle.law_peers_room.proofs.InRoom.Turns.{one_is as same_keys}
use Rattle.law_peers_room.specs.ServerRoom.Overtaking.{AreLong}
use Rattle.law_peers_forwarding.proofs.ServerFull.Filling.{and_none}
use Rattle.law_peers_forwarding.proofs.Phases.{other_way}

-- ---- packets of a replacement

or_less : (a b c : Bool) → (c ≡ false → b ≡ false) → a || c ≡ false → a || b ≡ false
or_less true b c so e = absurd cc
or_less false b c so e = so e

abbrev of_wishes : Due → Bool
of_wishes due = is_own kind.OutR1 due

keyed_none : (packet : Named) (key : Key) → key_of packet ≡ Some key
    → is_kind kind.OutR1 packet ≡ false
keyed_none (named.AckTo to received window cookie) key e = refl
keyed_none packet key e = absurd cc

keyed_other : (due : Due) (key : Key) → key_of due.packet ≡ Some key → of_wishes due ≡ false
keyed_other due key e =
    and_none (is_of Own due) (is_kind kind.OutR1 due.packet) (keyed_none due.packet key e)

module _ (test : Due → Bool) where
  abbrev finds : List Due → Bool
  finds dues = is_some (find test dues)

  abbrev if_first : Bool → Due → List Due → Bool
  if_first b first dues = is_some (if b then Some first else find test dues)

  found_pushed : (dues : List Due) (due : Due) → finds (dues ++ due ∷ []) ≡ false
      → finds dues ≡ false
  found_pushed [] due e = refl
  found_pushed (first ∷ dues) due e = by (test first) e (found_pushed dues due)
    where
      by : (b : Bool) → if_first b first (dues ++ due ∷ []) ≡ false
          → (finds (dues ++ due ∷ []) ≡ false → finds dues ≡ false)
          → if_first b first dues ≡ false
      by true e rest = absurd cc
      by false e rest = rest e

  -- those that go pass the test not
  found_gone : (may_go : Due → Bool)
      → ((due : Due) → may_go due ≡ true → test due ≡ false)
      → (dues : List Due) → finds (without_first may_go dues) ≡ false → finds dues ≡ false
  found_gone may_go other [] e = refl
  found_gone may_go other (first ∷ dues) e =
      by (may_go first) refl e (found_gone may_go other dues)
    where
      one : (b : Bool) → if_first b first (without_first may_go dues) ≡ false
          → (finds (without_first may_go dues) ≡ false → finds dues ≡ false)
          → if_first b first dues ≡ false
      one true e rest = absurd cc
      one false e rest = rest e

      by : (b : Bool) → may_go first ≡ b
          → finds (if b then dues else first ∷ without_first may_go dues) ≡ false
          → (finds (without_first may_go dues) ≡ false → finds dues ≡ false)
          → if_first (test first) first dues ≡ false
      by true may e rest = ap (λ (b : Bool). if_first b first dues) (other first may) ∙ e
      by false may e rest = one (test first) e rest

found_merged : (dues : List Due) (packet : Named) (key : Key) → key_of packet ≡ Some key
    → finds of_wishes (merged dues packet) ≡ false → finds of_wishes dues ≡ false
found_merged [] packet key is e = refl
found_merged (first ∷ dues) packet key is e =
    by (takes packet first) refl e (found_merged dues packet key is)
  where
    one : (b : Bool) → if_first of_wishes b first (merged dues packet) ≡ false
        → (finds of_wishes (merged dues packet) ≡ false → finds of_wishes dues ≡ false)
        → if_first of_wishes b first dues ≡ false
    one true e rest = absurd cc
    one false e rest = rest e

    better_other : of_wishes first ≡ false → of_wishes (better first packet) ≡ false
    better_other unlike =
        by_test (λ (d : Due). of_wishes d ≡ false)
        (nat_lt (edge_of packet) (edge_of first.packet)) first
        (record { packet = packet; origin = first.origin }) (λ f. unlike)
        (λ f. keyed_other (record { packet = packet; origin = first.origin }) key is)

    by : (b : Bool) → takes packet first ≡ b
        → finds of_wishes
        (if b then better first packet ∷ dues else first ∷ merged dues packet) ≡ false
        → (finds of_wishes (merged dues packet) ≡ false → finds of_wishes dues ≡ false)
        → if_first of_wishes (of_wishes first) first dues ≡ false
    by true same e rest =
        let unlike = keyed_other first key
        (same_keys (key_of first.packet) (key_of packet) same ∙ is) in
        ap (λ (b : Bool). if_first of_wishes b first dues) unlike
        ∙ sym (ap (λ (b : Bool). if_first of_wishes b (better first packet) dues)
        (better_other unlike)) ∙ e
    by false same e rest = one (of_wishes first) e rest

-- ---- the writing leg

every : (P : OutLeg → Type 0) → ((leg : OutLeg) → P leg) → (legs : List OutLeg)
    → AllByRecursion P legs
every P so [] = tt
every P so (leg ∷ legs) = (so leg, every P so legs)

-- what is wanted by none that is found, is by none of the number
not_wanted : (n : ℕ) (legs : List OutLeg) → Sorted legs → wanted_by (out_leg n legs) ≡ false
    → AllByRecursion (λ (leg : OutLeg). leg.number ≡ n → wanted leg.meter ≡ false) legs
not_wanted n [] sorted e = tt
not_wanted n (leg ∷ legs) sorted e =
    by (leg.number == n) refl
    (subst (λ (o : Option ℕ). wanted_by (out_at (leg ∷ legs) o) ≡ false)
    (place_step (λ (one : OutLeg). one.number == n) leg legs) e)
    (λ f. not_wanted n legs sorted.1 f)
  where
    Each : OutLeg → Type 0
    Each one = one.number ≡ n → wanted one.meter ≡ false

    behind : (o : Option ℕ)
        → wanted_by (out_at (leg ∷ legs) (next_place o)) ≡ false
        → wanted_by (out_at legs o) ≡ false
    behind None e = refl
    behind (Some place) e = e

    by : (b : Bool) → (leg.number == n) ≡ b
        → wanted_by (out_at (leg ∷ legs) (cond b (Some 0) (next_place (out_place n legs))))
        ≡ false
        → (wanted_by (out_leg n legs) ≡ false → AllByRecursion Each legs)
        → AllByRecursion Each (leg ∷ legs)
    by true is e rest = (
      λ f. e,
      each_so (Above leg.number) Each
          (λ other above f. let here = same_number leg.number n is in
          absurd (omega (arith, above, f, here))) legs sorted.0,
    )
    by false is e rest = (
      λ f. absurd (unlike
          (sym (subst (λ (k : ℕ). (k == n) ≡ true) (sym f) (test_same n)) ∙ is)),
      rest (behind (out_place n legs) e),
    )
      where
        unlike : true ≡ false → ⊥
        unlike f = absurd cc

wide_so : (m : Meter) → wanted m ≡ false → m.count + 312 ≤ m.length
wide_so m e = grind (arith, nat_tests)

-- ---- what holds

abbrev pub under : View → Bool
under x = not (is_steady x.how) || is_some (find (is_own kind.OutR1) x.dues)

-- nothing goes any more
abbrev pub IsShut : Meter → Type 0
IsShut m = m.length ≤ m.count

-- an acknowledgement may go
abbrev pub IsWide : Meter → Type 0
IsWide m = m.count + 312 ≤ m.length

abbrev pub IsReady : Bool → Bool → Bool → Bool → ℕ → OutLeg → Type 0
IsReady had has way less writing leg =
    (had ≡ false → leg.number ≡ writing → IsShut leg.meter)
    × (has ≡ true → way ≡ false → less ≡ true → leg.number ≡ writing
    → IsShut leg.meter ⊎ IsWide leg.meter)

abbrev pub IsReadyAt : View → OutLeg → Type 0
IsReadyAt x leg =
    IsReady (had_out x.at) (has_out x.at) (under x) (nat_lt x.writing last_number) x.writing leg

abbrev pub AreReady : View → Type 0
AreReady x = AllByRecursion (IsReadyAt x) x.legs

open_had : (x : Stage) → is_open x ≡ true → had_out x ≡ true
open_had stage.Waits e = absurd cc
open_had (stage.OutCame connection) e = absurd cc
open_had (stage.InCame connection window timeout) e = absurd cc
open_had (stage.Open connection) e = refl
open_had stage.Ended e = absurd cc

pub open_has : (x : Stage) → is_open x ≡ true → has_out x ≡ true
open_has stage.Waits e = absurd cc
open_has (stage.OutCame connection) e = absurd cc
open_has (stage.InCame connection window timeout) e = absurd cc
open_has (stage.Open connection) e = refl
open_has stage.Ended e = absurd cc

-- no more than before
less_ready : (x : View) (had has way less : Bool) (writing : ℕ)
    → (had ≡ false → had_out x.at ≡ false) → (has ≡ true → has_out x.at ≡ true)
    → (way ≡ false → under x ≡ false) → less ≡ nat_lt x.writing last_number
    → writing ≡ x.writing → AreReady x
    → AllByRecursion (IsReady had has way less writing) x.legs
less_ready x had has way less writing a b c d e h =
    each_so (IsReadyAt x) (IsReady had has way less writing)
    (λ leg is. (
      λ f g. is.0 (a f) (g ∙ e),
      λ f g i j. is.1 (b f) (c g) (sym d ∙ i) (j ∙ e),
    )) x.legs h

-- where a replacement is under way
way_ready : (x : View) → had_out x.at ≡ true → under x ≡ true → (legs : List OutLeg)
    → AllByRecursion (IsReadyAt x) legs
way_ready x had way legs =
    every (IsReadyAt x) (λ leg. (
      λ e f. absurd (other_way (sym had ∙ e)),
      λ e f g i. absurd (other_way (sym way ∙ f)),
    )) legs

-- packets wait that are no others of a replacement than before
dues_ready : (x : View) (dues : List Due)
    → (finds of_wishes dues ≡ false → finds of_wishes x.dues ≡ false) → AreReady x
    → AreReady (record x { dues = dues })
dues_ready x dues so h =
    less_ready x (had_out x.at) (has_out x.at) (under (record x { dues = dues }))
    (nat_lt x.writing last_number) x.writing (λ e. e) (λ e. e)
    (or_less (not (is_steady x.how)) (finds of_wishes x.dues) (finds of_wishes dues) so) refl refl h

pushed_ready : (x : View) (due : Due) → AreReady x
    → AreReady (record x { dues = x.dues ++ due ∷ [] })
pushed_ready x due h =
    dues_ready x (x.dues ++ due ∷ []) (found_pushed of_wishes x.dues due) h

dropped_ready : (x : View) (cookie : Cookie) → AreReady x
    → AreReady (record x { dues = without_first (is_ack_of cookie) x.dues })
dropped_ready x cookie h =
    dues_ready x (without_first (is_ack_of cookie) x.dues)
    (found_gone of_wishes (is_ack_of cookie)
    (λ due e. keyed_other due (record { destination = 3; channel = cookie })
    (same_keys (key_of due.packet) (Some (record { destination = 3; channel = cookie })) e))
    x.dues) h

module _ (least : ℕ) (enough : 340 ≤ least) where
  pub ready_kept : AreKept least AreReady
  ready_kept = record {
    adds = λ x packet other none h. pushed_ready x (own packet) h;
    forwards = λ x packet other ack owned none h. pushed_ready x (to_forward packet) h;
    merges = λ x packet key ack is h.
        dues_ready x (merged x.dues packet) (found_merged x.dues packet key is) h;
    asks = λ x steady h.
        less_ready x (had_out x.at) (has_out x.at) true (nat_lt x.writing last_number) x.writing
        (λ e. e) (λ e. e) (λ e. absurd (other_way e)) refl refl h;
    answered = λ x successor timeout place leg new running at next number none long how not_yet h.
        way_ready (record x {
          how = replacement.Answered successor;
          dues = x.dues ++ own (named.OutR1A5 0 1 timeout) ∷ [];
        }) (open_had x.at running) refl (slice_set x.legs place new);
    confirms = λ x was how h.
        less_ready x (had_out x.at) (has_out x.at) true (nat_lt x.writing last_number) x.writing
        (λ e. e) (λ e. e) (λ e. absurd (other_way e)) refl refl h;
    came_in = λ x now early has had h.
        less_ready x (had_out now) (has_out now) (under x) (nat_lt x.writing last_number) x.writing
        (λ e. sym had ∙ e) (λ e. sym has ∙ e) (λ e. e) refl refl h;
    came_out = λ x now early none had h. comes x now none had h;
    first_out = λ x now place leg new early none had at is_first number count long h.
        each_set (IsReadyAt (record x { at = now })) x.legs place new (
          λ e f. absurd (other_way (sym had ∙ e)),
          λ e f g i. inr (omega (arith, enough, count, long)),
        )
        (comes x now none had h);
    ended = λ x h.
        every (IsReadyAt (record x { at = stage.Ended })) (λ leg. (
          λ e f. absurd (other_way e),
          λ e f g i. absurd (other_way (sym e)),
        )) x.legs;
    came_up = λ x new number meter bare h.
        all_append (IsReadyAt x) x.legs (new ∷ []) h (
          (
            λ e f. shut new meter,
            λ e f g i. inl (shut new meter),
          ),
          tt,
        );
    leg_set = λ x place leg new at number meter cookie h.
        each_set (IsReadyAt x) x.legs place new
        (same_ready (had_out x.at) (has_out x.at) (under x) (nat_lt x.writing last_number)
        x.writing leg new number meter
        (subst (λ o. IfSome o (IsReadyAt x)) at
        (each_got (IsReadyAt x) x.legs place h))) h;
    bare_gone = λ x place none h. each_removed (IsReadyAt x) x.legs place h;
    leg_gone = λ x place leg cookie at is h.
        let y : View = record x { dues = without_first (is_ack_of cookie) x.dues } in
        each_removed (IsReadyAt y) x.legs place (dropped_ready x cookie h);
  }
    where
      comes : (x : View) (now : Stage) → had_out x.at ≡ false → had_out now ≡ true
          → AreReady x
          → AllByRecursion (IsReadyAt (record x { at = now })) x.legs
      comes x now none had h =
          each_so (IsReadyAt x) (IsReadyAt (record x { at = now }))
          (λ leg is. (
            λ e f. absurd (other_way (sym had ∙ e)),
            λ e f g i. inl (is.0 none i),
          )) x.legs h

      shut : (new : OutLeg) → new.meter ≡ started 0 0 → IsShut new.meter
      shut new e = subst IsShut (sym e) (zero_shut (started 0 0) refl)
        where
          zero_shut : (m : Meter) → m.length ≡ 0 → IsShut m
          zero_shut m f = omega (arith, f)

      same_ready : (had has way less : Bool) (writing : ℕ) (leg new : OutLeg)
          → new.number ≡ leg.number → new.meter ≡ leg.meter
          → IsReady had has way less writing leg → IsReady had has way less writing new
      same_ready had has way less writing leg new number meter is = (
        λ e f. subst IsShut (sym meter) (is.0 e (sym number ∙ f)),
        λ e f g i. subst (λ (m : Meter). IsShut m ⊎ IsWide m) (sym meter)
            (is.1 e f g (sym number ∙ i)),
      )

-- ---- the order of the legs

abbrev pub AreSorted : View → Type 0
AreSorted x =
    Sorted x.legs × AllByRecursion (λ (leg : OutLeg). leg.number ≤ x.newest) x.legs

sorted_at : (x : View) (place : ℕ) (leg new : OutLeg) → slice_get x.legs place ≡ Some leg
    → new.number ≡ leg.number → AreSorted x
    → AreSorted (record x { legs = slice_set x.legs place new })
sorted_at x place leg new at number h = (
  sorted_set x.legs place leg new at number h.0,
  each_set (λ (one : OutLeg). one.number ≤ x.newest) x.legs place new
      (subst (λ (n : ℕ). n ≤ x.newest) (sym number)
      (subst (λ o. IfSome o (λ (one : OutLeg). one.number ≤ x.newest)) at
      (each_got (λ (one : OutLeg). one.number ≤ x.newest) x.legs place h.1))) h.1,
)

sorted_gone : (x : View) (place : ℕ) → AreSorted x
    → AreSorted (record x { legs = remove x.legs place })
sorted_gone x place h = (
  sorted_removed x.legs place h.0,
  each_removed (λ (one : OutLeg). one.number ≤ x.newest) x.legs place h.1,
)

pub sorted_kept : (least : ℕ) → AreKept least AreSorted
sorted_kept least = record {
  adds = λ x packet other none h. h;
  forwards = λ x packet other ack owned none h. h;
  merges = λ x packet key ack is h. h;
  asks = λ x steady h. h;
  answered = λ x successor timeout place leg new running at next number none long how not_yet h.
      sorted_at x place leg new at number h;
  confirms = λ x was how h. h;
  came_in = λ x now early has had h. h;
  came_out = λ x now early none had h. h;
  first_out = λ x now place leg new early none had at is_first number count long h.
      sorted_at x place leg new at number h;
  ended = λ x h. h;
  came_up = λ x new number meter bare h. (
    sorted_pushed x.newest x.legs new (omega (arith, number)) h.1 h.0,
    all_append (λ (one : OutLeg). one.number ≤ new.number) x.legs (new ∷ [])
        (each_so (λ (one : OutLeg). one.number ≤ x.newest)
        (λ (one : OutLeg). one.number ≤ new.number)
        (λ one is. omega (arith, is, number)) x.legs h.1) (omega arith, tt),
  );
  leg_set = λ x place leg new at number meter cookie h. sorted_at x place leg new at number h;
  bare_gone = λ x place none h. sorted_gone x place h;
  leg_gone = λ x place leg cookie at is h. sorted_gone x place h;
}

abbrev pub IsFit : View → Type 0
IsFit x = AreSorted x × AreReady x

pub fit_kept : (least : ℕ) → 340 ≤ least → AreKept least IsFit
fit_kept least enough = record {
  adds = λ x packet other none h.
      (a.adds x packet other none h.0, b.adds x packet other none h.1);
  forwards = λ x packet other ack owned none h. (
    a.forwards x packet other ack owned none h.0,
    b.forwards x packet other ack owned none h.1,
  );
  merges = λ x packet key ack is h.
      (a.merges x packet key ack is h.0, b.merges x packet key ack is h.1);
  asks = λ x steady h. (a.asks x steady h.0, b.asks x steady h.1);
  answered = λ x successor timeout place leg new running at next number none long how not_yet h. (
    a.answered x successor timeout place leg new running at next number none long how not_yet h.0,
    b.answered x successor timeout place leg new running at next number none long how not_yet h.1,
  );
  confirms = λ x was how h. (a.confirms x was how h.0, b.confirms x was how h.1);
  came_in = λ x now early has had h.
      (a.came_in x now early has had h.0, b.came_in x now early has had h.1);
  came_out = λ x now early none had h.
      (a.came_out x now early none had h.0, b.came_out x now early none had h.1);
  first_out = λ x now place leg new early none had at is_first number count long h. (
    a.first_out x now place leg new early none had at is_first number count long h.0,
    b.first_out x now place leg new early none had at is_first number count long h.1,
  );
  ended = λ x h. (a.ended x h.0, b.ended x h.1);
  came_up = λ x new number meter bare h.
      (a.came_up x new number meter bare h.0, b.came_up x new number meter bare h.1);
  leg_set = λ x place leg new at number meter cookie h. (
    a.leg_set x place leg new at number meter cookie h.0,
    b.leg_set x place leg new at number meter cookie h.1,
  );
  bare_gone = λ x place none h. (a.bare_gone x place none h.0, b.bare_gone x place none h.1);
  leg_gone = λ x place leg cookie at is h.
      (a.leg_gone x place leg cookie at is h.0, b.leg_gone x place leg cookie at is h.1);
}
  where
    a : AreKept least AreSorted
    a = sorted_kept least

    b : AreKept least AreReady
    b = ready_kept least enough

-- ---- puts

-- behind each put but a greeting it holds by itself
abbrev pub IsSettling : Message → View → Type 0
IsSettling m x = (is_open x.at ≡ true) × AreSorted x

completed_had : (t : Server) → is_open t.stage ≡ true → had_out (completed t).stage ≡ true
completed_had t e =
    by_test (λ (u : Server). had_out u.stage ≡ true) (is_complete t)
    (record t { stage = stage.Ended }) t (λ f. refl) (λ f. open_had t.stage e)

rests_ready : (u : Server) → Sorted u.outs → is_open u.stage ≡ true → wishes u ≡ false
    → AreReady (view u)
rests_ready u sorted running none =
    by (is_open u.stage) (nat_lt u.writing last_number) (is_under_way u)
    (wanted_by (out_leg u.writing u.outs)) running none refl
  where
    by : (a b c d : Bool) → a ≡ true → a && (b && (not c && d)) ≡ false
        → d ≡ wanted_by (out_leg u.writing u.outs)
        → AllByRecursion (IsReady (had_out u.stage) (has_out u.stage) c b u.writing) u.outs
    by false b c d e f g = absurd (other_way (sym e))
    by true true true d e f g =
        every (IsReady (had_out u.stage) (has_out u.stage) true true u.writing) (λ leg. (
          λ i j. absurd (other_way (sym (open_had u.stage running) ∙ i)),
          λ i j k l. absurd (other_way j),
        )) u.outs
    by true true false d e f g =
        each_so (λ (leg : OutLeg). leg.number ≡ u.writing → wanted leg.meter ≡ false)
        (IsReady (had_out u.stage) (has_out u.stage) false true u.writing)
        (λ leg is. (
          λ i j. absurd (other_way (sym (open_had u.stage running) ∙ i)),
          λ i j k l. inr (wide_so leg.meter (is l)),
        )) u.outs (not_wanted u.writing u.outs sorted (sym g ∙ f))
    by true false c d e f g =
        every (IsReady (had_out u.stage) (has_out u.stage) c false u.writing) (λ leg. (
          λ i j. absurd (other_way (sym (open_had u.stage running) ∙ i)),
          λ i j k l. absurd (other_way (sym k)),
        )) u.outs

settles_ready : (t : Server) → is_open t.stage ≡ true → Sorted t.outs
    → AreReady (view (settled t))
settles_ready t running sorted =
    by_test (λ (u : Server). AreReady (view u)) (wishes (completed t)) (asks (completed t))
    (completed t)
    (λ e. way_ready (view (asks (completed t))) (completed_had t running) refl
    (completed t).outs)
    (λ e. by (is_complete t) refl e)
  where
    by : (b : Bool) → is_complete t ≡ b
        → wishes (if b then record t { stage = stage.Ended } else t) ≡ false
        → AreReady (view (if b then record t { stage = stage.Ended } else t))
    by true c e =
        every (IsReadyAt (view (record t { stage = stage.Ended }))) (λ leg. (
          λ i j. absurd (other_way i),
          λ i j k l. absurd (other_way (sym i)),
        )) t.outs
    by false c e = rests_ready t sorted running e

module _ (n : ℕ) (s : Server) (least : ℕ) (enough : 340 ≤ least) (fit : IsFit (view s)) where
  pub fit_put : ArePut n s IsSettling (λ m x. IsFit x)
  fit_put = record {
    greets = λ place leg new is number meter cookie.
        (fit_kept least enough).leg_set (view s) place leg new is.at number meter cookie fit;
    alone = λ place leg is due first received window cookie same. (first.running, fit.0);
    counts_it = λ place leg is due first may apart.
        (first.running, sorted_at (view s) place leg _ is.at refl fit.0);
    hands = λ place leg is due first may same confirmed less.
        (first.running, sorted_at (view s) place leg _ is.at refl fit.0);
    beside = λ place leg new len m is running none writes number meter cookie in_it besides.
        (running, sorted_at (view s) place leg new is.at number fit.0);
    settles = λ m t running w. (
      settled_serves least AreSorted (sorted_kept least) t w.1,
      settles_ready t w.0 (w.1).0,
    );
  }

-- whatever moves a server makes
pub are_fit : (least : ℕ) → 340 ≤ least → (window : ℕ) (moves : List EndMove)
    → AreLong least (passed window moves).came → IsFit (view (passed window moves).role)
are_fit least enough window moves long =
    view_keeps least IsFit (fit_kept least enough) IsSettling
    (λ n s fit. fit_put n s least enough fit) window moves ((tt, tt), tt) long

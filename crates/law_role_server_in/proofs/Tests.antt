-- what the tests of a row tell, and what waits
use Rattle.law_order.proofs.Vocabulary.{◌≡◌, ℕ, zero, suc, ◌+◌, ◌<◌, ◌≤◌, ◌&&◌, ◌||◌, cond, nat_lt, Bool, true, false, true≢false, not, if◌then◌else◌, List, [], ◌∷◌, Some, None, Ok, Err, arith, refl, ap, ◌∙◌, false≢true, and_parts, nat_tests, find, slice_get, Option, Result}
use Rattle.rh_sig.specs.declared.named.Named.TheVariants as named
use Rattle.rh_line.specs.declared.line_fault.LineFault.TheVariants as line_fault
use Rattle.rh_shell.specs.Waiting.{is_of}
use Rattle.rh_shell.specs.declared.answers.Phase.TheVariants as phase
use Rattle.rh_server.specs.declared.out_line.Kind.TheVariants as kind
use Rattle.rh_server.specs.declared.state.Stage.TheVariants as stage
use Rattle.law_moves.proofs.Vocabulary.{WindowExceeded, Named, by_window, Which, Current, Next, Due, Own, is_ended, Message, Text, Pdu, Packet, packets, count_of}
use Rattle.law_role_server.proofs.Vocabulary.{Kind, InLeg, Stage, is_kind, is_own, is_fresh, is_open, is_some, is_waiting, phase_of, is_fresh_below, has_fresh_below, how_many, waits_on, is_conn_b2, is_in_r1_a2, is_in_r1_a3, is_in_r2_a3, waiting_of}
use Rattle.law_role_server_rows.proofs.InTurn.InPlaces.{Found}

pub at_least : (a b : ℕ) → nat_lt a b ≡ false → b ≤ a
at_least a b e = grind (arith, nat_tests, e)

-- the work is not done, and the server isn't open
pub still_opening : (x : Stage) → not (is_ended (phase_of x)) ≡ true → is_open x ≡ false
    → phase_of x ≡ phase.Opening
still_opening stage.Waits work shut = refl
still_opening (stage.OutCame connection) work shut = refl
still_opening (stage.InCame connection window timeout) work shut = refl
still_opening (stage.Open connection) work shut = absurd (true≢false shut)
still_opening stage.Ended work shut = absurd (false≢true work)

-- ---- no channel is found

pub none_current : (a f : Bool) (o : Option Which)
    → cond (a && not f) (Some Current) o ≡ None → a ≡ true → f ≡ true
none_current true true o e g = refl
none_current true false o e g = absurd (cc)
none_current false f o e g = absurd (false≢true g)

pub none_next : (t h b : Bool)
    → cond t (Some Current) (cond (h && b) (Some Next) None) ≡ None → h ≡ true → b ≡ true → ⊥
none_next true h b e f g = absurd (cc)
none_next false true true e f g = absurd (cc)
none_next false true false e f g = false≢true g
none_next false false b e f g = false≢true f

-- nothing is admitted behind END
pub is_over : (b : Bool) (x : Result (Unit {0}) WindowExceeded)
    → cond b (Err line_fault.Over) (by_window x) ≡ Err line_fault.Over → b ≡ true
is_over true x e = refl
is_over false (Ok admits) e = absurd (cc)
is_over false (Err exceeded) e = absurd (cc)

-- ---- what waits

-- a packet of a kind
kind_waits : (kind : Kind) (test : Named → Bool)
    → ((packet : Named) → is_kind kind packet ≡ true → test packet ≡ true) → (dues : List Due)
    → is_some (find (is_own kind) dues) ≡ true → 1 ≤ waiting_of test dues
kind_waits kind test of [] e = absurd (false≢true e)
kind_waits kind test of (due ∷ dues) e =
    by (is_own kind due) refl e (kind_waits kind test of dues)
  where
    here : (u : Bool) → u ≡ true
        → 1 ≤ (if u then suc (waiting_of test dues) else waiting_of test dues)
    here true f = omega arith
    here false f = absurd (false≢true f)

    further : (u : Bool) → 1 ≤ waiting_of test dues
        → 1 ≤ (if u then suc (waiting_of test dues) else waiting_of test dues)
    further true f = omega arith
    further false f = f

    by : (k : Bool) → is_own kind due ≡ k
        → is_some (if k then Some due else find (is_own kind) dues) ≡ true
        → (is_some (find (is_own kind) dues) ≡ true → 1 ≤ waiting_of test dues)
        → 1 ≤ waiting_of test (due ∷ dues)
    by true is f rest =
        here (test due.packet)
        (of due.packet (and_parts (is_of Own due) (is_kind kind due.packet) is).1)
    by false is f rest = further (test due.packet) (rest f)

pub in_r2_a3_waits : (dues : List Due) → is_some (find (is_own kind.InR2A3) dues) ≡ true
    → 1 ≤ waiting_of is_in_r2_a3 dues
in_r2_a3_waits = kind_waits kind.InR2A3 is_in_r2_a3 of
  where
    of : (packet : Named) → is_kind kind.InR2A3 packet ≡ true → is_in_r2_a3 packet ≡ true
    of (named.InR2A3 destination) f = refl
    of packet f = absurd (false≢true f)

pub in_r1_a3_waits : (dues : List Due) → is_some (find (is_own kind.InR1A3) dues) ≡ true
    → 1 ≤ waiting_of is_in_r1_a3 dues
in_r1_a3_waits = kind_waits kind.InR1A3 is_in_r1_a3 of
  where
    of : (packet : Named) → is_kind kind.InR1A3 packet ≡ true → is_in_r1_a3 packet ≡ true
    of (named.InR1A3 destination version window timeout) f = refl
    of packet f = absurd (false≢true f)

-- a leg whose channel waits is one of them
pub some_waits : (legs : List InLeg) (place : ℕ) (leg : InLeg) → slice_get legs place ≡ Some leg
    → is_waiting leg.stage ≡ true → 1 ≤ how_many waits_on legs
some_waits [] place leg at e = absurd (cc)
some_waits (x ∷ legs) zero leg at e =
    here (is_waiting x.stage) (ap (λ (l : InLeg). is_waiting l.stage) (one x leg at) ∙ e)
  where
    one : (x y : InLeg) → Some x ≡ Some y → x ≡ y
    one x y e = cc

    here : (u : Bool) → u ≡ true
        → 1 ≤ (if u then suc (how_many waits_on legs) else how_many waits_on legs)
    here true f = omega arith
    here false f = absurd (false≢true f)
some_waits (x ∷ legs) (suc place) leg at e =
    further (is_waiting x.stage) (some_waits legs place leg at e)
  where
    further : (u : Bool) → 1 ≤ how_many waits_on legs
        → 1 ≤ (if u then suc (how_many waits_on legs) else how_many waits_on legs)
    further true f = omega arith
    further false f = f

-- ---- packets

-- those that begin a channel are among all
pub first_among : (ms : List Message)
    → count_of is_conn_b2 ms + count_of is_in_r1_a2 ms ≤ packets ms
first_among [] = omega arith
first_among (Text bytes ∷ ms) = first_among ms
first_among (Pdu pdu ∷ ms) = first_among ms
first_among (Packet (named.ConnB2 v a b c d e f g) ∷ ms) =
    let rest = first_among ms in omega (arith, rest)
first_among (Packet (named.InR1A2 v a b c d e) ∷ ms) =
    let rest = first_among ms in omega (arith, rest)
first_among (Packet packet ∷ ms) = let rest = first_among ms in omega (arith, rest)

-- ---- a leg below on which no packet came

pub record FreshLeg (n : ℕ) (legs : List InLeg) : Type 0 where
  pub leg : InLeg
  pub found : Found legs leg
  pub below : leg.number < n
  pub fresh : is_fresh leg.stage ≡ true

pub fresh_leg : (n : ℕ) (legs : List InLeg) → has_fresh_below n legs ≡ true → FreshLeg n legs
fresh_leg n [] e = absurd (false≢true e)
fresh_leg n (x ∷ legs) e = by (is_fresh_below n x) refl e (fresh_leg n legs)
  where
    less : (a b : ℕ) → nat_lt a b ≡ true → a < b
    less a b f = grind (arith, nat_tests, f)

    by : (b : Bool) → is_fresh_below n x ≡ b → b || has_fresh_below n legs ≡ true
        → (has_fresh_below n legs ≡ true → FreshLeg n legs) → FreshLeg n (x ∷ legs)
    by true is f rest =
        let both = and_parts (nat_lt x.number n) (is_fresh x.stage) is in record {
          leg = x;
          found = record { place = 0; at = refl };
          below = less x.number n both.0;
          fresh = both.1;
        }
    by false is f rest =
        let further = rest f in record {
          leg = further.leg;
          found = record { place = suc further.found.place; at = further.found.at };
          below = further.below;
          fresh = further.fresh;
        }

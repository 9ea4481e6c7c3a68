-- the acknowledgement to the client that waits longest at a server
use Rattle.law_order.proofs.Vocabulary.{◌≡◌, ℕ, zero, suc, ◌+◌, ◌<◌, ◌≤◌, ◌==◌, ◌&&◌, Bool, true, false, if◌then◌else◌, List, [], ◌∷◌, ◌++◌, refl, sym, ap, ◌∙◌, subst, arith, and_parts, false≢true, nat_tests, bytes_eq-Decides, nat_le, bytes_eq}
use Rattle.rh_sig.specs.declared.named.Named.TheVariants as named
use Rattle.law_moves.proofs.Vocabulary.{same_number, Cookie, Named, Due, EndMove, EndPassage, Passage, all_end_moved, end_moved, end_started}
use Rattle.law_role_inproxy.proofs.LegibleKeeps.{at_most as at_least}
use Rattle.law_role_server.proofs.Vocabulary.{Server, acts, first, rules, in_came, is_ack_to, out_put, waiting_of, waits_for}
use Rattle.law_node_causes.proofs.InProxyLegs.{within as at_most_then}
use Rattle.law_peers_moments.specs.GoingRound.{taken_in}
use Rattle.law_role_server_in.specs.Handovers.{passed}
use Rattle.law_peers_in_channels.proofs.ServerExpects.Fronts.{behind_all}
use Rattle.law_peers_in_channels.proofs.InHandovers.Crossing.{Crossing, crossing}
use Rattle.law_peers_room.proofs.ServerRoom.Ahead.{same_cookies}
use Rattle.law_peers_room.specs.ServerRoom.Forwarding.{ForwardsAcks}
use Rattle.law_peers_room.specs.ServerRoom.Overtaking.{is_ack_for}
use Rattle.law_peers_forwarding.proofs.ServerFull.Grows.{put_grows}
use Rattle.law_peers_forwarding.proofs.ServerFull.Kept.{what_came}
use Rattle.law_peers_forwarding.proofs.ServerFull.Quiet.{quiet_by}
use Rattle.law_peers_forwarding.specs.ServerFull.Oldest.{HasOldest, Oldest, due_in}

-- ---- one that waits

pub for_itself : (received window : ℕ) (channel : Cookie)
    → is_ack_for channel (named.AckTo 0 received window channel) ≡ true
for_itself received window channel = (bytes_eq-Decides channel.0 channel.0).1 refl

-- it is one of that channel
pub is_for : (other : Cookie) (m : Named) → is_ack_for other m ≡ true
    → (received : ℕ) × (window : ℕ) × (m ≡ named.AckTo 0 received window other)
is_for other (named.AckTo to received window of) e =
    let parts = and_parts (to == 0) (bytes_eq of.0 other.0) e in (
      received,
      window,
      ap (λ (n : ℕ). named.AckTo n received window of) (same_number to 0 parts.0)
          ∙ ap (λ (c : Cookie). named.AckTo 0 received window c) (same_cookies of other parts.1),
    )
is_for other m e = absurd cc

more_than : (a b : ℕ) → nat_le a b ≡ false → b < a
more_than a b e = grind (arith, nat_tests)

both : {a b : Bool} → a ≡ true → b ≡ true → a && b ≡ true
both {a} {b} e f = ap (λ (c : Bool). c && b) e ∙ f

pub one_more : (other : Cookie) (due : Due) (dues : List Due)
    → 1 ≤ waiting_of (is_ack_for other) dues → 1 ≤ waiting_of (is_ack_for other) (due ∷ dues)
one_more other due dues k = by (is_ack_for other due.packet) k
  where
    by : (b : Bool) → 1 ≤ waiting_of (is_ack_for other) dues
        → 1 ≤ (if b then suc (waiting_of (is_ack_for other) dues)
        else waiting_of (is_ack_for other) dues)
    by true k = omega arith
    by false k = k

pub first_is : (channel : Cookie) (due : Due) (dues : List Due)
    → is_ack_for channel due.packet ≡ true → 1 ≤ waiting_of (is_ack_for channel) (due ∷ dues)
first_is channel due dues e =
    subst (λ (b : Bool). 1 ≤ (if b then suc (waiting_of (is_ack_for channel) dues)
    else waiting_of (is_ack_for channel) dues)) (sym e) (omega arith)

-- the first that waits
some_waits : (dues : List Due) → 1 ≤ waiting_of (is_ack_to 0) dues
    → (channel : Cookie) × (1 ≤ waiting_of (is_ack_for channel) dues)
some_waits [] h = absurd (omega (arith, h))
some_waits (due ∷ dues) h =
    by due.packet refl (is_ack_to 0 due.packet) refl h (some_waits dues)
  where
    by : (m : Named) → due.packet ≡ m → (b : Bool) → is_ack_to 0 m ≡ b
        → 1 ≤ (if b then suc (waiting_of (is_ack_to 0) dues) else waiting_of (is_ack_to 0) dues)
        → (1 ≤ waiting_of (is_ack_to 0) dues
        → (channel : Cookie) × (1 ≤ waiting_of (is_ack_for channel) dues))
        → (channel : Cookie) × (1 ≤ waiting_of (is_ack_for channel) (due ∷ dues))
    by (named.AckTo to received window channel) is true e h rest = (
      channel,
      first_is channel due dues
          (ap (is_ack_for channel)
          (is ∙ ap (λ (n : ℕ). named.AckTo n received window channel) (same_number to 0 e))
          ∙ for_itself received window channel),
    )
    by m is false e h rest = let one = rest h in (one.0, one_more one.0 due dues one.1)
    by m is true e h rest = absurd cc

-- ---- held since

module _ (put : Cookie → ℕ) where
  -- it waits, and was not put since
  abbrev is_held : Passage Server → Cookie → Bool
  is_held p channel =
      nat_le 1 (waits_for (is_ack_for channel) p.role)
      && nat_le (put channel) (out_put (is_ack_for channel) p)

  abbrev one_held : Passage Server → Named → ℕ
  one_held p (named.AckTo to received window channel) =
      if (to == 0) && is_held p channel then 1 else 0
  one_held p m = 0

  -- how many of these
  abbrev held : List Due → Passage Server → ℕ
  held [] p = 0
  held (due ∷ dues) p = one_held p due.packet + held dues p

  is_so : (p : Passage Server) (channel : Cookie) → is_held p channel ≡ true
      → (1 ≤ waits_for (is_ack_for channel) p.role)
      × (put channel ≤ out_put (is_ack_for channel) p)
  is_so p channel e =
      let parts = and_parts (nat_le 1 (waits_for (is_ack_for channel) p.role))
      (nat_le (put channel) (out_put (is_ack_for channel) p)) e in (
        at_least 1 (waits_for (is_ack_for channel) p.role) parts.0,
        at_least (put channel) (out_put (is_ack_for channel) p) parts.1,
      )

  -- where some is held, it is of a channel for which one waits
  some_held : (dues : List Due) (p : Passage Server) → 1 ≤ held dues p
      → (channel : Cookie) × (1 ≤ waiting_of (is_ack_for channel) dues)
      × (is_held p channel ≡ true)
  some_held [] p h = absurd (omega (arith, h))
  some_held (due ∷ dues) p h = by due.packet refl (some_held dues p) h
    where
      at : (received window : ℕ) (channel : Cookie) (to : ℕ)
          → due.packet ≡ named.AckTo to received window channel
          → (b : Bool) → (to == 0) && is_held p channel ≡ b
          → (1 ≤ held dues p → (channel : Cookie) × (1 ≤ waiting_of (is_ack_for channel) dues)
          × (is_held p channel ≡ true))
          → 1 ≤ (if b then 1 else 0) + held dues p
          → (channel : Cookie) × (1 ≤ waiting_of (is_ack_for channel) (due ∷ dues))
          × (is_held p channel ≡ true)
      at received window channel to is true e found h =
          let parts = and_parts (to == 0) (is_held p channel) e in (
            channel,
            first_is channel due dues (ap (is_ack_for channel)
                (is ∙ ap (λ (n : ℕ). named.AckTo n received window channel)
                (same_number to 0 parts.0))
                ∙ for_itself received window channel),
            parts.1,
          )
      at received window channel to is false e found h =
          let one = found (omega (arith, h)) in (one.0, one_more one.0 due dues one.1, one.2)

      by : (m : Named) → due.packet ≡ m
          → (1 ≤ held dues p → (channel : Cookie) × (1 ≤ waiting_of (is_ack_for channel) dues)
          × (is_held p channel ≡ true))
          → 1 ≤ one_held p m + held dues p
          → (channel : Cookie) × (1 ≤ waiting_of (is_ack_for channel) (due ∷ dues))
          × (is_held p channel ≡ true)
      by (named.AckTo to received window channel) is found h =
          at received window channel to is ((to == 0) && is_held p channel) refl found h
      by m is found h =
          let one = found (omega (arith, h)) in (one.0, one_more one.0 due dues one.1, one.2)

  -- where none is, none is of such a channel
  none_held : (dues : List Due) (p : Passage Server) → held dues p ≡ 0 → (channel : Cookie)
      → 1 ≤ waiting_of (is_ack_for channel) dues → is_held p channel ≡ false
  none_held [] p none channel h = absurd (omega (arith, h))
  none_held (due ∷ dues) p none channel h =
      by (is_ack_for channel due.packet) refl h
      (none_held dues p (omega (arith, none)) channel)
    where
      zero_then : (b : Bool) → (if b then suc zero else zero) ≡ zero → b ≡ false
      zero_then true e = absurd (omega (arith, e))
      zero_then false e = refl

      by : (b : Bool) → is_ack_for channel due.packet ≡ b
          → 1 ≤ (if b then suc (waiting_of (is_ack_for channel) dues)
          else waiting_of (is_ack_for channel) dues)
          → (1 ≤ waiting_of (is_ack_for channel) dues → is_held p channel ≡ false)
          → is_held p channel ≡ false
      by true e h rest =
          let is = is_for channel due.packet e in
          let one : one_held p due.packet ≡ 0 = omega (arith, none) in
          zero_then (is_held p channel)
          (sym (ap (one_held p) is.2) ∙ one)
      by false e h rest = rest h

  some_then : (dues : List Due) (p : Passage Server) (channel : Cookie)
      → 1 ≤ waiting_of (is_ack_for channel) dues → is_held p channel ≡ true → 1 ≤ held dues p
  some_then dues p channel h is = by (held dues p) refl
    where
      by : (n : ℕ) → held dues p ≡ n → 1 ≤ n
      by zero e = absurd (false≢true (sym (none_held dues p e channel h) ∙ is))
      by (suc n) e = omega arith

-- ---- the law

module _ (window : ℕ) (moves : List EndMove)
    (forwards : (moves : List EndMove) → ForwardsAcks (passed window moves).role)
    (some : 1 ≤ waits_for (is_ack_to 0) (passed window moves).role) where
  abbrev start : EndPassage Server
  start = end_started (first window)

  abbrev now : Passage Server
  now = passed window moves

  abbrev dues : List Due
  dues = now.role.waiting.due

  abbrev put_now : Cookie → ℕ
  put_now channel = out_put (is_ack_for channel) now

  abbrev held_at : EndPassage Server → ℕ
  held_at p = held put_now dues p.passage

  none_first : held_at start < 1
  none_first = by (held_at start) refl
    where
      by : (n : ℕ) → held_at start ≡ n → n < 1
      by zero e = omega arith
      by (suc n) e =
          let one = some_held put_now dues start.passage (omega (arith, e)) in
          let waits = (is_so put_now start.passage one.0 one.2).0 in absurd (omega (arith, waits))

  held_now : (channel : Cookie) → 1 ≤ waits_for (is_ack_for channel) now.role
      → is_held put_now now channel ≡ true
  held_now channel h = both (at_most_then 1 (waits_for (is_ack_for channel) now.role) h)
      (at_most_then (put_now channel) (put_now channel) (omega arith))

  some_now : 1 ≤ held_at (all_end_moved rules acts start moves)
  some_now =
      let one = some_waits dues some in
      some_then put_now dues now one.0 one.1 (held_now one.0 one.1)

  at : Crossing rules acts held_at 1 start moves
  at = crossing rules acts held_at 1 start moves none_first some_now

  abbrev behind : List EndMove
  behind = at.front ++ at.move ∷ []

  same : passed window behind ≡ (end_moved rules acts (all_end_moved rules acts start at.front)
      at.move).passage
  same = ap (λ (x : EndPassage Server). x.passage) (behind_all rules acts start at.front at.move)

  found : (channel : Cookie) × (1 ≤ waiting_of (is_ack_for channel) dues)
      × (is_held put_now (passed window behind) channel ≡ true)
  found =
      some_held put_now dues (passed window behind)
      (subst (λ (p : Passage Server). 1 ≤ held put_now dues p) (sym same) at.above)

  none_before : held put_now dues (passed window at.front) ≡ 0
  none_before = let below = at.below in omega (arith, below)

  -- of a channel for which one is held behind later moves, one came by then
  came_by : (later : List EndMove) (other : Cookie)
      → 1 ≤ waits_for (is_ack_for other) now.role
      → 1 ≤ waits_for (is_ack_for other) (passed window (at.front ++ later)).role
      → put_now other ≤ out_put (is_ack_for other) (passed window (at.front ++ later))
      → in_came (is_ack_for other) (passed window at.front)
      < in_came (is_ack_for other) (passed window (at.front ++ later))
  came_by later other waits waited put =
      by (waits_for (is_ack_for other) (passed window at.front).role)
      (out_put (is_ack_for other) (passed window at.front))
      (none_held put_now dues (passed window at.front) none_before other waits)
      (what_came window at.front later other)
      ((forwards at.front).once 0 other)
      (put_grows (is_ack_for other) window at.front later)
    where
      p : Passage Server
      p = passed window (at.front ++ later)

      by : (waited_then before : ℕ) → nat_le 1 waited_then && nat_le (put_now other) before ≡ false
          → waits_for (is_ack_for other) p.role + out_put (is_ack_for other) p
          + in_came (is_ack_for other) (passed window at.front)
          ≤ in_came (is_ack_for other) p + (waited_then + before)
          → waited_then ≤ 1 → before ≤ out_put (is_ack_for other) p
          → in_came (is_ack_for other) (passed window at.front) < in_came (is_ack_for other) p
      by waited_then before none sum once grows = at_case (nat_le 1 waited_then) refl none
        where
          at_case : (b : Bool) → nat_le 1 waited_then ≡ b
              → b && nat_le (put_now other) before ≡ false
              → in_came (is_ack_for other) (passed window at.front)
              < in_came (is_ack_for other) p
          at_case true e f =
              let less = more_than (put_now other) before f in
              omega (arith, less, sum, once, waited, put)
          at_case false e f =
              let zero_then = more_than 1 waited_then e in
              omega (arith, zero_then, sum, grows, waited)

  came_since : (other : Cookie) → 1 ≤ waits_for (is_ack_for other) now.role
      → in_came (is_ack_for other) (passed window at.front) < in_came (is_ack_for other) now
  came_since other waits =
      subst (λ (ms : List EndMove).
      1 ≤ waits_for (is_ack_for other) (passed window ms).role
      → put_now other ≤ out_put (is_ack_for other) (passed window ms)
      → in_came (is_ack_for other) (passed window at.front)
      < in_came (is_ack_for other) (passed window ms)) (sym at.is)
      (came_by (at.move ∷ at.later) other waits) waits (omega arith)

  -- so this move is one by which one came
  quiet : taken_in (passed window behind) + due_in (passed window behind).role
      ≤ taken_in (passed window at.front) + due_in (passed window at.front).role
  quiet =
      let one = is_so put_now (passed window behind) found.0 found.2 in
      subst (λ (p : Passage Server).
      in_came (is_ack_for found.0) (passed window at.front) < in_came (is_ack_for found.0) p
      → taken_in p + due_in p.role
      ≤ taken_in (passed window at.front) + due_in (passed window at.front).role) (sym same)
      (quiet_by found.0 (all_end_moved rules acts start at.front) at.move)
      (came_by (at.move ∷ []) found.0 found.1 one.0 one.1)

  pub is_oldest : Oldest window moves
  is_oldest =
      let one = is_so put_now (passed window behind) found.0 found.2 in record {
        front = at.front;
        move = at.move;
        later = at.later;
        is = at.is;
        channel = found.0;
        waited = one.0;
        waits = found.1;
        stays = one.1;
        since = came_since;
        quiet = quiet;
      }

pub oldest : (window : ℕ) (moves : List EndMove)
    → ((moves : List EndMove) → ForwardsAcks (passed window moves).role) → HasOldest window moves
oldest window moves forwards some = is_oldest window moves forwards some

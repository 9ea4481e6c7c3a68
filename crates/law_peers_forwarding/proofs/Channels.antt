-- of which IN channels acknowledgements may come at a server behind a front of its moves
use Rattle.law_order.proofs.Vocabulary.{◌≡◌, ◌⊎◌, inl, inr, ℕ, zero, suc, ◌+◌, ◌<◌, ◌≤◌, List, [], ◌∷◌, ◌++◌, length, append_assoc, refl, sym, ap, ◌∙◌, subst, arith, append-nil}
use Rattle.law_moves.proofs.Vocabulary.{AreAllowedAtEnd, EndMove, Passage, end_started}
use Rattle.law_role_server.proofs.Vocabulary.{acts, first, rules, Server, AreAnswered, in_came, is_in_r1_a2, is_in_r1_a6, OpensOnce}
use Rattle.law_peers_moments.specs.GoingRound.{GoRound, announced, taken_in}
use Rattle.law_peers_moments.specs.Moments.{AreJoined, AreMade, IsMoment, Moves, Numbers, client_behind, passages, server_behind}
use Rattle.law_role_server_in.specs.Handovers.{IsStillOpen, TwoAreOpen, answers}
use Rattle.law_role_server_in.specs.Refusing.{came_at, first_at}
use Rattle.law_peers_in_channels.proofs.InHandovers.Known.{connected}
use Rattle.law_peers_in_channels.specs.InChannels.{AreAnnounced, IsAnnouncedOn, channels, passed}
use Rattle.law_peers_forwarding.proofs.Answered.{all_answered, one_ahead}
use Rattle.law_peers_forwarding.proofs.Search.{AtMost, Those, among_two, less_or_not, less_or_same, those_below, twice_as_many, two_of_each}
use Rattle.law_peers_forwarding.proofs.Fronts.{BeforeLast, before_last, still_announced}
use Rattle.law_peers_forwarding.specs.ServerFull.Few.{IsAmong}
use Rattle.law_peers_forwarding.specs.ServerFull.Taken.{due_in}
use Rattle.law_peers_forwarding.specs.Late.{AreThese, FewAreLate, last_on}

-- what is known of a moment
pub record Known (numbers : Numbers) (reader : ℕ → ℕ) (moves : Moves) : Type 0 where
  pub order : (front later : List EndMove) → moves.server ≡ front ++ later
      → AreAnnounced reader (passed numbers front)
  pub answered : (moves : List EndMove) → AreAnswered (passed numbers moves)
  pub opens : (moves : List EndMove) → OpensOnce (passed numbers moves)
  pub round : (reader : ℕ → ℕ) (moves : Moves) → AreMade numbers moves
      → AreJoined reader (passages numbers moves)
      → GoRound (client_behind numbers moves).passage (server_behind numbers moves).passage
  pub two : (moves : List EndMove)
      → AreAllowedAtEnd rules acts (end_started (first numbers.window)) moves
      → TwoAreOpen numbers.window moves

some_or_none : (n : ℕ) → (1 ≤ n) ⊎ (n ≡ 0)
some_or_none zero = inr refl
some_or_none (suc n) = inl (omega arith)

module _ (numbers : Numbers) (reader : ℕ → ℕ) (moves : Moves)
    (moment : IsMoment numbers reader moves) (known : Known numbers reader moves)
    (front later rest : List EndMove) (e : moves.server ≡ front ++ later ++ rest) where
  abbrev was : Passage Server
  was = passed numbers front

  abbrev now : Passage Server
  now = passed numbers (front ++ later)

  whole : moves.server ≡ front ++ (later ++ rest)
  whole = e ∙ append_assoc front later rest

  was_order : AreAnnounced reader was
  was_order = known.order front (later ++ rest) whole

  now_order : AreAnnounced reader now
  now_order = known.order (front ++ later) rest e

  two_open : TwoAreOpen numbers.window front
  two_open =
      let past = moment.server_past front (later ++ rest) whole in
      known.two front
      (subst (λ (ms : List EndMove).
      AreAllowedAtEnd rules acts (end_started (first numbers.window)) ms) past.1
      past.0.then_joined.made.server)

  -- ---- legs

  -- a channel had begun there, and IN_R1/A6 had not come
  abbrev Stays : ℕ → Type 0
  Stays leg = (1 ≤ first_at was leg) × (came_at is_in_r1_a6 was leg ≡ 0)

  decide : (leg : ℕ) → Stays leg ⊎ (Stays leg → ⊥)
  decide leg =
      by (some_or_none (first_at was leg)) (some_or_none (came_at is_in_r1_a6 was leg))
    where
      by : (1 ≤ first_at was leg) ⊎ (first_at was leg ≡ 0)
          → (1 ≤ came_at is_in_r1_a6 was leg) ⊎ (came_at is_in_r1_a6 was leg ≡ 0)
          → Stays leg ⊎ (Stays leg → ⊥)
      by (inl began) (inr none) = inl (began, none)
      by (inl began) (inl some) =
          inr (λ h. let none = h.1 in absurd (omega (arith, some, none)))
      by (inr fresh) marks =
          inr (λ h. let began = h.0 in absurd (omega (arith, began, fresh)))

  on_first : (leg : ℕ) → 1 ≤ first_at was leg → IsAnnouncedOn was leg leg
  on_first leg began = record { began = began; least = omega arith; most = omega arith }

  -- what is announced now was there, if it is one of the channels then
  was_announced : (leg number : ℕ) → IsAnnouncedOn now leg number → number ≤ channels was
      → IsAnnouncedOn was leg number
  was_announced leg number h most =
      let one = was_order.each number (now_order.only leg number h).0 most in
      subst (λ (n : ℕ). IsAnnouncedOn was n number)
      (sym (now_order.read one.0 number
      (still_announced numbers front later one.0 number one.1))
      ∙ now_order.read leg number h)
      one.1

  -- one behind the answers and the first channel
  but_first : 1 ≤ channels was → suc (announced was) ≤ channels was
  but_first positive = by (some_or_none (announced was))
    where
      by : (1 ≤ announced was) ⊎ (announced was ≡ 0) → suc (announced was) ≤ channels was
      by (inl some) =
          let first = connected was (known.opens front) some in omega (arith, first)
      by (inr none) = omega (arith, none, positive)

  -- ---- of two open legs

  module _ (bound : ℕ) (are_open : (leg : ℕ) → leg < bound → Stays leg
      → IsStillOpen numbers.window front leg) where
    at_most_two : AtMost Stays decide 2 bound
    at_most_two n n_less n_stays m m_less m_stays k k_less k_stays =
        by (two_open k m n (are_open k (omega (arith, n_less, m_less, k_less)) k_stays)
        (are_open m (omega (arith, n_less, m_less)) m_stays) (are_open n n_less n_stays))
      where
        by : (k ≡ m) ⊎ ((m ≡ n) ⊎ (k ≡ n)) → ⊥
        by (inl same) = absurd (omega (arith, k_less, same))
        by (inr (inl same)) = absurd (omega (arith, m_less, same))
        by (inr (inr same)) = absurd (omega (arith, m_less, k_less, same))

    legs : Those Stays decide 2 bound
    legs = those_below Stays decide 2 bound at_most_two

    abbrev those : List ℕ
    those = two_of_each (last_on was) legs.those

    four : length those ≤ 4
    four =
        let twice = twice_as_many (last_on was) legs.those in
        let few = legs.few in omega (arith, twice, few)

    covered : (leg number : ℕ) → leg < bound → Stays leg → IsAnnouncedOn was leg number
        → last_on was leg ≤ suc number → IsAmong number those
    covered leg number less stays h near =
        among_two (last_on was) leg number legs.those (legs.each leg less stays) h.most near

  -- ---- the numbers

  abbrev Covers : List ℕ → Type 0
  Covers these =
      (leg number : ℕ) → Stays leg → IsAnnouncedOn was leg number
      → last_on was leg ≤ suc number → IsAmong number these

  all_among : (these : List ℕ) → Covers these → (leg number : ℕ)
      → IsAnnouncedOn now leg number → last_on was leg ≤ suc number
      → came_at is_in_r1_a6 was leg ≡ 0 → (channels was < number) ⊎ IsAmong number these
  all_among these covers leg number h near none =
      by (less_or_not (channels was) number)
    where
      by : (channels was < number) ⊎ (number ≤ channels was)
          → (channels was < number) ⊎ IsAmong number these
      by (inl more) = inl more
      by (inr most) =
          let there = was_announced leg number h most in
          inr (covers leg number (there.began, none) there near)

  abbrev Few : Type 0
  Few = (those : List ℕ) × AreThese was now those

  -- where none waits, all are open
  none_wait : in_came is_in_r1_a2 was ≤ answers was → Few
  none_wait none = by (some_or_none (channels was))
    where
      all : taken_in was + due_in was.role ≤ announced was
      all = let sum = all_answered was (known.answered front) in omega (arith, sum)

      are_open : (leg : ℕ) → leg < suc (channels was) → Stays leg
          → IsStillOpen numbers.window front leg
      are_open leg less stays = record {
        front = front;
        opened = record { on = ([], append-nil front); began = stays.0; none_waits = none };
        stays = stays.1;
      }

      by : (1 ≤ channels was) ⊎ (channels was ≡ 0) → Few
      by (inl some) = (
        those (suc (channels was)) are_open,
        record {
          few =
              let most = four (suc (channels was)) are_open in
              let sum = all in
              let first = but_first some in omega (arith, most, sum, first);
          all = all_among (those (suc (channels was)) are_open)
              (λ leg number stays h near.
              covered (suc (channels was)) are_open leg number
              (let most = (was_order.only leg leg (on_first leg stays.0)).1 in
              omega (arith, most)) stays h near);
        },
      )
      by (inr empty) = (
        [],
        record {
          few = let sum = all in omega (arith, sum);
          all = all_among [] (λ leg number stays h near.
              let range = was_order.only leg number h in
              let least = range.0 in
              let most = range.1 in absurd (omega (arith, least, most, empty)));
        },
      )

  -- where one waits, it is the last channel
  one_waits : answers was < in_came is_in_r1_a2 was → Few
  one_waits waits = (
    channels was ∷ those (channels was) are_open,
    record {
      few =
          let most = four (channels was) are_open in
          let sum = all_answered was (known.answered front) in
          let begun = (known.answered front).in_r1 in
          let first = connected was (known.opens front) some in
          omega (arith, most, sum, begun, waits, first);
      all = all_among (channels was ∷ those (channels was) are_open)
          (λ leg number stays h near.
          by leg number stays h near
          (less_or_same leg (channels was)
          (let most = (was_order.only leg leg (on_first leg stays.0)).1 in
          omega (arith, most))));
    },
  )
    where
      some : 1 ≤ announced was
      some = omega (arith, waits)

      ahead : (earlier these : List EndMove) → front ≡ earlier ++ these
          → announced (passed numbers earlier) ≤ suc (taken_in (passed numbers earlier))
      ahead earlier these same =
          one_ahead numbers reader moves moment known.round earlier
          (these ++ (later ++ rest))
          (whole ∙ ap (λ (ms : List EndMove). ms ++ (later ++ rest)) same
          ∙ append_assoc earlier these (later ++ rest))

      there : BeforeLast numbers known.answered known.opens front ahead
      there = before_last numbers known.answered known.opens front ahead some

      there_order : AreAnnounced reader (passed numbers there.earlier)
      there_order =
          known.order there.earlier (there.on.0 ++ (later ++ rest))
          (whole ∙ ap (λ (ms : List EndMove). ms ++ (later ++ rest)) (sym there.on.1)
          ∙ append_assoc there.earlier there.on.0 (later ++ rest))

      began_before : (leg : ℕ) → leg < channels was → 1 ≤ first_at was leg
          → 1 ≤ first_at (passed numbers there.earlier) leg
      began_before leg less began =
          let least = (was_order.only leg leg (on_first leg began)).0 in
          let one = there_order.each leg least
          (let but_one = there.but_one in omega (arith, but_one, less)) in
          subst (λ (n : ℕ). 1 ≤ first_at (passed numbers there.earlier) n)
          (sym (there_order.read one.0 leg one.1)
          ∙ was_order.read leg leg (on_first leg began))
          one.1.began

      are_open : (leg : ℕ) → leg < channels was → Stays leg
          → IsStillOpen numbers.window front leg
      are_open leg less stays = record {
        front = there.earlier;
        opened = record {
          on = there.on;
          began = began_before leg less stays.0;
          none_waits = let none = there.none_wait in omega (arith, none);
        };
        stays = stays.1;
      }

      by : (leg number : ℕ) → Stays leg → IsAnnouncedOn was leg number
          → last_on was leg ≤ suc number → (leg ≡ channels was) ⊎ (leg < channels was)
          → (number ≡ channels was) ⊎ IsAmong number (those (channels was) are_open)
      by leg number stays h near (inl same) =
          let least = h.least in
          let most = (was_order.only leg number h).1 in inl (omega (arith, same, least, most))
      by leg number stays h near (inr less) =
          inr (covered (channels was) are_open leg number less stays h near)

  few : Few
  few = by (less_or_not (answers was) (in_came is_in_r1_a2 was))
    where
      by : (answers was < in_came is_in_r1_a2 was) ⊎ (in_came is_in_r1_a2 was ≤ answers was)
          → Few
      by (inl waits) = one_waits waits
      by (inr none) = none_wait none

pub few_are_late : (numbers : Numbers) (reader : ℕ → ℕ) (moves : Moves)
    → IsMoment numbers reader moves → Known numbers reader moves → FewAreLate numbers moves
few_are_late numbers reader moves moment known front later rest e =
    few numbers reader moves moment known front later rest e

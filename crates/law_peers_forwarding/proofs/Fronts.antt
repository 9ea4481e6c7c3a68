-- the front of a server's moves behind which the last IN channel that was announced came
use Rattle.law_order.proofs.Vocabulary.{◌≡◌, ℕ, suc, ◌≤◌, Bool, List, [], ◌∷◌, ◌++◌, append_assoc, sym, ap, ◌∙◌, subst, arith, IsPrefix}
use Rattle.law_moves.proofs.Vocabulary.{Named, InServer, count_of, EndMove, EndPassage, OnLeg, Passage, all_end_moved, end_moved, end_started, of_leg}
use Rattle.law_moves.proofs.Lemmas.{count_append, of_append as leg_append}
use Rattle.law_role_server.proofs.Vocabulary.{acts, first, rules, Server, AreAnswered, in_came, is_conn_b2, is_in_r1_a2, is_in_r1_a3, is_in_r2_a2, leg_at, out_put, OpensOnce}
use Rattle.law_peers_moments.specs.GoingRound.{announced, taken_in}
use Rattle.law_peers_moments.specs.Moments.{Numbers}
use Rattle.law_role_server_in.specs.Refusing.{came_at}
use Rattle.law_peers_in_channels.proofs.ServerExpects.Fronts.{IsOneMore, behind_all, one_more}
use Rattle.law_peers_in_channels.proofs.InHandovers.Crossing.{Crossing, crossing}
use Rattle.law_peers_in_channels.proofs.InHandovers.Known.{connected, none_waits}
use Rattle.law_peers_in_channels.proofs.InHandovers.Rising.{announced_by}
use Rattle.law_peers_in_channels.specs.InChannels.{IsAnnouncedOn, channels, passed}
use Rattle.law_peers_forwarding.proofs.ServerFull.Grows.{came_grows}

-- ---- what was announced stays

module _ (numbers : Numbers) (front later : List EndMove) where
  abbrev was : Passage Server
  was = passed numbers front

  abbrev now : Passage Server
  now = passed numbers (front ++ later)

  grows_at : (test : Named → Bool) (n : ℕ) → came_at test was n ≤ came_at test now n
  grows_at test n =
      more (came_grows numbers front later).0 (came_grows numbers front later).1
    where
      more : (rest : List OnLeg) → was.came ++ rest ≡ now.came
          → came_at test was n ≤ came_at test now n
      more rest same =
          let logs : count_of test (of_leg (leg_at InServer n) now.came)
          ≡ count_of test (of_leg (leg_at InServer n) was.came
          ++ of_leg (leg_at InServer n) rest) =
          ap (count_of test) (ap (of_leg (leg_at InServer n)) (sym same)
          ∙ leg_append (leg_at InServer n) was.came rest) in
          let sum = count_append test (of_leg (leg_at InServer n) was.came)
          (of_leg (leg_at InServer n) rest) in
          omega (arith, logs, sum)

  pub still_announced : (leg number : ℕ) → IsAnnouncedOn was leg number
      → IsAnnouncedOn now leg number
  still_announced leg number h =
      let began = h.began in
      let one = grows_at is_conn_b2 leg in
      let two = grows_at is_in_r1_a2 leg in
      let most = h.most in
      let three = grows_at is_in_r2_a2 leg in record {
        began = omega (arith, began, one, two);
        least = h.least;
        most = omega (arith, most, three);
      }

-- ---- the front

module _ (numbers : Numbers)
    (answered : (moves : List EndMove) → AreAnswered (passed numbers moves))
    (opens : (moves : List EndMove) → OpensOnce (passed numbers moves)) (front : List EndMove)
    (ahead : (earlier later : List EndMove) → front ≡ earlier ++ later
    → announced (passed numbers earlier) ≤ suc (taken_in (passed numbers earlier))) where
  abbrev start : EndPassage Server
  start = end_started (first numbers.window)

  -- all channels but the last had been announced there, and none waited
  pub record BeforeLast : Type 0 where
    pub earlier : List EndMove
    pub on : IsPrefix earlier front
    pub but_one : suc (channels (passed numbers earlier)) ≡ channels (passed numbers front)
    pub none_wait : in_came is_in_r1_a2 (passed numbers earlier)
        ≤ out_put is_in_r1_a3 (passed numbers earlier)

  pub before_last : 1 ≤ announced (passed numbers front) → BeforeLast
  before_last some =
      by (crossing rules acts (λ (p : EndPassage Server). announced p.passage)
      (announced (passed numbers front)) start front (omega (arith, some)) (omega arith))
    where
      by : Crossing rules acts (λ (p : EndPassage Server). announced p.passage)
          (announced (passed numbers front)) start front → BeforeLast
      by at =
          let same : passed numbers (at.front ++ at.move ∷ [])
          ≡ (end_moved rules acts (all_end_moved rules acts start at.front) at.move).passage =
          ap (λ (x : EndPassage Server). x.passage)
          (behind_all rules acts start at.front at.move) in
          let above : announced (passed numbers front)
          ≤ announced (passed numbers (at.front ++ at.move ∷ [])) =
          subst (λ (p : Passage Server). announced (passed numbers front) ≤ announced p)
          (sym same) at.above in
          let below = at.below in
          let behind = announced_by (passed numbers at.front)
          (passed numbers (at.front ++ at.move ∷ []))
          (subst (λ (q : Passage Server). IsOneMore rules acts (passed numbers at.front) q)
          (sym same) (one_more rules acts (all_end_moved rules acts start at.front) at.move))
          (omega (arith, below, above)) in
          let next = behind.next in
          let still = behind.still in
          let most = ahead (at.front ++ at.move ∷ []) at.later
          (at.is ∙ sym (append_assoc at.front (at.move ∷ []) at.later)) in
          let opened = connected (passed numbers front) (opens front) some in
          let opened_behind = connected (passed numbers (at.front ++ at.move ∷ []))
          (opens (at.front ++ at.move ∷ [])) (omega (arith, next)) in
          let opened_there = behind.connected in
          record {
            earlier = at.front;
            on = (at.move ∷ at.later, sym at.is);
            but_one = omega (arith, next, above, below, opened, opened_behind, opened_there);
            none_wait = none_waits (passed numbers at.front) (answered at.front)
                (omega (arith, next, still, most));
          }

-- no client is opened before it put the first packet of its first channels
use Rattle.law_order.proofs.Vocabulary.{◌≡◌, ℕ, ◌≤◌, Bool, true, List, [], ◌++◌, refl, ap, subst, arith, nat_tests}
use Rattle.rh_sig.specs.declared.named.Named.TheVariants as named
use Rattle.law_moves.proofs.Vocabulary.{Named, Leg, LegKind, ClientIn, ClientOut, is_of, EndMove, OnLeg, of_leg, count_of, count_on}
use Rattle.law_role_inproxy.proofs.Vocabulary.{PutsForWhatCame}
use Rattle.law_role_client.proofs.Vocabulary.{ci, co, client_moved, StandsOnEach, is_conn_a1, is_conn_b1, is_conn_c2, total, NamesIns, NamesOuts, opened}
use Rattle.law_role_server.proofs.Vocabulary.{OpensOnce}
use Rattle.law_role_outproxy.proofs.Vocabulary.{ForwardsWhatCame, OpensWhatCame}
use Rattle.law_role_client_rows.specs.Putting.{HasOpened, OpenedBefore}
use Rattle.law_peers_moments.proofs.GoingRound.Fronts.{are_fronts}
use Rattle.law_peers_moments.specs.Moments.{AreMade, IsMoment, IsPast, Moves, Numbers, client_behind, in_behind, out_behind, passages, server_behind}
use Rattle.law_peers_expects.proofs.InProxyExpects.Counts.{opened_behind}
use Rattle.law_peers_expects.proofs.InProxyExpects.Fronts.{has_counts}
use Rattle.law_peers_expects.proofs.ClientExpects.More.{leg_within as on_kind}

-- where any was put, one was put on the first leg
first_put : (test : Named → Bool) (kind : LegKind) (log : List OnLeg)
    → StandsOnEach test kind 1 log → 1 ≤ total test kind log → 1 ≤ count_on test kind log 1
first_put test kind log stands some =
    let here = stands (record { kind = kind; number = 1 }) in
    let same : is_of kind (record { kind = kind; number = 1 }) ≡ true = is_itself kind in
    grind (arith, nat_tests, here, some, same)
  where
    is_itself : (k : LegKind) → is_of k (record { kind = k; number = 1 }) ≡ true
    is_itself k = grind (arith, nat_tests)

-- what the roles keep of their counts
pub record Laws (numbers : Numbers) (moves : Moves) : Type 0 where
  pub names_ins : NamesIns numbers.client.connection (client_behind numbers moves).passage
  pub names_outs : NamesOuts numbers.client.connection (client_behind numbers moves).passage
  pub opens_once : OpensOnce (server_behind numbers moves).passage
  pub puts : (m : ℕ) → PutsForWhatCame m (in_behind numbers moves m)
  pub forwards : (n : ℕ) → ForwardsWhatCame n (out_behind numbers moves n)
  pub opens : (n : ℕ) → OpensWhatCame n (out_behind numbers moves n)

module _ (numbers : Numbers)
    (laws : (moves : Moves) → AreMade numbers moves → Laws numbers moves)
    (reader : ℕ → ℕ) (moves : Moves) (moment : IsMoment numbers reader moves) where
  abbrev OpensBehind : List EndMove → Type 0
  OpensBehind past =
      1 ≤ opened (client_moved numbers.client past).passage
      → (1 ≤ count_on is_conn_b1 ClientIn (client_moved numbers.client past).passage.put 1)
      × (1 ≤ count_on is_conn_a1 ClientOut (client_moved numbers.client past).passage.put 1)

  -- at each moment that was
  opens_then : (past : IsPast numbers moves) → OpensBehind past.moves_then.client
  opens_then past some =
      let then_moves = past.moves_then in
      let all = passages numbers then_moves in
      let law = laws then_moves past.then_joined.made in
      let both = opened_behind past.reader_then all.client all.server all.ins all.outs
      (are_fronts past.reader_then all past.then_joined.joined) law.opens_once law.puts law.forwards
      law.opens some in (
        first_put is_conn_b1 ClientIn all.client.put law.names_ins.begins_on both.0,
        first_put is_conn_a1 ClientOut all.client.put law.names_outs.begins_on both.1,
      )

  opens_behind : (front later : List EndMove) → moves.client ≡ front ++ later → OpensBehind front
  opens_behind front later is =
      let past = moment.client_past front later is in
      subst OpensBehind past.1 (opens_then past.0)

  came_opened : (past : List EndMove) → HasOpened (client_moved numbers.client past).passage.came
      → 1 ≤ opened (client_moved numbers.client past).passage
  came_opened past h =
      let came = (client_moved numbers.client past).passage.came in
      let here = has_counts (named.ConnC2 h.version h.window h.timeout) is_conn_c2 refl
      (of_leg (co 1) came) h.has in
      let all = on_kind is_conn_c2 ClientOut came 1 in omega (arith, here, all)

  nothing_put : (test : Named → Bool) (leg : Leg) (log : List OnLeg) → of_leg leg log ≡ []
      → 1 ≤ count_of test (of_leg leg log) → ⊥
  nothing_put test leg log none some =
      let zero = ap (count_of test) none in omega (arith, zero, some)

  pub no_early_in : OpenedBefore numbers.client moves.client (ci 1) → ⊥
  no_early_in h =
      nothing_put is_conn_b1 (ci 1) (client_moved numbers.client h.past).passage.put h.none
      (opens_behind h.past h.later h.front (came_opened h.past h.opened)).0

  pub no_early_out : OpenedBefore numbers.client moves.client (co 1) → ⊥
  no_early_out h =
      nothing_put is_conn_a1 (co 1) (client_moved numbers.client h.past).passage.put h.none
      (opens_behind h.past h.later h.front (came_opened h.past h.opened)).1

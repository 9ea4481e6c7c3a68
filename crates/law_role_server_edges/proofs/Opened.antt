-- at most one packet opens a channel on an os leg
use Rattle.law_order.proofs.Vocabulary.{◌≡◌, ℕ, ◌+◌, ◌<◌, ◌≤◌, Bool, true, false, true≢false, if◌then◌else◌, List, [], ◌∷◌, ⊎_elim, arith, refl, sym, ap, ◌∙◌, cases_lt, nat_tests}
use Rattle.law_moves.proofs.Vocabulary.{Named, Leg, OutServer, Message, same_leg, is_of, OnLeg, Passage, of_leg, count_of, of_kind}
use Rattle.law_moves.proofs.Lemmas.{count_append, leg_is}
use Rattle.law_role_server.proofs.Vocabulary.{Server, is_conn_a2, is_out_r1_a4, leg_at, often, often_at, OpensOnce, ArePutInTurn}
use Rattle.law_role_server.proofs.Counted.Logs.{at_most_in}
use Rattle.law_role_server_rows.proofs.Refusing.FirstLeg.{AreFirst}
use Rattle.law_role_server_edges.proofs.Knows.{on, opened}

-- ---- on two legs

of_its_kind : (leg : Leg) (n : ℕ) → same_leg leg (leg_at OutServer n) ≡ true
    → is_of OutServer leg ≡ true
of_its_kind leg n e = grind (arith, nat_tests, e)

apart : (leg : Leg) (k n : ℕ) → (k ≡ n → ⊥) → same_leg leg (leg_at OutServer k) ≡ true
    → same_leg leg (leg_at OutServer n) ≡ true → ⊥
apart leg k n differ e f =
    differ (ap (λ (l : Leg). l.number)
    (sym (leg_is leg (leg_at OutServer k) e) ∙ leg_is leg (leg_at OutServer n) f))

-- no more than on all
two_legs : (test : Named → Bool) (k n : ℕ) → (k ≡ n → ⊥) → (log : List OnLeg)
    → often_at test OutServer k log + often_at test OutServer n log ≤ often test OutServer log
two_legs test k n differ [] = omega arith
two_legs test k n differ (one ∷ log) =
    by (same_leg one.0 (leg_at OutServer k)) (same_leg one.0 (leg_at OutServer n))
    (is_of OutServer one.0) (of_its_kind one.0 k) (of_its_kind one.0 n) (apart one.0 k n differ)
    (two_legs test k n differ log)
  where
    here : List Message
    here = of_leg (leg_at OutServer k) log

    there : List Message
    there = of_leg (leg_at OutServer n) log

    all : List Message
    all = of_kind OutServer log

    more : (ms : List Message)
        → count_of test (one.1 ∷ ms) ≡ count_of test (one.1 ∷ []) + count_of test ms
    more ms = count_append test (one.1 ∷ []) ms

    by : (b c d : Bool) → (b ≡ true → d ≡ true) → (c ≡ true → d ≡ true)
        → (b ≡ true → c ≡ true → ⊥)
        → count_of test here + count_of test there ≤ count_of test all
        → count_of test (if b then one.1 ∷ here else here)
        + count_of test (if c then one.1 ∷ there else there)
        ≤ count_of test (if d then one.1 ∷ all else all)
    by true true d so so' not_both rest = absurd (not_both refl refl)
    by true false true so so' not_both rest = omega (arith, more here, more all, rest)
    by true false false so so' not_both rest = absurd (true≢false (sym (so refl)))
    by false true true so so' not_both rest = omega (arith, more there, more all, rest)
    by false true false so so' not_both rest = absurd (true≢false (sym (so' refl)))
    by false false true so so' not_both rest = omega (arith, more all, rest)
    by false false false so so' not_both rest = rest

-- ---- on one

pub opened_once : (p : Passage Server) → OpensOnce p → ArePutInTurn p → AreFirst p.came
    → (n : ℕ) → opened (on n p.came) ≤ 1
opened_once p opens turn first n = ⊎_elim low high (cases_lt n 2)
  where
    a4 : ℕ
    a4 = often_at is_out_r1_a4 OutServer n p.came

    a2 : ℕ
    a2 = often_at is_conn_a2 OutServer n p.came

    low : n < 2 → a2 + a4 ≤ 1
    low below =
        let none = turn.a4.before n below in
        let most = at_most_in is_conn_a2 OutServer n p.came in
        let once = opens.conn_a2_once in omega (arith, none, most, once)

    once : 2 ≤ n → a4 ≤ 1
    once above =
        ⊎_elim (λ (less : n < 2 + often is_out_r1_a4 OutServer p.came).
        let is = turn.a4.each n above less in omega (arith, is))
        (λ (beyond : 2 + often is_out_r1_a4 OutServer p.came ≤ n).
        let is = turn.a4.behind n beyond in omega (arith, is))
        (cases_lt n (2 + often is_out_r1_a4 OutServer p.came))

    high : 2 ≤ n → a2 + a4 ≤ 1
    high above =
        let both = two_legs is_conn_a2 1 n (λ e. omega (arith, e, above)) p.came in
        let one = once above in omega (arith, both, first, one)

-- of each kind one packet waits at most
use Rattle.std.proofs.Common.{◌≡◌, ℕ, ◌+◌, ◌≤◌, List, [], ◌∷◌, ◌++◌, cond, nat_lt, Bool, true, false, Some, None, sym, ap, subst, ◌∙◌, refl, arith}
use Rattle.std.specs.Prelude.{count_by, find, ◌&&◌}
use Rattle.std.specs.List.{list_any}
use Rattle.std.specs.declared.option.Option.{Option}
use Rattle.std.proofs.lemmas.List.Sums.{sum_by-cons, sum_by_push}
use Rattle.rh_sig.specs.declared.named.Named.{Named}
use Rattle.rh_sig.specs.declared.named.Named.TheVariants as named
use Rattle.rh_shell.specs.declared.due.Due.{Due}
use Rattle.rh_shell.specs.declared.due.Origin.TheVariants.{Own, Forwarded}
use Rattle.rh_shell.specs.Waiting.{Waiting, Key, key_of, are_one, is_of, count, own, to_forward, takes, edge_of, better, merged, without_first, with_due, forwarded}
use Rattle.rh_server.specs.declared.out_line.Kind.{Kind}
use Rattle.rh_server.specs.declared.out_line.Kind.TheVariants as kind
use Rattle.rh_server.specs.States.{is_some}
use Rattle.rh_server.specs.OutLines.{kind_of, are_kind, is_kind, is_own, is_ack, AreOnce}

abbrev pub one_if : (Due → Bool) → Due → ℕ
one_if test due = cond (test due) 1 0

-- ---- the first that passes

abbrev the : Due → Option Due → Due
the due None = due
the due (Some other) = other

pub passes : (test : Due → Bool) (dues : List Due) (due : Due) → find test dues ≡ Some due
    → test due ≡ true
passes test [] due e = absurd (cc)
passes test (first ∷ dues) due e = by (test first) refl e (passes test dues due)
  where
    by : (b : Bool) → test first ≡ b → cond b (Some first) (find test dues) ≡ Some due
        → (find test dues ≡ Some due → test due ≡ true) → test due ≡ true
    by true is e rest = subst (λ (d : Due). test d ≡ true) (ap (the first) e) is
    by false is e rest = rest e

pub none_counts : (test : Due → Bool) (dues : List Due) → is_some (find test dues) ≡ false
    → count_by test dues ≡ 0
none_counts test [] e = refl
none_counts test (first ∷ dues) e =
    sum_by-cons (one_if test) first dues ∙ by (test first) e (none_counts test dues)
  where
    by : (b : Bool) → is_some (cond b (Some first) (find test dues)) ≡ false
        → (is_some (find test dues) ≡ false → count_by test dues ≡ 0)
        → cond b 1 0 + count_by test dues ≡ 0
    by true e rest = absurd (cc)
    by false e rest = omega (arith, rest e)

-- the one that is taken counts no more
pub one_less : (test may_go : Due → Bool) (dues : List Due) (due : Due)
    → find may_go dues ≡ Some due
    → count_by test (without_first may_go dues) + one_if test due ≡ count_by test dues
one_less test may_go [] due e = absurd (cc)
one_less test may_go (first ∷ dues) due e = by (may_go first) e (one_less test may_go dues due)
  where
    by : (b : Bool) → cond b (Some first) (find may_go dues) ≡ Some due
        → (find may_go dues ≡ Some due
        → count_by test (without_first may_go dues) + one_if test due ≡ count_by test dues)
        → count_by test (cond b dues (first ∷ without_first may_go dues)) + one_if test due
        ≡ count_by test (first ∷ dues)
    by true e rest =
        let same : one_if test first ≡ one_if test due = ap (λ d. one_if test d) (ap
        (the first) e) in
        omega (arith, same, sum_by-cons (one_if test) first dues)
    by false e rest =
        omega (
          arith,
          rest e,
          sum_by-cons (one_if test) first dues,
          sum_by-cons (one_if test) first (without_first may_go dues),
        )

pub none_less : (may_go : Due → Bool) (dues : List Due) → find may_go dues ≡ None
    → without_first may_go dues ≡ dues
none_less may_go [] e = refl
none_less may_go (first ∷ dues) e = by (may_go first) e (none_less may_go dues)
  where
    by : (b : Bool) → cond b (Some first) (find may_go dues) ≡ None
        → (find may_go dues ≡ None → without_first may_go dues ≡ dues)
        → cond b dues (first ∷ without_first may_go dues) ≡ first ∷ dues
    by true e rest = absurd (cc)
    by false e rest = ap (λ ds. first ∷ ds) (rest e)

-- ---- kinds

-- a packet of the server's own is of one kind at most, any other of none
own_kinds : (due : Due) → one_if (is_own kind.ConnC1) due + one_if (is_own kind.InR1A3) due
    + one_if (is_own kind.InR2A3) due + one_if (is_own kind.OutR1) due ≤ one_if (is_of Own) due
own_kinds due = by (is_of Own due) (kind_of due.packet)
  where
    by : (b : Bool) (k : Option Kind) → cond (b && are_kind kind.ConnC1 k) 1 0
        + cond (b && are_kind kind.InR1A3 k) 1 0
        + cond (b && are_kind kind.InR2A3 k) 1 0
        + cond (b && are_kind kind.OutR1 k) 1 0 ≤ cond b 1 0
    by false k = omega arith
    by true None = omega arith
    by true (Some kind.ConnC1) = omega arith
    by true (Some kind.InR1A3) = omega arith
    by true (Some kind.InR2A3) = omega arith
    by true (Some kind.OutR1) = omega arith

pub once_taken : (may_go : Due → Bool) (dues : List Due) (found : Option Due)
    → find may_go dues ≡ found → AreOnce dues → AreOnce (without_first may_go dues)
once_taken may_go dues None e once = subst AreOnce (sym (none_less may_go dues e)) once
once_taken may_go dues (Some due) e once = record {
  conn_c1 = omega (arith, once.conn_c1, less kind.ConnC1);
  in_r1_a3 = omega (arith, once.in_r1_a3, less kind.InR1A3);
  in_r2_a3 = omega (arith, once.in_r2_a3, less kind.InR2A3);
  out_r1 = omega (arith, once.out_r1, less kind.OutR1);
  all = omega (
    arith,
    once.all,
    less kind.ConnC1,
    less kind.InR1A3,
    less kind.InR2A3,
    less kind.OutR1,
    one_less (is_of Own) may_go dues due e,
    own_kinds due,
  );
}
  where
    less : (k : Kind) → count_by (is_own k) (without_first may_go dues) + one_if (is_own k) due
        ≡ count_by (is_own k) dues
    less k = one_less (is_own k) may_go dues due e

-- ---- one more

same_kind : (k : Kind) (other : Option Kind) → are_kind k other ≡ true → other ≡ Some k
same_kind kind.ConnC1 (Some kind.ConnC1) e = refl
same_kind kind.ConnC1 (Some kind.InR1A3) e = absurd (cc)
same_kind kind.ConnC1 (Some kind.InR2A3) e = absurd (cc)
same_kind kind.ConnC1 (Some kind.OutR1) e = absurd (cc)
same_kind kind.InR1A3 (Some kind.ConnC1) e = absurd (cc)
same_kind kind.InR1A3 (Some kind.InR1A3) e = refl
same_kind kind.InR1A3 (Some kind.InR2A3) e = absurd (cc)
same_kind kind.InR1A3 (Some kind.OutR1) e = absurd (cc)
same_kind kind.InR2A3 (Some kind.ConnC1) e = absurd (cc)
same_kind kind.InR2A3 (Some kind.InR1A3) e = absurd (cc)
same_kind kind.InR2A3 (Some kind.InR2A3) e = refl
same_kind kind.InR2A3 (Some kind.OutR1) e = absurd (cc)
same_kind kind.OutR1 (Some kind.ConnC1) e = absurd (cc)
same_kind kind.OutR1 (Some kind.InR1A3) e = absurd (cc)
same_kind kind.OutR1 (Some kind.InR2A3) e = absurd (cc)
same_kind kind.OutR1 (Some kind.OutR1) e = refl
same_kind kind.ConnC1 None e = absurd (cc)
same_kind kind.InR1A3 None e = absurd (cc)
same_kind kind.InR2A3 None e = absurd (cc)
same_kind kind.OutR1 None e = absurd (cc)

once_conn_c1 : (dues : List Due) (packet : Named) → kind_of packet ≡ Some kind.ConnC1
    → is_some (find (is_own kind.ConnC1) dues) ≡ false → AreOnce dues
    → AreOnce (dues ++ own packet ∷ [])
once_conn_c1 dues packet is none once = record {
  conn_c1 = omega (
    arith,
    once.conn_c1,
    adds kind.ConnC1,
    none_counts
        (is_own kind.ConnC1) dues none,
  );
  in_r1_a3 = omega (arith, once.in_r1_a3, adds kind.InR1A3);
  in_r2_a3 = omega (arith, once.in_r2_a3, adds kind.InR2A3);
  out_r1 = omega (arith, once.out_r1, adds kind.OutR1);
  all = omega (
    arith,
    once.all,
    adds kind.ConnC1,
    adds kind.InR1A3,
    adds kind.InR2A3,
    adds
        kind.OutR1,
    sum_by_push (one_if (is_of Own)) dues (own packet),
  );
}
  where
    adds : (j : Kind) → count_by (is_own j) (dues ++ own packet ∷ [])
        ≡ count_by (is_own j) dues + cond (are_kind j (Some kind.ConnC1)) 1 0
    adds j = sum_by_push (one_if (is_own j)) dues (own packet)
        ∙ ap (λ o. count_by (is_own j) dues + cond (are_kind j o) 1 0) is

once_in_r1_a3 : (dues : List Due) (packet : Named) → kind_of packet ≡ Some kind.InR1A3
    → is_some (find (is_own kind.InR1A3) dues) ≡ false → AreOnce dues
    → AreOnce (dues ++ own packet ∷ [])
once_in_r1_a3 dues packet is none once = record {
  conn_c1 = omega (arith, once.conn_c1, adds kind.ConnC1);
  in_r1_a3 = omega (
    arith,
    once.in_r1_a3,
    adds kind.InR1A3,
    none_counts
        (is_own kind.InR1A3) dues none,
  );
  in_r2_a3 = omega (arith, once.in_r2_a3, adds kind.InR2A3);
  out_r1 = omega (arith, once.out_r1, adds kind.OutR1);
  all = omega (
    arith,
    once.all,
    adds kind.ConnC1,
    adds kind.InR1A3,
    adds kind.InR2A3,
    adds
        kind.OutR1,
    sum_by_push (one_if (is_of Own)) dues (own packet),
  );
}
  where
    adds : (j : Kind) → count_by (is_own j) (dues ++ own packet ∷ [])
        ≡ count_by (is_own j) dues + cond (are_kind j (Some kind.InR1A3)) 1 0
    adds j = sum_by_push (one_if (is_own j)) dues (own packet)
        ∙ ap (λ o. count_by (is_own j) dues + cond (are_kind j o) 1 0) is

once_in_r2_a3 : (dues : List Due) (packet : Named) → kind_of packet ≡ Some kind.InR2A3
    → is_some (find (is_own kind.InR2A3) dues) ≡ false → AreOnce dues
    → AreOnce (dues ++ own packet ∷ [])
once_in_r2_a3 dues packet is none once = record {
  conn_c1 = omega (arith, once.conn_c1, adds kind.ConnC1);
  in_r1_a3 = omega (arith, once.in_r1_a3, adds kind.InR1A3);
  in_r2_a3 = omega (
    arith,
    once.in_r2_a3,
    adds kind.InR2A3,
    none_counts
        (is_own kind.InR2A3) dues none,
  );
  out_r1 = omega (arith, once.out_r1, adds kind.OutR1);
  all = omega (
    arith,
    once.all,
    adds kind.ConnC1,
    adds kind.InR1A3,
    adds kind.InR2A3,
    adds
        kind.OutR1,
    sum_by_push (one_if (is_of Own)) dues (own packet),
  );
}
  where
    adds : (j : Kind) → count_by (is_own j) (dues ++ own packet ∷ [])
        ≡ count_by (is_own j) dues + cond (are_kind j (Some kind.InR2A3)) 1 0
    adds j = sum_by_push (one_if (is_own j)) dues (own packet)
        ∙ ap (λ o. count_by (is_own j) dues + cond (are_kind j o) 1 0) is

once_out_r1 : (dues : List Due) (packet : Named) → kind_of packet ≡ Some kind.OutR1
    → is_some (find (is_own kind.OutR1) dues) ≡ false → AreOnce dues
    → AreOnce (dues ++ own packet ∷ [])
once_out_r1 dues packet is none once = record {
  conn_c1 = omega (arith, once.conn_c1, adds kind.ConnC1);
  in_r1_a3 = omega (arith, once.in_r1_a3, adds kind.InR1A3);
  in_r2_a3 = omega (arith, once.in_r2_a3, adds kind.InR2A3);
  out_r1 = omega (arith, once.out_r1, adds kind.OutR1, none_counts (is_own kind.OutR1) dues none);
  all = omega (
    arith,
    once.all,
    adds kind.ConnC1,
    adds kind.InR1A3,
    adds kind.InR2A3,
    adds
        kind.OutR1,
    sum_by_push (one_if (is_of Own)) dues (own packet),
  );
}
  where
    adds : (j : Kind) → count_by (is_own j) (dues ++ own packet ∷ [])
        ≡ count_by (is_own j) dues + cond (are_kind j (Some kind.OutR1)) 1 0
    adds j = sum_by_push (one_if (is_own j)) dues (own packet)
        ∙ ap (λ o. count_by (is_own j) dues + cond (are_kind j o) 1 0) is

pub once_added : (k : Kind) (dues : List Due) (packet : Named) → is_kind k packet ≡ true
    → is_some (find (is_own k) dues) ≡ false → AreOnce dues → AreOnce (dues ++ own packet ∷ [])
once_added kind.ConnC1 dues packet is none once =
    once_conn_c1 dues packet (same_kind kind.ConnC1 (kind_of packet) is) none once
once_added kind.InR1A3 dues packet is none once =
    once_in_r1_a3 dues packet (same_kind kind.InR1A3 (kind_of packet) is) none once
once_added kind.InR2A3 dues packet is none once =
    once_in_r2_a3 dues packet (same_kind kind.InR2A3 (kind_of packet) is) none once
once_added kind.OutR1 dues packet is none once =
    once_out_r1 dues packet (same_kind kind.OutR1 (kind_of packet) is) none once

-- ---- an acknowledgement that is forwarded

-- it has no kind
ack_kind : (packet : Named) (key : Key) → key_of packet ≡ Some key → kind_of packet ≡ None
ack_kind (named.ConnA1 a b c d) key e = absurd (cc)
ack_kind (named.ConnA2 a b c d i) key e = absurd (cc)
ack_kind (named.ConnA3 a) key e = absurd (cc)
ack_kind (named.ConnB1 a b c d i f) key e = absurd (cc)
ack_kind (named.ConnB2 a b c d i f g h) key e = absurd (cc)
ack_kind (named.ConnB3 a b) key e = absurd (cc)
ack_kind (named.ConnC1 a b c) key e = absurd (cc)
ack_kind (named.ConnC2 a b c) key e = absurd (cc)
ack_kind (named.InR1A1 a b c d) key e = absurd (cc)
ack_kind (named.InR1A2 a b c d i f) key e = absurd (cc)
ack_kind (named.InR1A3 a b c d) key e = absurd (cc)
ack_kind (named.InR1A4 a b c d) key e = absurd (cc)
ack_kind (named.InR1A5 a) key e = absurd (cc)
ack_kind (named.InR1A6 a) key e = absurd (cc)
ack_kind named.InR1B1 key e = absurd (cc)
ack_kind (named.InR1B2 a) key e = absurd (cc)
ack_kind (named.InR2A2 a) key e = absurd (cc)
ack_kind (named.InR2A3 a) key e = absurd (cc)
ack_kind (named.InR2A4 a) key e = absurd (cc)
ack_kind (named.OutR1A1 a) key e = absurd (cc)
ack_kind (named.OutR1A2 a) key e = absurd (cc)
ack_kind (named.OutR1A3 a b c d i) key e = absurd (cc)
ack_kind named.OutR2C1 key e = absurd (cc)
ack_kind (named.OutR1A4 a b c d i f g) key e = absurd (cc)
ack_kind (named.OutR1A5 a b c) key e = absurd (cc)
ack_kind (named.OutR1A6 a b c) key e = absurd (cc)
ack_kind (named.OutR1A7 a b) key e = absurd (cc)
ack_kind (named.OutR1A8 a b) key e = absurd (cc)
ack_kind named.OutR1A9 key e = absurd (cc)
ack_kind named.OutR1A10 key e = absurd (cc)
ack_kind named.EndA1 key e = absurd (cc)
ack_kind named.EndA2 key e = absurd (cc)
ack_kind named.EndB1 key e = absurd (cc)
ack_kind named.EndB2 key e = absurd (cc)
ack_kind (named.Ack a b c) key e = absurd (cc)
ack_kind (named.AckTo a b c d) key e = refl
ack_kind (named.KeepAlive a) key e = absurd (cc)
ack_kind (named.PingTraffic a) key e = absurd (cc)
ack_kind named.Ping key e = absurd (cc)

key_there : (one : Option Key) (other : Option Key) → are_one one other ≡ true → is_some one ≡ true
key_there None other e = absurd (cc)
key_there (Some key) other e = refl

keyed : (packet : Named) (key : Option Key) → key_of packet ≡ key → is_some key ≡ true
    → kind_of packet ≡ None
keyed packet None e is = absurd (cc)
keyed packet (Some key) e is = ack_kind packet key e

-- what a test says of a packet stays where another is merged with it
same_count : (test : Due → Bool) (packet : Named)
    → ((due : Due) → takes packet due ≡ true → test (better due packet) ≡ test due)
    → (dues : List Due) → count_by test (merged dues packet) ≡ count_by test dues
same_count test packet same [] = refl
same_count test packet same (due ∷ dues) =
    by (takes packet due) (same due) (same_count test packet same dues)
  where
    by : (b : Bool) → (b ≡ true → test (better due packet) ≡ test due)
        → count_by test (merged dues packet) ≡ count_by test dues
        → count_by test (cond b (better due packet ∷ dues) (due ∷ merged dues packet))
        ≡ count_by test (due ∷ dues)
    by true here rest =
        let same : one_if test (better due packet) ≡ one_if test due = ap (λ t. cond t 1 0)
        (here refl) in
        omega (
          arith,
          same,
          sum_by-cons (one_if test) (better due packet) dues,
          sum_by-cons (one_if test) due dues,
        )
    by false here rest =
        omega (
          arith,
          rest,
          sum_by-cons (one_if test) due (merged dues packet),
          sum_by-cons (one_if test) due dues,
        )

-- merging changes no origin, and no kind where both have none
same_better : (due : Due) (packet : Named) (k : Kind) → kind_of packet ≡ None
    → kind_of due.packet ≡ None → is_own k (better due packet) ≡ is_own k due
same_better due packet k kindless was = by (nat_lt (edge_of packet) (edge_of due.packet))
  where
    by : (b : Bool) → is_own k (cond b due (record { packet = packet; origin = due.origin }))
        ≡ is_own k due
    by true = refl
    by false = rw (kindless, was) refl

same_origin : (due : Due) (packet : Named) → is_of Own (better due packet) ≡ is_of Own due
same_origin due packet = by (nat_lt (edge_of packet) (edge_of due.packet))
  where
    by : (b : Bool) → is_of Own (cond b due (record { packet = packet; origin = due.origin }))
        ≡ is_of Own due
    by true = refl
    by false = refl

same_merged : (dues : List Due) (packet : Named) (k : Kind) → kind_of packet ≡ None
    → count_by (is_own k) (merged dues packet) ≡ count_by (is_own k) dues
same_merged dues packet k kindless = same_count (is_own k) packet
    (λ due h. same_better due packet k kindless
    (keyed due.packet (key_of due.packet) refl (key_there (key_of due.packet)
    (key_of packet) h)))
    dues

once_merged : (dues : List Due) (packet : Named) → kind_of packet ≡ None → AreOnce dues
    → AreOnce (merged dues packet)
once_merged dues packet kindless once = record {
  conn_c1 = omega (arith, once.conn_c1, same kind.ConnC1);
  in_r1_a3 = omega (arith, once.in_r1_a3, same kind.InR1A3);
  in_r2_a3 = omega (arith, once.in_r2_a3, same kind.InR2A3);
  out_r1 = omega (arith, once.out_r1, same kind.OutR1);
  all = omega (
    arith,
    once.all,
    same kind.ConnC1,
    same kind.InR1A3,
    same kind.InR2A3,
    same kind.OutR1,
    same_count (is_of Own) packet (λ due h. same_origin due packet) dues,
  );
}
  where
    same : (k : Kind) → count_by (is_own k) (merged dues packet) ≡ count_by (is_own k) dues
    same k = same_count (is_own k) packet
        (λ due h. same_better due packet k kindless
        (keyed due.packet (key_of due.packet) refl (key_there (key_of due.packet)
        (key_of packet) h)))
        dues

once_pushed : (dues : List Due) (packet : Named) → AreOnce dues
    → AreOnce (dues ++ to_forward packet ∷ [])
once_pushed dues packet once = record {
  conn_c1 = omega (arith, once.conn_c1, all kind.ConnC1);
  in_r1_a3 = omega (arith, once.in_r1_a3, all kind.InR1A3);
  in_r2_a3 = omega (arith, once.in_r2_a3, all kind.InR2A3);
  out_r1 = omega (arith, once.out_r1, all kind.OutR1);
  all = omega (
    arith,
    once.all,
    all kind.ConnC1,
    all kind.InR1A3,
    all kind.InR2A3,
    all kind.OutR1,
    sum_by_push (one_if (is_of Own)) dues (to_forward packet),
  );
}
  where
    all : (j : Kind) → count_by (is_own j) (dues ++ to_forward packet ∷ [])
        ≡ count_by (is_own j) dues + 0
    all j = sum_by_push (one_if (is_own j)) dues (to_forward packet)

ack_has_none : (packet : Named) → is_ack packet ≡ true → kind_of packet ≡ None
ack_has_none (named.ConnA1 a b c d) e = absurd (cc)
ack_has_none (named.ConnA2 a b c d i) e = absurd (cc)
ack_has_none (named.ConnA3 a) e = absurd (cc)
ack_has_none (named.ConnB1 a b c d i f) e = absurd (cc)
ack_has_none (named.ConnB2 a b c d i f g h) e = absurd (cc)
ack_has_none (named.ConnB3 a b) e = absurd (cc)
ack_has_none (named.ConnC1 a b c) e = absurd (cc)
ack_has_none (named.ConnC2 a b c) e = absurd (cc)
ack_has_none (named.InR1A1 a b c d) e = absurd (cc)
ack_has_none (named.InR1A2 a b c d i f) e = absurd (cc)
ack_has_none (named.InR1A3 a b c d) e = absurd (cc)
ack_has_none (named.InR1A4 a b c d) e = absurd (cc)
ack_has_none (named.InR1A5 a) e = absurd (cc)
ack_has_none (named.InR1A6 a) e = absurd (cc)
ack_has_none named.InR1B1 e = absurd (cc)
ack_has_none (named.InR1B2 a) e = absurd (cc)
ack_has_none (named.InR2A2 a) e = absurd (cc)
ack_has_none (named.InR2A3 a) e = absurd (cc)
ack_has_none (named.InR2A4 a) e = absurd (cc)
ack_has_none (named.OutR1A1 a) e = absurd (cc)
ack_has_none (named.OutR1A2 a) e = absurd (cc)
ack_has_none (named.OutR1A3 a b c d i) e = absurd (cc)
ack_has_none named.OutR2C1 e = absurd (cc)
ack_has_none (named.OutR1A4 a b c d i f g) e = absurd (cc)
ack_has_none (named.OutR1A5 a b c) e = absurd (cc)
ack_has_none (named.OutR1A6 a b c) e = absurd (cc)
ack_has_none (named.OutR1A7 a b) e = absurd (cc)
ack_has_none (named.OutR1A8 a b) e = absurd (cc)
ack_has_none named.OutR1A9 e = absurd (cc)
ack_has_none named.OutR1A10 e = absurd (cc)
ack_has_none named.EndA1 e = absurd (cc)
ack_has_none named.EndA2 e = absurd (cc)
ack_has_none named.EndB1 e = absurd (cc)
ack_has_none named.EndB2 e = absurd (cc)
ack_has_none (named.Ack a b c) e = absurd (cc)
ack_has_none (named.AckTo a b c d) e = refl
ack_has_none (named.KeepAlive a) e = absurd (cc)
ack_has_none (named.PingTraffic a) e = absurd (cc)
ack_has_none named.Ping e = absurd (cc)

abbrev dues_of : Waiting × Bool → List Due
dues_of r = r.0.due

pub once_forwarded : (w : Waiting) (packet : Named) → is_ack packet ≡ true → AreOnce w.due
    → AreOnce (forwarded w packet).0.due
once_forwarded w packet is once =
    by (list_any (takes packet) w.due) (nat_lt (count Forwarded w.due) w.room)
  where
    by : (a b : Bool) → AreOnce (dues_of (cond a (with_due w (merged w.due packet), true)
        (cond b (with_due w (w.due ++ to_forward packet ∷ []), true) (w, false))))
    by true b = once_merged w.due packet (ack_has_none packet is) once
    by false true = once_pushed w.due packet once
    by false false = once

-- and it leaves the number of each kind
pub same_forwarded : (w : Waiting) (packet : Named) (k : Kind) → is_ack packet ≡ true
    → count_by (is_own k) (forwarded w packet).0.due ≡ count_by (is_own k) w.due
same_forwarded w packet k is =
    by (list_any (takes packet) w.due) (nat_lt (count Forwarded w.due) w.room)
  where
    pushed : count_by (is_own k) (w.due ++ to_forward packet ∷ []) ≡ count_by (is_own k) w.due + 0
    pushed = sum_by_push (one_if (is_own k)) w.due (to_forward packet)

    by : (a b : Bool) → count_by (is_own k)
        (dues_of (cond a (with_due w (merged w.due packet), true)
        (cond b (with_due w (w.due ++ to_forward packet ∷ []), true) (w, false))))
        ≡ count_by (is_own k) w.due
    by true b = same_merged w.due packet k (ack_has_none packet is)
    by false true = omega (arith, pushed)
    by false false = refl

-- where none waits, none is found
pub none_found : (test : Due → Bool) (dues : List Due) → count_by test dues ≡ 0
    → is_some (find test dues) ≡ false
none_found test dues e = by (find test dues) refl
  where
    by : (found : Option Due) → find test dues ≡ found → is_some found ≡ false
    by None f = refl
    by (Some due) f =
        let one : one_if test due ≡ 1 = ap (λ b. cond b 1 0) (passes test dues due f) in
        absurd (omega (arith, e, one, one_less test test dues due f))

-- where one is taken, there are no more of any kind
pub none_taken : (test may_go : Due → Bool) (dues : List Due) → count_by test dues ≡ 0
    → count_by test (without_first may_go dues) ≡ 0
none_taken test may_go dues e = by (find may_go dues) refl
  where
    by : (found : Option Due) → find may_go dues ≡ found
        → count_by test (without_first may_go dues) ≡ 0
    by None f = ap (count_by test) (none_less may_go dues f) ∙ e
    by (Some due) f = omega (arith, e, one_less test may_go dues due f)

-- how many of the packets that wait pass a test
use Rattle.law_order.proofs.Vocabulary.{◌≡◌, ℕ, ◌+◌, ◌≤◌, nat_lt, Bool, true, false, true≢false, List, [], ◌∷◌, ◌++◌, Some, None, refl, sym, ap, ◌∙◌, arith, list_any, Option}
use Rattle.law_moves.proofs.Vocabulary.{by_test, Cookie, Named, AckTo, Due, Forwarded, one_if, Waiting, Key, key_of, are_one, better, edge_of, merged, takes, with_due, pushed, to_forward, count, forwarded}

-- a test that no acknowledgement with a destination passes
abbrev pub IsNoAck : (Named → Bool) → Type 0
IsNoAck test =
    (to received available : ℕ) (channel : Cookie)
    → test (AckTo to received available channel) ≡ false

module _ (test : Named → Bool) where
  abbrev pub waits : List Due → ℕ
  waits [] = 0
  waits (due ∷ dues) = one_if (test due.packet) + waits dues

  waits_append : (dues : List Due) (due : Due)
      → waits (dues ++ due ∷ []) ≡ waits dues + one_if (test due.packet)
  waits_append [] due = omega arith
  waits_append (first ∷ dues) due =
      let rest = waits_append dues due in omega (arith, rest)

  module _ (none : IsNoAck test) where
    -- what is taken by one that waits does not pass it
    no_key : (o : Option Key) → are_one o None ≡ false
    no_key None = refl
    no_key (Some key) = refl

    taken_is_none : (packet : Named) (due : Due) → takes packet due ≡ true → test packet ≡ false
    taken_is_none (AckTo to received available channel) due e = none to received available channel
    taken_is_none packet due e = absurd (true≢false (sym e ∙ no_key (key_of due.packet)))

    better_waits : (due : Due) (packet : Named) → test packet ≡ false
        → one_if (test (better due packet).packet) ≤ one_if (test due.packet)
    better_waits due packet e =
        by_test (λ (d : Due). one_if (test d.packet) ≤ one_if (test due.packet))
        (nat_lt (edge_of packet) (edge_of due.packet)) due
        (record { packet = packet; origin = due.origin }) (λ f. omega arith)
        (λ f. let is = ap one_if e in omega (arith, is))

    merged_waits : (dues : List Due) (packet : Named)
        → waits (merged dues packet) ≤ waits dues
    merged_waits [] packet = omega arith
    merged_waits (due ∷ dues) packet =
        let rest = merged_waits dues packet in
        by_test (λ (ds : List Due). waits ds ≤ one_if (test due.packet) + waits dues)
        (takes packet due) (better due packet ∷ dues) (due ∷ merged dues packet)
        (λ e. let less = better_waits due packet (taken_is_none packet due e) in
        omega (arith, less))
        (λ e. omega (arith, rest))

    -- one more waits, or none
    pub forwarded_waits : (w : Waiting) (packet : Named)
        → waits (forwarded w packet).0.due ≤ waits w.due + one_if (test packet)
    forwarded_waits w packet =
        by_test Fits (list_any (takes packet) w.due) (with_due w (merged w.due packet), true) _
        (λ e. let less = merged_waits w.due packet in omega (arith, less))
        (λ e. by_test Fits (nat_lt (count Forwarded w.due) w.room)
        (pushed w (to_forward packet), true) (w, false)
        (λ f. let all = waits_append w.due (to_forward packet) in omega (arith, all))
        (λ f. omega arith))
      where
        Fits : Waiting × Bool → Type 0
        Fits x = waits x.0.due ≤ waits w.due + one_if (test packet)

    -- and one that is refused changes nothing
    abbrev pub IsSame : Waiting → Waiting × Bool → Type 0
    IsSame w (other, true) = Unit {0}
    IsSame w (other, false) = other ≡ w

    pub refused_waits : (w : Waiting) (packet : Named) → IsSame w (forwarded w packet)
    refused_waits w packet =
        by_test (IsSame w) (list_any (takes packet) w.due)
        (with_due w (merged w.due packet), true) _ (λ e. tt)
        (λ e. by_test (IsSame w) (nat_lt (count Forwarded w.due) w.room)
        (pushed w (to_forward packet), true) (w, false) (λ f. tt) (λ f. refl))

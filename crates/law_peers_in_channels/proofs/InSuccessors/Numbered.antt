-- the numbers of a client's IN channels, by how many replacements it asked for
use Rattle.law_order.proofs.Vocabulary.{◌≡◌, ◌⊎◌, ◌==◌, ◌&&◌, ◌||◌, ℕ, ◌+◌, ◌<◌, ◌≤◌, nat_lt, Bool, true, false, inl, inr, refl, arith, nat_tests}
use Rattle.rh_client.specs.declared.replacement.InStage.TheVariants as in_stage
use Rattle.law_moves.proofs.Lemmas.{both}
use Rattle.law_moves.proofs.Vocabulary.{Passage, of_leg, count_of}
use Rattle.law_role_client.proofs.Vocabulary.{LAST_NUMBER, Replacement, NoneUnderWay, In, Out, ClientRole, is_put, is_up, rules, was_in_up, is_in, ci, is_in_successor, is_writing, is_among, is_in_r1_a1, once_if, InIsAt, ReplacesIns, in_answered, in_asked}
use Rattle.law_role_client.proofs.Counted.Standing.{once_at_most as once_most}
use Rattle.law_node_causes.specs.Numbers.{ClientIsNumbered}
use Rattle.law_role_outproxy.proofs.Refusing.Refusals.{same_number}

-- ---- legs that were up

either : (a b : Bool) → (a || b) ≡ true → (a ≡ true) ⊎ (b ≡ true)
either true b e = inl refl
either false b e = inr e

at_most : (n w : ℕ) → (nat_lt 0 n && nat_lt n w) ≡ true → n ≤ w
at_most n w e = grind (arith, nat_tests, e)

-- the leg is of a channel up to the writing one, or of the successor
up_number : (s : ClientRole) (n : ℕ) → was_in_up s n ≡ true
    → (n ≤ s.writing.number) ⊎ ((is_in s.replacement ≡ true) × (n ≡ s.in_successor.number))
up_number s n e =
    by (either (nat_lt 0 n && nat_lt n s.writing.number)
    ((is_writing s n && is_up s.writing.opening)
    || (is_in_successor s n && is_up s.in_successor.opening)) e)
  where
    Goal : Type 0
    Goal = (n ≤ s.writing.number)
        ⊎ ((is_in s.replacement ≡ true) × (n ≡ s.in_successor.number))

    of_two : ((is_writing s n && is_up s.writing.opening) ≡ true)
        ⊎ ((is_in_successor s n && is_up s.in_successor.opening) ≡ true) → Goal
    of_two (inl e) =
        let same = same_number n s.writing.number
        (both (is_writing s n) (is_up s.writing.opening) e).0 in
        inl (omega (arith, same))
    of_two (inr e) =
        let now = both (is_in s.replacement) (n == s.in_successor.number)
        (both (is_in_successor s n) (is_up s.in_successor.opening) e).0 in
        inr (now.0, same_number n s.in_successor.number now.1)

    by : ((nat_lt 0 n && nat_lt n s.writing.number) ≡ true)
        ⊎ (((is_writing s n && is_up s.writing.opening)
        || (is_in_successor s n && is_up s.in_successor.opening)) ≡ true) → Goal
    by (inl e) = inl (at_most n s.writing.number e)
    by (inr e) =
        of_two (either (is_writing s n && is_up s.writing.opening)
        (is_in_successor s n && is_up s.in_successor.opening) e)

-- ---- what was asked for

module _ (client : Passage ClientRole) (replaces : ReplacesIns client) where
  -- each channel that was asked for has a number
  pub asked_numbered : ClientIsNumbered client.role → in_asked client + 1 ≤ 4294967295
  asked_numbered numbered =
      by client.role.replacement replaces.at numbered.ins.next_last
    where
      now : client.role.writing.number ≤ 4294967295
      now = numbered.ins.now_last

      by : (r : Replacement) → InIsAt client r
          → (is_in r ≡ true → client.role.in_successor.number ≤ LAST_NUMBER)
          → in_asked client + 1 ≤ 4294967295
      by NoneUnderWay at next =
          let asked = at.1 in
          let writing = replaces.writing in omega (arith, asked, writing, now)
      by (Out stage waiting) at next =
          let asked = at.1 in
          let writing = replaces.writing in omega (arith, asked, writing, now)
      by (In in_stage.Asked waits) at next =
          let asked = at.1 in
          let number = at.2 in
          let writing = replaces.writing in
          let once = once_most (is_put client.role.in_successor.opening) in
          let last : client.role.in_successor.number ≤ 4294967295 = next refl in
          omega (arith, asked, number, writing, once, last)
      by (In in_stage.Answered waits) at next =
          let asked = at.1 in
          let number = at.2 in
          let writing = replaces.writing in
          let last : client.role.in_successor.number ≤ 4294967295 = next refl in
          omega (arith, asked, number, writing, last)

  among_numbers : (n k count : ℕ) → count ≡ once_if (is_among 2 k n) → 1 ≤ count
      → (2 ≤ n) × (n ≤ k + 1)
  among_numbers n k count e some =
      (grind (arith, nat_tests, e, some), grind (arith, nat_tests, e, some))

  -- and IN_R1/A1 stands on none above those
  pub asked_on : (n : ℕ) → 1 ≤ count_of is_in_r1_a1 (of_leg (ci n) client.put)
      → (2 ≤ n) × (n ≤ in_asked client + 1)
  asked_on n some =
      among_numbers n (in_asked client) (count_of is_in_r1_a1 (of_leg (ci n) client.put))
      (replaces.asks_on (ci n)) some

  -- nor came a leg up above them, where one that was asked for is not answered
  pub up_most : in_answered client < in_asked client → (n : ℕ)
      → rules.was_up client.role (ci n) ≡ true → n ≤ in_asked client + 1
  up_most waits n up = by (up_number client.role n up)
    where
      at : (r : Replacement) → InIsAt client r → is_in r ≡ true
          → client.role.in_successor.number ≤ in_asked client + 1
      at NoneUnderWay stands e = absurd cc
      at (Out stage waiting) stands e = absurd cc
      at (In in_stage.Asked out_waits) stands e =
          let answered = stands.0 in
          let number = stands.2 in
          let writing = replaces.writing in
          omega (arith, answered, number, writing, waits)
      at (In in_stage.Answered out_waits) stands e =
          let asked = stands.1 in
          let number = stands.2 in
          let writing = replaces.writing in
          omega (arith, asked, number, writing)

      by : (n ≤ client.role.writing.number) ⊎ ((is_in client.role.replacement ≡ true)
          × (n ≡ client.role.in_successor.number)) → n ≤ in_asked client + 1
      by (inl most) =
          let writing = replaces.writing in
          let answered = replaces.answered in
          let asked = replaces.asked in
          omega (arith, most, writing, answered, asked)
      by (inr next) =
          let most = at client.role.replacement replaces.at next.0 in
          let same = next.1 in omega (arith, most, same)

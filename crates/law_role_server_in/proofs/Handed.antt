-- why a server refuses IN_R1/A6
use Rattle.law_order.proofs.Vocabulary.{◌≡◌, ◌⊎◌, inl, inr, ℕ, ◌+◌, ◌≤◌, ◌==◌, ◌&&◌, Bool, true, false, not, if◌then◌else◌, List, Some, arith, refl, ap, ◌∙◌, and_parts}
use Rattle.rh_shell.specs.declared.answers.Refused.TheVariants as refused
use Rattle.rh_server.specs.declared.out_line.Kind.TheVariants as kind
use Rattle.law_moves.proofs.Vocabulary.{by_test, other_number, same_number, Cookie, AreAllowedAtEnd, EndMove, Passage, end_started}
use Rattle.law_role_server.proofs.Vocabulary.{hands_over, on_in_r1_a6, Done, took, refuse, unexpected, waits, acts, first, rules, Server, same_cookie, AreAnswered, is_in_r1_a3, is_in_r1_a6, out_put}
use Rattle.law_role_server.proofs.Takes.{not_false}
use Rattle.law_role_server.proofs.Gives.{negated as is_not}
use Rattle.law_role_server_rows.proofs.Refusing.Tests.{one_fails}
use Rattle.law_role_server_rows.specs.Refusing.Refusing.{IsOther}
use Rattle.law_role_server_in.proofs.Steps.{known}
use Rattle.law_role_server_in.proofs.Tests.{in_r1_a3_waits}
use Rattle.law_role_server_in.proofs.Standing.{firsts, lefts, stand}
use Rattle.law_role_server_in.proofs.Opened.{Place, Since, none_or_some, since_opened}
use Rattle.law_role_server_in.proofs.Why.{IsUnexpected}
use Rattle.law_role_server_in.proofs.Replaced.{Refuses, other}
use Rattle.law_role_server_in.specs.Refusing.{came_at, first_at}
use Rattle.law_role_server_in.specs.Handovers.{HadOpened, IsLastAnswered, NextNames, RefusesInR1A6, UnexpectedInR1A6, answers, passed}

-- unleft: where the current channel isn't finished, no IN_R1/A6 came on its leg
module _ (window : ℕ) (moves : List EndMove)
    (may : AreAllowedAtEnd rules acts (end_started (first window)) moves)
    (answered : (front : List EndMove) → AreAnswered (passed window front))
    (unleft : (passed window moves).role.line.finished ≡ false
    → came_at is_in_r1_a6 (passed window moves) (passed window moves).role.current.leg ≡ 0) where
  abbrev p : Passage Server
  p = passed window moves

  abbrev s : Server
  s = p.role

  abbrev waiting : Bool
  waiting = waits kind.InR1A3 s.waiting

  since : (n : ℕ) (front : List EndMove) → HadOpened window moves n front
      → Since n (answers (passed window front)) (λ m. first_at (passed window front) m ≡ 0)
      (stand s p.put) (lefts p.came) (firsts p.came)
  since n front h = since_opened window answered moves may n front h

  module _ (n : ℕ) (successor : Cookie) where
    abbrev test : Bool
    test = (n == s.current.leg) && (not s.line.finished && (s.line.has_next && not waiting))

    -- ---- as unexpected

    at_most_one : (b : Bool) → (if b then 1 else 0) ≤ 1
    at_most_one true = omega arith
    at_most_one false = omega arith

    -- the leg is the current one, and IN_R1/A6 didn't come
    module _ (most : ℕ) (stays : came_at is_in_r1_a6 p n ≡ 0) (now : n ≡ s.current.leg)
        (few : answers p ≤ most + (if s.line.has_next then 1 else 0)) where
      abbrev Goal : Type 0
      Goal = out_put is_in_r1_a3 p ≤ most

      alone : s.line.has_next ≡ false → Goal
      alone e =
          let none = ap {B = ℕ} (λ (b : Bool). if b then 1 else 0) e in
          omega (arith, few, none)

      due : waiting ≡ true → Goal
      due e =
          let some = in_r1_a3_waits s.waiting.due e in
          let one = at_most_one s.line.has_next in omega (arith, few, some, one)

      finished : s.line.finished ≡ true → Goal
      finished e =
          let left = (known window moves may n).tail.left e now in
          absurd (omega (arith, left, stays))

      third : (s.line.has_next ≡ false) ⊎ (not waiting ≡ false) → Goal
      third (inl e) = alone e
      third (inr e) = due (not_false waiting e)

      second : (not s.line.finished ≡ false) ⊎ ((s.line.has_next && not waiting) ≡ false) → Goal
      second (inl e) = finished (not_false s.line.finished e)
      second (inr e) = third (one_fails s.line.has_next (not waiting) e)

      current : ((n == s.current.leg) ≡ false)
          ⊎ ((not s.line.finished && (s.line.has_next && not waiting)) ≡ false) → Goal
      current (inl e) = absurd (other_number n s.current.leg e now)
      current (inr e) = second (one_fails (not s.line.finished) _ e)

    last : came_at is_in_r1_a6 p n ≡ 0 → test ≡ false → IsLastAnswered window moves n
    last stays e front h = by (since n front h)
      where
        most : ℕ
        most = answers (passed window front)

        placed : Place n most (λ m. first_at (passed window front) m ≡ 0) (stand s p.put)
            → out_put is_in_r1_a3 p ≤ most
        placed (inl now) = current most stays now.0 now.1 (one_fails (n == s.current.leg) _ e)
        placed (inr next) = let few = next.2 in omega (arith, few)

        by : Since n most (λ m. first_at (passed window front) m ≡ 0) (stand s p.put)
            (lefts p.came) (firsts p.came) → out_put is_in_r1_a3 p ≤ most
        by (inl left) = absurd (omega (arith, left, stays))
        by (inr r) = placed r.place

    in_r1_a6_refused : IsUnexpected (on_in_r1_a6 s n successor)
        → UnexpectedInR1A6 window moves n
    in_r1_a6_refused =
        by_test Row test (if same_cookie s.next.cookie successor then took (hands_over s n)
        else refuse s (refused.Cookie s.next.cookie successor)) (unexpected s)
        (λ e. by_test Row (same_cookie s.next.cookie successor) (took (hands_over s n))
        (refuse s (refused.Cookie s.next.cookie successor)) (λ f r. absurd (cc))
        (λ f r. absurd (cc)))
        (λ e r. by e (none_or_some (came_at is_in_r1_a6 p n)))
      where
        Row : Done → Type 0
        Row x = IsUnexpected x → UnexpectedInR1A6 window moves n

        by : test ≡ false
            → (came_at is_in_r1_a6 p n ≡ 0) ⊎ (1 ≤ came_at is_in_r1_a6 p n)
            → UnexpectedInR1A6 window moves n
        by e (inl stays) = inr (inr (last stays e))
        by e (inr left) = inr (inl left)

    -- ---- for its cookie

    only : test ≡ true → (m : ℕ) (before front : List EndMove)
        → HadOpened window moves n before → first_at (passed window before) m ≡ 0
        → HadOpened window moves m front → m ≡ s.next.leg
    only e m before front h none k = by (since n before h) (since m front k)
      where
        both : ((n == s.current.leg) ≡ true)
            × ((not s.line.finished && (s.line.has_next && not waiting)) ≡ true)
        both = and_parts (n == s.current.leg) _ e

        now : n ≡ s.current.leg
        now = same_number n s.current.leg both.0

        stays : came_at is_in_r1_a6 p n ≡ 0
        stays =
            ap (came_at is_in_r1_a6 p) now
            ∙ unleft (is_not s.line.finished (and_parts (not s.line.finished) _ both.1).0)

        placed : (lefts p.came m ≡ 0) × (m ≡ s.current.leg → ⊥)
            → Place m (answers (passed window front))
            (λ k. first_at (passed window front) k ≡ 0) (stand s p.put)
            → m ≡ s.next.leg
        placed apart (inl is) = absurd (apart.1 is.0)
        placed apart (inr next) = next.1

        later : (lefts p.came m ≡ 0) × (m ≡ s.current.leg → ⊥)
            → Since m (answers (passed window front))
            (λ k. first_at (passed window front) k ≡ 0) (stand s p.put) (lefts p.came)
            (firsts p.came)
            → m ≡ s.next.leg
        later apart (inl left) = let is = apart.0 in absurd (omega (arith, left, is))
        later apart (inr r) = placed apart r.place

        by : Since n (answers (passed window before))
            (λ k. first_at (passed window before) k ≡ 0) (stand s p.put) (lefts p.came)
            (firsts p.came)
            → Since m (answers (passed window front))
            (λ k. first_at (passed window front) k ≡ 0) (stand s p.put) (lefts p.came)
            (firsts p.came)
            → m ≡ s.next.leg
        by (inl left) y = absurd (omega (arith, left, stays))
        by (inr r) y = later (r.later m none) y

    next_of : (expected : Cookie) → test ≡ true → s.next.cookie ≡ expected
        → NextNames window moves n expected
    next_of expected e is =
        let both = and_parts (n == s.current.leg) _ e in
        let has = (and_parts s.line.has_next _ (and_parts (not s.line.finished) _ both.1).1).0 in
        record {
          leg = s.next.leg;
          names = (known window moves may s.next.leg).tail.next_named has refl
              ∙ ap (λ (k : Cookie). Some k) is;
          only = only e;
        }

    in_r1_a6_other : (expected got : Cookie)
        → Refuses expected got (on_in_r1_a6 s n successor)
        → IsOther successor expected got × NextNames window moves n expected
    in_r1_a6_other expected got =
        by_test Row test (if same_cookie s.next.cookie successor then took (hands_over s n)
        else refuse s (refused.Cookie s.next.cookie successor)) (unexpected s)
        (λ e. by_test Row (same_cookie s.next.cookie successor) (took (hands_over s n))
        (refuse s (refused.Cookie s.next.cookie successor)) (λ f r. absurd (cc))
        (λ f r.
        let is = other expected got s s.next.cookie successor f r in
        (is.1, next_of expected e is.0)))
        (λ e r. absurd (cc))
      where
        Row : Done → Type 0
        Row x = Refuses expected got x
            → IsOther successor expected got × NextNames window moves n expected

  pub refuses_in_r1_a6 : RefusesInR1A6 window moves
  refuses_in_r1_a6 = record {
    in_r1_a6 = λ n count successor used r. in_r1_a6_refused n successor r;
    in_r1_a6_cookie = λ n count successor expected got r.
        in_r1_a6_other n successor expected got r;
  }

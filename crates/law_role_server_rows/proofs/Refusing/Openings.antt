-- why a server refuses CONN/A2 and CONN/B2
use Rattle.law_order.proofs.Vocabulary.{◌≡◌, ◌⊎◌, inl, inr, ℕ, ◌≤◌, ◌==◌, ◌&&◌, true, false, not, Err, arith, refl, ap}
use Rattle.rh_shell.specs.declared.answers.Refused.TheVariants as refused
use Rattle.rh_server.specs.declared.state.Stage.TheVariants as stage
use Rattle.rh_server.specs.declared.out_line.Kind.TheVariants as kind
use Rattle.law_moves.proofs.Vocabulary.{by_test, other_number, Cookie, Count, Passage, Tells}
use Rattle.law_role_server.proofs.Vocabulary.{Stage, waits, Server, same_cookie, Done, unexpected, is_first, conn_a2_at, on_conn_a2, conn_b2_at, on_conn_b2, is_conn_a2, is_conn_b2, is_conn_c1, in_came, out_came, since_conn_a2, since_conn_b2, since_open, OpensOnce}
use Rattle.law_role_server.proofs.Takes.{not_false}
use Rattle.law_role_server_rows.proofs.Refusing.Tests.{one_fails, later_count, one_waits, is_c1}

-- the row refuses as unexpected
abbrev pub IsUnexpected : Done → Type 0
IsUnexpected done = done.1 ≡ Err refused.Unexpected

-- behind the test of both rows
abbrev pub Fails : ℕ → ℕ → ℕ → Type 0
Fails number before passed = (1 ≤ before) ⊎ (number ≡ 1 → ⊥) ⊎ (1 ≤ passed)

test_fails : (s : Server) (count : Count) (number before passed : ℕ) → Tells count before
    → (waits kind.ConnC1 s.waiting ≡ true → 1 ≤ passed)
    → is_first count && ((number == 1) && not (waits kind.ConnC1 s.waiting)) ≡ false
    → Fails number before passed
test_fails s count number before passed tells some e =
    by (one_fails (is_first count) ((number == 1) && not (waits kind.ConnC1 s.waiting)) e)
  where
    inner : (number == 1 ≡ false) ⊎ (not (waits kind.ConnC1 s.waiting) ≡ false)
        → Fails number before passed
    inner (inl f) = inr (inl (other_number number 1 f))
    inner (inr f) = inr (inr (some (not_false (waits kind.ConnC1 s.waiting) f)))

    by : (is_first count ≡ false)
        ⊎ ((number == 1) && not (waits kind.ConnC1 s.waiting) ≡ false)
        → Fails number before passed
    by (inl f) = inl (later_count count before tells f)
    by (inr f) = inner (one_fails (number == 1) (not (waits kind.ConnC1 s.waiting)) f)

open_both : (at : Stage)
    → (since_open at ≤ since_conn_a2 at) × (since_open at ≤ since_conn_b2 at)
open_both stage.Waits = (omega arith, omega arith)
open_both (stage.OutCame connection) = (omega arith, omega arith)
open_both (stage.InCame connection window timeout) = (omega arith, omega arith)
open_both (stage.Open connection) = (omega arith, omega arith)
open_both stage.Ended = (omega arith, omega arith)

module _ (p : Passage Server) (h : OpensOnce p) where
  -- CONN/C1 waits, so both came
  both_came : waits kind.ConnC1 p.role.waiting ≡ true
      → (1 ≤ out_came is_conn_a2 p) × (1 ≤ in_came is_conn_b2 p)
  both_came e =
      let one = one_waits kind.ConnC1 p.role.waiting.due e in
      let some = one.2 is_conn_c1 (is_c1 one.0 one.1) in
      let both = open_both p.role.stage in
      let of_a2 = both.0 in
      let of_b2 = both.1 in (
        omega (arith, some, of_a2, h.conn_a2, h.conn_c1),
        omega (arith, some, of_b2, h.conn_b2, h.conn_c1),
      )

  -- on an os leg of this number, on which so many packets came
  pub conn_a2_refused : (number : ℕ) (count : Count) (before : ℕ) (connection cookie : Cookie)
      (lifetime window : ℕ) → Tells count before
      → IsUnexpected (on_conn_a2 p.role number count connection cookie lifetime window)
      → Fails number before (out_came is_conn_a2 p)
  conn_a2_refused number count before connection cookie lifetime window tells =
      by_test (λ (d : Done). IsUnexpected d → Goal) _ _ (unexpected p.role)
      (λ e. by p.role.stage refl)
      (λ e unexpected. test_fails p.role count number before (out_came is_conn_a2 p) tells
      (λ w. (both_came w).0) e)
    where
      Goal : Type 0
      Goal = Fails number before (out_came is_conn_a2 p)

      came : (at : Stage) → p.role.stage ≡ at → since_conn_a2 at ≡ 1 → Goal
      came at e is =
          let same = ap since_conn_a2 e in inr (inr (omega (arith, same, is, h.conn_a2)))

      by : (at : Stage) → p.role.stage ≡ at
          → IsUnexpected (conn_a2_at p.role at connection cookie lifetime window) → Goal
      by stage.Waits e r = absurd (cc)
      by (stage.InCame first in_window timeout) e r =
          by_test (λ (d : Done). IsUnexpected d → Goal) (same_cookie first connection) _ _
          (λ t q. absurd (cc)) (λ t q. absurd (cc)) r
      by (stage.OutCame first) e r = came (stage.OutCame first) e refl
      by (stage.Open first) e r = came (stage.Open first) e refl
      by stage.Ended e r = came stage.Ended e refl

  -- on an is leg
  pub conn_b2_refused : (number : ℕ) (count : Count) (before : ℕ) (connection cookie : Cookie)
      (window timeout : ℕ) → Tells count before
      → IsUnexpected (on_conn_b2 p.role number count connection cookie window timeout)
      → Fails number before (in_came is_conn_b2 p)
  conn_b2_refused number count before connection cookie window timeout tells =
      by_test (λ (d : Done). IsUnexpected d → Goal) _ _ (unexpected p.role)
      (λ e. by p.role.stage refl)
      (λ e unexpected. test_fails p.role count number before (in_came is_conn_b2 p) tells
      (λ w. (both_came w).1) e)
    where
      Goal : Type 0
      Goal = Fails number before (in_came is_conn_b2 p)

      came : (at : Stage) → p.role.stage ≡ at → since_conn_b2 at ≡ 1 → Goal
      came at e is =
          let same = ap since_conn_b2 e in inr (inr (omega (arith, same, is, h.conn_b2)))

      by : (at : Stage) → p.role.stage ≡ at
          → IsUnexpected (conn_b2_at p.role at connection cookie window timeout) → Goal
      by stage.Waits e r = absurd (cc)
      by (stage.OutCame first) e r =
          by_test (λ (d : Done). IsUnexpected d → Goal) (same_cookie first connection) _ _
          (λ t q. absurd (cc)) (λ t q. absurd (cc)) r
      by (stage.InCame first in_window in_timeout) e r =
          came (stage.InCame first in_window in_timeout) e refl
      by (stage.Open first) e r = came (stage.Open first) e refl
      by stage.Ended e r = came stage.Ended e refl

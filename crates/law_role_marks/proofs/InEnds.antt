-- a server that put END/B1 goes on where an is leg ends on which END/A2 came
use Rattle.law_order.proofs.Vocabulary.{◌≡◌, ◌⊎◌, inl, inr, ℕ, suc, ◌<◌, ◌≤◌, ◌==◌, ◌&&◌, ◌||◌, Bool, true, false, true≢false, not, if◌then◌else◌, List, Some, None, arith, refl, sym, ap, ◌∙◌, subst, cases_lt, IfSome, IsTrue, Option, TakerLaw, has_end, has_handover}
use Rattle.law_moves.proofs.Vocabulary.{IsWindow, Which, Current, Next, test_other, test_same, EndMove, EndPassage, AreAllowedAtEnd, all_end_moved, end_started, is_in_use}
use Rattle.rh_line.specs.Lines.{Incoming}
use Rattle.law_role_server.proofs.Vocabulary.{InLeg, Server, is_put, is_some, stays, channel_at, ended_on, in_leg, in_only_marks, in_place, rules as server_rules, acts, first, got, has_leg, came_up, taker_of}
use Rattle.law_role_server.specs.Order.{ended_by, following}
use Rattle.law_role_server_rows.proofs.Putting.Each.{number_found}
use Rattle.law_role_server_in.proofs.CameUp.{kept_up}
use Rattle.law_role_server_in.proofs.Takes.{IsKept}
use Rattle.law_role_server_in.proofs.Steps.{in_use}
use Rattle.law_role_windows.proofs.Held.Lines.{first_kept}
use Rattle.law_role_windows.proofs.Held.Roles.{end_moves_keep}
use Rattle.law_role_windows.proofs.Held.ServerLine.{Kept, server_calls_keep, server_keeps}
use Rattle.law_role_marks.proofs.InMarks.{is_leg, only_marks_left}

starts : (window : ℕ) → IsWindow window → Kept window (first window)
starts window is = record { kept = first_kept window is; shut = λ e. absurd cc; next = refl }

-- ---- which channel of the line it is

on_current : (a f h b : Bool) → a ≡ true → f ≡ false
    → (if a && not f then Some Current else (if h && b then Some Next else None)) ≡ Some Current
on_current true false h b e g = refl
on_current true true h b e g = absurd (true≢false g)
on_current false f h b e g = absurd (true≢false (sym e))

on_next : (a f h b : Bool) → a ≡ false → h ≡ true → b ≡ true
    → (if a && not f then Some Current else (if h && b then Some Next else None)) ≡ Some Next
on_next false f true true e g k = refl
on_next false f true false e g k = absurd (true≢false (sym k))
on_next false f false b e g k = absurd (true≢false (sym g))
on_next true f h b e g k = absurd (true≢false e)

on_none : (a f h b : Bool) → a ≡ false → h && b ≡ false
    → (if a && not f then Some Current else (if h && b then Some Next else None)) ≡ None
on_none false f true true e g = absurd (true≢false g)
on_none false f true false e g = refl
on_none false f false b e g = refl
on_none true f h b e g = absurd (true≢false e)

not_both : (h b : Bool) → (h ≡ true → b ≡ false) → h && b ≡ false
not_both true b none = none refl
not_both false b none = refl

or_true : (a b : Bool) → b ≡ true → a || b ≡ true
or_true true b e = refl
or_true false b e = e

truth : (b : Bool) → IsTrue b → b ≡ true
truth true e = refl
truth false e = absurd (true≢false (sym e))

module _ (window : ℕ) (is : IsWindow window) (moves : List EndMove)
    (may : AreAllowedAtEnd server_rules acts (end_started (first window)) moves)
    (law : (let p = all_end_moved server_rules acts (end_started (first window)) moves in
    TakerLaw (taker_of p.taken p.passage.role) (has_leg moves p.passage.role) (got p)))
    (n : ℕ) where
  abbrev now : EndPassage Server
  now = all_end_moved server_rules acts (end_started (first window)) moves

  abbrev s : Server
  s = now.passage.role

  -- nothing is on a next channel that is not there
  blank : s.line.has_next ≡ false → s.line.next.ended ≡ false
  blank none =
      ap (λ (c : Incoming). c.ended)
      ((end_moves_keep server_rules (Kept window) (server_keeps window) acts
      (server_calls_keep window) (first window) moves may (starts window is)).kept.sound.unopened
      none)

  module _ (leg : InLeg) (at : in_leg n s.ins ≡ Some leg) (came : has_end (got now n) ≡ true)
      (unhanded : has_handover (got now n) ≡ false) where
    there : has_leg moves s n ≡ true
    there = or_true _ (came_up moves n)
        (truth (came_up moves n)
        (kept_up window moves n (subst (λ (o : Option InLeg). IsTrue (is_some o)) (sym at) refl)))

    abbrev Ended : Option Which → Type 0
    Ended which = ended_on s leg which ≡ true

    ended_by_case : (which : Option Which) → channel_at s n ≡ which → Ended which
        → Ended (channel_at s n)
    ended_by_case which e ended = subst Ended (sym e) ended

    here : n ≡ s.current.leg → Ended (channel_at s n)
    here same =
        ended_by_case (Some Current)
        (on_current (n == s.current.leg) s.line.finished s.line.has_next (n == s.next.leg)
        (ap (λ (k : ℕ). n == k) (sym same) ∙ test_same n)
        (law.holds.finished ∙ ap (λ (k : ℕ). has_handover (got now k)) (sym same) ∙ unhanded))
        (law.holds.ended ∙ ap (λ (k : ℕ). has_end (got now k)) (sym same) ∙ came)

    follows : s.current.leg < n → n ≡ following s → Ended (channel_at s n)
    follows above same = by s.line.has_next refl
      where
        over : s.line.next.ended ≡ true
        over = law.holds.next_ended ∙ ap (λ (k : ℕ). has_end (got now k)) (sym same) ∙ came

        by : (h : Bool) → s.line.has_next ≡ h → Ended (channel_at s n)
        by false none = absurd (true≢false (sym over ∙ blank none))
        by true has =
            let on : n ≡ s.next.leg = same
            ∙ ap (λ (b : Bool). if b then s.next.leg else suc s.current.leg) has in
            ended_by_case (Some Next)
            (on_next (n == s.current.leg) s.line.finished s.line.has_next (n == s.next.leg)
            (test_other n s.current.leg (λ e. absurd (omega (arith, above, e)))) has
            (ap (λ (k : ℕ). n == k) (sym on) ∙ test_same n)) over

    beyond : s.current.leg < n → following s < n → Ended (channel_at s n)
    beyond above far =
        ended_by_case None
        (on_none (n == s.current.leg) s.line.finished s.line.has_next (n == s.next.leg)
        (test_other n s.current.leg (λ e. absurd (omega (arith, above, e))))
        (not_both s.line.has_next (n == s.next.leg) (λ has.
        let less = subst (λ (b : Bool). (if b then s.next.leg else suc s.current.leg) < n) has far
        in test_other n s.next.leg (λ e. absurd (omega (arith, less, e))))))
        (sym (ap ended_by at) ∙ (law.later n far).1 ∙ came)

    over : Ended (channel_at s n)
    over = by (cases_lt n s.current.leg)
      where
        far : s.current.leg < n → following s ≤ n → (following s < n) ⊎ (n ≤ following s)
            → Ended (channel_at s n)
        far above from (inl less) = beyond above less
        far above from (inr upto) = follows above (omega (arith, from, upto))

        behind : s.current.leg < n → (n < following s) ⊎ (following s ≤ n)
            → Ended (channel_at s n)
        behind above (inl less) =
            absurd (true≢false (sym came ∙ ap has_end (law.between n above less).1))
        behind above (inr from) = far above from (cases_lt (following s) n)

        on : s.current.leg ≤ n → (s.current.leg < n) ⊎ (n ≤ s.current.leg)
            → Ended (channel_at s n)
        on from (inl above) = behind above (cases_lt n (following s))
        on from (inr upto) = here (omega (arith, from, upto))

        by : (n < s.current.leg) ⊎ (s.current.leg ≤ n) → Ended (channel_at s n)
        by (inl less) = absurd (true≢false (sym (law.past n less there) ∙ unhanded))
        by (inr from) = on from (cases_lt s.current.leg n)

  pub only_marks_over : has_end (got now n) ≡ true → is_put s.end_mark ≡ true
      → is_in_use server_rules s (is_leg n) ≡ true
      → server_rules.only_marks s (is_leg n) ≡ true
  only_marks_over came put used = by (has_handover (got now n)) refl
    where
      marks : (stays_on done : Bool) → done ≡ true
          → not stays_on || (is_put s.end_mark && done) ≡ true
      marks false done e = refl
      marks true true e = ap (λ (b : Bool). b && true) put
      marks true false e = absurd (true≢false (sym e))

      on_leg : has_handover (got now n) ≡ false → (o : Option InLeg) → in_leg n s.ins ≡ o
          → IsKept o → IfSome o (λ (leg : InLeg). leg.number ≡ n)
          → in_only_marks s o ≡ true
      on_leg none None at kept number = absurd kept
      on_leg none (Some leg) at kept number =
          marks (stays leg.leaving) (ended_on s leg (channel_at s leg.number))
          (subst (λ (k : ℕ). ended_on s leg (channel_at s k) ≡ true) (sym number)
          (over leg at came none))

      by : (b : Bool) → has_handover (got now n) ≡ b → in_only_marks s (in_leg n s.ins) ≡ true
      by true handed = only_marks_left window moves may n handed used
      by false none =
          on_leg none (in_leg n s.ins) refl (in_use s n used).1
          (number_found n s.ins (in_place n s.ins) refl)

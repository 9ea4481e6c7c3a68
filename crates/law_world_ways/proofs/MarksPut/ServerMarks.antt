-- on an os leg up to the writing channel's that is in use no more, OUT_R1/A9 or END/B1 was put
use Rattle.law_order.proofs.Vocabulary.{◌≡◌, inl, inr, ℕ, ◌<◌, ◌≤◌, List, Bool, true, false, true≢false, nat_lt, ◌&&◌, ◌||◌, not, arith, refl, sym, ap, ◌∙◌, subst, nat_tests, list_any, GiverLaw, has_end, has_handover}
use Rattle.law_moves.proofs.Vocabulary.{is_ended, EndMove, EndPassage, AreAllowedAtEnd, all_end_moved, end_started, is_at_work, is_in_use}
use Rattle.law_role_server.proofs.Vocabulary.{Server, is_some, is_put, out_place, phase_of, out_server as os, acts, first, rules as server_rules, giver_of, sent}
use Rattle.law_role_server_rows.proofs.Refusing.Writing.{HasLeg, has_place}
use Rattle.law_node_streams.specs.Streams.{is_end_up_on}
use Rattle.law_node_ends.specs.Passed.{IsDoneBehindEnd}
use Rattle.law_world_ways.proofs.MarksPut.ServerMarksRows.{Stands}
use Rattle.law_world_ways.proofs.MarksPut.ServerMarksLegs.{stands_since}
use Rattle.law_world_ways.proofs.MarksPut.ServerMarksEnds.{goes_so}

abbrev behind : ℕ → List EndMove → EndPassage Server
behind window moves = all_end_moved server_rules acts (end_started (first window)) moves

-- a leg that is kept is in use while the work is not done
kept_used : (s : Server) (n : ℕ) → HasLeg n s.outs → is_at_work server_rules s ≡ true
    → is_in_use server_rules s (os n) ≡ true
kept_used s n there works =
    by (is_at_work server_rules s) (is_some (out_place n s.outs)) works (has_place n s.outs there)
  where
    by : (a b : Bool) → a ≡ true → b ≡ true → (a && not (not b)) ≡ true
    by true true e f = refl
    by false b e f = absurd (true≢false (sym e))
    by true false e f = absurd (true≢false (sym f))

pub behind_used : (window : ℕ) (moves : List EndMove)
    → AreAllowedAtEnd server_rules acts (end_started (first window)) moves → (n : ℕ)
    → (behind window moves).passage.role.writing < n
    → list_any (is_end_up_on (os n)) moves ≡ true
    → is_at_work server_rules (behind window moves).passage.role ≡ true
    → is_in_use server_rules (behind window moves).passage.role (os n) ≡ true
behind_used window moves may n above is works =
    by (stands_since n (end_started (first window)) moves may is).1
  where
    s : Server
    s = (behind window moves).passage.role

    by : Stands n s → is_in_use server_rules s (os n) ≡ true
    by (inl there) = kept_used s n there works
    by (inr below) = absurd (omega (arith, above, below))

abbrev Gives : ℕ → List EndMove → Type 0
Gives window moves =
    let p = behind window moves in GiverLaw (giver_of p.given p.passage.role) (sent p)

pub over_marked : (window : ℕ) (moves : List EndMove) → Gives window moves
    → (let p = behind window moves in is_at_work server_rules p.passage.role ≡ false
    → has_end (sent p p.passage.role.writing) ≡ true)
over_marked window moves law over =
    sym law.end_put
    ∙ by (is_ended (phase_of s.stage)) (is_put s.end_mark) over (goes_so window moves)
  where
    s : Server
    s = (behind window moves).passage.role

    by : (a b : Bool) → not a ≡ false → (not a || b) ≡ true → b ≡ true
    by true b e f = f
    by false b e f = absurd (true≢false e)

pub marked : (window : ℕ) (moves : List EndMove)
    → AreAllowedAtEnd server_rules acts (end_started (first window)) moves → Gives window moves
    → (let p = behind window moves in (n : ℕ) → n ≤ p.passage.role.writing
    → list_any (is_end_up_on (os n)) moves ≡ true
    → IsDoneBehindEnd server_rules p.passage.role (os n) (sent p n))
marked window moves may law n below is unused =
    by (nat_lt n s.writing) refl
  where
    p : EndPassage Server
    p = behind window moves

    s : Server
    s = p.passage.role

    rose : (0 < n) × Stands n s
    rose = stands_since n (end_started (first window)) moves may is

    handed : n < s.writing → (has_handover (sent p n) || has_end (sent p n)) ≡ true
    handed less =
        ap (λ (t : Bool). t || has_end (sent p n)) (law.handed n rose.0 less)

    ended : has_end (sent p n) ≡ true → (has_handover (sent p n) || has_end (sent p n)) ≡ true
    ended e = or (has_handover (sent p n)) (has_end (sent p n)) e
      where
        or : (a b : Bool) → b ≡ true → (a || b) ≡ true
        or true b f = refl
        or false b f = f

    -- on the writing channel, the work is done
    over : HasLeg n s.outs → is_at_work server_rules s ≡ false
    over there = works (is_at_work server_rules s) refl
      where
        works : (b : Bool) → is_at_work server_rules s ≡ b → is_at_work server_rules s ≡ false
        works false e = e
        works true e = absurd (true≢false (sym (kept_used s n there e) ∙ unused))

    on_writing : n ≡ s.writing → Stands n s
        → (has_handover (sent p n) || has_end (sent p n)) ≡ true
    on_writing same (inr less) = handed less
    on_writing same (inl there) =
        ended (subst (λ (k : ℕ). has_end (sent p k) ≡ true) (sym same)
        (over_marked window moves law (over there)))

    by : (b : Bool) → nat_lt n s.writing ≡ b
        → (has_handover (sent p n) || has_end (sent p n)) ≡ true
    by true e = handed (grind (arith, nat_tests, e))
    by false e = on_writing (grind (arith, nat_tests, e, below)) rose.1

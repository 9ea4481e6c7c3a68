-- once an out proxy put OUT_R1/A10 or END/B2 it goes on where one of its legs ends
use Rattle.law_order.proofs.Vocabulary.{◌≡◌, ◌||◌, ◌&&◌, ◌∙◌, Bool, true, false, true≢false, not, List, refl, sym, ap, ap₂, and_parts}
use Rattle.law_moves.proofs.Vocabulary.{Leg, Move, started, all_moved, is_at_work}
use Rattle.law_role_outproxy.proofs.Vocabulary.{OutProxyConfig, OutProxy, is_co, is_echo_drawn, is_over, is_put, is_server_marked, new_proxy, only_marks, rules as proxy_rules, KeepsOrder, put_items}
use Rattle.law_role_marks.specs.Marking.{OnlyMarks, has_passed}

module _ (s : OutProxy) (leg : Leg) where
  marks_by : (handed ended : Bool) → is_put s.handover ≡ handed → is_put s.end ≡ ended
      → (handed || ended) ≡ true → not (is_over s) ≡ true → only_marks s leg ≡ true
  marks_by handed true f e put going =
      ap (λ (t : Bool). t || (is_co s leg && is_put s.handover)) e
  marks_by true false f e put going =
      absurd (over (is_echo_drawn s.answer) (is_server_marked s.server) (is_put s.handover) f going)
    where
      over : (a b c : Bool) → c ≡ true → not (a || (b || c)) ≡ true → ⊥
      over true b c e f = true≢false (sym f)
      over false true c e f = true≢false (sym f)
      over false false true e f = true≢false (sym f)
      over false false false e f = true≢false (sym e)
  marks_by false false f e put going = absurd (true≢false (sym put))

  marks_behind : (is_put s.handover || is_put s.end) ≡ true → OnlyMarks proxy_rules s leg
  marks_behind put used =
      marks_by (is_put s.handover) (is_put s.end) refl refl put
      (and_parts (is_at_work proxy_rules s) (not (is_over s)) used).1

pub only_marks_behind : (config : OutProxyConfig) (moves : List Move)
    → (let p = all_moved proxy_rules (started (new_proxy config)) moves in
    KeepsOrder config.number p → has_passed (put_items config.number p.put) ≡ true
    → (leg : Leg) → OnlyMarks proxy_rules p.role leg)
only_marks_behind config moves order passed leg =
    let p = all_moved proxy_rules (started (new_proxy config)) moves in
    marks_behind p.role leg (ap₂ (λ (a b : Bool). a || b) order.handover_put order.end_put ∙ passed)

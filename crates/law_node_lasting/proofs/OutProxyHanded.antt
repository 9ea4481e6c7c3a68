-- an out proxy that put OUT_R1/A10 has done so for good
use Rattle.law_order.proofs.Vocabulary.{◌≡◌, ◌&&◌, ◌||◌, Bool, true, false, true≢false, not, List, [], ◌∷◌, refl, sym, ap, ◌∙◌, subst, and_parts, if◌then◌else◌}
use Rattle.rh_outproxy.specs.declared.state.Answer.TheVariants as answers
use Rattle.rh_shell.specs.declared.answers.Phase.TheVariants as phases
use Rattle.law_moves.proofs.Vocabulary.{by_test, Leg, Shell, is_ended, Move, Up, HeadCame, PduCame, PacketCame, Puts, IsDrawn, Marks, Pings, MayMove, Passage, AreAllowed, moved, all_moved, started, is_at_work, is_in_use, AreHeld, Follows, Event, after_event, after_events}
use Rattle.law_role_outproxy.proofs.Vocabulary.{OutProxy, drawn, is_co, is_echo_drawn, is_echo_put, is_over, is_put, is_server_down, is_server_marked, ping, rules as proxy_rules}

abbrev Handed : OutProxy → Type 0
Handed s = is_put s.handover ≡ true

-- its work is done
at_work : (s : OutProxy) → Handed s → is_at_work proxy_rules s ≡ true → ⊥
at_work s h going =
    by (is_over s) (over (is_echo_drawn s.answer) (is_server_marked s.server) (is_put s.handover) h)
    going
  where
    over : (a b c : Bool) → c ≡ true → (a || (b || c)) ≡ true
    over true b c e = refl
    over false true c e = refl
    over false false c e = e

    by : (b : Bool) → b ≡ true
        → not (is_ended (if b then phases.Ended
        else (if is_server_down s.server then phases.Opening else phases.Open))) ≡ true
        → ⊥
    by true e f = true≢false (sym f)
    by false e f = true≢false (sym e)

used : (s : OutProxy) (leg : Leg) → Handed s → is_in_use proxy_rules s leg ≡ true → ⊥
used s leg h use_it =
    at_work s h (and_parts (is_at_work proxy_rules s) (not (proxy_rules.is_done s leg)) use_it).0

drawn_same : (s : OutProxy) (leg : Leg) → (drawn s leg).handover ≡ s.handover
drawn_same s leg =
    by_test (λ (t : OutProxy). t.handover ≡ s.handover) (is_co s leg && is_echo_put s.answer)
    (record s { answer = answers.EchoDrawn }) s (λ e. refl) (λ e. refl)

ping_same : (s : OutProxy) (leg : Leg) → (ping s leg).handover ≡ s.handover
ping_same s leg = refl

move_keeps : (p : Passage OutProxy) (move : Move) → MayMove proxy_rules p.role move
    → Handed p.role → Handed (moved proxy_rules p move).role
move_keeps p (Up leg cookie) may h = absurd (at_work p.role h may.0)
move_keeps p (HeadCame leg text) may h = absurd (used p.role leg h may)
move_keeps p (PduCame leg count bytes) may h = absurd (used p.role leg h may.0)
move_keeps p (PacketCame leg count m) may h = absurd (used p.role leg h may)
move_keeps p (Puts leg) may h = absurd (used p.role leg h may)
move_keeps p (IsDrawn leg) may h = ap is_put (drawn_same p.role leg) ∙ h
move_keeps p (Marks leg) may h = absurd (at_work p.role h may.0)
move_keeps p (Pings leg) may h = ap is_put (ping_same p.role leg) ∙ h

moves_keep : (p : Passage OutProxy) (moves : List Move) → AreAllowed proxy_rules p moves
    → Handed p.role → Handed (all_moved proxy_rules p moves).role
moves_keep p [] may h = h
moves_keep p (move ∷ moves) may h =
    moves_keep (moved proxy_rules p move) moves may.1 (move_keeps p move may.0 h)

module _ (follow : (p : Passage OutProxy) (s : Shell OutProxy) (event : Event)
    → p.role ≡ s.role → AreHeld s → Follows proxy_rules p (after_event proxy_rules s event)) where
  pub stays_handed : (s : Shell OutProxy) (events : List Event) → AreHeld s → Handed s.role
      → Handed (after_events proxy_rules s events).role
  stays_handed s [] held h = h
  stays_handed s (event ∷ events) held h =
      stays_handed (after_event proxy_rules s event) events f.held
      (subst Handed f.role
      (subst (λ (q : Passage OutProxy). Handed q.role) f.leads.reached
      (moves_keep (started s.role) f.leads.moves f.leads.allowed h)))
    where
      f : Follows proxy_rules (started s.role) (after_event proxy_rules s event)
      f = follow (started s.role) s event refl held

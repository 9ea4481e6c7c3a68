-- an out proxy's legs are done at once, with its work
use Rattle.law_order.proofs.Vocabulary.{◌≡◌, ◌&&◌, Bool, true, false, not, if◌then◌else◌, Some, None, refl, sym, ◌∙◌, IfSome, IsTrue}
use Rattle.rh_shell.specs.declared.answers.Phase.TheVariants as phases
use Rattle.rh_outproxy.specs.declared.state.Answer.TheVariants as answers
use Rattle.law_moves.proofs.Vocabulary.{by_test, Leg, is_ended, Message, is_at_work, is_in_use}
use Rattle.law_role_outproxy.proofs.Vocabulary.{OutProxy, is_over, is_echo_put, is_server_down, is_co, drawn, Pick, put, rules as proxy_rules}
use Rattle.law_node_ends.proofs.Unused.Staying.{StaysDone, Keeps, RoleKeeps, of_use}

abbrev pub Any : OutProxy → Type 0
Any s = Unit {0}

-- the phase is that of the work
ended_is : (over down : Bool)
    → is_ended (if over then phases.Ended else (if down then phases.Opening else phases.Open))
    ≡ over
ended_is true down = refl
ended_is false true = refl
ended_is false false = refl

-- at work no leg is done
none_done : (over down : Bool) (t : Bool)
    → not (is_ended (if over then phases.Ended
    else (if down then phases.Opening else phases.Open))) ≡ true
    → over ≡ true → t ≡ true
none_done true down t work e = absurd cc
none_done false down t work e = absurd cc

at_work : (s t : OutProxy) → IsTrue (is_at_work proxy_rules s) → StaysDone proxy_rules s t
at_work s t work leg e = none_done (is_over s) (is_server_down s.server) (is_over t) work e

in_use : (s : OutProxy) (leg : Leg) (t : OutProxy) → IsTrue (is_in_use proxy_rules s leg)
    → StaysDone proxy_rules s t
in_use s leg t may = at_work s t (of_use proxy_rules s leg may)

keeps : (s t : OutProxy) → (is_over s ≡ true → is_over t ≡ true) → Keeps proxy_rules s t
keeps s t h = record {
  ended = λ e. ended_is (is_over t) (is_server_down t.server)
      ∙ h (sym (ended_is (is_over s) (is_server_down s.server)) ∙ e);
  done = λ leg. h;
}

pub out_proxy_stays : RoleKeeps proxy_rules Any
out_proxy_stays = record {
  kept = λ p move holds may. tt;
  up = λ s leg cookie other holds work may e. at_work s (proxy_rules.up s leg cookie) work other;
  head = λ s leg text holds may. in_use s leg (proxy_rules.head s leg text).0 may;
  pdu = λ s leg count bytes holds may. in_use s leg (proxy_rules.pdu s leg count bytes).0 may;
  packet = λ s leg count named holds may.
      in_use s leg (proxy_rules.packet s leg count named).0 may;
  put = λ s leg holds may. any_put s leg may (put s leg);
  drawn = λ s leg holds. keeps s (drawn s leg) (over s leg);
  mark = λ s leg holds work may. at_work s (proxy_rules.mark s leg) work;
  ping = λ s leg holds. keeps s (proxy_rules.ping s leg) (λ e. e);
}
  where
    any_put : (s : OutProxy) (leg : Leg) → IsTrue (is_in_use proxy_rules s leg) → (pick : Pick)
        → IfSome pick (λ (put : OutProxy × Message). StaysDone proxy_rules s put.0)
    any_put s leg may None = tt
    any_put s leg may (Some put) = in_use s leg put.0 may

    over : (s : OutProxy) (leg : Leg) → is_over s ≡ true → is_over (drawn s leg) ≡ true
    over s leg e =
        by_test (λ (t : OutProxy). is_over t ≡ true) (is_co s leg && is_echo_put s.answer)
        (record s { answer = answers.EchoDrawn }) s (λ f. refl) (λ f. e)

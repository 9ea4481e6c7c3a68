-- what an in proxy puts on the legs of its clients is the answer to an echo request, a response of
-- success
use Rattle.law_order.proofs.Vocabulary.{◌≡◌, ℕ, ◌==◌, List, ◌∷◌, ◌++◌, append_assoc, true, false, Some, None, refl, sym, ap, ◌∙◌, if◌then◌else◌, AllByRecursion}
use Rattle.rh_inproxy.specs.declared.state.Work.TheVariants as works
use Rattle.law_moves.proofs.Vocabulary.{by_test, response_text, Leg, Message, Text, spell, spelled, Passage, started, Leads, of_leg}
use Rattle.law_role_inproxy.proofs.Vocabulary.{InProxyConfig, Work, Pick, settled_pick, rules as proxy_rules, echo_answer, echo_by, echo_packet, put_echo, next, put, InProxy, first, is_client_leg, is_server_leg}
use Rattle.law_node_begins.proofs.ProxiesBegin.Echoes.{in_text as echo_is}
use Rattle.law_world_order.proofs.FirstTexts.PutAll.{Picked, all_put}

abbrev pub IsEcho : Message → Type 0
IsEcho message = message ≡ Text echo_answer

-- the response of success stands at the front
pub echo_begins : (message : Message) (put : List Message) → IsEcho message
    → spelled (message ∷ put) ≡ response_text 20 ++ (echo_packet ++ spelled put)
echo_begins message put is =
    ap (λ (x : Message). spell x ++ spelled put) is
    ∙ ap (λ (x : List ℕ). x ++ spelled put) (sym echo_is)
    ∙ append_assoc (response_text 20) echo_packet (spelled put)

abbrev Fine : Pick → Type 0
Fine = Picked IsEcho

echo_fine : (s : InProxy) (work : Work) (number : ℕ) → Fine (echo_by s work number)
echo_fine s (works.EchoDue asked_on) number =
    by_test Fine (asked_on == number)
    (Some (record s { work = works.EchoPut asked_on }, Text echo_answer)) None (λ e. refl)
    (λ e. tt)
echo_fine s (works.EchoPut asked_on) number = tt
echo_fine s works.Done number = tt
echo_fine s works.Underway number = tt

pub echoes_alone : (config : InProxyConfig) (leg : Leg) → is_client_leg leg ≡ true
    → (q : Passage InProxy) → Leads proxy_rules (started (first config)) q
    → AllByRecursion IsEcho (of_leg leg q.put)
echoes_alone config leg ours q leads =
    all_put proxy_rules leg IsEcho (λ (s : InProxy). Unit {0}) (λ p move k. tt)
    (λ s k. put_fine s) (first config) q tt leads
  where
    put_fine : (s : InProxy) → Fine (put s leg)
    put_fine s =
        by_test Fine (is_client_leg leg) (put_echo s leg.number)
        (if is_server_leg s leg then settled_pick (next s) else None)
        (λ e. echo_fine s s.work leg.number)
        (λ e. absurd (let bad : true ≡ false = sym ours ∙ e in cc))

-- what every move of an out proxy keeps: its configuration, and on which legs it puts texts
use Rattle.law_order.proofs.Vocabulary.{◌≡◌, ◌⊎◌, inl, inr, ℕ, List, [], ◌∷◌, ◌++◌, true, false, Some, None, refl, ap, ◌∙◌, subst, rules, if◌then◌else◌, IfSome, AllByRecursion}
use Rattle.rh_outproxy.specs.declared.state.Answer.{Answer}
use Rattle.rh_outproxy.specs.declared.state.OutProxyConfig.{OutProxyConfig}
use Rattle.rh_outproxy.specs.OutProxy.{OutProxy, is_server_down}
use Rattle.rh_outproxy.specs.Rows.{Done, is_co, is_os, unexpected}
use Rattle.rh_outproxy.specs.Opening.{head, up}
use Rattle.rh_outproxy.specs.Ending.{drawn}
use Rattle.rh_outproxy.specs.Machine.{packet, on_co, on_os, rules as proxy_rules}
use Rattle.rh_outproxy.specs.Putting.{Pick, answer_by, next_co, next_os, or_else, put, put_answer}
use Rattle.rh_outproxy.specs.declared.state.Answer.TheVariants as answers
use Rattle.law_moves.proofs.Vocabulary.{by_test, Cookie, Named, Leg, Count, Message, same_leg, Move, OnLeg, IsNoText}
use Rattle.law_node_begins.proofs.ProxiesBegin.Legs.{each_append}
use Rattle.law_node_begins.proofs.ProxiesBegin.Turning.{MovesKeep}
use Rattle.law_node_begins.proofs.ProxiesBegin.OutGoes.{Seen, seen, ServesPut, ServerPut, Serves, later_serves, mark_serves, os_put, os_serves, pdu_serves, put_later}
use Rattle.law_node_begins.specs.ProxiesBegin.Pipes.{co, os}

-- on the client's leg anything, and on the server's no text
abbrev pub MayPut : OutProxyConfig → OnLeg → Type 0
MayPut config one =
    (same_leg (co config.number) one.0 ≡ true)
    ⊎ ((same_leg (os config.number) one.0 ≡ true) × IsNoText one.1)

abbrev pub Runs : OutProxyConfig → List Move → OutProxy → List OnLeg → Type 0
Runs config before s put = (s.config ≡ config) × AllByRecursion (MayPut config) put

-- the configuration stays
abbrev Same : OutProxy → OutProxy → Type 0
Same s t = t.config ≡ s.config

same_co : (s : OutProxy) (count : Count) (named : Named) → Same s (on_co s count named).0
same_co s count named = search rules

same_packet : (s : OutProxy) (leg : Leg) (count : Count) (named : Named)
    → Same s (packet s leg count named).0
same_packet s leg count named =
    by_test (λ (d : Done). Same s d.0) (is_co s leg) (on_co s count named)
    (if is_os s leg then on_os s named else unexpected s) (λ e. same_co s count named)
    (λ e. by_test (λ (d : Done). Same s d.0) (is_os s leg) (on_os s named) (unexpected s)
    (λ f. (os_serves s named).config) (λ f. refl))

same_up : (s : OutProxy) (leg : Leg) (cookie : Cookie) → Same s (up s leg cookie)
same_up s leg cookie = search rules

same_head : (s : OutProxy) (leg : Leg) (text : List ℕ) → Same s (head s leg text).0
same_head s leg text = search rules

same_drawn : (s : OutProxy) (leg : Leg) → Same s (drawn s leg)
same_drawn s leg = search rules

-- ---- what is put

abbrev SamePut : OutProxy → Pick → Type 0
SamePut s pick = IfSome pick (λ (x : OutProxy × Message). Same s x.0)

or_same : (s : OutProxy) (a b : Pick) → SamePut s a → SamePut s b → SamePut s (or_else a b)
or_same s None b h k = k
or_same s (Some pick) b h k = h

answer_same : (s : OutProxy) (x : Answer) → SamePut s (answer_by x s)
answer_same s answers.Awaited = tt
answer_same s answers.EchoDue = refl
answer_same s answers.EchoPut = tt
answer_same s answers.EchoDrawn = tt
answer_same s answers.ResponseDue = refl
answer_same s answers.TimeoutDue = refl
answer_same s answers.Put = tt

later_same : (s : OutProxy) (pick : Pick) → ServesPut (seen s) pick → SamePut s pick
later_same s None h = tt
later_same s (Some x) h = h.0.config

co_same : (s : OutProxy) → SamePut s (next_co s)
co_same s =
    or_same s (put_answer s) (put_later s) (answer_same s s.answer)
    (later_same s (put_later s) (later_serves s))

module _ (config : OutProxyConfig) (s : OutProxy) (log : List OnLeg) (leg : Leg)
    (k : (s.config ≡ config) × AllByRecursion (MayPut config) log) where
  abbrev PutRuns : Pick → Type 0
  PutRuns pick = IfSome pick (λ (x : OutProxy × Message).
      (x.0.config ≡ config) × AllByRecursion (MayPut config) (log ++ (leg, x.1) ∷ []))

  to_client : (pick : Pick) → is_co s leg ≡ true → SamePut s pick → PutRuns pick
  to_client None e h = tt
  to_client (Some x) e h = (
    h ∙ k.0,
    each_append (MayPut config) log (leg, x.1) k.1
        (inl (subst (λ (c : OutProxyConfig). same_leg (co c.number) leg ≡ true) k.0 e)),
  )

  to_server : (pick : Pick) → is_os s leg ≡ true → ServerPut (seen s) pick → PutRuns pick
  to_server None e h = tt
  to_server (Some x) e h = (
    by h.0 ∙ k.0,
    each_append (MayPut config) log (leg, x.1) k.1
        (inr (subst (λ (c : OutProxyConfig). same_leg (os c.number) leg ≡ true) k.0 e, h.1)),
  )
    where
      by : (seen x.0 ≡ seen s) ⊎ ((is_server_down s.server ≡ false) × Serves (seen s) (seen x.0))
          → x.0.config ≡ s.config
      by (inl e) = ap (λ (a : Seen). a.config) e
      by (inr h) = h.1.config

  put_runs : PutRuns (put s leg)
  put_runs =
      by_test PutRuns (is_co s leg) (next_co s) (if is_os s leg then next_os s else None)
      (λ e. to_client (next_co s) e (co_same s))
      (λ e. by_test PutRuns (is_os s leg) (next_os s) None
      (λ f. to_server (next_os s) f (os_put s)) (λ f. tt))

pub out_moves_keep : (config : OutProxyConfig) → MovesKeep proxy_rules (Runs config)
out_moves_keep config = record {
  up = λ before s put leg cookie k may. (same_up s leg cookie ∙ k.0, k.1);
  head = λ before s put leg text k. (same_head s leg text ∙ k.0, k.1);
  pdu = λ before s put leg count bytes k. ((pdu_serves s leg count bytes).config ∙ k.0, k.1);
  packet = λ before s put leg count named k. (same_packet s leg count named ∙ k.0, k.1);
  none_put = λ before s put leg k. k;
  put = λ before s log leg k. put_runs config s log leg k;
  drawn = λ before s put leg k. (same_drawn s leg ∙ k.0, k.1);
  mark = λ before s put leg k. ((mark_serves s leg).config ∙ k.0, k.1);
  ping = λ before s put leg k. k;
}

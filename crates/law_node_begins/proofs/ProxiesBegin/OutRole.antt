-- legs, heads and puts of an out proxy whose moves are in their turn
use Rattle.law_order.proofs.Vocabulary.{◌≡◌, List, [], ◌∷◌, Bool, true, false, ◌&&◌, ◌||◌, Some, None, Ok, Err, refl, sym, ap, ◌∙◌, subst, if◌then◌else◌, nat_le, Option, Result, and_parts}
use Rattle.rh_shell.specs.declared.stage.Stage.TheVariants as stage
use Rattle.rh_outproxy.specs.declared.state.Answer.{Answer}
use Rattle.rh_outproxy.specs.declared.state.OutProxyConfig.{OutProxyConfig}
use Rattle.rh_outproxy.specs.OutProxy.{OutProxy, is_client_down, is_echo_put, is_known, is_server_down}
use Rattle.rh_outproxy.specs.Rows.{is_co, is_os}
use Rattle.rh_outproxy.specs.Opening.{head_by, may_up, pipe, up, wants}
use Rattle.rh_outproxy.specs.Ending.{drawn}
use Rattle.rh_outproxy.specs.Putting.{echo_text}
use Rattle.rh_outproxy.specs.declared.state.Answer.TheVariants as answers
use Rattle.rh_outproxy.specs.declared.state.ClientLeg.TheVariants as clients
use Rattle.rh_outproxy.specs.declared.state.ServerLeg.TheVariants as servers
use Rattle.law_moves.proofs.Vocabulary.{by_test, Cookie, CoU, OsD, HttpFault, greatest_echo, Asked, Leg, Frames, PassedOver, HeadRefused, HeadTaken, Stage, first_stage, Message, Text, same_leg, OnLeg, of_leg, Stages, with_stage, takes_frames}
use Rattle.law_moves.proofs.Lemmas.{itself, leg_is}
use Rattle.law_moves.specs.Turns.{behind_head}
use Rattle.law_node_begins.proofs.ProxiesBegin.Turning.{stage_each}
use Rattle.law_node_begins.proofs.ProxiesBegin.OutGoes.{Seen, seen, IsQuiet}
use Rattle.law_node_begins.proofs.ProxiesBegin.OutTurns.{Answers, AnswersAt, IsEcho, IsUnasked, Stands, both_ways, is_down, is_unheard}
use Rattle.law_node_begins.specs.ProxiesBegin.Pipes.{co, os}

-- where no request came, nothing was put to the client
pub none_put : (x : Answer) (a : Seen) (on : List Message) → x ≡ answers.Awaited → Stands x a on
    → on ≡ []
none_put answers.Awaited a on e h = h.1
none_put answers.EchoDue a on e h = absurd cc
none_put answers.EchoPut a on e h = absurd cc
none_put answers.EchoDrawn a on e h = absurd cc
none_put answers.ResponseDue a on e h = absurd cc
none_put answers.TimeoutDue a on e h = absurd cc
none_put answers.Put a on e h = absurd cc

-- where the leg to the server is wanted, nothing was put to the client
pub wanted_stands : (x : Answer) (a : Seen) (on : List Message) → is_known a.channel ≡ true
    → is_server_down a.server ≡ true → Stands x a on → on ≡ []
wanted_stands answers.Awaited a on known down k = k.1
wanted_stands answers.EchoDue a on known down k = k.1
wanted_stands answers.EchoPut a on known down k =
    let no = sym known ∙ ap is_known k.0.channel in absurd cc
wanted_stands answers.EchoDrawn a on known down k =
    let no = sym known ∙ ap is_known k.0.channel in absurd cc
wanted_stands answers.ResponseDue a on known down k = k.1
wanted_stands answers.TimeoutDue a on known down k = both_ways (is_server_down a.server) down k.0
wanted_stands answers.Put a on known down k = both_ways (is_server_down a.server) down k.0

module _ (config : OutProxyConfig) (g : Stages) (s : OutProxy) (log : List OnLeg)
    (k : AnswersAt config g s log) where
  abbrev on : List Message
  on = of_leg (co config.number) log

  -- its legs are those of its number
  pub here : (leg : Leg) → is_co s leg ≡ true → leg ≡ co config.number
  here leg e =
      sym (leg_is (co s.config.number) leg e) ∙ ap (λ (c : OutProxyConfig). co c.number) k.config_is

  pub there : (leg : Leg) → is_os s leg ≡ true → leg ≡ os config.number
  there leg e =
      sym (leg_is (os s.config.number) leg e) ∙ ap (λ (c : OutProxyConfig). os c.number) k.config_is

  -- ---- legs come up

  -- the client's
  co_up : (leg : Leg) → leg ≡ co config.number → g leg ≡ None
      → Answers config (with_stage leg stage.Head g) (seen s) on
  co_up leg e none = record {
    config_is = k.config_is;
    heads = λ l. stage_each (λ (o : Option Stage). o ≡ Some stage.Head → l ≡ co config.number)
        leg l stage.Head g (λ same h. sym same ∙ e) (λ other. k.heads l);
    unasked = λ h. k.unasked (ap is_unheard (ap g (sym e) ∙ none));
    served = stage_each
        (λ (o : Option Stage). takes_frames o ≡ true → is_server_down s.server ≡ false) leg
        (os config.number) stage.Head g (λ same h. absurd cc) (λ other. k.served);
    quiet = k.quiet;
    stands = k.stands;
  }

  -- the server's
  os_up : (leg : Leg) → leg ≡ os config.number → is_known s.channel ≡ true
      → is_server_down s.server ≡ true
      → Answers config (with_stage leg stage.Greeting g)
      (record (seen s) { server = servers.FirstDue; answer = answers.ResponseDue }) on
  os_up leg e known down = record {
    config_is = k.config_is;
    heads = λ l. stage_each (λ (o : Option Stage). o ≡ Some stage.Head → l ≡ co config.number)
        leg l stage.Greeting g (λ same h. absurd cc) (λ other. k.heads l);
    unasked = stage_each (λ (o : Option Stage). is_unheard o ≡ true
        → IsUnasked (record (seen s) { server = servers.FirstDue; answer = answers.ResponseDue }))
        leg (co config.number) stage.Greeting g (λ same h. absurd cc)
        (λ other h. let no = sym known ∙ ap is_known (k.unasked h).channel in absurd cc);
    served = λ h. refl;
    quiet = λ h. absurd cc;
    stands = (refl, wanted_stands s.answer (seen s) on known down k.stands);
  }

  pub up_answers : (leg : Leg) (cookie : Cookie) → may_up s leg ≡ true → g leg ≡ None
      → AnswersAt config (with_stage leg (first_stage (pipe s leg)) g) (up s leg cookie) log
  up_answers leg cookie may none =
      elim (is_co s leg) as (λ t. is_co s leg ≡ t
      → AnswersAt config (with_stage leg (first_stage (if t then Some CoU else Some OsD)) g)
      (if t then record s { client = clients.Up }
      else record s { server = servers.FirstDue; answer = answers.ResponseDue }) log) [
        | true ↦ λ e. co_up leg (here leg e) none
        | false ↦ λ e.
            let w = wanted (wants s leg) (is_co s leg) (is_client_down s.client) may e in
            let parts =
            and_parts (is_os s leg) (is_known s.channel && is_server_down s.server) w in
            let both = and_parts (is_known s.channel) (is_server_down s.server) parts.1 in
            os_up leg (there leg parts.0) both.0 both.1
      ] refl
    where
      wanted : (a b c : Bool) → (a || (b && c)) ≡ true → b ≡ false → a ≡ true
      wanted true b c h e = refl
      wanted false true c h e = absurd cc
      wanted false false c h e = absurd cc

  -- ---- a head comes

  -- of the client's request another stage is known
  headed : (leg : Leg) (next : Stage) (b : Seen) → leg ≡ co config.number
      → is_unheard (Some next) ≡ false → b.config ≡ (seen s).config → b.server ≡ s.server
      → (IsQuiet (seen s) → IsQuiet b) → Stands b.answer b on
      → Answers config (with_stage leg next g) b on
  headed leg next b e heard same server quiet stands = record {
    config_is = same ∙ k.config_is;
    heads = λ l. stage_each (λ (o : Option Stage). o ≡ Some stage.Head → l ≡ co config.number)
        leg l next g (λ at h. sym at ∙ e) (λ other. k.heads l);
    unasked = stage_each (λ (o : Option Stage). is_unheard o ≡ true → IsUnasked b) leg
        (co config.number) next g (λ at h. both_ways (is_unheard (Some next)) h heard)
        (λ other. absurd (not_other other));
    served = λ h. ap is_server_down server ∙ k.served
        (subst (λ (o : Option Stage). takes_frames o ≡ true) (elsewhere h) h);
    quiet = λ down. quiet (k.quiet (ap is_server_down (sym server) ∙ down));
    stands = stands;
  }
    where
      not_other : same_leg leg (co config.number) ≡ false → ⊥
      not_other f =
          both_ways (same_leg leg (co config.number))
          (ap (λ (l : Leg). same_leg l (co config.number)) e ∙ itself (co config.number)) f

      elsewhere : takes_frames (with_stage leg next g (os config.number)) ≡ true
          → with_stage leg next g (os config.number) ≡ g (os config.number)
      elsewhere h =
          ap (λ (l : Leg). with_stage l next g (os config.number)) e

  pub head_answers : (leg : Leg) (verdict : Result Asked HttpFault) → g leg ≡ Some stage.Head
      → AnswersAt config (with_stage leg (behind_head (head_by s verdict).1) g)
      (head_by s verdict).0 log
  head_answers leg verdict turn = by verdict (k.heads leg turn)
    where
      unasked : leg ≡ co config.number → IsUnasked (seen s)
      unasked e = k.unasked (ap is_unheard (ap g (sym e) ∙ turn))

      awaited : (b : Seen) → IsUnasked (seen s) → b.answer ≡ s.answer → b.server ≡ s.server
          → Stands b.answer b on
      awaited b u same server =
          subst (λ (x : Answer). Stands x b on) (sym (same ∙ u.answer)) (
            ap is_server_down server ∙ is_down config g (seen s) on k u,
            none_put s.answer (seen s) on u.answer k.stands,
          )

      by : (v : Result Asked HttpFault) → leg ≡ co config.number
          → AnswersAt config (with_stage leg (behind_head (head_by s v).1) g) (head_by s v).0 log
      by (Err fault) e =
          headed leg stage.Shut (seen s) e refl refl refl (λ q. q)
          (awaited (seen s) (unasked e) refl refl)
      by (Ok request) e =
          by_test (λ (r : OutProxy × Result HeadTaken HeadRefused).
          AnswersAt config (with_stage leg (behind_head r.1) g) r.0 log)
          (nat_le request.length greatest_echo) (
            record s { answer = answers.EchoDue },
            Ok (record { behind = PassedOver; length = request.length }),
          ) (
            record s { request = Some request },
            Ok (record { behind = Frames; length = request.length }),
          )
          (λ f. headed leg stage.PassedOver (record (seen s) { answer = answers.EchoDue }) e refl
          refl refl
          (λ q. record {
            pdus = q.pdus;
            dues = q.dues;
            end = q.end;
            handover = q.handover;
            ping = q.ping;
          }) (
            record {
              server = is_down config g (seen s) on k (unasked e);
              channel = (unasked e).channel;
              request = (unasked e).request;
            },
            none_put s.answer (seen s) on (unasked e).answer k.stands,
          ))
          (λ f. headed leg stage.Frames (record (seen s) { request = Some request }) e refl
          refl refl
          (λ q. record {
            pdus = q.pdus;
            dues = q.dues;
            end = q.end;
            handover = q.handover;
            ping = q.ping;
          })
          (awaited (record (seen s) { request = Some request }) (unasked e) refl refl))

  -- ---- the answer to an echo request is drawn

  pub drawn_answers : (leg : Leg) → AnswersAt config g (drawn s leg) log
  drawn_answers leg =
      by_test (λ (t : OutProxy). AnswersAt config g t log) (is_co s leg && is_echo_put s.answer)
      (record s { answer = answers.EchoDrawn }) s
      (λ e. by (and_parts (is_co s leg) (is_echo_put s.answer) e).1) (λ e. k)
    where
      echo : (x : Answer) → is_echo_put x ≡ true → Stands x (seen s) on
          → IsEcho (seen s) × (on ≡ Text echo_text ∷ [])
      echo answers.Awaited e h = absurd cc
      echo answers.EchoDue e h = absurd cc
      echo answers.EchoPut e h = h
      echo answers.EchoDrawn e h = absurd cc
      echo answers.ResponseDue e h = absurd cc
      echo answers.TimeoutDue e h = absurd cc
      echo answers.Put e h = absurd cc

      not_awaited : (x : Answer) → is_echo_put x ≡ true → x ≡ answers.Awaited → ⊥
      not_awaited x e f = let no = ap is_echo_put (sym f) ∙ e in absurd cc

      by : is_echo_put s.answer ≡ true
          → Answers config g (record (seen s) { answer = answers.EchoDrawn }) on
      by e =
          let put = echo s.answer e k.stands in
          record {
            config_is = k.config_is;
            heads = k.heads;
            unasked = λ h. absurd (not_awaited s.answer e (k.unasked h).answer);
            served = k.served;
            quiet = λ down.
                let q = k.quiet down in
                record {
                  pdus = q.pdus;
                  dues = q.dues;
                  end = q.end;
                  handover = q.handover;
                  ping = q.ping;
                };
            stands = (
              record {
                server = put.0.server;
                channel = put.0.channel;
                request = put.0.request;
              },
              put.1,
            );
          }

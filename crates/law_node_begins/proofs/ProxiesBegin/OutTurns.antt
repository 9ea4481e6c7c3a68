-- where the moves of an out proxy are in their turn, its response goes first to the client, or the
-- answer to an echo request alone
use Rattle.law_order.proofs.Vocabulary.{◌≡◌, ◌⊎◌, inl, inr, ℕ, ◌+◌, List, [], ◌∷◌, Bool, true, false, ◌&&◌, ◌||◌, Some, None, refl, sym, ap, ◌∙◌, subst, if◌then◌else◌, is_some, Option}
use Rattle.rh_shell.specs.declared.stage.Stage.TheVariants as stage
use Rattle.rh_outproxy.specs.declared.state.Answer.{Answer}
use Rattle.rh_outproxy.specs.declared.state.Channel.{Channel}
use Rattle.rh_outproxy.specs.declared.state.OutProxyConfig.{OutProxyConfig}
use Rattle.rh_outproxy.specs.OutProxy.{OutProxy, is_put, is_response_put, is_server_down}
use Rattle.rh_outproxy.specs.Rows.{Done, is_co, is_os, unexpected}
use Rattle.rh_outproxy.specs.Opening.{told_length, up}
use Rattle.rh_outproxy.specs.Ending.{mark, only_marks}
use Rattle.rh_outproxy.specs.Machine.{packet, pdu, on_co, on_os}
use Rattle.rh_outproxy.specs.Putting.{echo_text, ping_room, put}
use Rattle.rh_outproxy.specs.Time.{ping, ping_after}
use Rattle.rh_outproxy.specs.declared.state.Answer.TheVariants as answers
use Rattle.rh_outproxy.specs.declared.state.Channel.TheVariants as channels
use Rattle.law_moves.proofs.Vocabulary.{by_test, Named, response_text, Asked, Leg, Count, Stage, Message, Text, OnLeg, of_leg, AreNoTexts, Stages, takes_frames}
use Rattle.law_moves.proofs.Lemmas.{leg_is}
use Rattle.law_node_begins.proofs.ProxiesBegin.OutGoes.{Seen, seen, IsQuiet, Serves, Opens, os_serves, pdu_serves, mark_serves, co_goes}
use Rattle.law_node_begins.specs.ProxiesBegin.Pipes.{co, os}

-- ---- what was put to the client

-- the response with this length, and no other text behind it
pub record IsResponse (length : ℕ) (on : List Message) : Type 0 where
  pub behind : List Message
  pub is : on ≡ Text (response_text length) ∷ behind
  pub none : AreNoTexts behind

-- an echo request was taken, and no channel
pub record IsEcho (a : Seen) : Type 0 where
  pub server : is_server_down a.server ≡ true
  pub channel : a.channel ≡ channels.Unknown
  pub request : a.request ≡ None

abbrev pub length_of : Seen → ℕ
length_of a = a.config.lifetime + ping_room

-- by what goes first to the client
abbrev pub Stands : Answer → Seen → List Message → Type 0
Stands answers.Awaited a on = (is_server_down a.server ≡ true) × (on ≡ [])
Stands answers.EchoDue a on = IsEcho a × (on ≡ [])
Stands answers.EchoPut a on = IsEcho a × (on ≡ Text echo_text ∷ [])
Stands answers.EchoDrawn a on = IsEcho a × (on ≡ Text echo_text ∷ [])
Stands answers.ResponseDue a on = (is_server_down a.server ≡ false) × (on ≡ [])
Stands answers.TimeoutDue a on =
    (is_server_down a.server ≡ false) × IsResponse (length_of a) on
Stands answers.Put a on = (is_server_down a.server ≡ false) × IsResponse (length_of a) on

-- no request came
pub record IsUnasked (a : Seen) : Type 0 where
  pub request : a.request ≡ None
  pub answer : a.answer ≡ answers.Awaited
  pub channel : a.channel ≡ channels.Unknown

abbrev pub is_unheard : Option Stage → Bool
is_unheard None = true
is_unheard (Some stage.Head) = true
is_unheard next = false

pub record Answers (config : OutProxyConfig) (g : Stages) (a : Seen) (on : List Message)
    : Type 0 where
  pub config_is : a.config ≡ config
  pub heads : (leg : Leg) → g leg ≡ Some stage.Head → leg ≡ co config.number
  pub unasked : is_unheard (g (co config.number)) ≡ true → IsUnasked a
  pub served : takes_frames (g (os config.number)) ≡ true → is_server_down a.server ≡ false
  pub quiet : is_server_down a.server ≡ true → IsQuiet a
  pub stands : Stands a.answer a on

abbrev pub AnswersAt : OutProxyConfig → Stages → OutProxy → List OnLeg → Type 0
AnswersAt config g s put = Answers config g (seen s) (of_leg (co config.number) put)

pub both_ways : {X : Type 0} (b : Bool) → b ≡ true → b ≡ false → X
both_ways true e f = absurd cc
both_ways false e f = absurd cc

-- where no request came, the leg to the server did not come up
down_by : (x : Answer) (a : Seen) (on : List Message) → x ≡ answers.Awaited → Stands x a on
    → is_server_down a.server ≡ true
down_by answers.Awaited a on e k = k.0
down_by answers.EchoDue a on e k = absurd cc
down_by answers.EchoPut a on e k = absurd cc
down_by answers.EchoDrawn a on e k = absurd cc
down_by answers.ResponseDue a on e k = absurd cc
down_by answers.TimeoutDue a on e k = absurd cc
down_by answers.Put a on e k = absurd cc

module _ (config : OutProxyConfig) (g : Stages) where
  pub is_down : (a : Seen) (on : List Message) → Answers config g a on → IsUnasked a
      → is_server_down a.server ≡ true
  is_down a on k u = down_by a.answer a on u.answer k.stands

  -- ---- once the leg to the server came up

  -- nothing was put, or the response and no text behind it; with one more that is no text
  stands_on : (x : Answer) (a b : Seen) (on more : List Message)
      → is_server_down a.server ≡ false → Serves a b
      → ((n : ℕ) → IsResponse n on → IsResponse n more)
      → (on ≡ [] → x ≡ answers.ResponseDue → more ≡ [])
      → Stands x a on → Stands x b more
  stands_on answers.Awaited a b on more up goes grows none k =
      both_ways (is_server_down a.server) k.0 up
  stands_on answers.EchoDue a b on more up goes grows none k =
      both_ways (is_server_down a.server) k.0.server up
  stands_on answers.EchoPut a b on more up goes grows none k =
      both_ways (is_server_down a.server) k.0.server up
  stands_on answers.EchoDrawn a b on more up goes grows none k =
      both_ways (is_server_down a.server) k.0.server up
  stands_on answers.ResponseDue a b on more up goes grows none k =
      (goes.server up, none k.1 refl)
  stands_on answers.TimeoutDue a b on more up goes grows none k = (
    goes.server up,
    subst (λ (c : OutProxyConfig). IsResponse (c.lifetime + ping_room) more)
        (sym goes.config) (grows (length_of a) k.1),
  )
  stands_on answers.Put a b on more up goes grows none k = (
    goes.server up,
    subst (λ (c : OutProxyConfig). IsResponse (c.lifetime + ping_room) more)
        (sym goes.config) (grows (length_of a) k.1),
  )

  pub serves_on : (a b : Seen) (on more : List Message) → is_server_down a.server ≡ false
      → Serves a b → ((n : ℕ) → IsResponse n on → IsResponse n more)
      → (on ≡ [] → a.answer ≡ answers.ResponseDue → more ≡ [])
      → Answers config g a on → Answers config g b more
  serves_on a b on more up goes grows none k = record {
    config_is = goes.config ∙ k.config_is;
    heads = k.heads;
    unasked = λ e. both_ways (is_server_down a.server) (is_down a on k (k.unasked e)) up;
    served = λ e. goes.server up;
    quiet = λ down. both_ways (is_server_down b.server) down (goes.server up);
    stands = subst (λ (x : Answer). Stands x b more) (sym goes.answer)
        (stands_on a.answer a b on more up goes grows none k.stands);
  }

  pub serves_answers : (a b : Seen) (on : List Message) → is_server_down a.server ≡ false
      → Serves a b → Answers config g a on → Answers config g b on
  serves_answers a b on up goes k = serves_on a b on on up goes (λ n r. r) (λ e x. e) k

  -- ---- a channel begins

  no_length : (o : Option Asked) (n : ℕ) → told_length o n ≡ true → o ≡ None → ⊥
  no_length None n e f = absurd cc
  no_length (Some asked) n e f = absurd cc

  opened_stands : (x : Answer) (a : Seen) (c : Channel) (on : List Message)
      → (a.request ≡ None → ⊥) → Stands x a on → Stands x (record a { channel = c }) on
  opened_stands answers.Awaited a c on asked k = k
  opened_stands answers.EchoDue a c on asked k = absurd (asked k.0.request)
  opened_stands answers.EchoPut a c on asked k = absurd (asked k.0.request)
  opened_stands answers.EchoDrawn a c on asked k = absurd (asked k.0.request)
  opened_stands answers.ResponseDue a c on asked k = k
  opened_stands answers.TimeoutDue a c on asked k = k
  opened_stands answers.Put a c on asked k = k

  quiet_stays : (a : Seen) (c : Channel) → IsQuiet a → IsQuiet (record a { channel = c })
  quiet_stays a c q = record {
    pdus = q.pdus;
    dues = q.dues;
    end = q.end;
    handover = q.handover;
    ping = q.ping;
  }

  opens_answers : (a b : Seen) (on : List Message) → Opens a b
      → Answers config g a on → Answers config g b on
  opens_answers a b on o k = subst (λ (x : Seen). Answers config g x on) (sym o.is) (record {
    config_is = k.config_is;
    heads = k.heads;
    unasked = λ e. absurd (no_length a.request o.length o.asked (k.unasked e).request);
    served = k.served;
    quiet = λ down. quiet_stays a o.channel (k.quiet down);
    stands = opened_stands a.answer a o.channel on (no_length a.request o.length o.asked) k.stands;
  })

  -- ---- packets and PDUs

  module _ (s : OutProxy) (log : List OnLeg) (k : AnswersAt config g s log) where
    -- what comes on the leg to the server comes once it is up
    is_served : (leg : Leg) → takes_frames (g leg) ≡ true → is_os s leg ≡ true
        → is_server_down s.server ≡ false
    is_served leg turn e =
        k.served (subst (λ (l : Leg). takes_frames (g l) ≡ true)
        (sym (leg_is (os s.config.number) leg e)
        ∙ ap (λ (c : OutProxyConfig). os c.number) k.config_is)
        turn)

    pub packet_answers : (leg : Leg) (count : Count) (named : Named) → takes_frames (g leg) ≡ true
        → AnswersAt config g (packet s leg count named).0 log
    packet_answers leg count named turn =
        by_test (λ (d : Done). AnswersAt config g d.0 log) (is_co s leg) (on_co s count named)
        (if is_os s leg then on_os s named else unexpected s)
        (λ e. by (co_goes s count named))
        (λ e. by_test (λ (d : Done). AnswersAt config g d.0 log) (is_os s leg) (on_os s named)
        (unexpected s)
        (λ f. serves_answers (seen s) (seen (on_os s named).0) (of_leg (co config.number) log)
        (is_served leg turn f) (os_serves s named) k)
        (λ f. k))
      where
        by : (seen (on_co s count named).0 ≡ seen s) ⊎ Opens (seen s) (seen (on_co s count named).0)
            → AnswersAt config g (on_co s count named).0 log
        by (inl e) =
            subst (λ (x : Seen). Answers config g x (of_leg (co config.number) log)) (sym e) k
        by (inr o) =
            opens_answers (seen s) (seen (on_co s count named).0)
            (of_leg (co config.number) log) o k

    pub pdu_answers : (leg : Leg) (count : Count) (bytes : List ℕ) → takes_frames (g leg) ≡ true
        → AnswersAt config g (pdu s leg count bytes).0 log
    pdu_answers leg count bytes turn =
        elim (is_os s leg) as (λ t. is_os s leg ≡ t
        → AnswersAt config g (pdu s leg count bytes).0 log) [
          | true ↦ λ e.
              serves_answers (seen s) (seen (pdu s leg count bytes).0)
              (of_leg (co config.number) log) (is_served leg turn e)
              (pdu_serves s leg count bytes) k
          | false ↦ λ e.
              subst (λ (d : Done). AnswersAt config g d.0 log) (sym (not_here leg bytes e)) k
        ] refl
      where
        not_here : (leg : Leg) (bytes : List ℕ) → is_os s leg ≡ false
            → pdu s leg count bytes ≡ unexpected s
        not_here leg bytes e = rw e refl

    -- ---- marks and Pings

    pub mark_answers : (leg : Leg) → only_marks s leg ≡ true → AnswersAt config g (mark s leg) log
    mark_answers leg may =
        elim (is_server_down s.server) as (λ t. is_server_down s.server ≡ t
        → AnswersAt config g (mark s leg) log) [
          | true ↦ λ e. absurd (no_mark (k.quiet e))
          | false ↦ λ e.
              serves_answers (seen s) (seen (mark s leg)) (of_leg (co config.number) log) e
              (mark_serves s leg) k
        ] refl
      where
        none : (a b : Bool) → a ≡ false → b ≡ false → (c : Bool) → (a || (c && b)) ≡ true → ⊥
        none true b e f c h = absurd cc
        none false true e f c h = absurd cc
        none false false e f true h = absurd cc
        none false false e f false h = absurd cc

        no_mark : IsQuiet (seen s) → ⊥
        no_mark q = none (is_put s.end) (is_put s.handover) (ap is_put q.end)
            (ap is_put q.handover) (is_co s leg) may

    pub ping_answers : (leg : Leg) → is_some (ping_after s leg) ≡ true
        → AnswersAt config g (ping s leg) log
    ping_answers leg may =
        serves_answers (seen s) (seen (ping s leg)) (of_leg (co config.number) log)
        (up_by s.answer (response (is_co s leg) (is_response_put s.answer) may) k.stands)
        (record { config = refl; request = refl; answer = refl; server = λ up. up }) k
      where
        response : (a b : Bool) → is_some (if a && b then Some s.config.timeout else None) ≡ true
            → b ≡ true
        response true true e = refl
        response true false e = absurd cc
        response false b e = absurd cc

        up_by : (x : Answer) → is_response_put x ≡ true
            → Stands x (seen s) (of_leg (co config.number) log) → is_server_down s.server ≡ false
        up_by answers.Awaited e h = absurd cc
        up_by answers.EchoDue e h = absurd cc
        up_by answers.EchoPut e h = absurd cc
        up_by answers.EchoDrawn e h = absurd cc
        up_by answers.ResponseDue e h = absurd cc
        up_by answers.TimeoutDue e h = h.0
        up_by answers.Put e h = h.0

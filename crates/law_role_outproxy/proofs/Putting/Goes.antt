-- what an out proxy's channel is opened by, and what its rows and puts leave alone
use Rattle.law_order.proofs.Vocabulary.{◌≡◌, ℕ, ◌+◌, ◌≤◌, ◌&&◌, Bool, true, false, true≢false, if◌then◌else◌, List, [], ◌∷◌, length, Some, None, refl, sym, ap, ◌∙◌, arith, rules, and_parts, nat_le, IfSome, Option}
use Rattle.rh_shell.specs.declared.answers.Count.TheVariants as count
use Rattle.rh_shell.specs.declared.stage.Stage.TheVariants as stage
use Rattle.rh_outproxy.specs.declared.state.Answer.TheVariants as answers
use Rattle.rh_outproxy.specs.declared.state.Channel.TheVariants as channels
use Rattle.rh_outproxy.specs.declared.state.ClientLeg.TheVariants as clients
use Rattle.rh_outproxy.specs.declared.state.Mark.TheVariants as marks
use Rattle.law_moves.proofs.Vocabulary.{may_send, Ack, by_test, Cookie, Named, Asked, Leg, is_empty, Count, Stage, Message, Due, with_due, packets, Tells, Stages, takes_frames}
use Rattle.law_role_outproxy.proofs.Vocabulary.{Answer, Channel, OutProxyConfig, ServerLeg, OutProxy, is_known, is_server_down, is_server_first, is_due, is_echo_put, is_ping_due, joined, is_co, is_os, is_first, forwarded, passed_on, first_packet, on_out_r2_c1, on_ack_to, ack_due, drawn, mark, on_end_b1, on_out_r1_a9, Pick, ping_room, or_else, answer_by, put_answer, waiting_by, put_waiting, pdu_by, put_pdu, put_end, put_handover, put_mark, put_ping, next_co, first_by}
use Rattle.law_role_outproxy.proofs.Vocabulary.{put_first, ack_by, put_ack, next_os, put as put_of, pdu, co_leg, os_leg}
use Rattle.law_role_outproxy.proofs.Counted.OutProxyNames.{IsAsked}

-- ---- the facts

pub record Seen : Type 0 where
  pub config : OutProxyConfig
  pub request : Option Asked
  pub answer : Answer
  pub channel : Channel
  pub server : ServerLeg

abbrev pub seen : OutProxy → Seen
seen s = record {
  config = s.config;
  request = s.request;
  answer = s.answer;
  channel = s.channel;
  server = s.server;
}

-- no head came
abbrev pub is_unheard : Option Stage → Bool
is_unheard None = true
is_unheard (Some stage.Head) = true
is_unheard next = false

pub unheard_takes : (o : Option Stage) → is_unheard o ≡ true → takes_frames o ≡ true → ⊥
unheard_takes None e f = absurd cc
unheard_takes (Some stage.Head) e f = absurd cc
unheard_takes (Some stage.Greeting) e f = absurd cc
unheard_takes (Some stage.Frames) e f = absurd cc
unheard_takes (Some stage.PassedOver) e f = absurd cc
unheard_takes (Some stage.Shut) e f = absurd cc

-- nothing was asked
pub record IsUnasked (a : Seen) : Type 0 where
  pub request : a.request ≡ None
  pub answer : a.answer ≡ answers.Awaited
  pub channel : a.channel ≡ channels.Unknown

-- by the stages of its legs and what came from the client
pub record Turns (config : OutProxyConfig) (g : Stages) (a : Seen) (came : List Message)
    : Type 0 where
  pub made : a.config ≡ config
  pub heads : (leg : Leg) → g leg ≡ Some stage.Head → leg ≡ co_leg config.number
  pub served : takes_frames (g (os_leg config.number)) ≡ true → is_server_down a.server ≡ false
  pub unasked : is_unheard (g (co_leg config.number)) ≡ true → IsUnasked a
  pub known : is_known a.channel ≡ true → 1 ≤ packets came
  pub asked : IsAsked a.channel came

-- these are left alone, but that a leg may come up
pub record Goes (a b : Seen) : Type 0 where
  pub config : b.config ≡ a.config
  pub request : b.request ≡ a.request
  pub answer : a.answer ≡ answers.Awaited → b.answer ≡ answers.Awaited
  pub channel : b.channel ≡ a.channel
  pub server : is_server_down a.server ≡ false → is_server_down b.server ≡ false

pub goes_same : (s t : OutProxy) → seen t ≡ seen s → Goes (seen s) (seen t)
goes_same s t e = record {
  config = ap (λ (x : Seen). x.config) e;
  request = ap (λ (x : Seen). x.request) e;
  answer = λ f. ap (λ (x : Seen). x.answer) e ∙ f;
  channel = ap (λ (x : Seen). x.channel) e;
  server = λ f. ap (λ (x : Seen). is_server_down x.server) e ∙ f;
}

-- ---- what leaves these alone

pub same_pdu : (s : OutProxy) (leg : Leg) (count : Count) (bytes : List ℕ)
    → seen (pdu s leg count bytes).0 ≡ seen s
same_pdu s leg count bytes = search rules

pub same_c1 : (s : OutProxy) (count : Count) → seen (on_out_r2_c1 s count).0 ≡ seen s
same_c1 s count = search rules

pub same_forwarded : (s : OutProxy) (m : Named) → seen (forwarded s m).0 ≡ seen s
same_forwarded s m = search rules

pub same_passed : (s : OutProxy) (to : ℕ) (m : Named) → seen (passed_on s to m).0 ≡ seen s
same_passed s to m = search rules

pub same_ack : (s : OutProxy) (to received available : ℕ) (cookie : Cookie)
    → seen (on_ack_to s to received available cookie).0 ≡ seen s
same_ack s to received available cookie = search rules

pub same_a9 : (s : OutProxy) → seen (on_out_r1_a9 s).0 ≡ seen s
same_a9 s = search rules

pub same_end : (s : OutProxy) → seen (on_end_b1 s).0 ≡ seen s
same_end s = search rules

pub goes_mark : (s : OutProxy) (leg : Leg) → Goes (seen s) (seen (mark s leg))
goes_mark s leg =
    by_test (λ (t : OutProxy). Goes (seen s) (seen t)) (is_co s leg) _ _
    (λ e. goes_same s (record s { client = clients.Marked }) refl)
    (λ e. record {
      config = refl;
      request = refl;
      answer = λ f. f;
      channel = refl;
      server = λ f. refl;
    })

pub goes_drawn : (s : OutProxy) (leg : Leg) → Goes (seen s) (seen (drawn s leg))
goes_drawn s leg =
    by_test (λ (t : OutProxy). Goes (seen s) (seen t)) (is_co s leg && is_echo_put s.answer)
    (record s { answer = answers.EchoDrawn }) s
    (λ e. record {
      config = refl;
      request = refl;
      answer = λ f.
          absurd (true≢false (sym (and_parts (is_co s leg) (is_echo_put s.answer) e).1
          ∙ ap is_echo_put f));
      channel = refl;
      server = λ f. f;
    })
    (λ e. goes_same s s refl)

-- ---- what is put

abbrev pub PickGoes : Seen → Pick → Type 0
PickGoes a pick = IfSome pick (λ (one : OutProxy × Message). Goes a (seen one.0))

or_goes : (a : Seen) (x y : Pick) → PickGoes a x → PickGoes a y → PickGoes a (or_else x y)
or_goes a None y h k = k
or_goes a (Some pick) y h k = h

answer_goes : (s : OutProxy) (x : Answer) → s.answer ≡ x → PickGoes (seen s) (answer_by x s)
answer_goes s answers.Awaited e = tt
answer_goes s answers.EchoDue e = record {
  config = refl;
  request = refl;
  answer = λ f. let no' = sym e ∙ f in absurd cc;
  channel = refl;
  server = λ f. f;
}
answer_goes s answers.EchoPut e = tt
answer_goes s answers.EchoDrawn e = tt
answer_goes s answers.ResponseDue e = record {
  config = refl;
  request = refl;
  answer = λ f. let no' = sym e ∙ f in absurd cc;
  channel = refl;
  server = λ f. f;
}
answer_goes s answers.TimeoutDue e = record {
  config = refl;
  request = refl;
  answer = λ f. let no' = sym e ∙ f in absurd cc;
  channel = refl;
  server = λ f. f;
}
answer_goes s answers.Put e = tt

waiting_goes : (s : OutProxy) (dues : List Due) → PickGoes (seen s) (waiting_by s dues)
waiting_goes s [] = tt
waiting_goes s (due ∷ dues) =
    goes_same s (record s { waiting = with_due s.waiting dues }) refl

pdu_goes : (s : OutProxy) (pdus : List (List ℕ)) → PickGoes (seen s) (pdu_by s pdus)
pdu_goes s [] = tt
pdu_goes s (pdu ∷ pdus) =
    by_test (PickGoes (seen s)) (may_send s.window (length pdu)) _ None
    (λ e. record {
      config = refl;
      request = refl;
      answer = λ f. f;
      channel = refl;
      server = λ f. f;
    })
    (λ e. tt)

mark_goes : (s : OutProxy) → PickGoes (seen s) (put_mark s)
mark_goes s =
    or_goes (seen s) (put_end s) (put_handover s)
    (by_test (PickGoes (seen s)) (is_empty s.line.current.pdus && is_due s.end) _ None
    (λ e. goes_same s (record s { end = marks.Put }) refl) (λ e. tt))
    (by_test (PickGoes (seen s)) (is_empty s.line.current.pdus && is_due s.handover) _ None
    (λ e. goes_same s (record s { handover = marks.Put }) refl) (λ e. tt))

ping_goes : (s : OutProxy) → PickGoes (seen s) (put_ping s)
ping_goes s =
    by_test (PickGoes (seen s)) (is_ping_due s.ping && nat_le (s.pinged + 20) ping_room) _ None
    (λ e. record {
      config = refl;
      request = refl;
      answer = λ f. f;
      channel = refl;
      server = λ f. f;
    })
    (λ e. tt)

first_goes : (s : OutProxy) (o : Option Named) → PickGoes (seen s) (first_by s o)
first_goes s None = tt
first_goes s (Some m) = record {
  config = refl;
  request = refl;
  answer = λ f. f;
  channel = refl;
  server = λ f. refl;
}

ack_goes : (s : OutProxy) (cookie : Option Cookie) (o : Option Ack)
    → PickGoes (seen s) (ack_by s cookie o)
ack_goes s None o = tt
ack_goes s (Some cookie) None = tt
ack_goes s (Some cookie) (Some ack) = record {
  config = refl;
  request = refl;
  answer = λ f. f;
  channel = refl;
  server = λ f. f;
}

pub put_goes : (s : OutProxy) (leg : Leg) → PickGoes (seen s) (put_of s leg)
put_goes s leg =
    by_test (PickGoes (seen s)) (is_co s leg) (next_co s) (if is_os s leg then next_os s else None)
    (λ e. or_goes (seen s) (put_answer s) _ (answer_goes s s.answer refl)
    (or_goes (seen s) (put_waiting s) _ (waiting_goes s s.waiting.due)
    (or_goes (seen s) (put_pdu s) _ (pdu_goes s s.line.current.pdus)
    (or_goes (seen s) (put_mark s) (put_ping s) (mark_goes s) (ping_goes s)))))
    (λ e. by_test (PickGoes (seen s)) (is_os s leg) (next_os s) None
    (λ f. or_goes (seen s) (put_first s) (put_ack s)
    (by_test (PickGoes (seen s)) (is_server_first s.server)
    (first_by s (first_packet s s.channel)) None
    (λ t. first_goes s (first_packet s s.channel)) (λ t. tt))
    (ack_goes s (joined s.channel) (ack_due s)))
    (λ f. tt))

-- ---- a packet that is counted as the first

-- a channel is known only behind some packet, and so not where the first comes
pub unknown : (channel : Channel) (number : Count) (n : ℕ) → is_first number ≡ true
    → Tells number n → (is_known channel ≡ true → 1 ≤ n) → is_known channel ≡ false
unknown channel count.Zero n e tells known = by (is_known channel) refl
  where
    by : (b : Bool) → is_known channel ≡ b → is_known channel ≡ false
    by true f = let some = known f in absurd (omega (arith, some, tells))
    by false f = f
unknown channel count.One n e tells known = absurd cc
unknown channel count.More n e tells known = absurd cc

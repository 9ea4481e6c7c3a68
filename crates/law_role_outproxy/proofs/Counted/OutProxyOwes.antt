-- what an out proxy owes for what came
use Rattle.law_order.proofs.Vocabulary.{◌≡◌, ℕ, ◌+◌, ◌≤◌, Bool, true, false, true≢false, IsTrue, ◌&&◌, ◌||◌, if◌then◌else◌, List, Some, Ok, Err, refl, sym, ap, ◌∙◌, subst, arith, rules, nat_le, and_parts, Result}
use Rattle.rh_sig.specs.declared.named.Named.TheVariants as named
use Rattle.rh_shell.specs.Waiting as waiting
use Rattle.rh_outproxy.specs.declared.state.Answer.TheVariants as answers
use Rattle.rh_outproxy.specs.declared.state.Channel.TheVariants as channels
use Rattle.rh_outproxy.specs.declared.state.ClientLeg.TheVariants as clients
use Rattle.rh_outproxy.specs.declared.state.Mark.TheVariants as marks
use Rattle.rh_outproxy.specs.declared.state.ServerLeg.TheVariants as servers
use Rattle.law_moves.proofs.Vocabulary.{by_test, Cookie, Named, HttpFault, greatest_echo, Asked, request_verdict, Leg, ClientOut, OutServer, Count, HeadRefused, HeadTaken, one_if}
use Rattle.law_moves.proofs.Lemmas.{IsNoAck, waits}
use Rattle.law_moves.proofs.PacketKinds.Pays as pays
use Rattle.law_role_outproxy.proofs.Vocabulary.{Answer, Channel, Mark, OutProxyConfig, ServerLeg, OutProxy, is_client_down, is_echo_put, is_known, is_server_down, is_server_first, Done, is_co, is_os, taken, wants, up, head, head_by, on_out_r2_c1, on_ack, drawn, mark, Pick, pdu, rules as proxy_rules}

-- what the facts are about
pub record Seen : Type 0 where
  pub config : OutProxyConfig
  pub answer : Answer
  pub channel : Channel
  pub server : ServerLeg
  pub waiting : waiting.Waiting
  pub end : Mark
  pub handover : Mark

abbrev pub seen : OutProxy → Seen
seen s = record {
  config = s.config;
  answer = s.answer;
  channel = s.channel;
  server = s.server;
  waiting = s.waiting;
  end = s.end;
  handover = s.handover;
}

abbrev pub Same : OutProxy → OutProxy → Type 0
Same s t = seen t ≡ seen s

-- ---- what leaves these alone

pub same_pdu : (s : OutProxy) (leg : Leg) (count : Count) (bytes : List ℕ)
    → Same s (pdu s leg count bytes).0
same_pdu s leg count bytes = search rules

pub same_c1 : (s : OutProxy) (count : Count) → Same s (on_out_r2_c1 s count).0
same_c1 s count = search rules

pub same_ack : (s : OutProxy) (received available : ℕ) (channel : Cookie)
    → Same s (on_ack s received available channel).0
same_ack s received available channel = search rules

-- ---- stages

-- the response is due, or the timeout behind it
abbrev pub is_answering : Answer → Bool
is_answering answers.ResponseDue = true
is_answering answers.TimeoutDue = true
is_answering answer = false

abbrev pub is_response_due : Answer → Bool
is_response_due answers.ResponseDue = true
is_response_due answer = false

-- nothing was put to the server
abbrev pub is_early : ServerLeg → Bool
is_early servers.Down = true
is_early servers.FirstDue = true
is_early leg = false

down_is_early : (leg : ServerLeg) → is_server_down leg ≡ true → is_early leg ≡ true
down_is_early servers.Down e = refl
down_is_early servers.FirstDue e = refl
down_is_early servers.Up e = absurd cc
down_is_early servers.Marked e = absurd cc

pub first_is_early : (leg : ServerLeg) → is_server_first leg ≡ true
    → (is_early leg ≡ true) × (is_server_down leg ≡ false)
first_is_early servers.FirstDue e = (refl, refl)
first_is_early servers.Down e = absurd cc
first_is_early servers.Up e = absurd cc
first_is_early servers.Marked e = absurd cc

pub both_ways : {X : Type 0} (b : Bool) → b ≡ true → b ≡ false → X
both_ways b e f = absurd (true≢false (sym e ∙ f))

-- in a strict mode, where legs come up only where they may: as long as the leg to the server is not
-- up no response is due, and one is due for a channel alone
pub record Known (n : ℕ) (strict : Bool) (x : Seen) : Type 0 where
  pub number : x.config.number ≡ n
  pub down : strict ≡ true → is_server_down x.server ≡ true → is_answering x.answer ≡ false
  pub known : strict ≡ true → is_response_due x.answer ≡ true → is_known x.channel ≡ true

-- ---- legs

abbrev pub co_at : ℕ → Leg
co_at n = record { kind = ClientOut; number = n }

abbrev pub os_at : ℕ → Leg
os_at n = record { kind = OutServer; number = n }

-- ---- what is due

-- no packet passes that is put first to the server, or behind the response
pub record IsClosed (put : Named → Bool) : Type 0 where
  pub conn_a2 : (lifetime size : ℕ) (connection channel : Cookie)
      → put (named.ConnA2 1 connection channel lifetime size) ≡ false
  pub conn_a3 : (timeout : ℕ) → put (named.ConnA3 timeout) ≡ false
  pub out_r1_a4 : (lifetime size timeout : ℕ) (connection predecessor channel : Cookie)
      → put (named.OutR1A4 1 connection predecessor channel lifetime size timeout) ≡ false

-- each packet that passes the test is put for one that came from the client or the server, and
-- passes the test there
pub record Leads (client server put : Named → Bool) (strict : Bool) : Type 0 where
  pub closed : strict ≡ false → IsClosed put
  pub connects : (version window lifetime size timeout : ℕ) (connection channel : Cookie)
      → one_if (put (named.ConnA2 1 connection channel lifetime size))
      + one_if (put (named.ConnA3 timeout))
      ≤ one_if (client (named.ConnA1 version connection channel window))
  pub replaces : (version window lifetime size timeout : ℕ)
      (connection predecessor channel : Cookie)
      → one_if (put (named.OutR1A4 1 connection predecessor channel lifetime size timeout))
      ≤ one_if (client (named.OutR1A3 version connection predecessor channel window))
  pub opens : (version size timeout : ℕ)
      → one_if (put (named.ConnC2 version size timeout))
      ≤ one_if (server (named.ConnC1 version size timeout))
  pub in_r1 : (to version size timeout : ℕ)
      → one_if (put (named.InR1A4 0 version size timeout))
      ≤ one_if (server (named.InR1A3 to version size timeout))
  pub in_r2 : (to : ℕ) → one_if (put (named.InR2A4 0)) ≤ one_if (server (named.InR2A3 to))
  pub wishes : (to : ℕ) → one_if (put (named.OutR1A2 0)) ≤ one_if (server (named.OutR1A1 to))
  pub answers : (to version timeout : ℕ)
      → one_if (put (named.OutR1A6 0 version timeout))
      ≤ one_if (server (named.OutR1A5 to version timeout))
  pub leaves : one_if (put named.OutR1A10) ≤ one_if (server named.OutR1A9)
  pub ends : one_if (put named.EndB2) ≤ one_if (server named.EndB1)
  pub acks : IsNoAck put
  pub own_acks : (received available : ℕ) (channel : Cookie)
      → put (named.Ack received available channel) ≡ false
  pub pings : put named.Ping ≡ false

-- ---- answers

-- the timeout is due behind the response, which becomes due when the leg to the server comes up
abbrev pub answer_owes : Answer → Bool → ℕ → ℕ → ℕ
answer_owes answers.TimeoutDue down now later = now
answer_owes answers.ResponseDue down now later = later
answer_owes answer down now later = if down then later else 0

pub if_owes : (t : Bool) (k other : ℕ)
    → (if t then other else 0) ≤ (if t then k else 0) + other
if_owes true k other = omega arith
if_owes false k other = omega arith

pub if_zero : (t : Bool) (k : ℕ) → k ≡ 0 → (if t then k else 0) ≡ 0
if_zero true k e = e
if_zero false k e = refl

module _ (down : Bool) (now later : ℕ) where
  -- before the leg to the server is up
  waits_owes : (a : Answer) → is_answering a ≡ false
      → answer_owes a down now later ≡ (if down then later else 0)
  waits_owes answers.Awaited e = refl
  waits_owes answers.EchoDue e = refl
  waits_owes answers.EchoPut e = refl
  waits_owes answers.EchoDrawn e = refl
  waits_owes answers.Put e = refl
  waits_owes answers.ResponseDue e = absurd cc
  waits_owes answers.TimeoutDue e = absurd cc

  -- where another answer is due in its place
  echo_owes : (a : Answer) → (down ≡ true → is_answering a ≡ false)
      → (if down then later else 0) ≤ answer_owes a down now later
  echo_owes a quiet =
      by_test (λ (k : ℕ). k ≤ answer_owes a down now later) down later 0
      (λ e. let is = waits_owes a (quiet e) in
      let yes = ap (λ (t : Bool). if t then later else 0) e in omega (arith, is, yes))
      (λ e. omega arith)

  pub marked_owes : (a : Answer)
      → answer_owes a false now later ≤ answer_owes a down now later
  marked_owes answers.Awaited = omega arith
  marked_owes answers.EchoDue = omega arith
  marked_owes answers.EchoPut = omega arith
  marked_owes answers.EchoDrawn = omega arith
  marked_owes answers.Put = omega arith
  marked_owes answers.ResponseDue = omega arith
  marked_owes answers.TimeoutDue = omega arith

  pub other_owes : (a : Answer) (other : ℕ)
      → answer_owes a down now other ≤ answer_owes a down now later + other
  other_owes answers.TimeoutDue other = omega arith
  other_owes answers.ResponseDue other = omega arith
  other_owes answers.Awaited other = if_owes down later other
  other_owes answers.EchoDue other = if_owes down later other
  other_owes answers.EchoPut other = if_owes down later other
  other_owes answers.EchoDrawn other = if_owes down later other
  other_owes answers.Put other = if_owes down later other

-- ---- what is owed

module _ (put : Named → Bool) (n : ℕ) (strict : Bool) (closed : strict ≡ false → IsClosed put)
  where
    -- the first packet to the server, by the channel
    abbrev pub channel_owes : OutProxyConfig → Channel → ℕ
    channel_owes config channels.Unknown = 0
    channel_owes config (channels.New connection cookie) =
        one_if (put (named.ConnA2 1 connection cookie config.lifetime config.window))
    channel_owes config (channels.Joined connection cookie) =
        one_if (put (named.ConnA2 1 connection cookie config.lifetime config.window))
    channel_owes config (channels.Successor connection predecessor cookie) =
        one_if (put (named.OutR1A4 1 connection predecessor cookie config.lifetime config.window
        config.timeout))

    -- and the timeout to the client
    abbrev pub timeout_owes : OutProxyConfig → Channel → ℕ
    timeout_owes config channels.Unknown = 0
    timeout_owes config (channels.New connection cookie) =
        one_if (put (named.ConnA3 config.timeout))
    timeout_owes config (channels.Joined connection cookie) =
        one_if (put (named.ConnA3 config.timeout))
    timeout_owes config (channels.Successor connection predecessor cookie) = 0

    abbrev pub mark_owes : Named → Mark → ℕ
    mark_owes m marks.Came = one_if (put m)
    mark_owes m mark = 0

    abbrev pub owed : Seen → ℕ
    owed x =
        waits put x.waiting.due + mark_owes named.EndB2 x.end
        + mark_owes named.OutR1A10 x.handover
        + (if is_early x.server then channel_owes x.config x.channel else 0)
        + answer_owes x.answer (is_server_down x.server) (one_if (put (named.ConnA3
        x.config.timeout))) (timeout_owes x.config x.channel)

    abbrev pub owes : OutProxy → ℕ
    owes s = owed (seen s)

    abbrev pub Knows : OutProxy → Type 0
    Knows s = Known n strict (seen s)

    abbrev pub Owes : ℕ → OutProxy → Type 0
    Owes = pays.Owes Knows owes

    abbrev pub Gains : ℕ → OutProxy → Done → Type 0
    Gains = pays.Gains Knows owes

    abbrev pub Spends : OutProxy → Pick → Type 0
    Spends = pays.Spends Knows owes put

    pub same_owes : (s t : OutProxy) → Knows s → Same s t → Owes (owes s) t
    same_owes s t h same =
        let is = ap owed same in (subst (Known n strict) (sym same) h, omega (arith, is))

    pub same_gains : (k : ℕ) (s : OutProxy) (x : Done) → Knows s → Same s x.0 → Gains k s x
    same_gains k s (t, Ok taken) h same =
        let is = ap owed same in (subst (Known n strict) (sym same) h, omega (arith, is))
    same_gains k s (t, Err why) h same = same_owes s t h same

    pub more_gains : (j k : ℕ) (s : OutProxy) (x : Done) → j ≤ k → Gains j s x → Gains k s x
    more_gains j k s (t, Ok taken) more h = let less = h.1 in (h.0, omega (arith, more, less))
    more_gains j k s (t, Err why) more h = h

    -- ---- where no packet passes that is put first

    pub modes : (X : Type 0) → (strict ≡ true → X) → (strict ≡ false → X) → X
    modes X so else_so = by strict refl
      where
        by : (t : Bool) → strict ≡ t → X
        by true e = so e
        by false e = else_so e

    pub now_zero : strict ≡ false → (timeout : ℕ) → one_if (put (named.ConnA3 timeout)) ≡ 0
    now_zero e timeout = ap one_if ((closed e).conn_a3 timeout)

    pub later_zero : strict ≡ false → (config : OutProxyConfig) (c : Channel)
        → timeout_owes config c ≡ 0
    later_zero e config channels.Unknown = refl
    later_zero e config (channels.New connection cookie) = now_zero e config.timeout
    later_zero e config (channels.Joined connection cookie) = now_zero e config.timeout
    later_zero e config (channels.Successor connection predecessor cookie) = refl

    first_zero : strict ≡ false → (config : OutProxyConfig) (c : Channel)
        → channel_owes config c ≡ 0
    first_zero e config channels.Unknown = refl
    first_zero e config (channels.New connection cookie) =
        ap one_if ((closed e).conn_a2 config.lifetime config.window connection cookie)
    first_zero e config (channels.Joined connection cookie) =
        ap one_if ((closed e).conn_a2 config.lifetime config.window connection cookie)
    first_zero e config (channels.Successor connection predecessor cookie) =
        ap one_if ((closed e).out_r1_a4 config.lifetime config.window config.timeout connection
        predecessor cookie)

    -- ---- ups, heads, and what is lost

    server_up : (s : OutProxy) → Knows s → strict ≡ true → is_known s.channel ≡ true
        → is_server_down s.server ≡ true
        → Owes (owes s)
        (record s { server = servers.FirstDue; answer = answers.ResponseDue })
    server_up s h e known down = (
      record { number = h.number; down = λ f g. absurd cc; known = λ f g. known },
      (let first = ap (λ (t : Bool). if t then channel_owes s.config s.channel else 0)
          (down_is_early s.server down) in
          let now = one_if (put (named.ConnA3 s.config.timeout)) in
          let later = timeout_owes s.config s.channel in
          let is = waits_owes (is_server_down s.server) now later s.answer (h.down e down) in
          let yes = ap (λ (t : Bool). if t then later else 0) down in
          omega (arith, first, is, yes)),
    )

    -- whether it may or not
    any_up : (s : OutProxy) → Knows s → strict ≡ false
        → Owes (owes s)
        (record s { server = servers.FirstDue; answer = answers.ResponseDue })
    any_up s h e = (
      record {
        number = h.number;
        down = λ f g. both_ways strict f e;
        known = λ f g. both_ways strict f e;
      },
      (let first = first_zero e s.config s.channel in
          let later = later_zero e s.config s.channel in omega (arith, first, later)),
    )

    wanted : (one other free : Bool) → one || (other && free) ≡ true → other ≡ false → one ≡ true
    wanted true other free e f = refl
    wanted false true free e f = absurd cc
    wanted false false free e f = absurd cc

    abbrev pub MayUp : OutProxy → Leg → Type 0
    MayUp s leg = strict ≡ true → IsTrue (proxy_rules.may_up s leg)

    pub up_owes : (s : OutProxy) (leg : Leg) (cookie : Cookie) → Knows s → MayUp s leg
        → Owes (owes s) (up s leg cookie)
    up_owes s leg cookie h may =
        by_test (Owes (owes s)) (is_co s leg) (record s { client = clients.Up })
        (record s { server = servers.FirstDue; answer = answers.ResponseDue })
        (λ e. same_owes s (record s { client = clients.Up }) h refl)
        (λ e. modes (Owes (owes s)
        (record s { server = servers.FirstDue; answer = answers.ResponseDue }))
        (λ f.
        let wish = wanted (wants s leg) (is_co s leg) (is_client_down s.client) (may f) e in
        let both = and_parts (is_known s.channel) (is_server_down s.server)
        (and_parts (is_os s leg) (is_known s.channel && is_server_down s.server) wish).1 in
        server_up s h f both.0 both.1)
        (λ f. any_up s h f))

    -- another answer, which is no response
    pub answers_owes : (s : OutProxy) (a : Answer) → Knows s → is_answering a ≡ false
        → (is_response_due a ≡ true → is_known s.channel ≡ true)
        → Owes (owes s) (record s { answer = a })
    answers_owes s a h quiet known = (
      record { number = h.number; down = λ e f. quiet; known = λ e. known },
      (let now = one_if (put (named.ConnA3 s.config.timeout)) in
          let later = timeout_owes s.config s.channel in
          let is = waits_owes (is_server_down s.server) now later a quiet in
          omega (arith, is, less)),
    )
      where
        less : (if is_server_down s.server then timeout_owes s.config s.channel else 0)
            ≤ answer_owes s.answer (is_server_down s.server)
            (one_if (put (named.ConnA3 s.config.timeout))) (timeout_owes s.config s.channel)
        less =
            modes _
            (λ e. echo_owes (is_server_down s.server)
            (one_if (put (named.ConnA3 s.config.timeout))) (timeout_owes s.config s.channel)
            s.answer (h.down e))
            (λ e.
            let none = if_zero (is_server_down s.server) (timeout_owes s.config s.channel)
            (later_zero e s.config s.channel) in omega (arith, none))

    pub head_owes : (s : OutProxy) (leg : Leg) (text : List ℕ) → Knows s
        → Owes (owes s) (head s leg text).0
    head_owes s leg text h = by (request_verdict false text)
      where
        by : (v : Result Asked HttpFault) → Owes (owes s) (head_by s v).0
        by (Err fault) = (h, omega arith)
        by (Ok request) =
            by_test (λ (x : OutProxy × Result HeadTaken HeadRefused). Owes (owes s) x.0)
            (nat_le request.length greatest_echo) _ _
            (λ e. answers_owes s answers.EchoDue h refl (λ f. absurd cc))
            (λ e. same_owes s (record s { request = Some request }) h refl)

    pub drawn_owes : (s : OutProxy) (leg : Leg) → Knows s → Owes (owes s) (drawn s leg)
    drawn_owes s leg h =
        by_test (Owes (owes s)) (is_co s leg && is_echo_put s.answer)
        (record s { answer = answers.EchoDrawn }) s
        (λ e. answers_owes s answers.EchoDrawn h refl (λ f. absurd cc))
        (λ e. (h, omega arith))

    marked : (s : OutProxy) → Knows s → Owes (owes s) (record s { server = servers.Marked })
    marked s h = (
      record { number = h.number; down = λ e f. absurd cc; known = h.known },
      (let now = one_if (put (named.ConnA3 s.config.timeout)) in
          let later = timeout_owes s.config s.channel in
          let less = marked_owes (is_server_down s.server) now later s.answer in
          omega (arith, less)),
    )

    pub mark_owed : (s : OutProxy) (leg : Leg) → Knows s → Owes (owes s) (mark s leg)
    mark_owed s leg h =
        by_test (Owes (owes s)) (is_co s leg) (record s { client = clients.Marked })
        (record s { server = servers.Marked })
        (λ e. same_owes s (record s { client = clients.Marked }) h refl) (λ e. marked s h)

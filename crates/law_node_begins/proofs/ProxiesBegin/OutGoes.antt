-- what the rows and puts of an out proxy leave as it is, or change in one way
use Rattle.law_order.proofs.Vocabulary.{◌≡◌, ◌⊎◌, inl, inr, ℕ, ◌+◌, List, [], ◌∷◌, length, Bool, true, false, ◌&&◌, Some, None, refl, ap, ◌∙◌, rules, if◌then◌else◌, IfSome, nat_le, Option, and_parts}
use Rattle.rh_outproxy.specs.declared.state.Answer.{Answer}
use Rattle.rh_outproxy.specs.declared.state.Channel.{Channel}
use Rattle.rh_outproxy.specs.declared.state.Mark.{Mark}
use Rattle.rh_outproxy.specs.declared.state.OutProxyConfig.{OutProxyConfig}
use Rattle.rh_outproxy.specs.declared.state.Ping.{Ping}
use Rattle.rh_outproxy.specs.declared.state.ServerLeg.{ServerLeg}
use Rattle.rh_outproxy.specs.OutProxy.{OutProxy, is_server_down, is_server_first, is_due, is_ping_due, joined}
use Rattle.rh_outproxy.specs.Rows.{Done, is_co, is_first, taken, unexpected}
use Rattle.rh_outproxy.specs.Opening.{first_packet, new_length, on_out_r2_c1, opened, successor_length, told_length}
use Rattle.rh_outproxy.specs.Acknowledging.{ack_due}
use Rattle.rh_outproxy.specs.Ending.{mark}
use Rattle.rh_outproxy.specs.Machine.{packet, pdu, on_co, on_os}
use Rattle.rh_outproxy.specs.Putting.{Pick, or_else, ping_room, waiting_by, put_waiting, pdu_by, put_pdu, put_end, put_handover, put_mark, put_ping, first_by, put_first, ack_by, put_ack, next_os}
use Rattle.rh_outproxy.specs.declared.state.Channel.TheVariants as channels
use Rattle.rh_outproxy.specs.declared.state.Mark.TheVariants as marks
use Rattle.rh_outproxy.specs.declared.state.Ping.TheVariants as pings
use Rattle.rh_outproxy.specs.declared.state.ServerLeg.TheVariants as servers
use Rattle.law_moves.proofs.Vocabulary.{may_send, Ack, by_test, Cookie, Named, ConnA1, OutR1A3, OutR2C1, Asked, is_empty, Leg, Count, Due, Message, IsNoText}

-- what these facts are about
pub record Seen : Type 0 where
  pub config : OutProxyConfig
  pub request : Option Asked
  pub answer : Answer
  pub channel : Channel
  pub server : ServerLeg
  pub pdus : List (List ℕ)
  pub dues : List Due
  pub end : Mark
  pub handover : Mark
  pub ping : Ping

abbrev pub seen : OutProxy → Seen
seen s = record {
  config = s.config;
  request = s.request;
  answer = s.answer;
  channel = s.channel;
  server = s.server;
  pdus = s.line.current.pdus;
  dues = s.waiting.due;
  end = s.end;
  handover = s.handover;
  ping = s.ping;
}

-- nothing is there that the server sent
pub record IsQuiet (a : Seen) : Type 0 where
  pub pdus : a.pdus ≡ []
  pub dues : a.dues ≡ []
  pub end : a.end ≡ marks.Awaited
  pub handover : a.handover ≡ marks.Awaited
  pub ping : a.ping ≡ pings.NotDue

-- the leg to the server came up before, and what goes first to the client is as it was
pub record Serves (a b : Seen) : Type 0 where
  pub config : b.config ≡ a.config
  pub request : b.request ≡ a.request
  pub answer : b.answer ≡ a.answer
  pub server : is_server_down a.server ≡ false → is_server_down b.server ≡ false

-- ---- what comes from the server

record Kept : Type 0 where
  config : OutProxyConfig
  request : Option Asked
  answer : Answer
  server : ServerLeg

abbrev kept : OutProxy → Kept
kept s = record {
  config = s.config;
  request = s.request;
  answer = s.answer;
  server = s.server;
}

serves : (s t : OutProxy) → kept t ≡ kept s → Serves (seen s) (seen t)
serves s t e = record {
  config = ap (λ (k : Kept). k.config) e;
  request = ap (λ (k : Kept). k.request) e;
  answer = ap (λ (k : Kept). k.answer) e;
  server = λ up. ap (λ (k : Kept). is_server_down k.server) e ∙ up;
}

same_os : (s : OutProxy) (named : Named) → kept (on_os s named).0 ≡ kept s
same_os s named = search rules

pub os_serves : (s : OutProxy) (named : Named) → Serves (seen s) (seen (on_os s named).0)
os_serves s named = serves s (on_os s named).0 (same_os s named)

same_pdu : (s : OutProxy) (leg : Leg) (count : Count) (bytes : List ℕ)
    → kept (pdu s leg count bytes).0 ≡ kept s
same_pdu s leg count bytes = search rules

pub pdu_serves : (s : OutProxy) (leg : Leg) (count : Count) (bytes : List ℕ)
    → Serves (seen s) (seen (pdu s leg count bytes).0)
pdu_serves s leg count bytes = serves s (pdu s leg count bytes).0 (same_pdu s leg count bytes)

pub mark_serves : (s : OutProxy) (leg : Leg) → Serves (seen s) (seen (mark s leg))
mark_serves s leg =
    by_test (λ (t : OutProxy). Serves (seen s) (seen t)) (is_co s leg) _ _
    (λ e. record { config = refl; request = refl; answer = refl; server = λ up. up })
    (λ e. record { config = refl; request = refl; answer = refl; server = λ up. refl })

-- ---- what comes from the client

-- a request for a channel was taken, and the channel begins
pub record Opens (a b : Seen) : Type 0 where
  pub length : ℕ
  pub asked : told_length a.request length ≡ true
  pub channel : Channel
  pub is : b ≡ record a { channel = channel }

abbrev GoesCo : OutProxy → Done → Type 0
GoesCo s d = (seen d.0 ≡ seen s) ⊎ Opens (seen s) (seen d.0)

opens : (s : OutProxy) (count : Count) (n : ℕ) (channel : Channel) (size : ℕ)
    → GoesCo s (if is_first count && told_length s.request n then taken (opened s channel size)
    else unexpected s)
opens s count n channel size =
    by_test (GoesCo s) (is_first count && told_length s.request n) (taken (opened s channel size))
    (unexpected s)
    (λ e. inr (record {
      length = n;
      asked = (and_parts (is_first count) (told_length s.request n) e).1;
      channel = channel;
      is = refl;
    }))
    (λ e. inl refl)

same_c1 : (s : OutProxy) (count : Count) → seen (on_out_r2_c1 s count).0 ≡ seen s
same_c1 s count = search rules

pub co_goes : (s : OutProxy) (count : Count) (named : Named) → GoesCo s (on_co s count named)
co_goes s count (ConnA1 version connection cookie size) =
    opens s count new_length (channels.New connection cookie) size
co_goes s count (OutR1A3 version connection predecessor cookie size) =
    opens s count successor_length (channels.Successor connection predecessor cookie) size
co_goes s count OutR2C1 = inl (same_c1 s count)
co_goes s count named = inl refl

-- ---- what is put

-- no text, and what goes first to the client is as it was
abbrev pub ServesPut : Seen → Pick → Type 0
ServesPut a pick = IfSome pick (λ (x : OutProxy × Message). Serves a (seen x.0) × IsNoText x.1)

or_serves : (a : Seen) (x y : Pick) → ServesPut a x → ServesPut a y → ServesPut a (or_else x y)
or_serves a None y h k = k
or_serves a (Some x) y h k = h

waiting_serves : (s : OutProxy) (dues : List Due) → ServesPut (seen s) (waiting_by s dues)
waiting_serves s [] = tt
waiting_serves s (due ∷ dues) =
    (record { config = refl; request = refl; answer = refl; server = λ up. up }, tt)

front_serves : (s : OutProxy) (pdus : List (List ℕ)) → ServesPut (seen s) (pdu_by s pdus)
front_serves s [] = tt
front_serves s (pdu ∷ pdus) =
    by_test (ServesPut (seen s)) (may_send s.window (length pdu)) _ None
    (λ e. (record { config = refl; request = refl; answer = refl; server = λ up. up }, tt))
    (λ e. tt)

mark_put : (s : OutProxy) → ServesPut (seen s) (put_mark s)
mark_put s =
    or_serves (seen s) (put_end s) (put_handover s)
    (by_test (ServesPut (seen s)) (is_empty s.line.current.pdus && is_due s.end) _ None
    (λ e. (record { config = refl; request = refl; answer = refl; server = λ up. up }, tt))
    (λ e. tt))
    (by_test (ServesPut (seen s)) (is_empty s.line.current.pdus && is_due s.handover) _ None
    (λ e. (record { config = refl; request = refl; answer = refl; server = λ up. up }, tt))
    (λ e. tt))

ping_put : (s : OutProxy) → ServesPut (seen s) (put_ping s)
ping_put s =
    by_test (ServesPut (seen s)) (is_ping_due s.ping && nat_le (s.pinged + 20) ping_room) _ None
    (λ e. (record { config = refl; request = refl; answer = refl; server = λ up. up }, tt))
    (λ e. tt)

-- behind what goes first to the client
abbrev pub put_later : OutProxy → Pick
put_later s =
    or_else (put_waiting s) (or_else (put_pdu s) (or_else (put_mark s) (put_ping s)))

pub later_serves : (s : OutProxy) → ServesPut (seen s) (put_later s)
later_serves s =
    or_serves (seen s) (put_waiting s) _ (waiting_serves s s.waiting.due)
    (or_serves (seen s) (put_pdu s) _ (front_serves s s.line.current.pdus)
    (or_serves (seen s) (put_mark s) (put_ping s) (mark_put s) (ping_put s)))

or_none : (x y : Pick) → x ≡ None → y ≡ None → or_else x y ≡ None
or_none x y e f = ap (λ (z : Pick). or_else z y) e ∙ f

unless : (a b : Bool) (x : Pick) → b ≡ false → (if a && b then x else None) ≡ None
unless true true x e = absurd cc
unless true false x e = refl
unless false b x e = refl

never : (b c : Bool) (x : Pick) → b ≡ false → (if b && c then x else None) ≡ None
never true c x e = absurd cc
never false c x e = refl

-- where the server sent nothing, nothing goes
pub nothing_later : (s : OutProxy) → IsQuiet (seen s) → put_later s ≡ None
nothing_later s q =
    or_none (put_waiting s) (or_else (put_pdu s) (or_else (put_mark s) (put_ping s)))
    (ap (waiting_by s) q.dues)
    (or_none (put_pdu s) (or_else (put_mark s) (put_ping s)) (ap (pdu_by s) q.pdus)
    (or_none (put_mark s) (put_ping s)
    (or_none (put_end s) (put_handover s)
    (unless (is_empty s.line.current.pdus) (is_due s.end) _ (ap is_due q.end))
    (unless (is_empty s.line.current.pdus) (is_due s.handover) _ (ap is_due q.handover)))
    (never (is_ping_due s.ping) (nat_le (s.pinged + 20) ping_room) _ (ap is_ping_due q.ping))))

-- ---- to the server

-- the first packet goes where the leg is up, and an acknowledgement leaves all as it is
abbrev pub ServerPut : Seen → Pick → Type 0
ServerPut a pick =
    IfSome pick (λ (x : OutProxy × Message).
    ((seen x.0 ≡ a) ⊎ ((is_server_down a.server ≡ false) × Serves a (seen x.0))) × IsNoText x.1)

or_server : (a : Seen) (x y : Pick) → ServerPut a x → ServerPut a y → ServerPut a (or_else x y)
or_server a None y h k = k
or_server a (Some x) y h k = h

first_server : (s : OutProxy) (o : Option Named) → is_server_down s.server ≡ false
    → ServerPut (seen s) (first_by s o)
first_server s None up = tt
first_server s (Some packet) up = (
  inr (
    up,
    record { config = refl; request = refl; answer = refl; server = λ up. refl },
  ),
  tt,
)

not_down : (l : ServerLeg) → is_server_first l ≡ true → is_server_down l ≡ false
not_down servers.Down e = absurd cc
not_down servers.FirstDue e = refl
not_down servers.Up e = refl
not_down servers.Marked e = refl

ack_server : (s : OutProxy) (cookie : Option Cookie) (o : Option Ack)
    → ServerPut (seen s) (ack_by s cookie o)
ack_server s None o = tt
ack_server s (Some cookie) None = tt
ack_server s (Some cookie) (Some ack) = (inl refl, tt)

pub os_put : (s : OutProxy) → ServerPut (seen s) (next_os s)
os_put s =
    or_server (seen s) (put_first s) (put_ack s)
    (by_test (ServerPut (seen s)) (is_server_first s.server)
    (first_by s (first_packet s s.channel)) None
    (λ e. first_server s (first_packet s s.channel) (not_down s.server e)) (λ e. tt))
    (ack_server s (joined s.channel) (ack_due s))

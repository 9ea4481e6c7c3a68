-- the lifetime that an out proxy tells a server: once, and without the bytes of CONN/A3 where no
-- OUT_R1/A3 came, whatever moves came
use Rattle.law_order.proofs.Vocabulary.{◌≡◌, ℕ, ◌+◌, ◌*◌, ◌-◌, ◌≤◌, ◌&&◌, Bool, true, false, IsTrue, nat_le, if◌then◌else◌, List, [], ◌∷◌, length, Some, None, Ok, Err, arith, rules, refl, sym, ap, ◌∙◌, subst, IfSome, Option, Result, and_parts}
use Rattle.rh_sig.specs.declared.named.Named.TheVariants as named
use Rattle.rh_shell.specs.Waiting as waits
use Rattle.rh_outproxy.specs.declared.state.Answer.TheVariants as answers
use Rattle.rh_outproxy.specs.declared.state.Channel.TheVariants as channels
use Rattle.rh_outproxy.specs.declared.state.ClientLeg.TheVariants as clients
use Rattle.rh_outproxy.specs.declared.state.ServerLeg.TheVariants as servers
use Rattle.rh_outproxy.specs.Machine as machine
use Rattle.rh_outproxy.specs.Putting as putting
use Rattle.law_moves.proofs.Vocabulary.{may_send, Ack, by_test, Cookie, Named, HttpFault, Asked, request_verdict, Leg, is_empty, Count, Due, Message, Text, Pdu, Packet, same_leg, Waiting, Move, Up, HeadCame, PduCame, PacketCame, Puts, IsDrawn, Marks, Pings, MayMove, OnLeg, Passage, AreAllowed, all_moved, moved, put_by, started, taken_by, of_leg}
use Rattle.law_role_outproxy.proofs.Vocabulary.{Answer, Channel, OutProxyConfig, ServerLeg, OutProxy, is_client_down, is_client_marked, is_due, is_echo_put, is_known, is_ping_due, is_server_down, is_server_first, is_successor, joined, new_proxy, Done, forwarded, forwarded_by, is_co, is_os, is_second, taken, unexpected, conn_c1_by, first_packet, head_by, opened, wants, ack_due, on_pdu, Pick, ack_by, answer_by, first_by, next_co, next_os, or_else, pdu_by, ping_room, put_ack}
use Rattle.law_role_outproxy.proofs.Vocabulary.{put_answer, put_end, put_first, put_handover, put_mark, put_pdu, put_ping, put_waiting, waiting_by}
use Rattle.law_role_outproxy.proofs.OrderKept.{starts, step}
use Rattle.law_role_outproxy.proofs.ProxyLaw.{Law}
use Rattle.law_role_outproxy.proofs.Counted.OutProxyOwes.{co_at as co, os_at as os}
use Rattle.law_world_bodies.proofs.OutMoves.{at_client, at_server, sum, sum_here, sum_other, wanted}
use Rattle.law_world_bodies.proofs.ServerMoves.{allowing}

-- ---- what is told

-- OUT_R1/A3 comes with a message from the client
abbrev pub replaces : Named → ℕ
replaces (named.OutR1A3 version connection predecessor cookie window) = 1
replaces packet = 0

abbrev pub replacing : Message → ℕ
replacing (Text text) = 0
replacing (Pdu pdu) = 0
replacing (Packet packet) = replaces packet

-- what goes first was not put
abbrev is_early : ServerLeg → Bool
is_early servers.Down = true
is_early servers.FirstDue = true
is_early servers.Up = false
is_early servers.Marked = false

-- what a proxy tells by
record View : Type 0 where
  lifetime : ℕ
  server : ServerLeg
  follows : Bool

abbrev view : OutProxy → View
view s = record {
  lifetime = s.config.lifetime;
  server = s.server;
  follows = is_successor s.channel;
}

-- so many bytes were allowed, and so often OUT_R1/A3 came
record AreTold (lifetime allowed replaced : ℕ) (v : View) : Type 0 where
  is : v.lifetime ≡ lifetime
  none : is_early v.server ≡ true → allowed ≡ 0
  within : allowed ≤ lifetime
  least : allowed ≤ (lifetime - 28) + 28 * replaced
  follows : v.follows ≡ true → 1 ≤ replaced

-- a row that takes a message adds so much to how often OUT_R1/A3 came
abbrev RowKeeps : ℕ → ℕ → ℕ → ℕ → Done → Type 0
RowKeeps lifetime allowed replaced one (t, Ok taken) =
    AreTold lifetime allowed (replaced + one) (view t)
RowKeeps lifetime allowed replaced one (t, Err why) = AreTold lifetime allowed replaced (view t)

abbrev Same : OutProxy → Pick → Type 0
Same s pick = IfSome pick (λ (next : OutProxy × Message). view next.0 ≡ view s)

-- ---- rows and puts that tell nothing

forwarded_same : (s : OutProxy) (r : Waiting × Bool) → view (forwarded_by s r).0 ≡ view s
forwarded_same s (w, true) = refl
forwarded_same s (w, false) = refl

forward_same : (s : OutProxy) (packet : Named) → view (forwarded s packet).0 ≡ view s
forward_same s packet =
    by_test (λ (row : Done). view row.0 ≡ view s) (is_client_marked s.client) (taken s)
    (forwarded_by s (waits.forwarded s.waiting packet)) (λ t. refl)
    (λ t. forwarded_same s (waits.forwarded s.waiting packet))

conn_c1_same : (channel : Channel) (s : OutProxy) (version window timeout : ℕ)
    → s.channel ≡ channel → view (conn_c1_by channel s version window timeout).0 ≡ view s
conn_c1_same channels.Unknown s version window timeout e = refl
conn_c1_same (channels.New connection cookie) s version window timeout e =
    forward_same (record s { channel = channels.Joined connection cookie })
    (named.ConnC2 version window timeout)
    ∙ by e
  where
    by : s.channel ≡ channels.New connection cookie
        → view (record s { channel = channels.Joined connection cookie }) ≡ view s
    by e =
        ap (λ (b : Bool).
        record { lifetime = s.config.lifetime; server = s.server; follows = b })
        (sym (ap is_successor e))
conn_c1_same (channels.Joined connection cookie) s version window timeout e = refl
conn_c1_same (channels.Successor connection predecessor cookie) s version window timeout e = refl

passed_same : (s : OutProxy) (test : Bool) (packet : Named)
    → view (if test then forwarded s packet else unexpected s).0 ≡ view s
passed_same s test packet =
    by_test (λ (row : Done). view row.0 ≡ view s) test (forwarded s packet) (unexpected s)
    (λ t. forward_same s packet) (λ t. refl)

os_same : (s : OutProxy) (packet : Named) → view (machine.on_os s packet).0 ≡ view s
os_same s (named.ConnC1 version window timeout) =
    conn_c1_same s.channel s version window timeout refl
os_same s (named.AckTo to received window of) = search rules
os_same s (named.InR1A3 to version window timeout) =
    passed_same s _ (named.InR1A4 0 version window timeout)
os_same s (named.InR2A3 to) = passed_same s _ (named.InR2A4 0)
os_same s (named.OutR1A1 to) = passed_same s _ (named.OutR1A2 0)
os_same s (named.OutR1A5 to version timeout) =
    passed_same s _ (named.OutR1A6 0 version timeout)
os_same s named.OutR1A9 = search rules
os_same s named.EndB1 = search rules
os_same s packet = refl

pdu_same : (s : OutProxy) (bytes : List ℕ) → view (on_pdu s bytes).0 ≡ view s
pdu_same s bytes = search rules

or_same : (s : OutProxy) (a b : Pick) → Same s a → Same s b → Same s (or_else a b)
or_same s None b h k = k
or_same s (Some pick) b h k = h

answer_same : (a : Answer) (s : OutProxy) → Same s (answer_by a s)
answer_same answers.Awaited s = tt
answer_same answers.EchoDue s = refl
answer_same answers.EchoPut s = tt
answer_same answers.EchoDrawn s = tt
answer_same answers.ResponseDue s = refl
answer_same answers.TimeoutDue s = refl
answer_same answers.Put s = tt

waiting_same : (s : OutProxy) (dues : List Due) → Same s (waiting_by s dues)
waiting_same s [] = tt
waiting_same s (due ∷ dues) = refl

pdus_same : (s : OutProxy) (pdus : List (List ℕ)) → Same s (pdu_by s pdus)
pdus_same s [] = tt
pdus_same s (bytes ∷ pdus) =
    by_test (Same s) (may_send s.window (length bytes)) _ None (λ t. refl) (λ t. tt)

mark_same : (s : OutProxy) → Same s (put_mark s)
mark_same s =
    or_same s (put_end s) (put_handover s)
    (by_test (Same s) (is_empty s.line.current.pdus && is_due s.end) _ None (λ t. refl) (λ t. tt))
    (by_test (Same s) (is_empty s.line.current.pdus && is_due s.handover) _ None (λ t. refl)
    (λ t. tt))

ping_same : (s : OutProxy) → Same s (put_ping s)
ping_same s =
    by_test (Same s) (is_ping_due s.ping && nat_le (s.pinged + 20) ping_room) _ None (λ t. refl)
    (λ t. tt)

co_same : (s : OutProxy) → Same s (next_co s)
co_same s =
    or_same s (put_answer s)
    (or_else (put_waiting s) (or_else (put_pdu s) (or_else (put_mark s) (put_ping s))))
    (answer_same s.answer s)
    (or_same s (put_waiting s) (or_else (put_pdu s) (or_else (put_mark s) (put_ping s)))
    (waiting_same s s.waiting.due)
    (or_same s (put_pdu s) (or_else (put_mark s) (put_ping s))
    (pdus_same s s.line.current.pdus)
    (or_same s (put_mark s) (put_ping s) (mark_same s) (ping_same s))))

module _ (lifetime allowed replaced : ℕ) where
  -- ---- packets from the client

  wider : (one : ℕ) (v : View) → AreTold lifetime allowed replaced v
      → AreTold lifetime allowed (replaced + one) v
  wider one v k = record {
    is = k.is;
    none = k.none;
    within = k.within;
    least = let least = k.least in omega (arith, least);
    follows = λ e. let once = k.follows e in omega (arith, once);
  }

  opened_keeps : (s : OutProxy) (channel : Channel) (window one : ℕ) (test : Bool)
      → (is_successor channel ≡ true → 1 ≤ one) → AreTold lifetime allowed replaced (view s)
      → RowKeeps lifetime allowed replaced one
      (if test then taken (opened s channel window) else unexpected s)
  opened_keeps s channel window one test follows k =
      by_test (RowKeeps lifetime allowed replaced one) test (taken (opened s channel window))
      (unexpected s) (λ t. record {
        is = k.is;
        none = k.none;
        within = k.within;
        least = let least = k.least in omega (arith, least);
        follows = λ e. let once = follows e in omega (arith, once);
      }) (λ t. k)

  co_keeps : (s : OutProxy) (count : Count) (packet : Named)
      → AreTold lifetime allowed replaced (view s)
      → RowKeeps lifetime allowed replaced (replaces packet) (machine.on_co s count packet)
  co_keeps s count (named.ConnA1 version connection cookie window) k =
      opened_keeps s (channels.New connection cookie) window 0 _ (λ e. absurd (cc)) k
  co_keeps s count (named.OutR1A3 version connection predecessor cookie window) k =
      opened_keeps s (channels.Successor connection predecessor cookie) window 1 _
      (λ e. omega arith) k
  co_keeps s count named.OutR2C1 k =
      by_test (RowKeeps lifetime allowed replaced 0) (is_second count && is_successor s.channel)
      (taken s) (unexpected s) (λ t. wider 0 (view s) k) (λ t. k)
  co_keeps s count packet k = k

  -- ---- puts to the server

  abbrev ToServer : Pick → Type 0
  ToServer pick =
      IfSome pick (λ (next : OutProxy × Message).
      AreTold lifetime (allowed + allowing next.1) replaced (view next.0))

  or_keeps : (a b : Pick) → ToServer a → ToServer b → ToServer (or_else a b)
  or_keeps None b h k = k
  or_keeps (Some pick) b h k = h

  first_early : (server : ServerLeg) → is_server_first server ≡ true → is_early server ≡ true
  first_early servers.Down e = refl
  first_early servers.FirstDue e = refl
  first_early servers.Up e = absurd (cc)
  first_early servers.Marked e = absurd (cc)

  up_first : (s : OutProxy) (told : ℕ) → told ≤ lifetime
      → told ≤ (lifetime - 28) + 28 * replaced → allowed ≡ 0
      → AreTold lifetime allowed replaced (view s)
      → AreTold lifetime (allowed + told) replaced (view (record s { server = servers.Up }))
  up_first s told within least none k = record {
    is = k.is;
    none = λ e. absurd (cc);
    within = omega (arith, within, none);
    least = omega (arith, least, none);
    follows = k.follows;
  }

  first_keeps : (s : OutProxy) (channel : Channel) → s.channel ≡ channel → allowed ≡ 0
      → AreTold lifetime allowed replaced (view s)
      → ToServer (first_by s (first_packet s channel))
  first_keeps s channels.Unknown e none k = tt
  first_keeps s (channels.New connection cookie) e none k =
      let is = k.is in
      up_first s (s.config.lifetime - 28) (omega (arith, is)) (omega (arith, is)) none k
  first_keeps s (channels.Joined connection cookie) e none k =
      let is = k.is in
      up_first s (s.config.lifetime - 28) (omega (arith, is)) (omega (arith, is)) none k
  first_keeps s (channels.Successor connection predecessor cookie) e none k =
      let is = k.is in
      let once = k.follows (ap is_successor e) in
      up_first s s.config.lifetime (omega (arith, is)) (omega (arith, is, once)) none k

  ack_keeps : (s : OutProxy) (cookie : Option Cookie) (ack : Option Ack)
      → AreTold lifetime allowed replaced (view s) → ToServer (ack_by s cookie ack)
  ack_keeps s None ack k = tt
  ack_keeps s (Some cookie) None k = tt
  ack_keeps s (Some cookie) (Some ack) k =
      subst (λ (x : ℕ). AreTold lifetime x replaced (view s)) (omega arith) k

  os_keeps : (s : OutProxy) → AreTold lifetime allowed replaced (view s) → ToServer (next_os s)
  os_keeps s k =
      or_keeps (put_first s) (put_ack s)
      (by_test ToServer (is_server_first s.server) (first_by s (first_packet s s.channel)) None
      (λ e. first_keeps s s.channel refl (k.none (first_early s.server e)) k) (λ e. tt))
      (ack_keeps s (joined s.channel) (ack_due s) k)

  -- ---- legs that come up

  down_early : (server : ServerLeg) → is_server_down server ≡ true → is_early server ≡ true
  down_early servers.Down e = refl
  down_early servers.FirstDue e = refl
  down_early servers.Up e = absurd (cc)
  down_early servers.Marked e = absurd (cc)

  server_up : (s : OutProxy) (leg : Leg) → wants s leg ≡ true
      → AreTold lifetime allowed replaced (view s)
      → AreTold lifetime allowed replaced (view (record s {
        server = servers.FirstDue;
        answer = answers.ResponseDue;
      }))
  server_up s leg e k =
      let both = and_parts (is_known s.channel) (is_server_down s.server)
      (and_parts (is_os s leg) (is_known s.channel && is_server_down s.server) e).1 in
      record {
        is = k.is;
        none = λ t. k.none (down_early s.server both.1);
        within = k.within;
        least = k.least;
        follows = k.follows;
      }

  up_holds : (s : OutProxy) (leg : Leg) → IsTrue (machine.rules.may_up s leg)
      → AreTold lifetime allowed replaced (view s)
      → AreTold lifetime allowed replaced (view (if is_co s leg
      then record s { client = clients.Up }
      else record s { server = servers.FirstDue; answer = answers.ResponseDue }))
  up_holds s leg may k =
      by_test (λ (t : OutProxy). AreTold lifetime allowed replaced (view t)) (is_co s leg)
      (record s { client = clients.Up })
      (record s { server = servers.FirstDue; answer = answers.ResponseDue })
      (λ e. k)
      (λ e. server_up s leg
      (wanted s.config.number (wants s leg) (is_co s leg) (is_client_down s.client) may e) k)

-- ---- moves

head_same : (s : OutProxy) (verdict : Result Asked HttpFault) → view (head_by s verdict).0 ≡ view s
head_same s (Err fault) = refl
head_same s (Ok request) = search rules

module _ (lifetime n : ℕ) where
  abbrev allowed_sum : List OnLeg → ℕ
  allowed_sum put = sum allowing (of_leg (os n) put)

  abbrev replaced_sum : List OnLeg → ℕ
  replaced_sum came = sum replacing (of_leg (co n) came)

  abbrev Holds : Passage OutProxy → Type 0
  Holds p = AreTold lifetime (allowed_sum p.put) (replaced_sum p.came) (view p.role)

  client_row : (p : Passage OutProxy) (leg : Leg) (m : Message) (row : Done) → leg ≡ co n
      → RowKeeps lifetime (allowed_sum p.put) (replaced_sum p.came) (replacing m) row
      → Holds (taken_by p leg m row)
  client_row p leg m (s, Ok taken) here k =
      subst (λ (x : ℕ). AreTold lifetime (allowed_sum p.put) x (view s))
      (sym (sum_here replacing leg (co n) p.came m here)) k
  client_row p leg m (s, Err why) here k = k

  server_row : (p : Passage OutProxy) (leg : Leg) (m : Message) (row : Done) → leg ≡ os n
      → view row.0 ≡ view p.role → Holds p → Holds (taken_by p leg m row)
  server_row p leg m (s, Ok taken) here same k =
      subst (λ (x : ℕ). AreTold lifetime (allowed_sum p.put) x (view s))
      (sym (sum_other replacing leg (co n) p.came m (ap (λ (l : Leg). same_leg l (co n)) here)))
      (subst (AreTold lifetime (allowed_sum p.put) (replaced_sum p.came)) (sym same) k)
  server_row p leg m (s, Err why) here same k =
      subst (AreTold lifetime (allowed_sum p.put) (replaced_sum p.came)) (sym same) k

  packet_holds : (p : Passage OutProxy) (leg : Leg) (count : Count) (packet : Named) → Law n p
      → Holds p → Holds (taken_by p leg (Packet packet) (machine.packet p.role leg count packet))
  packet_holds p leg count packet law k =
      by_test (λ (row : Done). Holds (taken_by p leg (Packet packet) row)) (is_co p.role leg)
      (machine.on_co p.role count packet)
      (if is_os p.role leg then machine.on_os p.role packet else unexpected p.role)
      (λ e. client_row p leg (Packet packet) (machine.on_co p.role count packet)
      (at_client n p leg law e)
      (co_keeps lifetime (allowed_sum p.put) (replaced_sum p.came) p.role count packet k))
      (λ e. by_test (λ (row : Done). Holds (taken_by p leg (Packet packet) row))
      (is_os p.role leg) (machine.on_os p.role packet) (unexpected p.role)
      (λ o. server_row p leg (Packet packet) (machine.on_os p.role packet)
      (at_server n p leg law o) (os_same p.role packet) k)
      (λ o. k))

  pdu_holds : (p : Passage OutProxy) (leg : Leg) (count : Count) (bytes : List ℕ) → Law n p
      → Holds p → Holds (taken_by p leg (Pdu bytes) (machine.pdu p.role leg count bytes))
  pdu_holds p leg count bytes law k =
      by_test (λ (row : Done). Holds (taken_by p leg (Pdu bytes) row)) (is_os p.role leg)
      (on_pdu p.role bytes) (unexpected p.role)
      (λ e. server_row p leg (Pdu bytes) (on_pdu p.role bytes) (at_server n p leg law e)
      (pdu_same p.role bytes) k)
      (λ e. k)

  to_client : (p : Passage OutProxy) (leg : Leg) (pick : Pick) → leg ≡ co n → Same p.role pick
      → Holds p → Holds (put_by p leg pick)
  to_client p leg None here same k = k
  to_client p leg (Some pick) here same k =
      subst (λ (x : ℕ). AreTold lifetime x (replaced_sum p.came) (view pick.0))
      (sym (sum_other allowing leg (os n) p.put pick.1 (ap (λ (l : Leg). same_leg l (os n)) here)))
      (subst (AreTold lifetime (allowed_sum p.put) (replaced_sum p.came)) (sym same) k)

  to_server : (p : Passage OutProxy) (leg : Leg) (pick : Pick) → leg ≡ os n
      → ToServer lifetime (allowed_sum p.put) (replaced_sum p.came) pick → Holds p
      → Holds (put_by p leg pick)
  to_server p leg None here next k = k
  to_server p leg (Some pick) here next k =
      subst (λ (x : ℕ). AreTold lifetime x (replaced_sum p.came) (view pick.0))
      (sym (sum_here allowing leg (os n) p.put pick.1 here)) next

  put_holds : (p : Passage OutProxy) (leg : Leg) → Law n p → Holds p
      → Holds (put_by p leg (putting.put p.role leg))
  put_holds p leg law k =
      by_test (λ (pick : Pick). Holds (put_by p leg pick)) (is_co p.role leg)
      (next_co p.role) (if is_os p.role leg then next_os p.role else None)
      (λ e. to_client p leg (next_co p.role) (at_client n p leg law e) (co_same p.role) k)
      (λ e. by_test (λ (pick : Pick). Holds (put_by p leg pick)) (is_os p.role leg)
      (next_os p.role) None
      (λ o. to_server p leg (next_os p.role) (at_server n p leg law o)
      (os_keeps lifetime (allowed_sum p.put) (replaced_sum p.came) p.role k) k)
      (λ o. k))

  -- ---- any move

  move_holds : (p : Passage OutProxy) (move : Move) → MayMove machine.rules p.role move → Law n p
      → Holds p → Holds (moved machine.rules p move)
  move_holds p (Up leg cookie) may law k =
      up_holds lifetime (allowed_sum p.put) (replaced_sum p.came) p.role leg may.1 k
  move_holds p (HeadCame leg text) may law k =
      subst (AreTold lifetime (allowed_sum p.put) (replaced_sum p.came))
      (sym (head_same p.role (request_verdict false text))) k
  move_holds p (PduCame leg count bytes) may law k = pdu_holds p leg count bytes law k
  move_holds p (PacketCame leg count packet) may law k = packet_holds p leg count packet law k
  move_holds p (Puts leg) may law k = put_holds p leg law k
  move_holds p (IsDrawn leg) may law k =
      by_test (λ (s : OutProxy). AreTold lifetime (allowed_sum p.put) (replaced_sum p.came)
      (view s)) (is_co p.role leg && is_echo_put p.role.answer)
      (record (p.role) { answer = answers.EchoDrawn }) p.role (λ t. k) (λ t. k)
  move_holds p (Marks leg) may law k =
      by_test (λ (s : OutProxy). AreTold lifetime (allowed_sum p.put) (replaced_sum p.came)
      (view s)) (is_co p.role leg) (record (p.role) { client = clients.Marked })
      (record (p.role) { server = servers.Marked }) (λ t. k)
      (λ t. record {
        is = k.is;
        none = λ e. absurd (cc);
        within = k.within;
        least = k.least;
        follows = k.follows;
      })
  move_holds p (Pings leg) may law k = k

  moves_hold : (p : Passage OutProxy) (moves : List Move) → AreAllowed machine.rules p moves
      → Law n p → Holds p → Holds (all_moved machine.rules p moves)
  moves_hold p [] allowed law k = k
  moves_hold p (move ∷ moves) allowed law k =
      moves_hold (moved machine.rules p move) moves allowed.1 (step n p move allowed.0 law)
      (move_holds p move allowed.0 law k)

pub told_once : (config : OutProxyConfig) (moves : List Move)
    → AreAllowed machine.rules (started (new_proxy config)) moves
    → (let p = all_moved machine.rules (started (new_proxy config)) moves in
    let allowed = sum allowing (of_leg (os config.number) p.put) in
    (allowed ≤ config.lifetime)
    × (allowed ≤ (config.lifetime - 28)
    + 28 * sum replacing (of_leg (co config.number) p.came)))
told_once config moves allowed =
    let k = moves_hold config.lifetime config.number (started (new_proxy config)) moves allowed
    (starts config) (record {
      is = refl;
      none = λ e. refl;
      within = omega arith;
      least = omega arith;
      follows = λ e. absurd (cc);
    }) in
    (k.within, k.least)

-- an out proxy puts no more to its client than came from the server, but for CONN/A3 and Pings,
-- whatever moves came
use Rattle.law_order.proofs.Vocabulary.{◌≡◌, ℕ, ◌+◌, ◌*◌, ◌≤◌, Bool, true, false, ◌&&◌, ◌||◌, IsTrue, nat_le, if◌then◌else◌, List, [], ◌∷◌, ◌++◌, length, Some, None, Ok, Err, arith, refl, sym, ap, ◌∙◌, subst, Result, and_parts}
use Rattle.rh_outproxy.specs.declared.state.Answer.TheVariants as answers
use Rattle.rh_outproxy.specs.declared.state.ClientLeg.TheVariants as clients
use Rattle.rh_outproxy.specs.declared.state.ServerLeg.TheVariants as servers
use Rattle.rh_outproxy.specs.Machine as machine
use Rattle.rh_outproxy.specs.Putting as putting
use Rattle.law_moves.proofs.Vocabulary.{by_test, Named, HttpFault, greatest_echo, Asked, request_verdict, Leg, Frames, PassedOver, Count, HeadRefused, HeadTaken, Message, Text, Pdu, Packet, same_leg, Move, Up, HeadCame, PduCame, PacketCame, Puts, IsDrawn, Marks, Pings, MayMove, OnLeg, Passage, AreAllowed, all_moved, moved, put_by, started, taken_by, of_leg}
use Rattle.law_moves.proofs.Lemmas.{leg_is, other_more as of_other, leg_more as one_more}
use Rattle.law_node_history.proofs.Lemmas.{same_itself}
use Rattle.law_role_outproxy.proofs.Vocabulary.{Answer, OutProxyConfig, Due, OutProxy, is_client_down, is_echo_put, is_known, is_server_down, new_proxy, Done, is_co, is_os, unexpected, head_by, wants, on_pdu, Pick}
use Rattle.law_role_outproxy.proofs.OrderKept.{starts, step}
use Rattle.law_role_outproxy.proofs.ProxyLaw.{Law}
use Rattle.law_role_outproxy.proofs.Counted.OutProxyOwes.{os_at as os, co_at as co, is_response_due}
use Rattle.law_world_bodies.proofs.OutBooks.{Books, RowKeeps, asks, co_keeps, goes_on, is_opening, is_risen, is_timeout_due, os_keeps, pdu_keeps, same}
use Rattle.law_world_bodies.proofs.OutPuts.{ToClient, ToServer, behind, client_keeps, server_keeps}

-- ---- sums over what stands on a leg

abbrev pub sum : (Message → ℕ) → List Message → ℕ
sum f [] = 0
sum f (m ∷ ms) = f m + sum f ms

pub sum_push : (f : Message → ℕ) (ms : List Message) (m : Message)
    → sum f (ms ++ m ∷ []) ≡ sum f ms + f m
sum_push f [] m = omega arith
sum_push f (x ∷ ms) m = let rest = sum_push f ms m in omega (arith, rest)

-- what goes on to the client of a message from the server
abbrev pub passes : Message → ℕ
passes (Text text) = 0
passes (Pdu pdu) = length pdu
passes (Packet packet) = goes_on packet

-- how often CONN/A1 comes with a message from the client
abbrev pub asking : Message → ℕ
asking (Text text) = 0
asking (Pdu pdu) = 0
asking (Packet packet) = asks packet

pub sum_here : (f : Message → ℕ) (leg other : Leg) (log : List OnLeg) (m : Message) → leg ≡ other
    → sum f (of_leg other (log ++ (leg, m) ∷ [])) ≡ sum f (of_leg other log) + f m
sum_here f leg other log m e =
    ap (sum f) (one_more other log (leg, m)
    ∙ ap (λ (t : Bool). of_leg other log ++ (if t then m ∷ [] else []))
    (ap (λ (l : Leg). same_leg l other) e ∙ same_itself other))
    ∙ sum_push f (of_leg other log) m

pub sum_other : (f : Message → ℕ) (leg other : Leg) (log : List OnLeg) (m : Message)
    → same_leg leg other ≡ false
    → sum f (of_leg other (log ++ (leg, m) ∷ [])) ≡ sum f (of_leg other log)
sum_other f leg other log m e = ap (sum f) (of_other other log (leg, m) e)

-- ---- moves

module _ (n : ℕ) where
  abbrev put_sum : List OnLeg → ℕ
  put_sum put = sum behind (of_leg (co n) put)

  abbrev came_sum : List OnLeg → ℕ
  came_sum came = sum passes (of_leg (os n) came)

  abbrev asked_sum : List OnLeg → ℕ
  asked_sum came = sum asking (of_leg (co n) came)

  abbrev IsBooked : List OnLeg → List OnLeg → OutProxy → Type 0
  IsBooked put came s = Books (put_sum put) (came_sum came) (asked_sum came) s

  abbrev Holds : Passage OutProxy → Type 0
  Holds p = IsBooked p.put p.came p.role

  -- by equal sums
  by_sums : (put came asked next behind_came behind_asked : ℕ) (s : OutProxy)
      → Books put came asked s → put ≡ next → came ≡ behind_came → asked ≡ behind_asked
      → Books next behind_came behind_asked s
  by_sums put came asked next behind_came behind_asked s k e f g =
      subst (λ (x : ℕ). Books x behind_came behind_asked s) e
      (subst (λ (x : ℕ). Books put x behind_asked s) f
      (subst (λ (x : ℕ). Books put came x s) g k))

  plus_none : (k : ℕ) → k + 0 ≡ k
  plus_none k = omega arith

  -- ---- rows

  -- a message from the client
  client_row : (p : Passage OutProxy) (leg : Leg) (m : Message) (row : Done) → leg ≡ co n
      → RowKeeps (put_sum p.put) (came_sum p.came) (asked_sum p.came) 0 (asking m) row
      → Holds (taken_by p leg m row)
  client_row p leg m (s, Ok taken) here k =
      by_sums (put_sum p.put) (came_sum p.came + 0) (asked_sum p.came + asking m)
      (put_sum p.put) (came_sum (p.came ++ (leg, m) ∷ [])) (asked_sum (p.came ++ (leg, m) ∷ [])) s
      k refl
      (plus_none (came_sum p.came)
      ∙ sym (sum_other passes leg (os n) p.came m
      (ap (λ (l : Leg). same_leg l (os n)) here)))
      (sym (sum_here asking leg (co n) p.came m here))
  client_row p leg m (s, Err why) here k = k

  -- a message from the server
  server_row : (p : Passage OutProxy) (leg : Leg) (m : Message) (row : Done) → leg ≡ os n
      → RowKeeps (put_sum p.put) (came_sum p.came) (asked_sum p.came) (passes m) 0 row
      → Holds (taken_by p leg m row)
  server_row p leg m (s, Ok taken) here k =
      by_sums (put_sum p.put) (came_sum p.came + passes m) (asked_sum p.came + 0)
      (put_sum p.put) (came_sum (p.came ++ (leg, m) ∷ [])) (asked_sum (p.came ++ (leg, m) ∷ [])) s
      k refl (sym (sum_here passes leg (os n) p.came m here))
      (plus_none (asked_sum p.came)
      ∙ sym (sum_other asking leg (co n) p.came m
      (ap (λ (l : Leg). same_leg l (co n)) here)))
  server_row p leg m (s, Err why) here k = k

  -- the legs of the proxy have its number
  pub at_client : (p : Passage OutProxy) (leg : Leg) → Law n p → is_co p.role leg ≡ true
      → leg ≡ co n
  at_client p leg law e = sym (leg_is (co p.role.config.number) leg e) ∙ ap co law.number

  pub at_server : (p : Passage OutProxy) (leg : Leg) → Law n p → is_os p.role leg ≡ true
      → leg ≡ os n
  at_server p leg law e = sym (leg_is (os p.role.config.number) leg e) ∙ ap os law.number

  packet_holds : (p : Passage OutProxy) (leg : Leg) (count : Count) (packet : Named) → Law n p
      → Holds p → Holds (taken_by p leg (Packet packet) (machine.packet p.role leg count packet))
  packet_holds p leg count packet law k =
      by_test (λ (row : Done). Holds (taken_by p leg (Packet packet) row)) (is_co p.role leg)
      (machine.on_co p.role count packet)
      (if is_os p.role leg then machine.on_os p.role packet else unexpected p.role)
      (λ e. client_row p leg (Packet packet) (machine.on_co p.role count packet)
      (at_client p leg law e)
      (co_keeps (put_sum p.put) (came_sum p.came) (asked_sum p.came) p.role count packet k))
      (λ e. by_test (λ (row : Done). Holds (taken_by p leg (Packet packet) row))
      (is_os p.role leg) (machine.on_os p.role packet) (unexpected p.role)
      (λ o. server_row p leg (Packet packet) (machine.on_os p.role packet)
      (at_server p leg law o)
      (os_keeps (put_sum p.put) (came_sum p.came) (asked_sum p.came) p.role packet k))
      (λ o. k))

  pdu_holds : (p : Passage OutProxy) (leg : Leg) (count : Count) (bytes : List ℕ) → Law n p
      → Holds p → Holds (taken_by p leg (Pdu bytes) (machine.pdu p.role leg count bytes))
  pdu_holds p leg count bytes law k =
      by_test (λ (row : Done). Holds (taken_by p leg (Pdu bytes) row)) (is_os p.role leg)
      (on_pdu p.role bytes) (unexpected p.role)
      (λ e. server_row p leg (Pdu bytes) (on_pdu p.role bytes) (at_server p leg law e)
      (pdu_keeps (put_sum p.put) (came_sum p.came) (asked_sum p.came) p.role bytes k))
      (λ e. k)

  -- ---- puts

  to_client : (p : Passage OutProxy) (leg : Leg) (pick : Pick) → leg ≡ co n
      → ToClient (put_sum p.put) (came_sum p.came) (asked_sum p.came) pick → Holds p
      → Holds (put_by p leg pick)
  to_client p leg None here next k = k
  to_client p leg (Some pick) here next k =
      subst (λ (x : ℕ). Books x (came_sum p.came) (asked_sum p.came) pick.0)
      (sym (sum_here behind leg (co n) p.put pick.1 here)) next

  to_server : (p : Passage OutProxy) (leg : Leg) (pick : Pick) → same_leg leg (co n) ≡ false
      → ToServer (put_sum p.put) (came_sum p.came) (asked_sum p.came) pick → Holds p
      → Holds (put_by p leg pick)
  to_server p leg None here next k = k
  to_server p leg (Some pick) here next k =
      subst (λ (x : ℕ). Books x (came_sum p.came) (asked_sum p.came) pick.0)
      (sym (sum_other behind leg (co n) p.put pick.1 here)) next

  put_holds : (p : Passage OutProxy) (leg : Leg) → Law n p → Holds p
      → Holds (put_by p leg (putting.put p.role leg))
  put_holds p leg law k =
      by_test (λ (pick : Pick). Holds (put_by p leg pick)) (is_co p.role leg)
      (putting.next_co p.role) (if is_os p.role leg then putting.next_os p.role else None)
      (λ e. to_client p leg (putting.next_co p.role) (at_client p leg law e)
      (client_keeps (put_sum p.put) (came_sum p.came) (asked_sum p.came) p.role k) k)
      (λ e. by_test (λ (pick : Pick). Holds (put_by p leg pick)) (is_os p.role leg)
      (putting.next_os p.role) None
      (λ o. to_server p leg (putting.next_os p.role)
      (ap (λ (l : Leg). same_leg l (co n)) (at_server p leg law o))
      (server_keeps (put_sum p.put) (came_sum p.came) (asked_sum p.came) p.role k) k)
      (λ o. k))

  -- ---- legs that come up

  pub wanted : (a b c : Bool) → IsTrue (a || (b && c)) → b ≡ false → a ≡ true
  wanted true b c may off = refl
  wanted false true c may off = absurd (cc)
  wanted false false c may off = absurd (cc)

  or_first : (a b : Bool) → a ≡ true → (a || b) ≡ true
  or_first true b e = refl
  or_first false b e = absurd (cc)

  -- the server's leg comes up once, and then the response is due
  server_up : (put came asked : ℕ) (s : OutProxy) (leg : Leg) → wants s leg ≡ true
      → Books put came asked s
      → Books put came asked (record s {
        server = servers.FirstDue;
        answer = answers.ResponseDue;
      })
  server_up put came asked s leg e k =
      let both = and_parts (is_known s.channel) (is_server_down s.server)
      (and_parts (is_os s leg) (is_known s.channel && is_server_down s.server) e).1 in
      record {
        within = k.within;
        early = λ t. k.early (or_first (is_server_down s.server) _ both.1);
        new = k.new;
        known = λ t. both.0;
        timeout = λ t. absurd (cc);
        risen = λ t. refl;
        room = k.room;
        single = k.single;
      }

  up_holds : (put came asked : ℕ) (s : OutProxy) (leg : Leg) → IsTrue (machine.rules.may_up s leg)
      → Books put came asked s
      → Books put came asked (if is_co s leg then record s { client = clients.Up }
      else record s { server = servers.FirstDue; answer = answers.ResponseDue })
  up_holds put came asked s leg may k =
      by_test (Books put came asked) (is_co s leg) (record s { client = clients.Up })
      (record s { server = servers.FirstDue; answer = answers.ResponseDue })
      (λ e. same put came asked s (record s { client = clients.Up }) k (omega arith) refl refl refl
      refl k.single)
      (λ e. server_up put came asked s leg
      (wanted (wants s leg) (is_co s leg) (is_client_down s.client) may e) k)

  -- an echo is asked for, or was answered
  echo : (put came asked : ℕ) (s : OutProxy) (answer : Answer) → is_risen answer ≡ false
      → is_response_due answer ≡ false → is_timeout_due answer ≡ false
      → is_opening answer ≡ false → Books put came asked s
      → Books put came asked (record s { answer = answer })
  echo put came asked s answer risen response timeout opening k = record {
    within = k.within;
    early = λ t. k.early (or_first (is_server_down s.server) (is_opening s.answer)
        (or_off (is_server_down s.server) (is_opening answer) opening t));
    new = k.new;
    known = λ t. absurd (off (is_response_due answer) response t);
    timeout = λ t. absurd (off (is_timeout_due answer) timeout t);
    risen = λ t. absurd (off (is_risen answer) risen t);
    room = k.room;
    single = k.single;
  }
    where
      off : (b : Bool) → b ≡ false → b ≡ true → ⊥
      off true e t = absurd (cc)
      off false e t = absurd (cc)

      or_off : (a b : Bool) → b ≡ false → (a || b) ≡ true → a ≡ true
      or_off true b e t = refl
      or_off false true e t = absurd (cc)
      or_off false false e t = absurd (cc)

  head_holds : (put came asked : ℕ) (s : OutProxy) (verdict : Result Asked HttpFault)
      → Books put came asked s → Books put came asked (head_by s verdict).0
  head_holds put came asked s (Err fault) k = k
  head_holds put came asked s (Ok request) k =
      by_test (λ (r : OutProxy × Result HeadTaken HeadRefused). Books put came asked r.0)
      (nat_le request.length greatest_echo) (
        record s { answer = answers.EchoDue },
        Ok (record { behind = PassedOver; length = request.length }),
      ) (
        record s { request = Some request },
        Ok (record { behind = Frames; length = request.length }),
      )
      (λ t. echo put came asked s answers.EchoDue refl refl refl refl k)
      (λ t. same put came asked s (record s { request = Some request }) k (omega arith) refl refl
      refl refl k.single)

  -- ---- any move

  move_holds : (p : Passage OutProxy) (move : Move) → MayMove machine.rules p.role move → Law n p
      → Holds p → Holds (moved machine.rules p move)
  move_holds p (Up leg cookie) may law k =
      up_holds (put_sum p.put) (came_sum p.came) (asked_sum p.came) p.role leg may.1 k
  move_holds p (HeadCame leg text) may law k =
      head_holds (put_sum p.put) (came_sum p.came) (asked_sum p.came) p.role
      (request_verdict false text) k
  move_holds p (PduCame leg count bytes) may law k = pdu_holds p leg count bytes law k
  move_holds p (PacketCame leg count packet) may law k = packet_holds p leg count packet law k
  move_holds p (Puts leg) may law k = put_holds p leg law k
  move_holds p (IsDrawn leg) may law k =
      by_test (IsBooked p.put p.came) (is_co p.role leg && is_echo_put p.role.answer)
      (record (p.role) { answer = answers.EchoDrawn }) p.role
      (λ t. echo (put_sum p.put) (came_sum p.came) (asked_sum p.came) p.role answers.EchoDrawn refl
      refl refl refl k) (λ t. k)
  move_holds p (Marks leg) may law k =
      by_test (IsBooked p.put p.came) (is_co p.role leg)
      (record (p.role) { client = clients.Marked }) (record (p.role) { server = servers.Marked })
      (λ t. same (put_sum p.put) (came_sum p.came) (asked_sum p.came) p.role
      (record (p.role) { client = clients.Marked }) k (omega arith) refl refl refl refl k.single)
      (λ t. record {
        within = k.within;
        early = λ e.
            k.early (or_second (is_server_down p.role.server) (is_opening p.role.answer) e);
        new = k.new;
        known = k.known;
        timeout = k.timeout;
        risen = λ e. refl;
        room = k.room;
        single = k.single;
      })
    where
      or_second : (a b : Bool) → b ≡ true → (a || b) ≡ true
      or_second true b e = refl
      or_second false b e = e
  move_holds p (Pings leg) may law k =
      same (put_sum p.put) (came_sum p.came) (asked_sum p.came) p.role
      (record (p.role) { ping = Due }) k (omega arith) refl refl refl refl k.single

  moves_hold : (p : Passage OutProxy) (moves : List Move) → AreAllowed machine.rules p moves
      → Law n p → Holds p → Holds (all_moved machine.rules p moves)
  moves_hold p [] allowed law k = k
  moves_hold p (move ∷ moves) allowed law k =
      moves_hold (moved machine.rules p move) moves allowed.1 (step n p move allowed.0 law)
      (move_holds p move allowed.0 law k)

-- what it put to its client is no more than came from the server, and CONN/A3, where CONN/A1 came,
-- and Pings
pub books_hold : (config : OutProxyConfig) (moves : List Move)
    → AreAllowed machine.rules (started (new_proxy config)) moves
    → (let p = all_moved machine.rules (started (new_proxy config)) moves in
    sum behind (of_leg (co config.number) p.put)
    ≤ sum passes (of_leg (os config.number) p.came)
    + (28 * sum asking (of_leg (co config.number) p.came) + putting.ping_room))
books_hold config moves allowed =
    let k = moves_hold config.number (started (new_proxy config)) moves allowed (starts config)
    (record {
      within = omega arith;
      early = λ e. omega arith;
      new = λ e. absurd (cc);
      known = λ e. absurd (cc);
      timeout = λ e. absurd (cc);
      risen = λ e. absurd (cc);
      room = omega arith;
      single = refl;
    }) in
    let within = k.within in
    let room = k.room in
    omega (arith, within, room)

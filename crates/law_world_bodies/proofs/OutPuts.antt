-- what an out proxy puts to its client it held, or CONN/A1 came for it, or it is a Ping
use Rattle.law_order.proofs.Vocabulary.{◌≡◌, ℕ, ◌+◌, ◌*◌, ◌≤◌, Bool, true, false, ◌&&◌, ◌||◌, nat_le, List, [], ◌∷◌, length, Some, None, arith, refl, sym, ap, ◌∙◌, subst, and_parts, nat_tests, IfSome, Option}
use Rattle.rh_line.specs.Lines.{taken}
use Rattle.rh_outproxy.specs.declared.state.Answer.TheVariants as answers
use Rattle.rh_outproxy.specs.declared.state.Channel.TheVariants as channels
use Rattle.rh_outproxy.specs.declared.state.Mark.TheVariants as marks
use Rattle.rh_outproxy.specs.declared.state.ServerLeg.TheVariants as servers
use Rattle.rh_outproxy.specs.Putting as putting
use Rattle.law_moves.proofs.Vocabulary.{after_sent, may_send, Ack, by_test, Cookie, Named, Line, after_take, after_told, is_empty, moved_on, released, total, Current, Due, Message, Text, Pdu, Packet, with_due}
use Rattle.law_node_causes.proofs.Sorts.{or_true}
use Rattle.law_role_outproxy.proofs.Vocabulary.{Answer, Channel, Mark, OutProxy, is_due, is_known, is_ping_due, is_server_down, is_server_first, joined, first_packet, ack_due, Pick, or_else, behind_response}
use Rattle.law_role_outproxy.proofs.Counted.OutProxyOwes.{is_response_due}
use Rattle.law_world_bodies.proofs.Sizes.{size}
use Rattle.law_world_bodies.proofs.OutBooks.{Books, due_sizes, held, is_early, is_new, is_risen, is_timeout_due, mark_size, moves_on, same}

-- the bytes of a message behind the head
abbrev pub behind : Message → ℕ
behind (Text text) = 0
behind (Pdu pdu) = size (Pdu pdu)
behind (Packet packet) = size (Packet packet)

not_true : (b : Bool) → b ≡ false → b ≡ true → ⊥
not_true true e t = absurd (cc)
not_true false e t = absurd (cc)

or_false : (b : Bool) → (b || false) ≡ true → b ≡ true
or_false true e = refl
or_false false e = absurd (cc)

module _ (put came asked : ℕ) where
  -- ---- to the client

  abbrev pub ToClient : Pick → Type 0
  ToClient pick =
      IfSome pick (λ (next : OutProxy × Message). Books (put + behind next.1) came asked next.0)

  or_keeps : (a b : Pick) → ToClient a → ToClient b → ToClient (or_else a b)
  or_keeps None b h k = k
  or_keeps (Some pick) b h k = h

  -- a head, or CONN/A3, is put: the answer goes on
  answered : (s : OutProxy) (answer : Answer) (add : ℕ) → Books put came asked s
      → put + add + held s ≤ came + (28 * asked + s.pinged)
      → (is_early answer s.server ≡ true → put + add + held s ≤ came + s.pinged)
      → is_response_due answer ≡ false → (is_timeout_due answer ≡ true → 1 ≤ asked)
      → (is_risen answer ≡ true → is_server_down s.server ≡ false)
      → Books (put + add) came asked (record s { answer = answer })
  answered s answer add k within early response timeout risen = record {
    within = within;
    early = early;
    new = k.new;
    known = λ e. absurd (not_true (is_response_due answer) response e);
    timeout = timeout;
    risen = risen;
    room = k.room;
    single = k.single;
  }

  none_more : (s : OutProxy) → Books put came asked s
      → put + 0 + held s ≤ came + (28 * asked + s.pinged)
  none_more s k = let within = k.within in omega (arith, within)

  response_keeps : (s : OutProxy) (channel : Channel) → s.channel ≡ channel
      → s.answer ≡ answers.ResponseDue → Books put came asked s
      → Books (put + 0) came asked (record s { answer = behind_response channel })
  response_keeps s channels.Unknown e due k =
      absurd (let known : is_known channels.Unknown ≡ true =
      ap is_known (sym e) ∙ k.known (ap is_response_due due) in cc)
  response_keeps s (channels.New connection cookie) e due k =
      answered s answers.TimeoutDue 0 k (none_more s k)
      (λ t. let early = k.early (ap (λ (a : Answer). is_early a s.server) due
      ∙ or_true (is_server_down s.server)) in omega (arith, early))
      refl (λ t. k.new (ap is_new e)) (λ t. k.risen (ap is_risen due))
  response_keeps s (channels.Joined connection cookie) e due k =
      answered s answers.TimeoutDue 0 k (none_more s k)
      (λ t. let early = k.early (ap (λ (a : Answer). is_early a s.server) due
      ∙ or_true (is_server_down s.server)) in omega (arith, early))
      refl (λ t. k.new (ap is_new e)) (λ t. k.risen (ap is_risen due))
  response_keeps s (channels.Successor connection predecessor cookie) e due k =
      answered s answers.Put 0 k (none_more s k)
      (λ t. absurd (not_true (is_server_down s.server) (k.risen (ap is_risen due))
      (or_false (is_server_down s.server) t)))
      refl (λ t. absurd (cc)) (λ t. k.risen (ap is_risen due))

  answer_keeps : (answer : Answer) (s : OutProxy) → s.answer ≡ answer → Books put came asked s
      → ToClient (putting.answer_by answer s)
  answer_keeps answers.Awaited s e k = tt
  answer_keeps answers.EchoDue s e k =
      answered s answers.EchoPut 0 k (none_more s k)
      (λ t. let early = k.early (ap (λ (a : Answer). is_early a s.server) e ∙ t) in
      omega (arith, early))
      refl (λ t. absurd (cc)) (λ t. absurd (cc))
  answer_keeps answers.EchoPut s e k = tt
  answer_keeps answers.EchoDrawn s e k = tt
  answer_keeps answers.ResponseDue s e k = response_keeps s s.channel refl e k
  answer_keeps answers.TimeoutDue s e k =
      let early = k.early (ap (λ (a : Answer). is_early a s.server) e
      ∙ or_true (is_server_down s.server)) in
      let one = k.timeout (ap is_timeout_due e) in
      answered s answers.Put 28 k (omega (arith, early, one))
      (λ t. absurd (not_true (is_server_down s.server) (k.risen (ap is_risen e))
      (or_false (is_server_down s.server) t)))
      refl (λ t. absurd (cc)) (λ t. k.risen (ap is_risen e))
  answer_keeps answers.Put s e k = tt

  waiting_keeps : (s : OutProxy) (dues : List Due) → s.waiting.due ≡ dues
      → Books put came asked s → ToClient (putting.waiting_by s dues)
  waiting_keeps s [] e k = tt
  waiting_keeps s (due ∷ dues) e k =
      let sizes : due_sizes s.waiting.due ≡ size (Packet due.packet) + due_sizes dues =
      ap due_sizes e in
      moves_on put (put + size (Packet due.packet)) came asked s
      (record s { waiting = with_due s.waiting dues }) k (omega (arith, sizes)) refl refl refl refl
      k.single

  -- what is left of a line with one channel, where the first PDU is taken
  left : (line : Line) (pdu : List ℕ) (pdus : List (List ℕ)) → line.finished ≡ false
      → ((taken (pdu ∷ pdus) line).current.pdus ≡ pdus)
      × ((taken (pdu ∷ pdus) line).finished ≡ false)
  left line pdu pdus single =
      let now : Line = record line { current = released (pdu ∷ pdus) line.current } in
      by_test (λ (l : Line). (l.current.pdus ≡ pdus) × (l.finished ≡ false))
      (line.finished && is_empty pdus) (moved_on now) now
      (λ t. absurd (not_true line.finished single
      (and_parts line.finished (is_empty pdus) t).0))
      (λ t. (refl, single))

  pdu_keeps : (s : OutProxy) (pdus : List (List ℕ)) → s.line.current.pdus ≡ pdus
      → Books put came asked s → ToClient (putting.pdu_by s pdus)
  pdu_keeps s [] e k = tt
  pdu_keeps s (pdu ∷ pdus) e k =
      let t : OutProxy = record s {
        line = after_take s.line;
        window = after_sent s.window (length pdu);
      } in
      let behind_it = subst (λ (x : List (List ℕ)).
      ((taken x s.line).current.pdus ≡ pdus) × ((taken x s.line).finished ≡ false)) (sym e)
      (left s.line pdu pdus k.single) in
      let before : total s.line.current.pdus ≡ length pdu + total pdus =
      ap (λ (x : List (List ℕ)). total x) e in
      let after : total t.line.current.pdus ≡ total pdus =
      ap (λ (x : List (List ℕ)). total x) behind_it.0 in
      by_test ToClient (may_send s.window (length pdu)) (Some (t, Pdu pdu)) None
      (λ u. moves_on put (put + length pdu) came asked s t k (omega (arith, before, after)) refl
      refl
      refl refl behind_it.1) (λ u. tt)

  due_mark : (mark : Mark) → is_due mark ≡ true → mark_size mark ≡ 24
  due_mark marks.Awaited e = absurd (cc)
  due_mark marks.Came e = refl
  due_mark marks.Put e = absurd (cc)

  mark_keeps : (s : OutProxy) → Books put came asked s → ToClient (putting.put_mark s)
  mark_keeps s k =
      let empty = is_empty s.line.current.pdus in
      or_keeps (putting.put_end s) (putting.put_handover s)
      (by_test ToClient (empty && is_due s.end) _ None
      (λ t. let mark = due_mark s.end (and_parts empty (is_due s.end) t).1 in
      moves_on put (put + 24) came asked s (record s { end = marks.Put }) k (omega (arith, mark))
      refl refl refl refl k.single) (λ t. tt))
      (by_test ToClient (empty && is_due s.handover) _ None
      (λ t. let mark = due_mark s.handover (and_parts empty (is_due s.handover) t).1 in
      moves_on put (put + 24) came asked s (record s { handover = marks.Put }) k
      (omega (arith, mark)) refl refl refl refl k.single) (λ t. tt))

  ping_keeps : (s : OutProxy) → Books put came asked s → ToClient (putting.put_ping s)
  ping_keeps s k =
      by_test ToClient (is_ping_due s.ping && nat_le (s.pinged + 20) putting.ping_room) _ None
      (λ t. record {
        within = let within = k.within in omega (arith, within);
        early = λ e. let early = k.early e in omega (arith, early);
        new = k.new;
        known = k.known;
        timeout = k.timeout;
        risen = k.risen;
        room =
            fits s.pinged
            (and_parts (is_ping_due s.ping) (nat_le (s.pinged + 20) putting.ping_room) t).1;
        single = k.single;
      }) (λ t. tt)
    where
      fits : (n : ℕ) → nat_le (n + 20) 65536 ≡ true → n + 20 ≤ 65536
      fits n e = grind (arith, nat_tests)

  pub client_keeps : (s : OutProxy) → Books put came asked s → ToClient (putting.next_co s)
  client_keeps s k =
      or_keeps (putting.put_answer s) _ (answer_keeps s.answer s refl k)
      (or_keeps (putting.put_waiting s) _ (waiting_keeps s s.waiting.due refl k)
      (or_keeps (putting.put_pdu s) _ (pdu_keeps s s.line.current.pdus refl k)
      (or_keeps (putting.put_mark s) (putting.put_ping s) (mark_keeps s k) (ping_keeps s k))))

  -- ---- to the server

  abbrev pub ToServer : Pick → Type 0
  ToServer pick = IfSome pick (λ (next : OutProxy × Message). Books put came asked next.0)

  first_up : (s : OutProxy) → is_server_first s.server ≡ true → Books put came asked s
      → Books put came asked (record s { server = servers.Up })
  first_up s first k = record {
    within = k.within;
    early = λ e. k.early (ap (λ (b : Bool). is_server_down s.server || b) e
        ∙ or_true (is_server_down s.server));
    new = k.new;
    known = k.known;
    timeout = k.timeout;
    risen = λ e. refl;
    room = k.room;
    single = k.single;
  }

  first_keeps : (s : OutProxy) (packet : Option Named) → is_server_first s.server ≡ true
      → Books put came asked s → ToServer (putting.first_by s packet)
  first_keeps s None first k = tt
  first_keeps s (Some packet) first k = first_up s first k

  ack_keeps : (s : OutProxy) (cookie : Option Cookie) (ack : Option Ack)
      → Books put came asked s → ToServer (putting.ack_by s cookie ack)
  ack_keeps s None ack k = tt
  ack_keeps s (Some cookie) None k = tt
  ack_keeps s (Some cookie) (Some ack) k =
      same put came asked s (record s { line = after_told s.line Current ack }) k (omega arith)
      refl refl refl refl k.single

  pub server_keeps : (s : OutProxy) → Books put came asked s → ToServer (putting.next_os s)
  server_keeps s k = or_server (putting.put_first s) (putting.put_ack s)
      (by_test ToServer (is_server_first s.server) (putting.first_by s (first_packet s s.channel))
      None (λ t. first_keeps s (first_packet s s.channel) t k) (λ t. tt))
      (ack_keeps s (joined s.channel) (ack_due s) k)
    where
      or_server : (a b : Pick) → ToServer a → ToServer b → ToServer (or_else a b)
      or_server None b h m = m
      or_server (Some pick) b h m = h

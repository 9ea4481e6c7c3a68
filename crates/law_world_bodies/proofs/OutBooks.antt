-- the books of an out proxy: what it put to its client, and what it holds for it, came from the
-- server; but for CONN/A3, where CONN/A1 came, and for Pings
use Rattle.law_order.proofs.Vocabulary.{◌≡◌, ℕ, ◌+◌, ◌*◌, ◌≤◌, ◌==◌, Bool, true, false, ◌&&◌, ◌||◌, nat_lt, is_ok, if◌then◌else◌, List, [], ◌∷◌, ◌++◌, length, Some, None, Ok, Err, arith, refl, sym, ap, ◌∙◌, subst, list_any, Option, Result}
use Rattle.rh_sig.specs.declared.named.Named.TheVariants as named
use Rattle.rh_line.specs.declared.line_fault.LineFault.TheVariants as line_fault
use Rattle.rh_shell.specs.declared.answers.Refused.TheVariants as refused
use Rattle.rh_shell.specs.Waiting as waits
use Rattle.rh_outproxy.specs.Acknowledging.{ack_by}
use Rattle.rh_outproxy.specs.declared.state.Answer.TheVariants as answers
use Rattle.rh_outproxy.specs.declared.state.Channel.TheVariants as channels
use Rattle.rh_outproxy.specs.declared.state.Mark.TheVariants as marks
use Rattle.rh_outproxy.specs.Putting as putting
use Rattle.law_moves.proofs.Vocabulary.{ack_verdict, after_acked, by_test, Cookie, TO_OUT_PROXY, Named, total_push, Incoming, Line, after_admit, channel_verdict, total, LineFault, Current, Count, Due, Forwarded, Row, Packet, Waiting, better, edge_of, merged, takes}
use Rattle.law_role_outproxy.proofs.Vocabulary.{Answer, Channel, Mark, ServerLeg, OutProxy, is_client_marked, is_successor, is_known, is_server_down, joined, Done, is_second, refuse, same_cookie, forwarded, forwarded_by, is_carrying, passed_on, taken, takes_pdus, unexpected, conn_c1_by, opened, ack_row, acked, admitted, line_row, on_ack, on_ack_to, on_pdu, on_co, on_os}
use Rattle.law_role_outproxy.proofs.Counted.OutProxyOwes.{is_response_due}
use Rattle.law_world_bodies.proofs.Sizes.{size}

-- ---- what is held

abbrev pub due_sizes : List Due → ℕ
due_sizes [] = 0
due_sizes (due ∷ dues) = size (Packet due.packet) + due_sizes dues

-- END/B2 or OUT_R1/A10 that is to be put
abbrev pub mark_size : Mark → ℕ
mark_size marks.Awaited = 0
mark_size marks.Came = 24
mark_size marks.Put = 0

abbrev pub held : OutProxy → ℕ
held s =
    due_sizes s.waiting.due
    + (total s.line.current.pdus + (mark_size s.end + mark_size s.handover))

-- CONN/A1 came
abbrev pub is_new : Channel → Bool
is_new channels.Unknown = false
is_new (channels.New connection cookie) = true
is_new (channels.Joined connection cookie) = true
is_new (channels.Successor connection predecessor cookie) = false

-- the response is due, or CONN/A3 is
abbrev pub is_opening : Answer → Bool
is_opening answers.Awaited = false
is_opening answers.EchoDue = false
is_opening answers.EchoPut = false
is_opening answers.EchoDrawn = false
is_opening answers.ResponseDue = true
is_opening answers.TimeoutDue = true
is_opening answers.Put = false

-- CONN/A3 was not put, if it ever will be
abbrev pub is_early : Answer → ServerLeg → Bool
is_early answer server = is_server_down server || is_opening answer

-- what goes first was put, or is due since the server's leg came up
abbrev pub is_risen : Answer → Bool
is_risen answers.Put = true
is_risen answer = is_opening answer

abbrev pub is_timeout_due : Answer → Bool
is_timeout_due answers.TimeoutDue = true
is_timeout_due answer = false

-- so many bytes were put to the client, and came from the server; and so often CONN/A1 came
pub record Books (put came asked : ℕ) (s : OutProxy) : Type 0 where
  pub within : put + held s ≤ came + (28 * asked + s.pinged)
  pub early : is_early s.answer s.server ≡ true → put + held s ≤ came + s.pinged
  pub new : is_new s.channel ≡ true → 1 ≤ asked
  pub known : is_response_due s.answer ≡ true → is_known s.channel ≡ true
  pub timeout : is_timeout_due s.answer ≡ true → 1 ≤ asked
  pub risen : is_risen s.answer ≡ true → is_server_down s.server ≡ false
  pub room : s.pinged ≤ putting.ping_room
  -- the line never goes on to another channel
  pub single : s.line.finished ≡ false

-- ---- a step

-- so much more came, and was put or is held
pub more : (put next came add asked : ℕ) (s t : OutProxy) → Books put came asked s
    → next + held t ≤ put + held s + add → t.pinged ≡ s.pinged → t.answer ≡ s.answer
    → t.server ≡ s.server → t.channel ≡ s.channel → t.line.finished ≡ false
    → Books next (came + add) asked t
more put next came add asked s t k less pinged answer server channel single = record {
  within = let within = k.within in omega (arith, within, less, pinged);
  early = λ e.
      let early = k.early
      (sym (ap (λ (a : Answer). is_early a t.server) answer
      ∙ ap (λ (x : ServerLeg). is_early s.answer x) server) ∙ e) in
      omega (arith, early, less, pinged);
  new = λ e. k.new (sym (ap is_new channel) ∙ e);
  known = λ e.
      ap is_known channel ∙ k.known (sym (ap is_response_due answer) ∙ e);
  timeout = λ e. k.timeout (sym (ap is_timeout_due answer) ∙ e);
  risen = λ e. ap is_server_down server ∙ k.risen (sym (ap is_risen answer) ∙ e);
  room = let room = k.room in omega (arith, room, pinged);
  single = single;
}

-- nothing more came
pub moves_on : (put next came asked : ℕ) (s t : OutProxy) → Books put came asked s
    → next + held t ≤ put + held s → t.pinged ≡ s.pinged → t.answer ≡ s.answer
    → t.server ≡ s.server → t.channel ≡ s.channel → t.line.finished ≡ false
    → Books next came asked t
moves_on put next came asked s t k less pinged answer server channel single =
    subst (λ (n : ℕ). Books next n asked t) (plus_none came)
    (more put next came 0 asked s t k (omega (arith, less)) pinged answer server channel single)
  where
    plus_none : (n : ℕ) → n + 0 ≡ n
    plus_none n = omega arith

-- and nothing is put
pub same : (put came asked : ℕ) (s t : OutProxy) → Books put came asked s → held t ≤ held s
    → t.pinged ≡ s.pinged → t.answer ≡ s.answer → t.server ≡ s.server → t.channel ≡ s.channel
    → t.line.finished ≡ false → Books put came asked t
same put came asked s t k less pinged answer server channel single =
    moves_on put put came asked s t k (omega (arith, less)) pinged answer server channel single

-- more came that is not counted
pub wider : (put came asked came_more asked_more : ℕ) (s : OutProxy) → Books put came asked s
    → came ≤ came_more → asked ≤ asked_more → Books put came_more asked_more s
wider put came asked came_more asked_more s k less fewer = record {
  within = let within = k.within in omega (arith, within, less, fewer);
  early = λ e. let early = k.early e in omega (arith, early, less);
  new = λ e. let new = k.new e in omega (arith, new, fewer);
  known = k.known;
  timeout = λ e. let timeout = k.timeout e in omega (arith, timeout, fewer);
  risen = k.risen;
  room = k.room;
  single = k.single;
}

-- ---- what is to be forwarded

-- acknowledgements that are merged have the same size
same_size : (due : Due) (m : Named) → takes m due ≡ true
    → size (Packet (better due m).packet) ≡ size (Packet due.packet)
same_size due m e = by due.packet m e
  where
    by : (old new : Named) → waits.are_one (waits.key_of old) (waits.key_of new) ≡ true
        → size (Packet (better (record due { packet = old }) new).packet) ≡ size (Packet old)
    by (named.AckTo to received window of) (named.AckTo on more edge for) e =
        by_test (λ (d : Due). size (Packet d.packet) ≡ 56)
        (nat_lt (edge_of (named.AckTo on more edge for))
        (edge_of (named.AckTo to received window of)))
        (record due { packet = named.AckTo to received window of })
        (record { packet = named.AckTo on more edge for; origin = due.origin })
        (λ t. refl) (λ t. refl)
    by old new e = absurd (cc)

merged_sizes : (dues : List Due) (m : Named) → due_sizes (merged dues m) ≤ due_sizes dues
merged_sizes [] m = omega arith
merged_sizes (due ∷ dues) m =
    let rest = merged_sizes dues m in
    by_test (λ (ds : List Due). due_sizes ds ≤ size (Packet due.packet) + due_sizes dues)
    (takes m due) (better due m ∷ dues) (due ∷ merged dues m)
    (λ t. let same = same_size due m t in omega (arith, same)) (λ t. omega (arith, rest))

push_sizes : (dues : List Due) (due : Due)
    → due_sizes (dues ++ due ∷ []) ≡ due_sizes dues + size (Packet due.packet)
push_sizes [] due = omega arith
push_sizes (x ∷ dues) due = let rest = push_sizes dues due in omega (arith, rest)

joins : (w : Waiting) (m : Named)
    → due_sizes (waits.forwarded w m).0.due ≤ due_sizes w.due + size (Packet m)
joins w m =
    by_test (λ (x : Waiting × Bool). due_sizes x.0.due ≤ due_sizes w.due + size (Packet m))
    (list_any (takes m) w.due) (waits.with_due w (merged w.due m), true)
    (if nat_lt (waits.count Forwarded w.due) w.room
    then (waits.pushed w (waits.to_forward m), true) else (w, false))
    (λ t. let less = merged_sizes w.due m in omega (arith, less))
    (λ t. by_test (λ (x : Waiting × Bool).
    due_sizes x.0.due ≤ due_sizes w.due + size (Packet m))
    (nat_lt (waits.count Forwarded w.due) w.room) (waits.pushed w (waits.to_forward m), true)
    (w, false)
    (λ u. let grown = push_sizes w.due (waits.to_forward m) in omega (arith, grown))
    (λ u. omega arith))

-- a full room stays as it is
not_joined : (w : Waiting) (m : Named) → (waits.forwarded w m).1 ≡ false
    → (waits.forwarded w m).0 ≡ w
not_joined w m =
    by_test (λ (x : Waiting × Bool). x.1 ≡ false → x.0 ≡ w) (list_any (takes m) w.due)
    (waits.with_due w (merged w.due m), true)
    (if nat_lt (waits.count Forwarded w.due) w.room
    then (waits.pushed w (waits.to_forward m), true) else (w, false))
    (λ t e. absurd (cc))
    (λ t. by_test (λ (x : Waiting × Bool). x.1 ≡ false → x.0 ≡ w)
    (nat_lt (waits.count Forwarded w.due) w.room) (waits.pushed w (waits.to_forward m), true)
    (w, false) (λ u e. absurd (cc)) (λ u e. refl))

-- ---- rows

-- a row that takes a message adds so much to what came, and to how often CONN/A1 came; one that
-- refuses it adds nothing
abbrev pub RowKeeps : ℕ → ℕ → ℕ → ℕ → ℕ → Done → Type 0
RowKeeps put came asked add one (t, Ok taken) = Books put (came + add) (asked + one) t
RowKeeps put came asked add one (t, Err why) = Books put came asked t

-- CONN/A1 asks for CONN/A3
abbrev pub asks : Named → ℕ
asks (named.ConnA1 version connection cookie window) = 1
asks packet = 0

-- an acknowledgement for the proxy goes no further
abbrev pub goes_on : Named → ℕ
goes_on (named.AckTo to received window of) =
    if to == TO_OUT_PROXY then 0 else size (Packet (named.AckTo to received window of))
goes_on packet = size (Packet packet)

module _ (put came asked : ℕ) where
  -- where a row leaves the proxy as it is
  stays : (s : OutProxy) (add one : ℕ) (row : Row) → Books put came asked s
      → RowKeeps put came asked add one (s, row)
  stays s add one (Ok taken) k =
      wider put came asked (came + add) (asked + one) s k (omega arith) (omega arith)
  stays s add one (Err why) k = k

  forward_row : (s : OutProxy) (packet : Named) (add one : ℕ) (r : Waiting × Bool)
      → waits.forwarded s.waiting packet ≡ r → size (Packet packet) ≤ add
      → Books put came asked s → RowKeeps put came asked add one (forwarded_by s r)
  forward_row s packet add one (w, true) e fits k =
      let sized = joins s.waiting packet in
      let is : due_sizes w.due ≡ due_sizes (waits.forwarded s.waiting packet).0.due =
      ap (λ (x : Waiting × Bool). due_sizes x.0.due) (sym e) in
      wider put (came + add) asked (came + add) (asked + one) (record s { waiting = w })
      (more put put came add asked s (record s { waiting = w }) k (omega (arith, sized, is, fits))
      refl refl refl refl k.single) (omega arith) (omega arith)
  forward_row s packet add one (w, false) e fits k =
      let none : (waits.forwarded s.waiting packet).1 ≡ false =
      ap (λ (x : Waiting × Bool). x.1) e in
      let is : w ≡ s.waiting =
      ap (λ (x : Waiting × Bool). x.0) (sym e) ∙ not_joined s.waiting packet none in
      subst (λ (x : Waiting). Books put came asked (record s { waiting = x })) (sym is) k

  pub forward_keeps : (s : OutProxy) (packet : Named) (add one : ℕ) → size (Packet packet) ≤ add
      → Books put came asked s → RowKeeps put came asked add one (forwarded s packet)
  forward_keeps s packet add one fits k =
      by_test (RowKeeps put came asked add one) (is_client_marked s.client) (taken s)
      (forwarded_by s (waits.forwarded s.waiting packet)) (λ t. stays s add one (Ok tt) k)
      (λ t. forward_row s packet add one (waits.forwarded s.waiting packet) refl fits k)

  pub passed_keeps : (s : OutProxy) (to : ℕ) (packet : Named) (add one : ℕ)
      → size (Packet packet) ≤ add → Books put came asked s
      → RowKeeps put came asked add one (passed_on s to packet)
  passed_keeps s to packet add one fits k =
      by_test (RowKeeps put came asked add one) (is_carrying s && (to == 0)) (forwarded s packet)
      (unexpected s) (λ t. forward_keeps s packet add one fits k) (λ t. k)

  -- an RPC PDU is held, where the window allows it
  admitted_pdus : (line : Line) (pdu : List ℕ) (r : Result (Unit {0}) LineFault)
      → channel_verdict line.current pdu ≡ r
      → (after_admit line Current pdu).current.pdus
      ≡ (if is_ok r then line.current.pdus ++ pdu ∷ [] else line.current.pdus)
  admitted_pdus line pdu r e =
      by_test (λ (c : Incoming).
      c.pdus ≡ (if is_ok r then line.current.pdus ++ pdu ∷ [] else line.current.pdus))
      (is_ok (channel_verdict line.current pdu)) _ line.current
      (λ t. ap (λ (b : Bool). if b then line.current.pdus ++ pdu ∷ [] else line.current.pdus)
      (sym t ∙ ap (λ (v : Result (Unit {0}) LineFault). is_ok v) e))
      (λ t. ap (λ (b : Bool). if b then line.current.pdus ++ pdu ∷ [] else line.current.pdus)
      (sym t ∙ ap (λ (v : Result (Unit {0}) LineFault). is_ok v) e))

  admit_row : (s : OutProxy) (pdu : List ℕ) (r : Result (Unit {0}) LineFault)
      → channel_verdict s.line.current pdu ≡ r → Books put came asked s
      → RowKeeps put came asked (length pdu) 0
      (record s { line = after_admit s.line Current pdu }, line_row r)
  admit_row s pdu (Ok admitted) e k =
      let t : OutProxy = record s { line = after_admit s.line Current pdu } in
      let sum = total_push s.line.current.pdus pdu in
      let is : total t.line.current.pdus ≡ total (s.line.current.pdus ++ pdu ∷ []) =
      ap (λ (x : List (List ℕ)). total x) (admitted_pdus s.line pdu (Ok admitted) e) in
      wider put (came + length pdu) asked (came + length pdu) (asked + 0) t
      (more put put came (length pdu) asked s t k (omega (arith, is, sum)) refl refl refl refl
      k.single) (omega arith) (omega arith)
  admit_row s pdu (Err line_fault.Over) e k =
      let is : total (after_admit s.line Current pdu).current.pdus ≡ total s.line.current.pdus =
      ap (λ (x : List (List ℕ)). total x) (admitted_pdus s.line pdu (Err line_fault.Over) e) in
      same put came asked s (record s { line = after_admit s.line Current pdu }) k
      (omega (arith, is)) refl refl refl refl k.single
  admit_row s pdu (Err (line_fault.Window exceeded)) e k =
      let is : total (after_admit s.line Current pdu).current.pdus ≡ total s.line.current.pdus =
      ap (λ (x : List (List ℕ)). total x)
      (admitted_pdus s.line pdu (Err (line_fault.Window exceeded)) e) in
      same put came asked s (record s { line = after_admit s.line Current pdu }) k
      (omega (arith, is)) refl refl refl refl k.single

  pub pdu_keeps : (s : OutProxy) (pdu : List ℕ) → Books put came asked s
      → RowKeeps put came asked (length pdu) 0 (on_pdu s pdu)
  pdu_keeps s pdu k =
      by_test (RowKeeps put came asked (length pdu) 0) (takes_pdus s) (admitted s pdu)
      (unexpected s) (λ t. admit_row s pdu (channel_verdict s.line.current pdu) refl k) (λ t. k)

  -- ---- packets from the client

  opened_keeps : (s : OutProxy) (channel : Channel) (window one : ℕ) (test : Bool)
      → (is_new channel ≡ true → 1 ≤ one) → is_known channel ≡ true → Books put came asked s
      → RowKeeps put came asked 0 one
      (if test then taken (opened s channel window) else unexpected s)
  opened_keeps s channel window one test new known k =
      by_test (RowKeeps put came asked 0 one) test (taken (opened s channel window))
      (unexpected s) (λ t. record {
        within = let within = k.within in omega (arith, within);
        early = λ e. let early = k.early e in omega (arith, early);
        new = λ e. let one_more = new e in omega (arith, one_more);
        known = λ e. known;
        timeout = λ e. let timeout = k.timeout e in omega (arith, timeout);
        risen = k.risen;
        room = k.room;
        single = k.single;
      }) (λ t. k)

  pub co_keeps : (s : OutProxy) (count : Count) (packet : Named) → Books put came asked s
      → RowKeeps put came asked 0 (asks packet) (on_co s count packet)
  co_keeps s count (named.ConnA1 version connection cookie window) k =
      opened_keeps s (channels.New connection cookie) window 1 _ (λ e. omega arith) refl k
  co_keeps s count (named.OutR1A3 version connection predecessor cookie window) k =
      opened_keeps s (channels.Successor connection predecessor cookie) window 0 _
      (λ e. absurd (cc)) refl k
  co_keeps s count named.OutR2C1 k =
      by_test (RowKeeps put came asked 0 0) (is_second count && is_successor s.channel) (taken s)
      (unexpected s) (λ t. stays s 0 0 (Ok tt) k) (λ t. k)
  co_keeps s count packet k = k

  -- ---- packets from the server

  conn_c1_keeps : (channel : Channel) (s : OutProxy) (version window timeout : ℕ)
      → s.channel ≡ channel → Books put came asked s
      → RowKeeps put came asked (size (Packet (named.ConnC1 version window timeout))) 0
      (conn_c1_by channel s version window timeout)
  conn_c1_keeps channels.Unknown s version window timeout e k = k
  conn_c1_keeps (channels.New connection cookie) s version window timeout e k =
      forward_keeps (record s { channel = channels.Joined connection cookie })
      (named.ConnC2 version window timeout) 44 0 (omega arith) (record {
        within = k.within;
        early = k.early;
        new = λ t. k.new (ap is_new e);
        known = λ t. refl;
        timeout = k.timeout;
        risen = k.risen;
        room = k.room;
        single = k.single;
      })
  conn_c1_keeps (channels.Joined connection cookie) s version window timeout e k = k
  conn_c1_keeps (channels.Successor connection predecessor cookie) s version window timeout e k =
      k

  acked_keeps : (s : OutProxy) (received window : ℕ) → Books put came asked s
      → RowKeeps put came asked 0 0 (acked s received window)
  acked_keeps s received window k =
      stays (record s { window = after_acked s.window received window }) 0 0
      (ack_row (ack_verdict s.window received window))
      (same put came asked s (record s { window = after_acked s.window received window }) k
      (omega arith) refl refl refl refl k.single)

  ack_keeps : (cookie : Option Cookie) (s : OutProxy) (received window : ℕ) (of : Cookie)
      → Books put came asked s → RowKeeps put came asked 0 0 (ack_by cookie s received window of)
  ack_keeps None s received window of k = k
  ack_keeps (Some cookie) s received window of k =
      by_test (RowKeeps put came asked 0 0) (same_cookie cookie of) (acked s received window)
      (refuse s (refused.Cookie cookie of)) (λ t. acked_keeps s received window k) (λ t. k)

  ack_to_keeps : (s : OutProxy) (to received window : ℕ) (of : Cookie) → Books put came asked s
      → RowKeeps put came asked (goes_on (named.AckTo to received window of)) 0
      (on_ack_to s to received window of)
  ack_to_keeps s to received window of k = by (to == TO_OUT_PROXY)
    where
      by : (t : Bool) → RowKeeps put came asked
          (if t then 0 else size (Packet (named.AckTo to received window of))) 0
          (if t then on_ack s received window of
          else passed_on s to (named.AckTo 0 received window of))
      by true = ack_keeps (joined s.channel) s received window of k
      by false =
          passed_keeps s to (named.AckTo 0 received window of) 56 0 (omega arith) k

  mark_keeps : (s t : OutProxy) (test : Bool) → held t ≤ held s + 24 → t.pinged ≡ s.pinged
      → t.answer ≡ s.answer → t.server ≡ s.server → t.channel ≡ s.channel
      → t.line.finished ≡ s.line.finished → Books put came asked s
      → RowKeeps put came asked 24 0 (if test then taken t else unexpected s)
  mark_keeps s t test less pinged answer server channel single k =
      by_test (RowKeeps put came asked 24 0) test (taken t) (unexpected s)
      (λ e. wider put (came + 24) asked (came + 24) (asked + 0) t
      (more put put came 24 asked s t k (omega (arith, less)) pinged answer server channel
      (single ∙ k.single)) (omega arith) (omega arith)) (λ e. k)

  came_mark : (old : Mark) → mark_size marks.Came ≤ mark_size old + 24
  came_mark marks.Awaited = omega arith
  came_mark marks.Came = omega arith
  came_mark marks.Put = omega arith

  pub os_keeps : (s : OutProxy) (packet : Named) → Books put came asked s
      → RowKeeps put came asked (goes_on packet) 0 (on_os s packet)
  os_keeps s (named.ConnC1 version window timeout) k =
      conn_c1_keeps s.channel s version window timeout refl k
  os_keeps s (named.AckTo to received window of) k = ack_to_keeps s to received window of k
  os_keeps s (named.InR1A3 to version window timeout) k =
      passed_keeps s to (named.InR1A4 0 version window timeout) 52 0 (omega arith) k
  os_keeps s (named.InR2A3 to) k = passed_keeps s to (named.InR2A4 0) 28 0 (omega arith) k
  os_keeps s (named.OutR1A1 to) k = passed_keeps s to (named.OutR1A2 0) 28 0 (omega arith) k
  os_keeps s (named.OutR1A5 to version timeout) k =
      passed_keeps s to (named.OutR1A6 0 version timeout) 44 0 (omega arith) k
  os_keeps s named.OutR1A9 k =
      mark_keeps s (record s { handover = marks.Came }) (is_carrying s)
      (let less = came_mark s.handover in omega (arith, less)) refl refl refl refl refl k
  os_keeps s named.EndB1 k =
      mark_keeps s (record s { end = marks.Came }) (takes_pdus s)
      (let less = came_mark s.end in omega (arith, less)) refl refl refl refl refl k
  os_keeps s packet k = k

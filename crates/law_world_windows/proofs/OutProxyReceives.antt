-- an out proxy receives from the server within its window
use Rattle.law_order.proofs.Vocabulary.{◌≡◌, ℕ, ◌+◌, ◌≤◌, List, [], ◌∷◌, ◌++◌, length, Bool, true, false, true≢false, if◌then◌else◌, ◌&&◌, ◌||◌, Some, None, Ok, Err, arith, refl, sym, ◌∙◌, subst, rules, and_parts, nat_tests, IfSome, nat_le, AllByRecursion, Option, Result}
use Rattle.rh_sig.specs.declared.named.Named.TheVariants as named
use Rattle.rh_line.specs.Lines.{taken as taken_line}
use Rattle.rh_line.specs.Lines as lines
use Rattle.rh_line.specs.declared.line_fault.LineFault.TheVariants as line_fault
use Rattle.rh_outproxy.specs.declared.state.Answer.TheVariants as answers
use Rattle.rh_outproxy.specs.declared.state.Channel.TheVariants as channels
use Rattle.law_moves.proofs.Vocabulary.{IsWindow, Receiver, may_send, Ack, by_test, Cookie, Named, Incoming, Line, due, is_empty, moved_on, released, settled, LineFault, Leg, ClientOut, Current, Count, Due, Message, Pdu, Packet, same_leg, Move, AreAllowed, Passage, started, all_moved, of_leg}
use Rattle.law_moves.proofs.Lemmas.{bytes_rise, all_append}
use Rattle.law_role_client.proofs.Receiving.Windows.{IsBehind}
use Rattle.law_role_outproxy.proofs.Vocabulary.{Answer, Channel, OutProxyConfig, OutProxy, new_proxy, has_come, joined, is_server_first, is_due, is_ping_due, Done, is_co, is_os, unexpected, takes_pdus, up, head, first_packet, admitted, line_row, on_pdu, ack_due, drawn, mark, Pick, ping_room, or_else, answer_by, put_answer, waiting_by, put_waiting, pdu_by, put_pdu, put_end, put_handover, put_mark, put_ping, next_co, first_by, put_first, ack_by, put_ack, next_os, put as put_of}
use Rattle.law_role_outproxy.proofs.Vocabulary.{packet, pdu, on_co, on_os, rules as proxy_rules}
use Rattle.law_role_outproxy.proofs.Sending.OutProxySends.{no_window}
use Rattle.law_role_windows.proofs.Held.ServerLine.{told_admitted as admitted_told}
use Rattle.law_role_windows.specs.Held.{Holds}
use Rattle.law_node_streams.proofs.Streams.LegLogs.{same_back}
use Rattle.law_world_windows.proofs.Legs.{on, same_other}
use Rattle.law_world_windows.proofs.Counts.{all_later}
use Rattle.law_world_windows.proofs.Receiving.{Receives, came_more, put_within, admitted_size, received_more, refused_same, refused_behind, due_is, room_of}
use Rattle.law_world_windows.proofs.Steps.{RowKeeps, PutKeeps, RowHere, PutHere, row_here, put_here, put_there, StepsKeep, moves_keep}
use Rattle.law_world_windows.specs.Holding.{held_by_out_proxy}
use Rattle.law_world_windows.specs.Hops.{HasRoomOn, os_leg, pdu_bytes, edge_in, greatest_edge, IsTrueAck, IsNoWindow, RefusesBehind, ReceivesWithin}

-- what the facts are about
record Seen : Type 0 where
  config : OutProxyConfig
  current : Receiver
  finished : Bool

abbrev seen : OutProxy → Seen
seen s = record {
  config = s.config;
  current = s.line.current.window;
  finished = s.line.finished;
}

abbrev Same : OutProxy → OutProxy → Type 0
Same s t = seen t ≡ seen s

-- of the proxy that was made with this configuration, on its os leg: its window is told from the
-- beginning, and its one channel is never finished
record ReceivesOf (config : OutProxyConfig) (x : Seen) (came put : List Message) : Type 0 where
  made : x.config ≡ config
  size : x.current.size ≡ config.window
  told : config.window ≤ x.current.told
  window : Receives x.current came put
  unfinished : x.finished ≡ false
  acks : AllByRecursion (IsTrueAck (pdu_bytes came)) put

-- ---- what leaves these alone

same_co : (s : OutProxy) (count : Count) (named : Named) → Same s (on_co s count named).0
same_co s count named = search rules

same_os : (s : OutProxy) (named : Named) → Same s (on_os s named).0
same_os s named = search rules

same_head : (s : OutProxy) (leg : Leg) (text : List ℕ) → Same s (head s leg text).0
same_head s leg text = search rules

same_up : (s : OutProxy) (leg : Leg) (cookie : Cookie) → Same s (up s leg cookie)
same_up s leg cookie = search rules

same_drawn : (s : OutProxy) (leg : Leg) → Same s (drawn s leg)
same_drawn s leg = search rules

same_mark : (s : OutProxy) (leg : Leg) → Same s (mark s leg)
same_mark s leg = search rules

module _ (config : OutProxyConfig) (is : IsWindow config.window) where
  abbrev leg : Leg
  leg = os_leg config.number

  abbrev Of : Seen → List Message → List Message → Type 0
  Of x came put = ReceivesOf config x came put

  abbrev Fine : OutProxy → List Message → List Message → Type 0
  Fine s came put = Of (seen s) came put

  -- what is held is within the window
  abbrev Known : OutProxy → Type 0
  Known s = Holds config.window s.line

  same_fine : (s t : OutProxy) (came put : List Message) → Same s t → Fine s came put
      → Fine t came put
  same_fine s t came put same h = subst (λ (x : Seen). Of x came put) (sym same) h

  came_on : (x : Seen) (came put more : List Message) → Of x came put → Of x (came ++ more) put
  came_on x came put more h = record {
    made = h.made;
    size = h.size;
    told = h.told;
    window = came_more x.current came put more h.window;
    unfinished = h.unfinished;
    acks = all_later (pdu_bytes came) (pdu_bytes (came ++ more)) put (bytes_rise came more) h.acks;
  }

  row_on : (other : Leg) (m : Message) (came put : List Message) (x : Done) → Fine x.0 came put
      → RowKeeps Fine leg other m came put x
  row_on other m came put (t, Ok taken) h = came_on (seen t) came put (on leg other m) h
  row_on other m came put (t, Err why) h = h

  -- ---- which leg it is

  co_other : (s : OutProxy) (other : Leg) → is_co s other ≡ true → same_leg other leg ≡ false
  co_other s other e = same_other (record { kind = ClientOut; number = s.config.number }) other leg
      e refl

  os_here : (s : OutProxy) (other : Leg) → s.config ≡ config → is_os s other ≡ true
      → same_leg other leg ≡ true
  os_here s other made e =
      same_back other leg
      ∙ subst (λ (c : OutProxyConfig). same_leg (os_leg c.number) other ≡ true) made e

  -- ---- a PDU comes

  pdu_here : (s : OutProxy) (bytes : List ℕ) (came put : List Message) → Fine s came put
      → RowHere Fine (Pdu bytes) came put (admitted s bytes)
  pdu_here s bytes came put h = by (lines.admit_verdict s.line Current bytes) refl
    where
      c : Incoming
      c = s.line.current

      t : OutProxy
      t = record s { line = lines.after_admit s.line Current bytes }

      unchanged : (fault : LineFault) → lines.channel_verdict c bytes ≡ Err fault
          → Fine t came put
      unchanged fault e =
          subst (λ (d : Incoming). Of (record {
            config = s.config;
            current = d.window;
            finished = s.line.finished;
          }) came put) (sym (refused_same c bytes fault e)) h

      by : (v : Result (Unit {0}) LineFault) → lines.channel_verdict c bytes ≡ v
          → RowHere Fine (Pdu bytes) came put (t, line_row v)
      by (Ok taken) e =
          let same = admitted_told c bytes in let told = h.told in
          let more = bytes_rise came (Pdu bytes ∷ []) in record {
            made = h.made;
            size = admitted_size c bytes ∙ h.size;
            told = omega (arith, same, told);
            window = record {
              received = received_more c came bytes h.window.received;
              told = let edge = h.window.told in omega (arith, same, edge);
            };
            unfinished = h.unfinished;
            acks = all_later (pdu_bytes came) (pdu_bytes (came ++ Pdu bytes ∷ [])) put more h.acks;
          }
      by (Err (line_fault.Window exceeded)) e = unchanged (line_fault.Window exceeded) e
      by (Err line_fault.Over) e = unchanged line_fault.Over e

  pdu_row : (s : OutProxy) (other : Leg) (count : Count) (bytes : List ℕ)
      (came put : List Message) → Fine s came put
      → RowKeeps Fine leg other (Pdu bytes) came put (pdu s other count bytes)
  pdu_row s other count bytes came put h =
      by_test (RowKeeps Fine leg other (Pdu bytes) came put) (is_os s other) (on_pdu s bytes)
      (unexpected s)
      (λ e. row_here Fine leg other came put (Pdu bytes) (on_pdu s bytes)
      (os_here s other h.made e)
      (by_test (RowHere Fine (Pdu bytes) came put) (takes_pdus s) (admitted s bytes)
      (unexpected s) (λ f. pdu_here s bytes came put h) (λ f. h)))
      (λ e. h)

  packet_fine : (s : OutProxy) (other : Leg) (count : Count) (named : Named)
      (came put : List Message) → Fine s came put → Fine (packet s other count named).0 came put
  packet_fine s other count named came put h =
      by_test (λ (d : Done). Fine d.0 came put) (is_co s other) (on_co s count named)
      (if is_os s other then on_os s named else unexpected s)
      (λ e. same_fine s (on_co s count named).0 came put (same_co s count named) h)
      (λ e. by_test (λ (d : Done). Fine d.0 came put) (is_os s other) (on_os s named) (unexpected s)
      (λ f. same_fine s (on_os s named).0 came put (same_os s named) h) (λ f. h))

  -- ---- what is put to the client: it is no message of the os leg

  abbrev There : List Message → List Message → Pick → Type 0
  There came put pick = IfSome pick (λ (one : OutProxy × Message). Fine one.0 came put)

  or_there : (came put : List Message) (a b : Pick) → There came put a → There came put b
      → There came put (or_else a b)
  or_there came put None b h k = k
  or_there came put (Some pick) b h k = h

  answer_there : (s : OutProxy) (answer : Answer) (came put : List Message) → Fine s came put
      → There came put (answer_by answer s)
  answer_there s answers.Awaited came put h = tt
  answer_there s answers.EchoDue came put h = h
  answer_there s answers.EchoPut came put h = tt
  answer_there s answers.EchoDrawn came put h = tt
  answer_there s answers.ResponseDue came put h = h
  answer_there s answers.TimeoutDue came put h = h
  answer_there s answers.Put came put h = tt

  waiting_there : (s : OutProxy) (dues : List Due) (came put : List Message) → Fine s came put
      → There came put (waiting_by s dues)
  waiting_there s [] came put h = tt
  waiting_there s (due ∷ dues) came put h = h

  -- a PDU is taken from the line
  taken_fine : (s : OutProxy) (came put : List Message) → Fine s came put
      → Fine (record s { line = lines.after_take s.line }) came put
  taken_fine s came put h = by s.line.current.pdus
    where
      OfLine : Line → Type 0
      OfLine l = Of (record {
        config = s.config;
        current = l.current.window;
        finished = l.finished;
      }) came put

      goes : (l : Line) → l.finished ≡ false → OfLine l → OfLine (settled l)
      goes l more of_line =
          by_test OfLine (l.finished && is_empty l.current.pdus) (moved_on l) l
          (λ e. absurd (true≢false
          (sym (and_parts l.finished (is_empty l.current.pdus) e).0 ∙ more)))
          (λ e. of_line)

      by : (pdus : List (List ℕ)) → OfLine (taken_line pdus s.line)
      by [] = h
      by (pdu ∷ pdus) =
          goes (record s.line { current = released (pdu ∷ pdus) s.line.current }) h.unfinished
          (record {
            made = h.made;
            size = h.size;
            told = h.told;
            window = record { received = h.window.received; told = h.window.told };
            unfinished = h.unfinished;
            acks = h.acks;
          })

  front_there : (s : OutProxy) (pdus : List (List ℕ)) (came put : List Message) → Fine s came put
      → There came put (pdu_by s pdus)
  front_there s [] came put h = tt
  front_there s (pdu ∷ pdus) came put h =
      by_test (There came put) (may_send s.window (length pdu)) _ None
      (λ e. taken_fine s came put h) (λ e. tt)

  mark_there : (s : OutProxy) (came put : List Message) → Fine s came put
      → There came put (put_mark s)
  mark_there s came put h =
      or_there came put (put_end s) (put_handover s)
      (by_test (There came put) (is_empty s.line.current.pdus && is_due s.end) _ None (λ e. h)
      (λ e. tt))
      (by_test (There came put) (is_empty s.line.current.pdus && is_due s.handover) _ None (λ e. h)
      (λ e. tt))

  co_there : (s : OutProxy) (came put : List Message) → Fine s came put
      → There came put (next_co s)
  co_there s came put h =
      or_there came put (put_answer s) _ (answer_there s s.answer came put h)
      (or_there came put (put_waiting s) _ (waiting_there s s.waiting.due came put h)
      (or_there came put (put_pdu s) _ (front_there s s.line.current.pdus came put h)
      (or_there came put (put_mark s) (put_ping s) (mark_there s came put h)
      (by_test (There came put) (is_ping_due s.ping && nat_le (s.pinged + 20) ping_room) _ None
      (λ e. h) (λ e. tt)))))

  -- ---- and to the server

  -- it tells no more than the window was told
  put_tells : (x : Seen) (came put : List Message) (m : Message) → edge_in m ≤ x.current.told
      → IsTrueAck (pdu_bytes came) m → Of x came put → Of x came (put ++ m ∷ [])
  put_tells x came put m within true_ack h = record {
    made = h.made;
    size = h.size;
    told = h.told;
    window = put_within x.current came put (m ∷ []) (grind (arith, nat_tests, within)) h.window;
    unfinished = h.unfinished;
    acks = all_append (IsTrueAck (pdu_bytes came)) put (m ∷ []) h.acks (true_ack, tt);
  }

  or_here : (came put : List Message) (a b : Pick) → PutHere Fine came put a
      → PutHere Fine came put b → PutHere Fine came put (or_else a b)
  or_here came put None b h k = k
  or_here came put (Some pick) b h k = h

  first_here : (s : OutProxy) (channel : Channel) (came put : List Message) → Fine s came put
      → PutHere Fine came put (first_by s (first_packet s channel))
  first_here s channel came put h = by channel
    where
      told : s.config.window ≤ s.line.current.window.told
      told = subst (λ (c : OutProxyConfig). c.window ≤ s.line.current.window.told) (sym h.made)
          h.told

      by : (c : Channel) → PutHere Fine came put (first_by s (first_packet s c))
      by channels.Unknown = tt
      by (channels.New connection cookie) = put_tells (seen s) came put _ told tt h
      by (channels.Joined connection cookie) = put_tells (seen s) came put _ told tt h
      by (channels.Successor connection predecessor cookie) =
          put_tells (seen s) came put _ told tt h

  ack_fine : (s : OutProxy) (cookie : Cookie) (ack : Ack) (came put : List Message)
      → due s.line Current ≡ Some ack → Known s → Fine s came put
      → Fine (record s { line = lines.after_told s.line Current ack }) came
      (put ++ Packet (named.Ack ack.received ack.available cookie) ∷ [])
  ack_fine s cookie ack came put e k h =
      let d = due_is s.line.current config.window ack k.current.within e in
      let more = d.more in
      let received = d.received in
      let available = d.size in
      let before = h.window.received in
      let edge = h.window.told in
      let told = h.told in
      let size = h.size in
      let greatest = is.greatest in
      put_tells (seen (record s { line = lines.after_told s.line Current ack })) came put
      (Packet (named.Ack ack.received ack.available cookie)) (omega arith)
      (omega (arith, received, before), omega (arith, available, size, greatest)) (record {
        made = h.made;
        size = h.size;
        told = omega (arith, told, more);
        window = record { received = h.window.received; told = omega (arith, edge, more) };
        unfinished = h.unfinished;
        acks = h.acks;
      })

  ack_here : (s : OutProxy) (cookie : Option Cookie) (came put : List Message) → Known s
      → Fine s came put → PutHere Fine came put (ack_by s cookie (ack_due s))
  ack_here s None came put k h = tt
  ack_here s (Some cookie) came put k h =
      by_test (λ (o : Option Ack). PutHere Fine came put (ack_by s (Some cookie) o))
      (has_come s.end || has_come s.handover) None (due s.line Current) (λ e. tt)
      (λ e. by (due s.line Current) refl)
    where
      by : (o : Option Ack) → due s.line Current ≡ o
          → PutHere Fine came put (ack_by s (Some cookie) o)
      by None e = tt
      by (Some ack) e = ack_fine s cookie ack came put e k h

  os_put : (s : OutProxy) (came put : List Message) → Known s → Fine s came put
      → PutHere Fine came put (next_os s)
  os_put s came put k h =
      or_here came put (put_first s) (put_ack s)
      (by_test (PutHere Fine came put) (is_server_first s.server)
      (first_by s (first_packet s s.channel)) None
      (λ e. first_here s s.channel came put h) (λ e. tt))
      (ack_here s (joined s.channel) came put k h)

  puts : (s : OutProxy) (other : Leg) (came put : List Message) → Known s → Fine s came put
      → PutKeeps Fine leg other came put (put_of s other)
  puts s other came put k h =
      by_test (PutKeeps Fine leg other came put) (is_co s other) (next_co s)
      (if is_os s other then next_os s else None)
      (λ e. put_there Fine leg other came put (next_co s) (co_other s other e)
      (co_there s came put h))
      (λ e. by_test (PutKeeps Fine leg other came put) (is_os s other) (next_os s) None
      (λ f. put_here Fine leg other came put (next_os s) (os_here s other h.made f)
      (os_put s came put k h)) (λ f. tt))

  -- ---- the role

  steps : StepsKeep proxy_rules leg Known Fine
  steps = record {
    up = λ s other cookie came put k. same_fine s (up s other cookie) came put
        (same_up s other cookie);
    head = λ s other text came put k.
        same_fine s (head s other text).0 came put (same_head s other text);
    pdu = λ s other count bytes came put k. pdu_row s other count bytes came put;
    packet = λ s other count named came put k h.
        row_on other (Packet named) came put (packet s other count named)
        (packet_fine s other count named came put h);
    put = puts;
    drawn = λ s other came put k. same_fine s (drawn s other) came put (same_drawn s other);
    mark = λ s other came put k. same_fine s (mark s other) came put (same_mark s other);
    ping = λ s other came put k h. h;
  }

  starts : Fine (new_proxy config) [] []
  starts = record {
    made = refl;
    size = refl;
    told = omega arith;
    window = record { received = omega arith; told = omega arith };
    unfinished = refl;
    acks = tt;
  }

  -- ---- what is refused

  refused_pdu : (s : OutProxy) (count : Count) (bytes : List ℕ) (came put : List Message)
      → Fine s came put
      → RefusesBehind (greatest_edge put) (pdu_bytes came + length bytes)
      (pdu s leg count bytes).1
  refused_pdu s count bytes came put h =
      by_test Row (is_os s leg) (on_pdu s bytes) (unexpected s)
      (λ e. by_test Row (takes_pdus s) (admitted s bytes) (unexpected s)
      (λ f. verdict (lines.admit_verdict s.line Current bytes)
      (refused_behind s.line.current came put bytes h.window)) (λ f. tt))
      (λ e. tt)
    where
      Row : Done → Type 0
      Row x = RefusesBehind (greatest_edge put) (pdu_bytes came + length bytes) x.1

      verdict : (v : Result (Unit {0}) LineFault)
          → IsBehind (greatest_edge put) (pdu_bytes came + length bytes) v
          → RefusesBehind (greatest_edge put) (pdu_bytes came + length bytes) (line_row v)
      verdict (Ok taken) is_behind = tt
      verdict (Err (line_fault.Window exceeded)) is_behind = is_behind
      verdict (Err line_fault.Over) is_behind = tt

co_no_window : (s : OutProxy) (count : Count) (named : Named)
    → IsNoWindow (on_co s count named).1
co_no_window s count named = search rules

module _ (config : OutProxyConfig) (moves : List Move) (is : IsWindow config.window)
    (known : (front : List Move) → AreAllowed proxy_rules (started (new_proxy config)) front
    → Holds config.window (all_moved proxy_rules (started (new_proxy config)) front).role.line)
    (allowed : AreAllowed proxy_rules (started (new_proxy config)) moves) where
  abbrev p : Passage OutProxy
  p = all_moved proxy_rules (started (new_proxy config)) moves

  abbrev its_leg : Leg
  its_leg = os_leg config.number

  h : Fine config is p.role (of_leg its_leg p.came) (of_leg its_leg p.put)
  h =
      moves_keep proxy_rules its_leg (Known config is) (Fine config is) (steps config is)
      (started (new_proxy config)) moves allowed known (starts config is)

  pub out_proxy_receives : ReceivesWithin proxy_rules its_leg p
  out_proxy_receives = record {
    refuses = λ count bytes.
        refused_pdu config is p.role count bytes (of_leg its_leg p.came) (of_leg its_leg p.put) h;
    packets = λ count named. no_window p.role its_leg count named;
    acks = h.acks;
  }

  pub out_proxy_has_room : HasRoomOn config.window held_by_out_proxy its_leg p
  out_proxy_has_room =
      room_of p.role.line.current config.window (of_leg its_leg p.came) (of_leg its_leg p.put)
      (known moves allowed).current.within h.window

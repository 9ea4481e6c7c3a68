-- each message that an out proxy puts keeps what it puts to its client in order
use Rattle.law_order.proofs.Vocabulary.{◌≡◌, ℕ, ◌+◌, ◌&&◌, ◌||◌, not, Bool, true, false, true≢false, List, [], ◌∷◌, ◌++◌, length, Some, None, is_some, refl, sym, ap, ◌∙◌, subst, and_parts, nat_le, Option}
use Rattle.rh_sig.specs.declared.named.Named.TheVariants as named
use Rattle.rh_outproxy.specs.declared.state.Answer.TheVariants as answers
use Rattle.rh_outproxy.specs.declared.state.Mark.TheVariants as marks
use Rattle.rh_outproxy.specs.declared.state.Ping.TheVariants as pings
use Rattle.rh_outproxy.specs.declared.state.ServerLeg.TheVariants as servers
use Rattle.law_moves.proofs.Vocabulary.{after_sent, may_send, Ack, by_test, Cookie, Named, after_take, after_told, is_empty, Leg, Current, Due, FORWARDED_ROOM, Message, Text, Pdu, Packet, Waiting, with_due, OnLeg, of_leg}
use Rattle.law_moves.proofs.Lemmas.{PutKeeps, here_more, other_more}
use Rattle.law_role_outproxy.proofs.Vocabulary.{Answer, OutProxyConfig, ServerLeg, OutProxy, is_due, is_ping_due, is_server_down, is_server_first, is_successor, joined, first_packet, ack_due, Pick, ping_room, or_else, answer_by, behind_response, echo_text, put_answer, waiting_by, put_waiting, pdu_by, put_pdu, put_end, put_handover, put_mark, put_ping, next_co, first_by, put_first, ack_by, put_ack, next_os, pdu, co_leg, os_leg, response, IsPassed}
use Rattle.law_role_outproxy.proofs.Putting.Standing.{Core, core_of, seen, is_still, IsQuiet, IsServing, IsDown, due_by, Kind, At, Stands, kind_waits, kind_passes, kind_pings, put_more, response_goes, response_serves, timeout_goes}
use Rattle.law_role_outproxy.proofs.Putting.ClientRows.{not_still, still_by, same_holds, at_down, down_holds, quiet_down, at_up}

module _ (config : OutProxyConfig) where
  abbrev co : Leg
  co = co_leg config.number

  abbrev os : Leg
  os = os_leg config.number

  abbrev Holds : OutProxy → List OnLeg → List OnLeg → Type 0
  Holds s came put = Stands config (seen s) (of_leg os came) (of_leg co put)

  module _ (s : OutProxy) (came put : List OnLeg) (h : Holds s came put) where
    -- ---- what is put

    or_put : (leg : Leg) (a b : Pick) → PutKeeps Holds leg came put a
        → (a ≡ None → PutKeeps Holds leg came put b) → PutKeeps Holds leg came put (or_else a b)
    or_put leg None b g k = k refl
    or_put leg (Some pick) b g k = g

    -- to the server
    to_server : (t : OutProxy) (m : Message) → Holds t came put
        → Holds t came (put ++ (os, m) ∷ [])
    to_server t m k =
        subst (Stands config (seen t) (of_leg os came)) (sym (other_more co put (os, m) refl)) k

    first_put : (l : ServerLeg) → s.server ≡ l → is_server_first l ≡ true → (o : Option Named)
        → PutKeeps Holds os came put (first_by s o)
    first_put l e f None = tt
    first_put servers.Down e f (Some m) = absurd cc
    first_put servers.FirstDue e f (Some m) =
        to_server (record s { server = servers.Up }) (Packet m) (record {
          still = λ x. quiet (h.still (ap (λ (l : ServerLeg).
              is_server_down l || not (is_some (joined s.channel))) e ∙ x));
          silent = λ x. absurd cc;
          room = h.room;
          at = subst (λ (l : ServerLeg). At config (is_server_down l) (core_of s)
              (of_leg os came) (of_leg co put)) e h.at;
        })
      where
        quiet : IsQuiet (seen s) → IsQuiet (seen (record s { server = servers.Up }))
        quiet q = record {
          pdus = q.pdus;
          dues = q.dues;
          end = q.end;
          handover = q.handover;
          client = q.client;
        }
    first_put servers.Up e f (Some m) = absurd cc
    first_put servers.Marked e f (Some m) = absurd cc

    ack_put : (o : Option Cookie) (a : Option Ack) → PutKeeps Holds os came put (ack_by s o a)
    ack_put None a = tt
    ack_put (Some cookie) None = tt
    ack_put (Some cookie) (Some ack) =
        to_server (record s { line = after_told s.line Current ack })
        (Packet (named.Ack ack.received ack.available cookie))
        (same_holds config s (record s { line = after_told s.line Current ack }) came put refl h)

    pub os_put : PutKeeps Holds os came put (next_os s)
    os_put =
        or_put os (put_first s) (put_ack s)
        (by_test (PutKeeps Holds os came put) (is_server_first s.server)
        (first_by s (first_packet s s.channel)) None
        (λ e. first_put s.server refl e (first_packet s s.channel)) (λ e. tt))
        (λ e. ack_put (joined s.channel) (ack_due s))

    -- to the client
    to_client : (t : OutProxy) (m : Message)
        → Stands config (seen t) (of_leg os came) (of_leg co put ++ m ∷ [])
        → Holds t came (put ++ (co, m) ∷ [])
    to_client t m k =
        subst (Stands config (seen t) (of_leg os came)) (sym (here_more co put m)) k

    -- the leg to the server is up, and the answer changes
    answered : (t : OutProxy) (m : Message) (x : Answer) → t ≡ record s { answer = x }
        → is_server_down s.server ≡ false
        → IsServing x × Kind config (of_leg os came) s.channel
        ((of_leg co put ++ m ∷ []) ++ due_by config x (is_successor s.channel)) s.waiting.due
        → Holds t came (put ++ (co, m) ∷ [])
    answered t m x e up' k =
        subst (λ (u : OutProxy). Holds u came (put ++ (co, m) ∷ [])) (sym e)
        (to_client (record s { answer = x }) m (record {
          still = λ f. let q = h.still f in record {
            pdus = q.pdus;
            dues = q.dues;
            end = q.end;
            handover = q.handover;
            client = q.client;
          };
          silent = h.silent;
          room = h.room;
          at = subst (λ (b : Bool). At config b (core_of (record s { answer = x }))
              (of_leg os came) (of_leg co put ++ m ∷ [])) (sym up') k;
        }))

    -- what goes first, where the leg to the server is up
    answer_up : s.config ≡ config → is_server_down s.server ≡ false → (x : Answer)
        → s.answer ≡ x → IsServing x
        → Kind config (of_leg os came) s.channel
        (of_leg co put ++ due_by config x (is_successor s.channel)) s.waiting.due
        → PutKeeps Holds co came put (answer_by x s)
    answer_up made up' answers.Awaited e serves k = absurd serves
    answer_up made up' answers.EchoDue e serves k = absurd serves
    answer_up made up' answers.EchoPut e serves k = absurd serves
    answer_up made up' answers.EchoDrawn e serves k = absurd serves
    answer_up made up' answers.ResponseDue e serves k =
        subst (λ (m : Message). Holds (record s { answer = behind_response s.channel }) came
        (put ++ (co, m) ∷ [])) (sym (ap response made))
        (answered (record s { answer = behind_response s.channel }) (response config)
        (behind_response s.channel) refl up' (
          response_serves config s.channel,
          subst (λ (ms : List Message). Kind config (of_leg os came) s.channel ms s.waiting.due)
              (response_goes config s.channel (of_leg co put)) k,
        ))
    answer_up made up' answers.TimeoutDue e serves k =
        subst (λ (c : OutProxyConfig). Holds (record s { answer = answers.Put }) came
        (put ++ (co, Packet (named.ConnA3 c.timeout)) ∷ [])) (sym made)
        (answered (record s { answer = answers.Put }) (Packet (named.ConnA3 config.timeout))
        answers.Put refl up' (
          tt,
          subst (λ (ms : List Message). Kind config (of_leg os came) s.channel ms s.waiting.due)
              (timeout_goes config (of_leg co put)) k,
        ))
    answer_up made up' answers.Put e serves k = tt

    -- and where it is down
    answer_down : is_server_down s.server ≡ true → (x : Answer) → s.answer ≡ x
        → IsDown x s.request s.channel (of_leg co put)
        → PutKeeps Holds co came put (answer_by x s)
    answer_down down answers.Awaited e k = tt
    answer_down down answers.EchoDue e k =
        let q = quiet_down config s came put h down in
        let quiet = h.silent down in
        down_holds config s came put h (record s { answer = answers.EchoPut })
        (put ++ (co, Text echo_text) ∷ [])
        down (record {
          pdus = q.pdus;
          dues = q.dues;
          end = q.end;
          handover = q.handover;
          client = q.client;
        }) quiet.0 quiet.1 h.room (
          k.0,
          k.1,
          here_more co put (Text echo_text)
              ∙ ap (λ (ms : List Message). ms ++ Text echo_text ∷ []) k.2,
        )
    answer_down down answers.EchoPut e k = tt
    answer_down down answers.EchoDrawn e k = tt
    answer_down down answers.ResponseDue e k = absurd k
    answer_down down answers.TimeoutDue e k = absurd k
    answer_down down answers.Put e k = absurd k

    answer_put : s.config ≡ config → PutKeeps Holds co came put (put_answer s)
    answer_put made = by (is_server_down s.server) refl
      where
        by : (b : Bool) → is_server_down s.server ≡ b
            → PutKeeps Holds co came put (put_answer s)
        by true e = answer_down e s.answer refl (at_down config s came put h e)
        by false e =
            let k = at_up config s came put h e in answer_up made e s.answer refl k.0 k.1

    -- ---- behind what goes first

    -- where something came from the server, the channel is open and the leg up
    pub busy : (IsQuiet (seen s) → ⊥)
        → (is_server_down s.server ≡ false) × (is_some (joined s.channel) ≡ true)
    busy some =
        not_still (is_server_down s.server) (is_some (joined s.channel)) (λ e. some (h.still e))

    none_due : (x : Answer) → answer_by x s ≡ None → IsServing x
        → due_by config x (is_successor s.channel) ≡ []
    none_due answers.Awaited e serves = refl
    none_due answers.EchoDue e serves = absurd serves
    none_due answers.EchoPut e serves = refl
    none_due answers.EchoDrawn e serves = refl
    none_due answers.ResponseDue e serves = absurd cc
    none_due answers.TimeoutDue e serves = absurd cc
    none_due answers.Put e serves = refl

    abbrev Whole : List Message
    Whole = of_leg co put ++ due_by config s.answer (is_successor s.channel)

    -- a message goes, and of what waits these are left
    goes : (t : OutProxy) (m : Message) (w : Waiting)
        → core_of t ≡ record (core_of s) { waiting = w } → w.room ≡ FORWARDED_ROOM
        → is_server_down s.server ≡ false → (is_still (core_of s) ≡ true → IsQuiet (seen t))
        → put_answer s ≡ None
        → (Kind config (of_leg os came) s.channel Whole s.waiting.due
        → Kind config (of_leg os came) s.channel (Whole ++ m ∷ []) w.due)
        → Holds t came (put ++ (co, m) ∷ [])
    goes t m w same room up' quiet none more =
        let k = at_up config s came put h up' in
        to_client t m (record {
          still = λ e. quiet (sym (ap is_still same) ∙ e);
          silent = λ e.
              absurd (true≢false (sym e ∙ ap (λ (c : Core). is_server_down c.server) same ∙ up'));
          room = ap (λ (c : Core). c.waiting.room) same ∙ room;
          at = subst (λ (c : Core). At config (is_server_down c.server) c (of_leg os came)
              (of_leg co put ++ m ∷ [])) (sym same)
              (subst (λ (b : Bool). At config b (record (core_of s) { waiting = w })
              (of_leg os came) (of_leg co put ++ m ∷ [])) (sym up') (
                k.0,
                put_last (none_due s.answer none k.0) (more k.1),
              ));
        })
      where
        put_last : due_by config s.answer (is_successor s.channel) ≡ []
            → Kind config (of_leg os came) s.channel (Whole ++ m ∷ []) w.due
            → Kind config (of_leg os came) s.channel
            ((of_leg co put ++ m ∷ []) ++ due_by config s.answer (is_successor s.channel)) w.due
        put_last e kind =
            put_more config (of_leg co put) (due_by config s.answer (is_successor s.channel)) m
            (λ (ms : List Message). Kind config (of_leg os came) s.channel ms w.due) e kind

    waiting_put : put_answer s ≡ None → (dues : List Due) → s.waiting.due ≡ dues
        → PutKeeps Holds co came put (waiting_by s dues)
    waiting_put none [] e = tt
    waiting_put none (due ∷ dues) e =
        let b = busy (λ q. some (sym e ∙ q.dues)) in
        goes (record s { waiting = with_due s.waiting dues }) (Packet due.packet)
        (with_due s.waiting dues) refl h.room b.0
        (λ x. absurd (true≢false (sym x
        ∙ still_by (is_server_down s.server) (is_some (joined s.channel)) b.0 b.1)))
        none
        (λ k. kind_waits config (of_leg os came) s.channel Whole due dues b.1
        (subst (Kind config (of_leg os came) s.channel Whole) e k))
      where
        some : due ∷ dues ≡ [] → ⊥
        some f = absurd cc

    -- where nothing waits, what passes goes
    passes : (t : OutProxy) (m : Message) → core_of t ≡ core_of s → s.waiting.due ≡ []
        → put_answer s ≡ None → IsPassed (of_leg os came) m → (IsQuiet (seen s) → ⊥)
        → Holds t came (put ++ (co, m) ∷ [])
    passes t m same no_dues none is some =
        let b = busy some in
        goes t m s.waiting same h.room b.0
        (λ x. absurd (true≢false (sym x
        ∙ still_by (is_server_down s.server) (is_some (joined s.channel)) b.0 b.1)))
        none
        (λ k. subst (Kind config (of_leg os came) s.channel (Whole ++ m ∷ [])) (sym no_dues)
        (kind_passes config (of_leg os came) s.channel Whole m b.1 is
        (subst (Kind config (of_leg os came) s.channel Whole) no_dues k)))

    module _ (none : put_answer s ≡ None) (no_dues : s.waiting.due ≡ []) where
      pdu_put : (pdus : List (List ℕ)) → s.line.current.pdus ≡ pdus
          → PutKeeps Holds co came put (pdu_by s pdus)
      pdu_put [] e = tt
      pdu_put (pdu ∷ pdus) e =
          by_test (PutKeeps Holds co came put) (may_send s.window (length pdu)) _ None
          (λ f. passes
          (record s { line = after_take s.line; window = after_sent s.window (length pdu) })
          (Pdu pdu) refl no_dues none tt (λ q. some (sym e ∙ q.pdus)))
          (λ f. tt)
        where
          some : pdu ∷ pdus ≡ [] → ⊥
          some f = absurd cc

      end_put : PutKeeps Holds co came put (put_end s)
      end_put =
          by_test (PutKeeps Holds co came put) (is_empty s.line.current.pdus && is_due s.end) _
          None
          (λ f. passes (record s { end = marks.Put }) (Packet named.EndB2) refl no_dues none tt
          (λ q. true≢false (sym (and_parts (is_empty s.line.current.pdus) (is_due s.end) f).1
          ∙ ap is_due q.end)))
          (λ f. tt)

      handover_put : PutKeeps Holds co came put (put_handover s)
      handover_put =
          by_test (PutKeeps Holds co came put) (is_empty s.line.current.pdus && is_due s.handover)
          _ None
          (λ f. passes (record s { handover = marks.Put }) (Packet named.OutR1A10) refl no_dues
          none tt
          (λ q. true≢false (sym (and_parts (is_empty s.line.current.pdus) (is_due s.handover)
          f).1 ∙ ap is_due q.handover)))
          (λ f. tt)

      ping_put : PutKeeps Holds co came put (put_ping s)
      ping_put =
          by_test (PutKeeps Holds co came put)
          (is_ping_due s.ping && nat_le (s.pinged + 20) ping_room) _ None
          (λ f. goes (record s { ping = pings.NotDue; pinged = s.pinged + 20 })
          (Packet named.Ping) s.waiting refl h.room
          (up_by (is_server_down s.server) refl
          (and_parts (is_ping_due s.ping) (nat_le (s.pinged + 20) ping_room) f).0)
          (λ x. let q = h.still x in record {
            pdus = q.pdus;
            dues = q.dues;
            end = q.end;
            handover = q.handover;
            client = q.client;
          })
          none
          (λ k. subst (Kind config (of_leg os came) s.channel (Whole ++ Packet named.Ping ∷ []))
          (sym no_dues) (kind_pings config (of_leg os came) s.channel Whole
          (subst (Kind config (of_leg os came) s.channel Whole) no_dues k))))
          (λ f. tt)
        where
          up_by : (b : Bool) → is_server_down s.server ≡ b → is_ping_due s.ping ≡ true
              → is_server_down s.server ≡ false
          up_by true e f =
              absurd (true≢false (sym f ∙ ap is_ping_due (h.silent e).0))
          up_by false e f = e

    no_waiting : (dues : List Due) → waiting_by s dues ≡ None → dues ≡ []
    no_waiting [] e = refl
    no_waiting (due ∷ dues) e = absurd cc

    pub co_put : s.config ≡ config → PutKeeps Holds co came put (next_co s)
    co_put made =
        or_put co (put_answer s) _ (answer_put made)
        (λ none. or_put co (put_waiting s) _ (waiting_put none s.waiting.due refl)
        (λ e. let no_dues = no_waiting s.waiting.due e in
        or_put co (put_pdu s) _ (pdu_put none no_dues s.line.current.pdus refl)
        (λ f. or_put co (put_mark s) (put_ping s)
        (or_put co (put_end s) (put_handover s) (end_put none no_dues)
        (λ f. handover_put none no_dues))
        (λ f. ping_put none no_dues))))

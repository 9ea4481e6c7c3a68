-- what an out proxy puts to its client, in order, behind all moves
use Rattle.law_order.proofs.Vocabulary.{◌≡◌, inl, inr, ℕ, ◌&&◌, ◌||◌, Bool, true, false, true≢false, if◌then◌else◌, List, [], ◌++◌, Some, None, is_some, Ok, Err, refl, sym, ap, ◌∙◌, subst, and_parts, AllByRecursion, nat_le, Option, Result}
use Rattle.rh_sig.specs.declared.named.Named.TheVariants as named
use Rattle.rh_shell.specs.declared.stage.Stage.TheVariants as stage
use Rattle.rh_outproxy.specs.declared.state.Answer.TheVariants as answers
use Rattle.rh_outproxy.specs.declared.state.Channel.TheVariants as channels
use Rattle.rh_outproxy.specs.declared.state.ClientLeg.TheVariants as clients
use Rattle.rh_outproxy.specs.declared.state.ServerLeg.TheVariants as servers
use Rattle.law_moves.proofs.Vocabulary.{by_test, Cookie, Named, HttpFault, greatest_echo, Asked, request_verdict, Leg, Frames, PassedOver, Count, HeadRefused, HeadTaken, Due, Message, Pdu, Packet, OnLeg, Move, Up, HeadCame, PduCame, PacketCame, Puts, IsDrawn, Marks, Pings, Passage, started, all_moved, taken_by, put_by, AreAllowed, of_leg, Tells, AreCounted, packets, Stages, takes_frames, AreInTurn}
use Rattle.law_moves.proofs.Lemmas.{RowKeeps, PutKeeps, one_so}
use Rattle.law_role_outproxy.proofs.Vocabulary.{Answer, Channel, OutProxyConfig, OutProxy, is_echo_put, is_known, is_put, is_response_put, is_server_down, is_successor, joined, new_proxy, Done, is_co, is_os, taken, unexpected, head_by, may_up, up, on_pdu, drawn, mark, only_marks, Pick, next_co, next_os, put as put_of, ping, ping_after, pdu, packet, on_co, on_os, rules as proxy_rules, co_leg, os_leg, NamesNew, NamesSuccessor, OpensNew, OpensSuccessor, IsEcho, IsToClient}
use Rattle.law_role_outproxy.proofs.Vocabulary.{PutsToClient}
use Rattle.law_role_outproxy.proofs.Putting.Forms.{IsPing, HasOpened, begun_front, follows_front, opened_front, pings_front}
use Rattle.law_role_outproxy.proofs.Putting.Standing.{Core, core_of, seen, IsQuiet, quiet_core, IsServing, IsDown, due_by, Kind, At, Stands, kind_starts}
use Rattle.law_role_outproxy.proofs.Putting.Goes.{IsUnasked, is_unheard}
use Rattle.law_role_outproxy.proofs.Putting.Turns.{TurnsAt, Keeps, keeps_all, here, there, is_wanted, is_asked}
use Rattle.law_role_outproxy.proofs.Putting.ClientRows.{still_by, core_holds, unknown_down, at_down, down_holds, quiet_down, co_row, at_up, pdu_row, os_row}
use Rattle.law_role_outproxy.proofs.Putting.ClientPuts.{os_put, co_put, busy}
use Rattle.law_role_outproxy.proofs.Counted.OutProxyNames.{IsAsked}
use Rattle.law_role_outproxy.proofs.Putting.Goes as turning

module _ (config : OutProxyConfig) where
  abbrev co : Leg
  co = co_leg config.number

  abbrev os : Leg
  os = os_leg config.number

  abbrev Holds : OutProxy → List OnLeg → List OnLeg → Type 0
  Holds s came put = Stands config (seen s) (of_leg os came) (of_leg co put)

  abbrev Row : List OnLeg → List OnLeg → OnLeg → Done → Type 0
  Row came put one x = RowKeeps Holds one came put x

  module _ (s : OutProxy) (came put : List OnLeg) (h : Holds s came put) where
    -- ---- legs, heads, marks and Pings

    module _ (g : Stages) (turns : TurnsAt config g s came) where
      -- the client's leg comes up, or the server's
      up_holds : (leg : Leg) (cookie : Cookie) → may_up s leg ≡ true
          → Holds (up s leg cookie) came put
      up_holds leg cookie may =
          by_test (λ (t : OutProxy). Holds t came put) (is_co s leg) _ _
          (λ e. record {
            still = λ f. let q = h.still f in record {
              pdus = q.pdus;
              dues = q.dues;
              end = q.end;
              handover = q.handover;
              client = refl;
            };
            silent = h.silent;
            room = h.room;
            at = h.at;
          })
          (λ e. let w = is_wanted config s leg may e in starts w.1 w.2)
        where
          none : (x : Answer) → is_known s.channel ≡ true
              → IsDown x s.request s.channel (of_leg co put) → of_leg co put ≡ []
          none answers.Awaited e k = k
          none answers.EchoDue e k = k.2
          none answers.EchoPut e k = absurd (true≢false (sym e ∙ ap is_known k.1))
          none answers.EchoDrawn e k = absurd (true≢false (sym e ∙ ap is_known k.1))
          none answers.ResponseDue e k = absurd k
          none answers.TimeoutDue e k = absurd k
          none answers.Put e k = absurd k

          starts : is_known s.channel ≡ true → is_server_down s.server ≡ true
              → Holds (record s { server = servers.FirstDue; answer = answers.ResponseDue }) came
              put
          starts known down =
              let q = quiet_down config s came put h down in record {
                still = λ f. record {
                  pdus = q.pdus;
                  dues = q.dues;
                  end = q.end;
                  handover = q.handover;
                  client = q.client;
                };
                silent = λ f. absurd cc;
                room = h.room;
                at = (
                  tt,
                  subst (λ (ms : List Message). Kind config (of_leg os came) s.channel
                      (ms ++ due_by config answers.ResponseDue (is_successor s.channel))
                      s.waiting.due) (sym (none s.answer known (at_down config s came put h down)))
                      (kind_starts config (of_leg os came) s.channel s.waiting.due known
                      (h.silent down).1 q.dues),
                );
              }

      head_holds : (leg : Leg) (verdict : Result Asked HttpFault) → g leg ≡ Some stage.Head
          → Holds (head_by s verdict).0 came put
      head_holds leg (Err fault) turn = h
      head_holds leg (Ok request) turn =
          by_test (λ (r : OutProxy × Result HeadTaken HeadRefused). Holds r.0 came put)
          (nat_le request.length greatest_echo) (
            record s { answer = answers.EchoDue },
            Ok (record { behind = PassedOver; length = request.length }),
          ) (
            record s { request = Some request },
            Ok (record { behind = Frames; length = request.length }),
          )
          (λ e. down_holds config s came put h (record s { answer = answers.EchoDue }) put down
          (quiet_core (seen s) (core_of (record s { answer = answers.EchoDue })) refl quiet)
          (h.silent down).0 (h.silent down).1 h.room (u.request, u.channel, nothing))
          (λ e. down_holds config s came put h (record s { request = Some request }) put down
          (quiet_core (seen s) (core_of (record s { request = Some request })) refl quiet)
          (h.silent down).0 (h.silent down).1 h.room
          (subst (λ (x : Answer). IsDown x (Some request) s.channel (of_leg co put))
          (sym u.answer) nothing))
        where
          at_co : leg ≡ co
          at_co = turns.heads leg turn

          unheard : is_unheard (g co) ≡ true
          unheard = ap is_unheard (ap g (sym at_co) ∙ turn)

          u : IsUnasked (turning.seen s)
          u = turns.unasked unheard

          down : is_server_down s.server ≡ true
          down = unknown_down config s came put h (ap is_known u.channel)

          quiet : IsQuiet (seen s)
          quiet = quiet_down config s came put h down

          nothing : of_leg co put ≡ []
          nothing = subst (λ (x : Answer). IsDown x s.request s.channel (of_leg co put)) u.answer
              (at_down config s came put h down)

      packet_row : (leg : Leg) (number : Count) (m : Named)
          → Tells number (packets (of_leg leg came)) → takes_frames (g leg) ≡ true
          → Row came put (leg, Packet m) (packet s leg number m)
      packet_row leg number m tells turn =
          by_test (Row came put (leg, Packet m)) (is_co s leg) (on_co s number m)
          (if is_os s leg then on_os s m else unexpected s)
          (λ e. subst (λ (l : Leg). Tells number (packets (of_leg l came))
          → Row came put (l, Packet m) (on_co s number m)) (here config s leg turns.made e)
          (λ first. co_row config s came put h number m first turns.known) tells)
          (λ e. by_test (Row came put (leg, Packet m)) (is_os s leg) (on_os s m) (unexpected s)
          (λ f. subst (λ (l : Leg). takes_frames (g l) ≡ true
          → Row came put (l, Packet m) (on_os s m))
          (there config s leg turns.made f)
          (λ x. os_row config s came put h (turns.served x) m) turn)
          (λ f. h))

      pdus_row : (leg : Leg) (number : Count) (bytes : List ℕ) → takes_frames (g leg) ≡ true
          → Row came put (leg, Pdu bytes) (pdu s leg number bytes)
      pdus_row leg number bytes turn =
          by_test (Row came put (leg, Pdu bytes)) (is_os s leg) (on_pdu s bytes) (unexpected s)
          (λ f. subst (λ (l : Leg). takes_frames (g l) ≡ true
          → Row came put (l, Pdu bytes) (on_pdu s bytes))
          (there config s leg turns.made f)
          (λ x. pdu_row config s came put h (turns.served x) bytes) turn)
          (λ f. h)

      puts : (leg : Leg) → PutKeeps Holds leg came put (put_of s leg)
      puts leg =
          by_test (PutKeeps Holds leg came put) (is_co s leg) (next_co s)
          (if is_os s leg then next_os s else None)
          (λ e. subst (λ (l : Leg). PutKeeps Holds l came put (next_co s))
          (here config s leg turns.made e) (co_put config s came put h turns.made))
          (λ e. by_test (PutKeeps Holds leg came put) (is_os s leg) (next_os s) None
          (λ f. subst (λ (l : Leg). PutKeeps Holds l came put (next_os s))
          (there config s leg turns.made f) (os_put config s came put h))
          (λ f. tt))

    drawn_holds : (leg : Leg) → Holds (drawn s leg) came put
    drawn_holds leg =
        by_test (λ (t : OutProxy). Holds t came put) (is_co s leg && is_echo_put s.answer)
        (record s { answer = answers.EchoDrawn }) s
        (λ e. by (is_server_down s.server) refl s.answer refl
        (and_parts (is_co s leg) (is_echo_put s.answer) e).1)
        (λ e. h)
      where
        draws : is_server_down s.server ≡ true
            → IsDown answers.EchoDrawn s.request s.channel (of_leg co put)
            → Holds (record s { answer = answers.EchoDrawn }) came put
        draws down k =
            let q = quiet_down config s came put h down in
            down_holds config s came put h (record s { answer = answers.EchoDrawn }) put down
            (record {
              pdus = q.pdus;
              dues = q.dues;
              end = q.end;
              handover = q.handover;
              client = q.client;
            }) (h.silent down).0 (h.silent down).1 h.room k

        by : (b : Bool) → is_server_down s.server ≡ b → (x : Answer) → s.answer ≡ x
            → is_echo_put x ≡ true → Holds (record s { answer = answers.EchoDrawn }) came put
        by b e answers.Awaited f t = absurd cc
        by b e answers.EchoDue f t = absurd cc
        by true e answers.EchoPut f t =
            draws e (subst (λ (x : Answer). IsDown x s.request s.channel (of_leg co put)) f
            (at_down config s came put h e))
        by false e answers.EchoPut f t =
            absurd (subst IsServing f (at_up config s came put h e).0)
        by b e answers.EchoDrawn f t = absurd cc
        by b e answers.ResponseDue f t = absurd cc
        by b e answers.TimeoutDue f t = absurd cc
        by b e answers.Put f t = absurd cc

    mark_holds : (leg : Leg) → only_marks s leg ≡ true → Holds (mark s leg) came put
    mark_holds leg may =
        let b = busy config s came put h
        (λ q. unmarked (is_put s.end) (is_co s leg) (is_put s.handover)
        (ap is_put q.end) (ap is_put q.handover) may) in
        by_test (λ (t : OutProxy). Holds t came put) (is_co s leg) _ _
        (λ e. core_holds config s (record s { client = clients.Marked }) came put refl b.0 b.1 h)
        (λ e. record {
          still = λ f. absurd (true≢false (sym f
              ∙ still_by false (is_some (joined s.channel)) refl b.1));
          silent = λ f. absurd cc;
          room = h.room;
          at = at_up config s came put h b.0;
        })
      where
        unmarked : (a c b : Bool) → a ≡ false → b ≡ false → (a || (c && b)) ≡ true → ⊥
        unmarked true c b e f t = absurd cc
        unmarked false true true e f t = absurd cc
        unmarked false true false e f t = absurd cc
        unmarked false false b e f t = absurd cc

    ping_holds : (leg : Leg) → is_some (ping_after s leg) ≡ true → Holds (ping s leg) came put
    ping_holds leg may =
        record {
          still = λ f. let q = h.still f in record {
            pdus = q.pdus;
            dues = q.dues;
            end = q.end;
            handover = q.handover;
            client = q.client;
          };
          silent = λ f. absurd (not_down s.answer (response' (is_co s leg)
              (is_response_put s.answer) may) (at_down config s came put h f));
          room = h.room;
          at = h.at;
        }
      where
        response' : (a b : Bool) → is_some (if a && b then Some s.config.timeout else None) ≡ true
            → b ≡ true
        response' true true e = refl
        response' true false e = absurd cc
        response' false b e = absurd cc

        not_down : (x : Answer) → is_response_put x ≡ true
            → IsDown x s.request s.channel (of_leg co put) → ⊥
        not_down answers.Awaited e k = absurd cc
        not_down answers.EchoDue e k = absurd cc
        not_down answers.EchoPut e k = absurd cc
        not_down answers.EchoDrawn e k = absurd cc
        not_down answers.ResponseDue e k = k
        not_down answers.TimeoutDue e k = k
        not_down answers.Put e k = k

  -- ---- moves

  abbrev HoldsAt : Passage OutProxy → Type 0
  HoldsAt p = Holds p.role p.came p.put

  by_row : (p : Passage OutProxy) (leg : Leg) (m : Message) (x : Done)
      → Row p.came p.put (leg, m) x → HoldsAt (taken_by p leg m x)
  by_row p leg m (t, Ok taken) h = h
  by_row p leg m (t, Err why) h = h

  by_put : (p : Passage OutProxy) (leg : Leg) (pick : Pick) → HoldsAt p
      → PutKeeps Holds leg p.came p.put pick → HoldsAt (put_by p leg pick)
  by_put p leg None h goes = h
  by_put p leg (Some one) h goes = goes

  keeps : Keeps config Holds
  keeps g p (Up leg cookie) may counted turn turns h =
      up_holds p.role p.came p.put h g turns leg cookie may.1
  keeps g p (HeadCame leg text) may counted turn turns h =
      head_holds p.role p.came p.put h g turns leg (request_verdict false text) turn
  keeps g p (PduCame leg number bytes) may counted turn turns h =
      by_row p leg (Pdu bytes) (pdu p.role leg number bytes)
      (pdus_row p.role p.came p.put h g turns leg number bytes turn)
  keeps g p (PacketCame leg number m) may counted turn turns h =
      by_row p leg (Packet m) (packet p.role leg number m)
      (packet_row p.role p.came p.put h g turns leg number m counted turn)
  keeps g p (Puts leg) may counted turn turns h =
      by_put p leg (put_of p.role leg) h (puts p.role p.came p.put h g turns leg)
  keeps g p (IsDrawn leg) may counted turn turns h = drawn_holds p.role p.came p.put h leg
  keeps g p (Marks leg) may counted turn turns h = mark_holds p.role p.came p.put h leg may.1
  keeps g p (Pings leg) may counted turn turns h = ping_holds p.role p.came p.put h leg turn

  starts : Holds (new_proxy config) [] []
  starts = record {
    still = λ e. record { pdus = refl; dues = refl; end = refl; handover = refl; client = refl };
    silent = λ e. (refl, refl);
    room = refl;
    at = refl;
  }

  -- ---- what was put

  names_new : (connection cookie : Cookie) (m : Named) → NamesNew connection cookie m
      → OpensNew m
  names_new connection cookie (named.ConnA1 version other own window) h = tt
  names_new connection cookie m h = absurd h

  names_successor : (connection predecessor cookie : Cookie) (m : Named)
      → NamesSuccessor connection predecessor cookie m → OpensSuccessor m
  names_successor connection predecessor cookie
      (named.OutR1A3 version other before own window) h = tt
  names_successor connection predecessor cookie m h = absurd h

  down_puts : (x : Answer) (request : Option Asked) (c : Channel) (put : List Message)
      → IsDown x request c put → IsEcho put
  down_puts answers.Awaited request c put k = subst IsEcho (sym k) tt
  down_puts answers.EchoDue request c put k = subst IsEcho (sym k.2) tt
  down_puts answers.EchoPut request c put k = subst IsEcho (sym k.2) refl
  down_puts answers.EchoDrawn request c put k = subst IsEcho (sym k.2) refl
  down_puts answers.ResponseDue request c put k = absurd k
  down_puts answers.TimeoutDue request c put k = absurd k
  down_puts answers.Put request c put k = absurd k

  up_puts : (c : Channel) (asked came put more : List Message) (dues : List Due)
      → IsAsked c asked → Kind config came c (put ++ more) dues
      → IsToClient config asked came put
  up_puts channels.Unknown asked came put more dues a k = absurd k
  up_puts (channels.New connection cookie) asked came put more dues a k =
      inr (inl (
        one_so (NamesNew connection cookie) OpensNew (names_new connection cookie) asked a,
        begun_front config (AllByRecursion IsPing) came put more (pings_front came) k,
      ))
  up_puts (channels.Joined connection cookie) asked came put more dues a (inl k) =
      inr (inl (
        one_so (NamesNew connection cookie) OpensNew (names_new connection cookie) asked a,
        begun_front config (AllByRecursion IsPing) came put more (pings_front came) k.0,
      ))
  up_puts (channels.Joined connection cookie) asked came put more dues a (inr k) =
      inr (inl (
        one_so (NamesNew connection cookie) OpensNew (names_new connection cookie) asked a,
        begun_front config (HasOpened came) came put more (opened_front came) k.0,
      ))
  up_puts (channels.Successor connection predecessor cookie) asked came put more dues a k =
      inr (inr (
        one_so (NamesSuccessor connection predecessor cookie) OpensSuccessor
            (names_successor connection predecessor cookie) asked a,
        follows_front config came put more k.0,
      ))

  at_puts : (b : Bool) (a : Core) (asked came put : List Message) → IsAsked a.channel asked
      → At config b a came put → IsToClient config asked came put
  at_puts true a asked came put is k = inl (down_puts a.answer a.request a.channel put k)
  at_puts false a asked came put is k =
      up_puts a.channel asked came put (due_by config a.answer (is_successor a.channel))
      a.waiting.due is k.1

pub opens_in_order : (config : OutProxyConfig) (moves : List Move)
    → AreAllowed proxy_rules (started (new_proxy config)) moves
    → AreCounted proxy_rules (started (new_proxy config)) moves
    → AreInTurn proxy_rules (new_proxy config) moves
    → PutsToClient config (all_moved proxy_rules (started (new_proxy config)) moves)
opens_in_order config moves may counted turn =
    let p = all_moved proxy_rules (started (new_proxy config)) moves in
    let h = keeps_all config (Holds config) (keeps config) (starts config) moves may counted turn
    in
    at_puts config (is_server_down p.role.server) (core_of p.role)
    (of_leg (co_leg config.number) p.came) (of_leg (os_leg config.number) p.came)
    (of_leg (co_leg config.number) p.put) (is_asked config moves may counted turn) h.at

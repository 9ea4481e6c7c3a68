-- what an out proxy puts to the server: the packet that opens its channel, and acknowledgements
use Rattle.rh_window.specs.Receiving as windows
use Rattle.law_order.proofs.Vocabulary.{◌≡◌, ℕ, ◌||◌, Bool, true, false, true≢false, if◌then◌else◌, List, [], ◌∷◌, ◌++◌, length, Some, None, Ok, Err, refl, sym, ap, ◌∙◌, subst, IfSome, Option}
use Rattle.rh_sig.specs.declared.named.Named.TheVariants as named
use Rattle.rh_outproxy.specs.declared.state.Channel.TheVariants as channels
use Rattle.rh_outproxy.specs.declared.state.ClientLeg.TheVariants as clients
use Rattle.rh_outproxy.specs.declared.state.ServerLeg.TheVariants as servers
use Rattle.law_moves.proofs.Vocabulary.{after_sent, may_send, Ack, by_test, Cookie, Named, PROTOCOL_VERSION, Incoming, after_take, after_told, fresh, due, Leg, Current, Message, Pdu, Packet, OnLeg, Move, Up, HeadCame, PduCame, PacketCame, Puts, IsDrawn, Marks, Pings, Passage, started, all_moved, taken_by, put_by, AreAllowed, of_leg, HasOne, AreCounted, AreInTurn}
use Rattle.law_moves.proofs.Lemmas.{RowKeeps, PutKeeps, here_more, other_more}
use Rattle.law_role_outproxy.proofs.Vocabulary.{Channel, OutProxyConfig, ServerLeg, OutProxy, has_come, is_over, is_put, is_server_down, is_server_first, is_server_marked, is_echo_drawn, joined, new_proxy, Done, is_co, is_os, first_packet, may_up, up, head, ack_due, drawn, mark, Pick, or_else, put_answer, put_waiting, pdu_by, put_pdu, put_mark, put_ping, next_co, first_by, put_first, ack_by, put_ack, next_os, put as put_of, pdu, packet, rules as proxy_rules, co_leg, os_leg}
use Rattle.law_role_outproxy.proofs.Vocabulary.{NamesNew, OpensServer, PutsToServer}
use Rattle.law_role_outproxy.proofs.Conditions.{either_left, either_right}
use Rattle.law_role_outproxy.proofs.OrderKept.{works_where}
use Rattle.law_role_outproxy.proofs.Putting.Turns.{Keeps, keeps_all, here, there, is_wanted}
use Rattle.law_role_outproxy.proofs.Putting.ServerRows.{Seen, seen, IsOf, same_holds, packet_row, pdu_row, at_puts, begun_acks, undue, same_head, same_drawn, quiet_answer, quiet_waiting, quiet_mark, quiet_ping}
use Rattle.law_role_outproxy.proofs.Counted.OutProxyNames.{IsAsked}
use Rattle.law_role_outproxy.proofs.Putting.ServerRows as server

module _ (config : OutProxyConfig) where
  abbrev co : Leg
  co = co_leg config.number

  abbrev os : Leg
  os = os_leg config.number

  abbrev At : ServerLeg → Channel → List Message → List Message → Type 0
  At = server.At config

  abbrev IsBegun : Channel → List Message → List Message → Type 0
  IsBegun = server.IsBegun config

  abbrev ToServer : Seen → List Message → List Message → Type 0
  ToServer = server.ToServer config

  abbrev Holds : OutProxy → List OnLeg → List OnLeg → Type 0
  Holds s came put = ToServer (seen s) (of_leg co came) (of_leg os put)

  abbrev Row : List OnLeg → List OnLeg → OnLeg → Done → Type 0
  Row came put one x = RowKeeps Holds one came put x

  module _ (s : OutProxy) (came put : List OnLeg) (h : Holds s came put) where
    -- ---- what is put

    or_put : (leg : Leg) (a b : Pick) → PutKeeps Holds leg came put a
        → (a ≡ None → PutKeeps Holds leg came put b) → PutKeeps Holds leg came put (or_else a b)
    or_put leg None b g k = k refl
    or_put leg (Some pick) b g k = g

    -- to the client
    to_client : (t : OutProxy) (m : Message) → Holds t came put
        → Holds t came (put ++ (co, m) ∷ [])
    to_client t m k =
        subst (ToServer (seen t) (of_leg co came)) (sym (other_more os put (co, m) refl)) k

    client_put : (pick : Pick) → IfSome pick (λ (one : OutProxy × Message). seen one.0 ≡ seen s)
        → PutKeeps Holds co came put pick
    client_put None same = tt
    client_put (Some one) same = to_client one.0 one.1 (same_holds config s one.0 came put same h)

    front_put : (pdus : List (List ℕ)) → s.line.current.pdus ≡ pdus
        → PutKeeps Holds co came put (pdu_by s pdus)
    front_put [] e = tt
    front_put (pdu ∷ pdus) e =
        by_test (PutKeeps Holds co came put) (may_send s.window (length pdu)) _ None
        (λ f. to_client
        (record s { line = after_take s.line; window = after_sent s.window (length pdu) })
        (Pdu pdu) (record {
          quiet = λ down.
              let no' = sym e ∙ ap (λ (c : Incoming). c.pdus) (h.quiet down) in absurd cc;
          at = h.at;
        }))
        (λ f. tt)

    co_put : PutKeeps Holds co came put (next_co s)
    co_put =
        or_put co (put_answer s) _ (client_put (put_answer s) (quiet_answer s s.answer))
        (λ e. or_put co (put_waiting s) _
        (client_put (put_waiting s) (quiet_waiting s s.waiting.due))
        (λ e. or_put co (put_pdu s) _ (front_put s.line.current.pdus refl)
        (λ e. or_put co (put_mark s) (put_ping s) (client_put (put_mark s) (quiet_mark s))
        (λ e. client_put (put_ping s) (quiet_ping s)))))

    -- to the server
    to_server : (t : OutProxy) (m : Message)
        → (is_server_down t.server ≡ true
        → t.line.current ≡ fresh (windows.opened config.window))
        → At t.server t.channel (of_leg co came) (of_leg os put ++ m ∷ [])
        → Holds t came (put ++ (os, m) ∷ [])
    to_server t m quiet at =
        subst (ToServer (seen t) (of_leg co came)) (sym (here_more os put m))
        (record { quiet = quiet; at = at })

    module _ (made : s.config ≡ config) (asked : IsAsked s.channel (of_leg co came)) where
      begins : (c : Channel) (cookie : Cookie) (m : Named) → of_leg os put ≡ [] → IsOf c cookie
          → OpensServer config (of_leg co came) cookie m
          → IsBegun c (of_leg co came) (of_leg os put ++ Packet m ∷ [])
      begins c cookie m none is opens =
          subst (λ (ms : List Message). IsBegun c (of_leg co came) (ms ++ Packet m ∷ []))
          (sym none) (record {
            begins = record {
              packet = m;
              is = refl;
              cookie = cookie;
              opens = opens;
              acks = tt;
            };
            channel = is;
          })

      opens_new : (m : Channel) (connection cookie : Cookie)
          → HasOne (NamesNew connection cookie) (of_leg co came)
          → OpensServer config (of_leg co came) cookie
          (named.ConnA2 PROTOCOL_VERSION connection cookie s.config.lifetime s.config.window)
      opens_new m connection cookie has = (
        refl,
        refl,
        ap (λ (c : OutProxyConfig). c.lifetime) made,
        ap (λ (c : OutProxyConfig). c.window) made,
        has,
      )

      begun : (c : Channel) (m : Message) → s.channel ≡ c
          → IsBegun c (of_leg co came) (of_leg os put ++ m ∷ [])
          → Holds (record s { server = servers.Up }) came (put ++ (os, m) ∷ [])
      begun c m e is =
          to_server (record s { server = servers.Up }) m (λ down. absurd cc)
          (subst (λ (d : Channel). IsBegun d (of_leg co came) (of_leg os put ++ m ∷ [])) (sym e)
          is)

      first_put : (c : Channel) → s.channel ≡ c → of_leg os put ≡ []
          → PutKeeps Holds os came put (first_by s (first_packet s c))
      first_put channels.Unknown e none = tt
      first_put (channels.New connection cookie) e none =
          begun (channels.New connection cookie) _ e
          (begins (channels.New connection cookie) cookie
          (named.ConnA2 PROTOCOL_VERSION connection cookie s.config.lifetime s.config.window)
          none refl (opens_new s.channel connection cookie
          (subst (λ (d : Channel). IsAsked d (of_leg co came)) e asked)))
      first_put (channels.Joined connection cookie) e none =
          begun (channels.Joined connection cookie) _ e
          (begins (channels.Joined connection cookie) cookie
          (named.ConnA2 PROTOCOL_VERSION connection cookie s.config.lifetime s.config.window)
          none refl (opens_new s.channel connection cookie
          (subst (λ (d : Channel). IsAsked d (of_leg co came)) e asked)))
      first_put (channels.Successor connection predecessor cookie) e none =
          begun (channels.Successor connection predecessor cookie) _ e
          (begins (channels.Successor connection predecessor cookie) cookie
          (named.OutR1A4 PROTOCOL_VERSION connection predecessor cookie s.config.lifetime
          s.config.window s.config.timeout)
          none refl (
            refl,
            refl,
            ap (λ (c : OutProxyConfig). c.lifetime) made,
            ap (λ (c : OutProxyConfig). c.window) made,
            ap (λ (c : OutProxyConfig). c.timeout) made,
            subst (λ (d : Channel). IsAsked d (of_leg co came)) e asked,
          ))

      first_none : (l : ServerLeg) → is_server_first l ≡ true
          → At l s.channel (of_leg co came) (of_leg os put) → of_leg os put ≡ []
      first_none servers.Down e k = absurd cc
      first_none servers.FirstDue e k = k
      first_none servers.Up e k = absurd cc
      first_none servers.Marked e k = absurd cc

      -- where nothing came from the server, nothing is to acknowledge
      no_ack : is_server_down s.server ≡ true → ack_due s ≡ None
      no_ack down =
          by_test (λ (o : Option Ack). o ≡ None) (has_come s.end || has_come s.handover) None
          (due s.line Current) (λ e. refl)
          (λ e. ap (λ (c : Incoming). windows.due c.window) (h.quiet down)
          ∙ undue config.window)

      no_first : (c : Channel) (cookie : Cookie) → joined c ≡ Some cookie
          → first_by s (first_packet s c) ≡ None → ⊥
      no_first channels.Unknown cookie e f = absurd cc
      no_first (channels.New connection own) cookie e f = absurd cc
      no_first (channels.Joined connection own) cookie e f = absurd cc
      no_first (channels.Successor connection predecessor own) cookie e f = absurd cc

      acked : (l : ServerLeg) (cookie : Cookie) (ack : Ack) → s.server ≡ l
          → joined s.channel ≡ Some cookie → ack_due s ≡ Some ack → put_first s ≡ None
          → is_server_marked s.server ≡ false
          → At l s.channel (of_leg co came) (of_leg os put)
          → (is_server_down s.server ≡ false)
          × At l s.channel (of_leg co came)
          (of_leg os put ++ Packet (named.Ack ack.received ack.available cookie) ∷ [])
      acked servers.Down cookie ack e is due first live k =
          let no' = sym due ∙ no_ack (ap is_server_down e) in absurd cc
      acked servers.FirstDue cookie ack e is due first live k =
          absurd (no_first s.channel cookie is
          (sym (ap (λ (b : Bool). if b then first_by s (first_packet s s.channel) else None)
          (ap is_server_first e)) ∙ first))
      acked servers.Up cookie ack e is due first live k = (
        ap is_server_down e,
        begun_acks config s.channel (of_leg co came) (of_leg os put) ack.received ack.available
            cookie is
            k,
      )
      acked servers.Marked cookie ack e is due first live k =
          let no' = sym live ∙ ap is_server_marked e in absurd cc

      ack_put : is_server_marked s.server ≡ false → put_first s ≡ None → (o : Option Cookie)
          → joined s.channel ≡ o → (a : Option Ack) → ack_due s ≡ a
          → PutKeeps Holds os came put (ack_by s o a)
      ack_put live first None e a f = tt
      ack_put live first (Some cookie) e None f = tt
      ack_put live first (Some cookie) e (Some ack) f =
          let k = acked s.server cookie ack refl e f first live h.at in
          to_server (record s { line = after_told s.line Current ack })
          (Packet (named.Ack ack.received ack.available cookie))
          (λ down. absurd (true≢false (sym down ∙ k.0))) k.1

      os_put : is_server_marked s.server ≡ false → PutKeeps Holds os came put (next_os s)
      os_put live =
          or_put os (put_first s) (put_ack s)
          (by_test (PutKeeps Holds os came put) (is_server_first s.server)
          (first_by s (first_packet s s.channel)) None
          (λ e. first_put s.channel refl (first_none s.server e h.at)) (λ e. tt))
          (λ e. ack_put live e (joined s.channel) refl (ack_due s) refl)

      puts : (leg : Leg) → is_server_marked s.server ≡ false
          → PutKeeps Holds leg came put (put_of s leg)
      puts leg live =
          by_test (PutKeeps Holds leg came put) (is_co s leg) (next_co s)
          (if is_os s leg then next_os s else None)
          (λ e. subst (λ (l : Leg). PutKeeps Holds l came put (next_co s))
          (here config s leg made e) co_put)
          (λ e. by_test (PutKeeps Holds leg came put) (is_os s leg) (next_os s) None
          (λ f. subst (λ (l : Leg). PutKeeps Holds l came put (next_os s))
          (there config s leg made f) (os_put live))
          (λ f. tt))

    -- ---- legs

    at_down : (l : ServerLeg) (c : Channel) (came put : List Message) → is_server_down l ≡ true
        → At l c came put → put ≡ []
    at_down servers.Down c came put e k = k
    at_down servers.FirstDue c came put e k = k
    at_down servers.Up c came put e k = absurd cc
    at_down servers.Marked c came put e k = absurd cc

    up_holds : (leg : Leg) (cookie : Cookie) → may_up s leg ≡ true
        → Holds (up s leg cookie) came put
    up_holds leg cookie may =
        by_test (λ (t : OutProxy). Holds t came put) (is_co s leg) _ _
        (λ e. same_holds config s (record s { client = clients.Up }) came put refl h)
        (λ e. record {
          quiet = λ down. absurd cc;
          at = at_down s.server s.channel (of_leg co came) (of_leg os put)
              (is_wanted config s leg may e).2 h.at;
        })

    mark_holds : (leg : Leg) → Holds (mark s leg) came put
    mark_holds leg =
        by_test (λ (t : OutProxy). Holds t came put) (is_co s leg) _ _
        (λ e. same_holds config s (record s { client = clients.Marked }) came put refl h)
        (λ e. record {
          quiet = λ down. absurd cc;
          at = at_puts config s.server s.channel (of_leg co came) (of_leg os put) h.at;
        })

  -- ---- moves

  abbrev HoldsAt : Passage OutProxy → Type 0
  HoldsAt p = Holds p.role p.came p.put

  by_row : (p : Passage OutProxy) (leg : Leg) (m : Message) (x : Done)
      → Row p.came p.put (leg, m) x → HoldsAt (taken_by p leg m x)
  by_row p leg m (t, Ok taken) h = h
  by_row p leg m (t, Err why) h = h

  by_put : (p : Passage OutProxy) (leg : Leg) (pick : Pick) → HoldsAt p
      → PutKeeps Holds leg p.came p.put pick → HoldsAt (put_by p leg pick)
  by_put p leg None h goes = h
  by_put p leg (Some one) h goes = goes

  live : (s : OutProxy) → is_over s ≡ false → is_server_marked s.server ≡ false
  live s e =
      either_left (is_server_marked s.server) (is_put s.handover)
      (either_right (is_echo_drawn s.answer) (is_server_marked s.server || is_put s.handover) e)

  keeps : Keeps config Holds
  keeps g p (Up leg cookie) may counted turn turns h =
      up_holds p.role p.came p.put h leg cookie may.1
  keeps g p (HeadCame leg text) may counted turn turns h =
      same_holds config p.role (head p.role leg text).0 p.came p.put (same_head p.role leg text) h
  keeps g p (PduCame leg number bytes) may counted turn turns h =
      by_row p leg (Pdu bytes) (pdu p.role leg number bytes)
      (pdu_row config p.role p.came p.put h g turns leg number bytes turn)
  keeps g p (PacketCame leg number m) may counted turn turns h =
      by_row p leg (Packet m) (packet p.role leg number m)
      (packet_row config p.role p.came p.put h g turns leg number m counted)
  keeps g p (Puts leg) may counted turn turns h =
      by_put p leg (put_of p.role leg) h
      (puts p.role p.came p.put h turns.made turns.asked leg
      (live p.role (works_where p.role leg may)))
  keeps g p (IsDrawn leg) may counted turn turns h =
      same_holds config p.role (drawn p.role leg) p.came p.put (same_drawn p.role leg) h
  keeps g p (Marks leg) may counted turn turns h = mark_holds p.role p.came p.put h leg
  keeps g p (Pings leg) may counted turn turns h = h

pub opens_first : (config : OutProxyConfig) (moves : List Move)
    → AreAllowed proxy_rules (started (new_proxy config)) moves
    → AreCounted proxy_rules (started (new_proxy config)) moves
    → AreInTurn proxy_rules (new_proxy config) moves
    → PutsToServer config (all_moved proxy_rules (started (new_proxy config)) moves)
opens_first config moves may counted turn =
    let p = all_moved proxy_rules (started (new_proxy config)) moves in
    let h = keeps_all config (Holds config) (keeps config)
    (record { quiet = λ down. refl; at = refl }) moves may counted turn in
    at_puts config p.role.server p.role.channel (of_leg (co_leg config.number) p.came)
    (of_leg (os_leg config.number) p.put) h.at

-- each step of an out proxy keeps that what its window told was put
use Rattle.law_order.proofs.Vocabulary.{◌≡◌, ◌⊎◌, ℕ, ◌≤◌, ◌+◌, ◌++◌, Bool, true, false, true≢false, ◌&&◌, List, [], ◌∷◌, length, Some, None, Ok, Err, inl, inr, arith, refl, sym, ap, ◌∙◌, subst, rules, and_parts, if◌then◌else◌, IfSome, Option, is_ok}
use Rattle.rh_sig.specs.declared.named.Named.TheVariants as named
use Rattle.rh_line.specs.Lines.{taken as taken_line}
use Rattle.rh_line.specs.Lines as lines
use Rattle.rh_window.specs.Receiving as windows
use Rattle.rh_outproxy.specs.declared.state.Answer.TheVariants as answers
use Rattle.rh_outproxy.specs.declared.state.Channel.TheVariants as channels
use Rattle.rh_outproxy.specs.declared.state.ClientLeg.TheVariants as clients
use Rattle.rh_outproxy.specs.declared.state.ServerLeg.{ServerLeg}
use Rattle.rh_outproxy.specs.declared.state.ServerLeg.TheVariants as servers
use Rattle.law_moves.proofs.Vocabulary.{Receiver, may_send, Ack, by_test, Cookie, Named, Incoming, Line, admitted as admitted_channel, channel_verdict, is_empty, moved_on, released, settled, Leg, Count, Due, Message, Pdu, Packet, OnLeg, Move, started, all_moved, of_leg}
use Rattle.law_moves.proofs.Lemmas.{RowKeeps, PutKeeps, StepsKeep, here_more, last_one_so, leg_is, leg_more, moves_keep, one_more_so}
use Rattle.law_role_outproxy.proofs.Vocabulary.{Answer, Channel, OutProxyConfig, OutProxy, new_proxy, joined, is_server_first, Done, is_co, is_os, unexpected, takes_pdus, up, head, first_packet, admitted, on_pdu, ack_due, drawn, mark, Pick, or_else, answer_by, put_answer, waiting_by, put_waiting, pdu_by, put_pdu, put_end, put_handover, put_mark, put_ping, next_co, first_by, put_first, ack_by, put_ack, next_os, put as put_of}
use Rattle.law_role_outproxy.proofs.Vocabulary.{packet, pdu, on_co, on_os, rules as proxy_rules}
use Rattle.law_role_outproxy.specs.Sending.{os_leg}
use Rattle.law_role_edges.specs.Edges.{edge_told}
use Rattle.law_role_edges.specs.OutProxies.{IsToldIn, TellsServer}

-- what the facts are about
record Seen : Type 0 where
  config : OutProxyConfig
  server : ServerLeg
  told : ℕ
  finished : Bool

abbrev seen : OutProxy → Seen
seen s = record {
  config = s.config;
  server = s.server;
  told = s.line.current.window.told;
  finished = s.line.finished;
}

abbrev Same : OutProxy → OutProxy → Type 0
Same s t = seen t ≡ seen s

abbrev Tells : ℕ → Named → Type 0
Tells edge m = edge ≤ edge_told m

-- ---- what leaves these alone

same_co : (s : OutProxy) (count : Count) (m : Named) → Same s (on_co s count m).0
same_co s count m = search rules

same_os : (s : OutProxy) (m : Named) → Same s (on_os s m).0
same_os s m = search rules

same_packet : (s : OutProxy) (leg : Leg) (count : Count) (m : Named)
    → Same s (packet s leg count m).0
same_packet s leg count m =
    by_test (λ (d : Done). Same s d.0) (is_co s leg) (on_co s count m)
    (if is_os s leg then on_os s m else unexpected s) (λ e. same_co s count m)
    (λ e. by_test (λ (d : Done). Same s d.0) (is_os s leg) (on_os s m) (unexpected s)
    (λ f. same_os s m) (λ f. refl))

pub told_admitted : (c : Incoming) (bytes : List ℕ)
    → (admitted_channel c bytes).window.told ≡ c.window.told
told_admitted c bytes =
    by_test (λ (d : Incoming). d.window.told ≡ c.window.told) (is_ok (channel_verdict c bytes)) _ c
    (λ e. by_test (λ (r : Receiver). r.told ≡ c.window.told)
    (is_ok (windows.admit_verdict c.window (length bytes))) _ c.window (λ f. refl) (λ f. refl))
    (λ e. refl)

same_admitted : (s : OutProxy) (bytes : List ℕ) → Same s (admitted s bytes).0
same_admitted s bytes =
    ap (λ (told : ℕ). record {
      config = s.config;
      server = s.server;
      told = told;
      finished = s.line.finished;
    }) (told_admitted s.line.current bytes)

same_pdu : (s : OutProxy) (leg : Leg) (count : Count) (bytes : List ℕ)
    → Same s (pdu s leg count bytes).0
same_pdu s leg count bytes =
    by_test (λ (d : Done). Same s d.0) (is_os s leg) (on_pdu s bytes) (unexpected s)
    (λ e. by_test (λ (d : Done). Same s d.0) (takes_pdus s) (admitted s bytes) (unexpected s)
    (λ f. same_admitted s bytes) (λ f. refl))
    (λ e. refl)

same_head : (s : OutProxy) (leg : Leg) (text : List ℕ) → Same s (head s leg text).0
same_head s leg text = search rules

same_drawn : (s : OutProxy) (leg : Leg) → Same s (drawn s leg)
same_drawn s leg = search rules

module _ (config : OutProxyConfig) where
  abbrev os : Leg
  os = os_leg config.number

  -- what the window told from the beginning, the first packet tells; what more it told, others told
  record Told (x : Seen) (put : List OnLeg) : Type 0 where
    is : x.config ≡ config
    unfinished : x.finished ≡ false
    least : (x.told ≤ config.window) ⊎ IsToldIn x.told (of_leg os put)
    up : x.server ≡ servers.Up → IsToldIn x.told (of_leg os put)

  abbrev Holds : OutProxy → List OnLeg → List OnLeg → Type 0
  Holds s came put = Told (seen s) put

  same_holds : (s t : OutProxy) (came put : List OnLeg) → Same s t → Holds s came put
      → Holds t came put
  same_holds s t came put same h = subst (λ (x : Seen). Told x put) (sym same) h

  row_on : (one : OnLeg) (came put : List OnLeg) (x : Done) → Told (seen x.0) put
      → RowKeeps Holds one came put x
  row_on one came put (t, Ok taken) h = h
  row_on one came put (t, Err why) h = h

  up_row : (s : OutProxy) (leg : Leg) (cookie : Cookie) (came put : List OnLeg)
      → Holds s came put → Holds (up s leg cookie) came put
  up_row s leg cookie came put h =
      by_test (λ (t : OutProxy). Holds t came put) (is_co s leg)
      (record s { client = clients.Up })
      (record s { server = servers.FirstDue; answer = answers.ResponseDue }) (λ e. h)
      (λ e. record {
        is = h.is;
        unfinished = h.unfinished;
        least = h.least;
        up = λ f. absurd cc;
      })

  mark_row : (s : OutProxy) (leg : Leg) (came put : List OnLeg) → Holds s came put
      → Holds (mark s leg) came put
  mark_row s leg came put h =
      by_test (λ (t : OutProxy). Holds t came put) (is_co s leg)
      (record s { client = clients.Marked }) (record s { server = servers.Marked }) (λ e. h)
      (λ e. record {
        is = h.is;
        unfinished = h.unfinished;
        least = h.least;
        up = λ f. absurd cc;
      })

  -- ---- what is put

  -- more is put
  told_more : (edge : ℕ) (put : List OnLeg) (one : OnLeg) → IsToldIn edge (of_leg os put)
      → IsToldIn edge (of_leg os (put ++ one ∷ []))
  told_more edge put one h =
      subst (IsToldIn edge) (sym (leg_more os put one))
      (one_more_so (Tells edge) (of_leg os put) (of_leg os (one ∷ [])) h)

  -- and that tells it
  told_last : (edge : ℕ) (put : List OnLeg) (m : Named) → edge ≤ edge_told m
      → IsToldIn edge (of_leg os (put ++ (os, Packet m) ∷ []))
  told_last edge put m tells =
      subst (IsToldIn edge) (sym (here_more os put (Packet m)))
      (last_one_so (Tells edge) (of_leg os put) m tells)

  still : (x : Seen) (put : List OnLeg) (one : OnLeg) → Told x put → Told x (put ++ one ∷ [])
  still x put one h = record {
    is = h.is;
    unfinished = h.unfinished;
    least = by h.least;
    up = λ e. told_more x.told put one (h.up e);
  }
    where
      by : (x.told ≤ config.window) ⊎ IsToldIn x.told (of_leg os put)
          → (x.told ≤ config.window) ⊎ IsToldIn x.told (of_leg os (put ++ one ∷ []))
      by (inl low) = inl low
      by (inr told) = inr (told_more x.told put one told)

  -- what is put tells all
  told_all : (x : Seen) (put : List OnLeg) (server : ServerLeg) (told : ℕ) (m : Named) → Told x put
      → IsToldIn told (of_leg os (put ++ (os, Packet m) ∷ []))
      → Told (record {
        config = x.config;
        server = server;
        told = told;
        finished = x.finished;
      }) (put ++ (os, Packet m) ∷ [])
  told_all x put server told m h all = record {
    is = h.is;
    unfinished = h.unfinished;
    least = inr all;
    up = λ e. all;
  }

  or_put : (leg : Leg) (came put : List OnLeg) (a b : Pick) → PutKeeps Holds leg came put a
      → PutKeeps Holds leg came put b → PutKeeps Holds leg came put (or_else a b)
  or_put leg came put None b h k = k
  or_put leg came put (Some pick) b h k = h

  abbrev IsQuiet : OutProxy → Pick → Type 0
  IsQuiet s pick = IfSome pick (λ (one : OutProxy × Message). Same s one.0)

  quiet_answer : (s : OutProxy) (a : Answer) → IsQuiet s (answer_by a s)
  quiet_answer s a = search rules

  quiet_waiting : (s : OutProxy) (dues : List Due) → IsQuiet s (waiting_by s dues)
  quiet_waiting s dues = search rules

  quiet_end : (s : OutProxy) → IsQuiet s (put_end s)
  quiet_end s = search rules

  quiet_handover : (s : OutProxy) → IsQuiet s (put_handover s)
  quiet_handover s = search rules

  quiet_ping : (s : OutProxy) → IsQuiet s (put_ping s)
  quiet_ping s = search rules

  module _ (s : OutProxy) (leg : Leg) (came put : List OnLeg) (h : Holds s came put) where
    quiet_put : (pick : Pick) → IsQuiet s pick → PutKeeps Holds leg came put pick
    quiet_put None quiet = tt
    quiet_put (Some one) quiet =
        still (seen one.0) put (leg, one.1) (same_holds s one.0 came put quiet h)

    -- a PDU is taken from the line, whose one channel is never finished
    taken_told : Told (seen (record s { line = lines.after_take s.line })) put
    taken_told = by s.line.current.pdus
      where
        OfLine : Line → Type 0
        OfLine l = Told (record {
          config = s.config;
          server = s.server;
          told = l.current.window.told;
          finished = l.finished;
        }) put

        goes : (l : Line) → l.finished ≡ false → OfLine l → OfLine (settled l)
        goes l more of_line =
            by_test OfLine (l.finished && is_empty l.current.pdus) (moved_on l) l
            (λ e. absurd (true≢false
            (sym (and_parts l.finished (is_empty l.current.pdus) e).0 ∙ more)))
            (λ e. of_line)

        by : (pdus : List (List ℕ)) → OfLine (taken_line pdus s.line)
        by [] = h
        by (pdu ∷ pdus) =
            goes (record s.line { current = released (pdu ∷ pdus) s.line.current }) h.unfinished
            (record { is = h.is; unfinished = h.unfinished; least = h.least; up = h.up })

    front_put : (pdus : List (List ℕ)) → PutKeeps Holds leg came put (pdu_by s pdus)
    front_put [] = tt
    front_put (pdu ∷ pdus) =
        by_test (PutKeeps Holds leg came put) (may_send s.window (length pdu)) _ None
        (λ may. still (seen (record s { line = lines.after_take s.line })) put (leg, Pdu pdu)
        taken_told)
        (λ e. tt)

    co_put : PutKeeps Holds leg came put (next_co s)
    co_put =
        or_put leg came put (put_answer s) _ (quiet_put (put_answer s) (quiet_answer s s.answer))
        (or_put leg came put (put_waiting s) _
        (quiet_put (put_waiting s) (quiet_waiting s s.waiting.due))
        (or_put leg came put (put_pdu s) _ (front_put s.line.current.pdus)
        (or_put leg came put (put_mark s) (put_ping s)
        (or_put leg came put (put_end s) (put_handover s)
        (quiet_put (put_end s) (quiet_end s)) (quiet_put (put_handover s) (quiet_handover s)))
        (quiet_put (put_ping s) (quiet_ping s)))))

  module _ (s : OutProxy) (came put : List OnLeg) (h : Holds s came put) where
    -- the proxy's own window, or what was told behind it
    opens : (m : Named) → edge_told m ≡ s.config.window
        → IsToldIn s.line.current.window.told (of_leg os (put ++ (os, Packet m) ∷ []))
    opens m tells = by h.least
      where
        window : s.config.window ≡ config.window
        window = ap (λ (c : OutProxyConfig). c.window) h.is

        by : (s.line.current.window.told ≤ config.window)
            ⊎ IsToldIn s.line.current.window.told (of_leg os put)
            → IsToldIn s.line.current.window.told (of_leg os (put ++ (os, Packet m) ∷ []))
        by (inl low) =
            told_last s.line.current.window.told put m (omega (arith, low, tells, window))
        by (inr told) = told_more s.line.current.window.told put (os, Packet m) told

    first_put : (c : Channel) → PutKeeps Holds os came put (first_by s (first_packet s c))
    first_put channels.Unknown = tt
    first_put (channels.New connection cookie) =
        told_all (seen s) put servers.Up s.line.current.window.told _ h (opens _ refl)
    first_put (channels.Joined connection cookie) =
        told_all (seen s) put servers.Up s.line.current.window.told _ h (opens _ refl)
    first_put (channels.Successor connection predecessor cookie) =
        told_all (seen s) put servers.Up s.line.current.window.told _ h (opens _ refl)

    ack_put : (o : Option Cookie) (a : Option Ack) → PutKeeps Holds os came put (ack_by s o a)
    ack_put None a = tt
    ack_put (Some cookie) None = tt
    ack_put (Some cookie) (Some ack) =
        told_all (seen s) put s.server (ack.received + ack.available)
        (named.Ack ack.received ack.available cookie) h
        (told_last (ack.received + ack.available) put
        (named.Ack ack.received ack.available cookie) (omega arith))

    os_put : PutKeeps Holds os came put (next_os s)
    os_put =
        or_put os came put (put_first s) (put_ack s)
        (by_test (PutKeeps Holds os came put) (is_server_first s.server)
        (first_by s (first_packet s s.channel)) None (λ e. first_put s.channel) (λ e. tt))
        (ack_put (joined s.channel) (ack_due s))

  pub is_server : (s : OutProxy) (leg : Leg) → s.config ≡ config → is_os s leg ≡ true → os ≡ leg
  is_server s leg is e =
      ap (λ (c : OutProxyConfig). os_leg c.number) (sym is) ∙ leg_is (os_leg s.config.number) leg e

  puts : (s : OutProxy) (leg : Leg) (came put : List OnLeg) → Holds s came put
      → PutKeeps Holds leg came put (put_of s leg)
  puts s leg came put h =
      by_test (PutKeeps Holds leg came put) (is_co s leg) (next_co s)
      (if is_os s leg then next_os s else None) (λ e. co_put s leg came put h)
      (λ e. by_test (PutKeeps Holds leg came put) (is_os s leg) (next_os s) None
      (λ f. subst (λ (l : Leg). PutKeeps Holds l came put (next_os s)) (is_server s leg h.is f)
      (os_put s came put h)) (λ f. tt))

  -- ---- the role

  keeps : StepsKeep proxy_rules Holds
  keeps = record {
    up = up_row;
    head = λ s leg text came put. same_holds s (head s leg text).0 came put (same_head s leg text);
    pdu = λ s leg count bytes came put h.
        row_on (leg, Pdu bytes) came put (pdu s leg count bytes)
        (same_holds s (pdu s leg count bytes).0 came put (same_pdu s leg count bytes) h);
    packet = λ s leg count m came put h.
        row_on (leg, Packet m) came put (packet s leg count m)
        (same_holds s (packet s leg count m).0 came put (same_packet s leg count m) h);
    put = puts;
    drawn = λ s leg came put. same_holds s (drawn s leg) came put (same_drawn s leg);
    mark = mark_row;
    ping = λ s leg came put h. h;
  }

pub out_tells : (config : OutProxyConfig) (moves : List Move)
    → TellsServer config.number (all_moved proxy_rules (started (new_proxy config)) moves)
out_tells config moves =
    (moves_keep proxy_rules (Holds config) (keeps config) (started (new_proxy config)) moves
    (record { is = refl; unfinished = refl; least = inl (omega arith); up = λ e. absurd cc })).up

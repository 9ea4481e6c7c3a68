-- what an out proxy puts first to the server names what its client named
use Rattle.law_order.proofs.Vocabulary.{◌≡◌, ◌⊎◌, ℕ, true, ◌&&◌, inl, inr, if◌then◌else◌, List, [], ◌∷◌, ◌++◌, Some, None, Ok, Err, refl, sym, ap, ◌∙◌, subst, rules, IfSome, Option}
use Rattle.rh_sig.specs.declared.named.Named.TheVariants as named
use Rattle.rh_outproxy.specs.declared.state.Channel.TheVariants as channels
use Rattle.law_moves.proofs.Vocabulary.{Ack, by_test, Cookie, Named, Leg, Count, Due, Message, Text, Pdu, Packet, OnLeg, Move, started, all_moved, of_leg, Has, HasOne}
use Rattle.law_moves.proofs.Lemmas.{RowKeeps, PutKeeps, StepsKeep, moves_keep, leg_more, one_more_so, last_one_so, leg_is, here_more, other_more}
use Rattle.law_role_outproxy.proofs.Vocabulary.{Answer, Channel, OutProxyConfig, OutProxy, is_server_first, joined, new_proxy, Done, is_co, is_os, is_first, unexpected, forwarded, passed_on, up, head, told_length, new_length, successor_length, opened, on_out_r2_c1, conn_c1_by, first_packet, on_ack_to, ack_due, drawn, mark, on_end_b1, on_out_r1_a9, Pick, or_else, answer_by, put_answer, waiting_by, put_waiting, pdu_by, put_pdu, put_mark, put_ping, next_co, first_by, put_first}
use Rattle.law_role_outproxy.proofs.Vocabulary.{ack_by, put_ack, next_os, put as put_of, pdu, packet, on_co, on_os, rules as proxy_rules, co_leg, os_leg, NamesNew, NamesSuccessor, IsOpenedBy, OpensAsAsked}

-- what the facts are about
record Seen : Type 0 where
  config : OutProxyConfig
  channel : Channel

abbrev seen : OutProxy → Seen
seen s = record { config = s.config; channel = s.channel }

abbrev Same : OutProxy → OutProxy → Type 0
Same s t = seen t ≡ seen s

-- ---- what leaves these alone

same_up : (s : OutProxy) (leg : Leg) (cookie : Cookie) → Same s (up s leg cookie)
same_up s leg cookie = search rules

same_head : (s : OutProxy) (leg : Leg) (text : List ℕ) → Same s (head s leg text).0
same_head s leg text = search rules

same_pdu : (s : OutProxy) (leg : Leg) (count : Count) (bytes : List ℕ)
    → Same s (pdu s leg count bytes).0
same_pdu s leg count bytes = search rules

same_c1 : (s : OutProxy) (count : Count) → Same s (on_out_r2_c1 s count).0
same_c1 s count = search rules

same_forwarded : (s : OutProxy) (m : Named) → Same s (forwarded s m).0
same_forwarded s m = search rules

same_passed : (s : OutProxy) (to : ℕ) (m : Named) → Same s (passed_on s to m).0
same_passed s to m = search rules

same_ack : (s : OutProxy) (to received available : ℕ) (cookie : Cookie)
    → Same s (on_ack_to s to received available cookie).0
same_ack s to received available cookie = search rules

same_a9 : (s : OutProxy) → Same s (on_out_r1_a9 s).0
same_a9 s = search rules

same_end : (s : OutProxy) → Same s (on_end_b1 s).0
same_end s = search rules

same_drawn : (s : OutProxy) (leg : Leg) → Same s (drawn s leg)
same_drawn s leg = search rules

same_mark : (s : OutProxy) (leg : Leg) → Same s (mark s leg)
same_mark s leg = search rules

abbrev IsQuiet : OutProxy → Pick → Type 0
IsQuiet s pick = IfSome pick (λ (one : OutProxy × Message). Same s one.0)

or_quiet : (s : OutProxy) (a b : Pick) → IsQuiet s a → IsQuiet s b → IsQuiet s (or_else a b)
or_quiet s None b g k = k
or_quiet s (Some pick) b g k = g

quiet_answer : (s : OutProxy) (a : Answer) → IsQuiet s (answer_by a s)
quiet_answer s a = search rules

quiet_waiting : (s : OutProxy) (dues : List Due) → IsQuiet s (waiting_by s dues)
quiet_waiting s dues = search rules

quiet_pdu : (s : OutProxy) (pdus : List (List ℕ)) → IsQuiet s (pdu_by s pdus)
quiet_pdu s pdus = search rules

quiet_mark : (s : OutProxy) → IsQuiet s (put_mark s)
quiet_mark s = search rules

quiet_ping : (s : OutProxy) → IsQuiet s (put_ping s)
quiet_ping s = search rules

same_co : (s : OutProxy) → IsQuiet s (next_co s)
same_co s =
    or_quiet s (put_answer s) _ (quiet_answer s s.answer)
    (or_quiet s (put_waiting s) _ (quiet_waiting s s.waiting.due)
    (or_quiet s (put_pdu s) _ (quiet_pdu s s.line.current.pdus)
    (or_quiet s (put_mark s) (put_ping s) (quiet_mark s) (quiet_ping s))))

-- ---- what was asked

abbrev pub IsAsked : Channel → List Message → Type 0
IsAsked channels.Unknown came = Unit {0}
IsAsked (channels.New connection cookie) came = HasOne (NamesNew connection cookie) came
IsAsked (channels.Joined connection cookie) came = HasOne (NamesNew connection cookie) came
IsAsked (channels.Successor connection predecessor cookie) came =
    HasOne (NamesSuccessor connection predecessor cookie) came

pub asked_more : (c : Channel) (a b : List Message) → IsAsked c a → IsAsked c (a ++ b)
asked_more channels.Unknown a b h = tt
asked_more (channels.New connection cookie) a b h =
    one_more_so (NamesNew connection cookie) a b h
asked_more (channels.Joined connection cookie) a b h =
    one_more_so (NamesNew connection cookie) a b h
asked_more (channels.Successor connection predecessor cookie) a b h =
    one_more_so (NamesSuccessor connection predecessor cookie) a b h

named_more : (m : Named) (a b : List Message) → IsOpenedBy a m → IsOpenedBy (a ++ b) m
named_more (named.ConnA2 version connection channel lifetime window) a b h =
    one_more_so (NamesNew connection channel) a b h
named_more (named.OutR1A4 version connection predecessor successor lifetime window timeout) a b h =
    one_more_so (NamesSuccessor connection predecessor successor) a b h
named_more m a b h = tt

-- ---- the last packet

abbrev packet_in : Message → Named
packet_in (Text bytes) = named.Ping
packet_in (Pdu pdu) = named.Ping
packet_in (Packet m) = m

has_split : (m last : Named) (a : List Message) → Has m (a ++ Packet last ∷ [])
    → Has m a ⊎ (last ≡ m)
has_split m last [] (inl is) = inr (ap packet_in is)
has_split m last [] (inr no') = absurd no'
has_split m last (x ∷ a) (inl is) = inl (inl is)
has_split m last (x ∷ a) (inr rest) = by (has_split m last a rest)
  where
    by : Has m a ⊎ (last ≡ m) → Has m (x ∷ a) ⊎ (last ≡ m)
    by (inl before) = inl (inr before)
    by (inr is) = inr is

-- ---- the role

record Names (n : ℕ) (x : Seen) (came put : List OnLeg) : Type 0 where
  is : x.config.number ≡ n
  asked : IsAsked x.channel (of_leg (co_leg n) came)
  puts : (m : Named) → Has m (of_leg (os_leg n) put) → IsOpenedBy (of_leg (co_leg n) came) m

module _ (n : ℕ) where
  abbrev co : Leg
  co = co_leg n

  abbrev os : Leg
  os = os_leg n

  abbrev Holds : OutProxy → List OnLeg → List OnLeg → Type 0
  Holds s came put = Names n (seen s) came put

  same_holds : (s t : OutProxy) (came put : List OnLeg) → Same s t → Holds s came put
      → Holds t came put
  same_holds s t came put same h = subst (λ (x : Seen). Names n x came put) (sym same) h

  is_client : (s : OutProxy) (leg : Leg) → s.config.number ≡ n → is_co s leg ≡ true → co ≡ leg
  is_client s leg is e = ap co_leg (sym is) ∙ leg_is (co_leg s.config.number) leg e

  is_server : (s : OutProxy) (leg : Leg) → s.config.number ≡ n → is_os s leg ≡ true → os ≡ leg
  is_server s leg is e = ap os_leg (sym is) ∙ leg_is (os_leg s.config.number) leg e

  -- one more came
  came_one : (x : Seen) (came put : List OnLeg) (one : OnLeg) → Names n x came put
      → Names n x (came ++ one ∷ []) put
  came_one x came put one h = record {
    is = h.is;
    asked = subst (IsAsked x.channel) (sym (leg_more co came one))
        (asked_more x.channel (of_leg co came) (of_leg co (one ∷ [])) h.asked);
    puts = λ m has.
        subst (λ (ms : List Message). IsOpenedBy ms m) (sym (leg_more co came one))
        (named_more m (of_leg co came) (of_leg co (one ∷ [])) (h.puts m has));
  }

  same_row : (one : OnLeg) (s : OutProxy) (came put : List OnLeg) → Holds s came put
      → (x : Done) → Same s x.0 → RowKeeps Holds one came put x
  same_row one s came put h (t, Ok taken) same =
      came_one (seen t) came put one (same_holds s t came put same h)
  same_row one s came put h (t, Err why) same = same_holds s t came put same h

  module _ (s : OutProxy) (came put : List OnLeg) (h : Holds s came put) where
    abbrev Row : Leg → Named → Done → Type 0
    Row leg m x = RowKeeps Holds (leg, Packet m) came put x

    -- a packet opens the channel
    opened_row : (m : Named) (c : Channel) (size : ℕ)
        → IsAsked c (of_leg co came ++ Packet m ∷ [])
        → Holds (opened s c size) (came ++ (co, Packet m) ∷ []) put
    opened_row m c size asks =
        let k = came_one (seen s) came put (co, Packet m) h in record {
          is = h.is;
          asked = subst (IsAsked c) (sym (here_more co came (Packet m))) asks;
          puts = k.puts;
        }

    co_row : (count : Count) (m : Named) → Row co m (on_co s count m)
    co_row count (named.ConnA1 version connection cookie size) =
        by_test (Row co (named.ConnA1 version connection cookie size))
        (is_first count && told_length s.request new_length) _ (unexpected s)
        (λ e. opened_row (named.ConnA1 version connection cookie size)
        (channels.New connection cookie) size
        (last_one_so (NamesNew connection cookie) (of_leg co came)
        (named.ConnA1 version connection cookie size) (refl, refl)))
        (λ e. h)
    co_row count (named.OutR1A3 version connection predecessor cookie size) =
        by_test (Row co (named.OutR1A3 version connection predecessor cookie size))
        (is_first count && told_length s.request successor_length) _ (unexpected s)
        (λ e. opened_row (named.OutR1A3 version connection predecessor cookie size)
        (channels.Successor connection predecessor cookie) size
        (last_one_so (NamesSuccessor connection predecessor cookie) (of_leg co came)
        (named.OutR1A3 version connection predecessor cookie size) (refl, refl, refl)))
        (λ e. h)
    co_row count named.OutR2C1 =
        same_row (co, Packet named.OutR2C1) s came put h (on_out_r2_c1 s count) (same_c1 s count)
    co_row count m = h

    c1_row : (m : Named) (c : Channel) → IsAsked c (of_leg co came) → (version size timeout : ℕ)
        → Row os m (conn_c1_by c s version size timeout)
    c1_row m channels.Unknown asks version size timeout = h
    c1_row m (channels.New connection cookie) asks version size timeout =
        same_row (os, Packet m) t came put
        (record { is = h.is; asked = asks; puts = h.puts })
        (forwarded t (named.ConnC2 version size timeout))
        (same_forwarded t (named.ConnC2 version size timeout))
      where
        t : OutProxy
        t = record s { channel = channels.Joined connection cookie }
    c1_row m (channels.Joined connection cookie) asks version size timeout = h
    c1_row m (channels.Successor connection predecessor cookie) asks version size timeout = h

    passed_row : (m : Named) (to : ℕ) (other : Named) → Row os m (passed_on s to other)
    passed_row m to other =
        same_row (os, Packet m) s came put h (passed_on s to other) (same_passed s to other)

    os_row : (m : Named) → Row os m (on_os s m)
    os_row (named.ConnC1 version size timeout) =
        c1_row (named.ConnC1 version size timeout) s.channel h.asked version size timeout
    os_row (named.AckTo to received available cookie) =
        same_row (os, Packet (named.AckTo to received available cookie)) s came put h
        (on_ack_to s to received available cookie) (same_ack s to received available cookie)
    os_row (named.InR1A3 to version size timeout) =
        passed_row (named.InR1A3 to version size timeout) to (named.InR1A4 0 version size timeout)
    os_row (named.InR2A3 to) = passed_row (named.InR2A3 to) to (named.InR2A4 0)
    os_row (named.OutR1A1 to) = passed_row (named.OutR1A1 to) to (named.OutR1A2 0)
    os_row (named.OutR1A5 to version timeout) =
        passed_row (named.OutR1A5 to version timeout) to (named.OutR1A6 0 version timeout)
    os_row named.OutR1A9 =
        same_row (os, Packet named.OutR1A9) s came put h (on_out_r1_a9 s) (same_a9 s)
    os_row named.EndB1 =
        same_row (os, Packet named.EndB1) s came put h (on_end_b1 s) (same_end s)
    os_row m = h

    packet_row : (leg : Leg) (count : Count) (m : Named) → Row leg m (packet s leg count m)
    packet_row leg count m =
        by_test (Row leg m) (is_co s leg) (on_co s count m)
        (if is_os s leg then on_os s m else unexpected s)
        (λ e. subst (λ (l : Leg). Row l m (on_co s count m)) (is_client s leg h.is e)
        (co_row count m))
        (λ e. by_test (Row leg m) (is_os s leg) (on_os s m) (unexpected s)
        (λ f. subst (λ (l : Leg). Row l m (on_os s m)) (is_server s leg h.is f) (os_row m))
        (λ f. h))

    -- ---- what is put

    or_put : (leg : Leg) (a b : Pick) → PutKeeps Holds leg came put a
        → PutKeeps Holds leg came put b → PutKeeps Holds leg came put (or_else a b)
    or_put leg None b g k = k
    or_put leg (Some pick) b g k = g

    -- to the client
    client_put : (pick : Pick) → IfSome pick (λ (one : OutProxy × Message). Same s one.0)
        → PutKeeps Holds co came put pick
    client_put None same = tt
    client_put (Some one) same =
        let k = same_holds s one.0 came put same h in record {
          is = k.is;
          asked = k.asked;
          puts = λ m has. h.puts m (subst (Has m) (other_more os put (co, one.1) refl) has);
        }

    -- to the server
    abbrev IsNamed : Message → Type 0
    IsNamed (Text bytes) = ⊥
    IsNamed (Pdu pdu) = ⊥
    IsNamed (Packet m) = IsOpenedBy (of_leg co came) m

    server_put : (pick : Pick)
        → IfSome pick (λ (one : OutProxy × Message). Same s one.0 × IsNamed one.1)
        → PutKeeps Holds os came put pick
    server_put None sent = tt
    server_put (Some (t, Text bytes)) sent = absurd sent.1
    server_put (Some (t, Pdu pdu)) sent = absurd sent.1
    server_put (Some (t, Packet last)) sent =
        let k = same_holds s t came put sent.0 h in record {
          is = k.is;
          asked = k.asked;
          puts = λ m has.
              by m (has_split m last (of_leg os put)
              (subst (Has m) (here_more os put (Packet last)) has));
        }
      where
        by : (m : Named) → Has m (of_leg os put) ⊎ (last ≡ m) → IsOpenedBy (of_leg co came) m
        by m (inl before) = h.puts m before
        by m (inr is) = subst (IsOpenedBy (of_leg co came)) is sent.1

    first_row : (c : Channel) → IsAsked c (of_leg co came)
        → PutKeeps Holds os came put (first_by s (first_packet s c))
    first_row channels.Unknown asks = tt
    first_row (channels.New connection cookie) asks =
        server_put (first_by s (first_packet s (channels.New connection cookie))) (refl, asks)
    first_row (channels.Joined connection cookie) asks =
        server_put (first_by s (first_packet s (channels.Joined connection cookie))) (refl, asks)
    first_row (channels.Successor connection predecessor cookie) asks =
        server_put (first_by s (first_packet s
        (channels.Successor connection predecessor cookie))) (refl, asks)

    ack_row : (o : Option Cookie) (a : Option Ack) → PutKeeps Holds os came put (ack_by s o a)
    ack_row None a = tt
    ack_row (Some cookie) None = tt
    ack_row (Some cookie) (Some ack) = server_put (ack_by s (Some cookie) (Some ack)) (refl, tt)

    os_put : PutKeeps Holds os came put (next_os s)
    os_put =
        or_put os (put_first s) (put_ack s)
        (by_test (PutKeeps Holds os came put) (is_server_first s.server)
        (first_by s (first_packet s s.channel)) None (λ e. first_row s.channel h.asked) (λ e. tt))
        (ack_row (joined s.channel) (ack_due s))

    puts : (leg : Leg) → PutKeeps Holds leg came put (put_of s leg)
    puts leg =
        by_test (PutKeeps Holds leg came put) (is_co s leg) (next_co s)
        (if is_os s leg then next_os s else None)
        (λ e. subst (λ (l : Leg). PutKeeps Holds l came put (next_co s)) (is_client s leg h.is e)
        (client_put (next_co s) (same_co s)))
        (λ e. by_test (PutKeeps Holds leg came put) (is_os s leg) (next_os s) None
        (λ f. subst (λ (l : Leg). PutKeeps Holds l came put (next_os s)) (is_server s leg h.is f)
        os_put)
        (λ f. tt))

  steps : StepsKeep proxy_rules Holds
  steps = record {
    up = λ s leg cookie came put.
        same_holds s (up s leg cookie) came put (same_up s leg cookie);
    head = λ s leg text came put. same_holds s (head s leg text).0 came put (same_head s leg text);
    pdu = λ s leg count bytes came put h.
        same_row (leg, Pdu bytes) s came put h (pdu s leg count bytes) (same_pdu s leg count bytes);
    packet = λ s leg count m came put h. packet_row s came put h leg count m;
    put = λ s leg came put h. puts s came put h leg;
    drawn = λ s leg came put. same_holds s (drawn s leg) came put (same_drawn s leg);
    mark = λ s leg came put. same_holds s (mark s leg) came put (same_mark s leg);
    ping = λ s leg came put h. h;
  }

pub out_proxy_names : (config : OutProxyConfig) (moves : List Move)
    → OpensAsAsked config.number (all_moved proxy_rules (started (new_proxy config)) moves)
out_proxy_names config moves =
    (moves_keep proxy_rules (Holds config.number) (steps config.number)
    (started (new_proxy config)) moves
    (record { is = refl; asked = tt; puts = λ m has. absurd has })).puts

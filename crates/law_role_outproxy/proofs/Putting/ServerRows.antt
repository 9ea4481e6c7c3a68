-- what was put to the server, and what comes to an out proxy, which keeps it
use Rattle.rh_window.specs.Receiving as windows
use Rattle.law_order.proofs.Vocabulary.{◌≡◌, ℕ, ◌≤◌, ◌&&◌, true, false, true≢false, if◌then◌else◌, List, [], ◌∷◌, ◌++◌, Some, None, Ok, Err, refl, sym, ap, ◌∙◌, subst, arith, rules, and_parts, nat_tests, IfSome, Option}
use Rattle.rh_sig.specs.declared.named.Named.TheVariants as named
use Rattle.rh_outproxy.specs.declared.state.Channel.TheVariants as channels
use Rattle.rh_outproxy.specs.declared.state.ServerLeg.TheVariants as servers
use Rattle.law_moves.proofs.Vocabulary.{Ack, by_test, Cookie, Named, Incoming, fresh, Leg, Count, Due, Message, Pdu, Packet, OnLeg, of_leg, Tells, packets, Stages, takes_frames}
use Rattle.law_moves.proofs.Lemmas.{RowKeeps, all_append, leg_more, one_more_so}
use Rattle.law_role_outproxy.proofs.Vocabulary.{Answer, Channel, OutProxyConfig, ServerLeg, OutProxy, is_known, is_server_down, joined, Done, is_co, is_os, is_first, unexpected, forwarded, passed_on, up, head, told_length, new_length, successor_length, opened, on_out_r2_c1, conn_c1_by, on_pdu, on_ack_to, drawn, on_end_b1, on_out_r1_a9, Pick, answer_by, waiting_by, put_mark, put_ping, pdu, packet, on_co, on_os, co_leg, os_leg, NamesNew, NamesSuccessor, OpensServer, IsAck}
use Rattle.law_role_outproxy.proofs.Vocabulary.{BeginsServer, IsToServer}
use Rattle.law_role_outproxy.proofs.Putting.Goes.{unknown}
use Rattle.law_role_outproxy.proofs.Putting.Turns.{TurnsAt, here, there}

-- ---- what was put, by the leg and the channel

pub record Seen : Type 0 where
  pub channel : Channel
  pub server : ServerLeg
  pub current : Incoming

abbrev pub seen : OutProxy → Seen
seen s = record { channel = s.channel; server = s.server; current = s.line.current }

-- ---- what leaves these alone

same_c1 : (s : OutProxy) (number : Count) → seen (on_out_r2_c1 s number).0 ≡ seen s
same_c1 s number = search rules

same_forwarded : (s : OutProxy) (m : Named) → seen (forwarded s m).0 ≡ seen s
same_forwarded s m = search rules

same_passed : (s : OutProxy) (to : ℕ) (m : Named) → seen (passed_on s to m).0 ≡ seen s
same_passed s to m = search rules

same_ack : (s : OutProxy) (to received available : ℕ) (cookie : Cookie)
    → seen (on_ack_to s to received available cookie).0 ≡ seen s
same_ack s to received available cookie = search rules

same_a9 : (s : OutProxy) → seen (on_out_r1_a9 s).0 ≡ seen s
same_a9 s = search rules

same_end : (s : OutProxy) → seen (on_end_b1 s).0 ≡ seen s
same_end s = search rules

pub same_head : (s : OutProxy) (leg : Leg) (text : List ℕ) → seen (head s leg text).0 ≡ seen s
same_head s leg text = search rules

pub same_drawn : (s : OutProxy) (leg : Leg) → seen (drawn s leg) ≡ seen s
same_drawn s leg = search rules

-- a PDU leaves the channel and the leg alone
record Kept : Type 0 where
  pub channel : Channel
  pub server : ServerLeg

abbrev kept : OutProxy → Kept
kept s = record { channel = s.channel; server = s.server }

same_pdu : (s : OutProxy) (bytes : List ℕ) → kept (on_pdu s bytes).0 ≡ kept s
same_pdu s bytes = search rules

abbrev pub IsQuiet : OutProxy → Pick → Type 0
IsQuiet s pick = IfSome pick (λ (one : OutProxy × Message). seen one.0 ≡ seen s)

pub quiet_answer : (s : OutProxy) (a : Answer) → IsQuiet s (answer_by a s)
quiet_answer s a = search rules

pub quiet_waiting : (s : OutProxy) (dues : List Due) → IsQuiet s (waiting_by s dues)
quiet_waiting s dues = search rules

pub quiet_mark : (s : OutProxy) → IsQuiet s (put_mark s)
quiet_mark s = search rules

pub quiet_ping : (s : OutProxy) → IsQuiet s (put_ping s)
quiet_ping s = search rules

-- the cookie of a channel
abbrev pub IsOf : Channel → Cookie → Type 0
IsOf channels.Unknown k = ⊥
IsOf (channels.New connection cookie) k = cookie ≡ k
IsOf (channels.Joined connection cookie) k = cookie ≡ k
IsOf (channels.Successor connection predecessor cookie) k = cookie ≡ k

of_joined : (c : Channel) (k cookie : Cookie) → IsOf c k → joined c ≡ Some cookie → cookie ≡ k
of_joined channels.Unknown k cookie h e = absurd h
of_joined (channels.New connection own) k cookie h e = absurd cc
of_joined (channels.Joined connection own) k cookie h e =
    ap (λ (o : Option Cookie). value own o) (sym e) ∙ h
  where
    value : Cookie → Option Cookie → Cookie
    value d None = d
    value d (Some x) = x
of_joined (channels.Successor connection predecessor own) k cookie h e =
    ap (λ (o : Option Cookie). value own o) (sym e) ∙ h
  where
    value : Cookie → Option Cookie → Cookie
    value d None = d
    value d (Some x) = x

-- the whole window is told at first, and nothing is to acknowledge
pub undue : (size : ℕ) → windows.due (windows.opened size) ≡ None
undue size =
    by_test (λ (o : Option Ack). o ≡ None) (windows.is_due (windows.opened size)) _ None
    (λ e. absurd (grind (arith, nat_tests, e))) (λ e. refl)

module _ (config : OutProxyConfig) where
  abbrev co : Leg
  co = co_leg config.number

  abbrev os : Leg
  os = os_leg config.number

  opens_more : (a b : List Message) (cookie : Cookie) (m : Named)
      → OpensServer config a cookie m → OpensServer config (a ++ b) cookie m
  opens_more a b cookie (named.ConnA2 version connection channel lifetime window) h =
      (h.0, h.1, h.2, h.3, one_more_so (NamesNew connection channel) a b h.4)
  opens_more a b cookie
      (named.OutR1A4 version connection predecessor successor lifetime window timeout) h = (
        h.0,
        h.1,
        h.2,
        h.3,
        h.4,
        one_more_so (NamesSuccessor connection predecessor successor) a b h.5,
      )
  opens_more a b cookie m h = absurd h

  abbrev begins_more : (a b : List Message) (first : Message) (rest : List Message)
      → BeginsServer config a first rest → BeginsServer config (a ++ b) first rest
  begins_more a b first rest h = record {
    packet = h.packet;
    is = h.is;
    cookie = h.cookie;
    opens = opens_more a b h.cookie h.packet h.opens;
    acks = h.acks;
  }

  to_server_more : (a b put : List Message) → IsToServer config a put
      → IsToServer config (a ++ b) put
  to_server_more a b [] h = tt
  to_server_more a b (first ∷ rest) h = begins_more a b first rest h

  -- begun for this channel
  pub record Begun (c : Channel) (came : List Message) (first : Message) (rest : List Message)
      : Type 0 where
    pub begins : BeginsServer config came first rest
    pub channel : IsOf c begins.cookie

  abbrev pub IsBegun : Channel → List Message → List Message → Type 0
  IsBegun c came [] = ⊥
  IsBegun c came (first ∷ rest) = Begun c came first rest

  begun_more : (c : Channel) (a b put : List Message) → IsBegun c a put → IsBegun c (a ++ b) put
  begun_more c a b [] h = absurd h
  begun_more c a b (first ∷ rest) h =
      record { begins = begins_more a b first rest h.begins; channel = h.channel }

  begun_puts : (c : Channel) (came put : List Message) → IsBegun c came put
      → IsToServer config came put
  begun_puts c came [] h = absurd h
  begun_puts c came (first ∷ rest) h = h.begins

  begun_none : (c : Channel) (came put : List Message) → is_known c ≡ false
      → IsBegun c came put → ⊥
  begun_none channels.Unknown came [] e h = h
  begun_none channels.Unknown came (first ∷ rest) e h = h.channel
  begun_none (channels.New connection cookie) came put e h = absurd cc
  begun_none (channels.Joined connection cookie) came put e h = absurd cc
  begun_none (channels.Successor connection predecessor cookie) came put e h = absurd cc

  begun_joins : (connection cookie : Cookie) (came put : List Message)
      → IsBegun (channels.New connection cookie) came put
      → IsBegun (channels.Joined connection cookie) came put
  begun_joins connection cookie came [] h = absurd h
  begun_joins connection cookie came (first ∷ rest) h =
      record { begins = h.begins; channel = h.channel }

  -- another acknowledgement
  pub begun_acks : (c : Channel) (came put : List Message) (received available : ℕ)
      (cookie : Cookie) → joined c ≡ Some cookie → IsBegun c came put
      → IsBegun c came (put ++ Packet (named.Ack received available cookie) ∷ [])
  begun_acks c came [] received available cookie e h = absurd h
  begun_acks c came (first ∷ rest) received available cookie e h =
      let b = h.begins in record {
        begins = record {
          packet = b.packet;
          is = b.is;
          cookie = b.cookie;
          opens = b.opens;
          acks = all_append (IsAck b.cookie) rest
              (Packet (named.Ack received available cookie) ∷ []) b.acks
              (of_joined c b.cookie cookie h.channel e, tt);
        };
        channel = h.channel;
      }

  abbrev pub At : ServerLeg → Channel → List Message → List Message → Type 0
  At servers.Down c came put = put ≡ []
  At servers.FirstDue c came put = put ≡ []
  At servers.Up c came put = IsBegun c came put
  At servers.Marked c came put = IsToServer config came put

  at_more : (l : ServerLeg) (c : Channel) (a b put : List Message) → At l c a put
      → At l c (a ++ b) put
  at_more servers.Down c a b put h = h
  at_more servers.FirstDue c a b put h = h
  at_more servers.Up c a b put h = begun_more c a b put h
  at_more servers.Marked c a b put h = to_server_more a b put h

  at_opens : (l : ServerLeg) (c d : Channel) (came put : List Message) → is_known c ≡ false
      → At l c came put → At l d came put
  at_opens servers.Down c d came put e h = h
  at_opens servers.FirstDue c d came put e h = h
  at_opens servers.Up c d came put e h = absurd (begun_none c came put e h)
  at_opens servers.Marked c d came put e h = h

  at_joins : (l : ServerLeg) (connection cookie : Cookie) (came put : List Message)
      → At l (channels.New connection cookie) came put
      → At l (channels.Joined connection cookie) came put
  at_joins servers.Down connection cookie came put h = h
  at_joins servers.FirstDue connection cookie came put h = h
  at_joins servers.Up connection cookie came put h = begun_joins connection cookie came put h
  at_joins servers.Marked connection cookie came put h = h

  pub at_puts : (l : ServerLeg) (c : Channel) (came put : List Message) → At l c came put
      → IsToServer config came put
  at_puts servers.Down c came put h = subst (IsToServer config came) (sym h) tt
  at_puts servers.FirstDue c came put h = subst (IsToServer config came) (sym h) tt
  at_puts servers.Up c came put h = begun_puts c came put h
  at_puts servers.Marked c came put h = h

  -- and nothing came from the server where its leg is down
  pub record ToServer (a : Seen) (came put : List Message) : Type 0 where
    pub quiet : is_server_down a.server ≡ true → a.current ≡ fresh (windows.opened config.window)
    pub at : At a.server a.channel came put

  abbrev Holds : OutProxy → List OnLeg → List OnLeg → Type 0
  Holds s came put = ToServer (seen s) (of_leg co came) (of_leg os put)

  pub same_holds : (s t : OutProxy) (came put : List OnLeg) → seen t ≡ seen s → Holds s came put
      → Holds t came put
  same_holds s t came put same h =
      subst (λ (x : Seen). ToServer x (of_leg co came) (of_leg os put)) (sym same) h

  came_one : (s : OutProxy) (came put : List OnLeg) (one : OnLeg) → Holds s came put
      → Holds s (came ++ one ∷ []) put
  came_one s came put one h = record {
    quiet = h.quiet;
    at = subst (λ (ms : List Message). At s.server s.channel ms (of_leg os put))
        (sym (leg_more co came one))
        (at_more s.server s.channel (of_leg co came) (of_leg co (one ∷ [])) (of_leg os put) h.at);
  }

  -- ---- rows

  abbrev Row : List OnLeg → List OnLeg → OnLeg → Done → Type 0
  Row came put one x = RowKeeps Holds one came put x

  pub same_row : (one : OnLeg) (s : OutProxy) (came put : List OnLeg) → Holds s came put
      → (x : Done) → seen x.0 ≡ seen s → Row came put one x
  same_row one s came put h (t, Ok taken) same =
      came_one t came put one (same_holds s t came put same h)
  same_row one s came put h (t, Err why) same = same_holds s t came put same h

  module _ (s : OutProxy) (came put : List OnLeg) (h : Holds s came put) where
    opened_row : (one : OnLeg) (c : Channel) (size : ℕ) → is_known s.channel ≡ false
        → Holds (opened s c size) (came ++ one ∷ []) put
    opened_row one c size none =
        came_one (opened s c size) came put one (record {
          quiet = h.quiet;
          at = at_opens s.server s.channel c (of_leg co came) (of_leg os put) none h.at;
        })

    co_row : (number : Count) (m : Named) → Tells number (packets (of_leg co came))
        → (is_known s.channel ≡ true → 1 ≤ packets (of_leg co came))
        → Row came put (co, Packet m) (on_co s number m)
    co_row number (named.ConnA1 version connection cookie size) tells known =
        by_test (Row came put (co, Packet (named.ConnA1 version connection cookie size)))
        (is_first number && told_length s.request new_length) _ (unexpected s)
        (λ e. opened_row (co, Packet (named.ConnA1 version connection cookie size))
        (channels.New connection cookie) size
        (unknown s.channel number (packets (of_leg co came))
        (and_parts (is_first number) (told_length s.request new_length) e).0 tells known))
        (λ e. h)
    co_row number (named.OutR1A3 version connection predecessor cookie size) tells known =
        by_test
        (Row came put (co, Packet (named.OutR1A3 version connection predecessor cookie size)))
        (is_first number && told_length s.request successor_length) _ (unexpected s)
        (λ e. opened_row (co, Packet (named.OutR1A3 version connection predecessor cookie size))
        (channels.Successor connection predecessor cookie) size
        (unknown s.channel number (packets (of_leg co came))
        (and_parts (is_first number) (told_length s.request successor_length) e).0 tells known))
        (λ e. h)
    co_row number named.OutR2C1 tells known =
        same_row (co, Packet named.OutR2C1) s came put h (on_out_r2_c1 s number)
        (same_c1 s number)
    co_row number m tells known = h

    c1_row : (m : Named) (c : Channel) → s.channel ≡ c → (version size timeout : ℕ)
        → Row came put (os, Packet m) (conn_c1_by c s version size timeout)
    c1_row m channels.Unknown e version size timeout = h
    c1_row m (channels.New connection cookie) e version size timeout =
        same_row (os, Packet m) t came put (record {
          quiet = h.quiet;
          at = at_joins s.server connection cookie (of_leg co came) (of_leg os put)
              (subst (λ (c : Channel). At s.server c (of_leg co came) (of_leg os put)) e h.at);
        })
        (forwarded t (named.ConnC2 version size timeout))
        (same_forwarded t (named.ConnC2 version size timeout))
      where
        t : OutProxy
        t = record s { channel = channels.Joined connection cookie }
    c1_row m (channels.Joined connection cookie) e version size timeout = h
    c1_row m (channels.Successor connection predecessor cookie) e version size timeout = h

    passed_row : (m : Named) (to : ℕ) (other : Named)
        → Row came put (os, Packet m) (passed_on s to other)
    passed_row m to other =
        same_row (os, Packet m) s came put h (passed_on s to other) (same_passed s to other)

    os_row : (m : Named) → Row came put (os, Packet m) (on_os s m)
    os_row (named.ConnC1 version size timeout) =
        c1_row (named.ConnC1 version size timeout) s.channel refl version size timeout
    os_row (named.AckTo to received available cookie) =
        same_row (os, Packet (named.AckTo to received available cookie)) s came put h
        (on_ack_to s to received available cookie) (same_ack s to received available cookie)
    os_row (named.InR1A3 to version size timeout) =
        passed_row (named.InR1A3 to version size timeout) to (named.InR1A4 0 version size timeout)
    os_row (named.InR2A3 to) = passed_row (named.InR2A3 to) to (named.InR2A4 0)
    os_row (named.OutR1A1 to) = passed_row (named.OutR1A1 to) to (named.OutR1A2 0)
    os_row (named.OutR1A5 to version timeout) =
        passed_row (named.OutR1A5 to version timeout) to (named.OutR1A6 0 version timeout)
    os_row named.OutR1A9 =
        same_row (os, Packet named.OutR1A9) s came put h (on_out_r1_a9 s) (same_a9 s)
    os_row named.EndB1 =
        same_row (os, Packet named.EndB1) s came put h (on_end_b1 s) (same_end s)
    os_row m = h

    module _ (g : Stages) (turns : TurnsAt config g s came) where
      pub packet_row : (leg : Leg) (number : Count) (m : Named)
          → Tells number (packets (of_leg leg came))
          → Row came put (leg, Packet m) (packet s leg number m)
      packet_row leg number m tells =
          by_test (Row came put (leg, Packet m)) (is_co s leg) (on_co s number m)
          (if is_os s leg then on_os s m else unexpected s)
          (λ e. subst (λ (l : Leg). Tells number (packets (of_leg l came))
          → Row came put (l, Packet m) (on_co s number m)) (here config s leg turns.made e)
          (λ first. co_row number m first turns.known) tells)
          (λ e. by_test (Row came put (leg, Packet m)) (is_os s leg) (on_os s m) (unexpected s)
          (λ f. subst (λ (l : Leg). Row came put (l, Packet m) (on_os s m))
          (there config s leg turns.made f) (os_row m))
          (λ f. h))

      -- a PDU comes where the leg is up
      pub pdu_row : (leg : Leg) (number : Count) (bytes : List ℕ) → takes_frames (g leg) ≡ true
          → Row came put (leg, Pdu bytes) (pdu s leg number bytes)
      pdu_row leg number bytes turn =
          by_test (Row came put (leg, Pdu bytes)) (is_os s leg) (on_pdu s bytes) (unexpected s)
          (λ e. by (on_pdu s bytes) (same_pdu s bytes)
          (turns.served (subst (λ (l : Leg). takes_frames (g l) ≡ true)
          (sym (there config s leg turns.made e)) turn)))
          (λ e. h)
        where
          now : (t : OutProxy) → kept t ≡ kept s → is_server_down s.server ≡ false
              → Holds t came put
          now t same up = record {
            quiet = λ down.
                absurd (true≢false (sym down
                ∙ ap (λ (k : Kept). is_server_down k.server) same ∙ up));
            at = subst (λ (k : Kept). At k.server k.channel (of_leg co came) (of_leg os put))
                (sym same) h.at;
          }

          by : (x : Done) → kept x.0 ≡ kept s → is_server_down s.server ≡ false
              → Row came put (leg, Pdu bytes) x
          by (t, Ok taken) same up = came_one t came put (leg, Pdu bytes) (now t same up)
          by (t, Err why) same up = now t same up

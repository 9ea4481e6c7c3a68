-- what came of what an in proxy put on its is leg: a stream as it was put, without Pings
use Rattle.law_order.proofs.Vocabulary.{◌≡◌, ℕ, suc, ◌+◌, ◌≤◌, List, [], ◌∷◌, ◌++◌, Some, None, refl, sym, subst, arith, AllByRecursion, IsPrefix}
use Rattle.law_moves.proofs.Vocabulary.{Cookie, Named, ConnB1, ConnB2, InR1A1, InR1A2, InR1A6, InR2A2, Ping, Message, Text, Pdu, Packet, OnLeg, of_leg, all_read_of, BeginsIn, count_of, HasOne}
use Rattle.law_moves.proofs.Lemmas.{one_so}
use Rattle.law_role_inproxy.proofs.Vocabulary.{InProxyConfig, ci, CameOn, IsFront, IsPing, IsRest, IsStream, Joins}
use Rattle.law_role_inproxy.specs.Putting.Puts as puts
use Rattle.law_role_server.proofs.Vocabulary.{is_conn_b2, is_in_r1_a2, is_in_r1_a6, is_in_r2_a2}
use Rattle.law_role_server_in.specs.Refusing.{last_of, named_by}
use Rattle.law_peers_in_channels.proofs.ServerExpects.Streams.{first_one}

-- ---- packets

connects_begins : (connection channel group : Cookie) (m : Named)
    → puts.Connects connection channel group m → BeginsIn channel m
connects_begins connection channel group
    (ConnB1 version of own lifetime keepalive in_group) h = h.1
connects_begins connection channel group m h = absurd h

pub replaces_begins : (connection predecessor successor : Cookie) (m : Named)
    → puts.Replaces connection predecessor successor m → BeginsIn successor m
replaces_begins connection predecessor successor (InR1A1 version of before own) h = h.2
replaces_begins connection predecessor successor m h = absurd h

joins_begins : (successor : Cookie) (m : Named) → Joins successor m → BeginsIn successor m
joins_begins successor (InR1A1 version of before own) h = h
joins_begins successor m h = absurd h

-- ---- Pings alone

each_read : (Q : Message → Type 0) (ms : List Message) → AllByRecursion Q ms
    → AllByRecursion Q (all_read_of ms)
each_read Q [] h = tt
each_read Q (Text bytes ∷ ms) h = each_read Q ms h.1
each_read Q (Pdu pdu ∷ ms) h = (h.0, each_read Q ms h.1)
each_read Q (Packet Ping ∷ ms) h = each_read Q ms h.1
each_read Q (Packet m ∷ ms) h = (h.0, each_read Q ms h.1)

each_front : (Q : Message → Type 0) (a b : List Message) → AllByRecursion Q (a ++ b)
    → AllByRecursion Q a
each_front Q [] b h = tt
each_front Q (m ∷ a) b h = (h.0, each_front Q a b h.1)

each_last : (Q : Message → Type 0) (a : List Message) (m : Message)
    → AllByRecursion Q (a ++ m ∷ []) → Q m
each_last Q [] m h = h.0
each_last Q (x ∷ a) m h = each_last Q a m h.1

module _ (config : InProxyConfig) (log : List OnLeg) where
  -- ---- what is read, and a front of it

  rest_read : (n : ℕ) (ms : List Message) → IsRest log n ms → IsRest log n (all_read_of ms)
  rest_read n [] h = tt
  rest_read n (Text bytes ∷ ms) h = absurd h.0
  rest_read n (Pdu pdu ∷ ms) h = (h.0, rest_read n ms h.1)
  rest_read n (Packet (InR2A2 successor) ∷ ms) h = (h.0, rest_read (suc n) ms h.1)
  rest_read n (Packet (InR1A6 successor) ∷ ms) h = (h.0, each_read IsPing ms h.1)
  rest_read n (Packet Ping ∷ ms) h = rest_read n ms h.1
  rest_read n (Packet m ∷ ms) h = (h.0, rest_read n ms h.1)

  stream_read : (put : List Message) → IsStream config log put
      → IsStream config log (all_read_of put)
  stream_read [] h = tt
  stream_read (Text bytes ∷ rest) h = absurd h.0
  stream_read (Pdu pdu ∷ rest) h = absurd h.0
  stream_read (Packet (ConnB2 version connection channel window timeout group address padding)
      ∷ rest) h = (h.0, rest_read config.number rest h.1)
  stream_read (Packet (InR1A2 version connection predecessor successor window timeout) ∷ rest) h =
      (h.0, rest_read config.number rest h.1)
  stream_read (Packet m ∷ rest) h = absurd h.0

  rest_front : (n : ℕ) (a b : List Message) → IsRest log n (a ++ b) → IsRest log n a
  rest_front n [] b h = tt
  rest_front n (Text bytes ∷ a) b h = absurd h.0
  rest_front n (Pdu pdu ∷ a) b h = (h.0, rest_front n a b h.1)
  rest_front n (Packet (InR2A2 successor) ∷ a) b h = (h.0, rest_front (suc n) a b h.1)
  rest_front n (Packet (InR1A6 successor) ∷ a) b h = (h.0, each_front IsPing a b h.1)
  rest_front n (Packet m ∷ a) b h = (h.0, rest_front n a b h.1)

  stream_front : (a b : List Message) → IsStream config log (a ++ b) → IsStream config log a
  stream_front [] b h = tt
  stream_front (m ∷ a) b h = (h.0, rest_front config.number a b h.1)

  pub came_stream : (came put : List Message) → IsPrefix came (all_read_of put)
      → IsStream config log put → IsStream config log came
  came_stream came put front h =
      stream_front came front.0 (subst (IsStream config log) (sym front.1) (stream_read put h))

  -- ---- IN_R1/A2 is next

  no_first : (version : ℕ) (connection predecessor successor : Cookie) (window timeout n : ℕ)
      (a : List Message)
      → IsRest log n
      (a ++ Packet (InR1A2 version connection predecessor successor window timeout) ∷ []) → ⊥
  no_first version connection predecessor successor window timeout n [] h = h.0
  no_first version connection predecessor successor window timeout n (Text bytes ∷ a) h = h.0
  no_first version connection predecessor successor window timeout n (Pdu pdu ∷ a) h =
      no_first version connection predecessor successor window timeout n a h.1
  no_first version connection predecessor successor window timeout n
      (Packet (InR2A2 other) ∷ a) h =
      no_first version connection predecessor successor window timeout (suc n) a h.1
  no_first version connection predecessor successor window timeout n
      (Packet (InR1A6 other) ∷ a) h =
      let is : Packet (InR1A2 version connection predecessor successor window timeout)
      ≡ Packet Ping =
      each_last IsPing a (Packet (InR1A2 version connection predecessor successor window timeout))
      h.1 in absurd cc
  no_first version connection predecessor successor window timeout n (Packet m ∷ a) h =
      no_first version connection predecessor successor window timeout n a h.1

  -- it is the first packet
  pub next_first : (version : ℕ) (connection predecessor successor : Cookie) (window timeout : ℕ)
      (came : List Message)
      → IsStream config log
      (came ++ Packet (InR1A2 version connection predecessor successor window timeout) ∷ [])
      → (came ≡ [])
      × IsFront (puts.Replaces connection predecessor successor) (of_leg (ci config.number) log)
  next_first version connection predecessor successor window timeout [] h = (refl, h.0.3)
  next_first version connection predecessor successor window timeout (x ∷ came) h =
      absurd (no_first version connection predecessor successor window timeout config.number came
      h.1)

  -- ---- IN_R2/A2 is next

  -- IN_R1/A1 came on the ci leg behind those that were announced, and IN_R1/A6 did not come
  pub record IsAnother (n : ℕ) (came : List Message) (successor : Cookie) : Type 0 where
    pub joins : CameOn (suc (n + count_of is_in_r2_a2 came)) (Joins successor) log
    pub stays : count_of is_in_r1_a6 came ≡ 0

  one_further : (n k : ℕ) (successor : Cookie) → CameOn (suc (suc n + k)) (Joins successor) log
      → CameOn (suc (n + suc k)) (Joins successor) log
  one_further n k successor h =
      let same : suc (suc n + k) ≡ suc (n + suc k) = omega arith in
      subst (λ (j : ℕ). CameOn j (Joins successor) log) same h

  next_rest : (n : ℕ) (a : List Message) (successor : Cookie)
      → IsRest log n (a ++ Packet (InR2A2 successor) ∷ []) → IsAnother n a successor
  next_rest n [] successor h =
      let same : suc n ≡ suc (n + 0) = omega arith in record {
        joins = subst (λ (j : ℕ). CameOn j (Joins successor) log) same h.0;
        stays = refl;
      }
  next_rest n (Text bytes ∷ a) successor h = absurd h.0
  next_rest n (Pdu pdu ∷ a) successor h =
      let rest = next_rest n a successor h.1 in record { joins = rest.joins; stays = rest.stays }
  next_rest n (Packet (InR2A2 other) ∷ a) successor h =
      let rest = next_rest (suc n) a successor h.1 in record {
        joins = one_further n (count_of is_in_r2_a2 a) successor rest.joins;
        stays = rest.stays;
      }
  next_rest n (Packet (InR1A6 other) ∷ a) successor h =
      let is : Packet (InR2A2 successor) ≡ Packet Ping =
      each_last IsPing a (Packet (InR2A2 successor)) h.1 in absurd cc
  next_rest n (Packet m ∷ a) successor h =
      let rest = next_rest n a successor h.1 in record { joins = rest.joins; stays = rest.stays }

  pub next_joins : (came : List Message) (successor : Cookie)
      → IsStream config log (came ++ Packet (InR2A2 successor) ∷ [])
      → IsAnother config.number came successor
  next_joins [] successor h = absurd h.0
  next_joins (Text bytes ∷ a) successor h = absurd h.0
  next_joins (Pdu pdu ∷ a) successor h = absurd h.0
  next_joins (Packet (ConnB2 version connection channel window timeout group address padding) ∷ a)
      successor h =
      let rest = next_rest config.number a successor h.1 in
      record { joins = rest.joins; stays = rest.stays }
  next_joins (Packet (InR1A2 version connection predecessor other window timeout) ∷ a)
      successor h =
      let rest = next_rest config.number a successor h.1 in
      record { joins = rest.joins; stays = rest.stays }
  next_joins (Packet m ∷ a) successor h = absurd h.0

  -- ---- the last announcement

  pub pings_rest : (n : ℕ) (ms : List Message) → AllByRecursion IsPing ms → IsRest log n ms
  pings_rest n [] h = tt
  pings_rest n (m ∷ ms) h =
      subst (λ (x : Message). IsRest log n (x ∷ ms)) (sym h.0) (tt, pings_rest n ms h.1)

  -- the channel of this ci leg began with the cookie
  abbrev Begun : ℕ → Cookie → Type 0
  Begun n cookie = HasOne (BeginsIn cookie) (of_leg (ci n) log)

  begun_at : (k n : ℕ) (cookie : Cookie) → k ≡ n → Begun k cookie → Begun n cookie
  begun_at k n cookie e h = subst (λ (j : ℕ). Begun j cookie) e h

  rest_names : (n : ℕ) (before expected : Cookie) (ms : List Message) → IsRest log n ms
      → Begun n before → last_of named_by (Some before) ms ≡ Some expected
      → Begun (n + count_of is_in_r2_a2 ms) expected
  rest_names n before expected [] h begun e =
      let same : before ≡ expected = cc in
      begun_at n (n + 0) expected (omega arith) (subst (Begun n) same begun)
  rest_names n before expected (Text bytes ∷ ms) h begun e = absurd h.0
  rest_names n before expected (Pdu pdu ∷ ms) h begun e =
      rest_names n before expected ms h.1 begun e
  rest_names n before expected (Packet (InR2A2 successor) ∷ ms) h begun e =
      begun_at (suc n + count_of is_in_r2_a2 ms) (n + suc (count_of is_in_r2_a2 ms)) expected
      (omega arith)
      (rest_names (suc n) successor expected ms h.1
      (one_so (Joins successor) (BeginsIn successor) (joins_begins successor)
      (of_leg (ci (suc n)) log) h.0) e)
  rest_names n before expected (Packet (InR1A6 successor) ∷ ms) h begun e =
      rest_names n before expected ms (pings_rest n ms h.1) begun e
  rest_names n before expected
      (Packet (ConnB2 version connection channel window timeout group address padding) ∷ ms) h
      begun e = absurd h.0
  rest_names n before expected
      (Packet (InR1A2 version connection predecessor successor window timeout) ∷ ms) h begun e =
      absurd h.0
  rest_names n before expected (Packet m ∷ ms) h begun e =
      rest_names n before expected ms h.1 begun e

  -- it names the cookie with which the last channel began, and a channel began there
  pub record IsLast (came : List Message) (expected : Cookie) : Type 0 where
    pub began : 1 ≤ count_of is_conn_b2 came + count_of is_in_r1_a2 came
    pub begun : HasOne (BeginsIn expected)
        (of_leg (ci (config.number + count_of is_in_r2_a2 came)) log)

  pub last_begun : (came : List Message) (expected : Cookie) → IsStream config log came
      → last_of named_by None came ≡ Some expected → IsLast came expected
  last_begun [] expected h e = absurd cc
  last_begun (Text bytes ∷ ms) expected h e = absurd h.0
  last_begun (Pdu pdu ∷ ms) expected h e = absurd h.0
  last_begun (Packet (ConnB2 version connection channel window timeout group address padding) ∷ ms)
      expected h e = record {
        began = omega arith;
        begun = rest_names config.number channel expected ms h.1
            (one_so (puts.Connects connection channel group) (BeginsIn channel)
            (connects_begins connection channel group) (of_leg (ci config.number) log)
            (first_one (puts.Connects connection channel group) (of_leg (ci config.number) log)
            h.0.4)) e;
      }
  last_begun (Packet (InR1A2 version connection predecessor successor window timeout) ∷ ms)
      expected h e = record {
        began = omega arith;
        begun = rest_names config.number successor expected ms h.1
            (one_so (puts.Replaces connection predecessor successor) (BeginsIn successor)
            (replaces_begins connection predecessor successor) (of_leg (ci config.number) log)
            (first_one (puts.Replaces connection predecessor successor)
            (of_leg (ci config.number) log) h.0.3))
            e;
      }
  last_begun (Packet m ∷ ms) expected h e = absurd h.0

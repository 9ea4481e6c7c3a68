-- what stands on an is leg where IN_R1/A6 comes next there, and where IN_R1/A2 named a successor
use Rattle.law_order.proofs.Vocabulary.{◌≡◌, ℕ, suc, ◌+◌, ◌≤◌, Bool, true, false, if◌then◌else◌, List, [], ◌∷◌, ◌++◌, append_assoc, Some, None, refl, sym, ◌∙◌, subst, arith, Option, AllByRecursion, IsPrefix}
use Rattle.law_moves.proofs.Vocabulary.{Cookie, ConnB2, InR1A2, InR1A6, InR2A2, Ping, is_ping, Message, Text, Pdu, Packet, OnLeg, of_leg, all_read_of, BeginsIn, HasBegunIn, count_of}
use Rattle.law_moves.proofs.Lemmas.{one_so}
use Rattle.law_role_inproxy.proofs.Vocabulary.{InProxyConfig, ci, CameOn, IsPing, IsRest, IsStream, Leaves}
use Rattle.law_role_inproxy.specs.Putting.Puts.{Replaces}
use Rattle.law_role_server.proofs.Vocabulary.{is_conn_b2, is_in_r1_a2, is_in_r1_a6, is_in_r2_a2}
use Rattle.law_role_server_in.specs.Refusing.{last_of, successor_by}
use Rattle.law_peers_expects.proofs.InProxyExpects.OnServer.{replaces_begin}
use Rattle.law_peers_in_channels.proofs.ServerExpects.Streams.{first_one}

-- ---- Pings

pub pings_read : (ms : List Message) → AllByRecursion IsPing ms
    → AllByRecursion IsPing (all_read_of ms)
pings_read [] h = tt
pings_read (Text bytes ∷ ms) h = absurd (let e = h.0 in cc)
pings_read (Pdu pdu ∷ ms) h = absurd (let e = h.0 in cc)
pings_read (Packet m ∷ ms) h = by (is_ping m) h.0 (pings_read ms h.1)
  where
    by : (b : Bool) → Packet m ≡ Packet Ping → AllByRecursion IsPing (all_read_of ms)
        → AllByRecursion IsPing ((if b then [] else Packet m ∷ []) ++ all_read_of ms)
    by true one rest = rest
    by false one rest = (one, rest)

pub only_pings : (m : Message) (before later : List Message)
    → AllByRecursion IsPing (before ++ m ∷ later) → m ≡ Packet Ping
only_pings m [] later h = h.0
only_pings m (x ∷ before) later h = only_pings m before later h.1

pings_name : (known : Option Cookie) (before later : List Message)
    → AllByRecursion IsPing (before ++ later) → last_of successor_by known before ≡ known
pings_name known [] later h = refl
pings_name known (x ∷ before) later h =
    subst (λ (y : Message). last_of successor_by known (y ∷ before) ≡ known) (sym h.0)
    (pings_name known before later h.1)

-- ---- packets

module _ (config : InProxyConfig) (log : List OnLeg) where
  -- ---- what is read of them

  rest_read : (n : ℕ) (ms : List Message) → IsRest log n ms → IsRest log n (all_read_of ms)
  rest_read n [] h = tt
  rest_read n (Text bytes ∷ ms) h = absurd h.0
  rest_read n (Pdu pdu ∷ ms) h = (h.0, rest_read n ms h.1)
  rest_read n (Packet (InR2A2 successor) ∷ ms) h = (h.0, rest_read (suc n) ms h.1)
  rest_read n (Packet (InR1A6 successor) ∷ ms) h = (h.0, pings_read ms h.1)
  rest_read n (Packet Ping ∷ ms) h = rest_read n ms h.1
  rest_read n (Packet other ∷ ms) h = (h.0, rest_read n ms h.1)

  stream_read : (ms : List Message) → IsStream config log ms
      → IsStream config log (all_read_of ms)
  stream_read [] h = tt
  stream_read (Text bytes ∷ ms) h = absurd h.0
  stream_read (Pdu pdu ∷ ms) h = absurd h.0
  stream_read (Packet (ConnB2 version connection channel window timeout group address padding)
      ∷ ms) h =
      (h.0, rest_read config.number ms h.1)
  stream_read (Packet (InR1A2 version connection predecessor successor window timeout) ∷ ms) h =
      (h.0, rest_read config.number ms h.1)
  stream_read (Packet m ∷ ms) h = absurd h.0

  -- ---- where IN_R1/A6 comes next

  -- IN_R1/A5 with this successor came on the last ci leg that the server was told of, where the
  -- first of them was n, and no IN_R1/A6 stands before
  abbrev IsLeft : ℕ → Cookie → List Message → Type 0
  IsLeft n successor before =
      CameOn (n + count_of is_in_r2_a2 before) (Leaves successor) log
      × (count_of is_in_r1_a6 before ≡ 0)

  is_left : (n : ℕ) (successor : Cookie) (before later : List Message)
      → IsRest log n (before ++ Packet (InR1A6 successor) ∷ later) → IsLeft n successor before
  is_left n successor [] later h = (
    subst (λ (k : ℕ). CameOn k (Leaves successor) log) (let e : n ≡ n + 0 = omega arith in e)
        h.0,
    refl,
  )
  is_left n successor (Text bytes ∷ before) later h = absurd h.0
  is_left n successor (Pdu pdu ∷ before) later h = is_left n successor before later h.1
  is_left n successor (Packet (InR2A2 other) ∷ before) later h =
      let rest = is_left (suc n) successor before later h.1 in
      let same : suc n + count_of is_in_r2_a2 before ≡ n + suc (count_of is_in_r2_a2 before) =
      omega arith in
      (subst (λ (k : ℕ). CameOn k (Leaves successor) log) same rest.0, rest.1)
  is_left n successor (Packet (InR1A6 other) ∷ before) later h =
      let e = only_pings (Packet (InR1A6 successor)) before later h.1 in absurd cc
  is_left n successor (Packet other ∷ before) later h = is_left n successor before later h.1

  -- the leg began, and the last of its channels is left for this successor
  pub record HandsOverTo (successor : Cookie) (came : List Message) : Type 0 where
    pub began : 1 ≤ count_of is_conn_b2 came + count_of is_in_r1_a2 came
    pub left : CameOn (config.number + count_of is_in_r2_a2 came) (Leaves successor) log
    pub stays : count_of is_in_r1_a6 came ≡ 0

  hands_over : (successor : Cookie) (came later : List Message)
      → IsStream config log (came ++ Packet (InR1A6 successor) ∷ later)
      → HandsOverTo successor came
  hands_over successor [] later h = absurd h.0
  hands_over successor (Text bytes ∷ came) later h = absurd h.0
  hands_over successor (Pdu pdu ∷ came) later h = absurd h.0
  hands_over successor
      (Packet (ConnB2 version connection channel window timeout group address padding) ∷ came)
      later h =
      let rest = is_left config.number successor came later h.1 in
      record { began = omega arith; left = rest.0; stays = rest.1 }
  hands_over successor
      (Packet (InR1A2 version connection predecessor other window timeout) ∷ came) later h =
      let rest = is_left config.number successor came later h.1 in
      record { began = omega arith; left = rest.0; stays = rest.1 }
  hands_over successor (Packet m ∷ came) later h = absurd h.0

  pub hands_over_next : (successor : Cookie) (came put : List Message) → IsStream config log put
      → IsPrefix (came ++ Packet (InR1A6 successor) ∷ []) (all_read_of put)
      → HandsOverTo successor came
  hands_over_next successor came put h ahead =
      hands_over successor came ahead.0
      (subst (IsStream config log)
      (sym (sym (append_assoc came (Packet (InR1A6 successor) ∷ []) ahead.0) ∙ ahead.1))
      (stream_read put h))

  -- ---- whom IN_R1/A2 named

  rest_names : (n : ℕ) (known : Option Cookie) (came later : List Message)
      → IsRest log n (came ++ later) → last_of successor_by known came ≡ known
  rest_names n known [] later h = refl
  rest_names n known (Text bytes ∷ came) later h = absurd h.0
  rest_names n known (Pdu pdu ∷ came) later h = rest_names n known came later h.1
  rest_names n known (Packet (InR2A2 successor) ∷ came) later h =
      rest_names (suc n) known came later h.1
  rest_names n known (Packet (InR1A6 successor) ∷ came) later h =
      pings_name known came later h.1
  rest_names n known
      (Packet (InR1A2 version connection predecessor successor window timeout) ∷ came) later h =
      absurd h.0
  rest_names n known (Packet other ∷ came) later h = rest_names n known came later h.1

  names : (successor : Cookie) (came later : List Message) → IsStream config log (came ++ later)
      → last_of successor_by None came ≡ Some successor
      → HasBegunIn successor (of_leg (ci config.number) log)
  names successor [] later h e = absurd cc
  names successor (Text bytes ∷ came) later h e = absurd h.0
  names successor (Pdu pdu ∷ came) later h e = absurd h.0
  names successor
      (Packet (ConnB2 version connection channel window timeout group address padding) ∷ came)
      later h e =
      let none = rest_names config.number None came later h.1 in absurd cc
  names successor
      (Packet (InR1A2 version connection predecessor other window timeout) ∷ came) later h e =
      let known = rest_names config.number (Some other) came later h.1 in
      let same : other ≡ successor = cc in
      subst (λ (c : Cookie). HasBegunIn c (of_leg (ci config.number) log)) same
      (one_so (Replaces connection predecessor other) (BeginsIn other)
      (replaces_begin connection predecessor other) (of_leg (ci config.number) log)
      (first_one (Replaces connection predecessor other) (of_leg (ci config.number) log) h.0.3))
  names successor (Packet m ∷ came) later h e = absurd h.0

  -- the channel of this cookie began on the first ci leg
  pub names_begun : (successor : Cookie) (came put : List Message) → IsStream config log put
      → IsPrefix came (all_read_of put) → last_of successor_by None came ≡ Some successor
      → HasBegunIn successor (of_leg (ci config.number) log)
  names_begun successor came put h front e =
      names successor came front.0
      (subst (IsStream config log) (sym front.1) (stream_read put h)) e

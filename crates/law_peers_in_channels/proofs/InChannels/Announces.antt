-- which channels an in proxy tells its server of, by what came at it
use Rattle.law_order.proofs.Vocabulary.{◌≡◌, ◌⊎◌, ℕ, suc, ◌+◌, ◌≤◌, Bool, false, if◌then◌else◌, List, [], ◌∷◌, ◌++◌, inl, inr, refl, sym, ap, ◌∙◌, subst, arith, cases_eq, AllByRecursion, IsPrefix}
use Rattle.law_moves.proofs.Vocabulary.{Cookie, Named, ConnB2, InR1A1, InR1A2, InR1A6, InR2A2, Ping, Message, Text, Pdu, Packet, OnLeg, of_leg, all_read_of, read_of, count_of, HasOne}
use Rattle.law_moves.proofs.Lemmas.{count_append, one_so}
use Rattle.law_role_inproxy.proofs.Vocabulary.{InProxyConfig, ci, IsFirst, IsPing, IsPlainPacket, IsRest, IsStream, Joins}
use Rattle.law_role_inproxy.specs.Putting.Puts.{Replaces}
use Rattle.law_role_server.proofs.Vocabulary.{is_conn_b2, is_in_r1_a2, is_in_r2_a2}
use Rattle.law_peers_moments.proofs.Read.{front_count}
use Rattle.law_peers_in_channels.proofs.ServerExpects.FirstIn.{IsConnB1, IsConnB2, passes_conn_b2}
use Rattle.law_peers_in_channels.proofs.ServerExpects.Logs.{some_counted}
use Rattle.law_peers_in_channels.proofs.ServerExpects.Streams.{conn_b2_asked, first_one}

-- ---- packets

abbrev pub IsInR1A1 : Named → Type 0
IsInR1A1 (InR1A1 version connection predecessor successor) = Unit {0}
IsInR1A1 packet = ⊥

pub joins_in_r1_a1 : (successor : Cookie) (m : Named) → Joins successor m → IsInR1A1 m
joins_in_r1_a1 successor (InR1A1 version of before own) h = tt
joins_in_r1_a1 successor m h = absurd h

replaces_in_r1_a1 : (connection predecessor successor : Cookie) (m : Named)
    → Replaces connection predecessor successor m → IsInR1A1 m
replaces_in_r1_a1 connection predecessor successor (InR1A1 version of before own) h = tt
replaces_in_r1_a1 connection predecessor successor m h = absurd h

-- those that begin a channel on an is leg, and those that tell of the next one there
abbrev pub firsts : List Message → ℕ
firsts ms = count_of is_conn_b2 ms + count_of is_in_r1_a2 ms

abbrev pub nexts : List Message → ℕ
nexts ms = count_of is_in_r2_a2 ms

-- a packet that does not pass a test counts nothing
skipped : (test : Named → Bool) (m : Named) (ms : List Message) → test m ≡ false
    → count_of test (Packet m ∷ ms) ≡ count_of test ms
skipped test m ms e =
    ap (λ (b : Bool). if b then suc (count_of test ms) else count_of test ms) e

module _ (config : InProxyConfig) (log : List OnLeg) where
  -- ---- behind the first packet

  -- IN_R2/A2, IN_R1/A6, or a plain one
  abbrev IsBehind : Named → Type 0
  IsBehind (InR2A2 successor) = Unit {0}
  IsBehind (InR1A6 successor) = Unit {0}
  IsBehind packet = IsPlainPacket log packet

  plain_behind : (m : Named) → IsPlainPacket log m → IsBehind m
  plain_behind (InR2A2 successor) h = tt
  plain_behind (InR1A6 successor) h = tt
  plain_behind m h = h

  no_conn_b2 : (m : Named) → IsBehind m → is_conn_b2 m ≡ false
  no_conn_b2 (ConnB2 version connection channel window timeout group address padding) h = absurd h
  no_conn_b2 m h = refl

  no_in_r1_a2 : (m : Named) → IsBehind m → is_in_r1_a2 m ≡ false
  no_in_r1_a2 (InR1A2 version connection predecessor successor window timeout) h = absurd h
  no_in_r1_a2 m h = refl

  no_in_r2_a2 : (m : Named) → IsPlainPacket log m → is_in_r2_a2 m ≡ false
  no_in_r2_a2 (InR2A2 successor) h = absurd h
  no_in_r2_a2 m h = refl

  pings_none : (test : Named → Bool) → test Ping ≡ false → (ms : List Message)
      → AllByRecursion IsPing ms → count_of test ms ≡ 0
  pings_none test none [] h = refl
  pings_none test none (message ∷ ms) h =
      subst (λ (first : Message). count_of test (first ∷ ms) ≡ 0) (sym h.0)
      (skipped test Ping ms none ∙ pings_none test none ms h.1)

  rest_none : (test : Named → Bool) → ((m : Named) → IsBehind m → test m ≡ false) → (n : ℕ)
      (ms : List Message) → IsRest log n ms → count_of test ms ≡ 0
  rest_none test none n [] h = refl
  rest_none test none n (Text bytes ∷ ms) h = absurd h.0
  rest_none test none n (Pdu pdu ∷ ms) h = rest_none test none n ms h.1
  rest_none test none n (Packet (InR2A2 successor) ∷ ms) h =
      skipped test (InR2A2 successor) ms (none (InR2A2 successor) tt)
      ∙ rest_none test none (suc n) ms h.1
  rest_none test none n (Packet (InR1A6 successor) ∷ ms) h =
      skipped test (InR1A6 successor) ms (none (InR1A6 successor) tt)
      ∙ pings_none test (none Ping tt) ms h.1
  rest_none test none n (Packet m ∷ ms) h =
      skipped test m ms (none m (plain_behind m h.0)) ∙ rest_none test none n ms h.1

  -- for each IN_R2/A2 the IN_R1/A1 came on the next ci leg
  rest_joined : (n : ℕ) (ms : List Message) → IsRest log n ms → (k : ℕ) → suc n ≤ k
      → k ≤ n + nexts ms → HasOne IsInR1A1 (of_leg (ci k) log)
  rest_joined n [] h k least most = absurd (omega (arith, least, most))
  rest_joined n (Text bytes ∷ ms) h k least most = absurd h.0
  rest_joined n (Pdu pdu ∷ ms) h k least most = rest_joined n ms h.1 k least most
  rest_joined n (Packet (InR2A2 successor) ∷ ms) h k least most =
      by (cases_eq k (suc n)) (rest_joined (suc n) ms h.1 k)
    where
      by : (k ≡ suc n) ⊎ (k ≡ suc n → ⊥)
          → (suc (suc n) ≤ k → k ≤ suc n + nexts ms → HasOne IsInR1A1 (of_leg (ci k) log))
          → HasOne IsInR1A1 (of_leg (ci k) log)
      by (inl is) rest =
          subst (λ (j : ℕ). HasOne IsInR1A1 (of_leg (ci j) log)) (sym is)
          (one_so (Joins successor) IsInR1A1 (joins_in_r1_a1 successor)
          (of_leg (ci (suc n)) log) h.0)
      by (inr apart) rest = rest (omega (arith, least, apart)) (omega (arith, most))
  rest_joined n (Packet (InR1A6 successor) ∷ ms) h k least most =
      let none = pings_none is_in_r2_a2 refl ms h.1 in absurd (omega (arith, least, most, none))
  rest_joined n (Packet m ∷ ms) h k least most =
      let same = skipped is_in_r2_a2 m ms (no_in_r2_a2 m h.0) in
      rest_joined n ms h.1 k least (omega (arith, most, same))

  -- ---- the first packet

  abbrev pub CameOn : ℕ → (Named → Type 0) → Type 0
  CameOn n Is = HasOne Is (of_leg (ci n) log)

  first_begins : (m : Named) → IsFirst config log m → firsts (Packet m ∷ []) ≡ 1
  first_begins (ConnB2 version connection channel window timeout group address padding) h = refl
  first_begins (InR1A2 version connection predecessor successor window timeout) h = refl
  first_begins m h = absurd h

  first_no_next : (m : Named) → IsFirst config log m → is_in_r2_a2 m ≡ false
  first_no_next (ConnB2 version connection channel window timeout group address padding) h = refl
  first_no_next (InR1A2 version connection predecessor successor window timeout) h = refl
  first_no_next m h = absurd h

  first_read : (m : Named) → IsFirst config log m → read_of (Packet m) ≡ Packet m ∷ []
  first_read (ConnB2 version connection channel window timeout group address padding) h = refl
  first_read (InR1A2 version connection predecessor successor window timeout) h = refl
  first_read m h = absurd h

  -- IN_R1/A2 is put for IN_R1/A1
  first_asked : (m : Named) → IsFirst config log m → 1 ≤ count_of is_in_r1_a2 (Packet m ∷ [])
      → CameOn config.number IsInR1A1
  first_asked (ConnB2 version connection channel window timeout group address padding) h some =
      absurd (omega (arith, some))
  first_asked (InR1A2 version connection predecessor successor window timeout) h some =
      one_so (Replaces connection predecessor successor) IsInR1A1
      (replaces_in_r1_a1 connection predecessor successor) (of_leg (ci config.number) log)
      (first_one (Replaces connection predecessor successor) (of_leg (ci config.number) log) h.3)
  first_asked m h some = absurd h

  -- ---- what is read of it, as far as it goes

  pub record Announces (ms : List Message) : Type 0 where
    pub once : firsts ms ≤ 1
    pub begins : 1 ≤ nexts ms → 1 ≤ firsts ms
    pub conn_b2 : 1 ≤ count_of is_conn_b2 ms → CameOn config.number IsConnB1
    pub in_r1_a2 : 1 ≤ count_of is_in_r1_a2 ms → CameOn config.number IsInR1A1
    pub next : (k : ℕ) → suc config.number ≤ k → k ≤ config.number + nexts ms
        → CameOn k IsInR1A1

  module _ (m : Named) (rest : List Message) (h : IsStream config log (Packet m ∷ rest))
      (ms : List Message) (front : IsPrefix ms (all_read_of (Packet m ∷ rest))) where
    begins_so : (so : List Message) → IsPrefix so (all_read_of (Packet m ∷ rest))
        → 1 ≤ nexts so → 1 ≤ firsts so
    begins_so [] read some = absurd (omega (arith, some))
    begins_so (x ∷ so) read some =
        let e : x ∷ (so ++ read.0) ≡ Packet m ∷ all_read_of rest
        = read.1 ∙ ap (λ (xs : List Message). xs ++ all_read_of rest) (first_read m h.0) in
        let same : x ≡ Packet m = cc in
        subst (λ (y : Message). 1 ≤ firsts (y ∷ so)) (sym same)
        (let one = first_begins m h.0 in
        let a = count_append is_conn_b2 (Packet m ∷ []) so in
        let b = count_append is_in_r1_a2 (Packet m ∷ []) so in
        omega (arith, one, a, b))

    announces_first : Announces ms
    announces_first =
        let one = first_begins m h.0 in
        let a = count_append is_conn_b2 (Packet m ∷ []) rest in
        let b = count_append is_in_r1_a2 (Packet m ∷ []) rest in
        let c = skipped is_in_r2_a2 m rest (first_no_next m h.0) in
        let none_a = rest_none is_conn_b2 no_conn_b2 config.number rest h.1 in
        let none_b = rest_none is_in_r1_a2 no_in_r1_a2 config.number rest h.1 in
        let front_a = front_count is_conn_b2 ms (Packet m ∷ rest) front in
        let front_b = front_count is_in_r1_a2 ms (Packet m ∷ rest) front in
        let front_c = front_count is_in_r2_a2 ms (Packet m ∷ rest) front in
        record {
          once = omega (arith, one, a, b, none_a, none_b, front_a, front_b);
          begins = begins_so ms front;
          conn_b2 = λ some.
              conn_b2_asked config log (Packet m ∷ rest) h
              (some_counted IsConnB2 is_conn_b2 passes_conn_b2 (Packet m ∷ rest)
              (omega (arith, some, front_a)));
          in_r1_a2 = λ some. first_asked m h.0 (omega (arith, some, front_b, b, none_b));
          next = λ k least most.
              rest_joined config.number rest h.1 k least (omega (arith, most, front_c, c));
        }

  -- where nothing was put
  announces_none : (ms : List Message) → IsPrefix ms [] → Announces ms
  announces_none ms front =
      let front_a = front_count is_conn_b2 ms [] front in
      let front_b = front_count is_in_r1_a2 ms [] front in
      let front_c = front_count is_in_r2_a2 ms [] front in
      record {
        once = omega (arith, front_a, front_b);
        begins = λ some. absurd (omega (arith, front_c, some));
        conn_b2 = λ some. absurd (omega (arith, front_a, some));
        in_r1_a2 = λ some. absurd (omega (arith, front_b, some));
        next = λ k least most. absurd (omega (arith, front_c, least, most));
      }

  pub announces : (put : List Message) → IsStream config log put → (ms : List Message)
      → IsPrefix ms (all_read_of put) → Announces ms
  announces [] h ms front = announces_none ms front
  announces (Text bytes ∷ rest) h ms front = absurd h.0
  announces (Pdu pdu ∷ rest) h ms front = absurd h.0
  announces (Packet m ∷ rest) h ms front = announces_first m rest h ms front

-- what a front of an in proxy's stream to the server tells: its first packet, and the cookie that it
-- got last
use Rattle.law_order.proofs.Vocabulary.{◌≡◌, ℕ, zero, suc, ◌+◌, ◌≤◌, List, [], ◌∷◌, ◌++◌, Some, None, inl, inr, refl, sym, ap, ◌∙◌, subst, arith}
use Rattle.std.specs.declared.option.Option.{Option}
use Rattle.rh_audit.specs.declared.packet.First.{First}
use Rattle.rh_audit.specs.Chains.{newest_of}
use Rattle.rh_audit.specs.Streams.{first_among, renewed}
use Rattle.law_moves.proofs.Vocabulary.{Cookie, Named, ConnB1, ConnB2, InR1A1, InR1A2, InR1A6, InR2A2, Message, Text, Pdu, Packet, OnLeg, of_leg, BeginsIn, count_of, HasOne}
use Rattle.law_moves.proofs.Lemmas.{one_so}
use Rattle.law_role_inproxy.proofs.Vocabulary.{InProxyConfig, ci, IsFirst, IsRest, IsStream, Joins}
use Rattle.law_role_inproxy.specs.Putting.Puts as puts
use Rattle.law_role_server.proofs.Vocabulary.{is_in_r2_a2}
use Rattle.law_audit.specs.Chains.Successors.{newest}
use Rattle.law_peers_in_channels.proofs.InSuccessors.Streams.{pings_rest, replaces_begins}
use Rattle.law_peers_in_channels.proofs.ServerExpects.Streams as streams
use Rattle.law_peers_chains.specs.Shown.{framed, mets_of}
use Rattle.law_peers_chains.proofs.Fronts.{Begins, Starts, new, next, renewed_none}

-- ---- packets

connects_begins : (connection channel group : Cookie) (m : Named)
    → puts.Connects connection channel group m → BeginsIn channel m
connects_begins connection channel group
    (ConnB1 version of own lifetime keepalive in_group) h = h.1
connects_begins connection channel group m h = absurd h

joins_begins : (successor : Cookie) (m : Named) → Joins successor m → BeginsIn successor m
joins_begins successor (InR1A1 version of before own) h = h
joins_begins successor m h = absurd h

connects_first : (connection channel group : Cookie) (m : Named)
    → puts.Connects connection channel group m → Begins (new channel) m
connects_first connection channel group
    (ConnB1 version of own lifetime keepalive in_group) h =
    ap (λ (c : Cookie). Some (new c)) h.1
connects_first connection channel group m h = absurd h

replaces_first : (connection predecessor successor : Cookie) (m : Named)
    → puts.Replaces connection predecessor successor m → Begins (next predecessor successor) m
replaces_first connection predecessor successor (InR1A1 version of before own) h =
    ap (λ (c : Cookie). Some (next c own)) h.1
    ∙ ap (λ (c : Cookie). Some (next predecessor c)) h.2
replaces_first connection predecessor successor m h = absurd h

module _ (config : InProxyConfig) (log : List OnLeg) where
  abbrev On : ℕ → (Named → Type 0) → Type 0
  On n P = HasOne P (of_leg (ci n) log)

  -- ---- frames

  rest_framed : (n : ℕ) (ms : List Message) → IsRest log n ms → framed ms ≡ ms
  rest_framed n [] h = refl
  rest_framed n (Text bytes ∷ ms) h = absurd h.0
  rest_framed n (Pdu pdu ∷ ms) h =
      ap (λ (x : List Message). Pdu pdu ∷ x) (rest_framed n ms h.1)
  rest_framed n (Packet (InR2A2 successor) ∷ ms) h =
      ap (λ (x : List Message). Packet (InR2A2 successor) ∷ x) (rest_framed (suc n) ms h.1)
  rest_framed n (Packet (InR1A6 successor) ∷ ms) h =
      ap (λ (x : List Message). Packet (InR1A6 successor) ∷ x)
      (rest_framed n ms (pings_rest config log n ms h.1))
  rest_framed n (Packet m ∷ ms) h =
      ap (λ (x : List Message). Packet m ∷ x) (rest_framed n ms h.1)

  pub stream_framed : (put : List Message) → IsStream config log put → framed put ≡ put
  stream_framed [] h = refl
  stream_framed (Text bytes ∷ ms) h = absurd h.0
  stream_framed (Pdu pdu ∷ ms) h = absurd h.0
  stream_framed (Packet m ∷ ms) h =
      ap (λ (x : List Message). Packet m ∷ x) (rest_framed config.number ms h.1)

  begins_stream : (m : Named) → IsFirst config log m → (begun : First) × Begins begun m
  begins_stream (ConnB2 version connection channel window timeout group address padding) h =
      (new channel, refl)
  begins_stream (InR1A2 version connection predecessor successor window timeout) h =
      (next predecessor successor, refl)
  begins_stream m h = absurd h

  pub stream_starts : (put : List Message) → IsStream config log put → Starts put
  stream_starts [] h = inl refl
  stream_starts (Text bytes ∷ ms) h = absurd h.0
  stream_starts (Pdu pdu ∷ ms) h = absurd h.0
  stream_starts (Packet m ∷ ms) h =
      let begun = begins_stream m h.0 in inr (m, framed ms, begun.0, refl, begun.1)

  -- ---- the first packet

  -- it says what the packet says that came first on the own ci leg, which began with its cookie
  pub record IsAsked (begun : First) : Type 0 where
    pub asked : On config.number (Begins begun)
    pub own : On config.number (BeginsIn begun.own)

  same_begun : (a b : First) → Some a ≡ Some b → a ≡ b
  same_begun a b e = cc

  asked_new : (connection channel group : Cookie)
      → puts.CameFirst config.number (puts.Connects connection channel group) log
      → IsAsked (new channel)
  asked_new connection channel group came =
      let has = streams.first_one (puts.Connects connection channel group)
      (of_leg (ci config.number) log) came in record {
        asked = one_so (puts.Connects connection channel group) (Begins (new channel))
            (connects_first connection channel group) (of_leg (ci config.number) log) has;
        own = one_so (puts.Connects connection channel group) (BeginsIn channel)
            (connects_begins connection channel group) (of_leg (ci config.number) log) has;
      }

  asked_next : (connection predecessor successor : Cookie)
      → puts.CameFirst config.number (puts.Replaces connection predecessor successor) log
      → IsAsked (next predecessor successor)
  asked_next connection predecessor successor came =
      let has = streams.first_one (puts.Replaces connection predecessor successor)
      (of_leg (ci config.number) log) came in record {
        asked = one_so (puts.Replaces connection predecessor successor)
            (Begins (next predecessor successor))
            (replaces_first connection predecessor successor) (of_leg (ci config.number) log) has;
        own = one_so (puts.Replaces connection predecessor successor) (BeginsIn successor)
            (replaces_begins connection predecessor successor) (of_leg (ci config.number) log) has;
      }

  begun_is : (m : Named) (begun : First) → IsFirst config log m → Begins begun m → IsAsked begun
  begun_is (ConnB2 version connection channel window timeout group address padding) begun h is =
      subst IsAsked (same_begun (new channel) begun is) (asked_new connection channel group h.4)
  begun_is (InR1A2 version connection predecessor successor window timeout) begun h is =
      subst IsAsked (same_begun (next predecessor successor) begun is)
      (asked_next connection predecessor successor h.3)
  begun_is m begun h is = absurd h

  -- ---- behind it

  -- the last cookie that the channel got is that of the last ci leg of which the server was told
  pub record IsAnew (n : ℕ) (a : List Message) (found : Option Cookie) : Type 0 where
    pub cookie : Cookie
    pub is : renewed found (mets_of a) ≡ Some cookie
    pub came : On (n + count_of is_in_r2_a2 a) (Joins cookie)

  one_anew : (n : ℕ) (successor : Cookie) (a : List Message) (found : Option Cookie)
      → On (suc n) (Joins successor)
      → (1 ≤ count_of is_in_r2_a2 a → IsAnew (suc n) a (Some successor))
      → IsAnew n (Packet (InR2A2 successor) ∷ a) found
  one_anew n successor a found came more = by (count_of is_in_r2_a2 a) refl
    where
      by : (k : ℕ) → count_of is_in_r2_a2 a ≡ k → IsAnew n (Packet (InR2A2 successor) ∷ a) found
      by zero e =
          let at : suc n ≡ n + suc (count_of is_in_r2_a2 a) = omega (arith, e) in record {
            cookie = successor;
            is = renewed_none (Some successor) a e;
            came = subst (λ (k : ℕ). On k (Joins successor)) at came;
          }
      by (suc k) e =
          let rest = more (omega (arith, e)) in
          let at : suc n + count_of is_in_r2_a2 a ≡ n + suc (count_of is_in_r2_a2 a) = omega arith in
          record {
            cookie = rest.cookie;
            is = rest.is;
            came = subst (λ (k : ℕ). On k (Joins rest.cookie)) at rest.came;
          }

  rest_anew : (n : ℕ) (a b : List Message) (found : Option Cookie) → IsRest log n (a ++ b)
      → 1 ≤ count_of is_in_r2_a2 a → IsAnew n a found
  rest_anew n [] b found h some = absurd (omega (arith, some))
  rest_anew n (Text bytes ∷ a) b found h some = absurd h.0
  rest_anew n (Pdu pdu ∷ a) b found h some =
      let rest = rest_anew n a b found h.1 some in
      record { cookie = rest.cookie; is = rest.is; came = rest.came }
  rest_anew n (Packet (InR2A2 successor) ∷ a) b found h some =
      one_anew n successor a found h.0 (rest_anew (suc n) a b (Some successor) h.1)
  rest_anew n (Packet (InR1A6 successor) ∷ a) b found h some =
      let rest = rest_anew n a b found (pings_rest config log n (a ++ b) h.1) some in
      record { cookie = rest.cookie; is = rest.is; came = rest.came }
  rest_anew n (Packet m ∷ a) b found h some =
      let rest = rest_anew n a b found h.1 some in
      record { cookie = rest.cookie; is = rest.is; came = rest.came }

  -- ---- a front of the stream

  -- its first packet, and that the channel began by the last of its cookies
  pub record IsFrontOf (front : List Message) (begun : First) : Type 0 where
    pub asked : On config.number (Begins begun)
    pub last : On (config.number + count_of is_in_r2_a2 front)
        (BeginsIn (newest (mets_of front) begun))

  newest_is : (begun : First) (a b : List Message) → IsRest log config.number (a ++ b)
      → On config.number (BeginsIn begun.own)
      → On (config.number + count_of is_in_r2_a2 a)
      (BeginsIn (newest_of (renewed None (mets_of a)) begun.own))
  newest_is begun a b h own = by (count_of is_in_r2_a2 a) refl
    where
      N : ℕ → Option Cookie → Type 0
      N k o = On k (BeginsIn (newest_of o begun.own))

      by : (k : ℕ) → count_of is_in_r2_a2 a ≡ k
          → N (config.number + count_of is_in_r2_a2 a) (renewed None (mets_of a))
      by zero e =
          let at : config.number ≡ config.number + count_of is_in_r2_a2 a = omega (arith, e) in
          subst (λ (k : ℕ). N k (renewed None (mets_of a))) at
          (subst (N config.number) (sym (renewed_none None a e)) own)
      by (suc k) e =
          let anew = rest_anew config.number a b None h (omega (arith, e)) in
          subst (N (config.number + count_of is_in_r2_a2 a)) (sym anew.is)
          (one_so (Joins anew.cookie) (BeginsIn anew.cookie) (joins_begins anew.cookie)
          (of_leg (ci (config.number + count_of is_in_r2_a2 a)) log) anew.came)

  -- the first packet tells no cookie anew
  first_last : (m : Named) (begun : First) (a b : List Message) → IsFirst config log m
      → IsRest log config.number (a ++ b) → On config.number (BeginsIn begun.own)
      → On (config.number + count_of is_in_r2_a2 (Packet m ∷ a))
      (BeginsIn (newest (mets_of (Packet m ∷ a)) begun))
  first_last (ConnB2 version connection channel window timeout group address padding) begun a b is
      h own = newest_is begun a b h own
  first_last (InR1A2 version connection predecessor successor window timeout) begun a b is h own =
      newest_is begun a b h own
  first_last m begun a b is h own = absurd is

  pub front_is : (front rest : List Message) (begun : First) → IsStream config log (front ++ rest)
      → first_among (mets_of front) ≡ Some begun → IsFrontOf front begun
  front_is [] rest begun h met = absurd (let both = met in cc)
  front_is (Text bytes ∷ a) rest begun h met = absurd h.0
  front_is (Pdu pdu ∷ a) rest begun h met = absurd h.0
  front_is (Packet m ∷ a) rest begun h met =
      let first = begun_is m begun h.0 met in record {
        asked = first.asked;
        last = first_last m begun a rest h.0 h.1 first.own;
      }

-- what comes next on the leg to the server is expected there, and names the cookie that is
use Rattle.law_order.proofs.Vocabulary.{◌≡◌, ◌⊎◌, ℕ, ◌≤◌, Bool, true, false, List, [], ◌∷◌, ◌++◌, inl, inr, refl, sym, ap, ◌∙◌, subst, arith, AllByRecursion, IsPrefix}
use Rattle.rh_sig.specs.declared.named.Named.TheVariants as named
use Rattle.law_moves.proofs.Vocabulary.{Cookie, Named, ClientIn, Message, Text, Pdu, Packet, Passage, of_leg, all_read_of, BeginsIn, Has, HasOne, HasBegunIn, count_of, of_kind, is_conn_b1, is_conn_b2, is_in_r1_a1, is_in_r1_a6, opens_server}
use Rattle.law_moves.proofs.Lemmas.{one_so}
use Rattle.law_role_inproxy.proofs.Vocabulary.{InProxy, PutsForWhatCame, is_leg, MismatchOnServer, UnexpectedOnServer, any, ci_leg}
use Rattle.law_role_client_rows.specs.Putting.{IsPacket}
use Rattle.law_peers_moments.proofs.Read.{front_one}
use Rattle.law_peers_expects.proofs.InProxyExpects.Fronts.{HasFirst, IsRead, next_so, next_stands, one_counts}
use Rattle.law_peers_expects.specs.InProxyExpects.Announcing.{AnnouncesWhatCame, Connects, IsFor, Replaces}

-- ---- what a server answers an in proxy

abbrev pub is_in_r1_a2 : Named → Bool
is_in_r1_a2 (named.InR1A2 version connection predecessor successor window timeout) = true
is_in_r1_a2 packet = false

abbrev pub Is : (Named → Bool) → Named → Type 0
Is test m = test m ≡ true

-- CONN/B2 or IN_R1/A2 of this channel
abbrev pub Tells : Cookie → Named → Type 0
Tells cookie (named.ConnB2 version connection channel window timeout group address padding) =
    channel ≡ cookie
Tells cookie (named.InR1A2 version connection predecessor successor window timeout) =
    successor ≡ cookie
Tells cookie packet = ⊥

-- CONN/B3 for CONN/B2, IN_R1/B2 for IN_R1/A2, IN_R1/B1 for IN_R1/A6, and an acknowledgement of a
-- channel of which it was told there
abbrev pub IsAnswer : List Message → Named → Type 0
IsAnswer came (named.ConnB3 size version) = HasOne (Is is_conn_b2) came
IsAnswer came (named.InR1B2 size) = HasOne (Is is_in_r1_a2) came
IsAnswer came named.InR1B1 = HasOne (Is is_in_r1_a6) came
IsAnswer came (named.Ack received window cookie) = HasOne (Tells cookie) came
IsAnswer came packet = ⊥

abbrev pub OpensIt : Message → Type 0
OpensIt message = IsPacket (Is opens_server) message

abbrev pub IsOther : Message → Type 0
IsOther message = IsPacket (λ (m : Named). opens_server m ≡ false) message

-- by what came, and the first of them opens the leg
pub record Answers (came read : List Message) : Type 0 where
  pub each : AllByRecursion (IsPacket (IsAnswer came)) read
  pub order : IsRead OpensIt IsOther read

-- ---- lemmas

pub one_there : (P : Named → Type 0) (ms : List Message) → HasOne P ms
    → (m : Named) × (Has m ms × P m)
one_there P [] h = absurd h
one_there P (Text bytes ∷ ms) h =
    let rest = one_there P ms h in (rest.0, (inr rest.1.0, rest.1.1))
one_there P (Pdu pdu ∷ ms) h =
    let rest = one_there P ms h in (rest.0, (inr rest.1.0, rest.1.1))
one_there P (Packet m ∷ ms) (inl is) = (m, (inl refl, is))
one_there P (Packet m ∷ ms) (inr h) =
    let rest = one_there P ms h in (rest.0, (inr rest.1.0, rest.1.1))

opens_counts : (came : List Message) → HasFirst OpensIt IsOther came
    → 1 ≤ count_of opens_server came
opens_counts [] h = absurd h
opens_counts (Text bytes ∷ came) h = absurd h
opens_counts (Pdu pdu ∷ came) h = absurd h
opens_counts (Packet m ∷ came) h =
    one_counts (Is opens_server) opens_server (λ x e. e) (Packet m ∷ came) (inl h)

abbrev Replacing : Named → Type 0
Replacing m = is_in_r1_a1 any m ≡ true

replaces_so : (connection predecessor successor : Cookie) (m : Named)
    → Replaces connection predecessor successor m → Replacing m
replaces_so connection predecessor successor (named.InR1A1 version of before own) is = refl
replaces_so connection predecessor successor m is = absurd is

pub replaces_begin : (connection predecessor successor : Cookie) (m : Named)
    → Replaces connection predecessor successor m → BeginsIn successor m
replaces_begin connection predecessor successor (named.InR1A1 version of before own) is = is.2
replaces_begin connection predecessor successor m is = absurd is

connects_begin : (connection channel group : Cookie) (m : Named)
    → Connects connection channel group m → BeginsIn channel m
connects_begin connection channel group
    (named.ConnB1 version of own lifetime keepalive in_group) is = is.1
connects_begin connection channel group m is = absurd is

-- ---- the leg

-- of an in proxy, and of what came of it at the server
pub record Knows (n : ℕ) (p : Passage InProxy) (at_server answers : List Message) : Type 0 where
  pub announces : AnnouncesWhatCame n p
  pub counts : PutsForWhatCame n p
  pub front : IsPrefix at_server (all_read_of (of_leg (is_leg n) p.put))
  pub answered : Answers at_server answers
  -- one channel began on its first ci leg
  pub own : (a b : Cookie) → HasBegunIn a (of_leg (ci_leg n) p.came)
      → HasBegunIn b (of_leg (ci_leg n) p.came) → a ≡ b

module _ (n : ℕ) (p : Passage InProxy) (at_server answers : List Message)
    (h : Knows n p at_server answers) where
  abbrev put : List Message
  put = of_leg (is_leg n) p.put

  abbrev came : List Message
  came = of_leg (is_leg n) p.came

  put_one : (P : Named → Type 0) → HasOne P at_server → HasOne P put
  put_one P has = front_one P at_server put h.front has

  -- ---- for what the server was told

  connected : HasOne (Is is_conn_b2) at_server
      → count_of is_conn_b1 (of_kind ClientIn p.came) ≡ 0 → ⊥
  connected has none =
      let some = one_counts (Is is_conn_b2) is_conn_b2 (λ m e. e) put
      (put_one (Is is_conn_b2) has) in
      let law = h.counts.connection in omega (arith, some, law, none)

  handed_over : HasOne (Is is_in_r1_a6) at_server → count_of is_in_r1_a6 put ≡ 0 → ⊥
  handed_over has none =
      let some = one_counts (Is is_in_r1_a6) is_in_r1_a6 (λ m e. e) put
      (put_one (Is is_in_r1_a6) has) in omega (arith, some, none)

  replaced : HasOne (Is is_in_r1_a2) at_server
      → count_of (is_in_r1_a1 any) (of_leg (ci_leg n) p.came) ≡ 0 → ⊥
  replaced has none =
      let one = one_there (Is is_in_r1_a2) put (put_one (Is is_in_r1_a2) has) in
      by one.0 (h.announces one.0 one.1.0) one.1.1
    where
      by : (m : Named) → IsFor n p.came m → is_in_r1_a2 m ≡ true → ⊥
      by (named.InR1A2 version connection predecessor successor window timeout) for e =
          let some = one_counts Replacing (is_in_r1_a1 any) (λ m f. f) (of_leg (ci_leg n) p.came)
          (one_so (Replaces connection predecessor successor) Replacing
          (replaces_so connection predecessor successor) (of_leg (ci_leg n) p.came) for) in
          omega (arith, some, none)
      by m for e = absurd cc

  -- the channel of which it was told began on the first ci leg
  pub began : (cookie : Cookie) → HasOne (Tells cookie) put
      → HasBegunIn cookie (of_leg (ci_leg n) p.came)
  began cookie has =
      let one = one_there (Tells cookie) put has in
      by one.0 (h.announces one.0 one.1.0) one.1.1
    where
      by : (m : Named) → IsFor n p.came m → Tells cookie m
          → HasBegunIn cookie (of_leg (ci_leg n) p.came)
      by (named.ConnB2 version connection channel window timeout group address padding) for is =
          subst (λ (c : Cookie). HasBegunIn c (of_leg (ci_leg n) p.came)) is
          (one_so (Connects connection channel group) (BeginsIn channel)
          (connects_begin connection channel group) (of_leg (ci_leg n) p.came) for)
      by (named.InR1A2 version connection predecessor successor window timeout) for is =
          subst (λ (c : Cookie). HasBegunIn c (of_leg (ci_leg n) p.came)) is
          (one_so (Replaces connection predecessor successor) (BeginsIn successor)
          (replaces_begin connection predecessor successor) (of_leg (ci_leg n) p.came) for)
      by m for is = absurd is

  -- ---- what is next

  answer_expected : (m : Named) → IsAnswer at_server m
      → ((came ≡ []) × OpensIt (Packet m)) ⊎ (HasFirst OpensIt IsOther came × IsOther (Packet m))
      → UnexpectedOnServer n p m → ⊥
  answer_expected (named.ConnB3 size version) is (inl new) (inl none) = connected is none
  answer_expected (named.ConnB3 size version) is (inl new) (inr some) =
      let zero = ap (count_of opens_server) new.0 in omega (arith, some, zero)
  answer_expected (named.ConnB3 size version) is (inr behind) u =
      absurd (let e = behind.1 in cc)
  answer_expected (named.InR1B2 size) is (inl new) (inl none) = replaced is none
  answer_expected (named.InR1B2 size) is (inl new) (inr some) =
      let zero = ap (count_of opens_server) new.0 in omega (arith, some, zero)
  answer_expected (named.InR1B2 size) is (inr behind) u = absurd (let e = behind.1 in cc)
  answer_expected named.InR1B1 is place u = handed_over is u
  answer_expected (named.Ack received window cookie) is (inl new) u =
      absurd (let e = new.1 in cc)
  answer_expected (named.Ack received window cookie) is (inr behind) u =
      let some = opens_counts came behind.0 in omega (arith, some, u)
  answer_expected m is place u = is

  pub packet_expected : (m : Named) → IsPrefix (came ++ Packet m ∷ []) answers
      → UnexpectedOnServer n p m → ⊥
  packet_expected m ahead u =
      answer_expected m
      (next_so (IsPacket (IsAnswer at_server)) came answers (Packet m) ahead h.answered.each)
      (next_stands OpensIt IsOther came answers (Packet m) h.answered.order ahead) u

  pub pdu_expected : (bytes : List ℕ) → IsPrefix (came ++ Pdu bytes ∷ []) answers → ⊥
  pdu_expected bytes ahead =
      next_so (IsPacket (IsAnswer at_server)) came answers (Pdu bytes) ahead h.answered.each

  module _ (expected got : Cookie) (differ : expected ≡ got → ⊥) where
    answer_matched : (m : Named) → IsAnswer at_server m → MismatchOnServer n p m expected got → ⊥
    answer_matched (named.Ack received window cookie) is u =
        differ (h.own expected cookie u.1 (began cookie (put_one (Tells cookie) is)) ∙ sym u.0)
    answer_matched m is u = u

    pub packet_matched : (m : Named) → IsPrefix (came ++ Packet m ∷ []) answers
        → MismatchOnServer n p m expected got → ⊥
    packet_matched m ahead u =
        answer_matched m
        (next_so (IsPacket (IsAnswer at_server)) came answers (Packet m) ahead h.answered.each) u

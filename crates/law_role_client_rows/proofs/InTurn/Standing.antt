-- what follows, for the messages of a ci leg, of where each message of a log stands
use Rattle.law_order.proofs.Vocabulary.{◌≡◌, ◌⊎◌, ℕ, suc, ◌<◌, ◌≤◌, ◌&&◌, ◌==◌, true, false, true≢false, List, [], ◌∷◌, ◌++◌, arith, inl, inr, refl, sym, ◌∙◌, subst, false≢true}
use Rattle.law_moves.proofs.Vocabulary.{by_test, same_number, Named, ConnA1, ConnB1, InR1A1, InR1A5, OutR1A3, OutR1A7, OutR2C1, EndA1, AckTo, Ping, Leg, LegKind, ClientOut, Message, Text, Pdu, Packet, kind_number, same_leg, OnLeg, of_leg, Has}
use Rattle.law_role_client.proofs.Vocabulary.{ci}
use Rattle.law_role_client_rows.proofs.InTurn.Lists.{nothing, head_of, tail_of}
use Rattle.law_role_client_rows.specs.InTurn.Turns.{Turn, behind, IsNear, PacketStands, Stands, StandFrom, WritesInTurn, first_turn}
use Rattle.law_role_client_rows.specs.InTurn.Ends.{IsNoPdu, HasNoPdu, IsNoEnd, HasNoEnd, EndsByInR1A5, EndsOnce, EndsAll}

-- ---- on which leg

same_here : (leg : Leg) (k n : ℕ) → leg ≡ ci k → same_leg leg (ci n) ≡ true → k ≡ n
same_here leg k n e here =
    same_number k n (subst (λ (one : Leg). same_leg one (ci n) ≡ true) e here)

out_apart : (leg : Leg) (n : ℕ) → leg.kind ≡ ClientOut → same_leg leg (ci n) ≡ true → ⊥
out_apart leg n e here =
    false≢true
    (subst (λ (kind : LegKind). (kind_number kind == 2 && leg.number == n) ≡ true) e here)

packet_on : (t : Turn) (leg : Leg) (packet : Named) → PacketStands t leg packet
    → IsNear t leg ⊎ (leg.kind ≡ ClientOut)
packet_on t leg (ConnB1 version connection channel lifetime keepalive group) h = inl (inl h)
packet_on t leg (InR1A1 version connection predecessor successor) h = inl (inr h)
packet_on t leg (InR1A5 successor) h = inl (inl h)
packet_on t leg (OutR1A7 to successor) h = inl (inl h)
packet_on t leg EndA1 h = inl (inl h.0)
packet_on t leg (AckTo to received available channel) h = inl (inl h)
packet_on t leg Ping h = inl h
packet_on t leg (ConnA1 version connection channel window) h = inr h
packet_on t leg (OutR1A3 version connection predecessor successor window) h = inr h
packet_on t leg OutR2C1 h = inr h
packet_on t leg packet h = absurd h

stands_on : (t : Turn) (leg : Leg) (m : Message) → Stands t (leg, m)
    → IsNear t leg ⊎ (leg.kind ≡ ClientOut)
stands_on t leg (Text bytes) h = h
stands_on t leg (Pdu pdu) h = inl (inl h.0)
stands_on t leg (Packet packet) h = packet_on t leg packet h

-- nothing stands on a channel below the one that is written on
not_below : (t : Turn) (leg : Leg) (m : Message) (n : ℕ) → Stands t (leg, m)
    → same_leg leg (ci n) ≡ true → t.writing ≤ n
not_below t leg m n h here = by (stands_on t leg m h)
  where
    by : IsNear t leg ⊎ (leg.kind ≡ ClientOut) → t.writing ≤ n
    by (inl (inl e)) = let is = same_here leg t.writing n e here in omega (arith, is)
    by (inl (inr e)) = let is = same_here leg (suc t.writing) n e here in omega (arith, is)
    by (inr e) = absurd (out_apart leg n e here)

-- ---- the turn goes on

rises : (t : Turn) (m : Message) → t.writing ≤ (behind t m).writing
rises t (Text bytes) = omega arith
rises t (Pdu pdu) = omega arith
rises t (Packet (InR1A5 successor)) = omega arith
rises t (Packet EndA1) = omega arith
rises t (Packet packet) = omega arith

stays_over : (t : Turn) (m : Message) → t.over ≡ true → (behind t m).over ≡ true
stays_over t (Text bytes) e = e
stays_over t (Pdu pdu) e = e
stays_over t (Packet (InR1A5 successor)) e = e
stays_over t (Packet EndA1) e = refl
stays_over t (Packet packet) e = e

none_below : (t : Turn) (log : List OnLeg) (n : ℕ) → StandFrom t log → n < t.writing
    → of_leg (ci n) log ≡ []
none_below t [] n h l = refl
none_below t ((leg, m) ∷ log) n h l =
    let more = rises t m in
    by_test (λ (ms : List Message). ms ≡ []) (same_leg leg (ci n)) (m ∷ of_leg (ci n) log)
    (of_leg (ci n) log)
    (λ here. let least = not_below t leg m n h.0 here in absurd (omega (arith, least, l)))
    (λ other. none_below (behind t m) log n h.1 (omega (arith, more, l)))

-- ---- behind a packet of a ci leg

module _ (mark : Named) (n : ℕ) (Later : List Message → Type 0)
    (so : (t : Turn) (leg : Leg) (log : List OnLeg) → same_leg leg (ci n) ≡ true
    → PacketStands t leg mark → StandFrom (behind t (Packet mark)) log
    → Later (of_leg (ci n) log)) where
  -- so it is behind each on this leg
  behind_mark : (t : Turn) (log : List OnLeg) (before later : List Message) → StandFrom t log
      → of_leg (ci n) log ≡ before ++ Packet mark ∷ later → Later later
  behind_mark t [] before later h e = absurd (nothing before later (Packet mark) e)
  behind_mark t ((leg, m) ∷ log) before later h e =
      by_test (λ (ms : List Message). ms ≡ before ++ Packet mark ∷ later → Later later)
      (same_leg leg (ci n)) (m ∷ of_leg (ci n) log) (of_leg (ci n) log)
      (λ here f. by here before f (λ rest g. behind_mark (behind t m) log rest later h.1 g))
      (λ other f. behind_mark (behind t m) log before later h.1 f) e
    where
      by : same_leg leg (ci n) ≡ true → (rest : List Message)
          → m ∷ of_leg (ci n) log ≡ rest ++ Packet mark ∷ later
          → ((rest : List Message) → of_leg (ci n) log ≡ rest ++ Packet mark ∷ later
          → Later later) → Later later
      by here [] f go =
          let is = head_of m (Packet mark) (of_leg (ci n) log) later f in
          subst Later (tail_of m (Packet mark) (of_leg (ci n) log) later f)
          (so t leg log here (subst (λ (x : Message). Stands t (leg, x)) is h.0)
          (subst (λ (x : Message). StandFrom (behind t x) log) is h.1))
      by here (first ∷ rest) f go =
          go rest (tail_of m first (of_leg (ci n) log) (rest ++ Packet mark ∷ later) f)

-- ---- IN_R1/A5

pub ends_by_in_r1_a5 : (put : List OnLeg) → WritesInTurn put → EndsByInR1A5 put
ends_by_in_r1_a5 put h n before later successor e =
    behind_mark (InR1A5 successor) n (λ (ms : List Message). ms ≡ []) none first_turn put before
    later h e
  where
    none : (t : Turn) (leg : Leg) (log : List OnLeg) → same_leg leg (ci n) ≡ true
        → leg ≡ ci t.writing → StandFrom (behind t (Packet (InR1A5 successor))) log
        → of_leg (ci n) log ≡ []
    none t leg log here is stand =
        let same = same_here leg t.writing n is here in
        none_below (behind t (Packet (InR1A5 successor))) log n stand (omega (arith, same))

-- ---- END/A1

-- behind one there are no RPC PDUs
no_pdus : (t : Turn) (log : List OnLeg) (leg : Leg) → t.over ≡ true → StandFrom t log
    → HasNoPdu (of_leg leg log)
no_pdus t [] leg over h = tt
no_pdus t ((on, m) ∷ log) leg over h =
    let later = no_pdus (behind t m) log leg (stays_over t m over) h.1 in
    by_test HasNoPdu (same_leg on leg) (m ∷ of_leg leg log) (of_leg leg log)
    (λ here. (by m h.0, later)) (λ other. later)
  where
    by : (x : Message) → Stands t (on, x) → IsNoPdu x
    by (Text bytes) stands = tt
    by (Pdu pdu) stands = absurd (true≢false (sym over ∙ stands.1))
    by (Packet packet) stands = tt

-- END/A1 stands on it, or it is written on no more
abbrev IsPast : Turn → ℕ → Type 0
IsPast t n = (n < t.writing) ⊎ ((n ≡ t.writing) × (t.ended ≡ true))

stays_past : (t : Turn) (m : Message) (n : ℕ) → IsPast t n → IsPast (behind t m) n
stays_past t (Text bytes) n h = h
stays_past t (Pdu pdu) n h = h
stays_past t (Packet (InR1A5 successor)) n (inl l) = inl (omega (arith, l))
stays_past t (Packet (InR1A5 successor)) n (inr (e, ended)) = inl (omega (arith, e))
stays_past t (Packet EndA1) n (inl l) = inl l
stays_past t (Packet EndA1) n (inr (e, ended)) = inr (e, refl)
stays_past t (Packet packet) n h = h

no_end : (t : Turn) (leg : Leg) (m : Message) (n : ℕ) → IsPast t n
    → same_leg leg (ci n) ≡ true → Stands t (leg, m) → IsNoEnd m
no_end t leg (Text bytes) n past here h = tt
no_end t leg (Pdu pdu) n past here h = tt
no_end t leg (Packet EndA1) n past here h = by past
  where
    by : IsPast t n → ⊥
    by (inl l) = let is = same_here leg t.writing n h.0 here in omega (arith, is, l)
    by (inr (e, ended)) = true≢false (sym ended ∙ h.1)
no_end t leg (Packet packet) n past here h = tt

no_ends : (t : Turn) (log : List OnLeg) (n : ℕ) → IsPast t n → StandFrom t log
    → HasNoEnd (of_leg (ci n) log)
no_ends t [] n past h = tt
no_ends t ((leg, m) ∷ log) n past h =
    let later = no_ends (behind t m) log n (stays_past t m n past) h.1 in
    by_test HasNoEnd (same_leg leg (ci n)) (m ∷ of_leg (ci n) log) (of_leg (ci n) log)
    (λ here. (no_end t leg m n past here h.0, later)) (λ other. later)

pub ends_once : (put : List OnLeg) → WritesInTurn put → EndsOnce put
ends_once put h n before later e =
    behind_mark EndA1 n (λ (ms : List Message). HasNoPdu ms × HasNoEnd ms) over first_turn put
    before later h e
  where
    over : (t : Turn) (leg : Leg) (log : List OnLeg) → same_leg leg (ci n) ≡ true
        → (leg ≡ ci t.writing) × (t.ended ≡ false) → StandFrom (behind t (Packet EndA1)) log
        → HasNoPdu (of_leg (ci n) log) × HasNoEnd (of_leg (ci n) log)
    over t leg log here is stand =
        let after = behind t (Packet EndA1) in (
          no_pdus after log (ci n) refl stand,
          no_ends after log n (inr (sym (same_here leg t.writing n is.0 here), refl)) stand,
        )

-- ---- END/A1 and the channels behind

module _ (n m : ℕ) (less : n < m) where
  abbrev Ended : List Message → Type 0
  Ended ms = Has EndA1 ms

  -- a PDU stands where its channel is written on, so that END/A1 stands below no more
  no_pdu_there : (t : Turn) (leg : Leg) (x : Message) (log : List OnLeg)
      → StandFrom t ((leg, x) ∷ log) → Ended (of_leg (ci n) ((leg, x) ∷ log))
      → same_leg leg (ci m) ≡ true → IsNoPdu x
  no_pdu_there t leg (Text bytes) log h has here = tt
  no_pdu_there t leg (Pdu pdu) log h has here =
      let is = same_here leg t.writing m h.0.0 here in
      subst Ended (none_below t ((leg, Pdu pdu) ∷ log) n h (omega (arith, is, less))) has
  no_pdu_there t leg (Packet packet) log h has here = tt

  ended_all : (t : Turn) (log : List OnLeg) → StandFrom t log → Ended (of_leg (ci n) log)
      → HasNoPdu (of_leg (ci m) log)
  ended_all t [] h has = tt
  ended_all t ((leg, x) ∷ log) h has =
      let go : Ended (of_leg (ci n) log) → HasNoPdu (of_leg (ci m) log)
      = ended_all (behind t x) log h.1 in
      by_test HasNoPdu (same_leg leg (ci m)) (x ∷ of_leg (ci m) log) (of_leg (ci m) log)
      (λ here. (no_pdu_there t leg x log h has here, later go)) (λ other. later go)
    where
      by : (Ended (of_leg (ci n) log) → HasNoPdu (of_leg (ci m) log))
          → Ended (x ∷ of_leg (ci n) log) → HasNoPdu (of_leg (ci m) log)
      by go (inl is) =
          no_pdus (behind t (Packet EndA1)) log (ci m) refl
          (subst (λ (one : Message). StandFrom (behind t one) log) is h.1)
      by go (inr rest) = go rest

      later : (Ended (of_leg (ci n) log) → HasNoPdu (of_leg (ci m) log))
          → HasNoPdu (of_leg (ci m) log)
      later go =
          by_test (λ (ms : List Message). Ended ms → HasNoPdu (of_leg (ci m) log))
          (same_leg leg (ci n)) (x ∷ of_leg (ci n) log) (of_leg (ci n) log)
          (λ here is. by go is) (λ other is. go is) has

pub ends_all : (put : List OnLeg) → WritesInTurn put → EndsAll put
ends_all put h n m less has = ended_all n m less first_turn put h has

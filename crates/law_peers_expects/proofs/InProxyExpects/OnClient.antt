-- what comes next on a ci leg is expected there, and names the cookies that are
use Rattle.law_order.proofs.Vocabulary.{◌≡◌, ◌⊎◌, ℕ, zero, suc, ◌<◌, ◌≤◌, Bool, true, false, List, [], ◌∷◌, ◌++◌, inl, inr, refl, sym, ap, ◌∙◌, subst, arith, cases_eq, AllByRecursion, IsPrefix}
use Rattle.rh_sig.specs.declared.named.Named.TheVariants as named
use Rattle.law_moves.proofs.Vocabulary.{Cookie, Named, ClientConfig, Leg, Message, Text, Pdu, Packet, EndMove, Passage, of_leg, all_read_of, packets, BeginsIn, Has, HasBegunIn, HasComeUp, is_in_r1_a5}
use Rattle.law_moves.proofs.Lemmas.{has_last}
use Rattle.law_role_inproxy.proofs.Vocabulary.{InProxy, HasPacket, HasPduIn, IsEnded, IsLeft, IsNew, IsUntold, MismatchOnClient, NamesConnection, UnexpectedOnClient}
use Rattle.law_role_client.proofs.Vocabulary.{ci, client_moved}
use Rattle.law_role_client_rows.specs.Putting.{IsBehind, IsBehindPacket, IsPacket, OpenedBefore, OpensInChannels}
use Rattle.law_role_client_rows.specs.InTurn.Ends.{EndsByInR1A5, EndsOnce, EndsAll, HasNoPdu, IsNoEnd, IsNoPdu}
use Rattle.law_peers_moments.proofs.Read.{front_has, front_one}
use Rattle.law_peers_expects.proofs.InProxyExpects.Fronts.{AreBehind, HasFirst, IsNoPing, are_behind, first_counts, front_so, has_counts, next_behind, next_so, read_behind, read_no_ping, read_so}
use Rattle.law_peers_expects.proofs.InProxyExpects.Channels.{Begin, IsNext, Next, begun_up, comes_next, connection_by, connection_is, put}

-- ---- marks

abbrev is_end_a1 : Named → Bool
is_end_a1 named.EndA1 = true
is_end_a1 packet = false

end_is : (m : Named) → is_end_a1 m ≡ true → named.EndA1 ≡ m
end_is named.EndA1 e = refl
end_is m e = absurd cc

in_r1_a5_is : (m : Named) → is_in_r1_a5 m ≡ true
    → (successor : Cookie) × (m ≡ named.InR1A5 successor)
in_r1_a5_is (named.InR1A5 successor) e = (successor, refl)
in_r1_a5_is m e = absurd cc

abbrev Never : Message → Type 0
Never m = ⊥

nothing : (ms : List Message) → ms ≡ [] → AllByRecursion Never ms
nothing [] e = tt
nothing (m ∷ ms) e = absurd cc

-- neither an RPC PDU nor END/A1
abbrev IsLate : Message → Type 0
IsLate m = IsNoPdu m × IsNoEnd m

both_so : (ms : List Message) → AllByRecursion IsNoPdu ms → AllByRecursion IsNoEnd ms
    → AllByRecursion IsLate ms
both_so [] a b = tt
both_so (m ∷ ms) a b = ((a.0, b.0), both_so ms a.1 b.1)

no_pdu : (ms : List Message) → HasNoPdu ms → HasPduIn ms → ⊥
no_pdu [] none has = has
no_pdu (Text bytes ∷ ms) none has = no_pdu ms none.1 has
no_pdu (Pdu pdu ∷ ms) none has = none.0
no_pdu (Packet m ∷ ms) none has = no_pdu ms none.1 has

-- ---- what is known

-- of a client, and what came of it at an in proxy
pub record Knows (config : ClientConfig) (moves : List EndMove) (first : ℕ)
    (p : Passage InProxy) : Type 0 where
  pub opens : OpensInChannels config moves
  pub one : (leg : Leg) (a b : Cookie) → HasComeUp moves leg a → HasComeUp moves leg b → a ≡ b
  pub late : OpenedBefore config moves (ci 1) → ⊥
  pub left : EndsByInR1A5 (client_moved config moves).passage.put
  pub ends : EndsOnce (client_moved config moves).passage.put
  pub over : EndsAll (client_moved config moves).passage.put
  pub fronts : (k : ℕ) → IsPrefix (of_leg (ci k) p.came) (all_read_of (put config moves opens k))

module _ (config : ClientConfig) (moves : List EndMove) (first : ℕ) (p : Passage InProxy)
    (h : Knows config moves first p) where
  abbrev puts : ℕ → List Message
  puts n = put config moves h.opens n

  abbrev came : ℕ → List Message
  came n = of_leg (ci n) p.came

  abbrev Opens : ℕ → Named → Type 0
  Opens k = Begin config moves h.opens k

  abbrev IsNextOf : ℕ → Cookie → Type 0
  IsNextOf k = Next config moves h.opens k

  -- ---- nothing stands behind IN_R1/A5, and no RPC PDU behind END

  behind_in_r1_a5 : (n : ℕ) → AreBehind is_in_r1_a5 Never (all_read_of (puts n))
  behind_in_r1_a5 n =
      read_behind is_in_r1_a5 Never (puts n)
      (are_behind is_in_r1_a5 Never (puts n) (λ before later m e is.
      let mark = in_r1_a5_is m e in
      nothing later (h.left n before later mark.0
      (is ∙ ap (λ (x : Named). before ++ Packet x ∷ later) mark.1))))

  behind_end : (n : ℕ) → AreBehind is_end_a1 IsLate (all_read_of (puts n))
  behind_end n =
      read_behind is_end_a1 IsLate (puts n)
      (are_behind is_end_a1 IsLate (puts n) (λ before later m e is.
      let law = h.ends n before later
      (is ∙ ap (λ (x : Named). before ++ Packet x ∷ later) (sym (end_is m e))) in
      both_so later law.0 law.1))

  no_later_pdu : (j n : ℕ) → j < n → Has named.EndA1 (puts j) → HasNoPdu (all_read_of (puts n))
  no_later_pdu j n less has = read_so IsNoPdu (puts n) (h.over j n less has)

  -- ---- a message that is next

  module _ (n : ℕ) (m : Message) (ahead : IsPrefix (came n ++ m ∷ []) (all_read_of (puts n))) where
    not_left : IsLeft p n → ⊥
    not_left left =
        next_behind is_in_r1_a5 Never (came n) (all_read_of (puts n)) m (behind_in_r1_a5 n) ahead
        left

    late_behind : IsEnded p n → IsLate m
    late_behind ended =
        next_behind is_end_a1 IsLate (came n) (all_read_of (puts n)) m (behind_end n) ahead
        (has_counts named.EndA1 is_end_a1 refl (came n) ended)

    at : (k : ℕ) × (n ≡ suc k) × IsNext config moves h.opens k (came n) m
    at = comes_next config moves h.opens n (came n) m ahead

    no_pings : IsNoPing m
    no_pings = next_so IsNoPing (came n) (all_read_of (puts n)) m ahead (read_no_ping (puts n))

  not_new : (k n : ℕ) → HasFirst (IsPacket (Opens k)) (IsBehind (IsNextOf k)) (came n)
      → IsNew p n → ⊥
  not_new k n first new =
      let some = first_counts (Opens k) (IsBehind (IsNextOf k)) (came n) first in
      omega (arith, some, new)

  not_there : (n : ℕ) → came n ≡ [] → HasPacket p n → ⊥
  not_there n none some =
      let zero = ap packets none in omega (arith, some, zero)

  -- ---- packets

  module _ (n : ℕ) (opened : n ≡ 1 → n ≡ first) where
    first_expected : (k : ℕ) (m : Named) → n ≡ suc k → Opens k m → came n ≡ []
        → UnexpectedOnClient first p n m → ⊥
    first_expected zero m e is none u =
        by (subst (UnexpectedOnClient first p n) is.is u)
      where
        by : (n ≡ first → ⊥) ⊎ HasPacket p n → ⊥
        by (inl other) = other (opened e)
        by (inr some) = not_there n none some
    first_expected (suc k) m e is none u =
        not_there n none (subst (UnexpectedOnClient first p n) is.is u)

    module _ (m : Named) (ahead : IsPrefix (came n ++ Packet m ∷ []) (all_read_of (puts n))) where
      gone : (k : ℕ) → HasFirst (IsPacket (Opens k)) (IsBehind (IsNextOf k)) (came n)
          → IsNew p n ⊎ IsLeft p n → ⊥
      gone k before (inl new) = not_new k n before new
      gone k before (inr left) = not_left n (Packet m) ahead left

    behind_expected : (k : ℕ) (m : Named)
        → (ahead : IsPrefix (came n ++ Packet m ∷ []) (all_read_of (puts n)))
        → HasFirst (IsPacket (Opens k)) (IsBehind (IsNextOf k)) (came n)
        → IsBehindPacket (IsNextOf k) m
        → ((successor : Cookie) → m ≡ named.InR1A5 successor → IsUntold first p n → ⊥)
        → UnexpectedOnClient first p n m → ⊥
    behind_expected k (named.AckTo to received available channel) ahead before is told (inl other) =
        other is
    behind_expected k (named.AckTo to received available channel) ahead before is told (inr u) =
        gone (named.AckTo to received available channel) ahead k before u
    behind_expected k (named.OutR1A7 to successor) ahead before is told (inl other) = other is
    behind_expected k (named.OutR1A7 to successor) ahead before is told (inr u) =
        gone (named.OutR1A7 to successor) ahead k before u
    behind_expected k named.EndA1 ahead before is told (inl new) = not_new k n before new
    behind_expected k named.EndA1 ahead before is told (inr (inl left)) =
        not_left n (Packet named.EndA1) ahead left
    behind_expected k named.EndA1 ahead before is told (inr (inr (inl ended))) =
        (late_behind n (Packet named.EndA1) ahead ended).1
    behind_expected k named.EndA1 ahead before is told (inr (inr (inr pdu))) =
        let has = front_has named.EndA1 (came n ++ Packet named.EndA1 ∷ []) (puts n) ahead
        (has_last named.EndA1 (came n)) in
        no_pdu (came (suc n))
        (front_so IsNoPdu (came (suc n)) (all_read_of (puts (suc n))) (h.fronts (suc n))
        (no_later_pdu n (suc n) (omega arith) has)) pdu
    behind_expected k (named.InR1A5 successor) ahead before is told (inl new) =
        not_new k n before new
    behind_expected k (named.InR1A5 successor) ahead before is told (inr (inl left)) =
        not_left n (Packet (named.InR1A5 successor)) ahead left
    behind_expected k (named.InR1A5 successor) ahead before is told (inr (inr untold)) =
        told successor refl untold
    behind_expected k named.Ping ahead before is told u =
        absurd (let e = no_pings n (Packet named.Ping) ahead in cc)
    behind_expected k m ahead before is told u = is

    pub packet_expected : (m : Named) → IsPrefix (came n ++ Packet m ∷ []) (all_read_of (puts n))
        → ((successor : Cookie) → m ≡ named.InR1A5 successor → IsUntold first p n → ⊥)
        → UnexpectedOnClient first p n m → ⊥
    packet_expected m ahead told u =
        let next = at n (Packet m) ahead in by next.0 next.1 next.2
      where
        by : (k : ℕ) → n ≡ suc k → IsNext config moves h.opens k (came n) (Packet m) → ⊥
        by k e (inl new) = first_expected k m e new.1 new.0 u
        by k e (inr behind) = behind_expected k m ahead behind.0 behind.1 told u

  -- ---- RPC PDUs

  pub pdu_expected : (n : ℕ) (bytes : List ℕ)
      → IsPrefix (came n ++ Pdu bytes ∷ []) (all_read_of (puts n))
      → IsNew p n ⊎ IsLeft p n ⊎ ((k : ℕ) × (k ≤ n) × IsEnded p k) → ⊥
  pdu_expected n bytes ahead (inl new) =
      let next = at n (Pdu bytes) ahead in by next.0 next.2
    where
      by : (k : ℕ) → IsNext config moves h.opens k (came n) (Pdu bytes) → ⊥
      by k (inl first) = first.1
      by k (inr behind) = not_new k n behind.0 new
  pdu_expected n bytes ahead (inr (inl left)) = not_left n (Pdu bytes) ahead left
  pdu_expected n bytes ahead (inr (inr ended)) =
      by (cases_eq ended.0 n)
    where
      by : (ended.0 ≡ n) ⊎ (ended.0 ≡ n → ⊥) → ⊥
      by (inl is) =
          (late_behind n (Pdu bytes) ahead
          (subst (λ (j : ℕ). IsEnded p j) is ended.2)).0
      by (inr apart) =
          let most = ended.1 in
          next_so IsNoPdu (came n) (all_read_of (puts n)) (Pdu bytes) ahead
          (no_later_pdu ended.0 n (omega (arith, most, apart))
          (front_has named.EndA1 (came ended.0) (puts ended.0) (h.fronts ended.0) ended.2))

  -- ---- cookies

  abbrev Ups : ℕ → Cookie → Type 0
  Ups n cookie = HasComeUp moves (ci n) cookie

  -- what began at the proxy came up so at the client
  pub began_up : (n : ℕ) (cookie : Cookie) → HasBegunIn cookie (came n) → Ups n cookie
  began_up n cookie has =
      begun_up config moves h.opens n cookie
      (front_one (BeginsIn cookie) (came n) (puts n) (h.fronts n) has)

  module _ (n : ℕ) (expected got : Cookie) (differ : expected ≡ got → ⊥) where
    asks_matched : (k version : ℕ) (connection predecessor channel : Cookie) → n ≡ suc k
        → Opens k (named.InR1A1 version connection predecessor channel)
        → MismatchOnClient first p n (named.InR1A1 version connection predecessor channel)
        expected got → ⊥
    asks_matched zero version connection predecessor channel e is u =
        absurd (let other = is.is in cc)
    asks_matched (suc k) version connection predecessor channel e is (inl u) =
        let there = connection_is config moves h.opens first expected
        (front_one (NamesConnection expected) (came first) (puts first) (h.fronts first) u.1) in
        let here = connection_by config moves h.opens (suc k)
        (named.InR1A1 version connection predecessor channel) connection is refl in
        differ (sym there ∙ here ∙ sym u.0)
    asks_matched (suc k) version connection predecessor channel e is (inr u) =
        by is.follows
      where
        there : Ups (suc k) expected
        there =
            let last = u.1.1 in
            let same : u.1.0 ≡ suc k = omega (arith, e, last) in
            subst (λ (j : ℕ). Ups j expected) same (began_up u.1.0 expected u.1.2)

        before : is.before ≡ got
        before = let named_so = is.is in let said = u.0 in cc

        by : Ups (suc k) is.before ⊎ ((k ≡ 0) × OpenedBefore config moves (ci 1)) → ⊥
        by (inl up) = differ (h.one (ci (suc k)) expected is.before there up ∙ before)
        by (inr early) = h.late early.1

    leaves_matched : (k : ℕ) (successor : Cookie) → n ≡ suc k → IsNextOf k successor
        → MismatchOnClient first p n (named.InR1A5 successor) expected got → ⊥
    leaves_matched k successor e is u =
        let there = began_up (suc n) expected u.1 in
        let here = subst (λ (j : ℕ). Ups (suc j) successor) (sym e) is in
        differ (h.one (ci (suc n)) expected successor there here ∙ sym u.0)

    first_matched : (k : ℕ) (m : Named) → n ≡ suc k → Opens k m
        → MismatchOnClient first p n m expected got → ⊥
    first_matched zero m e is u =
        subst (λ (x : Named). MismatchOnClient first p n x expected got) is.is u
    first_matched (suc k) m e is u =
        asks_matched (suc k) _ config.connection is.before is.own e
        (subst (Opens (suc k)) is.is is)
        (subst (λ (x : Named). MismatchOnClient first p n x expected got) is.is u)

    behind_matched : (k : ℕ) (m : Named) → n ≡ suc k → IsBehindPacket (IsNextOf k) m
        → MismatchOnClient first p n m expected got → ⊥
    behind_matched k (named.InR1A5 successor) e is u = leaves_matched k successor e is u
    behind_matched k (named.InR1A1 version connection predecessor channel) e is u = is
    behind_matched k m e is u = u

    pub packet_matched : (m : Named) → IsPrefix (came n ++ Packet m ∷ []) (all_read_of (puts n))
        → MismatchOnClient first p n m expected got → ⊥
    packet_matched m ahead u = let next = at n (Packet m) ahead in by next.0 next.1 next.2
      where
        by : (k : ℕ) → n ≡ suc k → IsNext config moves h.opens k (came n) (Packet m) → ⊥
        by k e (inl new) = first_matched k m e new.1 u
        by k e (inr behind) = behind_matched k m e behind.1 u

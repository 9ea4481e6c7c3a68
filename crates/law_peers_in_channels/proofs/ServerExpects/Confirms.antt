-- OUT_R1/A8 comes at the server in the order of the channels: each for the OUT_R1/A7 of its turn
use Rattle.law_order.proofs.Vocabulary.{◌≡◌, ℕ, suc, ◌≤◌, ◌==◌, Bool, true, false, if◌then◌else◌, List, [], ◌∷◌, ◌++◌, refl, sym, ap, ◌∙◌, subst, arith, nat_tests, append-nil, IsPrefix}
use Rattle.law_moves.proofs.Vocabulary.{Cookie, Named, OutR1A7, OutR1A8, Leg, LegKind, ClientIn, InServer, Message, Text, Pdu, Packet, is_of, OnLeg, of_leg, all_read_of, count_of, of_kind, count_on}
use Rattle.law_moves.proofs.Lemmas.{kind_more, leg_more, by_in_proxies}
use Rattle.law_moves.specs.PacketKinds as at_proxy
use Rattle.law_role_inproxy.proofs.Vocabulary.{PutsForWhatCame}
use Rattle.law_role_client.specs.Counted.Counting as at_client
use Rattle.law_role_server.specs.Counted.Counting as at_server
use Rattle.law_peers_moments.proofs.GoingRound.Fronts.{are_fronts}
use Rattle.law_peers_moments.proofs.Read.{front_count}
use Rattle.law_peers_moments.proofs.GoingRound.Rounding.{any}
use Rattle.law_peers_moments.specs.Moments.{AreJoined, Moves, Numbers, client_behind, in_behind, passages}
use Rattle.law_peers_expects.proofs.InProxyExpects.Fronts.{same_counts}
use Rattle.law_peers_in_channels.proofs.ServerExpects.Cookies.{is_same}
use Rattle.law_peers_in_channels.proofs.ServerExpects.InOrder.{AreOwn, InOrder, all_confirmed, all_switched, append_names, confirmed_often, confirms, how_often, named_in, next_in_order, switched_often, switches}

-- ---- counts

any_out_r1_a7 : (m : Named) → at_proxy.is_out_r1_a7 any m ≡ at_client.is_out_r1_a7 m
any_out_r1_a7 (OutR1A7 to successor) = refl
any_out_r1_a7 m = refl

any_out_r1_a8 : (m : Named) → at_proxy.is_out_r1_a8 any m ≡ at_server.is_out_r1_a8 m
any_out_r1_a8 (OutR1A8 to successor) = refl
any_out_r1_a8 m = refl

-- ---- a message more

pub kind_here : (kind : LegKind) (log : List OnLeg) (one : OnLeg) (b : Bool) → is_of kind one.0 ≡ b
    → of_kind kind (log ++ one ∷ []) ≡ of_kind kind log ++ (if b then one.1 ∷ [] else [])
kind_here kind log one b e =
    kind_more kind log one
    ∙ ap (λ (t : Bool). of_kind kind log ++ (if t then one.1 ∷ [] else [])) e

abbrev pub is_leg : ℕ → Leg
is_leg n = record { kind = InServer; number = n }

-- where it comes next on its is leg, no more stand on each is leg than its in proxy put
pub ahead_counts : (test : Named → Bool) (came : List OnLeg) (n : ℕ) (message : Message)
    (put : ℕ → List Message)
    → ((k : ℕ) → IsPrefix (of_leg (is_leg k) came) (all_read_of (put k)))
    → IsPrefix (of_leg (is_leg n) came ++ message ∷ []) (all_read_of (put n)) → (k : ℕ)
    → count_on test InServer (came ++ (is_leg n, message) ∷ []) k ≤ count_of test (put k)
ahead_counts test came n message put fronts ahead k =
    subst (λ (ms : List Message). count_of test ms ≤ count_of test (put k))
    (sym (leg_more (is_leg k) came (is_leg n, message))) (by (n == k) refl)
  where
    by : (b : Bool) → (n == k) ≡ b
        → count_of test (of_leg (is_leg k) came ++ (if b then message ∷ [] else []))
        ≤ count_of test (put k)
    by true e =
        let same : n ≡ k = grind (arith, nat_tests, e) in
        subst (λ (j : ℕ). count_of test (of_leg (is_leg j) came ++ message ∷ [])
        ≤ count_of test (put j)) same
        (front_count test (of_leg (is_leg n) came ++ message ∷ []) (put n) ahead)
    by false e =
        subst (λ (ms : List Message). count_of test ms ≤ count_of test (put k))
        (sym (append-nil (of_leg (is_leg k) came)))
        (front_count test (of_leg (is_leg k) came) (put k) (fronts k))

-- ---- a moment

module _ (numbers : Numbers) (reader : ℕ → ℕ) (moves : Moves)
    (joined : AreJoined reader (passages numbers moves))
    (paid : (m : ℕ) → PutsForWhatCame m (in_behind numbers moves m)) where
  abbrev put : List Message
  put = of_kind ClientIn (client_behind numbers moves).passage.put

  abbrev AreWithin : (Named → Bool) → List OnLeg → Type 0
  AreWithin test log =
      (k : ℕ) → count_on test InServer log k
      ≤ count_on test InServer (in_behind numbers moves k).put k

  -- no more OUT_R1/A8 of any cookies came than OUT_R1/A7 were put
  pub within : (of : Cookie → Bool) (log : List OnLeg) → AreWithin (at_proxy.is_out_r1_a8 of) log
      → count_of (at_proxy.is_out_r1_a8 of) (of_kind InServer log)
      ≤ count_of (at_proxy.is_out_r1_a7 of) put
  within of log each =
      by_in_proxies (at_proxy.is_out_r1_a7 of) (at_proxy.is_out_r1_a8 of) log
      (client_behind numbers moves).passage.put (λ m. (in_behind numbers moves m).came)
      (λ m. (in_behind numbers moves m).put) reader each (λ m. (paid m).answers of)
      ((are_fronts reader (passages numbers moves) joined).ci_up (at_proxy.is_out_r1_a7 of))

  pub all_within : (log : List OnLeg) → AreWithin (at_proxy.is_out_r1_a8 any) log
      → count_of at_server.is_out_r1_a8 (of_kind InServer log)
      ≤ count_of at_client.is_out_r1_a7 put
  all_within log each =
      let came = same_counts (at_proxy.is_out_r1_a8 any) at_server.is_out_r1_a8 any_out_r1_a8
      (of_kind InServer log) in
      let all = same_counts (at_proxy.is_out_r1_a7 any) at_client.is_out_r1_a7 any_out_r1_a7
      put in
      let some = within any log each in
      omega (arith, came, all, some)

  -- one more that is within them, where no more than one is left, is that of the next channel
  module _ (Comes : ℕ → Cookie → Type 0) (are : AreOwn Comes)
      (asked : InOrder Comes 1 (named_in switches put)) (before : List OnLeg)
      (known : InOrder Comes 1 (named_in confirms (of_kind InServer before)))
      (left : count_of at_client.is_out_r1_a7 put
      ≤ suc (count_of at_server.is_out_r1_a8 (of_kind InServer before))) where
    abbrev ys : List Cookie
    ys = named_in confirms (of_kind InServer before)

    often_one : (c : Cookie) (leg : Leg) (to : ℕ) → is_of InServer leg ≡ true
        → count_of (at_proxy.is_out_r1_a8 (is_same c))
        (of_kind InServer (before ++ (leg, Packet (OutR1A8 to c)) ∷ []))
        ≡ how_often c (ys ++ c ∷ [])
    often_one c leg to e =
        ap (count_of (at_proxy.is_out_r1_a8 (is_same c)))
        (kind_here InServer before (leg, Packet (OutR1A8 to c)) true e)
        ∙ confirmed_often c (of_kind InServer before ++ Packet (OutR1A8 to c) ∷ [])
        ∙ ap (how_often c) (append_names confirms (of_kind InServer before)
        (Packet (OutR1A8 to c) ∷ []))

    pub next_confirms : (leg : Leg) (to : ℕ) (c : Cookie) → is_of InServer leg ≡ true
        → AreWithin (at_proxy.is_out_r1_a8 (is_same c))
        (before ++ (leg, Packet (OutR1A8 to c)) ∷ [])
        → InOrder Comes 1 (ys ++ c ∷ [])
    next_confirms leg to c e each =
        let some = within (is_same c) (before ++ (leg, Packet (OutR1A8 to c)) ∷ []) each in
        let one = often_one c leg to e in
        let all = switched_often c put in
        let switched = all_switched put in
        let confirmed = all_confirmed (of_kind InServer before) in
        next_in_order Comes are c 1 (named_in switches put) ys asked known
        (omega (arith, left, switched, confirmed)) (omega (arith, some, one, all))

    -- a message more, whatever it is
    pub more_in_order : (one : OnLeg)
        → ((of : Cookie → Bool) → AreWithin (at_proxy.is_out_r1_a8 of) (before ++ one ∷ []))
        → InOrder Comes 1 (named_in confirms (of_kind InServer (before ++ one ∷ [])))
    more_in_order (leg, message) each =
        subst (λ (ms : List Message). InOrder Comes 1 (named_in confirms ms))
        (sym (kind_more InServer before (leg, message)))
        (by (is_of InServer leg) refl)
      where
        still : (cs : List Cookie) → cs ≡ [] → InOrder Comes 1 (ys ++ cs)
        still cs none =
            subst (λ (xs : List Cookie). InOrder Comes 1 (ys ++ xs)) (sym none)
            (subst (InOrder Comes 1) (sym (append-nil ys)) known)

        at : (m : Message) → is_of InServer leg ≡ true
            → ((of : Cookie → Bool)
            → AreWithin (at_proxy.is_out_r1_a8 of) (before ++ (leg, m) ∷ []))
            → InOrder Comes 1 (ys ++ named_in confirms (m ∷ []))
        at (Text bytes) e all = still [] refl
        at (Pdu pdu) e all = still [] refl
        at (Packet (OutR1A8 to c)) e all = next_confirms leg to c e (all (is_same c))
        at (Packet m) e all = still [] refl

        by : (b : Bool) → is_of InServer leg ≡ b
            → InOrder Comes 1 (named_in confirms
            (of_kind InServer before ++ (if b then message ∷ [] else [])))
        by true e =
            subst (InOrder Comes 1)
            (sym (append_names confirms (of_kind InServer before) (message ∷ [])))
            (at message e each)
        by false e =
            subst (InOrder Comes 1) (sym (append_names confirms (of_kind InServer before) []))
            (still [] refl)

-- an in proxy expects what comes next on its legs
use Rattle.law_order.proofs.Vocabulary.{◌≡◌, ◌⊎◌, ℕ, ◌≤◌, List, [], ◌∷◌, ◌++◌, inl, inr, subst, arith, Err, IsTrue, IsPrefix}
use Rattle.rh_sig.specs.declared.named.Named.TheVariants as named
use Rattle.rh_shell.specs.declared.answers.Refused.TheVariants as refused
use Rattle.law_moves.proofs.Vocabulary.{Cookie, Named, Leg, Count, Refused, Message, Pdu, Packet, EndMove, Passage, is_in_use, of_leg, all_read_of, Tells, packets, BeginsIn, Has, HasBegunIn, HasComeUp}
use Rattle.law_moves.proofs.Lemmas.{has_last}
use Rattle.law_role_inproxy.proofs.Vocabulary.{rules, InProxy, is_leg, IsUntold, Mismatch, RefusesFor, Unexpected, UnexpectedPdu}
use Rattle.law_role_client.proofs.Vocabulary.{ci, AreAllowedMoves, client_moved, ReplacesIns}
use Rattle.law_role_client_rows.specs.Putting.{OpenedBefore}
use Rattle.law_role_client_rows.specs.InTurn.Ends.{EndsAll, EndsByInR1A5, EndsOnce}
use Rattle.law_peers_moments.proofs.Joining.{in_front, is_front}
use Rattle.law_peers_moments.proofs.Read.{front_has, front_one}
use Rattle.law_peers_moments.specs.Expecting.{Expects, IsAhead, IsAmiss}
use Rattle.law_peers_moments.specs.Moments.{IsJoined, IsMoment, Moves, Numbers, Passages, ReadInTurn, client_behind, in_behind, passages}
use Rattle.law_peers_expects.proofs.InProxyExpects.Channels.{begun_up}
use Rattle.law_peers_expects.proofs.InProxyExpects.OnServer.{Answers}
use Rattle.law_peers_expects.proofs.InProxyExpects.Untold.{Laws, told_before}
use Rattle.law_peers_expects.proofs.InProxyExpects.OnClient as on_client
use Rattle.law_peers_expects.proofs.InProxyExpects.OnServer as on_server
use Rattle.law_peers_expects.specs.InProxyExpects.Expected.{AreReadWhereUp}

-- ---- of the answers that refuse

-- none is for what is amiss, where neither an unexpected packet nor another cookie is
expects : (p : Passage InProxy) (n : ℕ) (leg : Leg) (all : List Message) → RefusesFor n p
    → ((named : Named) → IsAhead p leg all (Packet named)
    → Unexpected n p leg named → ⊥)
    → ((bytes : List ℕ) → IsAhead p leg all (Pdu bytes)
    → UnexpectedPdu p leg → ⊥)
    → ((named : Named) (expected got : Cookie) → IsAhead p leg all (Packet named)
    → Mismatch n p leg named expected got → ⊥)
    → Expects rules p leg all
expects p n leg all law unexpected pdu mismatch = record {
  packet = on_packet;
  pdu = on_pdu;
}
  where
    on_packet : (count : Count) (named : Named) (why : Refused)
        → IsTrue (is_in_use rules p.role leg) → IsTrue (rules.was_up p.role leg)
        → Tells count (packets (of_leg leg p.came)) → IsAhead p leg all (Packet named)
        → (rules.packet p.role leg count named).1 ≡ Err why → IsAmiss why → ⊥
    on_packet count named refused.Unexpected used up tells ahead e amiss =
        unexpected named ahead (law.unexpected leg count named used up e)
    on_packet count named (refused.Cookie expected got) used up tells ahead e amiss =
        mismatch named expected got ahead (law.mismatch leg count named expected got used up e)
    on_packet count named why used up tells ahead e amiss = amiss

    on_pdu : (count : Count) (bytes : List ℕ) (why : Refused)
        → IsTrue (is_in_use rules p.role leg) → IsTrue (rules.was_up p.role leg)
        → IsAhead p leg all (Pdu bytes)
        → (rules.pdu p.role leg count bytes).1 ≡ Err why → IsAmiss why → ⊥
    on_pdu count bytes refused.Unexpected used up ahead e amiss =
        pdu bytes ahead (law.unexpected_pdu leg count bytes used up e)
    on_pdu count bytes (refused.Cookie expected got) used up ahead e amiss =
        law.no_mismatch leg count bytes expected got used up e
    on_pdu count bytes why used up ahead e amiss = amiss

-- ---- what the roles keep besides

pub record Rest (numbers : Numbers) (moves : Moves) : Type 0 where
  pub left : EndsByInR1A5 (client_behind numbers moves).passage.put
  pub ends : EndsOnce (client_behind numbers moves).passage.put
  pub over : EndsAll (client_behind numbers moves).passage.put
  pub refuses : (m : ℕ) → RefusesFor m (in_behind numbers moves m)
  pub late : OpenedBefore numbers.client moves.client (ci 1) → ⊥

-- the first channel's in proxy has its number
first_opened : (reader : ℕ → ℕ) → ReadInTurn reader → (m n : ℕ) → reader n ≡ m → 1 ≤ m → n ≡ 1
    → n ≡ m
first_opened reader h m n reads least e =
    by (subst (λ (k : ℕ). reader k ≡ m) e reads) (h.next 0)
  where
    by : reader 1 ≡ m → (reader 1 ≡ 0) ⊎ ((reader 1 ≡ 1) ⊎ (reader 1 ≡ reader 0)) → n ≡ m
    by is (inl none) = absurd (omega (arith, is, none, least))
    by is (inr (inl own)) = omega (arith, is, own, e)
    by is (inr (inr same)) = let zero = h.none in absurd (omega (arith, is, same, zero, least))

module _ (numbers : Numbers)
    (laws : (reader : ℕ → ℕ) (moves : Moves) → IsJoined numbers reader moves
    → Laws numbers reader moves)
    (replaces : (client : List EndMove) → AreAllowedMoves numbers.client client
    → ReplacesIns (client_moved numbers.client client).passage)
    (reader : ℕ → ℕ) (moves : Moves) (moment : IsMoment numbers reader moves) where
  abbrev here : Laws numbers reader moves
  here = laws reader moves moment.now

  abbrev all : Passages
  all = passages numbers moves

  -- ---- on a ci leg

  module _ (rest : Rest numbers moves) (m n : ℕ) (reads : reader n ≡ m) (least : 1 ≤ m)
      (up_reads : AreReadWhereUp reader moves) where
    abbrev p : Passage InProxy
    p = in_behind numbers moves m

    knows : on_client.Knows numbers.client moves.client m p
    knows = record {
      opens = here.opens;
      one = moment.now.cookies.one;
      late = rest.late;
      left = rest.left;
      ends = rest.ends;
      over = rest.over;
      fronts = λ k. in_front reader all moment.now.joined m k;
    }

    told : (x : Named) (ahead : IsPrefix (of_leg (ci n) p.came ++ Packet x ∷ [])
        (all_read_of (of_leg (ci n) all.client.put))) (successor : Cookie)
        → x ≡ named.InR1A5 successor
        → IsUntold m p n → ⊥
    told x ahead successor is =
        told_before numbers laws replaces reader moves moment m n reads up_reads successor
        (subst (λ (y : Named). Has y (of_leg (ci n) all.client.put)) is
        (front_has x (of_leg (ci n) p.came ++ Packet x ∷ []) (of_leg (ci n) all.client.put) ahead
        (has_last x (of_leg (ci n) p.came))))

    pub expects_client : Expects rules p (ci n) (all_read_of (of_leg (ci n) all.client.put))
    expects_client =
        expects p m (ci n) (all_read_of (of_leg (ci n) all.client.put)) (rest.refuses m)
        (λ x ahead. on_client.packet_expected numbers.client moves.client m p knows n
        (first_opened reader moment.now.read m n reads least) x ahead (told x ahead))
        (λ bytes ahead. on_client.pdu_expected numbers.client moves.client m p knows n bytes ahead)
        (λ x expected got ahead u. on_client.packet_matched numbers.client moves.client m p knows
        n expected got u.0 x ahead u.1)

  -- ---- on the leg to the server

  -- what began at the proxy came up so at the client
  began : (m : ℕ) (cookie : Cookie)
      → HasBegunIn cookie (of_leg (ci m) (in_behind numbers moves m).came)
      → HasComeUp moves.client (ci m) cookie
  began m cookie has =
      begun_up numbers.client moves.client here.opens m cookie
      (front_one (BeginsIn cookie) (of_leg (ci m) (in_behind numbers moves m).came)
      (of_leg (ci m) all.client.put) (in_front reader all moment.now.joined m m) has)

  module _ (m : ℕ) (refuses : RefusesFor m (in_behind numbers moves m))
      (answered : Answers (of_leg (is_leg m) all.server.came)
      (all_read_of (of_leg (is_leg m) all.server.put))) where
    abbrev q : Passage InProxy
    q = in_behind numbers moves m

    knows_server : on_server.Knows m q (of_leg (is_leg m) all.server.came)
        (all_read_of (of_leg (is_leg m) all.server.put))
    knows_server = record {
      announces = here.announces m;
      counts = here.puts m;
      front = is_front reader all moment.now.joined m;
      answered = answered;
      own = λ a b one other.
          moment.now.cookies.one (ci m) a b (began m a one) (began m b other);
    }

    pub expects_server : Expects rules q (is_leg m) (all_read_of (of_leg (is_leg m) all.server.put))
    expects_server =
        expects q m (is_leg m) (all_read_of (of_leg (is_leg m) all.server.put)) refuses
        (λ x ahead u. on_server.packet_expected m q (of_leg (is_leg m) all.server.came)
        (all_read_of (of_leg (is_leg m) all.server.put)) knows_server x ahead u)
        (λ bytes ahead u. on_server.pdu_expected m q (of_leg (is_leg m) all.server.came)
        (all_read_of (of_leg (is_leg m) all.server.put)) knows_server bytes ahead)
        (λ x expected got ahead u. on_server.packet_matched m q
        (of_leg (is_leg m) all.server.came) (all_read_of (of_leg (is_leg m) all.server.put))
        knows_server expected got u.0 x ahead u.1)

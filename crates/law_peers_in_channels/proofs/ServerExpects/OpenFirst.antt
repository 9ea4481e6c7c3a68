-- a client puts RPC PDUs only once both CONN/A2 and CONN/B2 came to the server
use Rattle.law_order.proofs.Vocabulary.{◌≡◌, ◌⊎◌, ℕ, Bool, true, false, if◌then◌else◌, List, [], ◌∷◌, ◌++◌, inl, inr, refl, sym, ap, ◌∙◌, subst, arith, AllByRecursion, IsPrefix}
use Rattle.law_moves.proofs.Vocabulary.{Named, Leg, ClientIn, ClientOut, OutServer, is_ping, Message, Text, Pdu, Packet, is_of, same_leg, OnLeg, of_leg, all_read_of, count_of, of_kind}
use Rattle.law_moves.proofs.Lemmas.{by_proxies}
use Rattle.law_moves.specs.PacketKinds as at_proxy
use Rattle.law_role_inproxy.proofs.Vocabulary.{HasPdu}
use Rattle.law_role_client.proofs.Vocabulary.{ci}
use Rattle.law_role_client.specs.Counted.Counting as at_client
use Rattle.law_role_client.specs.Counted.Opening as client_opening
use Rattle.law_role_server.specs.Counted.Opening as server_opening
use Rattle.law_node_history.proofs.Lemmas.{cases_leg}
use Rattle.law_role_outproxy.proofs.Vocabulary.{ForwardsWhatCame}
use Rattle.law_peers_moments.proofs.GoingRound.Fronts.{are_fronts}
use Rattle.law_peers_moments.specs.Moments.{AreJoined, Passages}
use Rattle.law_role_server_in.specs.Refusing.{IsOpening}
use Rattle.law_peers_expects.proofs.InProxyExpects.Counts.{conn_c2}
use Rattle.law_peers_expects.proofs.OutProxyExpects.NotEarly.{IsGreeting as Greets}
use Rattle.law_peers_expects.proofs.InProxyExpects.Fronts.{same_counts}

-- ---- RPC PDUs among messages

of_its_kind : (leg : Leg) (n : ℕ) → same_leg leg (ci n) ≡ true → is_of ClientIn leg ≡ true
of_its_kind leg n e = by (cases_leg leg (ci n))
  where
    by : (leg ≡ ci n) ⊎ (same_leg leg (ci n) ≡ false) → is_of ClientIn leg ≡ true
    by (inl same) = ap (is_of ClientIn) same
    by (inr apart) = absurd (let both = sym e ∙ apart in cc)

module _ (bytes : List ℕ) where
  pub pdu_stands : (before later : List Message) → HasPdu bytes (before ++ Pdu bytes ∷ later)
  pdu_stands [] later = inl refl
  pdu_stands (m ∷ before) later = inr (pdu_stands before later)

  pdu_more : (a b : List Message) → HasPdu bytes a → HasPdu bytes (a ++ b)
  pdu_more [] b has = absurd has
  pdu_more (m ∷ a) b (inl is) = inl is
  pdu_more (m ∷ a) b (inr has) = inr (pdu_more a b has)

  pdu_read : (put : List Message) → HasPdu bytes (all_read_of put) → HasPdu bytes put
  pdu_read [] has = has
  pdu_read (Text text ∷ put) has = inr (pdu_read put has)
  pdu_read (Pdu pdu ∷ put) (inl is) = inl is
  pdu_read (Pdu pdu ∷ put) (inr has) = inr (pdu_read put has)
  pdu_read (Packet m ∷ put) has = inr (by (is_ping m) (pdu_read put) has)
    where
      by : (b : Bool) → (HasPdu bytes (all_read_of put) → HasPdu bytes put)
          → HasPdu bytes ((if b then [] else Packet m ∷ []) ++ all_read_of put)
          → HasPdu bytes put
      by true rest has = rest has
      by false rest (inl is) = absurd cc
      by false rest (inr has) = rest has

  -- what came was put
  pub pdu_front : (came put : List Message) → IsPrefix came (all_read_of put)
      → HasPdu bytes came → HasPdu bytes put
  pdu_front came put p has = pdu_read put (subst (HasPdu bytes) p.1 (pdu_more came p.0 has))

  no_greeting : (m : Message) → m ≡ Pdu bytes → Greets m → ⊥
  no_greeting m e greets = absurd (let is = sym (ap at_client.is_greeting e) ∙ greets in cc)

  -- none is among greetings
  none_greets : (n : ℕ) (log : List OnLeg) → AllByRecursion Greets (of_kind ClientIn log)
      → HasPdu bytes (of_leg (ci n) log) → ⊥
  none_greets n [] all has = has
  none_greets n (one ∷ log) all has =
      by (same_leg one.0 (ci n)) (is_of ClientIn one.0) (of_its_kind one.0 n) all has
      (none_greets n log)
    where
      by : (here kind : Bool) → (here ≡ true → kind ≡ true)
          → AllByRecursion Greets
          (if kind then one.1 ∷ of_kind ClientIn log else of_kind ClientIn log)
          → HasPdu bytes (if here then one.1 ∷ of_leg (ci n) log else of_leg (ci n) log)
          → (AllByRecursion Greets (of_kind ClientIn log) → HasPdu bytes (of_leg (ci n) log) → ⊥)
          → ⊥
      by true true own all (inl is) rest = no_greeting one.1 is all.0
      by true true own all (inr has) rest = rest all.1 has
      by true false own all has rest = absurd (let no' = own refl in cc)
      by false true own all has rest = rest all.1 has
      by false false own all has rest = rest all has

-- ---- a moment

no_packet : (test : Named → Bool) (ms : List Message) → AllByRecursion server_opening.IsText ms
    → count_of test ms ≡ 0
no_packet test [] h = refl
no_packet test (Text bytes ∷ ms) h = no_packet test ms h.1
no_packet test (Pdu pdu ∷ ms) h = absurd h.0
no_packet test (Packet m ∷ ms) h = absurd h.0

-- the ends open once, and out proxies tell the client of it
pub record OpensByServer (all : Passages) : Type 0 where
  pub client : client_opening.OpensOnce all.client
  pub server : server_opening.OpensOnce all.server
  pub outs : (n : ℕ) → ForwardsWhatCame n (all.outs n)

module _ (reader : ℕ → ℕ) (all : Passages) (joined : AreJoined reader all)
    (opens : OpensByServer all) where
  unopened : IsOpening all.server → client_opening.opened all.client ≡ 0
  unopened opening =
      let fronts = are_fronts reader all joined in
      let way = by_proxies at_proxy.is_conn_c1 at_proxy.is_conn_c2 OutServer ClientOut
      all.client.came all.server.put (λ n. (all.outs n).came) (λ n. (all.outs n).put)
      (fronts.co_down at_proxy.is_conn_c2) (λ n. (opens.outs n).connection)
      (fronts.os_down at_proxy.is_conn_c1) in
      let none = no_packet at_proxy.is_conn_c1 (of_kind OutServer all.server.put)
      (opens.server.early opening).greetings in
      let same = same_counts at_client.is_conn_c2 at_proxy.is_conn_c2 conn_c2
      (of_kind ClientOut all.client.came) in
      omega (arith, way, none, same)

  pub no_pdu_put : IsOpening all.server → (n : ℕ) (bytes : List ℕ)
      → HasPdu bytes (of_leg (ci n) all.client.put) → ⊥
  no_pdu_put opening n bytes has =
      none_greets bytes n all.client.put (opens.client.unused (unopened opening)).greets has

-- what each channel of a client begins with, and what stands behind it
use Rattle.law_order.proofs.Vocabulary.{◌≡◌, ℕ, zero, suc, List, [], ◌∷◌, arith, inl, inr, refl, sym, subst, AllByRecursion}
use Rattle.law_moves.proofs.Vocabulary.{Cookie, Named, InR1A5, OutR1A7, OutR2C1, EndA1, AckTo, Ping, ClientConfig, Leg, Message, Text, Pdu, Packet, EndMove, of_leg, HasComeUp}
use Rattle.law_moves.proofs.Lemmas.{each_so}
use Rattle.law_role_client.proofs.Vocabulary.{ci, co, client_moved}
use Rattle.law_role_client_rows.specs.Putting.{Begins, IsBegun, IsChannel, IsPacket, IsBehind, IsBehindPacket, OpenedBefore, OpensInChannels, OpensOutChannels, OutRest, in_way, out_way}
use Rattle.law_role_client_rows.specs.InTurn.Asking.{AsksIn, AsksOut, IsNoAskPacket, IsNoAsk, IsText, AsksOnce, AsksOnceOnEach}

-- ---- from what the channels begin with

is_text : (m : Message) (bytes : List ℕ) → m ≡ Text bytes → IsText m
is_text m bytes e = subst IsText (sym e) tt

packet_so : (P Q : Named → Type 0) → ((named : Named) → P named → Q named) → (m : Message)
    → IsPacket P m → IsPacket Q m
packet_so P Q so (Text bytes) h = h
packet_so P Q so (Pdu pdu) h = h
packet_so P Q so (Packet named) h = so named h

begun_asks : (request : List ℕ) (Begin Asks : Named → Type 0) (Rest : List Message → Type 0)
    (IsLater : Message → Type 0) → ((named : Named) → Begin named → Asks named)
    → ((ms : List Message) → Rest ms → AllByRecursion IsLater ms) → (ms : List Message)
    → IsBegun request Begin Rest ms → AsksOnce Asks IsLater ms
begun_asks request Begin Asks Rest IsLater asks later [] h = tt
begun_asks request Begin Asks Rest IsLater asks later (text ∷ []) h = is_text text request h
begun_asks request Begin Asks Rest IsLater asks later (text ∷ first ∷ rest) h =
    (is_text text request h.0, packet_so Begin Asks asks first h.1, later rest h.2)

once_so : (Asks : Named → Type 0) (P Q : Message → Type 0) → ((m : Message) → P m → Q m)
    → (ms : List Message) → AsksOnce Asks P ms → AsksOnce Asks Q ms
once_so Asks P Q so [] h = tt
once_so Asks P Q so (text ∷ []) h = h
once_so Asks P Q so (text ∷ first ∷ rest) h = (h.0, h.1, each_so P Q so rest h.2)

-- ---- IN channels

module _ (config : ClientConfig) (moves : List EndMove) where
  abbrev Comes : Leg → Cookie → Type 0
  Comes leg cookie = HasComeUp moves leg cookie

  abbrev Early : Leg → Type 0
  Early leg = OpenedBefore config moves leg

  abbrev Follows : ℕ → Message → Type 0
  Follows n m = IsBehind (λ (cookie : Cookie). Comes (ci (suc n)) cookie) m

  in_asks : (n : ℕ) (named : Named) → Begins (in_way config Comes) Comes Early n named
      → AsksIn (suc n) named
  in_asks zero named h = subst (AsksIn 1) (sym h.is) refl
  in_asks (suc n) named h = subst (AsksIn (suc (suc n))) (sym h.is) (omega arith)

  in_once : (n : ℕ) (ms : List Message) → IsChannel (in_way config Comes) Comes Early n ms
      → AsksOnce (AsksIn n) (Follows n) ms
  in_once zero ms h = subst (AsksOnce (AsksIn 0) (Follows 0)) (sym h) tt
  in_once (suc n) ms h =
      let way = in_way config Comes in
      begun_asks (way.request n) (Begins way Comes Early n) (AsksIn (suc n)) (way.Rest n)
      (Follows (suc n)) (in_asks n) (λ rest all. all) ms h

  -- ---- OUT channels

  abbrev IsOutR2C1 : Message → Type 0
  IsOutR2C1 m = m ≡ Packet OutR2C1

  out_asks : (n : ℕ) (named : Named) → Begins (out_way config) Comes Early n named
      → AsksOut (suc n) named
  out_asks zero named h = subst (AsksOut 1) (sym h.is) refl
  out_asks (suc n) named h = subst (AsksOut (suc (suc n))) (sym h.is) (omega arith)

  out_rest : (n : ℕ) (rest : List Message) → OutRest n rest → AllByRecursion IsOutR2C1 rest
  out_rest zero rest h = subst (AllByRecursion IsOutR2C1) (sym h) tt
  out_rest (suc n) rest (inl h) = subst (AllByRecursion IsOutR2C1) (sym h) tt
  out_rest (suc n) rest (inr h) = subst (AllByRecursion IsOutR2C1) (sym h) (refl, tt)

  out_once : (n : ℕ) (ms : List Message) → IsChannel (out_way config) Comes Early n ms
      → AsksOnce (AsksOut n) IsOutR2C1 ms
  out_once zero ms h = subst (AsksOnce (AsksOut 0) IsOutR2C1) (sym h) tt
  out_once (suc n) ms h =
      let way = out_way config in
      begun_asks (way.request n) (Begins way Comes Early n) (AsksOut (suc n)) (way.Rest n) IsOutR2C1
      (out_asks n) (out_rest n) ms h

  -- ---- once

  behind_so : (IsNext : Cookie → Type 0) (m : Message) → IsBehind IsNext m → IsNoAsk m
  behind_so IsNext (Text bytes) h = h
  behind_so IsNext (Pdu pdu) h = h
  behind_so IsNext (Packet packet) h = by packet h
    where
      by : (named : Named) → IsBehindPacket IsNext named → IsNoAskPacket named
      by (AckTo to received available cookie) h = tt
      by (OutR1A7 to successor) h = tt
      by EndA1 h = tt
      by (InR1A5 successor) h = tt
      by Ping h = tt
      by named h = absurd h

  pub asks_once : OpensInChannels config moves → OpensOutChannels config moves
      → AsksOnceOnEach (client_moved config moves).passage.put
  asks_once ins outs =
      let put = (client_moved config moves).passage.put in record {
        ins = λ n.
            once_so (AsksIn n) (Follows n) IsNoAsk
            (behind_so (λ (cookie : Cookie). Comes (ci (suc n)) cookie)) (of_leg (ci n) put)
            (in_once n (of_leg (ci n) put) (ins n));
        outs = λ n.
            once_so (AsksOut n) IsOutR2C1 IsNoAsk (λ m e. subst IsNoAsk (sym e) tt)
            (of_leg (co n) put) (out_once n (of_leg (co n) put) (outs n));
      }

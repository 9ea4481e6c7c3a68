-- what is read of a client's IN channel: the packet that begins it, and those behind it
use Rattle.law_order.proofs.Vocabulary.{◌≡◌, ◌⊎◌, ℕ, zero, suc, false, List, [], ◌∷◌, ◌++◌, inl, inr, refl, sym, ap, subst, AllByRecursion, IsPrefix}
use Rattle.rh_sig.specs.declared.named.Named.TheVariants as named
use Rattle.law_moves.proofs.Vocabulary.{Cookie, Named, ClientConfig, Leg, is_ping, Message, Text, Pdu, Packet, EndMove, of_leg, all_read_of, BeginsIn, HasOne, HasBegunIn, HasComeUp}
use Rattle.law_role_inproxy.proofs.Vocabulary.{NamesConnection}
use Rattle.law_role_client.proofs.Vocabulary.{ci, client_moved}
use Rattle.law_role_client_rows.specs.Putting.{Begins, Direction, IsBegun, IsBehind, IsBehindPacket, IsPacket, OpenedBefore, OpensInChannels, in_way}
use Rattle.law_peers_expects.proofs.InProxyExpects.Fronts.{HasFirst, IsRead, next_stands, read_first, read_so}

pub no_next : (came : List Message) (m : Message) → IsPrefix (came ++ m ∷ []) [] → ⊥
no_next [] m p = let e = p.1 in cc
no_next (x ∷ came) m p = let e = p.1 in cc

module _ (config : ClientConfig) (moves : List EndMove) (opens : OpensInChannels config moves) where
  abbrev pub put : ℕ → List Message
  put n = of_leg (ci n) (client_moved config moves).passage.put

  abbrev pub Comes : Leg → Cookie → Type 0
  Comes = HasComeUp moves

  abbrev Early : Leg → Type 0
  Early = OpenedBefore config moves

  abbrev way : Direction
  way = in_way config Comes

  -- the packet that begins the channel behind so many
  abbrev pub Begin : ℕ → Named → Type 0
  Begin k = Begins way Comes Early k

  abbrev pub Next : ℕ → Cookie → Type 0
  Next k = Comes (ci (suc (suc k)))

  -- ---- what comes next

  no_ping : (k : ℕ) (m : Named) → Begin k m → is_ping m ≡ false
  no_ping zero m h = ap is_ping h.is
  no_ping (suc k) m h = ap is_ping h.is

  read_begun : (k : ℕ) (ms : List Message)
      → IsBegun (way.request k) (Begin k) (way.Rest k) ms
      → IsRead (IsPacket (Begin k)) (IsBehind (Next k)) (all_read_of ms)
  read_begun k [] h = tt
  read_begun k (Text bytes ∷ []) h = tt
  read_begun k (Pdu pdu ∷ []) h = absurd cc
  read_begun k (Packet m ∷ []) h = absurd cc
  read_begun k (text ∷ Text bytes ∷ rest) h = absurd h.1
  read_begun k (text ∷ Pdu pdu ∷ rest) h = absurd h.1
  read_begun k (Pdu pdu ∷ Packet m ∷ rest) h = absurd (let e = h.0 in cc)
  read_begun k (Packet other ∷ Packet m ∷ rest) h = absurd (let e = h.0 in cc)
  read_begun k (Text bytes ∷ Packet m ∷ rest) h =
      subst (IsRead (IsPacket (Begin k)) (IsBehind (Next k)))
      (sym (read_first m rest (no_ping k m h.1)))
      (h.1, read_so (IsBehind (Next k)) rest h.2)

  -- it is the first, or it stands behind that
  abbrev pub IsNext : ℕ → List Message → Message → Type 0
  IsNext k came m =
      ((came ≡ []) × IsPacket (Begin k) m)
      ⊎ (HasFirst (IsPacket (Begin k)) (IsBehind (Next k)) came × IsBehind (Next k) m)

  pub comes_next : (n : ℕ) (came : List Message) (m : Message)
      → IsPrefix (came ++ m ∷ []) (all_read_of (put n)) → (k : ℕ) × (n ≡ suc k) × IsNext k came m
  comes_next zero came m p =
      absurd (no_next came m (subst (λ (ms : List Message).
      IsPrefix (came ++ m ∷ []) (all_read_of ms)) (opens zero) p))
  comes_next (suc k) came m p = (
    k,
    refl,
    next_stands (IsPacket (Begin k)) (IsBehind (Next k)) came (all_read_of (put (suc k))) m
        (read_begun k (put (suc k)) (opens (suc k))) p,
  )

  -- ---- a packet that is none of those behind the first

  module _ (P : Named → Type 0)
      (only : (IsNext : Cookie → Type 0) (m : Named) → IsBehindPacket IsNext m → P m → ⊥) where
    none_behind : (k : ℕ) (ms : List Message) → AllByRecursion (IsBehind (Next k)) ms
        → HasOne P ms → ⊥
    none_behind k [] all h = h
    none_behind k (Text bytes ∷ ms) all h = all.0
    none_behind k (Pdu pdu ∷ ms) all h = none_behind k ms all.1 h
    none_behind k (Packet m ∷ ms) all (inl is) = only (Next k) m all.0 is
    none_behind k (Packet m ∷ ms) all (inr h) = none_behind k ms all.1 h

    abbrev First : ℕ → Type 0
    First n = (k : ℕ) × (n ≡ suc k) × (m : Named) × (Begin k m × P m)

    begun_is : (k : ℕ) (ms : List Message)
        → IsBegun (way.request k) (Begin k) (way.Rest k) ms → HasOne P ms → First (suc k)
    begun_is k [] h has = absurd has
    begun_is k (Text bytes ∷ []) h has = absurd has
    begun_is k (Pdu pdu ∷ []) h has = absurd cc
    begun_is k (Packet m ∷ []) h has = absurd cc
    begun_is k (text ∷ Text bytes ∷ rest) h has = absurd h.1
    begun_is k (text ∷ Pdu pdu ∷ rest) h has = absurd h.1
    begun_is k (Pdu pdu ∷ Packet m ∷ rest) h has = absurd (let e = h.0 in cc)
    begun_is k (Packet other ∷ Packet m ∷ rest) h has = absurd (let e = h.0 in cc)
    begun_is k (Text bytes ∷ Packet m ∷ rest) h (inl is) = (k, refl, m, (h.1, is))
    begun_is k (Text bytes ∷ Packet m ∷ rest) h (inr has) =
        absurd (none_behind k rest h.2 has)

    pub first_is : (n : ℕ) → HasOne P (put n) → First n
    first_is zero has = absurd (subst (HasOne P) (opens zero) has)
    first_is (suc k) has = begun_is k (put (suc k)) (opens (suc k)) has

  -- ---- which cookies they name

  no_begin : (cookie : Cookie) (Next : Cookie → Type 0) (m : Named) → IsBehindPacket Next m
      → BeginsIn cookie m → ⊥
  no_begin cookie Next (named.ConnB1 version connection channel lifetime keepalive group) h is = h
  no_begin cookie Next (named.InR1A1 version connection predecessor channel) h is = h
  no_begin cookie Next m h is = is

  up_by : (k : ℕ) (m : Named) (cookie : Cookie) → Begin k m → BeginsIn cookie m
      → Comes (ci (suc k)) cookie
  up_by zero m cookie h is =
      subst (Comes (ci 1)) (subst (BeginsIn cookie) h.is is) h.names
  up_by (suc k) m cookie h is =
      subst (Comes (ci (suc (suc k)))) (subst (BeginsIn cookie) h.is is) h.names

  -- a channel began with a cookie with which its leg came up
  pub begun_up : (n : ℕ) (cookie : Cookie) → HasBegunIn cookie (put n) → Comes (ci n) cookie
  begun_up n cookie has =
      let first = first_is (BeginsIn cookie) (no_begin cookie) n has in
      subst (λ (j : ℕ). Comes (ci j) cookie) (sym first.1)
      (up_by first.0 first.2 cookie first.3.0 first.3.1)

  no_connection : (cookie : Cookie) (Next : Cookie → Type 0) (m : Named) → IsBehindPacket Next m
      → NamesConnection cookie m → ⊥
  no_connection cookie Next (named.ConnB1 version of channel lifetime keepalive group) h is = h
  no_connection cookie Next (named.InR1A1 version connection predecessor channel) h is = h
  no_connection cookie Next m h is = is

  pub connection_by : (k : ℕ) (m : Named) (cookie : Cookie) → Begin k m → NamesConnection cookie m
      → config.connection ≡ cookie
  connection_by zero m cookie h is = subst (NamesConnection cookie) h.is is
  connection_by (suc k) m cookie h is = subst (NamesConnection cookie) h.is is

  -- and each names the client's connection
  pub connection_is : (n : ℕ) (cookie : Cookie) → HasOne (NamesConnection cookie) (put n)
      → config.connection ≡ cookie
  connection_is n cookie has =
      let first = first_is (NamesConnection cookie) (no_connection cookie) n has in
      connection_by first.0 first.2 cookie first.3.0 first.3.1

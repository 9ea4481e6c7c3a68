-- the lifetimes that a server is told of OUT channels are in range
use Rattle.rh_text.specs.declared.ends.Side.TheVariants as side
use Rattle.law_order.proofs.Vocabulary.{◌≡◌, ◌≤◌, inl, inr, ℕ, suc, Bool, true, false, if◌then◌else◌, List, [], ◌∷◌, refl, sym, subst, arith, AllByRecursion}
use Rattle.rh_record.specs.declared.answer.Who.TheVariants as who
use Rattle.law_moves.proofs.Vocabulary.{Side, LEAST_LIFETIME, Cookie, Named, ConnA2, ConnB2, InR1A2, InR1A6, InR2A2, OutR1A4, IsLifetime, Leg, LegKind, ClientIn, ClientOut, InServer, OutServer, Message, Text, Pdu, Packet, same_leg, OnLeg, of_leg, Has}
use Rattle.law_moves.proofs.Lemmas.{each_so, itself}
use Rattle.law_role_inproxy.proofs.Vocabulary.{InProxyConfig, IsPing, IsRest, IsStream, PutsInOrder}
use Rattle.law_role_server.proofs.Vocabulary.{leg_at}
use Rattle.law_role_outproxy.proofs.Vocabulary.{OutProxyConfig, IsAck, IsToServer, OpensServer, PutsToServer}
use Rattle.law_peers_moments.proofs.Joining.{is_front, os_front}
use Rattle.law_peers_moments.proofs.Read.{front_has}
use Rattle.law_peers_moments.specs.Moments.{IsJoined, Moves, Numbers, Passages, end_of, in_behind, out_behind, passages, server_behind}
use Rattle.law_peers_expects.specs.OutProxyExpects.Early.{HaveLifetimes}
use Rattle.law_peers_room.specs.ServerRoom.Overtaking.{AreLong, IsLong}

-- ---- messages

abbrev Long : Named → Type 0
Long m = IsLong LEAST_LIFETIME m

abbrev IsSo : Message → Type 0
IsSo (Text bytes) = Unit {0}
IsSo (Pdu pdu) = Unit {0}
IsSo (Packet m) = Long m

abbrev AreSo : List Message → Type 0
AreSo ms = AllByRecursion IsSo ms

has_so : (ms : List Message) (m : Named) → AreSo ms → Has m ms → Long m
has_so [] m each has = absurd has
has_so (x ∷ ms) m each (inl is) = subst IsSo is each.0
has_so (x ∷ ms) m each (inr has) = has_so ms m each.1 has

-- ---- what an in proxy puts tells none

ping_so : (x : Message) → IsPing x → IsSo x
ping_so x is = subst IsSo (sym is) tt

module _ (log : List OnLeg) where
  rest_so : (n : ℕ) (ms : List Message) → IsRest log n ms → AreSo ms
  rest_so n [] h = tt
  rest_so n (Text bytes ∷ ms) h = absurd h.0
  rest_so n (Pdu pdu ∷ ms) h = (tt, rest_so n ms h.1)
  rest_so n (Packet (InR2A2 successor) ∷ ms) h = (tt, rest_so (suc n) ms h.1)
  rest_so n (Packet (InR1A6 successor) ∷ ms) h = (tt, each_so IsPing IsSo ping_so ms h.1)
  rest_so n (Packet (ConnA2 version connection channel lifetime window) ∷ ms) h = absurd h.0
  rest_so n
      (Packet (OutR1A4 version connection predecessor successor lifetime window timeout) ∷ ms) h =
      absurd h.0
  rest_so n (Packet m ∷ ms) h = (tt, rest_so n ms h.1)

  stream_so : (config : InProxyConfig) (ms : List Message) → IsStream config log ms → AreSo ms
  stream_so config [] h = tt
  stream_so config (Text bytes ∷ ms) h = absurd h.0
  stream_so config (Pdu pdu ∷ ms) h = absurd h.0
  stream_so config
      (Packet (ConnB2 version connection channel window timeout group address padding) ∷ ms) h =
      (tt, rest_so config.number ms h.1)
  stream_so config
      (Packet (InR1A2 version connection predecessor successor window timeout) ∷ ms) h =
      (tt, rest_so config.number ms h.1)
  stream_so config (Packet m ∷ ms) h = absurd h.0

-- ---- what an out proxy puts tells its own

module _ (config : OutProxyConfig) (is : IsLifetime config.lifetime) where
  in_range : (lifetime : ℕ) → lifetime ≡ config.lifetime → LEAST_LIFETIME ≤ lifetime
  in_range lifetime same = subst (λ (n : ℕ). LEAST_LIFETIME ≤ n) (sym same) is.0

  opens_so : (came : List Message) (cookie : Cookie) (m : Named)
      → OpensServer config came cookie m → Long m
  opens_so came cookie (ConnA2 version connection channel lifetime window) h =
      let least = in_range lifetime h.2 in grind (arith, least)
  opens_so came cookie
      (OutR1A4 version connection predecessor successor lifetime window timeout) h =
      in_range lifetime h.2
  opens_so came cookie m h = tt

  ack_so : (cookie : Cookie) (x : Message) → IsAck cookie x → IsSo x
  ack_so cookie (Text bytes) h = tt
  ack_so cookie (Pdu pdu) h = tt
  ack_so cookie (Packet (ConnA2 version connection channel lifetime window)) h = absurd h
  ack_so cookie
      (Packet (OutR1A4 version connection predecessor successor lifetime window timeout)) h =
      absurd h
  ack_so cookie (Packet m) h = tt

  to_server_so : (came put : List Message) → IsToServer config came put → AreSo put
  to_server_so came [] h = tt
  to_server_so came (first ∷ rest) h = (
    subst IsSo (sym h.is) (opens_so came h.cookie h.packet h.opens),
    each_so (IsAck h.cookie) IsSo (ack_so h.cookie) rest h.acks,
  )

-- ---- a log, by its legs

has_later : (m : Named) (leg : Leg) (one : OnLeg) (log : List OnLeg) → Has m (of_leg leg log)
    → Has m (of_leg leg (one ∷ log))
has_later m leg one log has = by (same_leg one.0 leg)
  where
    by : (t : Bool) → Has m (if t then one.1 ∷ of_leg leg log else of_leg leg log)
    by true = inr has
    by false = has

has_first : (m : Named) (leg : Leg) (log : List OnLeg) → same_leg leg leg ≡ true
    → Has m (of_leg leg ((leg, Packet m) ∷ log))
has_first m leg log same =
    subst (λ (t : Bool). Has m (if t then Packet m ∷ of_leg leg log else of_leg leg log))
    (sym same) (inl refl)

each_long : (log : List OnLeg) → ((leg : Leg) (m : Named) → Has m (of_leg leg log) → Long m)
    → AreLong LEAST_LIFETIME log
each_long [] each = tt
each_long ((leg, Text bytes) ∷ log) each = (
  tt,
  each_long log (λ other m has. each other m (has_later m other (leg, Text bytes) log has)),
)
each_long ((leg, Pdu pdu) ∷ log) each = (
  tt,
  each_long log (λ other m has. each other m (has_later m other (leg, Pdu pdu) log has)),
)
each_long ((leg, Packet first) ∷ log) each = (
  each leg first (has_first first leg log (itself leg)),
  each_long log (λ other m has. each other m (has_later m other (leg, Packet first) log has)),
)

-- ---- at a moment

-- what the proxies see to
pub record SeeToIt (numbers : Numbers) (moves : Moves) : Type 0 where
  pub ins : (n : ℕ) → PutsInOrder (numbers.ins n) (in_behind numbers moves n)
  pub outs : (n : ℕ) → PutsToServer (numbers.outs n) (out_behind numbers moves n)

module _ (numbers : Numbers) (reader : ℕ → ℕ) (moves : Moves)
    (joined : IsJoined numbers reader moves) (lifetimes : HaveLifetimes numbers)
    (see : SeeToIt numbers moves) where
  abbrev all : Passages
  all = passages numbers moves

  abbrev came_on : Leg → List Message
  came_on leg = of_leg leg all.server.came

  nowhere : (leg : Leg) → ((end : Side) → end_of reader leg end ≡ who.Server → ⊥) → (m : Named)
      → Has m (came_on leg) → Long m
  nowhere leg apart m has =
      absurd (subst (Has m) (joined.joined.elsewhere who.Server leg apart) has)

  in_so : (n : ℕ) → AreSo (of_leg (leg_at InServer n) (in_behind numbers moves n).put)
  in_so n =
      subst (λ (k : ℕ). AreSo (of_leg (leg_at InServer k) (in_behind numbers moves n).put))
      (joined.made.in_number n)
      (stream_so (in_behind numbers moves n).came (numbers.ins n)
      (of_leg (leg_at InServer (numbers.ins n).number) (in_behind numbers moves n).put)
      (see.ins n))

  out_so : (n : ℕ) → AreSo (of_leg (leg_at OutServer n) (out_behind numbers moves n).put)
  out_so n =
      subst (λ (k : ℕ). AreSo (of_leg (leg_at OutServer k) (out_behind numbers moves n).put))
      (joined.made.out_number n)
      (to_server_so (numbers.outs n) (lifetimes n)
      (of_leg (leg_at ClientOut (numbers.outs n).number) (out_behind numbers moves n).came)
      (of_leg (leg_at OutServer (numbers.outs n).number) (out_behind numbers moves n).put)
      (see.outs n))

  on : (kind : LegKind) (n : ℕ) (m : Named) → Has m (came_on (leg_at kind n)) → Long m
  on InServer n m has =
      has_so (of_leg (leg_at InServer n) (in_behind numbers moves n).put) m (in_so n)
      (front_has m (came_on (leg_at InServer n))
      (of_leg (leg_at InServer n) (in_behind numbers moves n).put)
      (is_front reader all joined.joined n) has)
  on OutServer n m has =
      has_so (of_leg (leg_at OutServer n) (out_behind numbers moves n).put) m (out_so n)
      (front_has m (came_on (leg_at OutServer n))
      (of_leg (leg_at OutServer n) (out_behind numbers moves n).put)
      (os_front reader all joined.joined n) has)
  on ClientIn n m has = nowhere (leg_at ClientIn n) (at_ends n) m has
    where
      at_ends : (k : ℕ) (end : Side) → end_of reader (leg_at ClientIn k) end ≡ who.Server → ⊥
      at_ends k side.Client e = absurd cc
      at_ends k side.Server e = absurd cc
  on ClientOut n m has = nowhere (leg_at ClientOut n) (at_ends n) m has
    where
      at_ends : (k : ℕ) (end : Side) → end_of reader (leg_at ClientOut k) end ≡ who.Server → ⊥
      at_ends k side.Client e = absurd cc
      at_ends k side.Server e = absurd cc

  pub are_long : AreLong LEAST_LIFETIME (server_behind numbers moves).passage.came
  are_long = each_long all.server.came (λ leg m has. on leg.kind leg.number m has)

-- what was put and tells something is among what is read of it
use Rattle.law_order.proofs.Vocabulary.{◌≡◌, ℕ, ◌<◌, ◌≤◌, Bool, true, false, if◌then◌else◌, List, [], ◌∷◌, ◌++◌, inl, inr, arith, refl, ap, ◌∙◌, AllByRecursion}
use Rattle.rh_sig.specs.declared.named.Named.TheVariants.{Ack, ConnA2, ConnB3, InR1B2, OutR1A4}
use Rattle.law_moves.proofs.Vocabulary.{Named, is_ping, Leg, Message, Text, Pdu, Packet, OnLeg, of_leg, all_read_of, InServer, is_of, same_leg, by_test}
use Rattle.law_moves.proofs.Lemmas.{leg_is}
use Rattle.law_role_edges.specs.Edges.{IsKnownOn, IsWithin, edge_told}
use Rattle.law_role_edges.specs.OutProxies.{IsToldIn}

-- a Ping is passed over, which tells nothing
ping_tells : (named : Named) → is_ping named ≡ true → edge_told named ≡ 0
ping_tells (ConnA2 version connection channel lifetime window) e = absurd cc
ping_tells (OutR1A4 version connection predecessor successor lifetime window timeout) e =
    absurd cc
ping_tells (ConnB3 window version) e = absurd cc
ping_tells (InR1B2 window) e = absurd cc
ping_tells (Ack received available channel) e = absurd cc
ping_tells named e = refl

pub told_read : (edge : ℕ) → 0 < edge → (put : List Message) → IsToldIn edge put
    → IsToldIn edge (all_read_of put)
told_read edge some [] has = has
told_read edge some (Text bytes ∷ put) has = told_read edge some put has
told_read edge some (Pdu pdu ∷ put) has = told_read edge some put has
told_read edge some (Packet named ∷ put) has =
    by (is_ping named) refl (told_read edge some put) has
  where
    by : (t : Bool) → is_ping named ≡ t → (IsToldIn edge put → IsToldIn edge (all_read_of put))
        → IsToldIn edge (Packet named ∷ put)
        → IsToldIn edge ((if t then [] else Packet named ∷ []) ++ all_read_of put)
    by true e rest (inl is) =
        absurd (let none = ping_tells named e in omega (arith, is, none, some))
    by true e rest (inr has) = rest has
    by false e rest (inl is) = inl is
    by false e rest (inr has) = inr (rest has)

-- who is within all that came knows of what was told
pub told_within : (edge known : ℕ) (came : List Message)
    → AllByRecursion (IsWithin edge_told known) came → IsToldIn edge came → edge ≤ known
told_within edge known [] all has = absurd has
told_within edge known (Text bytes ∷ came) all has = told_within edge known came all.1 has
told_within edge known (Pdu pdu ∷ came) all has = told_within edge known came all.1 has
told_within edge known (Packet named ∷ came) all (inl is) =
    let within = all.0 in omega (arith, is, within)
told_within edge known (Packet named ∷ came) all (inr has) =
    told_within edge known came all.1 has

-- of all legs, those of one
pub on_one : (known : ℕ) (leg : Leg) → is_of InServer leg ≡ true → (came : List OnLeg)
    → AllByRecursion (IsKnownOn known) came
    → AllByRecursion (IsWithin edge_told known) (of_leg leg came)
on_one known leg is [] all = tt
on_one known leg is (one ∷ came) all =
    by_test (λ (ms : List Message). AllByRecursion (IsWithin edge_told known) ms)
    (same_leg one.0 leg) (one.1 ∷ of_leg leg came) (of_leg leg came)
    (λ e. (all.0 (ap (is_of InServer) (leg_is one.0 leg e) ∙ is), on_one known leg is came all.1))
    (λ e. on_one known leg is came all.1)

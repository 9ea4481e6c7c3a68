-- what a packet has from one that came, and more that comes
use Rattle.law_order.proofs.Vocabulary.{◌≡◌, ℕ, true, List, [], ◌∷◌, ◌++◌, sym, ◌∙◌, subst, AllByRecursion}
use Rattle.law_moves.proofs.Vocabulary.{Named, AckTo, ConnB2, ConnC1, ConnC2, InR1A2, InR1A3, InR1A4, Leg, LegKind, Packet, is_of, OnLeg, Has, HasOn, HasOne}
use Rattle.law_moves.proofs.Lemmas.{has_more, has_last, one_more_so, last_one_so}
use Rattle.law_role_windows.proofs.Acknowledging.Found.{found_on}
use Rattle.law_role_windows.proofs.Acknowledging.Legs.{some_more, some_last}
use Rattle.law_role_windows.proofs.Acknowledging.Passing.{Of, Stays, packets_so}
use Rattle.law_role_windows.specs.Acknowledging.Acks.{IsPassedOn, OfPacket}
use Rattle.law_role_windows.specs.Acknowledging.Windows.{Telling, Tells, TellsOn, EachTold, ByConnB2, ByConnC1, ByConnC2, ByInR1A2, ByInR1A3, ByInR1A4}

-- the packet came, or one that told the same window; the window of one that tells its own is that
abbrev pub IsFrom : LegKind → ℕ → ℕ → Of Named
IsFrom kind to own came (AckTo destination received available channel) =
    destination ≡ to → HasOn kind (AckTo destination received available channel) came
IsFrom kind to own came
    (ConnB2 version connection channel window timeout group address padding) = window ≡ own
IsFrom kind to own came (InR1A2 version connection predecessor channel window timeout) =
    window ≡ own
IsFrom kind to own came (ConnC1 version window timeout) = TellsOn ByConnB2 kind window came
IsFrom kind to own came (InR1A3 destination version window timeout) =
    TellsOn ByInR1A2 kind window came
IsFrom kind to own came (ConnC2 version window timeout) = TellsOn ByConnC1 kind window came
IsFrom kind to own came (InR1A4 destination version window timeout) =
    TellsOn ByInR1A3 kind window came
IsFrom kind to own came packet = Unit {0}

-- ---- it came last

pub has_on_last : (kind : LegKind) (leg : Leg) (named : Named) (came : List OnLeg)
    → is_of kind leg ≡ true → HasOn kind named (came ++ (leg, Packet named) ∷ [])
has_on_last kind leg named came of =
    some_last (Has named) kind leg came (Packet named) of (has_last named)

pub tells_on_last : (by : Telling) (kind : LegKind) (size : ℕ) (leg : Leg) (named : Named)
    (came : List OnLeg) → is_of kind leg ≡ true → Tells by size named
    → TellsOn by kind size (came ++ (leg, Packet named) ∷ [])
tells_on_last by kind size leg named came of tells =
    some_last (HasOne (Tells by size)) kind leg came (Packet named) of
    (λ ms. last_one_so (Tells by size) ms named tells)

-- ---- more comes

pub tells_on_stays : (by : Telling) (kind : LegKind) (size : ℕ) (came : List OnLeg) (one : OnLeg)
    → TellsOn by kind size came → TellsOn by kind size (came ++ one ∷ [])
tells_on_stays by kind size =
    some_more (HasOne (Tells by size)) (one_more_so (Tells by size)) kind

pub from_stays : (kind : LegKind) (to own : ℕ) → Stays (IsFrom kind to own)
from_stays kind to own came one (AckTo destination received available channel) h =
    λ e. some_more (Has (AckTo destination received available channel))
    (has_more (AckTo destination received available channel)) kind came one (h e)
from_stays kind to own came one (ConnB2 v1 v2 v3 window v5 v6 v7 v8) h = h
from_stays kind to own came one (InR1A2 v1 v2 v3 v4 window v6) h = h
from_stays kind to own came one (ConnC1 version window timeout) h =
    tells_on_stays ByConnB2 kind window came one h
from_stays kind to own came one (InR1A3 destination version window timeout) h =
    tells_on_stays ByInR1A2 kind window came one h
from_stays kind to own came one (ConnC2 version window timeout) h =
    tells_on_stays ByConnC1 kind window came one h
from_stays kind to own came one (InR1A4 destination version window timeout) h =
    tells_on_stays ByInR1A3 kind window came one h
from_stays kind to own came one named h = tt

-- ---- what was put

pub all_passed : (kind : LegKind) (to own : ℕ) (came put : List OnLeg)
    → AllByRecursion (OfPacket (IsFrom kind to own came)) put
    → AllByRecursion (OfPacket (IsPassedOn kind to came)) put
all_passed kind to own came put all =
    packets_so (IsFrom kind to own came) (IsPassedOn kind to came) passed put all
  where
    passed : (named : Named) → IsFrom kind to own came named → IsPassedOn kind to came named
    passed (AckTo destination received available channel) is = is
    passed named is = tt

module _ (kind : LegKind) (to own : ℕ) (came put : List OnLeg)
    (all : AllByRecursion (OfPacket (IsFrom kind to own came)) put) where
  abbrev From : Named → Type 0
  From = IsFrom kind to own came

  -- each window that these tell is as each packet has it
  told : (by : Telling) (Is : ℕ → Type 0)
      → ((size : ℕ) (named : Named) → From named → Tells by size named → Is size)
      → EachTold by Is put
  told by Is so leg size h = found_on From (Tells by size) (Is size) (so size) leg put all h

  pub own_b2 : EachTold ByConnB2 (λ (size : ℕ). size ≡ own) put
  own_b2 = told ByConnB2 (λ (size : ℕ). size ≡ own) so
    where
      so : (size : ℕ) (named : Named) → From named → Tells ByConnB2 size named → size ≡ own
      so size (ConnB2 v1 v2 v3 window v5 v6 v7 v8) is tells = sym tells ∙ is
      so size named is tells = absurd tells

  pub own_a2 : EachTold ByInR1A2 (λ (size : ℕ). size ≡ own) put
  own_a2 = told ByInR1A2 (λ (size : ℕ). size ≡ own) so
    where
      so : (size : ℕ) (named : Named) → From named → Tells ByInR1A2 size named → size ≡ own
      so size (InR1A2 v1 v2 v3 v4 window v6) is tells = sym tells ∙ is
      so size named is tells = absurd tells

  abbrev Before : Telling → ℕ → Type 0
  Before by size = TellsOn by kind size came

  pub from_b2 : EachTold ByConnC1 (Before ByConnB2) put
  from_b2 = told ByConnC1 (Before ByConnB2) so
    where
      so : (size : ℕ) (named : Named) → From named → Tells ByConnC1 size named
          → Before ByConnB2 size
      so size (ConnC1 version window timeout) is tells = subst (Before ByConnB2) tells is
      so size named is tells = absurd tells

  pub from_a2 : EachTold ByInR1A3 (Before ByInR1A2) put
  from_a2 = told ByInR1A3 (Before ByInR1A2) so
    where
      so : (size : ℕ) (named : Named) → From named → Tells ByInR1A3 size named
          → Before ByInR1A2 size
      so size (InR1A3 destination version window timeout) is tells =
          subst (Before ByInR1A2) tells is
      so size named is tells = absurd tells

  pub from_c1 : EachTold ByConnC2 (Before ByConnC1) put
  from_c1 = told ByConnC2 (Before ByConnC1) so
    where
      so : (size : ℕ) (named : Named) → From named → Tells ByConnC2 size named
          → Before ByConnC1 size
      so size (ConnC2 version window timeout) is tells = subst (Before ByConnC1) tells is
      so size named is tells = absurd tells

  pub from_a3 : EachTold ByInR1A4 (Before ByInR1A3) put
  from_a3 = told ByInR1A4 (Before ByInR1A3) so
    where
      so : (size : ℕ) (named : Named) → From named → Tells ByInR1A4 size named
          → Before ByInR1A3 size
      so size (InR1A4 destination version window timeout) is tells =
          subst (Before ByInR1A3) tells is
      so size named is tells = absurd tells

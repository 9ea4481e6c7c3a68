-- the messages of a channel, and one more
use Rattle.law_order.proofs.Vocabulary.{◌≡◌, ℕ, zero, suc, List, [], ◌∷◌, ◌++◌, refl, sym, subst}
use Rattle.law_moves.proofs.Vocabulary.{Cookie, Named, Leg, Message, Text, Packet}
use Rattle.law_role_client.proofs.Vocabulary.{Opening, NotUp, Request, First, Second, Put}
use Rattle.law_role_client_rows.specs.Putting.{Direction, Begins, IsBegun, IsChannel}

-- ---- how much was put, by how far a channel is

abbrev pub HasNone : List Message → Type 0
HasNone [] = Unit {0}
HasNone (m ∷ ms) = ⊥

abbrev pub HasText : List Message → Type 0
HasText (m ∷ []) = Unit {0}
HasText ms = ⊥

abbrev pub HasFirst : List Message → Type 0
HasFirst (m ∷ first ∷ []) = Unit {0}
HasFirst ms = ⊥

abbrev pub HasMore : List Message → Type 0
HasMore (m ∷ first ∷ rest) = Unit {0}
HasMore ms = ⊥

abbrev pub IsAt : Opening → List Message → Type 0
IsAt NotUp ms = HasNone ms
IsAt Request ms = HasNone ms
IsAt First ms = HasText ms
IsAt Second ms = HasFirst ms
IsAt Put ms = HasMore ms

pub none_is : (ms : List Message) → HasNone ms → ms ≡ []
none_is [] h = refl
none_is (m ∷ ms) h = absurd h

pub is_none : (ms : List Message) → ms ≡ [] → HasNone ms
is_none ms e = subst HasNone (sym e) tt

module _ (way : Direction) (Comes : Leg → Cookie → Type 0) (Early : Leg → Type 0) where
  abbrev pub Is : ℕ → List Message → Type 0
  Is n ms = IsChannel way Comes Early n ms

  -- nothing was put
  pub none_is_so : (n : ℕ) → Is n []
  none_is_so zero = refl
  none_is_so (suc n) = tt

  -- ---- messages that begin a channel

  pub text_more : (k below : ℕ) → k ≡ suc below → (ms : List Message) → HasNone ms
      → (m : Message) → m ≡ Text (way.request below)
      → Is k (ms ++ m ∷ []) × HasText (ms ++ m ∷ [])
  text_more k below e [] h m is = (subst (λ (n : ℕ). Is n (m ∷ [])) (sym e) is, tt)
  text_more k below e (other ∷ ms) h m is = absurd h

  pub first_more : (k below : ℕ) → k ≡ suc below → (ms : List Message) → HasText ms → Is k ms
      → (packet : Named) → Begins way Comes Early below packet → way.Rest below []
      → Is k (ms ++ Packet packet ∷ []) × HasFirst (ms ++ Packet packet ∷ [])
  first_more k below e [] h is packet begins rest = absurd h
  first_more k below e (m ∷ []) h is packet begins rest = (
    subst (λ (n : ℕ). Is n (m ∷ Packet packet ∷ [])) (sym e) (
      subst (λ (n : ℕ). Is n (m ∷ [])) e is,
      begins,
      rest,
    ),
    tt,
  )
  first_more k below e (m ∷ first ∷ ms) h is packet begins rest = absurd h

  -- more of the rest
  pub rest_more : (k below : ℕ) → k ≡ suc below → (ms : List Message) → HasMore ms → Is k ms
      → (m : Message) → ((rest : List Message) → way.Rest below rest
      → way.Rest below (rest ++ m ∷ []))
      → Is k (ms ++ m ∷ []) × HasMore (ms ++ m ∷ [])
  rest_more k below e [] h is m more = absurd h
  rest_more k below e (text ∷ []) h is m more = absurd h
  rest_more k below e (text ∷ first ∷ rest) h is m more =
      let was : IsBegun (way.request below) (Begins way Comes Early below) (way.Rest below)
      (text ∷ first ∷ rest) = subst (λ (n : ℕ). Is n (text ∷ first ∷ rest)) e is in (
        subst (λ (n : ℕ). Is n (text ∷ first ∷ rest ++ m ∷ [])) (sym e)
            (was.0, was.1, more rest was.2),
        tt,
      )

  -- the first of it
  pub second_more : (k below : ℕ) → k ≡ suc below → (ms : List Message) → HasFirst ms → Is k ms
      → (m : Message) → way.Rest below (m ∷ [])
      → Is k (ms ++ m ∷ []) × HasMore (ms ++ m ∷ [])
  second_more k below e [] h is m rest = absurd h
  second_more k below e (text ∷ []) h is m rest = absurd h
  second_more k below e (text ∷ first ∷ []) h is m rest =
      let was : IsBegun (way.request below) (Begins way Comes Early below) (way.Rest below)
      (text ∷ first ∷ []) = subst (λ (n : ℕ). Is n (text ∷ first ∷ [])) e is in (
        subst (λ (n : ℕ). Is n (text ∷ first ∷ m ∷ [])) (sym e) (was.0, was.1, rest),
        tt,
      )
  second_more k below e (text ∷ first ∷ other ∷ ms) h is m rest = absurd h

  pub first_is_more : (ms : List Message) → HasFirst ms → HasMore ms
  first_is_more [] h = absurd h
  first_is_more (m ∷ []) h = absurd h
  first_is_more (m ∷ first ∷ ms) h = tt

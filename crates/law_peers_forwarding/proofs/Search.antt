-- which numbers below another have something, where they are few
use Rattle.law_order.proofs.Vocabulary.{◌≡◌, ◌⊎◌, inl, inr, ℕ, zero, suc, ◌+◌, ◌-◌, ◌<◌, ◌≤◌, Bool, true, false, List, [], ◌∷◌, length, refl, subst, arith, nat_tests, nat_lt}
use Rattle.law_peers_forwarding.specs.ServerFull.Few.{IsAmong}

pub less_or_not : (a b : ℕ) → (a < b) ⊎ (b ≤ a)
less_or_not a b = by (nat_lt a b) refl
  where
    by : (c : Bool) → nat_lt a b ≡ c → (a < b) ⊎ (b ≤ a)
    by true e = inl (grind (arith, nat_tests, e))
    by false e = inr (grind (arith, nat_tests, e))

pub less_or_same : (a b : ℕ) → a < suc b → (a ≡ b) ⊎ (a < b)
less_or_same a b most = by (less_or_not a b)
  where
    by : (a < b) ⊎ (b ≤ a) → (a ≡ b) ⊎ (a < b)
    by (inl less) = inr less
    by (inr least) = inl (omega (arith, most, least))

-- ---- those that have it

module _ (Has : ℕ → Type 0) (decide : (n : ℕ) → Has n ⊎ (Has n → ⊥)) where
  abbrev NoneBelow : ℕ → Type 0
  NoneBelow bound = (n : ℕ) → n < bound → Has n → ⊥

  record Greatest (bound : ℕ) : Type 0 where
    pub number : ℕ
    pub below : number < bound
    pub has : Has number
    pub least : (n : ℕ) → n < bound → Has n → (n ≡ number) ⊎ (n < number)

  greatest : (bound : ℕ) → NoneBelow bound ⊎ Greatest bound
  greatest zero = inl (λ n less has. absurd (omega (arith, less)))
  greatest (suc bound) = by (decide bound) (greatest bound)
    where
      none : (Has bound → ⊥) → NoneBelow bound → (n : ℕ) → Has n
          → (n ≡ bound) ⊎ (n < bound) → ⊥
      none hasnt below n has (inl same) = hasnt (subst Has same has)
      none hasnt below n has (inr less) = below n less has

      least : (Has bound → ⊥) → (found : Greatest bound) → (n : ℕ) → Has n
          → (n ≡ bound) ⊎ (n < bound) → (n ≡ found.number) ⊎ (n < found.number)
      least hasnt found n has (inl same) = absurd (hasnt (subst Has same has))
      least hasnt found n has (inr less) = found.least n less has

      by : Has bound ⊎ (Has bound → ⊥) → NoneBelow bound ⊎ Greatest bound
          → NoneBelow (suc bound) ⊎ Greatest (suc bound)
      by (inl has) rest = inr (record {
        number = bound;
        below = omega arith;
        has = has;
        least = λ n less has. less_or_same n bound less;
      })
      by (inr hasnt) (inl below) =
          inl (λ n less has. none hasnt below n has (less_or_same n bound less))
      by (inr hasnt) (inr found) =
          let below = found.below in
          inr (record {
            number = found.number;
            below = omega (arith, below);
            has = found.has;
            least = λ n less has. least hasnt found n has (less_or_same n bound less);
          })

  -- so many at most below a number
  abbrev pub AtMost : ℕ → ℕ → Type 0
  AtMost zero bound = (n : ℕ) → n < bound → Has n → ⊥
  AtMost (suc most) bound = (n : ℕ) → n < bound → Has n → AtMost most n

  pub record Those (most bound : ℕ) : Type 0 where
    pub those : List ℕ
    pub few : length those ≤ most
    pub each : (n : ℕ) → n < bound → Has n → IsAmong n those

  pub those_below : (most bound : ℕ) → AtMost most bound → Those most bound
  those_below zero bound none = record {
    those = [];
    few = omega arith;
    each = none;
  }
  those_below (suc most) bound some = by (greatest bound) (λ n fewer. those_below most n fewer)
    where
      by : NoneBelow bound ⊎ Greatest bound → ((n : ℕ) → AtMost most n → Those most n)
          → Those (suc most) bound
      by (inl none) below = record {
        those = [];
        few = omega arith;
        each = λ n less has. absurd (none n less has);
      }
      by (inr found) below =
          more (below found.number (some found.number found.below found.has))
        where
          more : Those most found.number → Those (suc most) bound
          more rest = record {
            those = found.number ∷ rest.those;
            few = let few = rest.few in omega (arith, few);
            each = λ n less has. at n has (found.least n less has);
          }
            where
              at : (n : ℕ) → Has n → (n ≡ found.number) ⊎ (n < found.number)
                  → (n ≡ found.number) ⊎ IsAmong n rest.those
              at n has (inl same) = inl same
              at n has (inr less) = inr (rest.each n less has)

-- ---- of each the last number, and the one before

abbrev pub two_of_each : (ℕ → ℕ) → List ℕ → List ℕ
two_of_each last [] = []
two_of_each last (one ∷ others) = last one ∷ (last one - 1) ∷ two_of_each last others

pub twice_as_many : (last : ℕ → ℕ) (all : List ℕ)
    → length (two_of_each last all) ≡ length all + length all
twice_as_many last [] = refl
twice_as_many last (one ∷ others) =
    let rest = twice_as_many last others in omega (arith, rest)

pub among_two : (last : ℕ → ℕ) (one n : ℕ) (all : List ℕ) → IsAmong one all
    → n ≤ last one → last one ≤ suc n → IsAmong n (two_of_each last all)
among_two last one n [] h most near = absurd h
among_two last one n (first ∷ others) (inr h) most near =
    inr (inr (among_two last one n others h most near))
among_two last one n (first ∷ others) (inl same) most near =
    by (subst (λ (k : ℕ). n ≤ last k) same most) (subst (λ (k : ℕ). last k ≤ suc n) same near)
    (less_or_not n (last first))
  where
    by : n ≤ last first → last first ≤ suc n → (n < last first) ⊎ (last first ≤ n)
        → (n ≡ last first) ⊎ ((n ≡ last first - 1) ⊎ IsAmong n (two_of_each last others))
    by most near (inl less) = inr (inl (omega (arith, less, near)))
    by most near (inr least) = inl (omega (arith, most, least))

-- elements of a list, and the pipes of a row
use Rattle.std.proofs.Common.{◌≡◌, ℕ, zero, suc, List, [], ◌∷◌, Bool, true, false, refl, sym, ap}
use Rattle.std.proofs.Common.{◌∙◌, inl, inr, arith, subst, if◌then◌else◌}
use Rattle.std.specs.Prelude.{◌==◌, ◌||◌, ◌⊎◌}
use Rattle.std.specs.List.{Contains}
use Rattle.std.proofs.lemmas.Bool.{eqb-true, eq-eqb}
use Rattle.rh_sig.specs.declared.name.Pipe.{Pipe}
use Rattle.rh_sig.specs.declared.name.Pipe.TheVariants.{CiU, IsU, IsD, CoU, CoD, OsU, OsD}
use Rattle.rh_sig.specs.Looking.{place, carries}

pub in_front : {X : Type 0} (x : X) (xs : List X) → Contains (x ∷ xs) x
in_front x xs = (0, omega arith, refl)

pub behind : {X : Type 0} (x y : X) (xs : List X) → Contains xs y → Contains (x ∷ xs) y
behind x y xs (k, below, is) = (suc k, omega (arith, below), is)

pub which : {X : Type 0} (x y : X) (xs : List X) → Contains (x ∷ xs) y → (x ≡ y) ⊎ Contains xs y
which x y xs (zero, below, is) = inl is
which x y xs (suc k, below, is) = inr (k, omega (arith, below), is)

-- no pipe in an empty list
pub in_none : {X : Type 0} (y : X) → Contains [] y → ⊥
in_none y (k, below, is) = absurd (omega (arith, below))

-- the pipe in a place
pipe_at : ℕ → Pipe
pipe_at n =
    if n == 0 then CiU else (if n == 1 then IsU else (if n == 2 then IsD else (if n == 3 then CoU
    else (if n == 4 then CoD else (if n == 5 then OsU else OsD)))))

placed : (p : Pipe) → pipe_at (place p) ≡ p
unfolding pipe_at
placed CiU = refl
placed p = refl

pub same_place : (p q : Pipe) → place p ≡ place q → p ≡ q
same_place p q e = sym (placed p) ∙ ap pipe_at e ∙ placed q

carried_step : (q pipe : Pipe) (qs : List Pipe) (t : Bool) → (place q == place pipe) ≡ t
    → (t || carries qs pipe) ≡ true
    → (carries qs pipe ≡ true → Contains qs pipe) → Contains (q ∷ qs) pipe
carried_step q pipe qs true is e more =
    subst (λ (x : Pipe). Contains (q ∷ qs) x) (same_place q pipe (eqb-true _ _ is)) (in_front q qs)
carried_step q pipe qs false is e more = behind q pipe qs (more e)

-- the test is right
pub carried : (qs : List Pipe) (pipe : Pipe) → carries qs pipe ≡ true → Contains qs pipe
carried [] pipe e = absurd cc
carried (q ∷ qs) pipe e = carried_step q pipe qs (place q == place pipe) refl e (carried qs pipe)

-- a later test may be the one that is true
pub any_or : (a b : Bool) → b ≡ true → (a || b) ≡ true
any_or true b e = refl
any_or false b e = e

pub carrying : (qs : List Pipe) (pipe : Pipe) → Contains qs pipe → carries qs pipe ≡ true
carrying [] pipe h = absurd (in_none pipe h)
carrying (q ∷ qs) pipe h =
    elim (which q pipe qs h) [
      | inl same ↦ rw (eq-eqb (place q) (place pipe) (ap place same)) refl
      | inr more ↦ any_or (place q == place pipe) (carries qs pipe) (carrying qs pipe more)
    ]

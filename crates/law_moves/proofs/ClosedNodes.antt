-- how bytes are cut, and nodes that closed
use Rattle.law_order.proofs.Vocabulary.{◌≡◌, ℕ, List, [], ◌∷◌, ◌++◌, take, drop, cond, Bool, true, false, refl}
use Rattle.rh_line.specs.declared.state.Verdict.TheVariants as verdict
use Rattle.rh_shell.specs.Shells.{drawn}
use Rattle.law_moves.proofs.Vocabulary.{Leg, Cause, Course, Going, Closed, Refusing, Rules, Turn, hear, hear_byte, Shell, same_leg, bytes, ended, broken, tick, ClosedWith, Stays}

pub hear_cut : {S : Type 0} (rules : Rules S) (now : ℕ) (t : Turn S) (xs ys : List ℕ)
    → hear rules now t (xs ++ ys) ≡ hear rules now (hear rules now t xs) ys
unfolding hear
hear_cut rules now t [] ys = refl
hear_cut rules now t (x ∷ xs) ys = hear_cut rules now (hear_byte rules now t x) xs ys

module _ {S : Type 0} (rules : Rules S) (s : Shell S) (why : Cause) where
  closed_bytes : (course : Course) → s.course ≡ course → ClosedWith why course → (leg : Leg)
      (piece : List ℕ) → bytes rules s leg piece ≡ (s, verdict.Closed why)
  closed_bytes Going is h leg piece = absurd h
  closed_bytes (Closed first) is h leg piece = rw (is, h) refl
  closed_bytes (Refusing first client rest) is h leg piece = rw (is, h) refl

  closed_ended : (course : Course) → s.course ≡ course → ClosedWith why course → (leg : Leg)
      → ended rules s leg ≡ (s, verdict.Closed why)
  closed_ended Going is h leg = absurd h
  closed_ended (Closed first) is h leg = rw (is, h) refl
  closed_ended (Refusing first client rest) is h leg = rw (is, h) refl

  closed_broken : (course : Course) → s.course ≡ course → ClosedWith why course → (leg : Leg)
      → broken rules s leg ≡ (s, verdict.Closed why)
  closed_broken Going is h leg = absurd h
  closed_broken (Closed first) is h leg = rw (is, h) refl
  closed_broken (Refusing first client rest) is h leg = rw (is, h) refl

  closed_tick : (course : Course) → s.course ≡ course → ClosedWith why course → (now : ℕ)
      → tick rules s now ≡ (s, verdict.Closed why)
  closed_tick Going is h now = absurd h
  closed_tick (Closed first) is h now = rw (is, h) refl
  closed_tick (Refusing first client rest) is h now = rw (is, h) refl

  -- the rest of a refusal is drawn, or nothing
  rest_kept : (first : Cause) (client : Leg) (rest : List ℕ) (room : ℕ) → first ≡ why
      → (b : Bool) → ClosedWith why (cond {A = Shell S × List ℕ} b
      (record s { course = Refusing first client (drop room rest) }, take room rest)
      (record s { course = Refusing first client rest }, [])).0.course
  rest_kept first client rest room h true = h
  rest_kept first client rest room h false = h

  closed_draw : (course : Course) → s.course ≡ course → ClosedWith why course → (leg : Leg)
      (room : ℕ) → ClosedWith why (drawn rules s leg room).0.course
  closed_draw Going is h leg room = absurd h
  closed_draw (Closed first) is h leg room = rw is h
  closed_draw (Refusing first client rest) is h leg room =
      rw is (rest_kept first client rest room h (same_leg client leg))

  pub stays : ClosedWith why s.course → Stays rules s why
  stays h = record {
    bytes = closed_bytes s.course refl h;
    ended = closed_ended s.course refl h;
    broken = closed_broken s.course refl h;
    tick = closed_tick s.course refl h;
    draw = closed_draw s.course refl h;
  }

-- what reads move
use Rattle.std.proofs.Common.{◌≡◌, ℕ, ◌+◌, ◌≤◌, List, ◌++◌, None, Some, length, take, drop, append-nil, arith, ◌∙◌, sym, ap}
use Rattle.std.proofs.lemmas.List.{take_at, take-append-drop, drop-drop, length-take-le, length-drop}
use Rattle.std.proofs.KnownBytes.{Consumes-trans, Consumes-kept, Appends-trans, Appends-kept, Keeps-trans}
use Rattle.std.specs.declared.option.Option.{Option}
use Rattle.std.specs.Io.KnownBytes.{IsAtEnd}
use Rattle.rh_io.specs.Bytes.{Moves, Stays}
use Rattle.rh_io.proofs.Written.{take-further}

-- the next n bytes of xs
pub moved_next : (xs room moved : List ℕ) (p n : ℕ) → p + n ≤ length xs → moved ≡ take n (drop p xs)
    → Moves (Some (drop p xs)) (Some (drop (p + n) xs)) (Some (take p xs)) (Some (take (p + n) xs))
    (take n (moved ++ drop n room))
moved_next xs room moved p n fits e =
    let long : n ≤ length (drop p xs) = omega (arith, length-drop p xs) in
    let size : length moved ≡ n = ap length e ∙ length-take-le n (drop p xs) long in
    let same : take n (moved ++ drop n room) ≡ take n (drop p xs) =
    take_at moved (drop n room) n size ∙ e in
    record {
      from = sym (take-append-drop n (drop p xs))
          ∙ ap (λ ys. take n (drop p xs) ++ ys) (drop-drop n p xs)
          ∙ ap (λ ys. ys ++ drop (p + n) xs) (sym same);
      to = take-further p n xs ∙ ap (λ ys. take p xs ++ ys) (sym same);
    }

-- ---- one call after another

-- one read after another
pub Moves-more : (a b c x y z : Option (List ℕ)) (bs cs : List ℕ)
    → Moves a b x y bs → Moves b c y z cs → Moves a c x z (bs ++ cs)
Moves-more a b c x y z bs cs h k =
    record {
      from = Consumes-trans a b c bs cs h.from k.from;
      to = Appends-trans x y z bs cs h.to k.to;
    }

-- a failed read after another
pub Stays-more : (a b c x y z : Option (List ℕ)) → Stays a b x y → Stays b c y z → Stays a c x z
Stays-more a b c x y z h k =
    record {
      same_left = Keeps-trans a b c h.same_left k.same_left;
      same_read = Keeps-trans x y z h.same_read k.same_read;
    }

-- a failed read after one that gave bytes
pub Moves-kept : (a b c x y z : Option (List ℕ)) (bs : List ℕ)
    → Moves a b x y bs → Stays b c y z → Moves a c x z bs
Moves-kept a b c x y z bs h k =
    record {
      from = Consumes-kept a b c bs h.from k.same_left;
      to = Appends-kept x y z bs h.to k.same_read;
    }

-- what came until the source was at its end is all that it had
pub Moves-whole : (all bs : List ℕ) (next x y : Option (List ℕ))
    → Moves (Some all) next x y bs → IsAtEnd next → bs ≡ all
Moves-whole all bs None x y h end = absurd h.from
Moves-whole all bs (Some rest) x y h end =
    sym (append-nil bs) ∙ ap (λ ys. bs ++ ys) (sym end) ∙ sym h.from

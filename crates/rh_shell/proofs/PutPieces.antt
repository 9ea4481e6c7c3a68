-- a piece that is put behind what is held
use Rattle.std.proofs.Common.{◌≡◌, ℕ, ◌+◌, ◌-◌, ◌≤◌, List, ◌++◌, take, length, min, arith, sym, ◌∙◌, ap}
use borrow.Rule.Slice.PartMut.{put_mid}
use Rattle.std.proofs.lemmas.List.{length-take-le}
use Rattle.std.proofs.lemmas.Slice.{take-put_mid}

pub put_behind : (held n k : ℕ) (room new piece : List ℕ) → held ≤ length room
    → n ≡ min (length room - held) (length piece) → new ≡ take n piece
    → take (held + n) (put_mid held k room new) ≡ take held room ++ take n piece
put_behind held n k room new piece within count is =
    let long : length new ≡ n =
    ap (λ (x : List ℕ). length x) is ∙ length-take-le n piece (omega (arith, count)) in
    take-put_mid held k room new (held + n) (ap (λ (m : ℕ). held + m) (sym long)) within
    ∙ ap (λ (x : List ℕ). take held room ++ x) is

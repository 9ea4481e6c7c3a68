-- what is read behind what a room holds
use Rattle.std.proofs.Common.{◌≡◌, ℕ, ◌+◌, ◌≤◌, List, ◌++◌, take, length, ap, sym, ◌∙◌}
use borrow.Rule.Slice.PartMut.{post_of, put_mid}
use Rattle.std.proofs.lemmas.List.{length-take-le, take-append-le}
use Rattle.std.proofs.Math.Seq.{take-append-add}

pub front-more : (held count k : ℕ) (room came : List ℕ) → held ≤ length room → count ≤ length came
    → take (held + count) (put_mid held k room came) ≡ take held room ++ take count came
front-more held count k room came within fits =
    let front = take held room in
    let more = came ++ post_of held k room in
    ap (λ (n : ℕ). take (n + count) (front ++ more)) (sym (length-take-le held room within))
    ∙ take-append-add front more count
    ∙ ap (λ (l : List ℕ). front ++ l) (take-append-le count came (post_of held k room) fits)

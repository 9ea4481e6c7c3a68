-- cookies are the same by a test
use Rattle.std.specs.Prelude.{bytes_eq}
use Rattle.law_order.proofs.Vocabulary.{◌≡◌, Bool, true, List, ℕ, ap, bytes_eq-Decides}
use Rattle.law_moves.proofs.Vocabulary.{Cookie}

abbrev pub is_same : Cookie → Cookie → Bool
is_same a b = bytes_eq a.0 b.0

pub same_cookie : (a b : Cookie) → is_same a b ≡ true → a ≡ b
same_cookie a b e =
    let of : List ℕ → Cookie = λ bytes. record { 0 = bytes } in
    ap of ((bytes_eq-Decides a.0 b.0).0 e)

pub cookie_same : (a b : Cookie) → a ≡ b → is_same a b ≡ true
cookie_same a b e = (bytes_eq-Decides a.0 b.0).1 (ap (λ (c : Cookie). c.0) e)

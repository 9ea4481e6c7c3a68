-- the further names of a packet, from a place on
use Rattle.std.proofs.Common.{◌≡◌, ◌++◌, ◌+◌, ◌<◌, ℕ, suc, List, drop, get_or, length, codes, ap, arith}
use Rattle.std.proofs.Math.Seq.{drop-cons}
use Rattle.rh_sig.specs.declared.name.Name.{Name}
use Rattle.rh_name.specs.Words.{name_word}
use Rattle.rh_name.specs.Telling.{others_text}

pub others_from : (names : List Name) (i : ℕ) (or : Name) → i < length names
    → others_text (drop i names)
    ≡ (codes " or " ++ name_word (get_or names i or)) ++ others_text (drop (i + 1) names)
others_from names i or within =
    let next : i + 1 ≡ suc i = omega arith in
    rw next (ap others_text (drop-cons names i or within))

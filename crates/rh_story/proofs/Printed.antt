-- the printed bytes at a front
use Rattle.std.proofs.Common.{◌≡◌, ◌≤◌, ◌<◌, ℕ, true, List, take, length, get_or, IsAscii, subst, sym, ⊎_elim, arith}
use Rattle.std.specs.List.{prefix_len}
use Rattle.std.proofs.lemmas.List.{get_or-take, get_or_past}
use Rattle.std.proofs.lemmas.List.Folds.{length-prefix_len}
use Rattle.std.proofs.lemmas.Bool.{cases_lt}
use Rattle.std.proofs.lemmas.List.Sums.{prefix_len-le-length, prefix_len_passes}
use Rattle.std.proofs.lemmas.Bool.Decides.{nat_tests}
use Rattle.rh_story.specs.Brief.{is_printed}

pub most_printed : (b : List ℕ) → prefix_len is_printed b ≤ length b
most_printed b = prefix_len-le-length is_printed b

is_ascii : (b : ℕ) → is_printed b ≡ true → b < 128
is_ascii b h = grind (arith, nat_tests, h)

pub printed_ascii : (b : List ℕ) → IsAscii (take (prefix_len is_printed b) b)
printed_ascii b i =
    ⊎_elim
    (λ below. subst (λ (x : ℕ). x < 128) (sym (get_or-take (prefix_len is_printed b) b i 0 below))
    (is_ascii (get_or b i 0) (prefix_len_passes is_printed b i 0 below)))
    (λ above. let size = length-prefix_len is_printed b in
    subst (λ (x : ℕ). x < 128)
    (sym (get_or_past (take (prefix_len is_printed b) b) i 0 (omega (arith, size, above))))
    (omega arith))
    (cases_lt i (prefix_len is_printed b))

-- a text that comes from an input
use Rattle.std.proofs.Common.{◌≡◌, ℕ, List, ◌++◌, sym, ◌∙◌, ap, Some, None}
use Rattle.std.proofs.lemmas.List.{append-nil}
use Rattle.std.specs.declared.option.Option.{Option}
use Rattle.std.specs.Io.KnownBytes.{Consumes, IsAtEnd}

-- where an input held a text and is at its end, that text came
pub all_came : (left after : Option (List ℕ)) (text came : List ℕ) → left ≡ Some text
    → Consumes left after came
    → IsAtEnd after → came ≡ text
all_came None after text came is from over = cc
all_came (Some held) None text came is from over = absurd from
all_came (Some held) (Some rest) text came is from over =
    let same : held ≡ text = cc in
    sym (sym same ∙ from ∙ ap (λ x. came ++ x) over ∙ append-nil came)

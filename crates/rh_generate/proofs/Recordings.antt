-- a generated recording, made PDU by PDU
use Rattle.std.proofs.Common.{◌≡◌, ℕ, ◌+◌, [], ◌∷◌, true, refl, ◌∙◌, ap, add-one}
use Rattle.rh_record.specs.declared.line.Line.TheVariants.{First}
use Rattle.rh_made.specs.Making.{ending, front, turn}
use Rattle.rh_generate.specs.Steps.{Made, do_all, made_by}
use Rattle.rh_generate.specs.Summaries.{summary, summary_of}
use Rattle.rh_generate.proofs.Steps.{all_more}

pub begun : (n : ℕ) → made_by (First true ∷ []) ≡ made_by (front n 0)
unfolding front
begun n = refl

pub one_turn : (n i : ℕ) (made : Made) → made ≡ made_by (front n i)
    → do_all made (turn n (i + 1)) ≡ made_by (front n (i + 1))
unfolding front
one_turn n i made is =
    ap (λ (m : Made). do_all m (turn n (i + 1))) is
    ∙ all_more (front n i) (turn n (i + 1))
    ∙ rw (add-one i) refl

pub summed : (n : ℕ) (made : Made) → made ≡ made_by (front n n)
    → summary_of (do_all made ending) ≡ summary n
unfolding made_by
summed n made is =
    ap (λ (m : Made). summary_of (do_all m ending)) is
    ∙ ap summary_of (all_more (front n n) ending)

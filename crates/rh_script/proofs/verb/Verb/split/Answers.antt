use Rattle.rh_record.specs.WordLaws.{one_cut}
use Rattle.rh_script.proofs.verb.Verb.split.Goals as goal

pub returns-in_err-verb : goal.returns-in_err-verb
returns-in_err-verb c =
    rw c.from_residual-in_err-verb.ensures (λ verb words cut.
    c.in_err-verb.ensures verb
    (one_cut c.args.text.now _ _ _ _ c.in_ok-word.ensures cut).0)

use Rattle.rh_record.specs.WordLaws.{behind}
use Rattle.rh_script.proofs.reading.read_setting.Goals as goal

pub returns-in_err-key-2 : goal.returns-in_err-key-2
returns-in_err-key-2 c =
    rw c.from_residual-in_err-key-2.ensures (λ key value h.
    c.in_err-key-2.ensures key (behind c.args.text.now _ _ c.in_ok-key.ensures h).0)

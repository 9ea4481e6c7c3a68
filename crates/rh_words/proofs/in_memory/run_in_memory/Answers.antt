-- neither end of the run fails
use Rattle.rh_words.specs.declared.help.TheConstants.{HELP}
use Rattle.rh_words.specs.declared.running.TheConstants.{VERSION}
use Rattle.rh_words.proofs.Memory.{ran_in_memory}
use Rattle.rh_words.proofs.in_memory.run_in_memory.Goals as goal

pub returns-clause-ran : goal.returns-clause-ran
returns-clause-ran c = λ form is fits.
    let sink = c.in_ok-output.ensures in
    ran_in_memory HELP.now VERSION.now _ form c.run-status.result _ _ c.args.bytes.items
    (c.run-status.ensures.ran form is) (c.new-input.ensures.unfailing c.new.ensures.items)
    c.new-input.ensures.left sink.written
    (λ whole says. rw (sink.takes c.new-2.ensures.items) (fits whole says))

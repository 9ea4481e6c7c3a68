use Rattle.law_moves.proofs.ReadBack.PutsWell.{head_well, head_and_frame, greeting_well}
use Rattle.law_moves.proofs.reading.well.texts_read_well.Goals as goal

pub returns-clause-head : goal.returns-clause-head
returns-clause-head c = λ well pipe text first is. head_well well pipe text first is

pub returns-clause-frame : goal.returns-clause-frame
returns-clause-frame c = λ well pipe text frame first is is_frame fits.
    head_and_frame well pipe text frame first is is_frame fits

pub returns-clause-greeting : goal.returns-clause-greeting
returns-clause-greeting c = λ well pipe first.
    greeting_well well pipe first c.texts_are_whole.ensures.greeting

use Rattle.rh_story.proofs.Cutting.{held_append, items_append}
use Rattle.rh_story.proofs.laws.cut_anywhere.Goals as goal

pub returns-clause-items : goal.returns-clause-items
returns-clause-items c = items_append

pub returns-clause-held : goal.returns-clause-held
returns-clause-held c = held_append

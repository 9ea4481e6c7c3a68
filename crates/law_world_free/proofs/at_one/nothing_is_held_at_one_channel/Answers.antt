use Rattle.law_world_free.proofs.AtOne.{hold_none}
use Rattle.law_world_free.proofs.at_one.nothing_is_held_at_one_channel.Goals as goal

pub returns : goal.returns
returns c = hold_none

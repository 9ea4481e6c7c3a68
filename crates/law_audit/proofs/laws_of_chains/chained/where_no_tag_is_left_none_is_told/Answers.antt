use Rattle.law_audit.proofs.Chains.NoneLeft.{none_told}
use Rattle.law_audit.proofs.laws_of_chains.chained.where_no_tag_is_left_none_is_told.Goals as goal

pub returns : goal.returns
returns c seen tags none = none_told seen tags none

use Rattle.rh_record.proofs.LineLaws.{cut_verb}
use Rattle.rh_record.proofs.verb.Verb.split.Goals as goal

pub returns-in-Some : goal.returns-in-Some
returns-in-Some c = cut_verb _ c.args.text.now _ c.in-Some.ensures

use Rattle.std.proofs.Common.{◌≡◌, ◌∙◌, sym, true, false}
use Rattle.rh_record.specs.WordLaws.{behind}
use Rattle.rh_audit.proofs.reading.split_seen.Goals as goal

pub returns-else-is_verb : goal.returns-else-is_verb
returns-else-is_verb c = λ rest h.
    let same = (behind c.args.text.now _ _ c.in_ok-verb.ensures h).0 in
    let both : false ≡ true = sym c.if-is_verb.false ∙ c.is_verb.ensures.1 same in cc

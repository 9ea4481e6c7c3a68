use Rattle.std.proofs.lemmas.Str.{IsUtf8-append}
use Rattle.rh_text.proofs.writing.gather_two.Goals as goal

pub returns-clause-utf8 : goal.returns-clause-utf8
returns-clause-utf8 c =
    IsUtf8-append _ _ c.in_ok-middle.ensures.utf8 c.in_ok-end.ensures.utf8

use Rattle.std.proofs.Common.{◌≡◌, ◌∙◌, sym, true, false}
use Rattle.rh_record.specs.WordLaws.{behind}
use Rattle.rh_record.proofs.reading.read_form.Goals as goal

pub returns-in_err-roles : goal.returns-in_err-roles
returns-in_err-roles c =
    rw c.from_residual-in_err-roles.ensures (λ roles h.
    c.in_err-roles.ensures roles (behind c.args.text.now _ _ c.in_ok-version.ensures h).1)

pub returns-else-is_version : goal.returns-else-is_version
returns-else-is_version c = λ roles h.
    let same = (behind c.args.text.now _ _ c.in_ok-version.ensures h).0 in
    let both : false ≡ true = sym c.if-is_version.false ∙ c.is_version.ensures.1 same in cc

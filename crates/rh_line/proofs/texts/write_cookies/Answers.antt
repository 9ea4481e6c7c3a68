use Rattle.std.proofs.lemmas.Result.{err_from_is_err_and}
use Rattle.rh_sig.specs.Cookies.{text_of_cookie}
use Rattle.rh_text.proofs.Appending.{writes_one}
use Rattle.rh_line.specs.Texts.{word}
use Rattle.rh_line.proofs.texts.write_cookies.Goals as goal

pub returns-in_err-write_cookie : goal.returns-in_err-write_cookie
returns-in_err-write_cookie c =
    let p = err_from_is_err_and c.from_residual.result c.from_residual.ensures.1 in
    rw (p.1) (writes_one (word (text_of_cookie c.args.one.now.0))
    (word (text_of_cookie c.args.two.now.0)) p.0 _ _ c.in_err-write_cookie.ensures)

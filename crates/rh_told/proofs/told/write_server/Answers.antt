use Rattle.std.proofs.Common.{ℕ, List, ◌++◌, Err, codes, string_bytes, ◌∙◌, ap}
use Rattle.std.specs.Fmt.{decimal}
use Rattle.std.proofs.lemmas.Result.{err_from_is_err_and}
use Rattle.rh_text.proofs.Appending.{writes_both, writes_one}
use Rattle.rh_told.proofs.Telling.{as_text}
use Rattle.rh_told.proofs.told.write_server.Goals as goal

pub returns-in_err-push_ascii : goal.returns-in_err-push_ascii
returns-in_err-push_ascii c =
    let p = err_from_is_err_and c.from_residual.result c.from_residual.ensures.1 in
    let before = string_bytes c.args.out.now in
    let middle = string_bytes c.push_ascii.new.out in
    rw p.1 (writes_one c.args.target.now.0
    (codes " " ++ (decimal c.args.target.now.1 ++ codes "\n")) p.0 before middle
    (as_text c.host.result.now c.args.target.now.0 (Err p.0) before middle c.host.ensures.text
    c.in_err-push_ascii.ensures))

pub returns : goal.returns
returns c =
    let before = string_bytes c.args.out.now in
    let middle = string_bytes c.push_ascii.new.out in
    let after = string_bytes c.write_parts.new.out in
    let port = c.from.ensures ∙ c.port.ensures in
    writes_both c.args.target.now.0 (codes " " ++ (decimal c.args.target.now.1 ++ codes "\n"))
    c.write_parts.result before middle after
    (c.in_ok-push_ascii.ensures ∙ ap (λ (x : List ℕ). before ++ x) c.host.ensures.text)
    (as_text _ _ c.write_parts.result middle after
    (ap (λ (n : ℕ). codes " " ++ (decimal n ++ codes "\n")) port) c.write_parts.ensures)

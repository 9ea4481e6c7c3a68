use Rattle.std.proofs.Common.{List, ℕ, subst}
use Rattle.rh_http.specs.Texts.{Writes}
use Rattle.rh_http.proofs.TextLemmas.{request_parts}
use Rattle.rh_http.proofs.writing.write_texts.Goals as goal

pub returns : goal.returns
returns c =
    let P : List ℕ
    → Type 0 =
    λ text. Writes text c.args.room.now c.write_pieces.new.room c.write_pieces.result in
    subst P
    (request_parts c.args.method.now c.args.host.now c.args.port.now c.args.proxy.now
    c.args.digits.now)
    c.write_pieces.ensures

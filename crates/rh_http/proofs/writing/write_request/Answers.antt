use Rattle.std.proofs.Common.{◌≤◌, List, ℕ, length, sym, ◌∙◌, subst}
use Rattle.rh_http.specs.Texts.{Writes, request_text}
use Rattle.rh_http.proofs.TextLemmas.{method_short, same_lines}
use Rattle.rh_http.proofs.writing.write_request.Goals as goal

pub write_texts-requires-clause-method : goal.write_texts-requires-clause-method
write_texts-requires-clause-method c =
    let P : List ℕ → Type 0 = λ text. length text ≤ 12 in
    subst P (sym c.method.ensures) (method_short c.args.inbound)

pub returns : goal.returns
unfolding request_text
returns c =
    let P : List ℕ
    → Type 0 =
    λ text. Writes text c.args.room.now c.write_texts.new.room c.write_texts.result in
    subst P (
    same_lines c.method.result.now _ c.text.result.now _ c.as_bytes.result.now _ c.text-2.result.now
    _
    c.as_bytes-2.result.now _ c.method.ensures c.text.ensures.text (c.as_bytes.ensures.value
    ∙ c.format.ensures.text)
    c.text-2.ensures.text (c.as_bytes-2.ensures.value ∙ c.format-2.ensures.text)
    ) c.write_texts.ensures

-- where the output failed, a front of what the audit tells was written
use Rattle.std.proofs.Common.{ℕ, List, sym, ◌∙◌, subst, take, drop, string_bytes}
use Rattle.std.proofs.Math.ListN.{take-append-drop}
use Rattle.rh_packet_words.specs.Audit.{IsAudited}
use Rattle.rh_packet_words.proofs.audit.answer_audit.Goals as goal

pub returns-clause-answers : goal.returns-clause-answers
returns-clause-answers g c =
    let came = c.in-Ok.ensures.came in
    let wrote = c.in-Err.ensures.err in
    let piece = c.as_bytes.result.now in
    let is = c.deref.ensures.value ∙ came.2.0 in
    let cut = sym c.as_bytes.ensures.value ∙ sym (take-append-drop wrote.0 piece) in
    let said = subst (λ (x : List ℕ). IsAudited x (string_bytes c.in-Ok-audited.told)) is
    c.in-Ok-audited.ensures.says in (
      came.0,
      take wrote.0 piece,
      came.1,
      wrote.2,
      (
        came.2.1,
        c.in-Ok.ensures.ok.1,
        (drop wrote.0 piece, subst (λ (x : List ℕ). IsAudited came.0 x) cut said),
      ),
    )

-- what was written is a front of the text
use Rattle.std.proofs.Common.{refl, sym, ◌∙◌, take, drop, inr}
use Rattle.std.proofs.lemmas.List.{take-append-drop}
use Rattle.rh_words.proofs.telling.tell.Goals as goal

pub returns-in-Err : goal.returns-in-Err
returns-in-Err g c =
    let bytes = c.as_bytes.result.now in
    let came = c.in-Err.ensures in
    record {
      written = take came.err.0 bytes;
      behind = drop came.err.0 bytes;
      wrote = came.err.2;
      front = sym c.as_bytes.ensures.value ∙ sym (take-append-drop came.err.0 bytes);
      ended = inr (refl, came.failed);
      sure = λ fits. let ok = came.takes (rw c.as_bytes.ensures.value fits) in cc;
    }

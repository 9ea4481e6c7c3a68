use Rattle.std.proofs.Common.{List, ℕ, sym, ap, ◌∙◌}
use Rattle.rh_http.specs.Lengths.{is_content_length}
use Rattle.rh_http.proofs.Founds.{found_again}
use Rattle.rh_http.proofs.lengths.find_lengths.Goals as goal

pub returns-then-is_some : goal.returns-then-is_some
returns-then-is_some c =
    found_again c.args.head.now c.args.fields.now c.loop-field.field-index _ c.loop-field.found
    c.loop-field-test.true
    (ap (λ (x : List ℕ). is_content_length x) (sym c.of.ensures)
    ∙ sym c.if-is_content_length.ensures)
    c.if-is_some.ensures c.loop-field.invariant

use Rattle.std.proofs.Common.{sym, ◌∙◌, arith}
use Rattle.std.proofs.lemmas.List.Sums.{AllPass-from_list_all, list_all-from_AllPass}
use Rattle.std.proofs.lemmas.Bool.Decides.{nat_tests}
use Rattle.hex.specs.Hex.{is_hex_digit}
use Rattle.rh_text.proofs.HexReading.{hex_size, hex_of_digits}
use Rattle.rh_text.proofs.digits.is_hex.Goals as goal
use Rattle.rh_text.proofs.digits.is_hex.Goals.{then-is_empty-via-then-is_empty, then-is_empty-via-else-is_empty+then-text-ne0, then-is_empty-via-else-is_empty+else-text-ne0+then-text-most}

pub returns-then-is_empty : goal.returns-then-is_empty
returns-then-is_empty c = (
  λ h. absurd (let no = h in cc),
  λ h.
      let size = hex_size c.args.most c.args.text.now h.0 h.1 in
      elim c.then-is_empty.branch [
        | then-is_empty-via-then-is_empty w ↦
            absurd (grind (arith, nat_tests, c.is_empty.ensures, w.if-is_empty, size.0, size.1))
        | then-is_empty-via-else-is_empty+then-text-ne0 w ↦
            absurd (grind (arith, nat_tests, w.if-text-ne0, size.0))
        | then-is_empty-via-else-is_empty+else-text-ne0+then-text-most w ↦
            absurd (grind (arith, nat_tests, w.if-text-most, size.0, size.2))
      ],
)

pub returns : goal.returns
returns c =
    let text = c.args.text.now in (
      λ all. hex_of_digits c.args.most text (grind (arith, nat_tests)) (omega arith) (omega arith)
          (AllPass-from_list_all is_hex_digit text (sym c.are_digits.ensures ∙ all)),
      λ h. c.are_digits.ensures
          ∙ list_all-from_AllPass is_hex_digit text (hex_size c.args.most text h.0 h.1).3,
    )

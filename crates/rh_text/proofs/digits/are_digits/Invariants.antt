-- the digits before a place are judged, and those from it on are left
use Rattle.std.proofs.Common.{◌≡◌, ◌&&◌, drop}
use Rattle.std.specs.List.{list_all}
use Rattle.hex.specs.Hex.{is_hex_digit}
use Rattle.rh_text.proofs.digits.are_digits.Given as goal

abbrev pub invariant-loop-digit : goal.invariant-loop-digit
invariant-loop-digit l =
    list_all is_hex_digit l.text ≡ (l.all && list_all is_hex_digit (drop l.digit-index l.text))

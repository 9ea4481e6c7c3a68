-- which requests ask for no echo (MS-RPCH 2.1.2)
use Rattle.std.specs.Prelude.{◌≡◌, true, false, nat_le, Ok}
use Rattle.rh_http.specs.Heads.Verdicts.{Asked, request_verdict}
use Rattle.rh_line.specs.declared.leg.Leg.{Leg}
use Rattle.rh_shell.specs.Shells.{same_leg}
use Rattle.rh_inproxy.specs.declared.opening.TheConstants.{ECHO_LENGTH}
use Rattle.law_moves.specs.Moves.{Move, HeadCame}

-- if a head came on the leg by the move and asks something of an in proxy, it is no echo
abbrev pub AsksNoEcho : Leg → Move → Type 0
AsksNoEcho leg (HeadCame other text) =
    same_leg other leg ≡ true → (asked : Asked) → request_verdict true text ≡ Ok asked
    → nat_le asked.length ECHO_LENGTH ≡ false
AsksNoEcho leg move = Unit {0}

-- legs of which the end only marks them (profile)
use Rattle.std.specs.Prelude.{◌≡◌, ◌||◌, List, Bool, true}
use Rattle.law_order.specs.Items.{Item, has_end, has_handover}
use Rattle.rh_line.specs.declared.leg.Leg.{Leg}
use Rattle.rh_shell.specs.Rules.{Rules}
use Rattle.law_moves.specs.Moves.{is_in_use}

-- while the role has use for the leg, it goes on where that is lost
abbrev pub OnlyMarks : {S : Type 0} → Rules S → S → Leg → Type 0
OnlyMarks rules s leg = is_in_use rules s leg ≡ true → rules.only_marks s leg ≡ true

-- the handover mark stands there, or END
abbrev pub has_passed : List Item → Bool
has_passed items = has_handover items || has_end items

-- an in proxy has room for what it forwards (profile)
use Rattle.std.specs.Prelude.{◌≡◌, ◌≤◌, Err}
use Rattle.rh_sig.specs.declared.named.Named.{Named}
use Rattle.rh_line.specs.declared.leg.Leg.{Leg}
use Rattle.rh_shell.specs.declared.answers.Count.{Count}
use Rattle.rh_shell.specs.declared.answers.Refused.TheVariants as refused
use Rattle.rh_shell.specs.declared.due.Origin.TheVariants.{Forwarded}
use Rattle.rh_shell.specs.Waiting.{count}
use Rattle.rh_inproxy.specs.Machine.{rules}
use Rattle.rh_inproxy.specs.State.{InProxy}
use Rattle.law_moves.specs.Moves.{Passage}

-- so many wait at most: OUT_R1/A8 once, and acknowledgements of nine OUT channels, and of none
abbrev pub FewWait : Passage InProxy → Type 0
FewWait p = count Forwarded p.role.waiting.due ≤ 11

-- no row refuses a packet for too little room
abbrev pub HasRoom : Passage InProxy → Type 0
HasRoom p =
    (leg : Leg) (count : Count) (named : Named) (full : Leg)
    → (rules.packet p.role leg count named).1 ≡ Err (refused.Full full) → ⊥

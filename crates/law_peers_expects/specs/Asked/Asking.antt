-- what an out proxy is asked for, and what it puts to its client where that is no echo (MS-RPCH
-- 2.1.2, 2.2.4; successors are this profile's)
use Rattle.std.specs.Prelude.{◌≡◌, ◌⊎◌, List, [], false, true, nat_le, Ok}
use Rattle.rh_http.specs.Lengths.{greatest_echo}
use Rattle.rh_http.specs.Heads.Verdicts.{Asked, request_verdict}
use Rattle.rh_line.specs.declared.leg.Leg.{Leg}
use Rattle.rh_shell.specs.Rules.{Message}
use Rattle.rh_shell.specs.Shells.{same_leg}
use Rattle.rh_outproxy.specs.declared.state.OutProxyConfig.{OutProxyConfig}
use Rattle.rh_outproxy.specs.OutProxy.{OutProxy}
use Rattle.law_moves.specs.Moves.{Move, HeadCame, Passage}
use Rattle.law_moves.specs.Wires.{of_leg}
use Rattle.law_moves.specs.Passages.Passing.{HasOne}
use Rattle.law_role_outproxy.specs.Counted.{co_leg, os_leg}
use Rattle.law_role_outproxy.specs.Putting.{OpensNew, OpensSuccessor, IsNew, IsSuccessor}

-- if a head came on the leg by the move and asks something of an out proxy, it is no echo
abbrev pub AsksNoEcho : Leg → Move → Type 0
AsksNoEcho leg (HeadCame other text) =
    same_leg other leg ≡ true → (asked : Asked) → request_verdict false text ≡ Ok asked
    → nat_le asked.length greatest_echo ≡ false
AsksNoEcho leg move = Unit {0}

-- nothing, or a front of what a new channel or a successor puts, by what came first from the client
abbrev pub IsServed : OutProxyConfig → List Message → List Message → List Message → Type 0
IsServed config asked came put =
    (put ≡ []) ⊎ ((HasOne OpensNew asked × IsNew config came put)
    ⊎ (HasOne OpensSuccessor asked × IsSuccessor config came put))

abbrev pub ServesClient : OutProxyConfig → Passage OutProxy → Type 0
ServesClient config p =
    IsServed config (of_leg (co_leg config.number) p.came)
    (of_leg (os_leg config.number) p.came) (of_leg (co_leg config.number) p.put)

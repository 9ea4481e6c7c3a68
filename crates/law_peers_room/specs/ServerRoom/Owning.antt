-- the acknowledgements to out proxies that wait at a server are for channels of its os legs
-- (MS-RPCH 3.2.1)
use Rattle.std.specs.Prelude.{ℕ, ◌+◌, ◌≤◌, ◌==◌, ◌&&◌, count_by}
use Rattle.rh_rts.specs.declared.command.TheConstants.{TO_OUT_PROXY}
use Rattle.rh_server.specs.declared.state.OutLeg.{OutLeg}
use Rattle.rh_server.specs.Acknowledging.{elsewhere, has_ack_by}
use Rattle.rh_server.specs.States.{Server}
use Rattle.law_role_server.specs.Counted.Counting.{is_ack_to, waits_for}

-- legs of the writing channel's number for whose channel one waits
abbrev pub on_writing : Server → ℕ
on_writing s =
    count_by (λ (leg : OutLeg). (leg.number == s.writing) && has_ack_by s.waiting leg.cookie) s.outs

-- no more wait than there are such legs, of which one at most, and others for whose channel one
-- waits
pub record AcksHaveLegs (s : Server) : Type 0 where
  pub legs : waits_for (is_ack_to TO_OUT_PROXY) s ≤ elsewhere s + on_writing s
  pub one : on_writing s ≤ 1

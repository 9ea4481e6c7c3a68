-- when a client is open, and what it did before (MS-RPCH 3.2.2.5)
use Rattle.std.specs.Prelude.{ℕ, ◌≡◌, ◌≤◌, true, false}
use Rattle.std.specs.List.{AllByRecursion}
use Rattle.rh_line.specs.declared.leg.LegKind.TheVariants.{ClientIn, ClientOut}
use Rattle.rh_shell.specs.Rules.{Message}
use Rattle.rh_client.specs.declared.state.ClientRole.{ClientRole}
use Rattle.rh_client.specs.State.{is_opening}
use Rattle.law_moves.specs.Moves.{Passage}
use Rattle.law_moves.specs.Passages.Passing.{of_kind}
use Rattle.law_role_client.specs.Counted.Counting.{is_conn_c2, is_greeting, total}
use Rattle.law_role_client.specs.Counted.Replacing.{in_asked, in_answered, in_handed_over, out_wanted, out_asked, out_answered, out_switched, out_finished}

-- CONN/C2 that came
abbrev pub opened : Passage ClientRole → ℕ
opened p = total is_conn_c2 ClientOut p.came

-- no packet of a replacement came or was put, and nothing but greetings was put on IN channels: no
-- RPC PDU, no acknowledgement and no END
pub record IsUnused (p : Passage ClientRole) : Type 0 where
  pub asked_in : in_asked p ≡ 0
  pub answered_in : in_answered p ≡ 0
  pub handed_over : in_handed_over p ≡ 0
  pub wanted_out : out_wanted p ≡ 0
  pub asked_out : out_asked p ≡ 0
  pub answered_out : out_answered p ≡ 0
  pub switched_out : out_switched p ≡ 0
  pub finished_out : out_finished p ≡ 0
  pub greets : AllByRecursion (λ (m : Message). is_greeting m ≡ true) (of_kind ClientIn p.put)

-- CONN/C2 came once where it is open or its work is done
pub record OpensOnce (p : Passage ClientRole) : Type 0 where
  pub once : opened p ≤ 1
  pub before : is_opening p.role.phase ≡ true → opened p ≡ 0
  pub behind : is_opening p.role.phase ≡ false → opened p ≡ 1
  pub unused : opened p ≡ 0 → IsUnused p

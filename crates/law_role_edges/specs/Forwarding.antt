-- what an out proxy passes on to its client of what came from the server (MS-RPCH 3.2.1; the
-- replacement of channels is this profile's)
use Rattle.std.specs.Prelude.{◌≡◌, ◌≢◌, ◌+◌, ◌≤◌, ℕ, max, List, [], ◌∷◌, Bool, false}
use Rattle.rh_rts.specs.declared.command.TheConstants.{TO_OUT_PROXY}
use Rattle.rh_sig.specs.declared.named.Named.{Named}
use Rattle.rh_shell.specs.declared.due.Due.{Due}
use Rattle.rh_shell.specs.Shells.{one_if}
use Rattle.rh_shell.specs.Waiting.{Key}
use Rattle.rh_outproxy.specs.OutProxy.{OutProxy, is_client_marked}
use Rattle.law_moves.specs.Merging.{greatest}
use Rattle.law_moves.specs.Moves.{Passage}
use Rattle.law_moves.specs.Wires.{of_leg}
use Rattle.law_moves.specs.Passages.Passing.{count_of}
use Rattle.law_moves.specs.PacketKinds.{is_conn_c1, is_conn_c2, is_in_r1_a3, is_in_r1_a4, is_in_r2_a3, is_in_r2_a4, is_out_r1_a1, is_out_r1_a2, is_out_r1_a5, is_out_r1_a6}
use Rattle.law_role_outproxy.specs.Sending.{co_leg, os_leg}
use Rattle.law_role_edges.specs.Passing.{greatest_in}

-- the leg from its client was not lost
abbrev pub HasClient : Passage OutProxy → Type 0
HasClient p = is_client_marked p.role.client ≡ false

-- ---- acknowledgements

-- as long as it wasn't: of those that are not for the proxy itself the greatest edge was put, or
-- waits
abbrev pub PassesToClient : Key → Passage OutProxy → Type 0
PassesToClient key p =
    key.destination ≢ TO_OUT_PROXY → HasClient p
    → greatest_in key p.came ≤ max (greatest key p.role.waiting.due) (greatest_in key p.put)

-- ---- other packets

-- how many that wait pass a test
abbrev pub waiting_of : (Named → Bool) → List Due → ℕ
waiting_of test [] = 0
waiting_of test (due ∷ dues) = one_if (test due.packet) + waiting_of test dues

-- of a kind all that came from the server were put to the client, or wait
abbrev pub ArePassed : (Named → Bool) → (Named → Bool) → ℕ → Passage OutProxy → Type 0
ArePassed before after n p =
    count_of before (of_leg (os_leg n) p.came)
    ≡ count_of after (of_leg (co_leg n) p.put) + waiting_of after p.role.waiting.due

pub record PassesAll (n : ℕ) (p : Passage OutProxy) : Type 0 where
  -- CONN/C1 as CONN/C2
  pub connection : ArePassed is_conn_c1 is_conn_c2 n p
  -- IN_R1/A3 as IN_R1/A4, and IN_R2/A3 as IN_R2/A4
  pub in_r1 : ArePassed is_in_r1_a3 is_in_r1_a4 n p
  pub in_r2 : ArePassed is_in_r2_a3 is_in_r2_a4 n p
  -- OUT_R1/A1 as OUT_R1/A2, and OUT_R1/A5 as OUT_R1/A6
  pub wishes : ArePassed is_out_r1_a1 is_out_r1_a2 n p
  pub answers : ArePassed is_out_r1_a5 is_out_r1_a6 n p

abbrev pub ForwardsAll : ℕ → Passage OutProxy → Type 0
ForwardsAll n p = HasClient p → PassesAll n p

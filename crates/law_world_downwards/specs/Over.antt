-- legs that the end nearer the server has finished (profile)
use Rattle.std.specs.Prelude.{◌≡◌, ℕ, true, false}
use Rattle.rh_text.specs.declared.ends.Side.{Side}
use Rattle.rh_text.specs.declared.ends.Dir.TheVariants.{D}
use Rattle.rh_sig.specs.declared.named.Named.TheVariants.{InR1B1}
use Rattle.rh_line.specs.declared.leg.Leg.{Leg}
use Rattle.rh_shell.specs.declared.answers.Phase.TheVariants.{Ended}
use Rattle.rh_server.specs.Servers as server
use Rattle.rh_wires.specs.Legs as legs
use Rattle.rh_company.specs.Company.{Rulebook}
use Rattle.rh_nodes.specs.Settling.{is_finished}
use Rattle.rh_nodes.specs.World.{World}
use Rattle.law_moves.specs.Moves.{is_at_work}
use Rattle.law_moves.specs.Passages.Passing.{Has}
use Rattle.law_moves.specs.ReadBack.Reading.{messages_read}
use Rattle.law_node_history.specs.Carried.{end_drawn_on}
use Rattle.law_node_history.specs.Histories.{History}
use Rattle.law_node_begins.specs.ProxiesBegin.Pipes.{in_pipe, is}
use Rattle.law_world_order.specs.Flows.{Numbers}
use Rattle.law_world_ways.specs.OnPaths.Legs.{was_told}
use Rattle.law_world_ways.specs.OnPaths.Ways.{client_node, server_node}

-- the leg is up for both its ends, of which neither was told that it is lost; the end nearer the
-- server has finished it, and all that was put there on the way down came
pub record IsOverDownwards {K C S I O : Type 0} (r : Rulebook C S I O) (v : World K C S I O)
    (h : History) (leg : Leg) : Type 0 where
  pub up : (end : Side) → legs.is_up leg end v.legs ≡ true
  pub untold : (end : Side) → was_told v h leg end ≡ false
  pub done : is_finished r leg D v ≡ true

-- the server's work is done only once the client's is
abbrev pub IsServerDoneLast : Numbers → History → Type 0
IsServerDoneLast numbers h =
    is_at_work server.rules (server_node numbers h).role ≡ false
    → (client_node numbers h).role.phase ≡ Ended

-- in what the server drew on the is leg stands IN_R1/B1, as the in proxy reads it
abbrev pub DrewInR1B1 : Numbers → History → ℕ → Type 0
DrewInR1B1 numbers h n =
    Has InR1B1 (messages_read (in_pipe (numbers.ins n) (is n))
    (end_drawn_on server.rules server.acts (server.new_server numbers.window) (is n) h.server))

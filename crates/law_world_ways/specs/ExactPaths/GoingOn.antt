-- nodes that go on (MS-RPCH 3.2; profile)
use Rattle.std.specs.Prelude.{◌≡◌, ℕ}
use Rattle.rh_shell.specs.declared.course.Course.TheVariants.{Going}
use Rattle.law_node_history.specs.Histories.{History}
use Rattle.law_world_order.specs.Flows.{Numbers}
use Rattle.law_world_ways.specs.OnPaths.Ways.{client_node, in_node, out_node, server_node}

-- no node closed
pub record AllGoOn (numbers : Numbers) (h : History) : Type 0 where
  pub client : (client_node numbers h).course ≡ Going
  pub server : (server_node numbers h).course ≡ Going
  pub ins : (n : ℕ) → (in_node numbers h n).course ≡ Going
  pub outs : (n : ℕ) → (out_node numbers h n).course ≡ Going

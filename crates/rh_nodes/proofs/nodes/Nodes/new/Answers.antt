-- each part is what it begins as
use Rattle.rh_nodes.proofs.nodes.Nodes.new.Goals as goal

pub returns : goal.returns
returns g c = rw (
  c.in_ok-client.ensures,
  c.in_ok-server.ensures,
  c.cookie_of.ensures,
  c.cookie_of-2.ensures,
  c.new.ensures,
  c.new-2.ensures,
  c.new-3.ensures,
  c.new-4.ensures,
  c.new-5.ensures,
  c.new-6.ensures,
)

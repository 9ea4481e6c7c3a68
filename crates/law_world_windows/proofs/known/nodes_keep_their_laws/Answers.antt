use Rattle.law_world_windows.proofs.known.nodes_keep_their_laws.Goals as goal

pub returns : goal.returns
returns c = record {
  client = c.a_node_keeps_its_laws.ensures;
  server = c.a_node_keeps_its_laws-2.ensures;
  ins = c.a_node_keeps_its_laws-3.ensures;
  outs = c.a_node_keeps_its_laws-4.ensures;
}

use Rattle.law_world_windows.proofs.Moment.{comes_of, reads_of}
use Rattle.law_world_expected.proofs.Cookies.{ClientLaws, no_cookie}
use Rattle.law_world_expected.proofs.worlds.a_client_refuses_no_cookie.Goals as goal

pub returns : goal.returns
returns g c = λ m w new ours ranges v by change may leg expected got closes.
    let nodes = c.nodes_keep_their_laws.ensures in
    let readings = c.what_was_put_reads_back.ensures in
    let laws : ClientLaws = record {
      refuses = c.what_a_client_refuses.ensures;
      comes = comes_of nodes;
      node = nodes.client;
    } in
    no_cookie laws (reads_of readings) readings m w ours
    (c.worlds_keep_their_laws.ensures m w new ours ranges) v by leg expected got change may closes

use Rattle.law_order.proofs.Vocabulary.{subst}
use Rattle.law_moves.proofs.Vocabulary.{EndPassage}
use Rattle.law_role_inproxy.proofs.Vocabulary.{InProxy}
use Rattle.law_role_client.proofs.Vocabulary.{ClientRole}
use Rattle.law_role_server.proofs.Vocabulary.{Server}
use Rattle.law_node_history.proofs.Vocabulary.{reader_of, Makers, World}
use Rattle.law_role_outproxy.proofs.Vocabulary.{OutProxy}
use Rattle.law_peers_moments.specs.Moments.{server_behind}
use Rattle.law_peers_moments.specs.GoingRound.{GoRound}
use Rattle.law_node_traces.proofs.Vocabulary.{ByChanges, AreOurs, deeds, rules}
use Rattle.law_world_order.proofs.Vocabulary.{HasMoment, moves_of, numbers}
use Rattle.law_world_order.proofs.at_moments.rounds.replacements_of_a_world_go_round.Goals as goal

pub returns : goal.returns
returns g c m w new ours ranges v by =
    let at = c.a_world_of_roles_is_at_a_moment.ensures m w new ours ranges v by in
    (at.flowing, round m w ours v by at)
  where
    round : (m : Makers g.row.K.Denot InProxy OutProxy)
        (w : World g.row.K.Denot ClientRole Server InProxy OutProxy)
        (ours : AreOurs m w.company w.cast)
        (v : World g.row.K.Denot ClientRole Server InProxy OutProxy)
        (by : ByChanges rules m deeds w v) (at : HasMoment m w ours v by)
        → GoRound at.flowing.flows.client.passage.passage at.flowing.flows.server.passage.passage
    round m w ours v by at =
        let client = at.flowing.flows.client in
        let server = at.flowing.flows.server in
        subst (λ (p : EndPassage Server). GoRound client.passage.passage p.passage)
        server.leads.reached
        (subst (λ (p : EndPassage ClientRole). GoRound p.passage
        (server_behind (numbers ours) (moves_of at.flowing)).passage) client.leads.reached
        (c.replacements_go_round.ensures (numbers ours) (reader_of v.readers)
        (moves_of at.flowing) at.made at.joined))

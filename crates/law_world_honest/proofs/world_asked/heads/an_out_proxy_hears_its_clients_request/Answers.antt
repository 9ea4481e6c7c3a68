use Rattle.law_order.proofs.Vocabulary.{ℕ, subst, AllByRecursion, IsPrefix}
use Rattle.rh_client.specs.Client as client
use Rattle.law_moves.proofs.Vocabulary.{U, ClientOut, Shell}
use Rattle.law_role_inproxy.proofs.Vocabulary.{InProxy}
use Rattle.law_role_client.proofs.Vocabulary.{ClientRole}
use Rattle.law_role_server.proofs.Vocabulary.{Server}
use Rattle.law_node_history.proofs.Vocabulary.{Makers, leg_at, World, end_drawn_on, heard_on, IsNew}
use Rattle.law_role_outproxy.proofs.Vocabulary.{OutProxy}
use Rattle.law_node_traces.proofs.Vocabulary.{ByChanges, AreOurs, deeds, rules, history_at}
use Rattle.law_world_order.proofs.Vocabulary.{IsFlowing, numbers_of}
use Rattle.law_world_honest.proofs.WorldAsked.OwnHeads.{heads_own, heads_read}
use Rattle.law_world_honest.proofs.world_asked.heads.an_out_proxy_hears_its_clients_request.Goals as goal
use Rattle.law_world_honest.specs.WorldAsked.{IsOwnHead}

pub returns : goal.returns
returns g c = record {
  own = own;
  read = λ m w new ours port v by flowing n.
      heads_read ours.config port n (flowing.flows.outs n).leads.moves
      (own m w new ours v by flowing n);
}
  where
    own : (m : Makers g.row.K.Denot InProxy OutProxy)
        (w : World g.row.K.Denot ClientRole Server InProxy OutProxy) → IsNew w
        → (ours : AreOurs m w.company w.cast)
        → (v : World g.row.K.Denot ClientRole Server InProxy OutProxy)
        (by : ByChanges rules m deeds w v)
        → (flowing : IsFlowing (numbers_of ours) w v (history_at m w v by.leads)) → (n : ℕ)
        → AllByRecursion (IsOwnHead ours.config n) (flowing.flows.outs n).leads.moves
    own m w new ours v by flowing n =
        let here = history_at m w v by.leads in
        let leg = leg_at ClientOut n in
        let near =
        subst (λ (s : Shell ClientRole). IsPrefix (heard_on leg (here.outs n))
        (end_drawn_on client.rules client.acts s leg here.client)) ours.client
        (c.what_is_heard_was_drawn.ensures rules m deeds w.company v here
        (c.a_recording_of_roles_is_known.ensures.changes m w v new ours by.leads).traced leg U) in
        heads_own c.a_client_opens_out_channels_in_order.ensures
        c.texts_are_whole.ensures.out_request ours.config here.client flowing.flows.client n
        (heard_on leg (here.outs n)) (flowing.flows.outs n).leads.moves near
        ((flowing.flows.outs n).heads leg)

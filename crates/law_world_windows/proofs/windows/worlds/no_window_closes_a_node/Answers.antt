use Rattle.rh_line.specs.declared.cause.Cause.TheVariants as cause
use Rattle.law_role_inproxy.proofs.Vocabulary.{InProxy}
use Rattle.law_role_client.proofs.Vocabulary.{ClientRole}
use Rattle.law_role_server.proofs.Vocabulary.{Server}
use Rattle.law_node_history.proofs.Vocabulary.{Makers, World, happened, Change, MayChange, IsNew}
use Rattle.law_role_outproxy.proofs.Vocabulary.{OutProxy}
use Rattle.law_node_traces.proofs.Vocabulary.{ByChanges, AreOurs, deeds, rules, history_at}
use Rattle.law_world_order.proofs.Vocabulary.{numbers_of, AreDistinct, AreInRange}
use Rattle.law_world_windows.proofs.Windowed.Closing.{EachExceeds, EachRefusesOn, NoHop, no_range, no_window}
use Rattle.law_world_windows.proofs.windows.worlds.no_window_closes_a_node.Goals as goal
use Rattle.law_world_windows.specs.Hops.{os_leg}
use Rattle.law_world_windows.specs.ClientHops.{HasOneWindow}

pub returns : goal.returns
returns g c = record {
  windows = λ m w new ours ranges one v by distinct change may node leg reached edge closes.
      no_window rows v change (hop m w new ours ranges one v by distinct change may) exceeds node
      leg reached edge closes;
  ranges = λ m w new ours ranges one v by distinct change may node leg command value closes.
      no_range rows v change (hop m w new ours ranges one v by distinct change may)
      c.nodes_keep_their_laws.ensures may node leg command value (λ on dir count fed told. (
        _,
        c.what_is_fed_closes_for_the_role.ensures m w new ours ranges v by on dir count node
            (cause.OutOfRange leg command value) fed told,
      )) closes;
}
  where
    rows : EachRefusesOn
    rows = record {
      client = c.rows_refuse_on_their_legs.ensures.client;
      server = c.rows_refuse_on_their_legs.ensures.server;
      ins = c.rows_refuse_on_their_legs.ensures.in_proxy;
      outs = c.rows_refuse_on_their_legs.ensures.out_proxy;
    }

    exceeds : EachExceeds
    exceeds = record {
      client = c.a_window_is_exceeded_for_a_row.ensures;
      server = c.a_window_is_exceeded_for_a_row-2.ensures;
      ins = c.a_window_is_exceeded_for_a_row-3.ensures;
      outs = c.a_window_is_exceeded_for_a_row-4.ensures;
    }

    hop : (m : Makers g.row.K.Denot InProxy OutProxy)
        (w : World g.row.K.Denot ClientRole Server InProxy OutProxy) → IsNew w
        → (ours : AreOurs m w.company w.cast) → AreInRange (numbers_of ours)
        → HasOneWindow (numbers_of ours)
        → (v : World g.row.K.Denot ClientRole Server InProxy OutProxy)
        (by : ByChanges rules m deeds w v)
        → AreDistinct (happened (history_at m w v by.leads).client)
        → (change : Change) → MayChange rules v change → NoHop v change
    hop m w new ours ranges one v by distinct change may =
        let near = c.no_hop_on_one_leg_closes_a_node.ensures in
        let far = c.no_hop_of_a_client_closes_a_node.ensures in
        record {
          client_window = far.client_window m w new ours ranges one v by distinct change may;
          client_range = far.client_range m w new ours ranges one v by distinct change may;
          server_window = near.server_window m w new ours ranges v by change may;
          server_range = near.server_range m w new ours ranges v by change may;
          in_window = far.in_window m w new ours ranges one v by distinct change may;
          in_range = near.in_range m w new ours ranges v by change may;
          out_window = near.out_window m w new ours ranges v by change may;
          out_range = λ k n. far.out_range m w new ours ranges one v by distinct change may k
              (os_leg n);
        }

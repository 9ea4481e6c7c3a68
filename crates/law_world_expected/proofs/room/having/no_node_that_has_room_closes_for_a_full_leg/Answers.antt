use Rattle.law_role_inproxy.proofs.Vocabulary.{InProxy}
use Rattle.law_role_client.proofs.Vocabulary.{ClientRole}
use Rattle.law_role_server.proofs.Vocabulary.{Server}
use Rattle.law_node_history.proofs.Vocabulary.{Makers, World, IsNew}
use Rattle.law_role_outproxy.proofs.Vocabulary.{OutProxy}
use Rattle.law_node_traces.proofs.Vocabulary.{AreOurs}
use Rattle.law_world_order.proofs.Vocabulary.{numbers_of, AreDistinct, AreInRange, numbers}
use Rattle.law_world_windows.proofs.Moment.{reads_of}
use Rattle.law_world_expected.proofs.Amiss.Moments.{AllFlow}
use Rattle.law_world_expected.proofs.Closing.{AtMoment, flow_of}
use Rattle.law_world_expected.proofs.Facts.{client_kept, distinct_of_cookies}
use Rattle.law_world_expected.proofs.Roomy.Closing.{no_client_full, no_in_full, no_out_full, no_server_full}
use Rattle.law_world_expected.proofs.room.having.no_node_that_has_room_closes_for_a_full_leg.Goals as goal
use Rattle.law_world_expected.specs.Roles.{Facts, OfClient, Premise}
use Rattle.law_world_expected.specs.Roomy.{InHasRoom, OutHasRoom, ServerHasRoom}

pub returns : goal.returns
returns g c =
    let roles = c.roles_know_their_legs.ensures.roles in
    let nodes = c.nodes_keep_their_laws.ensures in
    let readings = c.what_was_put_reads_back.ensures in
    let reads = reads_of readings in
    let law = c.worlds_keep_their_laws.ensures in record {
      client = λ m w new ours ranges v by change may full closes.
          no_client_full roles nodes reads readings m w ours (law m w new ours ranges) anyhow
          (λ u led leg dir count may fits. tt) nothing (plain m w new ours ranges) v by tt full
          c.roles_know_their_legs.ensures.client change may closes;
      in_proxies = λ room m w new ours ranges v by distinct change may k full closes.
          no_in_full roles nodes reads readings m w ours (law m w new ours ranges)
          (OfClient AreDistinct)
          (client_kept m w (law m w new ours ranges).known AreDistinct distinct_of_cookies)
          (InHasRoom (numbers ours))
          (flow_of (OfClient AreDistinct) InHasRoom room m w new ours ranges) v by distinct full
          (λ reader moves holds. holds) k change may closes;
      out_proxies = λ room m w new ours ranges v by distinct change may k full closes.
          no_out_full roles nodes reads readings m w ours (law m w new ours ranges)
          (OfClient AreDistinct)
          (client_kept m w (law m w new ours ranges).known AreDistinct distinct_of_cookies)
          (OutHasRoom (numbers ours))
          (flow_of (OfClient AreDistinct) OutHasRoom room m w new ours ranges) v by distinct full
          (λ reader moves holds. holds) k change may closes;
      server = λ room m w new ours ranges v by distinct change may full closes.
          no_server_full roles nodes reads readings m w ours (law m w new ours ranges)
          (OfClient AreDistinct)
          (client_kept m w (law m w new ours ranges).known AreDistinct distinct_of_cookies)
          (ServerHasRoom (numbers ours))
          (flow_of (OfClient AreDistinct) ServerHasRoom room m w new ours ranges) v by distinct full
          (λ reader moves holds. holds) change may closes;
    }
  where
    -- of the client nothing is said
    anyhow : Premise g.row.K.Denot
    anyhow m w v h = Unit {0}

    nothing : Facts
    nothing reader moves = Unit {0}

    plain : (m : Makers g.row.K.Denot InProxy OutProxy)
        (w : World g.row.K.Denot ClientRole Server InProxy OutProxy) → IsNew w
        → (ours : AreOurs m w.company w.cast) → AreInRange (numbers_of ours)
        → AllFlow m w ours (AtMoment anyhow nothing ours)
    plain m w new ours ranges u by = record {
      flows = (c.worlds_keep_their_laws.ensures m w new ours ranges).flowing u by;
      holds = λ fits. tt;
    }

use Rattle.law_order.proofs.Vocabulary.{[], refl}
use Rattle.law_role_inproxy.proofs.Vocabulary.{InProxy}
use Rattle.law_role_client.proofs.Vocabulary.{ClientRole}
use Rattle.law_role_server.proofs.Vocabulary.{Server}
use Rattle.law_node_history.proofs.Vocabulary.{Makers, World}
use Rattle.law_role_outproxy.proofs.Vocabulary.{OutProxy}
use Rattle.law_node_traces.proofs.Vocabulary.{AreOurs, deeds, rules}
use Rattle.law_peers_routes.proofs.Upwards.Unread.{refusal_unread}
use Rattle.law_world_order.proofs.Flowing.{Streaming}
use Rattle.law_world_order.proofs.Starting.{Beginning}
use Rattle.law_world_order.proofs.Legs.{Reads}
use Rattle.law_world_order.proofs.Pasts.Family.{AllRise}
use Rattle.law_world_order.proofs.Pasts.Moments.{has_moment}
use Rattle.law_world_order.proofs.Pasts.Pasts.{Laws}
use Rattle.law_world_order.proofs.Legal.{Legalities}
use Rattle.law_world_order.proofs.Vocabulary.{numbers_of, AreInRange}
use Rattle.law_world_order.proofs.at_moments.worlds.a_world_of_roles_is_at_a_moment.Goals as goal

pub returns : goal.returns
returns g c m w new ours ranges v by =
    has_moment m w new ours (laws m w ours ranges)
    (c.legs_of_roles_come_up_once.ensures m w.company w.cast ours)
    (c.a_recording_of_roles_is_known.ensures.changes m w w new ours
    (record { changes = []; allowed = tt; reached = refl })).read v by
    (c.a_recording_of_roles_is_known.ensures.changes m w v new ours by.leads)
    (c.channels_come_up_in_order.ensures.changes rules m deeds w v new
    (c.legs_of_roles_come_up_once.ensures m w.company w.cast ours) by)
  where
    reads : Reads
    reads = record {
      put = c.what_was_put_is_read.ensures;
      fine = c.what_is_read_is_fine.ensures;
      refusal = refusal_unread;
    }

    streaming : Streaming
    streaming = record {
      proxies = record {
        ins = c.a_nodes_stream.ensures;
        outs = c.a_nodes_stream-2.ensures;
        in_pipes = c.proxies_keep_their_pipes.ensures.in_proxy;
        out_pipes = c.proxies_keep_their_pipes.ensures.out_proxy;
        in_unused = c.a_leg_that_an_in_proxy_left_stays_unused.ensures;
        out_unused = c.a_leg_that_an_out_proxy_left_stays_unused.ensures;
      };
      clients = c.an_ends_stream.ensures;
      servers = c.an_ends_stream-2.ensures;
      client_refuses = c.an_end_never_refuses.ensures.client;
      server_refuses = c.an_end_never_refuses.ensures.server;
      client_unused = c.a_leg_that_a_client_left_stays_unused.ensures.calls;
      server_unused = c.a_leg_that_a_server_left_stays_unused.ensures.calls;
    }

    rise : AllRise
    rise = record {
      streaming = streaming;
      ins = c.a_nodes_stream_grows.ensures;
      outs = c.a_nodes_stream_grows-2.ensures;
      clients = c.an_ends_stream_grows.ensures;
      servers = c.an_ends_stream_grows-2.ensures;
    }

    begins : Beginning
    begins = record {
      client = c.a_client_begins_with_a_request.ensures;
      server = c.a_server_begins_with_a_greeting.ensures;
      in_server = c.an_in_proxy_begins.ensures.server;
      in_client = c.an_in_proxy_begins.ensures.client;
      out_server = c.an_out_proxy_begins.ensures.server;
      out_client = c.an_out_proxy_begins.ensures.client;
      in_refuses = c.an_in_proxy_refuses_first.ensures.client;
      in_refuses_else = c.an_in_proxy_refuses_first.ensures.elsewhere;
      out_refuses = c.an_out_proxy_refuses_first.ensures.client;
      out_refuses_else = c.an_out_proxy_refuses_first.ensures.elsewhere;
    }

    legal : Legalities
    legal = record {
      client = c.what_a_client_puts_reads_back.ensures;
      server = c.what_a_server_puts_reads_back.ensures;
      ins = c.what_an_in_proxy_puts_reads_back.ensures;
      outs = c.what_an_out_proxy_puts_reads_back.ensures;
    }

    laws : (m : Makers g.row.K.Denot InProxy OutProxy)
        (w : World g.row.K.Denot ClientRole Server InProxy OutProxy)
        (ours : AreOurs m w.company w.cast) → AreInRange (numbers_of ours) → Laws m w ours
    laws m w ours ranges = record {
      rise = rise;
      reads = reads;
      begins = begins;
      legal = legal;
      ranges = ranges;
      before = c.what_is_heard_was_drawn_before.ensures rules m deeds w.company;
      drawn = c.what_is_heard_was_drawn.ensures rules m deeds w.company;
      alone = λ u h traced node leg away.
          (c.a_leg_is_read_at_its_ends.ensures rules m deeds w.company u h traced node leg away).1;
      numbered = c.proxies_are_numbered.ensures.change rules m deeds w.company;
    }

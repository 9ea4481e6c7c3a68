use Rattle.law_order.proofs.Vocabulary.{◌≡◌, true, refl, list_all}
use Rattle.rh_record.specs.declared.answer.Who.TheVariants as who
use Rattle.law_role_inproxy.proofs.Vocabulary.{InProxy}
use Rattle.law_role_client.proofs.Vocabulary.{ClientRole, co}
use Rattle.law_role_server.proofs.Vocabulary.{Server}
use Rattle.law_node_history.proofs.Vocabulary.{Makers, World, happened, of_line, IsNew}
use Rattle.law_role_outproxy.proofs.Vocabulary.{OutProxy}
use Rattle.law_node_traces.proofs.Vocabulary.{ByChanges, AreOurs, deeds, rules, history_at}
use Rattle.law_world_order.proofs.Vocabulary.{numbers_of, AreDistinct, AreInRange, numbers, IsPort}
use Rattle.law_world_windows.proofs.Moment.{reads_of}
use Rattle.law_world_windows.specs.Hops.{is_leg, os_leg}
use Rattle.law_world_expected.proofs.Amiss.Moments.{AllFlow}
use Rattle.law_world_expected.proofs.AtClients.{no_out_amiss_at_end}
use Rattle.law_world_expected.proofs.Closing.{flow_of, no_in_amiss, no_out_amiss_of_client, no_out_amiss_of_server, no_server_amiss_of_in, no_server_amiss_of_out, refuses_none}
use Rattle.law_world_expected.proofs.Facts.{client_kept, distinct_of_cookies, have_of_cookies, lines_kept}
use Rattle.law_world_expected.proofs.OwnClient.{no_client_amiss}
use Rattle.law_world_expected.proofs.expecting.no_node_refuses_what_it_expects.Goals as goal
use Rattle.law_world_expected.specs.Roles.{ClientExpects, HaveCookies, InExpects, IsByLines, OfClient, OutExpectsClient, OutExpectsServer, OutsServe, ServerExpectsIn, ServerExpectsOut, WorldsServe}

pub returns : goal.returns
returns g c =
    let roles = c.roles_know_their_legs.ensures.roles in
    let nodes = c.nodes_keep_their_laws.ensures in
    let readings = c.what_was_put_reads_back.ensures in
    let reads = reads_of readings in
    let law = c.worlds_keep_their_laws.ensures in record {
      in_proxies = λ expect m w new ours ranges v by distinct k leg.
          refuses_none v (who.In k) leg (λ why r tells amiss of_piece names.
          no_in_amiss roles nodes reads readings m w ours (law m w new ours ranges)
          (OfClient AreDistinct)
          (client_kept m w (law m w new ours ranges).known AreDistinct distinct_of_cookies)
          (InExpects (numbers ours))
          (flow_of (OfClient AreDistinct) InExpects expect m w new ours ranges) v by distinct why r
          tells amiss of_piece k (λ reader moves holds. holds.client)
          (λ reader moves holds. holds.server));
      out_client = λ expect m w new ours ranges v by distinct k n.
          refuses_none v (who.Out k) (co n) (λ why r tells amiss of_piece names.
          no_out_amiss_of_client roles nodes reads readings m w ours (law m w new ours ranges)
          (OfClient AreDistinct)
          (client_kept m w (law m w new ours ranges).known AreDistinct distinct_of_cookies)
          (OutExpectsClient (numbers ours))
          (flow_of (OfClient AreDistinct) OutExpectsClient expect m w new ours ranges) v by distinct
          why r tells amiss of_piece k (λ reader moves holds. holds) n names);
      out_server = λ expect m w new ours ranges v by have k n.
          refuses_none v (who.Out k) (os_leg n) (λ why r tells amiss of_piece names.
          no_out_amiss_of_server roles nodes reads readings m w ours (law m w new ours ranges)
          (OfClient HaveCookies)
          (client_kept m w (law m w new ours ranges).known HaveCookies have_of_cookies)
          (OutExpectsServer (numbers ours))
          (flow_of (OfClient HaveCookies) OutExpectsServer expect m w new ours ranges) v by have
          why r tells amiss of_piece k (λ reader moves holds. holds) n names);
      server_in = λ expect m w new ours ranges v by lines distinct n.
          refuses_none v who.Server (is_leg n) (λ why r tells amiss of_piece names.
          no_server_amiss_of_in roles nodes reads readings m w ours (law m w new ours ranges)
          IsByLines (lines_kept m w (law m w new ours ranges).known)
          (ServerExpectsIn (numbers ours))
          (flow_of IsByLines ServerExpectsIn expect m w new ours ranges) v by
          (of_lines m w v by lines distinct)
          why r tells amiss of_piece (λ reader moves holds. holds) n names);
      server_out = λ expect m w new ours ranges v by distinct n.
          refuses_none v who.Server (os_leg n) (λ why r tells amiss of_piece names.
          no_server_amiss_of_out roles nodes reads readings m w ours (law m w new ours ranges)
          (OfClient AreDistinct)
          (client_kept m w (law m w new ours ranges).known AreDistinct distinct_of_cookies)
          (ServerExpectsOut (numbers ours))
          (flow_of (OfClient AreDistinct) ServerExpectsOut expect m w new ours ranges) v by distinct
          why r tells amiss of_piece (λ reader moves holds. holds) n names);
      client = λ expect m w new ours ranges port v by distinct n place change may closes.
          no_client_amiss roles c.roles_know_their_legs.ensures.client nodes reads readings m w ours
          (law m w new ours ranges)
          (flow_of (OfClient AreDistinct) ClientExpects expect m w new ours ranges) v by
          (c.what_comes_to_a_client_has_a_name.ensures m w new ours ranges port v by) distinct n
          place change may closes;
      out_serving = λ serve m w new ours ranges port v by k n.
          refuses_none v (who.Out k) (co n) (λ why r tells amiss of_piece names.
          no_out_amiss_at_end roles nodes reads readings c.a_client_puts_no_ping_first.ensures m w
          ours (law m w new ours ranges) (serving serve m w new ours ranges port) v by why r tells
          amiss of_piece k n names);
    }
  where
    of_lines : (m : Makers g.row.K.Denot InProxy OutProxy)
        (w v : World g.row.K.Denot ClientRole Server InProxy OutProxy)
        (by : ByChanges rules m deeds w v) → list_all of_line by.leads.changes ≡ true
        → AreDistinct (happened (history_at m w v by.leads).client)
        → IsByLines m w v (history_at m w v by.leads)
    of_lines m w v by lines distinct = record {
      lines = record { leads = by.leads; work = lines };
      same = refl;
      distinct = distinct;
    }

    serving : WorldsServe g.row.K.Denot → (m : Makers g.row.K.Denot InProxy OutProxy)
        (w : World g.row.K.Denot ClientRole Server InProxy OutProxy) → IsNew w
        → (ours : AreOurs m w.company w.cast) → AreInRange (numbers_of ours)
        → IsPort ours.config.port → AllFlow m w ours (OutsServe ours)
    serving serve m w new ours ranges port u by =
        let here = (c.worlds_keep_their_laws.ensures m w new ours ranges).flowing u by in
        record { flows = here; holds = serve m w new ours port u by here }

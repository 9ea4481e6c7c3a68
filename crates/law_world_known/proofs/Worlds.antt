-- in a world of roles at rest all came that was put on a leg that is up
use Rattle.law_order.proofs.Vocabulary.{◌≡◌, ℕ, List, ◌++◌, true, false, Some, refl, sym, ap, ◌∙◌, subst, append-nil, AllByRecursion, Option}
use Rattle.rh_text.specs.declared.ends.Side.TheVariants as side
use Rattle.rh_record.specs.declared.answer.Who.TheVariants as who
use Rattle.rh_inproxy.specs.Machine as in_proxy
use Rattle.rh_outproxy.specs.Machine as out_proxy
use Rattle.rh_server.specs.Servers as server
use Rattle.rh_company.specs.Company as company
use Rattle.rh_company.specs.Places as places
use Rattle.law_moves.proofs.Vocabulary.{Dir, U, D, Side, Pipe, IsU, IsD, OsU, OsD, Going, InServer, Leg, Message, Passage, Shell, ReadsBack, Begins, all_read_of, begun, messages_read, of_leg, spelled, Event, EndEvent, after_end_events, after_events}
use Rattle.law_role_inproxy.proofs.Vocabulary.{InProxy}
use Rattle.law_role_inproxy.specs.Legible as in_legible
use Rattle.law_role_client.proofs.Vocabulary.{ClientRole}
use Rattle.law_role_server.proofs.Vocabulary.{Server}
use Rattle.law_role_server.specs.Legible as server_legible
use Rattle.law_node_history.proofs.Vocabulary.{Absent, AreAccepted, AreAcceptedAtEnd, Company, Here, History, IsHeard, IsRun, Place, Who, at, came_up, carriage, drawn_by, drawn_on, end_drawn_on, events_of, happened, heard_on, in_flight, in_place, is_up, ledger, out_place, receiver, sender, wire_at}
use Rattle.law_node_history.proofs.Lemmas.{is_up_at}
use Rattle.law_node_history.proofs.Numbers.{asked}
use Rattle.law_role_outproxy.proofs.Vocabulary.{ROOMS, OutProxy, new_proxy}
use Rattle.law_role_outproxy.specs.Legible as out_legible
use Rattle.rh_world.specs.Roles as roles
use Rattle.law_node_begins.specs.ProxiesBegin.Pipes.{in_pipe, is, os}
use Rattle.law_node_streams.specs.Streams.{is_refused_on}
use Rattle.law_node_streams.proofs.Streams.LegLogs.{leg_reads_back}
use Rattle.law_node_traces.proofs.Vocabulary.{AreOurs, IsKnown}
use Rattle.law_world_reports.proofs.Vocabulary.{AreInRange, WorldConfig}
use Rattle.law_world_reports.specs.ToldHistories.{IsLedTo, history_of}
use Rattle.law_world_order.proofs.Heard.{reads_on}
use Rattle.law_world_order.proofs.Recorded.{ours}
use Rattle.law_world_order.proofs.Vocabulary.{IsFlowing, Numbers, numbers_of}
use Rattle.law_world_rest.proofs.Carrying.{clear_at, no_bytes}
use Rattle.law_world_rest.specs.Rest.{IsAtRest}
use Rattle.law_world_rest.specs.Steady.{AreSteady}
use Rattle.law_world_ways.proofs.EndsInTime.Both.{up_for}
use Rattle.law_world_ways.specs.EndsInTime.Both.{AreUpAtBoth}
use Rattle.law_world_ways.specs.ExactWays.Keeping.{KnowsLeg}
use Rattle.law_world_ways.specs.LiveIntakes.{ReadsLeg}
use Rattle.law_world_ways.specs.OnPaths.Ways.{in_node, out_node, server_node}
use Rattle.law_world_waits.proofs.Kept.{rose}
use Rattle.law_world_waits.specs.Puts.{PutNothing, PutsNoneThere}
use Rattle.law_world_known.proofs.Arrived.{IsSeated, is_seated, up_carried}

-- ---- what this stands on

pub record Laws : Type 0 where
  pub steady : (config : WorldConfig) → AreInRange config → (world : roles.World)
      → IsLedTo config world → AreSteady roles.rules roles.deeds world.company
  pub known : (config : WorldConfig) (world : roles.World) (by : IsLedTo config world)
      → IsKnown roles.makers (roles.begun config) world by.leads
  pub puts : (world : roles.World) → AreUpAtBoth world
      → AreSteady roles.rules roles.deeds world.company
      → IsAtRest roles.rules roles.makers roles.deeds world → (leg : Leg)
      → is_up world leg ≡ true → PutNothing roles.rules world leg
  pub flowing : (config : WorldConfig) → AreInRange config → (world : roles.World)
      (by : IsLedTo config world)
      → IsFlowing (numbers_of (ours config)) (roles.begun config) world (history_of config world by)
  pub whole : (pipe : Option Pipe) (put : List Message) → Begins pipe put
      → AllByRecursion (ReadsBack pipe) put → messages_read pipe (spelled put) ≡ all_read_of put
  pub server_reads : (config : WorldConfig) (world : roles.World) (by : IsLedTo config world)
      (leg : Leg)
      → ReadsLeg (server_node (numbers_of (ours config)) (history_of config world by)) leg
  pub ins_read : (config : WorldConfig) → AreInRange config → (world : roles.World)
      (by : IsLedTo config world) (n : ℕ) (leg : Leg)
      → ReadsLeg (in_node (numbers_of (ours config)) (history_of config world by) n) leg
  pub outs_read : (config : WorldConfig) → AreInRange config → (world : roles.World)
      (by : IsLedTo config world) (n : ℕ) (leg : Leg)
      → ReadsLeg (out_node (numbers_of (ours config)) (history_of config world by) n) leg
  pub server_knows : (config : WorldConfig) (events : List EndEvent) (leg : Leg)
      → AreAcceptedAtEnd server.rules server.acts (server.new_server (ours config).window) events
      → KnowsLeg server.rules
      (after_end_events server.rules server.acts (server.new_server (ours config).window) events)
      leg (came_up leg (happened events))
  pub ins_know : (config : WorldConfig) (n : ℕ) (events : List Event) (leg : Leg)
      → AreAccepted in_proxy.rules (in_proxy.first_node ((ours config).in_config n)) events
      → KnowsLeg in_proxy.rules
      (after_events in_proxy.rules (in_proxy.first_node ((ours config).in_config n)) events) leg
      (came_up leg events)
  pub outs_know : (config : WorldConfig) (n : ℕ) (events : List Event) (leg : Leg)
      → AreAccepted out_proxy.rules (begun (new_proxy ((ours config).out_config n)) ROOMS) events
      → KnowsLeg out_proxy.rules
      (after_events out_proxy.rules (begun (new_proxy ((ours config).out_config n)) ROOMS) events)
      leg (came_up leg events)

module _ (law : Laws) (config : WorldConfig) (ranges : AreInRange config) (world : roles.World)
    (by : IsLedTo config world) (both : AreUpAtBoth world)
    (rest : IsAtRest roles.rules roles.makers roles.deeds world) where
  abbrev pub h : History
  h = history_of config world by

  abbrev pub our : AreOurs roles.makers (roles.begun config).company config
  our = ours config

  abbrev pub numbers : Numbers
  numbers = numbers_of our

  abbrev first : Company ClientRole Server InProxy OutProxy
  first = (roles.begun config).company

  abbrev known : IsKnown roles.makers (roles.begun config) world by.leads
  known = law.known config world by

  pub flow : IsFlowing numbers (roles.begun config) world h
  flow = law.flowing config ranges world by

  puts_none : (leg : Leg) → is_up world leg ≡ true → PutNothing roles.rules world leg
  puts_none = law.puts world both (law.steady config ranges world by) rest

  came_up_at : (leg : Leg) → is_up world leg ≡ true → (end : Side)
      → came_up leg (events_of h (at world leg end)) ≡ true
  came_up_at =
      rose roles.rules roles.makers roles.deeds first world.cast world h known.traced.carried both

  -- ---- between the nodes

  abbrev drew : Who → Leg → List ℕ
  drew = drawn_by roles.rules roles.makers roles.deeds first world.cast h

  carried : (leg : Leg) (dir : Dir) → is_up world leg ≡ true
      → drew (at world leg (sender dir)) leg ≡ h.fed (at world leg (receiver dir)) leg
  carried leg dir up =
      up_carried (carriage (ledger roles.rules roles.makers roles.deeds first world.cast h)
      world.legs world.readers leg dir) (known.traced.carried.each leg dir)
      (sym (is_up_at world.legs leg (sender dir)) ∙ up_for world leg (sender dir) both up)
      (sym (is_up_at world.legs leg (receiver dir)) ∙ up_for world leg (receiver dir) both up)
      (no_bytes (in_flight dir (wire_at world.legs leg))
      (sym (clear_at world.legs leg dir) ∙ rest.clear leg dir up))

  -- what was put on a leg, and what came
  all_came : (leg : Leg) (dir : Dir) (pipe : Option Pipe) (put came : List Message)
      → is_up world leg ≡ true → Begins pipe put → AllByRecursion (ReadsBack pipe) put
      → spelled put ≡ drew (at world leg (sender dir)) leg
      → came ≡ messages_read pipe (h.fed (at world leg (receiver dir)) leg)
      → came ≡ all_read_of put
  all_came leg dir pipe put came up begins back spells reads =
      reads ∙ ap (messages_read pipe) (sym (spells ∙ carried leg dir up))
      ∙ law.whole pipe put begins back

  -- ---- the server

  module _ (goes : world.company.server.course ≡ Going) where
    abbrev pub serving : Passage Server
    serving = flow.flows.server.passage.passage

    abbrev served : Shell Server
    served = server_node numbers h

    server_is : world.company.server ≡ served
    server_is =
        known.traced.runs.server
        ∙ ap (λ (s : Shell Server). after_end_events server.rules server.acts s h.server) our.server

    pub server_role : serving.role ≡ world.company.server.role
    server_role = flow.flows.server.role ∙ sym (ap (λ (s : Shell Server). s.role) server_is)

    server_goes : served.course ≡ Going
    server_goes = sym (ap (λ (s : Shell Server). s.course) server_is) ∙ goes

    server_accepted : AreAcceptedAtEnd server.rules server.acts (server.new_server our.window)
        h.server
    server_accepted =
        subst (λ (s : Shell Server). AreAcceptedAtEnd server.rules server.acts s h.server)
        our.server known.traced.accepted.server

    server_seated : (leg : Leg) (end : Side) → at world leg end ≡ who.Server
        → is_up world leg ≡ true → IsSeated server.rules served leg
    server_seated leg end stands up =
        subst (λ (s : Shell Server). IsSeated server.rules s leg) server_is
        (is_seated server.rules world.company.server leg goes
        (subst (λ (one : Who). company.finished roles.rules world.company one
        leg ≡ false) stands (rest.unfinished leg end up))
        (ap (λ (s : Shell Server). server.rules.was_up s.role leg) server_is
        ∙ (law.server_knows config h.server leg server_accepted).known
        (subst (λ (one : Who). came_up leg (events_of h one)
        ≡ true) stands (came_up_at leg up end)))
        ((puts_none leg up).server end stands))

    server_spells : (leg : Leg) (end : Side) → at world leg end ≡ who.Server
        → is_up world leg ≡ true → spelled (of_leg leg serving.put) ≡ drew who.Server leg
    server_spells leg end stands up =
        let seat = server_seated leg end stands up in
        let drawn = end_drawn_on server.rules server.acts (server.new_server our.window) leg
        h.server in
        flow.flows.server.left leg seat.end (ap (is_refused_on leg) server_goes) seat.at
        ∙ ap (λ (begun : List ℕ). drawn ++ begun) seat.begun ∙ append-nil drawn
        ∙ sym (ap (λ (s : Shell Server). end_drawn_on server.rules server.acts s leg h.server)
        our.server)

    server_took : (leg : Leg) (end : Side) → at world leg end ≡ who.Server
        → is_up world leg ≡ true
        → of_leg leg serving.came
        ≡ messages_read (server.pipe_of leg.kind) (h.fed who.Server leg)
    server_took leg end stands up =
        let seat = server_seated leg end stands up in
        ((flow.flows.server.seats leg seat.end server_goes seat.at).reads seat.of_use
        (law.server_reads config world by leg server_goes seat.end seat.at)).all
        ∙ ap (messages_read (server.pipe_of leg.kind)) (known.traced.heard.server leg)

    -- ---- and an in proxy

    module _ (n : ℕ) (node : Shell InProxy) (legs : ℕ)
        (there : in_place world.company n ≡ Here node legs) (going : node.course ≡ Going)
        (up : is_up world (is n) ≡ true) where
      abbrev pub passing_in : Passage InProxy
      passing_in = (flow.flows.ins n).passage

      abbrev made_in : Shell InProxy
      made_in = in_proxy.first_node (our.in_config n)

      in_made : roles.makers.in_proxy world.cast n ≡ made_in
      in_made = ap (λ (c : WorldConfig). roles.makers.in_proxy c n) flow.cast ∙ our.ins n

      in_is : node ≡ in_node numbers h n
      in_is =
          subst (IsRun in_proxy.rules (roles.makers.in_proxy world.cast n) (h.ins n)) there
          (known.traced.runs.ins n)
          ∙ ap (λ (s : Shell InProxy). after_events in_proxy.rules s (h.ins n)) in_made

      pub in_role : passing_in.role ≡ node.role
      in_role = (flow.flows.ins n).role ∙ sym (ap (λ (s : Shell InProxy). s.role) in_is)

      in_goes : (in_node numbers h n).course ≡ Going
      in_goes = sym (ap (λ (s : Shell InProxy). s.course) in_is) ∙ going

      in_accepted : AreAccepted in_proxy.rules made_in (h.ins n)
      in_accepted =
          subst (λ (s : Shell InProxy). AreAccepted in_proxy.rules s (h.ins n)) in_made
          (known.traced.accepted.ins n)

      in_seated : IsSeated in_proxy.rules (in_node numbers h n) (is n)
      in_seated =
          subst (λ (s : Shell InProxy). IsSeated in_proxy.rules s (is n)) in_is
          (is_seated in_proxy.rules node (is n) going
          (subst (λ (p : Place InProxy). places.finished in_proxy.rules (is n) p ≡ false) there
          (sym (asked Absent (places.finished in_proxy.rules (is n)) world.company.ins n)
          ∙ rest.unfinished (is n) side.Client up))
          (ap (λ (s : Shell InProxy). in_proxy.rules.was_up s.role (is n)) in_is
          ∙ (law.ins_know config n (h.ins n) (is n) in_accepted).known
          (came_up_at (is n) up side.Client))
          (subst (λ (p : Place InProxy). PutsNoneThere in_proxy.rules p (is n)) there
          ((puts_none (is n) up).ins n side.Client refl)))

      in_spells : spelled (of_leg (is n) passing_in.put) ≡ drew (who.In n) (is n)
      in_spells =
          let drawn = drawn_on in_proxy.rules made_in (is n) (h.ins n) in
          (flow.flows.ins n).left (is n) in_seated.end (ap (is_refused_on (is n)) in_goes)
          in_seated.at
          ∙ ap (λ (begun : List ℕ). drawn ++ begun) in_seated.begun ∙ append-nil drawn
          ∙ sym (ap (λ (s : Shell InProxy). drawn_on in_proxy.rules s (is n) (h.ins n)) in_made)

      in_took : of_leg (is n) passing_in.came
          ≡ messages_read (in_pipe (our.in_config n) (is n)) (h.fed (who.In n) (is n))
      in_took =
          (((flow.flows.ins n).seats (is n) in_seated.end in_goes in_seated.at).reads
          in_seated.of_use
          (law.ins_read config ranges world by n (is n) in_goes in_seated.end in_seated.at)).all
          ∙ ap (messages_read (in_pipe (our.in_config n) (is n)))
          (subst (λ (p : Place InProxy). IsHeard p (heard_on (is n) (h.ins n))
          (h.fed (who.In n) (is n))) there (known.traced.heard.ins n (is n)))

      pub came_up_there : of_leg (is n) serving.came ≡ all_read_of (of_leg (is n) passing_in.put)
      came_up_there =
          all_came (is n) U (Some IsU) (of_leg (is n) passing_in.put) (of_leg (is n) serving.came) up
          (flow.begun.in_server n)
          (leg_reads_back in_legible.pipe_put (is n) passing_in.put (flow.legible.ins n).read_back)
          in_spells (server_took (is n) side.Server refl up)

      pub came_back_there : of_leg (is n) passing_in.came
          ≡ all_read_of (of_leg (is n) serving.put)
      came_back_there =
          all_came (is n) D (Some IsD) (of_leg (is n) serving.put) (of_leg (is n) passing_in.came) up
          (flow.begun.server_in n)
          (leg_reads_back server_legible.pipe_put (is n) serving.put flow.legible.server.read_back)
          (server_spells (is n) side.Server refl up)
          (in_took
          ∙ ap (λ (pipe : Option Pipe). messages_read pipe (h.fed (who.In n) (is n)))
          (sym (reads_on our n n InServer D)))

    -- ---- and an out proxy

    module _ (n : ℕ) (node : Shell OutProxy) (legs : ℕ)
        (there : out_place world.company n ≡ Here node legs) (going : node.course ≡ Going)
        (up : is_up world (os n) ≡ true) where
      abbrev pub passing_out : Passage OutProxy
      passing_out = (flow.flows.outs n).passage

      abbrev made_out : Shell OutProxy
      made_out = begun (new_proxy (our.out_config n)) ROOMS

      out_made : roles.makers.out_proxy world.cast n ≡ made_out
      out_made = ap (λ (c : WorldConfig). roles.makers.out_proxy c n) flow.cast ∙ our.outs n

      out_is : node ≡ out_node numbers h n
      out_is =
          subst (IsRun out_proxy.rules (roles.makers.out_proxy world.cast n) (h.outs n)) there
          (known.traced.runs.outs n)
          ∙ ap (λ (s : Shell OutProxy). after_events out_proxy.rules s (h.outs n)) out_made

      pub out_role : passing_out.role ≡ node.role
      out_role = (flow.flows.outs n).role ∙ sym (ap (λ (s : Shell OutProxy). s.role) out_is)

      out_goes : (out_node numbers h n).course ≡ Going
      out_goes = sym (ap (λ (s : Shell OutProxy). s.course) out_is) ∙ going

      out_accepted : AreAccepted out_proxy.rules made_out (h.outs n)
      out_accepted =
          subst (λ (s : Shell OutProxy). AreAccepted out_proxy.rules s (h.outs n)) out_made
          (known.traced.accepted.outs n)

      out_seated : IsSeated out_proxy.rules (out_node numbers h n) (os n)
      out_seated =
          subst (λ (s : Shell OutProxy). IsSeated out_proxy.rules s (os n)) out_is
          (is_seated out_proxy.rules node (os n) going
          (subst (λ (p : Place OutProxy). places.finished out_proxy.rules (os n) p ≡ false) there
          (sym (asked Absent (places.finished out_proxy.rules (os n)) world.company.outs n)
          ∙ rest.unfinished (os n) side.Client up))
          (ap (λ (s : Shell OutProxy). out_proxy.rules.was_up s.role (os n)) out_is
          ∙ (law.outs_know config n (h.outs n) (os n) out_accepted).known
          (came_up_at (os n) up side.Client))
          (subst (λ (p : Place OutProxy). PutsNoneThere out_proxy.rules p (os n)) there
          ((puts_none (os n) up).outs n side.Client refl)))

      out_spells : spelled (of_leg (os n) passing_out.put) ≡ drew (who.Out n) (os n)
      out_spells =
          let drawn = drawn_on out_proxy.rules made_out (os n) (h.outs n) in
          (flow.flows.outs n).left (os n) out_seated.end (ap (is_refused_on (os n)) out_goes)
          out_seated.at
          ∙ ap (λ (begun : List ℕ). drawn ++ begun) out_seated.begun ∙ append-nil drawn
          ∙ sym (ap (λ (s : Shell OutProxy). drawn_on out_proxy.rules s (os n) (h.outs n)) out_made)

      out_took : of_leg (os n) passing_out.came
          ≡ messages_read (Some OsD) (h.fed (who.Out n) (os n))
      out_took =
          (((flow.flows.outs n).seats (os n) out_seated.end out_goes out_seated.at).reads
          out_seated.of_use
          (law.outs_read config ranges world by n (os n) out_goes out_seated.end out_seated.at)).all
          ∙ ap (messages_read (Some OsD))
          (subst (λ (p : Place OutProxy). IsHeard p (heard_on (os n) (h.outs n))
          (h.fed (who.Out n) (os n))) there (known.traced.heard.outs n (os n)))

      pub came_down_there : of_leg (os n) passing_out.came
          ≡ all_read_of (of_leg (os n) serving.put)
      came_down_there =
          all_came (os n) D (Some OsD) (of_leg (os n) serving.put) (of_leg (os n) passing_out.came) up
          (flow.begun.server_out n)
          (leg_reads_back server_legible.pipe_put (os n) serving.put flow.legible.server.read_back)
          (server_spells (os n) side.Server refl up) out_took

      pub came_from_there : of_leg (os n) serving.came
          ≡ all_read_of (of_leg (os n) passing_out.put)
      came_from_there =
          all_came (os n) U (Some OsU) (of_leg (os n) passing_out.put) (of_leg (os n) serving.came) up
          (flow.begun.out_server n)
          (leg_reads_back out_legible.pipe_put (os n) passing_out.put
          (flow.legible.outs n).read_back)
          out_spells (server_took (os n) side.Server refl up)

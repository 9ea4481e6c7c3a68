-- a byte that closes a node of a world since what came is amiss: at the moment before it, the role
-- of the node refuses the next message that was put at the other end of the leg
use Rattle.law_order.proofs.Vocabulary.{◌≡◌, ℕ, List, [], inl, inr, refl, sym, ap, ◌∙◌, subst, Some, AllByRecursion, Option}
use Rattle.rh_record.specs.declared.answer.Who.TheVariants as who
use Rattle.rh_shell.specs.declared.stage.Stage.TheVariants as stage
use Rattle.rh_inproxy.specs.Machine as in_proxy
use Rattle.rh_inproxy.specs.State as in_state
use Rattle.rh_outproxy.specs.Machine as out_proxy
use Rattle.rh_client.specs.Client as client
use Rattle.rh_client.specs.State as client_state
use Rattle.rh_server.specs.Servers as server
use Rattle.law_moves.proofs.Vocabulary.{Dir, Pipe, ClientConfig, in_request, out_request, Cause, Leg, LegKind, ClientOut, OutServer, ClientIn, InServer, Refused, Going, is_whole_head, NearEnd, Message, Text, Pdu, Packet, Rules, Shell, begun, end_at, EndPassage, Passage, of_leg, IsWholeText, Answers, ReadsWell}
use Rattle.law_moves.proofs.Legible.Each.{each_so}
use Rattle.law_role_inproxy.proofs.Vocabulary.{InProxy}
use Rattle.law_role_client.proofs.Vocabulary.{ClientRole, client_moved}
use Rattle.law_role_server.proofs.Vocabulary.{Server}
use Rattle.law_node_history.proofs.Vocabulary.{Who, reader_of, receiver, Comes, Here, Makers, World, at, IsTraced, LegsComeUpOnce, AreAccepted, AreAcceptedAtEnd, ComesUpOnce, ComesUpOnceAtEnd, events_of, happened, heard_on, IsFed, MayChange, History, in_place, out_place}
use Rattle.law_node_causes.specs.Closings.{ClosesWith}
use Rattle.law_role_outproxy.proofs.Vocabulary.{ROOMS, OutProxyConfig, OutProxy, new_proxy}
use Rattle.law_node_streams.specs.Streams.{HasPipes}
use Rattle.law_peers_moments.specs.Moments.{Passages}
use Rattle.law_node_begins.specs.EndsBegin.{Asks}
use Rattle.law_node_begins.specs.ProxiesBegin.Pipes.{in_pipe}
use Rattle.law_node_traces.proofs.Vocabulary.{ByChanges, HearInTurn, AreOurs, deeds, rules}
use Rattle.law_peers_routes.specs.Downwards as down
use Rattle.law_world_order.proofs.Heard.{node_reads, reads_on}
use Rattle.law_world_order.proofs.Legs.{Reads}
use Rattle.law_world_order.proofs.Vocabulary.{IsFlowing, numbers_of, read_on}
use Rattle.law_world_windows.proofs.Moment.{behind}
use Rattle.law_world_windows.specs.Known.{Laws, NodeLaws, Readings}
use Rattle.law_world_expected.proofs.Amiss.Bytes.{HaveNames}
use Rattle.law_world_expected.proofs.Amiss.Known.{end_knows, node_knows}
use Rattle.law_world_expected.proofs.Amiss.Moments.{AllFlow, AmissThen, OfStreams, client_shell, client_then, fed_bytes, flows, in_shell, in_then, once, out_shell, out_then, passages, put_there, server_shell, server_then, story, traced, turns, world}
use Rattle.law_world_expected.proofs.Amiss.Next.{KnowsEnd, amiss_next}
use Rattle.law_world_expected.proofs.Amiss.Pings.{IsHead}
use Rattle.law_world_expected.proofs.Amiss.Sources.{leg_pinged}
use Rattle.law_world_expected.specs.Amiss.{AmissNext, amiss_by}
use Rattle.law_world_expected.specs.Known.{ClientKnows, RolesKnow}

-- ---- what is read at first

-- what an out proxy reads at first it reads always
out_reads : RolesKnow → (config : OutProxyConfig)
    → HasPipes out_proxy.rules (new_proxy config) (down.proxy_reads config)
out_reads law config moves leg allowed =
    law.out_pipes config moves leg allowed ∙ sym (law.out_pipes config [] leg tt)

-- a text by which a client asks is a whole head
request_whole : RolesKnow → (config : ClientConfig) (kind : LegKind) (message : Message)
    → Asks config kind message → IsHead message
request_whole law config ClientIn (Text text) is =
    subst (IsWholeText is_whole_head) (sym is) (law.in_request config)
request_whole law config ClientOut (Text text) (inl is) =
    subst (IsWholeText is_whole_head) (sym is) (law.out_request config _)
request_whole law config ClientOut (Text text) (inr is) =
    subst (IsWholeText is_whole_head) (sym is) (law.out_request config _)
request_whole law config OutServer (Text text) is = absurd is
request_whole law config InServer (Text text) is = absurd is
request_whole law config kind (Pdu pdu) is = tt
request_whole law config kind (Packet named) is = tt

module _ {K : Type 0} (roles : RolesKnow) (law_reads : Reads) (readings : Readings)
    (m : Makers K InProxy OutProxy) (w v : World K ClientRole Server InProxy OutProxy)
    (ours : AreOurs m w.company w.cast) (law : Laws m w ours)
    (Holds : OfStreams (numbers_of ours) w) (flow : AllFlow m w ours Holds)
    (by : ByChanges rules m deeds w v) (leg : Leg) (dir : Dir)
    (may : (count : ℕ) → MayChange rules v (IsFed leg dir count)) where
  -- behind so many bytes
  module _ (k : ℕ) where
    abbrev pub world_then : World K ClientRole Server InProxy OutProxy
    world_then = world law_reads readings m w v ours law Holds flow by leg dir may k

    abbrev pub story_then : History
    story_then = story law_reads readings m w v ours law Holds flow by leg dir may k

    abbrev pub flows_then : IsFlowing (numbers_of ours) w world_then story_then
    flows_then = flows law_reads readings m w v ours law Holds flow by leg dir may k

    abbrev pub passages_then : Passages
    passages_then = passages law_reads readings m w v ours law Holds flow by leg dir may k

    abbrev client_node : Shell ClientRole
    client_node = client_shell law_reads readings m w v ours law Holds flow by leg dir may k

    abbrev server_node : Shell Server
    server_node = server_shell law_reads readings m w v ours law Holds flow by leg dir may k

    abbrev in_node : ℕ → Shell InProxy
    in_node n = in_shell law_reads readings m w v ours law Holds flow by leg dir may k n

    abbrev pub out_node : ℕ → Shell OutProxy
    out_node n = out_shell law_reads readings m w v ours law Holds flow by leg dir may k n

    -- what was put at the other end of the leg
    abbrev pub put_then : List Message
    put_then = put_there law_reads readings m w v ours law Holds flow by leg dir may k

    traced_then : IsTraced rules m deeds w.company world_then story_then
    traced_then = traced law_reads readings m w v ours law Holds flow by leg dir may k

    turns_then : HearInTurn story_then
    turns_then = turns law_reads readings m w v ours law Holds flow by leg dir may k

    once_then : LegsComeUpOnce rules m deeds w.company world_then.cast
    once_then = once law_reads readings m w v ours law Holds flow by leg dir may k

    heads : (one : Leg) → AllByRecursion IsHead (of_leg one passages_then.client.put)
    heads one =
        let f = flows_then.flows.client in
        subst (λ (p : EndPassage ClientRole). AllByRecursion IsHead (of_leg one p.passage.put))
        f.leads.reached
        (each_so (Asks ours.config one.kind) IsHead (request_whole roles ours.config one.kind)
        (of_leg one (client_moved ours.config f.leads.moves).passage.put)
        (roles.asks ours.config f.leads.moves one f.leads.allowed))

  module _ (r : Refused) (well : Answers) (named : HaveNames well r)
      (fits : (next : ℕ) → ReadsWell well (read_on leg.kind dir)
      (heard_on leg (events_of (behind m w v ours law by leg dir may next)
      (at v leg (receiver dir))))) (why : Cause) (tells : amiss_by why ≡ Some r) (count : ℕ)
      (node : Who) (here : at v leg (receiver dir) ≡ node) where
    abbrev Then : {S : Type 0} → Rules S → (k : ℕ) → Passage S → Shell S → List ℕ → Type 0
    Then =
        AmissThen law_reads readings m w v ours law Holds flow by leg dir may r well named fits why
        tells count node here

    -- at the moment before the byte
    next : {S : Type 0} (its : Rules S) (k : ℕ) (p : Passage S) (s : Shell S) (heard : List ℕ)
        → ((end : NearEnd) → s.course ≡ Going → end_at s leg ≡ Some end
        → KnowsEnd its s.role (read_on leg.kind dir) leg heard end)
        → Then its k p s heard → AmissNext its p leg (read_on leg.kind dir) (put_then k) r
    next its k p s heard knows was =
        amiss_next its p s was.role leg (read_on leg.kind dir) r (put_then k) heard was.byte
        knows was.stops (λ ping none first.
        leg_pinged law_reads m w (world_then k) ours (story_then k) (flows_then k) (heads k) r
        was.stops.end.count heard was.byte v.readers leg dir was.drew ping none first)

    reads_here : node_reads ours node leg ≡ read_on leg.kind dir
    reads_here =
        ap (λ (x : Who). node_reads ours x leg) (sym here)
        ∙ sym (reads_on ours (reader_of v.readers leg.number) leg.number leg.kind dir)

    abbrev fed : List ℕ
    fed =
        fed_bytes law_reads readings m w v ours law Holds flow by leg dir may r well named fits why
        tells count node here

    -- the client
    module _ (client_roles : ClientKnows) (law_node : NodeLaws client.rules)
        (is : node ≡ who.Client)
        (closes : ClosesWith client.rules v.company.client (Comes leg fed) why) where
      client_knows : (k : ℕ) (end : NearEnd)
          → (let s = client_node k in
          s.course ≡ Going → end_at s leg ≡ Some end
          → KnowsEnd client.rules s.role (read_on leg.kind dir) leg
          (heard_on leg (happened (story_then k).client)) end)
      client_knows k end going at =
          let events = (story_then k).client in
          subst (λ (pipe : Option Pipe).
          KnowsEnd client.rules (client_node k).role pipe leg (heard_on leg (happened events)) end)
          (sym (ap (λ (x : Who). node_reads ours x leg) is) ∙ reads_here)
          (end_knows client.rules client.acts (client_state.first ours.config) client.rooms
          down.client_reads (λ s one. refl) client_roles.refuses (client_roles.unused ours.config)
          (subst (λ (x : Shell ClientRole). ComesUpOnceAtEnd client.rules client.acts x) ours.client
          (once_then k).client) (client_roles.legs ours.config) events
          (subst (λ (x : Shell ClientRole). AreAcceptedAtEnd client.rules client.acts x events)
          ours.client (traced_then k).accepted.client) (turns_then k).client leg end going at)

      pub client_next : (k : ℕ) × AmissNext client.rules (passages_then k).client leg
          (read_on leg.kind dir) (put_then k) r
      client_next =
          let was = client_then law_reads readings m w v ours law Holds flow by leg dir may r well
          named fits why tells count node here law_node is closes in (
            was.0,
            next client.rules was.0 (passages_then was.0).client (client_node was.0)
                (heard_on leg (happened (story_then was.0).client)) (client_knows was.0) was.1,
          )

    -- an in proxy
    module _ (law_node : NodeLaws in_proxy.rules) (n : ℕ) (is : node ≡ who.In n)
        (shell : Shell InProxy) (up : ℕ) (there : in_place v.company n ≡ Here shell up)
        (closes : ClosesWith in_proxy.rules shell (Comes leg fed) why) where
      in_knows : (k : ℕ) (end : NearEnd)
          → (let s = in_node k n in
          s.course ≡ Going → end_at s leg ≡ Some end
          → KnowsEnd in_proxy.rules s.role (read_on leg.kind dir) leg
          (heard_on leg ((story_then k).ins n)) end)
      in_knows k end going at =
          let config = ours.in_config n in
          let events = (story_then k).ins n in
          let made : m.in_proxy (world_then k).cast n
          ≡ begun (in_state.first (ours.in_config n)) in_proxy.rooms =
          ap (λ (c : K). m.in_proxy c n) (flows_then k).cast ∙ ours.ins n in
          subst (λ (pipe : Option Pipe).
          KnowsEnd in_proxy.rules (in_node k n).role pipe leg (heard_on leg events) end)
          (sym (ap (λ (x : Who). node_reads ours x leg) is) ∙ reads_here)
          (node_knows in_proxy.rules (in_state.first (ours.in_config n)) in_proxy.rooms
          (in_pipe config) (roles.in_pipes config) (roles.in_unused config)
          (subst (λ (x : Shell InProxy). ComesUpOnce in_proxy.rules x) made
          ((once_then k).ins n)) (roles.in_legs config) events
          (subst (λ (x : Shell InProxy). AreAccepted in_proxy.rules x events) made
          ((traced_then k).accepted.ins n)) ((turns_then k).ins n) leg end going at)

      pub in_next : (k : ℕ) × AmissNext in_proxy.rules ((passages_then k).ins n) leg
          (read_on leg.kind dir) (put_then k) r
      in_next =
          let was = in_then law_reads readings m w v ours law Holds flow by leg dir may r well named
          fits why tells count node here law_node n is shell up there closes in (
            was.0,
            next in_proxy.rules was.0 ((passages_then was.0).ins n) (in_node was.0 n)
                (heard_on leg ((story_then was.0).ins n)) (in_knows was.0) was.1,
          )

    -- an out proxy
    module _ (law_node : NodeLaws out_proxy.rules) (n : ℕ) (is : node ≡ who.Out n)
        (shell : Shell OutProxy) (up : ℕ) (there : out_place v.company n ≡ Here shell up)
        (closes : ClosesWith out_proxy.rules shell (Comes leg fed) why) where
      out_knows : (k : ℕ) (end : NearEnd)
          → (let s = out_node k n in
          s.course ≡ Going → end_at s leg ≡ Some end
          → KnowsEnd out_proxy.rules s.role (read_on leg.kind dir) leg
          (heard_on leg ((story_then k).outs n)) end)
      out_knows k end going at =
          let config = ours.out_config n in
          let events = (story_then k).outs n in
          let made : m.out_proxy (world_then k).cast n
          ≡ begun (new_proxy (ours.out_config n)) ROOMS =
          ap (λ (c : K). m.out_proxy c n) (flows_then k).cast ∙ ours.outs n in
          subst (λ (pipe : Option Pipe).
          KnowsEnd out_proxy.rules (out_node k n).role pipe leg (heard_on leg events) end)
          (sym (ap (λ (x : Who). node_reads ours x leg) is) ∙ reads_here)
          (node_knows out_proxy.rules (new_proxy (ours.out_config n)) ROOMS
          (down.proxy_reads config) (out_reads roles config) (roles.out_unused config)
          (subst (λ (x : Shell OutProxy). ComesUpOnce out_proxy.rules x) made
          ((once_then k).outs n)) (roles.out_legs config) events
          (subst (λ (x : Shell OutProxy). AreAccepted out_proxy.rules x events) made
          ((traced_then k).accepted.outs n)) ((turns_then k).outs n) leg end going at)

      pub out_next : (k : ℕ) × AmissNext out_proxy.rules ((passages_then k).outs n) leg
          (read_on leg.kind dir) (put_then k) r
      out_next =
          let was = out_then law_reads readings m w v ours law Holds flow by leg dir may r well
          named fits why tells count node here law_node n is shell up there closes in (
            was.0,
            next out_proxy.rules was.0 ((passages_then was.0).outs n) (out_node was.0 n)
                (heard_on leg ((story_then was.0).outs n)) (out_knows was.0) was.1,
          )

      -- and by the leg's end, at which frames come
      pub record OutAmiss : Type 0 where
        pub count_then : ℕ
        pub end : NearEnd
        pub going : (out_node count_then n).course ≡ Going
        pub at : end_at (out_node count_then n) leg ≡ Some end
        pub frames : end.intake.stage ≡ stage.Frames
        pub amiss_there : AmissNext out_proxy.rules ((passages_then count_then).outs n) leg
            (read_on leg.kind dir) (put_then count_then) r

      pub out_amiss : OutAmiss
      out_amiss =
          let was = out_then law_reads readings m w v ours law Holds flow by leg dir may r well
          named fits why tells count node here law_node n is shell up there closes in
          record {
            count_then = was.0;
            end = was.1.stops.end;
            going = was.1.stops.going;
            at = was.1.stops.at;
            frames = was.1.stops.frames;
            amiss_there =
                next out_proxy.rules was.0 ((passages_then was.0).outs n) (out_node was.0 n)
                (heard_on leg ((story_then was.0).outs n)) (out_knows was.0) was.1;
          }

    -- the server
    module _ (law_node : NodeLaws server.rules) (is : node ≡ who.Server)
        (closes : ClosesWith server.rules v.company.server (Comes leg fed) why) where
      server_knows : (k : ℕ) (end : NearEnd)
          → (let s = server_node k in
          s.course ≡ Going → end_at s leg ≡ Some end
          → KnowsEnd server.rules s.role (read_on leg.kind dir) leg
          (heard_on leg (happened (story_then k).server)) end)
      server_knows k end going at =
          let events = (story_then k).server in
          subst (λ (pipe : Option Pipe).
          KnowsEnd server.rules (server_node k).role pipe leg (heard_on leg (happened events)) end)
          (sym (ap (λ (x : Who). node_reads ours x leg) is) ∙ reads_here)
          (end_knows server.rules server.acts (server.first ours.window) server.rooms
          down.server_reads (λ s one. refl) roles.server_refuses (roles.server_unused ours.window)
          (subst (λ (x : Shell Server). ComesUpOnceAtEnd server.rules server.acts x) ours.server
          (once_then k).server) (roles.server_legs ours.window) events
          (subst (λ (x : Shell Server). AreAcceptedAtEnd server.rules server.acts x events)
          ours.server (traced_then k).accepted.server) (turns_then k).server leg end going at)

      pub server_next : (k : ℕ) × AmissNext server.rules (passages_then k).server leg
          (read_on leg.kind dir) (put_then k) r
      server_next =
          let was = server_then law_reads readings m w v ours law Holds flow by leg dir may r well
          named fits why tells count node here law_node is closes in (
            was.0,
            next server.rules was.0 (passages_then was.0).server (server_node was.0)
                (heard_on leg (happened (story_then was.0).server)) (server_knows was.0) was.1,
          )

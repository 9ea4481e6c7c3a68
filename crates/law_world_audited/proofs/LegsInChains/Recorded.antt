-- the legs of a recording of roles stand in chains
use Rattle.law_order.proofs.Vocabulary.{◌≡◌, ℕ, List, [], ◌∷◌, ◌++◌, map, true, false, refl, sym, ap, ◌∙◌, subst, append-nil, Some, None, Option, AllByRecursion, IsPrefix}
use Rattle.std.specs.List.{flat_map}
use Rattle.rh_record.specs.declared.answer.Who.TheVariants as who
use Rattle.rh_audit.specs.declared.packet.Met.{Met}
use Rattle.rh_audit.specs.declared.seen.Seen.{Seen}
use Rattle.rh_audit.specs.Audits.{AreTags, is_left, unchained_in}
use Rattle.rh_audit.specs.Captures.{bytes_on}
use Rattle.rh_audit.specs.Pipes.{first_pipe}
use Rattle.rh_audit.specs.Streams.{mets, stream, stream_is}
use Rattle.rh_capture.specs.Captured.{captured}
use Rattle.rh_capture.specs.Legs.{tag_of}
use Rattle.rh_capture.specs.Moves.{pipe_of}
use Rattle.rh_world.specs.Roles as roles
use Rattle.law_moves.proofs.Vocabulary.{Dir, D, U, OsD, prefix_trans, Pipe, Leg, LegKind, ClientOut, OutServer, ClientIn, InServer, EndPassage, Passage, Message, spelled, of_leg, all_read_of, spell, messages_read, messages_from, begin, reading_after}
use Rattle.law_moves.proofs.Lemmas.{read_behind}
use Rattle.law_role_inproxy.proofs.Vocabulary.{InProxy}
use Rattle.law_role_client.proofs.Vocabulary.{ClientRole}
use Rattle.law_role_server.proofs.Vocabulary.{Server}
use Rattle.law_role_outproxy.proofs.Vocabulary.{OutProxy}
use Rattle.law_node_history.proofs.Vocabulary.{Answer, Line, First, Who, reader_of, receiver, leg_at, IsTraced, Place, Absent, Here, Gone, IsHeard, IsRun, in_place, out_place, end_node, events_of, happened, heard_on, History, HaveOwnCookies, DrawnByLines, AreLeft}
use Rattle.law_node_traces.specs.Traced.Recordings.{IsKnown}
use Rattle.law_world_reports.proofs.Vocabulary.{AnyWorld, Before, Direct, Settings, Roles, WorldConfig, after, answers}
use Rattle.law_world_reports.specs.ToldHistories.{IsLedTo, history_of}
use Rattle.law_world_order.proofs.Distinct.{own_distinct}
use Rattle.law_world_order.proofs.Heard.{node_reads, reads_on}
use Rattle.law_world_order.specs.Flows.{read_on}
use Rattle.law_world_order.specs.Pasts.{moves_of, numbers}
use Rattle.law_world_order.specs.Premises.{AreDistinct}
use Rattle.law_peers_moments.specs.Moments.{IsMoment, Moves, Numbers, Passages, came_to, passages}
use Rattle.law_audit.specs.Chains.Successors.{AreSuccessors, AreTagged, IsChained, IsTag, mets_of_leg}
use Rattle.law_peers_chains.specs.Turns.{BeginInTurn, HaveOwn}
use Rattle.law_audit.specs.Streams.Put.{behind_text}
use Rattle.law_peers_chains.specs.Shown.{AreShown, IsShown, came_up, put_up}
use Rattle.law_world_audited.specs.Moving.Moved.{moved_on}
use Rattle.law_world_audited.specs.Moving.Sent.{IsOf, sent_on}
use Rattle.law_world_audited.specs.Moving.Streams.{TellsStreams, TellsStreamsIn, TellsStreamsOf}
use Rattle.law_world_audited.specs.Moving.Tagged.{IsLineOf, is_met, legs_met}
use Rattle.law_world_audited.specs.LegsInChains.Chained.{IsAllBack, IsMost, TellsChains, TellsChainsIn, TellsChainsOf, tag_at}
use Rattle.law_world_audited.proofs.LegsInChains.Seen.{SeenLaws, behind_no_texts, came_there, shown}
use Rattle.law_world_audited.proofs.LegsInChains.Tagging.{are_tagged, sum_most, sum_of}

-- ---- pipes towards the server

first_up : (kind : LegKind) → pipe_of kind U ≡ Some (first_pipe kind)
first_up ClientIn = refl
first_up InServer = refl
first_up ClientOut = refl
first_up OutServer = refl

read_up : (kind : LegKind) → read_on kind U ≡ Some (first_pipe kind)
read_up ClientIn = refl
read_up InServer = refl
read_up ClientOut = refl
read_up OutServer = refl

front_up : (kind : LegKind) (put : List Message) (bytes : List ℕ)
    → IsOf (first_pipe kind) put bytes → IsPrefix bytes (spelled put)
front_up ClientIn put bytes p = p
front_up InServer put bytes p = p
front_up ClientOut put bytes p = p
front_up OutServer put bytes p = p

-- what is read of a front of bytes is a front of what is read of them
read_more : (pipe : Option Pipe) (heard bytes : List ℕ) → IsPrefix heard bytes
    → IsPrefix (messages_read pipe heard) (messages_read pipe bytes)
read_more pipe heard bytes p = (
  messages_from pipe (reading_after pipe (begin pipe) heard) p.0,
  sym (read_behind pipe (begin pipe) heard p.0) ∙ ap (messages_read pipe) p.1,
)

heard_front : {T : Type 0} (p : Place T) (heard fed : List ℕ) → IsHeard p heard fed
    → (p ≡ Absent → heard ≡ []) → IsPrefix heard fed
heard_front Absent heard fed k absent = (fed, ap (λ (x : List ℕ). x ++ fed) (absent refl))
heard_front (Here node legs) heard fed k absent = ([], append-nil heard ∙ k)
heard_front (Gone now) heard fed k absent = k

-- ---- the laws that this stands on

pub record Laws : Type 0 where
  pub seen : SeenLaws
  pub empty : (pipe : Pipe) → stream pipe [] ≡ stream_is [] None
  pub chains : (kind : LegKind) (seen : List Seen) (tags : List ℕ) (tag : ℕ → ℕ) (most : ℕ)
      → AreTagged kind seen tags tag most
      → AreSuccessors (λ n. mets_of_leg kind seen (tag n)) → IsChained kind seen tags tag most
  pub succeed : (numbers : Numbers) (reader : ℕ → ℕ) (moves : Moves)
      → IsMoment numbers reader moves → (kind : LegKind) (mets : ℕ → List Met)
      → AreShown numbers reader moves kind mets → AreSuccessors mets
  pub turn : (numbers : Numbers) (reader : ℕ → ℕ) (moves : Moves)
      → IsMoment numbers reader moves → (kind : LegKind) (mets : ℕ → List Met)
      → AreShown numbers reader moves kind mets → BeginInTurn kind reader mets
  pub have_own : (numbers : Numbers) (reader : ℕ → ℕ) (moves : Moves)
      → IsMoment numbers reader moves → (kind : LegKind) (mets : ℕ → List Met)
      → AreShown numbers reader moves kind mets → HaveOwn kind reader mets
  pub none_told : (seen : List Seen) (tags : List ℕ)
      → ((kind : LegKind) (tag : ℕ) → IsTag tag tags → is_left seen tags tag kind ≡ false)
      → flat_map (unchained_in seen tags) tags ≡ []
  pub bytes : (report : List Answer) (leg : Leg) (dir : Dir) (pipe : Pipe)
      → pipe_of leg.kind dir ≡ Some pipe
      → bytes_on (tag_of (legs_met report) leg) pipe (captured report) ≡ moved_on leg dir report
  pub lines : (report : List Answer)
      → AllByRecursion (IsLineOf (legs_met report)) (captured report)
  pub own : (legs : List Leg) (leg other : Leg) → is_met legs leg ≡ true
      → tag_of legs leg ≡ tag_of legs other → leg ≡ other
  pub known : (config : WorldConfig) (world : roles.World) (by : IsLedTo config world)
      → IsKnown roles.makers (roles.begun config) world by.leads
  pub distinct : (config : WorldConfig) (world : roles.World)
      → (by : DrawnByLines roles.rules roles.makers roles.deeds (roles.begun config) world)
      → AreDistinct (happened (history_of config world by.works).client)

-- ---- a world of roles

module _ (law : Laws) (answered : List Answer) (world : roles.World)
    (told : TellsStreams answered world) where
  abbrev config : WorldConfig
  config = told.told.told.config

  abbrev h : History
  h = history_of config world told.told.told.by

  abbrev all_numbers : Numbers
  all_numbers = numbers told.told.ours

  abbrev moves : Moves
  moves = moves_of told.told.flowing

  abbrev all : Passages
  all = passages all_numbers moves

  abbrev reader : ℕ → ℕ
  reader = reader_of world.readers

  -- ---- what came

  came_read : (node : Who) (leg : Leg)
      → IsPrefix (of_leg leg (came_to all node))
      (messages_read (node_reads told.told.ours node leg) (heard_on leg (events_of h node)))
  came_read who.Client leg =
      let flow = told.told.flowing.flows.client in
      subst (λ (p : EndPassage ClientRole). IsPrefix (of_leg leg p.passage.came)
      (messages_read (node_reads told.told.ours who.Client leg) (heard_on leg (happened h.client))))
      (sym flow.leads.reached) (flow.read leg)
  came_read who.Server leg =
      let flow = told.told.flowing.flows.server in
      subst (λ (p : EndPassage Server). IsPrefix (of_leg leg p.passage.came)
      (messages_read (node_reads told.told.ours who.Server leg) (heard_on leg (happened h.server))))
      (sym flow.leads.reached) (flow.read leg)
  came_read (who.In n) leg =
      let flow = told.told.flowing.flows.ins n in
      subst (λ (p : Passage InProxy). IsPrefix (of_leg leg p.came)
      (messages_read (node_reads told.told.ours (who.In n) leg) (heard_on leg (h.ins n))))
      (sym flow.leads.reached) (flow.read leg)
  came_read (who.Out n) leg =
      let flow = told.told.flowing.flows.outs n in
      subst (λ (p : Passage OutProxy). IsPrefix (of_leg leg p.came)
      (messages_read (node_reads told.told.ours (who.Out n) leg) (heard_on leg (h.outs n))))
      (sym flow.leads.reached) (flow.read leg)

  abbrev Traced : Type 0
  Traced = IsTraced roles.rules roles.makers roles.deeds (roles.begun config).company world h

  -- what a node heard is a front of what it was fed
  fed_front : Traced → (node : Who) (leg : Leg)
      → IsPrefix (heard_on leg (events_of h node)) (h.fed node leg)
  fed_front t who.Client leg =
      ([], append-nil (heard_on leg (happened h.client)) ∙ t.heard.client leg)
  fed_front t who.Server leg =
      ([], append-nil (heard_on leg (happened h.server)) ∙ t.heard.server leg)
  fed_front t (who.In n) leg =
      heard_front (in_place world.company n) (heard_on leg (h.ins n)) (h.fed (who.In n) leg)
      (t.heard.ins n leg) (λ absent. ap (heard_on leg)
      (subst (λ (p : Place InProxy).
      IsRun roles.rules.in_proxy (roles.makers.in_proxy world.cast n) (h.ins n) p) absent
      (t.runs.ins n)))
  fed_front t (who.Out n) leg =
      heard_front (out_place world.company n) (heard_on leg (h.outs n)) (h.fed (who.Out n) leg)
      (t.heard.outs n leg) (λ absent. ap (heard_on leg)
      (subst (λ (p : Place OutProxy).
      IsRun roles.rules.out_proxy (roles.makers.out_proxy world.cast n) (h.outs n) p) absent
      (t.runs.outs n)))

  module _ (kind : LegKind) (n : ℕ) where
    abbrev leg : Leg
    leg = leg_at kind n

    abbrev moved : List ℕ
    moved = moved_on leg U answered

    -- all that came there is read in what moved
    came_moved : Traced → IsPrefix (came_up all reader kind n)
        (messages_read (Some (first_pipe kind)) moved)
    came_moved t =
        let takes = end_node world.readers leg (receiver U) in
        let heard = heard_on leg (events_of h takes) in
        let on = subst (λ (pipe : Option Pipe). IsPrefix (of_leg leg (came_to all takes))
        (messages_read pipe heard))
        (sym (reads_on told.told.ours (reader n) n kind U) ∙ read_up kind) (came_read takes leg) in
        let fed = subst (IsPrefix heard) (sym (told.told.told.moved leg U)) (fed_front t takes leg)
        in
        prefix_trans (of_leg leg (came_to all takes)) _ _ on
        (read_more (Some (first_pipe kind)) heard moved fed)

    shown_there : Traced → IsShown (put_up all reader kind n) (came_up all reader kind n)
        (mets_of_leg kind (captured answered) (tag_at answered kind n))
    shown_there t =
        let pipe = first_pipe kind in
        let is = first_up kind in
        let sent = told.told.sent leg U pipe is in
        let here = shown law.seen pipe (put_up all reader kind n) (came_up all reader kind n) moved
        sent.begins sent.may_go (front_up kind (put_up all reader kind n) moved sent.of_put)
        (told.streams leg U pipe is) (told.begins leg U pipe is) (came_moved t) in
        subst (λ (bytes : List ℕ). IsShown (put_up all reader kind n) (came_up all reader kind n)
        (mets pipe (stream pipe bytes))) (sym (law.bytes answered leg U pipe is)) here

    -- by the messages of the stream
    came_in : Traced → (front : List Message)
        → IsPrefix front (behind_text (put_up all reader kind n))
        → stream (first_pipe kind) moved ≡ stream_is (map spell front) None
        → IsPrefix (came_up all reader kind n) (all_read_of front)
    came_in t front of_put is =
        let pipe = first_pipe kind in
        let up = first_up kind in
        let sent = told.told.sent leg U pipe up in
        came_there law.seen pipe (put_up all reader kind n) (came_up all reader kind n) moved
        sent.begins sent.may_go (front_up kind (put_up all reader kind n) moved sent.of_put)
        (record { front = front; of_messages = of_put; is = is }) (told.begins leg U pipe up)
        (behind_no_texts (Some pipe) (put_up all reader kind n) sent.begins) (came_moved t)

  -- from the server to an out proxy
  module _ (n : ℕ) where
    abbrev os : Leg
    os = leg_at OutServer n

    came_down : Traced → IsPrefix (of_leg os (came_to all (end_node world.readers os (receiver D))))
        (messages_read (Some OsD) (moved_on os D answered))
    came_down t =
        let takes = end_node world.readers os (receiver D) in
        let heard = heard_on os (events_of h takes) in
        let on = subst (λ (pipe : Option Pipe). IsPrefix (of_leg os (came_to all takes))
        (messages_read pipe heard))
        (sym (reads_on told.told.ours (reader n) n OutServer D)) (came_read takes os) in
        let fed = subst (IsPrefix heard) (sym (told.told.told.moved os D)) (fed_front t takes os) in
        prefix_trans (of_leg os (came_to all takes)) _ _ on
        (read_more (Some OsD) heard (moved_on os D answered) fed)

    back_in : Traced → (front : List Message) → IsAllBack answered world told n front
    back_in t front of_put is =
        let put = sent_on all world.readers os D in
        let sent = told.told.sent os D OsD refl in
        came_there law.seen OsD put (of_leg os (came_to all (end_node world.readers os (receiver D))))
        (moved_on os D answered) sent.begins sent.may_go sent.of_put
        (record { front = front; of_messages = of_put; is = is }) (told.begins os D OsD refl)
        (behind_no_texts (Some OsD) put sent.begins) (came_down t)

  -- ---- chains

  module _ (traced : Traced) (moment : IsMoment all_numbers reader moves) where
    chained : (kind : LegKind) (tags : List ℕ) (most : ℕ) → AreTags (captured answered) tags
        → IsMost most (legs_met answered)
        → IsChained kind (captured answered) tags (tag_at answered kind) most
    chained kind tags most are is_most =
        law.chains kind (captured answered) tags (tag_at answered kind) most
        (are_tagged kind (captured answered) tags (legs_met answered) most are is_most
        (law.lines answered) law.own (law.empty (first_pipe kind)))
        (law.succeed all_numbers reader moves moment kind
        (λ n. mets_of_leg kind (captured answered) (tag_at answered kind n))
        (λ n. shown_there kind n traced))

    chains_told : TellsChains answered world
    chains_told = record {
      told = told;
      moment = moment;
      came = λ kind n front of is. came_in kind n traced front of is;
      came_back = λ n front. back_in n traced front;
      chained = chained;
      none_left = λ tags are.
          law.none_told (captured answered) tags (λ kind.
          (chained kind tags (sum_of (legs_met answered)) are
          (sum_most (legs_met answered))).none_left);
      turns = λ kind.
          law.turn all_numbers reader moves moment kind
          (λ n. mets_of_leg kind (captured answered) (tag_at answered kind n))
          (λ n. shown_there kind n traced);
      own = λ kind.
          law.have_own all_numbers reader moves moment kind
          (λ n. mets_of_leg kind (captured answered) (tag_at answered kind n))
          (λ n. shown_there kind n traced);
    }

  tells_chains : TellsChains answered world
  tells_chains =
      chains_told (law.known config world told.told.told.by).traced
      (told.told.moment (law.distinct config world
      (record { works = told.told.told.by; drawn = told.told.told.drawn })))

-- ---- recordings

module _ (law : Laws) where
  chains_in : (answered : List Answer) (world : AnyWorld) → TellsStreamsIn answered world
      → TellsChainsIn answered world
  chains_in answered Before told = tt
  chains_in answered (Direct world) told = tt
  chains_in answered (Settings config) told = tt
  chains_in answered (Roles world) told = tells_chains law answered world told

  pub recording_chains : ((behind : List Line) → TellsStreamsOf (First true ∷ behind))
      → (behind : List Line) → TellsChainsOf (First true ∷ behind)
  recording_chains streams behind =
      chains_in (answers Before (First true ∷ behind)) (after Before (First true ∷ behind))
      (streams behind)

-- ---- cookies

module _ (own : (config : WorldConfig) (world : roles.World)
    → (by : DrawnByLines roles.rules roles.makers roles.deeds (roles.begun config) world)
    → AreLeft world.cookies
    → HaveOwnCookies (happened (history_of config world by.works).client)) where
  pub distinct_by : (config : WorldConfig) (world : roles.World)
      → (by : DrawnByLines roles.rules roles.makers roles.deeds (roles.begun config) world)
      → AreLeft world.cookies
      → AreDistinct (happened (history_of config world by.works).client)
  distinct_by config world by left =
      own_distinct (happened (history_of config world by.works).client) (own config world by left)

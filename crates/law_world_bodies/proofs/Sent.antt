-- what is fed to a node closes it with no body that is too long
use Rattle.rh_text.specs.declared.ends.Side.TheVariants as side
use Rattle.law_order.proofs.Vocabulary.{◌≡◌, ℕ, suc, List, ◌++◌, refl, sym, ap, ◌∙◌, subst, Some, None, Option, IsPrefix}
use Rattle.rh_line.specs.declared.cause.Cause.TheVariants as cause
use Rattle.rh_record.specs.declared.answer.Who.TheVariants as who
use Rattle.rh_shell.specs.declared.stage.Stage.TheVariants as stage
use Rattle.rh_inproxy.specs.Machine as in_proxy
use Rattle.rh_outproxy.specs.Machine as out_proxy
use Rattle.rh_client.specs.Client as client
use Rattle.rh_server.specs.Servers as server
use Rattle.rh_company.specs.declared.event.Event as told_event
use Rattle.rh_company.specs.Company as company
use Rattle.rh_company.specs.Places as places
use Rattle.law_moves.proofs.Vocabulary.{Dir, U, D, prefix_trans, Pipe, ClientConfig, Cause, Leg, LegKind, ClientOut, OutServer, ClientIn, InServer, is_whole_head, first_stage, Rules, Shell, begun, spelled, EndMove, EndPassage, Event, after_end_events, after_events, of_leg, AllMayGo, IsWholeText}
use Rattle.law_role_inproxy.proofs.Vocabulary.{InProxy}
use Rattle.law_role_client.proofs.Vocabulary.{ClientRole, AreAllowedMoves, client_moved, pipe_put}
use Rattle.law_role_server.proofs.Vocabulary.{Server}
use Rattle.law_node_history.proofs.Vocabulary.{Who, reader_of, receiver, sender, Comes, Place, Absent, Here, Gone, Makers, leg_at, World, at, node_by, IsTraced, drawn_by, end_drawn_on, end_node, events_of, happened, heard_on, IsFed, ClosesNode, History, IsRun, at_place, in_place, made_by, noted, out_place, told_to}
use Rattle.law_node_history.proofs.Lemmas.{happened_more, answered}
use Rattle.law_node_causes.specs.Closings.{ClosesWith}
use Rattle.law_role_outproxy.proofs.Vocabulary.{ROOMS, OutProxy, new_proxy}
use Rattle.law_node_begins.specs.ProxiesBegin.Pipes as pipes
use Rattle.law_node_traces.proofs.Vocabulary.{AreOurs, deeds, rules}
use Rattle.law_peers_routes.specs.Downwards as down
use Rattle.law_world_order.proofs.Heard.{from_client, node_reads, reads_on}
use Rattle.law_world_order.proofs.Vocabulary.{IsFlowing, numbers_of}
use Rattle.law_world_honest.proofs.Honesty.Fed.{fed_piece, hears_is, told_what, told_who}
use Rattle.law_world_bodies.proofs.Fits.{fits_not}
use Rattle.law_world_bodies.specs.Behind.{HasBody, TakesHead}
use Rattle.law_world_bodies.specs.Bodies.{KeepsLength, RequestTells}

-- ---- the laws that this stands on

-- a body that is too long, on a leg of which the pipe is read
abbrev pub IsOver : {S : Type 0} → Rules S → (Leg → Option Pipe) → Leg → List ℕ → Leg → ℕ → Type 0
IsOver rules pipe leg heard named told =
    (named ≡ leg) × HasBody rules (pipe leg) leg heard (suc told) told

-- a node that was this at first closes so, whatever happened there
abbrev pub NodeOver : {S : Type 0} → Rules S → Shell S → (Leg → Option Pipe) → List Event → Type 0
NodeOver rules first pipe events =
    (leg named : Leg) (piece : List ℕ) (count told : ℕ)
    → ClosesWith rules (after_events rules first events) (Comes leg piece)
    (cause.BodyOver named count told)
    → IsOver rules pipe leg (heard_on leg events ++ piece) named told

pub record EachOver (numbers : ClientConfig) : Type 0 where
  pub puts : (moves : List EndMove) → AreAllowedMoves numbers moves
      → AllMayGo pipe_put (client_moved numbers moves).passage.put → (leg : Leg)
      → KeepsLength (RequestTells numbers leg.kind)
      (of_leg leg (client_moved numbers moves).passage.put)
  pub whole : (kind : LegKind) (n : ℕ) (text : List ℕ) → RequestTells numbers kind n text
      → IsWholeText is_whole_head text
  pub in_takes : (leg : Leg) (text : List ℕ) (n told : ℕ) → RequestTells numbers ClientIn n text
      → TakesHead in_proxy.rules leg text told → n ≡ told
  pub out_takes : (leg : Leg) (text : List ℕ) (n told : ℕ) → RequestTells numbers ClientOut n text
      → TakesHead out_proxy.rules leg text told → n ≡ told
  pub client_takes : (leg : Leg) (text : List ℕ) (told : ℕ)
      → TakesHead client.rules leg text told → leg.kind ≡ ClientOut
  pub server_takes : (leg : Leg) (text : List ℕ) (told : ℕ)
      → TakesHead server.rules leg text told → ⊥

module _ {K : Type 0} (m : Makers K InProxy OutProxy)
    (w v : World K ClientRole Server InProxy OutProxy) (ours : AreOurs m w.company w.cast)
    (each : EachOver ours.config) (h : History) (traced : IsTraced rules m deeds w.company v h)
    (flowing : IsFlowing (numbers_of ours) w v h) where
  -- ---- what the client sent

  front_put : (leg : Leg) (heard : List ℕ)
      → IsPrefix heard (drawn_by rules m deeds w.company w.cast h who.Client leg)
      → IsPrefix heard (spelled (of_leg leg flowing.flows.client.passage.passage.put))
  front_put leg heard front =
      prefix_trans heard
      (end_drawn_on client.rules client.acts (client.first_client ours.config) leg h.client)
      (spelled (of_leg leg flowing.flows.client.passage.passage.put))
      (from_client m w.company w.cast ours h leg heard front) (flowing.flows.client.drawn leg)

  pub keeps_put : (leg : Leg) → KeepsLength (RequestTells ours.config leg.kind)
      (of_leg leg flowing.flows.client.passage.passage.put)
  keeps_put leg =
      let leads = flowing.flows.client.leads in
      subst (λ (p : EndPassage ClientRole).
      KeepsLength (RequestTells ours.config leg.kind) (of_leg leg p.passage.put)) leads.reached
      (each.puts leads.moves leads.allowed
      (subst (λ (p : EndPassage ClientRole). AllMayGo pipe_put p.passage.put) (sym leads.reached)
      flowing.legible.client.may_go) leg)

  -- ---- what a proxy hears is no body that is too long

  in_none : (n reader number : ℕ) (kind : LegKind) (dir : Dir) (readers heard : List ℕ)
      (told : ℕ) → node_by reader number kind (receiver dir) ≡ who.In n
      → HasBody in_proxy.rules (pipes.in_pipe (ours.in_config n) (leg_at kind number))
      (leg_at kind number) heard (suc told) told
      → IsPrefix heard (drawn_by rules m deeds w.company w.cast h
      (end_node readers (leg_at kind number) (sender dir)) (leg_at kind number)) → ⊥
  in_none n reader number ClientIn U readers heard told here body front =
      let leg = leg_at ClientIn number in
      fits_not in_proxy.rules (pipes.in_pipe (ours.in_config n) leg) leg heard told
      (RequestTells ours.config ClientIn) (each.whole ClientIn)
      (λ k text. each.in_takes leg text k told) body
      (of_leg leg flowing.flows.client.passage.passage.put) (keeps_put leg)
      (front_put leg heard front)
  in_none n reader number InServer D readers heard told here body front =
      greeted
      (ap first_stage (reads_on ours reader number InServer D
      ∙ ap (λ (x : Who). node_reads ours x (leg_at InServer number)) here) ∙ body.head)
    where
      greeted : stage.Greeting ≡ stage.Head → ⊥
      greeted e = absurd (cc)
  in_none n reader number ClientIn D readers heard told here body front = absurd (cc)
  in_none n reader number InServer U readers heard told here body front = absurd (cc)
  in_none n reader number ClientOut U readers heard told here body front = absurd (cc)
  in_none n reader number ClientOut D readers heard told here body front = absurd (cc)
  in_none n reader number OutServer U readers heard told here body front = absurd (cc)
  in_none n reader number OutServer D readers heard told here body front = absurd (cc)

  out_none : (n reader number : ℕ) (kind : LegKind) (dir : Dir) (readers heard : List ℕ)
      (told : ℕ) → node_by reader number kind (receiver dir) ≡ who.Out n
      → HasBody out_proxy.rules (pipes.out_pipe (ours.out_config n) (leg_at kind number))
      (leg_at kind number) heard (suc told) told
      → IsPrefix heard (drawn_by rules m deeds w.company w.cast h
      (end_node readers (leg_at kind number) (sender dir)) (leg_at kind number)) → ⊥
  out_none n reader number ClientOut U readers heard told here body front =
      let leg = leg_at ClientOut number in
      fits_not out_proxy.rules (pipes.out_pipe (ours.out_config n) leg) leg heard told
      (RequestTells ours.config ClientOut) (each.whole ClientOut)
      (λ k text. each.out_takes leg text k told) body
      (of_leg leg flowing.flows.client.passage.passage.put) (keeps_put leg)
      (front_put leg heard front)
  out_none n reader number OutServer D readers heard told here body front = greeted body.head
    where
      greeted : stage.Greeting ≡ stage.Head → ⊥
      greeted e = absurd (cc)
  out_none n reader number ClientOut D readers heard told here body front = absurd (cc)
  out_none n reader number OutServer U readers heard told here body front = absurd (cc)
  out_none n reader number ClientIn U readers heard told here body front = absurd (cc)
  out_none n reader number ClientIn D readers heard told here body front = absurd (cc)
  out_none n reader number InServer U readers heard told here body front = absurd (cc)
  out_none n reader number InServer D readers heard told here body front = absurd (cc)

  -- nor does the client
  client_none : ((n : ℕ) (pipe : Option Pipe) (heard : List ℕ) (told : ℕ)
      → HasBody client.rules pipe (leg_at ClientOut n) heard (suc told) told
      → IsPrefix heard (drawn_by rules m deeds w.company w.cast h (who.Out n)
      (leg_at ClientOut n)) → ⊥)
      → (reader number : ℕ) (kind : LegKind) (dir : Dir) (readers heard : List ℕ) (told : ℕ)
      → node_by reader number kind (receiver dir) ≡ who.Client
      → HasBody client.rules (down.client_reads (leg_at kind number)) (leg_at kind number) heard
      (suc told) told
      → IsPrefix heard (drawn_by rules m deeds w.company w.cast h
      (end_node readers (leg_at kind number) (sender dir)) (leg_at kind number)) → ⊥
  client_none fits reader number ClientOut D readers heard told here body front =
      fits number (down.client_reads (leg_at ClientOut number)) heard told body front
  client_none fits reader number ClientIn D readers heard told here body front =
      let kind = each.client_takes (leg_at ClientIn number) body.text told body.takes in
      absurd (cc)
  client_none fits reader number ClientOut U readers heard told here body front = absurd (cc)
  client_none fits reader number ClientIn U readers heard told here body front = absurd (cc)
  client_none fits reader number InServer U readers heard told here body front = absurd (cc)
  client_none fits reader number InServer D readers heard told here body front = absurd (cc)
  client_none fits reader number OutServer U readers heard told here body front = absurd (cc)
  client_none fits reader number OutServer D readers heard told here body front = absurd (cc)

  -- ---- a piece

  module _
      (fits : (n : ℕ) (pipe : Option Pipe) (heard : List ℕ) (told : ℕ)
      → HasBody client.rules pipe (leg_at ClientOut n) heard (suc told) told
      → IsPrefix heard (drawn_by rules m deeds w.company w.cast h (who.Out n)
      (leg_at ClientOut n)) → ⊥)
      (client_over : (leg named : Leg) (piece : List ℕ) (count told : ℕ)
      → ClosesWith client.rules (after_end_events client.rules client.acts
      (client.first_client ours.config) h.client) (Comes leg piece)
      (cause.BodyOver named count told)
      → IsOver client.rules down.client_reads leg (heard_on leg (happened h.client) ++ piece) named
      told)
      (server_over : (leg named : Leg) (piece : List ℕ) (count told : ℕ)
      → ClosesWith server.rules (after_end_events server.rules server.acts
      (server.new_server ours.window) h.server) (Comes leg piece)
      (cause.BodyOver named count told)
      → IsOver server.rules down.server_reads leg (heard_on leg (happened h.server) ++ piece) named
      told)
      (ins_over : (n : ℕ) → NodeOver in_proxy.rules (in_proxy.first_node (ours.in_config n))
      (pipes.in_pipe (ours.in_config n)) (h.ins n))
      (outs_over : (n : ℕ) → NodeOver out_proxy.rules
      (begun (new_proxy (ours.out_config n)) ROOMS) (pipes.out_pipe (ours.out_config n))
      (h.outs n))
      (leg : Leg) (dir : Dir) (fed_count : ℕ)
      (front : IsPrefix (heard_on leg (events_of (noted v h (IsFed leg dir fed_count))
      (at v leg (receiver dir)))) (drawn_by rules m deeds w.company w.cast h
      (end_node v.readers leg (sender dir)) leg))
      (named : Leg) (count told : ℕ) where
    abbrev why : Cause
    why = cause.BodyOver named count told

    abbrev piece : List ℕ
    piece = fed_piece v h leg dir fed_count

    abbrev Told : Who → Type 0
    Told node = at v leg (receiver dir) ≡ node

    front_of : (heard : List ℕ)
        → heard_on leg (events_of (noted v h (IsFed leg dir fed_count)) (at v leg (receiver dir)))
        ≡ heard
        → IsPrefix heard (drawn_by rules m deeds w.company w.cast h
        (end_node v.readers leg (sender dir)) leg)
    front_of heard e =
        subst (λ (x : List ℕ). IsPrefix x (drawn_by rules m deeds w.company w.cast h
        (end_node v.readers leg (sender dir)) leg)) e front

    client_closes : ClosesWith client.rules v.company.client (Comes leg piece) why
        → Told who.Client → ⊥
    client_closes closes here =
        let over = client_over leg named piece count told
        (subst (λ (s : Shell ClientRole). ClosesWith client.rules s (Comes leg piece) why)
        (traced.runs.client ∙ ap (λ (s : Shell ClientRole).
        after_end_events client.rules client.acts s h.client) ours.client) closes) in
        client_none fits (reader_of v.readers leg.number) leg.number leg.kind dir v.readers
        (heard_on leg (happened h.client) ++ piece) told here over.1
        (front_of (heard_on leg (happened h.client) ++ piece)
        (hears_is v h leg dir fed_count who.Client here (happened h.client)
        (happened_more rules.client deeds.client w.company.client v.company.client h.client
        (told_to v (IsFed leg dir fed_count) who.Client) (IsFed leg dir fed_count) side.Client
        traced.runs.client)))

    server_closes : ClosesWith server.rules v.company.server (Comes leg piece) why → ⊥
    server_closes closes =
        let over = server_over leg named piece count told
        (subst (λ (s : Shell Server). ClosesWith server.rules s (Comes leg piece) why)
        (traced.runs.server ∙ ap (λ (s : Shell Server).
        after_end_events server.rules server.acts s h.server) ours.server) closes) in
        each.server_takes leg over.1.text told over.1.takes

    in_closes : (n : ℕ) (place : Place InProxy) → in_place v.company n ≡ place → Told (who.In n)
        → (places.tell in_proxy.rules (Comes leg piece) place).1 ≡ Some why
        → IsRun in_proxy.rules (m.in_proxy v.cast n) (h.ins n) place → ⊥
    in_closes n Absent there here closes run = absurd (cc)
    in_closes n (Gone now) there here closes run = absurd (cc)
    in_closes n (Here node count_of) there here closes run =
        in_none n (reader_of v.readers leg.number) leg.number leg.kind dir v.readers
        (heard_on leg (h.ins n) ++ piece) told here
        (ins_over n leg named piece count told
        (subst (λ (s : Shell InProxy). ClosesWith in_proxy.rules s (Comes leg piece) why)
        (run ∙ ap (λ (s : Shell InProxy). after_events in_proxy.rules s (h.ins n))
        (ap (λ (c : K). m.in_proxy c n) flowing.cast ∙ ours.ins n)) closes)).1
        (front_of (heard_on leg (h.ins n) ++ piece)
        (hears_is v h leg dir fed_count (who.In n) here (h.ins n)
        (ap (λ (p : Place InProxy). h.ins n ++ at_place p
        (told_to v (IsFed leg dir fed_count) (who.In n))
        (made_by v (IsFed leg dir fed_count) (who.In n))) there)))

    out_closes : (n : ℕ) (place : Place OutProxy) → out_place v.company n ≡ place
        → Told (who.Out n)
        → (places.tell out_proxy.rules (Comes leg piece) place).1 ≡ Some why
        → IsRun out_proxy.rules (m.out_proxy v.cast n) (h.outs n) place → ⊥
    out_closes n Absent there here closes run = absurd (cc)
    out_closes n (Gone now) there here closes run = absurd (cc)
    out_closes n (Here node count_of) there here closes run =
        out_none n (reader_of v.readers leg.number) leg.number leg.kind dir v.readers
        (heard_on leg (h.outs n) ++ piece) told here
        (outs_over n leg named piece count told
        (subst (λ (s : Shell OutProxy). ClosesWith out_proxy.rules s (Comes leg piece) why)
        (run ∙ ap (λ (s : Shell OutProxy). after_events out_proxy.rules s (h.outs n))
        (ap (λ (c : K). m.out_proxy c n) flowing.cast ∙ ours.outs n)) closes)).1
        (front_of (heard_on leg (h.outs n) ++ piece)
        (hears_is v h leg dir fed_count (who.Out n) here (h.outs n)
        (ap (λ (p : Place OutProxy). h.outs n ++ at_place p
        (told_to v (IsFed leg dir fed_count) (who.Out n))
        (made_by v (IsFed leg dir fed_count) (who.Out n))) there)))

    node_closes : (node : Who) → Told node
        → (company.tell rules v.company node (Comes leg piece)).1 ≡ Some why
        → ⊥
    node_closes who.Client here closes = client_closes closes here
    node_closes who.Server here closes = server_closes closes
    node_closes (who.In n) here closes =
        in_closes n (in_place v.company n) refl here
        (sym (answered Absent (places.tell in_proxy.rules (Comes leg piece)) None refl
        v.company.ins n) ∙ closes) (traced.runs.ins n)
    node_closes (who.Out n) here closes =
        out_closes n (out_place v.company n) refl here
        (sym (answered Absent (places.tell out_proxy.rules (Comes leg piece)) None refl
        v.company.outs n) ∙ closes) (traced.runs.outs n)

    pub sent_closes : (node : Who) → ClosesNode rules v (IsFed leg dir fed_count) node why → ⊥
    sent_closes node is =
        node_closes node (told_who _ _ _ _ is.told)
        (subst (λ (e : told_event.Event). (company.tell rules v.company node e).1 ≡ Some why)
        (sym (told_what _ _ _ _ is.told)) is.closes)

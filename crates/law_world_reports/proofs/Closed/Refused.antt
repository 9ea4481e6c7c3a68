-- only a client is refused, by what moved towards it
use Rattle.rh_text.specs.declared.ends.Side.TheVariants as side
use Rattle.law_order.proofs.Vocabulary.{◌≡◌, ℕ, List, [], ◌∷◌, ◌++◌, get_or, Some, None, refl, ap, sym, ◌∙◌, subst}
use Rattle.rh_line.specs.declared.cause.Cause.TheVariants as cause
use Rattle.rh_record.specs.declared.answer.Answer.TheVariants as answer
use Rattle.rh_inproxy.specs.Machine as in_proxies
use Rattle.rh_outproxy.specs.Machine as out_proxies
use Rattle.rh_client.specs.Client as clients
use Rattle.rh_server.specs.Servers as servers
use Rattle.rh_company.specs.Company as company
use Rattle.rh_company.specs.Places as places
use Rattle.law_moves.proofs.Vocabulary.{Dir, U, D, Side, Cause, Leg, LegKind, ClientOut, OutServer, ClientIn, InServer, Rules, Shell, EndEvent, after_end_events}
use Rattle.law_role_inproxy.proofs.Vocabulary.{InProxy}
use Rattle.law_role_client.proofs.Vocabulary.{ClientRole}
use Rattle.law_node_history.proofs.Vocabulary.{Answer, Who, Client, Server, In, Out, Line, act, reader_of, receiver, Event, Comes, Place, Absent, Here, Gone, Rulebook, Deeds, Makers, step_line, World, node_by, Change, AreAllowed, Leads, changed, IsOneOf, AreRuns, all_noted, nothing}
use Rattle.law_node_history.proofs.Lemmas.{leads_then, begins, changes_are_noted, answered}
use Rattle.law_node_causes.specs.Closings.{ClosesWith, IsResponse}
use Rattle.law_role_outproxy.proofs.Vocabulary.{OutProxy}
use Rattle.rh_world.specs.Roles as roles
use Rattle.law_world_reports.proofs.Vocabulary.{AnyWorld, Before, Direct, Settings, Roles, IsLicensed, ShowsMove, midst, IsLicensedAt, IsLicensedIn, RefusesClient, IsRefusedIn}
use Rattle.law_world_reports.proofs.Closed.Recorded.{IsReached, Reached}

-- ---- towards the client

-- where the client stands is the client's end
client_end : (reader number : ℕ) (kind : LegKind) (end : Side)
    → node_by reader number kind end ≡ Client → end ≡ side.Client
client_end reader number ClientOut side.Client e = refl
client_end reader number ClientOut side.Server e = absurd cc
client_end reader number OutServer side.Client e = absurd cc
client_end reader number OutServer side.Server e = absurd cc
client_end reader number ClientIn side.Client e = refl
client_end reader number ClientIn side.Server e = absurd cc
client_end reader number InServer side.Client e = absurd cc
client_end reader number InServer side.Server e = absurd cc

down : (dir : Dir) → receiver dir ≡ side.Client → dir ≡ D
down U e = absurd cc
down D e = refl

piece_of : List ℕ → Event → List ℕ
piece_of other (Comes leg piece) = piece
piece_of other event = other

-- the piece that came moved down
moves_down : {K C S I O : Type 0} (answers : List Answer) (w : World K C S I O) (event : Event)
    (leg : Leg) (piece : List ℕ) → event ≡ Comes leg piece
    → ShowsMove answers w Client event leg
    → IsOneOf (answer.Move (Some leg) D (Some piece)) answers
unfolding piece_of
moves_down answers w event leg piece came move =
    let same : move.piece ≡ piece = ap (piece_of []) (sym move.came ∙ came) in
    let dir = down move.dir (client_end (reader_of w.readers leg.number) leg.number leg.kind
    (receiver move.dir) move.reads) in
    subst (λ p. IsOneOf (answer.Move (Some leg) D (Some p)) answers) same
    (subst (λ d. IsOneOf (answer.Move (Some leg) d (Some move.piece)) answers) dir move.shown)

-- ---- the world in the midst of a line comes from a new one

module _ {K C S I O : Type 0} (r : Rulebook C S I O) (m : Makers K I O) (d : Deeds C S) where
  pub allowed_front : (w : World K C S I O) (cs ds : List Change) → AreAllowed r m d w (cs ++ ds)
      → AreAllowed r m d w cs
  allowed_front w [] ds a = tt
  allowed_front w (c ∷ cs) ds a = (a.0, allowed_front (changed r m d w c) cs ds a.1)

  abbrev pub leads_midst : (line : Line) (w : World K C S I O) (node : Who) (why : Cause)
      (is : IsLicensed r m d line w node why)
      → Leads r m d w (midst r m d line w node why is)
  leads_midst line w node why is = record {
    changes = is.closed.before;
    allowed =
        allowed_front w is.closed.before (is.closed.change ∷ is.closed.after)
        (subst (λ cs. AreAllowed r m d w cs) is.closed.split is.shown.works.leads.allowed);
    reached = refl;
  }

-- each of its nodes is what its history made of it
pub midst_runs : (line : Line) (w : roles.World) (node : Who) (why : Cause) (h : IsReached w)
    (is : IsLicensedAt w line node why)
    → (let v = midst roles.rules roles.makers roles.deeds line w node why is in
    (leads : Leads roles.rules roles.makers roles.deeds (roles.begun h.config) v)
    × AreRuns roles.rules roles.makers roles.deeds (roles.begun h.config).company v
    (all_noted roles.rules roles.makers roles.deeds (roles.begun h.config) nothing leads.changes))
midst_runs line w node why h is =
    let v = midst roles.rules roles.makers roles.deeds line w node why is in
    let first = roles.begun h.config in
    let leads = leads_then roles.rules roles.makers roles.deeds first w v h.leads
    (leads_midst roles.rules roles.makers roles.deeds line w node why is) in (
      leads,
      changes_are_noted roles.rules roles.makers roles.deeds first.company first v nothing leads
          (begins roles.rules roles.makers roles.deeds first
          (record { ins = refl; outs = refl; low = refl; unread = refl })),
    )

-- ---- only a client is refused

never_there : {S : Type 0} (rules : Rules S) (event : Event) (why : Cause)
    → ((node : Shell S) → ClosesWith rules node event why → ⊥)
    → (p : Place S) → (places.tell rules event p).1 ≡ Some why → ⊥
never_there rules event why never Absent e = absurd cc
never_there rules event why never (Here node legs) e = never node e
never_there rules event why never (Gone now) e = absurd cc

-- wherever the proxy of a number is
pub never_at : {S : Type 0} (rules : Rules S) (event : Event) (why : Cause)
    → ((node : Shell S) → ClosesWith rules node event why → ⊥) → (list : List (Place S)) (n : ℕ)
    → (act (places.tell rules event) None list n).1 ≡ Some why → ⊥
never_at rules event why never list n e =
    never_there rules event why never (get_or list n Absent)
    (sym (answered Absent (places.tell rules event) None refl list n) ∙ e)

-- what each role's rules say of it
pub record RefusedEach : Type 0 where
  pub client : (node : Shell ClientRole) (event : Event) (leg : Leg) (status : ℕ)
      → ClosesWith clients.rules node event (cause.HttpRefused leg status)
      → IsResponse node event leg status
  pub in_proxy : (node : Shell InProxy) (event : Event) (leg : Leg) (status : ℕ)
      → ClosesWith in_proxies.rules node event (cause.HttpRefused leg status) → ⊥
  pub out_proxy : (node : Shell OutProxy) (event : Event) (leg : Leg) (status : ℕ)
      → ClosesWith out_proxies.rules node event (cause.HttpRefused leg status) → ⊥
  pub server : (window : ℕ) (events : List EndEvent) (event : Event) (leg : Leg) (status : ℕ)
      → ClosesWith servers.rules
      (after_end_events servers.rules servers.acts (servers.new_server window) events) event
      (cause.HttpRefused leg status) → ⊥

module _ (law : RefusedEach) (line : Line) (w : roles.World) (h : IsReached w) (leg : Leg)
    (status : ℕ) where
  abbrev why : Cause
  why = cause.HttpRefused leg status

  abbrev mid : (node : Who) → IsLicensedAt w line node why → roles.World
  mid node is = midst roles.rules roles.makers roles.deeds line w node why is

  refuses_by : (node : Who) (is : IsLicensedAt w line node why)
      → (company.tell roles.rules (mid node is).company node is.closed.closes.event).1 ≡ Some why
      → RefusesClient w line node leg status is
  refuses_by Client is e =
      let event = is.closed.closes.event in
      let response = law.client (mid Client is).company.client event leg status e in
      record {
        client = refl;
        response = response;
        moved =
            moves_down (step_line roles.rules roles.makers roles.deeds line w).1 (mid Client is)
            event leg response.piece response.is is.shows;
      }
  refuses_by Server is e =
      let runs = midst_runs line w Server why h is in
      absurd (law.server h.config.swin
      (all_noted roles.rules roles.makers roles.deeds (roles.begun h.config) nothing
      runs.0.changes).server is.closed.closes.event leg status
      (subst (λ s. ClosesWith servers.rules s is.closed.closes.event why) runs.1.server e))
  refuses_by (In n) is e =
      let event = is.closed.closes.event in
      absurd (never_at in_proxies.rules event why (λ node. law.in_proxy node event leg status)
      (mid (In n) is).company.ins n e)
  refuses_by (Out n) is e =
      let event = is.closed.closes.event in
      absurd (never_at out_proxies.rules event why (λ node. law.out_proxy node event leg status)
      (mid (Out n) is).company.outs n e)

  pub refuses : (node : Who) (is : IsLicensedAt w line node why)
      → RefusesClient w line node leg status is
  refuses node is = refuses_by node is is.closed.closes.closes

-- in whatever recording
pub refused_in : RefusedEach → (world : AnyWorld) (line : Line) (node : Who) (leg : Leg)
    (status : ℕ) → Reached world → IsLicensedIn world line node (cause.HttpRefused leg status)
    → IsRefusedIn world line node leg status
refused_in law Before line node leg status h is = absurd is
refused_in law (Direct w) line node leg status h is = absurd is
refused_in law (Settings config) line node leg status h is = absurd is
refused_in law (Roles w) line node leg status h is =
    (is, refuses law line w h leg status node is)

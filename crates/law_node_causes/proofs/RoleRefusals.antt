-- what the four roles refuse
use Rattle.law_order.proofs.Vocabulary.{◌≡◌, inl, inr, ℕ, List, ◌++◌, cond, Bool, true, false, Some, None, Ok, Err, refl, sym, ap, ◌∙◌, subst, ◌==◌, ◌&&◌, ◌||◌, nat_le, Result, eq-eqb}
use Rattle.rh_line.specs.declared.cause.Cause.TheVariants as cause
use Rattle.rh_shell.specs.declared.answers.HeadRefused.TheVariants.{Status}
use Rattle.rh_shell.specs.declared.answers.Behind.TheVariants as behinds
use Rattle.rh_shell.specs.declared.stage.Stage.TheVariants as stage
use Rattle.rh_inproxy.specs.declared.opening.TheConstants.{ECHO_LENGTH}
use Rattle.rh_inproxy.specs.declared.state.InProxyConfig.{InProxyConfig}
use Rattle.rh_inproxy.specs.State.{InProxy, first, is_client_leg, is_server_leg}
use Rattle.rh_inproxy.specs.Opening.{head_by, echo_asked, channel_asked, wants_server, accepts}
use Rattle.rh_inproxy.specs.Machine as in_proxy
use Rattle.rh_outproxy.specs.declared.state.OutProxyConfig.{OutProxyConfig}
use Rattle.rh_outproxy.specs.OutProxy.{OutProxy, new_proxy, is_client_up, is_known, is_server_down}
use Rattle.rh_outproxy.specs.Rows.{is_co, is_os, co}
use Rattle.rh_outproxy.specs.declared.state.Answer.TheVariants as answers
use Rattle.rh_outproxy.specs.Opening as opening
use Rattle.rh_outproxy.specs.Machine as out_proxy
use Rattle.rh_client.specs.declared.state.ClientRole.{ClientRole}
use Rattle.rh_client.specs.Opening.{success}
use Rattle.rh_client.specs.Client as client
use Rattle.rh_client.specs.Opening as opens
use Rattle.rh_server.specs.States.{Server}
use Rattle.rh_server.specs.Opening.{may_up_by}
use Rattle.rh_server.specs.Servers as server
use Rattle.rh_company.specs.declared.event.Event.{Event}
use Rattle.law_moves.proofs.Vocabulary.{CiU, IsD, CoU, OsD, HttpFault, Response, Asked, request_verdict, response_verdict, greatest_echo, Leg, LegKind, ClientOut, OutServer, ClientIn, InServer, HeadRefused, HeadTaken, Course, Going, Closed, Refusing, first_stage, Rules, Shell, place, Move, Passage, MayMove, moved, started, EndEvent, after_end_events, Follows}
use Rattle.law_moves.proofs.Lemmas.{leads_keep, both, leg_is}
use Rattle.law_node_causes.proofs.Sorts.{of_kind, end_leg}
use Rattle.law_node_causes.proofs.ClosedBy.{from_event}
use Rattle.law_node_causes.proofs.NoHeads.{run_at_end, first_waits}
use Rattle.law_node_causes.proofs.Refusing.{MayRefuseAt}
use Rattle.law_node_causes.proofs.InProxyLegs as in_legs
use Rattle.law_node_causes.proofs.OutProxyLegs as out_legs
use Rattle.law_node_causes.specs.Closings.{ClosesWith, IsResponse}
use Rattle.law_node_causes.specs.Numbers.{AreNumbered}
use Rattle.law_node_causes.specs.Refusals.{MayRefuseOn, RefusesNoStatus, IsRefusedBy}

-- ---- no status is refused

pub in_no_status : RefusesNoStatus in_proxy.rules
in_no_status s leg text status = by (request_verdict true text)
  where
    by_length : (asked : Asked) (t : Bool)
        → (cond t (echo_asked s leg.number asked) (channel_asked s asked)).1 ≡ Err (Status status)
        → ⊥
    by_length asked true e = absurd cc
    by_length asked false e = absurd cc

    by : (r : Result Asked HttpFault) → (head_by s leg.number r).1 ≡ Err (Status status) → ⊥
    by (Err fault) e = absurd cc
    by (Ok asked) e = by_length asked (nat_le asked.length ECHO_LENGTH) e

pub out_no_status : RefusesNoStatus out_proxy.rules
out_no_status s leg text status = by (request_verdict false text)
  where
    by_length : (asked : Asked) (t : Bool)
        → (cond {A = OutProxy × Result HeadTaken HeadRefused} t (
          record s { answer = answers.EchoDue },
          Ok (record { behind = behinds.PassedOver; length = asked.length }),
        ) (
          record s { request = Some asked },
          Ok (record { behind = behinds.Frames; length = asked.length }),
        )).1 ≡ Err (Status status) → ⊥
    by_length asked true e = absurd cc
    by_length asked false e = absurd cc

    by : (r : Result Asked HttpFault) → (opening.head_by s r).1 ≡ Err (Status status) → ⊥
    by (Err fault) e = absurd cc
    by (Ok asked) e = by_length asked (nat_le asked.length greatest_echo) e

fails : (n m : ℕ) → (n == success) ≡ false → n ≡ m → m ≡ success → ⊥
fails n m e same ok =
    let no : false ≡ true = sym e ∙ eq-eqb n success (same ∙ ok) in
    absurd cc

client_refused : (s : ClientRole) (leg : Leg) (text : List ℕ) (status : ℕ)
    → (client.rules.head s leg text).1 ≡ Err (Status status) → IsRefusedBy leg text status
client_refused s leg text status = by leg.kind (response_verdict text) refl refl
  where
    told : (response : Response) (k : LegKind) → response_verdict text ≡ Ok response
        → leg.kind ≡ k → response.status ≡ status
        → (k ≡ ClientOut → status ≡ success → ⊥) → IsRefusedBy leg text status
    told response k read kind same failure = record {
      response = response;
      read = read;
      told = same;
      failure = λ out ok. failure (sym kind ∙ out) ok;
    }

    by_status : (response : Response) (t : Bool) → (response.status == success) ≡ t
        → response_verdict text ≡ Ok response → leg.kind ≡ ClientOut
        → cond {A = Result HeadTaken HeadRefused} t
        (Ok (record { behind = behinds.Frames; length = response.length }))
        (Err (Status response.status)) ≡ Err (Status status)
        → IsRefusedBy leg text status
    by_status response true e read kind h = absurd cc
    by_status response false e read kind h =
        let same : response.status ≡ status = cc in
        told response ClientOut read kind same (λ out ok. fails response.status status e same ok)

    by : (k : LegKind) (r : Result Response HttpFault) → leg.kind ≡ k → response_verdict text ≡ r
        → opens.head_by k r ≡ Err (Status status) → IsRefusedBy leg text status
    by k (Err fault) kind read h = absurd cc
    by ClientOut (Ok response) kind read h =
        by_status response (response.status == success) refl read kind h
    by OutServer (Ok response) kind read h =
        told response OutServer read kind (cc) (λ out ok. absurd cc)
    by ClientIn (Ok response) kind read h =
        told response ClientIn read kind (cc) (λ out ok. absurd cc)
    by InServer (Ok response) kind read h =
        told response InServer read kind (cc) (λ out ok. absurd cc)

-- a client closes with it for a response on that leg, whose head came whole with the piece
pub client_closes : (node : Shell ClientRole) (event : Event) (leg : Leg) (status : ℕ)
    → ClosesWith client.rules node event (cause.HttpRefused leg status)
    → IsResponse node event leg status
client_closes node event leg status h =
    let r = from_event client.rules node event (cause.HttpRefused leg status) h in
    let same = end_leg leg node.legs r.end r.at in
    record {
      piece = r.piece;
      is = r.is;
      end = r.end;
      at = r.at;
      front = r.refuses.front;
      behind = r.refuses.behind;
      cut = r.refuses.cut;
      refused = client_refused node.role leg (r.end.intake.held ++ r.refuses.front) status
          (subst (λ (l : Leg).
          (client.rules.head node.role l (r.end.intake.held ++ r.refuses.front)).1
          ≡ Err (Status status)) same r.refuses.refused);
    }

-- so no node of such a role closes with it
pub never_refused : {S : Type 0} (rules : Rules S) → RefusesNoStatus rules → (node : Shell S)
    (event : Event) (leg : Leg) (status : ℕ)
    → ClosesWith rules node event (cause.HttpRefused leg status) → ⊥
never_refused rules none node event leg status h =
    let r = from_event rules node event (cause.HttpRefused leg status) h in
    none node.role r.end.leg _ status r.refuses.refused

-- no leg of a server begins with a head
server_heads : (s : Server) (leg : Leg) → server.rules.may_up s leg ≡ true
    → first_stage (server.rules.pipe s leg) ≡ stage.Head → ⊥
server_heads s leg = by leg.kind
  where
    by : (k : LegKind) → may_up_by s leg.number k ≡ true
        → first_stage (server.pipe_of k) ≡ stage.Head → ⊥
    by InServer may is = absurd cc
    by OutServer may is = absurd cc
    by ClientIn may is = absurd cc
    by ClientOut may is = absurd cc

pub server_never : (window : ℕ) (events : List EndEvent) (event : Event) (leg : Leg) (status : ℕ)
    → ClosesWith server.rules
    (after_end_events server.rules server.acts (server.new_server window) events) event
    (cause.HttpRefused leg status) → ⊥
server_never window events event leg status h =
    let node = after_end_events server.rules server.acts (server.new_server window) events in
    let r = from_event server.rules node event (cause.HttpRefused leg status) h in
    run_at_end server.rules (λ l. ⊥) server_heads server.acts (server.new_server window) events
    (first_waits server.rules (λ l. ⊥) server_heads (server.first window) server.rooms) r.end
    (record { place = place leg node.legs; at = r.at }) r.refuses.stage

-- ---- the numbers of a proxy stay

record InKept (config : InProxyConfig) (p : Passage InProxy) : Type 0 where
  same : p.role.config ≡ config
  numbered : AreNumbered p.role

pub in_config : (config : InProxyConfig) (s : Shell InProxy)
    → Follows in_proxy.rules (started (first config)) s → s.role.config ≡ config
in_config config s f =
    ap (λ (r : InProxy). r.config) (sym f.role)
    ∙ (leads_keep in_proxy.rules (InKept config) keeps (started (first config)) f.passage f.leads
    (record { same = refl; numbered = in_legs.first_numbered config })).same
  where
    keeps : (p : Passage InProxy) (move : Move) → InKept config p
        → MayMove in_proxy.rules p.role move → InKept config (moved in_proxy.rules p move)
    keeps p move k may =
        let g = in_legs.later_move p move (in_legs.in_order p.role k.numbered) in
        record {
          same = g.config ∙ k.same;
          numbered = record { first = g.numbered.first; behind = g.numbered.behind };
        }

pub out_config : (config : OutProxyConfig) (s : Shell OutProxy)
    → Follows out_proxy.rules (started (new_proxy config)) s → s.role.config ≡ config
out_config config s f =
    ap (λ (r : OutProxy). r.config) (sym f.role)
    ∙ leads_keep out_proxy.rules (λ (p : Passage OutProxy). p.role.config ≡ config)
    (λ p move k may. (out_legs.later_move p move).config ∙ k) (started (new_proxy config)) f.passage
    f.leads refl

-- ---- on a client's leg alone a head comes first

pub in_heads : (s : InProxy) (leg : Leg) → in_proxy.rules.may_up s leg ≡ true
    → first_stage (in_proxy.rules.pipe s leg) ≡ stage.Head → leg.kind ≡ ClientIn
in_heads s leg may = by (is_client_leg leg) (is_server_leg s leg) refl refl may
  where
    by : (c o : Bool) → is_client_leg leg ≡ c → is_server_leg s leg ≡ o
        → ((o && wants_server s.opening) || (c && accepts s s.opening leg.number)) ≡ true
        → first_stage (cond c (Some CiU) (cond o (Some IsD) None)) ≡ stage.Head
        → leg.kind ≡ ClientIn
    by true o e f may is = of_kind ClientIn leg.kind e
    by false true e f may is = absurd cc
    by false false e f may is = absurd cc

pub out_heads : (s : OutProxy) (leg : Leg) → out_proxy.rules.may_up s leg ≡ true
    → first_stage (out_proxy.rules.pipe s leg) ≡ stage.Head → leg.kind ≡ ClientOut
out_heads s leg may = by (is_co s leg) refl
  where
    by : (c : Bool) → is_co s leg ≡ c → first_stage (cond c (Some CoU) (Some OsD)) ≡ stage.Head
        → leg.kind ≡ ClientOut
    by true e is = ap (λ (l : Leg). l.kind) (sym (leg_is (co s) leg e))
    by false e is = absurd cc

-- ---- why a proxy refuses

pub in_refuses : (config : InProxyConfig) (s : InProxy) (course : Course) → s.config ≡ config
    → MayRefuseAt in_proxy.rules (λ (l : Leg). l.kind ≡ ClientIn) s course
    → MayRefuseOn (record { kind = ClientIn; number = config.number })
    (record { kind = InServer; number = config.number }) course
in_refuses config s Going same may = tt
in_refuses config s (Closed why) same may = tt
in_refuses config s (Refusing why leg rest) same (inl r) =
    inl (record { kind = r.0; request = r.1 })
in_refuses config s (Refusing why leg rest) same (inr t) =
    let server : t.lost ≡ record { kind = InServer; number = config.number } =
    sym (leg_is (record { kind = InServer; number = s.config.number }) t.lost
    (both (is_server_leg s t.lost) (wants_server s.opening) t.wanted).0)
    ∙ ap (λ (c : InProxyConfig). record { kind = InServer; number = c.number }) same in
    let client : record { kind = ClientIn; number = s.config.number } ≡ leg = cc in
    inr (record {
      cause = t.cause ∙ ap (λ (l : Leg). cause.LegBroken l) server;
      told = sym client ∙ ap (λ (c : InProxyConfig). record { kind = ClientIn; number = c.number })
          same;
      text = t.text;
    })

pub out_refuses : (config : OutProxyConfig) (s : OutProxy) (course : Course) → s.config ≡ config
    → MayRefuseAt out_proxy.rules (λ (l : Leg). l.kind ≡ ClientOut) s course
    → MayRefuseOn (record { kind = ClientOut; number = config.number })
    (record { kind = OutServer; number = config.number }) course
out_refuses config s Going same may = tt
out_refuses config s (Closed why) same may = tt
out_refuses config s (Refusing why leg rest) same (inl r) =
    inl (record { kind = r.0; request = r.1 })
out_refuses config s (Refusing why leg rest) same (inr t) =
    let server : t.lost ≡ record { kind = OutServer; number = config.number } =
    sym (leg_is (record { kind = OutServer; number = s.config.number }) t.lost
    (both (is_os s t.lost) (is_known s.channel && is_server_down s.server) t.wanted).0)
    ∙ ap (λ (c : OutProxyConfig). record { kind = OutServer; number = c.number }) same in
    let client : leg ≡ co s = told (is_client_up s.client) t.told in
    inr (record {
      cause = t.cause ∙ ap (λ (l : Leg). cause.LegBroken l) server;
      told = client ∙ ap (λ (c : OutProxyConfig). record { kind = ClientOut; number = c.number })
          same;
      text = t.text;
    })
  where
    told : (b : Bool) → cond b (Some (co s)) None ≡ Some leg → leg ≡ co s
    told true e = cc
    told false e = absurd cc

-- where the moves of an in proxy are in their turn, it puts on each ci leg one answer at most,
-- where a body is passed over
use Rattle.law_order.proofs.Vocabulary.{◌≡◌, ◌⊎◌, inl, inr, ℕ, ◌==◌, List, [], ◌∷◌, ◌++◌, Bool, true, false, ◌&&◌, ◌||◌, Some, None, Ok, Err, refl, sym, ap, ◌∙◌, subst, if◌then◌else◌, nat_le, IfSome, Option, Result, and_parts, eqb-true, fun_ext}
use Rattle.rh_shell.specs.declared.stage.Stage.TheVariants as stage
use Rattle.rh_inproxy.specs.declared.opening.TheConstants.{ECHO_LENGTH}
use Rattle.rh_inproxy.specs.declared.state.InProxyConfig.{InProxyConfig}
use Rattle.rh_inproxy.specs.declared.state.Opening.{Opening}
use Rattle.rh_inproxy.specs.declared.state.Opening.TheVariants.{AwaitsClient, AwaitsPacket, WantsServer, Announces, Announced}
use Rattle.rh_inproxy.specs.declared.state.ClientLeg.{ClientLeg}
use Rattle.rh_inproxy.specs.declared.state.Work.{Work}
use Rattle.rh_inproxy.specs.Answers.{Pick}
use Rattle.rh_inproxy.specs.Ending.{settled_pick}
use Rattle.rh_inproxy.specs.Machine.{rules}
use Rattle.rh_inproxy.specs.Opening.{accepted, accepts, wants_server, awaits_packet, connected, channel_asked, echo_answer, echo_asked, echo_by, head_by, is_absent, may_accept, may_up, pipe, put_echo, up, wants}
use Rattle.rh_inproxy.specs.Putting.{next, put}
use Rattle.rh_inproxy.specs.State.{InProxy, first, has_opened, is_client_leg, is_server_leg}
use Rattle.rh_inproxy.specs.declared.state.Work.TheVariants as works
use Rattle.law_moves.proofs.Vocabulary.{by_test, CiU, IsD, HttpFault, Asked, request_verdict, Leg, ClientIn, HeadRefused, HeadTaken, Stage, first_stage, Message, Text, same_leg, OnLeg, of_leg, Stages, none_up, with_stage, takes_frames}
use Rattle.law_moves.proofs.Lemmas.{itself, leg_is}
use Rattle.law_moves.specs.Turns.{behind_head}
use Rattle.law_node_begins.proofs.ProxiesBegin.Legs.{of_kind, one_here, one_elsewhere}
use Rattle.law_node_begins.proofs.ProxiesBegin.Turning.{TurnsKeep, stage_each}
use Rattle.law_node_begins.proofs.ProxiesBegin.InGoes.{Seen, seen, newest_of, alone, not_client, Goes, GoesPut, FirstOn, pdu_goes, packet_goes, mark_goes, ping_goes, drawn_goes, server_goes}
use Rattle.law_node_begins.specs.ProxiesBegin.Pipes.{ci}

-- what was put on a ci leg: nothing, or the answer where a body is passed over
abbrev pub IsAnswered : Option Stage → List Message → Type 0
IsAnswered (Some stage.PassedOver) put = (put ≡ []) ⊎ (put ≡ Text echo_answer ∷ [])
IsAnswered next put = put ≡ []

-- an answer is due on a leg where a body is passed over, and nothing was put there
abbrev IsDue : Stages → (ℕ → List Message) → Work → Type 0
IsDue g on (works.EchoDue n) = (g (ci n) ≡ Some stage.PassedOver) × (on n ≡ [])
IsDue g on work = Unit {0}

pub record Asks (config : InProxyConfig) (g : Stages) (a : Seen) (on : ℕ → List Message)
    : Type 0 where
  pub number : a.config ≡ config
  pub heads : (leg : Leg) → g leg ≡ Some stage.Head → is_client_leg leg ≡ true
  pub answered : (n : ℕ) → IsAnswered (g (ci n)) (on n)
  pub due : IsDue g on a.work
  pub opened : has_opened a.opening ≡ true → takes_frames (g (ci config.number)) ≡ true
  pub awaits : has_opened a.opening ≡ false
      → (a.current.number ≡ config.number) × (is_absent a.successor ≡ true)

abbrev on_ci : List OnLeg → ℕ → List Message
on_ci put n = of_leg (ci n) put

abbrev pub AsksAt : InProxyConfig → Stages → InProxy → List OnLeg → Type 0
AsksAt config g s put = Asks config g (seen s) (on_ci put)

-- ---- what was put, by what comes next

nothing : (o : Option Stage) (put : List Message) → put ≡ [] → IsAnswered o put
nothing None put e = e
nothing (Some stage.Head) put e = e
nothing (Some stage.Greeting) put e = e
nothing (Some stage.Frames) put e = e
nothing (Some stage.PassedOver) put e = inl e
nothing (Some stage.Shut) put e = e

pub framed : (o : Option Stage) (put : List Message) → takes_frames o ≡ true → IsAnswered o put
    → put ≡ []
framed None put e h = absurd cc
framed (Some stage.Head) put e h = absurd cc
framed (Some stage.Greeting) put e h = h
framed (Some stage.Frames) put e h = h
framed (Some stage.PassedOver) put e h = absurd cc
framed (Some stage.Shut) put e h = absurd cc

-- ---- rows that go on

module _ (config : InProxyConfig) where
  goes_asks : (First : Type 0) (g : Stages) (a b : Seen) (on : ℕ → List Message)
      → Goes First a b → (First → takes_frames (g (ci config.number)) ≡ true)
      → Asks config g a on → Asks config g b on
  goes_asks First g a b on goes first k = record {
    number = goes.config ∙ k.number;
    heads = k.heads;
    answered = k.answered;
    due = by_work goes.work;
    opened = by_opened goes.opened;
    awaits = by_awaits goes.opened;
  }
    where
      by_work : (b.work ≡ a.work) ⊎ (b.work ≡ works.Done) → IsDue g on b.work
      by_work (inl e) = subst (IsDue g on) (sym e) k.due
      by_work (inr e) = subst (IsDue g on) (sym e) tt

      by_opened : (has_opened b.opening ≡ has_opened a.opening)
          ⊎ (First × (has_opened b.opening ≡ true))
          → has_opened b.opening ≡ true → takes_frames (g (ci config.number)) ≡ true
      by_opened (inl e) h = k.opened (sym e ∙ h)
      by_opened (inr e) h = first e.0

      by_current : is_absent a.successor ≡ true → a.current.number ≡ config.number
          → (b.current.number ≡ a.current.number) ⊎ (b.current.number ≡ newest_of a)
          → b.current.number ≡ config.number
      by_current absent e (inl h) = h ∙ e
      by_current absent e (inr h) = h ∙ alone a.current a.successor absent ∙ e

      by_awaits : (has_opened b.opening ≡ has_opened a.opening)
          ⊎ (First × (has_opened b.opening ≡ true))
          → has_opened b.opening ≡ false
          → (b.current.number ≡ config.number) × (is_absent b.successor ≡ true)
      by_awaits (inr e) h = let opened = e.1 in absurd cc
      by_awaits (inl e) h =
          let before = k.awaits (sym e ∙ h) in
          (by_current before.1 before.0 goes.current, goes.absent before.1)

  -- the first packet of all came on the first ci leg
  first_framed : (g : Stages) (s : InProxy) (put : List OnLeg) (leg : Leg) → AsksAt config g s put
      → takes_frames (g leg) ≡ true → FirstOn s leg → takes_frames (g (ci config.number)) ≡ true
  first_framed g s put leg k turn f =
      let parts = and_parts (awaits_packet s.opening) (s.current.number == leg.number) f.first in
      let same : leg.number ≡ config.number =
      sym (eqb-true s.current.number leg.number parts.1)
      ∙ (k.awaits (not_opened s.opening parts.0)).0 in
      subst (λ (l : Leg). takes_frames (g l) ≡ true)
      (of_kind ClientIn leg f.client ∙ ap ci same) turn
    where
      not_opened : (o : Opening) → awaits_packet o ≡ true → has_opened o ≡ false
      not_opened AwaitsClient e = absurd cc
      not_opened AwaitsPacket e = refl
      not_opened (WantsServer o) e = absurd cc
      not_opened (Announces o) e = absurd cc
      not_opened (Announced o) e = absurd cc

-- ---- another stage

due_stays : (g : Stages) (on : ℕ → List Message) (w : Work) (leg : Leg) (next : Stage)
    → (g leg ≡ Some stage.PassedOver → ⊥) → IsDue g on w → IsDue (with_stage leg next g) on w
due_stays g on works.Underway leg next not k = tt
due_stays g on works.Done leg next not k = tt
due_stays g on (works.EchoPut n) leg next not k = tt
due_stays g on (works.EchoDue n) leg next not k = (
  stage_each (λ (o : Option Stage). o ≡ Some stage.PassedOver) leg (ci n) next g
      (λ same. absurd (not (ap g same ∙ k.0))) (λ other. k.0),
  k.1,
)

frames_stay : (g : Stages) (leg other : Leg) (next : Stage) → takes_frames (g leg) ≡ false
    → takes_frames (g other) ≡ true → takes_frames (with_stage leg next g other) ≡ true
frames_stay g leg other next not k =
    stage_each (λ (o : Option Stage). takes_frames o ≡ true) leg other next g
    (λ same. let not' = ap (λ (l : Leg). takes_frames (g l)) (sym same) ∙ not in absurd cc)
    (λ apart. k)

-- ---- a leg comes up

-- the work and the current ci leg are as before, and so is the one behind before the first packet
record IsUp (a b : Seen) : Type 0 where
  config : b.config ≡ a.config
  work : b.work ≡ a.work
  opened : has_opened b.opening ≡ has_opened a.opening
  current : b.current ≡ a.current
  behind : has_opened a.opening ≡ false → b.successor ≡ a.successor

abbrev pub at_opening : InProxy → Opening → InProxy
at_opening s o = record s { opening = o }

accepted_up : (s : InProxy) (o : Opening) (n : ℕ) → accepts s o n ≡ true
    → IsUp (seen (at_opening s o)) (seen (accepted (at_opening s o) o n))
accepted_up s AwaitsClient n e = record {
  config = refl;
  work = refl;
  opened = refl;
  current = refl;
  behind = λ h. refl;
}
accepted_up s AwaitsPacket n e = absurd cc
accepted_up s (WantsServer o) n e = record {
  config = refl;
  work = refl;
  opened = refl;
  current = refl;
  behind = λ h. absurd cc;
}
accepted_up s (Announces o) n e = record {
  config = refl;
  work = refl;
  opened = refl;
  current = refl;
  behind = λ h. absurd cc;
}
accepted_up s (Announced o) n e = record {
  config = refl;
  work = refl;
  opened = refl;
  current = refl;
  behind = λ h. absurd cc;
}

connected_up : (s : InProxy) (o : Opening)
    → IsUp (seen (at_opening s o)) (seen (connected (at_opening s o) o))
connected_up s AwaitsClient =
    record { config = refl; work = refl; opened = refl; current = refl; behind = λ h. refl }
connected_up s AwaitsPacket =
    record { config = refl; work = refl; opened = refl; current = refl; behind = λ h. refl }
connected_up s (WantsServer o) =
    record { config = refl; work = refl; opened = refl; current = refl; behind = λ h. refl }
connected_up s (Announces o) =
    record { config = refl; work = refl; opened = refl; current = refl; behind = λ h. refl }
connected_up s (Announced o) =
    record { config = refl; work = refl; opened = refl; current = refl; behind = λ h. refl }

up_up : (s : InProxy) (leg : Leg) → IsUp (seen s) (seen (up s leg))
up_up s leg =
    by_test (λ (t : InProxy). IsUp (seen s) (seen t)) (may_accept s leg)
    (accepted s s.opening leg.number) (if wants s leg then connected s s.opening else s)
    (λ e. accepted_up s s.opening leg.number
    (and_parts (is_client_leg leg) (accepts s s.opening leg.number) e).1)
    (λ e. by_test (λ (t : InProxy). IsUp (seen s) (seen t)) (wants s leg) (connected s s.opening) s
    (λ f. connected_up s s.opening)
    (λ f. record {
      config = refl;
      work = refl;
      opened = refl;
      current = refl;
      behind = λ h. refl;
    }))

-- where a head comes first, it is a ci leg
head_client : (s : InProxy) (leg : Leg) → may_up s leg ≡ true
    → Some (first_stage (pipe s leg)) ≡ Some stage.Head → is_client_leg leg ≡ true
head_client s leg may e =
    by (is_client_leg leg) (is_server_leg s leg) (wants_server s.opening)
    (accepts s s.opening leg.number) may e
  where
    by : (client server x y : Bool) → (server && x) || (client && y) ≡ true
        → Some (first_stage (if client then Some CiU else (if server then Some IsD else None)))
        ≡ Some stage.Head
        → client ≡ true
    by true server x y may e = refl
    by false true x y may e = absurd cc
    by false false x y may e = absurd cc

module _ (config : InProxyConfig) where
  up_asks : (g : Stages) (s : InProxy) (put : List OnLeg) (leg : Leg) → AsksAt config g s put
      → may_up s leg ≡ true → g leg ≡ None
      → AsksAt config (with_stage leg (first_stage (pipe s leg)) g) (up s leg) put
  up_asks g s put leg k may none = record {
    number = up_up'.config ∙ k.number;
    heads = λ l. stage_each (λ (o : Option Stage). o ≡ Some stage.Head → is_client_leg l ≡ true)
        leg l next g
        (λ same e. subst (λ (l : Leg). is_client_leg l ≡ true) same (head_client s leg may e))
        (λ apart. k.heads l);
    answered = λ n. stage_each (λ (o : Option Stage). IsAnswered o (on_ci put n)) leg (ci n) next g
        (λ same. nothing (Some next) (on_ci put n)
        (subst (λ (o : Option Stage). IsAnswered o (on_ci put n)) (ap g (sym same) ∙ none)
        (k.answered n)))
        (λ apart. k.answered n);
    due = subst (IsDue (with_stage leg next g) (on_ci put)) (sym up_up'.work)
        (due_stays g (on_ci put) s.work leg next (λ e. let no = sym none ∙ e in absurd cc) k.due);
    opened = λ h. frames_stay g leg (ci config.number) next (ap takes_frames none)
        (k.opened (sym up_up'.opened ∙ h));
    awaits = λ h.
        let before = k.awaits (sym up_up'.opened ∙ h) in (
          ap (λ (c : ClientLeg). c.number) up_up'.current ∙ before.0,
          ap is_absent (up_up'.behind (sym up_up'.opened ∙ h)) ∙ before.1,
        );
  }
    where
      next : Stage
      next = first_stage (pipe s leg)

      up_up' : IsUp (seen s) (seen (up s leg))
      up_up' = up_up s leg

  -- ---- a head comes

  headed : (g : Stages) (a : Seen) (on : ℕ → List Message) (leg : Leg) (w : Work) (next : Stage)
      → Asks config g a on → g leg ≡ Some stage.Head → (next ≡ stage.Head → ⊥)
      → IsDue (with_stage leg next g) on w
      → Asks config (with_stage leg next g) (record a { work = w }) on
  headed g a on leg w next k turn other due = record {
    number = k.number;
    heads = λ l. stage_each (λ (o : Option Stage). o ≡ Some stage.Head → is_client_leg l ≡ true)
        leg l next g (λ same e. absurd (other cc)) (λ apart. k.heads l);
    answered = λ n. stage_each (λ (o : Option Stage). IsAnswered o (on n)) leg (ci n) next g
        (λ same. nothing (Some next) (on n)
        (subst (λ (o : Option Stage). IsAnswered o (on n)) (ap g (sym same) ∙ turn) (k.answered n)))
        (λ apart. k.answered n);
    due = due;
    opened = λ h. frames_stay g leg (ci config.number) next (ap takes_frames turn) (k.opened h);
    awaits = k.awaits;
  }

  head_asks : (g : Stages) (s : InProxy) (put : List OnLeg) (leg : Leg)
      (verdict : Result Asked HttpFault) → AsksAt config g s put → g leg ≡ Some stage.Head
      → AsksAt config
      (with_stage leg (behind_head (head_by s leg.number verdict).1) g)
      (head_by s leg.number verdict).0 put
  head_asks g s put leg (Err fault) k turn =
      headed g (seen s) (on_ci put) leg s.work stage.Shut k turn (λ e. absurd cc)
      (due_stays g (on_ci put) s.work leg stage.Shut (λ e. let no = sym turn ∙ e in absurd cc)
      k.due)
  head_asks g s put leg (Ok asked) k turn =
      by_test (λ (r : InProxy × Result HeadTaken HeadRefused).
      AsksAt config (with_stage leg (behind_head r.1) g) r.0 put)
      (nat_le asked.length ECHO_LENGTH) (echo_asked s leg.number asked) (channel_asked s asked)
      (λ e. headed g (seen s) (on_ci put) leg (works.EchoDue leg.number) stage.PassedOver k turn
      (λ e. absurd cc) (echo_due (of_kind ClientIn leg (k.heads leg turn))))
      (λ e. headed g (seen s) (on_ci put) leg s.work stage.Frames k turn (λ e. absurd cc)
      (due_stays g (on_ci put) s.work leg stage.Frames (λ e. let no = sym turn ∙ e in absurd cc)
      k.due))
    where
      echo_due : leg ≡ ci leg.number
          → IsDue (with_stage leg stage.PassedOver g) (on_ci put) (works.EchoDue leg.number)
      echo_due is_ci = (
        subst (λ (l : Leg). with_stage leg stage.PassedOver g l ≡ Some stage.PassedOver) is_ci
            (ap (λ (t : Bool). if t then Some stage.PassedOver else g leg) (itself leg)),
        subst (λ (o : Option Stage). IsAnswered o (on_ci put leg.number))
            (ap g (sym is_ci) ∙ turn) (k.answered leg.number),
      )

  -- ---- what is put

  abbrev PutAsks : Stages → List OnLeg → Leg → Pick → Type 0
  PutAsks g log leg pick =
      IfSome pick (λ (x : InProxy × Message). AsksAt config g x.0 (log ++ (leg, x.1) ∷ []))

  answer_put : (g : Stages) (log : List OnLeg) (leg : Leg) (m : ℕ) → leg ≡ ci m
      → IsDue g (on_ci log) (works.EchoDue m)
      → ((n : ℕ) → IsAnswered (g (ci n)) (on_ci log n))
      → (n : ℕ) → IsAnswered (g (ci n)) (on_ci (log ++ (leg, Text echo_answer) ∷ []) n)
  answer_put g log leg m is_ci due k n =
      elim (same_leg leg (ci n)) as (λ t. same_leg leg (ci n) ≡ t
      → IsAnswered (g (ci n)) (on_ci (log ++ (leg, Text echo_answer) ∷ []) n)) [
        | true ↦ λ e.
            let same : m ≡ n =
            ap (λ (l : Leg). l.number) (sym is_ci ∙ leg_is leg (ci n) e) in
            let put : on_ci (log ++ (leg, Text echo_answer) ∷ []) n ≡ Text echo_answer ∷ [] =
            one_here (ci n) leg log (Text echo_answer) e
            ∙ ap (λ (l : List Message). l ++ Text echo_answer ∷ [])
            (subst (λ (i : ℕ). on_ci log i ≡ []) same due.1) in
            let next : g (ci n) ≡ Some stage.PassedOver =
            subst (λ (i : ℕ). g (ci i) ≡ Some stage.PassedOver) same due.0 in
            subst
            (λ (o : Option Stage). IsAnswered o (on_ci (log ++ (leg, Text echo_answer) ∷ []) n))
            (sym next) (inr put)
        | false ↦ λ e.
            subst (IsAnswered (g (ci n)))
            (sym (one_elsewhere (ci n) leg log (Text echo_answer) e)) (k n)
      ] refl

  echo_asks : (g : Stages) (s : InProxy) (log : List OnLeg) (leg : Leg) (w : Work)
      → is_client_leg leg ≡ true → AsksAt config g (record s { work = w }) log
      → PutAsks g log leg (echo_by (record s { work = w }) w leg.number)
  echo_asks g s log leg works.Underway client k = tt
  echo_asks g s log leg (works.EchoPut m) client k = tt
  echo_asks g s log leg works.Done client k = tt
  echo_asks g s log leg (works.EchoDue m) client k =
      by_test (PutAsks g log leg) (m == leg.number) _ None
      (λ e. record {
        number = k.number;
        heads = k.heads;
        answered = answer_put g log leg m
            (of_kind ClientIn leg client ∙ ap ci (sym (eqb-true m leg.number e))) k.due k.answered;
        due = tt;
        opened = k.opened;
        awaits = k.awaits;
      })
      (λ e. tt)

  server_asks : (g : Stages) (s : InProxy) (log : List OnLeg) (leg : Leg) (pick : Pick)
      → is_client_leg leg ≡ false → AsksAt config g s log → GoesPut (seen s) pick
      → PutAsks g log leg pick
  server_asks g s log leg None other k goes = tt
  server_asks g s log leg (Some x) other k goes =
      subst (Asks config g (seen x.0))
      (sym (fun_ext (λ n. one_elsewhere (ci n) leg log x.1 (not_client leg n other))))
      (goes_asks config ⊥ g (seen s) (seen x.0) (on_ci log) goes.0 (λ no. absurd no) k)

  put_asks : (g : Stages) (s : InProxy) (log : List OnLeg) (leg : Leg) → AsksAt config g s log
      → PutAsks g log leg (put s leg)
  put_asks g s log leg k =
      by_test (PutAsks g log leg) (is_client_leg leg) (put_echo s leg.number)
      (if is_server_leg s leg then settled_pick (next s) else None)
      (λ e. echo_asks g s log leg s.work e k)
      (λ e. by_test (PutAsks g log leg) (is_server_leg s leg) (settled_pick (next s)) None
      (λ f. server_asks g s log leg (settled_pick (next s)) e k (server_goes s)) (λ f. tt))

  -- ---- the role

  pub in_turns_keep : TurnsKeep rules (AsksAt config)
  in_turns_keep = record {
    up = λ g s put leg cookie k may none. up_asks g s put leg k may none;
    head = λ g s put leg text k turn. head_asks g s put leg (request_verdict true text) k turn;
    pdu = λ g s put leg count bytes k turn.
        goes_asks config ⊥ g (seen s) (seen (rules.pdu s leg count bytes).0) (on_ci put)
        (pdu_goes s leg count bytes) (λ no. absurd no) k;
    packet = λ g s put leg count named k turn.
        goes_asks config (FirstOn s leg) g (seen s) (seen (rules.packet s leg count named).0)
        (on_ci put) (packet_goes s leg count named) (first_framed config g s put leg k turn) k;
    put = λ g s log leg k. put_asks g s log leg k;
    drawn = λ g s put leg k.
        goes_asks config ⊥ g (seen s) (seen (rules.drawn s leg)) (on_ci put) (drawn_goes s leg)
        (λ no. absurd no) k;
    mark = λ g s put leg k may.
        goes_asks config ⊥ g (seen s) (seen (rules.mark s leg)) (on_ci put) (mark_goes s leg)
        (λ no. absurd no) k;
    ping = λ g s put leg k may.
        goes_asks config ⊥ g (seen s) (seen (rules.ping s leg)) (on_ci put) (ping_goes s leg)
        (λ no. absurd no) k;
  }

  pub in_starts : AsksAt config none_up (first config) []
  in_starts = record {
    number = refl;
    heads = λ leg e. absurd cc;
    answered = λ n. refl;
    due = tt;
    opened = λ e. absurd cc;
    awaits = λ e. (refl, refl);
  }

-- where a leg ends that the end nearer the client has finished, the node that is told goes on
use Rattle.rh_text.specs.declared.ends.Side.TheVariants as side
use Rattle.law_order.proofs.Vocabulary.{◌≡◌, ◌⊎◌, inl, inr, ◌<◌, ℕ, zero, suc, List, [], true, false, true≢false, None, arith, refl, sym, ap, ◌∙◌, subst, cases_Bool}
use Rattle.rh_line.specs.declared.state.State.TheVariants as state
use Rattle.rh_record.specs.declared.answer.Who.TheVariants as who
use Rattle.rh_shell.specs.declared.answers.Phase.TheVariants as phase
use Rattle.rh_shell.specs.Shells as shell
use Rattle.rh_wires.specs.Legs as legs
use Rattle.rh_wires.specs.Wires as wires
use Rattle.rh_company.specs.Company as company
use Rattle.rh_company.specs.Places as places
use Rattle.rh_company.specs.Telling as telling
use Rattle.law_moves.proofs.Vocabulary.{Dir, U, D, Side, Leg, LegKind, ClientOut, OutServer, ClientIn, InServer, Phase, Course, Going, Rules, Shell, State, state_by, state_of, verdict_by, Event, after_end_events, after_events}
use Rattle.law_role_inproxy.proofs.Vocabulary.{InProxy}
use Rattle.law_role_server.proofs.Vocabulary.{Server}
use Rattle.law_node_history.proofs.Vocabulary.{Who, reader_of, receiver, Ends, Place, Absent, Here, Gone, closing, is_up, Makers, leg_at, is_finished, at, IsTraced, came_up, wire_at, History, IsRun, in_place, out_place}
use Rattle.law_node_history.proofs.Lemmas.{answered, is_up_at, not_both}
use Rattle.law_role_outproxy.proofs.Vocabulary.{OutProxy}
use Rattle.law_node_begins.specs.ProxiesBegin.Pipes.{ci, co, os}
use Rattle.law_node_traces.proofs.Vocabulary.{is_made, AreRead, AreOurs, deeds, rules}
use Rattle.law_world_order.proofs.Moments.{OurWorld}
use Rattle.law_world_order.proofs.Vocabulary.{numbers_of}
use Rattle.law_world_ways.specs.EndsInTime.Both.{AreUpAtBoth}
use Rattle.law_world_ways.proofs.EndsInTime.Both.{up_for}
use Rattle.law_world_ways.specs.OnPaths.Legs.{was_told}
use Rattle.law_world_ways.specs.ExactPaths.Over.{IsOverUpwards}
use Rattle.law_world_marks.specs.GoingOn.{GoOnWhereOver}
use Rattle.law_world_unclosed.proofs.Untold.{IsUntold}
use Rattle.law_world_unclosed.specs.Late.{is_late}

-- ---- one node

-- one that goes on tells no cause
tells_none : (s : State) (p : Phase) → closing s (verdict_by (state_by Going p)) ≡ None
tells_none state.Opening phase.Opening = refl
tells_none state.Opening phase.Open = refl
tells_none state.Opening phase.Ended = refl
tells_none state.Open phase.Opening = refl
tells_none state.Open phase.Open = refl
tells_none state.Open phase.Ended = refl
tells_none state.Ended phase.Opening = refl
tells_none state.Ended phase.Open = refl
tells_none state.Ended phase.Ended = refl
tells_none (state.Closed why) p = refl

module _ {S : Type 0} (rules : Rules S) (leg : Leg) where
  pub node_silent : (s : Shell S) → (shell.ended rules s leg).0.course ≡ Going
      → (telling.tell rules s (Ends leg)).1 ≡ None
  node_silent s going =
      let t = (shell.ended rules s leg).0 in
      ap (λ (c : Course). closing (state_of rules s) (verdict_by (state_by c (rules.phase t.role))))
      going
      ∙ tells_none (state_of rules s) (rules.phase t.role)

  place_silent : (made : Shell S) (events : List Event) (p : Place S) → IsRun rules made events p
      → (shell.ended rules (after_events rules made events) leg).0.course ≡ Going
      → (places.tell rules (Ends leg) p).1 ≡ None
  place_silent made events Absent run going = refl
  place_silent made events (Here node count) run going =
      node_silent node
      (subst (λ (s : Shell S). (shell.ended rules s leg).0.course ≡ Going) (sym run) going)
  place_silent made events (Gone now) run going = refl

  absent_silent : (p : Place S) → p ≡ Absent → (places.tell rules (Ends leg) p).1 ≡ None
  absent_silent Absent none = refl
  absent_silent (Here node count) none = absurd cc
  absent_silent (Gone now) none = refl

  absent_idle : (made : Shell S) (events : List Event) (p : Place S) → p ≡ Absent
      → IsRun rules made events p → events ≡ []
  absent_idle made events Absent none run = run
  absent_idle made events (Here node count) none run = absurd cc
  absent_idle made events (Gone now) none run = absurd cc

-- ---- in a world of roles

module _ {K : Type 0} (m : Makers K InProxy OutProxy) (first v : OurWorld K) (h : History)
    (ours : AreOurs m first.company first.cast) (same : v.cast ≡ first.cast)
    (t : IsTraced rules m deeds first.company v h) (both : AreUpAtBoth v)
    (untold : IsUntold rules m deeds first.company v h)
    (read : AreRead v.readers (is_made v.company)) (none : out_place v.company 0 ≡ Absent)
    (go : GoOnWhereOver (numbers_of ours) v h) where
  -- no node was told of a leg that is up for it
  not_told : (leg : Leg) (end : Side) → legs.is_up leg end v.legs ≡ true
      → was_told v h leg end ≡ false
  not_told leg end up = by (cases_Bool (was_told v h leg end))
    where
      by : (was_told v h leg end ≡ true) ⊎ (was_told v h leg end ≡ false)
          → was_told v h leg end ≡ false
      by (inl told) =
          not_both (wires.is_up end (wire_at v.legs leg)) (sym (is_up_at v.legs leg end) ∙ up)
          (untold.down leg end told)
      by (inr rest) = rest

  over : (leg : Leg) → is_up v leg ≡ true → is_finished rules leg U v ≡ true
      → IsOverUpwards rules v h leg
  over leg up done = record {
    up = λ end. up_for v leg end both up;
    untold = λ end. not_told leg end (up_for v leg end both up);
    done = done;
  }

  abbrev Silent : Who → Leg → Type 0
  Silent node leg = (company.tell rules v.company node (Ends leg)).1 ≡ None

  some : (n : ℕ) → 0 < suc n
  some n = omega arith

  -- the out proxy of an OUT channel
  out_silent : (n : ℕ) → is_up v (co n) ≡ true → is_finished rules (co n) U v ≡ true
      → Silent (who.Out n) (co n)
  out_silent zero up done =
      answered Absent (places.tell rules.out_proxy (Ends (co 0))) None refl v.company.outs 0
      ∙ absent_silent rules.out_proxy (co 0) (out_place v.company 0) none
  out_silent (suc n) up done =
      answered Absent (places.tell rules.out_proxy (Ends (co (suc n)))) None refl v.company.outs
      (suc n)
      ∙ place_silent rules.out_proxy (co (suc n)) (m.out_proxy v.cast (suc n)) (h.outs (suc n))
      (out_place v.company (suc n)) (t.runs.outs (suc n))
      (subst (λ (s : Shell OutProxy).
      (shell.ended rules.out_proxy (after_events rules.out_proxy s (h.outs (suc n)))
      (co (suc n))).0.course ≡ Going)
      (sym (ap (λ (k : K). m.out_proxy k (suc n)) same ∙ ours.outs (suc n)))
      (go.outs (suc n) (some n) (over (co (suc n)) up done) (co (suc n))))

  -- the in proxy that reads an IN channel
  in_silent : (n : ℕ) → is_up v (ci n) ≡ true → is_finished rules (ci n) U v ≡ true
      → Silent (who.In (reader_of v.readers n)) (ci n)
  in_silent zero up done =
      answered Absent (places.tell rules.in_proxy (Ends (ci 0))) None refl v.company.ins
      (reader_of v.readers 0)
      ∙ absent_silent rules.in_proxy (ci 0) (in_place v.company (reader_of v.readers 0))
      (ap (λ (k : ℕ). in_place v.company k) read.none ∙ t.zero)
  in_silent (suc n) up done =
      let k = reader_of v.readers (suc n) in
      answered Absent (places.tell rules.in_proxy (Ends (ci (suc n)))) None refl v.company.ins k
      ∙ place_silent rules.in_proxy (ci (suc n)) (m.in_proxy v.cast k) (h.ins k)
      (in_place v.company k) (t.runs.ins k)
      (subst (λ (s : Shell InProxy).
      (shell.ended rules.in_proxy (after_events rules.in_proxy s (h.ins k))
      (ci (suc n))).0.course ≡ Going)
      (sym (ap (λ (x : K). m.in_proxy x k) same ∙ ours.ins k))
      (go.ins (suc n) (some n) (over (ci (suc n)) up done)))

  -- the server, whose os leg ends; there is none of an out proxy 0
  server_silent : (n : ℕ) → is_up v (os n) ≡ true → is_finished rules (os n) U v ≡ true
      → Silent who.Server (os n)
  server_silent zero up done =
      absurd (true≢false (sym ((t.carried.each (os 0) U).put_up
      (sym (is_up_at v.legs (os 0) side.Client) ∙ up_for v (os 0) side.Client both up))
      ∙ ap (came_up (os 0)) (absent_idle rules.out_proxy (os 0) (m.out_proxy v.cast 0) (h.outs 0)
      (out_place v.company 0) none (t.runs.outs 0))))
  server_silent (suc n) up done =
      node_silent rules.server (os (suc n)) v.company.server
      (subst (λ (s : Shell Server). (shell.ended rules.server s (os (suc n))).0.course ≡ Going)
      (sym (t.runs.server
      ∙ ap (λ (s : Shell Server). after_end_events rules.server deeds.server s h.server)
      ours.server))
      (go.out_servers (suc n) (some n) (over (os (suc n)) up done)))

  -- every other leg ends late
  pub goes_or_late : (leg : Leg) (dir : Dir) → is_up v leg ≡ true
      → is_finished rules leg dir v ≡ true
      → Silent (at v leg (receiver dir)) leg
      ⊎ (is_late (at v leg (receiver dir)) leg.kind ≡ true)
  goes_or_late leg dir = by leg.kind leg.number dir
    where
      by : (kind : LegKind) (n : ℕ) (dir : Dir) → is_up v (leg_at kind n) ≡ true
          → is_finished rules (leg_at kind n) dir v ≡ true
          → Silent (at v (leg_at kind n) (receiver dir)) (leg_at kind n)
          ⊎ (is_late (at v (leg_at kind n) (receiver dir)) kind ≡ true)
      by ClientOut n U up done = inl (out_silent n up done)
      by ClientOut n D up done = inr refl
      by OutServer n U up done = inl (server_silent n up done)
      by OutServer n D up done = inr refl
      by ClientIn n U up done = inl (in_silent n up done)
      by ClientIn n D up done = inr refl
      by InServer n U up done = inr refl
      by InServer n D up done = inr refl

-- behind changes none of which closes a node, all nodes go on
use Rattle.law_order.proofs.Vocabulary.{◌≡◌, ◌⊎◌, inl, inr, ℕ, List, [], ◌∷◌, ◌++◌, append_assoc, append-nil, refl, sym, ap, ◌∙◌, subst}
use Rattle.rh_client.specs.Client as client
use Rattle.rh_inproxy.specs.Machine as in_proxy
use Rattle.rh_outproxy.specs.Machine as out_proxy
use Rattle.rh_record.specs.declared.answer.Who.TheVariants as who
use Rattle.rh_server.specs.Servers as server
use Rattle.law_moves.proofs.Vocabulary.{Cause, Course, Going, Closed, Refusing, Rules, Shell, ClosedWith, Event, after_events, after_end_events}
use Rattle.law_role_inproxy.proofs.Vocabulary.{InProxy}
use Rattle.law_role_client.proofs.Vocabulary.{ClientRole}
use Rattle.law_role_server.proofs.Vocabulary.{Server}
use Rattle.law_node_history.proofs.Noting.{change_is_noted}
use Rattle.law_node_history.proofs.StoodClosed.{all_stand}
use Rattle.law_node_history.proofs.Lemmas.{cast_stays, traced_first}
use Rattle.law_node_history.proofs.Vocabulary.{Who, Place, Absent, Here, Gone, Company, Rulebook, Deeds, Makers, World, Change, Leads, MayChange, AreAllowed, changed, IsClosedBy, History, IsNew, IsRun, AreRuns, all_noted, at_place, in_place, made_by, noted, nothing, out_place, told_to, ClosedHere, MakesGoing, StandsClosed}
use Rattle.law_role_outproxy.proofs.Vocabulary.{OutProxy}
use Rattle.law_node_traces.proofs.Vocabulary.{AreOurs, deeds, rules}
use Rattle.law_world_order.proofs.Vocabulary.{numbers_of}
use Rattle.law_world_ways.specs.ExactPaths.GoingOn.{AllGoOn}
use Rattle.law_world_marks.proofs.GoneQuietly.{in_quietly, out_quietly}

-- ---- one node

going_of : (course : Course) → ((why : Cause) → ClosedWith why course → ⊥) → course ≡ Going
going_of Going open_still = refl
going_of (Closed why) open_still = absurd (open_still why refl)
going_of (Refusing why leg rest) open_still = absurd (open_still why refl)

not_closed : (course : Course) (why : Cause) → course ≡ Going → ClosedWith why course → ⊥
not_closed course why going closed = subst (ClosedWith why) going closed

module _ {S : Type 0} (rules : Rules S) (made : Shell S) where
  place_open : (events : List Event) → (after_events rules made events).course ≡ Going
      → (why : Cause) (p : Place S) → IsRun rules made events p → ClosedHere why p → ⊥
  place_open events going why Absent run closed = closed
  place_open events going why (Here node count) run closed =
      not_closed node.course why (ap (λ (s : Shell S). s.course) run ∙ going) closed
  place_open events going why (Gone now) run closed = closed

  place_goes : (events : List Event) → made.course ≡ Going → (p : Place S)
      → IsRun rules made events p → ((why : Cause) → ClosedHere why p → ⊥)
      → ((now : ℕ) → p ≡ Gone now → (after_events rules made events).course ≡ Going)
      → (after_events rules made events).course ≡ Going
  place_goes events fresh Absent run open_still gone =
      ap (λ (es : List Event). (after_events rules made es).course) run ∙ fresh
  place_goes events fresh (Here node count) run open_still gone =
      ap (λ (s : Shell S). s.course) (sym run) ∙ going_of node.course open_still
  place_goes events fresh (Gone now) run open_still gone = gone now refl

  -- where nothing more happened
  as_before : (events more : List Event) → (after_events rules made events).course ≡ Going
      → more ≡ [] → (after_events rules made (events ++ more)).course ≡ Going
  as_before events more going quiet =
      ap (λ (es : List Event). (after_events rules made es).course)
      (ap (λ (es : List Event). events ++ es) quiet ∙ append-nil events)
      ∙ going

-- ---- all nodes

module _ {K C S I O : Type 0} (r : Rulebook C S I O) (m : Makers K I O) (d : Deeds C S)
    (makes : MakesGoing r m) (first : Company C S I O) (cast : K)
    (fresh_ins : (n : ℕ) → (m.in_proxy cast n).course ≡ Going)
    (fresh_outs : (n : ℕ) → (m.out_proxy cast n).course ≡ Going) where
  record Goes (h : History) : Type 0 where
    client : (after_end_events r.client d.client first.client h.client).course ≡ Going
    server : (after_end_events r.server d.server first.server h.server).course ≡ Going
    ins : (n : ℕ) → (after_events r.in_proxy (m.in_proxy cast n) (h.ins n)).course ≡ Going
    outs : (n : ℕ) → (after_events r.out_proxy (m.out_proxy cast n) (h.outs n)).course ≡ Going

  module _ (w : World K C S I O) (h : History) (runs : AreRuns r m d first w h)
      (same : w.cast ≡ cast) (goes : Goes h) (c : Change) (may : MayChange r w c)
      (none : (node : Who) (why : Cause) → IsClosedBy r m d w (c ∷ []) node why → ⊥) where
    abbrev v : World K C S I O
    v = changed r m d w c

    abbrev after : AreRuns r m d first v (noted w h c)
    after = change_is_noted r m d first w h c may runs

    abbrev later : v.cast ≡ cast
    later = cast_stays r m d w c ∙ same

    open_before : (node : Who) (why : Cause) → StandsClosed w.company node why → ⊥
    open_before who.Client why closed =
        not_closed w.company.client.course why
        (ap (λ (s : Shell C). s.course) runs.client ∙ goes.client) closed
    open_before who.Server why closed =
        not_closed w.company.server.course why
        (ap (λ (s : Shell S). s.course) runs.server ∙ goes.server) closed
    open_before (who.In n) why closed =
        place_open r.in_proxy (m.in_proxy cast n) (h.ins n) (goes.ins n) why
        (in_place w.company n)
        (subst (λ (x : K). IsRun r.in_proxy (m.in_proxy x n) (h.ins n) (in_place w.company n)) same
        (runs.ins n)) closed
    open_before (who.Out n) why closed =
        place_open r.out_proxy (m.out_proxy cast n) (h.outs n) (goes.outs n) why
        (out_place w.company n)
        (subst (λ (x : K). IsRun r.out_proxy (m.out_proxy x n) (h.outs n) (out_place w.company n))
        same (runs.outs n)) closed

    open_after : (node : Who) (why : Cause) → StandsClosed v.company node why → ⊥
    open_after node why closed = by (all_stand r m d makes w (c ∷ []) node why closed)
      where
        by : StandsClosed w.company node why ⊎ IsClosedBy r m d w (c ∷ []) node why → ⊥
        by (inl stood) = open_before node why stood
        by (inr closes) = none node why closes

    step_goes : Goes (noted w h c)
    step_goes = record {
      client =
          ap (λ (s : Shell C). s.course) (sym after.client)
          ∙ going_of v.company.client.course (open_after who.Client);
      server =
          ap (λ (s : Shell S). s.course) (sym after.server)
          ∙ going_of v.company.server.course (open_after who.Server);
      ins = λ n.
          place_goes r.in_proxy (m.in_proxy cast n) ((noted w h c).ins n) (fresh_ins n)
          (in_place v.company n)
          (subst (λ (x : K). IsRun r.in_proxy (m.in_proxy x n) ((noted w h c).ins n)
          (in_place v.company n)) later (after.ins n)) (open_after (who.In n))
          (λ now gone. as_before r.in_proxy (m.in_proxy cast n) (h.ins n)
          (at_place (in_place w.company n) (told_to w c (who.In n)) (made_by w c (who.In n)))
          (goes.ins n) (in_quietly r m d w n now c gone));
      outs = λ n.
          place_goes r.out_proxy (m.out_proxy cast n) ((noted w h c).outs n) (fresh_outs n)
          (out_place v.company n)
          (subst (λ (x : K). IsRun r.out_proxy (m.out_proxy x n) ((noted w h c).outs n)
          (out_place v.company n)) later (after.outs n)) (open_after (who.Out n))
          (λ now gone. as_before r.out_proxy (m.out_proxy cast n) (h.outs n)
          (at_place (out_place w.company n) (told_to w c (who.Out n)) (made_by w c (who.Out n)))
          (goes.outs n) (out_quietly r m d w n now c gone));
    }

  go : (w : World K C S I O) (h : History) → AreRuns r m d first w h → w.cast ≡ cast → Goes h
      → (changes : List Change) → AreAllowed r m d w changes
      → ((node : Who) (why : Cause) → IsClosedBy r m d w changes node why → ⊥)
      → Goes (all_noted r m d w h changes)
  go w h runs same goes [] allowed none = goes
  go w h runs same goes (c ∷ changes) allowed none =
      go (changed r m d w c) (noted w h c) (change_is_noted r m d first w h c allowed.0 runs)
      (cast_stays r m d w c ∙ same)
      (step_goes w h runs same goes c allowed.0 (λ node why by. none node why (record {
        before = by.before;
        change = by.change;
        after = by.after ++ changes;
        split =
            ap (λ (cs : List Change). cs ++ changes) by.split
            ∙ append_assoc by.before (by.change ∷ by.after) changes;
        closes = by.closes;
      })))
      changes allowed.1 (λ node why by. none node why (record {
        before = c ∷ by.before;
        change = by.change;
        after = by.after;
        split = ap (λ (cs : List Change). c ∷ cs) by.split;
        closes = by.closes;
      }))

-- ---- in a world of roles

module _ {K : Type 0} (m : Makers K InProxy OutProxy)
    (w v : World K ClientRole Server InProxy OutProxy) (new : IsNew w)
    (ours : AreOurs m w.company w.cast) (makes : MakesGoing rules m)
    (leads : Leads rules m deeds w v)
    (none : (node : Who) (why : Cause) → IsClosedBy rules m deeds w leads.changes node why → ⊥)
  where
    abbrev h : History
    h = all_noted rules m deeds w nothing leads.changes

    goes : Goes rules m deeds makes w.company w.cast
        (λ n. ap (λ (s : Shell InProxy). s.course) (ours.ins n))
        (λ n. ap (λ (s : Shell OutProxy). s.course) (ours.outs n)) h
    goes =
        go rules m deeds makes w.company w.cast
        (λ n. ap (λ (s : Shell InProxy). s.course) (ours.ins n))
        (λ n. ap (λ (s : Shell OutProxy). s.course) (ours.outs n)) w nothing
        (traced_first rules m deeds w new).runs refl
        (record {
          client = ap (λ (s : Shell ClientRole). s.course) ours.client;
          server = ap (λ (s : Shell Server). s.course) ours.server;
          ins = λ n. ap (λ (s : Shell InProxy). s.course) (ours.ins n);
          outs = λ n. ap (λ (s : Shell OutProxy). s.course) (ours.outs n);
        }) leads.changes leads.allowed none

    pub all_go_on : AllGoOn (numbers_of ours) h
    all_go_on = record {
      client =
          ap (λ (s : Shell ClientRole).
          (after_end_events client.rules client.acts s h.client).course) (sym ours.client)
          ∙ goes.client;
      server =
          ap (λ (s : Shell Server).
          (after_end_events server.rules server.acts s h.server).course) (sym ours.server)
          ∙ goes.server;
      ins = λ n.
          ap (λ (s : Shell InProxy). (after_events in_proxy.rules s (h.ins n)).course)
          (sym (ours.ins n))
          ∙ goes.ins n;
      outs = λ n.
          ap (λ (s : Shell OutProxy). (after_events out_proxy.rules s (h.outs n)).course)
          (sym (ours.outs n))
          ∙ goes.outs n;
    }

-- while the server's work goes on, a leg to it ends only where its out proxy is done, which put
-- OUT_R1/A10
use Rattle.std.specs.List.{AllByRecursion}
use Rattle.rh_text.specs.declared.ends.Side.TheVariants as side
use Rattle.rh_company.specs.Company as company
use Rattle.rh_company.specs.Places as places
use Rattle.rh_outproxy.specs.Machine as out_proxy
use Rattle.rh_outproxy.specs.OutProxy.{is_put}
use Rattle.rh_server.specs.Servers as server
use Rattle.rh_wires.specs.Legs as legs
use Rattle.rh_record.specs.declared.answer.Who.TheVariants as who
use Rattle.law_order.proofs.Vocabulary.{◌≡◌, ◌⊎◌, inl, inr, ◌++◌, ◌∙◌, ℕ, Bool, true, false, true≢false, List, [], ◌∷◌, append_assoc, append-nil, IfSome, Some, refl, sym, ap, subst, Option, and_parts, list_all, has_handover, IsPrefix}
use Rattle.law_moves.proofs.Vocabulary.{Dir, U, D, Side, prefix_self, prefix_trans, Pipe, Leg, Going, NearEnd, is_marked, Rooms, Shell, begun, end_at, finished, is_at_work, Event, EndEvent, after_events, after_end_events}
use Rattle.law_role_inproxy.proofs.Vocabulary.{InProxy}
use Rattle.law_role_server.proofs.Vocabulary.{Server}
use Rattle.law_node_history.proofs.Vocabulary.{Absent, Gone, Makers, at, is_finished, sender, AreAccepted, AreAcceptedAtEnd, AreAllowed, Change, all_changed, of_line, ByLines, came_up, happened, Leads, History, all_noted, noted, nothing, out_place}
use Rattle.law_node_history.proofs.Lemmas.{asked, cast_kept, end_events_append, events_append, is_up_at}
use Rattle.law_role_outproxy.proofs.Vocabulary.{ROOMS, OutProxyConfig, OutProxy, new_proxy}
use Rattle.law_role_outproxy.specs.Order as out_order
use Rattle.law_node_streams.specs.Streams.{Stream}
use Rattle.law_node_ends.specs.Passed.{AsksNoEcho, HeadsAre}
use Rattle.law_node_begins.specs.ProxiesBegin.Pipes.{os}
use Rattle.law_node_traces.proofs.Traced.ByChanges.{lines_by_changes}
use Rattle.law_node_traces.proofs.Vocabulary.{is_gone, was_let_go, ByChanges, AreOurs, deeds, rules, IsKnown, history_at}
use Rattle.law_peers_routes.specs.Downwards.{proxy_reads}
use Rattle.law_node_marks.specs.Losing.{KeepsLeg}
use Rattle.law_world_order.proofs.Moments.{OurWorld}
use Rattle.law_world_order.proofs.Vocabulary.{Numbers, numbers_of}
use Rattle.law_world_ways.specs.EndsInTime.InTime.{AllEndInTime, IsOver, WasOver, ended_by}
use Rattle.law_world_ways.specs.OnPaths.Lost.{was_lost}
use Rattle.law_world_ways.specs.OnPaths.Ways.{AreOnTheirWay, out_node, server_node}
use Rattle.law_world_ways.specs.ExactWays.Keeping.{KeepsIfOfUse}
use Rattle.law_world_ways.specs.ExactPaths.GoingOn.{AllGoOn}
use Rattle.law_world_downwards.proofs.Fronts.{all_front, allowed_front, end_going_before, front_of_more, going_before, noted_more, out_grown, server_grown}
use Rattle.law_world_downwards.proofs.Keeping.{all_keep, out_rests}
use Rattle.law_world_downwards.proofs.OverLegs.{finished_there, left}
use Rattle.law_world_downwards.proofs.ServerOver.{ServerLaws, finished_rests}
use Rattle.law_world_downwards.proofs.Told.{change_ends}

-- ---- the laws that this stands on

pub record OutLaws : Type 0 where
  pub serving : ServerLaws
  pub unmarked_out : (first : OutProxy) (rooms : Rooms) (events : List Event) (leg : Leg)
      → was_lost leg events ≡ false → (end : NearEnd)
      → end_at (after_events out_proxy.rules (begun first rooms) events) leg ≡ Some end
      → is_marked end.standing ≡ false
  pub keeps_out : (config : OutProxyConfig) (events : List Event) (leg : Leg)
      → AreAccepted out_proxy.rules (begun (new_proxy config) ROOMS) events
      → came_up leg events ≡ true → was_lost leg events ≡ false
      → KeepsIfOfUse out_proxy.rules
      (after_events out_proxy.rules (begun (new_proxy config) ROOMS) events) leg
  pub stays_done : (window : ℕ) (events more : List EndEvent)
      → (let node = after_end_events server.rules server.acts (server.new_server window) events
      in is_at_work server.rules node.role ≡ false
      → is_at_work server.rules (after_end_events server.rules server.acts node more).role
      ≡ false)
  pub over : (config : OutProxyConfig) (pipe : Leg → Option Pipe) (events : List Event)
      (stream : Stream out_proxy.rules (new_proxy config) ROOMS pipe events)
      → AllByRecursion (HeadsAre (AsksNoEcho false)) stream.leads.moves
      → AllByRecursion (KeepsLeg (os config.number)) events
      → is_at_work out_proxy.rules
      (after_events out_proxy.rules (begun (new_proxy config) ROOMS) events).role ≡ false
      → (has_handover (out_order.put_items config.number stream.passage.put) ≡ true)
      × (has_handover (out_order.came_log stream.passage.came config.number) ≡ true)
  pub handed : (config : OutProxyConfig) (pipe : Leg → Option Pipe) (events : List Event)
      (stream : Stream out_proxy.rules (new_proxy config) ROOMS pipe events)
      → is_put (after_events out_proxy.rules (begun (new_proxy config) ROOMS)
      events).role.handover
      ≡ has_handover (out_order.put_items config.number stream.passage.put)
  pub for_good : (config : OutProxyConfig) (events more : List Event)
      → (let node = after_events out_proxy.rules (begun (new_proxy config) ROOMS) events in
      is_put node.role.handover ≡ true
      → is_put (after_events out_proxy.rules node more).role.handover ≡ true)

not_both : (b : Bool) → b ≡ true → b ≡ false → ⊥
not_both b e f = true≢false (sym e ∙ f)

-- ---- behind each front of changes that end legs in time

module _ (law : OutLaws) {K : Type 0} (m : Makers K InProxy OutProxy) (w : OurWorld K)
    (ours : AreOurs m w.company w.cast)
    (knows : (u : OurWorld K) (leads : Leads rules m deeds w u) → IsKnown m w u leads)
    (low : (u : OurWorld K) → Leads rules m deeds w u → (leg : Leg) (end : Side)
    → was_let_go u.company (at u leg end) ≡ true → legs.is_up leg end u.legs ≡ false)
    (on_way : (u : OurWorld K) (by : ByChanges rules m deeds w u)
    → AreOnTheirWay (numbers_of ours) u (history_at m w u by.leads))
    (echoes : (u : OurWorld K) (by : ByChanges rules m deeds w u) (n : ℕ)
    (stream : Stream out_proxy.rules (new_proxy (ours.out_config n)) ROOMS
    (proxy_reads (ours.out_config n)) ((history_at m w u by.leads).outs n))
    → AllByRecursion (HeadsAre (AsksNoEcho false)) stream.leads.moves)
    (changes : List Change) (allowed : AreAllowed rules m deeds w changes)
    (works : list_all of_line changes ≡ true) (in_time : AllEndInTime rules m deeds w changes)
    (going : AllGoOn (numbers_of ours) (all_noted rules m deeds w nothing changes))
    (serves : is_at_work server.rules
    (server_node (numbers_of ours) (all_noted rules m deeds w nothing changes)).role ≡ true)
    (n : ℕ) where
  abbrev W : List Change → OurWorld K
  W e = all_changed rules m deeds w e

  abbrev H : List Change → History
  H e = all_noted rules m deeds w nothing e

  abbrev At : List Change → Type 0
  At e = IsPrefix e changes

  abbrev numbers : Numbers
  numbers = numbers_of ours

  abbrev out : List Change → Shell OutProxy
  out e = out_node numbers (H e) n

  abbrev serving : List Change → Shell Server
  serving e = server_node numbers (H e)

  abbrev leads : (e : List Change) → At e → Leads rules m deeds w (W e)
  leads e here = record {
    changes = e;
    allowed =
        allowed_front rules m deeds w e here.0
        (subst (AreAllowed rules m deeds w) (sym here.1) allowed);
    reached = refl;
  }

  abbrev lines : (e : List Change) → At e → ByLines rules m deeds w (W e)
  lines e here = record {
    leads = leads e here;
    work =
        all_front of_line e here.0
        (subst (λ (cs : List Change). list_all of_line cs ≡ true) (sym here.1) works);
  }

  abbrev by : (e : List Change) → At e → ByChanges rules m deeds w (W e)
  by e here = lines_by_changes rules m deeds w (W e) (lines e here)

  known : (e : List Change) (here : At e) → IsKnown m w (W e) (leads e here)
  known e here = knows (W e) (leads e here)

  ways : (e : List Change) (here : At e) → AreOnTheirWay numbers (W e) (H e)
  ways e here = on_way (W e) (by e here)

  -- ---- the nodes

  same_cast : (e : List Change) (here : At e) → (W e).cast ≡ w.cast
  same_cast e here = cast_kept rules m deeds w (W e) (leads e here)

  out_accepted : (e : List Change) (here : At e)
      → AreAccepted out_proxy.rules (begun (new_proxy (numbers.outs n)) ROOMS) ((H e).outs n)
  out_accepted e here =
      subst (λ (s : Shell OutProxy). AreAccepted out_proxy.rules s ((H e).outs n))
      (ap (λ (k : K). m.out_proxy k n) (same_cast e here) ∙ ours.outs n)
      ((known e here).traced.accepted.outs n)

  server_accepted : (e : List Change) (here : At e)
      → AreAcceptedAtEnd server.rules server.acts (server.new_server numbers.window) (H e).server
  server_accepted e here =
      subst (λ (s : Shell Server). AreAcceptedAtEnd server.rules server.acts s (H e).server)
      ours.server (known e here).traced.accepted.server

  out_later : (e : List Change) (here : At e) → IsPrefix ((H e).outs n) ((H changes).outs n)
  out_later e here =
      subst (λ (cs : List Change). IsPrefix ((H e).outs n) ((H cs).outs n)) here.1
      (out_grown rules m deeds w e here.0 n)

  server_later : (e : List Change) (here : At e) → IsPrefix (H e).server (H changes).server
  server_later e here =
      subst (λ (cs : List Change). IsPrefix (H e).server (H cs).server) here.1
      (server_grown rules m deeds w e here.0)

  out_goes : (e : List Change) (here : At e) → (out e).course ≡ Going
  out_goes e here =
      going_before out_proxy.rules (begun (new_proxy (numbers.outs n)) ROOMS) ((H e).outs n)
      ((H changes).outs n) (out_later e here) (going.outs n)

  server_goes : (e : List Change) (here : At e) → (serving e).course ≡ Going
  server_goes e here =
      end_going_before server.rules server.acts (server.new_server numbers.window) (H e).server
      (H changes).server (server_later e here) going.server

  -- the server worked then
  worked : (e : List Change) → At e → is_at_work server.rules (serving e).role ≡ true
  worked e here = of (is_at_work server.rules (serving e).role) refl
    where
      of : (b : Bool) → is_at_work server.rules (serving e).role ≡ b
          → is_at_work server.rules (serving e).role ≡ true
      of true work = work
      of false rest =
          let more = server_later e here in
          absurd (not_both (is_at_work server.rules (serving changes).role) serves
          (subst (λ (s : Shell Server). is_at_work server.rules s.role ≡ false)
          (sym (end_events_append server.rules server.acts (server.new_server numbers.window)
          (H e).server more.0)
          ∙ ap (after_end_events server.rules server.acts (server.new_server numbers.window))
          more.1)
          (law.stays_done numbers.window (H e).server more.0 rest)))

  -- ---- what is so of the leg

  pub record IsKept (e : List Change) : Type 0 where
    here : was_lost (os n) ((H e).outs n) ≡ false
    there : was_lost (os n) (happened (H e).server) ≡ false

  abbrev IsHanded : List Change → Type 0
  IsHanded e = is_put (out e).role.handover ≡ true

  abbrev Safe : List Change → Type 0
  Safe e = IsKept e ⊎ IsHanded e

  handed_later : (e more : List Change) → IsHanded e → IsHanded (e ++ more)
  handed_later e more put =
      let p = out_grown rules m deeds w e more n in
      subst (λ (s : Shell OutProxy). is_put s.role.handover ≡ true)
      (sym (events_append out_proxy.rules (begun (new_proxy (numbers.outs n)) ROOMS)
      ((H e).outs n) p.0)
      ∙ ap (after_events out_proxy.rules (begun (new_proxy (numbers.outs n)) ROOMS)) p.1)
      (law.for_good (numbers.outs n) ((H e).outs n) p.0 put)

  -- where it is kept and one of its ends is over, that is the out proxy's
  module _ (e : List Change) (here : At e) (kept : IsKept e) where
    stream : Stream out_proxy.rules (new_proxy (numbers.outs n)) ROOMS
        (proxy_reads (numbers.outs n)) ((H e).outs n)
    stream = (ways e here).directions.down.proxies n

    out_keeps : AllByRecursion (KeepsLeg (os (numbers.outs n).number)) ((H e).outs n)
    out_keeps =
        subst (λ (k : ℕ). AllByRecursion (KeepsLeg (os k)) ((H e).outs n))
        (sym (ours.out_number n)) (all_keep (os n) ((H e).outs n) kept.here)

    pub rests_handed : is_at_work out_proxy.rules (out e).role ≡ false → IsHanded e
    rests_handed rest =
        law.handed (numbers.outs n) (proxy_reads (numbers.outs n)) ((H e).outs n) stream
        ∙ (law.over (numbers.outs n) (proxy_reads (numbers.outs n)) ((H e).outs n) stream
        (echoes (W e) (by e here) n stream) out_keeps rest).0

    over_there : legs.is_up (os n) side.Client (W e).legs ≡ true
        → company.finished rules (W e).company (who.Out n) (os n) ≡ true → IsHanded e
    over_there up done =
        rests_handed (out_rests (out e).role (os n)
        (left out_proxy.rules (out e) (os n) (out_goes e here)
        (law.unmarked_out (new_proxy (numbers.outs n)) ROOMS ((H e).outs n) (os n) kept.here)
        (finished_there out_proxy.rules (begun (new_proxy (numbers.outs n)) ROOMS)
        ((H e).outs n) (os n) (out_place (W e).company n) ((ways e here).nodes.outs n) stays
        (sym (asked Absent (places.finished out_proxy.rules (os n)) (W e).company.outs n)
        ∙ done))
        (law.keeps_out (numbers.outs n) ((H e).outs n) (os n) (out_accepted e here) rose kept.here
        (out_goes e here))))
      where
        rose : came_up (os n) ((H e).outs n) ≡ true
        rose =
            ((known e here).traced.carried.each (os n) U).put_up
            (sym (is_up_at (W e).legs (os n) side.Client) ∙ up)

        stays : (now : ℕ) → out_place (W e).company n ≡ Gone now → ⊥
        stays now gone =
            true≢false (sym up
            ∙ low (W e) (leads e here) (os n) side.Client (ap is_gone gone))

    -- the server has use for it while it works
    over_here : legs.is_up (os n) side.Server (W e).legs ≡ true
        → company.finished rules (W e).company who.Server (os n) ≡ true → IsHanded e
    over_here up done =
        absurd (not_both (is_at_work server.rules (serving e).role) (worked e here)
        (finished_rests law.serving numbers.window (H e).server n (server_accepted e here) rose
        kept.there (server_goes e here)
        (subst (λ (s : Shell Server). finished server.rules s (os n) ≡ true)
        (ways e here).nodes.server done)))
      where
        rose : came_up (os n) (happened (H e).server) ≡ true
        rose =
            ((known e here).traced.carried.each (os n) D).put_up
            (sym (is_up_at (W e).legs (os n) side.Server) ∙ up)

    over_handed : IsOver rules (W e) (os n) → IsHanded e
    over_handed over = on over.dir over.up over.done
      where
        on : (dir : Dir) → legs.is_up (os n) (sender dir) (W e).legs ≡ true
            → is_finished rules (os n) dir (W e) ≡ true → IsHanded e
        on U up done =
            over_there up
            (and_parts (company.finished rules (W e).company (who.Out n) (os n))
            (legs.is_clear (os n) U (W e).legs) done).0
        on D up done =
            over_here up
            (and_parts (company.finished rules (W e).company who.Server (os n))
            (legs.is_clear (os n) D (W e).legs) done).0

  -- ---- along the changes

  abbrev AllSafe : List Change → Type 0
  AllSafe done = (e : List Change) → IsPrefix e done → Safe e

  -- an earlier front of these is one of all
  within : (e done : List Change) → IsPrefix e done → At done → At e
  within e done p here = prefix_trans e done changes p here

  module _ (done : List Change) (c : Change) (rest : List Change)
      (split : changes ≡ done ++ c ∷ rest) (safe : AllSafe done) where
    here : At done
    here = (c ∷ rest, sym split)

    abbrev next : List Change
    next = done ++ c ∷ []

    -- the change ends the leg, which was over
    ends : ended_by c ≡ Some (os n) → IsHanded next
    ends is = of (safe was.earlier (was.later, sym was.front))
      where
        was : WasOver rules m deeds w done (os n)
        was =
            subst (λ (o : Option Leg). IfSome o (λ (l : Leg). WasOver rules m deeds w done l)) is
            (in_time done c rest split)

        at_then : At was.earlier
        at_then = within was.earlier done (was.later, sym was.front) here

        from_then : IsHanded was.earlier → IsHanded next
        from_then put =
            subst IsHanded
            (sym (append_assoc was.earlier was.later (c ∷ []))
            ∙ ap (λ (cs : List Change). cs ++ c ∷ []) (sym was.front))
            (handed_later was.earlier (was.later ++ c ∷ []) put)

        of : Safe was.earlier → IsHanded next
        of (inl kept) = from_then (over_handed was.earlier at_then kept was.over)
        of (inr put) = from_then put

    same_history : H next ≡ noted (W done) (H done) c
    same_history = noted_more rules m deeds w nothing done (c ∷ [])

    kept_or_handed : IsKept done → Safe next
    kept_or_handed kept =
        on (was_lost (os n) ((H next).outs n)) (was_lost (os n) (happened (H next).server)) refl
        refl
      where
        lost_out : was_lost (os n) ((H next).outs n) ≡ true → IsHanded next
        lost_out e =
            of (change_ends (os n) (W done) (H done) c (who.Out n)
            (ap (λ (g : History). was_lost (os n) (g.outs n)) (sym same_history) ∙ e))
          where
            of : (was_lost (os n) ((H done).outs n) ≡ true) ⊎ (ended_by c ≡ Some (os n))
                → IsHanded next
            of (inl was) =
                absurd (not_both (was_lost (os n) ((H done).outs n)) was kept.here)
            of (inr is) = ends is

        lost_there : was_lost (os n) (happened (H next).server) ≡ true → IsHanded next
        lost_there e =
            of (change_ends (os n) (W done) (H done) c who.Server
            (ap (λ (g : History). was_lost (os n) (happened g.server)) (sym same_history) ∙ e))
          where
            of : (was_lost (os n) (happened (H done).server) ≡ true)
                ⊎ (ended_by c ≡ Some (os n)) → IsHanded next
            of (inl was) =
                absurd (not_both (was_lost (os n) (happened (H done).server)) was kept.there)
            of (inr is) = ends is

        on : (a b : Bool) → was_lost (os n) ((H next).outs n) ≡ a
            → was_lost (os n) (happened (H next).server) ≡ b → Safe next
        on true b e f = inr (lost_out e)
        on false true e f = inr (lost_there f)
        on false false e f = inl (record { here = e; there = f })

    next_safe : Safe next
    next_safe = of (safe done (prefix_self done))
      where
        of : Safe done → Safe next
        of (inl kept) = kept_or_handed kept
        of (inr put) = inr (handed_later done (c ∷ []) put)

    more_safe : AllSafe next
    more_safe e p = of (front_of_more e done c p)
      where
        of : IsPrefix e done ⊎ (e ≡ next) → Safe e
        of (inl front) = safe e front
        of (inr all) = subst Safe (sym all) next_safe

  first_safe : AllSafe []
  first_safe [] p = inl (record { here = refl; there = refl })
  first_safe (c ∷ e) p = absurd (let bad : c ∷ (e ++ p.0) ≡ [] = p.1 in cc)

  along : (done rest : List Change) → changes ≡ done ++ rest → AllSafe done → Safe changes
  along done [] split safe =
      subst Safe (sym (split ∙ append-nil done)) (safe done (prefix_self done))
  along done (c ∷ rest) split safe =
      along (done ++ c ∷ []) rest (split ∙ sym (append_assoc done (c ∷ []) rest))
      (more_safe done c rest split safe)

  pub safe_at_last : Safe changes
  safe_at_last = along [] changes refl first_safe

  -- an out proxy that is done put OUT_R1/A10
  pub over_behind_mark : is_at_work out_proxy.rules (out changes).role ≡ false
      → IsHanded changes
  over_behind_mark rest = of safe_at_last
    where
      of : Safe changes → IsHanded changes
      of (inl kept) = rests_handed changes (prefix_self changes) kept rest
      of (inr put) = put

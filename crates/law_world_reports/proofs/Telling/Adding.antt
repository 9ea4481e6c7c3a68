-- what changes add to what passed at the ends
use Rattle.rh_text.specs.declared.ends.Side.TheVariants as side
use Rattle.law_order.proofs.Vocabulary.{◌≡◌, ◌++◌, ℕ, List, [], ◌∷◌, Bool, true, false, refl, sym, ap, ◌∙◌, list_all, and_parts, append_assoc, append-nil}
use Rattle.rh_record.specs.declared.answer.Who.TheVariants as who
use Rattle.law_moves.proofs.Vocabulary.{Side, after_end_events}
use Rattle.law_node_history.proofs.Vocabulary.{Company, Rulebook, Deeds, Makers, World, Change, Gives, Takes, Closes, RecyclesIn, RecyclesOut, MayChange, AreAllowed, ByLines, changed, all_changed, is_quiet, Quietly, History, acts_by, all_noted, noted, nothing, told_to}
use Rattle.law_node_history.proofs.Lemmas.{works_then, works_quietly, works_by_lines, does, end_on}
use Rattle.law_world_reports.proofs.Telling.Passed.{given_more, given_quiet, stopped_more, stopped_quiet, taken_more, taken_quiet}
use Rattle.law_world_reports.proofs.Vocabulary.{end_given, end_stopped, end_taken}

-- PDUs that were given at an end, such that were taken there, and an empty one each time that it
-- was told to give no more
pub data Way : Type 0 where
  Given : Way
  Taken : Way
  Stopped : Way

-- it is of PDUs that pass the end
abbrev pub is_of_pdus : Way → Bool
is_of_pdus Given = true
is_of_pdus Taken = true
is_of_pdus Stopped = false

-- a change that acts at no end
quiet_acts : (change : Change) (end : Side) → is_quiet change ≡ true → acts_by change end ≡ []
quiet_acts (Gives at pdu) end quiet = absurd cc
quiet_acts (Takes at) end quiet = absurd cc
quiet_acts (Closes at) end quiet = absurd cc
quiet_acts RecyclesIn end quiet = absurd cc
quiet_acts RecyclesOut end quiet = absurd cc
quiet_acts change end quiet = refl

module _ {C S I O : Type 0} (r : Rulebook C S I O) (d : Deeds C S) where
  -- by the history of an end
  abbrev pub passed : Way → Company C S I O → History → Side → List (List ℕ)
  passed Given first h end = end_given r d first h end
  passed Taken first h end = end_taken r d first h end
  passed Stopped first h end = end_stopped h end

module _ {K C S I O : Type 0} (r : Rulebook C S I O) (m : Makers K I O) (d : Deeds C S) where
  -- ---- one change

  -- what it adds
  abbrev pub adds : Way → World K C S I O → Change → Side → List (List ℕ)
  adds way w change end = passed r d way w.company (noted w nothing change) end

  -- the ends are what their history made of them
  pub record EndsRun (first : Company C S I O) (w : World K C S I O) (h : History) : Type 0 where
    pub client : w.company.client ≡ after_end_events r.client d.client first.client h.client
    pub server : w.company.server ≡ after_end_events r.server d.server first.server h.server

  pub run_change : (first : Company C S I O) (w : World K C S I O) (h : History)
      (change : Change) → MayChange r w change → EndsRun first w h
      → EndsRun first (changed r m d w change) (noted w h change)
  run_change first w h change may run =
      let v = changed r m d w change in
      let did = does r m d w change may in
      record {
        client = end_on r m d r.client d.client first.client w.company.client v.company.client
            h.client (told_to w change who.Client) (acts_by change side.Client) run.client
            did.client;
        server = end_on r m d r.server d.server first.server w.company.server v.company.server
            h.server (told_to w change who.Server) (acts_by change side.Server) run.server
            did.server;
      }

  pub adds_to : (way : Way) (first : Company C S I O) (w : World K C S I O) (h : History)
      (change : Change) (end : Side) → EndsRun first w h
      → passed r d way first (noted w h change) end
      ≡ passed r d way first h end ++ adds way w change end
  adds_to Given first w h change side.Client run =
      given_more r.client d.client first.client w.company.client h.client
      (noted w nothing change).client run.client
  adds_to Given first w h change side.Server run =
      given_more r.server d.server first.server w.company.server h.server
      (noted w nothing change).server run.server
  adds_to Taken first w h change side.Client run =
      taken_more r.client d.client first.client w.company.client h.client
      (noted w nothing change).client run.client
  adds_to Taken first w h change side.Server run =
      taken_more r.server d.server first.server w.company.server h.server
      (noted w nothing change).server run.server
  adds_to Stopped first w h change side.Client run =
      stopped_more h.client (noted w nothing change).client
  adds_to Stopped first w h change side.Server run =
      stopped_more h.server (noted w nothing change).server

  -- one that is no act adds nothing
  pub adds_none : (way : Way) (w : World K C S I O) (change : Change) (end : Side)
      → acts_by change end ≡ [] → adds way w change end ≡ []
  adds_none Given w change side.Client none =
      given_quiet r.client d.client w.company.client (told_to w change who.Client)
      (acts_by change side.Client) none
  adds_none Given w change side.Server none =
      given_quiet r.server d.server w.company.server (told_to w change who.Server)
      (acts_by change side.Server) none
  adds_none Taken w change side.Client none =
      taken_quiet r.client d.client w.company.client (told_to w change who.Client)
      (acts_by change side.Client) none
  adds_none Taken w change side.Server none =
      taken_quiet r.server d.server w.company.server (told_to w change who.Server)
      (acts_by change side.Server) none
  adds_none Stopped w change side.Client none =
      stopped_quiet (told_to w change who.Client) (acts_by change side.Client) none
  adds_none Stopped w change side.Server none =
      stopped_quiet (told_to w change who.Server) (acts_by change side.Server) none

  pub adds_quiet : (way : Way) (w : World K C S I O) (change : Change) (end : Side)
      → is_quiet change ≡ true → adds way w change end ≡ []
  adds_quiet way w change end quiet = adds_none way w change end (quiet_acts change end quiet)

  -- ---- changes behind each other

  abbrev pub all_add : Way → World K C S I O → List Change → Side → List (List ℕ)
  all_add way w [] end = []
  all_add way w (change ∷ changes) end =
      adds way w change end ++ all_add way (changed r m d w change) changes end

  pub all_add_to : (way : Way) (first : Company C S I O) (w : World K C S I O) (h : History)
      (changes : List Change) (end : Side) → AreAllowed r m d w changes → EndsRun first w h
      → passed r d way first (all_noted r m d w h changes) end
      ≡ passed r d way first h end ++ all_add way w changes end
  all_add_to way first w h [] end allowed run = sym (append-nil (passed r d way first h end))
  all_add_to way first w h (change ∷ changes) end allowed run =
      let v = changed r m d w change in
      let more = all_add way v changes end in
      all_add_to way first v (noted w h change) changes end allowed.1
      (run_change first w h change allowed.0 run)
      ∙ ap (λ front. front ++ more) (adds_to way first w h change end run)
      ∙ append_assoc (passed r d way first h end) (adds way w change end) more

  pub run_all : (first : Company C S I O) (w : World K C S I O) (h : History)
      (changes : List Change) → AreAllowed r m d w changes → EndsRun first w h
      → EndsRun first (all_changed r m d w changes) (all_noted r m d w h changes)
  run_all first w h [] allowed run = run
  run_all first w h (change ∷ changes) allowed run =
      run_all first (changed r m d w change) (noted w h change) changes allowed.1
      (run_change first w h change allowed.0 run)

  all_quiet : (way : Way) (w : World K C S I O) (changes : List Change) (end : Side)
      → list_all is_quiet changes ≡ true → all_add way w changes end ≡ []
  all_quiet way w [] end quiet = refl
  all_quiet way w (change ∷ changes) end quiet =
      let parts = and_parts (is_quiet change) (list_all is_quiet changes) quiet in
      let v = changed r m d w change in
      ap (λ front. front ++ all_add way v changes end)
      (adds_quiet way w change end parts.0)
      ∙ all_quiet way v changes end parts.1

  add_append : (way : Way) (w : World K C S I O) (cs ds : List Change) (end : Side)
      → all_add way w (cs ++ ds) end
      ≡ all_add way w cs end ++ all_add way (all_changed r m d w cs) ds end
  add_append way w [] ds end = refl
  add_append way w (c ∷ cs) ds end =
      let v = changed r m d w c in
      ap (λ behind. adds way w c end ++ behind) (add_append way v cs ds end)
      ∙ sym (append_assoc (adds way w c end) (all_add way v cs end)
      (all_add way (all_changed r m d v cs) ds end))

  -- ---- from one world to the other

  -- what was added
  abbrev pub gains : {w v : World K C S I O} → ByLines r m d w v → Way → Side → List (List ℕ)
  gains {w} {v} lines way end = all_add way w lines.leads.changes end

  pub gains_then : (w v u : World K C S I O) (a : ByLines r m d w v) (b : ByLines r m d v u)
      (way : Way) (end : Side)
      → gains (works_then r m d w v u a b) way end ≡ gains a way end ++ gains b way end
  gains_then w v u a b way end =
      add_append way w a.leads.changes b.leads.changes end
      ∙ ap (λ x. gains a way end ++ all_add way x b.leads.changes end) a.leads.reached

  -- quiet changes are changes of lines
  abbrev pub quiet_lines : (w v : World K C S I O) → Quietly r m d w v → ByLines r m d w v
  quiet_lines w v quiet = works_by_lines r m d w v (works_quietly r m d w v quiet)

  pub gains_quiet : (w v : World K C S I O) (quiet : Quietly r m d w v) (way : Way) (end : Side)
      → gains (quiet_lines w v quiet) way end ≡ []
  gains_quiet w v quiet way end = all_quiet way w quiet.leads.changes end quiet.work

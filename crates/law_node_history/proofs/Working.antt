-- changes of one kind behind each other
use Rattle.law_order.proofs.Vocabulary.{◌≡◌, Bool, List, [], ◌∷◌, true, refl, ◌∙◌, list_all, and_from, and_parts, list_all-append}
use Rattle.law_node_history.proofs.Vocabulary.{Rulebook, Deeds, Makers, World, Change, Gives, Takes, Closes, RecyclesIn, RecyclesOut, Reports, MayChange, changed, of_line, is_work, is_quiet, WorksBy, ByLines, Works, Quietly}
use Rattle.law_node_history.proofs.Leading.{leads_none, leads_one, leads_then}

-- what each passes that passes the first test
pub all_wider : {X : Type 0} (first second : X → Bool)
    → ((x : X) → first x ≡ true → second x ≡ true) → (list : List X)
    → list_all first list ≡ true → list_all second list ≡ true
all_wider first second wider [] all = refl
all_wider first second wider (x ∷ list) all =
    let parts = and_parts (first x) (list_all first list) all in
    and_from (second x) (list_all second list) (wider x parts.0)
    (all_wider first second wider list parts.1)

pub quiet_work : (change : Change) → is_quiet change ≡ true → is_work change ≡ true
quiet_work (Gives end pdu) quiet = absurd cc
quiet_work (Takes end) quiet = absurd cc
quiet_work (Closes end) quiet = absurd cc
quiet_work RecyclesIn quiet = absurd cc
quiet_work RecyclesOut quiet = absurd cc
quiet_work Reports quiet = absurd cc
quiet_work change quiet = quiet

pub work_of_line : (change : Change) → is_work change ≡ true → of_line change ≡ true
work_of_line Reports work = absurd cc
work_of_line change work = work

module _ {K C S I O : Type 0} {kind : Change → Bool} (r : Rulebook C S I O) (m : Makers K I O)
    (d : Deeds C S) where
  abbrev pub works_none : (w : World K C S I O) → WorksBy kind r m d w w
  works_none w = record { leads = leads_none r m d w; work = refl }

  abbrev pub works_one : (w : World K C S I O) (change : Change) → MayChange r w change
      → kind change ≡ true → WorksBy kind r m d w (changed r m d w change)
  works_one w change may is = record {
    leads = leads_one r m d w change may;
    work = and_from (kind change) true is refl;
  }

  abbrev pub works_then : (w v u : World K C S I O) → WorksBy kind r m d w v
      → WorksBy kind r m d v u → WorksBy kind r m d w u
  works_then w v u a b = record {
    leads = leads_then r m d w v u a.leads b.leads;
    work =
        list_all-append kind a.leads.changes b.leads.changes
        ∙ and_from (list_all kind a.leads.changes) (list_all kind b.leads.changes) a.work
        b.work;
  }

  -- one more change
  abbrev pub works_more : (w v : World K C S I O) (change : Change) → WorksBy kind r m d w v
      → MayChange r v change → kind change ≡ true
      → WorksBy kind r m d w (changed r m d v change)
  works_more w v change a may is =
      works_then w v (changed r m d v change) a (works_one v change may is)

module _ {K C S I O : Type 0} (r : Rulebook C S I O) (m : Makers K I O) (d : Deeds C S) where
  -- quiet changes are no report
  abbrev pub works_quietly : (w v : World K C S I O) → Quietly r m d w v → Works r m d w v
  works_quietly w v a = record {
    leads = a.leads;
    work = all_wider is_quiet is_work quiet_work a.leads.changes a.work;
  }

  -- and all of that are changes of lines
  abbrev pub works_by_lines : (w v : World K C S I O) → Works r m d w v → ByLines r m d w v
  works_by_lines w v a = record {
    leads = a.leads;
    work = all_wider is_work of_line work_of_line a.leads.changes a.work;
  }

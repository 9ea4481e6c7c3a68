-- changes of lines that end a leg only where it is over, behind each other
use Rattle.std.proofs.Common.{◌≡◌, ℕ, zero, suc, List, [], ◌∷◌, Bool, true, None, refl, sym, subst}
use Rattle.std.specs.Prelude.{IfSome}
use Rattle.std.specs.List.{list_all}
use Rattle.std.proofs.lemmas.Bool.{and_parts}
use Rattle.rh_line.specs.declared.leg.Leg.{Leg}
use Rattle.rh_company.specs.Company.{Rulebook}
use Rattle.rh_nodes.specs.Giving.{Deeds}
use Rattle.rh_nodes.specs.Opening.{Makers}
use Rattle.rh_nodes.specs.Time.{for_each}
use Rattle.rh_nodes.specs.World.{World}
use Rattle.law_node_history.specs.Changes.{Change, GoesUp, OpensIn, OpensOut, OpensSame, Draws, MayChange, WorksBy, changed, is_quiet, of_line}
use Rattle.law_node_history.proofs.Connecting.{connects, quiet_connects}
use Rattle.law_node_history.proofs.Working.{all_wider, quiet_work, work_of_line, works_none, works_one, works_then}
use Rattle.law_world_ways.specs.EndsInTime.InTime.{EndsInTime, ended_by}
use Rattle.law_world_ways.proofs.EndsInTime.Behind.{EndBehind, NoLeg, OrNow, all_in_time, ends_append, ends_over, in_time_behind}

-- what connects a leg ends none
connects_ends : (change : Change) → connects change ≡ true → ended_by change ≡ None
connects_ends (GoesUp node leg end cookie) is = refl
connects_ends (OpensIn number cookie) is = refl
connects_ends (OpensOut number cookie) is = refl
connects_ends (OpensSame number cookie) is = refl
connects_ends (Draws cookies) is = refl
connects_ends change is = absurd cc

module _ {K C S I O : Type 0} (kind : Change → Bool) (r : Rulebook C S I O) (m : Makers K I O)
    (d : Deeds C S) where
  -- each change ends a leg only where that was over before all of them, or is or was over; and all
  -- are of this kind
  pub record GoesBehind (P : Leg → Type 0) (w v : World K C S I O) : Type 0 where
    pub lines : WorksBy kind r m d w v
    pub ends : EndBehind r m d P w lines.leads.changes

module _ {K C S I O : Type 0} {kind : Change → Bool} (r : Rulebook C S I O) (m : Makers K I O)
    (d : Deeds C S) where
  abbrev pub goes_none : (P : Leg → Type 0) (w : World K C S I O) → GoesBehind kind r m d P w w
  goes_none P w = record { lines = works_none r m d w; ends = tt }

  abbrev pub goes_one : (P : Leg → Type 0) (w : World K C S I O) (change : Change)
      → MayChange r w change → kind change ≡ true → IfSome (ended_by change) (OrNow r m d P w)
      → GoesBehind kind r m d P w (changed r m d w change)
  goes_one P w change may is ends =
      record { lines = works_one r m d w change may is; ends = (ends, tt) }

  abbrev pub goes_then : (P : Leg → Type 0) (w v u : World K C S I O) → GoesBehind kind r m d P w v
      → GoesBehind kind r m d P v u → GoesBehind kind r m d P w u
  goes_then P w v u a b = record {
    lines = works_then r m d w v u a.lines b.lines;
    ends =
        ends_append r m d P w a.lines.leads.changes b.lines.leads.changes a.ends
        (subst (λ (x : World K C S I O). EndBehind r m d P x b.lines.leads.changes)
        (sym a.lines.leads.reached) b.ends);
  }

  -- something is done for each number
  pub goes_for_each : (P : Leg → Type 0) (n : ℕ) (act : ℕ → World K C S I O → World K C S I O)
      (w : World K C S I O) → ((k : ℕ) (v : World K C S I O) → GoesBehind kind r m d P v (act k v))
      → GoesBehind kind r m d P w (for_each n act w)
  goes_for_each P zero act w a = goes_none P w
  goes_for_each P (suc n) act w a =
      goes_then P w (for_each n act w) (act n (for_each n act w)) (goes_for_each P n act w a)
      (a n (for_each n act w))

  -- what is over now need not be known before
  pub goes_over : (P Q : Leg → Type 0) (w v : World K C S I O)
      → ((leg : Leg) → P leg → OrNow r m d Q w leg) → GoesBehind kind r m d P w v
      → GoesBehind kind r m d Q w v
  goes_over P Q w v over a = record {
    lines = a.lines;
    ends = ends_over r m d P Q w over a.lines.leads.changes a.ends;
  }

module _ {K C S I O : Type 0} (r : Rulebook C S I O) (m : Makers K I O) (d : Deeds C S) where
  -- ---- legs come up

  change_connects : (P : Leg → Type 0) (change : Change) → connects change ≡ true
      → IfSome (ended_by change) P
  change_connects P change is = subst (λ o. IfSome o P) (sym (connects_ends change is)) tt

  all_connect : (P : Leg → Type 0) (w : World K C S I O) (cs : List Change)
      → list_all connects cs ≡ true → EndBehind r m d P w cs
  all_connect P w [] is = tt
  all_connect P w (c ∷ cs) is =
      let parts = and_parts (connects c) (list_all connects cs) is in (
        change_connects (OrNow r m d P w) c parts.0,
        all_connect (OrNow r m d P w) (changed r m d w c) cs parts.1,
      )

  pub goes_connecting : (P : Leg → Type 0) (w v : World K C S I O)
      → WorksBy connects r m d w v → GoesBehind is_quiet r m d P w v
  goes_connecting P w v a = record {
    lines = record {
      leads = a.leads;
      work = all_wider connects is_quiet quiet_connects a.leads.changes a.work;
    };
    ends = all_connect P w a.leads.changes a.work;
  }

  -- ---- with nothing known before

  abbrev pub InTime : World K C S I O → World K C S I O → Type 0
  InTime w v = GoesBehind of_line r m d NoLeg w v

  -- and by quiet changes
  abbrev pub QuietInTime : World K C S I O → World K C S I O → Type 0
  QuietInTime w v = GoesBehind is_quiet r m d NoLeg w v

  abbrev pub quiet_in_time : (w v : World K C S I O) → QuietInTime w v → InTime w v
  quiet_in_time w v a = record {
    lines = record {
      leads = a.lines.leads;
      work = all_wider is_quiet of_line (λ c quiet. work_of_line c (quiet_work c quiet))
          a.lines.leads.changes a.lines.work;
    };
    ends = a.ends;
  }

  pub ends_in_time : (w v : World K C S I O) → InTime w v → EndsInTime r m d w v
  ends_in_time w v a = record {
    lines = a.lines;
    in_time = all_in_time r m d w a.lines.leads.changes a.ends;
  }

  goes_in_time : (w v : World K C S I O) → EndsInTime r m d w v → InTime w v
  goes_in_time w v a = record {
    lines = a.lines;
    ends = in_time_behind r m d w a.lines.leads.changes a.in_time;
  }

  pub in_time_then : (w v u : World K C S I O) → EndsInTime r m d w v → EndsInTime r m d v u
      → EndsInTime r m d w u
  in_time_then w v u a b =
      ends_in_time w u
      (goes_then r m d NoLeg w v u (goes_in_time w v a) (goes_in_time v u b))

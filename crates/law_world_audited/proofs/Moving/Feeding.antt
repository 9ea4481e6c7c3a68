-- changes of lines, and the bytes that they feed
use Rattle.law_order.proofs.Vocabulary.{◌≡◌, ◌++◌, ℕ, zero, suc, List, [], ◌∷◌, true, refl, sym, ap, ap₂, ◌&&◌, ◌∙◌, append_assoc, append-nil, and_parts, list_all}
use Rattle.law_moves.proofs.Vocabulary.{Dir, Leg}
use Rattle.law_node_history.proofs.Connecting.{connects, quiet_connects}
use Rattle.law_node_history.proofs.Drawing.{draws_then, is_steady, stands, steady_is_still}
use Rattle.law_node_history.proofs.Vocabulary.{Answer, Rulebook, Deeds, Makers, and_then, for_each, World, Change, GoesUp, OpensIn, OpensOut, OpensSame, Draws, MayChange, AreDrawnFor, DrawsBy, ByLines, all_changed, all_risen, changed, of_line}
use Rattle.law_node_history.proofs.Working.{all_wider, quiet_work, work_of_line, works_none, works_one, works_then}
use Rattle.law_world_audited.specs.Moving.Fed.{all_fed, fed_there}
use Rattle.law_world_audited.specs.Moving.Moved.{moved_by, moved_on}

-- ---- answers behind each other

pub moved_append : (leg : Leg) (dir : Dir) (xs ys : List Answer)
    → moved_on leg dir (xs ++ ys) ≡ moved_on leg dir xs ++ moved_on leg dir ys
moved_append leg dir [] ys = refl
moved_append leg dir (x ∷ xs) ys =
    ap (λ (more : List ℕ). moved_by leg dir x ++ more) (moved_append leg dir xs ys)
    ∙ sym (append_assoc (moved_by leg dir x) (moved_on leg dir xs) (moved_on leg dir ys))

-- what connects a leg feeds nothing
connects_feed : {K C S I O : Type 0} (w : World K C S I O) (leg : Leg) (dir : Dir)
    (change : Change) → connects change ≡ true → fed_there w leg dir change ≡ []
connects_feed w leg dir (GoesUp node other end cookie) is = refl
connects_feed w leg dir (OpensIn number cookie) is = refl
connects_feed w leg dir (OpensOut number cookie) is = refl
connects_feed w leg dir (OpensSame number cookie) is = refl
connects_feed w leg dir (Draws cookies) is = refl
connects_feed w leg dir change is = absurd cc

module _ {K C S I O : Type 0} (r : Rulebook C S I O) (m : Makers K I O) (d : Deeds C S) where
  pub fed_append : (w : World K C S I O) (leg : Leg) (dir : Dir) (cs ds : List Change)
      → all_fed r m d w leg dir (cs ++ ds)
      ≡ all_fed r m d w leg dir cs ++ all_fed r m d (all_changed r m d w cs) leg dir ds
  fed_append w leg dir [] ds = refl
  fed_append w leg dir (c ∷ cs) ds =
      let v = changed r m d w c in
      ap (λ (more : List ℕ). fed_there w leg dir c ++ more) (fed_append v leg dir cs ds)
      ∙ sym (append_assoc (fed_there w leg dir c) (all_fed r m d v leg dir cs)
      (all_fed r m d (all_changed r m d v cs) leg dir ds))

  -- changes of lines feed what is told
  pub record Feeds (told : Leg → Dir → List ℕ) (w v : World K C S I O) : Type 0 where
    pub by : ByLines r m d w v
    pub drawn : AreDrawnFor (all_risen by.leads.changes) w.cookies v.cookies
    pub fed : (leg : Leg) (dir : Dir)
        → told leg dir ≡ all_fed r m d w leg dir by.leads.changes

  pub feeds_then : (told more : Leg → Dir → List ℕ) (w v u : World K C S I O) → Feeds told w v
      → Feeds more v u → Feeds (λ leg dir. told leg dir ++ more leg dir) w u
  feeds_then told more w v u a b = record {
    by = works_then r m d w v u a.by b.by;
    drawn = (draws_then r m d w v u (record { works = a.by; drawn = a.drawn })
        (record { works = b.by; drawn = b.drawn })).drawn;
    fed = λ leg dir.
        ap₂ (λ (front rest : List ℕ). front ++ rest) (a.fed leg dir) (b.fed leg dir)
        ∙ ap (λ (x : World K C S I O). all_fed r m d w leg dir a.by.leads.changes
        ++ all_fed r m d x leg dir b.by.leads.changes) (sym a.by.leads.reached)
        ∙ sym (fed_append w leg dir a.by.leads.changes b.by.leads.changes);
  }

  -- ---- changes that feed nothing

  abbrev pub Dry : World K C S I O → World K C S I O → Type 0
  Dry w v = Feeds (λ leg dir. []) w v

  pub dry_none : (w : World K C S I O) → Dry w w
  dry_none w =
      record { by = works_none r m d w; drawn = stands r m d w; fed = λ leg dir. refl }

  pub dry_one : (w : World K C S I O) (change : Change) → MayChange r w change
      → (is_steady change && of_line change) ≡ true → ((leg : Leg) (dir : Dir) → fed_there w leg dir change ≡ [])
      → Dry w (changed r m d w change)
  dry_one w change may is none = record {
    by = works_one r m d w change may (and_parts (is_steady change) (of_line change) is).1;
    drawn = steady_is_still r m d w change (and_parts (is_steady change) (of_line change) is).0;
    fed = λ leg dir. ap (λ (bytes : List ℕ). bytes ++ []) (sym (none leg dir));
  }

  pub dry_then : (w v u : World K C S I O) → Dry w v → Dry v u → Dry w u
  dry_then w v u a b = feeds_then (λ leg dir. []) (λ leg dir. []) w v u a b

  pub dry_for_each : (n : ℕ) (act : ℕ → World K C S I O → World K C S I O) (w : World K C S I O)
      → ((k : ℕ) (v : World K C S I O) → Dry v (act k v)) → Dry w (for_each n act w)
  dry_for_each zero act w a = dry_none w
  dry_for_each (suc n) act w a =
      dry_then w (for_each n act w) (act n (for_each n act w)) (dry_for_each n act w a)
      (a n (for_each n act w))

  all_connect : (w : World K C S I O) (leg : Leg) (dir : Dir) (cs : List Change)
      → list_all connects cs ≡ true → [] ≡ all_fed r m d w leg dir cs
  all_connect w leg dir [] is = refl
  all_connect w leg dir (c ∷ cs) is =
      let parts = and_parts (connects c) (list_all connects cs) is in
      let v = changed r m d w c in
      all_connect v leg dir cs parts.1
      ∙ ap (λ (bytes : List ℕ). bytes ++ all_fed r m d v leg dir cs)
      (sym (connects_feed w leg dir c parts.0))

  pub dry_connecting : (w v : World K C S I O) → DrawsBy connects r m d w v → Dry w v
  dry_connecting w v a = record {
    by = record {
      leads = a.works.leads;
      work = all_wider connects of_line
          (λ c is. work_of_line c (quiet_work c (quiet_connects c is))) a.works.leads.changes
          a.works.work;
    };
    drawn = a.drawn;
    fed = λ leg dir. all_connect w leg dir a.works.leads.changes a.works.work;
  }

  -- ---- what was done is answered

  abbrev pub Goes : World K C S I O → World K C S I O × List Answer → Type 0
  Goes w did = Feeds (λ leg dir. moved_on leg dir did.1) w did.0

  pub goes_none : (w : World K C S I O) → Goes w (w, [])
  goes_none w = dry_none w

  pub goes_behind : (w : World K C S I O) (did : World K C S I O × List Answer)
      (act : World K C S I O → World K C S I O × List Answer) → Goes w did
      → ((v : World K C S I O) → Goes v (act v)) → Goes w (and_then did act)
  goes_behind w did act a b =
      let next = act did.0 in
      let all = feeds_then (λ leg dir. moved_on leg dir did.1)
      (λ leg dir. moved_on leg dir next.1) w did.0 next.0 a (b did.0) in
      record {
        by = all.by;
        drawn = all.drawn;
        fed = λ leg dir. moved_append leg dir did.1 next.1 ∙ all.fed leg dir;
      }

  -- one answer
  pub goes_one : (w v : World K C S I O) (one : Answer)
      → Feeds (λ leg dir. moved_by leg dir one) w v → Goes w (v, one ∷ [])
  goes_one w v one a = record {
    by = a.by;
    drawn = a.drawn;
    fed = λ leg dir. append-nil (moved_by leg dir one) ∙ a.fed leg dir;
  }

-- one direction of a leg along changes: while both its nodes go on it gives all that was put there,
-- or the handover mark or END passed, where it is ended only once one of its ends is over
use Rattle.law_order.proofs.Vocabulary.{◌≡◌, ◌⊎◌, inl, inr, ℕ, zero, suc, ◌<◌, List, [], ◌∷◌, ◌++◌, length, Bool, true, false, not, ◌&&◌, ◌||◌, Some, None, arith, refl, sym, ap, ◌∙◌, subst, ◌==◌, Option, and_parts, append-nil, IsPrefix, Item}
use Rattle.rh_wires.specs.Legs as legs
use Rattle.rh_wires.specs.Wires as wires
use Rattle.rh_wires.specs.Legs as legs
use Rattle.rh_wires.specs.Wires as wires
use Rattle.rh_company.specs.Company as company
use Rattle.rh_company.specs.Company as company
use Rattle.law_moves.proofs.Vocabulary.{Dir, U, D, Side, same_number, Pipe, some_is, Leg, Going, NearEnd, is_useless, Message, Rules, Shell, end_at, is_in_use, Reading, begin, messages_from, reading}
use Rattle.law_node_history.proofs.Vocabulary.{blank, in_flight, receiver, sender, Rulebook, Deeds, Makers, World, at, wire_at, Change, all_changed, History, all_noted, nothing}
use Rattle.law_node_history.proofs.Lemmas.{asked}
use Rattle.law_node_streams.specs.Streams.{is_live}
use Rattle.law_world_ways.proofs.ExactPaths.Fronts.{IsEnded, front_more, over_before}
use Rattle.law_world_ways.proofs.ExactWays.LegGoes.{unused, read_new}
use Rattle.law_world_ways.proofs.OnPaths.Used.{way_told, read_told}
use Rattle.law_world_ways.specs.EndsInTime.InTime.{AllEndInTime, IsOver}
use Rattle.law_world_ways.specs.OnPaths.Legs.{has_passed, is_cut, is_unheard, on_leg, was_left, was_told, was_up}
use Rattle.law_world_ways.specs.OnPaths.OnWay.{is_lost, items_on_way, left_on, read_on}
use Rattle.law_world_ways.specs.ExactWays.Keeping.{KeepsEnd}

-- ---- what is told of a leg

uncut : (here there empty : Bool) → there ≡ false → here ≡ false
    → (there || (here && empty)) ≡ false
uncut here there empty e f =
    ap (λ (t : Bool). t || (here && empty)) e ∙ ap (λ (t : Bool). t && empty) f

-- of a leg that is not lost it is told what is begun
left_told : {S : Type 0} (s : Shell S) (leg : Leg) (up told : Bool) → s.course ≡ Going
    → told ≡ false
    → (begun : List ℕ) × (left_on s leg up told ≡ Some begun)
left_told s leg up told going untold = by (end_at s leg) refl up refl
  where
    by : (o : Option NearEnd) → end_at s leg ≡ o → (u : Bool) → up ≡ u
        → (begun : List ℕ) × (left_on s leg up told ≡ Some begun)
    by (Some end) at u is = (end.begun, rw (going, at) refl)
    by None at true is = ([], rw (going, at, is, untold) refl)
    by None at false is = ([], rw (going, at, is) refl)

-- nor of one that never came up
left_new : {S : Type 0} (s : Shell S) (leg : Leg) (up told : Bool) → s.course ≡ Going
    → up ≡ false → (begun : List ℕ) × (left_on s leg up told ≡ Some begun)
left_new s leg up told going never = by (end_at s leg) refl
  where
    by : (o : Option NearEnd) → end_at s leg ≡ o
        → (begun : List ℕ) × (left_on s leg up told ≡ Some begun)
    by (Some end) at = (end.begun, rw (going, at) refl)
    by None at = ([], rw (going, at, never) refl)

not_left : (up is : Bool) → up ≡ false → (up && not is) ≡ false
not_left up is e = ap (λ (t : Bool). t && not is) e

-- a leg that never came up is not lost
pub never_lost : {K C S I O P T : Type 0} (v : World K C S I O) (h : History) (leg : Leg)
    (dir : Dir) (pipe : Option Pipe) (puts : Shell P) (rules : Rules T) (takes : Shell T)
    → puts.course ≡ Going → takes.course ≡ Going → was_up v h leg (sender dir) ≡ false
    → was_up v h leg (receiver dir) ≡ false → end_at takes leg ≡ None
    → is_lost (on_leg v h leg dir pipe puts rules takes) ≡ false
never_lost v h leg dir pipe puts rules takes puts_on takes_on here there absent =
    let flight = in_flight dir (wire_at v.legs leg) in
    let up = was_up v h leg (sender dir) in
    let told = was_told v h leg (sender dir) in
    let left = left_new puts leg up told puts_on here in
    ap is_lost (way_told pipe (is_cut v h leg dir)
    (read_on rules takes pipe leg (was_up v h leg (receiver dir))) flight
    (left_on puts leg up told) (begin pipe) left.0
    (uncut (was_left v h leg (sender dir)) (was_left v h leg (receiver dir))
    (is_unheard v h leg dir)
    (not_left (was_up v h leg (receiver dir))
    (wires.is_up (receiver dir) (wire_at v.legs leg)) there)
    (not_left up (wires.is_up (sender dir) (wire_at v.legs leg)) here))
    (read_new rules takes pipe leg (was_up v h leg (receiver dir)) takes_on absent there) left.1)

-- ---- directions

two_dirs : (dir other : Dir) → (dir ≡ other) ⊎ (sender dir ≡ receiver other)
two_dirs U U = inl refl
two_dirs U D = inr refl
two_dirs D U = inr refl
two_dirs D D = inl refl

no_bytes : (bytes : List ℕ) → (length bytes == 0) ≡ true → bytes ≡ []
no_bytes [] e = refl
no_bytes (b ∷ bytes) e = absurd (let bad = same_number (length (b ∷ bytes)) 0 e in cc)

clear_is : {K C S I O : Type 0} (dir : Dir) (leg : Leg) (w : World K C S I O)
    → legs.is_clear leg dir w.legs ≡ true
    → in_flight dir (wire_at w.legs leg) ≡ []
clear_is U leg w e =
    no_bytes (in_flight U (wire_at w.legs leg))
    (sym (asked blank (wires.is_clear U) (legs.of leg.kind w.legs) leg.number) ∙ e)
clear_is D leg w e =
    no_bytes (in_flight D (wire_at w.legs leg))
    (sym (asked blank (wires.is_clear D) (legs.of leg.kind w.legs) leg.number) ∙ e)

-- ---- one direction of a leg, at each front of the changes

module _ {K C S I O P T : Type 0} (r : Rulebook C S I O) (m : Makers K I O) (d : Deeds C S)
    (w : World K C S I O) (changes : List Change) (in_time : AllEndInTime r m d w changes)
    (leg : Leg) (dir : Dir) (pipe : Option Pipe) (rules : Rules T)
    (puts : List Change → Shell P) (takes : List Change → Shell T) (view : Message → List Item)
    (sent came : (e : List Change) → IsPrefix e changes → List Item)
    (Passed : List Change → Type 0) where
  abbrev pub W : List Change → World K C S I O
  W e = all_changed r m d w e

  abbrev pub H : List Change → History
  H e = all_noted r m d w nothing e

  abbrev pub At : List Change → Type 0
  At e = IsPrefix e changes

  abbrev pub up_here : List Change → Bool
  up_here e = was_up (W e) (H e) leg (sender dir)

  abbrev pub up_there : List Change → Bool
  up_there e = was_up (W e) (H e) leg (receiver dir)

  abbrev pub told_here : List Change → Bool
  told_here e = was_told (W e) (H e) leg (sender dir)

  abbrev pub told_there : List Change → Bool
  told_there e = was_told (W e) (H e) leg (receiver dir)

  abbrev pub way : List Change → Option (List Message)
  way e = on_leg (W e) (H e) leg dir pipe (puts e) rules (takes e)

  -- what is known of it at each front
  pub record Facts : Type 0 where
    pub puts_on : (e : List Change) → At e → (puts e).course ≡ Going
    pub takes_on : (e : List Change) → At e → (takes e).course ≡ Going
    pub told : (e : List Change) → At e → (end : Side) → was_told (W e) (H e) leg end ≡ true
        → IsEnded e leg
    pub left : (e : List Change) → At e → (end : Side) → was_left (W e) (H e) leg end ≡ true
        → IsEnded e leg
    -- the node that takes keeps it while it has use for it, and reads what comes
    pub kept : (e : List Change) → At e → up_there e ≡ true → told_there e ≡ false
        → KeepsEnd (takes e) leg ⊎ (is_in_use rules (takes e).role leg ≡ false)
    pub absent : (e : List Change) → At e → up_there e ≡ false → end_at (takes e) leg ≡ None
    pub live : (e : List Change) → At e → (end : NearEnd) → end_at (takes e) leg ≡ Some end
        → is_live end.intake.stage ≡ true
    -- behind its last use the mark or END passed
    pub passes : (e : List Change) → At e → up_there e ≡ true
        → is_in_use rules (takes e).role leg ≡ false → Passed e
    pub finished : (e : List Change) → At e → up_there e ≡ true
        → company.finished r (W e).company (at (W e) leg (receiver dir)) leg ≡ true
        → told_there e ≡ false → Passed e
    -- a leg that is up for a node came up there
    pub rose : (e : List Change) → At e → (one : Dir)
        → legs.is_up leg (sender one) (W e).legs ≡ true
        → was_up (W e) (H e) leg (sender one) ≡ true
    -- and the node that puts drew all behind its own last use, and put the mark or END
    pub put : (e : List Change) (here : At e) → legs.is_up leg (sender dir) (W e).legs ≡ true
        → up_here e ≡ true
        → company.finished r (W e).company (at (W e) leg (sender dir)) leg ≡ true
        → told_here e ≡ false
        → (left_on (puts e) leg (up_here e) (told_here e) ≡ Some [])
        × (has_passed (sent e here) ≡ true)
    pub arrives : (e : List Change) (here : At e) → is_lost (way e) ≡ false
        → sent e here ≡ came e here ++ items_on_way view (way e)
    pub came_is : (e : List Change) (here : At e) → has_passed (came e here) ≡ true → Passed e
    pub stays : (e more : List Change) → At (e ++ more) → Passed e → Passed (e ++ more)

  module _ (f : Facts) where
    -- what was over before has passed
    abbrev Before : List Change → Type 0
    Before e =
        (earlier : List Change) → length earlier < length e → At earlier
        → IsOver r (W earlier) leg → Passed earlier

    lost : (e : List Change) → At e → Before e → IsEnded e leg → Passed e
    lost e here before ended =
        let was = over_before r m d w changes in_time e here leg ended in
        let front : At (was.earlier ++ was.later) = subst At was.front here in
        subst Passed (sym was.front)
        (f.stays was.earlier was.later front
        (before was.earlier was.shorter (front_more was.earlier was.later changes front) was.over))

    -- all of it is told
    record Told (e : List Change) : Type 0 where
      untold : told_here e ≡ false
      stands : Reading
      begun : List ℕ
      begun_is : left_on (puts e) leg (up_here e) (told_here e) ≡ Some begun
      shown : way e
          ≡ Some (messages_from pipe stands (in_flight dir (wire_at (W e).legs leg) ++ begun))

    -- its bytes are read, or the node that takes has no use for it
    abbrev Reads : List Change → Type 0
    Reads e = (x : Reading) × (read_on rules (takes e) pipe leg (up_there e) ≡ Some x)

    record Unused (e : List Change) : Type 0 where
      rose : up_there e ≡ true
      none : is_in_use rules (takes e).role leg ≡ false

    reads_or_unused : (e : List Change) (here : At e) → told_there e ≡ false → Reads e ⊎ Unused e
    reads_or_unused e here untold = by (up_there e) refl
      where
        of_end : up_there e ≡ true → (k : KeepsEnd (takes e) leg) → (t : Bool)
            → is_useless rules k.end (takes e).role ≡ t → Reads e ⊎ Unused e
        of_end up k true over =
            inr (record { rose = up; none = unused rules (takes e) leg k.end k.at over })
        of_end up k false over =
            inl (
              reading k.end.intake.stage k.end.intake.held,
              read_told rules (takes e) pipe leg (up_there e) k.end (f.takes_on e here) k.at
                  (ap (λ (b : Bool). b || is_useless rules k.end (takes e).role) k.unmarked
                  ∙ over) (f.live e here k.end k.at),
            )

        of_kept : up_there e ≡ true
            → KeepsEnd (takes e) leg ⊎ (is_in_use rules (takes e).role leg ≡ false)
            → Reads e ⊎ Unused e
        of_kept up (inl k) = of_end up k (is_useless rules k.end (takes e).role) refl
        of_kept up (inr none) = inr (record { rose = up; none = none })

        by : (b : Bool) → up_there e ≡ b → Reads e ⊎ Unused e
        by false up =
            inl (
              begin pipe,
              read_new rules (takes e) pipe leg (up_there e) (f.takes_on e here)
                  (f.absent e here up) up,
            )
        by true up = of_kept up (f.kept e here up untold)

    reads : (e : List Change) (here : At e) → told_there e ≡ false → Reads e ⊎ Passed e
    reads e here untold = by (reads_or_unused e here untold)
      where
        by : Reads e ⊎ Unused e → Reads e ⊎ Passed e
        by (inl x) = inl x
        by (inr u) = inr (f.passes e here u.rose u.none)

    -- where no end left it or was told, all of it is told
    told_of : (e : List Change) (here : At e) → was_left (W e) (H e) leg (receiver dir) ≡ false
        → was_left (W e) (H e) leg (sender dir) ≡ false → told_here e ≡ false → Reads e
        → Told e
    told_of e here there here_left untold read =
        let left = left_told (puts e) leg (up_here e) (told_here e) (f.puts_on e here) untold in
        record {
          untold = untold;
          stands = read.0;
          begun = left.0;
          begun_is = left.1;
          shown =
              way_told pipe (is_cut (W e) (H e) leg dir)
              (read_on rules (takes e) pipe leg (up_there e))
              (in_flight dir (wire_at (W e).legs leg))
              (left_on (puts e) leg (up_here e) (told_here e)) read.0 left.0
              (uncut (was_left (W e) (H e) leg (sender dir))
              (was_left (W e) (H e) leg (receiver dir))
              (is_unheard (W e) (H e) leg dir) there here_left)
              read.1 left.1;
        }

    told : (e : List Change) (here : At e) → Before e → Told e ⊎ Passed e
    told e here before =
        by (was_left (W e) (H e) leg (receiver dir)) (was_left (W e) (H e) leg (sender dir))
        (told_there e) (told_here e) refl refl refl refl
      where
        all : was_left (W e) (H e) leg (receiver dir) ≡ false
            → was_left (W e) (H e) leg (sender dir) ≡ false → told_here e ≡ false
            → Reads e ⊎ Passed e → Told e ⊎ Passed e
        all there here_left untold (inr passed) = inr passed
        all there here_left untold (inl read) =
            inl (told_of e here there here_left untold read)

        by : (a b c t : Bool) → was_left (W e) (H e) leg (receiver dir) ≡ a
            → was_left (W e) (H e) leg (sender dir) ≡ b → told_there e ≡ c → told_here e ≡ t
            → Told e ⊎ Passed e
        by true b c t x y z u = inr (lost e here before (f.left e here (receiver dir) x))
        by false true c t x y z u = inr (lost e here before (f.left e here (sender dir) y))
        by false false true t x y z u = inr (lost e here before (f.told e here (receiver dir) z))
        by false false false true x y z u = inr (lost e here before (f.told e here (sender dir) u))
        by false false false false x y z u = all x y u (reads e here z)

    -- ---- where one end is over

    -- the other end has no use for it: that is the one that takes
    over_there : (e : List Change) (here : At e) → Before e → up_there e ≡ true
        → company.finished r (W e).company (at (W e) leg (receiver dir)) leg ≡ true → Passed e
    over_there e here before up done = by (told_there e) refl
      where
        by : (t : Bool) → told_there e ≡ t → Passed e
        by true told = lost e here before (f.told e here (receiver dir) told)
        by false untold = f.finished e here up done untold

    -- what was put there came, with its mark or END, once nothing is in flight
    put_came : (e : List Change) (here : At e)
        → legs.is_up leg (sender dir) (W e).legs ≡ true → up_here e ≡ true
        → company.finished r (W e).company (at (W e) leg (sender dir)) leg ≡ true
        → in_flight dir (wire_at (W e).legs leg) ≡ [] → Told e
        → has_passed (came e here) ≡ true
    put_came e here is_up rose done clear t =
        let put = f.put e here is_up rose done t.untold in
        let none : t.begun ≡ [] = sym (some_is [] t.begun (sym put.0 ∙ t.begun_is)) in
        let empty : way e ≡ Some [] =
        t.shown
        ∙ ap (λ (bytes : List ℕ). Some (messages_from pipe t.stands (bytes ++ t.begun))) clear
        ∙ ap (λ (bytes : List ℕ). Some (messages_from pipe t.stands bytes)) none in
        let same : sent e here ≡ came e here =
        f.arrives e here (ap is_lost empty)
        ∙ ap (λ (o : Option (List Message)). came e here ++ items_on_way view o) empty
        ∙ append-nil (came e here) in
        ap has_passed (sym same) ∙ put.1

    over_here : (e : List Change) (here : At e) → Before e
        → legs.is_up leg (sender dir) (W e).legs ≡ true → up_here e ≡ true
        → company.finished r (W e).company (at (W e) leg (sender dir)) leg ≡ true
        → in_flight dir (wire_at (W e).legs leg) ≡ [] → Passed e
    over_here e here before is_up rose done clear = by (told e here before)
      where
        by : Told e ⊎ Passed e → Passed e
        by (inr passed) = passed
        by (inl t) = f.came_is e here (put_came e here is_up rose done clear t)

    -- so it is at once where no end left it or was told, unless the one that takes has no use for it
    pub unlost_came : (e : List Change) (here : At e)
        → was_left (W e) (H e) leg (receiver dir) ≡ false
        → was_left (W e) (H e) leg (sender dir) ≡ false → told_there e ≡ false
        → told_here e ≡ false → legs.is_up leg (sender dir) (W e).legs ≡ true
        → company.finished r (W e).company (at (W e) leg (sender dir)) leg ≡ true
        → legs.is_clear leg dir (W e).legs ≡ true
        → (has_passed (came e here) ≡ true) ⊎ (is_in_use rules (takes e).role leg ≡ false)
    unlost_came e here there here_left untold_there untold is_up done clear =
        by (reads_or_unused e here untold_there)
      where
        by : Reads e ⊎ Unused e
            → (has_passed (came e here) ≡ true) ⊎ (is_in_use rules (takes e).role leg ≡ false)
        by (inl read) =
            inl (put_came e here is_up (f.rose e here dir is_up) done (clear_is dir leg (W e) clear)
            (told_of e here there here_left untold read))
        by (inr u) = inr u.none

    over_passed : (e : List Change) (here : At e) → Before e → IsOver r (W e) leg → Passed e
    over_passed e here before over = by (two_dirs over.dir dir)
      where
        parts : (company.finished r (W e).company (at (W e) leg (sender over.dir)) leg ≡ true)
            × (legs.is_clear leg over.dir (W e).legs ≡ true)
        parts =
            and_parts (company.finished r (W e).company (at (W e) leg (sender over.dir)) leg)
            (legs.is_clear leg over.dir (W e).legs) over.done

        rose : was_up (W e) (H e) leg (sender over.dir) ≡ true
        rose = f.rose e here over.dir over.up

        by : (over.dir ≡ dir) ⊎ (sender over.dir ≡ receiver dir) → Passed e
        by (inl same) =
            over_here e here before
            (subst (λ (x : Dir). legs.is_up leg (sender x) (W e).legs ≡ true) same over.up)
            (subst (λ (x : Dir). was_up (W e) (H e) leg (sender x) ≡ true) same rose)
            (subst (λ (x : Dir).
            company.finished r (W e).company (at (W e) leg (sender x)) leg ≡ true) same parts.0)
            (clear_is dir leg (W e)
            (subst (λ (x : Dir). legs.is_clear leg x (W e).legs ≡ true) same parts.1))
        by (inr back) =
            over_there e here before
            (subst (λ (x : Side). was_up (W e) (H e) leg x ≡ true) back rose)
            (subst (λ (x : Side). company.finished r (W e).company (at (W e) leg x) leg ≡ true) back
            parts.0)

    -- by strong induction on the fronts
    all_passed : (k : ℕ) (e : List Change) → length e < k → At e → IsOver r (W e) leg → Passed e
    all_passed zero e below here over = absurd (omega (arith, below))
    all_passed (suc k) e below here over =
        over_passed e here
        (λ earlier shorter front was.
        all_passed k earlier (omega (arith, below, shorter)) front was) over

    pub goes_or_passed : (e : List Change) (here : At e) → (is_lost (way e) ≡ false) ⊎ Passed e
    goes_or_passed e here =
        by (told e here (λ earlier shorter front was.
        all_passed (length e) earlier shorter front was))
      where
        by : Told e ⊎ Passed e → (is_lost (way e) ≡ false) ⊎ Passed e
        by (inl t) = inl (ap is_lost t.shown)
        by (inr passed) = inr passed

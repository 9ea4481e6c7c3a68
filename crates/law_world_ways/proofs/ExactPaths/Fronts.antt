-- fronts of changes: a world behind each, and what happened until then
use Rattle.law_order.proofs.Vocabulary.{◌≡◌, ◌<◌, List, [], ◌∷◌, ◌++◌, length, append_assoc, Bool, true, ◌&&◌, Some, arith, refl, sym, ap, ◌∙◌, subst, IfSome, list_all, Option, and_parts, length-append, IsPrefix}
use Rattle.law_moves.proofs.Vocabulary.{Leg}
use Rattle.law_node_history.proofs.Vocabulary.{Rulebook, Deeds, Makers, World, AreAllowed, Change, all_changed, changed}
use Rattle.law_world_ways.specs.EndsInTime.InTime.{AllEndInTime, IsOver, WasOver, ended_by}

-- ---- lists

pub front_more : {X : Type 0} (a b all : List X) → IsPrefix (a ++ b) all → IsPrefix a all
front_more a b all p = (b ++ p.0, sym (append_assoc a b p.0) ∙ p.1)

-- a list is longer than a part of its front
pub longer : {X : Type 0} (a b : List X) (x : X) (c : List X)
    → length a < length ((a ++ b) ++ x ∷ c)
longer a b x c =
    let one = length-append (a ++ b) (x ∷ c) in
    let two = length-append a b in
    omega (arith, one, two)

pub all_front : {X : Type 0} (test : X → Bool) (a b : List X) → list_all test (a ++ b) ≡ true
    → list_all test a ≡ true
all_front test [] b e = refl
all_front test (x ∷ a) b e =
    let parts = and_parts (test x) (list_all test (a ++ b)) e in
    ap (λ (t : Bool). t && list_all test a) parts.0 ∙ all_front test a b parts.1

-- ---- a change that ends a leg

-- one of these changes ends the leg
pub record IsEnded (changes : List Change) (leg : Leg) : Type 0 where
  pub before : List Change
  pub change : Change
  pub behind : List Change
  pub is : changes ≡ before ++ change ∷ behind
  pub ends : ended_by change ≡ Some leg

pub ended_later : (c : Change) (changes : List Change) (leg : Leg) → IsEnded changes leg
    → IsEnded (c ∷ changes) leg
ended_later c changes leg e = record {
  before = c ∷ e.before;
  change = e.change;
  behind = e.behind;
  is = ap (λ (list : List Change). c ∷ list) e.is;
  ends = e.ends;
}

pub ended_now : (c : Change) (changes : List Change) (leg : Leg) → ended_by c ≡ Some leg
    → IsEnded (c ∷ changes) leg
ended_now c changes leg ends = record {
  before = [];
  change = c;
  behind = changes;
  is = refl;
  ends = ends;
}

module _ {K C S I O : Type 0} (r : Rulebook C S I O) (m : Makers K I O) (d : Deeds C S)
    (w : World K C S I O) where
  pub allowed_front : (u : World K C S I O) (a b : List Change) → AreAllowed r m d u (a ++ b)
      → AreAllowed r m d u a
  allowed_front u [] b allowed = tt
  allowed_front u (c ∷ a) b allowed = (
    allowed.0,
    allowed_front (changed r m d u c) a b allowed.1,
  )

  -- it was over behind an earlier front
  pub record OverBefore (e : List Change) (leg : Leg) : Type 0 where
    pub earlier : List Change
    pub later : List Change
    pub front : e ≡ earlier ++ later
    pub shorter : length earlier < length e
    pub over : IsOver r (all_changed r m d w earlier) leg

  pub over_before : (changes : List Change) → AllEndInTime r m d w changes → (e : List Change)
      → IsPrefix e changes → (leg : Leg) → IsEnded e leg → OverBefore e leg
  over_before changes in_time e at leg ended =
      let was = by (ended_by ended.change) ended.ends
      (in_time ended.before ended.change (ended.behind ++ at.0) split) in
      record {
        earlier = was.earlier;
        later = was.later ++ ended.change ∷ ended.behind;
        front =
            ended.is
            ∙ ap (λ (list : List Change). list ++ ended.change ∷ ended.behind) was.front
            ∙ append_assoc was.earlier was.later (ended.change ∷ ended.behind);
        shorter =
            subst (λ (list : List Change). length was.earlier < length list)
            (sym (ended.is
            ∙ ap (λ (list : List Change). list ++ ended.change ∷ ended.behind) was.front))
            (longer was.earlier was.later ended.change ended.behind);
        over = was.over;
      }
    where
      split : changes ≡ ended.before ++ ended.change ∷ (ended.behind ++ at.0)
      split =
          sym at.1 ∙ ap (λ (list : List Change). list ++ at.0) ended.is
          ∙ append_assoc ended.before (ended.change ∷ ended.behind) at.0

      by : (o : Option Leg) → o ≡ Some leg
          → IfSome o (λ (l : Leg). WasOver r m d w ended.before l)
          → WasOver r m d w ended.before leg
      by o e was =
          subst (λ (x : Option Leg). IfSome x (λ (l : Leg). WasOver r m d w ended.before l)) e was

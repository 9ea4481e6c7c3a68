-- what is told of ends, one after the other
use Rattle.std.proofs.Common.{◌≡◌, ℕ, ◌+◌, ◌<◌, ◌≤◌, true, false, Bool, List, [], ◌∷◌, ◌++◌, inl, inr, length, take, get_or, refl, sym, ap, subst, ◌∙◌, arith, take_all}
use Rattle.std.specs.Prelude.{nat_lt, if◌then◌else◌, ◌↔◌}
use Rattle.std.specs.List.{AllByRecursion}
use Rattle.std.proofs.lemmas.Bool.Decides.{nat_tests}
use Rattle.std.proofs.lemmas.List.{append_assoc, take_more}
use Rattle.rh_legs.specs.NodeEnds.{rank_of, told_of}
use Rattle.rh_legs.specs.declared.end.NodeEnd.{NodeEnd}
use Rattle.rh_legs.specs.declared.end.NodeEnd.TheVariants as how
use Rattle.rh_relay.specs.Runs.{AllAre}
use Rattle.rh_role_words.specs.declared.status.RoleStatus.{RoleStatus}
use Rattle.rh_role_words.specs.declared.status.RoleStatus.TheVariants.{Done}
use Rattle.rh_role_words.specs.Statuses.{status_of}
use Rattle.rh_role_words.specs.Tellings.{IsToldOf, TellsOfAll}

-- ---- lists

all-map : {X : Type 0} (P Q : X → Type 0) → ((x : X) → P x → Q x) → (xs : List X)
    → AllByRecursion P xs → AllByRecursion Q xs
all-map P Q more [] all = tt
all-map P Q more (x ∷ xs) all = (more x all.0, all-map P Q more xs all.1)

all-append : {X : Type 0} (P : X → Type 0) (xs ys : List X) → AllByRecursion P xs
    → AllByRecursion P ys → AllByRecursion P (xs ++ ys)
all-append P [] ys front behind = behind
all-append P (x ∷ xs) ys front behind = (front.0, all-append P xs ys front.1 behind)

are-append : (told : NodeEnd) (xs ys : List NodeEnd) → AllAre told xs → AllAre told ys
    → AllAre told (xs ++ ys)
are-append told [] ys front behind = behind
are-append told (x ∷ xs) ys front behind = (front.0, are-append told xs ys front.1 behind)

-- ---- ranks

-- what is told last is an end in order
last_is : (end : NodeEnd) → rank_of how.Ended ≤ rank_of end → end ≡ how.Ended
last_is how.Ended last = refl
last_is how.NoMemory last = absurd (omega (arith, last))
last_is (how.BadInput place) last = absurd (omega (arith, last))
last_is how.ReadFault last = absurd (omega (arith, last))
last_is how.WriteFault last = absurd (omega (arith, last))
last_is how.NetFault last = absurd (omega (arith, last))
last_is how.SpawnFault last = absurd (omega (arith, last))
last_is how.CookieFault last = absurd (omega (arith, last))
last_is (how.Closed cause) last = absurd (omega (arith, last))

-- as its status says
done_is : (end : NodeEnd) → status_of end ≡ Done → end ≡ how.Ended
done_is how.Ended done = refl
done_is how.NoMemory done = absurd (cc)
done_is (how.BadInput place) done = absurd (cc)
done_is how.ReadFault done = absurd (cc)
done_is how.WriteFault done = absurd (cc)
done_is how.NetFault done = absurd (cc)
done_is how.SpawnFault done = absurd (cc)
done_is how.CookieFault done = absurd (cc)
done_is (how.Closed cause) done = absurd (cc)

all_last : (ends : List NodeEnd) → AllByRecursion (λ end. rank_of how.Ended ≤ rank_of end) ends
    → AllAre how.Ended ends
all_last [] all = tt
all_last (end ∷ ends) all = (last_is end all.0, all_last ends all.1)

last_all : (ends : List NodeEnd) → AllAre how.Ended ends
    → AllByRecursion (λ end. rank_of how.Ended ≤ rank_of end) ends
last_all [] all = tt
last_all (end ∷ ends) all =
    let same : rank_of end ≡ rank_of how.Ended = ap rank_of all.0 in
    (omega (arith, same), last_all ends all.1)

-- none of the ends goes before the one that is told
least : (ends : List NodeEnd) (told : NodeEnd) → IsToldOf ends told
    → AllByRecursion (λ end. rank_of told ≤ rank_of end) ends
least ends told (inl ended) =
    subst (λ (x : NodeEnd). AllByRecursion (λ end. rank_of x ≤ rank_of end) ends)
    (sym ended.1) (last_all ends ended.0)
least ends told (inr first) =
    subst (AllByRecursion (λ end. rank_of told ≤ rank_of end)) (sym first.place)
    (all-append (λ end. rank_of told ≤ rank_of end) first.front (told ∷ first.behind)
    (all-map (λ end. rank_of told < rank_of end) (λ end. rank_of told ≤ rank_of end)
    (λ end before. omega (arith, before)) first.front first.before)
    (omega arith, first.after))

-- ---- one end more

-- it goes before all others
now_first : (ends : List NodeEnd) (told item : NodeEnd) → IsToldOf ends told
    → rank_of item < rank_of told → IsToldOf (ends ++ item ∷ []) item
now_first ends told item so below = inr (record {
  front = ends;
  behind = [];
  place = refl;
  before = all-map (λ end. rank_of told ≤ rank_of end) (λ end. rank_of item < rank_of end)
      (λ end after. omega (arith, after, below)) ends (least ends told so);
  after = tt;
})

-- it goes before none
still_first : (ends : List NodeEnd) (told item : NodeEnd) → IsToldOf ends told
    → rank_of told ≤ rank_of item → IsToldOf (ends ++ item ∷ []) told
still_first ends told item (inl ended) above =
    let last : rank_of how.Ended ≤ rank_of item =
    subst (λ (x : NodeEnd). rank_of x ≤ rank_of item) ended.1 above in
    inl (are-append how.Ended ends (item ∷ []) ended.0 (last_is item last, tt), ended.1)
still_first ends told item (inr first) above = inr (record {
  front = first.front;
  behind = first.behind ++ item ∷ [];
  place = ap (λ (x : List NodeEnd). x ++ item ∷ []) first.place
      ∙ append_assoc first.front (told ∷ first.behind) (item ∷ []);
  before = first.before;
  after = all-append (λ end. rank_of told ≤ rank_of end) first.behind (item ∷ []) first.after
      (above, tt);
})

told_more : (ends : List NodeEnd) (told item : NodeEnd) → IsToldOf ends told
    → IsToldOf (ends ++ item ∷ []) (told_of told item)
told_more ends told item so = by (nat_lt (rank_of item) (rank_of told)) refl
  where
    by : (test : Bool) → nat_lt (rank_of item) (rank_of told) ≡ test
        → IsToldOf (ends ++ item ∷ []) (if test then item else told)
    by true e = now_first ends told item so (grind (arith, nat_tests, e))
    by false e = still_first ends told item so (grind (arith, nat_tests, e))

-- the end at a place is looked at, behind those before it
pub told_next : (ends : List NodeEnd) (at : ℕ) (d told now : NodeEnd) → at < length ends
    → now ≡ told_of told (get_or ends at d) → IsToldOf (take at ends) told
    → IsToldOf (take (at + 1) ends) now
told_next ends at d told now below is so =
    subst (λ (x : NodeEnd). IsToldOf (take (at + 1) ends) x) (sym is)
    (subst (λ (x : List NodeEnd). IsToldOf x (told_of told (get_or ends at d)))
    (sym (take_more ends at d below))
    (told_more (take at ends) told (get_or ends at d) so))

-- ---- all of them

pub told_all : (ends : List NodeEnd) (at : ℕ) (told : NodeEnd) → length ends ≤ at
    → IsToldOf (take at ends) told → IsToldOf ends told
told_all ends at told all so =
    subst (λ (x : List NodeEnd). IsToldOf x told) (take_all at ends all) so

-- it is one of them
in_list : (told end : NodeEnd) (front behind : List NodeEnd)
    → AllAre end (front ++ told ∷ behind) → told ≡ end
in_list told end [] behind all = all.0
in_list told end (other ∷ front) behind all = in_list told end front behind all.1

among : (ends : List NodeEnd) (told end : NodeEnd) → 1 ≤ length ends → AllAre end ends
    → IsToldOf ends told → told ≡ end
among [] told end some all so = absurd (omega (arith, some))
among (one ∷ ends) told end some all (inl ended) = ended.1 ∙ sym ended.0.0 ∙ all.0
among (one ∷ ends) told end some all (inr first) =
    in_list told end first.front first.behind (subst (AllAre end) first.place all)

-- none but an end in order is told of no ends
none_first : (told : NodeEnd) (front behind : List NodeEnd) → ¬ ([] ≡ front ++ told ∷ behind)
none_first told [] behind place = absurd (cc)
none_first told (other ∷ front) behind place = absurd (cc)

in_order : (ends : List NodeEnd) (told : NodeEnd) → AllAre how.Ended ends → IsToldOf ends told
    → told ≡ how.Ended
in_order [] told all (inl ended) = ended.1
in_order [] told all (inr first) = absurd (none_first told first.front first.behind first.place)
in_order (one ∷ ends) told all so = among (one ∷ ends) told how.Ended (omega arith) all so

-- ---- the status

pub tells : (ends : List NodeEnd) (told : NodeEnd) (status : RoleStatus) → status ≡ status_of told
    → IsToldOf ends told → TellsOfAll ends status
tells ends told status is so = (told, so, is)

pub done_where : (ends : List NodeEnd) (told : NodeEnd) (status : RoleStatus)
    → status ≡ status_of told → IsToldOf ends told → (status ≡ Done) ↔ AllAre how.Ended ends
done_where ends told status is so = (
  λ done. all_last ends (subst (λ (x : NodeEnd).
      AllByRecursion (λ end. rank_of x ≤ rank_of end) ends)
      (done_is told (sym is ∙ done)) (least ends told so)),
  λ all. is ∙ ap status_of (in_order ends told all so),
)

pub alike_are : (ends : List NodeEnd) (told : NodeEnd) (status : RoleStatus)
    → status ≡ status_of told → IsToldOf ends told → (end : NodeEnd) → 1 ≤ length ends
    → AllAre end ends → status ≡ status_of end
alike_are ends told status is so end some all = is ∙ ap status_of (among ends told end some all so)

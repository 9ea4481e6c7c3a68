-- the lines of a generated recording may stand where they do
use Rattle.std.proofs.Common.{◌≡◌, ℕ, zero, suc, List, [], ◌∷◌, ◌++◌, Bool, true, false}
use Rattle.std.proofs.Common.{if◌then◌else◌, refl, sym, subst}
use Rattle.rh_record.specs.declared.line.Line.{Line}
use Rattle.rh_record.specs.declared.place.Place.{Place}
use Rattle.rh_record.specs.declared.place.Place.TheVariants.{Header, Settings, Roles}
use Rattle.rh_record.specs.Places.{MayFollow, next, no_keys}
use Rattle.rh_made.specs.Making.{ending, front, lines, settle, settles, turn}
use Rattle.rh_made.specs.Standing.{MayStand}

-- lines may stand from a place on, up to another
abbrev Reaches : Place → List Line → Place → Type 0
Reaches place [] last = place ≡ last
Reaches place (line ∷ lines) last = MayFollow place line × Reaches (next place line) lines last

reaches_more : (front more : List Line) (place middle last : Place) → Reaches place front middle
    → Reaches middle more last → Reaches place (front ++ more) last
reaches_more [] more place middle last is h =
    subst (λ (p : Place). Reaches p more last) (sym is) h
reaches_more (line ∷ front) more place middle last (follows, behind) h =
    (follows, reaches_more front more (next place line) middle last behind h)

stands_from : (front more : List Line) (place middle : Place) → Reaches place front middle
    → MayStand middle more → MayStand place (front ++ more)
stands_from [] more place middle is h = subst (λ (p : Place). MayStand p more) (sym is) h
stands_from (line ∷ front) more place middle (follows, behind) h =
    (follows, stands_from front more (next place line) middle behind h)

settle_stands : (b : Bool) → Reaches Roles (if b then settle ∷ [] else []) Roles
settle_stands true = ((refl, refl), refl)
settle_stands false = refl

front_stands : (n i : ℕ) → Reaches Header (front n (suc i)) Roles
unfolding front
front_stands n zero =
    reaches_more (front n 0) (turn n 1) Header (Settings no_keys) Roles ((refl, refl), refl)
    ((refl, refl), settle_stands (settles n 1))
front_stands n (suc i) =
    reaches_more (front n (suc i)) (turn n (suc (suc i))) Header Roles Roles (front_stands n i)
    ((refl, refl), settle_stands (settles n (suc (suc i))))

pub lines_stand : (n : ℕ) → MayStand Header (lines n)
unfolding front
lines_stand zero =
    stands_from (front 0 0) ending Header (Settings no_keys) ((refl, refl), refl)
    ((refl, refl), ((refl, refl), ((refl, refl), tt)))
lines_stand (suc i) =
    stands_from (front (suc i) (suc i)) ending Header Roles (front_stands (suc i) i)
    ((refl, refl), ((refl, refl), ((refl, refl), tt)))

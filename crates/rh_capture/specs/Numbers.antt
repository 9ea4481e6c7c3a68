-- numbers that are kept for legs, and legs that are kept with their tags
use Rattle.std.specs.Prelude.{◌≡◌, ℕ, suc, List, [], ◌∷◌, if◌then◌else◌, Some, None}
use Rattle.std.specs.BTreeMap.{BTreeMap, get}
use Rattle.std.specs.Ordering.{nat_cmp}
use Rattle.std.specs.declared.option.Option.{Option}
use Rattle.rh_line.specs.declared.leg.Leg.{Leg}
use Rattle.rh_line.specs.declared.leg.LegKind.{LegKind}
use Rattle.rh_line.specs.declared.leg.LegKind.TheVariants.{ClientOut, OutServer, ClientIn, InServer}
use Rattle.rh_capture.specs.declared.numbers.Numbers.{Numbers}
use Rattle.rh_capture.specs.Legs.{same_leg}

-- the numbers of the legs of a kind
abbrev pub numbers_of : Numbers → LegKind → ℕ → Option ℕ
numbers_of numbers ClientOut number = get nat_cmp numbers.client_out number
numbers_of numbers OutServer number = get nat_cmp numbers.out_server number
numbers_of numbers ClientIn number = get nat_cmp numbers.client_in number
numbers_of numbers InServer number = get nat_cmp numbers.in_server number

abbrev pub number_of : Numbers → Leg → Option ℕ
number_of numbers leg = numbers_of numbers leg.kind leg.number

-- the tag of a leg that was met, where the first of these legs has this tag
abbrev pub tag_among : ℕ → List Leg → Leg → Option ℕ
tag_among tag [] leg = None
tag_among tag (one ∷ legs) leg =
    if same_leg one leg then Some tag else tag_among (suc tag) legs leg

-- the numbers are the tags of these legs
abbrev pub AreTags : List Leg → Numbers → Type 0
AreTags legs numbers = (leg : Leg) → number_of numbers leg ≡ tag_among 1 legs leg

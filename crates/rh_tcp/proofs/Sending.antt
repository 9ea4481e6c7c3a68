-- writes that took nothing, and one behind them
use Rattle.std.proofs.Common.{◌∙◌, ap, List, ℕ, ◌++◌, None, Some, take}
use Rattle.std.proofs.lemmas.List.{append-nil}
use Rattle.std.proofs.KnownBytes.{Keeps-refl, Keeps-trans}
use Rattle.std.specs.declared.option.Option.{Option}
use Rattle.std.specs.Io.KnownBytes.{Appends, Keeps}

-- what goes behind bytes that were kept goes behind the first ones
pub kept_then_appends : (a b c : Option (List ℕ)) (bytes : List ℕ)
    → Keeps a b → Appends b c bytes → Appends a c bytes
kept_then_appends None b c bytes kept more = tt
kept_then_appends (Some xs) None c bytes kept more = absurd kept
kept_then_appends (Some xs) (Some ys) None bytes kept more = absurd more
kept_then_appends (Some xs) (Some ys) (Some zs) bytes kept more =
    more ∙ ap (λ held. held ++ bytes) kept

-- a front of no byte changes nothing
pub appends_nothing : (a b : Option (List ℕ)) (piece : List ℕ)
    → Appends a b (take 0 piece) → Keeps a b
appends_nothing None b piece more = tt
appends_nothing (Some xs) None piece more = absurd more
appends_nothing (Some xs) (Some ys) piece more = more ∙ append-nil xs

-- nothing has happened yet
pub kept_at_first : (a : Option (List ℕ)) → Keeps a a
kept_at_first a = Keeps-refl a

-- nothing has happened twice
pub kept_twice : (a b c : Option (List ℕ)) → Keeps a b → Keeps b c → Keeps a c
kept_twice a b c first second = Keeps-trans a b c first second

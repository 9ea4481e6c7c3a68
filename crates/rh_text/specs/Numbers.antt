-- numbers as words
use Rattle.std.specs.Prelude.{◌≡◌, ℕ, ◌≤◌, List}
use Rattle.std.specs.Fmt.{decimal}

-- a decimal number without sign and leading zero, from the lowest to the greatest
pub record IsNumber (lowest greatest : ℕ) (text : List ℕ) (number : ℕ) : Type 0 where
  pub digits : text ≡ decimal number
  pub least : lowest ≤ number
  pub most : number ≤ greatest

-- what stands in a text after something was appended to it, or could not be
use Rattle.std.specs.Prelude.{◌≡◌, ℕ, List, [], ◌∷◌, ◌++◌, Ok, Err}
use Rattle.std.specs.declared.result.Result.{Result}
use Rattle.std.specs.Fmt.{decimal}
use Rattle.hex.specs.Hex.{encode_lower}
use Rattle.rh_text.specs.declared.writing.Part.{Part}
use Rattle.rh_text.specs.declared.writing.Part.TheVariants.{Text, Number, Hex}

-- the text, or any list, stands behind what stood there; or, for want of memory, a front of it does
abbrev pub Writes : {X E : Type 0} → List X → Result (Unit {0}) E → List X → List X → Type 0
Writes text (Ok done) before after = after ≡ before ++ text
Writes {X} text (Err failed) before after =
    (front : List X) × (rest : List X) × (text ≡ front ++ rest) × (after ≡ before ++ front)

-- the text of a part
abbrev pub part_text : Part → List ℕ
part_text (Text text) = text.now
part_text (Number number) = decimal number
part_text (Hex bytes) = encode_lower bytes.now

-- the parts, one behind the other
abbrev pub parts_text : List Part → List ℕ
parts_text [] = []
parts_text (part ∷ []) = part_text part
parts_text (part ∷ next ∷ parts) = part_text part ++ parts_text (next ∷ parts)

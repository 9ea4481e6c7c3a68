-- a recording can go on with any line and end at any time, and what is told line by line is told of
-- its lines
use Rattle.std.proofs.Common.{◌≡◌, ℕ, List, [], ◌∷◌, ◌++◌, refl, ◌∙◌, ap}
use Rattle.rh_record.specs.declared.line.Line.{Line}
use Rattle.rh_teller.specs.Tales.{Tale, told}
use Rattle.rh_world.specs.Any.{last}
use Rattle.rh_word.specs.Words.{Tells}
use Rattle.rh_words.specs.Retelling.{Retold, line_told, line_behind, retelling, retold}

module _ {T : Type 0} (tale : Tale T) where
  pub goes_on : (s : Retold T) (line : Line)
      → (said : List ℕ) × (next : Retold T) × (retelling tale).Does s line said next
  goes_on s line = (line_told tale s line, line_behind tale s line, (refl, refl))

  pub comes_to_end : (s : Retold T) → (said : List ℕ) × (retelling tale).Ends s said
  comes_to_end s = (told tale s.teller (last s.world), refl)

  pub tells_retold : (s : Retold T) (lines : List Line) (said : List ℕ)
      → Tells (retelling tale) s lines said → said ≡ retold tale s lines
  tells_retold s [] said h = h
  tells_retold s (line ∷ lines) said (one, more, next, does, is, rest) =
      is ∙ ap (λ (x : List ℕ). x ++ more) does.0
      ∙ ap (λ (x : List ℕ). line_told tale s line ++ x)
      (tells_retold next lines more rest ∙ ap (λ (n : Retold T). retold tale n lines) does.1)

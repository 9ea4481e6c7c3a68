-- the lines that are told by the bytes from a place on
use Rattle.std.proofs.Common.{◌≡◌, ◌+◌, ◌<◌, ℕ, suc, Bool, List, [], ◌∷◌, ◌++◌, drop, get_or, length, Err, refl, sym, ap, ◌∙◌, subst, append_assoc, arith}
use Rattle.std.specs.declared.option.Option.{Option}
use Rattle.std.proofs.Math.Seq.{drop-cons}
use Rattle.rh_text.specs.declared.ends.Dir.{Dir}
use Rattle.rh_text.specs.Writing.{Writes}
use Rattle.rh_text.proofs.Appending.{IsWritten, written_more, written_part}
use Rattle.rh_line.specs.declared.leg.Leg.{Leg}
use Rattle.rh_story.specs.Items.{items_from, held_from}
use Rattle.rh_story.specs.Stories.{item_line, item_lines}
use Rattle.rh_story.proofs.Cutting.{held_append, items_append}

-- the byte at the place, and those behind it
next_byte : (bytes : List ℕ) (i or : ℕ) → i < length bytes
    → drop i bytes ≡ (get_or bytes i or ∷ []) ++ drop (i + 1) bytes
next_byte bytes i or within =
    let next : i + 1 ≡ suc i = omega arith in rw next (drop-cons bytes i or within)

module _ (moment : ℕ) (hex : Bool) (leg : Option Leg) (dir : Dir) where
  abbrev lines_of : List (List ℕ) → List ℕ
  lines_of items = item_lines moment hex leg dir items

  lines_append : (items more : List (List ℕ)) → lines_of (items ++ more)
      ≡ lines_of items ++ lines_of more
  lines_append [] more = refl
  lines_append (item ∷ items) more =
      ap (λ (x : List ℕ). item_line moment hex leg dir item ++ x) (lines_append items more)
      ∙ sym (append_assoc (item_line moment hex leg dir item) (lines_of items) (lines_of more))

  -- what is told by the next byte, and by those behind it
  lines_next : (held bytes : List ℕ) (i or : ℕ) → i < length bytes
      → lines_of (items_from held (drop i bytes))
      ≡ lines_of (items_from held (get_or bytes i or ∷ []))
      ++ lines_of (items_from (held_from held (get_or bytes i or ∷ [])) (drop (i + 1) bytes))
  lines_next held bytes i or within =
      ap (λ (b : List ℕ). lines_of (items_from held b)) (next_byte bytes i or within)
      ∙ ap lines_of (items_append held (get_or bytes i or ∷ []) (drop (i + 1) bytes))
      ∙ lines_append (items_from held (get_or bytes i or ∷ []))
      (items_from (held_from held (get_or bytes i or ∷ [])) (drop (i + 1) bytes))

  -- the bytes so far were told, and these are held
  abbrev pub Walk : (held0 bytes out0 held out : List ℕ) → ℕ → Type 0
  Walk held0 bytes out0 held out i =
      IsWritten (lines_of (items_from held0 bytes)) out0 out
      (lines_of (items_from held (drop i bytes)))
      × (held_from held0 bytes ≡ held_from held (drop i bytes))

  pub walked : (held0 bytes out0 held out later next : List ℕ) (i or : ℕ) → i < length bytes
      → later ≡ held_from held (get_or bytes i or ∷ [])
      → next ≡ out ++ lines_of (items_from held (get_or bytes i or ∷ []))
      → Walk held0 bytes out0 held out i → Walk held0 bytes out0 later next (i + 1)
  walked held0 bytes out0 held out later next i or within is more h = (
    subst (λ (x : List ℕ). IsWritten (lines_of (items_from held0 bytes)) out0 next
        (lines_of (items_from x (drop (i + 1) bytes)))) (sym is)
        (written_more (lines_of (items_from held0 bytes)) out0 out next
        (lines_of (items_from held (drop i bytes)))
        (lines_of (items_from held (get_or bytes i or ∷ [])))
        (lines_of (items_from (held_from held (get_or bytes i or ∷ [])) (drop (i + 1) bytes)))
        (lines_next held bytes i or within) more h.0),
    h.1 ∙ ap (λ (b : List ℕ). held_from held b) (next_byte bytes i or within)
        ∙ held_append held (get_or bytes i or ∷ []) (drop (i + 1) bytes)
        ∙ ap (λ (x : List ℕ). held_from x (drop (i + 1) bytes)) (sym is),
  )

  -- where there was no memory for the next, a front of all was told
  pub walk_failed : {E : Type 0} (held0 bytes out0 held out next : List ℕ) (i or : ℕ)
      (failed : E) → i < length bytes
      → Writes (lines_of (items_from held (get_or bytes i or ∷ []))) (Err failed) out next
      → Walk held0 bytes out0 held out i
      → Writes (lines_of (items_from held0 bytes)) (Err failed) out0 next
  walk_failed held0 bytes out0 held out next i or failed within wrote h =
      written_part (lines_of (items_from held0 bytes)) out0 out next
      (lines_of (items_from held (drop i bytes)))
      (lines_of (items_from held (get_or bytes i or ∷ [])))
      (lines_of (items_from (held_from held (get_or bytes i or ∷ [])) (drop (i + 1) bytes)))
      failed (lines_next held bytes i or within) wrote h.0

-- what came stands behind what was held
use Rattle.std.proofs.Common.{ℕ, List, ◌++◌, ◌∙◌, ap, rules, take}
use Rattle.std.proofs.lemmas.List.{length-take-le}
use Rattle.rh_slots.proofs.Fronts.{front-more}
use Rattle.rh_slots.proofs.first.First.read.Goals as goal

pub returns-clause-bytes : goal.returns-clause-bytes
returns-clause-bytes g c =
    let count = c.in_ok-count.count in
    let fits = c.in_ok-count.ensures.bound.0 in (
      take count c.read.new.room,
      front-more c.from-held.result count _ _ _ (search rules) fits
          ∙ ap (λ (l : List ℕ). l ++ take count c.read.new.room)
          (ap (λ (n : ℕ). take n c.self.inside.room) c.from-held.ensures ∙ c.self.view_is),
      length-take-le count c.read.new.room fits,
      c.in_ok-count.ensures.bytes,
    )

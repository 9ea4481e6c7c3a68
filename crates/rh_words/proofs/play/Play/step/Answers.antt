-- what the player does and answers is what is gathered
use Rattle.std.proofs.Common.{◌≡◌, List, ℕ, ◌++◌, Ok, Err, OnOk, ◌∙◌, ap, subst}
use Rattle.std.specs.declared.result.Result.{Result}
use Rattle.rh_text.specs.Writing.{Writes}
use Rattle.rh_script.specs.declared.step.Step.{Step}
use Rattle.rh_told.specs.Answers.{told_text}
use Rattle.rh_play.specs.Players.{Player, step}
use Rattle.rh_told.specs.declared.told.Told.{Told}
use Rattle.rh_words.specs.Play.{Adds, answered}
use Rattle.rh_words.proofs.play.Play.step.Goals as goal

adds : {E : Type 0} (was player next : Player) (line : Step) (told : Told)
    (r : Result (Unit {0}) E) (before after : List ℕ) → was ≡ player
    → (next, told) ≡ step was line → Writes (told_text told) r before after
    → OnOk r (Adds (answered player line) next before after)
unfolding answered
adds {E} was player next line told (Ok done) before after same h wrote =
    let did = subst (λ (p : Player). (next, told) ≡ step p line) same h in (
      ap (λ (p : Player × Told). p.0) did,
      wrote ∙ ap (λ (p : Player × Told). before ++ told_text p.1) did,
    )
adds {E} was player next line told (Err fault) before after same h wrote = tt

pub returns : goal.returns
returns c = adds _ _ _ _ _ _ _ _ c.self.view_is c.in_ok-told.ensures c.write_told.ensures

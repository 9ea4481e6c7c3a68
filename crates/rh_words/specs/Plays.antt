-- a script can go on and end at any time, and what is written line by line is what its lines are
-- answered
use Rattle.std.proofs.Common.{◌≡◌, ℕ, List, [], ◌∷◌, ◌++◌, refl, ◌∙◌, ap}
use Rattle.rh_script.specs.declared.step.Step.{Step}
use Rattle.rh_script.specs.Scripts.{StepText, script}
use Rattle.rh_play.specs.Players.{Player, step, answers}
use Rattle.rh_told.specs.Answers.{told_text, script_text}
use Rattle.rh_word.specs.Words.{Tells, SaysOf}
use Rattle.rh_words.specs.Play.{answered, playing, IsPlayed}

pub goes_on : (player : Player) (place : Unit {0}) (text : List ℕ) (line : Step)
    → StepText line text
    → (written : List ℕ) × (next : Player) × playing.Does player line written next
goes_on player place text line h =
    ((answered player line).1, (answered player line).0, refl)

pub comes_to_end : (player : Player) → (written : List ℕ) × playing.Ends player written
comes_to_end player = ([], refl)

-- what a line does, by the definition of the player
text_is : (player next : Player) (line : Step) (told : List ℕ) → (next, told) ≡ answered player line
    → told ≡ told_text (step player line).1
unfolding answered
text_is player next line told h = ap (λ (p : Player × List ℕ). p.1) h

next_is : (player next : Player) (line : Step) (told : List ℕ) → (next, told) ≡ answered player line
    → next ≡ (step player line).0
unfolding answered
next_is player next line told h = ap (λ (p : Player × List ℕ). p.0) h

-- what is written of lines is the text of what they are answered
tells_answers : (player : Player) (lines : List Step) (written : List ℕ)
    → Tells playing player lines written
    → written ≡ script_text (answers player lines)
tells_answers player [] written h = h
tells_answers player (line ∷ lines) written (one, more, next, does, is, rest) =
    let there = next_is player next line one does in
    let later = tells_answers next lines more rest in
    is ∙ ap (λ (x : List ℕ). x ++ more) (text_is player next line one does)
    ∙ ap (λ (x : List ℕ). told_text (step player line).1 ++ x) (later
    ∙ ap (λ p. script_text (answers p lines)) there)

pub means : (text written : List ℕ) → SaysOf script playing text written
    → IsPlayed text written
means text written h = record {
  lines = h.lines;
  is_text = h.is_text;
  played = tells_answers h.word h.lines written h.tells
      ∙ ap (λ p. script_text (answers p h.lines)) h.starts;
}

-- a whole text is passed over at its end
use Rattle.law_order.proofs.Vocabulary.{◌≡◌, ◌<◌, ℕ, Bool, true, false, List, [], ◌∷◌, ◌++◌, length, take, arith, refl, sym, ap, ◌∙◌, Option, append_assoc, length-append, take_at}
use Rattle.rh_shell.specs.declared.stage.Stage.TheVariants as stage
use Rattle.law_moves.proofs.Vocabulary.{Pipe, Stage, ends_head, is_whole_head, is_whole_greeting, IsWholeText, read_by, text_read}
use Rattle.law_moves.proofs.ReadBack.Taking.{TakesAt}

-- at a stage where a text comes, by the test of its end; no bytes are no whole text
module _ (pipe : Option Pipe) (s : Stage) (is_whole : List ℕ → Bool)
    (reads : (all : List ℕ) → read_by pipe s all ≡ text_read s all (is_whole all))
    (none : is_whole [] ≡ false) where
  some_byte : (text : List ℕ) → is_whole text ≡ true → 0 < length text
  some_byte [] whole = absurd cc
  some_byte (b ∷ text) whole = omega arith

  pub text_taken : (text : List ℕ) → IsWholeText is_whole text → TakesAt pipe s text []
  text_taken text is = record {
    some = some_byte text is.whole;
    front = λ a c x joined some.
        let all = a ++ x ∷ [] in
        let parts : all ++ c ≡ text = append_assoc a (x ∷ []) c ∙ joined in
        let first : take (length all) text ≡ all =
        ap (take (length all)) (sym parts) ∙ take_at all c (length all) refl in
        let open_yet : is_whole all ≡ false =
        sym (ap is_whole first)
        ∙ is.front (length all) (omega (arith, length-append a (x ∷ [])))
        (omega (arith, ap length parts, length-append all c, some)) in
        reads all ∙ ap (text_read s all) open_yet;
    whole = reads text ∙ ap (text_read s text) is.whole;
  }

no_head : is_whole_head [] ≡ false
unfolding ends_head
no_head = refl

pub head_taken : (pipe : Option Pipe) (text : List ℕ) → IsWholeText is_whole_head text
    → TakesAt pipe stage.Head text []
head_taken pipe text is =
    text_taken pipe stage.Head is_whole_head (λ all. refl) no_head text is

pub greeting_taken : (pipe : Option Pipe) (text : List ℕ) → IsWholeText is_whole_greeting text
    → TakesAt pipe stage.Greeting text []
greeting_taken pipe text is =
    text_taken pipe stage.Greeting is_whole_greeting (λ all. refl) refl text is

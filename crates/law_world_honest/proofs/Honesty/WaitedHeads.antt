-- a head that is waited for, and the next byte
use Rattle.law_order.proofs.Vocabulary.{◌≡◌, ◌≤◌, ◌<◌, ℕ, List, [], ◌∷◌, ◌++◌, append_assoc, length, take, true, false, arith, ap, ◌∙◌, ⊎_elim, Option, cases_lt, length-append, take_all, take-append-le}
use Rattle.rh_shell.specs.declared.stage.Stage.TheVariants as stage
use Rattle.law_moves.proofs.Vocabulary.{Pipe, Stage, is_whole_head, first_stage, begin, reading, reading_after}
use Rattle.law_node_streams.proofs.Streams.Heads.{waited}
use Rattle.law_world_honest.specs.Honesty.Heads.{IsHeadThere, IsWaitedFor}

module _ (start : Stage) (from : ℕ) (bytes held rest : List ℕ) (b : ℕ)
    (waits : IsWaitedFor start from bytes held (b ∷ rest)) where
  all_is : (held ++ b ∷ []) ++ rest ≡ bytes
  all_is = append_assoc held (b ∷ []) rest ∙ waits.all

  none_in : (k : ℕ) → from < k → k ≤ length held
      → is_whole_head (take k (held ++ b ∷ [])) ≡ false
  none_in k more less =
      ap is_whole_head (take-append-le k held (b ∷ []) less) ∙ waits.none k more less

  -- by the next byte it is whole
  pub whole_there : is_whole_head (held ++ b ∷ []) ≡ true
      → IsHeadThere start from bytes (held ++ b ∷ [])
  whole_there whole = record {
    is_head = waits.is_head;
    front = (rest, all_is);
    whole = whole;
    first = λ k more less.
        none_in k more (omega (arith, less, length-append held (b ∷ [])));
  }

  -- or it is waited for still
  pub waits_on : is_whole_head (held ++ b ∷ []) ≡ false
      → IsWaitedFor start from bytes (held ++ b ∷ []) rest
  waits_on none = record {
    is_head = waits.is_head;
    all = all_is;
    none = λ k more less.
        ⊎_elim (λ before. none_in k more (omega (arith, before, length-append held (b ∷ []))))
        (λ last. ap is_whole_head (take_all k (held ++ b ∷ []) last) ∙ none)
        (cases_lt k (length (held ++ b ∷ [])));
  }

-- it is where the reading of what was heard still waits for one
pub still_waits : (pipe : Option Pipe) (heard piece : List ℕ) (now : Stage) (held : List ℕ)
    → now ≡ stage.Head → reading_after pipe (begin pipe) heard ≡ reading now held
    → IsWaitedFor (first_stage pipe) 0 (heard ++ piece) held piece
still_waits pipe heard piece now held waiting after =
    let since = waited pipe (begin pipe) heard held
    (after ∙ ap (λ (s : Stage). reading s held) waiting) in
    record {
      is_head = since.head;
      all = ap (λ (x : List ℕ). x ++ piece) since.held_is;
      none = λ k more less.
          ap (λ (x : List ℕ). is_whole_head (take k x)) since.held_is
          ∙ since.none k more
          (omega (arith, less, ap length since.held_is));
    }

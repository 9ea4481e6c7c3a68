-- what each allowed move of an end keeps where it was reached by such moves
use Rattle.law_order.proofs.Vocabulary.{◌≡◌, List, [], ◌∷◌, ◌++◌, refl, sym, ap, ◌∙◌, subst}
use Rattle.law_moves.proofs.Vocabulary.{Rules, Acts, EndMove, EndPassage, MayEndMove, AreAllowedAtEnd, end_moved, all_end_moved}

module _ {S : Type 0} (rules : Rules S) (acts : Acts S) where
  all_more : (p : EndPassage S) (moves : List EndMove) (move : EndMove)
      → all_end_moved rules acts p (moves ++ move ∷ [])
      ≡ end_moved rules acts (all_end_moved rules acts p moves) move
  all_more p [] move = refl
  all_more p (one ∷ moves) move = all_more (end_moved rules acts p one) moves move

  allowed_more : (p : EndPassage S) (moves : List EndMove) (move : EndMove)
      → AreAllowedAtEnd rules acts p moves
      → MayEndMove rules (all_end_moved rules acts p moves).passage.role move
      → AreAllowedAtEnd rules acts p (moves ++ move ∷ [])
  allowed_more p [] move all may = (may, tt)
  allowed_more p (one ∷ moves) move all may =
      (all.0, allowed_more (end_moved rules acts p one) moves move all.1 may)

  -- by allowed moves from the first passage
  pub record Reached (start p : EndPassage S) : Type 0 where
    pub moves : List EndMove
    pub allowed : AreAllowedAtEnd rules acts start moves
    pub is : all_end_moved rules acts start moves ≡ p

  reached_more : (start p : EndPassage S) (move : EndMove) → Reached start p
      → MayEndMove rules p.passage.role move → Reached start (end_moved rules acts p move)
  reached_more start p move h may = record {
    moves = h.moves ++ move ∷ [];
    allowed = allowed_more start h.moves move h.allowed
        (subst (λ (q : EndPassage S). MayEndMove rules q.passage.role move) (sym h.is) may);
    is = all_more start h.moves move
        ∙ ap (λ (q : EndPassage S). end_moved rules acts q move) h.is;
  }

  module _ (start : EndPassage S) (P : EndPassage S → Type 0)
      (keeps : (p : EndPassage S) (move : EndMove) → Reached start p
      → MayEndMove rules p.passage.role move → P p → P (end_moved rules acts p move)) where
    on : (p : EndPassage S) (moves : List EndMove) → Reached start p
        → AreAllowedAtEnd rules acts p moves → P p → P (all_end_moved rules acts p moves)
    on p [] reached all h = h
    on p (move ∷ moves) reached all h =
        on (end_moved rules acts p move) moves (reached_more start p move reached all.0) all.1
        (keeps p move reached all.0 h)

    pub reached_keep : (moves : List EndMove) → AreAllowedAtEnd rules acts start moves → P start
        → P (all_end_moved rules acts start moves)
    reached_keep moves all h =
        on start moves (record { moves = []; allowed = tt; is = refl }) all h

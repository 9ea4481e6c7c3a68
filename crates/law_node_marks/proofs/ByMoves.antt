-- what each move of a role keeps, its moves keep; and moves by rules that mark fewer legs
use Rattle.law_order.proofs.Vocabulary.{◌≡◌, List, [], ◌∷◌, Bool, true, Some, None, Ok, Err, refl, sym, ap, ◌∙◌, subst, AllByRecursion, IfSome, Option}
use Rattle.law_moves.proofs.Vocabulary.{Leg, Rules, Row, Message, AreAllowed, MayMove, Move, Up, HeadCame, PduCame, PacketCame, Puts, IsDrawn, Marks, Pings, Passage, moved, all_moved, taken_by, put_by}
use Rattle.law_node_marks.specs.Losing.{marking}

-- behind a row, and behind a put
pub row_keeps : {S : Type 0} (P : S → Type 0) (p : Passage S) (leg : Leg) (m : Message)
    (x : S × Row) → P x.0 → P (taken_by p leg m x).role
row_keeps P p leg m (s, Ok taken) h = h
row_keeps P p leg m (s, Err refused) h = h

pub put_keeps : {S : Type 0} (P : S → Type 0) (p : Passage S) (leg : Leg)
    (pick : Option (S × Message)) → P p.role → IfSome pick (λ (one : S × Message). P one.0)
    → P (put_by p leg pick).role
put_keeps P p leg None h goes = h
put_keeps P p leg (Some one) h goes = goes

module _ {S : Type 0} (rules : Rules S) (Asks : Move → Type 0) (P : Passage S → Type 0)
    (keeps : (p : Passage S) (move : Move) → MayMove rules p.role move → Asks move → P p
    → P (moved rules p move)) where
  pub moves_keep : (p : Passage S) (moves : List Move) → AreAllowed rules p moves
      → AllByRecursion Asks moves → P p → P (all_moved rules p moves)
  moves_keep p [] may asks h = h
  moves_keep p (move ∷ moves) may asks h =
      moves_keep (moved rules p move) moves may.1 asks.1 (keeps p move may.0 asks.0 h)

-- ---- rules that mark fewer legs

module _ {S : Type 0} (rules : Rules S) (marks : S → Leg → Bool) where
  moved_same : (p : Passage S) (move : Move)
      → moved (marking rules marks) p move ≡ moved rules p move
  moved_same p (Up leg cookie) = refl
  moved_same p (HeadCame leg text) = refl
  moved_same p (PduCame leg count pdu) = refl
  moved_same p (PacketCame leg count named) = refl
  moved_same p (Puts leg) = refl
  moved_same p (IsDrawn leg) = refl
  moved_same p (Marks leg) = refl
  moved_same p (Pings leg) = refl

  pub all_moved_same : (p : Passage S) (moves : List Move)
      → all_moved (marking rules marks) p moves ≡ all_moved rules p moves
  all_moved_same p [] = refl
  all_moved_same p (move ∷ moves) =
      ap (λ (q : Passage S). all_moved (marking rules marks) q moves) (moved_same p move)
      ∙ all_moved_same (moved rules p move) moves

  module _ (fewer : (s : S) (leg : Leg) → marks s leg ≡ true → rules.only_marks s leg ≡ true)
    where
      may_be : (s : S) (move : Move) → MayMove (marking rules marks) s move → MayMove rules s move
      may_be s (Up leg cookie) may = may
      may_be s (HeadCame leg text) may = may
      may_be s (PduCame leg count pdu) may = may
      may_be s (PacketCame leg count named) may = may
      may_be s (Puts leg) may = may
      may_be s (IsDrawn leg) may = may
      may_be s (Marks leg) may = (may.0, fewer s leg may.1)
      may_be s (Pings leg) may = may

      pub are_allowed : (p : Passage S) (moves : List Move)
          → AreAllowed (marking rules marks) p moves → AreAllowed rules p moves
      are_allowed p [] may = tt
      are_allowed p (move ∷ moves) may = (
        may_be p.role move may.0,
        are_allowed (moved rules p move) moves
            (subst (λ (q : Passage S). AreAllowed (marking rules marks) q moves) (moved_same p move)
            may.1),
      )

-- the rules themselves
module _ {S : Type 0} (rules : Rules S) where
  itself_may : (s : S) (move : Move) → MayMove rules s move
      → MayMove (marking rules rules.only_marks) s move
  itself_may s (Up leg cookie) may = may
  itself_may s (HeadCame leg text) may = may
  itself_may s (PduCame leg count pdu) may = may
  itself_may s (PacketCame leg count named) may = may
  itself_may s (Puts leg) may = may
  itself_may s (IsDrawn leg) may = may
  itself_may s (Marks leg) may = may
  itself_may s (Pings leg) may = may

  pub itself_allowed : (p : Passage S) (moves : List Move) → AreAllowed rules p moves
      → AreAllowed (marking rules rules.only_marks) p moves
  itself_allowed p [] may = tt
  itself_allowed p (move ∷ moves) may = (
    itself_may p.role move may.0,
    subst (λ (q : Passage S). AreAllowed (marking rules rules.only_marks) q moves)
        (sym (moved_same rules rules.only_marks p move))
        (itself_allowed (moved rules p move) moves may.1),
  )

-- moves behind moves
use Rattle.law_order.proofs.Vocabulary.{◌≡◌, List, [], ◌∷◌, ◌++◌, refl, sym, ap, ◌∙◌, subst}
use Rattle.law_moves.proofs.Vocabulary.{Rules, Move, Passage, MayMove, AreAllowed, moved, all_moved, Leads}

module _ {S : Type 0} (rules : Rules S) where
  moved_append : (p : Passage S) (ms ns : List Move)
      → all_moved rules p (ms ++ ns) ≡ all_moved rules (all_moved rules p ms) ns
  moved_append p [] ns = refl
  moved_append p (m ∷ ms) ns = moved_append (moved rules p m) ms ns

  allowed_append : (p : Passage S) (ms ns : List Move) → AreAllowed rules p ms
      → AreAllowed rules (all_moved rules p ms) ns → AreAllowed rules p (ms ++ ns)
  allowed_append p [] ns a b = b
  allowed_append p (m ∷ ms) ns a b = (a.0, allowed_append (moved rules p m) ms ns a.1 b)

  pub leads_none : (p : Passage S) → Leads rules p p
  leads_none p = record { moves = []; allowed = tt; reached = refl }

  pub leads_one : (p : Passage S) (move : Move) → MayMove rules p.role move
      → Leads rules p (moved rules p move)
  leads_one p move may = record { moves = move ∷ []; allowed = (may, tt); reached = refl }

  pub leads_then : (p q r : Passage S) → Leads rules p q → Leads rules q r → Leads rules p r
  leads_then p q r a b = record {
    moves = a.moves ++ b.moves;
    allowed =
        allowed_append p a.moves b.moves a.allowed
        (subst (λ x. AreAllowed rules x b.moves) (sym a.reached) b.allowed);
    reached =
        moved_append p a.moves b.moves
        ∙ ap (λ x. all_moved rules x b.moves) a.reached ∙ b.reached;
  }

  -- what each move keeps that may be made, moves keep
  moves_keep : (P : Passage S → Type 0)
      → ((p : Passage S) (move : Move) → P p → MayMove rules p.role move
      → P (moved rules p move))
      → (p : Passage S) (moves : List Move) → AreAllowed rules p moves → P p
      → P (all_moved rules p moves)
  moves_keep P keeps p [] allowed holds = holds
  moves_keep P keeps p (m ∷ ms) allowed holds =
      moves_keep P keeps (moved rules p m) ms allowed.1 (keeps p m holds allowed.0)

  pub leads_keep : (P : Passage S → Type 0)
      → ((p : Passage S) (move : Move) → P p → MayMove rules p.role move
      → P (moved rules p move))
      → (p q : Passage S) → Leads rules p q → P p → P q
  leads_keep P keeps p q leads holds =
      subst P leads.reached (moves_keep P keeps p leads.moves leads.allowed holds)

-- where moves are in turn, a message is put only on a leg that is up
use Rattle.law_order.proofs.Vocabulary.{◌≡◌, ◌⊎◌, Bool, true, false, if◌then◌else◌, List, [], ◌∷◌, Some, inl, inr, refl, sym, ap, ◌∙◌, subst, is_some}
use Rattle.law_moves.proofs.Vocabulary.{Leg, Stage, first_stage, Rules, same_leg, Move, Up, HeadCame, PduCame, PacketCame, Puts, IsDrawn, Marks, Pings, MayMove, AreAllowed, Passage, moved, AreInTurnFrom, IsInTurn, Stages, stages_after, with_stage}
use Rattle.law_moves.specs.Turns.{behind_head}
use Rattle.law_role_inproxy.proofs.Vocabulary.{ArePutUp, IsPutUp}
use Rattle.law_node_history.proofs.Lemmas.{cases_leg}
use Rattle.law_node_causes.specs.Once.{ComesUpOnce}

module _ {S : Type 0} (rules : Rules S) (Holds : S → Type 0) (once : ComesUpOnce rules Holds) where
  -- each leg that came up was up
  abbrev WereUp : S → Stages → Type 0
  WereUp s stages = (leg : Leg) → is_some (stages leg) ≡ true → rules.was_up s leg ≡ true

  with_one : (s : S) (stages : Stages) (leg : Leg) (next : Stage) → rules.was_up s leg ≡ true
      → WereUp s stages → WereUp s (with_stage leg next stages)
  with_one s stages leg next here up other some =
      by (same_leg leg other) refl some (cases_leg leg other)
    where
      by : (b : Bool) → same_leg leg other ≡ b
          → is_some (if b then Some next else stages other) ≡ true
          → (leg ≡ other) ⊎ (same_leg leg other ≡ false) → rules.was_up s other ≡ true
      by true e is (inl same) = subst (λ (l : Leg). rules.was_up s l ≡ true) same here
      by true e is (inr apart) = absurd (let both = sym e ∙ apart in cc)
      by false e is cases = up other is

  stay : (p : Passage S) (stages : Stages) (move : Move) → Holds p.role
      → MayMove rules p.role move → WereUp p.role stages → WereUp (moved rules p move).role stages
  stay p stages move holds may up leg some = once.stays p move leg holds may (up leg some)

  next_up : (p : Passage S) (stages : Stages) (move : Move) → Holds p.role
      → MayMove rules p.role move → IsInTurn rules p.role stages move → WereUp p.role stages
      → WereUp (moved rules p move).role (stages_after rules p.role stages move)
  next_up p stages (Up leg cookie) holds may turn up =
      with_one (moved rules p (Up leg cookie)).role stages leg
      (first_stage (rules.pipe p.role leg)) (once.up p.role leg cookie holds may)
      (stay p stages (Up leg cookie) holds may up)
  next_up p stages (HeadCame leg text) holds may turn up =
      with_one (moved rules p (HeadCame leg text)).role stages leg
      (behind_head (rules.head p.role leg text).1)
      (stay p stages (HeadCame leg text) holds may up leg (ap is_some turn))
      (stay p stages (HeadCame leg text) holds may up)
  next_up p stages (PduCame leg count pdu) holds may turn up =
      stay p stages (PduCame leg count pdu) holds may up
  next_up p stages (PacketCame leg count named) holds may turn up =
      stay p stages (PacketCame leg count named) holds may up
  next_up p stages (Puts leg) holds may turn up = stay p stages (Puts leg) holds may up
  next_up p stages (IsDrawn leg) holds may turn up = stay p stages (IsDrawn leg) holds may up
  next_up p stages (Marks leg) holds may turn up = stay p stages (Marks leg) holds may up
  next_up p stages (Pings leg) holds may turn up = stay p stages (Pings leg) holds may up

  is_put_up : (s : S) (stages : Stages) (move : Move) → WereUp s stages
      → IsInTurn rules s stages move → IsPutUp rules s move
  is_put_up s stages (Puts leg) up turn = up leg turn
  is_put_up s stages move up turn = tt

  pub are_put_up : (p : Passage S) (stages : Stages) (moves : List Move) → Holds p.role
      → WereUp p.role stages → AreAllowed rules p moves → AreInTurnFrom rules p stages moves
      → ArePutUp rules p moves
  are_put_up p stages [] holds up allowed turn = tt
  are_put_up p stages (move ∷ moves) holds up allowed turn = (
    is_put_up p.role stages move up turn.0,
    are_put_up (moved rules p move) (stages_after rules p.role stages move) moves
        (once.kept p move holds allowed.0) (next_up p stages move holds allowed.0 turn.0 up)
        allowed.1 turn.1,
  )

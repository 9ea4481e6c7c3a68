-- no head that comes to a proxy asks for an echo
use Rattle.law_order.proofs.Vocabulary.{◌≡◌, ℕ, List, [], ◌∷◌, Bool, true, false, true≢false, ◌||◌, Some, refl, sym, ap, ◌∙◌, subst, if◌then◌else◌, AllByRecursion, list_any, Option}
use Rattle.rh_shell.specs.declared.stage.Stage.TheVariants as stage
use Rattle.law_moves.proofs.Vocabulary.{neither, Pipe, Leg, Stage, first_stage, Rules, same_leg, AreAllowed, Move, Up, HeadCame, PduCame, PacketCame, Puts, IsDrawn, Marks, Pings, Passage, moved, started, Leads, AreInTurn, AreInTurnFrom, IsInTurn, Stages, none_up, stages_after, with_stage}
use Rattle.law_moves.proofs.Lemmas.{leads_none, leads_one, leads_then, leg_is}
use Rattle.law_moves.specs.Turns.{behind_head}
use Rattle.law_node_history.proofs.Lemmas.{same_itself}
use Rattle.law_node_streams.specs.Streams.{HasPipes, IsFirstHead, IsHeadOf, is_head_on}
use Rattle.law_node_ends.specs.Passed.{AsksNoEcho, HeadsAre}
use Rattle.law_world_ways.specs.LiveIntakes.{BeginsNoEcho}

-- ---- no head comes where none comes first

module _ {S : Type 0} (rules : Rules S) (first : S) (pipe : Leg → Option Pipe)
    (has : HasPipes rules first pipe) (leg : Leg)
    (other : first_stage (pipe leg) ≡ stage.Head → ⊥) where
  abbrev IsNext : Stages → Type 0
  IsNext g = g leg ≡ Some stage.Head

  -- not behind a leg that comes up
  up_next : (g : Stages) (p : Passage S) (k : Leg) → Leads rules (started first) p
      → (IsNext g → ⊥) → IsNext (with_stage k (first_stage (rules.pipe p.role k)) g) → ⊥
  up_next g p k leads not_yet = by (same_leg k leg) refl
    where
      piped : rules.pipe p.role leg ≡ pipe leg
      piped =
          subst (λ (q : Passage S). rules.pipe q.role leg ≡ pipe leg) leads.reached
          (has leads.moves leg leads.allowed)

      by : (t : Bool) → same_leg k leg ≡ t
          → (if t then Some (first_stage (rules.pipe p.role k)) else g leg) ≡ Some stage.Head → ⊥
      by false e is = not_yet is
      by true e is =
          let same : first_stage (rules.pipe p.role k) ≡ stage.Head = cc in
          other (ap first_stage (sym piped)
          ∙ ap (λ (l : Leg). first_stage (rules.pipe p.role l)) (sym (leg_is k leg e)) ∙ same)

  -- nor behind a head on another one
  head_next : (g : Stages) (k : Leg) (next : Stage) → same_leg k leg ≡ false
      → (IsNext g → ⊥) → IsNext (with_stage k next g) → ⊥
  head_next g k next apart not_yet is =
      not_yet (ap (λ (t : Bool). if t then Some next else g leg) (sym apart) ∙ is)

  no_heads : (p : Passage S) (g : Stages) (moves : List Move) → Leads rules (started first) p
      → AreAllowed rules p moves → AreInTurnFrom rules p g moves → (IsNext g → ⊥)
      → list_any (is_head_on leg) moves ≡ false
  no_heads p g [] leads allowed turn not_yet = refl
  no_heads p g (move ∷ moves) leads allowed turn not_yet =
      let q = moved rules p move in
      let on = leads_then rules (started first) p q leads (leads_one rules p move allowed.0) in
      ap (λ (t : Bool). t || list_any (is_head_on leg) moves) (one move turn.0)
      ∙ no_heads q (stages_after rules p.role g move) moves on allowed.1 turn.1
      (next move turn.0)
    where
      one : (move : Move) → IsInTurn rules p.role g move → is_head_on leg move ≡ false
      one (HeadCame k text) is = by (same_leg k leg) refl
        where
          by : (t : Bool) → same_leg k leg ≡ t → t ≡ false
          by false e = refl
          by true e =
              absurd (not_yet (ap g (sym (leg_is k leg e)) ∙ is))
      one (Up k cookie) is = refl
      one (PduCame k count pdu) is = refl
      one (PacketCame k count named) is = refl
      one (Puts k) is = refl
      one (IsDrawn k) is = refl
      one (Marks k) is = refl
      one (Pings k) is = refl

      next : (move : Move) → IsInTurn rules p.role g move
          → IsNext (stages_after rules p.role g move) → ⊥
      next (Up k cookie) is = up_next g p k leads not_yet
      next (HeadCame k text) is =
          head_next g k (behind_head (rules.head p.role k text).1) (one (HeadCame k text) is)
          not_yet
      next (PduCame k count pdu) is = not_yet
      next (PacketCame k count named) is = not_yet
      next (Puts k) is = not_yet
      next (IsDrawn k) is = not_yet
      next (Marks k) is = not_yet
      next (Pings k) is = not_yet

  headless : (moves : List Move) → AreAllowed rules (started first) moves
      → AreInTurn rules first moves → list_any (is_head_on leg) moves ≡ false
  headless moves allowed turn =
      no_heads (started first) none_up moves (leads_none rules (started first)) allowed turn none
    where
      none : IsNext none_up → ⊥
      none is = absurd cc

-- ---- and each that comes is of its kind

-- of a leg on which no head comes, or of one with which bytes begin that were heard there
each_head : (Heads : List ℕ → Type 0) (heard : Leg → List ℕ) (IsBare : Leg → Type 0)
    → ((leg : Leg) (text : List ℕ) → (IsBare leg → ⊥) → IsFirstHead text (heard leg) → Heads text)
    → (moves : List Move) → ((leg : Leg) → AllByRecursion (IsHeadOf leg (heard leg)) moves)
    → ((leg : Leg) → IsBare leg → list_any (is_head_on leg) moves ≡ false)
    → AllByRecursion (HeadsAre Heads) moves
each_head Heads heard IsBare asks [] first bare = tt
each_head Heads heard IsBare asks (move ∷ moves) first bare = (
  one move (λ leg. (first leg).0)
      (λ leg is.
      (neither (is_head_on leg move) (list_any (is_head_on leg) moves) (bare leg is)).0),
  each_head Heads heard IsBare asks moves (λ leg. (first leg).1)
      (λ leg is.
      (neither (is_head_on leg move) (list_any (is_head_on leg) moves) (bare leg is)).1),
)
  where
    one : (move : Move) → ((leg : Leg) → IsHeadOf leg (heard leg) move)
        → ((leg : Leg) → IsBare leg → is_head_on leg move ≡ false) → HeadsAre Heads move
    one (HeadCame leg text) first bare =
        asks leg text (λ is. absurd (true≢false (sym (same_itself leg) ∙ bare leg is)))
        (first leg (same_itself leg))
    one (Up leg cookie) first bare = tt
    one (PduCame leg count pdu) first bare = tt
    one (PacketCame leg count named) first bare = tt
    one (Puts leg) first bare = tt
    one (IsDrawn leg) first bare = tt
    one (Marks leg) first bare = tt
    one (Pings leg) first bare = tt

-- ---- so where the bytes begin with none that asks for an echo, none comes

module _ {S : Type 0} (rules : Rules S) (first : S) (pipe : Leg → Option Pipe)
    (has : HasPipes rules first pipe) (inbound : Bool) (heard : Leg → List ℕ)
    (begins : (leg : Leg) → BeginsNoEcho inbound (pipe leg) (heard leg)) where
  abbrev IsBare : Leg → Type 0
  IsBare leg = first_stage (pipe leg) ≡ stage.Head → ⊥

  asks_none : (leg : Leg) (text : List ℕ) → (IsBare leg → ⊥) → IsFirstHead text (heard leg)
      → AsksNoEcho inbound text
  asks_none leg text other whole = by (first_stage (pipe leg)) refl
    where
      by : (s : Stage) → first_stage (pipe leg) ≡ s → AsksNoEcho inbound text
      by stage.Head e = begins leg e text whole
      by stage.Greeting e =
          absurd (other (λ head.
          let bad : stage.Greeting ≡ stage.Head = sym e ∙ head in absurd cc))
      by stage.Frames e =
          absurd (other (λ head.
          let bad : stage.Frames ≡ stage.Head = sym e ∙ head in absurd cc))
      by stage.PassedOver e =
          absurd (other (λ head.
          let bad : stage.PassedOver ≡ stage.Head = sym e ∙ head in absurd cc))
      by stage.Shut e =
          absurd (other (λ head.
          let bad : stage.Shut ≡ stage.Head = sym e ∙ head in absurd cc))

  pub no_echoes : (moves : List Move) → AreAllowed rules (started first) moves
      → AreInTurn rules first moves
      → ((leg : Leg) → AllByRecursion (IsHeadOf leg (heard leg)) moves)
      → AllByRecursion (HeadsAre (AsksNoEcho inbound)) moves
  no_echoes moves allowed turn heads =
      each_head (AsksNoEcho inbound) heard IsBare asks_none moves heads
      (λ leg bare. headless rules first pipe has leg bare moves allowed turn)

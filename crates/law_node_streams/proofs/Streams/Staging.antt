-- what comes next on each leg behind moves
use Rattle.law_order.proofs.Vocabulary.{◌≡◌, ◌++◌, append_assoc, List, [], ◌∷◌, cond, Bool, true, false, Some, None, refl, sym, ap, ◌∙◌, subst, is_some, list_any, Option, append-nil}
use Rattle.rh_shell.specs.declared.stage.Stage.TheVariants as stage
use Rattle.law_moves.proofs.Vocabulary.{neither, Leg, Stage, first_stage, Rules, same_leg, Move, Up, HeadCame, PduCame, PacketCame, Puts, IsDrawn, Marks, Pings, Passage, MayMove, AreAllowed, moved, all_moved, is_in_use, Stages, AreInTurnFrom, IsInTurn, is_head_on, stages_after, takes_frames, AreCounted, IsCounted}
use Rattle.law_moves.proofs.Lemmas.{leg_is}
use Rattle.law_moves.specs.Turns.{behind_head}
use Rattle.law_node_streams.proofs.Streams.Counts.{counted_append}
use Rattle.law_node_streams.proofs.Streams.Ways.{Way}
use Rattle.law_node_streams.specs.Streams.{is_up_on}

-- behind all moves
abbrev pub all_stages : {S : Type 0} → Rules S → Passage S → Stages → List Move → Stages
all_stages rules p g [] = g
all_stages rules p g (move ∷ moves) =
    all_stages rules (moved rules p move) (stages_after rules p.role g move) moves

-- what an intake takes next is what comes next, where the greeting came or is to come
abbrev pub IsNext : Option Stage → Stage → Type 0
IsNext next stage.Head = next ≡ Some stage.Head
IsNext next stage.Greeting = takes_frames next ≡ true
IsNext next stage.Frames = takes_frames next ≡ true
IsNext next stage.PassedOver = Unit {0}
IsNext next stage.Shut = Unit {0}

pub next_itself : (next : Stage) → IsNext (Some next) next
next_itself stage.Head = refl
next_itself stage.Greeting = refl
next_itself stage.Frames = refl
next_itself stage.PassedOver = tt
next_itself stage.Shut = tt

-- nothing needs to be known of what comes next
abbrev pub anything : Stages → Type 0
anything g = Unit {0}

-- the leg came up
abbrev pub is_reached : Leg → Stages → Type 0
is_reached leg g = is_some (g leg) ≡ true

module _ {S : Type 0} (rules : Rules S) where
  -- moves in their turn, where so much is known of what comes next, which they leave; and, where
  -- that is asked of them, those that come are counted
  pub record LeavesStages (asks : Stages → Type 0) (Counts : Type 0) (p : Passage S)
      (moves : List Move) : Type 0
    where
      pub in_turn : (g : Stages) → asks g → AreInTurnFrom rules p g moves
      pub stays : (g : Stages) → all_stages rules p g moves ≡ g
      pub counted : Counts → AreCounted rules p moves

  pub leaves_none : (asks : Stages → Type 0) (Counts : Type 0) (p : Passage S)
      → LeavesStages asks Counts p []
  leaves_none asks Counts p = record {
    in_turn = λ g. λ a. tt;
    stays = λ g. refl;
    counted = λ c. tt;
  }

  pub all_stages_append : (p : Passage S) (g : Stages) (ms ns : List Move)
      → all_stages rules p g (ms ++ ns)
      ≡ all_stages rules (all_moved rules p ms) (all_stages rules p g ms) ns
  all_stages_append p g [] ns = refl
  all_stages_append p g (m ∷ ms) ns =
      all_stages_append (moved rules p m) (stages_after rules p.role g m) ms ns

  pub in_turn_append : (p : Passage S) (g : Stages) (ms ns : List Move)
      → AreInTurnFrom rules p g ms
      → AreInTurnFrom rules (all_moved rules p ms) (all_stages rules p g ms) ns
      → AreInTurnFrom rules p g (ms ++ ns)
  in_turn_append p g [] ns a b = b
  in_turn_append p g (m ∷ ms) ns a b =
      (a.0, in_turn_append (moved rules p m) (stages_after rules p.role g m) ms ns a.1 b)

  pub leaves_then : (asks : Stages → Type 0) (Counts : Type 0) (p q : Passage S) (ms ns : List Move)
      → all_moved rules p ms ≡ q → LeavesStages asks Counts p ms → LeavesStages asks Counts q ns
      → LeavesStages asks Counts p (ms ++ ns)
  leaves_then asks Counts p q ms ns reached a b = record {
    in_turn = λ g. λ h.
        in_turn_append p g ms ns (a.in_turn g h)
        (subst (λ x. AreInTurnFrom rules x (all_stages rules p g ms) ns) (sym reached)
        (subst (λ (f : Stages). AreInTurnFrom rules q f ns) (sym (a.stays g))
        (b.in_turn g h)));
    stays = λ g.
        all_stages_append p g ms ns
        ∙ ap (λ x. all_stages rules x (all_stages rules p g ms) ns) reached
        ∙ ap (λ (f : Stages). all_stages rules q f ns) (a.stays g) ∙ b.stays g;
    counted = λ h.
        counted_append rules p ms ns (a.counted h)
        (subst (λ x. AreCounted rules x ns) (sym reached) (b.counted h));
  }

  one_other : (p : Passage S) (g : Stages) (leg : Leg) (move : Move)
      → is_head_on leg move ≡ false → is_up_on leg move ≡ false
      → stages_after rules p.role g move leg ≡ g leg
  one_other p g leg (Up other cookie) headless upless =
      ap (λ t. cond t (Some (first_stage (rules.pipe p.role other))) (g leg)) upless
  one_other p g leg (HeadCame other text) headless upless =
      ap (λ t. cond t (Some (behind_head (rules.head p.role other text).1)) (g leg)) headless
  one_other p g leg (PduCame other count pdu) headless upless = refl
  one_other p g leg (PacketCame other count named) headless upless = refl
  one_other p g leg (Puts other) headless upless = refl
  one_other p g leg (IsDrawn other) headless upless = refl
  one_other p g leg (Marks other) headless upless = refl
  one_other p g leg (Pings other) headless upless = refl

  -- the same comes next on a leg on which no head came, and which did not come up
  pub stage_other : (p : Passage S) (g : Stages) (leg : Leg) (moves : List Move)
      → list_any (is_head_on leg) moves ≡ false → list_any (is_up_on leg) moves ≡ false
      → all_stages rules p g moves leg ≡ g leg
  stage_other p g leg [] headless upless = refl
  stage_other p g leg (m ∷ ms) headless upless =
      let heads = neither (is_head_on leg m) (list_any (is_head_on leg) ms) headless in
      let ups = neither (is_up_on leg m) (list_any (is_up_on leg) ms) upless in
      stage_other (moved rules p m) (stages_after rules p.role g m) leg ms heads.1 ups.1
      ∙ one_other p g leg m heads.0 ups.0

  -- a leg that came up did so behind more moves too
  reached_after : (p : Passage S) (g : Stages) (leg : Leg) (move : Move) → is_reached leg g
      → is_reached leg (stages_after rules p.role g move)
  reached_after p g leg (Up other cookie) up = by (same_leg other leg)
    where
      by : (t : Bool) → is_some (cond t (Some (first_stage (rules.pipe p.role other))) (g leg))
          ≡ true
      by true = refl
      by false = up
  reached_after p g leg (HeadCame other text) up = by (same_leg other leg)
    where
      by : (t : Bool)
          → is_some (cond t (Some (behind_head (rules.head p.role other text).1)) (g leg)) ≡ true
      by true = refl
      by false = up
  reached_after p g leg (PduCame other count pdu) up = up
  reached_after p g leg (PacketCame other count named) up = up
  reached_after p g leg (Puts other) up = up
  reached_after p g leg (IsDrawn other) up = up
  reached_after p g leg (Marks other) up = up
  reached_after p g leg (Pings other) up = up

  pub reached_stays : (p : Passage S) (g : Stages) (leg : Leg) (moves : List Move)
      → is_reached leg g → is_reached leg (all_stages rules p g moves)
  reached_stays p g leg [] up = up
  reached_stays p g leg (m ∷ ms) up =
      reached_stays (moved rules p m) (stages_after rules p.role g m) leg ms
      (reached_after p g leg m up)

  -- nothing comes on a leg that does not come up
  pub stage_none : (p : Passage S) (g : Stages) (leg : Leg) (moves : List Move)
      → AreInTurnFrom rules p g moves → list_any (is_up_on leg) moves ≡ false → g leg ≡ None
      → all_stages rules p g moves leg ≡ None
  stage_none p g leg [] turn upless none = none
  stage_none p g leg (m ∷ ms) turn upless none =
      let ups = neither (is_up_on leg m) (list_any (is_up_on leg) ms) upless in
      stage_none (moved rules p m) (stages_after rules p.role g m) leg ms turn.1 ups.1
      (by (is_head_on leg m) refl ups.0)
    where
      by : (t : Bool) → is_head_on leg m ≡ t → is_up_on leg m ≡ false
          → stages_after rules p.role g m leg ≡ None
      by true e up = absurd (headed m turn.0 e)
        where
          headed : (move : Move) → IsInTurn rules p.role g move → is_head_on leg move ≡ true → ⊥
          headed (HeadCame other text) first e =
              absurd (let bad : None ≡ Some stage.Head =
              sym none ∙ ap g (sym (leg_is other leg e)) ∙ first in cc)
          headed (Up other cookie) first e = absurd cc
          headed (PduCame other count pdu) first e = absurd cc
          headed (PacketCame other count named) first e = absurd cc
          headed (Puts other) first e = absurd cc
          headed (IsDrawn other) first e = absurd cc
          headed (Marks other) first e = absurd cc
          headed (Pings other) first e = absurd cc
      by false e up = one_other p g leg m e up ∙ none

  -- ---- what is reached by moves

  module _ (At : Passage S → List Move → Stages → Type 0)
      (more : (p : Passage S) (ms : List Move) (g : Stages) (move : Move) → At p ms g
      → MayMove rules p.role move → IsInTurn rules p.role g move → IsCounted p move
      → At (moved rules p move) (ms ++ move ∷ []) (stages_after rules p.role g move))
      (stays : (p : Passage S) (ms : List Move) (g : Stages) (move : Move) (leg : Leg)
      → At p ms g → MayMove rules p.role move → is_up_on leg move ≡ false
      → is_in_use rules p.role leg ≡ false
      → is_in_use rules (moved rules p move).role leg ≡ false) where
    all_reached : (p : Passage S) (ms : List Move) (g : Stages) (ns : List Move) → At p ms g
        → AreAllowed rules p ns → AreInTurnFrom rules p g ns → AreCounted rules p ns
        → At (all_moved rules p ns) (ms ++ ns) (all_stages rules p g ns)
    all_reached p ms g [] at a turn c = subst (λ x. At p x g) (sym (append-nil ms)) at
    all_reached p ms g (n ∷ ns) at a turn c =
        let q = moved rules p n in
        let h = stages_after rules p.role g n in
        subst (λ x. At (all_moved rules q ns) x (all_stages rules q h ns))
        (append_assoc ms (n ∷ []) ns)
        (all_reached q (ms ++ n ∷ []) h ns (more p ms g n at a.0 turn.0 c.0) a.1 turn.1 c.1)

    pub way_reached : (heads ups : Leg → Bool) (p q : Passage S) (ms : List Move)
        (g : Stages) → (way : Way rules heads ups p q) → AreInTurnFrom rules p g way.moves
        → AreCounted rules p way.moves → At p ms g
        → At q (ms ++ way.moves) (all_stages rules p g way.moves)
    way_reached heads ups p q ms g way turn c at =
        subst (λ x. At x (ms ++ way.moves) (all_stages rules p g way.moves)) way.reached
        (all_reached p ms g way.moves at way.allowed turn c)

    all_stay : (p : Passage S) (ms : List Move) (g : Stages) (ns : List Move) (leg : Leg)
        → At p ms g → AreAllowed rules p ns → AreInTurnFrom rules p g ns → AreCounted rules p ns
        → list_any (is_up_on leg) ns ≡ false
        → is_in_use rules p.role leg ≡ false
        → is_in_use rules (all_moved rules p ns).role leg ≡ false
    all_stay p ms g [] leg at a turn c u un = un
    all_stay p ms g (n ∷ ns) leg at a turn c u un =
        let two = neither (is_up_on leg n) (list_any (is_up_on leg) ns) u in
        all_stay (moved rules p n) (ms ++ n ∷ []) (stages_after rules p.role g n) ns leg
        (more p ms g n at a.0 turn.0 c.0) a.1 turn.1 c.1 two.1 (stays p ms g n leg at a.0 two.0 un)

    -- a leg that is not in use does not come in use again
    pub way_stays : (heads ups : Leg → Bool) (p q : Passage S) (ms : List Move)
        (g : Stages) (leg : Leg) → (way : Way rules heads ups p q)
        → AreInTurnFrom rules p g way.moves → AreCounted rules p way.moves → At p ms g
        → ups leg ≡ false
        → is_in_use rules p.role leg ≡ false → is_in_use rules q.role leg ≡ false
    way_stays heads ups p q ms g leg way turn c at u un =
        subst (λ (x : Passage S). is_in_use rules x.role leg ≡ false) way.reached
        (all_stay p ms g way.moves leg at way.allowed turn c (way.raised leg ∙ u) un)

-- what each function of a role keeps, its moves keep; and in their turn
use Rattle.law_order.proofs.Vocabulary.{◌≡◌, ◌⊎◌, inl, inr, ℕ, List, [], ◌∷◌, ◌++◌, cond, Bool, true, false, Some, None, Ok, Err, refl, sym, ap, ◌∙◌, subst, append_assoc, IfSome, is_some, list_any, Option, append-nil, or_parts}
use Rattle.rh_shell.specs.declared.stage.Stage.TheVariants as stage
use Rattle.law_moves.proofs.Vocabulary.{by_test, Cookie, Pipe, Named, Leg, Count, Stage, first_stage, Rules, Row, Message, Pdu, Packet, same_leg, Move, Up, HeadCame, PduCame, PacketCame, Puts, IsDrawn, Marks, Pings, OnLeg, Passage, MayMove, AreAllowed, moved, all_moved, started, taken_by, put_by, Stages, none_up, with_stage, stages_after, takes_frames, IsInTurn, AreInTurn, AreInTurnFrom}
use Rattle.law_moves.proofs.Lemmas.{leg_is}
use Rattle.law_moves.specs.Turns.{behind_head}
use Rattle.law_node_streams.proofs.Streams.Staging.{all_stages}
use Rattle.law_node_streams.specs.Streams.{is_head_on}

-- ---- moves

-- a role whatever it was before the move, with the log of moves and of what was put
pub record MovesKeep {S : Type 0} (rules : Rules S) (P : List Move → S → List OnLeg → Type 0)
    : Type 0 where
  pub up : (before : List Move) (s : S) (put : List OnLeg) (leg : Leg) (cookie : Cookie)
      → P before s put → rules.may_up s leg ≡ true
      → P (before ++ Up leg cookie ∷ []) (rules.up s leg cookie) put
  pub head : (before : List Move) (s : S) (put : List OnLeg) (leg : Leg) (text : List ℕ)
      → P before s put → P (before ++ HeadCame leg text ∷ []) (rules.head s leg text).0 put
  pub pdu : (before : List Move) (s : S) (put : List OnLeg) (leg : Leg) (count : Count)
      (bytes : List ℕ) → P before s put
      → P (before ++ PduCame leg count bytes ∷ []) (rules.pdu s leg count bytes).0 put
  pub packet : (before : List Move) (s : S) (put : List OnLeg) (leg : Leg) (count : Count)
      (named : Named) → P before s put
      → P (before ++ PacketCame leg count named ∷ []) (rules.packet s leg count named).0 put
  pub none_put : (before : List Move) (s : S) (put : List OnLeg) (leg : Leg) → P before s put
      → P (before ++ Puts leg ∷ []) s put
  pub put : (before : List Move) (s : S) (log : List OnLeg) (leg : Leg) → P before s log
      → IfSome (rules.put s leg)
      (λ (x : S × Message). P (before ++ Puts leg ∷ []) x.0 (log ++ (leg, x.1) ∷ []))
  pub drawn : (before : List Move) (s : S) (put : List OnLeg) (leg : Leg) → P before s put
      → P (before ++ IsDrawn leg ∷ []) (rules.drawn s leg) put
  pub mark : (before : List Move) (s : S) (put : List OnLeg) (leg : Leg) → P before s put
      → P (before ++ Marks leg ∷ []) (rules.mark s leg) put
  pub ping : (before : List Move) (s : S) (put : List OnLeg) (leg : Leg) → P before s put
      → P (before ++ Pings leg ∷ []) (rules.ping s leg) put

module _ {S : Type 0} where
  by_row : (P : S → List OnLeg → Type 0) (p : Passage S) (leg : Leg) (message : Message)
      (x : S × Row) → P x.0 p.put
      → P (taken_by p leg message x).role (taken_by p leg message x).put
  by_row P p leg message (role, Ok taken) h = h
  by_row P p leg message (role, Err refused) h = h

  by_put : (P : S → List OnLeg → Type 0) (p : Passage S) (leg : Leg)
      (o : Option (S × Message)) → P p.role p.put
      → IfSome o (λ (x : S × Message). P x.0 (p.put ++ (leg, x.1) ∷ []))
      → P (put_by p leg o).role (put_by p leg o).put
  by_put P p leg None h goes = h
  by_put P p leg (Some put) h goes = goes

module _ {S : Type 0} (rules : Rules S) (P : List Move → S → List OnLeg → Type 0)
    (law : MovesKeep rules P) where
  one_keeps : (before : List Move) (p : Passage S) (move : Move) → P before p.role p.put
      → MayMove rules p.role move
      → P (before ++ move ∷ []) (moved rules p move).role (moved rules p move).put
  one_keeps before p (Up leg cookie) h may = law.up before p.role p.put leg cookie h may.1
  one_keeps before p (HeadCame leg text) h may = law.head before p.role p.put leg text h
  one_keeps before p (PduCame leg count bytes) h may =
      by_row (P (before ++ PduCame leg count bytes ∷ [])) p leg (Pdu bytes)
      (rules.pdu p.role leg count bytes) (law.pdu before p.role p.put leg count bytes h)
  one_keeps before p (PacketCame leg count named) h may =
      by_row (P (before ++ PacketCame leg count named ∷ [])) p leg (Packet named)
      (rules.packet p.role leg count named) (law.packet before p.role p.put leg count named h)
  one_keeps before p (Puts leg) h may =
      by_put (P (before ++ Puts leg ∷ [])) p leg (rules.put p.role leg)
      (law.none_put before p.role p.put leg h) (law.put before p.role p.put leg h)
  one_keeps before p (IsDrawn leg) h may = law.drawn before p.role p.put leg h
  one_keeps before p (Marks leg) h may = law.mark before p.role p.put leg h
  one_keeps before p (Pings leg) h may = law.ping before p.role p.put leg h

  moves_keep : (before : List Move) (p : Passage S) (moves : List Move)
      → AreAllowed rules p moves → P before p.role p.put
      → P (before ++ moves) (all_moved rules p moves).role (all_moved rules p moves).put
  moves_keep before p [] allowed h =
      subst (λ (l : List Move). P l p.role p.put) (sym (append-nil before)) h
  moves_keep before p (move ∷ moves) allowed h =
      let q = moved rules p move in
      subst (λ (l : List Move). P l (all_moved rules q moves).role (all_moved rules q moves).put)
      (append_assoc before (move ∷ []) moves)
      (moves_keep (before ++ move ∷ []) q moves allowed.1
      (one_keeps before p move h allowed.0))

  pub all_keep : (first : S) (moves : List Move) → AreAllowed rules (started first) moves
      → P [] first []
      → P moves (all_moved rules (started first) moves).role
      (all_moved rules (started first) moves).put
  all_keep first moves allowed h = moves_keep [] (started first) moves allowed h

-- ---- moves in their turn

pub record TurnsKeep {S : Type 0} (rules : Rules S) (P : Stages → S → List OnLeg → Type 0)
    : Type 0 where
  pub up : (g : Stages) (s : S) (put : List OnLeg) (leg : Leg) (cookie : Cookie) → P g s put
      → rules.may_up s leg ≡ true → g leg ≡ None
      → P (with_stage leg (first_stage (rules.pipe s leg)) g) (rules.up s leg cookie) put
  pub head : (g : Stages) (s : S) (put : List OnLeg) (leg : Leg) (text : List ℕ) → P g s put
      → g leg ≡ Some stage.Head
      → P (with_stage leg (behind_head (rules.head s leg text).1) g) (rules.head s leg text).0 put
  pub pdu : (g : Stages) (s : S) (put : List OnLeg) (leg : Leg) (count : Count) (bytes : List ℕ)
      → P g s put → takes_frames (g leg) ≡ true → P g (rules.pdu s leg count bytes).0 put
  pub packet : (g : Stages) (s : S) (put : List OnLeg) (leg : Leg) (count : Count) (named : Named)
      → P g s put → takes_frames (g leg) ≡ true → P g (rules.packet s leg count named).0 put
  pub put : (g : Stages) (s : S) (log : List OnLeg) (leg : Leg) → P g s log
      → IfSome (rules.put s leg) (λ (x : S × Message). P g x.0 (log ++ (leg, x.1) ∷ []))
  pub drawn : (g : Stages) (s : S) (put : List OnLeg) (leg : Leg) → P g s put
      → P g (rules.drawn s leg) put
  pub mark : (g : Stages) (s : S) (put : List OnLeg) (leg : Leg) → P g s put
      → rules.only_marks s leg ≡ true → P g (rules.mark s leg) put
  pub ping : (g : Stages) (s : S) (put : List OnLeg) (leg : Leg) → P g s put
      → is_some (rules.ping_after s leg) ≡ true → P g (rules.ping s leg) put

module _ {S : Type 0} (rules : Rules S) (P : Stages → S → List OnLeg → Type 0)
    (law : TurnsKeep rules P) where
  turn_keeps : (g : Stages) (p : Passage S) (move : Move) → P g p.role p.put
      → MayMove rules p.role move → IsInTurn rules p.role g move
      → P (stages_after rules p.role g move) (moved rules p move).role (moved rules p move).put
  turn_keeps g p (Up leg cookie) h may turn =
      law.up g p.role p.put leg cookie h may.1 turn
  turn_keeps g p (HeadCame leg text) h may turn = law.head g p.role p.put leg text h turn
  turn_keeps g p (PduCame leg count bytes) h may turn =
      by_row (P g) p leg (Pdu bytes) (rules.pdu p.role leg count bytes)
      (law.pdu g p.role p.put leg count bytes h turn)
  turn_keeps g p (PacketCame leg count named) h may turn =
      by_row (P g) p leg (Packet named) (rules.packet p.role leg count named)
      (law.packet g p.role p.put leg count named h turn)
  turn_keeps g p (Puts leg) h may turn =
      by_put (P g) p leg (rules.put p.role leg) h (law.put g p.role p.put leg h)
  turn_keeps g p (IsDrawn leg) h may turn = law.drawn g p.role p.put leg h
  turn_keeps g p (Marks leg) h may turn = law.mark g p.role p.put leg h may.1
  turn_keeps g p (Pings leg) h may turn = law.ping g p.role p.put leg h turn

  turns_keep : (g : Stages) (p : Passage S) (moves : List Move) → AreAllowed rules p moves
      → AreInTurnFrom rules p g moves → P g p.role p.put
      → P (all_stages rules p g moves) (all_moved rules p moves).role (all_moved rules p moves).put
  turns_keep g p [] allowed turn h = h
  turns_keep g p (move ∷ moves) allowed turn h =
      turns_keep (stages_after rules p.role g move) (moved rules p move) moves allowed.1 turn.1
      (turn_keeps g p move h allowed.0 turn.0)

  pub all_turns_keep : (first : S) (moves : List Move) → AreAllowed rules (started first) moves
      → AreInTurn rules first moves → P none_up first []
      → P (all_stages rules (started first) none_up moves)
      (all_moved rules (started first) moves).role (all_moved rules (started first) moves).put
  all_turns_keep first moves allowed turn h =
      turns_keep none_up (started first) moves allowed turn h

-- ---- stages

-- another leg's stays
pub stage_stays : (leg other : Leg) (next : Stage) (g : Stages) → same_leg leg other ≡ false
    → with_stage leg next g other ≡ g other
stage_stays leg other next g e =
    ap (λ (t : Bool). cond t (Some next) (g other)) e

-- a fact of what comes next on each leg
pub stage_each : (P : Option Stage → Type 0) (leg other : Leg) (next : Stage) (g : Stages)
    → (leg ≡ other → P (Some next)) → (same_leg leg other ≡ false → P (g other))
    → P (with_stage leg next g other)
stage_each P leg other next g here there =
    by_test P (same_leg leg other) (Some next) (g other) (λ e. here (leg_is leg other e)) there

-- no head came: a leg did not come up, or what comes first there is to come
abbrev pub IsUnheard : Option Pipe → Option Stage → Type 0
IsUnheard pipe next = (next ≡ None) ⊎ (next ≡ Some (first_stage pipe))

module _ {S : Type 0} (rules : Rules S) (leg : Leg) (pipe : Option Pipe) where
  unheard_by : (p : Passage S) (g : Stages) (move : Move) → rules.pipe p.role leg ≡ pipe
      → is_head_on leg move ≡ false → IsUnheard pipe (g leg)
      → IsUnheard pipe (stages_after rules p.role g move leg)
  unheard_by p g (Up other cookie) e none h =
      stage_each (IsUnheard pipe) other leg (first_stage (rules.pipe p.role other)) g
      (λ same. inr (ap (λ (l : Leg). Some (first_stage (rules.pipe p.role l))) same
      ∙ ap (λ (o : Option Pipe). Some (first_stage o)) e))
      (λ other. h)
  unheard_by p g (HeadCame other text) e none h =
      subst (IsUnheard pipe)
      (sym (stage_stays other leg (behind_head (rules.head p.role other text).1) g none)) h
  unheard_by p g (PduCame other count bytes) e none h = h
  unheard_by p g (PacketCame other count named) e none h = h
  unheard_by p g (Puts other) e none h = h
  unheard_by p g (IsDrawn other) e none h = h
  unheard_by p g (Marks other) e none h = h
  unheard_by p g (Pings other) e none h = h

  unheard_from : (p : Passage S) (g : Stages) (moves : List Move)
      → ((more : List Move) → AreAllowed rules p more
      → rules.pipe (all_moved rules p more).role leg ≡ pipe)
      → AreAllowed rules p moves → list_any (is_head_on leg) moves ≡ false
      → IsUnheard pipe (g leg) → IsUnheard pipe (all_stages rules p g moves leg)
  unheard_from p g [] pipes allowed none h = h
  unheard_from p g (move ∷ moves) pipes allowed none h =
      let parts = or_parts (is_head_on leg move) (list_any (is_head_on leg) moves) none in
      unheard_from (moved rules p move) (stages_after rules p.role g move) moves
      (λ more may. pipes (move ∷ more) (allowed.0, may)) allowed.1 parts.1
      (unheard_by p g move (pipes [] tt) parts.0 h)

  pub unheard : (first : S) (moves : List Move)
      → ((more : List Move) → AreAllowed rules (started first) more
      → rules.pipe (all_moved rules (started first) more).role leg ≡ pipe)
      → AreAllowed rules (started first) moves → list_any (is_head_on leg) moves ≡ false
      → IsUnheard pipe (all_stages rules (started first) none_up moves leg)
  unheard first moves pipes allowed none =
      unheard_from (started first) none_up moves pipes allowed none (inl refl)

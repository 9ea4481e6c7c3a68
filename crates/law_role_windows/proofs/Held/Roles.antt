-- what each function of a role keeps, its moves keep, and whatever happens at its node
use Rattle.law_order.proofs.Vocabulary.{ℕ, List, [], ◌∷◌, Some, None, Ok, Err, refl, subst, IfSome, Option, Result}
use Rattle.law_moves.proofs.Vocabulary.{IsPdu, Cookie, Named, Leg, Count, GiveRefused, Rules, Acts, Row, Message, Pdu, Packet, Shell, Move, Up, HeadCame, PduCame, PacketCame, Puts, IsDrawn, Marks, Pings, Passage, MayMove, AreAllowed, moved, all_moved, started, taken_by, put_by, EndMove, Moves, Gives, Takes, Closes, Recycles, EndPassage, MayEndMove, AreAllowedAtEnd, end_moved, all_end_moved, end_started, end_now_at, given_by, with_first, Follows, EndFollows}
use Rattle.law_moves.proofs.Lemmas.{leads_keep}

pub record RulesKeep {S : Type 0} (rules : Rules S) (P : S → Type 0) : Type 0 where
  pub up : (s : S) (leg : Leg) (cookie : Cookie) → P s → P (rules.up s leg cookie)
  pub head : (s : S) (leg : Leg) (text : List ℕ) → P s → P (rules.head s leg text).0
  pub pdu : (s : S) (leg : Leg) (count : Count) (bytes : List ℕ) → IsPdu bytes → P s
      → P (rules.pdu s leg count bytes).0
  pub packet : (s : S) (leg : Leg) (count : Count) (named : Named) → P s
      → P (rules.packet s leg count named).0
  pub put : (s : S) (leg : Leg) → P s → IfSome (rules.put s leg) (λ (put : S × Message). P put.0)
  pub drawn : (s : S) (leg : Leg) → P s → P (rules.drawn s leg)
  pub mark : (s : S) (leg : Leg) → P s → P (rules.mark s leg)
  pub ping : (s : S) (leg : Leg) → P s → P (rules.ping s leg)

pub record ActsKeep {S : Type 0} (acts : Acts S) (P : S → Type 0) : Type 0 where
  pub give : (s : S) (pdu : List ℕ) → P s → P (acts.give s pdu).0
  pub take : (s : S) → P s → P (acts.take s)
  pub close : (s : S) → P s → P (acts.close s)
  pub recycle : (s : S) → P s → P (acts.recycle s).0

-- ---- the role behind a move

by_row : {S : Type 0} (P : S → Type 0) (p : Passage S) (leg : Leg) (message : Message)
    (x : S × Row) → P x.0 → P (taken_by p leg message x).role
by_row P p leg message (role, Ok taken) h = h
by_row P p leg message (role, Err refused) h = h

by_put : {S : Type 0} (P : S → Type 0) (p : Passage S) (leg : Leg) (o : Option (S × Message))
    → P p.role → IfSome o (λ (put : S × Message). P put.0) → P (put_by p leg o).role
by_put P p leg None h goes = h
by_put P p leg (Some put) h goes = goes

by_given : {S : Type 0} (P : S → Type 0) (p : EndPassage S) (pdu : List ℕ)
    (x : S × Result (Unit {0}) GiveRefused) → P x.0 → P (given_by p pdu x).passage.role
by_given P p pdu (role, Ok accepted) h = h
by_given P p pdu (role, Err refused) h = h

by_first : {S : Type 0} (P : S → Type 0) (p : EndPassage S) (pdus : List (List ℕ))
    → P p.passage.role → P (with_first p pdus).passage.role
by_first P p [] h = h
by_first P p (pdu ∷ pdus) h = h

-- ---- moves

module _ {S : Type 0} (rules : Rules S) (P : S → Type 0) (law : RulesKeep rules P) where
  move_keeps : (p : Passage S) (move : Move) → P p.role → MayMove rules p.role move
      → P (moved rules p move).role
  move_keeps p (Up leg cookie) h may = law.up p.role leg cookie h
  move_keeps p (HeadCame leg text) h may = law.head p.role leg text h
  move_keeps p (PduCame leg count bytes) h may =
      by_row P p leg (Pdu bytes) (rules.pdu p.role leg count bytes)
      (law.pdu p.role leg count bytes may.1 h)
  move_keeps p (PacketCame leg count named) h may =
      by_row P p leg (Packet named) (rules.packet p.role leg count named)
      (law.packet p.role leg count named h)
  move_keeps p (Puts leg) h may =
      by_put P p leg (rules.put p.role leg) h (law.put p.role leg h)
  move_keeps p (IsDrawn leg) h may = law.drawn p.role leg h
  move_keeps p (Marks leg) h may = law.mark p.role leg h
  move_keeps p (Pings leg) h may = law.ping p.role leg h

  pub moves_keep : (s : S) (moves : List Move) → AreAllowed rules (started s) moves → P s
      → P (all_moved rules (started s) moves).role
  moves_keep s moves allowed h =
      leads_keep rules (λ (p : Passage S). P p.role) move_keeps (started s)
      (all_moved rules (started s) moves)
      (record { moves = moves; allowed = allowed; reached = refl }) h

  pub events_keep : (s : S) (node : Shell S) → Follows rules (started s) node → P s
      → P node.role
  events_keep s node f h =
      subst P f.role
      (leads_keep rules (λ (p : Passage S). P p.role) move_keeps (started s) f.passage f.leads h)

  -- ---- at an end

  module _ (acts : Acts S) (calls : ActsKeep acts P) where
    end_move_keeps : (p : EndPassage S) (move : EndMove) → P p.passage.role
        → MayEndMove rules p.passage.role move → P (end_moved rules acts p move).passage.role
    end_move_keeps p (Moves move) h may = move_keeps p.passage move h may
    end_move_keeps p (Gives pdu) h may =
        by_given P p pdu (acts.give p.passage.role pdu) (calls.give p.passage.role pdu h)
    end_move_keeps p Takes h may =
        by_first P (end_now_at p (acts.take p.passage.role))
        (acts.line p.passage.role).current.pdus (calls.take p.passage.role h)
    end_move_keeps p Closes h may = calls.close p.passage.role h
    end_move_keeps p Recycles h may = calls.recycle p.passage.role h

    all_keep : (p : EndPassage S) (moves : List EndMove) → AreAllowedAtEnd rules acts p moves
        → P p.passage.role → P (all_end_moved rules acts p moves).passage.role
    all_keep p [] allowed h = h
    all_keep p (move ∷ moves) allowed h =
        all_keep (end_moved rules acts p move) moves allowed.1 (end_move_keeps p move h allowed.0)

    pub end_moves_keep : (s : S) (moves : List EndMove)
        → AreAllowedAtEnd rules acts (end_started s) moves → P s
        → P (all_end_moved rules acts (end_started s) moves).passage.role
    end_moves_keep s moves allowed h = all_keep (end_started s) moves allowed h

    pub end_events_keep : (s : S) (node : Shell S) → EndFollows rules acts (end_started s) node
        → P s → P node.role
    end_events_keep s node f h =
        subst P f.role
        (subst (λ (p : EndPassage S). P p.passage.role) f.leads.reached
        (all_keep (end_started s) f.leads.moves f.leads.allowed h))

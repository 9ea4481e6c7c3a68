-- where each function of a role leaves the legs done that were done, its moves leave unused what
-- was
use Rattle.law_order.proofs.Vocabulary.{◌≡◌, ℕ, ◌&&◌, List, [], ◌∷◌, Bool, true, false, not, Some, None, refl, if◌then◌else◌, IfSome, IsTrue, Option}
use Rattle.law_moves.proofs.Vocabulary.{by_test, Cookie, Named, Leg, Count, is_ended, Rules, Acts, Row, Message, Pdu, Packet, same_leg, Move, Up, HeadCame, PduCame, PacketCame, Puts, IsDrawn, Marks, Pings, Passage, started, moved, all_moved, put_by, MayMove, AreAllowed, EndMove, Moves, Gives, Takes, Closes, Recycles, EndPassage, end_started, end_moved, all_end_moved, end_now_at, MayEndMove, AreAllowedAtEnd, is_at_work, is_in_use}
use Rattle.law_node_causes.proofs.MoveRoles.{by_row, by_given, by_first}
use Rattle.law_node_streams.specs.Streams.{is_up_on, StaysUnused, is_end_up_on, StaysUnusedAtEnd}

-- ---- what is asked of a role

-- a leg that was done is done
abbrev pub StaysDone : {S : Type 0} → Rules S → S → S → Type 0
StaysDone rules s t = (leg : Leg) → rules.is_done s leg ≡ true → rules.is_done t leg ≡ true

-- and the work, where that was
pub record Keeps {S : Type 0} (rules : Rules S) (s t : S) : Type 0 where
  pub ended : is_ended (rules.phase s) ≡ true → is_ended (rules.phase t) ≡ true
  pub done : StaysDone rules s t

-- each function leaves done what was; but one that comes up
pub record RoleKeeps {S : Type 0} (rules : Rules S) (Holds : S → Type 0) : Type 0 where
  pub kept : (p : Passage S) (move : Move) → Holds p.role → MayMove rules p.role move
      → Holds (moved rules p move).role
  pub up : (s : S) (leg : Leg) (cookie : Cookie) (other : Leg) → Holds s
      → IsTrue (is_at_work rules s) → IsTrue (rules.may_up s leg) → same_leg leg other ≡ false
      → rules.is_done s other ≡ true → rules.is_done (rules.up s leg cookie) other ≡ true
  pub head : (s : S) (leg : Leg) (text : List ℕ) → Holds s → IsTrue (is_in_use rules s leg)
      → StaysDone rules s (rules.head s leg text).0
  pub pdu : (s : S) (leg : Leg) (count : Count) (bytes : List ℕ) → Holds s
      → IsTrue (is_in_use rules s leg) → StaysDone rules s (rules.pdu s leg count bytes).0
  pub packet : (s : S) (leg : Leg) (count : Count) (named : Named) → Holds s
      → IsTrue (is_in_use rules s leg) → StaysDone rules s (rules.packet s leg count named).0
  pub put : (s : S) (leg : Leg) → Holds s → IsTrue (is_in_use rules s leg)
      → IfSome (rules.put s leg) (λ (put : S × Message). StaysDone rules s put.0)
  pub drawn : (s : S) (leg : Leg) → Holds s → Keeps rules s (rules.drawn s leg)
  pub mark : (s : S) (leg : Leg) → Holds s → IsTrue (is_at_work rules s)
      → IsTrue (rules.only_marks s leg) → StaysDone rules s (rules.mark s leg)
  pub ping : (s : S) (leg : Leg) → Holds s → Keeps rules s (rules.ping s leg)

-- so do its calls as an end
pub record EndKeeps {S : Type 0} (rules : Rules S) (acts : Acts S) (Holds : S → Type 0)
    : Type 0 where
  pub kept : (p : EndPassage S) (move : EndMove) → Holds p.passage.role
      → MayEndMove rules p.passage.role move → Holds (end_moved rules acts p move).passage.role
  pub give : (s : S) (pdu : List ℕ) → Holds s → Keeps rules s (acts.give s pdu).0
  pub take : (s : S) → Holds s → Keeps rules s (acts.take s)
  pub close : (s : S) → Holds s → Keeps rules s (acts.close s)
  pub recycle : (s : S) → Holds s → Keeps rules s (acts.recycle s).0

-- ---- legs in use

in_use : (a b : Bool) → IsTrue (not a && b) → not a ≡ true
in_use true b h = absurd cc
in_use false b h = refl

at_work : (a c : Bool) → not a ≡ true → a ≡ true → c ≡ true
at_work true c h e = absurd cc
at_work false c h e = absurd cc

not_in_use : (a b c d : Bool) → (a ≡ true → c ≡ true) → (b ≡ true → d ≡ true)
    → (not a && not b) ≡ false → (not c && not d) ≡ false
not_in_use true b c d ended done h = rw (ended refl) refl
not_in_use false true true d ended done h = refl
not_in_use false true false d ended done h = rw (done refl) refl
not_in_use false false c d ended done h = absurd cc

module _ {S : Type 0} (rules : Rules S) where
  keeps_unused : (s t : S) (leg : Leg) → Keeps rules s t → is_in_use rules s leg ≡ false
      → is_in_use rules t leg ≡ false
  keeps_unused s t leg keeps h =
      not_in_use (is_ended (rules.phase s)) (rules.is_done s leg) (is_ended (rules.phase t))
      (rules.is_done t leg) keeps.ended (keeps.done leg) h

  stays_unused : (s t : S) (leg : Leg) → is_at_work rules s ≡ true
      → (rules.is_done s leg ≡ true → rules.is_done t leg ≡ true)
      → is_in_use rules s leg ≡ false → is_in_use rules t leg ≡ false
  stays_unused s t leg work done h =
      not_in_use (is_ended (rules.phase s)) (rules.is_done s leg) (is_ended (rules.phase t))
      (rules.is_done t leg)
      (at_work (is_ended (rules.phase s)) (is_ended (rules.phase t)) work) done h

  pub of_use : (s : S) (leg : Leg) → IsTrue (is_in_use rules s leg) → is_at_work rules s ≡ true
  of_use s leg may = in_use (is_ended (rules.phase s)) (not (rules.is_done s leg)) may

-- ---- the role behind a move

-- of two answers
pub either : {S : Type 0} (P : S → Type 0) (b : Bool) (x y : S × Row) → P x.0 → P y.0
    → P (if b then x else y).0
either {S} P b x y then_so else_so =
    by_test (λ (z : S × Row). P z.0) b x y (λ e. then_so) (λ e. else_so)

pub by_put : {S : Type 0} (P : S → Type 0) (p : Passage S) (leg : Leg)
    (o : Option (S × Message)) → P p.role → IfSome o (λ (put : S × Message). P put.0)
    → P (put_by p leg o).role
by_put P p leg None same h = same
by_put P p leg (Some put) same h = h

if_some : {S : Type 0} (P Q : S → Type 0) → ((t : S) → P t → Q t) → (o : Option (S × Message))
    → IfSome o (λ (put : S × Message). P put.0) → IfSome o (λ (put : S × Message). Q put.0)
if_some P Q so None h = tt
if_some P Q so (Some put) h = so put.0 h

-- ---- moves

module _ {S : Type 0} (rules : Rules S) (Holds : S → Type 0) (law : RoleKeeps rules Holds) where
  abbrev Unused : Leg → S → Type 0
  Unused leg s = is_in_use rules s leg ≡ false

  move_keeps : (p : Passage S) (move : Move) (leg : Leg) → Holds p.role
      → MayMove rules p.role move → is_up_on leg move ≡ false
      → is_in_use rules p.role leg ≡ false
      → is_in_use rules (moved rules p move).role leg ≡ false
  move_keeps p (Up other cookie) leg holds may e h =
      stays_unused rules p.role (rules.up p.role other cookie) leg may.0
      (law.up p.role other cookie leg holds may.0 may.1 e) h
  move_keeps p (HeadCame other text) leg holds may e h =
      stays_unused rules p.role (rules.head p.role other text).0 leg
      (of_use rules p.role other may) (law.head p.role other text holds may leg) h
  move_keeps p (PduCame other count bytes) leg holds may e h =
      by_row (Unused leg) p other (Pdu bytes) (rules.pdu p.role other count bytes)
      (stays_unused rules p.role (rules.pdu p.role other count bytes).0 leg
      (of_use rules p.role other may.0) (law.pdu p.role other count bytes holds may.0 leg) h)
  move_keeps p (PacketCame other count named) leg holds may e h =
      by_row (Unused leg) p other (Packet named) (rules.packet p.role other count named)
      (stays_unused rules p.role (rules.packet p.role other count named).0 leg
      (of_use rules p.role other may) (law.packet p.role other count named holds may leg) h)
  move_keeps p (Puts other) leg holds may e h =
      by_put (Unused leg) p other (rules.put p.role other) h
      (if_some (StaysDone rules p.role) (Unused leg)
      (λ t done. stays_unused rules p.role t leg (of_use rules p.role other may) (done leg) h)
      (rules.put p.role other) (law.put p.role other holds may))
  move_keeps p (IsDrawn other) leg holds may e h =
      keeps_unused rules p.role (rules.drawn p.role other) leg (law.drawn p.role other holds) h
  move_keeps p (Marks other) leg holds may e h =
      stays_unused rules p.role (rules.mark p.role other) leg may.0
      (law.mark p.role other holds may.0 may.1 leg) h
  move_keeps p (Pings other) leg holds may e h =
      keeps_unused rules p.role (rules.ping p.role other) leg (law.ping p.role other holds) h

  holds_all : (p : Passage S) (moves : List Move) → Holds p.role → AreAllowed rules p moves
      → Holds (all_moved rules p moves).role
  holds_all p [] holds may = holds
  holds_all p (move ∷ moves) holds may =
      holds_all (moved rules p move) moves (law.kept p move holds may.0) may.1

  pub role_stays_unused : (first : S) → Holds first → StaysUnused rules first
  role_stays_unused first holds moves move leg allowed =
      move_keeps (all_moved rules (started first) moves) move leg
      (holds_all (started first) moves holds allowed)

  -- ---- and those of an end

  module _ (acts : Acts S) (calls : EndKeeps rules acts Holds) where
    end_move_keeps : (p : EndPassage S) (move : EndMove) (leg : Leg) → Holds p.passage.role
        → MayEndMove rules p.passage.role move → is_end_up_on leg move ≡ false
        → is_in_use rules p.passage.role leg ≡ false
        → is_in_use rules (end_moved rules acts p move).passage.role leg ≡ false
    end_move_keeps p (Moves move) leg holds may e h = move_keeps p.passage move leg holds may e h
    end_move_keeps p (Gives bytes) leg holds may e h =
        let x = acts.give p.passage.role bytes in
        by_given (Unused leg) p bytes x
        (keeps_unused rules p.passage.role x.0 leg (calls.give p.passage.role bytes holds) h)
    end_move_keeps p Takes leg holds may e h =
        let t = acts.take p.passage.role in
        by_first (Unused leg) (end_now_at p t) (acts.line p.passage.role).current.pdus
        (keeps_unused rules p.passage.role t leg (calls.take p.passage.role holds) h)
    end_move_keeps p Closes leg holds may e h =
        keeps_unused rules p.passage.role (acts.close p.passage.role) leg
        (calls.close p.passage.role holds) h
    end_move_keeps p Recycles leg holds may e h =
        keeps_unused rules p.passage.role (acts.recycle p.passage.role).0 leg
        (calls.recycle p.passage.role holds) h

    holds_all_at_end : (p : EndPassage S) (moves : List EndMove) → Holds p.passage.role
        → AreAllowedAtEnd rules acts p moves
        → Holds (all_end_moved rules acts p moves).passage.role
    holds_all_at_end p [] holds may = holds
    holds_all_at_end p (move ∷ moves) holds may =
        holds_all_at_end (end_moved rules acts p move) moves (calls.kept p move holds may.0) may.1

    pub end_stays_unused : (first : S) → Holds first → StaysUnusedAtEnd rules acts first
    end_stays_unused first holds moves move leg allowed =
        end_move_keeps (all_end_moved rules acts (end_started first) moves) move leg
        (holds_all_at_end (end_started first) moves holds allowed)

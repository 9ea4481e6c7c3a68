-- what an event is to a leg
use Rattle.law_order.proofs.Vocabulary.{◌≡◌, ℕ, List, [], ◌∷◌, ◌++◌, cond, Bool, true, false, Some, None, refl, ap, ◌∙◌, is_some, list_any, Option, append-nil}
use Rattle.law_moves.proofs.Vocabulary.{Pipe, Refusal, Unavailable, refusal_text, Leg, Course, Going, Closed, Refusing, Stage, Stop, Drawn, Turn, NearEnd, is_marked, new_end, Rules, Message, same_leg, on_leg, Move, Passage, OnLeg, of_leg}
use Rattle.law_moves.proofs.Lemmas.{of_append}
use Rattle.law_node_history.proofs.Lemmas.{same_itself}
use Rattle.law_node_streams.proofs.Streams.Draws.{Drew}
use Rattle.law_node_streams.proofs.Streams.Hears.{Heard}
use Rattle.law_node_streams.proofs.Streams.Staging.{IsNext}
use Rattle.law_node_streams.specs.Streams.{is_head_on}

-- ---- what a node has of a leg

pub data Seat : Type 0 where
  Nowhere : Seat
  Sits : NearEnd → Seat
  -- so much of a refusal is left to draw
  Answers : List ℕ → Seat

abbrev pub seat_by : Leg → Course → Option NearEnd → Seat
seat_by leg Going None = Nowhere
seat_by leg Going (Some end) = Sits end
seat_by leg (Closed why) o = Nowhere
seat_by leg (Refusing why client rest) o = cond (same_leg client leg) (Answers rest) Nowhere

-- an end that is left as it was, or marked
pub record IsStill (a b : NearEnd) : Type 0 where
  pub leg : b.leg ≡ a.leg
  pub pipe : b.pipe ≡ a.pipe
  pub intake : b.intake ≡ a.intake
  pub begun : b.begun ≡ a.begun
  pub count : b.count ≡ a.count
  pub standing : is_marked b.standing ≡ false → is_marked a.standing ≡ false

pub record WasSeated (s : Seat) (end : NearEnd) : Type 0 where
  pub before : NearEnd
  pub seat : s ≡ Sits before
  pub still : IsStill before end

abbrev pub IsLeft : Seat → Seat → Type 0
IsLeft s Nowhere = Unit {0}
IsLeft s (Sits end) = WasSeated s end
IsLeft s (Answers rest) = s ≡ Answers rest

-- what the end takes next is what comes next on the leg, which came up
abbrev pub IsOn : Option Stage → Seat → Type 0
IsOn next Nowhere = Unit {0}
IsOn next (Sits end) = IsNext next end.intake.stage × (is_some next ≡ true)
IsOn next (Answers rest) = Unit {0}

-- nothing comes on a leg that did not come up
pub record IsStaged (next : Option Stage) (s : Seat) (up : Bool) : Type 0 where
  pub on : IsOn next s
  pub none : up ≡ false → next ≡ None

-- no bytes are lost of a leg that has an end
abbrev pub IsSilent : List ℕ → Seat → Type 0
IsSilent bytes Nowhere = Unit {0}
IsSilent bytes (Sits end) = bytes ≡ []
IsSilent bytes (Answers rest) = Unit {0}

-- behind a turn
abbrev pub seat_refused : Option Refusal → Seat
seat_refused None = Nowhere
seat_refused (Some refusal) = Answers (refusal_text refusal)

abbrev pub seat_stopped : NearEnd → Option Stop → Seat
seat_stopped end None = Sits end
seat_stopped end (Some why) = seat_refused why.refusal

-- ---- logs

of_on : (leg other : Leg) (ms : List Message)
    → of_leg leg (on_leg other ms) ≡ cond (same_leg other leg) ms []
of_on leg other [] = by (same_leg other leg)
  where
    by : (t : Bool) → [] ≡ cond {A = List Message} t [] []
    by true = refl
    by false = refl
of_on leg other (m ∷ ms) = by (same_leg other leg) (of_on leg other ms)
  where
    by : (t : Bool) → of_leg leg (on_leg other ms) ≡ cond t ms []
        → cond t (m ∷ of_leg leg (on_leg other ms)) (of_leg leg (on_leg other ms))
        ≡ cond t (m ∷ ms) []
    by true e = ap (λ (l : List Message). m ∷ l) e
    by false e = e

-- more messages on a leg, and on another one
pub more_here : (leg : Leg) (log old : List OnLeg) (ms : List Message) (at : Leg)
    → log ≡ old ++ on_leg at ms → at ≡ leg → of_leg leg log ≡ of_leg leg old ++ ms
more_here leg log old ms at is same =
    ap (of_leg leg) is ∙ of_append leg old (on_leg at ms)
    ∙ ap (λ (l : List Message). of_leg leg old ++ l)
    (of_on leg at ms ∙ ap (λ t. cond t ms [])
    (ap (λ (l : Leg). same_leg l leg) same ∙ same_itself leg))

pub more_there : (leg : Leg) (log old : List OnLeg) (ms : List Message) (at : Leg)
    → log ≡ old ++ on_leg at ms → same_leg at leg ≡ false → of_leg leg log ≡ of_leg leg old
more_there leg log old ms at is other =
    ap (of_leg leg) is ∙ of_append leg old (on_leg at ms)
    ∙ ap (λ (l : List Message). of_leg leg old ++ l)
    (of_on leg at ms ∙ ap (λ t. cond t ms []) other)
    ∙ append-nil (of_leg leg old)

-- ---- an event

module _ {S : Type 0} (rules : Rules S) (pipe : Option Pipe) (leg : Leg) where
  -- nothing is logged there
  pub record IsQuiet (p q : Passage S) (moves : List Move) (out : List ℕ) : Type 0 where
    pub came : of_leg leg q.came ≡ of_leg leg p.came
    pub put : of_leg leg q.put ≡ of_leg leg p.put
    pub headless : list_any (is_head_on leg) moves ≡ false
    pub out_is : out ≡ []

  pub record IsAside (p q : Passage S) (moves : List Move) (s t : Seat) (bytes out : List ℕ)
      : Type 0 where
    pub quiet : IsQuiet p q moves out
    pub left : IsLeft s t
    pub silent : IsSilent bytes t

  pub record Hearing (p q : Passage S) (moves : List Move) (s t : Seat) (bytes out : List ℕ)
      : Type 0 where
    pub end : NearEnd
    pub before : s ≡ Sits end
    pub turn : Turn S
    pub heard : Heard rules p end turn bytes
    pub passage : heard.passage ≡ q
    pub moves_are : heard.way.moves ≡ moves
    pub after : t ≡ seat_stopped turn.end turn.stop
    pub out_is : out ≡ []

  pub record Drawing (p q : Passage S) (moves : List Move) (s t : Seat) (bytes out : List ℕ)
      : Type 0 where
    pub end : NearEnd
    pub before : s ≡ Sits end
    pub drawn : Drawn S
    pub drew : Drew rules p end drawn
    pub passage : drew.passage ≡ q
    pub headless : list_any (is_head_on leg) moves ≡ false
    pub after : t ≡ Sits drawn.end
    pub bytes_are : bytes ≡ []
    pub out_is : out ≡ drawn.bytes

  pub record Answered (p q : Passage S) (moves : List Move) (s t : Seat) (bytes out : List ℕ)
      : Type 0 where
    pub rest : List ℕ
    pub left : List ℕ
    pub before : s ≡ Answers rest
    pub after : t ≡ Answers left
    pub cut : rest ≡ out ++ left
    pub passage : q ≡ p
    pub headless : list_any (is_head_on leg) moves ≡ false

  pub record Coming (p q : Passage S) (moves : List Move) (t : Seat) (bytes out : List ℕ)
      (up later : Bool) : Type 0 where
    pub quiet : IsQuiet p q moves out
    pub bytes_are : bytes ≡ []
    pub down : up ≡ false
    pub raised : later ≡ true
    pub now : ℕ
    pub after : t ≡ Sits (new_end leg pipe now)

  pub record Unreached (p q : Passage S) (moves : List Move) (s t : Seat) (bytes out : List ℕ)
      : Type 0 where
    pub quiet : IsQuiet p q moves out
    pub wanted : Leg
    pub wants : rules.wants p.role wanted ≡ true
    pub answers : rules.answers_on p.role ≡ Some leg
    pub end : NearEnd
    pub before : s ≡ Sits end
    pub after : t ≡ Answers (refusal_text Unavailable)

  pub data Turns (p q : Passage S) (moves : List Move) (s t : Seat) (bytes out : List ℕ)
      (up later : Bool) : Type 0 where
    Passes : IsAside p q moves s t bytes out → Turns p q moves s t bytes out up later
    Hears : Hearing p q moves s t bytes out → Turns p q moves s t bytes out up later
    Draws : Drawing p q moves s t bytes out → Turns p q moves s t bytes out up later
    Tells : Answered p q moves s t bytes out → Turns p q moves s t bytes out up later
    Comes : Coming p q moves t bytes out up later → Turns p q moves s t bytes out up later
    Fails : Unreached p q moves s t bytes out → Turns p q moves s t bytes out up later

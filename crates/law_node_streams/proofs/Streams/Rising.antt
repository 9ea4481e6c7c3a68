-- legs that come up by the moves of an end, with their cookies
use Rattle.law_order.proofs.Vocabulary.{◌≡◌, inl, inr, List, [], ◌∷◌, ◌++◌, append_assoc, cond, Bool, true, false, Some, None, refl, sym, subst, AllByRecursion, Option, append-nil}
use Rattle.rh_shell.specs.declared.stage.Stage.TheVariants as stage
use Rattle.law_moves.proofs.Vocabulary.{Cookie, Leg, Stage, first_stage, Rules, same_leg, Move, Up, HeadCame, PduCame, PacketCame, Puts, IsDrawn, Marks, Pings, EndMove, Moves, Gives, Takes, Closes, Recycles, Event, ComesUp, AreUpFirst, CameUpWith, HasComeUp, IsUpFirst, WasUp, Stages, IsInTurn, stages_after, takes_frames, with_stage}
use Rattle.law_moves.proofs.Lemmas.{leg_is}
use Rattle.law_moves.specs.Turns.{behind_head}
use Rattle.law_node_streams.proofs.Streams.Ways.{Lifts}
use Rattle.law_node_streams.specs.Streams.{ComesUpWith, IsCookie, RisesWith}

-- ---- cookies

-- if a leg comes up by the move of an end, it and its cookie have this
abbrev pub IsLifted : (Leg → Cookie → Type 0) → EndMove → Type 0
IsLifted With (Moves move) = Lifts With move
IsLifted With act = Unit {0}

pub lifted_with : (With : Leg → Cookie → Type 0) (moves : List EndMove) (leg : Leg)
    (cookie : Cookie) → AllByRecursion (IsLifted With) moves → HasComeUp moves leg cookie
    → With leg cookie
lifted_with With [] leg cookie all rose = absurd rose
lifted_with With (move ∷ moves) leg cookie all (inl is) = subst (IsLifted With) is all.0
lifted_with With (move ∷ moves) leg cookie all (inr rest) =
    lifted_with With moves leg cookie all.1 rest

pub comes_here : (before later : List Event) (event : Event) (leg : Leg) (cookie : Cookie)
    → event ≡ ComesUp leg cookie → CameUpWith (before ++ event ∷ later) leg cookie
comes_here [] later event leg cookie is = inl is
comes_here (one ∷ before) later event leg cookie is =
    inr (comes_here before later event leg cookie is)

pub came_of : (events : List Event) (leg : Leg) (cookie : Cookie)
    → AllByRecursion (ComesUpWith IsCookie) events → CameUpWith events leg cookie
    → IsCookie cookie
came_of [] leg cookie all came = absurd came
came_of (event ∷ events) leg cookie all (inl is) = subst (ComesUpWith IsCookie) is all.0
came_of (event ∷ events) leg cookie all (inr rest) = came_of events leg cookie all.1 rest

pub has_cookies : (moves : List EndMove)
    → ((leg : Leg) (cookie : Cookie) → HasComeUp moves leg cookie → IsCookie cookie)
    → AllByRecursion (RisesWith IsCookie) moves
has_cookies [] has = tt
has_cookies (move ∷ moves) has = (
  by move (λ leg cookie is. has leg cookie (inl is)),
  has_cookies moves (λ leg cookie rest. has leg cookie (inr rest)),
)
  where
    by_move : (one : Move)
        → ((leg : Leg) (cookie : Cookie) → Moves one ≡ Moves (Up leg cookie) → IsCookie cookie)
        → RisesWith IsCookie (Moves one)
    by_move (Up leg cookie) so = so leg cookie refl
    by_move (HeadCame leg text) so = tt
    by_move (PduCame leg count pdu) so = tt
    by_move (PacketCame leg count named) so = tt
    by_move (Puts leg) so = tt
    by_move (IsDrawn leg) so = tt
    by_move (Marks leg) so = tt
    by_move (Pings leg) so = tt

    by : (one : EndMove)
        → ((leg : Leg) (cookie : Cookie) → one ≡ Moves (Up leg cookie) → IsCookie cookie)
        → RisesWith IsCookie one
    by (Moves one) so = by_move one so
    by (Gives pdu) so = tt
    by Takes so = tt
    by Closes so = tt
    by Recycles so = tt

-- ---- more moves

pub come_up_more : (ms ns : List EndMove) (leg : Leg) (cookie : Cookie) → HasComeUp ms leg cookie
    → HasComeUp (ms ++ ns) leg cookie
come_up_more [] ns leg cookie rose = absurd rose
come_up_more (m ∷ ms) ns leg cookie (inl is) = inl is
come_up_more (m ∷ ms) ns leg cookie (inr rest) = inr (come_up_more ms ns leg cookie rest)

come_up_last : (ms : List EndMove) (leg : Leg) (cookie : Cookie)
    → HasComeUp (ms ++ Moves (Up leg cookie) ∷ []) leg cookie
come_up_last [] leg cookie = inl refl
come_up_last (m ∷ ms) leg cookie = inr (come_up_last ms leg cookie)

pub up_more : (ms ns : List EndMove) (leg : Leg) → WasUp ms leg → WasUp (ms ++ ns) leg
up_more ms ns leg (cookie, rose) = (cookie, come_up_more ms ns leg cookie rose)

pub first_more : (before ms : List EndMove) (move : EndMove) → AreUpFirst before ms
    → IsUpFirst (before ++ ms) move → AreUpFirst before (ms ++ move ∷ [])
first_more before [] move all last =
    (subst (λ x. IsUpFirst x move) (append-nil before) last, tt)
first_more before (m ∷ ms) move all last = (
  all.0,
  first_more (before ++ m ∷ []) ms move all.1
      (subst (λ x. IsUpFirst x move) (sym (append_assoc before (m ∷ []) ms)) last),
)

-- ---- legs on which something comes next

-- they came up by the moves
abbrev pub AreKnown : List EndMove → Stages → Type 0
AreKnown ms g = (leg : Leg) (next : Stage) → g leg ≡ Some next → WasUp ms leg

module _ {S : Type 0} (rules : Rules S) (s : S) (g : Stages) (ms : List EndMove) where
  pub is_up_first : (move : Move) → AreKnown ms g → IsInTurn rules s g move
      → IsUpFirst ms (Moves move)
  is_up_first move known turn = by move turn
    where
      by_stage : (leg : Leg) (next : Option Stage) → g leg ≡ next → takes_frames next ≡ true
          → WasUp ms leg
      by_stage leg None is takes = absurd cc
      by_stage leg (Some next) is takes = known leg next is

      by : (one : Move) → IsInTurn rules s g one → IsUpFirst ms (Moves one)
      by (Up leg cookie) first = tt
      by (HeadCame leg text) first = tt
      by (PduCame leg count pdu) first = by_stage leg (g leg) refl first
      by (PacketCame leg count named) first = by_stage leg (g leg) refl first
      by (Puts leg) first = tt
      by (IsDrawn leg) first = tt
      by (Marks leg) first = tt
      by (Pings leg) first = tt

  -- a stage more, on a leg that came up
  with_stage_known : (move : EndMove) (k : Leg) (to : Stage) → AreKnown ms g
      → WasUp (ms ++ move ∷ []) k → AreKnown (ms ++ move ∷ []) (with_stage k to g)
  with_stage_known move k to known up leg = by (same_leg k leg) refl
    where
      by : (t : Bool) → same_leg k leg ≡ t → (next : Stage)
          → cond t (Some to) (g leg) ≡ Some next → WasUp (ms ++ move ∷ []) leg
      by true e next at = subst (WasUp (ms ++ move ∷ [])) (leg_is k leg e) up
      by false e next at = up_more ms (move ∷ []) leg (known leg next at)

  pub known_more : (move : Move) → AreKnown ms g → IsInTurn rules s g move
      → AreKnown (ms ++ Moves move ∷ []) (stages_after rules s g move)
  known_more (Up k cookie) known turn =
      with_stage_known (Moves (Up k cookie)) k (first_stage (rules.pipe s k)) known
      (cookie, come_up_last ms k cookie)
  known_more (HeadCame k text) known turn =
      with_stage_known (Moves (HeadCame k text)) k (behind_head (rules.head s k text).1) known
      (up_more ms (Moves (HeadCame k text) ∷ []) k (known k stage.Head turn))
  known_more (PduCame k count pdu) known turn = λ leg next at.
      up_more ms (Moves (PduCame k count pdu) ∷ []) leg (known leg next at)
  known_more (PacketCame k count named) known turn = λ leg next at.
      up_more ms (Moves (PacketCame k count named) ∷ []) leg (known leg next at)
  known_more (Puts k) known turn = λ leg next at.
      up_more ms (Moves (Puts k) ∷ []) leg (known leg next at)
  known_more (IsDrawn k) known turn = λ leg next at.
      up_more ms (Moves (IsDrawn k) ∷ []) leg (known leg next at)
  known_more (Marks k) known turn = λ leg next at.
      up_more ms (Moves (Marks k) ∷ []) leg (known leg next at)
  known_more (Pings k) known turn = λ leg next at.
      up_more ms (Moves (Pings k) ∷ []) leg (known leg next at)

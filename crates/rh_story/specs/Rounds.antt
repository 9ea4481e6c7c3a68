-- the rounds of a settling, as its answers show them (profile). A round looks at each leg and each
-- end once in each of its parts, always in one order, so that another round begins with each answer
-- whose place is not behind that of the answer before it
use Rattle.std.specs.Prelude.{ℕ, ◌+◌, ◌-◌, ◌^◌, Bool, false, List, [], ◌∷◌, min, if◌then◌else◌, Some, None}
use Rattle.std.specs.Cmp.Lexicographic.{slice_cmp}
use Rattle.std.specs.Ordering.{is_lt, nat_cmp}
use Rattle.std.specs.declared.option.Option.{Option}
use Rattle.rh_text.specs.declared.ends.Dir.TheVariants.{U}
use Rattle.rh_text.specs.declared.ends.Side.{Side}
use Rattle.rh_text.specs.declared.ends.Side.TheVariants.{Client, Server}
use Rattle.rh_record.specs.declared.answer.Answer.{Answer}
use Rattle.rh_record.specs.declared.answer.Answer.TheVariants as answers
use Rattle.rh_record.specs.declared.line.Line.{Line}
use Rattle.rh_record.specs.declared.line.Line.TheVariants as lines
use Rattle.rh_story.specs.declared.rounds.Settling.{Settling}
use Rattle.rh_story.specs.Streams.{key_of}

-- the client takes before the server
abbrev pub side_place : Side → ℕ
side_place Client = 0
side_place Server = 1

-- where an answer stands in a round: the part, and in it the leg and the direction, or the end.
-- Legs are opened, bytes move, ends take, and legs end; other answers stand in no round
abbrev pub place_of : Answer → Option (List ℕ)
place_of (answers.OpenLeg leg ok) = Some (1 ∷ key_of (Some leg) U)
place_of (answers.OpenSame leg ok) = Some (1 ∷ key_of (Some leg) U)
place_of (answers.Move leg dir bytes) = Some (2 ∷ key_of leg dir)
place_of (answers.Take side answer) = Some (3 ∷ 0 ∷ 0 ∷ side_place side ∷ [])
place_of (answers.EndLeg leg dir ok) = Some (4 ∷ key_of (Some leg) U)
place_of _ = None

-- a settling begins with its line
abbrev pub settling_of : Line → Option Settling
settling_of (lines.Settle rounds) = Some (record { rounds = 0; place = None })
settling_of _ = None

-- whether an answer at this place is of the round of the one before
abbrev pub goes_on : Option (List ℕ) → List ℕ → Bool
goes_on None place = false
goes_on (Some before) place = is_lt (slice_cmp nat_cmp before place)

-- the number of its round, which stands still at the end of its type
abbrev pub round_of : Settling → List ℕ → ℕ
round_of s place = if goes_on s.place place then s.rounds else min (s.rounds + 1) (2 ^ 64 - 1)

-- the settling behind an answer
abbrev pub behind_place : Settling → Option (List ℕ) → Settling
behind_place s None = s
behind_place s (Some place) = record { rounds = round_of s place; place = Some place }

abbrev pub behind : Option Settling → Answer → Option Settling
behind None answer = None
behind (Some s) answer = Some (behind_place s (place_of answer))

-- the number of the round that an answer begins
abbrev pub begins_at : Settling → Option (List ℕ) → Option ℕ
begins_at s None = None
begins_at s (Some place) = if goes_on s.place place then None else Some (round_of s place)

abbrev pub begins : Option Settling → Answer → Option ℕ
begins None answer = None
begins (Some s) answer = begins_at s (place_of answer)

-- recordings in which nothing breaks from outside (profile)
use Rattle.std.specs.Prelude.{nat_lt, Bool, true, false}
use Rattle.rh_sig.specs.declared.ranges.TheConstants.{LEAST_TIMEOUT}
use Rattle.rh_line.specs.declared.cause.Cause.{Cause}
use Rattle.rh_line.specs.declared.cause.Cause.TheVariants.{LegEnded}
use Rattle.rh_record.specs.declared.line.Line.{Line}
use Rattle.rh_record.specs.declared.line.Line.TheVariants.{BreakLeg, EndLeg, Settle, Tick}

-- no line breaks or ends a leg, and none tells a moment at which a leg could have been silent for
-- the least timeout, in milliseconds
abbrev pub is_calm : Line → Bool
is_calm (BreakLeg leg) = false
is_calm (EndLeg leg dir) = false
is_calm (Tick now) = nat_lt now LEAST_TIMEOUT
is_calm line = true

-- it ends legs that are over
abbrev pub settles : Line → Bool
settles (Settle rounds) = true
settles line = false

-- a leg ended
abbrev pub IsEndOfLeg : Cause → Type 0
IsEndOfLeg (LegEnded leg partial) = Unit {0}
IsEndOfLeg why = ⊥

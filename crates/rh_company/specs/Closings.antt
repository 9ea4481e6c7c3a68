-- the nodes that a line closed (profile)
use Rattle.std.specs.Prelude.{ℕ, ◌+◌, ◌==◌, ◌&&◌, ◌||◌, List, [], ◌∷◌, Bool, nat_lt, if◌then◌else◌, Some, None}
use Rattle.std.specs.declared.option.Option.{Option}
use Rattle.std.specs.List.{insert}
use Rattle.rh_line.specs.declared.cause.Cause.{Cause}
use Rattle.rh_record.specs.declared.answer.Answer.{Answer}
use Rattle.rh_record.specs.declared.answer.Answer.TheVariants.{NodeClosed}
use Rattle.rh_record.specs.declared.answer.Who.{Who}
use Rattle.rh_record.specs.declared.answer.Who.TheVariants.{Client, Server, In, Out}
use Rattle.rh_company.specs.declared.closing.Closing.{Closing}

-- ---- the order in which nodes are told the moment: the client, the server, the in proxies and the
-- ---- out proxies, the lower number first

abbrev pub rank : Who → ℕ
rank Client = 0
rank Server = 1
rank (In number) = 2
rank (Out number) = 3

abbrev pub number : Who → ℕ
number Client = 0
number Server = 0
number (In n) = n
number (Out n) = n

abbrev pub is_ahead : Who → Who → Bool
is_ahead a b = nat_lt (rank a) (rank b) || (rank a == rank b && nat_lt (number a) (number b))

-- the place at which a node stands
abbrev pub place : Who → List Closing → ℕ
place who [] = 0
place who (closing ∷ closings) =
    if is_ahead who closing.who then 0 else 1 + place who closings

-- ---- what closed, and its lines

abbrev pub noted : List Closing → Who → Option Cause → List Closing
noted list who None = list
noted list who (Some why) = insert list (place who list) (record { who = who; cause = why })

abbrev pub lines : List Closing → List Answer
lines [] = []
lines (closing ∷ closings) = NodeClosed closing.who closing.cause ∷ lines closings

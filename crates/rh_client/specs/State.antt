-- a client: its first state, the numbers of its channels, and when its work is done
use Rattle.std.specs.Prelude.{ℕ, ◌+◌, ◌==◌, ◌&&◌, [], Bool, true, false, if◌then◌else◌, nat_lt, Ok, Err}
use Rattle.rh_http.specs.declared.config.ClientConfig.{ClientConfig}
use Rattle.rh_line.specs.Lines.{first_line}
use Rattle.rh_line.specs.declared.leg.Leg.{Leg}
use Rattle.rh_line.specs.declared.leg.LegKind.TheVariants.{ClientIn, ClientOut}
use Rattle.rh_shell.specs.declared.answers.Phase.{Phase}
use Rattle.rh_shell.specs.declared.answers.Phase.TheVariants as phase
use Rattle.rh_shell.specs.declared.answers.Refused.TheVariants.{Unexpected}
use Rattle.rh_shell.specs.Rules.{Row}
use Rattle.rh_client.specs.declared.channels.TheConstants.{LAST_NUMBER}
use Rattle.rh_client.specs.declared.replacement.Replacement.TheVariants.{NoneUnderWay, In, Out}
use Rattle.rh_client.specs.declared.replacement.InStage.TheVariants as in_stage
use Rattle.rh_client.specs.declared.replacement.OutStage.TheVariants as out_stage
use Rattle.rh_client.specs.declared.replacement.Waits.{Waits}
use Rattle.rh_client.specs.declared.replacement.Waits.TheVariants as waits
use Rattle.rh_client.specs.declared.state.ClientRole.{ClientRole}
use Rattle.rh_client.specs.Channels.{unopened_in, unopened_out}
use Rattle.rh_client.specs.Replacements.{is_none, is_in, is_out}

-- before its first leg is up
abbrev pub first : ClientConfig → ClientRole
first config = record {
  config = config;
  phase = phase.Opening;
  is_closing = false;
  queue = [];
  writing = unopened_in 1 config.lifetime;
  in_successor = unopened_in 0 config.lifetime;
  leaving = unopened_in 0 config.lifetime;
  line = first_line config.window;
  current = unopened_out 1;
  out_successor = unopened_out 0;
  replacement = NoneUnderWay;
}

abbrev pub is_opening : Phase → Bool
is_opening phase.Opening = true
is_opening phase.Open = false
is_opening phase.Ended = false

abbrev pub is_open : Phase → Bool
is_open phase.Opening = false
is_open phase.Open = true
is_open phase.Ended = false

-- ---- rows

abbrev pub Done : Type 0
Done = ClientRole × Row

abbrev pub taken : ClientRole → Done
taken s = (s, Ok tt)

-- no row's condition holds
abbrev pub unexpected : ClientRole → Done
unexpected s = (s, Err Unexpected)

-- ---- the numbers of its channels

abbrev pub is_writing : ClientRole → ℕ → Bool
is_writing s n = n == s.writing.number

abbrev pub is_in_successor : ClientRole → ℕ → Bool
is_in_successor s n = is_in s.replacement && n == s.in_successor.number

abbrev pub is_current : ClientRole → ℕ → Bool
is_current s n = n == s.current.number

abbrev pub is_out_successor : ClientRole → ℕ → Bool
is_out_successor s n = is_out s.replacement && n == s.out_successor.number

-- the client's leg of a channel
abbrev pub ci : ℕ → Leg
ci n = record { kind = ClientIn; number = n }

abbrev pub co : ℕ → Leg
co n = record { kind = ClientOut; number = n }

-- ---- a replacement begins

-- of the writing channel, where it has not the last number
abbrev pub begin_in : ClientRole → Bool → ClientRole
begin_in s out_waits =
    if nat_lt s.writing.number LAST_NUMBER
    then record s {
      in_successor = unopened_in (s.writing.number + 1) s.config.lifetime;
      replacement = In in_stage.Asked out_waits;
    }
    else record s { replacement = NoneUnderWay }

-- of the current channel, where it has not the last number
abbrev pub begin_out : ClientRole → Waits → ClientRole
begin_out s waiting =
    if nat_lt s.current.number LAST_NUMBER
    then record s {
      out_successor = unopened_out (s.current.number + 1);
      replacement = Out out_stage.Asked waiting;
    }
    else record s { replacement = NoneUnderWay }

-- ---- a replacement is over: the one that was wanted first goes first

abbrev pub after_in : ClientRole → Bool → ClientRole
after_in s true = begin_out s waits.Nothing
after_in s false = record s { replacement = NoneUnderWay }

abbrev pub after_out : ClientRole → Waits → ClientRole
after_out s waits.Nothing = record s { replacement = NoneUnderWay }
after_out s waits.In = begin_in s false
after_out s waits.Out = begin_out s waits.Nothing
after_out s waits.InThenOut = begin_in s true
after_out s waits.OutThenIn = begin_out s waits.In

-- ---- its work is done

-- no PDU will be given any more, END/A1 was put on the writing channel, END/B2 came on the current
-- one, and no replacement is under way
abbrev pub is_over : ClientRole → Bool
is_over s =
    (s.is_closing && s.writing.is_end_put) && (s.line.current.ended && is_none s.replacement)

abbrev pub settled : ClientRole → ClientRole
settled s = if is_over s then record s { phase = phase.Ended } else s

-- what answers come to, some after others (profile)
use Rattle.std.specs.Prelude.{◌+◌, List}
use Rattle.std.specs.List.{sum_by}
use Rattle.rh_pdu.specs.Feeding.{capped}
use Rattle.rh_record.specs.declared.answer.Answer.{Answer}
use Rattle.rh_made.specs.declared.tally.Tally.{Tally}
use Rattle.rh_made.specs.Sums.{bytes_of, rounds_of, moved, rounds}

abbrev pub none : Tally
none = record { moved = 0; rounds = 0 }

-- these answers, behind those of the tally
abbrev pub with : Tally → List Answer → Tally
with tally report = record {
  moved = capped (tally.moved + sum_by bytes_of report);
  rounds = capped (tally.rounds + sum_by rounds_of report);
}

abbrev pub tally_of : List Answer → Tally
tally_of report = record { moved = moved report; rounds = rounds report }

-- rows that find no leg full
use Rattle.law_order.proofs.Vocabulary.{Err}
use Rattle.rh_shell.specs.declared.answers.Refused.TheVariants as refused
use Rattle.law_moves.proofs.Vocabulary.{Row}
use Rattle.law_world_honest.proofs.Honesty.AckRows.{IsPlain, PlainRow}
use Rattle.law_world_expected.specs.Roomy.{FindsRoom}

of_plain : (row : Row) → IsPlain row → FindsRoom row
of_plain (Err (refused.Full full)) h = h
of_plain row h = tt

pub finds_room : {S : Type 0} (x : S × Row) → PlainRow x → FindsRoom x.1
finds_room x h = of_plain x.1 h.is

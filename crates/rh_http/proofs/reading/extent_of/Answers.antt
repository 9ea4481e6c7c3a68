use Rattle.rh_http.proofs.Fronts.{ends_in_front, none_in_front}
use Rattle.rh_http.proofs.reading.extent_of.Goals as goal

pub returns-in-Some : goal.returns-in-Some
returns-in-Some c =
    ends_in_front c.args.bytes.now c.split_at.result.0.now c.min.result c.in-Some.len c.min.ensures
    c.split_at.ensures.front c.in-Some.ensures.end

pub returns-in-None : goal.returns-in-None
returns-in-None c = (
  none_in_front c.args.bytes.now c.split_at.result.0.now c.min.result c.min.ensures
      c.split_at.ensures.front c.in-None.ensures.end,
  c.if-bytes-lt-GREATEST_HEAD.true,
)

pub returns-in-None-2 : goal.returns-in-None-2
returns-in-None-2 c = (
  none_in_front c.args.bytes.now c.split_at.result.0.now c.min.result c.min.ensures
      c.split_at.ensures.front c.in-None.ensures.end,
  c.if-bytes-lt-GREATEST_HEAD.false,
)

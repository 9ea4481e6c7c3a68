-- the round is told first, and the answer behind it
use Rattle.std.proofs.Common.{string_bytes}
use Rattle.std.proofs.lemmas.Result.{err_from_is_err_and}
use Rattle.rh_text.proofs.Appending.{writes_both, writes_one}
use Rattle.rh_story.specs.Rounds.{begins}
use Rattle.rh_story.specs.Stories.{answer_told, in_round, round_text}
use Rattle.rh_story.proofs.story.Story.tell_of_answer.Goals as goal

pub returns-in_err-tell_round-clause-text : goal.returns-in_err-tell_round-clause-text
returns-in_err-tell_round-clause-text c =
    let s = c.args.self.now in
    let answer = c.args.answer.now in
    let p = err_from_is_err_and c.from_residual.result c.from_residual.ensures.1 in
    rw p.1 (writes_one (round_text s.moment (begins s.settling answer))
    (answer_told (in_round s answer) answer) p.0 (string_bytes c.args.out.now)
    (string_bytes c.tell_round.new.out) c.in_err-tell_round.ensures.text)

pub returns-clause-text : goal.returns-clause-text
returns-clause-text c =
    let s = c.args.self.now in
    let answer = c.args.answer.now in
    writes_both (round_text s.moment (begins s.settling answer))
    (answer_told (in_round s answer) answer) c.tell_answer.result
    (string_bytes c.args.out.now) (string_bytes c.tell_round.new.out)
    (string_bytes c.tell_answer.new.out)
    c.in_ok-tell_round.ensures.text
    (rw c.in_ok-tell_round.ensures.after at c.tell_answer.ensures.text)

use Rattle.std.proofs.Common.{take, ap, subst, arith}
use Rattle.std.proofs.Math.ListN.{drop_of_length-le}
use Rattle.std.proofs.lemmas.Result.{err_from_is_err_and}
use Rattle.rh_text.specs.Writing.{parts_text}
use Rattle.rh_text.proofs.Appending.{IsGathered, parts_text-drop, gathered_more, gathered_past, gathered_part, gathered_end}
use Rattle.rh_text.proofs.writing.write_parts.Goals as goal
use Rattle.rh_text.proofs.writing.write_parts.Goals.{in-Some, in-None+in_ok-write_behind-in-None}

pub returns-in_err-write_behind-in-None : goal.returns-in_err-write_behind-in-None
returns-in_err-write_behind-in-None c =
    let l = c.loop-part in
    let p = err_from_is_err_and c.from_residual.result c.from_residual.ensures.1 in
    let cut = parts_text-drop c.args.parts.now l.part-index _ c.loop-part-test.true in
    let behind = rw c.in-None.ensures.gathered at c.in_err-write_behind-in-None.ensures in
    rw p.1 (gathered_part _ _ _ _ _ _ _ _ p.0 cut behind l.invariant.0)

pub loop-part-preserved : goal.loop-part-preserved
loop-part-preserved c =
    let l = c.loop-part in
    let cut = parts_text-drop c.args.parts.now l.part-index _ c.loop-part-test.true in
    elim c.match-gather.branch [
      | in-Some w ↦
          let more = gathered_more _ _ _ _ _ _ _ cut w.in-Some.ensures.utf8 l.invariant.0 in
          let same = w.in-Some.ensures.gathered.1 in
          rw (w.held-is, w.out-is, same) (more, w.in-Some.ensures.gathered.0)
      | in-None+in_ok-write_behind-in-None w ↦
          let behind = rw w.in-None.ensures.gathered at w.in_ok-write_behind-in-None.ensures in
          rw (w.held-is, w.out-is) (
            gathered_past _ _ _ _ _ _ _ _ cut behind l.invariant.0,
            omega arith,
          )
    ]

pub returns : goal.returns
returns c =
    let l = c.loop-part in
    let none = ap parts_text (drop_of_length-le c.args.parts.now c.loop-part-test.false) in
    let left = subst (IsGathered _ _ _ (take l.held l.room)) none l.invariant.0 in
    gathered_end _ _ _ _ _ _ left c.push_utf8.ensures

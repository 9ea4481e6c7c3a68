-- each call is one more of the reader
use Rattle.std.proofs.Common.{◌≡◌, ◌+◌, arith, subst, sym, ◌∙◌}
use Rattle.std.proofs.lemmas.Bool.Decides.{nat_tests}
use Rattle.std.specs.Io.KnownBytes.{Appends}
use Rattle.rh_legs.proofs.Reading.{reads-late, reads-used, read-end, end-failed, read-failed, read-stopped, nothing-taken}
use Rattle.rh_legs.proofs.Counted.{no_fewer, rose_since, failed-ended, stopped-ended, stopped-failed}
use Rattle.rh_legs.proofs.reader.read_leg.Goals as goal

pub returns-in_default-clause-read : goal.returns-in_default-clause-read
returns-in_default-clause-read g c =
    read-failed _ _ _ _ _ _ _ _ _ _ _ _ _ c.reads.invariant.reading c.reads.invariant.few
    c.in_default.ensures.bytes.same_read c.tell_failure.ensures.acts.1
    c.tell_failure.ensures.failed

pub returns-then-count-eq0-clause-read : goal.returns-then-count-eq0-clause-read
returns-then-count-eq0-clause-read g c =
    let none : c.in-Ok.count ≡ 0 = let is = c.if-count-eq0.true in grind (arith, nat_tests) in
    read-end _ _ _ _ _ _ _ _ _ _ _ _ c.reads.invariant.reading c.reads.invariant.few
    (nothing-taken _ _ c.in-Ok.count _ none c.in-Ok.ensures.bytes.to) c.tell_end.ensures.ends

pub returns-then-is_last-clause-read : goal.returns-then-is_last-clause-read
returns-then-is_last-clause-read g c =
    let fed = c.feed-is_late.ensures.acts in
    let all : c.reads.late + 1 ≡ 256 =
    let is = sym c.is_last.ensures ∙ c.if-is_last.true in grind (arith, nat_tests) in
    read-stopped _ _ _ _ _ _ _ _ (c.reads.late + 1)
    (reads-late _ _ _ _ _ _ _ _ _ _ _ _ fed.0 c.reads.invariant.reading fed.1
    (subst (Appends _ _) (sym c.new-piece.ensures) c.in-Ok.ensures.bytes.to)
    (sym fed.2 ∙ c.if-is_late.true))
    all

pub reads-preserved-else-is_last : goal.reads-preserved-else-is_last
reads-preserved-else-is_last g c =
    let fed = c.feed-is_late.ensures.acts in
    record {
      reading = reads-late _ _ _ _ _ _ _ _ _ _ _ _ fed.0 c.reads.invariant.reading fed.1
          (subst (Appends _ _) (sym c.new-piece.ensures) c.in-Ok.ensures.bytes.to)
          (sym fed.2 ∙ c.if-is_late.true);
      few = let few = c.reads.invariant.few in
          let not_all = sym c.is_last.ensures ∙ c.if-is_last.false in grind (arith, nat_tests);
      turn = c.feed-is_late.ensures.turn ∙ c.reads.invariant.turn;
      faults = no_fewer _ _ _ c.reads.invariant.faults c.in-Ok.ensures.faults;
      ends = no_fewer _ _ _ c.reads.invariant.ends c.in-Ok.ensures.ends;
    }

pub reads-preserved : goal.reads-preserved
reads-preserved g c =
    let fed = c.feed-is_late.ensures.acts in
    record {
      reading = reads-used _ _ _ _ _ _ _ _ _ _ _ _ fed.0 c.reads.invariant.reading fed.1
          (subst (Appends _ _) (sym c.new-piece.ensures) c.in-Ok.ensures.bytes.to)
          (sym fed.2 ∙ c.if-is_late.false);
      few = c.reads.invariant.few;
      turn = c.feed-is_late.ensures.turn ∙ c.reads.invariant.turn;
      faults = no_fewer _ _ _ c.reads.invariant.faults c.in-Ok.ensures.faults;
      ends = no_fewer _ _ _ c.reads.invariant.ends c.in-Ok.ensures.ends;
    }

pub returns-in_default-clause-turn : goal.returns-in_default-clause-turn
returns-in_default-clause-turn g c = c.tell_failure.ensures.turn ∙ c.reads.invariant.turn

pub returns-in_default-clause-ended : goal.returns-in_default-clause-ended
returns-in_default-clause-ended g c = λ is. absurd (failed-ended (sym c.tell_failure.ensures.failed ∙ is))

pub returns-in_default-clause-failed : goal.returns-in_default-clause-failed
returns-in_default-clause-failed g c = λ is. rose_since _ _ _ c.reads.invariant.faults c.in_default.ensures.failed

pub returns-in_default-clause-faults : goal.returns-in_default-clause-faults
returns-in_default-clause-faults g c = no_fewer _ _ _ c.reads.invariant.faults c.in_default.ensures.faults

pub returns-in_default-clause-ends : goal.returns-in_default-clause-ends
returns-in_default-clause-ends g c = no_fewer _ _ _ c.reads.invariant.ends c.in_default.ensures.ends

pub returns-then-count-eq0-clause-turn : goal.returns-then-count-eq0-clause-turn
returns-then-count-eq0-clause-turn g c = c.tell_end.ensures.turn ∙ c.reads.invariant.turn

pub returns-then-count-eq0-clause-failed : goal.returns-then-count-eq0-clause-failed
returns-then-count-eq0-clause-failed g c = λ is. absurd (end-failed _ _ _ _ _ _ _ c.tell_end.ensures.ends is)

pub returns-then-count-eq0-clause-faults : goal.returns-then-count-eq0-clause-faults
returns-then-count-eq0-clause-faults g c = no_fewer _ _ _ c.reads.invariant.faults c.in-Ok.ensures.faults

pub returns-then-count-eq0-clause-ends : goal.returns-then-count-eq0-clause-ends
returns-then-count-eq0-clause-ends g c = no_fewer _ _ _ c.reads.invariant.ends c.in-Ok.ensures.ends

pub returns-then-is_last-clause-turn : goal.returns-then-is_last-clause-turn
returns-then-is_last-clause-turn g c = c.feed-is_late.ensures.turn ∙ c.reads.invariant.turn

pub returns-then-is_last-clause-ended : goal.returns-then-is_last-clause-ended
returns-then-is_last-clause-ended g c = λ is. absurd (stopped-ended is)

pub returns-then-is_last-clause-failed : goal.returns-then-is_last-clause-failed
returns-then-is_last-clause-failed g c = λ is. absurd (stopped-failed is)

pub returns-then-is_last-clause-faults : goal.returns-then-is_last-clause-faults
returns-then-is_last-clause-faults g c = no_fewer _ _ _ c.reads.invariant.faults c.in-Ok.ensures.faults

pub returns-then-is_last-clause-ends : goal.returns-then-is_last-clause-ends
returns-then-is_last-clause-ends g c = no_fewer _ _ _ c.reads.invariant.ends c.in-Ok.ensures.ends

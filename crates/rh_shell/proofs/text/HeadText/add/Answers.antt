use Rattle.std.proofs.Common.{arith}
use Rattle.std.proofs.lemmas.Bool.Decides.{nat_tests}
use Rattle.rh_shell.proofs.HeadTexts.{IsFilled, filled, none_open, found_at, full, goes_on}
use Rattle.rh_shell.proofs.text.HeadText.add.Goals as goal

pub overflow_sub-result : goal.overflow_sub-result
overflow_sub-result c =
    let s = c.self.inside in
    let n = c.put-count.result in
    let room = c.put-count.new.room in
    let f : IsFilled c.args.self.now c.args.piece.now room s.len n =
    filled c.args.self.now c.args.piece.now s.bytes room s.len n c.self.view_is c.self.invariant.0
    c.self.told c.put-count.ensures.count c.put-count.ensures.bytes in
    let at = found_at c.args.self.now c.args.piece.now room s.len n f c.requires.none
    c.requires.short c.in-Some.end c.in-Some.ensures.end in
    omega (arith, at.behind)

pub invariant_of-self : goal.invariant_of-self
invariant_of-self c =
    let s = c.self.inside in
    let n = c.put-count.result in
    let room = c.put-count.new.room in
    let f : IsFilled c.args.self.now c.args.piece.now room s.len n =
    filled c.args.self.now c.args.piece.now s.bytes room s.len n c.self.view_is c.self.invariant.0
    c.self.told c.put-count.ensures.count c.put-count.ensures.bytes in
    let most = (found_at c.args.self.now c.args.piece.now room s.len n f c.requires.none
    c.requires.short c.in-Some.end c.in-Some.ensures.end).most in
    rw c.new-self-inside.ensures (most, omega arith, none_open)

pub returns-in-Some-clause-adds : goal.returns-in-Some-clause-adds
returns-in-Some-clause-adds c =
    let s = c.self.inside in
    let n = c.put-count.result in
    let room = c.put-count.new.room in
    let f : IsFilled c.args.self.now c.args.piece.now room s.len n =
    filled c.args.self.now c.args.piece.now s.bytes room s.len n c.self.view_is c.self.invariant.0
    c.self.told c.put-count.ensures.count c.put-count.ensures.bytes in
    (found_at c.args.self.now c.args.piece.now room s.len n f c.requires.none c.requires.short
    c.in-Some.end c.in-Some.ensures.end).adds

pub returns-then-len-eq-GREATEST_HEAD-clause-adds :
    goal.returns-then-len-eq-GREATEST_HEAD-clause-adds
returns-then-len-eq-GREATEST_HEAD-clause-adds c =
    let s = c.self.inside in
    let n = c.put-count.result in
    let room = c.put-count.new.room in
    let f : IsFilled c.args.self.now c.args.piece.now room s.len n =
    filled c.args.self.now c.args.piece.now s.bytes room s.len n c.self.view_is c.self.invariant.0
    c.self.told c.put-count.ensures.count c.put-count.ensures.bytes in
    full c.args.self.now c.args.piece.now room s.len n f c.requires.none c.requires.short
    c.in_default.ensures.end c.requires.some (grind (arith, nat_tests))

pub returns-clause-adds : goal.returns-clause-adds
returns-clause-adds c =
    let s = c.self.inside in
    let n = c.put-count.result in
    let room = c.put-count.new.room in
    let f : IsFilled c.args.self.now c.args.piece.now room s.len n =
    filled c.args.self.now c.args.piece.now s.bytes room s.len n c.self.view_is c.self.invariant.0
    c.self.told c.put-count.ensures.count c.put-count.ensures.bytes in
    goes_on c.args.self.now c.args.piece.now room s.len n f c.requires.none c.requires.short
    c.in_default.ensures.end (λ e. absurd (grind (arith, nat_tests, e)))

-- what was put, in the words of the framing
use Rattle.std.proofs.Common.{arith, subst, take}
use Rattle.rh_pdu.specs.Feeding.{IsSoundBy}
use Rattle.rh_pdu.proofs.Feeds.{fault_stays, header_kept, held_below, frame_lent}
use Rattle.rh_pdu.proofs.framer.Framer.feed.Goals as goal

pub returns-in-Some-clause-fed : goal.returns-in-Some-clause-fed
returns-in-Some-clause-fed c =
    let f = c.self.inside in
    fault_stays c.args.self.now (take f.held f.buf) c.args.piece.now (take f.whole f.buf) f.place
    f.fault c.in-Some.fault c.self.view_is c.in-Some.is c.self.invariant.2

pub invariant_of-self-in-Bad : goal.invariant_of-self-in-Bad
invariant_of-self-in-Bad c =
    let h = c.in-Bad.ensures in
    (omega arith, omega arith, header_kept _ c.put_frame.new.buf c.in-Bad.fault h.0 h.1 h.2)

pub overflow_sub-result : goal.overflow_sub-result
overflow_sub-result c =
    let f = c.self.inside in
    let below =
    held_below f.held c.in-Whole.len f.buf c.args.piece.now c.put_frame.new.buf c.self.told
    c.self.invariant.0 (subst (IsSoundBy (take f.held f.buf)) c.in_default.is c.self.invariant.2)
    c.in-Whole.ensures in
    omega arith

pub returns-in-Whole-clause-fed : goal.returns-in-Whole-clause-fed
returns-in-Whole-clause-fed c =
    let f = c.self.inside in
    frame_lent c.args.self.now f.held c.in-Whole.len f.place c.place_behind-self-inside.result
    f.buf c.args.piece.now c.put_frame.new.buf (take f.whole f.buf) f.fault c.self.view_is
    c.in_default.is c.self.told c.self.invariant.0 c.self.invariant.2 c.in-Whole.ensures
    c.place_behind-self-inside.ensures

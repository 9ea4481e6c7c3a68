-- one round after the other
use Rattle.std.proofs.Common.{◌≡◌, ℕ, ◌+◌, ◌-◌, suc, length, [], ◌∷◌, ap, sym, subst, ◌∙◌, arith}
use Rattle.rh_record.specs.declared.answer.Answer.TheVariants.{Quiet, Spent}
use Rattle.rh_text.specs.Writing.{Writes}
use Rattle.rh_company.specs.Company.{rules_of}
use Rattle.rh_nodes.specs.Giving.{deeds_of}
use Rattle.rh_nodes.specs.Opening.{makers_of}
use Rattle.rh_nodes.specs.Settling.{round, rounds_from, settle}
use Rattle.rh_nodes.proofs.Pushed.{writes_pushed}
use Rattle.rh_nodes.proofs.Settles.{Settles, settles_first, settles_more, settles_quiet, settles_spent, settles_handed, none_added, some_added}
use Rattle.rh_nodes.proofs.nodes.Nodes.settle.Goals as goal

pub rounds-init : goal.rounds-init
rounds-init g c =
    let r = rules_of g.K.Client.Role.rules g.K.Server.Role.rules g.K.InProxy.Role.rules
    g.K.OutProxy.Role.rules in
    let m = makers_of g.K.Cast.in_proxy g.K.Cast.out_proxy in
    let d = deeds_of g.K.Client.EndRole.acts g.K.Server.EndRole.acts in
    let whole = settle r m d c.args.rounds c.args.self.now in
    let report = c.args.report.now in
    let all : c.args.rounds - 0 ≡ c.args.rounds = omega arith in
    subst (λ (n : ℕ). Settles whole (rounds_from n 0 (round r m d) c.args.self.now) report report)
    (sym all) (settles_first whole report)

pub returns-in_err-round : goal.returns-in_err-round
returns-in_err-round g c =
    let r = rules_of g.K.Client.Role.rules g.K.Server.Role.rules g.K.InProxy.Role.rules
    g.K.OutProxy.Role.rules in
    let m = makers_of g.K.Cast.in_proxy g.K.Cast.out_proxy in
    let d = deeds_of g.K.Client.EndRole.acts g.K.Server.EndRole.acts in
    let whole = settle r m d c.args.rounds c.args.self.now in
    let less = c.args.rounds - (c.rounds.count + 1) in
    let left : c.args.rounds - c.rounds.count ≡ suc less = omega (arith, c.rounds-test.true) in
    settles_handed _ (c.args.rounds - c.rounds.count) less c.rounds.count (round r m d) whole
    c.rounds.self c.round.new.self c.round.new.self c.from_residual.result _ c.args.report.now
    c.rounds.report c.round.new.report left c.from_residual.ensures.1 c.rounds.invariant
    c.in_err-round.ensures

pub returns-then-answers-before : goal.returns-then-answers-before
returns-then-answers-before g c =
    let r = rules_of g.K.Client.Role.rules g.K.Server.Role.rules g.K.InProxy.Role.rules
    g.K.OutProxy.Role.rules in
    let m = makers_of g.K.Cast.in_proxy g.K.Cast.out_proxy in
    let d = deeds_of g.K.Client.EndRole.acts g.K.Server.EndRole.acts in
    let whole = settle r m d c.args.rounds c.args.self.now in
    let less = c.args.rounds - (c.rounds.count + 1) in
    let left : c.args.rounds - c.rounds.count ≡ suc less = omega (arith, c.rounds-test.true) in
    let report = c.in_ok-round.ensures.report in
    let same = sym (ap length c.answers.ensures) ∙ c.if-answers-before.true
    ∙ ap length c.answers-before.ensures in
    settles_quiet (c.args.rounds - c.rounds.count) less c.rounds.count (round r m d) whole
    c.rounds.self c.round.new.self c.push.result c.args.report.now c.rounds.report
    c.round.new.report c.push.new.self left c.in_ok-round.ensures.world report
    (none_added c.rounds.report c.round.new.report (round r m d c.rounds.self).1 report same)
    c.rounds.invariant
    (writes_pushed (Quiet c.rounds.count) c.push.result c.round.new.report c.push.new.self
    c.push.ensures.ok c.push.ensures.err)

pub rounds-preserved : goal.rounds-preserved
rounds-preserved g c =
    let r = rules_of g.K.Client.Role.rules g.K.Server.Role.rules g.K.InProxy.Role.rules
    g.K.OutProxy.Role.rules in
    let m = makers_of g.K.Cast.in_proxy g.K.Cast.out_proxy in
    let d = deeds_of g.K.Client.EndRole.acts g.K.Server.EndRole.acts in
    let whole = settle r m d c.args.rounds c.args.self.now in
    let less = c.args.rounds - (c.rounds.count + 1) in
    let left : c.args.rounds - c.rounds.count ≡ suc less = omega (arith, c.rounds-test.true) in
    let report = c.in_ok-round.ensures.report in
    let (n, some) = some_added c.rounds.report c.round.new.report (round r m d c.rounds.self).1
    report (λ same. c.if-answers-before.false (ap length c.answers.ensures ∙ same
    ∙ sym (ap length c.answers-before.ensures))) in
    settles_more (c.args.rounds - c.rounds.count) less c.rounds.count n (round r m d) whole
    c.rounds.self c.round.new.self c.args.report.now c.rounds.report c.round.new.report left
    c.in_ok-round.ensures.world report some c.rounds.invariant

pub returns : goal.returns
returns g c =
    let r = rules_of g.K.Client.Role.rules g.K.Server.Role.rules g.K.InProxy.Role.rules
    g.K.OutProxy.Role.rules in
    let m = makers_of g.K.Cast.in_proxy g.K.Cast.out_proxy in
    let d = deeds_of g.K.Client.EndRole.acts g.K.Server.EndRole.acts in
    let whole = settle r m d c.args.rounds c.args.self.now in
    let none : c.args.rounds - c.rounds.count ≡ 0 = omega (arith, c.rounds-test.false) in
    let all : c.args.rounds ≡ c.rounds.count =
    omega (arith, c.rounds-test.false, c.rounds.auto.count-end) in
    settles_spent c.rounds.count (c.args.rounds - c.rounds.count) (round r m d) whole
    c.rounds.self c.push-2.result c.args.report.now c.rounds.report c.push-2.new.self none
    c.rounds.invariant
    (subst (λ (n : ℕ). Writes (Spent n ∷ []) c.push-2.result c.rounds.report c.push-2.new.self) all
    (writes_pushed (Spent c.args.rounds) c.push-2.result c.rounds.report c.push-2.new.self
    c.push-2.ensures.ok c.push-2.ensures.err))

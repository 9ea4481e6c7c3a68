-- each round is told behind those before it, and the last lines behind them all
use Rattle.std.proofs.Common.{◌≡◌, ◌≢◌, ◌<◌, ◌∷◌, ◌++◌, [], Err, length, string_bytes, refl, sym, ap, subst, arith}
use Rattle.std.proofs.lemmas.Bool.Decides.{nat_tests}
use Rattle.std.proofs.lemmas.List.{nil_from_length}
use Rattle.rh_record.specs.declared.answer.Answer.TheVariants.{Quiet, Spent}
use Rattle.rh_teller.specs.Tales.{told, behind}
use Rattle.rh_world.specs.declared.any_world.AnyWorld.{AnyWorld}
use Rattle.rh_world.specs.Any as seen
use Rattle.rh_word.specs.Outputs.{out, Gathers, Stops}
use Rattle.rh_word.proofs.Results.{at_error, of_err, map_ok, map_err}
use Rattle.rh_words.proofs.Settling.{Settling, settling_first, settling_more, settling_stops, settling_sure}
use Rattle.rh_words.proofs.Settling.{Ending, quiet_ends, spent_ends, ending_world, ending_given, ending_teller, ending_gathers, ending_stops, ending_sure}
use Rattle.rh_words.proofs.retelling.settle.Given.{Over}
use Rattle.rh_words.proofs.retelling.settle.Goals as goal

pub rounds-init : goal.rounds-init
rounds-init g c =
    let before = string_bytes c.args.gathered.now in
    let start = out g.W.Sink.written g.W.Sink.takes c.args.output.now in
    let begun = sym c.in_ok-begin.ensures.world in
    record {
      settles = grind (arith, nat_tests);
      settling = subst
          (λ (w : AnyWorld). Settling g.T.Teller.tale c.args.teller.now c.args.world.now
          c.args.rounds 0 w c.args.teller.now before before start start)
          begun
          (settling_first g.T.Teller.tale c.args.teller.now c.args.world.now c.args.rounds before
          start);
      faults = refl;
    }

pub returns-in_err-round-clause-err : goal.returns-in_err-round-clause-err
returns-in_err-round-clause-err g c =
    let below : c.rounds.count < c.args.rounds = omega (arith, c.rounds-test.true) in
    at_error c.from_residual-in_err-round.result _
    (settling_stops c.rounds.invariant.settles below c.rounds.invariant.settling
    c.in_err-round.ensures.err)

pub returns-in_err-round-clause-takes : goal.returns-in_err-round-clause-takes
returns-in_err-round-clause-takes g c = λ fits said.
    let below : c.rounds.count < c.args.rounds = omega (arith, c.rounds-test.true) in
    c.in_err-round.ensures.takes
    (settling_sure c.rounds.invariant.settles below c.rounds.invariant.settling fits)
    (ap Err (sym (of_err _ c.from_residual-in_err-round.result said
    c.from_residual-in_err-round.ensures.1)))

pub rounds-preserved : goal.rounds-preserved
rounds-preserved g c =
    let below : c.rounds.count < c.args.rounds = omega (arith, c.rounds-test.true) in
    let some : (seen.round c.rounds.world).1 ≢ [] =
    λ none. let size = ap length none in grind (arith, nat_tests) in
    let round = c.in_ok-round.ensures in
    record {
      settles = c.rounds.invariant.settles;
      settling = settling_more below some round.world round.teller c.rounds.invariant.settling
          round.ok;
      faults = grind (arith, nat_tests);
    }

-- behind the rounds, the last of which reported nothing
quiet_end : (g : Over) (c : goal.After-end_line g)
    → Ending g.T.Teller.tale c.args.teller.now c.args.world.now c.args.rounds
    c.round.new.world c.round.new.teller (Quiet c.rounds.count)
    (string_bytes c.args.gathered.now) (string_bytes c.round.new.gathered)
    (out g.W.Sink.written g.W.Sink.takes c.args.output.now)
    (out g.W.Sink.written g.W.Sink.takes c.round.new.output)
quiet_end g c =
    let below : c.rounds.count < c.args.rounds = omega (arith, c.rounds-test.true) in
    let none : (seen.round c.rounds.world).1 ≡ [] =
    nil_from_length (seen.round c.rounds.world).1 (grind (arith, nat_tests)) in
    let round = c.in_ok-round.ensures in
    quiet_ends c.rounds.invariant.settles below none round.world round.teller
    c.rounds.invariant.settling round.ok

pub returns-then-branch-clause-world : goal.returns-then-branch-clause-world
returns-then-branch-clause-world g c =
    map_ok c.end_line.result
    (λ (moved : c.end_line.new.world ≡ (seen.end_line c.round.new.world).0).
    ending_world (quiet_end g c) moved) c.end_line.ensures.world

pub returns-then-branch-clause-given : goal.returns-then-branch-clause-given
returns-then-branch-clause-given g c =
    map_ok c.end_line.result
    (λ (moved : c.end_line.new.world ≡ (seen.end_line c.round.new.world).0).
    ending_given (quiet_end g c) moved) c.end_line.ensures.world

pub returns-then-branch-clause-teller : goal.returns-then-branch-clause-teller
returns-then-branch-clause-teller g c =
    map_ok c.end_line.result
    (λ (is : c.end_line.new.teller ≡ behind g.T.Teller.tale c.round.new.teller
    (Quiet c.rounds.count ∷ (seen.end_line c.round.new.world).1)).
    ending_teller (quiet_end g c) is) c.end_line.ensures.teller

pub returns-then-branch-clause-ok : goal.returns-then-branch-clause-ok
returns-then-branch-clause-ok g c =
    map_ok c.end_line.result
    (λ (wrote : Gathers (string_bytes c.round.new.gathered
    ++ told g.T.Teller.tale c.round.new.teller
    (Quiet c.rounds.count ∷ (seen.end_line c.round.new.world).1))
    (string_bytes c.end_line.new.gathered)
    (out g.W.Sink.written g.W.Sink.takes c.round.new.output)
    (out g.W.Sink.written g.W.Sink.takes c.end_line.new.output)).
    ending_gathers (quiet_end g c) wrote)
    c.end_line.ensures.ok

pub returns-then-branch-clause-err : goal.returns-then-branch-clause-err
returns-then-branch-clause-err g c =
    map_err c.end_line.result
    (λ (wrote : Stops (string_bytes c.round.new.gathered
    ++ told g.T.Teller.tale c.round.new.teller
    (Quiet c.rounds.count ∷ (seen.end_line c.round.new.world).1))
    (g.W.Sink.written c.round.new.output)
    (g.W.Sink.written c.end_line.new.output)).
    ending_stops (quiet_end g c) wrote)
    c.end_line.ensures.err

pub returns-then-branch-clause-held : goal.returns-then-branch-clause-held
returns-then-branch-clause-held g c =
    map_ok c.end_line.result
    (λ (held : c.end_line.new.report ≡ Quiet c.rounds.count ∷ (seen.end_line c.round.new.world).1).
    λ settles. (Quiet c.rounds.count, c.round.new.world, held))
    c.end_line.ensures.held

pub returns-then-branch-clause-takes : goal.returns-then-branch-clause-takes
returns-then-branch-clause-takes g c =
    λ fits. c.end_line.ensures.takes (ending_sure (quiet_end g c) fits)

-- behind all the rounds
spent_end : (g : Over) (c : goal.After-end_line-2 g)
    → Ending g.T.Teller.tale c.args.teller.now c.args.world.now c.args.rounds
    c.rounds.world c.rounds.teller (Spent c.args.rounds)
    (string_bytes c.args.gathered.now) (string_bytes c.rounds.gathered)
    (out g.W.Sink.written g.W.Sink.takes c.args.output.now)
    (out g.W.Sink.written g.W.Sink.takes c.rounds.output)
spent_end g c =
    let all : c.rounds.count ≡ c.args.rounds =
    omega (arith, c.rounds-test.false, c.rounds.auto.count-end) in
    spent_ends c.rounds.invariant.settles all c.rounds.invariant.settling

pub returns-clause-world : goal.returns-clause-world
returns-clause-world g c =
    map_ok c.end_line-2.result
    (λ (moved : c.end_line-2.new.world ≡ (seen.end_line c.rounds.world).0).
    ending_world (spent_end g c) moved) c.end_line-2.ensures.world

pub returns-clause-given : goal.returns-clause-given
returns-clause-given g c =
    map_ok c.end_line-2.result
    (λ (moved : c.end_line-2.new.world ≡ (seen.end_line c.rounds.world).0).
    ending_given (spent_end g c) moved) c.end_line-2.ensures.world

pub returns-clause-teller : goal.returns-clause-teller
returns-clause-teller g c =
    map_ok c.end_line-2.result
    (λ (is : c.end_line-2.new.teller ≡ behind g.T.Teller.tale c.rounds.teller
    (Spent c.args.rounds ∷ (seen.end_line c.rounds.world).1)).
    ending_teller (spent_end g c) is) c.end_line-2.ensures.teller

pub returns-clause-ok : goal.returns-clause-ok
returns-clause-ok g c =
    map_ok c.end_line-2.result
    (λ (wrote : Gathers (string_bytes c.rounds.gathered
    ++ told g.T.Teller.tale c.rounds.teller
    (Spent c.args.rounds ∷ (seen.end_line c.rounds.world).1))
    (string_bytes c.end_line-2.new.gathered)
    (out g.W.Sink.written g.W.Sink.takes c.rounds.output)
    (out g.W.Sink.written g.W.Sink.takes c.end_line-2.new.output)).
    ending_gathers (spent_end g c) wrote)
    c.end_line-2.ensures.ok

pub returns-clause-err : goal.returns-clause-err
returns-clause-err g c =
    map_err c.end_line-2.result
    (λ (wrote : Stops (string_bytes c.rounds.gathered
    ++ told g.T.Teller.tale c.rounds.teller
    (Spent c.args.rounds ∷ (seen.end_line c.rounds.world).1))
    (g.W.Sink.written c.rounds.output)
    (g.W.Sink.written c.end_line-2.new.output)).
    ending_stops (spent_end g c) wrote)
    c.end_line-2.ensures.err

pub returns-clause-takes : goal.returns-clause-takes
returns-clause-takes g c =
    λ fits. c.end_line-2.ensures.takes (ending_sure (spent_end g c) fits)

pub returns-clause-held : goal.returns-clause-held
returns-clause-held g c =
    map_ok c.end_line-2.result
    (λ (held : c.end_line-2.new.report
    ≡ Spent c.args.rounds ∷ (seen.end_line c.rounds.world).1).
    λ settles. (Spent c.args.rounds, c.rounds.world, held))
    c.end_line-2.ensures.held

-- the line that is read is one that stands there, and what it is answered is told
use Rattle.std.proofs.Common.{◌≡◌, ◌≢◌, ◌≤◌, List, ℕ, ◌++◌, length, Ok, Err, IfOk, OnOk, OnErr, refl, sym, ap, subst, string_bytes}
use Rattle.std.specs.declared.option.Option.{Option}
use Rattle.std.specs.declared.result.Result.{Result}
use Rattle.rh_play.specs.Players.{Player}
use Rattle.rh_word.specs.Outputs.{Out, out, Gathers, Stops}
use Rattle.rh_words.specs.Plays.{goes_on}
use Rattle.rh_word.specs.declared.output.Unfinished.{Unfinished}
use Rattle.rh_word.specs.declared.output.Unfinished.TheVariants.{WriteFault}
use Rattle.rh_word.proofs.Results.{at_error, map_err, ok_no_err}
use Rattle.rh_word.proofs.Gathering.{stops_now}
use Rattle.rh_words.proofs.play.PlayWordScript.write_line.Goals as goal

-- the player behind a line, beside the text of what it is answered
does : (next : Player) (did : Player × List ℕ) → next ≡ did.0 → (next, did.1) ≡ did
does next did h = ap (λ (p : Player). (p, did.1)) h

-- the same text
gathers_same : (text same left : List ℕ) (before now : Out) → text ≡ same
    → Gathers text left before now → Gathers same left before now
gathers_same text same left before now is h =
    subst (λ (x : List ℕ). Gathers x left before now) is h

stops_same : (text same : List ℕ) (before now : Option (List ℕ)) → text ≡ same
    → Stops text before now → Stops same before now
stops_same text same before now is h = subst (λ (x : List ℕ). Stops x before now) is h

fits_same : (text same : List ℕ) (room : ℕ) → text ≡ same → length same ≤ room
    → length text ≤ room
fits_same text same room is h = subst (λ (x : List ℕ). length x ≤ room) (sym is) h

-- what follows without an error follows at each value
at_ok : (r : Result (Unit {0}) Unfinished) (P : Unit {0} → Type 0) (Q : Type 0)
    → OnOk r Q → (Q → (next : Unit {0}) → P next) → IfOk r P
at_ok (Ok x) P Q h f = f h x
at_ok (Err e) P Q h f = tt

at_err : (r : Result (Unit {0}) Unfinished) (P : Type 0) (e : Unfinished) → OnErr r P → r ≡ Err e
    → P
at_err (Ok x) P e h is = absurd (cc)
at_err (Err other) P e h is = h

-- where the one failure is not there, there is none
at_no_fault : (r : Result (Unit {0}) Unfinished) (P : Type 0) → OnOk r P
    → OnErr r (r ≡ Err WriteFault) → r ≢ Err WriteFault → P
at_no_fault (Ok x) P h fault other = h
at_no_fault (Err e) P h fault other = absurd (other fault)

pub returns-in-Err-NoMemory-clause-err : goal.returns-in-Err-NoMemory-clause-err
returns-in-Err-NoMemory-clause-err g c =
    let (step, spelled) = c.requires.line in
    let (told, next, done) = goes_on c.args.self.now tt c.args.line.now step spelled in (
      step,
      told,
      next,
      spelled,
      done,
      stops_now (string_bytes c.args.gathered.now ++ told)
          (out g.W.Sink.written g.W.Sink.takes c.args.output.now),
    )

pub returns-in_err-step-clause-err : goal.returns-in_err-step-clause-err
returns-in_err-step-clause-err g c =
    let (step, spelled) = c.requires.line in
    let (told, next, done) = goes_on c.args.self.now tt c.args.line.now step spelled in
    at_error c.from_residual.result _ (
      step,
      told,
      next,
      spelled,
      done,
      stops_now (string_bytes c.args.gathered.now ++ told)
          (out g.W.Sink.written g.W.Sink.takes c.args.output.now),
    )

pub returns-clause-ok : goal.returns-clause-ok
returns-clause-ok g c =
    let did = does _ _ c.in_ok-step.ensures.0 in
    at_ok c.pass_on.result _ _ c.pass_on.ensures.ok (λ h next. (
      c.in-Ok.step,
      _,
      c.in-Ok.ensures.step,
      refl,
      did,
      gathers_same _ _ _ _ _ c.in_ok-step.ensures.1 h,
    ))

pub returns-clause-err : goal.returns-clause-err
returns-clause-err g c =
    let did = does _ _ c.in_ok-step.ensures.0 in
    map_err c.pass_on.result (λ h. (
      c.in-Ok.step,
      _,
      _,
      c.in-Ok.ensures.step,
      did,
      stops_same _ _ _ _ c.in_ok-step.ensures.1 h,
    )) c.pass_on.ensures.err

pub returns-clause-failed : goal.returns-clause-failed
returns-clause-failed g c = λ said. at_err c.pass_on.result _ _ c.pass_on.ensures.failed said

pub returns-clause-no_failure : goal.returns-clause-no_failure
returns-clause-no_failure g c = λ other.
    at_no_fault c.pass_on.result _ c.pass_on.ensures.no_failure c.pass_on.ensures.fault other

pub returns-clause-takes : goal.returns-clause-takes
returns-clause-takes g c = λ all said.
    let did = does _ _ c.in_ok-step.ensures.0 in
    let fits = all c.in-Ok.step _ _ c.in-Ok.ensures.step did in
    ok_no_err c.pass_on.result (c.pass_on.ensures.takes
    (fits_same _ _ _ c.in_ok-step.ensures.1 fits)) said

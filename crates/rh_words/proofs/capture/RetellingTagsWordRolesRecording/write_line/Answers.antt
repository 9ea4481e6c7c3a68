-- the line that is done is one of a recording of roles
use Rattle.std.proofs.Common.{List, ℕ, Ok, Err, IfOk, sym, subst}
use Rattle.std.specs.declared.result.Result.{Result}
use Rattle.rh_record.specs.declared.line.Line.{Line}
use Rattle.rh_record.specs.declared.place.Place.{Place}
use Rattle.rh_record.specs.Places.{Stands}
use Rattle.rh_record.specs.Readings.{one_line_at}
use Rattle.rh_capture.specs.Recordings.{StandsInRoles}
use Rattle.rh_word.proofs.Results.{map_err}
use Rattle.rh_words.proofs.capture.RetellingTagsWordRolesRecording.write_line.Goals as goal

-- the line that stands there is of a recording of roles, since one that is stands there
of_roles : (place : Place) (text : List ℕ) (line other : Line) → Stands place text line
    → StandsInRoles place text other → StandsInRoles place text line
of_roles place text line other h k =
    subst (λ (l : Line). StandsInRoles place text l)
    (sym (one_line_at place text line other h k.stands)) k

if_ok : {T E : Type 0} (r : Result T E) (P Q : T → Type 0) → ((x : T) → P x → Q x) → IfOk r P
    → IfOk r Q
if_ok (Ok x) P Q f h = f x h
if_ok (Err e) P Q f h = tt

pub returns-clause-ok : goal.returns-clause-ok
returns-clause-ok g c =
    let (other, there) = c.requires.line in
    if_ok c.do_line.result _ _
    (λ later did. (
      did.0,
      did.1,
      of_roles c.args.place c.args.line.now did.0 other did.2 there,
      did.3,
      did.4,
      did.5,
    ))
    c.do_line.ensures.ok

pub returns-clause-err : goal.returns-clause-err
returns-clause-err g c =
    let (other, there) = c.requires.line in
    map_err c.do_line.result
    (λ did. (
      did.0,
      did.1,
      did.2,
      of_roles c.args.place c.args.line.now did.0 other did.3 there,
      did.4,
      did.5,
    ))
    c.do_line.ensures.err

pub returns-clause-takes : goal.returns-clause-takes
returns-clause-takes g c = λ all.
    let (other, there) = c.requires.line in
    c.do_line.ensures.takes
    (λ line said after stands. all line said after
    (of_roles c.args.place c.args.line.now line other stands there))

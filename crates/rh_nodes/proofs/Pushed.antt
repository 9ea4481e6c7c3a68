-- one answer is reported
use Rattle.std.proofs.Common.{◌≡◌, ℕ, ◌<◌, List, [], ◌∷◌, ◌++◌, Bool, length, Ok, Err, OnOk, OnErr, Some, refl, sym, ◌∙◌, ap, subst, arith}
use Rattle.std.proofs.lemmas.List.{append-nil}
use Rattle.std.specs.declared.result.Result.{Result}
use Rattle.rh_text.specs.Writing.{Writes}
use Rattle.rh_text.specs.declared.ends.Dir.{Dir}
use Rattle.rh_line.specs.declared.leg.Leg.{Leg}
use Rattle.rh_record.specs.declared.answer.Answer.{Answer}
use Rattle.rh_record.specs.declared.answer.Answer.TheVariants.{EndLeg, Move}
use Rattle.rh_company.specs.Company.{Rulebook}
use Rattle.rh_nodes.specs.Breaking.{end_leg}
use Rattle.rh_nodes.specs.Reports.{Tells}
use Rattle.rh_nodes.specs.Settling.{carry, carried, end_one, end_where, ended, ends_now}
use Rattle.rh_nodes.specs.World.{World}

-- an answer was added, or could not be
pub tells_pushed : {W E : Type 0} (did : W × List Answer) (answer : Answer)
    (result : Result (Unit {0}) E) (now : W) (before after : List Answer)
    → did ≡ (now, answer ∷ [])
    → OnOk result (after ≡ before ++ answer ∷ []) → OnErr result (after ≡ before)
    → Tells did result now before after
tells_pushed {W} {E} did answer (Ok done) now before after is added kept =
    subst (λ (d : W × List Answer). Tells {E = E} d (Ok done) now before after) (sym is)
    (record { world = refl; report = added })
tells_pushed {W} {E} did answer (Err failed) now before after is added kept =
    record { world = tt; report = ([], did.1, refl, kept ∙ sym (append-nil before)) }

-- a leg was ended
pub ended_is : {K C S I O : Type 0} (r : Rulebook C S I O) (leg : Leg) (w next : World K C S I O)
    (dir : Dir) (ok : Bool)
    → ends_now r leg w ≡ Some dir → (next, ok) ≡ end_leg r w leg dir
    → end_one r leg w ≡ (next, EndLeg leg dir ok ∷ [])
ended_is r leg w next dir ok now did = ap (end_where r leg w) now ∙ ap (ended leg dir) (sym did)

-- bytes were fed
some_carried : {W : Type 0} (leg : Leg) (dir : Dir) (w : W) (bytes : List ℕ) → 0 < length bytes
    → carried leg dir (w, Some bytes) ≡ (w, Move (Some leg) dir (Some bytes) ∷ [])
some_carried leg dir w [] some = absurd (omega arith)
some_carried leg dir w (b ∷ bytes) some = refl

pub carried_is : {K C S I O : Type 0} (r : Rulebook C S I O) (leg : Leg) (dir : Dir)
    (w next : World K C S I O) (bytes : List ℕ)
    → carried leg dir (next, Some bytes) ≡ carry r leg dir w → 0 < length bytes
    → carry r leg dir w ≡ (next, Move (Some leg) dir (Some bytes) ∷ [])
carried_is r leg dir w next bytes did some = sym did ∙ some_carried leg dir next bytes some

-- an answer was added, or could not be
pub writes_pushed : {X E : Type 0} (x : X) (result : Result (Unit {0}) E) (before after : List X)
    → OnOk result (after ≡ before ++ x ∷ []) → OnErr result (after ≡ before)
    → Writes (x ∷ []) result before after
writes_pushed x (Ok done) before after added kept = added
writes_pushed x (Err failed) before after added kept =
    ([], x ∷ [], refl, kept ∙ sym (append-nil before))

-- facts at an error
use Rattle.std.proofs.Common.{◌≡◌, Ok, Err, OnOk, OnErr, subst}
use Rattle.std.specs.declared.result.Result.{Result}
use Rattle.std.proofs.lemmas.Bool.{false≢true}
use Rattle.std.specs.Result.{IsOk, IsErrAnd}

-- what holds anyway holds at an error
pub at_error : {T E : Type 0} (r : Result T E) (P : Type 0) → P → OnErr r P
at_error (Ok x) P h = tt
at_error (Err e) P h = h

-- no result is both
pub ok_not_err : {T E : Type 0} {x : T} {e : E} → Ok x ≡ Err e → ⊥
ok_not_err {T} {E} {x} {e} h = absurd (cc)

-- what holds of an error holds of the one that it is
pub of_err : {T E : Type 0} (P : E → Type 0) (r : Result T E) {e : E} → r ≡ Err e → IsErrAnd r P
    → P e
of_err {T} {E} P r {e} is h = subst (λ (x : Result T E). IsErrAnd x P) is h

pub ok_no_err : {T E : Type 0} (r : Result T E) {e : E} → IsOk r → r ≡ Err e → ⊥
ok_no_err {T} {E} r {e} ok is = false≢true (subst (λ (x : Result T E). IsOk x) is ok)

-- what follows follows where there is no error, and where there is one
pub map_ok : {T E P Q : Type 0} (r : Result T E) → (P → Q) → OnOk r P → OnOk r Q
map_ok (Ok x) f h = f h
map_ok (Err e) f h = tt

pub map_err : {T E P Q : Type 0} (r : Result T E) → (P → Q) → OnErr r P → OnErr r Q
map_err (Ok x) f h = tt
map_err (Err e) f h = f h

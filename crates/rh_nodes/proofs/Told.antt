-- reports of what is done one after the other
use Rattle.std.proofs.Common.{◌≡◌, ℕ, zero, suc, ◌+◌, ◌-◌, ◌<◌, List, [], ◌++◌, Ok, Err, refl, sym, ◌∙◌, ap, subst, append_assoc, arith, add-one, IsErrAnd, Bool, true, if◌then◌else◌}
use Rattle.std.proofs.lemmas.Result.{err_from_is_err_and}
use Rattle.std.proofs.lemmas.List.{append-nil}
use Rattle.std.specs.declared.result.Result.{Result}
use Rattle.rh_text.specs.Writing.{Writes}
use Rattle.rh_record.specs.declared.answer.Answer.{Answer}
use Rattle.rh_company.proofs.Appending.{writes_both, writes_one}
use Rattle.rh_nodes.specs.Reports.{and_then, each, Tells}

-- nothing was done
pub tells_none : {W E : Type 0} (w : W) (report : List Answer)
    → Tells {E = E} (w, []) (Ok tt) w report report
tells_none w report = record { world = refl; report = sym (append-nil report) }

tells_err : {W E : Type 0} (did : W × List Answer) (failed : E) (now : W)
    (before after : List Answer) → Writes did.1 (Err failed) before after
    → Tells did (Err failed) now before after
tells_err did failed now before after k = record { world = tt; report = k }

-- it could not be done, and a front of it was reported
pub tells_front : {W E : Type 0} (Q : E → Type 0) (did : W × List Answer)
    (result : Result (Unit {0}) E) (now : W) (before after : List Answer)
    → IsErrAnd result Q
    → (front : List Answer) × (rest : List Answer) × (did.1 ≡ front ++ rest)
    × (after ≡ before ++ front)
    → Tells did result now before after
tells_front {W} {E} Q did result now before after is k =
    let p = err_from_is_err_and result is in
    subst (λ (r : Result (Unit {0}) E). Tells did r now before after) (sym p.1)
    (tells_err did p.0 now before after k)

-- it could not be done, and nothing was reported
pub tells_failed : {W E : Type 0} (Q : E → Type 0) (did : W × List Answer)
    (result : Result (Unit {0}) E) (now : W) (before after : List Answer)
    → IsErrAnd result Q → after ≡ before → Tells did result now before after
tells_failed {W} {E} Q did result now before after is same =
    let p = err_from_is_err_and result is in
    subst (λ (r : Result (Unit {0}) E). Tells did r now before after) (sym p.1)
    (tells_err did p.0 now before after ([], did.1, refl, same ∙ sym (append-nil before)))

-- something was done, and then something else
pub tells_then : {W E : Type 0} (did : W × List Answer) (act : W → W × List Answer)
    (result : Result (Unit {0}) E) (mid now : W) (before here after : List Answer)
    → mid ≡ did.0 → here ≡ before ++ did.1 → Tells (act mid) result now here after
    → Tells (and_then did act) result now before after
tells_then did act result mid now before here after world report k =
    let t = subst (λ w. Tells (act w) result now here after) world k in
    record {
      world = t.world;
      report = writes_both did.1 (act did.0).1 result before here after report t.report;
    }

-- the first could not be done
pub tells_cut : {W E : Type 0} (did : W × List Answer) (act : W → W × List Answer)
    (failed : E) (mid now : W) (before after : List Answer)
    → Tells did (Err failed) mid before after
    → Tells (and_then did act) (Err failed) now before after
tells_cut did act failed mid now before after k =
    record {
      world = tt;
      report = writes_one did.1 (act did.0).1 failed before after k.report;
    }

-- the first could not be done, and that is handed on
pub tells_handed : {W E : Type 0} (Q : E → Type 0) (did : W × List Answer)
    (act : W → W × List Answer) (result : Result (Unit {0}) E) (failed : E) (mid now : W)
    (before after : List Answer) → IsErrAnd result Q → Tells did (Err failed) mid before after
    → Tells (and_then did act) result now before after
tells_handed {W} {E} Q did act result failed mid now before after is k =
    let p = err_from_is_err_and result is in
    subst (λ (r : Result (Unit {0}) E). Tells (and_then did act) r now before after) (sym p.1)
    (record {
      world = tt;
      report = writes_one did.1 (act did.0).1 p.0 before after k.report;
    })

-- ---- for each number

pub each_more : {W : Type 0} (n : ℕ) (act : ℕ → W → W × List Answer) (w : W)
    → each (n + 1) act w ≡ and_then (each n act w) (act n)
each_more n act w = ap (λ m. each m act w) (add-one n)

-- nothing happens at the numbers below one
pub each_idle : {W : Type 0} (n : ℕ) (act : ℕ → W → W × List Answer) (w : W)
    → ((k : ℕ) → k < n → act k w ≡ (w, [])) → each n act w ≡ (w, [])
each_idle zero act w idle = refl
each_idle (suc n) act w idle =
    ap (λ did. and_then did (act n)) (each_idle n act w (λ k below. idle k (omega arith)))
    ∙ idle n (omega arith)

-- what is reported up to a number is a front of what is reported up to a later one
pub each_front : {W : Type 0} (d n m : ℕ) (act : ℕ → W → W × List Answer) (w : W)
    → m ≡ n + d
    → (rest : List Answer) × ((each m act w).1 ≡ (each n act w).1 ++ rest)
each_front zero n m act w e =
    let same : m ≡ n = omega arith in
    ([], ap (λ k. (each k act w).1) same ∙ sym (append-nil (each n act w).1))
each_front (suc d) n m act w e =
    let last : m ≡ suc (n + d) = omega arith in
    let (rest, cut) = each_front d n (n + d) act w refl in (
      rest ++ (act (n + d) (each (n + d) act w).0).1,
      ap (λ k. (each k act w).1) last
          ∙ ap (λ (x : List Answer). x ++ (act (n + d) (each (n + d) act w).0).1) cut
          ∙ append_assoc (each n act w).1 rest (act (n + d) (each (n + d) act w).0).1,
    )

-- ---- a loop over numbers

-- so much was done, and reported behind what stood there
pub record Reached {W : Type 0} (did : W × List Answer) (now : W) (before after : List Answer)
    : Type 0 where
  pub world : now ≡ did.0
  pub report : after ≡ before ++ did.1

-- nothing was done yet, where nothing happens at the numbers before
pub reached_first : {W : Type 0} (n : ℕ) (act : ℕ → W → W × List Answer) (w now : W)
    (report : List Answer) → now ≡ w → ((k : ℕ) → k < n → act k w ≡ (w, []))
    → Reached (each n act w) now report report
reached_first n act w now report same idle =
    let none = each_idle n act w idle in
    record {
      world = same ∙ sym (ap (λ did. did.0) none);
      report = sym (ap (λ did. report ++ did.1) none ∙ append-nil report);
    }

-- one number more
pub reached_more : {W E : Type 0} (n : ℕ) (act : ℕ → W → W × List Answer) (w : W)
    (now next : W) (before here after : List Answer)
    → Reached (each n act w) now before here
    → Tells {E = E} (act n now) (Ok tt) next here after
    → Reached (each (n + 1) act w) next before after
reached_more n act w now next before here after h k =
    let t = tells_then (each n act w) (act n) (Ok tt) now next before here after h.world
    h.report k in
    let more = sym (each_more n act w) in
    record {
      world = t.world ∙ ap (λ did. did.0) more;
      report = t.report ∙ ap (λ did. before ++ did.1) more;
    }

-- at all numbers
pub reached_all : {W E : Type 0} (n m : ℕ) (act : ℕ → W → W × List Answer) (w : W) (now : W)
    (before after : List Answer) → n ≡ m → Reached (each n act w) now before after
    → Tells {E = E} (each m act w) (Ok tt) now before after
reached_all n m act w now before after e h = record {
  world = h.world ∙ ap (λ k. (each k act w).0) e;
  report = h.report ∙ ap (λ k. before ++ (each k act w).1) e;
}

-- a number could not be done
pub reached_cut : {W E : Type 0} (n m : ℕ) (act : ℕ → W → W × List Answer) (w : W) (now next : W)
    (before here after : List Answer) (failed : E) → n < m
    → Reached (each n act w) now before here
    → Tells (act n now) (Err failed) next here after
    → Tells (each m act w) (Err failed) next before after
reached_cut n m act w now next before here after failed below h k =
    let t = tells_then (each n act w) (act n) (Err failed) now next before here after h.world
    h.report k in
    let (front, left, cut, there) = t.report in
    let (rest, whole) = each_front (m - (n + 1)) (n + 1) m act w (omega arith) in
    let more = ap (λ did. did.1) (each_more n act w) in
    record {
      world = tt;
      report = (
        front,
        left ++ rest,
        whole ∙ ap (λ (x : List Answer). x ++ rest) (more ∙ cut) ∙ append_assoc front left rest,
        there,
      );
    }

-- a number could not be done, and that is handed on
pub reached_handed : {W E : Type 0} (Q : E → Type 0) (n m : ℕ) (act : ℕ → W → W × List Answer)
    (w now next last : W) (before here after : List Answer) (result : Result (Unit {0}) E)
    (failed : E) → n < m → IsErrAnd result Q → Reached (each n act w) now before here
    → Tells (act n now) (Err failed) next here after
    → Tells (each m act w) result last before after
reached_handed {W} {E} Q n m act w now next last before here after result failed below is h k =
    let p = err_from_is_err_and result is in
    subst (λ (r : Result (Unit {0}) E). Tells (each m act w) r last before after) (sym p.1)
    (record {
      world = tt;
      report = (reached_cut n m act w now next before here after p.0 below h
          (record { world = tt; report = k.report })).report;
    })

-- where a test is passed
pub tells_if : {W E : Type 0} (test : Bool) (one two : W × List Answer)
    (result : Result (Unit {0}) E) (now : W) (before after : List Answer)
    → test ≡ true → Tells one result now before after
    → Tells (if test then one else two) result now before after
tells_if test one two result now before after is h =
    subst (λ (b : Bool). Tells (if b then one else two) result now before after) (sym is) h

-- rounds, one after the other
use Rattle.std.proofs.Common.{◌≡◌, ℕ, zero, suc, ◌+◌, List, [], ◌∷◌, ◌++◌, Ok, Err, OnOk, length, refl, sym, ◌∙◌, ap, subst, append_assoc, arith, length-append, IsErrAnd}
use Rattle.std.proofs.lemmas.List.{append-nil}
use Rattle.std.proofs.lemmas.Result.{err_from_is_err_and}
use Rattle.std.specs.declared.result.Result.{Result}
use Rattle.rh_text.specs.Writing.{Writes}
use Rattle.rh_record.specs.declared.answer.Answer.{Answer}
use Rattle.rh_record.specs.declared.answer.Answer.TheVariants.{Quiet, Spent}
use Rattle.rh_company.proofs.Appending.{writes_both, writes_one}
use Rattle.rh_nodes.specs.Reports.{and_then, Tells}
use Rattle.rh_nodes.specs.Settling.{behind_round, rounds_from}

-- ---- what comes next

-- none is left
pub spent : {W : Type 0} (count : ℕ) (one : W → W × List Answer) (w : W)
    → rounds_from zero count one w ≡ (w, Spent count ∷ [])
unfolding rounds_from
spent count one w = refl

next : {W : Type 0} (left count : ℕ) (one : W → W × List Answer) (w : W)
    → rounds_from (suc left) count one w
    ≡ behind_round count (one w) (λ later. rounds_from left (count + 1) one later)
unfolding rounds_from
next left count one w = refl

-- the round was quiet
quiet_by : {W : Type 0} (count : ℕ) (did : W × List Answer) (rest : W → W × List Answer)
    → did.1 ≡ [] → behind_round count did rest ≡ (did.0, Quiet count ∷ [])
quiet_by count (w, []) rest none = refl
quiet_by count (w, a ∷ more) rest none = absurd (cc)

-- the round reported something
busy_by : {W : Type 0} (count n : ℕ) (did : W × List Answer) (rest : W → W × List Answer)
    → length did.1 ≡ suc n → behind_round count did rest ≡ and_then did rest
busy_by count n (w, []) rest some = absurd (cc)
busy_by count n (w, a ∷ more) rest some = refl

-- the round is reported first
first_by : {W : Type 0} (count : ℕ) (did : W × List Answer) (rest : W → W × List Answer)
    → (behind : List Answer) × ((behind_round count did rest).1 ≡ did.1 ++ behind)
first_by count (w, []) rest = (Quiet count ∷ [], refl)
first_by count (w, a ∷ more) rest = ((rest w).1, refl)

-- what holds holds where it was done
on_ok : {A E P : Type 0} (result : Result A E) → P → OnOk result P
on_ok (Ok done) p = p
on_ok (Err failed) p = tt

-- ---- what was reported so far, and what is left

pub record Settles {W : Type 0} (whole rest : W × List Answer) (before after : List Answer)
    : Type 0 where
  pub front : List Answer
  pub here : after ≡ before ++ front
  pub world : whole.0 ≡ rest.0
  pub report : whole.1 ≡ front ++ rest.1

pub settles_first : {W : Type 0} (whole : W × List Answer) (before : List Answer)
    → Settles whole whole before before
settles_first whole before =
    record { front = []; here = sym (append-nil before); world = refl; report = refl }

-- the rest was done
settles_all : {W E : Type 0} (whole rest : W × List Answer) (result : Result (Unit {0}) E) (now : W)
    (before here after : List Answer) → Settles whole rest before here
    → Tells rest result now here after → Tells whole result now before after
settles_all {W} whole rest result now before here after h k = record {
  world = subst (λ (w : W). OnOk result (now ≡ w)) (sym h.world) k.world;
  report = subst (λ (x : List Answer). Writes x result before after) (sym h.report)
      (writes_both h.front rest.1 result before here after h.here k.report);
}

-- all rounds were done
pub settles_spent : {W E : Type 0} (count left : ℕ) (one : W → W × List Answer)
    (whole : W × List Answer) (now : W) (result : Result (Unit {0}) E)
    (before here after : List Answer)
    → left ≡ 0
    → Settles whole (rounds_from left count one now) before here
    → Writes (Spent count ∷ []) result here after → Tells whole result now before after
settles_spent {W} {E} count left one whole now result before here after none h k =
    let rest : rounds_from left count one now ≡ (now, Spent count ∷ []) =
    ap (λ n. rounds_from n count one now) none ∙ spent count one now in
    let done : Tells (now, Spent count ∷ []) result now here after =
    record { world = on_ok result refl; report = k } in
    settles_all whole (rounds_from left count one now) result now before here after h
    (subst (λ (did : W × List Answer). Tells did result now here after) (sym rest) done)

-- a round reported something
pub settles_more : {W : Type 0} (left less count n : ℕ) (one : W → W × List Answer)
    (whole : W × List Answer) (w now : W) (before here after : List Answer)
    → left ≡ suc less → now ≡ (one w).0 → after ≡ here ++ (one w).1 → length (one w).1 ≡ suc n
    → Settles whole (rounds_from left count one w) before here
    → Settles whole (rounds_from less (count + 1) one now) before after
settles_more {W} left less count n one whole w now before here after e moved more some h =
    let rest : rounds_from left count one w
    ≡ and_then (one w) (λ later. rounds_from less (count + 1) one later) =
    ap (λ k. rounds_from k count one w) e ∙ next less count one w
    ∙ busy_by count n (one w) (λ later. rounds_from less (count + 1) one later) some in
    let there = sym (ap (λ v. rounds_from less (count + 1) one v) moved) in
    record {
      front = h.front ++ (one w).1;
      here = more ∙ ap (λ (x : List Answer). x ++ (one w).1) h.here
          ∙ append_assoc before h.front (one w).1;
      world = h.world ∙ ap (λ did. did.0) rest ∙ ap (λ did. did.0) there;
      report = h.report ∙ ap (λ did. h.front ++ did.1) rest
          ∙ ap (λ (did : W × List Answer). h.front ++ ((one w).1 ++ did.1)) there
          ∙ sym (append_assoc h.front (one w).1 (rounds_from less (count + 1) one now).1);
    }

-- a round was quiet
pub settles_quiet : {W E : Type 0} (left less count : ℕ) (one : W → W × List Answer)
    (whole : W × List Answer) (w now : W) (result : Result (Unit {0}) E)
    (before here mid after : List Answer)
    → left ≡ suc less → now ≡ (one w).0 → mid ≡ here ++ (one w).1 → (one w).1 ≡ []
    → Settles whole (rounds_from left count one w) before here
    → Writes (Quiet count ∷ []) result mid after → Tells whole result now before after
settles_quiet {W} {E} left less count one whole w now result before here mid after e moved more none
    h k =
    let rest : rounds_from left count one w ≡ ((one w).0, Quiet count ∷ []) =
    ap (λ n. rounds_from n count one w) e ∙ next less count one w
    ∙ quiet_by count (one w) (λ later. rounds_from less (count + 1) one later) none in
    let same : mid ≡ here =
    more ∙ ap (λ (x : List Answer). here ++ x) none ∙ append-nil here in
    let done : Tells ((one w).0, Quiet count ∷ []) result now here after =
    record {
      world = on_ok result moved;
      report = subst (λ (x : List Answer). Writes (Quiet count ∷ []) result x after) same k;
    } in
    settles_all whole (rounds_from left count one w) result now before here after h
    (subst (λ (did : W × List Answer). Tells did result now here after) (sym rest) done)

-- a round could not be done
pub settles_cut : {W E : Type 0} (left less count : ℕ) (one : W → W × List Answer)
    (whole : W × List Answer) (w now : W) (failed : E) (before here after : List Answer)
    → left ≡ suc less → Settles whole (rounds_from left count one w) before here
    → Tells (one w) (Err failed) now here after → Tells whole (Err failed) now before after
settles_cut {W} {E} left less count one whole w now failed before here after e h k =
    let (behind, cut) = first_by count (one w) (λ later. rounds_from less (count + 1) one later) in
    let rest : (rounds_from left count one w).1 ≡ (one w).1 ++ behind =
    ap (λ n. (rounds_from n count one w).1) e ∙ ap (λ did. did.1) (next less count one w) ∙ cut in
    let some : Writes (rounds_from left count one w).1 (Err failed) here after =
    subst (λ (x : List Answer). Writes x (Err failed) here after) (sym rest)
    (writes_one (one w).1 behind failed here after k.report) in
    settles_all whole (rounds_from left count one w) (Err failed) now before here after h
    (record { world = tt; report = some })

-- a round could not be done, and that is handed on
pub settles_handed : {W E : Type 0} (Q : E → Type 0) (left less count : ℕ)
    (one : W → W × List Answer) (whole : W × List Answer) (w now last : W)
    (result : Result (Unit {0}) E) (failed : E) (before here after : List Answer)
    → left ≡ suc less → IsErrAnd result Q
    → Settles whole (rounds_from left count one w) before here
    → Tells (one w) (Err failed) now here after → Tells whole result last before after
settles_handed {W} {E} Q left less count one whole w now last result failed before here after e is
    h k =
    let p = err_from_is_err_and result is in
    let cut = settles_cut left less count one whole w now failed before here after e h k in
    subst (λ (r : Result (Unit {0}) E). Tells whole r last before after) (sym p.1)
    (record { world = tt; report = cut.report })

-- whether a round reported something
pub none_added : {X : Type 0} (here mid x : List X) → mid ≡ here ++ x → length mid ≡ length here
    → x ≡ []
none_added here mid [] more same = refl
none_added here mid (y ∷ x) more same =
    absurd (omega (arith, ap length more, length-append here (y ∷ x), same))

pub some_added : {X : Type 0} (here mid x : List X) → mid ≡ here ++ x
    → ((length mid ≡ length here) → ⊥) → (n : ℕ) × (length x ≡ suc n)
some_added here mid [] more differs = absurd (differs (ap length (more ∙ append-nil here)))
some_added here mid (y ∷ x) more differs = (length x, refl)

-- the calls of a seat stand in the history, each at its place
use Rattle.std.proofs.Common.{◌≡◌, ℕ, suc, ◌+◌, true, false, List, [], ◌∷◌, ◌++◌, length, Some, refl, sym, subst, ap, arith, ◌∙◌, append-nil}
use Rattle.std.specs.Prelude.{Bool, ◌==◌}
use Rattle.std.proofs.lemmas.Bool.Decides.{nat_tests}
use Rattle.std.proofs.lemmas.List.{append_assoc, length-append}
use mathlib.Core.List.{IsPrefix}
use Rattle.rh_turn.specs.Calls.{Acts}
use Rattle.rh_turn.specs.History.{state_after}
use Rattle.rh_turn.specs.Values.{SeatValue}
use Rattle.rh_turn.proofs.Histories.{reply_last}
use Rattle.rh_runs.specs.Own.{AreFrom, picked, those, HasThose}
use Rattle.rh_runs.specs.Runs.{Ran, RanIn, entries}
use Rattle.rh_runs.proofs.Own.{by_test, is-same, those-own}

same-tests : (p n : ℕ) → p ≡ n + 0 → (p == n) ≡ true
same-tests p n same = grind (arith, nat_tests)

other-tests : (p n k : ℕ) → p ≡ n + (k + 1) → (p == n) ≡ false
other-tests p n k same = grind (arith, nat_tests)

true-false : {A : Type 0} (b : Bool) → b ≡ true → b ≡ false → A
true-false true holds fails = absurd (cc fails)
true-false false holds fails = absurd (cc holds)

some-same : {A : Type 0} (a b : A) → Some a ≡ Some b → a ≡ b
some-same a b same = cc same

-- the first place is that of the entry behind these
picked-skip : {E : Type 0} (n p : ℕ) (ps : List ℕ) (front : List E) (e : E) (rest : List E)
    → p ≡ n + length front
    → picked n (p ∷ ps) (front ++ e ∷ rest) ≡ e ∷ picked (p + 1) ps rest
picked-skip n p ps [] e rest same =
    by_test (λ l. l ≡ e ∷ picked (p + 1) ps rest) (p == n)
    (e ∷ picked (n + 1) ps rest) (picked (n + 1) (p ∷ ps) rest)
    (λ holds. ap (λ m. e ∷ picked (m + 1) ps rest) (sym (is-same p n holds)))
    (λ fails. true-false (p == n) (same-tests p n same) fails)
picked-skip n p ps (f ∷ front) e rest same =
    by_test (λ l. l ≡ e ∷ picked (p + 1) ps rest) (p == n)
    (f ∷ picked (n + 1) ps (front ++ e ∷ rest)) (picked (n + 1) (p ∷ ps) (front ++ e ∷ rest))
    (λ holds. true-false (p == n) holds (other-tests p n (length front) (omega (arith, same))))
    (λ fails. picked-skip (n + 1) p ps front e rest (omega (arith, same)))

module _ {S E R : Type 0} (next : S → E → S) (reply : S → E → R) where
  after-append : (s : S) (front rest : List E)
      → state_after next s (front ++ rest) ≡ state_after next (state_after next s front) rest
  after-append s [] rest = refl
  after-append s (e ∷ front) rest = after-append (next s e) front rest

  entries-append : (s : S) (front rest : List E)
      → entries next reply s (front ++ rest)
      ≡ entries next reply s front ++ entries next reply (state_after next s front) rest
  entries-append s [] rest = refl
  entries-append s (e ∷ front) rest =
      ap (λ l. (e, reply s e) ∷ l) (entries-append (next s e) front rest)

  length-entries : (s : S) (events : List E) → length (entries next reply s events) ≡ length events
  length-entries s [] = refl
  length-entries s (e ∷ events) = ap suc (length-entries (next s e) events)

module _ {S E R : Type 0} (next : S → E → S) (reply : S → E → R) (first : S) where
  abbrev after : List E → S
  after seen = state_after next first seen

  -- what a call tells of the history behind what its seat had seen
  record Called (old mid : SeatValue E) (e : E) (r : R) : Type 0 where
    skipped : List E
    place : ℕ
    mine : mid.mine ≡ old.mine ++ place ∷ []
    seen : mid.seen ≡ old.seen ++ (skipped ++ e ∷ [])
    at : place ≡ length old.seen + length skipped
    long : length mid.seen ≡ place + 1
    answers : reply (state_after next (after old.seen) skipped) e ≡ r
    goes : after mid.seen ≡ next (state_after next (after old.seen) skipped) e

  called : (old mid : SeatValue E) (e : E) (r : R) → Acts next reply first e r old mid
      → Called old mid e r
  called old mid e r acts =
      let before = acts.before in
      let u = acts.goes_on.0 in
      let front : old.seen ++ u ≡ before = acts.goes_on.1 in
      let seen : mid.seen ≡ before ++ e ∷ [] = ap (λ s. s.seen) acts.seat in
      let state : after before ≡ state_after next (after old.seen) u =
      ap after (sym front) ∙ after-append next reply first old.seen u in
      let long : length before ≡ length old.seen + length u =
      ap length (sym front) ∙ length-append old.seen u in
      record {
        skipped = u;
        place = length before;
        mine = ap (λ s. s.mine) acts.seat;
        seen = seen ∙ ap (λ l. l ++ e ∷ []) (sym front) ∙ append_assoc old.seen u (e ∷ []);
        at = long;
        long = ap length seen ∙ length-append before (e ∷ []);
        answers = ap (λ s. reply s e) (sym state)
            ∙ some-same (reply (after before) e) r
            (sym (reply_last next reply first before e) ∙ acts.answers);
        goes = ap after seen
            ∙ after-append next reply first before (e ∷ [])
            ∙ ap (λ s. next s e) state;
      }

  record Stand (old now : SeatValue E) (calls : List (E × R)) (history : List E) : Type 0 where
    places : List ℕ
    behind : List E
    mine : now.mine ≡ old.mine ++ places
    whole : old.seen ++ behind ≡ history
    rise : AreFrom (length old.seen) places
    picks : picked (length old.seen) places (entries next reply (after old.seen) behind) ≡ calls

  stand-none : (old now : SeatValue E) (history : List E)
      → now ≡ old → IsPrefix now.seen history → Stand old now [] history
  stand-none old now history same goes =
      record {
        places = [];
        behind = goes.0;
        mine = ap (λ s. s.mine) same ∙ sym (append-nil old.mine);
        whole = ap (λ s. s.seen ++ goes.0) (sym same) ∙ goes.1;
        rise = tt;
        picks = refl;
      }

  stand-more : (old mid now : SeatValue E) (call : E × R) (calls : List (E × R))
      (history : List E)
      → Called old mid call.0 call.1 → Stand mid now calls history
      → Stand old now (call ∷ calls) history
  stand-more old mid now call calls history c rest =
      let e = call.0 in
      let u = c.skipped in
      let t = rest.behind in
      let s = after old.seen in
      let mids = state_after next s u in
      let deep : entries next reply s (u ++ e ∷ t)
      ≡ entries next reply s u ++ (e, reply mids e) ∷ entries next reply (next mids e) t =
      entries-append next reply s u (e ∷ t) in
      let long = length-entries next reply s u in
      let at : c.place ≡ length old.seen + length (entries next reply s u) =
      c.at ∙ ap (λ n. length old.seen + n) (sym long) in
      let after_it : picked (c.place + 1) rest.places (entries next reply (next mids e) t) ≡ calls =
      subst (λ q. picked (c.place + 1) rest.places (entries next reply q t) ≡ calls) c.goes
      (subst (λ m. picked m rest.places (entries next reply (after mid.seen) t) ≡ calls) c.long
      rest.picks) in
      record {
        places = c.place ∷ rest.places;
        behind = u ++ e ∷ t;
        mine = rest.mine ∙ ap (λ l. l ++ rest.places) c.mine
            ∙ append_assoc old.mine (c.place ∷ []) rest.places;
        whole = ap (λ l. old.seen ++ l) (sym (append_assoc u (e ∷ []) t))
            ∙ sym (append_assoc old.seen (u ++ e ∷ []) t)
            ∙ ap (λ l. l ++ t) (sym c.seen)
            ∙ rest.whole;
        rise = (omega (arith, c.at), subst (λ m. AreFrom m rest.places) c.long rest.rise);
        picks = ap (picked (length old.seen) (c.place ∷ rest.places)) deep
            ∙ picked-skip (length old.seen) c.place rest.places (entries next reply s u)
            (e, reply mids e) (entries next reply (next mids e) t) at
            ∙ ap (λ r. (e, r) ∷ picked (c.place + 1) rest.places
            (entries next reply (next mids e) t)) c.answers
            ∙ ap (λ l. call ∷ l) after_it;
      }

  stand : (old now : SeatValue E) (calls : List (E × R)) (history : List E)
      → Ran next reply first old now calls → IsPrefix now.seen history
      → Stand old now calls history
  stand old now [] history ran goes = stand-none old now history ran goes
  stand old now (call ∷ calls) history ran goes =
      stand-more old ran.0 now call calls history (called old ran.0 call.0 call.1 ran.1)
      (stand ran.0 now calls history ran.2 goes)

  pub calls-stand : (old now : SeatValue E) (calls : List (E × R)) (history : List E)
      → RanIn next reply first old now calls history
      → AreFrom 0 now.mine × (picked 0 now.mine (entries next reply first history) ≡ calls)
  calls-stand old now calls history run =
      let s = stand old now calls history run.ran run.goes_on in
      let zero : length old.seen ≡ 0 = ap length run.unseen in
      let mine : now.mine ≡ s.places = s.mine ∙ ap (λ l. l ++ s.places) run.none in
      let all : s.behind ≡ history = sym (ap (λ l. l ++ s.behind) run.unseen) ∙ s.whole in
      let at_first : picked (length old.seen) s.places (entries next reply first history) ≡ calls =
      subst (λ q. picked (length old.seen) s.places (entries next reply first q) ≡ calls) all
      (subst (λ q. picked (length old.seen) s.places (entries next reply (after q) s.behind) ≡ calls)
      run.unseen s.picks) in (
        subst (AreFrom 0) (sym mine) (subst (λ m. AreFrom m s.places) zero s.rise),
        subst (λ ps. picked 0 ps (entries next reply first history) ≡ calls) (sym mine)
            (subst (λ m. picked m s.places (entries next reply first history) ≡ calls) zero at_first),
      )

  pub calls-are-those : (old now : SeatValue E) (calls : List (E × R)) (history : List E)
      (test : E × R → Bool)
      → RanIn next reply first old now calls history
      → HasThose test 0 now.mine (entries next reply first history)
      → those test (entries next reply first history) ≡ those test calls
  calls-are-those old now calls history test run has =
      let stands = calls-stand old now calls history run in
      those-own test 0 now.mine (entries next reply first history) stands.0 has
      ∙ ap (those test) stands.1

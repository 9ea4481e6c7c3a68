-- The steps that share a seat: split and join, and what a seat learns of its join.
use Rattle.std.proofs.Common.{◌≡◌, ◌≢◌, ℕ, ◌+◌, ◌≤◌, ◌<◌, List, [], ◌∷◌, ◌++◌, length, set, refl, sym, ◌∙◌, subst, ⊎_elim, arith}
use Rattle.std.specs.declared.option.Option.{Option}
use Rattle.std.proofs.lemmas.List.Sums.{sum_by_push, sum_by-append}
use mathlib.Core.Option.{some, none}
use mathlib.Core.List.{IsPrefix}
use lib.ListN.{get_elem?}
use Rattle.atomic_table.specs.Table.{State, keeps, step, Allows, Splits, Joins}
use Rattle.atomic_table.proofs.Lists.{set_else, at_snoc}
use Rattle.rh_turn.specs.declared.view.View.{View}
use Rattle.rh_turn.specs.declared.view.Stage.TheVariants.{Idle, Joined}
use Rattle.rh_turn.specs.History.{times, longer}
use Rattle.rh_turn.specs.Rule.{Account, Dealt, ticket, turn, place, parts, has, Fits, AreSeats, IsKept, Kept}
use Rattle.rh_turn.specs.Steps.{Mine, kept_part, new_part, joined, idle, spent, Settles}
use Rattle.rh_turn.proofs.Beginnings.{begins_shorter, longer_begins}
use Rattle.rh_turn.proofs.Sums.{sum_set}
use Rattle.rh_turn.proofs.Seats.{spent_has, at_stage, restaged, fitting, keeping, fits_set, fits_here, reseated, own, allows}

module _ {E : Type 0} {seats : ℕ} {views : List (View E)} {a : Account E}
    (are : AreSeats seats views a) where
  splits : (id : ℕ) (v : View E) → get_elem? views id ≡ some (idle v) → 2 ≤ v.parts
      → AreSeats seats (set views id (kept_part (idle v)) ++ new_part (idle v) ∷ []) a
  splits id v at two =
      let left = kept_part (idle v) in
      let right = new_part (idle v) in
      let fits = are.fits id (idle v) at in
      let shared : (d : Dealt) → has d left + has d right ≡ has d (idle v) =
      elim [ ticket k ↦ refl | turn ↦ refl | place k ↦ omega arith | parts ↦ omega arith ] in
      let kept : Fits a.log a.serving left =
      fitting (omega arith) fits.begins tt fits.within in
      let new : Fits a.log a.serving right =
      fitting (omega arith) fits.begins tt (λ k some_time. absurd (omega arith)) in record {
        dealt = λ d.
            let more = sum_by_push (has d) (set views id left) right in
            let changed = sum_set (has d) views id (idle v) left at in
            let was = are.dealt d in
            let both = shared d in
            omega arith;
        fits = λ i u there.
            ⊎_elim (λ was. fits_set views id left (λ j x _ here. are.fits j x here) kept i u was)
            (λ same. subst (Fits a.log a.serving) same new)
            (at_snoc (set views id left) right u i there);
      }

  joins : (id other : ℕ) (v w : View E) → get_elem? views id ≡ some (idle v) → 0 < v.parts
      → other ≢ id
      → get_elem? (set views id (joined (idle v) (idle w))) other ≡ some (idle w)
      → AreSeats seats (set (set views id (joined (idle v) (idle w))) other spent) a
  joins id other v w at some_part apart there =
      let both = joined (idle v) (idle w) in
      let fits = are.fits id (idle v) at in
      let theirs = are.fits other (idle w) (sym (set_else views id other both apart) ∙ there) in
      let long = longer_begins v.seen w.seen a.log fits.begins theirs.begins in
      let shared : (d : Dealt) → has d both ≡ has d (idle v) + has d (idle w) =
      elim [
        | ticket k ↦ refl
        | turn ↦ refl
        | place k ↦ sum_by-append _ v.mine w.mine
        | parts ↦ refl
      ] in
      let le = begins_shorter v.seen (longer v.seen w.seen) long.1 in
      let le' = begins_shorter w.seen (longer v.seen w.seen) long.2 in
      let within : (k : ℕ) → 0 < times k both.mine → k < length both.seen = λ k some_time.
      let sum = shared (place k) in
      let here = fits.within k in
      let there = theirs.within k in
      grind arith in
      let whole : Fits a.log a.serving both =
      fitting (omega arith) long.0 (long.1, long.2) within in
      let gone : Fits a.log a.serving spent = record {
        begins = (a.log, refl);
        knows = tt;
        within = λ k some_time. absurd (omega arith);
        spent = λ none_left. spent_has E;
      } in record {
        dealt = λ d.
            let changed = sum_set (has d) views id (idle v) both at in
            let taken = sum_set (has d) (set views id both) other (idle w) spent there in
            let was = are.dealt d in
            let sum = shared d in
            let none_left = spent_has E d in
            omega arith;
        fits = fits_set (set views id both) other spent (λ i u _ here.
            fits_set views id both (λ j x _ was. are.fits j x was) whole i u here) gone;
      }

module _ {S E : Type 0} (next : S → E → S) (first : S) (seats : ℕ) where
  -- other views of the same account
  with_views : {s : State (Option S) (View E)} {a : Account E} → IsKept next first seats s a
      → (views : List (View E)) → AreSeats seats views a
      → IsKept next first seats (record s { views = views }) a
  with_views kept views are = keeping kept.words_are kept.in_range kept.at_rest kept.slot_is are

  pub split_allows : (id : ℕ) (v : View E) → v.stage ≡ Idle → 2 ≤ v.parts
      → Splits (Kept next first seats) id v (kept_part v) (new_part v)
  split_allows id v is two =
      at_stage (λ u. Splits (Kept next first seats) id u (kept_part u) (new_part u)) Idle v is
      (λ s kept at. (kept.0, with_views kept.1 _ (splits kept.1.seats_are id v at two)))

  pub join_allows : (id : ℕ) (v : View E) (other : ℕ) (w : View E) → v.stage ≡ Idle → w.stage ≡ Idle
      → 0 < v.parts → Joins (Kept next first seats) id v other w (joined v w) spent
  join_allows id v other w is is' some_part =
      at_stage (λ u. Joins (Kept next first seats) id u other w (joined u w) spent) Idle v is
      (at_stage (λ u. Joins (Kept next first seats) id (idle v) other u (joined (idle v) u) spent)
      Idle w is'
      (λ s kept at apart there.
      (kept.0, with_views kept.1 _ (joins kept.1.seats_are id other v w at some_part apart there))))

  pub settle_allows : (slots id : ℕ) (me : Mine S E) (one other : List E)
      → me.0.stage ≡ Joined one other → 0 < me.0.parts
      → Allows (Kept next first seats) slots id me 0 (λ n. n) (Settles (step slots 0 0 0 none) me)
  settle_allows slots id me one other is some_part =
      allows next first seats slots id (Joined one other) me is 0 (λ n. n)
      (Settles (step slots 0 0 0 none)) (λ s a sits.
      let fits = fits_here sits in (
        idle me.0,
        keeps,
        tt,
        (
          a,
          reseated sits (idle me.0)
              (elim [ ticket k ↦ refl | turn ↦ refl | place k ↦ refl | parts ↦ refl ])
              (restaged fits some_part a.serving me.0.ticket Idle tt),
        ),
        λ x y told.
            let same : one ≡ x = cc (told) in
            let same' : other ≡ y = cc (told) in (
              refl,
              subst (λ l. IsPrefix l me.0.seen) same fits.knows.0,
              subst (λ l. IsPrefix l me.0.seen) same' fits.knows.1,
              own sits,
            ),
      ))

-- the history is dealt out among the seats that were taken in
use Rattle.std.proofs.Common.{◌≡◌, ℕ, List, [], ◌∷◌, ◌++◌, ap, arith, length, refl, subst, sym, ◌∙◌}
use Rattle.std.specs.Prelude.{◌==◌, nat_lt}
use Rattle.std.proofs.lemmas.List.Sums.{sum_by-cons, sum_by_push}
use mathlib.Core.List.{IsPrefix}
use Rattle.rh_turn.proofs.Beginnings.{begins_further, begins_itself}
use Rattle.rh_turn.specs.Calls.{Acts}
use Rattle.rh_turn.specs.History.{AreAll, one_if, times}
use Rattle.rh_turn.specs.Values.{SeatValue}
use Rattle.rh_runs.specs.Own.{AreFrom, picked}
use Rattle.rh_runs.specs.Runs.{CallsStand, entries}
use Rattle.law_shares.specs.Shares.{AllStand, IsDealt, Share, TakesIn, places_of}
use Rattle.law_shares.proofs.Taking.{takes-mine, takes-seen}

times-first : (k p : ℕ) (ps : List ℕ) → times k (p ∷ ps) ≡ times k (ps ++ p ∷ [])
times-first k p ps =
    let one = sum_by-cons (λ q. one_if (q == k)) p ps in
    let push = sum_by_push (λ q. one_if (q == k)) ps p in omega (arith, one, push)

-- the same seat, where its only place is this one
abbrev with-place : {E : Type 0} → ℕ → SeatValue E → SeatValue E
with-place place seat = record seat { mine = place ∷ [] }

module _ {S E R : Type 0} (stands : CallsStand S E R) (next : S → E → S) (reply : S → E → R)
    (first : S) where
  -- the calls of each stand in a history that goes on from what was seen
  all-stand : (old now : SeatValue E) (shares : List (Share E R)) (history : List E)
      → TakesIn next reply first old now shares → IsPrefix now.seen history
      → AllStand next reply first history shares
  all-stand old now [] history took goes = tt
  all-stand old now (share ∷ shares) history took goes =
      let seat = took.0 in
      let on = begins_further took.1.seen now.seen history
      (takes-seen next reply first took.1 now shares took.5) goes in
      let own = stands next reply first took.2.born seat share.calls history
      (record {
        ran = took.2.ran;
        unseen = took.2.unseen;
        none = took.2.none;
        goes_on = begins_further seat.seen took.1.seen history took.4.from_begins on;
      }) in (
        subst (AreFrom 0) (sym took.3) own.0,
        subst (λ ps. picked 0 ps (entries next reply first history) ≡ share.calls) (sym took.3) own.1,
        all-stand took.1 now shares history took.5 goes,
      )

  -- the last call
  last-stands : (now last : SeatValue E) (event : E) (answer : R)
      (acts : Acts next reply first event answer now last)
      → AreFrom 0 (length acts.before ∷ [])
      × (picked 0 (length acts.before ∷ []) (entries next reply first last.seen)
      ≡ (event, answer) ∷ [])
  last-stands now last event answer acts =
      let new : SeatValue E = record now { seen = []; mine = [] } in
      let then : SeatValue E = record last { mine = length acts.before ∷ [] } in
      stands next reply first new then ((event, answer) ∷ []) last.seen
      (record {
        ran = (
          then,
          record {
            before = acts.before;
            goes_on = (acts.before, refl);
            seat = ap (with-place (length acts.before)) acts.seat;
            answers = acts.answers;
          },
          refl,
        );
        unseen = refl;
        none = refl;
        goes_on = begins_itself last.seen;
      })

  pub history-is-dealt : (born now last : SeatValue E) (shares : List (Share E R)) (event : E)
      (answer : R) → born.seen ≡ [] → born.mine ≡ [] → TakesIn next reply first born now shares
      → Acts next reply first event answer now last → AreAll last.mine last.seen
      → (place : ℕ) × IsDealt next reply first last.seen
      (record { places = place ∷ []; calls = (event, answer) ∷ [] } ∷ shares)
  history-is-dealt born now last shares event answer unseen none took acts all =
      let place = length acts.before in
      let mine : last.mine ≡ places_of shares ++ place ∷ [] =
      ap (λ s. s.mine) acts.seat
      ∙ ap (λ ps. ps ++ place ∷ []) (takes-mine next reply first born now shares took
      ∙ ap (λ ps. ps ++ places_of shares) none) in
      let goes : IsPrefix now.seen last.seen =
      subst (IsPrefix now.seen) (sym (ap (λ s. s.seen) acts.seat))
      (begins_further now.seen acts.before (acts.before ++ event ∷ []) acts.goes_on
      (event ∷ [], refl)) in
      let own = last-stands now last event answer acts in (
        place,
        record {
          stand = (own.0, own.1, all-stand born now shares last.seen took goes);
          all = λ k. times-first k place (places_of shares)
              ∙ subst (λ ps. times k ps ≡ one_if (nat_lt k (length last.seen))) mine (all k);
        },
      )

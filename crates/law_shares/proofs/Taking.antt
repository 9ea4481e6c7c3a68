-- seats that were taken in
use Rattle.std.proofs.Common.{◌≡◌, ◌+◌, List, [], ◌∷◌, ◌++◌, append-nil, ap, arith, length, refl, subst, sym, ◌∙◌}
use Rattle.std.proofs.lemmas.List.{append_assoc}
use mathlib.Core.List.{IsPrefix}
use Rattle.rh_turn.proofs.Beginnings.{begins_further, begins_itself}
use Rattle.rh_turn.specs.Calls.{Joins}
use Rattle.rh_turn.specs.Values.{SeatValue}
use Rattle.rh_runs.specs.Runs.{Ran}
use Rattle.law_shares.specs.Shares.{Share, TakesIn, Worked, places_of}

module _ {S E R : Type 0} (next : S → E → S) (reply : S → E → R) (first : S) where
  -- a seat keeps its turn and its parts
  pub ran-parts : (old now : SeatValue E) (calls : List (E × R)) → Ran next reply first old now calls
      → now.parts ≡ old.parts
  ran-parts old now [] ran = ap (λ s. s.parts) ran
  ran-parts old now (call ∷ calls) ran =
      ran-parts ran.0 now calls ran.2 ∙ ap (λ s. s.parts) ran.1.seat

  pub ran-turn : (old now : SeatValue E) (calls : List (E × R)) → Ran next reply first old now calls
      → now.turn ≡ old.turn
  ran-turn old now [] ran = ap (λ s. s.turn) ran
  ran-turn old now (call ∷ calls) ran =
      ran-turn ran.0 now calls ran.2 ∙ ap (λ s. s.turn) ran.1.seat

  -- one seat more
  pub takes-more : (old mid now seat : SeatValue E) (shares : List (Share E R))
      (calls : List (E × R)) → TakesIn next reply first old mid shares
      → Worked next reply first seat calls → Joins mid seat now
      → TakesIn next reply first old now
      (shares ++ record { places = seat.mine; calls = calls } ∷ [])
  takes-more old mid now seat [] calls same worked joins =
      (seat, now, worked, refl, subst (λ s. Joins s seat now) same joins, refl)
  takes-more old mid now seat (share ∷ shares) calls took worked joins = (
    took.0,
    took.1,
    took.2,
    took.3,
    took.4,
    takes-more took.1 mid now seat shares calls took.5 worked joins,
  )

  -- each had one part
  pub takes-parts : (old now : SeatValue E) (shares : List (Share E R))
      → TakesIn next reply first old now shares → now.parts ≡ old.parts + length shares
  takes-parts old now [] same = let p = ap (λ s. s.parts) same in omega (arith, p)
  takes-parts old now (share ∷ shares) took =
      let rest = takes-parts took.1 now shares took.5 in
      let mid = ap (λ s. s.parts) took.4.seat in
      let one = ran-parts took.2.born took.0 share.calls took.2.ran in
      let had = took.2.one in
      omega (arith, rest, mid, one, had)

  pub takes-turn : (old now : SeatValue E) (shares : List (Share E R))
      → TakesIn next reply first old now shares → now.turn ≡ old.turn
  takes-turn old now [] same = ap (λ s. s.turn) same
  takes-turn old now (share ∷ shares) took =
      takes-turn took.1 now shares took.5 ∙ ap (λ s. s.turn) took.4.seat

  -- the places of all of them
  pub takes-mine : (old now : SeatValue E) (shares : List (Share E R))
      → TakesIn next reply first old now shares → now.mine ≡ old.mine ++ places_of shares
  takes-mine old now [] same = ap (λ s. s.mine) same ∙ sym (append-nil old.mine)
  takes-mine old now (share ∷ shares) took =
      takes-mine took.1 now shares took.5
      ∙ ap (λ s. s.mine ++ places_of shares) took.4.seat
      ∙ append_assoc old.mine took.0.mine (places_of shares)
      ∙ ap (λ ps. old.mine ++ (ps ++ places_of shares)) (sym took.3)

  -- what was seen before begins what was seen then
  pub takes-seen : (old now : SeatValue E) (shares : List (Share E R))
      → TakesIn next reply first old now shares → IsPrefix old.seen now.seen
  takes-seen old now [] same =
      subst (λ s. IsPrefix old.seen s) (sym (ap (λ s. s.seen) same)) (begins_itself old.seen)
  takes-seen old now (share ∷ shares) took =
      begins_further old.seen took.1.seen now.seen took.4.into_begins
      (takes-seen took.1 now shares took.5)

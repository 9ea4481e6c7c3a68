-- The steps of one call: draw, look, enter and raise.
use Rattle.std.proofs.Common.{◌≡◌, ℕ, ◌+◌, ◌<◌, ◌%◌, ◌^◌, ◌==◌, true, false, List, [], ◌∷◌, ◌++◌, length, Some, refl, sym, ap, ◌∙◌, subst, arith, length-append}
use Rattle.std.specs.Prelude.{nat_lt, slice_set, MatchBool}
use Rattle.std.specs.declared.option.Option.{Option}
use Rattle.std.proofs.lemmas.Bool.Decides.{nat_tests}
use mathlib.Core.Option.{some, none}
use lib.ListN.{get_elem?}
use prog.Atomic.{either}
use Rattle.atomic_table.specs.Table.{State, keeps, takes, gives, step, Allows}
use Rattle.rh_turn.specs.declared.view.View.{View}
use Rattle.rh_turn.specs.declared.view.Stage.TheVariants.{Idle, Waiting, Holding, Entered}
use Rattle.rh_turn.specs.History.{state_after, times, one_if}
use Rattle.rh_turn.specs.Rule.{Account, ticket, turn, place, parts, slot_of, Kept}
use Rattle.rh_turn.specs.Steps.{Mine, waiting, holding, entered, idle, TakesTurn, Draws, Looks, Enters, Raises}
use Rattle.rh_turn.proofs.Beginnings.{begins_itself, begins_shorter}
use Rattle.rh_turn.proofs.Sums.{one_here, below_more, times_push}
use Rattle.rh_turn.proofs.Seats.{restaged, fitting, keeping, table_of, Sits, fits_here, others_same, seats_set, reseated, served_is_drawn, none_holds, holds_it, slot_is_out, others_later, own, Goes, retold, allows}

-- a place just behind places below n
within_push : (n k : ℕ) (mine : List ℕ) → (0 < times k mine → k < n)
    → 0 < times k (mine ++ n ∷ []) → k < n + 1
within_push n k mine each some_time = let pushed = times_push k mine n in grind (arith, nat_tests)

module _ {S E : Type 0} (next : S → E → S) (first : S) (seats : ℕ) where
  module _ {s : State (Option S) (View E)} {a : Account E} {id : ℕ} (v : View E)
      (carried : List (ℕ × Option S)) (some_part : 0 < v.parts) where
    draw : Sits next first seats s a id (record v { stage = Idle }) → a.tickets + 1 < 2 ^ 64
        → Goes next first seats (table_of s a) 0 (a.tickets + 1) id carried
        (λ r. r ≡ (waiting v a.tickets, carried))
    draw sits room =
        let kept = sits.kept in
        let b : Account E = record a { tickets = a.tickets + 1 } in
        let are = seats_set sits (waiting v a.tickets) b
        (elim [
          | ticket k ↦ let more = below_more a.tickets k in omega arith
          | turn ↦ refl
          | place k ↦ refl
          | parts ↦ refl
        ])
        (others_same sits) (restaged (fits_here sits) some_part a.serving a.tickets Waiting tt) in
        let now = keeping refl room kept.at_rest kept.slot_is are in
        (waiting v a.tickets, keeps, tt, (b, now), refl)

    look : Sits next first seats s a id (record v { stage = Waiting }) → v.ticket ≡ a.serving
        → Goes next first seats (table_of s a) 1 a.serving id carried
        (TakesTurn next first (record v { stage = Waiting }, carried))
    look sits served =
        let kept = sits.kept in
        let fits = fits_here sits in
        let free = none_holds sits (one_here v.ticket a.serving served) refl in
        let rested = kept.at_rest free in
        let none_held : one_if a.is_held ≡ 0 = ap one_if free in
        let home = kept.slot_is ∙ ap (λ b. slot_of next first b a.log ∷ []) free in
        let shorter = begins_shorter v.seen a.log fits.begins in
        let b : Account E = record a { is_held = true } in
        let are = seats_set sits (holding v a.log) b
        (elim [ ticket k ↦ refl | turn ↦ omega arith | place k ↦ refl | parts ↦ refl ])
        (others_same sits)
        (fitting some_part (begins_itself a.log) (served, refl, rested)
        (λ k some_time. let here = fits.within k some_time in omega arith)) in
        let out = ap (λ hs. slice_set hs 0 none) home in
        let now = keeping refl kept.in_range (λ held. rested) out are in
        let value = Some (state_after next first a.log) in
        let there = ap (λ hs. get_elem? hs 0) home in
        (holding v a.log, takes 0 value, there, (b, now), (a.log, fits.begins, refl))

    enter : (event : E) → Sits next first seats s a id (record v { stage = Holding })
        → Goes next first seats (table_of s a) 2 ((length a.log + 1) % 2 ^ 64) id carried
        (λ r. r ≡ (entered v event, carried))
    enter event sits =
        let room = sits.kept.in_range in
        let fits = fits_here sits in
        let whole : v.seen ≡ a.log = fits.knows.1 in
        let rested : length a.log ≡ a.serving = fits.knows.2 in
        let drawn = served_is_drawn sits (one_here v.ticket a.serving fits.knows.0) in
        let held : one_if a.is_held ≡ 1 = ap one_if (holds_it sits refl) in
        let log : List E = v.seen ++ event ∷ [] in
        let longer : length log ≡ length v.seen + 1 = length-append v.seen (event ∷ []) in
        let same : length v.seen ≡ length a.log = ap length whole in
        let count : ℕ → ℕ → ℕ = λ k n. one_if (nat_lt k n) in
        let below : (k : ℕ) → count k (length log) ≡ count k (length v.seen + 1) =
        λ k. ap (λ m. one_if (nat_lt k m)) longer in
        let was : (k : ℕ) → count k (length v.seen) ≡ count k (length a.log) =
        λ k. ap (λ m. one_if (nat_lt k m)) same in
        let b : Account E = record a { log = log; is_held = true } in
        let are = seats_set sits (entered v event) b
        (elim [
          | ticket k ↦ refl
          | turn ↦ omega arith
          | place k ↦
              let pushed = times_push k v.mine (length v.seen) in
              let more = below_more (length v.seen) k in
              omega (arith, below k, was k)
          | parts ↦ refl
        ])
        (others_later sits refl log a.serving (event ∷ [], ap (λ es. es ++ event ∷ []) (sym whole)))
        (fitting some_part (begins_itself log) (fits.knows.0, refl, omega arith)
        (λ k some_time. subst (λ m. k < m) (sym longer)
        (within_push (length v.seen) k v.mine (fits.within k) some_time))) in
        let wrapped : (length a.log + 1) % 2 ^ 64 ≡ length log = omega arith in
        let entries = ap (λ m. a.tickets ∷ a.serving ∷ m ∷ []) wrapped in
        let not_free = λ (free : true ≡ false). absurd (cc free) in
        let now = keeping entries room not_free (slot_is_out sits refl) are in
        (entered v event, keeps, tt, (b, now), refl)

    raise : Sits next first seats s a id (record v { stage = Entered })
        → let slot : List (ℕ × Option S) = (0, Some (state_after next first v.seen)) ∷ [] in
        Goes next first seats (table_of s a) 1 ((a.serving + 1) % 2 ^ 64) id slot
        (Raises (step 0 0 0 0 none) (v, slot) a.serving)
    raise sits =
        let room = sits.kept.in_range in
        let fits = fits_here sits in
        let drawn = served_is_drawn sits (one_here v.ticket a.serving fits.knows.0) in
        let held : one_if a.is_held ≡ 1 = ap one_if (holds_it sits refl) in
        let b : Account E = record a { serving = a.serving + 1; is_held = false } in
        let are = seats_set sits (idle v) b
        (elim [
          | ticket k ↦
              let more = below_more a.serving k in
              let same : one_if (v.ticket == k) ≡ one_if (a.serving == k) =
              ap (λ m. one_if (m == k)) fits.knows.0 in
              omega arith
          | turn ↦ omega arith
          | place k ↦ refl
          | parts ↦ refl
        ])
        (others_later sits refl a.log (a.serving + 1) (begins_itself a.log))
        (restaged fits some_part (a.serving + 1) v.ticket Idle tt) in
        let value = some (Some (state_after next first v.seen)) in
        let back = ap (λ hs. slice_set hs 0 value) (slot_is_out sits refl)
        ∙ ap (λ es. slot_of next first false es ∷ []) fits.knows.1 in
        let wrapped : (a.serving + 1) % 2 ^ 64 ≡ a.serving + 1 = omega arith in
        let served = ap (λ m. a.tickets ∷ m ∷ length a.log ∷ []) wrapped in
        let now = keeping served room (λ free. fits.knows.2) back are in
        (idle v, gives, tt, (b, now), (refl, own sits))

  pub draw_allows : (slots id old : ℕ) (me : Mine S E) → me.0.stage ≡ Idle → 0 < me.0.parts
      → old + 1 < 2 ^ 64 → Allows (Kept next first seats) slots id me 0
      (λ n. either (n == old) (old + 1) n) (Draws (step slots 0 old (old + 1) none) me)
  draw_allows slots id old me is_idle some_part room =
      let m : Mine S E = (record me.0 { stage = Idle }, me.1) in
      allows next first seats slots id Idle me is_idle 0 (λ n. either (n == old) (old + 1) n)
      (Draws (step slots 0 old (old + 1) none)) (λ s a sits.
      elim (a.tickets == old) as (λ b. (a.tickets == old) ≡ b
      → Goes next first seats (table_of s a) 0 (either b (old + 1) a.tickets) id me.1
      (λ r. MatchBool b (r ≡ (waiting me.0 a.tickets, me.1)) (r ≡ m))) [
        | true ↦ λ hit.
            let same : a.tickets ≡ old = grind (arith, nat_tests) in
            subst (λ n. Goes next first seats (table_of s a) 0 (n + 1) id me.1
            (λ r. r ≡ (waiting me.0 a.tickets, me.1))) same
            (draw me.0 me.1 some_part sits (omega arith))
        | false ↦ λ miss.
            (m.0, keeps, tt, (a, reseated sits m.0 (λ d. refl) (fits_here sits)), refl)
      ] refl)

  pub look_allows : (slots id : ℕ) (me : Mine S E) (named : Option S) → named ≡ Some first
      → me.0.stage ≡ Waiting → 0 < me.0.parts
      → Allows (Kept next first seats) slots id me 1 (λ n. n)
      (Looks next named (step slots 1 0 0 none) me)
  look_allows slots id me named named_is waits some_part =
      let m : Mine S E = (record me.0 { stage = Waiting }, me.1) in
      allows next first seats slots id Waiting me waits 1 (λ n. n)
      (Looks next named (step slots 1 0 0 none)) (λ s a sits.
      let gone = elim (a.serving == me.0.ticket) as (λ b. (a.serving == me.0.ticket) ≡ b
      → Goes next first seats (table_of s a) 1 a.serving id me.1
      (λ r. MatchBool b (TakesTurn next first m r) (r ≡ m))) [
        | true ↦ λ hit. look me.0 me.1 some_part sits (grind (arith, nat_tests))
        | false ↦ λ miss.
            (m.0, keeps, tt, (a, reseated sits m.0 (λ d. refl) (fits_here sits)), refl)
      ] refl in
      let tells : S → Mine S E → Type 0 =
      λ f r. MatchBool (a.serving == me.0.ticket) (TakesTurn next f m r) (r ≡ m) in
      retold next first seats (table_of s a) 1 a.serving id me.1 (tells first)
      (Looks next named (step slots 1 0 0 none) m a.serving)
      (λ r told other is. subst (λ f. tells f r) (cc (named_is, is)) told) gone)

  pub enter_allows : (slots id : ℕ) (me : Mine S E) (named : Option E) (event : E)
      → named ≡ Some event → me.0.stage ≡ Holding → 0 < me.0.parts
      → Allows (Kept next first seats) slots id me 2 (λ n. (n + 1) % 2 ^ 64)
      (Enters named (step slots 2 1 0 none) me)
  enter_allows slots id me named event named_is holds some_part =
      allows next first seats slots id Holding me holds 2 (λ n. (n + 1) % 2 ^ 64)
      (Enters named (step slots 2 1 0 none)) (λ s a sits.
      let tells : E → Mine S E → Type 0 = λ e r. r ≡ (entered me.0 e, me.1) in
      retold next first seats (table_of s a) 2 ((length a.log + 1) % 2 ^ 64) id me.1 (tells event)
      (Enters named (step slots 2 1 0 none) (record me.0 { stage = Holding }, me.1) (length a.log))
      (λ r told other is. subst (λ e. tells e r) (cc (named_is, is)) told)
      (enter me.0 me.1 some_part event sits))

  pub raise_allows : (slots id : ℕ) (me : Mine S E) → me.0.stage ≡ Entered → 0 < me.0.parts
      → me.1 ≡ (0, Some (state_after next first me.0.seen)) ∷ []
      → Allows (Kept next first seats) slots id me 1 (λ n. (n + 1) % 2 ^ 64)
      (Raises (step slots 1 1 0 none) me)
  raise_allows slots id me has_entered some_part state =
      let f : ℕ → ℕ = λ n. (n + 1) % 2 ^ 64 in
      let tells : Mine S E → ℕ → Mine S E → Type 0 = Raises (step slots 1 1 0 none) in
      let slot : List (ℕ × Option S) = (0, Some (state_after next first me.0.seen)) ∷ [] in
      subst (λ c. Allows (Kept next first seats) slots id (me.0, c) 1 f (tells (me.0, c)))
      (sym state)
      (allows next first seats slots id Entered (me.0, slot) has_entered 1 f tells
      (λ s a sits. raise me.0 slot some_part sits))

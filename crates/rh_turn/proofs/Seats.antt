-- What the rule says of one seat and of those beside it, and what a step has to show.
use Rattle.std.proofs.Common.{◌≡◌, ◌≢◌, ℕ, ◌+◌, ◌^◌, ◌<◌, ◌≤◌, true, false, List, [], ◌∷◌, length, set, refl, sym, ap, ◌∙◌, subst, ⊎_elim, arith}
use Rattle.std.specs.Prelude.{◌==◌, nat_lt, slice_index, if◌then◌else◌}
use Rattle.std.specs.List.{sum_by}
use Rattle.std.specs.declared.option.Option.{Option}
use Rattle.std.proofs.lemmas.Bool.Decides.{nat_tests}
use mathlib.Core.Option.{some, none}
use mathlib.Core.List.{IsPrefix}
use lib.ListN.{get_elem?}
use Rattle.atomic_table.specs.Table.{State, Act, stepped, Valid, carried_after, Allows}
use Rattle.atomic_table.proofs.Lists.{at_set, set_else}
use Rattle.rh_turn.specs.declared.view.View.{View}
use Rattle.rh_turn.specs.declared.view.Stage.{Stage}
use Rattle.rh_turn.specs.declared.view.Stage.TheVariants.{Idle, Waiting, Holding, Entered, Joined}
use Rattle.rh_turn.specs.History.{times, one_if, AreOwn}
use Rattle.rh_turn.specs.Rule.{Account, words_of, Dealt, ticket, turn, place, parts, has_ticket, has_turn, has, used, made, Knows, Fits, AreSeats, slot_of, IsKept, Kept}
use Rattle.rh_turn.specs.Steps.{Mine, spent}
use Rattle.rh_turn.proofs.Beginnings.{begins_further}
use Rattle.rh_turn.proofs.Sums.{sum_set, sum_at, sum_none, one_if-most, one_if-false, one_if-true, one_here}

-- a seat that was taken in has nothing
pub spent_has : (E : Type 0) (d : Dealt) → has d (spent {E = E}) ≡ 0
spent_has E = elim [ ticket k ↦ refl | turn ↦ refl | place k ↦ refl | parts ↦ refl ]

module _ {E : Type 0} where
  -- a fact of a view at a known stage
  pub at_stage : (P : View E → Type 0) (stage : Stage E) (v : View E) → v.stage ≡ stage
      → P (record v { stage = stage }) → P v
  at_stage P stage v is fact = subst P (λ i. record v { stage = sym is i }) fact

  -- a view with a part fits
  pub fitting : {log : List E} {serving : ℕ} {v : View E} → 0 < v.parts → IsPrefix v.seen log
      → Knows log serving v.ticket v.seen v.stage
      → ((k : ℕ) → 0 < times k v.mine → k < length v.seen) → Fits log serving v
  fitting some_part begins knows within = record {
    begins = begins;
    knows = knows;
    within = within;
    spent = λ none_left. absurd (omega arith);
  }

  -- another stage fits it too, where it knows what it has to know there
  pub restaged : {log : List E} {serving : ℕ} {v : View E} → Fits log serving v → 0 < v.parts
      → (now t : ℕ) (stage : Stage E) → Knows log now t v.seen stage
      → Fits log now (record v { stage = stage; ticket = t })
  restaged fits some_part now t stage knows = fitting some_part fits.begins knows fits.within

  -- what is known of a seat that doesn't hold the turn stays known
  knows_free : (log later : List E) (serving now t : ℕ) (seen : List E) (stage : Stage E)
      → has_turn stage ≡ false → Knows log serving t seen stage → Knows later now t seen stage
  knows_free log later serving now t seen Idle free knows = tt
  knows_free log later serving now t seen Waiting free knows = tt
  knows_free log later serving now t seen Holding free knows = absurd (cc free)
  knows_free log later serving now t seen Entered free knows = absurd (cc free)
  knows_free log later serving now t seen (Joined one other) free knows = knows

  -- a seat that doesn't have the ticket that is served doesn't hold the turn
  unserved_free : (log : List E) (serving t : ℕ) (seen : List E) (stage : Stage E)
      → Knows log serving t seen stage
      → (if has_ticket stage then one_if (t == serving) else 0) ≡ 0 → one_if (has_turn stage) ≡ 0
  unserved_free log serving t seen Idle knows unserved = refl
  unserved_free log serving t seen Waiting knows unserved = refl
  unserved_free log serving t seen Holding knows unserved =
      absurd (let served = one_here t serving knows.0 in omega arith)
  unserved_free log serving t seen Entered knows unserved =
      absurd (let served = one_here t serving knows.0 in omega arith)
  unserved_free log serving t seen (Joined one other) knows unserved = refl

  -- all views fit where the changed one does and the others do
  pub fits_set : {log : List E} {serving : ℕ} (views : List (View E)) (id : ℕ) (w : View E)
      → ((i : ℕ) (u : View E) → i ≢ id → get_elem? views i ≡ some u → Fits log serving u)
      → Fits log serving w
      → (i : ℕ) (u : View E) → get_elem? (set views id w) i ≡ some u → Fits log serving u
  fits_set {log} {serving} views id w others here i u there =
      ⊎_elim (λ (h : (i ≡ id) × (w ≡ u)). subst (Fits log serving) h.1 here)
      (λ (h : (i ≢ id) × (get_elem? views i ≡ some u)). others i u h.0 h.1)
      (at_set views id i w u there)

-- a table with the words of an account
abbrev pub table_of : {S E : Type 0} → State (Option S) (View E) → Account E
    → State (Option S) (View E)
table_of s a = record s { words = words_of a }

-- the rule, of its parts
pub keeping : {S E : Type 0} {next : S → E → S} {first : S} {seats : ℕ}
    {s : State (Option S) (View E)} {a : Account E} → s.words ≡ words_of a → a.tickets < 2 ^ 64
    → (a.is_held ≡ false → length a.log ≡ a.serving)
    → s.homes ≡ slot_of next first a.is_held a.log ∷ [] → AreSeats seats s.views a
    → IsKept next first seats s a
keeping words room rested slot are = record {
  words_are = words;
  in_range = room;
  at_rest = rested;
  slot_is = slot;
  seats_are = are;
}

-- the rule holds, and the seat id has this view
pub record Sits {S E : Type 0} (next : S → E → S) (first : S) (seats : ℕ)
    (s : State (Option S) (View E)) (a : Account E) (id : ℕ) (v : View E) : Type 0 where
  pub kept : IsKept next first seats (table_of s a) a
  pub at : get_elem? s.views id ≡ some v

module _ {S E : Type 0} {next : S → E → S} {first : S} {seats : ℕ} {s : State (Option S) (View E)}
    {a : Account E} {id : ℕ} {v : View E} (sits : Sits next first seats s a id v) where
  pub fits_here : Fits a.log a.serving v
  fits_here = sits.kept.seats_are.fits id v sits.at

  pub others_same : (i : ℕ) (u : View E) → i ≢ id → get_elem? s.views i ≡ some u
      → Fits a.log a.serving u
  others_same i u apart there = sits.kept.seats_are.fits i u there

  -- The view and the account become others: what the view gains of anything is what there is more
  -- of it or is used up less, the other views fit still, and so does this one.
  pub seats_set : (w : View E) (b : Account E)
      → ((d : Dealt) → has d w + used d b + made seats d a ≡ has d v + used d a + made seats d b)
      → ((i : ℕ) (u : View E) → i ≢ id → get_elem? s.views i ≡ some u → Fits b.log b.serving u)
      → Fits b.log b.serving w → AreSeats seats (set s.views id w) b
  seats_set w b balance others here = record {
    dealt = λ d.
        let changed = sum_set (has d) s.views id v w sits.at in
        let was = sits.kept.seats_are.dealt d in
        let balanced = balance d in
        omega arith;
    fits = fits_set s.views id w others here;
  }

  -- the view becomes another that has the same, and the account stays
  pub reseated : (w : View E) → ((d : Dealt) → has d w ≡ has d v) → Fits a.log a.serving w
      → IsKept next first seats (record (table_of s a) { views = set s.views id w }) a
  reseated w same here =
      let balanced : (d : Dealt) → has d w + used d a + made seats d a
      ≡ has d v + used d a + made seats d a =
      λ d. ap (λ n. n + used d a + made seats d a) (same d) in
      let kept = sits.kept in
      keeping refl kept.in_range kept.at_rest kept.slot_is (seats_set w a balanced others_same here)

  -- two seats have no more of anything than there is and isn't used up
  two_have : (i : ℕ) (u : View E) → i ≢ id → get_elem? s.views i ≡ some u
      → (d : Dealt) → has d v + has d u + used d a ≤ made seats d a
  two_have i u apart there d =
      let changed = sum_set (has d) s.views id v spent sits.at in
      let at = set_else s.views id i spent apart ∙ there in
      let part = sum_at (has d) (set s.views id spent) i u at in
      let all = sits.kept.seats_are.dealt d in
      omega (arith, spent_has E d)

  one_has : (d : Dealt) → has d v + used d a ≤ made seats d a
  one_has d =
      let part = sum_at (has d) s.views id v sits.at in
      let all = sits.kept.seats_are.dealt d in
      omega arith

  -- a ticket that is served and that the seat has was drawn
  pub served_is_drawn : has (ticket a.serving) v ≡ 1 → a.serving < a.tickets
  served_is_drawn mine = let one = one_has (ticket a.serving) in grind (arith, nat_tests)

  -- while the seat whose ticket is served doesn't hold the turn, no seat does
  pub none_holds : has (ticket a.serving) v ≡ 1 → has turn v ≡ 0 → a.is_held ≡ false
  none_holds mine free =
      let most = one_if-most (nat_lt a.serving a.tickets) in
      let others : sum_by (has turn) (set s.views id spent) ≡ 0 =
      sum_none (has turn) (set s.views id spent) (λ i u there.
      ⊎_elim (λ (h : (i ≡ id) × (spent ≡ u)). ap (has turn) (sym h.1))
      (λ (h : (i ≢ id) × (get_elem? s.views i ≡ some u)).
      let two = two_have i u h.0 h.1 (ticket a.serving) in
      let knows = (others_same i u h.0 h.1).knows in
      unserved_free a.log a.serving u.ticket u.seen u.stage knows (omega arith))
      (at_set s.views id i spent u there)) in
      let changed = sum_set (has turn) s.views id v spent sits.at in
      let held = sits.kept.seats_are.dealt turn in
      one_if-false a.is_held (omega arith)

  -- while the seat holds the turn the slot is out
  pub holds_it : has turn v ≡ 1 → a.is_held ≡ true
  holds_it mine = let one = one_has turn in one_if-true a.is_held (omega arith)

  pub slot_is_out : has turn v ≡ 1 → s.homes ≡ none ∷ []
  slot_is_out mine = sits.kept.slot_is ∙ ap (λ b. slot_of next first b a.log ∷ []) (holds_it mine)

  -- and the other seats, which don't hold it, fit a longer history and any number served
  pub others_later : has turn v ≡ 1 → (later : List E) (now : ℕ) → IsPrefix a.log later
      → (i : ℕ) (u : View E) → i ≢ id → get_elem? s.views i ≡ some u → Fits later now u
  others_later mine later now longer i u apart there =
      let most = one_if-most a.is_held in
      let two = two_have i u apart there turn in
      let free : has_turn u.stage ≡ false = one_if-false (has_turn u.stage) (omega arith) in
      let fits = others_same i u apart there in record {
        begins = begins_further u.seen a.log later fits.begins longer;
        knows = knows_free a.log later a.serving now u.ticket u.seen u.stage free fits.knows;
        within = fits.within;
        spent = fits.spent;
      }

  -- each place of the seat is its own once
  pub own : AreOwn v.mine v.seen
  own k =
      let one = one_has (place k) in
      let most = one_if-most (nat_lt k (length a.log)) in
      (omega arith, fits_here.within k)

module _ {S E : Type 0} (next : S → E → S) (first : S) (seats : ℕ) where
  -- the word i becomes n, by a step of the seat that holds these slots
  abbrev pub Goes : State (Option S) (View E) → ℕ → ℕ → ℕ → List (ℕ × Option S)
      → (Mine S E → Type 0) → Type 0
  Goes s i n id carried tells = (w : View E) × (act : Act (Option S)) × Valid s.homes carried act
      × Kept next first seats (stepped s i n id carried w act)
      × tells (w, carried_after carried act)

  -- what a step tells may be told otherwise
  pub retold : (s : State (Option S) (View E)) (i n id : ℕ) (carried : List (ℕ × Option S))
      (tells other : Mine S E → Type 0) → ((r : Mine S E) → tells r → other r)
      → Goes s i n id carried tells → Goes s i n id carried other
  retold s i n id carried tells other means gone =
      (gone.0, gone.1, gone.2, gone.3, means (gone.0, carried_after carried gone.1) gone.4)

  -- a step of a seat at a stage is allowed if it goes from each account
  pub allows : (slots id : ℕ) (stage : Stage E) (me : Mine S E) → me.0.stage ≡ stage
      → (i : ℕ) (f : ℕ → ℕ) (tells : Mine S E → ℕ → Mine S E → Type 0)
      → ((s : State (Option S) (View E)) (a : Account E)
      → Sits next first seats s a id (record me.0 { stage = stage })
      → let n = slice_index (words_of a) i in
      Goes (table_of s a) i (f n) id me.1 (tells (record me.0 { stage = stage }, me.1) n))
      → Allows (Kept next first seats) slots id me i f (tells me)
  allows slots id stage me is i f tells goes =
      at_stage (λ v. Allows (Kept next first seats) slots id (v, me.1) i f (tells (v, me.1)))
      stage me.0 is
      (λ s kept homes mine bound.
      let m : Mine S E = (record me.0 { stage = stage }, me.1) in
      let of : List ℕ → State (Option S) (View E) = λ ws. record s { words = ws } in
      subst (λ ws. IsKept next first seats (of ws) kept.0
      → Goes (of ws) i (f (slice_index ws i)) id me.1 (tells m (slice_index ws i)))
      (sym kept.1.words_are)
      (λ k. goes s kept.0 (record { kept = k; at = mine })) kept.1)

-- the count of the legs of a proxy, whatever happens to the nodes
use Rattle.law_order.proofs.Vocabulary.{◌≡◌, ℕ, ◌+◌, ◌-◌, List, [], Bool, true, false, ◌||◌, if◌then◌else◌, get_or, min, None, refl, sym, ap, ◌∙◌, ⊎_elim, arith, ◌==◌, ◌≢◌, nat_lt, false≢true, cases_eq, eqb-false, ltb-false, ne_eqb}
use Rattle.rh_company.specs.Company as company
use Rattle.rh_company.specs.Places as places
use Rattle.law_moves.proofs.Vocabulary.{Cookie, Leg, Rules, Shell}
use Rattle.law_node_history.proofs.Vocabulary.{Who, Client, Server, In, Out, act, change, put_at, Event, Place, Absent, Here, Gone, Company, Rulebook, is_working, most_legs, one_fewer, is_same, in_place, out_place}
use Rattle.law_node_history.proofs.Lemmas.{in_may, out_may, acted, acts_elsewhere, changed_here, changes_elsewhere, put_here, put_elsewhere}
use Rattle.law_node_traces.proofs.Vocabulary.{is_gone, was_let_go}

-- ---- a count that does not stand still

pub fewer_is : (legs : ℕ) → legs ≢ most_legs → one_fewer legs ≡ legs - 1
fewer_is legs moves =
    ap (λ b. if b then legs else legs - 1) (ne_eqb legs most_legs moves)

-- ---- one place

abbrev pub legs_at : {S : Type 0} → Place S → ℕ
legs_at Absent = 0
legs_at (Here node legs) = legs
legs_at (Gone now) = 0

gone_has_none : {S : Type 0} (p : Place S) → is_gone p ≡ true → legs_at p ≡ 0
gone_has_none Absent gone = absurd (false≢true gone)
gone_has_none (Here node legs) gone = absurd (false≢true gone)
gone_has_none (Gone now) gone = refl

module _ {S : Type 0} (rules : Rules S) where
  told_place : (event : Event) (p : Place S)
      → legs_at (places.tell rules event p).0 ≡ legs_at p
  told_place event Absent = refl
  told_place event (Here node legs) = refl
  told_place event (Gone now) = refl

  drawn_place : (leg : Leg) (room : ℕ) (p : Place S)
      → legs_at (places.draw rules leg room p).0 ≡ legs_at p
  drawn_place leg room Absent = refl
  drawn_place leg room (Here node legs) = refl
  drawn_place leg room (Gone now) = refl

  up_place : (leg : Leg) (cookie : Cookie) (p : Place S) → places.may_up rules leg p ≡ true
      → legs_at (places.up rules leg cookie p) ≡ min (legs_at p + 1) most_legs
  up_place leg cookie Absent may = absurd (false≢true may)
  up_place leg cookie (Here node legs) may = refl
  up_place leg cookie (Gone now) may = absurd (false≢true may)

  -- a proxy that goes had one leg at most
  left_place : (p : Place S) → legs_at (places.leave rules p) ≡ one_fewer (legs_at p)
  left_place Absent = refl
  left_place (Here node legs) = by (nat_lt 1 legs) (is_working rules node) refl
    where
      by : (more working : Bool) → nat_lt 1 legs ≡ more
          → legs_at (if more || working then Here node (one_fewer legs) else Gone node.now)
          ≡ one_fewer legs
      by true working is = refl
      by false true is = refl
      by false false is =
          let few = ltb-false 1 legs is in
          let none : legs - 1 ≡ 0 = omega (arith, few) in
          sym (fewer_is legs (λ end. omega (arith, few, end)) ∙ none)
  left_place (Gone now) = refl

-- ---- the places of all numbers

module _ {S A : Type 0} (does : Place S → Place S × A) (none : A)
    (idle : does Absent ≡ (Absent, none))
    (same : (p : Place S) → legs_at (does p).0 ≡ legs_at p) (list : List (Place S)) (k n : ℕ) where
  acted_count : legs_at (get_or (act does none list k).0 n Absent)
      ≡ legs_at (get_or list n Absent)
  acted_count =
      ⊎_elim
      (λ here. ap (λ j. legs_at (get_or (act does none list k).0 j Absent)) here
      ∙ ap (λ (p : Place S). legs_at p) (acted Absent does none idle list k)
      ∙ same (get_or list k Absent) ∙ ap (λ j. legs_at (get_or list j Absent)) (sym here))
      (λ other. ap (λ (p : Place S). legs_at p) (acts_elsewhere Absent does none list k n other))
      (cases_eq n k)

other_count : {S : Type 0} (does : Place S → Place S) (list : List (Place S)) (k n : ℕ)
    → (k == n) ≡ false
    → legs_at (get_or (change does list k) n Absent) ≡ legs_at (get_or list n Absent)
other_count {S} does list k n apart =
    ap (λ (p : Place S). legs_at p)
    (changes_elsewhere Absent does list k n (λ same. eqb-false k n apart (sym same)))

-- a proxy that is made has none, as it had
pub made_count : {S : Type 0} (list : List (Place S)) (k : ℕ) (node : Shell S)
    → get_or list k Absent ≡ Absent → (n : ℕ)
    → legs_at (get_or (put_at Absent list k (Here node 0)) n Absent)
    ≡ legs_at (get_or list n Absent)
made_count {S} list k node absent n =
    ⊎_elim
    (λ here. ap (λ j. legs_at (get_or (put_at Absent list k (Here node 0)) j Absent)) here
    ∙ ap (λ (p : Place S). legs_at p) (put_here Absent list k (Here node 0))
    ∙ sym (ap (λ (p : Place S). legs_at p) absent)
    ∙ ap (λ j. legs_at (get_or list j Absent)) (sym here))
    (λ other. ap (λ (p : Place S). legs_at p) (put_elsewhere Absent list k n (Here node 0) other))
    (cases_eq n k)

-- ---- all nodes

abbrev pub is_proxy : Who → Bool
is_proxy Client = false
is_proxy Server = false
is_proxy (In n) = true
is_proxy (Out n) = true

abbrev pub count_at : {C S I O : Type 0} → Company C S I O → Who → ℕ
count_at c Client = 0
count_at c Server = 0
count_at c (In n) = legs_at (in_place c n)
count_at c (Out n) = legs_at (out_place c n)

module _ {C S I O : Type 0} (r : Rulebook C S I O) (c : Company C S I O) where
  pub same_count : (after : Company C S I O) → after.ins ≡ c.ins → after.outs ≡ c.outs
      → (x : Who) → count_at after x ≡ count_at c x
  same_count after ins outs Client = refl
  same_count after ins outs Server = refl
  same_count after ins outs (In n) =
      ap (λ (list : List (Place I)). legs_at (get_or list n Absent)) ins
  same_count after ins outs (Out n) =
      ap (λ (list : List (Place O)). legs_at (get_or list n Absent)) outs

  pub let_go_has_none : (x : Who) → was_let_go c x ≡ true → count_at c x ≡ 0
  let_go_has_none Client gone = refl
  let_go_has_none Server gone = refl
  let_go_has_none (In n) gone = gone_has_none (in_place c n) gone
  let_go_has_none (Out n) gone = gone_has_none (out_place c n) gone

  pub let_go_is_proxy : (x : Who) → was_let_go c x ≡ true → is_proxy x ≡ true
  let_go_is_proxy Client gone = gone
  let_go_is_proxy Server gone = gone
  let_go_is_proxy (In n) gone = refl
  let_go_is_proxy (Out n) gone = refl

  pub told_count : (node : Who) (event : Event) (x : Who)
      → count_at (company.tell r c node event).0 x ≡ count_at c x
  told_count (In k) event (In n) =
      acted_count (places.tell r.in_proxy event) None refl (told_place r.in_proxy event) c.ins k n
  told_count (Out k) event (Out n) =
      acted_count (places.tell r.out_proxy event) None refl (told_place r.out_proxy event) c.outs
      k n
  told_count node event x = refl

  pub drawn_count : (node : Who) (leg : Leg) (room : ℕ) (x : Who)
      → count_at (company.draw r c node leg room).0 x ≡ count_at c x
  drawn_count (In k) leg room (In n) =
      acted_count (places.draw r.in_proxy leg room) [] refl (drawn_place r.in_proxy leg room) c.ins
      k n
  drawn_count (Out k) leg room (Out n) =
      acted_count (places.draw r.out_proxy leg room) [] refl (drawn_place r.out_proxy leg room)
      c.outs k n
  drawn_count node leg room x = refl

  -- ---- a leg comes up

  pub up_count : (x : Who) (leg : Leg) (cookie : Cookie) → is_proxy x ≡ true
      → company.may_up r c x leg ≡ true
      → count_at (company.up r c x leg cookie) x ≡ min (count_at c x + 1) most_legs
  up_count Client leg cookie is may = absurd (false≢true is)
  up_count Server leg cookie is may = absurd (false≢true is)
  up_count (In n) leg cookie is may =
      ap (λ (p : Place I). legs_at p)
      (changed_here Absent (places.up r.in_proxy leg cookie) refl c.ins n)
      ∙ up_place r.in_proxy leg cookie (in_place c n) (sym (in_may r c n leg) ∙ may)
  up_count (Out n) leg cookie is may =
      ap (λ (p : Place O). legs_at p)
      (changed_here Absent (places.up r.out_proxy leg cookie) refl c.outs n)
      ∙ up_place r.out_proxy leg cookie (out_place c n) (sym (out_may r c n leg) ∙ may)

  pub up_elsewhere : (node : Who) (leg : Leg) (cookie : Cookie) (x : Who)
      → is_same node x ≡ false → count_at (company.up r c node leg cookie) x ≡ count_at c x
  up_elsewhere (In k) leg cookie (In n) apart =
      other_count (places.up r.in_proxy leg cookie) c.ins k n apart
  up_elsewhere (Out k) leg cookie (Out n) apart =
      other_count (places.up r.out_proxy leg cookie) c.outs k n apart
  up_elsewhere node leg cookie x apart = refl

  -- ---- a leg goes down

  pub left_count : (x : Who) → count_at (company.leave r c x) x ≡ one_fewer (count_at c x)
  left_count Client = refl
  left_count Server = refl
  left_count (In n) =
      ap (λ (p : Place I). legs_at p)
      (changed_here Absent (places.leave r.in_proxy) refl c.ins n)
      ∙ left_place r.in_proxy (in_place c n)
  left_count (Out n) =
      ap (λ (p : Place O). legs_at p)
      (changed_here Absent (places.leave r.out_proxy) refl c.outs n)
      ∙ left_place r.out_proxy (out_place c n)

  pub left_elsewhere : (node x : Who) → is_same node x ≡ false
      → count_at (company.leave r c node) x ≡ count_at c x
  left_elsewhere (In k) (In n) apart = other_count (places.leave r.in_proxy) c.ins k n apart
  left_elsewhere (Out k) (Out n) apart = other_count (places.leave r.out_proxy) c.outs k n apart
  left_elsewhere node x apart = refl

-- every change keeps the numbers of in proxies and of the channels that they read
use Rattle.rh_text.specs.declared.ends.Side.TheVariants as side
use Rattle.law_order.proofs.Vocabulary.{◌≡◌, ℕ, ◌-◌, ◌≤◌, List, Bool, true, false, not, if◌then◌else◌, IsTrue, get_or, refl, sym, ap, ◌∙◌, subst, ◌⊎◌, inl, inr, ⊎_elim, arith, ◌<◌, ◌≢◌, ◌||◌, nat_lt, true≢false, cases_eq, ltb-true, eq-eqb, ne_eqb}
use Rattle.rh_wires.specs.Legs as legs
use Rattle.rh_company.specs.Company as company
use Rattle.rh_company.specs.Places as places
use Rattle.law_moves.proofs.Vocabulary.{Cookie, ClientIn, Rules}
use Rattle.law_moves.specs.Moving as moving
use Rattle.law_node_history.proofs.Vocabulary.{Client, Server, In, Out, change, put_at, reader_of, with_reader, sender, receiver, Comes, Place, Absent, Here, Gone, Company, Rulebook, is_absent, is_working, one_fewer, Deeds, Makers, at_moment, reader_before, leg_at, World, at, Change, may_have, IsTold, IsFed, IsDrawn, GoesUp, RaisesAlone, GoesDown, OpensIn, OpensOut, OpensSame, Gives, Takes, Closes, RecyclesIn, RecyclesOut, MovesTo, Draws, Reports, MayChange, changed, Leads}
use Rattle.law_node_history.proofs.Vocabulary.{History, in_place, nothing, IsNew, came_up, events_of, IsTraced, LegsComeUpOnce}
use Rattle.law_node_history.proofs.Lemmas.{may_come, never_up, put_here, put_elsewhere, changed_here, changes_elsewhere, traced_first, Runs, tell_meets, draw_meets, up_meets}
use Rattle.law_node_traces.proofs.Traced.Along.{kept_along}
use Rattle.law_node_traces.proofs.LetGo.Standing.{reader_elsewhere, reader_here}
use Rattle.law_node_traces.proofs.Vocabulary.{is_made, IsRead, AreRead}

-- ---- readers

-- the same readers, and the same proxies that were made
same_read : (readers : List ℕ) (made later : ℕ → Bool) → ((n : ℕ) → later n ≡ made n)
    → AreRead readers made → AreRead readers later
same_read readers made later same a = record {
  own = λ n is. a.own n (sym (same n) ∙ is);
  each = λ n some.
      let one = a.each n some in
      record {
        reader = same (reader_of readers n) ∙ one.reader;
        below = one.below;
        either = ⊎_elim (λ its. inl (its.0, same n ∙ its.1)) (λ e. inr e) one.either;
      };
  none = a.none;
}

-- how a channel that had no reader gets one: its own proxy, or the reader of the channel before it
pub record Opened (readers : List ℕ) (later : ℕ → Bool) (k b : ℕ) : Type 0 where
  pub reader : later b ≡ true
  pub below : b ≤ k
  pub either : ((b ≡ k) × (later k ≡ true)) ⊎ ((k - 1 ≢ k) × (b ≡ reader_of readers (k - 1)))

module _ (readers : List ℕ) (made later : ℕ → Bool) (k b : ℕ) (a : AreRead readers made)
    (unread : reader_of readers k ≡ 0)
    (kept : (n : ℕ) → made n ≡ true → later n ≡ true)
    (new : (n : ℕ) → later n ≡ true → ((n ≡ k) × (b ≡ k)) ⊎ ((n ≢ k) × (made n ≡ true)))
    (zero_unread : k ≡ 0 → b ≡ 0) (opened : b ≢ 0 → Opened readers later k b) where
  abbrev behind : List ℕ
  behind = with_reader readers k b

  own_behind : (n : ℕ) → later n ≡ true → reader_of behind n ≡ n
  own_behind n is =
      ⊎_elim (λ here. ap (reader_of behind) here.0 ∙ reader_here readers k b ∙ here.1
      ∙ sym here.0)
      (λ other. reader_elsewhere readers k b n other.0 ∙ a.own n other.1) (new n is)

  none_behind : reader_of behind 0 ≡ 0
  none_behind =
      ⊎_elim (λ same. ap (reader_of behind) same ∙ reader_here readers k b
      ∙ zero_unread (sym same))
      (λ other. reader_elsewhere readers k b 0 other ∙ a.none) (cases_eq 0 k)

  here_behind : b ≢ 0 → IsRead behind later k
  here_behind some =
      let o = opened some in
      let is = reader_here readers k b in
      record {
        reader = ap later is ∙ o.reader;
        below = subst (λ x. x ≤ k) (sym is) o.below;
        either = ⊎_elim (λ its. inl (is ∙ its.0, its.1))
            (λ before. inr (is ∙ before.1
            ∙ sym (reader_elsewhere readers k b (k - 1) before.0))) o.either;
      }

  other_behind : (n : ℕ) → n ≢ k → reader_of readers n ≢ 0 → IsRead behind later n
  other_behind n other some =
      let one = a.each n some in
      let is = reader_elsewhere readers k b n other in
      record {
        reader = ap later is ∙ kept (reader_of readers n) one.reader;
        below = subst (λ x. x ≤ n) (sym is) one.below;
        either = ⊎_elim (λ its. inl (is ∙ its.0, kept n its.1))
            (λ before. inr (is ∙ before ∙ sym (reader_elsewhere readers k b (n - 1)
            (λ e. some (before ∙ ap (reader_of readers) e ∙ unread))))) one.either;
      }

  pub read_behind : AreRead behind later
  read_behind = record {
    own = own_behind;
    each = λ n some.
        ⊎_elim (λ same. subst (λ x. IsRead behind later x) (sym same)
        (here_behind (λ e. some (ap (reader_of behind) same ∙ reader_here readers k b ∙ e))))
        (λ other. other_behind n other
        (λ e. some (reader_elsewhere readers k b n other ∙ e))) (cases_eq n k);
    none = none_behind;
  }

-- ---- places

runs_made : {S : Type 0} (rules : Rules S) (p q : Place S) (es : List moving.Event)
    → Runs rules p q es → not (is_absent q) ≡ not (is_absent p)
runs_made {S} rules Absent q es run = ap (λ (x : Place S). not (is_absent x)) run
runs_made {S} rules (Here node legs) q es run = ap (λ (x : Place S). not (is_absent x)) run.1
runs_made {S} rules (Gone now) q es run = ap (λ (x : Place S). not (is_absent x)) run

leave_made : {S : Type 0} (rules : Rules S) (p : Place S)
    → not (is_absent (places.leave rules p)) ≡ not (is_absent p)
leave_made rules Absent = refl
leave_made {S} rules (Here node legs) = by (nat_lt 1 legs || is_working rules node)
  where
    by : (t : Bool)
        → not (is_absent (if t then Here node (one_fewer legs) else Gone node.now)) ≡ true
    by true = refl
    by false = refl
leave_made rules (Gone now) = refl

leaving_made : {S : Type 0} (rules : Rules S) (list : List (Place S)) (k n : ℕ)
    → not (is_absent (get_or (change (places.leave rules) list k) n Absent))
    ≡ not (is_absent (get_or list n Absent))
leaving_made {S} rules list k n =
    ⊎_elim (λ same. ap (λ j. not (is_absent (get_or (change (places.leave rules) list k) j Absent)))
    same
    ∙ ap (λ (x : Place S). not (is_absent x)) (changed_here Absent (places.leave rules) refl list k)
    ∙ leave_made rules (get_or list k Absent)
    ∙ ap (λ j. not (is_absent (get_or list j Absent))) (sym same))
    (λ other. ap (λ (x : Place S). not (is_absent x))
    (changes_elsewhere Absent (places.leave rules) list k n other)) (cases_eq n k)

module _ {K C S I O : Type 0} (r : Rulebook C S I O) (m : Makers K I O) (d : Deeds C S)
    (first : Company C S I O) (w : World K C S I O) (h : History)
    (t : IsTraced r m d first w h) where
  abbrev made : ℕ → Bool
  made = is_made w.company

  pub reader_came_up : (n : ℕ) → reader_of w.readers n ≢ 0
      → came_up (leg_at ClientIn n) (events_of h Client) ≡ true
  reader_came_up = t.carried.first

  abbrev pub makes_in : Change → Bool
  makes_in (OpensIn k cookie) = true
  makes_in change = false

  -- no other change makes an in proxy
  pub same_made : (change : Change) → makes_in change ≡ false → (n : ℕ)
      → is_made (changed r m d w change).company n ≡ made n
  same_made (IsTold node event) is n =
      runs_made r.in_proxy (in_place w.company n) _ _ ((tell_meets r w.company node event).ins n)
  same_made (IsFed leg dir count) is n =
      runs_made r.in_proxy (in_place w.company n) _ _ ((tell_meets r w.company
      (at w leg (receiver dir)) (Comes leg (legs.take_out leg dir count w.legs).1)).ins n)
  same_made (IsDrawn leg dir count) is n =
      runs_made r.in_proxy (in_place w.company n) _ _
      ((draw_meets r w.company (at w leg (sender dir)) leg count).ins n)
  same_made (GoesUp node leg end cookie) is n =
      runs_made r.in_proxy (in_place w.company n) _ _
      ((up_meets r w.company node leg cookie).ins n)
  same_made (RaisesAlone node leg end cookie) is n =
      runs_made r.in_proxy (in_place w.company n) _ _
      ((up_meets r w.company node leg cookie).ins n)
  same_made (GoesDown Client leg end) is n = refl
  same_made (GoesDown Server leg end) is n = refl
  same_made (GoesDown (In k) leg end) is n = leaving_made r.in_proxy w.company.ins k n
  same_made (GoesDown (Out k) leg end) is n = refl
  same_made (OpensIn k cookie) is n = absurd (true≢false is)
  same_made (OpensOut k cookie) is n = refl
  same_made (OpensSame k cookie) is n =
      let leg = leg_at ClientIn k in
      runs_made r.in_proxy (in_place w.company n) _ _
      ((up_meets r (company.up r w.company Client leg cookie) (In (reader_before w k)) leg
      cookie).ins n)
  same_made (Gives side.Client pdu) is n = refl
  same_made (Gives side.Server pdu) is n = refl
  same_made (Takes side.Client) is n = refl
  same_made (Takes side.Server) is n = refl
  same_made (Closes side.Client) is n = refl
  same_made (Closes side.Server) is n = refl
  same_made RecyclesIn is n = refl
  same_made RecyclesOut is n = refl
  same_made (MovesTo now) is n = refl
  same_made (Draws cookies) is n = refl
  same_made Reports is n = refl

  module _ (once : LegsComeUpOnce r m d first w.cast) (a : AreRead w.readers made) where
    -- a channel that the client may have has no reader yet
    pub unread_at : (n : ℕ) → IsTrue (may_have r w Client (leg_at ClientIn n))
        → reader_of w.readers n ≡ 0
    unread_at n may =
        let leg = leg_at ClientIn n in
        ⊎_elim (λ none. none) (λ some. absurd (true≢false (sym (t.carried.first n some)
        ∙ never_up r m d first w h t.runs t.accepted once Client leg
        (may_come r m d first w h t.runs t.accepted once Client leg may))))
        (cases_eq (reader_of w.readers n) 0)

    made_not_zero : made 0 ≡ false
    made_not_zero = ap (λ (x : Place I). not (is_absent x)) t.zero

    -- and its proxy was not made
    unmade_at : (n : ℕ) → reader_of w.readers n ≡ 0 → made n ≡ true → ⊥
    unmade_at n unread is =
        let zero : n ≡ 0 = sym (a.own n is) ∙ unread in
        true≢false (sym is ∙ ap made zero ∙ made_not_zero)

    opens_in : (k : ℕ) (cookie : Cookie) → MayChange r w (OpensIn k cookie)
        → (let v = changed r m d w (OpensIn k cookie) in
        AreRead v.readers (is_made v.company))
    opens_in k cookie may =
        let above : 0 < k = ltb-true 0 k may.0 in
        let place : Place I = Here (at_moment r.in_proxy (m.in_proxy w.cast k) w.now) 0 in
        let later : ℕ → Bool =
        (λ n. not (is_absent (get_or (put_at Absent w.company.ins k place) n Absent))) in
        let here : later k ≡ true =
        ap (λ (x : Place I). not (is_absent x)) (put_here Absent w.company.ins k place) in
        let beside : (n : ℕ) → n ≢ k → later n ≡ made n =
        (λ n other. ap (λ (x : Place I). not (is_absent x))
        (put_elsewhere Absent w.company.ins k n place other)) in
        read_behind w.readers made later k k a (unread_at k may.2)
        (λ n is. ⊎_elim (λ same. ap later same ∙ here) (λ other. beside n other ∙ is)
        (cases_eq n k))
        (λ n is. ⊎_elim (λ same. inl (same, refl))
        (λ other. inr (other, sym (beside n other) ∙ is)) (cases_eq n k))
        (λ e. e)
        (λ some. record { reader = here; below = omega arith; either = inl (refl, here) })

    opens_same : (k : ℕ) (cookie : Cookie) → MayChange r w (OpensSame k cookie)
        → AreRead (with_reader w.readers k (reader_before w k)) made
    opens_same k cookie may =
        let unread = unread_at k may.0 in
        read_behind w.readers made made k (reader_before w k) a unread (λ n is. is)
        (λ n is. inr ((λ same. unmade_at n (ap (reader_of w.readers) same ∙ unread) is), is))
        (λ zero. ap (λ b. if b then 0 else reader_of w.readers (k - 1)) (eq-eqb k 0 zero))
        (by (cases_eq k 0))
      where
        by : (k ≡ 0) ⊎ (k ≢ 0) → reader_before w k ≢ 0
            → Opened w.readers made k (reader_before w k)
        by (inl zero) some =
            absurd (some (ap (λ b. if b then 0 else reader_of w.readers (k - 1))
            (eq-eqb k 0 zero)))
        by (inr above) some =
            let is : reader_before w k ≡ reader_of w.readers (k - 1) =
            ap (λ b. if b then 0 else reader_of w.readers (k - 1)) (ne_eqb k 0 above) in
            let one = a.each (k - 1) (λ e. some (is ∙ e)) in
            let below = one.below in
            record {
              reader = ap made is ∙ one.reader;
              below = subst (λ x. x ≤ k) (sym is) (omega (arith, below));
              either = inr ((λ e. above (omega (arith, e))), is);
            }

    pub change_read : (change : Change) → MayChange r w change
        → (let v = changed r m d w change in AreRead v.readers (is_made v.company))
    change_read (OpensIn k cookie) may = opens_in k cookie may
    change_read (OpensSame k cookie) may =
        same_read (with_reader w.readers k (reader_before w k)) made
        (is_made (changed r m d w (OpensSame k cookie)).company)
        (same_made (OpensSame k cookie) refl) (opens_same k cookie may)
    change_read (Gives side.Client pdu) may = a
    change_read (Gives side.Server pdu) may = a
    change_read (Takes side.Client) may = a
    change_read (Takes side.Server) may = a
    change_read (Closes side.Client) may = a
    change_read (Closes side.Server) may = a
    change_read change may =
        same_read w.readers made (is_made (changed r m d w change).company)
        (same_made change refl) a

module _ {K C S I O : Type 0} (r : Rulebook C S I O) (m : Makers K I O) (d : Deeds C S) where
  pub new_read : (w : World K C S I O) → IsNew w → AreRead w.readers (is_made w.company)
  new_read w new = record {
    own = λ n is. absurd (true≢false (sym is
        ∙ ap (λ (x : List (Place I)). not (is_absent (get_or x n Absent))) new.ins));
    each = λ n some. absurd (some (unread n));
    none = unread 0;
  }
    where
      unread : (n : ℕ) → reader_of w.readers n ≡ 0
      unread n = ap (λ (x : List ℕ). reader_of x n) new.unread

  pub reached_read : (w v : World K C S I O) → IsNew w → LegsComeUpOnce r m d w.company w.cast
      → Leads r m d w v → AreRead v.readers (is_made v.company)
  reached_read w v new once leads =
      kept_along r m d w.company (λ u h. AreRead u.readers (is_made u.company))
      (λ u h t once. change_read r m d w.company u h t once) w v nothing leads once
      (traced_first r m d w new) (new_read w new)

-- what merging keeps: one of each, and the greatest edge
use Rattle.law_order.proofs.Vocabulary.{◌≡◌, ◌||◌, ◌&&◌, ◌==◌, ℕ, ◌+◌, ◌≤◌, max, List, [], ◌∷◌, ◌++◌, cond, nat_lt, Bool, true, false, Some, None, sym, ap, ◌∙◌, refl, arith, subst, count_by, bytes_eq, list_any, Option, and_parts, and_from, eqb-true, eq-eqb, true≢false, nat_tests, bytes_eq-Decides, sum_by-cons, sum_by_push}
use Rattle.rh_shell.proofs.Kept.{better_origin, same_count, fewer}
use Rattle.rh_shell.specs.Waiting.{is_of}
use Rattle.law_moves.proofs.Vocabulary.{Named, Due, Origin, Forwarded, Waiting, Key, are_same, own, to_forward, count, key_of, are_one, takes, edge_of, better, merged, empty, with_due}
use Rattle.law_moves.specs.Merging.{Event, Adds, Forwards, Takes, Clears, after, after_all, acknowledges, forwards, IsMerged, told, greatest, Raises}

-- ---- keys

alike : (one other : Key) → are_one (Some one) (Some other) ≡ true
    → (one.destination ≡ other.destination) × (one.channel.0 ≡ other.channel.0)
alike one other h =
    let parts = and_parts (one.destination == other.destination)
    (bytes_eq one.channel.0 other.channel.0) h in
    (eqb-true _ _ parts.0, (bytes_eq-Decides one.channel.0 other.channel.0).0 parts.1)

-- what is one with the same is one with each other
same_key : (one other : Option Key) → are_one one other ≡ true → (key : Option Key)
    → are_one other key ≡ are_one one key
same_key None other h key = absurd cc
same_key (Some one) None h key = absurd cc
same_key (Some one) (Some other) h None = refl
same_key (Some one) (Some other) h (Some key) =
    let same = alike one other h in
    ap (λ (d : ℕ). (d == key.destination) && bytes_eq other.channel.0 key.channel.0) (sym same.0)
    ∙ ap (λ (c : List ℕ). (one.destination == key.destination) && bytes_eq c key.channel.0)
    (sym same.1)

reached : (one other : Option Key) (key : Key) → are_one one (Some key) ≡ true
    → are_one other (Some key) ≡ true → are_one one other ≡ true
reached None other key h k = absurd cc
reached (Some one) None key h k = absurd cc
reached (Some one) (Some other) key h k =
    let first = alike one key h in
    let second = alike other key k in
    and_from _ _ (eq-eqb _ _ (first.0 ∙ sym second.0))
    ((bytes_eq-Decides one.channel.0 other.channel.0).1 (first.1 ∙ sym second.1))

-- ---- one of each

better_key : (packet : Named) (due : Due) → takes packet due ≡ true → (key : Key)
    → acknowledges key (better due packet).packet ≡ acknowledges key due.packet
better_key packet due h key = by (nat_lt (edge_of packet) (edge_of due.packet))
  where
    by : (b : Bool)
        → acknowledges key (cond b due (record { packet = packet; origin = due.origin })).packet
        ≡ acknowledges key due.packet
    by true = refl
    by false = same_key (key_of due.packet) (key_of packet) h (Some key)

better_forwards : (packet : Named) (key : Key) (due : Due) → takes packet due ≡ true
    → forwards key (better due packet) ≡ forwards key due
better_forwards packet key due h =
    ap (λ (o : Origin). are_same o Forwarded && acknowledges key (better due packet).packet)
    (better_origin due packet)
    ∙ ap (λ (b : Bool). is_of Forwarded due && b) (better_key packet due h key)

none_counted : (key : Key) (packet : Named) → acknowledges key packet ≡ true → (dues : List Due)
    → list_any (takes packet) dues ≡ false → count_by (forwards key) dues ≡ 0
none_counted key packet is [] none = refl
none_counted key packet is (due ∷ dues) none =
    sum_by-cons (λ d. cond (forwards key d) 1 0) due dues
    ∙ by (forwards key due) refl (takes packet due) refl none (none_counted key packet is dues)
  where
    by : (f : Bool) → forwards key due ≡ f → (t : Bool) → takes packet due ≡ t
        → (t || list_any (takes packet) dues) ≡ false
        → (list_any (takes packet) dues ≡ false → count_by (forwards key) dues ≡ 0)
        → cond f 1 0 + count_by (forwards key) dues ≡ 0
    by f e true h none rest = absurd cc
    by true e false h none rest =
        absurd (true≢false (sym (reached (key_of due.packet) (key_of packet) key
        (and_parts _ _ e).1 is) ∙ h))
    by false e false h none rest = omega (arith, rest none)

-- a packet that is merged with none stands alone
pushed : (packet : Named) (dues : List Due) (key : Key) → count_by (forwards key) dues ≤ 1
    → list_any (takes packet) dues ≡ false
    → count_by (forwards key) (dues ++ to_forward packet ∷ []) ≤ 1
pushed packet dues key h none =
    subst (λ n. n ≤ 1) (sym (sum_by_push (λ d. cond (forwards key d) 1 0) dues (to_forward packet)))
    (by (acknowledges key packet) refl)
  where
    by : (t : Bool) → acknowledges key packet ≡ t
        → count_by (forwards key) dues + cond t 1 0 ≤ 1
    by true is = omega (arith, none_counted key packet is dues none)
    by false is = omega (arith, h)

merged_event : (event : Event) (w : Waiting) → IsMerged w → IsMerged (after event w)
merged_event (Adds packet) w h key =
    omega (arith, h key, sum_by_push (λ due. cond (forwards key due) 1 0) w.due (own packet))
merged_event (Forwards packet) w h key =
    by (list_any (takes packet) w.due) refl (nat_lt (count Forwarded w.due) w.room)
  where
    One : Waiting × Bool → Type 0
    One r = count_by (forwards key) r.0.due ≤ 1

    by : (t : Bool) → list_any (takes packet) w.due ≡ t → (r : Bool)
        → One (cond t (with_due w (merged w.due packet), true)
        (cond r (with_due w (w.due ++ to_forward packet ∷ []), true) (w, false)))
    by true e r =
        omega (
          arith,
          h key,
          same_count (forwards key) packet (better_forwards packet key) w.due,
        )
    by false e true = pushed packet w.due key (h key) e
    by false e false = h key
merged_event (Takes may_go) w h key =
    omega (arith, h key, fewer (forwards key) may_go w.due)
merged_event Clears w h key = omega arith

pub all_merged : (events : List Event) (w : Waiting) → IsMerged w → IsMerged (after_all events w)
all_merged [] w h = h
all_merged (event ∷ events) w h = all_merged events (after event w) (merged_event event w h)

pub none_waits : (room : ℕ) → IsMerged (empty room)
none_waits room key = omega arith

-- ---- edges

told_le : (t u : Bool) → t ≡ u → (m n : ℕ) → m ≤ n → cond t m 0 ≤ cond u n 0
told_le true true e m n h = h
told_le true false e m n h = absurd cc
told_le false u e m n h = omega arith

-- the one that stands there tells no lower edge than either
told_better : (packet : Named) (due : Due) → takes packet due ≡ true → (key : Key)
    → (told key due.packet ≤ told key (better due packet).packet)
    × (told key packet ≤ told key (better due packet).packet)
told_better packet due h key = by (nat_lt (edge_of packet) (edge_of due.packet)) refl
  where
    same : acknowledges key packet ≡ acknowledges key due.packet
    same = same_key (key_of due.packet) (key_of packet) h (Some key)

    now : Bool → Named
    now b = (cond b due (record { packet = packet; origin = due.origin })).packet

    by : (b : Bool) → nat_lt (edge_of packet) (edge_of due.packet) ≡ b
        → (told key due.packet ≤ told key (now b)) × (told key packet ≤ told key (now b))
    by true e =
        let below : edge_of packet ≤ edge_of due.packet = grind (arith, nat_tests, e) in
        (omega arith, told_le _ _ same _ _ below)
    by false e =
        let above : edge_of due.packet ≤ edge_of packet = grind (arith, nat_tests, e) in
        (told_le _ _ (sym same) _ _ above, omega arith)

merged_kept : (packet : Named) (key : Key) (dues : List Due)
    → greatest key dues ≤ greatest key (merged dues packet)
merged_kept packet key [] = omega arith
merged_kept packet key (due ∷ dues) = by (takes packet due) refl (merged_kept packet key dues)
  where
    by : (b : Bool) → takes packet due ≡ b → greatest key dues ≤ greatest key (merged dues packet)
        → max (told key due.packet) (greatest key dues)
        ≤ greatest key (cond b (better due packet ∷ dues) (due ∷ merged dues packet))
    by true e rest = omega (arith, (told_better packet due e key).0)
    by false e rest = omega (arith, rest)

merged_reached : (packet : Named) (key : Key) (dues : List Due)
    → list_any (takes packet) dues ≡ true → told key packet ≤ greatest key (merged dues packet)
merged_reached packet key [] there = absurd cc
merged_reached packet key (due ∷ dues) there =
    by (takes packet due) refl there (merged_reached packet key dues)
  where
    by : (b : Bool) → takes packet due ≡ b → (b || list_any (takes packet) dues) ≡ true
        → (list_any (takes packet) dues ≡ true
        → told key packet ≤ greatest key (merged dues packet))
        → told key packet ≤ greatest key (cond b (better due packet ∷ dues)
        (due ∷ merged dues packet))
    by true e there rest = omega (arith, (told_better packet due e key).1)
    by false e there rest = omega (arith, rest there)

greatest_pushed : (key : Key) (dues : List Due) (due : Due)
    → greatest key (dues ++ due ∷ []) ≡ max (greatest key dues) (told key due.packet)
greatest_pushed key [] due = omega arith
greatest_pushed key (first ∷ dues) due = omega (arith, greatest_pushed key dues due)

pub raises : (w : Waiting) (packet : Named) (key : Key) → Raises w packet key
raises w packet key =
    let both = by (list_any (takes packet) w.due) refl (nat_lt (count Forwarded w.due) w.room) in
    record { kept = both.0; reached = both.1 }
  where
    Higher : Waiting × Bool → Type 0
    Higher r =
        (greatest key w.due ≤ greatest key r.0.due)
        × (r.1 ≡ true → told key packet ≤ greatest key r.0.due)

    by : (t : Bool) → list_any (takes packet) w.due ≡ t → (r : Bool)
        → Higher (cond t (with_due w (merged w.due packet), true)
        (cond r (with_due w (w.due ++ to_forward packet ∷ []), true) (w, false)))
    by true e r = (merged_kept packet key w.due, λ yes. merged_reached packet key w.due e)
    by false e true =
        let more = greatest_pushed key w.due (to_forward packet) in
        (omega (arith, more), λ yes. omega (arith, more))
    by false e false = (omega arith, λ yes. absurd cc)

-- an in proxy goes on where a ci leg ends on which IN_R1/A5 or END/A1 came
use Rattle.law_order.proofs.Vocabulary.{◌≡◌, ◌⊎◌, inl, inr, ◌<◌, ◌≤◌, ◌==◌, ◌&&◌, ◌||◌, ◌∙◌, ℕ, suc, Bool, true, false, true≢false, not, nat_lt, List, [], ◌∷◌, Some, None, arith, nat_tests, refl, sym, ap, ap₂, subst, cases_lt, and_parts, eqb-true, lt-ltb, if◌then◌else◌, Option, Item, Shelf, has_end, has_handover}
use Rattle.rh_line.specs.Lines as line
use Rattle.rh_inproxy.specs.Ending.{only_marks_by}
use Rattle.law_order.specs.Logs.{seen as seen_by}
use Rattle.law_moves.proofs.Vocabulary.{Which, Current, Next, Message, Text, Pdu, Packet, Move, Passage, started, all_moved, of_leg, is_at_work, packets}
use Rattle.law_role_inproxy.proofs.Vocabulary.{InProxyConfig, Opener, Successor, Absent, Up, Joined, is_some, InProxy, channel_of, first, has_a5, has_come, has_opened, is_joined, next_of, hands_over, is_done, is_newest, is_succeeded, newest, newest_by, opener_of, rules as proxy_rules, KeepsOrder, item_came, came_log, next_shelf, shelf, ci_leg}
use Rattle.law_role_inproxy.proofs.Refusing.Items.{came_is}
use Rattle.law_role_inproxy.proofs.Refusing.Keeps.{legs_are_known}
use Rattle.law_role_inproxy.proofs.Refusing.Legs.{All, IsBehind, Starts, bound, plain, seen}
use Rattle.law_role_inproxy.proofs.Refusing.Steps.{is_opened}
use Rattle.law_role_marks.specs.Marking.{OnlyMarks, has_passed}
use Rattle.law_role_marks.specs.Marks.{marks_handed}

abbrev items : List Message → List Item
items messages = seen_by item_came messages

-- where no packet came, no mark did
none_passed : (ms : List Message) → packets ms ≡ 0 → has_passed (items ms) ≡ false
none_passed [] e = refl
none_passed (Text bytes ∷ ms) e = none_passed ms e
none_passed (Pdu pdu ∷ ms) e = none_passed ms e
none_passed (Packet named ∷ ms) e = absurd (omega (arith, e))

module _ (config : InProxyConfig) (p : Passage InProxy)
    (known : All config.number (seen p.role) p.came) (order : KeepsOrder config.number p) (n : ℕ)
  where
    abbrev s : InProxy
    s = p.role

    abbrev c : ℕ
    c = p.role.current.number

    abbrev came : ℕ → List Item
    came = came_log p.came

    -- ---- a leg that has no channel is done, or no packet came there

    apart : (opened : Bool) (opener : Option Opener) → opened ≡ is_some opener
        → (opened && (c == n)) ≡ false → is_some opener ≡ true → (c == n) ≡ false
    apart true opener is e some = e
    apart false opener is e some = absurd (true≢false (sym some ∙ sym is))

    behind_all : (o : Option Opener) (z : Successor) → c ≤ n
        → (is_some o ≡ true → (c == n) ≡ false) → IsBehind c (plain z) → next_of z n ≡ None
        → bound config.number o s.current (plain z) ≤ n
    behind_all None z from other b e = let least = known.from in omega (arith, least, from)
    behind_all (Some o) Absent from other b e = let f = other refl in grind (arith, nat_tests)
    behind_all (Some o) (Up number) from other b e =
        let f = other refl in grind (arith, nat_tests)
    behind_all (Some o) (Joined leg stage) from other b e =
        let f = other refl in by f (leg.number == n) refl e
      where
        by : (c == n) ≡ false → (t : Bool) → (leg.number == n) ≡ t
            → (if t then Some Next else None) ≡ None → suc leg.number ≤ n
        by f true t e = absurd cc
        by f false t e = grind (arith, nat_tests)

    is_new : c ≤ n → channel_of s n ≡ None → packets (of_leg (ci_leg n) p.came) ≡ 0
    is_new from e = known.fresh n (by (has_opened s.opening && (c == n)) refl e)
      where
        by : (t : Bool) → (has_opened s.opening && (c == n)) ≡ t
            → (if t then Some Current else next_of s.successor n) ≡ None
            → bound config.number (opener_of s.opening) s.current (plain s.successor) ≤ n
        by true t e = absurd cc
        by false t e =
            behind_all (opener_of s.opening) s.successor from
            (apart (has_opened s.opening) (opener_of s.opening) (is_opened s.opening) t)
            known.behind e

    done_below : n < c → is_done s (ci_leg n) ≡ true
    done_below less = by (nat_lt n c) (lt-ltb n c less)
      where
        by : (t : Bool) → t ≡ true → (t || ((n == c) && is_succeeded s.successor)) ≡ true
        by true e = refl
        by false e = absurd (true≢false (sym e))

    left : has_passed (came n) ≡ true → channel_of s n ≡ None → is_done s (ci_leg n) ≡ true
    left passed none = by (cases_lt n c)
      where
        by : (n < c) ⊎ (c ≤ n) → is_done s (ci_leg n) ≡ true
        by (inl less) = done_below less
        by (inr from) =
            absurd (true≢false (sym passed ∙ ap has_passed (came_is n p.came)
            ∙ none_passed (of_leg (ci_leg n) p.came) (is_new from none)))

    -- ---- behind a mark on a channel

    swaps : (a b x y : Bool) → a ≡ x → b ≡ y → (x || y) ≡ true → (b || a) ≡ true
    swaps a true x y e f h = refl
    swaps true false x y e f h = refl
    swaps false false x y e f h = ap₂ (λ (t u : Bool). t || u) e f ∙ h

    on_current : c ≡ n → has_passed (came n) ≡ true
        → (s.line.current.ended || has_a5 s Current) ≡ true
    on_current same passed =
        swaps (has_a5 s Current) s.line.current.ended (has_handover (came c)) (has_end (came c))
        order.shelved.holds.finished order.shelved.holds.ended
        (subst (λ (k : ℕ). has_passed (came k) ≡ true) (sym same) passed)

    next_is : (z : Successor) → is_joined z ≡ true
        → next_shelf s.line.next z s.handover ≡ shelf s.line.next (has_come s.handover)
    next_is Absent e = absurd (true≢false (sym e))
    next_is (Up number) e = absurd (true≢false (sym e))
    next_is (Joined leg stage) e = refl

    on_next : suc c ≡ n → is_joined s.successor ≡ true → has_passed (came n) ≡ true
        → (s.line.next.ended || has_a5 s Next) ≡ true
    on_next same joined passed =
        let next = next_is s.successor joined in
        swaps (has_a5 s Next) s.line.next.ended (has_handover (came (suc c)))
        (has_end (came (suc c)))
        (sym (ap (λ (x : Shelf). x.finished) next) ∙ order.shelved.holds.next_finished)
        (sym (ap (λ (x : Shelf). x.ended) next) ∙ order.shelved.holds.next_ended)
        (subst (λ (k : ℕ). has_passed (came k) ≡ true) (sym same) passed)

    on_channel : (which : Which) → channel_of s n ≡ Some which → has_passed (came n) ≡ true
        → ((line.channel_of s.line which).ended || has_a5 s which) ≡ true
    on_channel which e passed = by (has_opened s.opening && (c == n)) refl e
      where
        Marks : Which → Type 0
        Marks w = ((line.channel_of s.line w).ended || has_a5 s w) ≡ true

        following : (z : Successor) → s.successor ≡ z → IsBehind c (plain z)
            → next_of z n ≡ Some which → Marks which
        following Absent is b f = absurd cc
        following (Up number) is b f = absurd cc
        following (Joined leg stage) is b f = on (leg.number == n) refl f
          where
            on : (t : Bool) → (leg.number == n) ≡ t → (if t then Some Next else None) ≡ Some which
                → Marks which
            on true t f =
                let found : which ≡ Next = cc in
                subst Marks (sym found)
                (on_next (sym b ∙ eqb-true leg.number n t) (ap is_joined is) passed)
            on false t f = absurd cc

        by : (t : Bool) → (has_opened s.opening && (c == n)) ≡ t
            → (if t then Some Current else next_of s.successor n) ≡ Some which → Marks which
        by true t f =
            let found : which ≡ Current = cc in
            subst Marks (sym found)
            (on_current (eqb-true c n (and_parts (has_opened s.opening) (c == n) t).1) passed)
        by false t f = following s.successor refl known.behind f

    pub marks : has_passed (came n) ≡ true → OnlyMarks proxy_rules s (ci_leg n)
    marks passed used = by (channel_of s n) refl
      where
        by : (o : Option Which) → channel_of s n ≡ o → proxy_rules.only_marks s (ci_leg n) ≡ true
        by None e =
            absurd (bad (is_done s (ci_leg n)) (left passed e)
            (and_parts (is_at_work proxy_rules s) (not (is_done s (ci_leg n))) used).1)
          where
            bad : (t : Bool) → t ≡ true → not t ≡ true → ⊥
            bad true e f = true≢false (sym f)
            bad false e f = true≢false (sym e)
        by (Some which) e = ap (only_marks_by s) e ∙ on_channel which e passed

    -- ---- behind IN_R1/A5 on the newest ci leg

    -- where no packet came there
    up_not : (o : Option Opener) (number : ℕ) → Starts config.number o s.current (Up number)
        → number ≡ suc c → has_handover (came number) ≡ true
        → bound config.number o s.current (Up number) ≤ number
    up_not None number starts b e = absurd (let bad = starts.1 in cc)
    up_not (Some o) number starts b e = omega (arith, b)

    came_none : (k : ℕ)
        → bound config.number (opener_of s.opening) s.current (plain s.successor) ≤ k
        → has_handover (came k) ≡ true → ⊥
    came_none k from e =
        let none = none_passed (of_leg (ci_leg k) p.came) (known.fresh k from) in
        true≢false (sym (ap (λ (t : Bool). t || has_end (came k)) e)
        ∙ ap has_passed (came_is k p.came) ∙ none)

    newest_come : (z : Successor) → s.successor ≡ z → n ≡ newest_by s.current z
        → has_handover (came n) ≡ true → has_come s.handover ≡ true
    newest_come Absent is same e =
        sym (ap (λ (x : Successor). hands_over x s.handover) is)
        ∙ order.shelved.holds.finished
        ∙ ap (λ (k : ℕ). has_handover (came k)) (sym same) ∙ e
    newest_come (Up number) is same e =
        absurd (came_none n (subst (λ (k : ℕ).
        bound config.number (opener_of s.opening) s.current (plain s.successor) ≤ k) (sym same)
        (subst (λ (x : Successor). bound config.number (opener_of s.opening) s.current x ≤ number)
        (sym (ap plain is))
        (up_not (opener_of s.opening) number
        (subst (Starts config.number (opener_of s.opening) s.current) (ap plain is) known.start)
        (subst (IsBehind c) (ap plain is) known.behind)
        (ap (λ (k : ℕ). has_handover (came k)) (sym same) ∙ e)))) e)
    newest_come (Joined leg stage) is same e =
        let behind : leg.number ≡ suc c = subst (IsBehind c) (ap plain is) known.behind in
        sym (ap (λ (x : Shelf). x.finished) (next_is s.successor (ap is_joined is)))
        ∙ order.shelved.holds.next_finished
        ∙ ap (λ (k : ℕ). has_handover (came k)) (sym behind ∙ sym same) ∙ e

    pub handed : has_handover (came n) ≡ true
        → (not (is_newest s (ci_leg n)) || has_come s.handover) ≡ true
    handed e = by (n == newest s) refl
      where
        by : (t : Bool) → (n == newest s) ≡ t
            → (not (true && t) || has_come s.handover) ≡ true
        by false f = refl
        by true f = newest_come s.successor refl (eqb-true n (newest s) f) e

pub handed_over_behind : (config : InProxyConfig) (moves : List Move)
    → (let p = all_moved proxy_rules (started (first config)) moves in
    KeepsOrder config.number p → (n : ℕ) → has_handover (came_log p.came n) ≡ true
    → marks_handed p.role (ci_leg n) ≡ proxy_rules.only_marks p.role (ci_leg n))
handed_over_behind config moves order n e =
    let p = all_moved proxy_rules (started (first config)) moves in
    ap (λ (t : Bool). proxy_rules.only_marks p.role (ci_leg n) && t)
    (handed config p (legs_are_known config moves) order n e)
    ∙ and_true (proxy_rules.only_marks p.role (ci_leg n))
  where
    and_true : (b : Bool) → (b && true) ≡ b
    and_true true = refl
    and_true false = refl

pub only_marks_behind : (config : InProxyConfig) (moves : List Move)
    → (let p = all_moved proxy_rules (started (first config)) moves in
    KeepsOrder config.number p → (n : ℕ) → has_passed (came_log p.came n) ≡ true
    → OnlyMarks proxy_rules p.role (ci_leg n))
only_marks_behind config moves order n =
    marks config (all_moved proxy_rules (started (first config)) moves)
    (legs_are_known config moves) order n

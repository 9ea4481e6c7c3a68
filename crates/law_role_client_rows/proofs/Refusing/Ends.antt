-- why a client refuses what its line doesn't take, and what opens it
use Rattle.std.specs.Option.{is_some}
use Rattle.rh_window.specs.Receiving as windows
use Rattle.law_order.proofs.Vocabulary.{◌≡◌, ◌⊎◌, ◌<◌, inl, inr, ℕ, suc, ◌+◌, ◌==◌, nat_eq, Bool, true, false, true≢false, not, ◌&&◌, ◌||◌, if◌then◌else◌, List, [], ◌∷◌, ◌++◌, length, Some, None, Ok, Err, arith, rules, refl, sym, ap, ◌∙◌, subst, and_parts, nat_tests, Option, Result, Item, has_end}
use Rattle.rh_sig.specs.declared.named.Named.TheVariants as named
use Rattle.rh_line.specs.declared.line_fault.LineFault.TheVariants as line_fault
use Rattle.rh_shell.specs.declared.answers.Count.TheVariants as count
use Rattle.rh_shell.specs.declared.answers.Refused.TheVariants as refused
use Rattle.rh_client.specs.declared.replacement.OutStage.TheVariants as out_stage
use Rattle.law_moves.proofs.Vocabulary.{WindowExceeded, by_test, same_number, other_number, Named, by_window, ClientOut, Which, Current, Next, Count, is_zero, Message, Text, Pdu, Packet, is_of, kind_number, OnLeg, Passage, of_leg, Has, count_of, Tells, packets}
use Rattle.law_role_client.proofs.Vocabulary.{Replacement, NoneUnderWay, In, Out, ClientRole, is_up, is_out, unexpected, is_open, is_opening, is_current, is_out_successor, co, on_conn_a3, on_conn_c2, pdu_on, pdu_channel, is_switched, is_switched_by, admit_row, on_end_b2, end_on, end_channel, down_items, down_mark, came_log, log_of, OutIsAt, OutFollows, out_switched, out_finished}
use Rattle.law_role_client_rows.proofs.Refusing.Channels.{IsNext}
use Rattle.law_role_client_rows.proofs.Refusing.Rows.{IsRefused, refused_by, not_both, not_open, Stands, Facts}
use Rattle.law_role_client_rows.specs.Refusing.{is_conn_a3, UnexpectedPduBy, UnexpectedOn}

-- ---- END/B2 that came

abbrev is_end_b2 : Named → Bool
is_end_b2 named.EndB2 = true
is_end_b2 packet = false

mark_end : (m : Named) (items : List Item)
    → has_end (down_mark m ++ items) ≡ (is_end_b2 m || has_end items)
mark_end m items = search rules

end_is : (m : Named) → is_end_b2 m ≡ true → m ≡ named.EndB2
end_is m e = search rules

pub either_true : (a b : Bool) → a || b ≡ true → (a ≡ true) ⊎ (b ≡ true)
either_true true b e = inl refl
either_true false b e = inr e

one_end : (b : Bool) (m : Message) (items : List Item) (ms : List Message)
    → (has_end items ≡ true → Has named.EndB2 ms)
    → has_end ((if b then down_items m else []) ++ items) ≡ true
    → Has named.EndB2 (if b then m ∷ ms else ms)
one_end false m items ms rest e = rest e
one_end true (Text bytes) items ms rest e = inr (rest e)
one_end true (Pdu pdu) items ms rest e = inr (rest e)
one_end true (Packet m) items ms rest e =
    by (either_true (is_end_b2 m) (has_end items) (sym (mark_end m items) ∙ e))
  where
    by : (is_end_b2 m ≡ true) ⊎ (has_end items ≡ true) → Has named.EndB2 (Packet m ∷ ms)
    by (inl is) = inl (ap Packet (end_is m is))
    by (inr more) = inr (rest more)

same_on : (kind leg n number : ℕ)
    → (leg == kind && (number == n)) ≡ (kind == leg && nat_eq n number)
same_on kind leg n number = grind (arith, nat_tests)

end_on_leg : (n : ℕ) (log : List OnLeg) → has_end (log_of down_items ClientOut log n) ≡ true
    → Has named.EndB2 (of_leg (co n) log)
end_on_leg n [] e = absurd (true≢false (sym e))
end_on_leg n (one ∷ log) e =
    subst (λ (b : Bool).
    Has named.EndB2 (if b then one.1 ∷ of_leg (co n) log else of_leg (co n) log))
    (sym (same_on (kind_number ClientOut) (kind_number one.0.kind) n one.0.number))
    (one_end (is_of ClientOut one.0 && nat_eq n one.0.number) one.1
    (log_of down_items ClientOut log n) (of_leg (co n) log) (end_on_leg n log) e)

end_now : (p : Passage ClientRole) (n : ℕ) → Facts p → n ≡ p.role.current.number
    → p.role.line.current.ended ≡ true → Has named.EndB2 (of_leg (co n) p.came)
end_now p n h e is =
    end_on_leg n p.came
    (subst (λ (k : ℕ). has_end (came_log p.came k) ≡ true) (sym e)
    (sym h.takes.holds.ended ∙ is))

end_next : (p : Passage ClientRole) (n : ℕ) → Facts p → n ≡ suc p.role.current.number
    → p.role.line.next.ended ≡ true → Has named.EndB2 (of_leg (co n) p.came)
end_next p n h e is =
    end_on_leg n p.came
    (subst (λ (k : ℕ). has_end (came_log p.came k) ≡ true) (sym e)
    (sym h.takes.holds.next_ended ∙ is))

-- ---- the successor

follows : (p : Passage ClientRole) (r : Replacement) → is_out r ≡ true → OutIsAt p r
    → OutFollows p
follows p NoneUnderWay is at = absurd (true≢false (sym is))
follows p (In stage w) is at = absurd (true≢false (sym is))
follows p (Out out_stage.Asked w) is at = at.1
follows p (Out out_stage.Answered w) is at = at.1
follows p (Out out_stage.Switched w) is at = at.1
follows p (Out out_stage.Finished w) is at = at.1

next_number : (p : Passage ClientRole) (n : ℕ) → Facts p → is_out_successor p.role n ≡ true
    → n ≡ suc p.role.current.number
next_number p n h is =
    let parts = and_parts (is_out p.role.replacement) (n == p.role.out_successor.number) is in
    let number = same_number n p.role.out_successor.number parts.1 in
    let next = follows p p.role.replacement parts.0 h.outs.at in
    omega (arith, number, next)

next_there : (r : Replacement) (next : Bool) → is_out r ≡ true → IsNext r true next
    → next ≡ true
next_there NoneUnderWay next is h = absurd (true≢false (sym is))
next_there (In stage w) next is h = absurd (true≢false (sym is))
next_there (Out out_stage.Asked w) next is h = h refl
next_there (Out out_stage.Answered w) next is h = h
next_there (Out out_stage.Switched w) next is h = h
next_there (Out out_stage.Finished w) next is h = h

has_next : (p : Passage ClientRole) (n : ℕ) → Facts p → is_out_successor p.role n ≡ true
    → is_up p.role.out_successor.opening ≡ true → p.role.line.has_next ≡ true
has_next p n h is up =
    next_there p.role.replacement p.role.line.has_next
    (and_parts (is_out p.role.replacement) (n == p.role.out_successor.number) is).0
    (subst (λ (b : Bool). IsNext p.role.replacement b p.role.line.has_next) up h.channels.next)

-- ---- END/B2

-- a channel that is neither the current one nor a successor that is there
not_there : {G : Type 0} (p : Passage ClientRole) (n : ℕ) → Facts p → Stands p.role n
    → is_current p.role n ≡ false → (p.role.line.has_next && is_out_successor p.role n) ≡ false
    → G
not_there p n h (inl now) other e = absurd (true≢false (sym now.0 ∙ other))
not_there p n h (inr next) other e =
    by (not_both p.role.line.has_next (is_out_successor p.role n) e)
  where
    by : {G : Type 0} → (p.role.line.has_next ≡ false)
        ⊎ ((p.role.line.has_next ≡ true) × (is_out_successor p.role n ≡ false)) → G
    by (inl none) = absurd (true≢false (sym (has_next p n h next.1 next.2) ∙ none))
    by (inr none) = absurd (true≢false (sym next.1 ∙ none.1))

pub end_refused : (p : Passage ClientRole) (n : ℕ) → Facts p → Stands p.role n
    → IsRefused (on_end_b2 p.role n) → UnexpectedOn p n named.EndB2
end_refused p n h stands =
    refused_by (is_open p.role.phase) (end_on p.role (end_channel p.role n)) (unexpected p.role)
    (λ o. by_test Why (is_current p.role n) (Some Current) _
    (λ c. refused_by p.role.line.current.ended (unexpected p.role) _
    (λ e r. inr (end_now p n h (same_number n p.role.current.number c) e))
    (λ e r. absurd (cc)))
    (λ c. by_test Why (p.role.line.has_next && is_out_successor p.role n) (Some Next) None
    (λ t. refused_by p.role.line.next.ended (unexpected p.role) _
    (λ e r. inr (end_next p n h (next_number p n h
    (and_parts p.role.line.has_next (is_out_successor p.role n) t).1) e))
    (λ e r. absurd (cc)))
    (λ t r. not_there p n h stands c t)))
    (λ o r. inl (not_open p h o))
  where
    Why : Option Which → Type 0
    Why w = IsRefused (end_on p.role w) → UnexpectedOn p n named.EndB2

-- ---- RPC PDUs

window_never : {G : Type 0} (v : Result (Unit {0}) WindowExceeded)
    → admit_row (by_window v) ≡ Err refused.Unexpected → G
window_never (Ok admitted) r = absurd (cc)
window_never (Err exceeded) r = absurd (cc)

over : (ended : Bool) (v : Result (Unit {0}) WindowExceeded)
    → admit_row (if ended then Err line_fault.Over else by_window v) ≡ Err refused.Unexpected
    → ended ≡ true
over true v r = refl
over false v r = window_never v r

not_switched : (p : Passage ClientRole) (n : ℕ) (r : Replacement) → is_out r ≡ true
    → is_switched_by r ≡ false → OutIsAt p r → n ≡ suc p.role.current.number
    → (n ≡ out_finished p + 2) × (out_switched p ≡ out_finished p)
not_switched p n NoneUnderWay is o at e = absurd (true≢false (sym is))
not_switched p n (In stage w) is o at e = absurd (true≢false (sym is))
not_switched p n (Out out_stage.Asked w) is o at e =
    let number = at.0.current in
    let switched = at.0.switched in
    (omega (arith, number, e), omega (arith, switched))
not_switched p n (Out out_stage.Answered w) is o at e =
    let number = at.0.current in
    let switched = at.0.switched in
    (omega (arith, number, e), omega (arith, switched))
not_switched p n (Out out_stage.Switched w) is o at e = absurd (true≢false o)
not_switched p n (Out out_stage.Finished w) is o at e = absurd (true≢false o)

-- on the successor's leg, before OUT_R1/A7
pdu_early : (p : Passage ClientRole) (n : ℕ) → Facts p → Stands p.role n
    → is_current p.role n ≡ false → (is_switched p.role && is_out_successor p.role n) ≡ false
    → (n ≡ out_finished p + 2) × (out_switched p ≡ out_finished p)
pdu_early p n h (inl now) other e = absurd (true≢false (sym now.0 ∙ other))
pdu_early p n h (inr next) other e =
    by (not_both (is_switched p.role) (is_out_successor p.role n) e)
  where
    out : is_out p.role.replacement ≡ true
    out = (and_parts (is_out p.role.replacement) (n == p.role.out_successor.number) next.1).0

    on : (is_switched_by p.role.replacement ≡ false)
        ⊎ ((is_switched_by p.role.replacement ≡ true) × (p.role.line.has_next ≡ false))
        → (n ≡ out_finished p + 2) × (out_switched p ≡ out_finished p)
    on (inl o) =
        not_switched p n p.role.replacement out o h.outs.at (next_number p n h next.1)
    on (inr o) = absurd (true≢false (sym (has_next p n h next.1 next.2) ∙ o.1))

    by : (is_switched p.role ≡ false)
        ⊎ ((is_switched p.role ≡ true) × (is_out_successor p.role n ≡ false))
        → (n ≡ out_finished p + 2) × (out_switched p ≡ out_finished p)
    by (inl o) = on (not_both (is_switched_by p.role.replacement) p.role.line.has_next o)
    by (inr o) = absurd (true≢false (sym next.1 ∙ o.1))

pub pdu_refused : (p : Passage ClientRole) (n : ℕ) (pdu : List ℕ) → Facts p → Stands p.role n
    → IsRefused (pdu_on p.role pdu (pdu_channel p.role n)) → UnexpectedPduBy p n ClientOut
pdu_refused p n pdu h stands =
    by_test Why (not (is_open p.role.phase)) None _
    (λ o r. inl (not_open p h (closed (is_open p.role.phase) o)))
    (λ o. by_test Why (is_current p.role n) (Some Current) _
    (λ c r. inr (inl (end_now p n h (same_number n p.role.current.number c)
    (over p.role.line.current.ended
    (windows.admit_verdict p.role.line.current.window (length pdu)) r))))
    (λ c. by_test Why (is_switched p.role && is_out_successor p.role n) (Some Next) None
    (λ t r. inr (inl (end_next p n h (next_number p n h
    (and_parts (is_switched p.role) (is_out_successor p.role n) t).1)
    (over p.role.line.next.ended
    (windows.admit_verdict p.role.line.next.window (length pdu)) r))))
    (λ t r. inr (inr (pdu_early p n h stands c t)))))
  where
    Why : Option Which → Type 0
    Why w = IsRefused (pdu_on p.role pdu w) → UnexpectedPduBy p n ClientOut

    closed : (b : Bool) → not b ≡ true → b ≡ false
    closed true e = absurd (cc)
    closed false e = refl

-- ---- what opens the client

-- the first channel is not a successor
first_is : (p : Passage ClientRole) (n : ℕ) → Facts p → Stands p.role n → n ≡ 1
    → is_current p.role n ≡ true
first_is p n h (inl now) e = now.0
first_is p n h (inr next) e =
    let number = next_number p n h next.1 in
    let lower = h.channels.current in
    absurd (omega (arith, number, lower, e))

not_first : (p : Passage ClientRole) (n : ℕ) → Facts p → Stands p.role n
    → (n == 1 && is_current p.role n) ≡ false → n ≡ 1 → ⊥
not_first p n h stands e is = by (not_both (n == 1) (is_current p.role n) e)
  where
    by : (n == 1 ≡ false) ⊎ ((n == 1 ≡ true) × (is_current p.role n ≡ false)) → ⊥
    by (inl o) = other_number n 1 o is
    by (inr o) = true≢false (sym (first_is p n h stands is) ∙ o.1)

some_came : (count' : Count) (n : ℕ) → Tells count' n → is_zero count' ≡ false → 0 < n
some_came count.Zero n t e = absurd (true≢false e)
some_came count.One n t e = omega (arith, t)
some_came count.More n t e = omega (arith, t)

pub a3_refused : (p : Passage ClientRole) (n : ℕ) (count' : Count) (timeout : ℕ) → Facts p
    → Stands p.role n → Tells count' (packets (of_leg (co n) p.came))
    → IsRefused (on_conn_a3 p.role n count' timeout) → UnexpectedOn p n (named.ConnA3 timeout)
a3_refused p n count' timeout h stands tells =
    refused_by (n == 1 && (is_current p.role n && is_zero count')) _ (unexpected p.role)
    (λ e r. absurd (cc))
    (λ e r. by (not_both (n == 1) (is_current p.role n && is_zero count') e))
  where
    on : n ≡ 1
        → (is_current p.role n ≡ false)
        ⊎ ((is_current p.role n ≡ true) × (is_zero count' ≡ false))
        → UnexpectedOn p n (named.ConnA3 timeout)
    on is (inl o) = absurd (true≢false (sym (first_is p n h stands is) ∙ o))
    on is (inr o) = inr (some_came count' (packets (of_leg (co n) p.came)) tells o.1)

    by : (n == 1 ≡ false)
        ⊎ ((n == 1 ≡ true) × (is_current p.role n && is_zero count' ≡ false))
        → UnexpectedOn p n (named.ConnA3 timeout)
    by (inl o) = inl (other_number n 1 o)
    by (inr o) = on (same_number n 1 o.0) (not_both (is_current p.role n) (is_zero count') o.1)

none_of : (k : ℕ) → (0 < k → ⊥) → k ≡ 0
none_of k so = by (nat_eq k 0) refl
  where
    by : (b : Bool) → nat_eq k 0 ≡ b → k ≡ 0
    by true e = same_number k 0 e
    by false e = let other = other_number k 0 e in absurd (so (omega (arith, other)))

pub c2_refused : (p : Passage ClientRole) (n version window timeout : ℕ) → Facts p
    → Stands p.role n → IsRefused (on_conn_c2 p.role n window timeout)
    → UnexpectedOn p n (named.ConnC2 version window timeout)
c2_refused p n version window timeout h stands =
    refused_by ((n == 1 && is_current p.role n)
    && (is_opening p.role.phase && is_some p.role.current.timeout)) _ (unexpected p.role)
    (λ e r. absurd (cc))
    (λ e r. by (not_both (n == 1 && is_current p.role n)
    (is_opening p.role.phase && is_some p.role.current.timeout) e))
  where
    on : n ≡ 1
        → (is_opening p.role.phase ≡ false)
        ⊎ ((is_opening p.role.phase ≡ true) × (is_some p.role.current.timeout ≡ false))
        → UnexpectedOn p n (named.ConnC2 version window timeout)
    on is (inl o) = inr (inl (h.opens.behind o))
    on is (inr o) = inr (inr (subst (λ (k : ℕ).
        count_of is_conn_a3 (of_leg (co k) p.came) ≡ 0) (sym is)
        (none_of (count_of is_conn_a3 (of_leg (co 1) p.came))
        (λ some. true≢false (sym (h.channels.told o.0 some) ∙ o.1)))))

    by : (n == 1 && is_current p.role n ≡ false)
        ⊎ ((n == 1 && is_current p.role n ≡ true)
        × (is_opening p.role.phase && is_some p.role.current.timeout ≡ false))
        → UnexpectedOn p n (named.ConnC2 version window timeout)
    by (inl o) = inl (not_first p n h stands o)
    by (inr o) =
        on (same_number n 1 (and_parts (n == 1) (is_current p.role n) o.0).0)
        (not_both (is_opening p.role.phase) (is_some p.role.current.timeout) o.1)

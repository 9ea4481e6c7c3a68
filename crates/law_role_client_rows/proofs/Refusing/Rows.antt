-- why each row of a client refuses
use Rattle.law_order.proofs.Vocabulary.{◌≡◌, ◌⊎◌, ◌<◌, ◌≤◌, inl, inr, ℕ, ◌+◌, ◌==◌, Bool, true, false, true≢false, not, ◌&&◌, ◌||◌, nat_lt, if◌then◌else◌, List, Ok, Err, arith, refl, sym, ap, ◌∙◌, nat_tests, Result, TakerLaw}
use Rattle.rh_sig.specs.declared.named.Named.TheVariants as named
use Rattle.rh_shell.specs.declared.answers.Phase.TheVariants as phase
use Rattle.rh_shell.specs.declared.answers.Refused.TheVariants as refused
use Rattle.rh_client.specs.declared.replacement.InStage.TheVariants as in_stage
use Rattle.rh_client.specs.declared.replacement.OutStage.TheVariants as out_stage
use Rattle.law_moves.proofs.Vocabulary.{BadAck, same_number, other_number, Cookie, Phase, is_ended, Passage}
use Rattle.law_role_client.proofs.Vocabulary.{LAST_NUMBER, Replacement, NoneUnderWay, In, Out, ClientRole, is_up, is_put, is_asked, is_named, is_out, is_finished, has_out, Done, unexpected, is_open, is_opening, is_current, is_out_successor, on_ack_to, ack_named, acked, ack_row_by, answer_by, a2_by, a6_by, a10_by, on_out_r1_a2, on_out_r1_a6, taker_of, has_leg, came_log, once_if, opened, OpensOnce, InIsAt, OutIsAt, ReplacesIns, ReplacesOuts, AsksWhereWanted, is_to_ask}
use Rattle.law_role_client.proofs.Vocabulary.{out_waits, in_asked, in_answered, in_handed_over, out_wanted, out_asked, out_answered, out_finished}
use Rattle.law_role_client.proofs.Counted.Rows.{not_false}
use Rattle.law_role_client_rows.proofs.Refusing.Channels.{Channels, IsNext, sees}
use Rattle.law_role_client_rows.specs.Refusing.{UnexpectedOn}

abbrev pub IsRefused : Done → Type 0
IsRefused x = x.1 ≡ Err refused.Unexpected

-- a row that asks
pub refused_by : {G : Type 0} (b : Bool) (x y : Done) → (b ≡ true → IsRefused x → G)
    → (b ≡ false → IsRefused y → G) → IsRefused (if b then x else y) → G
refused_by true x y so other r = so refl r
refused_by false x y so other r = other refl r

pub not_both : (a b : Bool) → a && b ≡ false → (a ≡ false) ⊎ ((a ≡ true) × (b ≡ false))
not_both true b e = inr (refl, e)
not_both false b e = inl refl

-- ---- where the leg stands

-- it is the current channel's, which is not finished, or the successor's, which is up
abbrev pub Stands : ClientRole → ℕ → Type 0
Stands s n =
    ((is_current s n ≡ true) × (is_finished s.replacement ≡ false))
    ⊎ ((is_current s n ≡ false) × (is_out_successor s n ≡ true)
    × (is_up s.out_successor.opening ≡ true))

pub stands_by : (c f l z u x v : Bool) → (if c then f else l) ≡ false
    → (z && l) || ((c && u) || (x && v)) ≡ true
    → ((c ≡ true) × (f ≡ false)) ⊎ ((c ≡ false) × (x ≡ true) × (v ≡ true))
stands_by true f l z u x v e w = inl (refl, e)
stands_by false f true z u x v e w = absurd (true≢false e)
stands_by false f false z u true true e w = inr (refl, refl, refl)
stands_by false f false true u true false e w = absurd (cc)
stands_by false f false true u false v e w = absurd (cc)
stands_by false f false false u true false e w = absurd (cc)
stands_by false f false false u false v e w = absurd (cc)

pub on_one : (s : ClientRole) (n : ℕ) → Stands s n
    → is_current s n || is_out_successor s n ≡ true
on_one s n (inl h) = by (is_current s n) (is_out_successor s n) h.0
  where
    by : (a b : Bool) → a ≡ true → a || b ≡ true
    by true b e = refl
    by false b e = absurd (true≢false (sym e))
on_one s n (inr h) = by (is_current s n) (is_out_successor s n) h.1
  where
    by : (a b : Bool) → b ≡ true → a || b ≡ true
    by true b e = refl
    by false b e = e

-- ---- facts of the same moves

pub record Facts (p : Passage ClientRole) : Type 0 where
  pub ins : ReplacesIns p
  pub outs : ReplacesOuts p
  pub asks : AsksWhereWanted p
  pub opens : OpensOnce p
  pub out : List (List ℕ)
  pub takes : TakerLaw (taker_of out p.role) has_leg (came_log p.came)
  pub channels : Channels (sees p.role) p.came
  pub at_work : is_ended p.role.phase ≡ false

opening_of : (f : Phase) → is_ended f ≡ false → is_open f ≡ false → is_opening f ≡ true
opening_of phase.Opening w e = refl
opening_of phase.Open w e = absurd (cc)
opening_of phase.Ended w e = absurd (cc)

pub not_open : (p : Passage ClientRole) → Facts p → is_open p.role.phase ≡ false → opened p ≡ 0
not_open p h e = h.opens.before (opening_of p.role.phase h.at_work e)

-- ---- acknowledgements

ack_never : {G : Type 0} (v : Result (Unit {0}) BadAck)
    → ack_row_by v ≡ Err refused.Unexpected → G
ack_never (Ok acked) r = absurd (cc)
ack_never (Err bad) r = absurd (cc)

named_never : {G : Type 0} (s : ClientRole) (received available : ℕ) (of : Cookie)
    → IsRefused (ack_named s received available of) → G
named_never s received available of =
    refused_by (is_named s.writing of) _ _ (λ e. ack_never _)
    (λ e. refused_by (is_named s.in_successor of) _ _ (λ o. ack_never _)
    (λ o. refused_by (is_named s.leaving of) _ _ (λ u. ack_never _) (λ u r. absurd (cc))))

pub ack_refused : (p : Passage ClientRole) (n to received available : ℕ) (of : Cookie) → Facts p
    → IsRefused (on_ack_to p.role to received available of)
    → UnexpectedOn p n (named.AckTo to received available of)
ack_refused p n to received available of h =
    refused_by (is_open p.role.phase && to == 0) (ack_named p.role received available of)
    (unexpected p.role) (λ e. named_never p.role received available of)
    (λ e r. by (not_both (is_open p.role.phase) (to == 0) e))
  where
    by : (is_open p.role.phase ≡ false) ⊎ ((is_open p.role.phase ≡ true) × (to == 0 ≡ false))
        → UnexpectedOn p n (named.AckTo to received available of)
    by (inl closed) = inr (not_open p h closed)
    by (inr other) = inl (other_number to 0 other.1)

-- ---- answers for IN channels

answer_at : (p : Passage ClientRole) (window timeout : ℕ) (r : Replacement) → InIsAt p r
    → IsRefused (answer_by p.role window timeout r) → in_asked p ≡ in_answered p
answer_at p window timeout NoneUnderWay at = λ r. at.1 ∙ sym at.0
answer_at p window timeout (In in_stage.Asked w) at =
    refused_by (is_put p.role.in_successor.opening) _ (unexpected p.role) (λ e r. absurd (cc))
    (λ e r. let asked : in_asked p ≡ in_handed_over p + once_if false =
    at.1 ∙ ap (λ (b : Bool). in_handed_over p + once_if b) e in
    let answered = at.0 in omega (arith, asked, answered))
answer_at p window timeout (In in_stage.Answered w) at = λ r. at.1 ∙ sym at.0
answer_at p window timeout (Out stage w) at = λ r. at.1 ∙ sym at.0

pub answer_refused : (p : Passage ClientRole) (to window timeout : ℕ) → Facts p
    → IsRefused (if to == 0 then answer_by p.role window timeout p.role.replacement
    else unexpected p.role)
    → (to ≡ 0 → ⊥) ⊎ (in_asked p ≡ in_answered p)
answer_refused p to window timeout h =
    refused_by (to == 0) (answer_by p.role window timeout p.role.replacement) (unexpected p.role)
    (λ e r. inr (answer_at p window timeout p.role.replacement h.ins.at r))
    (λ e r. inl (other_number to 0 e))

-- ---- OUT channels that are wanted

abbrev A2Why : Passage ClientRole → ℕ → Type 0
A2Why p n =
    (out_asked p < out_wanted p)
    ⊎ ((n ≡ out_asked p) × (out_wanted p ≡ out_asked p) × (out_asked p ≡ out_finished p + 1))

a2_why : (p : Passage ClientRole) (n current : ℕ) (asked waits : Bool)
    → out_wanted p ≡ out_asked p + once_if (not asked) + once_if waits
    → out_asked p ≡ out_finished p + once_if asked → current ≡ out_finished p + 1
    → n ≡ current → A2Why p n
a2_why p n current false waits wanted is number at = inl (omega (arith, wanted))
a2_why p n current true true wanted is number at = inl (omega (arith, wanted))
a2_why p n current true false wanted is number at =
    inr (omega (arith, is, number, at), omega (arith, wanted), is)

-- on the current channel, while it is replaced
a2_current : (p : Passage ClientRole) (n : ℕ) (r : Replacement) → OutIsAt p r → is_out r ≡ true
    → is_finished r ≡ false
    → out_wanted p ≡ out_asked p + once_if (is_to_ask p.role r) + once_if (out_waits r)
    → n ≡ p.role.current.number → A2Why p n
a2_current p n NoneUnderWay at is f wanted number = absurd (true≢false (sym is))
a2_current p n (In stage w) at is f wanted number = absurd (true≢false (sym is))
a2_current p n (Out out_stage.Asked w) at is f wanted number =
    a2_why p n p.role.current.number (is_asked p.role.out_successor.opening) (has_out w) wanted
    at.0.asked at.0.current number
a2_current p n (Out out_stage.Answered w) at is f wanted number =
    a2_why p n p.role.current.number true (has_out w) wanted at.0.asked at.0.current number
a2_current p n (Out out_stage.Switched w) at is f wanted number =
    a2_why p n p.role.current.number true (has_out w) wanted at.0.asked at.0.current number
a2_current p n (Out out_stage.Finished w) at is f wanted number = absurd (true≢false f)

a2_at : (p : Passage ClientRole) (n : ℕ) (r : Replacement) → p.role.replacement ≡ r
    → OutIsAt p r
    → out_wanted p ≡ out_asked p + once_if (is_to_ask p.role r) + once_if (out_waits r)
    → Stands p.role n → IsRefused (a2_by p.role n r) → A2Why p n
a2_at p n NoneUnderWay e at wanted stands = λ r. absurd (cc)
a2_at p n (In stage false) e at wanted stands = λ r. absurd (cc)
a2_at p n (In stage true) e at wanted stands = λ r. inl (omega (arith, wanted))
a2_at p n (Out stage w) e at wanted stands =
    refused_by (is_out_successor p.role n && not (has_out w)) _ (unexpected p.role)
    (λ t r. absurd (cc))
    (λ t r. by (not_both (is_out_successor p.role n) (not (has_out w)) t) stands)
  where
    by : (is_out_successor p.role n ≡ false)
        ⊎ ((is_out_successor p.role n ≡ true) × (not (has_out w) ≡ false))
        → Stands p.role n → A2Why p n
    by (inr waits) there =
        let more : out_wanted p
        ≡ out_asked p + once_if (is_to_ask p.role (Out stage w)) + once_if true =
        wanted ∙ ap (λ (b : Bool). out_asked p + once_if (is_to_ask p.role (Out stage w))
        + once_if b) (not_false (has_out w) waits.1) in
        inl (omega (arith, more))
    by (inl other) (inr next) = absurd (true≢false (sym next.1 ∙ other))
    by (inl other) (inl now) =
        a2_current p n (Out stage w) at refl (sym (ap is_finished e) ∙ now.1) wanted
        (same_number n p.role.current.number now.0)

pub a2_refused : (p : Passage ClientRole) (n to : ℕ) → Facts p → Stands p.role n
    → IsRefused (on_out_r1_a2 p.role n to) → UnexpectedOn p n (named.OutR1A2 to)
a2_refused p n to h stands =
    refused_by (is_open p.role.phase && (to == 0 && nat_lt n LAST_NUMBER))
    (a2_by p.role n p.role.replacement) (unexpected p.role)
    (λ e r. inr (inr (inr (a2_at p n p.role.replacement refl h.outs.at
    (h.asks.waits h.at_work) stands r))))
    (λ e r. by (not_both (is_open p.role.phase) (to == 0 && nat_lt n LAST_NUMBER) e))
  where
    last : nat_lt n LAST_NUMBER ≡ false → LAST_NUMBER ≤ n
    last e = grind (arith, nat_tests, e)

    other : (to == 0 ≡ false) ⊎ ((to == 0 ≡ true) × (nat_lt n LAST_NUMBER ≡ false))
        → UnexpectedOn p n (named.OutR1A2 to)
    other (inl e) = inl (other_number to 0 e)
    other (inr e) = inr (inr (inl (last e.1)))

    by : (is_open p.role.phase ≡ false)
        ⊎ ((is_open p.role.phase ≡ true) × (to == 0 && nat_lt n LAST_NUMBER ≡ false))
        → UnexpectedOn p n (named.OutR1A2 to)
    by (inl closed) = inr (inl (not_open p h closed))
    by (inr e) = other (not_both (to == 0) (nat_lt n LAST_NUMBER) e.1)

-- ---- OUT channels that are answered

a6_at : (p : Passage ClientRole) (timeout : ℕ) (r : Replacement) → OutIsAt p r
    → IsRefused (a6_by p.role timeout r) → out_asked p ≡ out_answered p
a6_at p timeout NoneUnderWay at = λ r. at.asked ∙ sym at.answered
a6_at p timeout (In stage w) at = λ r. at.asked ∙ sym at.answered
a6_at p timeout (Out out_stage.Asked w) at =
    refused_by (is_asked p.role.out_successor.opening) _ (unexpected p.role) (λ e r. absurd (cc))
    (λ e r. (at.0.asked ∙ ap (λ (b : Bool). out_finished p + once_if b) e)
    ∙ sym at.0.answered)
a6_at p timeout (Out out_stage.Answered w) at = λ r. at.0.asked ∙ sym at.0.answered
a6_at p timeout (Out out_stage.Switched w) at = λ r. at.0.asked ∙ sym at.0.answered
a6_at p timeout (Out out_stage.Finished w) at = λ r. at.0.asked ∙ sym at.0.answered

-- on another channel than the current one
a6_other : (p : Passage ClientRole) (n : ℕ) (r : Replacement) → OutIsAt p r
    → (n ≡ p.role.current.number → ⊥)
    → (out_asked p ≡ out_answered p) ⊎ (n ≡ out_answered p + 1 → ⊥)
a6_other p n NoneUnderWay at other = inl (at.asked ∙ sym at.answered)
a6_other p n (In stage w) at other = inl (at.asked ∙ sym at.answered)
a6_other p n (Out out_stage.Asked w) at other =
    let answered = at.0.answered in
    let number = at.0.current in
    inr (λ e. other (omega (arith, answered, number, e)))
a6_other p n (Out out_stage.Answered w) at other = inl (at.0.asked ∙ sym at.0.answered)
a6_other p n (Out out_stage.Switched w) at other = inl (at.0.asked ∙ sym at.0.answered)
a6_other p n (Out out_stage.Finished w) at other = inl (at.0.asked ∙ sym at.0.answered)

pub a6_refused : (p : Passage ClientRole) (n to version timeout : ℕ) → Facts p
    → IsRefused (on_out_r1_a6 p.role n to timeout)
    → UnexpectedOn p n (named.OutR1A6 to version timeout)
a6_refused p n to version timeout h =
    refused_by (to == 0 && is_current p.role n) (a6_by p.role timeout p.role.replacement)
    (unexpected p.role)
    (λ e r. inr (inl (a6_at p timeout p.role.replacement h.outs.at r)))
    (λ e r. by (not_both (to == 0) (is_current p.role n) e))
  where
    by : (to == 0 ≡ false) ⊎ ((to == 0 ≡ true) × (is_current p.role n ≡ false))
        → UnexpectedOn p n (named.OutR1A6 to version timeout)
    by (inl e) = inl (other_number to 0 e)
    by (inr e) = inr (a6_other p n p.role.replacement h.outs.at
        (other_number n p.role.current.number e.1))

-- ---- OUT channels that are finished

nothing_more : (p : Passage ClientRole) → out_finished p ≡ out_finished p + 0
nothing_more p = omega arith

pub a10_refused : (p : Passage ClientRole) (n : ℕ) (r : Replacement) → OutIsAt p r
    → IsNext r (is_up p.role.out_successor.opening) p.role.line.has_next
    → IsRefused (a10_by p.role n r) → UnexpectedOn p n named.OutR1A10
a10_refused p n NoneUnderWay at next = λ r. inl (at.switched ∙ sym (nothing_more p))
a10_refused p n (In stage w) at next = λ r. inl (at.switched ∙ sym (nothing_more p))
a10_refused p n (Out out_stage.Asked w) at next = λ r. inl (at.0.switched ∙ sym (nothing_more p))
a10_refused p n (Out out_stage.Answered w) at next = λ r.
    inl (at.0.switched ∙ sym (nothing_more p))
a10_refused p n (Out out_stage.Switched w) at next =
    refused_by (p.role.line.has_next && is_current p.role n) _ (unexpected p.role)
    (λ t r. absurd (cc))
    (λ t r. by (not_both p.role.line.has_next (is_current p.role n) t))
  where
    by : (p.role.line.has_next ≡ false)
        ⊎ ((p.role.line.has_next ≡ true) × (is_current p.role n ≡ false))
        → UnexpectedOn p n named.OutR1A10
    by (inl e) = absurd (true≢false (sym next ∙ e))
    by (inr e) =
        let other = other_number n p.role.current.number e.1 in
        let number = at.0.current in
        inr (λ same. other (omega (arith, same, number)))
a10_refused p n (Out out_stage.Finished w) at next = λ r.
    inl (at.0.switched ∙ sym (nothing_more p))

-- IN_R1/A6 or END/A2 came on an is leg
use Rattle.law_order.proofs.Vocabulary.{◌≡◌, ℕ, suc, ◌==◌, Bool, true, false, true≢false, not, ◌&&◌, ◌||◌, nat_eq, List, [], ◌∷◌, ◌++◌, append_assoc, Some, None, refl, sym, ap, ◌∙◌, subst, and_parts, if◌then◌else◌, Option, Item, has_end, has_handover, TakerLaw}
use Rattle.law_moves.proofs.Vocabulary.{by_test, same_number, has_end-append, has_handover-append, Leg, InServer, Which, Current, Next, Message, is_of, OnLeg}
use Rattle.law_role_server.proofs.Vocabulary.{InLeg, channel_at, ended_on, waits_ended, Server, in_items, items_if, items_on, taker_of}

abbrev pub passed : List Item → Bool
passed items = has_handover items || has_end items

abbrev pub came_on : ℕ → List OnLeg → List Item
came_on n came = items_on in_items InServer came n

abbrev pub HasPassed : ℕ → List OnLeg → Type 0
HasPassed n came = passed (came_on n came) ≡ true

-- ---- more comes

split : (a b : List Item) → passed (a ++ b)
    ≡ ((has_handover a || has_handover b) || (has_end a || has_end b))
split a b =
    ap (λ (t : Bool). t || has_end (a ++ b)) (has_handover-append a b)
    ∙ ap (λ (t : Bool). (has_handover a || has_handover b) || t) (has_end-append a b)

front_passed : (a b : List Item) → passed a ≡ true → passed (a ++ b) ≡ true
front_passed a b h =
    split a b ∙ by (has_handover a) (has_handover b) (has_end a) (has_end b) h
  where
    by : (ha hb ea eb : Bool) → (ha || ea) ≡ true → ((ha || hb) || (ea || eb)) ≡ true
    by true hb ea eb e = refl
    by false true true eb e = refl
    by false false true eb e = refl
    by false hb false eb e = absurd (true≢false (sym e))

last_passed : (a b : List Item) → passed b ≡ true → passed (a ++ b) ≡ true
last_passed a b h =
    split a b ∙ by (has_handover a) (has_handover b) (has_end a) (has_end b) h
  where
    by : (ha hb ea eb : Bool) → (hb || eb) ≡ true → ((ha || hb) || (ea || eb)) ≡ true
    by true hb ea eb e = refl
    by false true ea eb e = refl
    by false false true true e = refl
    by false false false true e = refl
    by false false ea false e = absurd (true≢false (sym e))

came_more : (came more : List OnLeg) (n : ℕ)
    → came_on n (came ++ more) ≡ came_on n came ++ came_on n more
came_more [] more n = refl
came_more ((leg, message) ∷ came) more n =
    let front : List Item = items_if (is_of InServer leg && nat_eq n leg.number) (in_items message)
    in
    ap (λ (items : List Item). front ++ items) (came_more came more n)
    ∙ sym (append_assoc front (came_on n came) (came_on n more))

pub passed_more : (n : ℕ) (came : List OnLeg) (one : OnLeg) → HasPassed n came
    → HasPassed n (came ++ one ∷ [])
passed_more n came one h =
    ap passed (came_more came (one ∷ []) n)
    ∙ front_passed (came_on n came) (came_on n (one ∷ [])) h

-- the mark comes, or END
pub passed_last : (n : ℕ) (came : List OnLeg) (leg : Leg) (message : Message)
    → passed (in_items message) ≡ true → (is_of InServer leg && nat_eq n leg.number) ≡ true
    → HasPassed n (came ++ (leg, message) ∷ [])
passed_last n came leg message is e =
    ap passed (came_more came ((leg, message) ∷ []) n)
    ∙ last_passed (came_on n came) (came_on n ((leg, message) ∷ []))
    (ap (λ (t : Bool). passed (items_if t (in_items message) ++ [])) e
    ∙ front_passed (in_items message) [] is)

-- ---- by the law of order

ended_passed : (n : ℕ) (came : List OnLeg) → has_end (came_on n came) ≡ true
    → HasPassed n came
ended_passed n came e =
    ap (λ (t : Bool). has_handover (came_on n came) || t) e
    ∙ last (has_handover (came_on n came))
  where
    last : (t : Bool) → (t || true) ≡ true
    last true = refl
    last false = refl

-- END came on the leg's channel
pub ended_came : (taken : List (List ℕ)) (legs : ℕ → Bool) (s : Server) (came : List OnLeg)
    → TakerLaw (taker_of taken s) legs (λ k. came_on k came) → (n : ℕ) (leg : InLeg)
    → leg.number ≡ n → waits_ended leg.stage ≡ false
    → ended_on s leg (channel_at s leg.number) ≡ true → HasPassed n came
ended_came taken legs s came law n leg number waits =
    by_test Ended ((leg.number == s.current.leg) && not s.line.finished) (Some Current)
    (if s.line.has_next && (leg.number == s.next.leg) then Some Next else None)
    (λ t e. here s.current.leg
    (and_parts (leg.number == s.current.leg) (not s.line.finished) t).0
    (sym law.holds.ended ∙ e))
    (λ t. by_test Ended (s.line.has_next && (leg.number == s.next.leg)) (Some Next) None
    (λ u e. here s.next.leg
    (and_parts s.line.has_next (leg.number == s.next.leg) u).1
    (subst (λ (k : ℕ). has_end (came_on k came) ≡ true)
    (ap (λ (b : Bool). if b then s.next.leg else suc s.current.leg)
    (and_parts s.line.has_next (leg.number == s.next.leg) u).0)
    (sym law.holds.next_ended ∙ e)))
    (λ u e. absurd (true≢false (sym e ∙ waits))))
  where
    Ended : Option Which → Type 0
    Ended o = ended_on s leg o ≡ true → HasPassed n came

    here : (k : ℕ) → leg.number == k ≡ true → has_end (came_on k came) ≡ true
        → HasPassed n came
    here k same e =
        ended_passed n came
        (subst (λ (j : ℕ). has_end (came_on j came) ≡ true)
        (sym (same_number leg.number k same) ∙ number) e)

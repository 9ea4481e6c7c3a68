-- a proxy that drew the refusal of status 503 was told that its server is lost, if it did not draw
-- all of that while it went on
use Rattle.law_order.proofs.Vocabulary.{◌≡◌, ℕ, inl, inr, List, [], ◌∷◌, ◌++◌, Bool, true, false, ◌||◌, Ok, length, drop, get_or, arith, refl, sym, ap, ◌∙◌, subst, ⊎_elim, ◌==◌, list_any, append-nil, list_any-append, IsPrefix}
use Rattle.rh_http.specs.declared.got.Got.TheVariants.{Head}
use Rattle.law_moves.proofs.Vocabulary.{refusal_told, response_answered, Refusal, Bad, Missing, Unavailable, Response, IsAnswer, JudgesResponse, refusal_text, status_of, response_verdict, Leg, Rules, Going, Refusing, Shell, Event, after_event, after_events}
use Rattle.law_node_history.proofs.Lemmas.{events_append}
use Rattle.law_node_history.proofs.Vocabulary.{AreAccepted, ComesUpOnce, drawn_on}
use Rattle.law_node_causes.specs.Refusals.{MayRefuseOn}
use Rattle.law_node_traces.proofs.Vocabulary.{DrawsRefusal, DrawsRightly}
use Rattle.law_world_honest.proofs.Refusals.Fronts.{accepted_front}
use Rattle.law_world_honest.proofs.Refusals.Unreached.{never_up}
use Rattle.law_world_honest.specs.Refusals.Refused.{BeginsRefused, DrewRefusal, IsUnreached}

unavailable_by : (r : Refusal) → status_of r ≡ 503 → r ≡ Unavailable
unavailable_by Unavailable e = refl
unavailable_by Bad e = absurd (omega (arith, e))
unavailable_by Missing e = absurd (omega (arith, e))

-- its text begins that of no other refusal
unavailable_front : (r : Refusal) → IsPrefix (refusal_text Unavailable) (refusal_text r)
    → r ≡ Unavailable
unavailable_front Unavailable p = refl
unavailable_front Bad p =
    let digit : 53 ≡ 52 = ap (λ (x : List ℕ). get_or x 9 0) p.1 in absurd (omega (arith, digit))
unavailable_front Missing p =
    let digit : 53 ≡ 52 = ap (λ (x : List ℕ). get_or x 9 0) p.1 in absurd (omega (arith, digit))

-- no byte of it but the first is one with which a refusal begins
begins_one : ℕ → Bool
begins_one b = b == 72

or_true : (b : Bool) → (b || true) ≡ false → ⊥
or_true true e = absurd cc
or_true false e = absurd cc

no_second : (x : ℕ) (xs bs : List ℕ) → (x ∷ xs) ++ 72 ∷ bs ≡ refusal_text Unavailable → ⊥
unfolding begins_one
no_second x xs bs e =
    let seen : (list_any begins_one xs || true) ≡ false =
    sym (list_any-append begins_one xs (72 ∷ bs))
    ∙ ap (λ (l : List ℕ). list_any begins_one (drop 1 l)) e in
    or_true (list_any begins_one xs) seen

first_byte : (r : Refusal) (b : ℕ) (bs : List ℕ) → IsPrefix (b ∷ bs) (refusal_text r) → b ≡ 72
first_byte Bad b bs p = ap (λ (l : List ℕ). get_or l 0 0) p.1
first_byte Missing b bs p = ap (λ (l : List ℕ). get_or l 0 0) p.1
first_byte Unavailable b bs p = ap (λ (l : List ℕ). get_or l 0 0) p.1

-- where not all of it came first, a front of a refusal behind that makes it that one whole
split_text : (before rest : List ℕ) (r : Refusal) → (before ≡ refusal_text Unavailable → ⊥)
    → before ++ rest ≡ refusal_text Unavailable → IsPrefix rest (refusal_text r)
    → r ≡ Unavailable
split_text [] rest r fair all front =
    unavailable_front r (subst (λ (x : List ℕ). IsPrefix x (refusal_text r)) all front)
split_text (x ∷ xs) [] r fair all front = absurd (fair (sym (append-nil (x ∷ xs)) ∙ all))
split_text (x ∷ xs) (b ∷ bs) r fair all front =
    absurd (no_second x xs bs
    (ap (λ (c : ℕ). (x ∷ xs) ++ c ∷ bs) (sym (first_byte r b bs front)) ∙ all))

-- and it drew that on its client's leg
module _ {S : Type 0} (rules : Rules S) (first : Shell S) (client server leg : Leg)
    (events : List Event)
    (once : ComesUpOnce rules first) (accepted : AreAccepted rules first events)
    (on : (some : List Event) → MayRefuseOn client server (after_events rules first some).course)
    (fair : (before behind : List Event) → events ≡ before ++ behind
    → (after_events rules first before).course ≡ Going
    → drawn_on rules first leg before ≡ refusal_text Unavailable → ⊥) where
  own_leg : (draws : DrawsRefusal rules first leg events) → draws.refusal ≡ Unavailable
      → leg ≡ client
  own_leg draws long =
      let lost = draws.unreached long in
      let after : (after_events rules first (draws.before ++ draws.event ∷ [])).course
      ≡ Refusing draws.why leg (refusal_text draws.refusal) =
      ap (λ (s : Shell S). s.course)
      (events_append rules first draws.before (draws.event ∷ [])) ∙ draws.refuses in
      ⊎_elim (λ request. absurd (let never = sym request.request.cause ∙ lost.2 in cc))
      (λ tells. tells.told)
      (subst (MayRefuseOn client server) after (on (draws.before ++ draws.event ∷ [])))

  told_lost : DrawsRightly rules first server leg events
      → drawn_on rules first leg events ≡ refusal_text Unavailable
      → (leg ≡ client) × IsUnreached server events
  told_lost (inl going) whole =
      absurd (fair going.before going.behind going.split going.going (sym going.drawn ∙ whole))
  told_lost (inr refuses) whole =
      let draws = refuses.0 in
      let long =
      split_text (drawn_on rules first leg draws.before) draws.rest draws.refusal
      (fair draws.before (draws.event ∷ draws.behind) draws.split draws.going)
      (sym draws.drawn ∙ whole) draws.front in (
        own_leg draws long,
        record {
          before = draws.before;
          behind = draws.behind;
          split =
              draws.split
              ∙ ap (λ (e : Event). draws.before ++ e ∷ draws.behind) (refuses.1 long);
          never =
              never_up rules first once draws.before server
              (accepted_front rules first draws.before (draws.event ∷ draws.behind)
              (subst (AreAccepted rules first) draws.split accepted)) draws.going draws.why leg
              (refusal_text draws.refusal)
              (subst (λ (e : Event).
              (after_event rules (after_events rules first draws.before) e).course
              ≡ Refusing draws.why leg (refusal_text draws.refusal)) (refuses.1 long)
              draws.refuses);
        },
      )

  pub told_503 : DrawsRightly rules first server leg events
      → DrewRefusal (drawn_on rules first leg events) 503
      → (leg ≡ client) × IsUnreached server events
  told_503 rightly drew =
      told_lost rightly (drew.drew ∙ ap refusal_text (unavailable_by drew.refusal drew.named))

-- ---- what a proxy puts is not that text

abbrev unreached : Response
unreached = record { status = 503; length = 0 }

read_unavailable : response_verdict (refusal_text Unavailable) ≡ Ok unreached
read_unavailable =
    let text = refusal_text Unavailable in
    sym (response_answered text (Head unreached (length text)) (omega arith)
    (subst (λ (x : List ℕ). IsAnswer JudgesResponse x (Head unreached (length text)))
    (append-nil text) (refusal_told Unavailable [])))

-- it refuses a channel with that status
pub unavailable_refuses : (leg : Leg) → BeginsRefused (refusal_text Unavailable) leg 503
unavailable_refuses leg = record {
  text = refusal_text Unavailable;
  front = ([], append-nil (refusal_text Unavailable));
  refused = record {
    response = unreached;
    read = read_unavailable;
    told = refl;
    failure = λ out e. absurd (omega (arith, e));
  };
}

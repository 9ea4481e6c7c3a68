-- a round reports no end of the rounds
use Rattle.law_order.proofs.Vocabulary.{◌≡◌, ℕ, List, [], ◌∷◌, Bool, true, false, Some, None, Option, refl, sym, ap, ◌∙◌, inl, inr, and_from, and_parts, list_all, list_all-append, true≢false}
use Rattle.rh_record.specs.declared.answer.Answer.TheVariants as answer
use Rattle.rh_record.specs.declared.answer.TakeAnswer.TheVariants as takes
use Rattle.law_moves.proofs.Vocabulary.{Dir, Side, Leg}
use Rattle.law_node_history.proofs.Vocabulary.{Answer, TakeAnswer, Rulebook, Deeds, Makers, World, IsOneOf, and_then, carried, carry_bytes, has_ended, open_leg, open_same, opened, opened_same, round, take, took}
use Rattle.law_node_history.proofs.Lemmas.{carries_go, ends_go, opens_go, round_goes}

abbrev pub is_plain : Answer → Bool
is_plain (answer.Quiet count) = false
is_plain one = true

pub none_is_quiet : (count : ℕ) (list : List Answer) → list_all is_plain list ≡ true
    → IsOneOf (answer.Quiet count) list → ⊥
none_is_quiet count [] plain one = one
none_is_quiet count (x ∷ list) plain (inl here) =
    true≢false (sym (and_parts (is_plain x) (list_all is_plain list) plain).0 ∙ ap is_plain here)
none_is_quiet count (x ∷ list) plain (inr behind) =
    none_is_quiet count list (and_parts (is_plain x) (list_all is_plain list) plain).1 behind

module _ {W : Type 0} where
  abbrev ArePlain : W × List Answer → Type 0
  ArePlain did = list_all is_plain did.1 ≡ true

  opened_plain : (leg : Leg) (did : W × Bool) → ArePlain (opened leg did)
  opened_plain leg (v, true) = refl
  opened_plain leg (v, false) = refl

  same_plain : (leg : Leg) (did : W × Bool) → ArePlain (opened_same leg did)
  same_plain leg (v, true) = refl
  same_plain leg (v, false) = refl

  carried_plain : (leg : Leg) (dir : Dir) (did : W × Option (List ℕ))
      → ArePlain (carried leg dir did)
  carried_plain leg dir (v, None) = refl
  carried_plain leg dir (v, Some []) = refl
  carried_plain leg dir (v, Some (b ∷ bytes)) = refl

  took_plain : (end : Side) (over : Bool) (did : W × TakeAnswer) → ArePlain (took end over did)
  took_plain end over (v, takes.Pdu pdu) = refl
  took_plain end over (v, takes.Empty) = refl
  took_plain end true (v, takes.Ended) = refl
  took_plain end false (v, takes.Ended) = refl
  took_plain end over (v, takes.Closed why) = refl

module _ {K C S I O : Type 0} (r : Rulebook C S I O) (m : Makers K I O) (d : Deeds C S) where
  abbrev IsPlain : World K C S I O → World K C S I O × List Answer → Type 0
  IsPlain w did = ArePlain did

  none : (w : World K C S I O) → IsPlain w (w, [])
  none w = refl

  behind : (w : World K C S I O) (did : World K C S I O × List Answer)
      (act : World K C S I O → World K C S I O × List Answer) → IsPlain w did
      → ((v : World K C S I O) → IsPlain v (act v)) → IsPlain w (and_then did act)
  behind w did act plain more =
      list_all-append is_plain did.1 (act did.0).1
      ∙ and_from (list_all is_plain did.1) (list_all is_plain (act did.0).1) plain (more did.0)

  pub round_plain : (w : World K C S I O) → list_all is_plain (round r m d w).1 ≡ true
  round_plain =
      round_goes r m d IsPlain none behind
      (opens_go r m d IsPlain none behind (λ w leg. opened_plain leg (open_leg r m w leg))
      (λ w leg. same_plain leg (open_same r w leg)))
      (carries_go r m d IsPlain none behind
      (λ leg dir w. carried_plain leg dir (carry_bytes r leg dir w)))
      (λ end w. took_plain end (has_ended w end) (take d w end))
      (ends_go r m d IsPlain none behind (λ leg dir w. refl))

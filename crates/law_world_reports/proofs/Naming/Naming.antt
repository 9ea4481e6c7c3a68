-- answers that name a cause where they are of the end
use Rattle.law_order.proofs.Vocabulary.{◌≡◌, ◌++◌, List, [], ◌∷◌, true, false, IsTrue, Some, refl, sym, ap, ◌∙◌, subst, inl, inr, list_all, and_parts, false≢true}
use Rattle.rh_record.specs.declared.answer.Answer.TheVariants as answer
use Rattle.law_moves.proofs.Vocabulary.{Side, Cause}
use Rattle.law_node_history.proofs.Vocabulary.{Answer, Closing, lines, IsOneOf}
use Rattle.law_node_history.proofs.Lemmas.{is_other}
use Rattle.law_world_reports.proofs.Vocabulary.{node_of, Names, NamesIt, cause_told, tells_of}

module _ (end : Side) (why : Cause) where
  pub names_none : Names end why []
  names_none later there tells = absurd there

  pub names_more : (one : Answer) (more : List Answer)
      → (IsTrue (tells_of end one) → cause_told one ≡ Some why) → Names end why more
      → Names end why (one ∷ more)
  names_more one more first behind later (inl here) tells =
      subst (λ (x : Answer). IsTrue (tells_of end x) → cause_told x ≡ Some why) here first tells
  names_more one more first behind later (inr there) tells = behind later there tells

  pub names_one : (one : Answer) → (IsTrue (tells_of end one) → cause_told one ≡ Some why)
      → Names end why (one ∷ [])
  names_one one first = names_more one [] first names_none

  -- an answer that isn't of the end
  pub names_past : (one : Answer) (more : List Answer) → tells_of end one ≡ false
      → Names end why more → Names end why (one ∷ more)
  names_past one more other =
      names_more one more (λ tells. absurd (false≢true (sym other ∙ tells)))

  pub names_other : (one : Answer) → tells_of end one ≡ false → Names end why (one ∷ [])
  names_other one other = names_past one [] other names_none

  pub names_append : (xs ys : List Answer) → Names end why xs → Names end why ys
      → Names end why (xs ++ ys)
  names_append [] ys a b later there tells = b later there tells
  names_append (x ∷ xs) ys a b later (inl here) tells = a later (inl here) tells
  names_append (x ∷ xs) ys a b later (inr there) tells =
      names_append xs ys (λ one h. a one (inr h)) b later there tells

  -- a node that closed is told of by no answer of an end
  pub names_closings : (list : List Closing) → Names end why (lines list)
  names_closings [] = names_none
  names_closings (x ∷ list) =
      names_past (answer.NodeClosed x.who x.cause) (lines list) refl (names_closings list)

-- ---- behind each end that is reported as closed

abbrev pub AllName : List Answer → Type 0
AllName [] = Unit {0}
AllName (one ∷ more) =
    ((end : Side) (why : Cause) → one ≡ answer.NodeClosed (node_of end) why → Names end why more)
    × AllName more

pub all_append : (xs ys : List Answer) → AllName xs → AllName ys
    → ((end : Side) (why : Cause) → IsOneOf (answer.NodeClosed (node_of end) why) xs
    → Names end why ys)
    → AllName (xs ++ ys)
all_append [] ys a b told = b
all_append (x ∷ xs) ys a b told = (
  λ end why is. names_append end why xs ys (a.0 end why is) (told end why (inl is)),
  all_append xs ys a.1 b (λ end why there. told end why (inr there)),
)

-- where none is
pub all_others : (answers : List Answer) → list_all is_other answers ≡ true → AllName answers
all_others [] others = tt
all_others (one ∷ more) others =
    let parts = and_parts (is_other one) (list_all is_other more) others in (
      λ end why is. absurd (false≢true (ap is_other (sym is) ∙ parts.0)),
      all_others more parts.1,
    )

pub all_closings : (list : List Closing) → AllName (lines list)
all_closings [] = tt
all_closings (x ∷ list) = (λ end why is. names_closings end why list, all_closings list)

-- ---- reports

-- the first answer of some, or another, and those behind
first_of : Answer → List Answer → Answer
first_of other [] = other
first_of other (one ∷ more) = one

rest_of : List Answer → List Answer
rest_of [] = []
rest_of (one ∷ more) = more

pub all_name_it : (report : List Answer) → AllName report → NamesIt report
unfolding first_of rest_of
all_name_it [] all end [] behind why e = absurd cc
all_name_it [] all end (x ∷ front) behind why e = absurd cc
all_name_it (one ∷ more) all end [] behind why e =
    subst (Names end why) (ap rest_of e) (all.0 end why (ap (first_of one) e))
all_name_it (one ∷ more) all end (x ∷ front) behind why e =
    all_name_it more all.1 end front behind why (ap rest_of e)

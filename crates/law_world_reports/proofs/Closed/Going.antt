-- what is done, and answers that show what it tells
use Rattle.law_order.proofs.Vocabulary.{List, [], ◌∷◌, ◌++◌, inl, inr}
use Rattle.law_node_history.proofs.Vocabulary.{Answer, Rulebook, Deeds, Makers, and_then, World, IsOneOf}
use Rattle.law_node_history.proofs.Lemmas.{one_behind}
use Rattle.law_world_reports.proofs.Closed.Showing.{shown_none, shown_then}
use Rattle.law_world_reports.proofs.Vocabulary.{ShownWorks}

pub one_before : {X : Type 0} (x : X) (xs ys : List X) → IsOneOf x xs → IsOneOf x (xs ++ ys)
one_before x [] ys h = absurd h
one_before x (z ∷ xs) ys (inl here) = inl here
one_before x (z ∷ xs) ys (inr behind) = inr (one_before x xs ys behind)

-- each of a list is one of the other
abbrev pub AreIn : List Answer → List Answer → Type 0
AreIn some all = (x : Answer) → IsOneOf x some → IsOneOf x all

module _ {K C S I O : Type 0} (r : Rulebook C S I O) (m : Makers K I O) (d : Deeds C S) where
  -- it is shown by whatever answers have its own
  abbrev pub Goes : World K C S I O → World K C S I O × List Answer → Type 0
  Goes w did = (all : List Answer) → AreIn did.1 all → ShownWorks r m d all w did.0

  -- whatever is answered
  abbrev pub Quiet : World K C S I O → World K C S I O → Type 0
  Quiet w v = (all : List Answer) → ShownWorks r m d all w v

  pub goes_none : (w : World K C S I O) → Goes w (w, [])
  goes_none w = λ all are_in. shown_none r m d all w

  pub goes_and_then : (w : World K C S I O) (did : World K C S I O × List Answer)
      (act : World K C S I O → World K C S I O × List Answer) → Goes w did
      → ((v : World K C S I O) → Goes v (act v)) → Goes w (and_then did act)
  goes_and_then w did act a b = λ all are_in.
      shown_then r m d all w did.0 (act did.0).0
      (a all (λ x h. are_in x (one_before x did.1 (act did.0).1 h)))
      (b did.0 all (λ x h. are_in x (one_behind x did.1 (act did.0).1 h)))

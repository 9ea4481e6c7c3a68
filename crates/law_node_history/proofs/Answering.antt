-- changes of one kind, and answers of one kind
use Rattle.law_order.proofs.Vocabulary.{◌≡◌, List, [], ◌∷◌, Bool, true, false, refl, ◌∙◌, list_all, list_all-append, and_from}
use Rattle.law_node_history.proofs.Vocabulary.{Answer, NodeClosed, Rulebook, Deeds, Makers, and_then, World, Change, is_work, is_quiet, is_silent, GoesBy, DrawsBy}
use Rattle.law_node_history.proofs.Working.{all_wider}
use Rattle.law_node_history.proofs.Drawing.{draws_none, draws_then, draws_quietly}

-- it tells of something else than a closed node
abbrev pub is_other : Answer → Bool
is_other (NodeClosed node why) = false
is_other one = true

pub silent_other : (one : Answer) → is_silent one ≡ true → is_other one ≡ true
silent_other (NodeClosed node why) silent = absurd cc
silent_other one silent = refl

-- changes of one kind lead to what was done and draw the cookies of the client's legs, and the
-- answers are of one kind
pub record DrawsAs {K C S I O : Type 0} (kind : Change → Bool) (tells : Answer → Bool)
    (r : Rulebook C S I O) (m : Makers K I O) (d : Deeds C S) (w : World K C S I O)
    (did : World K C S I O × List Answer) : Type 0 where
  pub draws : DrawsBy kind r m d w did.0
  pub others : list_all tells did.1 ≡ true

module _ {K C S I O : Type 0} {kind : Change → Bool} {tells : Answer → Bool}
    (r : Rulebook C S I O) (m : Makers K I O) (d : Deeds C S) where
  pub goes_quiet : (w v : World K C S I O) → DrawsBy kind r m d w v
      → DrawsAs kind tells r m d w (v, [])
  goes_quiet w v a = record { draws = a; others = refl }

  pub goes_none : (w : World K C S I O) → DrawsAs kind tells r m d w (w, [])
  goes_none w = goes_quiet w w (draws_none r m d w)

  pub goes_one : (w v : World K C S I O) (one : Answer) → DrawsBy kind r m d w v
      → tells one ≡ true → DrawsAs kind tells r m d w (v, one ∷ [])
  goes_one w v one a other = record { draws = a; others = and_from (tells one) true other refl }

  pub goes_and_then : (w : World K C S I O) (did : World K C S I O × List Answer)
      (act : World K C S I O → World K C S I O × List Answer) → DrawsAs kind tells r m d w did
      → ((v : World K C S I O) → DrawsAs kind tells r m d v (act v))
      → DrawsAs kind tells r m d w (and_then did act)
  goes_and_then w did act a b = record {
    draws = draws_then r m d w did.0 (act did.0).0 a.draws (b did.0).draws;
    others =
        list_all-append tells did.1 (act did.0).1
        ∙ and_from (list_all tells did.1) (list_all tells (act did.0).1) a.others
        (b did.0).others;
  }

  -- whatever the cookies
  pub goes_plainly : (w : World K C S I O) (did : World K C S I O × List Answer)
      → DrawsAs kind tells r m d w did → GoesBy kind tells r m d w did
  goes_plainly w did a = record { works = a.draws.works; others = a.others }

module _ {K C S I O : Type 0} (r : Rulebook C S I O) (m : Makers K I O) (d : Deeds C S) where
  -- no report, and answers that tell of no closed node
  abbrev pub Goes : World K C S I O → World K C S I O × List Answer → Type 0
  Goes w did = GoesBy is_work is_other r m d w did

  -- with cookies that are drawn
  abbrev pub GoesDrawing : World K C S I O → World K C S I O × List Answer → Type 0
  GoesDrawing w did = DrawsAs is_work is_other r m d w did

  -- and quietly
  abbrev pub QuietlyDrawing : World K C S I O → World K C S I O × List Answer → Type 0
  QuietlyDrawing w did = DrawsAs is_quiet is_silent r m d w did

  pub goes_quietly : (w : World K C S I O) (did : World K C S I O × List Answer)
      → QuietlyDrawing w did → GoesDrawing w did
  goes_quietly w did a = record {
    draws = draws_quietly r m d w did.0 a.draws;
    others = all_wider is_silent is_other silent_other did.1 a.others;
  }

-- a run and the events of its report, side by side
use Rattle.law_order.proofs.Vocabulary.{◌≡◌, ◌++◌, ℕ, List, [], ◌∷◌, refl, sym, ap, ◌∙◌, subst}
use Rattle.rh_record.specs.Events.Events.{Event}
use Rattle.law_moves.proofs.Vocabulary.{Side}
use Rattle.law_node_history.proofs.Vocabulary.{Answer, event, events, Rulebook, Deeds, Makers, and_then, World, ByLines}
use Rattle.law_node_history.proofs.Lemmas.{works_none, works_then}
use Rattle.law_world_reports.proofs.Telling.Adding.{Way, gains, gains_then}
use Rattle.law_world_reports.proofs.Telling.Parts.{part, left, events_append}
use Rattle.law_world_reports.proofs.Vocabulary.{Tells}

module _ {K C S I O : Type 0} (r : Rulebook C S I O) (m : Makers K I O) (d : Deeds C S) where
  -- changes by which nothing is given or taken
  pub record Idle (w v : World K C S I O) : Type 0 where
    pub lines : ByLines r m d w v
    pub none : (way : Way) (end : Side) → gains r m d lines way end ≡ []

  -- such changes, and then some of which an event tells
  pub record Told (w v : World K C S I O) (pdus : List (List ℕ)) (told : Event) : Type 0 where
    pub at : World K C S I O
    pub before : Idle w at
    pub lines : ByLines r m d at v
    pub gain : (way : Way) (end : Side) → gains r m d lines way end ≡ part way end pdus told
    pub tells : Tells r m d at lines.leads.changes told

  -- what the events tell, one after the other; what is offered is these PDUs, and others are left
  abbrev pub Tale : World K C S I O → World K C S I O → List (List ℕ) → List (List ℕ)
      → List Event → Type 0
  Tale w u pdus rest [] = Idle w u × (pdus ≡ rest)
  Tale w u pdus rest (told ∷ more) =
      (v : World K C S I O) × Told w v pdus told × Tale v u (left pdus told) rest more

  pub idle_none : (w : World K C S I O) → Idle w w
  idle_none w = record { lines = works_none r m d w; none = λ way end. refl }

  pub idle_then : (w v u : World K C S I O) → Idle w v → Idle v u → Idle w u
  idle_then w v u a b = record {
    lines = works_then r m d w v u a.lines b.lines;
    none = λ way end. gains_then r m d w v u a.lines b.lines way end
        ∙ ap (λ front. front ++ gains r m d b.lines way end) (a.none way end)
        ∙ b.none way end;
  }

  tale_after : (w v u : World K C S I O) (pdus rest : List (List ℕ)) (told : List Event)
      → Idle w v → Tale v u pdus rest told → Tale w u pdus rest told
  tale_after w v u pdus rest [] idle (more, same) = (idle_then w v u idle more, same)
  tale_after w v u pdus rest (one ∷ told) idle (x, first, tale) = (
    x,
    record {
      at = first.at;
      before = idle_then w v first.at idle first.before;
      lines = first.lines;
      gain = first.gain;
      tells = first.tells;
    },
    tale,
  )

  pub tale_append : (w v u : World K C S I O) (pdus rest last : List (List ℕ))
      (told more : List Event) → Tale w v pdus rest told → Tale v u rest last more
      → Tale w u pdus last (told ++ more)
  tale_append w v u pdus rest last [] more (idle, same) tale =
      tale_after w v u pdus last more idle
      (subst (λ ps. Tale v u ps last more) (sym same) tale)
  tale_append w v u pdus rest last (one ∷ told) more (x, first, front) tale =
      (x, first, tale_append x v u (left pdus one) rest last told more front tale)

  -- ---- of what was done and answered

  abbrev pub TaleOf : List (List ℕ) → List (List ℕ) → World K C S I O
      → World K C S I O × List Answer → Type 0
  TaleOf pdus rest w did = Tale w did.0 pdus rest (events did.1)

  pub tale_and_then : (pdus rest last : List (List ℕ)) (w : World K C S I O)
      (did : World K C S I O × List Answer)
      (act : World K C S I O → World K C S I O × List Answer) → TaleOf pdus rest w did
      → TaleOf rest last did.0 (act did.0) → TaleOf pdus last w (and_then did act)
  tale_and_then pdus rest last w did act a b =
      subst (λ told. Tale w (act did.0).0 pdus last told)
      (sym (events_append did.1 (act did.0).1))
      (tale_append w did.0 (act did.0).0 pdus rest last (events did.1) (events (act did.0).1) a b)

  -- nothing is answered
  pub tale_none : (pdus : List (List ℕ)) (w v : World K C S I O) → Idle w v
      → TaleOf pdus pdus w (v, [])
  tale_none pdus w v idle = (idle, refl)

  -- one answer
  pub tale_one : (pdus rest : List (List ℕ)) (w v : World K C S I O) (one : Answer)
      → Told w v pdus (event one) → left pdus (event one) ≡ rest
      → TaleOf pdus rest w (v, one ∷ [])
  tale_one pdus rest w v one told same = (v, told, (idle_none v, same))

-- each front of the events of a report stands at a moment of the run
use Rattle.law_order.proofs.Vocabulary.{◌≡◌, ◌++◌, ℕ, List, [], ◌∷◌, refl, sym, ap, ◌∙◌, subst, append_assoc}
use Rattle.rh_record.specs.Events.Events.{Event, Gives, Takes, Ends, Closes}
use Rattle.law_moves.proofs.Vocabulary.{Side, Client, Server}
use Rattle.law_node_history.proofs.Vocabulary.{Line, Refuses, Stops, Silent, events, offered, Company, Rulebook, Deeds, Makers, told, World, Change, ByLines, History, all_noted, nothing}
use Rattle.law_node_history.proofs.Lemmas.{works_none, works_then}
use Rattle.law_world_reports.proofs.Telling.Adding.{Way, Given, Taken, Stopped, gains, gains_then, passed, EndsRun, all_add_to, run_all}
use Rattle.law_world_reports.proofs.Telling.Parts.{said, part, left, said_more, said_none}
use Rattle.law_world_reports.proofs.Telling.Tales.{Tale}
use Rattle.law_world_reports.proofs.Telling.Lines.{told_tale}
use Rattle.law_world_reports.proofs.Vocabulary.{Agrees, Tells, TellsNext, Moment}

module _ {K C S I O : Type 0} (r : Rulebook C S I O) (m : Makers K I O) (d : Deeds C S) where
  -- the whole of a tale
  pub record Whole (w u : World K C S I O) (pdus : List (List ℕ)) (all : List Event)
      : Type 0 where
    pub lines : ByLines r m d w u
    pub gain : (way : Way) (end : Side) → gains r m d lines way end ≡ said way end pdus all

  pub whole : (w u : World K C S I O) (pdus rest : List (List ℕ)) (all : List Event)
      → Tale r m d w u pdus rest all → Whole w u pdus all
  whole w u pdus rest [] (idle, same) = record {
    lines = idle.lines;
    gain = λ way end. idle.none way end ∙ sym (said_none way end pdus);
  }
  whole w u pdus rest (one ∷ all) (x, first, tale) =
      let behind = whole x u (left pdus one) rest all tale in
      let later = works_then r m d first.at x u first.lines behind.lines in
      record {
        lines = works_then r m d w first.at u first.before.lines later;
        gain = λ way end.
            gains_then r m d w first.at u first.before.lines later way end
            ∙ ap (λ front. front ++ gains r m d later way end) (first.before.none way end)
            ∙ gains_then r m d first.at x u first.lines behind.lines way end
            ∙ ap (λ front. front ++ gains r m d behind.lines way end) (first.gain way end)
            ∙ ap (λ more. part way end pdus one ++ more) (behind.gain way end)
            ∙ sym (said_more way end pdus one all);
      }

  tells_more : (v : World K C S I O) (later more : List Change) (one : Event)
      → Tells r m d v later one → Tells r m d v (later ++ more) one
  tells_more v later more (Gives at) tells = tells
  tells_more v later more (Refuses at) tells = tells
  tells_more v later more (Takes at pdu) tells = tells
  tells_more v later more (Ends at) tells = tells
  tells_more v later more (Closes at) tells = tells
  tells_more v later more (Stops at) tells =
      (tells.0 ++ more, ap (λ changes. changes ++ more) tells.1)
  tells_more v later more Silent tells = tells

  -- the moment between some events and those behind
  record Split (w u : World K C S I O) (pdus : List (List ℕ)) (front behind : List Event)
      : Type 0 where
    v : World K C S I O
    before : ByLines r m d w v
    after : ByLines r m d v u
    here : (way : Way) (end : Side) → gains r m d before way end ≡ said way end pdus front
    all : (way : Way) (end : Side)
        → gains r m d before way end ++ gains r m d after way end
        ≡ said way end pdus (front ++ behind)
    next : TellsNext r m d v after.leads.changes behind

  split : (w u : World K C S I O) (pdus rest : List (List ℕ)) (front behind : List Event)
      → Tale r m d w u pdus rest (front ++ behind) → Split w u pdus front behind
  split w u pdus rest [] [] (idle, same) = record {
    v = w;
    before = works_none r m d w;
    after = idle.lines;
    here = λ way end. sym (said_none way end pdus);
    all = λ way end. idle.none way end ∙ sym (said_none way end pdus);
    next = tt;
  }
  split w u pdus rest [] (one ∷ behind) (x, first, tale) =
      let more = whole x u (left pdus one) rest behind tale in
      record {
        v = first.at;
        before = first.before.lines;
        after = works_then r m d first.at x u first.lines more.lines;
        here = λ way end. first.before.none way end ∙ sym (said_none way end pdus);
        all = λ way end.
            ap (λ front. front ++ gains r m d (works_then r m d first.at x u first.lines
            more.lines) way end) (first.before.none way end)
            ∙ gains_then r m d first.at x u first.lines more.lines way end
            ∙ ap (λ front. front ++ gains r m d more.lines way end) (first.gain way end)
            ∙ ap (λ later. part way end pdus one ++ later) (more.gain way end)
            ∙ sym (said_more way end pdus one behind);
        next = tells_more first.at first.lines.leads.changes more.lines.leads.changes one
            first.tells;
      }
  split w u pdus rest (one ∷ front) behind (x, first, tale) =
      let more = split x u (left pdus one) rest front behind tale in
      let to_x = works_then r m d w first.at x first.before.lines first.lines in
      let begins : (way : Way) (end : Side) → gains r m d to_x way end ≡ part way end pdus one =
      λ way end. gains_then r m d w first.at x first.before.lines first.lines way end
      ∙ ap (λ before. before ++ gains r m d first.lines way end) (first.before.none way end)
      ∙ first.gain way end in
      let reaches : (way : Way) (end : Side)
      → gains r m d (works_then r m d w x more.v to_x more.before) way end
      ≡ part way end pdus one ++ gains r m d more.before way end =
      λ way end. gains_then r m d w x more.v to_x more.before way end
      ∙ ap (λ before. before ++ gains r m d more.before way end) (begins way end) in
      record {
        v = more.v;
        before = works_then r m d w x more.v to_x more.before;
        after = more.after;
        here = λ way end. reaches way end
            ∙ ap (λ later. part way end pdus one ++ later) (more.here way end)
            ∙ sym (said_more way end pdus one front);
        all = λ way end.
            ap (λ before. before ++ gains r m d more.after way end) (reaches way end)
            ∙ append_assoc (part way end pdus one) (gains r m d more.before way end)
            (gains r m d more.after way end)
            ∙ ap (λ later. part way end pdus one ++ later) (more.all way end)
            ∙ sym (said_more way end pdus one (front ++ behind));
        next = more.next;
      }

  -- ---- by the histories

  pub agrees : (first : Company C S I O) (h : History) (pdus : List (List ℕ)) (all : List Event)
      → ((way : Way) (end : Side) → said way end pdus all ≡ passed r d way first h end)
      → Agrees r d first h pdus all
  agrees first h pdus all is =
      record { gives = is Given; takes = is Taken; stops = is Stopped }

  -- nothing passed before anything happened
  pub none_passed : (way : Way) (first : Company C S I O) (end : Side)
      → passed r d way first nothing end ≡ []
  none_passed Given first Client = refl
  none_passed Given first Server = refl
  none_passed Taken first Client = refl
  none_passed Taken first Server = refl
  none_passed Stopped first Client = refl
  none_passed Stopped first Server = refl

  pub runs_until : (w v : World K C S I O) (before : ByLines r m d w v)
      → EndsRun r m d w.company v (all_noted r m d w nothing before.leads.changes)
  runs_until w v before =
      subst (λ (x : World K C S I O).
      EndsRun r m d w.company x (all_noted r m d w nothing before.leads.changes))
      before.leads.reached
      (run_all r m d w.company w nothing before.leads.changes before.leads.allowed
      (record { client = refl; server = refl }))

  moment : (w u : World K C S I O) (pdus : List (List ℕ)) (front behind : List Event)
      → Split w u pdus front behind → Moment r m d w pdus front behind
  moment w u pdus front behind at =
      let first = w.company in
      let h = all_noted r m d w nothing at.before.leads.changes in
      let here : (way : Way) (end : Side)
      → passed r d way first h end ≡ gains r m d at.before way end =
      λ way end. all_add_to r m d way first w nothing at.before.leads.changes end
      at.before.leads.allowed
      (record { client = refl; server = refl })
      ∙ ap (λ front. front ++ gains r m d at.before way end) (none_passed way first end) in
      record {
        v = at.v;
        u = u;
        before = at.before;
        after = at.after;
        here = agrees first h pdus front (λ way end. sym (here way end ∙ at.here way end));
        whole = agrees first (all_noted r m d at.v h at.after.leads.changes) pdus (front ++ behind)
            (λ way end. sym (all_add_to r m d way first at.v h at.after.leads.changes end
            at.after.leads.allowed (runs_until w at.v at.before)
            ∙ ap (λ front. front ++ gains r m d at.after way end) (here way end)
            ∙ at.all way end));
        next = at.next;
      }

  pub told_moment : (lines : List Line) (w : World K C S I O) → w.closed ≡ []
      → (front behind : List Event) → events (told r m d w lines) ≡ front ++ behind
      → Moment r m d w (offered lines) front behind
  told_moment lines w none front behind e =
      let run = told_tale r m d lines w none in
      moment w run.last (offered lines) front behind
      (split w run.last (offered lines) [] front behind
      (subst (λ es. Tale r m d w run.last (offered lines) [] es) e run.tale))

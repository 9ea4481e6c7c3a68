-- the last lines of a report count what it tells of
use Rattle.law_order.proofs.Vocabulary.{◌≡◌, ◌++◌, ◌+◌, ℕ, List, [], ◌∷◌, sym, ap, ◌∙◌, length, arith, append-nil, map-append}
use Rattle.rh_record.specs.Events.Events.{Event}
use Rattle.law_moves.proofs.Vocabulary.{Side, Client, Server}
use Rattle.law_node_history.proofs.Vocabulary.{Answer, Up, Down, Line, event, events, given, offered, taken, Counts, none, one_more, Rulebook, Deeds, Makers, last, last_of, told, World}
use Rattle.law_world_reports.proofs.Ordering.Passing.{count_more, counted, counts_of}
use Rattle.law_world_reports.proofs.Ordering.Counting.{CountsTold, reports}
use Rattle.law_world_reports.proofs.Vocabulary.{CountsCapped, capped_count}

-- ---- counts from none

one_capped : (n : ℕ) → one_more (capped_count n) ≡ capped_count (n + 1)
one_capped n = omega arith

more_capped : (pdus : List (List ℕ)) (n : ℕ)
    → count_more pdus (capped_count n) ≡ capped_count (n + length pdus)
more_capped [] n = ap capped_count (omega arith)
more_capped (pdu ∷ pdus) n =
    ap (count_more pdus) (one_capped n) ∙ more_capped pdus (n + 1) ∙ ap capped_count (omega arith)

from_none : (pdus : List (List ℕ)) → count_more pdus 0 ≡ capped_count (length pdus)
from_none pdus = more_capped pdus 0 ∙ ap capped_count (omega arith)

pub counted_none : (begun now : Counts) (gave took gave_all took_all : List (List ℕ))
    → begun ≡ none → now ≡ counted begun gave took → gave_all ≡ gave → took_all ≡ took
    → now ≡ counts_of (capped_count (length gave_all)) (capped_count (length took_all))
counted_none begun now gave took gave_all took_all from is gives takes =
    is ∙ ap (λ counts. counted counts gave took) from
    ∙ ap (λ n. counts_of n (count_more took 0)) (from_none gave)
    ∙ ap (counts_of (capped_count (length gave))) (from_none took)
    ∙ ap (λ pdus. counts_of (capped_count (length pdus)) (capped_count (length took))) (sym gives)
    ∙ ap (λ pdus. counts_of (capped_count (length gave_all)) (capped_count (length pdus)))
    (sym takes)

-- ---- the report

module _ {K C S I O : Type 0} (r : Rulebook C S I O) (m : Makers K I O) (d : Deeds C S)
    (lines : List Line) (w : World K C S I O) where
  abbrev at : CountsTold r m d w lines
  at = reports r m d lines w

  abbrev all : List Event
  all = events (told r m d w lines)

  abbrev silent : List Event
  silent = events (last r d at.v)

  all_is : all ≡ events at.front ++ silent
  all_is = ap events at.is ∙ map-append event at.front (last r d at.v)

  gives : (end : Side) → given end (offered lines) all ≡ at.passes.gave end
  gives end =
      ap (given end (offered lines)) all_is ∙ at.passes.gives end silent
      ∙ append-nil (at.passes.gave end)

  takes : (end : Side) → taken end all ≡ at.passes.took end
  takes end =
      ap (taken end) all_is ∙ at.passes.takes end silent ∙ append-nil (at.passes.took end)

  pub report_counts : w.up ≡ none → w.down ≡ none → CountsCapped lines (told r m d w lines)
  report_counts no_up no_down =
      let up = counted_none w.up at.v.up (at.passes.gave Client) (at.passes.took Server)
      (given Client (offered lines) all) (taken Server all) no_up at.passes.up (gives Client)
      (takes Server) in
      let down = counted_none w.down at.v.down (at.passes.gave Server) (at.passes.took Client)
      (given Server (offered lines) all) (taken Client all) no_down at.passes.down (gives Server)
      (takes Client) in
      let states : List Answer = last_of r d at.v Client ∷ last_of r d at.v Server ∷ [] in (
        at.front,
        states,
        at.is
            ∙ ap (λ (counts : Counts). at.front ++ Up counts.given counts.taken
            ∷ Down at.v.down.given at.v.down.taken ∷ states) up
            ∙ ap (λ (counts : Counts). at.front
            ++ Up (capped_count (length (given Client (offered lines) all)))
            (capped_count (length (taken Server all)))
            ∷ Down counts.given counts.taken ∷ states) down,
      )

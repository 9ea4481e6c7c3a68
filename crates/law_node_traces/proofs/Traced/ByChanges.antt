-- lines and half steps are changes with whole cookies
use Rattle.law_order.proofs.Vocabulary.{◌≡◌, true, List, [], ◌∷◌, refl, list_all, and_parts}
use Rattle.rh_nodes.specs.declared.half.Half.TheVariants as halves
use Rattle.law_moves.proofs.Vocabulary.{Cookie}
use Rattle.law_node_history.proofs.Vocabulary.{Rulebook, Half, Deeds, half, Makers, World, Change, RaisesAlone, Turn, IsLine, IsHalf, ByLines, is_whole, of_line, after_turn, after_turns}
use Rattle.law_node_history.proofs.Lemmas.{HalfFits, MakeHalves, half_works, step_by_lines, all_wider, quiet_work, work_of_line, works_none, works_then}
use Rattle.law_node_traces.proofs.Vocabulary.{AreWhole, ByChanges, has_whole_cookie, is_whole_half, is_whole_turn}

pub line_whole : (change : Change) → of_line change ≡ true → has_whole_cookie change ≡ true
line_whole (RaisesAlone node leg end cookie) line = absurd cc
line_whole change line = line

whole_halves : MakeHalves has_whole_cookie (λ (cookie : Cookie). is_whole cookie ≡ true)
whole_halves = record {
  quiet = λ change quiet. line_whole change (work_of_line change (quiet_work change quiet));
  reports = refl;
  raises = λ node leg end cookie whole. whole;
  opens_in = λ n cookie whole. whole;
  opens_out = λ n cookie whole. whole;
}

fits : (one : Half) → is_whole_half one ≡ true
    → HalfFits (λ (cookie : Cookie). is_whole cookie ≡ true) one
fits (halves.Up node leg cookie) whole = whole
fits (halves.Broken node leg) whole = tt
fits (halves.Ended node leg) whole = tt
fits (halves.Tick node now) whole = tt

module _ {K C S I O : Type 0} (r : Rulebook C S I O) (m : Makers K I O) (d : Deeds C S) where
  abbrev pub lines_by_changes : (w v : World K C S I O) → ByLines r m d w v → ByChanges r m d w v
  lines_by_changes w v a = record {
    leads = a.leads;
    work = all_wider of_line has_whole_cookie line_whole a.leads.changes a.work;
  }

  pub half_by_changes : (one : Half) (w : World K C S I O) → is_whole_half one ≡ true
      → ByChanges r m d w (half r m w one).0
  half_by_changes one w whole = half_works r m d whole_halves one w (fits one whole)

  -- ---- in any order

  pub turns_by_changes : (turns : List Turn) (w : World K C S I O) → AreWhole turns
      → ByChanges r m d w (after_turns r m d w turns)
  turns_by_changes [] w whole = works_none r m d w
  turns_by_changes (turn ∷ turns) w whole =
      let parts = and_parts (is_whole_turn turn) (list_all is_whole_turn turns) whole in
      works_then r m d w (after_turn r m d w turn)
      (after_turns r m d (after_turn r m d w turn) turns) (one turn parts.0)
      (turns_by_changes turns (after_turn r m d w turn) parts.1)
    where
      one : (turn : Turn) → is_whole_turn turn ≡ true
          → ByChanges r m d w (after_turn r m d w turn)
      one (IsLine line) whole =
          lines_by_changes w (after_turn r m d w (IsLine line)) (step_by_lines r m d line w)
      one (IsHalf half) whole = half_by_changes half w whole

-- line by line
use Rattle.std.proofs.Common.{◌≡◌, ◌≢◌, ◌⊎◌, inl, inr, [], true, false, length, ap, sym, ◌∙◌, arith}
use Rattle.std.proofs.lemmas.Bool.Decides.{nat_tests}
use Rattle.rh_text.proofs.Texts.{reads_bad, reads_more, never_both}
use Rattle.rh_text.proofs.grammar.first_bad_line.Goals as goal
use Rattle.rh_text.proofs.grammar.first_bad_line.Goals.{then-not-is_empty, else-not-is_empty+then-not-may_end}

pub returns-in_default : goal.returns-in_default
returns-in_default g c =
    let p = c.lines in
    let rules = g.G.Grammar.rules in
    let here : (p.rest.now ≢ []) ⊎ (¬ rules.MayEnd p.place) = elim c.if-not-is_empty.branch [
      | then-not-is_empty w ↦ inl (λ none. let size = ap length none in
          absurd (grind (arith, nat_tests, c.is_empty.ensures, w.if-not-is_empty)))
      | else-not-is_empty+then-not-may_end w ↦ inr (λ over.
          let both : false ≡ true = sym w.if-not-may_end.true ∙ w.may_end.ensures.1 over in cc)
    ] in
    let bad = reads_bad rules _ p.place p.rest.now p.number _ _ c.split_line.ensures.begins
    c.in_default.ensures here p.invariant in
    (bad, λ is. never_both rules g.met.G.Grammar.one g.met.G.Grammar.some _ p.number is bad)

pub lines-preserved : goal.lines-preserved
lines-preserved g c =
    let p = c.lines in
    let read = c.in-Some.ensures in
    let more = reads_more g.G.Grammar.rules g.met.G.Grammar.some _ p.place p.rest.now p.number _ _
    read.0 c.split_line.ensures.begins read.1 p.invariant in
    rw read.2 more

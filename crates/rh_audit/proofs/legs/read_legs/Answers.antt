use Rattle.std.proofs.Common.{List, drop, length, sym, ap, ◌∙◌, subst, arith}
use Rattle.std.proofs.lemmas.List.{drop-drop, length-append}
use Rattle.rh_audit.specs.declared.pieces.Piece.{Piece}
use Rattle.rh_audit.specs.Pieces.{all_seen}
use Rattle.rh_audit.proofs.ReadLaws.{InReading, reading_none, run_kind, run_read}
use Rattle.rh_audit.proofs.legs.read_legs.Goals as goal

pub tags-init : goal.tags-init
tags-init c = (
  omega arith,
  reading_none (all_seen c.args.lines.now) c.new-legs.result c.args.faults.now.items
      c.requires.rising c.new-legs.ensures.each c.new-legs.ensures.begun,
)

pub read_leg-requires-clause-kind : goal.read_leg-requires-clause-kind
read_leg-requires-clause-kind c =
    let all = all_seen c.args.lines.now in
    let here = subst (λ (x : List Piece). InReading all (all_seen x) c.tags.legs
    c.args.faults.now.items c.tags.faults.items) (sym c.split_at.ensures.back)
    c.tags.invariant.1 in
    (run_kind all c.split_at.result.1.now c.first_run-run.result _ c.tags.legs
    c.args.faults.now.items c.tags.faults.items here c.first_run-run.ensures c.requires.legs).0

pub read_leg-requires-clause-short : goal.read_leg-requires-clause-short
read_leg-requires-clause-short c =
    let all = all_seen c.args.lines.now in
    let here = subst (λ (x : List Piece). InReading all (all_seen x) c.tags.legs
    c.args.faults.now.items c.tags.faults.items) (sym c.split_at.ensures.back)
    c.tags.invariant.1 in
    (run_kind all c.split_at.result.1.now c.first_run-run.result _ c.tags.legs
    c.args.faults.now.items c.tags.faults.items here c.first_run-run.ensures c.requires.legs).1

pub tags-preserved : goal.tags-preserved
tags-preserved c =
    let lines = c.args.lines.now in
    let all = all_seen lines in
    let rest = c.split_at.result.1.now in
    let run = c.first_run-run.result in
    let is = c.first_run-run.ensures in
    let from = c.tags.from in
    let len = length run.lines.now in
    let here = subst (λ (x : List Piece). InReading all (all_seen x) c.tags.legs
    c.args.faults.now.items c.tags.faults.items) (sym c.split_at.ensures.back)
    c.tags.invariant.1 in
    let next = run_read all rest run (drop len rest) c.tags.legs c.args.faults.now.items
    c.tags.faults.items here is c.add.new.self c.read_leg.new.faults.items c.in_ok-leg.leg
    c.in_ok-leg.ensures.told c.in_ok-leg.ensures.legs c.in_ok-add.ensures.each
    c.in_ok-add.ensures.begun in (
      omega (
        arith,
        ap length is.joined,
        ap length is.begins,
        length-append is.later (drop len rest),
        c.split_at.ensures.back_len,
        c.tags.invariant.0,
      ),
      subst (λ (x : List Piece). InReading all (all_seen x) c.add.new.self
          c.args.faults.now.items c.read_leg.new.faults.items)
          (ap (drop len) c.split_at.ensures.back ∙ drop-drop len from lines) next,
    )

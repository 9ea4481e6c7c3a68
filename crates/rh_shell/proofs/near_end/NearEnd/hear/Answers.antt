use Rattle.std.proofs.Common.{◌≡◌, ◌<◌, List, ℕ, [], length, Some, sym, ap, ◌∙◌, refl, arith}
use Rattle.std.proofs.lemmas.List.{nil_from_length}
use Rattle.std.proofs.lemmas.Bool.Decides.{nat_tests}
use Rattle.rh_shell.specs.NearEnds.{NearEnd}
use Rattle.rh_shell.specs.Hearing.{Turn, goes, hear, hear_next}
use Rattle.rh_shell.proofs.Hearings.{hear_left, hear_none, hear_stopped, hear_over, hear_items}
use Rattle.rh_shell.proofs.near_end.NearEnd.hear.Goals as goal

pub returns-then-is_empty : goal.returns-then-is_empty
returns-then-is_empty g c =
    let rules = g.R.Role.rules in
    let none : c.items.left.now ≡ [] = nil_from_length c.items.left.now (grind (arith, nat_tests))
    in
    let t = goes c.items.self c.items.role in
    sym (ap (λ (bs : List ℕ). hear rules c.args.now t bs) none ∙ hear_none rules c.args.now t)
    ∙ c.items.invariant

pub returns-then-is_over : goal.returns-then-is_over
returns-then-is_over g c =
    let over = sym c.is_over.ensures ∙ c.if-is_over.true in
    sym (hear_over g.R.Role.rules c.args.now c.items.self c.items.role c.items.left.now over)
    ∙ c.items.invariant

pub returns-in-Some : goal.returns-in-Some
returns-in-Some g c =
    let rules = g.R.Role.rules in
    let now = c.args.now in
    let e = rw c.in-Some.is at c.hear_next-stop.ensures.heard in
    let t : Turn g.row.R.Denot = record {
      end = c.hear_next-stop.new.self;
      role =
          c.hear_next-stop.new.role;
      stop = Some c.in-Some.stop;
    } in
    let left = c.hear_next-stop.result.1.now in
    let some : 0 < length c.items.left.now = grind (arith, nat_tests) in
    let going = sym c.is_over.ensures ∙ c.if-is_over.false in
    sym (hear_stopped rules now t left refl) ∙ ap (hear_left rules now) e
    ∙ ap (λ (x : NearEnd). hear_left rules now (hear_next rules x c.items.role c.items.left.now))
    c.touch.ensures
    ∙ sym (hear_items rules now c.items.self c.items.role c.items.left.now some going)
    ∙ c.items.invariant

pub items-preserved : goal.items-preserved
items-preserved g c =
    let rules = g.R.Role.rules in
    let now = c.args.now in
    let e = rw c.in_default.is at c.hear_next-stop.ensures.heard in
    let some : 0 < length c.items.left.now = grind (arith, nat_tests) in
    let going = sym c.is_over.ensures ∙ c.if-is_over.false in
    ap (hear_left rules now) e
    ∙ ap (λ (x : NearEnd). hear_left rules now (hear_next rules x c.items.role c.items.left.now))
    c.touch.ensures
    ∙ sym (hear_items rules now c.items.self c.items.role c.items.left.now some going)
    ∙ c.items.invariant

-- the report of a direct recording is that of the direct world alone
use Rattle.std.proofs.Common.{◌≡◌, List, [], ◌∷◌, ◌++◌, false, refl, sym, ◌∙◌, ap, subst}
use Rattle.rh_record.specs.declared.answer.Answer.{Answer}
use Rattle.rh_record.specs.declared.line.Line.{Line}
use Rattle.rh_record.specs.declared.line.Line.TheVariants.{First}
use Rattle.rh_world.specs.declared.any_world.AnyWorld.TheVariants.{Direct}
use Rattle.rh_world.specs.Any as either
use Rattle.rh_world.specs.Direct.{World, empty, step, told, run}
use Rattle.rh_record.specs.Events.Order.{InOrder}
use Rattle.rh_world.proofs.Runs.{run_in_order}

pub told_direct : (world : World) (lines : List Line)
    → either.told (Direct world) lines ≡ told world lines
told_direct world [] = refl
told_direct world (one ∷ lines) =
    ap (λ (x : List Answer). (step world one).1 ++ x) (told_direct (step world one).0 lines)

pub run_direct : (behind : List Line)
    → either.run (First false ∷ behind) ≡ run (First false ∷ behind)
run_direct behind = told_direct empty behind

-- the report of every direct recording is in order
pub direct_in_order : (lines behind : List Line) → lines ≡ First false ∷ behind
    → InOrder lines (either.run lines)
direct_in_order lines behind is =
    let same : either.run lines ≡ run lines =
    ap either.run is ∙ run_direct behind ∙ sym (ap run is) in
    subst (λ (report : List Answer). InOrder lines report) (sym same) (run_in_order lines)

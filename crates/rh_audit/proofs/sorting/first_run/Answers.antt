use Rattle.std.proofs.Common.{refl, []}
use Rattle.rh_sig.specs.declared.name.Pipe.TheVariants.{CiU}
use Rattle.rh_audit.specs.declared.pieces.Piece.{Piece}
use Rattle.rh_audit.proofs.SortLaws.{run_is}
use Rattle.rh_audit.proofs.sorting.first_run.Goals as goal

pub returns : goal.returns
returns c =
    let none : Piece = record { tag = 0; pipe = CiU; bytes = record { ref_ptr = (0, 0); now = [] } } in
    run_is c.args.lines.now none c.count_of_tag.result _ c.requires c.count_of_tag.ensures.most
    c.count_of_tag.ensures.same c.count_of_tag.ensures.other c.split_at.ensures.front refl
    c.kind_of.ensures

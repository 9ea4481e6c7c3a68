use Rattle.law_world_audited.proofs.Moving.Tags.{tags_differ}
use Rattle.law_world_audited.proofs.Moving.Captured.{bytes_are_moved, lines_are, one_kind}
use Rattle.law_world_audited.proofs.what_moved.lists.a_capture_has_what_moved.Goals as goal

pub returns : goal.returns
returns c = record {
  bytes = bytes_are_moved;
  lines = lines_are;
  kinds = one_kind;
  own = tags_differ;
}

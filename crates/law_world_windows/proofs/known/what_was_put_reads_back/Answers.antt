use Rattle.law_world_windows.proofs.known.what_was_put_reads_back.Goals as goal

pub returns : goal.returns
returns c = record {
  put = c.what_was_put_is_read.ensures;
  fine = c.what_is_read_is_fine.ensures;
  parts = c.all_that_was_put_is_read.ensures.parts;
  piece = c.a_piece_reads_well.ensures;
}

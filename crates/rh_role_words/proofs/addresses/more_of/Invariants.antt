-- those found stand before the rest, whatever addresses the text has
use Rattle.std.proofs.Common.{◌≡◌, vec_len}
use Rattle.rh_role_words.proofs.Commas.{Leaves}
use Rattle.rh_role_words.proofs.Joining.{StandBefore}
use Rattle.rh_role_words.proofs.addresses.more_of.Given as goal

abbrev pub invariant-more : goal.invariant-more
invariant-more l = record {
  before : StandBefore l.text l.rest l.more.items;
  count : vec_len l.more ≡ l.at;
  leaves : Leaves l.text l.rest l.at;
}

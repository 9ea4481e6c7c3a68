-- what a client asks for behind OUT_R1/A2 (the replacement of channels is this profile's; the
-- packets are of MS-RPCH 2.2.4)
use Rattle.std.specs.Prelude.{◌+◌, ◌<◌, ◌≤◌}
use Rattle.rh_client.specs.declared.state.ClientRole.{ClientRole}
use Rattle.law_moves.specs.Moves.{Passage}
use Rattle.law_role_client.specs.Counted.Replacing.{in_answered, in_asked, out_finished, out_wanted}

-- as long as fewer OUT channels are finished than OUT_R1/A2 came before, at most one more IN
-- channel is asked for than was answered before
abbrev pub AsksOneBehind : Passage ClientRole → Passage ClientRole → Type 0
AsksOneBehind before now =
    out_finished now < out_wanted before → in_asked now ≤ in_answered before + 1

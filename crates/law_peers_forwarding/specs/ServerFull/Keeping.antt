-- what a server forwards to the client: of each channel what came to be forwarded (MS-RPCH 3.2.1)
use Rattle.std.specs.Prelude.{ℕ, ◌+◌, ◌≤◌, ◌++◌, List}
use Rattle.rh_rts.specs.declared.command.Cookie.{Cookie}
use Rattle.law_moves.specs.Moves.{EndMove}
use Rattle.law_role_server.specs.Counted.Counting.{in_came, out_put, waits_for}
use Rattle.law_role_server_in.specs.Handovers.{passed}
use Rattle.law_peers_room.specs.ServerRoom.Overtaking.{is_ack_for}

-- of a channel no more acknowledgements to the client wait, or were put since a front of the moves,
-- than waited there and came on is legs since
abbrev pub ForwardsWhatCame : ℕ → List EndMove → List EndMove → Type 0
ForwardsWhatCame window front later =
    (channel : Cookie)
    → waits_for (is_ack_for channel) (passed window (front ++ later)).role
    + out_put (is_ack_for channel) (passed window (front ++ later))
    + in_came (is_ack_for channel) (passed window front)
    ≤ in_came (is_ack_for channel) (passed window (front ++ later))
    + (waits_for (is_ack_for channel) (passed window front).role
    + out_put (is_ack_for channel) (passed window front))

use Rattle.law_order.proofs.Vocabulary.{ℕ, subst}
use Rattle.law_peers_moments.specs.Moments.{out_behind, passages}
use Rattle.law_peers_room.proofs.OutRoom.Rounds.{one_by_one}
use Rattle.law_peers_room.proofs.out_room.room.what_goes_round_passes_an_out_proxy_one_by_one.Goals as goal
use Rattle.law_peers_room.specs.OutRoom.Waits.{WaitsInOrder}

pub returns : goal.returns
returns c numbers reader moves made joined =
    one_by_one reader (passages numbers moves) joined
    (λ n. subst (λ (k : ℕ). WaitsInOrder k (out_behind numbers moves n)) (made.out_number n)
    (c.what_waits_at_an_out_proxy.ensures (numbers.outs n) (moves.outs n)))
    (c.replacements_go_round.ensures numbers reader moves made joined)
    (c.a_server_opens_once.ensures numbers.window moves.server).conn_c1_once

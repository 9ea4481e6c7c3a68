use Rattle.law_order.proofs.Vocabulary.{ℕ, List, subst, arith, IsPrefix}
use Rattle.law_moves.proofs.Vocabulary.{Message, of_leg, Passage, count_of, all_read_of}
use Rattle.law_role_client.proofs.Vocabulary.{is_in_a4}
use Rattle.law_role_outproxy.proofs.Vocabulary.{OutProxy, os_leg}
use Rattle.law_peers_moments.proofs.Joining.{os_back}
use Rattle.law_peers_moments.specs.Moments.{out_behind, passages, server_behind}
use Rattle.law_peers_room.proofs.OutRoom.Few.{few_wait}
use Rattle.law_peers_room.proofs.OutRoom.Fits.{few_in_all, has_room}
use Rattle.law_peers_room.proofs.out_room.room.an_out_proxy_has_room_to_forward.Goals as goal
use Rattle.law_peers_room.specs.OutRoom.Room.{AcksFewBetween, HasRoom, PassOneByOne}
use Rattle.law_peers_room.specs.OutRoom.Waits.{WaitsInOrder, cookies_in, from_server, to_client, waiting_at}

fits : (n : ℕ) (p : Passage OutProxy) (put : List Message) → WaitsInOrder n p
    → PassOneByOne n p → AcksFewBetween put → IsPrefix (from_server n p) (all_read_of put)
    → HasRoom p
fits n p put order singly few front =
    has_room p order.room (few_in_all n p order singly
    (few_wait put (from_server n p) few front (count_of is_in_a4 (to_client n p))
    (let within = order.ins in omega (arith, within)) singly.ins (cookies_in (waiting_at p))
    order.different order.acks))

pub returns : goal.returns
returns c numbers reader moves made joined n few =
    fits n (out_behind numbers moves n)
    (of_leg (os_leg n) (server_behind numbers moves).passage.put)
    (subst (λ (k : ℕ). WaitsInOrder k (out_behind numbers moves n)) (made.out_number n)
    (c.what_waits_at_an_out_proxy.ensures (numbers.outs n) (moves.outs n)))
    (c.what_goes_round_passes_an_out_proxy_one_by_one.ensures numbers reader moves made joined n)
    few (os_back reader (passages numbers moves) joined n)

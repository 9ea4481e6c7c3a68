use Rattle.law_order.proofs.Vocabulary.{ℕ, subst}
use Rattle.law_node_history.proofs.Vocabulary.{reader_of}
use Rattle.law_peers_moments.specs.Moments.{in_behind}
use Rattle.law_peers_in_channels.specs.PdusInTurn.Passing.{HoldsBack}
use Rattle.law_world_order.proofs.Vocabulary.{moves_of, numbers}
use Rattle.law_world_expected.proofs.pdus_in_worlds.rpc_pdus_pass_in_turn.Goals as goal

pub returns : goal.returns
returns g c = λ m w new ours ranges v by.
    let here = c.a_world_of_roles_is_at_a_moment.ensures m w new ours ranges v by in
    let moves = moves_of here.flowing in
    record {
      flowing = here.flowing;
      held = λ n.
          subst (λ (k : ℕ). HoldsBack k (in_behind (numbers ours) moves n)) (here.made.in_number n)
          (c.an_in_proxy_holds_back_pdus_of_a_successor.ensures ((numbers ours).ins n)
          (moves.ins n) (here.made.ins n));
      turns = c.pdus_of_a_successor_come_behind_its_handover.ensures (numbers ours)
          (reader_of v.readers) moves here.made here.joined;
    }

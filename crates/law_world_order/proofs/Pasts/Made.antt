-- the moves that a stream leads by, and each front of those of an end, are made as they may be
use Rattle.law_order.proofs.Vocabulary.{List, [], IsPrefix}
use Rattle.rh_client.specs.Client as client
use Rattle.rh_client.specs.State as client_state
use Rattle.rh_server.specs.Servers as server
use Rattle.law_moves.proofs.Vocabulary.{Acts, Rules, AreAllowedAtEnd, EndMove, end_started, AreCountedAtEnd, AreUpFirst}
use Rattle.law_role_inproxy.proofs.Vocabulary.{InProxy}
use Rattle.law_role_client.proofs.Vocabulary.{ClientRole}
use Rattle.law_role_server.proofs.Vocabulary.{Server}
use Rattle.law_node_history.proofs.Vocabulary.{Company, Makers, History}
use Rattle.law_role_outproxy.proofs.Vocabulary.{OutProxy}
use Rattle.law_peers_moments.specs.Moments.{AreMade, Moves}
use Rattle.law_node_traces.proofs.Vocabulary.{AreOurs}
use Rattle.law_world_order.proofs.Pasts.Lists.{allowed_front, counted_front, up_front}
use Rattle.law_world_order.proofs.Vocabulary.{Flows, numbers_of, numbers}

-- the moves of an end
record IsMade {S : Type 0} (rules : Rules S) (acts : Acts S) (first : S) (moves : List EndMove)
    : Type 0 where
  allowed : AreAllowedAtEnd rules acts (end_started first) moves
  counted : AreCountedAtEnd rules acts (end_started first) moves
  up : AreUpFirst [] moves

front_made : {S : Type 0} (rules : Rules S) (acts : Acts S) (first : S)
    (front all : List EndMove) → IsPrefix front all → IsMade rules acts first all
    → IsMade rules acts first front
front_made rules acts first front all is made = record {
  allowed = allowed_front rules acts (end_started first) front all is made.allowed;
  counted = counted_front rules acts (end_started first) front all is made.counted;
  up = up_front front all is made.up;
}

module _ {K : Type 0} {m : Makers K InProxy OutProxy}
    {first : Company ClientRole Server InProxy OutProxy} {cast : K} (ours : AreOurs m first cast)
  where
    -- these of the ends, and those of the streams of proxies
    abbrev pub moves_with : (h : History) → Flows (numbers_of ours) h → List EndMove → List EndMove
        → Moves
    moves_with h f of_client of_server = record {
      client = of_client;
      server = of_server;
      ins = λ n. (f.ins n).leads.moves;
      outs = λ n. (f.outs n).leads.moves;
    }

    -- ends whose moves were fronts of those of other streams, and proxies whose they are
    pub made : (h g : History) (f : Flows (numbers_of ours) h) (all : Flows (numbers_of ours) g)
        (of_client of_server : List EndMove) → IsPrefix of_client all.client.leads.moves
        → IsPrefix of_server all.server.leads.moves
        → AreMade (numbers ours) (moves_with h f of_client of_server)
    made h g f all of_client of_server is_client is_server =
        let c = front_made client.rules client.acts (client_state.first ours.config) of_client
        all.client.leads.moves is_client
        (record {
          allowed = all.client.leads.allowed;
          counted = all.client.counted;
          up = all.client.up_first;
        }) in
        let s = front_made server.rules server.acts (server.first ours.window) of_server
        all.server.leads.moves is_server
        (record {
          allowed = all.server.leads.allowed;
          counted = all.server.counted;
          up = all.server.up_first;
        }) in
        record {
          client = c.allowed;
          client_counted = c.counted;
          client_up = c.up;
          server = s.allowed;
          server_counted = s.counted;
          server_up = s.up;
          ins = λ n. (f.ins n).leads.allowed;
          ins_counted = λ n. (f.ins n).counted;
          ins_turn = λ n. (f.ins n).in_turn;
          outs = λ n. (f.outs n).leads.allowed;
          outs_counted = λ n. (f.outs n).counted;
          outs_turn = λ n. (f.outs n).in_turn;
          in_number = ours.in_number;
          out_number = ours.out_number;
        }

use Rattle.law_order.proofs.Vocabulary.{◌≡◌, ℕ, ◌+◌, Bool, arith, subst}
use Rattle.law_moves.proofs.Vocabulary.{Named, Passage, all_moved, started, count_of, is_conn_c1, is_conn_c2, is_out_r1_a1, is_out_r1_a2, is_out_r1_a5, is_out_r1_a6}
use Rattle.law_role_client.proofs.Vocabulary.{is_in_a4}
use Rattle.law_role_outproxy.proofs.Vocabulary.{rules as proxy_rules, OutProxy, new_proxy}
use Rattle.law_peers_room.proofs.OutRoom.Held.{AreWithin}
use Rattle.law_peers_room.proofs.OutRoom.Merging.{Follow, all_wait, follow_acks}
use Rattle.law_peers_room.proofs.OutRoom.Steps.{Held, proxy_holds, seen}
use Rattle.law_peers_room.proofs.out_room.waiting.what_waits_at_an_out_proxy.Goals as goal
use Rattle.law_peers_room.specs.OutRoom.Waits.{AreOfCame, WaitsInOrder, from_server, is_in_a3, to_client, waiting_at}

of_came : (before after : Named → Bool) (n : ℕ) (p : Passage OutProxy)
    → AreWithin before after (waiting_at p) (from_server n p) (to_client n p)
    → AreOfCame before after n p
of_came before after n p within =
    let all = all_wait after (waiting_at p) in omega (arith, within, all)

in_order : (n : ℕ) (p : Passage OutProxy) → Held n (seen p.role) p.came p.put
    → WaitsInOrder n p
in_order n p h =
    let k = count_of is_in_a4 (to_client n p) in
    let same : k ≡ 0 + k = omega arith in record {
      room = h.room;
      each = h.order.each;
      connection = of_came is_conn_c1 is_conn_c2 n p h.order.connection;
      ins = of_came is_in_a3 is_in_a4 n p h.order.ins;
      wishes = of_came is_out_r1_a1 is_out_r1_a2 n p h.order.wishes;
      answers = of_came is_out_r1_a5 is_out_r1_a6 n p h.order.answers;
      different = h.order.different;
      acks = follow_acks 0 k (waiting_at p) (from_server n p)
          (subst (λ (j : ℕ). Follow j (waiting_at p) (from_server n p)) same h.order.follow);
    }

pub returns : goal.returns
returns c config moves =
    in_order config.number (all_moved proxy_rules (started (new_proxy config)) moves)
    (proxy_holds config moves)

use Rattle.law_order.proofs.Vocabulary.{ℕ}
use Rattle.law_moves.proofs.Vocabulary.{IsWindow, all_end_moved, end_started}
use Rattle.law_role_server.proofs.Vocabulary.{first, acts, rules, got, has_leg}
use Rattle.law_world_windows.proofs.ServerReceives.{AllKnown, known_by, server_has_room, server_receives}
use Rattle.law_world_windows.proofs.server.a_server_receives_within_its_window.Goals as goal

pub returns : goal.returns
returns c = record {
  refused = λ window n moves is. server_receives window n moves is (known window is);
  told = λ window n moves is. server_has_room window n moves is (known window is);
}
  where
    known : (window : ℕ) → IsWindow window → AllKnown window
    known window is front may =
        let p = all_end_moved rules acts (end_started (first window)) front in
        known_by window p.taken p.passage.role (has_leg front p.passage.role) (got p)
        (c.what_a_server_holds.ensures.moves window front is may)
        (c.a_server_takes_in_order.ensures window front may)

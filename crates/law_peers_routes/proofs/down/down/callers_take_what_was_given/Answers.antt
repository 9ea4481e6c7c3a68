use Rattle.law_order.proofs.Vocabulary.{◌≡◌, ℕ, true, List, ◌∙◌, sym, subst, ReportsEnd}
use Rattle.law_role_client.proofs.Vocabulary.{ClientRole, taker_of}
use Rattle.law_role_server.proofs.Vocabulary.{Server, is_closing}
use Rattle.law_peers_routes.proofs.Downwards.Sides.{told}
use Rattle.law_peers_routes.proofs.down.down.callers_take_what_was_given.Goals as goal
use Rattle.law_peers_routes.specs.Downwards.{client_took}

pub returns : goal.returns
returns c = record {
  taken = λ config window out_config client server outs d.
      told (sym d.taker.taken) (sym d.giver.given)
      (c.what_came_down_was_given.ensures.taken config window out_config client server outs d);
  ended = λ config window out_config client server outs d reports.
      let all = c.what_came_down_was_given.ensures.ended config window out_config client server outs
      d (subst (λ (taken : List (List ℕ)). ReportsEnd (taker_of taken d.taker.passage.passage.role))
      (sym d.taker.taken)
      (subst (λ (s : ClientRole). ReportsEnd (taker_of (client_took config client) s))
      (sym d.taker.role) reports)) in (
        sym d.taker.taken ∙ all.0 ∙ d.giver.given,
        subst (λ (s : Server). is_closing s.giving ≡ true) d.giver.role all.1,
      );
}

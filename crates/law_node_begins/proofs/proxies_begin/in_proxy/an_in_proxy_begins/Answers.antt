use Rattle.law_order.proofs.Vocabulary.{refl, subst, None}
use Rattle.rh_inproxy.specs.Opening.{echo_packet}
use Rattle.law_moves.proofs.Vocabulary.{response_text, ReadsNothing}
use Rattle.law_node_begins.proofs.ProxiesBegin.Echoes.{in_text, in_frame, in_unnamed}
use Rattle.law_node_begins.proofs.ProxiesBegin.InLaws.{on_server, on_client, elsewhere}
use Rattle.law_node_begins.proofs.proxies_begin.in_proxy.an_in_proxy_begins.Goals as goal

pub returns : goal.returns
returns c = record {
  server = λ config moves allowed. on_server config moves allowed;
  client = λ config moves number allowed turn.
      on_client config moves allowed turn number
      (subst (ReadsNothing None) in_text
      (c.heads_have_no_messages.ensures.frame None (response_text 20) echo_packet refl
      (c.texts_are_whole.ensures.response 20) in_frame in_unnamed));
  elsewhere = λ config moves leg allowed client server.
      elsewhere config moves allowed leg client server;
}

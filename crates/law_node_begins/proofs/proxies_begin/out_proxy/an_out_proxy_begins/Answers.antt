use Rattle.law_order.proofs.Vocabulary.{refl, Some}
use Rattle.rh_outproxy.specs.Putting.{echo_packet}
use Rattle.law_moves.proofs.Vocabulary.{CoD as co_d, response_text}
use Rattle.law_node_begins.proofs.ProxiesBegin.Echoes.{out_frame, out_unnamed}
use Rattle.law_node_begins.proofs.ProxiesBegin.OutLaws.{on_server, on_client, elsewhere}
use Rattle.law_node_begins.proofs.proxies_begin.out_proxy.an_out_proxy_begins.Goals as goal

pub returns : goal.returns
returns c = record {
  server = λ config moves allowed. on_server config moves allowed;
  client = λ config moves allowed turn.
      on_client config moves allowed turn c.texts_are_whole.ensures.response
      (c.heads_have_no_messages.ensures.frame (Some co_d) (response_text 20) echo_packet refl
      (c.texts_are_whole.ensures.response 20) out_frame out_unnamed);
  elsewhere = λ config moves leg allowed client server.
      elsewhere config moves allowed leg client server;
}

use Rattle.law_order.proofs.Vocabulary.{refl, Some}
use Rattle.rh_outproxy.specs.Putting.{echo_packet}
use Rattle.law_moves.proofs.Vocabulary.{CoD as co_d, OsU as os_u, response_text, of_leg, is_packet}
use Rattle.law_moves.proofs.Lemmas.{no_texts_well}
use Rattle.law_node_begins.proofs.ProxiesBegin.Echoes.{out_frame, out_well}
use Rattle.law_node_begins.proofs.ProxiesBegin.OutLaws.{on_server, client_well, run}
use Rattle.law_node_begins.proofs.proxies_begin.out_proxy.what_an_out_proxy_puts_first_reads_well.Goals as goal
use Rattle.law_node_begins.specs.ProxiesBegin.Pipes.{os}

pub returns : goal.returns
returns c = record {
  server = λ well config moves allowed.
      no_texts_well well (Some os_u) (of_leg (os config.number) (run config moves allowed).put)
      (on_server config moves allowed);
  client = λ config moves allowed turn.
      client_well config moves allowed turn is_packet
      (λ n. c.texts_read_well.ensures.head is_packet (Some co_d) (response_text n) refl
      (c.texts_are_whole.ensures.response n))
      (c.texts_read_well.ensures.frame is_packet (Some co_d) (response_text 20) echo_packet refl
      (c.texts_are_whole.ensures.response 20) out_frame out_well);
}

use Rattle.law_order.proofs.Vocabulary.{refl, subst, None, Some}
use Rattle.rh_inproxy.specs.Opening.{echo_packet}
use Rattle.law_moves.proofs.Vocabulary.{IsU as is_u, response_text, of_leg, TextIsWell, is_packet}
use Rattle.law_moves.proofs.Lemmas.{no_texts_well}
use Rattle.law_node_begins.proofs.ProxiesBegin.Echoes.{in_text, in_frame, in_well}
use Rattle.law_node_begins.proofs.ProxiesBegin.InLaws.{on_server, client_well, run}
use Rattle.law_node_begins.proofs.proxies_begin.in_proxy.what_an_in_proxy_puts_first_reads_well.Goals as goal
use Rattle.law_node_begins.specs.ProxiesBegin.Pipes.{is}

pub returns : goal.returns
returns c = record {
  server = λ well config moves allowed.
      no_texts_well well (Some is_u) (of_leg (is config.number) (run config moves allowed).put)
      (on_server config moves allowed);
  client = λ config moves number allowed turn.
      client_well config moves allowed turn is_packet
      (subst (TextIsWell is_packet None) in_text
      (c.texts_read_well.ensures.frame is_packet None (response_text 20) echo_packet refl
      (c.texts_are_whole.ensures.response 20) in_frame in_well)) number;
}

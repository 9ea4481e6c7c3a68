use Rattle.law_order.proofs.Vocabulary.{◌≡◌, sym, ap, ◌∙◌, subst, has_handover}
use Rattle.law_moves.proofs.Vocabulary.{Passage}
use Rattle.law_role_outproxy.proofs.Vocabulary.{OutProxy, is_put, put_items}
use Rattle.law_node_lasting.proofs.out_proxy.an_out_proxy_handed_over_where_it_put_its_mark.Goals as goal

pub returns : goal.returns
returns c = λ config pipe events stream.
    sym (ap (λ (s : OutProxy). is_put s.handover) stream.role)
    ∙ subst (λ (p : Passage OutProxy). is_put p.role.handover
    ≡ has_handover (put_items config.number p.put)) stream.leads.reached
    (c.an_out_proxy_keeps_order.ensures config stream.leads.moves stream.leads.allowed).handover_put

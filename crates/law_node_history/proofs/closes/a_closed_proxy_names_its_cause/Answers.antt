use Rattle.law_node_history.proofs.Closed.{place_tells}
use Rattle.law_node_history.proofs.Vocabulary.{in_place, out_place}
use Rattle.law_node_history.proofs.closes.a_closed_proxy_names_its_cause.Goals as goal

pub returns : goal.returns
returns g c = record {
  in_proxy = λ r company number why node legs.
      place_tells r.in_proxy why (in_place company number) node legs;
  out_proxy = λ r company number why node legs.
      place_tells r.out_proxy why (out_place company number) node legs;
}

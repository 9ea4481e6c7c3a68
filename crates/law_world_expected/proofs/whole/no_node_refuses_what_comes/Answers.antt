use Rattle.rh_line.specs.declared.cause.Cause.TheVariants as cause
use Rattle.law_node_history.proofs.Vocabulary.{ClosesNode}
use Rattle.law_node_traces.proofs.Vocabulary.{rules}
use Rattle.law_world_expected.proofs.EachNode.{closes_none}
use Rattle.law_world_expected.proofs.whole.no_node_refuses_what_comes.Goals as goal

pub returns : goal.returns
returns g c = record {
  unexpected = λ m w new ours range port v by lines have change may node leg place.
      closes_none
      (λ node leg. ClosesNode rules v change node (cause.Unexpected leg place))
      (record {
        client_leg = λ leg.
            c.a_client_refuses_on_out_legs_alone.ensures.unexpected m w new ours v by.leads change
            leg place;
        client = λ n.
            c.no_client_refuses_what_comes.ensures.unexpected m w new ours range port v by
            have.distinct change may n place;
        server_leg = λ leg.
            c.a_server_refuses_on_its_own_legs_alone.ensures.unexpected v change may leg place;
        server_in = λ n.
            c.no_server_refuses_its_in_proxies.ensures.unexpected m w new ours range v by lines
            have.distinct change may n place;
        server_out = λ n.
            c.no_server_refuses_its_out_proxies.ensures.unexpected m w new ours range v by
            have.distinct change may n place;
        in_proxy = λ k leg.
            c.no_in_proxy_refuses_what_comes.ensures.unexpected m w new ours range v by
            have.distinct change may k leg place;
        out_leg = λ k leg.
            c.an_out_proxy_refuses_on_its_own_legs_alone.ensures.unexpected v change may k leg
            place;
        out_client = λ k n.
            c.no_out_proxy_refuses_its_client.ensures.unexpected m w new ours range port v by
            change may k n place;
        out_server = λ k n.
            c.no_out_proxy_refuses_its_server.ensures.unexpected m w new ours range v by have
            change may k n place;
      })
      node leg;
  cookie = λ m w new ours range port v by lines have change may node leg expected got.
      closes_none
      (λ node leg. ClosesNode rules v change node (cause.CookieMismatch leg expected got))
      (record {
        client_leg = λ leg.
            c.a_client_refuses_on_out_legs_alone.ensures.cookie m w new ours v by.leads change leg
            expected got;
        client = λ n.
            c.no_client_refuses_what_comes.ensures.cookie m w new ours range port v by
            have.distinct change may n expected got;
        server_leg = λ leg.
            c.a_server_refuses_on_its_own_legs_alone.ensures.cookie v change may leg expected got;
        server_in = λ n.
            c.no_server_refuses_its_in_proxies.ensures.cookie m w new ours range v by lines
            have.distinct change may n expected got;
        server_out = λ n.
            c.no_server_refuses_its_out_proxies.ensures.cookie m w new ours range v by
            have.distinct change may n expected got;
        in_proxy = λ k leg.
            c.no_in_proxy_refuses_what_comes.ensures.cookie m w new ours range v by
            have.distinct change may k leg expected got;
        out_leg = λ k leg.
            c.an_out_proxy_refuses_on_its_own_legs_alone.ensures.cookie v change may k leg expected
            got;
        out_client = λ k n.
            c.no_out_proxy_refuses_its_client.ensures.cookie m w new ours range port v by change
            may k n expected got;
        out_server = λ k n.
            c.no_out_proxy_refuses_its_server.ensures.cookie m w new ours range v by have change
            may k n expected got;
      })
      node leg;
}

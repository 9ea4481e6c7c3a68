use Rattle.law_world_windows.proofs.OutProxyReceives.{out_proxy_has_room, out_proxy_receives}
use Rattle.law_world_windows.proofs.out_proxy.an_out_proxy_receives_within_its_window.Goals as goal

pub returns : goal.returns
returns c = record {
  refused = λ config moves is.
      out_proxy_receives config moves is
      (λ front may. c.what_an_out_proxy_holds.ensures.moves config front is may);
  told = λ config moves is.
      out_proxy_has_room config moves is
      (λ front may. c.what_an_out_proxy_holds.ensures.moves config front is may);
}

use Rattle.law_role_marks.proofs.InProxyMarks.{handed_over_behind}
use Rattle.law_role_marks.proofs.in_proxy.an_in_proxy_may_lose_what_was_handed_over.Goals as goal

pub returns : goal.returns
returns c = λ config moves allowed.
    handed_over_behind config moves (c.an_in_proxy_keeps_order.ensures config moves allowed)

use Rattle.law_role_marks.proofs.OutProxyMarks.{only_marks_behind}
use Rattle.law_role_marks.proofs.out_proxy.an_out_proxy_only_marks_behind_a_mark.Goals as goal

pub returns : goal.returns
returns c = λ config moves allowed.
    only_marks_behind config moves (c.an_out_proxy_keeps_order.ensures config moves allowed)

-- each address with a comma behind it stands before the rest
use Rattle.std.proofs.Common.{rules, subst, sym}
use Rattle.rh_role_words.proofs.Commas.{none_left, none_next, one_left}
use Rattle.rh_role_words.proofs.Joining.{StandBefore, one-more}
use Rattle.rh_role_words.proofs.addresses.more_of.Goals as goal

pub more-preserved : goal.more-preserved
more-preserved c = record {
  before = subst (λ items. StandBefore c.args.text.now c.in-Some.behind.now items)
      (sym c.in_ok-push.ensures.items)
      (one-more _ _ _ _ _ _ c.more.invariant.before c.in-Some.ensures.some.1
      c.in-Some-host_port_of-2.ensures);
  count = search rules;
  leaves = one_left c.args.text.now c.more.rest.now _ c.in-Some.behind.now c.more.at
      c.in-Some.ensures.some.0 c.in-Some.ensures.some.1 c.more.invariant.leaves;
}

pub returns-in-None : goal.returns-in-None
returns-in-None c =
    none_left c.args.text.now c.more.rest.now c.more.at 15 c.in_default.ensures.none
    c.in-None.ensures c.more.invariant.leaves

pub returns-in_default-host_port_of : goal.returns-in_default-host_port_of
returns-in_default-host_port_of c =
    none_next c.args.text.now c.more.rest.now c.in-Some.one.now c.in-Some.behind.now c.more.at 15
    c.in-Some.ensures.some.0 c.in-Some.ensures.some.1 c.in_default-host_port_of.ensures
    c.more.invariant.leaves

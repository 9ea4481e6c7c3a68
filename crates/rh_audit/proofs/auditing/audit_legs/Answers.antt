use Rattle.std.proofs.Common.{◌<◌, ◌^◌, ◌++◌, List, length, sym, ap, ◌∙◌, subst}
use Rattle.std.specs.List.{flat_map}
use Rattle.rh_line.specs.declared.leg.LegKind.TheVariants.{ClientOut, OutServer, ClientIn, InServer}
use Rattle.rh_audit.specs.declared.legs.Begun.{Begun}
use Rattle.rh_audit.specs.Chains.{Leg, joined}
use Rattle.rh_audit.specs.Reads.{left_of}
use Rattle.rh_audit.proofs.auditing.audit_legs.Goals as goal

pub compare_chains-requires-clause-far : goal.compare_chains-requires-clause-far
compare_chains-requires-clause-far c =
    subst (λ (legs : List Leg). length (joined legs) < 2 ^ 32)
    (sym (c.in_ok-chains.ensures InServer)) (c.requires InServer)

pub compare_chains-requires-clause-near : goal.compare_chains-requires-clause-near
compare_chains-requires-clause-near c =
    subst (λ (legs : List Leg). length (joined legs) < 2 ^ 32)
    (sym (c.in_ok-chains.ensures ClientIn)) (c.requires ClientIn)

pub compare_chains-requires-2-clause-far : goal.compare_chains-requires-2-clause-far
compare_chains-requires-2-clause-far c =
    subst (λ (legs : List Leg). length (joined legs) < 2 ^ 32)
    (sym (c.in_ok-chains.ensures ClientOut)) (c.requires ClientOut)

pub compare_chains-requires-2-clause-near : goal.compare_chains-requires-2-clause-near
compare_chains-requires-2-clause-near c =
    subst (λ (legs : List Leg). length (joined legs) < 2 ^ 32)
    (sym (c.in_ok-chains.ensures OutServer)) (c.requires OutServer)

pub returns : goal.returns
returns c = record {
  chains = c.in_ok-chains.chains;
  chained = c.in_ok-chains.ensures;
  told = c.in_ok-tell_unchained.ensures
      ∙ ap (λ (x : List Begun). c.args.faults.items ++ flat_map (left_of c.in_ok-chains.chains) x)
      c.as_slice.ensures.value;
  up_told = c.in_ok-up.ensures;
  down_told = c.in_ok-down.ensures;
}

use Rattle.std.proofs.Common.{length, sym, ap, ◌∙◌, subst, arith}
use Rattle.std.specs.List.{filter}
use Rattle.std.specs.declared.option.Option.{Option}
use Rattle.std.proofs.lemmas.List.{length-map}
use Rattle.rh_audit.specs.declared.link.Link.{Link}
use Rattle.rh_audit.specs.Chains.{connects}
use Rattle.rh_audit.specs.Links.{leg_of, legs_of}
use Rattle.rh_audit.specs.Waiting.{StartsBy, waiting_for}
use Rattle.rh_audit.proofs.Waiting.{chain_none, chain_some}
use Rattle.rh_audit.proofs.chain.chain_of.Goals as goal

pub returns-in-None : goal.returns-in-None
returns-in-None c =
    let legs = legs_of c.args.links.now in
    ap legs_of c.new.ensures.items
    ∙ sym (chain_none legs
    (subst (λ (o : Option Link). StartsBy o (filter connects legs)) c.in-None.is
    c.in_ok-sorted.ensures.starts))

pub returns : goal.returns
returns c =
    let legs = legs_of c.args.links.now in
    let sorted = c.in_ok-sorted.ensures in
    let there = chain_some legs c.in-Some.start (waiting_for c.in_ok-sorted.sorted.waiting)
    (length c.args.links.now)
    (subst (λ (o : Option Link). StartsBy o (filter connects legs)) c.in-Some.is sorted.starts)
    sorted.waits (omega (arith, length-map c.args.links.now leg_of)) in
    c.in_ok-found-in-Some.ensures there.left there.waits ∙ sym there.chain_is

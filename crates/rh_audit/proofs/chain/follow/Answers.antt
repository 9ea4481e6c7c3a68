use Rattle.std.proofs.Common.{◌≡◌, ◌-◌, ◌∷◌, ◌++◌, ℕ, List, suc, [], sym, ap, ◌∙◌, subst, arith}
use Rattle.std.specs.Prelude.{option_to_list}
use Rattle.std.specs.declared.option.Option.{Option}
use Rattle.rh_audit.specs.declared.link.Link.{Link}
use Rattle.rh_audit.specs.Chains.{follow}
use Rattle.rh_audit.specs.Links.{legs_of}
use Rattle.rh_audit.specs.Waiting.{waiting_for}
use Rattle.rh_audit.proofs.Waiting.{Going, going_ends, going_on}
use Rattle.rh_audit.proofs.chain.follow.Goals as goal

pub links-init : goal.links-init
links-init c = λ others h. (
  others,
  h,
  ap (λ (x : List Link). legs_of x ++ follow c.args.most c.args.start.newest others)
      c.in_ok-found.ensures.items,
)

pub returns-in-None : goal.returns-in-None
returns-in-None c =
    let left = c.links.left in
    let one_more : left ≡ suc (left - 1) = omega (arith, c.links-test.true) in
    let first = waiting_for c.args.waiting in
    let waiting = waiting_for c.links.waiting in
    going_ends first waiting c.args.start c.args.most c.links.found.items (left - 1)
    c.links.newest
    (subst (λ (n : ℕ). Going first waiting c.args.start c.args.most c.links.found.items n
    c.links.newest) one_more c.links.invariant)
    (c.in_ok-next.ensures.none c.in-None.is)

pub links-preserved : goal.links-preserved
links-preserved c =
    let left = c.links.left in
    let one_more : left ≡ suc (left - 1) = omega (arith, c.links-test.true) in
    let first = waiting_for c.args.waiting in
    let waiting = waiting_for c.links.waiting in
    let next = waiting_for c.take.new.self in
    let newest = c.links.newest in
    let link = c.in-Some.link in
    subst (λ (x : List Link). Going first next c.args.start c.args.most x (left - 1) link.newest)
    (sym c.in_ok-push-in-Some.ensures.items)
    (going_on first waiting next c.args.start c.args.most c.links.found.items (left - 1) newest
    link
    (subst (λ (n : ℕ). Going first waiting c.args.start c.args.most c.links.found.items n newest)
    one_more c.links.invariant)
    (c.in_ok-next.ensures.here
    ∙ ap (λ (o : Option Link). option_to_list o ++ next newest.0) c.in-Some.is)
    c.in_ok-next.ensures.others)

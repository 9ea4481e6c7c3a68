-- a blank item more is the first of those that were to be added
use Rattle.std.proofs.Common.{◌≡◌, ◌∷◌, [], ◌++◌, get_or, ap, ◌∙◌, arith}
use Rattle.rh_wires.specs.Numbered.{grown}
use Rattle.rh_wires.proofs.Grown.{get_or-blank, grown_more}
use Rattle.rh_wires.proofs.numbered.grow.Goals as goal

pub items-preserved : goal.items-preserved
items-preserved g c =
    let list = c.items.list.items in
    let item = g.T.Item.blank in
    let blank : c.blank.result ≡ item = c.blank.ensures in
    let pushed : c.push.new.self.items ≡ list ++ item ∷ [] =
    c.in_ok-push.ensures.items ∙ ap (λ x. list ++ x ∷ []) blank in
    record {
      grown = ap (λ x. grown c.args.len item x) pushed
          ∙ grown_more item list c.args.len (omega arith) ∙ c.items.invariant.grown;
      same = λ k. ap (λ x. get_or x k item) pushed ∙ get_or-blank item list k
          ∙ c.items.invariant.same k;
      most = omega (arith, c.in_ok-push.ensures.len, c.items.invariant.most);
    }

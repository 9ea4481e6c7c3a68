-- the printed bytes at the front
use Rattle.std.proofs.Common.{◌<◌, ◌∙◌, ℕ, List, take, slice_index, ap, sym, subst}
use Rattle.rh_story.specs.Brief.{text_brief}
use Rattle.rh_story.proofs.Printed.{printed_ascii}
use Rattle.rh_story.proofs.brief.printed.Goals as goal

pub returns-clause-front : goal.returns-clause-front
unfolding text_brief
returns-clause-front c =
    c.split_at.ensures.front
    ∙ ap (λ (n : ℕ). take n c.args.bytes.now) c.printed_len.ensures.count

pub returns-clause-ascii : goal.returns-clause-ascii
returns-clause-ascii c = λ i.
    subst (λ (x : List ℕ). slice_index x i < 128)
    (sym (c.split_at.ensures.front
    ∙ ap (λ (n : ℕ). take n c.args.bytes.now) c.printed_len.ensures.count))
    (printed_ascii c.args.bytes.now i)

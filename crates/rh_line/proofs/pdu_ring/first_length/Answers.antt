use Rattle.std.proofs.Common.{ℕ, Some, refl, sym, ◌∙◌, ap}
use Rattle.rh_line.proofs.RingLaws.{front_told, front_begins}
use Rattle.rh_line.proofs.pdu_ring.first_length.Goals as goal

pub front_frag-requires : goal.front_frag-requires
front_frag-requires c =
    (front_told c.args.bytes.now.items _ refl c.requires
    (sym c.is_empty.ensures ∙ c.if-is_empty.false)).0

pub returns-clause-len : goal.returns-clause-len
returns-clause-len c =
    ap (λ (n : ℕ). Some n) c.front_frag.ensures
    ∙ (front_told c.args.bytes.now.items _ refl c.requires
    (sym c.is_empty.ensures ∙ c.if-is_empty.false)).1

pub returns-clause-within : goal.returns-clause-within
returns-clause-within c =
    (front_begins c.args.bytes.now.items _ c.front_frag.result refl c.requires
    (returns-clause-len c)).within

pub returns-clause-long : goal.returns-clause-long
returns-clause-long c =
    (front_begins c.args.bytes.now.items _ c.front_frag.result refl c.requires
    (returns-clause-len c)).long

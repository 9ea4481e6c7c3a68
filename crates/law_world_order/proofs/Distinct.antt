-- a client's legs of one kind are apart where all of its legs have cookies of their own
use Rattle.law_order.proofs.Vocabulary.{inl, inr, List, [], ◌∷◌, ap}
use Rattle.law_moves.proofs.Vocabulary.{Cookie, Leg, Event, CameUpWith}
use Rattle.law_node_history.proofs.Vocabulary.{leg_at, HaveOwnCookies, RoseWith}
use Rattle.law_world_order.proofs.Vocabulary.{AreDistinct}

-- the two tell of the same events
pub rose : (events : List Event) (leg : Leg) (cookie : Cookie)
    → CameUpWith events leg cookie → RoseWith events leg cookie
rose [] leg cookie came = came
rose (event ∷ events) leg cookie (inl is) = inl is
rose (event ∷ events) leg cookie (inr came) = inr (rose events leg cookie came)

pub own_distinct : (events : List Event) → HaveOwnCookies events → AreDistinct events
own_distinct events own = λ kind l n cookie one other.
    ap (λ (leg : Leg). leg.number)
    (own (leg_at kind l) (leg_at kind n) cookie
    (rose events (leg_at kind l) cookie one) (rose events (leg_at kind n) cookie other))

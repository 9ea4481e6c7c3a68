-- where the hops of the client are known at rest, all are
use Rattle.law_order.proofs.Vocabulary.{◌++◌, ℕ, List, [], ◌∷◌, true, sym, ap, ◌∙◌, subst}
use Rattle.rh_server.specs.States.{Server, out_leg}
use Rattle.rh_inproxy.specs.State.{InProxy}
use Rattle.rh_outproxy.specs.OutProxy.{OutProxy}
use Rattle.rh_client.specs.declared.state.ClientRole.{ClientRole}
use Rattle.law_node_history.proofs.Vocabulary.{Answer, First, Line, Settle, World}
use Rattle.law_world_reports.proofs.Vocabulary.{AnyWorld, Before, Direct, Settings, Roles, after, answers}
use Rattle.law_world_drained.specs.Drained.{IsKnownDown, IsKnownUp}
use Rattle.law_world_drained.specs.Left as drained
use Rattle.law_world_known.proofs.Recorded.{at_last}
use Rattle.law_world_known.specs.Known.{AreKnown}
use Rattle.law_world_known.specs.Left.{IsFarKnown, IsNearKnown, LeavesNoneIn, LeavesNoneWhereQuiet}
use Rattle.law_world_known.specs.Recordings.{AreKnownIn, KnownWhereQuiet}

module _ {K : Type 0} (w : World K ClientRole Server InProxy OutProxy) (known : AreKnown w) where
  down_known : IsFarKnown w → IsKnownDown w
  down_known k = record {
    writes = k.writes;
    node = k.hop.node;
    legs = k.hop.legs;
    there = k.hop.there;
    same = k.same;
    to_client = k.to_client;
    from_server = k.hop.up;
    cookie = k.cookie;
    begun = k.begun;
    is_open = k.is_open;
    leg = k.hop.leg;
    kept = ap (λ (n : ℕ). out_leg n w.company.server.role.outs) k.same ∙ k.hop.kept;
    far = k.far;
    near = known.down w.company.client.role.current.number k.hop k.told;
    short = k.short;
  }

  up_known : IsNearKnown w → IsKnownUp w
  up_known k = record {
    writes = k.writes;
    node = k.hop.node;
    legs = k.hop.legs;
    there = k.hop.there;
    reads = k.reads;
    to_server = k.hop.up;
    is_open = k.is_open;
    leg = k.leg;
    kept = k.kept;
    far = known.up k.hop k.told;
    near = k.near;
    short = k.short;
  }

in_roles : (lines : List Line) (answered : List Answer) (world : AnyWorld) → AreKnownIn world
    → drained.LeavesNoneIn lines answered world → LeavesNoneIn lines answered world
in_roles lines answered Before known left = tt
in_roles lines answered (Direct world) known left = tt
in_roles lines answered (Settings config) known left = tt
in_roles lines answered (Roles world) known left = record {
  told = left.told;
  ours = left.ours;
  down = λ going free k. left.down going free (down_known world known k);
  up = λ going free k. left.up going free (up_known world known k);
}

pub none_left_where_quiet : ((before : List Line) (rounds : ℕ)
    → KnownWhereQuiet (after Before before) rounds)
    → ((before : List Line) (rounds : ℕ) → drained.LeavesNoneWhereQuiet before rounds)
    → (before : List Line) (rounds : ℕ) → LeavesNoneWhereQuiet before rounds
none_left_where_quiet known left before rounds all count quiet =
    let lines = First true ∷ (before ++ Settle rounds ∷ []) in
    in_roles lines (answers Before lines) (after Before lines)
    (subst AreKnownIn (sym (at_last Before (First true ∷ before) (Settle rounds)))
    (known (First true ∷ before) rounds count quiet))
    (left before rounds all count quiet)

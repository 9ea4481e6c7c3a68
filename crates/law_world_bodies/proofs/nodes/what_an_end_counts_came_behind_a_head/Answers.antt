use Rattle.law_order.proofs.Vocabulary.{[], append-nil}
use Rattle.rh_line.specs.declared.cause.Cause.TheVariants as cause
use Rattle.law_moves.proofs.Vocabulary.{Leg, begun, after_end_events}
use Rattle.law_node_history.proofs.Vocabulary.{Comes, tell, happened, heard_on}
use Rattle.law_world_honest.proofs.Honesty.HeardWell.{going_is}
use Rattle.law_world_bodies.proofs.NodeCounts.{end_behind, over_behind}
use Rattle.law_world_bodies.proofs.Waiting.{end_waits, ends_behind}
use Rattle.law_world_bodies.proofs.nodes.what_an_end_counts_came_behind_a_head.Goals as goal

pub returns-clause-counts : goal.returns-clause-counts
returns-clause-counts g c = λ first rooms pipe events pipes never stays once accepted turns leg end
    at.
    let rules = g.R.Role.rules in
    let acts = g.R.EndRole.acts in
    end_behind rules pipe (λ (l : Leg). heard_on l (happened events)) leg
    (after_end_events rules acts (begun first rooms) events).legs end at
    (ends_behind rules acts c.an_ends_stream.ensures first rooms pipe events pipes never stays once
    accepted turns)

pub returns-clause-over : goal.returns-clause-over
returns-clause-over g c = λ first rooms pipe events pipes never stays once accepted turns leg named
    piece count told closes.
    let rules = g.R.Role.rules in
    let acts = g.R.EndRole.acts in
    let node = after_end_events rules acts (begun first rooms) events in
    let why = cause.BodyOver named count told in
    let law = c.an_ends_stream.ensures in
    over_behind rules pipe (λ (l : Leg). heard_on l (happened events)) node leg named piece count
    told
    (end_waits rules acts law first rooms pipe events pipes never stays once accepted turns events
    [] (append-nil events))
    (ends_behind rules acts law first rooms pipe events pipes never stays once accepted turns)
    (going_is node (tell rules node (Comes leg piece)).1 why
    (λ first h. c.a_node_closes_once.ensures.again node first (Comes leg piece) h) closes)
    (c.a_node_closes_once.ensures.closed node (Comes leg piece) why closes)

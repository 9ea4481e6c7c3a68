-- where the node of an out proxy reads frames from its client, its role took a request
use Rattle.law_order.proofs.Vocabulary.{◌≡◌, List, [], Some, is_some, true, refl, sym, ap, ◌∙◌, subst}
use Rattle.rh_shell.specs.declared.stage.Stage.TheVariants as stage
use Rattle.law_moves.proofs.Vocabulary.{Leg, ClientOut, Going, NearEnd, Shell, begun, end_at, Passage, Event, after_events, Stages, takes_frames}
use Rattle.law_node_history.proofs.Vocabulary.{leg_at, AreAccepted, ComesUpOnce}
use Rattle.law_role_outproxy.proofs.Vocabulary.{ROOMS, OutProxyConfig, rules, OutProxy, new_proxy}
use Rattle.law_node_streams.proofs.Streams.Ends.{end_is, end_of}
use Rattle.law_node_streams.proofs.Streams.Runs.{ran_none}
use Rattle.law_node_streams.proofs.Streams.Seats.{seat}
use Rattle.law_node_streams.proofs.Streams.Staging.{IsNext}
use Rattle.law_node_streams.proofs.Streams.Turns.{IsOn, Sits, seat_by}
use Rattle.law_node_streams.proofs.Streams.Nodes as nodes
use Rattle.law_node_streams.specs.Streams.{HasPipes, HearsInTurn, StaysUnused}
use Rattle.law_node_begins.specs.ProxiesBegin.Pipes.{out_pipe}
use Rattle.law_peers_expects.proofs.Asked.Standing.{proxy_stands}

module _ (config : OutProxyConfig) (has : HasPipes rules (new_proxy config) (out_pipe config))
    (unused : StaysUnused rules (new_proxy config))
    (once : ComesUpOnce rules (begun (new_proxy config) ROOMS)) (events : List Event)
    (accepted : AreAccepted rules (begun (new_proxy config) ROOMS) events)
    (turn : HearsInTurn events) where
  abbrev leg : Leg
  leg = leg_at ClientOut config.number

  abbrev node : Shell OutProxy
  node = after_events rules (begun (new_proxy config) ROOMS) events

  ran : nodes.RanTo rules (new_proxy config) ROOMS (out_pipe config) has unused once node events
  ran =
      nodes.run rules (new_proxy config) ROOMS (out_pipe config) has unused once [] events
      (begun (new_proxy config) ROOMS) refl tt
      (ran_none rules (out_pipe config)
      (nodes.Sound rules (new_proxy config) ROOMS (out_pipe config) has unused once) (Unit {0})
      (nodes.anyhow rules (new_proxy config) ROOMS (out_pipe config) has unused once)
      (nodes.IsReached rules (new_proxy config) ROOMS (out_pipe config) has unused once)
      (new_proxy config) ROOMS (record {
        allowed = tt;
        reached = refl;
        in_turn = tt;
        stages = refl;
        counted = tt;
      })) accepted turn

  -- what comes next by the moves is what the end takes
  takes : (end : NearEnd) → node.course ≡ Going → end_at node leg ≡ Some end
      → end.intake.stage ≡ stage.Frames → takes_frames (ran.stages leg) ≡ true
  takes end going at frames =
      subst (IsNext (ran.stages leg)) frames
      (subst (IsOn (ran.stages leg)) sits (ran.staged leg).on).0
    where
      sits : seat leg node ≡ Sits end
      sits =
          ap (λ c. seat_by leg c (end_of leg node.legs)) going
          ∙ ap (seat_by leg Going) (sym (end_is leg node.legs) ∙ at)

  pub frames_behind_request : (end : NearEnd) → node.course ≡ Going
      → end_at node leg ≡ Some end → end.intake.stage ≡ stage.Frames
      → is_some node.role.request ≡ true
  frames_behind_request end going at frames =
      subst (λ (s : OutProxy). is_some s.request ≡ true) ran.role
      (subst (λ (p : Passage OutProxy). is_some p.role.request ≡ true) ran.at.reached
      ((proxy_stands config ran.moves).frames
      (ap (λ (g : Stages). takes_frames (g leg)) ran.at.stages ∙ takes end going at frames)))

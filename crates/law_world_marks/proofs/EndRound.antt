-- where the client's work is done, the server put END/B1 on its current channel, and each out proxy
-- put its mark
use Rattle.rh_shell.specs.declared.answers.Phase.TheVariants as phase
use Rattle.law_order.specs.Shelves.{is_ended as is_over_on}
use Rattle.law_order.proofs.Vocabulary.{◌≡◌, ◌⊎◌, inl, inr, ◌<◌, ◌≤◌, ◌+◌, ◌&&◌, ◌∙◌, ℕ, suc, true, false, true≢false, not, List, refl, sym, ap, subst, Option, cases_lt, lt-ltb, arith, IsRoute, PasserLaw, Route, has_end, has_handover}
use Rattle.rh_client.specs.Client as client
use Rattle.rh_client.specs.State as client_state
use Rattle.rh_outproxy.specs.Machine as out_proxy
use Rattle.rh_server.specs.Servers as server
use Rattle.rh_server.specs.States.{is_put}
use Rattle.law_moves.proofs.Vocabulary.{ClientConfig, Leg, Pipe, Phase, Shell, ended, begun, is_ended, is_in_use, EndPassage, EndMove, all_end_moved, end_started, Event, EndEvent, after_events, after_end_events}
use Rattle.law_role_client.proofs.Vocabulary.{ClientRole, Replacement, NoneUnderWay, In, Out, AreAllowedMoves, TakesInOrder, client_moved, has_leg, is_none, is_over}
use Rattle.law_role_client.specs.Order as client_order
use Rattle.law_role_client.specs.Counted.Replacing.{OutIsAt, OutStands, ReplacesOuts, out_finished, out_switched}
use Rattle.law_role_server.proofs.Vocabulary.{Server}
use Rattle.law_role_server.specs.Counted.Counting.{in_came, is_out_r1_a8, is_out_r1_a9, out_put}
use Rattle.law_role_server.specs.Counted.Replacing.{AreReplaced}
use Rattle.law_node_history.proofs.Vocabulary.{World, History, came_up, happened}
use Rattle.law_role_inproxy.proofs.Vocabulary.{InProxy}
use Rattle.law_role_outproxy.proofs.Vocabulary.{ROOMS, OutProxyConfig, OutProxy, new_proxy}
use Rattle.law_role_outproxy.specs.Order as out_order
use Rattle.law_role_marks.specs.Marking.{has_passed}
use Rattle.law_node_streams.specs.Streams.{EndStream, Stream}
use Rattle.law_node_begins.specs.ProxiesBegin.Pipes.{co}
use Rattle.law_peers_moments.specs.GoingRound.{GoRound}
use Rattle.law_peers_routes.specs.Downwards.{client_reads, proxy_reads}
use Rattle.law_node_marks.specs.Losing.{MayLose}
use Rattle.law_world_order.proofs.Vocabulary.{Directions, Flows, Numbers, down_route_of}
use Rattle.law_world_ways.proofs.ExactWays.ClientOver.{over_done, parts}
use Rattle.law_world_ways.proofs.ExactWays.Passing.{client_passes}
use Rattle.law_world_ways.specs.ExactWays.Keeping.{KnowsLeg}
use Rattle.law_world_ways.specs.OnPaths.Ways.{client_node, out_node, server_node}
use Rattle.law_world_marks.proofs.Marked.{end_more, of_there, or_more, passed_more}
use Rattle.law_world_marks.specs.WentRound.{WentRound}

-- ---- the laws that this stands on

pub record RoundLaws : Type 0 where
  pub order : (config : ClientConfig) (moves : List EndMove) → AreAllowedMoves config moves
      → TakesInOrder (client_moved config moves)
  pub replaces : (config : ClientConfig) (moves : List EndMove) → AreAllowedMoves config moves
      → ReplacesOuts (client_moved config moves).passage
  pub replaced : (window : ℕ) (moves : List EndMove)
      → AreReplaced (all_end_moved server.rules server.acts (end_started (server.first window))
      moves).passage
  pub may_lose : (node : Shell ClientRole) (leg : Leg) → MayLose client.rules node leg
      → (ended client.rules node leg).0.course ≡ node.course
  pub out_goes : (config : OutProxyConfig) (pipe : Leg → Option Pipe) (events : List Event)
      (stream : Stream out_proxy.rules (new_proxy config) ROOMS pipe events)
      → has_passed (out_order.put_items config.number stream.passage.put) ≡ true → (leg : Leg)
      → (let node = after_events out_proxy.rules (begun (new_proxy config) ROOMS) events in
      (ended out_proxy.rules node leg).0.course ≡ node.course)

none_is : (r : Replacement) → is_none r ≡ true → r ≡ NoneUnderWay
none_is NoneUnderWay e = refl
none_is (In stage w) e = absurd (true≢false (sym e))
none_is (Out stage w) e = absurd (true≢false (sym e))

-- ---- a client whose work is done

module _ (law : RoundLaws) (config : ClientConfig) (events : List EndEvent)
    (s : EndStream client.rules client.acts (client_state.first config) client.rooms client_reads
    events)
    (done :
    (after_end_events client.rules client.acts (client.first_client config) events).role.phase
    ≡ phase.Ended) where
  abbrev p : EndPassage ClientRole
  p = client_moved config s.leads.moves

  done_by_moves : p.passage.role.phase ≡ phase.Ended
  done_by_moves =
      ap (λ (q : EndPassage ClientRole). q.passage.role.phase) s.leads.reached
      ∙ ap (λ (r : ClientRole). r.phase) s.role ∙ done

  over : is_over p.passage.role ≡ true
  over = over_done config s.leads.moves s.leads.allowed done_by_moves

  pub current_ended : s.passage.passage.role.line.current.ended ≡ true
  current_ended =
      subst (λ (q : EndPassage ClientRole). q.passage.role.line.current.ended ≡ true)
      s.leads.reached (parts p.passage.role over).2

  -- no OUT_R1/A7 was put but those for the channels before the current one
  pub stands : OutStands s.passage.passage 0 0 0 1
  stands =
      subst (λ (q : EndPassage ClientRole). OutStands q.passage 0 0 0 1) s.leads.reached
      (subst (OutIsAt p.passage) (none_is p.passage.role.replacement (parts p.passage.role over).3)
      (law.replaces config s.leads.moves s.leads.allowed).at)

  -- on each channel that came up the mark or END came
  module _ (n : ℕ) (some : 0 < n) where
    passes : client.rules.was_up p.passage.role (co n) ≡ true
        → has_passed (client_order.came_log p.passage.came n) ≡ true
    passes known = by (cases_lt n p.passage.role.current.number)
      where
        order : TakesInOrder p
        order = law.order config s.leads.moves s.leads.allowed

        unused : is_in_use client.rules p.passage.role (co n) ≡ false
        unused =
            ap (λ (f : Phase). not (is_ended f)
            && not (client.rules.is_done p.passage.role (co n))) done_by_moves

        by : (n < p.passage.role.current.number) ⊎ (p.passage.role.current.number ≤ n)
            → has_passed (client_order.came_log p.passage.came n) ≡ true
        by (inl before) =
            or_more (has_handover (client_order.came_log p.passage.came n))
            (has_end (client_order.came_log p.passage.came n))
            (order.past n before (lt-ltb 0 n some))
        by (inr from) =
            client_passes config s.leads.moves s.leads.allowed order n from known unused

    pub all_passed : KnowsLeg client.rules
        (after_end_events client.rules client.acts (client.first_client config) events) (co n)
        (came_up (co n) (happened events))
        → came_up (co n) (happened events) ≡ true
        → has_passed (client_order.came_log s.passage.passage.came n) ≡ true
    all_passed knows rose =
        subst (λ (q : EndPassage ClientRole). client.rules.was_up q.passage.role (co n) ≡ true
        → has_passed (client_order.came_log q.passage.came n) ≡ true) s.leads.reached passes
        (subst (λ (r : ClientRole). client.rules.was_up r (co n) ≡ true) (sym s.role)
        (knows.known rose))

-- ---- in a world

module _ (law : RoundLaws) {K : Type 0} (numbers : Numbers)
    (v : World K ClientRole Server InProxy OutProxy) (h : History) (flows : Flows numbers h)
    (round : GoRound flows.client.passage.passage flows.server.passage.passage)
    (d : Directions numbers v h) (route : IsRoute (down_route_of d))
    (knows : (leg : Leg) → KnowsLeg client.rules (client_node numbers h) leg
    (came_up leg (happened h.client)))
    (done : (client_node numbers h).role.phase ≡ phase.Ended) where
  abbrev r : Route
  r = down_route_of d

  abbrev current : ℕ
  current = (client_node numbers h).role.current.number

  abbrev writing : ℕ
  writing = (server_node numbers h).role.writing

  -- ---- by counts, the server does not write on a channel behind

  in_time : (a9 a8 switched finished current writing : ℕ) → writing ≡ suc a9 → a9 ≤ a8
      → a8 ≤ switched → switched ≡ finished + 0 → current ≡ finished + 1 → writing ≤ current
  in_time a9 a8 switched finished current writing e f g i j = omega (arith, e, f, g, i, j)

  low : writing ≤ current
  low =
      let stand = stands law numbers.client h.client flows.client done in
      let replaced = subst (λ (q : EndPassage Server). AreReplaced q.passage)
      flows.server.leads.reached (law.replaced numbers.window flows.server.leads.moves) in
      subst (λ (k : ℕ). k ≤ current) (ap (λ (s : Server). s.writing) flows.server.role)
      (subst (λ (k : ℕ). flows.server.passage.passage.role.writing ≤ k)
      (ap (λ (s : ClientRole). s.current.number) flows.client.role)
      (in_time (out_put is_out_r1_a9 flows.server.passage.passage)
      (in_came is_out_r1_a8 flows.server.passage.passage)
      (out_switched flows.client.passage.passage) (out_finished flows.client.passage.passage)
      flows.client.passage.passage.role.current.number flows.server.passage.passage.role.writing
      replaced.writing round.outs.a9_behind_a8 round.outs.a8_behind_a7 stand.switched
      stand.current))

  -- ---- END came to the client on its current channel, so it was put there

  abbrev here : ℕ
  here = r.taker.shelves.current

  leg : r.legs here ≡ true
  leg = route.numbered.here

  passer : PasserLaw (r.proxies here) here (r.came here) (r.put here)
  passer = route.passers here leg

  got_end : has_end (r.got here) ≡ true
  got_end =
      sym route.taker.holds.ended
      ∙ current_ended law numbers.client h.client d.down.taker done

  proxy_ended : is_over_on (r.proxies here).shelves ≡ true
  proxy_ended =
      (passer.end_came (passer.end_put
      ∙ end_more (r.got here) (r.put here) (route.far here) got_end)).0

  -- an out proxy reads one channel
  own : (r.proxies here).shelves.current ≡ here
  own = by (cases_lt here (r.proxies here).shelves.current)
    where
      by : (here < (r.proxies here).shelves.current) ⊎ ((r.proxies here).shelves.current ≤ here)
          → (r.proxies here).shelves.current ≡ here
      by (inl above) =
          absurd (true≢false (sym (lt-ltb 0 (r.proxies here).shelves.current
          (some here (r.proxies here).shelves.current above))
          ∙ route.numbered.reads here (r.proxies here).shelves.current leg above
          (itself (r.proxies here).shelves.current)))
        where
          some : (a b : ℕ) → a < b → 0 < b
          some a b p = omega (arith, p)

          itself : (a : ℕ) → a ≤ a
          itself a = omega arith
      by (inr upto) = both (r.proxies here).shelves.current here upto passer.from
        where
          both : (a b : ℕ) → a ≤ b → b ≤ a → a ≡ b
          both a b p q = omega (arith, p, q)

  sent_end : has_end (r.sent here) ≡ true
  sent_end =
      end_more (r.came here here) (r.sent here) (route.near here here leg)
      (subst (λ (k : ℕ). has_end (r.came here k) ≡ true) own
      (sym passer.shelved.holds.ended ∙ proxy_ended))

  high : here ≤ r.giver.writing
  high = by (cases_lt r.giver.writing here)
    where
      by : (r.giver.writing < here) ⊎ (here ≤ r.giver.writing) → here ≤ r.giver.writing
      by (inl above) =
          absurd (true≢false (sym sent_end ∙ ap has_end (route.giver.later here above)))
      by (inr upto) = upto

  here_is : here ≡ current
  here_is = ap (λ (s : ClientRole). s.current.number) d.down.taker.role

  writing_is : r.giver.writing ≡ writing
  writing_is = ap (λ (s : Server). s.writing) d.down.giver.role

  same : writing ≡ current
  same = both writing current here r.giver.writing low high here_is writing_is
    where
      both : (a b c d : ℕ) → a ≤ b → c ≤ d → c ≡ b → d ≡ a → a ≡ b
      both a b c d p q e f = omega (arith, p, q, e, f)

  put_end : is_put (server_node numbers h).role.end_mark ≡ true
  put_end =
      ap (λ (s : Server). is_put s.end_mark) (sym d.down.giver.role)
      ∙ route.giver.end_put
      ∙ ap (λ (k : ℕ). has_end (r.sent k)) (writing_is ∙ same ∙ sym here_is)
      ∙ sent_end

  -- ---- the out proxies

  outs : (n : ℕ) → 0 < n → came_up (co n) (happened h.client) ≡ true → (leg : Leg)
      → (let node = out_node numbers h n in
      (ended out_proxy.rules node leg).0.course ≡ node.course)
  outs n some rose leg =
      let stream = d.down.proxies n in
      let put : has_passed (out_order.put_items n stream.passage.put) ≡ true =
      of_there (has_leg n) (out_order.put_items n stream.passage.put)
      (passed_more (r.got n) (r.put n) (route.far n)
      (all_passed law numbers.client h.client d.down.taker done n some (knows (co n)) rose)) in
      law.out_goes (numbers.outs n) (proxy_reads (numbers.outs n)) (h.outs n) stream
      (subst (λ (k : ℕ). has_passed (out_order.put_items k stream.passage.put) ≡ true)
      (sym (d.down.numbered n)) put) leg

  pub went_round : WentRound numbers h
  went_round = record {
    writing = same;
    end_put = put_end;
    client = λ leg.
        law.may_lose (client_node numbers h) leg
        (λ work. absurd (true≢false (sym work
        ∙ ap (λ (f : Phase). not (is_ended f)) done)));
    outs = outs;
  }

-- behind the last use of a leg, the node that takes took its handover mark or END
use Rattle.law_order.proofs.Vocabulary.{◌≡◌, ◌≤◌, ◌⊎◌, inl, inr, ℕ, ◌==◌, Bool, true, false, true≢false, not, nat_lt, ◌&&◌, ◌||◌, List, [], ◌∷◌, arith, refl, sym, ap, ◌∙◌, subst, if◌then◌else◌, AllByRecursion, list_any, Option, nat_tests, Item, has_end, has_handover, below}
use Rattle.rh_shell.specs.declared.answers.Phase.TheVariants as phase
use Rattle.rh_inproxy.specs.Machine as in_proxy
use Rattle.rh_inproxy.specs.State as in_state
use Rattle.rh_outproxy.specs.Machine as out_proxy
use Rattle.rh_client.specs.Client as client
use Rattle.rh_server.specs.Servers as server
use Rattle.law_moves.proofs.Vocabulary.{has_end-append, Pipe, ClientConfig, Leg, InServer, Phase, is_ended, begun, is_of, kind_number, AreAllowed, AreAllowedAtEnd, EndMove, EndPassage, Move, Moves, Gives, Takes, Closes, Recycles, Up, HeadCame, PduCame, PacketCame, Puts, IsDrawn, Marks, Pings, Passage, all_end_moved, all_moved, end_started, is_in_use, started, EndEvent, Event, after_end_events, after_events}
use Rattle.law_role_inproxy.proofs.Vocabulary.{InProxyConfig, InProxy}
use Rattle.law_role_inproxy.proofs.Refusing.Items.{swapped as same_test}
use Rattle.law_role_inproxy.specs.Order as in_order
use Rattle.law_role_client.proofs.Vocabulary.{Replacement, NoneUnderWay, In, Out, ClientRole, is_up, is_finished, is_none, is_out, is_current, AreAllowedMoves, TakesInOrder, client_moved}
use Rattle.law_role_client.specs.Order as client_order
use Rattle.law_role_server.proofs.Vocabulary.{Server}
use Rattle.law_role_server.specs.Order as server_order
use Rattle.law_node_history.proofs.Vocabulary.{came_up, happened}
use Rattle.law_role_outproxy.proofs.Vocabulary.{ROOMS, OutProxyConfig, OutProxy, new_proxy}
use Rattle.law_role_outproxy.specs.Order as out_order
use Rattle.law_node_streams.specs.Streams.{EndStream, Stream, is_end_up_on}
use Rattle.law_node_ends.specs.Passed.{AsksNoEcho, HeadsAre, IsDoneBehindEnd, IsDoneBehindEnds, ci_leg, is_leg}
use Rattle.law_node_begins.specs.ProxiesBegin.Pipes.{ci, co, in_pipe, is, os}
use Rattle.law_peers_routes.specs.Downwards.{proxy_reads}
use Rattle.law_world_ways.proofs.ExactWays.ClientOver.{over_done, parts}
use Rattle.law_world_ways.specs.OnPaths.Legs.{has_passed}

-- ---- an out proxy

abbrev pub OutLaw : Type 0
OutLaw =
    (config : OutProxyConfig) (moves : List Move)
    → AreAllowed out_proxy.rules (started (new_proxy config)) moves
    → AllByRecursion (HeadsAre (AsksNoEcho false)) moves
    → (let p = all_moved out_proxy.rules (started (new_proxy config)) moves in
    IsDoneBehindEnd out_proxy.rules p.role (out_order.server_leg config.number)
    (out_order.came_log p.came config.number))

pub out_passes : OutLaw → (config : OutProxyConfig) (n : ℕ) → config.number ≡ n
    → (events : List Event)
    → (stream : Stream out_proxy.rules (new_proxy config) ROOMS (proxy_reads config) events)
    → AllByRecursion (HeadsAre (AsksNoEcho false)) stream.leads.moves
    → is_in_use out_proxy.rules
    (after_events out_proxy.rules (begun (new_proxy config) ROOMS) events).role (os n) ≡ false
    → has_passed (out_order.came_log stream.passage.came n) ≡ true
out_passes law config n number events stream heads e =
    subst (λ (k : ℕ). is_in_use out_proxy.rules stream.passage.role (os k) ≡ false
    → has_passed (out_order.came_log stream.passage.came k) ≡ true) number
    (subst (λ (p : Passage OutProxy). IsDoneBehindEnd out_proxy.rules p.role
    (out_order.server_leg config.number) (out_order.came_log p.came config.number))
    stream.leads.reached (law config stream.leads.moves stream.leads.allowed heads))
    (subst (λ (s : OutProxy). is_in_use out_proxy.rules s (os n) ≡ false) (sym stream.role) e)

-- ---- an in proxy

abbrev pub InLaw : Type 0
InLaw =
    (config : InProxyConfig) (moves : List Move)
    → AreAllowed in_proxy.rules (started (in_state.first config)) moves
    → AllByRecursion (HeadsAre (AsksNoEcho true)) moves
    → (let p = all_moved in_proxy.rules (started (in_state.first config)) moves in
    (n : ℕ) → in_proxy.rules.was_up p.role (ci_leg n) ≡ true
    → IsDoneBehindEnds in_proxy.rules p.role (ci_leg n) (in_order.came_log p.came) n)

-- there, or END on a channel below
pub in_passes : InLaw → (config : InProxyConfig) (n : ℕ) (events : List Event)
    → (stream : Stream in_proxy.rules (in_state.first config) in_proxy.rooms (in_pipe config)
    events)
    → AllByRecursion (HeadsAre (AsksNoEcho true)) stream.leads.moves
    → (let node = after_events in_proxy.rules (in_proxy.first_node config) events in
    let came = in_order.came_log stream.passage.came in
    in_proxy.rules.was_up node.role (ci n) ≡ true
    → is_in_use in_proxy.rules node.role (ci n) ≡ false
    → (has_passed (came n) ≡ true) ⊎ (has_end (below came n) ≡ true))
in_passes law config n events stream heads known e =
    by (has_handover (came n)) (has_end (below came n)) (has_end (came n))
    (ap (λ (b : Bool). has_handover (came n) || b)
    (sym (has_end-append (below came n) (came n)))
    ∙ subst (λ (p : Passage InProxy). in_proxy.rules.was_up p.role (ci_leg n) ≡ true
    → IsDoneBehindEnds in_proxy.rules p.role (ci_leg n) (in_order.came_log p.came) n)
    stream.leads.reached
    (law config stream.leads.moves stream.leads.allowed heads n)
    (subst (λ (s : InProxy). in_proxy.rules.was_up s (ci n) ≡ true) (sym stream.role) known)
    (subst (λ (s : InProxy). is_in_use in_proxy.rules s (ci n) ≡ false) (sym stream.role) e))
  where
    came : ℕ → List Item
    came = in_order.came_log stream.passage.came

    by : (a b c : Bool) → (a || (b || c)) ≡ true → ((a || c) ≡ true) ⊎ (b ≡ true)
    by a true c f = inr refl
    by a false c f = inl f

-- ---- a server

pub ups_are : (n : ℕ) (moves : List EndMove)
    → list_any (is_end_up_on (is n)) moves ≡ server_order.came_up moves n
ups_are n [] = refl
ups_are n (move ∷ moves) =
    ap (λ (b : Bool). b || list_any (is_end_up_on (is n)) moves) (one move)
    ∙ ap (λ (b : Bool). server_order.is_up n move || b) (ups_are n moves)
  where
    one : (move : EndMove) → is_end_up_on (is n) move ≡ server_order.is_up n move
    one (Moves (Up leg cookie)) =
        ap (λ (b : Bool). b && (leg.number == n))
        (same_test (kind_number leg.kind) (kind_number InServer))
        ∙ ap (λ (b : Bool). is_of InServer leg && b) (same_test leg.number n)
    one (Moves (HeadCame leg text)) = refl
    one (Moves (PduCame leg count pdu)) = refl
    one (Moves (PacketCame leg count named)) = refl
    one (Moves (Puts leg)) = refl
    one (Moves (IsDrawn leg)) = refl
    one (Moves (Marks leg)) = refl
    one (Moves (Pings leg)) = refl
    one (Gives pdu) = refl
    one Takes = refl
    one Closes = refl
    one Recycles = refl

abbrev pub ServerLaw : Type 0
ServerLaw =
    (window : ℕ) (moves : List EndMove)
    → AreAllowedAtEnd server.rules server.acts (end_started (server.first window)) moves
    → (let p = all_end_moved server.rules server.acts (end_started (server.first window)) moves in
    (n : ℕ) → server_order.came_up moves n ≡ true
    → IsDoneBehindEnd server.rules p.passage.role (is_leg n) (server_order.got p n))

pub server_passes : ServerLaw → (window n : ℕ) (pipe : Leg → Option Pipe)
    (events : List EndEvent)
    → (stream : EndStream server.rules server.acts (server.first window) server.rooms pipe events)
    → came_up (is n) (happened events) ≡ true
    → is_in_use server.rules
    (after_end_events server.rules server.acts (server.new_server window) events).role (is n)
    ≡ false
    → has_passed (server_order.got stream.passage n) ≡ true
server_passes law window n pipe events stream came e =
    subst (λ (p : EndPassage Server). IsDoneBehindEnd server.rules p.passage.role (is_leg n)
    (server_order.got p n)) stream.leads.reached
    (law window stream.leads.moves stream.leads.allowed n
    (sym (ups_are n stream.leads.moves) ∙ stream.ups (is n) ∙ came))
    (subst (λ (s : Server). is_in_use server.rules s (is n) ≡ false) (sym stream.role) e)

-- ---- a client

handed : (items : List Item) → has_handover items ≡ true → has_passed items ≡ true
handed items e = ap (λ (t : Bool). t || has_end items) e

ended_there : (items : List Item) → has_end items ≡ true → has_passed items ≡ true
ended_there items e = by (has_handover items) (has_end items) e
  where
    by : (a b : Bool) → b ≡ true → (a || b) ≡ true
    by true b f = refl
    by false b f = f

none_out : (r : Replacement) → is_none r ≡ true → is_out r ≡ false
none_out NoneUnderWay e = refl
none_out (In stage w) e = absurd cc
none_out (Out stage w) e = absurd cc

module _ (config : ClientConfig) (moves : List EndMove) (allowed : AreAllowedMoves config moves)
    (law : TakesInOrder (client_moved config moves)) (n : ℕ)
    (from : (client_moved config moves).passage.role.current.number ≤ n)
    (known : client.rules.was_up (client_moved config moves).passage.role (co n) ≡ true) where
  abbrev s : ClientRole
  s = (client_moved config moves).passage.role

  abbrev came : ℕ → List Item
  came = client_order.came_log (client_moved config moves).passage.came

  -- no channel above the current one is there without a replacement
  here : is_none s.replacement ≡ true → n ≡ s.current.number
  here none =
      by (is_current s n) refl
      (subst (λ (t : Bool). ((nat_lt 0 n && nat_lt n s.current.number)
      || ((is_current s n && is_up s.current.opening)
      || ((t && n == s.out_successor.number) && is_up s.out_successor.opening))) ≡ true)
      (none_out s.replacement none) known)
    where
      by : (b : Bool) → is_current s n ≡ b
          → ((nat_lt 0 n && nat_lt n s.current.number)
          || ((is_current s n && is_up s.current.opening)
          || ((false && n == s.out_successor.number) && is_up s.out_successor.opening))) ≡ true
          → n ≡ s.current.number
      by true e up = grind (arith, nat_tests)
      by false e up =
          let behind : nat_lt n s.current.number ≡ false = grind (arith, nat_tests, from) in
          absurd (none_of (nat_lt 0 n) (nat_lt n s.current.number) (is_current s n)
          (is_up s.current.opening) behind e up)
        where
          none_of : (a b c d : Bool) → b ≡ false → c ≡ false
              → ((a && b) || ((c && d) || false)) ≡ true → ⊥
          none_of true true c d e f u = absurd cc
          none_of true false true d e f u = absurd cc
          none_of true false false d e f u = absurd cc
          none_of false true c d e f u = absurd cc
          none_of false false true d e f u = absurd cc
          none_of false false false d e f u = absurd cc

  ended_passes : s.phase ≡ phase.Ended → has_passed (came n) ≡ true
  ended_passes ended =
      let p = parts s (over_done config moves allowed ended) in
      subst (λ (k : ℕ). has_passed (came k) ≡ true) (sym (here p.3))
      (ended_there (came s.current.number) (sym law.holds.ended ∙ p.2))

  done_passes : client.rules.is_done s (co n) ≡ true → has_passed (came n) ≡ true
  done_passes done = by (is_current s n) refl done
    where
      by : (b : Bool) → is_current s n ≡ b
          → (if b then is_finished s.replacement else nat_lt n s.current.number) ≡ true
          → has_passed (came n) ≡ true
      by true e finished =
          let at : n ≡ s.current.number = grind (arith, nat_tests) in
          subst (λ (k : ℕ). has_passed (came k) ≡ true) (sym at)
          (handed (came s.current.number) (sym law.holds.finished ∙ finished))
      by false e before =
          absurd (let behind : nat_lt n s.current.number ≡ false = grind (arith, nat_tests, from) in
          true≢false (sym before ∙ behind))

  pub client_passes : is_in_use client.rules s (co n) ≡ false → has_passed (came n) ≡ true
  client_passes e = by s.phase refl
    where
      done : (a b : Bool) → not a ≡ true → (not a && not b) ≡ false → b ≡ true
      done true b work none = absurd cc
      done false true work none = refl
      done false false work none = absurd cc

      by : (f : Phase) → s.phase ≡ f → has_passed (came n) ≡ true
      by phase.Ended is = ended_passes is
      by phase.Open is =
          done_passes (done (is_ended s.phase) (client.rules.is_done s (co n))
          (ap (λ (f : Phase). not (is_ended f)) is) e)
      by phase.Opening is =
          done_passes (done (is_ended s.phase) (client.rules.is_done s (co n))
          (ap (λ (f : Phase). not (is_ended f)) is) e)

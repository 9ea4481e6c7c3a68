-- what passed the client, the in proxies and the server keeps the laws of each, and comes from the
-- one to the next in order
use Rattle.law_order.proofs.Vocabulary.{◌≡◌, ◌⊎◌, ℕ, zero, suc, ◌+◌, ◌==◌, ◌<◌, ◌≤◌, ◌&&◌, ◌||◌, List, [], length, Bool, true, false, Some, sym, ap, ◌∙◌, subst, arith, refl, inl, inr, ⊎_elim, true≢false, eq-eqb, lt-ltb, or_left, length-append, append-nil, if◌then◌else◌, IsPrefix, Item, GiverLaw, seen, IsLeg, PasserLaw, TakerLaw}
use Rattle.rh_inproxy.specs.Machine as proxy
use Rattle.law_moves.proofs.Vocabulary.{by_test, nil_front, CiU, IsU, ClientConfig, Message, Passage, Event, EndEvent, of_leg, messages_read}
use Rattle.law_role_inproxy.proofs.Vocabulary.{InProxyConfig, InProxy, first, item_came, item_put}
use Rattle.law_role_inproxy.specs.Legible as proxy_legible
use Rattle.law_role_inproxy.specs.Order as proxy_order
use Rattle.law_role_client.proofs.Vocabulary.{up_items}
use Rattle.law_role_client.specs.Legible as client_legible
use Rattle.law_role_client.specs.Order as client_order
use Rattle.law_role_server.proofs.Vocabulary.{in_items}
use Rattle.law_role_server.specs.Order as server_order
use Rattle.law_node_history.proofs.Vocabulary.{heard_on, drawn_on, happened}
use Rattle.law_node_streams.proofs.Streams.LegLogs.{leg_reads_back}
use Rattle.law_node_begins.specs.ProxiesBegin.Pipes.{ci as client_leg, is as server_leg, in_pipe}
use Rattle.law_peers_routes.proofs.Upwards.InProxyMoves.{in_proxy_holds}
use Rattle.law_peers_routes.proofs.Upwards.JoinedLegs.{AgreeOn, up_views, in_views, told_views, client_put, proxy_came, server_came, proxy_put, drawn_leg}
use Rattle.law_peers_routes.proofs.Upwards.Laws.{Laws, AreBegun}
use Rattle.law_peers_routes.proofs.Upwards.Rising.{rose}
use Rattle.law_peers_routes.proofs.Upwards.Told.{told_items, carried, has_any, spoke}
use Rattle.law_peers_routes.proofs.Upwards.InProxyMoves as proxy_moves
use Rattle.law_peers_routes.specs.Upwards.{GoesUp, has_leg}

module _ (laws : Laws) (config : ClientConfig) (window : ℕ) (in_config : ℕ → InProxyConfig)
    (client_events server_events : List EndEvent) (ins : ℕ → List Event) (made : ℕ → Bool)
    (reader : ℕ → ℕ)
    (g : GoesUp config window in_config client_events server_events ins made reader)
    (begun : AreBegun g.giver.passage (λ n. (g.proxies n).passage)) where
  abbrev pub in_passage : ℕ → Passage InProxy
  in_passage m = (g.proxies m).passage

  -- ---- each machine

  pub gives : GiverLaw
      (client_order.giver_of g.giver.passage.given g.giver.passage.passage.role)
      (client_order.put_log g.giver.passage.passage.put)
  gives = subst client_order.GivesInOrder g.giver.leads.reached
      (laws.gives config g.giver.leads.moves g.giver.leads.allowed)

  pub keeps : (m : ℕ) → PasserLaw (proxy_order.passer_of (in_passage m).role) m
      (proxy_order.came_log (in_passage m).came) (proxy_order.put_items (in_passage m).put)
  keeps m =
      subst (λ n. proxy_order.KeepsOrder n (in_passage m)) (g.numbered m)
      (subst (proxy_order.KeepsOrder (in_config m).number) (g.proxies m).leads.reached
      (laws.keeps (in_config m) (g.proxies m).leads.moves (g.proxies m).leads.allowed))

  pub takes : TakerLaw
      (server_order.taker_of g.taker.passage.taken g.taker.passage.passage.role)
      (server_order.has_leg g.taker.leads.moves g.taker.passage.passage.role)
      (server_order.got g.taker.passage)
  takes = subst (λ p. TakerLaw (server_order.taker_of p.taken p.passage.role)
      (server_order.has_leg g.taker.leads.moves p.passage.role) (server_order.got p))
      g.taker.leads.reached (laws.takes window g.taker.leads.moves g.taker.leads.allowed)

  pub proxy_holds : (m : ℕ)
      → proxy_moves.Holds m (λ n. rose (client_leg n) (g.proxies m).leads.moves) (in_passage m)
  proxy_holds m =
      subst (λ n. proxy_moves.Holds n (λ k. rose (client_leg k) (g.proxies m).leads.moves)
      (in_passage m)) (g.numbered m)
      (subst (proxy_moves.Holds (in_config m).number
      (λ k. rose (client_leg k) (g.proxies m).leads.moves)) (g.proxies m).leads.reached
      (in_proxy_holds (in_config m) (g.proxies m).leads.moves (g.proxies m).leads.allowed))

  -- ---- each leg

  pub near : (m n : ℕ) → IsLeg (client_order.put_log g.giver.passage.passage.put n)
      (proxy_order.came_log (in_passage m).came n)
  near m n =
      subst (λ (items : List Item). IsPrefix items
      (client_order.put_log g.giver.passage.passage.put n)) (sym (proxy_came (in_passage m).came n))
      (subst (IsPrefix (seen item_came (of_leg (client_leg n) (in_passage m).came)))
      (sym (client_put g.giver.passage.passage.put n))
      (laws.carries up_items item_came up_views (Some CiU)
      (of_leg (client_leg n) g.giver.passage.passage.put)
      (of_leg (client_leg n) (in_passage m).came) _ (heard_on (client_leg n) (ins m))
      (begun.client n)
      (leg_reads_back client_legible.pipe_put (client_leg n) g.giver.passage.passage.put
      g.client_legible.read_back)
      (g.giver.drawn (client_leg n)) (g.near m n) ((g.proxies m).read (client_leg n))))

  -- in any view in which both ends agree
  pub far_seen : (m : ℕ) (put_view came_view : Message → List Item) → AgreeOn put_view came_view
      → IsPrefix (seen came_view (of_leg (server_leg m) g.taker.passage.passage.came))
      (seen put_view (of_leg (server_leg m) (in_passage m).put))
  far_seen m put_view came_view agree =
      drawn_leg laws.carries laws.nothing put_view came_view agree
      (of_leg (server_leg m) (in_passage m).put)
      (of_leg (server_leg m) g.taker.passage.passage.came)
      (drawn_on proxy.rules (proxy.first_node (in_config m)) (server_leg m) (ins m))
      (heard_on (server_leg m) (happened server_events)) (begun.proxies m)
      (leg_reads_back proxy_legible.pipe_put (server_leg m) (in_passage m).put
      (g.proxies_legible m).read_back)
      ((g.proxies m).drawn (server_leg m)
      (laws.turned (first (in_config m)) (in_pipe (in_config m)) (server_leg m)
      (laws.refuses (in_config m) (server_leg m) refl)))
      (g.far m) (g.taker.read (server_leg m))

  far_leg : (m : ℕ) → IsPrefix (server_order.got g.taker.passage m)
      (proxy_order.put_items (in_passage m).put)
  far_leg m =
      subst (λ (items : List Item). IsPrefix items (proxy_order.put_items (in_passage m).put))
      (sym (server_came g.taker.passage.passage.came m))
      (subst (IsPrefix (seen in_items (of_leg (server_leg m) g.taker.passage.passage.came)))
      (sym (proxy_put m (in_passage m).put (begun.lone m)))
      (far_seen m item_put in_items in_views))

  -- the server was told no more often than it is
  pub told_less : (m : ℕ)
      → carried g.taker.passage.passage.came m ≤ carried (in_passage m).put m
  told_less m =
      shorter (seen told_items (of_leg (server_leg m) g.taker.passage.passage.came))
      (seen told_items (of_leg (server_leg m) (in_passage m).put))
      (far_seen m told_items told_items told_views)
    where
      shorter : (a b : List Item) → IsPrefix a b → length a ≤ length b
      shorter a b p =
          let e : length a + length p.0 ≡ length b =
          sym (length-append a p.0) ∙ ap (λ (items : List Item). length items) p.1 in
          omega (arith, e)

  -- an in proxy that was not made took nothing, and nothing came from it
  pub idle_came : (m n : ℕ) → made m ≡ false → proxy_order.came_log (in_passage m).came n ≡ []
  idle_came m n e =
      let none : ins m ≡ [] = g.readers.unmade m e in
      let read = subst (λ (events : List Event).
      IsPrefix (of_leg (client_leg n) (in_passage m).came)
      (messages_read (Some CiU) (heard_on (client_leg n) events))) none
      ((g.proxies m).read (client_leg n)) in
      proxy_came (in_passage m).came n
      ∙ ap (seen item_came) (nil_front (of_leg (client_leg n) (in_passage m).came) read.0 read.1)

  idle_leg : (m : ℕ) → made m ≡ false
      → of_leg (server_leg m) g.taker.passage.passage.came ≡ []
  idle_leg m e =
      let none : ins m ≡ [] = g.readers.unmade m e in
      let far = subst (λ (events : List Event).
      IsPrefix (heard_on (server_leg m) (happened server_events))
      (drawn_on proxy.rules (proxy.first_node (in_config m)) (server_leg m) events)) none
      (g.far m) in
      let heard = nil_front (heard_on (server_leg m) (happened server_events)) far.0 far.1 in
      let read = subst (λ (bytes : List ℕ).
      IsPrefix (of_leg (server_leg m) g.taker.passage.passage.came)
      (messages_read (Some IsU) bytes)) heard (g.taker.read (server_leg m)) in
      nil_front (of_leg (server_leg m) g.taker.passage.passage.came) read.0 read.1

  pub idle_got : (m : ℕ) → made m ≡ false → server_order.got g.taker.passage m ≡ []
  idle_got m e = server_came g.taker.passage.passage.came m ∙ ap (seen in_items) (idle_leg m e)

  -- so a leg on which the server took a message is that of one that was made
  pub spoke_made : (m : ℕ) → spoke g.taker.passage.passage.came m ≡ true → made m ≡ true
  spoke_made m e = by (made m) refl
    where
      by : (b : Bool) → made m ≡ b → b ≡ true
      by true f = refl
      by false f = absurd (true≢false (sym e ∙ ap has_any (idle_leg m f)))

  -- it reads the channel of its number
  pub has_own : (m : ℕ) → made m ≡ true → has_leg reader m ≡ true
  has_own m e =
      ap (λ b. b && (reader m == m || reader m == 0)) (lt-ltb 0 m (above m e))
      ∙ or_left (reader m == m) (reader m == 0) (eq-eqb (reader m) m (g.readers.own m e))
    where
      above : (n : ℕ) → made n ≡ true → 0 < n
      above zero f = absurd (true≢false (sym f ∙ g.readers.none))
      above (suc n) f = omega arith

  pub far : (m : ℕ) → IsLeg
      (if has_leg reader m then proxy_order.put_items (in_passage m).put else [])
      (server_order.got g.taker.passage m)
  far m =
      by_test (λ (put : List Item). IsLeg put (server_order.got g.taker.passage m))
      (has_leg reader m) (proxy_order.put_items (in_passage m).put) [] (λ e. far_leg m)
      (λ e. (
        [],
        append-nil (server_order.got g.taker.passage m)
            ∙ idle_got m (⊎_elim (λ f. f)
            (λ f. absurd (true≢false (sym (has_own m f) ∙ e))) (either (made m))),
      ))
    where
      either : (b : Bool) → (b ≡ false) ⊎ (b ≡ true)
      either true = inr refl
      either false = inl refl

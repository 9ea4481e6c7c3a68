-- a node at which the handover mark or END of a leg came took it behind more events as well,
-- whichever its streams are
use Rattle.law_order.proofs.Vocabulary.{◌≡◌, ◌⊎◌, inl, inr, ◌<◌, ◌≤◌, ℕ, Bool, true, ◌||◌, List, [], ◌∷◌, ◌++◌, append_assoc, refl, sym, ap, ap₂, ◌∙◌, subst, ◌&&◌, nat_eq, nat_lt, cases_lt, Option, IsPrefix, Item, has_end, has_handover, pdus, below, from_first, Shelved, TakerLaw}
use Rattle.rh_inproxy.specs.Machine as in_proxy
use Rattle.rh_inproxy.specs.State as in_state
use Rattle.rh_outproxy.specs.Machine as out_proxy
use Rattle.rh_client.specs.Client as client
use Rattle.rh_client.specs.State as client_state
use Rattle.rh_server.specs.Servers as server
use Rattle.law_moves.proofs.Vocabulary.{Pipe, ClientConfig, Leg, ClientOut, InServer, Rooms, Acts, Rules, begun, is_of, AreAllowed, AreAllowedAtEnd, EndMove, EndPassage, Move, OnLeg, Passage, all_end_moved, all_moved, end_started, started, EndEvent, Event, after_end_events, after_events}
use Rattle.law_role_inproxy.proofs.Vocabulary.{InProxyConfig, InProxy}
use Rattle.law_role_inproxy.specs.Order as in_order
use Rattle.law_role_client.proofs.Vocabulary.{ClientRole, AreAllowedMoves, TakesInOrder, client_moved}
use Rattle.law_role_client.specs.Order as client_order
use Rattle.law_role_server.proofs.Vocabulary.{Server}
use Rattle.law_role_server.specs.Order as server_order
use Rattle.law_node_history.proofs.Lemmas.{or_left as or_first, or_true as or_second}
use Rattle.law_node_history.proofs.Vocabulary.{came_up, happened}
use Rattle.law_role_outproxy.proofs.Vocabulary.{ROOMS, OutProxyConfig, OutProxy, new_proxy}
use Rattle.law_role_outproxy.specs.Order as out_order
use Rattle.law_node_streams.specs.Streams.{EndStream, Stream}
use Rattle.law_node_streams.specs.Grown.{EndGrowing, Growing}
use Rattle.law_node_begins.specs.ProxiesBegin.Pipes.{in_pipe, is}
use Rattle.law_node_begins.specs.EndsBegin.{server_reads}
use Rattle.law_peers_routes.specs.Downwards.{client_reads, proxy_reads}
use Rattle.law_world_ways.proofs.ExactWays.Passing.{ups_are}
use Rattle.law_world_ways.proofs.ExactPaths.Later.{both_streams, end_both_streams}
use Rattle.law_world_ways.proofs.ExactPaths.Shelves.{either, end_more, ended_below, ended_below_more, passed_as, passed_more}
use Rattle.law_world_ways.specs.OnPaths.Legs.{has_passed}

-- ---- logs behind more

appends : {X : Type 0} (f : List X → List Item) (one : X → List Item) → f [] ≡ []
    → ((x : X) (xs : List X) → f (x ∷ xs) ≡ one x ++ f xs) → (xs ys : List X)
    → f (xs ++ ys) ≡ f xs ++ f ys
appends f one none first [] ys = ap (λ (x : List Item). x ++ f ys) (sym none)
appends f one none first (x ∷ xs) ys =
    first x (xs ++ ys)
    ∙ ap (λ (items : List Item). one x ++ items) (appends f one none first xs ys)
    ∙ sym (append_assoc (one x) (f xs) (f ys))
    ∙ ap (λ (items : List Item). items ++ f ys) (sym (first x xs))

out_append : (n : ℕ) (a b : List OnLeg)
    → out_order.came_log (a ++ b) n ≡ out_order.came_log a n ++ out_order.came_log b n
out_append n =
    appends (λ came. out_order.came_log came n)
    (out_order.items_of (out_order.server_leg n) out_order.from_server) refl (λ x xs. refl)

client_append : (n : ℕ) (a b : List OnLeg)
    → client_order.came_log (a ++ b) n
    ≡ client_order.came_log a n ++ client_order.came_log b n
client_append n =
    appends (λ came. client_order.came_log came n)
    (client_order.items_on client_order.down_items ClientOut n) refl (λ x xs. refl)

in_append : (n : ℕ) (a b : List OnLeg)
    → in_order.came_log (a ++ b) n ≡ in_order.came_log a n ++ in_order.came_log b n
in_append n = appends (λ came. in_order.came_log came n) (in_order.came_on n) refl (λ x xs. refl)

abbrev server_came : List OnLeg → ℕ → List Item
server_came came n = server_order.items_on server_order.in_items InServer came n

server_append : (n : ℕ) (a b : List OnLeg)
    → server_came (a ++ b) n ≡ server_came a n ++ server_came b n
server_append n = appends (λ came. server_came came n) (λ x. server_came (x ∷ []) n) refl first
  where
    nil : (items : List Item) → items ++ [] ≡ items
    nil [] = refl
    nil (x ∷ items) = ap (λ (xs : List Item). x ∷ xs) (nil items)

    first : (x : OnLeg) (xs : List OnLeg)
        → server_came (x ∷ xs) n ≡ server_came (x ∷ []) n ++ server_came xs n
    first (leg, message) xs =
        ap (λ (items : List Item). items ++ server_came xs n)
        (sym (nil (server_order.items_if
        (is_of InServer leg
        && nat_eq n leg.number) (server_order.in_items message))))

passed_front : (log : List OnLeg → List Item)
    → ((a b : List OnLeg) → log (a ++ b) ≡ log a ++ log b) → (a b : List OnLeg) → IsPrefix a b
    → has_passed (log a) ≡ true → has_passed (log b) ≡ true
passed_front log append a b p e =
    subst (λ (x : List OnLeg). has_passed (log x) ≡ true) p.1
    (ap has_passed (append a p.0) ∙ passed_more (log a) (log p.0) e)

end_front : (log : List OnLeg → List Item)
    → ((a b : List OnLeg) → log (a ++ b) ≡ log a ++ log b) → (a b : List OnLeg) → IsPrefix a b
    → has_end (log a) ≡ true → has_end (log b) ≡ true
end_front log append a b p e =
    subst (λ (x : List OnLeg). has_end (log x) ≡ true) p.1
    (ap has_end (append a p.0) ∙ end_more (log a) (log p.0) e)

-- ---- a proxy, by a test of what came

module _ {S : Type 0} (rules : Rules S) (first : S) (rooms : Rooms) (pipe : Leg → Option Pipe)
    (test : List OnLeg → Bool)
    (same : (events : List Event) (s t : Stream rules first rooms pipe events)
    → test s.passage.came ≡ test t.passage.came)
    (more : (a b : List OnLeg) → IsPrefix a b → test a ≡ true → test b ≡ true) where
  pub later_passed : (front all : List Event) → IsPrefix front all
      → Growing rules first rooms pipe all → (s : Stream rules first rooms pipe front)
      → test s.passage.came ≡ true → (t : Stream rules first rooms pipe all)
      → test t.passage.came ≡ true
  later_passed front all p growing s e t =
      let b = both_streams rules first rooms pipe front all p growing in
      same all t b.other
      ∙ more b.one.passage.came b.other.passage.came b.came (sym (same front s b.one) ∙ e)

module _ {S : Type 0} (rules : Rules S) (acts : Acts S) (first : S) (rooms : Rooms)
    (pipe : Leg → Option Pipe) (test : List OnLeg → Bool)
    (more : (a b : List OnLeg) → IsPrefix a b → test a ≡ true → test b ≡ true) where
  pub later_passed_at_end : (front all : List EndEvent) → IsPrefix front all
      → EndGrowing rules acts first rooms pipe all
      → (same_front : (s t : EndStream rules acts first rooms pipe front)
      → test s.passage.passage.came ≡ test t.passage.passage.came)
      → (same_all : (s t : EndStream rules acts first rooms pipe all)
      → test s.passage.passage.came ≡ test t.passage.passage.came)
      → (s : EndStream rules acts first rooms pipe front)
      → test s.passage.passage.came ≡ true → (t : EndStream rules acts first rooms pipe all)
      → test t.passage.passage.came ≡ true
  later_passed_at_end front all p growing same_front same_all s e t =
      let b = end_both_streams rules acts first rooms pipe front all p growing in
      same_all t b.other
      ∙ more b.one.passage.passage.came b.other.passage.passage.came b.came
      (sym (same_front s b.one) ∙ e)

-- ---- an out proxy

abbrev pub OutOrder : Type 0
OutOrder =
    (config : OutProxyConfig) (moves : List Move)
    → AreAllowed out_proxy.rules (started (new_proxy config)) moves
    → out_order.KeepsOrder config.number
    (all_moved out_proxy.rules (started (new_proxy config)) moves)

module _ (law : OutOrder) (config : OutProxyConfig) where
  abbrev OutStream : List Event → Type 0
  OutStream events = Stream out_proxy.rules (new_proxy config) ROOMS (proxy_reads config) events

  abbrev out_node_role : List Event → OutProxy
  out_node_role events =
      (after_events out_proxy.rules (begun (new_proxy config) ROOMS) events).role

  out_shelved : (events : List Event) (s : OutStream events)
      → (put : List Item)
      × Shelved (out_order.shelves_of (out_node_role events)) (from_first config.number)
      (pdus put) (out_order.came_log s.passage.came)
  out_shelved events s =
      let law_here : out_order.KeepsOrder config.number s.passage =
      subst (λ (p : Passage OutProxy). out_order.KeepsOrder config.number p) s.leads.reached
      (law config s.leads.moves s.leads.allowed) in
      let put = out_order.put_items config.number s.passage.put in (
        put,
        subst (λ (r : OutProxy). Shelved (out_order.shelves_of r) (from_first config.number)
            (pdus put) (out_order.came_log s.passage.came)) s.role law_here.shelved,
      )

  pub out_same : (n : ℕ) → from_first config.number n ≡ true → (events : List Event)
      (s t : OutStream events)
      → has_passed (out_order.came_log s.passage.came n)
      ≡ has_passed (out_order.came_log t.passage.came n)
  out_same n leg events s t =
      let a = out_shelved events s in
      let b = out_shelved events t in
      passed_as (out_order.shelves_of (out_node_role events)) (from_first config.number)
      (from_first config.number) (pdus a.0) (pdus b.0) (out_order.came_log s.passage.came)
      (out_order.came_log t.passage.came) a.1 b.1 n leg leg

  pub out_later : (n : ℕ) → from_first config.number n ≡ true → (front all : List Event)
      → IsPrefix front all
      → Growing out_proxy.rules (new_proxy config) ROOMS (proxy_reads config) all
      → (s : OutStream front) → has_passed (out_order.came_log s.passage.came n) ≡ true
      → (t : OutStream all) → has_passed (out_order.came_log t.passage.came n) ≡ true
  out_later n leg =
      later_passed out_proxy.rules (new_proxy config) ROOMS (proxy_reads config)
      (λ came. has_passed (out_order.came_log came n)) (out_same n leg)
      (passed_front (λ came. out_order.came_log came n) (out_append n))

-- ---- an in proxy

abbrev pub InOrder : Type 0
InOrder =
    (config : InProxyConfig) (moves : List Move)
    → AreAllowed in_proxy.rules (started (in_state.first config)) moves
    → in_order.KeepsOrder config.number
    (all_moved in_proxy.rules (started (in_state.first config)) moves)

-- there, or END on a channel below
abbrev pub in_passed : List OnLeg → ℕ → Bool
in_passed came n =
    has_passed (in_order.came_log came n) || has_end (below (in_order.came_log came) n)

module _ (law : InOrder) (config : InProxyConfig) where
  abbrev InStream : List Event → Type 0
  InStream events =
      Stream in_proxy.rules (in_state.first config) in_proxy.rooms (in_pipe config) events

  abbrev in_node_role : List Event → InProxy
  in_node_role events = (after_events in_proxy.rules (in_proxy.first_node config) events).role

  in_shelved : (events : List Event) (s : InStream events)
      → (put : List Item)
      × Shelved (in_order.shelves_of (in_node_role events)) (from_first config.number)
      (pdus put) (in_order.came_log s.passage.came)
  in_shelved events s =
      let law_here : in_order.KeepsOrder config.number s.passage =
      subst (λ (p : Passage InProxy). in_order.KeepsOrder config.number p) s.leads.reached
      (law config s.leads.moves s.leads.allowed) in
      let put = in_order.put_items s.passage.put in (
        put,
        subst (λ (r : InProxy). Shelved (in_order.shelves_of r) (from_first config.number)
            (pdus put) (in_order.came_log s.passage.came)) s.role law_here.shelved,
      )

  pub in_same : (n : ℕ) → from_first config.number n ≡ true → (events : List Event)
      (s t : InStream events)
      → in_passed s.passage.came n ≡ in_passed t.passage.came n
  in_same n leg events s t = by (cases_lt n current)
    where
      current : ℕ
      current = (in_order.shelves_of (in_node_role events)).current

      a : (put : List Item)
          × Shelved (in_order.shelves_of (in_node_role events)) (from_first config.number)
          (pdus put) (in_order.came_log s.passage.came)
      a = in_shelved events s

      b : (put : List Item)
          × Shelved (in_order.shelves_of (in_node_role events)) (from_first config.number)
          (pdus put) (in_order.came_log t.passage.came)
      b = in_shelved events t

      passed : has_passed (in_order.came_log s.passage.came n)
          ≡ has_passed (in_order.came_log t.passage.came n)
      passed =
          passed_as (in_order.shelves_of (in_node_role events)) (from_first config.number)
          (from_first config.number) (pdus a.0) (pdus b.0) (in_order.came_log s.passage.came)
          (in_order.came_log t.passage.came) a.1 b.1 n leg leg

      by : (n < current) ⊎ (current ≤ n)
          → in_passed s.passage.came n ≡ in_passed t.passage.came n
      by (inl before) =
          let first =
          or_first (has_handover (in_order.came_log s.passage.came n))
          (has_end (in_order.came_log s.passage.came n)) (a.1.past n before leg) in
          or_first (has_passed (in_order.came_log s.passage.came n))
          (has_end (below (in_order.came_log s.passage.came) n)) first
          ∙ sym (or_first (has_passed (in_order.came_log t.passage.came n))
          (has_end (below (in_order.came_log t.passage.came) n)) (sym passed ∙ first))
      by (inr from) =
          ap₂ (λ x y. x || y) passed
          (ended_below (in_order.shelves_of (in_node_role events)) (from_first config.number)
          (from_first config.number) (pdus a.0) (pdus b.0) (in_order.came_log s.passage.came)
          (in_order.came_log t.passage.came) a.1 b.1 n from)

  in_more : (n : ℕ) (a b : List OnLeg) → IsPrefix a b → in_passed a n ≡ true
      → in_passed b n ≡ true
  in_more n a b p e =
      by (either (has_passed (in_order.came_log a n)) (has_end (below (in_order.came_log a) n)) e)
    where
      by : (has_passed (in_order.came_log a n) ≡ true)
          ⊎ (has_end (below (in_order.came_log a) n) ≡ true) → in_passed b n ≡ true
      by (inl here) =
          or_first (has_passed (in_order.came_log b n)) (has_end (below (in_order.came_log b) n))
          (passed_front (λ came. in_order.came_log came n) (in_append n) a b p here)
      by (inr under) =
          or_second (has_passed (in_order.came_log b n)) (has_end (below (in_order.came_log b) n))
          (ended_below_more (in_order.came_log a) (in_order.came_log b)
          (λ k. end_front (λ came. in_order.came_log came k) (in_append k) a b p) n under)

  pub in_later : (n : ℕ) → from_first config.number n ≡ true → (front all : List Event)
      → IsPrefix front all
      → Growing in_proxy.rules (in_state.first config) in_proxy.rooms (in_pipe config) all
      → (s : InStream front) → in_passed s.passage.came n ≡ true
      → (t : InStream all) → in_passed t.passage.came n ≡ true
  in_later n leg =
      later_passed in_proxy.rules (in_state.first config) in_proxy.rooms (in_pipe config)
      (λ came. in_passed came n) (in_same n leg) (in_more n)

-- ---- a client

abbrev pub ClientOrder : Type 0
ClientOrder =
    (config : ClientConfig) (moves : List EndMove) → AreAllowedMoves config moves
    → TakesInOrder (client_moved config moves)

module _ (law : ClientOrder) (config : ClientConfig) where
  abbrev ClientStream : List EndEvent → Type 0
  ClientStream events =
      EndStream client.rules client.acts (client_state.first config) client.rooms client_reads
      events

  abbrev client_node_role : List EndEvent → ClientRole
  client_node_role events =
      (after_end_events client.rules client.acts (client.first_client config) events).role

  client_shelved : (events : List EndEvent) (s : ClientStream events)
      → (out : List (List ℕ))
      × Shelved (client_order.shelves_of (client_node_role events)) client_order.has_leg out
      (client_order.came_log s.passage.passage.came)
  client_shelved events s =
      let law_here : TakesInOrder s.passage =
      subst TakesInOrder s.leads.reached (law config s.leads.moves s.leads.allowed) in (
        s.passage.taken,
        subst (λ (r : ClientRole). Shelved (client_order.shelves_of r) client_order.has_leg
            s.passage.taken (client_order.came_log s.passage.passage.came)) s.role law_here,
      )

  client_same : (n : ℕ) → client_order.has_leg n ≡ true → (events : List EndEvent)
      (s t : ClientStream events)
      → has_passed (client_order.came_log s.passage.passage.came n)
      ≡ has_passed (client_order.came_log t.passage.passage.came n)
  client_same n leg events s t =
      let a = client_shelved events s in
      let b = client_shelved events t in
      passed_as (client_order.shelves_of (client_node_role events)) client_order.has_leg
      client_order.has_leg a.0 b.0 (client_order.came_log s.passage.passage.came)
      (client_order.came_log t.passage.passage.came) a.1 b.1 n leg leg

  pub client_later : (n : ℕ) → client_order.has_leg n ≡ true → (front all : List EndEvent)
      → IsPrefix front all
      → EndGrowing client.rules client.acts (client_state.first config) client.rooms client_reads
      all
      → (s : ClientStream front)
      → has_passed (client_order.came_log s.passage.passage.came n) ≡ true
      → (t : ClientStream all)
      → has_passed (client_order.came_log t.passage.passage.came n) ≡ true
  client_later n leg front all p growing =
      later_passed_at_end client.rules client.acts (client_state.first config) client.rooms
      client_reads (λ came. has_passed (client_order.came_log came n))
      (passed_front (λ came. client_order.came_log came n) (client_append n)) front all p growing
      (client_same n leg front) (client_same n leg all)

-- ---- a server, on a leg that came up

abbrev pub ServerOrder : Type 0
ServerOrder =
    (window : ℕ) (moves : List EndMove)
    → AreAllowedAtEnd server.rules server.acts (end_started (server.first window)) moves
    → (let p = all_end_moved server.rules server.acts (end_started (server.first window)) moves in
    TakerLaw (server_order.taker_of p.taken p.passage.role)
    (server_order.has_leg moves p.passage.role) (server_order.got p))

module _ (law : ServerOrder) (window : ℕ) where
  abbrev ServerStream : List EndEvent → Type 0
  ServerStream events =
      EndStream server.rules server.acts (server.first window) server.rooms server_reads events

  abbrev server_node_role : List EndEvent → Server
  server_node_role events =
      (after_end_events server.rules server.acts (server.new_server window) events).role

  server_shelved : (events : List EndEvent) (s : ServerStream events)
      → (out : List (List ℕ))
      × Shelved (server_order.shelves_of (server_node_role events))
      (server_order.has_leg s.leads.moves s.passage.passage.role) out
      (server_order.got s.passage)
  server_shelved events s =
      let law_here : TakerLaw (server_order.taker_of s.passage.taken s.passage.passage.role)
      (server_order.has_leg s.leads.moves s.passage.passage.role) (server_order.got s.passage) =
      subst (λ (p : EndPassage Server).
      TakerLaw (server_order.taker_of p.taken p.passage.role)
      (server_order.has_leg s.leads.moves p.passage.role) (server_order.got p)) s.leads.reached
      (law window s.leads.moves s.leads.allowed) in (
        s.passage.taken,
        subst (λ (r : Server). Shelved (server_order.shelves_of r)
            (server_order.has_leg s.leads.moves s.passage.passage.role) s.passage.taken
            (server_order.got s.passage)) s.role law_here,
      )

  server_has : (n : ℕ) (events : List EndEvent) (s : ServerStream events)
      → came_up (is n) (happened events) ≡ true
      → server_order.has_leg s.leads.moves s.passage.passage.role n ≡ true
  server_has n events s up =
      or_second (nat_lt s.passage.passage.role.newest_in n)
      (server_order.came_up s.leads.moves n)
      (sym (ups_are n s.leads.moves) ∙ s.ups (is n) ∙ up)

  server_same : (n : ℕ) (events : List EndEvent) → came_up (is n) (happened events) ≡ true
      → (s t : ServerStream events)
      → has_passed (server_order.got s.passage n) ≡ has_passed (server_order.got t.passage n)
  server_same n events up s t =
      let a = server_shelved events s in
      let b = server_shelved events t in
      passed_as (server_order.shelves_of (server_node_role events))
      (server_order.has_leg s.leads.moves s.passage.passage.role)
      (server_order.has_leg t.leads.moves t.passage.passage.role) a.0 b.0
      (server_order.got s.passage) (server_order.got t.passage) a.1 b.1 n
      (server_has n events s up) (server_has n events t up)

  pub server_later : (n : ℕ) (front all : List EndEvent)
      → came_up (is n) (happened front) ≡ true → came_up (is n) (happened all) ≡ true
      → IsPrefix front all
      → EndGrowing server.rules server.acts (server.first window) server.rooms server_reads all
      → (s : ServerStream front) → has_passed (server_order.got s.passage n) ≡ true
      → (t : ServerStream all) → has_passed (server_order.got t.passage n) ≡ true
  server_later n front all up_front up_all p growing =
      later_passed_at_end server.rules server.acts (server.first window) server.rooms
      server_reads (λ came. has_passed (server_came came n))
      (passed_front (λ came. server_came came n) (server_append n)) front all p growing
      (server_same n front up_front) (server_same n all up_all)

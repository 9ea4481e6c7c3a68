-- what comes on a leg is a front of what was put there, as order sees both
use Rattle.law_order.proofs.Vocabulary.{◌≡◌, ◌≢◌, ℕ, ◌==◌, List, [], ◌∷◌, ◌++◌, Bool, true, false, Some, Ok, refl, sym, ap, ◌∙◌, subst, rules, inl, inr, if◌then◌else◌, AllByRecursion, Option, IsPrefix, Item, seen}
use Rattle.law_moves.proofs.Vocabulary.{test_same, other_number, Pipe, IsU, Named, refusal_text, Leg, LegKind, ClientOut, OutServer, ClientIn, InServer, Message, Text, Pdu, Packet, same_leg, spelled, named_messages, OnLeg, of_leg, ReadsBack, Begins, ReadsNothing, messages_read, read_of}
use Rattle.law_role_inproxy.proofs.Vocabulary.{item_came, item_put}
use Rattle.law_role_inproxy.specs.Order as proxy_order
use Rattle.law_role_client.proofs.Vocabulary.{up_items, up_mark}
use Rattle.law_role_client.specs.Order as client_order
use Rattle.law_role_server.proofs.Vocabulary.{in_items, items_if}
use Rattle.law_role_server.specs.Order as server_order
use Rattle.law_node_streams.proofs.Streams.LegLogs.{leg_items}
use Rattle.law_node_streams.specs.Streams.{IsDrawn}
use Rattle.law_node_begins.specs.ProxiesBegin.Pipes.{ci as client_leg, is as server_leg}
use Rattle.law_peers_routes.proofs.Upwards.Told.{told_items}
use Rattle.law_peers_routes.proofs.Upwards.Unread.{refusal_unread}

-- ---- what the end of a leg sees in what it reads of a message

abbrev pub AgreeOn : (Message → List Item) → (Message → List Item) → Type 0
AgreeOn put_view came_view =
    (message : Message) → seen came_view (read_of message) ≡ put_view message

-- by packets, where both see the same of texts and PDUs
agree : (put_view came_view : Message → List Item)
    → ((bytes : List ℕ) → [] ≡ put_view (Text bytes))
    → ((pdu : List ℕ) → seen came_view (read_of (Pdu pdu)) ≡ put_view (Pdu pdu))
    → ((x : Named) → seen came_view (named_messages (Ok x)) ≡ put_view (Packet x))
    → AgreeOn put_view came_view
agree put_view came_view text pdu packet (Text bytes) = text bytes
agree put_view came_view text pdu packet (Pdu bytes) = pdu bytes
agree put_view came_view text pdu packet (Packet x) = packet x

up_packets : (x : Named) → seen item_came (named_messages (Ok x)) ≡ up_mark x
up_packets x = search rules

-- on a ci leg
pub up_views : AgreeOn up_items item_came
up_views = agree up_items item_came (λ bytes. refl) (λ pdu. refl) up_packets

in_packets : (x : Named) → seen in_items (named_messages (Ok x)) ≡ item_put (Packet x)
in_packets x = search rules

-- on an is leg
pub in_views : AgreeOn item_put in_items
in_views = agree item_put in_items (λ bytes. refl) (λ pdu. refl) in_packets

told_packets : (x : Named) → seen told_items (named_messages (Ok x)) ≡ told_items (Packet x)
told_packets x = search rules

pub told_views : AgreeOn told_items told_items
told_views = agree told_items told_items (λ bytes. refl) (λ pdu. refl) told_packets

-- ---- the logs of a leg, as each role tells them

pub client_put : (log : List OnLeg) (n : ℕ)
    → client_order.put_log log n ≡ seen up_items (of_leg (client_leg n) log)
client_put log n =
    leg_items up_items (client_leg n) (λ ones. client_order.put_log ones n) refl
    (λ one ones. refl) log

pub proxy_came : (log : List OnLeg) (n : ℕ)
    → proxy_order.came_log log n ≡ seen item_came (of_leg (client_leg n) log)
proxy_came log n =
    leg_items item_came (client_leg n) (λ ones. proxy_order.came_log ones n) refl
    (λ one ones. refl) log

pub server_came : (log : List OnLeg) (n : ℕ)
    → server_order.items_on in_items InServer log n ≡ seen in_items (of_leg (server_leg n) log)
server_came log n =
    leg_items in_items (server_leg n) (λ ones. server_order.items_on in_items InServer ones n) refl
    one_more log
  where
    by : (b : Bool) (items : List Item) → items_if b items ≡ (if b then items else [])
    by true items = refl
    by false items = refl

    one_more : (one : OnLeg) (ones : List OnLeg)
        → server_order.items_on in_items InServer (one ∷ ones) n
        ≡ (if same_leg (server_leg n) one.0 then in_items one.1 else [])
        ++ server_order.items_on in_items InServer ones n
    one_more (leg, message) ones =
        ap (λ (items : List Item). items ++ server_order.items_on in_items InServer ones n)
        (by (same_leg (server_leg n) leg) (in_items message))

-- an in proxy puts on the is leg of its number alone
not_there : (message : Message) (messages : List Message) (b : Bool)
    → (if b then message ∷ messages else messages) ≡ [] → (b ≡ false) × (messages ≡ [])
not_there message messages true e = absurd cc
not_there message messages false e = (refl, e)

on_server : (m : ℕ) (leg : Leg) (message : Message)
    → ((n : ℕ) → n ≢ m → same_leg leg (server_leg n) ≡ false)
    → proxy_order.put_on_server (leg, message)
    ≡ (if same_leg leg (server_leg m) then item_put message else [])
on_server m leg message lone = by leg.kind leg.number lone
  where
    by_number : (n : ℕ) (b : Bool) → (n == m) ≡ b
        → ((k : ℕ) → k ≢ m → (n == k) ≡ false)
        → item_put message ≡ (if b then item_put message else [])
    by_number n true e alone = refl
    by_number n false e alone =
        absurd (let f = sym (test_same n) ∙ alone n (other_number n m e) in cc)

    by : (kind : LegKind) (n : ℕ)
        → ((k : ℕ) → k ≢ m → same_leg (record { kind = kind; number = n }) (server_leg k) ≡ false)
        → proxy_order.put_on_server (record { kind = kind; number = n }, message)
        ≡ (if same_leg (record { kind = kind; number = n }) (server_leg m)
        then item_put message else [])
    by ClientOut n alone = refl
    by OutServer n alone = refl
    by ClientIn n alone = refl
    by InServer n alone = by_number n (n == m) refl alone

pub proxy_put : (m : ℕ) (log : List OnLeg) → ((n : ℕ) → n ≢ m → of_leg (server_leg n) log ≡ [])
    → proxy_order.put_items log ≡ seen item_put (of_leg (server_leg m) log)
proxy_put m [] lone = refl
proxy_put m (one ∷ ones) lone =
    ap (λ (items : List Item). items ++ proxy_order.put_items ones)
    (on_server m one.0 one.1 (λ n other. (there n other).0))
    ∙ ap (λ (items : List Item).
    (if same_leg one.0 (server_leg m) then item_put one.1 else []) ++ items)
    (proxy_put m ones (λ n other. (there n other).1))
    ∙ by (same_leg one.0 (server_leg m))
  where
    there : (n : ℕ) → n ≢ m
        → (same_leg one.0 (server_leg n) ≡ false) × (of_leg (server_leg n) ones ≡ [])
    there n other =
        not_there one.1 (of_leg (server_leg n) ones) (same_leg one.0 (server_leg n)) (lone n other)

    by : (b : Bool)
        → (if b then item_put one.1 else []) ++ seen item_put (of_leg (server_leg m) ones)
        ≡ seen item_put
        (if b then one.1 ∷ of_leg (server_leg m) ones else of_leg (server_leg m) ones)
    by true = refl
    by false = refl

-- ---- a leg

-- as the law of reading says it
abbrev pub Carries : Type 0
Carries =
    (put_view came_view : Message → List Item) → AgreeOn put_view came_view
    → (pipe : Option Pipe) (put came : List Message) (drawn heard : List ℕ) → Begins pipe put
    → AllByRecursion (ReadsBack pipe) put → IsPrefix drawn (spelled put)
    → IsPrefix heard drawn → IsPrefix came (messages_read pipe heard)
    → IsPrefix (seen came_view came) (seen put_view put)

-- of a refusal nothing comes
abbrev pub ComesToNothing : Type 0
ComesToNothing =
    (came_view : Message → List Item) (pipe : Option Pipe) (came : List Message)
    (text drawn heard : List ℕ) → ReadsNothing pipe text → IsPrefix drawn text
    → IsPrefix heard drawn → IsPrefix came (messages_read pipe heard) → seen came_view came ≡ []

-- where what was drawn spells what was put, or is a refusal
pub drawn_leg : Carries → ComesToNothing → (put_view came_view : Message → List Item)
    → AgreeOn put_view came_view → (put came : List Message) (drawn heard : List ℕ)
    → Begins (Some IsU) put → AllByRecursion (ReadsBack (Some IsU)) put → IsDrawn put drawn
    → IsPrefix heard drawn → IsPrefix came (messages_read (Some IsU) heard)
    → IsPrefix (seen came_view came) (seen put_view put)
drawn_leg carries nothing put_view came_view agree put came drawn heard begins back (inl p) h r =
    carries put_view came_view agree (Some IsU) put came drawn heard begins back p h r
drawn_leg carries nothing put_view came_view agree put came drawn heard begins back (inr p) h r =
    subst (λ (items : List Item). IsPrefix items (seen put_view put))
    (sym (nothing came_view (Some IsU) came (refusal_text p.1) drawn heard
    (refusal_unread (Some IsU) p.1) p.2 h r))
    (seen put_view put, refl)

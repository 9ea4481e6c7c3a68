-- the logs of the three roles, as what order sees of the messages of a leg
use Rattle.law_order.proofs.Vocabulary.{◌≡◌, ℕ, Bool, true, false, if◌then◌else◌, List, [], ◌++◌, refl, sym, ap, ◌∙◌, inl, inr, IsPrefix, Item, seen}
use Rattle.law_moves.proofs.Vocabulary.{Ping, Refusal, refusal_text, OutServer, Message, Text, Pdu, Packet, same_leg, spelled, OnLeg, of_leg, read_of}
use Rattle.law_role_client.proofs.Vocabulary.{down_items}
use Rattle.law_role_client.specs.Order as client
use Rattle.law_role_server.proofs.Vocabulary.{items_if, out_items}
use Rattle.law_role_server.specs.Order as server
use Rattle.law_role_outproxy.proofs.Vocabulary.{from_server, to_client, client_leg, server_leg}
use Rattle.law_role_outproxy.specs.Order as proxy
use Rattle.law_node_streams.proofs.Streams.LegLogs.{leg_items}
use Rattle.law_node_streams.specs.Streams.{IsDrawn}

-- ---- logs

items_if_is : (t : Bool) (items : List Item) → items_if t items ≡ (if t then items else [])
items_if_is true items = refl
items_if_is false items = refl

pub server_sent : (n : ℕ) (put : List OnLeg)
    → server.items_on out_items OutServer put n ≡ seen out_items (of_leg (server_leg n) put)
server_sent n put =
    leg_items out_items (server_leg n) (λ log. server.items_on out_items OutServer log n) refl
    (λ one log. ap (λ (items : List Item). items ++ server.items_on out_items OutServer log n)
    (items_if_is (same_leg (server_leg n) one.0) (out_items one.1))) put

pub proxy_came : (n : ℕ) (came : List OnLeg)
    → proxy.came_log came n ≡ seen from_server (of_leg (server_leg n) came)
proxy_came n came =
    leg_items from_server (server_leg n) (λ log. proxy.came_log log n) refl (λ one log. refl) came

pub proxy_put : (n : ℕ) (put : List OnLeg)
    → proxy.put_items n put ≡ seen to_client (of_leg (client_leg n) put)
proxy_put n put =
    leg_items to_client (client_leg n) (λ log. proxy.put_items n log) refl (λ one log. refl) put

pub client_came : (n : ℕ) (came : List OnLeg)
    → client.came_log came n ≡ seen down_items (of_leg (client_leg n) came)
client_came n came =
    leg_items down_items (client_leg n) (λ log. client.came_log log n) refl (λ one log. refl) came

-- ---- messages: each leg's end sees what was put there

pub sent_views : (m : Message) → seen from_server (read_of m) ≡ out_items m
sent_views (Text bytes) = refl
sent_views (Pdu pdu) = refl
sent_views (Packet Ping) = refl
sent_views (Packet packet) = refl

pub put_views : (m : Message) → seen down_items (read_of m) ≡ to_client m
put_views (Text bytes) = refl
put_views (Pdu pdu) = refl
put_views (Packet Ping) = refl
put_views (Packet packet) = refl

-- ---- fronts

-- lists that are told in other words
pub told : {X : Type 0} {a b c d : List X} → a ≡ c → b ≡ d → IsPrefix c d → IsPrefix a b
told a b p = (p.0, rw a (p.1 ∙ sym b))

pub nothing_first : {X : Type 0} (a b : List X) → a ≡ [] → IsPrefix a b
nothing_first a b e = (b, rw e refl)

-- what was drawn spells what was put, or is of a refusal
pub by_drawn : (came put : List Item) (messages : List Message) (drawn : List ℕ)
    → IsDrawn messages drawn → (IsPrefix drawn (spelled messages) → IsPrefix came put)
    → ((refusal : Refusal) → IsPrefix drawn (refusal_text refusal) → came ≡ [])
    → IsPrefix came put
by_drawn came put messages drawn (inl front) whole refused = whole front
by_drawn came put messages drawn (inr (none, refusal, front)) whole refused =
    nothing_first came put (refused refusal front)

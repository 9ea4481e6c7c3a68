-- the bytes of the RPC PDUs on a leg, as order sees it
use Rattle.law_order.proofs.Vocabulary.{◌≡◌, ℕ, ◌+◌, Bool, true, false, if◌then◌else◌, List, [], ◌∷◌, ◌++◌, arith, refl, ap, ◌∙◌, Item, pdus, seen}
use Rattle.rh_sig.specs.declared.named.Named.TheVariants.{EndA2, InR1A6}
use Rattle.law_moves.proofs.Vocabulary.{InServer, Message, Text, Pdu, Packet, OnLeg, of_leg, pdu_bytes, pdus-append, same_leg, total}
use Rattle.law_moves.proofs.Lemmas.{bytes_append}
use Rattle.law_role_inproxy.proofs.Vocabulary.{is_leg}
use Rattle.law_role_server.proofs.Vocabulary.{in_items, items_if, items_on}
use Rattle.law_node_streams.proofs.Streams.LegLogs.{leg_items}

total_append : (a b : List (List ℕ)) → total (a ++ b) ≡ total a + total b
total_append [] b = omega arith
total_append (pdu ∷ a) b = let rest = total_append a b in omega (arith, rest)

-- of each message it sees the PDU alone
pub seen_bytes : (view : Message → List Item)
    → ((m : Message) → total (pdus (view m)) ≡ pdu_bytes (m ∷ []))
    → (ms : List Message) → total (pdus (seen view ms)) ≡ pdu_bytes ms
seen_bytes view each [] = refl
seen_bytes view each (m ∷ ms) =
    let all = ap total (pdus-append (view m) (seen view ms)) in
    let both = total_append (pdus (view m)) (pdus (seen view ms)) in
    let here = each m in
    let rest = seen_bytes view each ms in
    let sum = bytes_append (m ∷ []) ms in omega (arith, all, both, here, rest, sum)

-- ---- a server

in_bytes : (m : Message) → total (pdus (in_items m)) ≡ pdu_bytes (m ∷ [])
in_bytes (Text bytes) = refl
in_bytes (Pdu pdu) = refl
in_bytes (Packet EndA2) = refl
in_bytes (Packet (InR1A6 successor)) = refl
in_bytes (Packet packet) = refl

pub server_bytes : (came : List OnLeg) (n : ℕ)
    → total (pdus (items_on in_items InServer came n)) ≡ pdu_bytes (of_leg (is_leg n) came)
server_bytes came n =
    ap (λ (items : List Item). total (pdus items)) sees
    ∙ seen_bytes in_items in_bytes (of_leg (is_leg n) came)
  where
    by : (t : Bool) (items : List Item) → items_if t items ≡ (if t then items else [])
    by true items = refl
    by false items = refl

    sees : items_on in_items InServer came n ≡ seen in_items (of_leg (is_leg n) came)
    sees =
        leg_items in_items (is_leg n) (λ log. items_on in_items InServer log n) refl
        (λ one log. ap (λ (items : List Item). items ++ items_on in_items InServer log n)
        (by (same_leg (is_leg n) one.0) (in_items one.1))) came

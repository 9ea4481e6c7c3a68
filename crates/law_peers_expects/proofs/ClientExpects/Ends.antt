-- an out proxy puts RPC PDUs to its client only where some came from the server, and behind END/B2
-- no RPC PDU and no other END/B2
use Rattle.law_order.proofs.Vocabulary.{◌≡◌, ◌⊎◌, inl, inr, ℕ, ◌||◌, Bool, true, false, List, [], ◌∷◌, ◌++◌, refl, sym, ap, ◌∙◌, subst, append_assoc, IsPrefix, Item, Piece, Stop, Handover, pdus, has_end, IsBehindEnd, IsChannel, below, seen}
use Rattle.law_moves.proofs.Vocabulary.{below_empty, seen-append, has_end-append, nil_back, nil_front, Named, EndB1, EndB2, OutR1A9, OutR1A10, Ping, Message, Text, Pdu, Packet, OnLeg, Passage, of_leg, all_read_of, read_of, Has}
use Rattle.law_moves.proofs.Lemmas.{seen_read}
use Rattle.law_role_outproxy.proofs.Vocabulary.{OutProxy, KeepsOrder, came_log, put_items, from_server, to_client, client_leg, server_leg}
use Rattle.law_node_streams.proofs.Streams.LegLogs.{leg_items}
use Rattle.law_peers_expects.proofs.ClientExpects.Ahead.{HasPdu}

-- ---- behind END

abbrev pub IsHandover : Item → Type 0
IsHandover (Piece pdu) = ⊥
IsHandover Stop = ⊥
IsHandover Handover = Unit {0}

at_end : (a : List Item) (item : Item) (b : List Item) → IsBehindEnd (a ++ item ∷ b)
    → IsHandover item
at_end [] (Piece pdu) b h = absurd h
at_end [] Stop b h = absurd h
at_end [] Handover b h = tt
at_end (Piece pdu ∷ a) item b h = absurd h
at_end (Stop ∷ a) item b h = absurd h
at_end (Handover ∷ a) item b h = let none = nil_back a (item ∷ b) h in absurd cc

behind_end : (a : List Item) (item : Item) (b : List Item) → has_end a ≡ true
    → IsChannel (a ++ item ∷ b) → IsHandover item
behind_end [] item b e h = absurd cc
behind_end (Piece pdu ∷ a) item b e h = behind_end a item b e h
behind_end (Stop ∷ a) item b e h = at_end a item b h
behind_end (Handover ∷ a) item b e h = let none = nil_back a (item ∷ b) h in absurd cc

either : (b : Bool) → b || true ≡ true
either true = refl
either false = refl

has_seen : (ms : List Message) → Has EndB2 ms → has_end (seen to_client ms) ≡ true
has_seen [] has = absurd has
has_seen (m ∷ ms) (inl is) =
    subst (λ (x : Message). has_end (to_client x ++ seen to_client ms) ≡ true) (sym is) refl
has_seen (m ∷ ms) (inr has) =
    has_end-append (to_client m) (seen to_client ms)
    ∙ ap (λ (b : Bool). has_end (to_client m) || b) (has_seen ms has)
    ∙ either (has_end (to_client m))

read_views : (m : Message) → seen to_client (read_of m) ≡ to_client m
read_views (Text bytes) = refl
read_views (Pdu pdu) = refl
read_views (Packet Ping) = refl
read_views (Packet EndB2) = refl
read_views (Packet OutR1A10) = refl
read_views (Packet named) = refl

module _ (came put : List Message) (m : Message) (item : Item) (is : to_client m ≡ item ∷ [])
    (ahead : IsPrefix (came ++ m ∷ []) (all_read_of put)) where
  ahead_seen : seen to_client put
      ≡ seen to_client came ++ item ∷ seen to_client ahead.0
  ahead_seen =
      sym (seen_read to_client to_client read_views put)
      ∙ ap (seen to_client) (sym ahead.1)
      ∙ ap (seen to_client) (append_assoc came (m ∷ []) ahead.0)
      ∙ seen-append to_client came (m ∷ ahead.0)
      ∙ ap (λ (items : List Item). seen to_client came ++ (items ++ seen to_client ahead.0)) is

  -- END/B2 came, so this is OUT_R1/A10
  pub ends_last : IsChannel (seen to_client put) → Has EndB2 came → IsHandover item
  ends_last channel has =
      behind_end (seen to_client came) item (seen to_client ahead.0) (has_seen came has)
      (subst IsChannel ahead_seen channel)

-- ---- RPC PDUs

packet_put : (named : Named) (items : List Item)
    → pdus (to_client (Packet named) ++ items) ≡ pdus items
packet_put EndB2 items = refl
packet_put OutR1A10 items = refl
packet_put named items = refl

packet_came : (named : Named) (items : List Item)
    → pdus (from_server (Packet named) ++ items) ≡ pdus items
packet_came EndB1 items = refl
packet_came OutR1A9 items = refl
packet_came named items = refl

has_pieces : (ms : List Message) → HasPdu ms → pdus (seen to_client ms) ≡ [] → ⊥
has_pieces [] has none = has
has_pieces (Text bytes ∷ ms) has none = has_pieces ms has none
has_pieces (Pdu pdu ∷ ms) has none = cc
has_pieces (Packet named ∷ ms) has none =
    has_pieces ms has (sym (packet_put named (seen to_client ms)) ∙ none)

has_or_none : (ms : List Message) → HasPdu ms ⊎ (pdus (seen from_server ms) ≡ [])
has_or_none [] = inr refl
has_or_none (Text bytes ∷ ms) = has_or_none ms
has_or_none (Pdu pdu ∷ ms) = inl tt
has_or_none (Packet named ∷ ms) = by (has_or_none ms)
  where
    by : HasPdu ms ⊎ (pdus (seen from_server ms) ≡ [])
        → HasPdu ms ⊎ (pdus (seen from_server (Packet named ∷ ms)) ≡ [])
    by (inl has) = inl has
    by (inr none) = inr (packet_came named (seen from_server ms) ∙ none)

-- an out proxy keeps order, and its number
module _ (n : ℕ) (p : Passage OutProxy) (law : KeepsOrder n p)
    (number : p.role.config.number ≡ n) where
  put_seen : put_items n p.put ≡ seen to_client (of_leg (client_leg n) p.put)
  put_seen =
      leg_items to_client (client_leg n) (λ (log : List OnLeg). put_items n log) refl
      (λ one log. refl) p.put

  came_seen : came_log p.came n ≡ seen from_server (of_leg (server_leg n) p.came)
  came_seen =
      leg_items from_server (server_leg n) (λ (log : List OnLeg). came_log log n) refl
      (λ one log. refl) p.came

  pub is_channel : IsChannel (seen to_client (of_leg (client_leg n) p.put))
  is_channel = subst IsChannel put_seen law.channel

  passed : pdus (put_items n p.put) ++ p.role.line.current.pdus
      ≡ pdus (seen from_server (of_leg (server_leg n) p.came))
  passed =
      subst (λ (k : ℕ). pdus (put_items n p.put) ++ p.role.line.current.pdus
      ≡ pdus (below (came_log p.came) k ++ came_log p.came k)) number law.shelved.holds.all
      ∙ ap (λ (items : List Item). pdus (items ++ came_log p.came n))
      (below_empty (came_log p.came) n law.unused)
      ∙ ap pdus came_seen

  pub pdu_came : HasPdu (of_leg (client_leg n) p.put) → HasPdu (of_leg (server_leg n) p.came)
  pdu_came has = by (has_or_none (of_leg (server_leg n) p.came))
    where
      by : HasPdu (of_leg (server_leg n) p.came)
          ⊎ (pdus (seen from_server (of_leg (server_leg n) p.came)) ≡ [])
          → HasPdu (of_leg (server_leg n) p.came)
      by (inl came) = came
      by (inr none) =
          absurd (has_pieces (of_leg (client_leg n) p.put) has
          (sym (ap pdus put_seen)
          ∙ nil_front (pdus (put_items n p.put)) p.role.line.current.pdus (passed ∙ none)))

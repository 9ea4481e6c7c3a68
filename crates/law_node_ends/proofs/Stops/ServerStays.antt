-- each function of a server but close leaves alone whether it was told to close
use Rattle.law_order.proofs.Vocabulary.{◌≡◌, ℕ, Some, None, rules, refl, ◌∙◌, IfSome, Option}
use Rattle.rh_sig.specs.declared.named.Named.TheVariants as named
use Rattle.law_moves.proofs.Vocabulary.{by_test, Named, LegKind, ClientOut, OutServer, ClientIn, InServer, Count, Message}
use Rattle.law_role_server.proofs.Vocabulary.{InLeg, Server, in_leg, is_closing, is_open, out_place, without_in, without_out, drawn_by, in_is_drawn, lost_in, mark_by, settled, with_ack_dropped, Pick, next_out, or_else, put_by, put_in, put_open, put_out_at, put_out_greeting, put_pdu_or_end, put_waiting, settled_pick, rules as server_rules, acts as server_acts, on_is, on_os, packet_by}
use Rattle.law_node_ends.proofs.Stops.Stays.{Said, StaysSaid}

abbrev pub said : Server → Said
said s = record { closing = is_closing s.giving }

abbrev Same : Server → Server → Type 0
Same s t = said t ≡ said s

on_is_same : (s : Server) (n : ℕ) (count : Count) (packet : Named)
    → Same s (on_is s n count packet).0
on_is_same s n count (named.ConnB2 v1 v2 v3 v4 v5 v6 v7 v8) = search rules
on_is_same s n count (named.InR1A2 v1 v2 v3 v4 v5 v6) = search rules
on_is_same s n count (named.InR1A6 v1) = search rules
on_is_same s n count (named.InR2A2 v1) = search rules
on_is_same s n count (named.AckTo v1 v2 v3 v4) = search rules
on_is_same s n count (named.OutR1A8 v1 v2) = search rules
on_is_same s n count named.EndA2 = search rules
on_is_same s n count packet = refl

on_os_same : (s : Server) (n : ℕ) (count : Count) (packet : Named)
    → Same s (on_os s n count packet).0
on_os_same s n count packet = search rules

settled_same : (s : Server) → Same s (settled s)
settled_same s = search rules

-- ---- puts

abbrev IsSame : Server → Pick → Type 0
IsSame s pick = IfSome pick (λ (put : Server × Message). Same s put.0)

or_same : (s : Server) (a b : Pick) → IsSame s a → IsSame s b → IsSame s (or_else a b)
or_same s None b first later = later
or_same s (Some pick) b first later = first

settled_pick_same : (s : Server) (pick : Pick) → IsSame s pick → IsSame s (settled_pick pick)
settled_pick_same s None h = tt
settled_pick_same s (Some (t, message)) h = settled_same t ∙ h

put_in_same : (s : Server) (n : ℕ) → IsSame s (put_in s n)
put_in_same s n = search rules

waiting_same : (s : Server) (place : ℕ) → IsSame s (put_waiting s place)
waiting_same s place = search rules

pdu_or_end_same : (s : Server) (place : ℕ) → IsSame s (put_pdu_or_end s place)
pdu_or_end_same s place = search rules

put_open_same : (s : Server) (place : ℕ) → IsSame s (put_open s place)
put_open_same s place =
    by_test (IsSame s) (is_open s.stage) (settled_pick (next_out s place)) None
    (λ e. settled_pick_same s (next_out s place)
    (or_same s (put_waiting s place) (put_pdu_or_end s place) (waiting_same s place)
    (pdu_or_end_same s place)))
    (λ e. tt)

put_out_same : (s : Server) (place : Option ℕ) → IsSame s (put_out_at s place)
put_out_same s None = tt
put_out_same s (Some place) =
    or_same s (put_out_greeting s place) (put_open s place) (search rules)
    (put_open_same s place)

-- ---- legs that are drawn and lost

lost_same : (s : Server) (n : ℕ) (leg : Option InLeg) → Same s (lost_in s n leg)
lost_same s n leg = search rules

-- ---- on a leg of any kind

module _ (s : Server) (n : ℕ) where
  packet_same : (count : Count) (packet : Named) (kind : LegKind)
      → Same s (packet_by s n count packet kind).0
  packet_same count packet InServer = on_is_same s n count packet
  packet_same count packet OutServer = on_os_same s n count packet
  packet_same count packet ClientIn = refl
  packet_same count packet ClientOut = refl

  put_same : (kind : LegKind) → IsSame s (put_by s n kind)
  put_same InServer = put_in_same s n
  put_same OutServer = put_out_same s (out_place n s.outs)
  put_same ClientIn = tt
  put_same ClientOut = tt

  drawn_same : (kind : LegKind) → Same s (drawn_by s n kind)
  drawn_same InServer =
      by_test (Same s) (in_is_drawn (in_leg n s.ins)) (settled (without_in s n)) s
      (λ e. settled_same (without_in s n)) (λ e. refl)
  drawn_same OutServer = refl
  drawn_same ClientIn = refl
  drawn_same ClientOut = refl

  mark_same : (kind : LegKind) → Same s (mark_by s n kind)
  mark_same InServer =
      let t = lost_in s n (in_leg n s.ins) in
      settled_same t ∙ lost_same s n (in_leg n s.ins)
  mark_same OutServer = settled_same (without_out (with_ack_dropped s n) n)
  mark_same ClientIn = refl
  mark_same ClientOut = refl

pub server_stays : StaysSaid server_rules server_acts said
server_stays = record {
  up = λ s leg cookie. search rules;
  head = λ s leg text. refl;
  pdu = λ s leg count bytes. search rules;
  packet = λ s leg count named. packet_same s leg.number count named leg.kind;
  put = λ s leg. put_same s leg.number leg.kind;
  drawn = λ s leg. drawn_same s leg.number leg.kind;
  mark = λ s leg. mark_same s leg.number leg.kind;
  ping = λ s leg. refl;
  give = λ s pdu h. search (rules, h);
  take = λ s. search rules;
  close = λ s. refl;
  recycle = λ s. search rules;
}

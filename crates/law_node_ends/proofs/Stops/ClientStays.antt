-- each function of a client but close leaves alone whether it was told to close
use Rattle.law_order.proofs.Vocabulary.{◌≡◌, ℕ, Bool, ◌&&◌, ◌||◌, ◌==◌, Some, None, rules, refl, ◌∙◌, IfSome, if◌then◌else◌, Option}
use Rattle.rh_sig.specs.declared.named.Named.TheVariants as named
use Rattle.law_moves.proofs.Vocabulary.{Ack, by_test, Cookie, Named, LegKind, ClientOut, OutServer, ClientIn, InServer, Which, Current, Next, Count, Message}
use Rattle.law_role_client.proofs.Vocabulary.{Opening, NotUp, Request, First, Second, Put, ClientRole, Done, is_current, is_in_successor, is_out_successor, is_writing, is_open, taken, unexpected, is_named, ack_due, ack_named, on_ack_to, Pick, ack_by, or_else, put_ack, put_ack_of, put_by, put_conn_b1, put_current, put_due, put_end, put_in, put_in_r1_a1, put_in_successor, put_next, put_out, put_out_successor, put_pdu, put_ping, put_successor_ping, put_writing, settled_or_wished}
use Rattle.law_role_client.proofs.Vocabulary.{settled_pick, rules as client_rules, acts as client_acts, on_packet, packet_by}
use Rattle.law_node_ends.proofs.Stops.Stays.{Said, StaysSaid}

abbrev pub said : ClientRole → Said
said s = record { closing = s.is_closing }

abbrev Same : ClientRole → ClientRole → Type 0
Same s t = said t ≡ said s

-- ---- rows

-- of two answers
either : (s : ClientRole) (b : Bool) (x y : Done) → Same s x.0 → Same s y.0
    → Same s (if b then x else y).0
either s b x y then_so else_so =
    by_test (λ (f : Done). Same s f.0) b x y (λ e. then_so) (λ e. else_so)

ack_to_same : (s : ClientRole) (to received available : ℕ) (of : Cookie)
    → Same s (on_ack_to s to received available of).0
ack_to_same s to received available of =
    either s (is_open s.phase && to == 0) (ack_named s received available of) (unexpected s)
    (either s (is_named s.writing of) _ _ refl
    (either s (is_named s.in_successor of) _ _ refl
    (either s (is_named s.leaving of) _ (taken s) refl refl)))
    refl

on_packet_same : (s : ClientRole) (n : ℕ) (count : Count) (packet : Named)
    → Same s (on_packet s n count packet).0
on_packet_same s n count (named.ConnA3 v1) = search rules
on_packet_same s n count (named.ConnC2 v1 v2 v3) = search rules
on_packet_same s n count (named.AckTo v1 v2 v3 v4) = ack_to_same s v1 v2 v3 v4
on_packet_same s n count (named.InR1A4 v1 v2 v3 v4) = search rules
on_packet_same s n count (named.InR2A4 v1) = search rules
on_packet_same s n count (named.OutR1A2 v1) = search rules
on_packet_same s n count (named.OutR1A6 v1 v2 v3) = search rules
on_packet_same s n count named.OutR1A10 = search rules
on_packet_same s n count named.EndB2 = search rules
on_packet_same s n count packet = refl

-- ---- puts

abbrev IsSame : ClientRole → Pick → Type 0
IsSame s pick = IfSome pick (λ (put : ClientRole × Message). Same s put.0)

or_same : (s : ClientRole) (a b : Pick) → IsSame s a → IsSame s b → IsSame s (or_else a b)
or_same s None b first later = later
or_same s (Some pick) b first later = first

wished_same : (s : ClientRole) → Same s (settled_or_wished s)
wished_same s = search rules

settled_pick_same : (s : ClientRole) (pick : Pick) → IsSame s pick → IsSame s (settled_pick pick)
settled_pick_same s None h = tt
settled_pick_same s (Some (t, message)) h = wished_same t ∙ h

put_out_same : (s : ClientRole) (n : ℕ) → IsSame s (put_out s n)
unfolding put_out put_current put_out_successor
put_out_same s n = search rules

put_due_same : (s : ClientRole) → IsSame s (put_due s)
unfolding put_due
put_due_same s = search rules

ack_same : (s : ClientRole) (which : Which) (ack : Option Ack) → IsSame s (ack_by s which ack)
ack_same s which ack = search rules

put_ack_same : (s : ClientRole) → IsSame s (put_ack s)
unfolding put_ack put_ack_of
put_ack_same s =
    or_same s (ack_by s Current (ack_due s Current)) _ (ack_same s Current (ack_due s Current))
    (ack_same s Next (ack_due s Next))

put_pdu_same : (s : ClientRole) → IsSame s (put_pdu s)
unfolding put_pdu
put_pdu_same s = search rules

put_end_same : (s : ClientRole) → IsSame s (put_end s)
unfolding put_end
put_end_same s = search rules

put_ping_same : (s : ClientRole) → IsSame s (put_ping s)
unfolding put_ping
put_ping_same s = search rules

put_next_same : (s : ClientRole) → IsSame s (put_next s)
unfolding put_next
put_next_same s =
    or_same s (put_due s) _ (put_due_same s)
    (or_same s (put_ack s) _ (put_ack_same s)
    (or_same s (put_pdu s) _ (put_pdu_same s)
    (or_same s (put_end s) (put_ping s) (put_end_same s) (put_ping_same s))))

put_writing_same : (s : ClientRole) (opening : Opening) → IsSame s (put_writing s opening)
unfolding put_writing put_conn_b1
put_writing_same s NotUp = tt
put_writing_same s Request = refl
put_writing_same s First = search rules
put_writing_same s Second = tt
put_writing_same s Put = put_next_same s

put_in_successor_same : (s : ClientRole) (opening : Opening)
    → IsSame s (put_in_successor s opening)
unfolding put_in_successor put_in_r1_a1 put_successor_ping
put_in_successor_same s opening = search rules

put_in_same : (s : ClientRole) (n : ℕ) → IsSame s (put_in s n)
unfolding put_in
put_in_same s n =
    by_test (IsSame s) (is_writing s n) (put_writing s s.writing.opening) _
    (λ e. put_writing_same s s.writing.opening)
    (λ e. by_test (IsSame s) (is_in_successor s n)
    (put_in_successor s s.in_successor.opening) None
    (λ o. put_in_successor_same s s.in_successor.opening) (λ o. tt))

-- ---- on a leg of any kind

module _ (s : ClientRole) (n : ℕ) where
  packet_same : (count : Count) (packet : Named) (kind : LegKind)
      → Same s (packet_by s n count packet kind).0
  packet_same count packet ClientOut =
      either s (is_current s n || is_out_successor s n) (on_packet s n count packet)
      (unexpected s) (on_packet_same s n count packet) refl
  packet_same count packet OutServer = refl
  packet_same count packet ClientIn = refl
  packet_same count packet InServer = refl

  put_same : (kind : LegKind) → IsSame s (put_by s n kind)
  unfolding put_by
  put_same ClientOut = put_out_same s n
  put_same ClientIn = put_in_same s n
  put_same OutServer = tt
  put_same InServer = tt

pub client_stays : StaysSaid client_rules client_acts said
client_stays = record {
  up = λ s leg cookie. search rules;
  head = λ s leg text. refl;
  pdu = λ s leg count bytes. search rules;
  packet = λ s leg count named. packet_same s leg.number count named leg.kind;
  put = λ s leg.
      settled_pick_same s (put_by s leg.number leg.kind) (put_same s leg.number leg.kind);
  drawn = λ s leg. search rules;
  mark = λ s leg. refl;
  ping = λ s leg. search rules;
  give = λ s pdu h. search (rules, h);
  take = λ s. search rules;
  close = λ s. refl;
  recycle = λ s. search rules;
}

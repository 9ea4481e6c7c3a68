-- a client writes in turn, whatever moves it makes
use Rattle.law_order.proofs.Vocabulary.{◌≡◌, ℕ, ◌+◌, ◌==◌, nat_le, true, false, List, [], ◌∷◌, ◌++◌, length, Ok, Err, refl, sym, ◌∙◌, false≢true, Result}
use Rattle.law_moves.proofs.Vocabulary.{by_test, checked, pdu_fault, PduFault, Cookie, ClientConfig, after_take, total, queue_bytes, LegKind, ClientOut, OutServer, ClientIn, InServer, Closing, Full, Pdu, Packet, OnLeg, EndMove}
use Rattle.law_moves.proofs.Lemmas.{StepsKeep, ActsKeep, end_moves_keep}
use Rattle.law_role_client.proofs.Vocabulary.{ClientRole, in_up, out_up, first, is_writing, is_in_successor, is_current, with_next, up_by, Given, give, give_pdu, drawn_by, ping_by, acts, pdu_by, packet_by, rules as client_rules, client_moved, client_started}
use Rattle.law_role_client_rows.proofs.InTurn.Facts.{view, Holds, starts}
use Rattle.law_role_client_rows.proofs.InTurn.Changes.{So, recycle_so, passed_so}
use Rattle.law_role_client_rows.proofs.InTurn.Rows.{row_so, pdu_so, packet_so}
use Rattle.law_role_client_rows.proofs.InTurn.Putting.{puts}
use Rattle.law_role_client_rows.specs.InTurn.Turns.{WritesInTurn}

module _ (put : List OnLeg) (s : ClientRole) (h : So put s) where
  up_so : (n : ℕ) (cookie : Cookie) (kind : LegKind) → So put (up_by s n cookie kind)
  up_so n cookie ClientOut =
      by_test (So put) (is_current s n) (record s { current = out_up s.current cookie })
      (record s {
        out_successor = out_up s.out_successor cookie;
        line = with_next s.line;
      }) (λ e. h) (λ e. h)
  up_so n cookie ClientIn =
      by_test (So put) (is_writing s n) (record s { writing = in_up s.writing cookie })
      (record s { in_successor = in_up s.in_successor cookie }) (λ e. h) (λ e. h)
  up_so n cookie OutServer = h
  up_so n cookie InServer = h

  drawn_so : (n : ℕ) (kind : LegKind) → So put (drawn_by s n kind)
  drawn_so n ClientIn =
      by_test (So put) (n == s.leaving.number) _ s (λ e. h) (λ e. h)
  drawn_so n ClientOut = h
  drawn_so n OutServer = h
  drawn_so n InServer = h

  ping_so : (n : ℕ) (kind : LegKind) → So put (ping_by s n kind)
  ping_so n ClientIn =
      by_test (So put) (is_writing s n)
      (record s { writing = record (s.writing) { is_ping_due = true } }) _ (λ e. h)
      (λ e. by_test (So put) (is_in_successor s n)
      (record s { in_successor = record (s.in_successor) { is_ping_due = true } }) s
      (λ f. h) (λ f. h))
  ping_so n ClientOut = h
  ping_so n OutServer = h
  ping_so n InServer = h

  -- behind END/A1 no PDU is accepted
  give_so : (pdu : List ℕ) → So put (give s pdu).0
  give_so pdu =
      by_test (λ (x : Given). So put x.0) s.is_closing (s, Err Closing)
      (give_pdu s pdu (checked (pdu_fault pdu))) (λ e. h)
      (λ e. by e (checked (pdu_fault pdu)))
    where
      by : s.is_closing ≡ false → (x : Result (Unit {0}) PduFault)
          → So put (give_pdu s pdu x).0
      by e (Err fault) = h
      by e (Ok valid) =
          by_test (λ (x : Given). So put x.0) (nat_le (total s.queue + length pdu) queue_bytes)
          (record s { queue = s.queue ++ pdu ∷ [] }, Ok tt)
          (s, Err (Full (total s.queue) (length pdu)))
          (λ f. record {
            stand = h.stand;
            writing = h.writing;
            ended = h.ended;
            over = λ o. absurd (false≢true (sym e ∙ (h.over o).0));
            next = h.next;
            fresh = h.fresh;
          })
          (λ f. h)

  close_so : So put (record s { is_closing = true })
  close_so = record {
    stand = h.stand;
    writing = h.writing;
    ended = h.ended;
    over = λ o. (refl, (h.over o).1);
    next = h.next;
    fresh = h.fresh;
  }

steps : StepsKeep client_rules Holds
steps = record {
  up = λ s leg cookie came put h. up_so put s h leg.number cookie leg.kind;
  head = λ s leg text came put h. h;
  pdu = λ s leg count bytes came put h.
      row_so (leg, Pdu bytes) came put (pdu_by s leg.number bytes leg.kind)
      (pdu_so put s h leg.number bytes leg.kind);
  packet = λ s leg count packet came put h.
      row_so (leg, Packet packet) came put (packet_by s leg.number count packet leg.kind)
      (packet_so put s h leg.number count packet leg.kind);
  put = λ s leg came put h. puts came put s h leg.number leg.kind;
  drawn = λ s leg came put h. drawn_so put s h leg.number leg.kind;
  mark = λ s leg came put h. h;
  ping = λ s leg came put h. ping_so put s h leg.number leg.kind;
}

calls : ActsKeep acts Holds
calls = record {
  give = λ s bytes came put h. give_so put s h bytes;
  take = λ s came put h. passed_so put (record s { line = after_take s.line }) h;
  close = λ s came put h. close_so put s h;
  recycle = λ s came put h. recycle_so put s s.replacement h;
}

pub in_turn : (config : ClientConfig) (moves : List EndMove)
    → WritesInTurn (client_moved config moves).passage.put
in_turn config moves =
    (end_moves_keep client_rules Holds steps acts calls (client_started config) moves
    (starts (view (first config)) refl refl refl)).stand

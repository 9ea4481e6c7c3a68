-- which OUT channels a client acknowledges, whatever happens to it
use Rattle.law_order.proofs.Vocabulary.{◌≡◌, ℕ, ◌+◌, ◌==◌, ◌&&◌, ◌||◌, nat_le, Bool, true, false, not, List, [], length, Ok, Err, inl, inr, refl, ◌∙◌, subst, ◌∷◌, ◌++◌, and_parts, false≢true, true≢false, Result}
use Rattle.law_moves.proofs.Vocabulary.{by_test, same_number, checked, pdu_fault, PduFault, Cookie, ClientConfig, after_take, total, queue_bytes, Leg, LegKind, ClientOut, OutServer, ClientIn, InServer, Closing, Full, Pdu, Packet, Message, OnLeg, EndMove, of_kind, HasComeUp}
use Rattle.law_moves.proofs.Lemmas.{RowKeeps}
use Rattle.law_role_client.proofs.Vocabulary.{ClientRole, in_up, is_up, out_up, is_out, Done, co, first, is_writing, is_in_successor, is_current, is_out_successor, with_next, up_by, wants_by, Given, give, give_pdu, drawn_by, ping_by, acts, pdu_by, packet_by, rules as client_rules, AreAllowedMoves, client_moved, client_started}
use Rattle.law_role_client.proofs.Sending.Steps.{StepsKeep, end_moves_keep}
use Rattle.law_peers_room.proofs.InRoom.Known.{So, passed_so, recycle_so}
use Rattle.law_peers_room.proofs.InRoom.ClientRows.{pdu_so, packet_so}
use Rattle.law_peers_room.proofs.InRoom.ClientPuts.{Holds, puts}
use Rattle.law_peers_room.specs.InRoom.Acks.{AcksFrom}

module _ (Comes : Leg → Cookie → Type 0) where
  row_holds : (one : OnLeg) (came put : List OnLeg) (x : Done)
      → So Comes (of_kind ClientIn put) x.0 → RowKeeps (Holds Comes) one came put x
  row_holds one came put (t, Ok done) h = h
  row_holds one came put (t, Err refused) h = h

  module _ (ms : List Message) (s : ClientRole) (h : So Comes ms s) where
    abbrev S : ClientRole → Type 0
    S t = So Comes ms t

    successor_is : (n : ℕ) → is_current s n ≡ false → wants_by s n ClientOut ≡ true
        → is_out_successor s n ≡ true
    successor_is n e may =
        by (is_current s n) (not (is_up s.current.opening)) (is_out_successor s n)
        (not (is_up s.out_successor.opening)) e may
      where
        by : (a b c d : Bool) → a ≡ false → ((a && b) || (c && d)) ≡ true → c ≡ true
        by true b c d f g = absurd (true≢false f)
        by false b c d f g = (and_parts c d g).0

    up_so : (n : ℕ) (cookie : Cookie) (kind : LegKind) → wants_by s n kind ≡ true
        → Comes (record { kind = kind; number = n }) cookie → S (up_by s n cookie kind)
    up_so n cookie ClientOut may comes =
        by_test S (is_current s n) (record s { current = out_up s.current cookie })
        (record s {
          out_successor = out_up s.out_successor cookie;
          line = with_next s.line;
        })
        (λ e. record {
          current = inr (subst (λ (k : ℕ). Comes (co k) cookie)
              (same_number n s.current.number e) comes);
          following = h.following;
          next = h.next;
          often = h.often;
          acks = h.acks;
        })
        (λ e. let both = and_parts (is_out s.replacement) (n == s.out_successor.number)
        (successor_is n e may) in record {
          current = h.current;
          following = inr (
            both.0,
            subst (λ (k : ℕ). Comes (co k) cookie)
                (same_number n s.out_successor.number both.1 ∙ h.next both.0) comes,
          );
          next = h.next;
          often = h.often;
          acks = h.acks;
        })
    up_so n cookie ClientIn may comes =
        by_test S (is_writing s n) (record s { writing = in_up s.writing cookie })
        (record s { in_successor = in_up s.in_successor cookie }) (λ e. h) (λ e. h)
    up_so n cookie OutServer may comes = h
    up_so n cookie InServer may comes = h

    drawn_so : (n : ℕ) (kind : LegKind) → S (drawn_by s n kind)
    drawn_so n ClientIn = by_test S (n == s.leaving.number) _ s (λ e. h) (λ e. h)
    drawn_so n ClientOut = h
    drawn_so n OutServer = h
    drawn_so n InServer = h

    ping_so : (n : ℕ) (kind : LegKind) → S (ping_by s n kind)
    ping_so n ClientIn =
        by_test S (is_writing s n)
        (record s { writing = record (s.writing) { is_ping_due = true } }) _ (λ e. h)
        (λ e. by_test S (is_in_successor s n)
        (record s { in_successor = record (s.in_successor) { is_ping_due = true } }) s
        (λ f. h) (λ f. h))
    ping_so n ClientOut = h
    ping_so n OutServer = h
    ping_so n InServer = h

    give_so : (pdu : List ℕ) → S (give s pdu).0
    give_so pdu =
        by_test (λ (x : Given). S x.0) s.is_closing (s, Err Closing)
        (give_pdu s pdu (checked (pdu_fault pdu))) (λ e. h) (λ e. by (checked (pdu_fault pdu)))
      where
        by : (x : Result (Unit {0}) PduFault) → S (give_pdu s pdu x).0
        by (Err fault) = h
        by (Ok valid) =
            by_test (λ (x : Given). S x.0) (nat_le (total s.queue + length pdu) queue_bytes)
            (record s { queue = s.queue ++ pdu ∷ [] }, Ok tt)
            (s, Err (Full (total s.queue) (length pdu))) (λ f. h) (λ f. h)

  steps : StepsKeep client_rules acts Comes (Holds Comes)
  steps = record {
    up = λ s leg cookie may comes came put h.
        up_so (of_kind ClientIn put) s h leg.number cookie leg.kind may comes;
    head = λ s leg text came put h. h;
    pdu = λ s leg count bytes came put h.
        row_holds (leg, Pdu bytes) came put (pdu_by s leg.number bytes leg.kind)
        (pdu_so Comes s (of_kind ClientIn put) h leg.number bytes leg.kind);
    packet = λ s leg count packet came put h.
        row_holds (leg, Packet packet) came put (packet_by s leg.number count packet leg.kind)
        (packet_so Comes s (of_kind ClientIn put) h leg.number count packet leg.kind);
    put = λ s leg came put h. puts Comes came put s h leg.number leg.kind;
    drawn = λ s leg came put h. drawn_so (of_kind ClientIn put) s h leg.number leg.kind;
    mark = λ s leg came put h. h;
    ping = λ s leg came put h. ping_so (of_kind ClientIn put) s h leg.number leg.kind;
    give = λ s bytes came put h. give_so (of_kind ClientIn put) s h bytes;
    take = λ s came put h.
        passed_so Comes (of_kind ClientIn put) (record s { line = after_take s.line }) h;
    close = λ s came put h. h;
    recycle = λ s came put h.
        recycle_so Comes (of_kind ClientIn put) s s.replacement refl h;
  }

  starts : (config : ClientConfig) → Holds Comes (first config) [] []
  starts config = record {
    current = inl refl;
    following = inl refl;
    next = λ e. absurd (false≢true e);
    often = refl;
    acks = tt;
  }

pub acks_near : (config : ClientConfig) (moves : List EndMove) → AreAllowedMoves config moves
    → AcksFrom (HasComeUp moves) 0 (of_kind ClientIn (client_moved config moves).passage.put)
acks_near config moves allowed =
    (end_moves_keep client_rules acts (HasComeUp moves) (Holds (HasComeUp moves))
    (steps (HasComeUp moves)) (client_started config) moves allowed
    (λ leg cookie comes. comes) (starts (HasComeUp moves) config)).acks

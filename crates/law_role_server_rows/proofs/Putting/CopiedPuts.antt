-- a server's packets copy what came
use Rattle.law_order.proofs.Vocabulary.{◌≡◌, ℕ, ◌==◌, ◌&&◌, not, List, ◌++◌, [], ◌∷◌, Some, None, Ok, Err, inr, refl, sym, ◌∙◌, subst, and_parts, IfSome, nat_le, slice_get, find, AllByRecursion, Option, Result}
use Rattle.rh_sig.specs.declared.named.Named.TheVariants as named
use Rattle.rh_server.specs.Servers.{pdu_by as pdu_by_kind}
use Rattle.rh_server.specs.declared.state.EndMark.TheVariants as end_mark
use Rattle.rh_server.specs.declared.state.Greeting.TheVariants as greeting
use Rattle.rh_server.specs.declared.state.Tells.TheVariants as tells
use Rattle.rh_server.specs.declared.state.Leaving.TheVariants as leaving
use Rattle.law_moves.proofs.Vocabulary.{Ack, by_test, same_number, pdu_fault, PduFault, Cookie, Named, each_push, after_tell, after_told, due, front_length, queue_bytes, LegKind, ClientOut, OutServer, ClientIn, InServer, Current, Count, Due, GiveRefused, Pdu, Packet, taken, OnLeg, EndMove, end_started, all_end_moved}
use Rattle.law_moves.proofs.Lemmas.{all_append, RowKeeps, PutKeeps, StepsKeep, ActsKeep, end_moves_keep}
use Rattle.law_role_server.proofs.Vocabulary.{Told, Tells, Leaving, InLeg, OutLeg, Gate, lets, length_of, is_ack_of, Server, is_open, is_due, is_shut, is_closing, is_waiting, stays, in_leg, in_place, with_in, without_in, without_out, out_place, out_cookie, Done, in_leg_up, may_up, up_by, give, give_by, settled, in_is_drawn, drawn_by, lost_in, without_ack_of, with_ack_dropped, mark_by, Pick, or_else, put_by, told_by, put_in_greeting, put_tells, put_tells_by, was_current}
use Rattle.law_role_server.proofs.Vocabulary.{put_b1, put_b1_by, ack_due, put_ack, put_ack_by, put_in_by, out_greeting_at, put_out_greeting, gate_at, counts, counts_at, was_put, waiting_by, waiting_at, put_waiting, may_go_at, pdu_by, put_pdu, may_end_at, is_end_due, put_end, put_pdu_or_end, next_out, settled_pick, put_open, put_out_place, put_out_at, acts, first, packet_by, rules as server_rules}
use Rattle.law_role_server.proofs.Each.{each_found, each_without}
use Rattle.law_role_server_rows.proofs.Putting.Each.{number_found, came_last, all_more}
use Rattle.law_role_server_rows.proofs.Putting.Copied.{LegHas, DueCopies, ChannelHas, Fine, fine_more, line_is, legs_are, packets_are, leg_found, leg_set, leg_gone, takes_kept, settles}
use Rattle.law_role_server_rows.proofs.Putting.CopiedRows.{Came, RowHolds, row_any, pdu_row, packet_row, recycle_kept}
use Rattle.law_role_server_rows.specs.Putting.Copying.{leg_at, Copies, CopiesWhatCame}

module _ (size : ℕ) (came : List OnLeg) where
  abbrev Holds : Server → Type 0
  Holds s = Fine size came s

  -- a message that copies what came, and the state behind it
  abbrev pub PickHolds : LegKind → ℕ → Pick → Type 0
  PickHolds kind n None = Unit {0}
  PickHolds kind n (Some pick) =
      Fine size came pick.0 × Copies size came (leg_at kind n, pick.1)

  or_holds : (kind : LegKind) (n : ℕ) (a b : Pick) → PickHolds kind n a → PickHolds kind n b
      → PickHolds kind n (or_else a b)
  or_holds kind n None b here later = later
  or_holds kind n (Some pick) b here later = here

  -- ---- on an is leg

  told_kept : (s : Server) (n : ℕ) → Holds s → Holds (told_by s n)
  told_kept s n h =
      by_test Holds ((n == s.current.leg) && is_shut s.edge)
      (record s { line = after_tell s.line Current; edge = Told }) s
      (λ e. line_is size came (record s { edge = Told }) (after_tell s.line Current) h refl)
      (λ e. h)

  ack_on : (s : Server) (leg : InLeg)
      → IfSome (ack_due s leg) (λ (a : Ack). leg.number ≡ s.current.leg)
  ack_on s leg =
      by_test (λ (found : Option Ack). IfSome found (λ (a : Ack). leg.number ≡ s.current.leg))
      ((leg.number == s.current.leg) && (not s.line.finished && not s.line.current.ended))
      (due s.line Current) None
      (λ e. by (same_number leg.number s.current.leg
      (and_parts (leg.number == s.current.leg) _ e).0) (due s.line Current)) (λ e. tt)
    where
      by : leg.number ≡ s.current.leg → (o : Option Ack)
          → IfSome o (λ (a : Ack). leg.number ≡ s.current.leg)
      by is None = tt
      by is (Some a) = is

  in_puts : (s : Server) (n : ℕ) (leg : Option InLeg) → Holds s → IfSome leg (LegHas came)
      → IfSome leg (λ (x : InLeg). x.number ≡ n) → PickHolds InServer n (put_in_by s leg)
  in_puts s n None h is at = tt
  in_puts s n (Some leg) h is at =
      or_holds InServer n (put_in_greeting s leg) _ greets
      (or_holds InServer n (put_tells s leg) _ (tells_by leg.tells)
      (or_holds InServer n (put_b1 s leg) (put_ack s leg) (b1 leg.leaving)
      (acks (ack_due s leg) (ack_on s leg))))
    where
      greets : PickHolds InServer n (put_in_greeting s leg)
      greets = by_test (PickHolds InServer n) (is_due leg.greeting) _ None
          (λ e. (leg_set size came s (record leg { greeting = greeting.Put }) h is, tt)) (λ e. tt)

      tells_by : (t : Tells) → PickHolds InServer n (put_tells_by s leg t)
      tells_by tells.Nothing = tt
      tells_by tells.ConnB3 = by_test (PickHolds InServer n) (is_open s.stage) _ None
          (λ e. (
            leg_set size came s (record leg { tells = tells.Nothing }) h is,
            (h.window_is, refl),
          )) (λ e. tt)
      tells_by tells.InR1B2 = by_test (PickHolds InServer n) (was_current s leg) _ None
          (λ e. (
            leg_set size came (told_by s leg.number) (record leg { tells = tells.Nothing })
                (told_kept s leg.number h) is,
            h.window_is,
          )) (λ e. tt)

      b1 : (l : Leaving) → PickHolds InServer n (put_b1_by s leg l)
      b1 leaving.Stays = tt
      b1 leaving.InR1B1 =
          (leg_set size came s (record leg { leaving = leaving.Left }) h is, tt)
      b1 leaving.Left = tt
      b1 leaving.Lost = tt

      acks : (found : Option Ack) → IfSome found (λ (a : Ack). leg.number ≡ s.current.leg)
          → PickHolds InServer n (put_ack_by s found)
      acks None on = tt
      acks (Some found) on = (
        line_is size came s (after_told s.line Current found) h refl,
        subst (λ (k : ℕ). ChannelHas came k s.current.cookie) (sym on ∙ at) h.current,
      )

  -- ---- on an os leg

  counts_kept : (s : Server) (place len : ℕ) → Holds s → Holds (counts s place len)
  counts_kept s place len h = by (slice_get s.outs place)
    where
      by : (leg : Option OutLeg) → Holds (counts_at s place len leg)
      by None = h
      by (Some leg) = h

  put_kept : (s : Server) (place : ℕ) (packet : Named) → Holds s
      → Holds (was_put s place packet)
  put_kept s place (named.AckTo v1 v2 v3 v4) h =
      by_test Holds (v1 == 3) s (counts s place 56) (λ e. h) (λ e. counts_kept s place 56 h)
  put_kept s place named.OutR1A9 h = counts_kept s place 24 h
  put_kept s place packet h = counts_kept s place (length_of packet) h

  settles_pick : (kind : LegKind) (n : ℕ) (pick : Pick) → PickHolds kind n pick
      → PickHolds kind n (settled_pick pick)
  settles_pick kind n None q = tt
  settles_pick kind n (Some (t, m)) q = (settles size came t q.0, q.1)

  place_puts : (s : Server) (n : ℕ) (place : ℕ) → Holds s
      → PickHolds OutServer n (put_out_place s place)
  place_puts s n place h =
      or_holds OutServer n (put_out_greeting s place) (put_open s place)
      (greeting_at (slice_get s.outs place))
      (by_test (PickHolds OutServer n) (is_open s.stage) (settled_pick (next_out s place)) None
      (λ e. settles_pick OutServer n (next_out s place)
      (or_holds OutServer n (put_waiting s place) (put_pdu_or_end s place)
      (let_by (gate_at s (slice_get s.outs place)))
      (or_holds OutServer n (put_pdu s place) (put_end s place) (sends (front_length s.queue))
      ends)))
      (λ e. tt))
    where
      greeting_at : (leg : Option OutLeg) → PickHolds OutServer n (out_greeting_at s place leg)
      greeting_at None = tt
      greeting_at (Some leg) = by_test (PickHolds OutServer n) (is_due leg.greeting) _ None
          (λ e. (h, tt)) (λ e. tt)

      found : (gate : Gate) (due : Option Due) → IfSome due (DueCopies size came)
          → PickHolds OutServer n (waiting_by s place ((taken (lets gate) s.waiting).0, due))
      found gate None is = tt
      found gate (Some due) is =
          let left = (taken (lets gate) s.waiting).0 in (
            put_kept (record s { waiting = left }) place due.packet
                (packets_are size came s left h
                (each_without (DueCopies size came) (lets gate) s.waiting.due h.packets)),
            is OutServer n,
          )

      let_by : (gate : Option Gate) → PickHolds OutServer n (waiting_at s place gate)
      let_by None = tt
      let_by (Some gate) = found gate (find (lets gate) s.waiting.due)
          (each_found (DueCopies size came) (lets gate) s.waiting.due h.packets)

      sends : (len : Option ℕ) → PickHolds OutServer n (pdu_by s place len)
      sends None = tt
      sends (Some len) =
          by_test (PickHolds OutServer n) (may_go_at s len (slice_get s.outs place)) _ None
          (λ e. (h, tt)) (λ e. tt)

      ends : PickHolds OutServer n (put_end s place)
      ends =
          by_test (PickHolds OutServer n)
          (is_end_due s && may_end_at s (slice_get s.outs place))
          (Some (record (counts s place 24) { end_mark = end_mark.Put }, Packet named.EndB1)) None
          (λ e. (counts_kept s place 24 h, tt)) (λ e. tt)

  out_puts : (s : Server) (n : ℕ) (place : Option ℕ) → Holds s
      → PickHolds OutServer n (put_out_at s place)
  out_puts s n None h = tt
  out_puts s n (Some place) h = place_puts s n place h

  puts : (s : Server) (n : ℕ) (kind : LegKind) → Holds s → PickHolds kind n (put_by s n kind)
  puts s n InServer h =
      in_puts s n (in_leg n s.ins) h (leg_found size came s n h)
      (number_found n s.ins (in_place n s.ins) refl)
  puts s n OutServer h = out_puts s n (out_place n s.outs) h
  puts s n ClientIn h = tt
  puts s n ClientOut h = tt

  -- ---- legs come up, and are finished

  up_kept : (s : Server) (n : ℕ) (kind : LegKind) → Holds s → Holds (up_by s n kind)
  up_kept s n InServer h =
      legs_are size came s (s.ins ++ in_leg_up n ∷ []) h
      (each_push (LegHas came) s.ins (in_leg_up n) h.legs tt)
  up_kept s n OutServer h = h
  up_kept s n ClientIn h = h
  up_kept s n ClientOut h = h

  drawn_kept : (s : Server) (n : ℕ) (kind : LegKind) → Holds s → Holds (drawn_by s n kind)
  drawn_kept s n InServer h =
      by_test Holds (in_is_drawn (in_leg n s.ins)) (settled (without_in s n)) s
      (λ e. settles size came (without_in s n) (leg_gone size came s n h)) (λ e. h)
  drawn_kept s n OutServer h = h
  drawn_kept s n ClientIn h = h
  drawn_kept s n ClientOut h = h

  dropped_kept : (s : Server) (cookie : Option Cookie) → Holds s
      → Holds (record s { waiting = without_ack_of s.waiting cookie })
  dropped_kept s None h = h
  dropped_kept s (Some cookie) h =
      packets_are size came s (taken (is_ack_of cookie) s.waiting).0 h
      (each_without (DueCopies size came) (is_ack_of cookie) s.waiting.due h.packets)

  lost_kept : (s : Server) (n : ℕ) (leg : Option InLeg) → Holds s → IfSome leg (LegHas came)
      → Holds (lost_in s n leg)
  lost_kept s n None h is = leg_gone size came s n h
  lost_kept s n (Some leg) h is =
      by_test Holds (is_waiting leg.stage && stays leg.leaving)
      (with_in s (record leg { leaving = leaving.Lost })) (without_in s n)
      (λ e. leg_set size came s (record leg { leaving = leaving.Lost }) h is)
      (λ e. leg_gone size came s n h)

  mark_kept : (s : Server) (n : ℕ) (kind : LegKind) → Holds s → Holds (mark_by s n kind)
  mark_kept s n InServer h =
      settles size came (lost_in s n (in_leg n s.ins))
      (lost_kept s n (in_leg n s.ins) h (leg_found size came s n h))
  mark_kept s n OutServer h =
      settles size came (without_out (with_ack_dropped s n) n)
      (dropped_kept s (out_cookie n s.outs) h)
  mark_kept s n ClientIn h = h
  mark_kept s n ClientOut h = h

  give_kept : (s : Server) (bytes : List ℕ) → Holds s → Holds (give s bytes).0
  give_kept s bytes h =
      by_test Gives (is_closing s.giving) _ (give_by s bytes (pdu_fault bytes)) (λ e. h)
      (λ e. by (pdu_fault bytes))
    where
      Gives : Server × Result (Unit {0}) GiveRefused → Type 0
      Gives x = Holds x.0

      by : (fault : Option PduFault) → Gives (give_by s bytes fault)
      by (Some fault) = h
      by None =
          by_test Gives (nat_le _ queue_bytes) _ _ (λ e. h) (λ e. h)

-- ---- with all that was put

pub record Kept (size : ℕ) (s : Server) (came put : List OnLeg) : Type 0 where
  pub fine : Fine size came s
  pub copies : AllByRecursion (Copies size came) put

module _ (size : ℕ) where
  abbrev Facts : Server → List OnLeg → List OnLeg → Type 0
  Facts s came put = Kept size s came put

  by_row : (F G : Type 0) (one : OnLeg) (came put : List OnLeg) (x : Done)
      → RowHolds size came F x → RowHolds size (came ++ one ∷ []) G x → G
      → AllByRecursion (Copies size came) put → RowKeeps Facts one came put x
  by_row F G one came put (t, Ok took) before behind g copies =
      record { fine = behind g; copies = all_more size came one put copies }
  by_row F G one came put (t, Err why) before behind g copies =
      record { fine = before; copies = copies }

  by_put : (n : ℕ) (kind : LegKind) (came put : List OnLeg) (pick : Pick)
      → PickHolds size came kind n pick → AllByRecursion (Copies size came) put
      → PutKeeps Facts (leg_at kind n) came put pick
  by_put n kind came put None is copies = tt
  by_put n kind came put (Some one) is copies = record {
    fine = is.0;
    copies = all_append (Copies size came) put ((leg_at kind n, one.1) ∷ []) copies (is.1, tt);
  }

  pdu_rows : (s : Server) (n : ℕ) (bytes : List ℕ) (kind : LegKind) (came put : List OnLeg)
      → Facts s came put
      → RowKeeps Facts (leg_at kind n, Pdu bytes) came put (pdu_by_kind s n bytes kind)
  pdu_rows s n bytes InServer came put h =
      let one : OnLeg = (leg_at InServer n, Pdu bytes) in
      by_row (Unit {0}) (Unit {0}) one came put (pdu_by_kind s n bytes InServer)
      (row_any size came (Unit {0}) (pdu_by_kind s n bytes InServer)
      (pdu_row size came s n bytes h.fine))
      (row_any size (came ++ one ∷ []) (Unit {0}) (pdu_by_kind s n bytes InServer)
      (pdu_row size (came ++ one ∷ []) s n bytes (fine_more size came one s h.fine)))
      tt h.copies
  pdu_rows s n bytes OutServer came put h = h
  pdu_rows s n bytes ClientIn came put h = h
  pdu_rows s n bytes ClientOut came put h = h

  packet_rows : (s : Server) (n : ℕ) (count : Count) (m : Named) (kind : LegKind)
      (came put : List OnLeg) → Facts s came put
      → RowKeeps Facts (leg_at kind n, Packet m) came put (packet_by s n count m kind)
  packet_rows s n count m kind came put h =
      let one : OnLeg = (leg_at kind n, Packet m) in
      by_row (Came kind n m came) (Came kind n m (came ++ one ∷ [])) one came put
      (packet_by s n count m kind) (packet_row size came s n count m kind h.fine)
      (packet_row size (came ++ one ∷ []) s n count m kind (fine_more size came one s h.fine))
      (came_last kind n m came) h.copies

  steps : StepsKeep server_rules Facts
  steps = record {
    up = λ s leg cookie came put h. record {
      fine = by_test (Fine size came) (may_up s leg) (up_by s leg.number leg.kind) s
          (λ e. up_kept size came s leg.number leg.kind h.fine) (λ e. h.fine);
      copies = h.copies;
    };
    head = λ s leg text came put h. h;
    pdu = λ s leg count bytes. pdu_rows s leg.number bytes leg.kind;
    packet = λ s leg count m. packet_rows s leg.number count m leg.kind;
    put = λ s leg came put h.
        by_put leg.number leg.kind came put (put_by s leg.number leg.kind)
        (puts size came s leg.number leg.kind h.fine) h.copies;
    drawn = λ s leg came put h. record {
      fine = drawn_kept size came s leg.number leg.kind h.fine;
      copies = h.copies;
    };
    mark = λ s leg came put h. record {
      fine = mark_kept size came s leg.number leg.kind h.fine;
      copies = h.copies;
    };
    ping = λ s leg came put h. h;
  }

  calls : ActsKeep acts Facts
  calls = record {
    give = λ s bytes came put h.
        record { fine = give_kept size came s bytes h.fine; copies = h.copies };
    take = λ s came put h.
        record { fine = takes_kept size came s h.fine; copies = h.copies };
    close = λ s came put h. record { fine = h.fine; copies = h.copies };
    recycle = λ s came put h.
        record { fine = recycle_kept size came s h.fine; copies = h.copies };
  }

pub copies_what_came : (window : ℕ) (moves : List EndMove)
    → CopiesWhatCame window
    (all_end_moved server_rules acts (end_started (first window)) moves).passage
copies_what_came window moves =
    (end_moves_keep server_rules (Kept window) (steps window) acts (calls window)
    (end_started (first window)) moves
    (record {
      fine = record {
        window_is = refl;
        staged = tt;
        current = inr refl;
        following = inr refl;
        legs = tt;
        packets = tt;
      };
      copies = tt;
    })).copies

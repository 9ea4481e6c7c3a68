-- a server's other steps leave alone the cookies that it knows, or forget them
use Rattle.law_order.proofs.Vocabulary.{◌≡◌, ℕ, ◌==◌, List, ◌&&◌, Some, None, refl, sym, subst, rules, slice_get, IfSome, AllByRecursion, Option}
use Rattle.rh_sig.specs.declared.named.Named.TheVariants as named
use Rattle.rh_server.specs.Servers.{pdu_by}
use Rattle.rh_server.specs.declared.state.Greeting.TheVariants as greetings
use Rattle.rh_server.specs.declared.state.Leaving.TheVariants as leaving
use Rattle.rh_server.specs.declared.state.Tells.TheVariants as tells
use Rattle.rh_server.specs.declared.state.Stage.TheVariants as stage
use Rattle.law_moves.proofs.Vocabulary.{Ack, by_test, Cookie, Named, each_push, front_length, Leg, LegKind, ClientOut, OutServer, ClientIn, InServer, Due, Message, Pdu, Waiting, taken, OnLeg, EndMove, end_started, all_end_moved}
use Rattle.law_moves.proofs.Lemmas.{PutKeeps, StepsKeep, ActsKeep, end_moves_keep}
use Rattle.law_role_server.proofs.Vocabulary.{InLeg, Leaving, Tells, OutLeg, Gate, lets, length_of, counted, went, Server, is_open, is_due, in_leg, out_place, removed_at, without_in, without_out, may_up_by, out_leg_up, up, up_by, take, asks, wishes, recycle, give, completed, is_complete, settled, in_is_drawn, drawn_by, with_ack_dropped, lost_in, mark_by, Pick, or_else, put_in_greeting, was_current, put_tells_by, put_tells, put_b1_by, put_b1, ack_due, put_ack_by, put_ack}
use Rattle.law_role_server.proofs.Vocabulary.{put_in_by, put_in, out_greeting_at, put_out_greeting, gate_at, counts, counts_at, was_put, waiting_by, waiting_at, put_waiting, may_go_at, went_at, pdu_by as put_pdu_by, put_pdu, is_end_due, may_end_at, put_end, put_pdu_or_end, next_out, settled_pick, put_open, put_out_at, put_by as put_by_kind, first, acts, rules as server_rules}
use Rattle.law_role_server_rows.proofs.Refusing.Places.{all_set, all_removed}
use Rattle.law_role_server_rows.proofs.Refusing.Told.{Seen, seen, OutTold, Known, Fine, row_known, set_known, found_told, packet_row}

same_known : (s t : Server) (came : List OnLeg) → seen t ≡ seen s → Known (seen s) came
    → Known (seen t) came
same_known s t came same h = subst (λ (v : Seen). Known v came) (sym same) h

-- ---- the work is done, or a successor is asked for

settles : (s : Server) (came : List OnLeg) → Known (seen s) came → Known (seen (settled s)) came
settles s came h =
    by_test (λ (t : Server). Known (seen t) came) (wishes (completed s)) (asks (completed s))
    (completed s) (λ e. record { at = done.at; outs = done.outs; replacement = tt }) (λ e. done)
  where
    done : Known (seen (completed s)) came
    done = by_test (λ (t : Server). Known (seen t) came) (is_complete s)
        (record s { stage = stage.Ended }) s
        (λ e. record { at = tt; outs = h.outs; replacement = h.replacement }) (λ e. h)

-- ---- what is put on an is leg

abbrev pub PickSame : Server → Pick → Type 0
PickSame s pick = IfSome pick (λ (one : Server × Message). seen one.0 ≡ seen s)

or_same : (s : Server) (a b : Pick) → PickSame s a → PickSame s b → PickSame s (or_else a b)
or_same s None b p q = q
or_same s (Some pick) b p q = p

tells_same : (s : Server) (leg : InLeg) (what : Tells) → PickSame s (put_tells_by s leg what)
tells_same s leg tells.Nothing = tt
tells_same s leg tells.ConnB3 =
    by_test (PickSame s) (is_open s.stage) _ None (λ e. refl) (λ e. tt)
tells_same s leg tells.InR1B2 =
    by_test (PickSame s) (was_current s leg) _ None (λ e. search rules) (λ e. tt)

b1_same : (s : Server) (leg : InLeg) (how : Leaving) → PickSame s (put_b1_by s leg how)
b1_same s leg leaving.Stays = tt
b1_same s leg leaving.InR1B1 = refl
b1_same s leg leaving.Left = tt
b1_same s leg leaving.Lost = tt

put_ack_same : (s : Server) (o : Option Ack) → PickSame s (put_ack_by s o)
put_ack_same s None = tt
put_ack_same s (Some ack) = refl

pub in_same : (s : Server) (n : ℕ) → PickSame s (put_in s n)
in_same s n = by (in_leg n s.ins)
  where
    by : (o : Option InLeg) → PickSame s (put_in_by s o)
    by None = tt
    by (Some leg) =
        or_same s (put_in_greeting s leg) _
        (by_test (PickSame s) (is_due leg.greeting) _ None (λ e. refl) (λ e. tt))
        (or_same s (put_tells s leg) _ (tells_same s leg leg.tells)
        (or_same s (put_b1 s leg) (put_ack s leg) (b1_same s leg leg.leaving)
        (put_ack_same s (ack_due s leg))))

-- ---- what is put on an os leg

abbrev PickFine : List OnLeg → Pick → Type 0
PickFine came pick = IfSome pick (λ (one : Server × Message). Known (seen one.0) came)

or_fine : (came : List OnLeg) (a b : Pick) → PickFine came a → PickFine came b
    → PickFine came (or_else a b)
or_fine came None b p q = q
or_fine came (Some pick) b p q = p

module _ (s : Server) (came : List OnLeg) (h : Known (seen s) came) where
  greeting_fine : (place : ℕ) (o : Option OutLeg) → slice_get s.outs place ≡ o
      → PickFine came (out_greeting_at s place o)
  greeting_fine place None at = tt
  greeting_fine place (Some x) at =
      by_test (PickFine came) (is_due x.greeting) _ None
      (λ e. set_known (seen s) place (record x { greeting = greetings.Put }) came
      (found_told s place x came at h) h)
      (λ e. tt)

  counts_fine : (place len : ℕ) → Known (seen (counts s place len)) came
  counts_fine place len = by (slice_get s.outs place) refl
    where
      by : (o : Option OutLeg) → slice_get s.outs place ≡ o
          → Known (seen (counts_at s place len o)) came
      by None at = h
      by (Some x) at =
          set_known (seen s) place (counted x len) came (found_told s place x came at h) h

  was_put_fine : (place : ℕ) (packet : Named) → Known (seen (was_put s place packet)) came
  was_put_fine place (named.AckTo to received available cookie) =
      by_test (λ (t : Server). Known (seen t) came) (to == 3) s (counts s place 56) (λ e. h)
      (λ e. counts_fine place 56)
  was_put_fine place named.OutR1A9 =
      let k = counts_fine place 24 in record { at = k.at; outs = k.outs; replacement = tt }
  was_put_fine place packet = counts_fine place (length_of packet)

  end_fine : (place : ℕ) → PickFine came (put_end s place)
  end_fine place =
      by_test (PickFine came) (is_end_due s && may_end_at s (slice_get s.outs place)) _ None
      (λ e.
      let k = counts_fine place 24 in
      record { at = k.at; outs = k.outs; replacement = k.replacement })
      (λ e. tt)

  pdu_fine : (place : ℕ) (len : Option ℕ) → PickFine came (put_pdu_by s place len)
  pdu_fine place None = tt
  pdu_fine place (Some len) =
      by_test (PickFine came) (may_go_at s len (slice_get s.outs place)) _ None
      (λ e. record {
        at = h.at;
        outs = by (slice_get s.outs place) refl;
        replacement = h.replacement;
      }) (λ e. tt)
    where
      by : (o : Option OutLeg) → slice_get s.outs place ≡ o
          → AllByRecursion (OutTold came) (went_at s place len o)
      by None at = h.outs
      by (Some x) at =
          all_set (OutTold came) s.outs place (went x len) (found_told s place x came at h) h.outs

waiting_fine : (s : Server) (came : List OnLeg) (place : ℕ) (x : Waiting × Option Due)
    → Known (seen s) came → PickFine came (waiting_by s place x)
waiting_fine s came place (w, None) h = tt
waiting_fine s came place (w, Some due) h =
    was_put_fine (record s { waiting = w }) came
    (record { at = h.at; outs = h.outs; replacement = h.replacement }) place due.packet

gate_fine : (s : Server) (came : List OnLeg) (place : ℕ) (o : Option Gate)
    → Known (seen s) came → PickFine came (waiting_at s place o)
gate_fine s came place None h = tt
gate_fine s came place (Some gate) h =
    waiting_fine s came place (taken (lets gate) s.waiting) h

settled_fine : (came : List OnLeg) (pick : Pick) → PickFine came pick
    → PickFine came (settled_pick pick)
settled_fine came None h = tt
settled_fine came (Some pick) h = settles pick.0 came h

out_fine : (s : Server) (came : List OnLeg) (place : Option ℕ) → Known (seen s) came
    → PickFine came (put_out_at s place)
out_fine s came None h = tt
out_fine s came (Some place) h =
    or_fine came (put_out_greeting s place) (put_open s place)
    (greeting_fine s came h place (slice_get s.outs place) refl)
    (by_test (PickFine came) (is_open s.stage) (settled_pick (next_out s place)) None
    (λ e. settled_fine came (next_out s place)
    (or_fine came (put_waiting s place) (put_pdu_or_end s place)
    (gate_fine s came place (gate_at s (slice_get s.outs place)) h)
    (or_fine came (put_pdu s place) (put_end s place)
    (pdu_fine s came h place (front_length s.queue)) (end_fine s came h place))))
    (λ e. tt))

put_kept : (s : Server) (n : ℕ) (k : LegKind) (came put : List OnLeg) → Fine s came put
    → PutKeeps Fine (record { kind = k; number = n }) came put (put_by_kind s n k)
put_kept s n InServer came put h = by (put_in s n) (in_same s n)
  where
    by : (pick : Pick) → PickSame s pick
        → PutKeeps Fine (record { kind = InServer; number = n }) came put pick
    by None same = tt
    by (Some one) same = same_known s one.0 came same h
put_kept s n OutServer came put h = by (put_out_at s (out_place n s.outs))
    (out_fine s came (out_place n s.outs) h)
  where
    by : (pick : Pick) → PickFine came pick
        → PutKeeps Fine (record { kind = OutServer; number = n }) came put pick
    by None fine = tt
    by (Some one) fine = fine
put_kept s n ClientIn came put h = tt
put_kept s n ClientOut came put h = tt

-- ---- legs come up, and are lost

up_kept : (s : Server) (leg : Leg) (cookie : Cookie) (came : List OnLeg) → Known (seen s) came
    → Known (seen (up s leg cookie)) came
up_kept s leg cookie came h =
    by_test (λ (t : Server). Known (seen t) came) (may_up_by s leg.number leg.kind)
    (up_by s leg.number leg.kind) s (λ e. by leg.kind) (λ e. h)
  where
    by : (k : LegKind) → Known (seen (up_by s leg.number k)) came
    by InServer = record { at = h.at; outs = h.outs; replacement = h.replacement }
    by OutServer = record {
      at = h.at;
      outs = each_push (OutTold came) s.outs (out_leg_up leg.number) h.outs tt;
      replacement = h.replacement;
    }
    by ClientIn = h
    by ClientOut = h

drawn_kept : (s : Server) (n : ℕ) (k : LegKind) (came : List OnLeg) → Known (seen s) came
    → Known (seen (drawn_by s n k)) came
drawn_kept s n InServer came h =
    by_test (λ (t : Server). Known (seen t) came) (in_is_drawn (in_leg n s.ins))
    (settled (without_in s n)) s
    (λ e. settles (without_in s n) came
    (record { at = h.at; outs = h.outs; replacement = h.replacement })) (λ e. h)
drawn_kept s n OutServer came h = h
drawn_kept s n ClientIn came h = h
drawn_kept s n ClientOut came h = h

pub lost_same : (s : Server) (n : ℕ) (o : Option InLeg) → seen (lost_in s n o) ≡ seen s
lost_same s n o = search rules

gone_kept : (s : Server) (place : Option ℕ) (came : List OnLeg) → Known (seen s) came
    → Known (seen (record s { outs = removed_at s.outs place })) came
gone_kept s None came h = record { at = h.at; outs = h.outs; replacement = h.replacement }
gone_kept s (Some place) came h = record {
  at = h.at;
  outs = all_removed (OutTold came) s.outs place h.outs;
  replacement = h.replacement;
}

mark_kept : (s : Server) (n : ℕ) (k : LegKind) (came : List OnLeg) → Known (seen s) came
    → Known (seen (mark_by s n k)) came
mark_kept s n InServer came h =
    settles (lost_in s n (in_leg n s.ins)) came
    (same_known s (lost_in s n (in_leg n s.ins)) came (lost_same s n (in_leg n s.ins)) h)
mark_kept s n OutServer came h =
    let t : Server = with_ack_dropped s n in
    settles (without_out t n) came
    (gone_kept t (out_place n t.outs) came
    (record { at = h.at; outs = h.outs; replacement = h.replacement }))
mark_kept s n ClientIn came h = h
mark_kept s n ClientOut came h = h

-- ---- the server

pub pdu_same : (s : Server) (n : ℕ) (bytes : List ℕ) (k : LegKind)
    → seen (pdu_by s n bytes k).0 ≡ seen s
pdu_same s n bytes k = search rules

pub give_same : (s : Server) (bytes : List ℕ) → seen (give s bytes).0 ≡ seen s
give_same s bytes = search rules

pub take_same : (s : Server) → seen (take s) ≡ seen s
take_same s = search rules

recycle_kept : (s : Server) (came : List OnLeg) → Known (seen s) came
    → Known (seen (recycle s).0) came
recycle_kept s came h = search rules

steps : StepsKeep server_rules Fine
steps = record {
  up = λ s leg cookie came put h. up_kept s leg cookie came h;
  head = λ s leg text came put h. h;
  pdu = λ s leg count bytes came put h.
      row_known (leg, Pdu bytes) came put (pdu_by s leg.number bytes leg.kind)
      (same_known s (pdu_by s leg.number bytes leg.kind).0 came
      (pdu_same s leg.number bytes leg.kind) h);
  packet = λ s leg count packet came put h.
      packet_row s leg.number count packet leg.kind came put h;
  put = λ s leg came put h. put_kept s leg.number leg.kind came put h;
  drawn = λ s leg came put h. drawn_kept s leg.number leg.kind came h;
  mark = λ s leg came put h. mark_kept s leg.number leg.kind came h;
  ping = λ s leg came put h. h;
}

calls : ActsKeep acts Fine
calls = record {
  give = λ s bytes came put h. same_known s (give s bytes).0 came (give_same s bytes) h;
  take = λ s came put h. same_known s (take s) came (take_same s) h;
  close = λ s came put h. record { at = h.at; outs = h.outs; replacement = h.replacement };
  recycle = λ s came put h. recycle_kept s came h;
}

pub known : (window : ℕ) (moves : List EndMove)
    → let p = (all_end_moved server_rules acts (end_started (first window)) moves).passage in
    Known (seen p.role) p.came
known window moves =
    end_moves_keep server_rules Fine steps acts calls (end_started (first window)) moves
    (record { at = tt; outs = tt; replacement = tt })

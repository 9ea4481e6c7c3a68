-- what a server puts, and what else it does, leaves what its window told to what was put
use Rattle.law_order.proofs.Vocabulary.{◌≡◌, inl, inr, ℕ, ◌+◌, ◌≤◌, ◌==◌, List, [], ◌∷◌, ◌++◌, Bool, true, false, false≢true, ◌&&◌, not, Some, None, arith, refl, sym, ◌∙◌, subst, rules, and_parts, if◌then◌else◌, slice_get, IfSome, AllByRecursion, Option}
use Rattle.rh_sig.specs.declared.named.Named.TheVariants as named
use Rattle.rh_server.specs.Servers.{pdu_by}
use Rattle.rh_server.specs.declared.state.Edge.TheVariants as edges
use Rattle.rh_server.specs.declared.state.EndMark.TheVariants as end_mark
use Rattle.rh_server.specs.declared.state.Leaving.TheVariants as leaving
use Rattle.rh_server.specs.declared.state.Stage.TheVariants as stages
use Rattle.rh_server.specs.declared.state.Tells.TheVariants as tells
use Rattle.law_moves.proofs.Vocabulary.{Ack, by_test, same_number, Cookie, Named, after_tell, due, front_length, Current, Leg, LegKind, ClientOut, OutServer, ClientIn, InServer, Due, Message, Text, Pdu, Packet, same_leg, Waiting, taken, OnLeg, Passage, EndMove, end_started, all_end_moved, of_leg, count_of}
use Rattle.law_moves.proofs.Lemmas.{here_more, last_one_so, leg_more, one_more_so, PutKeeps, StepsKeep, ActsKeep, end_moves_keep}
use Rattle.law_moves.specs.PacketKinds.{opens_server}
use Rattle.law_role_server.proofs.Vocabulary.{InLeg, Leaving, Tells, OutLeg, Gate, lets, Server, in_leg, in_place, is_due, is_open, is_shut, out_place, without_in, without_out, up, asks, wishes, completed, is_complete, settled, in_is_drawn, drawn_by, lost_in, with_ack_dropped, mark_by, take, give, recycle, Pick, or_else, put_in_greeting, told_by, was_current, put_tells_by, put_tells, put_b1_by, put_b1, put_ack_by, put_ack, put_in_by, out_greeting_at, put_out_greeting, gate_at, counts, was_put, waiting_by, waiting_at, put_waiting}
use Rattle.law_role_server.proofs.Vocabulary.{may_go_at, pdu_by as put_pdu_by, put_pdu, is_end_due, may_end_at, put_end, put_pdu_or_end, next_out, settled_pick, put_open, put_out_at, put_by, acts, first, rules as server_rules, leg_at}
use Rattle.law_role_server_rows.proofs.Putting.Each.{number_found}
use Rattle.law_role_server_rows.specs.Putting.Copying.{Copies, CopiesWhatCame}
use Rattle.law_role_edges.specs.Edges.{edge_told}
use Rattle.law_role_edges.specs.OutProxies.{IsToldIn}
use Rattle.law_role_server_edges.proofs.Tells.{Seen, seen, Same, IsTold, Told, Holds, same_told, row_told, at_told, pdu_fine, take_fine, packet_fine}
use Rattle.law_role_server_edges.specs.Windows.{TellsInProxy}

abbrev TellsEdge : ℕ → Named → Type 0
TellsEdge edge m = edge ≤ edge_told m

-- ---- what leaves these alone

same_up : (s : Server) (leg : Leg) (cookie : Cookie) → Same s (up s leg cookie)
same_up s leg cookie = search rules

same_lost : (s : Server) (n : ℕ) (o : Option InLeg) → Same s (lost_in s n o)
same_lost s n o = search rules

same_give : (s : Server) (bytes : List ℕ) → Same s (give s bytes).0
same_give s bytes = search rules

same_recycle : (s : Server) → Same s (recycle s).0
same_recycle s = search rules

same_counts : (s : Server) (place len : ℕ) → Same s (counts s place len)
same_counts s place len = search rules

same_was_put : (s : Server) (place : ℕ) (packet : Named) → Same s (was_put s place packet)
same_was_put s place packet = search rules

-- ---- more is put

told_more : (edge n : ℕ) (put : List OnLeg) (one : OnLeg)
    → IsToldIn edge (of_leg (leg_at InServer n) put)
    → IsToldIn edge (of_leg (leg_at InServer n) (put ++ one ∷ []))
told_more edge n put one h =
    subst (IsToldIn edge) (sym (leg_more (leg_at InServer n) put one))
    (one_more_so (TellsEdge edge) (of_leg (leg_at InServer n) put)
    (of_leg (leg_at InServer n) (one ∷ [])) h)

told_last : (edge n : ℕ) (put : List OnLeg) (m : Named) → edge ≤ edge_told m
    → IsToldIn edge
    (of_leg (leg_at InServer n) (put ++ (leg_at InServer n, Packet m) ∷ []))
told_last edge n put m tells =
    subst (IsToldIn edge) (sym (here_more (leg_at InServer n) put (Packet m)))
    (last_one_so (TellsEdge edge) (of_leg (leg_at InServer n) put) m tells)

module _ (window : ℕ) where
  abbrev Fine : Server → List OnLeg → Type 0
  Fine s put = Told window (seen s) put

  still : (x : Seen) (put : List OnLeg) (one : OnLeg) → Told window x put
      → Told window x (put ++ one ∷ [])
  still x put one h = record { sized = h.sized; told = by h.told; early = h.early }
    where
      by : IsTold window x.line.current.window.told x.leg put
          → IsTold window x.line.current.window.told x.leg (put ++ one ∷ [])
      by (inl low) = inl low
      by (inr told) = inr (told_more x.line.current.window.told x.leg put one told)

  -- ---- the work is done, or a successor is asked for

  settles : (s : Server) (put : List OnLeg) → Fine s put → Fine (settled s) put
  settles s put h =
      by_test (λ (t : Server). Fine t put) (wishes (completed s)) (asks (completed s))
      (completed s) (λ e. record { sized = done.sized; told = done.told; early = done.early })
      (λ e. done)
    where
      done : Fine (completed s) put
      done =
          by_test (λ (t : Server). Fine t put) (is_complete s)
          (record s { stage = stages.Ended }) s
          (λ e. at_told window (seen s) stages.Ended put (λ f. absurd (false≢true f)) h) (λ e. h)

  -- ---- a put

  module _ (s : Server) (leg : Leg) (came put : List OnLeg) (h : Fine s put) where
    abbrev Goes : Pick → Type 0
    Goes pick = PutKeeps (Holds window) leg came put pick

    or_goes : (a b : Pick) → Goes a → Goes b → Goes (or_else a b)
    or_goes None b p q = q
    or_goes (Some pick) b p q = p

    abbrev IsQuiet : Pick → Type 0
    IsQuiet pick = IfSome pick (λ (one : Server × Message). Same s one.0)

    quiet_goes : (pick : Pick) → IsQuiet pick → Goes pick
    quiet_goes None quiet = tt
    quiet_goes (Some one) quiet =
        still (seen one.0) put (leg, one.1) (same_told window s one.0 put quiet h)

    -- ---- on an os leg

    quiet_greeting : (place : ℕ) (o : Option OutLeg) → IsQuiet (out_greeting_at s place o)
    quiet_greeting place None = tt
    quiet_greeting place (Some x) =
        by_test IsQuiet (is_due x.greeting) _ None (λ e. refl) (λ e. tt)

    quiet_found : (place : ℕ) (x : Waiting × Option Due) → IsQuiet (waiting_by s place x)
    quiet_found place (w, None) = tt
    quiet_found place (w, Some due) = same_was_put (record s { waiting = w }) place due.packet

    quiet_waiting : (place : ℕ) (o : Option Gate) → IsQuiet (waiting_at s place o)
    quiet_waiting place None = tt
    quiet_waiting place (Some gate) = quiet_found place (taken (lets gate) s.waiting)

    quiet_pdu : (place : ℕ) (o : Option ℕ) → IsQuiet (put_pdu_by s place o)
    quiet_pdu place None = tt
    quiet_pdu place (Some len) =
        by_test IsQuiet (may_go_at s len (slice_get s.outs place)) _ None (λ e. refl) (λ e. tt)

    quiet_end : (place : ℕ) → IsQuiet (put_end s place)
    quiet_end place =
        by_test IsQuiet (is_end_due s && may_end_at s (slice_get s.outs place)) _ None
        (λ e. same_end) (λ e. tt)
      where
        same_end : Same s (record (counts s place 24) { end_mark = end_mark.Put })
        same_end = same_counts s place 24

    next_goes : (place : ℕ) → Goes (next_out s place)
    next_goes place =
        or_goes (put_waiting s place) (put_pdu_or_end s place)
        (quiet_goes (put_waiting s place)
        (quiet_waiting place (gate_at s (slice_get s.outs place))))
        (or_goes (put_pdu s place) (put_end s place)
        (quiet_goes (put_pdu s place) (quiet_pdu place (front_length s.queue)))
        (quiet_goes (put_end s place) (quiet_end place)))

    settled_goes : (pick : Pick) → Goes pick → Goes (settled_pick pick)
    settled_goes None p = tt
    settled_goes (Some one) p = settles one.0 (put ++ (leg, one.1) ∷ []) p

    out_goes : (o : Option ℕ) → Goes (put_out_at s o)
    out_goes None = tt
    out_goes (Some place) =
        or_goes (put_out_greeting s place) (put_open s place)
        (quiet_goes (put_out_greeting s place)
        (quiet_greeting place (slice_get s.outs place)))
        (by_test Goes (is_open s.stage) (settled_pick (next_out s place)) None
        (λ e. settled_goes (next_out s place) (next_goes place)) (λ e. tt))

  -- ---- on an is leg

  module _ (s : Server) (n : ℕ) (came put : List OnLeg) (h : Fine s put) where
    abbrev GoesIn : Pick → Type 0
    GoesIn pick = PutKeeps (Holds window) (leg_at InServer n) came put pick

    -- IN_R1/B2 tells the window, of the server's size
    told_goes : (number : ℕ) → Fine (told_by s number) put
    told_goes number =
        by_test (λ (t : Server). Fine t put) ((number == s.current.leg) && is_shut s.edge)
        (record s { line = after_tell s.line Current; edge = edges.Told }) s
        (λ e. record {
          sized = record {
            size = h.sized.size;
            now = h.sized.now;
            next = h.sized.next;
            shut = h.sized.shut;
          };
          told = inl (let now = h.sized.now in omega (arith, now));
          early = h.early;
        })
        (λ e. h)

    tells_go : (leg : InLeg) (what : Tells) → GoesIn (put_tells_by s leg what)
    tells_go leg tells.Nothing = tt
    tells_go leg tells.ConnB3 =
        by_test GoesIn (is_open s.stage) _ None (λ e. still (seen s) put _ h) (λ e. tt)
    tells_go leg tells.InR1B2 =
        by_test GoesIn (was_current s leg) _ None
        (λ e. still (seen (told_by s leg.number)) put _ (told_goes leg.number)) (λ e. tt)

    b1_goes : (leg : InLeg) (how : Leaving) → GoesIn (put_b1_by s leg how)
    b1_goes leg leaving.Stays = tt
    b1_goes leg leaving.InR1B1 = still (seen s) put _ h
    b1_goes leg leaving.Left = tt
    b1_goes leg leaving.Lost = tt

    -- an acknowledgement tells all that the window told
    ack_goes : s.current.leg ≡ n → (o : Option Ack) → GoesIn (put_ack_by s o)
    ack_goes is None = tt
    ack_goes is (Some ack) = record {
      sized = record {
        size = h.sized.size;
        now = h.sized.now;
        next = h.sized.next;
        shut = h.sized.shut;
      };
      told = inr (subst (λ (k : ℕ). IsToldIn (ack.received + ack.available)
          (of_leg (leg_at InServer k) (put ++ (leg_at InServer n, m) ∷ []))) (sym is)
          (told_last (ack.received + ack.available) n put
          (named.Ack ack.received ack.available s.current.cookie) (omega arith)));
      early = h.early;
    }
      where
        m : Message
        m = Packet (named.Ack ack.received ack.available s.current.cookie)

    in_goes : (o : Option InLeg) → IfSome o (λ (leg : InLeg). leg.number ≡ n)
        → GoesIn (put_in_by s o)
    in_goes None is = tt
    in_goes (Some leg) is =
        or_goes s (leg_at InServer n) came put h (put_in_greeting s leg) _
        (by_test GoesIn (is_due leg.greeting) _ None (λ e. still (seen s) put _ h) (λ e. tt))
        (or_goes s (leg_at InServer n) came put h (put_tells s leg) _ (tells_go leg leg.tells)
        (or_goes s (leg_at InServer n) came put h (put_b1 s leg) (put_ack s leg)
        (b1_goes leg leg.leaving)
        (by_test (λ (o : Option Ack). GoesIn (put_ack_by s o))
        ((leg.number == s.current.leg)
        && (not s.line.finished && not s.line.current.ended)) (due s.line Current) None
        (λ e. ack_goes
        (sym (same_number leg.number s.current.leg (and_parts (leg.number == s.current.leg) _ e).0)
        ∙ is) (due s.line Current))
        (λ e. tt))))

  put_fine : (s : Server) (n : ℕ) (k : LegKind) (came put : List OnLeg) → Fine s put
      → PutKeeps (Holds window) (leg_at k n) came put (put_by s n k)
  put_fine s n InServer came put h =
      in_goes s n came put h (in_leg n s.ins) (number_found n s.ins (in_place n s.ins) refl)
  put_fine s n OutServer came put h =
      out_goes s (leg_at OutServer n) came put h (out_place n s.outs)
  put_fine s n ClientIn came put h = tt
  put_fine s n ClientOut came put h = tt

  -- ---- legs are drawn and lost

  drawn_fine : (s : Server) (n : ℕ) (k : LegKind) (put : List OnLeg) → Fine s put
      → Fine (drawn_by s n k) put
  drawn_fine s n InServer put h =
      by_test (λ (t : Server). Fine t put) (in_is_drawn (in_leg n s.ins))
      (settled (without_in s n)) s
      (λ e. settles (without_in s n) put
      (record { sized = h.sized; told = h.told; early = h.early })) (λ e. h)
  drawn_fine s n OutServer put h = h
  drawn_fine s n ClientIn put h = h
  drawn_fine s n ClientOut put h = h

  mark_fine : (s : Server) (n : ℕ) (k : LegKind) (put : List OnLeg) → Fine s put
      → Fine (mark_by s n k) put
  mark_fine s n InServer put h =
      settles (lost_in s n (in_leg n s.ins)) put
      (same_told window s (lost_in s n (in_leg n s.ins)) put (same_lost s n (in_leg n s.ins)) h)
  mark_fine s n OutServer put h =
      settles (without_out (with_ack_dropped s n) n) put
      (record { sized = h.sized; told = h.told; early = h.early })
  mark_fine s n ClientIn put h = h
  mark_fine s n ClientOut put h = h

  -- ---- the server

  steps : StepsKeep server_rules (Holds window)
  steps = record {
    up = λ s leg cookie came put. same_told window s (up s leg cookie) put (same_up s leg cookie);
    head = λ s leg text came put h. h;
    pdu = λ s leg count bytes came put h.
        row_told window (leg, Pdu bytes) came put (pdu_by s leg.number bytes leg.kind)
        (pdu_fine window put s leg.number bytes leg.kind h);
    packet = λ s leg count m came put h.
        row_told window (leg, Packet m) came put (server_rules.packet s leg count m)
        (packet_fine window put s leg.number count m leg.kind h);
    put = λ s leg came put h. put_fine s leg.number leg.kind came put h;
    drawn = λ s leg came put h. drawn_fine s leg.number leg.kind put h;
    mark = λ s leg came put h. mark_fine s leg.number leg.kind put h;
    ping = λ s leg came put h. h;
  }

  calls : ActsKeep acts (Holds window)
  calls = record {
    give = λ s bytes came put. same_told window s (give s bytes).0 put (same_give s bytes);
    take = λ s came put h. take_fine window put s h;
    close = λ s came put h. record { sized = h.sized; told = h.told; early = h.early };
    recycle = λ s came put. same_told window s (recycle s).0 put (same_recycle s);
  }

  told_so : (moves : List EndMove)
      → let p = (all_end_moved server_rules acts (end_started (first window)) moves).passage in
      Told window (seen p.role) p.put
  told_so moves =
      end_moves_keep server_rules (Holds window) steps acts calls (end_started (first window)) moves
      (record {
        sized = record { size = refl; now = refl; next = refl; shut = refl };
        told = inl (omega arith);
        early = λ e. (refl, refl);
      })

  -- ---- CONN/B3 and IN_R1/B2 tell the server's window

  opening_told : (came : List OnLeg) (leg : Leg) (edge : ℕ) → edge ≤ window → (put : List OnLeg)
      → AllByRecursion (Copies window came) put → 1 ≤ count_of opens_server (of_leg leg put)
      → IsToldIn edge (of_leg leg put)
  opening_told came leg edge low [] all some = absurd (omega (arith, some))
  opening_told came leg edge low ((other, m) ∷ put) all some =
      by (same_leg other leg) m all.0 (opening_told came leg edge low put all.1) some
    where
      by : (b : Bool) (n : Message) → Copies window came (other, n)
          → (1 ≤ count_of opens_server (of_leg leg put) → IsToldIn edge (of_leg leg put))
          → 1 ≤ count_of opens_server (if b then n ∷ of_leg leg put else of_leg leg put)
          → IsToldIn edge (if b then n ∷ of_leg leg put else of_leg leg put)
      by false n is rest some = rest some
      by true (Text bytes) is rest some = rest some
      by true (Pdu pdu) is rest some = rest some
      by true (Packet (named.ConnB3 size version)) is rest some =
          inl (let same = is.0 in omega (arith, low, same))
      by true (Packet (named.InR1B2 size)) is rest some = inl (omega (arith, low, is))
      by true (Packet packet) is rest some = inr (rest some)

  pub tells_in : (moves : List EndMove)
      → CopiesWhatCame window
      (all_end_moved server_rules acts (end_started (first window)) moves).passage
      → TellsInProxy (all_end_moved server_rules acts (end_started (first window)) moves).passage
  tells_in moves copies some = by (told_so moves).told
    where
      p : Passage Server
      p = (all_end_moved server_rules acts (end_started (first window)) moves).passage

      by : IsTold window p.role.line.current.window.told p.role.current.leg p.put
          → IsToldIn p.role.line.current.window.told
          (of_leg (leg_at InServer p.role.current.leg) p.put)
      by (inl low) =
          opening_told p.came (leg_at InServer p.role.current.leg)
          p.role.line.current.window.told low p.put copies some
      by (inr told) = told

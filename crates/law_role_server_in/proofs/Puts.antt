-- what a server puts keeps what it knows of its is legs
use Rattle.law_order.proofs.Vocabulary.{◌≡◌, ℕ, ◌==◌, ◌&&◌, Bool, true≢false, List, [], ◌∷◌, ◌++◌, Some, None, refl, rules, sym, ap, ◌∙◌, and_parts, IfSome, slice_get, Option}
use Rattle.rh_sig.specs.declared.named.Named.TheVariants as named
use Rattle.rh_server.specs.declared.state.EndMark.TheVariants as end_mark
use Rattle.rh_server.specs.declared.state.Greeting.TheVariants as greetings
use Rattle.rh_server.specs.declared.state.Leaving.TheVariants as leaving
use Rattle.rh_server.specs.declared.state.Stage.TheVariants as stage
use Rattle.rh_server.specs.declared.state.Tells.TheVariants as tells
use Rattle.law_moves.proofs.Vocabulary.{Ack, by_test, Named, after_tell, front_length, LegKind, ClientOut, OutServer, ClientIn, InServer, Current, greeting as greeting_text, Due, Message, Text, Packet, Waiting, taken, count_of, OnLeg}
use Rattle.law_moves.proofs.Lemmas.{PutKeeps}
use Rattle.law_role_server.proofs.Vocabulary.{Told, InLeg, Leaving, OutLeg, Tells, Gate, lets, length_of, Server, is_due, is_open, is_shut, stays, in_leg, in_place, out_place, with_in, wished, completed, is_complete, settled, Pick, or_else, told_by, was_current, put_tells_by, put_tells, put_b1_by, put_b1, ack_due, put_ack_by, put_ack, put_in_by, with_out, out_greeting_at, put_out_greeting, gate_at, counts, was_put, waiting_by, waiting_at, put_waiting, may_go_at, pdu_by}
use Rattle.law_role_server.proofs.Vocabulary.{put_pdu, is_end_due, may_end_at, put_end, put_pdu_or_end, next_out, settled_pick, put_open, put_out_at, put_by as put_by_kind, is_conn_b3, leg_at}
use Rattle.law_role_server_rows.proofs.InTurn.InPuts.{open_begun}
use Rattle.law_role_server_rows.proofs.InTurn.InPlaces.{Found, found_at}
use Rattle.law_role_server_rows.proofs.Putting.Each.{number_found}
use Rattle.law_role_server_in.proofs.Tallies.{Grows, Tally, other_put, put_grows, quiet_put, tally}
use Rattle.law_role_server_in.proofs.Kept.{kept_more, look, open_more, set_kept, so_more, top_of}
use Rattle.law_role_server_in.proofs.Rows.{Fine, leg_same, same_fine}
use Rattle.law_role_server_in.proofs.Takes.{Holds}
use Rattle.law_role_server_in.specs.Refusing.{is_in_r1_b2}

-- ---- on os legs

abbrev pub Alone : Server → Pick → Type 0
Alone s pick = IfSome pick (λ (one : Server × Message). look one.0 ≡ look s)

pub or_alone : (s : Server) (a b : Pick) → Alone s a → Alone s b → Alone s (or_else a b)
or_alone s None b h k = k
or_alone s (Some pick) b h k = h

counts_same : (s : Server) (place len : ℕ) → look (counts s place len) ≡ look s
counts_same s place len = search rules

was_put_same : (s : Server) (place : ℕ) (packet : Named) → look (was_put s place packet) ≡ look s
was_put_same s place named.OutR1A9 = counts_same s place 24
was_put_same s place (named.AckTo to received window cookie) =
    by_test (λ (t : Server). look t ≡ look s) (to == 3) s (counts s place 56) (λ e. refl)
    (λ e. counts_same s place 56)
was_put_same s place packet = counts_same s place (length_of packet)

pub out_alone : (s : Server) (place : ℕ) → Alone s (next_out s place)
out_alone s place =
    or_alone s (put_waiting s place) (put_pdu_or_end s place)
    (waiting (gate_at s (slice_get s.outs place)))
    (or_alone s (put_pdu s place) (put_end s place) (sends (front_length s.queue)) ends)
  where
    goes : (w : Waiting) (o : Option Due) → Alone s (waiting_by s place (w, o))
    goes w None = tt
    goes w (Some due) = was_put_same (record s { waiting = w }) place due.packet

    waiting : (o : Option Gate) → Alone s (waiting_at s place o)
    waiting None = tt
    waiting (Some gate) = goes (taken (lets gate) s.waiting).0 (taken (lets gate) s.waiting).1

    sends : (len : Option ℕ) → Alone s (pdu_by s place len)
    sends None = tt
    sends (Some len) =
        by_test (Alone s) (may_go_at s len (slice_get s.outs place)) _ None (λ e. refl) (λ e. tt)

    ends : Alone s (put_end s place)
    ends =
        by_test (Alone s) (is_end_due s && may_end_at s (slice_get s.outs place))
        (Some (record (counts s place 24) { end_mark = end_mark.Put }, Packet named.EndB1)) None
        (λ e. counts_same s place 24) (λ e. tt)

wished_same : (s : Server) → look (wished s) ≡ look s
wished_same s = search rules

pub settled_same : (s : Server) → look (settled s) ≡ look s
settled_same s = wished_same (completed s) ∙
    by_test (λ (t : Server). look t ≡ look s) (is_complete s)
    (record s { stage = stage.Ended }) s
    (λ e. ap (λ (b : Bool). record (look s) { top = record (top_of s) { begun = b } })
    (open_begun s.stage (and_parts (is_open s.stage) _ e).0))
    (λ e. refl)

module _ (n : ℕ) where
  grows_fine : (s : Server) (c d : Tally) → Grows c d → Fine n s c → Fine n s d
  grows_fine s c d g h = kept_more n (top_of s) s.newest_in s.ins c d g h

  pub settled_fine : (s : Server) (c : Tally) → Fine n s c → Fine n (settled s) c
  settled_fine s c h = same_fine n s (settled s) c (settled_same s) h

  -- ---- on an is leg x, whose number is m

  module _ (s : Server) (m : ℕ) (x : InLeg) (f : Found s.ins x) (number : x.number ≡ m)
      (came put : List OnLeg) (h : Holds n s came put) where
    abbrev InPuts : Pick → Type 0
    InPuts pick = PutKeeps (Holds n) (leg_at InServer m) came put pick

    -- what tells no window
    quiet : (one : Message) → count_of is_conn_b3 (one ∷ []) ≡ 0
        → count_of is_in_r1_b2 (one ∷ []) ≡ 0
        → Holds n s came (put ++ (leg_at InServer m, one) ∷ [])
    quiet one conn_b3 in_r1_b2 =
        grows_fine s (tally n came put) (tally n came (put ++ (leg_at InServer m, one) ∷ []))
        (quiet_put n came put (leg_at InServer m) one conn_b3 in_r1_b2) h

    -- CONN/B3 or IN_R1/B2
    told_put : (one : Message) → (x.tells ≡ tells.Nothing → ⊥)
        → Holds n (with_in s (record x { tells = tells.Nothing })) came
        (put ++ (leg_at InServer m, one) ∷ [])
    told_put one due =
        set_kept n (top_of s) (top_of s) c d s.newest_in s.ins x
        (record x { tells = tells.Nothing }) f refl
        (λ is q. record {
          fresh = q.fresh;
          stale = q.stale;
          waits = q.waits;
          ended = q.ended;
          opened = q.opened;
          untold = λ e. absurd (due (q.untold e).0);
          calm = q.calm;
          current = q.current;
          next = q.next;
          above = q.above;
          cookie = q.cookie;
          positive = q.positive;
        })
        (λ apart w q. so_more n (top_of s) c d w (other apart) q)
        (λ apart. let g = other apart in (g.first, g.told))
        (λ apart o. open_more n (top_of s) c d (other apart).left o)
        (λ apart less a. a)
        (record {
          left = h.tail.left;
          now_over = h.tail.now_over;
          next_over = h.tail.next_over;
          followed = h.tail.followed;
          early = h.tail.early;
          once = h.tail.once;
          none_first = h.tail.none_first;
          began = h.tail.began;
          next_began = h.tail.next_began;
          named = h.tail.named;
          beyond = h.tail.beyond;
          next_named = h.tail.next_named;
        }) h
      where
        c : Tally
        c = tally n came put

        d : Tally
        d = tally n came (put ++ (leg_at InServer m, one) ∷ [])

        other : (n ≡ x.number → ⊥) → Grows c d
        other apart = other_put n m came put one (λ is. apart (is ∙ sym number))

    ack_put : (o : Option Ack) → InPuts (put_ack_by s o)
    ack_put None = tt
    ack_put (Some a) =
        quiet (Packet (named.Ack a.received a.available s.current.cookie)) refl refl

    rest_put : InPuts (or_else (put_b1 s x) (put_ack s x))
    rest_put = by x.leaving refl
      where
        by : (l : Leaving) → x.leaving ≡ l
            → InPuts (or_else (put_b1_by s x l) (put_ack s x))
        by leaving.Stays e = ack_put (ack_due s x)
        by leaving.InR1B1 e =
            leg_same n (tally n came (put ++ (leg_at InServer m, Packet named.InR1B1) ∷ [])) s x
            (record x { leaving = leaving.Left }) f refl refl refl refl
            (λ is q shut. absurd (true≢false (sym (q.calm shut) ∙ ap stays e)))
            (quiet (Packet named.InR1B1) refl refl)
        by leaving.Left e = ack_put (ack_due s x)
        by leaving.Lost e = ack_put (ack_due s x)

    frames_put : InPuts (or_else (put_tells s x) (or_else (put_b1 s x) (put_ack s x)))
    frames_put = by x.tells refl
      where
        rest : Pick
        rest = or_else (put_b1 s x) (put_ack s x)

        conn_b3 : tells.ConnB3 ≡ tells.Nothing → ⊥
        conn_b3 e = cc

        in_r1_b2 : tells.InR1B2 ≡ tells.Nothing → ⊥
        in_r1_b2 e = cc

        by : (t : Tells) → x.tells ≡ t → InPuts (or_else (put_tells_by s x t) rest)
        by tells.Nothing what = rest_put
        by tells.ConnB3 what =
            by_test (λ (pick : Pick). InPuts (or_else pick rest)) (is_open s.stage)
            (Some (
              with_in s (record x { tells = tells.Nothing }),
              Packet (named.ConnB3 s.line.size 1),
            )) None
            (λ e. told_put (Packet (named.ConnB3 s.line.size 1)) (λ g. conn_b3 (sym what ∙ g)))
            (λ e. rest_put)
        by tells.InR1B2 what =
            by_test (λ (pick : Pick). InPuts (or_else pick rest)) (was_current s x)
            (Some (
              with_in (told_by s x.number) (record x { tells = tells.Nothing }),
              Packet (named.InR1B2 s.line.size),
            )) None
            (λ e. by_test (λ (u : Server).
            Holds n (with_in u (record x { tells = tells.Nothing })) came
            (put ++ (leg_at InServer m, Packet (named.InR1B2 s.line.size)) ∷ []))
            ((x.number == s.current.leg) && is_shut s.edge)
            (record s { line = after_tell s.line Current; edge = Told }) s
            (λ g. now) (λ g. now))
            (λ e. rest_put)
          where
            now : Holds n (with_in s (record x { tells = tells.Nothing })) came
                (put ++ (leg_at InServer m, Packet (named.InR1B2 s.line.size)) ∷ [])
            now = told_put (Packet (named.InR1B2 s.line.size)) (λ g. in_r1_b2 (sym what ∙ g))

    leg_puts : InPuts (put_in_by s (Some x))
    leg_puts =
        by_test (λ (pick : Pick). InPuts (or_else pick
        (or_else (put_tells s x) (or_else (put_b1 s x) (put_ack s x)))))
        (is_due x.greeting)
        (Some (with_in s (record x { greeting = greetings.Put }), Text greeting_text)) None
        (λ e. leg_same n (tally n came (put ++ (leg_at InServer m, Text greeting_text) ∷ [])) s x
        (record x { greeting = greetings.Put }) f refl refl refl refl (λ is q shut. q.calm shut)
        (quiet (Text greeting_text) refl refl))
        (λ e. frames_put)

  in_puts : (s : Server) (m : ℕ) (o : Option InLeg) → IfSome o (Found s.ins)
      → IfSome o (λ (x : InLeg). x.number ≡ m) → (came put : List OnLeg)
      → Holds n s came put → PutKeeps (Holds n) (leg_at InServer m) came put (put_in_by s o)
  in_puts s m None f number came put h = tt
  in_puts s m (Some x) f number came put h = leg_puts s m x f number came put h

  -- ---- on os legs

  module _ (s : Server) (m : ℕ) (came put : List OnLeg) (h : Holds n s came put) where
    abbrev OutPuts : Pick → Type 0
    OutPuts pick = PutKeeps (Holds n) (leg_at OutServer m) came put pick

    goes : (t : Server) (one : Message) → look t ≡ look s
        → Holds n t came (put ++ (leg_at OutServer m, one) ∷ [])
    goes t one same =
        same_fine n s t (tally n came (put ++ (leg_at OutServer m, one) ∷ [])) same
        (grows_fine s (tally n came put)
        (tally n came (put ++ (leg_at OutServer m, one) ∷ []))
        (put_grows n came put (leg_at OutServer m, one) refl refl) h)

    or_puts : (a b : Pick) → OutPuts a → OutPuts b → OutPuts (or_else a b)
    or_puts None b p q = q
    or_puts (Some pick) b p q = p

    alone_puts : (pick : Pick) → Alone s pick → OutPuts (settled_pick pick)
    alone_puts None same = tt
    alone_puts (Some one) same = goes (settled one.0) one.1 (settled_same one.0 ∙ same)

    out_puts : (place : Option ℕ) → OutPuts (put_out_at s place)
    out_puts None = tt
    out_puts (Some place) =
        or_puts (put_out_greeting s place) (put_open s place) (greets (slice_get s.outs place))
        (by_test OutPuts (is_open s.stage) (settled_pick (next_out s place)) None
        (λ e. alone_puts (next_out s place) (out_alone s place)) (λ e. tt))
      where
        greets : (o : Option OutLeg) → OutPuts (out_greeting_at s place o)
        greets None = tt
        greets (Some leg) =
            let t : Server = with_out s place (record leg { greeting = greetings.Put }) in
            by_test OutPuts (is_due leg.greeting) (Some (t, Text greeting_text)) None
            (λ e. goes t (Text greeting_text) refl) (λ e. tt)

  pub puts : (s : Server) (m : ℕ) (k : LegKind) (came put : List OnLeg) → Holds n s came put
      → PutKeeps (Holds n) (leg_at k m) came put (put_by_kind s m k)
  puts s m InServer came put h =
      in_puts s m (in_leg m s.ins) (found_at s.ins (in_place m s.ins))
      (number_found m s.ins (in_place m s.ins) refl) came put h
  puts s m OutServer came put h = out_puts s m came put h (out_place m s.outs)
  puts s m ClientIn came put h = tt
  puts s m ClientOut came put h = tt

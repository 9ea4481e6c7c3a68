-- a server is a giver towards the client: its rows leave what order sees of that alone, and its
-- puts and calls are a giver's acts
use Rattle.law_order.proofs.Vocabulary.{◌≡◌, ℕ, suc, get_or, cond, ◌+◌, ◌==◌, ◌&&◌, List, [], ◌∷◌, ◌++◌, Bool, true, false, nat_eq, nat_lt, Some, None, refl, sym, ap, subst, ◌∙◌, rules, arith, find, slice_get, length, nat_le, zero, not, Ok, Err, Option, Result, append_assoc, append-nil, position-Some, fun_ext, Item, Piece, Log, more, Giver, GiverLaw, Giving, Accepts, PutsPdu, PutsEnd, HandsOver, MayGive, gives, given_items, Closes as ClosesGiver}
use Rattle.rh_sig.specs.declared.named.Named.TheVariants as named
use Rattle.rh_shell.specs.declared.end_role.GiveRefused.TheVariants as give_refused
use Rattle.rh_server.specs.declared.state.EndMark.TheVariants as end_mark
use Rattle.rh_server.specs.declared.state.Greeting.TheVariants as greeting
use Rattle.rh_server.specs.declared.state.Tells.TheVariants as tells
use Rattle.rh_server.specs.declared.state.Leaving.TheVariants as leaving
use Rattle.law_moves.proofs.Vocabulary.{may_send, Ack, fits, may_put, by_test, same_number, more_none, giver_step, giver_starts, giver_same, pdu_fault, PduFault, Cookie, Named, queue_bytes, total, behind, front_length, Leg, LegKind, ClientOut, OutServer, ClientIn, InServer, first_of, greeting as greeting_text, Count, Due, GiveRefused, Message, Text, Pdu, Packet, is_of, Waiting, taken, OnLeg, Move, Up, HeadCame, PduCame, PacketCame, Puts, IsDrawn, Marks, Pings, EndPassage}
use Rattle.law_moves.proofs.Vocabulary.{EndMove, Moves, Gives as IsGiven, Takes, Closes, Recycles, put_by, taken_by, given_by, with_first, end_now_at, end_started, end_moved, moved, all_end_moved}
use Rattle.law_role_server.proofs.Vocabulary.{passes, Tells, Leaving, InLeg, OutLeg, lets, lets_packet, Server, is_open, is_closing, is_put, is_confirmed, is_due, is_shut, is_nil, in_leg, with_in, without_in, without_out, out_place, is_waiting, stays, Done, on_conn_a2, on_conn_b2, up, on_ack_to, on_ack, on_ping_traffic, take, on_in_r1_a2, on_in_r1_a6, on_in_r2_a2, recycle, on_out_r1_a4, on_out_r1_a8, handed, last_number, give, give_by, on_end_a2, drawn, drawn_by, in_is_drawn}
use Rattle.law_role_server.proofs.Vocabulary.{lost_in, mark, mark_by, with_ack_dropped, settled, Pick, or_else, put, put_by as put_by_kind, put_in, put_in_by, put_in_greeting, told_by, put_tells, put_tells_by, was_current, put_b1, put_b1_by, put_ack, put_ack_by, ack_due, put_out, put_out_at, put_out_place, put_open, next_out, out_greeting_at, put_out_greeting, put_waiting, waiting_at, waiting_by, was_put, counts, counts_at, gate, gate_at, put_pdu, pdu_by, may_go_at, goes}
use Rattle.law_role_server.proofs.Vocabulary.{put_end, may_end_at, is_end_due, put_pdu_or_end, settled_pick, with_out, rules as server_rules, acts as server_acts, first, on_is, on_os, packet, packet_by, pdu, out_items, items_if, items_on, sent, giver_of}
use Rattle.law_role_server.proofs.Counted.BeforeC1.{no_false as never}

-- ---- logs

items_more : (view : Message → List Item) (kind : LegKind) (messages : List OnLeg) (last : OnLeg)
    (n : ℕ)
    → items_on view kind (messages ++ last ∷ []) n
    ≡ items_on view kind messages n
    ++ items_if (is_of kind last.0 && nat_eq n last.0.number) (view last.1)
items_more view kind [] last n =
    append-nil (items_if (is_of kind last.0 && nat_eq n last.0.number) (view last.1))
items_more view kind (message ∷ messages) last n =
    let items = items_if (is_of kind message.0 && nat_eq n message.0.number) (view message.1) in
    ap (λ xs. items ++ xs) (items_more view kind messages last n)
    ∙ sym (append_assoc items (items_on view kind messages n)
    (items_if (is_of kind last.0 && nat_eq n last.0.number) (view last.1)))

-- a message on a leg of the kind is on that leg's log
pub log_more : (view : Message → List Item) (kind : LegKind) (messages : List OnLeg) (last : OnLeg)
    → is_of kind last.0 ≡ true
    → ◌≡◌ {A = Log} (λ n. items_on view kind (messages ++ last ∷ []) n)
    (more last.0.number (view last.1) (λ n. items_on view kind messages n))
log_more view kind messages last is = fun_ext (λ n. items_more view kind messages last n ∙ by n
    (is_of kind last.0) (nat_eq n last.0.number) is)
  where
    by : (n : ℕ) (a b : Bool) → a ≡ true
        → items_on view kind messages n ++ items_if (a && b) (view last.1)
        ≡ cond b (items_on view kind messages n ++ view last.1) (items_on view kind messages n)
    by n true true e = refl
    by n true false e = append-nil (items_on view kind messages n)
    by n false b e = absurd (cc)

-- and on no log of another kind
pub log_other : (view : Message → List Item) (kind : LegKind) (messages : List OnLeg) (last : OnLeg)
    → is_of kind last.0 ≡ false
    → ◌≡◌ {A = Log} (λ n. items_on view kind (messages ++ last ∷ []) n)
    (λ n. items_on view kind messages n)
log_other view kind messages last is = fun_ext (λ n. items_more view kind messages last n ∙ by n
    (is_of kind last.0) (nat_eq n last.0.number) is)
  where
    by : (n : ℕ) (a b : Bool) → a ≡ false
        → items_on view kind messages n ++ items_if (a && b) (view last.1)
        ≡ items_on view kind messages n
    by n false b e = append-nil (items_on view kind messages n)
    by n true b e = absurd (cc)

-- ---- what leaves the giver alone

-- two states that are one giver
abbrev Same : Server → Server → Type 0
Same s t = giver_of [] t ≡ giver_of [] s

same_up : (s : Server) (leg : Leg) (cookie : Cookie) → Same s (up s leg cookie)
same_up s leg cookie = search rules

same_on_conn_a2 : (s : Server) (n : ℕ) (count : Count) (a b : Cookie) (c d : ℕ) → Same s
    (on_conn_a2 s n count a b c d).0
same_on_conn_a2 s n count a b c d = search rules

same_on_conn_b2 : (s : Server) (n : ℕ) (count : Count) (a b : Cookie) (c d : ℕ) → Same s
    (on_conn_b2 s n count a b c d).0
same_on_conn_b2 s n count a b c d = search rules

same_on_in_r1_a2 : (s : Server) (n : ℕ) (count : Count) (a b c : Cookie) (d f : ℕ) → Same s
    (on_in_r1_a2 s n count a b c d f).0
same_on_in_r1_a2 s n count a b c d f = search rules

same_on_in_r1_a6 : (s : Server) (n : ℕ) (a : Cookie) → Same s (on_in_r1_a6 s n a).0
same_on_in_r1_a6 s n a = search rules

same_on_in_r2_a2 : (s : Server) (n : ℕ) (count : Count) (a : Cookie) → Same s
    (on_in_r2_a2 s n count a).0
same_on_in_r2_a2 s n count a = search rules

same_on_ack_to : (s : Server) (count : Count) (a b c : ℕ) (d : Cookie) → Same s
    (on_ack_to s count a b c d).0
same_on_ack_to s count a b c d = search rules

same_on_out_r1_a8 : (s : Server) (count : Count) (a : ℕ) (b : Cookie) → Same s
    (on_out_r1_a8 s count a b).0
same_on_out_r1_a8 s count a b = search rules

same_on_end_a2 : (s : Server) (n : ℕ) (count : Count) → Same s (on_end_a2 s n count).0
same_on_end_a2 s n count = search rules

same_on_out_r1_a4 : (s : Server) (n : ℕ) (count : Count) (a b c : Cookie) (d f g : ℕ) → Same s
    (on_out_r1_a4 s n count a b c d f g).0
same_on_out_r1_a4 s n count a b c d f g = search rules

same_on_ack : (s : Server) (n : ℕ) (count : Count) (a b : ℕ) (c : Cookie) → Same s
    (on_ack s n count a b c).0
same_on_ack s n count a b c = search rules

same_on_ping_traffic : (s : Server) (count : Count) → Same s (on_ping_traffic s count).0
same_on_ping_traffic s count = search rules

same_on_is : (s : Server) (n : ℕ) (count : Count) (packet : Named) → Same s
    (on_is s n count packet).0
same_on_is s n count (named.ConnA1 v1 v2 v3 v4) = refl
same_on_is s n count (named.ConnA2 v1 v2 v3 v4 v5) = refl
same_on_is s n count (named.ConnA3 v1) = refl
same_on_is s n count (named.ConnB1 v1 v2 v3 v4 v5 v6) = refl
same_on_is s n count (named.ConnB2 v1 v2 v3 v4 v5 v6 v7 v8) = same_on_conn_b2 s n count v2 v3 v4 v5
same_on_is s n count (named.ConnB3 v1 v2) = refl
same_on_is s n count (named.ConnC1 v1 v2 v3) = refl
same_on_is s n count (named.ConnC2 v1 v2 v3) = refl
same_on_is s n count (named.InR1A1 v1 v2 v3 v4) = refl
same_on_is s n count (named.InR1A2 v1 v2 v3 v4 v5 v6) = same_on_in_r1_a2 s n count v2 v3 v4 v5 v6
same_on_is s n count (named.InR1A3 v1 v2 v3 v4) = refl
same_on_is s n count (named.InR1A4 v1 v2 v3 v4) = refl
same_on_is s n count (named.InR1A5 v1) = refl
same_on_is s n count (named.InR1A6 v1) = same_on_in_r1_a6 s n v1
same_on_is s n count named.InR1B1 = refl
same_on_is s n count (named.InR1B2 v1) = refl
same_on_is s n count (named.InR2A2 v1) = same_on_in_r2_a2 s n count v1
same_on_is s n count (named.InR2A3 v1) = refl
same_on_is s n count (named.InR2A4 v1) = refl
same_on_is s n count (named.OutR1A1 v1) = refl
same_on_is s n count (named.OutR1A2 v1) = refl
same_on_is s n count (named.OutR1A3 v1 v2 v3 v4 v5) = refl
same_on_is s n count named.OutR2C1 = refl
same_on_is s n count (named.OutR1A4 v1 v2 v3 v4 v5 v6 v7) = refl
same_on_is s n count (named.OutR1A5 v1 v2 v3) = refl
same_on_is s n count (named.OutR1A6 v1 v2 v3) = refl
same_on_is s n count (named.OutR1A7 v1 v2) = refl
same_on_is s n count (named.OutR1A8 v1 v2) = same_on_out_r1_a8 s count v1 v2
same_on_is s n count named.OutR1A9 = refl
same_on_is s n count named.OutR1A10 = refl
same_on_is s n count named.EndA1 = refl
same_on_is s n count named.EndA2 = same_on_end_a2 s n count
same_on_is s n count named.EndB1 = refl
same_on_is s n count named.EndB2 = refl
same_on_is s n count (named.Ack v1 v2 v3) = refl
same_on_is s n count (named.AckTo v1 v2 v3 v4) = same_on_ack_to s count v1 v2 v3 v4
same_on_is s n count (named.KeepAlive v1) = refl
same_on_is s n count (named.PingTraffic v1) = refl
same_on_is s n count named.Ping = refl

same_on_os : (s : Server) (n : ℕ) (count : Count) (packet : Named) → Same s
    (on_os s n count packet).0
same_on_os s n count (named.ConnA1 v1 v2 v3 v4) = refl
same_on_os s n count (named.ConnA2 v1 v2 v3 v4 v5) = same_on_conn_a2 s n count v2 v3 v4 v5
same_on_os s n count (named.ConnA3 v1) = refl
same_on_os s n count (named.ConnB1 v1 v2 v3 v4 v5 v6) = refl
same_on_os s n count (named.ConnB2 v1 v2 v3 v4 v5 v6 v7 v8) = refl
same_on_os s n count (named.ConnB3 v1 v2) = refl
same_on_os s n count (named.ConnC1 v1 v2 v3) = refl
same_on_os s n count (named.ConnC2 v1 v2 v3) = refl
same_on_os s n count (named.InR1A1 v1 v2 v3 v4) = refl
same_on_os s n count (named.InR1A2 v1 v2 v3 v4 v5 v6) = refl
same_on_os s n count (named.InR1A3 v1 v2 v3 v4) = refl
same_on_os s n count (named.InR1A4 v1 v2 v3 v4) = refl
same_on_os s n count (named.InR1A5 v1) = refl
same_on_os s n count (named.InR1A6 v1) = refl
same_on_os s n count named.InR1B1 = refl
same_on_os s n count (named.InR1B2 v1) = refl
same_on_os s n count (named.InR2A2 v1) = refl
same_on_os s n count (named.InR2A3 v1) = refl
same_on_os s n count (named.InR2A4 v1) = refl
same_on_os s n count (named.OutR1A1 v1) = refl
same_on_os s n count (named.OutR1A2 v1) = refl
same_on_os s n count (named.OutR1A3 v1 v2 v3 v4 v5) = refl
same_on_os s n count named.OutR2C1 = refl
same_on_os s n count
    (named.OutR1A4 v1 v2 v3 v4 v5 v6 v7) = same_on_out_r1_a4 s n count v2 v3 v4 v5 v6 v7
same_on_os s n count (named.OutR1A5 v1 v2 v3) = refl
same_on_os s n count (named.OutR1A6 v1 v2 v3) = refl
same_on_os s n count (named.OutR1A7 v1 v2) = refl
same_on_os s n count (named.OutR1A8 v1 v2) = refl
same_on_os s n count named.OutR1A9 = refl
same_on_os s n count named.OutR1A10 = refl
same_on_os s n count named.EndA1 = refl
same_on_os s n count named.EndA2 = refl
same_on_os s n count named.EndB1 = refl
same_on_os s n count named.EndB2 = refl
same_on_os s n count (named.Ack v1 v2 v3) = same_on_ack s n count v1 v2 v3
same_on_os s n count (named.AckTo v1 v2 v3 v4) = refl
same_on_os s n count (named.KeepAlive v1) = refl
same_on_os s n count (named.PingTraffic v1) = same_on_ping_traffic s count
same_on_os s n count named.Ping = refl

same_packet : (s : Server) (leg : Leg) (count : Count) (named : Named) → Same s
    (packet s leg count named).0
same_packet s leg count named = by leg.kind
  where
    by : (kind : LegKind) → Same s (packet_by s leg.number count named kind).0
    by InServer = same_on_is s leg.number count named
    by OutServer = same_on_os s leg.number count named
    by ClientIn = refl
    by ClientOut = refl

same_pdu : (s : Server) (leg : Leg) (count : Count) (bytes : List ℕ) → Same s
    (pdu s leg count bytes).0
same_pdu s leg count bytes = search rules

same_settled : (s : Server) → Same s (settled s)
same_settled s = search rules

same_take : (s : Server) → Same s (take s)
same_take s = search rules

same_recycle : (s : Server) → Same s (recycle s).0
same_recycle s = search rules

same_drawn : (s : Server) (leg : Leg) → Same s (drawn s leg)
same_drawn s leg = by leg.kind
  where
    by : (kind : LegKind) → Same s (drawn_by s leg.number kind)
    by InServer =
        by_test (Same s) (in_is_drawn (in_leg leg.number s.ins)) (settled
        (without_in s leg.number)) s
        (λ h. same_settled (without_in s leg.number)) (λ h. refl)
    by OutServer = refl
    by ClientIn = refl
    by ClientOut = refl

same_mark : (s : Server) (leg : Leg) → Same s (mark s leg)
same_mark s leg = by leg.kind
  where
    lost : (kept : Option InLeg) → Same s (settled (lost_in s leg.number kept))
    lost None = same_settled (without_in s leg.number)
    lost (Some one) =
        by_test (λ (t : Server). Same s (settled t)) (is_waiting one.stage && stays one.leaving)
        (with_in s (record one { leaving = leaving.Lost })) (without_in s leg.number)
        (λ h. same_settled (with_in s (record one { leaving = leaving.Lost })))
        (λ h. same_settled (without_in s leg.number))

    by : (kind : LegKind) → Same s (mark_by s leg.number kind)
    by InServer = lost (in_leg leg.number s.ins)
    by OutServer = same_settled (without_out (with_ack_dropped s leg.number) leg.number)
    by ClientIn = refl
    by ClientOut = refl

-- ---- the law

abbrev pub Gives : EndPassage Server → Type 0
Gives p = GiverLaw (giver_of p.given p.passage.role) (sent p)

abbrev os : ℕ → Leg
os n = record { kind = OutServer; number = n }

abbrev is_ : ℕ → Leg
is_ n = record { kind = InServer; number = n }

abbrev puts_on : EndPassage Server → ℕ → Server → Message → EndPassage Server
puts_on p n t m = record p {
  passage = record p.passage { role = t; put = p.passage.put ++ (os n, m) ∷ [] };
}

-- where order sees nothing of it, the law stays
quietly : (p : EndPassage Server) (t : Server) (came : List OnLeg) (taken : List (List ℕ))
    → Same p.passage.role t → Gives p
    → Gives (record {
      passage = record { role = t; came = came; put = p.passage.put };
      given = p.given;
      taken = taken;
    })
quietly p t came taken same law =
    giver_same (giver_of p.given p.passage.role) (giver_of p.given t) (sent p)
    (ap (λ (g : Giver). record g { given = p.given }) same) law

quiet : (p : EndPassage Server) (n : ℕ) (t : Server) (m : Message) → Same p.passage.role t
    → out_items m ≡ [] → Gives p → Gives (puts_on p n t m)
quiet p n t m same none law =
    subst (GiverLaw (giver_of p.given t))
    (sym (log_more out_items OutServer p.passage.put (os n, m) refl
    ∙ ap (λ items. more n items (sent p)) none ∙ more_none n (sent p)))
    (quietly p t [] [] same law)

act : (p : EndPassage Server) (n : ℕ) (t : Server) (m : Message) (a : Giving)
    → n ≡ p.passage.role.writing → giver_of p.given t ≡ gives (giver_of p.given p.passage.role) a
    → out_items m ≡ given_items a → MayGive (giver_of p.given p.passage.role) a → Gives p
    → Gives (puts_on p n t m)
act p n t m a is new items may law =
    let g = giver_of p.given p.passage.role in
    subst (GiverLaw (giver_of p.given t))
    (sym (log_more out_items OutServer p.passage.put (os n, m) refl
    ∙ ap (λ xs. more n xs (sent p)) items ∙ ap (λ k. more k (given_items a) (sent p)) is))
    (giver_same (gives g a) (giver_of p.given t) (more g.writing (given_items a) (sent p)) new
    (giver_step g (sent p) a law may))

pub both : (a b : Bool) → a && b ≡ true → (a ≡ true) × (b ≡ true)
both true true e = (refl, refl)
both true false e = absurd (cc)
both false b e = absurd (cc)

pub negated : (a : Bool) → not a ≡ true → a ≡ false
negated true e = absurd (cc)
negated false e = refl

-- ---- what is put on an os leg

abbrev PutLaw : EndPassage Server → ℕ → Pick → Type 0
PutLaw p n pick = Gives p → Gives (record p { passage = put_by p.passage (os n) pick })

or_law : (p : EndPassage Server) (n : ℕ) (a b : Pick) → PutLaw p n a → PutLaw p n b
    → PutLaw p n (or_else a b)
or_law p n None b first later = later
or_law p n (Some pick) b first later = first

settle_law : (p : EndPassage Server) (n : ℕ) (pick : Pick) → PutLaw p n pick
    → PutLaw p n (settled_pick pick)
settle_law p n None puts = puts
settle_law p n (Some (t, m)) puts =
    λ law. quietly (puts_on p n t m) (settled t) p.passage.came p.taken (same_settled t) (puts law)

abbrev waits_now : EndPassage Server → Waiting → Server
waits_now p w = record p.passage.role { waiting = w }

counts_same : (s : Server) (place len : ℕ) → Same s (counts s place len)
counts_same s place len = by (slice_get s.outs place)
  where
    by : (leg : Option OutLeg) → Same s (counts_at s place len leg)
    by None = refl
    by (Some leg) = refl

next_number : (n : ℕ) → n + 1 ≡ suc n
next_number n = omega arith

handed_law : (given : List (List ℕ)) (s t : Server) → Same s t
    → giver_of given (handed t) ≡ gives (giver_of given s) HandsOver
handed_law given s t same =
    ap (λ (n : ℕ). record {
      given = given;
      queue = t.queue;
      closing = is_closing t.giving;
      writing = n;
      end_put = false;
    }) (next_number t.writing)
    ∙ ap (λ (g : Giver). gives (record g { given = given }) HandsOver) same

packet_law : (p : EndPassage Server) (n : ℕ) (w : Waiting) (place : ℕ) (leg : OutLeg)
    → leg.number ≡ n → (packet : Named) → lets_packet (gate p.passage.role leg) packet ≡ true
    → Gives p → Gives (puts_on p n (was_put (waits_now p w) place packet) (Packet packet))
packet_law p n w place leg is (named.ConnA1 v1 v2 v3 v4) e law =
    absurd (never (leg.number == p.passage.role.writing) e)
packet_law p n w place leg is (named.ConnA2 v1 v2 v3 v4 v5) e law =
    absurd (never (leg.number == p.passage.role.writing) e)
packet_law p n w place leg is (named.ConnA3 v1) e law =
    absurd (never (leg.number == p.passage.role.writing) e)
packet_law p n w place leg is (named.ConnB1 v1 v2 v3 v4 v5 v6) e law =
    absurd (never (leg.number == p.passage.role.writing) e)
packet_law p n w place leg is (named.ConnB2 v1 v2 v3 v4 v5 v6 v7 v8) e law =
    absurd (never (leg.number == p.passage.role.writing) e)
packet_law p n w place leg is (named.ConnB3 v1 v2) e law =
    absurd (never (leg.number == p.passage.role.writing) e)
packet_law p n w place leg is (named.ConnC1 v1 v2 v3) e law =
    quiet p n (counts (waits_now p w) place 44) (Packet (named.ConnC1 v1 v2 v3))
    (counts_same (waits_now p w) place 44) refl law
packet_law p n w place leg is (named.ConnC2 v1 v2 v3) e law =
    absurd (never (leg.number == p.passage.role.writing) e)
packet_law p n w place leg is (named.InR1A1 v1 v2 v3 v4) e law =
    absurd (never (leg.number == p.passage.role.writing) e)
packet_law p n w place leg is (named.InR1A2 v1 v2 v3 v4 v5 v6) e law =
    absurd (never (leg.number == p.passage.role.writing) e)
packet_law p n w place leg is (named.InR1A3 v1 v2 v3 v4) e law =
    quiet p n (counts (waits_now p w) place 52) (Packet (named.InR1A3 v1 v2 v3 v4))
    (counts_same (waits_now p w) place 52) refl law
packet_law p n w place leg is (named.InR1A4 v1 v2 v3 v4) e law =
    absurd (never (leg.number == p.passage.role.writing) e)
packet_law p n w place leg is (named.InR1A5 v1) e law =
    absurd (never (leg.number == p.passage.role.writing) e)
packet_law p n w place leg is (named.InR1A6 v1) e law =
    absurd (never (leg.number == p.passage.role.writing) e)
packet_law p n w place leg is named.InR1B1 e law =
    absurd (never (leg.number == p.passage.role.writing) e)
packet_law p n w place leg is (named.InR1B2 v1) e law =
    absurd (never (leg.number == p.passage.role.writing) e)
packet_law p n w place leg is (named.InR2A2 v1) e law =
    absurd (never (leg.number == p.passage.role.writing) e)
packet_law p n w place leg is (named.InR2A3 v1) e law =
    quiet p n (counts (waits_now p w) place 28) (Packet (named.InR2A3 v1))
    (counts_same (waits_now p w) place 28) refl law
packet_law p n w place leg is (named.InR2A4 v1) e law =
    absurd (never (leg.number == p.passage.role.writing) e)
packet_law p n w place leg is (named.OutR1A1 v1) e law =
    quiet p n (counts (waits_now p w) place 28) (Packet (named.OutR1A1 v1))
    (counts_same (waits_now p w) place 28) refl law
packet_law p n w place leg is (named.OutR1A2 v1) e law =
    absurd (never (leg.number == p.passage.role.writing) e)
packet_law p n w place leg is (named.OutR1A3 v1 v2 v3 v4 v5) e law =
    absurd (never (leg.number == p.passage.role.writing) e)
packet_law p n w place leg is named.OutR2C1 e law =
    absurd (never (leg.number == p.passage.role.writing) e)
packet_law p n w place leg is (named.OutR1A4 v1 v2 v3 v4 v5 v6 v7) e law =
    absurd (never (leg.number == p.passage.role.writing) e)
packet_law p n w place leg is (named.OutR1A5 v1 v2 v3) e law =
    quiet p n (counts (waits_now p w) place 44) (Packet (named.OutR1A5 v1 v2 v3))
    (counts_same (waits_now p w) place 44) refl law
packet_law p n w place leg is (named.OutR1A6 v1 v2 v3) e law =
    absurd (never (leg.number == p.passage.role.writing) e)
packet_law p n w place leg is (named.OutR1A7 v1 v2) e law =
    absurd (never (leg.number == p.passage.role.writing) e)
packet_law p n w place leg is (named.OutR1A8 v1 v2) e law =
    absurd (never (leg.number == p.passage.role.writing) e)
packet_law p n w place leg is named.OutR1A9 e law =
    act p n (handed (counts (waits_now p w) place 24)) (Packet named.OutR1A9) HandsOver
    (sym is ∙ same_number leg.number p.passage.role.writing (both
    (leg.number == p.passage.role.writing)
    ((is_confirmed p.passage.role.replacement && nat_lt p.passage.role.writing last_number)
    && fits leg.meter 24) e).0)
    (handed_law p.given p.passage.role (counts (waits_now p w) place 24)
    (counts_same (waits_now p w) place 24))
    refl tt law
packet_law p n w place leg is named.OutR1A10 e law =
    absurd (never (leg.number == p.passage.role.writing) e)
packet_law p n w place leg is named.EndA1 e law =
    absurd (never (leg.number == p.passage.role.writing) e)
packet_law p n w place leg is named.EndA2 e law =
    absurd (never (leg.number == p.passage.role.writing) e)
packet_law p n w place leg is named.EndB1 e law =
    absurd (never (leg.number == p.passage.role.writing) e)
packet_law p n w place leg is named.EndB2 e law =
    absurd (never (leg.number == p.passage.role.writing) e)
packet_law p n w place leg is (named.Ack v1 v2 v3) e law =
    absurd (never (leg.number == p.passage.role.writing) e)
packet_law p n w place leg is (named.AckTo v1 v2 v3 v4) e law =
    by_test (λ (t : Server). Gives (puts_on p n t (Packet (named.AckTo v1 v2 v3 v4)))) (v1 == 3)
    (waits_now p w) (counts (waits_now p w) place 56)
    (λ h. quiet p n (waits_now p w) (Packet (named.AckTo v1 v2 v3 v4)) refl refl law)
    (λ h. quiet p n (counts (waits_now p w) place 56) (Packet (named.AckTo v1 v2 v3 v4))
    (counts_same (waits_now p w) place 56) refl law)
packet_law p n w place leg is (named.KeepAlive v1) e law =
    absurd (never (leg.number == p.passage.role.writing) e)
packet_law p n w place leg is (named.PingTraffic v1) e law =
    absurd (never (leg.number == p.passage.role.writing) e)
packet_law p n w place leg is named.Ping e law =
    absurd (never (leg.number == p.passage.role.writing) e)

-- the leg that was found has the number
abbrev the_leg : OutLeg → Option OutLeg → OutLeg
the_leg leg None = leg
the_leg leg (Some other) = other

got_leg : (legs : List OutLeg) (place : ℕ) (leg : OutLeg) → slice_get legs place ≡ Some leg
    → get_or legs place leg ≡ leg
got_leg [] place leg e = absurd (cc)
got_leg (first ∷ legs) zero leg e = ap (the_leg first) e
got_leg (first ∷ legs) (suc place) leg e = got_leg legs place leg e

pub found : (n : ℕ) (legs : List OutLeg) (place : ℕ) (leg : OutLeg) → out_place n legs ≡ Some place
    → slice_get legs place ≡ Some leg → leg.number ≡ n
found n legs place leg e there =
    let at = position-Some (λ (l : OutLeg). l.number == n) legs place leg e in
    same_number leg.number n
    (subst (λ (l : OutLeg). l.number == n ≡ true) (got_leg legs place leg there) at.1)

module _ (p : EndPassage Server) (n place : ℕ)
    (at : out_place n p.passage.role.outs ≡ Some place) where
  abbrev s : Server
  s = p.passage.role

  number : (leg : OutLeg) → slice_get s.outs place ≡ Some leg → leg.number ≡ n
  number leg there = found n s.outs place leg at there

  greeting_law : PutLaw p n (put_out_greeting s place)
  greeting_law = by (slice_get s.outs place)
    where
      by : (leg : Option OutLeg) → PutLaw p n (out_greeting_at s place leg)
      by None = λ law. law
      by (Some leg) =
          by_test (PutLaw p n) (is_due leg.greeting)
          (Some (
            with_out s place
                (record leg { greeting = greeting.Put }),
            Text greeting_text,
          )) None
          (λ h. quiet p n (with_out s place (record leg { greeting = greeting.Put }))
          (Text greeting_text) refl refl)
          (λ h law. law)

  waiting_law : PutLaw p n (put_waiting s place)
  waiting_law = by (slice_get s.outs place) refl
    where
      let_go : (leg : OutLeg) → leg.number ≡ n → (found : Option Due)
          → find (lets (gate s leg)) s.waiting.due ≡ found
          → PutLaw p n (waiting_by s place ((taken (lets (gate s leg)) s.waiting).0, found))
      let_go leg is None e = λ law. law
      let_go leg is (Some due) e =
          packet_law p n (taken (lets (gate s leg)) s.waiting).0 place leg is due.packet
          (passes (lets (gate s leg)) s.waiting.due due e)

      by : (leg : Option OutLeg) → slice_get s.outs place ≡ leg
          → PutLaw p n (waiting_at s place (gate_at s leg))
      by None there = λ law. law
      by (Some leg) there =
          let_go leg (number leg there) (find (lets (gate s leg)) s.waiting.due) refl

  writes : (len : ℕ) (leg : Option OutLeg) → slice_get s.outs place ≡ leg
      → may_go_at s len leg ≡ true → n ≡ s.writing
  writes len None there may = absurd (cc)
  writes len (Some leg) there may =
      sym (number leg there) ∙ same_number leg.number s.writing (both (leg.number == s.writing)
      (may_send leg.window len && may_put leg.meter len) may).0

  pdu_law : PutLaw p n (put_pdu s place)
  pdu_law = by s.queue refl
    where
      by : (queue : List (List ℕ)) → s.queue ≡ queue
          → PutLaw p n (pdu_by s place (front_length queue))
      by [] e = λ law. law
      by (pdu ∷ pdus) e =
          by_test (PutLaw p n) (may_go_at s (length pdu) (slice_get s.outs place))
          (Some (goes s place (length pdu), Pdu (first_of s.queue))) None
          (λ h. act p n (goes s place (length pdu)) (Pdu (first_of s.queue)) (PutsPdu pdu pdus)
          (writes (length pdu) (slice_get s.outs place) refl h)
          (ap (λ (q : List (List ℕ)). record (giver_of p.given s) { queue = behind q }) e)
          (ap (λ (q : List (List ℕ)). Piece (first_of q) ∷ []) e) e)
          (λ h law. law)

  ends : (leg : Option OutLeg) → slice_get s.outs place ≡ leg → may_end_at s leg ≡ true
      → n ≡ s.writing
  ends None there may = absurd (cc)
  ends (Some leg) there may =
      sym (number leg there) ∙ same_number leg.number s.writing
      (both (leg.number == s.writing) (fits leg.meter 24) may).0

  nothing : (queue : List (List ℕ)) → is_nil queue ≡ true → queue ≡ []
  nothing [] e = refl
  nothing (pdu ∷ pdus) e = absurd (cc)

  end_law : PutLaw p n (put_end s place)
  end_law =
      by_test (PutLaw p n) (is_end_due s && may_end_at s (slice_get s.outs place))
      (Some (record (counts s place 24) { end_mark = end_mark.Put }, Packet named.EndB1)) None
      (λ h. let tests = both (is_end_due s) (may_end_at s (slice_get s.outs place)) h in
      let closing = both (is_closing s.giving) (not
      (is_put s.end_mark) && is_nil s.queue) tests.0 in
      let unput = both (not (is_put s.end_mark)) (is_nil s.queue) closing.1 in
      act p n (record (counts s place 24) { end_mark = end_mark.Put }) (Packet named.EndB1) PutsEnd
      (ends (slice_get s.outs place) refl tests.1)
      (ap (λ (g : Giver). record g { given = p.given; end_put = true })
      (counts_same s place 24)) refl
      (closing.0, nothing s.queue unput.1, negated (is_put s.end_mark) unput.0))
      (λ h law. law)

  place_law : PutLaw p n (put_out_place s place)
  place_law =
      or_law p n (put_out_greeting s place) (put_open s place) greeting_law
      (by_test (PutLaw p n) (is_open s.stage) (settled_pick (next_out s place)) None
      (λ h. settle_law p n (next_out s place)
      (or_law p n (put_waiting s place) (put_pdu_or_end s place) waiting_law
      (or_law p n (put_pdu s place) (put_end s place) pdu_law end_law)))
      (λ h law. law))

out_law : (p : EndPassage Server) (n : ℕ) → PutLaw p n (put_out p.passage.role n)
out_law p n = by (out_place n p.passage.role.outs) refl
  where
    by : (place : Option ℕ) → out_place n p.passage.role.outs ≡ place
        → PutLaw p n (put_out_at p.passage.role place)
    by None e = λ law. law
    by (Some place) e = place_law p n place e

-- ---- what is put on an is leg

abbrev IsSame : Server → Pick → Type 0
IsSame s None = Unit {0}
IsSame s (Some pick) = Same s pick.0

or_same : (s : Server) (a b : Pick) → IsSame s a → IsSame s b → IsSame s (or_else a b)
or_same s None b first later = later
or_same s (Some pick) b first later = first

greeting_same : (s : Server) (leg : InLeg) → IsSame s (put_in_greeting s leg)
greeting_same s leg = by_test (IsSame s) (is_due leg.greeting) _ None (λ h. refl) (λ h. tt)

told_same : (s : Server) (n : ℕ) → Same s (told_by s n)
told_same s n = by_test (Same s) ((n == s.current.leg) && is_shut s.edge) _ s (λ h. refl)
    (λ h. refl)

tells_same : (s : Server) (leg : InLeg) (t : Tells) → IsSame s (put_tells_by s leg t)
tells_same s leg tells.Nothing = tt
tells_same s leg tells.ConnB3 = by_test (IsSame s) (is_open s.stage) _ None (λ h. refl) (λ h. tt)
tells_same s leg tells.InR1B2 =
    by_test (IsSame s) (was_current s leg) _ None (λ h. told_same s leg.number) (λ h. tt)

b1_same : (s : Server) (leg : InLeg) (l : Leaving) → IsSame s (put_b1_by s leg l)
b1_same s leg leaving.Stays = tt
b1_same s leg leaving.InR1B1 = refl
b1_same s leg leaving.Left = tt
b1_same s leg leaving.Lost = tt

ack_same : (s : Server) (ack : Option Ack) → IsSame s (put_ack_by s ack)
ack_same s None = tt
ack_same s (Some ack) = refl

in_same : (s : Server) (leg : Option InLeg) → IsSame s (put_in_by s leg)
in_same s None = tt
in_same s (Some leg) =
    or_same s (put_in_greeting s leg) _ (greeting_same s leg)
    (or_same s (put_tells s leg) _ (tells_same s leg leg.tells)
    (or_same s (put_b1 s leg) (put_ack s leg) (b1_same s leg leg.leaving)
    (ack_same s (ack_due s leg))))

in_law : (p : EndPassage Server) (n : ℕ) (pick : Pick) → IsSame p.passage.role pick → Gives p
    → Gives (record p { passage = put_by p.passage (is_ n) pick })
in_law p n None same law = law
in_law p n (Some (t, m)) same law =
    subst (GiverLaw (giver_of p.given t))
    (sym (log_other out_items OutServer p.passage.put (is_ n, m) refl))
    (quietly p t [] [] same law)

put_law : (p : EndPassage Server) (leg : Leg) → Gives p
    → Gives (record p { passage = put_by p.passage leg (put p.passage.role leg) })
put_law p leg = by leg.kind
  where
    by : (kind : LegKind) → Gives p → Gives (record p {
      passage = put_by p.passage (record { kind = kind; number = leg.number })
          (put_by_kind p.passage.role leg.number kind);
    })
    by OutServer = out_law p leg.number
    by InServer = in_law p leg.number (put_in p.passage.role leg.number) (in_same p.passage.role
        (in_leg leg.number p.passage.role.ins))
    by ClientIn = λ law. law
    by ClientOut = λ law. law

-- ---- each move

row_law : (p : EndPassage Server) (leg : Leg) (m : Message) (row : Done)
    → Same p.passage.role row.0 → Gives p
    → Gives (record p { passage = taken_by p.passage leg m row })
row_law p leg m (t, Ok taken) same law =
    quietly p t (p.passage.came ++ (leg, m) ∷ []) p.taken same law
row_law p leg m (t, Err refused) same law = quietly p t p.passage.came p.taken same law

move_law : (p : EndPassage Server) (move : Move) → Gives p
    → Gives (record p { passage = moved server_rules p.passage move })
move_law p (Up leg cookie) law =
    quietly p (up p.passage.role leg cookie) p.passage.came p.taken
    (same_up p.passage.role leg cookie) law
move_law p (HeadCame leg text) law = quietly p p.passage.role p.passage.came p.taken refl law
move_law p (PduCame leg count bytes) law =
    row_law p leg (Pdu bytes) (pdu p.passage.role leg count bytes)
    (same_pdu p.passage.role leg count bytes) law
move_law p (PacketCame leg count named) law =
    row_law p leg (Packet named) (packet p.passage.role leg count named)
    (same_packet p.passage.role leg count named) law
move_law p (Puts leg) law = put_law p leg law
move_law p (IsDrawn leg) law =
    quietly p (drawn p.passage.role leg) p.passage.came p.taken (same_drawn p.passage.role leg) law
move_law p (Marks leg) law =
    quietly p (mark p.passage.role leg) p.passage.came p.taken (same_mark p.passage.role leg) law
move_law p (Pings leg) law = quietly p p.passage.role p.passage.came p.taken refl law

give_law : (p : EndPassage Server) (pdu : List ℕ) → Gives p
    → Gives (given_by p pdu (give p.passage.role pdu))
give_law p pdu law =
    by_test Then (is_closing s.giving) (s, Err give_refused.Closing)
    (give_by s pdu (pdu_fault pdu)) (λ h. law)
    (λ closing. by (pdu_fault pdu) closing)
  where
    s : Server
    s = p.passage.role

    Then : Server × Result (Unit {0}) GiveRefused → Type 0
    Then given = Gives (given_by p pdu given)

    by : (fault : Option PduFault) → is_closing s.giving ≡ false → Then (give_by s pdu fault)
    by (Some fault) closing = law
    by None closing =
        by_test Then (nat_le (total s.queue + length pdu) queue_bytes)
        (record s { queue = s.queue ++ pdu ∷ [] }, Ok tt)
        (s, Err (give_refused.Full (total s.queue) (length pdu)))
        (λ h. subst (GiverLaw (gives (giver_of p.given s) (Accepts pdu)))
        (more_none s.writing (sent p))
        (giver_step (giver_of p.given s) (sent p) (Accepts pdu) law closing))
        (λ h. law)

take_law : (p : EndPassage Server) (pdus : List (List ℕ)) → Gives p
    → Gives (with_first (end_now_at p (take p.passage.role)) pdus)
take_law p [] law =
    quietly p (take p.passage.role) p.passage.came p.taken (same_take p.passage.role) law
take_law p (pdu ∷ pdus) law =
    quietly p (take p.passage.role) p.passage.came (p.taken ++ pdu ∷ [])
    (same_take p.passage.role) law

end_move_law : (p : EndPassage Server) (move : EndMove) → Gives p
    → Gives (end_moved server_rules server_acts p move)
end_move_law p (Moves move) law = move_law p move law
end_move_law p (IsGiven pdu) law = give_law p pdu law
end_move_law p Takes law = take_law p p.passage.role.line.current.pdus law
end_move_law p Closes law =
    subst (GiverLaw (gives (giver_of p.given p.passage.role) ClosesGiver))
    (more_none p.passage.role.writing (sent p))
    (giver_step (giver_of p.given p.passage.role) (sent p) ClosesGiver law tt)
end_move_law p Recycles law =
    quietly p (recycle p.passage.role).0 p.passage.came p.taken (same_recycle p.passage.role) law

pub all_gives : (moves : List EndMove) (p : EndPassage Server) → Gives p
    → Gives (all_end_moved server_rules server_acts p moves)
all_gives [] p law = law
all_gives (move ∷ moves) p law =
    all_gives moves (end_moved server_rules server_acts p move) (end_move_law p move law)

pub gives_first : (window : ℕ) → Gives (end_started (first window))
gives_first window = giver_starts

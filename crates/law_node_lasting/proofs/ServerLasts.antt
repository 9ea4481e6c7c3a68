-- a server that lost no is leg but behind IN_R1/A6 is at work: the newest channel's leg stays
use Rattle.law_order.proofs.Vocabulary.{◌≡◌, ◌⊎◌, inl, inr, ℕ, suc, ◌+◌, ◌≤◌, ◌==◌, Bool, true, false, true≢false, not, ◌&&◌, ◌||◌, nat_eq, List, [], ◌∷◌, ◌++◌, append_assoc, Some, None, Ok, Err, arith, refl, rules, sym, ap, ◌∙◌, subst, and_parts, if◌then◌else◌, IfSome, Option, Result, Item, has_handover, TakerLaw}
use Rattle.rh_sig.specs.declared.named.Named.TheVariants as named
use Rattle.rh_shell.specs.declared.answers.Refused.TheVariants as refused
use Rattle.rh_server.specs.declared.state.Leaving.TheVariants as leaving
use Rattle.rh_server.specs.declared.state.Stage.TheVariants as stage
use Rattle.rh_server.specs.declared.out_line.Kind.TheVariants as kind
use Rattle.law_moves.proofs.Vocabulary.{by_test, same_number, test_same, has_handover-append, Cookie, Named, Leg, LegKind, ClientOut, OutServer, ClientIn, InServer, after_take, Count, GiveRefused, is_ended, is_of, same_leg, of_leg, count_of, Message, Pdu, Packet, OnLeg, Move, Up, HeadCame, PduCame, PacketCame, Puts, IsDrawn, Marks, Pings, MayMove, Passage, moved, taken_by, put_by, EndMove, Moves, Gives, Takes, Closes, Recycles, EndPassage, MayEndMove, end_moved, end_now_at, end_started, given_by, with_first, EndLeads, Rules, is_in_use}
use Rattle.law_moves.proofs.Lemmas.{leg_is, of_append}
use Rattle.law_role_server.proofs.Vocabulary.{InLeg, Leaving, waits, Server, has_left, in_leg, in_place, is_lost, phase_of, same_cookie, stays, without_out, Done, Pick, on_conn_a2, on_conn_b2, refuse, took, unexpected, up, on_ack, on_ack_to, on_ping_traffic, take, on_in_r1_a2, hands_over, on_in_r1_a6, on_in_r2_a2, recycle, on_out_r1_a4, on_out_r1_a8, close, drawn, give, in_only_marks, lost_in, mark, mark_by, on_end_a2, only_marks_by, with_ack_dropped, put_by as put_by_kind, acts, first, pdu, packet, packet_by, on_is, on_os, rules as server_rules, is_conn_b2, is_in_r1_a2, in_items, items_if, items_on, leg_at, taker_of}
use Rattle.law_role_server.proofs.TakesKept.{has_begun}
use Rattle.law_role_server_in.proofs.Kept.{Kept, top_of}
use Rattle.law_role_server_in.proofs.Steps.{in_use}
use Rattle.law_role_server_in.proofs.Tallies.{tally}
use Rattle.law_node_streams.proofs.Streams.EndMoves.{leads_one}
use Rattle.law_node_marks.specs.Losing.{marking}
use Rattle.law_node_lasting.specs.Lasting.{in_stays, marks_left}
use Rattle.law_node_lasting.proofs.ServerLegs.{IsFound, each_found, found_number, has_kept, has_number}
use Rattle.law_node_lasting.proofs.ServerStays.{keeps_conn_a2, keeps_conn_b2, keeps_end_a2, keeps_in_r1_a2, keeps_in_r1_a6, keeps_lost, keeps_moved, keeps_same, keeps_settled, same_ack, same_ack_to, same_in_r2_a2, same_out_r1_a4, same_out_r1_a8, same_pdu, same_traffic}
use Rattle.law_node_lasting.proofs.ServerPuts.{PutsB1, keeps_drawn, keeps_up, put_stays}
use Rattle.law_node_lasting.proofs.ServerStays as kept

abbrev pub left_rules : Rules Server
left_rules = marking server_rules marks_left

abbrev pub is_leg : ℕ → Leg
is_leg n = leg_at InServer n

-- ---- what came on a leg

abbrev pub came_on : ℕ → List OnLeg → List Item
came_on n came = items_on in_items InServer came n

came_more : (came more : List OnLeg) (n : ℕ)
    → came_on n (came ++ more) ≡ came_on n came ++ came_on n more
came_more [] more n = refl
came_more ((leg, message) ∷ came) more n =
    let front : List Item = items_if (is_of InServer leg && nat_eq n leg.number) (in_items message)
    in
    ap (λ (items : List Item). front ++ items) (came_more came more n)
    ∙ sym (append_assoc front (came_on n came) (came_on n more))

-- IN_R1/A6 did
abbrev pub HasLeft : ℕ → List OnLeg → Type 0
HasLeft n came = has_handover (came_on n came) ≡ true

left_more : (n : ℕ) (came more : List OnLeg) → HasLeft n came → HasLeft n (came ++ more)
left_more n came more h =
    ap has_handover (came_more came more n)
    ∙ has_handover-append (came_on n came) (came_on n more)
    ∙ ap (λ (b : Bool). b || has_handover (came_on n more)) h

left_last : (n : ℕ) (came more : List OnLeg) → HasLeft n more → HasLeft n (came ++ more)
left_last n came more h =
    ap has_handover (came_more came more n)
    ∙ has_handover-append (came_on n came) (came_on n more)
    ∙ by (has_handover (came_on n came)) (has_handover (came_on n more)) h
  where
    by : (a b : Bool) → b ≡ true → (a || b) ≡ true
    by true b e = refl
    by false b e = e

-- and nothing did
abbrev pub Unmet : ℕ → List OnLeg → Type 0
Unmet n came = of_leg (is_leg n) came ≡ []

unmet_more : (n : ℕ) (came : List OnLeg) (leg : Leg) (m : Message)
    → same_leg leg (is_leg n) ≡ false → Unmet n came → Unmet n (came ++ (leg, m) ∷ [])
unmet_more n came leg m other none =
    of_append (is_leg n) came ((leg, m) ∷ [])
    ∙ ap (λ (ms : List Message). ms ++ of_leg (is_leg n) ((leg, m) ∷ [])) none
    ∙ ap {B = List Message} (λ (b : Bool). if b then m ∷ [] else []) other

-- ---- the leg stays

abbrev pub Staying : Leaving → Type 0
Staying x = x ≡ leaving.Stays

pub kept_not : Staying leaving.Lost → ⊥
kept_not e = true≢false (ap is_lost e)

pub left_not : Staying leaving.Left → ⊥
left_not e = true≢false (ap has_left e)

handed_not : Staying leaving.InR1B1 → ⊥
handed_not e = true≢false (sym (ap stays e))

module _ (n : ℕ) where
  abbrev IsStaying : InLeg → Type 0
  IsStaying = kept.IsStaying n Staying kept_not

  abbrev pub Stays : Bool → Server → Type 0
  Stays = kept.Stays n Staying kept_not

  abbrev Keeps : Server → Server → Type 0
  Keeps = kept.Keeps n Staying kept_not

  -- what is used is kept
  used_stays : (s : Server) → Stays false s → is_in_use server_rules s (is_leg n) ≡ true
      → Stays true s
  used_stays s h used =
      let both = in_use s n used in
      record {
        each = h.each;
        there = λ e. has_kept n s.ins both.1;
        work = λ e. works (is_ended (phase_of s.stage)) both.0;
      }
    where
      works : (b : Bool) → not b ≡ true → b ≡ false
      works false e = refl
      works true e = absurd (true≢false (sym e))

  -- IN_R1/A6 came, or nothing did yet, or the leg stays
  abbrev pub Met : Server → List OnLeg → Type 0
  Met s came = HasLeft n came ⊎ ((Unmet n came × Stays false s) ⊎ Stays true s)

  keep_met : (s t : Server) (came : List OnLeg) → Keeps s t → Met s came → Met t came
  keep_met s t came keeps (inl left) = inl left
  keep_met s t came keeps (inr (inl (none, h))) = inr (inl (none, keeps false h))
  keep_met s t came keeps (inr (inr h)) = inr (inr (keeps true h))

  -- ---- rows

  module _ (has_come : Bool) where
    -- it is taken, and keeps the leg, or is IN_R1/A6 there; or it is refused
    abbrev RowStays : OnLeg → Done → Type 0
    RowStays one (t, Ok taken) = Stays has_come t ⊎ HasLeft n (one ∷ [])
    RowStays one (t, Err why) = Stays has_come t

    stays_row : (one : OnLeg) (x : Done) → Stays has_come x.0 → RowStays one x
    stays_row one (t, Ok taken) h = inl h
    stays_row one (t, Err why) h = h

    module _ (s : Server) (leg : Leg) (h : Stays has_come s) where
      a6_row : (successor : Cookie) → is_of InServer leg ≡ true
          → RowStays (leg, Packet (named.InR1A6 successor)) (on_in_r1_a6 s leg.number successor)
      a6_row successor here = by (nat_eq n leg.number) refl
        where
          one : OnLeg
          one = (leg, Packet (named.InR1A6 successor))

          left : nat_eq n leg.number ≡ true → HasLeft n (one ∷ [])
          left e =
              ap (λ (t : Bool).
              has_handover (items_if t (in_items (Packet (named.InR1A6 successor))) ++ []))
              (ap (λ (t : Bool). t && nat_eq n leg.number) here ∙ e)

          by : (b : Bool) → nat_eq n leg.number ≡ b
              → RowStays one (on_in_r1_a6 s leg.number successor)
          by true e =
              by_test (RowStays one) ((leg.number == s.current.leg)
              && (not s.line.finished && (s.line.has_next && not (waits kind.InR1A3 s.waiting))))
              (if same_cookie s.next.cookie successor then took (hands_over s leg.number)
              else refuse s (refused.Cookie s.next.cookie successor)) (unexpected s)
              (λ t. by_test (RowStays one) (same_cookie s.next.cookie successor)
              (took (hands_over s leg.number))
              (refuse s (refused.Cookie s.next.cookie successor))
              (λ u. inr (left e)) (λ u. h))
              (λ t. h)
          by false e =
              stays_row one (on_in_r1_a6 s leg.number successor)
              (keeps_in_r1_a6 n Staying kept_not s leg.number successor
              (λ same. absurd (true≢false (sym (ap (λ (k : ℕ). nat_eq n k) same ∙ test_same n)
              ∙ e))) has_come h)

      is_row : (count : Count) (m : Named) → is_of InServer leg ≡ true
          → RowStays (leg, Packet m) (on_is s leg.number count m)
      is_row count (named.ConnB2 v1 v2 v3 v4 v5 v6 v7 v8) here =
          stays_row (leg, Packet (named.ConnB2 v1 v2 v3 v4 v5 v6 v7 v8))
          (on_conn_b2 s leg.number count v2 v3 v4 v5)
          (keeps_conn_b2 n Staying kept_not s leg.number count v2 v3 v4 v5 has_come h)
      is_row count (named.InR1A2 v1 v2 v3 v4 v5 v6) here =
          stays_row (leg, Packet (named.InR1A2 v1 v2 v3 v4 v5 v6))
          (on_in_r1_a2 s leg.number count v2 v3 v4 v5 v6)
          (keeps_in_r1_a2 n Staying kept_not s leg.number count v2 v3 v4 v5 v6 has_come h)
      is_row count (named.InR1A6 successor) here = a6_row successor here
      is_row count (named.InR2A2 successor) here =
          stays_row (leg, Packet (named.InR2A2 successor))
          (on_in_r2_a2 s leg.number count successor)
          (keeps_same n Staying kept_not s (on_in_r2_a2 s leg.number count successor).0
          (same_in_r2_a2 n Staying kept_not s leg.number count successor) has_come h)
      is_row count (named.AckTo v1 v2 v3 v4) here =
          stays_row (leg, Packet (named.AckTo v1 v2 v3 v4)) (on_ack_to s count v1 v2 v3 v4)
          (keeps_same n Staying kept_not s (on_ack_to s count v1 v2 v3 v4).0
          (same_ack_to n Staying kept_not s count v1 v2 v3 v4) has_come h)
      is_row count (named.OutR1A8 v1 v2) here =
          stays_row (leg, Packet (named.OutR1A8 v1 v2)) (on_out_r1_a8 s count v1 v2)
          (keeps_same n Staying kept_not s (on_out_r1_a8 s count v1 v2).0
          (same_out_r1_a8 n Staying kept_not s count v1 v2) has_come h)
      is_row count named.EndA2 here =
          stays_row (leg, Packet named.EndA2) (on_end_a2 s leg.number count)
          (keeps_end_a2 n Staying kept_not s leg.number count has_come h)
      is_row count m here = h

      os_row : (k : ℕ) (count : Count) (m : Named) → RowStays (leg, Packet m) (on_os s k count m)
      os_row k count (named.ConnA2 v1 v2 v3 v4 v5) =
          stays_row (leg, Packet (named.ConnA2 v1 v2 v3 v4 v5)) (on_conn_a2 s k count v2 v3 v4 v5)
          (keeps_conn_a2 n Staying kept_not s k count v2 v3 v4 v5 has_come h)
      os_row k count (named.OutR1A4 v1 v2 v3 v4 v5 v6 v7) =
          stays_row (leg, Packet (named.OutR1A4 v1 v2 v3 v4 v5 v6 v7))
          (on_out_r1_a4 s k count v2 v3 v4 v5 v6 v7)
          (keeps_same n Staying kept_not s (on_out_r1_a4 s k count v2 v3 v4 v5 v6 v7).0
          (same_out_r1_a4 n Staying kept_not s k count v2 v3 v4 v5 v6 v7) has_come h)
      os_row k count (named.Ack v1 v2 v3) =
          stays_row (leg, Packet (named.Ack v1 v2 v3)) (on_ack s k count v1 v2 v3)
          (keeps_same n Staying kept_not s (on_ack s k count v1 v2 v3).0
          (same_ack n Staying kept_not s k count v1 v2 v3) has_come h)
      os_row k count (named.PingTraffic bytes) =
          stays_row (leg, Packet (named.PingTraffic bytes)) (on_ping_traffic s count)
          (keeps_same n Staying kept_not s (on_ping_traffic s count).0
          (same_traffic n Staying kept_not s count) has_come h)
      os_row k count m = h

      packet_row : (count : Count) (m : Named) → RowStays (leg, Packet m) (packet s leg count m)
      packet_row count m = by leg.kind refl
        where
          by : (k : LegKind) → leg.kind ≡ k
              → RowStays (leg, Packet m) (packet_by s leg.number count m k)
          by InServer same = is_row count m (ap (λ (k : LegKind).
              is_of InServer (record { kind = k; number = leg.number })) same)
          by OutServer same = os_row leg.number count m
          by ClientIn same = h
          by ClientOut same = h

  -- a row on a leg in use
  taken_met : (p : Passage Server) (leg : Leg) (m : Message) (x : Done)
      → is_in_use server_rules p.role leg ≡ true
      → ((has_come : Bool) → Stays has_come p.role → RowStays has_come (leg, m) x)
      → Met p.role p.came → Met (taken_by p leg m x).role (taken_by p leg m x).came
  taken_met p leg m (t, Err why) used keeps (inl left) = inl left
  taken_met p leg m (t, Err why) used keeps (inr (inl (none, h))) =
      inr (inl (none, keeps false h))
  taken_met p leg m (t, Err why) used keeps (inr (inr h)) = inr (inr (keeps true h))
  taken_met p leg m (t, Ok taken) used keeps (inl left) =
      inl (left_more n p.came ((leg, m) ∷ []) left)
  taken_met p leg m (t, Ok taken) used keeps (inr (inr h)) = by (keeps true h)
    where
      by : Stays true t ⊎ HasLeft n ((leg, m) ∷ []) → Met t (p.came ++ (leg, m) ∷ [])
      by (inl now) = inr (inr now)
      by (inr left) = inl (left_last n p.came ((leg, m) ∷ []) left)
  taken_met p leg m (t, Ok taken) used keeps (inr (inl (none, h))) =
      by (same_leg leg (is_leg n)) refl
    where
      met : Stays true t ⊎ HasLeft n ((leg, m) ∷ []) → Met t (p.came ++ (leg, m) ∷ [])
      met (inl now) = inr (inr now)
      met (inr left) = inl (left_last n p.came ((leg, m) ∷ []) left)

      unmet : same_leg leg (is_leg n) ≡ false → Stays false t ⊎ HasLeft n ((leg, m) ∷ [])
          → Met t (p.came ++ (leg, m) ∷ [])
      unmet e (inl now) = inr (inl (unmet_more n p.came leg m e none, now))
      unmet e (inr left) = inl (left_last n p.came ((leg, m) ∷ []) left)

      by : (b : Bool) → same_leg leg (is_leg n) ≡ b → Met t (p.came ++ (leg, m) ∷ [])
      by true e =
          met (keeps true (used_stays p.role h
          (subst (λ (k : Leg). is_in_use server_rules p.role k ≡ true) (leg_is leg (is_leg n) e)
          used)))
      by false e = unmet e (keeps false h)

  -- ---- what is put

  put_met : (p : Passage Server) (leg : Leg) (pick : Pick)
      → ((has_come : Bool) → Stays has_come p.role
      → IfSome pick (λ (one : Server × Message). Stays has_come one.0
      ⊎ PutsB1 n Staying kept_not left_not refl has_come leg.number one.1))
      → Met p.role p.came → Met (put_by p leg pick).role (put_by p leg pick).came
  put_met p leg None keeps h = h
  put_met p leg (Some one) keeps (inl left) = inl left
  put_met p leg (Some one) keeps (inr (inl (none, h))) = by (keeps false h)
    where
      by : Stays false one.0 ⊎ PutsB1 n Staying kept_not left_not refl false leg.number one.1
          → Met one.0 p.came
      by (inl now) = inr (inl (none, now))
      by (inr b1) = absurd (handed_not b1.2)
  put_met p leg (Some one) keeps (inr (inr h)) = by (keeps true h)
    where
      by : Stays true one.0 ⊎ PutsB1 n Staying kept_not left_not refl true leg.number one.1
          → Met one.0 p.came
      by (inl now) = inr (inr now)
      by (inr b1) = absurd (handed_not b1.2)

  -- ---- a leg is lost, which does not stay

  not_staying : (s : Server) (o : Option InLeg)
      → IfSome o (λ (leg : InLeg). Staying leg.leaving)
      → (in_only_marks s o && (not true || not (in_stays o))) ≡ true → ⊥
  not_staying s None is e = true≢false (sym e)
  not_staying s (Some leg) is e =
      by (stays leg.leaving) (ap stays is)
      (and_parts (in_only_marks s (Some leg)) (not true || not (stays leg.leaving)) e).1
    where
      by : (b : Bool) → b ≡ true → not b ≡ true → ⊥
      by true t u = true≢false (sym u)
      by false t u = true≢false (sym t)

  mark_keeps : (s : Server) (number : ℕ) (k : LegKind)
      → (only_marks_by s number k && (not (is_of InServer (leg_at k number))
      || not (in_stays (in_leg number s.ins)))) ≡ true
      → Keeps s (mark_by s number k)
  mark_keeps s number InServer marks has_come h = by (number == n) refl
    where
      own : number ≡ n → (o : Option InLeg) → IsFound number (has_number number s.ins) o
          → IfSome o IsStaying → IfSome o (λ (leg : InLeg). Staying leg.leaving)
      own same None found is = tt
      own same (Some leg) found is = is (found ∙ same)

      by : (b : Bool) → number == n ≡ b → Stays has_come (mark_by s number InServer)
      by true e =
          absurd (not_staying s (in_leg number s.ins)
          (own (same_number number n e) (in_leg number s.ins) (found_number number s.ins)
          (each_found IsStaying s.ins (in_place number s.ins) h.each)) marks)
      by false e =
          keeps_settled n Staying kept_not (lost_in s number (in_leg number s.ins)) has_come
          (keeps_lost n Staying kept_not s number e has_come h)
  mark_keeps s number OutServer marks has_come h =
      keeps_settled n Staying kept_not (without_out (with_ack_dropped s number) number) has_come
      (record { each = h.each; there = h.there; work = h.work })
  mark_keeps s number ClientIn marks has_come h = h
  mark_keeps s number ClientOut marks has_come h = h

  -- ---- moves

  move_met : (p : Passage Server) (move : Move) → MayMove left_rules p.role move
      → Met p.role p.came
      → Met (moved left_rules p move).role (moved left_rules p move).came
  move_met p (Up leg cookie) may h =
      keep_met p.role (up p.role leg cookie) p.came
      (keeps_up n Staying kept_not left_not refl p.role leg cookie) h
  move_met p (HeadCame leg text) may h = h
  move_met p (PduCame leg count bytes) may h =
      taken_met p leg (Pdu bytes) (pdu p.role leg count bytes) may.0
      (λ has_come stays. stays_row has_come (leg, Pdu bytes) (pdu p.role leg count bytes)
      (keeps_same n Staying kept_not p.role (pdu p.role leg count bytes).0
      (same_pdu n Staying kept_not p.role leg count bytes) has_come stays)) h
  move_met p (PacketCame leg count m) may h =
      taken_met p leg (Packet m) (packet p.role leg count m) may
      (λ has_come stays. packet_row has_come p.role leg stays count m) h
  move_met p (Puts leg) may h =
      put_met p leg (put_by_kind p.role leg.number leg.kind)
      (λ has_come. put_stays n Staying kept_not left_not refl has_come p.role leg.number leg.kind)
      h
  move_met p (IsDrawn leg) may h =
      keep_met p.role (drawn p.role leg) p.came
      (keeps_drawn n Staying kept_not left_not refl p.role leg.number leg.kind) h
  move_met p (Marks leg) may h =
      keep_met p.role (mark p.role leg) p.came
      (mark_keeps p.role leg.number leg.kind may.1) h
  move_met p (Pings leg) may h = h

  same_give : (s : Server) (bytes : List ℕ) → kept.Same n Staying kept_not s (give s bytes).0
  same_give s bytes = search rules

  same_recycle : (s : Server) → kept.Same n Staying kept_not s (recycle s).0
  same_recycle s = search rules

  abbrev pub MetAt : EndPassage Server → Type 0
  MetAt p = Met p.passage.role p.passage.came

  pub end_move_met : (p : EndPassage Server) (move : EndMove)
      → MayEndMove left_rules p.passage.role move → MetAt p
      → MetAt (end_moved left_rules acts p move)
  end_move_met p (Moves move) may h = move_met p.passage move may h
  end_move_met p (Gives bytes) may h =
      by (acts.give p.passage.role bytes)
      (keep_met p.passage.role (give p.passage.role bytes).0 p.passage.came
      (keeps_same n Staying kept_not p.passage.role (give p.passage.role bytes).0
      (same_give p.passage.role bytes)) h)
    where
      by : (x : Server × Result (Unit {0}) GiveRefused) → Met x.0 p.passage.came
          → MetAt (given_by p bytes x)
      by (t, Ok accepted) k = k
      by (t, Err why) k = k
  end_move_met p Takes may h =
      by (acts.line p.passage.role).current.pdus
      (keep_met p.passage.role (take p.passage.role) p.passage.came
      (λ has_come stays. keeps_moved n Staying kept_not p.passage.role.line.has_next
      (record (p.passage.role) { line = after_take p.passage.role.line }) has_come
      (record { each = stays.each; there = stays.there; work = stays.work })) h)
    where
      by : (pdus : List (List ℕ)) → Met (take p.passage.role) p.passage.came
          → MetAt (with_first (end_now_at p (acts.take p.passage.role)) pdus)
      by [] k = k
      by (one ∷ pdus) k = k
  end_move_met p Closes may h =
      keep_met p.passage.role (close p.passage.role) p.passage.came
      (λ has_come stays.
      record { each = stays.each; there = stays.there; work = stays.work }) h
  end_move_met p Recycles may h =
      keep_met p.passage.role (recycle p.passage.role).0 p.passage.came
      (keeps_same n Staying kept_not p.passage.role (recycle p.passage.role).0
      (same_recycle p.passage.role)) h

-- ---- by its own moves, which these are

abbrev pub start : ℕ → EndPassage Server
start window = end_started (first window)

-- moves lead to the passage, and each leg stays there
pub record Lasts (window : ℕ) (p : EndPassage Server) : Type 0 where
  pub leads : EndLeads server_rules acts (start window) p
  pub met : (n : ℕ) → MetAt n p

may_itself : (s : Server) (move : EndMove) → MayEndMove left_rules s move
    → MayEndMove server_rules s move
may_itself s (Moves (Up leg cookie)) may = may
may_itself s (Moves (HeadCame leg text)) may = may
may_itself s (Moves (PduCame leg count bytes)) may = may
may_itself s (Moves (PacketCame leg count m)) may = may
may_itself s (Moves (Puts leg)) may = may
may_itself s (Moves (IsDrawn leg)) may = may
may_itself s (Moves (Marks leg)) may = (
  may.0,
  (and_parts (server_rules.only_marks s leg)
      (not (is_of InServer leg) || not (in_stays (in_leg leg.number s.ins))) may.1).0,
)
may_itself s (Moves (Pings leg)) may = may
may_itself s (Gives bytes) may = may
may_itself s Takes may = may
may_itself s Closes may = may
may_itself s Recycles may = may

moved_itself : (p : EndPassage Server) (move : EndMove)
    → end_moved server_rules acts p move ≡ end_moved left_rules acts p move
moved_itself p (Moves (Up leg cookie)) = refl
moved_itself p (Moves (HeadCame leg text)) = refl
moved_itself p (Moves (PduCame leg count bytes)) = refl
moved_itself p (Moves (PacketCame leg count m)) = refl
moved_itself p (Moves (Puts leg)) = refl
moved_itself p (Moves (IsDrawn leg)) = refl
moved_itself p (Moves (Marks leg)) = refl
moved_itself p (Moves (Pings leg)) = refl
moved_itself p (Gives bytes) = refl
moved_itself p Takes = refl
moved_itself p Closes = refl
moved_itself p Recycles = refl

pub move_lasts : (window : ℕ) (p : EndPassage Server) (move : EndMove)
    → MayEndMove left_rules p.passage.role move → Lasts window p
    → Lasts window (end_moved left_rules acts p move)
move_lasts window p move may h = record {
  leads =
      subst (EndLeads server_rules acts (start window)) (moved_itself p move)
      (leads_one server_rules acts (start window) p move h.leads
      (may_itself p.passage.role move may));
  met = λ n. end_move_met n p move may (h.met n);
}

pub start_lasts : (window : ℕ) → Lasts window (start window)
start_lasts window = record {
  leads = record { moves = []; allowed = tt; reached = refl };
  met = λ n. inr (inl (
    refl,
    record {
      each = tt;
      there = λ e. absurd (true≢false (sym e));
      work = λ e. absurd (true≢false (sym e));
    },
  ));
}

-- ---- so the work goes on

-- what is known of such a passage
pub record Known (p : EndPassage Server) : Type 0 where
  pub legs : ℕ → Bool
  pub law : TakerLaw (taker_of p.taken p.passage.role) legs
      (λ n. came_on n p.passage.came)
  pub facts : (n : ℕ)
      → Kept n (top_of p.passage.role) p.passage.role.newest_in p.passage.role.ins
      (tally n p.passage.came p.passage.put)

module _ (p : EndPassage Server) (k : Known p) (met : (n : ℕ) → MetAt n p)
    (over : p.passage.role.stage ≡ stage.Ended) where
  abbrev s : Server
  s = p.passage.role

  -- a leg on which a channel began, and no IN_R1/A6 came, stays
  began_not : (n : ℕ) → 1 ≤ (tally n p.passage.came p.passage.put).first
      → has_handover (came_on n p.passage.came) ≡ false → ⊥
  began_not n began unleft = by (met n)
    where
      none : of_leg (is_leg n) p.passage.came ≡ []
          → (tally n p.passage.came p.passage.put).first ≡ 0
      none e =
          ap (λ (ms : List Message). count_of is_conn_b2 ms + count_of is_in_r1_a2 ms) e

      by : MetAt n p → ⊥
      by (inl left) = true≢false (sym left ∙ unleft)
      by (inr (inl (unmet, h))) =
          absurd (let zero_first = none unmet in omega (arith, began, zero_first))
      by (inr (inr h)) =
          true≢false (sym (ap (λ x. is_ended (phase_of x)) over) ∙ h.work refl)

  begun : has_begun s.stage ≡ true
  begun = ap has_begun over

  pub not_over : ⊥
  not_over = by s.line.finished refl
    where
      next : (b : Bool) → s.line.has_next ≡ b → b ≡ true → ⊥
      next false e t = true≢false (sym t)
      next true e t =
          began_not s.next.leg ((k.facts s.next.leg).tail.next_began e refl)
          (subst (λ (j : ℕ). has_handover (came_on j p.passage.came) ≡ false)
          (ap (λ (b : Bool). if b then s.next.leg else suc s.current.leg) e)
          (sym k.law.holds.next_finished))

      by : (b : Bool) → s.line.finished ≡ b → ⊥
      by false e =
          began_not s.current.leg ((k.facts s.current.leg).tail.began begun refl)
          (sym k.law.holds.finished ∙ e)
      by true e =
          next s.line.has_next refl ((k.facts s.current.leg).tail.followed e)

-- an in proxy puts an RPC PDU on its is leg only where the server told its window there
use Rattle.law_order.proofs.Vocabulary.{◌⊎◌, ℕ, ◌+◌, ◌≤◌, ◌&&◌, Bool, true, false, inl, inr, if◌then◌else◌, List, [], ◌∷◌, ◌++◌, length, Some, None, Ok, Err, refl, sym, ap, ◌∙◌, subst, arith}
use Rattle.rh_sig.specs.declared.named.Named.TheVariants as named
use Rattle.law_moves.proofs.Vocabulary.{by_test, same_number, test_same, IsPdu, Named, Leg, LegKind, ClientOut, OutServer, ClientIn, InServer, Count, Message, Pdu, Packet, same_leg, count_of, OnLeg, Move, Up, HeadCame, PduCame, PacketCame, Puts, IsDrawn, Marks, Pings, MayMove, AreAllowed, Passage, started, moved, all_moved, taken_by, put_by, of_leg}
use Rattle.law_moves.proofs.Lemmas.{RowKeeps, PutKeeps, count_append, count_rises, leg_more}
use Rattle.law_role_inproxy.proofs.Vocabulary.{InProxyConfig, Done, Pick, unexpected, on_ack, mark, on_in_r1_b1, drawn, head, is_connection, is_replacement, is_unknown, opener_of, up, with_edge, put as put_of, InProxy, first, is_server_leg, ping, on_ci, on_is, packet, pdu, rules as proxy_rules, ci, HasPdu, is_conn_b3, is_in_r1_b2, SendsWhereTold}
use Rattle.law_role_inproxy.proofs.Putting.Laws.{more_by}
use Rattle.law_role_inproxy.proofs.Putting.Windows.{Alike, IsFair, IsSent, PickFair, told_later, alike_fair, alike_up, alike_head, alike_let_go, alike_drawn, alike_mark, alike_ping, ack_fair, ci_fair, pdu_fair, puts_fair}
use Rattle.law_role_inproxy.specs.Putting.Puts.{is_leg}

pdu_split : (pdu : List ℕ) (a b : List Message) → HasPdu pdu (a ++ b)
    → HasPdu pdu a ⊎ HasPdu pdu b
pdu_split pdu [] b h = inr h
pdu_split pdu (m ∷ a) b (inl is) = inl (inl is)
pdu_split pdu (m ∷ a) b (inr rest) = by (pdu_split pdu a b rest)
  where
    by : HasPdu pdu a ⊎ HasPdu pdu b → HasPdu pdu (m ∷ a) ⊎ HasPdu pdu b
    by (inl there) = inl (inr there)
    by (inr there) = inr there

module _ (n : ℕ) where
  abbrev on : List OnLeg → List Message
  on log = of_leg (is_leg n) log

  -- how often the server told its window
  abbrev told_by : List Message → ℕ
  told_by ms = count_of is_conn_b3 ms + count_of is_in_r1_b2 ms

  abbrev told : List OnLeg → ℕ
  told came = told_by (on came)

  told_rises : (came : List OnLeg) (one : OnLeg) → told came ≤ told (came ++ one ∷ [])
  told_rises came one =
      let all = ap told_by (leg_more (is_leg n) came one) in
      let connects = count_rises is_conn_b3 (on came) (on (one ∷ [])) in
      let replaces = count_rises is_in_r1_b2 (on came) (on (one ∷ [])) in
      omega (arith, all, connects, replaces)

  told_here : (came : List OnLeg) (m : Named) → 1 ≤ told_by (Packet m ∷ [])
      → 1 ≤ told (came ++ (is_leg n, Packet m) ∷ [])
  told_here came m is =
      let all = ap told_by (more_by (is_leg n) came (is_leg n, Packet m) true (test_same n)) in
      let connects = count_append is_conn_b3 (on came) (Packet m ∷ []) in
      let replaces = count_append is_in_r1_b2 (on came) (Packet m ∷ []) in
      omega (arith, all, connects, replaces, is)

  abbrev Sends : List OnLeg → List OnLeg → Type 0
  Sends came put = (bytes : List ℕ) → HasPdu bytes (on put) → 1 ≤ told came

  abbrev Holds : InProxy → List OnLeg → List OnLeg → Type 0
  Holds s came put = IsFair n (told came) s × Sends came put

  -- ---- what comes

  more_sends : (came put : List OnLeg) (one : OnLeg) → Sends came put
      → Sends (came ++ one ∷ []) put
  more_sends came put one sends bytes has =
      let before = sends bytes has in
      let rise = told_rises came one in omega (arith, before, rise)

  row : (leg : Leg) (m : Message) (came put : List OnLeg) (x : Done)
      → IsFair n (told came) x.0 → Sends came put → RowKeeps Holds (leg, m) came put x
  row leg m came put (t, Err why) h sends = (h, sends)
  row leg m came put (t, Ok taken) h sends = (
    record {
      number = h.number;
      window = told_later (told came) (told (came ++ (leg, m) ∷ [])) t.edge t.window
          (told_rises came (leg, m)) h.window;
      pdus = h.pdus;
      later = h.later;
    },
    more_sends came put (leg, m) sends,
  )

  window_row : (s : InProxy) (m : Named) (size : ℕ) (came put : List OnLeg)
      → 1 ≤ told_by (Packet m ∷ []) → Holds s came put
      → RowKeeps Holds (is_leg n, Packet m) came put (with_edge s size)
  window_row s m size came put is h = (
    record {
      number = h.0.number;
      window = told_here came m is;
      pdus = h.0.pdus;
      later = h.0.later;
    },
    more_sends came put (is_leg n, Packet m) h.1,
  )

  is_row : (s : InProxy) (m : Named) (came put : List OnLeg) → Holds s came put
      → RowKeeps Holds (is_leg n, Packet m) came put (on_is s m)
  is_row s (named.ConnB3 size version) came put h =
      by_test (RowKeeps Holds (is_leg n, Packet (named.ConnB3 size version)) came put)
      (is_connection (opener_of s.opening) && is_unknown s.edge) (with_edge s size) (unexpected s)
      (λ e. window_row s (named.ConnB3 size version) size came put (omega arith) h) (λ e. h)
  is_row s (named.InR1B2 size) came put h =
      by_test (RowKeeps Holds (is_leg n, Packet (named.InR1B2 size)) came put)
      (is_replacement (opener_of s.opening) && is_unknown s.edge) (with_edge s size) (unexpected s)
      (λ e. window_row s (named.InR1B2 size) size came put (omega arith) h) (λ e. h)
  is_row s named.InR1B1 came put h =
      row (is_leg n) (Packet named.InR1B1) came put (on_in_r1_b1 s)
      (alike_fair n (told came) s (on_in_r1_b1 s).0 (alike_let_go s) h.0) h.1
  is_row s (named.Ack received available channel) came put h =
      row (is_leg n) (Packet (named.Ack received available channel)) came put
      (on_ack s received available channel)
      (ack_fair n (told came) s received available channel h.0) h.1
  is_row s m came put h = h

  packet_row : (s : InProxy) (number : ℕ) (kind : LegKind) (count : Count) (m : Named)
      (came put : List OnLeg) → Holds s came put
      → RowKeeps Holds (record { kind = kind; number = number }, Packet m) came put
      (packet s (record { kind = kind; number = number }) count m)
  packet_row s number ClientIn count m came put h =
      row (ci number) (Packet m) came put (on_ci s number m)
      (ci_fair n (told came) s number m h.0) h.1
  packet_row s number ClientOut count m came put h = h
  packet_row s number OutServer count m came put h = h
  packet_row s number InServer count m came put h =
      by_test (RowKeeps Holds (is_leg number, Packet m) came put)
      (is_server_leg s (is_leg number)) (on_is s m) (unexpected s)
      (λ e. subst (λ (k : ℕ). RowKeeps Holds (is_leg k, Packet m) came put (on_is s m))
      (sym h.0.number ∙ same_number s.config.number number e) (is_row s m came put h))
      (λ e. h)

  -- ---- what is put

  one_sent : (k : ℕ) (b : Bool) (m : Message) (bytes : List ℕ) → IsSent n k m
      → HasPdu bytes (if b then m ∷ [] else []) → 1 ≤ k
  one_sent k true m bytes sent (inl is) = subst (IsSent n k) is sent
  one_sent k true m bytes sent (inr none) = absurd none
  one_sent k false m bytes sent h = absurd h

  put_row : (leg : Leg) (came put : List OnLeg) (pick : Pick) → PickFair n (told came) pick
      → Sends came put → PutKeeps Holds leg came put pick
  put_row leg came put None fair sends = tt
  put_row leg came put (Some one) fair sends = (
    fair.0,
    λ bytes has. by bytes (pdu_split bytes (on put) (on ((leg, one.1) ∷ []))
        (subst (HasPdu bytes) (leg_more (is_leg n) put (leg, one.1)) has)),
  )
    where
      by : (bytes : List ℕ)
          → HasPdu bytes (on put) ⊎ HasPdu bytes (on ((leg, one.1) ∷ [])) → 1 ≤ told came
      by bytes (inl before) = sends bytes before
      by bytes (inr now) = one_sent (told came) (same_leg leg (is_leg n)) one.1 bytes fair.1 now

  -- ---- moves

  abbrev HoldsAt : Passage InProxy → Type 0
  HoldsAt p = Holds p.role p.came p.put

  by_row : (p : Passage InProxy) (leg : Leg) (m : Message) (x : Done)
      → RowKeeps Holds (leg, m) p.came p.put x → HoldsAt (taken_by p leg m x)
  by_row p leg m (t, Ok taken) h = h
  by_row p leg m (t, Err why) h = h

  by_put : (p : Passage InProxy) (leg : Leg) (pick : Pick) → HoldsAt p
      → PutKeeps Holds leg p.came p.put pick → HoldsAt (put_by p leg pick)
  by_put p leg None h goes = h
  by_put p leg (Some one) h goes = goes

  kept : (p : Passage InProxy) (t : InProxy) → Alike p.role t → HoldsAt p
      → Holds t p.came p.put
  kept p t same h = (alike_fair n (told p.came) p.role t same h.0, h.1)

  -- an RPC PDU has a header
  is_long : (bytes : List ℕ) → IsPdu bytes → 1 ≤ length bytes
  is_long bytes pdu = let long = pdu.frame.long in omega (arith, long)

  move_holds : (p : Passage InProxy) (move : Move) → MayMove proxy_rules p.role move → HoldsAt p
      → HoldsAt (moved proxy_rules p move)
  move_holds p (Up leg cookie) may h = kept p (up p.role leg) (alike_up p.role leg) h
  move_holds p (HeadCame leg text) may h =
      kept p (head p.role leg text).0 (alike_head p.role leg text) h
  move_holds p (PduCame leg count bytes) may h =
      by_row p leg (Pdu bytes) (pdu p.role leg count bytes)
      (row leg (Pdu bytes) p.came p.put (pdu p.role leg count bytes)
      (pdu_fair n (told p.came) p.role leg count bytes (is_long bytes may.1) h.0) h.1)
  move_holds p (PacketCame leg count m) may h =
      by_row p leg (Packet m) (packet p.role leg count m)
      (packet_row p.role leg.number leg.kind count m p.came p.put h)
  move_holds p (Puts leg) may h =
      by_put p leg (put_of p.role leg) h
      (put_row leg p.came p.put (put_of p.role leg)
      (puts_fair n (told p.came) p.role h.0 leg) h.1)
  move_holds p (IsDrawn leg) may h = kept p (drawn p.role leg) (alike_drawn p.role leg) h
  move_holds p (Marks leg) may h = kept p (mark p.role leg) (alike_mark p.role leg) h
  move_holds p (Pings leg) may h = kept p (ping p.role leg) (alike_ping p.role leg) h

  moves_hold : (p : Passage InProxy) (moves : List Move) → AreAllowed proxy_rules p moves
      → HoldsAt p → HoldsAt (all_moved proxy_rules p moves)
  moves_hold p [] allowed h = h
  moves_hold p (move ∷ moves) allowed h =
      moves_hold (moved proxy_rules p move) moves allowed.1 (move_holds p move allowed.0 h)

pub sends_where_told : (config : InProxyConfig) (moves : List Move)
    → AreAllowed proxy_rules (started (first config)) moves
    → SendsWhereTold config (all_moved proxy_rules (started (first config)) moves)
sends_where_told config moves allowed =
    (moves_hold config.number (started (first config)) moves allowed
    (record { number = refl; window = refl; pdus = tt; later = tt }, λ bytes has. absurd has)).1

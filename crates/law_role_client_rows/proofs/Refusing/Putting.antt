-- each allowed step of a client keeps these facts: what it puts, and the calls of its end
use Rattle.law_order.proofs.Vocabulary.{◌≡◌, ℕ, false, ◌&&◌, if◌then◌else◌, List, Some, None, arith, rules, refl, ap, subst, IfSome, Option}
use Rattle.rh_sig.specs.declared.named.Named.TheVariants as named
use Rattle.rh_client.specs.declared.replacement.InStage.TheVariants as in_stage
use Rattle.rh_client.specs.declared.replacement.OutStage.TheVariants as out_stage
use Rattle.rh_client.specs.Putting as putting
use Rattle.law_moves.proofs.Vocabulary.{Ack, may_put, fits, by_test, CONN_B1_LEN, IN_R1_A1_LEN, IN_R1_A5_LEN, OUT_R1_A7_LEN, END_A1_LEN, ACK_TO_LEN, PING_LEN, ClientConfig, after_told, front_length, Leg, LegKind, ClientOut, OutServer, ClientIn, InServer, Which, Current, Next, Message, Packet, OnLeg, EndMove, end_started, all_end_moved, AreAllowedAtEnd}
use Rattle.law_moves.proofs.Lemmas.{PutKeeps}
use Rattle.law_role_client.proofs.Vocabulary.{Opening, NotUp, Request, First, Second, Put, Replacement, NoneUnderWay, In, Out, ClientRole, is_up, unopened_in, metered, first, is_opening, is_writing, is_in_successor, is_current, is_out_successor, ack_due, cookie_of, handed_over, give, drawn, drawn_by, ping, ping_by, Pick, or_else, put_conn_b1, put_in_r1_a1, put_current, put_out_successor, put_out, due_by, put_due, ack_by, put_ack_of, put_ack, put_pdu, put_end, put_ping}
use Rattle.law_role_client.proofs.Vocabulary.{put_successor_ping, put_next, put_writing, put_in_successor, put_in, put_by, settled_pick, acts, rules as client_rules}
use Rattle.law_role_client.proofs.Counted.Allowed.{AllowedKeep, allowed_moves_keep}
use Rattle.law_role_client_rows.proofs.Refusing.Channels.{sees, Channels, past, Keeps, same, at, turned, after_in_keeps, recycle_keeps, settled_or_wished_keeps, take_keeps}
use Rattle.law_role_client_rows.proofs.Refusing.Keeping.{Holds, pdu_by_keeps, packet_by_keeps, up_keeps}

module _ (came : List OnLeg) where
  abbrev Picks : Pick → Type 0
  Picks pick = IfSome pick (λ (one : ClientRole × Message). Keeps came one.0)

  or_keeps : (p q : Pick) → Picks p → Picks q → Picks (or_else p q)
  or_keeps None q a b = b
  or_keeps (Some pick) q a b = a

  due_keeps : (s : ClientRole) (r : Replacement) → s.replacement ≡ r → Keeps came s
      → Picks (due_by s r)
  due_keeps s NoneUnderWay e h = tt
  due_keeps s (In in_stage.Asked w) e h = tt
  due_keeps s (In in_stage.Answered w) e h =
      let now = at came s (In in_stage.Answered w) e h in
      by_test Picks (fits s.writing.meter IN_R1_A5_LEN)
      (Some (handed_over s w, Packet (named.InR1A5 s.in_successor.cookie))) None
      (λ t. after_in_keeps came (record s {
        leaving = s.writing;
        writing = s.in_successor;
        in_successor = unopened_in 0 s.config.lifetime;
      }) w (past (is_opening s.phase) false now.none refl) (now.unfinished refl) h)
      (λ t. tt)
  due_keeps s (Out out_stage.Asked w) e h = tt
  due_keeps s (Out out_stage.Answered w) e h =
      let now = at came s (Out out_stage.Answered w) e h in
      by_test Picks (fits s.writing.meter OUT_R1_A7_LEN)
      (Some (
        record s {
          writing = metered s.writing OUT_R1_A7_LEN;
          replacement = Out out_stage.Switched w;
        },
        Packet (named.OutR1A7 2 s.out_successor.cookie),
      ))
      None
      (λ t. turned came (sees s) (Out out_stage.Switched w) (is_up s.out_successor.opening)
      s.out_successor.number (past (is_opening s.phase) false now.none refl) (now.unfinished refl)
      now.next now.successor h)
      (λ t. tt)
  due_keeps s (Out out_stage.Switched w) e h = tt
  due_keeps s (Out out_stage.Finished w) e h = tt

  ack_keeps : (s : ClientRole) (which : Which) (ack : Option Ack) → Keeps came s
      → Picks (ack_by s which ack)
  ack_keeps s which None h = tt
  ack_keeps s Current (Some ack) h =
      by_test Picks (may_put s.writing.meter ACK_TO_LEN)
      (Some (
        record s {
          line = after_told s.line Current ack;
          writing = metered s.writing ACK_TO_LEN;
        },
        Packet (named.AckTo 3 ack.received ack.available (cookie_of s Current)),
      ))
      None (λ t. h) (λ t. tt)
  ack_keeps s Next (Some ack) h =
      by_test Picks (may_put s.writing.meter ACK_TO_LEN)
      (Some (
        record s {
          line = after_told s.line Next ack;
          writing = metered s.writing ACK_TO_LEN;
        },
        Packet (named.AckTo 3 ack.received ack.available (cookie_of s Next)),
      ))
      None (λ t. h) (λ t. tt)

  pdu_keeps : (s : ClientRole) (len : Option ℕ) → Keeps came s → Picks (putting.pdu_by s len)
  pdu_keeps s None h = tt
  pdu_keeps s (Some len) h =
      by_test Picks (putting.lets_pdu s len) _ None (λ o. h) (λ o. tt)

  next_keeps : (s : ClientRole) → Keeps came s → Picks (put_next s)
  unfolding put_next put_due put_ack put_ack_of put_pdu put_end put_ping
  next_keeps s h =
      or_keeps (due_by s s.replacement) _ (due_keeps s s.replacement refl h)
      (or_keeps (put_ack s) _
      (or_keeps (ack_by s Current (ack_due s Current)) (ack_by s Next (ack_due s Next))
      (ack_keeps s Current (ack_due s Current) h) (ack_keeps s Next (ack_due s Next) h))
      (or_keeps (put_pdu s) _ (pdu_keeps s (front_length s.queue) h)
      (or_keeps (put_end s) (put_ping s)
      (by_test Picks (putting.is_end_due s && fits s.writing.meter END_A1_LEN) _ None (λ o. h)
      (λ o. tt))
      (by_test Picks (s.writing.is_ping_due && may_put s.writing.meter PING_LEN) _ None (λ o. h)
      (λ o. tt)))))

  writing_keeps : (s : ClientRole) (o : Opening) → Keeps came s → Picks (put_writing s o)
  unfolding put_writing put_conn_b1
  writing_keeps s NotUp h = tt
  writing_keeps s Request h = h
  writing_keeps s First h =
      by_test Picks (may_put s.writing.meter CONN_B1_LEN) _ None (λ o. h) (λ o. tt)
  writing_keeps s Second h = tt
  writing_keeps s Put h = next_keeps s h

  in_successor_keeps : (s : ClientRole) (o : Opening) → Keeps came s
      → Picks (put_in_successor s o)
  unfolding put_in_successor put_in_r1_a1 put_successor_ping
  in_successor_keeps s NotUp h = tt
  in_successor_keeps s Request h = h
  in_successor_keeps s First h =
      by_test Picks (may_put s.in_successor.meter IN_R1_A1_LEN) _ None (λ o. h) (λ o. tt)
  in_successor_keeps s Second h = tt
  in_successor_keeps s Put h =
      by_test Picks (s.in_successor.is_ping_due && may_put s.in_successor.meter PING_LEN) _ None
      (λ o. h) (λ o. tt)

  in_keeps : (s : ClientRole) (n : ℕ) → Keeps came s → Picks (put_in s n)
  unfolding put_in
  in_keeps s n h =
      by_test Picks (is_writing s n) (put_writing s s.writing.opening)
      (if is_in_successor s n then put_in_successor s s.in_successor.opening else None)
      (λ e. writing_keeps s s.writing.opening h)
      (λ e. by_test Picks (is_in_successor s n) (put_in_successor s s.in_successor.opening) None
      (λ o. in_successor_keeps s s.in_successor.opening h) (λ o. tt))

  current_keeps : (s : ClientRole) (o : Opening) → Keeps came s → Picks (put_current s o)
  unfolding put_current
  current_keeps s NotUp h = tt
  current_keeps s Request h = h
  current_keeps s First h = h
  current_keeps s Second h = tt
  current_keeps s Put h = tt

  -- the successor is up
  up_at : (s : ClientRole) (o : Opening) → s.out_successor.opening ≡ o → Keeps came s
      → Channels (record (sees s) { up = is_up o }) came
  up_at s o e h =
      subst (λ (x : Opening). Channels (record (sees s) { up = is_up x }) came) e h

  successor_keeps : (s : ClientRole) (o : Opening) → s.out_successor.opening ≡ o → Keeps came s
      → Picks (put_out_successor s o)
  unfolding put_out_successor
  successor_keeps s NotUp e h = tt
  successor_keeps s Request e h = up_at s Request e h
  successor_keeps s First e h = up_at s First e h
  successor_keeps s Second e h = up_at s Second e h
  successor_keeps s Put e h = tt

  put_keeps : (s : ClientRole) (n : ℕ) (k : LegKind) → Keeps came s → Picks (put_by s n k)
  unfolding put_by put_out
  put_keeps s n ClientOut h =
      by_test Picks (is_current s n) (put_current s s.current.opening)
      (if is_out_successor s n then put_out_successor s s.out_successor.opening else None)
      (λ e. current_keeps s s.current.opening h)
      (λ e. by_test Picks (is_out_successor s n)
      (put_out_successor s s.out_successor.opening) None
      (λ o. successor_keeps s s.out_successor.opening refl h) (λ o. tt))
  put_keeps s n ClientIn h = in_keeps s n h
  put_keeps s n OutServer h = tt
  put_keeps s n InServer h = tt

  puts_keep : (leg : Leg) (put : List OnLeg) (pick : Pick) → Picks pick
      → PutKeeps Holds leg came put (settled_pick pick)
  puts_keep leg put None h = tt
  puts_keep leg put (Some one) h = settled_or_wished_keeps came one.0 h

same_drawn : (s : ClientRole) (n : ℕ) (k : LegKind) → sees (drawn_by s n k) ≡ sees s
same_drawn s n k = search rules

same_ping : (s : ClientRole) (n : ℕ) (k : LegKind) → sees (ping_by s n k) ≡ sees s
same_ping s n k = search rules

same_give : (s : ClientRole) (bytes : List ℕ) → sees (give s bytes).0 ≡ sees s
same_give s bytes = search rules

steps : AllowedKeep client_rules acts Holds
steps = record {
  up = λ s leg cookie came put wanted h. up_keeps came s leg.number cookie leg.kind h;
  head = λ s leg text came put h. h;
  pdu = λ s leg count bytes came put h. pdu_by_keeps leg came put s bytes leg.kind h;
  packet = λ s leg count m came put h. packet_by_keeps leg came put s count m leg.kind h;
  puts = λ s leg came put h.
      puts_keep came leg put (put_by s leg.number leg.kind)
      (put_keeps came s leg.number leg.kind h);
  drawn = λ s leg came put h.
      same came s (drawn s leg) (same_drawn s leg.number leg.kind) h;
  mark = λ s leg came put h. h;
  ping = λ s leg came put h. same came s (ping s leg) (same_ping s leg.number leg.kind) h;
  give = λ s bytes came put h. same came s (give s bytes).0 (same_give s bytes) h;
  take = λ s came put h. take_keeps came s s.line.current.pdus h;
  close = λ s came put h. h;
  recycle = λ s came put open' h.
      recycle_keeps came s s.replacement refl (ap is_opening open') h;
}

pub client_channels : (config : ClientConfig) (moves : List EndMove)
    → AreAllowedAtEnd client_rules acts (end_started (first config)) moves
    → Channels
    (sees (all_end_moved client_rules acts (end_started (first config)) moves).passage.role)
    (all_end_moved client_rules acts (end_started (first config)) moves).passage.came
client_channels config moves allowed =
    allowed_moves_keep client_rules acts Holds steps (end_started (first config)) moves allowed
    (record {
      none = λ o. refl;
      told = λ o some. absurd (omega (arith, some));
      next = tt;
      unfinished = λ o. refl;
      current = omega arith;
      successor = λ o. absurd (cc);
    })

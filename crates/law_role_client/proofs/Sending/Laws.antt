-- what a client knows of its channels holds whatever happens, and what it refuses
use Rattle.law_order.proofs.Vocabulary.{◌≡◌, ◌⊎◌, ℕ, ◌+◌, ◌==◌, nat_le, nat_lt, Bool, true, false, true≢false, ◌&&◌, ◌||◌, not, if◌then◌else◌, List, [], ◌∷◌, ◌++◌, length, Some, None, Ok, Err, inl, inr, arith, refl, sym, ◌∙◌, subst, rules, false≢true, and_parts, nat_tests, Option, Result}
use Rattle.rh_sig.specs.declared.named.Named.TheVariants as named
use Rattle.rh_line.specs.declared.line_fault.LineFault.TheVariants as line_fault
use Rattle.law_moves.proofs.Vocabulary.{bad_ack, GREATEST_WINDOW, by_test, same_number, checked, pdu_fault, PduFault, Cookie, Named, ClientConfig, admit_verdict, after_take, total, queue_bytes, Leg, LegKind, ClientOut, OutServer, ClientIn, InServer, LineFault, Which, Count, Closing, Full, Row, is_of, OnLeg, EndMove, HasComeUp}
use Rattle.law_role_client.proofs.Vocabulary.{InChannel, Request, ClientRole, is_up, is_named, in_up, out_up, unopened_in, is_in, is_out, Done, first, taken, unexpected, is_open, is_writing, is_in_successor, is_current, is_out_successor, ci, co, wants_by, with_next, up_by, pdu_channel, pdu_on, admit_row, ack_row, ack_row_by, ack_named, on_ack_to, acked, Given, give, give_pdu, close, take, drawn_by, ping_by, pdu_by, on_packet, packet_by, acts, rules as client_rules}
use Rattle.law_role_client.proofs.Vocabulary.{AreAllowedMoves, client_moved, client_started, BeginsByCookie, RefusesFalseAcks, IsInRange, SendsAsTold}
use Rattle.law_role_client.proofs.Sending.Steps.{StepsKeep, end_moves_keep}
use Rattle.law_role_client.proofs.Sending.Facts.{seen_in, IsKnownIn, Kept}
use Rattle.law_role_client.proofs.Sending.Channels.{unknown, known_up, with_writing, with_successor, with_leaving, with_current, with_out_successor}
use Rattle.law_role_client.proofs.Sending.Changes.{Same, quiet, itself, same_kept, successor_next, recycle_kept, passed_kept}
use Rattle.law_role_client.proofs.Sending.Rows.{named_so, pdu_kept, packet_kept}
use Rattle.law_role_client.proofs.Sending.Next.{put_kept}

-- ---- what else happens

-- one of two legs is wanted
pub wanted_parts : (a b c d : Bool) → ((a && b) || (c && d)) ≡ true
    → ((a ≡ true) × (b ≡ true)) ⊎ ((c ≡ true) × (d ≡ true))
wanted_parts true true c d e = inl (refl, refl)
wanted_parts true false c d e = inr (and_parts c d e)
wanted_parts false b c d e = inr (and_parts c d e)

pub not_so : (b : Bool) → not b ≡ true → b ≡ false
not_so true e = absurd (false≢true e)
not_so false e = refl

give_same : (s : ClientRole) (pdu : List ℕ) → Same s (give s pdu).0
give_same s pdu =
    by_test (λ (x : Given). Same s x.0) s.is_closing (s, Err Closing)
    (give_pdu s pdu (checked (pdu_fault pdu))) (λ e. itself s)
    (λ e. by (checked (pdu_fault pdu)))
  where
    by : (x : Result (Unit {0}) PduFault) → Same s (give_pdu s pdu x).0
    by (Err fault) = itself s
    by (Ok valid) =
        by_test (λ (x : Given). Same s x.0) (nat_le (total s.queue + length pdu) queue_bytes)
        (record s { queue = s.queue ++ pdu ∷ [] }, Ok tt)
        (s, Err (Full (total s.queue) (length pdu)))
        (λ e. quiet s (record s { queue = s.queue ++ pdu ∷ [] }) refl refl) (λ e. itself s)

ping_same : (s : ClientRole) (n : ℕ) (kind : LegKind) → Same s (ping_by s n kind)
ping_same s n ClientIn =
    let t : ClientRole = record s { writing = record (s.writing) { is_ping_due = true } } in
    let u : ClientRole = record s {
      in_successor = record (s.in_successor) { is_ping_due = true };
    } in
    by_test (Same s) (is_writing s n) t (if is_in_successor s n then u else s)
    (λ e. quiet s t refl refl)
    (λ e. by_test (Same s) (is_in_successor s n) u s (λ f. quiet s u refl refl) (λ f. itself s))
ping_same s n ClientOut = itself s
ping_same s n OutServer = itself s
ping_same s n InServer = itself s

module _ (Comes : Leg → Cookie → Type 0) where
  up_in_kept : (s : ClientRole) (n : ℕ) (cookie : Cookie) (came put : List OnLeg)
      → wants_by s n ClientIn ≡ true → Comes (ci n) cookie → Kept Comes s came put
      → Kept Comes (up_by s n cookie ClientIn) came put
  up_in_kept s n cookie came put may comes h =
      by (wanted_parts (is_writing s n) (not (is_up s.writing.opening)) (is_in_successor s n)
      (not (is_up s.in_successor.opening)) may)
    where
      Goal : ClientRole → Type 0
      Goal t = Kept Comes t came put

      by : ((is_writing s n ≡ true) × (not (is_up s.writing.opening) ≡ true))
          ⊎ ((is_in_successor s n ≡ true) × (not (is_up s.in_successor.opening) ≡ true))
          → Goal (up_by s n cookie ClientIn)
      by (inl is) =
          let same = same_number n s.writing.number is.0 in
          by_test Goal (is_writing s n) (record s { writing = in_up s.writing cookie })
          (record s { in_successor = in_up s.in_successor cookie })
          (λ e. with_writing Comes s (in_up s.writing cookie) came put refl
          (known_up Comes (seen_in s.writing) cookie Request came put
          (not_so (is_up s.writing.opening) is.1) refl
          (subst (λ (k : ℕ). Comes (ci k) cookie) same comes) h.so.writing) h.still h)
          (λ e. absurd (true≢false (sym is.0 ∙ e)))
      by (inr is) =
          let both = and_parts (is_in s.replacement) (n == s.in_successor.number) is.0 in
          let same = same_number n s.in_successor.number both.1 in
          let next = successor_next Comes s came put both.0 h in
          by_test Goal (is_writing s n) (record s { writing = in_up s.writing cookie })
          (record s { in_successor = in_up s.in_successor cookie })
          (λ e.
          let other = same_number n s.writing.number e in
          absurd (omega (arith, same, next, other)))
          (λ e. with_successor Comes s (in_up s.in_successor cookie) came put refl
          (known_up Comes (seen_in s.in_successor) cookie Request came put
          (not_so (is_up s.in_successor.opening) is.1) refl
          (subst (λ (k : ℕ). Comes (ci k) cookie) same comes) h.so.in_successor) h)

  up_out_kept : (s : ClientRole) (n : ℕ) (cookie : Cookie) (came put : List OnLeg)
      → wants_by s n ClientOut ≡ true → Comes (co n) cookie → Kept Comes s came put
      → Kept Comes (up_by s n cookie ClientOut) came put
  up_out_kept s n cookie came put may comes h =
      let t : ClientRole = record s { out_successor = out_up s.out_successor cookie } in
      by_test (λ (t : ClientRole). Kept Comes t came put) (is_current s n)
      (record s { current = out_up s.current cookie })
      (record t { line = with_next s.line })
      (λ e. with_current Comes s (out_up s.current cookie) came put
      (λ f. subst (λ (k : ℕ). Comes (co k) cookie) (same_number n s.current.number e) comes) h)
      (λ e. same_kept Comes t (record t { line = with_next s.line }) came put
      (quiet t (record t { line = with_next s.line }) refl refl)
      (with_out_successor Comes s (out_up s.out_successor cookie) came put
      (λ f. subst (λ (k : ℕ). Comes (co k) cookie) (successor e) comes) h))
    where
      successor : is_current s n ≡ false → n ≡ s.out_successor.number
      successor e =
          by (wanted_parts (is_current s n) (not (is_up s.current.opening)) (is_out_successor s n)
          (not (is_up s.out_successor.opening)) may)
        where
          by : ((is_current s n ≡ true) × (not (is_up s.current.opening) ≡ true))
              ⊎ ((is_out_successor s n ≡ true) × (not (is_up s.out_successor.opening) ≡ true))
              → n ≡ s.out_successor.number
          by (inl is) = absurd (true≢false (sym is.0 ∙ e))
          by (inr is) =
              same_number n s.out_successor.number
              (and_parts (is_out s.replacement) (n == s.out_successor.number) is.0).1

  up_kept : (s : ClientRole) (n : ℕ) (kind : LegKind) (cookie : Cookie) (came put : List OnLeg)
      → wants_by s n kind ≡ true → Comes (record { kind = kind; number = n }) cookie
      → Kept Comes s came put → Kept Comes (up_by s n cookie kind) came put
  up_kept s n ClientOut cookie came put may comes h = up_out_kept s n cookie came put may comes h
  up_kept s n ClientIn cookie came put may comes h = up_in_kept s n cookie came put may comes h
  up_kept s n OutServer cookie came put may comes h = h
  up_kept s n InServer cookie came put may comes h = h

  drawn_kept : (s : ClientRole) (n : ℕ) (kind : LegKind) (came put : List OnLeg)
      → Kept Comes s came put → Kept Comes (drawn_by s n kind) came put
  drawn_kept s n ClientIn came put h =
      by_test (λ (t : ClientRole). Kept Comes t came put) (n == s.leaving.number)
      (record s { leaving = unopened_in 0 s.config.lifetime }) s
      (λ e. with_leaving Comes s (unopened_in 0 s.config.lifetime) came put h.so.numbers.positive
      (unknown Comes 0 s.config.lifetime came put h.so.numbers.none) h)
      (λ e. h)
  drawn_kept s n ClientOut came put h = h
  drawn_kept s n OutServer came put h = h
  drawn_kept s n InServer came put h = h

  take_kept : (s : ClientRole) (came put : List OnLeg) → Kept Comes s came put
      → Kept Comes (take s) came put
  take_kept s came put h =
      let t : ClientRole = record s { line = after_take s.line } in
      passed_kept Comes t came put (same_kept Comes s t came put (quiet s t refl refl) h)

  close_kept : (s : ClientRole) (came put : List OnLeg) → Kept Comes s came put
      → Kept Comes (close s) came put
  close_kept s came put h = same_kept Comes s (close s) came put (quiet s (close s) refl refl) h

  steps : StepsKeep client_rules acts Comes (Kept Comes)
  steps = record {
    up = λ s leg cookie may comes came put h.
        up_kept s leg.number leg.kind cookie came put may comes h;
    head = λ s leg text came put h. h;
    pdu = λ s leg count bytes came put h.
        pdu_kept Comes s leg.number bytes leg.kind came put h;
    packet = λ s leg count packet came put h.
        packet_kept Comes s leg.number count packet leg.kind came put h;
    put = λ s leg came put h. put_kept Comes s leg.number leg.kind came put h;
    drawn = λ s leg came put h. drawn_kept s leg.number leg.kind came put h;
    mark = λ s leg came put h. h;
    ping = λ s leg came put h.
        same_kept Comes s (ping_by s leg.number leg.kind) came put
        (ping_same s leg.number leg.kind) h;
    give = λ s bytes came put h.
        same_kept Comes s (give s bytes).0 came put (give_same s bytes) h;
    take = λ s came put h. take_kept s came put h;
    close = λ s came put h. close_kept s came put h;
    recycle = λ s came put h. recycle_kept Comes s s.replacement came put refl h;
  }

  starts : (config : ClientConfig) → Kept Comes (first config) [] []
  starts config = record {
    so = record {
      numbers = record {
        positive = omega arith;
        next = refl;
        before = omega arith;
        none = refl;
        later = λ n l. refl;
      };
      logs = record {
        within = λ n. inl refl;
        ins = λ n cookie never. absurd never;
        outs = λ n cookie never. absurd never;
      };
      writing = unknown Comes 1 config.lifetime [] [] refl;
      in_successor = unknown Comes 0 config.lifetime [] [] refl;
      leaving = unknown Comes 0 config.lifetime [] [] refl;
      current = λ e. absurd (false≢true e);
      out_successor = λ e. absurd (false≢true e);
    };
    still = λ e. refl;
  }

-- ---- what is refused

-- an acknowledgement of a channel
false_ack : (moves : List EndMove) (c : InChannel) (came put : List OnLeg)
    (received available : ℕ) (of : Cookie) → IsKnownIn (HasComeUp moves) (seen_in c) came put
    → is_named c of ≡ true
    → RefusesFalseAcks moves put (named.AckTo 0 received available of)
    (ack_row c received available)
false_ack moves c came put received available of known names =
    by (nat_lt c.window.sent received) refl
  where
    Goal : Row → Type 0
    Goal row = RefusesFalseAcks moves put (named.AckTo 0 received available of) row

    is_of_it : HasComeUp moves (ci c.number) of
    is_of_it =
        let is = named_so c of names in
        subst (λ (x : Cookie). HasComeUp moves (ci c.number) x) is.1 (known.comes is.0)

    greater : (b : Bool) → nat_lt GREATEST_WINDOW available ≡ b
        → Goal (ack_row_by (if b then Err (bad_ack available) else Ok tt))
    greater true e = (
      refl,
      (
        c.number,
        record {
          is_of_it = is_of_it;
          exceeds = inr (grind (arith, nat_tests, e));
        },
      ),
    )
    greater false e = tt

    by : (b : Bool) → nat_lt c.window.sent received ≡ b
        → Goal (ack_row_by (if b then Err (bad_ack received)
        else (if nat_lt GREATEST_WINDOW available then Err (bad_ack available) else Ok tt)))
    by true e =
        let counted = known.counted in (
          refl,
          (
            c.number,
            record {
              is_of_it = is_of_it;
              exceeds = inl (grind (arith, nat_tests, e, counted));
            },
          ),
        )
    by false e = greater (nat_lt GREATEST_WINDOW available) refl

acks_refused : (moves : List EndMove) (s : ClientRole) (to received available : ℕ) (of : Cookie)
    (came put : List OnLeg) → Kept (HasComeUp moves) s came put
    → RefusesFalseAcks moves put (named.AckTo to received available of)
    (on_ack_to s to received available of).1
acks_refused moves s to received available of came put h =
    by_test (λ (x : Done). Goal to x.1) (is_open s.phase && to == 0)
    (ack_named s received available of) (unexpected s)
    (λ e. subst (λ (k : ℕ). Goal k (ack_named s received available of).1)
    (sym (same_number to 0 (and_parts (is_open s.phase) (to == 0) e).1)) by_name)
    (λ e. tt)
  where
    Goal : ℕ → Row → Type 0
    Goal k row = RefusesFalseAcks moves put (named.AckTo k received available of) row

    by_name : Goal 0 (ack_named s received available of).1
    by_name =
        by_test (λ (x : Done). Goal 0 x.1) (is_named s.writing of) (
          record s { writing = acked s.writing received available },
          ack_row s.writing received available,
        ) _
        (λ e. false_ack moves s.writing came put received available of h.so.writing e)
        (λ e. by_test (λ (x : Done). Goal 0 x.1) (is_named s.in_successor of) (
          record s { in_successor = acked s.in_successor received available },
          ack_row s.in_successor received available,
        ) _
        (λ f. false_ack moves s.in_successor came put received available of h.so.in_successor f)
        (λ f. by_test (λ (x : Done). Goal 0 x.1) (is_named s.leaving of) (
          record s { leaving = acked s.leaving received available },
          ack_row s.leaving received available,
        ) (taken s)
        (λ g. false_ack moves s.leaving came put received available of h.so.leaving g)
        (λ g. tt)))

on_refused : (moves : List EndMove) (s : ClientRole) (n : ℕ) (count : Count) (packet : Named)
    (came put : List OnLeg) → Kept (HasComeUp moves) s came put
    → RefusesFalseAcks moves put packet (on_packet s n count packet).1
on_refused moves s n count (named.ConnA3 timeout) came put h = search rules
on_refused moves s n count (named.ConnC2 version window timeout) came put h = search rules
on_refused moves s n count (named.AckTo to received available of) came put h =
    acks_refused moves s to received available of came put h
on_refused moves s n count (named.InR1A4 to version window timeout) came put h = search rules
on_refused moves s n count (named.InR2A4 to) came put h = search rules
on_refused moves s n count (named.OutR1A2 to) came put h = search rules
on_refused moves s n count (named.OutR1A6 to version timeout) came put h = search rules
on_refused moves s n count named.OutR1A10 came put h = search rules
on_refused moves s n count named.EndB2 came put h = search rules
on_refused moves s n count packet came put h = tt

refused_packet : (moves : List EndMove) (s : ClientRole) (n : ℕ) (count : Count)
    (packet : Named) (kind : LegKind) (came put : List OnLeg) → Kept (HasComeUp moves) s came put
    → RefusesFalseAcks moves put packet (packet_by s n count packet kind).1
refused_packet moves s n count packet ClientOut came put h =
    by_test (λ (x : Done). RefusesFalseAcks moves put packet x.1)
    (is_current s n || is_out_successor s n) (on_packet s n count packet) (unexpected s)
    (λ e. on_refused moves s n count packet came put h) (λ e. tt)
refused_packet moves s n count packet OutServer came put h = tt
refused_packet moves s n count packet ClientIn came put h = tt
refused_packet moves s n count packet InServer came put h = tt

other_packet : (s : ClientRole) (n : ℕ) (count : Count) (packet : Named) (kind : LegKind)
    → is_of ClientOut (record { kind = kind; number = n }) ≡ false
    → IsInRange (packet_by s n count packet kind).1
other_packet s n count packet ClientOut e = absurd (true≢false e)
other_packet s n count packet OutServer e = tt
other_packet s n count packet ClientIn e = tt
other_packet s n count packet InServer e = tt

pdu_in_range : (s : ClientRole) (n : ℕ) (bytes : List ℕ) (kind : LegKind)
    → IsInRange (pdu_by s n bytes kind).1
pdu_in_range s n bytes ClientOut = by (pdu_channel s n)
  where
    admitted : (v : Result (Unit {0}) LineFault) → IsInRange (admit_row v)
    admitted (Ok done) = tt
    admitted (Err line_fault.Over) = tt
    admitted (Err (line_fault.Window exceeded)) = tt

    by : (o : Option Which) → IsInRange (pdu_on s bytes o).1
    by None = tt
    by (Some which) = admitted (admit_verdict s.line which bytes)
pdu_in_range s n bytes OutServer = tt
pdu_in_range s n bytes ClientIn = tt
pdu_in_range s n bytes InServer = tt

-- ---- the laws

kept_behind : (config : ClientConfig) (moves : List EndMove) → AreAllowedMoves config moves
    → (let p = (client_moved config moves).passage in
    Kept (HasComeUp moves) p.role p.came p.put)
kept_behind config moves allowed =
    end_moves_keep client_rules acts (HasComeUp moves) (Kept (HasComeUp moves))
    (steps (HasComeUp moves)) (client_started config) moves allowed (λ leg cookie is. is)
    (starts (HasComeUp moves) config)

pub client_sends : (config : ClientConfig) (moves : List EndMove)
    → AreAllowedMoves config moves → SendsAsTold moves (client_moved config moves).passage
client_sends config moves allowed =
    let p = (client_moved config moves).passage in
    let h = kept_behind config moves allowed in
    record {
      within = h.so.logs.within;
      refuses = λ leg count packet.
          refused_packet moves p.role leg.number count packet leg.kind p.came p.put h;
      others = λ leg count packet e.
          other_packet p.role leg.number count packet leg.kind e;
      pdus = λ leg count bytes. pdu_in_range p.role leg.number bytes leg.kind;
    }

pub client_begins : (config : ClientConfig) (moves : List EndMove)
    → AreAllowedMoves config moves
    → BeginsByCookie moves (client_moved config moves).passage.put
client_begins config moves allowed =
    let h = kept_behind config moves allowed in
    record { ins = h.so.logs.ins; outs = h.so.logs.outs }

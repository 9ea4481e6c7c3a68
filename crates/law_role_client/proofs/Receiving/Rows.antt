-- what is known of a client's OUT channels stays so behind each row, and where a leg is up
use Rattle.law_order.proofs.Vocabulary.{◌≡◌, ℕ, suc, ◌==◌, Bool, true, false, true≢false, not, ◌&&◌, ◌||◌, nat_lt, List, [], ◌∷◌, ◌++◌, Some, None, Ok, Err, arith, refl, rules, sym, ap, ◌∙◌, subst, and_parts, nat_tests, Option, Result}
use Rattle.rh_sig.specs.declared.named.Named.TheVariants as named
use Rattle.rh_line.specs.Lines as lines
use Rattle.rh_client.specs.declared.replacement.OutStage.TheVariants as out_stage
use Rattle.rh_client.specs.declared.replacement.Waits.TheVariants as waits
use Rattle.law_moves.proofs.Vocabulary.{by_test, same_number, Cookie, Named, Incoming, after_finish, Leg, LegKind, ClientOut, OutServer, ClientIn, InServer, LineFault, Window, Over, Which, Current, Next, Count, Message, Pdu, Packet, kind_number, same_leg, OnLeg, of_leg, pdu_bytes}
use Rattle.law_moves.proofs.Lemmas.{Fact, RowKeeps}
use Rattle.law_role_client.proofs.Vocabulary.{LAST_NUMBER, Opening, NotUp, Request, First, Second, Put, Replacement, NoneUnderWay, In, Out, Waits, ClientRole, is_named, is_asked, is_up, is_out, is_finished, has_out, with_out, Done, co, unexpected, taken, settled, is_open, is_current, is_out_successor, on_conn_a3, on_conn_c2, is_switched, admit_row, pdu_channel, pdu_on, ack_named, on_ack_to, end_channel, end_on, on_in_r1_a4, on_in_r2_a4, a2_by, on_out_r1_a2, a6_by}
use Rattle.law_role_client.proofs.Vocabulary.{on_out_r1_a6, a10_by, passed, pdu_by, packet_by, on_packet}
use Rattle.law_role_client.proofs.Receiving.Windows.{Counts, leg_counts, admitted_told, admitted_released, admitted_counts, refused_same}
use Rattle.law_role_client.proofs.Receiving.Facts.{Seen, Known, Kept, kept_more}
use Rattle.law_role_client.proofs.Receiving.Replaced.{seen, Same, same_holds, by_replacement, none_out, begin_out_holds, settles, current_changes, next_changes}

-- ---- legs

pub here : (leg : Leg) (k : ℕ) → leg.kind ≡ ClientOut → (leg.number == k) ≡ true
    → same_leg leg (co k) ≡ true
here leg k e f =
    subst (λ (j : LegKind).
    ((kind_number j == kind_number ClientOut) && leg.number == k) ≡ true) (sym e) f

pub leg_is : (leg : Leg) (k : ℕ) → leg.kind ≡ ClientOut → leg.number ≡ k → leg ≡ co k
leg_is leg k e f =
    subst (λ (j : LegKind). record { kind = j; number = leg.number } ≡ co k) (sym e)
    (subst (λ (n : ℕ). record { kind = ClientOut; number = n } ≡ co k) (sym f) refl)

-- the leg of the current channel came up, if that of the first did
up_by : (window : ℕ) (known : Known) (x : Seen) (came put : List OnLeg)
    → Kept window known x came put → (x.current.number ≡ 1 → known.FirstUp)
    → x.current.up ≡ true
up_by window known x came put h first = at (x.current.number == 1) refl
  where
    at : (t : Bool) → (x.current.number == 1) ≡ t → x.current.up ≡ true
    at true f =
        let one = same_number x.current.number 1 f in h.risen.first (first one) one
    at false f =
        let least = h.numbered.from_one in
        h.numbered.later (grind (arith, nat_tests, f, least))

pub asked_up : (o : Opening) → is_asked o ≡ true → is_up o ≡ true
asked_up NotUp e = absurd (true≢false (sym e))
asked_up Request e = refl
asked_up First e = refl
asked_up Second e = refl
asked_up Put e = refl

-- ---- rows that leave all this alone

same_ack_to : (s : ClientRole) (to received available : ℕ) (of : Cookie)
    → Same s (on_ack_to s to received available of).0
same_ack_to s to received available of =
    by_test (λ (d : Done). Same s d.0) (is_open s.phase && to == 0)
    (ack_named s received available of) (unexpected s)
    (λ e. by_test (λ (d : Done). Same s d.0) (is_named s.writing of) _ _ (λ f. refl)
    (λ f. by_test (λ (d : Done). Same s d.0) (is_named s.in_successor of) _ _ (λ g. refl)
    (λ g. by_test (λ (d : Done). Same s d.0) (is_named s.leaving of) _ _ (λ h. refl)
    (λ h. refl))))
    (λ e. refl)

same_conn_a3 : (s : ClientRole) (n : ℕ) (count : Count) (timeout : ℕ)
    → Same s (on_conn_a3 s n count timeout).0
same_conn_a3 s n count timeout = search rules

same_conn_c2 : (s : ClientRole) (n window timeout : ℕ) → Same s (on_conn_c2 s n window timeout).0
same_conn_c2 s n window timeout = search rules

same_in_r1_a4 : (s : ClientRole) (to window timeout : ℕ)
    → Same s (on_in_r1_a4 s to window timeout).0
same_in_r1_a4 s to window timeout = search rules

same_in_r2_a4 : (s : ClientRole) (to : ℕ) → Same s (on_in_r2_a4 s to).0
same_in_r2_a4 s to = search rules

module _ (window : ℕ) (known : Known) where
  -- the facts that each step keeps
  abbrev pub Fits : Fact ClientRole
  Fits s came put = Kept window known (seen s) came put

  module _ (s : ClientRole) (leg : Leg) (came put : List OnLeg) (h : Fits s came put)
      (out : leg.kind ≡ ClientOut) where
    abbrev Row : Message → Done → Type 0
    Row m x = RowKeeps Fits (leg, m) came put x

    -- a row that holds without the message
    keep_row : (m : Message) (x : Done) → Fits x.0 came put → Row m x
    keep_row m (t, Ok took) k = kept_more window known (seen t) came put k (leg, m)
    keep_row m (t, Err why) k = k

    same_row : (m : Message) (x : Done) → Same s x.0 → Row m x
    same_row m x same = keep_row m x (same_holds window known came put s x.0 same h)

    -- ---- RPC PDUs

    module _ (bytes : List ℕ) where
      abbrev after : List OnLeg
      after = came ++ (leg, Pdu bytes) ∷ []

      now : Fits s after put
      now = kept_more window known (seen s) came put h (leg, Pdu bytes)

      counts : (c : Incoming) (k : ℕ) → (leg.number == k) ≡ true
          → Counts window c (pdu_bytes (of_leg (co k) came))
          → Counts window (lines.admitted c bytes) (pdu_bytes (of_leg (co k) after))
      counts c k e before =
          admitted_counts window c bytes (pdu_bytes (of_leg (co k) came))
          (pdu_bytes (of_leg (co k) after))
          (leg_counts (co k) leg came bytes (here leg k out e)) before

      -- it comes only on a leg that came up
      abbrev Late : Type 0
      Late = known.UpFirst → leg ≡ co 1 → known.FirstUp

      current_pdu : (leg.number == s.current.number) ≡ true → Late
          → Row (Pdu bytes) (pdu_on s bytes (Some Current))
      current_pdu e late = by (lines.channel_verdict c bytes) refl
        where
          c : Incoming
          c = s.line.current

          t : ClientRole
          t = record s { line = lines.after_admit s.line Current bytes }

          after_counts : Counts window (lines.admitted c bytes)
              (pdu_bytes (of_leg (co s.current.number) after))
          after_counts = counts c s.current.number e h.counted.now

          first : s.current.number ≡ 1 → leg ≡ co 1
          first f = leg_is leg 1 out (same_number leg.number s.current.number e ∙ f)

          refuses : (fault : LineFault) → lines.channel_verdict c bytes ≡ Err fault
              → Fits t came put
          refuses fault f =
              subst (λ (d : Incoming). Fits (record s { line = record (s.line) { current = d } })
              came put) (sym (refused_same c bytes fault f)) h

          by : (v : Result (Unit {0}) LineFault) → lines.channel_verdict c bytes ≡ v
              → Row (Pdu bytes) (t, admit_row v)
          by (Ok admitted) f =
              let told = admitted_told c bytes in
              current_changes window known after put (seen s) (lines.admitted c bytes)
              (omega (arith, told)) after_counts
              (λ so g. up_by window known (seen s) came put h (λ one. late so (first one)))
              now
          by (Err (Window exceeded)) f = refuses (Window exceeded) f
          by (Err Over) f = refuses Over f

      next_pdu : (leg.number == suc s.current.number) ≡ true
          → Row (Pdu bytes) (pdu_on s bytes (Some Next))
      next_pdu e = by (lines.channel_verdict c bytes) refl
        where
          c : Incoming
          c = s.line.next

          t : ClientRole
          t = record s { line = lines.after_admit s.line Next bytes }

          refuses : (fault : LineFault) → lines.channel_verdict c bytes ≡ Err fault
              → Fits t came put
          refuses fault f =
              subst (λ (d : Incoming). Fits (record s { line = record (s.line) { next = d } })
              came put) (sym (refused_same c bytes fault f)) h

          by : (v : Result (Unit {0}) LineFault) → lines.channel_verdict c bytes ≡ v
              → Row (Pdu bytes) (t, admit_row v)
          by (Ok admitted) f =
              next_changes window known after put (seen s) (lines.admitted c bytes)
              (λ g. admitted_told c bytes ∙ h.lined.next_told g)
              (admitted_released c bytes ∙ h.lined.next_held)
              (counts c (suc s.current.number) e h.counted.next) now
          by (Err (Window exceeded)) f = refuses (Window exceeded) f
          by (Err Over) f = refuses Over f

      -- the successor has the next number
      next_number : is_switched s && is_out_successor s leg.number ≡ true
          → (leg.number == suc s.current.number) ≡ true
      next_number e =
          let is = and_parts (is_out s.replacement) (leg.number == s.out_successor.number)
          (and_parts (is_switched s) (is_out_successor s leg.number) e).1 in
          subst (λ (k : ℕ). (leg.number == k) ≡ true) (h.numbered.follows is.0) is.1

      pdu_row : Late → Row (Pdu bytes) (pdu_on s bytes (pdu_channel s leg.number))
      pdu_row late =
          by_test On (not (is_open s.phase)) None _ (λ e. h)
          (λ e. by_test On (is_current s leg.number) (Some Current) _ (λ f. current_pdu f late)
          (λ f. by_test On (is_switched s && is_out_successor s leg.number) (Some Next) None
          (λ g. next_pdu (next_number g)) (λ g. h)))
        where
          On : Option Which → Type 0
          On which = Row (Pdu bytes) (pdu_on s bytes which)

    -- ---- END

    ended : (which : Which) → Fits (record s { line = lines.after_end s.line which }) came put
    ended Current =
        let k = h.counted.now in
        current_changes window known came put (seen s) (lines.with_end s.line.current) (omega arith)
        (record { received = k.received; counted = k.counted; size = k.size }) h.up h
    ended Next =
        let k = h.counted.next in
        next_changes window known came put (seen s) (lines.with_end s.line.next) h.lined.next_told
        h.lined.next_held
        (record { received = k.received; counted = k.counted; size = k.size }) h

    end_row : (which : Option Which) → Row (Packet named.EndB2) (end_on s which)
    end_row None = h
    end_row (Some which) =
        by_test (Row (Packet named.EndB2)) (lines.channel_of s.line which).ended (unexpected s)
        (taken (settled t)) (λ e. h)
        (λ e. keep_row (Packet named.EndB2) (taken (settled t))
        (same_holds window known came put t (settled t) (search rules) (ended which)))
      where
        t : ClientRole
        t = record s { line = lines.after_end s.line which }

    -- ---- OUT_R1/A2, OUT_R1/A6 and OUT_R1/A10

    a2_fits : (n : ℕ) (r : Replacement) → s.replacement ≡ r → Fits (a2_by s n r).0 came put
    a2_fits n NoneUnderWay e =
        begin_out_holds window known came put s waits.Nothing (ap is_finished e) h
    a2_fits n (In stage true) e = h
    a2_fits n (In stage false) e =
        none_out window known came put s (In stage true) refl refl refl (ap is_finished e) h
    a2_fits n (Out stage waiting) e =
        by_test (λ (x : Done). Fits x.0 came put)
        (is_out_successor s n && not (has_out waiting))
        (taken (record s { replacement = Out stage (with_out waiting) })) (unexpected s)
        (λ f. by_replacement window known came put s (Out stage waiting) e h) (λ f. h)

    a2_row : (n to : ℕ) → Fits (on_out_r1_a2 s n to).0 came put
    a2_row n to =
        by_test (λ (x : Done). Fits x.0 came put)
        (is_open s.phase && (to == 0 && nat_lt n LAST_NUMBER)) (a2_by s n s.replacement)
        (unexpected s) (λ e. a2_fits n s.replacement refl) (λ e. h)

    -- the first packet of the successor was put, so that its leg came up
    answers : (waiting : Waits) (timeout : ℕ) → s.replacement ≡ Out out_stage.Asked waiting
        → is_asked s.out_successor.opening ≡ true
        → Fits (record s {
          out_successor = record (s.out_successor) { timeout = Some timeout };
          replacement = Out out_stage.Answered waiting;
        }) came put
    answers waiting timeout e asked =
        let k = by_replacement window known came put s (Out out_stage.Asked waiting) e h in
        record {
          numbered = record {
            window_is = k.numbered.window_is;
            from_one = k.numbered.from_one;
            follows = k.numbered.follows;
            later = k.numbered.later;
            next_up = λ f. asked_up s.out_successor.opening asked;
          };
          lined = k.lined;
          counted = k.counted;
          risen = k.risen;
          says = k.says;
          up = k.up;
          acks = k.acks;
        }

    a6_fits : (timeout : ℕ) (r : Replacement) → s.replacement ≡ r
        → Fits (a6_by s timeout r).0 came put
    a6_fits timeout NoneUnderWay e = h
    a6_fits timeout (In stage out_waits) e = h
    a6_fits timeout (Out out_stage.Asked waiting) e =
        by_test (λ (x : Done). Fits x.0 came put) (is_asked s.out_successor.opening) _
        (unexpected s) (λ f. answers waiting timeout e f) (λ f. h)
    a6_fits timeout (Out out_stage.Answered waiting) e = h
    a6_fits timeout (Out out_stage.Switched waiting) e = h
    a6_fits timeout (Out out_stage.Finished waiting) e = h

    a6_row : (n to timeout : ℕ) → Fits (on_out_r1_a6 s n to timeout).0 came put
    a6_row n to timeout =
        by_test (λ (x : Done). Fits x.0 came put) (to == 0 && is_current s n)
        (a6_by s timeout s.replacement) (unexpected s)
        (λ e. a6_fits timeout s.replacement refl) (λ e. h)

    finishes : (waiting : Waits) → s.replacement ≡ Out out_stage.Switched waiting
        → s.line.has_next ≡ true
        → Fits (record s {
          line = record (s.line) { finished = true };
          replacement = Out out_stage.Finished waiting;
        }) came put
    finishes waiting e there =
        let k = by_replacement window known came put s (Out out_stage.Switched waiting) e h in
        record {
          numbered = k.numbered;
          lined = record {
            size = k.lined.size;
            told = k.lined.told;
            next_told = k.lined.next_told;
            next_held = k.lined.next_held;
            finished = refl;
            there = λ f. there;
          };
          counted = record { now = k.counted.now; next = k.counted.next };
          risen = k.risen;
          says = k.says;
          up = k.up;
          acks = k.acks;
        }

    a10_row : (n : ℕ) (r : Replacement) → s.replacement ≡ r
        → Row (Packet named.OutR1A10) (a10_by s n r)
    a10_row n NoneUnderWay e = h
    a10_row n (In stage out_waits) e = h
    a10_row n (Out out_stage.Asked waiting) e = h
    a10_row n (Out out_stage.Answered waiting) e = h
    a10_row n (Out out_stage.Finished waiting) e = h
    a10_row n (Out out_stage.Switched waiting) e =
        by_test (Row (Packet named.OutR1A10)) (s.line.has_next && is_current s n)
        (taken (passed (record s {
          line = after_finish s.line;
          replacement = Out out_stage.Finished waiting;
        }))) (unexpected s)
        (λ f. keep_row (Packet named.OutR1A10) (taken (passed (record s {
          line = after_finish s.line;
          replacement = Out out_stage.Finished waiting;
        })))
        (settles window known came put (record s {
          line = record (s.line) { finished = true };
          replacement = Out out_stage.Finished waiting;
        }) (finishes waiting e (and_parts s.line.has_next (is_current s n) f).0)))
        (λ f. h)

    -- ---- the table

    table_row : (n : ℕ) (count : Count) (m : Named) → Row (Packet m) (on_packet s n count m)
    table_row n count (named.ConnA3 t) =
        same_row (Packet (named.ConnA3 t)) (on_conn_a3 s n count t) (same_conn_a3 s n count t)
    table_row n count (named.ConnC2 v w t) =
        same_row (Packet (named.ConnC2 v w t)) (on_conn_c2 s n w t) (same_conn_c2 s n w t)
    table_row n count (named.AckTo to r a of) =
        same_row (Packet (named.AckTo to r a of)) (on_ack_to s to r a of) (same_ack_to s to r a of)
    table_row n count (named.InR1A4 to v w t) =
        same_row (Packet (named.InR1A4 to v w t)) (on_in_r1_a4 s to w t) (same_in_r1_a4 s to w t)
    table_row n count (named.InR2A4 to) =
        same_row (Packet (named.InR2A4 to)) (on_in_r2_a4 s to) (same_in_r2_a4 s to)
    table_row n count (named.OutR1A2 to) =
        keep_row (Packet (named.OutR1A2 to)) (on_out_r1_a2 s n to) (a2_row n to)
    table_row n count (named.OutR1A6 to v t) =
        keep_row (Packet (named.OutR1A6 to v t)) (on_out_r1_a6 s n to t) (a6_row n to t)
    table_row n count named.OutR1A10 = a10_row n s.replacement refl
    table_row n count named.EndB2 =
        by_test (Row (Packet named.EndB2)) (is_open s.phase) (end_on s (end_channel s n))
        (unexpected s) (λ e. end_row (end_channel s n)) (λ e. h)
    table_row n count m = h

    packet_row : (count : Count) (m : Named)
        → Row (Packet m) (packet_by s leg.number count m ClientOut)
    packet_row count m =
        by_test (Row (Packet m)) (is_current s leg.number || is_out_successor s leg.number)
        (on_packet s leg.number count m) (unexpected s) (λ e. table_row leg.number count m)
        (λ e. h)

  -- ---- by the kind of the leg

  pub pdu_fits : (s : ClientRole) (leg : Leg) (kind : LegKind) (bytes : List ℕ)
      (came put : List OnLeg) → leg.kind ≡ kind
      → (known.UpFirst → leg ≡ co 1 → known.FirstUp)
      → Fits s came put → RowKeeps Fits (leg, Pdu bytes) came put (pdu_by s leg.number bytes kind)
  pdu_fits s leg ClientOut bytes came put e late h = pdu_row s leg came put h e bytes late
  pdu_fits s leg OutServer bytes came put e late h = h
  pdu_fits s leg ClientIn bytes came put e late h = h
  pdu_fits s leg InServer bytes came put e late h = h

  pub packet_fits : (s : ClientRole) (leg : Leg) (kind : LegKind) (count : Count) (m : Named)
      (came put : List OnLeg) → leg.kind ≡ kind → Fits s came put
      → RowKeeps Fits (leg, Packet m) came put (packet_by s leg.number count m kind)
  packet_fits s leg ClientOut count m came put e h = packet_row s leg came put h e count m
  packet_fits s leg OutServer count m came put e h = h
  packet_fits s leg ClientIn count m came put e h = h
  packet_fits s leg InServer count m came put e h = h

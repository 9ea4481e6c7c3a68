-- where all that came to a client has its ranges, it watches no OUT channel for less than the least
-- timeout
use Rattle.law_order.proofs.Vocabulary.{◌≡◌, ◌≤◌, ℕ, ◌==◌, ◌&&◌, ◌||◌, List, [], ◌∷◌, ◌++◌, Bool, true, false, cond, Some, None, Ok, Err, sym, subst}
use Rattle.rh_sig.specs.declared.named.Named.TheVariants as named
use Rattle.rh_sig.specs.declared.ranges.TheConstants.{LEAST_TIMEOUT}
use Rattle.rh_client.specs.declared.replacement.OutStage.TheVariants as out_stage
use Rattle.rh_client.specs.Client as client
use Rattle.rh_client.specs.Time.{silence, silence_by}
use Rattle.law_moves.proofs.Vocabulary.{by_test, Named, ClientConfig, Leg, LegKind, ClientOut, OutServer, ClientIn, InServer, Count, is_zero, Pdu, Packet, OnLeg, EndMove, EndPassage, all_end_moved, end_started, AreFine, IsFineMessage}
use Rattle.law_moves.proofs.Lemmas.{RowKeeps, PutKeeps, StepsKeep, ActsKeep, end_moves_keep}
use Rattle.law_role_client.proofs.Vocabulary.{ClientRole, Replacement, NoneUnderWay, In, Out, Done, Pick, first, taken, unexpected, is_current, is_out_successor, is_asked, on_conn_a3, on_out_r1_a6, a6_by, pdu, packet_by, on_packet, put, put_by}
use Rattle.law_node_causes.proofs.MoveRoles.{behind_put}
use Rattle.law_node_causes.proofs.ClientSteps.{Sides, sides, StepLaws, with_replacement, packet_later, pdu_later, up_later, pick_later, put_by_later, drawn_same, ping_same, give_same, take_later, recycle_later}

-- what was told of the OUT channels is no less
record IsLong (x : Sides) : Type 0 where
  now : (t : ℕ) → x.outs.limit ≡ Some t → LEAST_TIMEOUT ≤ t
  next : (t : ℕ) → x.outs.next_limit ≡ Some t → LEAST_TIMEOUT ≤ t

abbrev Step : Sides → Sides → Type 0
Step x y = IsLong y

long : StepLaws IsLong Step
long = record {
  self = λ x h. h;
  joined = λ x y z p q. q;
  good = λ x y p. p;
  in_now = λ x h. record { now = h.now; next = h.next };
  in_next = λ x h. record { now = h.now; next = h.next };
  out_now = λ x h. record { now = h.now; next = h.next };
  out_next = λ x h. record { now = h.now; next = h.next };
  in_begins = λ x e last h. record { now = h.now; next = h.next };
  out_begins = λ x e last h. record { now = h.now; next = λ t is. absurd cc };
  in_shifts = λ x e h. record { now = h.now; next = h.next };
  out_shifts = λ x e h. record { now = h.next; next = λ t is. absurd cc };
}

-- ---- what came

parts : (came : List OnLeg) (one : OnLeg) → AreFine (came ++ one ∷ [])
    → AreFine came × IsFineMessage one.1
parts [] one all = (tt, all.0)
parts (x ∷ came) one all =
    let rest = parts came one all.1 in ((all.0, rest.0), rest.1)

abbrev Kept : ClientRole → List OnLeg → List OnLeg → Type 0
Kept s came put = AreFine came → IsLong (sides s)

told_limit : (t u : ℕ) → LEAST_TIMEOUT ≤ t → Some t ≡ Some u → LEAST_TIMEOUT ≤ u
told_limit t u least is =
    let same : t ≡ u = cc in subst (λ (n : ℕ). LEAST_TIMEOUT ≤ n) same least

-- ---- rows

-- a message that tells nothing
quiet : (one : OnLeg) (came puts : List OnLeg) (x : Done) → (AreFine came → IsLong (sides x.0))
    → RowKeeps Kept one came puts x
quiet one came puts (t, Ok took) h = λ fine. h (parts came one fine).0
quiet one came puts (t, Err why) h = h

a3_keeps : (s : ClientRole) (leg : Leg) (n : ℕ) (count : Count) (timeout : ℕ)
    (came puts : List OnLeg) → Kept s came puts
    → RowKeeps Kept (leg, Packet (named.ConnA3 timeout)) came puts (on_conn_a3 s n count timeout)
a3_keeps s leg n count timeout came puts h =
    let one : OnLeg = (leg, Packet (named.ConnA3 timeout)) in
    by_test (RowKeeps Kept one came puts) (n == 1 && (is_current s n && is_zero count))
    (taken (record s { current = record (s.current) { timeout = Some timeout } })) (unexpected s)
    (λ e fine. let p = parts came one fine in
    record {
      now = λ t is. told_limit timeout t p.1.ranges.0.0 is;
      next = (h p.0).next;
    })
    (λ e. h)

a6_by_keeps : (s : ClientRole) (leg : Leg) (to version timeout : ℕ) (r : Replacement)
    (came puts : List OnLeg) → Kept (with_replacement s r) came puts
    → RowKeeps Kept (leg, Packet (named.OutR1A6 to version timeout)) came puts
    (a6_by (with_replacement s r) timeout r)
a6_by_keeps s leg to version timeout NoneUnderWay came puts h = h
a6_by_keeps s leg to version timeout (In stage w) came puts h = h
a6_by_keeps s leg to version timeout (Out out_stage.Answered w) came puts h = h
a6_by_keeps s leg to version timeout (Out out_stage.Switched w) came puts h = h
a6_by_keeps s leg to version timeout (Out out_stage.Finished w) came puts h = h
a6_by_keeps s leg to version timeout (Out out_stage.Asked w) came puts h =
    let t : ClientRole = with_replacement s (Out out_stage.Asked w) in
    let one : OnLeg = (leg, Packet (named.OutR1A6 to version timeout)) in
    by_test (RowKeeps Kept one came puts) (is_asked t.out_successor.opening)
    (taken (record t {
      out_successor = record (t.out_successor) { timeout = Some timeout };
      replacement = Out out_stage.Answered w;
    })) (unexpected t)
    (λ e fine. let p = parts came one fine in
    record {
      now = (h p.0).now;
      next = λ u is. told_limit timeout u p.1.ranges.1.1.0.0 is;
    })
    (λ e. h)

a6_keeps : (s : ClientRole) (leg : Leg) (n to version timeout : ℕ) (came puts : List OnLeg)
    → Kept s came puts
    → RowKeeps Kept (leg, Packet (named.OutR1A6 to version timeout)) came puts
    (on_out_r1_a6 s n to timeout)
a6_keeps s leg n to version timeout came puts h =
    by_test (RowKeeps Kept (leg, Packet (named.OutR1A6 to version timeout)) came puts)
    (to == 0 && is_current s n) (a6_by s timeout s.replacement) (unexpected s)
    (λ e. a6_by_keeps s leg to version timeout s.replacement came puts h) (λ e. h)

-- on a leg that is the current channel's or its successor's
on_keeps : (s : ClientRole) (leg : Leg) (count : Count) (packet : Named) (k : LegKind)
    (came puts : List OnLeg) → Kept s came puts
    → RowKeeps Kept (leg, Packet packet) came puts (on_packet s leg.number count packet)
    → RowKeeps Kept (leg, Packet packet) came puts (packet_by s leg.number count packet k)
on_keeps s leg count packet ClientOut came puts h row =
    by_test (RowKeeps Kept (leg, Packet packet) came puts)
    (is_current s leg.number || is_out_successor s leg.number)
    (on_packet s leg.number count packet) (unexpected s) (λ e. row) (λ e. h)
on_keeps s leg count packet OutServer came puts h row = h
on_keeps s leg count packet ClientIn came puts h row = h
on_keeps s leg count packet InServer came puts h row = h

packet_keeps : (s : ClientRole) (leg : Leg) (count : Count) (packet : Named)
    (came puts : List OnLeg) → Kept s came puts
    → RowKeeps Kept (leg, Packet packet) came puts (packet_by s leg.number count packet leg.kind)
packet_keeps s leg count (named.ConnA3 timeout) came puts h =
    on_keeps s leg count (named.ConnA3 timeout) leg.kind came puts h
    (a3_keeps s leg leg.number count timeout came puts h)
packet_keeps s leg count (named.OutR1A6 to version timeout) came puts h =
    on_keeps s leg count (named.OutR1A6 to version timeout) leg.kind came puts h
    (a6_keeps s leg leg.number to version timeout came puts h)
packet_keeps s leg count packet came puts h =
    quiet (leg, Packet packet) came puts (packet_by s leg.number count packet leg.kind)
    (λ fine. packet_later IsLong Step long s leg.number count packet leg.kind
    (record { a3 = λ timeout e. absurd cc; a6 = λ to version timeout e. absurd cc }) (h fine))

-- ---- moves

put_keeps : (s : ClientRole) (leg : Leg) (came puts : List OnLeg) (pick : Pick)
    → (AreFine came → IsLong (sides (behind_put s pick))) → PutKeeps Kept leg came puts pick
put_keeps s leg came puts None h = tt
put_keeps s leg came puts (Some pick) h = h

steps_keep : StepsKeep client.rules Kept
steps_keep = record {
  up = λ s leg cookie came puts h fine.
      up_later IsLong Step long s leg.number cookie leg.kind (h fine);
  head = λ s leg text came puts h. h;
  pdu = λ s leg count bytes came puts h.
      quiet (leg, Pdu bytes) came puts (pdu s leg count bytes)
      (λ fine. pdu_later IsLong Step long s leg.number bytes leg.kind (h fine));
  packet = λ s leg count packet came puts h. packet_keeps s leg count packet came puts h;
  put = λ s leg came puts h.
      put_keeps s leg came puts (put s leg)
      (λ fine. pick_later IsLong Step long s (put_by s leg.number leg.kind) (h fine)
      (put_by_later IsLong Step long s leg.number leg.kind (h fine)));
  drawn = λ s leg came puts h fine.
      subst IsLong (sym (drawn_same IsLong Step long s leg.number leg.kind)) (h fine);
  mark = λ s leg came puts h. h;
  ping = λ s leg came puts h fine.
      subst IsLong (sym (ping_same IsLong Step long s leg.number leg.kind)) (h fine);
}

acts_keep : ActsKeep client.acts Kept
acts_keep = record {
  give = λ s bytes came puts h fine.
      subst IsLong (sym (give_same IsLong Step long s bytes)) (h fine);
  take = λ s came puts h fine. take_later IsLong Step long s (h fine);
  close = λ s came puts h fine. record { now = (h fine).now; next = (h fine).next };
  recycle = λ s came puts h fine. recycle_later IsLong Step long s s.replacement (h fine);
}

-- ---- what is watched

watched : (s : ClientRole) (n limit : ℕ) (k : LegKind) → IsLong (sides s)
    → silence_by s n k ≡ Some limit → LEAST_TIMEOUT ≤ limit
watched s n limit OutServer h e = absurd cc
watched s n limit ClientIn h e = absurd cc
watched s n limit InServer h e = absurd cc
watched s n limit ClientOut h e = by (is_current s n) e
  where
    by_next : (t : Bool) → cond t s.out_successor.timeout None ≡ Some limit
        → LEAST_TIMEOUT ≤ limit
    by_next false is = absurd cc
    by_next true is = h.next limit is

    by : (t : Bool) → cond t s.current.timeout
        (cond (is_out_successor s n) s.out_successor.timeout None) ≡ Some limit
        → LEAST_TIMEOUT ≤ limit
    by true is = h.now limit is
    by false is = by_next (is_out_successor s n) is

pub long_watched : (config : ClientConfig) (moves : List EndMove)
    → (let p = all_end_moved client.rules client.acts (end_started (first config)) moves in
    AreFine p.passage.came → (leg : Leg) (limit : ℕ)
    → silence p.passage.role leg ≡ Some limit → LEAST_TIMEOUT ≤ limit)
long_watched config moves = λ fine leg limit e.
    let start : EndPassage ClientRole = end_started (first config) in
    let p = all_end_moved client.rules client.acts start moves in
    watched p.passage.role leg.number limit leg.kind
    (end_moves_keep client.rules Kept steps_keep client.acts acts_keep start moves
    (λ none. record { now = λ t is. absurd cc; next = λ t is. absurd cc }) fine) e

-- what a client's state says of the room on its legs: each step that puts nothing keeps it
use Rattle.law_order.proofs.Vocabulary.{◌≡◌, ℕ, ◌+◌, ◌-◌, ◌≤◌, ◌==◌, Bool, true, false, not, ◌&&◌, ◌||◌, nat_lt, IsTrue, List, Some, Ok, Err, rules, arith, refl, sym, subst, ap, ◌∙◌, Result}
use Rattle.rh_sig.specs.declared.named.Named.TheVariants as named
use Rattle.rh_shell.specs.declared.answers.Phase.TheVariants as phase
use Rattle.rh_client.specs.declared.replacement.InStage.TheVariants as in_stage
use Rattle.rh_client.specs.declared.replacement.OutStage.TheVariants as out_stage
use Rattle.rh_client.specs.declared.replacement.Waits.TheVariants as waits
use Rattle.rh_client.specs.Client as client
use Rattle.law_moves.proofs.Vocabulary.{Meter, by_test, same_number, Cookie, Named, ClientConfig, after_finish, after_take, LegKind, ClientOut, OutServer, ClientIn, InServer, Count, RecycleRefused, Last}
use Rattle.law_role_client.proofs.Vocabulary.{Opening, NotUp, Request, First, Second, Put, LAST_NUMBER, OUT_R1_A3_C1_LEN, Replacement, NoneUnderWay, In, Out, Waits, ClientRole, is_up, is_put, is_asked, is_named, unopened_in, unopened_out, in_up, out_up, told_in, is_in, is_out, has_out, with_in, with_out, Done, taken, unexpected, is_open, is_writing, is_in_successor, is_current, is_out_successor, is_over, begin_in, begin_out, after_in, after_out, wants_by, up_by, with_next}
use Rattle.law_role_client.proofs.Vocabulary.{on_conn_a3, on_conn_c2, on_pdu, on_ack_to, ack_named, on_in_r1_a4, answered, answer_by, recycle_by, wish_by, wished, wants_successor, succeeded, ended_or, pass_by, passed, a2_by, a6_by, a10_by, on_out_r1_a2, on_out_r1_a6, give, take, drawn_by, on_end_b2, ping_by, settled_or_wished, on_packet, packet_by}
use Rattle.law_node_begins.proofs.EndsBegin.ClientFronts.{has_begun}
use Rattle.law_node_begins.proofs.EndsBegin.Stands.{NumberLogs}
use Rattle.law_world_bodies.proofs.Rooms.{Channel, channel, Front, IsFront, IsFollowed, IsLast, next_begins, hands_over}
use Rattle.law_world_bodies.specs.Bodies.{RequestTells}

-- ---- what the state says

-- of the channel's lifetime
abbrev pub room_in : Meter → ℕ
room_in meter = meter.length - meter.count

-- for CONN/A1
abbrev pub room_now : Opening → ℕ
room_now NotUp = 76
room_now Request = 76
room_now First = 76
room_now Second = 0
room_now Put = 0

-- for OUT_R1/A3 and OUT_R2/C1
abbrev pub room_next : Opening → ℕ
room_next NotUp = 120
room_next Request = 120
room_next First = 120
room_next Second = 24
room_next Put = 0

-- which direction is replaced
pub record Flags : Type 0 where
  pub ins : Bool
  pub outs : Bool

abbrev pub flags : Replacement → Flags
flags r = record { ins = is_in r; outs = is_out r }

-- the channels of both directions
pub record Fronts : Type 0 where
  pub config : ClientConfig
  pub ins : Front
  pub outs : Front

abbrev pub fronts_by : ClientRole → Flags → Fronts
fronts_by s f = record {
  config = s.config;
  ins = record {
    now = channel s.writing.number (has_begun s.writing.opening) (room_in s.writing.meter);
    replaced = f.ins;
    next = channel s.in_successor.number (has_begun s.in_successor.opening)
        (room_in s.in_successor.meter);
  };
  outs = record {
    now = channel s.current.number (has_begun s.current.opening) (room_now s.current.opening);
    replaced = f.outs;
    next = channel s.out_successor.number (has_begun s.out_successor.opening)
        (room_next s.out_successor.opening);
  };
}

abbrev pub fronts : ClientRole → Fronts
fronts s = fronts_by s (flags s.replacement)

-- what stands on the legs of IN and of OUT channels
pub record Legs : Type 0 where
  pub ins : NumberLogs
  pub outs : NumberLogs

module _ (config : ClientConfig) where
  abbrev pub TellsIn : ℕ → List ℕ → Type 0
  TellsIn = RequestTells config ClientIn

  abbrev pub TellsOut : ℕ → List ℕ → Type 0
  TellsOut = RequestTells config ClientOut

  -- the logs are as the state says
  pub record Kept (logs : Legs) (f : Fronts) : Type 0 where
    pub config_stays : f.config ≡ config
    pub ins : IsFront TellsIn config.lifetime f.ins logs.ins
    pub outs : IsFront TellsOut OUT_R1_A3_C1_LEN f.outs logs.outs

  -- where no replacement is under way
  pub record Still (logs : Legs) (f : Fronts) : Type 0 where
    pub config_stays : f.config ≡ config
    pub ins : IsLast TellsIn config.lifetime f.ins.now logs.ins
    pub outs : IsLast TellsOut OUT_R1_A3_C1_LEN f.outs.now logs.outs

  abbrev pub Keeps : Legs → ClientRole → Type 0
  Keeps logs s = Kept logs (fronts s)

  abbrev pub IsStill : Legs → ClientRole → Type 0
  IsStill logs s = Still logs (fronts s)

  -- by a replacement that is known
  pub by_replacement : (logs : Legs) (s : ClientRole) (f : Flags) → flags s.replacement ≡ f
      → Keeps logs s → Kept logs (fronts_by s f)
  by_replacement logs s f e k = subst (λ x. Kept logs (fronts_by s x)) e k

  -- another one of the same direction
  pub restated : (logs : Legs) (s : ClientRole) (r t : Replacement) → s.replacement ≡ r
      → flags r ≡ flags t → Keeps logs s → Keeps logs (record s { replacement = t })
  restated logs s r t e same k = by_replacement logs s (flags t) (ap flags e ∙ same) k

  still : (logs : Legs) (s : ClientRole) → s.replacement ≡ NoneUnderWay → Keeps logs s
      → IsStill logs s
  still logs s e k =
      let by = by_replacement logs s (flags NoneUnderWay) (ap flags e) k in
      record { config_stays = by.config_stays; ins = by.ins; outs = by.outs }

  -- ---- replacements

  none_keeps : (logs : Legs) (s : ClientRole) → IsStill logs s
      → Keeps logs (record s { replacement = NoneUnderWay })
  none_keeps logs s k =
      record { config_stays = k.config_stays; ins = k.ins; outs = k.outs }

  lifetime_within : (other : ClientConfig) → other ≡ config → other.lifetime - 0 ≤ config.lifetime
  lifetime_within other e =
      let same : other.lifetime ≡ config.lifetime = ap (λ (c : ClientConfig). c.lifetime) e in
      omega (arith, same)

  begin_in_keeps : (logs : Legs) (s : ClientRole) (w : Bool) → IsStill logs s
      → Keeps logs (begin_in s w)
  begin_in_keeps logs s w k =
      by_test (Keeps logs) (nat_lt s.writing.number LAST_NUMBER)
      (record s {
        in_successor = unopened_in (s.writing.number + 1) s.config.lifetime;
        replacement = In in_stage.Asked w;
      })
      (record s { replacement = NoneUnderWay })
      (λ e. record {
        config_stays = k.config_stays;
        ins = (
          k.ins.0,
          next_begins TellsIn config.lifetime (fronts s).ins.now (s.config.lifetime - 0) logs.ins
              (lifetime_within s.config k.config_stays) k.ins.1,
        );
        outs = k.outs;
      })
      (λ e. none_keeps logs s k)

  begin_out_keeps : (logs : Legs) (s : ClientRole) (w : Waits) → IsStill logs s
      → Keeps logs (begin_out s w)
  begin_out_keeps logs s w k =
      by_test (Keeps logs) (nat_lt s.current.number LAST_NUMBER)
      (record s {
        out_successor = unopened_out (s.current.number + 1);
        replacement = Out out_stage.Asked w;
      })
      (record s { replacement = NoneUnderWay })
      (λ e. record {
        config_stays = k.config_stays;
        ins = k.ins;
        outs = (
          k.outs.0,
          next_begins TellsOut OUT_R1_A3_C1_LEN (fronts s).outs.now 120 logs.outs (omega arith)
              k.outs.1,
        );
      })
      (λ e. none_keeps logs s k)

  pub after_in_keeps : (logs : Legs) (s : ClientRole) (w : Bool) → IsStill logs s
      → Keeps logs (after_in s w)
  after_in_keeps logs s true k = begin_out_keeps logs s waits.Nothing k
  after_in_keeps logs s false k = none_keeps logs s k

  after_out_keeps : (logs : Legs) (s : ClientRole) (w : Waits) → IsStill logs s
      → Keeps logs (after_out s w)
  after_out_keeps logs s waits.Nothing k = none_keeps logs s k
  after_out_keeps logs s waits.In k = begin_in_keeps logs s false k
  after_out_keeps logs s waits.Out k = begin_out_keeps logs s waits.Nothing k
  after_out_keeps logs s waits.InThenOut k = begin_in_keeps logs s true k
  after_out_keeps logs s waits.OutThenIn k = begin_out_keeps logs s waits.In k

  wish_keeps : (logs : Legs) (s : ClientRole) (r : Replacement) → s.replacement ≡ r
      → Keeps logs s → Keeps logs (wish_by s r)
  wish_keeps logs s NoneUnderWay e k = begin_in_keeps logs s false (still logs s e k)
  wish_keeps logs s (In stage w) e k = k
  wish_keeps logs s (Out stage w) e k =
      restated logs s (Out stage w) (Out stage (with_in w)) e refl k

  pub settled_keeps : (logs : Legs) (s : ClientRole) → Keeps logs s
      → Keeps logs (settled_or_wished s)
  settled_keeps logs s k =
      by_test (Keeps logs) (is_over s) (record s { phase = phase.Ended }) (wished s) (λ e. k)
      (λ e. by_test (Keeps logs) (wants_successor s) (wish_by s s.replacement) s
      (λ o. wish_keeps logs s s.replacement refl k) (λ o. k))

  ended_or_keeps : (logs : Legs) (s : ClientRole) (w : Waits) → s.replacement ≡ NoneUnderWay
      → Keeps logs s → Keeps logs (ended_or s w)
  ended_or_keeps logs s w e k =
      by_test (Keeps logs) (is_over s) (record s { phase = phase.Ended }) (after_out s w)
      (λ o. k) (λ o. after_out_keeps logs s w (still logs s e k))

  -- as a successor an OUT channel has no less room than in use
  less_room : (o : Opening) → room_now o ≤ room_next o
  less_room NotUp = omega arith
  less_room Request = omega arith
  less_room First = omega arith
  less_room Second = omega arith
  less_room Put = omega arith

  -- the successor is the current channel
  succeeded_keeps : (logs : Legs) (s : ClientRole) (w : Waits)
      → s.replacement ≡ Out out_stage.Finished w → Keeps logs s → Keeps logs (succeeded s)
  succeeded_keeps logs s w e k =
      let by = by_replacement logs s (flags (Out out_stage.Finished w)) (ap flags e) k in
      record {
        config_stays = by.config_stays;
        ins = by.ins;
        outs =
            hands_over TellsOut OUT_R1_A3_C1_LEN (fronts s).outs.now (fronts s).outs.next
            (room_now s.out_successor.opening) logs.outs (less_room s.out_successor.opening)
            by.outs.0 by.outs.1;
      }

  pass_keeps : (logs : Legs) (s : ClientRole) (r : Replacement) → s.replacement ≡ r
      → Keeps logs s → Keeps logs (pass_by s r)
  pass_keeps logs s NoneUnderWay e k = k
  pass_keeps logs s (In stage w) e k = k
  pass_keeps logs s (Out out_stage.Asked w) e k = k
  pass_keeps logs s (Out out_stage.Answered w) e k = k
  pass_keeps logs s (Out out_stage.Switched w) e k = k
  pass_keeps logs s (Out out_stage.Finished w) e k =
      by_test (Keeps logs) s.line.has_next s (ended_or (succeeded s) w) (λ o. k)
      (λ o. ended_or_keeps logs (succeeded s) w refl (succeeded_keeps logs s w e k))

  pub recycle_keeps : (logs : Legs) (s : ClientRole) (r : Replacement) → s.replacement ≡ r
      → Keeps logs s → Keeps logs (recycle_by s r).0
  recycle_keeps logs s NoneUnderWay e k =
      by_test (λ (x : ClientRole × Result (Unit {0}) RecycleRefused). Keeps logs x.0)
      (nat_lt s.writing.number LAST_NUMBER) (begin_in s false, Ok tt) (s, Err Last)
      (λ o. begin_in_keeps logs s false (still logs s e k)) (λ o. k)
  recycle_keeps logs s (In stage w) e k = k
  recycle_keeps logs s (Out stage w) e k = k

  pub take_keeps : (logs : Legs) (s : ClientRole) → Keeps logs s → Keeps logs (take s)
  take_keeps logs s k =
      pass_keeps logs (record s { line = after_take s.line }) s.replacement refl k

  -- ---- rows

  abbrev RowKeeps : Legs → Done → Type 0
  RowKeeps logs d = Keeps logs d.0

  -- a step that leaves it alone
  pub same : (logs : Legs) (s t : ClientRole) → fronts t ≡ fronts s → Keeps logs s → Keeps logs t
  same logs s t e k = subst (λ f. Kept logs f) (sym e) k

  a2_keeps : (logs : Legs) (s : ClientRole) (n : ℕ) (r : Replacement) → s.replacement ≡ r
      → Keeps logs s → RowKeeps logs (a2_by s n r)
  a2_keeps logs s n NoneUnderWay e k = begin_out_keeps logs s waits.Nothing (still logs s e k)
  a2_keeps logs s n (In stage true) e k = k
  a2_keeps logs s n (In stage false) e k =
      restated logs s (In stage false) (In stage true) e refl k
  a2_keeps logs s n (Out stage w) e k =
      by_test (RowKeeps logs) (is_out_successor s n && not (has_out w))
      (taken (record s { replacement = Out stage (with_out w) })) (unexpected s)
      (λ o. restated logs s (Out stage w) (Out stage (with_out w)) e refl k) (λ o. k)

  a2_row : (logs : Legs) (s : ClientRole) (n to : ℕ) → Keeps logs s
      → RowKeeps logs (on_out_r1_a2 s n to)
  a2_row logs s n to k =
      by_test (RowKeeps logs) (is_open s.phase && (to == 0 && nat_lt n LAST_NUMBER))
      (a2_by s n s.replacement) (unexpected s)
      (λ e. a2_keeps logs s n s.replacement refl k) (λ e. k)

  a10_keeps : (logs : Legs) (s : ClientRole) (n : ℕ) (r : Replacement) → s.replacement ≡ r
      → Keeps logs s → RowKeeps logs (a10_by s n r)
  a10_keeps logs s n NoneUnderWay e k = k
  a10_keeps logs s n (In stage w) e k = k
  a10_keeps logs s n (Out out_stage.Asked w) e k = k
  a10_keeps logs s n (Out out_stage.Answered w) e k = k
  a10_keeps logs s n (Out out_stage.Switched w) e k =
      let f : ClientRole = record s {
        line = after_finish s.line;
        replacement = Out out_stage.Finished w;
      } in
      by_test (RowKeeps logs) (s.line.has_next && is_current s n) (taken (passed f)) (unexpected s)
      (λ o. pass_keeps logs f (Out out_stage.Finished w) refl
      (restated logs s (Out out_stage.Switched w) (Out out_stage.Finished w) e refl k)) (λ o. k)
  a10_keeps logs s n (Out out_stage.Finished w) e k = k

  -- IN_R1/A4 or IN_R2/A4: the successor was answered
  answer_keeps : (logs : Legs) (s : ClientRole) (window timeout : ℕ) (r : Replacement)
      → s.replacement ≡ r → Keeps logs s → RowKeeps logs (answer_by s window timeout r)
  answer_keeps logs s window timeout NoneUnderWay e k = k
  answer_keeps logs s window timeout (In in_stage.Asked w) e k =
      by_test (RowKeeps logs) (is_put s.in_successor.opening)
      (taken (record s {
        in_successor = told_in s.in_successor window timeout;
        replacement = In in_stage.Answered w;
      }))
      (unexpected s)
      (λ o. restated logs s (In in_stage.Asked w) (In in_stage.Answered w) e refl k) (λ o. k)
  answer_keeps logs s window timeout (In in_stage.Answered w) e k = k
  answer_keeps logs s window timeout (Out stage w) e k = k

  -- OUT_R1/A6: so was that of an OUT channel
  a6_keeps : (logs : Legs) (s : ClientRole) (timeout : ℕ) (r : Replacement) → s.replacement ≡ r
      → Keeps logs s → RowKeeps logs (a6_by s timeout r)
  a6_keeps logs s timeout NoneUnderWay e k = k
  a6_keeps logs s timeout (In stage w) e k = k
  a6_keeps logs s timeout (Out out_stage.Asked w) e k =
      by_test (RowKeeps logs) (is_asked s.out_successor.opening)
      (taken (record s {
        out_successor = record (s.out_successor) { timeout = Some timeout };
        replacement = Out out_stage.Answered w;
      }))
      (unexpected s)
      (λ o. restated logs s (Out out_stage.Asked w) (Out out_stage.Answered w) e refl k) (λ o. k)
  a6_keeps logs s timeout (Out out_stage.Answered w) e k = k
  a6_keeps logs s timeout (Out out_stage.Switched w) e k = k
  a6_keeps logs s timeout (Out out_stage.Finished w) e k = k

  ack_keeps : (logs : Legs) (s : ClientRole) (to r a : ℕ) (of : Cookie) → Keeps logs s
      → RowKeeps logs (on_ack_to s to r a of)
  ack_keeps logs s to r a of k =
      by_test (RowKeeps logs) (is_open s.phase && to == 0) (ack_named s r a of) (unexpected s)
      (λ e. by_test (RowKeeps logs) (is_named s.writing of) _ _ (λ f. k)
      (λ f. by_test (RowKeeps logs) (is_named s.in_successor of) _ _ (λ g. k)
      (λ g. by_test (RowKeeps logs) (is_named s.leaving of) _ _ (λ h. k) (λ h. k))))
      (λ e. k)

  a4_row : (logs : Legs) (s : ClientRole) (to window timeout : ℕ) → Keeps logs s
      → RowKeeps logs (on_in_r1_a4 s to window timeout)
  a4_row logs s to window timeout k =
      by_test (RowKeeps logs) (to == 0) (answered s window timeout) (unexpected s)
      (λ e. answer_keeps logs s window timeout s.replacement refl k) (λ e. k)

  a6_row : (logs : Legs) (s : ClientRole) (n to timeout : ℕ) → Keeps logs s
      → RowKeeps logs (on_out_r1_a6 s n to timeout)
  a6_row logs s n to timeout k =
      by_test (RowKeeps logs) (to == 0 && is_current s n) (a6_by s timeout s.replacement)
      (unexpected s) (λ e. a6_keeps logs s timeout s.replacement refl k) (λ e. k)

  same_a3 : (s : ClientRole) (n : ℕ) (count : Count) (timeout : ℕ)
      → fronts (on_conn_a3 s n count timeout).0 ≡ fronts s
  same_a3 s n count timeout = search rules

  same_c2 : (s : ClientRole) (n window timeout : ℕ)
      → fronts (on_conn_c2 s n window timeout).0 ≡ fronts s
  same_c2 s n window timeout = search rules

  same_end : (s : ClientRole) (n : ℕ) → fronts (on_end_b2 s n).0 ≡ fronts s
  same_end s n = search rules

  row_keeps : (logs : Legs) (s : ClientRole) (n : ℕ) (count : Count) (packet : Named)
      → Keeps logs s → RowKeeps logs (on_packet s n count packet)
  row_keeps logs s n count (named.ConnA3 t) k =
      same logs s (on_conn_a3 s n count t).0 (same_a3 s n count t) k
  row_keeps logs s n count (named.ConnC2 v w t) k =
      same logs s (on_conn_c2 s n w t).0 (same_c2 s n w t) k
  row_keeps logs s n count (named.AckTo to r a of) k = ack_keeps logs s to r a of k
  row_keeps logs s n count (named.InR1A4 to v w t) k = a4_row logs s to w t k
  row_keeps logs s n count (named.InR2A4 to) k =
      a4_row logs s to s.writing.told s.writing.timeout k
  row_keeps logs s n count (named.OutR1A2 to) k = a2_row logs s n to k
  row_keeps logs s n count (named.OutR1A6 to v t) k = a6_row logs s n to t k
  row_keeps logs s n count named.OutR1A10 k = a10_keeps logs s n s.replacement refl k
  row_keeps logs s n count named.EndB2 k =
      same logs s (on_end_b2 s n).0 (same_end s n) k
  row_keeps logs s n count packet k = k

  pub packet_keeps : (logs : Legs) (s : ClientRole) (n : ℕ) (count : Count) (packet : Named)
      (kind : LegKind) → Keeps logs s → RowKeeps logs (packet_by s n count packet kind)
  packet_keeps logs s n count packet ClientOut k =
      by_test (RowKeeps logs) (is_current s n || is_out_successor s n)
      (on_packet s n count packet) (unexpected s) (λ e. row_keeps logs s n count packet k)
      (λ e. k)
  packet_keeps logs s n count packet OutServer k = k
  packet_keeps logs s n count packet ClientIn k = k
  packet_keeps logs s n count packet InServer k = k

  same_pdu : (s : ClientRole) (n : ℕ) (bytes : List ℕ) → fronts (on_pdu s n bytes).0 ≡ fronts s
  same_pdu s n bytes = search rules

  pub pdu_keeps : (logs : Legs) (s : ClientRole) (n : ℕ) (bytes : List ℕ) (kind : LegKind)
      → Keeps logs s → RowKeeps logs (client.pdu_by s n bytes kind)
  pdu_keeps logs s n bytes ClientOut k = same logs s (on_pdu s n bytes).0 (same_pdu s n bytes) k
  pdu_keeps logs s n bytes OutServer k = k
  pdu_keeps logs s n bytes ClientIn k = k
  pdu_keeps logs s n bytes InServer k = k

  pub drawn_keeps : (logs : Legs) (s : ClientRole) (n : ℕ) (kind : LegKind) → Keeps logs s
      → Keeps logs (drawn_by s n kind)
  drawn_keeps logs s n kind k = same logs s (drawn_by s n kind) (search rules) k

  pub ping_keeps : (logs : Legs) (s : ClientRole) (n : ℕ) (kind : LegKind) → Keeps logs s
      → Keeps logs (ping_by s n kind)
  ping_keeps logs s n kind k = same logs s (ping_by s n kind) (search rules) k

  pub give_keeps : (logs : Legs) (s : ClientRole) (pdu : List ℕ) → Keeps logs s
      → Keeps logs (give s pdu).0
  give_keeps logs s pdu k = same logs s (give s pdu).0 (search rules) k

  -- ---- a wanted leg comes up

  -- where one of two legs is wanted that are not up, and it is not the second
  first_wanted : (a b c d : Bool) → (c ≡ true → ⊥) → IsTrue ((a && not b) || (c && not d))
      → b ≡ false
  first_wanted true false c d other h = refl
  first_wanted true true true d other h = absurd (other refl)
  first_wanted true true false d other h = absurd (cc)
  first_wanted false b true d other h = absurd (other refl)
  first_wanted false b false d other h = absurd (cc)

  second_wanted : (a b c d : Bool) → a ≡ false → IsTrue ((a && not b) || (c && not d))
      → d ≡ false
  second_wanted true b c d other h = absurd (cc)
  second_wanted false b true false other h = refl
  second_wanted false b true true other h = absurd (cc)
  second_wanted false b false d other h = absurd (cc)

  down : (o : Opening) → is_up o ≡ false → o ≡ NotUp
  down NotUp e = refl
  down Request e = absurd (cc)
  down First e = absurd (cc)
  down Second e = absurd (cc)
  down Put e = absurd (cc)

  -- the next one has another number
  apart : (Tells : ℕ → List ℕ → Type 0) (most : ℕ) (replaced : Bool) (n k : ℕ)
      (next : Channel) (on : NumberLogs) → IsFollowed Tells most replaced n next on
      → k == n ≡ true → (replaced && k == next.number) ≡ true → ⊥
  apart Tells most false n k next on is here e = absurd (cc)
  apart Tells most true n k next on is here e =
      let same = same_number k n here in
      let other = same_number k next.number e in
      let number = is.number in
      absurd (omega (arith, same, other, number))

  pub up_keeps : (logs : Legs) (s : ClientRole) (n : ℕ) (cookie : Cookie) (kind : LegKind)
      → IsTrue (wants_by s n kind) → Keeps logs s → Keeps logs (up_by s n cookie kind)
  up_keeps logs s n cookie ClientIn wants k =
      by_test (Keeps logs) (is_writing s n)
      (record s { writing = in_up s.writing cookie })
      (record s { in_successor = in_up s.in_successor cookie })
      (λ e.
      let not_up = down s.writing.opening
      (first_wanted (is_writing s n) (is_up s.writing.opening) (is_in_successor s n)
      (is_up s.in_successor.opening)
      (apart TellsIn config.lifetime (is_in s.replacement) s.writing.number n
      (fronts s).ins.next logs.ins k.ins.1 e) wants) in
      same logs s (record s { writing = in_up s.writing cookie })
      (ap (λ (o : Opening). record (fronts s) {
        ins = record ((fronts s).ins) {
          now = channel s.writing.number (has_begun o) (room_in s.writing.meter);
        };
      }) {x = NotUp} {y = s.writing.opening} (sym not_up)) k)
      (λ e.
      let not_up = down s.in_successor.opening
      (second_wanted (is_writing s n) (is_up s.writing.opening) (is_in_successor s n)
      (is_up s.in_successor.opening) e wants) in
      same logs s (record s { in_successor = in_up s.in_successor cookie })
      (ap (λ (o : Opening). record (fronts s) {
        ins = record ((fronts s).ins) {
          next = channel s.in_successor.number (has_begun o) (room_in s.in_successor.meter);
        };
      }) {x = NotUp} {y = s.in_successor.opening} (sym not_up)) k)
  up_keeps logs s n cookie ClientOut wants k =
      by_test (Keeps logs) (is_current s n)
      (record s { current = out_up s.current cookie })
      (record s {
        out_successor = out_up s.out_successor cookie;
        line = with_next s.line;
      })
      (λ e.
      let not_up = down s.current.opening
      (first_wanted (is_current s n) (is_up s.current.opening) (is_out_successor s n)
      (is_up s.out_successor.opening)
      (apart TellsOut OUT_R1_A3_C1_LEN (is_out s.replacement) s.current.number n
      (fronts s).outs.next logs.outs k.outs.1 e) wants) in
      same logs s (record s { current = out_up s.current cookie })
      (ap (λ (o : Opening). record (fronts s) {
        outs = record ((fronts s).outs) {
          now = channel s.current.number (has_begun o) (room_now o);
        };
      }) {x = NotUp} {y = s.current.opening} (sym not_up)) k)
      (λ e.
      let not_up = down s.out_successor.opening
      (second_wanted (is_current s n) (is_up s.current.opening) (is_out_successor s n)
      (is_up s.out_successor.opening) e wants) in
      same logs s (record s {
        out_successor = out_up s.out_successor cookie;
        line = with_next s.line;
      })
      (ap (λ (o : Opening). record (fronts s) {
        outs = record ((fronts s).outs) {
          next = channel s.out_successor.number (has_begun o) (room_next o);
        };
      }) {x = NotUp} {y = s.out_successor.opening} (sym not_up)) k)
  up_keeps logs s n cookie OutServer wants k = k
  up_keeps logs s n cookie InServer wants k = k

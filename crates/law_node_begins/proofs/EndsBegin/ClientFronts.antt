-- what a client's state says of what it put first: each step that puts nothing keeps it
use Rattle.law_order.proofs.Vocabulary.{◌≡◌, ℕ, ◌+◌, ◌==◌, Bool, true, false, not, ◌&&◌, ◌||◌, nat_lt, IsTrue, List, [], Some, Ok, Err, rules, refl, sym, subst, ap, ◌∙◌, Result}
use Rattle.rh_sig.specs.declared.named.Named.TheVariants as named
use Rattle.rh_shell.specs.declared.answers.Phase.TheVariants as phase
use Rattle.rh_client.specs.declared.replacement.InStage.TheVariants as in_stage
use Rattle.rh_client.specs.declared.replacement.OutStage.TheVariants as out_stage
use Rattle.rh_client.specs.declared.replacement.Waits.TheVariants as waits
use Rattle.rh_client.specs.Client as client
use Rattle.law_moves.proofs.Vocabulary.{by_test, Cookie, Named, ClientConfig, after_finish, after_take, LegKind, ClientOut, OutServer, ClientIn, InServer, Message, Count, RecycleRefused, Last}
use Rattle.law_role_client.proofs.Vocabulary.{Opening, NotUp, Request, First, Second, Put, LAST_NUMBER, Replacement, NoneUnderWay, In, Out, InStage, Waits, ClientRole, is_up, is_put, is_asked, is_named, unopened_in, unopened_out, in_up, out_up, told_in, is_in, is_out, has_out, with_in, with_out, Done, ci, co, taken, unexpected, is_open, is_writing, is_current, is_out_successor, is_over, begin_in, begin_out, after_in, after_out, wants_by, up_by, with_next, on_conn_a3}
use Rattle.law_role_client.proofs.Vocabulary.{on_conn_c2, on_pdu, on_ack_to, ack_named, on_in_r1_a4, on_in_r2_a4, answered, answer_by, recycle_by, wish_by, wished, wants_successor, succeeded, ended_or, pass_by, passed, a2_by, a6_by, a10_by, on_out_r1_a2, on_out_r1_a6, give, take, drawn_by, on_end_b2, ping_by, settled_or_wished, on_packet, packet_by}
use Rattle.law_role_client.proofs.Receiving.Rows.{asked_up}
use Rattle.law_role_client.proofs.Receiving.Replaced.{is_answered as out_answered_by}
use Rattle.law_node_begins.proofs.EndsBegin.Stands.{Logs}
use Rattle.law_node_begins.proofs.EndsBegin.Fronts.{Channel, channel, Front, IsFront, IsLast, next_begins, hands_over, now_rises, next_rises, next_answers}

-- ---- what the state says

-- the request was put
abbrev pub has_begun : Opening → Bool
has_begun NotUp = false
has_begun Request = false
has_begun First = true
has_begun Second = true
has_begun Put = true

abbrev pub opened : ℕ → Opening → Channel
opened number opening = channel number (is_up opening) (has_begun opening)

-- which direction is replaced, and whether its successor was answered
pub record Flags : Type 0 where
  pub ins : Bool
  pub in_answered : Bool
  pub outs : Bool
  pub out_answered : Bool

abbrev is_answered_in : InStage → Bool
is_answered_in in_stage.Asked = false
is_answered_in in_stage.Answered = true

abbrev in_answered_by : Replacement → Bool
in_answered_by NoneUnderWay = false
in_answered_by (In stage out_waits) = is_answered_in stage
in_answered_by (Out stage waiting) = false

abbrev pub flags : Replacement → Flags
flags r = record {
  ins = is_in r;
  in_answered = in_answered_by r;
  outs = is_out r;
  out_answered = out_answered_by r;
}

-- the channels of both directions
pub record Fronts : Type 0 where
  pub config : ClientConfig
  pub ins : Front
  pub outs : Front

abbrev pub fronts_by : ClientRole → Flags → Fronts
fronts_by s f = record {
  config = s.config;
  ins = record {
    now = opened s.writing.number s.writing.opening;
    replaced = f.ins;
    next = opened s.in_successor.number s.in_successor.opening;
    answered = f.in_answered;
  };
  outs = record {
    now = opened s.current.number s.current.opening;
    replaced = f.outs;
    next = opened s.out_successor.number s.out_successor.opening;
    answered = f.out_answered;
  };
}

abbrev pub fronts : ClientRole → Fronts
fronts s = fronts_by s (flags s.replacement)

-- nothing stands on the legs of the servers
abbrev pub IsApart : Logs → Type 0
IsApart logs = (n : ℕ)
    → (logs (record { kind = OutServer; number = n }) ≡ [])
    × (logs (record { kind = InServer; number = n }) ≡ [])

-- the logs are as the state says; which OUT channels came up is not asked
pub record Kept (config : ClientConfig) (IsFirst : List ℕ → Type 0) (came : ℕ → Type 0)
    (logs : Logs) (f : Fronts) : Type 0 where
  pub config_stays : f.config ≡ config
  pub ins : IsFront IsFirst came f.ins (λ n. logs (ci n))
  pub outs : IsFront IsFirst (λ n. Unit {0}) f.outs (λ n. logs (co n))
  pub apart : IsApart logs

-- where no replacement is under way
pub record Still (config : ClientConfig) (IsFirst : List ℕ → Type 0) (came : ℕ → Type 0)
    (logs : Logs) (f : Fronts) : Type 0 where
  pub config_stays : f.config ≡ config
  pub ins : IsLast IsFirst came f.ins.now (λ n. logs (ci n))
  pub outs : IsLast IsFirst (λ n. Unit {0}) f.outs.now (λ n. logs (co n))
  pub apart : IsApart logs

-- ---- openings: what was put was put on a leg that is up

pub up_first : (opening : Opening) → has_begun opening ≡ true → is_up opening ≡ true
up_first NotUp e = absurd (cc)
up_first Request e = refl
up_first First e = refl
up_first Second e = refl
up_first Put e = refl

put_up : (opening : Opening) → is_put opening ≡ true → is_up opening ≡ true
put_up NotUp e = absurd (cc)
put_up Request e = refl
put_up First e = refl
put_up Second e = refl
put_up Put e = refl

module _ (config : ClientConfig) (IsFirst : List ℕ → Type 0) (came : ℕ → Type 0) where
  abbrev pub Keeps : Logs → ClientRole → Type 0
  Keeps logs s = Kept config IsFirst came logs (fronts s)

  abbrev pub IsStill : Logs → ClientRole → Type 0
  IsStill logs s = Still config IsFirst came logs (fronts s)

  -- by a replacement that is known
  pub by_replacement : (logs : Logs) (s : ClientRole) (f : Flags) → flags s.replacement ≡ f
      → Keeps logs s → Kept config IsFirst came logs (fronts_by s f)
  by_replacement logs s f e k = subst (λ x. Kept config IsFirst came logs (fronts_by s x)) e k

  -- another one that says the same
  pub restated : (logs : Logs) (s : ClientRole) (r t : Replacement) → s.replacement ≡ r
      → flags r ≡ flags t → Keeps logs s → Keeps logs (record s { replacement = t })
  restated logs s r t e same k = by_replacement logs s (flags t) (ap flags e ∙ same) k

  still : (logs : Logs) (s : ClientRole) → s.replacement ≡ NoneUnderWay → Keeps logs s
      → IsStill logs s
  still logs s e k =
      let by = by_replacement logs s (flags NoneUnderWay) (ap flags e) k in
      record {
        config_stays = by.config_stays;
        ins = by.ins;
        outs = by.outs;
        apart = by.apart;
      }

  -- ---- replacements

  none_keeps : (logs : Logs) (s : ClientRole) → IsStill logs s
      → Keeps logs (record s { replacement = NoneUnderWay })
  none_keeps logs s k = record {
    config_stays = k.config_stays;
    ins = k.ins;
    outs = k.outs;
    apart = k.apart;
  }

  begin_in_keeps : (logs : Logs) (s : ClientRole) (w : Bool) → IsStill logs s
      → Keeps logs (begin_in s w)
  begin_in_keeps logs s w k =
      by_test (Keeps logs) (nat_lt s.writing.number LAST_NUMBER)
      (record s {
        in_successor = unopened_in (s.writing.number + 1) s.config.lifetime;
        replacement = In in_stage.Asked w;
      })
      (record s { replacement = NoneUnderWay })
      (λ e. record {
        config_stays = k.config_stays;
        ins = (
          k.ins.0,
          next_begins IsFirst came (opened s.writing.number s.writing.opening)
              (λ n. logs (ci n)) k.ins.1,
        );
        outs = k.outs;
        apart = k.apart;
      })
      (λ e. none_keeps logs s k)

  begin_out_keeps : (logs : Logs) (s : ClientRole) (w : Waits) → IsStill logs s
      → Keeps logs (begin_out s w)
  begin_out_keeps logs s w k =
      by_test (Keeps logs) (nat_lt s.current.number LAST_NUMBER)
      (record s {
        out_successor = unopened_out (s.current.number + 1);
        replacement = Out out_stage.Asked w;
      })
      (record s { replacement = NoneUnderWay })
      (λ e. record {
        config_stays = k.config_stays;
        ins = k.ins;
        outs = (
          k.outs.0,
          next_begins IsFirst (λ n. Unit {0}) (opened s.current.number s.current.opening)
              (λ n. logs (co n)) k.outs.1,
        );
        apart = k.apart;
      })
      (λ e. none_keeps logs s k)

  pub after_in_keeps : (logs : Logs) (s : ClientRole) (w : Bool) → IsStill logs s
      → Keeps logs (after_in s w)
  after_in_keeps logs s true k = begin_out_keeps logs s waits.Nothing k
  after_in_keeps logs s false k = none_keeps logs s k

  after_out_keeps : (logs : Logs) (s : ClientRole) (w : Waits) → IsStill logs s
      → Keeps logs (after_out s w)
  after_out_keeps logs s waits.Nothing k = none_keeps logs s k
  after_out_keeps logs s waits.In k = begin_in_keeps logs s false k
  after_out_keeps logs s waits.Out k = begin_out_keeps logs s waits.Nothing k
  after_out_keeps logs s waits.InThenOut k = begin_in_keeps logs s true k
  after_out_keeps logs s waits.OutThenIn k = begin_out_keeps logs s waits.In k

  wish_keeps : (logs : Logs) (s : ClientRole) (r : Replacement) → s.replacement ≡ r
      → Keeps logs s → Keeps logs (wish_by s r)
  wish_keeps logs s NoneUnderWay e k = begin_in_keeps logs s false (still logs s e k)
  wish_keeps logs s (In stage w) e k = k
  wish_keeps logs s (Out stage w) e k =
      restated logs s (Out stage w) (Out stage (with_in w)) e refl k

  pub settled_keeps : (logs : Logs) (s : ClientRole) → Keeps logs s
      → Keeps logs (settled_or_wished s)
  settled_keeps logs s k =
      by_test (Keeps logs) (is_over s) (record s { phase = phase.Ended }) (wished s) (λ e. k)
      (λ e. by_test (Keeps logs) (wants_successor s) (wish_by s s.replacement) s
      (λ o. wish_keeps logs s s.replacement refl k) (λ o. k))

  ended_or_keeps : (logs : Logs) (s : ClientRole) (w : Waits) → s.replacement ≡ NoneUnderWay
      → Keeps logs s → Keeps logs (ended_or s w)
  ended_or_keeps logs s w e k =
      by_test (Keeps logs) (is_over s) (record s { phase = phase.Ended }) (after_out s w)
      (λ o. k) (λ o. after_out_keeps logs s w (still logs s e k))

  -- the successor is the current channel
  succeeded_keeps : (logs : Logs) (s : ClientRole) (w : Waits)
      → s.replacement ≡ Out out_stage.Finished w → Keeps logs s → Keeps logs (succeeded s)
  succeeded_keeps logs s w e k =
      let by = by_replacement logs s (flags (Out out_stage.Finished w)) (ap flags e) k in
      record {
        config_stays = by.config_stays;
        ins = by.ins;
        outs =
            hands_over IsFirst (λ n. Unit {0}) (opened s.current.number s.current.opening)
            (opened s.out_successor.number s.out_successor.opening) (λ n. logs (co n))
            by.outs.0 by.outs.1 tt;
        apart = by.apart;
      }

  pass_keeps : (logs : Logs) (s : ClientRole) (r : Replacement) → s.replacement ≡ r
      → Keeps logs s → Keeps logs (pass_by s r)
  pass_keeps logs s NoneUnderWay e k = k
  pass_keeps logs s (In stage w) e k = k
  pass_keeps logs s (Out out_stage.Asked w) e k = k
  pass_keeps logs s (Out out_stage.Answered w) e k = k
  pass_keeps logs s (Out out_stage.Switched w) e k = k
  pass_keeps logs s (Out out_stage.Finished w) e k =
      by_test (Keeps logs) s.line.has_next s (ended_or (succeeded s) w) (λ o. k)
      (λ o. ended_or_keeps logs (succeeded s) w refl (succeeded_keeps logs s w e k))

  pub recycle_keeps : (logs : Logs) (s : ClientRole) (r : Replacement) → s.replacement ≡ r
      → Keeps logs s → Keeps logs (recycle_by s r).0
  recycle_keeps logs s NoneUnderWay e k =
      by_test (λ (x : ClientRole × Result (Unit {0}) RecycleRefused). Keeps logs x.0)
      (nat_lt s.writing.number LAST_NUMBER) (begin_in s false, Ok tt) (s, Err Last)
      (λ o. begin_in_keeps logs s false (still logs s e k)) (λ o. k)
  recycle_keeps logs s (In stage w) e k = k
  recycle_keeps logs s (Out stage w) e k = k

  pub take_keeps : (logs : Logs) (s : ClientRole) → Keeps logs s → Keeps logs (take s)
  take_keeps logs s k =
      pass_keeps logs (record s { line = after_take s.line }) s.replacement refl k

  -- ---- rows

  abbrev RowKeeps : Logs → Done → Type 0
  RowKeeps logs d = Keeps logs d.0

  -- a step that leaves it alone
  pub same : (logs : Logs) (s t : ClientRole) → fronts t ≡ fronts s → Keeps logs s → Keeps logs t
  same logs s t e k = subst (λ f. Kept config IsFirst came logs f) (sym e) k

  a2_keeps : (logs : Logs) (s : ClientRole) (n : ℕ) (r : Replacement) → s.replacement ≡ r
      → Keeps logs s → RowKeeps logs (a2_by s n r)
  a2_keeps logs s n NoneUnderWay e k = begin_out_keeps logs s waits.Nothing (still logs s e k)
  a2_keeps logs s n (In stage true) e k = k
  a2_keeps logs s n (In stage false) e k =
      restated logs s (In stage false) (In stage true) e refl k
  a2_keeps logs s n (Out stage w) e k =
      by_test (RowKeeps logs) (is_out_successor s n && not (has_out w))
      (taken (record s { replacement = Out stage (with_out w) })) (unexpected s)
      (λ o. restated logs s (Out stage w) (Out stage (with_out w)) e refl k) (λ o. k)

  a2_row : (logs : Logs) (s : ClientRole) (n to : ℕ) → Keeps logs s
      → RowKeeps logs (on_out_r1_a2 s n to)
  a2_row logs s n to k =
      by_test (RowKeeps logs) (is_open s.phase && (to == 0 && nat_lt n LAST_NUMBER))
      (a2_by s n s.replacement) (unexpected s)
      (λ e. a2_keeps logs s n s.replacement refl k) (λ e. k)

  a10_keeps : (logs : Logs) (s : ClientRole) (n : ℕ) (r : Replacement) → s.replacement ≡ r
      → Keeps logs s → RowKeeps logs (a10_by s n r)
  a10_keeps logs s n NoneUnderWay e k = k
  a10_keeps logs s n (In stage w) e k = k
  a10_keeps logs s n (Out out_stage.Asked w) e k = k
  a10_keeps logs s n (Out out_stage.Answered w) e k = k
  a10_keeps logs s n (Out out_stage.Switched w) e k =
      let f : ClientRole = record s {
        line = after_finish s.line;
        replacement = Out out_stage.Finished w;
      } in
      by_test (RowKeeps logs) (s.line.has_next && is_current s n) (taken (passed f)) (unexpected s)
      (λ o. pass_keeps logs f (Out out_stage.Finished w) refl
      (restated logs s (Out out_stage.Switched w) (Out out_stage.Finished w) e refl k)) (λ o. k)
  a10_keeps logs s n (Out out_stage.Finished w) e k = k

  -- IN_R1/A4 or IN_R2/A4: the successor was answered
  answer_keeps : (logs : Logs) (s : ClientRole) (window timeout : ℕ) (r : Replacement)
      → s.replacement ≡ r → Keeps logs s → RowKeeps logs (answer_by s window timeout r)
  answer_keeps logs s window timeout NoneUnderWay e k = k
  answer_keeps logs s window timeout (In in_stage.Asked w) e k =
      by_test (RowKeeps logs) (is_put s.in_successor.opening)
      (taken (record s {
        in_successor = told_in s.in_successor window timeout;
        replacement = In in_stage.Answered w;
      }))
      (unexpected s)
      (λ o.
      let by = by_replacement logs s (flags (In in_stage.Asked w)) (ap flags e) k in
      record {
        config_stays = by.config_stays;
        ins = (
          by.ins.0,
          next_answers IsFirst came s.writing.number
              (opened s.in_successor.number s.in_successor.opening) false
              (λ n. logs (ci n)) (put_up s.in_successor.opening o) by.ins.1,
        );
        outs = by.outs;
        apart = by.apart;
      })
      (λ o. k)
  answer_keeps logs s window timeout (In in_stage.Answered w) e k = k
  answer_keeps logs s window timeout (Out stage w) e k = k

  -- OUT_R1/A6: so was that of an OUT channel
  a6_keeps : (logs : Logs) (s : ClientRole) (timeout : ℕ) (r : Replacement) → s.replacement ≡ r
      → Keeps logs s → RowKeeps logs (a6_by s timeout r)
  a6_keeps logs s timeout NoneUnderWay e k = k
  a6_keeps logs s timeout (In stage w) e k = k
  a6_keeps logs s timeout (Out out_stage.Asked w) e k =
      by_test (RowKeeps logs) (is_asked s.out_successor.opening)
      (taken (record s {
        out_successor = record (s.out_successor) { timeout = Some timeout };
        replacement = Out out_stage.Answered w;
      }))
      (unexpected s)
      (λ o.
      let by = by_replacement logs s (flags (Out out_stage.Asked w)) (ap flags e) k in
      record {
        config_stays = by.config_stays;
        ins = by.ins;
        outs = (
          by.outs.0,
          next_answers IsFirst (λ n. Unit {0}) s.current.number
              (opened s.out_successor.number s.out_successor.opening) false
              (λ n. logs (co n)) (asked_up s.out_successor.opening o) by.outs.1,
        );
        apart = by.apart;
      })
      (λ o. k)
  a6_keeps logs s timeout (Out out_stage.Answered w) e k = k
  a6_keeps logs s timeout (Out out_stage.Switched w) e k = k
  a6_keeps logs s timeout (Out out_stage.Finished w) e k = k

  ack_keeps : (logs : Logs) (s : ClientRole) (to r a : ℕ) (of : Cookie) → Keeps logs s
      → RowKeeps logs (on_ack_to s to r a of)
  ack_keeps logs s to r a of k =
      by_test (RowKeeps logs) (is_open s.phase && to == 0) (ack_named s r a of) (unexpected s)
      (λ e. by_test (RowKeeps logs) (is_named s.writing of) _ _ (λ f. k)
      (λ f. by_test (RowKeeps logs) (is_named s.in_successor of) _ _ (λ g. k)
      (λ g. by_test (RowKeeps logs) (is_named s.leaving of) _ _ (λ h. k) (λ h. k))))
      (λ e. k)

  a3_row : (logs : Logs) (s : ClientRole) (n : ℕ) (count : Count) (timeout : ℕ) → Keeps logs s
      → RowKeeps logs (on_conn_a3 s n count timeout)
  a3_row logs s n count timeout k =
      same logs s (on_conn_a3 s n count timeout).0 (search rules) k

  c2_row : (logs : Logs) (s : ClientRole) (n window timeout : ℕ) → Keeps logs s
      → RowKeeps logs (on_conn_c2 s n window timeout)
  c2_row logs s n window timeout k =
      same logs s (on_conn_c2 s n window timeout).0 (search rules) k

  in_r1_a4_row : (logs : Logs) (s : ClientRole) (to window timeout : ℕ) → Keeps logs s
      → RowKeeps logs (on_in_r1_a4 s to window timeout)
  in_r1_a4_row logs s to window timeout k =
      by_test (RowKeeps logs) (to == 0) (answered s window timeout) (unexpected s)
      (λ e. answer_keeps logs s window timeout s.replacement refl k) (λ e. k)

  in_r2_a4_row : (logs : Logs) (s : ClientRole) (to : ℕ) → Keeps logs s
      → RowKeeps logs (on_in_r2_a4 s to)
  in_r2_a4_row logs s to k =
      by_test (RowKeeps logs) (to == 0) (answered s s.writing.told s.writing.timeout)
      (unexpected s)
      (λ e. answer_keeps logs s s.writing.told s.writing.timeout s.replacement refl k) (λ e. k)

  a6_row : (logs : Logs) (s : ClientRole) (n to timeout : ℕ) → Keeps logs s
      → RowKeeps logs (on_out_r1_a6 s n to timeout)
  a6_row logs s n to timeout k =
      by_test (RowKeeps logs) (to == 0 && is_current s n) (a6_by s timeout s.replacement)
      (unexpected s) (λ e. a6_keeps logs s timeout s.replacement refl k) (λ e. k)

  end_row : (logs : Logs) (s : ClientRole) (n : ℕ) → Keeps logs s
      → RowKeeps logs (on_end_b2 s n)
  end_row logs s n k = same logs s (on_end_b2 s n).0 (search rules) k

  row_keeps : (logs : Logs) (s : ClientRole) (n : ℕ) (count : Count) (packet : Named)
      → Keeps logs s → RowKeeps logs (on_packet s n count packet)
  row_keeps logs s n count (named.ConnA3 t) k = a3_row logs s n count t k
  row_keeps logs s n count (named.ConnC2 v w t) k = c2_row logs s n w t k
  row_keeps logs s n count (named.AckTo to r a of) k = ack_keeps logs s to r a of k
  row_keeps logs s n count (named.InR1A4 to v w t) k = in_r1_a4_row logs s to w t k
  row_keeps logs s n count (named.InR2A4 to) k = in_r2_a4_row logs s to k
  row_keeps logs s n count (named.OutR1A2 to) k = a2_row logs s n to k
  row_keeps logs s n count (named.OutR1A6 to v t) k = a6_row logs s n to t k
  row_keeps logs s n count named.OutR1A10 k = a10_keeps logs s n s.replacement refl k
  row_keeps logs s n count named.EndB2 k = end_row logs s n k
  row_keeps logs s n count packet k = k

  pub packet_keeps : (logs : Logs) (s : ClientRole) (n : ℕ) (count : Count) (packet : Named)
      (kind : LegKind) → Keeps logs s → RowKeeps logs (packet_by s n count packet kind)
  packet_keeps logs s n count packet ClientOut k =
      by_test (RowKeeps logs) (is_current s n || is_out_successor s n)
      (on_packet s n count packet) (unexpected s) (λ e. row_keeps logs s n count packet k)
      (λ e. k)
  packet_keeps logs s n count packet OutServer k = k
  packet_keeps logs s n count packet ClientIn k = k
  packet_keeps logs s n count packet InServer k = k

  pub pdu_keeps : (logs : Logs) (s : ClientRole) (n : ℕ) (bytes : List ℕ) (kind : LegKind)
      → Keeps logs s → RowKeeps logs (client.pdu_by s n bytes kind)
  pdu_keeps logs s n bytes ClientOut k = same logs s (on_pdu s n bytes).0 (search rules) k
  pdu_keeps logs s n bytes OutServer k = k
  pdu_keeps logs s n bytes ClientIn k = k
  pdu_keeps logs s n bytes InServer k = k

  pub drawn_keeps : (logs : Logs) (s : ClientRole) (n : ℕ) (kind : LegKind) → Keeps logs s
      → Keeps logs (drawn_by s n kind)
  drawn_keeps logs s n kind k = same logs s (drawn_by s n kind) (search rules) k

  pub ping_keeps : (logs : Logs) (s : ClientRole) (n : ℕ) (kind : LegKind) → Keeps logs s
      → Keeps logs (ping_by s n kind)
  ping_keeps logs s n kind k = same logs s (ping_by s n kind) (search rules) k

  pub give_keeps : (logs : Logs) (s : ClientRole) (pdu : List ℕ) → Keeps logs s
      → Keeps logs (give s pdu).0
  give_keeps logs s pdu k = same logs s (give s pdu).0 (search rules) k

  -- ---- a wanted leg comes up

  abbrev pub CameUp : LegKind → ℕ → Type 0
  CameUp ClientIn n = came n
  CameUp ClientOut n = Unit {0}
  CameUp OutServer n = Unit {0}
  CameUp InServer n = Unit {0}

  pub up_keeps : (logs : Logs) (s : ClientRole) (n : ℕ) (cookie : Cookie) (kind : LegKind)
      → IsTrue (wants_by s n kind) → CameUp kind n → Keeps logs s
      → Keeps logs (up_by s n cookie kind)
  up_keeps logs s n cookie ClientIn wants up k =
      let f = (fronts s).ins in
      let on : ℕ → List Message = λ j. logs (ci j) in
      by_test (Keeps logs) (is_writing s n)
      (record s { writing = in_up s.writing cookie })
      (record s { in_successor = in_up s.in_successor cookie })
      (λ e. record {
        config_stays = k.config_stays;
        ins = now_rises IsFirst came f on n (up_first s.writing.opening) up wants e k.ins;
        outs = k.outs;
        apart = k.apart;
      })
      (λ e. record {
        config_stays = k.config_stays;
        ins = next_rises IsFirst came f on n (up_first s.in_successor.opening) up wants e k.ins;
        outs = k.outs;
        apart = k.apart;
      })
  up_keeps logs s n cookie ClientOut wants up k =
      let f = (fronts s).outs in
      let on : ℕ → List Message = λ j. logs (co j) in
      by_test (Keeps logs) (is_current s n)
      (record s { current = out_up s.current cookie })
      (record s {
        out_successor = out_up s.out_successor cookie;
        line = with_next s.line;
      })
      (λ e. record {
        config_stays = k.config_stays;
        ins = k.ins;
        outs = now_rises IsFirst (λ j. Unit {0}) f on n (up_first s.current.opening) tt wants e
            k.outs;
        apart = k.apart;
      })
      (λ e. record {
        config_stays = k.config_stays;
        ins = k.ins;
        outs = next_rises IsFirst (λ j. Unit {0}) f on n (up_first s.out_successor.opening) tt
            wants e k.outs;
        apart = k.apart;
      })
  up_keeps logs s n cookie OutServer wants up k = k
  up_keeps logs s n cookie InServer wants up k = k

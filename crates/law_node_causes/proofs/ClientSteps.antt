-- how a client's channels go on: whatever moves it makes, each is a step of one of few kinds
use Rattle.law_order.proofs.Vocabulary.{◌≡◌, ℕ, ◌+◌, ◌==◌, ◌&&◌, ◌||◌, List, Bool, true, false, not, nat_lt, Some, None, Ok, Err, refl, sym, subst, rules, if◌then◌else◌, Option, Result}
use Rattle.rh_sig.specs.declared.named.Named.TheVariants as named
use Rattle.rh_shell.specs.declared.answers.Phase.TheVariants as phase
use Rattle.rh_client.specs.declared.channels.Opening.{Opening}
use Rattle.rh_client.specs.declared.channels.Opening.TheVariants.{NotUp, Request, First, Second, Put}
use Rattle.rh_client.specs.declared.channels.TheConstants.{LAST_NUMBER}
use Rattle.rh_client.specs.declared.replacement.Replacement.{Replacement}
use Rattle.rh_client.specs.declared.replacement.Replacement.TheVariants.{NoneUnderWay, In, Out}
use Rattle.rh_client.specs.declared.replacement.InStage.{InStage}
use Rattle.rh_client.specs.declared.replacement.OutStage.{OutStage}
use Rattle.rh_client.specs.declared.replacement.Waits.{Waits}
use Rattle.rh_client.specs.declared.state.ClientRole.{ClientRole}
use Rattle.rh_client.specs.Channels.{is_up, is_named, unopened_in, unopened_out, in_up, out_up, metered, sent}
use Rattle.rh_client.specs.Replacements.{is_in, is_out, with_in, with_out, has_out}
use Rattle.rh_client.specs.State.{Done, taken, unexpected, is_open, is_writing, is_in_successor, is_current, is_out_successor, is_over, begin_in, begin_out, after_in, after_out}
use Rattle.rh_client.specs.Opening.{up_by, up_in, up_out, with_next, on_conn_a3, on_conn_c2}
use Rattle.rh_client.specs.Acknowledging.{acked, ack_row, ack_named, ack_due, cookie_of, on_pdu, on_ack_to}
use Rattle.rh_client.specs.InReplacement.{recycle_by, wish_by, wants_successor, wished, handed_over, on_in_r1_a4, on_in_r2_a4}
use Rattle.rh_client.specs.OutReplacement.{a2_by, a10_by, succeeded, ended_or, pass_by, passed, on_out_r1_a2, on_out_r1_a6}
use Rattle.rh_client.specs.Ending.{give, take, on_end_b2, drawn_by}
use Rattle.rh_client.specs.Time.{ping_by}
use Rattle.rh_client.specs.Putting.{Pick, or_else, conn_b1, in_r1_a1, begun_in, begun_out, put_conn_b1, put_in_r1_a1, put_current, put_out_successor, put_out, due_by, put_due, ack_by, put_ack_of, put_ack, lets_pdu, put_pdu, is_end_due, with_end_put, put_end, without_ping, put_ping, put_successor_ping, put_next, put_writing, put_in_successor, put_in, settled_or_wished, settled_pick, put_by}
use Rattle.rh_client.specs.Client.{packet, packet_by, on_packet}
use Rattle.rh_client.specs.declared.replacement.InStage.TheVariants as in_stage
use Rattle.rh_client.specs.declared.replacement.OutStage.TheVariants as out_stage
use Rattle.rh_client.specs.declared.replacement.Waits.TheVariants as waits
use Rattle.rh_client.specs.Putting as putting
use Rattle.rh_client.specs.Client as client
use Rattle.law_moves.proofs.Vocabulary.{Ack, fits, may_put, by_test, Cookie, Named, CONN_B1_LEN, IN_R1_A1_LEN, IN_R1_A5_LEN, OUT_R1_A7_LEN, END_A1_LEN, ACK_TO_LEN, PING_LEN, after_told, after_take, after_finish, behind, front_length, LegKind, ClientOut, OutServer, ClientIn, InServer, Which, Current, Next, first_of, Count, RecycleRefused, Last, Message, Pdu, Packet}
use Rattle.law_node_causes.proofs.MoveRoles.{behind_put}

-- the channels of a direction: the one in use, whether its leg is up, and how long that may be
-- silent; and its successor's, where a replacement is under way
pub record Side : Type 0 where
  pub now : ℕ
  pub now_up : Bool
  pub limit : Option ℕ
  pub next : ℕ
  pub next_up : Bool
  pub next_limit : Option ℕ
  pub under_way : Bool

pub record Sides : Type 0 where
  pub ins : Side
  pub outs : Side

abbrev pub sides : ClientRole → Sides
sides s = record {
  ins = record {
    now = s.writing.number;
    now_up = is_up s.writing.opening;
    limit = None;
    next = s.in_successor.number;
    next_up = is_up s.in_successor.opening;
    next_limit = None;
    under_way = is_in s.replacement;
  };
  outs = record {
    now = s.current.number;
    now_up = is_up s.current.opening;
    limit = s.current.timeout;
    next = s.out_successor.number;
    next_up = is_up s.out_successor.opening;
    next_limit = s.out_successor.timeout;
    under_way = is_out s.replacement;
  };
}

-- ---- steps

-- a replacement begins: the successor's leg is not up, and nothing was told of it
abbrev pub begun : Side → Side
begun x = record x { next = x.now + 1; next_up = false; next_limit = None; under_way = true }

-- it is over: the successor takes the place
abbrev pub shifted : Side → Side
shifted x = record {
  now = x.next;
  now_up = x.next_up;
  limit = x.next_limit;
  next = 0;
  next_up = false;
  next_limit = None;
  under_way = false;
}

-- what is good, and how it may go on: as it is, step behind step, where a leg comes up, where a
-- replacement begins, and where it is over
pub record StepLaws (Good : Sides → Type 0) (Step : Sides → Sides → Type 0) : Type 0 where
  pub self : (x : Sides) → Good x → Step x x
  pub joined : (x y z : Sides) → Step x y → Step y z → Step x z
  pub good : (x y : Sides) → Step x y → Good y
  pub in_now : (x : Sides) → Good x → Step x (record x { ins = record (x.ins) { now_up = true } })
  pub in_next : (x : Sides) → Good x
      → Step x (record x { ins = record (x.ins) { next_up = true } })
  pub out_now : (x : Sides) → Good x
      → Step x (record x { outs = record (x.outs) { now_up = true } })
  pub out_next : (x : Sides) → Good x
      → Step x (record x { outs = record (x.outs) { next_up = true } })
  pub in_begins : (x : Sides) → x.ins.under_way ≡ false
      → nat_lt x.ins.now LAST_NUMBER ≡ true → Good x
      → Step x (record x { ins = begun x.ins })
  pub out_begins : (x : Sides) → x.outs.under_way ≡ false
      → nat_lt x.outs.now LAST_NUMBER ≡ true → Good x
      → Step x (record x { outs = begun x.outs })
  pub in_shifts : (x : Sides) → x.ins.under_way ≡ true → Good x
      → Step x (record x { ins = shifted x.ins })
  pub out_shifts : (x : Sides) → x.outs.under_way ≡ true → Good x
      → Step x (record x { outs = shifted x.outs })

abbrev pub with_replacement : ClientRole → Replacement → ClientRole
with_replacement s r = record s { replacement = r }

module _ (Good : Sides → Type 0) (Step : Sides → Sides → Type 0) (law : StepLaws Good Step)
  where
    -- the role goes on by such steps, and is good
    abbrev pub Later : ClientRole → ClientRole → Type 0
    Later s t = Step (sides s) (sides t)

    abbrev pub Sound : ClientRole → Type 0
    Sound s = Good (sides s)

    pub later_same : (s t : ClientRole) → Sound s → sides t ≡ sides s → Later s t
    later_same s t sound same =
        subst (λ (x : Sides). Step (sides s) x) (sym same) (law.self (sides s) sound)

    pub later_self : (s : ClientRole) → Sound s → Later s s
    later_self s sound = law.self (sides s) sound

    later_then : (s t u : ClientRole) → Later s t → Later t u → Later s u
    later_then s t u p q = law.joined (sides s) (sides t) (sides u) p q

    sound_then : (s t : ClientRole) → Later s t → Sound t
    sound_then s t p = law.good (sides s) (sides t) p

    -- ---- replacements begin

    begin_in_later : (s : ClientRole) (w : Bool) → Sound (with_replacement s NoneUnderWay)
        → Later (with_replacement s NoneUnderWay) (begin_in s w)
    begin_in_later s w sound =
        by_test (Later (with_replacement s NoneUnderWay)) (nat_lt s.writing.number LAST_NUMBER)
        (record s {
          in_successor = unopened_in (s.writing.number + 1) s.config.lifetime;
          replacement = In in_stage.Asked w;
        }) (record s { replacement = NoneUnderWay })
        (λ e. law.in_begins (sides (with_replacement s NoneUnderWay)) refl e sound)
        (λ e. later_self (with_replacement s NoneUnderWay) sound)

    begin_out_later : (s : ClientRole) (w : Waits) → Sound (with_replacement s NoneUnderWay)
        → Later (with_replacement s NoneUnderWay) (begin_out s w)
    begin_out_later s w sound =
        by_test (Later (with_replacement s NoneUnderWay)) (nat_lt s.current.number LAST_NUMBER)
        (record s {
          out_successor = unopened_out (s.current.number + 1);
          replacement = Out out_stage.Asked w;
        }) (record s { replacement = NoneUnderWay })
        (λ e. law.out_begins (sides (with_replacement s NoneUnderWay)) refl e sound)
        (λ e. later_self (with_replacement s NoneUnderWay) sound)

    after_in_later : (s : ClientRole) (w : Bool) → Sound (with_replacement s NoneUnderWay)
        → Later (with_replacement s NoneUnderWay) (after_in s w)
    after_in_later s true sound = begin_out_later s waits.Nothing sound
    after_in_later s false sound = later_self (with_replacement s NoneUnderWay) sound

    after_out_later : (s : ClientRole) (w : Waits) → Sound (with_replacement s NoneUnderWay)
        → Later (with_replacement s NoneUnderWay) (after_out s w)
    after_out_later s waits.Nothing sound = later_self (with_replacement s NoneUnderWay) sound
    after_out_later s waits.In sound = begin_in_later s false sound
    after_out_later s waits.Out sound = begin_out_later s waits.Nothing sound
    after_out_later s waits.InThenOut sound = begin_in_later s true sound
    after_out_later s waits.OutThenIn sound = begin_out_later s waits.In sound

    -- ---- a replacement is over

    handed_later : (s : ClientRole) (stage : InStage) (w v : Bool)
        → Sound (with_replacement s (In stage w))
        → Later (with_replacement s (In stage w)) (handed_over s v)
    handed_later s stage w v sound =
        let t : ClientRole = record s {
          leaving = s.writing;
          writing = s.in_successor;
          in_successor = unopened_in 0 s.config.lifetime;
        } in
        let first : Later (with_replacement s (In stage w)) (with_replacement t NoneUnderWay) =
        law.in_shifts (sides (with_replacement s (In stage w))) refl sound in
        later_then (with_replacement s (In stage w)) (with_replacement t NoneUnderWay)
        (handed_over s v) first
        (after_in_later t v (sound_then (with_replacement s (In stage w))
        (with_replacement t NoneUnderWay) first))

    succeeded_later : (s : ClientRole) (stage : OutStage) (w : Waits)
        → Sound (with_replacement s (Out stage w))
        → Later (with_replacement s (Out stage w)) (succeeded s)
    succeeded_later s stage w sound =
        law.out_shifts (sides (with_replacement s (Out stage w))) refl sound

    ended_later : (s : ClientRole) (w : Waits) → Sound (with_replacement s NoneUnderWay)
        → Later (with_replacement s NoneUnderWay) (ended_or (with_replacement s NoneUnderWay) w)
    ended_later s w sound =
        by_test (Later (with_replacement s NoneUnderWay))
        (is_over (with_replacement s NoneUnderWay))
        (record s { phase = phase.Ended; replacement = NoneUnderWay })
        (after_out (with_replacement s NoneUnderWay) w)
        (λ e. later_same (with_replacement s NoneUnderWay)
        (record s { phase = phase.Ended; replacement = NoneUnderWay }) sound refl)
        (λ e. after_out_later (with_replacement s NoneUnderWay) w sound)

    pass_later : (s : ClientRole) (r : Replacement) → Sound (with_replacement s r)
        → Later (with_replacement s r) (pass_by (with_replacement s r) r)
    pass_later s NoneUnderWay sound = later_self (with_replacement s NoneUnderWay) sound
    pass_later s (In stage w) sound = later_self (with_replacement s (In stage w)) sound
    pass_later s (Out out_stage.Asked w) sound =
        later_self (with_replacement s (Out out_stage.Asked w)) sound
    pass_later s (Out out_stage.Answered w) sound =
        later_self (with_replacement s (Out out_stage.Answered w)) sound
    pass_later s (Out out_stage.Switched w) sound =
        later_self (with_replacement s (Out out_stage.Switched w)) sound
    pass_later s (Out out_stage.Finished w) sound =
        let now : ClientRole = with_replacement s (Out out_stage.Finished w) in
        by_test (Later now) s.line.has_next now (ended_or (succeeded now) w)
        (λ e. later_self now sound)
        (λ e. let first = succeeded_later s out_stage.Finished w sound in
        later_then now (succeeded now) (ended_or (succeeded now) w) first
        (ended_later (succeeded now) w (sound_then now (succeeded now) first)))

    -- ---- rows

    a2_later : (s : ClientRole) (n : ℕ) (r : Replacement) → Sound (with_replacement s r)
        → Later (with_replacement s r) (a2_by (with_replacement s r) n r).0
    a2_later s n NoneUnderWay sound = begin_out_later s waits.Nothing sound
    a2_later s n (In stage false) sound =
        later_same (with_replacement s (In stage false)) (with_replacement s (In stage true)) sound
        refl
    a2_later s n (In stage true) sound = later_self (with_replacement s (In stage true)) sound
    a2_later s n (Out stage w) sound =
        let now : ClientRole = with_replacement s (Out stage w) in
        by_test (λ (x : Done). Later now x.0) (is_out_successor now n && not (has_out w))
        (taken (with_replacement s (Out stage (with_out w)))) (unexpected now)
        (λ e. later_same now (with_replacement s (Out stage (with_out w))) sound refl)
        (λ e. later_self now sound)

    out_r1_a2_later : (s : ClientRole) (n to : ℕ) → Sound s → Later s (on_out_r1_a2 s n to).0
    out_r1_a2_later s n to sound =
        by_test (λ (x : Done). Later s x.0) (is_open s.phase && (to == 0 && nat_lt n LAST_NUMBER))
        (a2_by s n s.replacement) (unexpected s) (λ e. a2_later s n s.replacement sound)
        (λ e. later_self s sound)

    a10_later : (s : ClientRole) (n : ℕ) (r : Replacement) → Sound (with_replacement s r)
        → Later (with_replacement s r) (a10_by (with_replacement s r) n r).0
    a10_later s n NoneUnderWay sound = later_self (with_replacement s NoneUnderWay) sound
    a10_later s n (In stage w) sound = later_self (with_replacement s (In stage w)) sound
    a10_later s n (Out out_stage.Asked w) sound =
        later_self (with_replacement s (Out out_stage.Asked w)) sound
    a10_later s n (Out out_stage.Answered w) sound =
        later_self (with_replacement s (Out out_stage.Answered w)) sound
    a10_later s n (Out out_stage.Finished w) sound =
        later_self (with_replacement s (Out out_stage.Finished w)) sound
    a10_later s n (Out out_stage.Switched w) sound =
        let now : ClientRole = with_replacement s (Out out_stage.Switched w) in
        let f : ClientRole = record s {
          line = after_finish s.line;
          replacement = Out out_stage.Finished w;
        } in
        by_test (λ (x : Done). Later now x.0) (s.line.has_next && is_current s n)
        (taken (passed f)) (unexpected now)
        (λ e. let first = later_same now f sound refl in
        later_then now f (passed f) first
        (pass_later f (Out out_stage.Finished w) (sound_then now f first)))
        (λ e. later_self now sound)

    -- of two answers that leave the sides alone
    either : (s : ClientRole) (b : Bool) (x y : Done) → sides x.0 ≡ sides s → sides y.0 ≡ sides s
        → sides (if b then x else y).0 ≡ sides s
    either s true x y l m = l
    either s false x y l m = m

    ack_same : (s : ClientRole) (to r a : ℕ) (of : Cookie)
        → sides (on_ack_to s to r a of).0 ≡ sides s
    ack_same s to r a of =
        either s (is_open s.phase && to == 0) (ack_named s r a of) (unexpected s)
        (either s (is_named s.writing of)
        (record s { writing = acked s.writing r a }, ack_row s.writing r a) _ refl
        (either s (is_named s.in_successor of)
        (record s { in_successor = acked s.in_successor r a }, ack_row s.in_successor r a) _ refl
        (either s (is_named s.leaving of)
        (record s { leaving = acked s.leaving r a }, ack_row s.leaving r a) (taken s) refl refl)))
        refl

    -- what the two rows do that are told a timeout
    pub record Timed (s : ClientRole) (n : ℕ) (count : Count) (packet : Named) : Type 0 where
      pub a3 : (timeout : ℕ) → packet ≡ named.ConnA3 timeout
          → Later s (on_conn_a3 s n count timeout).0
      pub a6 : (to version timeout : ℕ) → packet ≡ named.OutR1A6 to version timeout
          → Later s (on_out_r1_a6 s n to timeout).0

    row_later : (s : ClientRole) (n : ℕ) (count : Count) (packet : Named)
        → Timed s n count packet → Sound s → Later s (on_packet s n count packet).0
    row_later s n count (named.ConnA3 t) timed sound = timed.a3 t refl
    row_later s n count (named.ConnC2 v w t) timed sound =
        later_same s (on_conn_c2 s n w t).0 sound (search rules)
    row_later s n count (named.AckTo to r a of) timed sound =
        later_same s (on_ack_to s to r a of).0 sound (ack_same s to r a of)
    row_later s n count (named.InR1A4 to v w t) timed sound =
        later_same s (on_in_r1_a4 s to w t).0 sound (search rules)
    row_later s n count (named.InR2A4 to) timed sound =
        later_same s (on_in_r2_a4 s to).0 sound (search rules)
    row_later s n count (named.OutR1A2 to) timed sound = out_r1_a2_later s n to sound
    row_later s n count (named.OutR1A6 to v t) timed sound = timed.a6 to v t refl
    row_later s n count named.OutR1A10 timed sound = a10_later s n s.replacement sound
    row_later s n count named.EndB2 timed sound =
        later_same s (on_end_b2 s n).0 sound (search rules)
    row_later s n count packet timed sound = later_self s sound

    pub packet_later : (s : ClientRole) (n : ℕ) (count : Count) (packet : Named) (k : LegKind)
        → Timed s n count packet → Sound s → Later s (packet_by s n count packet k).0
    packet_later s n count packet ClientOut timed sound =
        by_test (λ (x : Done). Later s x.0) (is_current s n || is_out_successor s n)
        (on_packet s n count packet) (unexpected s) (λ e. row_later s n count packet timed sound)
        (λ e. later_self s sound)
    packet_later s n count packet OutServer timed sound = later_self s sound
    packet_later s n count packet ClientIn timed sound = later_self s sound
    packet_later s n count packet InServer timed sound = later_self s sound

    pub pdu_later : (s : ClientRole) (n : ℕ) (bytes : List ℕ) (k : LegKind) → Sound s
        → Later s (client.pdu_by s n bytes k).0
    pdu_later s n bytes ClientOut sound = later_same s (on_pdu s n bytes).0 sound (search rules)
    pdu_later s n bytes OutServer sound = later_self s sound
    pdu_later s n bytes ClientIn sound = later_self s sound
    pdu_later s n bytes InServer sound = later_self s sound

    -- ---- a leg comes up

    up_in_later : (s : ClientRole) (n : ℕ) (cookie : Cookie) → Sound s → Later s (up_in s n cookie)
    up_in_later s n cookie sound =
        by_test (Later s) (is_writing s n) (record s { writing = in_up s.writing cookie })
        (record s { in_successor = in_up s.in_successor cookie })
        (λ e. law.in_now (sides s) sound)
        (λ e. law.in_next (sides s) sound)

    up_out_later : (s : ClientRole) (n : ℕ) (cookie : Cookie) → Sound s
        → Later s (up_out s n cookie)
    up_out_later s n cookie sound =
        by_test (Later s) (is_current s n) (record s { current = out_up s.current cookie })
        (record s { out_successor = out_up s.out_successor cookie; line = with_next s.line })
        (λ e. law.out_now (sides s) sound)
        (λ e. law.out_next (sides s) sound)

    pub up_later : (s : ClientRole) (n : ℕ) (cookie : Cookie) (k : LegKind) → Sound s
        → Later s (up_by s n cookie k)
    up_later s n cookie ClientOut sound = up_out_later s n cookie sound
    up_later s n cookie ClientIn sound = up_in_later s n cookie sound
    up_later s n cookie OutServer sound = later_self s sound
    up_later s n cookie InServer sound = later_self s sound

    -- ---- what is put

    abbrev LaterPick : ClientRole → Pick → Type 0
    LaterPick s pick = Later s (behind_put s pick)

    or_later : (s : ClientRole) (a b : Pick) → LaterPick s a → LaterPick s b
        → LaterPick s (or_else a b)
    or_later s None b p q = q
    or_later s (Some pick) b p q = p

    -- where it may go
    if_later : (s : ClientRole) (b : Bool) (f : ClientRole) (m : Message) → Sound s → Later s f
        → LaterPick s (if b then Some (f, m) else None)
    if_later s true f m sound later = later
    if_later s false f m sound later = later_self s sound

    ins_now : (s : ClientRole) → Sound s → (t : ClientRole)
        → sides t ≡ record (sides s) { ins = record (sides s).ins { now_up = true } } → Later s t
    ins_now s sound t same =
        subst (λ (x : Sides). Step (sides s) x) (sym same) (law.in_now (sides s) sound)

    ins_next : (s : ClientRole) → Sound s → (t : ClientRole)
        → sides t ≡ record (sides s) { ins = record (sides s).ins { next_up = true } } → Later s t
    ins_next s sound t same =
        subst (λ (x : Sides). Step (sides s) x) (sym same) (law.in_next (sides s) sound)

    outs_now : (s : ClientRole) → Sound s → (t : ClientRole)
        → sides t ≡ record (sides s) { outs = record (sides s).outs { now_up = true } } → Later s t
    outs_now s sound t same =
        subst (λ (x : Sides). Step (sides s) x) (sym same) (law.out_now (sides s) sound)

    outs_next : (s : ClientRole) → Sound s → (t : ClientRole)
        → sides t ≡ record (sides s) { outs = record (sides s).outs { next_up = true } } → Later s t
    outs_next s sound t same =
        subst (λ (x : Sides). Step (sides s) x) (sym same) (law.out_next (sides s) sound)

    conn_b1_later : (s : ClientRole) → Sound s → LaterPick s (put_conn_b1 s)
    unfolding put_conn_b1
    conn_b1_later s sound =
        let f : ClientRole = record s { writing = begun_in (metered s.writing CONN_B1_LEN) Put } in
        if_later s (may_put s.writing.meter CONN_B1_LEN) f (Packet (conn_b1 s)) sound
        (ins_now s sound f refl)

    in_r1_a1_later : (s : ClientRole) → Sound s → LaterPick s (put_in_r1_a1 s)
    unfolding put_in_r1_a1
    in_r1_a1_later s sound =
        let f : ClientRole = record s {
          in_successor = begun_in (metered s.in_successor IN_R1_A1_LEN) Put;
        } in
        if_later s (may_put s.in_successor.meter IN_R1_A1_LEN) f (Packet (in_r1_a1 s)) sound
        (ins_next s sound f refl)

    current_later : (s : ClientRole) (o : Opening) → Sound s → LaterPick s (put_current s o)
    unfolding put_current
    current_later s NotUp sound = later_self s sound
    current_later s Request sound =
        outs_now s sound (record s { current = begun_out s.current First }) refl
    current_later s First sound =
        outs_now s sound (record s { current = begun_out s.current Put }) refl
    current_later s Second sound = later_self s sound
    current_later s Put sound = later_self s sound

    out_successor_later : (s : ClientRole) (o : Opening) → Sound s
        → LaterPick s (put_out_successor s o)
    unfolding put_out_successor
    out_successor_later s NotUp sound = later_self s sound
    out_successor_later s Request sound =
        outs_next s sound (record s { out_successor = begun_out s.out_successor First }) refl
    out_successor_later s First sound =
        outs_next s sound (record s { out_successor = begun_out s.out_successor Second }) refl
    out_successor_later s Second sound =
        outs_next s sound (record s { out_successor = begun_out s.out_successor Put }) refl
    out_successor_later s Put sound = later_self s sound

    out_later : (s : ClientRole) (n : ℕ) → Sound s → LaterPick s (put_out s n)
    unfolding put_out
    out_later s n sound =
        by_test (LaterPick s) (is_current s n) (put_current s s.current.opening)
        (if is_out_successor s n then put_out_successor s s.out_successor.opening else None)
        (λ e. current_later s s.current.opening sound)
        (λ e. by_test (LaterPick s) (is_out_successor s n)
        (put_out_successor s s.out_successor.opening) None
        (λ f. out_successor_later s s.out_successor.opening sound) (λ f. later_self s sound))

    due_later : (s : ClientRole) (r : Replacement) → Sound (with_replacement s r)
        → LaterPick (with_replacement s r) (due_by (with_replacement s r) r)
    due_later s NoneUnderWay sound = later_self (with_replacement s NoneUnderWay) sound
    due_later s (In in_stage.Asked w) sound =
        later_self (with_replacement s (In in_stage.Asked w)) sound
    due_later s (In in_stage.Answered w) sound =
        let now : ClientRole = with_replacement s (In in_stage.Answered w) in
        if_later now (fits s.writing.meter IN_R1_A5_LEN) (handed_over now w)
        (Packet (named.InR1A5 s.in_successor.cookie)) sound
        (handed_later now in_stage.Answered w w sound)
    due_later s (Out out_stage.Asked w) sound =
        later_self (with_replacement s (Out out_stage.Asked w)) sound
    due_later s (Out out_stage.Answered w) sound =
        let now : ClientRole = with_replacement s (Out out_stage.Answered w) in
        let f : ClientRole = record s {
          writing = metered s.writing OUT_R1_A7_LEN;
          replacement = Out out_stage.Switched w;
        } in
        if_later now (fits s.writing.meter OUT_R1_A7_LEN) f
        (Packet (named.OutR1A7 2 s.out_successor.cookie)) sound (later_same now f sound refl)
    due_later s (Out out_stage.Switched w) sound =
        later_self (with_replacement s (Out out_stage.Switched w)) sound
    due_later s (Out out_stage.Finished w) sound =
        later_self (with_replacement s (Out out_stage.Finished w)) sound

    put_due_later : (s : ClientRole) → Sound s → LaterPick s (put_due s)
    unfolding put_due
    put_due_later s sound = due_later s s.replacement sound

    ack_later : (s : ClientRole) (which : Which) (ack : Option Ack) → Sound s
        → LaterPick s (ack_by s which ack)
    ack_later s which None sound = later_self s sound
    ack_later s which (Some ack) sound =
        let f : ClientRole = record s {
          line = after_told s.line which ack;
          writing = metered s.writing ACK_TO_LEN;
        } in
        if_later s (may_put s.writing.meter ACK_TO_LEN) f
        (Packet (named.AckTo 3 ack.received ack.available (cookie_of s which))) sound
        (later_same s f sound refl)

    put_ack_later : (s : ClientRole) → Sound s → LaterPick s (put_ack s)
    unfolding put_ack put_ack_of
    put_ack_later s sound =
        or_later s (ack_by s Current (ack_due s Current)) (ack_by s Next (ack_due s Next))
        (ack_later s Current (ack_due s Current) sound) (ack_later s Next (ack_due s Next) sound)

    pdu_put_later : (s : ClientRole) (len : Option ℕ) → Sound s → LaterPick s (putting.pdu_by s len)
    pdu_put_later s None sound = later_self s sound
    pdu_put_later s (Some len) sound =
        let f : ClientRole = record s { queue = behind s.queue; writing = sent s.writing len } in
        if_later s (lets_pdu s len) f (Pdu (first_of s.queue)) sound (later_same s f sound refl)

    put_pdu_later : (s : ClientRole) → Sound s → LaterPick s (put_pdu s)
    unfolding put_pdu
    put_pdu_later s sound = pdu_put_later s (front_length s.queue) sound

    put_end_later : (s : ClientRole) → Sound s → LaterPick s (put_end s)
    unfolding put_end
    put_end_later s sound =
        let f : ClientRole = record s { writing = with_end_put (metered s.writing END_A1_LEN) } in
        if_later s (is_end_due s && fits s.writing.meter END_A1_LEN) f (Packet named.EndA1) sound
        (later_same s f sound refl)

    put_ping_later : (s : ClientRole) → Sound s → LaterPick s (put_ping s)
    unfolding put_ping
    put_ping_later s sound =
        let f : ClientRole = record s { writing = without_ping (metered s.writing PING_LEN) } in
        if_later s (s.writing.is_ping_due && may_put s.writing.meter PING_LEN) f (Packet named.Ping)
        sound (later_same s f sound refl)

    successor_ping_later : (s : ClientRole) → Sound s → LaterPick s (put_successor_ping s)
    unfolding put_successor_ping
    successor_ping_later s sound =
        let f : ClientRole = record s {
          in_successor = without_ping (metered s.in_successor PING_LEN);
        } in
        if_later s (s.in_successor.is_ping_due && may_put s.in_successor.meter PING_LEN) f
        (Packet named.Ping) sound (later_same s f sound refl)

    put_next_later : (s : ClientRole) → Sound s → LaterPick s (put_next s)
    unfolding put_next
    put_next_later s sound =
        or_later s (put_due s)
        (or_else (put_ack s) (or_else (put_pdu s) (or_else (put_end s) (put_ping s))))
        (put_due_later s sound)
        (or_later s (put_ack s) (or_else (put_pdu s) (or_else (put_end s) (put_ping s)))
        (put_ack_later s sound)
        (or_later s (put_pdu s) (or_else (put_end s) (put_ping s)) (put_pdu_later s sound)
        (or_later s (put_end s) (put_ping s) (put_end_later s sound) (put_ping_later s sound))))

    writing_later : (s : ClientRole) (o : Opening) → Sound s → LaterPick s (put_writing s o)
    unfolding put_writing
    writing_later s NotUp sound = later_self s sound
    writing_later s Request sound =
        ins_now s sound (record s { writing = begun_in s.writing First }) refl
    writing_later s First sound = conn_b1_later s sound
    writing_later s Second sound = later_self s sound
    writing_later s Put sound = put_next_later s sound

    in_successor_later : (s : ClientRole) (o : Opening) → Sound s
        → LaterPick s (put_in_successor s o)
    unfolding put_in_successor
    in_successor_later s NotUp sound = later_self s sound
    in_successor_later s Request sound =
        ins_next s sound (record s { in_successor = begun_in s.in_successor First }) refl
    in_successor_later s First sound = in_r1_a1_later s sound
    in_successor_later s Second sound = later_self s sound
    in_successor_later s Put sound = successor_ping_later s sound

    in_later : (s : ClientRole) (n : ℕ) → Sound s → LaterPick s (put_in s n)
    unfolding put_in
    in_later s n sound =
        by_test (LaterPick s) (is_writing s n) (put_writing s s.writing.opening)
        (if is_in_successor s n then put_in_successor s s.in_successor.opening else None)
        (λ e. writing_later s s.writing.opening sound)
        (λ e. by_test (LaterPick s) (is_in_successor s n)
        (put_in_successor s s.in_successor.opening) None
        (λ f. in_successor_later s s.in_successor.opening sound) (λ f. later_self s sound))

    pub put_by_later : (s : ClientRole) (n : ℕ) (k : LegKind) → Sound s → LaterPick s (put_by s n k)
    unfolding put_by
    put_by_later s n ClientOut sound = out_later s n sound
    put_by_later s n ClientIn sound = in_later s n sound
    put_by_later s n OutServer sound = later_self s sound
    put_by_later s n InServer sound = later_self s sound

    -- ---- behind a put

    wish_later : (s : ClientRole) (r : Replacement) → Sound (with_replacement s r)
        → Later (with_replacement s r) (wish_by (with_replacement s r) r)
    wish_later s NoneUnderWay sound = begin_in_later s false sound
    wish_later s (In stage w) sound = later_self (with_replacement s (In stage w)) sound
    wish_later s (Out stage w) sound =
        later_same (with_replacement s (Out stage w)) (with_replacement s (Out stage (with_in w)))
        sound refl

    settled_later : (s : ClientRole) → Sound s → Later s (settled_or_wished s)
    settled_later s sound =
        by_test (Later s) (is_over s) (record s { phase = phase.Ended }) (wished s)
        (λ e. later_same s (record s { phase = phase.Ended }) sound refl)
        (λ e. by_test (Later s) (wants_successor s) (wish_by s s.replacement) s
        (λ f. wish_later s s.replacement sound) (λ f. later_self s sound))

    pub pick_later : (s : ClientRole) (pick : Pick) → Sound s → LaterPick s pick
        → LaterPick s (settled_pick pick)
    pick_later s None sound later = later
    pick_later s (Some pick) sound later =
        later_then s pick.0 (settled_or_wished pick.0) later
        (settled_later pick.0 (sound_then s pick.0 later))

    -- ---- moves and calls that are none of these

    pub drawn_same : (s : ClientRole) (n : ℕ) (k : LegKind) → sides (drawn_by s n k) ≡ sides s
    drawn_same s n k = search rules

    pub ping_same : (s : ClientRole) (n : ℕ) (k : LegKind) → sides (ping_by s n k) ≡ sides s
    ping_same s n k = search rules

    pub give_same : (s : ClientRole) (bytes : List ℕ) → sides (give s bytes).0 ≡ sides s
    give_same s bytes = search rules

    pub take_later : (s : ClientRole) → Sound s → Later s (take s)
    take_later s sound =
        let f : ClientRole = record s { line = after_take s.line } in
        let first = later_same s f sound refl in
        later_then s f (passed f) first (pass_later f f.replacement (sound_then s f first))

    pub recycle_later : (s : ClientRole) (r : Replacement) → Sound (with_replacement s r)
        → Later (with_replacement s r) (recycle_by (with_replacement s r) r).0
    recycle_later s NoneUnderWay sound =
        by_test (λ (x : ClientRole × Result (Unit {0}) RecycleRefused).
        Later (with_replacement s NoneUnderWay) x.0) (nat_lt s.writing.number LAST_NUMBER)
        (begin_in s false, Ok tt) (with_replacement s NoneUnderWay, Err Last)
        (λ e. begin_in_later s false sound)
        (λ e. later_self (with_replacement s NoneUnderWay) sound)
    recycle_later s (In stage w) sound = later_self (with_replacement s (In stage w)) sound
    recycle_later s (Out stage w) sound = later_self (with_replacement s (Out stage w)) sound

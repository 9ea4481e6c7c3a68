-- what the puts of a client say: its values are fine, and each of its steps keeps that
use Rattle.std.specs.Option.{is_some}
use Rattle.rh_window.specs.Receiving as windows
use Rattle.law_order.proofs.Vocabulary.{◌≡◌, ℕ, ◌+◌, ◌-◌, ◌<◌, ◌≤◌, ◌^◌, ◌==◌, Bool, true, false, not, ◌&&◌, ◌||◌, nat_lt, nat_le, if◌then◌else◌, List, [], ◌∷◌, ◌++◌, length, is_ok, Some, None, Ok, Err, arith, rules, refl, sym, subst, nat_tests, AllByRecursion, Option, Result}
use Rattle.rh_sig.specs.declared.named.Named.TheVariants as named
use Rattle.rh_line.specs.Lines as lines
use Rattle.rh_shell.specs.declared.answers.Phase.TheVariants as phase
use Rattle.rh_shell.specs.declared.end_role.GiveRefused.TheVariants as give_refused
use Rattle.rh_client.specs.declared.replacement.InStage.TheVariants as in_stage
use Rattle.rh_client.specs.declared.replacement.OutStage.TheVariants as out_stage
use Rattle.rh_client.specs.declared.replacement.Waits.TheVariants as waits
use Rattle.rh_client.specs.Client as client
use Rattle.law_moves.proofs.Vocabulary.{Receiver, Ack, by_test, pdu_from_none, checked, pdu_fault, IsPdu, PduFault, Cookie, Named, ClientConfig, each_push, Line, Incoming, is_empty, channel_of, with_channel, admitted, channel_verdict, released, settled as settled_line, moved_on, after_admit, after_end, after_finish, after_take, after_open_next, total, queue_bytes, LegKind, ClientOut, OutServer, ClientIn, InServer, Which, Current, Next, is_zero, Count, Last}
use Rattle.law_role_client.proofs.Vocabulary.{LAST_NUMBER, Replacement, NoneUnderWay, In, Out, Waits, ClientRole, no_cookie, unopened_in, unopened_out, is_asked, is_put, is_named, in_up, out_up, told_in, has_out, with_out, taken, unexpected, first, is_opening, is_open, is_writing, is_current, is_out_successor, is_over, settled, begin_in, begin_out, after_in, after_out, up_by, with_next, on_conn_a3, on_conn_c2, ack_due, may_ack, pdu_channel, pdu_on, on_ack_to, ack_named, acked}
use Rattle.law_role_client.proofs.Vocabulary.{ack_row, answered, answer_by, recycle_by, wish_by, wished, wants_successor, handed_over, succeeded, ended_or, pass_by, passed, a2_by, a6_by, a10_by, on_out_r1_a2, give, give_pdu, take, end_channel, end_on, on_end_b2, drawn_by, ping_by, settled_or_wished, on_packet, packet_by, IsCookie, IsConfig, HasCookies}

-- ---- what the puts say

pub record Said : Type 0 where
  pub config : ClientConfig
  pub queue : List (List ℕ)
  -- the cookies of the IN channels, and of the OUT channels
  pub writing : Cookie
  pub in_successor : Cookie
  pub current : Cookie
  pub out_successor : Cookie
  -- the windows of the OUT channels
  pub now : Receiver
  pub next : Receiver

abbrev pub said : ClientRole → Said
said s = record {
  config = s.config;
  queue = s.queue;
  writing = s.writing.cookie;
  in_successor = s.in_successor.cookie;
  current = s.current.cookie;
  out_successor = s.out_successor.cookie;
  now = s.line.current.window;
  next = s.line.next.window;
}

-- nothing came behind what was told
abbrev pub IsWithin : Receiver → Type 0
IsWithin r = r.received ≤ r.told

pub record IsSound (d : Said) : Type 0 where
  pub config : IsConfig d.config
  pub cookies : HasCookies d.config
  pub queue : AllByRecursion IsPdu d.queue
  pub ins : IsCookie d.writing × IsCookie d.in_successor
  pub outs : IsCookie d.current × IsCookie d.out_successor
  pub windows : IsWithin d.now × IsWithin d.next

-- behind a step
abbrev pub Keeps : ClientRole → ClientRole → Type 0
Keeps s f = IsSound (said s) → IsSound (said f)

-- a step that changes nothing of it
same : (d e : Said) → e ≡ d → IsSound d → IsSound e
same d e q l = subst IsSound (sym q) l

-- of two states, and of two answers
either : (s : ClientRole) (b : Bool) (f g : ClientRole) → Keeps s f → Keeps s g
    → Keeps s (if b then f else g)
either s true f g k h = k
either s false f g k h = h

either_row : {B : Type 0} (s : ClientRole) (b : Bool) (x y : ClientRole × B) → Keeps s x.0
    → Keeps s y.0 → Keeps s (if b then x else y).0
either_row s true x y k h = k
either_row s false x y k h = h

with_ins : (d : Said) (writing successor : Cookie) → IsCookie writing × IsCookie successor
    → IsSound d → IsSound (record d { writing = writing; in_successor = successor })
with_ins d writing successor c l = record {
  config = l.config;
  cookies = l.cookies;
  queue = l.queue;
  ins = c;
  outs = l.outs;
  windows = l.windows;
}

with_outs : (d : Said) (current successor : Cookie) → IsCookie current × IsCookie successor
    → IsSound d → IsSound (record d { current = current; out_successor = successor })
with_outs d current successor c l = record {
  config = l.config;
  cookies = l.cookies;
  queue = l.queue;
  ins = l.ins;
  outs = c;
  windows = l.windows;
}

pub with_queue : (d : Said) (queue : List (List ℕ)) → AllByRecursion IsPdu queue → IsSound d
    → IsSound (record d { queue = queue })
with_queue d queue each l = record {
  config = l.config;
  cookies = l.cookies;
  queue = each;
  ins = l.ins;
  outs = l.outs;
  windows = l.windows;
}

-- ---- windows

abbrev pub AreWithin : Line → Type 0
AreWithin line = IsWithin line.current.window × IsWithin line.next.window

pub with_line : (s : ClientRole) (line : Line) → AreWithin line
    → Keeps s (record s { line = line })
with_line s line w l = record {
  config = l.config;
  cookies = l.cookies;
  queue = l.queue;
  ins = l.ins;
  outs = l.outs;
  windows = w;
}

pub of_channel : (line : Line) (which : Which) → AreWithin line
    → IsWithin (channel_of line which).window
of_channel line Current w = w.0
of_channel line Next w = w.1

pub channel_within : (line : Line) (which : Which) (c : Incoming) → IsWithin c.window
    → AreWithin line → AreWithin (with_channel line which c)
channel_within line Current c h w = (h, w.1)
channel_within line Next c h w = (w.0, h)

admit_within : (r : Receiver) (len : ℕ) → IsWithin r → IsWithin (windows.after_admit r len)
admit_within r len h = grind (arith, nat_tests, h)

admitted_within : (c : Incoming) (pdu : List ℕ) → IsWithin c.window
    → IsWithin (admitted c pdu).window
admitted_within c pdu h =
    by_test (λ (x : Incoming). IsWithin x.window) (is_ok (channel_verdict c pdu))
    (record c {
      pdus = c.pdus ++ pdu ∷ [];
      window = windows.after_admit c.window (length pdu);
    }) c
    (λ e. admit_within c.window (length pdu) h) (λ e. h)

settled_within : (line : Line) → AreWithin line → AreWithin (settled_line line)
settled_within line w =
    by_test AreWithin (line.finished && is_empty line.current.pdus) (moved_on line) line
    (λ e. (w.1, omega arith)) (λ e. w)

taken_within : (line : Line) (pdus : List (List ℕ)) → AreWithin line
    → AreWithin (lines.taken pdus line)
taken_within line [] w = w
taken_within line (pdu ∷ pdus) w =
    settled_within (record line { current = released (pdu ∷ pdus) line.current }) w

next_within : (line : Line) → AreWithin line → AreWithin (with_next line)
next_within line w =
    by_test AreWithin line.has_next line (after_open_next line false) (λ e. w)
    (λ e. (w.0, omega arith))

-- the numbers of an acknowledgement have four bytes, and what it tells is not before what came
abbrev pub IsAck : Receiver → Option Ack → Type 0
IsAck r None = Unit {0}
IsAck r (Some ack) =
    (ack.received < 2 ^ 32) × (ack.available < 2 ^ 32)
    × (r.received ≤ ack.received + ack.available)

due_is : (r : Receiver) → IsWithin r → IsAck r (windows.due r)
due_is r h =
    by_test (IsAck r) (windows.is_due r)
    (Some (record {
      received = r.received;
      available = windows.edge_of r - r.received;
    })) None
    (λ e. (grind (arith, nat_tests, e, h), grind (arith, nat_tests, e, h), omega arith))
    (λ e. tt)

pub ack_due_is : (s : ClientRole) (which : Which) → IsSound (said s)
    → IsAck (channel_of s.line which).window (ack_due s which)
ack_due_is s which l =
    let r = (channel_of s.line which).window in
    by_test (IsAck r) (may_ack s which) (lines.due s.line which) None
    (λ e. due_is r (of_channel s.line which l.windows)) (λ e. tt)

-- ---- replacements

begin_in_sound : (s : ClientRole) (w : Bool) → Keeps s (begin_in s w)
begin_in_sound s w =
    either s (nat_lt s.writing.number LAST_NUMBER)
    (record s {
      in_successor = unopened_in (s.writing.number + 1) s.config.lifetime;
      replacement = In in_stage.Asked w;
    })
    (record s { replacement = NoneUnderWay })
    (λ l. with_ins (said s) s.writing.cookie no_cookie (l.ins.0, refl) l) (λ l. l)

begin_out_sound : (s : ClientRole) (w : Waits) → Keeps s (begin_out s w)
begin_out_sound s w =
    either s (nat_lt s.current.number LAST_NUMBER)
    (record s {
      out_successor = unopened_out (s.current.number + 1);
      replacement = Out out_stage.Asked w;
    })
    (record s { replacement = NoneUnderWay })
    (λ l. with_outs (said s) s.current.cookie no_cookie (l.outs.0, refl) l) (λ l. l)

after_in_sound : (s : ClientRole) (w : Bool) → Keeps s (after_in s w)
after_in_sound s true l = begin_out_sound s waits.Nothing l
after_in_sound s false l = l

after_out_sound : (s : ClientRole) (w : Waits) → Keeps s (after_out s w)
after_out_sound s waits.Nothing l = l
after_out_sound s waits.In l = begin_in_sound s false l
after_out_sound s waits.Out l = begin_out_sound s waits.Nothing l
after_out_sound s waits.InThenOut l = begin_in_sound s true l
after_out_sound s waits.OutThenIn l = begin_out_sound s waits.In l

wish_sound : (s : ClientRole) (r : Replacement) → Keeps s (wish_by s r)
wish_sound s NoneUnderWay l = begin_in_sound s false l
wish_sound s (In stage w) l = l
wish_sound s (Out stage w) l = l

pub settled_sound : (s : ClientRole) → Keeps s (settled_or_wished s)
settled_sound s =
    either s (is_over s) (record s { phase = phase.Ended }) (wished s) (λ l. l)
    (either s (wants_successor s) (wish_by s s.replacement) s (wish_sound s s.replacement)
    (λ l. l))

pub handed_sound : (s : ClientRole) (w : Bool) → Keeps s (handed_over s w)
handed_sound s w l =
    after_in_sound (record s {
      leaving = s.writing;
      writing = s.in_successor;
      in_successor = unopened_in 0 s.config.lifetime;
    }) w (with_ins (said s) s.in_successor.cookie no_cookie (l.ins.1, refl) l)

ended_or_sound : (s : ClientRole) (w : Waits) → Keeps s (ended_or s w)
ended_or_sound s w =
    either s (is_over s) (record s { phase = phase.Ended }) (after_out s w) (λ l. l)
    (after_out_sound s w)

pass_sound : (s : ClientRole) (r : Replacement) → Keeps s (pass_by s r)
pass_sound s NoneUnderWay l = l
pass_sound s (In stage w) l = l
pass_sound s (Out out_stage.Asked w) l = l
pass_sound s (Out out_stage.Answered w) l = l
pass_sound s (Out out_stage.Switched w) l = l
pass_sound s (Out out_stage.Finished w) l =
    either s s.line.has_next s (ended_or (succeeded s) w) (λ l. l)
    (λ l. ended_or_sound (succeeded s) w
    (with_outs (said s) s.out_successor.cookie no_cookie (l.outs.1, refl) l)) l

pub recycle_sound : (s : ClientRole) (r : Replacement) → Keeps s (recycle_by s r).0
recycle_sound s NoneUnderWay l =
    either_row s (nat_lt s.writing.number LAST_NUMBER) (begin_in s false, Ok tt) (s, Err Last)
    (begin_in_sound s false) (λ l. l) l
recycle_sound s (In stage w) l = l
recycle_sound s (Out stage w) l = l

pub take_sound : (s : ClientRole) → Keeps s (take s)
take_sound s l =
    pass_sound (record s { line = after_take s.line }) s.replacement
    (with_line s (after_take s.line) (taken_within s.line s.line.current.pdus l.windows) l)

-- ---- rows

a2_sound : (s : ClientRole) (n : ℕ) (r : Replacement) → Keeps s (a2_by s n r).0
a2_sound s n NoneUnderWay l = begin_out_sound s waits.Nothing l
a2_sound s n (In stage true) l = l
a2_sound s n (In stage false) l = l
a2_sound s n (Out stage w) l =
    either_row s (is_out_successor s n && not (has_out w))
    (taken (record s { replacement = Out stage (with_out w) })) (unexpected s) (λ l. l) (λ l. l) l

a2_row : (s : ClientRole) (n to : ℕ) → Keeps s (on_out_r1_a2 s n to).0
a2_row s n to =
    either_row s (is_open s.phase && (to == 0 && nat_lt n LAST_NUMBER)) (a2_by s n s.replacement)
    (unexpected s) (a2_sound s n s.replacement) (λ l. l)

a10_sound : (s : ClientRole) (n : ℕ) (r : Replacement) → Keeps s (a10_by s n r).0
a10_sound s n NoneUnderWay l = l
a10_sound s n (In stage w) l = l
a10_sound s n (Out out_stage.Asked w) l = l
a10_sound s n (Out out_stage.Answered w) l = l
a10_sound s n (Out out_stage.Switched w) l =
    let f : ClientRole = record s {
      line = after_finish s.line;
      replacement = Out out_stage.Finished w;
    } in
    either_row s (s.line.has_next && is_current s n) (taken (passed f)) (unexpected s)
    (λ l. pass_sound f f.replacement (with_line s (after_finish s.line)
    (settled_within (record (s.line) { finished = true }) l.windows) l))
    (λ l. l) l
a10_sound s n (Out out_stage.Finished w) l = l

ended_sound : (s : ClientRole) → Keeps s (settled s)
ended_sound s = either s (is_over s) (record s { phase = phase.Ended }) s (λ l. l) (λ l. l)

end_sound : (s : ClientRole) (w : Option Which) → Keeps s (end_on s w).0
end_sound s None l = l
end_sound s (Some Current) l =
    let f : ClientRole = record s { line = after_end s.line Current } in
    either_row s s.line.current.ended (unexpected s) (taken (settled f)) (λ l. l) (ended_sound f) l
end_sound s (Some Next) l =
    let f : ClientRole = record s { line = after_end s.line Next } in
    either_row s s.line.next.ended (unexpected s) (taken (settled f)) (λ l. l) (ended_sound f) l

end_row : (s : ClientRole) (n : ℕ) → Keeps s (on_end_b2 s n).0
end_row s n =
    either_row s (is_open s.phase) (end_on s (end_channel s n)) (unexpected s)
    (end_sound s (end_channel s n)) (λ l. l)

pdu_on_sound : (s : ClientRole) (pdu : List ℕ) (w : Option Which) → Keeps s (pdu_on s pdu w).0
pdu_on_sound s pdu None l = l
pdu_on_sound s pdu (Some which) l =
    let c = channel_of s.line which in
    with_line s (after_admit s.line which pdu)
    (channel_within s.line which (admitted c pdu)
    (admitted_within c pdu (of_channel s.line which l.windows)) l.windows) l

acked_row : (s : ClientRole) (to r a : ℕ) (of : Cookie) → Keeps s (on_ack_to s to r a of).0
acked_row s to r a of =
    either_row s (is_open s.phase && to == 0) (ack_named s r a of) (unexpected s)
    (either_row s (is_named s.writing of)
    (record s { writing = acked s.writing r a }, ack_row s.writing r a) _ (λ l. l)
    (either_row s (is_named s.in_successor of)
    (record s { in_successor = acked s.in_successor r a }, ack_row s.in_successor r a) _ (λ l. l)
    (either_row s (is_named s.leaving of)
    (record s { leaving = acked s.leaving r a }, ack_row s.leaving r a) (taken s) (λ l. l)
    (λ l. l))))
    (λ l. l)

a3_row : (s : ClientRole) (n : ℕ) (count : Count) (t : ℕ) → Keeps s (on_conn_a3 s n count t).0
a3_row s n count t =
    either_row s (n == 1 && (is_current s n && is_zero count))
    (taken (record s { current = record (s.current) { timeout = Some t } })) (unexpected s)
    (λ l. l) (λ l. l)

c2_row : (s : ClientRole) (n w t : ℕ) → Keeps s (on_conn_c2 s n w t).0
c2_row s n w t =
    either_row s
    ((n == 1 && is_current s n) && (is_opening s.phase && is_some s.current.timeout))
    (taken (record s { phase = phase.Open; writing = told_in s.writing w t })) (unexpected s)
    (λ l. l) (λ l. l)

answer_sound : (s : ClientRole) (w t : ℕ) (r : Replacement) → Keeps s (answer_by s w t r).0
answer_sound s w t NoneUnderWay l = l
answer_sound s w t (In in_stage.Asked o) l =
    either_row s (is_put s.in_successor.opening)
    (taken (record s {
      in_successor = told_in s.in_successor w t;
      replacement = In in_stage.Answered o;
    }))
    (unexpected s) (λ l. l) (λ l. l) l
answer_sound s w t (In in_stage.Answered o) l = l
answer_sound s w t (Out stage o) l = l

a6_sound : (s : ClientRole) (t : ℕ) (r : Replacement) → Keeps s (a6_by s t r).0
a6_sound s t NoneUnderWay l = l
a6_sound s t (In stage o) l = l
a6_sound s t (Out out_stage.Asked w) l =
    either_row s (is_asked s.out_successor.opening)
    (taken (record s {
      out_successor = record (s.out_successor) { timeout = Some t };
      replacement = Out out_stage.Answered w;
    }))
    (unexpected s) (λ l. l) (λ l. l) l
a6_sound s t (Out out_stage.Answered w) l = l
a6_sound s t (Out out_stage.Switched w) l = l
a6_sound s t (Out out_stage.Finished w) l = l

-- the table
row_sound : (s : ClientRole) (n : ℕ) (count : Count) (packet : Named)
    → Keeps s (on_packet s n count packet).0
row_sound s n count (named.ConnA3 t) l = a3_row s n count t l
row_sound s n count (named.ConnC2 v w t) l = c2_row s n w t l
row_sound s n count (named.AckTo to r a of) l = acked_row s to r a of l
row_sound s n count (named.InR1A4 to v w t) l =
    either_row s (to == 0) (answered s w t) (unexpected s) (answer_sound s w t s.replacement)
    (λ l. l) l
row_sound s n count (named.InR2A4 to) l =
    either_row s (to == 0) (answered s s.writing.told s.writing.timeout) (unexpected s)
    (answer_sound s s.writing.told s.writing.timeout s.replacement) (λ l. l) l
row_sound s n count (named.OutR1A2 to) l = a2_row s n to l
row_sound s n count (named.OutR1A6 to v t) l =
    either_row s (to == 0 && is_current s n) (a6_by s t s.replacement) (unexpected s)
    (a6_sound s t s.replacement) (λ l. l) l
row_sound s n count named.OutR1A10 l = a10_sound s n s.replacement l
row_sound s n count named.EndB2 l = end_row s n l
row_sound s n count (named.ConnA1 v c d w) l = l
row_sound s n count (named.ConnA2 v c d life w) l = l
row_sound s n count (named.ConnB1 v c d life k g) l = l
row_sound s n count (named.ConnB2 v c d w t g a b) l = l
row_sound s n count (named.ConnB3 w v) l = l
row_sound s n count (named.ConnC1 v w t) l = l
row_sound s n count (named.InR1A1 v c d e) l = l
row_sound s n count (named.InR1A2 v c d e w t) l = l
row_sound s n count (named.InR1A3 to v w t) l = l
row_sound s n count (named.InR1A5 c) l = l
row_sound s n count (named.InR1A6 c) l = l
row_sound s n count named.InR1B1 l = l
row_sound s n count (named.InR1B2 w) l = l
row_sound s n count (named.InR2A2 c) l = l
row_sound s n count (named.InR2A3 to) l = l
row_sound s n count (named.OutR1A1 to) l = l
row_sound s n count (named.OutR1A3 v c d e w) l = l
row_sound s n count named.OutR2C1 l = l
row_sound s n count (named.OutR1A4 v c d e life w t) l = l
row_sound s n count (named.OutR1A5 to v t) l = l
row_sound s n count (named.OutR1A7 to c) l = l
row_sound s n count (named.OutR1A8 to c) l = l
row_sound s n count named.OutR1A9 l = l
row_sound s n count named.EndA1 l = l
row_sound s n count named.EndA2 l = l
row_sound s n count named.EndB1 l = l
row_sound s n count (named.Ack r w c) l = l
row_sound s n count (named.KeepAlive k) l = l
row_sound s n count (named.PingTraffic b) l = l
row_sound s n count named.Ping l = l

pub packet_sound : (s : ClientRole) (n : ℕ) (count : Count) (packet : Named) (k : LegKind)
    → Keeps s (packet_by s n count packet k).0
packet_sound s n count packet ClientOut l =
    either_row s (is_current s n || is_out_successor s n) (on_packet s n count packet)
    (unexpected s) (row_sound s n count packet) (λ l. l) l
packet_sound s n count packet OutServer l = l
packet_sound s n count packet ClientIn l = l
packet_sound s n count packet InServer l = l

pub pdu_sound : (s : ClientRole) (n : ℕ) (bytes : List ℕ) (k : LegKind)
    → Keeps s (client.pdu_by s n bytes k).0
pdu_sound s n bytes ClientOut l = pdu_on_sound s bytes (pdu_channel s n) l
pdu_sound s n bytes OutServer l = l
pdu_sound s n bytes ClientIn l = l
pdu_sound s n bytes InServer l = l

-- ---- legs

-- a leg is up, under a cookie that has its bytes
pub up_sound : (s : ClientRole) (n : ℕ) (cookie : Cookie) (k : LegKind) → IsCookie cookie
    → Keeps s (up_by s n cookie k)
up_sound s n cookie ClientOut h l =
    either s (is_current s n) (record s { current = out_up s.current cookie })
    (record s {
      out_successor = out_up s.out_successor cookie;
      line = with_next s.line;
    })
    (λ l. with_outs (said s) cookie s.out_successor.cookie (h, l.outs.1) l)
    (λ l. with_line (record s { out_successor = out_up s.out_successor cookie })
    (with_next s.line) (next_within s.line l.windows)
    (with_outs (said s) s.current.cookie cookie (l.outs.0, h) l)) l
up_sound s n cookie ClientIn h l =
    either s (is_writing s n) (record s { writing = in_up s.writing cookie })
    (record s { in_successor = in_up s.in_successor cookie })
    (λ l. with_ins (said s) cookie s.in_successor.cookie (h, l.ins.1) l)
    (λ l. with_ins (said s) s.writing.cookie cookie (l.ins.0, h) l) l
up_sound s n cookie OutServer h l = l
up_sound s n cookie InServer h l = l

pub drawn_sound : (s : ClientRole) (n : ℕ) (k : LegKind) → Keeps s (drawn_by s n k)
drawn_sound s n k l = same (said s) (said (drawn_by s n k)) (search rules) l

pub ping_sound : (s : ClientRole) (n : ℕ) (k : LegKind) → Keeps s (ping_by s n k)
ping_sound s n k l = same (said s) (said (ping_by s n k)) (search rules) l

-- ---- PDUs that are given

no_fault : (bytes : List ℕ) (o : Option PduFault) → pdu_fault bytes ≡ o
    → checked o ≡ Ok tt → IsPdu bytes
no_fault bytes None e c = pdu_from_none bytes e
no_fault bytes (Some fault) e c = absurd (cc)

given_sound : (s : ClientRole) (bytes : List ℕ) (v : Result (Unit {0}) PduFault)
    → checked (pdu_fault bytes) ≡ v → Keeps s (give_pdu s bytes v).0
given_sound s bytes (Err fault) e l = l
given_sound s bytes (Ok tt) e l =
    either_row s (nat_le (total s.queue + length bytes) queue_bytes)
    (record s { queue = s.queue ++ bytes ∷ [] }, Ok tt)
    (s, Err (give_refused.Full (total s.queue) (length bytes)))
    (λ l. with_queue (said s) (s.queue ++ bytes ∷ [])
    (each_push IsPdu s.queue bytes l.queue (no_fault bytes (pdu_fault bytes) refl e)) l)
    (λ l. l) l

pub give_sound : (s : ClientRole) (bytes : List ℕ) → Keeps s (give s bytes).0
give_sound s bytes =
    either_row s s.is_closing (s, Err give_refused.Closing)
    (give_pdu s bytes (checked (pdu_fault bytes))) (λ l. l)
    (given_sound s bytes (checked (pdu_fault bytes)) refl)

-- ---- the beginning

pub first_sound : (config : ClientConfig) → IsConfig config → HasCookies config
    → IsSound (said (first config))
first_sound config h c = record {
  config = h;
  cookies = c;
  queue = tt;
  ins = (refl, refl);
  outs = (refl, refl);
  windows = (omega arith, omega arith);
}

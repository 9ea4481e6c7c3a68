-- each message that is put keeps the law of a proxy
use Rattle.law_order.proofs.Vocabulary.{◌≡◌, ℕ, ◌+◌, Bool, true, false, ◌&&◌, ◌||◌, ◌==◌, nat_le, if◌then◌else◌, List, [], ◌∷◌, ◌++◌, Some, None, length, refl, sym, ap, ◌∙◌, Option, Item, PassesPdu, PassesEnd, PassesHandover, passes}
use Rattle.rh_sig.specs.declared.named.Named.TheVariants as named
use Rattle.rh_line.specs.declared.leg.LegKind.TheVariants as kinds
use Rattle.rh_shell.specs.Waiting as waits
use Rattle.rh_outproxy.specs.declared.state.Answer.TheVariants as answers
use Rattle.rh_outproxy.specs.declared.state.Mark.TheVariants as marks
use Rattle.rh_outproxy.specs.declared.state.ServerLeg.TheVariants as servers
use Rattle.rh_outproxy.specs.Putting as putting
use Rattle.law_moves.proofs.Vocabulary.{Ack, may_send, after_sent, by_test, Cookie, Named, Leg, Current, Line, is_empty, after_take, after_told, Due, Message, Text, Pdu, Packet, same_leg, is_of, OnLeg, Passage, put_by}
use Rattle.law_role_outproxy.proofs.Vocabulary.{Answer, NotDue, OutProxy, is_server_first, is_server_marked, is_echo_drawn, is_ping_due, is_due, is_put, is_over, joined, is_co, is_os, first_packet, ack_due, Pick, or_else, shelf_of, shelves_of, passer_of, to_client, items_of, client_leg, server_leg, put_items}
use Rattle.law_role_outproxy.proofs.Conditions.{both_left, both_right, either_right, due_came, due_unput, none_held}
use Rattle.law_role_outproxy.proofs.ItemLogs.{items_more, items_none, server_apart}
use Rattle.law_role_outproxy.proofs.ProxyLaw.{picture_of, AreOther, Law, stays, acts}

pub none_either : (t : Bool) → ◌≡◌ {A = List Item} (if t then [] else []) []
none_either true = refl
none_either false = refl

pub other_put : (n : ℕ) (p : Passage OutProxy) (leg : Leg) (s : OutProxy) (m : Message)
    → picture_of s ≡ picture_of p.role → AreOther s.waiting.due
    → items_of (client_leg p.role.config.number) to_client (leg, m) ≡ [] → Law n p
    → Law n (put_by p leg (Some (s, m)))
other_put n p leg s m same other none l =
    stays n p (put_by p leg (Some (s, m))) same other refl
    (items_none (client_leg p.role.config.number) to_client p.put (leg, m) none) l

pub first_else : (P : Pick → Type 0) (a b : Pick) → P a → P b → P (or_else a b)
first_else P None b pa pb = pb
first_else P (Some x) b pa pb = pa

pub answer_put : (n : ℕ) (p : Passage OutProxy) (leg : Leg) (answer : Answer) → Law n p
    → Law n (put_by p leg (putting.answer_by answer p.role))
answer_put n p leg answers.Awaited l = l
answer_put n p leg answers.EchoDue l =
    other_put n p leg (record (p.role) { answer = answers.EchoPut }) (Text putting.echo_text) refl
    l.other (none_either (same_leg (client_leg p.role.config.number) leg)) l
answer_put n p leg answers.EchoPut l = l
answer_put n p leg answers.EchoDrawn l = l
answer_put n p leg answers.ResponseDue l =
    other_put n p leg (record (p.role) { answer = putting.behind_response p.role.channel })
    (Text (putting.out_response p.role)) refl l.other
    (none_either (same_leg (client_leg p.role.config.number) leg)) l
answer_put n p leg answers.TimeoutDue l =
    other_put n p leg (record (p.role) { answer = answers.Put })
    (Packet (named.ConnA3 p.role.config.timeout)) refl l.other
    (none_either (same_leg (client_leg p.role.config.number) leg)) l
answer_put n p leg answers.Put l = l

pub waiting_put : (n : ℕ) (p : Passage OutProxy) (leg : Leg) (dues : List Due) → AreOther dues
    → Law n p → Law n (put_by p leg (putting.waiting_by p.role dues))
waiting_put n p leg [] other l = l
waiting_put n p leg (due ∷ dues) other l =
    other_put n p leg (record (p.role) { waiting = waits.with_due p.role.waiting dues })
    (Packet due.packet) refl other.1
    (by_test (λ (items : List Item). items ≡ []) (same_leg (client_leg p.role.config.number) leg)
    (to_client (Packet due.packet)) [] (λ t. other.0) (λ t. refl)) l

-- an item is put on the client's leg
pub put_log : (n : ℕ) (leg : Leg) (m : Message) (put : List OnLeg)
    → same_leg (client_leg n) leg ≡ true
    → put_items n (put ++ (leg, m) ∷ []) ≡ put_items n put ++ to_client m
put_log n leg m put here = items_more (client_leg n) to_client put (leg, m) ∙ rw here refl

-- the first PDU is taken from a line with one channel
pub first_taken : (line : Line) (pdu : List ℕ) (pdus : List (List ℕ))
    → line.current.pdus ≡ pdu ∷ pdus → line.finished ≡ false
    → ((after_take line).current.pdus ≡ pdus) × ((after_take line).finished ≡ false)
first_taken line pdu pdus e single = rw (e, single) (refl, refl)

pub pdu_put : (n : ℕ) (p : Passage OutProxy) (leg : Leg) (pdus : List (List ℕ))
    → is_co p.role leg ≡ true → p.role.line.current.pdus ≡ pdus → Law n p
    → Law n (put_by p leg (putting.pdu_by p.role pdus))
pdu_put n p leg [] here held l = l
pdu_put n p leg (pdu ∷ pdus) here held l =
    let now : OutProxy = record (p.role) {
      line = after_take p.role.line;
      window = after_sent p.role.window (length pdu);
    } in
    let after = first_taken p.role.line pdu pdus held l.single in
    by_test (λ (pick : Pick). Law n (put_by p leg pick)) (may_send p.role.window (length pdu))
    (Some (now, Pdu pdu)) None
    (λ t. acts n p (put_by p leg (Some (now, Pdu pdu))) (PassesPdu pdu pdus)
    (ap (λ (rest : List (List ℕ)). passes (passer_of p.role) (PassesPdu pdu rest)) after.0) refl
    after.1 l.other refl (put_log p.role.config.number leg (Pdu pdu) p.put here) held l)
    (λ t. l)

pub not_handed : (s : OutProxy) → is_over s ≡ false → is_put s.handover ≡ false
not_handed s e =
    either_right (is_server_marked s.server) (is_put s.handover)
    (either_right (is_echo_drawn s.answer) (is_server_marked s.server || is_put s.handover) e)

pub end_put : (n : ℕ) (p : Passage OutProxy) (leg : Leg) → is_co p.role leg ≡ true
    → is_over p.role ≡ false → Law n p → Law n (put_by p leg (putting.put_end p.role))
end_put n p leg here works l =
    let s = p.role in
    let now : OutProxy = record s { end = marks.Put } in
    by_test (λ (pick : Pick). Law n (put_by p leg pick))
    (is_empty s.line.current.pdus && is_due s.end) (Some (now, Packet named.EndB2)) None
    (λ t.
    let held =
    none_held s.line.current.pdus (both_left (is_empty s.line.current.pdus) (is_due s.end) t) in
    let due = both_right (is_empty s.line.current.pdus) (is_due s.end) t in
    acts n p (put_by p leg (Some (now, Packet named.EndB2))) PassesEnd
    (ap (λ (b : Bool). record (passer_of now) {
      shelves = record (shelves_of now) { now = record (shelf_of now) { ended = b } };
    }) (sym (due_came s.end due)))
    refl l.single l.other refl
    (put_log s.config.number leg (Packet named.EndB2) p.put here)
    (due_came s.end due, held, due_unput s.end due, not_handed s works) l)
    (λ t. l)

pub handover_put : (n : ℕ) (p : Passage OutProxy) (leg : Leg) → is_co p.role leg ≡ true
    → is_over p.role ≡ false → Law n p → Law n (put_by p leg (putting.put_handover p.role))
handover_put n p leg here works l =
    let s = p.role in
    let now : OutProxy = record s { handover = marks.Put } in
    by_test (λ (pick : Pick). Law n (put_by p leg pick))
    (is_empty s.line.current.pdus && is_due s.handover) (Some (now, Packet named.OutR1A10)) None
    (λ t.
    let held =
    none_held s.line.current.pdus
    (both_left (is_empty s.line.current.pdus) (is_due s.handover) t) in
    let due = both_right (is_empty s.line.current.pdus) (is_due s.handover) t in
    acts n p (put_by p leg (Some (now, Packet named.OutR1A10))) PassesHandover
    (ap (λ (b : Bool). record (passer_of now) {
      shelves = record (shelves_of now) { now = record (shelf_of now) { finished = b } };
    }) (sym (due_came s.handover due)))
    refl l.single l.other refl
    (put_log s.config.number leg (Packet named.OutR1A10) p.put here)
    (due_came s.handover due, held, not_handed s works) l)
    (λ t. l)

pub ping_put : (n : ℕ) (p : Passage OutProxy) (leg : Leg) → Law n p
    → Law n (put_by p leg (putting.put_ping p.role))
ping_put n p leg l =
    let s = p.role in
    let now : OutProxy = record s { ping = NotDue; pinged = s.pinged + 20 } in
    by_test (λ (pick : Pick). Law n (put_by p leg pick))
    (is_ping_due s.ping && nat_le (s.pinged + 20) putting.ping_room) (Some (now, Packet named.Ping))
    None
    (λ t. other_put n p leg now (Packet named.Ping) refl l.other
    (none_either (same_leg (client_leg s.config.number) leg)) l)
    (λ t. l)

pub co_put : (n : ℕ) (p : Passage OutProxy) (leg : Leg) → is_co p.role leg ≡ true
    → is_over p.role ≡ false → Law n p → Law n (put_by p leg (putting.next_co p.role))
co_put n p leg here works l =
    let s = p.role in
    let Then = λ (pick : Pick). Law n (put_by p leg pick) in
    let ping = ping_put n p leg l in
    let mark =
    first_else Then (putting.put_end s) (putting.put_handover s) (end_put n p leg here works l)
    (handover_put n p leg here works l) in
    let behind = first_else Then (putting.put_mark s) (putting.put_ping s) mark ping in
    let pdu =
    first_else Then (putting.put_pdu s) (or_else (putting.put_mark s) (putting.put_ping s))
    (pdu_put n p leg s.line.current.pdus here refl l) behind in
    let waiting =
    first_else Then (putting.put_waiting s)
    (or_else (putting.put_pdu s) (or_else (putting.put_mark s) (putting.put_ping s)))
    (waiting_put n p leg s.waiting.due l.other l) pdu in
    first_else Then (putting.put_answer s)
    (or_else (putting.put_waiting s)
    (or_else (putting.put_pdu s) (or_else (putting.put_mark s) (putting.put_ping s))))
    (answer_put n p leg s.answer l) waiting

-- what is put on the server's leg is no item
pub to_server : (n : ℕ) (leg : Leg) (m : Message) → same_leg (server_leg n) leg ≡ true
    → items_of (client_leg n) to_client (leg, m) ≡ []
to_server n leg m here =
    let other =
    server_apart leg.kind (both_left (is_of kinds.OutServer leg) (n == leg.number) here) in
    rw other refl

pub first_put : (n : ℕ) (p : Passage OutProxy) (leg : Leg) (packet : Option Named)
    → is_os p.role leg ≡ true → Law n p
    → Law n (put_by p leg (putting.first_by p.role packet))
first_put n p leg None here l = l
first_put n p leg (Some packet) here l =
    other_put n p leg (record (p.role) { server = servers.Up }) (Packet packet) refl l.other
    (to_server p.role.config.number leg (Packet packet) here) l

pub ack_put : (n : ℕ) (p : Passage OutProxy) (leg : Leg) (cookie : Option Cookie) (ack : Option Ack)
    → is_os p.role leg ≡ true → Law n p
    → Law n (put_by p leg (putting.ack_by p.role cookie ack))
ack_put n p leg None ack here l = l
ack_put n p leg (Some cookie) None here l = l
ack_put n p leg (Some cookie) (Some ack) here l =
    other_put n p leg (record (p.role) { line = after_told p.role.line Current ack })
    (Packet (named.Ack ack.received ack.available cookie)) refl l.other
    (to_server p.role.config.number leg (Packet (named.Ack ack.received ack.available cookie)) here)
    l

pub os_put : (n : ℕ) (p : Passage OutProxy) (leg : Leg) → is_os p.role leg ≡ true → Law n p
    → Law n (put_by p leg (putting.next_os p.role))
os_put n p leg here l =
    let s = p.role in
    let Then = λ (pick : Pick). Law n (put_by p leg pick) in
    first_else Then (putting.put_first s) (putting.put_ack s)
    (by_test Then (is_server_first s.server) (putting.first_by s (first_packet s s.channel)) None
    (λ t. first_put n p leg (first_packet s s.channel) here l) (λ t. l))
    (ack_put n p leg (joined s.channel) (ack_due s) here l)

pub put_law : (n : ℕ) (p : Passage OutProxy) (leg : Leg) → is_over p.role ≡ false → Law n p
    → Law n (put_by p leg (putting.put p.role leg))
put_law n p leg works l =
    let s = p.role in
    let Then = λ (pick : Pick). Law n (put_by p leg pick) in
    by_test Then (is_co s leg) (putting.next_co s)
    (if is_os s leg then putting.next_os s else None)
    (λ here. co_put n p leg here works l)
    (λ t. by_test Then (is_os s leg) (putting.next_os s) None (λ here. os_put n p leg here l)
    (λ u. l))

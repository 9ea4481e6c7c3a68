-- why a client refuses what comes
use Rattle.law_order.proofs.Vocabulary.{◌≡◌, ℕ, ◌==◌, Bool, true, false, true≢false, not, ◌&&◌, ◌||◌, nat_lt, if◌then◌else◌, List, Ok, Err, rules, refl, sym, ap, ◌∙◌, and_parts, Result}
use Rattle.rh_sig.specs.declared.named.Named.TheVariants as named
use Rattle.rh_shell.specs.declared.answers.Refused.TheVariants as refused
use Rattle.law_moves.proofs.Vocabulary.{ack_verdict, BadAck, Cookie, Named, ClientConfig, Leg, LegKind, ClientOut, OutServer, ClientIn, InServer, Count, is_ended, Row, Passage, EndMove, end_started, all_end_moved, AreAllowedAtEnd, is_in_use, of_leg, Tells, packets}
use Rattle.law_role_client.proofs.Vocabulary.{ClientRole, InChannel, is_up, is_named, is_finished, Done, taken, first, unexpected, is_open, is_current, is_out_successor, co, on_ack_to, ack_named, ack_row, ack_row_by, was_up_by, is_done_by, acts, rules as client_rules, on_packet, packet_by, pdu_by}
use Rattle.law_role_client.proofs.TakesInOrder.{takes_in_order}
use Rattle.law_role_client.proofs.Counted.InCounts.{replaces_ins}
use Rattle.law_role_client.proofs.Counted.OutCounts.{replaces_outs}
use Rattle.law_role_client.proofs.Counted.Wishes.{asks_where_wanted}
use Rattle.law_role_client.proofs.Counted.Opens.{opens_once}
use Rattle.law_role_client.proofs.Sending.Laws.{not_so as not_true}
use Rattle.law_role_client_rows.proofs.Refusing.Rows.{IsRefused, refused_by, Stands, stands_by, on_one, Facts, ack_refused, answer_refused, a2_refused, a6_refused, a10_refused}
use Rattle.law_role_client_rows.proofs.Refusing.Ends.{end_refused, pdu_refused, a3_refused, c2_refused}
use Rattle.law_role_client_rows.proofs.Refusing.Putting.{client_channels}
use Rattle.law_role_client_rows.specs.Refusing.{UnexpectedPduBy, UnexpectedOn, UnexpectedBy, Refuses}

-- ---- legs in use

at_work : (s : ClientRole) (leg : Leg) → is_in_use client_rules s leg ≡ true
    → is_ended s.phase ≡ false
at_work s leg e =
    not_true (is_ended s.phase)
    (and_parts (not (is_ended s.phase)) (not (is_done_by s leg.number leg.kind)) e).0

stands : (s : ClientRole) (n : ℕ) (k : LegKind) → k ≡ ClientOut
    → (not (is_ended s.phase) && not (is_done_by s n k)) ≡ true → was_up_by s n k ≡ true
    → Stands s n
stands s n ClientOut e used was =
    stands_by (is_current s n) (is_finished s.replacement) (nat_lt n s.current.number)
    (nat_lt 0 n) (is_up s.current.opening) (is_out_successor s n)
    (is_up s.out_successor.opening)
    (not_true (is_done_by s n ClientOut)
    (and_parts (not (is_ended s.phase)) (not (is_done_by s n ClientOut)) used).1)
    was
stands s n OutServer e used was = absurd (true≢false (sym was))
stands s n ClientIn e used was = absurd (cc)
stands s n InServer e used was = absurd (true≢false (sym was))

-- ---- cookies

abbrev is_plain : Row → Bool
is_plain (Err (refused.Cookie expected got)) = false
is_plain row = true

never : (row : Row) (expected got : Cookie) → is_plain row ≡ true
    → row ≡ Err (refused.Cookie expected got) → ⊥
never row expected got plain e = true≢false (sym plain ∙ ap is_plain e)

pdu_plain : (s : ClientRole) (n : ℕ) (pdu : List ℕ) (k : LegKind)
    → is_plain (pdu_by s n pdu k).1 ≡ true
pdu_plain s n pdu k = search rules

plain_if : (b : Bool) (x y : Done) → is_plain x.1 ≡ true → is_plain y.1 ≡ true
    → is_plain (if b then x else y).1 ≡ true
plain_if true x y one other = one
plain_if false x y one other = other

ack_plain : (c : InChannel) (received available : ℕ)
    → is_plain (ack_row c received available) ≡ true
ack_plain c received available = by (ack_verdict c.window received available)
  where
    by : (v : Result (Unit {0}) BadAck) → is_plain (ack_row_by v) ≡ true
    by (Ok acked) = refl
    by (Err bad) = refl

named_plain : (s : ClientRole) (to received available : ℕ) (of : Cookie)
    → is_plain (on_ack_to s to received available of).1 ≡ true
named_plain s to received available of =
    plain_if (is_open s.phase && to == 0) (ack_named s received available of) (unexpected s)
    (plain_if (is_named s.writing of) _ _ (ack_plain s.writing received available)
    (plain_if (is_named s.in_successor of) _ _ (ack_plain s.in_successor received available)
    (plain_if (is_named s.leaving of) _ (taken s) (ack_plain s.leaving received available) refl)))
    refl

-- ---- the table

-- a packet is refused where that is so, and not for its cookie
abbrev Answer : Passage ClientRole → ℕ → Count → Named → Done → Type 0
Answer p n count m x =
    (Facts p → Stands p.role n → Tells count (packets (of_leg (co n) p.came)) → IsRefused x
    → UnexpectedOn p n m)
    × (is_plain x.1 ≡ true)

table : (p : Passage ClientRole) (n : ℕ) (count : Count) (m : Named)
    → Answer p n count m (on_packet p.role n count m)
table p n count (named.ConnA3 t) = (a3_refused p n count t, search rules)
table p n count (named.ConnC2 v w t) =
    (λ h there tells. c2_refused p n v w t h there, search rules)
table p n count (named.AckTo to a b of) =
    (λ h there tells. ack_refused p n to a b of h, named_plain p.role to a b of)
table p n count (named.InR1A4 to v w t) =
    (λ h there tells. answer_refused p to w t h, search rules)
table p n count (named.InR2A4 to) = (
  λ h there tells. answer_refused p to p.role.writing.told p.role.writing.timeout h,
  search rules,
)
table p n count (named.OutR1A2 to) =
    (λ h there tells. a2_refused p n to h there, search rules)
table p n count (named.OutR1A6 to v t) =
    (λ h there tells. a6_refused p n to v t h, search rules)
table p n count named.OutR1A10 = (
  λ h there tells. a10_refused p n p.role.replacement h.outs.at h.channels.next,
  search rules,
)
table p n count named.EndB2 = (λ h there tells. end_refused p n h there, search rules)
table p n count (named.ConnA1 v c d w) = (λ h there tells e. tt, refl)
table p n count (named.ConnA2 v c d life w) = (λ h there tells e. tt, refl)
table p n count (named.ConnB1 v c d life k g) = (λ h there tells e. tt, refl)
table p n count (named.ConnB2 v c d w t g x y) = (λ h there tells e. tt, refl)
table p n count (named.ConnB3 w v) = (λ h there tells e. tt, refl)
table p n count (named.ConnC1 v w t) = (λ h there tells e. tt, refl)
table p n count (named.InR1A1 v c d e) = (λ h there tells e. tt, refl)
table p n count (named.InR1A2 v c d e w t) = (λ h there tells e. tt, refl)
table p n count (named.InR1A3 to v w t) = (λ h there tells e. tt, refl)
table p n count (named.InR1A5 c) = (λ h there tells e. tt, refl)
table p n count (named.InR1A6 c) = (λ h there tells e. tt, refl)
table p n count named.InR1B1 = (λ h there tells e. tt, refl)
table p n count (named.InR1B2 w) = (λ h there tells e. tt, refl)
table p n count (named.InR2A2 c) = (λ h there tells e. tt, refl)
table p n count (named.InR2A3 to) = (λ h there tells e. tt, refl)
table p n count (named.OutR1A1 to) = (λ h there tells e. tt, refl)
table p n count (named.OutR1A3 v c d e w) = (λ h there tells e. tt, refl)
table p n count named.OutR2C1 = (λ h there tells e. tt, refl)
table p n count (named.OutR1A4 v c d e life w t) = (λ h there tells e. tt, refl)
table p n count (named.OutR1A5 to v t) = (λ h there tells e. tt, refl)
table p n count (named.OutR1A7 to c) = (λ h there tells e. tt, refl)
table p n count (named.OutR1A8 to c) = (λ h there tells e. tt, refl)
table p n count named.OutR1A9 = (λ h there tells e. tt, refl)
table p n count named.EndA1 = (λ h there tells e. tt, refl)
table p n count named.EndA2 = (λ h there tells e. tt, refl)
table p n count named.EndB1 = (λ h there tells e. tt, refl)
table p n count (named.Ack r w c) = (λ h there tells e. tt, refl)
table p n count (named.KeepAlive k) = (λ h there tells e. tt, refl)
table p n count (named.PingTraffic b) = (λ h there tells e. tt, refl)
table p n count named.Ping = (λ h there tells e. tt, refl)

on_leg : (p : Passage ClientRole) (n : ℕ) (count : Count) (m : Named) (k : LegKind) → Facts p
    → (k ≡ ClientOut → Stands p.role n)
    → Tells count (packets (of_leg (record { kind = k; number = n }) p.came))
    → IsRefused (packet_by p.role n count m k) → UnexpectedBy p n m k
on_leg p n count m ClientOut h there tells r =
    refused_by (is_current p.role n || is_out_successor p.role n) (on_packet p.role n count m)
    (unexpected p.role) (λ e. (table p n count m).0 h (there refl) tells)
    (λ e o. absurd (true≢false (sym (on_one p.role n (there refl)) ∙ e))) r
on_leg p n count m OutServer h there tells r = tt
on_leg p n count m ClientIn h there tells r = tt
on_leg p n count m InServer h there tells r = tt

packet_plain : (p : Passage ClientRole) (n : ℕ) (count : Count) (m : Named) (k : LegKind)
    → is_plain (packet_by p.role n count m k).1 ≡ true
packet_plain p n count m ClientOut =
    plain_if (is_current p.role n || is_out_successor p.role n) (on_packet p.role n count m)
    (unexpected p.role) (table p n count m).1 refl
packet_plain p n count m OutServer = refl
packet_plain p n count m ClientIn = refl
packet_plain p n count m InServer = refl

pdu_on_leg : (p : Passage ClientRole) (n : ℕ) (pdu : List ℕ) (k : LegKind) → Facts p
    → (k ≡ ClientOut → Stands p.role n) → IsRefused (pdu_by p.role n pdu k)
    → UnexpectedPduBy p n k
pdu_on_leg p n pdu ClientOut h there r = pdu_refused p n pdu h (there refl) r
pdu_on_leg p n pdu OutServer h there r = tt
pdu_on_leg p n pdu ClientIn h there r = tt
pdu_on_leg p n pdu InServer h there r = tt

-- ---- the law

refuses_by : (p : Passage ClientRole) → (is_ended p.role.phase ≡ false → Facts p) → Refuses p
refuses_by p h = record {
  pdu = λ leg count bytes used was r.
      pdu_on_leg p leg.number bytes leg.kind (h (at_work p.role leg used))
      (λ k. stands p.role leg.number leg.kind k used was) r;
  packet = λ leg count m used was tells r.
      on_leg p leg.number count m leg.kind (h (at_work p.role leg used))
      (λ k. stands p.role leg.number leg.kind k used was) tells r;
  pdu_cookie = λ leg count bytes expected got r.
      never (pdu_by p.role leg.number bytes leg.kind).1 expected got
      (pdu_plain p.role leg.number bytes leg.kind) r;
  cookie = λ leg count m expected got r.
      never (packet_by p.role leg.number count m leg.kind).1 expected got
      (packet_plain p leg.number count m leg.kind) r;
}

pub refuses : (config : ClientConfig) (moves : List EndMove)
    → AreAllowedAtEnd client_rules acts (end_started (first config)) moves
    → Refuses (all_end_moved client_rules acts (end_started (first config)) moves).passage
refuses config moves allowed =
    refuses_by (all_end_moved client_rules acts (end_started (first config)) moves).passage
    (λ work. record {
      ins = replaces_ins config moves allowed;
      outs = replaces_outs config moves allowed;
      asks = asks_where_wanted config moves allowed;
      opens = opens_once config moves allowed;
      out = (all_end_moved client_rules acts (end_started (first config)) moves).taken;
      takes = takes_in_order config moves allowed;
      channels = client_channels config moves allowed;
      at_work = work;
    })

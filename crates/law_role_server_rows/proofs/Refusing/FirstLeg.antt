-- each CONN/A2 came on the first os leg
use Rattle.law_order.proofs.Vocabulary.{◌≡◌, ℕ, ◌+◌, ◌==◌, ◌&&◌, List, [], ◌∷◌, ◌++◌, Bool, true, false, not, if◌then◌else◌, Ok, Err, arith, refl, sym, ap, ◌∙◌, subst, and_parts, Some, None}
use Rattle.rh_sig.specs.declared.named.Named.TheVariants as named
use Rattle.rh_server.specs.Servers.{pdu_by}
use Rattle.rh_server.specs.declared.out_line.Kind.TheVariants as kind
use Rattle.law_moves.proofs.Vocabulary.{by_test, same_number, Cookie, Named, Leg, LegKind, ClientOut, OutServer, ClientIn, InServer, Count, Message, Packet, Pdu, is_of, count_of, of_kind, OnLeg, EndMove, end_started, all_end_moved, of_leg}
use Rattle.law_moves.proofs.Lemmas.{count_append, leg_more, kind_more, RowKeeps, PutKeeps, StepsKeep, ActsKeep, end_moves_keep}
use Rattle.law_role_server.proofs.Vocabulary.{waits, Server, Done, unexpected, is_first, conn_a2_at, on_conn_a2, Pick, put as put_on, on_os, on_is, packet_by, first, acts, rules as server_rules, is_conn_a2, leg_at, often, often_at}
use Rattle.law_role_server_rows.proofs.Refusing.Begun.{none_by}

abbrev pub AreFirst : List OnLeg → Type 0
AreFirst came = often is_conn_a2 OutServer came ≡ often_at is_conn_a2 OutServer 1 came

abbrev Holds : Server → List OnLeg → List OnLeg → Type 0
Holds s came put = AreFirst came

first_more : (came : List OnLeg) (one : OnLeg) → AreFirst (one ∷ []) → AreFirst came
    → AreFirst (came ++ one ∷ [])
first_more came one here h = omega (arith, all, each, here, h)
  where
    all : often is_conn_a2 OutServer (came ++ one ∷ [])
        ≡ often is_conn_a2 OutServer came + often is_conn_a2 OutServer (one ∷ [])
    all = ap (count_of is_conn_a2) (kind_more OutServer came one)
        ∙ count_append is_conn_a2 (of_kind OutServer came) (of_kind OutServer (one ∷ []))

    each : often_at is_conn_a2 OutServer 1 (came ++ one ∷ [])
        ≡ often_at is_conn_a2 OutServer 1 came + often_at is_conn_a2 OutServer 1 (one ∷ [])
    each = ap (count_of is_conn_a2) (leg_more (leg_at OutServer 1) came one)
        ∙ count_append is_conn_a2 (of_leg (leg_at OutServer 1) came)
        (of_leg (leg_at OutServer 1) (one ∷ []))

row_first : (one : OnLeg) (came put : List OnLeg) (x : Done) → AreFirst (one ∷ [])
    → AreFirst came → RowKeeps Holds one came put x
row_first one came put (t, Ok taken) here h = first_more came one here h
row_first one came put (t, Err why) here h = h

-- what is no CONN/A2
other_first : (leg : Leg) (m : Message) → count_of is_conn_a2 (m ∷ []) ≡ 0
    → AreFirst ((leg, m) ∷ [])
other_first leg m none = by (is_of OutServer leg) ∙ sym (none_by is_conn_a2 leg m 1 none)
  where
    by : (b : Bool) → count_of is_conn_a2 (if b then m ∷ [] else []) ≡ 0
    by true = none
    by false = refl

conn_a2_row : (s : Server) (n : ℕ) (count : Count) (a b : Cookie) (c d : ℕ) (m : Message)
    (came put : List OnLeg) → AreFirst ((leg_at OutServer 1, m) ∷ []) → AreFirst came
    → RowKeeps Holds (leg_at OutServer n, m) came put (on_conn_a2 s n count a b c d)
conn_a2_row s n count a b c d m came put here h =
    by_test (Row n) (is_first count && ((n == 1) && not (waits kind.ConnC1 s.waiting)))
    (conn_a2_at s s.stage a b c d) (unexpected s)
    (λ e. subst (λ (k : ℕ). Row k (conn_a2_at s s.stage a b c d)) (sym (same_number n 1
    (and_parts (n == 1) _ (and_parts (is_first count) _ e).1).0))
    (row_first (leg_at OutServer 1, m) came put (conn_a2_at s s.stage a b c d) here h))
    (λ e. h)
  where
    Row : ℕ → Done → Type 0
    Row k x = RowKeeps Holds (leg_at OutServer k, m) came put x

on_os_first : (s : Server) (n : ℕ) (count : Count) (m : Named) (came put : List OnLeg)
    → AreFirst came → RowKeeps Holds (leg_at OutServer n, Packet m) came put (on_os s n count m)
on_os_first s n count (named.ConnA2 v1 v2 v3 v4 v5) came put h =
    conn_a2_row s n count v2 v3 v4 v5 (Packet (named.ConnA2 v1 v2 v3 v4 v5)) came put refl h
on_os_first s n count m came put h =
    row_first (leg_at OutServer n, Packet m) came put (on_os s n count m)
    (other_first (leg_at OutServer n) (Packet m) refl) h

packet_first : (s : Server) (n : ℕ) (count : Count) (m : Named) (k : LegKind)
    (came put : List OnLeg) → AreFirst came
    → RowKeeps Holds (leg_at k n, Packet m) came put (packet_by s n count m k)
packet_first s n count m InServer came put h =
    row_first (leg_at InServer n, Packet m) came put (on_is s n count m) refl h
packet_first s n count m OutServer came put h = on_os_first s n count m came put h
packet_first s n count m ClientIn came put h = h
packet_first s n count m ClientOut came put h = h

steps : StepsKeep server_rules Holds
steps = record {
  up = λ s leg cookie came put h. h;
  head = λ s leg text came put h. h;
  pdu = λ s leg count bytes came put h.
      row_first (leg, Pdu bytes) came put (pdu_by s leg.number bytes leg.kind)
      (other_first leg (Pdu bytes) refl) h;
  packet = λ s leg count m came put h. packet_first s leg.number count m leg.kind came put h;
  put = λ s leg came put h. by leg came put h (put_on s leg);
  drawn = λ s leg came put h. h;
  mark = λ s leg came put h. h;
  ping = λ s leg came put h. h;
}
  where
    by : (leg : Leg) (came put : List OnLeg) → AreFirst came → (pick : Pick)
        → PutKeeps Holds leg came put pick
    by leg came put h None = tt
    by leg came put h (Some one) = h

calls : ActsKeep acts Holds
calls = record {
  give = λ s bytes came put h. h;
  take = λ s came put h. h;
  close = λ s came put h. h;
  recycle = λ s came put h. h;
}

pub first_so : (window : ℕ) (moves : List EndMove)
    → AreFirst (all_end_moved server_rules acts (end_started (first window)) moves).passage.came
first_so window moves =
    end_moves_keep server_rules Holds steps acts calls (end_started (first window)) moves refl

-- each row of a server keeps what it knows of the windows of out proxies
use Rattle.rh_keep.specs.Meters.{started}
use Rattle.law_order.proofs.Vocabulary.{◌≡◌, ℕ, ◌+◌, ◌<◌, ◌≤◌, ◌==◌, List, [], ◌∷◌, ◌++◌, Bool, true, false, true≢false, if◌then◌else◌, ◌&&◌, not, Some, None, Ok, Err, arith, refl, sym, ap, ◌∙◌, subst, rules, false≢true, and_parts, append-nil, slice_get, slice_set, IfSome, IsTrue, AllByRecursion, Option, Result}
use Rattle.rh_sig.specs.declared.named.Named.TheVariants as named
use Rattle.rh_shell.specs.declared.answers.Refused.TheVariants as refused
use Rattle.rh_server.specs.declared.state.Stage.TheVariants as stage
use Rattle.rh_server.specs.declared.out_line.Kind.TheVariants as kind
use Rattle.law_moves.proofs.Vocabulary.{Sender, unsent, after_acked, ack_verdict, BadAck, by_test, same_number, test_other, Cookie, Named, Leg, LegKind, ClientOut, OutServer, ClientIn, InServer, Count, Message, Packet, same_leg, count_of, OnLeg, is_in_use, of_leg}
use Rattle.law_moves.proofs.Lemmas.{all_append, count_append, each_so, here_more, leg_more, other_more, RowKeeps}
use Rattle.law_role_server.proofs.Vocabulary.{OutLeg, Stage, waits, Server, is_some, same_cookie, cookie_by, out_place, out_at, out_cookie, Done, took, refuse, unexpected, is_first, opens, first_out_at, with_first_out, conn_a2_at, on_conn_a2, on_conn_b2, acked_by, acked_at, acked_cookie, acked_in, on_ack, on_ack_to, on_ping_traffic, on_in_r1_a2, on_in_r1_a6, on_in_r2_a2, answered_by, answered_on, out_r1_a4_by, out_r1_a4_at, may_answer, on_out_r1_a4, on_out_r1_a8, on_end_a2, on_is}
use Rattle.law_role_server.proofs.Vocabulary.{on_os, packet_by, rules as server_rules, is_conn_a2, is_out_r1_a4, leg_at}
use Rattle.law_role_server_rows.proofs.Refusing.Places.{all_at, all_set}
use Rattle.law_role_server_rows.proofs.Refusing.Ascending.{Ascends, within_at, ascends_set, others_so}
use Rattle.law_role_server_rows.proofs.Refusing.Told.{number_at}
use Rattle.law_role_server_rows.proofs.Refusing.Begun.{View, view, number_of, is_there, in_use_at, traffic_same}
use Rattle.law_role_edges.specs.Edges.{IsWithin, edge_told}
use Rattle.law_role_edges.proofs.Knowing.{acked_known, acked_rises, refused_same, within_more}

-- ---- what is known

abbrev pub on : ℕ → List OnLeg → List Message
on n came = of_leg (leg_at OutServer n) came

-- how many of them opened a channel
abbrev pub opened : List Message → ℕ
opened ms = count_of is_conn_a2 ms + count_of is_out_r1_a4 ms

-- while none did, none told anything, and the leg has no cookie
pub record Knows (x : OutLeg) (ms : List Message) : Type 0 where
  pub known : opened ms ≤ 1 → AllByRecursion (IsWithin edge_told x.window.edge) ms
  pub none : opened ms ≡ 0
      → (is_some x.cookie ≡ false) × AllByRecursion (IsWithin edge_told 0) ms

abbrev pub KnowsAt : List OnLeg → OutLeg → Type 0
KnowsAt came leg = Knows leg (on leg.number came)

-- nothing was told there
abbrev pub IsUntold : List Message → Type 0
IsUntold ms = (opened ms ≡ 0) × AllByRecursion (IsWithin edge_told 0) ms

pub record Known (x : View) (came : List OnLeg) : Type 0 where
  pub ascends : Ascends number_of 0 x.newest x.outs
  pub each : AllByRecursion (KnowsAt came) x.outs
  pub later : (n : ℕ) → x.newest < n → IsUntold (on n came)

abbrev pub Holds : Server → List OnLeg → List OnLeg → Type 0
Holds s came put = Known (view s) came

-- ---- a message more

opened_more : (a b : List Message) → opened (a ++ b) ≡ opened a + opened b
opened_more a b =
    let one = count_append is_conn_a2 a b in
    let other = count_append is_out_r1_a4 a b in omega (arith, one, other)

all_higher : (low high : ℕ) → low ≤ high → (ms : List Message)
    → AllByRecursion (IsWithin edge_told low) ms → AllByRecursion (IsWithin edge_told high) ms
all_higher low high more ms =
    each_so (IsWithin edge_told low) (IsWithin edge_told high)
    (λ m. within_more edge_told low high m more) ms

-- one that tells nothing
quiet_knows : (x : OutLeg) (ms : List Message) (m : Message) → opened (m ∷ []) ≡ 0
    → IsWithin edge_told 0 m → Knows x ms → Knows x (ms ++ m ∷ [])
quiet_knows x ms m none tells k =
    let all = opened_more ms (m ∷ []) in record {
      known = λ once.
          all_append (IsWithin edge_told x.window.edge) ms (m ∷ [])
          (k.known (omega (arith, all, none, once)))
          (within_more edge_told 0 x.window.edge m (omega arith) tells, tt);
      none = λ no.
          let before = k.none (omega (arith, all, none, no)) in
          (before.0, all_append (IsWithin edge_told 0) ms (m ∷ []) before.1 (tells, tt));
    }

quiet_untold : (ms : List Message) (m : Message) → opened (m ∷ []) ≡ 0 → IsWithin edge_told 0 m
    → IsUntold ms → IsUntold (ms ++ m ∷ [])
quiet_untold ms m none tells h =
    let all = opened_more ms (m ∷ []) in
    let before = h.0 in (
      omega (arith, all, none, before),
      all_append (IsWithin edge_told 0) ms (m ∷ []) h.1 (tells, tt),
    )

-- a channel opens, and its window is told
opens_knows : (x y : OutLeg) (ms : List Message) (m : Named) → opened (Packet m ∷ []) ≡ 1
    → edge_told m ≤ y.window.edge → Knows x ms → Knows y (ms ++ Packet m ∷ [])
opens_knows x y ms m one tells k =
    let all = opened_more ms (Packet m ∷ []) in record {
      known = λ once.
          all_append (IsWithin edge_told y.window.edge) ms (Packet m ∷ [])
          (all_higher 0 y.window.edge (omega arith) ms
          (k.none (omega (arith, all, one, once))).1)
          (tells, tt);
      none = λ no. absurd (omega (arith, all, one, no));
    }

-- an acknowledgement of a channel that opened
acked_knows : (x : OutLeg) (ms : List Message) (received available : ℕ) (cookie : Cookie)
    → is_some x.cookie ≡ true → ack_verdict x.window received available ≡ Ok tt → Knows x ms
    → Knows (record x { window = after_acked x.window received available })
    (ms ++ Packet (named.Ack received available cookie) ∷ [])
acked_knows x ms received available cookie has fine k =
    let m : Message = Packet (named.Ack received available cookie) in
    let all = opened_more ms (m ∷ []) in record {
      known = λ once.
          all_append (IsWithin edge_told edge) ms (m ∷ [])
          (all_higher x.window.edge edge (acked_rises x.window received available) ms
          (k.known (omega (arith, all, once))))
          (acked_known x.window received available fine, tt);
      none = λ no. absurd (true≢false (sym has ∙ (k.none (omega (arith, all, no))).0));
    }
  where
    edge : ℕ
    edge = (after_acked x.window received available).edge

-- the message is on the leg, or on another
more_on : (P : List Message → Type 0) (leg : Leg) (came : List OnLeg) (one : OnLeg)
    → (P (of_leg leg came) → P (of_leg leg came ++ one.1 ∷ [])) → P (of_leg leg came)
    → P (of_leg leg (came ++ one ∷ []))
more_on P leg came one more h =
    subst P (sym (leg_more leg came one)) (by (same_leg one.0 leg))
  where
    by : (b : Bool) → P (of_leg leg came ++ (if b then one.1 ∷ [] else []))
    by true = more h
    by false = subst P (sym (append-nil (of_leg leg came))) h

quiet_more : (x : View) (came : List OnLeg) (one : OnLeg) → opened (one.1 ∷ []) ≡ 0
    → IsWithin edge_told 0 one.1 → Known x came → Known x (came ++ one ∷ [])
quiet_more x came one none tells h = record {
  ascends = h.ascends;
  each = each_so (KnowsAt came) (KnowsAt (came ++ one ∷ []))
      (λ leg. more_on (λ (ms : List Message). Knows leg ms) (leg_at OutServer leg.number) came one
      (quiet_knows leg (on leg.number came) one.1 none tells)) x.outs h.each;
  later = λ n above.
      more_on IsUntold (leg_at OutServer n) came one
      (quiet_untold (on n came) one.1 none tells) (h.later n above);
}

pub row_known : (one : OnLeg) (came put : List OnLeg) (x : Done) → opened (one.1 ∷ []) ≡ 0
    → IsWithin edge_told 0 one.1 → Known (view x.0) came → RowKeeps Holds one came put x
row_known one came put (t, Ok taken) none tells h = quiet_more (view t) came one none tells h
row_known one came put (t, Err why) none tells h = h

pub same_known : (s t : Server) (came : List OnLeg) → view t ≡ view s → Known (view s) came
    → Known (view t) came
same_known s t came same h = subst (λ (v : View). Known v came) (sym same) h

-- ---- a leg changes

-- it knows as much as before
pub set_known : (s : Server) (place : ℕ) (x y : OutLeg) (came : List OnLeg)
    → slice_get s.outs place ≡ Some x → y.number ≡ x.number → KnowsAt came y
    → Known (view s) came
    → Known (record { outs = slice_set s.outs place y; newest = s.newest_out }) came
set_known s place x y came at same is h = record {
  ascends = ascends_set number_of 0 s.newest_out s.outs place x y at same h.ascends;
  each = all_set (KnowsAt came) s.outs place y is h.each;
  later = h.later;
}

pub knows_at : (s : Server) (place : ℕ) (x : OutLeg) (came : List OnLeg)
    → slice_get s.outs place ≡ Some x → Known (view s) came → KnowsAt came x
knows_at s place x came at h =
    subst (λ (o : Option OutLeg). IfSome o (KnowsAt came)) at
    (all_at (KnowsAt came) s.outs place h.each)

-- where a message comes there
changes : (s : Server) (n place : ℕ) (x y : OutLeg) (m : Message) (came : List OnLeg)
    → out_place n s.outs ≡ Some place → slice_get s.outs place ≡ Some x → y.number ≡ x.number
    → (Knows x (on n came) → Knows y (on n came ++ m ∷ [])) → Known (view s) came
    → Known (record { outs = slice_set s.outs place y; newest = s.newest_out })
    (came ++ (leg_at OutServer n, m) ∷ [])
changes s n place x y m came found at same so h = record {
  ascends = ascends_set number_of 0 s.newest_out s.outs place x y at same h.ascends;
  each = others_so number_of (KnowsAt came) (KnowsAt more) 0 s.newest_out s.outs place x y at
      here
      (λ z differ was. subst (λ (ms : List Message). Knows z ms)
      (sym (other_more (leg_at OutServer z.number) came (leg_at OutServer n, m)
      (test_other n z.number (λ g. differ (sym g ∙ sym is))))) was)
      h.ascends h.each;
  later = λ k above.
      subst IsUntold (sym (other_more (leg_at OutServer k) came (leg_at OutServer n, m)
      (test_other n k (λ g. omega (arith, g, above, within, is))))) (h.later k above);
}
  where
    more : List OnLeg
    more = came ++ (leg_at OutServer n, m) ∷ []

    is : x.number ≡ n
    is = number_at s.outs n place x found at

    within : x.number ≤ s.newest_out
    within = within_at number_of 0 s.newest_out s.outs place x at h.ascends

    was : Knows x (on n came)
    was = subst (λ (k : ℕ). Knows x (on k came)) is (knows_at s place x came at h)

    here : KnowsAt more y
    here =
        subst (λ (k : ℕ). Knows y (on k more)) (sym (same ∙ is))
        (subst (λ (ms : List Message). Knows y ms) (sym (here_more (leg_at OutServer n) came m))
        (so was))

-- ---- rows that leave the legs alone

b2_same : (s : Server) (n : ℕ) (count : Count) (a b : Cookie) (c d : ℕ)
    → view (on_conn_b2 s n count a b c d).0 ≡ view s
b2_same s n count a b c d = search rules

a2_same : (s : Server) (n : ℕ) (count : Count) (a b c : Cookie) (d e : ℕ)
    → view (on_in_r1_a2 s n count a b c d e).0 ≡ view s
a2_same s n count a b c d e = search rules

a6_same : (s : Server) (n : ℕ) (a : Cookie) → view (on_in_r1_a6 s n a).0 ≡ view s
a6_same s n a = search rules

r2_same : (s : Server) (n : ℕ) (count : Count) (a : Cookie)
    → view (on_in_r2_a2 s n count a).0 ≡ view s
r2_same s n count a = search rules

to_same : (s : Server) (count : Count) (a b c : ℕ) (d : Cookie)
    → view (on_ack_to s count a b c d).0 ≡ view s
to_same s count a b c d = search rules

a8_same : (s : Server) (count : Count) (a : ℕ) (b : Cookie)
    → view (on_out_r1_a8 s count a b).0 ≡ view s
a8_same s count a b = search rules

end_same : (s : Server) (n : ℕ) (count : Count) → view (on_end_a2 s n count).0 ≡ view s
end_same s n count = search rules

-- one that tells nothing
same_row : (s : Server) (one : OnLeg) (came put : List OnLeg) (x : Done) → view x.0 ≡ view s
    → opened (one.1 ∷ []) ≡ 0 → IsWithin edge_told 0 one.1 → Holds s came put
    → RowKeeps Holds one came put x
same_row s one came put x same none tells h =
    row_known one came put x none tells (same_known s x.0 came same h)

on_is_row : (s : Server) (n : ℕ) (count : Count) (m : Named) (came put : List OnLeg)
    → Holds s came put → RowKeeps Holds (leg_at InServer n, Packet m) came put (on_is s n count m)
on_is_row s n count (named.ConnB2 v1 v2 v3 v4 v5 v6 v7 v8) came put h =
    same_row s (leg_at InServer n, Packet (named.ConnB2 v1 v2 v3 v4 v5 v6 v7 v8)) came put
    (on_conn_b2 s n count v2 v3 v4 v5) (b2_same s n count v2 v3 v4 v5) refl (omega arith) h
on_is_row s n count (named.InR1A2 v1 v2 v3 v4 v5 v6) came put h =
    same_row s (leg_at InServer n, Packet (named.InR1A2 v1 v2 v3 v4 v5 v6)) came put
    (on_in_r1_a2 s n count v2 v3 v4 v5 v6) (a2_same s n count v2 v3 v4 v5 v6) refl (omega arith) h
on_is_row s n count (named.InR1A6 v1) came put h =
    same_row s (leg_at InServer n, Packet (named.InR1A6 v1)) came put (on_in_r1_a6 s n v1)
    (a6_same s n v1) refl (omega arith) h
on_is_row s n count (named.InR2A2 v1) came put h =
    same_row s (leg_at InServer n, Packet (named.InR2A2 v1)) came put (on_in_r2_a2 s n count v1)
    (r2_same s n count v1) refl (omega arith) h
on_is_row s n count (named.AckTo v1 v2 v3 v4) came put h =
    same_row s (leg_at InServer n, Packet (named.AckTo v1 v2 v3 v4)) came put
    (on_ack_to s count v1 v2 v3 v4) (to_same s count v1 v2 v3 v4) refl (omega arith) h
on_is_row s n count (named.OutR1A8 v1 v2) came put h =
    same_row s (leg_at InServer n, Packet (named.OutR1A8 v1 v2)) came put
    (on_out_r1_a8 s count v1 v2) (a8_same s count v1 v2) refl (omega arith) h
on_is_row s n count named.EndA2 came put h =
    same_row s (leg_at InServer n, Packet named.EndA2) came put (on_end_a2 s n count)
    (end_same s n count) refl (omega arith) h
on_is_row s n count m came put h = h

-- ---- CONN/A2

first_out_opens : (s : Server) (cookie : Cookie) (lifetime window : ℕ) (m : Named)
    (place : Option ℕ) (o : Option OutLeg) (came : List OnLeg) → opened (Packet m ∷ []) ≡ 1
    → edge_told m ≡ window → is_some place ≡ true → out_place 1 s.outs ≡ place
    → out_at s.outs place ≡ o → Known (view s) came
    → Known (view (first_out_at s cookie lifetime window place o))
    (came ++ (leg_at OutServer 1, Packet m) ∷ [])
first_out_opens s cookie lifetime window m None o came one tells some found at h =
    absurd (false≢true some)
first_out_opens s cookie lifetime window m (Some place) None came one tells some found at h =
    absurd (is_there s 1 place found at)
first_out_opens s cookie lifetime window m (Some place) (Some x) came one tells some found at h =
    changes s 1 place x y (Packet m) came found at refl
    (opens_knows x y (on 1 came) m one (omega (arith, tells))) h
  where
    y : OutLeg
    y = record x {
      cookie = Some cookie;
      window = unsent window;
      meter = started lifetime 28;
    }

conn_a2_first : (s : Server) (a b : Cookie) (c d : ℕ) (m : Named) (came put : List OnLeg)
    → opened (Packet m ∷ []) ≡ 1 → edge_told m ≡ d → is_some (out_place 1 s.outs) ≡ true
    → Holds s came put
    → RowKeeps Holds (leg_at OutServer 1, Packet m) came put (conn_a2_at s s.stage a b c d)
conn_a2_first s a b c d m came put one tells some h = by s.stage
  where
    Row : Done → Type 0
    Row x = RowKeeps Holds (leg_at OutServer 1, Packet m) came put x

    opened_so : Known (view (with_first_out s b c d)) (came ++ (leg_at OutServer 1, Packet m) ∷ [])
    opened_so =
        first_out_opens s b c d m (out_place 1 s.outs) (out_at s.outs (out_place 1 s.outs)) came
        one tells some refl refl h

    by : (at : Stage) → Row (conn_a2_at s at a b c d)
    by stage.Waits =
        record { ascends = opened_so.ascends; each = opened_so.each; later = opened_so.later }
    by (stage.InCame first in_window timeout) =
        by_test Row (same_cookie first a)
        (took (opens (with_first_out s b c d) first in_window timeout)) _
        (λ f.
        record { ascends = opened_so.ascends; each = opened_so.each; later = opened_so.later })
        (λ f. h)
    by (stage.OutCame first) = h
    by (stage.Open first) = h
    by stage.Ended = h

conn_a2_row : (s : Server) (n : ℕ) (count : Count) (a b : Cookie) (c d : ℕ) (m : Named)
    (came put : List OnLeg) → opened (Packet m ∷ []) ≡ 1 → edge_told m ≡ d
    → is_some (out_place n s.outs) ≡ true → Holds s came put
    → RowKeeps Holds (leg_at OutServer n, Packet m) came put (on_conn_a2 s n count a b c d)
conn_a2_row s n count a b c d m came put one tells some h =
    by_test (Row n) (is_first count && ((n == 1) && not (waits kind.ConnC1 s.waiting)))
    (conn_a2_at s s.stage a b c d) (unexpected s)
    (λ e.
    let is = same_number n 1 (and_parts (n == 1) _ (and_parts (is_first count) _ e).1).0 in
    subst (λ (k : ℕ). Row k (conn_a2_at s s.stage a b c d)) (sym is)
    (conn_a2_first s a b c d m came put one tells
    (subst (λ (k : ℕ). is_some (out_place k s.outs) ≡ true) is some) h))
    (λ e. h)
  where
    Row : ℕ → Done → Type 0
    Row k x = RowKeeps Holds (leg_at OutServer k, Packet m) came put x

-- ---- OUT_R1/A4

a4_row : (s : Server) (n : ℕ) (count : Count) (a b c : Cookie) (d e f : ℕ) (m : Named)
    (came put : List OnLeg) → opened (Packet m ∷ []) ≡ 1 → edge_told m ≡ e → Holds s came put
    → RowKeeps Holds (leg_at OutServer n, Packet m) came put (on_out_r1_a4 s n count a b c d e f)
a4_row s n count a b c d e f m came put one tells h =
    by_test Row (may_answer s n count) (out_r1_a4_at s s.stage n a b c d e f) (unexpected s)
    (λ g. by_stage s.stage) (λ g. h)
  where
    Row : Done → Type 0
    Row x = RowKeeps Holds (leg_at OutServer n, Packet m) came put x

    answers : (place : Option ℕ) (o : Option OutLeg) → out_place n s.outs ≡ place
        → out_at s.outs place ≡ o → Row (answered_by s c d e f place o)
    answers None o found at = h
    answers (Some place) None found at = h
    answers (Some place) (Some x) found at =
        let y : OutLeg = record x {
          cookie = Some c;
          window = unsent e;
          meter = started d 0;
        } in
        let k = changes s n place x y (Packet m) came found at refl
        (opens_knows x y (on n came) m one (omega (arith, tells))) h in
        record { ascends = k.ascends; each = k.each; later = k.later }

    by_writing : (first : Cookie) (o : Option Cookie)
        → Row (out_r1_a4_by s n first a b c d e f o)
    by_writing first None = h
    by_writing first (Some writing) =
        by_test Row (not (same_cookie first a)) (refuse s (refused.Cookie first a)) _ (λ g. h)
        (λ g. by_test Row (not (same_cookie writing b)) (refuse s (refused.Cookie writing b))
        (answered_on s n c d e f) (λ i. h)
        (λ i. answers (out_place n s.outs) (out_at s.outs (out_place n s.outs)) refl refl))

    by_stage : (at : Stage) → Row (out_r1_a4_at s at n a b c d e f)
    by_stage (stage.Open first) = by_writing first (out_cookie s.writing s.outs)
    by_stage stage.Waits = h
    by_stage (stage.OutCame connection) = h
    by_stage (stage.InCame connection in_window timeout) = h
    by_stage stage.Ended = h

-- ---- acknowledgements

ack_row : (s : Server) (n : ℕ) (count : Count) (received window : ℕ) (cookie : Cookie)
    (came put : List OnLeg) → Holds s came put
    → RowKeeps Holds (leg_at OutServer n, Packet (named.Ack received window cookie)) came put
    (on_ack s n count received window cookie)
ack_row s n count received window cookie came put h =
    by_test Row (is_first count) (unexpected s) _ (λ e. h)
    (λ e. by_cookie (out_cookie n s.outs) refl)
  where
    m : Message
    m = Packet (named.Ack received window cookie)

    Row : Done → Type 0
    Row x = RowKeeps Holds (leg_at OutServer n, m) came put x

    by_leg : (place : ℕ) (o : Option OutLeg) → out_place n s.outs ≡ Some place
        → slice_get s.outs place ≡ o → is_some (out_cookie n s.outs) ≡ true
        → Row (acked_at s place received window o)
    by_leg place None found at some = h
    by_leg place (Some x) found at some = by (ack_verdict x.window received window) refl
      where
        has : is_some x.cookie ≡ true
        has =
            ap (λ (o : Option Cookie). is_some o)
            (sym (ap (λ (o : Option ℕ). cookie_by (out_at s.outs o)) found ∙ ap cookie_by at))
            ∙ some

        y : OutLeg
        y = record x { window = after_acked x.window received window }

        by : (v : Result (Unit {0}) BadAck) → ack_verdict x.window received window ≡ v
            → Row (record s { outs = slice_set s.outs place y }, acked_by v)
        by (Ok applied) e =
            let k = changes s n place x y m came found at refl
            (acked_knows x (on n came) received window cookie has e) h in
            record { ascends = k.ascends; each = k.each; later = k.later }
        by (Err bad) e =
            let k = set_known s place x y came at refl
            (subst (λ (w : Sender). Knows (record x { window = w }) (on x.number came))
            (sym (refused_same x.window received window bad e)) (knows_at s place x came at h)) h in
            record { ascends = k.ascends; each = k.each; later = k.later }

    by_place : (place : Option ℕ) → out_place n s.outs ≡ place
        → is_some (out_cookie n s.outs) ≡ true → Row (acked_in s received window place)
    by_place None found some = h
    by_place (Some place) found some = by_leg place (slice_get s.outs place) found refl some

    by_cookie : (o : Option Cookie) → out_cookie n s.outs ≡ o
        → Row (acked_cookie s n received window cookie o)
    by_cookie None is = h
    by_cookie (Some channel) is =
        by_test Row (same_cookie channel cookie) _ (refuse s (refused.Cookie channel cookie))
        (λ e. by_place (out_place n s.outs) refl (ap (λ (o : Option Cookie). is_some o) is))
        (λ e. h)

-- ---- all packets

on_os_row : (s : Server) (n : ℕ) (count : Count) (m : Named) (came put : List OnLeg)
    → is_some (out_place n s.outs) ≡ true → Holds s came put
    → RowKeeps Holds (leg_at OutServer n, Packet m) came put (on_os s n count m)
on_os_row s n count (named.ConnA2 v1 v2 v3 v4 v5) came put some h =
    conn_a2_row s n count v2 v3 v4 v5 (named.ConnA2 v1 v2 v3 v4 v5) came put refl refl some h
on_os_row s n count (named.OutR1A4 v1 v2 v3 v4 v5 v6 v7) came put some h =
    a4_row s n count v2 v3 v4 v5 v6 v7 (named.OutR1A4 v1 v2 v3 v4 v5 v6 v7) came put refl refl h
on_os_row s n count (named.Ack v1 v2 v3) came put some h = ack_row s n count v1 v2 v3 came put h
on_os_row s n count (named.PingTraffic v1) came put some h =
    same_row s (leg_at OutServer n, Packet (named.PingTraffic v1)) came put
    (on_ping_traffic s count) (traffic_same s count) refl (omega arith) h
on_os_row s n count m came put some h = h

pub packet_row : (s : Server) (n : ℕ) (count : Count) (m : Named) (k : LegKind)
    (came put : List OnLeg) → IsTrue (is_in_use server_rules s (leg_at k n)) → Holds s came put
    → RowKeeps Holds (leg_at k n, Packet m) came put (packet_by s n count m k)
packet_row s n count m InServer came put used h = on_is_row s n count m came put h
packet_row s n count m OutServer came put used h =
    on_os_row s n count m came put (in_use_at s n used) h
packet_row s n count m ClientIn came put used h = h
packet_row s n count m ClientOut came put used h = h

-- on an os leg whose channel has no cookie, none began
use Rattle.rh_keep.specs.Meters.{started}
use Rattle.law_order.proofs.Vocabulary.{◌≡◌, ℕ, zero, suc, ◌+◌, ◌<◌, ◌≤◌, ◌==◌, List, [], ◌∷◌, ◌++◌, length, Bool, true, false, true≢false, if◌then◌else◌, ◌&&◌, not, Some, None, Ok, Err, arith, refl, sym, ap, ◌∙◌, subst, rules, false≢true, and_parts, slice_get, slice_set, IfSome, IsTrue, AllByRecursion, Option, position-Some}
use Rattle.rh_sig.specs.declared.named.Named.TheVariants as named
use Rattle.rh_shell.specs.declared.answers.Refused.TheVariants as refused
use Rattle.rh_server.specs.declared.state.Stage.TheVariants as stage
use Rattle.rh_server.specs.declared.out_line.Kind.TheVariants as kind
use Rattle.law_moves.proofs.Vocabulary.{unsent, after_acked, by_test, same_number, test_other, Cookie, Named, Leg, LegKind, ClientOut, OutServer, ClientIn, InServer, Count, Message, Packet, same_leg, count_of, OnLeg, is_in_use, is_at_work, of_leg}
use Rattle.law_moves.proofs.Lemmas.{each_so, count_append, leg_more, RowKeeps}
use Rattle.law_role_server.proofs.Vocabulary.{OutLeg, Stage, waits, Server, is_some, same_cookie, out_place, out_at, out_cookie, Done, took, refuse, unexpected, is_first, out_leg_up, opens, first_out_at, with_first_out, conn_a2_at, on_conn_a2, on_conn_b2, acked_at, acked_in, acked_cookie, on_ack, on_ack_to, on_ping_traffic, on_in_r1_a2, on_in_r1_a6, on_in_r2_a2, answered_by, answered_on, out_r1_a4_by, out_r1_a4_at, may_answer, on_out_r1_a4, on_out_r1_a8, on_end_a2, on_is}
use Rattle.law_role_server.proofs.Vocabulary.{on_os, packet_by, rules as server_rules, leg_at, often_at}
use Rattle.law_role_server_rows.proofs.Refusing.Places.{all_at, all_set}
use Rattle.law_role_server_rows.proofs.Refusing.Ascending.{Ascends, within_at, ascends_set, others_so}
use Rattle.law_role_server_rows.proofs.Refusing.Told.{number_at}

-- what the facts are about
pub record View : Type 0 where
  pub outs : List OutLeg
  pub newest : ℕ

abbrev pub view : Server → View
view s = record { outs = s.outs; newest = s.newest_out }

abbrev pub number_of : OutLeg → ℕ
number_of leg = leg.number

-- a place that is found has a leg
has_leg : {X : Type 0} (xs : List X) (place : ℕ) → place < length xs → slice_get xs place ≡ None → ⊥
has_leg [] place less e = absurd (omega (arith, less))
has_leg (x ∷ xs) zero less e = absurd (cc)
has_leg (x ∷ xs) (suc place) less e = has_leg xs place (omega (arith, less)) e

pub is_there : (s : Server) (n place : ℕ) → out_place n s.outs ≡ Some place
    → slice_get s.outs place ≡ None → ⊥
is_there s n place found at =
    has_leg s.outs place
    (position-Some (λ (leg : OutLeg). leg.number == n) s.outs place (out_leg_up 0) found).0 at

pub in_use_at : (s : Server) (n : ℕ) → IsTrue (is_in_use server_rules s (leg_at OutServer n))
    → is_some (out_place n s.outs) ≡ true
in_use_at s n used = by (is_at_work server_rules s) (is_some (out_place n s.outs)) used
  where
    by : (a b : Bool) → IsTrue (a && not (not b)) → b ≡ true
    by true true used = refl
    by true false used = absurd (false≢true used)
    by false b used = absurd (false≢true used)

-- ---- rows that leave these alone

b2_same : (s : Server) (n : ℕ) (count : Count) (a b : Cookie) (c d : ℕ)
    → view (on_conn_b2 s n count a b c d).0 ≡ view s
b2_same s n count a b c d = search rules

a2_same : (s : Server) (n : ℕ) (count : Count) (a b c : Cookie) (d e : ℕ)
    → view (on_in_r1_a2 s n count a b c d e).0 ≡ view s
a2_same s n count a b c d e = search rules

a6_same : (s : Server) (n : ℕ) (a : Cookie) → view (on_in_r1_a6 s n a).0 ≡ view s
a6_same s n a = search rules

r2_same : (s : Server) (n : ℕ) (count : Count) (a : Cookie)
    → view (on_in_r2_a2 s n count a).0 ≡ view s
r2_same s n count a = search rules

to_same : (s : Server) (count : Count) (a b c : ℕ) (d : Cookie)
    → view (on_ack_to s count a b c d).0 ≡ view s
to_same s count a b c d = search rules

a8_same : (s : Server) (count : Count) (a : ℕ) (b : Cookie)
    → view (on_out_r1_a8 s count a b).0 ≡ view s
a8_same s count a b = search rules

end_same : (s : Server) (n : ℕ) (count : Count) → view (on_end_a2 s n count).0 ≡ view s
end_same s n count = search rules

pub traffic_same : (s : Server) (count : Count) → view (on_ping_traffic s count).0 ≡ view s
traffic_same s count = search rules

-- ---- channels that begin

-- packets that pass this test begin channels
module _ (test : Named → Bool) where
  abbrev pub begun : ℕ → List OnLeg → ℕ
  begun n came = often_at test OutServer n came

  abbrev pub Bare : List OnLeg → OutLeg → Type 0
  Bare came leg = is_some leg.cookie ≡ false → begun leg.number came ≡ 0

  pub record Begun (x : View) (came : List OnLeg) : Type 0 where
    pub ascends : Ascends number_of 0 x.newest x.outs
    pub each : AllByRecursion (Bare came) x.outs
    pub later : (n : ℕ) → x.newest < n → begun n came ≡ 0

  abbrev pub Holds : Server → List OnLeg → List OnLeg → Type 0
  Holds s came put = Begun (view s) came

  -- ---- a message more

  begun_more : (n : ℕ) (came : List OnLeg) (one : OnLeg)
      → begun n (came ++ one ∷ []) ≡ begun n came + begun n (one ∷ [])
  begun_more n came one =
      ap (count_of test) (leg_more (leg_at OutServer n) came one)
      ∙ count_append test (of_leg (leg_at OutServer n) came)
      (of_leg (leg_at OutServer n) (one ∷ []))

  pub none_by : (leg : Leg) (m : Message) (n : ℕ) → count_of test (m ∷ []) ≡ 0
      → begun n ((leg, m) ∷ []) ≡ 0
  none_by leg m n none = by (same_leg leg (leg_at OutServer n))
    where
      by : (b : Bool) → count_of test (if b then m ∷ [] else []) ≡ 0
      by true = none
      by false = refl

  on_other : (k n : ℕ) (m : Message) (came : List OnLeg) → (k ≡ n → ⊥)
      → begun n (came ++ (leg_at OutServer k, m) ∷ []) ≡ begun n came
  on_other k n m came differ =
      let more = begun_more n came (leg_at OutServer k, m) in
      let none : begun n ((leg_at OutServer k, m) ∷ []) ≡ 0 =
      ap (λ (b : Bool). count_of test (if b then m ∷ [] else [])) (test_other k n differ) in
      omega (arith, more, none)

  pub quiet_more : (x : View) (came : List OnLeg) (one : OnLeg)
      → ((n : ℕ) → begun n (one ∷ []) ≡ 0) → Begun x came → Begun x (came ++ one ∷ [])
  quiet_more x came one quiet h = record {
    ascends = h.ascends;
    each = each_so (Bare came) (Bare (came ++ one ∷ []))
        (λ leg is e. same leg.number (is e)) x.outs h.each;
    later = λ n above. same n (h.later n above);
  }
    where
      same : (n : ℕ) → begun n came ≡ 0 → begun n (came ++ one ∷ []) ≡ 0
      same n was =
          let more = begun_more n came one in let none = quiet n in omega (arith, was, more, none)

  pub row_holds : (one : OnLeg) (came put : List OnLeg) (x : Done)
      → ((n : ℕ) → begun n (one ∷ []) ≡ 0) → Begun (view x.0) came → RowKeeps Holds one came put x
  row_holds one came put (t, Ok taken) quiet h = quiet_more (view t) came one quiet h
  row_holds one came put (t, Err why) quiet h = h

  pub same_holds : (s t : Server) (came : List OnLeg) → view t ≡ view s → Begun (view s) came
      → Begun (view t) came
  same_holds s t came same h = subst (λ (v : View). Begun v came) (sym same) h

  -- ---- a leg changes

  -- it has a cookie as before
  pub set_holds : (s : Server) (place : ℕ) (x y : OutLeg) (came : List OnLeg)
      → slice_get s.outs place ≡ Some x → y.number ≡ x.number → Bare came y
      → Begun (view s) came
      → Begun (record { outs = slice_set s.outs place y; newest = s.newest_out }) came
  set_holds s place x y came at same is h = record {
    ascends = ascends_set number_of 0 s.newest_out s.outs place x y at same h.ascends;
    each = all_set (Bare came) s.outs place y is h.each;
    later = h.later;
  }

  pub bare_at : (s : Server) (place : ℕ) (x : OutLeg) (came : List OnLeg)
      → slice_get s.outs place ≡ Some x → Begun (view s) came → Bare came x
  bare_at s place x came at h =
      subst (λ (o : Option OutLeg). IfSome o (Bare came)) at
      (all_at (Bare came) s.outs place h.each)

  -- its channel begins
  begins : (s : Server) (n place : ℕ) (x y : OutLeg) (m : Message) (came : List OnLeg)
      → out_place n s.outs ≡ Some place → slice_get s.outs place ≡ Some x
      → y.number ≡ x.number → is_some y.cookie ≡ true → Begun (view s) came
      → Begun (record { outs = slice_set s.outs place y; newest = s.newest_out })
      (came ++ (leg_at OutServer n, m) ∷ [])
  begins s n place x y m came found at same told h = record {
    ascends = ascends_set number_of 0 s.newest_out s.outs place x y at same h.ascends;
    each = others_so number_of (Bare came) (Bare more) 0 s.newest_out s.outs place x y at
        (λ f. absurd (true≢false (sym told ∙ f)))
        (λ z differ was f. on_other n z.number m came (λ g. differ (sym g ∙ sym is)) ∙ was f)
        h.ascends h.each;
    later = λ k above.
        on_other n k m came (λ g. omega (arith, g, above, within, is)) ∙ h.later k above;
  }
    where
      more : List OnLeg
      more = came ++ (leg_at OutServer n, m) ∷ []

      is : x.number ≡ n
      is = number_at s.outs n place x found at

      within : x.number ≤ s.newest_out
      within = within_at number_of 0 s.newest_out s.outs place x at h.ascends

  -- ---- rows

  same_row : (s : Server) (one : OnLeg) (came put : List OnLeg) (x : Done)
      → view x.0 ≡ view s → ((n : ℕ) → begun n (one ∷ []) ≡ 0) → Holds s came put
      → RowKeeps Holds one came put x
  same_row s one came put x same quiet h =
      row_holds one came put x quiet (same_holds s x.0 came same h)

  first_out_begins : (s : Server) (cookie : Cookie) (lifetime window : ℕ) (m : Message)
      (place : Option ℕ) (o : Option OutLeg) (came : List OnLeg) → is_some place ≡ true
      → out_place 1 s.outs ≡ place → out_at s.outs place ≡ o → Begun (view s) came
      → Begun (view (first_out_at s cookie lifetime window place o))
      (came ++ (leg_at OutServer 1, m) ∷ [])
  first_out_begins s cookie lifetime window m None o came some found at h =
      absurd (false≢true some)
  first_out_begins s cookie lifetime window m (Some place) None came some found at h =
      absurd (is_there s 1 place found at)
  first_out_begins s cookie lifetime window m (Some place) (Some x) came some found at h =
      begins s 1 place x (record x {
        cookie = Some cookie;
        window = unsent window;
        meter = started lifetime 28;
      }) m came found at refl refl h

  conn_a2_first : (s : Server) (a b : Cookie) (c d : ℕ) (m : Message) (came put : List OnLeg)
      → is_some (out_place 1 s.outs) ≡ true → Holds s came put
      → RowKeeps Holds (leg_at OutServer 1, m) came put (conn_a2_at s s.stage a b c d)
  conn_a2_first s a b c d m came put some h = by s.stage
    where
      Row : Done → Type 0
      Row x = RowKeeps Holds (leg_at OutServer 1, m) came put x

      opened : Begun (view (with_first_out s b c d)) (came ++ (leg_at OutServer 1, m) ∷ [])
      opened =
          first_out_begins s b c d m (out_place 1 s.outs) (out_at s.outs (out_place 1 s.outs)) came
          some refl refl h

      by : (at : Stage) → Row (conn_a2_at s at a b c d)
      by stage.Waits =
          record { ascends = opened.ascends; each = opened.each; later = opened.later }
      by (stage.InCame first in_window timeout) =
          by_test Row (same_cookie first a)
          (took (opens (with_first_out s b c d) first in_window timeout)) _
          (λ f. record { ascends = opened.ascends; each = opened.each; later = opened.later })
          (λ f. h)
      by (stage.OutCame first) = h
      by (stage.Open first) = h
      by stage.Ended = h

  conn_a2_row : (s : Server) (n : ℕ) (count : Count) (a b : Cookie) (c d : ℕ) (m : Message)
      (came put : List OnLeg) → is_some (out_place n s.outs) ≡ true → Holds s came put
      → RowKeeps Holds (leg_at OutServer n, m) came put (on_conn_a2 s n count a b c d)
  conn_a2_row s n count a b c d m came put some h =
      by_test (Row n) (is_first count && ((n == 1) && not (waits kind.ConnC1 s.waiting)))
      (conn_a2_at s s.stage a b c d) (unexpected s)
      (λ e.
      let one = same_number n 1 (and_parts (n == 1) _ (and_parts (is_first count) _ e).1).0 in
      subst (λ (k : ℕ). Row k (conn_a2_at s s.stage a b c d)) (sym one)
      (conn_a2_first s a b c d m came put
      (subst (λ (k : ℕ). is_some (out_place k s.outs) ≡ true) one some) h))
      (λ e. h)
    where
      Row : ℕ → Done → Type 0
      Row k x = RowKeeps Holds (leg_at OutServer k, m) came put x

  a4_row : (s : Server) (n : ℕ) (count : Count) (a b c : Cookie) (d e f : ℕ) (m : Message)
      (came put : List OnLeg) → Holds s came put
      → RowKeeps Holds (leg_at OutServer n, m) came put (on_out_r1_a4 s n count a b c d e f)
  a4_row s n count a b c d e f m came put h =
      by_test Row (may_answer s n count) (out_r1_a4_at s s.stage n a b c d e f) (unexpected s)
      (λ g. by_stage s.stage) (λ g. h)
    where
      Row : Done → Type 0
      Row x = RowKeeps Holds (leg_at OutServer n, m) came put x

      answers : (place : Option ℕ) (o : Option OutLeg) → out_place n s.outs ≡ place
          → out_at s.outs place ≡ o → Row (answered_by s c d e f place o)
      answers None o found at = h
      answers (Some place) None found at = h
      answers (Some place) (Some x) found at =
          let k = begins s n place x (record x {
            cookie = Some c;
            window = unsent e;
            meter = started d 0;
          }) m came found at refl refl h in
          record { ascends = k.ascends; each = k.each; later = k.later }

      by_writing : (first : Cookie) (o : Option Cookie)
          → Row (out_r1_a4_by s n first a b c d e f o)
      by_writing first None = h
      by_writing first (Some writing) =
          by_test Row (not (same_cookie first a)) (refuse s (refused.Cookie first a)) _ (λ g. h)
          (λ g. by_test Row (not (same_cookie writing b)) (refuse s (refused.Cookie writing b))
          (answered_on s n c d e f) (λ i. h)
          (λ i. answers (out_place n s.outs) (out_at s.outs (out_place n s.outs)) refl refl))

      by_stage : (at : Stage) → Row (out_r1_a4_at s at n a b c d e f)
      by_stage (stage.Open first) = by_writing first (out_cookie s.writing s.outs)
      by_stage stage.Waits = h
      by_stage (stage.OutCame connection) = h
      by_stage (stage.InCame connection in_window timeout) = h
      by_stage stage.Ended = h

  ack_row : (s : Server) (n : ℕ) (count : Count) (received window : ℕ) (cookie : Cookie)
      (m : Message) (came put : List OnLeg) → count_of test (m ∷ []) ≡ 0 → Holds s came put
      → RowKeeps Holds (leg_at OutServer n, m) came put (on_ack s n count received window cookie)
  ack_row s n count received window cookie m came put none h =
      by_test Row (is_first count) (unexpected s) _ (λ e. h)
      (λ e. by_cookie (out_cookie n s.outs))
    where
      one : OnLeg
      one = (leg_at OutServer n, m)

      Row : Done → Type 0
      Row x = RowKeeps Holds one came put x

      by_leg : (place : ℕ) (o : Option OutLeg) → slice_get s.outs place ≡ o
          → Row (acked_at s place received window o)
      by_leg place None at = h
      by_leg place (Some x) at =
          let k = set_holds s place x (record x {
            window = after_acked x.window received window;
          }) came at refl (bare_at s place x came at h) h in
          row_holds one came put (acked_at s place received window (Some x))
          (λ i. none_by (leg_at OutServer n) m i none)
          (record { ascends = k.ascends; each = k.each; later = k.later })

      by_place : (place : Option ℕ) → Row (acked_in s received window place)
      by_place None = h
      by_place (Some place) = by_leg place (slice_get s.outs place) refl

      by_cookie : (o : Option Cookie) → Row (acked_cookie s n received window cookie o)
      by_cookie None = h
      by_cookie (Some channel) =
          by_test Row (same_cookie channel cookie) _ (refuse s (refused.Cookie channel cookie))
          (λ e. by_place (out_place n s.outs)) (λ e. h)

  -- ---- all packets

  on_is_same : (s : Server) (n : ℕ) (count : Count) (m : Named)
      → view (on_is s n count m).0 ≡ view s
  on_is_same s n count (named.ConnB2 v1 v2 v3 v4 v5 v6 v7 v8) = b2_same s n count v2 v3 v4 v5
  on_is_same s n count (named.InR1A2 v1 v2 v3 v4 v5 v6) = a2_same s n count v2 v3 v4 v5 v6
  on_is_same s n count (named.InR1A6 v1) = a6_same s n v1
  on_is_same s n count (named.InR2A2 v1) = r2_same s n count v1
  on_is_same s n count (named.AckTo v1 v2 v3 v4) = to_same s count v1 v2 v3 v4
  on_is_same s n count (named.OutR1A8 v1 v2) = a8_same s count v1 v2
  on_is_same s n count named.EndA2 = end_same s n count
  on_is_same s n count m = refl

  on_os_holds : ((received window : ℕ) (cookie : Cookie)
      → test (named.Ack received window cookie) ≡ false)
      → ((bytes : ℕ) → test (named.PingTraffic bytes) ≡ false) → (s : Server) (n : ℕ)
      (count : Count) (m : Named) (came put : List OnLeg) → is_some (out_place n s.outs) ≡ true
      → Holds s came put
      → RowKeeps Holds (leg_at OutServer n, Packet m) came put (on_os s n count m)
  on_os_holds acks pings s n count (named.ConnA2 v1 v2 v3 v4 v5) came put some h =
      conn_a2_row s n count v2 v3 v4 v5 (Packet (named.ConnA2 v1 v2 v3 v4 v5)) came put some h
  on_os_holds acks pings s n count (named.OutR1A4 v1 v2 v3 v4 v5 v6 v7) came put some h =
      a4_row s n count v2 v3 v4 v5 v6 v7 (Packet (named.OutR1A4 v1 v2 v3 v4 v5 v6 v7)) came put h
  on_os_holds acks pings s n count (named.Ack v1 v2 v3) came put some h =
      ack_row s n count v1 v2 v3 (Packet (named.Ack v1 v2 v3)) came put
      (ap {B = ℕ} (λ (b : Bool). if b then 1 else 0) (acks v1 v2 v3)) h
  on_os_holds acks pings s n count (named.PingTraffic v1) came put some h =
      same_row s (leg_at OutServer n, Packet (named.PingTraffic v1)) came put
      (on_ping_traffic s count) (traffic_same s count)
      (λ i. none_by (leg_at OutServer n) (Packet (named.PingTraffic v1)) i
      (ap {B = ℕ} (λ (b : Bool). if b then 1 else 0) (pings v1))) h
  on_os_holds acks pings s n count m came put some h = h

  pub packet_holds : ((received window : ℕ) (cookie : Cookie)
      → test (named.Ack received window cookie) ≡ false)
      → ((bytes : ℕ) → test (named.PingTraffic bytes) ≡ false) → (s : Server) (n : ℕ)
      (count : Count) (m : Named) (k : LegKind) (came put : List OnLeg)
      → IsTrue (is_in_use server_rules s (leg_at k n)) → Holds s came put
      → RowKeeps Holds (leg_at k n, Packet m) came put (packet_by s n count m k)
  packet_holds acks pings s n count m InServer came put used h =
      same_row s (leg_at InServer n, Packet m) came put (on_is s n count m)
      (on_is_same s n count m) (λ i. refl) h
  packet_holds acks pings s n count m OutServer came put used h =
      on_os_holds acks pings s n count m came put (in_use_at s n used) h
  packet_holds acks pings s n count m ClientIn came put used h = h
  packet_holds acks pings s n count m ClientOut came put used h = h

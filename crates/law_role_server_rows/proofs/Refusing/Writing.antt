-- the leg of the writing channel is there, and that of its successor (profile)
use Rattle.rh_keep.specs.Meters.{started}
use Rattle.law_order.proofs.Vocabulary.{◌≡◌, ◌⊎◌, inl, inr, ℕ, zero, suc, ◌+◌, ◌==◌, List, [], ◌∷◌, ◌++◌, Bool, true, false, cond, ◌&&◌, not, Some, None, Ok, Err, refl, sym, ap, ◌∙◌, subst, false≢true, and_parts, slice_get, slice_set, remove, IsTrue, Option}
use Rattle.rh_sig.specs.declared.named.Named.TheVariants as named
use Rattle.rh_shell.specs.declared.answers.Refused.TheVariants as refused
use Rattle.rh_server.specs.declared.state.Stage.TheVariants as stage
use Rattle.rh_server.specs.declared.out_line.Kind.TheVariants as kind
use Rattle.law_moves.proofs.Vocabulary.{unsent, after_acked, by_test, same_number, other_number, Cookie, Named, LegKind, ClientOut, OutServer, ClientIn, InServer, Count, taken, OnLeg, is_in_use}
use Rattle.law_moves.proofs.Lemmas.{RowKeeps}
use Rattle.law_role_server.proofs.Vocabulary.{OutLeg, Replacement, Steady, Asked, Answered, Confirmed, Stage, waits, Server, is_some, same_cookie, in_leg, out_place, out_at, out_cookie, Done, took, refuse, unexpected, is_first, opens, first_out_at, with_first_out, conn_a2_at, on_conn_a2, with_first_in, conn_b2_at, on_conn_b2, acked_at, acked_in, acked_cookie, on_ack, on_ack_to, on_ping_traffic, on_in_r1_a2, on_in_r1_a6, on_in_r2_a2, answered_by, answered_on, out_r1_a4_by}
use Rattle.law_role_server.proofs.Vocabulary.{out_r1_a4_at, may_answer, on_out_r1_a4, out_r1_a8_at, on_out_r1_a8, on_end_a2, on_is, on_os, packet_by, rules as server_rules, leg_at, since_conn_a2, since_answered}
use Rattle.law_role_server.proofs.Counted.InLegs.{next_place, place_step}
use Rattle.law_role_server_rows.proofs.Refusing.Told.{Seen, seen, number_at, in_r1_a2_same, in_r1_a6_same, in_r2_a2_same, ack_to_same, end_a2_same, ping_same, first_in_same}
use Rattle.law_role_server_rows.proofs.Refusing.Begun.{is_there, in_use_at}

-- ---- a leg of this number is there

abbrev pub HasLeg : ℕ → List OutLeg → Type 0
HasLeg n [] = ⊥
HasLeg n (x ∷ xs) = (x.number ≡ n) ⊎ HasLeg n xs

abbrev number_by : Option OutLeg → ℕ
number_by None = 0
number_by (Some x) = x.number

pub has_push : (n : ℕ) (xs ys : List OutLeg) → HasLeg n xs → HasLeg n (xs ++ ys)
has_push n [] ys h = absurd h
has_push n (x ∷ xs) ys (inl is) = inl is
has_push n (x ∷ xs) ys (inr rest) = inr (has_push n xs ys rest)

has_at : (n : ℕ) (xs : List OutLeg) (place : ℕ) (x : OutLeg) → slice_get xs place ≡ Some x
    → x.number ≡ n → HasLeg n xs
has_at n [] place x at is = absurd (cc)
has_at n (z ∷ xs) zero x at is = inl (ap number_by at ∙ is)
has_at n (z ∷ xs) (suc place) x at is = inr (has_at n xs place x at is)

pub has_set : (n : ℕ) (xs : List OutLeg) (place : ℕ) (x y : OutLeg) → slice_get xs place ≡ Some x
    → y.number ≡ x.number → HasLeg n xs → HasLeg n (slice_set xs place y)
has_set n [] place x y at same h = absurd h
has_set n (z ∷ xs) zero x y at same (inl is) = inl (same ∙ sym (ap number_by at) ∙ is)
has_set n (z ∷ xs) zero x y at same (inr rest) = inr rest
has_set n (z ∷ xs) (suc place) x y at same (inl is) = inl is
has_set n (z ∷ xs) (suc place) x y at same (inr rest) = inr (has_set n xs place x y at same rest)

pub has_removed : (n : ℕ) (xs : List OutLeg) (place : ℕ) (x : OutLeg)
    → slice_get xs place ≡ Some x → (x.number ≡ n → ⊥) → HasLeg n xs → HasLeg n (remove xs place)
has_removed n [] place x at other h = absurd h
has_removed n (z ∷ xs) zero x at other (inl is) =
    absurd (other (sym (ap number_by at) ∙ is))
has_removed n (z ∷ xs) zero x at other (inr rest) = rest
has_removed n (z ∷ xs) (suc place) x at other (inl is) = inl is
has_removed n (z ∷ xs) (suc place) x at other (inr rest) =
    inr (has_removed n xs place x at other rest)

-- so it is found
pub has_place : (n : ℕ) (xs : List OutLeg) → HasLeg n xs → is_some (out_place n xs) ≡ true
has_place n [] h = absurd h
has_place n (x ∷ xs) h =
    ap is_some (place_step (λ (leg : OutLeg). leg.number == n) x xs)
    ∙ by (x.number == n) refl h (has_place n xs)
  where
    further : (place : Option ℕ) → is_some place ≡ true → is_some (next_place place) ≡ true
    further None e = absurd (false≢true e)
    further (Some place) e = refl

    by : (b : Bool) → x.number == n ≡ b → (x.number ≡ n) ⊎ HasLeg n xs
        → (HasLeg n xs → is_some (out_place n xs) ≡ true)
        → is_some (cond b (Some 0) (next_place (out_place n xs))) ≡ true
    by true e h rest = refl
    by false e (inl is) rest = absurd (other_number x.number n e is)
    by false e (inr h) rest = further (out_place n xs) (rest h)

-- ---- what is known

-- before CONN/A2 came the first channel is the writing one; behind it its leg is there, and behind
-- OUT_R1/A4 that of the successor
pub record Writes (x : Seen) : Type 0 where
  pub early : since_conn_a2 x.at ≡ 0 → x.writing ≡ 1
  pub now : since_conn_a2 x.at ≡ 1 → HasLeg x.writing x.outs
  pub next : since_answered x.replacement ≡ 1 → HasLeg (x.writing + 1) x.outs

abbrev pub Holds : Server → List OnLeg → List OnLeg → Type 0
Holds s came put = Writes (seen s)

pub row_writes : (one : OnLeg) (came put : List OnLeg) (x : Done) → Writes (seen x.0)
    → RowKeeps Holds one came put x
row_writes one came put (t, Ok taken) h = h
row_writes one came put (t, Err why) h = h

pub same_writes : (s t : Server) → seen t ≡ seen s → Writes (seen s) → Writes (seen t)
same_writes s t same h = subst Writes (sym same) h

-- other legs, among which each number is as before
pub legs_writes : (x : Seen) (outs : List OutLeg)
    → ((n : ℕ) → HasLeg n x.outs → HasLeg n outs) → Writes x → Writes (record x { outs = outs })
legs_writes x outs as_before h = record {
  early = h.early;
  now = λ e. as_before x.writing (h.now e);
  next = λ e. as_before (x.writing + 1) (h.next e);
}

pub set_writes : (s : Server) (place : ℕ) (x y : OutLeg) → slice_get s.outs place ≡ Some x
    → y.number ≡ x.number → Writes (seen s)
    → Writes (record (seen s) { outs = slice_set s.outs place y })
set_writes s place x y at same h =
    legs_writes (seen s) (slice_set s.outs place y)
    (λ n. has_set n s.outs place x y at same) h

-- another stage, behind CONN/A2 as before
pub stage_writes : (x : Seen) (at : Stage) → since_conn_a2 at ≡ since_conn_a2 x.at → Writes x
    → Writes (record x { at = at })
stage_writes x at same h = record {
  early = λ e. h.early (sym same ∙ e);
  now = λ e. h.now (sym same ∙ e);
  next = h.next;
}

-- ---- rows

conn_b2_writes : (s : Server) (n : ℕ) (count : Count) (a b : Cookie) (c d : ℕ)
    → Writes (seen s) → Writes (seen (on_conn_b2 s n count a b c d).0)
conn_b2_writes s n count a b c d h =
    by_test (λ (x : Done). Writes (seen x.0)) _ (conn_b2_at s s.stage a b c d) (unexpected s)
    (λ e. by s.stage refl) (λ e. h)
  where
    by : (at : Stage) → s.stage ≡ at → Writes (seen (conn_b2_at s at a b c d).0)
    by stage.Waits e =
        subst Writes (sym (first_in_same s b (stage.InCame a c d) (in_leg 1 s.ins)))
        (stage_writes (seen s) (stage.InCame a c d) (sym (ap since_conn_a2 e)) h)
    by (stage.OutCame known) e =
        by_test (λ (x : Done). Writes (seen x.0)) (same_cookie known a)
        (took (opens (with_first_in s b) known c d)) _
        (λ f. subst Writes (sym (first_in_same s b (stage.Open known) (in_leg 1 s.ins)))
        (stage_writes (seen s) (stage.Open known) (sym (ap since_conn_a2 e)) h)) (λ f. h)
    by (stage.InCame known window timeout) e = h
    by (stage.Open known) e = h
    by stage.Ended e = h

first_out_writes : (s : Server) (at : Stage) (cookie : Cookie) (lifetime window : ℕ)
    (place : Option ℕ) (o : Option OutLeg) → since_conn_a2 s.stage ≡ 0 → is_some place ≡ true
    → out_place 1 s.outs ≡ place → out_at s.outs place ≡ o → Writes (seen s)
    → Writes (record (seen (first_out_at s cookie lifetime window place o)) { at = at })
first_out_writes s at cookie lifetime window None o none some found is h =
    absurd (false≢true some)
first_out_writes s at cookie lifetime window (Some place) None none some found is h =
    absurd (is_there s 1 place found is)
first_out_writes s at cookie lifetime window (Some place) (Some x) none some found is h =
    let one = h.early none in record {
      early = λ e. one;
      now = λ e. kept s.writing (has_at s.writing s.outs place x is
          (number_at s.outs 1 place x found is ∙ sym one));
      next = λ e. kept (s.writing + 1) (h.next e);
    }
  where
    y : OutLeg
    y = record x { cookie = Some cookie; window = unsent window; meter = started lifetime 28 }

    kept : (n : ℕ) → HasLeg n s.outs → HasLeg n (slice_set s.outs place y)
    kept n = has_set n s.outs place x y is refl

conn_a2_writes : (s : Server) (n : ℕ) (count : Count) (a b : Cookie) (c d : ℕ)
    → is_some (out_place n s.outs) ≡ true → Writes (seen s)
    → Writes (seen (on_conn_a2 s n count a b c d).0)
conn_a2_writes s n count a b c d some h =
    by_test (λ (x : Done). Writes (seen x.0))
    (is_first count && ((n == 1) && not (waits kind.ConnC1 s.waiting)))
    (conn_a2_at s s.stage a b c d) (unexpected s)
    (λ e. by (subst (λ (k : ℕ). is_some (out_place k s.outs) ≡ true) (same_number n 1
    (and_parts (n == 1) _ (and_parts (is_first count) _ e).1).0) some) s.stage refl) (λ e. h)
  where
    by : is_some (out_place 1 s.outs) ≡ true → (at : Stage) → s.stage ≡ at
        → Writes (seen (conn_a2_at s at a b c d).0)
    by one stage.Waits e =
        first_out_writes s (stage.OutCame a) b c d (out_place 1 s.outs)
        (out_at s.outs (out_place 1 s.outs)) (ap since_conn_a2 e) one refl refl h
    by one (stage.InCame known window timeout) e =
        by_test (λ (x : Done). Writes (seen x.0)) (same_cookie known a)
        (took (opens (with_first_out s b c d) known window timeout)) _
        (λ f. first_out_writes s (stage.Open known) b c d (out_place 1 s.outs)
        (out_at s.outs (out_place 1 s.outs)) (ap since_conn_a2 e) one refl refl h) (λ f. h)
    by one (stage.OutCame known) e = h
    by one (stage.Open known) e = h
    by one stage.Ended e = h

a4_writes : (s : Server) (n : ℕ) (count : Count) (a b c : Cookie) (d e f : ℕ)
    → Writes (seen s) → Writes (seen (on_out_r1_a4 s n count a b c d e f).0)
a4_writes s n count a b c d e f h =
    by_test Row (may_answer s n count) (out_r1_a4_at s s.stage n a b c d e f) (unexpected s)
    (λ g. by_stage (same_number n (s.writing + 1)
    (and_parts (n == s.writing + 1) _ (and_parts (is_first count) _ g).1).0) s.stage) (λ g. h)
  where
    Row : Done → Type 0
    Row x = Writes (seen x.0)

    answers : n ≡ s.writing + 1 → (place : Option ℕ) (o : Option OutLeg)
        → out_place n s.outs ≡ place → out_at s.outs place ≡ o
        → Row (answered_by s c d e f place o)
    answers following None o found at = h
    answers following (Some place) None found at = h
    answers following (Some place) (Some x) found at = record {
      early = h.early;
      now = λ i. kept s.writing (h.now i);
      next = λ i. kept (s.writing + 1) (has_at (s.writing + 1) s.outs place x at
          (number_at s.outs n place x found at ∙ following));
    }
      where
        kept : (k : ℕ) → HasLeg k s.outs → HasLeg k (slice_set s.outs place
            (record x { cookie = Some c; window = unsent e; meter = started d 0 }))
        kept k = has_set k s.outs place x
            (record x { cookie = Some c; window = unsent e; meter = started d 0 }) at refl

    by_writing : n ≡ s.writing + 1 → (known : Cookie) (o : Option Cookie)
        → Row (out_r1_a4_by s n known a b c d e f o)
    by_writing following known None = h
    by_writing following known (Some writing) =
        by_test Row (not (same_cookie known a)) (refuse s (refused.Cookie known a)) _ (λ g. h)
        (λ g. by_test Row (not (same_cookie writing b)) (refuse s (refused.Cookie writing b))
        (answered_on s n c d e f) (λ i. h)
        (λ i. answers following (out_place n s.outs) (out_at s.outs (out_place n s.outs)) refl
        refl))

    by_stage : n ≡ s.writing + 1 → (at : Stage) → Row (out_r1_a4_at s at n a b c d e f)
    by_stage following (stage.Open known) =
        by_writing following known (out_cookie s.writing s.outs)
    by_stage following stage.Waits = h
    by_stage following (stage.OutCame connection) = h
    by_stage following (stage.InCame connection in_window timeout) = h
    by_stage following stage.Ended = h

a8_writes : (s : Server) (count : Count) (destination : ℕ) (successor : Cookie)
    → Writes (seen s) → Writes (seen (on_out_r1_a8 s count destination successor).0)
a8_writes s count destination successor h =
    by_test Row _ (out_r1_a8_at s successor s.replacement) (unexpected s)
    (λ e. by s.replacement refl) (λ e. h)
  where
    Row : Done → Type 0
    Row x = Writes (seen x.0)

    by : (at : Replacement) → s.replacement ≡ at → Row (out_r1_a8_at s successor at)
    by (Answered cookie) e =
        by_test Row (same_cookie cookie successor) _ (refuse s (refused.Cookie cookie successor))
        (λ f. record { early = h.early; now = h.now; next = λ i. h.next (ap since_answered e) })
        (λ f. h)
    by Steady e = h
    by Asked e = h
    by Confirmed e = h

ack_writes : (s : Server) (n : ℕ) (count : Count) (received window : ℕ) (cookie : Cookie)
    → Writes (seen s) → Writes (seen (on_ack s n count received window cookie).0)
ack_writes s n count received window cookie h =
    by_test Row (is_first count) (unexpected s) _ (λ e. h) (λ e. by_cookie (out_cookie n s.outs))
  where
    Row : Done → Type 0
    Row x = Writes (seen x.0)

    by_leg : (place : ℕ) (o : Option OutLeg) → slice_get s.outs place ≡ o
        → Row (acked_at s place received window o)
    by_leg place None at = h
    by_leg place (Some x) at =
        set_writes s place x (record x { window = after_acked x.window received window }) at refl h

    by_place : (place : Option ℕ) → Row (acked_in s received window place)
    by_place None = h
    by_place (Some place) = by_leg place (slice_get s.outs place) refl

    by_cookie : (o : Option Cookie) → Row (acked_cookie s n received window cookie o)
    by_cookie None = h
    by_cookie (Some channel) =
        by_test Row (same_cookie channel cookie) _ (refuse s (refused.Cookie channel cookie))
        (λ e. by_place (out_place n s.outs)) (λ e. h)

on_is_writes : (s : Server) (n : ℕ) (count : Count) (m : Named) → Writes (seen s)
    → Writes (seen (on_is s n count m).0)
on_is_writes s n count (named.ConnB2 v1 v2 v3 v4 v5 v6 v7 v8) h =
    conn_b2_writes s n count v2 v3 v4 v5 h
on_is_writes s n count (named.InR1A2 v1 v2 v3 v4 v5 v6) h =
    same_writes s (on_in_r1_a2 s n count v2 v3 v4 v5 v6).0
    (in_r1_a2_same s n count v2 v3 v4 v5 v6) h
on_is_writes s n count (named.InR1A6 v1) h =
    same_writes s (on_in_r1_a6 s n v1).0 (in_r1_a6_same s n v1) h
on_is_writes s n count (named.InR2A2 v1) h =
    same_writes s (on_in_r2_a2 s n count v1).0 (in_r2_a2_same s n count v1) h
on_is_writes s n count (named.AckTo v1 v2 v3 v4) h =
    same_writes s (on_ack_to s count v1 v2 v3 v4).0 (ack_to_same s count v1 v2 v3 v4) h
on_is_writes s n count (named.OutR1A8 v1 v2) h = a8_writes s count v1 v2 h
on_is_writes s n count named.EndA2 h =
    same_writes s (on_end_a2 s n count).0 (end_a2_same s n count) h
on_is_writes s n count m h = h

on_os_writes : (s : Server) (n : ℕ) (count : Count) (m : Named)
    → is_some (out_place n s.outs) ≡ true → Writes (seen s)
    → Writes (seen (on_os s n count m).0)
on_os_writes s n count (named.ConnA2 v1 v2 v3 v4 v5) some h =
    conn_a2_writes s n count v2 v3 v4 v5 some h
on_os_writes s n count (named.OutR1A4 v1 v2 v3 v4 v5 v6 v7) some h =
    a4_writes s n count v2 v3 v4 v5 v6 v7 h
on_os_writes s n count (named.Ack v1 v2 v3) some h = ack_writes s n count v1 v2 v3 h
on_os_writes s n count (named.PingTraffic v1) some h =
    same_writes s (on_ping_traffic s count).0 (ping_same s count) h
on_os_writes s n count m some h = h

pub packet_writes : (s : Server) (n : ℕ) (count : Count) (m : Named) (k : LegKind)
    → IsTrue (is_in_use server_rules s (leg_at k n)) → Writes (seen s)
    → Writes (seen (packet_by s n count m k).0)
packet_writes s n count m InServer used h = on_is_writes s n count m h
packet_writes s n count m OutServer used h = on_os_writes s n count m (in_use_at s n used) h
packet_writes s n count m ClientIn used h = h
packet_writes s n count m ClientOut used h = h

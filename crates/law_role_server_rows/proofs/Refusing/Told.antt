-- the cookies that a server knows came: of its connection, and of its OUT channels
use Rattle.rh_keep.specs.Meters.{started}
use Rattle.law_order.proofs.Vocabulary.{◌≡◌, ◌⊎◌, inl, inr, ℕ, ◌+◌, ◌==◌, List, [], ◌∷◌, ◌++◌, Bool, true, if◌then◌else◌, ◌&&◌, not, Some, None, Ok, Err, refl, sym, ap, ◌∙◌, subst, rules, and_parts, slice_get, slice_set, IfSome, AllByRecursion, Option}
use Rattle.rh_sig.specs.declared.named.Named.TheVariants as named
use Rattle.rh_shell.specs.declared.answers.Refused.TheVariants as refused
use Rattle.rh_server.specs.declared.state.Stage.TheVariants as stage
use Rattle.rh_server.specs.declared.out_line.Kind.TheVariants as kind
use Rattle.law_moves.proofs.Vocabulary.{unsent, after_acked, by_test, same_number, test_same, Cookie, Named, LegKind, ClientOut, OutServer, ClientIn, InServer, Count, Packet, is_of, of_kind, HasOne, OnLeg, of_leg}
use Rattle.law_moves.proofs.Lemmas.{each_so, one_more_so, last_one_so, leg_more, kind_more, RowKeeps}
use Rattle.law_role_server.proofs.Vocabulary.{InLeg, OutLeg, Replacement, Steady, Asked, Answered, Confirmed, Stage, waits, Server, same_cookie, in_leg, out_place, out_at, out_cookie, Done, took, refuse, unexpected, is_first, opens, first_out_at, with_first_out, conn_a2_at, on_conn_a2, first_in, with_first_in, conn_b2_at, on_conn_b2, acked_at, acked_in, acked_cookie, on_ack, on_ack_to, on_ping_traffic, on_in_r1_a2, on_in_r1_a6, on_in_r2_a2, answered_by, answered_on}
use Rattle.law_role_server.proofs.Vocabulary.{out_r1_a4_by, out_r1_a4_at, may_answer, on_out_r1_a4, out_r1_a8_at, on_out_r1_a8, on_end_a2, on_is, on_os, packet_by, leg_at}
use Rattle.law_role_server_rows.proofs.Refusing.Places.{all_at, all_set, found_passes}
use Rattle.law_role_server_rows.specs.Refusing.Cookies.{Connects, OpensOut, IsConnection, IsOutChannel}

-- ---- what is known

-- what the facts are about
pub record Seen : Type 0 where
  pub at : Stage
  pub outs : List OutLeg
  pub writing : ℕ
  pub replacement : Replacement
  pub newest : ℕ

abbrev pub seen : Server → Seen
seen s = record {
  at = s.stage;
  outs = s.outs;
  writing = s.writing;
  replacement = s.replacement;
  newest = s.newest_out;
}

-- the connection's cookie came with CONN/A2 or with CONN/B2
abbrev pub StageTold : List OnLeg → Stage → Type 0
StageTold came stage.Waits = Unit {0}
StageTold came (stage.OutCame connection) = IsConnection OutServer connection came
StageTold came (stage.InCame connection window timeout) = IsConnection InServer connection came
StageTold came (stage.Open connection) =
    IsConnection OutServer connection came ⊎ IsConnection InServer connection came
StageTold came stage.Ended = Unit {0}

abbrev pub CookieTold : List OnLeg → ℕ → Option Cookie → Type 0
CookieTold came number None = Unit {0}
CookieTold came number (Some cookie) = IsOutChannel number cookie came

-- a channel's cookie came on its leg
abbrev pub OutTold : List OnLeg → OutLeg → Type 0
OutTold came leg = CookieTold came leg.number leg.cookie

-- so did the successor's
abbrev pub ReplacementTold : List OnLeg → ℕ → Replacement → Type 0
ReplacementTold came writing Steady = Unit {0}
ReplacementTold came writing Asked = Unit {0}
ReplacementTold came writing (Answered successor) = IsOutChannel (writing + 1) successor came
ReplacementTold came writing Confirmed = Unit {0}

pub record Known (x : Seen) (came : List OnLeg) : Type 0 where
  pub at : StageTold came x.at
  pub outs : AllByRecursion (OutTold came) x.outs
  pub replacement : ReplacementTold came x.writing x.replacement

abbrev pub Fine : Server → List OnLeg → List OnLeg → Type 0
Fine s came put = Known (seen s) came

-- ---- a message more

connection_more : (kind : LegKind) (cookie : Cookie) (came : List OnLeg) (one : OnLeg)
    → IsConnection kind cookie came → IsConnection kind cookie (came ++ one ∷ [])
connection_more kind cookie came one h =
    subst (HasOne (Connects cookie)) (sym (kind_more kind came one))
    (one_more_so (Connects cookie) (of_kind kind came) (of_kind kind (one ∷ [])) h)

channel_more : (number : ℕ) (cookie : Cookie) (came : List OnLeg) (one : OnLeg)
    → IsOutChannel number cookie came → IsOutChannel number cookie (came ++ one ∷ [])
channel_more number cookie came one h =
    subst (HasOne (OpensOut cookie)) (sym (leg_more (leg_at OutServer number) came one))
    (one_more_so (OpensOut cookie) (of_leg (leg_at OutServer number) came)
    (of_leg (leg_at OutServer number) (one ∷ [])) h)

stage_more : (at : Stage) (came : List OnLeg) (one : OnLeg) → StageTold came at
    → StageTold (came ++ one ∷ []) at
stage_more stage.Waits came one h = tt
stage_more (stage.OutCame connection) came one h =
    connection_more OutServer connection came one h
stage_more (stage.InCame connection window timeout) came one h =
    connection_more InServer connection came one h
stage_more (stage.Open connection) came one (inl h) =
    inl (connection_more OutServer connection came one h)
stage_more (stage.Open connection) came one (inr h) =
    inr (connection_more InServer connection came one h)
stage_more stage.Ended came one h = tt

cookie_more : (number : ℕ) (cookie : Option Cookie) (came : List OnLeg) (one : OnLeg)
    → CookieTold came number cookie → CookieTold (came ++ one ∷ []) number cookie
cookie_more number None came one h = tt
cookie_more number (Some cookie) came one h = channel_more number cookie came one h

replacement_more : (writing : ℕ) (at : Replacement) (came : List OnLeg) (one : OnLeg)
    → ReplacementTold came writing at → ReplacementTold (came ++ one ∷ []) writing at
replacement_more writing Steady came one h = tt
replacement_more writing Asked came one h = tt
replacement_more writing (Answered successor) came one h =
    channel_more (writing + 1) successor came one h
replacement_more writing Confirmed came one h = tt

outs_more : (outs : List OutLeg) (came : List OnLeg) (one : OnLeg)
    → AllByRecursion (OutTold came) outs → AllByRecursion (OutTold (came ++ one ∷ [])) outs
outs_more outs came one =
    each_so (OutTold came) (OutTold (came ++ one ∷ []))
    (λ leg. cookie_more leg.number leg.cookie came one) outs

pub known_more : (x : Seen) (came : List OnLeg) (one : OnLeg) → Known x came
    → Known x (came ++ one ∷ [])
known_more x came one h = record {
  at = stage_more x.at came one h.at;
  outs = outs_more x.outs came one h.outs;
  replacement = replacement_more x.writing x.replacement came one h.replacement;
}

connected_now : (kind : LegKind) (number : ℕ) (cookie : Cookie) (packet : Named)
    (came : List OnLeg) → is_of kind (leg_at kind number) ≡ true → Connects cookie packet
    → IsConnection kind cookie (came ++ (leg_at kind number, Packet packet) ∷ [])
connected_now kind number cookie packet came e is =
    subst (HasOne (Connects cookie)) (sym (kind_more kind came one
    ∙ ap (λ (b : Bool). of_kind kind came ++ (if b then Packet packet ∷ [] else [])) e))
    (last_one_so (Connects cookie) (of_kind kind came) packet is)
  where
    one : OnLeg
    one = (leg_at kind number, Packet packet)

opened_now : (number : ℕ) (cookie : Cookie) (packet : Named) (came : List OnLeg)
    → OpensOut cookie packet
    → IsOutChannel number cookie (came ++ (leg_at OutServer number, Packet packet) ∷ [])
opened_now number cookie packet came is =
    subst (HasOne (OpensOut cookie)) (sym (leg_more (leg_at OutServer number) came one
    ∙ ap (λ (b : Bool). of_leg (leg_at OutServer number) came
    ++ (if b then Packet packet ∷ [] else [])) (test_same number)))
    (last_one_so (OpensOut cookie) (of_leg (leg_at OutServer number) came) packet is)
  where
    one : OnLeg
    one = (leg_at OutServer number, Packet packet)

-- ---- rows

-- one that leaves these alone, or changes them by what is known
pub row_known : (one : OnLeg) (came put : List OnLeg) (x : Done) → Known (seen x.0) came
    → RowKeeps Fine one came put x
row_known one came put (t, Ok taken) h = known_more (seen t) came one h
row_known one came put (t, Err why) h = h

same_row : (s : Server) (one : OnLeg) (came put : List OnLeg) (x : Done)
    → seen x.0 ≡ seen s → Fine s came put → RowKeeps Fine one came put x
same_row s one came put x same h =
    row_known one came put x (subst (λ (v : Seen). Known v came) (sym same) h)

pub in_r1_a2_same : (s : Server) (n : ℕ) (count : Count) (a b c : Cookie) (d e : ℕ)
    → seen (on_in_r1_a2 s n count a b c d e).0 ≡ seen s
in_r1_a2_same s n count a b c d e = search rules

pub in_r1_a6_same : (s : Server) (n : ℕ) (a : Cookie) → seen (on_in_r1_a6 s n a).0 ≡ seen s
in_r1_a6_same s n a = search rules

pub in_r2_a2_same : (s : Server) (n : ℕ) (count : Count) (a : Cookie)
    → seen (on_in_r2_a2 s n count a).0 ≡ seen s
in_r2_a2_same s n count a = search rules

pub ack_to_same : (s : Server) (count : Count) (a b c : ℕ) (d : Cookie)
    → seen (on_ack_to s count a b c d).0 ≡ seen s
ack_to_same s count a b c d = search rules

pub end_a2_same : (s : Server) (n : ℕ) (count : Count) → seen (on_end_a2 s n count).0 ≡ seen s
end_a2_same s n count = search rules

pub ping_same : (s : Server) (count : Count) → seen (on_ping_traffic s count).0 ≡ seen s
ping_same s count = search rules

-- ---- CONN/B2

pub first_in_same : (s : Server) (cookie : Cookie) (at : Stage) (o : Option InLeg)
    → seen (record (first_in s cookie o) { stage = at }) ≡ record (seen s) { at = at }
first_in_same s cookie at None = refl
first_in_same s cookie at (Some leg) = refl

conn_b2_row : (s : Server) (n : ℕ) (count : Count) (a b : Cookie) (c d : ℕ)
    (packet : Named) (came put : List OnLeg) → Connects a packet → Fine s came put
    → RowKeeps Fine (leg_at InServer n, Packet packet) came put (on_conn_b2 s n count a b c d)
conn_b2_row s n count a b c d packet came put is h =
    by_test Row _ (conn_b2_at s s.stage a b c d) (unexpected s) (λ e. by s.stage refl) (λ e. h)
  where
    one : OnLeg
    one = (leg_at InServer n, Packet packet)

    Row : Done → Type 0
    Row x = RowKeeps Fine one came put x

    at_stage : (at : Stage) → StageTold (came ++ one ∷ []) at
        → Known (record (seen s) { at = at }) (came ++ one ∷ [])
    at_stage at told =
        let more = known_more (seen s) came one h in
        record { at = told; outs = more.outs; replacement = more.replacement }

    by : (at : Stage) → s.stage ≡ at → Row (conn_b2_at s at a b c d)
    by stage.Waits e =
        subst (λ (v : Seen). Known v (came ++ one ∷ []))
        (sym (first_in_same s b (stage.InCame a c d) (in_leg 1 s.ins)))
        (at_stage (stage.InCame a c d) (connected_now InServer n a packet came refl is))
    by (stage.OutCame first) e =
        by_test Row (same_cookie first a) (took (opens (with_first_in s b) first c d)) _
        (λ f. subst (λ (v : Seen). Known v (came ++ one ∷ []))
        (sym (first_in_same s b (stage.Open first) (in_leg 1 s.ins)))
        (at_stage (stage.Open first)
        (inl (subst (StageTold (came ++ one ∷ [])) e (stage_more s.stage came one h.at)))))
        (λ f. h)
    by (stage.InCame first in_window timeout) e = h
    by (stage.Open first) e = h
    by stage.Ended e = h

-- ---- CONN/A2

-- another leg is at a place, whose cookie came
pub set_known : (x : Seen) (place : ℕ) (y : OutLeg) (came : List OnLeg) → OutTold came y
    → Known x came → Known (record x { outs = slice_set x.outs place y }) came
set_known x place y came is h = record {
  at = h.at;
  outs = all_set (OutTold came) x.outs place y is h.outs;
  replacement = h.replacement;
}

-- the leg that is found by a number has it
pub number_at : (outs : List OutLeg) (number place : ℕ) (x : OutLeg)
    → out_place number outs ≡ Some place → slice_get outs place ≡ Some x → x.number ≡ number
number_at outs number place x e at =
    same_number x.number number
    (found_passes (λ (leg : OutLeg). leg.number == number) outs place x e at)

first_out_known : (s : Server) (cookie : Cookie) (lifetime window : ℕ) (place : Option ℕ)
    (o : Option OutLeg) (came : List OnLeg) → out_place 1 s.outs ≡ place
    → out_at s.outs place ≡ o → IsOutChannel 1 cookie came → Known (seen s) came
    → Known (seen (first_out_at s cookie lifetime window place o)) came
first_out_known s cookie lifetime window (Some place) (Some x) came at is told h =
    set_known (seen s) place (record x {
      cookie = Some cookie;
      window = unsent window;
      meter = started lifetime 28;
    }) came
    (subst (λ (n : ℕ). IsOutChannel n cookie came) (sym (number_at s.outs 1 place x at is)) told) h
first_out_known s cookie lifetime window (Some place) None came at is told h = h
first_out_known s cookie lifetime window None o came at is told h = h

conn_a2_first : (s : Server) (a b : Cookie) (c d : ℕ) (packet : Named) (came put : List OnLeg)
    → Connects a packet → OpensOut b packet → Fine s came put
    → RowKeeps Fine (leg_at OutServer 1, Packet packet) came put (conn_a2_at s s.stage a b c d)
conn_a2_first s a b c d packet came put is opens_so h = by s.stage refl
  where
    one : OnLeg
    one = (leg_at OutServer 1, Packet packet)

    Row : Done → Type 0
    Row x = RowKeeps Fine one came put x

    at_stage : (at : Stage) → StageTold (came ++ one ∷ []) at
        → Known (record (seen (with_first_out s b c d)) { at = at }) (came ++ one ∷ [])
    at_stage at told =
        let more = first_out_known s b c d (out_place 1 s.outs) (out_at s.outs (out_place 1 s.outs))
        (came ++ one ∷ []) refl refl (opened_now 1 b packet came opens_so)
        (known_more (seen s) came one h) in
        record { at = told; outs = more.outs; replacement = more.replacement }

    by : (at : Stage) → s.stage ≡ at → Row (conn_a2_at s at a b c d)
    by stage.Waits e =
        at_stage (stage.OutCame a) (connected_now OutServer 1 a packet came refl is)
    by (stage.InCame first in_window timeout) e =
        by_test Row (same_cookie first a)
        (took (opens (with_first_out s b c d) first in_window timeout)) _
        (λ f. at_stage (stage.Open first)
        (inr (subst (StageTold (came ++ one ∷ [])) e (stage_more s.stage came one h.at))))
        (λ f. h)
    by (stage.OutCame first) e = h
    by (stage.Open first) e = h
    by stage.Ended e = h

conn_a2_row : (s : Server) (n : ℕ) (count : Count) (a b : Cookie) (c d : ℕ) (packet : Named)
    (came put : List OnLeg) → Connects a packet → OpensOut b packet → Fine s came put
    → RowKeeps Fine (leg_at OutServer n, Packet packet) came put (on_conn_a2 s n count a b c d)
conn_a2_row s n count a b c d packet came put is opens_so h =
    by_test (Row n) (is_first count && ((n == 1) && not (waits kind.ConnC1 s.waiting)))
    (conn_a2_at s s.stage a b c d) (unexpected s)
    (λ e. subst (λ (k : ℕ). Row k (conn_a2_at s s.stage a b c d)) (sym (same_number n 1
    (and_parts (n == 1) _ (and_parts (is_first count) _ e).1).0))
    (conn_a2_first s a b c d packet came put is opens_so h))
    (λ e. h)
  where
    Row : ℕ → Done → Type 0
    Row k x = RowKeeps Fine (leg_at OutServer k, Packet packet) came put x

-- ---- OUT_R1/A4

a4_row : (s : Server) (n : ℕ) (count : Count) (a b c : Cookie) (d e f : ℕ) (packet : Named)
    (came put : List OnLeg) → OpensOut c packet → Fine s came put
    → RowKeeps Fine (leg_at OutServer n, Packet packet) came put
    (on_out_r1_a4 s n count a b c d e f)
a4_row s n count a b c d e f packet came put is h =
    by_test Row (may_answer s n count) (out_r1_a4_at s s.stage n a b c d e f) (unexpected s)
    (λ g. by_stage (same_number n (s.writing + 1)
    (and_parts (n == s.writing + 1) _ (and_parts (is_first count) _ g).1).0) s.stage)
    (λ g. h)
  where
    one : OnLeg
    one = (leg_at OutServer n, Packet packet)

    Row : Done → Type 0
    Row x = RowKeeps Fine one came put x

    answers : n ≡ s.writing + 1 → (place : Option ℕ) (o : Option OutLeg)
        → out_place n s.outs ≡ place → out_at s.outs place ≡ o
        → Row (answered_by s c d e f place o)
    answers next None o at found = h
    answers next (Some place) None at found = h
    answers next (Some place) (Some x) at found =
        let told = opened_now n c packet came is in
        let more = known_more (seen s) came one h in record {
          at = more.at;
          outs = all_set (OutTold (came ++ one ∷ [])) s.outs place (record x {
            cookie = Some c;
            window = unsent e;
            meter = started d 0;
          }) (subst (λ (k : ℕ). IsOutChannel k c (came ++ one ∷ []))
              (sym (number_at s.outs n place x at found)) told) more.outs;
          replacement = subst (λ (k : ℕ). IsOutChannel k c (came ++ one ∷ [])) next told;
        }

    by_writing : n ≡ s.writing + 1 → (first : Cookie) (o : Option Cookie)
        → Row (out_r1_a4_by s n first a b c d e f o)
    by_writing next first None = h
    by_writing next first (Some writing) =
        by_test Row (not (same_cookie first a)) (refuse s (refused.Cookie first a)) _ (λ g. h)
        (λ g. by_test Row (not (same_cookie writing b)) (refuse s (refused.Cookie writing b))
        (answered_on s n c d e f) (λ i. h)
        (λ i. answers next (out_place n s.outs) (out_at s.outs (out_place n s.outs)) refl refl))

    by_stage : n ≡ s.writing + 1 → (at : Stage) → Row (out_r1_a4_at s at n a b c d e f)
    by_stage next (stage.Open first) = by_writing next first (out_cookie s.writing s.outs)
    by_stage next stage.Waits = h
    by_stage next (stage.OutCame connection) = h
    by_stage next (stage.InCame connection in_window timeout) = h
    by_stage next stage.Ended = h

-- ---- OUT_R1/A8, and acknowledgements

-- as far as it is confirmed, no cookie is to be known any more
a8_row : (s : Server) (n : ℕ) (count : Count) (destination : ℕ) (successor : Cookie)
    (packet : Named) (came put : List OnLeg) → Fine s came put
    → RowKeeps Fine (leg_at InServer n, Packet packet) came put
    (on_out_r1_a8 s count destination successor)
a8_row s n count destination successor packet came put h =
    by_test Row (not (is_first count) && ((destination == 2) && not (waits kind.OutR1 s.waiting)))
    (out_r1_a8_at s successor s.replacement) (unexpected s) (λ e. by s.replacement) (λ e. h)
  where
    Row : Done → Type 0
    Row x = RowKeeps Fine (leg_at InServer n, Packet packet) came put x

    by : (at : Replacement) → Row (out_r1_a8_at s successor at)
    by (Answered cookie) =
        by_test Row (same_cookie cookie successor) _ (refuse s (refused.Cookie cookie successor))
        (λ e.
        let more = known_more (seen s) came (leg_at InServer n, Packet packet) h in
        record { at = more.at; outs = more.outs; replacement = tt }) (λ e. h)
    by Steady = h
    by Asked = h
    by Confirmed = h

-- a leg at its place, another part of which changed
pub found_told : (s : Server) (place : ℕ) (x : OutLeg) (came : List OnLeg)
    → slice_get s.outs place ≡ Some x → Known (seen s) came → OutTold came x
found_told s place x came at h =
    subst (λ (o : Option OutLeg). IfSome o (OutTold came)) at
    (all_at (OutTold came) s.outs place h.outs)

ack_row : (s : Server) (n : ℕ) (count : Count) (received window : ℕ) (cookie : Cookie)
    (packet : Named) (came put : List OnLeg) → Fine s came put
    → RowKeeps Fine (leg_at OutServer n, Packet packet) came put
    (on_ack s n count received window cookie)
ack_row s n count received window cookie packet came put h =
    by_test Row (is_first count) (unexpected s) _ (λ e. h)
    (λ e. by_cookie (out_cookie n s.outs))
  where
    one : OnLeg
    one = (leg_at OutServer n, Packet packet)

    Row : Done → Type 0
    Row x = RowKeeps Fine one came put x

    by_leg : (place : ℕ) (o : Option OutLeg) → slice_get s.outs place ≡ o
        → Row (acked_at s place received window o)
    by_leg place None at = h
    by_leg place (Some x) at =
        row_known one came put (acked_at s place received window (Some x))
        (set_known (seen s) place (record x { window = after_acked x.window received window }) came
        (found_told s place x came at h) h)

    by_place : (place : Option ℕ) → Row (acked_in s received window place)
    by_place None = h
    by_place (Some place) = by_leg place (slice_get s.outs place) refl

    by_cookie : (o : Option Cookie) → Row (acked_cookie s n received window cookie o)
    by_cookie None = h
    by_cookie (Some channel) =
        by_test Row (same_cookie channel cookie) _ (refuse s (refused.Cookie channel cookie))
        (λ e. by_place (out_place n s.outs)) (λ e. h)

-- ---- all packets

is_row : (s : Server) (n : ℕ) (count : Count) (packet : Named) (came put : List OnLeg)
    → Fine s came put
    → RowKeeps Fine (leg_at InServer n, Packet packet) came put (on_is s n count packet)
is_row s n count packet came put h = by packet
  where
    Row : Named → Type 0
    Row m = RowKeeps Fine (leg_at InServer n, Packet m) came put (on_is s n count m)

    by : (m : Named) → Row m
    by (named.ConnB2 v1 v2 v3 v4 v5 v6 v7 v8) =
        conn_b2_row s n count v2 v3 v4 v5 (named.ConnB2 v1 v2 v3 v4 v5 v6 v7 v8) came put refl h
    by (named.InR1A2 v1 v2 v3 v4 v5 v6) =
        same_row s (leg_at InServer n, Packet (named.InR1A2 v1 v2 v3 v4 v5 v6)) came put
        (on_in_r1_a2 s n count v2 v3 v4 v5 v6) (in_r1_a2_same s n count v2 v3 v4 v5 v6) h
    by (named.InR1A6 v1) =
        same_row s (leg_at InServer n, Packet (named.InR1A6 v1)) came put
        (on_in_r1_a6 s n v1) (in_r1_a6_same s n v1) h
    by (named.InR2A2 v1) =
        same_row s (leg_at InServer n, Packet (named.InR2A2 v1)) came put
        (on_in_r2_a2 s n count v1) (in_r2_a2_same s n count v1) h
    by (named.AckTo v1 v2 v3 v4) =
        same_row s (leg_at InServer n, Packet (named.AckTo v1 v2 v3 v4)) came put
        (on_ack_to s count v1 v2 v3 v4) (ack_to_same s count v1 v2 v3 v4) h
    by (named.OutR1A8 v1 v2) = a8_row s n count v1 v2 (named.OutR1A8 v1 v2) came put h
    by named.EndA2 =
        same_row s (leg_at InServer n, Packet named.EndA2) came put
        (on_end_a2 s n count) (end_a2_same s n count) h
    by m = h

os_row : (s : Server) (n : ℕ) (count : Count) (packet : Named) (came put : List OnLeg)
    → Fine s came put
    → RowKeeps Fine (leg_at OutServer n, Packet packet) came put (on_os s n count packet)
os_row s n count (named.ConnA2 v1 v2 v3 v4 v5) came put h =
    conn_a2_row s n count v2 v3 v4 v5 (named.ConnA2 v1 v2 v3 v4 v5) came put refl refl h
os_row s n count (named.OutR1A4 v1 v2 v3 v4 v5 v6 v7) came put h =
    a4_row s n count v2 v3 v4 v5 v6 v7 (named.OutR1A4 v1 v2 v3 v4 v5 v6 v7) came put refl h
os_row s n count (named.Ack v1 v2 v3) came put h =
    ack_row s n count v1 v2 v3 (named.Ack v1 v2 v3) came put h
os_row s n count (named.PingTraffic v1) came put h =
    same_row s (leg_at OutServer n, Packet (named.PingTraffic v1)) came put
    (on_ping_traffic s count) (ping_same s count) h
os_row s n count packet came put h = h

pub packet_row : (s : Server) (n : ℕ) (count : Count) (packet : Named) (k : LegKind)
    (came put : List OnLeg) → Fine s came put
    → RowKeeps Fine (leg_at k n, Packet packet) came put (packet_by s n count packet k)
packet_row s n count packet InServer came put h = is_row s n count packet came put h
packet_row s n count packet OutServer came put h = os_row s n count packet came put h
packet_row s n count packet ClientIn came put h = h
packet_row s n count packet ClientOut came put h = h

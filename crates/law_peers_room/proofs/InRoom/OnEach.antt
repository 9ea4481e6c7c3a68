-- what a client acknowledges on each of its IN channels, by what it puts on all of them in turn
use Rattle.law_order.proofs.Vocabulary.{◌≡◌, ◌≢◌, ℕ, zero, suc, ◌+◌, ◌<◌, ◌==◌, nat_lt, Bool, true, false, if◌then◌else◌, List, [], ◌∷◌, arith, refl, sym, ◌∙◌, subst, nat_tests}
use Rattle.law_moves.proofs.Vocabulary.{Cookie, AckTo, EndA1, InR1A5, OutR1A7, Leg, ClientIn, Message, Text, Pdu, Packet, is_of, same_leg, OnLeg, of_leg, count_of, of_kind, count_on, sum_below}
use Rattle.law_moves.proofs.Lemmas.{sum_rises}
use Rattle.law_role_client.proofs.Vocabulary.{ci, is_out_r1_a7}
use Rattle.law_role_client_rows.specs.InTurn.Turns.{Turn, StandFrom, behind}
use Rattle.law_peers_room.specs.InRoom.Acks.{AcksFrom, AcksOnEach, IsNear}

-- ---- sums

pub sums_same : (f g : ℕ → ℕ) → ((k : ℕ) → f k ≡ g k) → (n : ℕ)
    → sum_below f n ≡ sum_below g n
sums_same f g same n =
    let up = sum_rises f g (λ k. let e = same k in omega (arith, e)) n in
    let down = sum_rises g f (λ k. let e = same k in omega (arith, e)) n in
    omega (arith, up, down)

pub sum_none : (f : ℕ → ℕ) (n : ℕ) → ((k : ℕ) → k < n → f k ≡ 0) → sum_below f n ≡ 0
sum_none f zero none = refl
sum_none f (suc n) none =
    let rest = sum_none f n (λ k l. none k (omega (arith, l))) in
    let here = none n (omega arith) in
    omega (arith, rest, here)

-- one more at one number
sum_more : (f g : ℕ → ℕ) (w : ℕ) → ((k : ℕ) → g k ≡ f k + (if w == k then 1 else 0)) → (n : ℕ)
    → sum_below g n ≡ sum_below f n + (if nat_lt w n then 1 else 0)
sum_more f g w each zero = grind (arith, nat_tests)
sum_more f g w each (suc n) =
    let rest = sum_more f g w each n in
    let one = each n in
    grind (arith, nat_tests, rest, one)

-- ---- messages that neither switch nor acknowledge

abbrev switches_on : List OnLeg → ℕ → ℕ
switches_on log n = count_on is_out_r1_a7 ClientIn log n

module _ (Comes : Leg → Cookie → Type 0) where
  record IsSkipped (m : Message) : Type 0 where
    over : (k : ℕ) (ms : List Message) → AcksFrom Comes k ms → AcksFrom Comes k (m ∷ ms)
    rest : (k : ℕ) (ms : List Message) → AcksFrom Comes k (m ∷ ms) → AcksFrom Comes k ms
    counts : (ms : List Message) → count_of is_out_r1_a7 (m ∷ ms) ≡ count_of is_out_r1_a7 ms

  abbrev Acks : ℕ → List OnLeg → Type 0
  Acks often log = AcksFrom Comes often (of_kind ClientIn log)

  -- on each channel
  abbrev pub Each : ℕ → List OnLeg → Type 0
  Each often log =
      (n : ℕ) → AcksFrom Comes (often + sum_below (switches_on log) n) (of_leg (ci n) log)

  skip_on : (leg : Leg) (m : Message) (log : List OnLeg) → IsSkipped m → (k n : ℕ)
      → AcksFrom Comes k (of_leg (ci n) log) → AcksFrom Comes k (of_leg (ci n) ((leg, m) ∷ log))
  skip_on leg m log skips k n h = by (same_leg leg (ci n))
    where
      by : (b : Bool)
          → AcksFrom Comes k (if b then m ∷ of_leg (ci n) log else of_leg (ci n) log)
      by true = skips.over k (of_leg (ci n) log) h
      by false = h

  skip_counts : (leg : Leg) (m : Message) (log : List OnLeg) → IsSkipped m → (n : ℕ)
      → switches_on ((leg, m) ∷ log) n ≡ switches_on log n
  skip_counts leg m log skips n = by (same_leg leg (ci n))
    where
      by : (b : Bool)
          → count_of is_out_r1_a7 (if b then m ∷ of_leg (ci n) log else of_leg (ci n) log)
          ≡ switches_on log n
      by true = skips.counts (of_leg (ci n) log)
      by false = refl

  skip_rest : (leg : Leg) (m : Message) (log : List OnLeg) → IsSkipped m → (often : ℕ)
      → Acks often ((leg, m) ∷ log) → Acks often log
  skip_rest leg m log skips often h = by (is_of ClientIn leg) h
    where
      by : (b : Bool)
          → AcksFrom Comes often (if b then m ∷ of_kind ClientIn log else of_kind ClientIn log)
          → Acks often log
      by true k = skips.rest often (of_kind ClientIn log) k
      by false k = k

  skip_each : (leg : Leg) (m : Message) (log : List OnLeg) → IsSkipped m → (often : ℕ)
      → Each often log → Each often ((leg, m) ∷ log)
  skip_each leg m log skips often h n =
      let same = sums_same (switches_on log) (switches_on ((leg, m) ∷ log))
      (λ k. sym (skip_counts leg m log skips k)) n in
      subst (λ (s : ℕ). AcksFrom Comes (often + s) (of_leg (ci n) ((leg, m) ∷ log))) same
      (skip_on leg m log skips (often + sum_below (switches_on log) n) n (h n))

  -- ---- nothing of these stands below the channel that is written on

  record IsQuiet (log : List OnLeg) (n : ℕ) : Type 0 where
    acks : (k : ℕ) → AcksFrom Comes k (of_leg (ci n) log)
    counts : switches_on log n ≡ 0

  skip_quiet : (leg : Leg) (m : Message) (log : List OnLeg) (n : ℕ) → IsSkipped m
      → IsQuiet log n → IsQuiet ((leg, m) ∷ log) n
  skip_quiet leg m log n skips h = record {
    acks = λ k. skip_on leg m log skips k n (h.acks k);
    counts = skip_counts leg m log skips n ∙ h.counts;
  }

  -- on another leg
  apart_quiet : (leg : Leg) (m : Message) (log : List OnLeg) (w n : ℕ) → leg ≡ ci w → n < w
      → IsQuiet log n → IsQuiet ((leg, m) ∷ log) n
  apart_quiet leg m log w n is below h =
      subst (λ (l : Leg). IsQuiet ((l, m) ∷ log) n) (sym is) (by (w == n) refl)
    where
      On : Bool → Type 0
      On b =
          ((k : ℕ) → AcksFrom Comes k (if b then m ∷ of_leg (ci n) log else of_leg (ci n) log))
          × (count_of is_out_r1_a7 (if b then m ∷ of_leg (ci n) log else of_leg (ci n) log) ≡ 0)

      both : (b : Bool) → (w == n) ≡ b → On b
      both true e = absurd (grind (arith, nat_tests, e, below))
      both false e = (h.acks, h.counts)

      by : (b : Bool) → (w == n) ≡ b → IsQuiet ((ci w, m) ∷ log) n
      by b e =
          let on = subst On (sym e) (both b e) in record { acks = on.0; counts = on.1 }

  abbrev BelowQuiet : Turn → List OnLeg → Type 0
  BelowQuiet t log = (n : ℕ) → n < t.writing → IsQuiet log n

  below_quiet : (t : Turn) (log : List OnLeg) → StandFrom t log → BelowQuiet t log
  below_quiet t [] h n below = record { acks = λ k. tt; counts = refl }
  below_quiet t ((leg, Text bytes) ∷ log) h n below =
      skip_quiet leg (Text bytes) log n
      (record { over = λ k ms a. a; rest = λ k ms a. a; counts = λ ms. refl })
      (below_quiet t log h.1 n below)
  below_quiet t ((leg, Pdu pdu) ∷ log) h n below =
      skip_quiet leg (Pdu pdu) log n
      (record { over = λ k ms a. a; rest = λ k ms a. a; counts = λ ms. refl })
      (below_quiet t log h.1 n below)
  below_quiet t ((leg, Packet (OutR1A7 to successor)) ∷ log) h n below =
      apart_quiet leg (Packet (OutR1A7 to successor)) log t.writing n h.0 below
      (below_quiet t log h.1 n below)
  below_quiet t ((leg, Packet (AckTo to received available channel)) ∷ log) h n below =
      apart_quiet leg (Packet (AckTo to received available channel)) log t.writing n h.0 below
      (below_quiet t log h.1 n below)
  below_quiet t ((leg, Packet (InR1A5 successor)) ∷ log) h n below =
      skip_quiet leg (Packet (InR1A5 successor)) log n
      (record { over = λ k ms a. a; rest = λ k ms a. a; counts = λ ms. refl })
      (below_quiet (behind t (Packet (InR1A5 successor))) log h.1 n (omega (arith, below)))
  below_quiet t ((leg, Packet EndA1) ∷ log) h n below =
      skip_quiet leg (Packet EndA1) log n
      (record { over = λ k ms a. a; rest = λ k ms a. a; counts = λ ms. refl })
      (below_quiet (behind t (Packet EndA1)) log h.1 n below)
  below_quiet t ((leg, Packet m) ∷ log) h n below =
      skip_quiet leg (Packet m) log n
      (record { over = λ k ms a. a; rest = λ k ms a. a; counts = λ ms. refl })
      (below_quiet t log h.1 n below)

  -- ---- an acknowledgement, and OUT_R1/A7

  module _ (w : ℕ) (log : List OnLeg) (often : ℕ)
      (below : (n : ℕ) → n < w → IsQuiet log n) where
    sum_below_none : sum_below (switches_on log) w ≡ 0
    sum_below_none = sum_none (switches_on log) w (λ k l. (below k l).counts)

    ack_each : (to received available : ℕ) (channel : Cookie) → IsNear Comes often channel
        → Each often log
        → Each often ((ci w, Packet (AckTo to received available channel)) ∷ log)
    ack_each to received available channel near h n = by (w == n) refl
      where
        m : Message
        m = Packet (AckTo to received available channel)

        counts : (k : ℕ) → switches_on log k ≡ switches_on ((ci w, m) ∷ log) k
        counts k = at (w == k)
          where
            at : (b : Bool) → switches_on log k
                ≡ count_of is_out_r1_a7 (if b then m ∷ of_leg (ci k) log else of_leg (ci k) log)
            at true = refl
            at false = refl

        same : sum_below (switches_on log) n ≡ sum_below (switches_on ((ci w, m) ∷ log)) n
        same = sums_same (switches_on log) (switches_on ((ci w, m) ∷ log)) counts n

        On : Bool → Type 0
        On b = AcksFrom Comes (often + sum_below (switches_on log) n)
            (if b then m ∷ of_leg (ci n) log else of_leg (ci n) log)

        at : (b : Bool) → (w == n) ≡ b → On b
        at true e =
            let is : w ≡ n = grind (arith, nat_tests, e) in
            let none : sum_below (switches_on log) n ≡ 0 =
            subst (λ (k : ℕ). sum_below (switches_on log) k ≡ 0) is sum_below_none in
            let start : often ≡ often + sum_below (switches_on log) n = omega (arith, none) in
            (subst (λ (k : ℕ). IsNear Comes k channel) start near, h n)
        at false e = h n

        by : (b : Bool) → (w == n) ≡ b
            → AcksFrom Comes (often + sum_below (switches_on ((ci w, m) ∷ log)) n)
            (of_leg (ci n) ((ci w, m) ∷ log))
        by b e =
            subst (λ (s : ℕ). AcksFrom Comes (often + s) (of_leg (ci n) ((ci w, m) ∷ log))) same
            (subst On (sym e) (at b e))

    switch_each : (to : ℕ) (successor : Cookie) → Each (suc often) log
        → Each often ((ci w, Packet (OutR1A7 to successor)) ∷ log)
    switch_each to successor h n = by (w == n) refl
      where
        m : Message
        m = Packet (OutR1A7 to successor)

        counts : (k : ℕ) → switches_on ((ci w, m) ∷ log) k
            ≡ switches_on log k + (if w == k then 1 else 0)
        counts k = at (w == k)
          where
            at : (b : Bool)
                → count_of is_out_r1_a7 (if b then m ∷ of_leg (ci k) log else of_leg (ci k) log)
                ≡ switches_on log k + (if b then 1 else 0)
            at true = omega arith
            at false = omega arith

        sums : sum_below (switches_on ((ci w, m) ∷ log)) n
            ≡ sum_below (switches_on log) n + (if nat_lt w n then 1 else 0)
        sums = sum_more (switches_on log) (switches_on ((ci w, m) ∷ log)) w counts n

        start : ℕ
        start = often + sum_below (switches_on ((ci w, m) ∷ log)) n

        On : Bool → Type 0
        On b = AcksFrom Comes start (if b then m ∷ of_leg (ci n) log else of_leg (ci n) log)

        behind_it : (b : Bool) → nat_lt w n ≡ b → w ≢ n → AcksFrom Comes start (of_leg (ci n) log)
        behind_it true e apart =
            let is : suc often + sum_below (switches_on log) n ≡ start =
            grind (arith, nat_tests, sums, e) in
            subst (λ (k : ℕ). AcksFrom Comes k (of_leg (ci n) log)) is (h n)
        behind_it false e apart =
            let under : n < w = grind (arith, nat_tests, e, apart) in
            (below n under).acks start

        at : (b : Bool) → (w == n) ≡ b → On b
        at true e =
            let is : suc often + sum_below (switches_on log) n ≡ suc start =
            grind (arith, nat_tests, sums, e) in
            subst (λ (k : ℕ). AcksFrom Comes k (of_leg (ci n) log)) is (h n)
        at false e =
            behind_it (nat_lt w n) refl (λ (is : w ≡ n). grind (arith, nat_tests, e, is))

        by : (b : Bool) → (w == n) ≡ b
            → AcksFrom Comes start (of_leg (ci n) ((ci w, m) ∷ log))
        by b e = subst On (sym e) (at b e)

  -- ---- all of them

  pub on_each : (t : Turn) (often : ℕ) (log : List OnLeg) → StandFrom t log → Acks often log
      → Each often log
  on_each t often [] stand h = λ n. tt
  on_each t often ((leg, Text bytes) ∷ log) stand h =
      let skips : IsSkipped (Text bytes) =
      record { over = λ k ms a. a; rest = λ k ms a. a; counts = λ ms. refl } in
      skip_each leg (Text bytes) log skips often
      (on_each t often log stand.1 (skip_rest leg (Text bytes) log skips often h))
  on_each t often ((leg, Pdu pdu) ∷ log) stand h =
      let skips : IsSkipped (Pdu pdu) =
      record { over = λ k ms a. a; rest = λ k ms a. a; counts = λ ms. refl } in
      skip_each leg (Pdu pdu) log skips often
      (on_each t often log stand.1 (skip_rest leg (Pdu pdu) log skips often h))
  on_each t often ((leg, Packet (OutR1A7 to successor)) ∷ log) stand h =
      let m : Message = Packet (OutR1A7 to successor) in
      let here = subst (λ (l : Leg). Acks often ((l, m) ∷ log)) stand.0 h in
      subst (λ (l : Leg). Each often ((l, m) ∷ log)) (sym stand.0)
      (switch_each t.writing log often (below_quiet t log stand.1) to successor
      (on_each t (suc often) log stand.1 here))
  on_each t often ((leg, Packet (AckTo to received available channel)) ∷ log) stand h =
      let m : Message = Packet (AckTo to received available channel) in
      let here = subst (λ (l : Leg). Acks often ((l, m) ∷ log)) stand.0 h in
      subst (λ (l : Leg). Each often ((l, m) ∷ log)) (sym stand.0)
      (ack_each t.writing log often (below_quiet t log stand.1) to received available channel
      here.0 (on_each t often log stand.1 here.1))
  on_each t often ((leg, Packet (InR1A5 successor)) ∷ log) stand h =
      let m : Message = Packet (InR1A5 successor) in
      let skips : IsSkipped m =
      record { over = λ k ms a. a; rest = λ k ms a. a; counts = λ ms. refl } in
      skip_each leg m log skips often
      (on_each (behind t m) often log stand.1 (skip_rest leg m log skips often h))
  on_each t often ((leg, Packet EndA1) ∷ log) stand h =
      let m : Message = Packet EndA1 in
      let skips : IsSkipped m =
      record { over = λ k ms a. a; rest = λ k ms a. a; counts = λ ms. refl } in
      skip_each leg m log skips often
      (on_each (behind t m) often log stand.1 (skip_rest leg m log skips often h))
  on_each t often ((leg, Packet m) ∷ log) stand h =
      let skips : IsSkipped (Packet m) =
      record { over = λ k ms a. a; rest = λ k ms a. a; counts = λ ms. refl } in
      skip_each leg (Packet m) log skips often
      (on_each t often log stand.1 (skip_rest leg (Packet m) log skips often h))

-- from the first on
pub each_of_all : (Comes : Leg → Cookie → Type 0) (t : Turn) (log : List OnLeg) → StandFrom t log
    → AcksFrom Comes 0 (of_kind ClientIn log) → AcksOnEach Comes log
each_of_all Comes t log stand h n =
    subst (λ (k : ℕ). AcksFrom Comes k (of_leg (ci n) log)) (omega arith)
    (on_each Comes t 0 log stand h n)

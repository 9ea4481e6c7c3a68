-- an in proxy put OUT_R1/A8 for all OUT_R1/A7 on the channels that it reads, but one
use Rattle.law_order.proofs.Vocabulary.{◌≡◌, ℕ, suc, ◌+◌, ◌≤◌, ◌==◌, Bool, true, false, not, if◌then◌else◌, List, [], ◌∷◌, arith, refl, ap, ◌∙◌, nat_tests}
use Rattle.law_moves.proofs.Vocabulary.{Named, Leg, ClientIn, InServer, Due, Message, one_if, same_leg, OnLeg, of_leg, count_of, count_on}
use Rattle.law_moves.proofs.Lemmas.{by_in_proxies, all_legs, some_legs, sum_rises}
use Rattle.law_role_inproxy.proofs.Vocabulary.{is_leg}
use Rattle.law_role_client.proofs.Vocabulary.{ci, is_out_r1_a7}
use Rattle.law_role_server.proofs.Vocabulary.{is_out_r1_a8}
use Rattle.law_peers_room.proofs.InRoom.Keeping.{keep, keep_both, keep_leg, keep_on, total}
use Rattle.law_peers_room.specs.InRoom.Waiting.{WaitFrom, passed, switches}

-- no more were put than came
pub wait_low : (often : ℕ) (came : List OnLeg) (dues : List Due) → WaitFrom often came dues
    → often ≤ switches came
wait_low often came [] h = omega (arith, h)
wait_low often came (due ∷ dues) h =
    let rest = wait_low (often + one_if (is_out_r1_a8 due.packet)) came dues h.1 in
    omega (arith, rest)

-- what an end put and what came to the other, by proxies that read its channels
module _ (reader : ℕ → ℕ) (put came : List OnLeg) (in_came in_put : ℕ → List OnLeg)
    (ci_up : (j k : ℕ) → count_on is_out_r1_a7 ClientIn (in_came j) k
    ≤ (if reader k == j then count_on is_out_r1_a7 ClientIn put k else 0))
    (is_up : (k : ℕ) → count_on is_out_r1_a8 InServer came k
    ≤ count_on is_out_r1_a8 InServer (in_put k) k)
    (low : (k : ℕ) → passed k (in_put k) ≤ switches (in_came k))
    (round : total is_out_r1_a7 ClientIn put ≤ suc (total is_out_r1_a8 InServer came))
    (m : ℕ) where
  abbrev is_read : Leg → Bool
  is_read leg = reader leg.number == m

  abbrev is_its : Leg → Bool
  is_its leg = same_leg leg (is_leg m)

  -- what the client put on the channels that the in proxy reads
  abbrev pub read : List OnLeg
  read = keep is_read put

  abbrev unread : List OnLeg
  unread = keep (λ leg. not (is_read leg)) put

  abbrev elsewhere : List OnLeg
  elsewhere = keep (λ leg. not (is_its leg)) came

  -- of the other in proxies
  abbrev of_others : (ℕ → List OnLeg) → ℕ → List OnLeg
  of_others logs k = if k == m then [] else logs k

  by_if : (counts : Named → Bool) (b : Bool) (ms : List Message)
      → count_of counts (if b then ms else []) ≡ (if b then count_of counts ms else 0)
  by_if counts true ms = refl
  by_if counts false ms = refl

  last : (k : ℕ) → count_on is_out_r1_a8 InServer elsewhere k
      ≤ count_on is_out_r1_a8 InServer (of_others in_put k) k
  last k = by (k == m) refl
    where
      is : count_on is_out_r1_a8 InServer elsewhere k
          ≡ (if not (k == m) then count_on is_out_r1_a8 InServer came k else 0)
      is =
          ap (count_of is_out_r1_a8) (keep_on (λ leg. not (is_its leg)) (is_leg k) came)
          ∙ by_if is_out_r1_a8 (not (k == m)) (of_leg (is_leg k) came)

      by : (b : Bool) → (k == m) ≡ b → count_on is_out_r1_a8 InServer elsewhere k
          ≤ count_on is_out_r1_a8 InServer (if b then [] else in_put k) k
      by true e =
          let none : count_on is_out_r1_a8 InServer elsewhere k ≡ 0 =
          is ∙ ap (λ (c : Bool). if not c then count_on is_out_r1_a8 InServer came k else 0) e in
          omega (arith, none)
      by false e =
          let up = is_up k in
          let all : count_on is_out_r1_a8 InServer elsewhere k
          ≡ count_on is_out_r1_a8 InServer came k =
          is ∙ ap (λ (c : Bool). if not c then count_on is_out_r1_a8 InServer came k else 0) e in
          omega (arith, all, up)

  passes : (k : ℕ) → count_on is_out_r1_a8 InServer (of_others in_put k) k
      ≤ total is_out_r1_a7 ClientIn (of_others in_came k)
  passes k = by (k == m)
    where
      by : (b : Bool) → count_on is_out_r1_a8 InServer (if b then [] else in_put k) k
          ≤ total is_out_r1_a7 ClientIn (if b then [] else in_came k)
      by true = omega arith
      by false = low k

  first : (j k : ℕ) → count_on is_out_r1_a7 ClientIn (of_others in_came j) k
      ≤ (if reader k == j then count_on is_out_r1_a7 ClientIn unread k else 0)
  first j k = by (j == m) refl
    where
      is : count_on is_out_r1_a7 ClientIn unread k
          ≡ (if not (reader k == m) then count_on is_out_r1_a7 ClientIn put k else 0)
      is =
          ap (count_of is_out_r1_a7) (keep_on (λ leg. not (is_read leg)) (ci k) put)
          ∙ by_if is_out_r1_a7 (not (reader k == m)) (of_leg (ci k) put)

      here : ℕ
      here = count_on is_out_r1_a7 ClientIn put k

      at : (c : Bool) → (reader k == j) ≡ c → (d : Bool) → (reader k == m) ≡ d
          → (j == m) ≡ false
          → count_on is_out_r1_a7 ClientIn (in_came j) k
          ≤ (if reader k == j then count_on is_out_r1_a7 ClientIn put k else 0)
          → count_on is_out_r1_a7 ClientIn (in_came j) k
          ≤ (if reader k == j then count_on is_out_r1_a7 ClientIn unread k else 0)
      at true e true f g up = absurd (grind (arith, nat_tests, e, f, g))
      at true e false f g up =
          let same = is ∙ ap (λ (t : Bool). if not t then here else 0) f in
          let before = ap (λ (t : Bool). if t then here else 0) e in
          let after = ap (λ (t : Bool). if t
          then count_on is_out_r1_a7 ClientIn unread k else 0) e in
          omega (arith, same, before, after, up)
      at false e d f g up =
          let before = ap (λ (t : Bool). if t then here else 0) e in
          let after = ap (λ (t : Bool). if t
          then count_on is_out_r1_a7 ClientIn unread k else 0) e in
          omega (arith, before, after, up)

      by : (b : Bool) → (j == m) ≡ b
          → count_on is_out_r1_a7 ClientIn (if b then [] else in_came j) k
          ≤ (if reader k == j then count_on is_out_r1_a7 ClientIn unread k else 0)
      by true e = omega arith
      by false e =
          let up = ci_up j k in
          at (reader k == j) refl (reader k == m) refl e up

  others_pay : total is_out_r1_a8 InServer elsewhere ≤ total is_out_r1_a7 ClientIn unread
  others_pay =
      by_in_proxies is_out_r1_a7 is_out_r1_a8 elsewhere unread (of_others in_came)
      (of_others in_put) reader last passes first

  pub share : total is_out_r1_a7 ClientIn read ≤ suc (passed m (in_put m))
  share =
      let all = keep_both is_out_r1_a7 ClientIn is_read put in
      let some = keep_both is_out_r1_a8 InServer is_its came in
      let its = ap (count_of is_out_r1_a8) (keep_leg is_out_r1_a8 InServer m came) in
      let up = is_up m in
      let others = others_pay in
      omega (arith, all, some, its, up, others, round)

  -- ---- on each channel

  pub read_on : (k : ℕ) → count_on is_out_r1_a7 ClientIn read k
      ≡ (if reader k == m then count_on is_out_r1_a7 ClientIn put k else 0)
  read_on k =
      ap (count_of is_out_r1_a7) (keep_on is_read (ci k) put)
      ∙ by_if is_out_r1_a7 (reader k == m) (of_leg (ci k) put)

  pub came_on : (k : ℕ) → count_on is_out_r1_a7 ClientIn (in_came m) k
      ≤ count_on is_out_r1_a7 ClientIn read k
  came_on k =
      let is = read_on k in
      let up = ci_up m k in
      omega (arith, is, up)

  -- no more came than one more than was put
  pub came_most : switches (in_came m) ≤ suc (passed m (in_put m))
  came_most =
      let legs = all_legs is_out_r1_a7 ClientIn (in_came m) in
      let all = legs.all legs.bound (omega arith) in
      let each = sum_rises (count_on is_out_r1_a7 ClientIn (in_came m))
      (count_on is_out_r1_a7 ClientIn read) came_on legs.bound in
      let some = some_legs is_out_r1_a7 ClientIn read legs.bound in
      let most = share in
      omega (arith, all, each, some, most)

-- an OUT channel of a cookie began once at most, where no other leg has the cookie
use Rattle.law_order.proofs.Vocabulary.{◌≡◌, inl, inr, ℕ, suc, ◌+◌, ◌≤◌, Bool, true, false, if◌then◌else◌, List, [], ◌∷◌, arith, refl, sym, ap, subst, and_parts, bytes_eq, bytes_eq-Decides, nat_tests}
use Rattle.rh_sig.specs.declared.named.Named.TheVariants as named
use Rattle.law_moves.proofs.Vocabulary.{Cookie, Named, Leg, OutServer, Message, Text, Pdu, Packet, is_of, one_if, same_leg, OnLeg, HasOne, count_of, of_leg}
use Rattle.law_role_server.proofs.Vocabulary.{same_cookie, leg_at}
use Rattle.law_role_server_rows.specs.Refusing.Cookies.{IsOutChannel, OpensOut}
use Rattle.law_role_server_edges.proofs.Edges.{began, began_next}
use Rattle.law_role_server_edges.proofs.Knows.{on, opened}
use Rattle.law_role_server_edges.specs.Passing.{IsOnlyOn, begins_on, begins_out}

pub same_so : (a b : Cookie) → same_cookie a b ≡ true → a ≡ b
same_so a b e =
    ap (λ (bytes : List ℕ). record { 0 = bytes }) ((bytes_eq-Decides a.0 b.0).0 e)

own_leg : (leg : Leg) → is_of OutServer leg ≡ true
    → same_leg leg (leg_at OutServer leg.number) ≡ true
own_leg leg e = grind (arith, nat_tests, e)

module _ (cookie : Cookie) where
  -- ---- a packet that begins it

  opens_so : (m : Named) → begins_out cookie m ≡ true → OpensOut cookie m
  opens_so (named.ConnA2 version connection channel lifetime window) e = same_so channel cookie e
  opens_so (named.OutR1A4 version connection predecessor successor lifetime window timeout) e =
      same_so successor cookie e
  opens_so m e = absurd cc

  later : (b : Bool) (m : Message) (ms : List Message) → HasOne (OpensOut cookie) ms
      → HasOne (OpensOut cookie) (if b then m ∷ ms else ms)
  later false m ms h = h
  later true (Text bytes) ms h = h
  later true (Pdu pdu) ms h = h
  later true (Packet m) ms h = inr h

  -- on its own leg
  here : (one : OnLeg) (came : List OnLeg) → begins_on cookie one ≡ true
      → IsOutChannel one.0.number cookie (one ∷ came)
  here (leg, Text bytes) came e = absurd cc
  here (leg, Pdu pdu) came e = absurd cc
  here (leg, Packet m) came e =
      let parts = and_parts (is_of OutServer leg) (begins_out cookie m) e in
      subst (λ (b : Bool). HasOne (OpensOut cookie)
      (if b then Packet m ∷ of_leg (leg_at OutServer leg.number) came
      else of_leg (leg_at OutServer leg.number) came))
      (sym (own_leg leg parts.0)) (inl (opens_so m parts.1))

  -- ---- on one leg

  one_more : (m : Message) (ms : List Message)
      → count_of (begins_out cookie) ms ≤ count_of (begins_out cookie) (m ∷ ms)
  one_more (Text bytes) ms = omega arith
  one_more (Pdu pdu) ms = omega arith
  one_more (Packet m) ms = by (begins_out cookie m)
    where
      n : ℕ
      n = count_of (begins_out cookie) ms

      by : (b : Bool) → n ≤ (if b then suc n else n)
      by true = omega arith
      by false = omega arith

  counts : (one : OnLeg) (n : ℕ) (came : List OnLeg)
      → count_of (begins_out cookie) (on n came)
      ≤ count_of (begins_out cookie) (on n (one ∷ came))
  counts one n came = by (same_leg one.0 (leg_at OutServer n))
    where
      by : (b : Bool) → count_of (begins_out cookie) (on n came)
          ≤ count_of (begins_out cookie) (if b then one.1 ∷ on n came else on n came)
      by true = one_more one.1 (on n came)
      by false = omega arith

  counts_here : (one : OnLeg) (came : List OnLeg) → begins_on cookie one ≡ true
      → count_of (begins_out cookie) (on one.0.number came) + 1
      ≤ count_of (begins_out cookie) (on one.0.number (one ∷ came))
  counts_here (leg, Text bytes) came e = absurd cc
  counts_here (leg, Pdu pdu) came e = absurd cc
  counts_here (leg, Packet m) came e =
      let parts = and_parts (is_of OutServer leg) (begins_out cookie m) e in
      subst (λ (b : Bool). n + 1
      ≤ count_of (begins_out cookie) (if b then Packet m ∷ on leg.number came
      else on leg.number came))
      (sym (own_leg leg parts.0))
      (let is = ap {B = ℕ} (λ (b : Bool). if b then suc n else n) parts.1 in omega (arith, is))
    where
      n : ℕ
      n = count_of (begins_out cookie) (on leg.number came)

  -- where it began on no other leg
  only_here : (n : ℕ) (came : List OnLeg) → IsOnlyOn n cookie came
      → began cookie came ≤ count_of (begins_out cookie) (on n came)
  only_here n [] only = omega arith
  only_here n (one ∷ came) only =
      by (begins_on cookie one) refl
      (only_here n came
      (λ m has. only m
      (later (same_leg one.0 (leg_at OutServer m)) one.1 (of_leg (leg_at OutServer m) came) has)))
    where
      all : began cookie (one ∷ came) ≡ one_if (begins_on cookie one) + began cookie came
      all = began_next cookie one came

      by : (b : Bool) → begins_on cookie one ≡ b
          → began cookie came ≤ count_of (begins_out cookie) (on n came)
          → began cookie (one ∷ came) ≤ count_of (begins_out cookie) (on n (one ∷ came))
      by true e rest =
          let is = ap one_if e in
          let more = subst (λ (k : ℕ). count_of (begins_out cookie) (on k came) + 1
          ≤ count_of (begins_out cookie) (on k (one ∷ came)))
          (only one.0.number (here one came e)) (counts_here one came e) in
          omega (arith, all, is, rest, more)
      by false e rest =
          let is = ap one_if e in
          let more = counts one n came in omega (arith, all, is, rest, more)

  -- ---- of any cookie

  few_begin : (ms : List Message) → count_of (begins_out cookie) ms ≤ opened ms
  few_begin [] = omega arith
  few_begin (Text bytes ∷ ms) = few_begin ms
  few_begin (Pdu pdu ∷ ms) = few_begin ms
  few_begin (Packet m ∷ ms) = by m (few_begin ms)
    where
      n : ℕ
      n = count_of (begins_out cookie) ms

      one : (b : Bool) → (if b then suc n else n) ≤ n + 1
      one true = omega arith
      one false = omega arith

      by : (k : Named) → n ≤ opened ms
          → count_of (begins_out cookie) (Packet k ∷ ms) ≤ opened (Packet k ∷ ms)
      by (named.ConnA2 version connection channel lifetime window) rest =
          let most = one (same_cookie channel cookie) in omega (arith, rest, most)
      by (named.OutR1A4 version connection predecessor successor lifetime window timeout) rest =
          let most = one (same_cookie successor cookie) in omega (arith, rest, most)
      by k rest = rest

  pub began_once : (n : ℕ) (came : List OnLeg) → IsOnlyOn n cookie came
      → opened (on n came) ≤ 1 → began cookie came ≤ 1
  began_once n came only once =
      let here = only_here n came only in
      let few = few_begin (on n came) in omega (arith, here, few, once)

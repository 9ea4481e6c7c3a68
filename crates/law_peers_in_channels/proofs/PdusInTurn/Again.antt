-- where IN_R1/B2 goes on an is leg on which IN_R1/B1 is due, that goes next
use Rattle.law_order.proofs.Vocabulary.{◌≡◌, ℕ, zero, suc, ◌+◌, ◌==◌, ◌&&◌, cond, nat_lt, not, Bool, true, false, true≢false, List, [], ◌∷◌, length, Some, None, refl, sym, ap, ◌∙◌, slice_get, slice_set, position_or_len, Option}
use Rattle.rh_sig.specs.declared.named.Named.TheVariants as named
use Rattle.rh_server.specs.declared.state.Leaving.TheVariants as leaving
use Rattle.rh_server.specs.declared.state.Tells.TheVariants as tells
use Rattle.law_moves.proofs.Vocabulary.{by_test, after_tell, Current, Packet}
use Rattle.law_role_server.proofs.Vocabulary.{Told, InLeg, Leaving, Tells, Pick, or_else, put_ack, put_b1, put_b1_by, put_in, put_in_by, put_tells, put_tells_by, told_by, was_current, Server, in_at, in_leg, in_place, is_due, is_shut, set_at, with_in}

-- ---- a leg that changed is found by its number

module _ (n : ℕ) where
  abbrev test : InLeg → Bool
  test leg = leg.number == n

  one : (x y : InLeg) → Some x ≡ Some y → x ≡ y
  one x y e = cc

  same_place : (legs : List InLeg) (i : ℕ) (x z : InLeg) → slice_get legs i ≡ Some x
      → z.number ≡ x.number
      → position_or_len test (slice_set legs i z) ≡ position_or_len test legs
  same_place [] i x z at same = absurd cc
  same_place (y ∷ legs) zero x z at same =
      ap (λ (k : ℕ). cond (not (k == n)) (1 + position_or_len test legs) 0)
      (same ∙ ap (λ (leg : InLeg). leg.number) (sym (one y x at)))
  same_place (y ∷ legs) (suc i) x z at same =
      ap (λ (k : ℕ). cond (not (y.number == n)) (1 + k) 0) (same_place legs i x z at same)

  same_length : (legs : List InLeg) (i : ℕ) (z : InLeg)
      → length (slice_set legs i z) ≡ length legs
  same_length [] i z = refl
  same_length (y ∷ legs) zero z = refl
  same_length (y ∷ legs) (suc i) z = ap suc (same_length legs i z)

  set_there : (legs : List InLeg) (i : ℕ) (x z : InLeg) → slice_get legs i ≡ Some x
      → slice_get (slice_set legs i z) i ≡ Some z
  set_there [] i x z at = absurd cc
  set_there (y ∷ legs) zero x z at = refl
  set_there (y ∷ legs) (suc i) x z at = set_there legs i x z at

  pub found_set : (legs : List InLeg) (x z : InLeg) → in_leg n legs ≡ Some x
      → z.number ≡ x.number → in_leg n (set_at legs z (in_place n legs)) ≡ Some z
  found_set legs x z at same = by (in_place n legs) refl at
    where
      by : (o : Option ℕ) → in_place n legs ≡ o → in_at legs o ≡ Some x
          → in_leg n (set_at legs z o) ≡ Some z
      by None e there = absurd cc
      by (Some i) e there =
          ap (in_at (slice_set legs i z))
          (ap (λ (k : ℕ). cond (nat_lt k (length (slice_set legs i z))) (Some k) None)
          (same_place legs i x z there same)
          ∙ ap (λ (m : ℕ).
          cond (nat_lt (position_or_len test legs) m) (Some (position_or_len test legs)) None)
          (same_length legs i z)
          ∙ e)
          ∙ set_there legs i x z there

-- ---- what goes

module _ (s : Server) (n : ℕ) (leg : InLeg) (at : in_leg n s.ins ≡ Some leg)
    (number : leg.number ≡ n) (greeted : is_due leg.greeting ≡ false)
    (tell : leg.tells ≡ tells.InR1B2) (current : was_current s leg ≡ true)
    (left : leg.leaving ≡ leaving.InR1B1) where
  abbrev told_leg : InLeg
  told_leg = record leg { tells = tells.Nothing }

  abbrev told : Server
  told = told_by s leg.number

  abbrev pub behind : Server
  behind = with_in told told_leg

  told_keeps : (P : Server → Type 0) → P s
      → P (record s { line = after_tell s.line Current; edge = Told }) → P told
  told_keeps P h k =
      by_test P ((leg.number == s.current.leg) && is_shut s.edge)
      (record s { line = after_tell s.line Current; edge = Told }) s (λ e. k) (λ e. h)

  pub first_put : put_in s n ≡ Some (behind, Packet (named.InR1B2 s.line.size))
  first_put =
      ap (put_in_by s) at
      ∙ by_test (λ (pick : Pick). or_else pick (or_else (put_tells s leg) rest) ≡ goes)
      (is_due leg.greeting) _ None
      (λ e. absurd (true≢false (sym e ∙ greeted)))
      (λ e. ap (λ (t : Tells). or_else (put_tells_by s leg t) rest) tell
      ∙ by_test (λ (pick : Pick). or_else pick rest ≡ goes) (was_current s leg) goes None
      (λ f. refl) (λ f. absurd (true≢false (sym current ∙ f))))
    where
      rest : Pick
      rest = or_else (put_b1 s leg) (put_ack s leg)

      goes : Pick
      goes = Some (behind, Packet (named.InR1B2 s.line.size))

  pub kept : in_leg n behind.ins ≡ Some told_leg
  kept =
      ap (λ (k : ℕ). in_leg n (set_at told.ins told_leg (in_place k told.ins))) number
      ∙ ap (λ (legs : List InLeg). in_leg n (set_at legs told_leg (in_place n legs)))
      (told_keeps (λ (t : Server). t.ins ≡ s.ins) refl refl)
      ∙ found_set n s.ins leg told_leg at refl

  pub same_stage : behind.stage ≡ s.stage
  same_stage = told_keeps (λ (t : Server). t.stage ≡ s.stage) refl refl

  pub second_put : put_in behind n
      ≡ Some (with_in behind (record told_leg { leaving = leaving.Left }), Packet named.InR1B1)
  second_put =
      ap (put_in_by behind) kept
      ∙ by_test (λ (pick : Pick). or_else pick
      (or_else (put_b1 behind told_leg) (put_ack behind told_leg)) ≡ goes)
      (is_due leg.greeting) _ None
      (λ e. absurd (true≢false (sym e ∙ greeted)))
      (λ e. ap (λ (l : Leaving).
      or_else (put_b1_by behind told_leg l) (put_ack behind told_leg)) left)
    where
      goes : Pick
      goes = Some (with_in behind (record told_leg { leaving = leaving.Left }), Packet named.InR1B1)

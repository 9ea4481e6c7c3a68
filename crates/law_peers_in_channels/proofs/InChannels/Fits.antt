-- the channels that were announced are the first so many: at the beginning, and behind each message
-- that comes
use Rattle.law_order.proofs.Vocabulary.{◌≡◌, ◌⊎◌, ℕ, zero, suc, ◌+◌, ◌≤◌, Bool, true, false, inl, inr, refl, sym, ◌∙◌, subst, arith, cases_eq, nat_tests, nat_le}
use Rattle.law_moves.proofs.Vocabulary.{Named, Passage}
use Rattle.law_role_server.proofs.Vocabulary.{Server, is_conn_b2, is_in_r1_a2, is_in_r2_a2}
use Rattle.law_role_server_in.specs.Refusing.{came_at, first_at}
use Rattle.law_peers_in_channels.proofs.InChannels.More.{OneMore}
use Rattle.law_peers_in_channels.proofs.InChannels.Told.{AreTold}
use Rattle.law_peers_in_channels.specs.InChannels.{IsAnnouncedOn, channels}

pub record Fits (p : Passage Server) : Type 0 where
  pub each : (k : ℕ) → 1 ≤ k → k ≤ channels p → (m : ℕ) × IsAnnouncedOn p m k
  pub only : (m k : ℕ) → IsAnnouncedOn p m k → (1 ≤ k) × (k ≤ channels p)

-- by counts alone
carried : (p q : Passage Server) (m k : ℕ) → first_at p m ≤ first_at q m
    → came_at is_in_r2_a2 p m ≤ came_at is_in_r2_a2 q m → IsAnnouncedOn p m k
    → IsAnnouncedOn q m k
carried p q m k firsts nexts h =
    let began = h.began in
    let most = h.most in
    record {
      began = omega (arith, began, firsts);
      least = h.least;
      most = omega (arith, most, nexts);
    }

pub same_fit : (p q : Passage Server)
    → ((test : Named → Bool) (n : ℕ) → came_at test q n ≡ came_at test p n)
    → channels q ≡ channels p → Fits p → Fits q
same_fit p q same all fit = record {
  each = λ k least most.
      let on = fit.each k least (omega (arith, most, all)) in
      let a = same is_conn_b2 on.0 in
      let b = same is_in_r1_a2 on.0 in
      let c = same is_in_r2_a2 on.0 in
      (on.0, carried p q on.0 k (omega (arith, a, b)) (omega (arith, c)) on.1);
  only = λ m k on.
      let a = same is_conn_b2 m in
      let b = same is_in_r1_a2 m in
      let c = same is_in_r2_a2 m in
      let h = fit.only m k (carried q p m k (omega (arith, a, b)) (omega (arith, c)) on) in
      let most = h.1 in
      (h.0, omega (arith, most, all));
}

-- one that is not among them is beyond them
pub beyond_all : (p : Passage Server) → Fits p → (n k : ℕ) → 1 ≤ k
    → ((m : ℕ) → IsAnnouncedOn p m k → m ≡ n) → (IsAnnouncedOn p n k → ⊥)
    → suc (channels p) ≤ k
beyond_all p fit n k least read none = by (nat_le k (channels p)) refl
  where
    nowhere : (m : ℕ) → IsAnnouncedOn p m k → ⊥
    nowhere m on = none (subst (λ (l : ℕ). IsAnnouncedOn p l k) (read m on) on)

    by : (b : Bool) → nat_le k (channels p) ≡ b → suc (channels p) ≤ k
    by true e =
        let on = fit.each k least (grind (arith, nat_tests, e)) in absurd (nowhere on.0 on.1)
    by false e = grind (arith, nat_tests, e)

-- ---- one message more

module _ (p q : Passage Server) (more : OneMore p q) (reader_then reader : ℕ → ℕ)
    (asked_then asked : ℕ) (before : AreTold reader_then asked_then p)
    (behind : AreTold reader asked q) (fit : Fits p) where
  firsts_rise : (m : ℕ) → first_at p m ≤ first_at q m
  firsts_rise m = by (cases_eq m more.leg)
    where
      by : (m ≡ more.leg) ⊎ (m ≡ more.leg → ⊥) → first_at p m ≤ first_at q m
      by (inl is) =
          subst (λ (n : ℕ). first_at p n ≤ first_at q n) (sym is)
          (let a = more.on_leg is_conn_b2 in
          let b = more.on_leg is_in_r1_a2 in omega (arith, a, b))
      by (inr apart) =
          let a = more.elsewhere is_conn_b2 m apart in
          let b = more.elsewhere is_in_r1_a2 m apart in omega (arith, a, b)

  nexts_rise : (m : ℕ) → came_at is_in_r2_a2 p m ≤ came_at is_in_r2_a2 q m
  nexts_rise m = by (cases_eq m more.leg)
    where
      by : (m ≡ more.leg) ⊎ (m ≡ more.leg → ⊥)
          → came_at is_in_r2_a2 p m ≤ came_at is_in_r2_a2 q m
      by (inl is) =
          subst (λ (n : ℕ). came_at is_in_r2_a2 p n ≤ came_at is_in_r2_a2 q n) (sym is)
          (let a = more.on_leg is_in_r2_a2 in omega (arith, a))
      by (inr apart) = let a = more.elsewhere is_in_r2_a2 m apart in omega (arith, a)

  later : (m k : ℕ) → IsAnnouncedOn p m k → IsAnnouncedOn q m k
  later m k h = carried p q m k (firsts_rise m) (nexts_rise m) h

  abbrev told_more : ℕ
  told_more = more.more is_conn_b2 + more.more is_in_r1_a2 + more.more is_in_r2_a2

  channels_rise : channels q ≡ channels p + told_more
  channels_rise =
      let a = more.on_all is_conn_b2 in
      let b = more.on_all is_in_r1_a2 in
      let c = more.on_all is_in_r2_a2 in omega (arith, a, b, c)

  bounded : (m k : ℕ) → IsAnnouncedOn p m k → (1 ≤ k) × (k ≤ channels q)
  bounded m k on =
      let h = fit.only m k on in
      let most = h.1 in
      let rise = channels_rise in (h.0, omega (arith, most, rise))

  elsewhere : (m k : ℕ) → (m ≡ more.leg → ⊥) → IsAnnouncedOn q m k → IsAnnouncedOn p m k
  elsewhere m k apart on =
      let a = more.elsewhere is_conn_b2 m apart in
      let b = more.elsewhere is_in_r1_a2 m apart in
      let c = more.elsewhere is_in_r2_a2 m apart in
      carried q p m k (omega (arith, a, b)) (omega (arith, c)) on

  -- ---- it tells of no channel

  none_new : told_more ≡ 0 → Fits q
  none_new none = record {
    each = λ k least most.
        let rise = channels_rise in
        let on = fit.each k least (omega (arith, most, rise, none)) in (on.0, later on.0 k on.1);
    only = λ m k on. by m k on (cases_eq m more.leg);
  }
    where
      by : (m k : ℕ) → IsAnnouncedOn q m k → (m ≡ more.leg) ⊎ (m ≡ more.leg → ⊥)
          → (1 ≤ k) × (k ≤ channels q)
      by m k on (inl is) =
          let a = more.on_leg is_conn_b2 in
          let b = more.on_leg is_in_r1_a2 in
          let c = more.on_leg is_in_r2_a2 in
          bounded m k (carried q p m k
          (subst (λ (n : ℕ). first_at q n ≤ first_at p n) (sym is) (omega (arith, a, b, none)))
          (subst (λ (n : ℕ). came_at is_in_r2_a2 q n ≤ came_at is_in_r2_a2 p n) (sym is)
          (omega (arith, c, none)))
          on)
      by m k on (inr apart) = bounded m k (elsewhere m k apart on)

  -- ---- it tells of one

  abbrev new : ℕ
  new = more.leg + came_at is_in_r2_a2 q more.leg

  module _ (one : told_more ≡ 1) where
    -- where it begins a channel, none began there before
    none_before : more.more is_in_r2_a2 ≡ 0 → first_at p more.leg ≡ 0
    none_before later =
        let a = more.on_leg is_conn_b2 in
        let b = more.on_leg is_in_r1_a2 in
        let once = (behind.on more.leg).once in omega (arith, a, b, once, one, later)

    no_next_before : more.more is_in_r2_a2 ≡ 0 → came_at is_in_r2_a2 p more.leg ≡ 0
    no_next_before later =
        by (came_at is_in_r2_a2 p more.leg) refl (none_before later)
        (before.on more.leg).begins
      where
        by : (n : ℕ) → came_at is_in_r2_a2 p more.leg ≡ n → first_at p more.leg ≡ 0
            → (1 ≤ came_at is_in_r2_a2 p more.leg → 1 ≤ first_at p more.leg)
            → came_at is_in_r2_a2 p more.leg ≡ 0
        by zero e none begins = e
        by (suc n) e none begins =
            let some = begins (omega (arith, e)) in absurd (omega (arith, some, none))

    new_on : IsAnnouncedOn q more.leg new
    new_on = record {
      began = by (more.more is_in_r2_a2) refl;
      least = omega arith;
      most = omega arith;
    }
      where
        by : (n : ℕ) → more.more is_in_r2_a2 ≡ n → 1 ≤ first_at q more.leg
        by zero e =
            let a = more.on_leg is_conn_b2 in
            let b = more.on_leg is_in_r1_a2 in omega (arith, a, b, one, e)
        by (suc n) e =
            let c = more.on_leg is_in_r2_a2 in
            (behind.on more.leg).begins (omega (arith, c, e))

    not_before : IsAnnouncedOn p more.leg new → ⊥
    not_before on = by (more.more is_in_r2_a2) refl
      where
        by : (n : ℕ) → more.more is_in_r2_a2 ≡ n → ⊥
        by zero e =
            let none = none_before e in
            let began = on.began in omega (arith, none, began)
        by (suc n) e =
            let c = more.on_leg is_in_r2_a2 in
            let most = on.most in omega (arith, c, e, most)

    new_read : (reader new ≡ more.leg) × (1 ≤ new) × (new ≤ asked + 1)
    new_read = (behind.on more.leg).channel new new_on.began (omega arith) (omega arith)

    -- it is another than those before
    beyond : suc (channels p) ≤ new
    beyond =
        beyond_all p fit more.leg new new_read.1
        (λ m on.
        let then = later m new on in
        let read = (behind.on m).channel new then.began then.least then.most in
        sym read.0 ∙ new_read.0)
        not_before

    -- and the next one
    at_most : new ≤ channels q
    at_most = by (more.more is_conn_b2) refl
      where
        by : (n : ℕ) → more.more is_conn_b2 ≡ n → new ≤ channels q
        by zero e =
            let most = new_read.2 in
            let last = behind.one in
            let put = more.put in
            let answered = before.answered in
            let a = more.on_all is_in_r1_a2 in
            let b = more.on_all is_in_r2_a2 in
            let told = behind.told in
            let opened = behind.opened (omega (arith, told, a, b, one, e)) in
            omega (arith, most, last, put, answered, a, b, opened, one, e)
        by (suc n) e =
            let later : more.more is_in_r2_a2 ≡ 0 = omega (arith, one, e) in
            let on = more.on_leg is_conn_b2 in
            let all = more.on_all is_conn_b2 in
            let first = (behind.on more.leg).first (omega (arith, on, e)) in
            let none = no_next_before later in
            let c = more.on_leg is_in_r2_a2 in omega (arith, first, none, c, later, all, e)

    is_last : new ≡ channels q
    is_last =
        let rise = channels_rise in
        let least = beyond in
        let most = at_most in omega (arith, rise, one, least, most)

    one_new : Fits q
    one_new = record {
      each = λ k least most. each_by k least most (cases_eq k new);
      only = λ m k on. only_by m k on (cases_eq m more.leg);
    }
      where
        each_by : (k : ℕ) → 1 ≤ k → k ≤ channels q → (k ≡ new) ⊎ (k ≡ new → ⊥)
            → (m : ℕ) × IsAnnouncedOn q m k
        each_by k least most (inl is) =
            (more.leg, subst (IsAnnouncedOn q more.leg) (sym is) new_on)
        each_by k least most (inr apart) =
            let last = is_last in
            let rise = channels_rise in
            let on = fit.each k least (omega (arith, most, last, rise, one, apart)) in
            (on.0, later on.0 k on.1)

        only_by : (m k : ℕ) → IsAnnouncedOn q m k → (m ≡ more.leg) ⊎ (m ≡ more.leg → ⊥)
            → (1 ≤ k) × (k ≤ channels q)
        only_by m k on (inl is) =
            let read = (behind.on m).channel k on.began on.least on.most in
            let last = is_last in
            let most : k ≤ new = subst (λ (n : ℕ). k ≤ n + came_at is_in_r2_a2 q n) is on.most in
            (read.1, omega (arith, most, last))
        only_by m k on (inr apart) = bounded m k (elsewhere m k apart on)

  pub fits_behind : Fits q
  fits_behind = by told_more refl more.one
    where
      by : (n : ℕ) → told_more ≡ n → n ≤ 1 → Fits q
      by zero e most = none_new e
      by (suc zero) e most = one_new e
      by (suc (suc n)) e most = absurd (omega (arith, most))

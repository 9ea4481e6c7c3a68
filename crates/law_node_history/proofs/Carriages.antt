-- what happens in one direction of a leg keeps it carried
use Rattle.law_order.proofs.Vocabulary.{◌≡◌, ℕ, List, [], ◌∷◌, ◌++◌, Bool, true, false, refl, sym, ap, ◌∙◌, subst, ◌⊎◌, inl, inr, false≢true, true≢false, append-nil, IsPrefix, WireLaw, Draws, Feeds}
use Rattle.law_order.proofs.WireKeeps.{wire_step}
use Rattle.law_node_history.proofs.Vocabulary.{Carriage, IsCarried, IsDone, IsUnheard, wire_of}

-- not both
not_down : {A : Type 0} (is : Bool) → is ≡ true → is ≡ false → A
not_down is e f = absurd (true≢false (sym e ∙ f))

-- an end that is up is not done
up_goes_on : {A : Type 0} (was is : Bool) → is ≡ true → IsDone was is → A
up_goes_on was is e done = not_down is e done.1

nothing_left : (a b : List ℕ) → [] ≡ a ++ b → (a ≡ []) × (b ≡ [])
nothing_left [] b e = (refl, sym e)
nothing_left (x ∷ a) b e = absurd cc

module _ (c : Carriage) (k : IsCarried c) where
  -- bytes are drawn where the leg is up
  pub carry_drawn : (bytes : List ℕ) → c.puts ≡ true
      → IsCarried (record c { drawn = c.drawn ++ bytes; flight = c.flight ++ bytes })
  carry_drawn bytes up = record {
    lost = k.lost;
    wire = wire_step (wire_of c k.lost) (Draws bytes) k.wire tt;
    over = λ lost. by (k.over lost);
    put_up = k.put_up;
    take_up = k.take_up;
    unfed = k.unfed;
  }
    where
      by : IsUnheard c ⊎ IsDone c.did_take c.takes
          → IsUnheard (record c { drawn = c.drawn ++ bytes; flight = c.flight ++ bytes })
          ⊎ IsDone c.did_take c.takes
      by (inl done) = up_goes_on c.did_put c.puts up done.0
      by (inr done) = inr done

  -- bytes in flight are fed where the leg is up
  pub carry_fed : (bytes rest : List ℕ) → c.takes ≡ true → c.flight ≡ bytes ++ rest
      → IsCarried (record c { fed = c.fed ++ bytes; flight = rest })
  carry_fed bytes rest up is = by k.lost refl
    where
      -- the end that takes has the leg up
      heard : c.did_take ≡ false → (c.fed ++ bytes) ≡ []
      heard first = not_down c.did_take (k.take_up up) first

      old : k.lost ≡ true → IsUnheard c
      old lost = left (k.over lost)
        where
          left : IsUnheard c ⊎ IsDone c.did_take c.takes → IsUnheard c
          left (inl done) = done
          left (inr done) = up_goes_on c.did_take c.takes up done

      by : (lost : Bool) → k.lost ≡ lost
          → IsCarried (record c { fed = c.fed ++ bytes; flight = rest })
      by false e = record {
        lost = false;
        wire = wire_step (wire_of c false) (Feeds bytes rest)
            (subst (λ b. WireLaw (wire_of c b)) e k.wire) (refl, is);
        over = λ lost. absurd (false≢true lost);
        put_up = k.put_up;
        take_up = k.take_up;
        unfed = heard;
      }
      by true e =
          let done = old e in
          let none = nothing_left bytes rest (sym done.1 ∙ is) in
          let same : c.fed ++ bytes ≡ c.fed =
          ap (λ x. c.fed ++ x) none.0 ∙ append-nil c.fed in
          record {
            lost = true;
            wire = record {
              in_order = subst (λ x. IsPrefix x c.drawn) (sym same) k.wire.in_order;
              whole = λ f. absurd (true≢false f);
            };
            over = λ lost. inl (done.0, none.1, same ∙ done.2);
            put_up = k.put_up;
            take_up = k.take_up;
            unfed = heard;
          }

  -- the leg comes up for an end for the first time
  pub carry_up_put : c.did_put ≡ false → IsCarried (record c { puts = true; did_put = true })
  carry_up_put first = record {
    lost = k.lost;
    wire = k.wire;
    over = λ lost. by (k.over lost);
    put_up = λ e. refl;
    take_up = k.take_up;
    unfed = k.unfed;
  }
    where
      by : IsUnheard c ⊎ IsDone c.did_take c.takes
          → IsUnheard (record c { puts = true; did_put = true }) ⊎ IsDone c.did_take c.takes
      by (inl done) = not_down c.did_put done.0.0 first
      by (inr done) = inr done

  pub carry_up_take : c.did_take ≡ false → IsCarried (record c { takes = true; did_take = true })
  carry_up_take first = record {
    lost = k.lost;
    wire = k.wire;
    over = λ lost. by (k.over lost);
    put_up = k.put_up;
    take_up = λ e. refl;
    unfed = λ e. absurd (true≢false e);
  }
    where
      by : IsUnheard c ⊎ IsDone c.did_take c.takes → IsUnheard c ⊎ IsDone true true
      by (inl done) = inl done
      by (inr done) = not_down c.did_take done.0 first

  -- it goes down for one end, and is up for the other
  pub carry_down_put : c.puts ≡ true → IsCarried (record c { puts = false })
  carry_down_put up = record {
    lost = k.lost;
    wire = k.wire;
    over = λ lost. by (k.over lost);
    put_up = λ e. absurd (false≢true e);
    take_up = k.take_up;
    unfed = k.unfed;
  }
    where
      by : IsUnheard c ⊎ IsDone c.did_take c.takes
          → IsUnheard (record c { puts = false }) ⊎ IsDone c.did_take c.takes
      by (inl done) = up_goes_on c.did_put c.puts up done.0
      by (inr done) = inr done

  pub carry_down_take : c.takes ≡ true → IsCarried (record c { takes = false })
  carry_down_take up = record {
    lost = k.lost;
    wire = k.wire;
    over = λ lost. by (k.over lost);
    put_up = k.put_up;
    take_up = λ e. absurd (false≢true e);
    unfed = k.unfed;
  }
    where
      by : IsUnheard c ⊎ IsDone c.did_take c.takes → IsUnheard c ⊎ IsDone c.did_take false
      by (inl done) = inl done
      by (inr done) = up_goes_on c.did_take c.takes up done

  -- it is down for both then, and what is in flight is lost: where the end that takes did not have
  -- it up, before anything came there
  pub carry_lost : (c.puts ≡ true) ⊎ (c.takes ≡ true)
      → IsCarried (record c { puts = false; takes = false; flight = [] })
  carry_lost up = record {
    lost = true;
    wire = record { in_order = k.wire.in_order; whole = λ e. absurd (true≢false e) };
    over = λ lost. by up;
    put_up = λ e. absurd (false≢true e);
    take_up = λ e. absurd (false≢true e);
    unfed = k.unfed;
  }
    where
      by_put : (was : Bool) → c.did_take ≡ was → c.puts ≡ true
          → IsUnheard (record c { puts = false; takes = false; flight = [] })
          ⊎ IsDone c.did_take false
      by_put true is e = inr (is, refl)
      by_put false is e = inl ((k.put_up e, refl), refl, k.unfed is)

      by : (c.puts ≡ true) ⊎ (c.takes ≡ true)
          → IsUnheard (record c { puts = false; takes = false; flight = [] })
          ⊎ IsDone c.did_take false
      by (inl e) = by_put c.did_take refl e
      by (inr e) = inr (k.take_up e, refl)

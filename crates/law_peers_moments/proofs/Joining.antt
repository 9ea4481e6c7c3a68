-- what came at a node is of what was put at the other end of the leg, whichever in proxy it is
use Rattle.rh_text.specs.declared.ends.Side.TheVariants as side
use Rattle.law_order.proofs.Vocabulary.{◌≡◌, ◌⊎◌, ℕ, List, [], inl, inr, refl, sym, subst, cases_eq, IsPrefix}
use Rattle.rh_record.specs.declared.answer.Who.TheVariants as who
use Rattle.rh_nodes.specs.Settling.{leg_at}
use Rattle.law_moves.proofs.Vocabulary.{U, D, Side, Named, ClientOut, OutServer, ClientIn, InServer, Message, of_leg, all_read_of, HasOne}
use Rattle.law_peers_moments.specs.Moments.{AreJoined, Passages, end_of}

-- a front of all
pub nothing_front : (came all : List Message) → came ≡ [] → IsPrefix came all
nothing_front came all e =
    subst (λ (ms : List Message). IsPrefix ms all) (sym e) (all, refl)

module _ (reader : ℕ → ℕ) (all : Passages) (joined : AreJoined reader all) where
  elsewhere_in : (m n : ℕ) → (reader n ≡ m → ⊥) → (end : Side)
      → end_of reader (leg_at ClientIn n) end ≡ who.In m → ⊥
  elsewhere_in m n apart side.Client e = absurd cc
  elsewhere_in m n apart side.Server e = apart (let same = e in cc)

  -- of an IN leg of the client, whose reader it may be or not
  pub in_front : (m n : ℕ) → IsPrefix (of_leg (leg_at ClientIn n) (all.ins m).came)
      (all_read_of (of_leg (leg_at ClientIn n) all.client.put))
  in_front m n = by (cases_eq (reader n) m)
    where
      by : (reader n ≡ m) ⊎ (reader n ≡ m → ⊥)
          → IsPrefix (of_leg (leg_at ClientIn n) (all.ins m).came)
          (all_read_of (of_leg (leg_at ClientIn n) all.client.put))
      by (inl is) =
          subst (λ (k : ℕ). IsPrefix (of_leg (leg_at ClientIn n) (all.ins k).came)
          (all_read_of (of_leg (leg_at ClientIn n) all.client.put))) is
          (joined.front (leg_at ClientIn n) U)
      by (inr apart) =
          nothing_front (of_leg (leg_at ClientIn n) (all.ins m).came) _
          (joined.elsewhere (who.In m) (leg_at ClientIn n) (elsewhere_in m n apart))

  -- only at its reader a packet came
  pub in_reads : (P : Named → Type 0) (m n : ℕ)
      → HasOne P (of_leg (leg_at ClientIn n) (all.ins m).came) → reader n ≡ m
  in_reads P m n has = by (cases_eq (reader n) m)
    where
      by : (reader n ≡ m) ⊎ (reader n ≡ m → ⊥) → reader n ≡ m
      by (inl is) = is
      by (inr apart) =
          absurd (subst (HasOne P)
          (joined.elsewhere (who.In m) (leg_at ClientIn n) (elsewhere_in m n apart)) has)

  -- of the other legs
  pub is_front : (n : ℕ) → IsPrefix (of_leg (leg_at InServer n) all.server.came)
      (all_read_of (of_leg (leg_at InServer n) (all.ins n).put))
  is_front n = joined.front (leg_at InServer n) U

  pub is_back : (n : ℕ) → IsPrefix (of_leg (leg_at InServer n) (all.ins n).came)
      (all_read_of (of_leg (leg_at InServer n) all.server.put))
  is_back n = joined.front (leg_at InServer n) D

  pub os_front : (n : ℕ) → IsPrefix (of_leg (leg_at OutServer n) all.server.came)
      (all_read_of (of_leg (leg_at OutServer n) (all.outs n).put))
  os_front n = joined.front (leg_at OutServer n) U

  pub os_back : (n : ℕ) → IsPrefix (of_leg (leg_at OutServer n) (all.outs n).came)
      (all_read_of (of_leg (leg_at OutServer n) all.server.put))
  os_back n = joined.front (leg_at OutServer n) D

  pub co_front : (n : ℕ) → IsPrefix (of_leg (leg_at ClientOut n) (all.outs n).came)
      (all_read_of (of_leg (leg_at ClientOut n) all.client.put))
  co_front n = joined.front (leg_at ClientOut n) U

  pub co_back : (n : ℕ) → IsPrefix (of_leg (leg_at ClientOut n) all.client.came)
      (all_read_of (of_leg (leg_at ClientOut n) (all.outs n).put))
  co_back n = joined.front (leg_at ClientOut n) D

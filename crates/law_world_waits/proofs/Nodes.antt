-- at a world at rest no node puts anything on a leg that is up
use Rattle.law_order.proofs.Vocabulary.{◌≡◌, ℕ, zero, suc, ◌<◌, List, [], true, false, get_or, refl, sym, ◌∙◌, subst, arith}
use Rattle.rh_record.specs.declared.answer.Who.TheVariants as who
use Rattle.rh_company.specs.Company as company
use Rattle.rh_company.specs.Places as places
use Rattle.law_moves.proofs.Vocabulary.{U, D, Side, Client, Server, Leg, Rules}
use Rattle.law_node_history.proofs.Vocabulary.{Who, Place, Absent, Rulebook, Deeds, Makers, World, act, ask, at, is_up, most_bytes}
use Rattle.law_node_history.proofs.Numbers.{answered, asked}
use Rattle.law_world_ways.proofs.EndsInTime.Both.{up_for}
use Rattle.law_world_ways.specs.EndsInTime.Both.{AreUpAtBoth}
use Rattle.law_world_rest.proofs.Carrying.{drew_none}
use Rattle.law_world_rest.specs.Rest.{IsAtRest}
use Rattle.law_world_rest.specs.Steady.{AreSteady, PutsBytesThere}
use Rattle.law_world_waits.proofs.Drawn.{node_puts_none, place_puts_none}
use Rattle.law_world_waits.specs.Puts.{PutNothing, PutsNoneThere}

module _ {S : Type 0} (rules : Rules S) (leg : Leg) (list : List (Place S)) (k : ℕ) where
  list_puts_none : (n : ℕ) → PutsBytesThere rules (get_or list k Absent)
      → (act (places.draw rules leg (suc n)) [] list k).1 ≡ []
      → ask (places.finished rules leg) false list k ≡ false
      → PutsNoneThere rules (get_or list k Absent) leg
  list_puts_none n bytes none unfinished =
      place_puts_none rules leg n (get_or list k Absent) bytes
      (sym (answered Absent (places.draw rules leg (suc n)) [] refl list k) ∙ none)
      (sym (asked Absent (places.finished rules leg) list k) ∙ unfinished)

module _ {K C S I O : Type 0} (r : Rulebook C S I O) (m : Makers K I O) (d : Deeds C S)
    (w : World K C S I O) (both : AreUpAtBoth w) (steady : AreSteady r d w.company)
    (rest : IsAtRest r m d w) (leg : Leg) (up : is_up w leg ≡ true) where
  -- what is drawn at an end, and at its node; and whether that has finished the leg
  drawn_there : (end : Side) → (company.draw r w.company (at w leg end) leg most_bytes).1 ≡ []
  drawn_there Client =
      drew_none r d w both leg U (up_for w leg Client both up) (rest.carries leg U)
  drawn_there Server =
      drew_none r d w both leg D (up_for w leg Server both up) (rest.carries leg D)

  drew : (node : Who) (end : Side) → at w leg end ≡ node
      → (company.draw r w.company node leg most_bytes).1 ≡ []
  drew node end is =
      subst (λ (one : Who). (company.draw r w.company one leg most_bytes).1 ≡ []) is
      (drawn_there end)

  unfinished : (node : Who) (end : Side) → at w leg end ≡ node
      → company.finished r w.company node leg ≡ false
  unfinished node end is =
      subst (λ (one : Who). company.finished r w.company one leg ≡ false) is
      (rest.unfinished leg end up)

  by_room : (room : ℕ) → 0 < room
      → ((node : Who) (end : Side) → at w leg end ≡ node
      → (company.draw r w.company node leg room).1 ≡ [])
      → PutNothing r w leg
  by_room zero some none = absurd (omega (arith, some))
  by_room (suc n) some none = record {
    client = λ end is.
        node_puts_none r.client w.company.client leg steady.client n (none who.Client end is)
        (unfinished who.Client end is);
    server = λ end is.
        node_puts_none r.server w.company.server leg steady.server n (none who.Server end is)
        (unfinished who.Server end is);
    ins = λ k end is.
        list_puts_none r.in_proxy leg w.company.ins k n (steady.ins k) (none (who.In k) end is)
        (unfinished (who.In k) end is);
    outs = λ k end is.
        list_puts_none r.out_proxy leg w.company.outs k n (steady.outs k)
        (none (who.Out k) end is) (unfinished (who.Out k) end is);
  }

  pub put_nothing : PutNothing r w leg
  put_nothing = by_room most_bytes (omega arith) drew

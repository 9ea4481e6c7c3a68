-- what a leg carried, and what its end that takes heard of that
use Rattle.law_order.proofs.Vocabulary.{◌≡◌, ◌⊎◌, inl, inr, ℕ, Bool, true, false, List, [], ◌++◌, refl, sym, ap, ap₂, ◌∙◌, ◌&&◌, ◌||◌, not, AllByRecursion, Option, Item, seen}
use Rattle.rh_shell.specs.NearEnds.{is_empty}
use Rattle.law_moves.proofs.Vocabulary.{Dir, nil_front, Pipe, Leg, Rules, Message, Shell, ReadsBack, Begins, messages_read, read_of}
use Rattle.law_node_history.proofs.Vocabulary.{in_flight, receiver, sender, Company, Rulebook, Deeds, Makers, World, at, Carriage, IsCarried, IsDone, IsUnheard, AreCarried, carriage, drawn_by, ledger, wire_at, History}
use Rattle.law_world_ways.proofs.OnPaths.AtEnds.{Puts, Takes}
use Rattle.law_world_ways.proofs.OnPaths.Ends.{left_spells, read_stands}
use Rattle.law_world_ways.proofs.OnPaths.Legs.{AllRead, IsJoined, leg_arrives}
use Rattle.law_world_ways.specs.OnPaths.Legs.{is_cut, on_leg, was_told, was_up}
use Rattle.law_world_ways.specs.OnPaths.OnWay.{is_lost, items_on_way, left_on, read_on}

not_cut : (c : Carriage) → IsCarried c
    → (c.did_take && not c.takes)
    || ((c.did_put && not c.puts) && (is_empty c.flight && is_empty c.fed)) ≡ false
    → c.drawn ≡ c.fed ++ c.flight
not_cut c is uncut = by is.lost refl
  where
    taken : (was here rest : Bool) → IsDone was here → (was && not here) || rest ≡ false → ⊥
    taken true false rest done e = absurd (cc)
    taken true true rest done e = let bad = done.1 in absurd (cc)
    taken false here rest done e = let bad = done.0 in absurd (cc)

    put : (first was here : Bool) (flight fed : List ℕ)
        → IsDone was here × (flight ≡ []) × (fed ≡ [])
        → first || ((was && not here) && (is_empty flight && is_empty fed)) ≡ false → ⊥
    put true was here flight fed done e = absurd (cc)
    put false true false flight fed done e =
        absurd (let bad : (is_empty flight && is_empty fed) ≡ false = e in
        let good : (is_empty flight && is_empty fed) ≡ true =
        ap₂ (λ (a b : List ℕ). is_empty a && is_empty b) done.1 done.2 in cc)
    put false true true flight fed done e = let bad = done.0.1 in absurd (cc)
    put false false here flight fed done e = let bad = done.0.0 in absurd (cc)

    lost_by : IsUnheard c ⊎ IsDone c.did_take c.takes → ⊥
    lost_by (inl done) =
        put (c.did_take && not c.takes) c.did_put c.puts c.flight c.fed done uncut
    lost_by (inr done) =
        taken c.did_take c.takes
        ((c.did_put && not c.puts) && (is_empty c.flight && is_empty c.fed)) done uncut

    by : (lost : Bool) → is.lost ≡ lost → c.drawn ≡ c.fed ++ c.flight
    by false e = is.wire.whole e
    by true e = absurd (lost_by (is.over e))

module _ {K C S I O : Type 0} (r : Rulebook C S I O) (m : Makers K I O) (d : Deeds C S)
    (first : Company C S I O) (cast : K) (v : World K C S I O) (h : History)
    (carried : AreCarried (ledger r m d first cast h) v.legs v.readers) (leg : Leg) (dir : Dir)
  where
    abbrev pub fed_there : List ℕ
    fed_there = h.fed (at v leg (receiver dir)) leg

    pub fed_none : was_up v h leg (receiver dir) ≡ false → fed_there ≡ []
    fed_none e = (carried.idle (at v leg (receiver dir)) leg e).1

    -- what its two nodes did there is joined by its bytes
    module _ {P T : Type 0} (puts : Shell P) (rules : Rules T) (takes : Shell T)
        (pipe : Option Pipe) {put came : List Message} {drawn heard : List ℕ}
        (here : Puts puts leg (was_up v h leg (sender dir)) (was_told v h leg (sender dir)) put
        drawn)
        (there : Takes rules takes pipe leg (was_up v h leg (receiver dir)) came heard fed_there)
        (drew : drawn_by r m d first cast h (at v leg (sender dir)) leg ≡ drawn) where
      unheard : was_up v h leg (receiver dir) ≡ false → heard ≡ []
      unheard e = nil_front heard there.front.0 (there.front.1 ∙ fed_none e)

      joined : IsJoined pipe put came drawn heard (in_flight dir (wire_at v.legs leg))
          (is_cut v h leg dir) (read_on rules takes pipe leg (was_up v h leg (receiver dir)))
          (left_on puts leg (was_up v h leg (sender dir)) (was_told v h leg (sender dir)))
      joined = record {
        spells =
            left_spells puts leg (was_up v h leg (sender dir)) (was_told v h leg (sender dir)) put
            drawn here.spells here.all
            (λ e. (here.unput e, sym drew ∙ (carried.idle (at v leg (sender dir)) leg e).0));
        stands =
            read_stands takes leg (was_up v h leg (receiver dir)) rules pipe came heard there.reads
            (λ e. (
              nil_front came there.read.0
                  (there.read.1 ∙ ap (messages_read pipe) (unheard e)),
              unheard e,
            ));
        carried = λ x told uncut.
            sym drew
            ∙ not_cut (carriage (ledger r m d first cast h) v.legs v.readers leg dir)
            (carried.each leg dir) uncut
            ∙ ap (λ (b : List ℕ). b ++ in_flight dir (wire_at v.legs leg))
            (sym (there.all x told));
      }

      -- so what order sees of what was put came, or stands on it
      pub arrives : (law : AllRead) (put_view came_view : Message → List Item)
          → ((message : Message) → seen came_view (read_of message) ≡ put_view message)
          → Begins pipe put → AllByRecursion (ReadsBack pipe) put → (sent got : List Item)
          → sent ≡ seen put_view put → got ≡ seen came_view came
          → is_lost (on_leg v h leg dir pipe puts rules takes) ≡ false
          → sent ≡ got ++ items_on_way came_view (on_leg v h leg dir pipe puts rules takes)
      arrives law put_view came_view same begins back sent got all some kept =
          all
          ∙ leg_arrives law put_view came_view same pipe put came drawn heard
          (in_flight dir (wire_at v.legs leg)) (is_cut v h leg dir)
          (read_on rules takes pipe leg (was_up v h leg (receiver dir)))
          (left_on puts leg (was_up v h leg (sender dir)) (was_told v h leg (sender dir))) begins
          back joined kept
          ∙ ap (λ (items : List Item).
          items ++ items_on_way came_view (on_leg v h leg dir pipe puts rules takes)) (sym some)

-- an os leg's meter counts what is put there, and the successor takes the channel's place
use Rattle.law_order.proofs.Vocabulary.{◌≡◌, ℕ, suc, ◌+◌, ◌*◌, ◌≤◌, Bool, true, false, true≢false, List, Some, sym, ◌∙◌, subst, arith, IfSome, slice_get, slice_set, AllByRecursion}
use Rattle.law_moves.proofs.Vocabulary.{after_put, Cookie}
use Rattle.law_moves.proofs.Lemmas.{each_so}
use Rattle.law_role_server.proofs.Vocabulary.{OutLeg}
use Rattle.law_role_server.proofs.Each.{each_got}
use Rattle.law_peers_room.proofs.ServerRoom.Legs.{others_so, sorted_set}
use Rattle.law_peers_room.proofs.ServerRoom.Meters.{Seen, Phase, InTurn, IsRefused, HasRoom, IsBase, Base, IsTotal, IsNow, IsKept, Kept, Fine}

module _ (channel : Cookie) (least budget : ℕ) where
  abbrev counted : Seen → List OutLeg → Bool → ℕ → ℕ → Seen
  counted x legs there weight count =
      record x { legs = legs; there = there; weight = weight; count = count }

  module _ (x : Seen) (place : ℕ) (leg new : OutLeg) (len : ℕ)
      (at : slice_get x.legs place ≡ Some leg) (writes : leg.number ≡ x.writing)
      (number : new.number ≡ leg.number) (meter : new.meter ≡ after_put leg.meter len)
      (base : Base channel least budget x) where
    abbrev now : Bool → ℕ → ℕ → Seen
    now there weight count = counted x (slice_set x.legs place new) there weight count

    pub counted_base : (there : Bool) (weight count : ℕ)
        → Base channel least budget (now there weight count)
    counted_base there weight count = record {
      answered = base.answered;
      sorted = sorted_set x.legs place leg new at number base.sorted;
      legs = others_so (IsBase channel least budget x) (IsBase channel least budget
          (now there weight count)) x.legs place leg new at
          base.sorted (λ other apart is. record { number = is.number; next = is.next })
          (λ is. record {
            number = subst (λ (n : ℕ). n ≤ x.newest) (sym number) is.number;
            next = λ e f. absurd (omega (arith, number, writes, f));
          }) base.legs;
    }

    -- the new leg alone has the number
    one_now : (phase other_phase : Phase) (total other_total count : ℕ)
        → (IsNow channel least budget phase total x.count leg.meter
        → IsNow channel least budget other_phase other_total count (after_put leg.meter len))
        → AllByRecursion (IsKept channel least budget phase x total) x.legs
        → AllByRecursion (λ (other : OutLeg). other.number ≡ x.writing
        → IsNow channel least budget other_phase other_total count other.meter)
        (slice_set x.legs place new)
    one_now phase other_phase total other_total count so h =
        others_so (IsKept channel least budget phase x total)
        (λ (other : OutLeg). other.number ≡ x.writing
        → IsNow channel least budget other_phase other_total count other.meter) x.legs place leg
        new at
        base.sorted
        (λ other apart is e. absurd (apart (e ∙ sym writes)))
        (λ is e. subst (IsNow channel least budget other_phase other_total count) (sym meter) (so
        (is writes))) h

    abbrev Fits : ℕ → Type 0
    Fits bytes = (bytes ≤ len) × (leg.meter.count + len ≤ leg.meter.length)

    -- one of those before it goes
    pub before_kept : (put bytes : ℕ) (there : Bool) (weight count : ℕ) → Fits bytes → len ≤ 56
        → weight + bytes ≡ x.weight → suc count ≡ x.count → there ≡ true
        → Kept channel least budget x put
        → Kept channel least budget (now there weight count) (put + bytes)
    before_kept put bytes there weight count fits small less one is k = record {
      there = is;
      room = let room = k.room in omega (arith, room, one);
      phase = k.phase;
      total = by_total k.phase (subst (IsTotal channel least budget k.phase x) (sym same) k.total);
      now = one_now k.phase k.phase (put + x.weight) (put + bytes + weight) count
          (λ h. by_now k.phase (subst (λ
          (n : ℕ). IsNow channel least budget k.phase n x.count leg.meter)
          (sym same) h)) k.now;
    }
      where
        same : put + bytes + weight ≡ put + x.weight
        same = omega (arith, less)

        by_total : (phase : Phase) → IsTotal channel least budget phase x (put + bytes + weight)
            → IsTotal channel least budget phase (now there weight count) (put + bytes + weight)
        by_total InTurn h = h
        by_total IsRefused h = h
        by_total HasRoom h = h

        by_now : (phase : Phase)
            → IsNow channel least budget phase (put + bytes + weight) x.count leg.meter
            → IsNow channel least budget phase (put + bytes + weight) count
            (after_put leg.meter len)
        by_now InTurn h = tt
        by_now IsRefused h =
            let short = h.0 in
            let sum = h.2 in
            let in_it = fits.1 in
            (omega (arith, short), in_it, omega (arith, sum))
        by_now HasRoom h = omega (arith, h, one, small)

    -- one behind it goes, since the meter refused it
    pub refused_kept : (put bytes : ℕ) (there : Bool) (weight count : ℕ) → Fits bytes
        → weight ≡ x.weight → count ≤ x.count → x.begun ≡ true → leg.number ≤ x.newest
        → leg.meter.length ≤ leg.meter.count + 311 → there ≡ true → Kept channel least budget x put
        → Kept channel least budget (now there weight count) (put + bytes)
    refused_kept put bytes there weight count fits same fewer begun newest short is k =
        by k.phase k.total k.now
      where
        sum : put + bytes + weight ≡ put + x.weight + bytes
        sum = omega (arith, same)

        room : 56 * count + 312 ≤ least
        room = let room = k.room in omega (arith, room, fewer)

        up : x.writing ≤ x.newest
        up = omega (arith, writes, newest)

        -- the leg's meter is short of bytes
        is_now : put + x.weight + leg.meter.length ≤ budget + 311 + leg.meter.count
            → IsNow channel least budget IsRefused (put + bytes + weight) count
            (after_put leg.meter len)
        is_now so =
            let less = fits.0 in
            let in_it = fits.1 in
            (omega (arith, short), in_it, omega (arith, so, less, sum))

        is_total : put + x.weight + leg.meter.length ≤ budget + 311 + leg.meter.count
            → put + bytes + weight ≤ budget + 311
        is_total so =
            let less = fits.0 in
            let in_it = fits.1 in omega (arith, so, less, in_it, sum)

        got : (phase : Phase)
            → AllByRecursion (IsKept channel least budget phase x (put + x.weight)) x.legs
            → (IsNow channel least budget phase (put + x.weight) x.count leg.meter
            → put + x.weight + leg.meter.length ≤ budget + 311 + leg.meter.count)
            → put + x.weight + leg.meter.length ≤ budget + 311 + leg.meter.count
        got phase h so = so (found phase h)
          where
            found : (phase : Phase)
                → AllByRecursion (IsKept channel least budget phase x (put + x.weight)) x.legs
                → IsNow channel least budget phase (put + x.weight) x.count leg.meter
            found phase h =
                subst (λ o. IfSome o (IsKept channel least budget phase x (put + x.weight))) at
                (each_got (IsKept channel least budget phase x
                (put + x.weight)) x.legs place h) writes

        with_phase : (phase : Phase)
            → AllByRecursion (IsKept channel least budget phase x (put + x.weight)) x.legs
            → put + x.weight + leg.meter.length ≤ budget + 311 + leg.meter.count
            → Kept channel least budget (now there weight count) (put + bytes)
        with_phase phase h so = record {
          there = is;
          room = room;
          phase = IsRefused;
          total = (begun, up, is_total so);
          now = one_now phase IsRefused (put + x.weight) (put + bytes + weight) count
              (λ e. is_now so) h;
        }

        by : (phase : Phase) → IsTotal channel least budget phase x (put + x.weight)
            → AllByRecursion (IsKept channel least budget phase x (put + x.weight)) x.legs
            → Kept channel least budget (now there weight count) (put + bytes)
        by InTurn total h = with_phase InTurn h (omega (arith, total, short))
        by IsRefused total h = with_phase IsRefused h (got IsRefused h (λ now. now.2))
        by HasRoom total h =
            with_phase HasRoom h (got HasRoom h (λ now. absurd (omega (arith, now, short))))

  -- ---- OUT_R1/A9

  abbrev handed : Seen → Seen
  handed x = record x { writing = x.writing + 1; answered = false }

  pub handed_fine : (A : Type 0) (x : Seen) (put : ℕ) → x.answered ≡ true
      → Fine channel least budget A put x → Fine channel least budget A put (handed x)
  handed_fine A x put answered h = record {
    base = record {
      answered = λ e. absurd (true≢false (sym e));
      sorted = h.base.sorted;
      legs = each_so (IsBase channel least budget x) (IsBase channel least budget (handed x))
          (λ leg is. record {
            number = is.number;
            next = λ e f. absurd (true≢false (sym e));
          }) x.legs h.base.legs;
    };
    kept = λ a. let k = h.kept a in by k k.phase k.total;
  }
    where
      next : x.begun ≡ true
      next = (h.base.answered answered).0

      up : x.writing + 1 ≤ x.newest
      up = (h.base.answered answered).1

      whole : 56 * x.count + 312 ≤ least → (total : ℕ) (leg : OutLeg)
          → IsBase channel least budget x leg
          → leg.number ≡ x.writing + 1 → IsNow channel least budget HasRoom total x.count leg.meter
      whole room total leg is e =
          let both = is.next answered e in
          let none = both.0 in
          let long = both.1 in omega (arith, room, none, long)

      has_room : Kept channel least budget x put → put + x.weight ≤ budget + 311
          → Kept channel least budget (handed x) put
      has_room k total = record {
        there = k.there;
        room = k.room;
        phase = HasRoom;
        total = (next, up, total);
        now = each_so (IsBase channel least budget x) (IsKept channel least budget HasRoom
            (handed x) (put + x.weight))
            (whole k.room (put + x.weight)) x.legs h.base.legs;
      }

      by : Kept channel least budget x put → (phase : Phase)
          → IsTotal channel least budget phase x (put + x.weight)
          → Kept channel least budget (handed x) put
      by k InTurn total = record {
        there = k.there;
        room = k.room;
        phase = InTurn;
        total = total;
        now = each_so (IsBase channel least budget x) (IsKept channel least budget InTurn
            (handed x) (put + x.weight))
            (λ leg is e. tt) x.legs h.base.legs;
      }
      by k IsRefused total = has_room k total.2
      by k HasRoom total = has_room k total.2

-- an acknowledgement to the client that waits at a server: what goes before it, by the meters
use Rattle.law_order.proofs.Vocabulary.{◌≡◌, ℕ, ◌+◌, ◌*◌, ◌≤◌, Bool, true, false, List, [], ◌∷◌, ◌++◌, Some, refl, sym, ap, ◌∙◌, subst, arith, slice_get, slice_set, remove, AllByRecursion}
use Rattle.rh_server.specs.declared.state.Replacement.TheVariants as replacement
use Rattle.rh_server.specs.declared.state.Stage.TheVariants as stage
use Rattle.law_moves.proofs.Vocabulary.{Meter, Cookie}
use Rattle.law_moves.proofs.Lemmas.{all_append, each_so}
use Rattle.law_role_server.proofs.Vocabulary.{OutLeg, Replacement, Stage, Server}
use Rattle.law_role_server.proofs.Each.{each_removed}
use Rattle.law_peers_room.proofs.ServerRoom.Legs.{Sorted, others_so, sorted_pushed, sorted_removed, sorted_set}
use Rattle.law_peers_room.proofs.ServerRoom.Ahead as ahead

-- ---- what the facts are about

-- the server was open
abbrev pub is_begun : Stage → Bool
is_begun stage.Waits = false
is_begun (stage.OutCame connection) = false
is_begun (stage.InCame connection window timeout) = false
is_begun (stage.Open connection) = true
is_begun stage.Ended = true

-- the successor's channel began
abbrev pub is_answered : Replacement → Bool
is_answered replacement.Steady = false
is_answered replacement.Asked = false
is_answered (replacement.Answered successor) = true
is_answered replacement.Confirmed = true

pub record Seen : Type 0 where
  pub begun : Bool
  pub answered : Bool
  pub writing : ℕ
  pub newest : ℕ
  pub legs : List OutLeg
  -- whether it waits, and what waits before it
  pub there : Bool
  pub weight : ℕ
  pub count : ℕ

-- how far it has come: nothing went before it on a leg that refused it; the meter of the writing
-- channel refused it; or that of the next one has room for it and for all before it
pub data Phase : Type 0 where
  InTurn : Phase
  IsRefused : Phase
  HasRoom : Phase

module _ (channel : Cookie) (least budget : ℕ) where
  abbrev pub seen : Server → Seen
  seen s = record {
    begun = is_begun s.stage;
    answered = is_answered s.replacement;
    writing = s.writing;
    newest = s.newest_out;
    legs = s.outs;
    there = ahead.is_there channel s.waiting.due;
    weight = ahead.weight channel s.waiting.due;
    count = ahead.count channel s.waiting.due;
  }

  -- ---- what is known of the legs

  -- the next channel, once it began, has its whole lifetime
  pub record IsBase (x : Seen) (leg : OutLeg) : Type 0 where
    pub number : leg.number ≤ x.newest
    pub next : x.answered ≡ true → leg.number ≡ x.writing + 1
        → (leg.meter.count ≡ 0) × (least ≤ leg.meter.length)

  pub record Base (x : Seen) : Type 0 where
    pub answered : x.answered ≡ true → (x.begun ≡ true) × (x.writing + 1 ≤ x.newest)
    pub sorted : Sorted x.legs
    pub legs : AllByRecursion (IsBase x) x.legs

  -- ---- what went before it

  abbrev pub IsTotal : Phase → Seen → ℕ → Type 0
  IsTotal InTurn x total = total ≤ budget
  IsTotal IsRefused x total =
      (x.begun ≡ true) × (x.writing ≤ x.newest) × (total ≤ budget + 311)
  IsTotal HasRoom x total =
      (x.begun ≡ true) × (x.writing ≤ x.newest) × (total ≤ budget + 311)

  abbrev pub IsNow : Phase → ℕ → ℕ → Meter → Type 0
  IsNow InTurn total count meter = Unit {0}
  IsNow IsRefused total count meter =
      (meter.length ≤ meter.count + 311) × (meter.count ≤ meter.length)
      × (total + meter.length ≤ budget + 311 + meter.count)
  IsNow HasRoom total count meter = meter.count + 56 * count + 312 ≤ meter.length

  abbrev pub IsKept : Phase → Seen → ℕ → OutLeg → Type 0
  IsKept phase x total leg = leg.number ≡ x.writing → IsNow phase total x.count leg.meter

  pub record Kept (x : Seen) (put : ℕ) : Type 0 where
    pub there : x.there ≡ true
    pub room : 56 * x.count + 312 ≤ least
    pub phase : Phase
    pub total : IsTotal phase x (put + x.weight)
    pub now : AllByRecursion (IsKept phase x (put + x.weight)) x.legs

  pub record Fine (A : Type 0) (put : ℕ) (x : Seen) : Type 0 where
    pub base : Base x
    pub kept : A → Kept x put

  -- ---- other packets wait

  fewer_now : (phase : Phase) (total count fewer : ℕ) (meter : Meter) → fewer ≤ count
      → IsNow phase total count meter → IsNow phase total fewer meter
  fewer_now InTurn total count fewer meter le h = tt
  fewer_now IsRefused total count fewer meter le h = h
  fewer_now HasRoom total count fewer meter le h = omega (arith, le, h)

  same_total : (phase : Phase) (x y : Seen) (total : ℕ) → y.begun ≡ x.begun
      → y.writing ≡ x.writing → x.newest ≤ y.newest → IsTotal phase x total
      → IsTotal phase y total
  same_total InTurn x y total b w n h = h
  same_total IsRefused x y total b w n h =
      (b ∙ h.0, (let least = h.1 in omega (arith, w, n, least)), h.2)
  same_total HasRoom x y total b w n h =
      (b ∙ h.0, (let least = h.1 in omega (arith, w, n, least)), h.2)

  abbrev with_dues : Seen → Bool → ℕ → ℕ → Seen
  with_dues x there weight count =
      record x { there = there; weight = weight; count = count }

  pub dues_kept : (x : Seen) (put : ℕ) (there : Bool) (weight count : ℕ) → there ≡ true
      → weight ≡ x.weight → count ≤ x.count → Kept x put
      → Kept (with_dues x there weight count) put
  dues_kept x put there weight count is same le h =
      let total : put + weight ≡ put + x.weight = ap (λ (n : ℕ). put + n) same in
      record {
        there = is;
        room = let room = h.room in omega (arith, le, room);
        phase = h.phase;
        total = same_total h.phase x (with_dues x there weight count) (put + weight) refl refl
            (omega arith) (subst (IsTotal h.phase x) (sym total) h.total);
        now = each_so (IsKept h.phase x (put + x.weight))
            (IsKept h.phase (with_dues x there weight count) (put + weight))
            (λ leg now e. subst (λ (n : ℕ). IsNow h.phase n count leg.meter) (sym total)
            (fewer_now h.phase (put + x.weight) x.count count leg.meter le (now e))) x.legs h.now;
      }

  pub dues_base : (x : Seen) (there : Bool) (weight count : ℕ) → Base x
      → Base (with_dues x there weight count)
  dues_base x there weight count h = record {
    answered = h.answered;
    sorted = h.sorted;
    legs = each_so (IsBase x) (IsBase (with_dues x there weight count))
        (λ leg is. record { number = is.number; next = is.next }) x.legs h.legs;
  }

  pub dues_fine : (A : Type 0) (x : Seen) (put : ℕ) (there : Bool) (weight count : ℕ)
      → (x.there ≡ true → (there ≡ true) × (weight ≡ x.weight) × (count ≤ x.count))
      → Fine A put x → Fine A put (with_dues x there weight count)
  dues_fine A x put there weight count so h = record {
    base = dues_base x there weight count h.base;
    kept = λ a. let k = h.kept a in
        let all = so k.there in
        dues_kept x put there weight count all.0 all.1 all.2 k;
  }

  -- ---- how far the server and the replacement are

  abbrev with_stage : Seen → Bool → Bool → Seen
  with_stage x begun answered = record x { begun = begun; answered = answered }

  -- it is open, or the successor's channel has not begun
  pub stage_fine : (A : Type 0) (x : Seen) (put : ℕ) (begun answered : Bool)
      → (x.begun ≡ true → begun ≡ true) → (answered ≡ true → x.answered ≡ true)
      → Fine A put x → Fine A put (with_stage x begun answered)
  stage_fine A x put begun answered opens less h = record {
    base = record {
      answered = λ e. let both = h.base.answered (less e) in (opens both.0, both.1);
      sorted = h.base.sorted;
      legs = each_so (IsBase x) (IsBase (with_stage x begun answered))
          (λ leg is. record { number = is.number; next = λ e. is.next (less e) }) x.legs
          h.base.legs;
    };
    kept = λ a. let k = h.kept a in record {
      there = k.there;
      room = k.room;
      phase = k.phase;
      total = by k.phase k.total;
      now = k.now;
    };
  }
    where
      by : (phase : Phase) → IsTotal phase x (put + x.weight)
          → IsTotal phase (with_stage x begun answered) (put + x.weight)
      by InTurn h = h
      by IsRefused h = (opens h.0, h.1, h.2)
      by HasRoom h = (opens h.0, h.1, h.2)

  -- ---- legs

  abbrev with_legs : Seen → List OutLeg → Seen
  with_legs x legs = record x { legs = legs }

  -- a leg that has its number and its meter
  pub leg_fine : (A : Type 0) (x : Seen) (put place : ℕ) (leg new : OutLeg)
      → slice_get x.legs place ≡ Some leg → new.number ≡ leg.number → new.meter ≡ leg.meter
      → Fine A put x → Fine A put (with_legs x (slice_set x.legs place new))
  leg_fine A x put place leg new at number meter h = record {
    base = record {
      answered = h.base.answered;
      sorted = sorted_set x.legs place leg new at number h.base.sorted;
      legs = others_so (IsBase x) (IsBase (with_legs x (slice_set x.legs place new))) x.legs place
          leg new at h.base.sorted
          (λ other apart is. record { number = is.number; next = is.next })
          (λ is. record {
            number = subst (λ (n : ℕ). n ≤ x.newest) (sym number) is.number;
            next = λ e f. subst (λ (m : Meter). (m.count ≡ 0) × (least ≤ m.length)) (sym meter)
                (is.next e (sym number ∙ f));
          }) h.base.legs;
    };
    kept = λ a. let k = h.kept a in record {
      there = k.there;
      room = k.room;
      phase = k.phase;
      total = same_total k.phase x (with_legs x (slice_set x.legs place new)) (put + x.weight)
          refl refl (omega arith) k.total;
      now = others_so (IsKept k.phase x (put + x.weight)) (IsKept k.phase x (put + x.weight))
          x.legs place leg new at h.base.sorted (λ other apart is. is)
          (λ is e. subst (IsNow k.phase (put + x.weight) x.count) (sym meter)
          (is (sym number ∙ e))) k.now;
    };
  }

  pub removed_fine : (A : Type 0) (x : Seen) (put place : ℕ) → Fine A put x
      → Fine A put (with_legs x (remove x.legs place))
  removed_fine A x put place h = record {
    base = record {
      answered = h.base.answered;
      sorted = sorted_removed x.legs place h.base.sorted;
      legs = each_removed (IsBase (with_legs x (remove x.legs place))) x.legs place
          (each_so (IsBase x) (IsBase (with_legs x (remove x.legs place)))
          (λ leg is. record { number = is.number; next = is.next }) x.legs h.base.legs);
    };
    kept = λ a. let k = h.kept a in record {
      there = k.there;
      room = k.room;
      phase = k.phase;
      total = same_total k.phase x (with_legs x (remove x.legs place)) (put + x.weight)
          refl refl (omega arith) k.total;
      now = each_removed (IsKept k.phase x (put + x.weight)) x.legs place k.now;
    };
  }

  -- the newest one came up
  abbrev with_new : Seen → OutLeg → Seen
  with_new x new = record x { newest = new.number; legs = x.legs ++ new ∷ [] }

  pub new_fine : (A : Type 0) (x : Seen) (put : ℕ) (new : OutLeg) → new.number ≡ x.newest + 1
      → Fine A put x → Fine A put (with_new x new)
  new_fine A x put new is h = record {
    base = record {
      answered = λ e. let both = h.base.answered e in
          (both.0, (let least = both.1 in omega (arith, least, is)));
      sorted = sorted_pushed x.newest x.legs new (omega (arith, is))
          (each_so (IsBase x) (λ (leg : OutLeg). leg.number ≤ x.newest)
          (λ leg h. h.number) x.legs h.base.legs) h.base.sorted;
      legs = all_append (IsBase (with_new x new)) x.legs (new ∷ [])
          (each_so (IsBase x) (IsBase (with_new x new))
          (λ leg is_base. record {
            number = let least = is_base.number in omega (arith, least, is);
            next = is_base.next;
          }) x.legs h.base.legs) (
            record {
              number = omega arith;
              next = λ e f. absurd (let least = (h.base.answered e).1 in
                  omega (arith, least, is, f));
            },
            tt,
          );
    };
    kept = λ a. let k = h.kept a in record {
      there = k.there;
      room = k.room;
      phase = k.phase;
      total = same_total k.phase x (with_new x new) (put + x.weight) refl refl
          (omega (arith, is)) k.total;
      now = all_append (IsKept k.phase x (put + x.weight)) x.legs (new ∷ []) k.now
          (by k.phase k.total, tt);
    };
  }
    where
      by : (phase : Phase) → IsTotal phase x (put + x.weight)
          → IsKept phase x (put + x.weight) new
      by InTurn h e = tt
      by IsRefused h e = absurd (let least = h.1 in omega (arith, least, is, e))
      by HasRoom h e = absurd (let least = h.1 in omega (arith, least, is, e))

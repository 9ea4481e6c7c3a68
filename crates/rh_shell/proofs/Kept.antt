-- the rooms are never passed, and each packet may be written
use Rattle.std.proofs.Common.{◌≡◌, ℕ, ◌+◌, ◌<◌, ◌≤◌, List, [], ◌∷◌, ◌++◌, length, get_or, cond, nat_lt, nat_le, Bool, true, false, Some, None, sym, ap, ◌∙◌, refl, arith}
use Rattle.std.specs.Prelude.{slice_set, position, count_by, All}
use Rattle.std.proofs.lemmas.Bool.Decides.{nat_tests}
use Rattle.std.proofs.lemmas.List.Sums.{sum_by-cons, sum_by_push}
use Rattle.std.proofs.lemmas.List.Elements.{All-push, All-cons, All-head, All-tail}
use Rattle.rh_sig.specs.declared.named.Named.{Named}
use Rattle.rh_sig.specs.Values.{MayBeWritten}
use Rattle.rh_shell.specs.declared.due.Due.{Due}
use Rattle.rh_shell.specs.declared.due.Origin.{Origin}
use Rattle.rh_shell.specs.declared.due.Origin.TheVariants.{Own, Forwarded}
use Rattle.rh_shell.specs.declared.waiting.TheConstants.{OWN_ROOM}
use Rattle.rh_shell.specs.Waiting.{Waiting, are_same, is_of, count, own, to_forward, takes, edge_of, better, merged, without_first, with_due, room_of, pushed, forwarded, IsKept}
use Rattle.rh_shell.proofs.Passed.{merged_at, any_at, any_none}

abbrev pub one_if : Origin → Due → ℕ
one_if origin due = cond (is_of origin due) 1 0

each : (due : Due) → one_if Own due + one_if Forwarded due ≡ 1
each due = by due.origin
  where
    by : (origin : Origin)
        → one_if Own (record { packet = due.packet; origin = origin })
        + one_if Forwarded (record { packet = due.packet; origin = origin }) ≡ 1
    by Own = refl
    by Forwarded = refl

-- each is the role's own or to be forwarded
pub counted : (dues : List Due) → count Own dues + count Forwarded dues ≡ length dues
counted [] = refl
counted (due ∷ dues) =
    omega (
      arith,
      sum_by-cons (one_if Own) due dues,
      sum_by-cons (one_if Forwarded) due dues,
      each due,
      counted dues,
    )

-- there is memory for a packet wherever a room isn't full
pub fits : (w : Waiting) (origin : Origin) (capacity : ℕ) → IsKept w.room w.due
    → w.room + OWN_ROOM ≤ capacity → count origin w.due < room_of origin w
    → length w.due < capacity
fits w Own capacity kept large less = omega (arith, counted w.due, kept.forwarded, large, less)
fits w Forwarded capacity kept large less = omega (arith, counted w.due, kept.own, large, less)

pub kept_pushed : (w : Waiting) (packet : Named) (origin : Origin) → IsKept w.room w.due
    → MayBeWritten packet → count origin w.due < room_of origin w
    → IsKept w.room (w.due ++ record { packet = packet; origin = origin } ∷ [])
kept_pushed w packet Own kept writes less = record {
  forwarded = omega (arith, kept.forwarded, sum_by_push (one_if Forwarded) w.due (own packet));
  own = omega (arith, less, sum_by_push (one_if Own) w.due (own packet));
  writable = All-push (λ due. MayBeWritten due.packet) w.due (own packet) kept.writable writes;
}
kept_pushed w packet Forwarded kept writes less = record {
  forwarded = omega (arith, less, sum_by_push (one_if Forwarded) w.due (to_forward packet));
  own = omega (arith, kept.own, sum_by_push (one_if Own) w.due (to_forward packet));
  writable =
      All-push (λ due. MayBeWritten due.packet) w.due (to_forward packet) kept.writable writes;
}

pub better_origin : (older : Due) (packet : Named) → (better older packet).origin ≡ older.origin
better_origin older packet = by (nat_lt (edge_of packet) (edge_of older.packet))
  where
    by : (b : Bool)
        → (cond b older (record { packet = packet; origin = older.origin })).origin ≡ older.origin
    by true = refl
    by false = refl

better_writable : (older : Due) (packet : Named) → MayBeWritten older.packet → MayBeWritten packet
    → MayBeWritten (better older packet).packet
better_writable older packet was is = by (nat_lt (edge_of packet) (edge_of older.packet))
  where
    by : (b : Bool)
        → MayBeWritten (cond b older (record { packet = packet; origin = older.origin })).packet
    by true = was
    by false = is

-- ---- merging

-- what a test says of a packet stays where another is merged with it
pub same_count : (test : Due → Bool) (packet : Named)
    → ((due : Due) → takes packet due ≡ true → test (better due packet) ≡ test due)
    → (dues : List Due) → count_by test (merged dues packet) ≡ count_by test dues
same_count test packet same [] = refl
same_count test packet same (due ∷ dues) =
    by (takes packet due) (same due) (same_count test packet same dues)
  where
    one : Due → ℕ
    one d = cond (test d) 1 0

    by : (b : Bool) → (b ≡ true → test (better due packet) ≡ test due)
        → count_by test (merged dues packet) ≡ count_by test dues
        → count_by test (cond b (better due packet ∷ dues) (due ∷ merged dues packet))
        ≡ count_by test (due ∷ dues)
    by true here rest =
        sum_by-cons one (better due packet) dues
        ∙ ap (λ t. cond t 1 0 + count_by test dues) (here refl)
        ∙ sym (sum_by-cons one due dues)
    by false here rest =
        sum_by-cons one due (merged dues packet)
        ∙ ap (λ n. one due + n) rest
        ∙ sym (sum_by-cons one due dues)

all_merged : (packet : Named) → MayBeWritten packet → (dues : List Due)
    → All (λ due. MayBeWritten due.packet) dues
    → All (λ due. MayBeWritten due.packet) (merged dues packet)
all_merged packet is [] all = all
all_merged packet is (due ∷ dues) all =
    by (takes packet due) (all_merged packet is dues (All-tail Writes due dues all))
  where
    Writes : Due → Type 0
    Writes d = MayBeWritten d.packet

    by : (b : Bool) → All Writes (merged dues packet)
        → All Writes (cond b (better due packet ∷ dues) (due ∷ merged dues packet))
    by true rest =
        All-cons Writes (better due packet) dues
        (better_writable due packet (All-head Writes due dues all) is)
        (All-tail Writes due dues all)
    by false rest = All-cons Writes due (merged dues packet) (All-head Writes due dues all) rest

pub kept_merged : (room : ℕ) (dues : List Due) (packet : Named) → IsKept room dues
    → MayBeWritten packet → IsKept room (merged dues packet)
kept_merged room dues packet kept writes = record {
  forwarded = omega (arith, kept.forwarded, of Forwarded);
  own = omega (arith, kept.own, of Own);
  writable = all_merged packet writes dues kept.writable;
}
  where
    of : (origin : Origin) → count origin (merged dues packet) ≡ count origin dues
    of origin =
        same_count (is_of origin) packet
        (λ due h. ap (λ (o : Origin). are_same o origin) (better_origin due packet)) dues

-- ---- going

pub fewer : (test may_go : Due → Bool) (dues : List Due)
    → count_by test (without_first may_go dues) ≤ count_by test dues
fewer test may_go [] = omega arith
fewer test may_go (due ∷ dues) = by (may_go due) (fewer test may_go dues)
  where
    one : Due → ℕ
    one d = cond (test d) 1 0

    by : (b : Bool) → count_by test (without_first may_go dues) ≤ count_by test dues
        → count_by test (cond b dues (due ∷ without_first may_go dues)) ≤ count_by test (due ∷ dues)
    by true rest = omega (arith, sum_by-cons one due dues)
    by false rest =
        omega (
          arith,
          rest,
          sum_by-cons one due dues,
          sum_by-cons one due (without_first may_go dues),
        )

all_without : (may_go : Due → Bool) (dues : List Due) → All (λ due. MayBeWritten due.packet) dues
    → All (λ due. MayBeWritten due.packet) (without_first may_go dues)
all_without may_go [] all = all
all_without may_go (due ∷ dues) all =
    by (may_go due) (all_without may_go dues (All-tail Writes due dues all))
  where
    Writes : Due → Type 0
    Writes d = MayBeWritten d.packet

    by : (b : Bool) → All Writes (without_first may_go dues)
        → All Writes (cond b dues (due ∷ without_first may_go dues))
    by true rest = All-tail Writes due dues all
    by false rest =
        All-cons Writes due (without_first may_go dues) (All-head Writes due dues all) rest

pub kept_without : (room : ℕ) (dues : List Due) (may_go : Due → Bool) → IsKept room dues
    → IsKept room (without_first may_go dues)
kept_without room dues may_go kept = record {
  forwarded = omega (arith, kept.forwarded, fewer (is_of Forwarded) may_go dues);
  own = omega (arith, kept.own, fewer (is_of Own) may_go dues);
  writable = all_without may_go dues kept.writable;
}

-- ---- forwarding

pub forward_merged : (w : Waiting) (packet : Named) (i : ℕ) (due : Due)
    → position (takes packet) w.due ≡ Some i → due ≡ get_or w.due i due
    → (with_due w (slice_set w.due i (better due packet)), true) ≡ forwarded w packet
forward_merged w packet i due is at =
    ap (λ (d : Due). (with_due w (slice_set w.due i (better d packet)), true)) at
    ∙ ap (λ (dues : List Due). (with_due w dues, true)) (merged_at packet w.due i due is)
    ∙ rw (sym (any_at (takes packet) w.due i due is)) refl

pub forward_full : (w : Waiting) (packet : Named) → position (takes packet) w.due ≡ None
    → nat_le w.room (count Forwarded w.due) ≡ true → (w, false) ≡ forwarded w packet
forward_full w packet is full =
    let test : nat_lt (count Forwarded w.due) w.room ≡ false = grind (arith, nat_tests, full) in
    rw (sym (any_none (takes packet) w.due is), test) refl

pub forward_more : (w : Waiting) (packet : Named) → position (takes packet) w.due ≡ None
    → nat_le w.room (count Forwarded w.due) ≡ false
    → (pushed w (to_forward packet), true) ≡ forwarded w packet
forward_more w packet is room =
    let test : nat_lt (count Forwarded w.due) w.room ≡ true = grind (arith, nat_tests, room) in
    rw (sym (any_none (takes packet) w.due is), test) refl

-- what a reader did, call by call
use Rattle.std.proofs.Common.{◌≡◌, ℕ, ◌+◌, ◌≤◌, ◌<◌, true, false, List, [], ◌∷◌, ◌++◌, length, arith, ◌∙◌, sym, ap, refl, subst, take}
use Rattle.std.specs.Prelude.{if◌then◌else◌}
use Rattle.std.proofs.lemmas.List.{length-append}
use Rattle.std.proofs.KnownBytes.{Appends-nil, Appends-trans, Appends-kept}
use Rattle.std.specs.declared.option.Option.{Option}
use Rattle.std.specs.Io.KnownBytes.{Appends, Keeps}
use Rattle.rh_line.specs.declared.leg.Leg.{Leg}
use Rattle.rh_turn.specs.Calls.{Acts}
use Rattle.rh_turn.specs.Values.{SeatValue}
use Rattle.rh_machines.specs.declared.event.NodeEvent.{NodeEvent}
use Rattle.rh_machines.specs.declared.event.NodeEvent.TheVariants as event
use Rattle.rh_machines.specs.declared.event.NodeReply.{NodeReply}
use Rattle.rh_machines.specs.declared.event.NodeReply.TheVariants as reply
use Rattle.rh_legs.specs.declared.end.LegEnd.{LegEnd}
use Rattle.rh_legs.specs.declared.end.LegEnd.TheVariants.{Finished, Ended, Failed, Stopped}
use Rattle.rh_runs.proofs.Running.{ran-more}
use Rattle.rh_legs.specs.Ends.{EndsSo}
use Rattle.rh_legs.specs.Legs.{Calls, joined, loss, fed, late, late_pieces, has_no_use, IsReaders, told_at, LastTells, IsReading, IsRead}
use Rattle.rh_legs.proofs.Calling.{joined-more, all-are-more}

module _ {S : Type 0} (next : S → NodeEvent → S) (reply_to : S → NodeEvent → NodeReply) (first : S)
    (leg : Leg) where
  abbrev pub Reads : SeatValue NodeEvent → SeatValue NodeEvent → Option (List ℕ) → Option (List ℕ)
      → List NodeEvent → ℕ → Calls → Type 0
  Reads old now x y lost count calls = IsReading next reply_to first leg old now x y lost count calls

  -- so far: nothing was lost, and fewer than 256 pieces were late
  abbrev pub ReadsOn : SeatValue NodeEvent → SeatValue NodeEvent → Option (List ℕ)
      → Option (List ℕ) → ℕ → Type 0
  ReadsOn old now x y count = (calls : Calls) × Reads old now x y [] count calls

  abbrev pub ReadTo : SeatValue NodeEvent → SeatValue NodeEvent → Option (List ℕ)
      → Option (List ℕ) → LegEnd → Type 0
  ReadTo old now x y end = (calls : Calls) × IsRead next reply_to first leg old now x y end calls

  pub reads-none : (s : SeatValue NodeEvent) (x : Option (List ℕ)) → ReadsOn s s x x 0
  reads-none s x =
      ([], record { ran = refl; own = tt; bytes = Appends-nil x; told = refl; late_are = refl })

  -- one call more, behind a read that gave the bytes which it feeds
  reads-more : (old mid now : SeatValue NodeEvent) (x y z : Option (List ℕ)) (count : ℕ)
      (calls : Calls) (e : NodeEvent) (r : NodeReply)
      → Reads old mid x y [] count calls
      → Acts next reply_to first e r mid now
      → IsReaders leg e
      → Appends y z (fed e r)
      → Reads old now x z (loss e r) (count + length (late e r)) (calls ++ (e, r) ∷ [])
  reads-more old mid now x y z count calls e r done acts is came =
      record {
        ran = ran-more next reply_to first old mid now calls (e, r) done.ran acts;
        own = all-are-more (IsReaders leg) calls e r done.own is;
        bytes = subst (Appends x z) (sym (joined-more fed calls e r))
            (Appends-trans x y z (joined fed calls) (fed e r) done.bytes came);
        told = joined-more loss calls e r ∙ ap (λ es. es ++ loss e r) done.told;
        late_are = ap length (joined-more late calls e r)
            ∙ length-append (late_pieces calls) (late e r)
            ∙ ap (λ n. n + length (late e r)) done.late_are;
      }

  -- a piece was fed
  reads-fed : (old mid now : SeatValue NodeEvent) (x y z : Option (List ℕ)) (count : ℕ)
      (piece : List ℕ) (r : NodeReply)
      → ReadsOn old mid x y count
      → Acts next reply_to first (event.Bytes leg piece) r mid now
      → Appends y z piece
      → ReadsOn old now x z (count + length (late (event.Bytes leg piece) r))
  reads-fed old mid now x y z count piece r done acts came = (
    done.0 ++ (event.Bytes leg piece, r) ∷ [],
    reads-more old mid now x y z count done.0 (event.Bytes leg piece) r done.1 acts refl came,
  )

  -- a piece was fed of which there was no use
  pub reads-late : (old mid now : SeatValue NodeEvent) (x y z : Option (List ℕ)) (count : ℕ)
      (piece : List ℕ) (r : NodeReply)
      → ReadsOn old mid x y count
      → Acts next reply_to first (event.Bytes leg piece) r mid now
      → Appends y z piece → has_no_use r ≡ true
      → ReadsOn old now x z (count + 1)
  reads-late old mid now x y z count piece r done acts came holds =
      let one : length (late (event.Bytes leg piece) r) ≡ 1 =
      ap (λ b. length (if b then piece ∷ [] else [])) holds in
      let sum : count + length (late (event.Bytes leg piece) r) ≡ count + 1 = omega (arith, one) in
      subst (ReadsOn old now x z) sum (reads-fed old mid now x y z count piece r done acts came)

  -- a piece was fed of which there was use
  pub reads-used : (old mid now : SeatValue NodeEvent) (x y z : Option (List ℕ)) (count : ℕ)
      (piece : List ℕ) (r : NodeReply)
      → ReadsOn old mid x y count
      → Acts next reply_to first (event.Bytes leg piece) r mid now
      → Appends y z piece → has_no_use r ≡ false
      → ReadsOn old now x z count
  reads-used old mid now x y z count piece r done acts came fails =
      let none : length (late (event.Bytes leg piece) r) ≡ 0 =
      ap (λ b. length (if b then piece ∷ [] else [])) fails in
      let sum : count + length (late (event.Bytes leg piece) r) ≡ count = omega (arith, none) in
      subst (ReadsOn old now x z) sum (reads-fed old mid now x y z count piece r done acts came)

  -- the leg ended so, behind a call that told it
  ends-so : (old now : SeatValue NodeEvent) (x y : Option (List ℕ)) (end : LegEnd) (count : ℕ)
      (calls : Calls)
      → Reads old now x y (told_at leg end) count calls
      → LastTells leg end calls
      → count ≤ 256
      → (end ≡ Stopped → count ≡ 256)
      → ReadTo old now x y end
  ends-so old now x y end count calls done last few stopped = (
    calls,
    record {
      ran = done.ran;
      own = done.own;
      bytes = done.bytes;
      told = done.told;
      last = last;
      few = let same = done.late_are in omega (arith, same, few);
      stopped = λ is. done.late_are ∙ stopped is;
    },
  )

  -- the source is at its end, and the machine has no use for the leg
  read-finished : (old mid now : SeatValue NodeEvent) (x y z : Option (List ℕ)) (count : ℕ)
      (r : NodeReply)
      → ReadsOn old mid x y count → count < 256 → Appends y z []
      → Acts next reply_to first (event.Finished leg) r mid now → r ≡ reply.Told true
      → ReadTo old now x z Finished
  read-finished old mid now x y z count r done few came asks told =
      let calls = done.0 ++ (event.Finished leg, r) ∷ [] in
      ends-so old now x z Finished (count + 0) calls
      (reads-more old mid now x y z count done.0 (event.Finished leg) r done.1 asks refl came)
      (done.0, ap (λ q. done.0 ++ (event.Finished leg, q) ∷ []) told)
      (omega (arith, few)) (λ is. absurd (cc is))

  -- the source is at its end, and the machine is told
  read-ended : (old mid heard now : SeatValue NodeEvent) (x y z : Option (List ℕ)) (count : ℕ)
      (r q : NodeReply)
      → ReadsOn old mid x y count → count < 256 → Appends y z []
      → Acts next reply_to first (event.Finished leg) r mid heard
      → Acts next reply_to first (event.Ended leg) q heard now
      → ReadTo old now x z Ended
  read-ended old mid heard now x y z count r q done few came asks tells =
      let calls_asked = done.0 ++ (event.Finished leg, r) ∷ [] in
      let calls = calls_asked ++ (event.Ended leg, q) ∷ [] in
      ends-so old now x z Ended (count + 0 + 0) calls
      (reads-more old heard now x z z (count + 0) calls_asked (event.Ended leg) q
      (reads-more old mid heard x y z count done.0 (event.Finished leg) r done.1 asks refl came)
      tells refl (Appends-nil z))
      (q, (calls_asked, refl)) (omega (arith, few)) (λ is. absurd (cc is))

  -- the source is at its end
  pub read-end : (old mid now : SeatValue NodeEvent) (x y z : Option (List ℕ)) (count : ℕ)
      (end : LegEnd)
      → ReadsOn old mid x y count → count < 256 → Appends y z []
      → EndsSo next reply_to first leg mid now end
      → ReadTo old now x z end
  read-end old mid now x y z count Finished done few came (r, asks, told) =
      read-finished old mid now x y z count r done few came asks told
  read-end old mid now x y z count Ended done few came (heard, r, q, asks, tells) =
      read-ended old mid heard now x y z count r q done few came asks tells
  read-end old mid now x y z count _ done few came none = absurd none

  -- it did not fail then
  pub end-failed : (old now : SeatValue NodeEvent) (end : LegEnd)
      → EndsSo next reply_to first leg old now end → end ≡ Failed → ⊥
  end-failed old now Finished so is = absurd (cc is)
  end-failed old now Ended so is = absurd (cc is)
  end-failed old now _ none is = absurd none

  -- the source failed, and the machine is told
  pub read-failed : (old mid now : SeatValue NodeEvent) (x y z : Option (List ℕ)) (count : ℕ)
      (r : NodeReply) (end : LegEnd)
      → ReadsOn old mid x y count → count < 256 → Keeps y z
      → Acts next reply_to first (event.Broken leg) r mid now → end ≡ Failed
      → ReadTo old now x z end
  read-failed old mid now x y z count r end done few kept tells is =
      let calls = done.0 ++ (event.Broken leg, r) ∷ [] in
      subst (ReadTo old now x z) (sym is)
      (ends-so old now x z Failed (count + 0) calls
      (reads-more old mid now x y z count done.0 (event.Broken leg) r done.1 tells refl
      (Appends-kept y y z [] (Appends-nil y) kept))
      (r, (done.0, refl)) (omega (arith, few)) (λ is. absurd (cc is)))

  -- as many pieces were late as may be
  pub read-stopped : (old now : SeatValue NodeEvent) (x y : Option (List ℕ)) (count : ℕ)
      → ReadsOn old now x y count → count ≡ 256
      → ReadTo old now x y Stopped
  read-stopped old now x y count done all =
      ends-so old now x y Stopped count done.0 done.1 tt (omega (arith, all)) (λ is. all)

-- where nothing was taken, no byte came
pub nothing-taken : (y z : Option (List ℕ)) (n : ℕ) (room : List ℕ)
    → n ≡ 0 → Appends y z (take n room) → Appends y z []
nothing-taken y z n room e came = subst (λ k. Appends y z (take k room)) e came

-- one leg, and one leg more
use Rattle.std.proofs.Common.{◌≡◌, ◌≢◌, ℕ, List, [], ◌∷◌, ◌++◌, refl, subst, sym}
use Rattle.std.proofs.KnownBytes.{Appends-kept}
use Rattle.std.specs.declared.option.Option.{Option}
use Rattle.std.specs.Io.KnownBytes.{Keeps}
use Rattle.rh_io.specs.Counts.{Rose}
use Rattle.rh_line.specs.declared.leg.Leg.{Leg}
use Rattle.rh_turn.specs.Values.{SeatValue}
use Rattle.rh_machines.specs.declared.event.NodeEvent.{NodeEvent}
use Rattle.rh_machines.specs.declared.event.NodeReply.{NodeReply}
use Rattle.rh_legs.specs.Legs.{Calls, IsRead, IsWritten}
use Rattle.rh_legs.specs.declared.end.LegEnd.{LegEnd}
use Rattle.rh_legs.specs.declared.end.LegEnd.TheVariants.{Ended, Failed}
use Rattle.rh_slots.specs.Slots.{FeedsFirst, ReadsLeg, ReadsOne, Serves, WritesLeg, WritesOne}
use Rattle.rh_slots.specs.declared.slot.Served.{Served}
use Rattle.rh_slots.specs.declared.slot.ToRead.{ToRead}
use Rattle.rh_slots.specs.declared.slot.ToWrite.{ToWrite}

pub serves-more : {T : Type 0} (One : SeatValue NodeEvent → SeatValue NodeEvent → T → Type 0)
    (old mid now : SeatValue NodeEvent) (legs : List T) (leg : T)
    → Serves One old mid legs → One mid now leg → Serves One old now (legs ++ leg ∷ [])
serves-more One old mid now [] leg same one = (now, subst (λ s. One s now leg) same one, refl)
serves-more One old mid now (l ∷ legs) leg done one =
    (done.0, done.1, serves-more One done.0 mid now legs leg done.2 one)

module _ {S : Type 0} (next : S → NodeEvent → S) (reply_to : S → NodeEvent → NodeReply)
    (first here : S) where
  -- the source was read, and shut
  pub read-done : {I : Type 0} (taken : I → Option (List ℕ)) (faults ends : I → ℕ)
      (old mid now : SeatValue NodeEvent) (read : ToRead I) (source shut : I) (end : LegEnd)
      (calls : Calls) → here ≡ first
      → FeedsFirst next reply_to first read.leg read.first old mid
      → IsRead next reply_to here read.leg mid now (taken read.source) (taken source) end calls
      → (end ≡ Ended → Rose (ends read.source) (ends source))
      → (end ≡ Failed → Rose (faults read.source) (faults source))
      → Keeps (taken source) (taken shut) → faults shut ≡ faults source → ends shut ≡ ends source
      → ReadsOne next reply_to first taken faults ends old now read read.leg shut end
  read-done taken faults ends old mid now read source shut end calls at begun was ended failed
      kept same_faults same_ends =
      let done = subst (λ s. IsRead next reply_to s read.leg mid now (taken read.source)
      (taken source) end calls) at was in
      record {
        same = refl;
        mid = mid;
        begun = begun;
        calls = calls;
        read = record {
          ran = done.ran;
          own = done.own;
          bytes = Appends-kept (taken read.source) (taken source) (taken shut) _ done.bytes kept;
          told = done.told;
          last = done.last;
          few = done.few;
          stopped = done.stopped;
        };
        ended = λ e. subst (λ n. Rose (ends read.source) n) (sym same_ends) (ended e);
        failed = λ e. subst (λ n. Rose (faults read.source) n) (sym same_faults) (failed e);
      }

  -- the sink was written, and shut
  pub write-done : {O : Type 0} (written : O → Option (List ℕ)) (faults : O → ℕ)
      (old now : SeatValue NodeEvent) (write : ToWrite O) (leg : Leg) (sink shut : O) (end : LegEnd)
      (calls : Calls) → here ≡ first → leg ≡ write.leg
      → IsWritten next reply_to here leg old now (written write.sink) (written sink) end calls
      → (end ≡ Failed → Rose (faults write.sink) (faults sink)) → end ≢ Ended
      → Keeps (written sink) (written shut) → faults shut ≡ faults sink
      → WritesOne next reply_to first written faults old now write write.leg shut end
  write-done written faults old now write leg sink shut end calls at is was failed no_end kept
      same_faults =
      let so = subst (λ s. IsWritten next reply_to s leg old now (written write.sink)
      (written sink) end calls) at was in
      let done = subst (λ l. IsWritten next reply_to first l old now (written write.sink)
      (written sink) end calls) is so in
      record {
        same = refl;
        calls = calls;
        wrote = record {
          ran = done.ran;
          own = done.own;
          front = (
            done.front.0,
            done.front.1,
            Appends-kept (written write.sink) (written sink) (written shut) _ done.front.2 kept,
          );
          whole = λ e.
              Appends-kept (written write.sink) (written sink) (written shut) _ (done.whole e) kept;
          told = done.told;
          last = done.last;
        };
        failed = λ e. subst (λ n. Rose (faults write.sink) n) (sym same_faults) (failed e);
        no_end = no_end;
      }

  -- one leg more was read
  pub read-more : {I : Type 0} (taken : I → Option (List ℕ)) (faults ends : I → ℕ)
      (old mid now : SeatValue NodeEvent) (legs items : List (Served I)) (served : Served I)
      (read : ToRead I) → here ≡ first
      → Serves (ReadsLeg next reply_to first taken faults ends) old mid legs
      → ReadsOne next reply_to here taken faults ends mid now read
      served.leg served.stream served.end
      → items ≡ legs ++ served ∷ []
      → Serves (ReadsLeg next reply_to first taken faults ends) old now items
  read-more taken faults ends old mid now legs items served read at done one is =
      let so = subst (λ s. ReadsOne next reply_to s taken faults ends mid now read
      served.leg served.stream served.end) at one in
      subst (λ l. Serves (ReadsLeg next reply_to first taken faults ends) old now l) (sym is)
      (serves-more (ReadsLeg next reply_to first taken faults ends) old mid now legs served done
      (read, so))

  -- one leg more was written
  pub write-more : {O : Type 0} (written : O → Option (List ℕ)) (faults : O → ℕ)
      (old mid now : SeatValue NodeEvent) (legs items : List (Served O)) (served : Served O)
      (write : ToWrite O) → here ≡ first
      → Serves (WritesLeg next reply_to first written faults) old mid legs
      → WritesOne next reply_to here written faults mid now write
      served.leg served.stream served.end
      → items ≡ legs ++ served ∷ []
      → Serves (WritesLeg next reply_to first written faults) old now items
  write-more written faults old mid now legs items served write at done one is =
      let so = subst (λ s. WritesOne next reply_to s written faults mid now write
      served.leg served.stream served.end) at one in
      subst (λ l. Serves (WritesLeg next reply_to first written faults) old now l) (sym is)
      (serves-more (WritesLeg next reply_to first written faults) old mid now legs served done
      (write, so))

-- what a writer did, call by call
use Rattle.std.proofs.Common.{◌≡◌, ℕ, ◌+◌, ◌≤◌, true, List, [], ◌∷◌, ◌++◌, length, append-nil, arith, ◌∙◌, sym, ap, refl, subst, take}
use Rattle.std.proofs.lemmas.List.{length-append}
use Rattle.std.proofs.Math.Seq.{take-append-add, take-length}
use Rattle.std.proofs.KnownBytes.{Appends-nil, Appends-trans}
use Rattle.std.specs.declared.option.Option.{Option}
use Rattle.std.specs.Io.KnownBytes.{Appends}
use Rattle.rh_line.specs.declared.leg.Leg.{Leg}
use Rattle.rh_turn.specs.Calls.{Acts}
use Rattle.rh_turn.specs.Values.{SeatValue}
use Rattle.rh_machines.specs.declared.event.NodeEvent.{NodeEvent}
use Rattle.rh_machines.specs.declared.event.NodeEvent.TheVariants as event
use Rattle.rh_machines.specs.declared.event.NodeReply.{NodeReply}
use Rattle.rh_machines.specs.declared.event.NodeReply.TheVariants as reply
use Rattle.rh_legs.specs.declared.end.LegEnd.{LegEnd}
use Rattle.rh_legs.specs.declared.end.LegEnd.TheVariants.{Finished, Failed, Stopped}
use Rattle.rh_runs.proofs.Running.{ran-more}
use Rattle.rh_legs.specs.Legs.{Calls, loss, drawn_at, all_drawn, IsWriters, told_at, LastTells, IsDrawing, IsWritten}
use Rattle.rh_legs.proofs.Calling.{joined-more, all-are-more}

module _ {S : Type 0} (next : S → NodeEvent → S) (reply_to : S → NodeEvent → NodeReply) (first : S)
    (leg : Leg) where
  abbrev pub Draws : SeatValue NodeEvent → SeatValue NodeEvent → List ℕ → List NodeEvent → Calls
      → Type 0
  Draws old now bytes lost calls = IsDrawing next reply_to first leg old now bytes lost calls

  -- so far: all that was drawn was written
  abbrev pub WritesOn : SeatValue NodeEvent → SeatValue NodeEvent
      → Option (List ℕ) → Option (List ℕ) → Type 0
  WritesOn old now x y =
      (calls : Calls) × Draws old now (all_drawn calls) [] calls × Appends x y (all_drawn calls)

  abbrev pub WrittenTo : SeatValue NodeEvent → SeatValue NodeEvent
      → Option (List ℕ) → Option (List ℕ) → LegEnd → Type 0
  WrittenTo old now x y end = (calls : Calls) × IsWritten next reply_to first leg old now x y end calls

  pub writes-none : (s : SeatValue NodeEvent) (x : Option (List ℕ)) → WritesOn s s x x
  writes-none s x = ([], record { ran = refl; own = tt; bytes_are = refl; told = refl }, Appends-nil x)

  -- one call more
  draws-more : (old mid now : SeatValue NodeEvent) (bytes : List ℕ) (calls : Calls)
      (e : NodeEvent) (r : NodeReply)
      → Draws old mid bytes [] calls
      → Acts next reply_to first e r mid now
      → IsWriters leg e
      → Draws old now (bytes ++ drawn_at e r) (loss e r) (calls ++ (e, r) ∷ [])
  draws-more old mid now bytes calls e r done acts is =
      record {
        ran = ran-more next reply_to first old mid now calls (e, r) done.ran acts;
        own = all-are-more (IsWriters leg) calls e r done.own is;
        bytes_are = joined-more drawn_at calls e r ∙ ap (λ bs. bs ++ drawn_at e r) done.bytes_are;
        told = joined-more loss calls e r ∙ ap (λ es. es ++ loss e r) done.told;
      }

  -- the bytes are said by the calls
  said-by : (old now : SeatValue NodeEvent) (bytes : List ℕ) (lost : List NodeEvent) (calls : Calls)
      → Draws old now bytes lost calls → Draws old now (all_drawn calls) lost calls
  said-by old now bytes lost calls done =
      record { ran = done.ran; own = done.own; bytes_are = refl; told = done.told }

  -- a piece was drawn, and written
  pub writes-drawn : (old mid now : SeatValue NodeEvent) (x y z : Option (List ℕ)) (room : ℕ)
      (piece : List ℕ)
      → WritesOn old mid x y
      → Acts next reply_to first (event.Draw leg room) (reply.Drawn piece) mid now
      → Appends y z piece
      → WritesOn old now x z
  writes-drawn old mid now x y z room piece done acts came =
      let calls = done.0 ++ (event.Draw leg room, reply.Drawn piece) ∷ [] in
      let more = draws-more old mid now (all_drawn done.0) done.0 (event.Draw leg room)
      (reply.Drawn piece) done.1 acts refl in (
        calls,
        said-by old now (all_drawn done.0 ++ piece) [] calls more,
        subst (Appends x z) (sym more.bytes_are)
            (Appends-trans x y z (all_drawn done.0) piece done.2 came),
      )

  -- the leg was asked for
  pub writes-asked : (old mid now : SeatValue NodeEvent) (x y : Option (List ℕ)) (r : NodeReply)
      → WritesOn old mid x y
      → Acts next reply_to first (event.Finished leg) r mid now
      → WritesOn old now x y
  writes-asked old mid now x y r done acts =
      let calls = done.0 ++ (event.Finished leg, r) ∷ [] in
      let more = draws-more old mid now (all_drawn done.0) done.0 (event.Finished leg) r done.1 acts
      refl in (
        calls,
        said-by old now (all_drawn done.0 ++ []) [] calls more,
        subst (Appends x y) (sym (more.bytes_are ∙ append-nil (all_drawn done.0))) done.2,
      )

  -- all that was drawn was written, and of losses none was told
  whole-so : (old now : SeatValue NodeEvent) (x y : Option (List ℕ)) (end : LegEnd) (calls : Calls)
      → Draws old now (all_drawn calls) (told_at leg end) calls
      → Appends x y (all_drawn calls)
      → LastTells leg end calls
      → WrittenTo old now x y end
  whole-so old now x y end calls done all last = (
    calls,
    record {
      ran = done.ran;
      own = done.own;
      front = (
        length (all_drawn calls),
        omega arith,
        subst (Appends x y) (sym (take-length (all_drawn calls))) all,
      );
      whole = λ _. all;
      told = done.told;
      last = last;
    },
  )

  -- the machine has no use for the leg
  pub written-finished : (old mid now : SeatValue NodeEvent) (x y : Option (List ℕ)) (r : NodeReply)
      → WritesOn old mid x y
      → Acts next reply_to first (event.Finished leg) r mid now → r ≡ reply.Told true
      → WrittenTo old now x y Finished
  written-finished old mid now x y r done acts told =
      let calls = done.0 ++ (event.Finished leg, r) ∷ [] in
      let more = draws-more old mid now (all_drawn done.0) done.0 (event.Finished leg) r done.1 acts
      refl in
      whole-so old now x y Finished calls (said-by old now (all_drawn done.0 ++ []) [] calls more)
      (subst (Appends x y) (sym (more.bytes_are ∙ append-nil (all_drawn done.0))) done.2)
      (done.0, ap (λ q. done.0 ++ (event.Finished leg, q) ∷ []) told)

  -- the node is stopped
  pub written-stopped : (old now : SeatValue NodeEvent) (x y : Option (List ℕ))
      → WritesOn old now x y → WrittenTo old now x y Stopped
  written-stopped old now x y done = whole-so old now x y Stopped done.0 done.1 done.2 tt

  -- a front of the last piece was written, and the machine was told
  pub written-failed : (old mid then now : SeatValue NodeEvent) (x y z : Option (List ℕ))
      (room k : ℕ) (piece : List ℕ) (q : NodeReply)
      → WritesOn old mid x y
      → Acts next reply_to first (event.Draw leg room) (reply.Drawn piece) mid then
      → k ≤ length piece
      → Appends y z (take k piece)
      → Acts next reply_to first (event.Broken leg) q then now
      → WrittenTo old now x z Failed
  written-failed old mid then now x y z room k piece q done acts within came tells =
      let before = all_drawn done.0 in
      let drew = done.0 ++ (event.Draw leg room, reply.Drawn piece) ∷ [] in
      let calls = drew ++ (event.Broken leg, q) ∷ [] in
      let draws = draws-more old mid then before done.0 (event.Draw leg room) (reply.Drawn piece)
      done.1 acts refl in
      let lost = draws-more old then now (before ++ piece) drew (event.Broken leg) q draws tells
      refl in
      let same : all_drawn calls ≡ before ++ piece =
      lost.bytes_are ∙ append-nil (before ++ piece) in
      let long : length (before ++ piece) ≡ length before + length piece =
      length-append before piece in
      let front : take (length before + k) (before ++ piece) ≡ before ++ take k piece =
      take-append-add before piece k in (
        calls,
        record {
          ran = lost.ran;
          own = lost.own;
          front = (
            length before + k,
            subst (λ bs. length before + k ≤ length bs) (sym same) (omega (arith, long, within)),
            subst (λ bs. Appends x z (take (length before + k) bs)) (sym same)
                (subst (Appends x z) (sym front)
                (Appends-trans x y z before (take k piece) done.2 came)),
          );
          whole = λ not. absurd (not refl);
          told = lost.told;
          last = (q, (drew, refl));
        },
      )

-- a front of the same bytes
pub front-of : (y z : Option (List ℕ)) (k : ℕ) (a b : List ℕ) → a ≡ b → Appends y z (take k a)
    → Appends y z (take k b)
front-of y z k a b e came = subst (λ bs. Appends y z (take k bs)) e came

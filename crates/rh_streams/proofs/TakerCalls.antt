-- what a taker did, call by call
use Rattle.std.proofs.Common.{◌≡◌, ℕ, ◌+◌, ◌≤◌, List, [], ◌∷◌, ◌++◌, length, append-nil, arith, sym, refl, ap, subst, take, Some, None, ◌∙◌}
use Rattle.std.proofs.lemmas.List.{append_assoc, length-append}
use Rattle.std.proofs.Math.Seq.{take-append-add, take-length}
use Rattle.std.proofs.KnownBytes.{Appends-nil, Appends-trans}
use Rattle.std.specs.Prelude.{MatchOption}
use Rattle.std.specs.declared.option.Option.{Option}
use Rattle.std.specs.Io.KnownBytes.{Appends}
use Rattle.rh_turn.specs.Calls.{Acts}
use Rattle.rh_turn.specs.Values.{SeatValue}
use Rattle.rh_machines.specs.declared.event.NodeEvent.{NodeEvent}
use Rattle.rh_machines.specs.declared.event.NodeEvent.TheVariants as event
use Rattle.rh_line.specs.declared.state.Take.{Take}
use Rattle.rh_machines.specs.declared.event.NodeReply.{NodeReply}
use Rattle.rh_machines.specs.declared.event.NodeReply.TheVariants as reply
use Rattle.rh_runs.specs.Runs.{Ran}
use Rattle.rh_runs.proofs.Running.{ran-more, ran-on}
use Rattle.rh_legs.specs.Legs.{Calls, AllAre}
use Rattle.rh_legs.specs.declared.end.NodeEnd.{NodeEnd}
use Rattle.rh_legs.specs.declared.end.NodeEnd.TheVariants.{WriteFault}
use Rattle.rh_streams.specs.Takers.{IsTakers, taken_at, all_taken, Takes, TookInto}
use Rattle.rh_actors.proofs.Calling.{acts-at, joined-more, joined-on, all-are-more, all-are-on}

-- how a take was answered, and its PDU
abbrev pub IsTold : Option (Take × List ℕ) → NodeReply → Type 0
IsTold parts r =
    MatchOption parts (taken_at (event.Take tt) r ≡ []) (λ some. r ≡ reply.Taken some.0 some.1)

none-taken : (parts : Option (Take × List ℕ)) (r : NodeReply) → parts ≡ None → IsTold parts r
    → taken_at (event.Take tt) r ≡ []
none-taken parts r is told = subst (λ o. IsTold o r) is told

pdu-taken : (parts : Option (Take × List ℕ)) (r : NodeReply) (answer : Take) (pdu : List ℕ)
    → parts ≡ Some (answer, pdu) → IsTold parts r → taken_at (event.Take tt) r ≡ pdu
pdu-taken parts r answer pdu is told =
    ap (λ x. taken_at (event.Take tt) x) (subst (λ o. IsTold o r) is told)

module _ {S : Type 0} (next : S → NodeEvent → S) (reply_to : S → NodeEvent → NodeReply) (first : S)
  where
    -- so far: all that was taken was written
    abbrev pub TakesOn : SeatValue NodeEvent → SeatValue NodeEvent
        → Option (List ℕ) → Option (List ℕ) → Type 0
    TakesOn old now x y = (calls : Calls) × Ran next reply_to first old now calls
        × AllAre IsTakers calls × Appends x y (all_taken calls)

    abbrev pub TakenTo : SeatValue NodeEvent → SeatValue NodeEvent
        → Option (List ℕ) → Option (List ℕ) → NodeEnd → Type 0
    TakenTo old now x y end = (calls : Calls) × Takes next reply_to first old now x y end calls

    pub takes-none : (s : SeatValue NodeEvent) (x : Option (List ℕ)) → TakesOn s s x x
    takes-none s x = ([], refl, tt, Appends-nil x)

    -- the same, by another name of the machine's first state
    pub took-at : (here : S) (old now : SeatValue NodeEvent) (before held : List ℕ) → here ≡ first
        → TookInto next reply_to here old now before held
        → TookInto next reply_to first old now before held
    took-at here old now before held same done =
        subst (λ s. TookInto next reply_to s old now before held) same done

    -- a batch of takes, of which all was written
    pub takes-batch : (old mid now : SeatValue NodeEvent) (x y z : Option (List ℕ))
        (before held : List ℕ)
        → TakesOn old mid x y → TookInto next reply_to first mid now before held
        → before ≡ [] → Appends y z held → TakesOn old now x z
    takes-batch old mid now x y z before held done then none wrote =
        let calls = done.0 in
        let more = then.0 in
        let same : held ≡ all_taken more = then.3 ∙ ap (λ bs. bs ++ all_taken more) none in (
          calls ++ more,
          ran-on next reply_to first old mid now calls more done.1 then.1,
          all-are-on IsTakers calls more done.2 then.2,
          subst (Appends x z) (sym (joined-on taken_at calls more))
              (Appends-trans x y z (all_taken calls) (all_taken more) done.3
              (subst (Appends y z) same wrote)),
        )

    pub taken-whole : (old now : SeatValue NodeEvent) (x y : Option (List ℕ)) (end : NodeEnd)
        → TakesOn old now x y → TakenTo old now x y end
    taken-whole old now x y end done = (
      done.0,
      record {
        ran = done.1;
        own = done.2;
        front = (
          length (all_taken done.0),
          omega arith,
          subst (Appends x y) (sym (take-length (all_taken done.0))) done.3,
        );
        whole = λ _. done.3;
      },
    )

    -- a batch of takes, of which a front was written
    pub taken-front : (old mid now : SeatValue NodeEvent) (x y z : Option (List ℕ))
        (before held : List ℕ)
        → TakesOn old mid x y → TookInto next reply_to first mid now before held
        → before ≡ [] → (k : ℕ) × (k ≤ length held) × Appends y z (take k held)
        → TakenTo old now x z WriteFault
    taken-front old mid now x y z before held done then none wrote =
        let calls = done.0 in
        let more = then.0 in
        let k = wrote.0 in
        let was = all_taken calls in
        let same : held ≡ all_taken more = then.3 ∙ ap (λ bs. bs ++ all_taken more) none in
        let all : all_taken (calls ++ more) ≡ was ++ held =
        joined-on taken_at calls more ∙ ap (λ bs. was ++ bs) (sym same) in
        let long : length (was ++ held) ≡ length was + length held = length-append was held in
        let within = wrote.1 in
        let front : take (length was + k) (was ++ held) ≡ was ++ take k held =
        take-append-add was held k in (
          calls ++ more,
          record {
            ran = ran-on next reply_to first old mid now calls more done.1 then.1;
            own = all-are-on IsTakers calls more done.2 then.2;
            front = (
              length was + k,
              subst (λ bs. length was + k ≤ length bs) (sym all) (omega (arith, long, within)),
              subst (λ bs. Appends x z (take (length was + k) bs)) (sym all)
                  (subst (Appends x z) (sym front)
                  (Appends-trans x y z was (take k held) done.3 wrote.2)),
            );
            whole = λ not. absurd (not refl);
          },
        )

    pub took-nothing : (s : SeatValue NodeEvent) (held : List ℕ)
        → TookInto next reply_to first s s held held
    took-nothing s held = ([], refl, tt, sym (append-nil held))

    -- a take more, whose PDU stands behind the others
    took-more : (old mid now : SeatValue NodeEvent) (before held after : List ℕ) (room : Unit {0})
        (r : NodeReply)
        → TookInto next reply_to first old mid before held
        → Acts next reply_to first (event.Take room) r mid now
        → after ≡ held ++ taken_at (event.Take room) r
        → TookInto next reply_to first old now before after
    took-more old mid now before held after room r done acts behind =
        let calls = done.0 in
        let e = event.Take room in (
          calls ++ (e, r) ∷ [],
          ran-more next reply_to first old mid now calls (e, r) done.1 acts,
          all-are-more IsTakers calls e r done.2 tt,
          behind ∙ ap (λ bs. bs ++ taken_at e r) done.3
              ∙ append_assoc before (all_taken calls) (taken_at e r)
              ∙ ap (λ bs. before ++ bs) (sym (joined-more taken_at calls e r)),
        )

    -- a take at a role that gives no PDUs out
    pub took-none : (here : S) (old mid now : SeatValue NodeEvent) (before held : List ℕ)
        (r : NodeReply) (parts : Option (Take × List ℕ))
        → here ≡ first → TookInto next reply_to first old mid before held
        → Acts next reply_to here (event.Take tt) r mid now
        → parts ≡ None → IsTold parts r
        → TookInto next reply_to first old now before held
    took-none here old mid now before held r parts same done acts is told =
        took-more old mid now before held held tt r done
        (acts-at next reply_to here first (event.Take tt) r mid now same acts)
        (sym (append-nil held) ∙ ap (λ bs. held ++ bs) (sym (none-taken parts r is told)))

    -- a take, whose PDU is put behind the others
    pub took-pdu : (here : S) (old mid now : SeatValue NodeEvent) (before held after pdu : List ℕ)
        (r : NodeReply) (parts : Option (Take × List ℕ)) (answer : Take)
        → here ≡ first → TookInto next reply_to first old mid before held
        → Acts next reply_to here (event.Take tt) r mid now
        → parts ≡ Some (answer, pdu) → IsTold parts r → after ≡ held ++ pdu
        → TookInto next reply_to first old now before after
    took-pdu here old mid now before held after pdu r parts answer same done acts is told behind =
        took-more old mid now before held after tt r done
        (acts-at next reply_to here first (event.Take tt) r mid now same acts)
        (behind ∙ ap (λ bs. held ++ bs) (sym (pdu-taken parts r answer pdu is told)))

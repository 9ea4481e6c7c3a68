-- what a giver did, call by call
use Rattle.std.proofs.Common.{◌≡◌, ℕ, List, [], ◌∷◌, ◌++◌, append-nil, ap, refl, sym, subst, inl, inr, take, drop, length, arith, Some, None, Ok, Err, ◌∙◌}
use Rattle.std.proofs.lemmas.List.{append_assoc, take-append-drop}
use Rattle.std.specs.Prelude.{MatchOption}
use Rattle.std.specs.declared.option.Option.{Option}
use Rattle.std.specs.declared.result.Result.{Result}
use Rattle.std.proofs.lemmas.List.Folds.{concat-append}
use Rattle.std.specs.List.{concat, AllByRecursion}
use Rattle.rh_turn.specs.Calls.{Acts}
use Rattle.rh_turn.specs.Values.{SeatValue}
use Rattle.rh_pdu.specs.Frames.{IsPdu}
use Rattle.rh_machines.specs.declared.event.NodeEvent.{NodeEvent}
use Rattle.rh_machines.specs.declared.event.NodeEvent.TheVariants as event
use Rattle.rh_line.specs.declared.give_fault.GiveFault.{GiveFault}
use Rattle.rh_machines.specs.declared.event.NodeReply.{NodeReply}
use Rattle.rh_machines.specs.declared.event.NodeReply.TheVariants as reply
use Rattle.rh_runs.proofs.Running.{ran-more, ran-on}
use Rattle.rh_legs.specs.Legs.{Calls}
use Rattle.rh_streams.specs.Givers.{IsGivers, given_at, all_given, closing_at, closings, GivesOn, GaveOf, Gives}
use Rattle.rh_actors.proofs.Calling.{acts-at, joined-more, joined-on, all-are-more, all-are-on}

pub all-on : {A : Type 0} (P : A → Type 0) (one more : List A)
    → AllByRecursion P one → AllByRecursion P more → AllByRecursion P (one ++ more)
all-on P [] more all then = then
all-on P (x ∷ one) more all then = (all.0, all-on P one more all.1 then)

-- how a give was answered, and its block
abbrev pub IsTold : Option (Result (Unit {0}) GiveFault × List ℕ) → NodeReply → Type 0
IsTold parts r = MatchOption parts ((pdu : List ℕ) → given_at (event.Give pdu) r ≡ [])
    (λ some. r ≡ reply.Given some.0 some.1)

none-given : (parts : Option (Result (Unit {0}) GiveFault × List ℕ)) (r : NodeReply) (pdu : List ℕ)
    → parts ≡ None → IsTold parts r → given_at (event.Give pdu) r ≡ []
none-given parts r pdu is told = (subst (λ o. IsTold o r) is told) pdu

parts-given : (parts : Option (Result (Unit {0}) GiveFault × List ℕ)) (r : NodeReply)
    (given : Result (Unit {0}) GiveFault) (back : List ℕ)
    → parts ≡ Some (given, back) → IsTold parts r → r ≡ reply.Given given back
parts-given parts r given back is told = subst (λ o. IsTold o r) is told

-- a frame off the front of what is held and a piece
pub frame-off : (held piece frame pdu new back : List ℕ) (used : ℕ)
    → frame ≡ held ++ take used piece → pdu ≡ frame → new ≡ [] → back ≡ drop used piece
    → held ++ piece ≡ pdu ++ (new ++ back)
frame-off held piece frame pdu new back used whole same none behind =
    ap (λ bs. held ++ bs) (sym (take-append-drop used piece))
    ∙ sym (append_assoc held (take used piece) (drop used piece))
    ∙ ap (λ bs. bs ++ drop used piece) (sym whole ∙ sym same)
    ∙ ap (λ bs. pdu ++ bs) (sym behind)
    ∙ ap (λ bs. pdu ++ (bs ++ back)) (sym none)

-- nothing is held, and nothing came
pub none-left : (rest room : List ℕ) (count : ℕ) → length rest ≡ 0 → count ≡ 0
    → rest ++ take count room ≡ []
none-left [] room count none no_more = ap (λ n. take n room) no_more
none-left (b ∷ rest) room count none no_more = absurd (omega (arith, none))

module _ {S : Type 0} (next : S → NodeEvent → S) (reply_to : S → NodeEvent → NodeReply) (first : S)
  where
    abbrev On : SeatValue NodeEvent → SeatValue NodeEvent → List (List ℕ) → Type 0
    On old now given = GivesOn next reply_to first old now given

    abbrev Of : SeatValue NodeEvent → SeatValue NodeEvent → List ℕ → List ℕ → Type 0
    Of old now came rest = GaveOf next reply_to first old now came rest

    pub gives-none : (s : SeatValue NodeEvent) → On s s []
    gives-none s = ([], record { ran = refl; own = tt; given_are = refl; unclosed = refl })

    -- an event that gives these, and closes not
    pub gives-more : (old mid now : SeatValue NodeEvent) (given more : List (List ℕ))
        (e : NodeEvent) (r : NodeReply)
        → On old mid given
        → Acts next reply_to first e r mid now
        → IsGivers e → given_at e r ≡ more → closing_at e r ≡ []
        → On old now (given ++ more)
    gives-more old mid now given more e r done acts is gave open_still =
        let calls = done.0 in
        let was = done.1 in (
          calls ++ (e, r) ∷ [],
          record {
            ran = ran-more next reply_to first old mid now calls (e, r) was.ran acts;
            own = all-are-more IsGivers calls e r was.own is;
            given_are = joined-more given_at calls e r ∙ ap (λ l. l ++ given_at e r) was.given_are
                ∙ ap (λ l. given ++ l) gave;
            unclosed = joined-more closing_at calls e r ∙ ap (λ l. l ++ closing_at e r) was.unclosed
                ∙ open_still;
          },
        )

    -- it asked for the state
    pub gives-asked : (here : S) (old mid now : SeatValue NodeEvent)
        → here ≡ first → On old mid []
        → (answer : NodeReply) × Acts next reply_to here event.State answer mid now
        → On old now []
    gives-asked here old mid now same done asked =
        gives-more old mid now [] [] event.State asked.0 done
        (acts-at next reply_to here first event.State asked.0 mid now same asked.1) tt refl refl

    -- a PDU came, and of it this was given
    gives-told : (here : S) (old mid now : SeatValue NodeEvent) (pdu : List ℕ)
        (given : List (List ℕ)) (r : NodeReply)
        → here ≡ first → On old mid [] → Acts next reply_to here (event.Give pdu) r mid now
        → given_at (event.Give pdu) r ≡ given → On old now given
    gives-told here old mid now pdu given r same done acts told =
        gives-more old mid now [] given (event.Give pdu) r done
        (acts-at next reply_to here first (event.Give pdu) r mid now same acts) tt told refl

    -- at a role that takes no PDUs in
    pub gives-not : (here : S) (old mid now : SeatValue NodeEvent) (pdu : List ℕ) (r : NodeReply)
        (parts : Option (Result (Unit {0}) GiveFault × List ℕ))
        → here ≡ first → On old mid [] → Acts next reply_to here (event.Give pdu) r mid now
        → parts ≡ None → IsTold parts r → On old now []
    gives-not here old mid now pdu r parts same done acts is told =
        gives-told here old mid now pdu [] r same done acts (none-given parts r pdu is told)

    -- the PDU was given
    pub gives-pdu : (here : S) (old mid now : SeatValue NodeEvent) (pdu : List ℕ) (r : NodeReply)
        (parts : Option (Result (Unit {0}) GiveFault × List ℕ))
        (given : Result (Unit {0}) GiveFault) (back : List ℕ) (done_so : Unit {0})
        → here ≡ first → On old mid [] → Acts next reply_to here (event.Give pdu) r mid now
        → parts ≡ Some (given, back) → IsTold parts r → given ≡ Ok done_so → On old now (pdu ∷ [])
    gives-pdu here old mid now pdu r parts given back done_so same done acts is told ok =
        gives-told here old mid now pdu (pdu ∷ []) r same done acts
        (ap (λ x. given_at (event.Give pdu) x)
        (parts-given parts r given back is told ∙ ap (λ x. reply.Given x back) ok))

    -- the PDU was refused
    pub gives-refused : (here : S) (old mid now : SeatValue NodeEvent) (pdu : List ℕ)
        (r : NodeReply) (parts : Option (Result (Unit {0}) GiveFault × List ℕ))
        (given : Result (Unit {0}) GiveFault) (back : List ℕ) (fault : GiveFault)
        → here ≡ first → On old mid [] → Acts next reply_to here (event.Give pdu) r mid now
        → parts ≡ Some (given, back) → IsTold parts r → given ≡ Err fault → On old now []
    gives-refused here old mid now pdu r parts given back fault same done acts is told err =
        gives-told here old mid now pdu [] r same done acts
        (ap (λ x. given_at (event.Give pdu) x)
        (parts-given parts r given back is told ∙ ap (λ x. reply.Given x back) err))

    -- and then it gave these
    pub gives-on : (old mid now : SeatValue NodeEvent) (given more : List (List ℕ))
        → On old mid given → On mid now more → On old now (given ++ more)
    gives-on old mid now given more done then =
        let a = done.1 in
        let b = then.1 in (
          done.0 ++ then.0,
          record {
            ran = ran-on next reply_to first old mid now done.0 then.0 a.ran b.ran;
            own = all-are-on IsGivers done.0 then.0 a.own b.own;
            given_are = joined-on given_at done.0 then.0 ∙ ap (λ l. l ++ all_given then.0) a.given_are
                ∙ ap (λ l. given ++ l) b.given_are;
            unclosed = joined-on closing_at done.0 then.0 ∙ ap (λ l. l ++ closings then.0) a.unclosed
                ∙ b.unclosed;
          },
        )

    pub gave-none : (s : SeatValue NodeEvent) (came : List ℕ) → Of s s came came
    gave-none s came = ([], gives-none s, tt, refl)

    pub gave-new : (s : SeatValue NodeEvent) (rest : List ℕ) → rest ≡ [] → Of s s [] rest
    gave-new s rest none = ([], gives-none s, tt, sym none)

    -- nothing was given meanwhile
    pub gave-still : (old mid now : SeatValue NodeEvent) (came rest : List ℕ)
        → Of old mid came rest → On mid now [] → Of old now came rest
    gave-still old mid now came rest done then = (
      done.0,
      subst (On old now) (append-nil done.0) (gives-on old mid now done.0 [] done.1 then),
      done.2,
      done.3,
    )

    -- a PDU more was given
    pub gave-pdu : (old mid now : SeatValue NodeEvent) (came rest behind pdu : List ℕ)
        → Of old mid came rest → On mid now (pdu ∷ []) → IsPdu pdu → rest ≡ pdu ++ behind
        → Of old now came behind
    gave-pdu old mid now came rest behind pdu done then is joined =
        let given = done.0 in (
          given ++ pdu ∷ [],
          gives-on old mid now given (pdu ∷ []) done.1 then,
          all-on IsPdu given (pdu ∷ []) done.2 (is, tt),
          done.3 ∙ ap (λ bs. concat given ++ bs) joined
              ∙ sym (append_assoc (concat given) pdu behind)
              ∙ ap (λ bs. (concat given ++ bs) ++ behind) (sym (append-nil pdu))
              ∙ ap (λ bs. bs ++ behind) (sym (concat-append given (pdu ∷ []))),
        )

    -- and then these bytes came, of which this was given
    pub gave-on : (old mid now : SeatValue NodeEvent) (came rest more behind : List ℕ)
        → Of old mid came rest → Of mid now (rest ++ more) behind
        → Of old now (came ++ more) behind
    gave-on old mid now came rest more behind done then =
        let given = done.0 in
        let later = then.0 in (
          given ++ later,
          gives-on old mid now given later done.1 then.1,
          all-on IsPdu given later done.2 then.2,
          ap (λ bs. bs ++ more) done.3 ∙ append_assoc (concat given) rest more
              ∙ ap (λ bs. concat given ++ bs) then.3
              ∙ sym (append_assoc (concat given) (concat later) behind)
              ∙ ap (λ bs. bs ++ behind) (sym (concat-append given later)),
        )

    -- and then these bytes came, of which nothing was given
    pub gave-came : (old now : SeatValue NodeEvent) (came rest more : List ℕ)
        → Of old now came rest → Of old now (came ++ more) (rest ++ more)
    gave-came old now came rest more done = (
      done.0,
      done.1,
      done.2,
      ap (λ bs. bs ++ more) done.3 ∙ append_assoc (concat done.0) rest more,
    )

    -- so it ended, with more to come
    pub gives-ended : (old now : SeatValue NodeEvent) (came rest : List ℕ)
        → Of old now came rest → (calls : Calls) × Gives next reply_to first old now came calls
    gives-ended old now came rest done =
        let calls = done.1.0 in
        let gave = done.1.1 in (
          calls,
          record {
            ran = gave.ran;
            own = gave.own;
            rest = rest;
            begins = done.3 ∙ ap (λ l. concat l ++ rest) (sym gave.given_are);
            pdus = subst (AllByRecursion IsPdu) (sym gave.given_are) done.2;
            whole = inl gave.unclosed;
          },
        )

    -- and it said that no PDU comes any more
    pub gives-closed : (old mid now : SeatValue NodeEvent) (came rest : List ℕ) (r : NodeReply)
        → Of old mid came rest → rest ≡ []
        → Acts next reply_to first event.Close r mid now
        → (calls : Calls) × Gives next reply_to first old now came calls
    gives-closed old mid now came rest r done none acts =
        let calls = done.1.0 in
        let gave = done.1.1 in
        let more = calls ++ (event.Close, r) ∷ [] in
        let same : all_given more ≡ done.0 =
        joined-more given_at calls event.Close r ∙ append-nil (all_given calls) ∙ gave.given_are in (
          more,
          record {
            ran = ran-more next reply_to first old mid now calls (event.Close, r) gave.ran acts;
            own = all-are-more IsGivers calls event.Close r gave.own tt;
            rest = rest;
            begins = done.3 ∙ ap (λ l. concat l ++ rest) (sym same);
            pdus = subst (AllByRecursion IsPdu) (sym same) done.2;
            whole = inr none;
          },
        )

    -- the same, by another name of the machine's first state
    pub on-at : (here : S) (old now : SeatValue NodeEvent) (given : List (List ℕ)) → here ≡ first
        → GivesOn next reply_to here old now given → On old now given
    on-at here old now given same done = subst (λ s. GivesOn next reply_to s old now given) same done

    pub of-at : (here : S) (old now : SeatValue NodeEvent) (came rest : List ℕ) → here ≡ first
        → GaveOf next reply_to here old now came rest → Of old now came rest
    of-at here old now came rest same done =
        subst (λ s. GaveOf next reply_to s old now came rest) same done

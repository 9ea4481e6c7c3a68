-- what a keeper did, one thing after the other
use Rattle.std.proofs.Common.{◌≡◌, ◌⊎◌, ℕ, Bool, true, false, [], ◌∷◌, ◌++◌, inl, inr, refl, subst, sym, ◌∙◌}
use Rattle.std.specs.declared.sync.Arc.{Arc}
use Rattle.std.specs.Arc.{arc_value}
use Rattle.rh_line.specs.declared.leg.Leg.{Leg}
use Rattle.rh_rts.specs.declared.command.Cookie.{Cookie}
use Rattle.rh_turn.specs.Calls.{Acts}
use Rattle.rh_turn.specs.Values.{SeatValue, TurnValue}
use Rattle.rh_machines.specs.declared.event.NodeEvent.{NodeEvent}
use Rattle.rh_machines.specs.declared.event.NodeEvent.TheVariants as event
use Rattle.rh_machines.specs.declared.event.NodeReply.{NodeReply}
use Rattle.rh_runs.proofs.Running.{ran-on}
use Rattle.rh_legs.specs.Legs.{Calls, AllAre}
use Rattle.rh_actors.proofs.Calling.{all-are-on}
use Rattle.rh_legs.specs.declared.end.NodeEnd.{NodeEnd}
use Rattle.rh_keepers.specs.Faults.{WasTold}
use Rattle.rh_keepers.specs.Keepers.{ActsOn, AreTicked, AsksLive, BringsUp, Causes, Connects, HasAsked, IsKeepers, IsKeepersEnd, Keeps, KeptOn, TellsUp, is_tick, is_up, moments, no_causes}

-- behind a moment that was told, too
ticked-later : (told : Bool) (calls : Calls) → AreTicked false calls → AreTicked told calls
ticked-later told [] ticked = tt
ticked-later told (c ∷ calls) ticked =
    ((λ up. let none : false ≡ true = ticked.0 up in absurd cc), ticked.1)

ticked-on : (told : Bool) (calls more : Calls) → AreTicked told calls → AreTicked false more
    → AreTicked told (calls ++ more)
ticked-on told [] more ticked then = ticked-later told more then
ticked-on told (c ∷ calls) more ticked then =
    (ticked.0, ticked-on (is_tick c.0) calls more ticked.1 then)

-- the causes of one kind are among those of another
pub record Covers (one other : Causes) : Type 0 where
  pub tells : (now : ℕ) → one.tells now → other.tells now
  pub carries : (leg : Leg) (cookie : Cookie) → one.carries leg cookie → other.carries leg cookie
  pub breaks : (leg : Leg) → one.breaks leg → other.breaks leg

covered : (one other : Causes) → Covers one other → (e : NodeEvent)
    → IsKeepers one e → IsKeepers other e
covered one other covers (event.Wants leg) is = tt
covered one other covers (event.Up leg cookie) is = covers.carries leg cookie is
covered one other covers (event.Bytes leg piece) is = absurd is
covered one other covers (event.Ended leg) is = absurd is
covered one other covers (event.Broken leg) is = covers.breaks leg is
covered one other covers (event.Draw leg room) is = absurd is
covered one other covers (event.Finished leg) is = absurd is
covered one other covers (event.Tick now) is = covers.tells now is
covered one other covers event.State is = tt
covered one other covers event.Target is = tt
covered one other covers (event.Give block) is = absurd is
covered one other covers (event.Take room) is = absurd is
covered one other covers event.Close is = absurd is
covered one other covers event.Recycle is = absurd is

all-covered : (one other : Causes) → Covers one other → (calls : Calls)
    → AllAre (IsKeepers one) calls → AllAre (IsKeepers other) calls
all-covered one other covers [] all = tt
all-covered one other covers (c ∷ calls) all =
    (covered one other covers c.0 all.0, all-covered one other covers calls all.1)

module _ {S Z : Type 0} {next : S → NodeEvent → S} {reply_to : S → NodeEvent → NodeReply} where
  -- nothing was done
  pub kept-none : {causes : Causes} {at : Arc (TurnValue S) Z} {s : SeatValue NodeEvent}
      → KeptOn next reply_to causes at at s s
  kept-none = record {
    turn = refl;
    calls = [];
    kept = record { ran = refl; own = tt; ticked = tt };
  }

  -- one call, of no leg that is up
  pub kept-act : {causes : Causes} {from to : Arc (TurnValue S) Z} {old now : SeatValue NodeEvent}
      {e : NodeEvent}
      → ActsOn next reply_to e from to old now → IsKeepers causes e → is_up e ≡ false
      → KeptOn next reply_to causes from to old now
  kept-act {now = now} {e = e} did is not = record {
    turn = did.turn;
    calls = (e, did.answer) ∷ [];
    kept = record {
      ran = (now, did.acts, refl);
      own = (is, tt);
      ticked = ((λ up. let wrong : false ≡ true = sym not ∙ up in absurd cc), tt);
    };
  }

  -- an event that tells no leg up, and its reply
  pub kept-call : {causes : Causes} {from to : Arc (TurnValue S) Z} {old now : SeatValue NodeEvent}
      (e : NodeEvent) (r : NodeReply) → to ≡ from
      → Acts next reply_to (arc_value from).first e r old now
      → IsKeepers causes e → is_up e ≡ false
      → KeptOn next reply_to causes from to old now
  kept-call {now = now} e r same acts is not = record {
    turn = same;
    calls = (e, r) ∷ [];
    kept = record {
      ran = (now, acts, refl);
      own = (is, tt);
      ticked = ((λ up. let wrong : false ≡ true = sym not ∙ up in absurd cc), tt);
    };
  }

  -- a leg is up
  pub kept-up : {causes : Causes} {from to : Arc (TurnValue S) Z} {old now : SeatValue NodeEvent}
      {moment : ℕ} {leg : Leg} {cookie : Cookie} {up : Bool}
      → TellsUp next reply_to moment leg cookie up from to old now
      → causes.tells moment → causes.carries leg cookie
      → KeptOn next reply_to causes from to old now
  kept-up {now = now} {moment = moment} {leg = leg} {cookie = cookie} did told carried = record {
    turn = did.turn;
    calls = (event.Tick moment, did.first_answer) ∷ (event.Up leg cookie, did.answer) ∷ [];
    kept = record {
      ran = (did.mid, did.ticks, (now, did.ups, refl));
      own = (told, (carried, tt));
      ticked = ((λ up. absurd cc), ((λ up. refl), tt));
    };
  }

  -- and then it did this
  pub kept-then : {causes : Causes} {from mid to : Arc (TurnValue S) Z}
      {old heard now : SeatValue NodeEvent}
      → KeptOn next reply_to causes from mid old heard → KeptOn next reply_to causes mid to heard now
      → KeptOn next reply_to causes from to old now
  kept-then {causes} {from} {mid} {to} {old} {heard} {now} one then =
      let here = one.kept in
      let more : Keeps next reply_to (arc_value from).first causes heard now then.calls =
      subst (λ (t : Arc (TurnValue S) Z). Keeps next reply_to (arc_value t).first causes heard now
      then.calls) one.turn then.kept in
      record {
        turn = then.turn ∙ one.turn;
        calls = one.calls ++ then.calls;
        kept = record {
          ran = ran-on next reply_to (arc_value from).first old heard now one.calls then.calls
              here.ran more.ran;
          own = all-are-on (IsKeepers causes) one.calls then.calls here.own more.own;
          ticked = ticked-on false one.calls then.calls here.ticked more.ticked;
        };
      }

  -- it has these causes, too
  pub kept-for : {one other : Causes} {from to : Arc (TurnValue S) Z} {old now : SeatValue NodeEvent}
      → Covers one other → KeptOn next reply_to one from to old now
      → KeptOn next reply_to other from to old now
  kept-for {one} {other} covers did = record {
    turn = did.turn;
    calls = did.calls;
    kept = record {
      ran = did.kept.ran;
      own = all-covered one other covers did.calls did.kept.own;
      ticked = did.kept.ticked;
    };
  }

  -- what needs no cause
  pub kept-any : {causes : Causes} {from to : Arc (TurnValue S) Z} {old now : SeatValue NodeEvent}
      → KeptOn next reply_to no_causes from to old now → KeptOn next reply_to causes from to old now
  kept-any did = kept-for (record {
    tells = λ _ is. absurd is;
    carries = λ _ _ is. absurd is;
    breaks = λ _ is. absurd is;
  }) did

  -- the moments that it told
  pub kept-told : {C : Type 0} {clock : C → ℕ} {causes : Causes} {from to : Arc (TurnValue S) Z}
      {old now : SeatValue NodeEvent}
      → ((moment : ℕ) → WasTold clock moment → causes.tells moment)
      → KeptOn next reply_to (moments clock) from to old now
      → KeptOn next reply_to causes from to old now
  kept-told tells did = kept-for (record {
    tells = tells;
    carries = λ _ _ is. absurd is;
    breaks = λ _ is. absurd is;
  }) did

  -- it asked whether the node goes on
  pub kept-asked : {causes : Causes} {live : Bool} {from to : Arc (TurnValue S) Z}
      {old now : SeatValue NodeEvent}
      → AsksLive next reply_to live from to old now → KeptOn next reply_to causes from to old now
  kept-asked asks = kept-call event.State asks.answer asks.turn asks.acts tt refl

  -- a leg was brought up
  pub kept-brought : {C : Type 0} {clock : C → ℕ} {causes : Causes} {from to : Arc (TurnValue S) Z}
      {old now : SeatValue NodeEvent} {leg : Leg} {cookie : Cookie} {up : Bool}
      → ((moment : ℕ) → WasTold clock moment → causes.tells moment) → causes.carries leg cookie
      → BringsUp next reply_to clock leg cookie up from to old now
      → KeptOn next reply_to causes from to old now
  kept-brought tells carried did = kept-up did.ups (tells did.moment did.told) carried

  -- a leg was connected, or told broken
  pub kept-connect : {C : Type 0} {clock : C → ℕ} {net : Type 0} {causes : Causes}
      {from to : Arc (TurnValue S) Z} {old now : SeatValue NodeEvent}
      (leg : Leg) (cookie : Cookie) (reached : NodeEnd)
      → ((moment : ℕ) → WasTold clock moment → causes.tells moment) → causes.carries leg cookie
      → (net → causes.breaks leg)
      → Connects next reply_to clock net leg cookie reached from to old now
      → KeptOn next reply_to causes from to old now
  kept-connect leg cookie reached tells carried breaks (inl came) =
      kept-brought tells carried came.1.1
  kept-connect leg cookie reached tells carried breaks (inr failed) =
      kept-act failed.2 (breaks failed.1) refl

  -- so it ends
  pub connect-end : {C : Type 0} {clock : C → ℕ} {net : Type 0} (cookies : Type 0)
      {from to : Arc (TurnValue S) Z} {old now : SeatValue NodeEvent}
      (leg : Leg) (cookie : Cookie) (reached : NodeEnd)
      → Connects next reply_to clock net leg cookie reached from to old now
      → IsKeepersEnd net cookies reached
  connect-end {net = net} cookies leg cookie reached (inl came) =
      subst (IsKeepersEnd net cookies) (sym came.0) tt
  connect-end {net = net} cookies leg cookie reached (inr failed) =
      subst (IsKeepersEnd net cookies) (sym failed.0) failed.1

  -- it asked then
  pub asked-then : {causes : Causes} {live : Bool} {from mid to : Arc (TurnValue S) Z}
      {old heard now : SeatValue NodeEvent}
      → KeptOn next reply_to causes from mid old heard
      → AsksLive next reply_to live mid to heard now
      → HasAsked next reply_to (arc_value from).first now
  asked-then {heard = heard} {now = now} did asks = (
    heard,
    asks.answer,
    subst (λ (t : Arc (TurnValue S) Z). Acts next reply_to (arc_value t).first event.State
        asks.answer heard now) did.turn asks.acts,
  )

  -- it asked, by another name of the turn
  pub asked-at : {causes : Causes} {from mid : Arc (TurnValue S) Z} {old heard now : SeatValue NodeEvent}
      → KeptOn next reply_to causes from mid old heard
      → HasAsked next reply_to (arc_value mid).first now
      → HasAsked next reply_to (arc_value from).first now
  asked-at {now = now} did asked =
      subst (λ (t : Arc (TurnValue S) Z). HasAsked next reply_to (arc_value t).first now) did.turn
      asked

-- one of two ends
pub end-of : (net cookies : Type 0) (one other told : NodeEnd)
    → IsKeepersEnd net cookies one → IsKeepersEnd net cookies other
    → (told ≡ one) ⊎ (told ≡ other) → IsKeepersEnd net cookies told
end-of net cookies one other told first then (inl is) =
    subst (IsKeepersEnd net cookies) (sym is) first
end-of net cookies one other told first then (inr is) =
    subst (IsKeepersEnd net cookies) (sym is) then

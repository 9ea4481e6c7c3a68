-- a client that is closed for a response heard it
use Rattle.law_order.proofs.Vocabulary.{◌≡◌, ℕ, List, [], ◌∷◌, ◌++◌, append_assoc, cond, Bool, Some, None, refl, sym, ap, ◌∙◌, subst, Option, append-nil}
use Rattle.rh_line.specs.declared.cause.Cause.TheVariants as cause
use Rattle.rh_line.specs.declared.state.State.TheVariants as state
use Rattle.rh_client.specs.Client as client
use Rattle.law_moves.proofs.Vocabulary.{prefix_trans, ClientConfig, Cause, Leg, State, Course, Going, Closed, Refusing, cause_of, give_where, take_where, close_where, recycle_where, Rules, Acts, Shell, state_of, ClosedWith, Event, Hears, EndEvent, Happens, IsGiven, IsTaken, IsClosed, IsRecycled, after_event, after_end_event, after_end_events}
use Rattle.law_role_client.proofs.Vocabulary.{ClientRole}
use Rattle.law_node_history.proofs.Lemmas.{heard_append, happened_append, same_itself}
use Rattle.law_node_history.proofs.Vocabulary.{AreAcceptedAtEnd, happened, heard_in, heard_on, heard}
use Rattle.law_node_streams.proofs.Grown.Ends.{turn_front as turns_front}
use Rattle.law_node_streams.specs.Streams.{HearsInTurn}
use Rattle.law_node_traces.proofs.Traced.LostLegs.{closes_now, one_cause}
use Rattle.law_world_honest.proofs.Refusals.Heard.{ClientLaws, heard_refusal}
use Rattle.law_world_honest.specs.Refusals.Refused.{BeginsRefused, HeardRefusal}

-- ---- an act of an end closes nothing

module _ {S : Type 0} (rules : Rules S) (s : Shell S) (going : s.course ≡ Going) (why : Cause) where
  -- what leaves it going does not close it
  goes_on : (t : Shell S) → t.course ≡ Going → ClosedWith why t.course → ⊥
  goes_on t on h = subst (ClosedWith why) on h

  -- whatever is answered for the cause that it has
  module _ (acts : Acts S) where
    given : (pdu : List ℕ) (o : Option Cause) → (give_where acts s pdu o).0.course ≡ Going
    given pdu (Some why) = going
    given pdu None = going

    taken : (o : Option Cause) → (take_where acts s o).course ≡ Going
    taken (Some why) = going
    taken None = going

    closed : (o : Option Cause) → (close_where acts s o).course ≡ Going
    closed (Some why) = going
    closed None = going

    recycled : (x : State) → (recycle_where acts s x).0.course ≡ Going
    recycled state.Open = going
    recycled state.Opening = going
    recycled state.Ended = going
    recycled (state.Closed why) = going

    acts_close_none : (e : EndEvent) → ((event : Event) → e ≡ Happens event → ⊥)
        → ClosedWith why (after_end_event rules acts s e).course → ⊥
    acts_close_none e none h = goes_on (after_end_event rules acts s e) (by e none) h
      where
        by : (e : EndEvent) → ((event : Event) → e ≡ Happens event → ⊥)
            → (after_end_event rules acts s e).course ≡ Going
        by (Happens event) none = absurd (none event refl)
        by (IsGiven pdu) none = given pdu (cause_of s.course)
        by IsTaken none = taken (cause_of s.course)
        by IsClosed none = closed (cause_of s.course)
        by IsRecycled none = recycled (state_of rules s)

pub accepted_front : {S : Type 0} (rules : Rules S) (acts : Acts S) (s : Shell S)
    (es fs : List EndEvent) → AreAcceptedAtEnd rules acts s (es ++ fs)
    → AreAcceptedAtEnd rules acts s es
accepted_front rules acts s [] fs a = tt
accepted_front rules acts s (e ∷ es) fs a =
    (a.0, accepted_front rules acts (after_end_event rules acts s e) es fs a.1)

-- ---- a client

module _ (law : ClientLaws) (config : ClientConfig) (leg : Leg) (status : ℕ) where
  abbrev pub why : Cause
  why = cause.HttpRefused leg status

  abbrev pub start : Shell ClientRole
  start = client.first_client config

  abbrev pub after : List EndEvent → Shell ClientRole
  after events = after_end_events client.rules client.acts start events

  module _ (all : List EndEvent) (accepted : AreAcceptedAtEnd client.rules client.acts start all)
      (turns : HearsInTurn (happened all)) where
    -- the event closes it
    here : (events later : List EndEvent) (event : Event) → all ≡ events ++ Happens event ∷ later
        → (after events).course ≡ Going
        → ClosedWith why (after_event client.rules (after events) event).course
        → BeginsRefused (heard_on leg (happened all)) leg status
    here events later event is going h =
        let now = closes_now client.rules (after events) going why event h in
        let whole : happened all ≡ happened events ++ event ∷ happened later =
        ap happened is ∙ happened_append events (Happens event ∷ later) in
        let r : HeardRefusal (heard_on leg (happened events)) now.news leg status =
        heard_refusal law config events
        (accepted_front client.rules client.acts start events (Happens event ∷ later)
        (subst (λ (x : List EndEvent). AreAcceptedAtEnd client.rules client.acts start x) is
        accepted))
        (turns_front (happened events) (event ∷ happened later) (subst HearsInTurn whole turns))
        now.news leg status now.closing in
        let hears : event ≡ Hears leg r.piece = sym now.is ∙ ap heard r.is in
        let piece : heard_in leg event ≡ r.piece =
        ap (heard_in leg) hears ∙ ap (λ (t : Bool). cond t r.piece []) (same_itself leg) in
        let bytes : (heard_on leg (happened events) ++ r.piece) ++ heard_on leg (happened later)
        ≡ heard_on leg (happened all) =
        append_assoc (heard_on leg (happened events)) r.piece (heard_on leg (happened later))
        ∙ ap (λ (x : List ℕ).
        heard_on leg (happened events) ++ (x ++ heard_on leg (happened later))) (sym piece)
        ∙ sym (ap (heard_on leg) whole
        ∙ heard_append leg (happened events) (event ∷ happened later)) in
        record {
          text = r.begins.text;
          front = prefix_trans r.begins.text (heard_on leg (happened events) ++ r.piece)
              (heard_on leg (happened all)) r.begins.front
              (heard_on leg (happened later), bytes);
          refused = r.begins.refused;
        }

    by_event : (events later : List EndEvent) (e : EndEvent) → all ≡ events ++ e ∷ later
        → (after events).course ≡ Going
        → ClosedWith why (after_end_event client.rules client.acts (after events) e).course
        → BeginsRefused (heard_on leg (happened all)) leg status
    by_event events later (Happens event) is going h = here events later event is going h
    by_event events later (IsGiven pdu) is going h =
        absurd (acts_close_none client.rules (after events) going why client.acts (IsGiven pdu)
        (λ event e. absurd cc) h)
    by_event events later IsTaken is going h =
        absurd (acts_close_none client.rules (after events) going why client.acts IsTaken
        (λ event e. absurd cc) h)
    by_event events later IsClosed is going h =
        absurd (acts_close_none client.rules (after events) going why client.acts IsClosed
        (λ event e. absurd cc) h)
    by_event events later IsRecycled is going h =
        absurd (acts_close_none client.rules (after events) going why client.acts IsRecycled
        (λ event e. absurd cc) h)

    after_rest : (s : Shell ClientRole) (events later : List EndEvent)
        → after_end_events client.rules client.acts s (events ++ later)
        ≡ after_end_events client.rules client.acts
        (after_end_events client.rules client.acts s events) later
    after_rest s [] later = refl
    after_rest s (e ∷ events) later =
        after_rest (after_end_event client.rules client.acts s e) events later

    -- the first event that closed it
    find : (events later : List EndEvent) → all ≡ events ++ later
        → (after events).course ≡ Going → ClosedWith why (after all).course
        → BeginsRefused (heard_on leg (happened all)) leg status
    find events [] is going h =
        let same : all ≡ events = is ∙ append-nil events in
        absurd (subst (ClosedWith why)
        (ap (λ (x : List EndEvent). (after x).course) same ∙ going) h)
    find events (e ∷ later) is going h =
        by (after_end_event client.rules client.acts (after events) e).course refl
        (λ next. find (events ++ e ∷ []) later (is ∙ sym (append_assoc events (e ∷ []) later))
        (ap (λ (s : Shell ClientRole). s.course) (after_rest start events (e ∷ [])) ∙ next) h)
      where
        t : Shell ClientRole
        t = after_end_event client.rules client.acts (after events) e

        whole : after all ≡ after_end_events client.rules client.acts t later
        whole = ap after is ∙ after_rest start events (e ∷ later)

        now : (got : Cause) → ClosedWith got t.course
            → BeginsRefused (heard_on leg (happened all)) leg status
        now got closed =
            let same : got ≡ why =
            one_cause (after all).course got why
            (subst (λ (s : Shell ClientRole). ClosedWith got s.course) (sym whole)
            (law.stays t got later closed)) h in
            by_event events later e is going
            (subst (λ (x : Cause). ClosedWith x t.course) same closed)

        by : (c : Course) → t.course ≡ c
            → (t.course ≡ Going → BeginsRefused (heard_on leg (happened all)) leg status)
            → BeginsRefused (heard_on leg (happened all)) leg status
        by Going f next = next f
        by (Closed got) f next = now got (subst (ClosedWith got) (sym f) refl)
        by (Refusing got client rest) f next = now got (subst (ClosedWith got) (sym f) refl)

    pub closed_refused : ClosedWith why (after all).course
        → BeginsRefused (heard_on leg (happened all)) leg status
    closed_refused h = find [] all refl refl h

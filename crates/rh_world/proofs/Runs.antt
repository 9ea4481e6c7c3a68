-- what whole recordings carry, direction by direction
use Rattle.std.proofs.Common.{◌≡◌, ℕ, zero, suc, List, [], ◌∷◌, ◌++◌, take, length}
use Rattle.std.proofs.Common.{Some, None, Ok, Err, inl, inr, ◌⊎◌, sym, ◌∙◌, ap, refl, append_assoc, subst}
use Rattle.std.proofs.lemmas.List.{append-nil, map-append}
use Rattle.std.specs.declared.option.Option.{Option}
use Rattle.std.specs.declared.result.Result.{Result}
use Rattle.rh_text.specs.declared.ends.Side.{Side}
use Rattle.rh_text.specs.declared.ends.Side.TheVariants.{Client, Server}
use Rattle.rh_text.specs.declared.ends.Dir.{Dir}
use Rattle.rh_text.specs.declared.ends.Dir.TheVariants.{U, D}
use Rattle.rh_pdu.specs.declared.fault.PduFault.{PduFault}
use Rattle.rh_pdu.specs.Checking.{pdu_fault}
use Rattle.rh_pdu.specs.Cut.{frames_of}
use Rattle.rh_pdu.proofs.Pdus.{pdu_from_none}
use Rattle.rh_line.specs.Queue.{total}
use Rattle.rh_line.specs.declared.give_fault.GiveFault.{GiveFault}
use Rattle.rh_record.specs.declared.line.Line.{Line}
use Rattle.rh_record.specs.declared.line.Line.TheVariants as line
use Rattle.rh_record.specs.declared.answer.Answer.{Answer}
use Rattle.rh_record.specs.declared.answer.Answer.TheVariants as answer
use Rattle.rh_record.specs.declared.answer.TakeAnswer.{TakeAnswer}
use Rattle.rh_record.specs.declared.answer.TakeAnswer.TheVariants.{Pdu, Empty, Ended, Closed}
use Rattle.rh_world.specs.Direct.{Way, World, Deed, Offers, Asks, Draws, Feeds, Nothing}
use Rattle.rh_world.specs.Direct.{deed, act, giving, taking}
use Rattle.rh_world.specs.Direct.{empty, step, last, after, told, run}
use Rattle.rh_world.specs.Direct.{refusal, refusal_by, give, give_by, take_pdu, take_from}
use Rattle.rh_world.specs.Direct.{send, move, way_of, with_way}
use Rattle.rh_record.specs.Events.Events.{Event, Gives, Refuses, Takes, Ends, Closes, Stops, Silent}
use Rattle.rh_record.specs.Events.Events.{event, events, other, of_end, offer, offered, given, taken}
use Rattle.rh_record.specs.Events.Order.{IsPrefix, Counts, InOrder}
use Rattle.rh_world.proofs.Ways.{Carries, give_carries, send_carries, move_carries}
use Rattle.rh_world.proofs.Ways.{take_carries, empty_carries}

-- the end that gives in a direction, and the one that takes
abbrev pub giver : Dir → Side
giver U = Client
giver D = Server

abbrev pub taker : Dir → Side
taker d = other (giver d)

-- ---- one line

-- what is offered and told of one line keeps a direction sound, where it is `way` then
pub record Tells (d : Dir) (way : Way) (offers : List (List ℕ)) (es : List Event)
    (gave took : List (List ℕ)) : Type 0 where
  pub gave_now : List (List ℕ)
  pub took_now : List (List ℕ)
  pub carries : Carries way gave_now took_now
  pub gives : (pdus : List (List ℕ)) (more : List Event)
      → gave ++ given (giver d) (offers ++ pdus) (es ++ more) ≡ gave_now ++ given
      (giver d) pdus more
  pub takes : (more : List Event)
      → took ++ taken (taker d) (es ++ more) ≡ took_now ++ taken (taker d) more

-- where nothing of this direction is told, it stays sound with what was given and taken
nothing_told : (d : Dir) (way : Way) (offers : List (List ℕ)) (es : List Event)
    (gave took : List (List ℕ)) → Carries way gave took
    → ((pdus : List (List ℕ)) (more : List Event)
    → given (giver d) (offers ++ pdus) (es ++ more) ≡ given (giver d) pdus more)
    → ((more : List Event) → taken (taker d) (es ++ more) ≡ taken (taker d) more)
    → Tells d way offers es gave took
nothing_told d way offers es gave took h no_gives no_takes = record {
  gave_now = gave;
  took_now = took;
  carries = h;
  gives = λ pdus more. ap (λ x. gave ++ x) (no_gives pdus more);
  takes = λ more. ap (λ x. took ++ x) (no_takes more);
}

-- an end is itself
own : (end : Side) (pdu : List ℕ) → of_end end end pdu ≡ pdu ∷ []
own Client pdu = refl
own Server pdu = refl

-- where nothing is offered, nothing is given; nor where nothing is told
none_offered : (end : Side) (events : List Event) → given end [] events ≡ []
none_offered end [] = refl
none_offered end (e ∷ events) = refl

none_told : (end : Side) (pdus : List (List ℕ)) → given end pdus [] ≡ []
none_told end [] = refl
none_told end (pdu ∷ pdus) = refl

-- a take tells nothing of gives
take_passed : (end side : Side) (pdus : List (List ℕ)) (a : TakeAnswer) (more : List Event)
    → given end pdus (event (answer.Take side a) ∷ more) ≡ given end pdus more
take_passed end side [] a more = sym (none_offered end more)
take_passed end side (pdu ∷ pdus) (Pdu first) more = refl
take_passed end side (pdu ∷ pdus) Empty more = refl
take_passed end side (pdu ∷ pdus) Ended more = refl
take_passed end side (pdu ∷ pdus) (Closed cause) more = refl

-- nor does what is silent
silent_tells : (d : Dir) (way : Way) (gave took : List (List ℕ)) → Carries way gave took
    → Tells d way [] (Silent ∷ []) gave took
silent_tells d way gave took h =
    nothing_told d way [] (Silent ∷ []) gave took h
    (λ pdus more. take_passed (giver d) Client pdus Empty more) (λ more. refl)

-- ---- gives

-- what was not refused is a PDU
sound_by : (o : Option PduFault) (held len : ℕ) → refusal_by o held len ≡ None → o ≡ None
sound_by None held len h = refl
sound_by (Some f) held len h = absurd (cc)

-- a give in this direction
gives_here : (d : Dir) (way : Way) (pdu : List ℕ) (gave took : List (List ℕ)) (o : Option GiveFault)
    → Carries way gave took → refusal way pdu ≡ o
    → Tells d (give_by o way pdu).0 (pdu ∷ []) (event (answer.Give (giver d) (give_by o way pdu).1)
    ∷ [])
    gave took
gives_here d way pdu gave took (Some fault) h is =
    nothing_told d way (pdu ∷ []) (Refuses (giver d) ∷ []) gave took h (λ pdus more. refl)
    (λ more. refl)
gives_here d way pdu gave took None h is =
    let sound = pdu_from_none pdu (sound_by (pdu_fault pdu) (total way.queue) (length pdu) is) in
    record {
      gave_now = gave ++ pdu ∷ [];
      took_now = took;
      carries = give_carries way pdu gave took sound.frame h;
      gives = λ pdus more. ap (λ x. gave ++ (x ++ given (giver d) pdus more)) (own (giver d) pdu)
          ∙ sym (append_assoc gave (pdu ∷ []) (given (giver d) pdus more));
      takes = λ more. refl;
    }

-- a give of the other end
gives_there : (d : Dir) (side : Side) (way : Way) (pdu : List ℕ) (a : Result ℕ GiveFault)
    (gave took : List (List ℕ)) → of_end (giver d) side pdu ≡ [] → Carries way gave took
    → Tells d way (pdu ∷ []) (event (answer.Give side a) ∷ []) gave took
gives_there d side way pdu (Ok len) gave took is h =
    nothing_told d way (pdu ∷ []) (Gives side ∷ []) gave took h
    (λ pdus more. ap (λ x. x ++ given (giver d) pdus more) is) (λ more. refl)
gives_there d side way pdu (Err fault) gave took is h =
    nothing_told d way (pdu ∷ []) (Refuses side ∷ []) gave took h (λ pdus more. refl) (λ more. refl)

-- ---- takes

-- a take from this direction
takes_here : (d : Dir) (way : Way) (untaken gave took : List (List ℕ)) → Carries way gave took
    → way.untaken ≡ untaken
    → Tells d (take_from untaken way).0 [] (event (answer.Take (taker d) (take_from untaken way).1)
    ∷ [])
    gave took
takes_here d way [] gave took h is = silent_tells d way gave took h
takes_here d way (pdu ∷ untaken) gave took h is = record {
  gave_now = gave;
  took_now = took ++ pdu ∷ [];
  carries = take_carries way pdu untaken gave took is h;
  gives = λ pdus more. ap (λ x. gave ++ x) (take_passed (giver d) (taker d) pdus (Pdu pdu) more);
  takes = λ more. ap (λ x. took ++ (x ++ taken (taker d) more)) (own (taker d) pdu)
      ∙ sym (append_assoc took (pdu ∷ []) (taken (taker d) more));
}

-- a take of the other end tells of no PDU that this one takes
take_untold : (end side : Side) (a : TakeAnswer) (more : List Event)
    → ((pdu : List ℕ) → of_end end side pdu ≡ [])
    → taken end (event (answer.Take side a) ∷ more) ≡ taken end more
take_untold end side (Pdu pdu) more is = ap (λ x. x ++ taken end more) (is pdu)
take_untold end side Empty more is = refl
take_untold end side Ended more is = refl
take_untold end side (Closed cause) more is = refl

takes_there : (d : Dir) (side : Side) (way : Way) (a : TakeAnswer) (gave took : List (List ℕ))
    → ((pdu : List ℕ) → of_end (taker d) side pdu ≡ []) → Carries way gave took
    → Tells d way [] (event (answer.Take side a) ∷ []) gave took
takes_there d side way a gave took is h =
    nothing_told d way [] (event (answer.Take side a) ∷ []) gave took h
    (λ pdus more. take_passed (giver d) side pdus a more)
    (λ more. take_untold (taker d) side a more is)

-- ---- any line

-- what keeps one direction sound keeps both, where nothing is given or taken
both_carry : (d e : Dir) (world : World) (way : Way) (gave took : List (List ℕ))
    → Carries (way_of world d) gave took
    → (Carries (way_of world e) gave took → Carries way gave took)
    → Carries (way_of (with_way world e way) d) gave took
both_carry U U world way gave took h keeps = keeps h
both_carry U D world way gave took h keeps = h
both_carry D U world way gave took h keeps = h
both_carry D D world way gave took h keeps = keeps h

-- what a deed offers
abbrev offer_of : Deed → List (List ℕ)
offer_of (Offers side pdu) = pdu ∷ []
offer_of (Asks side) = []
offer_of (Draws dir n) = []
offer_of (Feeds dir n) = []
offer_of Nothing = []

offer_is : (line : Line) → offer line ≡ offer_of (deed line)
offer_is (line.First roles) = refl
offer_is (line.Set key value) = refl
offer_is (line.Give side pdu) = refl
offer_is (line.Take side) = refl
offer_is (line.Close side) = refl
offer_is (line.Send None dir n) = refl
offer_is (line.Send (Some leg) dir n) = refl
offer_is (line.Move None dir n) = refl
offer_is (line.Move (Some leg) dir n) = refl
offer_is (line.OpenLeg leg) = refl
offer_is (line.OpenSame leg) = refl
offer_is (line.BreakLeg leg) = refl
offer_is (line.EndLeg leg dir) = refl
offer_is (line.Tick now) = refl
offer_is line.RecycleIn = refl
offer_is line.RecycleOut = refl
offer_is (line.Settle rounds) = refl

deed_tells : (d : Dir) (world : World) (deed : Deed) (gave took : List (List ℕ))
    → Carries (way_of world d) gave took
    → Tells d (way_of (act world deed).0 d) (offer_of deed) (events (act world deed).1) gave took
deed_tells d world Nothing gave took h =
    nothing_told d (way_of world d) [] [] gave took h (λ pdus more. refl) (λ more. refl)
deed_tells U world (Offers Client pdu) gave took h =
    gives_here U world.up pdu gave took (refusal world.up pdu) h refl
deed_tells D world (Offers Server pdu) gave took h =
    gives_here D world.down pdu gave took (refusal world.down pdu) h refl
deed_tells U world (Offers Server pdu) gave took h =
    gives_there U Server world.up pdu (give world.down pdu).1 gave took refl h
deed_tells D world (Offers Client pdu) gave took h =
    gives_there D Client world.down pdu (give world.up pdu).1 gave took refl h
deed_tells U world (Asks Server) gave took h =
    takes_here U world.up world.up.untaken gave took h refl
deed_tells D world (Asks Client) gave took h =
    takes_here D world.down world.down.untaken gave took h refl
deed_tells U world (Asks Client) gave took h =
    takes_there U Client world.up (take_pdu world.down).1 gave took (λ pdu. refl) h
deed_tells D world (Asks Server) gave took h =
    takes_there D Server world.down (take_pdu world.up).1 gave took (λ pdu. refl) h
deed_tells d world (Draws e n) gave took h =
    silent_tells d (way_of (act world (Draws e n)).0 d) gave took
    (both_carry d e world (send (way_of world e) n).0 gave took h
    (send_carries (way_of world e) n gave took))
deed_tells d world (Feeds e n) gave took h =
    silent_tells d (way_of (act world (Feeds e n)).0 d) gave took
    (both_carry d e world (move (way_of world e) n).0 gave took h
    (move_carries (way_of world e) n gave took))

line_tells : (d : Dir) (world : World) (line : Line) (gave took : List (List ℕ))
    → Carries (way_of world d) gave took
    → Tells d (way_of (step world line).0 d) (offer line) (events (step world line).1) gave took
line_tells d world line gave took h =
    rw (offer_is line) (deed_tells d world (deed line) gave took h)

-- ---- all lines

-- what is told of one line and then of others
events-first : (world : World) (line : Line) (lines : List Line)
    → events (told world (line ∷ lines))
    ≡ events (step world line).1 ++ events (told (step world line).0 lines)
events-first world line lines =
    map-append event (step world line).1 (told (step world line).0 lines)

-- after lines, a direction is sound with what their report tells
pub after_carries : (d : Dir) (lines : List Line) (world : World) (gave took : List (List ℕ))
    → Carries (way_of world d) gave took
    → Carries (way_of (after world lines) d)
    (gave ++ given (giver d) (offered lines) (events (told world lines)))
    (took ++ taken (taker d) (events (told world lines)))
after_carries d [] world gave took h =
    subst (λ g. Carries (way_of world d) g (took ++ [])) (sym (append-nil gave))
    (subst (λ t. Carries (way_of world d) gave t) (sym (append-nil took)) h)
after_carries d (line ∷ lines) world gave took h =
    let t = line_tells d world line gave took h in
    let next = (step world line).0 in
    let more = events (told next lines) in
    let later = after_carries d lines next t.gave_now t.took_now t.carries in
    rw (events-first world line lines, t.gives (offered lines) more, t.takes more) later

-- what is taken is a front of what is given, at so many events
abbrev Ordered : Dir → List (List ℕ) → List (List ℕ) → List (List ℕ) → List Event → Type 0
Ordered d gave took pdus es = IsPrefix (took ++ taken (taker d) es)
    (gave ++ given (giver d) pdus es)

-- before the next event
carries_ordered : (d : Dir) (way : Way) (gave took pdus : List (List ℕ)) → Carries way gave took
    → Ordered d gave took pdus []
carries_ordered d way gave took pdus h =
    let left = way.untaken ++ frames_of (way.fed ++ (way.flight ++ way.undrawn)) in (
      left,
      ap (λ x. gave ++ x) (none_told (giver d) pdus) ∙ append-nil gave ∙ h.in_order
          ∙ ap (λ x. x ++ left) (sym (append-nil took)),
    )

-- a line is answered once at most
one_answer : (world : World) (deed : Deed) (more : List Event) (k : ℕ)
    → (j : ℕ) × (take (suc k) (events (act world deed).1 ++ more)
    ≡ events (act world deed).1 ++ take j more)
one_answer world Nothing more k = (suc k, refl)
one_answer world (Offers side pdu) more k = (k, refl)
one_answer world (Asks side) more k = (k, refl)
one_answer world (Draws dir n) more k = (k, refl)
one_answer world (Feeds dir n) more k = (k, refl)

run_ordered : (d : Dir) (lines : List Line) (world : World) (gave took : List (List ℕ)) (k : ℕ)
    → Carries (way_of world d) gave took
    → Ordered d gave took (offered lines) (take k (events (told world lines)))
run_ordered d lines world gave took zero h =
    carries_ordered d (way_of world d) gave took (offered lines) h
run_ordered d [] world gave took (suc zero) h = carries_ordered d (way_of world d) gave took [] h
run_ordered d [] world gave took (suc (suc zero)) h =
    carries_ordered d (way_of world d) gave took [] h
run_ordered d [] world gave took (suc (suc (suc k))) h =
    carries_ordered d (way_of world d) gave took [] h
run_ordered d (line ∷ lines) world gave took (suc k) h =
    let t = line_tells d world line gave took h in
    let next = (step world line).0 in
    let (j, is) = one_answer world (deed line) (events (told next lines)) k in
    let more = take j (events (told next lines)) in
    rw (events-first world line lines, is, t.gives (offered lines) more, t.takes more)
    (run_ordered d lines next t.gave_now t.took_now j t.carries)

-- ---- the order law

-- no answer of a direct world closes, stops or ends
abbrev IsPlain : Event → Type 0
IsPlain (Gives side) = Unit {0}
IsPlain (Refuses side) = Unit {0}
IsPlain (Takes side pdu) = Unit {0}
IsPlain (Ends side) = ⊥
IsPlain (Closes side) = ⊥
IsPlain (Stops side) = ⊥
IsPlain Silent = Unit {0}

abbrev ArePlain : List Event → Type 0
ArePlain [] = Unit {0}
ArePlain (e ∷ es) = IsPlain e × ArePlain es

plain_give : (side : Side) (a : Result ℕ GiveFault) → IsPlain (event (answer.Give side a))
plain_give side (Ok len) = tt
plain_give side (Err fault) = tt

plain_take : (side : Side) (way : Way) (untaken : List (List ℕ))
    → IsPlain (event (answer.Take side (take_from untaken way).1))
plain_take side way [] = tt
plain_take side way (pdu ∷ untaken) = tt

plain_deed : (world : World) (deed : Deed) (more : List Event) → ArePlain more
    → ArePlain (events (act world deed).1 ++ more)
plain_deed world (Offers side pdu) more h =
    (plain_give side (give (way_of world (giving side)) pdu).1, h)
plain_deed world (Asks side) more h =
    (plain_take side (way_of world (taking side)) (way_of world (taking side)).untaken, h)
plain_deed world (Draws dir n) more h = (tt, h)
plain_deed world (Feeds dir n) more h = (tt, h)
plain_deed world Nothing more h = h

all_plain : (lines : List Line) (world : World) → ArePlain (events (told world lines))
all_plain [] world = (tt, (tt, tt))
all_plain (line ∷ lines) world =
    let next = (step world line).0 in
    rw (events-first world line lines)
    (plain_deed world (deed line) (events (told next lines)) (all_plain lines next))

-- so is the one that stands at a place
plain_at : (es front behind : List Event) (stop : Event) → es ≡ front ++ stop ∷ behind
    → ArePlain es → IsPlain stop
plain_at [] [] behind stop is h = absurd (cc)
plain_at [] (f ∷ front) behind stop is h = absurd (cc)
plain_at (e ∷ es) [] behind stop is h = subst IsPlain (let same = is in cc) h.0
plain_at (e ∷ es) (f ∷ front) behind stop is h =
    plain_at es front behind stop (let same = is in cc) h.1

-- what is plain is neither of two events that aren't
neither : (stop a b : Event) → IsPlain stop → (IsPlain a → ⊥) → (IsPlain b → ⊥)
    → (stop ≡ a) ⊎ (stop ≡ b) → ⊥
neither stop a b plain not_a not_b (inl e) = not_a (subst IsPlain e plain)
neither stop a b plain not_a not_b (inr e) = not_b (subst IsPlain e plain)

-- the report ends by its last lines
told_last : (lines : List Line) (world : World)
    → (front : List Answer) × (told world lines ≡ front ++ last (after world lines))
told_last [] world = ([], refl)
told_last (line ∷ lines) world =
    let next = (step world line).0 in
    let later = told_last lines next in (
      (step world line).1 ++ later.0,
      ap (λ (x : List Answer). (step world line).1 ++ x) later.1
          ∙ sym (append_assoc (step world line).1 later.0 (last (after next lines))),
    )

last_shows : (world : World) (a b c d : ℕ) → world.up.given ≡ a → world.up.taken ≡ b
    → world.down.given ≡ c → world.down.taken ≡ d
    → last world ≡ answer.Up a b ∷ answer.Down c d ∷ []
last_shows world a b c d e f g h = rw (e, f, g, h) refl

run_counts : (lines : List Line) → Counts lines (run lines)
run_counts lines =
    let up = after_carries U lines empty [] [] empty_carries in
    let down = after_carries D lines empty [] [] empty_carries in
    let front = told_last lines empty in
    let shows = last_shows (after empty lines) _ _ _ _
    up.given_count up.taken_count down.given_count down.taken_count in
    (front.0, front.1 ∙ ap (λ (x : List Answer). front.0 ++ x) shows)

ordered_end : (lines : List Line) (end : Side) (k : ℕ)
    → IsPrefix (taken end (take k (events (run lines))))
    (given (other end) (offered lines) (take k (events (run lines))))
ordered_end lines Client k = run_ordered D lines empty [] [] k empty_carries
ordered_end lines Server k = run_ordered U lines empty [] [] k empty_carries

-- the report of every recording is in order
pub run_in_order : (lines : List Line) → InOrder lines (run lines)
run_in_order lines =
    let plain : (front behind : List Event) (stop : Event)
    → events (run lines) ≡ front ++ stop ∷ behind → IsPlain stop =
    λ front behind stop is. plain_at (events (run lines)) front behind stop is
    (all_plain lines empty) in
    record {
      order = record {
        in_order = ordered_end lines;
        none_taken_after = λ end front behind stop is stops.
            absurd (neither stop (Closes end) (Ends end) (plain front behind stop is) (λ n. n)
            (λ n. n) stops);
        none_given_after = λ end front behind stop is stops.
            absurd (neither stop (Closes end) (Stops end) (plain front behind stop is) (λ n. n)
            (λ n. n) stops);
        all_at_clean_end = λ end front behind is. absurd (plain front behind (Ends end) is);
      };
      counted = run_counts lines;
    }

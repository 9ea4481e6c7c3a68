-- a PDU that is given or taken is counted
use Rattle.law_order.proofs.Vocabulary.{◌≡◌, ℕ, List, [], ◌∷◌, Bool, true, false, Ok, Err, refl, sym, subst, list_all, Result}
use Rattle.rh_record.specs.Events.Events.{Event, Gives, Takes, Ends}
use Rattle.rh_record.specs.declared.answer.Answer.TheVariants as answer
use Rattle.rh_record.specs.declared.answer.TakeAnswer.TheVariants as takes
use Rattle.law_moves.proofs.Vocabulary.{Side, Client, Server, Cause, GiveFault, Shell}
use Rattle.law_node_history.proofs.Vocabulary.{TakeAnswer, Refuses, event, events, given, of_end, given_down, given_up, taken_down, taken_up, took, World}
use Rattle.law_world_reports.proofs.Ordering.Passing.{Passes, both, counted, passes_none, still}

-- ---- one event

given_take : (end at : Side) (pdu : List ℕ) (pdus : List (List ℕ)) (later : List Event)
    → given end pdus (Takes at pdu ∷ later) ≡ given end pdus later
given_take end at pdu [] [] = refl
given_take end at pdu [] (one ∷ later) = refl
given_take end at pdu (one ∷ pdus) later = refl

module _ {K C S I O : Type 0} (w v : World K C S I O) (at : Side) (pdu : List ℕ)
    (rest : List (List ℕ)) where
  one_gives : v.up ≡ counted w.up (of_end Client at pdu) []
      → v.down ≡ counted w.down (of_end Server at pdu) []
      → Passes w v (pdu ∷ rest) rest (Gives at ∷ [])
  one_gives up down = record {
    gave = λ end. of_end end at pdu;
    took = λ end. [];
    gives = λ end later. refl;
    takes = λ end later. refl;
    up = up;
    down = down;
  }

  one_refuses : v.up ≡ w.up → v.down ≡ w.down → Passes w v (pdu ∷ rest) rest (Refuses at ∷ [])
  one_refuses up down = record {
    gave = λ end. [];
    took = λ end. [];
    gives = λ end later. refl;
    takes = λ end later. refl;
    up = up;
    down = down;
  }

  one_takes : v.up ≡ counted w.up [] (of_end Server at pdu)
      → v.down ≡ counted w.down [] (of_end Client at pdu)
      → Passes w v rest rest (Takes at pdu ∷ [])
  one_takes up down = record {
    gave = λ end. [];
    took = λ end. of_end end at pdu;
    gives = λ end later. given_take end at pdu rest later;
    takes = λ end later. refl;
    up = up;
    down = down;
  }

-- ---- takes by their answers

-- what tells of a take that was answered so
abbrev pub TellsTake : Side → TakeAnswer → List Event → Type 0
TellsTake end (takes.Pdu pdu) told = told ≡ Takes end pdu ∷ []
TellsTake end other told = list_all passes_none told ≡ true

pub line_tells : (end : Side) (taking : TakeAnswer)
    → TellsTake end taking (event (answer.Take end taking) ∷ [])
line_tells end (takes.Pdu pdu) = refl
line_tells end taking = refl

module _ {K C S I O : Type 0} where
  -- as settling tells it
  pub took_passes : (w v : World K C S I O) (pdus : List (List ℕ)) (end : Side) (ended : Bool)
      (taking : TakeAnswer)
      → ((told : List Event) → TellsTake end taking told → Passes w v pdus pdus told)
      → Passes w (took end ended (v, taking)).0 pdus pdus (events (took end ended (v, taking)).1)
  took_passes w v pdus end ended (takes.Pdu pdu) h = h (Takes end pdu ∷ []) refl
  took_passes w v pdus end ended takes.Empty h = h [] refl
  took_passes w v pdus end false takes.Ended h = h (Ends end ∷ []) refl
  took_passes w v pdus end true takes.Ended h = h [] refl
  took_passes w v pdus end ended (takes.Closed why) h = h [] refl

  -- ---- towards the server, and towards the client

  pub give_up : (w : World K C S I O) (pdu : List ℕ) (rest : List (List ℕ)) (node : Shell C)
      (result : Result (Unit {0}) GiveFault)
      → Passes w (given_up w pdu (node, result)).0 (pdu ∷ rest) rest
      (event (answer.Give Client (given_up w pdu (node, result)).1) ∷ [])
  give_up w pdu rest node (Ok done) = one_gives w _ Client pdu rest refl refl
  give_up w pdu rest node (Err fault) = one_refuses w _ Client pdu rest refl refl

  pub give_down : (w : World K C S I O) (pdu : List ℕ) (rest : List (List ℕ)) (node : Shell S)
      (result : Result (Unit {0}) GiveFault)
      → Passes w (given_down w pdu (node, result)).0 (pdu ∷ rest) rest
      (event (answer.Give Server (given_down w pdu (node, result)).1) ∷ [])
  give_down w pdu rest node (Ok done) = one_gives w _ Server pdu rest refl refl
  give_down w pdu rest node (Err fault) = one_refuses w _ Server pdu rest refl refl

  -- a take, by the world behind each answer: a PDU that is taken is counted, and nothing else
  take_by : (w : World K C S I O) (v : TakeAnswer → World K C S I O) (end : Side)
      (pdus : List (List ℕ))
      → ((pdu : List ℕ) → Passes w (v (takes.Pdu pdu)) pdus pdus (Takes end pdu ∷ []))
      → both (v takes.Empty) ≡ both w → both (v takes.Ended) ≡ both w
      → ((why : Cause) → both (v (takes.Closed why)) ≡ both w)
      → (taking : TakeAnswer) (told : List Event) → TellsTake end taking told
      → Passes w (v taking) pdus pdus told
  take_by w v end pdus takes_one empty ended closed (takes.Pdu pdu) told is =
      subst (Passes w (v (takes.Pdu pdu)) pdus pdus) (sym is) (takes_one pdu)
  take_by w v end pdus takes_one empty ended closed takes.Empty told is =
      still w (v takes.Empty) pdus told empty is
  take_by w v end pdus takes_one empty ended closed takes.Ended told is =
      still w (v takes.Ended) pdus told ended is
  take_by w v end pdus takes_one empty ended closed (takes.Closed why) told is =
      still w (v (takes.Closed why)) pdus told (closed why) is

  pub take_down : (w : World K C S I O) (pdus : List (List ℕ)) (node : Shell C)
      (taking : TakeAnswer) (told : List Event) → TellsTake Client taking told
      → Passes w (taken_down w (node, taking)).0 pdus pdus told
  take_down w pdus node =
      take_by w (λ taking. (taken_down w (node, taking)).0) Client pdus
      (λ pdu. one_takes w _ Client pdu pdus refl refl) refl refl (λ why. refl)

  pub take_up : (w : World K C S I O) (pdus : List (List ℕ)) (node : Shell S)
      (taking : TakeAnswer) (told : List Event) → TellsTake Server taking told
      → Passes w (taken_up w (node, taking)).0 pdus pdus told
  take_up w pdus node =
      take_by w (λ taking. (taken_up w (node, taking)).0) Server pdus
      (λ pdu. one_takes w _ Server pdu pdus refl refl) refl refl (λ why. refl)

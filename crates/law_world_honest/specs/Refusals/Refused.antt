-- what a client heard where its channel is refused (MS-RPCH 3.2.2)
use Rattle.std.specs.Prelude.{◌≡◌, ◌++◌, ◌∷◌, ℕ, List, false}
use mathlib.Core.List.{IsPrefix}
use Rattle.rh_http.specs.declared.refusal.Refusal.{Refusal}
use Rattle.rh_http.specs.Texts.{refusal_text, status_of}
use Rattle.rh_line.specs.declared.leg.Leg.{Leg}
use Rattle.law_moves.specs.Moving as moving
use Rattle.rh_company.specs.declared.event.Event.{Event}
use Rattle.rh_company.specs.declared.event.Event.TheVariants.{Comes}
use Rattle.law_node_history.specs.Carried.{came_up}
use Rattle.law_node_causes.specs.Refusals.{IsRefusedBy}

-- the bytes of the leg begin with a response that refuses the channel with this status
pub record BeginsRefused (bytes : List ℕ) (leg : Leg) (status : ℕ) : Type 0 where
  pub text : List ℕ
  pub front : IsPrefix text bytes
  pub refused : IsRefusedBy leg text status

-- a piece came on the leg, where this was heard before, and so they begin
pub record HeardRefusal (before : List ℕ) (event : Event) (leg : Leg) (status : ℕ) : Type 0 where
  pub piece : List ℕ
  pub is : event ≡ Comes leg piece
  pub begins : BeginsRefused (before ++ piece) leg status

-- a node was told that a leg broke that had never come up there: it could not be connected
pub record IsUnreached (leg : Leg) (events : List moving.Event) : Type 0 where
  pub before : List moving.Event
  pub behind : List moving.Event
  pub split : events ≡ before ++ moving.Breaks leg ∷ behind
  pub never : came_up leg before ≡ false

-- all that was drawn is one refusal, which has this status
pub record DrewRefusal (drawn : List ℕ) (status : ℕ) : Type 0 where
  pub refusal : Refusal
  pub named : status_of refusal ≡ status
  pub drew : drawn ≡ refusal_text refusal

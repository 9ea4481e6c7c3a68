-- which heads a node that closed draws, and on which leg; and for which response a client closes
-- (MS-RPCH 2.1.2; which fault has which refusal, and what is told the client, is this profile's)
use Rattle.std.specs.Prelude.{ℕ, ◌≡◌, ◌⊎◌, List, drop, true, Some, Ok, Err}
use Rattle.rh_http.specs.declared.fault.HttpFault.{HttpFault}
use Rattle.rh_http.specs.declared.response.Response.{Response}
use Rattle.rh_http.specs.declared.refusal.Refusal.{Refusal}
use Rattle.rh_http.specs.declared.refusal.Refusal.TheVariants.{Unavailable}
use Rattle.rh_http.specs.Refusals.{refusal_of}
use Rattle.rh_http.specs.Texts.{refusal_text}
use Rattle.rh_http.specs.Heads.Verdicts.{response_verdict}
use Rattle.rh_line.specs.declared.leg.Leg.{Leg}
use Rattle.rh_line.specs.declared.leg.LegKind.TheVariants.{ClientOut}
use Rattle.rh_line.specs.declared.cause.Cause.{Cause}
use Rattle.rh_line.specs.declared.cause.Cause.TheVariants as cause
use Rattle.rh_shell.specs.declared.answers.HeadRefused.TheVariants.{Status}
use Rattle.rh_shell.specs.declared.course.Course.{Course}
use Rattle.rh_shell.specs.declared.course.Course.TheVariants.{Going, Closed, Refusing}
use Rattle.rh_shell.specs.Rules.{Rules}
use Rattle.rh_client.specs.Opening.{success}

-- so many bytes of the refusal's head were drawn
pub record IsRestOf (refusal : Refusal) (rest : List ℕ) : Type 0 where
  pub drawn : ℕ
  pub is : rest ≡ drop drawn (refusal_text refusal)

-- the client's request on the leg broke a rule: the head says which kind of fault it was
pub record RefusesRequest (why : Cause) (leg : Leg) (rest : List ℕ) : Type 0 where
  pub place : ℕ
  pub fault : HttpFault
  pub cause : why ≡ cause.BadHead leg place fault
  pub text : IsRestOf (refusal_of fault) rest

-- a leg that the role wanted could not be connected: the client is told so where the role says, by
-- a head of status 503
pub record TellsUnreached {S : Type 0} (rules : Rules S) (role : S) (why : Cause) (leg : Leg)
    (rest : List ℕ) : Type 0 where
  pub lost : Leg
  pub wanted : rules.wants role lost ≡ true
  pub cause : why ≡ cause.LegBroken lost
  pub told : rules.answers_on role ≡ Some leg
  pub text : IsRestOf Unavailable rest

-- a node refuses for one of these two reasons
abbrev pub MayRefuse : {S : Type 0} → Rules S → S → Course → Type 0
MayRefuse rules role Going = Unit {0}
MayRefuse rules role (Closed why) = Unit {0}
MayRefuse rules role (Refusing why leg rest) =
    RefusesRequest why leg rest ⊎ TellsUnreached rules role why leg rest

-- ---- proxies

-- the proxy's leg to the server could not be connected, and the client is told so on its leg
pub record TellsClient (client server : Leg) (why : Cause) (leg : Leg) (rest : List ℕ)
    : Type 0 where
  pub cause : why ≡ cause.LegBroken server
  pub told : leg ≡ client
  pub text : IsRestOf Unavailable rest

-- a client's request broke a rule
pub record RefusesClient (client : Leg) (why : Cause) (leg : Leg) (rest : List ℕ) : Type 0 where
  pub kind : leg.kind ≡ client.kind
  pub request : RefusesRequest why leg rest

-- why a proxy that has these legs refuses
abbrev pub MayRefuseOn : Leg → Leg → Course → Type 0
MayRefuseOn client server Going = Unit {0}
MayRefuseOn client server (Closed why) = Unit {0}
MayRefuseOn client server (Refusing why leg rest) =
    RefusesClient client why leg rest ⊎ TellsClient client server why leg rest

-- ---- responses

-- the head is a response of this status; on an OUT channel any but 200 refuses it, and on an IN
-- channel each does, since it has no response before its end
pub record IsRefusedBy (leg : Leg) (text : List ℕ) (status : ℕ) : Type 0 where
  pub response : Response
  pub read : response_verdict text ≡ Ok response
  pub told : response.status ≡ status
  pub failure : leg.kind ≡ ClientOut → status ≡ success → ⊥

-- the role never refuses a response for its status
abbrev pub RefusesNoStatus : {S : Type 0} → Rules S → Type 0
RefusesNoStatus {S} rules =
    (role : S) (leg : Leg) (text : List ℕ) (status : ℕ)
    → (rules.head role leg text).1 ≡ Err (Status status) → ⊥

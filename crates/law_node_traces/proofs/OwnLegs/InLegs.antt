-- on an IN leg a client waits for a head as long as it goes on, and refuses any that is whole
-- (MS-RPCH 2.1.2)
use Rattle.law_order.proofs.Vocabulary.{◌≡◌, ◌⊎◌, inl, inr, ℕ, List, ◌∷◌, [], ◌++◌, length, Bool, true, false, Some, None, Ok, Err, refl, sym, ap, ◌∙◌, subst, Option, Result}
use Rattle.rh_line.specs.declared.cause.Cause.TheVariants as cause
use Rattle.rh_shell.specs.Intakes.{Over}
use Rattle.rh_shell.specs.declared.stage.Stage.TheVariants as stage
use Rattle.rh_client.specs.declared.state.ClientRole.{ClientRole}
use Rattle.rh_client.specs.Opening.{head_by, pipe_by, wants_by}
use Rattle.rh_client.specs.Client as client
use Rattle.rh_client.specs.State as client_state
use Rattle.law_moves.proofs.Vocabulary.{ClientConfig, HttpFault, Response, response_verdict, Cause, Leg, LegKind, ClientOut, OutServer, ClientIn, InServer, Stage, Stop, Turn, behind_head, goes, head_row, hear, heard, touched, with_intake, take as taken, Intake, Came, Nothing, Head, Greeting, Frame, Fault, byte_by, is_whole_head, on_byte, text_by, NearEnd, first_stage, new_end, EndEvent, after_end_events}
use Rattle.law_node_traces.proofs.OwnLegs.Ends.{StaysSo, each_there, new_end_so, piece_so}
use Rattle.law_node_traces.proofs.OwnLegs.LegKinds.{heard_leg}
use Rattle.law_node_traces.proofs.Vocabulary.{IsOfClient, KeepsEnds}

-- ---- a byte where a head is waited for

-- nothing is whole by it, or a head is
abbrev IsText : Came → Type 0
IsText Nothing = Unit {0}
IsText (Head text) = Unit {0}
IsText came = ⊥

record StillWaits (next : Intake × Came) : Type 0 where
  stage : next.0.stage ≡ stage.Head
  came : IsText next.1

head_byte : (i : Intake) (all : List ℕ) (whole : Bool) → i.stage ≡ stage.Head
    → StillWaits (text_by i all (Head all) whole)
head_byte i all true is = record { stage = is; came = tt }
head_byte i all false is = record { stage = is; came = tt }

byte_waits : (i : Intake) (b : ℕ) → i.stage ≡ stage.Head → StillWaits (on_byte i b)
unfolding on_byte
byte_waits i b is =
    let all = i.held ++ b ∷ [] in
    subst (λ (s : Stage). StillWaits (byte_by s i all)) (sym is)
    (head_byte i all (is_whole_head all) is)

-- ---- a piece

-- a cause that a head has
abbrev pub IsOfHead : Cause → Type 0
IsOfHead (cause.BadHead leg place fault) = Unit {0}
IsOfHead (cause.HttpRefused leg status) = Unit {0}
IsOfHead why = ⊥

abbrev pub StopsByHead : Option Stop → Type 0
StopsByHead None = Unit {0}
StopsByHead (Some stop) = IsOfHead stop.cause

-- an IN leg waits for a head, and stops the client for a head alone
pub record WaitsOn (t : Turn ClientRole) : Type 0 where
  pub kind : t.end.leg.kind ≡ ClientIn
  pub stage : t.end.intake.stage ≡ stage.Head
  pub stop : StopsByHead t.stop

refused : (end : NearEnd) (role : ClientRole) (leg : Leg) (n : ℕ) (kind : LegKind)
    (verdict : Result Response HttpFault) → kind ≡ ClientIn → end.leg.kind ≡ ClientIn
    → end.intake.stage ≡ stage.Head
    → WaitsOn (behind_head end (head_row leg n (role, head_by kind verdict)))
refused end role leg n kind (Err fault) is same waits =
    record { kind = same; stage = waits; stop = tt }
refused end role leg n ClientIn (Ok response) is same waits =
    record { kind = same; stage = waits; stop = tt }
refused end role leg n ClientOut (Ok response) is same waits = absurd cc
refused end role leg n OutServer (Ok response) is same waits = absurd cc
refused end role leg n InServer (Ok response) is same waits = absurd cc

came_waits : (end : NearEnd) (role : ClientRole) (came : Came) → IsText came
    → end.leg.kind ≡ ClientIn → end.intake.stage ≡ stage.Head
    → WaitsOn (taken client.rules end role came)
unfolding taken
came_waits end role Nothing text same waits = record { kind = same; stage = waits; stop = tt }
came_waits end role (Head all) text same waits =
    refused end role end.leg (length all) end.leg.kind (response_verdict all) same same waits
came_waits end role (Greeting all) text same waits = absurd text
came_waits end role (Frame place frame) text same waits = absurd text
came_waits end role (Fault place fault) text same waits = absurd text
came_waits end role (Over length) text same waits = absurd text

module _ (now : ℕ) where
  heard_waits : (end : NearEnd) (role : ClientRole) (b : ℕ) → end.leg.kind ≡ ClientIn
      → end.intake.stage ≡ stage.Head → WaitsOn (heard client.rules now end role b)
  heard_waits end role b same waits =
      let next = on_byte end.intake b in
      let more = byte_waits end.intake b waits in
      came_waits (with_intake (touched end now) next.0) role next.1 more.came same more.stage

  pub piece_waits : (end : NearEnd) (role : ClientRole) (piece : List ℕ)
      → end.leg.kind ≡ ClientIn → end.intake.stage ≡ stage.Head
      → WaitsOn (hear client.rules now (goes end role) piece)
  piece_waits end role piece same waits =
      piece_so client.rules now WaitsOn
      (λ t b is. heard_waits t.end t.role b is.kind is.stage) (goes end role) piece
      (record { kind = same; stage = waits; stop = tt })

-- ---- the ends of a client

comes_up : (role : ClientRole) (leg : Leg) (now : ℕ) → client.rules.may_up role leg ≡ true
    → IsOfClient (new_end leg (client.rules.pipe role leg) now)
comes_up role leg now may = by leg.kind may
  where
    by : (kind : LegKind) → wants_by role leg.number kind ≡ true
        → (kind ≡ ClientOut)
        ⊎ ((kind ≡ ClientIn) × (first_stage (pipe_by kind) ≡ stage.Head))
    by ClientOut is = inl refl
    by ClientIn is = inr (refl, refl)
    by OutServer is = absurd cc
    by InServer is = absurd cc

client_so : StaysSo client.rules IsOfClient
client_so = record {
  comes = comes_up;
  hears = λ now end role b is. by now end role b is;
  like = λ a b leg intake is. alike a b leg intake is;
}
  where
    by : (now : ℕ) (end : NearEnd) (role : ClientRole) (b : ℕ) → IsOfClient end
        → IsOfClient (heard client.rules now end role b).end
    by now end role b (inl out) =
        inl (ap (λ (l : Leg). l.kind) (heard_leg client.rules now end role b) ∙ out)
    by now end role b (inr (kind, waits)) =
        let is = heard_waits now end role b kind waits in inr (is.kind, is.stage)

    alike : (a b : NearEnd) → a.leg ≡ b.leg → a.intake ≡ b.intake → IsOfClient b → IsOfClient a
    alike a b leg intake (inl out) = inl (ap (λ (l : Leg). l.kind) leg ∙ out)
    alike a b leg intake (inr (kind, waits)) =
        inr (
          ap (λ (l : Leg). l.kind) leg ∙ kind,
          ap (λ (i : Intake). i.stage) intake ∙ waits,
        )

pub client_keeps : (config : ClientConfig) (events : List EndEvent)
    → KeepsEnds IsOfClient
    (after_end_events client.rules client.acts (client.first_client config) events)
client_keeps config events end there =
    each_there IsOfClient _ end
    (new_end_so client.rules IsOfClient client_so client.acts (client_state.first config)
    client.rooms events) there

-- heads at the front of a leg's bytes: when one is whole, and which break a rule for who reads them
-- there (RFC 9112 section 2.1; MS-RPCH 2.1.2)
use Rattle.std.specs.Prelude.{ℕ, ◌≡◌, ◌<◌, ◌≤◌, ◌++◌, List, length, take, Bool, true, false, Ok, Err}
use Rattle.std.specs.declared.result.Result.{Result}
use mathlib.Core.List.{IsPrefix}
use Rattle.rh_http.specs.declared.response.Response.{Response}
use Rattle.rh_http.specs.Heads.Verdicts.{Asked, request_verdict, response_verdict}
use Rattle.rh_text.specs.declared.ends.Dir.{Dir}
use Rattle.rh_text.specs.declared.ends.Dir.TheVariants.{U, D}
use Rattle.rh_line.specs.declared.leg.Leg.{Leg}
use Rattle.rh_line.specs.declared.leg.LegKind.{LegKind}
use Rattle.rh_line.specs.declared.leg.LegKind.TheVariants.{ClientOut, OutServer, ClientIn, InServer}
use Rattle.rh_shell.specs.declared.answers.HeadRefused.{HeadRefused}
use Rattle.rh_shell.specs.declared.answers.HeadRefused.TheVariants as head
use Rattle.rh_shell.specs.declared.answers.HeadTaken.{HeadTaken}
use Rattle.rh_shell.specs.declared.stage.Stage.{Stage}
use Rattle.rh_shell.specs.declared.stage.Stage.TheVariants as stage
use Rattle.rh_shell.specs.Intakes.{is_whole_head}
use Rattle.rh_shell.specs.Rules.{Rules}

-- ---- whole heads

-- a head is waited for, as it was at the start: of all bytes these are held and the rest comes, and
-- no front of the held ones that is longer than so many is a whole head
pub record IsWaitedFor (start : Stage) (from : ℕ) (bytes held rest : List ℕ) : Type 0 where
  pub is_head : start ≡ stage.Head
  pub all : held ++ rest ≡ bytes
  pub none : (k : ℕ) → from < k → k ≤ length held → is_whole_head (take k held) ≡ false

-- the bytes begin with a head that was waited for; its last byte is the first behind so many that
-- makes one whole
pub record IsHeadThere (start : Stage) (from : ℕ) (bytes text : List ℕ) : Type 0 where
  pub is_head : start ≡ stage.Head
  pub front : IsPrefix text bytes
  pub whole : is_whole_head text ≡ true
  pub first : (k : ℕ) → from < k → k < length text → is_whole_head (take k text) ≡ false

-- ---- heads that break a rule

-- a request or a response that breaks one
abbrev pub BreaksRule : Result HeadTaken HeadRefused → Type 0
BreaksRule (Ok taken) = ⊥
BreaksRule (Err (head.Request fault)) = Unit {0}
BreaksRule (Err (head.Response fault)) = Unit {0}
BreaksRule (Err (head.Status status)) = ⊥

-- the role refuses such a head with which the bytes begin, whatever its state is
pub record RefusesBadHead {S : Type 0} (rules : Rules S) (leg : Leg) (start : Stage) (from : ℕ)
    (bytes : List ℕ) : Type 0 where
  pub role : S
  pub text : List ℕ
  pub stands : IsHeadThere start from bytes text
  pub refuses : BreaksRule (rules.head role leg text).1

-- ---- and heads that break none

abbrev pub IsRequest : Bool → List ℕ → Type 0
IsRequest inbound text = (asked : Asked) × (request_verdict inbound text ≡ Ok asked)

abbrev pub IsResponse : List ℕ → Type 0
IsResponse text = (response : Response) × (response_verdict text ≡ Ok response)

-- where a direction of a leg goes, the text is read as a request or a response; servers read and
-- put no heads
abbrev pub HeadIsRead : LegKind → Dir → List ℕ → Type 0
HeadIsRead ClientOut U text = IsRequest false text
HeadIsRead ClientOut D text = IsResponse text
HeadIsRead ClientIn U text = IsRequest true text
HeadIsRead ClientIn D text = IsResponse text
HeadIsRead OutServer dir text = Unit {0}
HeadIsRead InServer dir text = Unit {0}

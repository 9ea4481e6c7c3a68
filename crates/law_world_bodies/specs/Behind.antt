-- the bytes that were heard behind a head (RFC 9112 section 6)
use Rattle.std.specs.Prelude.{ℕ, ◌≡◌, ◌≤◌, ◌++◌, List, length, IfSome, Ok}
use Rattle.std.specs.declared.option.Option.{Option}
use Rattle.rh_sig.specs.declared.name.Pipe.{Pipe}
use Rattle.rh_line.specs.declared.leg.Leg.{Leg}
use Rattle.rh_shell.specs.declared.answers.HeadTaken.{HeadTaken}
use Rattle.rh_shell.specs.declared.stage.Body.{Body}
use Rattle.rh_shell.specs.declared.stage.Stage.TheVariants as stage
use Rattle.rh_shell.specs.Intakes.{is_whole_head}
use Rattle.rh_shell.specs.NearEnds.{first_stage}
use Rattle.rh_shell.specs.Rules.{Rules}
use Rattle.law_moves.specs.ReadBack.Reading.{IsWholeText}

-- the role, as it was in some state, took the head, which told so many bytes behind it
pub record TakesHead {S : Type 0} (rules : Rules S) (leg : Leg) (text : List ℕ) (told : ℕ)
    : Type 0 where
  pub role : S
  pub taken : HeadTaken
  pub takes : (rules.head role leg text).1 ≡ Ok taken
  pub tells : taken.length ≡ told

-- where a head comes first: what was heard is a whole head that was taken, and then so many bytes
-- or more
pub record HasBody {S : Type 0} (rules : Rules S) (pipe : Option Pipe) (leg : Leg)
    (heard : List ℕ) (count told : ℕ) : Type 0 where
  pub head : first_stage pipe ≡ stage.Head
  pub text : List ℕ
  pub rest : List ℕ
  pub split : heard ≡ text ++ rest
  pub whole : IsWholeText is_whole_head text
  pub takes : TakesHead rules leg text told
  pub within : count ≤ length rest

-- so it is of a body that is counted
abbrev pub BodyIs : {S : Type 0} → Rules S → Option Pipe → Leg → List ℕ → Option Body → Type 0
BodyIs rules pipe leg heard body =
    IfSome body (λ (b : Body). HasBody rules pipe leg heard b.came b.length)

-- what comes on a leg, byte by byte: a head (RFC 9112 section 2.1) or a greeting (profile), and
-- then frames (C706 12.6.3.1)
use Rattle.std.specs.Prelude.{ℕ, ◌+◌, ◌-◌, ◌==◌, ◌||◌, ◌++◌, List, [], ◌∷◌, length, drop, Bool, true, false, if◌then◌else◌, nat_lt, nat_le, Some, None}
use Rattle.std.specs.Str.{bytes_eq}
use Rattle.std.specs.declared.option.Option.{Option}
use Rattle.rh_http.specs.Ends.{blank_line}
use Rattle.rh_http.specs.Reading.{greatest_head}
use Rattle.rh_pdu.specs.declared.fault.HeadFault.{HeadFault}
use Rattle.rh_pdu.specs.Header.{header_length, frag_of, head_fault}
use Rattle.rh_pdu.specs.Feeding.{capped}
use Rattle.rh_shell.specs.declared.stage.Stage.{Stage}
use Rattle.rh_shell.specs.declared.stage.Stage.TheVariants as stage
use Rattle.rh_shell.specs.declared.stage.Body.{Body}
use Rattle.rh_shell.specs.declared.text.TheConstants.{GREETING_LEN}

-- what came and is not whole
pub record Intake : Type 0 where
  -- what the next bytes are
  pub stage : Stage
  -- the bytes of an unfinished head, greeting or frame
  pub held : List ℕ
  -- the place on the leg of the first of these bytes
  pub place : ℕ
  -- behind a head: the bytes that came, and how many it told
  pub body : Option Body

-- what a byte makes whole: a head, a greeting, or the frame that begins at a place; or what is
-- wrong with it: the header that begins at a place breaks a rule, or it is the first byte behind so
-- many of a body
pub data Came : Type 0 where
  Nothing : Came
  Head : List ℕ → Came
  Greeting : List ℕ → Came
  Frame : ℕ → List ℕ → Came
  Fault : ℕ → HeadFault → Came
  Over : ℕ → Came

abbrev pub fresh : Stage → Intake
fresh stage = record { stage = stage; held = []; place = 0; body = None }

-- ---- the bytes of a body

abbrev pub body_of : Option ℕ → Option Body
body_of None = None
body_of (Some length) = Some (record { came = 0; length = length })

abbrev pub counted : ℕ → Option Body → Option Body
counted n None = None
counted n (Some body) = Some (record body { came = body.came + n })

-- all bytes came that the head told
abbrev pub is_full : Option Body → Bool
is_full None = false
is_full (Some body) = body.came == body.length

abbrev pub length_told : Option Body → ℕ
length_told None = 0
length_told (Some body) = body.length

-- ---- a byte

abbrev pub holds : Intake → List ℕ → Intake × Came
holds i all = (record i { held = all }, Nothing)

-- these bytes are whole
abbrev pub behind : Intake → List ℕ → Intake
behind i all = record i { held = []; place = capped (i.place + length all) }

-- a blank line is at the end
unfoldable pub ends_head : List ℕ → Bool
ends_head all = bytes_eq (drop (length all - 4) all) blank_line

-- a head is whole by a blank line, or where it is too long to have one
abbrev pub is_whole_head : List ℕ → Bool
is_whole_head all = nat_le greatest_head (length all) || ends_head all

abbrev pub greeting_length : ℕ
greeting_length = GREETING_LEN

abbrev pub is_whole_greeting : List ℕ → Bool
is_whole_greeting all = nat_le greeting_length (length all)

abbrev pub text_by : Intake → List ℕ → Came → Bool → Intake × Came
text_by i all came true = (behind i all, came)
text_by i all came false = holds i all

-- a frame whose header is whole
abbrev pub frame_by : Intake → List ℕ → Option HeadFault → Intake × Came
frame_by i all (Some fault) =
    (record i { stage = stage.Shut; held = all }, Fault i.place fault)
frame_by i all None =
    if nat_lt (length all) (frag_of all) then holds i all else (behind i all, Frame i.place all)

abbrev pub frame_byte : Intake → List ℕ → Intake × Came
frame_byte i all =
    if nat_lt (length all) header_length then holds i all else frame_by i all (head_fault all)

-- a byte of a body, which may be one too many
abbrev pub body_byte : Intake → (Intake → Intake × Came) → Intake × Came
body_byte i next =
    if is_full i.body
    then (record i { stage = stage.Shut }, Over (length_told i.body))
    else next (record i { body = counted 1 i.body })

abbrev pub byte_by : Stage → Intake → List ℕ → Intake × Came
byte_by stage.Head i all = text_by i all (Head all) (is_whole_head all)
byte_by stage.Greeting i all = text_by i all (Greeting all) (is_whole_greeting all)
byte_by stage.Frames i all = body_byte i (λ j. frame_byte j all)
byte_by stage.PassedOver i all = body_byte i (λ j. (j, Nothing))
byte_by stage.Shut i all = (i, Nothing)

unfoldable pub on_byte : Intake → ℕ → Intake × Came
on_byte i b = byte_by i.stage i (i.held ++ b ∷ [])

-- ---- a piece, up to the end of what its bytes first make whole

pub record Scanned : Type 0 where
  pub intake : Intake
  pub came : Came
  pub left : List ℕ

abbrev pub is_nothing : Came → Bool
is_nothing Nothing = true
is_nothing came = false

unfoldable pub scan : Intake → List ℕ → Scanned
scan i [] = record { intake = i; came = Nothing; left = [] }
scan i (b ∷ bs) =
    if is_nothing (on_byte i b).1
    then scan (on_byte i b).0 bs
    else record { intake = (on_byte i b).0; came = (on_byte i b).1; left = bs }

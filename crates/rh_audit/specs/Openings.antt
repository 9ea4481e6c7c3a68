-- what stands at the front of a captured stream, before its frames: a head (RFC 9112 section 2.1)
-- or a greeting (profile)
use Rattle.std.specs.Prelude.{ℕ, suc, ◌==◌, List, [], ◌∷◌, codes, length, take, Bool, true, false, if◌then◌else◌, nat_le, bytes_eq, is_ok, Some, None}
use Rattle.std.specs.declared.option.Option.{Option}
use Rattle.rh_http.specs.Ends.{blank_line}
use Rattle.rh_http.specs.Reading.{greatest_head}
use Rattle.rh_http.specs.Heads.Verdicts.{request_verdict, response_verdict}
use Rattle.rh_sig.specs.declared.name.Pipe.{Pipe}
use Rattle.rh_sig.specs.declared.name.Pipe.TheVariants.{CiU, IsU, IsD, CoU, CoD, OsU, OsD}
use Rattle.rh_audit.specs.declared.opening.Opening.{Opening}
use Rattle.rh_audit.specs.declared.opening.Opening.TheVariants.{Waits, Opens, Fails}
use Rattle.rh_audit.specs.declared.opening.Begins.{Begins}
use Rattle.rh_audit.specs.declared.opening.Begins.TheVariants as begins

-- ---- heads

abbrev pub one_more : Option ℕ → Option ℕ
one_more None = None
one_more (Some n) = Some (suc n)

-- behind how many bytes the first blank line ends
unfoldable pub first_end : List ℕ → Option ℕ
first_end [] = None
first_end (b ∷ bytes) =
    if bytes_eq (take 4 (b ∷ bytes)) blank_line then Some 4 else one_more (first_end bytes)

-- or so many bytes, where they are there and no blank line ends among them
abbrev pub or_most : Option ℕ → ℕ → Option ℕ
or_most (Some n) size = Some n
or_most None size = if nat_le greatest_head size then Some greatest_head else None

-- where the head ends with which bytes begin
abbrev pub head_end : List ℕ → Option ℕ
head_end bytes = or_most (first_end (take greatest_head bytes)) (length bytes)

-- ---- what a stream begins with

-- on each pipe: a request for an IN channel (true) or an OUT channel, a response, a greeting, or
-- nothing
abbrev pub begins_with : Pipe → Begins
begins_with CiU = begins.Request true
begins_with IsU = begins.Frames
begins_with IsD = begins.Frames
begins_with CoU = begins.Request false
begins_with CoD = begins.Response
begins_with OsU = begins.Frames
begins_with OsD = begins.Greeting

-- the head is at fault where it ends
abbrev pub judged : ℕ → Bool → Opening
judged n true = Opens n
judged n false = Fails n

abbrev pub head_by : (List ℕ → Bool) → List ℕ → Option ℕ → Opening
head_by is_fine bytes None = Waits
head_by is_fine bytes (Some n) = judged n (is_fine (take n bytes))

-- what a server says first on a leg
abbrev pub greeting : List ℕ
greeting = codes "ncacn_http/1.0"

abbrev pub greeting_by : Bool → Opening
greeting_by true = Opens (length greeting)
greeting_by false = Fails 0

abbrev pub opening_by : Begins → List ℕ → Opening
opening_by (begins.Request inbound) bytes =
    head_by (λ text. is_ok (request_verdict inbound text)) bytes (head_end bytes)
opening_by begins.Response bytes =
    head_by (λ text. is_ok (response_verdict text)) bytes (head_end bytes)
opening_by begins.Greeting bytes =
    if nat_le (length greeting) (length bytes)
    then greeting_by (bytes_eq (take (length greeting) bytes) greeting)
    else Waits
opening_by begins.Frames bytes = Opens 0

-- it is whole, and so many bytes; or more are needed; or it is at fault at a place
abbrev pub opening : Pipe → List ℕ → Opening
opening pipe bytes = opening_by (begins_with pipe) bytes

-- how many bytes are told
abbrev pub extent : Opening → ℕ
extent Waits = 0
extent (Opens n) = n
extent (Fails n) = n

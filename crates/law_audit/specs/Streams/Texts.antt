-- the texts with which streams begin (RFC 9112 section 2.1; MS-RPCH 2.1.2; the greeting is this
-- profile's)
use Rattle.std.specs.Prelude.{◌≡◌, ◌≤◌, ℕ, Bool, List, [], true, false, length, is_ok}
use Rattle.rh_http.specs.Heads.Ends.{is_whole}
use Rattle.rh_http.specs.Heads.Verdicts.{request_verdict, response_verdict}
use Rattle.rh_http.specs.Reading.{greatest_head}
use Rattle.rh_sig.specs.declared.name.Pipe.{Pipe}
use Rattle.rh_sig.specs.declared.name.Pipe.TheVariants.{CiU, IsU, IsD, CoU, CoD, OsU, OsD}
use Rattle.rh_audit.specs.Openings.{greeting}

-- it ends with its first blank line, is no longer than a head may be, and passes
pub record IsFineHead (passes : Bool) (text : List ℕ) : Type 0 where
  pub whole : is_whole text ≡ true
  pub short : length text ≤ greatest_head
  pub fine : passes ≡ true

-- a fine one with which a stream on the pipe begins: a request for an IN channel (true) or an OUT
-- channel, a response, the greeting, or none
abbrev pub IsFineText : Pipe → List ℕ → Type 0
IsFineText CiU text = IsFineHead (is_ok (request_verdict true text)) text
IsFineText CoU text = IsFineHead (is_ok (request_verdict false text)) text
IsFineText CoD text = IsFineHead (is_ok (response_verdict text)) text
IsFineText OsD text = text ≡ greeting
IsFineText IsU text = text ≡ []
IsFineText IsD text = text ≡ []
IsFineText OsU text = text ≡ []

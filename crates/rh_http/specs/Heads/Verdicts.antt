-- what a text is as a head (profile): what it asks or tells, or what is first wrong with it
use Rattle.std.specs.Prelude.{ℕ, Bool, List, map, Option, Some, None, Ok, Err, bytes_eq, if◌then◌else◌}
use Rattle.std.specs.declared.result.Result.{Result}
use Rattle.httparse.specs.Grammar.{RequestHead, ResponseHead, status_code}
use Rattle.httparse.specs.Spans.{name_and_value}
use Rattle.rh_http.specs.declared.fault.HttpFault.{HttpFault}
use Rattle.rh_http.specs.declared.fault.HttpFault.TheVariants.{TooLong, Syntax, Method, Path, Target, Length}
use Rattle.rh_http.specs.declared.request.Request.{Request}
use Rattle.rh_http.specs.declared.response.Response.{Response}
use Rattle.rh_http.specs.Requests.{Parts, host_text, method_of, parts_of, path_of}
use Rattle.rh_http.specs.Heads.Readers.{all_of}
use Rattle.rh_http.specs.Heads.Heads.{request_head, response_head}
use Rattle.rh_http.specs.Heads.Ends.{is_whole}
use Rattle.rh_http.specs.Heads.Steps.{is_path, server_behind, request_length, response_length}

-- what a request asks for: the host and the port of the server, and the bytes behind the head
pub record Asked : Type 0 where
  pub host : List ℕ
  pub port : ℕ
  pub length : ℕ

abbrev pub asked : Request → Asked
asked request =
    record { host = host_text request.host; port = request.port; length = request.length }

abbrev pub asked_of : Result Request HttpFault → Result Asked HttpFault
asked_of (Ok request) = Ok (asked request)
asked_of (Err fault) = Err fault

-- ---- requests

-- a server and a length; else the fault of the first that is not there
abbrev pub asks : Option (List ℕ × ℕ) → Option ℕ → Result Asked HttpFault
asks None n = Err Target
asks (Some server) None = Err Length
asks (Some server) (Some n) = Ok (record { host = server.0; port = server.1; length = n })

-- the method, the path, the server and the length, in this order
abbrev pub tried : Bool → Parts → Result Asked HttpFault
tried inbound p =
    if bytes_eq p.method (method_of inbound) then (
    if is_path (path_of p.target) then
    asks (server_behind p.target) (request_length inbound p.fields)
    else Err Path
    ) else Err Method

-- first of all it is a head
abbrev pub request_judged : Bool → Option RequestHead → Result Asked HttpFault
request_judged inbound None = Err Syntax
request_judged inbound (Some head) = tried inbound (parts_of head)

-- what a text asks for as a request for an IN channel (true) or an OUT channel; a text that does
-- not end with its first blank line is too long
unfoldable pub request_verdict : Bool → List ℕ → Result Asked HttpFault
request_verdict inbound text =
    if is_whole text then request_judged inbound (all_of (request_head text)) else Err TooLong

-- ---- responses

-- a status, and a length that is taken
abbrev pub told : ℕ → Option ℕ → Result Response HttpFault
told status None = Err Length
told status (Some n) = Ok (record { status = status; length = n })

abbrev pub response_judged : Option ResponseHead → Result Response HttpFault
response_judged None = Err Syntax
response_judged (Some head) =
    told (status_code head)
    (response_length (status_code head) (map name_and_value head.fields))

-- what a text tells as a response
unfoldable pub response_verdict : List ℕ → Result Response HttpFault
response_verdict text =
    if is_whole text then response_judged (all_of (response_head text)) else Err TooLong

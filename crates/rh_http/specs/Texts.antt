-- the heads that clients and proxies write (MS-RPCH 2.1.2, RFC 9112 sections 2.1 and 5; the choice
-- of fields is this profile's)
use Rattle.std.specs.Prelude.{◌≡◌, ◌<◌, ◌≤◌, ℕ, Bool, true, false, List, [], ◌∷◌, ◌++◌, codes, length, map, drop, IsTrue, Ok, Err}
use Rattle.std.specs.declared.result.Result.{Result}
use Rattle.std.specs.Fmt.{decimal}
use Rattle.rh_text.specs.declared.lines.TheConstants.{LINE_FEED}
use Rattle.rh_rts.specs.declared.fault.NoRoom.{NoRoom}
use Rattle.rh_http.specs.declared.config.ClientConfig.{ClientConfig}
use Rattle.rh_http.specs.declared.refusal.Refusal.{Refusal}
use Rattle.rh_http.specs.declared.refusal.Refusal.TheVariants.{Bad, Missing, Unavailable}
use Rattle.rh_http.specs.declared.got.Got.TheVariants.{Head}
use Rattle.rh_http.specs.declared.writing.TheConstants.{ECHO_LEN}
use Rattle.rh_http.specs.declared.end.TheConstants.{CARRIAGE_RETURN}
use Rattle.rh_http.specs.declared.lengths.TheConstants.{BAD_REQUEST, NOT_FOUND, SERVICE_UNAVAILABLE}
use Rattle.rh_http.specs.declared.numbers.TheConstants.{LEAST_PORT, GREATEST_PORT}
use Rattle.rh_http.specs.Lengths.{Fields, may_ask}
use Rattle.rh_http.specs.Reading.{IsAnswer}
use Rattle.rh_http.specs.Responses.{JudgesResponse}
use Rattle.rh_http.specs.Requests.{JudgesRequest, host_text, method_of}

-- the end of a line
abbrev pub crlf : List ℕ
crlf = CARRIAGE_RETURN ∷ LINE_FEED ∷ []

-- lines, and the empty line behind them
abbrev pub head_of : List (List ℕ) → List ℕ
head_of [] = crlf
head_of (line ∷ lines) = line ++ (crlf ++ head_of lines)

-- a field's line: its name and its value
abbrev pub field_line : List ℕ × List ℕ → List ℕ
field_line field = field.0 ++ (codes ": " ++ field.1)

-- ---- requests

-- the target of a server, whose port is these digits
abbrev pub target_of : List ℕ → List ℕ → List ℕ
target_of host port = codes "/rpc/rpcproxy.dll?" ++ (host ++ (codes ":" ++ port))

abbrev pub request_line : List ℕ → List ℕ → List ℕ
request_line method target = method ++ (codes " " ++ (target ++ codes " HTTP/1.1"))

-- the fields of a request to this proxy, with a length of these digits
abbrev pub request_fields : List ℕ → List ℕ → Fields
request_fields proxy digits =
    (codes "Accept", codes "application/rpc")
    ∷ (codes "User-Agent", codes "MSRPC")
    ∷ (codes "Host", proxy)
    ∷ (codes "Content-Length", digits)
    ∷ (codes "Connection", codes "Keep-Alive")
    ∷ (codes "Cache-Control", codes "no-cache")
    ∷ (codes "Pragma", codes "no-cache")
    ∷ []

-- the lines of a request with this method, target and length, to this proxy
abbrev pub request_lines : List ℕ → List ℕ → List ℕ → List ℕ → List (List ℕ)
request_lines method target proxy digits =
    request_line method target ∷ map field_line (request_fields proxy digits)

-- the request of the client of this configuration, with this method and length
unfoldable pub request_text : List ℕ → ClientConfig → ℕ → List ℕ
request_text method config n =
    head_of (
    request_lines method (target_of (host_text config.host) (decimal config.port))
    (host_text config.proxy_host)
    (decimal n)
    )

-- the request for an IN channel, whose length is the channel's lifetime
abbrev pub in_request : ClientConfig → List ℕ
in_request config = request_text (method_of true) config config.lifetime

-- the request for an OUT channel
abbrev pub out_request : ClientConfig → ℕ → List ℕ
out_request config n = request_text (method_of false) config n

-- where the port and the length are in range, the text is read as a request for that server with
-- that length, whatever follows it
abbrev pub IsReadAs : Bool → ClientConfig → ℕ → List ℕ → Type 0
IsReadAs inbound config n text =
    LEAST_PORT ≤ config.port → config.port ≤ GREATEST_PORT → IsTrue (may_ask inbound n)
    → (rest : List ℕ)
    → IsAnswer (JudgesRequest inbound) (text ++ rest)
    (Head (record { host = config.host; port = config.port; length = n }) (length text))

-- ---- responses

-- a status line with these digits and this reason
abbrev pub status_line : List ℕ → List ℕ → List ℕ
status_line digits reason = codes "HTTP/1.1 " ++ (digits ++ (codes " " ++ reason))

-- the response of success, with a length
unfoldable pub response_text : ℕ → List ℕ
response_text n = head_of (
    status_line (codes "200") (codes "Success")
    ∷ field_line (codes "Content-Type", codes "application/rpc")
    ∷ field_line (codes "Content-Length", decimal n)
    ∷ []
    )

-- the bytes of an Echo packet
abbrev pub echo_length : ℕ
echo_length = ECHO_LEN

-- the status of a refusal, and its line
abbrev pub status_of : Refusal → ℕ
status_of Bad = BAD_REQUEST
status_of Missing = NOT_FOUND
status_of Unavailable = SERVICE_UNAVAILABLE

abbrev pub refusal_line : Refusal → List ℕ
refusal_line Bad = status_line (codes "400") (codes "Bad Request")
refusal_line Missing = status_line (codes "404") (codes "Not Found")
refusal_line Unavailable = status_line (codes "503") (codes "RPC Error: 6ba")

-- a refusal, which has no body
abbrev pub refusal_text : Refusal → List ℕ
refusal_text refusal =
    head_of (refusal_line refusal ∷ field_line (codes "Content-Length", codes "0") ∷ [])

-- the text is read as a response with this status and this length, whatever follows it
abbrev pub IsToldAs : ℕ → ℕ → List ℕ → Type 0
IsToldAs status n text =
    (rest : List ℕ)
    → IsAnswer JudgesResponse (text ++ rest)
    (Head (record { status = status; length = n }) (length text))

-- ---- writing

-- the text stands at the front of the room and the rest is as before; or the room is too short, and
-- as before
abbrev pub Writes : List ℕ → List ℕ → List ℕ → Result ℕ NoRoom → Type 0
Writes text before after (Ok len) =
    (len ≡ length text) × (len ≤ length before) × (after ≡ text ++ drop len before)
Writes text before after (Err wrong) =
    (wrong.need ≡ length text) × (length before < wrong.need) × (after ≡ before)

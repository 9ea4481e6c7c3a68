-- the steps in which a head is judged (profile), each as a function
use Rattle.std.specs.Prelude.{ℕ, Bool, List, [], ◌∷◌, ◌++◌, ◌==◌, ◌&&◌, ◌||◌, length, codes, decimal, bytes_eq, nat_le, Option, Some, None, option_and_then, if◌then◌else◌}
use Rattle.std.specs.List.{before_first, list_all}
use Rattle.std.specs.Str.{all_ascii_digits, str_to_ascii_lowercase}
use Rattle.std.specs.Str.Parse.{digits_value}
use Rattle.rh_http.specs.declared.numbers.TheConstants.{MOST_DIGITS, LEAST_PORT, GREATEST_PORT}
use Rattle.rh_http.specs.declared.target.TheConstants.{QUESTION_MARK, COLON}
use Rattle.rh_http.specs.Hosts.{greatest_host, is_host_byte}
use Rattle.rh_http.specs.Lengths.{Fields, greatest_response, lengths_of, may_ask, success}
use Rattle.rh_http.specs.Requests.{path_of}
use Rattle.rh_http.specs.Heads.Readers.{behind}

-- what passes a test
abbrev pub only_if : {A : Type 0} → Bool → A → Option A
only_if passes x = if passes then Some x else None

-- ---- targets

-- the path of a proxy, in letters of either case
abbrev pub is_path : List ℕ → Bool
is_path path =
    bytes_eq (str_to_ascii_lowercase path) (codes "/rpc/rpcproxy.dll")
    || bytes_eq (str_to_ascii_lowercase path) (codes "/rpcwithcert/rpcproxy.dll")

-- what stands behind the first question mark
abbrev pub query_of : List ℕ → Option (List ℕ)
query_of target = behind (path_of target ++ QUESTION_MARK ∷ []) target

-- 1 to 255 characters that may stand in a host
abbrev pub is_host : List ℕ → Bool
is_host text =
    nat_le 1 (length text) && (nat_le (length text) greatest_host && list_all is_host_byte text)

-- a number from 1 to 65,535 in decimal, with no leading zero
abbrev pub is_port : List ℕ → ℕ → Bool
is_port digits number =
    bytes_eq digits (decimal number) && (nat_le LEAST_PORT number && nat_le number GREATEST_PORT)

abbrev pub port_of : List ℕ → Option ℕ
port_of digits = only_if (is_port digits (digits_value 10 digits)) (digits_value 10 digits)

-- a host and a port, with a colon between them
abbrev pub host_before : List ℕ → List ℕ
host_before query = before_first (λ c. c == COLON) query

abbrev pub port_behind : List ℕ → Option ℕ
port_behind query = option_and_then port_of (behind (host_before query ++ COLON ∷ []) query)

abbrev pub with_port : List ℕ → Option ℕ → Option (List ℕ × ℕ)
with_port host None = None
with_port host (Some port) = only_if (is_host host) (host, port)

abbrev pub server_of : List ℕ → Option (List ℕ × ℕ)
server_of query = with_port (host_before query) (port_behind query)

-- the server that stands behind the path
abbrev pub server_behind : List ℕ → Option (List ℕ × ℕ)
server_behind target = option_and_then server_of (query_of target)

-- ---- lengths (RFC 9112 section 6.2)

-- the number that 1 to 10 digits spell
abbrev pub is_length_text : List ℕ → Bool
is_length_text text =
    nat_le 1 (length text) && (nat_le (length text) MOST_DIGITS && all_ascii_digits text)

abbrev pub length_in : List ℕ → Option ℕ
length_in text = only_if (is_length_text text) (digits_value 10 text)

-- a number that is taken
abbrev pub taken : (ℕ → Bool) → Option ℕ → Option ℕ
taken may None = None
taken may (Some n) = only_if (may n) n

-- the length of a request, of the values of its fields of that name: there is just one
abbrev pub asked_length : Bool → List (List ℕ) → Option ℕ
asked_length inbound [] = None
asked_length inbound (text ∷ []) = taken (may_ask inbound) (length_in text)
asked_length inbound (text ∷ again ∷ texts) = None

abbrev pub request_length : Bool → Fields → Option ℕ
request_length inbound fields = asked_length inbound (lengths_of fields)

-- the length of a response; where its status isn't 200 and there is none, 0
abbrev pub told_length : ℕ → List (List ℕ) → Option ℕ
told_length status [] = if status == success then None else Some 0
told_length status (text ∷ []) = taken (λ n. nat_le n greatest_response) (length_in text)
told_length status (text ∷ again ∷ texts) = None

abbrev pub response_length : ℕ → Fields → Option ℕ
response_length status fields = told_length status (lengths_of fields)

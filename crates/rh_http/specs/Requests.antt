-- the requests that open channels (MS-RPCH 2.1.2), and the order in which one is judged (profile)
use Rattle.std.specs.Prelude.{◌≡◌, ◌≢◌, ◌≤◌, ◌⊎◌, ◌==◌, ℕ, Bool, true, false, List, [], ◌∷◌, ◌++◌, codes, length, take, map, Ok, Err}
use Rattle.std.specs.declared.result.Result.{Result}
use Rattle.std.specs.List.{before_first}
use Rattle.std.specs.Str.{str_to_ascii_lowercase}
use Rattle.httparse.specs.Grammar.{RequestHead, ReadsRequest}
use Rattle.httparse.specs.Spans.{name_and_value}
use Rattle.rh_http.specs.declared.fault.HttpFault.{HttpFault}
use Rattle.rh_http.specs.declared.fault.HttpFault.TheVariants.{TooLong, Syntax, Method, Path, Target, Length}
use Rattle.rh_http.specs.declared.got.TheConstants.{GREATEST_FIELDS}
use Rattle.rh_http.specs.declared.host.Host.{Host}
use Rattle.rh_http.specs.declared.request.Request.{Request}
use Rattle.rh_http.specs.declared.target.TheConstants.{QUESTION_MARK, COLON}
use Rattle.rh_http.specs.Hosts.{IsHost}
use Rattle.rh_http.specs.Numbers.{IsPortText}
use Rattle.rh_http.specs.Lengths.{Fields, AsksLength}

-- the most fields of a head
abbrev pub greatest_fields : ℕ
greatest_fields = GREATEST_FIELDS

-- the text is this request head, which has no more fields
pub record IsRequestText (text : List ℕ) (head : RequestHead) : Type 0 where
  pub reads : ReadsRequest text head []
  pub few : length head.fields ≤ greatest_fields

-- the method for an IN channel (true), or an OUT channel
abbrev pub method_of : Bool → List ℕ
method_of true = codes "RPC_IN_DATA"
method_of false = codes "RPC_OUT_DATA"

-- a target up to its first question mark; all of it where it has none
abbrev pub path_of : List ℕ → List ℕ
path_of target = before_first (λ c. c == QUESTION_MARK) target

-- the path of a proxy, in letters of either case
abbrev pub IsPath : List ℕ → Type 0
IsPath path =
    (str_to_ascii_lowercase path ≡ codes "/rpc/rpcproxy.dll")
    ⊎ (str_to_ascii_lowercase path ≡ codes "/rpcwithcert/rpcproxy.dll")

-- a host, a colon and a port
pub record IsServer (query host : List ℕ) (port : ℕ) : Type 0 where
  pub is_host : IsHost host
  pub digits : List ℕ
  pub is_port : IsPortText digits port
  pub joined : query ≡ host ++ COLON ∷ digits

-- which stand behind the first question mark
abbrev pub IsTarget : List ℕ → List ℕ → ℕ → Type 0
IsTarget target host port =
    (query : List ℕ) × (target ≡ path_of target ++ QUESTION_MARK ∷ query) × IsServer query host port

-- some host and port stand there
abbrev pub HasTarget : List ℕ → Type 0
HasTarget target = (host : List ℕ) × (port : ℕ) × IsTarget target host port

-- the characters of a host
abbrev pub host_text : Host → List ℕ
host_text host = take host.len host.bytes

-- ---- the steps

-- what they look at
pub record Parts : Type 0 where
  pub method : List ℕ
  pub target : List ℕ
  pub fields : Fields

abbrev pub parts_of : RequestHead → Parts
parts_of head =
    record { method = head.method; target = head.target; fields = map name_and_value head.fields }

-- the request that passes them all; else the fault of the first that fails
abbrev pub Passes : Bool → Parts → Result Request HttpFault → Type 0
Passes inbound p (Ok request) =
    (p.method ≡ method_of inbound) × IsPath (path_of p.target)
    × IsTarget p.target (host_text request.host) request.port
    × AsksLength inbound p.fields request.length
Passes inbound p (Err Method) = p.method ≢ method_of inbound
Passes inbound p (Err Path) = (p.method ≡ method_of inbound) × (¬ IsPath (path_of p.target))
Passes inbound p (Err Target) =
    (p.method ≡ method_of inbound) × IsPath (path_of p.target) × (¬ HasTarget p.target)
Passes inbound p (Err Length) =
    (p.method ≡ method_of inbound) × IsPath (path_of p.target) × HasTarget p.target
    × ((n : ℕ) → ¬ AsksLength inbound p.fields n)
Passes inbound p (Err TooLong) = ⊥
Passes inbound p (Err Syntax) = ⊥

-- the text is a head that passes; else the first that is wrong with it
abbrev pub JudgesRequest : Bool → List ℕ → Result Request HttpFault → Type 0
JudgesRequest inbound text (Err Syntax) = (head : RequestHead) → ¬ IsRequestText text head
JudgesRequest inbound text verdict =
    (head : RequestHead) × IsRequestText text head × Passes inbound (parts_of head) verdict

-- the host and the port behind a path
use Rattle.std.proofs.Common.{◌≡◌, ◌≢◌, ℕ, ◌<◌, true, false, List, ◌∷◌, ◌++◌, length, get_or, sym, ap, ◌∙◌, subst, arith}
use Rattle.std.specs.Prelude.{◌==◌, MatchOption, Some, None}
use Rattle.std.specs.declared.option.Option.{Option}
use Rattle.std.specs.List.{before_first, list_all}
use Rattle.std.proofs.lemmas.List.{append_cancel_left, length-append}
use Rattle.std.proofs.lemmas.List.Folds.{list_all_at}
use Rattle.rh_http.specs.Hosts.{IsHost, is_host_byte}
use Rattle.rh_http.specs.Numbers.{IsPortText}
use Rattle.rh_http.specs.declared.host.Host.{Host}
use Rattle.rh_http.specs.Requests.{path_of, host_text, IsServer, IsTarget, HasTarget}
use Rattle.rh_http.proofs.NumberLemmas.{one_port}
use Rattle.rh_http.proofs.Splits.{before_front}

-- a host has no byte that may not stand there
no_colon : (host : List ℕ) → IsHost host → (k : ℕ) → k < length host → get_or host k 0 ≢ 58
no_colon host h k below e =
    let colon : is_host_byte (get_or host k 0) ≡ false = ap is_host_byte e in
    let wrong : list_all is_host_byte host
    ≡ false = list_all_at is_host_byte host k 0 below colon in
    let right : list_all is_host_byte host ≡ true = h.characters in
    absurd (cc)

-- what stands before the first colon of a server is its host
pub host_before : (query host : List ℕ) (port : ℕ) → IsServer query host port
    → before_first (λ c. c == 58) query ≡ host
host_before query host port h =
    ap (λ (x : List ℕ). before_first (λ c. c == 58) x) h.joined
    ∙ before_front 58 host h.digits (no_colon host h.is_host)

-- and what stands behind it is the port
pub port_behind : (query front behind host : List ℕ) (port : ℕ) → IsServer query host port
    → before_first (λ c. c == 58) query ≡ front → query ≡ front ++ 58 ∷ behind
    → (front ≡ host) × IsPortText behind port
port_behind query front behind host port h before divided =
    let same : front ≡ host = sym before ∙ host_before query host port h in
    let whole : host ++ 58 ∷ behind ≡ host ++ 58 ∷ h.digits =
    ap (λ (x : List ℕ). x ++ 58 ∷ behind) (sym same) ∙ sym divided ∙ h.joined in
    let cancelled : 58 ∷ behind
    ≡ 58 ∷ h.digits = append_cancel_left host (58 ∷ behind) (58 ∷ h.digits) whole in
    let tail : h.digits ≡ behind = cc in
    let P : List ℕ → Type 0 = λ x. IsPortText x port in
    (same, subst P tail h.is_port)

-- a server has a colon
pub no_server : (query host : List ℕ) (port : ℕ) → before_first (λ c. c == 58) query ≡ query
    → ¬ IsServer query host port
no_server query host port none h =
    let all : query ≡ host = sym none ∙ host_before query host port h in
    omega (arith, ap length (sym all ∙ h.joined), length-append host (58 ∷ h.digits))

-- what stands behind the first question mark of a target
pub query_behind : (target front query other : List ℕ) → path_of target ≡ front → target
    ≡ front ++ 63 ∷ query
    → target ≡ path_of target ++ 63 ∷ other → query ≡ other
query_behind target front query other before divided again =
    let whole : front ++ 63 ∷ query ≡ front ++ 63 ∷ other =
    sym divided ∙ again ∙ ap (λ (x : List ℕ). x ++ 63 ∷ other) before in
    let cancelled : 63 ∷ query
    ≡ 63 ∷ other = append_cancel_left front (63 ∷ query) (63 ∷ other) whole in cc

-- the server that a query names is that of the target
pub target_found : (r : Option (Host × ℕ)) (target front query : List ℕ) → path_of target ≡ front
    → target ≡ front ++ 63 ∷ query
    → MatchOption r ((host : List ℕ) (port : ℕ) → ¬ IsServer query host port)
    (λ server. IsServer query (host_text server.0) server.1)
    → MatchOption r (¬ HasTarget target) (λ server. IsTarget target (host_text server.0) server.1)
target_found None target front query before divided none = λ h.
    let same = query_behind target front query h.2.0 before divided h.2.1 in
    let P : List ℕ → Type 0 = λ x. IsServer x h.0 h.1 in
    none h.0 h.1 (subst P (sym same) h.2.2)
target_found (Some server) target front query before divided some =
    (query, divided ∙ ap (λ (x : List ℕ). x ++ 63 ∷ query) (sym before), some)

-- a query names one server
pub same_server : (query a b : List ℕ) (m n : ℕ) → IsServer query a m → IsServer query b n → (a ≡ b)
    × (m ≡ n)
same_server query a b m n h k =
    let before : before_first (λ c. c == 58) query ≡ a = host_before query a m h in
    let other = port_behind query a h.digits b n k before h.joined in
    (other.0, one_port h.digits m n h.is_port other.1)

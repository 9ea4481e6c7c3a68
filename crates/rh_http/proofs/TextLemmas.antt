-- the lines of a request, and the pieces in which they are written
use Rattle.std.proofs.Common.{◌≡◌, ℕ, ◌≤◌, Bool, true, false, List, [], ◌∷◌, ◌++◌, length, map, codes, sym, ap, ◌∙◌, append_assoc, lit≤}
use Rattle.rh_http.specs.Requests.{method_of}
use Rattle.rh_http.specs.Texts.{crlf, head_of, field_line, target_of, request_line, request_fields, request_lines}

-- a host and a port within a line
server_parts : (host port behind rest : List ℕ)
    → ((host ++ 58 ∷ port) ++ behind) ++ rest ≡ host ++ 58 ∷ (port ++ (behind ++ rest))
server_parts host port behind rest =
    ap (λ (x : List ℕ). x ++ rest) (append_assoc host (58 ∷ port) behind)
    ∙ append_assoc host (58 ∷ (port ++ behind)) rest
    ∙ ap (λ (x : List ℕ). host ++ 58 ∷ x) (append_assoc port behind rest)

-- a request line in pieces
line_parts : (method host port rest : List ℕ)
    → request_line method (target_of host port) ++ rest
    ≡ method ++
    (codes " /rpc/rpcproxy.dll?" ++
    (host ++ (codes ":" ++ (port ++ (codes " HTTP/1.1" ++ rest)))))
line_parts method host port rest =
    append_assoc method (codes " " ++ (target_of host port ++ codes " HTTP/1.1")) rest
    ∙ ap (λ (x : List ℕ). method ++ (codes " /rpc/rpcproxy.dll?" ++ x))
    (server_parts host port (codes " HTTP/1.1") rest)

-- the pieces are the lines
pub request_parts : (method host port proxy digits : List ℕ)
    → method ++ (codes " /rpc/rpcproxy.dll?" ++ (host ++ (codes ":" ++ (port
    ++ (codes " HTTP/1.1\r\nAccept: application/rpc\r\nUser-Agent: MSRPC\r\nHost: " ++ (proxy
    ++ (codes "\r\nContent-Length: " ++ (digits
    ++ (codes "\r\nConnection: Keep-Alive\r\nCache-Control: no-cache\r\nPragma: no-cache\r\n\r\n" ++
    [])))))))))
    ≡ head_of (request_lines method (target_of host port) proxy digits)
request_parts method host port proxy digits =
    let below = map field_line (request_fields proxy digits) in
    sym (line_parts method host port (crlf ++ head_of below))

-- a method has twelve letters at most
pub method_short : (inbound : Bool) → length (method_of inbound) ≤ 12
method_short true = lit≤ tt
method_short false = lit≤ tt

-- equal texts make equal requests
pub same_lines : (method m host h port p proxy x digits d : List ℕ) → method ≡ m → host ≡ h → port
    ≡ p → proxy ≡ x → digits ≡ d
    → head_of (request_lines method (target_of host port) proxy digits)
    ≡ head_of (request_lines m (target_of h p) x d)
same_lines method m host h port p proxy x digits d of_method of_host of_port of_proxy of_digits = cc

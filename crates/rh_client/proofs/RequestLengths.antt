-- how long the requests of a client are at most
use Rattle.std.proofs.Common.{ℕ, ◌+◌, ◌<◌, ◌≤◌, ◌^◌, Bool, List, ◌++◌, length, codes, lit≤, arith, subst}
use Rattle.std.specs.Fmt.{decimal}
use Rattle.std.proofs.lemmas.List.{length-append}
use Rattle.std.proofs.lemmas.Fmt.{length-decimal-le}
use Rattle.rh_http.specs.declared.config.ClientConfig.{ClientConfig}
use Rattle.rh_http.specs.Requests.{host_text, method_of}
use Rattle.rh_http.specs.Texts.{head_of, target_of, request_lines, request_text}
use Rattle.rh_http.proofs.TextLemmas.{request_parts, method_short}

-- two parts
joined : (a b : List ℕ) (m n : ℕ) → length a ≤ m → length b ≤ n → length (a ++ b) ≤ m + n
joined a b m n p q = omega (arith, length-append a b)

abbrev Short : List ℕ → Type 0
Short text = length text ≤ 1024

at_most : (text : List ℕ) (n : ℕ) → length text ≤ n → n ≤ 1024 → Short text
at_most text n p q = omega arith

parts_short : (method host port proxy digits : List ℕ) → length method ≤ 12
    → length host ≤ 255 → length port ≤ 5 → length proxy ≤ 255 → length digits ≤ 10
    → Short (head_of (request_lines method (target_of host port) proxy digits))
parts_short method host port proxy digits of_method of_host of_port of_proxy of_digits =
    subst Short (request_parts method host port proxy digits) (at_most _ 746
    (joined method _ 12 734 of_method
    (joined (codes " /rpc/rpcproxy.dll?") _ 32 702 (lit≤ tt)
    (joined host _ 255 447 of_host
    (joined (codes ":") _ 1 446 (lit≤ tt)
    (joined port _ 5 441 of_port
    (joined (codes " HTTP/1.1\r\nAccept: application/rpc\r\nUser-Agent: MSRPC\r\nHost: ") _ 64 377
    (lit≤ tt)
    (joined proxy _ 255 122 of_proxy
    (joined (codes "\r\nContent-Length: ") _ 32 90 (lit≤ tt)
    (joined digits _ 10 80 of_digits
    (lit≤ tt))))))))))
    (lit≤ tt))

port_short : (n : ℕ) → n < 2 ^ 16 → length (decimal n) ≤ 5
port_short n below = length-decimal-le 5 n (lit≤ tt) (omega arith) (omega arith)

number_short : (n : ℕ) → n < 2 ^ 32 → length (decimal n) ≤ 10
number_short n below = length-decimal-le 10 n (lit≤ tt) (omega arith) (omega arith)

pub request_short : (inbound : Bool) (config : ClientConfig) (n : ℕ) → config.port < 2 ^ 16
    → n < 2 ^ 32 → Short (request_text (method_of inbound) config n)
unfolding request_text
request_short inbound config n port below =
    parts_short (method_of inbound) (host_text config.host) (decimal config.port)
    (host_text config.proxy_host) (decimal n) (method_short inbound) config.host.kept.text.most
    (port_short config.port port) config.proxy_host.kept.text.most (number_short n below)

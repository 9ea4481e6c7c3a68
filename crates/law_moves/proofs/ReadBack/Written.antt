-- the texts that are written are lines with no CR, whatever their numbers
use Rattle.law_order.proofs.Vocabulary.{◌≡◌, ℕ, ◌+◌, ◌≤◌, ◌<◌, ◌%◌, ◌/◌, ◌==◌, zero, suc, Bool, true, false, List, [], ◌∷◌, ◌++◌, length, map, codes, refl, ap, subst, arith, lit<, lit≤, decimal, digit_glyph, digits, digits_onto, list_all, nat_tests, length-append}
use Rattle.rh_http.proofs.Printable.{both_pass, host_visible, is_printable, is_visible, printable}
use Rattle.rh_http.proofs.TextLemmas.{method_short, request_parts}
use Rattle.rh_http.specs.Hosts.{IsHost}
use Rattle.law_moves.proofs.Vocabulary.{by_test, ArePlain, plain, ClientConfig, Refusal, Bad, Missing, Unavailable, host_text, method_of, crlf, field_line, head_of, refusal_line, refusal_text, request_fields, request_line, request_lines, request_text, response_text, status_line, target_of, is_whole_head, IsWholeText}
use Rattle.law_moves.proofs.ReadBack.Lines.{whole_lines}

-- ---- numbers

-- visible bytes, so many at most
pub record IsShort (most : ℕ) (bytes : List ℕ) : Type 0 where
  pub visible : list_all is_visible bytes ≡ true
  pub short : length bytes ≤ most

glyph_visible : (n : ℕ) → is_visible (digit_glyph false (n % 10)) ≡ true
glyph_visible n = grind (arith, nat_tests)

digits_short : (k n size : ℕ) (bytes : List ℕ) → IsShort size bytes
    → IsShort (k + size) (digits_onto k 10 false n bytes)
digits_short zero n size bytes h = record { visible = h.visible; short = omega (arith, h.short) }
digits_short (suc k) n size bytes h =
    let all = digit_glyph false (n % 10) ∷ bytes in
    let more : IsShort (size + 1) all = record {
      visible = rw (glyph_visible n) h.visible;
      short = omega (arith, h.short);
    } in
    by_test (IsShort (suc k + size)) (n / 10 == 0) all (digits_onto k 10 false (n / 10) all)
    (λ e. record { visible = more.visible; short = omega (arith, h.short) })
    (λ e. subst (λ m. IsShort m (digits_onto k 10 false (n / 10) all)) (omega arith)
    (digits_short k (n / 10) (size + 1) all more))

pub decimal_short : (n : ℕ) → IsShort 64 (decimal n)
unfolding digits
decimal_short n = digits_short 64 n 0 [] (record { visible = refl; short = omega arith })

host_short : (host : List ℕ) → IsHost host → IsShort 255 host
host_short host is = record { visible = host_visible host is; short = is.most }

-- ---- requests

method_printable : (inbound : Bool) → list_all is_printable (method_of inbound) ≡ true
method_printable true = refl
method_printable false = refl

module _ (inbound : Bool) (host port proxy digits : List ℕ) (of_host : IsShort 255 host)
    (of_port : IsShort 64 port) (of_proxy : IsShort 255 proxy) (of_digits : IsShort 64 digits)
  where
    abbrev method : List ℕ
    method = method_of inbound

    abbrev target : List ℕ
    target = target_of host port

    target_printable : list_all is_printable target ≡ true
    target_printable =
        both_pass is_printable host (codes ":" ++ port) (printable host of_host.visible)
        (printable port of_port.visible)

    line_printable : list_all is_printable (request_line method target) ≡ true
    line_printable =
        both_pass is_printable method (codes " " ++ (target ++ codes " HTTP/1.1"))
        (method_printable inbound)
        (both_pass is_printable target (codes " HTTP/1.1") target_printable refl)

    line_some : (inbound : Bool) → 0 < length (request_line (method_of inbound) target)
    line_some true = omega arith
    line_some false = omega arith

    lines_plain : ArePlain (request_lines method target proxy digits)
    lines_plain = (
      plain (request_line method target) (line_some inbound) line_printable,
      (
        plain (field_line (codes "Accept", codes "application/rpc")) (lit< tt) refl,
        (
          plain (field_line (codes "User-Agent", codes "MSRPC")) (lit< tt) refl,
          (
            plain (field_line (codes "Host", proxy)) (omega arith)
                (printable proxy of_proxy.visible),
            (
              plain (field_line (codes "Content-Length", digits)) (omega arith)
                  (printable digits of_digits.visible),
              (
                plain (field_line (codes "Connection", codes "Keep-Alive")) (lit< tt) refl,
                (
                  plain (field_line (codes "Cache-Control", codes "no-cache")) (lit< tt) refl,
                  (plain (field_line (codes "Pragma", codes "no-cache")) (lit< tt) refl, tt),
                ),
              ),
            ),
          ),
        ),
      ),
    )

    request_short : length (head_of (request_lines method target proxy digits)) ≤ 16384
    request_short =
        let last =
        codes "\r\nConnection: Keep-Alive\r\nCache-Control: no-cache\r\nPragma: no-cache\r\n\r\n" ++
        [] in
        let lengths = codes "\r\nContent-Length: " ++ (digits ++ last) in
        let fields =
        codes " HTTP/1.1\r\nAccept: application/rpc\r\nUser-Agent: MSRPC\r\nHost: " ++
        (proxy ++ lengths) in
        let ports = codes ":" ++ (port ++ fields) in
        let behind = codes " /rpc/rpcproxy.dll?" ++ (host ++ ports) in
        omega (
          arith,
          ap length (request_parts method host port proxy digits),
          length-append method behind,
          length-append host ports,
          length-append port fields,
          length-append proxy lengths,
          length-append digits last,
          method_short inbound,
          of_host.short,
          of_port.short,
          of_proxy.short,
          of_digits.short,
        )

    lines_whole : IsWholeText is_whole_head (head_of (request_lines method target proxy digits))
    lines_whole =
        whole_lines (request_line method target) (map field_line (request_fields proxy digits))
        lines_plain request_short

pub request_whole : (inbound : Bool) (config : ClientConfig) (n : ℕ)
    → IsWholeText is_whole_head (request_text (method_of inbound) config n)
unfolding request_text
request_whole inbound config n =
    lines_whole inbound (host_text config.host) (decimal config.port)
    (host_text config.proxy_host) (decimal n)
    (host_short (host_text config.host) config.host.kept.text) (decimal_short config.port)
    (host_short (host_text config.proxy_host) config.proxy_host.kept.text) (decimal_short n)

-- ---- responses

pub response_whole : (n : ℕ) → IsWholeText is_whole_head (response_text n)
unfolding response_text
response_whole n =
    let digits = decimal n in
    let seen = decimal_short n in
    let behind : List ℕ = crlf ++ crlf in
    whole_lines (status_line (codes "200") (codes "Success"))
    (field_line (codes "Content-Type", codes "application/rpc")
    ∷ field_line (codes "Content-Length", digits) ∷ []) (
      plain (codes "HTTP/1.1 200 Success") (lit< tt) refl,
      (
        plain (field_line (codes "Content-Type", codes "application/rpc")) (lit< tt) refl,
        (
          plain (field_line (codes "Content-Length", digits)) (omega arith)
              (printable digits seen.visible),
          tt,
        ),
      ),
    )
    (omega (arith, length-append digits behind, seen.short))

-- a refusal of a status line
refused : (line : List ℕ) → 0 < length line → list_all is_printable line ≡ true
    → length line ≤ 100
    → IsWholeText is_whole_head
    (head_of (line ∷ field_line (codes "Content-Length", codes "0") ∷ []))
refused line some printable short =
    let behind = crlf ++ head_of (field_line (codes "Content-Length", codes "0") ∷ []) in
    whole_lines line (field_line (codes "Content-Length", codes "0") ∷ []) (
      plain line some printable,
      (plain (field_line (codes "Content-Length", codes "0")) (lit< tt) refl, tt),
    )
    (omega (arith, length-append line behind, short))

pub refusal_whole : (refusal : Refusal) → IsWholeText is_whole_head (refusal_text refusal)
refusal_whole Bad = refused (refusal_line Bad) (lit< tt) refl (lit≤ tt)
refusal_whole Missing = refused (refusal_line Missing) (lit< tt) refl (lit≤ tt)
refusal_whole Unavailable = refused (refusal_line Unavailable) (lit< tt) refl (lit≤ tt)

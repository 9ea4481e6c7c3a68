-- what is written is read
use Rattle.std.proofs.Common.{◌≡◌, ℕ, ◌<◌, ◌≤◌, ◌^◌, Bool, true, false, List, [], ◌∷◌, ◌++◌, length, map, take, reverse, codes, refl, sym, ap, ◌∙◌, subst, arith, append_assoc, inl, lit<, Ok}
use Rattle.std.specs.Prelude.{IsTrue, All}
use Rattle.std.specs.Fmt.{decimal}
use Rattle.std.specs.List.{list_all, flat_map}
use Rattle.std.specs.Str.{all_ascii_digits}
use Rattle.std.proofs.lemmas.Bool.Decides.{nat_tests}
use Rattle.std.proofs.lemmas.Fmt.{digits_decimal, digits_value-decimal, decimal_nonempty, length-decimal-le}
use Rattle.std.proofs.lemmas.List.{append-nil, length-append, take_at}
use Rattle.std.proofs.lemmas.List.Elements.{All-nil, All-cons}
use Rattle.std.proofs.lemmas.List.Sums.{AllPass-from_list_all, list_all-from_AllPass}
use Rattle.std.proofs.lemmas.Str.{IsUtf8-from_ascii}
use Rattle.httparse.specs.Grammar.{Field, IsField, IsToken, IsRequestHead, RequestHead, is_token_byte, print_field, print_request, print_section, skip_ows, trim_ows}
use Rattle.httparse.specs.Grammar.{crlf as ends_in_crlf}
use Rattle.httparse.specs.Spans.{name_and_value}
use Rattle.httparse.proofs.GrammarLemmas.{print_request-append}
use Rattle.httparse.proofs.TrimLemmas.{AllPass-reverse, skip_ows_no, trim_ows_space}
use Rattle.rh_http.specs.declared.config.ClientConfig.{ClientConfig}
use Rattle.rh_http.specs.declared.request.Request.{Request}
use Rattle.rh_http.specs.Hosts.{IsHost}
use Rattle.rh_http.specs.Lengths.{Fields, HasLength, lengths_of, may_ask}
use Rattle.rh_http.specs.Numbers.{IsLengthText, IsPortText}
use Rattle.rh_http.specs.Requests.{IsRequestText, IsPath, IsServer, IsTarget, JudgesRequest, Passes, host_text, method_of, parts_of, path_of}
use Rattle.rh_http.specs.Texts.{IsReadAs, crlf, field_line, head_of, request_fields, request_line, request_lines, request_text, target_of}
use Rattle.rh_http.proofs.NumberLemmas.{own}
use Rattle.rh_http.proofs.Lines.{Plain, ArePlain, lines_end}
use Rattle.rh_http.proofs.Printable.{is_printable, is_visible, both_pass, host_visible, digits_visible, printable, no_cr, target_bytes, value_bytes, visible_ascii}
use Rattle.rh_http.proofs.TextLemmas.{method_short, request_parts}

-- ---- fields

-- a field as the parser sees it, with the blank before its value
abbrev pub raw_field : List ℕ × List ℕ → Field
raw_field f = record { name = f.0; raw = 32 ∷ f.1; end = ends_in_crlf }

-- the lines of fields are a section
pub section_lines : (fields : Fields) → print_section (map raw_field fields) ends_in_crlf
    ≡ head_of (map field_line fields)
section_lines [] = refl
section_lines (f ∷ fields) =
    let line = field_line f in
    let rest = flat_map print_field (map raw_field fields) in
    append_assoc (line ++ crlf) rest crlf ∙ append_assoc line crlf (rest ++ crlf)
    ∙ ap (λ (x : List ℕ). line ++ (crlf ++ x)) (section_lines fields)

-- a name of token bytes and a printable value are a field
pub field_ok : (name value : List ℕ) → 0 < length name → list_all is_token_byte name ≡ true
    → list_all is_printable value ≡ true
    → IsField (raw_field (name, value))
field_ok name value some token value_ok = record {
  name = (some, AllPass-from_list_all is_token_byte name token);
  raw = value_bytes (32 ∷ value) value_ok;
}

-- each pair is a field
abbrev pub AreFields : Fields → Type 0
AreFields [] = Unit {0}
AreFields (f ∷ fields) = IsField (raw_field f) × AreFields fields

pub all_fields : (fields : Fields) → AreFields fields → All IsField (map raw_field fields)
all_fields [] h = All-nil IsField
all_fields (f ∷ fields) h =
    All-cons IsField (raw_field f) (map raw_field fields) h.0 (all_fields fields h.1)

-- the fields of a request are fields
fields_ok : (proxy digits : List ℕ) → list_all is_printable proxy ≡ true
    → list_all is_printable digits ≡ true
    → AreFields (request_fields proxy digits)
unfolding is_token_byte
fields_ok proxy digits proxy_ok digits_ok = (
  field_ok (codes "Accept") (codes "application/rpc") (lit< tt) refl refl,
  (
    field_ok (codes "User-Agent") (codes "MSRPC") (lit< tt) refl refl,
    (
      field_ok (codes "Host") proxy (lit< tt) refl proxy_ok,
      (
        field_ok (codes "Content-Length") digits (lit< tt) refl digits_ok,
        (
          field_ok (codes "Connection") (codes "Keep-Alive") (lit< tt) refl refl,
          (
            field_ok (codes "Cache-Control") (codes "no-cache") (lit< tt) refl refl,
            (field_ok (codes "Pragma") (codes "no-cache") (lit< tt) refl refl, tt),
          ),
        ),
      ),
    ),
  ),
)

-- a visible text has no blanks round it
skip_visible : (xs : List ℕ) → list_all is_visible xs ≡ true → skip_ows xs ≡ xs
skip_visible [] h = refl
skip_visible (x ∷ xs) h =
    skip_ows_no {b = x} {all = x ∷ xs} {rest = xs} refl (grind (arith, nat_tests))

pub trimmed : (xs : List ℕ) → list_all is_visible xs ≡ true → trim_ows (32 ∷ xs) ≡ xs
trimmed xs h =
    let back : list_all is_visible (reverse xs) ≡ true =
    list_all-from_AllPass is_visible (reverse xs)
    (AllPass-reverse is_visible xs (AllPass-from_list_all is_visible xs h)) in
    trim_ows_space xs (skip_visible xs h) (skip_visible (reverse xs) back)

-- the length of a request is that of its field
length_told : (proxy digits : List ℕ) (n : ℕ) → list_all is_visible digits ≡ true
    → IsLengthText digits n
    → HasLength (map name_and_value (map raw_field (request_fields proxy digits))) n
length_told proxy digits n visible h =
    let one : lengths_of (map name_and_value (map raw_field (request_fields proxy digits)))
    ≡ trim_ows (32 ∷ digits) ∷ [] = refl in
    (digits, one ∙ ap (λ (x : List ℕ). x ∷ []) (trimmed digits visible), h)

-- ---- lines

pub plain : (line : List ℕ) → 0 < length line → list_all is_printable line ≡ true → Plain line
plain line some h = record { some = some; none = no_cr line h }

-- the lines of a request have no CR
plain_lines : (method target proxy digits : List ℕ) → 0 < length method
    → list_all is_printable method ≡ true
    → list_all is_printable target ≡ true → list_all is_printable proxy ≡ true
    → list_all is_printable digits ≡ true
    → ArePlain (request_lines method target proxy digits)
plain_lines method target proxy digits some method_ok target_ok proxy_ok digits_ok =
    let version = codes " HTTP/1.1" in
    let behind = codes " " ++ (target ++ version) in
    let line_ok : list_all is_printable (method ++ behind) ≡ true =
    both_pass is_printable method behind method_ok
    (both_pass is_printable target version target_ok refl) in (
      plain (request_line method target) (omega (arith, some, length-append method behind)) line_ok,
      (
        plain (field_line (codes "Accept", codes "application/rpc")) (lit< tt) refl,
        (
          plain (field_line (codes "User-Agent", codes "MSRPC")) (lit< tt) refl,
          (
            plain (field_line (codes "Host", proxy)) (omega arith) proxy_ok,
            (
              plain (field_line (codes "Content-Length", digits)) (omega arith) digits_ok,
              (
                plain (field_line (codes "Connection", codes "Keep-Alive")) (lit< tt) refl,
                (
                  plain (field_line (codes "Cache-Control", codes "no-cache")) (lit< tt) refl,
                  (plain (field_line (codes "Pragma", codes "no-cache")) (lit< tt) refl, tt),
                ),
              ),
            ),
          ),
        ),
      ),
    )

-- ---- heads

-- the head that a request is
abbrev pub head_written : List ℕ → List ℕ → List ℕ → List ℕ → RequestHead
head_written method target proxy digits = record {
  blank = [];
  method = method;
  target = target;
  minor = 1;
  line_end = ends_in_crlf;
  fields = map raw_field (request_fields proxy digits);
  last = ends_in_crlf;
}

printed : (method target proxy digits : List ℕ)
    → head_of (request_lines method target proxy digits)
    ≡ print_request (head_written method target proxy digits) ++ []
printed method target proxy digits =
    let version = codes " HTTP/1.1" in
    let fields = request_fields proxy digits in
    let section = print_section (map raw_field fields) ends_in_crlf in
    let below = head_of (map field_line fields) in
    append_assoc method (codes " " ++ (target ++ version)) (crlf ++ below)
    ∙ ap (λ (x : List ℕ). method ++ 32 ∷ x) (append_assoc target version (crlf ++ below))
    ∙ ap (λ (x : List ℕ). method ++ 32 ∷ (target ++ (version ++ (crlf ++ x))))
    (sym (section_lines fields) ∙ sym (append-nil section))
    ∙ sym (print_request-append (head_written method target proxy digits) [])

method_token : (inbound : Bool) → IsToken (method_of inbound)
unfolding is_token_byte
method_token true = (lit< tt, AllPass-from_list_all is_token_byte (method_of true) refl)
method_token false = (lit< tt, AllPass-from_list_all is_token_byte (method_of false) refl)

method_printable : (inbound : Bool) → list_all is_printable (method_of inbound) ≡ true
method_printable true = refl
method_printable false = refl

-- what the parts of a request are to be
record Sent (inbound : Bool) (host port proxy digits : List ℕ) (number n : ℕ) : Type 0 where
  host_ok : IsHost host
  port_ok : IsPortText port number
  port_seen : list_all is_visible port ≡ true
  proxy_ok : IsHost proxy
  length_ok : IsLengthText digits n
  length_seen : list_all is_visible digits ≡ true
  asks : IsTrue (may_ask inbound n)

target_visible : (host port : List ℕ) → IsHost host → list_all is_visible port ≡ true
    → list_all is_visible (target_of host port) ≡ true
target_visible host port host_ok port_seen =
    both_pass is_visible host (codes ":" ++ port) (host_visible host host_ok) port_seen

-- it is a head of the grammar
one_head : (inbound : Bool) (host port proxy digits : List ℕ) (number n : ℕ)
    → Sent inbound host port proxy digits number n
    → IsRequestText (head_of (request_lines (method_of inbound) (target_of host port) proxy digits))
    (head_written (method_of inbound) (target_of host port) proxy digits)
one_head inbound host port proxy digits number n s =
    let target = target_of host port in
    let seen = target_visible host port s.host_ok s.port_seen in
    let is_head : IsRequestHead (head_written (method_of inbound) target proxy digits) = record {
      method = method_token inbound;
      target = (omega arith, target_bytes target seen);
      target_text = IsUtf8-from_ascii target (visible_ascii target seen);
      minor = omega arith;
      fields =
          all_fields (request_fields proxy digits)
          (fields_ok proxy digits (printable proxy (host_visible proxy s.proxy_ok))
          (printable digits s.length_seen));
    } in
    record { reads = (is_head, printed (method_of inbound) target proxy digits); few = omega arith }

-- it passes the steps
passes : (inbound : Bool) (host port proxy digits : List ℕ) (number n : ℕ) (request : Request)
    → Sent inbound host port proxy digits number n → host_text request.host ≡ host → request.port
    ≡ number → request.length ≡ n
    → Passes inbound
    (parts_of (head_written (method_of inbound) (target_of host port) proxy digits))
    (Ok request)
passes inbound host port proxy digits number n request s hosts ports lengths =
    let target = target_of host port in
    let path : IsPath (path_of target) = inl refl in
    let server : IsServer (host ++ 58 ∷ port) host number = record {
      is_host = s.host_ok;
      digits = port;
      is_port = s.port_ok;
      joined = refl;
    } in
    let there : IsTarget target host number = (host ++ 58 ∷ port, refl, server) in
    let fields = map name_and_value (map raw_field (request_fields proxy digits)) in
    let told : HasLength fields n = length_told proxy digits n s.length_seen s.length_ok in
    let P : List ℕ → Type 0 = λ x. IsTarget target x number in
    let Q : ℕ → Type 0 = λ x. IsTarget target (host_text request.host) x in
    let R : ℕ → Type 0 = λ x. HasLength fields x × IsTrue (may_ask inbound x) in (
      refl,
      path,
      subst Q (sym ports) (subst P (sym hosts) there),
      subst R (sym lengths) (told, s.asks),
    )

-- it is no longer than a head may be
short : (method host port proxy digits : List ℕ) → length method ≤ 12 → length host ≤ 255
    → length port ≤ 5
    → length proxy ≤ 255 → length digits ≤ 10
    → length (head_of (request_lines method (target_of host port) proxy digits)) ≤ 16384
short method host port proxy digits m h p x n =
    let last =
    codes "\r\nConnection: Keep-Alive\r\nCache-Control: no-cache\r\nPragma: no-cache\r\n\r\n" ++
    [] in
    let lengths = codes "\r\nContent-Length: " ++ (digits ++ last) in
    let fields =
    codes " HTTP/1.1\r\nAccept: application/rpc\r\nUser-Agent: MSRPC\r\nHost: " ++
    (proxy ++ lengths) in
    let ports = codes ":" ++ (port ++ fields) in
    let target = codes " /rpc/rpcproxy.dll?" ++ (host ++ ports) in
    omega (
      arith,
      ap length (request_parts method host port proxy digits),
      length-append method target,
      length-append host ports,
      length-append port fields,
      length-append proxy lengths,
      length-append digits last,
      m,
      h,
      p,
      x,
      n,
    )

-- ---- answers

-- decimal digits of a number are its text, and visible
pub decimal_length : (n : ℕ) → n ≤ 2147549184 → IsLengthText (decimal n) n
    × (list_all is_visible (decimal n) ≡ true)
decimal_length n most =
    let small : n < 2 ^ 64 = omega (arith, most) in
    let digits : all_ascii_digits (decimal n) ≡ true = digits_decimal own n small in (
      record {
        some = decimal_nonempty n small;
        most = length-decimal-le 10 n (omega arith) (omega (arith, most)) small;
        digits = digits;
        value = sym (digits_value-decimal own n small);
      },
      digits_visible (decimal n) digits,
    )

-- a length that may be asked for is no greater than the greatest lifetime
asks_most : (inbound : Bool) (n : ℕ) → IsTrue (may_ask inbound n) → n ≤ 2147483648
asks_most true n h = grind (arith, nat_tests)
asks_most false n h = grind (arith, nat_tests)

-- a request is read with its server and its length
pub request_read : (inbound : Bool) (config : ClientConfig) (n : ℕ)
    → IsReadAs inbound config n (request_text (method_of inbound) config n)
unfolding request_text
request_read inbound config n low high asks rest =
    let host = host_text config.host in
    let proxy = host_text config.proxy_host in
    let port = decimal config.port in
    let digits = decimal n in
    let most = asks_most inbound n asks in
    let length_text = decimal_length n (omega (arith, most)) in
    let port_text = decimal_length config.port (omega (arith, high)) in
    let s : Sent inbound host port proxy digits config.port n = record {
      host_ok = config.host.kept.text;
      port_ok = record { digits = refl; least = low; most = omega (arith, high) };
      port_seen = port_text.1;
      proxy_ok = config.proxy_host.kept.text;
      length_ok = length_text.0;
      length_seen = length_text.1;
      asks = asks;
    } in
    let method = method_of inbound in
    let target = target_of host port in
    let text = head_of (request_lines method target proxy digits) in
    let request : Request = record { host = config.host; port = config.port; length = n } in
    let ports : length port ≤ 5 =
    length-decimal-le 5 config.port (omega arith) (omega (arith, high)) (omega (arith, high)) in
    let room =
    short method host port proxy digits
    (method_short inbound) s.host_ok.most ports s.proxy_ok.most s.length_ok.most in
    let lines =
    plain_lines method target proxy digits (method_token inbound).0 (method_printable inbound)
    (printable target (target_visible host port s.host_ok s.port_seen))
    (printable proxy (host_visible proxy s.proxy_ok)) (printable digits s.length_seen) in
    let head = one_head inbound host port proxy digits config.port n s in
    let front : take (length text) (text ++ rest) ≡ text = take_at text rest (length text) refl in
    let P : List ℕ → Type 0 = λ x. JudgesRequest inbound x (Ok request) in (
      lines_end (request_line method target)
          (map field_line (request_fields proxy digits)) rest 16384 lines room,
      subst P (sym front) (
        head_written method target proxy digits,
        head,
        passes inbound host port proxy digits config.port n request s refl refl refl,
      ),
    )

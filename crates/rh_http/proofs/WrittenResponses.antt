-- what is written is read: responses
use Rattle.std.proofs.Common.{◌≡◌, ℕ, ◌≤◌, true, List, [], ◌∷◌, ◌++◌, length, map, take, codes, refl, sym, ap, ◌∙◌, subst, arith, append_assoc, inl, lit<, lit≤, Ok, Some}
use Rattle.std.specs.Fmt.{decimal}
use Rattle.std.specs.List.{list_all}
use Rattle.std.specs.Char.{is_ascii_digit}
use Rattle.std.specs.Str.Parse.{digits_value}
use Rattle.std.proofs.lemmas.List.{append-nil, length-append, take_at}
use Rattle.std.proofs.lemmas.List.Sums.{AllPass-from_list_all}
use Rattle.httparse.specs.Grammar.{IsResponseHead, ResponseHead, is_token_byte, print_response, print_section}
use Rattle.httparse.specs.Grammar.{crlf as ends_in_crlf}
use Rattle.httparse.specs.Spans.{name_and_value}
use Rattle.httparse.proofs.GrammarLemmas.{print_response-append}
use Rattle.rh_http.specs.declared.refusal.Refusal.{Refusal}
use Rattle.rh_http.specs.declared.refusal.Refusal.TheVariants.{Bad, Missing, Unavailable}
use Rattle.rh_http.specs.declared.response.Response.{Response}
use Rattle.rh_http.specs.Lengths.{Fields, HasLength}
use Rattle.rh_http.specs.Numbers.{IsLengthText}
use Rattle.rh_http.specs.Responses.{JudgesResponse}
use Rattle.rh_http.specs.Texts.{IsToldAs, crlf, field_line, head_of, refusal_text, response_text, status_line, status_of}
use Rattle.rh_http.proofs.Lines.{ArePlain, lines_end}
use Rattle.rh_http.proofs.Printable.{is_printable, printable, value_bytes}
use Rattle.rh_http.proofs.Written.{AreFields, all_fields, decimal_length, field_ok, plain, raw_field, section_lines, trimmed}

-- the head that such a response is
abbrev head_told : List ℕ → List ℕ → Fields → ResponseHead
head_told digits reason fields = record {
  blank = [];
  minor = 1;
  digits = digits;
  reason = Some reason;
  line_end = ends_in_crlf;
  fields = map raw_field fields;
  last = ends_in_crlf;
}

told_printed : (digits reason : List ℕ) (fields : Fields)
    → head_of (status_line digits reason ∷ map field_line fields)
    ≡ print_response (head_told digits reason fields) ++ []
told_printed digits reason fields =
    let section = print_section (map raw_field fields) ends_in_crlf in
    let below = head_of (map field_line fields) in
    ap (λ (x : List ℕ). codes "HTTP/1.1 " ++ x) (append_assoc digits (32 ∷ reason) (crlf ++ below))
    ∙ ap (λ (x : List ℕ). codes "HTTP/1.1 " ++ (digits ++ 32 ∷ (reason ++ (crlf ++ x))))
    (sym (section_lines fields) ∙ sym (append-nil section))
    ∙ sym (print_response-append (head_told digits reason fields) [])

-- what the parts of a response are to be
record Told (digits reason : List ℕ) (fields : Fields) (status n : ℕ) : Type 0 where
  three : length digits ≡ 3
  digits_ok : list_all is_ascii_digit digits ≡ true
  value : digits_value 10 digits ≡ status
  reason_ok : list_all is_printable reason ≡ true
  fields_ok : AreFields fields
  few : length (map raw_field fields) ≤ 64
  lines_ok : ArePlain (status_line digits reason ∷ map field_line fields)
  short : length (head_of (status_line digits reason ∷ map field_line fields)) ≤ 16384
  length_ok : HasLength (map name_and_value (map raw_field fields)) n
  most : n ≤ 2147549184

-- it is read with its status and its length
told : (digits reason : List ℕ) (fields : Fields) (status n : ℕ)
    → Told digits reason fields status n
    → IsToldAs status n (head_of (status_line digits reason ∷ map field_line fields))
told digits reason fields status n s rest =
    let text = head_of (status_line digits reason ∷ map field_line fields) in
    let is_head : IsResponseHead (head_told digits reason fields) = record {
      minor = omega arith;
      digits = (s.three, AllPass-from_list_all is_ascii_digit digits s.digits_ok);
      reason = value_bytes reason s.reason_ok;
      fields = all_fields fields s.fields_ok;
    } in
    let response : Response = record { status = status; length = n } in
    let front : take (length text) (text ++ rest) ≡ text = take_at text rest (length text) refl in
    let P : List ℕ → Type 0 = λ x. JudgesResponse x (Ok response) in (
      lines_end (status_line digits reason) (map field_line fields) rest 16384 s.lines_ok s.short,
      subst P (sym front) (
        head_told digits reason fields,
        record { reads = (is_head, told_printed digits reason fields); few = s.few },
        (sym s.value, inl (s.length_ok, s.most)),
      ),
    )

-- the response of success
pub response_told : (n : ℕ) → n ≤ 2147549184 → IsToldAs 200 n (response_text n)
unfolding response_text is_token_byte
response_told n most =
    let digits = decimal n in
    let text = decimal_length n (omega (arith, most)) in
    let fields : Fields =
    (codes "Content-Type", codes "application/rpc") ∷ (codes "Content-Length", digits) ∷ [] in
    let seen = printable digits text.1 in
    let line = codes "HTTP/1.1 200 Success\r\nContent-Type: application/rpc\r\nContent-Length: " in
    told (codes "200") (codes "Success") fields 200 n (record {
      three = refl;
      digits_ok = refl;
      value = refl;
      reason_ok = refl;
      fields_ok = (
        field_ok (codes "Content-Type") (codes "application/rpc") (lit< tt) refl refl,
        (field_ok (codes "Content-Length") digits (lit< tt) refl seen, tt),
      );
      few = lit≤ tt;
      lines_ok = (
        plain (codes "HTTP/1.1 200 Success") (lit< tt) refl,
        (
          plain (field_line (codes "Content-Type", codes "application/rpc")) (lit< tt) refl,
          (plain (field_line (codes "Content-Length", digits)) (omega arith) seen, tt),
        ),
      );
      short = omega (arith, length-append digits (crlf ++ crlf), text.0.most);
      length_ok = (digits, ap (λ (x : List ℕ). x ∷ []) (trimmed digits text.1), text.0);
      most = most;
    })

-- a refusal, of a status line of these parts
refused : (digits reason : List ℕ) (status : ℕ) → length digits ≡ 3 → list_all is_ascii_digit digits
    ≡ true
    → digits_value 10 digits ≡ status → list_all is_printable reason ≡ true
    → list_all is_printable (status_line digits reason) ≡ true → length reason ≤ 20
    → IsToldAs status 0
    (head_of (status_line digits reason ∷ field_line (codes "Content-Length", codes "0") ∷ []))
unfolding is_token_byte
refused digits reason status three digits_ok value reason_ok line_ok few =
    let behind = crlf ++ head_of (field_line (codes "Content-Length", codes "0") ∷ []) in
    told digits reason ((codes "Content-Length", codes "0") ∷ []) status 0 (record {
      three = three;
      digits_ok = digits_ok;
      value = value;
      reason_ok = reason_ok;
      fields_ok = (field_ok (codes "Content-Length") (codes "0") (lit< tt) refl refl, tt);
      few = lit≤ tt;
      lines_ok = (
        plain (status_line digits reason) (omega arith) line_ok,
        (plain (field_line (codes "Content-Length", codes "0")) (lit< tt) refl, tt),
      );
      short = omega (
        arith,
        length-append (digits ++ 32 ∷ reason) behind,
        length-append digits (32 ∷ reason),
        three,
        few,
      );
      length_ok = (codes "0", ap (λ (x : List ℕ). x ∷ []) (trimmed (codes "0") refl), zero_length);
      most = omega arith;
    })
  where
    zero_length : IsLengthText (codes "0") 0
    zero_length = record { some = lit≤ tt; most = lit≤ tt; digits = refl; value = refl }

-- each refusal
pub refusal_told : (refusal : Refusal) → IsToldAs (status_of refusal) 0 (refusal_text refusal)
refusal_told Bad =
    refused (codes "400") (codes "Bad Request") 400 refl refl refl refl refl (lit≤ tt)
refusal_told Missing =
    refused (codes "404") (codes "Not Found") 404 refl refl refl refl refl (lit≤ tt)
refusal_told Unavailable =
    refused (codes "503") (codes "RPC Error: 6ba") 503 refl refl refl refl refl (lit≤ tt)

-- the heads of requests and responses, as they are read (RFC 9112 sections 2 to 5)
use Rattle.std.specs.Prelude.{ℕ, Bool, List, [], ◌∷◌, length, Option, Some, None, nat_lt, ⊤}
use Rattle.std.specs.Char.{is_ascii_digit}
use Rattle.std.specs.Str.{is_utf8}
use Rattle.httparse.specs.Ascii.{space, colon, line_feed, crlf_bytes}
use Rattle.httparse.specs.Grammar.{LineEnd, crlf, lf, Field, RequestHead, ResponseHead, is_token_byte, is_uri_byte, is_value_byte, print_version}
use Rattle.rh_http.specs.Requests.{greatest_fields}
use Rattle.rh_http.specs.Heads.Readers.{Reader, read_as, where_it, or_else, and_then, some_then, exactly, these, one_byte, up_to_other}

-- ---- lines

-- a line ends in CR LF; LF alone is taken too (section 2.2)
abbrev pub line_end : Reader LineEnd
line_end text = or_else (exactly crlf_bytes crlf text) (exactly (line_feed ∷ []) lf text)

-- what stands behind empty lines, as many as there are (section 2.2)
abbrev pub behind_empty_lines : {A : Type 0} → Reader A → Reader (List LineEnd × A)
behind_empty_lines start text = some_then (length text) line_end start text

-- at least one byte that passes a test, and the byte that ends them
abbrev pub word : (ℕ → Bool) → ℕ → Reader (List ℕ)
word passes stop text =
    read_as (λ found. found.0)
    (and_then (where_it (λ bytes. nat_lt 0 (length bytes)) (up_to_other passes text))
    (these (stop ∷ [])))

-- the version, HTTP/1.1 or HTTP/1.0 (section 2.3)
abbrev pub version : Reader ℕ
version text = or_else (exactly (print_version 1) 1 text) (exactly (print_version 0) 0 text)

-- the bytes of a value or a reason, up to the end of the line (sections 4 and 5)
abbrev pub value_line : Reader (List ℕ × LineEnd)
value_line text = and_then (up_to_other is_value_byte text) line_end

-- ---- fields (section 5)

-- a name, a colon and a value, which goes on over no further line (section 5.2)
abbrev pub field_line : Reader Field
field_line text =
    read_as (λ found. record { name = found.0; raw = found.1.0; end = found.1.1 })
    (and_then (word is_token_byte colon text) value_line)

-- the fields, at most as many as a head may have, and the empty line behind them
abbrev pub section : Reader (List Field × LineEnd)
section = some_then greatest_fields field_line line_end

-- ---- requests (section 3)

-- a target, which is UTF-8 (section 3.2)
abbrev pub target : Reader (List ℕ)
target text = where_it is_utf8 (word is_uri_byte space text)

-- a method, a target and a version
abbrev pub request_line : Reader (List ℕ × (List ℕ × (ℕ × LineEnd)))
request_line text =
    and_then (word is_token_byte space text)
    (λ after_method. and_then (target after_method)
    (λ after_target. and_then (version after_target) line_end))

abbrev pub request_head : Reader RequestHead
request_head text =
    read_as (λ found. record {
      blank = found.0.0;
      method = found.0.1.0;
      target = found.0.1.1.0;
      minor = found.0.1.1.1.0;
      line_end = found.0.1.1.1.1;
      fields = found.1.0;
      last = found.1.1;
    })
    (and_then (behind_empty_lines request_line text) section)

-- ---- responses (section 4)

-- a space and a reason, if there is one
abbrev pub reason : Reader (Option (List ℕ) × LineEnd)
reason text =
    or_else
    (read_as (λ found. (Some found.1.0, found.1.1))
    (and_then (these (space ∷ []) text) value_line))
    (read_as (λ end. (None, end)) (line_end text))

-- three digits
abbrev pub status : Reader (ℕ × (ℕ × ℕ))
status text =
    and_then (one_byte is_ascii_digit text)
    (λ after_one. and_then (one_byte is_ascii_digit after_one) (one_byte is_ascii_digit))

-- a version, a status and a reason
abbrev pub status_line : Reader (ℕ × (⊤ × ((ℕ × (ℕ × ℕ)) × (Option (List ℕ) × LineEnd))))
status_line text =
    and_then (version text)
    (λ after_version. and_then (these (space ∷ []) after_version)
    (λ after_space. and_then (status after_space) reason))

abbrev pub response_head : Reader ResponseHead
response_head text =
    read_as (λ found. record {
      blank = found.0.0;
      minor = found.0.1.0;
      digits = found.0.1.1.1.0.0 ∷ found.0.1.1.1.0.1.0 ∷ found.0.1.1.1.0.1.1 ∷ [];
      reason = found.0.1.1.1.1.0;
      line_end = found.0.1.1.1.1.1;
      fields = found.1.0;
      last = found.1.1;
    })
    (and_then (behind_empty_lines status_line text) section)

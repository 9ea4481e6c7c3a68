-- the readers of heads read exactly the heads of the grammar
use Rattle.std.proofs.Common.{◌≡◌, ℕ, suc, ◌<◌, ◌≤◌, Bool, true, false, List, [], ◌∷◌, ◌++◌, length, Option, Some, None, refl, sym, ap, ◌∙◌, subst, arith, inl, inr, ◌⊎◌, ⊎_elim, append_assoc}
use Rattle.std.specs.Prelude.{IsUtf8, nat_lt, ⊤}
use Rattle.std.specs.Char.{is_ascii_digit}
use Rattle.std.specs.List.{flat_map}
use Rattle.std.specs.Str.{is_utf8}
use Rattle.std.proofs.lemmas.Bool.Decides.{Decides-ltb}
use Rattle.std.proofs.lemmas.List.Elements.{All-nil, All-cons, All-head, All-tail}
use Rattle.std.proofs.lemmas.Str.{IsUtf8-from_is_utf8, is_utf8-from_IsUtf8}
use Rattle.httparse.specs.Grammar.{AllPass, Field, IsField, LineEnd, RequestHead, ReadsRequest, ResponseHead, ReadsResponse, crlf, lf, is_token_byte, is_uri_byte, is_value_byte, print_blank, print_end, print_field, print_section, print_version}
use Rattle.httparse.specs.Pieces.{Piece, Then, Stops, is_newline, Blank, Bytes, Code, FieldLine, Method, Newline, Reason, Section, SectionOfAtMost, Target, Text, Version, Word}
use Rattle.httparse.proofs.GrammarLemmas.{request_tree, request_head as tree_request, request_pieces, request_from_pieces, response_head as tree_response, response_pieces, response_from_pieces}
use Rattle.httparse.proofs.PieceLemmas.{FieldLine_parts, Stops-FieldLine, Stops_token, Stops_value, newline_not_stopped, print_field-append, space_ends_token}
use Rattle.rh_http.specs.Requests.{IsRequestText, greatest_fields}
use Rattle.rh_http.specs.Responses.{IsResponseText}
use Rattle.rh_http.specs.Heads.Readers.{Reader, read_as, and_then, these, all_of}
use Rattle.rh_http.specs.Heads.Heads.{behind_empty_lines, field_line, line_end, reason, request_head, request_line, response_head, section, status, status_line, target, value_line, version, word}
use Rattle.rh_http.proofs.Heads.Finds.{Finds, Finds-like}
use Rattle.rh_http.proofs.Heads.Meets.{Meets, Meets-like, Meets-as, Meets-where, Meets-or, Meets-then, Meets-exactly, Meets-these, Meets-one_byte, Meets-up_to_other, Finds-all_of}
use Rattle.rh_http.proofs.Heads.Rows.{Row, Apart, Meets-row, Meets-rows}

-- ---- lines

-- a text with a CR LF at its front has no LF there
no_both_ends : (r q : List ℕ) → ◌≡◌ {A = List ℕ} (13 ∷ 10 ∷ r) (10 ∷ q) → ⊥
no_both_ends r q e = let wrong : ◌≡◌ {A = ℕ} 13 10 = cc in omega (arith, wrong)

pub Meets-line_end : Meets Newline line_end
Meets-line_end =
    Meets-like
    (Meets-or (Meets-exactly (13 ∷ 10 ∷ []) crlf) (Meets-exactly (10 ∷ []) lf)
    (λ a b text r q x y. no_both_ends r q (sym x.1 ∙ y.1)))
    there back
  where
    there : (end : LineEnd) (text rest : List ℕ) → Newline end text rest
        → ((end ≡ crlf) × (text ≡ 13 ∷ 10 ∷ rest)) ⊎ ((end ≡ lf) × (text ≡ 10 ∷ rest))
    there crlf text rest x = inl (refl, x)
    there lf text rest x = inr (refl, x)

    back : (end : LineEnd) (text rest : List ℕ)
        → ((end ≡ crlf) × (text ≡ 13 ∷ 10 ∷ rest)) ⊎ ((end ≡ lf) × (text ≡ 10 ∷ rest))
        → Newline end text rest
    back end text rest x =
        let P : LineEnd → Type 0 = λ e. Newline e text rest in
        ⊎_elim (λ y. subst P (sym y.0) y.1) (λ y. subst P (sym y.0) y.1) x

-- a line's end has a byte
newline_byte : (end : LineEnd) (text rest : List ℕ) → Newline end text rest
    → suc (length rest) ≤ length text
newline_byte crlf text rest x = omega (arith, ap length x)
newline_byte lf text rest x = omega (arith, ap length x)

pub Meets-word : (passes : ℕ → Bool) (stop : ℕ) → passes stop ≡ false
    → Meets (Word passes stop) (word passes stop)
Meets-word passes stop fails =
    Meets-as (λ found. found.0)
    (Meets-then
    (Meets-where (λ bytes. nat_lt 0 (length bytes)) (λ bytes. 0 < length bytes)
    (λ bytes. Decides-ltb 0 (length bytes)) (Meets-up_to_other passes))
    (Meets-these (stop ∷ [])))
    (λ w text rest x.
    ((w, tt), refl, (stop ∷ rest, ((x.1, x.2, fails), x.0), refl)))
    (λ w text rest x.
    (x.1.1, x.1.0.0, x.1.0.1 ∙ ap (λ r. w.0 ++ r) x.2))

pub Meets-version : Meets Version version
Meets-version =
    Meets-like
    (Meets-or (Meets-exactly (print_version 1) 1) (Meets-exactly (print_version 0) 0)
    (λ a b text r q x y. apart r q (sym x.1 ∙ y.1)))
    there back
  where
    apart : (r q : List ℕ) → print_version 1 ++ r ≡ print_version 0 ++ q → ⊥
    apart r q e = let wrong : ◌≡◌ {A = ℕ} 49 48 = cc in omega (arith, wrong)

    there : (minor : ℕ) (text rest : List ℕ) → Version minor text rest
        → ((minor ≡ 1) × (text ≡ print_version 1 ++ rest))
        ⊎ ((minor ≡ 0) × (text ≡ print_version 0 ++ rest))
    there minor text rest x =
        let T : ℕ → Type 0 = λ n. text ≡ print_version n ++ rest in
        ⊎_elim
        (λ e. inl (e, subst T e x.1))
        (λ e. inr (e, subst T e x.1))
        (low minor x.0)
      where
        low : (n : ℕ) → n ≤ 1 → (n ≡ 1) ⊎ (n ≡ 0)
        low n le = grind arith

    back : (minor : ℕ) (text rest : List ℕ)
        → ((minor ≡ 1) × (text ≡ print_version 1 ++ rest))
        ⊎ ((minor ≡ 0) × (text ≡ print_version 0 ++ rest))
        → Version minor text rest
    back minor text rest x =
        let P : ℕ → Type 0 = λ n. Version n text rest in
        ⊎_elim
        (λ y. subst P (sym y.0) (omega arith, y.1))
        (λ y. subst P (sym y.0) (omega arith, y.1))
        x

pub Meets-value_line : Meets Text value_line
Meets-value_line =
    Meets-like (Meets-then (Meets-up_to_other is_value_byte) Meets-line_end)
    (λ t text rest x.
    (print_end t.1 ++ rest, (x.0, x.1, Stops_value t.1 rest), refl))
    (λ t text rest x. (x.1.0, x.1.1 ∙ ap (λ r. t.0 ++ r) x.2))

-- ---- fields

colon_no_token : is_token_byte 58 ≡ false
unfolding is_token_byte
colon_no_token = refl

pub Meets-field_line : Meets FieldLine field_line
Meets-field_line =
    Meets-as (λ found. record { name = found.0; raw = found.1.0; end = found.1.1 })
    (Meets-then (Meets-word is_token_byte 58 colon_no_token) Meets-value_line)
    (λ f text rest x. ((f.name, (f.raw, f.end)), refl, FieldLine_parts f text rest x))
    back
  where
    back : (t : List ℕ × (List ℕ × LineEnd)) (text rest : List ℕ)
        → Then (Word is_token_byte 58) Text t text rest
        → FieldLine (record { name = t.0; raw = t.1.0; end = t.1.1 }) text rest
    back t text rest x =
        let field : Field = record { name = t.0; raw = t.1.0; end = t.1.1 } in (
          record { name = (x.1.0, x.1.1); raw = x.2.0 },
          x.1.2 ∙ ap (λ r. t.0 ++ 58 ∷ r) x.2.1 ∙ sym (print_field-append field rest),
        )

-- a section's first line, and what stands behind it
section_parts : (f : Field) (fields : List Field) (last : LineEnd) (rest : List ℕ)
    → print_section (f ∷ fields) last ++ rest
    ≡ print_field f ++ (print_section fields last ++ rest)
section_parts f fields last rest =
    ap (λ x. x ++ rest)
    (append_assoc (print_field f) (flat_map print_field fields) (print_end last))
    ∙ append_assoc (print_field f) (print_section fields last) rest

section_row : (fields : List Field) (last : LineEnd) (text rest : List ℕ)
    → Section (fields, last) text rest → Row FieldLine Newline fields last text rest
section_row [] last text rest x = x.1
section_row (f ∷ fields) last text rest x = (
  print_section fields last ++ rest,
  (All-head IsField f fields x.0, x.1 ∙ section_parts f fields last rest),
  section_row fields last (print_section fields last ++ rest) rest
      (All-tail IsField f fields x.0, refl),
)

row_section : (fields : List Field) (last : LineEnd) (text rest : List ℕ)
    → Row FieldLine Newline fields last text rest → Section (fields, last) text rest
row_section [] last text rest x = (All-nil IsField, x)
row_section (f ∷ fields) last text rest x =
    let tail = row_section fields last x.0 rest x.2 in (
      All-cons IsField f fields x.1.0 tail.0,
      x.1.1 ∙ ap (λ r. print_field f ++ r) tail.1 ∙ sym (section_parts f fields last rest),
    )

-- no field line begins with a line's end
field_apart : Apart FieldLine Newline
field_apart f end text r q x y =
    newline_not_stopped end q text (sym y) (Stops-FieldLine f text r x)

pub Meets-section : Meets (SectionOfAtMost greatest_fields) section
Meets-section =
    Meets-like (Meets-row Meets-field_line Meets-line_end field_apart greatest_fields)
    (λ s text rest x. (section_row s.0 s.1 text rest x.0, x.1))
    (λ s text rest x. (row_section s.0 s.1 text rest x.0, x.1))

-- ---- empty lines

-- a piece that begins with no line's end
abbrev pub Begun : {A : Type 0} → Piece A → Type 0
Begun {A} H = (a : A) (text rest : List ℕ) → H a text rest → Stops is_newline text

module _ {A : Type 0} {H : Piece A} {start : Reader A} (h : Meets H start) (begun : Begun H) where
  row_blank : (ends : List LineEnd) (a : A) (text rest : List ℕ) → Row Newline H ends a text rest
      → Then Blank H (ends, a) text rest
  row_blank [] a text rest x = (text, (refl, begun a text rest x), x)
  row_blank (end ∷ ends) a text rest x =
      let tail = row_blank ends a x.0 rest x.2 in (
        tail.0,
        (
          x.1 ∙ ap (λ r. print_end end ++ r) tail.1.0
              ∙ sym (append_assoc (print_end end) (print_blank ends) tail.0),
          tail.1.1,
        ),
        tail.2,
      )

  blank_row : (ends : List LineEnd) (a : A) (text middle rest : List ℕ)
      → text ≡ print_blank ends ++ middle → H a middle rest → Row Newline H ends a text rest
  blank_row [] a text middle rest e x =
      let P : List ℕ → Type 0 = λ t. H a t rest in subst P (sym e) x
  blank_row (end ∷ ends) a text middle rest e x = (
    print_blank ends ++ middle,
    e ∙ append_assoc (print_end end) (print_blank ends) middle,
    blank_row ends a (print_blank ends ++ middle) middle rest refl x,
  )

  pub Meets-behind_empty_lines : Meets (Then Blank H) (behind_empty_lines start)
  Meets-behind_empty_lines =
      Meets-like
      (Meets-rows Meets-line_end h
      (λ end a text r q x y. newline_not_stopped end r text (sym x) (begun a text q y))
      newline_byte)
      (λ x text rest y. blank_row x.0 x.1 text y.0 rest y.1.0 y.2)
      (λ x text rest y. row_blank x.0 x.1 text rest y)

-- ---- requests

space_no_target : is_uri_byte 32 ≡ false
space_no_target = refl

pub Meets-target : Meets Target target
Meets-target =
    Meets-where is_utf8 IsUtf8
    (λ text. (IsUtf8-from_is_utf8 text, is_utf8-from_IsUtf8 text))
    (Meets-word is_uri_byte 32 space_no_target)

abbrev pub RequestLine : Piece (List ℕ × (List ℕ × (ℕ × LineEnd)))
RequestLine = Then Method (Then Target (Then Version Newline))

pub Meets-request_line : Meets RequestLine request_line
Meets-request_line =
    Meets-then (Meets-word is_token_byte 32 space_ends_token)
    (Meets-then Meets-target (Meets-then Meets-version Meets-line_end))

request_begun : Begun RequestLine
request_begun line text rest x =
    let P : List ℕ → Type 0 = λ t. Stops is_newline t in
    subst P (sym x.1.2) (Stops_token line.0 (32 ∷ x.0) x.1.0 x.1.1)

-- a head at the front of a text, with as many fields as it may have
abbrev pub RequestPiece : Piece RequestHead
RequestPiece head text rest = ReadsRequest text head rest × (length head.fields ≤ greatest_fields)

pub Meets-request_head : Meets RequestPiece request_head
Meets-request_head =
    Meets-as tree_request
    (Meets-then (Meets-behind_empty_lines Meets-request_line request_begun) Meets-section)
    (λ head text rest x.
    let pieces = request_pieces text head rest x.0 in
    (request_tree head, refl, (pieces.0, pieces.1, (pieces.2, x.1))))
    (λ tree text rest x. (request_from_pieces text tree rest (x.0, x.1, x.2.0), x.2.1))

-- what all of a text is
pub Finds-request : (text : List ℕ) → Finds (all_of (request_head text)) (IsRequestText text)
Finds-request text =
    Finds-like (all_of (request_head text)) (Finds-all_of Meets-request_head text)
    (λ head x. (x.reads, x.few))
    (λ head x. record { reads = x.0; few = x.1 })

-- ---- responses

space_no_newline : (end : LineEnd) (text r q : List ℕ) → Newline end text r → text ≡ 32 ∷ q → ⊥
space_no_newline end text r q x e = newline_not_stopped end r (32 ∷ q) (sym x ∙ e) refl

-- with a phrase, and without one
abbrev Told : Piece (Option (List ℕ) × LineEnd)
Told r text rest =
    (phrase : List ℕ) × (r.0 ≡ Some phrase) × AllPass is_value_byte phrase
    × (text ≡ 32 ∷ (phrase ++ (print_end r.1 ++ rest)))

abbrev Untold : Piece (Option (List ℕ) × LineEnd)
Untold r text rest = (r.0 ≡ None) × Newline r.1 text rest

told : Meets Told (λ text. read_as (λ found. (Some found.1.0, found.1.1))
    (and_then (these (32 ∷ []) text) value_line))
told =
    Meets-as (λ found. (Some found.1.0, found.1.1))
    (Meets-then (Meets-these (32 ∷ [])) Meets-value_line)
    (λ r text rest x. (
      (tt, (x.0, r.1)),
      ap (λ o. (o, r.1)) (sym x.1),
      (x.0 ++ (print_end r.1 ++ rest), x.3, (x.2, refl)),
    ))
    (λ t text rest x. (t.1.0, refl, x.2.0, x.1 ∙ ap (λ m. 32 ∷ m) x.2.1))

untold : Meets Untold (λ text. read_as (λ end. (None, end)) (line_end text))
untold =
    Meets-as (λ end. (None, end)) Meets-line_end
    (λ r text rest x. (r.1, ap (λ o. (o, r.1)) (sym x.0), x.1))
    (λ end text rest x. (refl, x))

told_or_not : (o : Option (List ℕ)) (end : LineEnd) (text rest : List ℕ)
    → Reason (o, end) text rest → Told (o, end) text rest ⊎ Untold (o, end) text rest
told_or_not None end text rest x = inr (refl, x.1)
told_or_not (Some phrase) end text rest x = inl (phrase, refl, x.0, x.1)

pub Meets-reason : Meets Reason reason
Meets-reason =
    Meets-like
    (Meets-or told untold
    (λ a b text r q x y.
    space_no_newline b.1 text q (x.0 ++ (print_end a.1 ++ r)) y.1 x.3))
    (λ r text rest x. told_or_not r.0 r.1 text rest x)
    (λ r text rest x.
    let P : Option (List ℕ) → Type 0 = λ o. Reason (o, r.1) text rest in
    ⊎_elim
    (λ y. subst P (sym y.1) (y.2, y.3))
    (λ y. subst P (sym y.0) (All-nil (λ v. is_value_byte v ≡ true), y.1))
    x)

pub Meets-status : Meets Code status
Meets-status =
    Meets-then (Meets-one_byte is_ascii_digit)
    (Meets-then (Meets-one_byte is_ascii_digit) (Meets-one_byte is_ascii_digit))

abbrev pub StatusLine : Piece (ℕ × (⊤ × ((ℕ × (ℕ × ℕ)) × (Option (List ℕ) × LineEnd))))
StatusLine = Then Version (Then (Bytes (32 ∷ [])) (Then Code Reason))

pub Meets-status_line : Meets StatusLine status_line
Meets-status_line =
    Meets-then Meets-version
    (Meets-then (Meets-these (32 ∷ [])) (Meets-then Meets-status Meets-reason))

status_begun : Begun StatusLine
status_begun line text rest x =
    let P : List ℕ → Type 0 = λ t. Stops is_newline t in subst P (sym x.1.1) refl

-- a head at the front of a text, with as many fields as it may have
abbrev pub ResponsePiece : Piece ResponseHead
ResponsePiece head text rest =
    ReadsResponse text head rest × (length head.fields ≤ greatest_fields)

pub Meets-response_head : Meets ResponsePiece response_head
Meets-response_head =
    Meets-as tree_response
    (Meets-then (Meets-behind_empty_lines Meets-status_line status_begun) Meets-section)
    (λ head text rest x.
    let pieces = response_pieces text head rest x.0 in
    let P : ResponseHead → Type 0 = λ h. length h.fields ≤ greatest_fields in (
      pieces.0,
      pieces.1,
      (pieces.2.0, pieces.2.1, (pieces.2.2, subst P (sym pieces.1) x.1)),
    ))
    (λ tree text rest x. (response_from_pieces text tree rest (x.0, x.1, x.2.0), x.2.1))

-- what all of a text is
pub Finds-response : (text : List ℕ) → Finds (all_of (response_head text)) (IsResponseText text)
Finds-response text =
    Finds-like (all_of (response_head text)) (Finds-all_of Meets-response_head text)
    (λ head x. (x.reads, x.few))
    (λ head x. record { reads = x.0; few = x.1 })

-- a search for the fields of one name
use Rattle.std.proofs.Common.{◌≡◌, ℕ, ◌+◌, ◌<◌, Bool, true, List, [], ◌∷◌, ◌++◌, length, map, drop, get_or, Bor, sym, ap, ◌∙◌, Some, None}
use Rattle.std.specs.declared.option.Option.{Option}
use Rattle.std.specs.Prelude.{if◌then◌else◌, is_some}
use Rattle.std.proofs.lemmas.List.{drop_more}
use Rattle.httparse.specs.declared.spans.HeaderSpan.{HeaderSpan}
use Rattle.httparse.specs.Spans.{header_bytes, span_bytes}
use Rattle.rh_http.specs.Lengths.{Fields, is_content_length, lengths_of}
use Rattle.rh_http.specs.Found.{IsFound}
use Rattle.rh_http.specs.declared.lengths.Lengths.TheVariants.{Again}

-- the value that was found
abbrev pub found_list : Option (Bor (List ℕ)) → List (List ℕ)
found_list None = []
found_list (Some text) = text.now ∷ []

-- the values among the fields from a place on
abbrev pub lengths_from : List ℕ → List HeaderSpan → ℕ → List (List ℕ)
lengths_from head fields i = lengths_of (map (header_bytes head) (drop i fields))

-- what was found and what comes are all
abbrev pub Searched : List ℕ → List HeaderSpan → ℕ → Option (Bor (List ℕ)) → Type 0
Searched head fields i found = found_list found ++ lengths_from head fields i
    ≡ lengths_from head fields 0

-- a list of values with the next one, if it is of the name
next_values : (b : Bool) (head : List ℕ) (field : HeaderSpan) (rest : Fields)
    → is_content_length (span_bytes head field.name) ≡ b
    → lengths_of (header_bytes head field ∷ rest)
    ≡ (if b then span_bytes head field.value ∷ lengths_of rest else lengths_of rest)
next_values b head field rest e =
    ap (λ (t : Bool). if t then span_bytes head field.value ∷ lengths_of rest else lengths_of rest)
    e

-- past a field
pub next_field : (head : List ℕ) (fields : List HeaderSpan) (i : ℕ) (d : HeaderSpan) (b : Bool)
    → i < length fields
    → is_content_length (span_bytes head (get_or fields i d).name) ≡ b
    → lengths_from head fields i
    ≡ (if b then span_bytes head (get_or fields i d).value ∷ lengths_from head fields (i + 1)
    else lengths_from head fields (i + 1))
next_field head fields i d b below named =
    ap (λ (fs : List HeaderSpan). lengths_of (map (header_bytes head) fs))
    (drop_more fields i d below)
    ∙ next_values b head (get_or fields i d) (map (header_bytes head) (drop (i + 1) fields)) named

-- a second one is found
pub found_again : (head : List ℕ) (fields : List HeaderSpan) (i : ℕ) (d : HeaderSpan)
    (found : Option (Bor (List ℕ)))
    → i < length fields → is_content_length (span_bytes head (get_or fields i d).name) ≡ true
    → true ≡ is_some found → Searched head fields i found
    → IsFound (lengths_from head fields 0) Again
found_again head fields i d (Some text) below named some h =
    let more = next_field head fields i d true below named in (
      text.now,
      span_bytes head (get_or fields i d).value,
      lengths_from head fields (i + 1),
      sym h ∙ ap (λ (x : List (List ℕ)). text.now ∷ x) more,
    )
found_again head fields i d None below named some h = absurd (cc)

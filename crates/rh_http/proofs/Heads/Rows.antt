-- some things of one kind, and the last of another
use Rattle.std.proofs.Common.{◌≡◌, ℕ, zero, suc, ◌≤◌, List, [], ◌∷◌, length, Some, None, ap, ◌∙◌, subst, arith, ⊎_elim}
use Rattle.httparse.specs.Pieces.{Piece}
use Rattle.rh_http.specs.Heads.Readers.{Reader, read_as, or_else, and_then, some_then}
use Rattle.rh_http.proofs.Heads.Finds.{none_from, read_as_some, or_else_some, and_then_some}
use Rattle.rh_http.proofs.Heads.Meets.{Meets}

-- things of the one kind, one behind the other, and then the last
abbrev pub Row : {A B : Type 0} → Piece A → Piece B → List A → B → List ℕ → List ℕ → Type 0
Row G H [] b text rest = H b text rest
Row G H (a ∷ xs) b text rest = (middle : List ℕ) × G a text middle × Row G H xs b middle rest

-- no text begins with both
abbrev pub Apart : {A B : Type 0} → Piece A → Piece B → Type 0
Apart {A} {B} G H = (a : A) (b : B) (text r q : List ℕ) → G a text r → H b text q → ⊥

module _ {A B : Type 0} {G : Piece A} {H : Piece B} {one : Reader A} {last : Reader B}
    (g : Meets G one) (h : Meets H last) (apart : Apart G H) where
  pub row_finds : (n : ℕ) (xs : List A) (b : B) (text rest : List ℕ) → length xs ≤ n
      → Row G H xs b text rest → some_then n one last text ≡ Some ((xs, b), rest)
  row_finds zero [] b text rest few x = ap (read_as (λ b. ([], b))) (h.finds b text rest x)
  row_finds zero (a ∷ xs) b text rest few x = absurd (omega (arith, few))
  row_finds (suc n) [] b text rest few x =
      ap (λ o. or_else (read_as (λ b. ([], b)) o)
      (read_as (λ found. (found.0 ∷ found.1.0, found.1.1))
      (and_then (one text) (some_then n one last))))
      (h.finds b text rest x)
  row_finds (suc n) (a ∷ xs) b text rest few x =
      let none : last text ≡ None =
      none_from (last text) (λ f e. apart a f.0 text x.0 f.1 x.1 (h.found f.0 text f.1 e)) in
      let tail = row_finds n xs b x.0 rest (omega (arith, few)) x.2 in
      let more : and_then (one text) (some_then n one last) ≡ Some ((a, (xs, b)), rest) =
      ap (λ o. and_then o (some_then n one last)) (g.finds a text x.0 x.1)
      ∙ ap (read_as (λ y. (a, y))) tail in
      ap (λ o. or_else (read_as (λ b. ([], b)) o)
      (read_as (λ found. (found.0 ∷ found.1.0, found.1.1))
      (and_then (one text) (some_then n one last))))
      none
      ∙ ap (read_as (λ found. (found.0 ∷ found.1.0, found.1.1))) more

  -- what the last one alone makes
  last_found : (n : ℕ) (xs : List A) (b : B) (text rest : List ℕ)
      → read_as {A = B} {B = List A × B} (λ b. ([], b)) (last text) ≡ Some ((xs, b), rest)
      → Row G H xs b text rest × (length xs ≤ n)
  last_found n xs b text rest e =
      let read = read_as_some (λ b. ([], b)) (last text) (xs, b) rest e in
      let P : List A × B → Type 0 = λ x. Row G H x.0 x.1 text rest × (length x.0 ≤ n) in
      subst P read.2 (h.found read.0 text rest read.1, omega arith)

  pub row_found : (n : ℕ) (xs : List A) (b : B) (text rest : List ℕ)
      → some_then n one last text ≡ Some ((xs, b), rest)
      → Row G H xs b text rest × (length xs ≤ n)
  row_found zero xs b text rest e = last_found zero xs b text rest e
  row_found (suc n) xs b text rest e =
      ⊎_elim
      (λ first. last_found (suc n) xs b text rest first)
      (λ second.
      let read = read_as_some (λ found. (found.0 ∷ found.1.0, found.1.1))
      (and_then (one text) (some_then n one last)) (xs, b) rest second in
      let both = and_then_some (one text) (some_then n one last) read.0 rest read.1 in
      let tail = row_found n read.0.1.0 read.0.1.1 both.0 rest both.2 in
      let P : List A × B → Type 0 = λ x. Row G H x.0 x.1 text rest × (length x.0 ≤ suc n) in
      subst P read.2
      ((both.0, g.found read.0.0 text both.0 both.1, tail.0), omega (arith, tail.1)))
      (or_else_some (read_as (λ b. ([], b)) (last text))
      (read_as (λ found. (found.0 ∷ found.1.0, found.1.1))
      (and_then (one text) (some_then n one last)))
      ((xs, b), rest) e)

  -- at most n things
  pub Meets-row : (n : ℕ)
      → Meets (λ x text rest. Row G H x.0 x.1 text rest × (length x.0 ≤ n))
      (some_then n one last)
  Meets-row n = record {
    finds = λ x text rest y. row_finds n x.0 x.1 text rest y.1 y.0;
    found = λ x text rest e. row_found n x.0 x.1 text rest e;
  }

  -- where each thing has a byte, there are no more of them than bytes
  row_short : ((a : A) (text rest : List ℕ) → G a text rest → suc (length rest) ≤ length text)
      → (xs : List A) (b : B) (text rest : List ℕ) → Row G H xs b text rest
      → length xs ≤ length text
  row_short byte [] b text rest x = omega arith
  row_short byte (a ∷ xs) b text rest x =
      omega (arith, byte a text x.0 x.1, row_short byte xs b x.0 rest x.2)

  -- as many things as there are
  pub Meets-rows : ((a : A) (text rest : List ℕ) → G a text rest
      → suc (length rest) ≤ length text)
      → Meets (λ x text rest. Row G H x.0 x.1 text rest)
      (λ text. some_then (length text) one last text)
  Meets-rows byte = record {
    finds = λ x text rest y.
        row_finds (length text) x.0 x.1 text rest (row_short byte x.0 x.1 text rest y) y;
    found = λ x text rest e. (row_found (length text) x.0 x.1 text rest e).0;
  }

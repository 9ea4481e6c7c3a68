-- what readers read
use Rattle.std.proofs.Common.{◌≡◌, ℕ, Bool, true, false, List, [], ◌∷◌, ◌++◌, Some, None, refl, sym, ap, ◌∙◌, subst, inl, inr, ◌⊎◌, ⊎_elim}
use Rattle.std.specs.Prelude.{◌==◌, Decides, if◌then◌else◌}
use Rattle.std.proofs.lemmas.Bool.{cond-true, cond-false}
use Rattle.std.proofs.lemmas.Bool.Decides.{Decides-eqb}
use Rattle.std.proofs.lemmas.Option.{cond_some}
use Rattle.std.proofs.lemmas.List.Elements.{All-nil, All-cons, All-head, All-tail}
use Rattle.httparse.specs.Grammar.{AllPass}
use Rattle.httparse.specs.Pieces.{Piece, Then, Stops, Bytes, Run}
use Rattle.rh_http.specs.Heads.Readers.{Reader, read_as, where_it, or_else, and_then, behind, meant, exactly, these, one_byte, up_to_other, all_of}
use Rattle.rh_http.proofs.Heads.Finds.{Finds, none_is_some, some_is, none_from, read_as_some, where_it_some, or_else_some, and_then_some, meant_some, all_of_some}

-- a reader reads exactly the pieces of a grammar
pub record Meets {A : Type 0} (G : Piece A) (reader : Reader A) : Type 0 where
  pub finds : (a : A) (text rest : List ℕ) → G a text rest → reader text ≡ Some (a, rest)
  pub found : (a : A) (text rest : List ℕ) → reader text ≡ Some (a, rest) → G a text rest

-- ---- one reader from another

pub Meets-like : {A : Type 0} {G H : Piece A} {reader : Reader A} → Meets G reader
    → ((a : A) (text rest : List ℕ) → H a text rest → G a text rest)
    → ((a : A) (text rest : List ℕ) → G a text rest → H a text rest) → Meets H reader
Meets-like m there back = record {
  finds = λ a text rest h. m.finds a text rest (there a text rest h);
  found = λ a text rest e. back a text rest (m.found a text rest e);
}

pub Meets-as : {A B : Type 0} {G : Piece A} {H : Piece B} {reader : Reader A} (form : A → B)
    → Meets G reader
    → ((b : B) (text rest : List ℕ) → H b text rest → (a : A) × (form a ≡ b) × G a text rest)
    → ((a : A) (text rest : List ℕ) → G a text rest → H (form a) text rest)
    → Meets H (λ text. read_as form (reader text))
Meets-as {A} {B} {G} {H} {reader} form m there back = record {
  finds = λ b text rest h.
      let one = there b text rest h in
      ap (read_as form) (m.finds one.0 text rest one.2) ∙ ap (λ x. Some (x, rest)) one.1;
  found = λ b text rest e.
      let one = read_as_some form (reader text) b rest e in
      let P : B → Type 0 = λ x. H x text rest in
      subst P one.2 (back one.0 text rest (m.found one.0 text rest one.1));
}

pub Meets-where : {A : Type 0} {G : Piece A} {reader : Reader A} (passes : A → Bool)
    (P : A → Type 0)
    → ((a : A) → Decides (passes a) (P a)) → Meets G reader
    → Meets (λ a text rest. G a text rest × P a) (λ text. where_it passes (reader text))
Meets-where {A} {G} {reader} passes P decides m = record {
  finds = λ a text rest h.
      ap (where_it passes) (m.finds a text rest h.0)
      ∙ cond-true (passes a) (Some (a, rest)) None ((decides a).1 h.1);
  found = λ a text rest e.
      let both = where_it_some passes (reader text) a rest e in
      (m.found a text rest both.0, (decides a).0 both.1);
}

-- where no text begins with both
pub Meets-or : {A : Type 0} {G H : Piece A} {first second : Reader A} → Meets G first
    → Meets H second
    → ((a b : A) (text r q : List ℕ) → G a text r → H b text q → ⊥)
    → Meets (λ a text rest. G a text rest ⊎ H a text rest)
    (λ text. or_else (first text) (second text))
Meets-or {A} {G} {H} {first} {second} g h apart = record {
  finds = λ a text rest x.
      ⊎_elim
      (λ one. ap (λ o. or_else o (second text)) (g.finds a text rest one))
      (λ other.
      let none : first text ≡ None =
      none_from (first text) (λ f e. apart f.0 a text f.1 rest (g.found f.0 text f.1 e) other) in
      ap (λ o. or_else o (second text)) none ∙ h.finds a text rest other)
      x;
  found = λ a text rest e.
      ⊎_elim
      (λ one. inl (g.found a text rest one))
      (λ other. inr (h.found a text rest other))
      (or_else_some (first text) (second text) (a, rest) e);
}

pub Meets-then : {A B : Type 0} {G : Piece A} {H : Piece B} {first : Reader A} {next : Reader B}
    → Meets G first → Meets H next
    → Meets (Then G H) (λ text. and_then (first text) next)
Meets-then {A} {B} {G} {H} {first} {next} g h = record {
  finds = λ ab text rest x.
      ap (λ o. and_then o next) (g.finds ab.0 text x.0 x.1)
      ∙ ap (read_as (λ b. (ab.0, b))) (h.finds ab.1 x.0 rest x.2);
  found = λ ab text rest e.
      let both = and_then_some (first text) next ab rest e in
      (both.0, g.found ab.0 text both.0 both.1, h.found ab.1 both.0 rest both.2);
}

-- ---- bytes

same_byte : (b : ℕ) → (b == b) ≡ true
same_byte b = (Decides-eqb b b).1 refl

pub behind_finds : (bytes rest : List ℕ) → behind bytes (bytes ++ rest) ≡ Some rest
behind_finds [] rest = refl
behind_finds (b ∷ bytes) rest =
    cond-true (b == b) (behind bytes (bytes ++ rest)) None (same_byte b)
    ∙ behind_finds bytes rest

pub behind_found : (bytes text rest : List ℕ) → behind bytes text ≡ Some rest → text ≡ bytes ++ rest
behind_found [] text rest e = cc
behind_found (byte ∷ bytes) [] rest e = absurd (none_is_some rest e)
behind_found (byte ∷ bytes) (b ∷ text) rest e =
    by (b == byte) refl e (λ f. behind_found bytes text rest f)
  where
    by : (t : Bool) → (b == byte) ≡ t → (if t then behind bytes text else None) ≡ Some rest
        → (behind bytes text ≡ Some rest → text ≡ bytes ++ rest)
        → b ∷ text ≡ byte ∷ (bytes ++ rest)
    by true same f later =
        let tail : text ≡ bytes ++ rest = later f in
        let head : b ≡ byte = (Decides-eqb b byte).0 same in cc
    by false other f later = absurd (none_is_some rest f)

pub Finds-behind : (bytes text : List ℕ) → Finds (behind bytes text) (λ rest. text ≡ bytes ++ rest)
Finds-behind bytes text = record {
  finds = λ rest e. ap (behind bytes) e ∙ behind_finds bytes rest;
  found = λ rest e. behind_found bytes text rest e;
}

pub Meets-exactly : {A : Type 0} (bytes : List ℕ) (meaning : A)
    → Meets (λ a text rest. (a ≡ meaning) × (text ≡ bytes ++ rest)) (exactly bytes meaning)
Meets-exactly bytes meaning = record {
  finds = λ a text rest h.
      ap (λ x. meant meaning (behind bytes x)) h.1
      ∙ ap (meant meaning) (behind_finds bytes rest)
      ∙ ap (λ x. Some (x, rest)) (sym h.0);
  found = λ a text rest e.
      let both = meant_some meaning a (behind bytes text) rest e in
      (both.0, behind_found bytes text rest both.1);
}

pub Meets-these : (bytes : List ℕ) → Meets (Bytes bytes) (these bytes)
Meets-these bytes =
    Meets-like (Meets-exactly bytes (tt {0})) (λ a text rest h. (refl, h)) (λ a text rest h. h.1)

pub Meets-one_byte : (passes : ℕ → Bool)
    → Meets (λ a text rest. (passes a ≡ true) × (text ≡ a ∷ rest)) (one_byte passes)
Meets-one_byte passes = record {
  finds = λ a text rest h.
      ap (one_byte passes) h.1 ∙ cond-true (passes a) (Some (a, rest)) None h.0;
  found = found;
}
  where
    found : (a : ℕ) (text rest : List ℕ) → one_byte passes text ≡ Some (a, rest)
        → (passes a ≡ true) × (text ≡ a ∷ rest)
    found a [] rest e = absurd (none_is_some (a, rest) e)
    found a (b ∷ text) rest e =
        let both = cond_some (passes b) (b, text) (a, rest) e in
        let one : b ≡ a = ap (λ x. x.0) both.1 in
        let tail : text ≡ rest = ap (λ x. x.1) both.1 in
        (ap passes (sym one) ∙ both.0, cc)

module _ (passes : ℕ → Bool) where
  run_finds : (run rest : List ℕ) → AllPass passes run → Stops passes rest
      → up_to_other passes (run ++ rest) ≡ Some (run, rest)
  run_finds [] [] all stops = absurd stops
  run_finds [] (b ∷ rest) all stops =
      cond-false (passes b) (read_as (λ found. b ∷ found) (up_to_other passes rest))
      (Some ([], b ∷ rest)) stops
  run_finds (b ∷ run) rest all stops =
      cond-true (passes b) (read_as (λ found. b ∷ found) (up_to_other passes (run ++ rest)))
      (Some ([], b ∷ (run ++ rest))) (All-head (λ v. passes v ≡ true) b run all)
      ∙ ap (read_as (λ found. b ∷ found))
      (run_finds run rest (All-tail (λ v. passes v ≡ true) b run all) stops)

  -- past one byte
  run_more : (t : Bool) (b : ℕ) (run text rest : List ℕ) → passes b ≡ t
      → (if t then read_as (λ found. b ∷ found) (up_to_other passes text)
      else Some ([], b ∷ text)) ≡ Some (run, rest)
      → ((r : List ℕ) → up_to_other passes text ≡ Some (r, rest) → Run passes r text rest)
      → Run passes run (b ∷ text) rest
  run_more true b run text rest passed e later =
      let one = read_as_some (λ found. b ∷ found) (up_to_other passes text) run rest e in
      let tail = later one.0 one.1 in
      let P : List ℕ → Type 0 = λ r. Run passes r (b ∷ text) rest in
      subst P one.2 (
        All-cons (λ v. passes v ≡ true) b one.0 passed tail.0,
        ap (λ x. b ∷ x) tail.1,
        tail.2,
      )
  run_more false b run text rest failed e later =
      let P : List ℕ × List ℕ → Type 0 = λ x. Run passes x.0 (b ∷ text) x.1 in
      let same : ([], b ∷ text) ≡ (run, rest) = some_is ([], b ∷ text) (run, rest) e in
      subst P same (All-nil (λ v. passes v ≡ true), refl, failed)

  run_found : (run text rest : List ℕ) → up_to_other passes text ≡ Some (run, rest)
      → Run passes run text rest
  run_found run [] rest e = absurd (none_is_some (run, rest) e)
  run_found run (b ∷ text) rest e =
      run_more (passes b) b run text rest refl e (λ r f. run_found r text rest f)

  pub Meets-up_to_other : Meets (Run passes) (up_to_other passes)
  Meets-up_to_other = record {
    finds = λ run text rest h.
        ap (up_to_other passes) h.1 ∙ run_finds run rest h.0 h.2;
    found = run_found;
  }

-- ---- a text

pub Finds-all_of : {A : Type 0} {G : Piece A} {reader : Reader A} → Meets G reader
    → (text : List ℕ) → Finds (all_of (reader text)) (λ a. G a text [])
Finds-all_of {A} {G} {reader} m text = record {
  finds = λ a h. ap all_of (m.finds a text [] h);
  found = λ a e. m.found a text [] (all_of_some (reader text) a e);
}

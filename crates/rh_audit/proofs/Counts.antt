-- how many PDUs are left of a chain
use Rattle.std.proofs.Common.{◌≡◌, ℕ, zero, suc, ◌+◌, ◌<◌, List, [], ◌∷◌, ◌++◌, length, drop, sym, ap, ◌∙◌, arith}
use Rattle.std.specs.Prelude.{slice_index_or}
use Rattle.std.proofs.lemmas.List.{length-append, length-map}
use Rattle.rh_audit.specs.declared.link.Link.{Link}
use Rattle.rh_audit.specs.declared.place.Place.{Place}
use Rattle.rh_audit.specs.Captures.{carried}
use Rattle.rh_audit.specs.Cursors.{all_left_at, left_at}
use Rattle.rh_audit.specs.Links.{leg_of, legs_of}
use Rattle.rh_audit.specs.Pieces.{all_seen}
use Rattle.rh_audit.specs.Pipes.{pdu_pipe}
use Rattle.rh_audit.specs.Places.{bytes_at}
use Rattle.rh_audit.specs.Walks.{all_pdus}

-- a leg has as many as it has places
as_many : (link : Link) → length (leg_of link).pdus ≡ length link.places.now
as_many link =
    sym (ap length link.are)
    ∙ length-map link.places.now (bytes_at (carried (pdu_pipe link.kind) (all_seen link.lines.now)))

-- those of the legs from one on
count_from : (i : ℕ) (links : List Link) (d : Link) → i < length links
    → length (all_pdus (legs_of (drop i links)))
    ≡ length (slice_index_or links i d).places.now
    + length (all_pdus (legs_of (drop (suc i) links)))
count_from i [] d h = absurd (omega (arith, h))
count_from zero (link ∷ links) d h =
    length-append (leg_of link).pdus (all_pdus (legs_of links))
    ∙ ap (λ n. n + length (all_pdus (legs_of links))) (as_many link)
count_from (suc i) (link ∷ links) d h = count_from i links d (omega (arith, h))

pub count_at : (i : ℕ) (links : List Link) (d : Link) → i < length links
    → length (all_pdus (legs_of (drop i links)))
    ≡ length (slice_index_or links i d).places.now
    + length (all_pdus (legs_of (drop (i + 1) links)))
count_at i links d h =
    let next : suc i ≡ i + 1 = omega arith in
    count_from i links d h
    ∙ ap (λ n. length (slice_index_or links i d).places.now
    + length (all_pdus (legs_of (drop n links)))) next

-- with those of the leg that was begun
pub count_all : (at : ℕ) (bytes : List ℕ) (places : List Place) (later : List (List ℕ))
    → length places + length later ≡ length (all_left_at at bytes places ++ later)
count_all at bytes places later =
    ap (λ n. n + length later) (sym (length-map places (left_at at bytes)))
    ∙ sym (length-append (all_left_at at bytes places) later)

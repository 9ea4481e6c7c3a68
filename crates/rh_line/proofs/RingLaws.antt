-- laws of PDUs end to end
use Rattle.std.proofs.Common.{◌≡◌, ℕ, ◌≤◌, ◌==◌, false, List, [], ◌∷◌, ◌++◌, length, take, drop, slice_get, Some, None}
use Rattle.std.proofs.Common.{refl, sym, ◌∙◌, ap, subst, arith}
use Rattle.std.proofs.lemmas.List.{length-append, take_at, drop_at}
use Rattle.std.specs.List.{concat, AllByRecursion}
use Rattle.rh_pdu.specs.Header.{frag_of, greatest_length, header_length}
use Rattle.rh_pdu.specs.Frames.{IsFrame, IsPdu}
use Rattle.rh_pdu.specs.Cut.{frames_of}
use Rattle.rh_pdu.proofs.Cuts.{frame_at}
use Rattle.rh_pdu.proofs.Framing.{frames_joined}
use Rattle.rh_pdu.proofs.Pdus.{frame_bounds}
use Rattle.rh_line.specs.Queue.{total, behind, front_length}
use Rattle.rh_line.specs.Rings.{IsEndToEnd}
use Rattle.rh_line.proofs.Queues.{concat_push, each_push, length-concat}

each_frame : (pdus : List (List ℕ)) → AllByRecursion IsPdu pdus → AllByRecursion IsFrame pdus
each_frame [] h = tt
each_frame (pdu ∷ pdus) h = (h.0.frame, each_frame pdus h.1)

-- how many bytes there are
pub held_bytes : (bytes : List ℕ) → IsEndToEnd bytes → length bytes ≡ total (frames_of bytes)
held_bytes bytes h = ap length (sym h.whole) ∙ length-concat (frames_of bytes)

-- bytes that are PDUs end to end are these PDUs
joined : (bytes : List ℕ) (pdus : List (List ℕ)) → AllByRecursion IsPdu pdus → bytes ≡ concat pdus
    → (frames_of bytes ≡ pdus) × IsEndToEnd bytes
joined bytes pdus each is =
    let framed : frames_of bytes ≡ pdus =
    ap (λ (x : List ℕ). frames_of x) is ∙ (frames_joined pdus (each_frame pdus each)).0 in (
      framed,
      record {
        whole = ap (λ (x : List (List ℕ)). concat x) framed ∙ sym is;
        each = subst (λ (x : List (List ℕ)). AllByRecursion IsPdu x) (sym framed) each;
      },
    )

-- no bytes are no PDUs
pub nothing : (frames_of [] ≡ []) × IsEndToEnd []
nothing = joined [] [] tt refl

-- a PDU more at the end
pub pushed : (bytes pdu : List ℕ) → IsEndToEnd bytes → IsPdu pdu
    → (frames_of (bytes ++ pdu) ≡ frames_of bytes ++ pdu ∷ []) × IsEndToEnd (bytes ++ pdu)
pushed bytes pdu h is =
    joined (bytes ++ pdu) (frames_of bytes ++ pdu ∷ [])
    (each_push IsPdu (frames_of bytes) pdu h.each is)
    (ap (λ (x : List ℕ). x ++ pdu) (sym h.whole) ∙ sym (concat_push (frames_of bytes) pdu))

-- the first PDU and those behind it
pub record Begins (bytes : List ℕ) (pdus : List (List ℕ)) (len : ℕ) : Type 0 where
  pub header : header_length ≤ length bytes
  pub within : len ≤ length bytes
  pub long : len ≤ greatest_length
  pub told : frag_of bytes ≡ len
  pub first : slice_get pdus 0 ≡ Some (take len bytes)
  pub rest : frames_of (drop len bytes) ≡ behind pdus
  pub there : IsEndToEnd (drop len bytes)

pub begins : (bytes pdu : List ℕ) (pdus : List (List ℕ)) → frames_of bytes ≡ pdu ∷ pdus
    → IsEndToEnd bytes → Begins bytes (pdu ∷ pdus) (length pdu)
begins bytes pdu pdus is h =
    let each : AllByRecursion IsPdu (pdu ∷ pdus) =
    subst (λ (x : List (List ℕ)). AllByRecursion IsPdu x) is h.each in
    let whole : bytes ≡ pdu ++ concat pdus =
    sym h.whole ∙ ap (λ (x : List (List ℕ)). concat x) is in
    let front : take (length pdu) bytes ≡ pdu =
    ap (take (length pdu)) whole ∙ take_at pdu (concat pdus) (length pdu) refl in
    let back : drop (length pdu) bytes ≡ concat pdus =
    ap (drop (length pdu)) whole ∙ drop_at pdu (concat pdus) (length pdu) refl in
    let bounds = frame_bounds pdu each.0.frame in
    let fits : length pdu ≤ length bytes =
    omega (arith, ap length whole, length-append pdu (concat pdus)) in
    let rest = joined (drop (length pdu) bytes) pdus each.1 back in
    record {
      header = omega (arith, bounds.0, fits);
      within = fits;
      long = bounds.1;
      told = (frame_at (length pdu) bytes fits (subst IsFrame (sym front) each.0.frame)).1;
      first = ap (λ (x : List ℕ). Some x) (sym front);
      rest = rest.0;
      there = rest.1;
    }

-- the header at the front tells the length of the first PDU
pub front_told : (bytes : List ℕ) (pdus : List (List ℕ)) → frames_of bytes ≡ pdus → IsEndToEnd bytes
    → (length bytes == 0) ≡ false
    → (16 ≤ length bytes) × (Some (frag_of bytes) ≡ front_length pdus)
front_told bytes [] is h some =
    let none : length bytes ≡ 0 = held_bytes bytes h ∙ ap (λ (x : List (List ℕ)). total x) is in
    absurd (let t : (0 == 0) ≡ false = rw none at some in cc)
front_told bytes (pdu ∷ pdus) is h some =
    let b = begins bytes pdu pdus is h in (b.header, ap (λ (n : ℕ). Some n) b.told)

-- where a length is told, it is that of the first PDU
pub front_begins : (bytes : List ℕ) (pdus : List (List ℕ)) (len : ℕ) → frames_of bytes ≡ pdus
    → IsEndToEnd bytes → Some len ≡ front_length pdus → Begins bytes pdus len
front_begins bytes [] len is h told = absurd (cc)
front_begins bytes (pdu ∷ pdus) len is h told =
    let same : length pdu ≡ len = cc in
    subst (Begins bytes (pdu ∷ pdus)) same (begins bytes pdu pdus is h)

-- where none is told, there is none
pub front_none : (pdus : List (List ℕ)) → None ≡ front_length pdus → pdus ≡ []
front_none [] told = refl
front_none (pdu ∷ pdus) told = absurd (cc)

-- the places of the RPC PDUs of a stream, as they are kept frame by frame
use Rattle.std.proofs.Common.{◌≡◌, ℕ, suc, ◌+◌, ◌-◌, ◌≤◌, List, [], ◌∷◌, ◌++◌, Bool, true, false, length, take, drop, None, refl, sym, ap, ◌∙◌, subst, arith}
use Rattle.std.specs.Prelude.{if◌then◌else◌, map, slice_index_or}
use Rattle.std.proofs.lemmas.List.{append-nil, append_assoc, drop_at, drop-drop, take_all, take_at}
use Rattle.rh_sig.specs.declared.name.Pipe.{Pipe}
use Rattle.rh_audit.specs.declared.packet.Met.{Met}
use Rattle.rh_audit.specs.declared.place.Place.{Place}
use Rattle.rh_audit.specs.declared.summary.Summary.{Summary}
use Rattle.rh_audit.specs.Cursors.{CursorLeft, all_left_at, behind, left_at}
use Rattle.rh_audit.specs.Packets.{is_pdu, met}
use Rattle.rh_audit.specs.Places.{AreBehind, all_at, bytes_at}
use Rattle.rh_audit.specs.Streams.{Stream, mets, pdus, stream_is}
use Rattle.rh_audit.specs.StreamsLeft.{IsBegun, IsTaken, StandsIn, StreamLeft}
use Rattle.rh_audit.specs.Summaries.{none_found, summary, summed, with_met}
use Rattle.rh_audit.proofs.Summaries.{summed_all}

-- ---- places

-- they are from here on, and end there
abbrev AreBetween : ℕ → List Place → ℕ → Type 0
AreBetween from [] to = from ≤ to
AreBetween from (place ∷ places) to =
    (from ≤ place.at) × AreBetween (place.at + place.len) places to

between_behind : (from to : ℕ) (places : List Place) → AreBetween from places to
    → AreBehind from places
between_behind from to [] h = tt
between_behind from to (place ∷ places) h =
    (h.0, between_behind (place.at + place.len) to places h.1)

between_on : (from to later : ℕ) (places : List Place) → AreBetween from places to → to ≤ later
    → AreBetween from places later
between_on from to later [] h more = omega (arith, h, more)
between_on from to later (place ∷ places) h more =
    (h.0, between_on (place.at + place.len) to later places h.1 more)

between_more : (from to : ℕ) (places : List Place) (last : Place) → AreBetween from places to
    → to ≤ last.at
    → AreBetween from (places ++ last ∷ []) (last.at + last.len)
between_more from to [] last h more = (omega (arith, h, more), omega arith)
between_more from to (place ∷ places) last h more =
    (h.0, between_more (place.at + place.len) to places last h.1 more)

at_more : (bytes : List ℕ) (places : List Place) (last : Place)
    → all_at bytes (places ++ last ∷ []) ≡ all_at bytes places ++ bytes_at bytes last ∷ []
at_more bytes [] last = refl
at_more bytes (place ∷ places) last =
    ap (λ more. bytes_at bytes place ∷ more) (at_more bytes places last)

-- ---- frame by frame

-- what was said and kept of the frames of a stream before those that are left
pub record InRead (pipe : Pipe) (all : List ℕ) (is : Stream) (left : StreamLeft) (begins : Bool)
    (found : Summary) (places : List Place) : Type 0 where
  pub begun : IsBegun pipe all left.stream left
  pub unbroken : found.broken ≡ None
  pub says : summed found begins (mets pipe left.stream) left.stream.broken
      ≡ summed none_found true (mets pipe is) is.broken
  pub between : AreBetween 0 places left.place
  pub are : all_at all places ++ pdus pipe left.stream.frames ≡ pdus pipe is.frames

pub read_none : (pipe : Pipe) (all : List ℕ) (is : Stream) (left : StreamLeft)
    → IsBegun pipe all is left
    → InRead pipe all is left true none_found []
read_none pipe all is left h = record {
  begun = record { pipe_is = h.pipe_is; stream_is = refl; stands = h.stands };
  unbroken = refl;
  says = ap (λ (s : Stream). summed none_found true (mets pipe s) s.broken) h.stream_is;
  between = omega arith;
  are = ap (λ (s : Stream). pdus pipe s.frames) h.stream_is;
}

-- the place of a frame that is an RPC PDU is kept
abbrev pub kept : Bool → List Place → Place → List Place
kept pdu places place = if pdu then places ++ place ∷ [] else places

module _ (pipe : Pipe) (all : List ℕ) (is : Stream) (old new : StreamLeft) (begins : Bool)
    (found : Summary) (places : List Place) (m : Met) (at : Place)
    (h : InRead pipe all is old begins found places) (t : IsTaken m at old new) where
  -- it stands where it was found
  stands_there : (bytes_at all at ≡ new.frame) × StandsIn all new.place new.bytes
  stands_there =
      let later = h.begun.stands.0 in
      let from : drop old.place all ≡ new.frame ++ (new.bytes ++ later) =
      h.begun.stands.1 ∙ ap (λ (x : List ℕ). x ++ later) t.cut
      ∙ append_assoc new.frame new.bytes later in (
        ap (λ n. take n (drop at.at all)) t.size
            ∙ ap (λ n. take (length new.frame) (drop n all)) t.from
            ∙ ap (λ (x : List ℕ). take (length new.frame) x) from
            ∙ take_at new.frame (new.bytes ++ later) (length new.frame) refl,
        (
          later,
          ap (λ n. drop n all) t.onwards
              ∙ sym (drop-drop (length new.frame) old.place all)
              ∙ ap (λ (x : List ℕ). drop (length new.frame) x) from
              ∙ drop_at new.frame (new.bytes ++ later) (length new.frame) refl,
        ),
      )

  met_is : m ≡ met pipe new.frame
  met_is = t.is ∙ ap (λ p. met p new.frame) h.begun.pipe_is

  says_more : summed (with_met found begins m) false (mets pipe new.stream) new.stream.broken
      ≡ summed none_found true (mets pipe is) is.broken
  says_more =
      ap (λ x. summed (with_met found begins x) false (mets pipe new.stream) new.stream.broken)
      met_is
      ∙ sym (ap (λ (s : Stream). summed found begins (mets pipe s) s.broken) t.frames)
      ∙ h.says

  between_next : (pdu : Bool) → AreBetween 0 (kept pdu places at) new.place
  between_next true =
      subst (AreBetween 0 (places ++ at ∷ [])) (omega (arith, t.from, t.size, t.onwards))
      (between_more 0 old.place places at h.between (omega (arith, t.from)))
  between_next false =
      between_on 0 old.place new.place places h.between (omega (arith, t.onwards))

  are_next : (pdu : Bool) → is_pdu (met pipe new.frame) ≡ pdu
      → all_at all (kept pdu places at) ++ pdus pipe new.stream.frames ≡ pdus pipe is.frames
  are_next true e =
      ap (λ x. x ++ pdus pipe new.stream.frames)
      (at_more all places at ∙ ap (λ pdu. all_at all places ++ pdu ∷ []) stands_there.0)
      ∙ append_assoc (all_at all places) (new.frame ∷ []) (pdus pipe new.stream.frames)
      ∙ ap (λ b. all_at all places ++ (if b then new.frame ∷ pdus pipe new.stream.frames
      else pdus pipe new.stream.frames)) (sym e)
      ∙ ap (λ (s : Stream). all_at all places ++ pdus pipe s.frames) (sym t.frames)
      ∙ h.are
  are_next false e =
      ap (λ b. all_at all places ++ (if b then new.frame ∷ pdus pipe new.stream.frames
      else pdus pipe new.stream.frames)) (sym e)
      ∙ ap (λ (s : Stream). all_at all places ++ pdus pipe s.frames) (sym t.frames)
      ∙ h.are

  pub read_more : (next : List Place) → next ≡ kept (is_pdu m) places at
      → InRead pipe all is new false (with_met found begins m) next
  read_more next adds =
      let pdu = is_pdu (met pipe new.frame) in
      let keeps = adds ∙ ap (λ x. kept (is_pdu x) places at) met_is in
      record {
        begun = record {
          pipe_is = t.pipe_same ∙ h.begun.pipe_is;
          stream_is = refl;
          stands = stands_there.1;
        };
        unbroken = h.unbroken;
        says = says_more;
        between = subst (λ x. AreBetween 0 x new.place) (sym keeps) (between_next pdu);
        are = ap (λ x. all_at all x ++ pdus pipe new.stream.frames) keeps ∙ are_next pdu refl;
      }

-- no frame is left
pub read_all : (pipe : Pipe) (all : List ℕ) (is : Stream) (left : StreamLeft) (begins : Bool)
    (found : Summary) (places : List Place) → InRead pipe all is left begins found places
    → left.stream.frames ≡ []
    → ((record found { broken = left.stream.broken }) ≡ summary pipe is)
    × AreBehind 0 places × (all_at all places ≡ pdus pipe is.frames)
read_all pipe all is left begins found places h none = (
  sym (ap (λ frames. summed found begins (map (met pipe) frames) left.stream.broken) none)
      ∙ h.says ∙ summed_all (mets pipe is) is.broken,
  between_behind 0 left.place places h.between,
  sym (append-nil (all_at all places))
      ∙ ap (λ frames. all_at all places ++ pdus pipe frames) (sym none)
      ∙ h.are,
)

-- ---- from one place to the next

moved : (at to from : ℕ) (bytes : List ℕ) (places : List Place) → at ≤ to → to ≤ from
    → AreBehind from places
    → all_left_at at bytes places ≡ all_left_at to (drop (to - at) bytes) places
moved at to from bytes [] h k up = refl
moved at to from bytes (place ∷ places) h k up =
    let there : drop (place.at - at) bytes ≡ drop (place.at - to) (drop (to - at) bytes) =
    ap (λ n. drop n bytes) (omega (arith, h, k, up.0))
    ∙ sym (drop-drop (place.at - to) (to - at) bytes) in
    ap (λ (x : List ℕ). take place.len x ∷ all_left_at at bytes places) there
    ∙ ap (λ more. left_at to (drop (to - at) bytes) place ∷ more)
    (moved at to (place.at + place.len) bytes places h (omega (arith, k, up.0)) up.1)

-- the PDU at the next place, and those behind it
pub found_next : (at : ℕ) (bytes : List ℕ) (place : Place) (places : List Place) → at ≤ place.at
    → AreBehind (place.at + place.len) places
    → all_left_at at bytes (place ∷ places)
    ≡ left_at at bytes place
    ∷ all_left_at (place.at + place.len) (drop place.len (drop (place.at - at) bytes)) places
found_next at bytes place places h up =
    ap (λ more. left_at at bytes place ∷ more)
    (moved at (place.at + place.len) (place.at + place.len) bytes places (omega (arith, h))
    (omega arith) up
    ∙ ap (λ (x : List ℕ). all_left_at (place.at + place.len) x places)
    (ap (λ n. drop n bytes) (omega (arith, h))
    ∙ sym (drop-drop place.len (place.at - at) bytes)))

-- before the first
pub all_left_first : (bytes : List ℕ) (places : List Place)
    → all_left_at 0 bytes places ≡ all_at bytes places
all_left_first bytes [] = refl
all_left_first bytes (place ∷ places) =
    ap (λ n. take place.len (drop n bytes) ∷ all_left_at 0 bytes places) (omega arith)
    ∙ ap (λ more. bytes_at bytes place ∷ more) (all_left_first bytes places)

-- one PDU of a leg is found
pub walk_on : (old new : CursorLeft) (place : Place) (places : List Place)
    (later pdus : List (List ℕ)) → all_left_at old.at old.bytes (place ∷ places) ++ later ≡ pdus
    → AreBehind old.at (place ∷ places)
    → new ≡ behind place old
    → pdus ≡ new.pdu ∷ (all_left_at new.at new.bytes places ++ later)
walk_on old new place places later pdus h up is =
    sym h ∙ ap (λ x. x ++ later) (found_next old.at old.bytes place places up.0 up.1)
    ∙ ap (λ (s : CursorLeft). s.pdu ∷ (all_left_at s.at s.bytes places ++ later)) (sym is)

-- a list from its first place on
pub opened : (places : List Place) (place d : Place) → place ≡ slice_index_or places 0 d
    → 1 ≤ length places
    → places ≡ place ∷ take (length places - 1) (drop 1 places)
opened [] place d is h = absurd (omega (arith, h))
opened (first ∷ places) place d is h =
    ap (λ p. p ∷ places) (sym is)
    ∙ ap (λ (x : List Place). place ∷ x)
    (sym (take_all (suc (length places) - 1) places (omega arith)))

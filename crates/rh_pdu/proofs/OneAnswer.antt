-- two answers of one framer to the same piece are one
use Rattle.std.proofs.Common.{◌≡◌, ℕ, ◌+◌, List, [], ◌++◌, take, length, Some, None, arith, sym, ◌∙◌, ap, refl}
use Rattle.std.proofs.lemmas.List.{length-append, length-take-le}
use Rattle.rh_pdu.specs.declared.fault.HeadFault.{HeadFault}
use Rattle.rh_pdu.specs.declared.feed.Feed.{Feed}
use Rattle.rh_pdu.specs.declared.feed.Feed.TheVariants.{Need, Frame, Fault}
use Rattle.rh_pdu.specs.Feeding.{FramerState, capped, Fed, FedNeed, FedFrame, FedFault}
use Rattle.rh_pdu.proofs.Fed.{took_frame, none_taken, fault_taken}

-- where a frame was given, no other answer is
given_not_needed : (b s t : FramerState) (piece : List ℕ) (used len : ℕ)
    → FedFrame b s piece used len
    → FedNeed b t (b.rest ++ piece) → ⊥
given_not_needed b s t piece used len h k =
    let x = (took_frame b s piece used len h).frames in
    let y = (none_taken b t (b.rest ++ piece) k).frames in
    cc

given_not_refused : (b s t : FramerState) (piece : List ℕ) (used len place : ℕ) (f : HeadFault)
    → FedFrame b s piece used len → FedFault b t (b.rest ++ piece) place f → ⊥
given_not_refused b s t piece used len place f h k =
    let x = (took_frame b s piece used len h).frames in
    let y = (fault_taken b t (b.rest ++ piece) place f k).frames in
    cc

needed_not_refused : (b s t : FramerState) (all : List ℕ) (place : ℕ) (f : HeadFault)
    → FedNeed b s all
    → FedFault b t all place f → ⊥
needed_not_refused b s t all place f h k = let x = (h.unfinished k.long).0 in let y = k.head in cc

-- two frames given are one, and end at one place of the piece
same_frame : (b s t : FramerState) (piece : List ℕ) (n m k l : ℕ) → FedFrame b s piece n k
    → FedFrame b t piece m l
    → (s.frame ≡ t.frame) × (k ≡ l) × (n ≡ m)
same_frame b s t piece n m k l h j =
    let x = (took_frame b s piece n k h).frames in
    let y = (took_frame b t piece m l j).frames in
    let same : s.frame ≡ t.frame = cc in
    let size : length s.frame ≡ length b.rest + n =
    ap length h.bytes ∙ length-append b.rest (take n piece)
    ∙ ap (λ i. length b.rest + i) (length-take-le n piece h.within) in
    let other : length t.frame ≡ length b.rest + m =
    ap length j.bytes ∙ length-append b.rest (take m piece)
    ∙ ap (λ i. length b.rest + i) (length-take-le m piece j.within) in
    (same, h.size ∙ ap length same ∙ sym j.size, omega (arith, ap length same))

pub one_answer : (b : FramerState) (piece : List ℕ) (x y : Feed) (s t : FramerState)
    → Fed x b s piece → Fed y b t piece
    → (x ≡ y) × (s ≡ t)
one_answer b piece Need Need s t h k = (refl, h.after ∙ sym k.after)
one_answer b piece Need (Frame n len) s t h k = absurd (given_not_needed b t s piece n len k h)
one_answer b piece Need (Fault at f) s t h k =
    absurd (needed_not_refused b s t (b.rest ++ piece) at f h k)
one_answer b piece (Frame n len) Need s t h k = absurd (given_not_needed b s t piece n len h k)
one_answer b piece (Frame n len) (Fault at f) s t h k =
    absurd (given_not_refused b s t piece n len at f h k)
one_answer b piece (Fault at f) Need s t h k =
    absurd (needed_not_refused b t s (b.rest ++ piece) at f k h)
one_answer b piece (Fault at f) (Frame n len) s t h k =
    absurd (given_not_refused b t s piece n len at f k h)
one_answer b piece (Frame n len) (Frame m l) s t h k =
    let same = same_frame b s t piece n m len l h k in
    let after : List ℕ → ℕ → FramerState =
    λ frame len. record {
      rest = [];
      frame = frame;
      place = capped (b.place + len);
      fault = None;
    } in (
      ap (λ n. Frame n len) same.2 ∙ ap (Frame m) same.1,
      h.after ∙ ap (λ frame. after frame len) same.0 ∙ ap (after t.frame) same.1 ∙ sym k.after,
    )
one_answer b piece (Fault at f) (Fault place g) s t h k =
    let all = b.rest ++ piece in
    let same : f ≡ g = let x = h.head in let y = k.head in cc in
    let after : HeadFault → FramerState =
    λ f. record { rest = take 16 all; frame = []; place = b.place; fault = Some f } in (
      ap (λ at. Fault at f) (h.place ∙ sym k.place) ∙ ap (Fault place) same,
      h.after ∙ ap after same ∙ sym k.after,
    )

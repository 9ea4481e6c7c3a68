-- the frames of a stream, one by one
use Rattle.std.proofs.Common.{◌≡◌, ℕ, suc, ◌+◌, ◌≤◌, Bool, true, false, List, [], ◌∷◌, ◌++◌, length, take, drop, Some, None, refl, sym, ap, ◌∙◌, subst, arith}
use Rattle.std.specs.Prelude.{◌==◌, ◌&&◌, not, if◌then◌else◌, nat_le}
use Rattle.std.specs.List.{concat}
use Rattle.std.specs.declared.option.Option.{Option}
use Rattle.std.proofs.lemmas.Bool.Decides.{nat_tests}
use Rattle.std.proofs.lemmas.List.{append_assoc, length-append, length-take, take-append-drop}
use Rattle.rh_pdu.specs.declared.fault.HeadFault.{HeadFault}
use Rattle.rh_pdu.specs.Header.{header_length, head_fault}
use Rattle.rh_pdu.specs.Frames.{IsBad, IsFrame, IsUnfinished}
use Rattle.rh_pdu.specs.Cut.{frames_of, is_sound, rest_of}
use Rattle.rh_pdu.proofs.Framing.{bad_framed, bad_stays, cut_is, frames_behind, unfinished_framed}
use Rattle.rh_sig.specs.declared.name.Pipe.{Pipe}
use Rattle.rh_audit.specs.Packets.{met}
use Rattle.rh_audit.specs.Streams.{Stream, broken_behind, counted, framed, framed_by, is_bad, stands, stream_is}
use Rattle.rh_audit.specs.StreamsLeft.{IsBegun, StreamLeft}

-- ---- pieces

-- a frame of the bytes that were held and the front of a piece
pub frame_cut : (rest piece more frame : List ℕ) (used : ℕ) → frame ≡ rest ++ take used piece
    → rest ++ (piece ++ more) ≡ frame ++ (drop used piece ++ more)
frame_cut rest piece more frame used h =
    ap (λ (x : List ℕ). rest ++ (x ++ more)) (sym (take-append-drop used piece))
    ∙ ap (λ (x : List ℕ). rest ++ x) (append_assoc (take used piece) (drop used piece) more)
    ∙ sym (append_assoc rest (take used piece) (drop used piece ++ more))
    ∙ ap (λ (x : List ℕ). x ++ (drop used piece ++ more)) (sym h)

-- a header that breaks a rule does so with more bytes behind it
pub bad_cut : (rest piece more : List ℕ) → IsBad (rest ++ piece) → IsBad (rest ++ (piece ++ more))
bad_cut rest piece more h =
    subst IsBad (append_assoc rest piece more) (bad_stays (rest ++ piece) more h)

-- and no more bytes are left than there were
pub bad_left : (rest piece more held : List ℕ) → held ≡ take header_length (rest ++ piece)
    → length (held ++ more) ≤ length (rest ++ (piece ++ more))
bad_left rest piece more held is =
    omega (
      arith,
      ap length is,
      length-take header_length (rest ++ piece),
      length-append held more,
      length-append rest piece,
      length-append rest (piece ++ more),
      length-append piece more,
    )

-- ---- the rest

sound_is : (o : Option HeadFault) → o ≡ None → is_sound o ≡ true
sound_is o h = ap is_sound h

broken_is : (o : Option HeadFault) → (o ≡ None → ⊥) → is_sound o ≡ false
broken_is None h = absurd (h refl)
broken_is (Some fault) h = refl

pub unfinished_is : (bytes : List ℕ) → IsUnfinished bytes → is_bad bytes ≡ false
unfinished_is bytes h = by (nat_le header_length (length bytes)) refl
  where
    by : (t : Bool) → nat_le header_length (length bytes) ≡ t
        → (t && not (is_sound (head_fault bytes))) ≡ false
    by true e =
        let long : header_length ≤ length bytes = grind (arith, nat_tests, e) in
        ap not (sound_is (head_fault bytes) (h long).0)
    by false e = refl

pub bad_is : (bytes : List ℕ) → IsBad bytes → is_bad bytes ≡ true
bad_is bytes h =
    let long : nat_le header_length (length bytes) ≡ true =
    (let l = h.long in grind (arith, nat_tests, l)) in
    ap (λ t. t && not (is_sound (head_fault bytes))) long
    ∙ ap not (broken_is (head_fault bytes) h.head)

-- ---- frames

-- bytes that are no whole frame
pub framed_end : (pipe : Pipe) (begins : Bool) (place : ℕ) (bytes : List ℕ) → IsUnfinished bytes
    → framed pipe begins place bytes ≡ stream_is [] None
unfolding framed counted
framed_end pipe begins place bytes h =
    let cut = cut_is [] bytes bytes (unfinished_framed bytes h) in
    ap (λ frames. framed_by pipe begins place frames (rest_of bytes)) cut.0
    ∙ ap (λ rest. framed_by pipe begins place [] rest) cut.1
    ∙ ap (λ t. stream_is [] (if (0 == 0) && not t then None else Some (place + 0)))
    (unfinished_is bytes h)

-- a header that breaks a rule
pub framed_bad : (pipe : Pipe) (begins : Bool) (place : ℕ) (bytes : List ℕ) → IsBad bytes
    → framed pipe begins place bytes ≡ stream_is [] (Some place)
unfolding framed counted
framed_bad pipe begins place bytes h =
    let cut = cut_is [] bytes bytes (bad_framed bytes h) in
    ap (λ frames. framed_by pipe begins place frames (rest_of bytes)) cut.0
    ∙ ap (λ rest. framed_by pipe begins place [] rest) cut.1
    ∙ ap (λ t. stream_is [] (if (0 == 0) && not t then None else Some (place + 0)))
    (bad_is bytes h)
    ∙ ap (λ n. stream_is [] (Some n)) (omega arith)

broken_off : (place : ℕ) (frame rest : List ℕ) (frames : List (List ℕ))
    → broken_behind place [] (frame ∷ frames) rest ≡ Some place
broken_off place frame rest frames =
    let other : (0 == suc (length frames)) ≡ false = grind (arith, nat_tests) in
    ap (λ t. if t && not (is_bad rest) then None else Some (place + 0)) other
    ∙ ap Some (omega arith)

-- a frame that may not stand there
pub framed_off : (pipe : Pipe) (begins : Bool) (place : ℕ) (frame more : List ℕ) → IsFrame frame
    → stands pipe begins (met pipe frame) ≡ false
    → framed pipe begins place (frame ++ more) ≡ stream_is [] (Some place)
unfolding framed counted
framed_off pipe begins place frame more is h =
    let cut = frames_behind frame more is in
    ap (λ frames. framed_by pipe begins place frames (rest_of (frame ++ more))) cut.0
    ∙ ap (λ t. let counting = if t then frame ∷ counted pipe false (frames_of more) else [] in
    stream_is counting
    (broken_behind place counting (frame ∷ frames_of more) (rest_of (frame ++ more)))) h
    ∙ ap (stream_is []) (broken_off place frame (rest_of (frame ++ more)) (frames_of more))

broken_next : (place : ℕ) (frame rest : List ℕ) (counting frames : List (List ℕ))
    → broken_behind place (frame ∷ counting) (frame ∷ frames) rest
    ≡ broken_behind (place + length frame) counting frames rest
broken_next place frame rest counting frames =
    let same : (suc (length counting) == suc (length frames))
    ≡ (length counting == length frames) = grind (arith, nat_tests) in
    let size : place + length (frame ++ concat counting)
    ≡ place + length frame + length (concat counting) =
    omega (arith, length-append frame (concat counting)) in
    ap (λ t. if t && not (is_bad rest) then None
    else Some (place + length (frame ++ concat counting))) same
    ∙ ap (λ n. if (length counting == length frames) && not (is_bad rest) then None else Some n)
    size

-- a frame that may
pub framed_on : (pipe : Pipe) (begins : Bool) (place : ℕ) (frame more : List ℕ) → IsFrame frame
    → stands pipe begins (met pipe frame) ≡ true
    → framed pipe begins place (frame ++ more)
    ≡ (let s = framed pipe false (place + length frame) more in
    stream_is (frame ∷ s.frames) s.broken)
unfolding framed counted
framed_on pipe begins place frame more is h =
    let cut = frames_behind frame more is in
    let counting = counted pipe false (frames_of more) in
    ap (λ frames. framed_by pipe begins place frames (rest_of (frame ++ more))) cut.0
    ∙ ap (λ t. let c = if t then frame ∷ counted pipe false (frames_of more) else [] in
    stream_is c
    (broken_behind place c (frame ∷ frames_of more) (rest_of (frame ++ more)))) h
    ∙ ap (λ rest. stream_is (frame ∷ counting)
    (broken_behind place (frame ∷ counting) (frame ∷ frames_of more) rest)) cut.1
    ∙ ap (stream_is (frame ∷ counting))
    (broken_next place frame (rest_of more) counting (frames_of more))

-- nothing
pub framed_none : (pipe : Pipe) (begins : Bool) (place : ℕ)
    → framed pipe begins place [] ≡ stream_is [] None
framed_none pipe begins place =
    framed_end pipe begins place [] (λ long. absurd (omega (arith, long)))

-- no bytes are left, of whichever stream
pub begun_empty : (on : Pipe) (all : List ℕ) (is s : Stream) (left : StreamLeft)
    → left ≡ record { pipe = on; stream = s; frame = []; place = 0; bytes = [] }
    → s ≡ is
    → IsBegun on all is left
begun_empty on all is s left h same = record {
  pipe_is = ap (λ (v : StreamLeft). v.pipe) h;
  stream_is = ap (λ (v : StreamLeft). v.stream) h ∙ same;
  stands = (
    all,
    ap (λ (v : StreamLeft). drop v.place all) h
        ∙ ap (λ (v : StreamLeft). v.bytes ++ all) (sym h),
  );
}

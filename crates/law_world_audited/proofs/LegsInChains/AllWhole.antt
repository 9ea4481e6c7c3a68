-- the frames of a stream that is not broken are all that are whole in its bytes
use Rattle.law_order.proofs.Vocabulary.{◌≡◌, ◌⊎◌, ◌+◌, ◌++◌, ◌==◌, ◌&&◌, not, ℕ, suc, Bool, true, false, List, [], ◌∷◌, length, refl, sym, ap, ◌∙◌, subst, inl, inr, if◌then◌else◌, Some, None, arith, nat_tests, length-append, concat, IsPrefix}
use Rattle.rh_pdu.specs.Cut.{frames_of, rest_of}
use Rattle.rh_sig.specs.declared.name.Pipe.{Pipe}
use Rattle.rh_audit.specs.Packets.{met}
use Rattle.rh_audit.specs.Streams.{Stream, broken_behind, counted, framed, is_bad, stands, stream, stream_is}
use Rattle.law_moves.proofs.Vocabulary.{Message, Text, Pdu, Packet, spelled, nil_front}
use Rattle.law_audit.specs.Streams.Put.{behind_text, text_of}
use Rattle.law_audit.specs.Streams.Texts.{IsFineText}
use Rattle.law_audit.proofs.Streams.HeadFronts.{opens, waits}
use Rattle.law_audit.proofs.Streams.Splits.{IsBehind, IsCutFrom, front_of}
use Rattle.law_peers_chains.specs.Whole.{AreWhole, lead}

-- ---- frames that count

counted_all : (pipe : Pipe) (begins : Bool) (frames : List (List ℕ))
    → length (counted pipe begins frames) ≡ length frames → counted pipe begins frames ≡ frames
unfolding counted
counted_all pipe begins [] e = refl
counted_all pipe begins (frame ∷ frames) e =
    by (stands pipe begins (met pipe frame)) e (counted_all pipe false frames)
  where
    by : (t : Bool)
        → length (if t then frame ∷ counted pipe false frames else []) ≡ suc (length frames)
        → (length (counted pipe false frames) ≡ length frames
        → counted pipe false frames ≡ frames)
        → (if t then frame ∷ counted pipe false frames else []) ≡ frame ∷ frames
    by true e rest = ap (λ (x : List (List ℕ)). frame ∷ x) (rest (omega (arith, e)))
    by false e rest = absurd (omega (arith, e))

none_broken : (place : ℕ) (counting frames : List (List ℕ)) (rest : List ℕ)
    → broken_behind place counting frames rest ≡ None → length counting ≡ length frames
none_broken place counting frames rest e =
    by (length counting == length frames) refl (not (is_bad rest)) e
  where
    by : (same : Bool) → (length counting == length frames) ≡ same → (sound : Bool)
        → (if same && sound then None else Some (place + length (concat counting))) ≡ None
        → length counting ≡ length frames
    by true is sound h = grind (arith, nat_tests, is)
    by false is sound h = absurd (let both = h in cc)

-- the frames of such a stream are all that are whole
framed_all : (pipe : Pipe) (place : ℕ) (bytes : List ℕ) (frames : List (List ℕ))
    → framed pipe true place bytes ≡ stream_is frames None → frames ≡ frames_of bytes
unfolding framed
framed_all pipe place bytes frames e =
    let counting = counted pipe true (frames_of bytes) in
    let same : counting ≡ frames = ap (λ (s : Stream). s.frames) e in
    let sound : broken_behind place counting (frames_of bytes) (rest_of bytes) ≡ None =
    ap (λ (s : Stream). s.broken) e in
    sym same
    ∙ counted_all pipe true (frames_of bytes)
    (none_broken place counting (frames_of bytes) (rest_of bytes) sound)

-- ---- a text, and frames behind it

text_is : (put : List Message) → text_of put ≡ lead put
text_is [] = refl
text_is (Text text ∷ put) = refl
text_is (Pdu pdu ∷ put) = refl
text_is (Packet named ∷ put) = refl

spelled_behind : (put : List Message) → spelled put ≡ text_of put ++ spelled (behind_text put)
spelled_behind [] = refl
spelled_behind (Text text ∷ put) = refl
spelled_behind (Pdu pdu ∷ put) = refl
spelled_behind (Packet named ∷ put) = refl

module _ (pipe : Pipe) (put : List Message) (bytes : List ℕ) (fine : IsFineText pipe (text_of put))
    (frames : List (List ℕ)) (is : stream pipe bytes ≡ stream_is frames None) where
  cut_whole : IsCutFrom (text_of put) bytes → AreWhole (text_of put) bytes frames
  cut_whole cut =
      let waiting = waits pipe (text_of put) bytes fine cut in
      let none : [] ≡ frames = ap (λ (s : Stream). s.frames) (sym waiting ∙ is) in
      inl (
        sym none,
        omega (arith, cut.some, length-append bytes cut.rest, ap length cut.joined),
      )

  behind_whole : IsBehind (text_of put) (spelled (behind_text put)) bytes
      → AreWhole (text_of put) bytes frames
  behind_whole behind =
      let text = text_of put in
      let framing : stream pipe bytes ≡ framed pipe true (length text) behind.front =
      ap (stream pipe) behind.is ∙ opens pipe text behind.front fine in
      inr (
        behind.front,
        behind.is,
        framed_all pipe (length text) behind.front frames (sym framing ∙ is),
      )

  pub all_whole : IsPrefix bytes (spelled put) → AreWhole (lead put) bytes frames
  all_whole p =
      subst (λ (text : List ℕ). AreWhole text bytes frames) (text_is put)
      (by (front_of (text_of put) (spelled (behind_text put)) bytes
      (subst (IsPrefix bytes) (spelled_behind put) p)))
    where
      by : IsCutFrom (text_of put) bytes
          ⊎ IsBehind (text_of put) (spelled (behind_text put)) bytes
          → AreWhole (text_of put) bytes frames
      by (inl cut) = cut_whole cut
      by (inr behind) = behind_whole behind

-- where nothing was put
pub none_whole : (put : List Message) (bytes : List ℕ) (frames : List (List ℕ)) → put ≡ []
    → IsPrefix bytes (spelled put) → frames ≡ [] → frames_of [] ≡ []
    → AreWhole (lead put) bytes frames
none_whole put bytes frames none p is empty =
    let nothing = subst (λ (ms : List Message). IsPrefix bytes (spelled ms)) none p in
    inr (
      [],
      nil_front bytes nothing.0 nothing.1
          ∙ sym (ap (λ (ms : List Message). lead ms ++ []) none),
      is ∙ sym empty,
    )

-- bytes that are cut from frames that may stand there
use Rattle.law_order.proofs.Vocabulary.{◌≡◌, ◌+◌, ◌++◌, ◌==◌, ◌&&◌, not, ℕ, Bool, true, false, List, [], ◌∷◌, length, refl, sym, ap, ◌∙◌, subst, inl, inr, ◌⊎◌, if◌then◌else◌, Some, None, Option, nat_le, leb-true, eq-eqb, AllByRecursion, concat, IsPrefix}
use Rattle.rh_pdu.proofs.Framing.{frames_joined, framing_appends, no_bad_front}
use Rattle.rh_pdu.specs.declared.fault.HeadFault.{HeadFault}
use Rattle.rh_pdu.specs.Cut.{frames_of, is_sound, rest_of}
use Rattle.rh_pdu.specs.Frames.{IsBad, IsFrame}
use Rattle.rh_pdu.specs.Header.{head_fault, header_length}
use Rattle.rh_sig.specs.declared.name.Pipe.{Pipe}
use Rattle.rh_audit.specs.Streams.{broken_behind, counted, framed, is_bad, stream, stream_is}
use Rattle.law_audit.specs.Streams.Texts.{IsFineText}
use Rattle.law_audit.specs.Streams.Whole.{AllStand, IsFrontOf}
use Rattle.law_audit.proofs.Streams.HeadFronts.{opens, waits}
use Rattle.law_audit.proofs.Streams.Splits.{IsBehind, IsCutFrom, front_of}

-- ---- frames

record AreCut (frames : List (List ℕ)) (bytes : List ℕ) : Type 0 where
  front : IsPrefix (frames_of bytes) frames
  sound : IsBad (rest_of bytes) → ⊥

cut_from : (frames : List (List ℕ)) (bytes : List ℕ) → AllByRecursion IsFrame frames
    → IsPrefix bytes (concat frames) → AreCut frames bytes
cut_from frames bytes each p =
    let joined = frames_joined frames each in
    let appends = framing_appends bytes p.0 in
    record {
      front = (
        frames_of (rest_of bytes ++ p.0),
        sym appends.0 ∙ ap frames_of p.1 ∙ joined.0,
      );
      sound = no_bad_front bytes p.0 (ap rest_of p.1 ∙ joined.1);
    }

-- what is not bad
sound_rest : (rest : List ℕ) → (IsBad rest → ⊥) → is_bad rest ≡ false
sound_rest rest sound = by (nat_le header_length (length rest)) refl (head_fault rest) refl
  where
    some_fault : (o : Option HeadFault) (fault : HeadFault) → o ≡ Some fault → o ≡ None → ⊥
    some_fault o fault e f = absurd cc

    by : (t : Bool) → nat_le header_length (length rest) ≡ t → (o : Option HeadFault)
        → head_fault rest ≡ o → (t && not (is_sound o)) ≡ false
    by true e None f = refl
    by true e (Some fault) f =
        absurd (sound (record {
          long = leb-true header_length (length rest) e;
          head = some_fault (head_fault rest) fault f;
        }))
    by false e o f = refl

-- ---- all count

all_count : (pipe : Pipe) (begins : Bool) (frames : List (List ℕ)) → AllStand pipe begins frames
    → counted pipe begins frames ≡ frames
unfolding counted
all_count pipe begins [] all = refl
all_count pipe begins (frame ∷ frames) all =
    ap (λ t. if t then frame ∷ counted pipe false frames else []) all.0
    ∙ ap (λ (rest : List (List ℕ)). frame ∷ rest) (all_count pipe false frames all.1)

-- a front of them too
first_stand : (pipe : Pipe) (begins : Bool) (front rest : List (List ℕ))
    → AllStand pipe begins (front ++ rest) → AllStand pipe begins front
first_stand pipe begins [] rest all = tt
first_stand pipe begins (frame ∷ front) rest all =
    (all.0, first_stand pipe false front rest all.1)

none_broken : (place : ℕ) (counting frames : List (List ℕ)) (rest : List ℕ) → counting ≡ frames
    → is_bad rest ≡ false → broken_behind place counting frames rest ≡ None
none_broken place counting frames rest same sound =
    ap (λ b. if (length counting == length frames) && not b then None
    else Some (place + length (concat counting))) sound
    ∙ ap (λ b. if b && true then None else Some (place + length (concat counting)))
    (eq-eqb (length counting) (length frames) (ap length same))

frames_front : (pipe : Pipe) (place : ℕ) (frames : List (List ℕ)) (bytes : List ℕ)
    → AllStand pipe true frames → AreCut frames bytes
    → framed pipe true place bytes ≡ stream_is (frames_of bytes) None
unfolding framed
frames_front pipe place frames bytes all cut =
    let front = frames_of bytes in
    let rest = rest_of bytes in
    let count = all_count pipe true front
    (first_stand pipe true front cut.front.0
    (subst (λ (fs : List (List ℕ)). AllStand pipe true fs) (sym cut.front.1) all)) in
    ap (stream_is (counted pipe true front))
    (none_broken place (counted pipe true front) front rest count
    (sound_rest rest cut.sound))
    ∙ ap (λ (fs : List (List ℕ)). stream_is fs None) count

-- ---- streams

pub unbroken : (pipe : Pipe) (text : List ℕ) (frames : List (List ℕ)) (bytes : List ℕ)
    → IsFineText pipe text → AllByRecursion IsFrame frames → AllStand pipe true frames
    → IsPrefix bytes (text ++ concat frames) → IsFrontOf pipe frames bytes
unbroken pipe text frames bytes fine each all p = by (front_of text (concat frames) bytes p)
  where
    by : IsCutFrom text bytes ⊎ IsBehind text (concat frames) bytes → IsFrontOf pipe frames bytes
    by (inl cut) = record {
      front = [];
      of_frames = (frames, refl);
      is = waits pipe text bytes fine cut;
    }
    by (inr behind) =
        let cut = cut_from frames behind.front each behind.of_behind in
        record {
          front = frames_of behind.front;
          of_frames = cut.front;
          is =
              ap (stream pipe) behind.is
              ∙ opens pipe text behind.front fine
              ∙ frames_front pipe (length text) frames behind.front all cut;
        }

-- whatever the pieces, what a framer told is that of all bytes
use Rattle.std.proofs.Common.{◌≡◌, ℕ, ◌+◌, ◌≤◌, List, [], ◌∷◌, ◌++◌, take, drop, length, Some, None, arith}
use Rattle.std.proofs.Common.{sym, ◌∙◌, ap, refl, subst}
use Rattle.std.proofs.lemmas.List.{append-nil, append_assoc, length-append, length-take-le}
use Rattle.std.proofs.lemmas.List.{take-append-drop, take-append-le, take-take}
use Rattle.std.proofs.lemmas.List.Folds.{concat-append}
use Rattle.std.specs.List.{concat}
use Rattle.std.specs.declared.option.Option.{Option}
use Rattle.rh_pdu.specs.declared.fault.HeadFault.{HeadFault}
use Rattle.rh_pdu.specs.Header.{head_fault}
use Rattle.rh_pdu.specs.Frames.{IsBad}
use Rattle.rh_pdu.specs.Cut.{frames_of, rest_of}
use Rattle.rh_pdu.specs.Feeding.{FramerState, capped, new_framer, FedNeed, FedFrame, FedFault}
use Rattle.rh_pdu.specs.Pieces.{FedWhole, FedAll, IsHeld, IsTold}
use Rattle.rh_pdu.specs.Pieces.FedWhole.{asks, refuses, lends}
use Rattle.rh_pdu.specs.Pieces.FedAll.{no_piece, next_piece}
use Rattle.rh_pdu.proofs.Headers.{head_same}
use Rattle.rh_pdu.proofs.Framing.{cut_is, framing_appends, single_frame, nothing_framed, bad_framed}
use Rattle.rh_pdu.proofs.Fed.{none_taken, some_is_not_none}

-- what is held where no fault was told
held_going : (o : Option HeadFault) (held rest : List ℕ) → o ≡ None → IsHeld o held rest
    → held ≡ rest
held_going o held rest going h = (let is = subst (λ o. IsHeld o held rest) going h in is.0)

-- nothing more was given of more bytes
given_on : (a b : List ℕ) (fs : List (List ℕ)) → fs ≡ frames_of a → frames_of (rest_of a ++ b) ≡ []
    → fs ++ [] ≡ frames_of (a ++ b)
given_on a b fs given nothing =
    ap (λ x. x ++ []) given ∙ ap (λ x. frames_of a ++ x) (sym nothing) ∙ sym (framing_appends a b).0

place_on : (s : FramerState) (fs : List (List ℕ)) → s.place ≡ capped (length (concat fs))
    → s.place ≡ capped (length (concat (fs ++ [])))
place_on s fs place = place ∙ ap (λ x. capped (length (concat x))) (sym (append-nil fs))

-- more bytes were needed
need_told : (a piece : List ℕ) (fs : List (List ℕ)) (s t : FramerState) → IsTold a fs s
    → FedNeed s t (s.rest ++ piece) → IsTold (a ++ piece) (fs ++ []) t
need_told a piece fs s t told h =
    let was = held_going s.fault s.rest (rest_of a) h.was told.held in
    let all : s.rest ++ piece ≡ rest_of a ++ piece = ap (λ x. x ++ piece) was in
    let is = none_taken s t (s.rest ++ piece) h in
    let rest : s.rest ++ piece ≡ rest_of (a ++ piece) =
    sym is.whole ∙ is.rest ∙ ap rest_of all ∙ sym (framing_appends a piece).1 in
    record {
      given = given_on a piece fs told.given (ap frames_of (sym all) ∙ is.frames);
      held = subst (λ o. IsHeld o t.rest (rest_of (a ++ piece))) (sym is.going)
          (is.whole ∙ rest, subst (λ x. ¬ IsBad x) rest is.not_bad);
      place = ap (λ t. t.place) h.after ∙ place_on s fs told.place;
    }

-- a frame was given
frame_told : (a piece : List ℕ) (fs : List (List ℕ)) (s u : FramerState) (used len : ℕ)
    → IsTold a fs s
    → FedFrame s u piece used len → IsTold (a ++ take used piece) (fs ++ u.frame ∷ []) u
frame_told a piece fs s u used len told h =
    let was = held_going s.fault s.rest (rest_of a) h.was told.held in
    let front = take used piece in
    let all : u.frame ≡ rest_of a ++ front = h.bytes ∙ ap (λ x. x ++ front) was in
    let is = single_frame u.frame h.frame in
    let on = framing_appends a front in
    let rest : [] ≡ rest_of (a ++ front) = sym is.1 ∙ ap rest_of all ∙ sym on.1 in
    let joined : concat (fs ++ u.frame ∷ []) ≡ concat fs ++ u.frame =
    concat-append fs (u.frame ∷ []) ∙ ap (λ x. concat fs ++ x) (append-nil u.frame) in
    let size : length (concat (fs ++ u.frame ∷ [])) ≡ length (concat fs) + len =
    ap length joined ∙ length-append (concat fs) u.frame
    ∙ ap (λ n. length (concat fs) + n) (sym h.size) in
    record {
      given = ap (λ x. x ++ u.frame ∷ []) told.given
          ∙ ap (λ x. frames_of a ++ x) (sym is.0 ∙ ap frames_of all) ∙ sym on.0;
      held = subst (λ o. IsHeld o u.rest (rest_of (a ++ front))) (sym (ap (λ u. u.fault) h.after)) (
        ap (λ u. u.rest) h.after ∙ rest,
        λ bad.
            let long = bad.long in let size = ap length rest in absurd (omega arith),
      );
      place = ap (λ u. u.place) h.after ∙ omega (arith, told.place, size);
    }

-- of what is held and more bytes, the header is that of the bytes behind the frames
header_behind : (o : Option HeadFault) (held rest piece : List ℕ) → IsHeld o held rest
    → 16 ≤ length (held ++ piece)
    → (16 ≤ length (rest ++ piece)) × (take 16 (rest ++ piece) ≡ take 16 (held ++ piece))
header_behind None held rest piece h long =
    let all : held ++ piece ≡ rest ++ piece = ap (λ x. x ++ piece) h.0 in
    (omega (arith, ap length all), ap (take 16) (sym all))
header_behind (Some f) held rest piece h long =
    let size : length held ≡ 16 = ap length h.2 ∙ length-take-le 16 rest h.0 in
    let first : take 16 (held ++ piece) ≡ take 16 rest =
    take-append-le 16 held piece (omega arith) ∙ ap (take 16) h.2
    ∙ take-take 16 16 rest (omega arith) in
    (omega (arith, h.0, length-append rest piece), take-append-le 16 rest piece h.0 ∙ sym first)

-- a fault was told
fault_told : (a piece : List ℕ) (fs : List (List ℕ)) (s t : FramerState) (place : ℕ) (f : HeadFault)
    → IsTold a fs s → FedFault s t (s.rest ++ piece) place f → IsTold (a ++ piece) (fs ++ []) t
fault_told a piece fs s t place f told h =
    let more = rest_of a ++ piece in
    let is = header_behind s.fault s.rest (rest_of a) piece told.held h.long in
    let head : head_fault more ≡ Some f = head_same more (s.rest ++ piece) is.1 ∙ h.head in
    let bad : IsBad more =
    record { long = is.0; head = some_is_not_none (head_fault more) f head } in
    let cut = cut_is [] more more (bad_framed more bad) in
    let rest : more ≡ rest_of (a ++ piece) = sym cut.1 ∙ sym (framing_appends a piece).1 in
    record {
      given = given_on a piece fs told.given cut.0;
      held = subst (λ o. IsHeld o t.rest (rest_of (a ++ piece))) (sym (ap (λ t. t.fault) h.after))
          (subst (IsHeld (Some f) t.rest) rest (is.0, head, ap (λ t. t.rest) h.after ∙ sym is.1));
      place = ap (λ t. t.place) h.after ∙ place_on s fs told.place;
    }

-- a piece was fed to its end
whole_told : (s t : FramerState) (a piece : List ℕ) (fs gs : List (List ℕ)) → IsTold a fs s
    → FedWhole s piece gs t → IsTold (a ++ piece) (fs ++ gs) t
whole_told s t a piece fs gs told (asks h) = need_told a piece fs s t told h
whole_told s t a piece fs gs told (refuses place f h) = fault_told a piece fs s t place f told h
whole_told s t a piece fs gs told (lends {u = u} {frames = frames} used len h rest) =
    let front = take used piece in
    let step = frame_told a piece fs s u used len told h in
    let on = whole_told u t (a ++ front) (drop used piece) (fs ++ u.frame ∷ []) frames step rest in
    let bytes : (a ++ front) ++ drop used piece ≡ a ++ piece =
    append_assoc a front (drop used piece) ∙ ap (λ x. a ++ x) (take-append-drop used piece) in
    subst (λ x. IsTold x (fs ++ u.frame ∷ frames) t) bytes
    (subst (λ x. IsTold ((a ++ front) ++ drop used piece) x t)
    (append_assoc fs (u.frame ∷ []) frames) on)

-- pieces were fed, one after the other
all_told : (s t : FramerState) (a : List ℕ) (pieces fs gs : List (List ℕ)) → IsTold a fs s
    → FedAll s pieces gs t → IsTold (a ++ concat pieces) (fs ++ gs) t
all_told s t a pieces fs gs told no_piece =
    subst (λ x. IsTold x (fs ++ []) s) (sym (append-nil a))
    (subst (λ x. IsTold a x s) (sym (append-nil fs)) told)
all_told s t a pieces fs gs told
    (next_piece {u = u} {piece = piece} {pieces = behind} {frames = frames} {later = later} first
    rest) =
    let on =
    all_told u t (a ++ piece) behind (fs ++ frames) later
    (whole_told s u a piece fs frames told first) rest in
    subst (λ x. IsTold x (fs ++ (frames ++ later)) t) (append_assoc a piece (concat behind))
    (subst (λ x. IsTold ((a ++ piece) ++ concat behind) x t) (append_assoc fs frames later) on)

-- a new framer told nothing
new_told : IsTold [] [] new_framer
new_told =
    let is = cut_is [] [] [] nothing_framed in
    record {
      given = sym is.0;
      held = (
        sym is.1,
        λ bad. let long = bad.long in let size =
            ap length is.1 in absurd (omega arith),
      );
      place = refl;
    }

-- so that of all bytes the frames were given, from a new framer on
pub any_told : (pieces frames : List (List ℕ)) (t : FramerState) → FedAll new_framer pieces frames t
    → IsTold (concat pieces) frames t
any_told pieces frames t fed = all_told new_framer t [] pieces [] frames new_told fed

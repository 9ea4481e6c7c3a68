-- what a framer's answers say of the bytes that come
use Rattle.std.proofs.Common.{◌≡◌, ℕ, ◌+◌, ◌-◌, ◌≤◌, ◌<◌, List, [], ◌∷◌, ◌++◌, take, drop, length, get_or, append_assoc, true, false, nat_lt, Some, None, arith, sym, ◌∙◌, ap, refl, subst}
use Rattle.std.proofs.Math.Seq.{take-append-add}
use Rattle.std.proofs.lemmas.List.{take-append-le, length-append, length-take-le, take-append-drop, take-take, length-drop}
use Rattle.std.proofs.lemmas.Bool.Decides.{nat_tests}
use Rattle.rh_pdu.specs.declared.fault.HeadFault.{HeadFault}
use Rattle.rh_pdu.specs.Header.{frag_of, head_fault}
use Rattle.rh_pdu.specs.Frames.{IsFrame, IsUnfinished}
use Rattle.rh_pdu.specs.Feeding.{FramerState, FedFault}
use Rattle.rh_pdu.proofs.Headers.{head_same, frag_same}
use Rattle.rh_pdu.proofs.Cuts.{BeginsWhole, front_is_frame}
use Rattle.rh_shell.specs.declared.stage.Stage.TheVariants as stage
use Rattle.rh_shell.specs.Intakes.{Intake, Frame, Fault, behind, counted, frame_byte, scan}
use Rattle.rh_shell.specs.Texts.{IsWithin}
use Rattle.rh_shell.specs.Keeping.{room, overrun}
use Rattle.rh_shell.proofs.Scans.{Roomy, roomy, roomy_less, room_full, room_within, keeping, skip, stops_at, overruns, scanned, unfinished_within, last_apart}

-- ---- a frame is not whole

pub need_scanned : (i : Intake) (piece : List ℕ) (n : ℕ) → i.stage ≡ stage.Frames → IsWithin i.body
    → n ≡ room (length piece) i.body → IsUnfinished (i.held ++ take n piece)
    → scanned (overrun (keeping i (i.held ++ take n piece) (counted n i.body)) (drop n piece))
    ≡ scan i piece
need_scanned i piece n st w e u =
    let front = take n piece in
    let within : n ≤ length piece = omega (arith, room_within (length piece) i.body) in
    let size : length front ≡ n = length-take-le n piece within in
    let r : Roomy n i.body = subst (λ m. Roomy m i.body) (sym e) (roomy (length piece) i.body w) in
    let j = keeping i (i.held ++ front) (counted n i.body) in
    let sizes = length-drop n piece in
    overruns j (drop n piece) (rw st tt)
    (λ some. rw e (room_full (length piece) i.body w (omega (arith, sizes, some, e))))
    ∙ sym (ap (scan i) (sym (take-append-drop n piece))
    ∙ skip i front (drop n piece) st u (subst (λ m. Roomy m i.body) (sym size) r)
    ∙ ap (λ m. scan (keeping i (i.held ++ front) (counted m i.body)) (drop n piece)) size)

-- ---- a frame is whole

-- the front of a frame is unfinished
front_unfinished : (held piece : List ℕ) (m n : ℕ) → m + 1 ≡ n → n ≤ length piece
    → IsFrame (held ++ take n piece) → IsUnfinished (held ++ take m piece)
front_unfinished held piece m n one le f =
    let apart = last_apart piece m n one le in
    let x = get_or piece m 0 in
    let same : held ++ take n piece ≡ (held ++ take m piece) ++ x ∷ [] =
    ap (λ (y : List ℕ). held ++ y) apart.0 ∙ sym (append_assoc held (take m piece) (x ∷ [])) in
    unfinished_within (held ++ take m piece) (x ∷ []) (subst IsFrame same f) (omega arith)

frame_whole : (i : Intake) (all : List ℕ) → IsFrame all
    → frame_byte i all ≡ (behind i all, Frame i.place all)
frame_whole i all f =
    let long : nat_lt (length all) 16 ≡ false = grind (arith, nat_tests, f.long) in
    let enough : nat_lt (length all) (frag_of all) ≡ false = grind (arith, nat_tests, f.whole) in
    rw (long, f.head, enough) refl

pub frame_scanned : (i : Intake) (piece frame : List ℕ) (n : ℕ) → i.stage ≡ stage.Frames
    → IsWithin i.body → 0 < n → n ≤ room (length piece) i.body → frame ≡ i.held ++ take n piece
    → IsFrame frame
    → record {
      intake = behind (record i { body = counted n i.body }) frame;
      came = Frame i.place frame;
      left = drop n piece;
    } ≡ scan i piece
frame_scanned i piece frame n st w some fits is f =
    let within : n ≤ length piece = omega (arith, fits, room_within (length piece) i.body) in
    let r : Roomy n i.body =
    roomy_less n (room (length piece) i.body) i.body fits (roomy (length piece) i.body w) in
    let all : IsFrame (i.held ++ take n piece) = subst IsFrame is f in
    let j = record i { body = counted n i.body } in
    let whole : frame_byte j (i.held ++ take n piece) ≡ (behind j frame, Frame i.place frame) =
    ap (frame_byte j) (sym is) ∙ frame_whole j frame f in
    stops_at i piece n (behind j frame) (Frame i.place frame) st some within r
    (λ m one. front_unfinished i.held piece m n one within all) whole refl

-- ---- a header is at fault

-- what is held before it is no whole header
short_before : (held front : List ℕ) (f : HeadFault) → IsUnfinished held
    → head_fault (held ++ front) ≡ Some f → length held < 16
short_before held front f sound head =
    elim (nat_lt (length held) 16) as (λ t. nat_lt (length held) 16 ≡ t → length held < 16) [
      | false ↦ λ e.
          let long : 16 ≤ length held = grind (arith, nat_tests) in
          let same = head_same (held ++ front) held (take-append-le 16 held front long) in
          absurd (let k = (sound long).0 in cc)
      | true ↦ λ e. grind (arith, nat_tests)
    ] refl

header_bad : (i : Intake) (all : List ℕ) (f : HeadFault) → length all ≡ 16 → head_fault all ≡ Some f
    → frame_byte i all ≡ (record i { stage = stage.Shut; held = all }, Fault i.place f)
header_bad i all f size head =
    let long : nat_lt (length all) 16 ≡ false = grind (arith, nat_tests) in
    rw (long, head) refl

-- the bytes of a piece up to the end of a header that is at fault
pub record FaultAt (i : Intake) (piece rest : List ℕ) (most : ℕ) (f : HeadFault) : Type 0 where
  pub short : length i.held < 16
  pub fits : 16 - length i.held ≤ most
  pub some : 0 < 16 - length i.held
  pub scans : record {
    intake = record i {
      stage = stage.Shut;
      held = rest;
      body = counted (16 - length i.held) i.body;
    };
    came = Fault i.place f;
    left = drop (16 - length i.held) piece;
  } ≡ scan i piece

pub fault_scanned : (i : Intake) (s t : FramerState) (piece : List ℕ) (most at : ℕ) (f : HeadFault)
    → i.stage ≡ stage.Frames → i.held ≡ s.rest → IsUnfinished s.rest → IsWithin i.body
    → most ≡ room (length piece) i.body → FedFault s t (s.rest ++ take most piece) at f
    → FaultAt i piece t.rest most f
fault_scanned i s t piece most at f st h was w e fed =
    let front = take most piece in
    let within : most ≤ length piece = omega (arith, room_within (length piece) i.body) in
    let sizes : length front ≡ most = length-take-le most piece within in
    let held : length i.held ≡ length s.rest = ap (λ (x : List ℕ). length x) h in
    let short = short_before s.rest front f was fed.head in
    let long : 16 ≤ length s.rest + most = omega (
      arith,
      fed.long,
      length-append s.rest front,
      sizes,
    ) in
    let n = 16 - length i.held in
    let size : length s.rest + n ≡ 16 = omega (arith, short, held) in
    let fits : n ≤ most = omega (arith, long, held) in
    let some : 0 < n = omega (arith, short, held) in
    let r : Roomy n i.body =
    roomy_less n (room (length piece) i.body) i.body (omega (arith, fits, e))
    (roomy (length piece) i.body w) in
    let header : take 16 (s.rest ++ front) ≡ i.held ++ take n piece =
    ap (λ (k : ℕ). take k (s.rest ++ front)) (sym size)
    ∙ take-append-add s.rest front n
    ∙ ap (λ (x : List ℕ). x ++ take n front) (sym h)
    ∙ ap (λ (x : List ℕ). i.held ++ x) (take-take n most piece fits) in
    let rest : t.rest ≡ i.held ++ take n piece = ap (λ (x : FramerState). x.rest) fed.after ∙ header
    in
    let head : head_fault (i.held ++ take n piece) ≡ Some f =
    sym (ap head_fault header)
    ∙ head_same (take 16 (s.rest ++ front)) (s.rest ++ front)
    (take-take 16 16 (s.rest ++ front) (omega arith)) ∙ fed.head in
    let count : length (i.held ++ take n piece) ≡ 16 =
    sym (ap (λ (x : List ℕ). length x) header) ∙ length-take-le 16 (s.rest ++ front) fed.long in
    let on = header_bad (record i { body = counted n i.body }) (i.held ++ take n piece) f count head
    in
    let j = record i { stage = stage.Shut; held = i.held ++ take n piece; body = counted n i.body }
    in
    record {
      short = omega (arith, short, held);
      fits = fits;
      some = some;
      scans =
          ◌∙◌ {b = record { intake = j; came = Fault i.place f; left = drop n piece }}
          (ap (λ (x : List ℕ). record {
            intake = record i { stage = stage.Shut; held = x; body = counted n i.body };
            came = Fault i.place f;
            left = drop n piece;
          }) rest)
          (stops_at i piece n j (Fault i.place f) st some (omega (arith, fits, within)) r
          (λ m one. λ enough. absurd (omega (
            arith,
            enough,
            one,
            short,
            held,
            length-append i.held (take m piece),
            length-take-le m piece (omega (arith, one, fits, within)),
          ))) on refl);
    }

-- ---- a frame that stands whole at the front

pub front_is : (bytes header : List ℕ) (len : ℕ) → header ≡ take 16 bytes → head_fault header ≡ None
    → len ≡ frag_of header → 16 ≤ length bytes → len ≤ length bytes → IsFrame (take len bytes)
front_is bytes header len is head frag long whole =
    let same : take 16 bytes ≡ take 16 header =
    sym (ap (take 16) is ∙ take-take 16 16 bytes (omega arith)) in
    let length_is : frag_of bytes ≡ len = frag_same bytes header same ∙ sym frag in
    let begins : BeginsWhole bytes = record {
      long = long;
      head = head_same bytes header same ∙ head;
      whole = omega (arith, whole, length_is);
    } in
    subst (λ (n : ℕ). IsFrame (take n bytes)) length_is (front_is_frame bytes begins)

-- what one direction of the leg carries
use Rattle.std.proofs.Common.{◌≡◌, ℕ, ◌+◌, ◌-◌, ◌≤◌, List, [], ◌∷◌, ◌++◌, take, drop, length, min, Ok, None, false, nat_lt}
use Rattle.std.proofs.Common.{arith, sym, ◌∙◌, ap, refl, append_assoc}
use Rattle.std.proofs.lemmas.Bool.Decides.{nat_tests}
use Rattle.std.proofs.lemmas.List.{append-nil, take-append-drop, length-append, length_push}
use Rattle.std.specs.List.{concat}
use Rattle.rh_pdu.specs.Checking.{pdu_fault}
use Rattle.rh_pdu.specs.Frames.{IsFrame, IsBad}
use Rattle.rh_pdu.specs.Cut.{frames_of, rest_of}
use Rattle.rh_pdu.specs.Feeding.{FramerState}
use Rattle.rh_pdu.proofs.Framing.{framing_appends, single_frame, frames_joined, no_bad_front}
use Rattle.rh_line.specs.Queue.{queue_bytes, total, untouched}
use Rattle.rh_world.specs.Carrying.{IsCarrying}
use Rattle.rh_world.specs.Direct.{Way, empty_way, give_by, give, send, move, take_from}

-- ---- queues

-- PDUs end to end have the bytes of all
pub length-concat : (pdus : List (List ℕ)) → length (concat pdus) ≡ total pdus
length-concat [] = refl
length-concat (pdu ∷ pdus) =
    length-append pdu (concat pdus) ∙ ap (λ (n : ℕ). length pdu + n) (length-concat pdus)

concat-push : (pdus : List (List ℕ)) (pdu : List ℕ) → concat (pdus ++ pdu ∷ []) ≡ concat pdus ++ pdu
concat-push [] pdu = append-nil pdu
concat-push (first ∷ pdus) pdu =
    ap (λ (x : List ℕ). first ++ x) (concat-push pdus pdu)
    ∙ sym (append_assoc first (concat pdus) pdu)

-- a PDU that is queued is undrawn
pub undrawn-push : (begun : List ℕ) (queue : List (List ℕ)) (pdu : List ℕ)
    → begun ++ concat (queue ++ pdu ∷ []) ≡ (begun ++ concat queue) ++ pdu
undrawn-push begun queue pdu =
    ap (λ (x : List ℕ). begun ++ x) (concat-push queue pdu)
    ∙ sym (append_assoc begun (concat queue) pdu)

-- what is undrawn, in bytes
pub length-undrawn : (begun : List ℕ) (queue : List (List ℕ))
    → length (begun ++ concat queue) ≡ length begun + total queue
length-undrawn begun queue =
    length-append begun (concat queue) ∙ ap (λ (n : ℕ). length begun + n) (length-concat queue)

-- ---- the bytes on the way, from the receiver back to the giver

-- a frame that is given stands behind whole frames
pub give_path : (fed flight undrawn pdu : List ℕ) → rest_of (fed ++ (flight ++ undrawn)) ≡ []
    → IsFrame pdu
    → (frames_of (fed ++ (flight ++ (undrawn ++ pdu))) ≡ frames_of (fed ++ (flight ++ undrawn))
    ++ pdu ∷ [])
    × (rest_of (fed ++ (flight ++ (undrawn ++ pdu))) ≡ [])
give_path fed flight undrawn pdu whole frame =
    let path = fed ++ (flight ++ undrawn) in
    let behind : fed ++ (flight ++ (undrawn ++ pdu)) ≡ path ++ pdu =
    ap (λ (x : List ℕ). fed ++ x) (sym (append_assoc flight undrawn pdu))
    ∙ sym (append_assoc fed (flight ++ undrawn) pdu) in
    let more = framing_appends path pdu in
    let one = single_frame pdu frame in (
      ap (λ (x : List ℕ). frames_of x) behind ∙ more.0
          ∙ ap (λ (r : List ℕ). frames_of path ++ frames_of (r ++ pdu)) whole
          ∙ ap (λ (fs : List (List ℕ)). frames_of path ++ fs) one.0,
      ap (λ (x : List ℕ). rest_of x) behind ∙ more.1 ∙ ap (λ (r : List ℕ). rest_of (r ++ pdu)) whole
          ∙ one.1,
    )

-- bytes that are drawn stay where they were
pub send_path : (fed flight undrawn : List ℕ) (n : ℕ)
    → fed ++ ((flight ++ take n undrawn) ++ drop n undrawn) ≡ fed ++ (flight ++ undrawn)
send_path fed flight undrawn n =
    ap (λ (x : List ℕ). fed ++ x) (append_assoc flight (take n undrawn) (drop n undrawn)
    ∙ ap (λ (x : List ℕ). flight ++ x) (take-append-drop n undrawn))

cut_path : (fed flight undrawn : List ℕ) (n : ℕ)
    → fed ++ (flight ++ undrawn) ≡ (fed ++ take n flight) ++ (drop n flight ++ undrawn)
cut_path fed flight undrawn n =
    ap (λ (x : List ℕ). fed ++ (x ++ undrawn)) (sym (take-append-drop n flight))
    ∙ ap (λ (x : List ℕ). fed ++ x) (append_assoc (take n flight) (drop n flight) undrawn)
    ∙ sym (append_assoc fed (take n flight) (drop n flight ++ undrawn))

-- bytes that are fed leave the frames that they make whole, and a rest
pub move_path : (fed flight undrawn : List ℕ) (n : ℕ)
    → (frames_of (fed ++ (flight ++ undrawn)) ≡ frames_of (fed ++ take n flight)
    ++ frames_of (rest_of (fed ++ take n flight) ++ (drop n flight ++ undrawn)))
    × (rest_of (fed ++ (flight ++ undrawn))
    ≡ rest_of (rest_of (fed ++ take n flight) ++ (drop n flight ++ undrawn)))
move_path fed flight undrawn n =
    let cut = cut_path fed flight undrawn n in
    let more = framing_appends (fed ++ take n flight) (drop n flight ++ undrawn) in
    (ap (λ (x : List ℕ). frames_of x) cut ∙ more.0, ap (λ (x : List ℕ). rest_of x) cut ∙ more.1)

-- ---- what a direction keeps true, call by call

pub nothing_carried : (framer : FramerState) → framer.rest ≡ [] → framer.fault ≡ None
    → IsCarrying [] [] framer [] 0 0
nothing_carried framer rest going = record {
  going = going;
  whole = ap (λ (r : List ℕ). rest_of (r ++ [])) rest ∙ (frames_joined [] tt).1;
  counted = sym (ap (λ (r : List ℕ). 0 + (0 + length (frames_of (r ++ [])))) rest
      ∙ ap (λ (fs : List (List ℕ)). 0 + (0 + length fs)) (frames_joined [] tt).0);
}

pub given_carried : (undrawn flight : List ℕ) (framer : FramerState) (untaken : List (List ℕ))
    (given taken : ℕ)
    (pdu : List ℕ) → IsFrame pdu → IsCarrying undrawn flight framer untaken given taken
    → IsCarrying (undrawn ++ pdu) flight framer untaken (given + 1) taken
given_carried undrawn flight framer untaken given taken pdu frame h =
    let path = give_path framer.rest flight undrawn pdu h.whole frame in
    let more = ap length path.0 in
    record {
      going = h.going;
      whole = path.1;
      counted = omega (
        arith,
        h.counted,
        more,
        length_push (frames_of (framer.rest ++ (flight ++ undrawn))) pdu,
      );
    }

pub drawn_carried : (undrawn flight : List ℕ) (framer : FramerState) (untaken : List (List ℕ))
    (given taken n : ℕ)
    → IsCarrying undrawn flight framer untaken given taken
    → IsCarrying (drop n undrawn) (flight ++ take n undrawn) framer untaken given taken
drawn_carried undrawn flight framer untaken given taken n h =
    let path = sym (send_path framer.rest flight undrawn n) in
    record {
      going = h.going;
      whole = ap (λ (x : List ℕ). rest_of x) (sym path) ∙ h.whole;
      counted = h.counted
          ∙ ap (λ (x : List ℕ). taken + (length untaken + length (frames_of x))) path;
    }

-- what is fed leaves no header at fault
pub fed_sound : (undrawn flight : List ℕ) (framer : FramerState) (untaken : List (List ℕ))
    (given taken n : ℕ)
    → IsCarrying undrawn flight framer untaken given taken
    → IsBad (rest_of (framer.rest ++ take n flight)) → ⊥
fed_sound undrawn flight framer untaken given taken n h =
    no_bad_front (framer.rest ++ take n flight) (drop n flight ++ undrawn)
    (ap (λ (x : List ℕ). rest_of x) (sym (cut_path framer.rest flight undrawn n)) ∙ h.whole)

pub fed_carried : (undrawn flight : List ℕ) (framer next : FramerState) (untaken : List (List ℕ))
    (given taken n : ℕ)
    → next.fault ≡ None → next.rest ≡ rest_of (framer.rest ++ take n flight)
    → IsCarrying undrawn flight framer untaken given taken
    → IsCarrying undrawn (drop n flight) next (untaken ++ frames_of (framer.rest ++ take n flight))
    given taken
fed_carried undrawn flight framer next untaken given taken n going rest h =
    let frames = frames_of (framer.rest ++ take n flight) in
    let behind = drop n flight ++ undrawn in
    let path = move_path framer.rest flight undrawn n in
    let all = ap length path.0 in
    let later = ap (λ (r : List ℕ). length (frames_of (r ++ behind))) rest in
    record {
      going = going;
      whole = ap (λ (r : List ℕ). rest_of (r ++ behind)) rest ∙ sym path.1 ∙ h.whole;
      counted = omega (
        arith,
        h.counted,
        all,
        later,
        length-append untaken frames,
        length-append frames (frames_of (rest_of (framer.rest ++ take n flight) ++ behind)),
      );
    }

-- ---- what a call does

-- a PDU that isn't refused is given
pub give_done : (way : Way) (pdu : List ℕ) (queue : List (List ℕ)) (undrawn : List ℕ)
    → pdu_fault pdu ≡ None
    → total way.queue + length pdu ≤ queue_bytes → queue ≡ way.queue ++ pdu ∷ []
    → undrawn ≡ way.undrawn ++ pdu
    → (record way { queue = queue; undrawn = undrawn; given = way.given + 1 }, Ok (length pdu))
    ≡ give way pdu
give_done way pdu queue undrawn sound room queue_is undrawn_is =
    let fits : nat_lt queue_bytes (total way.queue + length pdu) ≡ false =
    grind (arith, nat_tests, room) in
    rw (queue_is, undrawn_is, sound, fits) refl

-- as many bytes are drawn as there is room for
pub send_done : (way : Way) (n : ℕ) (begun : List ℕ) (queue : List (List ℕ))
    (undrawn flight : List ℕ)
    (count : ℕ) → way.undrawn ≡ begun ++ concat way.queue
    → count ≡ min n (length begun + total way.queue)
    → queue ≡ untouched (count - length begun) way.queue → undrawn ≡ drop count way.undrawn
    → flight ≡ way.flight ++ take count way.undrawn
    → (record way { queue = queue; undrawn = undrawn; flight = flight }, count) ≡ send way n
send_done way n begun queue undrawn flight count here least queue_is undrawn_is flight_is =
    let size : length way.undrawn ≡ length begun + total way.queue =
    ap length here ∙ length-undrawn begun way.queue in
    let all : count ≡ min n (length way.undrawn) = omega (arith, least, size) in
    let held : length begun ≡ length way.undrawn - total way.queue = omega (arith, size) in
    rw (queue_is, undrawn_is, flight_is, held, all) refl

-- ---- what was given and taken

-- what was given is what was taken and then all that is on the way, in order
pub record Carries (way : Way) (given taken : List (List ℕ)) : Type 0 where
  pub in_order : given
      ≡ taken ++ (way.untaken ++ frames_of (way.fed ++ (way.flight ++ way.undrawn)))
  pub whole : rest_of (way.fed ++ (way.flight ++ way.undrawn)) ≡ []
  pub given_count : way.given ≡ length given
  pub taken_count : way.taken ≡ length taken

pub empty_carries : Carries empty_way [] []
empty_carries = record {
  in_order = sym (frames_joined [] tt).0;
  whole = (frames_joined [] tt).1;
  given_count = refl;
  taken_count = refl;
}

pub give_carries : (way : Way) (pdu : List ℕ) (given taken : List (List ℕ)) → IsFrame pdu
    → Carries way given taken
    → Carries (give_by None way pdu).0 (given ++ pdu ∷ []) taken
give_carries way pdu given taken frame h =
    let path = give_path way.fed way.flight way.undrawn pdu h.whole frame in
    let frames = frames_of (way.fed ++ (way.flight ++ way.undrawn)) in
    record {
      in_order = ap (λ (x : List (List ℕ)). x ++ pdu ∷ []) h.in_order
          ∙ append_assoc taken (way.untaken ++ frames) (pdu ∷ [])
          ∙ ap (λ (x : List (List ℕ)). taken ++ x) (append_assoc way.untaken frames (pdu ∷ [])
          ∙ ap (λ (x : List (List ℕ)). way.untaken ++ x) (sym path.0));
      whole = path.1;
      given_count = omega (arith, h.given_count, length_push given pdu);
      taken_count = h.taken_count;
    }

pub send_carries : (way : Way) (n : ℕ) (given taken : List (List ℕ)) → Carries way given taken
    → Carries (send way n).0 given taken
send_carries way n given taken h =
    let path = sym (send_path way.fed way.flight way.undrawn (min n (length way.undrawn))) in
    record {
      in_order = h.in_order ∙ ap (λ (x : List ℕ). taken ++ (way.untaken ++ frames_of x)) path;
      whole = ap (λ (x : List ℕ). rest_of x) (sym path) ∙ h.whole;
      given_count = h.given_count;
      taken_count = h.taken_count;
    }

pub move_carries : (way : Way) (n : ℕ) (given taken : List (List ℕ)) → Carries way given taken
    → Carries (move way n).0 given taken
move_carries way n given taken h =
    let path = move_path way.fed way.flight way.undrawn n in
    let frames = frames_of (way.fed ++ take n way.flight) in
    let later = frames_of (rest_of (way.fed ++ take n way.flight)
    ++ (drop n way.flight ++ way.undrawn)) in
    record {
      in_order = h.in_order ∙ ap (λ (x : List (List ℕ)). taken ++ x)
          (ap (λ (x : List (List ℕ)). way.untaken ++ x) path.0
          ∙ sym (append_assoc way.untaken frames later));
      whole = sym path.1 ∙ h.whole;
      given_count = h.given_count;
      taken_count = h.taken_count;
    }

pub take_carries : (way : Way) (pdu : List ℕ) (pdus given taken : List (List ℕ))
    → way.untaken ≡ pdu ∷ pdus
    → Carries way given taken → Carries (take_from (pdu ∷ pdus) way).0 given (taken ++ pdu ∷ [])
take_carries way pdu pdus given taken first h =
    let frames = frames_of (way.fed ++ (way.flight ++ way.undrawn)) in
    record {
      in_order = h.in_order ∙ ap (λ (x : List (List ℕ)). taken ++ (x ++ frames)) first
          ∙ sym (append_assoc taken (pdu ∷ []) (pdus ++ frames));
      whole = h.whole;
      given_count = h.given_count;
      taken_count = omega (arith, h.taken_count, length_push taken pdu);
    }

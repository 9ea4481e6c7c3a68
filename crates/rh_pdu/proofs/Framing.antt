-- the frames of bytes are their one framing
use Rattle.std.proofs.Common.{◌≡◌, ℕ, zero, suc, ◌≤◌, List, [], ◌∷◌, ◌++◌, take, drop, length, true, false, cond}
use Rattle.std.proofs.Common.{arith, sym, ◌∙◌, ap, refl, subst}
use Rattle.std.specs.List.{concat, AllByRecursion}
use Rattle.std.proofs.lemmas.List.Folds.{concat-append}
use Rattle.std.proofs.lemmas.List.{append-nil, length-append, append_assoc, take-append-drop, length-drop}
use Rattle.std.proofs.lemmas.List.{take-append-le}
use Rattle.rh_pdu.specs.Header.{frag_of}
use Rattle.rh_pdu.specs.Frames.{IsFrame, Framed, IsBad, IsUnfinished}
use Rattle.rh_pdu.specs.Cut.{begins_whole, cut, left, frames_of, rest_of}
use Rattle.rh_pdu.proofs.Headers.{frag_bounds, head_same}
use Rattle.rh_pdu.proofs.Cuts.{BeginsWhole, whole_found, found_whole, front_is_frame, frame_at, stands_first}

-- ---- a framing

-- where no frame stands at the front, all is the rest
pub framed_none : (b : List ℕ) → ¬ BeginsWhole b → Framed b [] b
framed_none b none = record {
  joined = refl;
  each = tt;
  unfinished = λ k fits frame. none (frame_at k b fits frame).0;
}

-- a frame stands in front of a framing
pub framed_more : (f b : List ℕ) (fs : List (List ℕ)) (r : List ℕ) → IsFrame f → Framed b fs r
    → Framed (f ++ b) (f ∷ fs) r
framed_more f b fs r frame h = record {
  joined = ap (λ x. f ++ x) h.joined ∙ sym (append_assoc f (concat fs) r);
  each = (frame, h.each);
  unfinished = h.unfinished;
}

-- the frames behind the first one are a framing of what is behind it
framed_behind : (b f : List ℕ) (fs : List (List ℕ)) (r : List ℕ) → Framed b (f ∷ fs) r
    → BeginsWhole b × (take (frag_of b) b ≡ f) × Framed (drop (frag_of b) b) fs r
framed_behind b f fs r h =
    let is = stands_first b f (concat fs ++ r) h.each.0 (h.joined ∙ append_assoc f (concat fs) r) in
    (is.begins, is.first, record { joined = is.behind; each = h.each.1; unfinished = h.unfinished })

-- where no frame is in a framing, none stands at the front
none_framed : (b r : List ℕ) → Framed b [] r → ¬ BeginsWhole b
none_framed b r h = λ begins.
    subst (λ x. (k : ℕ) → k ≤ length x → IsFrame (take k x) → ⊥) (sym h.joined) h.unfinished
    (frag_of b) begins.whole (front_is_frame b begins)

-- two framings of the same bytes are one
framed_once : (fs gs : List (List ℕ)) (b r q : List ℕ) → Framed b fs r → Framed b gs q
    → (fs ≡ gs) × (r ≡ q)
framed_once [] [] b r q h k = (refl, sym h.joined ∙ k.joined)
framed_once [] (g ∷ gs) b r q h k = absurd (none_framed b r h (framed_behind b g gs q k).0)
framed_once (f ∷ fs) [] b r q h k = absurd (none_framed b q k (framed_behind b f fs r h).0)
framed_once (f ∷ fs) (g ∷ gs) b r q h k =
    let x = framed_behind b f fs r h in
    let y = framed_behind b g gs q k in
    let more = framed_once fs gs (drop (frag_of b) b) r q x.2 y.2 in
    let first : f ≡ g = sym x.1 ∙ y.1 in
    (ap (λ f. f ∷ fs) first ∙ ap (λ fs. g ∷ fs) more.0, more.1)

-- frames and then frames are frames
pub each_append : (fs gs : List (List ℕ)) → AllByRecursion IsFrame fs → AllByRecursion IsFrame gs
    → AllByRecursion IsFrame (fs ++ gs)
each_append [] gs h k = k
each_append (f ∷ fs) gs h k = (h.0, each_append fs gs h.1 k)

-- a framing goes on from the rest that it left
framed_join : (a b : List ℕ) (fs gs : List (List ℕ)) (r q : List ℕ) → Framed a fs r
    → Framed (r ++ b) gs q
    → Framed (a ++ b) (fs ++ gs) q
framed_join a b fs gs r q h k = record {
  joined =
      ap (λ x. x ++ b) h.joined ∙ append_assoc (concat fs) r b ∙ ap (λ x. concat fs ++ x) k.joined
      ∙ sym (append_assoc (concat fs) (concat gs) q) ∙ ap (λ x. x ++ q) (sym (concat-append fs gs));
  each = each_append fs gs h.each k.each;
  unfinished = k.unfinished;
}

-- ---- the frames that are cut off

-- what is cut off with enough fuel is a framing
cut_framed : (n : ℕ) (b : List ℕ) → length b ≤ n → Framed b (cut n b) (left n b)
unfolding cut left
cut_framed zero b h = framed_none b (λ begins. let long = begins.long in absurd (omega arith))
cut_framed (suc n) b h =
    let frag = frag_of b in
    elim (begins_whole b) as (λ t. begins_whole b ≡ t
    → Framed b (cond t (take frag b ∷ cut n (drop frag b)) []) (cond t (left n (drop frag b)) b)) [
      | true ↦ λ e.
          let begins = found_whole b e in
          let bounds = frag_bounds b begins.head in
          let behind = cut_framed n (drop frag b) (omega (arith, length-drop frag b)) in
          subst (λ x. Framed x (take frag b ∷ cut n (drop frag b)) (left n (drop frag b)))
          (take-append-drop frag b)
          (framed_more (take frag b) (drop frag b) (cut n (drop frag b)) (left n (drop frag b))
          (front_is_frame b begins) behind)
      | false ↦ λ e. framed_none b (λ begins. absurd (let found = whole_found b begins in cc))
    ] refl

-- the frames cut off the front are a framing
pub framed : (b : List ℕ) → Framed b (frames_of b) (rest_of b)
framed b = cut_framed (length b) b (omega arith)

-- each framing of the bytes is this one
pub framing_is : (fs : List (List ℕ)) (b r : List ℕ) → Framed b fs r
    → (fs ≡ frames_of b) × (r ≡ rest_of b)
framing_is fs b r h = framed_once fs (frames_of b) b r (rest_of b) h (framed b)

-- so these are cut off
pub cut_is : (fs : List (List ℕ)) (b r : List ℕ) → Framed b fs r
    → (frames_of b ≡ fs) × (rest_of b ≡ r)
cut_is fs b r h = let is = framing_is fs b r h in (sym is.0, sym is.1)

-- more bytes are framed with the rest
pub framing_appends : (a b : List ℕ)
    → (frames_of (a ++ b) ≡ frames_of a ++ frames_of (rest_of a ++ b))
    × (rest_of (a ++ b) ≡ rest_of (rest_of a ++ b))
framing_appends a b =
    let more = rest_of a ++ b in
    cut_is (frames_of a ++ frames_of more) (a ++ b) (rest_of more)
    (framed_join a b (frames_of a) (frames_of more) (rest_of a) (rest_of more) (framed a)
    (framed more))

-- a frame at the front, and the frames behind it
pub frames_behind : (f b : List ℕ) → IsFrame f
    → (frames_of (f ++ b) ≡ f ∷ frames_of b) × (rest_of (f ++ b) ≡ rest_of b)
frames_behind f b frame =
    cut_is (f ∷ frames_of b) (f ++ b) (rest_of b)
    (framed_more f b (frames_of b) (rest_of b) frame (framed b))

-- nothing is framed by nothing
pub nothing_framed : Framed [] [] []
nothing_framed = framed_none [] (λ begins. let long = begins.long in absurd (omega arith))

-- frames one after the other are framed by themselves
pub frames_joined : (fs : List (List ℕ)) → AllByRecursion IsFrame fs
    → (frames_of (concat fs) ≡ fs) × (rest_of (concat fs) ≡ [])
frames_joined fs each =
    cut_is fs (concat fs) []
    (record {
      joined = sym (append-nil (concat fs));
      each = each;
      unfinished = nothing_framed.unfinished;
    })

-- a frame is framed by itself
pub single_frame : (f : List ℕ) → IsFrame f → (frames_of f ≡ f ∷ []) × (rest_of f ≡ [])
single_frame f h =
    subst (λ b. (frames_of b ≡ f ∷ []) × (rest_of b ≡ [])) (append-nil f)
    (frames_joined (f ∷ []) (h, tt))

-- ---- bytes of which no frame is whole

-- a bad header is no frame's
pub bad_framed : (b : List ℕ) → IsBad b → Framed b [] b
bad_framed b bad = framed_none b (λ begins. bad.head begins.head)

-- an unfinished frame is no whole one
pub unfinished_framed : (b : List ℕ) → IsUnfinished b → Framed b [] b
unfinished_framed b unfinished =
    framed_none b (λ begins.
    let less = (unfinished begins.long).1 in
    let whole = begins.whole in
    absurd (omega arith))

-- what begins with a bad header stays bad
pub bad_stays : (a b : List ℕ) → IsBad a → IsBad (a ++ b)
bad_stays a b h =
    let long = h.long in
    let same = head_same (a ++ b) a (take-append-le 16 a b long) in
    record { long = omega (arith, length-append a b); head = λ none. h.head (sym same ∙ none) }

-- where all bytes are framed with no rest, no front of them left a bad header
pub no_bad_front : (a b : List ℕ) → rest_of (a ++ b) ≡ [] → ¬ IsBad (rest_of a)
no_bad_front a b none = λ bad.
    let more = rest_of a ++ b in
    let stays = bad_stays (rest_of a) b bad in
    let is : more ≡ [] =
    sym (cut_is [] more more (bad_framed more stays)).1 ∙ sym (framing_appends a b).1 ∙ none in
    let long = stays.long in
    let size = ap length is in
    absurd (omega arith)

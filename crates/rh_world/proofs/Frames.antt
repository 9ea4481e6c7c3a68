-- a frame that was made whole, and the bytes behind it
use Rattle.std.proofs.Common.{◌≡◌, ℕ, ◌+◌, ◌≤◌, ◌<◌, List, [], ◌∷◌, ◌++◌, take, drop, length, sym, ◌∙◌, ap, append_assoc}
use Rattle.std.proofs.lemmas.List.{take-append-drop, length-append}
use Rattle.rh_pdu.specs.Frames.{IsFrame}
use Rattle.rh_pdu.specs.Cut.{frames_of, rest_of}
use Rattle.rh_pdu.specs.Feeding.{FramerState, FedFrame}
use Rattle.rh_pdu.proofs.Framing.{frames_behind}
use Rattle.rh_pdu.proofs.Pdus.{frame_bounds}

-- the bytes are the frame and those behind it
pub frame_in_front : (s t : FramerState) (piece : List ℕ) (used len : ℕ)
    → FedFrame s t piece used len
    → (t.rest ≡ []) × IsFrame t.frame × (s.rest ++ piece ≡ t.frame ++ drop used piece) × (0 < used)
    × (used ≤ length piece)
frame_in_front s t piece used len h = (
  ap (λ (x : FramerState). x.rest) h.after,
  h.frame,
  ap (λ (x : List ℕ). s.rest ++ x) (sym (take-append-drop used piece))
      ∙ sym (append_assoc s.rest (take used piece) (drop used piece))
      ∙ ap (λ (x : List ℕ). x ++ drop used piece) (sym h.bytes),
  h.some,
  h.within,
)

-- what the frame leaves of the bytes
pub record FrameTaken (all frame left : List ℕ) : Type 0 where
  pub frames : frames_of all ≡ frame ∷ frames_of left
  pub rest : rest_of all ≡ rest_of left
  pub joined : length all ≡ length frame + length left
  pub least : 16 ≤ length frame
  pub most : length frame ≤ 8192

pub frame_taken : (all frame rest behind left : List ℕ)
    → (rest ≡ []) × IsFrame frame × (all ≡ frame ++ behind) × (left ≡ rest ++ behind)
    → FrameTaken all frame left
frame_taken all frame rest behind left (none, is, joined, left_is) =
    let here : left ≡ behind = left_is ∙ ap (λ (x : List ℕ). x ++ behind) none in
    let cut = frames_behind frame behind is in
    let bounds = frame_bounds frame is in
    record {
      frames = ap (λ (x : List ℕ). frames_of x) joined ∙ cut.0
          ∙ ap (λ (x : List ℕ). frame ∷ frames_of x) (sym here);
      rest = ap (λ (x : List ℕ). rest_of x) joined ∙ cut.1
          ∙ ap (λ (x : List ℕ). rest_of x) (sym here);
      joined = ap length joined ∙ length-append frame behind
          ∙ ap (λ (x : List ℕ). length frame + length x) (sym here);
      least = bounds.0;
      most = bounds.1;
    }

-- for a loop that feeds a piece to its end: what each answer leaves of the frames of all bytes
use Rattle.std.proofs.Common.{◌≡◌, ℕ, ◌≤◌, ◌<◌, List, [], ◌∷◌, ◌++◌, take, drop, length, Some, None, sym, ◌∙◌, ap}
use Rattle.std.proofs.lemmas.List.{append_assoc, take-append-drop}
use Rattle.std.specs.declared.option.Option.{Option}
use Rattle.rh_pdu.specs.declared.fault.HeadFault.{HeadFault}
use Rattle.rh_pdu.specs.Header.{head_fault}
use Rattle.rh_pdu.specs.Frames.{IsFrame, IsBad}
use Rattle.rh_pdu.specs.Cut.{frames_of, rest_of}
use Rattle.rh_pdu.specs.Feeding.{FramerState, FedNeed, FedFrame, FedFault}
use Rattle.rh_pdu.proofs.Framing.{cut_is, frames_behind, unfinished_framed, bad_framed}

-- a frame that was answered is the first of all bytes
pub record TookFrame (s t : FramerState) (piece : List ℕ) (n : ℕ) : Type 0 where
  pub frames : frames_of (s.rest ++ piece) ≡ t.frame ∷ frames_of (t.rest ++ drop n piece)
  pub rest : rest_of (s.rest ++ piece) ≡ rest_of (t.rest ++ drop n piece)
  pub was : s.fault ≡ None
  pub going : t.fault ≡ None
  pub empty : t.rest ≡ []
  pub frame : IsFrame t.frame
  pub long : 16 ≤ length t.frame
  pub some : 0 < n
  pub within : n ≤ length piece

pub took_frame : (s t : FramerState) (piece : List ℕ) (n len : ℕ) → FedFrame s t piece n len
    → TookFrame s t piece n
took_frame s t piece n len h =
    let behind = drop n piece in
    let empty : t.rest ≡ [] = ap (λ t. t.rest) h.after in
    let joined : s.rest ++ piece ≡ t.frame ++ behind =
    ap (λ x. s.rest ++ x) (sym (take-append-drop n piece))
    ∙ sym (append_assoc s.rest (take n piece) behind)
    ∙ ap (λ x. x ++ behind) (sym h.bytes) in
    let is = frames_behind t.frame behind h.frame in
    record {
      frames = ap frames_of joined ∙ is.0 ∙ ap (λ r. t.frame ∷ frames_of (r ++ behind)) (sym empty);
      rest = ap rest_of joined ∙ is.1 ∙ ap (λ r. rest_of (r ++ behind)) (sym empty);
      was = h.was;
      going = ap (λ t. t.fault) h.after;
      empty = empty;
      frame = h.frame;
      long = h.frame.long;
      some = h.some;
      within = h.within;
    }

-- where more bytes are needed, all bytes are an unfinished frame
pub record TookNone (s t : FramerState) (all : List ℕ) : Type 0 where
  pub frames : frames_of all ≡ []
  pub rest : t.rest ≡ rest_of all
  pub whole : t.rest ≡ all
  pub was : s.fault ≡ None
  pub going : t.fault ≡ None
  pub not_bad : ¬ IsBad all

pub none_taken : (s t : FramerState) (all : List ℕ) → FedNeed s t all → TookNone s t all
none_taken s t all h =
    let is = cut_is [] all all (unfinished_framed all h.unfinished) in
    let whole : t.rest ≡ all = ap (λ t. t.rest) h.after in
    record {
      frames = is.0;
      rest = whole ∙ sym is.1;
      whole = whole;
      was = h.was;
      going = ap (λ t. t.fault) h.after;
      not_bad = λ bad. bad.head (h.unfinished bad.long).0;
    }

pub some_is_not_none : (o : Option HeadFault) (f : HeadFault) → o ≡ Some f → o ≡ None → ⊥
some_is_not_none o f h k = cc

-- where a fault is told, all bytes begin with a bad header, and the framer holds that header
pub record TookFault (t : FramerState) (all : List ℕ) (f : HeadFault) : Type 0 where
  pub bad : IsBad all
  pub frames : frames_of all ≡ []
  pub rest : rest_of all ≡ all
  pub header : t.rest ≡ take 16 all
  pub stays : t.fault ≡ Some f

pub fault_taken : (s t : FramerState) (all : List ℕ) (at : ℕ) (f : HeadFault)
    → FedFault s t all at f
    → TookFault t all f
fault_taken s t all at f h =
    let bad : IsBad all =
    record { long = h.long; head = some_is_not_none (head_fault all) f h.head } in
    let is = cut_is [] all all (bad_framed all bad) in
    record {
      bad = bad;
      frames = is.0;
      rest = is.1;
      header = ap (λ t. t.rest) h.after;
      stays = ap (λ t. t.fault) h.after;
    }

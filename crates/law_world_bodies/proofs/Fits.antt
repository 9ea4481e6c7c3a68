-- what was heard of what keeps to the lengths of its heads is no body that is too long
use Rattle.std.proofs.Common.{length-append}
use Rattle.law_order.proofs.Vocabulary.{◌≡◌, ℕ, suc, ◌+◌, List, [], ◌∷◌, ◌++◌, append_assoc, length, arith, sym, ap, ◌∙◌, subst, Option, IsPrefix}
use Rattle.law_moves.proofs.Vocabulary.{Pipe, ClientConfig, in_request, out_request, Leg, LegKind, ClientOut, OutServer, ClientIn, InServer, is_whole_head, Message, Text, Pdu, Packet, Rules, spelled, IsWholeText}
use Rattle.law_world_order.proofs.FirstTexts.Requests.{same_head}
use Rattle.law_world_bodies.specs.Behind.{HasBody, TakesHead}
use Rattle.law_world_bodies.specs.Bodies.{KeepsLength, RequestTells}

module _ {S : Type 0} (rules : Rules S) (pipe : Option Pipe) (leg : Leg) (heard : List ℕ)
    (told : ℕ) (Tells : ℕ → List ℕ → Type 0)
    (whole : (n : ℕ) (text : List ℕ) → Tells n text → IsWholeText is_whole_head text)
    (takes : (n : ℕ) (text : List ℕ) → Tells n text → TakesHead rules leg text told → n ≡ told)
    (h : HasBody rules pipe leg heard (suc told) told) where
  split_length : length heard ≡ length h.text + length h.rest
  split_length = ap (λ (x : List ℕ). length x) h.split ∙ length-append h.text h.rest

  pub fits_not : (put : List Message) → KeepsLength Tells put → IsPrefix heard (spelled put) → ⊥
  fits_not [] keeps front =
      let none : length (heard ++ front.0) ≡ 0 = ap (λ (x : List ℕ). length x) front.1 in
      let sum = length-append heard front.0 in
      let within = h.within in
      let split = split_length in
      absurd (omega (arith, none, sum, within, split))
  fits_not (Text text ∷ put) keeps front =
      let whole_text = whole keeps.0 text keeps.1 in
      let same : h.text ++ (h.rest ++ front.0) ≡ text ++ spelled put =
      sym (append_assoc h.text h.rest front.0)
      ∙ ap (λ (x : List ℕ). x ++ front.0) (sym h.split) ∙ front.1 in
      let head : h.text ≡ text =
      same_head h.text text (h.rest ++ front.0) (spelled put) h.whole whole_text same in
      let is : keeps.0 ≡ told =
      takes keeps.0 text keeps.1
      (subst (λ (x : List ℕ). TakesHead rules leg x told) head h.takes) in
      let sizes : length (h.text ++ (h.rest ++ front.0)) ≡ length (text ++ spelled put) =
      ap (λ (x : List ℕ). length x) same in
      let text_size : length h.text ≡ length text = ap (λ (x : List ℕ). length x) head in
      let left = length-append h.text (h.rest ++ front.0) in
      let rest = length-append h.rest front.0 in
      let right = length-append text (spelled put) in
      let within = h.within in
      let fits = keeps.2 in
      absurd (omega (arith, is, sizes, text_size, left, rest, right, within, fits))
  fits_not (Pdu pdu ∷ put) keeps front = keeps
  fits_not (Packet named ∷ put) keeps front = keeps

-- the requests of a client are whole heads
pub whole_requests : ((config : ClientConfig) → IsWholeText is_whole_head (in_request config))
    → ((config : ClientConfig) (n : ℕ) → IsWholeText is_whole_head (out_request config n))
    → (config : ClientConfig) (kind : LegKind) (n : ℕ) (text : List ℕ)
    → RequestTells config kind n text → IsWholeText is_whole_head text
whole_requests ins outs config ClientIn n text tells =
    subst (IsWholeText is_whole_head) (sym tells.1) (ins config)
whole_requests ins outs config ClientOut n text tells =
    subst (IsWholeText is_whole_head) (sym tells.1) (outs config n)
whole_requests ins outs config OutServer n text tells = absurd tells
whole_requests ins outs config InServer n text tells = absurd tells

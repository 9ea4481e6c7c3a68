-- a packet is shown in one way
use Rattle.std.proofs.Common.{◌≡◌, ℕ, inl, inr, List, [], ◌∷◌, ◌++◌, refl, sym, ◌∙◌, ap, subst, append_assoc}
use Rattle.std.specs.Prelude.{Ok, Err}
use Rattle.std.specs.declared.result.Result.{Result}
use Rattle.rh_rts.specs.declared.fault.RtsFault.{RtsFault}
use Rattle.rh_rts.specs.Packets.{Parts}
use Rattle.rh_rts.specs.Refusals.{FirstFault}
use Rattle.rh_rts.specs.Judging.{Judged}
use Rattle.rh_rts.proofs.OneReading.{one_packet, one_fault, never_both}
use Rattle.rh_show.specs.Shown.{judged_text, ShownAs, ShowText}

-- bytes are judged in one way
one_judged : (b : List ℕ) (r s : Result Parts RtsFault) → Judged b r → Judged b s → r ≡ s
one_judged b (Ok p) (Ok q) h k = ap Ok (one_packet p q h.0 k.0 (sym h.1 ∙ k.1))
one_judged b (Ok p) (Err wrong) h k =
    absurd (never_both p wrong h.0 (subst (λ x. FirstFault x wrong) h.1 k))
one_judged b (Err wrong) (Ok q) h k =
    absurd (never_both q wrong k.0 (subst (λ x. FirstFault x wrong) k.1 h))
one_judged b (Err x) (Err y) h k = ap Err (one_fault b x y h k)

-- bytes are shown as one text
pub one_shown : (b x y : List ℕ) → ShownAs b x → ShownAs b y → x ≡ y
one_shown b x y (inl h) (inl k) =
    h.1.2 ∙ ap judged_text (one_judged b h.1.0 k.1.0 h.1.1 k.1.1) ∙ sym k.1.2
one_shown b x y (inl h) (inr k) = absurd (k.0 h.0)
one_shown b x y (inr h) (inl k) = absurd (h.0 k.0)
one_shown b x y (inr h) (inr k) = h.1 ∙ sym k.1

-- packets are shown as one text of lines
pub one_show_text : (packets : List (List ℕ)) (x y : List ℕ)
    → ShowText packets x → ShowText packets y → x ≡ y
one_show_text [] x y h k = h ∙ sym k
one_show_text (b ∷ packets) x y (line, more, is, text, rest) (line0, more0, is0, text0, rest0) =
    let lines : line ≡ line0 = one_shown b line line0 is is0 in
    let others : more ≡ more0 = one_show_text packets more more0 rest rest0 in
    cc

-- packets behind packets
pub ShowText-append : (packets others : List (List ℕ)) (text more : List ℕ)
    → ShowText packets text → ShowText others more → ShowText (packets ++ others) (text ++ more)
ShowText-append [] others text more h k = subst (λ t. ShowText others (t ++ more)) (sym h) k
ShowText-append (first ∷ packets) others text more (line, behind, is, same, rest) k = (
  line,
  behind ++ more,
  is,
  ap (λ (t : List ℕ). t ++ more) same ∙ append_assoc line (10 ∷ behind) more,
  ShowText-append packets others behind more rest k,
)

-- one packet more
pub ShowText-push : (packets : List (List ℕ)) (text b line : List ℕ) → ShowText packets text
    → ShownAs b line → ShowText (packets ++ b ∷ []) (text ++ (line ++ 10 ∷ []))
ShowText-push packets text b line h is =
    ShowText-append packets (b ∷ []) text (line ++ 10 ∷ []) h (line, [], is, refl, refl)

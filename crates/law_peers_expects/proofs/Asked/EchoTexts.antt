-- the answer to an echo request is no response of success alone
use Rattle.std.proofs.Common.{length-append}
use Rattle.law_order.proofs.Vocabulary.{◌≡◌, ℕ, ◌+◌, ◌<◌, List, [], ◌∷◌, length, take, true, true≢false, arith, refl, sym, ap, ◌∙◌, take-append_seam}
use Rattle.law_moves.proofs.Vocabulary.{response_text, echo_length, ends_head, is_whole_head, Message, Text, IsWholeText}
use Rattle.law_role_outproxy.proofs.Vocabulary.{echo_packet, echo_text}

abbrev pub IsNoEcho : Message → Type 0
IsNoEcho m = m ≡ Text echo_text → ⊥

none_whole : is_whole_head [] ≡ true → ⊥
unfolding ends_head
none_whole e = absurd cc

some_long : (text : List ℕ) → is_whole_head text ≡ true → 0 < length text
some_long [] e = absurd (none_whole e)
some_long (x ∷ text) e = omega arith

-- its front is a whole head that is shorter
pub other_text : ((n : ℕ) → IsWholeText is_whole_head (response_text n)) → (n : ℕ)
    → response_text n ≡ echo_text → ⊥
other_text whole n e =
    let head : List ℕ = response_text echo_length in
    let is_head : is_whole_head head ≡ true = (whole echo_length).whole in
    let long : length (response_text n) ≡ length head + length echo_packet =
    ap length e ∙ length-append head echo_packet in
    let more : length echo_packet ≡ 20 = refl in
    let front : take (length head) (response_text n) ≡ head =
    ap (take (length head)) e ∙ take-append_seam head echo_packet in
    true≢false
    (sym is_head ∙ ap is_whole_head (sym front)
    ∙ (whole n).front (length head) (some_long head is_head) (omega (arith, long, more)))

pub other_message : ((n : ℕ) → IsWholeText is_whole_head (response_text n)) → (n : ℕ)
    → IsNoEcho (Text (response_text n))
other_message whole n e = other_text whole n cc

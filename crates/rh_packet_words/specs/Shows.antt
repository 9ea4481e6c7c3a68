-- packets can be shown at any time, and what is written line by line shows the packets of the text
use Rattle.std.proofs.Common.{ℕ, List, [], ◌∷◌, ◌++◌, refl, ◌∙◌, ap, append_assoc}
use Rattle.hex.proofs.HexLemmas.{decode_of-ok}
use Rattle.rh_text.specs.declared.lines.TheConstants.{LINE_FEED}
use Rattle.rh_show.specs.Lines.{packets, IsPacketHex}
use Rattle.rh_show.specs.Shown.{ShowText}
use Rattle.rh_show.proofs.Telling.{told}
use Rattle.rh_word.specs.Words.{Tells, SaysOf}
use Rattle.rh_packet_words.specs.Show.{showing, IsShown}

pub goes_on : (show place : Unit {0}) (text bytes : List ℕ) → IsPacketHex text bytes
    → (written : List ℕ) × (next : Unit {0}) × showing.Does show bytes written next
goes_on show place text bytes h =
    let line = told bytes (decode_of-ok text bytes h.digits).3 in
    (line.0 ++ LINE_FEED ∷ [], tt, (line.0, line.1, refl))

pub comes_to_end : (show : Unit {0}) → (written : List ℕ) × showing.Ends show written
comes_to_end show = ([], refl)

-- what is written of packets shows them
tells_shown : (show : Unit {0}) (lines : List (List ℕ)) (written : List ℕ)
    → Tells showing show lines written
    → ShowText lines written
tells_shown show [] written h = h
tells_shown show (bytes ∷ lines) written (one, more, next, (line, is, ended), joined, rest) = (
  line,
  more,
  is,
  joined ∙ ap (λ (x : List ℕ). x ++ more) ended ∙ append_assoc line (LINE_FEED ∷ []) more,
  tells_shown next lines more rest,
)

pub means : (text written : List ℕ) → SaysOf packets showing text written → IsShown text written
means text written h = record {
  lines = h.lines;
  is_text = h.is_text;
  shown = tells_shown h.word h.lines written h.tells;
}

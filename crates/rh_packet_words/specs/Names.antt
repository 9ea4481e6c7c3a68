-- packets can be named at any time, and what is written line by line names the packets of the text
use Rattle.std.proofs.Common.{◌≡◌, ℕ, List, [], ◌∷◌, ◌++◌, refl, ◌∙◌, ap, append_assoc}
use Rattle.rh_text.specs.declared.lines.TheConstants.{LINE_FEED}
use Rattle.rh_name.specs.declared.reader.Asked.{Asked}
use Rattle.rh_name.specs.Lines.{asked, IsAsked, names_text}
use Rattle.rh_name.specs.Telling.{told}
use Rattle.rh_word.specs.Words.{Tells, SaysOf}
use Rattle.rh_packet_words.specs.Name.{naming, IsNamed}

pub goes_on : (name place : Unit {0}) (text : List ℕ) (line : Asked)
    → IsAsked line.pipe line.bytes text
    → (written : List ℕ) × (next : Unit {0}) × naming.Does name line written next
goes_on name place text line h = (told line.pipe line.bytes ++ LINE_FEED ∷ [], tt, refl)

pub comes_to_end : (name : Unit {0}) → (written : List ℕ) × naming.Ends name written
comes_to_end name = ([], refl)

-- what is written of packets is what they are called
tells_named : (name : Unit {0}) (lines : List Asked) (written : List ℕ)
    → Tells naming name lines written
    → written ≡ names_text lines
tells_named name [] written h = h
tells_named name (line ∷ lines) written (one, more, next, is, joined, rest) =
    joined ∙ ap (λ (x : List ℕ). x ++ more) is
    ∙ append_assoc (told line.pipe line.bytes) (LINE_FEED ∷ []) more
    ∙ ap (λ (x : List ℕ). told line.pipe line.bytes ++ LINE_FEED ∷ x)
    (tells_named next lines more rest)

pub means : (text written : List ℕ) → SaysOf asked naming text written → IsNamed text written
means text written h = record {
  lines = h.lines;
  is_text = h.is_text;
  named = tells_named h.word h.lines written h.tells;
}

-- a text of which a front is written, and the rest is gathered
use Rattle.std.proofs.Common.{◌≡◌, ℕ, ◌+◌, ◌≤◌, List, [], ◌++◌, length, refl, sym, ◌∙◌, ap, append_assoc, arith}
use Rattle.std.proofs.lemmas.List.{append-nil, length-append}
use Rattle.std.specs.declared.option.Option.{Option}
use Rattle.std.specs.Io.KnownBytes.{Appends}
use Rattle.std.proofs.KnownBytes.{Appends-nil, Appends-trans}
use Rattle.rh_word.specs.Outputs.{Out, Gathers, Stops}

-- a piece was written, and the rest is gathered
pub gathers : (before now : Out) (text piece left : List ℕ) → Appends before.known now.known piece
    → text ≡ piece ++ left
    → (length text ≤ before.takes + length left
    → before.takes + length left ≤ now.takes + length text)
    → Gathers text left before now
gathers before now text piece left wrote is paid =
    let sizes : length text ≡ length piece + length left =
    ap length is ∙ length-append piece left in
    record {
      written = piece;
      took = record {
        wrote = wrote;
        paid = λ fits. omega (arith, paid (omega (arith, fits, sizes)), sizes);
      };
      text_is = is;
    }

-- nothing was written
pub gathers_all : (text : List ℕ) (out : Out) → Gathers text text out out
gathers_all text out = record {
  written = [];
  took = record { wrote = Appends-nil out.known; paid = λ fits. omega arith };
  text_is = refl;
}

-- more stands behind the text, and is gathered
pub gathers_more : {text gathered : List ℕ} (more : List ℕ) {before now : Out}
    → Gathers text gathered before now
    → Gathers (text ++ more) (gathered ++ more) before now
gathers_more {text} {gathered} more {before} {now} h = record {
  written = h.written;
  took = h.took;
  text_is = ap (λ x. x ++ more) h.text_is ∙ append_assoc h.written gathered more;
}

-- and then a front of what was gathered was written
pub gathers_on : {text gathered left : List ℕ} {before now later : Out}
    → Gathers text gathered before now → Gathers gathered left now later
    → Gathers text left before later
gathers_on {text} {gathered} {left} {before} {now} {later} h k = record {
  written = h.written ++ k.written;
  took = record {
    wrote = Appends-trans before.known now.known later.known h.written k.written h.took.wrote
        k.took.wrote;
    paid = λ fits.
        let sizes = length-append h.written k.written in
        let first = h.took.paid (omega (arith, fits, sizes)) in
        omega (arith, first, k.took.paid (omega (arith, fits, sizes, first)), sizes);
  };
  text_is = h.text_is ∙ ap (λ x. h.written ++ x) k.text_is
      ∙ sym (append_assoc h.written k.written left);
}

-- and then no more than a front
pub stops_on : {text gathered : List ℕ} {before now : Out} {later : Option (List ℕ)}
    → Gathers text gathered before now → Stops gathered now.known later
    → Stops text before.known later
stops_on {text} {gathered} {before} {now} {later} h k = record {
  written = h.written ++ k.written;
  behind = k.behind;
  wrote = Appends-trans before.known now.known later h.written k.written h.took.wrote k.wrote;
  text_is = h.text_is ∙ ap (λ x. h.written ++ x) k.text_is
      ∙ sym (append_assoc h.written k.written k.behind);
}

-- where nothing is gathered, all is written
pub all_written : {text left : List ℕ} {before now : Out} → left ≡ []
    → (h : Gathers text left before now)
    → text ≡ h.written
all_written {text} {left} {before} {now} none h =
    h.text_is ∙ ap (λ x. h.written ++ x) none ∙ append-nil h.written

-- nothing of a text is written
pub stops_now : (text : List ℕ) (out : Out) → Stops text out.known out.known
stops_now text out = record {
  written = [];
  behind = text;
  wrote = Appends-nil out.known;
  text_is = refl;
}

-- an output that takes all of a text takes what is gathered of it
pub gathers_sure : {text gathered : List ℕ} (behind : List ℕ) {before now : Out}
    → Gathers text gathered before now
    → length (text ++ behind) ≤ before.takes → length (gathered ++ behind) ≤ now.takes
gathers_sure {text} {gathered} behind {before} {now} h fits =
    let sizes : length (text ++ behind) ≡ length h.written + length (gathered ++ behind) =
    ap length (ap (λ x. x ++ behind) h.text_is ∙ append_assoc h.written gathered behind)
    ∙ length-append h.written (gathered ++ behind) in
    let first = h.took.paid (omega (arith, fits, sizes)) in
    omega (arith, first, fits, sizes)

-- what has room for a text has room for its front
pub sure_front : (front behind : List ℕ) (takes : ℕ) → length (front ++ behind) ≤ takes
    → length front ≤ takes
sure_front front behind takes fits = omega (arith, fits, length-append front behind)

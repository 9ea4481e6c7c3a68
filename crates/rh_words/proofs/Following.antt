-- two texts, one behind the other
use Rattle.std.proofs.Common.{ℕ, ◌≤◌, List, ◌++◌, length, sym, subst, ap, ◌∙◌, append_assoc}
use Rattle.std.specs.declared.option.Option.{Option}
use Rattle.rh_word.specs.Outputs.{Out, Gathers, Stops}
use Rattle.rh_word.proofs.Gathering.{gathers_more, gathers_on, gathers_sure, stops_on, sure_front}

-- a front of a front is one of the whole
pub stops_longer : {text : List ℕ} (more : List ℕ) {before now : Option (List ℕ)}
    → Stops text before now → Stops (text ++ more) before now
stops_longer {text} more {before} {now} h = record {
  written = h.written;
  behind = h.behind ++ more;
  wrote = h.wrote;
  text_is = ap (λ (x : List ℕ). x ++ more) h.text_is ∙ append_assoc h.written h.behind more;
}

module _ (before one two : List ℕ) where
  -- both were gathered
  pub gathers_both : {gathered left : List ℕ} {start here later : Out}
      → Gathers (before ++ one) gathered start here → Gathers (gathered ++ two) left here later
      → Gathers (before ++ (one ++ two)) left start later
  gathers_both {gathered} {left} {start} {here} {later} h k =
      subst (λ (x : List ℕ). Gathers x left start later) (append_assoc before one two)
      (gathers_on (gathers_more two h) k)

  -- the second was not all written
  pub stops_second : {gathered : List ℕ} {start here : Out} {later : Option (List ℕ)}
      → Gathers (before ++ one) gathered start here → Stops (gathered ++ two) here.known later
      → Stops (before ++ (one ++ two)) start.known later
  stops_second {gathered} {start} {here} {later} h k =
      subst (λ (x : List ℕ). Stops x start.known later) (append_assoc before one two)
      (stops_on (gathers_more two h) k)

  -- nor was the first
  pub stops_first : {start later : Option (List ℕ)} → Stops (before ++ one) start later
      → Stops (before ++ (one ++ two)) start later
  stops_first {start} {later} h =
      subst (λ (x : List ℕ). Stops x start later) (append_assoc before one two)
      (stops_longer two h)

  -- there is room for each where there is for both
  pub sure_first : (takes : ℕ) → length (before ++ (one ++ two)) ≤ takes
      → length (before ++ one) ≤ takes
  sure_first takes fits =
      sure_front (before ++ one) two takes
      (subst (λ (x : List ℕ). length x ≤ takes) (sym (append_assoc before one two)) fits)

  pub sure_second : {gathered : List ℕ} {start here : Out}
      → Gathers (before ++ one) gathered start here
      → length (before ++ (one ++ two)) ≤ start.takes → length (gathered ++ two) ≤ here.takes
  sure_second {gathered} {start} {here} h fits =
      gathers_sure two h
      (subst (λ (x : List ℕ). length x ≤ start.takes) (sym (append_assoc before one two)) fits)

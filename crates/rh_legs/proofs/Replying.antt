-- what is answered is the machine's reply in some state
use Rattle.std.proofs.Common.{◌≡◌, Some, sym, ◌∙◌}
use Rattle.rh_turn.specs.Calls.{Acts}
use Rattle.rh_turn.specs.History.{state_after}
use Rattle.rh_turn.specs.Values.{SeatValue}
use Rattle.rh_turn.proofs.Histories.{reply_last}

some-same : {A : Type 0} (a b : A) → Some a ≡ Some b → a ≡ b
some-same a b same = cc same

pub acts-replied : {S E R : Type 0} (next : S → E → S) (reply : S → E → R) (first : S) (event : E)
    (answer : R) (old now : SeatValue E) → Acts next reply first event answer old now
    → (s : S) × (answer ≡ reply s event)
acts-replied next reply first event answer old now acts = (
  state_after next first acts.before,
  some-same answer (reply (state_after next first acts.before) event)
      (sym acts.answers ∙ reply_last next reply first acts.before event),
)

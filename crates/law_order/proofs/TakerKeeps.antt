-- whatever an end that takes may do keeps its law
use Rattle.law_order.proofs.Vocabulary.{◌≡◌, ℕ, zero, suc, ◌<◌, Bool, false, arith, Log, empty, Taker, TakerLaw, new_taker, Taking, Hears, TakesPdu, MayTake, takes, heard_by}
use Rattle.law_order.proofs.ShelvesKeep.{shelves_step, shelves_start, passed_on}

pub taker_step : (t : Taker) (legs : ℕ → Bool) (came : Log) (act : Taking) → TakerLaw t legs came
    → MayTake t legs act → TakerLaw (takes t act) legs (heard_by t act came)
taker_step t legs came (Hears what) l may =
    shelves_step t.shelves legs t.taken came what l may
taker_step t legs came (TakesPdu pdu rest) l may =
    passed_on t.shelves legs t.taken came pdu rest may l

pub taker_starts : (legs : ℕ → Bool) → legs 0 ≡ false → TakerLaw new_taker legs empty
taker_starts legs none = shelves_start 1 legs (λ n b. below_one legs none n b)
  where
    below_one : (legs : ℕ → Bool) → legs 0 ≡ false → (n : ℕ) → n < 1 → legs n ≡ false
    below_one legs none zero b = none
    below_one legs none (suc n) b = absurd (omega arith)

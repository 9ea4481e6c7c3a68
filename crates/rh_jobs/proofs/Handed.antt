-- jobs that wait, and behind them those of the threads, of which the last one started has the first
use Rattle.std.proofs.Common.{◌≡◌, List, [], ◌∷◌, ◌++◌, sym, ap, ◌∙◌}
use Rattle.std.specs.Prelude.{map, reverse}
use Rattle.std.proofs.lemmas.List.{append_assoc, map-append, reverse-append}

-- the last thread's job comes right behind the jobs before it
last_thread : {H J : Type 0} (f : H → J) (before : List J) (handles : List H) (h : H)
    → before ++ reverse (map f (handles ++ h ∷ []))
    ≡ (before ++ f h ∷ []) ++ reverse (map f handles)
last_thread f before handles h =
    rw (map-append f handles (h ∷ []), reverse-append (map f handles) (f h ∷ []))
    (sym (append_assoc before (f h ∷ []) (reverse (map f handles))))

-- taking that job from the last thread leaves all jobs in their order
pub from_thread : {H J : Type 0} (f : H → J) (handles left : List H) (h : H) (before : List J)
    (job : J) (jobs : List J)
    → handles ≡ left ++ h ∷ [] → job ≡ f h → before ++ reverse (map f handles) ≡ jobs
    → (before ++ job ∷ []) ++ reverse (map f left) ≡ jobs
from_thread f handles left h before job jobs last its all =
    rw its (sym (last_thread f before left h)
    ∙ ap (λ hs. before ++ reverse (map f hs)) (sym last) ∙ all)

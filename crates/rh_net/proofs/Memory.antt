-- the callers after one was taken
use Rattle.std.proofs.Common.{◌≡◌, ℕ, zero, suc, List, [], ◌∷◌, slice_set, slice_index_or, ap, refl}
use Rattle.rh_net.specs.declared.in_memory.callers.Caller.{Caller}
use Rattle.rh_net.specs.Memory.Waiting.{taken_from, taken_at}

-- to write that a caller was taken over it is to take it
pub set_taken : (n : ℕ) (callers : List Caller) (caller : Caller)
    → caller ≡ slice_index_or callers n caller
    → slice_set callers n (taken_from caller) ≡ taken_at n callers
set_taken n [] caller here = refl
set_taken zero (c ∷ cs) caller here = ap (λ k. taken_from k ∷ cs) here
set_taken (suc n) (c ∷ cs) caller here = ap (λ ks. c ∷ ks) (set_taken n cs caller here)

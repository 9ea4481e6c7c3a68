-- what may go, in turn
use Rattle.std.proofs.Common.{subst, ◌≡◌, ℕ, List, [], ◌∷◌, Bool, true, false, ap, refl}
use Rattle.std.specs.Prelude.{Some, None}
use Rattle.rh_shell.specs.declared.due.Due.{Due}
use Rattle.rh_shell.specs.Rules.{put_into}
use Rattle.rh_shell.specs.Waiting.{Waiting, taken, with_due}
use Rattle.rh_inproxy.specs.Answers.{Pick, or_else, is_some}
use Rattle.rh_inproxy.specs.Ending.{settled, settled_pick}
use Rattle.rh_inproxy.specs.Putting.{may_go, first_of, behind_first}
use Rattle.rh_inproxy.specs.State.{InProxy}

-- what may go is put, and it is told whether something may
pub record Puts (s t : InProxy) (bytes : List ℕ) (answer : Bool) (pick : Pick) : Type 0 where
  pub put : (t, bytes) ≡ put_into s pick
  pub told : answer ≡ is_some pick

-- where nothing may go, nothing is begun
pub none_begun : (s t : InProxy) (bytes : List ℕ) (told : Bool) (pick : Pick)
    → Puts s t bytes told pick → told ≡ false → bytes ≡ []
none_begun s t bytes told None p no_pick = ap (λ (q : InProxy × List ℕ). q.1) p.put
none_begun s t bytes told (Some pick) p no_pick = absurd (let e = p.told in cc)

-- the first of two goes
pub first_goes : (s t : InProxy) (bytes : List ℕ) (told : Bool) (one other : Pick)
    → Puts s t bytes told one → told ≡ true → Puts s t bytes told (or_else one other)
first_goes s t bytes told None other p goes = absurd (let e = p.told in cc)
first_goes s t bytes told (Some pick) other p goes = record { put = p.put; told = p.told }

-- the other one goes, where the first doesn't
pub other_goes : (s m t : InProxy) (mid bytes : List ℕ) (before told : Bool) (one : Pick)
    (other : InProxy → Pick) → Puts s m mid before one → before ≡ false
    → Puts m t bytes told (other m) → Puts s t bytes told (or_else one (other s))
other_goes s m t mid bytes before told None other p no_pick goes =
    let same = ap (λ (q : InProxy × List ℕ). q.0) p.put in
    subst (λ (k : InProxy). Puts k t bytes told (other k)) same goes
other_goes s m t mid bytes before told (Some pick) other p no_pick goes =
    absurd (let e = p.told in cc)

-- a message was put, and then the work may be done
pub settled_put : (s t : InProxy) (bytes : List ℕ) (pick : Pick) → (t, bytes) ≡ put_into s pick
    → is_some pick ≡ true → (settled t, bytes) ≡ put_into s (settled_pick pick)
settled_put s t bytes None e goes = absurd cc
settled_put s t bytes (Some pick) e goes =
    ap (λ (q : InProxy × List ℕ). (settled q.0, q.1)) e

pub unsettled_put : (s t : InProxy) (bytes : List ℕ) (pick : Pick) → (t, bytes) ≡ put_into s pick
    → is_some pick ≡ false → (t, bytes) ≡ put_into s (settled_pick pick)
unsettled_put s t bytes None e no_pick = e
unsettled_put s t bytes (Some pick) e no_pick = absurd cc

-- the packet that waits longest is the first that may go
pub longest : (w : Waiting) → taken may_go w ≡ (with_due w (behind_first w.due), first_of w.due)
longest w = by_due w.room w.due
  where
    by_due : (room : ℕ) (dues : List Due)
        → taken may_go (record { room = room; due = dues })
        ≡ (record { room = room; due = behind_first dues }, first_of dues)
    by_due room [] = refl
    by_due room (due ∷ dues) = refl

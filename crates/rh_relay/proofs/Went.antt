-- how a run went whose jobs were handed to the spawner
use Rattle.std.proofs.Common.{◌≡◌, ◌⊎◌, inl, inr, ℕ, ◌*◌, ◌≤◌, List, length, subst, ◌∙◌}
use Rattle.std.specs.declared.option.Option.{Option}
use Rattle.rh_io.specs.Counts.{Rose}
use Rattle.rh_jobs.specs.Counts.{raised}
use Rattle.rh_legs.specs.declared.end.NodeEnd.{NodeEnd}
use Rattle.rh_legs.specs.declared.end.NodeEnd.TheVariants.{SpawnFault}
use Rattle.rh_relay.specs.Runs.{AllEnd, WentSo}

pub went : {S W : Type 0} (count actors jobs : ℕ) (streams : S × W)
    (net_failed : Type 0) (faults ran : ℕ × ℕ) (input : Option S) (output : Option W)
    (ends : List NodeEnd) → actors ≡ count → 5 * actors ≤ jobs
    → (AllEnd SpawnFault actors ends × Rose faults.0 faults.1 × (ran.1 ≡ ran.0))
    ⊎ ((length ends ≡ actors) × (ran.1 ≡ raised ran.0 jobs))
    → WentSo count streams net_failed faults ran input output ends
went count actors jobs streams net_failed faults ran input output ends same five
    (inl refused) =
    inr (inl (subst (λ n. AllEnd SpawnFault n ends) same refused.0, refused.1, refused.2))
went count actors jobs streams net_failed faults ran input output ends same five
    (inr done) =
    inr (inr (done.0 ∙ same, jobs, subst (λ n. 5 * n ≤ jobs) same five, done.1))

-- how the nodes of a run ended (profile)
use Rattle.std.specs.Prelude.{◌≡◌, ◌⊎◌, ℕ, ◌*◌, ◌≤◌, List, [], ◌∷◌, length, Some}
use Rattle.std.specs.declared.option.Option.{Option}
use Rattle.rh_io.specs.Counts.{Rose}
use Rattle.rh_jobs.specs.Counts.{raised}
use Rattle.rh_legs.specs.declared.end.NodeEnd.{NodeEnd}
use Rattle.rh_legs.specs.declared.end.NodeEnd.TheVariants as end

-- so many nodes ended so
abbrev pub AllAre : NodeEnd → List NodeEnd → Type 0
AllAre told [] = Unit {0}
AllAre told (end ∷ ends) = (end ≡ told) × AllAre told ends

abbrev pub AllEnd : NodeEnd → ℕ → List NodeEnd → Type 0
AllEnd told count ends = (length ends ≡ count) × AllAre told ends

-- How a run went: of so many nodes, with these streams. The net could not listen, or gave no way,
-- and counted it: no job was made, and the streams came back as they were. Or the spawner refused
-- the jobs, and counted it: none began. Or at least five jobs for each node ran.
abbrev pub WentSo : {S W : Type 0} → ℕ → S × W → Type 0 → ℕ × ℕ → ℕ × ℕ → Option S → Option W
    → List NodeEnd → Type 0
WentSo count streams net_failed faults ran input output ends =
    (net_failed × AllEnd end.NetFault count ends
    × (input ≡ Some streams.0) × (output ≡ Some streams.1) × (ran.1 ≡ ran.0))
    ⊎ (AllEnd end.SpawnFault count ends × Rose faults.0 faults.1 × (ran.1 ≡ ran.0))
    ⊎ ((length ends ≡ count) × (jobs : ℕ) × (5 * count ≤ jobs) × (ran.1 ≡ raised ran.0 jobs))

-- what the calls of a net do to its counts
use Rattle.std.specs.Prelude.{◌≡◌, ℕ, ◌≤◌, List, IfOk, OnOk, OnErr}
use Rattle.std.specs.declared.option.Option.{Option}
use Rattle.std.specs.declared.result.Result.{Result}
use Rattle.rh_io.specs.Counts.{Rose}
use Rattle.rh_net.specs.declared.counts.NetCounts.{NetCounts}
use Rattle.rh_net.specs.Counts.{one_more, one_more_where}
use Rattle.rh_net.specs.Backs.{IsUnread, IsUnwritten}

-- no count fell
pub record AreLater (old new : NetCounts) : Type 0 where
  pub faults : old.faults ≤ new.faults
  pub given : old.given ≤ new.given
  pub leg_faults : old.leg_faults ≤ new.leg_faults
  pub leg_ends : old.leg_ends ≤ new.leg_ends

-- a sink of so many faults was taken back
abbrev pub sink_back : NetCounts → ℕ → NetCounts
sink_back counts faults = record counts { leg_faults = one_more_where counts.leg_faults faults }

-- a source of so many faults and ends was taken back
abbrev pub source_back : NetCounts → ℕ → ℕ → NetCounts
source_back counts faults ends = record counts {
  leg_faults = one_more_where counts.leg_faults faults;
  leg_ends = one_more_where counts.leg_ends ends;
}

-- a call failed: that is counted, and nothing else
pub record CountsFault (old new : NetCounts) : Type 0 where
  pub rose : Rose old.faults new.faults
  pub same : new ≡ record old { faults = new.faults }

-- a leg of which nothing was read and to which nothing was written
abbrev pub IsUnused : {I O : Type 0} → (I → Option (List ℕ)) → (I → ℕ) → (I → ℕ)
    → (O → Option (List ℕ)) → (O → ℕ) → I × O → Type 0
IsUnused taken faults ends written lost leg =
    IsUnread (taken leg.0) (faults leg.0) (ends leg.0) × IsUnwritten (written leg.1) (lost leg.1)

-- a leg that was never used is given and counted, or the call failed
pub record GivesLeg {L F : Type 0} (result : Result L F) (IsNew : L → Type 0)
    (old new : NetCounts) : Type 0 where
  pub leg : IfOk result IsNew
  pub ok : OnOk result (new ≡ record old { given = one_more old.given })
  pub err : OnErr result (CountsFault old new)
  pub later : AreLater old new

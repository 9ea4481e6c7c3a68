-- what a stream says, frame by frame
use Rattle.std.proofs.Common.{◌≡◌, ℕ, List, [], ◌∷◌, Bool, true, false, None, refl, sym, ap, ◌∙◌}
use Rattle.std.specs.Prelude.{◌||◌}
use Rattle.std.specs.declared.option.Option.{Option}
use Rattle.rh_rts.specs.declared.command.Cookie.{Cookie}
use Rattle.rh_audit.specs.declared.packet.First.{First}
use Rattle.rh_audit.specs.declared.packet.Met.{Met}
use Rattle.rh_audit.specs.declared.summary.Summary.{Summary}
use Rattle.rh_audit.specs.Packets.{is_mark}
use Rattle.rh_audit.specs.Streams.{first_among, is_marked, renewed}
use Rattle.rh_audit.specs.Summaries.{none_found, summed, with_met}

abbrev of_parts : Option First → Option Cookie → Bool → Option ℕ → Summary
of_parts first anew marked broken =
    record { first = first; anew = anew; marked = marked; broken = broken }

or_none : (b : Bool) → b ≡ (b || false)
or_none true = refl
or_none false = refl

or_assoc : (a b c : Bool) → ((a || b) || c) ≡ (a || (b || c))
or_assoc true b c = refl
or_assoc false b c = refl

summed_later : (found : Summary) (ms : List Met) (broken : Option ℕ)
    → summed found false ms broken
    ≡ of_parts found.first (renewed found.anew ms) (found.marked || is_marked ms) broken
summed_later found [] broken =
    ap (λ t. of_parts found.first found.anew t broken) (or_none found.marked)
summed_later found (m ∷ ms) broken =
    summed_later (with_met found false m) ms broken
    ∙ ap (λ t. of_parts found.first (renewed found.anew (m ∷ ms)) t broken)
    (or_assoc found.marked (is_mark m) (is_marked ms))

pub summed_all : (ms : List Met) (broken : Option ℕ)
    → summed none_found true ms broken
    ≡ of_parts (first_among ms) (renewed None ms) (is_marked ms) broken
summed_all [] broken = refl
summed_all (m ∷ ms) broken = summed_later (with_met none_found true m) ms broken

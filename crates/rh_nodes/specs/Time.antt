-- the line that says the moment (profile)
use Rattle.std.specs.Prelude.{ℕ, zero, suc, Bool, true, false, nat_le, if◌then◌else◌, length}
use Rattle.rh_record.specs.declared.answer.Who.TheVariants as who
use Rattle.rh_company.specs.declared.event.Event.{Event}
use Rattle.rh_company.specs.declared.event.Event.TheVariants.{Passes}
use Rattle.rh_company.specs.Company.{Rulebook}
use Rattle.rh_nodes.specs.World.{World, tell}

-- something is done for each number below one, the lower first
abbrev pub for_each : {W : Type 0} → ℕ → (ℕ → W → W) → W → W
for_each zero act w = w
for_each (suc n) act w = act n (for_each n act w)

-- the proxies are told something, the lower number first
abbrev pub tick_ins : {K C S I O : Type 0} → Rulebook C S I O → Event → World K C S I O
    → World K C S I O
tick_ins r event w =
    for_each (length w.company.ins) (λ number world. tell r world (who.In number) event) w

abbrev pub tick_outs : {K C S I O : Type 0} → Rulebook C S I O → Event → World K C S I O
    → World K C S I O
tick_outs r event w =
    for_each (length w.company.outs) (λ number world. tell r world (who.Out number) event) w

-- all nodes are told: the client, the server, the in proxies and the out proxies
abbrev pub tick_all : {K C S I O : Type 0} → Rulebook C S I O → Event → World K C S I O
    → World K C S I O
tick_all r event w =
    tick_outs r event
    (tick_ins r event (tell r (tell r w who.Client event) who.Server event))

abbrev pub at_moment : {K C S I O : Type 0} → ℕ → World K C S I O → World K C S I O
at_moment now w = record w { now = now }

-- a moment below the last one is refused
abbrev pub tick : {K C S I O : Type 0} → Rulebook C S I O → World K C S I O → ℕ
    → World K C S I O × Bool
tick r w now =
    if nat_le w.now now then (tick_all r (Passes now) (at_moment now w), true) else (w, false)

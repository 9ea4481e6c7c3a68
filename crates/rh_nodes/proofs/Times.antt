-- what is done for each number
use Rattle.std.proofs.Common.{◌≡◌, ℕ, zero, suc, ◌+◌, ◌<◌, ◌≤◌, true, false, if◌then◌else◌, refl, sym, ap, ◌∙◌, arith, add-one}
use Rattle.std.proofs.lemmas.Bool.{le-leb}
use Rattle.rh_record.specs.declared.answer.Who.TheVariants as who
use Rattle.rh_company.specs.declared.event.Event.{Event}
use Rattle.rh_company.specs.declared.event.Event.TheVariants.{Passes}
use Rattle.rh_company.specs.Company.{Rulebook}
use Rattle.rh_nodes.specs.World.{World, tell}
use Rattle.rh_nodes.specs.Time.{for_each, at_moment, tick, tick_all, tick_ins, tick_outs}

pub for_each_more : {W : Type 0} (n : ℕ) (act : ℕ → W → W) (w : W)
    → for_each (n + 1) act w ≡ act n (for_each n act w)
for_each_more n act w = ap (λ m. for_each m act w) (add-one n)

-- nothing happens at the numbers below one
pub for_each_idle : {W : Type 0} (n : ℕ) (act : ℕ → W → W) (w : W)
    → ((k : ℕ) → k < n → act k w ≡ w) → for_each n act w ≡ w
for_each_idle zero act w idle = refl
for_each_idle (suc n) act w idle =
    ap (act n) (for_each_idle n act w (λ k below. idle k (omega arith))) ∙ idle n (omega arith)

-- one kind of node after the other was told
pub all_told : {K C S I O : Type 0} (r : Rulebook C S I O) (event : Event)
    (w a b c d : World K C S I O)
    → a ≡ tell r w who.Client event → b ≡ tell r a who.Server event
    → c ≡ tick_ins r event b → d ≡ tick_outs r event c → d ≡ tick_all r event w
all_told r event w a b c d first second third fourth =
    fourth ∙ ap (tick_outs r event) (third ∙ ap (tick_ins r event)
    (second ∙ ap (λ v. tell r v who.Server event) first))

-- a moment that isn't below the last one is told
pub ticked : {K C S I O : Type 0} (r : Rulebook C S I O) (w next : World K C S I O) (now : ℕ)
    → w.now ≤ now → next ≡ tick_all r (Passes now) (at_moment now w)
    → (next, true) ≡ tick r w now
ticked r w next now later is =
    ap (λ v. (v, true)) is
    ∙ sym (ap (λ b. if b then (tick_all r (Passes now) (at_moment now w), true) else (w, false))
    (le-leb w.now now later))

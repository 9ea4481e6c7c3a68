-- the first words of lines
use Rattle.std.specs.Prelude.{ℕ, List, codes}
use Rattle.rh_script.specs.declared.step.Part.TheVariants as parts
use Rattle.rh_script.specs.declared.step.Act.TheVariants as acts
use Rattle.rh_script.specs.declared.step.Step.{Step}
use Rattle.rh_script.specs.declared.step.Step.TheVariants.{Begin, Act}
use Rattle.rh_script.specs.declared.verb.Verb.{Verb}
use Rattle.rh_script.specs.declared.verb.Verb.TheVariants as verbs
use Rattle.rh_script.specs.declared.verb.Lone.{Lone}
use Rattle.rh_script.specs.declared.verb.Lone.TheVariants as lone

-- the word for a verb
abbrev pub verb_word : Verb → List ℕ
verb_word verbs.Case = codes "case"
verb_word verbs.Set = codes "set"
verb_word verbs.Names = codes "names"
verb_word verbs.InProxy = codes "inproxy"
verb_word verbs.OutProxy = codes "outproxy"
verb_word verbs.Wants = codes "wants"
verb_word verbs.May = codes "may"
verb_word verbs.Finished = codes "finished"
verb_word verbs.Up = codes "up"
verb_word verbs.Feed = codes "feed"
verb_word verbs.Each = codes "each"
verb_word verbs.Draw = codes "draw"
verb_word verbs.Ended = codes "ended"
verb_word verbs.Broken = codes "broken"
verb_word verbs.Tick = codes "tick"
verb_word verbs.Give = codes "give"
verb_word verbs.First = codes "first"

-- the one word of a line
abbrev pub lone_word : Lone → List ℕ
lone_word lone.Client = codes "client"
lone_word lone.Server = codes "server"
lone_word lone.Take = codes "take"
lone_word lone.Close = codes "close"
lone_word lone.Recycle = codes "recycle"
lone_word lone.State = codes "state"
lone_word lone.Channels = codes "channels"
lone_word lone.Target = codes "target"

-- the line that is this word
abbrev pub lone_step : Lone → Step
lone_step lone.Client = Begin parts.Client
lone_step lone.Server = Begin parts.Server
lone_step lone.Take = Act acts.Take
lone_step lone.Close = Act acts.Close
lone_step lone.Recycle = Act acts.Recycle
lone_step lone.State = Act acts.State
lone_step lone.Channels = Act acts.Channels
lone_step lone.Target = Act acts.Target

-- the words of lines that have several forms
use Rattle.std.specs.Prelude.{ℕ, List, codes}
use Rattle.rh_script.specs.declared.step.Act.{Act}
use Rattle.rh_script.specs.declared.step.Act.TheVariants.{Take, Close, Recycle, State, Channels, Target}
use Rattle.rh_script.specs.declared.step.Ask.{Ask}
use Rattle.rh_script.specs.declared.step.Ask.TheVariants.{Wants, May, Finished}
use Rattle.rh_script.specs.declared.step.Cut.{Cut}
use Rattle.rh_script.specs.declared.step.Cut.TheVariants.{Whole, Each}
use Rattle.rh_script.specs.declared.step.Loss.{Loss}
use Rattle.rh_script.specs.declared.step.Loss.TheVariants.{Ended, Broken}
use Rattle.rh_script.specs.declared.step.Naming.{Naming}
use Rattle.rh_script.specs.declared.step.Naming.TheVariants.{On, Off}

-- the word for what is asked of a leg
abbrev pub ask_word : Ask → List ℕ
ask_word Wants = codes "wants"
ask_word May = codes "may"
ask_word Finished = codes "finished"

-- the word for how bytes come
abbrev pub cut_word : Cut → List ℕ
cut_word Whole = codes "feed"
cut_word Each = codes "each"

-- the word for how a leg is lost
abbrev pub loss_word : Loss → List ℕ
loss_word Ended = codes "ended"
loss_word Broken = codes "broken"

-- the word for whether packets are named
abbrev pub naming_word : Naming → List ℕ
naming_word On = codes "on"
naming_word Off = codes "off"

-- the word for what is done or asked with no more words
abbrev pub act_word : Act → List ℕ
act_word Take = codes "take"
act_word Close = codes "close"
act_word Recycle = codes "recycle"
act_word State = codes "state"
act_word Channels = codes "channels"
act_word Target = codes "target"

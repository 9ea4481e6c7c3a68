-- the first words of lines
use Rattle.std.specs.Prelude.{ℕ, List, codes}
use Rattle.rh_record.specs.declared.verb.Verb.{Verb}
use Rattle.rh_record.specs.declared.verb.Verb.TheVariants.{Rh, Set, Give, Take, Close, Send, Move, Open, Break, End, Tick, Recycle, Settle}

-- the word for a verb
abbrev pub verb_word : Verb → List ℕ
verb_word Rh = codes "rh"
verb_word Set = codes "set"
verb_word Give = codes "give"
verb_word Take = codes "take"
verb_word Close = codes "close"
verb_word Send = codes "send"
verb_word Move = codes "move"
verb_word Open = codes "open"
verb_word Break = codes "break"
verb_word End = codes "end"
verb_word Tick = codes "tick"
verb_word Recycle = codes "recycle"
verb_word Settle = codes "settle"

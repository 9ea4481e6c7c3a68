-- the tables of words: a word that is none of a table is none at all
use Rattle.std.proofs.Common.{◌≡◌, ℕ, ◌<◌, ◌≤◌, List, get_or, arith}
use Rattle.rh_record.specs.declared.keys.TheConstants.{KEYS}
use Rattle.rh_record.specs.declared.line.Key.{Key}
use Rattle.rh_record.specs.declared.line.Key.TheVariants.{Cwin, Iwin, Owin, Swin, Ilife, Olife, Itime, Otime, Keep, Same}
use Rattle.rh_record.specs.declared.verb.TheConstants.{VERBS}
use Rattle.rh_record.specs.declared.verb.Verb.{Verb}
use Rattle.rh_record.specs.declared.verb.Verb.TheVariants.{Rh, Set, Give, Take, Close, Send, Move, Open, Break, End, Tick, Recycle, Settle}
use Rattle.rh_record.specs.Verbs.{verb_word}
use Rattle.rh_record.specs.Words.{key_word}

-- none of the first verbs is the word
abbrev pub MissesVerbs : ℕ → List ℕ → Type 0
MissesVerbs count word = (k : ℕ) → k < count → ¬ (word ≡ verb_word (get_or VERBS k Move))

pub no_verb : (word : List ℕ) (count : ℕ) → 13 ≤ count → MissesVerbs count word → (verb : Verb)
    → ¬ (word ≡ verb_word verb)
no_verb word count all h Move = h 0 (omega arith)
no_verb word count all h Send = h 1 (omega arith)
no_verb word count all h Take = h 2 (omega arith)
no_verb word count all h Give = h 3 (omega arith)
no_verb word count all h Rh = h 4 (omega arith)
no_verb word count all h Set = h 5 (omega arith)
no_verb word count all h Close = h 6 (omega arith)
no_verb word count all h Open = h 7 (omega arith)
no_verb word count all h Break = h 8 (omega arith)
no_verb word count all h End = h 9 (omega arith)
no_verb word count all h Tick = h 10 (omega arith)
no_verb word count all h Recycle = h 11 (omega arith)
no_verb word count all h Settle = h 12 (omega arith)

-- none of the first keys is the word
abbrev pub MissesKeys : ℕ → List ℕ → Type 0
MissesKeys count word = (k : ℕ) → k < count → ¬ (word ≡ key_word (get_or KEYS k Cwin))

pub no_key : (word : List ℕ) (count : ℕ) → 10 ≤ count → MissesKeys count word → (key : Key)
    → ¬ (word ≡ key_word key)
no_key word count all h Cwin = h 0 (omega arith)
no_key word count all h Iwin = h 1 (omega arith)
no_key word count all h Owin = h 2 (omega arith)
no_key word count all h Swin = h 3 (omega arith)
no_key word count all h Ilife = h 4 (omega arith)
no_key word count all h Olife = h 5 (omega arith)
no_key word count all h Itime = h 6 (omega arith)
no_key word count all h Otime = h 7 (omega arith)
no_key word count all h Keep = h 8 (omega arith)
no_key word count all h Same = h 9 (omega arith)

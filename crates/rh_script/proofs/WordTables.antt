-- the tables of first words: a word that is none of a table is none at all
use Rattle.std.proofs.Common.{◌≡◌, ℕ, ◌<◌, ◌≤◌, List, get_or, arith}
use Rattle.rh_script.specs.declared.verb.TheConstants.{VERBS, LONES}
use Rattle.rh_script.specs.declared.verb.Lone.{Lone}
use Rattle.rh_script.specs.declared.verb.Lone.TheVariants as lone
use Rattle.rh_script.specs.declared.verb.Verb.{Verb}
use Rattle.rh_script.specs.declared.verb.Verb.TheVariants as verbs
use Rattle.rh_script.specs.Verbs.{verb_word, lone_word}

-- none of the first of these is the word
abbrev pub MissesVerbs : ℕ → List ℕ → Type 0
MissesVerbs count word = (k : ℕ) → k < count → ¬ (word ≡ verb_word (get_or VERBS k verbs.Case))

pub no_verb : (word : List ℕ) (count : ℕ) → 17 ≤ count → MissesVerbs count word → (verb : Verb)
    → ¬ (word ≡ verb_word verb)
no_verb word count all h verbs.Case = h 0 (omega arith)
no_verb word count all h verbs.Set = h 1 (omega arith)
no_verb word count all h verbs.Names = h 2 (omega arith)
no_verb word count all h verbs.InProxy = h 3 (omega arith)
no_verb word count all h verbs.OutProxy = h 4 (omega arith)
no_verb word count all h verbs.Wants = h 5 (omega arith)
no_verb word count all h verbs.May = h 6 (omega arith)
no_verb word count all h verbs.Finished = h 7 (omega arith)
no_verb word count all h verbs.Up = h 8 (omega arith)
no_verb word count all h verbs.Feed = h 9 (omega arith)
no_verb word count all h verbs.Each = h 10 (omega arith)
no_verb word count all h verbs.Draw = h 11 (omega arith)
no_verb word count all h verbs.Ended = h 12 (omega arith)
no_verb word count all h verbs.Broken = h 13 (omega arith)
no_verb word count all h verbs.Tick = h 14 (omega arith)
no_verb word count all h verbs.Give = h 15 (omega arith)
no_verb word count all h verbs.First = h 16 (omega arith)

-- none of the first of these is the word
abbrev pub MissesLones : ℕ → List ℕ → Type 0
MissesLones count word = (k : ℕ) → k < count → ¬ (word ≡ lone_word (get_or LONES k lone.Client))

pub no_lone : (word : List ℕ) (count : ℕ) → 8 ≤ count → MissesLones count word → (line : Lone)
    → ¬ (word ≡ lone_word line)
no_lone word count all h lone.Client = h 0 (omega arith)
no_lone word count all h lone.Server = h 1 (omega arith)
no_lone word count all h lone.Take = h 2 (omega arith)
no_lone word count all h lone.Close = h 3 (omega arith)
no_lone word count all h lone.Recycle = h 4 (omega arith)
no_lone word count all h lone.State = h 5 (omega arith)
no_lone word count all h lone.Channels = h 6 (omega arith)
no_lone word count all h lone.Target = h 7 (omega arith)

-- what makes no line: words behind a verb that are none of its own
use Rattle.std.proofs.Common.{◌≡◌, ◌∙◌, ◌≤◌, ℕ, List, ◌∷◌, ◌++◌, codes, length, take, Some, None, Ok, Err, IfOk, refl, sym, ap, subst, arith, length-take-le}
use Rattle.std.specs.Prelude.{IsAscii}
use Rattle.std.specs.declared.option.Option.{Option}
use Rattle.std.specs.declared.result.Result.{Result}
use Rattle.rh_text.specs.Digits.{IsHex}
use Rattle.rh_rts.specs.declared.command.Cookie.{Cookie}
use Rattle.rh_rts.specs.declared.command.TheConstants.{COOKIE_LEN}
use Rattle.rh_line.specs.declared.leg.Leg.{Leg}
use Rattle.rh_record.specs.declared.line.Key.{Key}
use Rattle.rh_record.specs.declared.words.TheConstants.{BLANK}
use Rattle.rh_record.specs.Words.{Cut, Is, Then, Word, IsCount, IsLeg, IsMoment, IsValue, key_word}
use Rattle.rh_record.specs.WordLaws.{behind, one_hex}
use Rattle.rh_script.specs.declared.step.Part.TheVariants.{Client, Server, InProxy, OutProxy}
use Rattle.rh_script.specs.declared.step.Ask.{Ask as Asked}
use Rattle.rh_script.specs.declared.step.Ask.TheVariants as asks
use Rattle.rh_script.specs.declared.step.Cut.{Cut as Coming}
use Rattle.rh_script.specs.declared.step.Cut.TheVariants as comings
use Rattle.rh_script.specs.declared.step.Loss.{Loss}
use Rattle.rh_script.specs.declared.step.Loss.TheVariants as losses
use Rattle.rh_script.specs.declared.step.Naming.{Naming}
use Rattle.rh_script.specs.declared.step.Act.TheVariants as acts
use Rattle.rh_script.specs.declared.step.Step.{Step}
use Rattle.rh_script.specs.declared.step.Step.TheVariants.{Note, Case, Set, Names, Begin, Ask, Up, Feed, Draw, Lose, Tick, Give, Act, First}
use Rattle.rh_script.specs.declared.verb.Verb.{Verb}
use Rattle.rh_script.specs.declared.verb.Verb.TheVariants as verbs
use Rattle.rh_script.specs.declared.verb.Lone.{Lone}
use Rattle.rh_script.specs.declared.verb.Lone.TheVariants as lone
use Rattle.rh_script.specs.Steps.{ask_word, cut_word, loss_word, naming_word}
use Rattle.rh_script.specs.Scripts.{StepText, IsBytes, IsChannel, IsCookie, IsNote, IsUp}
use Rattle.rh_script.specs.Verbs.{verb_word, lone_word, lone_step}
use Rattle.rh_script.specs.declared.reading.StepRefused.{StepRefused}
use Rattle.rh_script.specs.declared.reading.Parsed.{Parsed}
use Rattle.rh_script.specs.declared.reading.Parsed.TheVariants as parsed
use Rattle.rh_script.specs.ParsedSteps.{IsBehind, IsParsed, IsRead, IsWhole}
use Rattle.rh_script.specs.Readings.{kind, kind_of, tag_of, ask_kind, cut_kind, kind_behind, loss_kind, part_behind}

-- a text is cut behind the word that it begins with
cut_of : {Behind : List ℕ → Type 0} {word text : List ℕ} → (h : Word word Behind text)
    → Cut text word h.1
cut_of {text = text} (here, rest, cut, is, h) = subst (λ w. Cut text w rest) is cut

named : {text here word rest : List ℕ} → Cut text here rest → here ≡ word → Cut text word rest
named {text} {here} {word} {rest} cut is = subst (λ w. Cut text w rest) is cut

pub no_set : (rest : List ℕ) → ((key : Key) (value : ℕ) → Word (key_word key) (IsValue key value) rest → ⊥)
    → IsBehind (codes "set") rest None
no_set rest none text cut (Set key value) h = none key value (behind text _ _ cut h).1
no_set rest none text cut step h = absurd (omega (arith, kind_behind step text _ _ cut h))

pub no_names : (rest : List ℕ) → ((naming : Naming) → rest ≡ naming_word naming → ⊥)
    → IsBehind (codes "names") rest None
no_names rest none text cut (Names naming) h = none naming (behind text _ _ cut h).1
no_names rest none text cut step h = absurd (omega (arith, kind_behind step text _ _ cut h))

pub no_in_proxy : (rest : List ℕ) → ((number : ℕ) → IsChannel number rest → ⊥)
    → IsBehind (codes "inproxy") rest None
no_in_proxy rest none text cut (Begin (InProxy number)) h = none number (behind text _ _ cut h).1
no_in_proxy rest none text cut (Begin Client) h =
    absurd (omega (arith, part_behind Client text _ _ cut h))
no_in_proxy rest none text cut (Begin Server) h =
    absurd (omega (arith, part_behind Server text _ _ cut h))
no_in_proxy rest none text cut (Begin (OutProxy number)) h =
    absurd (omega (arith, part_behind (OutProxy number) text _ _ cut h))
no_in_proxy rest none text cut step h = absurd (omega (arith, kind_behind step text _ _ cut h))

pub no_out_proxy : (rest : List ℕ) → ((number : ℕ) → IsChannel number rest → ⊥)
    → IsBehind (codes "outproxy") rest None
no_out_proxy rest none text cut (Begin (OutProxy number)) h = none number (behind text _ _ cut h).1
no_out_proxy rest none text cut (Begin Client) h =
    absurd (omega (arith, part_behind Client text _ _ cut h))
no_out_proxy rest none text cut (Begin Server) h =
    absurd (omega (arith, part_behind Server text _ _ cut h))
no_out_proxy rest none text cut (Begin (InProxy number)) h =
    absurd (omega (arith, part_behind (InProxy number) text _ _ cut h))
no_out_proxy rest none text cut step h = absurd (omega (arith, kind_behind step text _ _ cut h))

pub no_ask : (this : Asked) (rest : List ℕ) → ((leg : Leg) → IsLeg leg rest → ⊥)
    → IsBehind (ask_word this) rest None
no_ask this rest none text cut (Ask ask leg) h = none leg (behind text _ _ cut h).1
no_ask this rest none text cut step h =
    absurd (omega (arith, kind_behind step text _ _ cut h ∙ ask_kind this rest))

pub no_lose : (this : Loss) (rest : List ℕ) → ((leg : Leg) → IsLeg leg rest → ⊥)
    → IsBehind (loss_word this) rest None
no_lose this rest none text cut (Lose loss leg) h = none leg (behind text _ _ cut h).1
no_lose this rest none text cut step h =
    absurd (omega (arith, kind_behind step text _ _ cut h ∙ loss_kind this rest))

pub no_up : (rest : List ℕ) → ((leg : Leg) (cookie : Option Cookie) → IsUp leg cookie rest → ⊥)
    → IsBehind (codes "up") rest None
no_up rest none text cut (Up leg cookie) h = none leg cookie (behind text _ _ cut h).1
no_up rest none text cut step h = absurd (omega (arith, kind_behind step text _ _ cut h))

pub no_feed : (this : Coming) (rest : List ℕ)
    → ((leg : Leg) (last : List ℕ) → Then (IsLeg leg) (Is last) rest → ⊥)
    → IsBehind (cut_word this) rest None
no_feed this rest none text cut (Feed coming leg bytes) h =
    let words = (behind text _ _ cut h).1 in
    none leg words.1 (words.0, words.1, words.2, words.3, refl)
no_feed this rest none text cut step h =
    absurd (omega (arith, kind_behind step text _ _ cut h ∙ cut_kind this rest))

pub no_draw : (rest : List ℕ) → ((leg : Leg) (count : ℕ) → Then (IsLeg leg) (IsCount count) rest → ⊥)
    → IsBehind (codes "draw") rest None
no_draw rest none text cut (Draw leg count) h = none leg count (behind text _ _ cut h).1
no_draw rest none text cut step h = absurd (omega (arith, kind_behind step text _ _ cut h))

pub no_tick : (rest : List ℕ) → ((now : ℕ) → IsMoment now rest → ⊥)
    → IsBehind (codes "tick") rest None
no_tick rest none text cut (Tick now) h = none now (behind text _ _ cut h).1
no_tick rest none text cut step h = absurd (omega (arith, kind_behind step text _ _ cut h))

-- ---- a line that begins with no verb is one word, or a comment

-- the text is a line of one word, or begins with a verb, or is a comment
pub no_line : (text : List ℕ) → (IsNote text → ⊥)
    → ((verb : Verb) (rest : List ℕ) → Cut text (verb_word verb) rest → ⊥)
    → ((this : Lone) → text ≡ lone_word this → ⊥) → IsParsed None text
no_line text note none alone Note h = note h
no_line text note none alone (Case words) h = none verbs.Case h.1 (cut_of h)
no_line text note none alone (Set key value) h = none verbs.Set h.1 (cut_of h)
no_line text note none alone (Names naming) h = none verbs.Names h.1 (cut_of h)
no_line text note none alone (Begin Client) h = alone lone.Client h
no_line text note none alone (Begin Server) h = alone lone.Server h
no_line text note none alone (Begin (InProxy number)) h = none verbs.InProxy h.1 (cut_of h)
no_line text note none alone (Begin (OutProxy number)) h = none verbs.OutProxy h.1 (cut_of h)
no_line text note none alone (Ask asks.Wants leg) h = none verbs.Wants h.1 (cut_of h)
no_line text note none alone (Ask asks.May leg) h = none verbs.May h.1 (cut_of h)
no_line text note none alone (Ask asks.Finished leg) h = none verbs.Finished h.1 (cut_of h)
no_line text note none alone (Up leg cookie) h = none verbs.Up h.1 (cut_of h)
no_line text note none alone (Feed comings.Whole leg bytes) h = none verbs.Feed h.1 (cut_of h)
no_line text note none alone (Feed comings.Each leg bytes) h = none verbs.Each h.1 (cut_of h)
no_line text note none alone (Draw leg count) h = none verbs.Draw h.1 (cut_of h)
no_line text note none alone (Lose losses.Ended leg) h = none verbs.Ended h.1 (cut_of h)
no_line text note none alone (Lose losses.Broken leg) h = none verbs.Broken h.1 (cut_of h)
no_line text note none alone (Tick now) h = none verbs.Tick h.1 (cut_of h)
no_line text note none alone (Give pdu) h = none verbs.Give h.1 (cut_of h)
no_line text note none alone (Act acts.Take) h = alone lone.Take h
no_line text note none alone (Act acts.Close) h = alone lone.Close h
no_line text note none alone (Act acts.Recycle) h = alone lone.Recycle h
no_line text note none alone (Act acts.State) h = alone lone.State h
no_line text note none alone (Act acts.Channels) h = alone lone.Channels h
no_line text note none alone (Act acts.Target) h = alone lone.Target h
no_line text note none alone (First bytes) h = none verbs.First h.1 (cut_of h)

-- a line of one word is spelled by it
pub lone_text : (this : Lone) (text : List ℕ) → text ≡ lone_word this
    → StepText (lone_step this) text
lone_text lone.Client text is = is
lone_text lone.Server text is = is
lone_text lone.Take text is = is
lone_text lone.Close text is = is
lone_text lone.Recycle text is = is
lone_text lone.State text is = is
lone_text lone.Channels text is = is
lone_text lone.Target text is = is

-- ---- lines that are read but for their last words

-- what such a line is, and that its last words are those of any line of the text
pub case_read : (text words : List ℕ) → Word (codes "case") (Is words) text → IsAscii words
    → StepText (Case words) text
case_read text words (word, rest, cut, is, h) ascii =
    (word, rest, cut, is, (h, ascii))

pub case_alone : (text words : List ℕ) (step : Step) → Word (codes "case") (Is words) text
    → StepText step text → IsAscii words
case_alone text words (Case other) (word, rest, cut, is, h) k =
    let there = (behind text _ _ (named cut is) k).1 in
    subst IsAscii (sym there.0 ∙ h) there.1
case_alone text words step (word, rest, cut, is, h) k =
    absurd (omega (arith, kind_behind step text _ _ (named cut is) k))

pub feed_read : (text : List ℕ) (coming : Coming) (leg : Leg) (hex bytes : List ℕ)
    → Word (cut_word coming) (Then (IsLeg leg) (Is hex)) text → IsBytes bytes hex
    → StepText (Feed coming leg bytes) text
feed_read text coming leg hex bytes (word, rest, cut, is, (name, last, later, this, spelled)) h =
    (word, rest, cut, is, (name, last, later, this, subst (IsBytes bytes) (sym spelled) h))

pub feed_alone : (text : List ℕ) (coming : Coming) (leg : Leg) (hex : List ℕ) (step : Step)
    → Word (cut_word coming) (Then (IsLeg leg) (Is hex)) text → StepText step text
    → (bytes : List ℕ) × IsBytes bytes hex
feed_alone text coming leg hex (Feed other far bytes)
    (word, rest, cut, is, (name, last, later, this, spelled)) k =
    let there = (behind text _ _ cut k).1 in
    let bytes_there = (behind rest _ _ later there).1 in
    (bytes, subst (IsBytes bytes) spelled bytes_there)
feed_alone text coming leg hex step (word, rest, cut, is, h) k =
    absurd (omega (arith, kind_behind step text _ _ (named cut is) k ∙ cut_kind coming rest))

pub give_read : (text hex bytes : List ℕ) → Word (codes "give") (Is hex) text → IsBytes bytes hex
    → StepText (Give bytes) text
give_read text hex bytes (word, rest, cut, is, spelled) h =
    (word, rest, cut, is, subst (IsBytes bytes) (sym spelled) h)

pub give_alone : (text hex : List ℕ) (step : Step) → Word (codes "give") (Is hex) text
    → StepText step text → (bytes : List ℕ) × IsBytes bytes hex
give_alone text hex (Give bytes) (word, rest, cut, is, spelled) k =
    (bytes, subst (IsBytes bytes) spelled (behind text _ _ cut k).1)
give_alone text hex step (word, rest, cut, is, h) k =
    absurd (omega (arith, kind_behind step text _ _ (named cut is) k))

pub first_read : (text hex bytes : List ℕ) → Word (codes "first") (Is hex) text → IsBytes bytes hex
    → StepText (First bytes) text
first_read text hex bytes (word, rest, cut, is, spelled) h =
    (word, rest, cut, is, subst (IsBytes bytes) (sym spelled) h)

pub first_alone : (text hex : List ℕ) (step : Step) → Word (codes "first") (Is hex) text
    → StepText step text → (bytes : List ℕ) × IsBytes bytes hex
first_alone text hex (First bytes) (word, rest, cut, is, spelled) k =
    (bytes, subst (IsBytes bytes) spelled (behind text _ _ cut k).1)
first_alone text hex step (word, rest, cut, is, h) k =
    absurd (omega (arith, kind_behind step text _ _ (named cut is) k))

-- ---- a leg that comes up, and its cookie

pub no_up_leg : (text word rest : List ℕ) → Cut text word rest → ((leg : Leg) → IsLeg leg word → ⊥)
    → (leg : Leg) (cookie : Option Cookie) → IsUp leg cookie text → ⊥
no_up_leg text word rest cut none leg None h = h.1 _ _ cut
no_up_leg text word rest cut none leg (Some cookie) h = none leg (behind text _ _ cut h).0

pub no_up_cookie : (text word rest : List ℕ) → Cut text word rest
    → ((cookie : Cookie) → IsCookie cookie rest → ⊥)
    → (leg : Leg) (cookie : Option Cookie) → IsUp leg cookie text → ⊥
no_up_cookie text word rest cut none leg None h = h.1 _ _ cut
no_up_cookie text word rest cut none leg (Some cookie) h = none cookie (behind text _ _ cut h).1

-- hex of fewer bytes is no cookie
pub too_short : (word room : List ℕ) (count : ℕ) → IsHex COOKIE_LEN word (take count room)
    → count ≤ length room → (count ≡ COOKIE_LEN → ⊥) → (cookie : Cookie) → IsCookie cookie word → ⊥
too_short word room count hex within other cookie h =
    other (sym (length-take-le count room within)
    ∙ ap length (one_hex COOKIE_LEN word (take count room) cookie.0 hex h.0) ∙ h.1)

-- ---- lines with their last words

-- the text is a line exactly where its last words are some that it may have
pub line_of : (this : Parsed) (text : List ℕ) → IsParsed (Some this) text → IsWhole this
    → (step : Step) × StepText step text
line_of (parsed.Plain step) text h whole = (step, h)
line_of (parsed.Case words) text h whole = (Case words.now, case_read text words.now h whole)
line_of (parsed.Feed coming leg hex) text h (bytes, read) =
    (Feed coming leg bytes, feed_read text coming leg hex.now bytes h read)
line_of (parsed.Give hex) text h (bytes, read) = (Give bytes, give_read text hex.now bytes h read)
line_of (parsed.First hex) text h (bytes, read) = (First bytes, first_read text hex.now bytes h read)

pub whole_of : (this : Parsed) (text : List ℕ) (step : Step) → IsParsed (Some this) text
    → StepText step text → IsWhole this
whole_of (parsed.Plain line) text step h k = tt
whole_of (parsed.Case words) text step h k = case_alone text words.now step h k
whole_of (parsed.Feed coming leg hex) text step h k = feed_alone text coming leg hex.now step h k
whole_of (parsed.Give hex) text step h k = give_alone text hex.now step h k
whole_of (parsed.First hex) text step h k = first_alone text hex.now step h k

pub read_of : (this : Parsed) (text : List ℕ) (step : Step) → IsParsed (Some this) text
    → IsRead this step → StepText step text
read_of (parsed.Plain line) text step h is = subst (λ s. StepText s text) (sym is) h
read_of (parsed.Case words) text step h (is, ascii) =
    subst (λ s. StepText s text) (sym is) (case_read text words.now h ascii)
read_of (parsed.Feed coming leg hex) text step h (bytes, is, read) =
    subst (λ s. StepText s text) (sym is) (feed_read text coming leg hex.now bytes h read)
read_of (parsed.Give hex) text step h (bytes, is, read) =
    subst (λ s. StepText s text) (sym is) (give_read text hex.now bytes h read)
read_of (parsed.First hex) text step h (bytes, is, read) =
    subst (λ s. StepText s text) (sym is) (first_read text hex.now bytes h read)

-- what is read so far is read to its end
pub if_read : (this : Parsed) (text : List ℕ) (result : Result Step StepRefused)
    → IsParsed (Some this) text → IfOk result (λ step. IsRead this step)
    → IfOk result (λ step. StepText step text)
if_read this text (Ok step) h read = read_of this text step h read
if_read this text (Err refused) h none = tt

-- a text spells one line at most, and no line is spelled by nothing
use Rattle.std.proofs.Common.{◌≡◌, ◌+◌, ◌*◌, ◌==◌, ◌||◌, ℕ, List, [], ◌∷◌, ◌++◌, get_or, codes, if◌then◌else◌, Some, None, refl, sym, ◌∙◌, ap, subst, arith}
use Rattle.rh_rts.specs.declared.command.Cookie.{Cookie}
use Rattle.rh_rts.specs.declared.command.TheConstants.{COOKIE_LEN}
use Rattle.rh_line.specs.declared.leg.Leg.{Leg}
use Rattle.rh_record.specs.Words.{Cut, Word, most_bytes, most_number}
use Rattle.rh_record.specs.WordLaws.{both, one_hex, one_key, one_leg, one_number}
use Rattle.rh_record.specs.declared.words.TheConstants.{BLANK}
use Rattle.rh_record.specs.declared.reading.TheConstants.{LAST_MOMENT}
use Rattle.rh_script.specs.declared.step.Part.{Part}
use Rattle.rh_script.specs.declared.step.Part.TheVariants.{Client, Server, InProxy, OutProxy}
use Rattle.rh_script.specs.declared.step.Ask.TheVariants.{Wants, May, Finished}
use Rattle.rh_script.specs.declared.step.Ask.{Ask as Asked}
use Rattle.rh_script.specs.declared.step.Cut.TheVariants.{Whole, Each}
use Rattle.rh_script.specs.declared.step.Cut.{Cut as Coming}
use Rattle.rh_script.specs.declared.step.Loss.TheVariants.{Ended, Broken}
use Rattle.rh_script.specs.declared.step.Loss.{Loss}
use Rattle.rh_script.specs.declared.step.Naming.TheVariants.{On, Off}
use Rattle.rh_script.specs.declared.step.Naming.{Naming}
use Rattle.rh_script.specs.declared.step.Act.TheVariants.{Take, Close, Recycle, State, Channels, Target}
use Rattle.rh_script.specs.declared.step.Act.{Act as Acted}
use Rattle.rh_script.specs.declared.step.Step.{Step}
use Rattle.rh_script.specs.declared.step.Step.TheVariants.{Note, Case, Set, Names, Begin, Ask, Up, Feed, Draw, Lose, Tick, Give, Act, First}
use Rattle.rh_script.specs.Steps.{act_word, ask_word, cut_word, loss_word, naming_word}
use Rattle.rh_script.specs.Scripts.{StepText, IsChannel, IsCookie}

-- ---- first words

-- the letters that tell a line: the first of a comment, and the first three of others
abbrev pub letters : List ℕ → ℕ
letters text = get_or text 0 0 * 65536 + get_or text 1 0 * 256 + get_or text 2 0

abbrev pub tag_of : List ℕ → ℕ
tag_of text = if get_or text 0 0 == 35 then 0 else letters text

-- what the letters tell
abbrev pub kind_of : ℕ → ℕ
kind_of tag =
    if tag == 0 then 0 else
    (if tag == 6513011 then 1 else
    (if tag == 7562612 then 2 else
    (if tag == 6515817 || tag == 7562610 || tag == 6909552
    || tag == 7304564 then 3 else
    (if tag == 7823726 || tag == 7168377 || tag == 6711662 then 4 else
    (if tag == 7696416 then 5 else
    (if tag == 6710629 || tag == 6644067 then 6 else
    (if tag == 6582881 then 7 else
    (if tag == 6647396 || tag == 6451823 then 8 else
    (if tag == 7629155 then 9 else
    (if tag == 6777206 then 10 else
    (if tag == 7627115 || tag == 6515823 || tag == 7497059
    || tag == 7566433 || tag == 6514785 || tag == 7627122 then 11 else
    (if tag == 7233901 then 13 else
    12))))))))))))

-- the kind of a line
abbrev pub kind : Step → ℕ
kind Note = 0
kind (Case _) = 1
kind (Set _ _) = 2
kind (Names _) = 13
kind (Begin _) = 3
kind (Ask _ _) = 4
kind (Up _ _) = 5
kind (Feed _ _ _) = 6
kind (Draw _ _) = 7
kind (Lose _ _) = 8
kind (Tick _) = 9
kind (Give _) = 10
kind (Act _) = 11
kind (First _) = 12

-- a text that is a word, or begins with a word and a blank, tells the word's kind
alone : (n : ℕ) (word text : List ℕ) → kind_of (tag_of word) ≡ n → text ≡ word
    → kind_of (tag_of text) ≡ n
alone n word text told is = ap (λ (t : List ℕ). kind_of (tag_of t)) is ∙ told

ahead : {Behind : List ℕ → Type 0} (n : ℕ) (word text : List ℕ)
    → ((rest : List ℕ) → kind_of (tag_of (word ++ BLANK ∷ rest)) ≡ n)
    → Word word Behind text → kind_of (tag_of text) ≡ n
ahead n word text told (here, rest, cut, is, h) =
    ap (λ (t : List ℕ). kind_of (tag_of t)) (subst (λ w. text ≡ w ++ BLANK ∷ rest) is cut.joined)
    ∙ told rest

pub ask_kind : (ask : Asked) (rest : List ℕ) → kind_of (tag_of (ask_word ask ++ BLANK ∷ rest)) ≡ 4
ask_kind Wants rest = refl
ask_kind May rest = refl
ask_kind Finished rest = refl

pub cut_kind : (cut : Coming) (rest : List ℕ) → kind_of (tag_of (cut_word cut ++ BLANK ∷ rest)) ≡ 6
cut_kind Whole rest = refl
cut_kind Each rest = refl

pub loss_kind : (loss : Loss) (rest : List ℕ)
    → kind_of (tag_of (loss_word loss ++ BLANK ∷ rest)) ≡ 8
loss_kind Ended rest = refl
loss_kind Broken rest = refl

act_kind : (act : Acted) → kind_of (tag_of (act_word act)) ≡ 11
act_kind Take = refl
act_kind Close = refl
act_kind Recycle = refl
act_kind State = refl
act_kind Channels = refl
act_kind Target = refl

-- a line is told by its first letters
pub told : (step : Step) (text : List ℕ) → StepText step text → kind_of (tag_of text) ≡ kind step
told Note text (rest, is) = ap (λ (t : List ℕ). kind_of (tag_of t)) is
told (Case words) text h = ahead 1 (codes "case") text (λ rest. refl) h
told (Set key value) text h = ahead 2 (codes "set") text (λ rest. refl) h
told (Names naming) text h = ahead 13 (codes "names") text (λ rest. refl) h
told (Begin Client) text h = alone 3 (codes "client") text refl h
told (Begin Server) text h = alone 3 (codes "server") text refl h
told (Begin (InProxy number)) text h = ahead 3 (codes "inproxy") text (λ rest. refl) h
told (Begin (OutProxy number)) text h = ahead 3 (codes "outproxy") text (λ rest. refl) h
told (Ask ask leg) text h = ahead 4 (ask_word ask) text (ask_kind ask) h
told (Up leg cookie) text h = ahead 5 (codes "up") text (λ rest. refl) h
told (Feed cut leg bytes) text h = ahead 6 (cut_word cut) text (cut_kind cut) h
told (Draw leg count) text h = ahead 7 (codes "draw") text (λ rest. refl) h
told (Lose loss leg) text h = ahead 8 (loss_word loss) text (loss_kind loss) h
told (Tick now) text h = ahead 9 (codes "tick") text (λ rest. refl) h
told (Give pdu) text h = ahead 10 (codes "give") text (λ rest. refl) h
told (Act act) text h = alone 11 (act_word act) text (act_kind act) h
told (First bytes) text h = ahead 12 (codes "first") text (λ rest. refl) h

same_kind : (text : List ℕ) (a b : Step) → StepText a text → StepText b text → kind a ≡ kind b
same_kind text a b h k = sym (told a text h) ∙ told b text k

-- a text that begins with a word and a blank is a line of that word's kind alone
pub kind_behind : (step : Step) (text word rest : List ℕ) → Cut text word rest → StepText step text
    → kind step ≡ kind_of (tag_of (word ++ BLANK ∷ rest))
kind_behind step text word rest cut h =
    sym (told step text h) ∙ ap (λ (t : List ℕ). kind_of (tag_of t)) cut.joined

-- ---- one reading

one_cookie : (word : List ℕ) (a b : Cookie) → IsCookie a word → IsCookie b word → a ≡ b
one_cookie word a b h k =
    ap (λ (bytes : List ℕ). record { 0 = bytes }) (one_hex COOKIE_LEN word a.0 b.0 h.0 k.0)

one_channel : (text : List ℕ) (a b : ℕ) → IsChannel a text → IsChannel b text → a ≡ b
one_channel text a b h k = one_number 1 most_number text a b (omega arith) h k

one_ask : (word : List ℕ) (a b : Asked) → word ≡ ask_word a → word ≡ ask_word b → a ≡ b
one_ask word Wants Wants h k = refl
one_ask word May May h k = refl
one_ask word Finished Finished h k = refl
one_ask word _ _ h k = absurd (omega (arith, ap letters (sym h ∙ k)))

one_coming : (word : List ℕ) (a b : Coming) → word ≡ cut_word a → word ≡ cut_word b → a ≡ b
one_coming word Whole Whole h k = refl
one_coming word Each Each h k = refl
one_coming word _ _ h k = absurd (omega (arith, ap letters (sym h ∙ k)))

one_loss : (word : List ℕ) (a b : Loss) → word ≡ loss_word a → word ≡ loss_word b → a ≡ b
one_loss word Ended Ended h k = refl
one_loss word Broken Broken h k = refl
one_loss word _ _ h k = absurd (omega (arith, ap letters (sym h ∙ k)))

one_naming : (word : List ℕ) (a b : Naming) → word ≡ naming_word a → word ≡ naming_word b → a ≡ b
one_naming word On On h k = refl
one_naming word Off Off h k = refl
one_naming word _ _ h k = absurd (omega (arith, ap letters (sym h ∙ k)))

one_act : (word : List ℕ) (a b : Acted) → word ≡ act_word a → word ≡ act_word b → a ≡ b
one_act word Take Take h k = refl
one_act word Close Close h k = refl
one_act word Recycle Recycle h k = refl
one_act word State State h k = refl
one_act word Channels Channels h k = refl
one_act word Target Target h k = refl
one_act word _ _ h k = absurd (omega (arith, ap letters (sym h ∙ k)))

-- the letters of a text that begins with a word and a blank
letters_ahead : {Behind : List ℕ → Type 0} (n : ℕ) (word text : List ℕ)
    → ((rest : List ℕ) → letters (word ++ BLANK ∷ rest) ≡ n) → Word word Behind text
    → letters text ≡ n
letters_ahead n word text told (here, rest, cut, is, h) =
    ap letters (subst (λ w. text ≡ w ++ BLANK ∷ rest) is cut.joined) ∙ told rest

abbrev pub part_letters : Part → ℕ
part_letters Client = 6515817
part_letters Server = 7562610
part_letters (InProxy _) = 6909552
part_letters (OutProxy _) = 7304564

pub part_told : (part : Part) (text : List ℕ) → StepText (Begin part) text
    → letters text ≡ part_letters part
part_told Client text h = ap letters h
part_told Server text h = ap letters h
part_told (InProxy number) text h =
    letters_ahead 6909552 (codes "inproxy") text (λ rest. refl) h
part_told (OutProxy number) text h =
    letters_ahead 7304564 (codes "outproxy") text (λ rest. refl) h

pub part_behind : (part : Part) (text word rest : List ℕ) → Cut text word rest
    → StepText (Begin part) text → part_letters part ≡ letters (word ++ BLANK ∷ rest)
part_behind part text word rest cut h = sym (part_told part text h) ∙ ap letters cut.joined

one_part : (text : List ℕ) (a b : Part) → StepText (Begin a) text → StepText (Begin b) text
    → a ≡ b
one_part text Client Client h k = refl
one_part text Server Server h k = refl
one_part text (InProxy n) (InProxy m) h k =
    let here = both text h k in ap InProxy (one_channel here.1 n m here.3.0 here.3.1)
one_part text (OutProxy n) (OutProxy m) h k =
    let here = both text h k in ap OutProxy (one_channel here.1 n m here.3.0 here.3.1)
one_part text a b h k = absurd (omega (arith, sym (part_told a text h) ∙ part_told b text k))

-- two lines of one text are the same line
pub one_step : (text : List ℕ) (a b : Step) → StepText a text → StepText b text → a ≡ b
one_step text Note Note h k = refl
one_step text (Case w) (Case v) h k =
    let here = both text h k in ap Case (sym here.3.0.0 ∙ here.3.1.0)
one_step text (Set a v) (Set b w) h k =
    let here = both text h k in
    let later = both here.1 here.3.0 here.3.1 in
    let keys : a ≡ b = one_key later.0 a b later.2.0 later.2.1 in
    let values : v ≡ w = one_number 0 most_number later.1 v w
    (omega arith) later.3.0.spelled later.3.1.spelled in cc
one_step text (Names a) (Names b) h k =
    let here = both text h k in ap Names (one_naming here.1 a b here.3.0 here.3.1)
one_step text (Begin a) (Begin b) h k = ap Begin (one_part text a b h k)
one_step text (Ask a l) (Ask b m) h k =
    let here = both text h k in
    let asks : a ≡ b = one_ask here.0 a b here.2.0 here.2.1 in
    let legs : l ≡ m = one_leg here.1 l m here.3.0 here.3.1 in cc
one_step text (Up l None) (Up m None) h k =
    let here = both text h k in
    let legs : l ≡ m = one_leg here.1 l m here.3.0.0 here.3.1.0 in cc
one_step text (Up l None) (Up m (Some d)) h k =
    let here = both text h k in absurd (here.3.0.1 here.3.1.0 here.3.1.1 here.3.1.2)
one_step text (Up l (Some c)) (Up m None) h k =
    let here = both text h k in absurd (here.3.1.1 here.3.0.0 here.3.0.1 here.3.0.2)
one_step text (Up l (Some c)) (Up m (Some d)) h k =
    let here = both text h k in
    let later = both here.1 here.3.0 here.3.1 in
    let legs : l ≡ m = one_leg later.0 l m later.2.0 later.2.1 in
    let cookies : c ≡ d = one_cookie later.1 c d later.3.0 later.3.1 in cc
one_step text (Feed c l x) (Feed d m y) h k =
    let here = both text h k in
    let later = both here.1 here.3.0 here.3.1 in
    let cuts : c ≡ d = one_coming here.0 c d here.2.0 here.2.1 in
    let legs : l ≡ m = one_leg later.0 l m later.2.0 later.2.1 in
    let bytes : x ≡ y = one_hex most_bytes later.1 x y later.3.0 later.3.1 in cc
one_step text (Draw l n) (Draw m o) h k =
    let here = both text h k in
    let later = both here.1 here.3.0 here.3.1 in
    let legs : l ≡ m = one_leg later.0 l m later.2.0 later.2.1 in
    let counts : n ≡ o = one_number 1 most_bytes later.1 n o (omega arith) later.3.0 later.3.1 in cc
one_step text (Lose a l) (Lose b m) h k =
    let here = both text h k in
    let losses : a ≡ b = one_loss here.0 a b here.2.0 here.2.1 in
    let legs : l ≡ m = one_leg here.1 l m here.3.0 here.3.1 in cc
one_step text (Tick n) (Tick o) h k =
    let here = both text h k in
    ap Tick (one_number 0 LAST_MOMENT here.1 n o (omega arith) here.3.0 here.3.1)
one_step text (Give x) (Give y) h k =
    let here = both text h k in ap Give (one_hex most_bytes here.1 x y here.3.0 here.3.1)
one_step text (Act a) (Act b) h k = ap Act (one_act text a b h k)
one_step text (First x) (First y) h k =
    let here = both text h k in ap First (one_hex most_bytes here.1 x y here.3.0 here.3.1)
one_step text a b h k = absurd (omega (arith, same_kind text a b h k))

-- ---- laws of the grammar

pub one_step_at : (place : Unit {0}) (text : List ℕ) (a b : Step) → StepText a text
    → StepText b text → a ≡ b
one_step_at place text a b h k = one_step text a b h k

-- no line is spelled by nothing
pub no_empty : (place : Unit {0}) (step : Step) → StepText step [] → ⊥
no_empty place Note (rest, is) = (let h = is in cc)
no_empty place step h = absurd (omega (arith, told step [] h))

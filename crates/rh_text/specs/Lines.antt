-- texts of lines, each ended by LF, of which the last may lack it
use Rattle.std.specs.Prelude.{◌≡◌, ◌≢◌, ℕ, ◌+◌, List, [], ◌∷◌, ◌++◌, length, Contains, ◌⊎◌}
use Rattle.rh_text.specs.declared.lines.TheConstants.{LINE_FEED}

-- the text begins with a line without LF, and the rest stands behind its LF, which a last line may
-- lack
pub record BeginsWith (text line rest : List ℕ) : Type 0 where
  pub one : ¬ Contains line LINE_FEED
  pub joined : (text ≡ line ++ LINE_FEED ∷ rest) ⊎ ((text ≡ line) × (rest ≡ []))

-- what lines may be: at each place of a text, which texts are which line; the place behind a line;
-- where a text begins, and where it may end
pub record Rules (Place Line : Type 0) : Type 1 where
  pub Spells : Place → List ℕ → Line → Type 0
  pub next : Place → Line → Place
  pub first : Place
  pub MayEnd : Place → Type 0

-- the first line of the text, which stands at this place, and what stands behind it
pub record FirstLine {P L : Type 0} (rules : Rules P L) (place : P) (text : List ℕ) (line : L)
    (rest : List ℕ) : Type 0 where
  pub spelling : List ℕ
  pub spelled : rules.Spells place spelling line
  pub begins : BeginsWith text spelling rest

-- the text begins with these lines, of which the first stands at this place; the rest stands behind
-- them, at the last place
abbrev pub Leads : {P L : Type 0} → Rules P L → P → List L → List ℕ → P → List ℕ → Type 0
Leads rules place [] text last rest = (text ≡ rest) × (place ≡ last)
Leads rules place (line ∷ lines) text last rest =
    (behind : List ℕ) × FirstLine rules place text line behind
    × Leads rules (rules.next place line) lines behind last rest

-- the text is that of these lines
pub record TextOf {P L : Type 0} (rules : Rules P L) (text : List ℕ) (lines : List L) : Type 0 where
  pub last : P
  pub read : Leads rules rules.first lines text last []
  pub over : rules.MayEnd last

-- the text is that of some lines
abbrev pub IsText : {P L : Type 0} → Rules P L → List ℕ → Type 0
IsText {P} {L} rules text = (lines : List L) × TextOf rules text lines

-- the line with this number, from 1, is the first that is none of its place, or is missing
pub record FirstBad {P L : Type 0} (rules : Rules P L) (text : List ℕ) (number : ℕ) : Type 0 where
  pub before : List L
  pub place : P
  pub rest : List ℕ
  pub read : Leads rules rules.first before text place rest
  pub counted : number ≡ length before + 1
  pub here : (rest ≢ []) ⊎ (¬ rules.MayEnd place)
  pub none : (line : L) (behind : List ℕ) → FirstLine rules place rest line behind → ⊥

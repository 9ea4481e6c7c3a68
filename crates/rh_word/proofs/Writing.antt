-- writing what a text says, line by line
use Rattle.std.proofs.Common.{◌≡◌, ◌≢◌, ℕ, ◌≤◌, List, [], ◌∷◌, ◌++◌, length, refl, sym, ◌∙◌, ap, subst}
use Rattle.std.proofs.Common.{append_assoc}
use Rattle.std.proofs.lemmas.List.{append-nil, nil_from_length}
use Rattle.std.specs.declared.option.Option.{Option}
use Rattle.std.specs.Io.KnownBytes.{Appends}
use Rattle.rh_text.specs.Lines.{BeginsWith, Rules, FirstLine, Leads, IsText}
use Rattle.rh_text.proofs.Texts.{OneLine, NoEmpty, begins_same, first_line, Leads-push, Leads-append, lines_behind}
use Rattle.rh_text.proofs.Texts.{none_left, no_first}
use Rattle.rh_word.specs.Words.{Deeds, Tells, SaysOf, IsBegun}
use Rattle.rh_word.specs.Outputs.{Out, Gathers, Stops}
use Rattle.rh_word.proofs.Gathering.{gathers_all, gathers_more, gathers_on, gathers_sure, stops_on, stops_now, sure_front, all_written}

-- ---- what lines tell

-- lines lead from one state of the word to another, with what they tell
abbrev pub ToldTo : {W L : Type 0} → Deeds W L → W → List L → List ℕ → W → Type 0
ToldTo deeds word [] told end = (told ≡ []) × (word ≡ end)
ToldTo {W} deeds word (line ∷ lines) said end =
    (told : List ℕ) × (more : List ℕ) × (next : W)
    × deeds.Does word line told next × (said ≡ told ++ more) × ToldTo deeds next lines more end

module _ {L W : Type 0} (deeds : Deeds W L) where
  -- one line more
  pub ToldTo-push : (word : W) (lines : List L) (said : List ℕ) (end : W) (line : L) (told : List ℕ)
      (next : W)
      → ToldTo deeds word lines said end → deeds.Does end line told next
      → ToldTo deeds word (lines ++ line ∷ []) (said ++ told) next
  ToldTo-push word [] said end line told next h does = (
    told,
    [],
    next,
    subst (λ w. deeds.Does w line told next) (sym h.1) does,
    ap (λ (x : List ℕ). x ++ told) h.0 ∙ sym (append-nil told),
    (refl, refl),
  )
  ToldTo-push word (first ∷ lines) said end line told next (one, more, then, did, is, rest) does = (
    one,
    more ++ told,
    then,
    did,
    ap (λ (x : List ℕ). x ++ told) is ∙ append_assoc one more told,
    ToldTo-push then lines more end line told next rest does,
  )

  -- and then the other lines
  pub ToldTo-then : (word : W) (lines : List L) (said : List ℕ) (end : W) (others : List L)
      (more : List ℕ)
      → ToldTo deeds word lines said end → Tells deeds end others more
      → Tells deeds word (lines ++ others) (said ++ more)
  ToldTo-then word [] said end others more h k =
      subst (λ w. Tells deeds w others (said ++ more)) (sym h.1)
      (subst (λ (x : List ℕ). Tells deeds end others (x ++ more)) (sym h.0) k)
  ToldTo-then word (first ∷ lines) said end others more (one, behind, next, did, is, rest) k = (
    one,
    behind ++ more,
    next,
    did,
    ap (λ (x : List ℕ). x ++ more) is ∙ append_assoc one behind more,
    ToldTo-then next lines behind end others more rest k,
  )

-- a line can be done at any time, and there can be an end at any time
abbrev pub GoesOn : {P L W : Type 0} → Rules P L → Deeds W L → Type 0
GoesOn {P} {L} {W} rules deeds =
    (word : W) (place : P) (text : List ℕ) (line : L) → rules.Spells place text line
    → (told : List ℕ) × (next : W) × deeds.Does word line told next

abbrev pub ComesToEnd : {L W : Type 0} → Deeds W L → Type 0
ComesToEnd {L} {W} deeds = (word : W) → (told : List ℕ) × deeds.Ends word told

-- so lines that are read tell something
tells_ahead : {P L W : Type 0} (rules : Rules P L) (deeds : Deeds W L) → GoesOn rules deeds
    → ComesToEnd deeds
    → (place : P) (lines : List L) (text : List ℕ) (last : P) (word : W)
    → Leads rules place lines text last []
    → (written : List ℕ) × Tells deeds word lines written
tells_ahead rules deeds goes ends place [] text last word h = ends word
tells_ahead rules deeds goes ends place (line ∷ lines) text last word (behind, first, rest) =
    let (told, next, did) = goes word place first.spelling line first.spelled in
    let later = tells_ahead rules deeds goes ends (rules.next place line) lines behind last next
    rest in
    (told ++ later.0, (told, later.0, next, did, refl, later.1))

-- ---- what was written so far

-- the lines done and those left, and what those done tell: written, or gathered
pub record Writing {P L W : Type 0} (rules : Rules P L) (deeds : Deeds W L) (text : List ℕ)
    (place : P)
    (rest : List ℕ) (word : W) (gathered : List ℕ) (before now : Out) : Type 0 where
  pub done : List L
  pub read : Leads rules rules.first done text place rest
  pub ahead : List L
  pub last : P
  pub left : Leads rules place ahead rest last []
  pub over : rules.MayEnd last
  pub start : W
  pub starts : deeds.Starts start
  pub said : List ℕ
  pub told : ToldTo deeds start done said word
  pub gathers : Gathers said gathered before now

-- all lines are done, and all that they tell is written, or gathered
pub record Whole {P L W : Type 0} (rules : Rules P L) (deeds : Deeds W L) (text gathered : List ℕ)
    (before now : Out) : Type 0 where
  pub said : List ℕ
  pub says : SaysOf rules deeds text said
  pub gathers : Gathers said gathered before now

module _ {P L W : Type 0} (rules : Rules P L) (deeds : Deeds W L) (text : List ℕ) where
  pub writing_first : (word : W) (out : Out) → IsText rules text → deeds.Starts word
      → Writing rules deeds text rules.first text word [] out out
  writing_first word out (lines, is) starts = record {
    done = [];
    read = (refl, refl);
    ahead = lines;
    last = is.last;
    left = is.read;
    over = is.over;
    start = word;
    starts = starts;
    said = [];
    told = (refl, refl);
    gathers = gathers_all [] out;
  }

  -- where something is left, the line that stands there is one
  spelled_ahead : (place : P) (ahead : List L) (rest : List ℕ) (last : P) (line behind : List ℕ)
      → Leads rules place ahead rest last [] → rest ≢ [] → BeginsWith rest line behind
      → (l : L) × rules.Spells place line l
  spelled_ahead place [] rest last line behind h some begins = absurd (some h.0)
  spelled_ahead place (l ∷ ahead) rest last line behind (more, first, left) some begins =
      let same = (begins_same rest first.spelling line more behind first.begins begins).0 in
      (l, subst (λ x. rules.Spells place x l) same first.spelled)

  pub line_ahead : (place : P) (rest : List ℕ) (word : W) (gathered : List ℕ) (before now : Out)
      (line behind : List ℕ) → rest ≢ [] → BeginsWith rest line behind
      → Writing rules deeds text place rest word gathered before now
      → (l : L) × rules.Spells place line l
  line_ahead place rest word gathered before now line behind some begins h =
      spelled_ahead place h.ahead rest h.last line behind h.left some begins

  -- behind it stand the others
  others_ahead : OneLine rules → NoEmpty rules → (place : P) (ahead : List L) (rest : List ℕ)
      (last : P) (l : L)
      (behind : List ℕ) → Leads rules place ahead rest last [] → FirstLine rules place rest l behind
      → (others : List L) × Leads rules (rules.next place l) others behind last []
  others_ahead one some place [] rest last l behind h first =
      absurd (no_first rules some place l behind
      (subst (λ t. FirstLine rules place t l behind) h.0 first))
  others_ahead one some place (a ∷ ahead) rest last l behind h first =
      (ahead, (lines_behind rules one some place a ahead rest last l behind h first).1)

  -- one line is done, if what it tells were gathered
  pub writing_line : OneLine rules → NoEmpty rules
      → {place : P} {rest : List ℕ} {word : W} {gathered : List ℕ}
      {before now : Out} {line behind : List ℕ} (next : W) (l : L) (told : List ℕ)
      → BeginsWith rest line behind
      → rules.Spells place line l → deeds.Does word l told next
      → Writing rules deeds text place rest word gathered before now
      → Writing rules deeds text (rules.next place l) behind next (gathered ++ told) before now
  writing_line one some {place} {rest} {word} {gathered} {before} {now} {line} {behind} next l told
      begins is did h =
      let first = first_line rules place rest line behind l begins is in
      let ahead = others_ahead one some place h.ahead rest h.last l behind h.left first in
      record {
        done = h.done ++ l ∷ [];
        read = Leads-push rules rules.first h.done text place rest l behind h.read first;
        ahead = ahead.0;
        last = h.last;
        left = ahead.1;
        over = h.over;
        start = h.start;
        starts = h.starts;
        said = h.said ++ told;
        told = ToldTo-push deeds h.start h.done h.said word l told next h.told did;
        gathers = gathers_more told h.gathers;
      }

  -- a front of what was gathered is written
  pub writing_on : {place : P} {rest : List ℕ} {word : W} {gathered left : List ℕ}
      {before now later : Out} → Gathers gathered left now later
      → Writing rules deeds text place rest word gathered before now
      → Writing rules deeds text place rest word left before later
  writing_on {place} {rest} {word} {gathered} {left} {before} {now} {later} wrote h = record {
    done = h.done;
    read = h.read;
    ahead = h.ahead;
    last = h.last;
    left = h.left;
    over = h.over;
    start = h.start;
    starts = h.starts;
    said = h.said;
    told = h.told;
    gathers = gathers_on h.gathers wrote;
  }

  -- what is said so far is a front of an output
  said_begun : GoesOn rules deeds → ComesToEnd deeds → (place : P) (rest : List ℕ) (word : W)
      (gathered : List ℕ) (before now : Out)
      → (h : Writing rules deeds text place rest word gathered before now)
      → (behind : List ℕ) × SaysOf rules deeds text (h.said ++ behind)
  said_begun goes ends place rest word gathered before now h =
      let later = tells_ahead rules deeds goes ends place h.ahead rest h.last word h.left in (
        later.0,
        record {
          lines = h.done ++ h.ahead;
          is_text = record {
            last = h.last;
            read = Leads-append rules rules.first h.done h.ahead text place h.last rest [] h.read
                h.left;
            over = h.over;
          };
          word = h.start;
          starts = h.starts;
          tells = ToldTo-then deeds h.start h.done h.said word h.ahead later.0 h.told later.1;
        },
      )

  -- what was written is a front of an output, where a front of what was gathered went too
  pub writing_stops : GoesOn rules deeds → ComesToEnd deeds
      → {place : P} {rest : List ℕ} {word : W} {gathered : List ℕ} {before now : Out}
      {later : Option (List ℕ)} → Stops gathered now.known later
      → Writing rules deeds text place rest word gathered before now
      → (written : List ℕ) × Appends before.known later written
      × IsBegun (SaysOf rules deeds) text written
  writing_stops goes ends {place} {rest} {word} {gathered} {before} {now} {later} wrote h =
      let (behind, says) = said_begun goes ends place rest word gathered before now h in
      let went = stops_on h.gathers wrote in
      let whole : h.said ++ behind ≡ went.written ++ (went.behind ++ behind) =
      ap (λ (x : List ℕ). x ++ behind) went.text_is
      ∙ append_assoc went.written went.behind behind in (
        went.written,
        went.wrote,
        (went.behind ++ behind, subst (SaysOf rules deeds text) whole says),
      )

  -- nothing more went
  pub writing_so_far : GoesOn rules deeds → ComesToEnd deeds
      → {place : P} {rest : List ℕ} {word : W} {gathered : List ℕ} {before now : Out}
      → Writing rules deeds text place rest word gathered before now
      → (written : List ℕ) × Appends before.known now.known written
      × IsBegun (SaysOf rules deeds) text written
  writing_so_far goes ends {place} {rest} {word} {gathered} {before} {now} h =
      writing_stops goes ends (stops_now gathered now) h

  -- an output that takes every output of the text takes what is gathered
  pub writing_sure : GoesOn rules deeds → ComesToEnd deeds
      → {place : P} {rest : List ℕ} {word : W} {gathered : List ℕ} {before now : Out}
      → ((whole : List ℕ) → SaysOf rules deeds text whole → length whole ≤ before.takes)
      → Writing rules deeds text place rest word gathered before now → length gathered ≤ now.takes
  writing_sure goes ends {place} {rest} {word} {gathered} {before} {now} all h =
      let (behind, says) = said_begun goes ends place rest word gathered before now h in
      sure_front gathered behind now.takes
      (gathers_sure behind h.gathers (all (h.said ++ behind) says))

  -- the lines are all done
  pub writing_whole : OneLine rules → NoEmpty rules
      → {place : P} {rest : List ℕ} {word : W} {gathered : List ℕ} {before now : Out}
      (told more : List ℕ) → length rest ≡ 0 → deeds.Ends word told
      → more ≡ gathered ++ told → Writing rules deeds text place rest word gathered before now
      → Whole rules deeds text more before now
  writing_whole one some {place} {rest} {word} {gathered} {before} {now} told more none did more_is
      h =
      let empty = nil_from_length rest none in
      let left = subst (λ r. Leads rules place h.ahead r h.last []) empty h.left in
      let over = none_left rules one some place h.ahead h.last left in
      rw more_is (record {
        said = h.said ++ told;
        says = record {
          lines = h.done;
          is_text = record {
            last = place;
            read = subst (λ r. Leads rules rules.first h.done text place r) empty h.read;
            over = subst (λ p. rules.MayEnd p) (sym over.1) h.over;
          };
          word = h.start;
          starts = h.starts;
          tells = subst (λ ls. Tells deeds h.start ls (h.said ++ told)) (append-nil h.done)
              (ToldTo-then deeds h.start h.done h.said word [] told h.told did);
        };
        gathers = gathers_more told h.gathers;
      })

  pub whole_all : {gathered left : List ℕ} {before now later : Out}
      → Gathers gathered left now later → left ≡ [] → Whole rules deeds text gathered before now
      → (written : List ℕ) × Appends before.known later.known written
      × SaysOf rules deeds text written
  whole_all {gathered} {left} {before} {now} {later} wrote none h =
      let went = gathers_on h.gathers wrote in (
        went.written,
        went.took.wrote,
        subst (SaysOf rules deeds text) (all_written none went) h.says,
      )

  -- what was written is a front of an output, where a front of what was gathered went too
  pub whole_stops : {gathered : List ℕ} {before now : Out} {later : Option (List ℕ)}
      → Stops gathered now.known later
      → Whole rules deeds text gathered before now
      → (written : List ℕ) × Appends before.known later written
      × IsBegun (SaysOf rules deeds) text written
  whole_stops {gathered} {before} {now} {later} wrote h =
      let went = stops_on h.gathers wrote in (
        went.written,
        went.wrote,
        (went.behind, subst (SaysOf rules deeds text) went.text_is h.says),
      )

  -- an output that takes every output of the text takes what is gathered
  pub whole_sure : {gathered : List ℕ} {before now : Out}
      → ((whole : List ℕ) → SaysOf rules deeds text whole → length whole ≤ before.takes)
      → Whole rules deeds text gathered before now → length gathered ≤ now.takes
  whole_sure {gathered} {before} {now} all h =
      let fits = subst (λ (x : List ℕ). length x ≤ before.takes) (sym (append-nil h.said))
      (all h.said h.says) in
      sure_front gathered [] now.takes (gathers_sure [] h.gathers fits)

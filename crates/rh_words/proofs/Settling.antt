-- a settling in the midst: what its rounds reported so far is a front of what its line is answered
use Rattle.std.proofs.Common.{◌≡◌, ◌≢◌, ℕ, suc, ◌+◌, ◌-◌, ◌<◌, ◌≤◌, List, [], ◌∷◌, ◌++◌, Ok, true, false, length, refl, sym, ◌∙◌, ap, subst, arith, append_assoc}
use Rattle.std.proofs.lemmas.List.{append-nil}
use Rattle.std.specs.declared.option.Option.{Option}
use Rattle.rh_record.specs.declared.answer.Answer.{Answer}
use Rattle.rh_record.specs.declared.answer.Answer.TheVariants.{Quiet, Spent}
use Rattle.rh_record.specs.declared.line.Line.TheVariants.{Settle}
use Rattle.rh_nodes.specs.Reports.{and_then}
use Rattle.rh_nodes.specs.Settling.{behind_round, rounds_from}
use Rattle.rh_nodes.proofs.Settles.{Settles, settles_first, settles_more, settles_quiet, settles_spent}
use Rattle.rh_teller.specs.Tales.{Tale, told, behind}
use Rattle.rh_teller.proofs.TaleLaws.{told-append, behind-append}
use Rattle.rh_world.specs.declared.any_world.AnyWorld.{AnyWorld}
use Rattle.rh_world.specs.declared.any_world.AnyWorld.TheVariants.{Before, Direct, Settings, Roles}
use Rattle.rh_world.specs.Any.{begun, end_line, given, round, settles, step}
use Rattle.rh_world.proofs.Settling.{settled_by_rounds}
use Rattle.rh_word.specs.Outputs.{Out, Gathers, Stops}
use Rattle.rh_words.proofs.Following.{stops_longer}
use Rattle.rh_word.proofs.Gathering.{gathers_all, gathers_more, gathers_on, gathers_sure, stops_on, sure_front}

-- ---- worlds

-- a world that doesn't settle answers nothing
pub nothing_settled : (world : AnyWorld) (rounds : ℕ) → settles world ≡ false
    → step world (Settle rounds) ≡ (begun world, [])
nothing_settled Before rounds is = refl
nothing_settled (Direct world) rounds is = refl
nothing_settled (Settings config) rounds is = absurd (cc)
nothing_settled (Roles world) rounds is = absurd (cc)

pub nothing_given : (world : AnyWorld) → given (begun world) ≤ given world + 1
nothing_given Before = omega arith
nothing_given (Direct world) = omega arith
nothing_given (Settings config) = omega arith
nothing_given (Roles world) = omega arith

-- a settling counts no PDU as given
pub settled_given : (world : AnyWorld) (rounds : ℕ)
    → given (step world (Settle rounds)).0 ≤ given world + 1
settled_given Before rounds = omega arith
settled_given (Direct world) rounds = omega arith
settled_given (Settings config) rounds = omega arith
settled_given (Roles world) rounds = omega arith

-- ---- rounds

-- so many rounds of a settling were done, and each reported something: the world behind them, and
-- what they reported
abbrev pub IsSettling : (first : AnyWorld) (rounds count : ℕ) (now : AnyWorld)
    (front : List Answer) → Type 0
IsSettling first rounds count now front =
    Settles (rounds_from rounds 0 round (begun first))
    (rounds_from (rounds - count) count round now) [] front

settling_begins : (first : AnyWorld) (rounds : ℕ) → IsSettling first rounds 0 (begun first) []
settling_begins first rounds =
    let all : rounds - 0 ≡ rounds = omega arith in
    subst
    (λ (n : ℕ). Settles (rounds_from rounds 0 round (begun first))
    (rounds_from n 0 round (begun first)) [] [])
    (sym all) (settles_first (rounds_from rounds 0 round (begun first)) [])

-- one round more reported something
settling_goes_on : (first : AnyWorld) (rounds count : ℕ) (now next : AnyWorld)
    (front : List Answer) → count < rounds → ((round now).1 ≢ []) → next ≡ (round now).0
    → IsSettling first rounds count now front
    → IsSettling first rounds (count + 1) next (front ++ (round now).1)
settling_goes_on first rounds count now next front below some moved h =
    let left : rounds - count ≡ suc (rounds - (count + 1)) = omega (arith, below) in
    let (n, long) = by (round now).1 some in
    settles_more (rounds - count) (rounds - (count + 1)) count n round
    (rounds_from rounds 0 round (begun first)) now next [] front (front ++ (round now).1) left moved
    refl long h
  where
    by : (x : List Answer) → x ≢ [] → (n : ℕ) × (length x ≡ suc n)
    by [] some = absurd (some refl)
    by (a ∷ x) some = (length x, refl)

-- the line is over
over : (first : AnyWorld) (rounds : ℕ) (now : AnyWorld) (front : List Answer) (last : Answer)
    → settles first ≡ true
    → rounds_from rounds 0 round (begun first) ≡ (now, front ++ last ∷ [])
    → step first (Settle rounds) ≡ ((end_line now).0, front ++ last ∷ (end_line now).1)
over first rounds now front last is done =
    settled_by_rounds first rounds is
    ∙ ap (λ (did : AnyWorld × List Answer). and_then did end_line) done
    ∙ ap (λ (x : List Answer). ((end_line now).0, x))
    (append_assoc front (last ∷ []) (end_line now).1)

pair : (did : AnyWorld × List Answer) (a : AnyWorld) (b : List Answer) → a ≡ did.0 → b ≡ did.1
    → did ≡ (a, b)
pair did a b e f =
    sym (ap (λ (x : AnyWorld). (x, b)) e ∙ ap (λ (y : List Answer). (did.0, y)) f)

-- a round reported nothing
settling_is_quiet : (first : AnyWorld) (rounds count : ℕ) (now next : AnyWorld)
    (front : List Answer) → settles first ≡ true → count < rounds → (round now).1 ≡ []
    → next ≡ (round now).0 → IsSettling first rounds count now front
    → step first (Settle rounds)
    ≡ ((end_line next).0, front ++ Quiet count ∷ (end_line next).1)
settling_is_quiet first rounds count now next front is below none moved h =
    let left : rounds - count ≡ suc (rounds - (count + 1)) = omega (arith, below) in
    let same : front ≡ front ++ (round now).1 =
    sym (ap (λ (x : List Answer). front ++ x) none ∙ append-nil front) in
    let done = settles_quiet {E = ℕ} (rounds - count) (rounds - (count + 1)) count round
    (rounds_from rounds 0 round (begun first)) now next (Ok tt) [] front front
    (front ++ Quiet count ∷ []) left moved same none h refl in
    over first rounds next front (Quiet count) is
    (pair (rounds_from rounds 0 round (begun first)) next (front ++ Quiet count ∷ []) done.world
    done.report)

-- all rounds were done
settling_is_spent : (first : AnyWorld) (rounds : ℕ) (now : AnyWorld) (front : List Answer)
    → settles first ≡ true → IsSettling first rounds rounds now front
    → step first (Settle rounds) ≡ ((end_line now).0, front ++ Spent rounds ∷ (end_line now).1)
settling_is_spent first rounds now front is h =
    let none : rounds - rounds ≡ 0 = omega arith in
    let done = settles_spent {E = ℕ} rounds (rounds - rounds) round
    (rounds_from rounds 0 round (begun first)) now (Ok tt) [] front (front ++ Spent rounds ∷ []) none
    h refl in
    over first rounds now front (Spent rounds) is
    (pair (rounds_from rounds 0 round (begun first)) now (front ++ Spent rounds ∷ []) done.world
    done.report)

-- the next round is reported first
next_first : (left count : ℕ) (now : AnyWorld)
    → (others : List Answer)
    × ((rounds_from (suc left) count round now).1 ≡ (round now).1 ++ others)
unfolding rounds_from
next_first left count now =
    by (round now) (λ later. rounds_from left (count + 1) round later)
  where
    by : (did : AnyWorld × List Answer) (rest : AnyWorld → AnyWorld × List Answer)
        → (others : List Answer) × ((behind_round count did rest).1 ≡ did.1 ++ others)
    by (w, []) rest = (Quiet count ∷ [], refl)
    by (w, a ∷ more) rest = ((rest w).1, refl)

-- what was reported so far and the next round are a front of what the line is answered
settling_front : (first : AnyWorld) (rounds count : ℕ) (now : AnyWorld) (front : List Answer)
    → settles first ≡ true → count < rounds → IsSettling first rounds count now front
    → (rest : List Answer) × ((step first (Settle rounds)).1 ≡ front ++ ((round now).1 ++ rest))
settling_front first rounds count now front is below h =
    let whole = rounds_from rounds 0 round (begun first) in
    let end = (end_line whole.0).1 in
    let left : rounds - count ≡ suc (rounds - (count + 1)) = omega (arith, below) in
    let (others, cut) = next_first (rounds - (count + 1)) count now in
    let next : (rounds_from (rounds - count) count round now).1 ≡ (round now).1 ++ others =
    ap (λ (n : ℕ). (rounds_from n count round now).1) left ∙ cut in
    let all : whole.1 ≡ front ++ ((round now).1 ++ others) =
    h.report ∙ ap (λ (x : List Answer). h.front ++ x) next
    ∙ ap (λ (x : List Answer). x ++ ((round now).1 ++ others)) (sym h.here) in (
      others ++ end,
      ap (λ (did : AnyWorld × List Answer). did.1) (settled_by_rounds first rounds is)
          ∙ ap (λ (x : List Answer). x ++ end) all
          ∙ append_assoc front ((round now).1 ++ others) end
          ∙ ap (λ (x : List Answer). front ++ x) (append_assoc (round now).1 others end),
    )

-- ---- texts

module _ {T : Type 0} (tale : Tale T) where
  -- what was told, what is told next, and the rest
  texts : (t : T) (before : List ℕ) (front more rest : List Answer)
      → before ++ told tale t (front ++ (more ++ rest))
      ≡ ((before ++ told tale t front) ++ told tale (behind tale t front) more)
      ++ told tale (behind tale (behind tale t front) more) rest
  texts t before front more rest =
      let next = behind tale t front in
      let last = behind tale next more in
      ap (λ (x : List ℕ). before ++ x)
      (told-append tale t front (more ++ rest)
      ∙ ap (λ (x : List ℕ). told tale t front ++ x) (told-append tale next more rest))
      ∙ sym (append_assoc before (told tale t front) (told tale next more ++ told tale last rest))
      ∙ sym (append_assoc (before ++ told tale t front) (told tale next more)
      (told tale last rest))

  -- what is told next was not all written
  stops_next : (t next : T) (before : List ℕ) (front whole more rest : List Answer)
      {gathered : List ℕ} {start here : Out} {later : Option (List ℕ)}
      → next ≡ behind tale t front → whole ≡ front ++ (more ++ rest)
      → Gathers (before ++ told tale t front) gathered start here
      → Stops (gathered ++ told tale next more) here.known later
      → Stops (before ++ told tale t whole) start.known later
  stops_next t next before front whole more rest {gathered} {start} {here} {later} tells is h k =
      let there = behind tale t front in
      let then = subst (λ (n : T). Stops (gathered ++ told tale n more) here.known later) tells k in
      subst (λ (x : List ℕ). Stops x start.known later)
      (sym (ap (λ (x : List Answer). before ++ told tale t x) is
      ∙ texts t before front more rest))
      (stops_longer (told tale (behind tale there more) rest)
      (stops_on (gathers_more (told tale there more) h) then))

  -- there is room for what is told next
  sure_next : (t next : T) (before : List ℕ) (front whole more rest : List Answer)
      {gathered : List ℕ} {start here : Out}
      → next ≡ behind tale t front → whole ≡ front ++ (more ++ rest)
      → Gathers (before ++ told tale t front) gathered start here
      → length (before ++ told tale t whole) ≤ start.takes
      → length (gathered ++ told tale next more) ≤ here.takes
  sure_next t next before front whole more rest {gathered} {start} {here} tells is h fits =
      let there = behind tale t front in
      subst (λ (n : T). length (gathered ++ told tale n more) ≤ here.takes) (sym tells)
      (gathers_sure (told tale there more) h
      (sure_front ((before ++ told tale t front) ++ told tale there more)
      (told tale (behind tale there more) rest) start.takes
      (subst (λ (x : List ℕ). length x ≤ start.takes)
      (ap (λ (x : List Answer). before ++ told tale t x) is
      ∙ texts t before front more rest) fits)))

  -- and then it was gathered
  gathers_next : (t next : T) (before : List ℕ) (front more : List Answer)
      {gathered left : List ℕ} {start here later : Out}
      → next ≡ behind tale t front
      → Gathers (before ++ told tale t front) gathered start here
      → Gathers (gathered ++ told tale next more) left here later
      → Gathers (before ++ told tale t (front ++ more)) left start later
  gathers_next t next before front more {gathered} {left} {start} {here} {later} tells h k =
      let there = behind tale t front in
      subst (λ (x : List ℕ). Gathers x left start later)
      (append_assoc before (told tale t front) (told tale there more)
      ∙ ap (λ (x : List ℕ). before ++ x) (sym (told-append tale t front more)))
      (gathers_on (gathers_more (told tale there more) h)
      (subst (λ (n : T). Gathers (gathered ++ told tale n more) left here later) tells k))

  -- the teller behind what is told next
  tells_next : (t next after : T) (front more : List Answer) → next ≡ behind tale t front
      → after ≡ behind tale next more → after ≡ behind tale t (front ++ more)
  tells_next t next after front more tells is =
      is ∙ ap (λ (n : T). behind tale n more) tells ∙ sym (behind-append tale t front more)

-- ---- a settling in the midst

-- the rounds that were done, the teller behind them, and what of that which is told of them was
-- written and is gathered
pub record Settling {T : Type 0} (tale : Tale T) (teller : T) (first : AnyWorld) (rounds count : ℕ)
    (now : AnyWorld) (next : T) (before gathered : List ℕ) (start here : Out) : Type 0 where
  pub front : List Answer
  pub done : IsSettling first rounds count now front
  pub tells : next ≡ behind tale teller front
  pub wrote : Gathers (before ++ told tale teller front) gathered start here

pub settling_first : {T : Type 0} (tale : Tale T) (teller : T) (first : AnyWorld) (rounds : ℕ)
    (before : List ℕ) (start : Out)
    → Settling tale teller first rounds 0 (begun first) teller before before start start
settling_first tale teller first rounds before start = record {
  front = [];
  done = settling_begins first rounds;
  tells = refl;
  wrote = subst (λ (x : List ℕ). Gathers x before start start) (sym (append-nil before))
      (gathers_all before start);
}

module _ {T : Type 0} {tale : Tale T} {teller : T} {first : AnyWorld} {rounds count : ℕ}
    {now : AnyWorld} {next : T} {before gathered : List ℕ} {start here : Out} where
  pub settling_more : {later : AnyWorld} {after : T} {left : List ℕ} {there : Out}
      → count < rounds → (round now).1 ≢ [] → later ≡ (round now).0
      → after ≡ behind tale next (round now).1
      → Settling tale teller first rounds count now next before gathered start here
      → Gathers (gathered ++ told tale next (round now).1) left here there
      → Settling tale teller first rounds (count + 1) later after before left start there
  settling_more {later} {after} {left} {there} below some moved tells h k = record {
    front = h.front ++ (round now).1;
    done = settling_goes_on first rounds count now later h.front below some moved h.done;
    tells = tells_next tale teller next after h.front (round now).1 h.tells tells;
    wrote = gathers_next tale teller next before h.front (round now).1 h.tells h.wrote k;
  }

  -- a round could not be done or written
  pub settling_stops : {there : Option (List ℕ)} → settles first ≡ true → count < rounds
      → Settling tale teller first rounds count now next before gathered start here
      → Stops (gathered ++ told tale next (round now).1) here.known there
      → Stops (before ++ told tale teller (step first (Settle rounds)).1) start.known there
  settling_stops {there} is below h k =
      let (rest, cut) = settling_front first rounds count now h.front is below h.done in
      stops_next tale teller next before h.front (step first (Settle rounds)).1 (round now).1 rest
      h.tells cut h.wrote k

  pub settling_sure : settles first ≡ true → count < rounds
      → Settling tale teller first rounds count now next before gathered start here
      → length (before ++ told tale teller (step first (Settle rounds)).1) ≤ start.takes
      → length (gathered ++ told tale next (round now).1) ≤ here.takes
  settling_sure is below h fits =
      let (rest, cut) = settling_front first rounds count now h.front is below h.done in
      sure_next tale teller next before h.front (step first (Settle rounds)).1 (round now).1 rest
      h.tells cut h.wrote fits

-- ---- the end of a settling

-- behind its rounds: the line's last answer of its own, and what stands behind it
pub record Ending {T : Type 0} (tale : Tale T) (teller : T) (first : AnyWorld) (rounds : ℕ)
    (now : AnyWorld) (next : T) (last : Answer) (before gathered : List ℕ) (start here : Out)
    : Type 0 where
  pub front : List Answer
  pub is : step first (Settle rounds) ≡ ((end_line now).0, front ++ last ∷ (end_line now).1)
  pub tells : next ≡ behind tale teller front
  pub wrote : Gathers (before ++ told tale teller front) gathered start here

module _ {T : Type 0} {tale : Tale T} {teller : T} {first : AnyWorld} {rounds count : ℕ}
    {now : AnyWorld} {next : T} {before gathered : List ℕ} {start here : Out} where
  pub quiet_ends : {later : AnyWorld} {after : T} {left : List ℕ} {there : Out}
      → settles first ≡ true → count < rounds → (round now).1 ≡ [] → later ≡ (round now).0
      → after ≡ behind tale next (round now).1
      → Settling tale teller first rounds count now next before gathered start here
      → Gathers (gathered ++ told tale next (round now).1) left here there
      → Ending tale teller first rounds later after (Quiet count) before left start there
  quiet_ends {later} {after} {left} {there} is below none moved tells h k =
      let same : h.front ++ (round now).1 ≡ h.front =
      ap (λ (x : List Answer). h.front ++ x) none ∙ append-nil h.front in
      record {
        front = h.front;
        is = settling_is_quiet first rounds count now later h.front is below none moved h.done;
        tells = tells_next tale teller next after h.front (round now).1 h.tells tells
            ∙ ap (λ (x : List Answer). behind tale teller x) same;
        wrote = subst
            (λ (x : List Answer). Gathers (before ++ told tale teller x) left start there) same
            (gathers_next tale teller next before h.front (round now).1 h.tells h.wrote k);
      }

  pub spent_ends : settles first ≡ true → count ≡ rounds
      → Settling tale teller first rounds count now next before gathered start here
      → Ending tale teller first rounds now next (Spent rounds) before gathered start here
  spent_ends is all h = record {
    front = h.front;
    is = settling_is_spent first rounds now h.front is
        (subst (λ (n : ℕ). IsSettling first rounds n now h.front) all h.done);
    tells = h.tells;
    wrote = h.wrote;
  }

module _ {T : Type 0} {tale : Tale T} {teller : T} {first : AnyWorld} {rounds : ℕ}
    {now : AnyWorld} {next : T} {last : Answer} {before gathered : List ℕ} {start here : Out} where
  -- the world and the report of the line
  ending_report : (h : Ending tale teller first rounds now next last before gathered start here)
      → (step first (Settle rounds)).1 ≡ h.front ++ ((last ∷ (end_line now).1) ++ [])
  ending_report h =
      ap (λ (did : AnyWorld × List Answer). did.1) h.is
      ∙ ap (λ (x : List Answer). h.front ++ x) (sym (append-nil (last ∷ (end_line now).1)))

  pub ending_world : {later : AnyWorld}
      → Ending tale teller first rounds now next last before gathered start here
      → later ≡ (end_line now).0 → later ≡ (step first (Settle rounds)).0
  ending_world {later} h moved =
      moved ∙ sym (ap (λ (did : AnyWorld × List Answer). did.0) h.is)

  pub ending_given : {later : AnyWorld}
      → Ending tale teller first rounds now next last before gathered start here
      → later ≡ (end_line now).0 → given later ≤ given first + 1
  ending_given {later} h moved =
      subst (λ (w : AnyWorld). given w ≤ given first + 1) (sym (ending_world h moved))
      (settled_given first rounds)

  pub ending_teller : {after : T}
      → Ending tale teller first rounds now next last before gathered start here
      → after ≡ behind tale next (last ∷ (end_line now).1)
      → after ≡ behind tale teller (step first (Settle rounds)).1
  ending_teller {after} h tells =
      tells_next tale teller next after h.front (last ∷ (end_line now).1) h.tells tells
      ∙ ap (λ (did : AnyWorld × List Answer). behind tale teller did.1) (sym h.is)

  pub ending_gathers : {left : List ℕ} {there : Out}
      → Ending tale teller first rounds now next last before gathered start here
      → Gathers (gathered ++ told tale next (last ∷ (end_line now).1)) left here there
      → Gathers (before ++ told tale teller (step first (Settle rounds)).1) left start there
  ending_gathers {left} {there} h k =
      subst (λ (x : List Answer). Gathers (before ++ told tale teller x) left start there)
      (sym (ap (λ (did : AnyWorld × List Answer). did.1) h.is))
      (gathers_next tale teller next before h.front (last ∷ (end_line now).1) h.tells h.wrote k)

  pub ending_stops : {there : Option (List ℕ)}
      → Ending tale teller first rounds now next last before gathered start here
      → Stops (gathered ++ told tale next (last ∷ (end_line now).1)) here.known there
      → Stops (before ++ told tale teller (step first (Settle rounds)).1) start.known there
  ending_stops {there} h k =
      stops_next tale teller next before h.front (step first (Settle rounds)).1
      (last ∷ (end_line now).1) [] h.tells (ending_report h) h.wrote k

  pub ending_sure : Ending tale teller first rounds now next last before gathered start here
      → length (before ++ told tale teller (step first (Settle rounds)).1) ≤ start.takes
      → length (gathered ++ told tale next (last ∷ (end_line now).1)) ≤ here.takes
  ending_sure h fits =
      sure_next tale teller next before h.front (step first (Settle rounds)).1
      (last ∷ (end_line now).1) [] h.tells (ending_report h) h.wrote fits

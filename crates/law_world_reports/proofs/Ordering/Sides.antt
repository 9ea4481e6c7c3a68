-- each answer to a give names the end of its line
use Rattle.law_order.proofs.Vocabulary.{◌≡◌, ◌++◌, ◌+◌, ℕ, zero, suc, List, [], ◌∷◌, Bool, true, false, None, refl, sym, ap, ◌∙◌, list_all, and_parts}
use Rattle.rh_record.specs.declared.answer.Answer.TheVariants as answer
use Rattle.rh_record.specs.declared.answer.TakeAnswer.TheVariants as takes
use Rattle.rh_record.specs.declared.line.Line.TheVariants as line
use Rattle.rh_company.specs.Closings as closings
use Rattle.law_moves.proofs.Vocabulary.{Side, Client, Server}
use Rattle.law_node_history.proofs.Vocabulary.{Answer, TakeAnswer, Line, First, Set, Closing, Rulebook, Deeds, has_ended, take, Makers, and_then, open_all, carry_all, took, take_one, take_both, end_all, round, behind_round, rounds_from, leg_answer, reported, step, step_line, World, GoesQuietly, is_silent}
use Rattle.law_node_history.proofs.Lemmas.{leg_goes, open_goes, carry_all_goes, end_all_goes}
use Rattle.rh_world.specs.Direct as direct
use Rattle.rh_world.specs.Roles as roles
use Rattle.law_world_reports.proofs.Vocabulary.{Direct, Settings, Roles, WorldConfig, run, told, roles_config, with_number, OffersBehindFirst}
use Rattle.law_world_reports.specs.Ordering.Sides.{NamesSides, giving, offering}

-- ---- answers

side_of : Answer → List Side
side_of (answer.Give end given) = end ∷ []
side_of one = []

giving_more : (one : Answer) (more : List Answer) → giving (one ∷ more) ≡ side_of one ++ giving more
unfolding side_of
giving_more (answer.Give end given) more = refl
giving_more one more = refl

giving_both : (xs ys : List Answer) → giving (xs ++ ys) ≡ giving xs ++ giving ys
giving_both [] ys = refl
giving_both (answer.Give end given ∷ xs) ys = ap (λ behind. end ∷ behind) (giving_both xs ys)
giving_both (one ∷ xs) ys = giving_both xs ys

silent_gives : (one : Answer) → is_silent one ≡ true → side_of one ≡ []
unfolding side_of
silent_gives (answer.Give end given) silent = absurd cc
silent_gives one silent = refl

all_silent : (answers : List Answer) → list_all is_silent answers ≡ true → giving answers ≡ []
all_silent [] silent = refl
all_silent (one ∷ more) silent =
    let parts = and_parts (is_silent one) (list_all is_silent more) silent in
    giving_more one more
    ∙ ap (λ first. first ++ giving more) (silent_gives one parts.0) ∙ all_silent more parts.1

none_given : (list : List Closing) → giving (closings.lines list) ≡ []
none_given [] = refl
none_given (x ∷ list) = none_given list

module _ {K C S I O : Type 0} (r : Rulebook C S I O) (m : Makers K I O) (d : Deeds C S) where
  -- what is done tells of no give
  abbrev GivesNone : World K C S I O × List Answer → Type 0
  GivesNone did = giving did.1 ≡ []

  none_then : (did : World K C S I O × List Answer)
      (act : World K C S I O → World K C S I O × List Answer) → GivesNone did
      → ((v : World K C S I O) → GivesNone (act v)) → GivesNone (and_then did act)
  none_then did act a b =
      giving_both did.1 (act did.0).1 ∙ ap (λ front. front ++ giving (act did.0).1) a ∙ b did.0

  quiet_none : (w : World K C S I O) (did : World K C S I O × List Answer)
      → GoesQuietly r m d w did → GivesNone did
  quiet_none w did goes = all_silent did.1 goes.others

  -- ---- settling

  took_none : (at : Side) (ended : Bool) (did : World K C S I O × TakeAnswer)
      → GivesNone (took at ended did)
  took_none at ended (v, takes.Pdu pdu) = refl
  took_none at ended (v, takes.Empty) = refl
  took_none at false (v, takes.Ended) = refl
  took_none at true (v, takes.Ended) = refl
  took_none at ended (v, takes.Closed why) = refl

  take_none : (at : Side) (w : World K C S I O) → GivesNone (take_one d at w)
  take_none at w = took_none at (has_ended w at) (take d w at)

  round_none : (w : World K C S I O) → GivesNone (round r m d w)
  round_none w =
      none_then (and_then (and_then (open_all r m w) (carry_all r)) (take_both d)) (end_all r)
      (none_then (and_then (open_all r m w) (carry_all r)) (take_both d)
      (none_then (open_all r m w) (carry_all r)
      (quiet_none w (open_all r m w) (open_goes r m d w))
      (λ v. quiet_none v (carry_all r v) (carry_all_goes r m d v)))
      (λ v. none_then (take_one d Client v) (take_one d Server) (take_none Client v)
      (take_none Server)))
      (λ v. quiet_none v (end_all r v) (end_all_goes r m d v))

  behind_none : (count : ℕ) (did : World K C S I O × List Answer)
      (rest : World K C S I O → World K C S I O × List Answer) → GivesNone did
      → ((v : World K C S I O) → GivesNone (rest v)) → GivesNone (behind_round count did rest)
  behind_none count (v, []) rest a b = refl
  behind_none count (v, one ∷ more) rest a b = none_then (v, one ∷ more) rest a b

  rounds_none : (n count : ℕ) (w : World K C S I O)
      → GivesNone (rounds_from n count (round r m d) w)
  unfolding rounds_from
  rounds_none zero count w = refl
  rounds_none (suc n) count w =
      behind_none count (round r m d w) (λ next. rounds_from n (count + 1) (round r m d) next)
      (round_none w) (rounds_none n (count + 1))

  -- ---- lines

  line_sides : (one : Line) (w : World K C S I O)
      → giving (step_line r m d one w).1 ≡ offering (one ∷ [])
  line_sides (line.Settle rounds) w = rounds_none rounds 0 w
  line_sides (line.Give Client pdu) w = refl
  line_sides (line.Give Server pdu) w = refl
  line_sides (line.Take at) w = refl
  line_sides (line.Close Client) w = refl
  line_sides (line.Close Server) w = refl
  line_sides line.RecycleIn w = refl
  line_sides line.RecycleOut w = refl
  line_sides one w = quiet_none w (reported (leg_answer r m w one)) (leg_goes r m d one w)

  pub step_sides : (one : Line) (w : World K C S I O)
      → giving (step r m d one w).1 ≡ offering (one ∷ [])
  step_sides one w =
      let did = step_line r m d one w in
      giving_both did.1 (closings.lines did.0.closed)
      ∙ ap (λ behind. giving did.1 ++ behind) (none_given did.0.closed)
      ∙ no_more (giving did.1) ∙ line_sides one w
    where
      no_more : (sides : List Side) → sides ++ [] ≡ sides
      no_more [] = refl
      no_more (side ∷ sides) = ap (λ behind. side ∷ behind) (no_more sides)

-- ---- recordings

offering_more : (one : Line) (lines : List Line)
    → offering (one ∷ lines) ≡ offering (one ∷ []) ++ offering lines
offering_more (line.Give end pdu) lines = refl
offering_more one lines = refl

-- what one line is answered, and the report of those behind it
more_sides : (one : Line) (lines : List Line) (first behind : List Answer)
    → giving first ≡ offering (one ∷ []) → NamesSides lines behind
    → NamesSides (one ∷ lines) (first ++ behind)
more_sides one lines first behind a b =
    giving_both first behind
    ∙ ap (λ front. front ++ giving behind) a
    ∙ ap (λ later. offering (one ∷ []) ++ later) b
    ∙ sym (offering_more one lines)

direct_sides : (w : direct.World) (one : Line)
    → giving (direct.step w one).1 ≡ offering (one ∷ [])
direct_sides w (line.Give side pdu) = refl
direct_sides w (line.Take side) = refl
direct_sides w (line.Send None dir count) = refl
direct_sides w (line.Move None dir count) = refl
direct_sides w one = refl

direct_told : (lines : List Line) (w : direct.World) → NamesSides lines (told (Direct w) lines)
direct_told [] w = refl
direct_told (one ∷ lines) w =
    let did = direct.step w one in
    more_sides one lines did.1 (told (Direct did.0) lines) (direct_sides w one)
    (direct_told lines did.0)

roles_told : (lines : List Line) (w : roles.World) → NamesSides lines (told (Roles w) lines)
roles_told [] w = refl
roles_told (one ∷ lines) w =
    let did = roles.step one w in
    more_sides one lines did.1 (told (Roles did.0) lines)
    (step_sides roles.rules roles.makers roles.deeds one w) (roles_told lines did.0)

settings_told : (lines : List Line) (config : WorldConfig)
    → NamesSides lines (told (Settings config) lines)
settings_told [] config = refl
settings_told (Set key value ∷ lines) config =
    settings_told lines (with_number config key value)
settings_told (one ∷ lines) config = roles_told (one ∷ lines) (roles.begun config)

pub run_sides : (lines : List Line) → OffersBehindFirst lines → NamesSides lines (run lines)
run_sides [] h = refl
run_sides (First false ∷ lines) h = direct_told lines direct.empty
run_sides (First true ∷ lines) h = settings_told lines roles_config
run_sides (line.Give side pdu ∷ lines) h = absurd h
run_sides (one ∷ lines) h = run_sides lines h

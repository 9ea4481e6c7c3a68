-- an answer of an end names a cause only where the end stands closed with it
use Rattle.law_order.proofs.Vocabulary.{◌≡◌, ◌++◌, ◌+◌, ℕ, zero, suc, List, [], ◌∷◌, Bool, true, false, IsTrue, Some, None, Ok, Err, refl, sym, ◌∙◌, subst, ◌⊎◌, inl, inr, false≢true, Option, Result}
use Rattle.rh_line.specs.declared.cause.Cause.TheVariants as cause
use Rattle.rh_line.specs.declared.line_take.LineTake.TheVariants as line_take
use Rattle.rh_line.specs.Lines as lines
use Rattle.rh_record.specs.declared.answer.Answer.TheVariants as answer
use Rattle.rh_record.specs.declared.answer.TakeAnswer.TheVariants as takes
use Rattle.rh_record.specs.declared.line.Line.TheVariants as line
use Rattle.rh_shell.specs.declared.answers.Phase.TheVariants as phase
use Rattle.rh_shell.specs.declared.end_role.GiveRefused.TheVariants as give_refused
use Rattle.rh_shell.specs.Ends as ends
use Rattle.rh_company.specs.Closings as closings
use Rattle.law_moves.proofs.Vocabulary.{Side, Client, Server, Cause, ClientOut, LineTake, Phase, Course, Going, Closed, Refusing, GiveRefused, Rules, Acts, Shell, state_by, state_of, ClosedWith}
use Rattle.law_node_history.proofs.Vocabulary.{Answer, TakeAnswer, Line, Closing, Rulebook, Deeds, give, give_answer, has_ended, recycle_in, recycle_out, take, take_answer, Makers, and_then, leg_at, open_all, carry_all, took, take_one, take_both, end_all, round, behind_round, rounds_from, last, last_of, last_with, step, step_line, World, IsOneOf, StandsClosed}
use Rattle.law_node_history.proofs.Lemmas.{one_of_both}
use Rattle.law_world_reports.proofs.Naming.Speaking.{carries_say, ends_say, leg_says, opens_say}
use Rattle.law_world_reports.proofs.Vocabulary.{node_of, Names, cause_told, tells_of}

-- ---- one end

-- where the answer names a cause, the node closed with it
abbrev OnlyOf : {S : Type 0} → Shell S → Answer → Type 0
OnlyOf s one = (why : Cause) → cause_told one ≡ Some why → ClosedWith why s.course

some_cause : (a b : Cause) → Some a ≡ Some b → a ≡ b
some_cause a b e = cc

abbrev with_course : {S : Type 0} → Shell S → Course → Shell S
with_course s course = record s { course = course }

module _ {S : Type 0} (rules : Rules S) (acts : Acts S) (end : Side) where
  abbrev GiveNames : Shell S → List ℕ → Type 0
  GiveNames s pdu = OnlyOf s (answer.Give end (give_answer pdu (ends.give acts s pdu).1))

  given_names : (s : Shell S) (pdu : List ℕ) (did : Result (Unit {0}) GiveRefused)
      → OnlyOf s (answer.Give end (give_answer pdu (ends.given_by did)))
  given_names s pdu (Ok done) why e = absurd cc
  given_names s pdu (Err give_refused.Closing) why e = absurd cc
  given_names s pdu (Err (give_refused.BadPdu fault)) why e = absurd cc
  given_names s pdu (Err (give_refused.Full held len)) why e = absurd cc

  give_by_course : (s : Shell S) (course : Course) (pdu : List ℕ)
      → GiveNames (with_course s course) pdu
  give_by_course s Going pdu why e =
      given_names (with_course s Going) pdu (acts.give s.role pdu).1 why e
  give_by_course s (Closed first) pdu why e = some_cause first why e
  give_by_course s (Refusing first leg rest) pdu why e = some_cause first why e

  pub give_names : (s : Shell S) (pdu : List ℕ) → GiveNames s pdu
  give_names s pdu = give_by_course s s.course pdu

  abbrev TakeNames : Shell S → List (List ℕ) → Type 0
  TakeNames s pdus = OnlyOf s (answer.Take end (take_answer (ends.take_answer acts s) pdus))

  taken_names : (s : Shell S) (pdus : List (List ℕ)) (did : LineTake)
      → OnlyOf s (answer.Take end (take_answer (ends.take_of did) pdus))
  taken_names s pdus (line_take.Pdu len) why e = absurd cc
  taken_names s pdus line_take.Empty why e = absurd cc
  taken_names s pdus line_take.Ended why e = absurd cc

  take_by_course : (s : Shell S) (course : Course) (pdus : List (List ℕ))
      → TakeNames (with_course s course) pdus
  take_by_course s Going pdus why e =
      taken_names (with_course s Going) pdus (lines.take_answer (acts.line s.role)) why e
  take_by_course s (Closed first) pdus why e = some_cause first why e
  take_by_course s (Refusing first leg rest) pdus why e = some_cause first why e

  pub take_names : (s : Shell S) (pdus : List (List ℕ)) → TakeNames s pdus
  take_names s pdus = take_by_course s s.course pdus

  last_by_course : (s : Shell S) (course : Course) (p : Phase) (channels : ℕ × ℕ)
      → OnlyOf (with_course s course) (last_with end (state_by course p) channels)
  last_by_course s Going phase.Opening channels why e = absurd cc
  last_by_course s Going phase.Open channels why e = absurd cc
  last_by_course s Going phase.Ended channels why e = absurd cc
  last_by_course s (Closed first) p channels why e = some_cause first why e
  last_by_course s (Refusing first leg rest) p channels why e = some_cause first why e

  pub last_names : (s : Shell S) (channels : ℕ × ℕ)
      → OnlyOf s (last_with end (state_of rules s) channels)
  last_names s channels = last_by_course s s.course (rules.phase s.role) channels

-- ---- all that is answered

module _ {K C S I O : Type 0} (r : Rulebook C S I O) (m : Makers K I O) (d : Deeds C S) where
  -- where one of these answers is of an end and names a cause, the end stands closed with it
  abbrev pub NamesStanding : World K C S I O → List Answer → Type 0
  NamesStanding w answers =
      (one : Answer) → IsOneOf one answers → (end : Side) (why : Cause)
      → IsTrue (tells_of end one) → cause_told one ≡ Some why
      → StandsClosed w.company (node_of end) why

  names_none : (w : World K C S I O) → NamesStanding w []
  names_none w one there end why tells e = absurd there

  names_one : (w : World K C S I O) (one : Answer)
      → ((end : Side) (why : Cause) → IsTrue (tells_of end one) → cause_told one ≡ Some why
      → StandsClosed w.company (node_of end) why)
      → NamesStanding w (one ∷ [])
  names_one w one first other (inl here) end why tells e =
      subst (λ (x : Answer). IsTrue (tells_of end x) → cause_told x ≡ Some why
      → StandsClosed w.company (node_of end) why) here (first end why) tells e
  names_one w one first other (inr behind) end why tells e = absurd behind

  names_both : (w : World K C S I O) (xs ys : List Answer) → NamesStanding w xs
      → NamesStanding w ys → NamesStanding w (xs ++ ys)
  names_both w xs ys a b one there = by (one_of_both one xs ys there)
    where
      by : IsOneOf one xs ⊎ IsOneOf one ys → (end : Side) (why : Cause)
          → IsTrue (tells_of end one) → cause_told one ≡ Some why
          → StandsClosed w.company (node_of end) why
      by (inl in_xs) = a one in_xs
      by (inr in_ys) = b one in_ys

  -- the world before a line may be any where no answer names a cause
  abbrev NamesNothing : List Answer → Type 0
  NamesNothing answers = (w : World K C S I O) → NamesStanding w answers

  nothing_both : (xs ys : List Answer) → NamesNothing xs → NamesNothing ys
      → NamesNothing (xs ++ ys)
  nothing_both xs ys a b w = names_both w xs ys (a w) (b w)

  -- an answer that would name each cause is of no end
  all_causes : (o : Option Cause) → ((why : Cause) → o ≡ Some why) → ⊥
  all_causes o all =
      let leg = leg_at ClientOut 0 in
      let first = all (cause.LegBroken leg) in
      let second = all (cause.LegEnded leg 0) in
      absurd cc

  of_no_end : (answers : List Answer)
      → ((end : Side) (why : Cause) → Names end why answers) → NamesNothing answers
  of_no_end answers names w one there end why tells e =
      absurd (all_causes (cause_told one) (λ other. names end other one there tells))

  nothing_then : (did : World K C S I O × List Answer)
      (act : World K C S I O → World K C S I O × List Answer) → NamesNothing did.1
      → ((v : World K C S I O) → NamesNothing (act v).1) → NamesNothing (and_then did act).1
  nothing_then did act a b = nothing_both did.1 (act did.0).1 a (b did.0)

  -- ---- settling

  nothing_one : (one : Answer) → cause_told one ≡ None → NamesNothing (one ∷ [])
  nothing_one one none w =
      names_one w one (λ end why tells e. absurd (none_some why (sym none ∙ e)))
    where
      none_some : (why : Cause) → None ≡ Some why → ⊥
      none_some why e = absurd cc

  took_nothing : (at : Side) (ended : Bool) (did : World K C S I O × TakeAnswer)
      → NamesNothing (took at ended did).1
  took_nothing at ended (v, takes.Pdu pdu) = nothing_one (answer.Take at (takes.Pdu pdu)) refl
  took_nothing at ended (v, takes.Empty) = names_none
  took_nothing at false (v, takes.Ended) = nothing_one (answer.Take at takes.Ended) refl
  took_nothing at true (v, takes.Ended) = names_none
  took_nothing at ended (v, takes.Closed first) = names_none

  take_nothing : (at : Side) (w : World K C S I O) → NamesNothing (take_one d at w).1
  take_nothing at w = took_nothing at (has_ended w at) (take d w at)

  round_nothing : (w : World K C S I O) → NamesNothing (round r m d w).1
  round_nothing w =
      nothing_then (and_then (and_then (open_all r m w) (carry_all r)) (take_both d)) (end_all r)
      (nothing_then (and_then (open_all r m w) (carry_all r)) (take_both d)
      (nothing_then (open_all r m w) (carry_all r)
      (of_no_end (open_all r m w).1 (λ end why. opens_say r m end why w))
      (λ v. of_no_end (carry_all r v).1 (λ end why. carries_say r m end why v)))
      (λ v. nothing_then (take_one d Client v) (take_one d Server) (take_nothing Client v)
      (take_nothing Server)))
      (λ v. of_no_end (end_all r v).1 (λ end why. ends_say r m end why v))

  behind_nothing : (count : ℕ) (did : World K C S I O × List Answer)
      (rest : World K C S I O → World K C S I O × List Answer) → NamesNothing did.1
      → ((v : World K C S I O) → NamesNothing (rest v).1)
      → NamesNothing (behind_round count did rest).1
  behind_nothing count (v, []) rest a b = nothing_one (answer.Quiet count) refl
  behind_nothing count (v, one ∷ more) rest a b = nothing_then (v, one ∷ more) rest a b

  rounds_nothing : (n count : ℕ) (w : World K C S I O)
      → NamesNothing (rounds_from n count (round r m d) w).1
  unfolding rounds_from
  rounds_nothing zero count w = nothing_one (answer.Spent count) refl
  rounds_nothing (suc n) count w =
      behind_nothing count (round r m d w) (λ next. rounds_from n (count + 1) (round r m d) next)
      (round_nothing w) (rounds_nothing n (count + 1))

  -- ---- lines

  give_standing : (end at : Side) (why : Cause) (w : World K C S I O) (pdu : List ℕ)
      → IsTrue (tells_of end (give d w at pdu).1) → cause_told (give d w at pdu).1 ≡ Some why
      → StandsClosed w.company (node_of end) why
  give_standing Client Client why w pdu tells e =
      give_names r.client d.client Client w.company.client pdu why e
  give_standing Client Server why w pdu tells e = absurd cc
  give_standing Server Client why w pdu tells e = absurd cc
  give_standing Server Server why w pdu tells e =
      give_names r.server d.server Server w.company.server pdu why e

  take_standing : (end at : Side) (why : Cause) (w : World K C S I O)
      → IsTrue (tells_of end (answer.Take at (take d w at).1))
      → cause_told (answer.Take at (take d w at).1) ≡ Some why
      → StandsClosed w.company (node_of end) why
  take_standing Client Client why w tells e =
      take_names r.client d.client Client w.company.client
      (d.client.line w.company.client.role).current.pdus why e
  take_standing Client Server why w tells e = absurd cc
  take_standing Server Client why w tells e = absurd cc
  take_standing Server Server why w tells e =
      take_names r.server d.server Server w.company.server
      (d.server.line w.company.server.role).current.pdus why e

  last_standing : (end at : Side) (why : Cause) (w : World K C S I O)
      → IsTrue (tells_of end (last_of r d w at)) → cause_told (last_of r d w at) ≡ Some why
      → StandsClosed w.company (node_of end) why
  last_standing Client Client why w tells e =
      last_names r.client d.client Client w.company.client
      (d.client.channels w.company.client.role) why e
  last_standing Client Server why w tells e = absurd cc
  last_standing Server Client why w tells e = absurd cc
  last_standing Server Server why w tells e =
      last_names r.server d.server Server w.company.server
      (d.server.channels w.company.server.role) why e

  line_standing : (one : Line) (w : World K C S I O) → NamesStanding w (step_line r m d one w).1
  line_standing (line.Settle rounds) w = rounds_nothing rounds 0 w w
  line_standing (line.Give at pdu) w =
      names_one w (give d w at pdu).1 (λ end why. give_standing end at why w pdu)
  line_standing (line.Take at) w =
      names_one w (answer.Take at (take d w at).1) (λ end why. take_standing end at why w)
  line_standing (line.Close Client) w = nothing_one (answer.Close Client) refl w
  line_standing (line.Close Server) w = nothing_one (answer.Close Server) refl w
  line_standing line.RecycleIn w = nothing_one (recycle_in d.client r.client w).1 refl w
  line_standing line.RecycleOut w = nothing_one (recycle_out d.server r.server w).1 refl w
  line_standing one w =
      of_no_end (step_line r m d one w).1 (λ end why. leg_says r m end why one w) w

  closings_standing : (list : List Closing) (w : World K C S I O)
      → NamesStanding w (closings.lines list)
  closings_standing [] w one there end why tells e = absurd there
  closings_standing (x ∷ list) w one (inl here) end why tells e =
      absurd (false≢true (subst (λ (a : Answer). IsTrue (tells_of end a)) (sym here) tells))
  closings_standing (x ∷ list) w one (inr there) end why tells e =
      closings_standing list w one there end why tells e

  pub step_standing : (one : Line) (w : World K C S I O) → NamesStanding w (step r m d one w).1
  step_standing one w =
      let did = step_line r m d one w in
      names_both w did.1 (closings.lines did.0.closed) (line_standing one w)
      (closings_standing did.0.closed w)

  pub last_standing_all : (w : World K C S I O) → NamesStanding w (last r d w)
  last_standing_all w =
      let at_client = last_of r d w Client in
      let at_server = last_of r d w Server in
      names_both w (answer.Up w.up.given w.up.taken ∷ [])
      (answer.Down w.down.given w.down.taken ∷ at_client ∷ at_server ∷ [])
      (nothing_one (answer.Up w.up.given w.up.taken) refl w)
      (names_both w (answer.Down w.down.given w.down.taken ∷ []) (at_client ∷ at_server ∷ [])
      (nothing_one (answer.Down w.down.given w.down.taken) refl w)
      (names_both w (at_client ∷ []) (at_server ∷ [])
      (names_one w at_client (λ end why. last_standing end Client why w))
      (names_one w at_server (λ end why. last_standing end Server why w))))

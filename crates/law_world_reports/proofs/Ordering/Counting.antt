-- each line counts what it tells of gives and takes
use Rattle.law_order.proofs.Vocabulary.{◌≡◌, ◌++◌, ◌+◌, ℕ, zero, suc, List, [], ◌∷◌, true, refl, sym, ap, ◌∙◌, subst, append_assoc, list_all, and_parts, and_from, map-append}
use Rattle.rh_record.specs.Events.Events.{Event}
use Rattle.rh_record.specs.declared.answer.Answer.TheVariants as answer
use Rattle.rh_record.specs.declared.answer.Who.TheVariants as who
use Rattle.rh_record.specs.declared.line.Line.TheVariants as line
use Rattle.rh_record.specs.Events.Events as events
use Rattle.rh_shell.specs.Ends as ends
use Rattle.law_moves.proofs.Vocabulary.{Side, Client, Server, Cause}
use Rattle.law_node_history.proofs.Vocabulary.{Answer, Who, Line, event, events, offer, offered, Closing, lines, Rulebook, Deeds, close, give, has_ended, recycle_in, recycle_out, take, take_from, Makers, and_then, open_all, carry_all, take_one, take_both, end_all, round, behind_round, rounds_from, reported, leg_answer, step_line, tell_closed, step, last, told, World, Change, Gives, Takes, Closes, RecyclesIn, RecyclesOut, Reports, GoesQuietly, all_changed, changed, is_quiet}
use Rattle.law_node_history.proofs.Vocabulary.{is_silent}
use Rattle.law_node_history.proofs.Lemmas.{leg_goes, open_goes, carry_all_goes, end_all_goes}
use Rattle.law_world_reports.proofs.Ordering.Passing.{Passes, both, passes_none, passes_then, still}
use Rattle.law_world_reports.proofs.Ordering.GivesAndTakes.{TellsTake, line_tells, give_up, give_down, take_up, take_down, took_passes}

silent_passes : (one : Answer) → is_silent one ≡ true → passes_none (event one) ≡ true
silent_passes (answer.Give end given) silent = absurd cc
silent_passes (answer.Take end taken) silent = absurd cc
silent_passes (answer.Close end) silent = absurd cc
silent_passes (answer.NodeClosed node why) silent = absurd cc
silent_passes one silent = refl

all_silent : (answers : List Answer) → list_all is_silent answers ≡ true
    → list_all passes_none (events answers) ≡ true
all_silent [] silent = refl
all_silent (one ∷ answers) silent =
    let parts = and_parts (is_silent one) (list_all is_silent answers) silent in
    and_from (passes_none (event one)) (list_all passes_none (events answers))
    (silent_passes one parts.0) (all_silent answers parts.1)

module _ {K C S I O : Type 0} (r : Rulebook C S I O) (m : Makers K I O) (d : Deeds C S) where
  give_passes : (w : World K C S I O) (pdu : List ℕ) (rest : List (List ℕ)) (end : Side)
      → Passes w (give d w end pdu).0 (pdu ∷ rest) rest (event (give d w end pdu).1 ∷ [])
  give_passes w pdu rest Client =
      let did = ends.give d.client w.company.client pdu in give_up w pdu rest did.0 did.1
  give_passes w pdu rest Server =
      let did = ends.give d.server w.company.server pdu in give_down w pdu rest did.0 did.1

  take_passes : (w : World K C S I O) (pdus : List (List ℕ)) (end : Side) (told : List Event)
      → TellsTake end (take d w end).1 told → Passes w (take d w end).0 pdus pdus told
  take_passes w pdus Client told is =
      let did = take_from d.client w.company.client in take_down w pdus did.0 did.1 told is
  take_passes w pdus Server told is =
      let did = take_from d.server w.company.server in take_up w pdus did.0 did.1 told is

  -- ---- of what was done and answered

  abbrev PassesBy : List (List ℕ) → List (List ℕ) → World K C S I O
      → World K C S I O × List Answer → Type 0
  PassesBy pdus rest w did = Passes w did.0 pdus rest (events did.1)

  passes_and_then : (pdus rest later : List (List ℕ)) (w : World K C S I O)
      (did : World K C S I O × List Answer)
      (act : World K C S I O → World K C S I O × List Answer) → PassesBy pdus rest w did
      → PassesBy rest later did.0 (act did.0) → PassesBy pdus later w (and_then did act)
  passes_and_then pdus rest later w did act a b =
      subst (Passes w (act did.0).0 pdus later) (sym (map-append event did.1 (act did.0).1))
      (passes_then w did.0 (act did.0).0 pdus rest later (events did.1) (events (act did.0).1)
      a b)

  -- ---- quiet changes

  quiet_same : (w : World K C S I O) (change : Change) → is_quiet change ≡ true
      → both (changed r m d w change) ≡ both w
  quiet_same w (Gives end pdu) quiet = absurd cc
  quiet_same w (Takes end) quiet = absurd cc
  quiet_same w (Closes end) quiet = absurd cc
  quiet_same w RecyclesIn quiet = absurd cc
  quiet_same w RecyclesOut quiet = absurd cc
  quiet_same w Reports quiet = absurd cc
  quiet_same w change quiet = refl

  all_same : (w : World K C S I O) (changes : List Change) → list_all is_quiet changes ≡ true
      → both (all_changed r m d w changes) ≡ both w
  all_same w [] quiet = refl
  all_same w (change ∷ changes) quiet =
      let parts = and_parts (is_quiet change) (list_all is_quiet changes) quiet in
      all_same (changed r m d w change) changes parts.1 ∙ quiet_same w change parts.0

  quiet_passes : (pdus : List (List ℕ)) (w : World K C S I O)
      (did : World K C S I O × List Answer) → GoesQuietly r m d w did
      → PassesBy pdus pdus w did
  quiet_passes pdus w did goes =
      still w did.0 pdus (events did.1)
      (ap both (sym goes.works.leads.reached)
      ∙ all_same w goes.works.leads.changes goes.works.work) (all_silent did.1 goes.others)

  -- ---- settling

  one_passes : (pdus : List (List ℕ)) (end : Side) (w : World K C S I O)
      → PassesBy pdus pdus w (take_one d end w)
  one_passes pdus end w =
      let did = take d w end in
      took_passes w did.0 pdus end (has_ended w end) did.1 (take_passes w pdus end)

  round_passes : (pdus : List (List ℕ)) (w : World K C S I O)
      → PassesBy pdus pdus w (round r m d w)
  round_passes pdus w =
      let opened = open_all r m w in
      let carried = and_then opened (carry_all r) in
      let both_took = and_then carried (take_both d) in
      let by_client = take_one d Client carried.0 in
      passes_and_then pdus pdus pdus w both_took (end_all r)
      (passes_and_then pdus pdus pdus w carried (take_both d)
      (passes_and_then pdus pdus pdus w opened (carry_all r)
      (quiet_passes pdus w opened (open_goes r m d w))
      (quiet_passes pdus opened.0 (carry_all r opened.0) (carry_all_goes r m d opened.0)))
      (passes_and_then pdus pdus pdus carried.0 by_client (take_one d Server)
      (one_passes pdus Client carried.0) (one_passes pdus Server by_client.0)))
      (quiet_passes pdus both_took.0 (end_all r both_took.0) (end_all_goes r m d both_took.0))

  behind_passes : (pdus : List (List ℕ)) (w : World K C S I O) (count : ℕ)
      (did : World K C S I O × List Answer)
      (rest : World K C S I O → World K C S I O × List Answer) → PassesBy pdus pdus w did
      → ((v : World K C S I O) → PassesBy pdus pdus v (rest v))
      → PassesBy pdus pdus w (behind_round count did rest)
  behind_passes pdus w count (v, []) rest a b =
      passes_then w v v pdus pdus pdus [] (events.Silent ∷ []) a
      (still v v pdus (events.Silent ∷ []) refl refl)
  behind_passes pdus w count (v, one ∷ more) rest a b =
      passes_and_then pdus pdus pdus w (v, one ∷ more) rest a (b v)

  rounds_passes : (pdus : List (List ℕ)) (n count : ℕ) (w : World K C S I O)
      → PassesBy pdus pdus w (rounds_from n count (round r m d) w)
  unfolding rounds_from
  rounds_passes pdus zero count w = still w w pdus (events.Silent ∷ []) refl refl
  rounds_passes pdus (suc n) count w =
      behind_passes pdus w count (round r m d w)
      (λ next. rounds_from n (count + 1) (round r m d) next) (round_passes pdus w)
      (rounds_passes pdus n (count + 1))

  -- ---- lines

  close_passes : (w : World K C S I O) (pdus : List (List ℕ)) (end : Side)
      → Passes w (close d w end).0 pdus pdus (event (close d w end).1 ∷ [])
  close_passes w pdus Client = still w _ pdus (events.Stops Client ∷ []) refl refl
  close_passes w pdus Server = still w _ pdus (events.Stops Server ∷ []) refl refl

  line_passes : (one : Line) (rest : List (List ℕ)) (w : World K C S I O)
      → PassesBy (offer one ++ rest) rest w (step_line r m d one w)
  line_passes (line.Settle rounds) rest w = rounds_passes rest rounds 0 w
  line_passes (line.Give end pdu) rest w = give_passes w pdu rest end
  line_passes (line.Take end) rest w =
      take_passes w rest end (event (answer.Take end (take d w end).1) ∷ [])
      (line_tells end (take d w end).1)
  line_passes (line.Close end) rest w = close_passes w rest end
  line_passes line.RecycleIn rest w =
      still w (recycle_in d.client r.client w).0 rest (events.Silent ∷ []) refl refl
  line_passes line.RecycleOut rest w =
      still w (recycle_out d.server r.server w).0 rest (events.Silent ∷ []) refl refl
  line_passes one rest w =
      quiet_passes rest w (reported (leg_answer r m w one)) (leg_goes r m d one w)

  closed_one : (node : Who) (why : Cause)
      → passes_none (event (answer.NodeClosed node why)) ≡ true
  closed_one who.Client why = refl
  closed_one who.Server why = refl
  closed_one (who.In n) why = refl
  closed_one (who.Out n) why = refl

  closed_lines : (closings : List Closing)
      → list_all passes_none (events (lines closings)) ≡ true
  closed_lines [] = refl
  closed_lines (x ∷ closings) =
      and_from (passes_none (event (answer.NodeClosed x.who x.cause)))
      (list_all passes_none (events (lines closings))) (closed_one x.who x.cause)
      (closed_lines closings)

  pub step_passes : (one : Line) (rest : List (List ℕ)) (w : World K C S I O)
      → PassesBy (offer one ++ rest) rest w (step r m d one w)
  step_passes one rest w =
      let did = step_line r m d one w in
      passes_and_then (offer one ++ rest) rest rest w did tell_closed (line_passes one rest w)
      (still did.0 (tell_closed did.0).0 rest (events (lines did.0.closed)) refl
      (closed_lines did.0.closed))

  -- ---- reports

  -- its last lines are those of a world that counts what it tells of
  pub record CountsTold (w : World K C S I O) (offers : List Line) : Type 0 where
    pub v : World K C S I O
    pub front : List Answer
    pub is : told r m d w offers ≡ front ++ last r d v
    pub passes : Passes w v (offered offers) [] (events front)

  unfoldable pub reports : (offers : List Line) (w : World K C S I O) → CountsTold w offers
  reports [] w = record {
    v = w;
    front = [];
    is = refl;
    passes = still w w [] [] refl refl;
  }
  reports (one ∷ offers) w =
      let did = step r m d one w in
      let more = reports offers did.0 in
      record {
        v = more.v;
        front = did.1 ++ more.front;
        is = ap (λ behind. did.1 ++ behind) more.is
            ∙ sym (append_assoc did.1 more.front (last r d more.v));
        passes = subst (Passes w more.v (offer one ++ offered offers) [])
            (sym (map-append event did.1 more.front))
            (passes_then w did.0 more.v (offer one ++ offered offers) (offered offers) []
            (events did.1) (events more.front) (step_passes one (offered offers) w)
            more.passes);
      }

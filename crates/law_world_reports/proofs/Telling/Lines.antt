-- the tale of each line, of settling and of the report
use Rattle.law_order.proofs.Vocabulary.{◌≡◌, ◌++◌, ◌+◌, ℕ, zero, suc, List, [], ◌∷◌, true, refl, sym, ◌∙◌, subst, inl, inr, list_all, and_parts}
use Rattle.rh_record.specs.Events.Events.{Event}
use Rattle.rh_record.specs.declared.answer.Answer.TheVariants as answer
use Rattle.rh_record.specs.declared.answer.Who.TheVariants as who
use Rattle.rh_record.specs.declared.line.Line.TheVariants as line
use Rattle.rh_record.specs.Events.Events as told_as
use Rattle.law_moves.proofs.Vocabulary.{Side, Client, Server, Cause}
use Rattle.law_node_history.proofs.Vocabulary.{Answer, Who, Line, Silent, event, events, offer, offered, Closing, lines, Rulebook, Deeds, Makers, and_then, open_all, carry_all, take_one, take_both, end_all, round, behind_round, rounds_from, reported, leg_answer, step_line, tell_closed, step, last, told, World, Reports, Quietly, GoesQuietly, is_silent, changed, IsOneOf, HasClosed}
use Rattle.law_node_history.proofs.Lemmas.{works_none, leg_goes, goes_step_line, open_goes, carry_all_goes, end_all_goes}
use Rattle.law_node_history.proofs.ToReport.{closed_to_report}
use Rattle.law_world_reports.proofs.Telling.Adding.{Way, Given, Taken, Stopped, adds, quiet_lines, gains_quiet}
use Rattle.law_world_reports.proofs.Telling.Parts.{part, part_silent, events_append}
use Rattle.law_world_reports.proofs.Telling.Tales.{Idle, Told, Tale, TaleOf, idle_none, tale_append, tale_and_then, tale_one}
use Rattle.law_world_reports.proofs.Telling.Acting.{closes_none, told_one, idle_told, give_tale, take_tale, take_one_tale, close_tale, recycle_in_tale, recycle_out_tale}
use Rattle.law_world_reports.proofs.Vocabulary.{Tells}

pub silent_event : (one : Answer) → is_silent one ≡ true → event one ≡ Silent
silent_event (answer.Give end given) silent = absurd cc
silent_event (answer.Take end taken) silent = absurd cc
silent_event (answer.Close end) silent = absurd cc
silent_event (answer.NodeClosed node why) silent = absurd cc
silent_event one silent = refl

module _ {K C S I O : Type 0} (r : Rulebook C S I O) (m : Makers K I O) (d : Deeds C S) where
  -- ---- quiet changes

  idle_quietly : (w v : World K C S I O) → Quietly r m d w v → Idle r m d w v
  idle_quietly w v quiet = record {
    lines = quiet_lines r m d w v quiet;
    none = gains_quiet r m d w v quiet;
  }

  told_idle : (pdus : List (List ℕ)) (w v : World K C S I O) → Idle r m d w v
      → Told r m d w v pdus Silent
  told_idle pdus w v idle = record {
    at = w;
    before = idle_none r m d w;
    lines = idle.lines;
    gain = λ way end. idle.none way end ∙ sym (part_silent way end pdus);
    tells = tt;
  }

  silent_tale : (pdus : List (List ℕ)) (w v : World K C S I O) (answers : List Answer)
      → Idle r m d w v → list_all is_silent answers ≡ true
      → Tale r m d w v pdus pdus (events answers)
  silent_tale pdus w v [] idle silent = (idle, refl)
  silent_tale pdus w v (one ∷ answers) idle silent =
      let parts = and_parts (is_silent one) (list_all is_silent answers) silent in
      subst (λ first. Tale r m d w v pdus pdus (first ∷ events answers))
      (sym (silent_event one parts.0))
      (v, told_idle pdus w v idle, silent_tale pdus v v answers (idle_none r m d v) parts.1)

  quiet_tale : (pdus : List (List ℕ)) (w : World K C S I O)
      (did : World K C S I O × List Answer) → GoesQuietly r m d w did
      → TaleOf r m d pdus pdus w did
  quiet_tale pdus w did goes =
      silent_tale pdus w did.0 did.1 (idle_quietly w did.0 goes.works) goes.others

  -- ---- settling

  both_tale : (pdus : List (List ℕ)) (w : World K C S I O)
      → TaleOf r m d pdus pdus w (take_both d w)
  both_tale pdus w =
      tale_and_then r m d pdus pdus pdus w (take_one d Client w) (take_one d Server)
      (take_one_tale r m d w pdus Client)
      (take_one_tale r m d (take_one d Client w).0 pdus Server)

  round_tale : (pdus : List (List ℕ)) (w : World K C S I O)
      → TaleOf r m d pdus pdus w (round r m d w)
  round_tale pdus w =
      let opened = open_all r m w in
      let carried = and_then opened (carry_all r) in
      let took = and_then carried (take_both d) in
      tale_and_then r m d pdus pdus pdus w took (end_all r)
      (tale_and_then r m d pdus pdus pdus w carried (take_both d)
      (tale_and_then r m d pdus pdus pdus w opened (carry_all r)
      (quiet_tale pdus w opened (open_goes r m d w))
      (quiet_tale pdus opened.0 (carry_all r opened.0) (carry_all_goes r m d opened.0)))
      (both_tale pdus carried.0))
      (quiet_tale pdus took.0 (end_all r took.0) (end_all_goes r m d took.0))

  behind_tale : (pdus : List (List ℕ)) (w : World K C S I O) (count : ℕ)
      (did : World K C S I O × List Answer)
      (rest : World K C S I O → World K C S I O × List Answer) → TaleOf r m d pdus pdus w did
      → ((v : World K C S I O) → TaleOf r m d pdus pdus v (rest v))
      → TaleOf r m d pdus pdus w (behind_round count did rest)
  behind_tale pdus w count (v, []) rest a b =
      tale_one r m d pdus pdus w v (answer.Quiet count) (told_idle pdus w v a.0) refl
  behind_tale pdus w count (v, one ∷ more) rest a b =
      tale_and_then r m d pdus pdus pdus w (v, one ∷ more) rest a (b v)

  rounds_tale : (pdus : List (List ℕ)) (n count : ℕ) (w : World K C S I O)
      → TaleOf r m d pdus pdus w (rounds_from n count (round r m d) w)
  unfolding rounds_from
  rounds_tale pdus zero count w =
      tale_one r m d pdus pdus w w (answer.Spent count)
      (told_idle pdus w w (idle_none r m d w)) refl
  rounds_tale pdus (suc n) count w =
      behind_tale pdus w count (round r m d w)
      (λ next. rounds_from n (count + 1) (round r m d) next) (round_tale pdus w)
      (rounds_tale pdus n (count + 1))

  -- ---- lines

  line_tale : (one : Line) (rest : List (List ℕ)) (w : World K C S I O)
      → TaleOf r m d (offer one ++ rest) rest w (step_line r m d one w)
  line_tale (line.Settle rounds) rest w = rounds_tale rest rounds 0 w
  line_tale (line.Give end pdu) rest w = give_tale r m d w pdu rest end
  line_tale (line.Take end) rest w = take_tale r m d w rest end
  line_tale (line.Close end) rest w = close_tale r m d w rest end
  line_tale line.RecycleIn rest w = recycle_in_tale r m d w rest
  line_tale line.RecycleOut rest w = recycle_out_tale r m d w rest
  line_tale one rest w = quiet_tale rest w (reported (leg_answer r m w one)) (leg_goes r m d one w)

  -- ---- the nodes that closed

  pub adds_reported : (w : World K C S I O) (way : Way) (end : Side)
      → adds r m d way w Reports end ≡ []
  adds_reported w Given Client = refl
  adds_reported w Given Server = refl
  adds_reported w Taken Client = refl
  adds_reported w Taken Server = refl
  adds_reported w Stopped Client = refl
  adds_reported w Stopped Server = refl

  still : (w : World K C S I O) (pdus : List (List ℕ)) (told : Event)
      → ((way : Way) (end : Side) → part way end pdus told ≡ []) → Tells r m d w [] told
      → Told r m d w w pdus told
  still w pdus told none tells = record {
    at = w;
    before = idle_none r m d w;
    lines = works_none r m d w;
    gain = λ way end. sym (none way end);
    tells = tells;
  }

  closing_tale : (w u : World K C S I O) (pdus : List (List ℕ)) (node : Who) (why : Cause)
      (more : List Event) → HasClosed w.company node why → Tale r m d w u pdus pdus more
      → Tale r m d w u pdus pdus (event (answer.NodeClosed node why) ∷ more)
  closing_tale w u pdus who.Client why more closed tale =
      (w, still w pdus (told_as.Closes Client) (closes_none pdus Client) (why, closed), tale)
  closing_tale w u pdus who.Server why more closed tale =
      (w, still w pdus (told_as.Closes Server) (closes_none pdus Server) (why, closed), tale)
  closing_tale w u pdus (who.In n) why more closed tale =
      (w, told_idle pdus w w (idle_none r m d w), tale)
  closing_tale w u pdus (who.Out n) why more closed tale =
      (w, told_idle pdus w w (idle_none r m d w), tale)

  closings_tale : (w u : World K C S I O) (pdus : List (List ℕ)) (list : List Closing)
      → ((x : Closing) → IsOneOf x list → HasClosed w.company x.who x.cause) → Idle r m d w u
      → Tale r m d w u pdus pdus (events (lines list))
  closings_tale w u pdus [] all idle = (idle, refl)
  closings_tale w u pdus (x ∷ list) all idle =
      closing_tale w u pdus x.who x.cause (events (lines list)) (all x (inl refl))
      (closings_tale w u pdus list (λ y there. all y (inr there)) idle)

  tell_tale : (w : World K C S I O) (pdus : List (List ℕ))
      → ((x : Closing) → IsOneOf x w.closed → HasClosed w.company x.who x.cause)
      → TaleOf r m d pdus pdus w (tell_closed w)
  tell_tale w pdus all =
      let v = changed r m d w Reports in
      closings_tale w v pdus w.closed all (idle_told r m d w v pdus Silent
      (told_one r m d w Reports pdus Silent tt refl
      (λ way end. adds_reported w way end ∙ sym (part_silent way end pdus)) tt)
      (λ way end. part_silent way end pdus))

  -- ---- the report

  pub step_tale : (one : Line) (rest : List (List ℕ)) (w : World K C S I O) → w.closed ≡ []
      → TaleOf r m d (offer one ++ rest) rest w (step r m d one w)
  step_tale one rest w none =
      let did = step_line r m d one w in
      tale_and_then r m d (offer one ++ rest) rest rest w did tell_closed (line_tale one rest w)
      (tell_tale did.0 rest
      (closed_to_report r m d w did.0 none (goes_step_line r m d one w).works.leads))

  -- of the whole run
  pub record Run (w : World K C S I O) (pdus : List (List ℕ)) (told : List Event) : Type 0 where
    pub last : World K C S I O
    pub tale : Tale r m d w last pdus [] told

  pub told_tale : (list : List Line) (w : World K C S I O) → w.closed ≡ []
      → Run w (offered list) (events (told r m d w list))
  told_tale [] w none = record {
    last = w;
    tale = silent_tale [] w w (last r d w) (idle_none r m d w) refl;
  }
  told_tale (one ∷ list) w none =
      let did = step r m d one w in
      let rest = told_tale list did.0 refl in
      record {
        last = rest.last;
        tale = subst (λ (es : List Event). Tale r m d w rest.last (offered (one ∷ list)) [] es)
            (sym (events_append did.1 (told r m d did.0 list)))
            (tale_append r m d w did.0 rest.last (offered (one ∷ list)) (offered list) []
            (events did.1) (events (told r m d did.0 list))
            (step_tale one (offered list) w none) rest.tale);
      }

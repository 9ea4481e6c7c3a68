-- the changes of a line that end legs in time give and take just what its answers tell
use Rattle.std.proofs.Common.{◌≡◌, ◌++◌, ◌+◌, ℕ, List, [], ◌∷◌, Bool, true, false, Some, None, refl, sym, ap, ◌∙◌, subst, append_assoc}
use Rattle.std.specs.Prelude.{IfSome}
use Rattle.std.specs.List.{list_all}
use Rattle.std.specs.declared.option.Option.{Option}
use Rattle.std.proofs.lemmas.Bool.{and_parts}
use Rattle.std.proofs.lemmas.List.{append-nil}
use Rattle.rh_text.specs.declared.ends.Side.{Side}
use Rattle.rh_text.specs.declared.ends.Side.TheVariants as side
use Rattle.rh_line.specs.declared.cause.Cause.{Cause}
use Rattle.rh_record.specs.declared.answer.Answer.{Answer}
use Rattle.rh_record.specs.declared.answer.Answer.TheVariants as answer
use Rattle.rh_record.specs.declared.answer.TakeAnswer.{TakeAnswer}
use Rattle.rh_record.specs.declared.answer.TakeAnswer.TheVariants as takes
use Rattle.rh_record.specs.declared.answer.Who.{Who}
use Rattle.rh_record.specs.declared.answer.Who.TheVariants as who
use Rattle.rh_record.specs.declared.line.Line.{Line}
use Rattle.rh_record.specs.declared.line.Line.TheVariants as line
use Rattle.rh_record.specs.Events.Events as told_as
use Rattle.rh_record.specs.Events.Events.{Event, Silent, event, events, offer}
use Rattle.rh_shell.specs.Ends as ends
use Rattle.rh_company.specs.declared.closing.Closing.{Closing}
use Rattle.rh_company.specs.Closings.{lines}
use Rattle.rh_company.specs.Company.{Rulebook}
use Rattle.rh_nodes.specs.Giving.{Deeds, give_answer, has_ended, take}
use Rattle.rh_nodes.specs.Opening.{Makers}
use Rattle.rh_nodes.specs.Reports.{and_then}
use Rattle.rh_nodes.specs.Settling.{open_all, carry_all, took, take_one, end_all, settle}
use Rattle.rh_nodes.specs.Steps.{leg_answer, reported, step, step_line, tell_closed}
use Rattle.rh_nodes.specs.World.{World}
use Rattle.law_node_history.specs.Changes.{Change, Closes, Gives, MayChange, RecyclesIn, RecyclesOut, Reports, Takes, changed, is_silent, of_line}
use Rattle.law_node_history.proofs.Lines.{leg_goes}
use Rattle.law_node_history.proofs.Rounds.{carry_all_goes, end_all_goes, open_goes, rounds_go}
use Rattle.law_world_reports.proofs.Telling.Acting.{close_gain, closes_none, ends_none, give_gain, left_give, left_take, take_gain, adds_in, adds_out}
use Rattle.law_world_reports.proofs.Telling.Adding.{Way, adds, gains, gains_quiet, gains_then}
use Rattle.law_world_reports.proofs.Telling.Lines.{adds_reported, silent_event}
use Rattle.law_world_reports.proofs.Telling.Parts.{events_append, left, part, part_silent, said, said_more}
use Rattle.law_world_ways.specs.EndsInTime.Both.{AreUpAtBoth}
use Rattle.law_world_ways.specs.EndsInTime.InTime.{ended_by}
use Rattle.law_world_ways.specs.EndsInTime.Losses.{LosesInTime}
use Rattle.law_world_ways.proofs.EndsInTime.Behind.{NoLeg, OrNow}
use Rattle.law_world_ways.proofs.EndsInTime.EachLine.{leg_in_time}
use Rattle.law_world_ways.proofs.EndsInTime.Goes.{InTime, QuietInTime, goes_none, goes_one, goes_then, quiet_in_time}
use Rattle.law_world_ways.proofs.EndsInTime.Rounds.{carry_in_time, ends_in_time, open_in_time, take_in_time}

-- ---- events that tell of no act

silent_says : (way : Way) (end : Side) (pdus : List (List ℕ)) (answers : List Answer)
    (more : List Event) → list_all is_silent answers ≡ true
    → said way end pdus (events answers ++ more) ≡ said way end pdus more
silent_says way end pdus [] more silent = refl
silent_says way end pdus (one ∷ answers) more silent =
    let parts = and_parts (is_silent one) (list_all is_silent answers) silent in
    ap (λ e. said way end pdus (e ∷ (events answers ++ more))) (silent_event one parts.0)
    ∙ said_more way end pdus Silent (events answers ++ more)
    ∙ ap (λ xs. xs ++ said way end pdus (events answers ++ more)) (part_silent way end pdus)
    ∙ silent_says way end pdus answers more parts.1

-- nor does an end that closed
closed_says : (way : Way) (end : Side) (pdus : List (List ℕ)) (node : Who) (why : Cause)
    (more : List Event)
    → said way end pdus (event (answer.NodeClosed node why) ∷ more) ≡ said way end pdus more
closed_says way end pdus who.Client why more =
    said_more way end pdus (told_as.Closes side.Client) more
    ∙ ap (λ xs. xs ++ said way end pdus more) (closes_none pdus side.Client way end)
closed_says way end pdus who.Server why more =
    said_more way end pdus (told_as.Closes side.Server) more
    ∙ ap (λ xs. xs ++ said way end pdus more) (closes_none pdus side.Server way end)
closed_says way end pdus (who.In n) why more =
    said_more way end pdus Silent more
    ∙ ap (λ xs. xs ++ said way end pdus more) (part_silent way end pdus)
closed_says way end pdus (who.Out n) why more =
    said_more way end pdus Silent more
    ∙ ap (λ xs. xs ++ said way end pdus more) (part_silent way end pdus)

closings_say : (way : Way) (end : Side) (pdus : List (List ℕ)) (list : List Closing)
    (more : List Event)
    → said way end pdus (events (lines list) ++ more) ≡ said way end pdus more
closings_say way end pdus [] more = refl
closings_say way end pdus (x ∷ list) more =
    closed_says way end pdus x.who x.cause (events (lines list) ++ more)
    ∙ closings_say way end pdus list more

module _ {K C S I O : Type 0} (r : Rulebook C S I O) (m : Makers K I O) (d : Deeds C S) where
  -- changes that end legs in time, and add to what passed at the ends what the events tell, where
  -- these PDUs are offered and others are left
  pub record Timed (w v : World K C S I O) (pdus rest : List (List ℕ)) (told : List Event)
      : Type 0 where
    pub goes : InTime r m d w v
    pub log : Way → Side → List (List ℕ)
    pub gain : (way : Way) (end : Side) → gains r m d goes.lines way end ≡ log way end
    pub says : (way : Way) (end : Side) (more : List Event)
        → said way end pdus (told ++ more) ≡ log way end ++ said way end rest more

  pub timed_then : (w v u : World K C S I O) (pdus rest last : List (List ℕ))
      (xs ys : List Event) → Timed w v pdus rest xs → Timed v u rest last ys
      → Timed w u pdus last (xs ++ ys)
  timed_then w v u pdus rest last xs ys a b = record {
    goes = goes_then r m d NoLeg w v u a.goes b.goes;
    log = λ way end. a.log way end ++ b.log way end;
    gain = λ way end.
        gains_then r m d w v u a.goes.lines b.goes.lines way end
        ∙ ap (λ front. front ++ gains r m d b.goes.lines way end) (a.gain way end)
        ∙ ap (λ behind. a.log way end ++ behind) (b.gain way end);
    says = λ way end more.
        ap (said way end pdus) (append_assoc xs ys more) ∙ a.says way end (ys ++ more)
        ∙ ap (λ behind. a.log way end ++ behind) (b.says way end more)
        ∙ sym (append_assoc (a.log way end) (b.log way end) (said way end last more));
  }

  -- quiet changes, with answers that tell of no act
  pub timed_quiet : (pdus : List (List ℕ)) (w v : World K C S I O) (answers : List Answer)
      → QuietInTime r m d w v → list_all is_silent answers ≡ true
      → Timed w v pdus pdus (events answers)
  timed_quiet pdus w v answers a silent = record {
    goes = quiet_in_time r m d w v a;
    log = λ way end. [];
    gain = λ way end. gains_quiet r m d w v a.lines way end;
    says = λ way end more. silent_says way end pdus answers more silent;
  }

  -- a change that ends no leg
  abbrev goes_still : (w : World K C S I O) (change : Change) → MayChange r w change
      → of_line change ≡ true → ended_by change ≡ None → InTime r m d w (changed r m d w change)
  goes_still w change may is none =
      goes_one r m d NoLeg w change may is
      (subst (λ o. IfSome o (OrNow r m d NoLeg w)) (sym none) tt)

  -- and of which an event tells
  timed_one : (w : World K C S I O) (change : Change) (pdus rest : List (List ℕ)) (one : Event)
      → MayChange r w change → of_line change ≡ true → ended_by change ≡ None
      → ((way : Way) (end : Side) → adds r m d way w change end ≡ part way end pdus one)
      → left pdus one ≡ rest → Timed w (changed r m d w change) pdus rest (one ∷ [])
  timed_one w change pdus rest one may is none gain same = record {
    goes = goes_still w change may is none;
    log = λ way end. part way end pdus one;
    gain = λ way end. append-nil (adds r m d way w change end) ∙ gain way end;
    says = λ way end more.
        said_more way end pdus one more
        ∙ ap (λ ps. part way end pdus one ++ said way end ps more) same;
  }

  -- ---- a take of a settling, which tells of it or not

  untold : (w v : World K C S I O) (pdus : List (List ℕ)) (one : Event) (goes : InTime r m d w v)
      → ((way : Way) (end : Side) → gains r m d goes.lines way end ≡ part way end pdus one)
      → ((way : Way) (end : Side) → part way end pdus one ≡ []) → Timed w v pdus pdus []
  untold w v pdus one goes gain none = record {
    goes = goes;
    log = λ way end. [];
    gain = λ way end. gain way end ∙ none way end;
    says = λ way end more. refl;
  }

  now_told : (w v : World K C S I O) (pdus : List (List ℕ)) (one : Event)
      (goes : InTime r m d w v)
      → ((way : Way) (end : Side) → gains r m d goes.lines way end ≡ part way end pdus one)
      → left pdus one ≡ pdus → Timed w v pdus pdus (one ∷ [])
  now_told w v pdus one goes gain same = record {
    goes = goes;
    log = λ way end. part way end pdus one;
    gain = gain;
    says = λ way end more.
        said_more way end pdus one more
        ∙ ap (λ ps. part way end pdus one ++ said way end ps more) same;
  }

  took_timed : (w v : World K C S I O) (pdus : List (List ℕ)) (at : Side) (ended : Bool)
      (t : TakeAnswer) (goes : InTime r m d w v)
      → ((way : Way) (end : Side)
      → gains r m d goes.lines way end ≡ part way end pdus (event (answer.Take at t)))
      → Timed w (took at ended (v, t)).0 pdus pdus (events (took at ended (v, t)).1)
  took_timed w v pdus at ended (takes.Pdu pdu) goes gain =
      now_told w v pdus (told_as.Takes at pdu) goes gain refl
  took_timed w v pdus at ended takes.Empty goes gain =
      untold w v pdus Silent goes gain (λ way end. part_silent way end pdus)
  took_timed w v pdus at false takes.Ended goes gain =
      now_told w v pdus (told_as.Ends at) goes gain refl
  took_timed w v pdus at true takes.Ended goes gain =
      untold w v pdus (told_as.Ends at) goes gain (ends_none pdus at)
  took_timed w v pdus at ended (takes.Closed why) goes gain =
      untold w v pdus (told_as.Closes at) goes gain (closes_none pdus at)

  take_timed : (at : Side) (w : World K C S I O) (pdus : List (List ℕ))
      → Timed w (take_one d at w).0 pdus pdus (events (take_one d at w).1)
  take_timed at w pdus =
      took_timed w (take d w at).0 pdus at (has_ended w at) (take d w at).1
      (goes_still w (Takes at) tt refl refl)
      (λ way end. append-nil (adds r m d way w (Takes at) end) ∙ take_gain r m d w pdus at way end)

  -- ---- settling

  abbrev Settles : World K C S I O → World K C S I O × List Answer → Type 0
  Settles w did =
      (pdus : List (List ℕ)) → AreUpAtBoth w
      → AreUpAtBoth did.0 × Timed w did.0 pdus pdus (events did.1)

  none : (w : World K C S I O) → Settles w (w, [])
  none w pdus both = (both, timed_quiet pdus w w [] (goes_none r m d NoLeg w) refl)

  behind : (w : World K C S I O) (did : World K C S I O × List Answer)
      (act : World K C S I O → World K C S I O × List Answer) → Settles w did
      → ((v : World K C S I O) → Settles v (act v)) → Settles w (and_then did act)
  behind w did act a b pdus both =
      let first = a pdus both in
      let next = b did.0 pdus first.0 in (
        next.0,
        subst (λ (es : List Event). Timed w (act did.0).0 pdus pdus es)
            (sym (events_append did.1 (act did.0).1))
            (timed_then w did.0 (act did.0).0 pdus pdus pdus (events did.1)
            (events (act did.0).1) first.1 next.1),
      )

  settle_timed : (rounds : ℕ) (w : World K C S I O) → Settles w (settle r m d rounds w)
  settle_timed rounds =
      rounds_go r m d Settles none behind
      (λ w pdus both. let goes = open_in_time r m d w both in (
        goes.0,
        timed_quiet pdus w (open_all r m w).0 (open_all r m w).1 goes.1 (open_goes r m d w).others,
      ))
      (λ w pdus both. let goes = carry_in_time r m d w both in (
        goes.0,
        timed_quiet pdus w (carry_all r w).0 (carry_all r w).1 goes.1
            (carry_all_goes r m d w).others,
      ))
      (λ at w pdus both. ((take_in_time r m d at w both).0, take_timed at w pdus))
      (λ w pdus both. let goes = ends_in_time r m d w both in (
        goes.0,
        timed_quiet pdus w (end_all r w).0 (end_all r w).1 goes.1 (end_all_goes r m d w).others,
      ))
      (λ w v count a pdus both. let first = a pdus both in (
        first.0,
        timed_then w v v pdus pdus pdus [] (Silent ∷ []) first.1
            (timed_quiet pdus v v (answer.Quiet count ∷ []) (goes_none r m d NoLeg v) refl),
      ))
      (λ w count pdus both. (
        both,
        timed_quiet pdus w w (answer.Spent count ∷ []) (goes_none r m d NoLeg w) refl,
      ))
      rounds 0

  -- ---- lines

  reported_quiet : (w : World K C S I O) (did : World K C S I O × Option Answer)
      → QuietInTime r m d w did.0 → QuietInTime r m d w (reported did).0
  reported_quiet w (v, None) a = a
  reported_quiet w (v, Some one) a = a

  line_timed : (one : Line) (rest : List (List ℕ)) (w : World K C S I O) → AreUpAtBoth w
      → LosesInTime r w one
      → Timed w (step_line r m d one w).0 (offer one ++ rest) rest
      (events (step_line r m d one w).1)
  line_timed (line.Settle rounds) rest w both over = (settle_timed rounds w rest both).1
  line_timed (line.Give side.Client pdu) rest w both over =
      let given = (ends.give d.client w.company.client pdu).1 in
      timed_one w (Gives side.Client pdu) (pdu ∷ rest) rest
      (event (answer.Give side.Client (give_answer pdu given))) tt refl refl
      (give_gain r m d w pdu rest side.Client) (left_give side.Client pdu rest given)
  line_timed (line.Give side.Server pdu) rest w both over =
      let given = (ends.give d.server w.company.server pdu).1 in
      timed_one w (Gives side.Server pdu) (pdu ∷ rest) rest
      (event (answer.Give side.Server (give_answer pdu given))) tt refl refl
      (give_gain r m d w pdu rest side.Server) (left_give side.Server pdu rest given)
  line_timed (line.Take at) rest w both over =
      timed_one w (Takes at) rest rest (event (answer.Take at (take d w at).1)) tt refl refl
      (take_gain r m d w rest at) (left_take at rest (take d w at).1)
  line_timed (line.Close side.Client) rest w both over =
      timed_one w (Closes side.Client) rest rest (told_as.Stops side.Client) tt refl refl
      (close_gain r m d w rest side.Client) refl
  line_timed (line.Close side.Server) rest w both over =
      timed_one w (Closes side.Server) rest rest (told_as.Stops side.Server) tt refl refl
      (close_gain r m d w rest side.Server) refl
  line_timed line.RecycleIn rest w both over =
      timed_one w RecyclesIn rest rest Silent tt refl refl
      (λ way end. adds_in r m d w rest way end ∙ sym (part_silent way end rest)) refl
  line_timed line.RecycleOut rest w both over =
      timed_one w RecyclesOut rest rest Silent tt refl refl
      (λ way end. adds_out r m d w rest way end ∙ sym (part_silent way end rest)) refl
  line_timed one rest w both over =
      let did = leg_answer r m w one in
      timed_quiet rest w (reported did).0 (reported did).1
      (reported_quiet w did (leg_in_time r m d w one over)) (leg_goes r m d one w).others

  -- the nodes that closed are told
  tell_timed : (w : World K C S I O) (pdus : List (List ℕ))
      → Timed w (tell_closed w).0 pdus pdus (events (tell_closed w).1)
  tell_timed w pdus = record {
    goes = goes_still w Reports tt refl refl;
    log = λ way end. [];
    gain = λ way end. append-nil (adds r m d way w Reports end) ∙ adds_reported r m d w way end;
    says = λ way end more. closings_say way end pdus w.closed more;
  }

  pub step_timed : (one : Line) (rest : List (List ℕ)) (w : World K C S I O) → AreUpAtBoth w
      → LosesInTime r w one
      → Timed w (step r m d one w).0 (offer one ++ rest) rest (events (step r m d one w).1)
  step_timed one rest w both over =
      let did = step_line r m d one w in
      subst (λ (es : List Event). Timed w (step r m d one w).0 (offer one ++ rest) rest es)
      (sym (events_append did.1 (lines did.0.closed)))
      (timed_then w did.0 (step r m d one w).0 (offer one ++ rest) rest rest (events did.1)
      (events (lines did.0.closed)) (line_timed one rest w both over) (tell_timed did.0 rest))

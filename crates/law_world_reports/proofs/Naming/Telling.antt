-- each answer of an end that closed names its cause
use Rattle.law_order.proofs.Vocabulary.{◌≡◌, ◌++◌, ◌+◌, ℕ, zero, suc, List, [], ◌∷◌, Bool, true, false, IsTrue, Some, refl, sym, ap, ◌∙◌, subst, inl, inr, list_all, and_parts, false≢true}
use Rattle.rh_record.specs.declared.answer.Answer.TheVariants as answer
use Rattle.rh_record.specs.declared.answer.TakeAnswer.TheVariants as takes
use Rattle.rh_record.specs.declared.answer.Who.TheVariants as who
use Rattle.rh_record.specs.declared.line.Line.TheVariants as line
use Rattle.law_moves.proofs.Vocabulary.{Side, Client, Server, Cause}
use Rattle.law_node_history.proofs.Vocabulary.{Answer, TakeAnswer, Who, Line, Closing, lines, Company, Rulebook, Deeds, give, has_ended, recycle_in, recycle_out, take, Makers, and_then, open_all, carry_all, took, take_one, take_both, end_all, round, behind_round, rounds_from, last, last_of, step, step_line, told, World, Takes, GoesQuietly, HasClosed, IsOneOf}
use Rattle.law_node_history.proofs.Lemmas.{is_other, goes_step_line}
use Rattle.law_world_reports.proofs.Naming.Naming.{AllName, all_append, all_closings, all_name_it, all_others, names_append, names_closings, names_more, names_none, names_one, names_other, names_past}
use Rattle.law_world_reports.proofs.Naming.Speaking.{carries_say, ends_say, leg_says, opens_say}
use Rattle.law_world_reports.proofs.Naming.Standing.{Stands}
use Rattle.law_world_reports.proofs.Vocabulary.{node_of, Names, NamesIt, cause_told, tells_of}

-- ---- the node that an answer reports as closed

node_told : Answer → Who
node_told (answer.NodeClosed node why) = node
node_told one = who.Client

why_told : Cause → Answer → Cause
why_told other (answer.NodeClosed node why) = why
why_told other one = other

-- it stands among the closings
closing_told : {C S I O : Type 0} (c : Company C S I O) (node : Who) (why : Cause)
    (list : List Closing) → ((x : Closing) → IsOneOf x list → HasClosed c x.who x.cause)
    → IsOneOf (answer.NodeClosed node why) (lines list) → HasClosed c node why
unfolding node_told why_told
closing_told c node why [] all there = absurd there
closing_told c node why (x ∷ list) all (inl here) =
    subst (λ (one : Answer). HasClosed c (node_told one) (why_told why one)) here
    (all x (inl refl))
closing_told c node why (x ∷ list) all (inr there) =
    closing_told c node why list (λ y h. all y (inr h)) there

-- and so behind answers that tell of others
told_behind : (node : Who) (why : Cause) (xs ys : List Answer) → list_all is_other xs ≡ true
    → IsOneOf (answer.NodeClosed node why) (xs ++ ys)
    → IsOneOf (answer.NodeClosed node why) ys
told_behind node why [] ys others there = there
told_behind node why (x ∷ xs) ys others (inl here) =
    absurd (false≢true (ap is_other (sym here)
    ∙ (and_parts (is_other x) (list_all is_other xs) others).0))
told_behind node why (x ∷ xs) ys others (inr there) =
    told_behind node why xs ys (and_parts (is_other x) (list_all is_other xs) others).1 there

module _ {K C S I O : Type 0} (r : Rulebook C S I O) (m : Makers K I O) (d : Deeds C S)
    (stands : Stands r m d) where
  -- ---- at one end, an answer about another or this

  give_told : (end at : Side) (why : Cause) (w : World K C S I O) (pdu : List ℕ)
      → HasClosed w.company (node_of end) why → IsTrue (tells_of end (give d w at pdu).1)
      → cause_told (give d w at pdu).1 ≡ Some why
  give_told Client Client why w pdu closed tells =
      ap cause_told ((stands.client w why closed).give pdu)
  give_told Client Server why w pdu closed tells = absurd cc
  give_told Server Client why w pdu closed tells = absurd cc
  give_told Server Server why w pdu closed tells =
      ap cause_told ((stands.server w why closed).give pdu)

  take_told : (end at : Side) (why : Cause) (w : World K C S I O)
      → HasClosed w.company (node_of end) why
      → IsTrue (tells_of end (answer.Take at (take d w at).1))
      → cause_told (answer.Take at (take d w at).1) ≡ Some why
  take_told Client Client why w closed tells =
      ap (λ t. cause_told (answer.Take Client t)) (stands.client w why closed).take
  take_told Client Server why w closed tells = absurd cc
  take_told Server Client why w closed tells = absurd cc
  take_told Server Server why w closed tells =
      ap (λ t. cause_told (answer.Take Server t)) (stands.server w why closed).take

  last_told : (end at : Side) (why : Cause) (w : World K C S I O)
      → HasClosed w.company (node_of end) why → IsTrue (tells_of end (last_of r d w at))
      → cause_told (last_of r d w at) ≡ Some why
  last_told Client Client why w closed tells = ap cause_told (stands.client w why closed).last
  last_told Client Server why w closed tells = absurd cc
  last_told Server Client why w closed tells = absurd cc
  last_told Server Server why w closed tells = ap cause_told (stands.server w why closed).last

  module _ (end : Side) (why : Cause) where
    abbrev IsClosed : World K C S I O → Type 0
    IsClosed w = HasClosed w.company (node_of end) why

    -- the end is closed behind what was done, and each answer of it names the cause
    record NamesBy (did : World K C S I O × List Answer) : Type 0 where
      closed : IsClosed did.0
      names : Names end why did.1

    by_then : (did : World K C S I O × List Answer)
        (act : World K C S I O → World K C S I O × List Answer) → NamesBy did
        → ((v : World K C S I O) → IsClosed v → NamesBy (act v)) → NamesBy (and_then did act)
    by_then did act a b =
        let more = b did.0 a.closed in
        record {
          closed = more.closed;
          names = names_append end why did.1 (act did.0).1 a.names more.names;
        }

    by_quietly : (w : World K C S I O) (did : World K C S I O × List Answer) → IsClosed w
        → GoesQuietly r m d w did → Names end why did.1 → NamesBy did
    by_quietly w did closed goes names = record {
      closed = stands.ever why (node_of end) w did.0 goes.works.leads closed;
      names = names;
    }

    -- ---- settling

    took_names : (at : Side) (ended : Bool) (did : World K C S I O × TakeAnswer)
        → IsClosed did.0
        → (IsTrue (tells_of end (answer.Take at did.1))
        → cause_told (answer.Take at did.1) ≡ Some why)
        → NamesBy (took at ended did)
    took_names at ended (v, takes.Pdu pdu) closed told = record {
      closed = closed;
      names = names_one end why (answer.Take at (takes.Pdu pdu)) told;
    }
    took_names at ended (v, takes.Empty) closed told =
        record { closed = closed; names = names_none end why }
    took_names at false (v, takes.Ended) closed told =
        record { closed = closed; names = names_one end why (answer.Take at takes.Ended) told }
    took_names at true (v, takes.Ended) closed told =
        record { closed = closed; names = names_none end why }
    took_names at ended (v, takes.Closed first) closed told =
        record { closed = closed; names = names_none end why }

    take_names : (at : Side) (w : World K C S I O) → IsClosed w → NamesBy (take_one d at w)
    take_names at w closed =
        took_names at (has_ended w at) (take d w at)
        (stands.change why (node_of end) w (Takes at) closed tt) (take_told end at why w closed)

    round_names : (w : World K C S I O) → IsClosed w → NamesBy (round r m d w)
    round_names w closed =
        by_then (and_then (and_then (open_all r m w) (carry_all r)) (take_both d)) (end_all r)
        (by_then (and_then (open_all r m w) (carry_all r)) (take_both d)
        (by_then (open_all r m w) (carry_all r)
        (by_quietly w (open_all r m w) closed (stands.opens w) (opens_say r m end why w))
        (λ v shut. by_quietly v (carry_all r v) shut (stands.carries v)
        (carries_say r m end why v)))
        (λ v shut. by_then (take_one d Client v) (take_one d Server) (take_names Client v shut)
        (take_names Server)))
        (λ v shut. by_quietly v (end_all r v) shut (stands.ends v) (ends_say r m end why v))

    behind_names : (count : ℕ) (did : World K C S I O × List Answer)
        (rest : World K C S I O → World K C S I O × List Answer) → NamesBy did
        → ((v : World K C S I O) → IsClosed v → NamesBy (rest v))
        → NamesBy (behind_round count did rest)
    behind_names count (v, []) rest a b =
        record { closed = a.closed; names = names_other end why (answer.Quiet count) refl }
    behind_names count (v, one ∷ more) rest a b = by_then (v, one ∷ more) rest a b

    rounds_name : (n count : ℕ) (w : World K C S I O) → IsClosed w
        → NamesBy (rounds_from n count (round r m d) w)
    unfolding rounds_from
    rounds_name zero count w closed =
        record { closed = closed; names = names_other end why (answer.Spent count) refl }
    rounds_name (suc n) count w closed =
        behind_names count (round r m d w) (λ next. rounds_from n (count + 1) (round r m d) next)
        (round_names w closed) (rounds_name n (count + 1))

    -- ---- lines

    line_names : (one : Line) (w : World K C S I O) → IsClosed w
        → Names end why (step_line r m d one w).1
    line_names (line.Settle rounds) w closed = (rounds_name rounds 0 w closed).names
    line_names (line.Give at pdu) w closed =
        names_one end why (give d w at pdu).1 (give_told end at why w pdu closed)
    line_names (line.Take at) w closed =
        names_one end why (answer.Take at (take d w at).1) (take_told end at why w closed)
    line_names (line.Close Client) w closed = names_other end why (answer.Close Client) refl
    line_names (line.Close Server) w closed = names_other end why (answer.Close Server) refl
    line_names line.RecycleIn w closed =
        names_other end why (recycle_in d.client r.client w).1 refl
    line_names line.RecycleOut w closed =
        names_other end why (recycle_out d.server r.server w).1 refl
    line_names one w closed = leg_says r m end why one w

    step_names : (one : Line) (w : World K C S I O) → IsClosed w → NamesBy (step r m d one w)
    step_names one w closed =
        let did = step_line r m d one w in
        record {
          closed = stands.ever why (node_of end) w (step r m d one w).0 (stands.line one w) closed;
          names = names_append end why did.1 (lines did.0.closed) (line_names one w closed)
              (names_closings end why did.0.closed);
        }

    last_names : (w : World K C S I O) → IsClosed w → Names end why (last r d w)
    last_names w closed =
        let at_client = last_of r d w Client in
        let at_server = last_of r d w Server in
        names_past end why (answer.Up w.up.given w.up.taken)
        (answer.Down w.down.given w.down.taken ∷ at_client ∷ at_server ∷ []) refl
        (names_past end why (answer.Down w.down.given w.down.taken) (at_client ∷ at_server ∷ [])
        refl (names_more end why at_client (at_server ∷ []) (last_told end Client why w closed)
        (names_one end why at_server (last_told end Server why w closed))))

    told_names : (list : List Line) (w : World K C S I O) → IsClosed w
        → Names end why (told r m d w list)
    told_names [] w closed = last_names w closed
    told_names (one ∷ list) w closed =
        let did = step r m d one w in
        let first = step_names one w closed in
        names_append end why did.1 (told r m d did.0 list) first.names
        (told_names list did.0 first.closed)

  -- ---- from the report of the close on

  step_all : (one : Line) (w : World K C S I O) → AllName (step r m d one w).1
  step_all one w =
      let did = step_line r m d one w in
      all_append did.1 (lines did.0.closed)
      (all_others did.1 (goes_step_line r m d one w).others) (all_closings did.0.closed)
      (λ end why there. names_closings end why did.0.closed)

  step_closes : (one : Line) (w : World K C S I O) (node : Who) (why : Cause) → w.closed ≡ []
      → IsOneOf (answer.NodeClosed node why) (step r m d one w).1
      → HasClosed (step r m d one w).0.company node why
  step_closes one w node why none there =
      let did = step_line r m d one w in
      closing_told did.0.company node why did.0.closed
      (stands.to_report w did.0 none (stands.unreported one w).leads)
      (told_behind node why did.1 (lines did.0.closed) (goes_step_line r m d one w).others there)

  told_all : (list : List Line) (w : World K C S I O) → w.closed ≡ []
      → AllName (told r m d w list)
  told_all [] w none = all_others (last r d w) refl
  told_all (one ∷ list) w none =
      let did = step r m d one w in
      all_append did.1 (told r m d did.0 list) (step_all one w) (told_all list did.0 refl)
      (λ end why there. told_names end why list did.0
      (step_closes one w (node_of end) why none there))

  pub told_name_it : (list : List Line) (w : World K C S I O) → w.closed ≡ []
      → NamesIt (told r m d w list)
  told_name_it list w none = all_name_it (told r m d w list) (told_all list w none)

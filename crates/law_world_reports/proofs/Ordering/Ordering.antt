-- the order law of the events of a report
use Rattle.rh_text.specs.declared.ends.Side.TheVariants as side
use Rattle.law_order.proofs.Vocabulary.{◌≡◌, ◌++◌, ℕ, List, [], ◌∷◌, true, refl, sym, ap, ◌∙◌, subst, inl, inr, take, drop, append_assoc, append-nil, append_cancel_left, take-append-drop}
use Rattle.rh_record.specs.Events.Events.{Event, Ends, Closes}
use Rattle.law_moves.proofs.Vocabulary.{Side, Shell, IsClosed}
use Rattle.law_role_inproxy.proofs.Vocabulary.{InProxy}
use Rattle.law_role_client.proofs.Vocabulary.{ClientRole}
use Rattle.law_role_server.proofs.Vocabulary.{Server, is_closing}
use Rattle.law_node_history.proofs.Vocabulary.{Stops, StopsTaking, StopsGiving, other, given, taken, IsPrefix, Makers, World, Change, Leads, of_line, AreRuns, History, all_noted, nothing}
use Rattle.law_node_history.specs.Changes as changes
use Rattle.law_role_outproxy.proofs.Vocabulary.{OutProxy}
use Rattle.law_node_streams.specs.Streams.{all_given}
use Rattle.law_node_traces.proofs.Vocabulary.{deeds, rules}
use Rattle.law_world_reports.proofs.Telling.Behind.{taken_append}
use Rattle.law_world_reports.proofs.Vocabulary.{Moment, GoesOn, end_events, end_given, until, in_the_end, GivesUntilClosing, IsClosing, KeepsOrder}

-- a list that goes on and is still a front of itself goes on with nothing
pub nothing_more : (all more : List (List ℕ)) → IsPrefix (all ++ more) all → more ≡ []
nothing_more all more (rest, is) =
    let none : more ++ rest ≡ [] =
    append_cancel_left all (more ++ rest) []
    (sym (append_assoc all more rest) ∙ sym is ∙ sym (append-nil all)) in
    first_empty more none
  where
    first_empty : (xs : List (List ℕ)) → xs ++ rest ≡ [] → xs ≡ []
    first_empty [] e = refl
    first_empty (x ∷ xs) e = absurd cc

-- what the laws of reports and histories say of a run and the events of its report, where these
-- PDUs were offered
pub record Telling {K : Type 0} (m : Makers K InProxy OutProxy)
    (w : World K ClientRole Server InProxy OutProxy) (pdus : List (List ℕ)) (all : List Event)
    : Type 0 where
  pub moment : (front behind : List Event) → all ≡ front ++ behind
      → Moment rules m deeds w pdus front behind
  pub gives_no_more : (front behind : List Event)
      (at : Moment rules m deeds w pdus front behind) (end : Side)
      → end_given rules deeds w.company (in_the_end at) end
      ≡ end_given rules deeds w.company (until at) end
      → given end pdus (front ++ behind) ≡ given end pdus front
  pub closed_takes : (end : Side) (front behind : List Event)
      → all ≡ front ++ Closes end ∷ behind → taken end behind ≡ []
  pub closed_gives : (end : Side) (front behind : List Event)
      → all ≡ front ++ Closes end ∷ behind → given end pdus all ≡ given end pdus front
  pub goes_on : (v : World K ClientRole Server InProxy OutProxy) (h : History)
      (later : List Change) (end : Side)
      → GoesOn (end_events (all_noted rules m deeds v h later) end) (end_events h end)
  pub closes_on : (v : World K ClientRole Server InProxy OutProxy) (h : History)
      (rest : List Change) (end : Side)
      → GoesOn (end_events (all_noted rules m deeds v h (changes.Closes end ∷ rest)) end)
      (end_events h end ++ IsClosed ∷ [])
  pub runs : (v : World K ClientRole Server InProxy OutProxy) (leads : Leads rules m deeds w v)
      → AreRuns rules m deeds w.company v (all_noted rules m deeds w nothing leads.changes)
  pub client : GivesUntilClosing rules.client deeds.client (λ (s : ClientRole). s.is_closing)
      w.company.client
  pub server : GivesUntilClosing rules.server deeds.server (λ (s : Server). is_closing s.giving)
      w.company.server

module _ {K : Type 0} (m : Makers K InProxy OutProxy)
    (w : World K ClientRole Server InProxy OutProxy) (pdus : List (List ℕ)) (all : List Event)
    (telling : Telling m w pdus all) where
  -- ---- an end that gives no more

  -- from a moment on at which it was told to close
  pub closing_gives : (front behind : List Event) (at : Moment rules m deeds w pdus front behind)
      (end : Side) → IsClosing at.v end
      → end_given rules deeds w.company (in_the_end at) end
      ≡ end_given rules deeds w.company (until at) end
  closing_gives front behind at side.Client closing =
      let on = telling.goes_on at.v (until at) at.after.leads.changes side.Client in
      ap (all_given rules.client deeds.client w.company.client) on.1
      ∙ telling.client.told (until at).client on.0
      (subst (λ (s : Shell ClientRole). s.role.is_closing ≡ true)
      (telling.runs at.v at.before.leads).client closing)
  closing_gives front behind at side.Server closing =
      let on = telling.goes_on at.v (until at) at.after.leads.changes side.Server in
      ap (all_given rules.server deeds.server w.company.server) on.1
      ∙ telling.server.told (until at).server on.0
      (subst (λ (s : Shell Server). is_closing s.role.giving ≡ true)
      (telling.runs at.v at.before.leads).server closing)

  -- from a moment on at which it is told
  told_gives : (v : World K ClientRole Server InProxy OutProxy) (h : History)
      (rest : List Change) (end : Side)
      → end_given rules deeds w.company (all_noted rules m deeds v h (changes.Closes end ∷ rest))
      end
      ≡ end_given rules deeds w.company h end
  told_gives v h rest side.Client =
      let on = telling.closes_on v h rest side.Client in
      ap (all_given rules.client deeds.client w.company.client) on.1
      ∙ telling.client.close h.client on.0
  told_gives v h rest side.Server =
      let on = telling.closes_on v h rest side.Server in
      ap (all_given rules.server deeds.server w.company.server) on.1
      ∙ telling.server.close h.server on.0

  stopped_gives : (end : Side) (front behind : List Event)
      → all ≡ front ++ Stops end ∷ behind → given end pdus all ≡ given end pdus front
  stopped_gives end front behind e =
      let at = telling.moment front (Stops end ∷ behind) e in
      ap (given end pdus) e
      ∙ telling.gives_no_more front (Stops end ∷ behind) at end
      (ap (λ later. end_given rules deeds w.company (all_noted rules m deeds at.v (until at) later)
      end) at.next.1
      ∙ told_gives at.v (until at) at.next.0 end)

  pub none_given_after : (end : Side) (front behind : List Event) (stop : Event)
      → all ≡ front ++ stop ∷ behind → StopsGiving end stop
      → given end pdus all ≡ given end pdus front
  none_given_after end front behind stop e (inl is) =
      telling.closed_gives end front behind (e ∙ ap (λ x. front ++ x ∷ behind) is)
  none_given_after end front behind stop e (inr is) =
      stopped_gives end front behind (e ∙ ap (λ x. front ++ x ∷ behind) is)

  -- ---- where order is kept

  module _ (law : KeepsOrder of_line m w) where
    front_in_order : (end : Side) (front behind : List Event) → all ≡ front ++ behind
        → IsPrefix (taken end front) (given (other end) pdus front)
    front_in_order end front behind e =
        let at = telling.moment front behind e in
        let is = law.front at.v at.before end in (
          is.0,
          at.here.gives (other end) ∙ is.1
              ∙ ap (λ front. front ++ is.0) (sym (at.here.takes end)),
        )

    pub in_order : (end : Side) (k : ℕ)
        → IsPrefix (taken end (take k all)) (given (other end) pdus (take k all))
    in_order end k = front_in_order end (take k all) (drop k all) (sym (take-append-drop k all))

    pub all_at_clean_end : (end : Side) (front behind : List Event)
        → all ≡ front ++ Ends end ∷ behind → taken end front ≡ given (other end) pdus front
    all_at_clean_end end front behind e =
        let at = telling.moment front (Ends end ∷ behind) e in
        at.here.takes end ∙ (law.clean at.v at.before end at.next).all
        ∙ sym (at.here.gives (other end))

    -- behind a clean end the other end gives no more, and what is taken is a front of what it gave
    ended_takes : (end : Side) (front behind : List Event)
        → all ≡ front ++ Ends end ∷ behind → taken end behind ≡ []
    ended_takes end front behind e =
        let at = telling.moment front (Ends end ∷ behind) e in
        let still : given (other end) pdus (front ++ Ends end ∷ behind) ≡ taken end front =
        telling.gives_no_more front (Ends end ∷ behind) at (other end)
        (closing_gives front (Ends end ∷ behind) at (other end)
        (law.clean at.v at.before end at.next).closing)
        ∙ sym (all_at_clean_end end front behind e) in
        let whole = front_in_order end (front ++ Ends end ∷ behind) []
        (e ∙ sym (append-nil (front ++ Ends end ∷ behind))) in
        nothing_more (taken end front) (taken end behind) (
          whole.0,
          sym still ∙ whole.1
              ∙ ap (λ xs. xs ++ whole.0) (taken_append end front (Ends end ∷ behind)),
        )

    pub none_taken_after : (end : Side) (front behind : List Event) (stop : Event)
        → all ≡ front ++ stop ∷ behind → StopsTaking end stop → taken end behind ≡ []
    none_taken_after end front behind stop e (inl is) =
        telling.closed_takes end front behind (e ∙ ap (λ x. front ++ x ∷ behind) is)
    none_taken_after end front behind stop e (inr is) =
        ended_takes end front behind (e ∙ ap (λ x. front ++ x ∷ behind) is)

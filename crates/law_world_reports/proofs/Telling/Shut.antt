-- an end that closed gives and takes nothing any more
use Rattle.rh_text.specs.declared.ends.Side.TheVariants as side
use Rattle.law_order.proofs.Vocabulary.{◌≡◌, ◌++◌, ℕ, List, [], ◌∷◌, true, refl, ap, ◌∙◌, append-nil}
use Rattle.law_moves.proofs.Vocabulary.{Side, Cause, Course, Going, Closed, Refusing, cause_of, give_where, Acts, Shell, accepted, handed_by, ClosedWith}
use Rattle.law_node_history.proofs.Vocabulary.{Company, Rulebook, Deeds, Makers, World, Change, Gives, Takes, Closes, RecyclesIn, RecyclesOut, Reports, AreAllowed, Leads, changed, HasClosed, AreRuns, History, all_noted}
use Rattle.law_node_history.proofs.Lemmas.{closed_stays}
use Rattle.law_world_reports.proofs.Telling.Acting.{gives_take_none, takes_give_none, adds_closed, adds_in, adds_out}
use Rattle.law_world_reports.proofs.Telling.Lines.{adds_reported}
use Rattle.law_world_reports.proofs.Telling.Adding.{Way, Given, Taken, Stopped, EndsRun, adds, adds_none, all_add, all_add_to, is_of_pdus, passed}
use Rattle.law_world_reports.proofs.Vocabulary.{StandsStill, node_of}

module _ {S : Type 0} (acts : Acts S) (s : Shell S) (why : Cause) where
  shut_give : (course : Course) (pdu : List ℕ) → ClosedWith why course
      → accepted pdu (give_where acts s pdu (cause_of course)).1 ++ [] ≡ []
  shut_give Going pdu closed = absurd closed
  shut_give (Closed first) pdu closed = refl
  shut_give (Refusing first leg rest) pdu closed = refl

  shut_take : (course : Course) → ClosedWith why course
      → handed_by acts s (cause_of course) ++ [] ≡ []
  shut_take Going closed = absurd closed
  shut_take (Closed first) closed = refl
  shut_take (Refusing first leg rest) closed = refl

module _ {K C S I O : Type 0} (r : Rulebook C S I O) (m : Makers K I O) (d : Deeds C S)
    (why : Cause) where
  shut_given : (w : World K C S I O) (end at : Side) (pdu : List ℕ)
      → HasClosed w.company (node_of end) why → adds r m d Given w (Gives at pdu) end ≡ []
  shut_given w side.Client side.Client pdu closed =
      shut_give d.client w.company.client why w.company.client.course pdu closed
  shut_given w side.Client side.Server pdu closed = refl
  shut_given w side.Server side.Client pdu closed = refl
  shut_given w side.Server side.Server pdu closed =
      shut_give d.server w.company.server why w.company.server.course pdu closed

  shut_taken : (w : World K C S I O) (end at : Side)
      → HasClosed w.company (node_of end) why → adds r m d Taken w (Takes at) end ≡ []
  shut_taken w side.Client side.Client closed =
      shut_take d.client w.company.client why w.company.client.course closed
  shut_taken w side.Client side.Server closed = refl
  shut_taken w side.Server side.Client closed = refl
  shut_taken w side.Server side.Server closed =
      shut_take d.server w.company.server why w.company.server.course closed

  shut_adds : (way : Way) (w : World K C S I O) (change : Change) (end : Side)
      → is_of_pdus way ≡ true → HasClosed w.company (node_of end) why
      → adds r m d way w change end ≡ []
  shut_adds Stopped w change end is closed = absurd cc
  shut_adds Given w (Gives at pdu) end is closed = shut_given w end at pdu closed
  shut_adds Taken w (Gives at pdu) end is closed = gives_take_none r m d w pdu [] end at
  shut_adds Given w (Takes at) end is closed = takes_give_none r m d w [] end at
  shut_adds Taken w (Takes at) end is closed = shut_taken w end at closed
  shut_adds way w (Closes at) end is closed = adds_closed r m d w [] way end at is
  shut_adds way w RecyclesIn end is closed = adds_in r m d w [] way end
  shut_adds way w RecyclesOut end is closed = adds_out r m d w [] way end
  shut_adds way w Reports end is closed = adds_reported r m d w way end
  shut_adds way w change end is closed = adds_none r m d way w change end refl

  shut_all : (way : Way) (w : World K C S I O) (changes : List Change) (end : Side)
      → is_of_pdus way ≡ true → AreAllowed r m d w changes
      → HasClosed w.company (node_of end) why → all_add r m d way w changes end ≡ []
  shut_all way w [] end is allowed closed = refl
  shut_all way w (change ∷ changes) end is allowed closed =
      let v = changed r m d w change in
      ap (λ front. front ++ all_add r m d way v changes end)
      (shut_adds way w change end is closed)
      ∙ shut_all way v changes end is allowed.1
      (closed_stays r m d why (node_of end) w change closed allowed.0)

  pub stays_passed : (way : Way) (first : Company C S I O) (v u : World K C S I O) (h : History)
      (leads : Leads r m d v u) (end : Side) → is_of_pdus way ≡ true → EndsRun r m d first v h
      → HasClosed v.company (node_of end) why
      → passed r d way first (all_noted r m d v h leads.changes) end ≡ passed r d way first h end
  stays_passed way first v u h leads end is runs closed =
      all_add_to r m d way first v h leads.changes end leads.allowed runs
      ∙ ap (λ more. passed r d way first h end ++ more)
      (shut_all way v leads.changes end is leads.allowed closed)
      ∙ append-nil (passed r d way first h end)

module _ {K C S I O : Type 0} (r : Rulebook C S I O) (m : Makers K I O) (d : Deeds C S) where
  pub stands_still : (first : Company C S I O) (v u : World K C S I O) (h : History)
      (leads : Leads r m d v u) (end : Side) (why : Cause) → AreRuns r m d first v h
      → HasClosed v.company (node_of end) why → StandsStill r m d first v h leads.changes end
  stands_still first v u h leads end why runs closed =
      let run : EndsRun r m d first v h =
      record { client = runs.client; server = runs.server } in
      record {
        gives = stays_passed r m d why Given first v u h leads end refl run closed;
        takes = stays_passed r m d why Taken first v u h leads end refl run closed;
      }

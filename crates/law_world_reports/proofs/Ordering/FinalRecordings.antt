-- a clean end of a recording is final, whatever its form
use Rattle.law_order.proofs.Vocabulary.{◌≡◌, ◌++◌, ℕ, List, [], ◌∷◌, Bool, true, false, Ok, Err, refl, sym, subst, list_all, Result, and_from, and_parts, false≢true}
use Rattle.rh_record.specs.Events.Events.{Ends, Event}
use Rattle.rh_record.specs.declared.answer.Answer.TheVariants as answer
use Rattle.rh_nodes.specs.Steps as steps
use Rattle.law_moves.proofs.Vocabulary.{Side, GiveFault}
use Rattle.law_node_history.proofs.Vocabulary.{Answer, Line, First, Set, Give, event, events, given, offered, other}
use Rattle.rh_world.specs.Direct as direct
use Rattle.rh_world.specs.Roles as roles
use Rattle.law_world_reports.proofs.Vocabulary.{Direct, WorldConfig, run, told, AreInRange, Deed, Offers, Asks, Draws, Feeds, Nothing, deed, OffersBehindFirst}
use Rattle.law_world_reports.proofs.Ordering.Recorded.{roles_hold}
use Rattle.law_world_reports.specs.Ordering.Final.{EndsForGood}

-- ---- direct recordings: no end is told of

abbrev is_no_end : Event → Bool
is_no_end (Ends end) = false
is_no_end told = true

none_ends : (told : List Event) → list_all is_no_end told ≡ true → (end : Side)
    (front behind : List Event) → told ≡ front ++ Ends end ∷ behind → ⊥
none_ends told all end front behind is =
    at front (subst (λ (es : List Event). list_all is_no_end es ≡ true) is all)
  where
    at : (xs : List Event) → list_all is_no_end (xs ++ Ends end ∷ behind) ≡ true → ⊥
    at [] all = false≢true all
    at (x ∷ xs) all =
        at xs (and_parts (is_no_end x) (list_all is_no_end (xs ++ Ends end ∷ behind)) all).1

-- so they are in order for want of any
no_ends : (lines : List Line) (report : List Answer)
    → list_all is_no_end (events report) ≡ true → EndsForGood lines report
no_ends lines report all = record {
  told = λ end front behind is. absurd (none_ends (events report) all end front behind is);
  gives_none = λ end front behind is. absurd (none_ends (events report) all end front behind is);
}

give_no_end : (side : Side) (result : Result ℕ GiveFault)
    → is_no_end (event (answer.Give side result)) ≡ true
give_no_end side (Ok len) = refl
give_no_end side (Err fault) = refl

take_no_end : (side : Side) (way : direct.Way) (pdus : List (List ℕ))
    → is_no_end (event (answer.Take side (direct.take_from pdus way).1)) ≡ true
take_no_end side way [] = refl
take_no_end side way (pdu ∷ pdus) = refl

one_more : (w : direct.World) (done : Deed) (more : List Answer)
    → list_all is_no_end (events more) ≡ true
    → list_all is_no_end (events ((direct.act w done).1 ++ more)) ≡ true
one_more w (Offers side pdu) more all =
    let given = (direct.give (direct.way_of w (direct.giving side)) pdu).1 in
    and_from (is_no_end (event (answer.Give side given))) (list_all is_no_end (events more))
    (give_no_end side given) all
one_more w (Asks side) more all =
    let way = direct.way_of w (direct.taking side) in
    and_from (is_no_end (event (answer.Take side (direct.take_pdu way).1)))
    (list_all is_no_end (events more)) (take_no_end side way way.untaken) all
one_more w (Draws dir count) more all = all
one_more w (Feeds dir count) more all = all
one_more w Nothing more all = all

direct_none : (lines : List Line) (w : direct.World)
    → list_all is_no_end (events (told (Direct w) lines)) ≡ true
direct_none [] w = refl
direct_none (line ∷ lines) w =
    let next = (direct.step w line).0 in
    one_more w (deed line) (told (Direct next) lines) (direct_none lines next)

-- ---- recordings

nothing_ends : EndsForGood [] []
nothing_ends = no_ends [] [] refl

-- a line that offers nothing
offers_none : (line : Line) (lines : List Line) (report : List Answer)
    → offered (line ∷ lines) ≡ offered lines → EndsForGood lines report
    → EndsForGood (line ∷ lines) report
offers_none line lines report same h = record {
  told = h.told;
  gives_none = λ end front behind is.
      subst (λ pdus. given (other end) pdus (events report) ≡ given (other end) pdus front)
      (sym same) (h.gives_none end front behind is);
}

pub run_final : ((config : WorldConfig) → AreInRange config → (lines : List Line)
    → EndsForGood lines
    (steps.told roles.rules roles.makers roles.deeds (roles.begun config) lines))
    → (lines : List Line) → OffersBehindFirst lines → EndsForGood lines (run lines)
run_final law [] h = nothing_ends
run_final law (First false ∷ lines) h =
    no_ends (First false ∷ lines) (run (First false ∷ lines))
    (direct_none (First false ∷ lines) direct.empty)
run_final law (First true ∷ lines) h =
    roles_hold EndsForGood
    (λ key value lines report. offers_none (Set key value) lines report refl)
    (λ lines report. offers_none (First true) lines report refl) law lines
run_final law (Give side pdu ∷ lines) h = absurd h
run_final law (line ∷ lines) h =
    offers_none line lines (run lines) refl (run_final law lines h)

-- what was given in a direct recording is what was taken and what is on its way
use Rattle.law_order.proofs.Vocabulary.{◌≡◌, ◌++◌, ℕ, List, [], ◌∷◌, false, refl, sym, ap, ◌∙◌, subst, append_assoc, map-append}
use Rattle.rh_record.specs.Events.Events.{Event, Gives, Takes, Ends, Closes}
use Rattle.law_moves.proofs.Vocabulary.{U, D, Side, Client, Server}
use Rattle.law_node_history.proofs.Vocabulary.{Answer, Line, First, Refuses, Stops, Silent, event, events, given, of_end, offered, taken}
use Rattle.rh_world.proofs.Runs.{after_carries}
use Rattle.rh_world.proofs.Ways.{Carries, empty_carries}
use Rattle.rh_world.specs.Direct as direct
use Rattle.law_world_reports.proofs.Vocabulary.{AnyWorld, Direct, after, answers, Way}
use Rattle.law_world_ways.specs.DirectWays.{BothKept, IsKept, KeepsDirectly, KeptIn}

-- ---- the last lines of a direct report tell of nothing

abbrev silent : List Event
silent = Silent ∷ Silent ∷ []

silent_given : (end : Side) (pdus : List (List ℕ)) (es : List Event)
    → given end pdus (es ++ silent) ≡ given end pdus es
silent_given end [] [] = refl
silent_given end [] (e ∷ es) = refl
silent_given end (pdu ∷ pdus) [] = refl
silent_given end (pdu ∷ pdus) (Gives side ∷ es) =
    ap (λ behind. of_end end side pdu ++ behind) (silent_given end pdus es)
silent_given end (pdu ∷ pdus) (Refuses side ∷ es) = silent_given end pdus es
silent_given end (pdu ∷ pdus) (Takes side one ∷ es) = silent_given end (pdu ∷ pdus) es
silent_given end (pdu ∷ pdus) (Ends side ∷ es) = silent_given end (pdu ∷ pdus) es
silent_given end (pdu ∷ pdus) (Closes side ∷ es) = silent_given end (pdu ∷ pdus) es
silent_given end (pdu ∷ pdus) (Stops side ∷ es) = silent_given end (pdu ∷ pdus) es
silent_given end (pdu ∷ pdus) (Silent ∷ es) = silent_given end (pdu ∷ pdus) es

silent_taken : (end : Side) (es : List Event) → taken end (es ++ silent) ≡ taken end es
silent_taken end [] = refl
silent_taken end (Takes side pdu ∷ es) =
    ap (λ behind. of_end end side pdu ++ behind) (silent_taken end es)
silent_taken end (Gives side ∷ es) = silent_taken end es
silent_taken end (Refuses side ∷ es) = silent_taken end es
silent_taken end (Ends side ∷ es) = silent_taken end es
silent_taken end (Closes side ∷ es) = silent_taken end es
silent_taken end (Stops side ∷ es) = silent_taken end es
silent_taken end (Silent ∷ es) = silent_taken end es

-- ---- the world and the answers behind lines

world_is : (lines : List Line) (w : direct.World)
    → after (Direct w) lines ≡ Direct (direct.after w lines)
world_is [] w = refl
world_is (line ∷ lines) w = world_is lines (direct.step w line).0

told_is : (lines : List Line) (w : direct.World)
    → direct.told w lines ≡ answers (Direct w) lines ++ direct.last (direct.after w lines)
told_is [] w = refl
told_is (line ∷ lines) w =
    let did = direct.step w line in
    ap (λ behind. did.1 ++ behind) (told_is lines did.0)
    ∙ sym (append_assoc did.1 (answers (Direct did.0) lines)
    (direct.last (direct.after did.0 lines)))

events_are : (lines : List Line) (w : direct.World)
    → events (direct.told w lines) ≡ events (answers (Direct w) lines) ++ silent
events_are lines w =
    ap (λ (report : List Answer). events report) (told_is lines w)
    ∙ map-append event (answers (Direct w) lines) (direct.last (direct.after w lines))

-- ---- one direction

kept : (way : Way) (gave took : List (List ℕ)) → Carries way gave took → IsKept way gave took
kept way gave took carries = record { exact = carries.in_order; whole = carries.whole }

kept_by : (way : Way) (giver taker : Side) (pdus : List (List ℕ)) (told answered : List Event)
    → told ≡ answered ++ silent → IsKept way (given giver pdus told) (taken taker told)
    → IsKept way (given giver pdus answered) (taken taker answered)
kept_by way giver taker pdus told answered is keeps =
    subst (λ gave. IsKept way gave (taken taker answered))
    (ap (given giver pdus) is ∙ silent_given giver pdus answered)
    (subst (λ took. IsKept way (given giver pdus told) took)
    (ap (taken taker) is ∙ silent_taken taker answered) keeps)

-- ---- recordings

both_kept : (lines : List Line)
    → BothKept (direct.after direct.empty lines) (offered lines)
    (events (answers (Direct direct.empty) lines))
both_kept lines =
    let w = direct.after direct.empty lines in
    let told = events (direct.told direct.empty lines) in
    let answered = events (answers (Direct direct.empty) lines) in
    let is = events_are lines direct.empty in
    record {
      up = kept_by w.up Client Server (offered lines) told answered is
          (kept w.up (given Client (offered lines) told) (taken Server told)
          (after_carries U lines direct.empty [] [] empty_carries));
      down = kept_by w.down Server Client (offered lines) told answered is
          (kept w.down (given Server (offered lines) told) (taken Client told)
          (after_carries D lines direct.empty [] [] empty_carries));
    }

pub directly : (behind : List Line) → KeepsDirectly (First false ∷ behind)
directly behind =
    subst (λ (world : AnyWorld). KeptIn world (offered behind)
    (events (answers (Direct direct.empty) behind)))
    (sym (world_is behind direct.empty)) (both_kept behind)

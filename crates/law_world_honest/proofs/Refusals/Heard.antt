-- what a client heard where it closes for a response
use Rattle.law_order.proofs.Vocabulary.{◌≡◌, ℕ, List, ◌++◌, append_assoc, Bool, true, false, Some, None, refl, sym, ap, ◌∙◌, subst, ◌&&◌, not}
use Rattle.rh_line.specs.declared.cause.Cause.TheVariants as cause
use Rattle.rh_shell.specs.NearEnds.{is_empty}
use Rattle.rh_shell.specs.declared.stage.Stage.TheVariants as stage
use Rattle.rh_company.specs.declared.event.Event as told
use Rattle.law_moves.proofs.Vocabulary.{ClientConfig, Cause, Leg, Course, Going, Closed, Refusing, NearEnd, is_over, Shell, end_at, ClosedWith, Hears, EndEvent, after_event, after_end_events, begin, reading}
use Rattle.law_role_client.proofs.Vocabulary.{ClientRole, rules, acts, first_client, rooms, first}
use Rattle.law_node_history.proofs.Vocabulary.{Comes, tell, AreAcceptedAtEnd, happened, heard_on}
use Rattle.law_node_causes.specs.Closings.{ClosesWith, ComesFrom, IsRefusal, IsResponse}
use Rattle.law_node_causes.specs.Moments.{hears_bytes, is_heard_on}
use Rattle.law_node_streams.proofs.Streams.Heads.{waited}
use Rattle.law_node_streams.specs.Streams.{EndStream, HearsInTurn, is_live}
use Rattle.law_node_begins.specs.EndsBegin.{client_reads}
use Rattle.law_world_honest.specs.Refusals.Refused.{HeardRefusal}

-- what is known of a client
pub record ClientLaws : Type 0 where
  pub stream : (config : ClientConfig) (events : List EndEvent)
      → AreAcceptedAtEnd rules acts (first_client config) events → HearsInTurn (happened events)
      → EndStream rules acts (first config) rooms client_reads events
  pub closed : (node : Shell ClientRole) (event : told.Event) (why : Cause)
      → ClosesWith rules node event why → ClosedWith why (tell rules node event).0.course
  pub again : (node : Shell ClientRole) (why : Cause) (event : told.Event)
      → ClosedWith why node.course → (tell rules node event).1 ≡ None
  pub comes : (node : Shell ClientRole) (event : told.Event) (why : Cause)
      → ClosesWith rules node event why → ComesFrom rules node event why
  pub response : (node : Shell ClientRole) (event : told.Event) (leg : Leg) (status : ℕ)
      → ClosesWith rules node event (cause.HttpRefused leg status)
      → IsResponse node event leg status
  pub stays : (node : Shell ClientRole) (why : Cause) (later : List EndEvent)
      → ClosedWith why node.course
      → ClosedWith why (after_end_events rules acts node later).course
  pub unheard : (node : Shell ClientRole) (leg : Leg) (piece : List ℕ)
      → hears_bytes rules node leg piece ≡ false → after_event rules node (Hears leg piece) ≡ node

module _ (law : ClientLaws) (config : ClientConfig) (events : List EndEvent)
    (accepted : AreAcceptedAtEnd rules acts (first_client config) events)
    (turns : HearsInTurn (happened events)) where
  abbrev node : Shell ClientRole
  node = after_end_events rules acts (first_client config) events

  pub held : (leg : Leg) (end : NearEnd) → node.course ≡ Going → end_at node leg ≡ Some end
      → end.intake.stage ≡ stage.Head → is_over rules end node.role ≡ false
      → end.intake.held ≡ heard_on leg (happened events)
  held leg end going at head on =
      let seat = (law.stream config events accepted turns).seats leg end going at in
      let read = seat.reads on (ap is_live head) in
      (waited (client_reads leg) (begin (client_reads leg)) (heard_on leg (happened events))
      end.intake.held
      (read.after ∙ ap (λ st. reading st end.intake.held) head)).held_is

  module _ (event : told.Event) (leg : Leg) (status : ℕ)
      (h : ClosesWith rules node event (cause.HttpRefused leg status)) where
    was_going : node.course ≡ Going
    was_going = by node.course refl
      where
        shut : (why : Cause) → ClosedWith why node.course → ⊥
        shut why c =
            let bad : None ≡ Some (cause.HttpRefused leg status) =
            sym (law.again node why event c) ∙ h in absurd cc

        by : (c : Course) → node.course ≡ c → c ≡ Going
        by Going e = refl
        by (Closed why) e = absurd (shut why (subst (ClosedWith why) (sym e) refl))
        by (Refusing why client rest) e =
            absurd (shut why (subst (ClosedWith why) (sym e) refl))

    -- the leg is heard, since a piece there closes the client
    is_heard : (end : NearEnd) (piece : List ℕ) → event ≡ Comes leg piece
        → end_at node leg ≡ Some end → is_over rules end node.role ≡ false
    is_heard end piece is at = by (is_over rules end node.role) refl
      where
        not_heard : is_over rules end node.role ≡ true → is_heard_on rules node leg ≡ false
        not_heard over = rw was_going (rw at (rw over refl))

        none : (empty : Bool) → is_heard_on rules node leg ≡ false
            → (not empty && is_heard_on rules node leg) ≡ false
        none true e = refl
        none false e = e

        by : (t : Bool) → is_over rules end node.role ≡ t → t ≡ false
        by false e = refl
        by true e =
            let same = law.unheard node leg piece (none (is_empty piece) (not_heard e)) in
            let shut : ClosedWith (cause.HttpRefused leg status)
            (after_event rules node (Hears leg piece)).course =
            subst (λ (x : told.Event). ClosedWith (cause.HttpRefused leg status)
            (tell rules node x).0.course) is
            (law.closed node event (cause.HttpRefused leg status) h) in
            let bad : ClosedWith (cause.HttpRefused leg status) Going =
            subst (ClosedWith (cause.HttpRefused leg status)) was_going
            (subst (λ (x : Shell ClientRole). ClosedWith (cause.HttpRefused leg status) x.course)
            same shut) in
            absurd bad

    pub heard_refusal : HeardRefusal (heard_on leg (happened events)) event leg status
    heard_refusal =
        let q = law.response node event leg status h in
        let r : IsRefusal rules node event leg status =
        law.comes node event (cause.HttpRefused leg status) h in
        let one : Some r.end ≡ Some q.end = sym r.at ∙ q.at in
        let same : r.end ≡ q.end = cc in
        let all = held leg q.end was_going q.at
        (subst (λ (x : NearEnd). x.intake.stage ≡ stage.Head) same r.refuses.stage)
        (is_heard q.end q.piece q.is q.at) in
        record {
          piece = q.piece;
          is = q.is;
          begins = record {
            text = q.end.intake.held ++ q.front;
            front = (
              q.behind,
              append_assoc q.end.intake.held q.front q.behind
                  ∙ ap (λ (x : List ℕ). q.end.intake.held ++ x) q.cut
                  ∙ ap (λ (x : List ℕ). x ++ q.piece) all,
            );
            refused = q.refused;
          };
        }

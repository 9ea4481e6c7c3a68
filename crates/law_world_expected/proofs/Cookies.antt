-- whatever a change of a world is, it closes its client for no cookie
use Rattle.law_order.proofs.Vocabulary.{◌≡◌, ◌⊎◌, inl, inr, ℕ, List, refl, sym, subst, Some, Err, Option}
use Rattle.rh_line.specs.declared.cause.Cause.TheVariants as cause
use Rattle.rh_record.specs.declared.answer.Who.TheVariants as who
use Rattle.rh_shell.specs.declared.answers.Refused.TheVariants as refused
use Rattle.rh_client.specs.Client as client
use Rattle.rh_client.specs.State as client_state
use Rattle.rh_company.specs.Company as company
use Rattle.law_moves.proofs.Vocabulary.{Dir, Cookie, Pipe, ClientConfig, Cause, Leg, Count, Refused, Message, Text, Pdu, Packet, AreAllowedAtEnd, EndMove, EndPassage, Passage, all_end_moved, end_started}
use Rattle.law_role_inproxy.proofs.Vocabulary.{InProxy}
use Rattle.law_role_client.proofs.Vocabulary.{ClientRole}
use Rattle.law_role_server.proofs.Vocabulary.{Server}
use Rattle.law_node_history.proofs.Vocabulary.{receiver, Event, Makers, World, at, Change, IsFed, MayChange, ClosesNode}
use Rattle.law_role_outproxy.proofs.Vocabulary.{OutProxy}
use Rattle.law_role_client_rows.specs.Refusing.{Refuses}
use Rattle.law_node_traces.proofs.Vocabulary.{ByChanges, AreOurs, deeds, rules}
use Rattle.law_world_order.proofs.Legs.{Reads}
use Rattle.law_world_order.proofs.Vocabulary.{numbers_of}
use Rattle.law_world_honest.proofs.Honesty.Closing.{EachComes, by_fed}
use Rattle.law_world_honest.proofs.Honesty.Fed.{told_what, told_who}
use Rattle.law_world_honest.specs.Honesty.Honest.{well_on}
use Rattle.law_world_windows.proofs.Moment.{well_behind}
use Rattle.law_world_windows.specs.Known.{Laws, NodeLaws, Readings}
use Rattle.law_world_expected.proofs.Amiss.Moments.{AllFlow, OfStreams, client_then, flows}
use Rattle.law_world_expected.proofs.Amiss.Stops.{PingsFirst, RefusesAhead}
use Rattle.law_world_expected.specs.Amiss.{RefusesBy}

-- ---- the laws that this stands on

pub record ClientLaws : Type 0 where
  pub refuses : (config : ClientConfig) (moves : List EndMove)
      → AreAllowedAtEnd client.rules client.acts (end_started (client_state.first config)) moves
      → Refuses (all_end_moved client.rules client.acts
      (end_started (client_state.first config)) moves).passage
  pub comes : EachComes
  pub node : NodeLaws client.rules

-- ---- no row of a client refuses a cookie

module _ (expected got : Cookie) where
  abbrev mismatch : Refused
  mismatch = refused.Cookie expected got

  no_row : (p : Passage ClientRole) → Refuses p → (role : ClientRole) → p.role ≡ role
      → (leg : Leg) (count : Count) (message : Message)
      → RefusesBy client.rules role leg count mismatch message → ⊥
  no_row p law role same leg count (Text bytes) is = is
  no_row p law role same leg count (Pdu pdu) is =
      law.pdu_cookie leg count pdu expected got
      (subst (λ (x : ClientRole). (client.rules.pdu x leg count pdu).1 ≡ Err mismatch) (sym same)
      is)
  no_row p law role same leg count (Packet named) is =
      law.cookie leg count named expected got
      (subst (λ (x : ClientRole). (client.rules.packet x leg count named).1 ≡ Err mismatch)
      (sym same) is)

  how : (p : Passage ClientRole) (role : ClientRole) (leg : Leg) (pipe : Option Pipe)
      (count : Count) (came all : List Message) (heard : List ℕ) (b : ℕ) → p.role ≡ role
      → Refuses p
      → RefusesAhead client.rules role leg mismatch count came all
      ⊎ PingsFirst pipe mismatch count heard b → ⊥
  how p role leg pipe count came all heard b same law (inl next) =
      no_row p law role same leg count next.message next.refuses
  how p role leg pipe count came all heard b same law (inr ping) =
      let bad = ping.unexpected in absurd cc

module _ {K : Type 0} (laws : ClientLaws) (reads : Reads) (readings : Readings)
    (m : Makers K InProxy OutProxy) (w : World K ClientRole Server InProxy OutProxy)
    (ours : AreOurs m w.company w.cast) (law : Laws m w ours)
    (v : World K ClientRole Server InProxy OutProxy) (by : ByChanges rules m deeds w v) where
  -- nothing is said of the streams
  abbrev any : OfStreams (numbers_of ours) w
  any u h f = Unit {0}

  flow : AllFlow m w ours any
  flow u by_then = record { flows = law.flowing u by_then; holds = tt }

  module _ (l : Leg) (expected got : Cookie) where
    abbrev why : Cause
    why = cause.CookieMismatch l expected got

    -- a piece that is fed to it
    fed : (leg : Leg) (dir : Dir) (count : ℕ) → MayChange rules v (IsFed leg dir count)
        → ClosesNode rules v (IsFed leg dir count) who.Client why → ⊥
    fed leg dir count may is =
        let here : at v leg (receiver dir) ≡ who.Client = told_who _ _ _ _ is.told in
        let closes = subst (λ (e : Event).
        (company.tell rules v.company who.Client e).1 ≡ Some why) (sym (told_what _ _ _ _ is.told))
        is.closes in
        let was = client_then reads readings m w v ours law any flow by leg dir (λ k. may)
        (mismatch expected got) (well_on leg.kind dir) (λ e. absurd cc)
        (well_behind m w v ours law by leg dir (λ k. may)) why refl count who.Client here laws.node
        refl closes in
        let f = (flows reads readings m w v ours law any flow by leg dir (λ k. may)
        was.0).flows.client in
        how expected got f.passage.passage _ leg _ _ _ _ _ _ was.1.role
        (subst (λ (p : EndPassage ClientRole). Refuses p.passage) f.leads.reached
        (laws.refuses ours.config f.leads.moves f.leads.allowed)) was.1.stops.how

    pub no_cookie : (change : Change) → MayChange rules v change
        → ClosesNode rules v change who.Client why → ⊥
    no_cookie change may is =
        by_fed v who.Client why ⊥ fed laws.comes change may is (λ S rules shell comes. comes)

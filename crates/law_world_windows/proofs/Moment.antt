-- the moment before the byte of a fed piece that closes a node
use Rattle.law_order.proofs.Vocabulary.{◌≡◌, ℕ, List, [], ◌∷◌, ◌++◌, refl, sym, ap, ◌∙◌, subst, append_assoc, IsPrefix}
use Rattle.law_moves.proofs.Vocabulary.{Dir, Cause, Leg, Rules, Shell, ReadsWell}
use Rattle.law_role_inproxy.proofs.Vocabulary.{InProxy}
use Rattle.law_role_client.proofs.Vocabulary.{ClientRole}
use Rattle.law_role_server.proofs.Vocabulary.{Server}
use Rattle.law_node_history.proofs.Vocabulary.{receiver, sender, Comes, Rulebook, tell, Deeds, Makers, World, at, drawn_by, end_node, events_of, heard_on, Change, IsFed, MayChange, all_changed, changed, History, all_noted, noted, nothing}
use Rattle.law_node_history.proofs.Lemmas.{works_more}
use Rattle.law_node_causes.specs.Closings.{ClosesWith}
use Rattle.law_role_outproxy.proofs.Vocabulary.{OutProxy}
use Rattle.law_node_traces.proofs.Vocabulary.{ByChanges, AreOurs, deeds, rules, IsKnown, history_at}
use Rattle.law_peers_routes.proofs.Upwards.Unread.{refusal_unread}
use Rattle.law_world_order.proofs.Legs.{Reads}
use Rattle.law_world_order.proofs.Vocabulary.{IsFlowing, numbers_of, read_on}
use Rattle.law_world_honest.proofs.Honesty.Closing.{EachComes}
use Rattle.law_world_honest.proofs.Honesty.HeardWell.{going_is}
use Rattle.law_world_honest.specs.Honesty.Honest.{well_on}
use Rattle.law_world_windows.proofs.OneByte.{AtByte, at_byte}
use Rattle.law_world_windows.specs.Known.{Laws, NodeLaws, NodesLaws, Readings}

-- ---- a node

pub comes_of : NodesLaws → EachComes
comes_of nodes = record {
  client = nodes.client.comes;
  server = nodes.server.comes;
  ins = nodes.ins.comes;
  outs = nodes.outs.comes;
}

pub reads_of : Readings → Reads
reads_of readings =
    record { put = readings.put; fine = readings.fine; refusal = refusal_unread }

-- a piece that closes it closes it by a byte
pub closes_at : {S : Type 0} (rules : Rules S) → NodeLaws rules → (s : Shell S) (leg : Leg)
    (piece : List ℕ) (why : Cause) → ClosesWith rules s (Comes leg piece) why
    → AtByte rules leg s piece why
closes_at rules law s leg piece why closes =
    at_byte rules leg (λ t. law.cuts t leg) law.stays s piece why
    (going_is s (tell rules s (Comes leg piece)).1 why
    (λ first h. law.again s first (Comes leg piece) h) closes)
    (law.closed s (Comes leg piece) why closes)

-- ---- histories

pub noted_append : {K C S I O : Type 0} (r : Rulebook C S I O) (m : Makers K I O) (d : Deeds C S)
    (w : World K C S I O) (h : History) (changes : List Change) (change : Change)
    → all_noted r m d w h (changes ++ change ∷ [])
    ≡ noted (all_changed r m d w changes) (all_noted r m d w h changes) change
noted_append r m d w h [] change = refl
noted_append r m d w h (first ∷ changes) change =
    noted_append r m d (changed r m d w first) (noted w h first) changes change

-- ---- the moment

module _ {K : Type 0} (m : Makers K InProxy OutProxy)
    (w v : World K ClientRole Server InProxy OutProxy) (ours : AreOurs m w.company w.cast)
    (law : Laws m w ours) (by : ByChanges rules m deeds w v) (leg : Leg) (dir : Dir)
    (may : (count : ℕ) → MayChange rules v (IsFed leg dir count)) where
  abbrev pub now : History
  now = history_at m w v by.leads

  abbrev pub known : IsKnown m w v by.leads
  known = law.known v by.leads

  abbrev pub flowing : IsFlowing (numbers_of ours) w v now
  flowing = law.flowing v by

  -- so many bytes more were fed
  abbrev pub behind : ℕ → History
  behind count = noted v now (IsFed leg dir count)

  abbrev fed : ℕ → World K ClientRole Server InProxy OutProxy
  fed count = changed rules m deeds v (IsFed leg dir count)

  pub flowing_behind : (count : ℕ) → IsFlowing (numbers_of ours) w (fed count) (behind count)
  flowing_behind count =
      subst (IsFlowing (numbers_of ours) w (fed count))
      (noted_append rules m deeds w nothing by.leads.changes (IsFed leg dir count)
      ∙ ap (λ (x : World K ClientRole Server InProxy OutProxy).
      noted x now (IsFed leg dir count)) by.leads.reached)
      (law.flowing (fed count)
      (works_more rules m deeds w v (IsFed leg dir count) by (may count) refl))

  -- what was heard there reads well, and was drawn before
  pub well_behind : (count : ℕ) → ReadsWell (well_on leg.kind dir) (read_on leg.kind dir)
      (heard_on leg (events_of (behind count) (at v leg (receiver dir))))
  well_behind count = law.well v by (IsFed leg dir count) (may count) leg dir

  pub drawn_before : (count : ℕ)
      → IsPrefix (heard_on leg (events_of (behind count) (at v leg (receiver dir))))
      (drawn_by rules m deeds w.company w.cast now (end_node v.readers leg (sender dir)) leg)
  drawn_before count =
      subst (λ (k : K). IsPrefix (heard_on leg (events_of (behind count) (at v leg (receiver dir))))
      (drawn_by rules m deeds w.company k now (end_node v.readers leg (sender dir)) leg))
      flowing.cast
      (law.before v now known.traced known.once (IsFed leg dir count) (may count) leg dir)

  pub drawn_now : (way : Dir)
      → IsPrefix (heard_on leg (events_of now (at v leg (receiver way))))
      (drawn_by rules m deeds w.company w.cast now (end_node v.readers leg (sender way)) leg)
  drawn_now way =
      subst (λ (k : K). IsPrefix (heard_on leg (events_of now (at v leg (receiver way))))
      (drawn_by rules m deeds w.company k now (end_node v.readers leg (sender way)) leg))
      flowing.cast (law.drawn v now known.traced leg way)

-- the byte behind what was heard
pub one_behind : (heard front next : List ℕ) (b : ℕ) (all : List ℕ) → all ≡ heard ++ front
    → next ≡ front ++ b ∷ [] → all ++ b ∷ [] ≡ heard ++ next
one_behind heard front next b all e f =
    ap (λ (xs : List ℕ). xs ++ b ∷ []) e ∙ append_assoc heard front (b ∷ [])
    ∙ ap (λ (xs : List ℕ). heard ++ xs) (sym f)

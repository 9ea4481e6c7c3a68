-- a node of a world that closes since what came was not to come there stands at that leg
use Rattle.rh_text.specs.declared.ends.Side.TheVariants as side
use Rattle.law_order.proofs.Vocabulary.{◌≡◌, ◌⊎◌, inl, inr, ℕ, List, Some, None, refl, sym, ap, ◌∙◌, subst, Option}
use Rattle.rh_record.specs.declared.answer.Who.TheVariants as who
use Rattle.rh_inproxy.specs.State.{InProxy}
use Rattle.rh_outproxy.specs.OutProxy.{OutProxy}
use Rattle.rh_outproxy.specs.Machine as out_proxy
use Rattle.rh_client.specs.declared.state.ClientRole.{ClientRole}
use Rattle.rh_server.specs.States.{Server}
use Rattle.rh_server.specs.Servers as server
use Rattle.rh_company.specs.Company as company
use Rattle.rh_company.specs.Places as places
use Rattle.law_moves.proofs.Vocabulary.{Dir, Side, Cause, Leg, LegKind, ClientOut, OutServer, ClientIn, InServer, Rules, Shell}
use Rattle.law_node_history.proofs.Vocabulary.{Who, reader_of, receiver, Event, Comes, Place, Absent, Here, Gone, World, at, node_by, Change, IsTold, IsFed, IsDrawn, GoesUp, RaisesAlone, GoesDown, OpensIn, OpensOut, OpensSame, Gives, Takes, Closes, RecyclesIn, RecyclesOut, MovesTo, Draws, Reports, MayChange, ClosesNode, out_place}
use Rattle.law_node_history.proofs.Lemmas.{answered}
use Rattle.law_node_causes.specs.Closings.{ClosesWith}
use Rattle.law_node_traces.proofs.OwnLegs.Amiss.{ClosesBy, came_on}
use Rattle.law_node_traces.proofs.Vocabulary.{rules, IsAmissOn, IsOfOutProxy, IsOfServer}

-- ---- a piece came on the leg

pub record PieceOn (event : Event) (leg : Leg) : Type 0 where
  pub piece : List ℕ
  pub is : event ≡ Comes leg piece

module _ {K : Type 0} (v : World K ClientRole Server InProxy OutProxy) (event : Event) (leg : Leg)
    (why : Cause) (amiss : IsAmissOn leg why) where
  piece_of : {S : Type 0} (rules : Rules S) (node : Shell S) → ClosesBy rules
      → ClosesWith rules node event why → PieceOn event leg
  piece_of rules node law closes =
      let came = came_on rules law node event leg why amiss closes in
      record { piece = came.piece; is = came.is }

  pub at_server : ClosesBy server.rules
      → (company.tell rules v.company who.Server event).1 ≡ Some why → PieceOn event leg
  at_server law closes = piece_of server.rules v.company.server law closes

  pub at_out_proxy : ClosesBy out_proxy.rules → (k : ℕ)
      → (company.tell rules v.company (who.Out k) event).1 ≡ Some why → PieceOn event leg
  at_out_proxy law k closes =
      by (out_place v.company k)
      (sym (answered Absent (places.tell out_proxy.rules event) None refl v.company.outs k)
      ∙ closes)
    where
      by : (place : Place OutProxy) → (places.tell out_proxy.rules event place).1 ≡ Some why
          → PieceOn event leg
      by Absent e = absurd cc
      by (Here node legs) e = piece_of out_proxy.rules node law e
      by (Gone now) e = absurd cc

-- ---- and it was fed to the node

-- the node stands at the leg, where bytes that go so are received
abbrev pub StandsAt : {K : Type 0} → World K ClientRole Server InProxy OutProxy → Leg → Who
    → Type 0
StandsAt v leg node = (dir : Dir) × (at v leg (receiver dir) ≡ node)

told_same : (a b : Who × Event) → ◌≡◌ {A = Option (Who × Event)} (Some a) (Some b) → a ≡ b
told_same a b told = cc

same_place : (on leg : Leg) (came piece : List ℕ) → Comes on came ≡ Comes leg piece → on ≡ leg
same_place on leg came piece e = cc

module _ {K : Type 0} (v : World K ClientRole Server InProxy OutProxy) (node : Who) (leg : Leg)
    (why : Cause) where
  never : {a : Who × Event} → None ≡ Some a → StandsAt v leg node
  never e = absurd cc

  pub stands_at : (change : Change) → MayChange rules v change
      → (is : ClosesNode rules v change node why) → PieceOn is.event leg → StandsAt v leg node
  stands_at (IsFed on dir count) may is came =
      let told = told_same _ (node, is.event) is.told in
      let same = same_place on leg _ came.piece (ap (λ (t : Who × Event). t.1) told ∙ came.is) in (
        dir,
        subst (λ (l : Leg). at v l (receiver dir) ≡ node) same
            (ap (λ (t : Who × Event). t.0) told),
      )
  stands_at (IsTold other event) may is came =
      let told = told_same (other, event) (node, is.event) is.told in
      absurd (none event (ap (λ (t : Who × Event). t.1) told ∙ came.is) may)
    where
      none : (event : Event) → event ≡ Comes leg came.piece
          → MayChange rules v (IsTold other event) → ⊥
      none event e may = subst (λ (x : Event). MayChange rules v (IsTold other x)) e may
  stands_at (IsDrawn on dir count) may is came = never is.told
  stands_at (GoesUp other on end cookie) may is came = never is.told
  stands_at (RaisesAlone other on end cookie) may is came = never is.told
  stands_at (GoesDown other on end) may is came = never is.told
  stands_at (OpensIn n cookie) may is came = never is.told
  stands_at (OpensOut n cookie) may is came = never is.told
  stands_at (OpensSame n cookie) may is came = never is.told
  stands_at (Gives end pdu) may is came = never is.told
  stands_at (Takes end) may is came = never is.told
  stands_at (Closes end) may is came = never is.told
  stands_at RecyclesIn may is came = never is.told
  stands_at RecyclesOut may is came = never is.told
  stands_at (MovesTo now) may is came = never is.told
  stands_at (Draws cookies) may is came = never is.told
  stands_at Reports may is came = never is.told

-- ---- at which legs a node stands

out_node : (reader k n : ℕ) (kind : LegKind) (end : Side)
    → node_by reader n kind end ≡ who.Out k → (kind ≡ ClientOut) ⊎ (kind ≡ OutServer)
out_node reader k n ClientOut end is = inl refl
out_node reader k n OutServer end is = inr refl
out_node reader k n ClientIn side.Client is = absurd cc
out_node reader k n ClientIn side.Server is = absurd cc
out_node reader k n InServer side.Client is = absurd cc
out_node reader k n InServer side.Server is = absurd cc

server_node : (reader n : ℕ) (kind : LegKind) (end : Side)
    → node_by reader n kind end ≡ who.Server → (kind ≡ InServer) ⊎ (kind ≡ OutServer)
server_node reader n InServer end is = inl refl
server_node reader n OutServer end is = inr refl
server_node reader n ClientIn side.Client is = absurd cc
server_node reader n ClientIn side.Server is = absurd cc
server_node reader n ClientOut side.Client is = absurd cc
server_node reader n ClientOut side.Server is = absurd cc

module _ {K : Type 0} (v : World K ClientRole Server InProxy OutProxy) (leg : Leg) where
  pub of_out_proxy : (k : ℕ) → StandsAt v leg (who.Out k) → IsOfOutProxy leg
  of_out_proxy k at =
      out_node (reader_of v.readers leg.number) k leg.number leg.kind (receiver at.0) at.1

  pub of_server : StandsAt v leg who.Server → IsOfServer leg
  of_server at =
      server_node (reader_of v.readers leg.number) leg.number leg.kind (receiver at.0) at.1

-- a leg that is in use
use Rattle.law_order.proofs.Vocabulary.{◌≡◌, ◌⊎◌, inl, inr, ap, ℕ, Bool, true, false, List, ◌++◌, Some, None, refl, ◌&&◌, ◌||◌, not, Option, Item, stops_at}
use Rattle.rh_wires.specs.Wires.{is_up}
use Rattle.law_moves.proofs.Vocabulary.{Dir, Pipe, Leg, Course, Going, Closed, Refusing, NearEnd, is_over, Message, Rules, Shell, end_at, is_going, Reading, messages_from, reading}
use Rattle.law_node_history.proofs.Vocabulary.{in_flight, receiver, sender, World, wire_at, History}
use Rattle.law_node_streams.specs.Streams.{is_live, is_refused_on}
use Rattle.law_world_ways.specs.OnPaths.Legs.{IsInUse, has_passed, is_cut, is_unheard, on_leg, was_told, was_up}
use Rattle.law_world_ways.specs.OnPaths.OnWay.{is_lost, left_on, on_way, read_by, read_on}

-- a leg that is up for the end that takes is not cut, where it is so for the other end or was heard
nothing_cut : (a b x y z : Bool) → x ≡ true → (y ≡ true) ⊎ (z ≡ false)
    → (a && not x) || ((b && not y) && z) ≡ false
nothing_cut a b false y z up e = absurd (cc)
nothing_cut a b true y z up e = there a (here b y z e)
  where
    here : (b y z : Bool) → (y ≡ true) ⊎ (z ≡ false) → ((b && not y) && z) ≡ false
    here true true z e = refl
    here false y z e = refl
    here true false false e = refl
    here true false true (inl e) = absurd (cc)
    here true false true (inr e) = absurd (cc)

    there : (a : Bool) {rest : Bool} → rest ≡ false → (a && not true) || rest ≡ false
    there true e = e
    there false e = e

pub left_told : {S : Type 0} (s : Shell S) (leg : Leg) (up lost : Bool) (end : NearEnd)
    → is_refused_on leg s.course ≡ false → end_at s leg ≡ Some end
    → left_on s leg up lost ≡ Some end.begun
left_told s leg up lost end free at = rw (free, at) refl

pub read_told : {S : Type 0} (rules : Rules S) (s : Shell S) (pipe : Option Pipe) (leg : Leg)
    (up : Bool) (end : NearEnd) → s.course ≡ Going → end_at s leg ≡ Some end
    → is_over rules end s.role ≡ false → is_live end.intake.stage ≡ true
    → read_on rules s pipe leg up ≡ Some (reading end.intake.stage end.intake.held)
read_told rules s pipe leg up end going at over live = rw (going, at, over, live) refl

pub way_told : (pipe : Option Pipe) (cut : Bool) (read : Option Reading) (flight : List ℕ)
    (left : Option (List ℕ)) (r : Reading) (begun : List ℕ) → cut ≡ false → read ≡ Some r
    → left ≡ Some begun
    → on_way pipe cut read flight left ≡ Some (messages_from pipe r (flight ++ begun))
way_told pipe cut read flight left r begun c d e = rw (c, d, e) refl

-- nothing is told where the end that takes closed
pub closed_read : {S : Type 0} (rules : Rules S) (role : S) (pipe : Option Pipe) (up : Bool)
    (end : Option NearEnd) (c : Course) → is_going c ≡ false
    → read_by rules role pipe up end c ≡ None
closed_read rules role pipe up end Going e = absurd (cc)
closed_read rules role pipe up end (Closed why) e = refl
closed_read rules role pipe up end (Refusing why leg rest) e = refl

pub unread_way : (pipe : Option Pipe) (cut : Bool) (read : Option Reading) (flight : List ℕ)
    (left : Option (List ℕ)) → read ≡ None → on_way pipe cut read flight left ≡ None
unread_way pipe true read flight left e = refl
unread_way pipe false None flight left e = refl
unread_way pipe false (Some r) flight left e = absurd (cc)

-- ---- and so its messages are told

module _ {K C S I O P T : Type 0} (v : World K C S I O) (h : History) (leg : Leg) (dir : Dir)
    (pipe : Option Pipe) (puts : Shell P) (rules : Rules T) (takes : Shell T)
    (used : IsInUse v h leg dir puts rules takes) where
  pub used_leg : on_leg v h leg dir pipe puts rules takes
      ≡ Some (messages_from pipe (reading used.far.intake.stage used.far.intake.held)
      (in_flight dir (wire_at v.legs leg) ++ used.near.begun))
  used_leg =
      let wire = wire_at v.legs leg in
      let put_up = was_up v h leg (sender dir) in
      let put_lost = was_told v h leg (sender dir) in
      let take_up = was_up v h leg (receiver dir) in
      way_told pipe (is_cut v h leg dir) (read_on rules takes pipe leg take_up)
      (in_flight dir wire) (left_on puts leg put_up put_lost)
      (reading used.far.intake.stage used.far.intake.held) used.near.begun
      (nothing_cut take_up put_up (is_up (receiver dir) wire) (is_up (sender dir) wire)
      (is_unheard v h leg dir) used.up_there used.heard)
      (read_told rules takes pipe leg take_up used.far used.takes_on used.kept_there used.of_use
      used.live)
      (left_told puts leg put_up put_lost used.near used.free used.kept_here)

  pub used_goes : (came : List Item)
      → stops_at (is_lost (on_leg v h leg dir pipe puts rules takes)) came ≡ false
  used_goes came = ap (λ (o : Option (List Message)). stops_at (is_lost o) came) used_leg

-- no way stops where the mark or END passed
pub passed_goes : (lost : Bool) (came : List Item) → has_passed came ≡ true
    → stops_at lost came ≡ false
passed_goes true came e = ap not e
passed_goes false came e = refl

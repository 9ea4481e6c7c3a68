-- a settling in steps: changes that end no leg, and legs that end
use Rattle.law_order.proofs.Vocabulary.{◌≡◌, ℕ, zero, suc, List, [], ◌∷◌, ◌++◌, Bool, true, false, if◌then◌else◌, length, Some, None, refl, sym, ap, ◌∙◌, subst, list_all, and_parts, Option}
use Rattle.rh_record.specs.declared.answer.TakeAnswer.TheVariants as takes
use Rattle.law_order.proofs.ByNumber.{by_test}
use Rattle.rh_wires.specs.Legs as legs
use Rattle.law_moves.proofs.Vocabulary.{Dir, U, D, Side, Leg, LegKind, ClientOut, OutServer, ClientIn, InServer}
use Rattle.law_node_history.proofs.Vocabulary.{Answer, TakeAnswer, sender, receiver, Comes, Ends, Breaks, Rulebook, is_up, end_leg, send, sent, feed, fed, draw_into, Deeds, take, has_ended, Makers, open_leg, open_same, and_then, each, leg_at, opened, opened_same, most_bytes, carry_bytes, carried, took, is_finished, end_where, end_one, end_kind, end_all, settle, World, at, Change, IsTold, IsFed, IsDrawn, GoesDown, GoesUp, OpensIn, OpensOut, OpensSame, Draws, Takes, Reports, MayChange, AreAllowed, all_changed, changed, of_line, WorksBy}
use Rattle.law_node_history.proofs.Lemmas.{connects, connects_open_leg, connects_open_same, opens_go, carries_go, rounds_go}
use Rattle.law_world_ways.specs.EndsInTime.Both.{AreUpAtBoth}
use Rattle.law_world_ways.proofs.EndsInTime.Both.{end_keeps, feed_keeps, open_keeps, same_keeps, send_keeps, take_keeps}

-- a change that ends no leg, or a leg that ends in a direction
pub data Step : Type 0 where
  IsPlain : Change → Step
  EndsLeg : Leg → Dir → Step

-- nothing is told a node but the bytes that come and the moment, and nothing goes down
abbrev pub is_plain : Change → Bool
is_plain (IsTold node (Comes leg piece)) = false
is_plain (IsTold node (Ends leg)) = false
is_plain (IsTold node (Breaks leg)) = false
is_plain (GoesDown node leg end) = false
is_plain Reports = false
is_plain change = of_line change

connects_plainly : (change : Change) → connects change ≡ true → is_plain change ≡ true
connects_plainly (GoesUp node leg end cookie) is = is
connects_plainly (OpensIn number cookie) is = is
connects_plainly (OpensOut number cookie) is = is
connects_plainly (OpensSame number cookie) is = is
connects_plainly (Draws cookies) is = refl
connects_plainly change is = absurd cc

module _ {K C S I O : Type 0} (r : Rulebook C S I O) (m : Makers K I O) (d : Deeds C S) where
  abbrev pub stepped : World K C S I O → Step → World K C S I O
  stepped w (IsPlain change) = changed r m d w change
  stepped w (EndsLeg leg dir) = (end_leg r w leg dir).0

  -- a leg ends that is up at both ends and finished
  abbrev pub MayStep : World K C S I O → Step → Type 0
  MayStep w (IsPlain change) = MayChange r w change × (is_plain change ≡ true)
  MayStep w (EndsLeg leg dir) =
      AreUpAtBoth w × (is_up w leg ≡ true) × (is_finished r leg dir w ≡ true)

  abbrev pub all_stepped : World K C S I O → List Step → World K C S I O
  all_stepped w [] = w
  all_stepped w (step ∷ steps) = all_stepped (stepped w step) steps

  abbrev pub AllMayStep : World K C S I O → List Step → Type 0
  AllMayStep w [] = Unit {0}
  AllMayStep w (step ∷ steps) = MayStep w step × AllMayStep (stepped w step) steps

  pub record InSteps (w v : World K C S I O) : Type 0 where
    pub steps : List Step
    pub may : AllMayStep w steps
    pub reached : all_stepped w steps ≡ v

  pub steps_append : (w : World K C S I O) (a b : List Step)
      → all_stepped w (a ++ b) ≡ all_stepped (all_stepped w a) b
  steps_append w [] b = refl
  steps_append w (step ∷ a) b = steps_append (stepped w step) a b

  pub may_append : (w : World K C S I O) (a b : List Step) → AllMayStep w a
      → AllMayStep (all_stepped w a) b → AllMayStep w (a ++ b)
  may_append w [] b p q = q
  may_append w (step ∷ a) b p q = (p.0, may_append (stepped w step) a b p.1 q)

  abbrev pub in_none : (w : World K C S I O) → InSteps w w
  in_none w = record { steps = []; may = tt; reached = refl }

  abbrev pub in_one : (w : World K C S I O) (step : Step) → MayStep w step
      → InSteps w (stepped w step)
  in_one w step may = record { steps = step ∷ []; may = (may, tt); reached = refl }

  abbrev pub in_then : (w v u : World K C S I O) → InSteps w v → InSteps v u → InSteps w u
  in_then w v u a b = record {
    steps = a.steps ++ b.steps;
    may =
        may_append w a.steps b.steps a.may
        (subst (λ (x : World K C S I O). AllMayStep x b.steps) (sym a.reached) b.may);
    reached =
        steps_append w a.steps b.steps
        ∙ ap (λ (x : World K C S I O). all_stepped x b.steps) a.reached ∙ b.reached;
  }

  -- plain changes
  plainly : (w : World K C S I O) (cs : List Change) → AreAllowed r m d w cs
      → list_all connects cs ≡ true → InSteps w (all_changed r m d w cs)
  plainly w [] allowed plain = in_none w
  plainly w (c ∷ cs) allowed plain =
      let both = and_parts (connects c) (list_all connects cs) plain in
      in_then w (changed r m d w c) (all_changed r m d (changed r m d w c) cs)
      (in_one w (IsPlain c) (allowed.0, connects_plainly c both.0))
      (plainly (changed r m d w c) cs allowed.1 both.1)

  pub connecting : (w v : World K C S I O) → WorksBy connects r m d w v → InSteps w v
  connecting w v a =
      subst (InSteps w) a.leads.reached
      (plainly w a.leads.changes a.leads.allowed a.work)

  -- ---- what each part of a round does, where legs are up for both ends or for neither

  abbrev Keeps : World K C S I O → World K C S I O → Type 0
  Keeps w v = AreUpAtBoth w → AreUpAtBoth v × InSteps w v

  abbrev pub Goes : World K C S I O → World K C S I O × List Answer → Type 0
  Goes w did = Keeps w did.0

  none : (w : World K C S I O) → Goes w (w, [])
  none w both = (both, in_none w)

  keeps_then : (w v u : World K C S I O) → Keeps w v → Keeps v u → Keeps w u
  keeps_then w v u a b both =
      let first = a both in
      let next = b first.0 in (next.0, in_then w v u first.1 next.1)

  behind : (w : World K C S I O) (did : World K C S I O × List Answer)
      (act : World K C S I O → World K C S I O × List Answer) → Goes w did
      → ((v : World K C S I O) → Goes v (act v)) → Goes w (and_then did act)
  behind w did act a b = keeps_then w did.0 (act did.0).0 a (b did.0)

  opened_goes : (w : World K C S I O) (leg : Leg) (did : World K C S I O × Bool)
      → Keeps w did.0 → Goes w (opened leg did)
  opened_goes w leg (v, true) a = a
  opened_goes w leg (v, false) a = a

  opened_same_goes : (w : World K C S I O) (leg : Leg) (did : World K C S I O × Bool)
      → Keeps w did.0 → Goes w (opened_same leg did)
  opened_same_goes w leg (v, true) a = a
  opened_same_goes w leg (v, false) a = a

  carried_goes : (w : World K C S I O) (leg : Leg) (dir : Dir)
      (did : World K C S I O × Option (List ℕ)) → Keeps w did.0
      → Goes w (carried leg dir did)
  carried_goes w leg dir (v, None) a = a
  carried_goes w leg dir (v, Some []) a = a
  carried_goes w leg dir (v, Some (b ∷ bytes)) a = a

  took_goes : (w : World K C S I O) (end : Side) (ended : Bool)
      (did : World K C S I O × TakeAnswer) → Keeps w did.0
      → Goes w (took end ended did)
  took_goes w end ended (v, takes.Pdu pdu) a = a
  took_goes w end ended (v, takes.Empty) a = a
  took_goes w end false (v, takes.Ended) a = a
  took_goes w end true (v, takes.Ended) a = a
  took_goes w end ended (v, takes.Closed why) a = a

  -- ---- bytes are carried

  pub send_in_steps : (w : World K C S I O) (leg : Leg) (dir : Dir) (count : ℕ)
      → InSteps w (send r w leg dir count).0
  send_in_steps w leg dir count = by (legs.is_up leg (sender dir) w.legs) refl
    where
      by : (t : Bool) → legs.is_up leg (sender dir) w.legs ≡ t
          → InSteps w (if t
          then sent w (draw_into r w.company w.legs (at w leg (sender dir)) leg dir count)
          else (w, None)).0
      by true e = in_one w (IsPlain (IsDrawn leg dir count)) (e, refl)
      by false e = in_none w

  pub feed_in_steps : (w : World K C S I O) (leg : Leg) (dir : Dir) (count : ℕ)
      → InSteps w (feed r w leg dir count).0
  feed_in_steps w leg dir count = by (legs.is_up leg (receiver dir) w.legs) refl
    where
      by : (t : Bool) → legs.is_up leg (receiver dir) w.legs ≡ t
          → InSteps w (if t then fed r w leg dir (legs.take_out leg dir count w.legs)
          else (w, None)).0
      by true e = in_one w (IsPlain (IsFed leg dir count)) (e, refl)
      by false e = in_none w

  carry_goes : (leg : Leg) (dir : Dir) (w : World K C S I O)
      → Goes w (carried leg dir (carry_bytes r leg dir w))
  carry_goes leg dir w =
      let v = (send r w leg dir most_bytes).0 in
      carried_goes w leg dir (carry_bytes r leg dir w)
      (keeps_then w v (feed r v leg dir most_bytes).0
      (λ both. (send_keeps r w leg dir most_bytes both, send_in_steps w leg dir most_bytes))
      (λ both. (feed_keeps r v leg dir most_bytes both, feed_in_steps v leg dir most_bytes)))

  -- ---- what ends is up for both ends, and finished in the direction in which it ends

  finished_goes : (leg : Leg) (dir : Dir) (w : World K C S I O) → is_up w leg ≡ true
      → is_finished r leg dir w ≡ true → Goes w (end_where r leg w (Some dir))
  finished_goes leg dir w up done both =
      (end_keeps r w leg dir both, in_one w (EndsLeg leg dir) (both, up, done))

  one_goes : (leg : Leg) (w : World K C S I O) → Goes w (end_one r leg w)
  one_goes leg w =
      by_test (λ (o : Option Dir). Goes w (end_where r leg w o)) (is_up w leg)
      (if is_finished r leg U w then Some U
      else (if is_finished r leg D w then Some D else None)) None
      (λ up. by_test (λ (o : Option Dir). Goes w (end_where r leg w o)) (is_finished r leg U w)
      (Some U) (if is_finished r leg D w then Some D else None) (finished_goes leg U w up)
      (λ e. by_test (λ (o : Option Dir). Goes w (end_where r leg w o)) (is_finished r leg D w)
      (Some D) None (finished_goes leg D w up) (λ f. none w)))
      (λ down. none w)

  each_goes : (n : ℕ) (act : ℕ → World K C S I O → World K C S I O × List Answer)
      (w : World K C S I O) → ((k : ℕ) (v : World K C S I O) → Goes v (act k v))
      → Goes w (each n act w)
  each_goes zero act w one = none w
  each_goes (suc n) act w one =
      behind w (each n act w) (act n) (each_goes n act w one) (one n)

  kind_goes : (kind : LegKind) (w : World K C S I O) → Goes w (end_kind r kind w)
  kind_goes kind w =
      each_goes (length (legs.of kind w.legs)) (λ number. end_one r (leg_at kind number)) w
      (λ number. one_goes (leg_at kind number))

  ends_go : (w : World K C S I O) → Goes w (end_all r w)
  ends_go w =
      let outs = end_kind r ClientOut w in
      let servers = and_then outs (end_kind r OutServer) in
      let ins = and_then servers (end_kind r ClientIn) in
      behind w ins (end_kind r InServer)
      (behind w servers (end_kind r ClientIn)
      (behind w outs (end_kind r OutServer) (kind_goes ClientOut w) (kind_goes OutServer))
      (kind_goes ClientIn)) (kind_goes InServer)

  -- ---- all rounds

  pub settles_in_steps : (rounds : ℕ) (w : World K C S I O) → Goes w (settle r m d rounds w)
  settles_in_steps rounds =
      rounds_go r m d Goes none behind
      (opens_go r m d Goes none behind
      (λ w leg. opened_goes w leg (open_leg r m w leg)
      (λ both. (
        open_keeps r m w leg both,
        connecting w (open_leg r m w leg).0 (connects_open_leg r m d w leg),
      )))
      (λ w leg. opened_same_goes w leg (open_same r w leg)
      (λ both. (
        same_keeps r m w leg both,
        connecting w (open_same r w leg).0 (connects_open_same r m d w leg),
      ))))
      (carries_go r m d Goes none behind carry_goes)
      (λ end w. took_goes w end (has_ended w end) (take d w end)
      (λ both. (take_keeps d w both end, in_one w (IsPlain (Takes end)) (tt, refl))))
      ends_go
      (λ w v count a. a) (λ w count. none w) rounds 0

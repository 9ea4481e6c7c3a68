-- Pings that become due are moves, which log nothing
use Rattle.law_order.proofs.Vocabulary.{◌≡◌, ℕ, List, [], ◌∷◌, cond, Bool, true, false, Some, None, refl, ap, ◌∙◌, sym, subst, is_some, not, Option, and_parts}
use Rattle.law_moves.proofs.Vocabulary.{Leg, NearEnd, is_finished, Rules, is_quiet, is_quiet_by, pinged, Passage, Pings, moved}
use Rattle.law_node_streams.proofs.Streams.Staging.{LeavesStages, anything, leaves_none, leaves_then}
use Rattle.law_node_streams.proofs.Streams.Ways.{Way, nowhere, way_none, way_one, way_then}

module _ {S : Type 0} (rules : Rules S) where
  -- moves lead to this role, and log nothing
  pub record Reaches (p : Passage S) (role : S) : Type 0 where
    pub passage : Passage S
    pub way : Way rules nowhere nowhere p passage
    pub role_is : passage.role ≡ role
    pub came : passage.came ≡ p.came
    pub put : passage.put ≡ p.put
    pub leaves : LeavesStages rules anything (Unit {0}) p way.moves

  -- where nothing moves
  stands : (p : Passage S) (role : S) → p.role ≡ role → Reaches p role
  stands p role is = record {
    passage = p;
    way = way_none rules nowhere p;
    role_is = is;
    came = refl;
    put = refl;
    leaves = leaves_none rules anything (Unit {0}) p;
  }

  ping_one : (p : Passage S) (role : S) (k : Leg) (t : Bool) → p.role ≡ role
      → (t ≡ true → is_some (rules.ping_after role k) ≡ true)
      → Reaches p (cond t (rules.ping role k) role)
  ping_one p role k true is after = record {
    passage = moved rules p (Pings k);
    way = way_one rules nowhere nowhere p (Pings k) tt (λ leg. λ h. refl) (λ leg. refl);
    role_is = ap (λ (r : S). rules.ping r k) is;
    came = refl;
    put = refl;
    leaves = record {
      in_turn = λ g. λ a.
          (subst (λ (r : S). is_some (rules.ping_after r k) ≡ true) (sym is) (after refl), tt);
      stays = λ g. refl;
      counted = λ a. (tt, tt);
    };
  }
  ping_one p role k false is after = stands p role is

  -- a Ping becomes due where the role says after which time
  quiet_some : (now : ℕ) (role : S) (end : NearEnd) → is_quiet rules role now end ≡ true
      → is_some (rules.ping_after role end.leg) ≡ true
  quiet_some now role end quiet =
      by (rules.ping_after role end.leg) (and_parts (not (is_finished rules role end))
      (is_quiet_by (rules.ping_after role end.leg) end.put_at now) quiet).1
    where
      by : (o : Option ℕ) → is_quiet_by o end.put_at now ≡ true → is_some o ≡ true
      by None h = absurd cc
      by (Some time) h = refl

  pub pings : (now : ℕ) (ends : List NearEnd) (p : Passage S) (role : S) → p.role ≡ role
      → Reaches p (pinged rules now ends role)
  pings now [] p role is = stands p role is
  pings now (end ∷ ends) p role is =
      let one = ping_one p role end.leg (is_quiet rules role now end) is
      (quiet_some now role end) in
      let rest = pings now ends one.passage _ one.role_is in
      record {
        passage = rest.passage;
        way = way_then rules nowhere p one.passage rest.passage one.way rest.way;
        role_is = rest.role_is;
        came = rest.came ∙ one.came;
        put = rest.put ∙ one.put;
        leaves =
            leaves_then rules anything (Unit {0}) p one.passage one.way.moves rest.way.moves
            one.way.reached one.leaves rest.leaves;
      }

-- bytes that are drawn of a node: they spell what its role puts, by moves
use Rattle.law_order.proofs.Vocabulary.{◌≡◌, ℕ, zero, suc, List, [], ◌∷◌, ◌++◌, append_assoc, cond, Bool, true, false, Some, None, refl, sym, ap, ◌∙◌, subst, ◌&&◌, not, Option, append-nil, flat_map-append}
use Rattle.rh_shell.specs.NearEnds.{is_empty}
use Rattle.law_moves.proofs.Vocabulary.{Leg, NearEnd, is_over, Rules, Message, put_into, spell, Drawn, drawn, put_on, filled, left_by, next_byte, draw, Move, Passage, OnLeg, IsDrawn, Puts, put_by, moved, on_leg, spelled}
use Rattle.law_moves.proofs.Lemmas.{empty_is, on_leg_append}
use Rattle.law_moves.proofs.Puttings.{both}
use Rattle.law_node_streams.proofs.Streams.Hears.{in_use}
use Rattle.law_node_streams.proofs.Streams.Staging.{LeavesStages, is_reached, leaves_none, leaves_then}
use Rattle.law_node_streams.proofs.Streams.Ways.{Way, nowhere, way_none, way_one, way_then}

-- what an end keeps while bytes are drawn
pub record IsBeside (a b : NearEnd) : Type 0 where
  pub leg : b.leg ≡ a.leg
  pub pipe : b.pipe ≡ a.pipe
  pub intake : b.intake ≡ a.intake
  pub standing : b.standing ≡ a.standing
  pub count : b.count ≡ a.count

beside_itself : (a : NearEnd) → IsBeside a a
beside_itself a = record {
  leg = refl;
  pipe = refl;
  intake = refl;
  standing = refl;
  count = refl;
}

-- moves that are in their turn where the leg came up, and leave what comes next
abbrev pub Leaves : {S : Type 0} → Rules S → Passage S → Leg → List Move → Type 0
Leaves rules p leg moves = LeavesStages rules (is_reached leg) (Unit {0}) p moves

-- moves put these messages on the leg, and take none
pub record Drew {S : Type 0} (rules : Rules S) (p : Passage S) (end : NearEnd) (d : Drawn S)
    : Type 0 where
  pub passage : Passage S
  pub way : Way rules nowhere nowhere p passage
  pub role : passage.role ≡ d.role
  pub messages : List Message
  pub put : passage.put ≡ p.put ++ on_leg end.leg messages
  pub came : passage.came ≡ p.came
  pub spells : end.begun ++ spelled messages ≡ d.bytes ++ d.end.begun
  pub beside : IsBeside end d.end
  pub leaves : Leaves rules p end.leg way.moves

module _ {S : Type 0} (rules : Rules S) where
  -- nothing is put
  drew_none : (p q : Passage S) (end : NearEnd) (d : Drawn S)
      → (way : Way rules nowhere nowhere p q)
      → Leaves rules p end.leg way.moves → q.role ≡ d.role → q.put ≡ p.put
      → q.came ≡ p.came → end.begun ≡ d.bytes ++ d.end.begun
      → IsBeside end d.end → Drew rules p end d
  drew_none p q end d way leaves is put came same beside = record {
    passage = q;
    way = way;
    role = is;
    messages = [];
    put = put ∙ sym (append-nil p.put);
    came = came;
    spells = append-nil end.begun ∙ same;
    beside = beside;
    leaves = leaves;
  }

  drew_self : (p : Passage S) (end : NearEnd) → Drew rules p end (drawn end p.role [])
  drew_self p end =
      drew_none p p end (drawn end p.role []) (way_none rules nowhere p)
      (leaves_none rules (is_reached end.leg) (Unit {0}) p) refl refl refl
      refl (beside_itself end)

  -- a message that is put where the last one is drawn to its end, or none
  put_drew : (now : ℕ) (p : Passage S) (end : NearEnd) (o : Option (S × Message))
      → (way : Way rules nowhere nowhere p (put_by p end.leg o))
      → Leaves rules p end.leg way.moves → end.begun ≡ []
      → Drew rules p end (put_on now end (put_into p.role o))
  put_drew now p end None way leaves empty = drew_self p end
  put_drew now p end (Some put) way leaves empty = by (spell put.1) refl
    where
      by : (text : List ℕ) → spell put.1 ≡ text
          → Drew rules p end (put_on now end (put.0, text))
      by [] e = record {
        passage = put_by p end.leg (Some put);
        way = way;
        role = refl;
        messages = put.1 ∷ [];
        put = refl;
        came = refl;
        spells = ap (λ (x : List ℕ). end.begun ++ (x ++ [])) e ∙ append-nil end.begun;
        beside = beside_itself end;
        leaves = leaves;
      }
      by (b ∷ bs) e = record {
        passage = put_by p end.leg (Some put);
        way = way;
        role = refl;
        messages = put.1 ∷ [];
        put = refl;
        came = refl;
        spells =
            ap (λ (x : List ℕ). x ++ (spell put.1 ++ [])) empty ∙ append-nil (spell put.1) ∙ e;
        beside = record {
          leg = refl;
          pipe = refl;
          intake = refl;
          standing = refl;
          count = refl;
        };
        leaves = leaves;
      }

  filled_drew : (now : ℕ) (p : Passage S) (end : NearEnd)
      → Drew rules p end (filled rules now end p.role)
  filled_drew now p end = by (is_empty end.begun && not (is_over rules end p.role)) refl
    where
      by : (t : Bool) → (is_empty end.begun && not (is_over rules end p.role)) ≡ t
          → Drew rules p end (cond t (put_on now end (put_into p.role (rules.put p.role end.leg)))
          (drawn end p.role []))
      by true e =
          let two = both (is_empty end.begun) (is_over rules end p.role) e in
          put_drew now p end (rules.put p.role end.leg)
          (way_one rules nowhere nowhere p (Puts end.leg) (in_use rules end p.role two.1)
          (λ leg. λ h. refl) (λ leg. refl))
          (record {
            in_turn = λ g. λ up. (up, tt);
            stays = λ g. refl;
            counted = λ a. (tt, tt);
          })
          (empty_is end.begun two.0)
      by false e = drew_self p end

  -- what is drawn first, and what is drawn then
  drew_then : (p : Passage S) (end : NearEnd) (d e : Drawn S) → (first : Drew rules p end d)
      → Drew rules first.passage d.end e
      → Drew rules p end (drawn e.end e.role (d.bytes ++ e.bytes))
  drew_then p end d e first next = record {
    passage = next.passage;
    way = way_then rules nowhere p first.passage next.passage first.way next.way;
    role = next.role;
    messages = first.messages ++ next.messages;
    put =
        next.put
        ∙ ap (λ (l : Leg). first.passage.put ++ on_leg l next.messages) first.beside.leg
        ∙ ap (λ (l : List OnLeg). l ++ on_leg end.leg next.messages) first.put
        ∙ append_assoc p.put (on_leg end.leg first.messages) (on_leg end.leg next.messages)
        ∙ ap (λ (l : List OnLeg). p.put ++ l)
        (sym (on_leg_append end.leg first.messages next.messages));
    came = next.came ∙ first.came;
    spells =
        ap (λ (l : List ℕ). end.begun ++ l)
        (flat_map-append spell first.messages next.messages)
        ∙ sym (append_assoc end.begun (spelled first.messages) (spelled next.messages))
        ∙ ap (λ (l : List ℕ). l ++ spelled next.messages) first.spells
        ∙ append_assoc d.bytes d.end.begun (spelled next.messages)
        ∙ ap (λ (l : List ℕ). d.bytes ++ l) next.spells
        ∙ sym (append_assoc d.bytes e.bytes e.end.begun);
    beside = record {
      leg = next.beside.leg ∙ first.beside.leg;
      pipe = next.beside.pipe ∙ first.beside.pipe;
      intake = next.beside.intake ∙ first.beside.intake;
      standing = next.beside.standing ∙ first.beside.standing;
      count = next.beside.count ∙ first.beside.count;
    };
    leaves =
        leaves_then rules (is_reached end.leg) (Unit {0}) p first.passage first.way.moves
        next.way.moves first.way.reached first.leaves
        (subst (λ (l : Leg). Leaves rules first.passage l next.way.moves) first.beside.leg
        next.leaves);
  }

  -- one byte goes of the message that is begun
  drew_byte : (p : Passage S) (end : NearEnd) (b : ℕ) (bs : List ℕ) → end.begun ≡ b ∷ bs
      → (let left = left_by rules end p.role bs in
      Drew rules p end (drawn left.end left.role (b ∷ [])))
  drew_byte p end b [] is =
      drew_none p (moved rules p (IsDrawn end.leg)) end _
      (way_one rules nowhere nowhere p (IsDrawn end.leg) tt (λ leg. λ h. refl)
      (λ leg. refl))
      (record {
        in_turn = λ g. λ a. (tt, tt);
        stays = λ g. refl;
        counted = λ a. (tt, tt);
      }) refl refl refl is
      (record { leg = refl; pipe = refl; intake = refl; standing = refl; count = refl })
  drew_byte p end b (c ∷ cs) is =
      drew_none p p end _ (way_none rules nowhere p)
      (leaves_none rules (is_reached end.leg) (Unit {0}) p) refl refl refl is
      (record { leg = refl; pipe = refl; intake = refl; standing = refl; count = refl })

  as_role : (p : Passage S) (end : NearEnd) (role : S) (d : S → Drawn S) → p.role ≡ role
      → Drew rules p end (d p.role) → Drew rules p end (d role)
  as_role p end role d is drew = subst (λ (r : S). Drew rules p end (d r)) is drew

  no_bytes : (now : ℕ) (end : NearEnd) (role : S) → (filled rules now end role).bytes ≡ []
  no_bytes now end role = by (is_empty end.begun && not (is_over rules end role))
    where
      by : (t : Bool) → (cond t (put_on now end (put_into role (rules.put role end.leg)))
          (drawn end role [])).bytes ≡ []
      by true = refl
      by false = refl

  pub draw_drew : (now n : ℕ) (p : Passage S) (end : NearEnd) (role : S) → p.role ≡ role
      → Drew rules p end (draw rules now n end role)
  unfolding draw
  draw_drew now zero p end role is =
      as_role p end role (λ (r : S). drawn end r []) is (drew_self p end)
  draw_drew now (suc n) p end role is =
      let f = filled rules now end role in
      by f (as_role p end role (λ (r : S). filled rules now end r) is (filled_drew now p end))
      (no_bytes now end role) f.end.begun refl (draw_drew now n)
    where
      by : (f : Drawn S) → Drew rules p end f → f.bytes ≡ [] → (bytes : List ℕ)
          → f.end.begun ≡ bytes
          → ((q : Passage S) (e : NearEnd) (r : S) → q.role ≡ r
          → Drew rules q e (draw rules now n e r))
          → Drew rules p end (next_byte rules f bytes (draw rules now n))
      by f first plain [] e more = first
      by f first plain (b ∷ bs) e more =
          let left = left_by rules f.end f.role bs in
          let begun : Drew rules p end (drawn f.end f.role []) =
          subst (λ (x : List ℕ). Drew rules p end (drawn f.end f.role x)) plain first in
          let one : Drew rules begun.passage f.end (drawn left.end left.role (b ∷ [])) =
          as_role begun.passage f.end f.role
          (λ (r : S). drawn (left_by rules f.end r bs).end (left_by rules f.end r bs).role
          (b ∷ [])) begun.role (drew_byte begun.passage f.end b bs e) in
          let rest = more one.passage left.end left.role one.role in
          let behind = draw rules now n left.end left.role in
          let all = drew_then begun.passage f.end (drawn left.end left.role (b ∷ [])) behind
          one rest in
          drew_then p end (drawn f.end f.role [])
          (drawn behind.end behind.role (b ∷ behind.bytes)) begun all

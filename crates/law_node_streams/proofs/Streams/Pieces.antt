-- bytes that a node hears one after the other
use Rattle.law_order.proofs.Vocabulary.{◌≡◌, ◌⊎◌, inl, inr, ℕ, List, [], ◌∷◌, ◌++◌, append_assoc, Bool, true, false, Some, None, Err, refl, sym, ap, ◌∙◌, subst, Option, append-nil, IsPrefix}
use Rattle.rh_shell.specs.declared.answers.HeadRefused.TheVariants as head
use Rattle.law_moves.proofs.Vocabulary.{prefix_more, prefix_trans, prefix_behind, neither, Pipe, Leg, Stop, Turn, hear, hear_byte, heard, is_stopped, Intake, NearEnd, is_over, Rules, Message, same_leg, on_leg, is_deaf, Passage, OnLeg, all_moved, IsHeld, Reading, reading, reading_after, messages_from, AreCounted, Stages, AreInTurnFrom}
use Rattle.law_moves.proofs.Lemmas.{read_behind as from_append, on_leg_append}
use Rattle.law_node_streams.proofs.Streams.Counts.{TellsOn, counted_append}
use Rattle.law_node_streams.proofs.Streams.Bytes.{after_append, dead_reads}
use Rattle.law_node_streams.proofs.Streams.Heads.{HeadBy, each_as, head_as, head_more, head_then, waited}
use Rattle.law_node_streams.proofs.Streams.Hears.{Heard, IsExact, IsRefused, IsSame, Judges, byte_heard}
use Rattle.law_node_streams.proofs.Streams.Staging.{IsNext, all_stages, all_stages_append, in_turn_append}
use Rattle.law_node_streams.proofs.Streams.Ways.{each_joined, way_as, way_none, way_then}
use Rattle.law_node_streams.specs.Streams.{is_live}

pub prefix_of_none : (a : List Message) → IsPrefix a [] → a ≡ []
prefix_of_none [] p = refl
prefix_of_none (x ∷ xs) p = absurd cc

unrefused : (o : Option Stop) → is_stopped o ≡ false → IsRefused o → ⊥
unrefused None h r = r
unrefused (Some why) h r = absurd cc

same_then : (a b c : NearEnd) → IsSame a b → IsSame b c → IsSame a c
same_then a b c s t = record {
  leg = t.leg ∙ s.leg;
  pipe = t.pipe ∙ s.pipe;
  begun = t.begun ∙ s.begun;
  standing = t.standing ∙ s.standing;
}

-- what is taken first, and then of what is read behind it, where it is all of that
pub exact_then : (pipe : Option Pipe) (i j k : Intake) (xs ys : List ℕ) (ms ns : List Message)
    → IsExact pipe i j xs ms → IsExact pipe j k ys ns → IsExact pipe i k (xs ++ ys) (ms ++ ns)
exact_then pipe i j k xs ys ms ns a b = record {
  live = a.live;
  all =
      ap (λ (l : List Message). l ++ ns) a.all
      ∙ ap (λ (l : List Message). messages_from pipe start xs ++ l)
      (b.all ∙ ap (λ r. messages_from pipe r ys) (sym a.after))
      ∙ sym (from_append pipe start xs ys);
  after =
      after_append pipe start xs ys ∙ ap (λ r. reading_after pipe r ys) a.after ∙ b.after;
}
  where
    start : Reading
    start = reading i.stage i.held

pub front_more : (pipe : Option Pipe) (r : Reading) (xs ys : List ℕ) (ms : List Message)
    → IsPrefix ms (messages_from pipe r xs) → IsPrefix ms (messages_from pipe r (xs ++ ys))
front_more pipe r xs ys ms front =
    subst (IsPrefix ms) (sym (from_append pipe r xs ys))
    (prefix_trans ms (messages_from pipe r xs) _ front
    (prefix_more (messages_from pipe r xs) (messages_from pipe (reading_after pipe r xs) ys)))

-- a front of what is read behind what was taken, where that is all
pub front_then : (pipe : Option Pipe) (r : Reading) (j : Intake) (xs ys : List ℕ)
    (ms ns : List Message)
    → (is_live j.stage ≡ true
    → (ms ≡ messages_from pipe r xs) × (reading_after pipe r xs ≡ reading j.stage j.held))
    → IsPrefix ms (messages_from pipe r xs)
    → IsPrefix ns (messages_from pipe (reading j.stage j.held) ys)
    → IsPrefix (ms ++ ns) (messages_from pipe r (xs ++ ys))
front_then pipe r j xs ys ms ns exact front next =
    elim (is_live j.stage) as (λ t. is_live j.stage ≡ t
    → IsPrefix (ms ++ ns) (messages_from pipe r (xs ++ ys))) [
      | true ↦ λ e.
          let all = exact e in
          subst (λ (l : List Message). IsPrefix (l ++ ns) (messages_from pipe r (xs ++ ys)))
          (sym all.0)
          (subst (IsPrefix (messages_from pipe r xs ++ ns)) (sym (from_append pipe r xs ys))
          (prefix_behind (messages_from pipe r xs) ns
          (messages_from pipe (reading_after pipe r xs) ys)
          (subst (λ s. IsPrefix ns (messages_from pipe s ys)) (sym all.1) next)))
      | false ↦ λ e.
          let none = prefix_of_none ns
          (subst (IsPrefix ns) (dead_reads pipe j.stage j.held ys e) next) in
          subst (λ (l : List Message). IsPrefix l (messages_from pipe r (xs ++ ys)))
          (sym (append-nil ms) ∙ ap (λ (l : List Message). ms ++ l) (sym none))
          (front_more pipe r xs ys ms front)
    ] refl

module _ {S : Type 0} (rules : Rules S) where
  -- nothing is heard any more
  heard_none : (p : Passage S) (u : Turn S) (piece : List ℕ) → p.role ≡ u.role
      → is_stopped u.stop ≡ false → (is_deaf rules u ≡ false → piece ≡ []) → IsHeld u.end
      → Heard rules p u.end u piece
  heard_none p u piece is on deaf held = record {
    passage = p;
    way = way_none rules (same_leg u.end.leg) p;
    role = is;
    put = refl;
    messages = [];
    came = sym (append-nil p.came);
    front = (messages_from u.end.pipe (reading u.end.intake.stage u.end.intake.held) piece, refl);
    exact = λ h. λ l.
        subst (λ (x : List ℕ). IsExact u.end.pipe u.end.intake u.end.intake x []) (sym (deaf h))
        (record { live = l; all = refl; after = refl });
    heads = λ h. λ e. (e, refl);
    refused = λ r. absurd (unrefused u.stop on r);
    texts = tt;
    turns = λ g. λ n. (tt, λ h. n);
    counted = λ h. (tt, λ go. h);
    on = by (is_deaf rules u) refl;
    same = record { leg = refl; pipe = refl; begun = refl; standing = refl };
    held = held;
  }
    where
      none : List Message
      none = []

      by : (t : Bool) → is_deaf rules u ≡ t
          → ((none ≡ []) × (is_deaf rules u ≡ true)) ⊎ (is_over rules u.end p.role ≡ false)
      by true e = inl (refl, e)
      by false e =
          inr (subst (λ (r : S). is_over rules u.end r ≡ false) (sym is)
          (neither (is_stopped u.stop) (is_over rules u.end u.role) e).1)

  -- a piece, and then another one that is not heard any more
  heard_deaf : (p : Passage S) (end : NearEnd) (u : Turn S) (xs ys : List ℕ)
      → Heard rules p end u xs → is_deaf rules u ≡ true → Heard rules p end u (xs ++ ys)
  heard_deaf p end u xs ys first deaf = record {
    passage = first.passage;
    way = first.way;
    role = first.role;
    put = first.put;
    messages = first.messages;
    came = first.came;
    front = front_more end.pipe (reading end.intake.stage end.intake.held) xs ys first.messages
        first.front;
    exact = λ h. absurd cc;
    heads = first.heads;
    refused = λ r.
        let b = first.refused r in (
          b.0,
          record {
            text = b.1.text;
            judges = more b.1.text b.1.judges;
            fault = b.1.fault;
            refuses = b.1.refuses;
          },
        );
    texts =
        each_as (HeadBy (Judges rules p end xs)) (HeadBy (Judges rules p end (xs ++ ys)))
        first.way.moves (head_as (Judges rules p end xs) (Judges rules p end (xs ++ ys)) more)
        first.texts;
    turns = first.turns;
    counted = first.counted;
    on = first.on;
    same = first.same;
    held = first.held;
  }
    where
      more : (text : List ℕ) → Judges rules p end xs text → Judges rules p end (xs ++ ys) text
      more text j = (j.0, head_more end.intake xs ys text j.1)

  -- and another one that is heard
  heard_then : (p : Passage S) (end : NearEnd) (u v : Turn S) (xs ys : List ℕ)
      → (first : Heard rules p end u xs) → is_deaf rules u ≡ false
      → Heard rules first.passage u.end v ys → Heard rules p end v (xs ++ ys)
  heard_then p end u v xs ys first on next = record {
    passage = next.passage;
    way =
        way_then rules (same_leg end.leg) p first.passage next.passage first.way
        (way_as rules (same_leg u.end.leg) (same_leg end.leg) first.passage next.passage
        (λ leg. λ h. ap (λ (l : Leg). same_leg l leg) first.same.leg ∙ h) next.way);
    role = next.role;
    put = next.put ∙ first.put;
    messages = first.messages ++ next.messages;
    came =
        next.came
        ∙ ap (λ (l : Leg). first.passage.came ++ on_leg l next.messages) first.same.leg
        ∙ ap (λ (l : List OnLeg). l ++ on_leg end.leg next.messages) first.came
        ∙ append_assoc p.came (on_leg end.leg first.messages) (on_leg end.leg next.messages)
        ∙ ap (λ (l : List OnLeg). p.came ++ l)
        (sym (on_leg_append end.leg first.messages next.messages));
    front =
        front_then end.pipe (reading end.intake.stage end.intake.held) u.end.intake xs ys
        first.messages next.messages
        (λ l. let e = first.exact on l in (e.all, e.after)) first.front
        (subst (λ (k : Option Pipe). IsPrefix next.messages
        (messages_from k (reading u.end.intake.stage u.end.intake.held) ys)) first.same.pipe
        next.front);
    exact = λ h. λ l.
        let b = subst (λ (k : Option Pipe). IsExact k u.end.intake v.end.intake ys next.messages)
        first.same.pipe (next.exact h l) in
        exact_then end.pipe end.intake u.end.intake v.end.intake xs ys first.messages
        next.messages (first.exact on b.live) b;
    heads = λ h. λ e.
        let b = next.heads h e in
        let a = first.heads quiet b.0 in
        (a.0, ap (λ x. x ++ next.way.moves) a.1 ∙ b.1);
    refused = λ r.
        let b = next.refused r in
        let a = first.heads quiet b.0 in
        let still : first.passage ≡ p =
        sym first.way.reached ∙ ap (all_moved rules p) a.1 in (
          a.0,
          record {
            text = b.1.text;
            judges = joined b.1.text b.1.judges;
            fault = b.1.fault;
            refuses =
                subst (λ (l : Leg). (rules.head p.role l b.1.text).1
                ≡ Err (head.Request b.1.fault)) first.same.leg
                (subst (λ (x : Passage S). (rules.head x.role u.end.leg b.1.text).1
                ≡ Err (head.Request b.1.fault)) still b.1.refuses);
          },
        );
    texts =
        each_joined (HeadBy (Judges rules p end (xs ++ ys))) first.way.moves next.way.moves
        (each_as (HeadBy (Judges rules p end xs)) (HeadBy (Judges rules p end (xs ++ ys)))
        first.way.moves
        (head_as (Judges rules p end xs) (Judges rules p end (xs ++ ys))
        (λ text j. (j.0, head_more end.intake xs ys text j.1))) first.texts)
        (each_as (HeadBy (Judges rules first.passage u.end ys))
        (HeadBy (Judges rules p end (xs ++ ys))) next.way.moves
        (head_as (Judges rules first.passage u.end ys) (Judges rules p end (xs ++ ys)) joined)
        next.texts);
    turns = λ g. λ n.
        let a = first.turns g n in
        let h = all_stages rules p g first.way.moves in
        let b = next.turns h
        (subst (λ (l : Leg). IsNext (h l) u.end.intake.stage) (sym first.same.leg) (a.1 quiet)) in (
          in_turn_append rules p g first.way.moves next.way.moves a.0
              (subst (λ x. AreInTurnFrom rules x h next.way.moves) (sym first.way.reached) b.0),
          λ go.
              subst (λ (f : Stages). IsNext (f end.leg) v.end.intake.stage)
              (sym (all_stages_append rules p g first.way.moves next.way.moves
              ∙ ap (λ x. all_stages rules x h next.way.moves) first.way.reached))
              (subst (λ (l : Leg). IsNext (all_stages rules first.passage h next.way.moves l)
              v.end.intake.stage) first.same.leg (b.1 go)),
        );
    counted = λ h.
        let a = first.counted h in
        let b = next.counted
        (subst (λ (l : Leg). TellsOn first.passage l u.end.count)
        (sym first.same.leg) (a.1 quiet)) in (
          counted_append rules p first.way.moves next.way.moves a.0
              (subst (λ x. AreCounted rules x next.way.moves) (sym first.way.reached) b.0),
          λ go.
              subst (λ (l : Leg). TellsOn next.passage l v.end.count) first.same.leg (b.1 go),
        );
    on = still_on first.on;
    same = same_then end u.end v.end first.same next.same;
    held = next.held;
  }
    where
      still_on : ((first.messages ≡ []) × (is_deaf rules u ≡ true))
          ⊎ (is_over rules end p.role ≡ false)
          → ((first.messages ++ next.messages ≡ []) × (is_deaf rules v ≡ true))
          ⊎ (is_over rules end p.role ≡ false)
      still_on (inl h) = absurd (let bad : true ≡ false = sym h.1 ∙ on in cc)
      still_on (inr h) = inr h

      quiet : is_stopped u.stop ≡ false
      quiet = (neither (is_stopped u.stop) (is_over rules u.end u.role) on).0

      was_on : ((first.messages ≡ []) × (is_deaf rules u ≡ true))
          ⊎ (is_over rules end p.role ≡ false) → is_over rules end p.role ≡ false
      was_on (inl h) = absurd (let bad : true ≡ false = sym h.1 ∙ on in cc)
      was_on (inr h) = h

      -- a head behind the first bytes began with what is held
      joined : (text : List ℕ) → Judges rules first.passage u.end ys text
          → Judges rules p end (xs ++ ys) text
      joined text j =
          let e = first.exact on (ap is_live j.1.head) in (
            was_on first.on,
            head_then end.intake u.end.intake xs ys text
                (waited end.pipe (reading end.intake.stage end.intake.held) xs u.end.intake.held
                (e.after ∙ ap (λ s. reading s u.end.intake.held) j.1.head)) j.1,
          )

  hear_none : (now : ℕ) (t : Turn S) → hear rules now t [] ≡ t
  unfolding hear
  hear_none now t = refl

  hear_deaf : (now : ℕ) (t : Turn S) (bs : List ℕ) → is_deaf rules t ≡ true
      → hear rules now t bs ≡ t
  unfolding hear hear_byte
  hear_deaf now t [] h = refl
  hear_deaf now t (b ∷ bs) h = rw h (hear_deaf now t bs h)

  hear_on : (now : ℕ) (t : Turn S) (b : ℕ) (bs : List ℕ) → is_deaf rules t ≡ false
      → hear rules now t (b ∷ bs) ≡ hear rules now (heard rules now t.end t.role b) bs
  unfolding hear hear_byte
  hear_on now t b bs h = rw h refl

  first_byte : (now : ℕ) (p : Passage S) (t : Turn S) (b : ℕ) → p.role ≡ t.role
      → is_deaf rules t ≡ false → IsHeld t.end
      → Heard rules p t.end (heard rules now t.end t.role b) (b ∷ [])
  first_byte now p t b is on held =
      subst (λ (r : S). Heard rules p t.end (heard rules now t.end r b) (b ∷ [])) is
      (byte_heard rules now p t.end b
      (subst (λ (r : S). is_over rules t.end r ≡ false) (sym is)
      (neither (is_stopped t.stop) (is_over rules t.end t.role) on).1) held)

  pub piece_heard : (now : ℕ) (p : Passage S) (t : Turn S) (piece : List ℕ) → p.role ≡ t.role
      → is_stopped t.stop ≡ false → IsHeld t.end
      → Heard rules p t.end (hear rules now t piece) piece
  piece_heard now p t [] is on held =
      subst (λ (x : Turn S). Heard rules p t.end x []) (sym (hear_none now t))
      (heard_none p t [] is on (λ h. refl) held)
  piece_heard now p t (b ∷ bs) is on held =
      elim (is_deaf rules t) as (λ d. is_deaf rules t ≡ d
      → Heard rules p t.end (hear rules now t (b ∷ bs)) (b ∷ bs)) [
        | true ↦ λ e.
            subst (λ (x : Turn S). Heard rules p t.end x (b ∷ bs))
            (sym (hear_deaf now t (b ∷ bs) e))
            (heard_none p t (b ∷ bs) is on (λ h. absurd cc) held)
        | false ↦ λ e.
            let u = heard rules now t.end t.role b in
            let first = first_byte now p t b is e held in
            subst (λ (x : Turn S). Heard rules p t.end x (b ∷ bs)) (sym (hear_on now t b bs e))
            (elim (is_deaf rules u) as (λ d. is_deaf rules u ≡ d
            → Heard rules p t.end (hear rules now u bs) (b ∷ bs)) [
              | true ↦ λ deaf.
                  subst (λ (x : Turn S). Heard rules p t.end x (b ∷ bs))
                  (sym (hear_deaf now u bs deaf))
                  (heard_deaf p t.end u (b ∷ []) bs first deaf)
              | false ↦ λ heard_on.
                  heard_then p t.end u (hear rules now u bs) (b ∷ []) bs first heard_on
                  (piece_heard now first.passage u bs first.role
                  (neither (is_stopped u.stop) (is_over rules u.end u.role) heard_on).0
                  first.held)
            ] refl)
      ] refl

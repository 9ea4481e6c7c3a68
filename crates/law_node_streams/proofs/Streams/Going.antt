-- what is known of a node that goes on
use Rattle.law_order.proofs.Vocabulary.{◌≡◌, ℕ, List, [], ◌++◌, cond, Bool, true, false, Some, None, refl, sym, ap, ◌∙◌, subst, ◌&&◌, nat_le, take, drop, Option, append-nil, and_parts, IsPrefix}
use Rattle.law_moves.proofs.Vocabulary.{Pipe, Cause, Leg, Course, Going, Closed, Refusing, NearEnd, Rules, Message, Shell, new_end, bytes_by, broken_by, drawn_by, end_at, ended_by, is_working, may_up, passed, same_leg, up, with_leg, spelled, Move, Passage, Event, ComesUp, Hears, Ends, Breaks, Draws, Ticks, after_event, of_leg}
use Rattle.law_node_streams.proofs.Streams.Begun.{KeepsBegun}
use Rattle.law_node_streams.proofs.Streams.Ends.{end_is, end_of}
use Rattle.law_node_streams.proofs.Streams.Kept.{IsSeated, Kept}
use Rattle.law_node_streams.proofs.Streams.Seats.{at_work, seat}
use Rattle.law_node_streams.proofs.Streams.Turns.{Answers, Nowhere, Sits, Turns, seat_by}
use Rattle.law_node_streams.proofs.Streams.Turns as turns
use Rattle.law_node_streams.specs.Streams.{Seated, is_refused_on}

-- ---- where a node refuses nobody it refused nobody before

module _ {S : Type 0} (rules : Rules S) (leg : Leg) (s : Shell S) where
  -- nothing happens at one that closed, but that a refusal is drawn
  abbrev WasFree : Shell S → Type 0
  WasFree t = is_refused_on leg t.course ≡ false → is_refused_on leg s.course ≡ false

  pub free_before : (event : Event) → WasFree (after_event rules s event)
  free_before (ComesUp other cookie) = by (may_up rules s other)
    where
      by : (t : Bool) → WasFree (cond t (with_leg rules s other cookie) s)
      by true e = e
      by false e = e
  free_before (Hears other piece) = by s.course refl
    where
      by : (c : Course) → s.course ≡ c → WasFree (bytes_by rules s other piece c)
      by Going is e = ap (is_refused_on leg) is
      by (Closed why) is e = e
      by (Refusing why client rest) is e = e
  free_before (Ends other) = by s.course refl
    where
      by : (c : Course) → s.course ≡ c → WasFree (ended_by rules s other c)
      by Going is e = ap (is_refused_on leg) is
      by (Closed why) is e = e
      by (Refusing why client rest) is e = e
  free_before (Breaks other) = by s.course refl
    where
      by : (c : Course) → s.course ≡ c → WasFree (broken_by rules s other c)
      by Going is e = ap (is_refused_on leg) is
      by (Closed why) is e = e
      by (Refusing why client rest) is e = e
  free_before (Draws other room) = by s.course refl
    where
      of_rest : (why : Cause) (client : Leg) (rest : List ℕ) (t : Bool)
          → s.course ≡ Refusing why client rest
          → WasFree (cond {A = Shell S × List ℕ} t
          (record s { course = Refusing why client (drop room rest) }, take room rest) (s, [])).0
      of_rest why client rest true is e = ap (is_refused_on leg) is ∙ e
      of_rest why client rest false is e = e

      by : (c : Course) → s.course ≡ c → WasFree (drawn_by rules s other room c).0
      by Going is e = ap (is_refused_on leg) is
      by (Closed why) is e = e
      by (Refusing why client rest) is e = of_rest why client rest (same_leg client other) is e
  free_before (Ticks now) = by (is_working rules s && nat_le s.now now) refl
    where
      by : (t : Bool) → (is_working rules s && nat_le s.now now) ≡ t
          → WasFree (cond t (passed rules (record s { now = now })) s)
      by true w e =
          ap (is_refused_on leg) (at_work s.course (rules.phase s.role)
          (and_parts (is_working rules s) (nat_le s.now now) w).0).0
      by false w e = e

-- ---- and what it drew was put

answers_not : (leg : Leg) (c : Course) (o : Option NearEnd) (rest : List ℕ)
    → is_refused_on leg c ≡ false → seat_by leg c o ≡ Answers rest → ⊥
answers_not leg Going None rest is e = absurd cc
answers_not leg Going (Some end) rest is e = absurd cc
answers_not leg (Closed why) o rest is e = absurd cc
answers_not leg (Refusing why client left) o rest is e =
    absurd (let bad : Nowhere ≡ Answers rest =
    sym (ap (λ t. cond t (Answers left) Nowhere) is) ∙ e in cc)

-- a leg has an end as one of a node that goes on
sits_on : (leg : Leg) (c : Course) (o : Option NearEnd) (x : NearEnd) → seat_by leg c o ≡ Sits x
    → c ≡ Going
sits_on leg Going o x e = refl
sits_on leg (Closed why) o x e = absurd cc
sits_on leg (Refusing why client rest) o x e = by (same_leg client leg) e
  where
    by : (t : Bool) → cond t (Answers rest) Nowhere ≡ Sits x → Refusing why client rest ≡ Going
    by true e = absurd cc
    by false e = absurd cc

-- what was put spells what was drawn, and then what is begun
abbrev pub IsSpelledOut : {S : Type 0} → Leg → Shell S → List Message → List ℕ → Type 0
IsSpelledOut leg s put drawn =
    is_refused_on leg s.course ≡ false → (end : NearEnd) → end_of leg s.legs ≡ Some end
    → spelled put ≡ drawn ++ end.begun

-- and by the place of the end
pub spelled_at : {S : Type 0} (leg : Leg) (s : Shell S) (put : List Message) (drawn : List ℕ)
    → IsSpelledOut leg s put drawn → (end : NearEnd) → is_refused_on leg s.course ≡ false
    → end_at s leg ≡ Some end → spelled put ≡ drawn ++ end.begun
spelled_at leg s put drawn left end free at = left free end (sym (end_is leg s.legs) ∙ at)

module _ {S : Type 0} (rules : Rules S) (pipe : Option Pipe) (leg : Leg)
    (Sound MayRefuse : Type 0) where
  pub goes_keep : (p q : Passage S) (all ns : List Move) (s t : Shell S)
      (heard drawn bytes out : List ℕ) (up later : Bool) → is_refused_on leg s.course ≡ false
      → IsPrefix drawn (spelled (of_leg leg p.put))
      → Kept rules pipe leg Sound MayRefuse q all (seat leg t) heard (drawn ++ out) later
      → Turns rules pipe leg p q ns (seat leg s) (seat leg t) bytes out up later
      → IsPrefix (drawn ++ out) (spelled (of_leg leg q.put))
  goes_keep p q all ns s t heard drawn bytes out up later free front kept turn = by turn
    where
      same : of_leg leg q.put ≡ of_leg leg p.put → out ≡ []
          → IsPrefix (drawn ++ out) (spelled (of_leg leg q.put))
      same put none =
          subst (λ x. IsPrefix x (spelled (of_leg leg q.put)))
          (sym (ap (λ x. drawn ++ x) none ∙ append-nil drawn))
          (subst (λ x. IsPrefix drawn (spelled x)) (sym put) front)

      by : Turns rules pipe leg p q ns (seat leg s) (seat leg t) bytes out up later
          → IsPrefix (drawn ++ out) (spelled (of_leg leg q.put))
      by (turns.Passes a) = same a.quiet.put a.quiet.out_is
      by (turns.Hears h) =
          same (ap (λ (x : Passage S). of_leg leg x.put) (sym h.passage)
          ∙ ap (of_leg leg) h.heard.put) h.out_is
      by (turns.Draws d) =
          let sits = subst (IsSeated rules pipe leg Sound MayRefuse q all heard (drawn ++ out))
          d.after kept.seat in
          (d.drawn.end.begun, sym sits.spells)
      by (turns.Tells a) =
          absurd (answers_not leg s.course (end_of leg s.legs) a.rest free a.before)
      by (turns.Comes c) = same c.quiet.put c.quiet.out_is
      by (turns.Fails u) = same u.quiet.put u.quiet.out_is

  -- ---- and its ends spell the rest of that

  pub left_keeps : (p q : Passage S) (all ns : List Move) (s t : Shell S)
      (heard drawn bytes out : List ℕ) (up later : Bool) → is_refused_on leg s.course ≡ false
      → ((end : NearEnd) → end_of leg s.legs ≡ Some end
      → spelled (of_leg leg p.put) ≡ drawn ++ end.begun)
      → Kept rules pipe leg Sound MayRefuse q all (seat leg t) heard (drawn ++ out) later
      → KeepsBegun leg s t
      → Turns rules pipe leg p q ns (seat leg s) (seat leg t) bytes out up later
      → (end : NearEnd) → end_of leg t.legs ≡ Some end
      → spelled (of_leg leg q.put) ≡ (drawn ++ out) ++ end.begun
  left_keeps p q all ns s t heard drawn bytes out up later free left kept begins turn end at =
      by t.course refl
    where
      same : (t.course ≡ Going → ⊥) → of_leg leg q.put ≡ of_leg leg p.put → out ≡ []
          → spelled (of_leg leg q.put) ≡ (drawn ++ out) ++ end.begun
      same stopped put none =
          let was = begins stopped end at in
          ap spelled put ∙ left was.before was.at
          ∙ ap (λ (x : List ℕ). x ++ was.before.begun)
          (sym (ap (λ (x : List ℕ). drawn ++ x) none ∙ append-nil drawn))
          ∙ ap (λ (x : List ℕ). (drawn ++ out) ++ x) (sym was.same)

      -- one that sits goes on
      sits : (x : NearEnd) → seat leg t ≡ Sits x → t.course ≡ Going
      sits x = sits_on leg t.course (end_of leg t.legs) x

      at_stop : (t.course ≡ Going → ⊥)
          → Turns rules pipe leg p q ns (seat leg s) (seat leg t) bytes out up later
          → spelled (of_leg leg q.put) ≡ (drawn ++ out) ++ end.begun
      at_stop stopped (turns.Passes a) = same stopped a.quiet.put a.quiet.out_is
      at_stop stopped (turns.Hears h) =
          same stopped (ap (λ (x : Passage S). of_leg leg x.put) (sym h.passage)
          ∙ ap (of_leg leg) h.heard.put) h.out_is
      at_stop stopped (turns.Draws d) = absurd (stopped (sits d.drawn.end d.after))
      at_stop stopped (turns.Tells a) =
          absurd (answers_not leg s.course (end_of leg s.legs) a.rest free a.before)
      at_stop stopped (turns.Comes c) = absurd (stopped (sits (new_end leg pipe c.now) c.after))
      at_stop stopped (turns.Fails u) = same stopped u.quiet.put u.quiet.out_is

      by : (c : Course) → t.course ≡ c
          → spelled (of_leg leg q.put) ≡ (drawn ++ out) ++ end.begun
      by Going is =
          (subst (IsSeated rules pipe leg Sound MayRefuse q all heard (drawn ++ out))
          (ap (λ c. seat_by leg c (end_of leg t.legs)) is ∙ ap (seat_by leg Going) at)
          kept.seat).spells
      by (Closed why) is =
          at_stop (λ e. absurd (let bad : Closed why ≡ Going = sym is ∙ e in cc)) turn
      by (Refusing why client rest) is =
          at_stop (λ e. absurd (let bad : Refusing why client rest ≡ Going = sym is ∙ e in cc)) turn

  -- ---- and while it goes on

  pub kept_seated : (p : Passage S) (ms : List Move) (s : Shell S) (heard drawn : List ℕ)
      (up : Bool) → p.role ≡ s.role
      → Kept rules pipe leg Sound MayRefuse p ms (seat leg s) heard drawn up
      → (end : NearEnd) → s.course ≡ Going → end_at s leg ≡ Some end
      → Seated rules s.role pipe (of_leg leg p.came) (of_leg leg p.put) heard drawn end
  kept_seated p ms s heard drawn up role kept end going at =
      subst (λ (r : S). Seated rules r pipe (of_leg leg p.came) (of_leg leg p.put) heard drawn
      end) role (record {
        pipe_is = sits.pipe_is;
        spells = sits.spells;
        reads = λ over live.
            let read = sits.reads over live in
            record { all = read.all; after = read.after };
      })
    where
      sits : IsSeated rules pipe leg Sound MayRefuse p ms heard drawn (Sits end)
      sits =
          subst (IsSeated rules pipe leg Sound MayRefuse p ms heard drawn)
          (ap (λ c. seat_by leg c (end_of leg s.legs)) going
          ∙ ap (seat_by leg Going) (sym (end_is leg s.legs) ∙ at)) kept.seat

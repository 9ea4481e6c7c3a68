-- a channel that had opened stays the current one or the next one until IN_R1/A6 comes there
use Rattle.law_order.proofs.Vocabulary.{◌≡◌, ◌⊎◌, inl, inr, ℕ, zero, suc, ◌+◌, ◌≤◌, ◌==◌, Bool, true, false, true≢false, if◌then◌else◌, List, [], ◌∷◌, ◌++◌, Some, None, arith, refl, sym, ap, ◌∙◌, subst, IfSome, slice_get, Option}
use Rattle.rh_server.specs.declared.state.InStage.TheVariants as in_stage
use Rattle.law_moves.proofs.Vocabulary.{other_number, same_number, AreAllowedAtEnd, EndMove, EndPassage, Passage, all_end_moved, end_moved, end_started}
use Rattle.law_role_server.proofs.Vocabulary.{InLeg, InStage, acts, first, rules as server_rules, Server, is_fresh, is_waiting, in_at, in_leg, in_place, AreAnswered}
use Rattle.law_role_server.proofs.Numbered.{Absent, absent_if}
use Rattle.law_role_server.proofs.TakesKept.{has_begun as is_begun}
use Rattle.law_role_server_rows.proofs.InTurn.InKept.{is_opened, number_of}
use Rattle.law_role_server_rows.proofs.InTurn.InPlaces.{Found, Placed, found_at, placed}
use Rattle.law_role_server_rows.proofs.Putting.Each.{number_found}
use Rattle.law_role_server_in.proofs.Kept.{IsOpen, leg_at_place, top_of}
use Rattle.law_role_server_in.proofs.Tallies.{Tally, tally}
use Rattle.law_role_server_in.proofs.Tests.{some_waits}
use Rattle.law_role_server_in.proofs.Steps.{AllHold, known}
use Rattle.law_role_server_in.proofs.Standing.{Closed, Says, Stand, firsts, lefts, stand}
use Rattle.law_role_server_in.proofs.Stays.{HoldsAt, moves_stay}
use Rattle.law_role_server_in.specs.Refusing.{first_at}
use Rattle.law_role_server_in.specs.Handovers.{HadOpened, answers, passed}

pub none_or_some : (a : ℕ) → (a ≡ 0) ⊎ (1 ≤ a)
none_or_some zero = inl refl
none_or_some (suc a) = inr (omega arith)

-- ---- fronts

pub moved_append : (p : EndPassage Server) (front rest : List EndMove)
    → all_end_moved server_rules acts p (front ++ rest)
    ≡ all_end_moved server_rules acts (all_end_moved server_rules acts p front) rest
moved_append p [] rest = refl
moved_append p (move ∷ front) rest =
    moved_append (end_moved server_rules acts p move) front rest

pub allowed_parts : (p : EndPassage Server) (front rest : List EndMove)
    → AreAllowedAtEnd server_rules acts p (front ++ rest)
    → AreAllowedAtEnd server_rules acts p front
    × AreAllowedAtEnd server_rules acts (all_end_moved server_rules acts p front) rest
allowed_parts p [] rest may = (tt, may)
allowed_parts p (move ∷ front) rest may =
    let parts = allowed_parts (end_moved server_rules acts p move) front rest may.1 in
    ((may.0, parts.0), parts.1)

-- ---- IN_R1/A6 comes only where a channel began

abbrev Begun : Says
Begun x left begun = (k : ℕ) → 1 ≤ left k → 1 ≤ begun k

begun_closed : Closed Begun
begun_closed = record {
  same = λ x l m f g still up h k left.
      let is = still k in
      let some = h k (omega (arith, is, left)) in
      let most = up k in omega (arith, some, most);
  begins = λ x y l f early finished followed as_many h. h;
  opens = λ x next answers l f none is h. h;
  finishes = λ x l m f begun unfinished followed some left other h k now.
      by x l m f some other h k now (k == x.current) refl;
  moves_on = λ x l f finished followed left h. h;
}
  where
    by : (x : Stand) (l m f : ℕ → ℕ) → 1 ≤ f x.current
        → ((k : ℕ) → (k ≡ x.current → ⊥) → m k ≡ l k) → Begun x l f → (k : ℕ) → 1 ≤ m k
        → (b : Bool) → (k == x.current) ≡ b → 1 ≤ f k
    by x l m f some other h k now true e =
        subst (λ (j : ℕ). 1 ≤ f j) (sym (same_number k x.current e)) some
    by x l m f some other h k now false e =
        let is = other k (other_number k x.current e) in h k (omega (arith, is, now))

-- ---- from a front on

-- n: the leg; most: the answers at the front; Later: on these legs no channel had begun there
module _ (n most : ℕ) (Later : ℕ → Type 0) where
  -- it is the current channel or the next; behind the front one IN_R1/A3 at most became due, for
  -- the channel behind it
  abbrev pub Place : Stand → Type 0
  Place x =
      ((n ≡ x.current) × (x.answers ≤ most + (if x.has_next then 1 else 0)))
      ⊎ ((x.has_next ≡ true) × (n ≡ x.next) × (x.answers ≤ most))

  pub record Rests (x : Stand) (left : ℕ → ℕ) : Type 0 where
    pub begun : x.begun ≡ true
    pub place : Place x
    pub later : (m : ℕ) → Later m → (left m ≡ 0) × (m ≡ x.current → ⊥)

  -- until IN_R1/A6 came there
  abbrev pub Since : Says
  Since x left begun = (1 ≤ left n) ⊎ Rests x left

  since_same : (x : Stand) (l m f g : ℕ → ℕ) → ((k : ℕ) → m k ≡ l k) → Since x l f
      → Since x m g
  since_same x l m f g still (inl left) = let is = still n in inl (omega (arith, is, left))
  since_same x l m f g still (inr r) = inr (record {
    begun = r.begun;
    place = r.place;
    later = λ k is. let was = r.later k is in (still k ∙ was.0, was.1);
  })

  since_begins : (x y : Stand) (l f : ℕ → ℕ) → x.begun ≡ false → Since x l f → Since y l f
  since_begins x y l f early (inl left) = inl left
  since_begins x y l f early (inr r) = absurd (true≢false (sym r.begun ∙ early))

  since_opens : (x : Stand) (next many : ℕ) (l f : ℕ → ℕ) → x.has_next ≡ false
      → many ≡ x.answers + 1 → Since x l f
      → Since (record x { has_next = true; next = next; answers = many }) l f
  since_opens x next many l f none is (inl left) = inl left
  since_opens x next many l f none is (inr r) =
      inr (record { begun = r.begun; place = by r.place; later = r.later })
    where
      by : Place x → Place (record x { has_next = true; next = next; answers = many })
      by (inl now) =
          let some = now.1 in
          let nothing = ap {B = ℕ} (λ (b : Bool). if b then 1 else 0) none in
          inl (now.0, omega (arith, is, some, nothing))
      by (inr next) = absurd (true≢false (sym next.0 ∙ none))

  since_finishes : (x : Stand) (l m f : ℕ → ℕ) → 1 ≤ m x.current
      → ((k : ℕ) → (k ≡ x.current → ⊥) → m k ≡ l k) → Since x l f
      → Since (record x { finished = true }) m f
  since_finishes x l m f left other h = by (n == x.current) refl h
    where
      apart : (n ≡ x.current → ⊥) → Since x l f → Since (record x { finished = true }) m f
      apart differ (inl was) =
          let is = other n differ in inl (omega (arith, is, was))
      apart differ (inr r) = inr (record {
        begun = r.begun;
        place = r.place;
        later = λ k is. let was = r.later k is in (other k was.1 ∙ was.0, was.1);
      })

      by : (b : Bool) → (n == x.current) ≡ b → Since x l f
          → Since (record x { finished = true }) m f
      by true e k = inl (subst (λ (j : ℕ). 1 ≤ m j) (sym (same_number n x.current e)) left)
      by false e k = apart (other_number n x.current e) k

  since_moves_on : (Later n → ⊥) → (x : Stand) (l f : ℕ → ℕ) → 1 ≤ l x.current → Since x l f
      → Since (record x { current = x.next; has_next = false; finished = false }) l f
  since_moves_on not_later x l f left (inl was) = inl was
  since_moves_on not_later x l f left (inr r) = by r.place
    where
      by : Place x
          → Since (record x { current = x.next; has_next = false; finished = false }) l f
      by (inl now) = inl (subst (λ (j : ℕ). 1 ≤ l j) (sym now.0) left)
      by (inr next) = inr (record {
        begun = r.begun;
        place = let some = next.2 in inl (next.1, omega (arith, some));
        later = λ k is.
            ((r.later k is).0, (λ now. not_later (subst Later (now ∙ sym next.1) is)));
      })

  pub since_closed : (Later n → ⊥) → Closed Since
  since_closed not_later = record {
    same = λ x l m f g still up h. since_same x l m f g still h;
    begins = λ x y l f early finished followed as_many h. since_begins x y l f early h;
    opens = since_opens;
    finishes = λ x l m f begun unfinished followed some left other h.
        since_finishes x l m f (omega (arith, left)) other h;
    moves_on = λ x l f finished followed left h. since_moves_on not_later x l f left h;
  }

-- where no leg is found, none has the number
absent_so : (k : ℕ) (legs : List InLeg) → in_leg k legs ≡ None → Absent number_of k legs
absent_so k legs none =
    absent_if number_of k legs (λ place leg at. by place leg at (leg.number == k) refl)
  where
    there : (leg : InLeg) → Placed legs k → ⊥
    there leg q =
        absurd (apart q.leg
        (sym (ap (λ (o : Option ℕ). in_at legs o) q.is ∙ q.at) ∙ none))
      where
        apart : (x : InLeg) → Some x ≡ None → ⊥
        apart x e = cc

    by : (place : ℕ) (leg : InLeg) → slice_get legs place ≡ Some leg → (b : Bool)
        → leg.number == k ≡ b → leg.number == k ≡ false
    by place leg at false e = e
    by place leg at true e =
        absurd (there leg
        (subst (Placed legs) (same_number leg.number k e)
        (placed legs leg (record { place = place; at = at }))))

-- ---- a channel had opened

module _ (window : ℕ) (answered : (front : List EndMove) → AreAnswered (passed window front)) where
  abbrev reached : List EndMove → EndPassage Server
  reached front = all_end_moved server_rules acts (end_started (first window)) front

  behind : (front later : List EndMove)
      → AreAnswered (all_end_moved server_rules acts (reached front) later).passage
  behind front later =
      subst (λ (x : EndPassage Server). AreAnswered x.passage)
      (moved_append (end_started (first window)) front later) (answered (front ++ later))

  -- behind all moves that are allowed
  begun_at : (front : List EndMove)
      → AreAllowedAtEnd server_rules acts (end_started (first window)) front
      → HoldsAt Begun begun_closed (passed window front)
  begun_at front may =
      moves_stay Begun begun_closed (end_started (first window)) front answered
      (known window [] tt) may (λ k some. absurd (omega (arith, some)))

  -- at the front
  module _ (n : ℕ) (front : List EndMove)
      (may : AreAllowedAtEnd server_rules acts (end_started (first window)) front)
      (began : 1 ≤ first_at (passed window front) n)
      (calm : (leg : InLeg) → Found (passed window front).role.ins leg
      → is_waiting leg.stage ≡ true → ⊥) where
    abbrev p : Passage Server
    p = passed window front

    abbrev s : Server
    s = p.role

    abbrev c : ℕ → Tally
    c k = tally k p.came p.put

    abbrev Later : ℕ → Type 0
    Later m = first_at p m ≡ 0

    all : AllHold (reached front)
    all = known window front may

    begun : (b : Bool) → is_begun s.stage ≡ b → is_begun s.stage ≡ true
    begun true e = e
    begun false e =
        let none = (all n).tail.none_first e in absurd (omega (arith, none, began))

    opened : IsOpen n (top_of s) (c n)
    opened =
        by (in_leg n s.ins) refl (found_at s.ins (in_place n s.ins))
        (number_found n s.ins (in_place n s.ins) refl)
      where
        staged : (leg : InLeg) → Found s.ins leg → leg.number ≡ n → (x : InStage)
            → leg.stage ≡ x → IsOpen n (top_of s) (c n)
        staged leg f number in_stage.Fresh e =
            let none = (leg_at_place n (top_of s) s.newest_in s.ins (c n) leg f (sym number)
            (all n)).fresh (ap is_fresh e) in
            absurd (omega (arith, none, began))
        staged leg f number (in_stage.Waits time out ended) e =
            absurd (calm leg f (ap is_waiting e))
        staged leg f number in_stage.Opened e =
            (leg_at_place n (top_of s) s.newest_in s.ins (c n) leg f (sym number)
            (all n)).opened (ap is_opened e)

        by : (o : Option InLeg) → in_leg n s.ins ≡ o → IfSome o (Found s.ins)
            → IfSome o (λ (leg : InLeg). leg.number ≡ n) → IsOpen n (top_of s) (c n)
        by None is f number = (all n).gone (absent_so n s.ins is) began
        by (Some leg) is f number = staged leg f number leg.stage refl

    later : (m : ℕ) → Later m → (lefts p.came m ≡ 0) × (m ≡ s.current.leg → ⊥)
    later m none = (unleft (none_or_some (lefts p.came m)), apart)
      where
        unleft : (lefts p.came m ≡ 0) ⊎ (1 ≤ lefts p.came m) → lefts p.came m ≡ 0
        unleft (inl nothing) = nothing
        unleft (inr some) =
            let one = begun_at front may m some in absurd (omega (arith, one, none))

        apart : m ≡ s.current.leg → ⊥
        apart is =
            let one = (all m).tail.began (begun (is_begun s.stage) refl) is in
            absurd (omega (arith, one, none))

    since_front : Since n (answers p) Later (stand s p.put) (lefts p.came) (firsts p.came)
    since_front = by opened
      where
        rests : Place n (answers p) Later (stand s p.put)
            → Rests n (answers p) Later (stand s p.put) (lefts p.came)
        rests place =
            record { begun = begun (is_begun s.stage) refl; place = place; later = later }

        by : IsOpen n (top_of s) (c n)
            → Since n (answers p) Later (stand s p.put) (lefts p.came) (firsts p.came)
        by (inl now) = inr (rests (inl (now, omega arith)))
        by (inr (inl next)) = inr (rests (inr (next.0, next.1, omega arith)))
        by (inr (inr left)) = inl left

  -- and behind all moves
  pub since_opened : (moves : List EndMove)
      → AreAllowedAtEnd server_rules acts (end_started (first window)) moves
      → (n : ℕ) (front : List EndMove) → HadOpened window moves n front
      → let p = passed window moves in
      Since n (answers (passed window front)) (λ m. first_at (passed window front) m ≡ 0)
      (stand p.role p.put) (lefts p.came) (firsts p.came)
  since_opened moves may n front h =
      subst (λ (x : EndPassage Server). HoldsAt Q closed x.passage)
      (sym (moved_append (end_started (first window)) front rest)
      ∙ ap (all_end_moved server_rules acts (end_started (first window))) h.on.1)
      (moves_stay Q closed (reached front) rest (behind front) (known window front parts.0) parts.1
      (since_front n front parts.0 h.began calm))
    where
      rest : List EndMove
      rest = h.on.0

      Q : Says
      Q = Since n (answers (passed window front)) (λ m. first_at (passed window front) m ≡ 0)

      closed : Closed Q
      closed =
          since_closed n (answers (passed window front))
          (λ m. first_at (passed window front) m ≡ 0)
          (λ none. let some = h.began in absurd (omega (arith, none, some)))

      parts : AreAllowedAtEnd server_rules acts (end_started (first window)) front
          × AreAllowedAtEnd server_rules acts (reached front) rest
      parts =
          allowed_parts (end_started (first window)) front rest
          (subst (AreAllowedAtEnd server_rules acts (end_started (first window))) (sym h.on.1) may)

      calm : (leg : InLeg) → Found (passed window front).role.ins leg
          → is_waiting leg.stage ≡ true → ⊥
      calm leg f waits =
          let some = some_waits (passed window front).role.ins f.place leg f.at waits in
          let is = (answered front).in_r1 in
          let none = h.none_waits in absurd (omega (arith, some, is, none))

-- what a server's steps do to its current channel, the next one and the answers to IN_R1/A2
use Rattle.law_order.proofs.Vocabulary.{◌≡◌, ℕ, suc, ◌+◌, ◌≤◌, ◌&&◌, ◌||◌, Bool, true, false, not, if◌then◌else◌, List, [], ◌∷◌, ◌++◌, Some, None, arith, refl, sym, subst, false≢true, and_parts, or_parts, Option}
use Rattle.rh_sig.specs.declared.named.Named.TheVariants as named
use Rattle.rh_line.specs.Lines.{taken as line_taken}
use Rattle.rh_server.specs.declared.state.InStage.TheVariants as in_stage
use Rattle.rh_server.specs.declared.out_line.Kind.TheVariants as kinds
use Rattle.law_moves.proofs.Vocabulary.{by_test, Named, Line, is_empty, released, moved_on, settled as line_settled, InServer, OutServer, Due, own, OnLeg}
use Rattle.law_role_server.proofs.Vocabulary.{Shut, InLeg, InStage, waits, Server, opens_next, opens_leg, first_waiting, next_opened, becomes_current, moved_if, take, is_conn_b2, is_in_r1_a2, is_in_r1_a3, is_in_r1_a6, often, often_at, waiting_of, waits_for}
use Rattle.law_role_server_in.proofs.Kept.{Look, look}

pub record Stand : Type 0 where
  -- CONN/B2 came
  pub begun : Bool
  pub finished : Bool
  pub has_next : Bool
  -- the legs of the current channel and of the next
  pub current : ℕ
  pub next : ℕ
  -- IN_R1/A3 that were put or are due
  pub answers : ℕ

abbrev pub with_answers : Look → ℕ → Stand
with_answers x answers = record {
  begun = x.top.begun;
  finished = x.top.finished;
  has_next = x.top.has_next;
  current = x.top.current;
  next = x.top.next;
  answers = answers;
}

abbrev pub answered : Server → List OnLeg → ℕ
answered s put = often is_in_r1_a3 OutServer put + waits_for is_in_r1_a3 s

abbrev pub stand : Server → List OnLeg → Stand
stand s put = with_answers (look s) (answered s put)

-- IN_R1/A6 that came on each is leg, and what began channels there
abbrev pub lefts : List OnLeg → ℕ → ℕ
lefts came = λ k. often_at is_in_r1_a6 InServer k came

abbrev pub firsts : List OnLeg → ℕ → ℕ
firsts came = λ k. often_at is_conn_b2 InServer k came + often_at is_in_r1_a2 InServer k came

-- ---- what all steps keep

abbrev pub Says : Type 1
Says = Stand → (ℕ → ℕ) → (ℕ → ℕ) → Type 0

pub record Closed (Q : Says) : Type 0 where
  -- no IN_R1/A6 came
  pub same : (x : Stand) (l m f g : ℕ → ℕ) → ((k : ℕ) → m k ≡ l k) → ((k : ℕ) → f k ≤ g k)
      → Q x l f → Q x m g
  -- the first channel begins
  pub begins : (x y : Stand) (l f : ℕ → ℕ) → x.begun ≡ false → y.finished ≡ x.finished
      → y.has_next ≡ x.has_next → y.answers ≡ x.answers → Q x l f → Q y l f
  pub opens : (x : Stand) (next answers : ℕ) (l f : ℕ → ℕ) → x.has_next ≡ false
      → answers ≡ x.answers + 1 → Q x l f
      → Q (record x { has_next = true; next = next; answers = answers }) l f
  -- IN_R1/A6 came on the current leg
  pub finishes : (x : Stand) (l m f : ℕ → ℕ) → x.begun ≡ true → x.finished ≡ false
      → x.has_next ≡ true → 1 ≤ f x.current → m x.current ≡ l x.current + 1
      → ((k : ℕ) → (k ≡ x.current → ⊥) → m k ≡ l k) → Q x l f
      → Q (record x { finished = true }) m f
  pub moves_on : (x : Stand) (l f : ℕ → ℕ) → x.finished ≡ true → x.has_next ≡ true
      → 1 ≤ l x.current → Q x l f
      → Q (record x { current = x.next; has_next = false; finished = false }) l f

-- one more is due
pub waits_more : (test : Named → Bool) (dues : List Due) (due : Due)
    → waiting_of test (dues ++ due ∷ [])
    ≡ waiting_of test dues + (if test due.packet then 1 else 0)
waits_more test [] due = by (test due.packet)
  where
    by : (b : Bool) → (if b then suc 0 else 0) ≡ 0 + (if b then 1 else 0)
    by true = refl
    by false = refl
waits_more test (first ∷ dues) due = by (test first.packet) (waits_more test dues due)
  where
    by : (b : Bool) → waiting_of test (dues ++ due ∷ [])
        ≡ waiting_of test dues + (if test due.packet then 1 else 0)
        → (if b then suc (waiting_of test (dues ++ due ∷ []))
        else waiting_of test (dues ++ due ∷ []))
        ≡ (if b then suc (waiting_of test dues) else waiting_of test dues)
        + (if test due.packet then 1 else 0)
    by true rest = omega (arith, rest)
    by false rest = rest

module _ (Q : Says) (q : Closed Q) (put : List OnLeg) (l f : ℕ → ℕ) where
  abbrev pub Fine : Server → Type 0
  Fine s = Q (stand s put) l f

  opens_fine : (s : Server) (leg : InLeg) (x : InStage) → s.line.has_next ≡ false → Fine s
      → Fine (opens_next s leg x)
  opens_fine s leg in_stage.Fresh none h = h
  opens_fine s leg in_stage.Opened none h = h
  opens_fine s leg (in_stage.Waits window timeout ended) none h =
      by ended
    where
      due : Due
      due = own (named.InR1A3 0 1 window timeout)

      more : answered s put + 1
          ≡ often is_in_r1_a3 OutServer put + waiting_of is_in_r1_a3 (s.waiting.due ++ due ∷ [])
      more = let one = waits_more is_in_r1_a3 s.waiting.due due in omega (arith, one)

      by : (b : Bool) → Fine (opens_next s leg (in_stage.Waits window timeout b))
      by true = q.opens (stand s put) leg.number _ l f none (sym more) h
      by false = q.opens (stand s put) leg.number _ l f none (sym more) h

  pub next_fine : (s : Server) → Fine s → Fine (next_opened s)
  next_fine s h =
      by_test Fine (s.line.has_next || waits kinds.InR1A3 s.waiting) s
      (opens_leg s (first_waiting s.ins)) (λ e. h)
      (λ e. by (or_parts s.line.has_next _ e).0 (first_waiting s.ins))
    where
      by : s.line.has_next ≡ false → (o : Option InLeg) → Fine (opens_leg s o)
      by none None = h
      by none (Some leg) = opens_fine s leg leg.stage none h

  -- the next channel is the current one
  moves_fine : (s : Server) → s.line.finished ≡ true → s.line.has_next ≡ true
      → 1 ≤ l s.current.leg → Fine s
      → Fine (becomes_current (record s { line = moved_on s.line }))
  moves_fine s finished followed left h =
      next_fine (record s { line = moved_on s.line; current = s.next; edge = Shut })
      (q.moves_on (stand s put) l f finished followed left h)

  never : (b : Bool) → b && not b ≡ true → ⊥
  never true e = false≢true e
  never false e = false≢true e

  still : (s : Server) → Fine s → Fine (moved_if s.line.has_next s)
  still s h =
      by_test Fine (s.line.has_next && not s.line.has_next) (becomes_current s) s
      (λ e. absurd (never s.line.has_next e)) (λ e. h)

  -- where the current one is finished and empty
  pub settles : (s : Server) → (s.line.finished ≡ true → 1 ≤ l s.current.leg)
      → (s.line.finished ≡ true → s.line.has_next ≡ true) → Fine s
      → Fine (moved_if s.line.has_next (record s { line = line_settled s.line }))
  settles s left followed h =
      by_test (λ (x : Line). Fine (moved_if s.line.has_next (record s { line = x })))
      (s.line.finished && is_empty s.line.current.pdus) (moved_on s.line) s.line
      (λ e. goes (and_parts s.line.finished _ e).0) (λ e. still s h)
    where
      goes : s.line.finished ≡ true
          → Fine (moved_if s.line.has_next (record s { line = moved_on s.line }))
      goes finished =
          subst (λ (b : Bool). Fine (moved_if b (record s { line = moved_on s.line })))
          (sym (followed finished))
          (moves_fine s finished (followed finished) (left finished) h)

  pub take_fine : (s : Server) → (s.line.finished ≡ true → 1 ≤ l s.current.leg)
      → (s.line.finished ≡ true → s.line.has_next ≡ true) → Fine s → Fine (take s)
  take_fine s left followed h = by s.line.current.pdus
    where
      by : (pdus : List (List ℕ))
          → Fine (moved_if s.line.has_next (record s { line = line_taken pdus s.line }))
      by [] = still s h
      by (pdu ∷ pdus) =
          settles (record s {
            line = record (s.line) { current = released (pdu ∷ pdus) s.line.current };
          }) left followed h

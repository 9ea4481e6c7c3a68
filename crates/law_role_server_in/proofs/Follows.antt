-- how many IN_R1/A3 are due at most, by the IN_R1/A6 that came; and which channels are open
use Rattle.law_order.proofs.Vocabulary.{◌≡◌, ◌⊎◌, inl, inr, ℕ, ◌+◌, ◌≤◌, ◌<◌, Bool, true, false, true≢false, if◌then◌else◌, List, [], arith, refl, sym, ap, ◌∙◌}
use Rattle.law_moves.proofs.Lemmas.{zeros as sum_none}
use Rattle.law_moves.proofs.Vocabulary.{sum_below, AreAllowedAtEnd, EndMove, Passage, end_started}
use Rattle.law_role_server.proofs.Vocabulary.{acts, first, rules, Server, AreAnswered, is_in_r1_a6, in_came}
use Rattle.law_role_server_in.proofs.Opened.{Place, Since, since_opened}
use Rattle.law_role_server_in.proofs.Standing.{Closed, Stand, firsts, lefts, stand}
use Rattle.law_role_server_in.proofs.Stays.{HoldsAt, moves_stay}
use Rattle.law_role_server_in.proofs.Steps.{known}
use Rattle.law_role_server_in.proofs.Totals.{above, none_above, sum_all, sum_more, sum_same}
use Rattle.law_role_server_in.specs.Refusing.{first_at}
use Rattle.law_role_server_in.specs.Handovers.{IsStillOpen, TwoAreOpen, answers, passed}

abbrev one_if : Bool → ℕ
one_if b = if b then 1 else 0

-- a channel that is finished has a next one; and each answer is for the next channel, or for one
-- behind a handover
record Follows (x : Stand) (left begun : ℕ → ℕ) : Type 0 where
  followed : x.finished ≡ true → x.has_next ≡ true
  even : (n : ℕ) → ((k : ℕ) → n ≤ k → left k ≡ 0)
      → sum_below left n + one_if x.has_next ≡ x.answers + one_if x.finished

follows_same : (x : Stand) (l m f g : ℕ → ℕ) → ((k : ℕ) → m k ≡ l k) → Follows x l f
    → Follows x m g
follows_same x l m f g still h = record {
  followed = h.followed;
  even = λ n none.
      let sums = sum_same l m n (λ k less. still k) in
      let was = h.even n (λ k high. sym (still k) ∙ none k high) in omega (arith, sums, was);
}

follows_begins : (x y : Stand) (l f : ℕ → ℕ) → y.finished ≡ x.finished
    → y.has_next ≡ x.has_next → y.answers ≡ x.answers → Follows x l f → Follows y l f
follows_begins x y l f finished followed as_many h = record {
  followed = λ e. followed ∙ h.followed (sym finished ∙ e);
  even = λ n none.
      let was = h.even n none in
      let one = ap one_if finished in
      let other = ap one_if followed in omega (arith, was, one, other, as_many);
}

follows_opens : (x : Stand) (next many : ℕ) (l f : ℕ → ℕ) → x.has_next ≡ false
    → many ≡ x.answers + 1 → Follows x l f
    → Follows (record x { has_next = true; next = next; answers = many }) l f
follows_opens x next many l f none is h = record {
  followed = λ e. refl;
  even = λ n high.
      let was = h.even n high in
      let nothing = ap one_if none in omega (arith, was, nothing, is);
}

follows_finishes : (x : Stand) (l m f : ℕ → ℕ) → x.finished ≡ false → x.has_next ≡ true
    → m x.current ≡ l x.current + 1 → ((k : ℕ) → (k ≡ x.current → ⊥) → m k ≡ l k)
    → Follows x l f → Follows (record x { finished = true }) m f
follows_finishes x l m f unfinished followed left other h = record {
  followed = λ e. followed;
  even = λ n none.
      let apart : (k : ℕ) → n ≤ k → k ≡ x.current → ⊥ =
      (λ k high is. let nothing = ap m (sym is) ∙ none k high in omega (arith, nothing, left)) in
      let was = h.even n (λ k high. sym (other k (apart k high)) ∙ none k high) in
      let sums = sum_more l m x.current 1 left other n
      (below n x.current (λ high. apart x.current high refl)) in
      let nothing = ap one_if unfinished in omega (arith, was, sums, nothing);
}
  where
    below : (n k : ℕ) → (n ≤ k → ⊥) → k < n
    below n k not_high = omega (arith, not_high)

follows_moves_on : (x : Stand) (l f : ℕ → ℕ) → x.finished ≡ true → x.has_next ≡ true
    → Follows x l f
    → Follows (record x { current = x.next; has_next = false; finished = false }) l f
follows_moves_on x l f finished followed h = record {
  followed = λ e. absurd (true≢false (sym e));
  even = λ n none.
      let was = h.even n none in
      let one = ap one_if finished in
      let other = ap one_if followed in omega (arith, was, one, other);
}

follows_closed : Closed Follows
follows_closed = record {
  same = λ x l m f g still up h. follows_same x l m f g still h;
  begins = λ x y l f early finished followed as_many h.
      follows_begins x y l f finished followed as_many h;
  opens = follows_opens;
  finishes = λ x l m f begun unfinished followed some left other h.
      follows_finishes x l m f unfinished followed left other h;
  moves_on = λ x l f finished followed left h. follows_moves_on x l f finished followed h;
}

module _ (window : ℕ) (moves : List EndMove)
    (may : AreAllowedAtEnd rules acts (end_started (first window)) moves)
    (answered : (front : List EndMove) → AreAnswered (passed window front)) where
  abbrev p : Passage Server
  p = passed window moves

  follows : HoldsAt Follows follows_closed p
  follows =
      moves_stay Follows follows_closed (end_started (first window)) moves answered
      (known window [] tt) may
      (record { followed = λ e. absurd (true≢false (sym e)); even = λ n none. start n })
    where
      start : (n : ℕ) → sum_below (lefts []) n + 0 ≡ 0 + 0
      start n = let none = sum_none n in omega (arith, none)

  even : in_came is_in_r1_a6 p + one_if p.role.line.has_next
      ≡ answers p + one_if p.role.line.finished
  even =
      let all = sum_all is_in_r1_a6 p.came in
      let same = follows.even (above p.came) (none_above is_in_r1_a6 p.came) in
      omega (arith, all, same)

  one_at_most : (b : Bool) → one_if b ≤ 1
  one_at_most true = omega arith
  one_at_most false = omega arith

  pub few_answers : answers p ≤ in_came is_in_r1_a6 p + 1
  few_answers =
      let most = one_at_most p.role.line.has_next in let is = even in omega (arith, is, most)

  pub answers_enough : in_came is_in_r1_a6 p ≤ answers p
  answers_enough = by p.role.line.finished refl
    where
      by : (b : Bool) → p.role.line.finished ≡ b → in_came is_in_r1_a6 p ≤ answers p
      by true e =
          let is = even in
          let one = ap one_if e in
          let other = ap one_if (follows.followed e) in omega (arith, is, one, other)
      by false e =
          let is = even in let none = ap one_if e in omega (arith, is, none)

  -- ---- channels that stay

  abbrev s : Stand
  s = stand p.role p.put

  now_or_next : (n : ℕ) → IsStillOpen window moves n → (n ≡ s.current) ⊎ (n ≡ s.next)
  now_or_next n open_now =
      by (since_opened window answered moves may n open_now.front open_now.opened)
    where
      most : ℕ
      most = answers (passed window open_now.front)

      placed : Place n most (λ m. first_at (passed window open_now.front) m ≡ 0) s
          → (n ≡ s.current) ⊎ (n ≡ s.next)
      placed (inl now) = inl now.0
      placed (inr next) = inr next.1

      by : Since n most (λ m. first_at (passed window open_now.front) m ≡ 0) s (lefts p.came)
          (firsts p.came) → (n ≡ s.current) ⊎ (n ≡ s.next)
      by (inl left) = let stays = open_now.stays in absurd (omega (arith, left, stays))
      by (inr r) = placed r.place

  pub two_are_open : TwoAreOpen window moves
  two_are_open k m n of_k of_m of_n =
      by (now_or_next k of_k) (now_or_next m of_m) (now_or_next n of_n)
    where
      Is : ℕ → Type 0
      Is i = (i ≡ s.current) ⊎ (i ≡ s.next)

      by : Is k → Is m → Is n → (k ≡ m) ⊎ (m ≡ n) ⊎ (k ≡ n)
      by (inl a) (inl b) c = inl (a ∙ sym b)
      by (inr a) (inr b) c = inl (a ∙ sym b)
      by (inl a) (inr b) (inl c) = inr (inr (a ∙ sym c))
      by (inl a) (inr b) (inr c) = inr (inl (b ∙ sym c))
      by (inr a) (inl b) (inl c) = inr (inl (b ∙ sym c))
      by (inr a) (inl b) (inr c) = inr (inr (a ∙ sym c))

-- bytes are drawn in pieces as one after the other
use Rattle.std.proofs.Common.{◌≡◌, ◌&&◌, not, cond, ℕ, suc, ◌+◌, ◌-◌, ◌≤◌, ◌<◌, List, [], ◌∷◌, ◌++◌, take, drop, length, Bool, true, false, arith, sym, ◌∙◌, ap, refl, subst, append_assoc}
use Rattle.std.proofs.lemmas.List.{length-take-le, take-append-drop}
use Rattle.rh_shell.specs.Rules.{Rules, put_into}
use Rattle.rh_shell.specs.NearEnds.{NearEnd, is_empty, is_over}
use Rattle.rh_shell.specs.Drawing.{Drawn, drawn, put_on, filled, left_by, next_byte, draw}

-- bytes in front of those drawn behind them
abbrev pub behind : {S : Type 0} → List ℕ → Drawn S → Drawn S
behind bytes d = drawn d.end d.role (bytes ++ d.bytes)

abbrev pub with_begun : NearEnd → List ℕ → NearEnd
with_begun end bytes = record end { begun = bytes }

pub nonempty : (xs : List ℕ) → is_empty xs ≡ false → 0 < length xs
nonempty [] h = absurd cc
nonempty (x ∷ xs) h = omega arith

pub joined : {S : Type 0} (xs ys : List ℕ) (d : Drawn S) → behind (xs ++ ys) d ≡ behind xs
    (behind ys d)
joined xs ys d = ap (drawn d.end d.role) (append_assoc xs ys d.bytes)

empty_is : (xs : List ℕ) → is_empty xs ≡ true → xs ≡ []
empty_is [] h = refl
empty_is (x ∷ xs) h = absurd cc

plain_by : {S : Type 0} (t : Bool) (a b : Drawn S) → a ≡ drawn a.end a.role [] → b ≡ drawn b.end
    b.role []
    → cond t a b ≡ drawn (cond t a b).end (cond t a b).role []
plain_by true a b p q = p
plain_by false a b p q = q

left_same : {S : Type 0} (rules : Rules S) (end : NearEnd) (bs : List ℕ) (role : S) (ys : List ℕ)
    → left_by rules (with_begun end bs) role ys ≡ left_by rules end role ys
left_same rules end bs role [] = refl
left_same rules end bs role (y ∷ ys) = refl

module _ {S : Type 0} (rules : Rules S) (now : ℕ) where
  pub draw_none : (n : ℕ) (end : NearEnd) (role : S) → n ≡ 0 → drawn end role [] ≡ draw rules now n
      end role
  unfolding draw
  draw_none n end role e = rw e refl

  empty_drawn : (n : ℕ) (end : NearEnd) (role : S) → is_empty (filled rules now end role).end.begun
      ≡ true
      → filled rules now end role ≡ draw rules now (suc n) end role
  unfolding draw
  empty_drawn n end role h =
      let f = filled rules now end role in
      sym (ap (λ (bs : List ℕ). next_byte rules f bs (draw rules now n)) (empty_is f.end.begun h))

  -- nothing may go
  pub draw_empty : (n : ℕ) (end : NearEnd) (role : S) → 0 < n → is_empty
      (filled rules now end role).end.begun ≡ true
      → filled rules now end role ≡ draw rules now n end role
  draw_empty n end role some h =
      empty_drawn (n - 1) end role h ∙ ap (λ k. draw rules now k end role) {x = suc (n - 1)} {y = n}
      (omega arith)

  -- where a message is begun nothing is put
  filled_again : (end : NearEnd) (role : S) → is_empty end.begun ≡ false → filled rules now end role
      ≡ drawn end role []
  filled_again end role h = rw h refl

  filled_plain : (end : NearEnd) (role : S)
      → filled rules now end role ≡ drawn (filled rules now end role).end
      (filled rules now end role).role []
  filled_plain end role =
      plain_by (is_empty end.begun && not (is_over rules end role))
      (put_on now end (put_into role (rules.put role end.leg)))
      (drawn end role []) refl refl

  draw_filled : (n : ℕ) (end : NearEnd) (role : S) → is_empty (filled rules now end role).end.begun
      ≡ false
      → draw rules now (suc n) end role ≡ draw rules now (suc n) (filled rules now end role).end
      (filled rules now end role).role
  unfolding draw
  draw_filled n end role h =
      let f = filled rules now end role in
      let same : f ≡ filled rules now f.end f.role = filled_plain end role ∙ sym
      (filled_again f.end f.role h) in
      ap (λ (d : Drawn S). next_byte rules d d.end.begun (draw rules now n)) same

  drained : (x : ℕ) (xs ys : List ℕ) (n m : ℕ) (end : NearEnd) (role : S) → m ≡ length xs + n
      → draw rules now (suc m) (with_begun end (x ∷ xs ++ ys)) role
      ≡ behind (x ∷ xs) (draw rules now n (left_by rules end role ys).end (left_by rules end role
      ys).role)
  unfolding draw
  drained x [] ys n m end role e =
      let left = left_by rules (with_begun end (x ∷ ys)) role ys in
      ap (λ k. behind (x ∷ []) (draw rules now k left.end left.role)) {x = m} {y = n}
      (omega (arith, e))
      ∙ ap (λ (d : Drawn S). behind (x ∷ []) (draw rules now n d.end d.role))
      (left_same rules end (x ∷ ys) role ys)
  drained x (y ∷ xs) ys n m end role e =
      ap (λ k. behind (x ∷ []) (draw rules now k (with_begun end (y ∷ (xs ++ ys))) role)) {x = m}
      {y = suc (length xs + n)} (omega (arith, e))
      ∙ ap (behind (x ∷ [])) (drained y xs ys n (length xs + n) end role refl)

  front_drained : (bs front : List ℕ) (k n : ℕ) (end : NearEnd) (role : S) → take k bs ≡ front → 0 <
      k → k ≤ n → k ≤ length bs
      → draw rules now n (with_begun end bs) role
      ≡ behind front (draw rules now (n - k) (left_by rules end role (drop k bs)).end (left_by rules
      end role (drop k bs)).role)
  front_drained bs [] k n end role e some within fits =
      absurd (omega (arith, length-take-le k bs fits, ap (λ (x : List ℕ). length x) e))
  front_drained bs (x ∷ xs) k n end role e some within fits =
      let size : length xs + 1 ≡ k = omega (
        arith,
        length-take-le k bs fits,
        ap (λ (x : List ℕ).
            length x) e,
      ) in
      let all : bs ≡ x ∷ xs ++ drop k bs = sym (take-append-drop k bs) ∙ ap
      (λ (f : List ℕ). f ++ drop k bs) e in
      let m = length xs + (n - k) in
      ap (λ (b : List ℕ). draw rules now n (with_begun end b) role) all
      ∙ ap (λ j. draw rules now j (with_begun end (x ∷ xs ++ drop k bs)) role) {x = n} {y = suc m}
      (omega arith)
      ∙ drained x xs (drop k bs) (n - k) m end role refl

  -- what goes of the message that is begun then
  pub draw_step : (n k : ℕ) (end : NearEnd) (role : S) (f : Drawn S) → f ≡ filled rules now end role
      → is_empty f.end.begun ≡ false → 0 < k → k ≤ n → k ≤ length f.end.begun → (left : Drawn S)
      → left ≡ left_by rules f.end f.role (drop k f.end.begun)
      → behind (take k f.end.begun) (draw rules now (n - k) left.end left.role) ≡ draw rules now n
      end role
  draw_step n k end role f is h some within fits left e =
      let g = filled rules now end role in
      let begun : is_empty g.end.begun ≡ false = subst (λ (d : Drawn S). is_empty d.end.begun ≡
      false) is h in
      let one : suc (n - 1) ≡ n = omega arith in
      sym (ap (λ j. draw rules now j end role) (sym one)
      ∙ draw_filled (n - 1) end role begun
      ∙ ap (λ j. draw rules now j g.end g.role) one
      ∙ ap (λ (d : Drawn S). draw rules now n d.end d.role) (sym is)
      ∙ front_drained f.end.begun (take k f.end.begun) k n f.end f.role refl some within fits
      ∙ ap (λ (d : Drawn S). behind (take k f.end.begun) (draw rules now (n - k) d.end d.role))
      (sym e))

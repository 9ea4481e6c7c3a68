-- whether a leg is greeted, by what was put there
use Rattle.law_order.proofs.Vocabulary.{◌≡◌, ℕ, ◌==◌, ◌<◌, ◌+◌, Bool, true, false, true≢false, List, ◌++◌, [], ◌∷◌, Some, arith, refl, sym, ap, ◌∙◌, subst, slice_get, slice_set, remove}
use Rattle.law_moves.proofs.Vocabulary.{same_number, test_same, test_other, greeting as greeting_text, Message, Text}
use Rattle.law_moves.proofs.Lemmas.{all_append}
use Rattle.law_role_server.proofs.Vocabulary.{Greeting, Due, Put}
use Rattle.law_role_server.proofs.Numbered.{Absent, Once, absent_at, absent_push, absent_removed, absent_set, once_at, once_first, once_map, once_push, once_removed, once_set}
use Rattle.law_role_server_rows.specs.Putting.Greeting.{IsFrame, IsGreeted, MayGreet}

-- nothing was put where the greeting is due
abbrev pub IsAs : List Message → Greeting → Type 0
IsAs log Due = log ≡ []
IsAs log Put = IsGreeted log

may_greet : (log : List Message) → IsGreeted log → MayGreet log
may_greet [] h = tt
may_greet (m ∷ log) h = h

not_empty : (log : List Message) → IsGreeted log → log ≡ [] → ⊥
not_empty log h e = subst IsGreeted e h

frame_more : (log : List Message) (m : Message) → IsFrame m → IsGreeted log
    → IsGreeted (log ++ m ∷ [])
frame_more [] m is h = absurd h
frame_more (first ∷ log) m is h = (h.0, all_append IsFrame log (m ∷ []) h.1 (is, tt))

module _ {X : Type 0} (number : X → ℕ) (greets : X → Greeting) (n : ℕ) where
  abbrev pub IsSo : List Message → X → Type 0
  IsSo log x = IsAs log (greets x)

  -- what was put on the leg of the number: by the legs that are kept, and the newest number
  pub record Greets (newest : ℕ) (xs : List X) (log : List Message) : Type 0 where
    pub may : MayGreet log
    pub unborn : newest < n → (log ≡ []) × Absent number n xs
    pub legs : Once number n (IsSo log) xs

  pub greets_start : Greets 0 [] []
  greets_start = record { may = tt; unborn = λ e. (refl, tt); legs = tt }

  -- a leg that is as another takes its place
  pub greets_set : (newest : ℕ) (xs : List X) (i : ℕ) (x y : X) (log : List Message)
      → slice_get xs i ≡ Some x → number y ≡ number x → greets y ≡ greets x
      → Greets newest xs log → Greets newest (slice_set xs i y) log
  greets_set newest xs i x y log at same alike h = record {
    may = h.may;
    unborn = λ e. ((h.unborn e).0, absent_set number n xs i x y at same (h.unborn e).1);
    legs = once_set number n (IsSo log) (IsSo log) xs i x y at same
        (λ e is. subst (λ (g : Greeting). IsAs log g) (sym alike) is) (λ e z is. is) h.legs;
  }

  pub greets_removed : (newest : ℕ) (xs : List X) (i : ℕ) (log : List Message)
      → Greets newest xs log → Greets newest (remove xs i) log
  greets_removed newest xs i log h = record {
    may = h.may;
    unborn = λ e. ((h.unborn e).0, absent_removed number n xs i (h.unborn e).1);
    legs = once_removed number n (IsSo log) xs i h.legs;
  }

  -- a leg comes up
  pub greets_up : (newest : ℕ) (xs : List X) (x : X) (log : List Message)
      → number x ≡ newest + 1 → greets x ≡ Due → Greets newest xs log
      → Greets (number x) (xs ++ x ∷ []) log
  greets_up newest xs x log next due h = record {
    may = h.may;
    unborn = λ e.
        let before = h.unborn (omega (arith, next, e)) in (
          before.0,
          absent_push number n xs x
              (test_other (number x) n (λ is. absurd (omega (arith, is, e)))) before.1,
        );
    legs = by (number x == n) refl;
  }
    where
      by : (b : Bool) → (number x == n) ≡ b → Once number n (IsSo log) (xs ++ x ∷ [])
      by true e =
          let is = same_number (number x) n e in
          let before = h.unborn (omega (arith, next, is)) in
          once_first number n (IsSo log) xs x before.1
          (subst (λ (g : Greeting). IsAs log g) (sym due) before.0)
      by false e = once_push number n (IsSo log) xs x e h.legs

  -- a frame is put on the leg at a place, which was greeted
  pub greets_frame : (newest : ℕ) (xs : List X) (i : ℕ) (x : X) (log : List Message) (m : Message)
      → slice_get xs i ≡ Some x → number x ≡ n → greets x ≡ Put → IsFrame m
      → Greets newest xs log → Greets newest xs (log ++ m ∷ [])
  greets_frame newest xs i x log m at is alike frame h = record {
    may = may_greet (log ++ m ∷ []) (frame_more log m frame has);
    unborn = λ e. absurd (not_empty log has (h.unborn e).0);
    legs = once_map number n (IsSo log) (IsSo (log ++ m ∷ [])) xs
        (λ y so. more (greets y) so) h.legs;
  }
    where
      has : IsGreeted log
      has =
          subst (λ (g : Greeting). IsAs log g) alike
          (once_at number n (IsSo log) xs i x at
          (ap (λ (k : ℕ). k == n) is ∙ test_same n) h.legs)

      more : (g : Greeting) → IsAs log g → IsAs (log ++ m ∷ []) g
      more Due so = absurd (not_empty log has so)
      more Put so = frame_more log m frame so

  -- the greeting is put there
  pub greets_text : (newest : ℕ) (xs : List X) (i : ℕ) (x y : X) (log : List Message)
      → slice_get xs i ≡ Some x → number x ≡ n → number y ≡ number x → greets x ≡ Due
      → greets y ≡ Put → Greets newest xs log
      → Greets newest (slice_set xs i y) (log ++ Text greeting_text ∷ [])
  greets_text newest xs i x y log at is same alike so h = record {
    may = subst (λ (ms : List Message). MayGreet (ms ++ Text greeting_text ∷ [])) (sym none)
        (refl, tt);
    unborn = λ e.
        absurd (true≢false (sym here ∙ absent_at number n xs i x at (h.unborn e).1));
    legs = once_set number n (IsSo log) (IsSo (log ++ Text greeting_text ∷ [])) xs i x y at same
        (λ e was. subst (λ (g : Greeting). IsAs (log ++ Text greeting_text ∷ []) g) (sym so)
        (subst (λ (ms : List Message). IsGreeted (ms ++ Text greeting_text ∷ [])) (sym none)
        (refl, tt)))
        (λ e z was. absurd (true≢false (sym here ∙ e))) h.legs;
  }
    where
      here : (number x == n) ≡ true
      here = ap (λ (k : ℕ). k == n) is ∙ test_same n

      none : log ≡ []
      none =
          subst (λ (g : Greeting). IsAs log g) alike
          (once_at number n (IsSo log) xs i x at here h.legs)

  -- another leg changes
  pub greets_other : (newest : ℕ) (xs : List X) (i : ℕ) (x y : X) (log : List Message)
      → slice_get xs i ≡ Some x → number y ≡ number x → (number x == n) ≡ false
      → Greets newest xs log → Greets newest (slice_set xs i y) log
  greets_other newest xs i x y log at same other h = record {
    may = h.may;
    unborn = λ e. ((h.unborn e).0, absent_set number n xs i x y at same (h.unborn e).1);
    legs = once_set number n (IsSo log) (IsSo log) xs i x y at same
        (λ e was. absurd (true≢false (sym e ∙ other))) (λ e z was. was) h.legs;
  }

  -- a leg takes the place of another, and is as the log is
  pub greets_let : (newest : ℕ) (xs : List X) (i : ℕ) (x y : X) (log : List Message)
      → slice_get xs i ≡ Some x → number y ≡ number x
      → ((number x == n) ≡ true → IsAs log (greets y))
      → Greets newest xs log → Greets newest (slice_set xs i y) log
  greets_let newest xs i x y log at same here h = record {
    may = h.may;
    unborn = λ e. ((h.unborn e).0, absent_set number n xs i x y at same (h.unborn e).1);
    legs = once_set number n (IsSo log) (IsSo log) xs i x y at same (λ e was. here e)
        (λ e z was. was) h.legs;
  }

  -- a greater number was given
  pub greets_newer : (newest : ℕ) (xs : List X) (log : List Message) → Greets newest xs log
      → Greets (newest + 1) xs log
  greets_newer newest xs log h = record {
    may = h.may;
    unborn = λ e. h.unborn (omega (arith, e));
    legs = h.legs;
  }

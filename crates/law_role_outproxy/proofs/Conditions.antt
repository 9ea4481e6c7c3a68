-- what the tests of the rows and puts tell
use Rattle.law_order.proofs.Vocabulary.{◌≡◌, ℕ, Bool, true, false, not, ◌&&◌, ◌||◌, List, [], ◌∷◌, refl}
use Rattle.rh_outproxy.specs.declared.state.Mark.TheVariants as marks
use Rattle.law_moves.proofs.Vocabulary.{is_empty}
use Rattle.law_role_outproxy.proofs.Vocabulary.{Mark, has_come, is_due, is_put}

pub both_left : (a b : Bool) → a && b ≡ true → a ≡ true
both_left true b e = refl
both_left false b e = absurd (cc)

pub both_right : (a b : Bool) → a && b ≡ true → b ≡ true
both_right true b e = e
both_right false b e = absurd (cc)

pub no_false : (b : Bool) → not b ≡ true → b ≡ false
no_false false e = refl
no_false true e = absurd (cc)

pub either_left : (a b : Bool) → a || b ≡ false → a ≡ false
either_left false b e = refl
either_left true b e = absurd (cc)

pub either_right : (a b : Bool) → a || b ≡ false → b ≡ false
either_right false b e = e
either_right true b e = absurd (cc)

pub unput : (m : Mark) → has_come m ≡ false → is_put m ≡ false
unput marks.Awaited e = refl
unput marks.Came e = absurd (cc)
unput marks.Put e = absurd (cc)

pub due_came : (m : Mark) → is_due m ≡ true → has_come m ≡ true
due_came marks.Awaited e = absurd (cc)
due_came marks.Came e = refl
due_came marks.Put e = absurd (cc)

pub due_unput : (m : Mark) → is_due m ≡ true → is_put m ≡ false
due_unput marks.Awaited e = absurd (cc)
due_unput marks.Came e = refl
due_unput marks.Put e = absurd (cc)

pub none_held : (pdus : List (List ℕ)) → is_empty pdus ≡ true → pdus ≡ []
none_held [] e = refl
none_held (pdu ∷ pdus) e = absurd (cc)

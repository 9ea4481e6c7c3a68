-- a room that is filled piece by piece
use Rattle.std.proofs.Common.{◌≡◌, ℕ, ◌+◌, ◌≤◌, List, [], ◌++◌, take, drop, length, arith, sym, ap, ◌∙◌, append_assoc}
use Rattle.std.proofs.lemmas.List.{take_at, drop_at, take_all, drop_all, drop-drop, length-take-le, length-drop, length-append, append-nil}
use borrow.Rule.Slice.PartMut.{put_mid}

module _ (room bytes : List ℕ) (a k r : ℕ) (whole : a + k ≡ length room) (fits : r ≤ k)
    (there : r ≤ length bytes) where
  -- so many bytes stand at the front of the rest of the room
  abbrev pub filled_room : List ℕ
  filled_room = put_mid a k room (take r bytes ++ drop r (take k (drop a room)))

  rest_is : take k (drop a room) ≡ drop a room
  rest_is = take_all k (drop a room) (omega (arith, whole, length-drop a room))

  none_behind : drop k (drop a room) ≡ []
  none_behind = drop_all k (drop a room) (omega (arith, whole, length-drop a room))

  split : filled_room ≡ (take a room ++ take r bytes) ++ drop r (drop a room)
  split =
      ap (λ (x : List ℕ). take a room ++ ((take r bytes ++ drop r x) ++ drop k (drop a room)))
      rest_is
      ∙ ap (λ (x : List ℕ). take a room ++ ((take r bytes ++ drop r (drop a room)) ++ x))
      none_behind
      ∙ ap (λ (x : List ℕ). take a room ++ x) (append-nil (take r bytes ++ drop r (drop a room)))
      ∙ sym (append_assoc (take a room) (take r bytes) (drop r (drop a room)))

  front : length (take a room ++ take r bytes) ≡ a + r
  front = omega (
    arith,
    length-append (take a room) (take r bytes),
    length-take-le a room (omega (arith, whole)),
    length-take-le r bytes there,
  )

  pub taken : take (a + r) filled_room ≡ take a room ++ take r bytes
  taken =
      ap (take (a + r)) split
      ∙ take_at (take a room ++ take r bytes) (drop r (drop a room)) (a + r) front

  pub dropped : drop (a + r) filled_room ≡ drop (a + r) room
  dropped =
      ap (drop (a + r)) split
      ∙ drop_at (take a room ++ take r bytes) (drop r (drop a room)) (a + r) front
      ∙ drop-drop r a room

  pub same_length : length filled_room ≡ length room
  same_length =
      ap (λ (x : List ℕ). length x) split
      ∙ omega (
        arith,
        front,
        whole,
        fits,
        length-append (take a room ++ take r bytes) (drop r (drop a room)),
        length-drop r (drop a room),
        length-drop a room,
      )

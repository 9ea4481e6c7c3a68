-- one direction of a leg, by its wire
use Rattle.law_order.proofs.Vocabulary.{◌≡◌, ℕ, List, ◌++◌, Bool, true, false, if◌then◌else◌, take, drop, refl, sym, subst, inl, inr, take-append-drop}
use Rattle.rh_wires.specs.Wires.{is_up}
use Rattle.law_moves.proofs.Vocabulary.{Dir, U, D, Side, Client, Server}
use Rattle.law_node_history.proofs.Vocabulary.{Wire, blank, in_flight, lower, put, raise, receiver, sender, take_out, Carriage, IsCarried}
use Rattle.law_node_history.proofs.Carriages.{carry_drawn, carry_fed, carry_up_put, carry_up_take, carry_down_put, carry_down_take, carry_lost}

-- what was drawn and fed, whether the leg was up for the end that puts and for the one that takes,
-- and its wire
abbrev pub seen : List ℕ → List ℕ → Bool → Bool → Wire → Dir → Carriage
seen drawn fed put take wire dir = record {
  drawn = drawn;
  fed = fed;
  flight = in_flight dir wire;
  puts = is_up (sender dir) wire;
  takes = is_up (receiver dir) wire;
  did_put = put;
  did_take = take;
}

pub seen_as : {d e f g : List ℕ} {p q s t : Bool} {w v : Wire} (dir : Dir) → d ≡ e → f ≡ g
    → p ≡ q → s ≡ t → w ≡ v → IsCarried (seen d f p s w dir) → IsCarried (seen e g q t v dir)
seen_as dir drawn fed put take wire =
    subst IsCarried (λ i. seen (drawn i) (fed i) (put i) (take i) (wire i) dir)

module _ (d f : List ℕ) (p t : Bool) (w : Wire) where
  pub seen_put : (dir : Dir) (bytes : List ℕ) → is_up (sender dir) w ≡ true
      → IsCarried (seen d f p t w dir) → IsCarried (seen (d ++ bytes) f p t (put dir bytes w) dir)
  seen_put U bytes up k = carry_drawn (seen d f p t w U) k bytes up
  seen_put D bytes up k = carry_drawn (seen d f p t w D) k bytes up

  pub seen_taken : (dir : Dir) (count : ℕ) → is_up (receiver dir) w ≡ true
      → IsCarried (seen d f p t w dir)
      → IsCarried (seen d (f ++ take count (in_flight dir w)) p t (take_out dir count w).0 dir)
  seen_taken U count up k =
      carry_fed (seen d f p t w U) k (take count w.up) (drop count w.up) up
      (sym (take-append-drop count w.up))
  seen_taken D count up k =
      carry_fed (seen d f p t w D) k (take count w.down) (drop count w.down) up
      (sym (take-append-drop count w.down))

  pub seen_up_put : (dir : Dir) → p ≡ false → IsCarried (seen d f p t w dir)
      → IsCarried (seen d f true t (raise (sender dir) w) dir)
  seen_up_put U first k = carry_up_put (seen d f p t w U) k first
  seen_up_put D first k = carry_up_put (seen d f p t w D) k first

  pub seen_up_take : (dir : Dir) → t ≡ false → IsCarried (seen d f p t w dir)
      → IsCarried (seen d f p true (raise (receiver dir) w) dir)
  seen_up_take U first k = carry_up_take (seen d f p t w U) k first
  seen_up_take D first k = carry_up_take (seen d f p t w D) k first

  -- where one end fell, all is lost if the other end is not up
  fallen : (other : Bool) (left : Wire) (dir : Dir) → IsCarried (seen d f p t left dir)
      → IsCarried (seen d f p t blank dir)
      → IsCarried (seen d f p t (if other then left else blank) dir)
  fallen true left dir stays lost = stays
  fallen false left dir stays lost = lost

  pub seen_down : (end : Side) (dir : Dir) → is_up end w ≡ true → IsCarried (seen d f p t w dir)
      → IsCarried (seen d f p t (lower end w) dir)
  seen_down Client U up k =
      fallen w.server (record w { client = false }) U (carry_down_put (seen d f p t w U) k up)
      (carry_lost (seen d f p t w U) k (inl up))
  seen_down Client D up k =
      fallen w.server (record w { client = false }) D (carry_down_take (seen d f p t w D) k up)
      (carry_lost (seen d f p t w D) k (inr up))
  seen_down Server U up k =
      fallen w.client (record w { server = false }) U (carry_down_take (seen d f p t w U) k up)
      (carry_lost (seen d f p t w U) k (inr up))
  seen_down Server D up k =
      fallen w.client (record w { server = false }) D (carry_down_put (seen d f p t w D) k up)
      (carry_lost (seen d f p t w D) k (inl up))

-- ---- what the other direction does

pub put_aside : (dir other : Dir) (bytes : List ℕ) (w : Wire) (d f : List ℕ) (p t : Bool)
    → sender dir ≡ receiver other
    → seen d f p t (put dir bytes w) other ≡ seen d f p t w other
put_aside U U bytes w d f p t e = absurd cc
put_aside U D bytes w d f p t e = refl
put_aside D U bytes w d f p t e = refl
put_aside D D bytes w d f p t e = absurd cc

pub take_aside : (dir other : Dir) (count : ℕ) (w : Wire) (d f : List ℕ) (p t : Bool)
    → sender dir ≡ receiver other
    → seen d f p t (take_out dir count w).0 other ≡ seen d f p t w other
take_aside U U count w d f p t e = absurd cc
take_aside U D count w d f p t e = refl
take_aside D U count w d f p t e = refl
take_aside D D count w d f p t e = absurd cc

-- a head that is added to by pieces, and the search for its end
use Rattle.std.proofs.Common.{◌≡◌, ℕ, ◌+◌, ◌-◌, ◌≤◌, ◌<◌, ◌||◌, List, [], ◌++◌, take, drop, length, nat_le, Bool, true, false, min, None, Some, arith, sym, ap, ◌∙◌, refl, subst}
use Rattle.std.proofs.Math.Seq.{take-append-add}
use Rattle.std.proofs.lemmas.List.{length-append, length-take-le, length-drop, take-take, take_at, take_all}
use Rattle.std.proofs.lemmas.Bool.Decides.{nat_tests}
use Rattle.std.proofs.lemmas.Slice.Eq.{bytes_eq-Decides}
use Rattle.rh_http.specs.Ends.{blank_line, EndsAt, IsOpen, FirstEnd}
use Rattle.rh_http.proofs.EndLemmas.{fits, in_front, in_all}
use Rattle.rh_shell.specs.Intakes.{ends_head, is_whole_head}
use Rattle.rh_shell.specs.Texts.{Adds}

-- ---- one front

-- the test tells that a blank line is at the end
tested : (x : List ℕ) → ends_head x ≡ true → EndsAt x (length x)
unfolding ends_head
tested x h =
    let last : drop (length x - 4) x ≡ blank_line =
    (bytes_eq-Decides (drop (length x - 4) x) blank_line).0 h in
    let size : 4 ≤ length x = omega (arith, length-drop (length x - 4) x, ap length last) in
    (size, ap (take 4) last)

shown : (x : List ℕ) → EndsAt x (length x) → ends_head x ≡ true
unfolding ends_head
shown x h =
    let last = drop (length x - 4) x in
    let size : length last ≤ 4 = omega (arith, h.0, length-drop (length x - 4) x) in
    (bytes_eq-Decides last blank_line).1 (sym (take_all 4 last size) ∙ h.1)

-- a front of bytes, by its length
front_length : (all : List ℕ) (k : ℕ) → k ≤ length all → length (take k all) ≡ k
front_length all k le = length-take-le k all le

-- where no blank line ends, a front that is short enough is not whole
not_whole : (all : List ℕ) (k : ℕ) → k ≤ length all → k < 16384 → (EndsAt all k → ⊥)
    → is_whole_head (take k all) ≡ false
not_whole all k le short none =
    let size = front_length all k le in
    let below : nat_le 16384 (length (take k all)) ≡ false = grind (arith, nat_tests) in
    let last : ends_head (take k all) ≡ false =
    elim (ends_head (take k all)) as (λ t. ends_head (take k all) ≡ t → t ≡ false) [
      | true ↦ λ e.
          absurd (none (in_all all k k (subst (λ n. EndsAt (take k all) n) size (tested (take k all)
          e))))
      | false ↦ λ e. refl
    ] refl in
    rw (below, last) refl

either_way : (b : Bool) → (b || true) ≡ true
either_way true = refl
either_way false = refl

whole_by_line : (all : List ℕ) (k : ℕ) → k ≤ length all → EndsAt all k → is_whole_head (take k all)
    ≡ true
whole_by_line all k le ends =
    let size = front_length all k le in
    let last : ends_head (take k all) ≡ true =
    shown (take k all) (subst (λ n. EndsAt (take k all) n) (sym size) (in_front all k k ends (omega
    arith))) in
    rw last (either_way (nat_le 16384 (length (take k all))))

whole_by_length : (x : List ℕ) → length x ≡ 16384 → is_whole_head x ≡ true
whole_by_length x size =
    let enough : nat_le 16384 (length x) ≡ true = grind (arith, nat_tests) in
    rw enough refl

-- of no bytes no blank line is the end
pub none_open : IsOpen []
none_open k ends = absurd (omega (arith, fits [] (k - 4) ends.1))

-- ---- a piece behind the bytes held

-- so many bytes of the piece stand behind those held, as many as there is room for
pub record IsFilled (held piece room : List ℕ) (len n : ℕ) : Type 0 where
  pub size : length held ≡ len
  pub counted : n ≡ min (16384 - len) (length piece)
  pub bytes : take (len + n) room ≡ held ++ take n piece

pub filled : (held piece old room : List ℕ) (len n : ℕ) → take len old ≡ held → len ≤ 16384
    → length old ≡ 16384 → n ≡ min (length old - len) (length piece)
    → take (len + n) room ≡ take len old ++ take n piece → IsFilled held piece room len n
filled held piece old room len n is most all count bytes = record {
  size = sym (ap (λ (x : List ℕ). length x) is) ∙ length-take-le len old (omega (arith, most, all));
  counted = omega (arith, count, all);
  bytes = bytes ∙ ap (λ (x : List ℕ). x ++ take n piece) is;
}

module _ (held piece room : List ℕ) (len n : ℕ) (f : IsFilled held piece room len n)
    (none : IsOpen held) (short : length held < 16384) where
  abbrev pub all_held : List ℕ
  all_held = held ++ take n piece

  all_length : length all_held ≡ len + n
  all_length = omega (
    arith,
    f.size,
    f.counted,
    length-append held (take n piece),
    length-take-le n piece (omega (arith, f.counted)),
  )

  -- a front that reaches into the piece
  front : (k : ℕ) → k ≤ n → take (len + k) all_held ≡ held ++ take k piece
  front k le =
      ap (λ (m : ℕ). take (m + k) all_held) (sym f.size) ∙ take-append-add held (take n piece) k
      ∙ ap (λ (x : List ℕ). held ++ x) (take-take k n piece le)

  in_room : (k : ℕ) → k ≤ len + n → take k room ≡ take k all_held
  in_room k le = sym (take-take k (len + n) room le) ∙ ap (take k) f.bytes

  -- no blank line ends in the bytes held
  behind_held : (k : ℕ) → EndsAt all_held k → len < k
  behind_held k ends =
      elim (nat_le k len) as (λ t. nat_le k len ≡ t → len < k) [
        | true ↦ λ e.
            let le : k ≤ len = grind (arith, nat_tests) in
            absurd (none k (subst (λ (x : List ℕ). EndsAt x k) (take_at held (take n piece) len
            f.size)
            (in_front all_held k len ends le)))
        | false ↦ λ e. grind (arith, nat_tests)
      ] refl

  -- the search found an end
  pub record FoundAt (end : ℕ) : Type 0 where
    pub behind : len < end
    pub most : end ≤ 16384
    pub adds : Adds is_whole_head held piece (take end room) (Some (end - len))

  pub found_at : (end : ℕ) → FirstEnd (take (len + n) room) end → FoundAt end
  found_at end found =
      let first : FirstEnd all_held end = subst (λ (x : List ℕ). FirstEnd x end) f.bytes found in
      let behind = behind_held end first.ends in
      let inside : end ≤ len + n =
      omega (arith, first.ends.0, fits all_held (end - 4) first.ends.1, all_length) in
      let sum : len + (end - len) ≡ end = omega (arith, behind) in
      let view = in_room end inside in
      let bytes : take end all_held ≡ held ++ take (end - len) piece =
      ap (λ (k : ℕ). take k all_held) (sym sum) ∙ front (end - len) (omega (arith, inside)) in
      record {
        behind = behind;
        most = omega (arith, inside, f.counted, f.size, short);
        adds = (
          omega (arith, behind),
          omega (arith, inside, f.counted),
          view ∙ bytes,
          subst (λ (x : List ℕ). is_whole_head x ≡ true) (sym view)
              (whole_by_line all_held end (omega (arith, inside, all_length)) first.ends),
          λ k some below.
              subst (λ (x : List ℕ). is_whole_head x ≡ false)
              (front k (omega (arith, inside, below)))
              (not_whole all_held (len + k) (omega (arith, inside, below, all_length))
              (omega (arith, inside, below, f.counted, f.size, short))
              (λ ends. absurd (omega (arith, first.first (len + k) ends, below, behind)))),
        );
      }

  before : IsOpen (take (len + n) room) → (k : ℕ) → 0 < k → k ≤ n → len + k < 16384
      → is_whole_head (held ++ take k piece) ≡ false
  before is_open k some le below =
      subst (λ (x : List ℕ). is_whole_head x ≡ false) (front k le)
      (not_whole all_held (len + k) (omega (arith, le, all_length)) below
      (subst IsOpen f.bytes is_open (len + k)))

  -- the search found none, and the head is as long as it may be
  pub full : IsOpen (take (len + n) room) → 0 < length piece → len + n ≡ 16384
      → Adds is_whole_head held piece (take (len + n) room) (Some n)
  full is_open some long = (
    omega (arith, f.counted, f.size, short),
    omega (arith, f.counted),
    f.bytes,
    subst (λ (x : List ℕ). is_whole_head x ≡ true) (sym f.bytes)
        (whole_by_length all_held (all_length ∙ long)),
    λ k more below. before is_open k more (omega (arith, below)) (omega (arith, below, long)),
  )

  -- or it goes on
  pub goes_on : IsOpen (take (len + n) room) → (len + n ≡ 16384 → ⊥)
      → Adds is_whole_head held piece (take (len + n) room) None
  goes_on is_open short_yet =
      let all : n ≡ length piece = omega (arith, f.counted, f.size, short, short_yet) in (
        f.bytes ∙ ap (λ (x : List ℕ). held ++ x) (take_all n piece (omega (arith, all))),
        λ k more le.
            before is_open k more (omega (arith, all, le))
            (omega (arith, f.counted, f.size, short, short_yet, le)),
      )

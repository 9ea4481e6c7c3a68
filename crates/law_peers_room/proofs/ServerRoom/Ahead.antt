-- what waits before an acknowledgement to the client
use Rattle.law_order.proofs.Vocabulary.{◌≡◌, ◌⊎◌, inl, inr, ℕ, suc, ◌+◌, ◌*◌, ◌≤◌, Bool, true, false, true≢false, nat_lt, if◌then◌else◌, List, [], ◌∷◌, ◌++◌, length, Some, None, refl, sym, ap, ◌∙◌, subst, arith, bytes_eq-Decides, find, bytes_eq, Option}
use Rattle.rh_sig.specs.declared.named.Named.TheVariants as named
use Rattle.law_moves.proofs.Vocabulary.{by_test, Cookie, Named, Due, Key, are_one, better, edge_of, key_of, merged, takes, without_first}
use Rattle.law_role_server.proofs.Vocabulary.{is_in_r1_a3, is_in_r2_a3, waiting_of}
use Rattle.law_peers_room.proofs.InRoom.Turns.{one_is as same_keys}
use Rattle.law_peers_room.specs.ServerRoom.Overtaking.{is_ack_for}

-- the bytes of an answer
abbrev pub bytes_of : Named → ℕ
bytes_of (named.InR1A3 destination version window timeout) = 52
bytes_of (named.InR2A3 destination) = 28
bytes_of packet = 0

-- ---- keys

pub same_cookies : (a b : Cookie) → bytes_eq a.0 b.0 ≡ true → a ≡ b
same_cookies a b e =
    ap (λ (bytes : List ℕ). record { 0 = bytes }) ((bytes_eq-Decides a.0 b.0).0 e)

-- what has a key is no answer
pub keyed_bytes : (packet : Named) (key : Key) → key_of packet ≡ Some key → bytes_of packet ≡ 0
keyed_bytes (named.InR1A3 destination version window timeout) key e = absurd cc
keyed_bytes (named.InR2A3 destination) key e = absurd cc
keyed_bytes packet key e = refl

module _ (channel : Cookie) where
  abbrev pub is_for : Due → Bool
  is_for due = is_ack_for channel due.packet

  -- it waits, and how many wait before it, with so many bytes of answers
  abbrev pub is_there : List Due → Bool
  is_there [] = false
  is_there (due ∷ dues) = if is_for due then true else is_there dues

  abbrev pub count : List Due → ℕ
  count [] = 0
  count (due ∷ dues) = if is_for due then 0 else suc (count dues)

  abbrev pub weight : List Due → ℕ
  weight [] = 0
  weight (due ∷ dues) = if is_for due then 0 else bytes_of due.packet + weight dues

  pub count_at_most : (dues : List Due) → count dues ≤ length dues
  count_at_most [] = omega arith
  count_at_most (due ∷ dues) = by (is_for due) (count_at_most dues)
    where
      by : (b : Bool) → count dues ≤ length dues
          → (if b then 0 else suc (count dues)) ≤ suc (length dues)
      by true h = omega arith
      by false h = omega (arith, h)

  -- no more bytes than are due
  one_at_most : (packet : Named)
      → bytes_of packet
      ≤ 52 * (if is_in_r1_a3 packet then 1 else 0) + 28 * (if is_in_r2_a3 packet then 1 else 0)
  one_at_most (named.InR1A3 destination version window timeout) = omega arith
  one_at_most (named.InR2A3 destination) = omega arith
  one_at_most packet = omega arith

  one_more : (test : Named → Bool) (due : Due) (dues : List Due)
      → waiting_of test (due ∷ dues) ≡ (if test due.packet then 1 else 0) + waiting_of test dues
  one_more test due dues = by (test due.packet)
    where
      by : (b : Bool) → (if b then suc (waiting_of test dues) else waiting_of test dues)
          ≡ (if b then 1 else 0) + waiting_of test dues
      by true = omega arith
      by false = omega arith

  pub weight_at_most : (dues : List Due)
      → weight dues ≤ 52 * waiting_of is_in_r1_a3 dues + 28 * waiting_of is_in_r2_a3 dues
  weight_at_most [] = omega arith
  weight_at_most (due ∷ dues) =
      let one = one_more is_in_r1_a3 due dues in
      let two = one_more is_in_r2_a3 due dues in
      let least = one_at_most due.packet in
      by (is_for due) one two least (weight_at_most dues)
    where
      by : (b : Bool)
          → waiting_of is_in_r1_a3 (due ∷ dues)
          ≡ (if is_in_r1_a3 due.packet then 1 else 0) + waiting_of is_in_r1_a3 dues
          → waiting_of is_in_r2_a3 (due ∷ dues)
          ≡ (if is_in_r2_a3 due.packet then 1 else 0) + waiting_of is_in_r2_a3 dues
          → bytes_of due.packet ≤ 52 * (if is_in_r1_a3 due.packet then 1 else 0)
          + 28 * (if is_in_r2_a3 due.packet then 1 else 0)
          → weight dues ≤ 52 * waiting_of is_in_r1_a3 dues + 28 * waiting_of is_in_r2_a3 dues
          → (if b then 0 else bytes_of due.packet + weight dues)
          ≤ 52 * waiting_of is_in_r1_a3 (due ∷ dues) + 28 * waiting_of is_in_r2_a3 (due ∷ dues)
      by true one two least rest = omega arith
      by false one two least rest = omega (arith, one, two, least, rest)

  pub waits_there : (dues : List Due) → 1 ≤ waiting_of (is_ack_for channel) dues
      → is_there dues ≡ true
  waits_there [] h = absurd (omega (arith, h))
  waits_there (due ∷ dues) h = by (is_for due) h (waits_there dues)
    where
      by : (b : Bool)
          → 1 ≤ (if b then suc (waiting_of (is_ack_for channel) dues)
          else waiting_of (is_ack_for channel) dues)
          → (1 ≤ waiting_of (is_ack_for channel) dues → is_there dues ≡ true)
          → (if b then true else is_there dues) ≡ true
      by true h rest = refl
      by false h rest = rest h

  -- ---- where it stays

  -- as many wait before it, or fewer, with the same answers
  pub record Stays (dues others : List Due) : Type 0 where
    pub there : is_there others ≡ true
    pub same : weight others ≡ weight dues
    pub fewer : count others ≤ count dues

  pub itself : (dues : List Due) → is_there dues ≡ true → Stays dues dues
  itself dues h = record { there = h; same = refl; fewer = omega arith }

  abbrev Under : Bool → Due → List Due → List Due → Type 0
  Under b due dues others =
      ((if b then true else is_there others) ≡ true)
      × ((if b then 0 else bytes_of due.packet + weight others)
      ≡ (if b then 0 else bytes_of due.packet + weight dues))
      × ((if b then 0 else suc (count others)) ≤ (if b then 0 else suc (count dues)))

  behind_one : (due : Due) (dues others : List Due)
      → (is_for due ≡ false → Stays dues others) → Stays (due ∷ dues) (due ∷ others)
  behind_one due dues others rest =
      let all = by (is_for due) rest in
      record { there = all.0; same = all.1; fewer = all.2 }
    where
      by : (b : Bool) → (b ≡ false → Stays dues others) → Under b due dues others
      by true rest = (refl, refl, omega arith)
      by false rest =
          let h = rest refl in
          let fewer = h.fewer in
          (h.there, ap (λ (n : ℕ). bytes_of due.packet + n) h.same, omega (arith, fewer))

  there_behind : (due : Due) (dues : List Due) → is_there (due ∷ dues) ≡ true
      → is_for due ≡ false → is_there dues ≡ true
  there_behind due dues h e =
      subst (λ (b : Bool). (if b then true else is_there dues) ≡ true) e h

  -- one more behind all
  pub pushed_stays : (dues : List Due) (due : Due) → is_there dues ≡ true
      → Stays dues (dues ++ due ∷ [])
  pushed_stays [] due h = absurd cc
  pushed_stays (first ∷ dues) due h =
      behind_one first dues (dues ++ due ∷ [])
      (λ e. pushed_stays dues due (there_behind first dues h e))

  -- one in the place of another
  replaced : (old new : Due) (dues : List Due) → is_for new ≡ is_for old
      → bytes_of new.packet ≡ bytes_of old.packet → is_there (old ∷ dues) ≡ true
      → Stays (old ∷ dues) (new ∷ dues)
  replaced old new dues for bytes h =
      record {
        there = ap (λ (b : Bool). if b then true else is_there dues) for ∙ h;
        same = ap (λ (b : Bool). if b then 0 else bytes_of new.packet + weight dues) for
            ∙ ap (λ (n : ℕ). if is_for old then 0 else n + weight dues) bytes;
        fewer = let same = ap (λ (b : Bool). if b then 0 else suc (count dues)) for in
            omega (arith, same);
      }

  better_stays : (due : Due) (packet : Named) (key : Key) (dues : List Due)
      → key_of packet ≡ Some key → takes packet due ≡ true → is_there (due ∷ dues) ≡ true
      → Stays (due ∷ dues) (better due packet ∷ dues)
  better_stays due packet key dues is takes_it h =
      by_test (λ (d : Due). Stays (due ∷ dues) (d ∷ dues))
      (nat_lt (edge_of packet) (edge_of due.packet)) due
      (record { packet = packet; origin = due.origin }) (λ e. itself (due ∷ dues) h)
      (λ e. let same = same_keys (key_of due.packet) (key_of packet) takes_it in
      replaced due (record { packet = packet; origin = due.origin }) dues
      (ap (λ (k : Option Key). are_one k (Some (record { destination = 0; channel = channel })))
      (sym same))
      (keyed_bytes packet key is ∙ sym (keyed_bytes due.packet key (same ∙ is))) h)

  pub merged_stays : (dues : List Due) (packet : Named) (key : Key) → key_of packet ≡ Some key
      → is_there dues ≡ true → Stays dues (merged dues packet)
  merged_stays [] packet key is h = absurd cc
  merged_stays (due ∷ dues) packet key is h =
      by_test (Stays (due ∷ dues)) (takes packet due) (better due packet ∷ dues)
      (due ∷ merged dues packet) (λ e. better_stays due packet key dues is e h)
      (λ e. behind_one due dues (merged dues packet)
      (λ f. merged_stays dues packet key is (there_behind due dues h f)))

  -- ---- one goes

  -- it may not go
  abbrev pub Refuses : (Due → Bool) → Type 0
  Refuses may_go = (due : Due) × (is_for due ≡ true) × (may_go due ≡ false)

  -- one before it went
  pub record Before (dues others : List Due) (due : Due) : Type 0 where
    pub there : is_there others ≡ true
    pub less : weight others + bytes_of due.packet ≡ weight dues
    pub one : suc (count others) ≡ count dues

  abbrev pub Gone : (Due → Bool) → List Due → List Due → Option Due → Type 0
  Gone may_go dues others None = Refuses may_go
  Gone may_go dues others (Some due) =
      (is_for due ≡ true) ⊎ (Before dues others due ⊎ (Refuses may_go × Stays dues others))

  here : (first : Due) (dues : List Due) → is_there (first ∷ dues) ≡ true → (b : Bool)
      → is_for first ≡ b → (is_for first ≡ true) ⊎ Before (first ∷ dues) dues first
  here first dues h true e = inl e
  here first dues h false e =
      inr (record {
        there = there_behind first dues h e;
        less = (let n : ℕ = bytes_of first.packet in
            let m : ℕ = weight dues in
            let both : m + n ≡ n + m = omega arith in both)
            ∙ sym (ap (λ (b : Bool). if b then 0 else bytes_of first.packet + weight dues) e);
        one = sym (ap (λ (b : Bool). if b then 0 else suc (count dues)) e);
      })

  later : (may_go : Due → Bool) (first : Due) (dues others : List Due) (found : Option Due)
      → may_go first ≡ false → is_there (first ∷ dues) ≡ true
      → (is_there dues ≡ true → Gone may_go dues others found)
      → Gone may_go (first ∷ dues) (first ∷ others) found
  later may_go first dues others found may h rest = by (is_for first) refl
    where
      stays : is_for first ≡ true → Stays (first ∷ dues) (first ∷ others)
      stays e = behind_one first dues others (λ f. absurd (true≢false (sym e ∙ f)))

      at_first : (o : Option Due) → is_for first ≡ true
          → Gone may_go (first ∷ dues) (first ∷ others) o
      at_first None e = (first, e, may)
      at_first (Some due) e = inr (inr ((first, e, may), stays e))

      lifted : (o : Option Due) → is_for first ≡ false → Gone may_go dues others o
          → Gone may_go (first ∷ dues) (first ∷ others) o
      lifted None e h = h
      lifted (Some due) e (inl is) = inl is
      lifted (Some due) e (inr (inr both)) =
          inr (inr (both.0, behind_one first dues others (λ f. both.1)))
      lifted (Some due) e (inr (inl before)) =
          let less = before.less in
          let one = before.one in
          let weighs = ap (λ (b : Bool). if b then 0 else bytes_of first.packet + weight others) e
          in
          let weighed = ap (λ (b : Bool). if b then 0 else bytes_of first.packet + weight dues) e in
          let counts = ap (λ (b : Bool). if b then 0 else suc (count others)) e in
          let counted = ap (λ (b : Bool). if b then 0 else suc (count dues)) e in
          inr (inl (record {
            there = ap (λ (b : Bool). if b then true else is_there others) e ∙ before.there;
            less = omega (arith, less, weighs, weighed);
            one = omega (arith, one, counts, counted);
          }))

      by : (b : Bool) → is_for first ≡ b → Gone may_go (first ∷ dues) (first ∷ others) found
      by true e = at_first found e
      by false e = lifted found e (rest (there_behind first dues h e))

  pub gone : (may_go : Due → Bool) (dues : List Due) → is_there dues ≡ true
      → Gone may_go dues (without_first may_go dues) (find may_go dues)
  gone may_go [] h = absurd cc
  gone may_go (first ∷ dues) h =
      by (may_go first) refl (gone may_go dues)
    where
      first_of : (is_for first ≡ true) ⊎ Before (first ∷ dues) dues first
          → Gone may_go (first ∷ dues) dues (Some first)
      first_of (inl is) = inl is
      first_of (inr before) = inr (inl before)

      by : (m : Bool) → may_go first ≡ m
          → (is_there dues ≡ true
          → Gone may_go dues (without_first may_go dues) (find may_go dues))
          → Gone may_go (first ∷ dues) (if m then dues else first ∷ without_first may_go dues)
          (if m then Some first else find may_go dues)
      by true e rest = first_of (here first dues h (is_for first) refl)
      by false e rest =
          later may_go first dues (without_first may_go dues) (find may_go dues) e h rest

  -- ---- one that is no answer goes

  pub dropped_stays : (may_go : Due → Bool)
      → ((due : Due) → may_go due ≡ true → (is_for due ≡ false) × (bytes_of due.packet ≡ 0))
      → (dues : List Due) → is_there dues ≡ true → Stays dues (without_first may_go dues)
  dropped_stays may_go plain [] h = absurd cc
  dropped_stays may_go plain (first ∷ dues) h =
      by_test (Stays (first ∷ dues)) (may_go first) dues (first ∷ without_first may_go dues)
      (λ e. let is = plain first e in
      let weighed = ap (λ (b : Bool). if b then 0 else bytes_of first.packet + weight dues) is.0 in
      let none = is.1 in
      let counted = ap (λ (b : Bool). if b then 0 else suc (count dues)) is.0 in record {
        there = there_behind first dues h is.0;
        same = omega (arith, weighed, none);
        fewer = omega (arith, counted);
      })
      (λ e. behind_one first dues (without_first may_go dues)
      (λ f. dropped_stays may_go plain dues (there_behind first dues h f)))

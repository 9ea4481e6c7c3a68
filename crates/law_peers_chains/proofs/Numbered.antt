-- legs whose channels are numbered, of which one node may read several on one leg, are successors
use Rattle.law_order.proofs.Vocabulary.{◌≡◌, ◌⊎◌, ℕ, zero, suc, ◌<◌, ◌≤◌, nat_lt, Bool, true, false, List, Some, None, inl, inr, refl, sym, ap, ◌∙◌, subst, arith, nat_tests}
use Rattle.std.specs.declared.option.Option.{Option}
use Rattle.rh_audit.specs.declared.packet.First.{First}
use Rattle.rh_audit.specs.declared.packet.Met.{Met}
use Rattle.rh_audit.specs.Streams.{first_among}
use Rattle.law_moves.proofs.Vocabulary.{Cookie}
use Rattle.law_audit.specs.Chains.Successors.{AreSuccessors, Precedes, newest}
use Rattle.law_peers_moments.specs.Moments.{ReadInTurn}
use Rattle.law_peers_in_channels.proofs.InSuccessors.Sums.{reader_behind}

-- a channel is read on a leg of no higher number
reader_most : (reader : ℕ → ℕ) → ReadInTurn reader → (n : ℕ) → reader n ≤ n
reader_most reader turn zero = let none = turn.none in omega (arith, none)
reader_most reader turn (suc n) = by (reader_most reader turn n) (turn.next n)
  where
    by : reader n ≤ n → (reader (suc n) ≡ 0) ⊎ ((reader (suc n) ≡ suc n)
        ⊎ (reader (suc n) ≡ reader n)) → reader (suc n) ≤ suc n
    by before (inl none) = omega (arith, none)
    by before (inr (inl is)) = omega (arith, is)
    by before (inr (inr same)) = omega (arith, same, before)

-- each leg has a channel of its own
pub each_own : ReadInTurn (λ n. n)
each_own = record { none = refl; next = λ n. inr (inl refl) }

module _ (Comes : ℕ → Cookie → Type 0) (reader : ℕ → ℕ) (mets : ℕ → List Met)
    (last : ℕ → ℕ) where
  -- a leg whose first packet was met has its own channel, and the last one whose cookie was seen
  pub record Tells (n : ℕ) (begun : First) : Type 0 where
    pub names : Comes (last n) (newest (mets n) begun)
    pub reads : reader (last n) ≡ n
    pub own : reader n ≡ n
    pub positive : 1 ≤ n

  -- it replaces the channel below it, of which the leg that has it told
  pub record IsBehind (n : ℕ) (cookie : Cookie) : Type 0 where
    pub below : ℕ
    pub number : n ≡ suc (suc below)
    pub names : Comes (suc below) cookie
    pub begun : First
    pub met : first_among (mets (reader (suc below))) ≡ Some begun
    pub least : suc below ≤ last (reader (suc below))

  pub record AreRead : Type 0 where
    pub tells : (n : ℕ) (begun : First) → first_among (mets n) ≡ Some begun → Tells n begun
    pub first : (n : ℕ) (begun : First) → first_among (mets n) ≡ Some begun
        → begun.predecessor ≡ None → n ≡ 1
    pub behind : (n : ℕ) (begun : First) (cookie : Cookie) → first_among (mets n) ≡ Some begun
        → begun.predecessor ≡ Some cookie → IsBehind n cookie

  -- they are successors, and each but the first has one before it
  pub record AreFollowing : Type 0 where
    pub successors : AreSuccessors mets
    pub turns : (n : ℕ) (begun : First) → first_among (mets n) ≡ Some begun
        → (n ≡ 1) ⊎ ((cookie : Cookie) × IsBehind n cookie)
    pub own : (n : ℕ) (begun : First) → first_among (mets n) ≡ Some begun → reader n ≡ n

  in_turn : AreRead → (n : ℕ) (begun : First) → first_among (mets n) ≡ Some begun
      → (n ≡ 1) ⊎ ((cookie : Cookie) × IsBehind n cookie)
  in_turn read n begun met = by begun.predecessor refl
    where
      by : (o : Option Cookie) → begun.predecessor ≡ o
          → (n ≡ 1) ⊎ ((cookie : Cookie) × IsBehind n cookie)
      by None e = inl (read.first n begun met e)
      by (Some cookie) e = inr (cookie, read.behind n begun cookie met e)

  module _ (turn : ReadInTurn reader)
      (one : (n : ℕ) (a b : Cookie) → Comes n a → Comes n b → a ≡ b)
      (own : (l n : ℕ) (cookie : Cookie) → Comes l cookie → Comes n cookie → l ≡ n)
      (read : AreRead) where
    -- a leg where no first packet can be has none
    none_by : (n : ℕ) → ((begun : First) → first_among (mets n) ≡ Some begun → ⊥)
        → first_among (mets n) ≡ None
    none_by n no' = by (first_among (mets n)) refl
      where
        by : (o : Option First) → first_among (mets n) ≡ o → first_among (mets n) ≡ None
        by None e = e
        by (Some begun) e = absurd (no' begun e)

    first_is : (n : ℕ) (begun : First) → first_among (mets n) ≡ Some begun
        → begun.predecessor ≡ None → (k : ℕ) → k < n → first_among (mets k) ≡ None
    first_is n begun met none k below =
        none_by k
        (λ other is.
        let here = read.first n begun met none in
        let some = (read.tells k other is).positive in omega (arith, here, below, some))

    module _ (n : ℕ) (begun : First) (met : first_among (mets n) ≡ Some begun) (cookie : Cookie)
        (is : begun.predecessor ≡ Some cookie) where
      abbrev before : IsBehind n cookie
      before = read.behind n begun cookie met is

      abbrev m : ℕ
      m = reader (suc before.below)

      tells : Tells m before.begun
      tells = read.tells m before.begun before.met

      m_most : m ≤ suc before.below
      m_most = reader_most reader turn (suc before.below)

      own_n : reader n ≡ n
      own_n = (read.tells n begun met).own

      -- its last channel is the one below leg n
      last_is : last m ≡ suc before.below
      last_is = by (nat_lt (last m) n) refl
        where
          at : n ≤ last m → (reader (last m) ≡ 0) ⊎ (n ≤ reader (last m))
              → last m ≡ suc before.below
          at past (inl none) =
              let reads = tells.reads in
              let some = tells.positive in absurd (omega (arith, none, reads, some))
          at past (inr least) =
              let reads = tells.reads in
              let number = before.number in absurd (omega (arith, least, reads, number, m_most))

          by : (b : Bool) → nat_lt (last m) n ≡ b → last m ≡ suc before.below
          by true e =
              let less : last m < n = grind (arith, nat_tests, e) in
              let number = before.number in
              let least = before.least in omega (arith, less, number, least)
          by false e =
              let past : n ≤ last m = grind (arith, nat_tests, e) in
              at past (reader_behind reader turn n own_n (last m) past)

      between : (k : ℕ) → m < k → k < n → first_among (mets k) ≡ None
      between k above below =
          none_by k
          (λ other here.
          let tells_k = read.tells k other here in
          let number = before.number in
          by k above
          (reader_behind reader turn k tells_k.own (suc before.below) (omega (arith, below, number))))
        where
          by : (k : ℕ) → m < k
              → (reader (suc before.below) ≡ 0) ⊎ (k ≤ reader (suc before.below)) → ⊥
          by k above (inl none) = let some = tells.positive in omega (arith, none, some)
          by k above (inr least) = omega (arith, least, above)

      precedes : Precedes mets n cookie
      precedes = record {
        number = m;
        begun = before.begun;
        met = before.met;
        last = one (suc before.below) (newest (mets m) before.begun) cookie
            (subst (λ (j : ℕ). Comes j (newest (mets m) before.begun)) last_is tells.names)
            before.names;
        below = let number = before.number in omega (arith, number, m_most);
        none = between;
      }

    apart : (l n : ℕ) (a b : First) → first_among (mets l) ≡ Some a
        → first_among (mets n) ≡ Some b → newest (mets l) a ≡ newest (mets n) b → l ≡ n
    apart l n a b is_a is_b same =
        let tells_a = read.tells l a is_a in
        let tells_b = read.tells n b is_b in
        let lasts = own (last l) (last n) (newest (mets n) b)
        (subst (Comes (last l)) same tells_a.names) tells_b.names in
        sym tells_a.reads ∙ ap reader lasts ∙ tells_b.reads

    pub following : AreFollowing
    following = record {
      successors = record {
        first = first_is;
        behind = λ n begun cookie met is. precedes n begun met cookie is;
        apart = apart;
      };
      turns = in_turn read;
      own = λ n begun met. (read.tells n begun met).own;
    }

-- what the tests of a row tell, and what waits
use Rattle.law_order.proofs.Vocabulary.{◌≡◌, ◌⊎◌, inl, inr, ℕ, suc, ◌+◌, ◌≤◌, ◌&&◌, Bool, true, false, if◌then◌else◌, List, [], ◌∷◌, Some, arith, refl, false≢true, and_parts, find}
use Rattle.rh_sig.specs.declared.named.Named.TheVariants as named
use Rattle.rh_shell.specs.Waiting.{is_of}
use Rattle.rh_shell.specs.declared.answers.Count.TheVariants as counts
use Rattle.rh_server.specs.declared.out_line.Kind.TheVariants as kind
use Rattle.law_moves.proofs.Vocabulary.{Named, Count, Due, Own, Tells}
use Rattle.law_role_server.proofs.Vocabulary.{Kind, is_kind, is_own, is_some, is_first, is_conn_c1, is_out_r1_a1, is_out_r1_a5, is_out_r1_a9, waiting_of}

pub one_fails : (a b : Bool) → a && b ≡ false → (a ≡ false) ⊎ (b ≡ false)
one_fails false b e = inl refl
one_fails true b e = inr e

-- ---- the count

pub first_count : (count : Count) (n : ℕ) → Tells count n → is_first count ≡ true → n ≡ 0
first_count counts.Zero n tells e = tells
first_count counts.One n tells e = absurd (false≢true e)
first_count counts.More n tells e = absurd (false≢true e)

pub later_count : (count : Count) (n : ℕ) → Tells count n → is_first count ≡ false → 1 ≤ n
later_count counts.Zero n tells e = absurd (cc)
later_count counts.One n tells e = omega (arith, tells)
later_count counts.More n tells e = omega (arith, tells)

-- ---- a packet of a kind waits

abbrev pub OneWaits : Kind → List Due → Type 0
OneWaits kind dues =
    (packet : Named) × (is_kind kind packet ≡ true)
    × ((test : Named → Bool) → test packet ≡ true → 1 ≤ waiting_of test dues)

pub one_waits : (kind : Kind) (dues : List Due) → is_some (find (is_own kind) dues) ≡ true
    → OneWaits kind dues
one_waits kind [] e = absurd (false≢true e)
one_waits kind (due ∷ dues) e = by (is_own kind due) refl (one_waits kind dues) e
  where
    here : (test : Named → Bool) (u : Bool) → u ≡ true
        → 1 ≤ (if u then suc (waiting_of test dues) else waiting_of test dues)
    here test true f = omega arith
    here test false f = absurd (false≢true f)

    further : (test : Named → Bool) (u : Bool) → 1 ≤ waiting_of test dues
        → 1 ≤ (if u then suc (waiting_of test dues) else waiting_of test dues)
    further test true f = omega arith
    further test false f = f

    by : (k : Bool) → is_own kind due ≡ k
        → (is_some (find (is_own kind) dues) ≡ true → OneWaits kind dues)
        → is_some (if k then Some due else find (is_own kind) dues) ≡ true
        → OneWaits kind (due ∷ dues)
    by true is all f = (
      due.packet,
      (and_parts (is_of Own due) (is_kind kind due.packet) is).1,
      λ test g. here test (test due.packet) g,
    )
    by false is all f =
        let rest = all f in
        (rest.0, rest.1, λ test g. further test (test due.packet) (rest.2 test g))

pub is_c1 : (packet : Named) → is_kind kind.ConnC1 packet ≡ true → is_conn_c1 packet ≡ true
is_c1 (named.ConnC1 version window timeout) e = refl
is_c1 packet e = absurd (false≢true e)

-- one of the three of an OUT channel's replacement
abbrev pub WaitsOut : List Due → Type 0
WaitsOut dues =
    1 ≤ waiting_of is_out_r1_a1 dues + waiting_of is_out_r1_a5 dues + waiting_of is_out_r1_a9 dues

pub out_waits : (dues : List Due) → is_some (find (is_own kind.OutR1) dues) ≡ true
    → WaitsOut dues
out_waits dues e = by one.0 one.1 one.2
  where
    one : OneWaits kind.OutR1 dues
    one = one_waits kind.OutR1 dues e

    by : (packet : Named) → is_kind kind.OutR1 packet ≡ true
        → ((test : Named → Bool) → test packet ≡ true → 1 ≤ waiting_of test dues)
        → WaitsOut dues
    by (named.OutR1A1 destination) is each =
        let some = each is_out_r1_a1 refl in omega (arith, some)
    by (named.OutR1A5 destination version timeout) is each =
        let some = each is_out_r1_a5 refl in omega (arith, some)
    by named.OutR1A9 is each = let some = each is_out_r1_a9 refl in omega (arith, some)
    by packet is each = absurd (false≢true is)

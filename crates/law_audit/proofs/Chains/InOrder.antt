-- legs that replace one another by their numbers are a line
use Rattle.std.proofs.Common.{◌≡◌, inl, inr, ℕ, zero, suc, ◌+◌, ◌<◌, ◌≤◌, List, [], ◌∷◌, ◌++◌, Bool, true, false, Some, None, refl, sym, ap, ◌∙◌, subst, arith}
use Rattle.std.specs.Prelude.{◌&&◌, ◌==◌, not, nat_lt}
use Rattle.std.specs.List.{AllByRecursion}
use Rattle.std.specs.declared.option.Option.{Option}
use Rattle.std.proofs.lemmas.Bool.Decides.{nat_tests}
use Rattle.std.proofs.lemmas.Slice.Eq.{bytes_eq-Decides}
use Rattle.rh_rts.specs.declared.command.Cookie.{Cookie}
use Rattle.rh_line.specs.declared.leg.LegKind.{LegKind}
use Rattle.rh_audit.specs.declared.packet.First.{First}
use Rattle.rh_audit.specs.declared.packet.Met.{Met}
use Rattle.rh_audit.specs.declared.seen.Seen.{Seen}
use Rattle.rh_audit.specs.Audits.{has, is_empty, is_left}
use Rattle.rh_audit.specs.Captures.{of_tag}
use Rattle.rh_audit.specs.Chains.{Leg, chain, connects, is_connected, is_cookie, leg_by, legs, mets_in, pdus_in, replaces}
use Rattle.rh_audit.specs.Pipes.{pdu_pipe}
use Rattle.rh_audit.specs.Streams.{first_among, is_marked, renewed}
use Rattle.law_audit.specs.Chains.Successors.{AreSuccessors, AreTagged, IsChained, IsTag, Precedes, in_order, leg_of_tag, mets_of_leg, newest}
use Rattle.law_audit.proofs.Chains.Among as among
use Rattle.law_audit.proofs.Chains.Lines.{IsAmong, IsLine, IsLinked, chain_is}

-- ---- numbers

pub data Order (m n : ℕ) : Type 0 where
  Below : m < n → Order m n
  Same : m ≡ n → Order m n
  Above : n < m → Order m n

order : (m n : ℕ) → Order m n
order m n = by (nat_lt m n) refl (m == n) refl
  where
    by : (less : Bool) → nat_lt m n ≡ less → (same : Bool) → (m == n) ≡ same → Order m n
    by true e same k = Below (grind (arith, nat_tests, e))
    by false e true k = Same (grind (arith, nat_tests, k))
    by false e false k = Above (grind (arith, nat_tests, e, k))

some_not_none : (o : Option First) (begun : First) → o ≡ Some begun → o ≡ None → ⊥
some_not_none o begun is none = absurd (let both = sym is ∙ none in cc)

same_first : (a b : First) (o : Option First) → o ≡ Some a → o ≡ Some b → a ≡ b
same_first a b o h k = let both = sym h ∙ k in cc

-- ---- cookies

cookie_is : (cookie : Cookie) (o : Option Cookie) → is_cookie cookie o ≡ true
    → o ≡ Some cookie
cookie_is cookie None h = absurd (let both = h in cc)
cookie_is cookie (Some other) h =
    let same : other.0 ≡ cookie.0 = (bytes_eq-Decides other.0 cookie.0).0 h in
    ap (λ (x : List ℕ). Some (record { 0 = x })) same

is_the_cookie : (cookie : Cookie) (o : Option Cookie) → o ≡ Some cookie
    → is_cookie cookie o ≡ true
is_the_cookie cookie o h =
    ap (is_cookie cookie) h ∙ (bytes_eq-Decides cookie.0 cookie.0).1 refl

no_cookie : (o : Option Cookie) → is_connected o ≡ true → o ≡ None
no_cookie None h = refl
no_cookie (Some cookie) h = absurd (let both = h in cc)

module _ (kind : LegKind) (seen : List Seen) (tags : List ℕ) (tag : ℕ → ℕ) (most : ℕ)
    (tagged : AreTagged kind seen tags tag most)
    (follows : AreSuccessors (λ n. mets_of_leg kind seen (tag n))) where
  -- ---- the leg of a tag

  abbrev mets : ℕ → List Met
  mets n = mets_of_leg kind seen (tag n)

  abbrev of : ℕ → List Leg
  of t = leg_of_tag kind seen t

  abbrev marked : ℕ → Bool
  marked t = is_marked (mets_in (pdu_pipe kind) (of_tag t seen))

  abbrev pdus : ℕ → List (List ℕ)
  pdus t = pdus_in (pdu_pipe kind) (of_tag t seen)

  abbrev leg : ℕ → First → Leg
  leg t begun = record {
    tag = t;
    predecessor = begun.predecessor;
    newest = newest (mets_of_leg kind seen t) begun;
    marked = marked t;
    pdus = pdus t;
  }

  one : (t : ℕ) (begun : First) → first_among (mets_of_leg kind seen t) ≡ Some begun
      → of t ≡ leg t begun ∷ []
  one t begun is =
      ap (leg_by t (renewed None (mets_of_leg kind seen t)) (marked t) (pdus t)) is

  none : (t : ℕ) → first_among (mets_of_leg kind seen t) ≡ None → of t ≡ []
  none t is = ap (leg_by t (renewed None (mets_of_leg kind seen t)) (marked t) (pdus t)) is

  -- ---- all legs

  abbrev all : List Leg
  all = legs kind seen tags

  pub record IsLegOf (x : Leg) : Type 0 where
    pub number : ℕ
    pub begun : First
    pub met : first_among (mets number) ≡ Some begun
    pub is : x ≡ leg (tag number) begun

  alone : (x y : Leg) → IsAmong x (y ∷ []) → x ≡ y
  alone x y (inl same) = same
  alone x y (inr h) = absurd h

  leg_is : (x : Leg) → IsAmong x all → IsLegOf x
  leg_is x here =
      let at = among.of_tag of tags x here in
      by at.tag at.is at.here (first_among (mets_of_leg kind seen at.tag)) refl
    where
      by : (t : ℕ) → IsTag t tags → IsAmong x (of t) → (o : Option First)
          → first_among (mets_of_leg kind seen t) ≡ o → IsLegOf x
      by t is at None e = absurd (subst (IsAmong x) (none t e) at)
      by t is at (Some begun) e =
          let number = tagged.numbered t begun is e in record {
            number = number.0;
            begun = begun;
            met = subst (λ (k : ℕ). first_among (mets_of_leg kind seen k) ≡ Some begun)
                (sym number.1) e;
            is = alone x (leg t begun) (subst (IsAmong x) (one t begun e) at)
                ∙ ap (λ (k : ℕ). leg k begun) (sym number.1);
          }

  leg_here : (n : ℕ) (begun : First) → first_among (mets n) ≡ Some begun
      → IsAmong (leg (tag n) begun) all
  leg_here n begun is =
      among.in_tags of tags (leg (tag n) begun) (tag n) (tagged.tagged n begun is).0
      (subst (IsAmong (leg (tag n) begun)) (sym (one (tag n) begun is)) (inl refl))

  -- the same leg has the same number
  same_number : (m n : ℕ) (a b : First) → first_among (mets m) ≡ Some a
      → first_among (mets n) ≡ Some b → leg (tag m) a ≡ leg (tag n) b → m ≡ n
  same_number m n a b is_a is_b same =
      follows.apart m n a b is_a is_b (ap (λ (x : Leg). x.newest) same)

  -- ---- legs in the order of their numbers

  abbrev from : ℕ → ℕ → List Leg
  from n more = in_order (λ k. of (tag k)) n more

  from_none : (n more : ℕ) → first_among (mets n) ≡ None → from n (suc more) ≡ from (suc n) more
  from_none n more is = ap (λ (x : List Leg). x ++ from (suc n) more) (none (tag n) is)

  from_one : (n more : ℕ) (begun : First) → first_among (mets n) ≡ Some begun
      → from n (suc more) ≡ leg (tag n) begun ∷ from (suc n) more
  from_one n more begun is = ap (λ (x : List Leg). x ++ from (suc n) more) (one (tag n) begun is)

  -- none of those behind is this one
  others : (n : ℕ) (begun : First) → first_among (mets n) ≡ Some begun → (k more : ℕ) → n < k
      → AllByRecursion (λ (later : Leg). later ≡ leg (tag n) begun → ⊥) (from k more)
  others n begun is k zero above = tt
  others n begun is k (suc more) above =
      by (first_among (mets k)) refl (others n begun is (suc k) more (omega (arith, above)))
    where
      P : List Leg → Type 0
      P line = AllByRecursion (λ (later : Leg). later ≡ leg (tag n) begun → ⊥) line

      differs : (b : First) → first_among (mets k) ≡ Some b
          → leg (tag k) b ≡ leg (tag n) begun → ⊥
      differs b e same =
          let number = same_number k n b begun e is same in absurd (omega (arith, above, number))

      by : (o : Option First) → first_among (mets k) ≡ o → P (from (suc k) more)
          → P (from k (suc more))
      by None e rest = subst P (sym (from_none k more e)) rest
      by (Some b) e rest = subst P (sym (from_one k more b e)) (differs b e, rest)

  -- ---- the next leg

  abbrev Next : ℕ → First → Cookie
  Next m begun = newest (mets m) begun

  -- what replaces leg m is behind it, and none is between
  pub record IsNextTo (m : ℕ) (x : Leg) : Type 0 where
    pub leg_of : IsLegOf x
    pub above : m < leg_of.number
    pub between : (k : ℕ) → m < k → k < leg_of.number → first_among (mets k) ≡ None

  predecessor_is : (n : ℕ) (begun : First) (x : Leg) → x ≡ leg (tag n) begun
      → x.predecessor ≡ begun.predecessor
  predecessor_is n begun x is = ap (λ (l : Leg). l.predecessor) is

  next_to : (m : ℕ) (begun : First) → first_among (mets m) ≡ Some begun → (x : Leg)
      → IsAmong x all → replaces (Next m begun) x ≡ true → IsNextTo m x
  next_to m begun is x here e =
      let at = leg_is x here in
      let named = sym (predecessor_is at.number at.begun x at.is)
      ∙ cookie_is (Next m begun) x.predecessor e in
      let before = follows.behind at.number at.begun (Next m begun) at.met named in
      let same : before.number ≡ m =
      follows.apart before.number m before.begun begun before.met is before.last in
      record {
        leg_of = at;
        above = subst (λ (k : ℕ). k < at.number) same before.below;
        between = λ k above below.
            before.none k (subst (λ (j : ℕ). j < k) (sym same) above) below;
      }

  -- the leg behind leg m is the only one that replaces it
  module _ (m : ℕ) (begun : First) (is : first_among (mets m) ≡ Some begun) (k : ℕ) (above : m < k)
      (between : (j : ℕ) → m < j → j < k → first_among (mets j) ≡ None) where
    not_between : (j : ℕ) (b : First) → first_among (mets j) ≡ Some b → m < j → k ≤ j
    not_between j b e past = by (order j k)
      where
        by : Order j k → k ≤ j
        by (Below less) = absurd (some_not_none (first_among (mets j)) b e (between j past less))
        by (Same same) = omega (arith, same)
        by (Above more) = omega (arith, more)

    replaced : (b : First) → first_among (mets k) ≡ Some b
        → b.predecessor ≡ Some (Next m begun)
    replaced b e = by b.predecessor refl
      where
        by : (o : Option Cookie) → b.predecessor ≡ o → b.predecessor ≡ Some (Next m begun)
        by None p =
            absurd (some_not_none (first_among (mets m)) begun is (follows.first k b e p m above))
        by (Some cookie) p =
            at (order before.number m)
          where
            before : Precedes mets k cookie
            before = follows.behind k b cookie e p

            at : Order before.number m → b.predecessor ≡ Some (Next m begun)
            at (Below less) =
                absurd (some_not_none (first_among (mets m)) begun is (before.none m less above))
            at (Above past) =
                absurd (some_not_none (first_among (mets before.number)) before.begun before.met
                (between before.number past before.below))
            at (Same same) =
                let P : ℕ → Type 0 = λ n. first_among (mets n) ≡ Some before.begun in
                let first = same_first before.begun begun (first_among (mets m))
                (subst P same before.met) is in
                p ∙ ap (λ (c : Cookie). Some c) (sym before.last
                ∙ ap (λ (n : ℕ). newest (mets n) before.begun) same
                ∙ ap (λ (f : First). newest (mets m) f) first)

    only_next : (b : First) → first_among (mets k) ≡ Some b → (x : Leg) → IsAmong x all
        → replaces (Next m begun) x ≡ true → x ≡ leg (tag k) b
    only_next b e x here test = by (order k next.leg_of.number)
      where
        next : IsNextTo m x
        next = next_to m begun is x here test

        by : Order k next.leg_of.number → x ≡ leg (tag k) b
        by (Below less) =
            absurd (some_not_none (first_among (mets k)) b e (next.between k above less))
        by (Above past) =
            let least = not_between next.leg_of.number next.leg_of.begun next.leg_of.met next.above
            in absurd (omega (arith, past, least))
        by (Same same) =
            let P : ℕ → Type 0 = λ n. first_among (mets n) ≡ Some next.leg_of.begun in
            let first = same_first next.leg_of.begun b (first_among (mets k))
            (subst P (sym same) next.leg_of.met) e in
            next.leg_of.is ∙ ap (λ (n : ℕ). leg (tag n) next.leg_of.begun) (sym same)
            ∙ ap (λ (f : First). leg (tag k) f) first

  -- ---- the line

  further : (m k : ℕ) → ((j : ℕ) → m < j → j < k → first_among (mets j) ≡ None)
      → first_among (mets k) ≡ None → (j : ℕ) → m < j → j < suc k → first_among (mets j) ≡ None
  further m k between at j above below = by (order j k)
    where
      by : Order j k → first_among (mets j) ≡ None
      by (Below less) = between j above less
      by (Same same) = subst (λ (n : ℕ). first_among (mets n) ≡ None) (sym same) at
      by (Above past) = absurd (omega (arith, below, past))

  linked : (m : ℕ) (begun : First) → first_among (mets m) ≡ Some begun → (k more : ℕ) → m < k
      → ((j : ℕ) → m < j → j < k → first_among (mets j) ≡ None) → k + more ≡ suc most
      → IsLinked all (Next m begun) (from k more)
  linked m begun is k zero above between last = λ x here test.
      let next = next_to m begun is x here test in
      let least = not_between m begun is k above between next.leg_of.number next.leg_of.begun
      next.leg_of.met next.above in
      let greatest = (tagged.tagged next.leg_of.number next.leg_of.begun next.leg_of.met).1 in
      absurd (omega (arith, last, least, greatest))
  linked m begun is k (suc more) above between last =
      by (first_among (mets k)) refl
      (λ e.
      linked m begun is (suc k) more (omega (arith, above)) (further m k between e)
      (omega (arith, last)))
      (λ b e.
      linked k b e (suc k) more (omega arith) (λ j past below. absurd (omega (arith, past, below)))
      (omega (arith, last)))
    where
      by : (o : Option First) → first_among (mets k) ≡ o
          → (first_among (mets k) ≡ None → IsLinked all (Next m begun) (from (suc k) more))
          → ((b : First) → first_among (mets k) ≡ Some b
          → IsLinked all (Next k b) (from (suc k) more))
          → IsLinked all (Next m begun) (from k (suc more))
      by None e on after =
          subst (IsLinked all (Next m begun)) (sym (from_none k more e)) (on e)
      by (Some b) e on after =
          subst (IsLinked all (Next m begun)) (sym (from_one k more b e)) (
            record {
              passed = is_the_cookie (Next m begun) b.predecessor
                  (replaced m begun is k above between b e);
              here = leg_here k b e;
              only = only_next m begun is k above between b e;
              apart = others k b e (suc k) more (omega arith);
            },
            after b e,
          )

  -- ---- its first leg

  module _ (k : ℕ) (below : (j : ℕ) → j < k → first_among (mets j) ≡ None) where
    not_below : (j : ℕ) (b : First) → first_among (mets j) ≡ Some b → k ≤ j
    not_below j b e = by (order j k)
      where
        by : Order j k → k ≤ j
        by (Below less) = absurd (some_not_none (first_among (mets j)) b e (below j less))
        by (Same same) = omega (arith, same)
        by (Above more) = omega (arith, more)

    connected : (b : First) → first_among (mets k) ≡ Some b → b.predecessor ≡ None
    connected b e = by b.predecessor refl
      where
        by : (o : Option Cookie) → b.predecessor ≡ o → b.predecessor ≡ None
        by None p = p
        by (Some cookie) p =
            let before = follows.behind k b cookie e p in
            absurd (some_not_none (first_among (mets before.number)) before.begun before.met
            (below before.number before.below))

    only_first : (b : First) → first_among (mets k) ≡ Some b → (x : Leg) → IsAmong x all
        → connects x ≡ true → x ≡ leg (tag k) b
    only_first b e x here test =
        let at = leg_is x here in
        let none = sym (predecessor_is at.number at.begun x at.is) ∙ no_cookie x.predecessor test in
        by at none (order k at.number)
      where
        by : (at : IsLegOf x) → at.begun.predecessor ≡ None → Order k at.number
            → x ≡ leg (tag k) b
        by at none (Below less) =
            absurd (some_not_none (first_among (mets k)) b e
            (follows.first at.number at.begun at.met none k less))
        by at none (Above past) =
            let least = not_below at.number at.begun at.met in absurd (omega (arith, past, least))
        by at none (Same same) =
            let P : ℕ → Type 0 = λ n. first_among (mets n) ≡ Some at.begun in
            let first = same_first at.begun b (first_among (mets k)) (subst P (sym same) at.met) e in
            at.is ∙ ap (λ (n : ℕ). leg (tag n) at.begun) (sym same)
            ∙ ap (λ (f : First). leg (tag k) f) first

  still : (k : ℕ) → ((j : ℕ) → j < k → first_among (mets j) ≡ None)
      → first_among (mets k) ≡ None → (j : ℕ) → j < suc k → first_among (mets j) ≡ None
  still k below e j less = by (order j k)
    where
      by : Order j k → first_among (mets j) ≡ None
      by (Below under) = below j under
      by (Same same) = subst (λ (n : ℕ). first_among (mets n) ≡ None) (sym same) e
      by (Above past) = absurd (omega (arith, less, past))

  lined : (k more : ℕ) → ((j : ℕ) → j < k → first_among (mets j) ≡ None) → k + more ≡ suc most
      → IsLine all (from k more)
  lined k zero below last = λ x here test.
      let at = leg_is x here in
      let least = not_below k below at.number at.begun at.met in
      let greatest = (tagged.tagged at.number at.begun at.met).1 in
      absurd (omega (arith, last, least, greatest))
  lined k (suc more) below last =
      by (first_among (mets k)) refl
      (λ e. lined (suc k) more (still k below e) (omega (arith, last)))
    where
      by : (o : Option First) → first_among (mets k) ≡ o
          → (first_among (mets k) ≡ None → IsLine all (from (suc k) more))
          → IsLine all (from k (suc more))
      by None e on = subst (IsLine all) (sym (from_none k more e)) (on e)
      by (Some b) e on =
          subst (IsLine all) (sym (from_one k more b e)) (
            record {
              passed = ap is_connected (connected k below b e);
              here = leg_here k b e;
              only = only_first k below b e;
              apart = others k b e (suc k) more (omega arith);
            },
            linked k b e (suc k) more (omega arith)
                (λ j past less. absurd (omega (arith, past, less))) (omega (arith, last)),
          )

  chain_lined : chain all ≡ from 0 (suc most)
  chain_lined =
      chain_is all (from 0 (suc most))
      (lined 0 (suc most) (λ j less. absurd (omega (arith, less))) (omega arith))

  -- ---- no tag is left

  among_order : (n : ℕ) (x : Leg) → IsAmong x (of (tag n)) → (k more : ℕ) → k ≤ n → n < k + more
      → IsAmong x (from k more)
  among_order n x here k zero least below = absurd (omega (arith, least, below))
  among_order n x here k (suc more) least below =
      by (order k n)
      (λ less. among_order n x here (suc k) more (omega (arith, less)) (omega (arith, below)))
    where
      by : Order k n → (k < n → IsAmong x (from (suc k) more)) → IsAmong x (from k (suc more))
      by (Below less) rest = among.among_later x (of (tag k)) (from (suc k) more) (rest less)
      by (Same same) rest =
          among.among_front x (of (tag k)) (from (suc k) more)
          (subst (λ (j : ℕ). IsAmong x (of (tag j))) (sym same) here)
      by (Above past) rest = absurd (omega (arith, least, past))

  stands : (n : ℕ) (begun : First) → first_among (mets n) ≡ Some begun
      → has (tag n) (chain all) ≡ true
  stands n begun is =
      let most_is = (tagged.tagged n begun is).1 in
      ap (has (tag n)) chain_lined
      ∙ among.has_among (leg (tag n) begun) (from 0 (suc most))
      (among_order n (leg (tag n) begun)
      (subst (IsAmong (leg (tag n) begun)) (sym (one (tag n) begun is)) (inl refl)) 0 (suc most)
      (omega arith) (omega (arith, most_is)))

  none_left : (t : ℕ) → IsTag t tags → is_left seen tags t kind ≡ false
  none_left t is = by (first_among (mets_of_leg kind seen t)) refl
    where
      no_more : (b : Bool) → (b && false) ≡ false
      no_more true = refl
      no_more false = refl

      by : (o : Option First) → first_among (mets_of_leg kind seen t) ≡ o
          → (not (is_empty (of t)) && not (has t (chain all))) ≡ false
      by None e =
          ap (λ (x : List Leg). not (is_empty x) && not (has t (chain all))) (none t e)
      by (Some begun) e =
          let number = tagged.numbered t begun is e in
          let here = stands number.0 begun
          (subst (λ (k : ℕ). first_among (mets_of_leg kind seen k) ≡ Some begun) (sym number.1) e)
          in
          ap (λ (b : Bool). not (is_empty (of t)) && not b)
          (subst (λ (k : ℕ). has k (chain all) ≡ true) number.1 here)
          ∙ no_more (not (is_empty (of t)))

  pub chained : IsChained kind seen tags tag most
  chained = record { chain_is = chain_lined; none_left = none_left }

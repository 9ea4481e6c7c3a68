-- the tags of legs whose first packet is in a capture
use Rattle.law_order.proofs.Vocabulary.{◌≡◌, ◌⊎◌, ◌+◌, ◌≤◌, ◌==◌, ◌||◌, ◌++◌, ℕ, Bool, true, false, List, [], ◌∷◌, refl, sym, ap, ◌∙◌, subst, inl, inr, cond, if◌then◌else◌, Some, None, arith, nat_tests, list_any, and_parts, AllByRecursion}
use Rattle.rh_text.specs.declared.ends.Dir.{Dir}
use Rattle.rh_text.specs.declared.ends.Dir.TheVariants.{U, D}
use Rattle.rh_sig.specs.declared.name.Pipe.{Pipe}
use Rattle.rh_sig.specs.declared.name.Pipe.TheVariants.{CiU, IsU, CoU, CoD, OsU, OsD}
use Rattle.rh_line.specs.declared.leg.Leg.{Leg}
use Rattle.rh_line.specs.declared.leg.LegKind.{LegKind}
use Rattle.rh_line.specs.declared.leg.LegKind.TheVariants.{ClientOut, OutServer, ClientIn, InServer}
use Rattle.rh_nodes.specs.Settling.{leg_at}
use Rattle.rh_audit.specs.declared.packet.First.{First}
use Rattle.rh_audit.specs.declared.seen.Seen.{Seen}
use Rattle.rh_audit.specs.Audits.{AreTags}
use Rattle.rh_audit.specs.Captures.{carried, has_tag, of_tag, same_pipe}
use Rattle.rh_audit.specs.Links.{same_kind}
use Rattle.rh_audit.specs.Pipes.{first_pipe}
use Rattle.rh_audit.specs.Streams.{Stream, first_among, mets, stream, stream_is}
use Rattle.rh_capture.specs.Legs.{same_leg, tag_of}
use Rattle.rh_capture.specs.Moves.{pipe_of}
use Rattle.law_audit.specs.Chains.Successors.{AreTagged, mets_of_leg}
use Rattle.law_world_audited.specs.Moving.Tagged.{IsLineOf, is_met}
use Rattle.law_world_audited.specs.LegsInChains.Chained.{IsMost}

-- ---- a line of a tag

-- some line has the tag, and is so
pub record HasLine (P : Seen → Type 0) (tag : ℕ) (pipe : Pipe) (seen : List Seen) : Type 0 where
  pub line : Seen
  pub is : P line
  pub tagged : line.tag ≡ tag
  pub piped : same_pipe line.pipe pipe ≡ true
  pub some : list_any (has_tag tag) seen ≡ true

or_more : (a b : Bool) → b ≡ true → (a || b) ≡ true
or_more true b e = refl
or_more false b e = e

tag_is : (a b : ℕ) → (a == b) ≡ true → a ≡ b
tag_is a b e = grind (arith, nat_tests, e)

module _ (P : Seen → Type 0) (tag : ℕ) (pipe : Pipe) where
  line_later : (line : Seen) (seen : List Seen) → HasLine P tag pipe seen
      → HasLine P tag pipe (line ∷ seen)
  line_later line seen h = record {
    line = h.line;
    is = h.is;
    tagged = h.tagged;
    piped = h.piped;
    some = or_more (has_tag tag line) (list_any (has_tag tag) seen) h.some;
  }

  -- where there is none, the tag's lines carry nothing on the pipe
  find_line : (seen : List Seen) → AllByRecursion P seen
      → HasLine P tag pipe seen ⊎ (carried pipe (of_tag tag seen) ≡ [])
  find_line [] all = inr refl
  find_line (line ∷ seen) all =
      by (has_tag tag line) refl (same_pipe line.pipe pipe) refl (find_line seen all.1)
    where
      lines : List Seen
      lines = of_tag tag seen

      rest : HasLine P tag pipe seen ⊎ (carried pipe (of_tag tag seen) ≡ [])
          → (carried pipe (of_tag tag seen) ≡ [] → carried pipe (of_tag tag (line ∷ seen)) ≡ [])
          → HasLine P tag pipe (line ∷ seen) ⊎ (carried pipe (of_tag tag (line ∷ seen)) ≡ [])
      rest (inl h) on = inl (line_later line seen h)
      rest (inr none) on = inr (on none)

      by : (t : Bool) → has_tag tag line ≡ t → (p : Bool) → same_pipe line.pipe pipe ≡ p
          → HasLine P tag pipe seen ⊎ (carried pipe (of_tag tag seen) ≡ [])
          → HasLine P tag pipe (line ∷ seen) ⊎ (carried pipe (of_tag tag (line ∷ seen)) ≡ [])
      by false e p f more =
          rest more (λ none.
          ap (λ (t : Bool). carried pipe (cond t (line ∷ of_tag tag seen) (of_tag tag seen))) e
          ∙ none)
      by true e false f more =
          rest more (λ none.
          ap (λ (t : Bool). carried pipe (cond t (line ∷ of_tag tag seen) (of_tag tag seen))) e
          ∙ ap (λ (b : Bool). if b then line.bytes ++ carried pipe (of_tag tag seen)
          else carried pipe (of_tag tag seen)) f
          ∙ none)
      by true e true f more =
          inl (record {
            line = line;
            is = all.0;
            tagged = tag_is line.tag tag e;
            piped = f;
            some = ap (λ (b : Bool). b || list_any (has_tag tag) seen) e;
          })

-- ---- pipes and legs

-- a leg that has the first pipe of a kind is of the kind
kind_is : (kind : LegKind) (leg : Leg) (dir : Dir) (pipe : Pipe)
    → pipe_of leg.kind dir ≡ Some pipe → same_pipe pipe (first_pipe kind) ≡ true
    → leg ≡ leg_at kind leg.number
kind_is kind leg dir pipe of same = by leg.kind refl dir of
  where
    IsSame : LegKind → Type 0
    IsSame own = own ≡ kind

    test : (own : LegKind) → (q : Pipe) → Some q ≡ Some pipe
        → same_pipe q (first_pipe kind) ≡ true
    test own q e = subst (λ (x : Pipe). same_pipe x (first_pipe kind) ≡ true)
        (let p : pipe ≡ q = cc in p) same

    named : (own : LegKind) → leg.kind ≡ own → own ≡ kind → leg ≡ leg_at kind leg.number
    named own e f = ap (λ (k : LegKind). record { kind = k; number = leg.number }) (e ∙ f)

    by : (own : LegKind) → leg.kind ≡ own → (d : Dir) → pipe_of own d ≡ Some pipe
        → leg ≡ leg_at kind leg.number
    by ClientIn e U f = named ClientIn e (ci kind (test ClientIn CiU f))
      where
        ci : (k : LegKind) → same_pipe CiU (first_pipe k) ≡ true → ClientIn ≡ k
        ci ClientIn h = refl
        ci InServer h = absurd (let both = h in cc)
        ci ClientOut h = absurd (let both = h in cc)
        ci OutServer h = absurd (let both = h in cc)
    by ClientIn e D f = absurd (let both = f in cc)
    by InServer e U f = named InServer e (is kind (test InServer IsU f))
      where
        is : (k : LegKind) → same_pipe IsU (first_pipe k) ≡ true → InServer ≡ k
        is ClientIn h = absurd (let both = h in cc)
        is InServer h = refl
        is ClientOut h = absurd (let both = h in cc)
        is OutServer h = absurd (let both = h in cc)
    by InServer e D f = absurd (let both = f in cc)
    by ClientOut e U f = named ClientOut e (co kind (test ClientOut CoU f))
      where
        co : (k : LegKind) → same_pipe CoU (first_pipe k) ≡ true → ClientOut ≡ k
        co ClientIn h = absurd (let both = h in cc)
        co InServer h = absurd (let both = h in cc)
        co ClientOut h = refl
        co OutServer h = absurd (let both = h in cc)
    by ClientOut e D f = absurd (none kind (test ClientOut CoD f))
      where
        none : (k : LegKind) → same_pipe CoD (first_pipe k) ≡ true → ⊥
        none ClientIn h = let both = h in cc
        none InServer h = let both = h in cc
        none ClientOut h = let both = h in cc
        none OutServer h = let both = h in cc
    by OutServer e U f = named OutServer e (os kind (test OutServer OsU f))
      where
        os : (k : LegKind) → same_pipe OsU (first_pipe k) ≡ true → OutServer ≡ k
        os ClientIn h = absurd (let both = h in cc)
        os InServer h = absurd (let both = h in cc)
        os ClientOut h = absurd (let both = h in cc)
        os OutServer h = refl
    by OutServer e D f = absurd (none kind (test OutServer OsD f))
      where
        none : (k : LegKind) → same_pipe OsD (first_pipe k) ≡ true → ⊥
        none ClientIn h = let both = h in cc
        none InServer h = let both = h in cc
        none ClientOut h = let both = h in cc
        none OutServer h = let both = h in cc

-- a leg that was met has no greater number
met_most : (most : ℕ) (legs : List Leg) (leg : Leg) → IsMost most legs
    → is_met legs leg ≡ true → leg.number ≤ most
met_most most [] leg all met = absurd (let both = met in cc)
met_most most (one ∷ legs) leg all met =
    by (same_leg one leg) refl met (met_most most legs leg all.1)
  where
    least : one.number ≤ most
    least = all.0

    by : (t : Bool) → same_leg one leg ≡ t → (t || is_met legs leg) ≡ true
        → (is_met legs leg ≡ true → leg.number ≤ most) → leg.number ≤ most
    by true e f rest =
        let number = tag_is one.number leg.number
        (and_parts (same_kind one.kind leg.kind) (one.number == leg.number) e).1 in
        omega (arith, number, least)
    by false e f rest = rest f

-- there is a number above those of all legs
abbrev pub sum_of : List Leg → ℕ
sum_of [] = 0
sum_of (leg ∷ legs) = leg.number + sum_of legs

wider : (a b : ℕ) (legs : List Leg) → a ≤ b → IsMost a legs → IsMost b legs
wider a b [] le all = tt
wider a b (leg ∷ legs) le all =
    let first = all.0 in (omega (arith, first, le), wider a b legs le all.1)

pub sum_most : (legs : List Leg) → IsMost (sum_of legs) legs
sum_most [] = tt
sum_most (leg ∷ legs) = (
  omega arith,
  wider (sum_of legs) (leg.number + sum_of legs) legs (omega arith) (sum_most legs),
)

-- ---- tags

module _ (kind : LegKind) (seen : List Seen) (tags : List ℕ) (legs : List Leg) (most : ℕ)
    (are : AreTags seen tags) (is_most : IsMost most legs)
    (lines : AllByRecursion (IsLineOf legs) seen)
    (own : (legs : List Leg) (leg other : Leg) → is_met legs leg ≡ true
    → tag_of legs leg ≡ tag_of legs other → leg ≡ other)
    (empty : stream (first_pipe kind) [] ≡ stream_is [] None) where
  abbrev tag : ℕ → ℕ
  tag n = tag_of legs (leg_at kind n)

  -- where the first packet was met, a line has the tag
  met_line : (t : ℕ) (begun : First) → first_among (mets_of_leg kind seen t) ≡ Some begun
      → HasLine (IsLineOf legs) t (first_pipe kind) seen
  met_line t begun met = by (find_line (IsLineOf legs) t (first_pipe kind) seen lines)
    where
      by : HasLine (IsLineOf legs) t (first_pipe kind) seen
          ⊎ (carried (first_pipe kind) (of_tag t seen) ≡ [])
          → HasLine (IsLineOf legs) t (first_pipe kind) seen
      by (inl line) = line
      by (inr none) =
          let nothing : mets_of_leg kind seen t ≡ [] =
          ap (λ (bytes : List ℕ). mets (first_pipe kind) (stream (first_pipe kind) bytes)) none
          ∙ ap (λ (s : Stream). mets (first_pipe kind) s) empty in
          absurd (let both = sym met ∙ ap first_among nothing in cc)

  -- and it is that of a leg of the kind
  pub record IsOfLeg (t : ℕ) : Type 0 where
    pub number : ℕ
    pub met : is_met legs (leg_at kind number) ≡ true
    pub is : tag number ≡ t
    pub some : list_any (has_tag t) seen ≡ true

  of_leg : (t : ℕ) (begun : First) → first_among (mets_of_leg kind seen t) ≡ Some begun
      → IsOfLeg t
  of_leg t begun met =
      let found = met_line t begun met in
      let line = found.is in
      let same = kind_is kind line.leg line.dir found.line.pipe line.pipe found.piped in record {
        number = line.leg.number;
        met = subst (λ (leg : Leg). is_met legs leg ≡ true) same line.met;
        is = sym (ap (tag_of legs) same) ∙ sym line.tag ∙ found.tagged;
        some = found.some;
      }

  pub are_tagged : AreTagged kind seen tags tag most
  are_tagged = record {
    tagged = λ n begun met.
        let leg = of_leg (tag n) begun met in
        let same = own legs (leg_at kind leg.number) (leg_at kind n) leg.met leg.is in (
          are.all (tag n) ∙ leg.some,
          met_most most legs (leg_at kind n) is_most
              (subst (λ (x : Leg). is_met legs x ≡ true) same leg.met),
        );
    numbered = λ t begun is met. let leg = of_leg t begun met in (leg.number, leg.is);
  }

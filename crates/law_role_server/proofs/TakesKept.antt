-- what a server keeps of the law of an end that takes, while its IN channels are replaced
use Rattle.law_order.proofs.Vocabulary.{◌≡◌, ◌≢◌, ℕ, suc, ◌<◌, ◌≤◌, ◌||◌, cond, nat_lt, List, [], Bool, true, false, not, Some, None, arith, refl, sym, ap, ◌∙◌, subst, count_by, Option, nat_tests, Log, Shelf, blank, TakerLaw}
use Rattle.rh_sig.specs.declared.named.Named.TheVariants as named
use Rattle.rh_server.specs.declared.out_line.Kind.TheVariants as kind
use Rattle.rh_server.specs.declared.state.Stage.TheVariants as stage
use Rattle.rh_server.specs.declared.state.Tells.TheVariants as tells
use Rattle.law_moves.proofs.Vocabulary.{by_test, Waiting, added}
use Rattle.law_role_server.proofs.Vocabulary.{none_found, Stage, InStage, Fresh, Waits, Opened, InLeg, is_own, waits, Server, is_waiting, is_fresh, set_at, in_place, opens_next, opens_leg, first_waiting, next_opened, shelf}
use Rattle.law_role_server.proofs.InSpots.{Spot, spot, spots, spot_by, at, put_at, first_spot, set_spot, IsSorted, sorted_put, in_range, waits_at, fresh_at, IsFirst, none_waits, first_waits, at_put}
use Rattle.law_role_server.specs.Order.{waits_ended}

-- ---- what the law reads

-- CONN/B2 came
abbrev pub has_begun : Stage → Bool
has_begun stage.Waits = false
has_begun (stage.OutCame connection) = false
has_begun (stage.InCame connection window timeout) = true
has_begun (stage.Open connection) = true
has_begun stage.Ended = true

pub record Read : Type 0 where
  pub now : Shelf
  pub was_ended : Bool
  pub has_next : Bool
  pub next : Shelf
  -- the leg of the current channel, and of the next one
  pub leg : ℕ
  pub next_leg : ℕ
  pub newest : ℕ
  pub begun : Bool
  pub legs : List Spot

abbrev pub reads : Server → Read
reads s = record {
  now = shelf s.line.current s.line.finished;
  was_ended = s.line.was_ended;
  has_next = s.line.has_next;
  next = shelf s.line.next false;
  leg = s.current.leg;
  next_leg = s.next.leg;
  newest = s.newest_in;
  begun = has_begun s.stage;
  legs = spots s.ins;
}

-- how many IN_R1/A3 wait
abbrev pub due_a3 : Waiting → ℕ
due_a3 w = count_by (is_own kind.InR1A3) w.due

abbrev pub ended_at : Option Spot → Bool
ended_at None = false
ended_at (Some x) = waits_ended x.stage

abbrev pub leaves_at : Option Spot → Bool
leaves_at None = false
leaves_at (Some x) = not x.stays

abbrev pub is_coming : Option Spot → Bool
is_coming x = waits_at x || fresh_at x

-- the law, where this channel follows with what came there
abbrev pub LawAt : List (List ℕ) → Read → ℕ → Shelf → (ℕ → Bool) → (ℕ → Bool) → Log → Type 0
LawAt out d following next later legs came = TakerLaw
    (record {
      taken = out;
      shelves = record {
        current = d.leg;
        now = d.now;
        was_ended = d.was_ended;
        following = following;
        next = next;
        later = later;
      };
    })
    legs came

-- ---- what is kept of the legs

-- the leg of the newest open channel, and the number that follows the current one
abbrev pub top : Bool → ℕ → ℕ → ℕ
top has_next leg next_leg = cond has_next next_leg leg

abbrev pub next_number : Bool → ℕ → ℕ → ℕ
next_number has_next leg next_leg = cond has_next next_leg (suc leg)

-- of the legs behind the open channels: top is the newest of these
pub record AreBehind (top newest : ℕ) (begun : Bool) (xs : List Spot) (legs : ℕ → Bool) : Type 0
  where
    pub sorted : IsSorted 0 newest xs
    -- each is kept
    pub present : (n : ℕ) → top < n → n ≤ newest → legs n ≡ true → is_coming (at n xs) ≡ true
    pub waiting : (n : ℕ) → waits_at (at n xs) ≡ true → top < n
    pub fresh : begun ≡ true → (n : ℕ) → fresh_at (at n xs) ≡ true → top < n
    pub order : (n k : ℕ) → waits_at (at n xs) ≡ true → fresh_at (at k xs) ≡ true → n < k

-- and beside them
pub record Kept (finished has_next : Bool) (next : Shelf) (leg next_leg newest : ℕ) (begun : Bool)
    (xs : List Spot) : Type 0 where
  pub waiting : (n : ℕ) → waits_at (at n xs) ≡ true → has_next ≡ true
  pub between : has_next ≡ true → (leg < next_leg) × (next_leg ≤ newest)
  pub nothing : has_next ≡ false → next ≡ blank
  pub followed : finished ≡ true → has_next ≡ true
  pub opening : begun ≡ false → (leg ≡ 1) × (has_next ≡ false)
  pub reached : begun ≡ true → leg ≤ newest
  pub leaving : (n : ℕ) → leaves_at (at n xs) ≡ true → n ≤ leg

abbrev pub BehindBy : Read → (ℕ → Bool) → Type 0
BehindBy d legs = AreBehind (top d.has_next d.leg d.next_leg) d.newest d.begun d.legs legs

abbrev pub KeptBy : Read → Type 0
KeptBy d = Kept d.now.finished d.has_next d.next d.leg d.next_leg d.newest d.begun d.legs

abbrev pub LawBy : List (List ℕ) → Read → (ℕ → Bool) → (ℕ → Bool) → Log → Type 0
LawBy out d later legs came =
    LawAt out d (next_number d.has_next d.leg d.next_leg) d.next later legs came

-- up n: leg n came up
pub record Took (out : List (List ℕ)) (up : ℕ → Bool) (came : Log) (d : Read) (w : Waiting)
    : Type 0 where
  pub later : ℕ → Bool
  pub known : ℕ → Bool
  pub law : LawBy out d later known came
  pub behind : BehindBy d known
  pub kept : KeptBy d
  pub ended : (n : ℕ) → next_number d.has_next d.leg d.next_leg < n
      → ended_at (at n d.legs) ≡ later n
  pub all : (n : ℕ) → nat_lt d.newest n || up n ≡ true → known n ≡ true
  pub low : (n : ℕ) → up n ≡ true → n ≤ d.newest
  pub idle : d.has_next ≡ false → due_a3 w ≡ 0
  pub told : d.now.finished ≡ true → due_a3 w ≡ 0

-- ---- tests

pub differ : (b : Bool) → b ≡ true → b ≡ false → ⊥
differ true a b = absurd (cc)
differ false a b = absurd (cc)

pub falsely : (b : Bool) → (b ≡ true → ⊥) → b ≡ false
falsely true none = absurd (none refl)
falsely false none = refl

-- one that waits is not fresh
pub not_both : (x : Option Spot) → waits_at x ≡ true → fresh_at x ≡ false
not_both None w = refl
not_both (Some x) w = by x.stage w
  where
    by : (stage : InStage) → is_waiting stage ≡ true → is_fresh stage ≡ false
    by Fresh w = absurd (cc)
    by (Waits window timeout ended) w = refl
    by Opened w = refl

pub coming_of : (w f : Bool) → w ≡ false → f ≡ false → w || f ≡ true → ⊥
coming_of true f a b e = absurd (cc)
coming_of false true a b e = absurd (cc)
coming_of false false a b e = absurd (cc)

-- ---- the first channel that waits is opened

abbrev opened_spot : Spot → Spot
opened_spot x = record { number = x.number; stage = Opened; stays = x.stays }

abbrev opened_read : Read → Spot → Read
opened_read d x = record d {
  has_next = true;
  next = record { held = []; ended = waits_ended x.stage; finished = false };
  next_leg = x.number;
  legs = put_at (opened_spot x) d.legs;
}

-- a server that has no next channel, while legs may wait
pub record Ready (out : List (List ℕ)) (up : ℕ → Bool) (came : Log) (d : Read) (w : Waiting)
    : Type 0 where
  pub later : ℕ → Bool
  pub known : ℕ → Bool
  pub behind : AreBehind d.leg d.newest d.begun d.legs known
  pub alone : d.has_next ≡ false
  pub nothing : d.next ≡ blank
  pub reached : d.leg ≤ d.newest
  pub unfinished : d.now.finished ≡ false
  pub begun : d.begun ≡ true
  pub leaving : (n : ℕ) → leaves_at (at n d.legs) ≡ true → n ≤ d.leg
  pub ended : (n : ℕ) → suc d.leg < n → ended_at (at n d.legs) ≡ later n
  pub all : (n : ℕ) → nat_lt d.newest n || up n ≡ true → known n ≡ true
  pub low : (n : ℕ) → up n ≡ true → n ≤ d.newest
  pub none : due_a3 w ≡ 0
  -- the law, where none waits, and where this one is the first
  pub still : ((n : ℕ) → waits_at (at n d.legs) ≡ false)
      → LawAt out d (suc d.leg) blank later known came
  pub opened : (x : Spot) → IsFirst d.legs x → LawAt out d x.number
      (record { held = []; ended = waits_ended x.stage; finished = false }) later known came

stays_so : (out : List (List ℕ)) (up : ℕ → Bool) (came : Log) (d : Read) (w : Waiting)
    → Ready out up came d w → ((n : ℕ) → waits_at (at n d.legs) ≡ false) → Took out up came d w
stays_so out up came d w r none = record {
  later = r.later;
  known = r.known;
  law = subst (λ n. LawAt out d (next_number n d.leg d.next_leg) d.next r.later r.known came)
      (sym r.alone)
      (subst (λ x. LawAt out d (suc d.leg) x r.later r.known came) (sym r.nothing) (r.still none));
  behind = subst (λ n. AreBehind (top n d.leg d.next_leg) d.newest d.begun d.legs r.known)
      (sym r.alone) r.behind;
  kept = record {
    waiting = λ n e. absurd (differ (waits_at (at n d.legs)) e (none n));
    between = λ e. absurd (differ d.has_next e r.alone);
    nothing = λ e. r.nothing;
    followed = λ e. absurd (differ d.now.finished e r.unfinished);
    opening = λ e. absurd (differ d.begun r.begun e);
    reached = λ e. r.reached;
    leaving = r.leaving;
  };
  ended = subst (λ b. (n : ℕ) → next_number b d.leg d.next_leg < n
      → ended_at (at n d.legs) ≡ r.later n) (sym r.alone) r.ended;
  all = r.all;
  low = r.low;
  idle = λ e. r.none;
  told = λ e. r.none;
}

opens_first : (out : List (List ℕ)) (up : ℕ → Bool) (came : Log) (d : Read) (w v : Waiting)
    → Ready out up came d w → (x : Spot) → IsFirst d.legs x
    → Took out up came (opened_read d x) v
opens_first out up came d w v r x f =
    let y = opened_spot x in
    let waits_x : waits_at (at x.number d.legs) ≡ true = ap waits_at f.there ∙ f.waits in
    let beyond = r.behind.waiting x.number waits_x in
    record {
      later = r.later;
      known = r.known;
      law = r.opened x f;
      behind = record {
        sorted = sorted_put 0 d.newest y d.legs r.behind.sorted;
        present = at_put y x d.legs f.there (λ n o. x.number < n → n ≤ d.newest
            → r.known n ≡ true → is_coming o ≡ true)
            (λ a b k. absurd (omega (arith, a)))
            (λ n o a b k. r.behind.present n (omega (arith, beyond, a)) b k);
        waiting = at_put y x d.legs f.there (λ n o. waits_at o ≡ true → x.number < n)
            (λ e. absurd (cc))
            (λ n o e. above n o (falsely (nat_lt n x.number) (λ l.
            differ (waits_at (at n d.legs)) e (f.below n (grind (arith, nat_tests))))));
        fresh = λ b. at_put y x d.legs f.there (λ n o. fresh_at o ≡ true → x.number < n)
            (λ e. absurd (cc))
            (λ n o e. r.behind.order x.number n waits_x e);
        order = λ n k. at_put y x d.legs f.there
            (λ n o. waits_at o ≡ true → fresh_at (at k (put_at y d.legs)) ≡ true → n < k)
            (λ a b. absurd (cc))
            (λ n o a. at_put y x d.legs f.there (λ k p. fresh_at p ≡ true → n < k)
            (λ b. absurd (cc)) (λ k p b. r.behind.order n k a b) k) n;
      };
      kept = record {
        waiting = λ n e. refl;
        between = λ e. (beyond, (in_range 0 d.newest x.number x d.legs r.behind.sorted f.there).1);
        nothing = λ e. absurd (cc);
        followed = λ e. absurd (differ d.now.finished e r.unfinished);
        opening = λ e. absurd (differ d.begun r.begun e);
        reached = λ e. r.reached;
        leaving = at_put y x d.legs f.there (λ n o. leaves_at o ≡ true → n ≤ d.leg)
            (λ e. r.leaving x.number (ap leaves_at f.there ∙ e))
            (λ n o e. r.leaving n e);
      };
      ended = at_put y x d.legs f.there (λ n o. x.number < n → ended_at o ≡ r.later n)
          (λ a. absurd (omega (arith, a)))
          (λ n o a. r.ended n (omega (arith, beyond, a)));
      all = r.all;
      low = r.low;
      idle = λ e. absurd (cc);
      told = λ e. absurd (differ d.now.finished e r.unfinished);
    }
  where
    above : (n : ℕ) → n ≢ x.number → nat_lt n x.number ≡ false → x.number < n
    above n o e = grind (arith, nat_tests)

abbrev read_by : Server → InLeg → Bool → List Spot → Read
read_by s leg ended legs = record (reads s) {
  has_next = true;
  next = record { held = []; ended = ended; finished = false };
  next_leg = leg.number;
  legs = legs;
}

-- the leg is opened
abbrev opened_leg : InLeg → InLeg
opened_leg leg = record leg { stage = Opened; tells = tells.InR1B2 }

opens_took : (out : List (List ℕ)) (up : ℕ → Bool) (came : Log) (s : Server) (leg : InLeg)
    → Ready out up came (reads s) s.waiting → IsFirst (spots s.ins) (spot leg)
    → (stage : InStage) → leg.stage ≡ stage
    → Took out up came (reads (opens_next s leg stage)) (opens_next s leg stage).waiting
opens_took out up came s leg r f Fresh e = absurd (not_so (ap is_waiting e) f.waits)
  where
    not_so : is_waiting leg.stage ≡ false → is_waiting leg.stage ≡ true → ⊥
    not_so a b = differ (is_waiting leg.stage) b a
opens_took out up came s leg r f Opened e = absurd (differ (is_waiting leg.stage) f.waits
    (ap is_waiting e))
opens_took out up came s leg r f (Waits window timeout ended) e = by ended (ap waits_ended e)
  where
    v : Waiting
    v = added s.waiting (named.InR1A3 0 1 window timeout)

    first : Took out up came (opened_read (reads s) (spot leg)) v
    first = opens_first out up came (reads s) s.waiting v r (spot leg) f

    placed : Took out up came (read_by s leg (waits_ended leg.stage)
        (spots (set_at s.ins (opened_leg leg) (in_place leg.number s.ins)))) v
    placed = subst (λ xs. Took out up came (read_by s leg (waits_ended leg.stage) xs) v)
        (sym (set_spot s.ins (opened_leg leg))) first

    by : (ended : Bool) → waits_ended leg.stage ≡ ended
        → Took out up came (reads (opens_next s leg (Waits window timeout ended))) v
    by true q = subst (λ b. Took out up came (read_by s leg b
        (spots (set_at s.ins (opened_leg leg) (in_place leg.number s.ins)))) v) q placed
    by false q = subst (λ b. Took out up came (read_by s leg b
        (spots (set_at s.ins (opened_leg leg) (in_place leg.number s.ins)))) v) q placed

pub opened_took : (out : List (List ℕ)) (up : ℕ → Bool) (came : Log) (s : Server)
    → Ready out up came (reads s) s.waiting
    → Took out up came (reads (next_opened s)) (next_opened s).waiting
opened_took out up came s r =
    by_test (λ t. Took out up came (reads t) t.waiting)
    (s.line.has_next || waits kind.InR1A3 s.waiting) s (opens_leg s (first_waiting s.ins))
    (λ e. absurd (neither s.line.has_next (waits kind.InR1A3 s.waiting) r.alone
    (none_found (is_own kind.InR1A3) s.waiting.due r.none) e))
    (λ e. by (first_waiting s.ins) refl)
  where
    neither : (a b : Bool) → a ≡ false → b ≡ false → a || b ≡ true → ⊥
    neither true b e f g = absurd (cc)
    neither false true e f g = absurd (cc)
    neither false false e f g = absurd (cc)

    by : (leg : Option InLeg) → first_waiting s.ins ≡ leg
        → Took out up came (reads (opens_leg s leg)) (opens_leg s leg).waiting
    by None e = stays_so out up came (reads s) s.waiting r
        (none_waits (spots s.ins) (sym (first_spot s.ins) ∙ ap spot_by e))
    by (Some leg) e = opens_took out up came s leg r
        (first_waits 0 s.newest_in (spots s.ins) (spot leg) r.behind.sorted
        (sym (first_spot s.ins) ∙ ap spot_by e)) leg.stage refl

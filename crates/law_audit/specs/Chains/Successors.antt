-- legs of a kind by their numbers, where each replaces the one before it (profile)
use Rattle.std.specs.Prelude.{◌≡◌, ℕ, zero, suc, ◌<◌, ◌≤◌, ◌==◌, ◌++◌, List, [], IsTrue, false, Some, None}
use Rattle.std.specs.List.{list_any}
use Rattle.rh_rts.specs.declared.command.Cookie.{Cookie}
use Rattle.rh_line.specs.declared.leg.LegKind.{LegKind}
use Rattle.rh_audit.specs.declared.packet.First.{First}
use Rattle.rh_audit.specs.declared.packet.Met.{Met}
use Rattle.rh_audit.specs.declared.seen.Seen.{Seen}
use Rattle.rh_audit.specs.Audits.{is_left}
use Rattle.rh_audit.specs.Captures.{of_tag}
use Rattle.rh_audit.specs.Chains.{Leg, chain, leg_in, legs, mets_in, newest_of}
use Rattle.rh_audit.specs.Pipes.{first_pipe}
use Rattle.rh_audit.specs.Streams.{first_among, renewed}

-- ---- legs by their numbers

-- the cookie that the channel of a leg had last, by its first packet and by what was met behind it
abbrev pub newest : List Met → First → Cookie
newest mets begun = newest_of (renewed None mets) begun.own

-- the last leg before leg n whose first packet was met had this cookie last
pub record Precedes (mets : ℕ → List Met) (n : ℕ) (cookie : Cookie) : Type 0 where
  pub number : ℕ
  pub begun : First
  pub met : first_among (mets number) ≡ Some begun
  pub last : newest (mets number) begun ≡ cookie
  pub below : number < n
  pub none : (k : ℕ) → number < k → k < n → first_among (mets k) ≡ None

-- the first leg whose first packet was met replaces none, and each other one the one before it; and
-- no two had one cookie last
pub record AreSuccessors (mets : ℕ → List Met) : Type 0 where
  pub first : (n : ℕ) (begun : First) → first_among (mets n) ≡ Some begun
      → begun.predecessor ≡ None → (k : ℕ) → k < n → first_among (mets k) ≡ None
  pub behind : (n : ℕ) (begun : First) (cookie : Cookie) → first_among (mets n) ≡ Some begun
      → begun.predecessor ≡ Some cookie → Precedes mets n cookie
  pub apart : (m n : ℕ) (a b : First) → first_among (mets m) ≡ Some a
      → first_among (mets n) ≡ Some b → newest (mets m) a ≡ newest (mets n) b → m ≡ n

-- ---- and by their tags

-- a tag is among these
abbrev pub IsTag : ℕ → List ℕ → Type 0
IsTag tag tags = IsTrue (list_any (λ other. other == tag) tags)

-- what was met on a tag's pipe towards the server, where it has a leg of the kind
abbrev pub mets_of_leg : LegKind → List Seen → ℕ → List Met
mets_of_leg kind seen tag = mets_in (first_pipe kind) (of_tag tag seen)

-- each leg of the kind whose first packet was met has its tag, and a number to the greatest
pub record AreTagged (kind : LegKind) (seen : List Seen) (tags : List ℕ) (tag : ℕ → ℕ)
    (most : ℕ) : Type 0 where
  pub tagged : (n : ℕ) (begun : First) → first_among (mets_of_leg kind seen (tag n)) ≡ Some begun
      → IsTag (tag n) tags × (n ≤ most)
  pub numbered : (t : ℕ) (begun : First) → IsTag t tags
      → first_among (mets_of_leg kind seen t) ≡ Some begun → (n : ℕ) × (tag n ≡ t)

-- ---- in a chain

-- so many legs from a number on
abbrev pub in_order : (ℕ → List Leg) → ℕ → ℕ → List Leg
in_order leg n zero = []
in_order leg n (suc more) = leg n ++ in_order leg (suc n) more

-- the leg of a kind that a tag has
abbrev pub leg_of_tag : LegKind → List Seen → ℕ → List Leg
leg_of_tag kind seen tag = leg_in kind tag (of_tag tag seen)

pub record IsChained (kind : LegKind) (seen : List Seen) (tags : List ℕ) (tag : ℕ → ℕ)
    (most : ℕ) : Type 0 where
  pub chain_is : chain (legs kind seen tags)
      ≡ in_order (λ n. leg_of_tag kind seen (tag n)) 0 (suc most)
  pub none_left : (t : ℕ) → IsTag t tags → is_left seen tags t kind ≡ false

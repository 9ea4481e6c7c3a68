-- what came on each leg of a virtual connection is of what was put at its other end, as a count of
-- packets sees it (profile)
use Rattle.std.specs.Prelude.{ℕ, ◌≤◌, ◌==◌, Bool, if◌then◌else◌, List}
use Rattle.rh_sig.specs.declared.named.Named.{Named}
use Rattle.rh_line.specs.declared.leg.LegKind.{LegKind}
use Rattle.rh_line.specs.declared.leg.LegKind.TheVariants.{ClientOut, OutServer, ClientIn, InServer}
use Rattle.law_moves.specs.Moves.{OnLeg}
use Rattle.law_moves.specs.Passages.Passing.{count_of, of_kind}
use Rattle.law_moves.specs.Chains.Sums.{count_on}

-- what came to each node and what it put, and which in proxy reads a client's IN channel
pub record Logs : Type 0 where
  pub client_came : List OnLeg
  pub client_put : List OnLeg
  pub server_came : List OnLeg
  pub server_put : List OnLeg
  pub in_came : ℕ → List OnLeg
  pub in_put : ℕ → List OnLeg
  pub out_came : ℕ → List OnLeg
  pub out_put : ℕ → List OnLeg
  pub reader : ℕ → ℕ

-- on all legs of a kind
abbrev pub total : (Named → Bool) → LegKind → List OnLeg → ℕ
total test kind log = count_of test (of_kind kind log)

-- on no leg more came than was put there; on a client's IN channel it came to its reader alone
pub record AreFronts (l : Logs) : Type 0 where
  pub ci_up : (test : Named → Bool) (m n : ℕ) → count_on test ClientIn (l.in_came m) n
      ≤ (if l.reader n == m then count_on test ClientIn l.client_put n else 0)
  pub is_up : (test : Named → Bool) (n : ℕ)
      → count_on test InServer l.server_came n ≤ count_on test InServer (l.in_put n) n
  pub is_down : (test : Named → Bool) (n : ℕ)
      → count_on test InServer (l.in_came n) n ≤ count_on test InServer l.server_put n
  pub os_down : (test : Named → Bool) (n : ℕ)
      → count_on test OutServer (l.out_came n) n ≤ count_on test OutServer l.server_put n
  pub co_down : (test : Named → Bool) (n : ℕ)
      → count_on test ClientOut l.client_came n ≤ count_on test ClientOut (l.out_put n) n
  pub co_up : (test : Named → Bool) (n : ℕ)
      → count_on test ClientOut (l.out_came n) n ≤ count_on test ClientOut l.client_put n
  pub os_up : (test : Named → Bool) (n : ℕ)
      → count_on test OutServer l.server_came n ≤ count_on test OutServer (l.out_put n) n

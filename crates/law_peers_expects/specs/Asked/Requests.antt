-- which channel's request a head is, by the length that it tells (MS-RPCH 2.1.2; successors are
-- this profile's)
use Rattle.std.specs.Prelude.{◌≡◌, ℕ, suc, List, true, false, is_some, Ok}
use Rattle.std.specs.List.{AllByRecursion}
use Rattle.rh_http.specs.Heads.Verdicts.{Asked, request_verdict}
use Rattle.rh_shell.specs.Shells.{same_leg}
use Rattle.rh_outproxy.specs.OutProxy.{OutProxy}
use Rattle.law_moves.specs.Moves.{Move, HeadCame, Passage}
use Rattle.law_role_outproxy.specs.Counted.{co_leg}
use Rattle.law_role_client_rows.specs.Putting.{out_length}

-- the text is read as a request for the OUT channel of this number: the first is new, and each
-- other a successor
pub record AsksFor (n : ℕ) (text : List ℕ) : Type 0 where
  pub below : ℕ
  pub number : n ≡ suc below
  pub asked : Asked
  pub reads : request_verdict false text ≡ Ok asked
  pub tells : asked.length ≡ out_length below

-- a head that came from the client of an out proxy by the move is one
abbrev pub IsRequest : ℕ → Move → Type 0
IsRequest n (HeadCame leg text) = same_leg leg (co_leg n) ≡ true → AsksFor n text
IsRequest n move = Unit {0}

-- and so are all, one of which the proxy took
pub record HasAsked (n : ℕ) (moves : List Move) (p : Passage OutProxy) : Type 0 where
  pub heads : AllByRecursion (IsRequest n) moves
  pub taken : is_some p.role.request ≡ true

-- the heads that come to the out proxies of a world from their client (MS-RPCH 2.1.2; successors
-- are this profile's)
use Rattle.std.specs.Prelude.{◌≡◌, ℕ, suc, List, true}
use Rattle.rh_http.specs.declared.config.ClientConfig.{ClientConfig}
use Rattle.rh_http.specs.Texts.{out_request}
use Rattle.rh_shell.specs.Shells.{same_leg}
use Rattle.law_moves.specs.Moves.{Move, HeadCame}
use Rattle.law_role_outproxy.specs.Counted.{co_leg}
use Rattle.law_role_client_rows.specs.Putting.{out_length}

-- the request with which a client of this configuration asks for the OUT channel of this number
pub record IsOwn (config : ClientConfig) (n : ℕ) (text : List ℕ) : Type 0 where
  pub below : ℕ
  pub number : n ≡ suc below
  pub is : text ≡ out_request config (out_length below)

-- a head that came from the client of that out proxy by the move is that
abbrev pub IsOwnHead : ClientConfig → ℕ → Move → Type 0
IsOwnHead config n (HeadCame leg text) =
    same_leg leg (co_leg n) ≡ true → IsOwn config n text
IsOwnHead config n move = Unit {0}

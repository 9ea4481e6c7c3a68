-- for which channels a server passes acknowledgements on to out proxies (MS-RPCH 3.2.5)
use Rattle.std.specs.Prelude.{ℕ, ◌≡◌, ◌⊎◌}
use Rattle.rh_rts.specs.declared.command.Cookie.{Cookie}
use Rattle.rh_rts.specs.declared.command.TheConstants.{TO_OUT_PROXY}
use Rattle.rh_sig.specs.declared.named.Named.TheVariants.{AckTo}
use Rattle.rh_server.specs.States.{Server, no_cookie}
use Rattle.law_moves.specs.Moves.{Passage}
use Rattle.law_moves.specs.Wires.{of_leg}
use Rattle.law_moves.specs.Passages.Passing.{Has}
use Rattle.law_role_server_rows.specs.Putting.Puts.{os}
use Rattle.law_role_server_rows.specs.Refusing.Cookies.{IsOutChannel}

-- an acknowledgement to an out proxy has the cookie with which the channel of its leg began, or the
-- one of zeros that stands for none
abbrev pub PassesOnOwn : Passage Server → Type 0
PassesOnOwn p =
    (n received window : ℕ) (cookie : Cookie)
    → Has (AckTo TO_OUT_PROXY received window cookie) (of_leg (os n) p.put)
    → IsOutChannel n cookie p.came ⊎ (cookie ≡ no_cookie)

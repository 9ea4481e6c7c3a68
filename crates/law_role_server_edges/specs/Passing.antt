-- acknowledgements that a server passes on, by the edges that they tell: those of in proxies go to
-- the client, and those of the client to an out proxy (MS-RPCH 3.2.1)
use Rattle.std.specs.Prelude.{◌≡◌, ◌≤◌, ◌&&◌, ℕ, max, Bool, false, if◌then◌else◌, List, [], ◌∷◌, Some}
use Rattle.rh_rts.specs.declared.command.Cookie.{Cookie}
use Rattle.rh_rts.specs.declared.command.TheConstants.{TO_CLIENT, TO_OUT_PROXY}
use Rattle.rh_sig.specs.declared.named.Named.{Named}
use Rattle.rh_sig.specs.declared.named.Named.TheVariants.{ConnA2, OutR1A4}
use Rattle.rh_line.specs.declared.leg.LegKind.TheVariants.{OutServer}
use Rattle.rh_shell.specs.Rules.{Text, Pdu, Packet}
use Rattle.rh_shell.specs.Shells.{is_of}
use Rattle.rh_shell.specs.Waiting.{Key}
use Rattle.rh_server.specs.States.{Server, out_cookie, same_cookie}
use Rattle.law_moves.specs.Merging.{greatest}
use Rattle.law_moves.specs.Moves.{OnLeg, Passage}
use Rattle.law_role_server_rows.specs.Refusing.Cookies.{IsOutChannel}
use Rattle.law_role_edges.specs.Passing.{greatest_in}

-- ---- OUT channels (MS-RPCH 2.2.4; successors are this profile's)

-- the packet begins one of this cookie
abbrev pub begins_out : Cookie → Named → Bool
begins_out cookie (ConnA2 version connection channel lifetime window) = same_cookie channel cookie
begins_out cookie (OutR1A4 version connection predecessor successor lifetime window timeout) =
    same_cookie successor cookie
begins_out cookie packet = false

-- it came on an os leg
abbrev pub begins_on : Cookie → OnLeg → Bool
begins_on cookie (leg, Text bytes) = false
begins_on cookie (leg, Pdu pdu) = false
begins_on cookie (leg, Packet packet) = is_of OutServer leg && begins_out cookie packet

-- what came behind the first that did
abbrev pub since : Cookie → List OnLeg → List OnLeg
since cookie [] = []
since cookie (one ∷ came) = if begins_on cookie one then came else since cookie came

-- none of this cookie began on another os leg
abbrev pub IsOnlyOn : ℕ → Cookie → List OnLeg → Type 0
IsOnlyOn n cookie came = (m : ℕ) → IsOutChannel m cookie came → m ≡ n

-- ---- the law

-- acknowledgements for a channel, to the client and to its out proxy
abbrev pub to_client : Cookie → Key
to_client cookie = record { destination = TO_CLIENT; channel = cookie }

abbrev pub to_out_proxy : Cookie → Key
to_out_proxy cookie = record { destination = TO_OUT_PROXY; channel = cookie }

-- of those among these the greatest edge was put, or waits
abbrev pub PassesOn : Key → List OnLeg → Passage Server → Type 0
PassesOn key came p =
    greatest_in key came ≤ max (greatest key p.role.waiting.due) (greatest_in key p.put)

-- of those to an out proxy, while the leg of the channel is kept: of those that came behind the
-- packet that began it; before it they are passed over
pub record PassesEdgesOn (cookie : Cookie) (p : Passage Server) : Type 0 where
  pub client : PassesOn (to_client cookie) p.came p
  pub out_proxy : (n : ℕ) → out_cookie n p.role.outs ≡ Some cookie → IsOnlyOn n cookie p.came
      → PassesOn (to_out_proxy cookie) (since cookie p.came) p

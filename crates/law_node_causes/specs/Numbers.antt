-- what holds of the numbers of a role's legs, where each is up once (profile)
use Rattle.std.specs.Prelude.{ℕ, ◌≡◌, ◌≤◌, ◌<◌, Bool, true}
use Rattle.rh_inproxy.specs.declared.state.Successor.{Successor}
use Rattle.rh_inproxy.specs.declared.state.Successor.TheVariants.{Absent, Up, Joined}
use Rattle.rh_inproxy.specs.State.{InProxy}
use Rattle.rh_client.specs.declared.channels.TheConstants.{LAST_NUMBER}
use Rattle.rh_client.specs.declared.state.ClientRole.{ClientRole}
use Rattle.rh_client.specs.Replacements.{is_in, is_out}

-- the ci leg behind that of the current channel has a higher number
abbrev pub IsAbove : ℕ → Successor → Type 0
IsAbove n Absent = Unit {0}
IsAbove n (Up number) = n < number
IsAbove n (Joined leg stage) = n < leg.number

-- no ci leg of an in proxy has a number below the first
pub record AreNumbered (s : InProxy) : Type 0 where
  pub first : s.config.number ≤ s.current.number
  pub behind : IsAbove s.current.number s.successor

-- the numbers of a client's channels in one direction begin with 1, and where a replacement is
-- under way the successor's is higher; none is above the last
pub record AreNumberedBy (now next : ℕ) (under_way : Bool) : Type 0 where
  pub first : 0 < now
  pub behind : under_way ≡ true → now < next
  pub now_last : now ≤ LAST_NUMBER
  pub next_last : under_way ≡ true → next ≤ LAST_NUMBER

pub record ClientIsNumbered (s : ClientRole) : Type 0 where
  pub ins : AreNumberedBy s.writing.number s.in_successor.number (is_in s.replacement)
  pub outs : AreNumberedBy s.current.number s.out_successor.number (is_out s.replacement)

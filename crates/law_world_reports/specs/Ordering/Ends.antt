-- when an end gives no more (profile)
use Rattle.std.specs.Prelude.{◌≡◌, ◌++◌, List, [], ◌∷◌, Bool, true}
use Rattle.rh_text.specs.declared.ends.Side.{Side}
use Rattle.rh_text.specs.declared.ends.Side.TheVariants.{Client, Server}
use Rattle.rh_shell.specs.Rules.{Rules, Acts}
use Rattle.rh_shell.specs.Shells.{Shell}
use Rattle.rh_inproxy.specs.State.{InProxy}
use Rattle.rh_outproxy.specs.OutProxy.{OutProxy}
use Rattle.rh_client.specs.declared.state.ClientRole.{ClientRole}
use Rattle.rh_server.specs.States as server
use Rattle.rh_nodes.specs.World.{World}
use Rattle.law_moves.specs.Moving.{EndEvent, IsClosed, after_end_events}
use Rattle.law_node_streams.specs.Streams.{all_given}

-- it accepts nothing behind the events by which it was told to close, whatever happens then
pub record GivesUntilClosing {S : Type 0} (rules : Rules S) (acts : Acts S)
    (is_closing : S → Bool) (first : Shell S) : Type 0 where
  pub told : (before later : List EndEvent)
      → is_closing (after_end_events rules acts first before).role ≡ true
      → all_given rules acts first (before ++ later) ≡ all_given rules acts first before
  pub close : (before later : List EndEvent)
      → all_given rules acts first ((before ++ IsClosed ∷ []) ++ later)
      ≡ all_given rules acts first before

-- the role of an end was told to close
abbrev pub IsClosing : {K : Type 0} → World K ClientRole server.Server InProxy OutProxy → Side
    → Type 0
IsClosing w Client = w.company.client.role.is_closing ≡ true
IsClosing w Server = server.is_closing w.company.server.role.giving ≡ true

-- how the run of a role went (profile)
use Rattle.std.specs.Prelude.{◌≡◌, ◌⊎◌, ℕ, List, [], ◌∷◌, length, None, Some}
use Rattle.std.specs.declared.option.Option.{Option}
use Rattle.rh_io.specs.Counts.{Rose}
use Rattle.rh_legs.specs.declared.end.NodeEnd.TheVariants.{CookieFault}
use Rattle.rh_net.specs.Answered.{Gains}
use Rattle.rh_net.specs.Calls.{CountsFault}
use Rattle.rh_net.specs.declared.counts.NetCounts.{NetCounts}
use Rattle.rh_relay.specs.Runs.{WentSo}
use Rattle.rh_relay.specs.declared.outside.Outside.{Outside}
use Rattle.rh_relay.specs.declared.run.Ran.{Ran}
use Rattle.rh_role_words.specs.declared.form.RoleForm.{RoleForm}
use Rattle.rh_role_words.specs.declared.form.RoleForm.TheVariants.{Client, InProxy, OutProxy, Server}

-- how many nodes a role has: a proxy one for each of its channels
abbrev pub nodes_of : RoleForm → ℕ
nodes_of (Client server ins outs) = 1
nodes_of (InProxy at count) = count
nodes_of (OutProxy at count) = count
nodes_of (Server at) = 1

-- a source of cookies, where it tells them, answered these two, one after the other
abbrev pub GainsTwo : Option (List (List ℕ)) → Option (List (List ℕ)) → List ℕ → List ℕ → Type 0
GainsTwo old now connection group =
    (mid : Option (List (List ℕ))) × Gains old mid connection × Gains mid now group

-- what the net and the source of cookies of a run tell
pub record TellsOutside (N K : Type 0) : Type 0 where
  pub counts : N → NetCounts
  pub faults : K → ℕ
  pub answered : K → Option (List (List ℕ))

module _ {S W N C K : Type 0} where
  -- one node ended for want of a cookie, and all of the outside came back
  pub record IsLeft (before : Outside S W N C K) (after : Ran S W N C K) : Type 0 where
    pub ends : after.ends.items ≡ CookieFault ∷ []
    pub input : after.input ≡ Some before.input
    pub output : after.output ≡ Some before.output
    pub net : after.net ≡ before.net
    pub clock : after.clock ≡ before.clock
    pub cookies : after.cookies ≡ before.cookies
    pub unreached : after.unreached ≡ None

  -- over this outside, with what the spawner counted: its faults, and the jobs that it ran
  module _ (tells : TellsOutside N K) (refused jobs : ℕ × ℕ) (before : Outside S W N C K)
      (after : Ran S W N C K) where
    -- so many nodes ran, or the net or the spawner failed before their jobs began
    abbrev pub NodesRan : ℕ → Type 0
    NodesRan count = WentSo count (before.input, before.output)
        (CountsFault (tells.counts before.net) (tells.counts after.net)) refused jobs
        after.input after.output after.ends.items

    -- A client's source of cookies failed, and counted it. No job was made, the spawner was not
    -- called, and all but the source came back as it was.
    pub record NoCookieCame : Type 0 where
      pub counted : Rose (tells.faults before.cookies) (tells.faults after.cookies)
      pub left : IsLeft (record before { cookies = after.cookies }) after
      pub none_refused : refused.1 ≡ refused.0
      pub none_ran : jobs.1 ≡ jobs.0

    -- It answered two, for the connection and for the group, and counted no fault; the node ran
    -- with what the source was then.
    pub record CookiesCame : Type 0 where
      pub connection : List ℕ
      pub group : List ℕ
      pub cookies : K
      pub came : GainsTwo (tells.answered before.cookies) (tells.answered cookies) connection group
      pub counted : tells.faults cookies ≡ tells.faults before.cookies
      pub went : NodesRan 1

    -- how the run of a client went
    abbrev pub ClientRan : Type 0
    ClientRan = NoCookieCame ⊎ CookiesCame

    -- how that of a role went
    abbrev pub Went : RoleForm → Type 0
    Went (Client server ins outs) = ClientRan
    Went (InProxy at count) = NodesRan count
    Went (OutProxy at count) = NodesRan count
    Went (Server at) = NodesRan 1

    -- it answers an end for each node
    pub record RoleRan (form : RoleForm) : Type 0 where
      pub ends : length after.ends.items ≡ nodes_of form
      pub went : Went form

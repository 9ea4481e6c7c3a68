-- how runs of roles went
use Rattle.std.proofs.Common.{◌≡◌, inl, inr, ℕ, List, ap, length, subst, sym}
use Rattle.rh_io.specs.Counts.{Rose}
use Rattle.rh_relay.specs.declared.outside.Outside.{Outside}
use Rattle.rh_relay.specs.declared.run.Ran.{Ran}
use Rattle.rh_role_words.specs.declared.addresses.HostPort.{HostPort}
use Rattle.rh_role_words.specs.declared.addresses.HostPorts.{HostPorts}
use Rattle.rh_role_words.specs.declared.form.RoleForm.{RoleForm}
use Rattle.rh_role_words.specs.declared.form.RoleForm.TheVariants.{Client, InProxy, OutProxy, Server}
use Rattle.rh_role_words.specs.Runs.{ClientRan, GainsTwo, IsLeft, NodesRan, RoleRan, TellsOutside}

module _ {S W N C K : Type 0} (tells : TellsOutside N K) (refused jobs : ℕ × ℕ)
    (before : Outside S W N C K) (after : Ran S W N C K) where
  -- however they ended, there is an end for each node
  pub ends_of : (count : ℕ) → NodesRan tells refused jobs before after count
      → length after.ends.items ≡ count
  ends_of count (inl net) = net.1.0
  ends_of count (inr (inl spawner)) = spawner.0.0
  ends_of count (inr (inr ran)) = ran.0

  -- no cookie came
  pub left_so : (cookies : K) → Rose (tells.faults before.cookies) (tells.faults cookies)
      → IsLeft (record before { cookies = cookies }) after
      → refused.1 ≡ refused.0 → jobs.1 ≡ jobs.0 → ClientRan tells refused jobs before after
  left_so cookies rose left none_refused none_ran = inl (record {
    counted = subst (λ (k : K). Rose (tells.faults before.cookies) (tells.faults k))
        (sym left.cookies) rose;
    left = subst (λ (k : K). IsLeft (record before { cookies = k }) after) (sym left.cookies) left;
    none_refused = none_refused;
    none_ran = none_ran;
  })

  -- two came
  pub came_so : (cookies : K) (connection group : List ℕ)
      → GainsTwo (tells.answered before.cookies) (tells.answered cookies) connection group
      → tells.faults cookies ≡ tells.faults before.cookies
      → NodesRan tells refused jobs before after 1 → ClientRan tells refused jobs before after
  came_so cookies connection group came counted went = inr (record {
    connection = connection;
    group = group;
    cookies = cookies;
    came = came;
    counted = counted;
    went = went;
  })

  -- a client has one end
  pub client_ends : ClientRan tells refused jobs before after → length after.ends.items ≡ 1
  client_ends (inl none) = ap length none.left.ends
  client_ends (inr two) = ends_of 1 two.went

  -- ---- by the form of the words

  pub client_ran : (form : RoleForm) (server : HostPort) (ins outs : HostPorts)
      → form ≡ Client server ins outs → ClientRan tells refused jobs before after
      → RoleRan tells refused jobs before after form
  client_ran form server ins outs is went =
      subst (λ (f : RoleForm). RoleRan tells refused jobs before after f) (sym is)
      (record { ends = client_ends went; went = went })

  pub in_proxy_ran : (form : RoleForm) (at : HostPort) (count many : ℕ) → form ≡ InProxy at count
      → many ≡ count → NodesRan tells refused jobs before after many
      → RoleRan tells refused jobs before after form
  in_proxy_ran form at count many is all ran =
      let went = subst (λ (n : ℕ). NodesRan tells refused jobs before after n) all ran in
      subst (λ (f : RoleForm). RoleRan tells refused jobs before after f) (sym is)
      (record { ends = ends_of count went; went = went })

  pub out_proxy_ran : (form : RoleForm) (at : HostPort) (count many : ℕ) → form ≡ OutProxy at count
      → many ≡ count → NodesRan tells refused jobs before after many
      → RoleRan tells refused jobs before after form
  out_proxy_ran form at count many is all ran =
      let went = subst (λ (n : ℕ). NodesRan tells refused jobs before after n) all ran in
      subst (λ (f : RoleForm). RoleRan tells refused jobs before after f) (sym is)
      (record { ends = ends_of count went; went = went })

  pub server_ran : (form : RoleForm) (at : HostPort) → form ≡ Server at
      → NodesRan tells refused jobs before after 1 → RoleRan tells refused jobs before after form
  server_ran form at is went =
      subst (λ (f : RoleForm). RoleRan tells refused jobs before after f) (sym is)
      (record { ends = ends_of 1 went; went = went })

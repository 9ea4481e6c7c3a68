-- which words are which role's
use Rattle.std.specs.Prelude.{◌≡◌, ◌≤◌, ℕ, List, [], ◌∷◌, ◌++◌, length, codes, map, string_bytes}
use Rattle.std.specs.declared.string.String.{String}
use Rattle.std.specs.Global.{Global}
use Rattle.rh_text.specs.Numbers.{IsNumber}
use Rattle.rh_http.specs.Requests.{IsServer, host_text}
use Rattle.rh_role_words.specs.declared.addresses.HostPort.{HostPort}
use Rattle.rh_role_words.specs.declared.addresses.HostPorts.{HostPorts}
use Rattle.rh_role_words.specs.declared.addresses.TheConstants.{COMMA, MOST_MORE}
use Rattle.rh_role_words.specs.declared.form.RoleForm.{RoleForm}
use Rattle.rh_role_words.specs.declared.form.RoleForm.TheVariants.{Client, InProxy, OutProxy, Server}
use Rattle.rh_role_words.specs.declared.form.TheConstants.{MOST_CHANNELS}

-- a host, a colon and a port, as they stand in the target of a request
abbrev pub IsHostPort : List ℕ → HostPort → Type 0
IsHostPort text address = IsServer text (host_text address.host) address.port

-- these addresses, with commas between
abbrev pub AreJoined : List ℕ → List HostPort → Type 0
AreJoined text [] = ⊥
AreJoined text (one ∷ []) = IsHostPort text one
AreJoined text (one ∷ other ∷ more) = (front : List ℕ) × (behind : List ℕ)
    × (text ≡ front ++ COMMA ∷ behind) × IsHostPort front one × AreJoined behind (other ∷ more)

-- 1 to 16 of them
abbrev pub AreHostPorts : List ℕ → HostPorts → Type 0
AreHostPorts text addresses = AreJoined text (addresses.first ∷ addresses.more.items)
    × (length addresses.more.items ≤ MOST_MORE)

-- the text has no such addresses
abbrev pub AreNoHostPorts : List ℕ → Type 0
AreNoHostPorts text = (addresses : HostPorts) → ¬ AreHostPorts text addresses

-- none of these, of so many at most
abbrev pub AreNotJoined : List ℕ → ℕ → Type 0
AreNotJoined text most = (addresses : List HostPort) → length addresses ≤ most
    → ¬ AreJoined text addresses

-- the number of channels of a proxy
abbrev pub IsCount : List ℕ → ℕ → Type 0
IsCount text count = IsNumber 1 MOST_CHANNELS text count

-- words as texts
abbrev pub texts : List (String Global) → List (List ℕ)
texts words = map (λ (word : String Global). string_bytes word) words

-- the words of a role
abbrev pub IsRoleForm : RoleForm → List (List ℕ) → Type 0
IsRoleForm (Client server ins outs) words = (at : List ℕ) × (in_text : List ℕ) × (out_text : List ℕ)
    × (words ≡ codes "client" ∷ at ∷ in_text ∷ out_text ∷ [])
    × IsHostPort at server × AreHostPorts in_text ins × AreHostPorts out_text outs
IsRoleForm (InProxy at count) words = (where_text : List ℕ) × (count_text : List ℕ)
    × (words ≡ codes "inproxy" ∷ where_text ∷ count_text ∷ [])
    × IsHostPort where_text at × IsCount count_text count
IsRoleForm (OutProxy at count) words = (where_text : List ℕ) × (count_text : List ℕ)
    × (words ≡ codes "outproxy" ∷ where_text ∷ count_text ∷ [])
    × IsHostPort where_text at × IsCount count_text count
IsRoleForm (Server at) words = (where_text : List ℕ)
    × (words ≡ codes "server" ∷ where_text ∷ []) × IsHostPort where_text at

-- the words are no role's
abbrev pub IsNoRoleForm : List (List ℕ) → Type 0
IsNoRoleForm words = (form : RoleForm) → ¬ IsRoleForm form words

-- legs by the cookies of the channels that they replace
use Rattle.std.specs.Prelude.{◌≡◌, ℕ, List, [], ◌∷◌, Some, None}
use Rattle.std.specs.List.{filter}
use Rattle.std.specs.declared.option.Option.{Option}
use Rattle.std.specs.BTreeMap.{get}
use Rattle.std.specs.Cmp.Lexicographic.{slice_cmp}
use Rattle.std.specs.Ordering.{nat_cmp}
use Rattle.rh_rts.specs.declared.command.Cookie.{Cookie}
use Rattle.rh_audit.specs.declared.link.Link.{Link}
use Rattle.rh_audit.specs.declared.chain.Waiting.{Waiting}
use Rattle.rh_audit.specs.Queues.{items_in}
use Rattle.rh_audit.specs.Chains.{Leg, connects, replaces}
use Rattle.rh_audit.specs.Links.{leg_of, legs_of}

-- the legs that wait for the bytes of a cookie
abbrev pub waiting_for : Waiting → List ℕ → List Link
waiting_for waiting cookie =
    items_in (λ queue. queue.items) (get (slice_cmp nat_cmp) waiting.links cookie)

-- the legs that wait for each cookie are those among these that replace its channel, in order
abbrev pub Waits : (List ℕ → List Link) → List Leg → Type 0
Waits waiting legs =
    (cookie : Cookie) → legs_of (waiting cookie.0) ≡ filter (replaces cookie) legs

-- this is the first leg that replaces none
abbrev pub StartsBy : Option Link → List Leg → Type 0
StartsBy None connected = connected ≡ []
StartsBy (Some link) connected = (later : List Leg) × (connected ≡ leg_of link ∷ later)

pub record IsSorted (legs : List Leg) (start : Option Link) (waiting : List ℕ → List Link)
    : Type 0 where
  pub starts : StartsBy start (filter connects legs)
  pub waits : Waits waiting legs

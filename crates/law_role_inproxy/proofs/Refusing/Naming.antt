-- which channels the IN_R2/A2 name that an in proxy put
use Rattle.law_order.proofs.Vocabulary.{◌≡◌, ℕ, ◌≤◌, Bool, true, false, if◌then◌else◌, List, [], ◌∷◌, ◌++◌, Some, None, Ok, Err, inl, inr, subst, arith, ◌⊎◌}
use Rattle.rh_sig.specs.declared.named.Named.TheVariants as named
use Rattle.law_moves.proofs.Vocabulary.{Cookie, Named, Leg, Message, Pdu, Packet, same_leg, OnLeg, Move, started, all_moved, of_leg, BeginsIn, Has, HasBegunIn, count_of}
use Rattle.law_moves.proofs.Lemmas.{leg_more, RowKeeps, PutKeeps, StepsKeep, moves_keep}
use Rattle.law_role_inproxy.proofs.Vocabulary.{InProxyConfig, TellsServer, Told, Follows, Successor, Absent, Up, Joined, Done, Pick, mark, up, head, drawn, put as put_of, InProxy, first, ping, packet, pdu, rules as proxy_rules, is_leg, ci_leg, is_in_r2_a2}
use Rattle.law_role_inproxy.proofs.Refusing.Legs.{Joins, one_more, plain}
use Rattle.law_role_inproxy.proofs.Refusing.Told.{IsTold, Tells, told}
use Rattle.law_role_inproxy.proofs.Refusing.Telling.{Sources}
use Rattle.law_role_inproxy.proofs.Refusing.Keeps as keeps
use Rattle.law_role_inproxy.proofs.Refusing.Telling as telling
use Rattle.law_role_inproxy.proofs.Refusing.Told as tolds

pub has_split : (m : Named) (a b : List Message) → Has m (a ++ b) → Has m a ⊎ Has m b
has_split m [] b h = inr h
has_split m (x ∷ a) b (inl is) = inl (inl is)
has_split m (x ∷ a) b (inr rest) = by (has_split m a b rest)
  where
    by : Has m a ⊎ Has m b → Has m (x ∷ a) ⊎ Has m b
    by (inl front) = inl (inr front)
    by (inr back) = inr back

pub is_there : (m : Named) (x : Message) (t : Bool) → Has m (if t then x ∷ [] else [])
    → x ≡ Packet m
is_there m x true (inl is) = is
is_there m x true (inr rest) = absurd rest
is_there m x false h = absurd h

-- the cookie began on a ci leg up to this number
abbrev Began : Cookie → List OnLeg → ℕ → Type 0
Began cookie came limit = (j : ℕ) × (j ≤ limit) × HasBegunIn cookie (of_leg (ci_leg j) came)

began_of : (number : ℕ) (z : Successor) (cookie : Cookie) (came : List OnLeg)
    → IsTold cookie z → Joins (plain z) came → Began cookie came (told number z)
began_of number (Joined leg Told) cookie came is joins = (
  leg.number,
  omega arith,
  subst (λ (c : Cookie). HasBegunIn c (of_leg (ci_leg leg.number) came)) is joins,
)
began_of number (Joined leg (TellsServer behind)) cookie came is joins = absurd is
began_of number (Joined leg Follows) cookie came is joins = absurd is
began_of number (Up next) cookie came is joins = absurd is
began_of number Absent cookie came is joins = absurd is

abbrev reached : InProxy → ℕ
reached s = told s.current.number s.successor

module _ (n : ℕ) where
  -- so does each that was put
  abbrev Names : List OnLeg → List OnLeg → ℕ → Type 0
  Names came put limit =
      (cookie : Cookie) → Has (named.InR2A2 cookie) (of_leg (is_leg n) put)
      → Began cookie came limit

  record Holds (s : InProxy) (came put : List OnLeg) : Type 0 where
    legs : keeps.Fact n s came put
    tells : telling.Fact n s came put
    names : Names came put (reached s)

  abbrev so_many : List OnLeg → ℕ
  so_many put = count_of is_in_r2_a2 (of_leg (is_leg n) put)

  -- it goes no further back
  raised : (s : InProxy) (k : ℕ) → Tells n 0 (tolds.seen s) k
      → Tells n (reached s) (tolds.seen s) k
  raised s k h = record {
    count = h.count;
    least = omega arith;
    none = h.none;
    behind = h.behind;
    joined = h.joined;
    done = h.done;
  }

  further : (came put : List OnLeg) (limit more : ℕ) → Names came put limit → limit ≤ more
      → Names came put more
  further came put limit more h up cookie has =
      let found = h cookie has in
      let below = found.1 in (found.0, omega (arith, below, up), found.2)

  longer : (came put : List OnLeg) (one : OnLeg) (limit : ℕ) → Names came put limit
      → Names (came ++ one ∷ []) put limit
  longer came put one limit h cookie has =
      let found = h cookie has in
      (found.0, found.1, one_more (ci_leg found.0) came one (BeginsIn cookie) found.2)

  row : (s : InProxy) (one : OnLeg) (came put : List OnLeg) (x : Done) → Holds s came put
      → RowKeeps (keeps.Fact n) one came put x → RowKeeps (telling.Fact n) one came put x
      → reached s ≤ reached x.0 → RowKeeps Holds one came put x
  row s one came put (t, Ok taken) h legs tells up = record {
    legs = legs;
    tells = tells;
    names = longer came put one (reached t)
        (further came put (reached s) (reached t) h.names up);
  }
  row s one came put (t, Err why) h legs tells up = record {
    legs = legs;
    tells = tells;
    names = further came put (reached s) (reached t) h.names up;
  }

  put_row : (s : InProxy) (leg : Leg) (came put : List OnLeg) (pick : Pick) (k : ℕ)
      (g : Tells n (reached s) (tolds.seen s) k) → Holds s came put
      → PutKeeps (keeps.Fact n) leg came put pick → PutKeeps (telling.Fact n) leg came put pick
      → telling.Puts n (reached s) s k g pick → Sources n (reached s) s k g pick
      → PutKeeps Holds leg came put pick
  put_row s leg came put None k g h legs tells puts source = tt
  put_row s leg came put (Some one) k g h legs tells puts source = record {
    legs = legs;
    tells = tells;
    names = λ cookie has.
        by cookie (has_split (named.InR2A2 cookie) (of_leg (is_leg n) put)
        (of_leg (is_leg n) ((leg, one.1) ∷ []))
        (subst (Has (named.InR2A2 cookie)) (leg_more (is_leg n) put (leg, one.1)) has));
  }
    where
      by : (cookie : Cookie) → Has (named.InR2A2 cookie) (of_leg (is_leg n) put)
          ⊎ Has (named.InR2A2 cookie) (of_leg (is_leg n) ((leg, one.1) ∷ []))
          → Began cookie came (reached one.0)
      by cookie (inl before) =
          further came put (reached s) (reached one.0) h.names puts.least cookie before
      by cookie (inr here) =
          began_of one.0.current.number one.0.successor cookie came
          (source cookie (is_there (named.InR2A2 cookie) one.1 (same_leg leg (is_leg n)) here))
          legs.joins

  same : (s t : InProxy) (came put : List OnLeg) → Holds s came put
      → keeps.Fact n t came put → telling.Fact n t came put → reached s ≤ reached t
      → Holds t came put
  same s t came put h legs tells up = record {
    legs = legs;
    tells = tells;
    names = further came put (reached s) (reached t) h.names up;
  }

  steps : StepsKeep proxy_rules Holds
  steps = record {
    up = λ s leg cookie came put h.
        same s (up s leg) came put h ((keeps.steps n).up s leg cookie came put h.legs)
        ((telling.steps n).up s leg cookie came put h.tells)
        (telling.up_row n (reached s) s (so_many put) (raised s (so_many put) h.tells) leg).least;
    head = λ s leg text came put h.
        same s (head s leg text).0 came put h ((keeps.steps n).head s leg text came put h.legs)
        ((telling.steps n).head s leg text came put h.tells)
        (telling.kept n (reached s) s (so_many put) (raised s (so_many put) h.tells)
        (head s leg text).0 (tolds.same_head s leg text)).least;
    pdu = λ s leg count bytes came put h.
        row s (leg, Pdu bytes) came put (pdu s leg count bytes) h
        ((keeps.steps n).pdu s leg count bytes came put h.legs)
        ((telling.steps n).pdu s leg count bytes came put h.tells)
        (telling.kept n (reached s) s (so_many put) (raised s (so_many put) h.tells)
        (pdu s leg count bytes).0 (tolds.same_pdu s leg count bytes)).least;
    packet = λ s leg count m came put h.
        row s (leg, Packet m) came put (packet s leg count m) h
        ((keeps.steps n).packet s leg count m came put h.legs)
        ((telling.steps n).packet s leg count m came put h.tells)
        (telling.packet_row n (reached s) s (so_many put) (raised s (so_many put) h.tells) leg
        count m).least;
    put = λ s leg came put h.
        put_row s leg came put (put_of s leg) (so_many put) (raised s (so_many put) h.tells) h
        ((keeps.steps n).put s leg came put h.legs)
        ((telling.steps n).put s leg came put h.tells)
        (telling.puts n (reached s) s (so_many put) (raised s (so_many put) h.tells) leg)
        (telling.sources n (reached s) s (so_many put) (raised s (so_many put) h.tells) leg);
    drawn = λ s leg came put h.
        same s (drawn s leg) came put h ((keeps.steps n).drawn s leg came put h.legs)
        ((telling.steps n).drawn s leg came put h.tells)
        (telling.kept n (reached s) s (so_many put) (raised s (so_many put) h.tells)
        (drawn s leg) (tolds.same_drawn s leg)).least;
    mark = λ s leg came put h.
        same s (mark s leg) came put h ((keeps.steps n).mark s leg came put h.legs)
        ((telling.steps n).mark s leg came put h.tells)
        (telling.kept n (reached s) s (so_many put) (raised s (so_many put) h.tells)
        (mark s leg) (tolds.same_mark s leg)).least;
    ping = λ s leg came put h.
        same s (ping s leg) came put h ((keeps.steps n).ping s leg came put h.legs)
        ((telling.steps n).ping s leg came put h.tells)
        (telling.kept n (reached s) s (so_many put) (raised s (so_many put) h.tells)
        (ping s leg) (tolds.same_ping s leg)).least;
  }

-- each names the channel of a ci leg of which the server was told
pub names_channels : (config : InProxyConfig) (moves : List Move)
    → (let p = all_moved proxy_rules (started (first config)) moves in
    (cookie : Cookie) → Has (named.InR2A2 cookie) (of_leg (is_leg config.number) p.put)
    → (j : ℕ) × (j ≤ told p.role.current.number p.role.successor)
    × HasBegunIn cookie (of_leg (ci_leg j) p.came))
names_channels config moves =
    (moves_keep proxy_rules (Holds config.number) (steps config.number) (started (first config))
    moves (record {
      legs = keeps.start config;
      tells = telling.start config;
      names = λ cookie has. absurd has;
    })).names

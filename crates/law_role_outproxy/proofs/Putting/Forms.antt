-- what goes to the client, with a message more, with more that came, and a front of it
use Rattle.law_order.proofs.Vocabulary.{◌≡◌, ◌⊎◌, inl, inr, ℕ, Bool, true, false, true≢false, List, [], ◌∷◌, ◌++◌, None, nat_lt, refl, sym, ap, ◌∙◌, AllByRecursion, list_any, Option}
use Rattle.rh_sig.specs.declared.named.Named.TheVariants as named
use Rattle.law_moves.proofs.Vocabulary.{by_test, Named, Due, Forwarded, FORWARDED_ROOM, Message, Text, Pdu, Packet, Waiting, Key, key_of, are_one, better, edge_of, merged, takes, with_due, pushed, to_forward, count, forwarded}
use Rattle.law_moves.proofs.Lemmas.{all_append, each_so, has_more}
use Rattle.law_role_outproxy.proofs.Vocabulary.{OutProxyConfig, response, PassesPacket, IsPassed, OpensClient, IsOpening, IsNew, IsSuccessor}

-- ---- more came

pub passes_more : (a b : List Message) (m : Named) → PassesPacket a m → PassesPacket (a ++ b) m
passes_more a b (named.InR1A4 to version window timeout) h =
    (h.0, has_more (named.InR1A3 to version window timeout) a b h.1)
passes_more a b (named.InR2A4 to) h = (h.0, has_more (named.InR2A3 to) a b h.1)
passes_more a b (named.OutR1A2 to) h = (h.0, has_more (named.OutR1A1 to) a b h.1)
passes_more a b (named.OutR1A6 to version timeout) h =
    (h.0, has_more (named.OutR1A5 to version timeout) a b h.1)
passes_more a b (named.AckTo to received available channel) h =
    (h.0, has_more (named.AckTo to received available channel) a b h.1)
passes_more a b named.EndB2 h = tt
passes_more a b named.OutR1A10 h = tt
passes_more a b named.Ping h = tt
passes_more a b m h = absurd h

pub passed_more : (a b : List Message) (m : Message) → IsPassed a m → IsPassed (a ++ b) m
passed_more a b (Text bytes) h = absurd h
passed_more a b (Pdu pdu) h = tt
passed_more a b (Packet m) h = passes_more a b m h

pub opens_more : (a b : List Message) (m : Named) → OpensClient a m → OpensClient (a ++ b) m
opens_more a b (named.ConnC2 version window timeout) h =
    has_more (named.ConnC1 version window timeout) a b h
opens_more a b m h = absurd h

-- ---- Pings, and CONN/C2

abbrev pub IsPing : Message → Type 0
IsPing m = m ≡ Packet named.Ping

abbrev pub HasOpened : List Message → List Message → Type 0
HasOpened came [] = ⊥
HasOpened came (Text bytes ∷ rest) = ⊥
HasOpened came (Pdu pdu ∷ rest) = ⊥
HasOpened came (Packet m ∷ rest) =
    ((m ≡ named.Ping) × HasOpened came rest)
    ⊎ (OpensClient came m × AllByRecursion (IsPassed came) rest)

abbrev packet_in : Message → Named
packet_in (Text bytes) = named.EndB2
packet_in (Pdu pdu) = named.EndB2
packet_in (Packet m) = m

pub pings_open : (came ms : List Message) (m : Named) → AllByRecursion IsPing ms
    → OpensClient came m → HasOpened came (ms ++ Packet m ∷ [])
pings_open came [] m h opens = inr (opens, tt)
pings_open came (Text bytes ∷ ms) m h opens =
    let no' = h.0 in absurd cc
pings_open came (Pdu pdu ∷ ms) m h opens = let no' = h.0 in absurd cc
pings_open came (Packet other ∷ ms) m h opens =
    inl (ap packet_in h.0, pings_open came ms m h.1 opens)

pub opened_more : (came ms : List Message) (m : Message) → HasOpened came ms → IsPassed came m
    → HasOpened came (ms ++ m ∷ [])
opened_more came [] m h is = absurd h
opened_more came (Text bytes ∷ ms) m h is = absurd h
opened_more came (Pdu pdu ∷ ms) m h is = absurd h
opened_more came (Packet other ∷ ms) m (inl h) is = inl (h.0, opened_more came ms m h.1 is)
opened_more came (Packet other ∷ ms) m (inr h) is =
    inr (h.0, all_append (IsPassed came) ms (m ∷ []) h.1 (is, tt))

pub opened_came : (a b ms : List Message) → HasOpened a ms → HasOpened (a ++ b) ms
opened_came a b [] h = absurd h
opened_came a b (Text bytes ∷ ms) h = absurd h
opened_came a b (Pdu pdu ∷ ms) h = absurd h
opened_came a b (Packet other ∷ ms) (inl h) = inl (h.0, opened_came a b ms h.1)
opened_came a b (Packet other ∷ ms) (inr h) =
    inr (
      opens_more a b other h.0,
      each_so (IsPassed a) (IsPassed (a ++ b)) (passed_more a b) ms h.1,
    )

-- a front of either is so far
all_front : (P : Message → Type 0) (a b : List Message) → AllByRecursion P (a ++ b)
    → AllByRecursion P a
all_front P [] b h = tt
all_front P (m ∷ a) b h = (h.0, all_front P a b h.1)

pub pings_front : (came a b : List Message) → AllByRecursion IsPing (a ++ b)
    → IsOpening came a
pings_front came [] b h = tt
pings_front came (Text bytes ∷ ms) b h = let no' = h.0 in absurd cc
pings_front came (Pdu pdu ∷ ms) b h = let no' = h.0 in absurd cc
pings_front came (Packet other ∷ ms) b h = inl (ap packet_in h.0, pings_front came ms b h.1)

pub opened_front : (came a b : List Message) → HasOpened came (a ++ b) → IsOpening came a
opened_front came [] b h = tt
opened_front came (Text bytes ∷ ms) b h = absurd h
opened_front came (Pdu pdu ∷ ms) b h = absurd h
opened_front came (Packet other ∷ ms) b (inl h) = inl (h.0, opened_front came ms b h.1)
opened_front came (Packet other ∷ ms) b (inr h) =
    inr (h.0, all_front (IsPassed came) ms b h.1)

-- ---- behind the response

module _ (config : OutProxyConfig) where
  -- and CONN/A3
  abbrev pub IsBegun : (List Message → Type 0) → List Message → Type 0
  IsBegun R [] = ⊥
  IsBegun R (text ∷ []) = ⊥
  IsBegun R (text ∷ first ∷ rest) =
      (text ≡ response config) × (first ≡ Packet (named.ConnA3 config.timeout)) × R rest

  pub begun_so : (R Q : List Message → Type 0) (ms more : List Message)
      → ((rest : List Message) → R rest → Q (rest ++ more)) → IsBegun R ms
      → IsBegun Q (ms ++ more)
  begun_so R Q [] more so h = absurd h
  begun_so R Q (text ∷ []) more so h = absurd h
  begun_so R Q (text ∷ first ∷ rest) more so h = (h.0, h.1, so rest h.2)

  pub begun_same : (R Q : List Message → Type 0) (ms : List Message)
      → ((rest : List Message) → R rest → Q rest) → IsBegun R ms → IsBegun Q ms
  begun_same R Q [] so h = absurd h
  begun_same R Q (text ∷ []) so h = absurd h
  begun_same R Q (text ∷ first ∷ rest) so h = (h.0, h.1, so rest h.2)

  pub begun_front : (R : List Message → Type 0) (came a b : List Message)
      → ((x y : List Message) → R (x ++ y) → IsOpening came x) → IsBegun R (a ++ b)
      → IsNew config came a
  begun_front R came [] b so h = tt
  begun_front R came (text ∷ []) [] so h = absurd h
  begun_front R came (text ∷ []) (first ∷ b) so h = h.0
  begun_front R came (text ∷ first ∷ rest) b so h = (h.0, h.1, so rest b h.2)

  -- of a successor
  abbrev pub Follows : List Message → List Message → Type 0
  Follows came [] = ⊥
  Follows came (text ∷ rest) =
      (text ≡ response config) × AllByRecursion (IsPassed came) rest

  pub follows_more : (came ms : List Message) (m : Message) → Follows came ms
      → IsPassed came m → Follows came (ms ++ m ∷ [])
  follows_more came [] m h is = absurd h
  follows_more came (text ∷ rest) m h is =
      (h.0, all_append (IsPassed came) rest (m ∷ []) h.1 (is, tt))

  pub follows_came : (a b ms : List Message) → Follows a ms → Follows (a ++ b) ms
  follows_came a b [] h = absurd h
  follows_came a b (text ∷ rest) h =
      (h.0, each_so (IsPassed a) (IsPassed (a ++ b)) (passed_more a b) rest h.1)

  pub follows_front : (came a b : List Message) → Follows came (a ++ b)
      → IsSuccessor config came a
  follows_front came [] b h = tt
  follows_front came (text ∷ rest) b h = (h.0, all_front (IsPassed came) rest b h.1)

-- ---- what waits

abbrev pub Each : (Named → Type 0) → List Due → Type 0
Each P [] = Unit {0}
Each P (due ∷ dues) = P due.packet × Each P dues

-- CONN/C2 first
abbrev pub WaitsOpening : List Message → List Due → Type 0
WaitsOpening came [] = ⊥
WaitsOpening came (due ∷ dues) = OpensClient came due.packet × Each (PassesPacket came) dues

pub each_came : (P Q : Named → Type 0) → ((m : Named) → P m → Q m) → (dues : List Due)
    → Each P dues → Each Q dues
each_came P Q so [] h = tt
each_came P Q so (due ∷ dues) h = (so due.packet h.0, each_came P Q so dues h.1)

pub waits_came : (a b : List Message) (dues : List Due) → WaitsOpening a dues
    → WaitsOpening (a ++ b) dues
waits_came a b [] h = absurd h
waits_came a b (due ∷ dues) h = (
  opens_more a b due.packet h.0,
  each_came (PassesPacket a) (PassesPacket (a ++ b)) (passes_more a b) dues h.1,
)

each_pushed : (P : Named → Type 0) (dues : List Due) (m : Named) → P m → Each P dues
    → Each P (dues ++ to_forward m ∷ [])
each_pushed P [] m is h = (is, tt)
each_pushed P (due ∷ dues) m is h = (h.0, each_pushed P dues m is h.1)

each_merged : (P : Named → Type 0) (dues : List Due) (m : Named) → P m → Each P dues
    → Each P (merged dues m)
each_merged P [] m is h = tt
each_merged P (due ∷ dues) m is h =
    by_test (Each P) (takes m due) (better due m ∷ dues) (due ∷ merged dues m)
    (λ e. (
      by_test (λ (d : Due). P d.packet) (nat_lt (edge_of m) (edge_of due.packet)) due
          (record { packet = m; origin = due.origin }) (λ f. h.0) (λ f. is),
      h.1,
    ))
    (λ e. (h.0, each_merged P dues m is h.1))

-- CONN/C2 acknowledges nothing
no_key : (came : List Message) (m : Named) → OpensClient came m → key_of m ≡ None
no_key came (named.ConnC2 version window timeout) h = refl
no_key came m h = absurd h

not_taken : (came : List Message) (m : Named) (due : Due) → OpensClient came due.packet
    → takes m due ≡ false
not_taken came m due h = ap (λ (o : Option Key). are_one o (key_of m)) (no_key came due.packet h)

merged_opening : (came : List Message) (dues : List Due) (m : Named) → PassesPacket came m
    → WaitsOpening came dues → WaitsOpening came (merged dues m)
merged_opening came [] m is h = absurd h
merged_opening came (due ∷ dues) m is h =
    by_test (WaitsOpening came) (takes m due) (better due m ∷ dues) (due ∷ merged dues m)
    (λ e. absurd (true≢false (sym e ∙ not_taken came m due h.0)))
    (λ e. (h.0, each_merged (PassesPacket came) dues m is h.1))

pushed_opening : (came : List Message) (dues : List Due) (m : Named) → PassesPacket came m
    → WaitsOpening came dues → WaitsOpening came (dues ++ to_forward m ∷ [])
pushed_opening came [] m is h = absurd h
pushed_opening came (due ∷ dues) m is h =
    (h.0, each_pushed (PassesPacket came) dues m is h.1)

-- one more is to be forwarded, where there is room for it
forwarded_by_test : (P : Waiting → Type 0) (w : Waiting) (m : Named)
    → P (with_due w (merged w.due m)) → P (pushed w (to_forward m)) → P w
    → P (forwarded w m).0
forwarded_by_test P w m merges pushes none =
    by_test (λ (x : Waiting × Bool). P x.0) (list_any (takes m) w.due)
    (with_due w (merged w.due m), true) _ (λ e. merges)
    (λ e. by_test (λ (x : Waiting × Bool). P x.0) (nat_lt (count Forwarded w.due) w.room)
    (pushed w (to_forward m), true) (w, false) (λ f. pushes) (λ f. none))

pub forwarded_each : (came : List Message) (w : Waiting) (m : Named) → PassesPacket came m
    → Each (PassesPacket came) w.due → Each (PassesPacket came) (forwarded w m).0.due
forwarded_each came w m is h =
    forwarded_by_test (λ (x : Waiting). Each (PassesPacket came) x.due) w m
    (each_merged (PassesPacket came) w.due m is h)
    (each_pushed (PassesPacket came) w.due m is h) h

pub forwarded_opening : (came : List Message) (w : Waiting) (m : Named) → PassesPacket came m
    → WaitsOpening came w.due → WaitsOpening came (forwarded w m).0.due
forwarded_opening came w m is h =
    forwarded_by_test (λ (x : Waiting). WaitsOpening came x.due) w m
    (merged_opening came w.due m is h) (pushed_opening came w.due m is h) h

pub forwarded_room : (w : Waiting) (m : Named) → (forwarded w m).0.room ≡ w.room
forwarded_room w m =
    forwarded_by_test (λ (x : Waiting). x.room ≡ w.room) w m refl refl refl

-- where none waits there is room
pub forwarded_first : (w : Waiting) (m : Named) → w.room ≡ FORWARDED_ROOM → w.due ≡ []
    → forwarded w m ≡ (record { room = FORWARDED_ROOM; due = to_forward m ∷ [] }, true)
forwarded_first w m room none =
    ap (λ (x : Waiting). forwarded x m)
    (ap (λ (n : ℕ). record w { room = n }) room
    ∙ ap (λ (ds : List Due). record { room = FORWARDED_ROOM; due = ds }) none)

-- where there is no room nothing changes
abbrev pub IsKept : Waiting → Waiting × Bool → Type 0
IsKept w (other, true) = Unit {0}
IsKept w (other, false) = other ≡ w

pub forwarded_kept : (w : Waiting) (m : Named) → IsKept w (forwarded w m)
forwarded_kept w m =
    by_test (IsKept w) (list_any (takes m) w.due) (with_due w (merged w.due m), true) _ (λ e. tt)
    (λ e. by_test (IsKept w) (nat_lt (count Forwarded w.due) w.room)
    (pushed w (to_forward m), true) (w, false) (λ f. tt) (λ f. refl))

-- the items of what was taken and put, with a message more
use Rattle.law_order.proofs.Vocabulary.{◌≡◌, ℕ, Bool, true, false, ◌==◌, nat_eq, if◌then◌else◌, List, [], ◌∷◌, ◌++◌, arith, refl, sym, ap, ◌∙◌, append_assoc, append-nil, nat_tests, fun_ext, Item, more}
use Rattle.rh_line.specs.declared.leg.LegKind.TheVariants as kinds
use Rattle.law_moves.proofs.Vocabulary.{by_test, Leg, LegKind, Message, same_leg, is_of, OnLeg}
use Rattle.law_role_outproxy.proofs.Conditions.{both_left, both_right}
use Rattle.law_role_outproxy.proofs.Vocabulary.{from_server, items_of, items_on, client_leg, server_leg, came_log}

pub items_more : (leg : Leg) (view : Message → List Item) (ones : List OnLeg) (one : OnLeg)
    → items_on leg view (ones ++ one ∷ []) ≡ items_on leg view ones ++ items_of leg view one
items_more leg view [] one = append-nil (items_of leg view one)
items_more leg view (other ∷ ones) one =
    ap (λ items. items_of leg view other ++ items) (items_more leg view ones one)
    ∙ sym (append_assoc (items_of leg view other) (items_on leg view ones) (items_of leg view one))

-- one that is no item
pub items_none : (leg : Leg) (view : Message → List Item) (ones : List OnLeg) (one : OnLeg)
    → items_of leg view one ≡ [] → items_on leg view (ones ++ one ∷ []) ≡ items_on leg view ones
items_none leg view ones one e =
    items_more leg view ones one ∙ rw e (append-nil (items_on leg view ones))

pub client_apart : (kind : LegKind)
    → is_of kinds.ClientOut (record { kind = kind; number = 0 }) ≡ true
    → is_of kinds.OutServer (record { kind = kind; number = 0 }) ≡ false
client_apart kinds.ClientOut e = refl
client_apart kinds.OutServer e = absurd (cc)
client_apart kinds.ClientIn e = absurd (cc)
client_apart kinds.InServer e = absurd (cc)

pub server_apart : (kind : LegKind)
    → is_of kinds.OutServer (record { kind = kind; number = 0 }) ≡ true
    → is_of kinds.ClientOut (record { kind = kind; number = 0 }) ≡ false
server_apart kinds.ClientOut e = absurd (cc)
server_apart kinds.OutServer e = refl
server_apart kinds.ClientIn e = absurd (cc)
server_apart kinds.InServer e = absurd (cc)

-- what came on the client's leg is on none of the server's
pub client_log : (n : ℕ) (leg : Leg) (m : Message) (came : List OnLeg)
    → same_leg (client_leg n) leg ≡ true → came_log (came ++ (leg, m) ∷ []) ≡ came_log came
client_log n leg m came here =
    let other =
    client_apart leg.kind (both_left (is_of kinds.ClientOut leg) (n == leg.number) here) in
    fun_ext (λ k. items_none (server_leg k) from_server came (leg, m) (rw other refl))

-- nor is what is no item
pub other_log : (leg : Leg) (m : Message) (came : List OnLeg) → from_server m ≡ []
    → came_log (came ++ (leg, m) ∷ []) ≡ came_log came
other_log leg m came none =
    fun_ext (λ k. items_none (server_leg k) from_server came (leg, m)
    (by_test (λ items. items ≡ []) (same_leg (server_leg k) leg) (from_server m) []
    (λ e. none) (λ e. refl)))

-- an item on the server's leg
pub server_log : (n : ℕ) (leg : Leg) (m : Message) (came : List OnLeg)
    → same_leg (server_leg n) leg ≡ true
    → came_log (came ++ (leg, m) ∷ []) ≡ more n (from_server m) (came_log came)
server_log n leg m came here =
    let kind = both_left (is_of kinds.OutServer leg) (n == leg.number) here in
    let number : n ≡ leg.number =
    same n leg.number (both_right (is_of kinds.OutServer leg) (n == leg.number) here) in
    fun_ext (λ k. items_more (server_leg k) from_server came (leg, m) ∙ at k leg number kind)
  where
    same : (a b : ℕ) → a == b ≡ true → a ≡ b
    same a b e = grind (arith, nat_tests)

    by_number : (t : Bool) (items one : List Item)
        → items ++ (if t then one else []) ≡ (if t then items ++ one else items)
    by_number true items one = refl
    by_number false items one = append-nil items

    at : (k : ℕ) (l : Leg) → n ≡ l.number → is_of kinds.OutServer l ≡ true
        → came_log came k ++ items_of (server_leg k) from_server (l, m)
        ≡ more n (from_server m) (came_log came) k
    at k l number kind = rw (kind, number)
        (by_number (nat_eq k l.number) (came_log came k) (from_server m))

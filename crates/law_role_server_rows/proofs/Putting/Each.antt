-- what holds of each element of a list, and of what came
use Rattle.law_order.proofs.Vocabulary.{◌≡◌, ℕ, ◌==◌, Bool, if◌then◌else◌, List, [], ◌∷◌, ◌++◌, Some, None, inl, inr, refl, sym, ap, ◌∙◌, subst, position-Some, get_or_from_slice_get, slice_get, IfSome, AllByRecursion, Option}
use Rattle.rh_sig.specs.declared.named.Named.TheVariants as named
use Rattle.law_moves.proofs.Vocabulary.{same_number, test_same, Named, LegKind, ClientOut, OutServer, ClientIn, InServer, Message, Text, Pdu, Packet, OnLeg, of_leg, Has, HasOne}
use Rattle.law_moves.proofs.Lemmas.{leg_more, has_more, has_last, one_more_so}
use Rattle.law_role_server.proofs.Vocabulary.{InLeg, in_at, in_place, set_at, removed_at}
use Rattle.law_role_server.proofs.Each.{each_removed as each_off, each_got, each_set as each_put}
use Rattle.law_role_server_rows.specs.Putting.Copying.{leg_at, CameAt, CopiesAt, Copies}

-- ---- an element

pub each_in : (P : InLeg → Type 0) (legs : List InLeg) (place : Option ℕ) → AllByRecursion P legs
    → IfSome (in_at legs place) P
each_in P legs None h = tt
each_in P legs (Some place) h = each_got P legs place h

-- the leg that is found has the number
pub number_found : (n : ℕ) (legs : List InLeg) (place : Option ℕ) → in_place n legs ≡ place
    → IfSome (in_at legs place) (λ (leg : InLeg). leg.number ≡ n)
number_found n legs None e = tt
number_found n legs (Some place) e = by (slice_get legs place) refl
  where
    by : (o : Option InLeg) → slice_get legs place ≡ o
        → IfSome o (λ (leg : InLeg). leg.number ≡ n)
    by None at = tt
    by (Some leg) at =
        let found = position-Some (λ (one : InLeg). one.number == n) legs place leg e in
        same_number leg.number n (ap (λ (one : InLeg). one.number == n)
        (sym (get_or_from_slice_get legs place leg leg at)) ∙ found.1)

-- ---- the list is changed

pub each_set : {X : Type 0} (P : X → Type 0) (xs : List X) (place : Option ℕ) (x : X) → P x
    → AllByRecursion P xs → AllByRecursion P (set_at xs x place)
each_set P xs None x is h = h
each_set P xs (Some place) x is h = each_put P xs place x is h

pub each_removed : {X : Type 0} (P : X → Type 0) (xs : List X) (place : Option ℕ)
    → AllByRecursion P xs → AllByRecursion P (removed_at xs place)
each_removed P xs None h = h
each_removed P xs (Some place) h = each_off P xs place h

-- ---- what came

-- a packet that came is one that is so
pub has_one : (Is : Named → Type 0) (packet : Named) (ms : List Message) → Is packet
    → Has packet ms → HasOne Is ms
has_one Is packet [] is h = absurd h
has_one Is packet (m ∷ ms) is (inl e) =
    subst (λ (x : Message). HasOne Is (x ∷ ms)) (sym e) (inl is)
has_one Is packet (m ∷ ms) is (inr rest) = by m (has_one Is packet ms is rest)
  where
    by : (x : Message) → HasOne Is ms → HasOne Is (x ∷ ms)
    by (Text bytes) h = h
    by (Pdu pdu) h = h
    by (Packet other) h = inr h

-- the last message of a log, on its leg
pub own_leg : (kind : LegKind) (n : ℕ) (m : Message)
    → of_leg (leg_at kind n) ((leg_at kind n, m) ∷ []) ≡ m ∷ []
own_leg ClientOut n m =
    ap (λ (b : Bool). if b then m ∷ [] else []) (test_same n)
own_leg OutServer n m =
    ap (λ (b : Bool). if b then m ∷ [] else []) (test_same n)
own_leg ClientIn n m =
    ap (λ (b : Bool). if b then m ∷ [] else []) (test_same n)
own_leg InServer n m =
    ap (λ (b : Bool). if b then m ∷ [] else []) (test_same n)

pub came_last : (kind : LegKind) (n : ℕ) (packet : Named) (came : List OnLeg)
    → Has packet (of_leg (leg_at kind n) (came ++ (leg_at kind n, Packet packet) ∷ []))
came_last kind n packet came =
    let leg = leg_at kind n in
    subst (λ (ms : List Message). Has packet ms)
    (sym (leg_more leg came (leg, Packet packet)
    ∙ ap (λ (ms : List Message). of_leg leg came ++ ms) (own_leg kind n (Packet packet))))
    (has_last packet (of_leg leg came))

pub came_more : (kind : LegKind) (n : ℕ) (Is : Named → Type 0) (came : List OnLeg) (one : OnLeg)
    → CameAt kind n Is came → CameAt kind n Is (came ++ one ∷ [])
came_more kind n Is came one h =
    subst (λ (ms : List Message). HasOne Is ms) (sym (leg_more (leg_at kind n) came one))
    (one_more_so Is (of_leg (leg_at kind n) came) (of_leg (leg_at kind n) (one ∷ [])) h)

pub copies_more : (size : ℕ) (came : List OnLeg) (one : OnLeg) (kind : LegKind) (n : ℕ)
    (packet : Named) → CopiesAt size came kind n packet
    → CopiesAt size (came ++ one ∷ []) kind n packet
copies_more size came one kind n (named.ConnC1 version window timeout) h =
    (h.0, came_more InServer 1 _ came one h.1)
copies_more size came one kind n (named.InR1A3 to version window timeout) h =
    (h.0, (h.1.0, came_more InServer h.1.0 _ came one h.1.1))
copies_more size came one kind n (named.OutR1A5 to version timeout) h =
    (h.0, (h.1.0, came_more OutServer h.1.0 _ came one h.1.1))
copies_more size came one kind n (named.AckTo to received window cookie) h = (
  h.0,
  (
    h.1.0,
    subst (λ (ms : List Message). Has (named.AckTo to received window cookie) ms)
        (sym (leg_more (leg_at InServer h.1.0) came one))
        (has_more (named.AckTo to received window cookie) (of_leg (leg_at InServer h.1.0) came)
        (of_leg (leg_at InServer h.1.0) (one ∷ [])) h.1.1),
  ),
)
copies_more size came one kind n (named.Ack received window cookie) (inl h) =
    inl (came_more kind n _ came one h)
copies_more size came one kind n (named.Ack received window cookie) (inr h) = inr h
copies_more size came one kind n packet h = h

pub all_more : (size : ℕ) (came : List OnLeg) (one : OnLeg) (put : List OnLeg)
    → AllByRecursion (Copies size came) put → AllByRecursion (Copies size (came ++ one ∷ [])) put
all_more size came one [] h = tt
all_more size came one ((leg, Text bytes) ∷ put) h = (tt, all_more size came one put h.1)
all_more size came one ((leg, Pdu pdu) ∷ put) h = (tt, all_more size came one put h.1)
all_more size came one ((leg, Packet packet) ∷ put) h =
    (copies_more size came one leg.kind leg.number packet h.0, all_more size came one put h.1)

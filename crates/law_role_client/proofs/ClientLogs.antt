-- one more message on a leg adds its items to the log of its channel
use Rattle.law_order.proofs.Vocabulary.{◌≡◌, ℕ, Bool, true, false, ◌&&◌, ◌==◌, nat_eq, if◌then◌else◌, List, [], ◌∷◌, ◌++◌, refl, sym, ap, ◌∙◌, subst, append_assoc, append-nil, fun_ext, Item, more}
use Rattle.law_moves.proofs.Vocabulary.{Leg, LegKind, ClientOut, OutServer, ClientIn, InServer, Message, is_of, kind_number, OnLeg}
use Rattle.law_role_client.proofs.Vocabulary.{items_on, log_of}

log_more : (view : Message → List Item) (kind : LegKind) (ms : List OnLeg) (m : OnLeg) (n : ℕ)
    → log_of view kind (ms ++ m ∷ []) n ≡ log_of view kind ms n ++ items_on view kind n m
log_more view kind [] m n = append-nil (items_on view kind n m)
log_more view kind (x ∷ ms) m n =
    ap (λ items. items_on view kind n x ++ items) (log_more view kind ms m n)
    ∙ sym (append_assoc (items_on view kind n x) (log_of view kind ms n)
    (items_on view kind n m))

beside : (i t : Bool) (a b : List Item) → i ≡ true
    → a ++ (if i && t then b else []) ≡ (if t then a ++ b else a)
beside true true a b e = refl
beside true false a b e = append-nil a
beside false t a b e = absurd (cc)

apart : (i t : Bool) (a b : List Item) → i ≡ false → a ++ (if i && t then b else []) ≡ a
apart true t a b e = absurd (cc)
apart false t a b e = append-nil a

-- on a leg of the kind
pub log_here : (view : Message → List Item) (kind : LegKind) (ms : List OnLeg) (leg : Leg)
    (m : Message) → is_of kind leg ≡ true
    → ◌≡◌ {A = ℕ → List Item} (log_of view kind (ms ++ (leg, m) ∷ []))
    (more leg.number (view m) (log_of view kind ms))
log_here view kind ms leg m e =
    fun_ext (λ n. log_more view kind ms (leg, m) n
    ∙ beside (is_of kind leg) (nat_eq n leg.number) (log_of view kind ms n) (view m) e)

-- on another leg
pub log_other : (view : Message → List Item) (kind : LegKind) (ms : List OnLeg) (leg : Leg)
    (m : Message) → is_of kind leg ≡ false
    → ◌≡◌ {A = ℕ → List Item} (log_of view kind (ms ++ (leg, m) ∷ [])) (log_of view kind ms)
log_other view kind ms leg m e =
    fun_ext (λ n. log_more view kind ms (leg, m) n
    ∙ apart (is_of kind leg) (nat_eq n leg.number) (log_of view kind ms n) (view m) e)

-- ---- kinds

pub of_kind : (k : LegKind) (leg : Leg) → leg.kind ≡ k → is_of k leg ≡ true
of_kind k leg e = subst (λ j. (kind_number k == kind_number j) ≡ true) (sym e) (same k)
  where
    same : (k : LegKind) → (kind_number k == kind_number k) ≡ true
    same ClientOut = refl
    same OutServer = refl
    same ClientIn = refl
    same InServer = refl

pub of_other : (k j : LegKind) (leg : Leg) → leg.kind ≡ j
    → (kind_number k == kind_number j) ≡ false → is_of k leg ≡ false
of_other k j leg e o = subst (λ i. (kind_number k == kind_number i) ≡ false) (sym e) o

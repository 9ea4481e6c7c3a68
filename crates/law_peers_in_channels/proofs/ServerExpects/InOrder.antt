-- cookies of channels that are named in order, and those that are confirmed, of which none is more
-- often than it was named
use Rattle.law_order.proofs.Vocabulary.{◌≡◌, ℕ, suc, ◌+◌, ◌≤◌, Bool, true, false, if◌then◌else◌, List, [], ◌∷◌, ◌++◌, length, append_assoc, refl, sym, ap, ◌∙◌, subst, arith}
use Rattle.law_moves.proofs.Vocabulary.{Cookie, Named, OutR1A7, OutR1A8, Leg, Message, Text, Pdu, Packet, count_of}
use Rattle.law_moves.specs.PacketKinds as at_proxy
use Rattle.law_role_client.proofs.Vocabulary.{co}
use Rattle.law_role_client.specs.Counted.Counting as at_client
use Rattle.law_role_server.specs.Counted.Counting as at_server
use Rattle.law_role_client_rows.specs.Putting.{SwitchesFrom}
use Rattle.law_peers_in_channels.proofs.ServerExpects.Cookies.{cookie_same, is_same, same_cookie}

-- ---- how often a cookie is among them

abbrev more_if : Bool → ℕ → ℕ
more_if b n = if b then suc n else n

abbrev pub how_often : Cookie → List Cookie → ℕ
how_often c [] = 0
how_often c (x ∷ xs) = more_if (is_same c x) (how_often c xs)

more_by : (b : Bool) (m n : ℕ) → m ≡ n → more_if b m ≡ more_if b n
more_by b m n e = ap (more_if b) e

often_last : (c : Cookie) (xs : List Cookie) → how_often c (xs ++ c ∷ []) ≡ suc (how_often c xs)
often_last c [] = ap (λ (b : Bool). more_if b 0) (cookie_same c c refl)
often_last c (x ∷ xs) = by (is_same c x) (often_last c xs)
  where
    by : (b : Bool) → how_often c (xs ++ c ∷ []) ≡ suc (how_often c xs)
        → more_if b (how_often c (xs ++ c ∷ [])) ≡ suc (more_if b (how_often c xs))
    by true e = ap (λ (n : ℕ). suc n) e
    by false e = e

-- ---- in order

-- a cookie belongs to one number, and a number to one cookie
pub record AreOwn (Comes : ℕ → Cookie → Type 0) : Type 0 where
  pub one : (n : ℕ) (a b : Cookie) → Comes n a → Comes n b → a ≡ b
  pub own : (l n : ℕ) (c : Cookie) → Comes l c → Comes n c → l ≡ n

-- the first is of the number behind this one, and so on
abbrev pub InOrder : (ℕ → Cookie → Type 0) → ℕ → List Cookie → Type 0
InOrder Comes n [] = Unit {0}
InOrder Comes n (c ∷ cs) = Comes (suc n) c × InOrder Comes (suc n) cs

pub in_order_so : (P Q : ℕ → Cookie → Type 0) → ((n : ℕ) (c : Cookie) → P n c → Q n c)
    → (n : ℕ) (cs : List Cookie) → InOrder P n cs → InOrder Q n cs
in_order_so P Q so n [] h = tt
in_order_so P Q so n (c ∷ cs) h = (so (suc n) c h.0, in_order_so P Q so (suc n) cs h.1)

module _ (Comes : ℕ → Cookie → Type 0) where
  pub last_in_order : (n : ℕ) (cs : List Cookie) (c : Cookie) → InOrder Comes n (cs ++ c ∷ [])
      → Comes (suc (n + length cs)) c
  last_in_order n [] c h =
      let same : suc n ≡ suc (n + 0) = omega arith in
      subst (λ (k : ℕ). Comes k c) same h.0
  last_in_order n (x ∷ cs) c h =
      let same : suc (suc n + length cs) ≡ suc (n + suc (length cs)) = omega arith in
      subst (λ (k : ℕ). Comes k c) same (last_in_order (suc n) cs c h.1)

  module _ (are : AreOwn Comes) (c : Cookie) where
    none_behind : (k n : ℕ) (xs : List Cookie) → InOrder Comes n xs → Comes k c → k ≤ n
        → how_often c xs ≡ 0
    none_behind k n [] h comes less = refl
    none_behind k n (x ∷ xs) h comes less =
        by (is_same c x) refl (none_behind k (suc n) xs h.1 comes (omega (arith, less)))
      where
        by : (b : Bool) → is_same c x ≡ b → how_often c xs ≡ 0
            → more_if b (how_often c xs) ≡ 0
        by true e rest =
            let own = are.own k (suc n) c comes
            (subst (Comes (suc n)) (sym (same_cookie c x e)) h.0) in
            absurd (omega (arith, own, less))
        by false e rest = rest

    once : (n : ℕ) (xs : List Cookie) → InOrder Comes n xs → how_often c xs ≤ 1
    once n [] h = omega arith
    once n (x ∷ xs) h = by (is_same c x) refl (once (suc n) xs h.1)
      where
        by : (b : Bool) → is_same c x ≡ b → how_often c xs ≤ 1
            → more_if b (how_often c xs) ≤ 1
        by true e rest =
            let none = none_behind (suc n) (suc n) xs h.1
            (subst (Comes (suc n)) (sym (same_cookie c x e)) h.0) (omega arith) in
            omega (arith, none)
        by false e rest = rest

    nothing_more : (xs : List Cookie) → suc (length xs) ≤ 1 → xs ≡ []
    nothing_more [] less = refl
    nothing_more (x ∷ xs) less = absurd (omega (arith, less))

    -- where one is confirmed besides those before it, it is that of the next number
    pub next_in_order : (n : ℕ) (xs ys : List Cookie) → InOrder Comes n xs → InOrder Comes n ys
        → length xs ≤ suc (length ys) → how_often c (ys ++ c ∷ []) ≤ how_often c xs
        → InOrder Comes n (ys ++ c ∷ [])
    next_in_order n [] ys h k less often =
        let last = often_last c ys in absurd (omega (arith, last, often))
    next_in_order n (x ∷ xs) [] h k less often = by (is_same c x) refl often
      where
        by : (b : Bool) → is_same c x ≡ b
            → how_often c (c ∷ []) ≤ more_if b (how_often c xs) → Comes (suc n) c × Unit {0}
        by true e some = (subst (Comes (suc n)) (sym (same_cookie c x e)) h.0, tt)
        by false e some =
            let none = ap (how_often c) (nothing_more xs less) in
            let last = often_last c [] in
            absurd (omega (arith, none, last, some))
    next_in_order n (x ∷ xs) (y ∷ ys) h k less often =
        by (is_same c x) refl often
        (λ (some : how_often c (ys ++ c ∷ []) ≤ how_often c xs).
        next_in_order (suc n) xs ys h.1 k.1 (omega (arith, less)) some)
      where
        same : x ≡ y
        same = are.one (suc n) x y h.0 k.0

        Rest : Type 0
        Rest = how_often c (ys ++ c ∷ []) ≤ how_often c xs
            → InOrder Comes (suc n) (ys ++ c ∷ [])

        at : (b : Bool) → is_same c x ≡ b → is_same c y ≡ b
        at b e = ap (is_same c) (sym same) ∙ e

        by : (b : Bool) → is_same c x ≡ b
            → more_if (is_same c y) (how_often c (ys ++ c ∷ [])) ≤ more_if b (how_often c xs)
            → Rest → Comes (suc n) y × InOrder Comes (suc n) (ys ++ c ∷ [])
        by true e some rest =
            let most : more_if (is_same c x) (how_often c xs) ≤ 1 = once n (x ∷ xs) h in
            let here = ap (λ (t : Bool). more_if t (how_often c xs)) e in
            let there = ap (λ (t : Bool). more_if t (how_often c (ys ++ c ∷ []))) (at true e) in
            let last = often_last c ys in
            absurd (omega (arith, most, here, there, last, some))
        by false e some rest =
            let there = ap (λ (t : Bool). more_if t (how_often c (ys ++ c ∷ []))) (at false e) in
            (k.0, rest (omega (arith, there, some)))

-- ---- the cookies that packets name

abbrev pub switches : Named → List Cookie
switches (OutR1A7 to successor) = successor ∷ []
switches packet = []

abbrev pub confirms : Named → List Cookie
confirms (OutR1A8 to successor) = successor ∷ []
confirms packet = []

abbrev pub named_in : (Named → List Cookie) → List Message → List Cookie
named_in names [] = []
named_in names (Text bytes ∷ ms) = named_in names ms
named_in names (Pdu pdu ∷ ms) = named_in names ms
named_in names (Packet m ∷ ms) = names m ++ named_in names ms

pub append_names : (names : Named → List Cookie) (a b : List Message)
    → named_in names (a ++ b) ≡ named_in names a ++ named_in names b
append_names names [] b = refl
append_names names (Text bytes ∷ a) b = append_names names a b
append_names names (Pdu pdu ∷ a) b = append_names names a b
append_names names (Packet m ∷ a) b =
    ap (λ (cs : List Cookie). names m ++ cs) (append_names names a b)
    ∙ sym (append_assoc (names m) (named_in names a) (named_in names b))

-- ---- and how many of them there are

pub switched_often : (c : Cookie) (ms : List Message)
    → count_of (at_proxy.is_out_r1_a7 (is_same c)) ms ≡ how_often c (named_in switches ms)
switched_often c [] = refl
switched_often c (Text bytes ∷ ms) = switched_often c ms
switched_often c (Pdu pdu ∷ ms) = switched_often c ms
switched_often c (Packet (OutR1A7 to successor) ∷ ms) =
    more_by (is_same c successor) _ _ (switched_often c ms)
switched_often c (Packet m ∷ ms) = switched_often c ms

pub confirmed_often : (c : Cookie) (ms : List Message)
    → count_of (at_proxy.is_out_r1_a8 (is_same c)) ms ≡ how_often c (named_in confirms ms)
confirmed_often c [] = refl
confirmed_often c (Text bytes ∷ ms) = confirmed_often c ms
confirmed_often c (Pdu pdu ∷ ms) = confirmed_often c ms
confirmed_often c (Packet (OutR1A8 to successor) ∷ ms) =
    more_by (is_same c successor) _ _ (confirmed_often c ms)
confirmed_often c (Packet m ∷ ms) = confirmed_often c ms

pub all_switched : (ms : List Message)
    → count_of at_client.is_out_r1_a7 ms ≡ length (named_in switches ms)
all_switched [] = refl
all_switched (Text bytes ∷ ms) = all_switched ms
all_switched (Pdu pdu ∷ ms) = all_switched ms
all_switched (Packet (OutR1A7 to successor) ∷ ms) = ap (λ (n : ℕ). suc n) (all_switched ms)
all_switched (Packet m ∷ ms) = all_switched ms

pub all_confirmed : (ms : List Message)
    → count_of at_server.is_out_r1_a8 ms ≡ length (named_in confirms ms)
all_confirmed [] = refl
all_confirmed (Text bytes ∷ ms) = all_confirmed ms
all_confirmed (Pdu pdu ∷ ms) = all_confirmed ms
all_confirmed (Packet (OutR1A8 to successor) ∷ ms) = ap (λ (n : ℕ). suc n) (all_confirmed ms)
all_confirmed (Packet m ∷ ms) = all_confirmed ms

-- ---- what the client switches to

pub switched_in_order : (Comes : Leg → Cookie → Type 0) (n : ℕ) (ms : List Message)
    → SwitchesFrom Comes n ms
    → InOrder (λ (k : ℕ) (c : Cookie). Comes (co k) c) n (named_in switches ms)
switched_in_order Comes n [] h = tt
switched_in_order Comes n (Text bytes ∷ ms) h = switched_in_order Comes n ms h
switched_in_order Comes n (Pdu pdu ∷ ms) h = switched_in_order Comes n ms h
switched_in_order Comes n (Packet (OutR1A7 to successor) ∷ ms) h =
    (h.0, switched_in_order Comes (suc n) ms h.1)
switched_in_order Comes n (Packet m ∷ ms) h = switched_in_order Comes n ms h

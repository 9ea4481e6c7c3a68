-- how often an in proxy tells the server that a leg carries one channel more, and on which legs
-- the server took a message (profile)
use Rattle.law_order.proofs.Vocabulary.{◌≡◌, ℕ, ◌+◌, ◌≤◌, arith, List, [], ◌∷◌, ◌++◌, length, refl, ap, ◌∙◌, or_left, or_right, append-nil, length-append, Bool, true, false, ◌||◌, if◌then◌else◌, Item, Stop, seen}
use Rattle.law_moves.proofs.Vocabulary.{seen-append, InR2A2, Leg, same_leg, Message, Packet, OnLeg, of_leg}
use Rattle.law_moves.proofs.Lemmas.{leg_more as one_more}
use Rattle.law_node_begins.specs.ProxiesBegin.Pipes.{is as server_leg}

-- IN_R2/A2, as if it were an item
abbrev pub told_items : Message → List Item
told_items (Packet (InR2A2 successor)) = Stop ∷ []
told_items message = []

abbrev pub tells : Message → ℕ
tells message = length (told_items message)

-- how often it is among messages
abbrev pub told : List Message → ℕ
told messages = length (seen told_items messages)

pub told-append : (a b : List Message) → told (a ++ b) ≡ told a + told b
told-append a b =
    ap (λ (items : List Item). length items) (seen-append told_items a b)
    ∙ length-append (seen told_items a) (seen told_items b)

-- one message more on a leg
pub told_more : (leg : Leg) (log : List OnLeg) (one : OnLeg)
    → told (of_leg leg (log ++ one ∷ []))
    ≡ told (of_leg leg log) + (if same_leg one.0 leg then tells one.1 else 0)
told_more leg log one =
    ap told (one_more leg log one)
    ∙ told-append (of_leg leg log) (of_leg leg (one ∷ []))
    ∙ ap (λ k. told (of_leg leg log) + k) (by (same_leg one.0 leg))
  where
    by : (b : Bool) → told (if b then one.1 ∷ [] else []) ≡ (if b then tells one.1 else 0)
    by true = ap (λ (items : List Item). length items) (append-nil (told_items one.1))
    by false = refl

-- how many channels an is leg was told to carry besides its own
abbrev pub carried : List OnLeg → ℕ → ℕ
carried came n = told (of_leg (server_leg n) came)

pub carried_less : (came : List OnLeg) (one : OnLeg) (n : ℕ)
    → carried came n ≤ carried (came ++ one ∷ []) n
carried_less came one n =
    let e = told_more (server_leg n) came one in omega (arith, e)

-- ---- legs on which a message was taken

abbrev pub has_any : List Message → Bool
has_any [] = false
has_any (message ∷ messages) = true

any-append : (a b : List Message) → has_any (a ++ b) ≡ has_any a || has_any b
any-append [] b = refl
any-append (message ∷ a) b = refl

abbrev pub spoke : List OnLeg → ℕ → Bool
spoke came n = has_any (of_leg (server_leg n) came)

spoke_by : (came : List OnLeg) (one : OnLeg) (n : ℕ)
    → spoke (came ++ one ∷ []) n ≡ spoke came n || has_any (of_leg (server_leg n) (one ∷ []))
spoke_by came one n =
    ap has_any (one_more (server_leg n) came one)
    ∙ any-append (of_leg (server_leg n) came) (of_leg (server_leg n) (one ∷ []))

pub spoke_more : (came : List OnLeg) (one : OnLeg) (n : ℕ) → spoke came n ≡ true
    → spoke (came ++ one ∷ []) n ≡ true
spoke_more came one n e =
    spoke_by came one n
    ∙ or_left (spoke came n) (has_any (of_leg (server_leg n) (one ∷ []))) e

pub spoke_last : (came : List OnLeg) (one : OnLeg) (n : ℕ) → same_leg one.0 (server_leg n) ≡ true
    → spoke (came ++ one ∷ []) n ≡ true
spoke_last came one n same =
    spoke_by came one n
    ∙ or_right (spoke came n) (has_any (of_leg (server_leg n) (one ∷ [])))
    (ap (λ b. has_any (if b then one.1 ∷ [] else [])) same)

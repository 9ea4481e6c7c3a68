-- laws of lists of items
use Rattle.law_order.proofs.Vocabulary.{◌≡◌, ℕ, Bool, true, false, ◌||◌, List, [], ◌∷◌, ◌++◌, refl, sym, ap, ◌∙◌, Item, Piece, Stop, Handover, pdus, has_end, has_handover, IsBehindEnd, IsChannel, IsJoined}

-- ---- what is among joined items

pub pdus-append : (a b : List Item) → pdus (a ++ b) ≡ pdus a ++ pdus b
pdus-append [] b = refl
pdus-append (Piece p ∷ a) b = ap (λ ps. p ∷ ps) (pdus-append a b)
pdus-append (Stop ∷ a) b = pdus-append a b
pdus-append (Handover ∷ a) b = pdus-append a b

pub has_end-append : (a b : List Item) → has_end (a ++ b) ≡ has_end a || has_end b
has_end-append [] b = refl
has_end-append (Piece p ∷ a) b = has_end-append a b
has_end-append (Stop ∷ a) b = refl
has_end-append (Handover ∷ a) b = has_end-append a b

pub has_handover-append : (a b : List Item)
    → has_handover (a ++ b) ≡ has_handover a || has_handover b
has_handover-append [] b = refl
has_handover-append (Piece p ∷ a) b = has_handover-append a b
has_handover-append (Stop ∷ a) b = has_handover-append a b
has_handover-append (Handover ∷ a) b = refl

-- both parts of a test that fails, or holds
pub neither : (a b : Bool) → a || b ≡ false → (a ≡ false) × (b ≡ false)
neither false b e = (refl, e)
neither true b e = absurd (cc)

pub nil_back : {X : Type 0} (a b : List X) → a ++ b ≡ [] → b ≡ []
nil_back [] b e = e
nil_back (x ∷ a) b e = absurd (cc)

pub nil_front : {X : Type 0} (a b : List X) → a ++ b ≡ [] → a ≡ []
nil_front [] b e = refl
nil_front (x ∷ a) b e = absurd (cc)

-- ---- one channel

pub behind_channel : (a : List Item) → IsBehindEnd a → IsChannel a
behind_channel [] c = tt
behind_channel (Piece p ∷ a) c = absurd c
behind_channel (Stop ∷ a) c = absurd c
behind_channel (Handover ∷ a) c = c

-- nothing stands behind a handover mark
pub handed_whole : (a b : List Item) → has_handover a ≡ true → IsChannel (a ++ b) → b ≡ []
handed_whole [] b h c = absurd (cc)
handed_whole (Piece p ∷ a) b h c = handed_whole a b h c
handed_whole (Stop ∷ a) b h c = handed_whole a b h (behind_channel (a ++ b) c)
handed_whole (Handover ∷ a) b h c = nil_back a b c

behind_pdus : (a : List Item) → IsBehindEnd a → pdus a ≡ []
behind_pdus [] c = refl
behind_pdus (Piece p ∷ a) c = absurd c
behind_pdus (Stop ∷ a) c = absurd c
behind_pdus (Handover ∷ a) c = rw c refl

-- no PDU stands behind END of one channel
pub ended_whole : (a b : List Item) → has_end a ≡ true → IsChannel (a ++ b) → pdus b ≡ []
ended_whole [] b e c = absurd (cc)
ended_whole (Piece p ∷ a) b e c = ended_whole a b e c
ended_whole (Stop ∷ a) b e c =
    nil_back (pdus a) (pdus b) (sym (pdus-append a b) ∙ behind_pdus (a ++ b) c)
ended_whole (Handover ∷ a) b e c = rw (nil_back a b c) refl

-- one item more
pub channel_push : (a : List Item) (x : Item) → IsChannel a → has_handover a ≡ false
    → has_end a ≡ false → IsChannel (a ++ x ∷ [])
channel_push [] (Piece p) c h e = tt
channel_push [] Stop c h e = tt
channel_push [] Handover c h e = refl
channel_push (Piece p ∷ a) x c h e = channel_push a x c h e
channel_push (Stop ∷ a) x c h e = absurd (cc)
channel_push (Handover ∷ a) x c h e = absurd (cc)

pub channel_push_handover : (a : List Item) → IsChannel a → has_handover a ≡ false
    → IsChannel (a ++ Handover ∷ [])
channel_push_handover [] c h = refl
channel_push_handover (Piece p ∷ a) c h = channel_push_handover a c h
channel_push_handover (Stop ∷ []) c h = refl
channel_push_handover (Stop ∷ Piece p ∷ a) c h = absurd c
channel_push_handover (Stop ∷ Stop ∷ a) c h = absurd c
channel_push_handover (Stop ∷ Handover ∷ a) c h = absurd (cc)
channel_push_handover (Handover ∷ a) c h = absurd (cc)

-- items without a PDU, END and the mark are none
pub no_items : (a : List Item) → pdus a ≡ [] → has_end a ≡ false → has_handover a ≡ false → a ≡ []
no_items [] p e h = refl
no_items (Piece q ∷ a) p e h = absurd (cc)
no_items (Stop ∷ a) p e h = absurd (cc)
no_items (Handover ∷ a) p e h = absurd (cc)

-- ---- channels joined

pub joined_push : (a : List Item) (x : Item) → pdus (x ∷ []) ≡ [] → IsJoined a
    → IsJoined (a ++ x ∷ [])
joined_push [] (Piece p) n j = absurd (cc)
joined_push [] Stop n j = refl
joined_push [] Handover n j = tt
joined_push (Piece p ∷ a) x n j = joined_push a x n j
joined_push (Stop ∷ a) x n j = rw (pdus-append a (x ∷ []), j, n) refl
joined_push (Handover ∷ a) x n j = joined_push a x n j

pub joined_push_pdu : (a : List Item) (p : List ℕ) → has_end a ≡ false → IsJoined a
    → IsJoined (a ++ Piece p ∷ [])
joined_push_pdu [] p e j = tt
joined_push_pdu (Piece q ∷ a) p e j = joined_push_pdu a p e j
joined_push_pdu (Stop ∷ a) p e j = absurd (cc)
joined_push_pdu (Handover ∷ a) p e j = joined_push_pdu a p e j

-- no PDU stands behind END of joined channels
pub all_ended : (a b : List Item) → has_end a ≡ true → IsJoined (a ++ b) → pdus b ≡ []
all_ended [] b e j = absurd (cc)
all_ended (Piece p ∷ a) b e j = all_ended a b e j
all_ended (Stop ∷ a) b e j = nil_back (pdus a) (pdus b) (sym (pdus-append a b) ∙ j)
all_ended (Handover ∷ a) b e j = all_ended a b e j

-- where one packet opens a channel, all begin with its cookie
use Rattle.law_order.proofs.Vocabulary.{◌≡◌, ℕ, suc, ◌≤◌, Bool, true, if◌then◌else◌, List, [], ◌∷◌, inl, inr, refl, sym, ap, ◌∙◌, arith}
use Rattle.rh_sig.specs.declared.named.Named.TheVariants as named
use Rattle.law_moves.proofs.Vocabulary.{by_test, Cookie, Named, Message, Text, Pdu, Packet, count_of, BeginsOut, HasBegunOut, opens_client}

begins_opens : (a : Cookie) (m : Named) → BeginsOut a m → opens_client m ≡ true
begins_opens a (named.ConnA1 version connection channel window) h = refl
begins_opens a (named.OutR1A3 version connection predecessor channel window) h = refl
begins_opens a m h = absurd h

begins_one : (a b : Cookie) (m : Named) → BeginsOut a m → BeginsOut b m → a ≡ b
begins_one a b (named.ConnA1 version connection channel window) h k = sym h ∙ k
begins_one a b (named.OutR1A3 version connection predecessor channel window) h k = sym h ∙ k
begins_one a b m h k = absurd h

-- the first packet counts, or not
opens_first : (m : Named) (ms : List Message) → opens_client m ≡ true
    → count_of opens_client (Packet m ∷ ms) ≡ suc (count_of opens_client ms)
opens_first m ms e =
    ap (λ (t : Bool). if t then suc (count_of opens_client ms) else count_of opens_client ms) e

opens_rises : (m : Named) (ms : List Message)
    → count_of opens_client ms ≤ count_of opens_client (Packet m ∷ ms)
opens_rises m ms =
    by_test (λ (k : ℕ). count_of opens_client ms ≤ k) (opens_client m)
    (suc (count_of opens_client ms)) (count_of opens_client ms) (λ e. omega arith)
    (λ e. omega arith)

begun_opens : (a : Cookie) (ms : List Message) → HasBegunOut a ms
    → 1 ≤ count_of opens_client ms
begun_opens a [] h = absurd h
begun_opens a (Text bytes ∷ ms) h = begun_opens a ms h
begun_opens a (Pdu pdu ∷ ms) h = begun_opens a ms h
begun_opens a (Packet m ∷ ms) (inl is) =
    let first = opens_first m ms (begins_opens a m is) in omega (arith, first)
begun_opens a (Packet m ∷ ms) (inr rest) =
    let some = begun_opens a ms rest in
    let rise = opens_rises m ms in omega (arith, some, rise)

pub one_begun : (a b : Cookie) (ms : List Message) → count_of opens_client ms ≤ 1
    → HasBegunOut a ms → HasBegunOut b ms → a ≡ b
one_begun a b [] once h k = absurd h
one_begun a b (Text bytes ∷ ms) once h k = one_begun a b ms once h k
one_begun a b (Pdu pdu ∷ ms) once h k = one_begun a b ms once h k
one_begun a b (Packet m ∷ ms) once (inl is) (inl too) = begins_one a b m is too
one_begun a b (Packet m ∷ ms) once (inl is) (inr later) =
    let first = opens_first m ms (begins_opens a m is) in
    let some = begun_opens b ms later in absurd (omega (arith, once, first, some))
one_begun a b (Packet m ∷ ms) once (inr later) (inl is) =
    let first = opens_first m ms (begins_opens b m is) in
    let some = begun_opens a ms later in absurd (omega (arith, once, first, some))
one_begun a b (Packet m ∷ ms) once (inr h) (inr k) =
    let rise = opens_rises m ms in one_begun a b ms (omega (arith, once, rise)) h k

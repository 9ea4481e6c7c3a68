-- what is so of an answer that refuses
use Rattle.law_order.proofs.Vocabulary.{◌≡◌, ◌&&◌, Bool, true, false, not, Ok, Err, inl, inr, refl, ap, subst, bytes_eq-Decides, Result, ◌⊎◌}
use Rattle.rh_sig.specs.declared.named.Named.TheVariants as named
use Rattle.rh_shell.specs.declared.answers.Refused.TheVariants as refused
use Rattle.rh_shell.specs.Waiting as waiting
use Rattle.law_moves.proofs.Vocabulary.{BadAck, Cookie, Named, BeginsIn}
use Rattle.law_role_inproxy.proofs.Vocabulary.{Opener, acked_by, forwarded, forward_by, Done, InProxy, same_cookie, NamesConnection}
use Rattle.law_role_inproxy.proofs.Refusing.Legs.{Opens}

-- ---- answers

-- what is so of an answer that refuses as unexpected, or for a cookie
abbrev pub Refuses : Type 0 → (Cookie → Cookie → Type 0) → Done → Type 0
Refuses U M (t, Ok done) = Unit {0}
Refuses U M (t, Err refused.Unexpected) = U
Refuses U M (t, Err (refused.Cookie expected got)) = M expected got
Refuses U M (t, Err why) = Unit {0}

module _ (U : Type 0) (M : Cookie → Cookie → Type 0) where
  pub so_unexpected : (x : Done) → Refuses U M x → x.1 ≡ Err refused.Unexpected → U
  so_unexpected (t, Ok done) h e = absurd cc
  so_unexpected (t, Err refused.Unexpected) h e = h
  so_unexpected (t, Err (refused.Cookie expected got)) h e = absurd cc
  so_unexpected (t, Err (refused.Window exceeded)) h e = absurd cc
  so_unexpected (t, Err (refused.OutOfRange command value)) h e = absurd cc
  so_unexpected (t, Err (refused.Full leg)) h e = absurd cc

  pub so_mismatch : (x : Done) (expected got : Cookie) → Refuses U M x
      → x.1 ≡ Err (refused.Cookie expected got) → M expected got
  so_mismatch (t, Ok done) expected got h e = absurd cc
  so_mismatch (t, Err refused.Unexpected) expected got h e = absurd cc
  so_mismatch (t, Err (refused.Cookie a b)) expected got h e =
      let first : a ≡ expected = cc in
      let second : b ≡ got = cc in
      subst (λ (x : Cookie). M x got) first (subst (λ (y : Cookie). M a y) second h)
  so_mismatch (t, Err (refused.Window exceeded)) expected got h e = absurd cc
  so_mismatch (t, Err (refused.OutOfRange command value)) expected got h e = absurd cc
  so_mismatch (t, Err (refused.Full leg)) expected got h e = absurd cc

  pub forwards : (t : InProxy) (m : Named) → Refuses U M (forwarded t m)
  forwards t m = by (waiting.forwarded t.waiting m)
    where
      by : (x : waiting.Waiting × Bool) → Refuses U M (forward_by t x)
      by (w, true) = tt
      by (w, false) = tt

  pub acks : (t : InProxy) (x : Result (Unit {0}) BadAck) → Refuses U M (acked_by t x)
  acks t (Ok applied) = tt
  acks t (Err bad) = tt

pub differs : (a b : Cookie) → same_cookie a b ≡ false → a ≡ b → ⊥
differs a b e is =
    let yes = (bytes_eq-Decides a.0 b.0).1 (ap (λ (c : Cookie). c.0) is) in absurd cc

pub not_same : (a b : Cookie) → not (same_cookie a b) ≡ true → a ≡ b → ⊥
not_same a b e = by (same_cookie a b) refl e
  where
    by : (t : Bool) → same_cookie a b ≡ t → not t ≡ true → a ≡ b → ⊥
    by true f e is = absurd cc
    by false f e is = differs a b f is

-- ---- tests, and first packets

pub names_so : (o : Opener) (m : Named) → Opens o m → NamesConnection o.connection m
names_so o (named.ConnB1 version connection channel lifetime keepalive group) h = h.0
names_so o (named.InR1A1 version connection predecessor channel) h = h.0
names_so o m h = absurd h

pub begins_so : (o : Opener) (m : Named) → Opens o m → BeginsIn o.channel m
begins_so o (named.ConnB1 version connection channel lifetime keepalive group) h = h.1
begins_so o (named.InR1A1 version connection predecessor channel) h = h.1
begins_so o m h = absurd h

pub one_fails : (a b : Bool) → (a && b) ≡ false → (a ≡ false) ⊎ (b ≡ false)
one_fails false b e = inl refl
one_fails true b e = inr e

-- an in proxy refuses a packet for too little room only where as many wait
use Rattle.law_order.proofs.Vocabulary.{◌≡◌, ℕ, ◌==◌, ◌&&◌, nat_lt, Bool, true, false, not, true≢false, if◌then◌else◌, Some, None, Err, rules, sym, ◌∙◌, subst, list_any, Option}
use Rattle.rh_sig.specs.declared.named.Named.TheVariants as named
use Rattle.rh_shell.specs.declared.answers.Refused.TheVariants as refused
use Rattle.rh_shell.specs.Waiting as waits
use Rattle.law_moves.proofs.Vocabulary.{by_test, Cookie, Named, Leg, Which, Count, Forwarded, Row}
use Rattle.law_role_inproxy.proofs.Vocabulary.{Done, unexpected, InProxy, channel_of, has_a5, is_client_leg, is_server_leg, on_conn_b1, forward_by, forwarded, on_end_a1, on_in_r1_a1, on_in_r1_a5, on_keep_alive, packet, on_channel, on_channel_by, on_ci, on_is}

-- a row does not refuse for too little room
abbrev pub IsNotFull : Row → Type 0
IsNotFull (Err (refused.Full leg)) = ⊥
IsNotFull row = Unit {0}

abbrev Fits : Done → Type 0
Fits x = IsNotFull x.1

fits_is : (s : InProxy) (m : Named) → Fits (on_is s m)
fits_is s m = search rules

fits_keep_alive : (s : InProxy) (which : Which) (n : ℕ) → Fits (on_keep_alive s which n)
fits_keep_alive s which n = search rules

fits_end : (s : InProxy) (which : Which) → Fits (on_end_a1 s which)
fits_end s which = search rules

fits_a5 : (s : InProxy) (which : Which) (c : Cookie) → Fits (on_in_r1_a5 s which c)
fits_a5 s which c = search rules

fits_b1 : (s : InProxy) (n : ℕ) (a b : Cookie) (c : ℕ) (d : Cookie)
    → Fits (on_conn_b1 s n a b c d)
fits_b1 s n a b c d = search rules

fits_a1 : (s : InProxy) (n : ℕ) (a b c : Cookie) → Fits (on_in_r1_a1 s n a b c)
fits_a1 s n a b c = search rules

module _ (s : InProxy)
    (room : nat_lt (waits.count Forwarded s.waiting.due) s.waiting.room ≡ true) where
  forward_fits : (m : Named) → Fits (forwarded s m)
  forward_fits m =
      by_test (λ (x : waits.Waiting × Bool). Fits (forward_by s x))
      (list_any (waits.takes m) s.waiting.due)
      (waits.with_due s.waiting (waits.merged s.waiting.due m), true)
      (if nat_lt (waits.count Forwarded s.waiting.due) s.waiting.room
      then (waits.pushed s.waiting (waits.to_forward m), true)
      else (s.waiting, false))
      (λ e. tt)
      (λ e. by_test (λ (x : waits.Waiting × Bool). Fits (forward_by s x))
      (nat_lt (waits.count Forwarded s.waiting.due) s.waiting.room)
      (waits.pushed s.waiting (waits.to_forward m), true) (s.waiting, false) (λ f. tt)
      (λ f. absurd (true≢false (sym room ∙ f))))

  channel_fits : (which : Which) (m : Named) → Fits (on_channel s which m)
  channel_fits which (named.AckTo to received available channel) =
      by_test Fits (not (has_a5 s which) && (to == 3))
      (forwarded s (named.AckTo 3 received available channel)) (unexpected s)
      (λ e. forward_fits (named.AckTo 3 received available channel)) (λ e. tt)
  channel_fits which (named.OutR1A7 to successor) =
      by_test Fits (not (has_a5 s which) && (to == 2)) (forwarded s (named.OutR1A8 2 successor))
      (unexpected s) (λ e. forward_fits (named.OutR1A8 2 successor)) (λ e. tt)
  channel_fits which (named.KeepAlive keepalive) = fits_keep_alive s which keepalive
  channel_fits which named.EndA1 = fits_end s which
  channel_fits which (named.InR1A5 successor) = fits_a5 s which successor
  channel_fits which m = tt

  by_channel_fits : (o : Option Which) (m : Named) → Fits (on_channel_by s o m)
  by_channel_fits None m = tt
  by_channel_fits (Some which) m = channel_fits which m

  ci_fits : (n : ℕ) (m : Named) → Fits (on_ci s n m)
  ci_fits n (named.ConnB1 version connection channel lifetime keepalive group) =
      fits_b1 s n connection channel keepalive group
  ci_fits n (named.InR1A1 version connection predecessor channel) =
      fits_a1 s n connection predecessor channel
  ci_fits n m = by_channel_fits (channel_of s n) m

  packet_fits : (leg : Leg) (count : Count) (m : Named) → Fits (packet s leg count m)
  packet_fits leg count m =
      by_test Fits (is_client_leg leg) (on_ci s leg.number m)
      (if is_server_leg s leg then on_is s m else unexpected s) (λ e. ci_fits leg.number m)
      (λ e. by_test Fits (is_server_leg s leg) (on_is s m) (unexpected s)
      (λ f. fits_is s m) (λ f. tt))

  pub never_full : (leg : Leg) (count : Count) (m : Named) (full : Leg)
      → (packet s leg count m).1 ≡ Err (refused.Full full) → ⊥
  never_full leg count m full e = subst IsNotFull e (packet_fits leg count m)

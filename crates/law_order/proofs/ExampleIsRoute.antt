-- the laws of a route are met by one that was replaced twice and ended
use Rattle.law_order.proofs.Vocabulary.{◌≡◌, ℕ, zero, suc, ◌<◌, ◌≤◌, Bool, true, false, List, [], ◌∙◌, arith, rules, refl, IsChannel, has_handover, pdus, Log, IsLeg, below, GiverLaw, Shelves, Holds, ShelvedAt, PasserLaw, from_first, TakerLaw, IsRoute}
use Rattle.law_order.proofs.Prefixes.{prefix_self}
use Rattle.law_order.proofs.PasserKeeps.{passer_starts}
use Rattle.law_order.specs.Examples.{sent, came, put, has_far_leg, proxies, replaced_twice}

sent_channel : (n : ℕ) → IsChannel (sent n)
sent_channel zero = tt
sent_channel (suc zero) = refl
sent_channel (suc (suc zero)) = refl
sent_channel (suc (suc (suc zero))) = tt
sent_channel (suc (suc (suc (suc n)))) = tt

handed : (n : ℕ) → 0 < n → n < 3 → has_handover (sent n) ≡ true
handed zero a b = absurd (omega arith)
handed (suc zero) a b = refl
handed (suc (suc zero)) a b = refl
handed (suc (suc (suc n))) a b = absurd (omega arith)

sent_later : (n : ℕ) → 3 < n → sent n ≡ []
sent_later zero b = absurd (omega arith)
sent_later (suc zero) b = absurd (omega arith)
sent_later (suc (suc zero)) b = absurd (omega arith)
sent_later (suc (suc (suc zero))) b = absurd (omega arith)
sent_later (suc (suc (suc (suc n)))) b = refl

giver : GiverLaw replaced_twice.giver sent
giver = record {
  all = refl;
  over = λ e. (refl, refl);
  joined = refl;
  end_put = refl;
  numbered = omega arith;
  handed = handed;
  unhanded = refl;
  unused = refl;
  later = sent_later;
  channel = sent_channel;
}

-- nothing came behind the current channel
at_last : (s : Shelves) (legs : ℕ → Bool) (out : List (List ℕ)) (log : Log) (c : ℕ)
    → Holds s out (below log c) (log c) (log (suc c)) → ((n : ℕ) → s.later n ≡ false)
    → ((n : ℕ) → n < c → legs n ≡ true → has_handover (log n) ≡ true)
    → ((n : ℕ) → c < n → log n ≡ []) → ((n : ℕ) → IsChannel (log n))
    → ShelvedAt s legs out log c (suc c)
at_last s legs out log c holds later past none channel = record {
  holds = holds;
  above = omega arith;
  past = past;
  between = λ n a b. absurd (omega arith);
  unfinished = λ n a. rw (none n (omega arith)) refl;
  later = λ n a.
      let nothing = none n (omega arith) in (rw nothing refl, later n ∙ rw nothing refl);
  channel = channel;
}

-- ---- the first proxy

first_unused : (n : ℕ) → n < 1 → came 1 n ≡ []
first_unused zero b = refl
first_unused (suc n) b = absurd (omega arith)

first_past : (n : ℕ) → n < 2 → from_first 1 n ≡ true → has_handover (came 1 n) ≡ true
first_past zero b e = absurd (cc)
first_past (suc zero) b e = refl
first_past (suc (suc n)) b e = absurd (omega arith)

first_later : (n : ℕ) → 2 < n → came 1 n ≡ []
first_later zero b = absurd (omega arith)
first_later (suc zero) b = absurd (omega arith)
first_later (suc (suc zero)) b = absurd (omega arith)
first_later (suc (suc (suc n))) b = refl

first_channel : (n : ℕ) → IsChannel (came 1 n)
first_channel zero = tt
first_channel (suc zero) = refl
first_channel (suc (suc zero)) = refl
first_channel (suc (suc (suc n))) = tt

holds_first : Holds (proxies 1).shelves (pdus (put 1)) (below (came 1) 2) (came 1 2) (came 1 3)
holds_first = search rules

first_proxy : PasserLaw (proxies 1) 1 (came 1) (put 1)
first_proxy = record {
  shelved = at_last (proxies 1).shelves (from_first 1) (pdus (put 1)) (came 1) 2 holds_first
      (λ n. refl) first_past first_later first_channel;
  from = omega arith;
  unused = first_unused;
  channel = refl;
  end_put = refl;
  handover_put = refl;
  end_came = λ e. absurd (cc);
  handover_came = λ e. (refl, refl);
  over = λ e. absurd (cc);
}

-- ---- the other one

last_unused : (n : ℕ) → n < 3 → came 3 n ≡ []
last_unused zero b = refl
last_unused (suc zero) b = refl
last_unused (suc (suc zero)) b = refl
last_unused (suc (suc (suc n))) b = absurd (omega arith)

last_past : (n : ℕ) → n < 3 → from_first 3 n ≡ true → has_handover (came 3 n) ≡ true
last_past zero b e = absurd (cc)
last_past (suc zero) b e = absurd (cc)
last_past (suc (suc zero)) b e = absurd (cc)
last_past (suc (suc (suc n))) b e = absurd (omega arith)

last_later : (n : ℕ) → 3 < n → came 3 n ≡ []
last_later zero b = absurd (omega arith)
last_later (suc zero) b = absurd (omega arith)
last_later (suc (suc zero)) b = absurd (omega arith)
last_later (suc (suc (suc zero))) b = absurd (omega arith)
last_later (suc (suc (suc (suc n)))) b = refl

last_channel : (n : ℕ) → IsChannel (came 3 n)
last_channel zero = tt
last_channel (suc zero) = tt
last_channel (suc (suc zero)) = tt
last_channel (suc (suc (suc zero))) = tt
last_channel (suc (suc (suc (suc n)))) = tt

holds_last : Holds (proxies 3).shelves (pdus (put 3)) (below (came 3) 3) (came 3 3) (came 3 4)
holds_last = search rules

last_proxy : PasserLaw (proxies 3) 3 (came 3) (put 3)
last_proxy = record {
  shelved = at_last (proxies 3).shelves (from_first 3) (pdus (put 3)) (came 3) 3 holds_last
      (λ n. refl) last_past last_later last_channel;
  from = omega arith;
  unused = last_unused;
  channel = tt;
  end_put = refl;
  handover_put = refl;
  end_came = λ e. (refl, refl);
  handover_came = λ e. absurd (cc);
  over = λ e. refl;
}

passers : (m : ℕ) → has_far_leg m ≡ true → PasserLaw (proxies m) m (came m) (put m)
passers zero leg = absurd (cc)
passers (suc zero) leg = first_proxy
passers (suc (suc zero)) leg = absurd (cc)
passers (suc (suc (suc zero))) leg = last_proxy
passers (suc (suc (suc (suc m)))) leg = passer_starts (suc (suc (suc (suc m))))

-- ---- the taker, the legs and their numbers

put_past : (n : ℕ) → n < 3 → has_far_leg n ≡ true → has_handover (put n) ≡ true
put_past zero b e = absurd (cc)
put_past (suc zero) b e = refl
put_past (suc (suc zero)) b e = absurd (cc)
put_past (suc (suc (suc n))) b e = absurd (omega arith)

put_later : (n : ℕ) → 3 < n → put n ≡ []
put_later zero b = absurd (omega arith)
put_later (suc zero) b = absurd (omega arith)
put_later (suc (suc zero)) b = absurd (omega arith)
put_later (suc (suc (suc zero))) b = absurd (omega arith)
put_later (suc (suc (suc (suc n)))) b = refl

put_channel : (n : ℕ) → IsChannel (put n)
put_channel zero = tt
put_channel (suc zero) = refl
put_channel (suc (suc zero)) = tt
put_channel (suc (suc (suc zero))) = tt
put_channel (suc (suc (suc (suc n)))) = tt

holds_taker : Holds replaced_twice.taker.shelves replaced_twice.taker.taken (below put 3) (put 3)
    (put 4)
holds_taker = search rules

taker : TakerLaw replaced_twice.taker has_far_leg put
taker =
    at_last replaced_twice.taker.shelves has_far_leg replaced_twice.taker.taken put 3 holds_taker
    (λ n. refl) put_past put_later put_channel

first_near : (n : ℕ) → IsLeg (sent n) (came 1 n)
first_near zero = prefix_self []
first_near (suc zero) = prefix_self (sent 1)
first_near (suc (suc zero)) = prefix_self (sent 2)
first_near (suc (suc (suc n))) = (sent (suc (suc (suc n))), refl)

last_near : (n : ℕ) → IsLeg (sent n) (came 3 n)
last_near zero = prefix_self []
last_near (suc zero) = (sent 1, refl)
last_near (suc (suc zero)) = (sent 2, refl)
last_near (suc (suc (suc zero))) = prefix_self (sent 3)
last_near (suc (suc (suc (suc n)))) = prefix_self []

near : (m n : ℕ) → has_far_leg m ≡ true → IsLeg (sent n) (came m n)
near zero n leg = absurd (cc)
near (suc zero) n leg = first_near n
near (suc (suc zero)) n leg = absurd (cc)
near (suc (suc (suc zero))) n leg = last_near n
near (suc (suc (suc (suc m)))) n leg = (sent n, refl)

reads : (m n : ℕ) → has_far_leg m ≡ true → m < n → n ≤ (proxies m).shelves.current
    → has_far_leg n ≡ false
reads zero n leg a b = absurd (cc)
reads (suc zero) zero leg a b = absurd (omega arith)
reads (suc zero) (suc zero) leg a b = absurd (omega arith)
reads (suc zero) (suc (suc zero)) leg a b = refl
reads (suc zero) (suc (suc (suc n))) leg a b = absurd (omega arith)
reads (suc (suc zero)) n leg a b = absurd (cc)
reads (suc (suc (suc zero))) n leg a b = absurd (omega arith)
reads (suc (suc (suc (suc m)))) n leg a b = absurd (omega arith)

next : (m : ℕ) → has_far_leg m ≡ true → (proxies m).handover_put ≡ true
    → has_far_leg (suc (proxies m).shelves.current) ≡ true
next zero leg e = absurd (cc)
next (suc zero) leg e = refl
next (suc (suc zero)) leg e = absurd (cc)
next (suc (suc (suc zero))) leg e = absurd (cc)
next (suc (suc (suc (suc m)))) leg e = absurd (cc)

unused : (n : ℕ) → has_far_leg n ≡ false → put n ≡ []
unused zero e = refl
unused (suc zero) e = absurd (cc)
unused (suc (suc zero)) e = refl
unused (suc (suc (suc zero))) e = absurd (cc)
unused (suc (suc (suc (suc n)))) e = refl

pub is_route : IsRoute replaced_twice
is_route = record {
  giver = giver;
  passers = passers;
  taker = taker;
  near = near;
  far = λ m. prefix_self (put m);
  numbered = record {
    none = refl;
    first = refl;
    reads = reads;
    handed = next;
    unused = unused;
    known = λ n e. e;
    here = refl;
  };
}

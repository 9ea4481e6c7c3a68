-- what waits to be forwarded, with a packet more that is merged, or that waits behind the others
use Rattle.std.specs.Prelude.{bytes_eq}
use Rattle.law_order.proofs.Vocabulary.{◌≡◌, ℕ, suc, ◌+◌, ◌==◌, ◌&&◌, nat_lt, Bool, true, false, true≢false, if◌then◌else◌, List, [], ◌∷◌, ◌++◌, Some, None, refl, sym, ap, ◌∙◌, subst, arith, and_parts, eqb-true, or_parts, nat_tests, append-nil, append_assoc, bytes_eq-Decides, AllByRecursion, list_any, Option}
use Rattle.law_moves.proofs.Vocabulary.{by_test, Cookie, Named, AckTo, Due, Forwarded, Message, one_if, Waiting, Key, key_of, are_one, better, edge_of, merged, takes, with_due, pushed, to_forward, count, forwarded, count_of, HasOne}
use Rattle.law_moves.proofs.Lemmas.{all_append, waits}
use Rattle.law_role_client.proofs.Vocabulary.{is_in_a4}
use Rattle.law_peers_room.proofs.OutRoom.Behind.{fewer_behind, more_behind}
use Rattle.law_peers_room.specs.OutRoom.Waits.{AcksFor, AreDifferent, IsForwarded, IsToForward, behind, cookie_in, cookies_in, is_in_a3, packets_of}

-- ---- a packet more is to be forwarded

-- it is merged with one, or waits behind the others, or is refused
pub forwarded_so : (P : Waiting → Type 0) (w : Waiting) (m : Named)
    → P (with_due w (merged w.due m))
    → (list_any (takes m) w.due ≡ false → P (pushed w (to_forward m))) → P w
    → P (forwarded w m).0
forwarded_so P w m merges pushes none =
    by_test (λ (x : Waiting × Bool). P x.0) (list_any (takes m) w.due)
    (with_due w (merged w.due m), true) _ (λ e. merges)
    (λ e. by_test (λ (x : Waiting × Bool). P x.0) (nat_lt (count Forwarded w.due) w.room)
    (pushed w (to_forward m), true) (w, false) (λ f. pushes e) (λ f. none))

-- ---- it takes the place of one for the same channel

cookie_same : (a b : Cookie) → bytes_eq a.0 b.0 ≡ true → a ≡ b
cookie_same a b e =
    let of : List ℕ → Cookie = λ bytes. record { 0 = bytes } in
    ap of ((bytes_eq-Decides a.0 b.0).0 e)

-- what is so of both
pub record AreAlike (one other : Named) : Type 0 where
  pub cookies : cookie_in one ≡ cookie_in other
  pub none : is_in_a4 one ≡ is_in_a4 other
  pub forwards : IsForwarded one → IsForwarded other

pub no_key : (o : Option Key) → are_one o None ≡ true → ⊥
no_key None e = true≢false (sym e)
no_key (Some key) e = true≢false (sym e)

pub taken_alike : (one other : Named) → are_one (key_of one) (key_of other) ≡ true
    → AreAlike one other
taken_alike (AckTo to received available of) (AckTo next bytes window channel) e =
    let parts = and_parts (to == next) (bytes_eq of.0 channel.0) e in
    let destination : to ≡ next = eqb-true to next parts.0 in record {
      cookies = ap (λ (c : Cookie). c ∷ []) (cookie_same of channel parts.1);
      none = refl;
      forwards = λ is. sym destination ∙ is;
    }
taken_alike (AckTo to received available of) m e = absurd (true≢false (sym e))
taken_alike one m e = by m e
  where
    by : (m : Named) → are_one (key_of one) (key_of m) ≡ true → AreAlike one m
    by m e = absurd (no_key (key_of one) e)

same_alike : (m : Named) → AreAlike m m
same_alike m = record { cookies = refl; none = refl; forwards = λ is. is }

pub better_alike : (due : Due) (m : Named) → takes m due ≡ true
    → AreAlike due.packet (better due m).packet
better_alike due m e =
    by_test (λ (d : Due). AreAlike due.packet d.packet)
    (nat_lt (edge_of m) (edge_of due.packet)) due
    (record { packet = m; origin = due.origin }) (λ f. same_alike due.packet)
    (λ f. taken_alike due.packet m e)

-- ---- each that waits is to be forwarded

pub merged_each : (dues : List Due) (m : Named) → AllByRecursion IsToForward dues
    → AllByRecursion IsToForward (merged dues m)
merged_each [] m each = tt
merged_each (due ∷ dues) m each =
    by_test (AllByRecursion IsToForward) (takes m due) (better due m ∷ dues)
    (due ∷ merged dues m) (λ e. ((better_alike due m e).forwards each.0, each.1))
    (λ e. (each.0, merged_each dues m each.1))

-- ---- cookies

pub merged_cookies : (dues : List Due) (m : Named)
    → cookies_in (merged dues m) ≡ cookies_in dues
merged_cookies [] m = refl
merged_cookies (due ∷ dues) m =
    by_test (λ (ds : List Due). cookies_in ds ≡ cookies_in (due ∷ dues)) (takes m due)
    (better due m ∷ dues) (due ∷ merged dues m)
    (λ e. ap (λ (cs : List Cookie). cs ++ cookies_in dues)
    (sym (better_alike due m e).cookies))
    (λ e. ap (λ (cs : List Cookie). cookie_in due.packet ++ cs) (merged_cookies dues m))

pub pushed_cookies : (dues : List Due) (due : Due)
    → cookies_in (dues ++ due ∷ []) ≡ cookies_in dues ++ cookie_in due.packet
pushed_cookies [] due = append-nil (cookie_in due.packet)
pushed_cookies (first ∷ dues) due =
    ap (λ (cs : List Cookie). cookie_in first.packet ++ cs) (pushed_cookies dues due)
    ∙ sym (append_assoc (cookie_in first.packet) (cookies_in dues) (cookie_in due.packet))

-- one more that is none of them
pub differ_more : (cookies : List Cookie) (cookie : Cookie) → AreDifferent cookies
    → AllByRecursion (λ (c : Cookie). c ≡ cookie → ⊥) cookies
    → AreDifferent (cookies ++ cookie ∷ [])
differ_more [] cookie are each = (tt, tt)
differ_more (first ∷ cookies) cookie are each = (
  all_append (λ (c : Cookie). c ≡ first → ⊥) cookies (cookie ∷ []) are.0
      (λ e. each.0 (sym e), tt),
  differ_more cookies cookie are.1 each.1,
)

pub differ_fewer : (some cookies : List Cookie) → AreDifferent (some ++ cookies)
    → AreDifferent cookies
differ_fewer [] cookies are = are
differ_fewer (cookie ∷ some) cookies are = differ_fewer some cookies are.1

-- where none takes it, it is for another channel
none_takes : (dues : List Due) (to received available : ℕ) (of : Cookie) → to ≡ 0
    → AllByRecursion IsToForward dues
    → list_any (takes (AckTo to received available of)) dues ≡ false
    → AllByRecursion (λ (c : Cookie). c ≡ of → ⊥) (cookies_in dues)
none_takes [] to received available of number each e = tt
none_takes (due ∷ dues) to received available of number each e =
    let parts = or_parts (takes m due) (list_any (takes m) dues) e in
    all_append (λ (c : Cookie). c ≡ of → ⊥) (cookie_in due.packet) (cookies_in dues)
    (by due.packet each.0 parts.0) (none_takes dues to received available of number each.1 parts.1)
  where
    m : Named
    m = AckTo to received available of

    by : (one : Named) → IsForwarded one → are_one (key_of one) (key_of m) ≡ false
        → AllByRecursion (λ (c : Cookie). c ≡ of → ⊥) (cookie_in one)
    by (AckTo next bytes window channel) is f = (
      λ same. true≢false (sym (both next channel (is ∙ sym number) same) ∙ f),
      tt,
    )
      where
        both : (next : ℕ) (channel : Cookie) → next ≡ to → channel ≡ of
            → ((next == to) && bytes_eq channel.0 of.0) ≡ true
        both next channel equal same =
            let one : (next == to) ≡ true = grind (arith, nat_tests, equal) in
            let other : bytes_eq channel.0 of.0 ≡ true
            = (bytes_eq-Decides channel.0 of.0).1 (ap (λ (c : Cookie). c.0) same) in
            ap (λ (t : Bool). t && bytes_eq channel.0 of.0) one ∙ other
    by one is f = tt

pub differ_pushed : (dues : List Due) (m : Named) → IsForwarded m
    → AllByRecursion IsToForward dues → list_any (takes m) dues ≡ false
    → AreDifferent (cookies_in dues) → AreDifferent (cookies_in (dues ++ to_forward m ∷ []))
differ_pushed dues m is each e are =
    subst AreDifferent (sym (pushed_cookies dues (to_forward m))) (by m is e)
  where
    by : (m : Named) → IsForwarded m → list_any (takes m) dues ≡ false
        → AreDifferent (cookies_in dues ++ cookie_in m)
    by (AckTo to received available of) is e =
        differ_more (cookies_in dues) of are
        (none_takes dues to received available of is each e)
    by m is e = subst AreDifferent (sym (append-nil (cookies_in dues))) are

-- ---- how many wait

pub all_wait : (test : Named → Bool) (dues : List Due)
    → count_of test (packets_of dues) ≡ waits test dues
all_wait test [] = refl
all_wait test (due ∷ dues) = by (test due.packet) (all_wait test dues)
  where
    by : (t : Bool) → count_of test (packets_of dues) ≡ waits test dues
        → (if t then suc (count_of test (packets_of dues)) else count_of test (packets_of dues))
        ≡ one_if t + waits test dues
    by true rest = omega (arith, rest)
    by false rest = omega (arith, rest)

-- ---- where they came

-- an acknowledgement came behind so many IN_R1/A3 and IN_R2/A3
abbrev pub StandsBehind : Named → ℕ → List Message → Type 0
StandsBehind (AckTo to received available of) k came =
    HasOne (AcksFor of) (behind is_in_a3 k came)
StandsBehind m k came = Unit {0}

-- each that waits behind one more for each A4 before it
abbrev pub Follow : ℕ → List Due → List Message → Type 0
Follow k [] came = Unit {0}
Follow k (due ∷ dues) came =
    StandsBehind due.packet k came × Follow (k + one_if (is_in_a4 due.packet)) dues came

stands_more : (m : Named) (k : ℕ) (came more : List Message) → StandsBehind m k came
    → StandsBehind m k (came ++ more)
stands_more (AckTo to received available of) k came more has =
    more_behind is_in_a3 (AcksFor of) k came more has
stands_more m k came more has = tt

stands_alike : (one other : Named) (k : ℕ) (came : List Message)
    → cookie_in one ≡ cookie_in other → StandsBehind one k came → StandsBehind other k came
stands_alike (AckTo to received available of) (AckTo next bytes window channel) k came e has =
    subst (λ (c : Cookie). HasOne (AcksFor c) (behind is_in_a3 k came))
    (ap (first_of of) e) has
  where
    first_of : Cookie → List Cookie → Cookie
    first_of c [] = c
    first_of c (d ∷ cs) = d
stands_alike one (AckTo next bytes window channel) k came e has = absurd cc
stands_alike one other k came e has = tt

pub follow_more : (k : ℕ) (dues : List Due) (came more : List Message) → Follow k dues came
    → Follow k dues (came ++ more)
follow_more k [] came more each = tt
follow_more k (due ∷ dues) came more each = (
  stands_more due.packet k came more each.0,
  follow_more (k + one_if (is_in_a4 due.packet)) dues came more each.1,
)

pub follow_merged : (k : ℕ) (dues : List Due) (m : Named) (came : List Message)
    → Follow k dues came → Follow k (merged dues m) came
follow_merged k [] m came each = tt
follow_merged k (due ∷ dues) m came each =
    by_test (λ (ds : List Due). Follow k ds came) (takes m due) (better due m ∷ dues)
    (due ∷ merged dues m)
    (λ e. let alike = better_alike due m e in (
      stands_alike due.packet (better due m).packet k came alike.cookies each.0,
      subst (λ (t : Bool). Follow (k + one_if t) dues came) alike.none each.1,
    ))
    (λ e. (
      each.0,
      follow_merged (k + one_if (is_in_a4 due.packet)) dues m came each.1,
    ))

pub follow_pushed : (k : ℕ) (dues : List Due) (m : Named) (came : List Message)
    → Follow k dues came → StandsBehind m (k + waits is_in_a4 dues) came
    → Follow k (dues ++ to_forward m ∷ []) came
follow_pushed k [] m came each has =
    (subst (λ (j : ℕ). StandsBehind m j came) (omega arith) has, tt)
follow_pushed k (due ∷ dues) m came each has = (
  each.0,
  follow_pushed (k + one_if (is_in_a4 due.packet)) dues m came each.1
      (subst (λ (j : ℕ). StandsBehind m j came) (omega arith) has),
)

-- so each acknowledgement that waits came behind as many as went
pub follow_acks : (j k : ℕ) (dues : List Due) (came : List Message) → Follow (j + k) dues came
    → AllByRecursion (λ (c : Cookie). HasOne (AcksFor c) (behind is_in_a3 k came))
    (cookies_in dues)
follow_acks j k [] came each = tt
follow_acks j k (due ∷ dues) came each =
    all_append Came (cookie_in due.packet) (cookies_in dues) (by due.packet each.0)
    (follow_acks (j + one_if (is_in_a4 due.packet)) k dues came
    (subst (λ (i : ℕ). Follow i dues came) (omega arith) each.1))
  where
    Came : Cookie → Type 0
    Came c = HasOne (AcksFor c) (behind is_in_a3 k came)

    by : (m : Named) → StandsBehind m (j + k) came → AllByRecursion Came (cookie_in m)
    by (AckTo to received available of) has =
        (fewer_behind is_in_a3 (AcksFor of) j k came has, tt)
    by m has = tt

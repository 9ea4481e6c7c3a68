-- where IN_R1/A5 comes next, its in proxy told the server of the next channel
use Rattle.law_order.proofs.Vocabulary.{◌≡◌, ◌⊎◌, ℕ, zero, suc, ◌+◌, ◌<◌, ◌≤◌, Bool, true, List, inl, inr, refl, sym, ap, ◌∙◌, subst, arith, nat_tests, bytes_eq-Decides}
use Rattle.rh_sig.specs.declared.named.Named.TheVariants as named
use Rattle.law_moves.proofs.Vocabulary.{Cookie, Named, LegKind, ClientIn, is_of, EndMove, OnLeg, Passage, started, of_leg, BeginsIn, Has, HasOne, HasBegunIn, HasComeUp, count_on}
use Rattle.law_moves.proofs.Lemmas.{one_so}
use Rattle.law_moves.specs.PacketKinds as at_proxy
use Rattle.law_role_inproxy.proofs.Vocabulary.{rules, InProxy, first, same_cookie, PutsForWhatCame, is_leg, IsUntold}
use Rattle.law_role_client.proofs.Vocabulary.{ci, AreAllowedMoves, client_moved, StandsOnEach, is_in_r1_a1, is_in_r1_a5, total, ReplacesIns, in_answered, in_asked}
use Rattle.law_role_client_rows.specs.Putting.{OpensInChannels}
use Rattle.law_node_streams.proofs.Streams.Rising.{come_up_more as up_more}
use Rattle.law_peers_moments.proofs.GoingRound.Fronts.{are_fronts}
use Rattle.law_peers_moments.proofs.Joining.{in_front, in_reads, is_front}
use Rattle.law_peers_moments.proofs.Read.{front_one}
use Rattle.law_peers_moments.specs.GoingRound.{GoRound, announced}
use Rattle.law_peers_moments.specs.Moments.{IsJoined, IsMoment, IsPast, Moves, Numbers, Passages, ReadInTurn, client_behind, in_behind, passages, server_behind}
use Rattle.law_peers_expects.proofs.InProxyExpects.Channels.{begun_up}
use Rattle.law_peers_expects.proofs.InProxyExpects.Counts.{each_announced, some_on}
use Rattle.law_peers_expects.proofs.InProxyExpects.Fronts.{counts_one, has_counts, one_counts}
use Rattle.law_peers_expects.proofs.InProxyExpects.OnServer.{one_there, replaces_begin}
use Rattle.law_peers_expects.proofs.InProxyExpects.Past.{all_answered, was_put}
use Rattle.law_peers_expects.proofs.ClientExpects.More.{leg_within as on_kind}
use Rattle.law_peers_expects.specs.InProxyExpects.Announcing.{AnnouncesWhatCame, IsFor, Replaces}
use Rattle.law_peers_expects.specs.InProxyExpects.Expected.{AreReadWhereUp, CameUpByMoves}

-- ---- where packets stand

-- a packet that stands on a leg is one of those in a row
stands_there : (test : Named → Bool) (kind : LegKind) (first n : ℕ) (log : List OnLeg)
    → StandsOnEach test kind first log → 1 ≤ count_on test kind log n
    → (first ≤ n) × (n < first + total test kind log)
stands_there test kind first n log stands some =
    let here = stands (record { kind = kind; number = n }) in
    (grind (arith, nat_tests, here, some), grind (arith, nat_tests, here, some))

-- and each of them stands on its leg
one_stands : (test : Named → Bool) (kind : LegKind) (first n : ℕ) (log : List OnLeg)
    → StandsOnEach test kind first log → first ≤ n → n < first + total test kind log
    → 1 ≤ count_on test kind log n
one_stands test kind first n log stands least most =
    let here = stands (record { kind = kind; number = n }) in
    let same : is_of kind (record { kind = kind; number = n }) ≡ true = is_itself kind in
    grind (arith, nat_tests, here, same, least, most)
  where
    is_itself : (k : LegKind) → is_of k (record { kind = k; number = n }) ≡ true
    is_itself k = grind (arith, nat_tests)

-- ---- cookies

cookie_is : (a b : Cookie) → same_cookie a b ≡ true → a ≡ b
cookie_is a b e =
    ap (λ (bytes : List ℕ). record { 0 = bytes }) ((bytes_eq-Decides a.0 b.0).0 e)

cookie_itself : (a : Cookie) → same_cookie a a ≡ true
cookie_itself a = (bytes_eq-Decides a.0 a.0).1 refl

-- an in proxy has at most the number of a channel that it reads
pub reader_most : (reader : ℕ → ℕ) → ReadInTurn reader → (n : ℕ) → reader n ≤ n
reader_most reader h zero = let none = h.none in omega (arith, none)
reader_most reader h (suc n) = by (h.next n) (reader_most reader h n)
  where
    by : (reader (suc n) ≡ 0) ⊎ ((reader (suc n) ≡ suc n) ⊎ (reader (suc n) ≡ reader n))
        → reader n ≤ n → reader (suc n) ≤ suc n
    by (inl none) below = omega (arith, none)
    by (inr (inl own)) below = omega (arith, own)
    by (inr (inr same)) below = omega (arith, same, below)

-- ---- packets of a channel

-- IN_R1/A1 of some channel
abbrev Asking : Named → Type 0
Asking m = (cookie : Cookie) × (at_proxy.is_in_r1_a1 (same_cookie cookie) m ≡ true)

asking : (m : Named) → is_in_r1_a1 m ≡ true → Asking m
asking (named.InR1A1 version connection predecessor channel) e = (channel, cookie_itself channel)
asking m e = absurd cc

asks_begin : (cookie : Cookie) (m : Named)
    → at_proxy.is_in_r1_a1 (same_cookie cookie) m ≡ true → BeginsIn cookie m
asks_begin cookie (named.InR1A1 version connection predecessor channel) e =
    sym (cookie_is cookie channel e)
asks_begin cookie m e = absurd cc

abbrev Tells : Cookie → Named → Type 0
Tells cookie m = at_proxy.is_in_a2 (same_cookie cookie) m ≡ true

-- IN_R1/A2 tells of what came on the first ci leg, and else IN_R2/A2 does
told_by : (n : ℕ) (came : List OnLeg) (cookie : Cookie) (m : Named) → Tells cookie m
    → IsFor n came m → HasBegunIn cookie (of_leg (ci n) came) ⊎ (m ≡ named.InR2A2 cookie)
told_by n came cookie (named.InR1A2 version connection before successor window timeout) e for =
    inl (subst (λ (c : Cookie). HasBegunIn c (of_leg (ci n) came))
    (sym (cookie_is cookie successor e))
    (one_so (Replaces connection before successor) (BeginsIn successor)
    (replaces_begin connection before successor) (of_leg (ci n) came) for))
told_by n came cookie (named.InR2A2 successor) e for =
    inr (ap (λ (c : Cookie). named.InR2A2 c) (sym (cookie_is cookie successor e)))
told_by n came cookie m e for = absurd cc

-- ---- what the roles keep, at any moment

pub record Laws (numbers : Numbers) (reader : ℕ → ℕ) (moves : Moves) : Type 0 where
  pub opens : OpensInChannels numbers.client moves.client
  pub replaces : ReplacesIns (client_behind numbers moves).passage
  pub puts : (m : ℕ) → PutsForWhatCame m (in_behind numbers moves m)
  pub rounds : GoRound (client_behind numbers moves).passage (server_behind numbers moves).passage
  pub announces : (m : ℕ) → AnnouncesWhatCame m (in_behind numbers moves m)
  pub raised : (m : ℕ) → CameUpByMoves (moves.ins m) (in_behind numbers moves m)

module _ (numbers : Numbers)
    (laws : (reader : ℕ → ℕ) (moves : Moves) → IsJoined numbers reader moves
    → Laws numbers reader moves)
    (replaces : (client : List EndMove) → AreAllowedMoves numbers.client client
    → ReplacesIns (client_moved numbers.client client).passage)
    (reader : ℕ → ℕ) (moves : Moves) (moment : IsMoment numbers reader moves) where
  abbrev Ups : ℕ → Cookie → Type 0
  Ups n cookie = HasComeUp moves.client (ci n) cookie

  abbrev here : Laws numbers reader moves
  here = laws reader moves moment.now

  abbrev all : Passages
  all = passages numbers moves

  -- ---- a successor that was asked for when all were answered

  -- an in proxy put its announcement
  record Announced (n : ℕ) : Type 0 where
    cookie : Cookie
    up : Ups (suc n) cookie
    by : ℕ
    put : HasOne (Tells cookie) (of_leg (is_leg by) (in_behind numbers moves by).put)

  module _ (past : IsPast numbers moves) where
    abbrev then_moves : Moves
    then_moves = past.moves_then

    abbrev those : Passages
    those = passages numbers then_moves

    abbrev law : Laws numbers past.reader_then then_moves
    law = laws past.reader_then then_moves past.then_joined

    announced_then : (n : ℕ) → 1 ≤ n → in_asked those.client ≡ n
        → n ≤ in_answered those.client → Announced n
    announced_then n least asked answered =
        let put = of_leg (ci (suc n)) those.client.put in
        let stands = one_stands is_in_r1_a1 ClientIn 2 (suc n) those.client.put law.replaces.asks_on
        (omega (arith, least)) (omega (arith, asked)) in
        let one = one_there Asking put (counts_one Asking is_in_r1_a1 asking put stands) in
        announced_by n one.0 one.1.1.0 one.1.0 one.1.1.1
        (let round = law.rounds.ins in
        let a = round.a4_behind_a3 in
        let b = round.a3_behind_a2 in omega (arith, asked, answered, a, b))
      where
        announced_by : (n : ℕ) (m : Named) (cookie : Cookie)
            → Has m (of_leg (ci (suc n)) those.client.put)
            → at_proxy.is_in_r1_a1 (same_cookie cookie) m ≡ true
            → in_asked those.client ≤ announced those.server → Announced n
        announced_by n m cookie has is all_told =
            let test = at_proxy.is_in_r1_a1 (same_cookie cookie) in
            let put = of_leg (ci (suc n)) those.client.put in
            let counted = has_counts m test is put has in
            let more = on_kind test ClientIn those.client.put (suc n) in
            let up = begun_up numbers.client then_moves.client law.opens (suc n) cookie
            (counts_one (BeginsIn cookie) test (asks_begin cookie) put counted) in
            let each = each_announced past.reader_then those.client those.server those.ins
            those.outs (are_fronts past.reader_then those past.then_joined.joined)
            (same_cookie cookie) law.puts all_told (omega (arith, counted, more)) in
            let came = of_leg (is_leg each.0) those.server.came in
            let at_server = counts_one (Tells cookie) (at_proxy.is_in_a2 (same_cookie cookie))
            (λ x e. e) came each.1 in
            record {
              cookie = cookie;
              up = subst (λ (ms : List EndMove). HasComeUp ms (ci (suc n)) cookie) past.client.1
                  (up_more then_moves.client past.client.0 (ci (suc n)) cookie up);
              by = each.0;
              put = was_put rules (Tells cookie) (is_leg each.0)
                  (started (first (numbers.ins each.0))) (then_moves.ins each.0)
                  (moves.ins each.0) (past.ins each.0)
                  (front_one (Tells cookie) came (of_leg (is_leg each.0) (those.ins each.0).put)
                  (is_front past.reader_then those past.then_joined.joined each.0) at_server);
            }

  -- ---- at its reader

  module _ (m n : ℕ) (reads : reader n ≡ m) (up_reads : AreReadWhereUp reader moves) where
    abbrev p : Passage InProxy
    p = in_behind numbers moves m

    began_at : (j k : ℕ) (cookie : Cookie)
        → HasBegunIn cookie (of_leg (ci k) (in_behind numbers moves j).came) → Ups k cookie
    began_at j k cookie has =
        begun_up numbers.client moves.client here.opens k cookie
        (front_one (BeginsIn cookie) (of_leg (ci k) (in_behind numbers moves j).came)
        (of_leg (ci k) all.client.put) (in_front reader all moment.now.joined j k) has)

    -- the in proxy that put the announcement reads the channel
    announced_reads : (a : Announced n) → reader (suc n) ≡ a.by
    announced_reads a =
        let in_put = one_counts (Tells a.cookie) (at_proxy.is_in_a2 (same_cookie a.cookie))
        (λ x e. e) (of_leg (is_leg a.by) (in_behind numbers moves a.by).put) a.put in
        let law = (here.puts a.by).successors (same_cookie a.cookie) in
        let on = some_on (at_proxy.is_in_r1_a1 (same_cookie a.cookie)) ClientIn
        (in_behind numbers moves a.by).came (omega (arith, in_put, law)) in
        let began = counts_one (BeginsIn a.cookie) (at_proxy.is_in_r1_a1 (same_cookie a.cookie))
        (asks_begin a.cookie) (of_leg (ci on.0) (in_behind numbers moves a.by).came) on.1 in
        let same = moment.now.cookies.own ClientIn on.0 (suc n) a.cookie
        (began_at a.by on.0 a.cookie began) a.up in
        subst (λ (k : ℕ). reader k ≡ a.by) same
        (in_reads reader all moment.now.joined (BeginsIn a.cookie) a.by on.0 began)

    not_untold : Announced n → IsUntold m p n → ⊥
    not_untold a untold =
        let at_m = up_reads m (suc n) (here.raised m (suc n) untold.0) in
        let same : a.by ≡ m = sym (announced_reads a) ∙ at_m in
        let one = one_there (Tells a.cookie) (of_leg (is_leg m) p.put)
        (subst (λ (j : ℕ). HasOne (Tells a.cookie)
        (of_leg (is_leg j) (in_behind numbers moves j).put)) same a.put) in
        by one.0 one.1.0 (told_by m p.came a.cookie one.0 one.1.1 (here.announces m one.0 one.1.0))
      where
        by : (x : Named) → Has x (of_leg (is_leg m) p.put)
            → HasBegunIn a.cookie (of_leg (ci m) p.came) ⊎ (x ≡ named.InR2A2 a.cookie) → ⊥
        by x has (inl began) =
            let own = moment.now.cookies.own ClientIn m (suc n) a.cookie
            (began_at m m a.cookie began) a.up in
            let most = reader_most reader moment.now.read n in
            omega (arith, own, most, reads)
        by x has (inr is) =
            let earlier = untold.2 a.cookie
            (subst (λ (y : Named). Has y (of_leg (is_leg m) p.put)) is has) in
            let own = moment.now.cookies.own ClientIn earlier.0 (suc n) a.cookie
            (began_at m earlier.0 a.cookie earlier.2) a.up in
            let most = earlier.1 in omega (arith, own, most)

    -- IN_R1/A5 that was put there
    pub told_before : (successor : Cookie)
        → Has (named.InR1A5 successor) (of_leg (ci n) all.client.put) → IsUntold m p n → ⊥
    told_before successor has untold =
        let counts = has_counts (named.InR1A5 successor) is_in_r1_a5 refl
        (of_leg (ci n) all.client.put) has in
        let on = stands_there is_in_r1_a5 ClientIn 1 n all.client.put here.replaces.hands_over_on
        counts in
        let most = on.1 in
        let before = all_answered numbers.client replaces n moves.client moment.now.made.client on.0
        (omega (arith, most)) in
        let past = moment.client_past before.front before.later before.is in
        let asked = subst (λ (ms : List EndMove).
        in_asked (client_moved numbers.client ms).passage ≡ n) (sym past.1) before.asked in
        let answered = subst (λ (ms : List EndMove).
        n ≤ in_answered (client_moved numbers.client ms).passage) (sym past.1) before.answered in
        not_untold (announced_then past.0 n on.0 asked answered) untold

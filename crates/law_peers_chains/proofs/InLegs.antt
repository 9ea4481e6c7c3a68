-- IN channels: legs of the client, and legs of in proxies to the server
use Rattle.law_order.proofs.Vocabulary.{◌≡◌, ◌⊎◌, ℕ, zero, suc, ◌+◌, ◌≤◌, List, Some, None, inl, inr, refl, sym, ap, ◌∙◌, subst, arith, cases_eq, IsPrefix, Bool}
use Rattle.rh_audit.specs.declared.packet.First.{First}
use Rattle.rh_audit.specs.declared.packet.Met.{Met}
use Rattle.rh_audit.specs.Streams.{first_among}
use Rattle.law_moves.proofs.Vocabulary.{Cookie, Named, ClientIn, InServer, Message, of_leg, BeginsIn, count_of, HasComeUp, HasOne}
use Rattle.law_role_inproxy.proofs.Vocabulary.{is_leg, IsStream}
use Rattle.law_role_client.proofs.Vocabulary.{ci}
use Rattle.law_role_client_rows.specs.Putting.{OpenedBefore}
use Rattle.law_role_server.proofs.Vocabulary.{is_conn_b2, is_in_r1_a2, is_in_r2_a2}
use Rattle.law_audit.specs.Chains.Successors.{newest}
use Rattle.law_peers_moments.proofs.Joining.{in_front, in_reads, is_front}
use Rattle.law_peers_moments.proofs.Read.{front_count, front_one}
use Rattle.law_peers_moments.specs.Moments.{IsMoment, Moves, Numbers, Passages, passages}
use Rattle.law_peers_in_channels.proofs.InChannels.Announces.{Announces, IsInR1A1, announces}
use Rattle.law_peers_in_channels.proofs.InSuccessors.Begins as begins
use Rattle.law_peers_in_channels.proofs.ServerExpects.FirstIn.{IsConnB1}
use Rattle.law_peers_in_channels.proofs.ServerExpects.Logs.{some_counted}
use Rattle.law_peers_in_channels.specs.InChannels.{IsAnnouncedOn}
use Rattle.law_peers_chains.specs.Shown.{AreShown, mets_of}
use Rattle.law_peers_chains.proofs.Channels.{IsOne, in_asks, in_begins, in_none_anew, in_starts}
use Rattle.law_peers_chains.proofs.Fronts.{Begins, IsAny, came_met}
use Rattle.law_peers_chains.proofs.InStreams.{IsFrontOf, front_is, stream_framed, stream_starts}
use Rattle.law_peers_chains.proofs.Known.{Knows, announced_below}
use Rattle.law_peers_chains.proofs.Numbered.{AreFollowing, IsBehind, Tells, each_own, following}
use Rattle.law_peers_chains.proofs.OutLegs.{any_one}
use Rattle.law_peers_chains.proofs.OwnLegs.{read}

some_packet : (test : Named → Bool) (ms : List Message) → 1 ≤ count_of test ms → HasOne IsAny ms
some_packet test ms some = some_counted IsAny test (λ m e. tt) ms some

-- one of two kinds of packets
either_packet : (a b : Named → Bool) (ms : List Message) → 1 ≤ count_of a ms + count_of b ms
    → HasOne IsAny ms
either_packet a b ms some = by (count_of a ms) refl
  where
    by : (k : ℕ) → count_of a ms ≡ k → HasOne IsAny ms
    by zero e = some_packet b ms (omega (arith, some, e))
    by (suc k) e = some_packet a ms (omega (arith, e))

module _ (numbers : Numbers) (reader : ℕ → ℕ) (moves : Moves)
    (moment : IsMoment numbers reader moves) (know : Knows numbers reader moves)
    (mets : ℕ → List Met) where
  abbrev all : Passages
  all = passages numbers moves

  abbrev put : ℕ → List Message
  put n = of_leg (ci n) all.client.put

  -- what came on ci leg n at in proxy m
  abbrev asked : ℕ → ℕ → List Message
  asked m n = of_leg (ci n) (all.ins m).came

  abbrev told : ℕ → List Message
  told m = of_leg (is_leg m) (all.ins m).put

  abbrev came : ℕ → List Message
  came m = of_leg (is_leg m) all.server.came

  abbrev pub In : ℕ → Cookie → Type 0
  In n cookie = HasComeUp moves.client (ci n) cookie

  number : (m : ℕ) → (numbers.ins m).number ≡ m
  number = moment.now.made.in_number

  stream : (m : ℕ) → IsStream (numbers.ins m) (all.ins m).came (told m)
  stream m =
      subst (λ (k : ℕ). IsStream (numbers.ins m) (all.ins m).came (of_leg (is_leg k) (all.ins m).put))
      (number m) (know.in_order m)

  in_is : (n : ℕ) (begun : First) → HasOne (Begins begun) (put n) → IsOne In n begun
  in_is n begun has =
      in_begins numbers.client (HasComeUp moves.client) (OpenedBefore numbers.client moves.client)
      know.late_in n (put n) (know.in_channels n) begun has

  was_put : (P : Named → Type 0) (m n : ℕ) → HasOne P (asked m n) → HasOne P (put n)
  was_put P m n has =
      front_one P (asked m n) (put n) (in_front reader all moment.now.joined m n) has

  reads : (P : Named → Type 0) (m n : ℕ) → HasOne P (asked m n) → reader n ≡ m
  reads P m n has = in_reads reader all moment.now.joined P m n has

  at : (P : Named → Type 0) (m more : ℕ) → HasOne P (asked m ((numbers.ins m).number + more))
      → HasOne P (asked m (m + more))
  at P m more has = subst (λ (k : ℕ). HasOne P (asked m (k + more))) (number m) has

  own_at : (P : Named → Type 0) (m : ℕ) → HasOne P (asked m (numbers.ins m).number)
      → HasOne P (asked m m)
  own_at P m has = subst (λ (k : ℕ). HasOne P (asked m k)) (number m) has

  -- ---- a channel that is not the first

  below_on : (below : ℕ) (begun : First) → HasOne (Begins begun) (put (suc (suc below)))
      → (m : ℕ) × IsAnnouncedOn all.server m (suc below)
  below_on below begun has =
      announced_below numbers reader moves moment know below
      (in_asks numbers.client (HasComeUp moves.client) (OpenedBefore numbers.client moves.client)
      know.late_in below (put (suc (suc below))) (know.in_channels (suc (suc below)))
      (Begins begun) has)

  -- where a channel was announced, a packet came that began it
  announced_came : (m k : ℕ) → IsAnnouncedOn all.server m k → HasOne IsAny (asked m k)
  announced_came m k on = by (cases_eq m k)
    where
      tells : Announces (numbers.ins m) (all.ins m).came (came m)
      tells = announces (numbers.ins m) (all.ins m).came (told m) (stream m) (came m)
          (is_front reader all moment.now.joined m)

      first : (a b : ℕ) → count_of is_conn_b2 (came m) ≡ a → count_of is_in_r1_a2 (came m) ≡ b
          → 1 ≤ a + b → HasOne IsAny (asked m m)
      first zero b e f some =
          any_one IsInR1A1 (asked m m)
          (own_at IsInR1A1 m (tells.in_r1_a2 (omega (arith, some, f))))
      first (suc a) b e f some =
          any_one IsConnB1 (asked m m) (own_at IsConnB1 m (tells.conn_b2 (omega (arith, e))))

      by : (m ≡ k) ⊎ (m ≡ k → ⊥) → HasOne IsAny (asked m k)
      by (inl same) =
          subst (λ (j : ℕ). HasOne IsAny (asked m j)) same
          (first (count_of is_conn_b2 (came m)) (count_of is_in_r1_a2 (came m)) refl refl on.began)
      by (inr apart) =
          let least = on.least in
          let most = on.most in
          let same = number m in
          any_one IsInR1A1 (asked m k)
          (tells.next k (omega (arith, least, apart, same)) (omega (arith, most, same)))

  -- ---- of the client

  below_asked : (below : ℕ) (begun : First) → HasOne (Begins begun) (put (suc (suc below)))
      → HasOne IsAny (asked (reader (suc below)) (suc below))
  below_asked below begun has =
      let on = below_on below begun has in
      subst (λ (m : ℕ). HasOne IsAny (asked m (suc below)))
      (sym (know.announced.read on.0 (suc below) on.1))
      (announced_came on.0 (suc below) on.1)

  pub client_in : AreShown numbers reader moves ClientIn mets
      → AreFollowing In (λ k. k) mets (λ k. k)
  client_in shown =
      following In (λ k. k) mets (λ k. k) each_own
      (λ n. moment.now.cookies.one (ci n)) (moment.now.cookies.own ClientIn)
      (read In put (λ n. asked (reader n) n) mets shown
      (λ n.
      in_starts numbers.client (HasComeUp moves.client) (OpenedBefore numbers.client moves.client)
      know.late_in n (put n) (know.in_channels n)) in_is
      (λ n.
      in_none_anew numbers.client (HasComeUp moves.client)
      (OpenedBefore numbers.client moves.client) know.late_in n (put n) (know.in_channels n))
      below_asked)

  -- ---- of in proxies

  module _ (shown : AreShown numbers reader moves InServer mets) where
    abbrev pub front : ℕ → List Message
    front m = (shown m).front

    -- the channel of which the server was told last
    abbrev pub last : ℕ → ℕ
    last m = m + count_of is_in_r2_a2 (front m)

    front_of : (m : ℕ) (begun : First) → first_among (mets m) ≡ Some begun
        → IsFrontOf (numbers.ins m) (all.ins m).came (front m) begun
    front_of m begun met =
        let whole : IsPrefix (front m) (told m) =
        subst (IsPrefix (front m))
        (stream_framed (numbers.ins m) (all.ins m).came (told m) (stream m)) (shown m).of_put in
        front_is (numbers.ins m) (all.ins m).came (front m) whole.0 begun
        (subst (IsStream (numbers.ins m) (all.ins m).came) (sym whole.1) (stream m))
        (ap first_among (sym (shown m).is) ∙ met)

    asked_own : (m : ℕ) (begun : First) → first_among (mets m) ≡ Some begun
        → HasOne (Begins begun) (asked m m)
    asked_own m begun met = own_at (Begins begun) m (front_of m begun met).asked

    one_is : (m : ℕ) (begun : First) → first_among (mets m) ≡ Some begun → IsOne In m begun
    one_is m begun met = in_is m begun (was_put (Begins begun) m m (asked_own m begun met))

    positive : (m : ℕ) (begun : First) → IsOne In m begun → 1 ≤ m
    positive m begun (inl new) = let is = new.number in omega (arith, is)
    positive m begun (inr next) = let is = next.number in omega (arith, is)

    asked_last : (m : ℕ) (begun : First) → first_among (mets m) ≡ Some begun
        → HasOne (BeginsIn (newest (mets m) begun)) (asked m (last m))
    asked_last m begun met =
        subst (λ (ms : List Met). HasOne (BeginsIn (newest ms begun)) (asked m (last m)))
        (sym (shown m).is)
        (at (BeginsIn (newest (mets_of (front m)) begun)) m (count_of is_in_r2_a2 (front m))
        (front_of m begun met).last)

    tells : (m : ℕ) (begun : First) → first_among (mets m) ≡ Some begun
        → Tells In reader mets last m begun
    tells m begun met =
        let name = newest (mets m) begun in record {
          names = begins.begun_up numbers.client moves.client know.in_channels (last m) name
              (was_put (BeginsIn name) m (last m) (asked_last m begun met));
          reads = reads (BeginsIn name) m (last m) (asked_last m begun met);
          own = reads (Begins begun) m m (asked_own m begun met);
          positive = positive m begun (one_is m begun met);
        }

    first_is : (m : ℕ) (begun : First) → begun.predecessor ≡ None → IsOne In m begun → m ≡ 1
    first_is m begun none (inl new) = new.number
    first_is m begun none (inr next) = absurd (let both = sym none ∙ next.some in cc)

    -- the leg on which the channel below was announced
    announced_met : (m k : ℕ) → IsAnnouncedOn all.server m k
        → (begun : First) × (first_among (mets m) ≡ Some begun)
    announced_met m k on =
        came_met (told m) (came m) (mets m) (shown m)
        (stream_starts (numbers.ins m) (all.ins m).came (told m) (stream m)) IsAny
        (either_packet is_conn_b2 is_in_r1_a2 (came m) on.began)

    announced_last : (m k : ℕ) → IsAnnouncedOn all.server m k → k ≤ last m
    announced_last m k on =
        let more = front_count is_in_r2_a2 (came m) (front m) (shown m).of_came in
        let most = on.most in omega (arith, more, most)

    behind : (m : ℕ) (begun : First) (cookie : Cookie) → first_among (mets m) ≡ Some begun
        → begun.predecessor ≡ Some cookie → IsBehind In reader mets last m cookie
    behind m begun cookie met some = by (one_is m begun met)
      where
        same : (a b : Cookie) → Some a ≡ Some b → a ≡ b
        same a b e = cc

        by : IsOne In m begun → IsBehind In reader mets last m cookie
        by (inl new) = absurd (let both = sym new.none ∙ some in cc)
        by (inr next) =
            let one = suc next.below in
            let on = below_on next.below begun
            (subst (λ (k : ℕ). HasOne (Begins begun) (put k)) next.number
            (was_put (Begins begun) m m (asked_own m begun met))) in
            let reads_at = sym (know.announced.read on.0 one on.1) in
            let seen = announced_met on.0 one on.1 in
            record {
              below = next.below;
              number = next.number;
              names = subst (In one) (same next.before cookie (sym next.some ∙ some)) next.follows;
              begun = seen.0;
              met = subst (λ (k : ℕ). first_among (mets k) ≡ Some seen.0) reads_at seen.1;
              least = subst (λ (k : ℕ). one ≤ last k) reads_at (announced_last on.0 one on.1);
            }

    pub in_server : AreFollowing In reader mets last
    in_server =
        following In reader mets last moment.now.read
        (λ n. moment.now.cookies.one (ci n)) (moment.now.cookies.own ClientIn)
        (record {
          tells = tells;
          first = λ m begun met none. first_is m begun none (one_is m begun met);
          behind = behind;
        })

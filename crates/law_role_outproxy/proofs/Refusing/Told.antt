-- what an out proxy's state tells of what came to it
use Rattle.law_order.proofs.Vocabulary.{◌≡◌, ℕ, ◌≤◌, Bool, true, false, true≢false, List, [], ◌∷◌, ◌++◌, Ok, Err, is_some, refl, sym, ap, ◌∙◌, subst, arith, rules, IfSome, Option}
use Rattle.rh_outproxy.specs.declared.state.Channel.TheVariants as channels
use Rattle.law_moves.proofs.Vocabulary.{Ack, Cookie, Leg, FORWARDED_ROOM, Message, Waiting, empty, OnLeg, of_leg, count_of, HasBegunOut, BeginsOut, packets, is_conn_a1, is_conn_c1, is_out_r1_a3, is_out_r1_a9, is_end_b1}
use Rattle.law_moves.proofs.Lemmas.{count_append, one_more_so, here_more, other_more, leg_rises}
use Rattle.law_role_outproxy.proofs.Vocabulary.{Answer, Channel, Mark, OutProxyConfig, OutProxy, joined, is_successor, has_come, Done, taken, up, head, on_ack, on_pdu, drawn, mark, Pick, answer_by, put_ping, put_first, ack_by, co_leg, os_leg}

-- what the facts are about
pub record Seen : Type 0 where
  pub config : OutProxyConfig
  pub channel : Channel
  pub waiting : Waiting
  pub end : Mark
  pub handover : Mark
  pub finished : Bool
  pub ended : Bool

abbrev pub seen : OutProxy → Seen
seen s = record {
  config = s.config;
  channel = s.channel;
  waiting = s.waiting;
  end = s.end;
  handover = s.handover;
  finished = s.line.finished;
  ended = s.line.current.ended;
}

abbrev pub Same : OutProxy → OutProxy → Type 0
Same s t = seen t ≡ seen s

-- ---- what leaves these alone

pub same_up : (s : OutProxy) (leg : Leg) (cookie : Cookie) → Same s (up s leg cookie)
same_up s leg cookie = search rules

pub same_head : (s : OutProxy) (leg : Leg) (text : List ℕ) → Same s (head s leg text).0
same_head s leg text = search rules

pub same_ack : (s : OutProxy) (received available : ℕ) (cookie : Cookie)
    → Same s (on_ack s received available cookie).0
same_ack s received available cookie = search rules

pub same_pdu : (s : OutProxy) (bytes : List ℕ) → Same s (on_pdu s bytes).0
same_pdu s bytes = search rules

pub same_drawn : (s : OutProxy) (leg : Leg) → Same s (drawn s leg)
same_drawn s leg = search rules

pub same_mark : (s : OutProxy) (leg : Leg) → Same s (mark s leg)
same_mark s leg = search rules

abbrev pub IsQuiet : OutProxy → Pick → Type 0
IsQuiet s pick = IfSome pick (λ (one : OutProxy × Message). Same s one.0)

pub quiet_answer : (s : OutProxy) (a : Answer) → IsQuiet s (answer_by a s)
quiet_answer s a = search rules

pub quiet_ping : (s : OutProxy) → IsQuiet s (put_ping s)
quiet_ping s = search rules

pub quiet_first : (s : OutProxy) → IsQuiet s (put_first s)
quiet_first s = search rules

pub quiet_ack : (s : OutProxy) (o : Option Cookie) (a : Option Ack) → IsQuiet s (ack_by s o a)
quiet_ack s o a = search rules

-- ---- what the channel tells

-- how many packets, CONN/A1 and OUT_R1/A3 came from the client, and CONN/C1 from the server
abbrev pub Counts : Channel → ℕ → ℕ → ℕ → ℕ → Type 0
Counts channels.Unknown all a1 a3 c1 = (all ≡ 0) × (a1 ≡ 0) × (a3 ≡ 0) × (c1 ≡ 0)
Counts (channels.New connection cookie) all a1 a3 c1 = (1 ≤ all) × (a3 ≡ 0) × (c1 ≡ 0)
Counts (channels.Joined connection cookie) all a1 a3 c1 = (1 ≤ all) × (a3 ≡ 0) × (1 ≤ c1)
Counts (channels.Successor connection predecessor cookie) all a1 a3 c1 = (1 ≤ all) × (a1 ≡ 0)

-- the client began with the channel's cookie
abbrev pub IsBegun : Channel → List Message → Type 0
IsBegun channels.Unknown came = Unit {0}
IsBegun (channels.New connection cookie) came = HasBegunOut cookie came
IsBegun (channels.Joined connection cookie) came = HasBegunOut cookie came
IsBegun (channels.Successor connection predecessor cookie) came = HasBegunOut cookie came

pub begun_more : (c : Channel) (a b : List Message) → IsBegun c a → IsBegun c (a ++ b)
begun_more channels.Unknown a b h = tt
begun_more (channels.New connection cookie) a b h = one_more_so (BeginsOut cookie) a b h
begun_more (channels.Joined connection cookie) a b h = one_more_so (BeginsOut cookie) a b h
begun_more (channels.Successor connection predecessor cookie) a b h =
    one_more_so (BeginsOut cookie) a b h

pub successor_more : (c : Channel) (all a1 a3 c1 more same other : ℕ) → is_successor c ≡ true
    → Counts c all a1 a3 c1 → all ≤ more → same ≡ a1 → Counts c more same other c1
successor_more (channels.Successor connection predecessor cookie) all a1 a3 c1 more same other e
    h rise is = (
      (let at = h.0 in omega (arith, at, rise)),
      is ∙ h.1,
    )
successor_more c all a1 a3 c1 more same other e h rise is = absurd cc

-- ---- the state

pub record Told (n : ℕ) (x : Seen) (came : List OnLeg) : Type 0 where
  pub is : x.config.number ≡ n
  pub channel : Counts x.channel (packets (of_leg (co_leg n) came))
      (count_of is_conn_a1 (of_leg (co_leg n) came))
      (count_of is_out_r1_a3 (of_leg (co_leg n) came))
      (count_of is_conn_c1 (of_leg (os_leg n) came))
  pub begun : IsBegun x.channel (of_leg (co_leg n) came)
  -- nothing waits before the opening came to its end
  pub idle : is_some (joined x.channel) ≡ false → x.waiting ≡ empty FORWARDED_ROOM
  pub end : has_come x.end ≡ true → 1 ≤ count_of is_end_b1 (of_leg (os_leg n) came)
  pub handover : has_come x.handover ≡ true → 1 ≤ count_of is_out_r1_a9 (of_leg (os_leg n) came)
  -- PDUs are held in one channel, to which no END is told
  pub finished : x.finished ≡ false
  pub ended : x.ended ≡ false

module _ (n : ℕ) where
  abbrev co : Leg
  co = co_leg n

  abbrev os : Leg
  os = os_leg n

  abbrev pub Holds : OutProxy → List OnLeg → Type 0
  Holds s came = Told n (seen s) came

  -- behind a row, which takes a message or refuses it
  abbrev pub Row : OnLeg → List OnLeg → Done → Type 0
  Row one came (t, Ok taken) = Holds t (came ++ one ∷ [])
  Row one came (t, Err why) = Holds t came

  -- behind a put
  abbrev pub Put : List OnLeg → Pick → Type 0
  Put came pick = IfSome pick (λ (one : OutProxy × Message). Holds one.0 came)

  pub same_holds : (s t : OutProxy) (came : List OnLeg) → Same s t → Holds s came → Holds t came
  same_holds s t came same h = subst (λ (x : Seen). Told n x came) (sym same) h

  -- ---- one more from the server

  c1_same : (came : List OnLeg) (m : Message) → count_of is_conn_c1 (m ∷ []) ≡ 0
      → count_of is_conn_c1 (of_leg os (came ++ (os, m) ∷ []))
      ≡ count_of is_conn_c1 (of_leg os came)
  c1_same came m none =
      let all = ap (count_of is_conn_c1) (here_more os came m) in
      let both = count_append is_conn_c1 (of_leg os came) (m ∷ []) in
      omega (arith, all, both, none)

  -- the client's leg stands still
  pub still : (came : List OnLeg) (m : Message)
      → of_leg co came ≡ of_leg co (came ++ (os, m) ∷ [])
  still came m = sym (other_more co came (os, m) refl)

  module _ (x : Seen) (came : List OnLeg) (h : Told n x came) where
    counts_at : (m : Message) (k : ℕ)
        → Counts x.channel (packets (of_leg co came)) (count_of is_conn_a1 (of_leg co came))
        (count_of is_out_r1_a3 (of_leg co came)) k
        → Counts x.channel (packets (of_leg co (came ++ (os, m) ∷ [])))
        (count_of is_conn_a1 (of_leg co (came ++ (os, m) ∷ [])))
        (count_of is_out_r1_a3 (of_leg co (came ++ (os, m) ∷ []))) k
    counts_at m k counts =
        subst (λ (ms : List Message). Counts x.channel (packets ms) (count_of is_conn_a1 ms)
        (count_of is_out_r1_a3 ms) k) (still came m) counts

    pub one_more : (m : Message) → count_of is_conn_c1 (m ∷ []) ≡ 0
        → Told n x (came ++ (os, m) ∷ [])
    one_more m none = record {
      is = h.is;
      channel = counts_at m (count_of is_conn_c1 (of_leg os (came ++ (os, m) ∷ [])))
          (subst (Counts x.channel (packets (of_leg co came)) (count_of is_conn_a1 (of_leg co came))
          (count_of is_out_r1_a3 (of_leg co came))) (sym (c1_same came m none)) h.channel);
      begun = subst (IsBegun x.channel) (still came m) h.begun;
      idle = h.idle;
      end = λ e.
          let before = h.end e in
          let rise = leg_rises is_end_b1 os came (os, m) in omega (arith, before, rise);
      handover = λ e.
          let before = h.handover e in
          let rise = leg_rises is_out_r1_a9 os came (os, m) in omega (arith, before, rise);
      finished = h.finished;
      ended = h.ended;
    }

    -- other packets wait
    pub waiting_holds : (w : Waiting) → is_some (joined x.channel) ≡ true
        → Told n (record x { waiting = w }) came
    waiting_holds w known = record {
      is = h.is;
      channel = h.channel;
      begun = h.begun;
      idle = λ e. absurd (true≢false (sym known ∙ e));
      end = h.end;
      handover = h.handover;
      finished = h.finished;
      ended = h.ended;
    }

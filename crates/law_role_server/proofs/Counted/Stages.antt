-- how far the replacement of OUT channels is, by what came, what was put, and what waits
use Rattle.law_order.proofs.Vocabulary.{◌≡◌, ℕ, suc, ◌+◌, ◌≤◌, Bool, true, ◌&&◌, List, [], ◌∷◌, ◌++◌, arith, refl, ◌∙◌, false≢true, and_parts}
use Rattle.rh_sig.specs.declared.named.Named.TheVariants as named
use Rattle.law_moves.proofs.Vocabulary.{fits, Cookie, Named, each_push, OutServer, InServer, Due, Packet, own, OnLeg}
use Rattle.law_role_server.proofs.Vocabulary.{Replacement, Steady, Asked, Answered, Confirmed, Gate, lets_packet, is_steady, is_asked, is_out_r1_a1, is_out_r1_a4, is_out_r1_a5, is_out_r1_a8, is_out_r1_a9, often, leg_at, IsOnEachFrom, waiting_of, since_asked, since_answered, since_confirmed}
use Rattle.law_role_server.proofs.Counted.Logs.{often_more, on_none, on_other, on_next}
use Rattle.law_role_server.proofs.Counted.Dues.{Adds, HaveOrigins, HasOrigin, push_waits, one_waits}
use Rattle.law_role_server.proofs.Counted.Packets.{LeavesAlone}

-- ---- what is kept

-- the laws, of the replacement, the writing channel's number, and the packets that wait
pub record Kept (at : Replacement) (writing : ℕ) (dues : List Due) (came put : List OnLeg)
    : Type 0 where
  pub origins : HaveOrigins dues
  pub writes : writing ≡ suc (often is_out_r1_a9 OutServer put)
  pub asked : often is_out_r1_a1 OutServer put + waiting_of is_out_r1_a1 dues
      ≡ often is_out_r1_a9 OutServer put + since_asked at
  pub began : often is_out_r1_a4 OutServer came
      ≡ often is_out_r1_a9 OutServer put + since_answered at
  pub answered : often is_out_r1_a5 OutServer put + waiting_of is_out_r1_a5 dues
      ≡ often is_out_r1_a9 OutServer put + since_answered at
  pub confirmed : often is_out_r1_a8 InServer came
      ≡ often is_out_r1_a9 OutServer put + since_confirmed at
  pub a1_waits : waiting_of is_out_r1_a1 dues + since_answered at ≤ since_asked at
  pub a5_waits : waiting_of is_out_r1_a5 dues + since_confirmed at ≤ since_answered at
  pub a9_waits : waiting_of is_out_r1_a9 dues ≡ since_confirmed at
  pub a1_legs : IsOnEachFrom 1 is_out_r1_a1 OutServer put
  pub a4_legs : IsOnEachFrom 2 is_out_r1_a4 OutServer came
  pub a5_legs : IsOnEachFrom 1 is_out_r1_a5 OutServer put
  pub a9_legs : IsOnEachFrom 1 is_out_r1_a9 OutServer put

pub starts : Kept Steady 1 [] [] []
starts = record {
  origins = tt;
  writes = refl;
  asked = refl;
  began = refl;
  answered = refl;
  confirmed = refl;
  a1_waits = omega arith;
  a5_waits = omega arith;
  a9_waits = refl;
  a1_legs = on_none 1 is_out_r1_a1 OutServer;
  a4_legs = on_none 2 is_out_r1_a4 OutServer;
  a5_legs = on_none 1 is_out_r1_a5 OutServer;
  a9_legs = on_none 1 is_out_r1_a9 OutServer;
}

-- ---- one more in the counts

-- a message was put
record Sent (put : List OnLeg) (one : OnLeg) : Type 0 where
  a1 : often is_out_r1_a1 OutServer (put ++ one ∷ [])
      ≡ often is_out_r1_a1 OutServer put + often is_out_r1_a1 OutServer (one ∷ [])
  a5 : often is_out_r1_a5 OutServer (put ++ one ∷ [])
      ≡ often is_out_r1_a5 OutServer put + often is_out_r1_a5 OutServer (one ∷ [])
  a9 : often is_out_r1_a9 OutServer (put ++ one ∷ [])
      ≡ often is_out_r1_a9 OutServer put + often is_out_r1_a9 OutServer (one ∷ [])

sent_more : (put : List OnLeg) (one : OnLeg) → Sent put one
sent_more put one = record {
  a1 = often_more is_out_r1_a1 OutServer put one;
  a5 = often_more is_out_r1_a5 OutServer put one;
  a9 = often_more is_out_r1_a9 OutServer put one;
}

-- it came
record Heard (came : List OnLeg) (one : OnLeg) : Type 0 where
  a4 : often is_out_r1_a4 OutServer (came ++ one ∷ [])
      ≡ often is_out_r1_a4 OutServer came + often is_out_r1_a4 OutServer (one ∷ [])
  a8 : often is_out_r1_a8 InServer (came ++ one ∷ [])
      ≡ often is_out_r1_a8 InServer came + often is_out_r1_a8 InServer (one ∷ [])

heard_more : (came : List OnLeg) (one : OnLeg) → Heard came one
heard_more came one = record {
  a4 = often_more is_out_r1_a4 OutServer came one;
  a8 = often_more is_out_r1_a8 InServer came one;
}

-- a packet of the server's own is due
record Pushed (dues : List Due) (packet : Named) : Type 0 where
  a1 : waiting_of is_out_r1_a1 (dues ++ own packet ∷ [])
      ≡ waiting_of is_out_r1_a1 dues + one_waits is_out_r1_a1 packet
  a5 : waiting_of is_out_r1_a5 (dues ++ own packet ∷ [])
      ≡ waiting_of is_out_r1_a5 dues + one_waits is_out_r1_a5 packet
  a9 : waiting_of is_out_r1_a9 (dues ++ own packet ∷ [])
      ≡ waiting_of is_out_r1_a9 dues + one_waits is_out_r1_a9 packet

pushed_more : (dues : List Due) (packet : Named) → Pushed dues packet
pushed_more dues packet = record {
  a1 = push_waits is_out_r1_a1 dues (own packet);
  a5 = push_waits is_out_r1_a5 dues (own packet);
  a9 = push_waits is_out_r1_a9 dues (own packet);
}

-- what came is none of a replacement
abbrev pub IsQuiet : OnLeg → Type 0
IsQuiet one = (often is_out_r1_a4 OutServer (one ∷ []) ≡ 0)
    × (often is_out_r1_a8 InServer (one ∷ []) ≡ 0)

pub came_quiet : (at : Replacement) (writing : ℕ) (dues : List Due) (came put : List OnLeg)
    (one : OnLeg) → IsQuiet one → Kept at writing dues came put
    → Kept at writing dues (came ++ one ∷ []) put
came_quiet at writing dues came put one quiet h = record {
  origins = h.origins;
  writes = h.writes;
  asked = h.asked;
  began = omega (arith, heard.a4, quiet.0, h.began);
  answered = h.answered;
  confirmed = omega (arith, heard.a8, quiet.1, h.confirmed);
  a1_waits = h.a1_waits;
  a5_waits = h.a5_waits;
  a9_waits = h.a9_waits;
  a1_legs = h.a1_legs;
  a4_legs = on_other 2 is_out_r1_a4 OutServer came one quiet.0 h.a4_legs;
  a5_legs = h.a5_legs;
  a9_legs = h.a9_legs;
}
  where
    heard : Heard came one
    heard = heard_more came one

-- nor is what was put
abbrev pub IsQuietPut : OnLeg → Type 0
IsQuietPut one = (often is_out_r1_a1 OutServer (one ∷ []) ≡ 0)
    × (often is_out_r1_a5 OutServer (one ∷ []) ≡ 0)
    × (often is_out_r1_a9 OutServer (one ∷ []) ≡ 0)

pub put_quiet : (at : Replacement) (writing : ℕ) (dues : List Due) (came put : List OnLeg)
    (one : OnLeg) → IsQuietPut one → Kept at writing dues came put
    → Kept at writing dues came (put ++ one ∷ [])
put_quiet at writing dues came put one quiet h = record {
  origins = h.origins;
  writes = omega (arith, sent.a9, quiet.2, h.writes);
  asked = omega (arith, sent.a1, sent.a9, quiet.0, quiet.2, h.asked);
  began = omega (arith, sent.a9, quiet.2, h.began);
  answered = omega (arith, sent.a5, sent.a9, quiet.1, quiet.2, h.answered);
  confirmed = omega (arith, sent.a9, quiet.2, h.confirmed);
  a1_waits = h.a1_waits;
  a5_waits = h.a5_waits;
  a9_waits = h.a9_waits;
  a1_legs = on_other 1 is_out_r1_a1 OutServer put one quiet.0 h.a1_legs;
  a4_legs = h.a4_legs;
  a5_legs = on_other 1 is_out_r1_a5 OutServer put one quiet.1 h.a5_legs;
  a9_legs = on_other 1 is_out_r1_a9 OutServer put one quiet.2 h.a9_legs;
}
  where
    sent : Sent put one
    sent = sent_more put one

-- as many of these wait
same_waits : (at : Replacement) (writing : ℕ) (dues new : List Due) (came put : List OnLeg)
    → HaveOrigins new → waiting_of is_out_r1_a1 new ≡ waiting_of is_out_r1_a1 dues
    → waiting_of is_out_r1_a5 new ≡ waiting_of is_out_r1_a5 dues
    → waiting_of is_out_r1_a9 new ≡ waiting_of is_out_r1_a9 dues
    → Kept at writing dues came put → Kept at writing new came put
same_waits at writing dues new came put all same1 same5 same9 h = record {
  origins = all;
  writes = h.writes;
  asked = omega (arith, h.asked, same1);
  began = h.began;
  answered = omega (arith, h.answered, same5);
  confirmed = h.confirmed;
  a1_waits = omega (arith, h.a1_waits, same1);
  a5_waits = omega (arith, h.a5_waits, same5);
  a9_waits = same9 ∙ h.a9_waits;
  a1_legs = h.a1_legs;
  a4_legs = h.a4_legs;
  a5_legs = h.a5_legs;
  a9_legs = h.a9_legs;
}

-- others wait besides
pub others_wait : (kind : Named → Bool) → LeavesAlone kind → (at : Replacement) (writing : ℕ)
    (dues new : List Due) (came put : List OnLeg) → Adds kind dues new
    → Kept at writing dues came put → Kept at writing new came put
others_wait kind alone at writing dues new came put adds h =
    same_waits at writing dues new came put (adds.origins h.origins)
    (adds.counts is_out_r1_a1 alone.a1) (adds.counts is_out_r1_a5 alone.a5)
    (adds.counts is_out_r1_a9 alone.a9) h

-- ---- a replacement goes on

origins_push : (dues : List Due) (packet : Named) → HaveOrigins dues
    → HaveOrigins (dues ++ own packet ∷ [])
origins_push dues packet all = each_push HasOrigin dues (own packet) all refl

-- it is asked for
pub asks_kept : (at : Replacement) (writing : ℕ) (dues : List Due) (came put : List OnLeg)
    → is_steady at ≡ true → Kept at writing dues came put
    → Kept Asked writing (dues ++ own (named.OutR1A1 0) ∷ []) came put
asks_kept (Answered successor) writing dues came put steady h = absurd (false≢true steady)
asks_kept Asked writing dues came put steady h = absurd (false≢true steady)
asks_kept Confirmed writing dues came put steady h = absurd (false≢true steady)
asks_kept Steady writing dues came put steady h = record {
  origins = origins_push dues (named.OutR1A1 0) h.origins;
  writes = h.writes;
  asked = omega (arith, h.asked, pushed.a1);
  began = h.began;
  answered = omega (arith, h.answered, pushed.a5);
  confirmed = h.confirmed;
  a1_waits = omega (arith, h.a1_waits, pushed.a1);
  a5_waits = omega (arith, h.a5_waits, pushed.a5);
  a9_waits = omega (arith, h.a9_waits, pushed.a9);
  a1_legs = h.a1_legs;
  a4_legs = h.a4_legs;
  a5_legs = h.a5_legs;
  a9_legs = h.a9_legs;
}
  where
    pushed : Pushed dues (named.OutR1A1 0)
    pushed = pushed_more dues (named.OutR1A1 0)

-- OUT_R1/A4 came on the leg behind, where OUT_R1/A1 doesn't wait
pub begins_kept : (at : Replacement) (writing : ℕ) (dues : List Due) (came put : List OnLeg) (n : ℕ)
    (version : ℕ) (connection predecessor successor : Cookie) (lifetime window timeout : ℕ)
    → is_asked at ≡ true → waiting_of is_out_r1_a1 dues ≡ 0 → n ≡ writing + 1
    → Kept at writing dues came put
    → Kept (Answered successor) writing (dues ++ own (named.OutR1A5 0 1 timeout) ∷ [])
    (came ++ (
      leg_at OutServer n,
      Packet
          (named.OutR1A4 version connection predecessor successor lifetime window timeout),
    ) ∷ []) put
begins_kept Steady writing dues came put n v a b c d e f asked gone next h =
    absurd (false≢true asked)
begins_kept (Answered successor) writing dues came put n v a b c d e f asked gone next h =
    absurd (false≢true asked)
begins_kept Confirmed writing dues came put n v a b c d e f asked gone next h =
    absurd (false≢true asked)
begins_kept Asked writing dues came put n v a b c d e f asked gone next h = record {
  origins = origins_push dues (named.OutR1A5 0 1 f) h.origins;
  writes = h.writes;
  asked = omega (arith, h.asked, pushed.a1);
  began = omega (arith, h.began, heard.a4);
  answered = omega (arith, h.answered, pushed.a5);
  confirmed = omega (arith, h.confirmed, heard.a8);
  a1_waits = omega (arith, gone, pushed.a1);
  a5_waits = omega (arith, h.a5_waits, pushed.a5);
  a9_waits = omega (arith, h.a9_waits, pushed.a9);
  a1_legs = h.a1_legs;
  a4_legs = on_next 2 n is_out_r1_a4 OutServer came (Packet (named.OutR1A4 v a b c d e f)) refl
      (omega (arith, next, h.writes, h.began)) h.a4_legs;
  a5_legs = h.a5_legs;
  a9_legs = h.a9_legs;
}
  where
    pushed : Pushed dues (named.OutR1A5 0 1 f)
    pushed = pushed_more dues (named.OutR1A5 0 1 f)

    heard : Heard came (leg_at OutServer n, Packet (named.OutR1A4 v a b c d e f))
    heard = heard_more came (leg_at OutServer n, Packet (named.OutR1A4 v a b c d e f))

-- OUT_R1/A8 came, where OUT_R1/A5 doesn't wait
pub confirms_kept : (cookie : Cookie) (writing : ℕ) (dues : List Due) (came put : List OnLeg)
    (n destination : ℕ) (successor : Cookie) → waiting_of is_out_r1_a5 dues ≡ 0
    → Kept (Answered cookie) writing dues came put
    → Kept Confirmed writing (dues ++ own named.OutR1A9 ∷ [])
    (came ++ (leg_at InServer n, Packet (named.OutR1A8 destination successor)) ∷ []) put
confirms_kept cookie writing dues came put n destination successor gone h = record {
  origins = origins_push dues named.OutR1A9 h.origins;
  writes = h.writes;
  asked = omega (arith, h.asked, pushed.a1);
  began = omega (arith, h.began, heard.a4);
  answered = omega (arith, h.answered, pushed.a5);
  confirmed = omega (arith, h.confirmed, heard.a8);
  a1_waits = omega (arith, h.a1_waits, pushed.a1);
  a5_waits = omega (arith, gone, pushed.a5);
  a9_waits = omega (arith, h.a9_waits, pushed.a9);
  a1_legs = h.a1_legs;
  a4_legs = on_other 2 is_out_r1_a4 OutServer came one refl h.a4_legs;
  a5_legs = h.a5_legs;
  a9_legs = h.a9_legs;
}
  where
    pushed : Pushed dues named.OutR1A9
    pushed = pushed_more dues named.OutR1A9

    heard : Heard came (leg_at InServer n, Packet (named.OutR1A8 destination successor))
    heard = heard_more came (leg_at InServer n, Packet (named.OutR1A8 destination successor))

    one : OnLeg
    one = (leg_at InServer n, Packet (named.OutR1A8 destination successor))

-- ---- a packet that waited is put

-- OUT_R1/A9 ends the replacement, and the successor writes
abbrev pub at_behind : Named → Replacement → Replacement
at_behind named.OutR1A9 at = Steady
at_behind packet at = at

abbrev pub writing_behind : Named → ℕ → ℕ
writing_behind named.OutR1A9 writing = writing + 1
writing_behind packet writing = writing

pub asked_once : (at : Replacement) → since_asked at ≤ 1
asked_once Steady = omega arith
asked_once Asked = omega arith
asked_once (Answered successor) = omega arith
asked_once Confirmed = omega arith

answered_once : (at : Replacement) → since_answered at ≤ 1
answered_once Steady = omega arith
answered_once Asked = omega arith
answered_once (Answered successor) = omega arith
answered_once Confirmed = omega arith

-- this one went, and the others are left
pub record Goes (packet : Named) (dues left : List Due) : Type 0 where
  pub a1 : waiting_of is_out_r1_a1 left + one_waits is_out_r1_a1 packet
      ≡ waiting_of is_out_r1_a1 dues
  pub a5 : waiting_of is_out_r1_a5 left + one_waits is_out_r1_a5 packet
      ≡ waiting_of is_out_r1_a5 dues
  pub a9 : waiting_of is_out_r1_a9 left + one_waits is_out_r1_a9 packet
      ≡ waiting_of is_out_r1_a9 dues
  pub origins : HaveOrigins left

module _ (writing : ℕ) (dues left : List Due) (came put : List OnLeg) (n : ℕ) where
  a9_goes : (at : Replacement) → Goes named.OutR1A9 dues left → n ≡ writing
      → Kept at writing dues came put
      → Kept Steady (writing + 1) left came (put ++ (leg_at OutServer n, Packet named.OutR1A9) ∷ [])
  a9_goes Steady goes here h = absurd (omega (arith, goes.a9, h.a9_waits))
  a9_goes Asked goes here h = absurd (omega (arith, goes.a9, h.a9_waits))
  a9_goes (Answered successor) goes here h = absurd (omega (arith, goes.a9, h.a9_waits))
  a9_goes Confirmed goes here h = record {
    origins = goes.origins;
    writes = omega (arith, h.writes, sent.a9);
    asked = omega (arith, h.asked, goes.a1, sent.a1, sent.a9);
    began = omega (arith, h.began, sent.a9);
    answered = omega (arith, h.answered, goes.a5, sent.a5, sent.a9);
    confirmed = omega (arith, h.confirmed, sent.a9);
    a1_waits = omega (arith, h.a1_waits, goes.a1);
    a5_waits = omega (arith, h.a5_waits, goes.a5);
    a9_waits = omega (arith, h.a9_waits, goes.a9);
    a1_legs = on_other 1 is_out_r1_a1 OutServer put one refl h.a1_legs;
    a4_legs = h.a4_legs;
    a5_legs = on_other 1 is_out_r1_a5 OutServer put one refl h.a5_legs;
    a9_legs = on_next 1 n is_out_r1_a9 OutServer put (Packet named.OutR1A9) refl
        (omega (arith, here, h.writes)) h.a9_legs;
  }
    where
      sent : Sent put (leg_at OutServer n, Packet named.OutR1A9)
      sent = sent_more put (leg_at OutServer n, Packet named.OutR1A9)

      one : OnLeg
      one = (leg_at OutServer n, Packet named.OutR1A9)

  a1_goes : (at : Replacement) (to : ℕ) → Goes (named.OutR1A1 to) dues left → n ≡ writing
      → Kept at writing dues came put
      → Kept at writing left came (put ++ (leg_at OutServer n, Packet (named.OutR1A1 to)) ∷ [])
  a1_goes at to goes here h = record {
    origins = goes.origins;
    writes = omega (arith, h.writes, sent.a9);
    asked = omega (arith, h.asked, goes.a1, sent.a1, sent.a9);
    began = omega (arith, h.began, sent.a9);
    answered = omega (arith, h.answered, goes.a5, sent.a5, sent.a9);
    confirmed = omega (arith, h.confirmed, sent.a9);
    a1_waits = omega (arith, h.a1_waits, goes.a1);
    a5_waits = omega (arith, h.a5_waits, goes.a5);
    a9_waits = omega (arith, h.a9_waits, goes.a9);
    a1_legs =
        let once = asked_once at in
        on_next 1 n is_out_r1_a1 OutServer put (Packet (named.OutR1A1 to)) refl
        (omega (arith, here, h.writes, h.asked, h.a1_waits, goes.a1, once)) h.a1_legs;
    a4_legs = h.a4_legs;
    a5_legs = on_other 1 is_out_r1_a5 OutServer put one refl h.a5_legs;
    a9_legs = on_other 1 is_out_r1_a9 OutServer put one refl h.a9_legs;
  }
    where
      sent : Sent put (leg_at OutServer n, Packet (named.OutR1A1 to))
      sent = sent_more put (leg_at OutServer n, Packet (named.OutR1A1 to))

      one : OnLeg
      one = (leg_at OutServer n, Packet (named.OutR1A1 to))

  a5_goes : (at : Replacement) (to version timeout : ℕ)
      → Goes (named.OutR1A5 to version timeout) dues left → n ≡ writing
      → Kept at writing dues came put
      → Kept at writing left came
      (put ++ (leg_at OutServer n, Packet (named.OutR1A5 to version timeout)) ∷ [])
  a5_goes at to version timeout goes here h = record {
    origins = goes.origins;
    writes = omega (arith, h.writes, sent.a9);
    asked = omega (arith, h.asked, goes.a1, sent.a1, sent.a9);
    began = omega (arith, h.began, sent.a9);
    answered = omega (arith, h.answered, goes.a5, sent.a5, sent.a9);
    confirmed = omega (arith, h.confirmed, sent.a9);
    a1_waits = omega (arith, h.a1_waits, goes.a1);
    a5_waits = omega (arith, h.a5_waits, goes.a5);
    a9_waits = omega (arith, h.a9_waits, goes.a9);
    a1_legs = on_other 1 is_out_r1_a1 OutServer put one refl h.a1_legs;
    a4_legs = h.a4_legs;
    a5_legs =
        let once = answered_once at in
        on_next 1 n is_out_r1_a5 OutServer put (Packet (named.OutR1A5 to version timeout)) refl
        (omega (arith, here, h.writes, h.answered, h.a5_waits, goes.a5, once)) h.a5_legs;
    a9_legs = on_other 1 is_out_r1_a9 OutServer put one refl h.a9_legs;
  }
    where
      sent : Sent put (leg_at OutServer n, Packet (named.OutR1A5 to version timeout))
      sent = sent_more put (leg_at OutServer n, Packet (named.OutR1A5 to version timeout))

      one : OnLeg
      one = (leg_at OutServer n, Packet (named.OutR1A5 to version timeout))

  -- each goes on the writing channel
  pub goes_kept : (at : Replacement) (g : Gate) (packet : Named) → lets_packet g packet ≡ true
      → (g.is_writing ≡ true → n ≡ writing) → Goes packet dues left
      → Kept at writing dues came put
      → Kept (at_behind packet at) (writing_behind packet writing) left came
      (put ++ (leg_at OutServer n, Packet packet) ∷ [])
  goes_kept at g (named.OutR1A1 to) may here goes h =
      a1_goes at to goes (here (and_parts g.is_writing (fits g.meter 28) may).0) h
  goes_kept at g (named.OutR1A5 to version timeout) may here goes h =
      a5_goes at to version timeout goes
      (here (and_parts g.is_writing (fits g.meter 44) may).0) h
  goes_kept at g named.OutR1A9 may here goes h =
      a9_goes at goes (here (and_parts g.is_writing (g.hands_over && fits g.meter 24) may).0) h
  goes_kept at g packet may here goes h =
      put_quiet at writing left came put (leg_at OutServer n, Packet packet) (refl, refl, refl)
      (same_waits at writing dues left came put goes.origins (omega (arith, goes.a1))
      (omega (arith, goes.a5)) (omega (arith, goes.a9)) h)

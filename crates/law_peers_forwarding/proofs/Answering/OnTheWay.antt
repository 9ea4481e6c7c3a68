-- answers for IN channels come before a wish for an OUT channel, on the way to the client
use Rattle.law_order.proofs.Vocabulary.{◌≡◌, ℕ, suc, ◌≤◌, Bool, true, false, if◌then◌else◌, List, [], ◌∷◌, ◌++◌, arith, refl, sym, ap, ◌∙◌, subst, IsPrefix}
use Rattle.rh_sig.specs.declared.named.Named.TheVariants as named
use Rattle.law_moves.proofs.Vocabulary.{Named, is_ping, Message, Text, Pdu, Packet, of_leg, all_read_of, is_out_r1_a1, is_out_r1_a2}
use Rattle.law_role_client.proofs.Vocabulary.{is_in_a4}
use Rattle.law_role_outproxy.proofs.Vocabulary.{co_leg, os_leg}
use Rattle.law_peers_moments.proofs.Joining.{co_back, os_back}
use Rattle.law_peers_moments.specs.Moments.{AreJoined, Passages}
use Rattle.law_peers_room.specs.OutRoom.Waits.{is_in_a3}
use Rattle.law_peers_forwarding.proofs.Answering.Until.{until_rises}
use Rattle.law_peers_forwarding.specs.Answering.Passing.{AnswersComeBefore, AnswersKeepBefore, count_until}

-- no Ping passes the test
abbrev IsNoPing : (Named → Bool) → Type 0
IsNoPing test = (m : Named) → is_ping m ≡ true → test m ≡ false

module _ (test stop : Named → Bool) (none : IsNoPing test) (other : IsNoPing stop) where
  read_until : (put : List Message)
      → count_until test stop (all_read_of put) ≡ count_until test stop put
  read_until [] = refl
  read_until (Text bytes ∷ put) = read_until put
  read_until (Pdu pdu ∷ put) = read_until put
  read_until (Packet m ∷ put) = by (is_ping m) refl (read_until put)
    where
      by : (t : Bool) → is_ping m ≡ t
          → count_until test stop (all_read_of put) ≡ count_until test stop put
          → count_until test stop ((if t then [] else Packet m ∷ []) ++ all_read_of put)
          ≡ count_until test stop (Packet m ∷ put)
      by true e rest =
          let k = count_until test stop put in
          rest
          ∙ (sym (ap (λ (t : Bool). if t then suc k else k) (none m e))
          ∙ sym (ap (λ (t : Bool). if t then 0 else if test m then suc k else k) (other m e)))
      by false e rest =
          ap (λ (k : ℕ). if stop m then 0 else if test m then suc k else k) rest

  pub front_until : (came put : List Message) → IsPrefix came (all_read_of put)
      → count_until test stop came ≤ count_until test stop put
  front_until came put p =
      subst (λ (n : ℕ). count_until test stop came ≤ n) (read_until put)
      (subst (λ (all : List Message). count_until test stop came ≤ count_until test stop all) p.1
      (until_rises test stop came p.0))

no_answer : IsNoPing is_in_a4
no_answer named.Ping e = refl
no_answer m e = absurd (cc)

no_wish : IsNoPing is_out_r1_a2
no_wish named.Ping e = refl
no_wish m e = absurd (cc)

no_taken : IsNoPing is_in_a3
no_taken named.Ping e = refl
no_taken m e = absurd (cc)

no_asked : IsNoPing is_out_r1_a1
no_asked named.Ping e = refl
no_asked m e = absurd (cc)

pub come_before : (reader : ℕ → ℕ) (all : Passages) → AreJoined reader all
    → ((n : ℕ) → AnswersKeepBefore n (all.outs n)) → (n : ℕ)
    → AnswersComeBefore n all.client all.server
come_before reader all joined keeps n =
    let first =
    front_until is_in_a4 is_out_r1_a2 no_answer no_wish (of_leg (co_leg n) all.client.came)
    (of_leg (co_leg n) (all.outs n).put) (co_back reader all joined n) in
    let passed = keeps n in
    let last =
    front_until is_in_a3 is_out_r1_a1 no_taken no_asked (of_leg (os_leg n) (all.outs n).came)
    (of_leg (os_leg n) all.server.put) (os_back reader all joined n) in
    omega (arith, first, passed, last)

-- before CONN/C1 is put, nothing goes on the OUT channel but acknowledgements to out proxies
use Rattle.rh_keep.specs.Meters.{started}
use Rattle.law_order.proofs.Vocabulary.{◌≡◌, ◌⊎◌, inl, inr, ℕ, zero, suc, ◌==◌, ◌&&◌, Bool, true, false, true≢false, if◌then◌else◌, nat_lt, List, [], ◌∷◌, ◌++◌, arith, refl, sym, ap, ◌∙◌, subst, false≢true, and_parts, and_from, nat_tests, IfSome, slice_get, slice_set, remove, AllByRecursion, list_any}
use Rattle.rh_sig.specs.declared.named.Named.TheVariants as named
use Rattle.rh_server.specs.declared.state.Stage.TheVariants as stage
use Rattle.law_moves.proofs.Vocabulary.{may_send, Meter, may_put, fits, by_test, same_number, Named, each_push, OutServer, Due, Forwarded, Waiting, own, to_forward, takes, edge_of, better, merged, with_due, pushed, count, forwarded, without_first, OnLeg, of_kind}
use Rattle.law_moves.proofs.Lemmas.{all_append, kind_more}
use Rattle.law_role_server.proofs.Vocabulary.{Stage, OutLeg, Replacement, Gate, lets, lets_packet, may_go, may_end, Server, is_steady, same_cookie, gate, counts, was_put, is_ack_to, is_conn_c1, since_open, MayGoBefore}
use Rattle.law_role_server.proofs.Counted.Dues.{FirstIsC1}

-- ---- acknowledgements to out proxies alone

abbrev pub AreAcks : List Due → Type 0
AreAcks dues = AllByRecursion (λ (due : Due). is_ack_to 3 due.packet ≡ true) dues

pub acks_forwarded : (packet : Named) → is_ack_to 3 packet ≡ true → (w : Waiting)
    → AreAcks w.due → AreAcks (forwarded w packet).0.due
acks_forwarded packet is w all =
    by_test Forwards (list_any (takes packet) w.due) (with_due w (merged w.due packet), true) _
    (λ t. merges w.due all)
    (λ t. by_test Forwards (nat_lt (count Forwarded w.due) w.room)
    (pushed w (to_forward packet), true) (w, false)
    (λ u. each_push (λ (due : Due). is_ack_to 3 due.packet ≡ true) w.due (to_forward packet) all is)
    (λ u. all))
  where
    Forwards : Waiting × Bool → Type 0
    Forwards x = AreAcks x.0.due

    merges : (dues : List Due) → AreAcks dues → AreAcks (merged dues packet)
    merges [] all = tt
    merges (due ∷ dues) all =
        by_test AreAcks (takes packet due) (better due packet ∷ dues) (due ∷ merged dues packet)
        (λ t. (
          by_test (λ (d : Due). is_ack_to 3 d.packet ≡ true)
              (nat_lt (edge_of packet) (edge_of due.packet)) due
              (record { packet = packet; origin = due.origin }) (λ u. all.0) (λ u. is),
          all.1,
        ))
        (λ t. (all.0, merges dues all.1))

pub acks_left : (may_go : Due → Bool) (dues : List Due) → AreAcks dues
    → AreAcks (without_first may_go dues)
acks_left may_go [] all = tt
acks_left may_go (due ∷ dues) all =
    by_test AreAcks (may_go due) dues (due ∷ without_first may_go dues) (λ t. all.1)
    (λ t. (all.0, acks_left may_go dues all.1))

-- CONN/C1 behind them
pub c1_behind : (dues : List Due) (window timeout : ℕ) → AreAcks dues
    → FirstIsC1 (dues ++ own (named.ConnC1 1 window timeout) ∷ [])
c1_behind [] window timeout all = inl refl
c1_behind (due ∷ dues) window timeout all = inr (all.0, c1_behind dues window timeout all.1)

-- ---- os legs

-- the first OUT channel's leg has room for CONN/C1, or is none yet
abbrev pub LetsC1 : OutLeg → Type 0
LetsC1 leg =
    leg.number ≡ 1 → (may_put leg.meter 44 ≡ true) ⊎ (leg.meter ≡ started 0 0)

module _ (P : OutLeg → Type 0) where
  pub legs_at : (xs : List OutLeg) (place : ℕ) → AllByRecursion P xs → IfSome (slice_get xs place) P
  legs_at [] place all = tt
  legs_at (x ∷ xs) zero all = all.0
  legs_at (x ∷ xs) (suc place) all = legs_at xs place all.1

  pub legs_set : (xs : List OutLeg) (place : ℕ) (x : OutLeg) → P x → AllByRecursion P xs
      → AllByRecursion P (slice_set xs place x)
  legs_set [] place x here all = tt
  legs_set (y ∷ xs) zero x here all = (here, all.1)
  legs_set (y ∷ xs) (suc place) x here all = (all.0, legs_set xs place x here all.1)

  pub legs_removed : (xs : List OutLeg) (place : ℕ) → AllByRecursion P xs
      → AllByRecursion P (remove xs place)
  legs_removed [] zero all = tt
  legs_removed [] (suc place) all = tt
  legs_removed (x ∷ xs) zero all = all.1
  legs_removed (x ∷ xs) (suc place) all = (all.0, legs_removed xs place all.1)

-- ---- what is kept

-- what it is about
pub record View : Type 0 where
  pub at : Stage
  pub replacing : Replacement
  pub has_next : Bool
  pub waiting : Waiting
  pub writing : ℕ
  pub outs : List OutLeg

abbrev pub view : Server → View
view s = record {
  at = s.stage;
  replacing = s.replacement;
  has_next = s.line.has_next;
  waiting = s.waiting;
  writing = s.writing;
  outs = s.outs;
}

-- while CONN/C1 was not put
pub record IsBefore (x : View) (put : List OnLeg) : Type 0 where
  pub steady : since_open x.at ≡ 0 → is_steady x.replacing ≡ true
  pub lone : since_open x.at ≡ 0 → x.has_next ≡ false
  pub acks : since_open x.at ≡ 0 → AreAcks x.waiting.due
  pub first : since_open x.at ≡ 1 → FirstIsC1 x.waiting.due
  pub writes : x.writing ≡ 1
  pub legs : AllByRecursion LetsC1 x.outs
  pub puts : AllByRecursion MayGoBefore (of_kind OutServer put)

abbrev pub Before : Server → List OnLeg → Type 0
Before s put = IsBefore (view s) put

pub same_before : (s t : Server) (put : List OnLeg) → view t ≡ view s → Before s put
    → Before t put
same_before s t put same h = subst (λ (x : View). IsBefore x put) (sym same) h

-- the server is not open yet, or it is
pub open_or_not : (at : Stage) → (since_open at ≡ 0) ⊎ (since_open at ≡ 1)
open_or_not stage.Waits = inl refl
open_or_not (stage.OutCame known) = inl refl
open_or_not (stage.InCame known window timeout) = inl refl
open_or_not (stage.Open known) = inr refl
open_or_not stage.Ended = inr refl

-- of an open server
pub open_before : (s t : Server) (put : List OnLeg) → since_open s.stage ≡ 1
    → since_open t.stage ≡ 1 → t.writing ≡ s.writing → AllByRecursion LetsC1 t.outs
    → (FirstIsC1 s.waiting.due → FirstIsC1 t.waiting.due) → Before s put → Before t put
open_before s t put was is same legs firsts h = record {
  steady = λ e. absurd (omega (arith, e, is));
  lone = λ e. absurd (omega (arith, e, is));
  acks = λ e. absurd (omega (arith, e, is));
  first = λ e. firsts (h.first was);
  writes = same ∙ h.writes;
  legs = legs;
  puts = h.puts;
}

-- other os legs
pub legs_before : (s : Server) (outs : List OutLeg) (put : List OnLeg)
    → AllByRecursion LetsC1 outs → Before s put → Before (record s { outs = outs }) put
legs_before s outs put legs h = record {
  steady = h.steady;
  lone = h.lone;
  acks = h.acks;
  first = h.first;
  writes = h.writes;
  legs = legs;
  puts = h.puts;
}

-- what was put may go before
pub put_before : (s : Server) (put : List OnLeg) (one : OnLeg)
    → AllByRecursion MayGoBefore (of_kind OutServer (one ∷ [])) → Before s put
    → Before s (put ++ one ∷ [])
put_before s put one may h = record {
  steady = h.steady;
  lone = h.lone;
  acks = h.acks;
  first = h.first;
  writes = h.writes;
  legs = h.legs;
  puts = subst (AllByRecursion MayGoBefore) (sym (kind_more OutServer put one))
      (all_append MayGoBefore (of_kind OutServer put) (of_kind OutServer (one ∷ [])) h.puts may);
}

-- ---- what a leg lets go

-- it lets nothing go but acknowledgements to out proxies
pub record LetsAcks (s : Server) (leg : OutLeg) : Type 0 where
  pub only : (due : Due) → lets (gate s leg) due ≡ true → is_ack_to 3 due.packet ≡ true
  pub no_pdu : (len : ℕ) → may_go leg s.writing len ≡ true → ⊥
  pub no_end : may_end leg s.writing ≡ true → ⊥

-- or CONN/C1 too
abbrev pub LetsC1Go : Server → OutLeg → Type 0
LetsC1Go s leg = (due : Due) → is_conn_c1 due.packet ≡ true → lets (gate s leg) due ≡ true

pub no_false : (b : Bool) → b && false ≡ true → ⊥
no_false true e = false≢true e
no_false false e = false≢true e

-- a gate that no packet of the writing channel fits
record IsShut (g : Gate) : Type 0 where
  fit : (m : ℕ) → g.is_writing && fits g.meter (suc m) ≡ true → ⊥
  put : (m : ℕ) → g.is_writing && may_put g.meter (suc m) ≡ true → ⊥

shut_acks : (g : Gate) → IsShut g → (packet : Named) → lets_packet g packet ≡ true
    → is_ack_to 3 packet ≡ true
shut_acks g shut (named.AckTo to received window cookie) e = by (to == 3) refl e
  where
    by : (b : Bool) → to == 3 ≡ b
        → (if b then same_cookie cookie g.cookie else g.is_writing && may_put g.meter 56) ≡ true
        → to == 3 ≡ true
    by true is f = is
    by false is f = absurd (shut.put 55 f)
shut_acks g shut named.OutR1A9 e =
    let parts = and_parts g.is_writing (g.hands_over && fits g.meter 24) e in
    let fit = (and_parts g.hands_over (fits g.meter 24) parts.1).1 in
    absurd (shut.fit 23 (and_from g.is_writing (fits g.meter 24) parts.0 fit))
shut_acks g shut (named.ConnC1 a b c) e = absurd (shut.put 43 e)
shut_acks g shut (named.InR1A3 a b c d) e = absurd (shut.fit 51 e)
shut_acks g shut (named.InR2A3 a) e = absurd (shut.fit 27 e)
shut_acks g shut (named.OutR1A1 a) e = absurd (shut.fit 27 e)
shut_acks g shut (named.OutR1A5 a b c) e = absurd (shut.fit 43 e)
shut_acks g shut packet e = absurd (no_false g.is_writing e)

zero_fits : (m : ℕ) → fits (started 0 0) (suc m) ≡ true → ⊥
zero_fits m e = grind (arith, nat_tests, e)

zero_puts : (m : ℕ) → may_put (started 0 0) m ≡ true → ⊥
zero_puts m e = grind (arith, nat_tests, e)

-- one of both
pub lets_of : (s : Server) (leg : OutLeg) → s.writing ≡ 1 → LetsC1 leg
    → LetsAcks s leg ⊎ LetsC1Go s leg
lets_of s leg writes room = by (leg.number == s.writing) refl
  where
    off : leg.number == s.writing ≡ false → LetsAcks s leg
    off e = record {
      only = λ due.
          shut_acks (gate s leg) (record {
            fit = λ m f. true≢false
                (sym (and_parts (leg.number == s.writing) (fits leg.meter (suc m)) f).0 ∙ e);
            put = λ m f. true≢false
                (sym (and_parts (leg.number == s.writing) (may_put leg.meter (suc m)) f).0 ∙ e);
          }) due.packet;
      no_pdu = λ len f. true≢false (sym (and_parts (leg.number == s.writing) _ f).0 ∙ e);
      no_end = λ f. true≢false (sym (and_parts (leg.number == s.writing) _ f).0 ∙ e);
    }

    none : leg.meter ≡ started 0 0 → LetsAcks s leg
    none e = record {
      only = λ due.
          shut_acks (gate s leg) (record {
            fit = λ m f.
                let fit = (and_parts (leg.number == s.writing) (fits leg.meter (suc m)) f).1 in
                zero_fits m (subst (λ (meter : Meter). fits meter (suc m) ≡ true) e fit);
            put = λ m f.
                let may = (and_parts (leg.number == s.writing) (may_put leg.meter (suc m)) f).1 in
                zero_puts (suc m) (subst (λ (meter : Meter). may_put meter (suc m) ≡ true) e may);
          }) due.packet;
      no_pdu = λ len f.
          let may = (and_parts (may_send leg.window len) (may_put leg.meter len)
          (and_parts (leg.number == s.writing) _ f).1).1 in
          zero_puts len (subst (λ (meter : Meter). may_put meter len ≡ true) e may);
      no_end = λ f.
          let fit = (and_parts (leg.number == s.writing) (fits leg.meter 24) f).1 in
          zero_fits 23 (subst (λ (meter : Meter). fits meter 24 ≡ true) e fit);
    }

    goes : (packet : Named) → is_conn_c1 packet ≡ true → leg.number == s.writing ≡ true
        → may_put leg.meter 44 ≡ true → lets_packet (gate s leg) packet ≡ true
    goes (named.ConnC1 a b c) c1 e may =
        and_from (leg.number == s.writing) (may_put leg.meter 44) e may
    goes packet c1 e may = absurd (false≢true c1)

    by_room : leg.number == s.writing ≡ true
        → (may_put leg.meter 44 ≡ true) ⊎ (leg.meter ≡ started 0 0)
        → LetsAcks s leg ⊎ LetsC1Go s leg
    by_room e (inl may) = inr (λ due c1. goes due.packet c1 e may)
    by_room e (inr zero_meter) = inl (none zero_meter)

    by : (b : Bool) → leg.number == s.writing ≡ b → LetsAcks s leg ⊎ LetsC1Go s leg
    by false e = inl (off e)
    by true e = by_room e (room (same_number leg.number s.writing e ∙ writes))

-- an acknowledgement to an out proxy counts for no meter
pub ack_was_put : (s : Server) (place : ℕ) (packet : Named) → is_ack_to 3 packet ≡ true
    → was_put s place packet ≡ s
ack_was_put s place (named.AckTo to received window cookie) is =
    ap (λ (b : Bool). if b then s else counts s place 56) is
ack_was_put s place packet is = absurd (false≢true is)

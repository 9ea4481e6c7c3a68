-- the steps of a server keep what is known of an acknowledgement to the client that waits
use Rattle.law_order.proofs.Vocabulary.{◌≡◌, ℕ, ◌+◌, ◌≤◌, ◌==◌, ◌&&◌, true, false, true≢false, List, [], ◌∷◌, ◌++◌, Some, None, refl, sym, ap, ◌∙◌, subst, arith, and_parts, IfSome, remove, slice_get, slice_set, bytes_eq, Option}
use Rattle.rh_sig.specs.declared.named.Named.TheVariants as named
use Rattle.rh_server.specs.declared.state.Replacement.TheVariants as replacement
use Rattle.law_moves.proofs.Vocabulary.{same_number, Cookie, Due, merged, own, to_forward, without_first, Key, key_of, are_one}
use Rattle.law_moves.proofs.Lemmas.{each_so}
use Rattle.law_role_server.proofs.Vocabulary.{OutLeg, Stage, is_ack_of}
use Rattle.law_role_server.proofs.Each.{each_got}
use Rattle.law_peers_room.proofs.ServerRoom.Legs.{others_so, sorted_set}
use Rattle.law_peers_room.proofs.ServerRoom.Lets.{open_begun}
use Rattle.law_peers_room.proofs.ServerRoom.Meters.{Seen, Phase, InTurn, IsRefused, HasRoom, is_begun, is_answered, IsBase, IsTotal, IsKept, Kept, Fine, dues_fine, leg_fine, new_fine, removed_fine, stage_fine}
use Rattle.law_peers_room.proofs.ServerRoom.Views.{AreKept, View}
use Rattle.law_peers_room.proofs.ServerRoom.Ahead as ahead

module _ (channel : Cookie) (least budget : ℕ) where
  -- what of a view it is about, as `seen` has it of a server
  abbrev pub seen_in : View → Seen
  seen_in v = record {
    begun = is_begun v.at;
    answered = is_answered v.how;
    writing = v.writing;
    newest = v.newest;
    legs = v.legs;
    there = ahead.is_there channel v.dues;
    weight = ahead.weight channel v.dues;
    count = ahead.count channel v.dues;
  }

  -- ---- channels begin

  abbrev FineAt : Type 0 → ℕ → Seen → Type 0
  FineAt A put x = Fine channel least budget A put x

  -- a leg's channel begins while the server opens
  opening_leg : (A : Type 0) (x : Seen) (put place : ℕ) (leg new : OutLeg) → x.begun ≡ false
      → slice_get x.legs place ≡ Some leg → new.number ≡ leg.number → FineAt A put x
      → FineAt A put (record x { legs = slice_set x.legs place new })
  opening_leg A x put place leg new early at number h = record {
    base = record {
      answered = h.base.answered;
      sorted = sorted_set x.legs place leg new at number h.base.sorted;
      legs = others_so (IsBase channel least budget x)
          (IsBase channel least budget (record x { legs = slice_set x.legs place new })) x.legs
          place leg new at h.base.sorted
          (λ other apart is. record { number = is.number; next = is.next })
          (λ is. record {
            number = subst (λ (n : ℕ). n ≤ x.newest) (sym number) is.number;
            next = λ e f. absurd (true≢false (sym (h.base.answered e).0 ∙ early));
          }) h.base.legs;
    };
    kept = λ a. let k = h.kept a in by k k.phase k.total;
  }
    where
      by : Kept channel least budget x put → (phase : Phase)
          → IsTotal channel least budget phase x (put + x.weight)
          → Kept channel least budget (record x { legs = slice_set x.legs place new }) put
      by k InTurn total = record {
        there = k.there;
        room = k.room;
        phase = InTurn;
        total = total;
        now = others_so (λ (other : OutLeg). Unit {0})
            (IsKept channel least budget InTurn x (put + x.weight)) x.legs place leg new at
            h.base.sorted (λ other apart is e. tt) (λ is e. tt)
            (each_so (IsBase channel least budget x) (λ (other : OutLeg). Unit {0})
            (λ other is. tt) x.legs h.base.legs);
      }
      by k IsRefused total = absurd (true≢false (sym total.0 ∙ early))
      by k HasRoom total = absurd (true≢false (sym total.0 ∙ early))

  -- the successor's channel begins
  answered_leg : (A : Type 0) (x : Seen) (put place : ℕ) (leg new : OutLeg) → x.begun ≡ true
      → slice_get x.legs place ≡ Some leg → leg.number ≡ x.writing + 1
      → new.number ≡ leg.number → new.meter.count ≡ 0 → least ≤ new.meter.length
      → FineAt A put x
      → FineAt A put (record x { answered = true; legs = slice_set x.legs place new })
  answered_leg A x put place leg new begun at is number none long h = record {
    base = record {
      answered = λ e. (begun, newest);
      sorted = sorted_set x.legs place leg new at number h.base.sorted;
      legs = others_so (IsBase channel least budget x) (IsBase channel least budget y) x.legs
          place leg new at h.base.sorted
          (λ other apart was. record {
            number = was.number;
            next = λ e f. absurd (apart (f ∙ sym is));
          })
          (λ was. record {
            number = subst (λ (n : ℕ). n ≤ x.newest) (sym number) was.number;
            next = λ e f. (none, long);
          }) h.base.legs;
    };
    kept = λ a. let k = h.kept a in record {
      there = k.there;
      room = k.room;
      phase = k.phase;
      total = by k.phase k.total;
      now = others_so (IsKept channel least budget k.phase x (put + x.weight))
          (IsKept channel least budget k.phase x (put + x.weight)) x.legs place leg new at
          h.base.sorted (λ other apart was. was)
          (λ was e. absurd (omega (arith, number, is, e))) k.now;
    };
  }
    where
      y : Seen
      y = record x { answered = true; legs = slice_set x.legs place new }

      newest : x.writing + 1 ≤ x.newest
      newest =
          let found = subst (λ o. IfSome o (IsBase channel least budget x)) at
          (each_got (IsBase channel least budget x) x.legs place h.base.legs) in
          let least = found.number in omega (arith, least, is)

      by : (phase : Phase) → IsTotal channel least budget phase x (put + x.weight)
          → IsTotal channel least budget phase y (put + x.weight)
      by InTurn total = total
      by IsRefused total = total
      by HasRoom total = total

  -- an acknowledgement to an out proxy is none to the client
  other_key : (cookie : Cookie) (due : Due) → is_ack_of cookie due ≡ true
      → (ahead.is_for channel due ≡ false) × (ahead.bytes_of due.packet ≡ 0)
  other_key cookie due e = by (key_of due.packet) refl e
    where
      by : (o : Option Key) → key_of due.packet ≡ o
          → are_one o (Some (record { destination = 3; channel = cookie })) ≡ true
          → (ahead.is_for channel due ≡ false) × (ahead.bytes_of due.packet ≡ 0)
      by None is e = absurd cc
      by (Some key) is e = (
        ap (λ (o : Option Key).
            are_one o (Some (record { destination = 0; channel = channel }))) is
            ∙ ap (λ (n : ℕ). (n == 0) && bytes_eq key.channel.0 channel.0)
            (same_number key.destination 3 (and_parts (key.destination == 3) _ e).0),
        ahead.keyed_bytes due.packet key is,
      )

  -- ---- all steps

  module _ (A : Type 0) (put : ℕ) where
    abbrev pub IsFine : View → Type 0
    IsFine v = FineAt A put (seen_in v)

    -- what waits is another list
    dues_serve : (v : View) (dues : List Due)
        → (ahead.is_there channel v.dues ≡ true → ahead.Stays channel v.dues dues)
        → IsFine v → IsFine (record v { dues = dues })
    dues_serve v dues so h =
        dues_fine channel least budget A (seen_in v) put (ahead.is_there channel dues)
        (ahead.weight channel dues) (ahead.count channel dues)
        (λ e. let all = so e in (all.there, all.same, all.fewer)) h

    pushed_serves : (v : View) (due : Due) → IsFine v
        → IsFine (record v { dues = v.dues ++ due ∷ [] })
    pushed_serves v due h =
        dues_serve v (v.dues ++ due ∷ []) (λ e. ahead.pushed_stays channel v.dues due e) h

    -- before it is open
    early_serves : (v : View) (now : Stage) → is_begun v.at ≡ false → IsFine v
        → IsFine (record v { at = now })
    early_serves v now early h =
        stage_fine channel least budget A (seen_in v) put (is_begun now) (is_answered v.how)
        (λ e. absurd (true≢false (sym e ∙ early))) (λ e. e) h

    gone_serves : (v : View) (place : ℕ) → IsFine v
        → IsFine (record v { legs = remove v.legs place })
    gone_serves v place h = removed_fine channel least budget A (seen_in v) put place h

    pub fine_kept : AreKept least IsFine
    fine_kept = record {
      adds = λ v packet other none h. pushed_serves v (own packet) h;
      forwards = λ v packet other ack owned none h. pushed_serves v (to_forward packet) h;
      merges = λ v packet key ack is h.
          dues_serve v (merged v.dues packet)
          (λ e. ahead.merged_stays channel v.dues packet key is e) h;
      asks = λ v steady h.
          stage_fine channel least budget A
          (seen_in (record v { dues = v.dues ++ own (named.OutR1A1 0) ∷ [] })) put
          (is_begun v.at) false (λ e. e) (λ e. absurd (true≢false (sym e)))
          (pushed_serves v (own (named.OutR1A1 0)) h);
      answered = λ v successor timeout place leg new running at next number none long how not_yet h.
          pushed_serves (record v {
            how = replacement.Answered successor;
            legs = slice_set v.legs place new;
          }) (own (named.OutR1A5 0 1 timeout))
          (answered_leg A (seen_in v) put place leg new (open_begun v.at running) at next number
          none long h);
      confirms = λ v was how h.
          stage_fine channel least budget A
          (seen_in (record v { dues = v.dues ++ own named.OutR1A9 ∷ [] })) put (is_begun v.at) true
          (λ e. e) (λ e. was) (pushed_serves v (own named.OutR1A9) h);
      came_in = λ v now early has had h. early_serves v now early h;
      came_out = λ v now early none had h. early_serves v now early h;
      first_out = λ v now place leg new early none had at first number count long h.
          early_serves (record v { legs = slice_set v.legs place new }) now early
          (opening_leg A (seen_in v) put place leg new early at number h);
      ended = λ v h.
          stage_fine channel least budget A (seen_in v) put true (is_answered v.how) (λ e. refl)
          (λ e. e) h;
      came_up = λ v new number meter none h.
          new_fine channel least budget A (seen_in v) put new number h;
      leg_set = λ v place leg new at number meter cookie h.
          leg_fine channel least budget A (seen_in v) put place leg new at number meter h;
      bare_gone = λ v place none h. gone_serves v place h;
      leg_gone = λ v place leg cookie at is h.
          gone_serves (record v { dues = without_first (is_ack_of cookie) v.dues }) place
          (dues_serve v (without_first (is_ack_of cookie) v.dues)
          (λ e. ahead.dropped_stays channel (is_ack_of cookie) (other_key cookie) v.dues e) h);
    }

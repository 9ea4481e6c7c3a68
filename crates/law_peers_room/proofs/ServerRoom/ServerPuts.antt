-- what a server puts on os legs keeps what is known of an acknowledgement to the client that waits
use Rattle.law_order.proofs.Vocabulary.{◌≡◌, inl, inr, ℕ, ◌+◌, ◌≤◌, true, List, [], Some, None, refl, ap, subst, arith, IfSome, find, slice_get, slice_set}
use Rattle.rh_sig.specs.declared.named.Named.TheVariants as named
use Rattle.law_moves.proofs.Vocabulary.{after_put, same_number, Cookie, Named, Due, Message, Text, Pdu, Packet}
use Rattle.law_role_server.proofs.Vocabulary.{OutLeg, counted, length_of, lets, Server, is_open, gate}
use Rattle.law_role_server.proofs.Each.{each_got}
use Rattle.law_peers_room.proofs.ServerRoom.Counted.{before_kept, counted_base, handed_fine, refused_kept}
use Rattle.law_peers_room.proofs.ServerRoom.Lets.{IsLet, bytes_in, confirmed_answered, is_acked, open_begun, short_of}
use Rattle.law_peers_room.proofs.ServerRoom.Meters.{Seen, seen, IsBase, Base, Kept, Fine, dues_base, dues_kept, leg_fine}
use Rattle.law_peers_room.proofs.ServerRoom.Serving.{fine_kept, seen_in}
use Rattle.law_peers_room.proofs.ServerRoom.ViewPuts.{ArePut, IsAt, IsFirst, is_beside, rest}
use Rattle.law_peers_room.proofs.ServerRoom.ViewRows.{settled_serves}
use Rattle.law_peers_room.proofs.ServerRoom.Views.{View, view}
use Rattle.law_peers_room.proofs.ServerRoom.Ahead as ahead
use Rattle.law_peers_room.specs.ServerRoom.Overtaking.{is_ack_for}

module _ (channel : Cookie) where
  beside_bytes : (m : Message) → is_beside m ≡ true → bytes_in channel m ≡ 0
  beside_bytes (Text bytes) e = absurd cc
  beside_bytes (Pdu pdu) e = refl
  beside_bytes (Packet named.EndB1) e = refl
  beside_bytes (Packet packet) e = absurd cc

  module _ (least budget put n : ℕ) (s : Server)
      (base : Base channel least budget (seen channel least budget s)) where
    abbrev x : Seen
    x = seen channel least budget s

    -- it waits, and is not what is put
    abbrev Waits : Message → Type 0
    Waits m = Kept channel least budget x put × (is_acked channel m ≡ true → ⊥)

    abbrev pub IsFine : Message → View → Type 0
    IsFine m v =
        Fine channel least budget (Waits m) (put + bytes_in channel m)
        (seen_in channel least budget v)

    at_zero : (y : Seen) → Kept channel least budget y put → Kept channel least budget y (put + 0)
    at_zero y k =
        let same : put ≡ put + 0 = omega arith in
        subst (Kept channel least budget y) same k

    module _ (place : ℕ) (leg : OutLeg) (is_at : IsAt n s place leg) where
      abbrev at : slice_get s.outs place ≡ Some leg
      at = is_at.at

      newest : leg.number ≤ x.newest
      newest =
          (subst (λ o. IfSome o (IsBase channel least budget x)) at
          (each_got (IsBase channel least budget x) s.outs place base.legs)).number

      short : ahead.Refuses channel (lets (gate s leg)) → leg.number ≡ s.writing
          → leg.meter.length ≤ leg.meter.count + 311
      short refuses writes = short_of channel s leg refuses.0 refuses.1 refuses.2 writes

      -- a text is no acknowledgement
      greeted : (new : OutLeg) → new.number ≡ leg.number → new.meter ≡ leg.meter
          → IsFine (Text []) (record (view s) { legs = slice_set s.outs place new })
      greeted new number meter =
          let fine = leg_fine channel least budget (Waits (Text [])) x put place leg new at number
          meter (record { base = base; kept = λ a. a.0 }) in
          record { base = fine.base; kept = λ a. at_zero _ (fine.kept (a.0, λ f. absurd cc)) }

      -- a message that doesn't wait
      beside : (new : OutLeg) (len : ℕ) (m : Message) → is_open s.stage ≡ true
          → find (lets (gate s leg)) s.waiting.due ≡ None → leg.number ≡ s.writing
          → new.number ≡ leg.number → new.meter ≡ after_put leg.meter len
          → leg.meter.count + len ≤ leg.meter.length → bytes_in channel m ≡ 0
          → IsFine m (record (view s) { legs = slice_set s.outs place new })
      beside new len m running none writes number meter in_it nothing = record {
        base = counted_base channel least budget x place leg new len at writes number meter base
            x.there x.weight x.count;
        kept = λ a. let k = a.0 in
            refused_kept channel least budget x place leg new len at writes number meter base put
            (bytes_in channel m) x.there x.weight x.count (omega (arith, nothing), in_it) refl
            (omega arith) (open_begun s.stage running) newest
            (short (subst (ahead.Gone channel (lets (gate s leg)) s.waiting.due (rest s leg)) none
            (ahead.gone channel (lets (gate s leg)) s.waiting.due k.there)) writes) k.there k;
      }

      -- ---- what waits

      module _ (due : Due) (first : IsFirst s leg due) where
        abbrev others : List Due
        others = rest s leg

        gone : ahead.is_there channel s.waiting.due ≡ true
            → ahead.Gone channel (lets (gate s leg)) s.waiting.due others (Some due)
        gone there =
            subst (ahead.Gone channel (lets (gate s leg)) s.waiting.due others) first.found
            (ahead.gone channel (lets (gate s leg)) s.waiting.due there)

        -- it asks no meter
        ack_goes : ahead.bytes_of due.packet ≡ 0
            → IsFine (Packet due.packet) (record (view s) { dues = others })
        ack_goes nothing = record {
          base = dues_base channel least budget x (ahead.is_there channel others)
              (ahead.weight channel others) (ahead.count channel others) base;
          kept = λ a. by a.0 a.1 (gone (a.0).there);
        }
          where
            IsKept : Type 0
            IsKept =
                Kept channel least budget
                (seen_in channel least budget (record (view s) { dues = others }))
                (put + ahead.bytes_of due.packet)

            same : put ≡ put + ahead.bytes_of due.packet
            same = omega (arith, nothing)

            moved : Kept channel least budget x put → ahead.is_there channel others ≡ true
                → ahead.weight channel others ≡ ahead.weight channel s.waiting.due
                → ahead.count channel others ≤ ahead.count channel s.waiting.due → IsKept
            moved k there weight count =
                subst (Kept channel least budget
                (seen_in channel least budget (record (view s) { dues = others }))) same
                (dues_kept channel least budget x put (ahead.is_there channel others)
                (ahead.weight channel others) (ahead.count channel others) there weight count k)

            by : Kept channel least budget x put → (is_ack_for channel due.packet ≡ true → ⊥)
                → ahead.Gone channel (lets (gate s leg)) s.waiting.due others (Some due) → IsKept
            by k apart (inl is) = absurd (apart is)
            by k apart (inr (inl before)) =
                let less = before.less in
                let one = before.one in
                moved k before.there (omega (arith, less, nothing)) (omega (arith, one))
            by k apart (inr (inr both)) = moved k both.1.there both.1.same both.1.fewer

        -- it asks the meter
        abbrev behind : View
        behind = record (view s) {
          legs = slice_set s.outs place (counted leg (length_of due.packet));
          dues = others;
        }

        counted_goes : IsLet (gate s leg) due.packet → IsFine (Packet due.packet) behind
        counted_goes is_let_go = record {
          base = counted_base channel least budget x place leg new len at writes refl refl base
              (ahead.is_there channel others) (ahead.weight channel others)
              (ahead.count channel others);
          kept = λ a. by a.0 a.1 (gone (a.0).there);
        }
          where
            len : ℕ
            len = length_of due.packet

            new : OutLeg
            new = counted leg len

            writes : leg.number ≡ s.writing
            writes = same_number leg.number s.writing is_let_go.writing

            by : Kept channel least budget x put → (is_ack_for channel due.packet ≡ true → ⊥)
                → ahead.Gone channel (lets (gate s leg)) s.waiting.due others (Some due)
                → Kept channel least budget (seen_in channel least budget behind)
                (put + ahead.bytes_of due.packet)
            by k apart (inl is) = absurd (apart is)
            by k apart (inr (inl before)) =
                before_kept channel least budget x place leg new len at writes refl refl base put
                (ahead.bytes_of due.packet) (ahead.is_there channel others)
                (ahead.weight channel others) (ahead.count channel others)
                (is_let_go.bytes, is_let_go.in_it) is_let_go.small before.less before.one
                before.there k
            by k apart (inr (inr both)) =
                refused_kept channel least budget x place leg new len at writes refl refl base put
                (ahead.bytes_of due.packet) (ahead.is_there channel others)
                (ahead.weight channel others) (ahead.count channel others)
                (is_let_go.bytes, is_let_go.in_it) both.1.same both.1.fewer
                (open_begun s.stage first.running) newest (short both.0 writes) both.1.there k

    -- ---- all steps

    pub fine_put : ArePut n s IsFine IsFine
    fine_put = record {
      greets = λ place leg new is number meter cookie.
          greeted place leg is new number meter;
      alone = λ place leg is due first received window cookie same.
          ack_goes place leg is due first (ap ahead.bytes_of same);
      counts_it = λ place leg is due first may apart. counted_goes place leg is due first may;
      hands = λ place leg is due first may same confirmed below.
          handed_fine channel least budget (Waits (Packet named.OutR1A9))
          (seen_in channel least budget (record (view s) {
            legs = slice_set s.outs place (counted leg 24);
            dues = rest s leg;
          })) (put + 0) (confirmed_answered s.replacement confirmed)
          (subst (λ (p : Named). IsFine (Packet p) (record (view s) {
            legs = slice_set s.outs place (counted leg (length_of p));
            dues = rest s leg;
          })) same (counted_goes place leg is due first may));
      beside = λ place leg new len m is running none writes number meter cookie in_it besides.
          beside place leg is new len m running none writes number meter in_it
          (beside_bytes m besides);
      settles = λ m t running fine.
          settled_serves least (IsFine m)
          (fine_kept channel least budget (Waits m) (put + bytes_in channel m)) t fine;
    }

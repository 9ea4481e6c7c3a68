-- what of a server its OUT channels and the packets that wait for them are, and the steps of which
-- all that happens there is made, but for puts
use Rattle.rh_keep.specs.Meters.{started}
use Rattle.law_order.proofs.Vocabulary.{◌≡◌, ℕ, ◌+◌, ◌≤◌, Bool, true, false, List, [], ◌∷◌, ◌++◌, Some, None, IfSome, list_any, slice_get, slice_set, remove}
use Rattle.rh_sig.specs.declared.named.Named.TheVariants as named
use Rattle.rh_server.specs.declared.state.Replacement.TheVariants as replacement
use Rattle.rh_server.specs.declared.state.Stage.TheVariants as stage
use Rattle.rh_server.specs.declared.out_line.Kind.TheVariants as kind
use Rattle.law_moves.proofs.Vocabulary.{Cookie, Named, Due, Key, key_of, merged, own, takes, to_forward, without_first}
use Rattle.law_role_server.proofs.Vocabulary.{OutLeg, Replacement, Stage, is_ack_of, is_own, Server, is_open, is_steady, is_out_r1_a1}
use Rattle.law_peers_room.proofs.ServerRoom.Apart.{IsAck}
use Rattle.law_peers_room.proofs.ServerRoom.Meters.{is_answered, is_begun}
use Rattle.law_peers_room.proofs.ServerRoom.Owners.{Owned}

pub record View : Type 0 where
  pub at : Stage
  pub how : Replacement
  pub writing : ℕ
  pub newest : ℕ
  pub legs : List OutLeg
  pub room : ℕ
  pub dues : List Due

abbrev pub view : Server → View
view s = record {
  at = s.stage;
  how = s.replacement;
  writing = s.writing;
  newest = s.newest_out;
  legs = s.outs;
  room = s.waiting.room;
  dues = s.waiting.due;
}

-- the first OUT channel began, and the server is not ended
abbrev pub has_out : Stage → Bool
has_out stage.Waits = false
has_out (stage.OutCame connection) = true
has_out (stage.InCame connection window timeout) = false
has_out (stage.Open connection) = true
has_out stage.Ended = false

-- the first OUT channel began, or the server is ended
abbrev pub had_out : Stage → Bool
had_out stage.Waits = false
had_out (stage.OutCame connection) = true
had_out (stage.InCame connection window timeout) = false
had_out (stage.Open connection) = true
had_out stage.Ended = true

-- a packet that is none of the replacement
abbrev pub IsOther : Due → Type 0
IsOther due = (is_own kind.OutR1 due ≡ false) × (is_out_r1_a1 due.packet ≡ false)

-- each step keeps the fact
pub record AreKept (least : ℕ) (F : View → Type 0) : Type 0 where
  -- packets of its own wait, and acknowledgements that it forwards
  pub adds : (x : View) (packet : Named) → IsOther (own packet) → key_of packet ≡ None → F x
      → F (record x { dues = x.dues ++ own packet ∷ [] })
  pub forwards : (x : View) (packet : Named) → IsOther (to_forward packet) → IsAck packet
      → Owned x.legs (to_forward packet) → list_any (takes packet) x.dues ≡ false → F x
      → F (record x { dues = x.dues ++ to_forward packet ∷ [] })
  pub merges : (x : View) (packet : Named) (key : Key) → IsAck packet
      → key_of packet ≡ Some key → F x → F (record x { dues = merged x.dues packet })
  -- a replacement goes on
  pub asks : (x : View) → is_steady x.how ≡ true → F x
      → F (record x { how = replacement.Asked; dues = x.dues ++ own (named.OutR1A1 0) ∷ [] })
  pub answered : (x : View) (successor : Cookie) (timeout place : ℕ) (leg new : OutLeg)
      → is_open x.at ≡ true → slice_get x.legs place ≡ Some leg
      → leg.number ≡ x.writing + 1 → new.number ≡ leg.number → new.meter.count ≡ 0
      → least ≤ new.meter.length → is_steady x.how ≡ false → is_answered x.how ≡ false → F x
      → F (record x {
        how = replacement.Answered successor;
        legs = slice_set x.legs place new;
        dues = x.dues ++ own (named.OutR1A5 0 1 timeout) ∷ [];
      })
  pub confirms : (x : View) → is_answered x.how ≡ true → is_steady x.how ≡ false → F x
      → F (record x { how = replacement.Confirmed; dues = x.dues ++ own named.OutR1A9 ∷ [] })
  -- the server opens, and ends
  pub came_in : (x : View) (now : Stage) → is_begun x.at ≡ false → has_out now ≡ has_out x.at
      → had_out now ≡ had_out x.at → F x → F (record x { at = now })
  pub came_out : (x : View) (now : Stage) → is_begun x.at ≡ false → had_out x.at ≡ false
      → had_out now ≡ true → F x → F (record x { at = now })
  pub first_out : (x : View) (now : Stage) (place : ℕ) (leg new : OutLeg)
      → is_begun x.at ≡ false → had_out x.at ≡ false → had_out now ≡ true
      → slice_get x.legs place ≡ Some leg → leg.number ≡ 1 → new.number ≡ leg.number
      → new.meter.count ≡ 28 → least ≤ new.meter.length → F x
      → F (record x { at = now; legs = slice_set x.legs place new })
  pub ended : (x : View) → F x → F (record x { at = stage.Ended })
  -- legs come up, change, and go
  pub came_up : (x : View) (new : OutLeg) → new.number ≡ x.newest + 1
      → new.meter ≡ started 0 0 → new.cookie ≡ None → F x
      → F (record x { newest = new.number; legs = x.legs ++ new ∷ [] })
  pub leg_set : (x : View) (place : ℕ) (leg new : OutLeg) → slice_get x.legs place ≡ Some leg
      → new.number ≡ leg.number → new.meter ≡ leg.meter → new.cookie ≡ leg.cookie → F x
      → F (record x { legs = slice_set x.legs place new })
  -- without a channel, or with the acknowledgement that waits for its channel
  pub bare_gone : (x : View) (place : ℕ)
      → IfSome (slice_get x.legs place) (λ (leg : OutLeg). leg.cookie ≡ None) → F x
      → F (record x { legs = remove x.legs place })
  pub leg_gone : (x : View) (place : ℕ) (leg : OutLeg) (cookie : Cookie)
      → slice_get x.legs place ≡ Some leg → leg.cookie ≡ Some cookie → F x
      → F (record x {
        legs = remove x.legs place;
        dues = without_first (is_ack_of cookie) x.dues;
      })

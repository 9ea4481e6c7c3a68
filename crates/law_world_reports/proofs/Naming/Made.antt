-- no proxy is closed as it is made
use Rattle.law_order.proofs.Vocabulary.{ℕ, Bool, true, false, ◌&&◌, if◌then◌else◌, nat_le}
use Rattle.law_moves.proofs.Vocabulary.{Cause, Rooms, Rules, begun, is_working, passed, tick, ClosedWith}
use Rattle.law_node_history.proofs.Vocabulary.{MakesGoing}
use Rattle.rh_world.specs.Roles as roles

-- no leg of it is there that could be silent
begun_goes : {S : Type 0} (rules : Rules S) (role : S) (rooms : Rooms) (now : ℕ) (why : Cause)
    → ClosedWith why (tick rules (begun role rooms) now).0.course → ⊥
begun_goes {S} rules role rooms now why =
    by (is_working rules (begun role rooms) && nat_le 0 now)
  where
    by : (t : Bool) → ClosedWith why (if t then passed rules (record (begun role rooms) { now = now })
        else begun role rooms).course → ⊥
    by true h = h
    by false h = h

pub makes_going : MakesGoing roles.rules roles.makers
makes_going = record {
  ins = λ config n now why.
      begun_goes roles.rules.in_proxy (roles.in_proxy config n).role
      (roles.in_proxy config n).rooms now why;
  outs = λ config n now why.
      begun_goes roles.rules.out_proxy (roles.out_proxy config n).role
      (roles.out_proxy config n).rooms now why;
}

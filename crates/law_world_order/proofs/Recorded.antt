-- a world of roles that settings make has numbers in their ranges
use Rattle.law_order.proofs.Vocabulary.{ℕ, suc, ◌≤◌, IsTrue, ◌||◌, ◌==◌, arith, refl, nat_tests}
use Rattle.law_moves.proofs.Vocabulary.{IsKeepalive, IsLifetime}
use Rattle.law_node_history.proofs.Vocabulary.{most_number, within}
use Rattle.rh_world.specs.Config as config
use Rattle.law_world_reports.proofs.Vocabulary.{in_timeout, in_window, WorldConfig}
pub use Rattle.law_world_reports.proofs.Ordering.Recorded.{new, ours}
use Rattle.law_world_order.proofs.Vocabulary.{numbers_of, AreInRange}

in_lifetime : (n : ℕ) → IsTrue (within 131072 2147483648 n) → IsLifetime n
in_lifetime n h = grind (arith, nat_tests)

in_keepalive : (n : ℕ) → IsTrue (n == 0 || within 60000 most_number n) → IsKeepalive n
in_keepalive n h = grind (arith, nat_tests)

positive : (n : ℕ) → 1 ≤ suc n
positive n = grind (arith)

pub in_range : (c : WorldConfig) → config.AreInRange c → AreInRange (numbers_of (ours c))
in_range c r = record {
  client = record {
    window = in_window c.cwin r.cwin;
    lifetime = in_lifetime c.ilife r.ilife;
    keepalive = in_keepalive c.keep r.keep;
  };
  cookies = record { connection = refl; group = refl };
  window = in_window c.swin r.swin;
  ins = λ n. record {
    number = positive n;
    window = in_window c.iwin r.iwin;
    timeout = in_timeout c.itime r.itime;
  };
  sizes = λ n. record { address = refl };
  outs = λ n. record {
    window = in_window c.owin r.owin;
    lifetime = in_lifetime c.olife r.olife;
    timeout = in_timeout c.otime r.otime;
  };
}

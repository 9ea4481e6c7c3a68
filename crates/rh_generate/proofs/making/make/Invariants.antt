-- the lines up to those of the PDUs before were done
use Rattle.std.proofs.Common.{◌≡◌}
use Rattle.rh_made.specs.Making.{front}
use Rattle.rh_generate.specs.Steps.{IsOfRoles, made_by}
use Rattle.rh_generate.proofs.making.make.Given as goal

abbrev pub invariant-loop-before : goal.invariant-loop-before
invariant-loop-before l = record {
  done : l.making ≡ made_by (front l.count l.before);
  of_roles : IsOfRoles l.making.world;
}

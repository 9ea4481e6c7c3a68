-- it listens at this address
use Rattle.std.proofs.Common.{refl}
use Rattle.rh_role_words.proofs.form.plan_at.Goals as goal

pub returns : goal.returns
returns c = record {
  address = c.address.result;
  is = refl;
  names = (c.address.ensures.host, c.address.ensures.port);
  no_ins = c.new.ensures.items;
  no_outs = c.new-2.ensures.items;
}

use Rattle.rh_record.specs.WordLaws.{one_dir, one_hex, one_key, one_number, one_route, one_side}
use Rattle.rh_record.proofs.words.one_word.Goals as goal

pub returns : goal.returns
returns c =
    record {
      side = one_side;
      dir = one_dir;
      key = one_key;
      route = one_route;
      number = one_number;
      hex = one_hex;
    }

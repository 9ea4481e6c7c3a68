-- the numbers of the words of roles, written out
use Rattle.std.specs.Prelude.{◌≡◌}
use Rattle.rh_role_words.specs.declared.form.TheConstants.{MOST_CHANNELS}
use Rattle.rh_role_words.specs.declared.addresses.TheConstants.{COLON, COMMA, MOST_MORE}

pub record AreFixed : Type 0 where
  -- the most channels of a proxy, and addresses of a word behind the first (profile)
  pub most_channels : MOST_CHANNELS ≡ 64
  pub most_more : MOST_MORE ≡ 15
  -- what stands between a host and its port, and between two addresses: `:` and `,` (profile)
  pub colon : COLON ≡ 58
  pub comma : COMMA ≡ 44

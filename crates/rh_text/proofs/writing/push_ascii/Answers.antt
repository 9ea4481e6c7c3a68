-- ASCII is UTF-8
use Rattle.std.proofs.lemmas.Str.{IsUtf8-from_ascii}
use Rattle.rh_text.proofs.writing.push_ascii.Goals as goal

pub push_utf8-requires : goal.push_utf8-requires
push_utf8-requires c = IsUtf8-from_ascii c.args.text.now c.requires

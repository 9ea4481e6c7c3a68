use Rattle.std.proofs.lemmas.Str.{IsUtf8-from_ascii}
use Rattle.rh_show.proofs.Ascii.{cookie_ascii}
use Rattle.rh_show.proofs.commands.cookie_str.Goals as goal

pub unreachable-requires : goal.unreachable-requires
unreachable-requires c =
    c.in_default.ensures.cases.0
    (rw c.cookie_text.ensures (IsUtf8-from_ascii _ (cookie_ascii c.args.cookie.now.0)))

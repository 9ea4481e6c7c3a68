use Rattle.std.proofs.lemmas.Str.{IsUtf8-append, IsUtf8-nil}
use Rattle.rh_text.proofs.writing.write_five.Goals as goal

pub push_utf8-requires : goal.push_utf8-requires
push_utf8-requires c =
    let front = IsUtf8-append _ _ IsUtf8-nil c.in-Some.ensures.utf8 in
    let more = IsUtf8-append _ _ front c.in-Some-gather_two.ensures.utf8 in
    rw (
      c.in-Some-gather.ensures.gathered.1,
      c.in-Some-gather_two.ensures.gathered.1,
      c.in-Some.ensures.gathered.1,
    )
    (IsUtf8-append _ _ more c.in-Some-gather.ensures.utf8)

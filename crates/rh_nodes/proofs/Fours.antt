-- reports of four things that are done one after the other
use Rattle.std.proofs.Common.{List, Ok, Err, IsErrAnd}
use Rattle.std.specs.declared.result.Result.{Result}
use Rattle.rh_record.specs.declared.answer.Answer.{Answer}
use Rattle.rh_nodes.specs.Reports.{and_then, Tells}
use Rattle.rh_nodes.proofs.Told.{tells_then, tells_cut, tells_handed}

-- something was done, and then something else
next : {W E : Type 0} (did : W × List Answer) (act : W → W × List Answer)
    (result : Result (Unit {0}) E) (mid now : W) (before here after : List Answer)
    → Tells {E = E} did (Ok tt) mid before here → Tells (act mid) result now here after
    → Tells (and_then did act) result now before after
next did act result mid now before here after h k =
    tells_then did act result mid now before here after h.world h.report k

-- all four were done
pub four_all : {W E : Type 0} (one : W × List Answer) (two three four : W → W × List Answer)
    (result : Result (Unit {0}) E) (a b c now : W) (before x y z after : List Answer)
    → Tells {E = E} one (Ok tt) a before x → Tells {E = E} (two a) (Ok tt) b x y
    → Tells {E = E} (three b) (Ok tt) c y z → Tells (four c) result now z after
    → Tells (and_then (and_then (and_then one two) three) four) result now before after
four_all one two three four result a b c now before x y z after h1 h2 h3 h4 =
    next (and_then (and_then one two) three) four result c now before z after
    (next (and_then one two) three (Ok tt) b c before y z
    (next one two (Ok tt) a b before x y h1 h2) h3) h4

-- the first could not be done
pub four_first : {W E : Type 0} (Q : E → Type 0) (one : W × List Answer)
    (two three four : W → W × List Answer) (result : Result (Unit {0}) E) (failed : E)
    (a now : W) (before after : List Answer)
    → IsErrAnd result Q → Tells one (Err failed) a before after
    → Tells (and_then (and_then (and_then one two) three) four) result now before after
four_first Q one two three four result failed a now before after is h =
    tells_handed Q (and_then (and_then one two) three) four result failed a now before after is
    (tells_cut (and_then one two) three failed a a before after
    (tells_cut one two failed a a before after h))

-- the second could not be done
pub four_second : {W E : Type 0} (Q : E → Type 0) (one : W × List Answer)
    (two three four : W → W × List Answer) (result : Result (Unit {0}) E) (failed : E)
    (a b now : W) (before x after : List Answer)
    → IsErrAnd result Q → Tells {E = E} one (Ok tt) a before x
    → Tells (two a) (Err failed) b x after
    → Tells (and_then (and_then (and_then one two) three) four) result now before after
four_second Q one two three four result failed a b now before x after is h1 h2 =
    tells_handed Q (and_then (and_then one two) three) four result failed b now before after is
    (tells_cut (and_then one two) three failed b b before after
    (next one two (Err failed) a b before x after h1 h2))

-- the third could not be done
pub four_third : {W E : Type 0} (Q : E → Type 0) (one : W × List Answer)
    (two three four : W → W × List Answer) (result : Result (Unit {0}) E) (failed : E)
    (a b c now : W) (before x y after : List Answer)
    → IsErrAnd result Q → Tells {E = E} one (Ok tt) a before x
    → Tells {E = E} (two a) (Ok tt) b x y → Tells (three b) (Err failed) c y after
    → Tells (and_then (and_then (and_then one two) three) four) result now before after
four_third Q one two three four result failed a b c now before x y after is h1 h2 h3 =
    tells_handed Q (and_then (and_then one two) three) four result failed c now before after is
    (next (and_then one two) three (Err failed) b c before y after
    (next one two (Ok tt) a b before x y h1 h2) h3)

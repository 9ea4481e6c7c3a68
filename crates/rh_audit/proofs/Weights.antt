-- how many PDUs bytes can have: each has 16 bytes at least
use Rattle.std.proofs.Common.{◌≡◌, ℕ, ◌+◌, ◌*◌, ◌<◌, ◌≤◌, List, [], ◌∷◌, ◌++◌, length, drop, Bool, true, false, Some, None, refl, sym, ap, ◌∙◌, subst, arith}
use Rattle.std.specs.Prelude.{◌==◌, cond, if◌then◌else◌}
use Rattle.std.specs.List.{AllByRecursion, concat, flat_map}
use Rattle.std.specs.declared.option.Option.{Option}
use Rattle.std.proofs.lemmas.Bool.Decides.{Decides-eqb, nat_tests}
use Rattle.std.proofs.lemmas.List.{length-append, length-drop}
use Rattle.rh_pdu.specs.Frames.{IsFrame}
use Rattle.rh_pdu.specs.Cut.{frames_of, rest_of}
use Rattle.rh_pdu.proofs.Framing.{framed as framing}
use Rattle.rh_rts.specs.declared.command.Cookie.{Cookie}
use Rattle.rh_sig.specs.declared.name.Pipe.{Pipe}
use Rattle.rh_line.specs.declared.leg.LegKind.{LegKind}
use Rattle.rh_audit.specs.declared.opening.Opening.{Opening}
use Rattle.rh_audit.specs.declared.opening.Opening.TheVariants.{Waits, Opens, Fails}
use Rattle.rh_audit.specs.declared.packet.First.{First}
use Rattle.rh_audit.specs.declared.seen.Seen.{Seen}
use Rattle.rh_audit.specs.Audits.{IsAscending, carried_by}
use Rattle.rh_audit.specs.Captures.{carried, has_tag, of_tag, same_pipe, total}
use Rattle.rh_audit.specs.Chains.{Leg, leg_by, leg_in, legs, mets_in, pdus_in, stream_in}
use Rattle.rh_audit.specs.Openings.{opening}
use Rattle.rh_audit.specs.Packets.{is_pdu, met}
use Rattle.rh_audit.specs.Pipes.{first_pipe, pdu_pipe}
use Rattle.rh_audit.specs.Streams.{counted, first_among, framed, is_marked, opened, pdus, renewed, stands, stream}
use Rattle.rh_audit.proofs.Chains.{carried_light, weight}

-- ---- frames

frames_small : (frames : List (List ℕ)) → AllByRecursion IsFrame frames
    → 16 * length frames ≤ length (concat frames)
frames_small [] each = omega arith
frames_small (frame ∷ frames) each =
    omega (arith, each.0.long, frames_small frames each.1, length-append frame (concat frames))

counted_few : (pipe : Pipe) (begins : Bool) (frames : List (List ℕ))
    → length (counted pipe begins frames) ≤ length frames
unfolding counted
counted_few pipe begins [] = omega arith
counted_few pipe begins (frame ∷ frames) =
    by (stands pipe begins (met pipe frame)) (counted_few pipe false frames)
  where
    by : (t : Bool) → length (counted pipe false frames) ≤ length frames
        → length (if t then frame ∷ counted pipe false frames else []) ≤ length (frame ∷ frames)
    by true h = omega (arith, h)
    by false h = omega arith

pdus_few : (pipe : Pipe) (frames : List (List ℕ)) → length (pdus pipe frames) ≤ length frames
pdus_few pipe [] = omega arith
pdus_few pipe (frame ∷ frames) = by (is_pdu (met pipe frame)) (pdus_few pipe frames)
  where
    by : (t : Bool) → length (pdus pipe frames) ≤ length frames
        → length (if t then frame ∷ pdus pipe frames else pdus pipe frames)
        ≤ length (frame ∷ frames)
    by true h = omega (arith, h)
    by false h = omega (arith, h)

framed_few : (pipe : Pipe) (begins : Bool) (place : ℕ) (bytes : List ℕ)
    → 16 * length (framed pipe begins place bytes).frames ≤ length bytes
unfolding framed
framed_few pipe begins place bytes =
    let is = framing bytes in
    omega (
      arith,
      counted_few pipe begins (frames_of bytes),
      frames_small (frames_of bytes) is.each,
      ap length is.joined,
      length-append (concat (frames_of bytes)) (rest_of bytes),
    )

opened_few : (pipe : Pipe) (bytes : List ℕ) (o : Opening)
    → 16 * length (opened pipe bytes o).frames ≤ length bytes
opened_few pipe bytes Waits = omega arith
opened_few pipe bytes (Opens n) =
    omega (arith, framed_few pipe true n (drop n bytes), length-drop n bytes)
opened_few pipe bytes (Fails place) = omega arith

-- ---- a leg

pub carried_few : (pipe : Pipe) (lines : List Seen) → length (carried pipe lines) ≤ total lines
carried_few pipe [] = omega arith
carried_few pipe (line ∷ lines) = by (same_pipe line.pipe pipe) (carried_few pipe lines)
  where
    by : (t : Bool) → length (carried pipe lines) ≤ total lines
        → length (if t then line.bytes ++ carried pipe lines else carried pipe lines)
        ≤ length line.bytes + total lines
    by true h = omega (arith, h, length-append line.bytes (carried pipe lines))
    by false h = omega (arith, h)

pdus_in_few : (pipe : Pipe) (lines : List Seen) → 16 * length (pdus_in pipe lines) ≤ total lines
pdus_in_few pipe lines =
    let bytes = carried pipe lines in
    omega (
      arith,
      pdus_few pipe (stream_in pipe lines).frames,
      opened_few pipe bytes (opening pipe bytes),
      carried_few pipe lines,
    )

leg_few : (kind : LegKind) (tag : ℕ) (lines : List Seen)
    → 16 * weight (leg_in kind tag lines) ≤ total lines
leg_few kind tag lines =
    let begun = mets_in (first_pipe kind) lines in
    by (renewed None begun) (is_marked (mets_in (pdu_pipe kind) lines)) (first_among begun)
  where
    by : (anew : Option Cookie) (marked : Bool) (first : Option First)
        → 16 * weight (leg_by tag anew marked (pdus_in (pdu_pipe kind) lines) first) ≤ total lines
    by anew marked None = omega arith
    by anew marked (Some first) = omega (arith, pdus_in_few (pdu_pipe kind) lines)

-- ---- all legs

-- the bytes of some tags
abbrev spread : List ℕ → List Seen → ℕ
spread [] seen = 0
spread (tag ∷ tags) seen = total (of_tag tag seen) + spread tags seen

spread_nothing : (tags : List ℕ) → spread tags [] ≡ 0
spread_nothing [] = refl
spread_nothing (tag ∷ tags) = omega (arith, spread_nothing tags)

-- a line of none of them
spread_other : (tags : List ℕ) (line : Seen) (seen : List Seen)
    → AllByRecursion (λ later. line.tag < later) tags
    → spread tags (line ∷ seen) ≡ spread tags seen
spread_other [] line seen h = refl
spread_other (tag ∷ tags) line seen h =
    let other : (line.tag == tag) ≡ false = (let less = h.0 in grind (arith, nat_tests, less)) in
    ap (λ t. total (cond t (line ∷ of_tag tag seen) (of_tag tag seen)) + spread tags (line ∷ seen))
    other
    ∙ ap (λ n. total (of_tag tag seen) + n) (spread_other tags line seen h.1)

-- a line of one of them at most
spread_more : (tags : List ℕ) (line : Seen) (seen : List Seen) → IsAscending tags
    → spread tags (line ∷ seen) ≤ length line.bytes + spread tags seen
spread_more [] line seen up = omega arith
spread_more (tag ∷ tags) line seen up =
    by (line.tag == tag) refl (spread_more tags line seen up.1)
  where
    by : (t : Bool) → (line.tag == tag) ≡ t
        → spread tags (line ∷ seen) ≤ length line.bytes + spread tags seen
        → total (cond t (line ∷ of_tag tag seen) (of_tag tag seen)) + spread tags (line ∷ seen)
        ≤ length line.bytes + (total (of_tag tag seen) + spread tags seen)
    by true e h =
        let same : line.tag ≡ tag = (Decides-eqb line.tag tag).0 e in
        let rest = spread_other tags line seen
        (subst (λ t. AllByRecursion (λ later. t < later) tags) (sym same) up.0) in
        omega (arith, rest)
    by false e h = omega (arith, h)

spread_most : (tags : List ℕ) (seen : List Seen) → IsAscending tags → spread tags seen ≤ total seen
spread_most tags [] up = omega (arith, spread_nothing tags)
spread_most tags (line ∷ seen) up =
    omega (arith, spread_more tags line seen up, spread_most tags seen up)

weight-append : (xs ys : List Leg) → weight (xs ++ ys) ≡ weight xs + weight ys
weight-append [] ys = omega arith
weight-append (x ∷ xs) ys = omega (arith, weight-append xs ys)

legs_few : (kind : LegKind) (seen : List Seen) (tags : List ℕ)
    → 16 * weight (legs kind seen tags) ≤ spread tags seen
legs_few kind seen [] = omega arith
legs_few kind seen (tag ∷ tags) =
    let lines = of_tag tag seen in
    omega (
      arith,
      weight-append (leg_in kind tag lines) (legs kind seen tags),
      leg_few kind tag lines,
      legs_few kind seen tags,
    )

-- what was seen on the legs of a kind
pub carried_by_few : (kind : LegKind) (seen : List Seen) (tags : List ℕ) → IsAscending tags
    → 16 * length (carried_by kind seen tags) ≤ total seen
carried_by_few kind seen tags up =
    omega (
      arith,
      carried_light (legs kind seen tags),
      legs_few kind seen tags,
      spread_most tags seen up,
    )

-- the lines of a tag are some of all
pub tag_few : (tag : ℕ) (seen : List Seen) → total (of_tag tag seen) ≤ total seen
tag_few tag seen = omega (arith, spread_most (tag ∷ []) seen (tt, tt))

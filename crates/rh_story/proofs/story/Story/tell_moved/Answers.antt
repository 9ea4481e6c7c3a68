-- what is left is held in place of what was
use Rattle.std.proofs.Common.{◌≡◌, ℕ, List, [], Ok, Err, ap, ◌∙◌}
use Rattle.std.specs.Prelude.{OnOk}
use Rattle.std.specs.declared.result.Result.{Result}
use Rattle.rh_story.specs.Items.{held_from}
use Rattle.rh_story.specs.Streams.{held_of, key_of, with_held}
use Rattle.rh_story.specs.Stories.{Telling}
use Rattle.rh_story.proofs.Places.{put_again}
use Rattle.rh_story.proofs.story.Story.tell_moved.Goals as goal

on_ok : {E : Type 0} (r : Result (Unit {0}) E) (P Q : Type 0) → (P → Q) → OnOk r P → OnOk r Q
on_ok (Ok done) P Q f h = f h
on_ok (Err failed) P Q f h = h

-- three steps: out, told, and in again
moved : (held taken put : List (List ℕ × List ℕ)) (key want out left bytes : List ℕ)
    → key ≡ want → taken ≡ with_held held key [] → out ≡ held_of held key
    → left ≡ held_from out bytes → put ≡ with_held taken key left
    → put ≡ with_held held want (held_from (held_of held want) bytes)
moved held taken put key want out left bytes is there what rest last =
    last ∙ ap (λ (t : List (List ℕ × List ℕ)). with_held t key left) there
    ∙ put_again held key [] left
    ∙ ap (λ (x : List ℕ). with_held held key x)
    (rest ∙ ap (λ (o : List ℕ). held_from o bytes) what)
    ∙ ap (λ (k : List ℕ). with_held held k (held_from (held_of held k) bytes)) is

pub returns-clause-after : goal.returns-clause-after
returns-clause-after c =
    let s = c.args.self.now in
    on_ok c.put.result _ _
    (λ (last : c.put.new.self ≡ with_held c.take.new.self c.key_of-key.result
    c.write_items.new.held.items).
    ap (λ (t : Telling). record t { held = c.put.new.self }) c.self.view_is
    ∙ ap (λ (held : List (List ℕ × List ℕ)). record s { held = held })
    (moved s.held c.take.new.self c.put.new.self c.key_of-key.result
    (key_of c.args.leg c.args.dir) c.in_ok-held.held.items c.write_items.new.held.items
    c.args.bytes.now c.key_of-key.ensures
    (c.in_ok-held.ensures.out ∙ ap (λ (t : Telling). with_held t.held c.key_of-key.result [])
    c.self.view_is)
    (c.in_ok-held.ensures.bytes ∙ ap (λ (t : Telling). held_of t.held c.key_of-key.result)
    c.self.view_is)
    c.in_ok-write_items.ensures.held last))
    c.put.ensures

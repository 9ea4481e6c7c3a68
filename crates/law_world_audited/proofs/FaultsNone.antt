-- no tag of a recording is left, so that an audit tells no fault
use Rattle.law_order.proofs.Vocabulary.{◌≡◌, ◌==◌, ◌++◌, ◌⊎◌, ℕ, true, List, [], ◌∷◌, refl, sym, ap, ap₂, ◌∙◌, subst, inl, inr, append-nil, eq-eqb, or_left, true≢false, list_any}
use Rattle.std.specs.List.{flat_map}
use Rattle.rh_audit.specs.declared.seen.Seen.{Seen}
use Rattle.rh_audit.specs.Audits.{AreTags, broken_in, faults, unchained_in}
use Rattle.rh_audit.specs.Captures.{of_tag}
use Rattle.rh_capture.specs.Captured.{captured, captured_behind}
use Rattle.rh_capture.specs.TellingLaws.{captured-append}
use Rattle.rh_line.specs.declared.leg.Leg.{Leg}
use Rattle.rh_record.specs.declared.answer.Answer.{Answer}
use Rattle.rh_record.specs.declared.line.Line.{Line}
use Rattle.rh_record.specs.declared.line.Line.TheVariants.{First}
use Rattle.rh_world.specs.declared.any_world.AnyWorld.{AnyWorld}
use Rattle.rh_world.specs.declared.any_world.AnyWorld.TheVariants.{Before, Direct, Settings, Roles}
use Rattle.rh_world.specs.Any.{after, answers, last, run}
use Rattle.rh_world.specs.Config.{roles_config}
use Rattle.rh_world.specs.Roles as roles
use Rattle.law_audit.specs.Chains.Successors.{IsTag}
use Rattle.law_world_audited.proofs.Moving.NoFaults.{roles_or_none, told_is}
use Rattle.law_world_audited.specs.Moving.Tagged.{legs_met}
use Rattle.law_world_audited.specs.LegsInChains.Chained.{TellsChainsIn, TellsChainsOf}

-- ---- the last lines of a report have no line of the capture

last_captured : (legs : List Leg) (world : AnyWorld) → captured_behind legs (last world) ≡ []
last_captured legs Before = refl
last_captured legs (Direct world) = refl
last_captured legs (Settings config) = refl
last_captured legs (Roles world) = refl

pub captured_run : (lines : List Line) → captured (run lines) ≡ captured (answers Before lines)
captured_run lines =
    let said = answers Before lines in
    ap captured (told_is Before lines)
    ∙ captured-append [] said (last (after Before lines))
    ∙ ap (λ (more : List Seen). captured said ++ more)
    (last_captured (legs_met said) (after Before lines))
    ∙ append-nil (captured said)

-- ---- tags

tag_here : (tag : ℕ) (tags : List ℕ) → IsTag tag (tag ∷ tags)
tag_here tag tags =
    or_left (tag == tag) (list_any (λ other. other == tag) tags) (eq-eqb tag tag refl)

-- where nothing was seen there are none
pub no_tags : (tags : List ℕ) → AreTags [] tags → tags ≡ []
no_tags [] are = refl
no_tags (tag ∷ tags) are =
    absurd (true≢false (sym (tag_here tag tags) ∙ are.all tag))

-- ---- recordings

left_none : (said : List Answer) (world : AnyWorld)
    → (said ≡ []) ⊎ ((v : roles.World) × (world ≡ Roles v)) → TellsChainsIn said world
    → (tags : List ℕ) → AreTags (captured said) tags
    → flat_map (unchained_in (captured said) tags) tags ≡ []
left_none said world (inl e) tells tags are =
    let none = no_tags tags (subst (λ (x : List Answer). AreTags (captured x) tags) e are) in
    ap (flat_map (unchained_in (captured said) tags)) none
left_none said world (inr has) tells tags are =
    (subst (λ (w : AnyWorld). TellsChainsIn said w) has.1 tells).none_left tags are

pub no_fault : ((behind : List Line) (tags : List ℕ)
    → flat_map (λ tag. broken_in tag (of_tag tag (captured (run (First true ∷ behind))))) tags ≡ [])
    → ((behind : List Line) → TellsChainsOf (First true ∷ behind)) → (behind : List Line)
    (tags : List ℕ) → AreTags (captured (run (First true ∷ behind))) tags
    → faults (captured (run (First true ∷ behind))) tags ≡ []
no_fault broken chains behind tags are =
    let lines = First true ∷ behind in
    ap₂ (λ a b. a ++ b) (broken behind tags)
    (subst (λ (seen : List Seen). AreTags seen tags
    → flat_map (unchained_in seen tags) tags ≡ []) (sym (captured_run lines))
    (left_none (answers (Settings roles_config) behind) (after (Settings roles_config) behind)
    (roles_or_none behind roles_config) (chains behind) tags) are)

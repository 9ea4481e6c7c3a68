-- the tags of a chain, the least first
use Rattle.std.specs.Prelude.{◌≡◌, ℕ, ◌==◌, List}
use Rattle.std.specs.List.{list_any}
use Rattle.std.specs.List.Sorted.{IsNonDecreasing}
use Rattle.rh_audit.specs.declared.link.Link.{Link}

pub record AreTagsOf (links : List Link) (tags : List ℕ) : Type 0 where
  pub sorted : IsNonDecreasing tags
  pub same : (tag : ℕ) → list_any (λ other. other == tag) tags
      ≡ list_any (λ link. link.tag == tag) links

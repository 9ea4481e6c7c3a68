-- where nothing stands on the legs of a direction, all that is on its way waits at nodes
use Rattle.law_order.proofs.Vocabulary.{◌≡◌, ℕ, suc, List, [], ◌++◌, ap, ap₂, ◌∙◌, append-nil, fun_ext, Item, pdus, Route, OnLegs, below, held_of, part, path, reader}
use Rattle.law_world_waits.specs.Waits.{waits, waits_of}

module _ (r : Route) (on : OnLegs) (near : (n : ℕ) → on.near n ≡ [])
    (far : (n : ℕ) → on.far n ≡ []) where
  part_waits : (n : ℕ) → part r on n ≡ waits_of r n
  part_waits n =
      let here = held_of r.taker.shelves n in
      let there = held_of (r.proxies (reader r.legs n)).shelves n in
      ap₂ (λ (x y : List Item). here ++ (pdus x ++ (there ++ pdus y))) (far n) (near n)
      ∙ ap (λ (list : List (List ℕ)). here ++ list) (append-nil there)

  pub path_waits : path r on ≡ waits r
  path_waits =
      ap (λ (lists : ℕ → List (List ℕ)). below lists r.giver.writing ++ r.giver.queue)
      (fun_ext (λ n. part_waits (suc n)))

use Rattle.std.proofs.Common.{◌∙◌, ◌++◌, List, ℕ, length, drop, replicate, ap}
use Rattle.std.proofs.lemmas.List.{drop-replicate}
use Rattle.rh_http.proofs.host.padded.Goals as goal

pub returns : goal.returns
returns c =
    let text = c.args.text.now in
    ap (λ (x : List ℕ). x ++ drop (length text) (replicate 255 0)) c.copy_from_slice.ensures.after
    ∙ ap (λ (x : List ℕ). text ++ x) (drop-replicate (length text) 255 0)

-- hosts of one text
use Rattle.std.proofs.Common.{◌≡◌, ℕ, ◌-◌, List, ◌++◌, length, drop, replicate, sym, ap, ◌∙◌, subst}
use Rattle.std.proofs.Props.{props}
use Rattle.std.proofs.lemmas.List.{take-append-drop}
use Rattle.rh_http.specs.declared.host.Host.{Host}
use Rattle.rh_http.specs.Hosts.{KeepsHost, greatest_host}
use Rattle.rh_http.specs.Requests.{host_text}

-- a host is kept in one way
kept_once : (bytes : List ℕ) (len : ℕ) → IsProp (KeepsHost bytes len)
kept_once bytes len = hlevel props

-- a host with other bytes and another length, which are the same
same_fields : (a : Host) (bytes : List ℕ) → a.bytes ≡ bytes → (len : ℕ) → a.len ≡ len
    → (kept : KeepsHost bytes len)
    → a ≡ record { bytes = bytes; len = len; kept = kept }
same_fields a bytes e len f kept =
    let P : List ℕ → Type 0 = λ x. (n : ℕ) → a.len ≡ n → (k : KeepsHost x n)
    → a ≡ record { bytes = x; len = n; kept = k } in
    let Q : ℕ → Type 0 = λ n. (k : KeepsHost a.bytes n)
    → a ≡ record { bytes = a.bytes; len = n; kept = k } in
    let here : (k : KeepsHost a.bytes a.len)
    → a ≡ record { bytes = a.bytes; len = a.len; kept = k } =
    λ k. ap (λ (t : KeepsHost a.bytes a.len). record { bytes = a.bytes; len = a.len; kept = t })
    (kept_once a.bytes a.len a.kept k) in
    subst P e (λ n g k. subst Q g here k) len f kept

-- hosts of one text are one
pub host_once : (a b : Host) → host_text a ≡ host_text b → a ≡ b
host_once a b e =
    let lens : a.len ≡ b.len = sym a.kept.counted ∙ ap length e ∙ b.kept.counted in
    let rests : drop a.len a.bytes ≡ drop b.len b.bytes =
    a.kept.behind ∙ ap (λ (n : ℕ). replicate (greatest_host - n) 0) lens ∙ sym b.kept.behind in
    let whole : a.bytes ≡ b.bytes =
    sym (take-append-drop a.len a.bytes) ∙ ap (λ (x : List ℕ). x ++ drop a.len a.bytes) e
    ∙ ap (λ (x : List ℕ). host_text b ++ x) rests ∙ take-append-drop b.len b.bytes in
    same_fields a b.bytes whole b.len lens b.kept

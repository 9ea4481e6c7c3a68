-- one address more, with a comma behind it
use Rattle.std.proofs.Common.{◌≡◌, ℕ, List, [], ◌∷◌, ◌++◌, sym, subst}
use Rattle.std.proofs.lemmas.List.{append_assoc}
use Rattle.rh_role_words.specs.declared.addresses.HostPort.{HostPort}
use Rattle.rh_role_words.specs.declared.addresses.TheConstants.{COMMA}
use Rattle.rh_role_words.specs.Forms.{AreJoined, IsHostPort}

-- whatever the rest of a text is, these stand before it
abbrev pub StandBefore : List ℕ → List ℕ → List HostPort → Type 0
StandBefore text rest some =
    (more : List HostPort) → AreJoined rest more → AreJoined text (some ++ more)

pub none-before : (text : List ℕ) → StandBefore text text []
none-before text more joined = joined

pub one-more : (text rest front behind : List ℕ) (some : List HostPort) (one : HostPort)
    → StandBefore text rest some → rest ≡ front ++ COMMA ∷ behind → IsHostPort front one
    → StandBefore text behind (some ++ one ∷ [])
one-more text rest front behind some one before divided is [] joined = absurd joined
one-more text rest front behind some one before divided is (next ∷ more) joined =
    subst (AreJoined text) (sym (append_assoc some (one ∷ []) (next ∷ more)))
    (before (one ∷ next ∷ more) (front, behind, divided, is, joined))

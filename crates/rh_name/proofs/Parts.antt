-- texts that are written in two pieces, and what they are by definition
use Rattle.std.proofs.Common.{◌≡◌, ◌++◌, ℕ, List, Err, codes, refl, slice_index, subst}
use Rattle.std.specs.Fmt.{decimal}
use Rattle.hex.specs.Hex.{encode_lower}
use Rattle.std.specs.declared.result.Result.{Result}
use Rattle.rh_sig.specs.Cookies.{text_of_cookie}
use Rattle.rh_text.specs.Writing.{Writes}
use Rattle.rh_text.proofs.Appending.{writes_both, writes_one}
use Rattle.rh_name.specs.Fields.{guid_text, id_text, pair, v4_text, v6_text}
use Rattle.rh_name.specs.Pdus.{flag_word, set_flags}

-- a cookie and its GUID
pub id_one : {E : Type 0} (bytes : List ℕ) (failed : E) (before after : List ℕ)
    → Writes (codes " " ++ text_of_cookie bytes) (Err failed) before after
    → Writes (id_text bytes) (Err failed) before after
unfolding id_text
id_one bytes failed before after h =
    writes_one (codes " " ++ text_of_cookie bytes) (guid_text bytes) failed before after h

pub id_both : {E : Type 0} (bytes : List ℕ) (result : Result (Unit {0}) E)
    (before middle after : List ℕ) → middle ≡ before ++ (codes " " ++ text_of_cookie bytes)
    → Writes (guid_text bytes) result middle after → Writes (id_text bytes) result before after
unfolding id_text
id_both bytes result before middle after h k =
    writes_both (codes " " ++ text_of_cookie bytes) (guid_text bytes) result before middle after h k

-- the names of flags, one behind the other
pub flags_by : {E : Type 0} (flags : ℕ) (a b c d e f g h : List ℕ) (result : Result (Unit {0}) E)
    (before after : List ℕ)
    → a ≡ flag_word flags 1 (codes " first_frag") → b ≡ flag_word flags 2 (codes " last_frag")
    → c ≡ flag_word flags 4 (codes " pending_cancel")
    → d ≡ flag_word flags 8 (codes " reserved_1") → e ≡ flag_word flags 16 (codes " conc_mpx")
    → f ≡ flag_word flags 32 (codes " did_not_execute")
    → g ≡ flag_word flags 64 (codes " maybe") → h ≡ flag_word flags 128 (codes " object_uuid")
    → Writes (a ++ (b ++ (c ++ (d ++ (e ++ (f ++ (g ++ h))))))) result before after
    → Writes (set_flags flags) result before after
unfolding set_flags
flags_by flags a b c d e f g h result before after i j k l m n o p wrote =
    let same : a ++ (b ++ (c ++ (d ++ (e ++ (f ++ (g ++ h)))))) ≡ set_flags flags =
    rw (i, j, k, l, m, n, o, p) refl in
    subst (λ (text : List ℕ). Writes text result before after) same wrote

-- the numbers and groups of an address
pub v4_by : {E : Type 0} (bytes : List ℕ) (a b c d : ℕ) (result : Result (Unit {0}) E)
    (before after : List ℕ) → a ≡ slice_index bytes 0 → b ≡ slice_index bytes 1
    → c ≡ slice_index bytes 2 → d ≡ slice_index bytes 3
    → Writes (codes " " ++ (decimal a ++ (codes "." ++ (decimal b ++ (codes "." ++ (decimal c
    ++ (codes "." ++ decimal d))))))) result before after
    → Writes (v4_text bytes) result before after
unfolding v4_text
v4_by bytes a b c d result before after i j k l wrote =
    let same : codes " " ++ (decimal a ++ (codes "." ++ (decimal b ++ (codes "." ++ (decimal c
    ++ (codes "." ++ decimal d)))))) ≡ v4_text bytes = rw (i, j, k, l) refl in
    subst (λ (text : List ℕ). Writes text result before after) same wrote

pub v6_by : {E : Type 0} (bytes a b c d e f g h : List ℕ) (result : Result (Unit {0}) E)
    (before after : List ℕ) → a ≡ pair 0 bytes → b ≡ pair 2 bytes → c ≡ pair 4 bytes
    → d ≡ pair 6 bytes → e ≡ pair 8 bytes → f ≡ pair 10 bytes → g ≡ pair 12 bytes
    → h ≡ pair 14 bytes
    → Writes (codes " " ++ (encode_lower a ++ (codes ":" ++ (encode_lower b ++ (codes ":"
    ++ (encode_lower c ++ (codes ":" ++ (encode_lower d ++ (codes ":" ++ (encode_lower e
    ++ (codes ":" ++ (encode_lower f ++ (codes ":" ++ (encode_lower g ++ (codes ":"
    ++ encode_lower h))))))))))))))) result before after
    → Writes (v6_text bytes) result before after
unfolding v6_text
v6_by bytes a b c d e f g h result before after i j k l m n o p wrote =
    let same : codes " " ++ (encode_lower a ++ (codes ":" ++ (encode_lower b ++ (codes ":"
    ++ (encode_lower c ++ (codes ":" ++ (encode_lower d ++ (codes ":" ++ (encode_lower e
    ++ (codes ":" ++ (encode_lower f ++ (codes ":" ++ (encode_lower g ++ (codes ":"
    ++ encode_lower h)))))))))))))) ≡ v6_text bytes = rw (i, j, k, l, m, n, o, p) refl in
    subst (λ (text : List ℕ). Writes text result before after) same wrote

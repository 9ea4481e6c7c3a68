-- the text of a cookie
use Rattle.std.specs.Prelude.{ℕ, List, [], ◌∷◌, ◌++◌, ◌/◌, ◌%◌, take, drop, codes}
use Rattle.uuid.specs.Text.{hex_digit, lower}

-- each byte as two digits, the greater half first
abbrev pub digits : List ℕ → List ℕ
digits [] = []
digits (b ∷ bytes) = hex_digit lower (b / 16 % 16) ∷ hex_digit lower (b % 16) ∷ digits bytes

-- so many bytes from that place on
abbrev pub group : ℕ → ℕ → List ℕ → List ℕ
group at count bytes = digits (take count (drop at bytes))

-- the bytes in their order, in groups of 4, 2, 2, 2 and 6
unfoldable pub text_of_cookie : List ℕ → List ℕ
text_of_cookie bytes =
    group 0 4 bytes ++ (codes "-" ++
    (group 4 2 bytes ++ (codes "-" ++ (group 6 2 bytes ++ (codes "-"
    ++ (group 8 2 bytes ++ (codes "-" ++ group 10 6 bytes)))))))

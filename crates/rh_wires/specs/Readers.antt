-- which in proxy reads which leg of the client (profile)
use Rattle.std.specs.Prelude.{ℕ, List}
use Rattle.rh_wires.specs.Numbered.{ask, put_at}

-- the number of the in proxy that reads a leg, 0 where none does
abbrev pub reader_of : List ℕ → ℕ → ℕ
reader_of readers number = ask (λ proxy. proxy) 0 readers number

abbrev pub with_reader : List ℕ → ℕ → ℕ → List ℕ
with_reader readers number proxy = put_at 0 readers number proxy

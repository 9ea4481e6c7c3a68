-- how the end of a leg keeps what it holds: for private contracts alone
use Rattle.std.specs.Prelude.{ℕ, ◌≡◌, ◌<◌, ◌≤◌, ◌++◌, List, length, take, Bool, true, false, Some, None}
use Rattle.std.specs.declared.option.Option.{Option}
use Rattle.rh_pdu.specs.Feeding.{FramerState}
use Rattle.rh_http.specs.Ends.{IsOpen}
use Rattle.rh_http.specs.Reading.{greatest_head}
use Rattle.rh_shell.specs.declared.stage.Stage.{Stage}
use Rattle.rh_shell.specs.declared.stage.Stage.TheVariants as stage
use Rattle.rh_shell.specs.declared.stage.Body.{Body}
use Rattle.rh_shell.specs.Intakes.{greeting_length}

-- a head and a greeting are held as texts, and frames by a framer
abbrev pub held_by : Stage → List ℕ → List ℕ → FramerState → List ℕ
held_by stage.Head head greeting framer = head
held_by stage.Greeting head greeting framer = greeting
held_by stage.Frames head greeting framer = framer.rest
held_by stage.PassedOver head greeting framer = framer.rest
held_by stage.Shut head greeting framer = framer.rest

-- no more bytes came than the head told
abbrev pub IsWithin : Option Body → Type 0
IsWithin None = Unit {0}
IsWithin (Some body) = body.came ≤ body.length

-- a text is not whole, and a framer found no fault
abbrev pub IsReady : Stage → List ℕ → List ℕ → FramerState → Type 0
IsReady stage.Head head greeting framer = IsOpen head × (length head < greatest_head)
IsReady stage.Greeting head greeting framer = length greeting < greeting_length
IsReady stage.Frames head greeting framer = framer.fault ≡ None
IsReady stage.PassedOver head greeting framer = Unit {0}
IsReady stage.Shut head greeting framer = Unit {0}

abbrev pub Keeps : Stage → List ℕ → List ℕ → FramerState → Option Body → Type 0
Keeps s head greeting framer body = IsReady s head greeting framer × IsWithin body

-- ---- texts

-- the piece is added to a text up to the byte that makes it whole; no front before was
abbrev pub Adds : (List ℕ → Bool) → List ℕ → List ℕ → List ℕ → Option ℕ → Type 0
Adds is_whole text piece new None =
    (new ≡ text ++ piece)
    × ((k : ℕ) → 0 < k → k ≤ length piece → is_whole (text ++ take k piece) ≡ false)
Adds is_whole text piece new (Some used) =
    (0 < used) × (used ≤ length piece) × (new ≡ text ++ take used piece)
    × (is_whole new ≡ true)
    × ((k : ℕ) → 0 < k → k < used → is_whole (text ++ take k piece) ≡ false)

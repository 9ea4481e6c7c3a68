-- bytes that make nothing whole, and the one that does
use Rattle.std.proofs.Common.{◌≡◌, ℕ, zero, suc, ◌+◌, ◌-◌, ◌≤◌, ◌<◌, List, [], ◌∷◌, ◌++◌, take, drop, length, get_or, Bool, true, false, cond, nat_lt, Some, None, arith, sym, ◌∙◌, ap, refl, subst, append_assoc}
use Rattle.std.proofs.lemmas.List.{append-nil, length-append, length-take-le, take-append-le, take-append-drop, drop_more, take_more, length-drop}
use Rattle.std.proofs.lemmas.Bool.Decides.{nat_tests}
use Rattle.std.specs.declared.option.Option.{Option}
use Rattle.rh_pdu.specs.Header.{frag_of, head_fault}
use Rattle.rh_pdu.specs.Frames.{IsFrame, IsUnfinished}
use Rattle.rh_pdu.proofs.Headers.{head_same, frag_same}
use Rattle.rh_shell.specs.declared.stage.Stage.{Stage}
use Rattle.rh_shell.specs.declared.stage.Stage.TheVariants as stage
use Rattle.rh_shell.specs.declared.stage.Body.{Body}
use Rattle.rh_shell.specs.Intakes.{Intake, Came, Nothing, Head, Greeting, Over, Scanned, counted, is_full, length_told, is_whole_head, is_whole_greeting, behind, text_by, frame_by, frame_byte, byte_by, on_byte, is_nothing, scan}
use Rattle.rh_shell.specs.Texts.{Adds, IsWithin}
use Rattle.rh_shell.specs.Keeping.{ReadsBody, room, overrun}

pub scan_end : (i : Intake) → scan i [] ≡ record { intake = i; came = Nothing; left = [] }
unfolding scan
scan_end i = refl

-- ---- one byte

pub scan_on : (i j : Intake) (b : ℕ) (bs : List ℕ) → on_byte i b ≡ (j, Nothing)
    → scan i (b ∷ bs) ≡ scan j bs
unfolding scan
scan_on i j b bs e = rw e refl

pub scan_stop : (i j : Intake) (came : Came) (b : ℕ) (bs : List ℕ) → on_byte i b ≡ (j, came)
    → is_nothing came ≡ false → scan i (b ∷ bs) ≡ record { intake = j; came = came; left = bs }
unfolding scan
scan_stop i j came b bs e h = rw (e, h) refl

-- ---- a text of either kind

abbrev pub holding : Intake → List ℕ → Intake
holding i held = record i { held = held }

module _ (s : Stage) (is_whole : List ℕ → Bool) (came : List ℕ → Came)
    (byte : (i : Intake) (b : ℕ) → i.stage ≡ s → on_byte i b
    ≡ text_by i (i.held ++ b ∷ []) (came (i.held ++ b ∷ [])) (is_whole (i.held ++ b ∷ [])))
    (some : (all : List ℕ) → is_nothing (came all) ≡ false) where
  text_on : (i : Intake) (b : ℕ) (bs : List ℕ) → i.stage ≡ s → is_whole (i.held ++ b ∷ []) ≡ false
      → scan i (b ∷ bs) ≡ scan (holding i (i.held ++ b ∷ [])) bs
  text_on i b bs st none =
      scan_on i (holding i (i.held ++ b ∷ [])) b bs
      (byte i b st ∙ ap (text_by i (i.held ++ b ∷ []) (came (i.held ++ b ∷ []))) none)

  pub text_none : (i : Intake) (piece : List ℕ) → i.stage ≡ s
      → ((k : ℕ) → 0 < k → k ≤ length piece → is_whole (i.held ++ take k piece) ≡ false)
      → scan i piece
      ≡ record { intake = holding i (i.held ++ piece); came = Nothing; left = [] }
  text_none i [] st h =
      scan_end i
      ∙ ap (λ (x : List ℕ). record { intake = holding i x; came = Nothing; left = [] })
      (sym (append-nil i.held))
  text_none i (b ∷ bs) st h =
      let held = i.held ++ b ∷ [] in
      text_on i b bs st (h 1 (omega arith) (omega arith))
      ∙ text_none (holding i held) bs st
      (λ k more le. ap is_whole (append_assoc i.held (b ∷ []) (take k bs)) ∙ h (suc k) (omega arith)
      (omega (arith, le)))
      ∙ ap (λ (x : List ℕ). record { intake = holding i x; came = Nothing; left = [] })
      (append_assoc i.held (b ∷ []) bs)

  text_whole : (i : Intake) (b : ℕ) (bs : List ℕ) → i.stage ≡ s → is_whole (i.held ++ b ∷ []) ≡ true
      → scan i (b ∷ bs)
      ≡ record { intake = behind i (i.held ++ b ∷ []); came = came (i.held ++ b ∷ []); left = bs }
  text_whole i b bs st whole =
      scan_stop i (behind i (i.held ++ b ∷ [])) (came (i.held ++ b ∷ [])) b bs
      (byte i b st ∙ ap (text_by i (i.held ++ b ∷ []) (came (i.held ++ b ∷ []))) whole)
      (some (i.held ++ b ∷ []))

  pub text_some : (i : Intake) (piece : List ℕ) (used : ℕ) → i.stage ≡ s → 0 < used → used ≤ length
      piece
      → is_whole (i.held ++ take used piece) ≡ true
      → ((k : ℕ) → 0 < k → k < used → is_whole (i.held ++ take k piece) ≡ false)
      → scan i piece
      ≡ record {
        intake = behind i (i.held ++ take used piece);
        came = came (i.held ++ take used
            piece);
        left = drop used piece;
      }
  text_some i piece zero st more le whole h = absurd (omega (arith, more))
  text_some i [] (suc n) st more le whole h = absurd (omega (arith, le))
  text_some i (b ∷ bs) (suc zero) st more le whole h = text_whole i b bs st whole
  text_some i (b ∷ bs) (suc (suc n)) st more le whole h =
      let held = i.held ++ b ∷ [] in
      let joined = append_assoc i.held (b ∷ []) (take (suc n) bs) in
      text_on i b bs st (h 1 (omega arith) (omega arith))
      ∙ text_some (holding i held) bs (suc n) st (omega arith) (omega (arith, le))
      (ap is_whole joined ∙ whole)
      (λ k some_more below. ap is_whole (append_assoc i.held (b ∷ []) (take k bs)) ∙ h (suc k)
      (omega arith) (omega (arith, below)))
      ∙ ap (λ (x : List ℕ). record { intake = behind i x; came = came x; left = drop (suc n) bs })
      joined

head_byte : (i : Intake) (b : ℕ) → i.stage ≡ stage.Head → on_byte i b
    ≡ text_by i (i.held ++ b ∷ []) (Head (i.held ++ b ∷ [])) (is_whole_head (i.held ++ b ∷ []))
unfolding on_byte
head_byte i b st = rw st refl

greeting_byte : (i : Intake) (b : ℕ) → i.stage ≡ stage.Greeting → on_byte i b
    ≡ text_by i (i.held ++ b ∷ []) (Greeting (i.held ++ b ∷ []))
    (is_whole_greeting (i.held ++ b ∷ []))
unfolding on_byte
greeting_byte i b st = rw st refl

-- what a piece makes of a text that it was added to
abbrev pub scanned_text : (List ℕ → Came) → Intake → List ℕ → List ℕ → Option ℕ → Scanned
scanned_text came i piece new None = record { intake = holding i new; came = Nothing; left = [] }
scanned_text came i piece new (Some used) =
    record { intake = behind i new; came = came new; left = drop used piece }

text_scanned : (s : Stage) (is_whole : List ℕ → Bool) (came : List ℕ → Came)
    → ((i : Intake) (b : ℕ) → i.stage ≡ s → on_byte i b
    ≡ text_by i (i.held ++ b ∷ []) (came (i.held ++ b ∷ [])) (is_whole (i.held ++ b ∷ [])))
    → ((all : List ℕ) → is_nothing (came all) ≡ false)
    → (i : Intake) (piece new : List ℕ) (used : Option ℕ) → i.stage ≡ s → Adds is_whole i.held piece
    new used
    → scanned_text came i piece new used ≡ scan i piece
text_scanned s is_whole came byte some i piece new None st adds =
    ap (λ (x : List ℕ). scanned_text came i piece x None) adds.0
    ∙ sym (text_none s is_whole came byte some i piece st adds.1)
text_scanned s is_whole came byte some i piece new (Some used) st adds =
    ap (λ (x : List ℕ). scanned_text came i piece x (Some used)) adds.2
    ∙ sym (text_some s is_whole came byte some i piece used st adds.0 adds.1
    (subst (λ (x : List ℕ). is_whole x ≡ true) adds.2 adds.3) adds.4)

pub head_scanned : (i : Intake) (piece new : List ℕ) (used : Option ℕ) → i.stage ≡ stage.Head
    → Adds is_whole_head i.held piece new used → scanned_text Head i piece new used ≡ scan i piece
head_scanned = text_scanned stage.Head is_whole_head Head head_byte (λ all. refl)

pub greeting_scanned : (i : Intake) (piece new : List ℕ) (used : Option ℕ) → i.stage ≡
    stage.Greeting
    → Adds is_whole_greeting i.held piece new used → scanned_text Greeting i piece new used ≡ scan i
    piece
greeting_scanned = text_scanned stage.Greeting is_whole_greeting Greeting greeting_byte
    (λ all. refl)

-- ---- nothing is read

shut_on : (i : Intake) (b : ℕ) → i.stage ≡ stage.Shut → on_byte i b ≡ (i, Nothing)
unfolding on_byte
shut_on i b st = rw st refl

pub shut_scanned : (i : Intake) (piece : List ℕ) → i.stage ≡ stage.Shut
    → record { intake = i; came = Nothing; left = [] } ≡ scan i piece
shut_scanned i [] st = sym (scan_end i)
shut_scanned i (b ∷ bs) st =
    shut_scanned i bs st ∙ sym (scan_on i i b bs (shut_on i b st))

-- ---- behind the body

abbrev over : Intake → Intake × Came
over i = (record i { stage = stage.Shut }, Over (length_told i.body))

over_by : (i : Intake) (s : Stage) (all : List ℕ) → ReadsBody s → is_full i.body ≡ true
    → byte_by s i all ≡ over i
over_by i stage.Frames all h full = rw full refl
over_by i stage.PassedOver all h full = rw full refl
over_by i s all h full = absurd h

over_on : (i : Intake) (b : ℕ) → ReadsBody i.stage → is_full i.body ≡ true → on_byte i b ≡ over i
unfolding on_byte
over_on i b reads full = over_by i i.stage (i.held ++ b ∷ []) reads full

abbrev pub scanned : Intake × Came × List ℕ → Scanned
scanned t = record { intake = t.0; came = t.1; left = t.2 }

pub overruns : (i : Intake) (beyond : List ℕ) → ReadsBody i.stage
    → (0 < length beyond → is_full i.body ≡ true) → scanned (overrun i beyond) ≡ scan i beyond
unfolding scan
overruns i [] reads full = refl
overruns i (b ∷ bs) reads full = rw (over_on i b reads (full (omega arith))) refl

-- ---- room for bytes of the body

abbrev pub Roomy : ℕ → Option Body → Type 0
Roomy n None = Unit {0}
Roomy n (Some body) = body.came + n ≤ body.length

not_full : (n : ℕ) (body : Option Body) → 0 < n → Roomy n body → is_full body ≡ false
not_full n None some r = refl
not_full n (Some body) some r = grind (arith, nat_tests)

pub roomy : (n : ℕ) (body : Option Body) → IsWithin body → Roomy (room n body) body
roomy n None w = tt
roomy n (Some body) w = omega arith

pub roomy_less : (m n : ℕ) (body : Option Body) → m ≤ n → Roomy n body → Roomy m body
roomy_less m n None le r = tt
roomy_less m n (Some body) le r = omega arith

roomy_more : (m n : ℕ) (body : Option Body) → Roomy (m + n) body → Roomy n (counted m body)
roomy_more m n None r = tt
roomy_more m n (Some body) r = omega arith

pub room_full : (n : ℕ) (body : Option Body) → IsWithin body → room n body < n
    → is_full (counted (room n body) body) ≡ true
room_full n None w less = absurd (omega arith)
room_full n (Some body) w less = grind (arith, nat_tests)

counted_none : (body : Option Body) → counted 0 body ≡ body
counted_none None = refl
counted_none (Some body) =
    ap (λ n. Some (record body { came = n })) {x = body.came + 0} {y = body.came} (omega arith)

pub counted_more : (m n k : ℕ) (body : Option Body) → m + n ≡ k
    → counted n (counted m body) ≡ counted k body
counted_more m n k None e = refl
counted_more m n k (Some body) e =
    ap (λ c. Some (record body { came = c })) {x = (body.came + m) + n} {y = body.came + k}
    (omega (arith, e))

pub room_within : (n : ℕ) (body : Option Body) → room n body ≤ n
room_within n None = omega arith
room_within n (Some body) = omega arith

-- ---- bytes of an unfinished frame

-- the intake with so many bytes held, and as many counted
abbrev pub keeping : Intake → List ℕ → Option Body → Intake
keeping i held body = record i { held = held; body = body }

abbrev more : Intake → List ℕ → Intake
more i xs = keeping i (i.held ++ xs) (counted (length xs) i.body)

kept_same : (i : Intake) (h k : List ℕ) (b c : Option Body) → h ≡ k → b ≡ c
    → keeping i h b ≡ keeping i k c
kept_same i h k b c e f = ap (λ x. keeping i x b) e ∙ ap (λ x. keeping i k x) f

-- what is unfinished was unfinished
unfinished_front : (xs ys : List ℕ) → IsUnfinished (xs ++ ys) → IsUnfinished xs
unfinished_front xs ys u = λ long.
    let all = xs ++ ys in
    let size = length-append xs ys in
    let h = u (omega (arith, size)) in
    let same = take-append-le 16 xs ys long in
    let frag = frag_same all xs same in
    (sym (head_same all xs same) ∙ h.0, omega (arith, size, frag, h.1))

-- what is less than a frame is unfinished
pub unfinished_within : (xs ys : List ℕ) → IsFrame (xs ++ ys) → 0 < length ys → IsUnfinished xs
unfinished_within xs ys f some = λ long.
    let all = xs ++ ys in
    let size = length-append xs ys in
    let same = take-append-le 16 xs ys long in
    let frag = frag_same all xs same in
    (sym (head_same all xs same) ∙ f.head, omega (arith, size, frag, f.whole))

held_on : (i : Intake) (all : List ℕ) → IsUnfinished all
    → frame_byte i all ≡ (holding i all, Nothing)
held_on i all u =
    elim (nat_lt (length all) 16) as (λ t. nat_lt (length all) 16 ≡ t
    → cond t (holding i all, Nothing) (frame_by i all (head_fault all)) ≡
    (holding i all, Nothing)) [
      | true ↦ λ _. refl
      | false ↦ λ e.
          let long : 16 ≤ length all = grind (arith, nat_tests) in
          let h = u long in
          let less : nat_lt (length all) (frag_of all) ≡ true = grind (arith, nat_tests, h.1) in
          rw (h.0, less) refl
    ] refl

frame_on : (i : Intake) (b : ℕ) → i.stage ≡ stage.Frames → is_full i.body ≡ false
    → on_byte i b ≡ frame_byte (record i { body = counted 1 i.body }) (i.held ++ b ∷ [])
unfolding on_byte
frame_on i b st o = rw (st, o) refl

pub skip : (i : Intake) (xs ys : List ℕ) → i.stage ≡ stage.Frames → IsUnfinished (i.held ++ xs)
    → Roomy (length xs) i.body → scan i (xs ++ ys) ≡ scan (more i xs) ys
skip i [] ys st u r =
    ap (λ j. scan j ys) {x = keeping i i.held i.body}
    (kept_same i i.held (i.held ++ []) i.body (counted 0 i.body) (sym (append-nil i.held))
    (sym (counted_none i.body)))
skip i (x ∷ xs) ys st u r =
    let held = i.held ++ x ∷ [] in
    let same : held ++ xs ≡ i.held ++ x ∷ xs = append_assoc i.held (x ∷ []) xs in
    let all : IsUnfinished (held ++ xs) = subst (λ (h : List ℕ). IsUnfinished h) (sym same) u in
    let sum : 1 + length xs ≡ length (x ∷ xs) = omega arith in
    let space = subst (λ n. Roomy n i.body) (sym sum) r in
    let o = not_full (length (x ∷ xs)) i.body (omega arith) r in
    let j = keeping i held (counted 1 i.body) in
    let on : on_byte i x ≡ (j, Nothing) =
    frame_on i x st o
    ∙ held_on (record i { body = counted 1 i.body }) held (unfinished_front held xs all) in
    scan_on i j x (xs ++ ys) on
    ∙ skip j xs ys st all (roomy_more 1 (length xs) i.body space)
    ∙ ap (λ k. scan k ys)
    (kept_same i (held ++ xs) (i.held ++ x ∷ xs) (counted (length xs) (counted 1 i.body))
    (counted (length (x ∷ xs)) i.body) same (counted_more 1 (length xs) (length (x ∷ xs)) i.body
    sum))

-- ---- the byte that makes a frame whole, or its header

-- the last of the first n bytes
pub last_apart : (piece : List ℕ) (m n : ℕ) → m + 1 ≡ n → n ≤ length piece
    → (take n piece ≡ take m piece ++ get_or piece m 0 ∷ [])
    × (piece ≡ take m piece ++ get_or piece m 0 ∷ drop n piece)
last_apart piece m n e le = (
  ap (λ k. take k piece) (sym e) ∙ take_more piece m 0 (omega arith),
  sym (take-append-drop m piece)
      ∙ ap (λ xs. take m piece ++ xs)
      (drop_more piece m 0 (omega arith) ∙ ap (λ k. get_or piece m 0 ∷ drop k piece) e),
)

pub stops_at : (i : Intake) (piece : List ℕ) (n : ℕ) (j : Intake) (came : Came)
    → i.stage ≡ stage.Frames → 0 < n → n ≤ length piece → Roomy n i.body
    → ((m : ℕ) → m + 1 ≡ n → IsUnfinished (i.held ++ take m piece))
    → frame_byte (record i { body = counted n i.body }) (i.held ++ take n piece) ≡ (j, came)
    → is_nothing came ≡ false
    → record { intake = j; came = came; left = drop n piece } ≡ scan i piece
stops_at i piece n j came st some le r u e stop =
    let m = n - 1 in
    let one : m + 1 ≡ n = omega arith in
    let x = get_or piece m 0 in
    let apart = last_apart piece m n one le in
    let front = take m piece in
    let size : length front ≡ m = length-take-le m piece (omega arith) in
    let k = more i front in
    let space : Roomy 1 k.body =
    roomy_more (length front) 1 i.body (roomy_less (length front + 1) n i.body (omega arith) r) in
    let o = not_full 1 k.body (omega arith) space in
    let sum = counted_more (length front) 1 n i.body (omega arith) in
    let held : k.held ++ x ∷ [] ≡ i.held ++ take n piece =
    append_assoc i.held front (x ∷ []) ∙ ap (λ xs. i.held ++ xs) (sym apart.0) in
    let on : on_byte k x ≡ (j, came) =
    frame_on k x st o
    ∙ ap (λ b. frame_byte (keeping i k.held b) (k.held ++ x ∷ [])) sum
    ∙ ap (λ h. frame_byte (keeping i k.held (counted n i.body)) h) held
    ∙ e in
    sym (ap (scan i) apart.1
    ∙ skip i front (x ∷ drop n piece) st (u m one) (roomy_less (length front) n i.body (omega arith)
    r)
    ∙ scan_stop k j came x (drop n piece) on stop)

-- ---- bytes that are passed over

passed_on : (i : Intake) (b : ℕ) → i.stage ≡ stage.PassedOver → is_full i.body ≡ false
    → on_byte i b ≡ (record i { body = counted 1 i.body }, Nothing)
unfolding on_byte
passed_on i b st o = rw (st, o) refl

skip_passed : (i : Intake) (xs ys : List ℕ) → i.stage ≡ stage.PassedOver → Roomy (length xs) i.body
    → scan i (xs ++ ys) ≡ scan (record i { body = counted (length xs) i.body }) ys
skip_passed i [] ys st r =
    ap (λ b. scan (record i { body = b }) ys) {x = i.body} {y = counted 0 i.body}
    (sym (counted_none i.body))
skip_passed i (x ∷ xs) ys st r =
    let sum : 1 + length xs ≡ length (x ∷ xs) = omega arith in
    let space = subst (λ n. Roomy n i.body) (sym sum) r in
    let o = not_full (length (x ∷ xs)) i.body (omega arith) r in
    let j = record i { body = counted 1 i.body } in
    scan_on i j x (xs ++ ys) (passed_on i x st o)
    ∙ skip_passed j xs ys st (roomy_more 1 (length xs) i.body space)
    ∙ ap (λ b. scan (record i { body = b }) ys)
    (counted_more 1 (length xs) (length (x ∷ xs)) i.body sum)

pub passed_scanned : (i : Intake) (piece : List ℕ) (n : ℕ) → i.stage ≡ stage.PassedOver
    → IsWithin i.body → n ≡ room (length piece) i.body
    → scanned (overrun (record i { body = counted n i.body }) (drop n piece)) ≡ scan i piece
passed_scanned i piece n st w e =
    let front = take n piece in
    let within : n ≤ length piece = omega (arith, room_within (length piece) i.body) in
    let size : length front ≡ n = length-take-le n piece within in
    let r : Roomy n i.body = subst (λ m. Roomy m i.body) (sym e) (roomy (length piece) i.body w) in
    let j = record i { body = counted n i.body } in
    let sizes : length (drop n piece) ≡ length piece - n = omega (arith, length-drop n piece) in
    overruns j (drop n piece) (rw st tt)
    (λ some. rw e (room_full (length piece) i.body w (omega (arith, sizes, some, e))))
    ∙ sym (ap (scan i) (sym (take-append-drop n piece))
    ∙ skip_passed i front (drop n piece) st (subst (λ m. Roomy m i.body) (sym size) r)
    ∙ ap (λ m. scan (record i { body = counted m i.body }) (drop n piece)) size)

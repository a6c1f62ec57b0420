-- A script is made record by record.
use Prim.Native.Nat.{ℕ, zero, suc, ◌-◌, ◌≤◌, ◌<◌}
use native.Mathlib.Omega.{arith}
use mathlib.Core.Path.{◌≡◌, refl, ◌∙◌, sym, ap}
use mathlib.Core.List.{List, [], ◌∷◌}
use lib.ListN.{length, take, drop, length-drop}
use lib.Seq.{take_all}
use Rattle.std.specs.Prelude.{Ok, Err}
use Rattle.checks.specs.declared.Refusal.{Refusal}
use Rattle.state.specs.declared.Step.{Step}
use Rattle.record.specs.Read.{Reading, reading_of}
use Rattle.record.proofs.Accepted.{used_bounds}
use Rattle.rehearsal.specs.Script.{Between, Unread, Script, ended, before, read_on, script_in, script}

-- a part of a slice that goes to its end
pub to_end : (l : List ℕ) (at : ℕ) → take (length l - at) (drop at l) ≡ drop at l
to_end l at = take_all (length l - at) (drop at l) (omega (arith, length-drop at l))

-- what is behind a record is shorter by two bytes at least
shorter : (b : ℕ) (bs : List ℕ) {st : Step} {used : ℕ} → reading_of (b ∷ bs) ≡ Ok (st, used) → length (drop used (b ∷ bs)) ≤ length bs
shorter b bs {st} {used} e =
    let u = used_bounds (b ∷ bs) e in
    omega (arith, length-drop used (b ∷ bs), u.least)

-- two ways to go on that agree behind the record that was read
same_on
    : (r : Reading) (f g : ℕ → Script) → ((st : Step) (used : ℕ) → r ≡ Ok (st, used) → f used ≡ g used) → read_on r f ≡ read_on r g
unfolding read_on
same_on (Ok (st, used)) f g h = ap (before st) (h st used refl)
same_on (Err n) f g h = refl

-- any bound that is at least the number of bytes gives the same script
enough : (j k : ℕ) (bytes : List ℕ) → length bytes ≤ j → length bytes ≤ k → script_in j bytes ≡ script_in k bytes
unfolding script_in
enough zero zero bytes p q = refl
enough zero (suc k) [] p q = refl
enough zero (suc k) (b ∷ bs) p q = let no : ⊥ = omega arith in absurd no
enough (suc j) zero [] p q = refl
enough (suc j) zero (b ∷ bs) p q = let no : ⊥ = omega arith in absurd no
enough (suc j) (suc k) [] p q = refl
enough (suc j) (suc k) (b ∷ bs) p q =
    same_on (reading_of (b ∷ bs)) (λ used. script_in j (drop used (b ∷ bs))) (λ used. script_in k (drop used (b ∷ bs)))
    (λ st used e.
    let s = shorter b bs e in
    enough j k (drop used (b ∷ bs)) (omega arith) (omega arith))

-- no byte, a record that was read, and one that can't be read
pub script_none : script [] ≡ ended Between
unfolding script script_in
script_none = refl

pub script_empty : (bytes : List ℕ) → length bytes ≡ 0 → script bytes ≡ ended Between
script_empty [] h = script_none
script_empty (b ∷ bs) h = let no : ⊥ = omega arith in absurd no

pub script_more
    : (bytes : List ℕ) {st : Step} {used : ℕ} → 0 < length bytes → reading_of bytes ≡ Ok (st, used)
    → script bytes ≡ before st (script (drop used bytes))
unfolding script script_in read_on
script_more [] h e = let no : ⊥ = omega arith in absurd no
script_more (b ∷ bs) {st} {used} h e =
    let s = shorter b bs e in
    ap (λ (r : Reading). read_on r (λ n. script_in (length bs) (drop n (b ∷ bs)))) e
    ∙ ap (before st) (enough (length bs) (length (drop used (b ∷ bs))) (drop used (b ∷ bs)) s (omega arith))

-- the script behind a record that was read, as the code cuts it off
pub script_behind
    : (bytes : List ℕ) {st : Step} {used : ℕ} → 0 < length bytes → reading_of bytes ≡ Ok (st, used)
    → script bytes ≡ before st (script (take (length bytes - used) (drop used bytes)))
script_behind bytes {st} {used} h e = script_more bytes h e ∙ ap (λ (l : List ℕ). before st (script l)) (sym (to_end bytes used))

pub script_stop
    : (bytes : List ℕ) {n : Refusal} → 0 < length bytes → reading_of bytes ≡ Err n → script bytes ≡ ended (Unread n)
unfolding script script_in read_on
script_stop [] h e = let no : ⊥ = omega arith in absurd no
script_stop (b ∷ bs) h e = ap (λ (r : Reading). read_on r (λ n. script_in (length bs) (drop n (b ∷ bs)))) e
